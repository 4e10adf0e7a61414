-- What a writer's pages and packets are while a packet is written.
use Rattle.std.specs.Prelude.{◌≡◌, ℕ, Bool, true, false, IsTrue, List, [], ◌∷◌, ◌++◌, length, map, None, All}
use Rattle.std.specs.List.{AllZip}
use Rattle.trace_model.specs.Images.{Patch}
use Rattle.trace_model.specs.Packets.{Packet, flat, open_length, open_places, kept_of}
use Rattle.trace_model.specs.Pages.{Page}
use Rattle.trace_model.specs.Sent.{all_sent}
use Rattle.trace_model.specs.Cut.{IsWellFormedPage, FlagsAgree, last_runs_on, length_places, all_end_well, all_go_on, begins_well, all_begin_well}
use Rattle.commit_body.specs.declared.hole.Hole.{Hole}
use Rattle.commit_body.specs.Patches.{hole_chunks}
use Rattle.cut_steps.specs.RawChains.{earlier_pieces, chains_before, current_piece, current_pieces, current_chain}
use Rattle.cut_steps.specs.RawCut.{IsRawChainOf}
use Rattle.cut_steps.specs.Pieces.{IsLarge, BeginsAt, ChainsEndBefore, AllRunOn}
use Rattle.cut_steps.specs.Pending.{HasSent, sent_now, hole_at, patches_so_far, AllEndWithin, AllHaveFour}
use Rattle.cut_steps.specs.Growth.{HasBytes}

-- the packet with one more open message
abbrev pub with_open : Packet → Packet
with_open packet = record packet { text = record packet.text { levels = [] ∷ packet.text.levels } }

-- The packet is written with these bytes so far in the held chunk, behind these pages and fragments; these patches are not
-- sent, and these holes are open, the inner ones first. Further lengths may come at the places in `coming`.
pub record IsWriting (size : ℕ) (packet : Packet) (older : List Packet) (pages : List Page) (continues : Bool) (done : List (List ℕ))
    (now : List ℕ) (unsent : List Patch) (holes : List Hole) (coming : List ℕ) : Type 0 where
  pub kept : packet.kept ≡ true
  pub given_up : packet.given_up ≡ None
  pub finished : packet.finished ≡ false
  pub level : List ℕ
  pub outer : List (List ℕ)
  pub levels : packet.text.levels ≡ level ∷ outer
  pub first : ℕ
  pub first_offset : ℕ
  pub begins_at : BeginsAt first first_offset (current_pieces pages continues done now)
  pub bytes : HasBytes (patches_so_far pages holes unsent) first (earlier_pieces pages continues done) (current_piece pages done now) (level ∷ outer)
  pub earlier_run_on : AllRunOn pages (earlier_pieces pages continues done)
  pub sends : HasSent pages (all_sent (kept_of older) (chains_before pages continues done) ++ sent_now (current_pieces pages continues done now) packet.text.closed)
      unsent (hole_chunks holes)
  pub holes_are : holes ≡ map (hole_at (current_pieces pages continues done now)) (open_places (level ∷ outer))
  pub closed_in : AllEndWithin (length (flat open_length (level ∷ outer))) packet.text.closed
  pub ends : IsTrue (all_end_well size (coming ++ length_places packet.text) 0 (earlier_pieces pages continues done))
  pub four : AllHaveFour (patches_so_far pages holes unsent)
  pub begins : IsTrue (begins_well size packet older (current_chain pages continues done now ∷ chains_before pages continues done))
  pub older_chains : AllZip (IsRawChainOf size (patches_so_far pages holes unsent)) (kept_of older) (chains_before pages continues done)
  pub older_begin : IsTrue (all_begin_well size older (chains_before pages continues done))
  pub older_end : ChainsEndBefore first first_offset (chains_before pages continues done)
  pub goes_on : IsTrue (all_go_on (earlier_pieces pages continues done))
  pub large : IsLarge size
  pub full : All (IsWellFormedPage size) pages
  pub flags : FlagsAgree false pages
  pub continues_is : continues ≡ last_runs_on false pages
