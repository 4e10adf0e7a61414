-- What a writer's pages and packets are while a packet is given up: its holes are closed with 0, one after another.
use Rattle.std.specs.Prelude.{◌≡◌, ℕ, ◌+◌, ◌<◌, ◌≤◌, ◌⊎◌, ⊤, not, ◌==◌, Bool, true, false, IsTrue, List, [], ◌∷◌, ◌++◌, length, map, filter, All}
use Rattle.std.specs.List.{AllZip, list_all}
use Rattle.wire_varint.specs.Varint.{redundant}
use Rattle.trace_model.specs.Images.{Patch}
use Rattle.trace_model.specs.Packets.{Packet, Text, flat, open_length, open_places, kept_of}
use Rattle.trace_model.specs.Pages.{Page}
use Rattle.trace_model.specs.Row.{Piece}
use Rattle.trace_model.specs.Sent.{SentPatch, all_sent, sent_at_drop, chunk_at, last_chunk, open_in, is_in_one}
use Rattle.trace_model.specs.Cut.{IsWellFormedPage, FlagsAgree, last_runs_on, length_places, all_end_well, all_go_on, begins_well, all_begin_well}
use Rattle.commit_body.specs.declared.hole.Hole.{Hole}
use Rattle.commit_body.specs.Patches.{hole_chunks}
use Rattle.cut_steps.specs.RawChains.{earlier_pieces, chains_before, current_piece, current_pieces, current_chain}
use Rattle.cut_steps.specs.RawCut.{IsRawChainOf}
use Rattle.cut_steps.specs.Pieces.{IsLarge, BeginsAt, ChainsEndBefore, AllRunOn}
use Rattle.cut_steps.specs.Pending.{HasSent, sent_now, hole_at, patches_so_far, AllEndWithin, AllHaveFour}
use Rattle.cut_steps.specs.Growth.{HasBytes}

-- the length at this place stands in an earlier chunk than the last one
abbrev pub is_earlier : List Piece → ℕ → Bool
is_earlier pieces at = not (chunk_at pieces at == last_chunk pieces)

-- the patches that give 0 for the lengths at these places
abbrev pub zero_patches : List Piece → List ℕ → List SentPatch
zero_patches pieces places = map (sent_at_drop pieces) (filter (is_earlier pieces) places)

-- each of these lengths stands inside so many bytes, or behind them
abbrev pub AllClearOf : ℕ → List ℕ → Type 0
AllClearOf count [] = ⊤
AllClearOf count (at ∷ places) = ((at + 4 ≤ count) ⊎ (count ≤ at)) × AllClearOf count places

-- The packet, of which `text` was to be written, is being given up: these levels are still open, those inside them were
-- closed with 0, and `extra` are the patches of these.
pub record IsGivingUp (size : ℕ) (packet : Packet) (older : List Packet) (pages : List Page) (continues : Bool) (done : List (List ℕ))
    (now : List ℕ) (unsent : List Patch) (holes : List Hole) (text : Text) (level : List ℕ) (outer : List (List ℕ)) : Type 0 where
  pub extra : List SentPatch
  pub lost : List ℕ
  pub kept : packet.kept ≡ true
  pub first : ℕ
  pub first_offset : ℕ
  pub begins_at : BeginsAt first first_offset (current_pieces pages continues done now)
  pub bytes : HasBytes (patches_so_far pages holes unsent) first (earlier_pieces pages continues done) (current_piece pages done now) (level ∷ outer)
  pub earlier_run_on : AllRunOn pages (earlier_pieces pages continues done)
  pub sends : HasSent pages ((all_sent (kept_of older) (chains_before pages continues done) ++ sent_now (current_pieces pages continues done now) text.closed) ++ extra)
      unsent (hole_chunks holes)
  pub holes_are : holes ≡ map (hole_at (current_pieces pages continues done now)) (open_places (level ∷ outer))
  pub extra_is : extra ++ zero_patches (current_pieces pages continues done now) (open_places (level ∷ outer))
      ≡ zero_patches (current_pieces pages continues done now) (open_in (current_pieces pages continues done now) text)
  pub closed_in : AllEndWithin (length (flat open_length (level ∷ outer))) text.closed
  pub clear : AllClearOf (length (flat open_length (level ∷ outer))) (open_places text.levels)
  pub zeros_are : flat (redundant 0) text.levels ≡ flat (redundant 0) (level ∷ outer) ++ lost
  pub proper : 0 < length lost
  pub ends : IsTrue (all_end_well size (length_places text) 0 (earlier_pieces pages continues done))
  pub four : AllHaveFour (patches_so_far pages holes unsent)
  pub begins : IsTrue (begins_well size packet older (current_chain pages continues done now ∷ chains_before pages continues done))
  pub older_chains : AllZip (IsRawChainOf size (patches_so_far pages holes unsent)) (kept_of older) (chains_before pages continues done)
  pub older_begin : IsTrue (all_begin_well size older (chains_before pages continues done))
  pub older_end : ChainsEndBefore first first_offset (chains_before pages continues done)
  pub goes_on : IsTrue (all_go_on (earlier_pieces pages continues done))
  pub lengths : IsTrue (list_all (is_in_one (current_pieces pages continues done now)) (open_in (current_pieces pages continues done now) text))
  pub large : IsLarge size
  pub full : All (IsWellFormedPage size) pages
  pub flags : FlagsAgree false pages
  pub continues_is : continues ≡ last_runs_on false pages

-- some of its levels are still open
pub record GivesUp (size : ℕ) (packet : Packet) (older : List Packet) (pages : List Page) (continues : Bool) (done : List (List ℕ))
    (now : List ℕ) (unsent : List Patch) (holes : List Hole) (text : Text) : Type 0 where
  pub level : List ℕ
  pub outer : List (List ℕ)
  pub giving : IsGivingUp size packet older pages continues done now unsent holes text level outer
