-- What a writer has between its steps, against the view of its seat.
use Rattle.std.specs.Prelude.{◌≡◌, ℕ, ◌+◌, ◌≤◌, Bool, true, false, not, ◌&&◌, nat_le, nat_lt, List, [], ◌∷◌, ◌++◌, length, reverse, vec_len}
use Rattle.trace_base.specs.declared.limits.TheConstants.{MAX_FRAGMENTS, MAX_OPEN_HOLES}
use Rattle.trace_model.specs.Packets.{Packet, Account}
use Rattle.trace_model.specs.Pages.{Page}
use Rattle.trace_base.specs.declared.policy.WriterPolicy.TheVariants.{Stalls}
use Rattle.trace_model.specs.Cut.{CutsInto, last_runs_on, newest_goes_on, is_fresh}
use Rattle.commit_body.specs.Patches.{holes_outside}
use Rattle.commit_body.specs.Pending.{Pending}
use Rattle.chunk_plain.specs.Setup.{spot}
use Rattle.chunk_plain.specs.Views.{Draft, BegunChunk, Held, WriterView}
use Rattle.cut_steps.specs.RawChains.{raw_chains, page_with, offset_behind}
use Rattle.cut_steps.specs.Writing.{IsWriting}
use Rattle.cut_steps.specs.Between.{IsBetween}
use Rattle.trace_writer.specs.declared.chunk.HeldChunk.{HeldChunk}
use Rattle.trace_writer.specs.declared.fragment.OpenFragment.{OpenFragment}
use Rattle.trace_writer.specs.Site.{Site}
use Rattle.trace_writer.specs.Filled.{frames, IsFilled, HasOpenFragment, ShowsPages}
use Rattle.trace_writer.specs.Drafted.{IsDrafted}

-- The packet is written into the fragment, behind these; further lengths may come at the places in `coming`.
pub record InFragment (site : Site) (packet : Packet) (older : List Packet) (view : WriterView) (pending : Pending) (fragment : OpenFragment) (coming : List ℕ) : Type 0 where
  pub pages : List Page
  pub done : List (List ℕ)
  pub now : List ℕ
  pub completed : List BegunChunk
  pub draft : Draft
  pub begun : view.begun ≡ completed ++ Held fragment.held.chunk draft ∷ []
  pub drafted : IsDrafted draft fragment.count fragment.continues done
  pub shown : ShowsPages site 0 completed pages
  pub position : fragment.held.position ≡ length pages
  pub sized : (spot site.setup fragment.held.chunk).payload_size ≡ site.size
  pub whole : vec_len fragment.held.body.payload ≡ site.size
  pub written : HasOpenFragment fragment.held.body.payload.items fragment.start fragment.at fragment.count done now
  pub few : length pending.holes ≤ MAX_OPEN_HOLES
  pub room : length pending.unsent + holes_outside fragment.held.position pending.holes ≤ MAX_OPEN_HOLES
  pub writing : IsWriting site.size packet older pages fragment.continues done now pending.unsent (reverse pending.holes) coming

-- No chunk is held, and no packet is written: all that was kept stands in completed chunks.
pub record IsIdle (site : Site) (account : Account) (view : WriterView) (pending : Pending) : Type 0 where
  pub pages : List Page
  pub shown : ShowsPages site 0 view.begun pages
  pub holes : pending.holes ≡ []
  pub unsent : pending.unsent ≡ []
  pub ended : last_runs_on false pages ≡ false
  pub between : IsBetween site.size account.packets pages (raw_chains pages) [] 4
  pub fresh : is_fresh site.size account.flushed account.packets (raw_chains pages) ≡ true

-- a packet can begin in the held chunk
abbrev pub has_room : ℕ → HeldChunk → Bool
has_room size chunk = nat_le (chunk.at + 12) size && nat_lt chunk.count MAX_FRAGMENTS

-- A chunk is held, and no packet is written.
pub record IsBehind (site : Site) (account : Account) (view : WriterView) (pending : Pending) (chunk : HeldChunk) : Type 0 where
  pub pages : List Page
  pub first : List ℕ
  pub others : List (List ℕ)
  pub completed : List BegunChunk
  pub draft : Draft
  pub begun : view.begun ≡ completed ++ Held chunk.held.chunk draft ∷ []
  -- all its fragments but the last one were published
  pub before : List (List ℕ)
  pub last : List ℕ
  pub parts : first ∷ others ≡ before ++ last ∷ []
  pub sealed : chunk.sealed ≡ length (frames before)
  pub drafted : IsDrafted draft chunk.count chunk.continues before
  pub shown : ShowsPages site 0 completed pages
  pub position : chunk.held.position ≡ length pages
  pub sized : (spot site.setup chunk.held.chunk).payload_size ≡ site.size
  pub whole : vec_len chunk.held.body.payload ≡ site.size
  pub filled : IsFilled chunk.held.body.payload.items chunk.at chunk.count (first ∷ others)
  pub holes : pending.holes ≡ []
  pub few : length pending.unsent ≤ MAX_OPEN_HOLES
  pub continues_is : chunk.continues ≡ last_runs_on false pages
  pub between : IsBetween site.size account.packets pages (raw_chains (pages ++ page_with chunk.continues (first ∷ others) ∷ [])) pending.unsent (offset_behind 4 (first ∷ others))
  pub fresh : is_fresh site.size account.flushed account.packets (raw_chains (pages ++ page_with chunk.continues (first ∷ others) ∷ [])) ≡ not (has_room site.size chunk)

-- A writer that stalls has no chunk for its newest packet, or for the next one. Its completed chunks are a cut of its packets,
-- and the last of them runs on exactly where the newest packet goes on.
pub record IsStuck (site : Site) (packets : List Packet) (view : WriterView) : Type 0 where
  pub stalls : site.policy ≡ Stalls
  pub pages : List Page
  pub shown : ShowsPages site 0 view.begun pages
  pub cut : CutsInto site.size packets pages
  pub runs : last_runs_on false pages ≡ newest_goes_on packets
