-- What the layer above may cite of all this: from each state of a writer its pages are a cut of its packets; and a writer
-- that stalled leaves a last page that runs on exactly where its newest packet goes on.
use Rattle.std.specs.Prelude.{◌≡◌, ℕ, true, false, List, [], ◌∷◌, ◌++◌}
use Rattle.trace_model.specs.Images.{Patch}
use Rattle.trace_model.specs.Packets.{Packet, is_writing}
use Rattle.trace_model.specs.Pages.{Page}
use Rattle.trace_model.specs.Cut.{IsWellFormedPage, CutsInto, last_runs_on, newest_goes_on}
use Rattle.commit_body.specs.declared.hole.Hole.{Hole}
use Rattle.commit_body.specs.Patches.{hole_chunks, with_lasts}
use Rattle.cut_steps.specs.RawChains.{raw_chains}
use Rattle.cut_steps.specs.Pieces.{ContinuesWithByte}
use Rattle.cut_steps.specs.Writing.{IsWriting}
use Rattle.cut_steps.specs.Between.{IsBetween}
use Rattle.cut_steps.specs.GoesOn.{GoesOn}

-- the held chunk as a page: its patches are those that weren't sent yet
pub record IsHeldPage (size : ℕ) (page : Page) (fragments : List (List ℕ)) (holes : List Hole) (unsent : List Patch) : Type 0 where
  pub holds : page.fragments ≡ fragments
  pub stays : page.runs_on ≡ false
  pub unmarked : page.dropped ≡ false
  pub settled : page.awaits ≡ false
  pub brings : page.patches ≡ with_lasts (hole_chunks holes) unsent
  pub full : IsWellFormedPage size page

-- From each state of a writer its pages are a cut of its packets.
pub record StatesAreCuts : Type 0 where
  -- no chunk is held
  pub idle : (size : ℕ) (packets : List Packet) (pages : List Page) (offset : ℕ) → IsBetween size packets pages (raw_chains pages) [] offset
      → last_runs_on false pages ≡ false → CutsInto size packets pages
  -- a chunk is held between two packets
  pub between : (size : ℕ) (packets : List Packet) (pages : List Page) (page : Page) (unsent : List Patch) (offset : ℕ)
      → IsBetween size packets pages (raw_chains (pages ++ page ∷ [])) unsent offset → page.continues ≡ last_runs_on false pages
      → IsHeldPage size page page.fragments [] unsent → CutsInto size packets (pages ++ page ∷ [])
  -- a packet is written into the held chunk
  pub writing : (size : ℕ) (packet : Packet) (older : List Packet) (pages : List Page) (page : Page) (done : List (List ℕ)) (now : List ℕ)
      (unsent : List Patch) (holes : List Hole) → IsWriting size packet older pages page.continues done now unsent holes []
      → ContinuesWithByte page.continues done now → IsHeldPage size page (done ++ now ∷ []) holes unsent
      → CutsInto size (packet ∷ older) (pages ++ page ∷ [])
  -- its writer has no chunk to go on in
  pub stalled : (size : ℕ) (packet later : Packet) (older : List Packet) (pages : List Page) (holes : List Hole) (coming : List ℕ)
      → IsWriting size packet older pages true [] [] [] holes coming → GoesOn packet later coming
      → CutsInto size (later ∷ older) pages × (last_runs_on false pages ≡ newest_goes_on (later ∷ older))
  -- nor one to begin a packet in
  pub stalled_between : (packets : List Packet) (pages : List Page) → is_writing packets ≡ false → last_runs_on false pages ≡ false
      → last_runs_on false pages ≡ newest_goes_on packets
