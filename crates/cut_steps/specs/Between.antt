-- What a writer's pages and packets are between two packets.
use Rattle.std.specs.Prelude.{◌≡◌, ℕ, IsTrue, false, List, [], length, All}
use Rattle.std.specs.List.{AllZip}
use Rattle.trace_model.specs.Images.{Patch}
use Rattle.trace_model.specs.Packets.{Packet, kept_of}
use Rattle.trace_model.specs.Pages.{Page}
use Rattle.trace_model.specs.Row.{Chain}
use Rattle.trace_model.specs.Sent.{all_sent, open_chunks}
use Rattle.trace_model.specs.Cut.{IsWellFormedPage, FlagsAgree, all_begin_well}
use Rattle.cut_steps.specs.RawCut.{IsRawChainOf}
use Rattle.cut_steps.specs.Pieces.{IsLarge, ChainsEndBefore}
use Rattle.cut_steps.specs.Pending.{HasSent, patches_so_far, AllHaveFour}

-- These pages are completed; these chains are there, those of the held chunk among them; these patches are not sent; and
-- the next fragment of the next page would begin at this place.
pub record IsBetween (size : ℕ) (packets : List Packet) (pages : List Page) (chains : List Chain) (unsent : List Patch) (offset : ℕ) : Type 0 where
  pub chains_are : AllZip (IsRawChainOf size (patches_so_far pages [] unsent)) (kept_of packets) chains
  pub begins : IsTrue (all_begin_well size packets chains)
  pub sends : HasSent pages (all_sent (kept_of packets) chains) unsent []
  -- the newest packet left no length open
  pub none_open : open_chunks (kept_of packets) chains ≡ []
  pub four : AllHaveFour (patches_so_far pages [] unsent)
  pub ends : ChainsEndBefore (length pages) offset chains
  pub large : IsLarge size
  pub full : All (IsWellFormedPage size) pages
  pub flags : FlagsAgree false pages
