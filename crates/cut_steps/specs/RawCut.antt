-- The relation between pages and packets, said of the chains before any patch is put in. It is what a writer keeps from
-- step to step, since a patch then changes no chain.
use Rattle.std.specs.Prelude.{◌≡◌, ℕ, true, false, IsTrue, List, map, All, is_some}
use Rattle.std.specs.List.{AllZip, list_all}
use Rattle.trace_model.specs.Images.{Patch}
use Rattle.trace_model.specs.Packets.{Packet, kept_of}
use Rattle.trace_model.specs.Pages.{Page, patches_of}
use Rattle.trace_model.specs.Row.{Chain, bytes_of}
use Rattle.trace_model.specs.Sent.{text_of, open_in, is_in_one}
use Rattle.trace_model.specs.Cut.{IsWellFormedPage, FlagsAgree, last_runs_on, newest_goes_on, AreBytesOf, length_places, all_end_well, all_go_on, is_marked_fate, all_begin_well, PatchesAgree}
use Rattle.cut_steps.specs.RawChains.{raw_chains, settled_piece}

-- The chain, once these patches are put in, is what was written of the packet.
pub record IsRawChainOf (size : ℕ) (patches : List Patch) (packet : Packet) (chain : Chain) : Type 0 where
  pub marked : is_marked_fate chain.fate ≡ is_some packet.given_up
  pub bytes : AreBytesOf packet (bytes_of (map (settled_piece patches) chain.pieces))
  pub ends : IsTrue (all_end_well size (length_places (text_of packet)) 0 chain.pieces)
  pub goes_on : IsTrue (all_go_on chain.pieces)
  pub lengths : IsTrue (list_all (is_in_one chain.pieces) (open_in chain.pieces (text_of packet)))

-- a cut, said of chains without their patches
pub record CutsRaw (size : ℕ) (packets : List Packet) (pages : List Page) : Type 0 where
  pub full : All (IsWellFormedPage size) pages
  pub flags : FlagsAgree false pages
  pub last : last_runs_on false pages ≡ true → newest_goes_on packets ≡ true
  pub chains : AllZip (IsRawChainOf size (patches_of pages)) (kept_of packets) (raw_chains pages)
  pub patches : PatchesAgree (kept_of packets) (raw_chains pages) pages
  pub begins : IsTrue (all_begin_well size packets (raw_chains pages))
