use Rattle.std.proofs.Common.{◌≡◌, ℕ, List, take, map}
use Rattle.std.specs.Borrow.{Bor}
use Rattle.std.specs.List.{list_all}
use Rattle.config_text.specs.Kept.{producer_kept, blocks_kept}
use Rattle.config_text.specs.Reasons.{sizes_in, producers_said, is_fit_producer}
use Rattle.config_text.proofs.look_ups.LookUps.new.Given as goal

abbrev pub invariant-loop-block : goal.invariant-loop-block
invariant-loop-block l = record {
  sizes : (entries : List (Bor (List ℕ))) → l.known.sizes.items ≡ sizes_in (blocks_kept entries (take l.block-index l.blocks));
  producers : (entries : List (Bor (List ℕ))) → map producer_kept l.known.producers.items ≡ producers_said (blocks_kept entries (take l.block-index l.blocks));
  fit : (entries : List (Bor (List ℕ))) → l.known.fit ≡ list_all (λ block. is_fit_producer block.fits block.what) (blocks_kept entries (take l.block-index l.blocks));
}
