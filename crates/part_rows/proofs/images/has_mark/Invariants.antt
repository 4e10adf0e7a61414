use Rattle.std.proofs.Common.{◌≡◌}
use Rattle.std.specs.List.{list_any}
use Rattle.trace_model.specs.Images as model
use Rattle.part_rows.proofs.images.has_mark.Given as goal

-- a mark is among those left where one is among all
abbrev pub invariant-loop-fragment : goal.invariant-loop-fragment
invariant-loop-fragment l =
    list_any (λ (fragment : model.Fragment). fragment.dropped) l.fragment-iterator
    ≡ list_any (λ (fragment : model.Fragment). fragment.dropped) l.initial.fragment-iterator
