use Rattle.std.proofs.Common.{◌≡◌, [], ◌∙◌, rules}
use Rattle.trace_buffer.specs.Unfinished.{unfinished_of, counts_by}
use Rattle.trace_buffer.proofs.CountLemmas.{none_counted}
use Rattle.trace_buffer.proofs.unfinished.Unfinished.make.Goals as goal

pub returns : goal.returns
returns c =
    let none : c.in_ok-awaiting.awaiting.items ≡ counts_by c.args.rows.now (λ n. 0) =
    c.in_ok-awaiting.ensures.items_if_clones_equal (λ y h. search rules) ∙ none_counted c.args.rows.now in
    λ i. record (unfinished_of c.args.rows.now []) { awaiting = none i }
