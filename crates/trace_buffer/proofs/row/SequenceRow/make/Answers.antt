use Rattle.std.proofs.Common.{◌≡◌, false, [], length, replicate, sym, ap, ◌∙◌, arith, rules, true≢false}
use Rattle.std.proofs.lemmas.List.{length-replicate}
use Rattle.trace_model.specs.Sequences.{is_among, fresh}
use Rattle.trace_buffer.specs.Circle.{marked, arrived_of}
use Rattle.trace_buffer.proofs.CircleLemmas.{cleared, clear_bit}
use Rattle.trace_buffer.proofs.row.SequenceRow.make.Goals as goal

pub invariant_of-result : goal.invariant_of-result
invariant_of-result c =
    let ahead : c.in_ok-ahead.ahead.items ≡ replicate 1024 false = c.in_ok-ahead.ensures.items_if_clones_equal (λ y h. search rules) in
    let finals : c.in_ok-finals.finals.items ≡ replicate 1024 false = c.in_ok-finals.ensures.items_if_clones_equal (λ y h. search rules) in
    record {
      ahead = ap length ahead ∙ length-replicate 1024 false;
      finals = ap length finals ∙ length-replicate 1024 false;
      low = omega arith;
      settled = clear_bit c.in_ok-ahead.ahead.items 0 ahead;
      small = λ id is. absurd (true≢false (sym is ∙ ap (is_among id) (cleared c.in_ok-ahead.ahead.items 1024 0 ahead)));
      none = λ yet. finals;
    }

pub returns : goal.returns
returns c =
    let ahead : c.in_ok-ahead.ahead.items ≡ replicate 1024 false = c.in_ok-ahead.ensures.items_if_clones_equal (λ y h. search rules) in
    let finals : c.in_ok-finals.finals.items ≡ replicate 1024 false = c.in_ok-finals.ensures.items_if_clones_equal (λ y h. search rules) in
    let arrived : arrived_of 0 c.in_ok-ahead.ahead.items ≡ [] = cleared c.in_ok-ahead.ahead.items 1024 0 ahead in
    let final : marked c.in_ok-finals.finals.items 1024 0 ≡ [] = cleared c.in_ok-finals.finals.items 1024 0 finals in
    λ i. record (fresh c.args.number c.args.size c.args.from) { arrived = arrived i; final = final i }
