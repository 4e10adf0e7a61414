use Rattle.std.proofs.Common.{◌≡◌, ℕ, ◌++◌, ◌-◌, List, length, take, replicate, ap, ◌∙◌, arith}
use Rattle.std.proofs.lemmas.List.{take_all, take_at}
use Rattle.std.specs.Vec.{with_items}
use Rattle.ring_bytes.proofs.RingLemmas.{items_with}
use Rattle.ring_bytes.proofs.grow.grow.Goals as goal

pub returns-clause-kept : goal.returns-clause-kept
returns-clause-kept c =
    let old : List ℕ = c.args.bytes.now.items in
    let now : List ℕ = c.put_rest.new.bytes in
    let reached : ℕ = c.args.reached in
    let added : List ℕ = replicate (c.args.to - c.args.bytes.now.len) 0 in
    let long : length old ≡ reached = omega (arith, c.args.bytes.now.ok.0, c.requires.whole) in
    let items : (with_items c.resize.new.self now).items ≡ now =
    items_with c.resize.new.self _ now reached c.args.to c.deref_mut.ensures.value c.put_rest.ensures.same in
    ap (take reached) items
    ∙ c.put_rest.ensures.same.below 0 reached (omega arith)
    ∙ ap (take reached) (c.deref_mut.ensures.value ∙ c.in-Ok.ensures.items ∙ ap (λ xs. xs ++ added) (take_all c.args.to old (omega (arith, c.requires.within))))
    ∙ take_at old added reached long
