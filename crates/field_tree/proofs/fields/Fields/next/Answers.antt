use Rattle.std.proofs.Common.{◌≡◌, [], sym, ◌∙◌}
use Rattle.field_tree.specs.Written.{written_nodes}
use Rattle.field_tree.proofs.FirstLemmas.{begins_with, none_left, next_is}
use Rattle.field_tree.proofs.fields.Fields.next.Goals as goal

pub returns-then-is_empty-clause-none : goal.returns-then-is_empty-clause-none
returns-then-is_empty-clause-none c =
    let none : c.args.self.now ≡ [] = sym c.self.view_is ∙ none_left c.self.inside.rest.now c.is_empty.result c.is_empty.ensures c.if-is_empty.true in
    (none, none)

pub first_node-first-requires : goal.first_node-first-requires
first_node-first-requires c =
    let front = begins_with c.self.inside.rest.now c.is_empty.result c.self.invariant c.is_empty.ensures c.if-is_empty.false in
    (front.first, written_nodes front.others, front.writable, front.cut)

pub invariant_of-self : goal.invariant_of-self
invariant_of-self c =
    let front = begins_with c.self.inside.rest.now c.is_empty.result c.self.invariant c.is_empty.ensures c.if-is_empty.false in
    let next = next_is c.self.inside.rest.now front c.first_node-first.result.node c.first_node-first.result.text.now c.first_node-first.result.behind.now
    (c.first_node-first.ensures front.first (written_nodes front.others) front.writable front.cut) in
    next.left

pub returns-clause-first : goal.returns-clause-first
returns-clause-first c =
    let front = begins_with c.self.inside.rest.now c.is_empty.result c.self.invariant c.is_empty.ensures c.if-is_empty.false in
    let next = next_is c.self.inside.rest.now front c.first_node-first.result.node c.first_node-first.result.text.now c.first_node-first.result.behind.now
    (c.first_node-first.ensures front.first (written_nodes front.others) front.writable front.cut) in
    sym c.self.view_is ∙ next.shown

pub returns-clause-fit : goal.returns-clause-fit
returns-clause-fit c =
    let front = begins_with c.self.inside.rest.now c.is_empty.result c.self.invariant c.is_empty.ensures c.if-is_empty.false in
    let next = next_is c.self.inside.rest.now front c.first_node-first.result.node c.first_node-first.result.text.now c.first_node-first.result.behind.now
    (c.first_node-first.ensures front.first (written_nodes front.others) front.writable front.cut) in
    next.fit
