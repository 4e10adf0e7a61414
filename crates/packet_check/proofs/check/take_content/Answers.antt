use Rattle.std.proofs.Common.{◌≡◌, ℕ, ◌+◌, ◌-◌, length, ap, ◌∙◌, arith}
use Rattle.packet_check.specs.Values.{part_of}
use Rattle.packet_check.proofs.CheckLemmas.{moved, content_taken}
use Rattle.packet_check.proofs.WalkLemmas.{walk_at}
use Rattle.packet_check.proofs.check.take_content.Goals as goal
use Rattle.trace_model.specs.Walks.{content_left}

pub returns-then-left-there-clause-walk : goal.returns-then-left-there-clause-walk
returns-then-left-there-clause-walk c =
    let place : c.walk_to.result.at ≡ c.args.walk.at + c.args.left = omega (arith, c.walk_to.ensures.at) in
    let none : 0 ≡ c.args.left - c.args.left = omega arith in
    c.content_left.ensures.walk
    ∙ ap (content_left 0)
    (moved c.args.walk c.walk_to.result (c.args.walk.at + c.args.left) place c.walk_to.ensures.start c.walk_to.ensures.number c.walk_to.ensures.part)
    ∙ ap (λ (n : ℕ). content_left n (walk_at (c.args.walk.at + c.args.left) c.args.walk.start c.args.walk.number (part_of c.args.walk.part))) none
    ∙ content_taken c.args.bytes.now c.args.at c.args.left c.args.left c.args.walk.at c.args.walk.start c.args.walk.number (part_of c.args.walk.part)
    (ap part_of c.requires.content) c.requires.some (omega arith) (omega arith)

pub returns-clause-walk : goal.returns-clause-walk
returns-clause-walk c =
    let place : c.walk_to-behind.result.at ≡ c.args.walk.at + (length c.args.bytes.now - c.args.at) = omega (arith, c.walk_to-behind.ensures.at) in
    c.content_left-2.ensures.walk
    ∙ ap (content_left (c.args.left - (length c.args.bytes.now - c.args.at)))
    (moved c.args.walk c.walk_to-behind.result (c.args.walk.at + (length c.args.bytes.now - c.args.at)) place c.walk_to-behind.ensures.start
    c.walk_to-behind.ensures.number c.walk_to-behind.ensures.part)
    ∙ content_taken c.args.bytes.now c.args.at (length c.args.bytes.now - c.args.at) c.args.left c.args.walk.at c.args.walk.start c.args.walk.number
    (part_of c.args.walk.part) (ap part_of c.requires.content) c.requires.some (omega arith) (omega arith)
