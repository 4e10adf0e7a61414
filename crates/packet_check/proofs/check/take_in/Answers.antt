use Rattle.std.proofs.Common.{◌≡◌, ◌+◌, ◌-◌, length, ap, ◌∙◌, arith}
use Rattle.packet_check.specs.Values.{part_of}
use Rattle.packet_check.proofs.CheckLemmas.{moved, unfit_taken, refused_taken}
use Rattle.packet_check.proofs.check.take_in.Goals as goal

pub returns-in-Unfit-clause-walk : goal.returns-in-Unfit-clause-walk
returns-in-Unfit-clause-walk c =
    let place : c.walk_to.result.at ≡ c.args.walk.at + (length c.args.bytes.now - c.args.at) = omega (arith, c.walk_to.ensures.at) in
    moved c.args.walk c.walk_to.result (c.args.walk.at + (length c.args.bytes.now - c.args.at)) place c.walk_to.ensures.start c.walk_to.ensures.number c.walk_to.ensures.part
    ∙ unfit_taken c.args.bytes.now c.args.at (length c.args.bytes.now - c.args.at) c.args.walk.at c.args.walk.start c.args.walk.number
    (part_of c.args.walk.part) (ap part_of c.in-Unfit.is) (omega arith)

pub returns-in-Refused-clause-walk : goal.returns-in-Refused-clause-walk
returns-in-Refused-clause-walk c =
    let place : c.walk_to-in-Refused.result.at ≡ c.args.walk.at + (length c.args.bytes.now - c.args.at) = omega (arith, c.walk_to-in-Refused.ensures.at) in
    moved c.args.walk c.walk_to-in-Refused.result (c.args.walk.at + (length c.args.bytes.now - c.args.at)) place c.walk_to-in-Refused.ensures.start
    c.walk_to-in-Refused.ensures.number c.walk_to-in-Refused.ensures.part
    ∙ refused_taken c.args.bytes.now c.args.at (length c.args.bytes.now - c.args.at) c.args.walk.at c.args.walk.start c.args.walk.number
    (part_of c.args.walk.part) (ap part_of c.in-Refused.is) (omega arith)
