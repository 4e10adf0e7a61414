use Rattle.std.proofs.Common.{ap, ◌∙◌}
use Rattle.packet_check.specs.Values.{part_of}
use Rattle.packet_check.proofs.CheckLemmas.{head_taken}
use Rattle.packet_check.proofs.check.take_head.Goals as goal

pub returns-in-Some-clause-walk : goal.returns-in-Some-clause-walk
returns-in-Some-clause-walk c =
    c.content_left.ensures.walk
    ∙ head_taken c.args.bytes.now c.args.at c.in-Some.head.number c.in-Some.head.width c.in-Some.head.size c.args.walk.at c.args.walk.start c.args.walk.number
    (part_of c.args.walk.part) (ap part_of c.requires.between) c.in-Some.ensures.head
