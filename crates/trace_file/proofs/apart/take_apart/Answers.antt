use Rattle.std.proofs.Common.{refl, arith}
use Rattle.trace_file.proofs.PartLemmas.{says_plain, says_marked, only_plain, only_marked, none_long, none_tail}
use Rattle.trace_file.proofs.apart.take_apart.Goals as goal

pub returns-then-not-has_short_head-clause-none : goal.returns-then-not-has_short_head-clause-none
returns-then-not-has_short_head-clause-none c =
    none_long c.args.bytes.now c.args.content.now c.args.sequence c.requires (omega arith) (c.if-not-has_short_head.ensures.no refl)

pub returns-in-None-clause-none : goal.returns-in-None-clause-none
returns-in-None-clause-none c = none_tail c.args.bytes.now c.args.content.now c.args.sequence c.requires (omega arith) c.in-None.ensures

pub returns-in-Some-strip_front-clause-says : goal.returns-in-Some-strip_front-clause-says
returns-in-Some-strip_front-clause-says c =
    says_marked c.args.bytes.now c.args.content.now c.in-Some.found.0.now c.in-Some-strip_front.packet.now c.args.sequence c.in-Some.found.1 (c.if-not-has_short_head.ensures.yes refl) c.in-Some.ensures c.in-Some-strip_front.ensures

pub returns-in-Some-strip_front-clause-only : goal.returns-in-Some-strip_front-clause-only
returns-in-Some-strip_front-clause-only c =
    only_marked c.args.bytes.now c.args.content.now c.in-Some.found.0.now c.in-Some-strip_front.packet.now c.args.sequence c.in-Some.found.1 c.requires (omega arith) (omega arith) c.in-Some.ensures
    c.in-Some-strip_front.ensures

pub returns-in-None-strip_front-clause-says : goal.returns-in-None-strip_front-clause-says
returns-in-None-strip_front-clause-says c =
    says_plain c.args.bytes.now c.args.content.now c.in-Some.found.0.now c.args.sequence c.in-Some.found.1 (c.if-not-has_short_head.ensures.yes refl) c.in-Some.ensures

pub returns-in-None-strip_front-clause-only : goal.returns-in-None-strip_front-clause-only
returns-in-None-strip_front-clause-only c =
    only_plain c.args.bytes.now c.args.content.now c.in-Some.found.0.now c.args.sequence c.in-Some.found.1 c.requires (omega arith) (omega arith) c.in-Some.ensures c.in-None-strip_front.ensures
