use Rattle.std.proofs.Common.{◌/◌, ◌%◌, ◌<◌, arith, eqb-true, ltb-true}
use Rattle.trace_model.specs.Images.{has_flag_2}
use Rattle.sequence_reader.proofs.PlainLemmas.{no_first, no_last}
use Rattle.sequence_reader.proofs.run.may_be_plain.Goals as goal

pub returns : goal.returns
returns c told =
    let below : c.args.passed < c.plain_end.result = ltb-true c.args.passed c.plain_end.result told in
    record {
      there = omega (arith, below, c.plain_end.ensures.within);
      begins = no_first c.args.key.flags c.args.passed c.plain_start.result c.plain_start.ensures c.if-passed-plain_start.false;
      ends = no_last (has_flag_2 c.args.key.flags) c.args.passed c.args.key.count c.plain_end.result below
          (λ is. c.plain_end.ensures.ends (eqb-true (c.args.key.flags / 2 % 2) 1 is));
      done = no_last c.args.key.awaits c.args.passed c.args.key.count c.plain_end.result below c.plain_end.ensures.done;
    }
