use Rattle.std.proofs.Common.{◌∙◌, rules}
use Rattle.trace_base.specs.declared.policy.FullPolicy.TheVariants.{Ring}
use Rattle.config_text.specs.declared.config.ConfigBuffer.{ConfigBuffer}
use Rattle.config_text.specs.Writing.{buffer_line}
use Rattle.config_text.proofs.PutLemmas.{lines_more, lines_part}
use Rattle.config_text.proofs.putting.put_buffers.Goals as goal

abbrev none : ConfigBuffer
none = record { size_kb = 0; policy = Ring }

pub returns-in_err-put_buffer-clause-part : goal.returns-in_err-put_buffer-clause-part
returns-in_err-put_buffer-clause-part g c =
    let taken = g.O.Sink.taken in
    let part = lines_part buffer_line (taken c.args.out.now) (taken c.loop-buffer.out) (taken c.put_buffer.new.out) c.args.buffers.now c.loop-buffer.buffer-index none
    c.loop-buffer-test.true c.loop-buffer.invariant.taken c.in_err-put_buffer.ensures.part in
    search (rules, part)

pub loop-buffer-preserved : goal.loop-buffer-preserved
loop-buffer-preserved g c =
    let taken = g.O.Sink.taken in
    record {
      taken = lines_more buffer_line (taken c.args.out.now) (taken c.loop-buffer.out) (taken c.put_buffer.new.out) c.args.buffers.now c.loop-buffer.buffer-index none
          c.loop-buffer-test.true c.loop-buffer.invariant.taken c.in_ok-put_buffer.ensures.all;
      faults = c.in_ok-put_buffer.ensures.count ∙ c.loop-buffer.invariant.faults;
      may = c.in_ok-put_buffer.ensures.goes_on;
    }
