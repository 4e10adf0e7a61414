use Rattle.std.proofs.Common.{◌∙◌, ℕ, List, subst}
use Rattle.std.proofs.lemmas.Result.{on_err_weaker}
use Rattle.trace_summary.specs.declared.summary.Totals.{Totals}
use Rattle.trace_summary.proofs.LineLemmas.{HasWritten, lines_part, lines_last}
use Rattle.trace_summary.proofs.put.put_summary.Goals as goal

pub returns-in-Err-clause-part : goal.returns-in-Err-clause-part
returns-in-Err-clause-part g c =
    let old = g.O.Sink.taken c.args.out.now in
    let now = g.O.Sink.taken c.lines.out in
    let written = subst (λ (left : List (ℕ × Totals)). HasWritten old now c.args.summary.now left) c.in-Some.ensures.steps c.lines.invariant.written in
    lines_part old now _ c.args.summary.now c.in-Some.sequence.now c.in-Some.totals.now c.next.new.self c.deref.result.now written
    (c.deref.ensures.0 ∙ c.sequence_line.ensures) c.in-Err.ensures.part

pub returns-clause-part : goal.returns-clause-part
returns-clause-part g c =
    let old = g.O.Sink.taken c.args.out.now in
    let now = g.O.Sink.taken c.lines.out in
    let written = subst (λ (left : List (ℕ × Totals)). HasWritten old now c.args.summary.now left) c.in-None.ensures.steps.0 c.lines.invariant.written in
    on_err_weaker c.put_all-2.result
    (λ part. lines_last old now _ c.args.summary.now c.deref-2.result.now written (c.deref-2.ensures.0 ∙ c.last_line.ensures) part) c.put_all-2.ensures.part
