use Rattle.std.proofs.Common.{sym, ap, ◌∙◌}
use Rattle.trace_model.specs.Buffers.{live_at}
use Rattle.trace_buffer.specs.Calls.{place_in}
use Rattle.sequence_reader.proofs.RunLemmas.{runs_none}
use Rattle.sequence_reader.proofs.run.find_run.Goals as goal

pub put_run-requires-clause-place : goal.put_run-requires-clause-place
put_run-requires-clause-place g c =
    ap (λ n. place_in (live_at c.args.buffer.now c.args.bounds.sequence n)) (sym c.at-held.ensures.here) ∙ sym c.at-held.ensures.held ∙ c.in-Some.is

pub returns-in_default-clause-puts : goal.returns-in_default-clause-puts
returns-in_default-clause-puts g c =
    runs_none c.args.buffer.now c.args.bounds c.args.limit (g.O.Sink.taken c.args.out.now) c.args.progress c.at-held.result c.requires.at c.at-held.ensures.held c.requires.most

pub returns-in_default-2-clause-puts : goal.returns-in_default-2-clause-puts
returns-in_default-2-clause-puts g c =
    runs_none c.args.buffer.now c.args.bounds c.args.limit (g.O.Sink.taken c.args.out.now) c.args.progress c.at-held.result c.requires.at c.at-held.ensures.held c.requires.most
