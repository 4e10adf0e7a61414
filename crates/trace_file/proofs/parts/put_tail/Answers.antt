use Rattle.std.proofs.Common.{◌≡◌, OnOk, OnErr, sym, ◌∙◌, subst}
use Rattle.byte_io.specs.Bytes.{after_told, TakesPart}
use Rattle.trace_file.proofs.RecordLemmas.{tail_short}
use Rattle.trace_file.proofs.parts.put_tail.Goals as goal

pub returns-then-not-marked-clause-all : goal.returns-then-not-marked-clause-all
returns-then-not-marked-clause-all g c =
    subst (λ bytes. OnOk c.put_all.result (g.O.Sink.taken c.put_all.new.out ≡ after_told (g.O.Sink.taken c.args.out.now) bytes))
    (c.two.ensures ∙ sym (tail_short c.args.sequence c.args.marked c.if-sequence-lt128.true c.if-not-marked.true)) c.put_all.ensures.all

pub returns-then-not-marked-clause-part : goal.returns-then-not-marked-clause-part
returns-then-not-marked-clause-part g c =
    subst (λ bytes. OnErr c.put_all.result (TakesPart (g.O.Sink.taken c.args.out.now) (g.O.Sink.taken c.put_all.new.out) bytes))
    (c.two.ensures ∙ sym (tail_short c.args.sequence c.args.marked c.if-sequence-lt128.true c.if-not-marked.true)) c.put_all.ensures.part
