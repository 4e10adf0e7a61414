use Rattle.std.proofs.Common.{◌≡◌, ◌∷◌, OnOk, OnErr, sym, ap, ◌∙◌, subst}
use Rattle.byte_io.specs.Bytes.{after_told, TakesPart}
use Rattle.trace_file.proofs.RecordLemmas.{varint_short}
use Rattle.trace_file.proofs.parts.put_head.Goals as goal

pub returns-then-len-lt128-clause-all : goal.returns-then-len-lt128-clause-all
returns-then-len-lt128-clause-all g c =
    subst (λ bytes. OnOk c.put_all.result (g.O.Sink.taken c.put_all.new.out ≡ after_told (g.O.Sink.taken c.args.out.now) bytes))
    (c.two.ensures ∙ ap (λ bytes. 10 ∷ bytes) (sym (varint_short c.args.len c.if-len-lt128.true))) c.put_all.ensures.all

pub returns-then-len-lt128-clause-part : goal.returns-then-len-lt128-clause-part
returns-then-len-lt128-clause-part g c =
    subst (λ bytes. OnErr c.put_all.result (TakesPart (g.O.Sink.taken c.args.out.now) (g.O.Sink.taken c.put_all.new.out) bytes))
    (c.two.ensures ∙ ap (λ bytes. 10 ∷ bytes) (sym (varint_short c.args.len c.if-len-lt128.true))) c.put_all.ensures.part
