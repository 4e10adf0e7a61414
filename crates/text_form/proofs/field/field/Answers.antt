use Rattle.std.proofs.lemmas.Result.{err_from_is_err_and}
use Rattle.text_form.proofs.FieldLemmas.{if_ok, if_err, field_refused, field_ended, field_other, colon_field, colon_bad, block_field}
use Rattle.text_form.proofs.field.field.Goals as goal

pub returns-in_err-there-clause-refused : goal.returns-in_err-there-clause-refused
returns-in_err-there-clause-refused c =
    let p = err_from_is_err_and c.from_residual.result c.from_residual.ensures.1 in
    rw (p.1, p.2) (field_refused _ _ _ _ _ c.requires.name c.name_run-run.ensures c.in_err-there.ensures.refuses)

pub returns-in_default-clause-refused : goal.returns-in_default-clause-refused
returns-in_default-clause-refused c =
    field_ended _ _ _ _ _ _ c.requires.name c.name_run-run.ensures c.in_ok-there.ensures.passes c.in_default.ensures

pub returns-then-byte-eq58-clause-read : goal.returns-then-byte-eq58-clause-read
returns-then-byte-eq58-clause-read c =
    if_ok c.behind_colon.result _ _ (λ found reads. colon_field _ _ _ _ _ _ _ _ c.requires.name c.name_run-run.ensures c.in_ok-there.ensures.passes
    c.in-Some.ensures c.if-byte-eq58.true _ _ _ reads) c.behind_colon.ensures.read

pub returns-then-byte-eq58-clause-refused : goal.returns-then-byte-eq58-clause-refused
returns-then-byte-eq58-clause-refused c =
    if_err c.behind_colon.result _ _ (λ bad refuses. colon_bad _ _ _ _ _ _ _ _ c.requires.name c.name_run-run.ensures c.in_ok-there.ensures.passes
    c.in-Some.ensures c.if-byte-eq58.true _ refuses) c.behind_colon.ensures.refused

pub returns-then-byte-eq123-clause-read : goal.returns-then-byte-eq123-clause-read
returns-then-byte-eq123-clause-read c =
    block_field _ _ _ _ _ _ _ _ _ _ _ c.requires.name c.name_run-run.ensures c.in_ok-there.ensures.passes c.in-Some.ensures c.if-byte-eq123.true
    c.begin.ensures.item c.begin.ensures.there.0 c.begin.ensures.there.1

pub returns-clause-refused : goal.returns-clause-refused
returns-clause-refused c =
    field_other _ _ _ _ _ _ _ _ c.requires.name c.name_run-run.ensures c.in_ok-there.ensures.passes c.in_ok-there.ensures.ends c.in-Some.ensures
    c.if-byte-eq58.false c.if-byte-eq123.false
