use Rattle.text_form.proofs.GapLemmas.{comment_ended, comment_fed, comment_refused}
use Rattle.text_form.proofs.gap.behind_comment.Goals as goal

pub returns-in_default : goal.returns-in_default
returns-in_default c = comment_ended _ _ _ c.comment_run.ensures c.in_default.ensures

pub returns-then-byte-eq10 : goal.returns-then-byte-eq10
returns-then-byte-eq10 c = comment_fed _ _ _ _ _ c.comment_run.ensures c.in-Some.ensures c.if-byte-eq10.true

pub returns-else-byte-eq10 : goal.returns-else-byte-eq10
returns-else-byte-eq10 c = comment_refused _ _ _ _ _ c.comment_run.ensures c.in-Some.ensures c.if-byte-eq10.false
