-- What is taken out of the handle is what it had.
use Rattle.std.proofs.Common.{◌≡◌, ◌∙◌, IfSome, Option, Some, sym, subst, rules}
use Rattle.tracesmb_c.specs.declared.session.OwnedSession.{OwnedSession}
use Rattle.tracesmb_c.specs.Sessions.{IsSession}
use Rattle.tracesmb_c.proofs.serving.tracesmb_session_close.Goals as goal
use Rattle.tracesmb_c.proofs.serving.tracesmb_session_close.Goals.{then-open, else-open}

pub close-requires-clause-session : goal.close-requires-clause-session
close-requires-clause-session c =
    let kept : c.if-open.session.raw.value ≡ c.args.session.now.raw.value =
    elim c.if-open.branch [
      | then-open w ↦ search rules
      | else-open w ↦ search rules
    ] in
    let held : Some c.in-Some.whole.value ≡ c.args.session.now.raw.value = c.in-Some.ensures.value ∙ kept in
    subst IsSession (sym c.into_inner.ensures)
    (subst (λ (one : Option OwnedSession). IfSome one IsSession) (sym held) c.requires.session)
