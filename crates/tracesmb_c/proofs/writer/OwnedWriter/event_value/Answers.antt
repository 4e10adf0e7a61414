-- A counter has one field more.
use Rattle.std.proofs.Common.{List, IfOk, OnErr, sym, subst}
use Rattle.trace_model.specs.Calls.{Call}
use Rattle.tracesmb_c.specs.Eventing.{NotesAll, NotesSome}
use Rattle.tracesmb_c.proofs.EventLemmas.{stays_same, value_none, value_some}
use Rattle.tracesmb_c.proofs.writer.OwnedWriter.event_value.Goals as goal

pub returns-else-kind-eq-COUNTER-clause-all : goal.returns-else-kind-eq-COUNTER-clause-all
returns-else-kind-eq-COUNTER-clause-all c =
    subst (λ (calls : List Call). NotesAll c.args.self.now c.args.self.now calls)
    (sym (value_none c.args.kind c.args.value c.if-kind-eq-COUNTER.false)) (stays_same c.args.self.now)

pub returns-then-kind-eq-COUNTER-clause-all : goal.returns-then-kind-eq-COUNTER-clause-all
returns-then-kind-eq-COUNTER-clause-all c =
    subst (λ (calls : List Call). IfOk c.event_number.result (λ _. NotesAll c.args.self.now c.event_number.new.self calls))
    (sym (value_some c.args.kind c.args.value c.if-kind-eq-COUNTER.true)) c.event_number.ensures.all

pub returns-then-kind-eq-COUNTER-clause-some : goal.returns-then-kind-eq-COUNTER-clause-some
returns-then-kind-eq-COUNTER-clause-some c =
    subst (λ (calls : List Call). OnErr c.event_number.result (NotesSome c.args.self.now c.event_number.new.self calls))
    (sym (value_some c.args.kind c.args.value c.if-kind-eq-COUNTER.true)) c.event_number.ensures.some
