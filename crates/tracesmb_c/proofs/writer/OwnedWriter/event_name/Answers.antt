-- A name that isn't empty is one field.
use Rattle.std.proofs.Common.{List, IfOk, OnErr, sym, subst, arith}
use Rattle.trace_model.specs.Calls as call
use Rattle.trace_model.specs.Calls.{Call}
use Rattle.trace_writer.specs.Core.{field_fault, bytes_size}
use Rattle.tracesmb_c.specs.Eventing.{NotesAll, NotesSome}
use Rattle.tracesmb_c.specs.Lending.{view_of}
use Rattle.tracesmb_c.proofs.EventLemmas.{stays_same, ok_one, err_one, name_none, name_some}
use Rattle.tracesmb_c.proofs.writer.OwnedWriter.event_name.Goals as goal

pub returns-then-name-eq0-clause-all : goal.returns-then-name-eq0-clause-all
returns-then-name-eq0-clause-all c =
    subst (λ (calls : List Call). NotesAll c.args.self.now c.args.self.now calls) (sym (name_none c.args.name.now c.if-name-eq0.true))
    (stays_same c.args.self.now)

pub returns-else-name-eq0-clause-all : goal.returns-else-name-eq0-clause-all
returns-else-name-eq0-clause-all c =
    subst (λ (calls : List Call). IfOk c.bytes.result (λ _. NotesAll c.args.self.now c.bytes.new.self calls))
    (sym (name_some c.args.name.now (let some = c.if-name-eq0.false in omega (arith, some))))
    (ok_one c.bytes.result c.args.self.now c.bytes.new.self (call.Bytes 23 c.args.name.now 1) c.bytes.ensures.writes.notes)

pub returns-else-name-eq0-clause-some : goal.returns-else-name-eq0-clause-some
returns-else-name-eq0-clause-some c =
    subst (λ (calls : List Call). OnErr c.bytes.result (NotesSome c.args.self.now c.bytes.new.self calls))
    (sym (name_some c.args.name.now (let some = c.if-name-eq0.false in omega (arith, some))))
    (err_one c.bytes.result c.args.self.now c.bytes.new.self (call.Bytes 23 c.args.name.now 1)
    (field_fault (view_of c.args.self.now) 23 (bytes_size 23 1 c.args.name.now))
    c.bytes.ensures.writes.refused c.bytes.ensures.writes.reason (λ fault is. (fault, is)))

pub bytes-requires-clause-field : goal.bytes-requires-clause-field
bytes-requires-clause-field c = record { least = omega arith; most = omega arith }
