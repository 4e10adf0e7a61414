-- What the calls of a writer say of one that is lent to a program: it drops packets, so it never stalls.
use Rattle.std.proofs.Common.{◌≡◌, ◌∙◌, ℕ, ◌+◌, Bool, true, false, List, ◌++◌, Option, Some, None, Result, Ok, Err, IfOk, OnErr}
use Rattle.std.proofs.Common.{MatchResult, if◌then◌else◌, subst, sym, refl, ap, append-nil, arith}
use Rattle.atomic_table.specs.Seated.{TableId}
use Rattle.trace_base.specs.declared.policy.WriterPolicy.{WriterPolicy}
use Rattle.trace_base.specs.declared.policy.WriterPolicy.TheVariants.{Drops, Stalls}
use Rattle.trace_model.specs.Calls.{Call}
use Rattle.chunk_plain.specs.declared.setup.ChunkRange.{ChunkRange}
use Rattle.chunk_words.specs.declared.host.HostTable.{HostTable}
use Rattle.chunk_words.specs.declared.shared.Shared.{Shared}
use Rattle.chunk_words.specs.declared.seats.WriterSeat.{WriterSeat}
use Rattle.chunk_words.specs.Sits.{setup_in, known_by}
use Rattle.chunk_words.specs.contracts.shared.SharedWords.TheImpl.{ghosts as shared}
use Rattle.claim_arbiter.specs.Claiming.{range_in}
use Rattle.trace_writer.specs.declared.fault.Begun.{Begun as BegunPacket}
use Rattle.trace_writer.specs.declared.fault.Begun.TheVariants.{Kept, Dropping}
use Rattle.trace_writer.specs.declared.fault.CallFault.{CallFault}
use Rattle.trace_writer.specs.declared.fault.CallFault.TheVariants.{Stalled}
use Rattle.trace_writer.specs.declared.route.Route.{Route}
use Rattle.trace_writer.specs.declared.writer.WriterCore.{WriterCore}
use Rattle.trace_writer.specs.Asked.{begun_as, written_as, noted_as, stops_with}
use Rattle.trace_writer.specs.Calling.{packet_fault, fault_at}
use Rattle.trace_writer.specs.Core.{in_packet, is_stalled, route_of, refusal_of}
use Rattle.trace_writer.specs.Helping.{loses, rounds_for}
use Rattle.trace_writer.specs.Laws.{DropsNeverStall}
use Rattle.trace_writer.specs.Losing.{LosesBehind}
use Rattle.thread_writer.specs.declared.helper.Asks.{Asks}
use Rattle.thread_writer.specs.declared.writer.TraceWriter.{TraceWriter}
use Rattle.thread_writer.specs.Writing.{core_of, view_in, Writes, IsCall, IsQuietCall, Caller, caller, moment_on}
use Rattle.tracesmb_c.specs.declared.writer.OwnedWriter.{OwnedWriter}
use Rattle.tracesmb_c.specs.declared.codes.TheConstants.{OK, REFUSED}
use Rattle.tracesmb_c.specs.Lending.{field_answer, table_of, view_of, IsReady, IsOutOfChunks}
use Rattle.tracesmb_c.specs.Lending.{Notes, NotesField, Stays, WritesField, noted_begin}

-- the same handle's writer, as a call leaves it
abbrev pub behind : OwnedWriter → TraceWriter → OwnedWriter
behind old new = record { table = old.table; writer = new; number = old.number }

-- a writer that drops packets goes on
pub goes : DropsNeverStall → (owned : OwnedWriter) → IsReady owned → is_stalled (core_of owned.writer) ≡ false
goes never owned ready =
    never (setup_in (table_of owned)) (core_of owned.writer).seat.place (view_of owned) (core_of owned.writer).writer ready.writes.agrees
    (λ stalls. let wrong : Drops ≡ Stalls = sym ready.drops ∙ stalls in cc)

-- it is ready again
pub ready_again : (old : OwnedWriter) (table : HostTable) (new : TraceWriter) → IsReady old → table ≡ table_of old → Writes table new
    → route_of (core_of new) ≡ route_of (core_of old.writer) → (core_of new).seat.place ≡ (core_of old.writer).seat.place → IsReady
    (behind old new)
ready_again old table new ready same writes route place = record {
  writes = subst (λ (t : HostTable). Writes t new) same writes;
  drops = ap (λ (r : Route). r.spec.policy) route ∙ ready.drops;
  number_is = ready.number_is ∙ ap (λ (n : ℕ). n + 1) (sym place);
}

-- what is so whatever was answered
if_ok : {A E : Type 0} {P : Type 0} (answer : Result A E) → P → IfOk answer (λ _. P)
if_ok (Ok a) p = p
if_ok (Err fault) p = tt

pub if_ok_map : {A E : Type 0} {P Q : Type 0} (answer : Result A E) → (P → Q) → IfOk answer (λ _. P) → IfOk answer (λ _. Q)
if_ok_map (Ok a) f p = f p
if_ok_map (Err fault) f p = tt

-- a writer that goes on refuses no call but for its packet
pub none_refused : (old : WriterCore WriterSeat) → is_stalled old ≡ false → refusal_of old None ≡ None
none_refused old going = ap (λ (b : Bool). if b then Some Stalled else None) going

on_err : {A : Type 0} {P : Type 0} (answer : Result A CallFault) → P → OnErr answer P
on_err (Ok a) p = tt
on_err (Err fault) p = p

err_never : {A : Type 0} (P : Type 0) (new : WriterCore WriterSeat) (answer : Result A CallFault) → is_stalled new ≡ false
    → MatchResult answer (λ _. is_stalled new ≡ false) (λ fault. (fault ≡ Stalled) × (is_stalled new ≡ true)) → OnErr answer P
err_never P new (Ok a) on matched = tt
err_never P new (Err fault) on matched = let wrong : false ≡ true = sym on ∙ matched.1 in cc

-- there is no reason then
abbrev pub no_reason : Option CallFault
no_reason = None

reason_never : {A : Type 0} (new : WriterCore WriterSeat) (answer : Result A CallFault) → is_stalled new ≡ false
    → MatchResult answer (λ _. is_stalled new ≡ false) (λ fault. (fault ≡ Stalled) × (is_stalled new ≡ true))
    → MatchResult answer (λ _. no_reason ≡ None) (λ fault. no_reason ≡ Some fault)
reason_never new (Ok a) on matched = refl
reason_never new (Err fault) on matched = let wrong : false ≡ true = sym on ∙ matched.1 in cc

module _ {A H : Type 0} {helps : H → ℕ → Bool → H → Type 0} {of_table : H → TableId → Type 0} {call : Call} {stopped : Bool} {table : Shared}
    {before after : Caller H} where
  -- the place stays
  pub place_stays : {answer : Result A CallFault} → IsCall helps of_table call stopped table before answer after
      → (route_of (core_of before.writer)).spec.policy ≡ Drops → (core_of after.writer).seat.place ≡ (core_of before.writer).seat.place
  place_stays did drops = (did.made.alone drops).1.place_stays

  -- what was noted where it wasn't refused
  pub noted_if_ok : (answer : Result A CallFault) (reason : Option CallFault) → packet_fault (view_in before.writer) call ≡ reason
      → IsCall helps of_table call stopped table before answer after → is_stalled (core_of before.writer) ≡ false
      → IfOk answer (λ _. (view_in after.writer).calls ≡ (view_in before.writer).calls ++ noted_as stopped (route_of (core_of before.writer)).spec.policy call)
  noted_if_ok answer (Some fault) is did going =
      subst (λ (r : Result A CallFault). IfOk r (λ _. (view_in after.writer).calls
      ≡ (view_in before.writer).calls ++ noted_as stopped (route_of (core_of before.writer)).spec.policy call))
      (sym (did.made.refused fault (ap (refusal_of (core_of before.writer)) is)).answer_is) tt
  noted_if_ok answer None is did going =
      if_ok answer (did.made.done (ap (refusal_of (core_of before.writer)) is ∙ none_refused (core_of before.writer) going)).notes

  -- and nothing where it was
  pub same_if_refused : (answer : Result A CallFault) (reason : Option CallFault) → packet_fault (view_in before.writer) call ≡ reason
      → IsCall helps of_table call stopped table before answer after → is_stalled (core_of before.writer) ≡ false → is_stalled (core_of after.writer) ≡ false
      → OnErr answer ((view_in after.writer).calls ≡ (view_in before.writer).calls)
  same_if_refused answer (Some fault) is did going on =
      on_err answer (ap (λ (w : WriterCore WriterSeat). (known_by w.seat).calls) (did.made.refused fault (ap (refusal_of (core_of before.writer)) is)).writer_stays)
  same_if_refused answer None is did going on =
      err_never _ (core_of after.writer) answer on (did.made.answers (ap (refusal_of (core_of before.writer)) is ∙ none_refused (core_of before.writer) going))

  -- it is refused exactly for its packet's reason
  pub reason_is : (answer : Result A CallFault) (reason : Option CallFault) → packet_fault (view_in before.writer) call ≡ reason
      → IsCall helps of_table call stopped table before answer after → is_stalled (core_of before.writer) ≡ false → is_stalled (core_of after.writer) ≡ false
      → MatchResult answer (λ _. reason ≡ None) (λ fault. reason ≡ Some fault)
  reason_is answer (Some fault) is did going on =
      subst (λ (r : Result A CallFault). MatchResult r (λ _. Some fault ≡ None) (λ f. Some fault ≡ Some f))
      (sym (did.made.refused fault (ap (refusal_of (core_of before.writer)) is)).answer_is) refl
  reason_is answer None is did going on =
      reason_never (core_of after.writer) answer on (did.made.answers (ap (refusal_of (core_of before.writer)) is ∙ none_refused (core_of before.writer) going))

  -- its last claims were one round in vain, where it stopped
  pub lost_behind : {answer : Result A CallFault} → IsCall helps of_table call stopped table before answer after
      → fault_at shared.means call (moment_on table before) ≡ None → (route_of (core_of before.writer)).spec.policy ≡ Drops → stopped ≡ true
      → LosesBehind (shared.means.setup table) (range_in (route_of (core_of before.writer)).arbiter) 1 (view_in before.writer) (view_in after.writer)
  lost_behind did goes_on drops stops =
      subst (λ (p : WriterPolicy). LosesBehind (shared.means.setup table) (range_in (route_of (core_of before.writer)).arbiter) (rounds_for p)
      (view_in before.writer) (view_in after.writer)) drops
      ((did.made.done goes_on).lost stops (ap (λ (p : WriterPolicy). loses p) drops))

-- ---- of a writer that is lent

-- it was out of chunks
pub out_of_chunks : (old : OwnedWriter) (table : HostTable) (new : TraceWriter) → IsReady old → table ≡ table_of old
    → LosesBehind (setup_in table) (range_in (route_of (core_of old.writer)).arbiter) 1 (view_of old) (view_in new)
    → IsOutOfChunks old (behind old new)
out_of_chunks old table new ready same lost =
    subst (λ (range : ChunkRange). LosesBehind (setup_in (table_of old)) range 1 (view_of old) (view_in new))
    (sym ready.writes.agrees.writes.route.range)
    (subst (λ (t : HostTable). LosesBehind (setup_in t) (range_in (route_of (core_of old.writer)).arbiter) 1 (view_of old) (view_in new))
    same lost)

-- a packet's begin was answered
abbrev answered : BegunPacket → Result BegunPacket CallFault
answered begun = Ok begun

-- a packet is dropped where its begin stops
pub dropping_stops : (answer : Result BegunPacket CallFault) (begun : BegunPacket) → answer ≡ Ok begun → begun ≡ Dropping
    → stops_with answer ≡ true
dropping_stops answer begun is drops =
    ap (λ (r : Result BegunPacket CallFault). stops_with r) is ∙ ap (λ (b : BegunPacket). stops_with (answered b)) drops

-- a field was noted, where it wasn't refused
pub field_noted : (old : OwnedWriter) (new : TraceWriter) (call : Call) (stopped : Bool) (answer : Result (Unit {0}) CallFault)
    → IsReady old
    → IfOk answer (λ _. (view_in new).calls ≡ (view_of old).calls ++ written_as stopped (route_of (core_of old.writer)).spec.policy call)
    → IfOk answer (λ _. NotesField old (behind old new) call)
field_noted old new call stopped answer ready noted =
    if_ok_map answer (λ calls. (
      stopped,
      record {
        calls = subst (λ (p : WriterPolicy). (view_in new).calls ≡ (view_of old).calls ++ written_as stopped p call) ready.drops calls;
        table = refl;
        number = refl;
      },
    )) noted

-- and nothing, where it was
pub refused_noted : (old : OwnedWriter) (new : TraceWriter) (answer : Result (Unit {0}) CallFault) → OnErr answer
    ((view_in new).calls ≡ (view_of old).calls)
    → OnErr answer (Stays old (behind old new))
refused_noted old new (Ok done) same = tt
refused_noted old new (Err fault) same = record { calls = same ∙ sym (append-nil (view_of old).calls); table = refl; number = refl }

-- a packet's begin was noted
pub begin_noted : (old : OwnedWriter) (new : TraceWriter) (begun : BegunPacket) → IsReady old
    → (view_in new).calls ≡ (view_of old).calls ++ begun_as (stops_with (answered begun)) (route_of (core_of old.writer)).spec.policy
    → Notes old (behind old new) (noted_begin begun)
begin_noted old new begun ready calls = record {
  calls = (subst (λ (p : WriterPolicy). (view_in new).calls ≡ (view_of old).calls ++ begun_as
      (stops_with (answered begun)) p) ready.drops calls)
      ∙ ap (λ (l : List Call). (view_of old).calls ++ l) (named begun);
  table = refl;
  number = refl;
}
  where
    named : (b : BegunPacket) → begun_as (stops_with (answered b)) Drops ≡ noted_begin b
    named Kept = refl
    named Dropping = refl

-- ---- what a call of it leaves

module _ {A H : Type 0} {helps : H → ℕ → Bool → H → Type 0} {of_table : H → TableId → Type 0} {call : Call} {stopped : Bool} {table : Shared}
    {help left : Asks H} {steps later : ℕ} (never : DropsNeverStall) (old : OwnedWriter) (new : TraceWriter) (answer : Result A CallFault)
    (ready : IsReady old) (same : table.table.now ≡ table_of old)
    (did : IsCall helps of_table call stopped table (caller old.writer help steps) answer (caller new left later)) where
  -- it goes on before the call
  pub going : is_stalled (core_of old.writer) ≡ false
  going = goes never old ready

  -- it is ready behind it
  pub again : IsReady (behind old new)
  again = ready_again old table.table.now new ready same did.may_call.writes did.made.route (place_stays did ready.drops)

  -- and goes on
  pub on : is_stalled (core_of new) ≡ false
  on = goes never (behind old new) again

-- a field was written or refused
pub writes_field : {H : Type 0} {helps : H → ℕ → Bool → H → Type 0} {of_table : H → TableId → Type 0} {stopped : Bool} {table : Shared}
    {help left : Asks H} {steps later : ℕ} (never : DropsNeverStall) (old : OwnedWriter) (new : TraceWriter) (call : Call)
    (answer : Result (Unit {0}) CallFault) → IsReady old → table.table.now ≡ table_of old
    → IsCall helps of_table call stopped table (caller old.writer help steps) answer (caller new left later)
    → noted_as stopped Drops call ≡ written_as stopped Drops call → in_packet (view_in new) ≡ true
    → WritesField call answer old (behind old new)
writes_field {stopped = stopped} never old new call answer ready same did written begun =
    let reason = packet_fault (view_of old) call in
    let went = going never old new answer ready same did in
    let goes_on = on never old new answer ready same did in
    record {
      ready = again never old new answer ready same did;
      notes = field_noted old new call stopped answer ready
          (subst (λ (noted : List Call). IfOk answer (λ _. (view_in new).calls ≡ (view_of old).calls ++ noted)) (as_written ready.drops)
          (noted_if_ok answer reason refl did went));
      refused = refused_noted old new answer (same_if_refused answer reason refl did went goes_on);
      reason = reason_is answer reason refl did went goes_on;
      begun = begun;
    }
  where
    as_written : {policy : WriterPolicy} → policy ≡ Drops → noted_as stopped policy call ≡ written_as stopped policy call
    as_written is = subst (λ (p : WriterPolicy). noted_as stopped p call ≡ written_as stopped p call) (sym is) written

-- a call that needs no chunk was noted
pub quiet_noted : (old : OwnedWriter) (new : TraceWriter) (table : Shared) (noted : List Call) → is_stalled (core_of old.writer) ≡ false
    → IsQuietCall table (core_of old.writer) (core_of new) noted → Notes old (behind old new) noted
quiet_noted old new table noted going call = record { calls = call.notes going; table = refl; number = refl }

-- what was noted where the answer says so
pub noted_of : {P : Type 0} (answer : Result (Unit {0}) CallFault) (code : ℕ) → code ≡ field_answer answer → code ≡ OK → IfOk answer
    (λ _. P) → P
noted_of (Ok done) code is ok noted = noted
noted_of (Err fault) code is ok noted = let wrong : OK ≡ REFUSED = sym ok ∙ is in absurd (omega (arith, wrong))
