-- What a call of a writer over a lent table says of the writer of a thread.
use Rattle.std.proofs.Common.{◌≡◌, ◌∙◌, ℕ, ◌+◌, Bool, true, false, Option, Some, None, Result, List, [], ◌∷◌, ◌++◌, subst, sym, refl, ap, append-nil}
use Rattle.atomic_table.specs.Seated.{TableId}
use Rattle.trace_model.specs.Calls.{Call}
use Rattle.chunk_plain.specs.Letters.{last_flush}
use Rattle.chunk_plain.specs.Views.{At, BegunChunk, Completed, Letters, Reply, WriterView}
use Rattle.chunk_words.specs.declared.shared.Shared.{Shared}
use Rattle.chunk_words.specs.declared.seats.WriterSeat.{WriterSeat}
use Rattle.chunk_words.specs.contracts.shared.SharedWords.TheImpl.{ghosts as shared}
use Rattle.chunk_words.specs.Sits.{setup_in, known_by}
use Rattle.trace_writer.specs.declared.fault.CallFault.{CallFault}
use Rattle.trace_writer.specs.declared.route.Route.{Route}
use Rattle.trace_writer.specs.declared.writer.WriterCore.{WriterCore}
use Rattle.trace_writer.specs.Answered.{KeepsCompleted, IsAnsweredCut}
use Rattle.trace_writer.specs.Asked.{noted_as}
use Rattle.trace_writer.specs.Calling.{MakesCall, NotesCall, fault_at}
use Rattle.trace_writer.specs.Core.{CoreAgrees, is_stalled, route_of}
use Rattle.trace_writer.specs.Moments.{CallMoment, at_call}
use Rattle.trace_writer.specs.OwnSteps.{KeepsChunks}
use Rattle.trace_writer.proofs.holding.Answering.{quiet_keeps, works_keep_completed, cut_stays}
use Rattle.thread_writer.specs.declared.helper.Asks.{Asks}
use Rattle.thread_writer.specs.declared.writer.TraceWriter.{TraceWriter}
use Rattle.chunk_words.specs.Named.{identity_of}
use Rattle.thread_writer.specs.Asking.{MayAsk, IsHelp}
use Rattle.thread_writer.specs.Writing.{core_of, view_in, AnswersAreCuts, Writes, IsCall, IsQuietCall, caller}
use Rattle.thread_writer.specs.Standing.{step_stays}
use Rattle.thread_writer.proofs.Identity.{works_stay, sits_back}

-- ---- what stays

-- calls are noted behind those that were, and what was completed stays
abbrev pub Stays : WriterView → WriterView → Type 0
Stays view new = (more : List Call) × (new.calls ≡ view.calls ++ more) × KeepsCompleted view.begun new.begun

pub all_stays : (view new : WriterView) → new.calls ≡ view.calls → new.begun ≡ view.begun → Stays view new
all_stays view new calls begun = (
  [],
  calls ∙ sym (append-nil view.calls),
  λ id chunk content at. subst (λ (l : List BegunChunk). At l id (Completed chunk content)) (sym begun) at,
)

quiet_stays : (halted : Bool) (view new : WriterView) (noted : List Call) → (halted ≡ true → new ≡ view) → (halted ≡ false → new.calls ≡ view.calls ++ noted)
    → KeepsChunks view.begun new.begun → Stays view new
quiet_stays true view new noted same notes keeps =
    ([], ap (λ (v : WriterView). v.calls) (same refl) ∙ sym (append-nil view.calls), quiet_keeps view.begun new.begun keeps)
quiet_stays false view new noted same notes keeps = (noted, notes refl, quiet_keeps view.begun new.begun keeps)

-- so what each answer counts is a cut still
pub cuts_stay : (old new : WriterCore WriterSeat) → AnswersAreCuts old → (route_of new).payload_size ≡ (route_of old).payload_size → new.seat.place ≡ old.seat.place
    → (known_by new.seat).letters.answers ≡ (known_by old.seat).letters.answers → Stays (known_by old.seat) (known_by new.seat) → AnswersAreCuts new
cuts_stay old new cuts size place same stays = λ n answer at.
    let was = cuts n answer (subst (λ (l : List Reply). At l n answer) same at) in
    let is = cut_stays (route_of old).payload_size (old.seat.place + 2) (known_by old.seat) (known_by new.seat) stays.0 answer stays.1 stays.2 was in
    subst (λ (p : ℕ). IsAnsweredCut (route_of new).payload_size (p + 2) (known_by new.seat) answer) (sym place)
    (subst (λ (z : ℕ). IsAnsweredCut z (old.seat.place + 2) (known_by new.seat) answer) (sym size) is)

-- the writer is one of the table again
pub writes_back : (table behind : Shared) (old new : TraceWriter) → Writes table.table.now old → new.policy ≡ old.policy → new.answered ≡ old.answered
    → (route_of (core_of new)).spec.policy ≡ (route_of (core_of old)).spec.policy → (route_of (core_of new)).payload_size ≡ (route_of (core_of old)).payload_size
    → identity_of behind.table.now ≡ identity_of table.table.now
    → shared.means.setup behind ≡ shared.means.setup table → shared.means.sits behind (core_of new).seat → (core_of new).seat.place ≡ (core_of old).seat.place
    → CoreAgrees (setup_in table.table.now) (core_of old).seat.place (view_in new) (core_of new)
    → (view_in new).letters ≡ (view_in old).letters → Stays (view_in old) (view_in new) → Writes table.table.now new
writes_back table behind old new was policy answered route size same setup sits place agrees letters stays = record {
  seat = sits_back table.table.now behind.table.now (core_of new).seat same setup sits;
  agrees = subst (λ (p : ℕ). CoreAgrees (setup_in table.table.now) p (view_in new) (core_of new)) (sym place) agrees;
  policy_is = policy ∙ was.policy_is ∙ sym route;
  answered_is = answered ∙ was.answered_is ∙ ap (λ (l : Letters). last_flush l.answers) (sym letters);
  cuts = cuts_stay (core_of old) (core_of new) was.cuts size place (ap (λ (l : Letters). l.answers) letters) stays;
}

either : {P : Type 0} (asked : Option CallFault) → ((fault : CallFault) → asked ≡ Some fault → P) → (asked ≡ None → P) → P
either None refused done = done refl
either (Some fault) refused done = refused fault refl

module _ {A H : Type 0} (helps : H → ℕ → Bool → H → Type 0) (of_table : H → TableId → Type 0) {call : Call} {stopped : Bool}
    {before after : CallMoment (Asks H) Shared WriterSeat} {answer : Result A CallFault} where
  -- the table behind a call that may ask the helper is the lent one
  same_table : MakesCall shared.means (MayAsk of_table) (IsHelp helps) call stopped before answer after
      → identity_of after.table.table.now ≡ identity_of before.table.table.now
  same_table made = either (fault_at shared.means call before)
      (λ fault is. ap (λ (s : Shared). identity_of s.table.now) (made.refused fault is).table_stays)
      (λ is. works_stay helps (route_of before.core) (made.done is).works)

  -- what was noted and completed stays
  call_stays : MakesCall shared.means (MayAsk of_table) (IsHelp helps) call stopped before answer after → Stays (known_by before.core.seat) (known_by after.core.seat)
  call_stays made = either (fault_at shared.means call before)
      (λ fault is. let same = (made.refused fault is).writer_stays in
      all_stays (known_by before.core.seat) (known_by after.core.seat) (ap (λ (c : WriterCore WriterSeat). (known_by c.seat).calls) same) (ap (λ (c : WriterCore WriterSeat). (known_by c.seat).begun) same))
      (λ is. let does = made.done is in
      (noted_as stopped (route_of before.core).spec.policy call, does.notes, works_keep_completed shared.means (route_of before.core) (IsHelp helps) does.works))

-- a call that may ask the helper, made by the writer that this core is
pub call_is : {A H : Type 0} {helps : H → ℕ → Bool → H → Type 0} {of_table : H → TableId → Type 0} {call : Call} {stopped : Bool} {answer : Result A CallFault}
    (table behind : Shared) (old new : TraceWriter) (core : WriterCore WriterSeat) (help left : Asks H) (steps later : ℕ)
    → core ≡ core_of old → Writes table.table.now old → new.policy ≡ old.policy → new.answered ≡ old.answered
    → MakesCall shared.means (MayAsk of_table) (IsHelp helps) call stopped (at_call core help table steps) answer (at_call (core_of new) left behind later)
    → IsCall helps of_table call stopped table (caller old help steps) answer (caller new left later)
call_is {helps = helps} {of_table = of_table} {call = call} {stopped = stopped} {answer = answer} table behind old new core help left steps later is was policy answered made =
    let same = same_table helps of_table made in
    record {
      behind = behind;
      same_table = same;
      made = subst (λ (c : WriterCore WriterSeat). MakesCall shared.means (MayAsk of_table) (IsHelp helps) call stopped (at_call c help table steps) answer
          (at_call (core_of new) left behind later)) is made;
      may_call = record {
        writes = writes_back table behind old new was policy answered (ap (λ (r : Route). r.spec.policy) (made.route ∙ ap route_of is))
            (ap (λ (r : Route). r.payload_size) (made.route ∙ ap route_of is)) same
            made.others.setup_stays made.others.seat_stays (made.others.place_stays ∙ ap (λ (c : WriterCore WriterSeat). c.seat.place) is)
            (subst (λ (c : WriterCore WriterSeat). CoreAgrees (setup_in table.table.now) c.seat.place (view_in new) (core_of new)) is made.agrees)
            (made.others.letters_stay ∙ ap (λ (c : WriterCore WriterSeat). (known_by c.seat).letters) is)
            (subst (λ (c : WriterCore WriterSeat). Stays (known_by c.seat) (view_in new)) is (call_stays helps of_table made));
        help = subst (of_table left.help) same made.needed;
      };
    }

module _ {call : Call} (table behind : Shared) (old new : TraceWriter) (before : WriterCore WriterSeat) (is : before ≡ core_of old)
    (made : NotesCall shared.means call table before behind (core_of new)) where
  -- a call that needs no chunk leaves the writer one of the table
  pub quiet_writes : Writes table.table.now old → new.policy ≡ old.policy → new.answered ≡ old.answered → Writes table.table.now new
  quiet_writes was policy answered =
      let quiet = made.quiet in
      let stays = quiet_stays (is_stalled before) (known_by before.seat) (view_in new) (call ∷ [])
      (λ halted. ap (λ (core : WriterCore WriterSeat). known_by core.seat) (made.stalled halted).0) made.notes quiet.chunks in
      writes_back table behind old new was policy answered (ap (λ (r : Route). r.spec.policy) (made.route ∙ ap route_of is))
      (ap (λ (r : Route). r.payload_size) (made.route ∙ ap route_of is)) (step_stays table behind before.seat (core_of new).seat quiet.step)
      quiet.step.setup_stays quiet.step.seat_stays (quiet.step.place_stays ∙ ap (λ (core : WriterCore WriterSeat). core.seat.place) is)
      (subst (λ (core : WriterCore WriterSeat). CoreAgrees (setup_in table.table.now) core.seat.place (view_in new) (core_of new)) is made.agrees)
      (quiet.step.letters_stay ∙ ap (λ (core : WriterCore WriterSeat). (known_by core.seat).letters) is)
      (subst (λ (core : WriterCore WriterSeat). Stays (known_by core.seat) (view_in new)) is stays)

  pub quiet_call : IsQuietCall table (core_of old) (core_of new) (call ∷ [])
  quiet_call = subst (λ (core : WriterCore WriterSeat). IsQuietCall table core (core_of new) (call ∷ [])) is (record {
    behind = behind;
    same_table = step_stays table behind before.seat (core_of new).seat made.quiet.step;
    stalled = made.stalled;
    goes = made.goes;
    notes = made.notes;
    quiet = made.quiet;
    route = made.route;
  })
