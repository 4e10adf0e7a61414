-- The reading pass goes through the calls on a lent table, and knows the reads behind them.
use Rattle.std.proofs.Common.{◌≡◌, ◌∙◌, ◌⊎◌, inl, inr, ℕ, Result, Ok, Err, IfOk, OnErr, List, [], ◌∷◌, ◌++◌, refl, sym, ap, subst, append_assoc, append-nil}
use Rattle.std.specs.List.{All, flat_map}
use Rattle.std.proofs.lemmas.List.{append_cancel_left}
use Rattle.atomic_table.specs.Seated.{TableId}
use Rattle.byte_io.specs.declared.put.WriteFault.{WriteFault}
use Rattle.trace_model.specs.Delivery.{Delivered}
use Rattle.trace_model.specs.History as model
use Rattle.trace_model.specs.History.{buffers_after, records_after}
use Rattle.chunk_plain.specs.Setup.{Setup}
use Rattle.chunk_plain.specs.Histories.{history_of}
use Rattle.chunk_plain.specs.Steps.{notes}
use Rattle.chunk_plain.specs.Views.{Noted, ServiceView, asked_in}
use Rattle.chunk_words.specs.declared.host.HostTable.{HostTable}
use Rattle.chunk_words.specs.declared.seats.ReadPass.{ReadPass}
use Rattle.chunk_words.specs.declared.seats.ServiceSeat.{ServiceSeat}
use Rattle.chunk_words.specs.GoesOn.{IsReadNote, GoesOn}
use Rattle.chunk_words.specs.Knows.{Desk, Away, with_stage}
use Rattle.chunk_words.specs.Named.{identity_of}
use Rattle.chunk_words.specs.Sits.{Attends, Passes, known_by_pass, known_by_service, desk_by_service}
use Rattle.chunk_words.proofs.Passing.{goes_same, goes_further}
use Rattle.service_core.specs.declared.service.ServiceCore.{ServiceCore}
use Rattle.service_core.specs.Agreement.{first_of}
use Rattle.service_core.specs.Reading.{noted_read, reads_in, NotesReads, ReadMoment, ReadsAll, FailsAmong}
use Rattle.service_core.proofs.QuietLemmas.{adds_quiet}
use Rattle.thread_service.specs.Passing.{KnowsReads, NoneRead, SomeRead, PassesOn}
use Rattle.thread_service.specs.Reading.{GoesUnread, records_of, IsKnownWhole, PassReads}
use Rattle.thread_service.proofs.GoingOn.{goes_adds, goes_unread, goes_same_history, same_records, all_front, all_back, none_of_both, noted_are_reads, knows_further, knows_read, none_more, some_more}

module _ (id : TableId) (passed before : ServiceView) (desk : Desk) (table : HostTable) where
  -- nothing is done yet
  pub passes_start : (pass : ReadPass) (seat : ServiceSeat) → Attends table seat → Passes table pass → identity_of table ≡ id
      → known_by_pass pass ≡ passed → known_by_service seat ≡ before → desk_by_service seat ≡ desk → IsKnownWhole (known_by_service seat) → PassesOn id passed before desk table pass seat
  passes_start pass seat attends passes table_is passed_is before_is desk_is known =
      let view = known_by_service seat in
      record {
        attends = attends;
        passes = passes;
        same_table = table_is;
        desk_is = ap (λ (d : Desk). with_stage d Away) desk_is;
        knows = subst (λ (v : ServiceView). KnowsReads v view) before_is (record { rest = []; events = sym (append-nil view.events); known = λ _. known });
        since = inl (record { same = passed_is; goes = subst (λ (v : ServiceView). GoesOn v view) before_is (goes_same view) });
      }

  -- the service's view goes on, and no read is noted
  pub passes_further : (pass : ReadPass) (seat after : ServiceSeat) → PassesOn id passed before desk table pass seat → Attends table after
      → desk_by_service after ≡ desk_by_service seat → GoesOn (known_by_service seat) (known_by_service after) → PassesOn id passed before desk table pass after
  passes_further pass seat after on attends kept goes =
      let view = known_by_service seat in let next = known_by_service after in let known = known_by_pass pass in
      let none : NoneRead passed before known view → NoneRead passed before known next = λ n. record { same = n.same; goes = goes_further before view next n.goes goes } in
      let some : SomeRead passed before known view → SomeRead passed before known next = λ s. record {
        first = s.first;
        from_pass = s.from_pass;
        from_view = s.from_view;
        further = s.further;
        knows = s.knows;
        goes = goes_further known view next s.goes goes;
      } in
      record {
        attends = attends;
        passes = on.passes;
        same_table = on.same_table;
        desk_is = ap (λ (d : Desk). with_stage d Away) kept ∙ on.desk_is;
        knows = knows_further before view next on.knows goes;
        since = elim on.since [ inl n ↦ inl (none n) | inr s ↦ inr (some s) ];
      }

  -- a read is noted with the pass
  pub passes_read : (pass behind : ReadPass) (seat after : ServiceSeat) (note : Noted) → IsReadNote note → PassesOn id passed before desk table pass seat
      → Passes table behind → Attends table after → desk_by_service after ≡ with_stage (desk_by_service seat) Away
      → GoesOn (known_by_pass pass) (known_by_service seat)
      → known_by_service after ≡ notes (known_by_service seat) note → known_by_pass behind ≡ known_by_service after
      → PassesOn id passed before desk table behind after
  passes_read pass behind seat after note read on passes attends kept goes noted known =
      let view = known_by_service seat in let next = known_by_service after in
      let knows = knows_read before view note read on.knows in
      let goes_on = subst (λ (v : ServiceView). GoesOn v next) (sym known) (goes_same next) in
      let here = subst (λ (v : ServiceView). KnowsReads before v) (sym (known ∙ noted)) knows in
      let behind_events : (known_by_pass behind).events ≡ view.events ++ note ∷ [] = ap (λ (v : ServiceView). v.events) (known ∙ noted) in
      let none : NoneRead passed before (known_by_pass pass) view → SomeRead passed before (known_by_pass behind) next = λ n. record {
        first = view;
        from_pass = subst (λ (v : ServiceView). GoesOn v view) n.same goes;
        from_view = n.goes;
        further = record { rest = note ∷ []; is = behind_events };
        knows = here;
        goes = goes_on;
      } in
      let some : SomeRead passed before (known_by_pass pass) view → SomeRead passed before (known_by_pass behind) next = λ s. record {
        first = s.first;
        from_pass = s.from_pass;
        from_view = s.from_view;
        further = record {
          rest = s.further.rest ++ (s.goes.rest ++ note ∷ []);
          is = behind_events ∙ ap (λ (ns : List Noted). ns ++ note ∷ []) s.goes.events
              ∙ append_assoc (known_by_pass pass).events s.goes.rest (note ∷ [])
              ∙ ap (λ (ns : List Noted). ns ++ (s.goes.rest ++ note ∷ [])) s.further.is
              ∙ append_assoc s.first.events s.further.rest (s.goes.rest ++ note ∷ []);
        };
        knows = here;
        goes = goes_on;
      } in
      record {
        attends = attends;
        passes = passes;
        same_table = on.same_table;
        desk_is = ap (λ (d : Desk). with_stage d Away) kept ∙ on.desk_is;
        knows = subst (λ (v : ServiceView). KnowsReads before v) (sym noted) knows;
        since = inr (elim on.since [ inl n ↦ none n | inr s ↦ some s ]);
      }

-- what became of the views since
abbrev pub Since : (passed before pass view : ServiceView) → Type 0
Since passed before pass view = NoneRead passed before pass view ⊎ SomeRead passed before pass view

pub since_back : (passed before pass view was from : ServiceView) → was ≡ passed → from ≡ before → Since passed before pass view → Since was from pass view
since_back passed before pass view was from passed_is before_is since =
    subst (λ (p : ServiceView). Since p from pass view) (sym passed_is) (subst (λ (b : ServiceView). Since passed b pass view) (sym before_is) since)

-- some reads were noted, whether a write failed or not
pub some_noted : {S : Type 0} (setup : Setup) (core : ServiceCore S) (number limit : ℕ) (before after : ReadMoment) (result : Result ℕ WriteFault)
    → IfOk result (λ delivered. ReadsAll setup core number limit delivered before after) → OnErr result (FailsAmong setup core number limit before after)
    → (events : List model.Event) × NotesReads setup core events before.view after.view
some_noted setup core number limit before after (Ok delivered) reads fails = (reads_in setup core.buffers.items number limit, reads.notes)
some_noted setup core number limit before after (Err fault) reads fails =
    (fails.firsts ++ model.Read fails.sequence fails.count ∷ [], fails.notes)

module _ {S : Type 0} (setup : Setup) (core : ServiceCore S) (events : List model.Event) (passed before pass view : ServiceView) (notes_ : NotesReads setup core events before view) where
  more_noted : view.events ≡ before.events ++ flat_map noted_read events
  more_noted = ap (λ (v : ServiceView). v.events) notes_.view

  known_some : SomeRead passed before pass view → IsKnownWhole pass
  known_some some =
      let same = append_cancel_left before.events (some.knows.rest ++ some.goes.rest) (flat_map noted_read events)
      (sym (some.goes.events ∙ (ap (λ (ns : List Noted). ns ++ some.goes.rest) some.knows.events ∙ append_assoc before.events some.knows.rest some.goes.rest)) ∙ more_noted) in
      some.knows.known (all_front some.knows.rest some.goes.rest (subst (λ (ns : List Noted). All IsReadNote ns) (sym same) (noted_are_reads events)))

  -- what the pass knows is known whole
  pub known_behind : IsKnownWhole passed → NoneRead passed before pass view ⊎ SomeRead passed before pass view → IsKnownWhole pass
  known_behind known since = elim since [ inl n ↦ subst IsKnownWhole (sym n.same) known | inr s ↦ known_some s ]

  -- where the view went on without a read, there was none
  none_noted : IsKnownWhole before → (goes : GoesOn before view) → events ≡ []
  none_noted known goes =
      let same = append_cancel_left before.events goes.rest (flat_map noted_read events) (sym goes.events ∙ more_noted) in
      let none = none_of_both goes.rest (subst (λ (ns : List Noted). All IsReadNote ns) (sym same) (noted_are_reads events)) goes.no_read in
      append_cancel_left (history_of before) events []
      (sym notes_.history ∙ goes_same_history before view known goes none ∙ sym (append-nil (history_of before)))

  all_reads : (some : SomeRead passed before pass view) → All IsReadNote (some.from_view.rest ++ (some.further.rest ++ some.goes.rest))
  all_reads some =
      let q = some.from_view.rest in let r = some.further.rest in let t = some.goes.rest in
      let is : view.events ≡ before.events ++ (q ++ (r ++ t)) =
      some.goes.events
      ∙ ap (λ (ns : List Noted). ns ++ t) (some.further.is ∙ ap (λ (ns : List Noted). ns ++ r) some.from_view.events)
      ∙ append_assoc (before.events ++ q) r t
      ∙ append_assoc before.events q (r ++ t) in
      let same = append_cancel_left before.events (q ++ (r ++ t)) (flat_map noted_read events) (sym is ∙ more_noted) in
      subst (λ (ns : List Noted). All IsReadNote ns) (sym same) (noted_are_reads events)

  -- at the first read the service had noted nothing more
  first_history : IsKnownWhole before → (some : SomeRead passed before pass view) → history_of some.first ≡ history_of before
  first_history known some = goes_same_history before some.first known some.from_view
      (none_of_both some.from_view.rest (all_front some.from_view.rest (some.further.rest ++ some.goes.rest) (all_reads some)) some.from_view.no_read)

  -- and nothing more since the last one
  last_history : (some : SomeRead passed before pass view) → history_of view ≡ history_of pass
  last_history some = goes_same_history pass view (known_some some) some.goes
      (none_of_both some.goes.rest
      (all_back some.further.rest some.goes.rest (all_back some.from_view.rest (some.further.rest ++ some.goes.rest) (all_reads some)))
      some.goes.no_read)

  goes_records : (old new : ServiceView) → IsKnownWhole old → GoesOn old new → records_of setup core new ≡ records_of setup core old
  goes_records old new known goes = adds_quiet (first_of setup core) old new known (goes_adds old new goes)

  -- and it knows the reads more, with their records
  pub pass_reads : core.buffers.items ≡ buffers_after (first_of setup core) (history_of before) → IsKnownWhole passed → IsKnownWhole before → NoneRead passed before pass view ⊎ SomeRead passed before pass view → PassReads setup core events passed pass
  pass_reads buffers known_pass known_view since =
      let records : ServiceView → List Delivered = λ v. records_of setup core v in
      let wrote = records_after core.buffers.items events in
      let none : NoneRead passed before pass view → PassReads setup core events passed pass = λ n. record {
        before = history_of passed;
        goes = record { others = []; goes = sym (append-nil (history_of passed)); unread = refl };
        history = ap history_of n.same ∙ sym (append-nil (history_of passed))
            ∙ ap (λ (es : List model.Event). history_of passed ++ es) (sym (none_noted known_view n.goes));
        buffers = inl (none_noted known_view n.goes);
        records = none_more records passed before pass view wrote notes_.trace n.same (goes_records before view known_view n.goes);
      } in
      let some : SomeRead passed before pass view → PassReads setup core events passed pass = λ s. record {
        before = history_of before;
        goes = subst (λ (es : List model.Event). GoesUnread (history_of passed) es) (first_history known_view s)
            (goes_unread passed s.first known_pass s.from_pass);
        history = sym (last_history s) ∙ notes_.history;
        buffers = inr buffers;
        records = some_more records passed before pass view wrote notes_.trace s.first (goes_records passed s.first known_pass s.from_pass)
            (goes_records before s.first known_view s.from_view) (goes_records pass view (known_some s) s.goes);
      } in
      elim since [ inl n ↦ none n | inr s ↦ some s ]

-- The service's view went on without a read, and behind it nothing happened: the pass that knows all of it knows no read more.
pub passes_request : {S : Type 0} (setup : Setup) (core : ServiceCore S) (passed view behind : ServiceView) → IsKnownWhole passed → GoesOn passed view
    → history_of behind ≡ history_of view → PassReads setup core [] passed behind
passes_request setup core passed view behind known goes same =
    let first = first_of setup core in
    let unread = goes_unread passed view known goes in
    record {
      before = history_of view;
      goes = unread;
      history = same ∙ sym (append-nil (history_of view));
      buffers = inl refl;
      records = ap (λ (es : List model.Event). records_after first es) same ∙ same_records first (history_of passed) (history_of view) unread
          ∙ sym (append-nil (records_of setup core passed));
    }

-- since then the service made no request
pub asked_behind : (passed before pass view : ServiceView) → view.letters ≡ before.letters → NoneRead passed before pass view ⊎ SomeRead passed before pass view
    → asked_in pass.letters ≡ asked_in passed.letters
asked_behind passed before pass view same since = elim since [
  | inl n ↦ ap (λ (v : ServiceView). asked_in v.letters) n.same
  | inr s ↦ sym s.goes.asked ∙ ap asked_in same ∙ sym s.from_view.asked ∙ s.from_pass.asked
]
