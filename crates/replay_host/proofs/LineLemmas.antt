-- From one line to the next: what a line changes of what is kept between two lines.
use Rattle.std.proofs.Common.{◌≡◌, ◌∙◌, ℕ, suc, ◌+◌, ◌<◌, ◌≤◌, ◌==◌, ◌||◌, Bool, true, false, not, cond, Some, List, [], ◌∷◌, ◌++◌, length, vec_len, refl, sym, ap, subst, arith, append_assoc, append-nil, inl, inr}
use Rattle.std.proofs.lemmas.Grind.{fold-append}
use Rattle.std.proofs.lemmas.List.Folds.{list_any-append}
use Rattle.std.specs.Prelude.{slice_get, vec_capacity}
use Rattle.std.proofs.lemmas.Bool.{eq-eqb, eqb-true, cases_eq}
use Rattle.std.proofs.Math.Bool.{or-false}
use Rattle.trace_model.specs.Calls.{Call}
use Rattle.model_laws.specs.Losses.{Loses}
use Rattle.scenario_text.specs.declared.scenario.NumberedLine.{NumberedLine}
use Rattle.scenario_text.specs.Scenario.{Parts}
use Rattle.scenario_text.specs.Accepted.{line_calls, calls_asked, closes, is_closed_by}
use Rattle.scenario_text.proofs.AcceptedLemmas.{calls_more}
use Rattle.chunk_plain.specs.Meaning.{Meaning}
use Rattle.trace_writer.specs.declared.writer.WriterCore.{WriterCore}
use Rattle.world_model.specs.FirstBuffers.{payload_at}
use Rattle.service_core.proofs.AgreeLemmas.{first_stays}
use Rattle.session_core.specs.Sessions.{SessionValue}
use Rattle.replay_model.specs.ActNotes.{ActNote}
use Rattle.replay_model.specs.Flushes.{requests_in}
use Rattle.replay_model.specs.Schedule.{is_due, is_due_after}
use Rattle.replay_host.specs.declared.host.Host.{Host}
use Rattle.replay_host.specs.Asking.{IsReadyFor, AreReady}
use Rattle.replay_host.specs.Asks.{AsksFor, AsksNothing}
use Rattle.replay_host.specs.Lines.{MOST_REQUESTS, IsKept, IsGoing, coming_at, last_flush, is_open_at}
use Rattle.replay_host.specs.Playing.{IsHost, HasAsked, asked_all}
use Rattle.replay_host.specs.Raws.{raws_in}
use Rattle.replay_host.specs.Tally.{IsTally}
use Rattle.replay_host.proofs.RawLinesLemmas.{raws_fall}
use Rattle.replay_host.proofs.GoingLemmas.{kept_still, writer_was}

-- ---- functions of the lines

or_false : (b c : Bool) → c ≡ false → (b || c) ≡ b
or_false true c none = refl
or_false false c none = none

pub closed_more : (producer : ℕ) (before : List NumberedLine) (line : NumberedLine)
    → is_closed_by (before ++ line ∷ []) producer ≡ (is_closed_by before producer || closes producer line.what)
closed_more producer before line =
    list_any-append (λ (one : NumberedLine). closes producer one.what) before (line ∷ [])
    ∙ ap (λ (b : Bool). is_closed_by before producer || b) (or-false (closes producer line.what))

pub closed_same : (producer : ℕ) (before : List NumberedLine) (line : NumberedLine) → closes producer line.what ≡ false
    → is_closed_by (before ++ line ∷ []) producer ≡ is_closed_by before producer
closed_same producer before line none =
    closed_more producer before line ∙ or_false (is_closed_by before producer) (closes producer line.what) none

pub due_more : (number : ℕ) (before : List NumberedLine) (line : NumberedLine) → is_due number (before ++ line ∷ []) ≡ is_due_after number (is_due number before) line.what
due_more number before line = fold-append (λ (due : Bool) (one : NumberedLine). is_due_after number due one.what) false before (line ∷ [])

-- ---- which calls come next

-- the calls that come, where a line asks the writer at this place for some
coming_line : (scenario : Parts) (line : NumberedLine) (rest : List NumberedLine) (place : ℕ) (calls : List Call) → AsksFor line.what place calls
    → (other : ℕ) → coming_at scenario (line ∷ rest) other ≡ asked_all place calls (coming_at scenario rest) other
coming_line scenario line rest place calls asks other = by_place (other == place) refl
  where
    last : List Call
    last = last_flush (is_open_at scenario scenario.lines other)

    by_place : (b : Bool) → (other == place) ≡ b → coming_at scenario (line ∷ rest) other ≡ cond b (calls ++ coming_at scenario rest other) (coming_at scenario rest other)
    by_place true same =
        let here = eqb-true other place same in
        append_assoc (line_calls (suc other) line.what) (calls_asked (suc other) rest) last
        ∙ ap (λ (cs : List Call). cs ++ coming_at scenario rest other) (ap (λ (n : ℕ). line_calls (suc n) line.what) here ∙ asks.own)
    by_place false apart =
        ap (λ (cs : List Call). (cs ++ calls_asked (suc other) rest) ++ last)
        (asks.others (suc other) (λ same. let here : other ≡ place = omega (arith, same) in
        (let test : (other == place) ≡ true = eq-eqb other place here in let never : true ≡ false = sym test ∙ apart in cc)))

pub ready_line : {T W S : Type 0} (means : Meaning T W S) (table : T) (cores : List (WriterCore W)) (scenario : Parts) (line : NumberedLine) (rest : List NumberedLine)
    (place : ℕ) (calls : List Call) → AsksFor line.what place calls → AreReady means table cores (coming_at scenario (line ∷ rest))
    → AreReady means table cores (asked_all place calls (coming_at scenario rest))
ready_line means table cores scenario line rest place calls asks ready other core at =
    subst (λ (cs : List Call). IsReadyFor (payload_at (means.setup table) other) (means.view table core.seat) cs)
    (coming_line scenario line rest place calls asks other) (ready other core at)

pub ready_nothing : {T W S : Type 0} (means : Meaning T W S) (table : T) (cores : List (WriterCore W)) (scenario : Parts) (line : NumberedLine) (rest : List NumberedLine)
    → ((number : ℕ) → line_calls number line.what ≡ []) → AreReady means table cores (coming_at scenario (line ∷ rest))
    → AreReady means table cores (coming_at scenario rest)
ready_nothing means table cores scenario line rest none ready other core at =
    subst (λ (cs : List Call). IsReadyFor (payload_at (means.setup table) other) (means.view table core.seat) cs)
    (ap (λ (cs : List Call). (cs ++ calls_asked (suc other) rest) ++ last_flush (is_open_at scenario scenario.lines other)) (none (suc other))) (ready other core at)

-- ---- a line that asks a writer for calls

-- behind a line that closes no producer the same producers count as open
pub kept_more : {T W S : Type 0} (means : Meaning T W S) (scenario : Parts) (before : List NumberedLine) (line : NumberedLine) (notes : List ActNote) (host : Host T W S)
    → ((producer : ℕ) → closes producer line.what ≡ false) → IsKept means scenario before notes host → IsKept means scenario (before ++ line ∷ []) notes host
kept_more means scenario before line notes host none kept = record {
  is_host = kept.is_host;
  laid = kept.laid;
  first = kept.first;
  few_producers = kept.few_producers;
  flags = λ producer least most. kept.flags producer least most ∙ ap not (sym (closed_same producer before line (none producer)));
  tally = kept.tally;
}

pub going_asked : {T W S : Type 0} (means : Meaning T W S) (scenario : Parts) (before : List NumberedLine) (line : NumberedLine) (rest : List NumberedLine)
    (notes : List ActNote) (place : ℕ) (calls : List Call) (old new : Host T W S) → AsksFor line.what place calls
    → IsGoing means scenario before (line ∷ rest) notes old → IsHost means new → HasAsked means place calls old new
    → IsGoing means scenario (before ++ line ∷ []) rest notes new
going_asked {T} {W} {S} means scenario before line rest notes place calls old new asks going host asked =
    let first = first_stays (means.setup old.table) old.helper.service new.helper.service asked.service.keeps.fields in
    let tally : IsTally (notes ++ []) (length scenario.writers) new.flushes =
    subst (λ (f : _). IsTally (notes ++ []) (length scenario.writers) f) (sym asked.books.flushes)
    (subst (λ (ns : List ActNote). IsTally ns (length scenario.writers) old.flushes) (sym (append-nil notes)) going.kept.tally) in
    let kept = kept_still means scenario before notes [] old new going.kept host asked.service.setup_is first asked.books.opened tally in
    let session : new.helper.service.session ≡ old.helper.service.session = asked.service.keeps.fields.session in
    record {
      kept = kept_more means scenario before line notes new asks.closes_none (subst (λ (ns : List ActNote). IsKept means scenario before ns new) (append-nil notes) kept);
      wrote = λ other core at.
          let was = writer_was old.writers.items new.writers.items other core asked.many at in
          subst (λ (cs : List Call). Loses cs (means.view new.table core.seat).calls) (sym (calls_more (suc other) before line))
          (wrote_more other core was.0 was.1 at (going.wrote other was.0 was.1));
      ready = asked.ready (coming_at scenario rest) (ready_line means old.table old.writers.items scenario line rest place calls asks going.ready);
      room = ap (λ (f : _). f.made + requests_in rest) asked.books.flushes
          ∙ (let none = asks.no_request in let was = going.room in let is : old.flushes.made + requests_in rest ≡ vec_len old.flushes.chunks = omega (arith, none, was) in is)
          ∙ ap (λ (f : _). vec_len f.chunks) (sym asked.books.flushes);
      few = subst (λ (f : _). vec_len f.chunks < MOST_REQUESTS) (sym asked.books.flushes) going.few;
      told_room = subst (λ (f : _). vec_len f.answers + raws_in rest ≤ vec_capacity f.answers) (sym asked.books.flushes)
          (let fall = raws_fall line rest in let was = going.told_room in omega (arith, fall, was));
      started = ap (λ (s : SessionValue). s.state) session ∙ going.started;
      requests = ap (λ (s : SessionValue). s.requests) session ∙ going.requests ∙ ap (λ (f : _). f.made) (sym asked.books.flushes);
    }
  where
    wrote_more : (other : ℕ) (core was : WriterCore W) → slice_get old.writers.items other ≡ Some was → slice_get new.writers.items other ≡ Some core
        → Loses (calls_asked (suc other) before) (means.view old.table was.seat).calls
        → Loses (calls_asked (suc other) before ++ line_calls (suc other) line.what) (means.view new.table core.seat).calls
    wrote_more other core was at_old at_new loses = elim (cases_eq other place) [
      | inl here ↦
          subst (λ (cs : List Call). Loses (calls_asked (suc other) before ++ cs) (means.view new.table core.seat).calls)
          (sym (ap (λ (n : ℕ). line_calls (suc n) line.what) here ∙ asks.own))
          (asked.own was core (subst (λ (n : ℕ). slice_get old.writers.items n ≡ Some was) here at_old)
          (subst (λ (n : ℕ). slice_get new.writers.items n ≡ Some core) here at_new) (calls_asked (suc other) before) loses)
      | inr apart ↦
          subst (λ (cs : List Call). Loses (calls_asked (suc other) before ++ cs) (means.view new.table core.seat).calls)
          (sym (asks.others (suc other) (λ same. apart (omega (arith, same)))))
          (subst (λ (cs : List Call). Loses cs (means.view new.table core.seat).calls) (sym (append-nil (calls_asked (suc other) before)))
          (subst (λ (cs : List Call). Loses (calls_asked (suc other) before) cs) (sym (asked.others other was core apart at_old at_new)) loses))
    ]

-- ---- a line that asks none, and is no request

pub going_nothing : {T W S : Type 0} (means : Meaning T W S) (scenario : Parts) (before : List NumberedLine) (line : NumberedLine) (rest : List NumberedLine)
    (notes : List ActNote) (host : Host T W S) → AsksNothing line.what → IsKept means scenario (before ++ line ∷ []) notes host
    → IsGoing means scenario before (line ∷ rest) notes host → IsGoing means scenario (before ++ line ∷ []) rest notes host
going_nothing means scenario before line rest notes host nothing kept going = record {
  kept = kept;
  wrote = λ place core at.
      subst (λ (cs : List Call). Loses cs (means.view host.table core.seat).calls)
      (sym (append-nil (calls_asked (suc place) before)) ∙ ap (λ (cs : List Call). calls_asked (suc place) before ++ cs) (sym (nothing.none (suc place)))
      ∙ sym (calls_more (suc place) before line)) (going.wrote place core at);
  ready = ready_nothing means host.table host.writers.items scenario line rest nothing.none going.ready;
  room = (let none = nothing.no_request in let was = going.room in omega (arith, none, was));
  few = going.few;
  told_room = (let fall = raws_fall line rest in let was = going.told_room in omega (arith, fall, was));
  started = going.started;
  requests = going.requests;
}
