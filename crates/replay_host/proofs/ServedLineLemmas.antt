-- A line that the service plays alone.
use Rattle.std.proofs.Common.{◌≡◌, ◌∙◌, ℕ, suc, ◌+◌, ◌-◌, ◌<◌, ◌≤◌, ◌==◌, ◌&&◌, ◌||◌, Bool, true, false, not, List, [], ◌∷◌, ◌++◌, length, vec_len, get_or, set, inl, inr, refl, sym, ap, subst, arith, append-nil}
use Rattle.std.specs.Prelude.{slice_index, slice_index_or, slice_set, nat_lt, vec_capacity}
use Rattle.std.proofs.lemmas.Bool.{eq-eqb, ne_eqb, cases_eq, or_right}
use Rattle.std.proofs.lemmas.List.{get_or-set_same, get_or-set_other}
use Rattle.byte_io.specs.Bytes.{Intake}
use Rattle.trace_model.specs.Calls.{Call}
use Rattle.trace_model.specs.Packets.{packets_of, is_writing}
use Rattle.model_laws.specs.Losses.{Loses}
use Rattle.scenario_text.specs.declared.scenario.NumberedLine.{NumberedLine}
use Rattle.scenario_text.specs.declared.scenario.LineKind.TheVariants as line
use Rattle.scenario_text.specs.Accepted.{line_calls, calls_asked, closes, is_closed_by}
use Rattle.scenario_text.proofs.AcceptedLemmas.{calls_more}
use Rattle.chunk_plain.specs.Meaning.{Meaning}
use Rattle.chunk_plain.specs.Setup.{Setup}
use Rattle.service_core.specs.Agreement.{first_of, spec_at}
use Rattle.replay_model.specs.Acts.{Act, CloseProducer}
use Rattle.replay_model.specs.ActNotes.{ActNote}
use Rattle.replay_model.specs.Flushes.{requests_in}
use Rattle.replay_model.specs.Played.{IsSetupOf, buffers_of}
use Rattle.replay_model.specs.Schedule.{acts_of, is_due}
use Rattle.replay_host.specs.declared.host.Host.{Host}
use Rattle.replay_host.specs.Answering.{KeepsGoing}
use Rattle.replay_host.specs.Asks.{AsksNothing}
use Rattle.replay_host.specs.Lines.{MOST_REQUESTS, IsKept, IsLinePlayed, Moment, ComesNext}
use Rattle.replay_host.specs.Playing.{IsHost, HasDone, LeavesWriters}
use Rattle.replay_host.specs.Serving.{ComesServing}
use Rattle.replay_host.specs.Raws.{raws_in}
use Rattle.replay_host.specs.Tally.{IsTally}
use Rattle.replay_host.proofs.GoingLemmas.{keeps_served, going_still, writer_was}
use Rattle.replay_host.proofs.LineLemmas.{closed_more, closed_same, due_more, ready_nothing, kept_more, going_nothing}
use Rattle.replay_host.proofs.RawLinesLemmas.{raws_fall}

-- what is kept of flush requests stays, where no note is added
pub tally_still : {T W S : Type 0} (old new : Host T W S) (notes : List ActNote) (writers : ℕ) → new.flushes ≡ old.flushes → IsTally notes writers old.flushes
    → IsTally (notes ++ []) writers new.flushes
tally_still old new notes writers same tally =
    subst (λ (ns : List ActNote). IsTally ns writers new.flushes) (sym (append-nil notes)) (subst (λ (f : _). IsTally notes writers f) (sym same) tally)

-- a request is due where one was
pub due_nothing : (number : ℕ) (before : List NumberedLine) (line : NumberedLine) → AsksNothing line.what
    → (is_writing (packets_of (calls_asked number (before ++ line ∷ []))) && is_due number (before ++ line ∷ []))
    ≡ (is_writing (packets_of (calls_asked number before)) && is_due number before)
due_nothing number before line nothing =
    ap (λ (cs : List Call). is_writing (packets_of cs) && is_due number (before ++ line ∷ []))
    (calls_more number before line ∙ ap (λ (cs : List Call). calls_asked number before ++ cs) (nothing.none number) ∙ append-nil (calls_asked number before))
    ∙ ap (λ (d : Bool). is_writing (packets_of (calls_asked number before)) && d) (due_more number before line ∙ nothing.due number (is_due number before))

pub served_played : {T W S : Type 0} (means : Meaning T W S) (moment : Moment) (acts : List Act) (old new : Host T W S) (taken left : Intake)
    → ComesServing means moment acts old → IsHost means new → LeavesWriters means old new → new.open_producers ≡ old.open_producers
    → new.helper.service.session ≡ old.helper.service.session → HasDone means acts [] old taken new left → IsLinePlayed means moment old taken new left
served_played means moment acts old new taken left comes host leaves opened session done =
    let scenario = moment.scenario in
    let before = moment.before in
    let tally = tally_still old new moment.notes (length scenario.writers) leaves.flushes comes.next.at.going.kept.tally in
    let keeps = keeps_served means old new leaves done.setup_is done.first opened session in
    let going = going_still means scenario before (moment.line ∷ moment.rest) moment.notes [] old new comes.next.at.going host keeps tally in
    record {
      later = [];
      at = record {
        going = going_nothing means scenario before moment.line moment.rest (moment.notes ++ []) new comes.wants
            (kept_more means scenario before moment.line (moment.notes ++ []) new comes.closes_none going.kept) going;
        due = λ place below is.
            ap (λ (f : _). nat_lt (slice_index f.answered.items place) f.made) leaves.flushes
            ∙ comes.next.at.due place below
            (ap not (sym (closed_same (spec_at scenario.writers place).producer before moment.line (comes.closes_none (spec_at scenario.writers place).producer))) ∙ is)
            ∙ sym (due_nothing (suc place) before moment.line comes.wants);
      };
      done = subst (λ (all : List Act). HasDone means all [] old taken new left) (sym comes.acts_are) done;
    }

-- ---- a close

-- the flags behind a close
flags_closed : (flags : List Bool) (producer other : ℕ) (closed : Bool) → 1 ≤ producer → 1 ≤ other → producer ≤ length flags
    → slice_index_or flags (other - 1) false ≡ not closed → slice_index_or (slice_set flags (producer - 1) false) (other - 1) false ≡ not (closed || (other == producer))
flags_closed flags producer other closed least some most is = elim (cases_eq other producer) [
  | inl same ↦
      ap (λ (n : ℕ). get_or (set flags (producer - 1) false) (n - 1) false) same
      ∙ get_or-set_same flags (producer - 1) false false (omega (arith, least, most))
      ∙ sym (ap not (or_right closed (other == producer) (eq-eqb other producer same)))
  | inr apart ↦
      get_or-set_other flags (producer - 1) (other - 1) false false (λ at. apart (omega (arith, at, least, some)))
      ∙ is ∙ ap not (sym (ap (λ (b : Bool). closed || b) (ne_eqb other producer apart) ∙ none_more closed))
]
  where
    none_more : (b : Bool) → (b || false) ≡ b
    none_more true = refl
    none_more false = refl

-- a line that closes asks nothing
close_asks : (producer : ℕ) → AsksNothing (line.Close producer)
unfolding line_calls
close_asks producer = record { none = λ number. refl; no_request = refl; due = λ number due. refl }

closes_is : (producer other : ℕ) → closes other (line.Close producer) ≡ (other == producer)
unfolding closes
closes_is producer other = refl

pub close_played : {T W S : Type 0} (means : Meaning T W S) (moment : Moment) (producer : ℕ) (old new : Host T W S) (taken left : Intake)
    → moment.line.what ≡ line.Close producer → 1 ≤ producer → producer ≤ length moment.scenario.producers
    → ComesNext means moment old → IsHost means new → LeavesWriters means old new
    → new.open_producers.items ≡ slice_set old.open_producers.items (producer - 1) false
    → new.helper.service.session ≡ old.helper.service.session → length old.open_producers.items ≡ length moment.scenario.producers
    → HasDone means (CloseProducer producer ∷ []) [] old taken new left → IsLinePlayed means moment old taken new left
close_played {T} {W} {S} means moment producer old new taken left what least most next host leaves flags session many done =
    let scenario = moment.scenario in
    let before = moment.before in
    let tally = tally_still old new moment.notes (length scenario.writers) leaves.flushes next.at.going.kept.tally in
    let asked : AsksNothing moment.line.what = subst AsksNothing (sym what) (close_asks producer) in
    let marked : Host T W S = record new { open_producers = old.open_producers } in
    let keeps : KeepsGoing means old marked = keeps_served means old marked
    (record { writers = leaves.writers; flushes = leaves.flushes; specs = leaves.specs; views = leaves.views }) done.setup_is done.first refl session in
    let kept : IsKept means scenario (before ++ moment.line ∷ []) (moment.notes ++ []) new = record {
      is_host = host;
      laid = subst (λ (s : Setup). IsSetupOf scenario s) (sym done.setup_is) next.at.going.kept.laid;
      first = subst (λ (s : Setup). first_of s new.helper.service ≡ buffers_of scenario s) (sym done.setup_is) (done.first ∙ next.at.going.kept.first);
      few_producers = next.at.going.kept.few_producers;
      flags = λ other some inside.
          ap (λ (bs : List Bool). slice_index_or bs (other - 1) false) flags
          ∙ flags_closed old.open_producers.items producer other (is_closed_by before other) least some (omega (arith, most, many))
          (next.at.going.kept.flags other some inside)
          ∙ ap not (sym (closed_more other before moment.line ∙ ap (λ (b : Bool). is_closed_by before other || b) (ap (closes other) what ∙ closes_is producer other)));
      tally = tally;
    } in
    record {
      later = [];
      at = record {
        going = record {
          kept = kept;
          wrote = λ place core at.
              let was = writer_was old.writers.items new.writers.items place core keeps.many at in
              subst (λ (cs : List Call). Loses cs (means.view new.table core.seat).calls)
              (sym (calls_more (suc place) before moment.line ∙ ap (λ (cs : List Call). calls_asked (suc place) before ++ cs) (asked.none (suc place))
              ∙ append-nil (calls_asked (suc place) before)))
              (keeps.wrote place was.0 core was.1 at (calls_asked (suc place) before) (next.at.going.wrote place was.0 was.1));
          ready = ready_nothing means new.table new.writers.items scenario moment.line moment.rest asked.none (keeps.ready _ next.at.going.ready);
          room = ap (λ (n : ℕ). n + requests_in moment.rest) keeps.made
              ∙ (let none = asked.no_request in let was = next.at.going.room in
              let is : old.flushes.made + requests_in moment.rest ≡ vec_len old.flushes.chunks = omega (arith, none, was) in is)
              ∙ sym keeps.room;
          few = subst (λ (n : ℕ). n < MOST_REQUESTS) (sym keeps.room) next.at.going.few;
          told_room = subst (λ (v : _). vec_len v + raws_in moment.rest ≤ vec_capacity v) (sym keeps.told)
              (let fall = raws_fall moment.line moment.rest in let was = next.at.going.told_room in omega (arith, fall, was));
          started = keeps.state ∙ next.at.going.started;
          requests = keeps.requests ∙ next.at.going.requests ∙ sym keeps.made;
        };
        due = λ place below is.
            ap (λ (f : _). nat_lt (slice_index f.answered.items place) f.made) leaves.flushes
            ∙ next.at.due place below (was_open (is_closed_by before (spec_at scenario.writers place).producer) (closes (spec_at scenario.writers place).producer moment.line.what)
            (sym (ap not (closed_more (spec_at scenario.writers place).producer before moment.line)) ∙ is))
            ∙ sym (due_nothing (suc place) before moment.line asked);
      };
      done = subst (λ (k : _). HasDone means (acts_of scenario before k) [] old taken new left) (sym what) done;
    }
  where
    was_open : (b c : Bool) → not (b || c) ≡ true → not b ≡ true
    was_open true c is = is
    was_open false c is = refl
