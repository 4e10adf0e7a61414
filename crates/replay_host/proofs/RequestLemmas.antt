-- What a flush request, and the answers to it one behind another, leave.
use Rattle.std.proofs.Common.{◌≡◌, ◌≢◌, ◌∙◌, ℕ, suc, ◌+◌, ◌-◌, ◌<◌, ◌≤◌, ◌&&◌, nat_lt, Bool, true, false, not, cond, Option, Some, None, List, [], ◌∷◌, ◌++◌, length, map, drop, inl, inr, refl, sym, ap, subst, arith, append_assoc, append-nil}
use Rattle.std.specs.Prelude.{slice_get, slice_index, slice_index_or, slice_set, vec_len, vec_capacity, if◌then◌else◌}
use Rattle.std.proofs.lemmas.Bool.{cases_eq}
use Rattle.std.proofs.lemmas.Bool.Decides.{nat_tests}
use Rattle.std.proofs.lemmas.List.{get_or-set_same, get_or-set_other}
use Rattle.byte_io.specs.Bytes.{Intake}
use Rattle.trace_base.specs.declared.policy.WriterSpec.{WriterSpec}
use Rattle.trace_model.specs.Calls.{Call}
use Rattle.trace_model.specs.Packets.{packets_of, is_writing}
use Rattle.model_laws.specs.Losses.{Loses}
use Rattle.session_core.specs.declared.answers.SessionFault.{SessionFault}
use Rattle.session_core.specs.declared.answers.SessionState.{SessionState}
use Rattle.session_core.specs.declared.answers.SessionState.TheVariants.{Started}
use Rattle.session_core.specs.Sessions.{SessionValue, left_as, requested}
use Rattle.session_core.specs.States.{Flush, refusal_in}
use Rattle.scenario_text.specs.declared.scenario.NumberedLine.{NumberedLine}
use Rattle.scenario_text.specs.declared.scenario.LineKind.{LineKind}
use Rattle.scenario_text.specs.declared.scenario.LineKind.TheVariants as line
use Rattle.scenario_text.specs.Scenario.{Parts}
use Rattle.scenario_text.specs.Accepted.{calls_asked, line_calls, closes}
use Rattle.scenario_text.proofs.AcceptedLemmas.{calls_more}
use Rattle.chunk_plain.specs.Meaning.{Meaning}
use Rattle.chunk_plain.specs.Setup.{producer_of}
use Rattle.chunk_plain.specs.Views.{ServiceView}
use Rattle.trace_writer.specs.declared.writer.WriterCore.{WriterCore}
use Rattle.service_core.specs.Agreement.{KeepsTaking, first_of, spec_at}
use Rattle.replay_model.specs.Acts.{Act, Answer, Request, Collect}
use Rattle.replay_model.specs.ActNotes.{ActNote, Requested}
use Rattle.replay_model.specs.Flushes.{request_count}
use Rattle.replay_model.proofs.PlayLemmas.{plays_one}
use Rattle.replay_model.specs.Schedule.{acts_of, is_due, is_due_after, open_places, open_producers}
use Rattle.replay_host.specs.declared.host.Host.{Host}
use Rattle.replay_host.specs.Answering.{GoesOn, IsAmid, MayAnswer, HasAnsweredBetween, HaveAnswered, HaveAnsweredTo, HasRequested}
use Rattle.replay_host.specs.Asking.{AreReady}
use Rattle.replay_host.specs.Lines.{MOST_REQUESTS, IsGoing, IsAt, IsDueAt, IsLinePlayed, Moment, ComesNext, is_open_at, coming_at}
use Rattle.replay_host.specs.Playing.{IsHost, IsOpenAt, HasDone, IsTraceOf}
use Rattle.replay_host.specs.Serving.{HasFlags, HasServed}
use Rattle.replay_host.specs.Raws.{raws_in}
use Rattle.replay_host.specs.Tally.{IsTally}
use Rattle.replay_host.proofs.AnswerLemmas.{first_session, writing_is}
use Rattle.replay_host.proofs.GoingLemmas.{goes_none, goes_both, goes_still, keeps_served, done_both, going_still, kept_still}
use Rattle.replay_host.proofs.LineLemmas.{closed_same, due_more, ready_nothing}
use Rattle.replay_host.proofs.RawLinesLemmas.{raws_fall}
use Rattle.replay_host.proofs.MomentLemmas.{core_there, place_inside, flag_is, writers_are}
use Rattle.replay_host.proofs.OpenLemmas.{places_open, places_closed, places_none, rest_more, rest_same, rest_none}
use Rattle.replay_host.proofs.RowLemmas.{AreLaws}
use Rattle.replay_host.proofs.TallyLemmas.{answered_most}
use Rattle.replay_host.specs.Tally.{nobody}

-- ---- how many requests each writer has answered

answered_own : (waits : Bool) (is was : List ℕ) (place made : ℕ) → is ≡ (if waits then was else slice_set was place made)
    → place < length was
    → slice_index is place ≡ (if waits then slice_index was place else made)
answered_own true is was place made same below = ap (λ (xs : List ℕ). slice_index xs place) same
answered_own false is was place made same below = ap (λ (xs : List ℕ). slice_index xs place) same ∙ get_or-set_same was place made 0 below

answered_other : (waits : Bool) (is was : List ℕ) (place other made : ℕ) → is ≡ (if waits then was else slice_set was place made)
    → other ≢ place
    → slice_index is other ≡ slice_index was other
answered_other true is was place other made same apart = ap (λ (xs : List ℕ). slice_index xs other) same
answered_other false is was place other made same apart = ap (λ (xs : List ℕ). slice_index xs other) same
    ∙ get_or-set_other was place other made 0 apart

-- a flag that isn't said to stand is down
pub flag_down : (flag said : Bool) → (flag ≡ true → said ≡ true) → said ≡ false → flag ≡ false
flag_down true said tells none = absurd (let never : true ≡ false = sym (tells refl) ∙ none in cc)
flag_down false said tells none = refl

module _ {T W S : Type 0} (means : Meaning T W S) (scenario : Parts) (before : List NumberedLine) where
  -- no writer was asked yet
  pub answered_none : (host : Host T W S) → IsHost means host → HaveAnsweredTo means scenario before 0 host host
  answered_none host is = record {
    acts = [];
    rest = refl;
    later = [];
    goes = goes_none means host is;
    answered = λ place below opened. absurd (omega (arith, below));
    others = λ place above. refl;
  }

  -- where the writers before a place were asked, the lines that are played stay so
  pub amid_still : (rest : List NumberedLine) (notes : List ActNote) (place : ℕ) (old mid : Host T W S)
      → IsGoing means scenario before rest notes old
      → (to : HaveAnsweredTo means scenario before place old mid) → IsGoing means scenario before rest (notes ++ to.later) mid
  amid_still rest notes place old mid going to = goes_still means scenario before rest notes to.later to.acts old mid going to.goes

  -- the next writer is there, and may be asked where its producer counts as open
  pub writers_many : (rest : List NumberedLine) (notes : List ActNote) (host : Host T W S) → IsGoing means scenario before rest notes host
      → length host.writers.items ≡ length scenario.writers
  writers_many rest notes host going =
      going.kept.is_host.stands.many ∙ ap (λ (ws : List WriterSpec). length ws) (writers_are means scenario before notes host going.kept)

  pub open_is : (rest : List NumberedLine) (notes : List ActNote) (place : ℕ) (old mid : Host T W S)
      → IsGoing means scenario before rest notes old
      → HaveAnsweredTo means scenario before place old mid → place < length scenario.writers → (said : Bool)
      → slice_index_or mid.open_producers.items (producer_of (means.setup mid.table) place - 1) false ≡ said
      → is_open_at scenario before place ≡ said
  open_is rest notes place old mid goes to below said is =
      sym (flag_is means scenario before (notes ++ to.later) mid (amid_still rest notes place old mid goes to).kept place below) ∙ is

  pub may_answer : (rest : List NumberedLine) (notes : List ActNote) (place : ℕ) (old mid : Host T W S)
      → IsGoing means scenario before rest notes old
      → HaveAnsweredTo means scenario before place old mid → place < length scenario.writers → IsOpenAt means mid place
      → MayAnswer means place mid
  may_answer rest notes place old mid goes to below said = record {
    amid = record { scenario = scenario; before = before; rest = rest; notes = notes ++ to.later; going = amid_still rest notes place old mid goes to };
    below = below;
    opened = open_is rest notes place old mid goes to below true said;
  }

  -- one writer more was asked
  pub answered_more : (rest : List NumberedLine) (notes : List ActNote) (place : ℕ) (old mid new : Host T W S)
      → IsGoing means scenario before rest notes old → HaveAnsweredTo means scenario before place old mid → place < length scenario.writers
      → is_open_at scenario before place ≡ true → HasAnsweredBetween means place mid new
      → HaveAnsweredTo means scenario before (suc place) old new
  answered_more rest notes place old mid new goes to below stands step = record {
    acts = to.acts ++ Answer place ∷ [];
    rest = rest_more (map Answer (open_places before 0 scenario.writers)) to.acts
        (map Answer (open_places before place (drop place scenario.writers)))
        (map Answer (open_places before (suc place) (drop (suc place) scenario.writers))) (Answer place) to.rest
        (places_open Answer before scenario.writers place below stands);
    later = to.later ++ step.later;
    goes = goes_both means to.acts (Answer place ∷ []) to.later step.later old mid new to.goes step.goes;
    answered = λ other under opened. elim (cases_eq other place) [
      | inl here ↦ (
          subst (λ (n : ℕ). slice_index new.flushes.answered.items n
          ≡ (if is_writing (packets_of (calls_asked (suc n) before)) then slice_index old.flushes.answered.items n else old.flushes.made))
          (sym here) own)
      | inr apart ↦ other_is other apart ∙ to.answered other (omega (arith, under, apart)) opened
    ];
    others = λ other above. other_is other (λ same. omega (arith, above, same)) ∙ to.others other (omega (arith, above));
  }
    where
      going : IsGoing means scenario before rest (notes ++ to.later) mid
      going = amid_still rest notes place old mid goes to

      may : MayAnswer means place mid
      may = record {
        amid = record { scenario = scenario; before = before; rest = rest; notes = notes ++ to.later; going = going };
        below = below;
        opened = stands;
      }

      core : (one : WriterCore W) × (slice_get mid.writers.items place ≡ Some one)
      core = core_there means mid place going.kept.is_host
          (place_inside means scenario before (notes ++ to.later) mid going.kept place below)

      waits : Bool
      waits = is_writing (packets_of (means.view mid.table core.0.seat).calls)

      inside : place < length mid.flushes.answered.items
      inside = let many = going.kept.tally.many in let joined = mid.flushes.answered.ok.0 in omega (arith, many, below, joined)

      other_is : (other : ℕ) → other ≢ place → slice_index new.flushes.answered.items other ≡ slice_index mid.flushes.answered.items other
      other_is other apart =
          answered_other waits new.flushes.answered.items mid.flushes.answered.items place other mid.flushes.made
          (step.answered core.0 core.1) apart

      by_test : (b : Bool) (was is made been : ℕ) → was ≡ is → made ≡ been → cond b was made ≡ cond b is been
      by_test true was is made been same equal = same
      by_test false was is made been same equal = equal

      own : slice_index new.flushes.answered.items place
          ≡ (if is_writing (packets_of (calls_asked (suc place) before))
          then slice_index old.flushes.answered.items place else old.flushes.made)
      own =
          answered_own waits new.flushes.answered.items mid.flushes.answered.items place mid.flushes.made
          (step.answered core.0 core.1) inside
          ∙ ap (λ (b : Bool). cond b (slice_index mid.flushes.answered.items place) mid.flushes.made)
          (writing_is means place mid may core.0 core.1)
          ∙ by_test (is_writing (packets_of (calls_asked (suc place) before))) _ _ _ _ (to.others place (omega arith)) to.goes.keeps.made

  -- a writer of a closed producer is passed over
  pub answered_closed : (place : ℕ) (old mid : Host T W S) → HaveAnsweredTo means scenario before place old mid
      → place < length scenario.writers
      → is_open_at scenario before place ≡ false → HaveAnsweredTo means scenario before (suc place) old mid
  answered_closed place old mid to below closed = record {
    acts = to.acts;
    rest = rest_same (map Answer (open_places before 0 scenario.writers)) to.acts
        (map Answer (open_places before place (drop place scenario.writers)))
        (map Answer (open_places before (suc place) (drop (suc place) scenario.writers))) to.rest
        (places_closed Answer before scenario.writers place below closed);
    later = to.later;
    goes = to.goes;
    answered = λ other under opened. elim (cases_eq other place) [
      | inl here ↦ absurd (let never : true ≡ false = sym opened ∙ ap (λ (n : ℕ). is_open_at scenario before n) here ∙ closed in cc)
      | inr apart ↦ to.answered other (omega (arith, under, apart)) opened
    ];
    others = λ other above. to.others other (omega (arith, above));
  }

  -- all were asked
  pub answered_all : (end : ℕ) (old new : Host T W S) → HaveAnsweredTo means scenario before end old new → length scenario.writers ≤ end
      → HaveAnswered means scenario before old new
  answered_all end old new to most = record {
    later = to.later;
    goes = subst (λ (acts : List Act). GoesOn means acts to.later old new)
        (rest_none (map Answer (open_places before 0 scenario.writers)) to.acts
        (map Answer (open_places before end (drop end scenario.writers))) to.rest
        (places_none Answer before scenario.writers end most)) to.goes;
    answered = λ place below opened. to.answered place (omega (arith, below, most)) opened;
  }

-- ---- a request

-- a request that is made leaves the state, and is one more where the session has started
pub state_requested : (refusal : Option SessionFault) (old : SessionValue) → (left_as refusal old (requested old)).state ≡ old.state
state_requested None old = refl
state_requested (Some fault) old = refl

pub requests_more : (old : SessionValue) → old.state ≡ Started
    → (left_as (refusal_in Flush old.state) old (requested old)).requests ≡ old.requests + 1
requests_more old started = ap (λ (state : SessionState). (left_as (refusal_in Flush state) old (requested old)).requests) started

-- the request as an act: it is noted, and the world stays
pub request_done : {T W S : Type 0} (means : Meaning T W S) → AreLaws means → (old new : Host T W S) → new.table ≡ old.table
    → KeepsTaking old.helper.service new.helper.service → (taken : Intake)
    → HasDone means (Request ∷ []) (Requested ∷ []) old taken new taken
request_done {T} {W} {S} means laws old new table keeps taken = record {
  setup_is = ap means.setup table;
  first = first_session (means.setup old.table) old.helper.service new.helper.service keeps;
  plays = λ was told. (
    was,
    ap means.told table ∙ told,
    plays_one (means.setup old.table) (first_of (means.setup old.table) old.helper.service) Request was was refl
        (laws.told_owned old.table was told),
  );
  writes = λ start is.
      subst (λ (v : ServiceView). IsTraceOf start (first_of (means.setup old.table) old.helper.service) v taken)
      (sym (ap (λ (t : T). means.service_view t new.helper.service.seat) table
      ∙ ap (λ (s : S). means.service_view old.table s) keeps.seat)) is;
}

-- ---- a line that is a request

request_asks : (number : ℕ) → line_calls number line.Request ≡ []
unfolding line_calls
request_asks number = refl

request_closes : (producer : ℕ) → closes producer line.Request ≡ false
unfolding closes
request_closes producer = refl

module _ {T W S : Type 0} (means : Meaning T W S) (scenario : Parts) (before : List NumberedLine) (one : NumberedLine)
    (rest : List NumberedLine)
    (is : one.what ≡ line.Request) where
  none_asked : (number : ℕ) → line_calls number one.what ≡ []
  none_asked number = ap (λ (kind : LineKind). line_calls number kind) is ∙ request_asks number

  none_closed : (producer : ℕ) → closes producer one.what ≡ false
  none_closed producer = ap (λ (kind : LineKind). closes producer kind) is ∙ request_closes producer

  calls_same : (number : ℕ) → calls_asked number (before ++ one ∷ []) ≡ calls_asked number before
  calls_same number =
      calls_more number before one ∙ ap (λ (cs : List Call). calls_asked number before ++ cs) (none_asked number)
      ∙ append-nil (calls_asked number before)

  -- behind the request that it makes, the line is no longer to come
  pub going_requested : (notes : List ActNote) (old new : Host T W S) → IsGoing means scenario before (one ∷ rest) notes old
      → HasRequested means old new
      → IsGoing means scenario before rest (notes ++ Requested ∷ []) new
  going_requested notes old new going made = record {
    kept = kept_still means scenario before notes (Requested ∷ []) old new going.kept made.host
        (ap means.setup made.table) made.first made.opened
        (made.tally notes (length scenario.writers) going.kept.tally);
    wrote = λ place core at.
        subst (λ (t : T). Loses (calls_asked (suc place) before) (means.view t core.seat).calls) (sym made.table)
        (going.wrote place core (ap (λ (v : _). slice_get v.items place) (sym made.writers) ∙ at));
    ready = subst (λ (t : T). AreReady means t new.writers.items (coming_at scenario rest)) (sym made.table)
        (subst (λ (v : _). AreReady means old.table v.items (coming_at scenario rest)) (sym made.writers)
        (ready_nothing means old.table old.writers.items scenario one rest none_asked going.ready));
    room = (let was = going.room in
        let more = made.made in
        let same = made.room in
        let counted : request_count one.what ≡ 1 = ap request_count is in
        omega (arith, was, more, same, counted));
    few = subst (λ (n : ℕ). n < MOST_REQUESTS) (sym made.room) going.few;
    told_room = subst (λ (v : _). vec_len v + raws_in rest ≤ vec_capacity v) (sym made.told)
        (let fall = raws_fall one rest in let was = going.told_room in omega (arith, fall, was));
    started = made.state ∙ going.started;
    requests = made.requests ∙ ap (λ (n : ℕ). n + 1) going.requests ∙ sym made.made;
  }

  -- and it counts as played
  pub going_noted : (notes : List ActNote) (host : Host T W S) → IsGoing means scenario before rest notes host
      → IsGoing means scenario (before ++ one ∷ []) rest notes host
  going_noted notes host going = record {
    kept = record {
      is_host = going.kept.is_host;
      laid = going.kept.laid;
      first = going.kept.first;
      few_producers = going.kept.few_producers;
      flags = λ producer least most. going.kept.flags producer least most
          ∙ ap not (sym (closed_same producer before one (none_closed producer)));
      tally = going.kept.tally;
    };
    wrote = λ place core at. subst (λ (cs : List Call). Loses cs (means.view host.table core.seat).calls) (sym (calls_same (suc place)))
        (going.wrote place core at);
    ready = going.ready;
    room = going.room;
    few = going.few;
    told_room = going.told_room;
    started = going.started;
    requests = going.requests;
  }

  due_test : (waits : Bool) (was made : ℕ) → was ≤ made → nat_lt (cond waits was (made + 1)) (made + 1) ≡ (waits && true)
  due_test true was made most = grind (arith, nat_tests, most)
  due_test false was made most = grind (arith, nat_tests)

  -- the request is due exactly where a packet is begun
  pub due_requested : (notes : List ActNote) (old mid behind new : Host T W S) → IsTally notes (length scenario.writers) old.flushes
      → HasRequested means old mid → HaveAnswered means scenario before mid behind → new.flushes ≡ behind.flushes
      → (place : ℕ) → place < length scenario.writers → is_open_at scenario (before ++ one ∷ []) place ≡ true
      → IsDueAt scenario (before ++ one ∷ []) place new
  due_requested notes old mid behind new tally made all same place below opened =
      let waits : Bool = is_writing (packets_of (calls_asked (suc place) before)) in
      let still : is_open_at scenario before place ≡ true =
      ap not (sym (closed_same (spec_at scenario.writers place).producer before one
      (none_closed (spec_at scenario.writers place).producer))) ∙ opened in
      let most : slice_index old.flushes.answered.items place ≤ old.flushes.made =
      (let said = tally.answered place below in
      let counted = tally.made in
      let bound = answered_most place notes (nobody (length scenario.writers)) in
      omega (arith, said, counted, bound)) in
      let count : slice_index behind.flushes.answered.items place ≡ cond waits (slice_index old.flushes.answered.items place)
      (old.flushes.made + 1) =
      all.answered place below still
      ∙ ap (λ (v : _). cond waits (slice_index v.items place) mid.flushes.made) made.answered
      ∙ ap (λ (n : ℕ). cond waits (slice_index old.flushes.answered.items place) n) made.made in
      ap (λ (f : _). nat_lt (slice_index f.answered.items place) f.made) same
      ∙ ap (λ (n : ℕ). nat_lt n behind.flushes.made) count
      ∙ ap (λ (n : ℕ). nat_lt (cond waits (slice_index old.flushes.answered.items place) (old.flushes.made + 1)) n)
      (all.goes.keeps.made ∙ made.made)
      ∙ due_test waits (slice_index old.flushes.answered.items place) old.flushes.made most
      ∙ ap (λ (b : Bool). waits && b)
      (sym (due_more (suc place) before one ∙ ap (λ (kind : LineKind). is_due_after (suc place) (is_due (suc place) before) kind) is))
      ∙ ap (λ (cs : List Call). is_writing (packets_of cs) && is_due (suc place) (before ++ one ∷ [])) (sym (calls_same (suc place)))

-- ---- the line is played

module _ {T W S : Type 0} (means : Meaning T W S) (moment : Moment) (old mid : Host T W S) (is : moment.line.what ≡ line.Request)
    (next : ComesNext means moment old) (made : HasRequested means old mid) where
  pub requested_going : IsGoing means moment.scenario moment.before moment.rest (moment.notes ++ Requested ∷ []) mid
  requested_going = going_requested means moment.scenario moment.before moment.line moment.rest is moment.notes old mid next.at.going made

  abbrev pub requested_amid : IsAmid means mid
  requested_amid = record {
    scenario = moment.scenario;
    before = moment.before;
    rest = moment.rest;
    notes = moment.notes ++ Requested ∷ [];
    going = requested_going;
  }

  module _ (behind : Host T W S) (all : HaveAnswered means moment.scenario moment.before mid behind) where
    pub answered_going : IsGoing means moment.scenario moment.before moment.rest ((moment.notes ++ Requested ∷ []) ++ all.later) behind
    answered_going = goes_still means moment.scenario moment.before moment.rest (moment.notes ++ Requested ∷ []) all.later
        (map Answer (open_places moment.before 0 moment.scenario.writers)) mid behind requested_going all.goes

    abbrev pub answered_flags : HasFlags means behind
    answered_flags = record {
      scenario = moment.scenario;
      before = moment.before;
      notes = (moment.notes ++ Requested ∷ []) ++ all.later;
      kept = answered_going.kept;
    }

    pub request_played : (new : Host T W S) (taken : Intake)
        → HasServed means (map Collect (open_producers moment.before 1 moment.scenario.producers)) behind new
        → IsLinePlayed means moment old taken new taken
    request_played new taken served =
        let asked : List ActNote = moment.notes ++ Requested ∷ [] in
        let answers : List Act = map Answer (open_places moment.before 0 moment.scenario.writers) in
        let takings : List Act = map Collect (open_producers moment.before 1 moment.scenario.producers) in
        let done = served.done taken in
        let keeps = keeps_served means behind new served.writers done.setup_is done.first served.opened served.session in
        let tally : IsTally ((asked ++ all.later) ++ []) (length moment.scenario.writers) new.flushes =
        subst (λ (ns : List ActNote). IsTally ns (length moment.scenario.writers) new.flushes) (sym (append-nil (asked ++ all.later)))
        (subst (λ (f : _). IsTally (asked ++ all.later) (length moment.scenario.writers) f)
        (sym served.writers.flushes) answered_going.kept.tally) in
        let going = going_still means moment.scenario moment.before moment.rest
        (asked ++ all.later) [] behind new answered_going served.host keeps tally in
        record {
          later = Requested ∷ all.later ++ [];
          at = subst (λ (ns : List ActNote). IsAt means moment.scenario (moment.before ++ moment.line ∷ []) moment.rest ns new)
              (append_assoc asked all.later [] ∙ append_assoc moment.notes (Requested ∷ []) (all.later ++ []))
              (record {
                going = going_noted means moment.scenario moment.before moment.line moment.rest is ((asked ++ all.later) ++ []) new going;
                due = due_requested means moment.scenario moment.before moment.line moment.rest is moment.notes old mid behind new
                    next.at.going.kept.tally made all served.writers.flushes;
              });
          done = subst (λ (kind : LineKind). HasDone means (acts_of moment.scenario moment.before kind)
              (Requested ∷ all.later ++ []) old taken new taken) (sym is)
              (done_both means (Request ∷ answers) takings (Requested ∷ all.later) [] old behind new taken taken taken
              (done_both means (Request ∷ []) answers (Requested ∷ []) all.later old mid behind taken taken taken (made.done taken)
              (all.goes.done taken)) done);
        }
