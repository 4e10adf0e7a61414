-- A writer's answer to a flush request.
use Rattle.std.proofs.Common.{◌≡◌, ◌∙◌, ℕ, suc, ◌+◌, ◌-◌, ◌<◌, Bool, true, false, cond, Option, Some, None, List, [], ◌∷◌, ◌++◌, length, map, vec_len, get_or, inl, inr, refl, sym, ap, subst, arith, append-nil}
use Rattle.std.specs.Prelude.{slice_get, slice_set, slice_index_or, MatchBool}
use Rattle.std.proofs.lemmas.Bool.{cases_eq}
use Rattle.std.proofs.lemmas.Option.{slice_get-get_or, same_Some}
use Rattle.byte_io.specs.Bytes.{Intake}
use Rattle.trace_buffer.specs.declared.answers.BufferSpec.{BufferSpec}
use Rattle.trace_model.specs.Buffers.{Buffer}
use Rattle.trace_model.specs.Calls.{Call, Flushed}
use Rattle.trace_model.specs.Packets.{packets_of, is_writing}
use Rattle.model_laws.specs.Losses.{Loses, written_calls}
use Rattle.model_laws.proofs.LossLemmas.{losses_change_no_shape, written_append}
use Rattle.session_core.specs.declared.answers.SessionFault.{SessionFault}
use Rattle.session_core.specs.declared.answers.Answer as session
use Rattle.session_core.specs.Sessions.{SessionValue, left_as, with_answer}
use Rattle.scenario_text.specs.Accepted.{calls_asked}
use Rattle.trace_model.specs.History.{records_after}
use Rattle.chunk_plain.specs.Histories.{completed_images, history_of}
use Rattle.chunk_plain.specs.Meaning.{Meaning}
use Rattle.chunk_plain.specs.Setup.{Setup}
use Rattle.chunk_plain.specs.Views.{ServiceView, WriterView}
use Rattle.chunk_plain.specs.World.{World, writer}
use Rattle.chunk_plain.specs.Owned.{IsOwned}
use Rattle.world_model.specs.FirstBuffers as first
use Rattle.trace_writer.specs.declared.writer.WriterCore.{WriterCore}
use Rattle.service_core.specs.declared.service.ServiceCore.{ServiceCore}
use Rattle.service_core.specs.Agreement.{ServiceAgrees, KeepsTaking, first_of, spec_value, buffer_of}
use Rattle.service_core.specs.Routing.{is_closed_at}
use Rattle.replay_model.specs.Acts.{Ask, Answer}
use Rattle.replay_model.specs.Does.{Asks}
use Rattle.replay_model.specs.ActNotes.{ActNote, Answered}
use Rattle.replay_model.specs.Plays.{Plays}
use Rattle.replay_host.specs.declared.host.Host.{Host}
use Rattle.replay_host.specs.Answering.{KeepsGoing, GoesOn, MayAnswer, HasAnswered, HasAnsweredBetween}
use Rattle.replay_host.specs.Asking.{AreReady}
use Rattle.replay_host.specs.Lines.{coming_at}
use Rattle.replay_host.specs.Tally.{IsTally}
use Rattle.replay_host.specs.Playing.{IsHost, IsOpenAt, HasAsked, HasDone, asked_all}
use Rattle.replay_host.specs.Standing.{IsServed}
use Rattle.replay_host.proofs.FlushedLemmas.{ready_answer}
use Rattle.replay_host.proofs.GoingLemmas.{keeps_going_none}
use Rattle.replay_host.proofs.MomentLemmas.{place_inside, flag_is, core_there}
use Rattle.replay_host.proofs.RowLemmas.{AreLaws, row_is}
use Rattle.replay_host.proofs.ServedLemmas.{quiet_writes}

-- ---- the session

state_left : (refusal : Option SessionFault) (old : SessionValue) (place : ℕ) (answer : session.Answer)
    → (left_as refusal old (with_answer old place answer)).state ≡ old.state
state_left None old place answer = refl
state_left (Some fault) old place answer = refl

requests_left : (refusal : Option SessionFault) (old : SessionValue) (place : ℕ) (answer : session.Answer)
    → (left_as refusal old (with_answer old place answer)).requests ≡ old.requests
requests_left None old place answer = refl
requests_left (Some fault) old place answer = refl

-- a call on the session alone leaves the host as it stood
pub host_session : {T W S : Type 0} (means : Meaning T W S) (old new : Host T W S) → IsHost means old → new.table ≡ old.table
    → new.writers ≡ old.writers
    → new.specs ≡ old.specs → new.open_producers ≡ old.open_producers → KeepsTaking old.helper.service new.helper.service
    → ServiceAgrees (means.setup old.table) (means.service_view old.table old.helper.service.seat) new.helper.service → IsHost means new
host_session {T} {W} {S} means old new host table writers specs opened keeps agrees =
    subst (λ (t : T). IsHost means (record new { table = t })) (sym table) (record {
      stands = record {
        many = ap (λ (v : _). length v.items) writers ∙ host.stands.many;
        seated = λ place core at. host.stands.seated place core (ap (λ (v : _). slice_get v.items place) (sym writers) ∙ at);
        served = record {
          serves = subst (λ (s : S). means.serves old.table s) (sym keeps.seat) served.serves;
          agrees = subst (λ (s : S). ServiceAgrees (means.setup old.table) (means.service_view old.table s) new.helper.service)
              (sym keeps.seat) agrees;
          reads = subst (λ (s : S). means.takes_reads old.table s) (sym keeps.seat) served.reads;
        };
      };
      apart = host.apart;
      specs = ap (λ (v : _). v.items) specs ∙ host.specs;
      producers = ap (λ (v : _). length v.items) opened ∙ host.producers;
      opened = λ producer has said place below mine.
          ap (λ (bs : List Buffer). is_closed_at bs (buffer_of (means.setup old.table) place - 1) (place + 2)) keeps.buffers
          ∙ host.opened producer has (ap (λ (v : _). slice_index_or v.items (producer - 1) false) (sym opened) ∙ said) place below mine;
    })
  where
    served : IsServed means old.table old.helper.service
    served = host.stands.served

-- and it leaves the first buffers
pub first_session : {S : Type 0} (setup : Setup) (old new : ServiceCore S) → KeepsTaking old new → first_of setup new ≡ first_of setup old
first_session setup old new keeps = ap (λ (specs : List BufferSpec). first.first_buffers setup 1 (map spec_value specs)) keeps.specs

-- ---- what it takes to answer

-- a writer as it is read
pub core_read : {T W S : Type 0} (means : Meaning T W S) (host : Host T W S) (place : ℕ) (core : WriterCore W) → IsHost means host
    → place < length (means.setup host.table).writers → core ≡ get_or host.writers.items place core
    → slice_get host.writers.items place ≡ Some core
core_read means host place core is below read =
    slice_get-get_or host.writers.items place core (let many = is.stands.many in omega (arith, many, below)) ∙ ap Some (sym read)

module _ {T W S : Type 0} (means : Meaning T W S) (place : ℕ) (host : Host T W S) (may : MayAnswer means place host) where
  pub answer_host : IsHost means host
  answer_host = may.amid.going.kept.is_host

  pub answer_place : place < length (means.setup host.table).writers
  answer_place = place_inside means may.amid.scenario may.amid.before may.amid.notes host may.amid.going.kept place may.below

  pub answer_open : IsOpenAt means host place
  answer_open = flag_is means may.amid.scenario may.amid.before may.amid.notes host may.amid.going.kept place may.below ∙ may.opened

  -- whether a packet is begun is said by the lines
  pub writing_is : (core : WriterCore W) → slice_get host.writers.items place ≡ Some core
      → is_writing (packets_of (means.view host.table core.seat).calls) ≡ is_writing (packets_of (calls_asked (suc place) may.amid.before))
  writing_is core at =
      (losses_change_no_shape (calls_asked (suc place) may.amid.before) (means.view host.table core.seat).calls
      (may.amid.going.wrote place core at)).writing

  pub answer_ready : is_writing (packets_of (calls_asked (suc place) may.amid.before)) ≡ false
      → (coming : ℕ → List Call) × AreReady means host.table host.writers.items (asked_all place (Flushed ∷ []) coming)
  answer_ready between = (
    coming_at may.amid.scenario may.amid.rest,
    ready_answer means host.table host.writers.items place (coming_at may.amid.scenario may.amid.rest)
        (λ core at. writing_is core at ∙ between) may.amid.going.ready,
  )

-- ---- what it leaves

flush_loses : (asked calls : List Call) → Loses (asked ++ Flushed ∷ []) calls → Loses asked calls
flush_loses asked calls loses = loses ∙ written_append asked (Flushed ∷ []) ∙ append-nil (written_calls asked)

-- a flush and an answer leave what goes on
pub keeps_answer : {T W S : Type 0} (means : Meaning T W S) (place : ℕ) (old mid new : Host T W S) (refusal : Option SessionFault)
    (noted : ℕ) (answer : session.Answer)
    → ((core : WriterCore W) → slice_get old.writers.items place ≡ Some core
    → is_writing (packets_of (means.view old.table core.seat).calls) ≡ false)
    → HasAsked means place (Flushed ∷ []) old mid → new.table ≡ mid.table → new.writers ≡ mid.writers
    → new.open_producers ≡ mid.open_producers
    → KeepsTaking mid.helper.service new.helper.service
    → new.helper.service.session ≡ left_as refusal mid.helper.service.session (with_answer mid.helper.service.session noted answer)
    → new.flushes.made ≡ mid.flushes.made → vec_len new.flushes.chunks ≡ vec_len mid.flushes.chunks → new.flushes.answers ≡ mid.flushes.answers
    → first_of (means.setup old.table) mid.helper.service ≡ first_of (means.setup old.table) old.helper.service → KeepsGoing means old new
keeps_answer {T} {W} {S} means place old mid new refusal noted answer between asked table writers opened taking session_is made room told first_kept = record {
  setup_is = ap means.setup table ∙ asked.service.setup_is;
  first = first_session (means.setup old.table) mid.helper.service new.helper.service taking ∙ first_kept;
  opened = opened ∙ asked.books.opened;
  many = ap (λ (v : _). length v.items) writers ∙ asked.many;
  wrote = λ other was is before behind done loses.
      let here : slice_get mid.writers.items other ≡ Some is = ap (λ (v : _). slice_get v.items other) (sym writers) ∙ behind in
      subst (λ (t : T). Loses done (means.view t is.seat).calls) (sym table) (wrote_more other was is before here done loses);
  ready = λ coming ready.
      subst (λ (t : T). AreReady means t new.writers.items coming) (sym table)
      (subst (λ (v : _). AreReady means mid.table v.items coming) (sym writers)
      (asked.ready coming (ready_answer means old.table old.writers.items place coming between ready)));
  made = made ∙ ap (λ (f : _). f.made) asked.books.flushes;
  room = room ∙ ap (λ (f : _). vec_len f.chunks) asked.books.flushes;
  told = told ∙ ap (λ (f : _). f.answers) asked.books.flushes;
  state = ap (λ (s : SessionValue). s.state) session_is ∙ state_left refusal mid.helper.service.session noted answer
      ∙ ap (λ (s : SessionValue). s.state) asked.service.keeps.fields.session;
  requests = ap (λ (s : SessionValue). s.requests) session_is ∙ requests_left refusal mid.helper.service.session noted answer
      ∙ ap (λ (s : SessionValue). s.requests) asked.service.keeps.fields.session;
}
  where
    wrote_more : (other : ℕ) (was is : WriterCore W) → slice_get old.writers.items other ≡ Some was
        → slice_get mid.writers.items other ≡ Some is
        → (done : List Call) → Loses done (means.view old.table was.seat).calls → Loses done (means.view mid.table is.seat).calls
    wrote_more other was is before behind done loses = elim (cases_eq other place) [
      | inl here ↦
          flush_loses done (means.view mid.table is.seat).calls
          (asked.own was is (subst (λ (n : ℕ). slice_get old.writers.items n ≡ Some was) here before)
          (subst (λ (n : ℕ). slice_get mid.writers.items n ≡ Some is) here behind) done loses)
      | inr apart ↦ subst (λ (cs : List Call). Loses done cs) (sym (asked.others other was is apart before behind)) loses
    ]

-- ---- the act

no_more : (notes : List ActNote) → notes ≡ notes ++ []
no_more notes = sym (append-nil notes)

-- the flush of a writer that has no packet begun is its answer, with the chunks that it has completed then
pub answer_plays : (setup : Setup) (buffers : List Buffer) (place chunks : ℕ) (was is : World)
    → is_writing (packets_of (writer was place).calls) ≡ false
    → chunks ≡ length (completed_images (writer is place).begun) → Plays setup buffers (Ask place Flushed ∷ []) was is []
    → Plays setup buffers (Answer place ∷ []) was is (Answered place chunks ∷ [])
answer_plays setup buffers place chunks was is between count plays =
    let next : World = plays.0 in
    let same : is ≡ next = plays.5.0 in (
      next,
      [],
      subst (λ (b : Bool). MatchBool b (next ≡ was) (Asks setup place Flushed was next)) (sym between) plays.2,
      plays.3,
      ap (λ (n : ℕ). Answered place n ∷ []) (count ∙ ap (λ (w : World). length (completed_images (writer w place).begun)) same)
          ∙ ap (λ (b : Bool). cond b [] (Answered place (length (completed_images (writer next place).begun)) ∷ []) ++ []) (sym between),
      (same, refl),
    )

-- a writer that has a packet begun doesn't answer
pub answer_waits : (setup : Setup) (buffers : List Buffer) (place : ℕ) (was : World)
    → is_writing (packets_of (writer was place).calls) ≡ true → ∥ IsOwned was ∥₁
    → Plays setup buffers (Answer place ∷ []) was was []
answer_waits setup buffers place was writing owned = (
  was,
  [],
  subst (λ (b : Bool). MatchBool b (was ≡ was) (Asks setup place Flushed was was)) (sym writing) refl,
  owned,
  ap (λ (b : Bool). cond b [] (Answered place (length (completed_images (writer was place).begun)) ∷ []) ++ []) (sym writing),
  (refl, refl),
)

-- ---- what was answered

-- the notes of an answer
pub done_answered : {T W S : Type 0} (means : Meaning T W S) → AreLaws means
    → (place chunks : ℕ) (old mid new : Host T W S) (core : WriterCore W)
    → ((one : WriterCore W) → slice_get old.writers.items place ≡ Some one
    → is_writing (packets_of (means.view old.table one.seat).calls) ≡ false)
    → IsHost means old → place < length (means.setup old.table).writers → IsHost means mid → HasAsked means place (Flushed ∷ []) old mid
    → slice_get mid.writers.items place ≡ Some core → chunks ≡ length (completed_images (means.view mid.table core.seat).begun)
    → new.table ≡ mid.table → first_of (means.setup old.table) new.helper.service ≡ first_of (means.setup old.table) old.helper.service
    → new.helper.service.seat ≡ mid.helper.service.seat → (taken : Intake)
    → HasDone means (Answer place ∷ []) (Answered place chunks ∷ []) old taken new taken
done_answered {T} {W} {S} means laws place chunks old mid new core between host below after asked at
    count table first_kept seat taken = record {
      setup_is = ap means.setup table ∙ asked.service.setup_is;
      first = first_kept;
      plays = λ was told.
          let one = asked.plays (first_of (means.setup old.table) old.helper.service) was told in
          let there = core_there means old place host below in
          let seated = host.stands.seated place there.0 there.1 in
          let row : (writer was place).calls ≡ (means.view old.table there.0.seat).calls =
          ap (λ (v : WriterView). v.calls) (row_is means laws old.table was told place there.0.seat seated.sits seated.place_is) in
          let behind = after.stands.seated place core at in
          let last : writer one.0 place ≡ means.view mid.table core.seat = row_is means laws mid.table one.0 one.1 place
          core.seat behind.sits behind.place_is in (
            one.0,
            ap means.told table ∙ one.1,
            answer_plays (means.setup old.table) (first_of (means.setup old.table) old.helper.service) place chunks was one.0
                (ap (λ (cs : List Call). is_writing (packets_of cs)) row ∙ between there.0 there.1)
                (count ∙ ap (λ (v : WriterView). length (completed_images v.begun)) (sym last)) one.2,
          );
      writes = λ start is.
          let same : means.service_view new.table new.helper.service.seat ≡ means.service_view mid.table mid.helper.service.seat =
          ap (λ (t : T). means.service_view t new.helper.service.seat) table ∙ ap (λ (s : S). means.service_view mid.table s) seat in
          quiet_writes start taken (first_of (means.setup old.table) old.helper.service) (means.service_view old.table old.helper.service.seat)
          (means.service_view new.table new.helper.service.seat)
          (ap (λ (v : ServiceView). records_after (first_of (means.setup old.table) old.helper.service) (history_of v)) same
          ∙ asked.service.quiet (first_of (means.setup old.table) old.helper.service)) is;
    }

-- a writer with a packet begun is passed over
pub goes_waiting : {T W S : Type 0} (means : Meaning T W S) → AreLaws means → (place : ℕ) (host : Host T W S) (core : WriterCore W)
    → IsHost means host
    → slice_get host.writers.items place ≡ Some core → is_writing (packets_of (means.view host.table core.seat).calls) ≡ true
    → GoesOn means (Answer place ∷ []) [] host host
goes_waiting means laws place host core is at writing = record {
  host = is;
  keeps = keeps_going_none means host;
  tally = λ notes writers tally. subst (λ (ns : List ActNote). IsTally ns writers host.flushes) (sym (append-nil notes)) tally;
  done = λ taken. record {
    setup_is = refl;
    first = refl;
    plays = λ was told.
        let seated = is.stands.seated place core at in
        let row = row_is means laws host.table was told place core.seat seated.sits seated.place_is in (
          was,
          told,
          answer_waits (means.setup host.table) (first_of (means.setup host.table) host.helper.service) place was
              (ap (λ (v : WriterView). is_writing (packets_of v.calls)) row ∙ writing) (laws.told_owned host.table was told),
        );
    writes = λ start told. told;
  };
}

-- ---- where a packet may be begun

-- an answer is one between two packets
pub between_answered : {T W S : Type 0} (means : Meaning T W S) (place : ℕ) (old new : Host T W S)
    → ((core : WriterCore W) → slice_get old.writers.items place ≡ Some core
    → is_writing (packets_of (means.view old.table core.seat).calls) ≡ false)
    → HasAnswered means place old new → HasAnsweredBetween means place old new
between_answered means place old new between step = record {
  later = Answered place step.chunks ∷ [];
  goes = step.goes;
  answered = λ core at.
      step.answered ∙ ap (λ (b : Bool). cond b old.flushes.answered.items (slice_set old.flushes.answered.items place old.flushes.made))
      (sym (between core at));
}

-- and where one is begun none is given
pub between_waiting : {T W S : Type 0} (means : Meaning T W S) → AreLaws means → (place : ℕ) (host : Host T W S) (core : WriterCore W)
    → IsHost means host
    → slice_get host.writers.items place ≡ Some core → is_writing (packets_of (means.view host.table core.seat).calls) ≡ true
    → HasAnsweredBetween means place host host
between_waiting {T} {W} {S} means laws place host core is at writing = record {
  later = [];
  goes = goes_waiting means laws place host core is at writing;
  answered = λ one there.
      ap (λ (b : Bool). cond b host.flushes.answered.items (slice_set host.flushes.answered.items place host.flushes.made))
      (sym (ap (λ (c : WriterCore W). is_writing (packets_of (means.view host.table c.seat).calls)) (same_Some one core (sym there ∙ at))
      ∙ writing));
}
