-- What a line that comes next may rely on: the writer or producer that it names is there and open, and the writer accepts its calls.
use Rattle.std.proofs.Common.{◌≡◌, ◌≢◌, ◌∙◌, ℕ, suc, ◌-◌, ◌<◌, ◌≤◌, ◌&&◌, Bool, true, false, not, cond, Some, List, [], ◌∷◌, ◌++◌, length, inl, inr, refl, sym, ap, subst, arith, append-nil}
use Rattle.std.proofs.lemmas.Grind.{fold-append}
use Rattle.std.specs.Prelude.{slice_get, slice_index, slice_index_or, nat_lt}
use Rattle.std.proofs.lemmas.Bool.{eq-eqb, cases_eq}
use Rattle.std.proofs.lemmas.Option.{slice_get-get_or, slice_get_within, same_Some}
use Rattle.std.proofs.lemmas.Slice.Zip.{AllZip-long}
use Rattle.byte_io.specs.Bytes.{Intake}
use Rattle.trace_base.specs.declared.policy.WriterSpec.{WriterSpec}
use Rattle.trace_base.proofs.Lists.{some_there}
use Rattle.trace_model.specs.Calls.{Call}
use Rattle.trace_model.specs.Packets.{Account, account_of, packets_of, noted, nothing_yet, is_writing}
use Rattle.model_laws.specs.Losses.{Loses}
use Rattle.scenario_text.specs.declared.scenario.NumberedLine.{NumberedLine}
use Rattle.scenario_text.specs.Scenario.{Parts}
use Rattle.scenario_text.specs.Accepted.{line_calls, calls_asked, is_closed_by, AreAccepted}
use Rattle.scenario_text.specs.Reach.{NamesWriter, NamesProducer}
use Rattle.scenario_text.proofs.AcceptedLemmas.{calls_more}
use Rattle.scenario_text.proofs.AcceptedFields.{accepted_front}
use Rattle.chunk_plain.specs.Meaning.{Meaning}
use Rattle.chunk_plain.specs.Setup.{Setup, HasProducer, producer_of, no_writer}
use Rattle.trace_writer.specs.declared.writer.WriterCore.{WriterCore}
use Rattle.world_model.specs.FirstBuffers.{payload_at}
use Rattle.service_core.specs.Agreement.{spec_at}
use Rattle.service_core.proofs.MakeLemmas.{ranges_long}
use Rattle.replay_model.specs.Acts.{Act, asks}
use Rattle.replay_model.specs.ActNotes.{ActNote}
use Rattle.replay_model.specs.Played.{IsSetupOf, IsSpecOf}
use Rattle.replay_model.specs.Schedule.{is_due, is_due_after}
use Rattle.replay_model.proofs.PlayedLemmas.{setup_writers}
use Rattle.replay_host.specs.declared.host.Host.{Host}
use Rattle.replay_host.specs.Asking.{IsReadyFor, AreReady}
use Rattle.replay_host.specs.Asks.{AsksFor, LeavesDue, ComesAsking}
use Rattle.replay_host.specs.Lines.{IsKept, IsGoing, IsAt, IsLinePlayed, Moment, coming_at, is_open_at}
use Rattle.replay_host.specs.Playing.{IsHost, IsOpenAt, HasAsked, HasDone, asked_all}
use Rattle.replay_host.proofs.FlushedLemmas.{accepted_alike}
use Rattle.replay_host.proofs.LineLemmas.{closed_same, due_more, ready_line, going_asked}
use Rattle.replay_host.proofs.StopLemmas.{asked_done}

-- ---- the set-up

-- the table has as many producers as the scenario
pub ranges_many : (scenario : Parts) (setup : Setup) → IsSetupOf scenario setup → length setup.ranges ≡ length scenario.producers
ranges_many scenario setup is =
    ap (λ (s : Setup). length s.ranges) is.laid ∙ ranges_long 0 is.specs ∙ AllZip-long IsSpecOf scenario.producers is.specs is.made

-- ---- a writer that a line names

module _ {T W S : Type 0} (means : Meaning T W S) (scenario : Parts) (before : List NumberedLine) (notes : List ActNote) (host : Host T W S) (kept : IsKept means scenario before notes host) where
  abbrev pub setup : Setup
  setup = means.setup host.table

  pub writers_are : setup.writers ≡ scenario.writers
  writers_are = setup_writers scenario setup kept.laid

  pub place_inside : (place : ℕ) → place < length scenario.writers → place < length setup.writers
  place_inside place below = subst (λ (ws : List WriterSpec). place < length ws) (sym writers_are) below

  -- the producer of a writer is one of the scenario's
  pub producer_inside : (place : ℕ) → place < length scenario.writers
      → (1 ≤ (spec_at scenario.writers place).producer) × ((spec_at scenario.writers place).producer ≤ length scenario.producers)
  producer_inside place below =
      let has : HasProducer setup (producer_of setup place) = kept.is_host.stands.served.agrees.routed.producers place (place_inside place below) in
      let same : producer_of setup place ≡ (spec_at scenario.writers place).producer = ap (λ (ws : List WriterSpec). (spec_at ws place).producer) writers_are in (
        subst (λ (n : ℕ). 1 ≤ n) same has.least,
        subst (λ (n : ℕ). n ≤ length scenario.producers) same (subst (λ (n : ℕ). producer_of setup place ≤ n) (ranges_many scenario setup kept.laid) has.most),
      )

  -- the producer of a writer counts as open exactly where no line has closed it
  pub flag_is : (place : ℕ) → place < length scenario.writers
      → slice_index_or host.open_producers.items (producer_of setup place - 1) false ≡ is_open_at scenario before place
  flag_is place below =
      let inside = producer_inside place below in
      ap (λ (ws : List WriterSpec). slice_index_or host.open_producers.items ((spec_at ws place).producer - 1) false) writers_are
      ∙ kept.flags (spec_at scenario.writers place).producer inside.0 inside.1

  -- a producer that a line names has chunks in the table
  pub producer_there : (producer : ℕ) → NamesProducer scenario.producers before producer → HasProducer setup producer
  producer_there producer names = record {
    least = names.least;
    most = subst (λ (n : ℕ). producer ≤ n) (sym (ranges_many scenario setup kept.laid)) names.most;
  }

  pub producer_open : (producer : ℕ) → NamesProducer scenario.producers before producer → slice_index_or host.open_producers.items (producer - 1) false ≡ true
  producer_open producer names = kept.flags producer names.least names.most ∙ ap not names.opened

-- a line's writer has a place, and is open
named_there : (writers : List WriterSpec) (before : List NumberedLine) (place : ℕ) (names : NamesWriter writers before (suc place)) → slice_get writers place ≡ Some names.spec
named_there writers before place names =
    let same : suc place - 1 ≡ place = omega arith in
    subst (λ (n : ℕ). slice_get writers n ≡ Some names.spec) same names.there

pub names_inside : (writers : List WriterSpec) (before : List NumberedLine) (place : ℕ) → NamesWriter writers before (suc place) → place < length writers
names_inside writers before place names = slice_get_within writers place names.spec (named_there writers before place names)

pub names_open : (scenario : Parts) (before : List NumberedLine) (place : ℕ) → NamesWriter scenario.writers before (suc place) → is_open_at scenario before place ≡ true
names_open scenario before place names =
    let inside = names_inside scenario.writers before place names in
    let spec_is : spec_at scenario.writers place ≡ names.spec =
    same_Some (spec_at scenario.writers place) names.spec (sym (slice_get-get_or scenario.writers place no_writer inside) ∙ named_there scenario.writers before place names) in
    ap (λ (s : WriterSpec). not (is_closed_by before s.producer)) spec_is ∙ ap not names.opened

-- ---- what it accepts

-- a writer that there is
pub core_there : {T W S : Type 0} (means : Meaning T W S) (host : Host T W S) (place : ℕ) → IsHost means host → place < length (means.setup host.table).writers
    → (core : WriterCore W) × (slice_get host.writers.items place ≡ Some core)
core_there means host place is below = some_there host.writers.items place (let many = is.stands.many in omega (arith, many, below))

-- the calls of the line that comes are accepted behind those that the lines before have asked
pub calls_accepted : {T W S : Type 0} (means : Meaning T W S) (scenario : Parts) (before : List NumberedLine) (line : NumberedLine) (rest : List NumberedLine)
    (notes : List ActNote) (host : Host T W S) (place : ℕ) (calls : List Call) → IsGoing means scenario before (line ∷ rest) notes host → AsksFor line.what place calls
    → place < length scenario.writers → AreAccepted (account_of (calls_asked (suc place) before)) calls
calls_accepted means scenario before line rest notes host place calls going asks below =
    let core = core_there means host place going.kept.is_host (place_inside means scenario before notes host going.kept place below) in
    let ready : IsReadyFor (payload_at (means.setup host.table) place) (means.view host.table core.0.seat) (calls ++ coming_at scenario rest place) =
    subst (λ (b : Bool). IsReadyFor (payload_at (means.setup host.table) place) (means.view host.table core.0.seat)
    (cond b (calls ++ coming_at scenario rest place) (coming_at scenario rest place))) (eq-eqb place place refl)
    (ready_line means host.table host.writers.items scenario line rest place calls asks going.ready place core.0 core.1) in
    let wrote : Loses (calls_asked (suc place) before) (means.view host.table core.0.seat).calls = going.wrote place core.0 core.1 in
    accepted_alike calls ready.asked (calls_asked (suc place) before) (sym wrote ∙ ready.loses)
    (accepted_front (account_of ready.asked) calls (coming_at scenario rest place) ready.accepted)

-- ---- the line is played

-- where a request is due stays, behind the calls of a line
due_step : (scenario : Parts) (before : List NumberedLine) (line : NumberedLine) (place other : ℕ) (calls : List Call) → AsksFor line.what place calls
    → LeavesDue line.what place calls → AreAccepted (account_of (calls_asked (suc place) before)) calls
    → (is_writing (packets_of (calls_asked (suc other) (before ++ line ∷ []))) && is_due (suc other) (before ++ line ∷ []))
    ≡ (is_writing (packets_of (calls_asked (suc other) before)) && is_due (suc other) before)
due_step scenario before line place other calls asks due accepted =
    ap (λ (cs : List Call). is_writing (packets_of cs) && is_due (suc other) (before ++ line ∷ [])) (calls_more (suc other) before line)
    ∙ ap (λ (d : Bool). is_writing (packets_of (calls_asked (suc other) before ++ line_calls_here)) && d) (due_more (suc other) before line)
    ∙ elim (cases_eq other place) [
      | inl here ↦
          (subst (λ (n : ℕ). (is_writing (packets_of (calls_asked (suc n) before ++ line_calls (suc n) line.what)) && is_due_after (suc n) (is_due (suc n) before) line.what)
          ≡ (is_writing (packets_of (calls_asked (suc n) before)) && is_due (suc n) before)) (sym here)
          (ap (λ (cs : List Call). is_writing (packets_of (calls_asked (suc place) before ++ cs)) && is_due_after (suc place) (is_due (suc place) before) line.what) asks.own
          ∙ ap (λ (a : Account). is_writing a.packets && is_due_after (suc place) (is_due (suc place) before) line.what)
          (fold-append noted nothing_yet (calls_asked (suc place) before) calls)
          ∙ due.own (account_of (calls_asked (suc place) before)) accepted (is_due (suc place) before)))
      | inr apart ↦
          (let away : suc other ≢ suc place = λ same. apart (omega (arith, same)) in
          ap (λ (cs : List Call). is_writing (packets_of (calls_asked (suc other) before ++ cs)) && is_due_after (suc other) (is_due (suc other) before) line.what) (asks.others (suc other) away)
          ∙ ap (λ (cs : List Call). is_writing (packets_of cs) && is_due_after (suc other) (is_due (suc other) before) line.what) (append-nil (calls_asked (suc other) before))
          ∙ ap (λ (d : Bool). is_writing (packets_of (calls_asked (suc other) before)) && d) (due.others (suc other) (is_due (suc other) before) away))
    ]
  where
    line_calls_here : List Call
    line_calls_here = line_calls (suc other) line.what

pub asked_played : {T W S : Type 0} (means : Meaning T W S) (moment : Moment) (place : ℕ) (calls : List Call) (old new : Host T W S) (taken : Intake)
    → ComesAsking means moment place calls old → IsHost means new → HasAsked means place calls old new → IsLinePlayed means moment old taken new taken
asked_played means moment place calls old new taken comes host asked =
    let before = moment.before in
    let going = comes.next.at.going in
    let below = names_inside moment.scenario.writers before place comes.names in
    let accepted = calls_accepted means moment.scenario before moment.line moment.rest moment.notes old place calls going comes.wants below in
    record {
      later = [];
      at = subst (λ (ns : List ActNote). IsAt means moment.scenario (before ++ moment.line ∷ []) moment.rest ns new) (sym (append-nil moment.notes))
          (record {
            going = going_asked means moment.scenario before moment.line moment.rest moment.notes place calls old new comes.wants going host asked;
            due = λ other inside opened.
                ap (λ (f : _). nat_lt (slice_index f.answered.items other) f.made) asked.books.flushes
                ∙ comes.next.at.due other inside
                (ap not (sym (closed_same (spec_at moment.scenario.writers other).producer before moment.line (comes.wants.closes_none (spec_at moment.scenario.writers other).producer))) ∙ opened)
                ∙ sym (due_step moment.scenario before moment.line place other calls comes.wants comes.due accepted);
          });
      done = subst (λ (acts : List Act). HasDone means acts [] old taken new taken) (sym comes.acts) (asked_done means place calls old new asked taken);
    }

-- what the writer's call asks for
module _ {T W S : Type 0} (means : Meaning T W S) (moment : Moment) (place : ℕ) (calls : List Call) (host : Host T W S) (comes : ComesAsking means moment place calls host) where
  pub asking_place : place < length (means.setup host.table).writers
  asking_place =
      place_inside means moment.scenario moment.before moment.notes host comes.next.at.going.kept place
      (names_inside moment.scenario.writers moment.before place comes.names)

  pub asking_open : IsOpenAt means host place
  asking_open =
      flag_is means moment.scenario moment.before moment.notes host comes.next.at.going.kept place (names_inside moment.scenario.writers moment.before place comes.names)
      ∙ names_open moment.scenario moment.before place comes.names

  pub asking_ready : (coming : ℕ → List Call) × AreReady means host.table host.writers.items (asked_all place calls coming)
  asking_ready = (
    coming_at moment.scenario moment.rest,
    ready_line means host.table host.writers.items moment.scenario moment.line moment.rest place calls comes.wants comes.next.at.going.ready,
  )
