-- What the end does, one act behind another.
use Rattle.std.proofs.Common.{◌≡◌, ◌≢◌, ◌∙◌, ℕ, zero, suc, ◌+◌, ◌-◌, ◌<◌, ◌≤◌, Bool, true, false, cond, List, [], ◌∷◌, ◌++◌, length, map, drop, inl, inr, refl, sym, ap, subst, arith, append_assoc, append-nil}
use Rattle.std.specs.Prelude.{◌↔◌, IsTrue, slice_index_or, nat_lt}
use Rattle.std.proofs.lemmas.Bool.{cases_eq, eq-eqb, ne_eqb, lt-ltb, le-ltb, ltb-true, ltb-false}
use Rattle.byte_io.specs.Bytes.{Intake, untold}
use Rattle.trace_base.specs.declared.policy.WriterSpec.{WriterSpec}
use Rattle.trace_model.specs.Calls.{Call, Flushed}
use Rattle.trace_model.specs.Counts.{last_count}
use Rattle.scenario_text.specs.declared.scenario.BufferLine.{BufferLine}
use Rattle.scenario_text.specs.declared.scenario.NumberedLine.{NumberedLine}
use Rattle.scenario_text.specs.Scenario.{Parts}
use Rattle.chunk_plain.specs.Meaning.{Meaning}
use Rattle.chunk_plain.specs.Setup.{producer_of}
use Rattle.trace_writer.specs.declared.writer.WriterCore.{WriterCore}
use Rattle.world_model.specs.FirstBuffers.{payload_at, first_buffers}
use Rattle.service_core.specs.declared.service.ServiceCore.{ServiceCore}
use Rattle.service_core.specs.Agreement.{ServiceAgrees, KeepsTaking, first_of, spec_value}
use Rattle.replay_model.specs.Acts.{Act, Ask, Collect, CloseProducer, ReadAll}
use Rattle.replay_model.specs.ActNotes.{ActNote}
use Rattle.replay_model.specs.Schedule.{open_places, open_producers, reads_from, last_acts}
use Rattle.replay_host.specs.declared.fault.HostFault.{HostFault}
use Rattle.replay_host.specs.declared.host.Host.{Host}
use Rattle.replay_host.specs.Asking.{IsReadyFor, AreReady}
use Rattle.replay_host.specs.Ending.{IsOver, HaveFlushed, HaveFlushedTo, HasEnded, flushing, reads_to}
use Rattle.replay_host.specs.Lines.{IsKept, coming_at, is_open_at, last_flush}
use Rattle.replay_host.specs.Playing.{IsHost, IsOpenAt, HasAsked, HasDone, IsTraceOf, asked_all}
use Rattle.replay_host.specs.Serving.{HasFlags, HasServed, HaveClosed}
use Rattle.replay_host.specs.Stopping.{StopsIn}
use Rattle.replay_host.specs.Tally.{IsTally}
use Rattle.replay_host.proofs.AnswerLemmas.{host_session}
use Rattle.replay_host.proofs.GoingLemmas.{done_none, done_both, kept_still}
use Rattle.replay_host.proofs.HostLemmas.{played_none}
use Rattle.replay_host.proofs.MomentLemmas.{place_inside, flag_is, writers_are}
use Rattle.replay_host.proofs.OpenLemmas.{places_open, places_closed, places_none, rest_more, rest_same, rest_none}
use Rattle.replay_host.proofs.StopLemmas.{asked_done, stopped_later}

-- ---- what is to come of the last flushes

lt_same : (other place : ℕ) → other ≢ place → nat_lt other place ≡ nat_lt other (suc place)
lt_same other place apart = by_tests (nat_lt other place) (nat_lt other (suc place)) refl refl
  where
    by_tests : (a b : Bool) → nat_lt other place ≡ a → nat_lt other (suc place) ≡ b → a ≡ b
    by_tests true true one two = refl
    by_tests true false one two = let below = ltb-true other place one in let above = ltb-false other (suc place) two in absurd (omega (arith, below, above))
    by_tests false true one two = let above = ltb-false other place one in let below = ltb-true other (suc place) two in absurd (apart (omega (arith, below, above)))
    by_tests false false one two = refl

-- the flush of the writer at this place comes next
flush_next : (scenario : Parts) (place other : ℕ) → is_open_at scenario scenario.lines place ≡ true
    → flushing scenario place other ≡ asked_all place (Flushed ∷ []) (flushing scenario (suc place)) other
flush_next scenario place other opened = elim (cases_eq other place) [
  | inl here ↦
      (ap (λ (b : Bool). cond b [] (last_flush (is_open_at scenario scenario.lines other))) (le-ltb other place (omega (arith, here)))
      ∙ ap (λ (n : ℕ). last_flush (is_open_at scenario scenario.lines n)) here
      ∙ ap (λ (b : Bool). last_flush b) opened
      ∙ sym (ap (λ (b : Bool). cond b (Flushed ∷ flushing scenario (suc place) other) (flushing scenario (suc place) other)) (eq-eqb other place here)
      ∙ ap (λ (b : Bool). Flushed ∷ cond b [] (last_flush (is_open_at scenario scenario.lines other))) (lt-ltb other (suc place) (omega (arith, here)))))
  | inr apart ↦
      (ap (λ (b : Bool). cond b [] (last_flush (is_open_at scenario scenario.lines other))) (lt_same other place apart)
      ∙ sym (ap (λ (b : Bool). cond b (Flushed ∷ flushing scenario (suc place) other) (flushing scenario (suc place) other)) (ne_eqb other place apart)))
]

-- and there is none where its producer is closed
flush_none : (scenario : Parts) (place other : ℕ) → is_open_at scenario scenario.lines place ≡ false
    → flushing scenario place other ≡ flushing scenario (suc place) other
flush_none scenario place other closed = elim (cases_eq other place) [
  | inl here ↦
      (ap (λ (b : Bool). cond b [] (last_flush (is_open_at scenario scenario.lines other))) (le-ltb other place (omega (arith, here)))
      ∙ ap (λ (n : ℕ). last_flush (is_open_at scenario scenario.lines n)) here
      ∙ ap (λ (b : Bool). last_flush b) closed
      ∙ sym (ap (λ (b : Bool). cond b [] (last_flush (is_open_at scenario scenario.lines other))) (lt-ltb other (suc place) (omega (arith, here)))))
  | inr apart ↦ ap (λ (b : Bool). cond b [] (last_flush (is_open_at scenario scenario.lines other))) (lt_same other place apart)
]

flush_first : (scenario : Parts) (place : ℕ) → coming_at scenario [] place ≡ flushing scenario zero place
flush_first scenario place = sym (ap (λ (b : Bool). cond b [] (last_flush (is_open_at scenario scenario.lines place))) (le-ltb place zero (omega arith)))

ready_as : {T W S : Type 0} (means : Meaning T W S) (table : T) (cores : List (WriterCore W)) (coming more : ℕ → List Call) → ((place : ℕ) → coming place ≡ more place)
    → AreReady means table cores coming → AreReady means table cores more
ready_as means table cores coming more same ready place core at =
    subst (λ (calls : List Call). IsReadyFor (payload_at (means.setup table) place) (means.view table core.seat) calls) (same place) (ready place core at)

-- ---- the last flushes

-- where the flags and what is kept of flush requests are as before, the lines that are played stay so
pub kept_quiet : {T W S : Type 0} (means : Meaning T W S) (scenario : Parts) (before : List NumberedLine) (notes : List ActNote) (acts : List Act) (old new : Host T W S)
    → IsKept means scenario before notes old → IsHost means new → new.open_producers ≡ old.open_producers → new.flushes ≡ old.flushes
    → ((taken : Intake) → HasDone means acts [] old taken new taken) → IsKept means scenario before (notes ++ []) new
kept_quiet means scenario before notes acts old new kept host opened flushes done =
    kept_still means scenario before notes [] old new kept host (done (untold [])).setup_is (done (untold [])).first opened
    (subst (λ (ns : List ActNote). IsTally ns (length scenario.writers) new.flushes) (sym (append-nil notes))
    (subst (λ (f : _). IsTally notes (length scenario.writers) f) (sym flushes) kept.tally))

-- behind the last flushes what is kept is as before
pub kept_flushed : {T W S : Type 0} (means : Meaning T W S) (acts : List Act) (old new : Host T W S) (over : IsOver means old) → HaveFlushed means acts old new
    → IsKept means over.scenario over.scenario.lines (over.notes ++ []) new
kept_flushed means acts old new over flushed =
    kept_quiet means over.scenario over.scenario.lines over.notes acts old new over.going.kept flushed.host flushed.opened flushed.flushes flushed.done

module _ {T W S : Type 0} (means : Meaning T W S) (old : Host T W S) (over : IsOver means old) where
  abbrev flush_act : ℕ → Act
  flush_act place = Ask place Flushed

  -- none has flushed
  pub flushed_first : HaveFlushedTo means over.scenario zero old old
  flushed_first = record {
    acts = [];
    rest = refl;
    flushed = record {
      host = over.going.kept.is_host;
      opened = refl;
      flushes = refl;
      many = refl;
      done = λ taken. done_none means old taken;
    };
    ready = ready_as means old.table old.writers.items (coming_at over.scenario []) (flushing over.scenario zero) (flush_first over.scenario) over.going.ready;
  }

  -- the places of the loop are those of the scenario's writers
  pub flush_many : length old.writers.items ≡ length over.scenario.writers
  flush_many =
      over.going.kept.is_host.stands.many
      ∙ ap (λ (ws : List WriterSpec). length ws) (writers_are means over.scenario over.scenario.lines over.notes old over.going.kept)

  pub flush_inside : (place : ℕ) → place < length old.writers.items → place < length over.scenario.writers
  flush_inside place below = subst (λ (n : ℕ). place < n) flush_many below

  pub flush_there : (place : ℕ) (mid : Host T W S) → HaveFlushedTo means over.scenario place old mid → place < length old.writers.items
      → place < length (means.setup mid.table).writers
  flush_there place mid so below =
      place_inside means over.scenario over.scenario.lines (over.notes ++ []) mid (kept_flushed means so.acts old mid over so.flushed) place (flush_inside place below)

  -- whether the writer counts as open says whether a line has closed its producer
  pub flush_flag : (place : ℕ) (mid : Host T W S) (said : Bool) → HaveFlushedTo means over.scenario place old mid → place < length old.writers.items
      → (IsTrue said ↔ IsOpenAt means mid place) → is_open_at over.scenario over.scenario.lines place ≡ said
  flush_flag place mid said so below says =
      sym (flag_is means over.scenario over.scenario.lines (over.notes ++ []) mid (kept_flushed means so.acts old mid over so.flushed) place (flush_inside place below))
      ∙ same_test (slice_index_or mid.open_producers.items (producer_of (means.setup mid.table) place - 1) false) said says
    where
      same_test : (b a : Bool) → (IsTrue a ↔ (b ≡ true)) → b ≡ a
      same_test true true says = refl
      same_test true false says = sym (says.1 refl)
      same_test false true says = says.0 refl
      same_test false false says = refl

  -- what the next flush may rely on
  pub flush_ready : (place : ℕ) (mid : Host T W S) → HaveFlushedTo means over.scenario place old mid
      → is_open_at over.scenario over.scenario.lines place ≡ true
      → AreReady means mid.table mid.writers.items (asked_all place (Flushed ∷ []) (flushing over.scenario (suc place)))
  flush_ready place mid so opened =
      ready_as means mid.table mid.writers.items (flushing over.scenario place) (asked_all place (Flushed ∷ []) (flushing over.scenario (suc place)))
      (λ other. flush_next over.scenario place other opened) so.ready

  -- one more has
  pub flushed_next : (place : ℕ) (mid new : Host T W S) → HaveFlushedTo means over.scenario place old mid → place < length over.scenario.writers
      → is_open_at over.scenario over.scenario.lines place ≡ true → IsHost means new → HasAsked means place (Flushed ∷ []) mid new
      → HaveFlushedTo means over.scenario (suc place) old new
  flushed_next place mid new so below opened host asked = record {
    acts = so.acts ++ flush_act place ∷ [];
    rest = rest_more (map flush_act (open_places over.scenario.lines 0 over.scenario.writers)) so.acts
        (map flush_act (open_places over.scenario.lines place (drop place over.scenario.writers)))
        (map flush_act (open_places over.scenario.lines (suc place) (drop (suc place) over.scenario.writers)))
        (flush_act place) so.rest (places_open flush_act over.scenario.lines over.scenario.writers place below opened);
    flushed = record {
      host = host;
      opened = asked.books.opened ∙ so.flushed.opened;
      flushes = asked.books.flushes ∙ so.flushed.flushes;
      many = asked.many ∙ so.flushed.many;
      done = λ taken. done_both means so.acts (flush_act place ∷ []) [] [] old mid new taken taken taken (so.flushed.done taken)
          (asked_done means place (Flushed ∷ []) mid new asked taken);
    };
    ready = asked.ready (flushing over.scenario (suc place)) (flush_ready place mid so opened);
  }

  -- one is passed over
  pub flushed_past : (place : ℕ) (mid : Host T W S) → HaveFlushedTo means over.scenario place old mid → place < length over.scenario.writers
      → is_open_at over.scenario over.scenario.lines place ≡ false → HaveFlushedTo means over.scenario (suc place) old mid
  flushed_past place mid so below closed = record {
    acts = so.acts;
    rest = rest_same (map flush_act (open_places over.scenario.lines 0 over.scenario.writers)) so.acts
        (map flush_act (open_places over.scenario.lines place (drop place over.scenario.writers)))
        (map flush_act (open_places over.scenario.lines (suc place) (drop (suc place) over.scenario.writers)))
        so.rest (places_closed flush_act over.scenario.lines over.scenario.writers place below closed);
    flushed = so.flushed;
    ready = ready_as means mid.table mid.writers.items (flushing over.scenario place) (flushing over.scenario (suc place))
        (λ other. flush_none over.scenario place other closed) so.ready;
  }

  -- all have
  pub flushed_all : (end : ℕ) (new : Host T W S) → HaveFlushedTo means over.scenario end old new → length over.scenario.writers ≤ end
      → HaveFlushed means (map flush_act (open_places over.scenario.lines 0 over.scenario.writers)) old new
  flushed_all end new so most =
      subst (λ (acts : List Act). HaveFlushed means acts old new)
      (rest_none (map flush_act (open_places over.scenario.lines 0 over.scenario.writers)) so.acts
      (map flush_act (open_places over.scenario.lines end (drop end over.scenario.writers))) so.rest
      (places_none flush_act over.scenario.lines over.scenario.writers end most)) so.flushed

-- ---- the last reads

-- the reads before one, it, and the others
pub reads_cut : (count index : ℕ) → index < count → (rest : List Act) × (reads_to count ≡ (reads_to index ++ ReadAll (suc index) last_count ∷ []) ++ rest)
reads_cut zero index below = absurd (omega (arith, below))
reads_cut (suc count) index below = elim (cases_eq index count) [
  | inl here ↦
      ([], ap (λ (n : ℕ). reads_to n ++ ReadAll (suc n) last_count ∷ []) (sym here) ∙ sym (append-nil (reads_to index ++ ReadAll (suc index) last_count ∷ [])))
  | inr apart ↦ further (reads_cut count index (before apart))
]
  where
    before : index ≢ count → index < count
    before apart = by_test (nat_lt index count) refl
      where
        by_test : (b : Bool) → nat_lt index count ≡ b → index < count
        by_test true one = ltb-true index count one
        by_test false one = let above = ltb-false index count one in absurd (apart (omega (arith, above, below)))

    further : (rest : List Act) × (reads_to count ≡ (reads_to index ++ ReadAll (suc index) last_count ∷ []) ++ rest)
        → (rest : List Act) × (reads_to (suc count) ≡ (reads_to index ++ ReadAll (suc index) last_count ∷ []) ++ rest)
    further less = (
      less.0 ++ ReadAll (suc count) last_count ∷ [],
      ap (λ (acts : List Act). acts ++ ReadAll (suc count) last_count ∷ []) less.1
          ∙ append_assoc (reads_to index ++ ReadAll (suc index) last_count ∷ []) less.0 (ReadAll (suc count) last_count ∷ []),
    )

-- behind so many reads the buffers from there on are read
reads_behind : (buffers : List BufferLine) (count : ℕ) → reads_to (count + length buffers) ≡ reads_to count ++ reads_from (suc count) buffers
reads_behind [] count = ap reads_to (let same : count + 0 ≡ count = omega arith in same) ∙ sym (append-nil (reads_to count))
reads_behind (buffer ∷ buffers) count =
    ap reads_to (let same : count + suc (length buffers) ≡ suc count + length buffers = omega arith in same)
    ∙ reads_behind buffers (suc count)
    ∙ append_assoc (reads_to count) (ReadAll (suc count) last_count ∷ []) (reads_from (suc (suc count)) buffers)

-- each buffer is read
pub reads_all : (buffers : List BufferLine) (count : ℕ) → length buffers ≡ count → reads_to count ≡ reads_from 1 buffers
reads_all buffers count many = ap reads_to (let same : count ≡ 0 + length buffers = omega (arith, many) in same) ∙ reads_behind buffers zero

-- acts that leave what is kept of flush requests, behind others
pub ended_more : {T W S : Type 0} (means : Meaning T W S) (acts others : List Act) (old mid new : Host T W S) (taken between left : Intake)
    → HasEnded means acts old taken mid between → IsHost means new → new.flushes ≡ mid.flushes → HasDone means others [] mid between new left
    → HasEnded means (acts ++ others) old taken new left
ended_more means acts others old mid new taken between left so host flushes done = record {
  host = host;
  flushes = flushes ∙ so.flushes;
  done = done_both means acts others [] [] old mid new taken between left so.done done;
}

-- ---- the end of the session

-- the host with a service in the place of its own
abbrev pub with_service : {T W S : Type 0} → Host T W S → ServiceCore S → Host T W S
with_service host service = record {
  table = host.table;
  writers = host.writers;
  helper = record { service = service; producer = host.helper.producer; asks = host.helper.asks };
  flushes = host.flushes;
  specs = host.specs;
  open_producers = host.open_producers;
}

-- a call on the session alone does no act
pub session_quiet : {T W S : Type 0} (means : Meaning T W S) (old : Host T W S) (service : ServiceCore S) → IsHost means old → KeepsTaking old.helper.service service
    → ServiceAgrees (means.setup old.table) (means.service_view old.table old.helper.service.seat) service → HaveFlushed means [] old (with_service old service)
session_quiet means old service host keeps agrees = record {
  host = host_session means old (with_service old service) host refl refl refl refl keeps agrees;
  opened = refl;
  flushes = refl;
  many = refl;
  done = λ taken. record {
    setup_is = refl;
    first = ap (λ (specs : _). first_buffers (means.setup old.table) 1 (map spec_value specs)) keeps.specs;
    plays = played_none means (first_of (means.setup old.table) old.helper.service) old.table;
    writes = λ start is. subst (λ (seat : _). IsTraceOf start (first_of (means.setup old.table) old.helper.service) (means.service_view old.table seat) taken) (sym keeps.seat) is;
  };
}

-- ---- the flags, from part to part

abbrev pub flags_flushed : {T W S : Type 0} (means : Meaning T W S) (acts : List Act) (old new : Host T W S) (over : IsOver means old) → HaveFlushed means acts old new
    → HasFlags means new
flags_flushed means acts old new over flushed = record {
  scenario = over.scenario;
  before = over.scenario.lines;
  notes = over.notes ++ [];
  kept = kept_flushed means acts old new over flushed;
}

abbrev pub flags_served : {T W S : Type 0} (means : Meaning T W S) (acts : List Act) (old new : Host T W S) (flags : HasFlags means old) → HasServed means acts old new
    → HasFlags means new
flags_served means acts old new flags served = record {
  scenario = flags.scenario;
  before = flags.before;
  notes = flags.notes ++ [];
  kept = kept_quiet means flags.scenario flags.before flags.notes acts old new flags.kept served.host served.opened served.writers.flushes served.done;
}

abbrev pub flags_quiet : {T W S : Type 0} (means : Meaning T W S) (acts : List Act) (old new : Host T W S) (flags : HasFlags means old) → HaveFlushed means acts old new
    → HasFlags means new
flags_quiet means acts old new flags quiet = record {
  scenario = flags.scenario;
  before = flags.before;
  notes = flags.notes ++ [];
  kept = kept_quiet means flags.scenario flags.before flags.notes acts old new flags.kept quiet.host quiet.opened quiet.flushes quiet.done;
}

-- ---- the whole end

module _ {T W S : Type 0} (means : Meaning T W S) (old flushed collected stopped closed : Host T W S) (over : IsOver means old)
    (flushes : HaveFlushed means (map (λ place. Ask place Flushed) (open_places over.scenario.lines 0 over.scenario.writers)) old flushed)
    (collects : HasServed means (map Collect (open_producers over.scenario.lines 1 over.scenario.producers)) flushed collected)
    (stops : HaveFlushed means [] collected stopped)
    (closes : HaveClosed means (map CloseProducer (open_producers over.scenario.lines 1 over.scenario.producers)) stopped closed) where
  abbrev flush_acts : List Act
  flush_acts = map (λ place. Ask place Flushed) (open_places over.scenario.lines 0 over.scenario.writers)

  abbrev collect_acts : List Act
  collect_acts = map Collect (open_producers over.scenario.lines 1 over.scenario.producers)

  abbrev close_acts : List Act
  close_acts = map CloseProducer (open_producers over.scenario.lines 1 over.scenario.producers)

  -- all but the reads was done
  before_reads : (taken : Intake) → HasDone means (flush_acts ++ collect_acts ++ close_acts) [] old taken closed taken
  before_reads taken =
      done_both means (flush_acts ++ collect_acts) close_acts [] [] old collected closed taken taken taken
      (done_both means flush_acts collect_acts [] [] old flushed collected taken taken taken (flushes.done taken) (collects.done taken))
      (done_both means [] close_acts [] [] collected stopped closed taken taken taken (stops.done taken) (closes.done taken))

  -- the end was done where each buffer was read
  pub ended_all : (new : Host T W S) (taken left : Intake) (count : ℕ) → length over.scenario.buffers ≡ count
      → HasEnded means (reads_to count) closed taken new left → HasEnded means (last_acts over.scenario) old taken new left
  ended_all new taken left count many reads = record {
    host = reads.host;
    flushes = reads.flushes ∙ closes.writers.flushes ∙ stops.flushes ∙ collects.writers.flushes ∙ flushes.flushes;
    done = done_both means (flush_acts ++ collect_acts ++ close_acts) (reads_from 1 over.scenario.buffers) [] [] old closed new taken taken left (before_reads taken)
        (subst (λ (acts : List Act). HasDone means acts [] closed taken new left) (reads_all over.scenario.buffers count many) reads.done);
  }

  -- it stopped where a read did
  pub stopped_all : (taken left : Intake) (fault : HostFault) (count : ℕ) → length over.scenario.buffers ≡ count
      → StopsIn means (reads_to count) closed taken fault left → StopsIn means (last_acts over.scenario) old taken fault left
  stopped_all taken left fault count many reads =
      stopped_later means (flush_acts ++ collect_acts ++ close_acts) (reads_from 1 over.scenario.buffers) [] old closed taken taken fault left (before_reads taken)
      (subst (λ (acts : List Act). StopsIn means acts closed taken fault left) (reads_all over.scenario.buffers count many) reads)
