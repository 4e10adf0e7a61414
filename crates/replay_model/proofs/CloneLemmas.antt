-- Lines that make clones change nothing of what is played, emitted and reported.
use Rattle.std.proofs.Common.{◌≡◌, ◌∙◌, ℕ, suc, ◌-◌, Bool, true, false, ◌*◌, ◌||◌, cond, List, [], ◌∷◌, ◌++◌, map, refl, sym, ap, subst, append-nil}
use Rattle.std.specs.Prelude.{filter, fold, slice_get, if◌then◌else◌}
use Rattle.std.specs.List.{list_any}
use Rattle.std.proofs.lemmas.Bool.{or_parts}
use Rattle.trace_base.specs.declared.limits.TheConstants.{BYTES_PER_KB}
use Rattle.trace_base.specs.declared.policy.WriterSpec.{WriterSpec}
use Rattle.trace_model.specs.Balance.{PacketCounts}
use Rattle.trace_model.specs.Buffers.{Buffer}
use Rattle.trace_model.specs.Calls.{Call, Flushed}
use Rattle.trace_model.specs.Counts.{raised}
use Rattle.trace_model.specs.Delivery.{IsFaithfulOf, IsComplete}
use Rattle.trace_model.specs.Enough.{ChunkRoom, IsEnough, WriterLoad}
use Rattle.trace_model.specs.Packets.{begun_count, emissions_of}
use Rattle.trace_model.specs.Sequences.{Sequence, sequence_in}
use Rattle.chunk_plain.specs.Plain.{first_world}
use Rattle.chunk_plain.specs.Setup.{Setup, sequence_of}
use Rattle.chunk_plain.specs.World.{World, writer}
use Rattle.scenario_text.specs.declared.scenario.BufferLine.{BufferLine}
use Rattle.scenario_text.specs.declared.scenario.LineKind.{LineKind}
use Rattle.scenario_text.specs.declared.scenario.LineKind.TheVariants as line
use Rattle.scenario_text.specs.declared.scenario.NumberedLine.{NumberedLine}
use Rattle.scenario_text.specs.declared.scenario.ProducerLine.{ProducerLine}
use Rattle.scenario_text.specs.Accepted.{line_calls, calls_asked, closes, is_closed_by}
use Rattle.scenario_text.specs.Clones.{is_no_clone, other_lines, without_clones}
use Rattle.scenario_text.specs.Emissions.{emitted_from}
use Rattle.scenario_text.specs.Scenario.{Parts}
use Rattle.scenario_text.specs.Raws.{HasNoRaw, RawsNone, has_raw, is_raw, is_raw_of, raw_numbers}
use Rattle.trace_buffer.specs.Answers.{counts_of}
use Rattle.loss_report.specs.Raws.{raw_text}
use Rattle.loss_report.specs.Report.{report_text}
use Rattle.service_core.specs.Routing.{buffer_at}
use Rattle.replay_model.specs.Acts.{Act, Ask, Request, Answer, Collect, CloseProducer}
use Rattle.replay_model.specs.Clones.{NoCloneAsks, ClonesChangeNoReplay}
use Rattle.replay_model.specs.Enough.{HasEnough, closed_from, loads_from, room_of}
use Rattle.replay_model.specs.ActNotes.{ActNote, answers_in}
use Rattle.replay_model.specs.Flushes.{flush_sums}
use Rattle.replay_model.specs.Played.{CountsPackets, buffers_of, buffers_in, counts_from, packet_counts, printed, records_in, report_of, report_with}
use Rattle.replay_model.specs.Plays.{Plays}
use Rattle.replay_model.specs.Raws.{raw_lines, counts_by}
use Rattle.replay_model.specs.Schedule.{open_producers, open_places, is_due_after, answers_late, asked_of, acts_of, acts_from, reads_from, last_acts, schedule_of}

-- ---- one line

-- a line that isn't another one makes a clone
clone_is : (kind : LineKind) → is_no_clone kind ≡ false → (buffer : ℕ) × (kind ≡ line.CloneBuffer buffer)
clone_is (line.Packet writer fields) is = absurd (cc)
clone_is (line.Begin writer) is = absurd (cc)
clone_is (line.Add writer fields) is = absurd (cc)
clone_is (line.Nest writer field) is = absurd (cc)
clone_is (line.Unnest writer) is = absurd (cc)
clone_is (line.End writer) is = absurd (cc)
clone_is (line.Flush writer) is = absurd (cc)
clone_is (line.Collect producer) is = absurd (cc)
clone_is (line.Scrape producer) is = absurd (cc)
clone_is (line.Close producer) is = absurd (cc)
clone_is (line.Read buffer limit) is = absurd (cc)
clone_is line.Request is = absurd (cc)
clone_is (line.CloneBuffer buffer) is = (buffer, refl)
clone_is (line.Raw writer chunk) is = absurd (cc)

clone_asks : (buffer number : ℕ) → line_calls number (line.CloneBuffer buffer) ≡ []
unfolding line_calls
clone_asks buffer number = refl

clone_closes : (buffer producer : ℕ) → closes producer (line.CloneBuffer buffer) ≡ false
unfolding closes
clone_closes buffer producer = refl

clone_commits : (buffer : ℕ) → is_raw (line.CloneBuffer buffer) ≡ false
unfolding is_raw
clone_commits buffer = refl

clone_commits_for : (buffer number : ℕ) → is_raw_of number (line.CloneBuffer buffer) ≡ false
unfolding is_raw_of
clone_commits_for buffer number = refl

-- ---- all lines

asked_others : (number : ℕ) (lines : List NumberedLine) → calls_asked number (other_lines lines) ≡ calls_asked number lines
asked_others number [] = refl
asked_others number (one ∷ lines) = step (is_no_clone one.what) refl (asked_others number lines)
  where
    step : (other : Bool) → is_no_clone one.what ≡ other → calls_asked number (other_lines lines) ≡ calls_asked number lines
        → calls_asked number (cond other (one ∷ other_lines lines) (other_lines lines)) ≡ line_calls number one.what ++ calls_asked number lines
    step true is rest = ap (λ (cs : List Call). line_calls number one.what ++ cs) rest
    step false is rest =
        let clone = clone_is one.what is in
        rest
        ∙ ap (λ (cs : List Call). cs ++ calls_asked number lines) (sym (ap (line_calls number) clone.1 ∙ clone_asks clone.0 number))

closed_others : (lines : List NumberedLine) (producer : ℕ) → is_closed_by (other_lines lines) producer ≡ is_closed_by lines producer
closed_others [] producer = refl
closed_others (one ∷ lines) producer = step (is_no_clone one.what) refl (closed_others lines producer)
  where
    step : (other : Bool) → is_no_clone one.what ≡ other → is_closed_by (other_lines lines) producer ≡ is_closed_by lines producer
        → is_closed_by (cond other (one ∷ other_lines lines) (other_lines lines)) producer ≡ (closes producer one.what || is_closed_by lines producer)
    step true is rest = ap (λ (b : Bool). closes producer one.what || b) rest
    step false is rest =
        let clone = clone_is one.what is in
        rest
        ∙ ap (λ (b : Bool). b || is_closed_by lines producer) (sym (ap (closes producer) clone.1 ∙ clone_closes clone.0 producer))

due_from : (number : ℕ) (due : Bool) (lines : List NumberedLine)
    → fold (λ (d : Bool) (one : NumberedLine). is_due_after number d one.what) due (other_lines lines)
    ≡ fold (λ (d : Bool) (one : NumberedLine). is_due_after number d one.what) due lines
due_from number due [] = refl
due_from number due (one ∷ lines) = step (is_no_clone one.what) refl (λ d. due_from number d lines)
  where
    step : (other : Bool) → is_no_clone one.what ≡ other
        → ((d : Bool) → fold (λ (d : Bool) (one : NumberedLine). is_due_after number d one.what) d (other_lines lines)
        ≡ fold (λ (d : Bool) (one : NumberedLine). is_due_after number d one.what) d lines)
        → fold (λ (d : Bool) (one : NumberedLine). is_due_after number d one.what) due (cond other (one ∷ other_lines lines) (other_lines lines))
        ≡ fold (λ (d : Bool) (one : NumberedLine). is_due_after number d one.what) (is_due_after number due one.what) lines
    step true is rest = rest (is_due_after number due one.what)
    step false is rest =
        let clone = clone_is one.what is in
        rest due
        ∙ ap (λ (d : Bool). fold (λ (d : Bool) (one : NumberedLine). is_due_after number d one.what) d lines)
        (sym (ap (is_due_after number due) clone.1))

others_append : (xs ys : List NumberedLine) → other_lines (xs ++ ys) ≡ other_lines xs ++ other_lines ys
others_append [] ys = refl
others_append (one ∷ xs) ys = step (is_no_clone one.what) (others_append xs ys)
  where
    step : (other : Bool) → other_lines (xs ++ ys) ≡ other_lines xs ++ other_lines ys
        → cond other (one ∷ other_lines (xs ++ ys)) (other_lines (xs ++ ys)) ≡ cond other (one ∷ other_lines xs) (other_lines xs) ++ other_lines ys
    step true rest = ap (λ (lines : List NumberedLine). one ∷ lines) rest
    step false rest = rest

-- the lines that commit a chunk in a writer's name
raw_others : (number : ℕ) (lines : List NumberedLine) → has_raw number (other_lines lines) ≡ has_raw number lines
raw_others number [] = refl
raw_others number (one ∷ lines) = step (is_no_clone one.what) refl (raw_others number lines)
  where
    step : (other : Bool) → is_no_clone one.what ≡ other → has_raw number (other_lines lines) ≡ has_raw number lines
        → has_raw number (cond other (one ∷ other_lines lines) (other_lines lines)) ≡ (is_raw_of number one.what || has_raw number lines)
    step true is rest = ap (λ (b : Bool). is_raw_of number one.what || b) rest
    step false is rest =
        let clone = clone_is one.what is in
        rest
        ∙ ap (λ (b : Bool). b || has_raw number lines) (sym (ap (is_raw_of number) clone.1 ∙ clone_commits_for clone.0 number))

-- whether any does
any_raw_others : (lines : List NumberedLine) → RawsNone (other_lines lines) → RawsNone lines
any_raw_others [] none = none
any_raw_others (one ∷ lines) none = step (is_no_clone one.what) refl (any_raw_others lines) none
  where
    step : (other : Bool) → is_no_clone one.what ≡ other → (RawsNone (other_lines lines) → RawsNone lines)
        → RawsNone (cond other (one ∷ other_lines lines) (other_lines lines)) → RawsNone (one ∷ lines)
    step true is rest none =
        let test : NumberedLine → Bool = λ (line : NumberedLine). is_raw line.what in
        let parts = or_parts (is_raw one.what) (list_any test (other_lines lines)) none in
        ap (λ (b : Bool). b || list_any test lines) parts.0 ∙ rest parts.1
    step false is rest none =
        let test : NumberedLine → Bool = λ (line : NumberedLine). is_raw line.what in
        let clone = clone_is one.what is in
        ap (λ (b : Bool). b || list_any test lines) (ap is_raw clone.1 ∙ clone_commits clone.0) ∙ rest none

-- and their numbers
numbers_others : (lines : List NumberedLine) → raw_numbers (other_lines lines) ≡ raw_numbers lines
numbers_others [] = refl
numbers_others (one ∷ lines) = step (is_no_clone one.what) refl (numbers_others lines)
  where
    with_own : (raw : Bool) → raw_numbers (other_lines lines) ≡ raw_numbers lines
        → map (λ (line : NumberedLine). line.line) (cond raw (one ∷ filter (λ (line : NumberedLine). is_raw line.what) (other_lines lines)) (filter (λ (line : NumberedLine). is_raw line.what) (other_lines lines)))
        ≡ map (λ (line : NumberedLine). line.line) (cond raw (one ∷ filter (λ (line : NumberedLine). is_raw line.what) lines) (filter (λ (line : NumberedLine). is_raw line.what) lines))
    with_own true rest = ap (λ (numbers : List ℕ). one.line ∷ numbers) rest
    with_own false rest = rest

    step : (other : Bool) → is_no_clone one.what ≡ other → raw_numbers (other_lines lines) ≡ raw_numbers lines
        → raw_numbers (cond other (one ∷ other_lines lines) (other_lines lines)) ≡ raw_numbers (one ∷ lines)
    step true is rest = with_own (is_raw one.what) rest
    step false is rest =
        let clone = clone_is one.what is in
        let test : NumberedLine → Bool = λ (line : NumberedLine). is_raw line.what in
        rest
        ∙ ap (λ (b : Bool). map (λ (line : NumberedLine). line.line) (cond b (one ∷ filter test lines) (filter test lines)))
        (sym (ap is_raw clone.1 ∙ clone_commits clone.0))

-- ---- what is open

producers_others : (before : List NumberedLine) (number : ℕ) (producers : List ProducerLine)
    → open_producers (other_lines before) number producers ≡ open_producers before number producers
producers_others before number [] = refl
producers_others before number (producer ∷ producers) =
    ap (λ (numbers : List ℕ). if is_closed_by (other_lines before) number then numbers else number ∷ numbers) (producers_others before (suc number) producers)
    ∙ ap (λ (b : Bool). if b then open_producers before (suc number) producers else number ∷ open_producers before (suc number) producers)
    (closed_others before number)

places_others : (before : List NumberedLine) (place : ℕ) (specs : List WriterSpec) → open_places (other_lines before) place specs ≡ open_places before place specs
places_others before place [] = refl
places_others before place (spec ∷ specs) =
    ap (λ (places : List ℕ). if is_closed_by (other_lines before) spec.producer then places else place ∷ places) (places_others before (suc place) specs)
    ∙ ap (λ (b : Bool). if b then open_places before (suc place) specs else place ∷ open_places before (suc place) specs)
    (closed_others before spec.producer)

-- ---- the schedule

line_others : (scenario : Parts) (before : List NumberedLine) (kind : LineKind)
    → acts_of (without_clones scenario) (other_lines before) kind ≡ acts_of scenario before kind
line_others scenario before (line.Packet writer fields) = refl
line_others scenario before (line.Begin writer) = refl
line_others scenario before (line.Add writer fields) = refl
line_others scenario before (line.Nest writer field) = refl
line_others scenario before (line.Unnest writer) = refl
line_others scenario before (line.End writer) =
    ap (λ (due : Bool). asked_of writer (line_calls writer (line.End writer)) ++ answers_late writer due) (due_from writer false before)
line_others scenario before (line.Flush writer) = refl
line_others scenario before (line.Collect producer) = refl
line_others scenario before (line.Scrape producer) = refl
line_others scenario before (line.Close producer) = refl
line_others scenario before (line.Read buffer limit) = refl
line_others scenario before line.Request =
    ap (λ (places : List ℕ). Request ∷ map Answer places ++ map Collect (open_producers (other_lines before) 1 scenario.producers))
    (places_others before 0 scenario.writers)
    ∙ ap (λ (numbers : List ℕ). Request ∷ map Answer (open_places before 0 scenario.writers) ++ map Collect numbers)
    (producers_others before 1 scenario.producers)
line_others scenario before (line.CloneBuffer buffer) = refl
line_others scenario before (line.Raw writer chunk) = refl

acts_others : (scenario : Parts) (before lines : List NumberedLine)
    → acts_from (without_clones scenario) (other_lines before) (other_lines lines) ≡ acts_from scenario before lines
acts_others scenario before [] = refl
acts_others scenario before (one ∷ lines) =
    step (is_no_clone one.what) refl (others_append before (one ∷ [])) (acts_others scenario (before ++ one ∷ []) lines)
  where
    step : (other : Bool) → is_no_clone one.what ≡ other
        → other_lines (before ++ one ∷ []) ≡ other_lines before ++ cond (is_no_clone one.what) (one ∷ []) []
        → acts_from (without_clones scenario) (other_lines (before ++ one ∷ [])) (other_lines lines) ≡ acts_from scenario (before ++ one ∷ []) lines
        → acts_from (without_clones scenario) (other_lines before) (cond other (one ∷ other_lines lines) (other_lines lines))
        ≡ acts_of scenario before one.what ++ acts_from scenario (before ++ one ∷ []) lines
    step true is behind rest =
        ap (λ (acts : List Act). acts ++ acts_from (without_clones scenario) (other_lines before ++ one ∷ []) (other_lines lines)) (line_others scenario before one.what)
        ∙ ap (λ (earlier : List NumberedLine). acts_of scenario before one.what ++ acts_from (without_clones scenario) earlier (other_lines lines))
        (sym (behind ∙ ap (λ (b : Bool). other_lines before ++ cond b (one ∷ []) []) is))
        ∙ ap (λ (acts : List Act). acts_of scenario before one.what ++ acts) rest
    step false is behind rest =
        let clone = clone_is one.what is in
        ap (λ (earlier : List NumberedLine). acts_from (without_clones scenario) earlier (other_lines lines))
        (sym (append-nil (other_lines before)) ∙ sym (behind ∙ ap (λ (b : Bool). other_lines before ++ cond b (one ∷ []) []) is))
        ∙ rest
        ∙ ap (λ (acts : List Act). acts ++ acts_from scenario (before ++ one ∷ []) lines) (sym (ap (acts_of scenario before) clone.1))

last_others : (scenario : Parts) → last_acts (without_clones scenario) ≡ last_acts scenario
last_others scenario =
    ap (λ (places : List ℕ). map (λ place. Ask place Flushed) places ++ map Collect (open_producers (other_lines scenario.lines) 1 scenario.producers)
    ++ map CloseProducer (open_producers (other_lines scenario.lines) 1 scenario.producers) ++ reads_from 1 scenario.buffers)
    (places_others scenario.lines 0 scenario.writers)
    ∙ ap (λ (numbers : List ℕ). map (λ place. Ask place Flushed) (open_places scenario.lines 0 scenario.writers) ++ map Collect numbers
    ++ map CloseProducer numbers ++ reads_from 1 scenario.buffers)
    (producers_others scenario.lines 1 scenario.producers)

pub schedule_others : (scenario : Parts) → schedule_of (without_clones scenario) ≡ schedule_of scenario
schedule_others scenario =
    ap (λ (acts : List Act). acts ++ last_acts (without_clones scenario)) (acts_others scenario [] scenario.lines)
    ∙ ap (λ (acts : List Act). acts_from scenario [] scenario.lines ++ acts) (last_others scenario)

-- ---- what is emitted, and what is enough

pub emitted_others : (lines : List NumberedLine) (number : ℕ) (specs : List WriterSpec) → emitted_from (other_lines lines) number specs ≡ emitted_from lines number specs
emitted_others lines number [] = refl
emitted_others lines number (spec ∷ specs) =
    ap (λ (calls : List Call). emissions_of calls ∷ emitted_from (other_lines lines) (suc number) specs) (asked_others number lines)
    ∙ ap (λ (emitted : List (List (List ℕ))). emissions_of (calls_asked number lines) ∷ emitted) (emitted_others lines (suc number) specs)

shut_others : (lines : List NumberedLine) (number : ℕ) (producers : List ProducerLine) → closed_from (other_lines lines) number producers ≡ closed_from lines number producers
shut_others lines number [] = refl
shut_others lines number (producer ∷ producers) =
    ap (λ (numbers : List ℕ). if is_closed_by (other_lines lines) number then number ∷ numbers else numbers) (shut_others lines (suc number) producers)
    ∙ ap (λ (b : Bool). if b then number ∷ closed_from lines (suc number) producers else closed_from lines (suc number) producers) (closed_others lines number)

loads_others : (lines : List NumberedLine) (number : ℕ) (specs : List WriterSpec) → loads_from (other_lines lines) number specs ≡ loads_from lines number specs
loads_others lines number [] = refl
loads_others lines number (spec ∷ specs) =
    ap (λ (calls : List Call). (record { spec = spec; emitted = emissions_of calls }) ∷ loads_from (other_lines lines) (suc number) specs) (asked_others number lines)
    ∙ ap (λ (loads : List WriterLoad). (record { spec = spec; emitted = emissions_of (calls_asked number lines) }) ∷ loads) (loads_others lines (suc number) specs)

pub enough_others : (scenario : Parts) → HasEnough (without_clones scenario) → HasEnough scenario
enough_others scenario enough = record {
  no_raw = any_raw_others scenario.lines enough.no_raw;
  enough = all_enough enough.enough;
}
  where
    all_enough : IsEnough (closed_from (other_lines scenario.lines) 1 scenario.producers) (map (λ (one : BufferLine). one.kb * BYTES_PER_KB) scenario.buffers)
        (map room_of scenario.producers) (loads_from (other_lines scenario.lines) 1 scenario.writers)
        → IsEnough (closed_from scenario.lines 1 scenario.producers) (map (λ (one : BufferLine). one.kb * BYTES_PER_KB) scenario.buffers)
        (map room_of scenario.producers) (loads_from scenario.lines 1 scenario.writers)
    all_enough is =
        let sizes : List ℕ = map (λ (one : BufferLine). one.kb * BYTES_PER_KB) scenario.buffers in
        let rooms : List ChunkRoom = map room_of scenario.producers in
        subst (λ (loads : List WriterLoad). IsEnough (closed_from scenario.lines 1 scenario.producers) sizes rooms loads) (loads_others scenario.lines 1 scenario.writers)
        (subst (λ (shut : List ℕ). IsEnough shut sizes rooms (loads_from (other_lines scenario.lines) 1 scenario.writers)) (shut_others scenario.lines 1 scenario.producers) is)

pub no_clone_asks : NoCloneAsks
no_clone_asks scenario = record {
  schedule = schedule_others scenario;
  emitted = emitted_others scenario.lines 1 scenario.writers;
  enough = enough_others scenario;
}

-- ---- a replay

pub counted_others : (scenario : Parts) (setup : Setup) (world : _) (place : ℕ) (counts : PacketCounts) → CountsPackets scenario setup world place counts
    → CountsPackets (without_clones scenario) setup world place counts
counted_others scenario setup world place counts counted = record {
  wrote = counted.wrote;
  begun = counted.begun ∙ ap (λ (calls : List Call). raised 0 (begun_count calls)) (sym (asked_others (suc place) scenario.lines));
  outcomes = counted.outcomes;
  records = counted.records;
}

-- the counts of the writers from this place on
counts_others : (lines : List NumberedLine) (buffers : List Buffer) (world : World) (place : ℕ) (specs : List WriterSpec)
    → counts_from (other_lines lines) buffers world place specs ≡ counts_from lines buffers world place specs
counts_others lines buffers world place [] = refl
counts_others lines buffers world place (spec ∷ specs) =
    let buffer : Buffer = buffer_at buffers (spec.buffer - 1) in
    let state : Sequence = sequence_in buffer.sequences (sequence_of place) in
    let others : List PacketCounts = counts_from (other_lines lines) buffers world (suc place) specs in
    ap (λ (raw : Bool). counts_by raw buffer.policy (writer world place).calls state ∷ others) (raw_others (suc place) lines)
    ∙ ap (λ (counts : List PacketCounts). counts_by (has_raw (suc place) lines) buffer.policy (writer world place).calls state ∷ counts)
    (counts_others lines buffers world (suc place) specs)

pub packets_others : (scenario : Parts) (setup : Setup) (world : World) → packet_counts (without_clones scenario) setup world ≡ packet_counts scenario setup world
packets_others scenario setup world = counts_others scenario.lines (buffers_in scenario setup world) world 0 scenario.writers

pub own_others : (scenario : Parts) (place : ℕ) → HasNoRaw (other_lines scenario.lines) place → HasNoRaw scenario.lines place
own_others scenario place none = sym (raw_others (suc place) scenario.lines) ∙ none

-- the text says the same
pub report_others : (scenario : Parts) (setup : Setup) (world : World) (notes : List ActNote)
    → report_of (without_clones scenario) setup world notes ≡ report_of scenario setup world notes
report_others scenario setup world notes =
    let sums : List ℕ = flush_sums notes world.service.taken in
    let raws : List ℕ = raw_text (raw_lines (raw_numbers (other_lines scenario.lines)) (answers_in notes)) in
    ap (λ (counts : List PacketCounts). report_text (map counts_of (buffers_in scenario setup world)) (map printed counts) sums ++ raws)
    (packets_others scenario setup world)
    ∙ ap (λ (numbers : List ℕ). report_with scenario setup world sums ++ raw_text (raw_lines numbers (answers_in notes))) (numbers_others scenario.lines)

abbrev pub clones_change_no_replay : ClonesChangeNoReplay
clones_change_no_replay scenario old new text replays = record {
  setup = replays.setup;
  world = replays.world;
  notes = replays.notes;
  played = record {
    setup_is = record { specs = replays.played.setup_is.specs; made = replays.played.setup_is.made; laid = replays.played.setup_is.laid };
    plays = subst (λ (acts : List Act). Plays replays.setup (buffers_of scenario replays.setup) acts (first_world replays.setup) replays.world replays.notes)
        (sym (schedule_others scenario)) replays.played.plays;
  };
  trace = replays.trace;
  report = replays.report ∙ sym (report_others scenario replays.setup replays.world replays.notes);
  faithful =
      let own = subst (λ (emitted : List (List (List ℕ))). IsFaithfulOf (HasNoRaw scenario.lines) emitted (records_in scenario replays.setup replays.world))
      (sym (emitted_others scenario.lines 1 scenario.writers)) replays.faithful in
      record { known = own.known; told = λ place packets none. own.told place packets (own_others scenario place none) };
  balanced = λ place one none get.
      replays.balanced place one (own_others scenario place none) (ap (λ (counts : List PacketCounts). slice_get counts place) (sym (packets_others scenario replays.setup replays.world)) ∙ get);
  counted = λ place counts none get.
      counted_others scenario replays.setup replays.world place counts
      (replays.counted place counts (own_others scenario place none)
      (ap (λ (all : List PacketCounts). slice_get all place) (sym (packets_others scenario replays.setup replays.world)) ∙ get));
  complete = λ enough. subst (λ (emitted : List (List (List ℕ))). IsComplete emitted (records_in scenario replays.setup replays.world))
      (sym (emitted_others scenario.lines 1 scenario.writers)) (replays.complete (enough_others scenario enough));
}
