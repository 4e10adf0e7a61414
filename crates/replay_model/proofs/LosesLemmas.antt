-- What a writer noted is what the lines asked of it, with packets lost and flushes between them.
use Rattle.std.proofs.Common.{◌≡◌, ◌∙◌, ℕ, zero, suc, ◌⊎◌, Bool, true, false, List, [], ◌∷◌, ◌++◌, map, get_or, refl, sym, ap, subst, arith, inl, inr, cond, append_assoc, append-nil}
use Rattle.std.specs.Prelude.{◌==◌, MatchBool}
use Rattle.std.proofs.lemmas.Bool.{cases_eq, eq-eqb, ne_eqb}
use Rattle.trace_model.specs.Buffers.{Buffer}
use Rattle.trace_model.specs.Calls.{Call, Begun, Number, Bytes, Nested, Ended, GivenUp, Finished, Flushed}
use Rattle.trace_model.specs.Packets.{packets_of, is_writing}
use Rattle.model_laws.specs.Losses.{written_calls, Loses}
use Rattle.model_laws.proofs.LossLemmas.{written_append}
use Rattle.chunk_plain.specs.Setup.{Setup}
use Rattle.chunk_plain.specs.Plain.{first_world}
use Rattle.chunk_plain.specs.Views.{WriterView, newcomer}
use Rattle.chunk_plain.specs.World.{World, writer}
use Rattle.chunk_plain.proofs.MadeLemmas.{all_same}
use Rattle.scenario_text.specs.declared.scenario.BufferLine.{BufferLine}
use Rattle.scenario_text.specs.declared.scenario.NumberedLine.{NumberedLine}
use Rattle.scenario_text.specs.declared.scenario.LineKind.{LineKind}
use Rattle.scenario_text.specs.declared.scenario.LineKind.TheVariants as line
use Rattle.scenario_text.specs.RawChunks.{AskedChunk}
use Rattle.scenario_text.specs.Scenario.{Parts}
use Rattle.scenario_text.specs.Accepted.{line_calls, calls_asked, if_own, node_call}
use Rattle.replay_model.specs.Acts.{Act, Ask, Request, Answer, Collect, Scrape, CloseProducer, ReadAll, CommitRaw, asks, calls_at, calls_in}
use Rattle.replay_model.specs.Does.{Does, Asks, Notes, dropped_call}
use Rattle.replay_model.specs.ActNotes.{ActNote}
use Rattle.replay_model.specs.Plays.{Plays}
use Rattle.replay_model.specs.Schedule.{schedule_of, acts_of, acts_from, last_acts, reads_from, asked_of, answers_late, commits_of, open_places, open_producers, is_due}
use Rattle.replay_model.proofs.StandsLemmas.{works_others}

-- ---- calls one behind another

-- what is noted where a packet is lost is what was asked
written_lost : (call : Call) → written_calls (dropped_call call) ≡ written_calls (call ∷ [])
written_lost (Begun kept) = refl
written_lost (Number field value) = refl
written_lost (Bytes field text times) = refl
written_lost (Nested field) = refl
written_lost Ended = refl
written_lost GivenUp = refl
written_lost Finished = refl
written_lost Flushed = refl

-- ---- acts and calls

notes_written : (setup : Setup) (place : ℕ) (call : Call) (stopped : Bool) (old new : World) → Notes setup place call stopped old new
    → written_calls (writer new place).calls ≡ written_calls (writer old place).calls ++ written_calls (call ∷ [])
notes_written setup place call false old new is = ap written_calls is ∙ written_append (writer old place).calls (call ∷ [])
notes_written setup place call true old new h =
    ap written_calls h.0 ∙ written_append (writer old place).calls (dropped_call call)
    ∙ ap (λ (cs : List Call). written_calls (writer old place).calls ++ cs) (written_lost call)

none_more : (xs : List Call) → xs ≡ xs ++ []
none_more xs = sym (append-nil xs)

same_writer : (old new : World) (place : ℕ) → writer new place ≡ writer old place
    → written_calls (writer new place).calls ≡ written_calls (writer old place).calls ++ []
same_writer old new place is = ap (λ (view : WriterView). written_calls view.calls) is ∙ none_more (written_calls (writer old place).calls)

same_writers : (old new : World) (place : ℕ) → new.writers ≡ old.writers
    → written_calls (writer new place).calls ≡ written_calls (writer old place).calls ++ []
same_writers old new place is = same_writer old new place (ap (λ (ws : List WriterView). get_or ws place newcomer) is)

asks_written : (setup : Setup) (place other : ℕ) (call : Call) (old new : World) → Asks setup other call old new
    → written_calls (writer new place).calls ≡ written_calls (writer old place).calls ++ written_calls (cond (other == place) (call ∷ []) [])
asks_written setup place other call old new asks = by_place (cases_eq place other)
  where
    by_place : (place ≡ other) ⊎ (place ≡ other → ⊥)
        → written_calls (writer new place).calls ≡ written_calls (writer old place).calls ++ written_calls (cond (other == place) (call ∷ []) [])
    by_place (inl same) =
        let here : written_calls (writer new place).calls ≡ written_calls (writer old place).calls ++ written_calls (call ∷ []) =
        subst (λ (p : ℕ). written_calls (writer new p).calls ≡ written_calls (writer old p).calls ++ written_calls (call ∷ [])) (sym same)
        (notes_written setup other call asks.stopped old new asks.notes) in
        here ∙ ap (λ (b : Bool). written_calls (writer old place).calls ++ written_calls (cond b (call ∷ []) [])) (sym (eq-eqb other place (sym same)))
    by_place (inr differs) =
        same_writer old new place (works_others setup other old new asks.works place differs)
        ∙ ap (λ (b : Bool). written_calls (writer old place).calls ++ written_calls (cond b (call ∷ []) [])) (sym (ne_eqb other place (λ e. differs (sym e))))

flushed_none : (b : Bool) → written_calls (cond b (Flushed ∷ []) []) ≡ []
flushed_none true = refl
flushed_none false = refl

answer_written : (setup : Setup) (place other : ℕ) (old new : World) (b : Bool) → MatchBool b (new ≡ old) (Asks setup other Flushed old new)
    → written_calls (writer new place).calls ≡ written_calls (writer old place).calls ++ []
answer_written setup place other old new true same = same_writer old new place (ap (λ (w : World). writer w place) same)
answer_written setup place other old new false asks =
    asks_written setup place other Flushed old new asks ∙ ap (λ (cs : List Call). written_calls (writer old place).calls ++ cs) (flushed_none (other == place))

does_written : (setup : Setup) (buffers : List Buffer) (act : Act) (old new : World) (place : ℕ) → Does setup buffers act old new
    → written_calls (writer new place).calls ≡ written_calls (writer old place).calls ++ written_calls (calls_at place act)
does_written setup buffers (Ask other call) old new place does = asks_written setup place other call old new does
does_written setup buffers Request old new place does = same_writer old new place (ap (λ (w : World). writer w place) does)
does_written setup buffers (Answer other) old new place does =
    answer_written setup place other old new (is_writing (packets_of (writer old other).calls)) does
does_written setup buffers (Collect producer) old new place does = same_writers old new place does.writers
does_written setup buffers (Scrape producer) old new place does = same_writers old new place does.writers
does_written setup buffers (CloseProducer producer) old new place does = same_writers old new place does.writers
does_written setup buffers (ReadAll buffer limit) old new place does = same_writers old new place does.writers
does_written setup buffers (CommitRaw other chunk) old new place does = same_writers old new place does.writers

pub plays_written : (setup : Setup) (buffers : List Buffer) (acts : List Act) (old new : World) (notes : List ActNote) (place : ℕ) → Plays setup buffers acts old new notes
    → written_calls (writer new place).calls ≡ written_calls (writer old place).calls ++ written_calls (calls_in acts place)
plays_written setup buffers [] old new notes place plays = same_writer old new place (ap (λ (w : World). writer w place) plays.0)
plays_written setup buffers (act ∷ acts) old new notes place plays =
    let first = does_written setup buffers act old plays.0 place plays.2 in
    let rest = plays_written setup buffers acts plays.0 new plays.1 place plays.5 in
    rest
    ∙ ap (λ (cs : List Call). cs ++ written_calls (calls_in acts place)) first
    ∙ append_assoc (written_calls (writer old place).calls) (written_calls (calls_at place act)) (written_calls (calls_in acts place))
    ∙ ap (λ (cs : List Call). written_calls (writer old place).calls ++ cs) (sym (written_append (calls_at place act) (calls_in acts place)))

-- ---- the schedule

pub calls_append : (xs ys : List Act) (place : ℕ) → calls_in (xs ++ ys) place ≡ calls_in xs place ++ calls_in ys place
calls_append [] ys place = refl
calls_append (act ∷ xs) ys place =
    ap (λ (cs : List Call). calls_at place act ++ cs) (calls_append xs ys place)
    ∙ sym (append_assoc (calls_at place act) (calls_in xs place) (calls_in ys place))

no_calls : (b : Bool) → let none : List Call = [] in cond b none none ≡ none
no_calls true = refl
no_calls false = refl

one_call : (b : Bool) (call : Call) (calls : List Call) → cond b (call ∷ []) [] ++ cond b calls [] ≡ cond b (call ∷ calls) []
one_call true call calls = refl
one_call false call calls = refl

calls_of_asks : (other place : ℕ) (calls : List Call) → calls_in (asks other calls) place ≡ cond (other == place) calls []
calls_of_asks other place [] = sym (no_calls (other == place))
calls_of_asks other place (call ∷ calls) =
    ap (λ (cs : List Call). cond (other == place) (call ∷ []) [] ++ cs) (calls_of_asks other place calls)
    ∙ one_call (other == place) call calls

-- the calls of a line are asked of its writer, and of no other
own_calls : (writer place : ℕ) (calls : List Call) → calls_in (asked_of writer (if_own writer writer calls)) place ≡ if_own (suc place) writer calls
own_calls zero place calls = ap (λ (b : Bool). cond b calls []) (sym (ne_eqb (suc place) 0 (λ e. absurd (omega (arith, e)))))
own_calls (suc other) place calls =
    ap (λ (b : Bool). calls_in (asks other (cond b calls [])) place) (eq-eqb (suc other) (suc other) refl)
    ∙ calls_of_asks other place calls
    ∙ ap (λ (b : Bool). cond b calls []) (by_place (cases_eq other place))
  where
    by_place : (other ≡ place) ⊎ (other ≡ place → ⊥) → (other == place) ≡ (suc place == suc other)
    by_place (inl same) = eq-eqb other place same ∙ sym (eq-eqb (suc place) (suc other) (ap suc (sym same)))
    by_place (inr differs) =
        ne_eqb other place differs ∙ sym (ne_eqb (suc place) (suc other) (λ e. differs (let same : other ≡ place = omega (arith, e) in same)))

late_none : (writer place : ℕ) (due : Bool) → calls_in (answers_late writer due) place ≡ []
late_none zero place due = refl
late_none (suc other) place true = refl
late_none (suc other) place false = refl

answers_none : (places : List ℕ) (place : ℕ) → calls_in (map Answer places) place ≡ []
answers_none [] place = refl
answers_none (other ∷ places) place = answers_none places place

collects_none : (producers : List ℕ) (place : ℕ) → calls_in (map Collect producers) place ≡ []
collects_none [] place = refl
collects_none (producer ∷ producers) place = collects_none producers place

closes_none : (producers : List ℕ) (place : ℕ) → calls_in (map CloseProducer producers) place ≡ []
closes_none [] place = refl
closes_none (producer ∷ producers) place = closes_none producers place

reads_none : (number : ℕ) (buffers : List BufferLine) (place : ℕ) → calls_in (reads_from number buffers) place ≡ []
reads_none number [] place = refl
reads_none number (buffer ∷ buffers) place = reads_none (suc number) buffers place

commits_none : (writer place : ℕ) (chunk : AskedChunk) → calls_in (commits_of writer chunk) place ≡ []
commits_none zero place chunk = refl
commits_none (suc other) place chunk = refl

-- the acts of a line ask a writer what the line does
line_asks : (scenario : Parts) (before : List NumberedLine) (kind : LineKind) (place : ℕ) → calls_in (acts_of scenario before kind) place ≡ line_calls (suc place) kind
unfolding line_calls
line_asks scenario before (line.Packet writer fields) place = own_calls writer place (Begun true ∷ map node_call fields ++ Finished ∷ [])
line_asks scenario before (line.Begin writer) place = own_calls writer place (Begun true ∷ [])
line_asks scenario before (line.Add writer fields) place = own_calls writer place (map node_call fields)
line_asks scenario before (line.Nest writer field) place = own_calls writer place (Nested field ∷ [])
line_asks scenario before (line.Unnest writer) place = own_calls writer place (Ended ∷ [])
line_asks scenario before (line.End writer) place =
    calls_append (asked_of writer (if_own writer writer (Finished ∷ []))) (answers_late writer (is_due writer before)) place
    ∙ ap (λ (cs : List Call). calls_in (asked_of writer (if_own writer writer (Finished ∷ []))) place ++ cs) (late_none writer place (is_due writer before))
    ∙ append-nil (calls_in (asked_of writer (if_own writer writer (Finished ∷ []))) place)
    ∙ own_calls writer place (Finished ∷ [])
line_asks scenario before (line.Flush writer) place = own_calls writer place (Flushed ∷ [])
line_asks scenario before (line.Collect producer) place = refl
line_asks scenario before (line.Scrape producer) place = refl
line_asks scenario before (line.Close producer) place = refl
line_asks scenario before (line.Read buffer limit) place = refl
line_asks scenario before line.Request place =
    calls_append (map Answer (open_places before 0 scenario.writers)) (map Collect (open_producers before 1 scenario.producers)) place
    ∙ ap (λ (cs : List Call). cs ++ calls_in (map Collect (open_producers before 1 scenario.producers)) place) (answers_none (open_places before 0 scenario.writers) place)
    ∙ collects_none (open_producers before 1 scenario.producers) place
line_asks scenario before (line.CloneBuffer buffer) place = refl
line_asks scenario before (line.Raw writer chunk) place = commits_none writer place chunk

lines_ask : (scenario : Parts) (before lines : List NumberedLine) (place : ℕ) → calls_in (acts_from scenario before lines) place ≡ calls_asked (suc place) lines
lines_ask scenario before [] place = refl
lines_ask scenario before (line ∷ lines) place =
    calls_append (acts_of scenario before line.what) (acts_from scenario (before ++ line ∷ []) lines) place
    ∙ ap (λ (cs : List Call). cs ++ calls_in (acts_from scenario (before ++ line ∷ []) lines) place) (line_asks scenario before line.what place)
    ∙ ap (λ (cs : List Call). line_calls (suc place) line.what ++ cs) (lines_ask scenario (before ++ line ∷ []) lines place)

flushes_write_none : (places : List ℕ) (place : ℕ) → written_calls (calls_in (map (λ other. Ask other Flushed) places) place) ≡ []
flushes_write_none [] place = refl
flushes_write_none (other ∷ places) place =
    written_append (cond (other == place) (Flushed ∷ []) []) (calls_in (map (λ other. Ask other Flushed) places) place)
    ∙ ap (λ (cs : List Call). cs ++ written_calls (calls_in (map (λ other. Ask other Flushed) places) place)) (flushed_none (other == place))
    ∙ flushes_write_none places place

end_writes_none : (scenario : Parts) (place : ℕ) → written_calls (calls_in (last_acts scenario) place) ≡ []
end_writes_none scenario place =
    let flushes : List Act = map (λ other. Ask other Flushed) (open_places scenario.lines 0 scenario.writers) in
    let collects : List Act = map Collect (open_producers scenario.lines 1 scenario.producers) in
    let closes : List Act = map CloseProducer (open_producers scenario.lines 1 scenario.producers) in
    let reads : List Act = reads_from 1 scenario.buffers in
    let first : calls_in (flushes ++ collects) place ≡ calls_in flushes place =
    calls_append flushes collects place
    ∙ ap (λ (cs : List Call). calls_in flushes place ++ cs) (collects_none (open_producers scenario.lines 1 scenario.producers) place)
    ∙ append-nil (calls_in flushes place) in
    let second : calls_in ((flushes ++ collects) ++ closes) place ≡ calls_in flushes place =
    calls_append (flushes ++ collects) closes place
    ∙ ap (λ (cs : List Call). calls_in (flushes ++ collects) place ++ cs) (closes_none (open_producers scenario.lines 1 scenario.producers) place)
    ∙ append-nil (calls_in (flushes ++ collects) place) ∙ first in
    let third : calls_in (((flushes ++ collects) ++ closes) ++ reads) place ≡ calls_in flushes place =
    calls_append ((flushes ++ collects) ++ closes) reads place
    ∙ ap (λ (cs : List Call). calls_in ((flushes ++ collects) ++ closes) place ++ cs) (reads_none 1 scenario.buffers place)
    ∙ append-nil (calls_in ((flushes ++ collects) ++ closes) place) ∙ second in
    ap written_calls third ∙ flushes_write_none (open_places scenario.lines 0 scenario.writers) place

-- what a schedule asks a writer to write is what the lines do
pub schedule_writes : (scenario : Parts) (place : ℕ) → written_calls (calls_in (schedule_of scenario) place) ≡ written_calls (calls_asked (suc place) scenario.lines)
schedule_writes scenario place =
    ap written_calls (calls_append (acts_from scenario [] scenario.lines) (last_acts scenario) place)
    ∙ written_append (calls_in (acts_from scenario [] scenario.lines) place) (calls_in (last_acts scenario) place)
    ∙ ap (λ (cs : List Call). written_calls (calls_in (acts_from scenario [] scenario.lines) place) ++ cs) (end_writes_none scenario place)
    ∙ append-nil (written_calls (calls_in (acts_from scenario [] scenario.lines) place))
    ∙ ap written_calls (lines_ask scenario [] scenario.lines place)

-- behind the acts of these lines, from the first world on, each writer has noted what they ask of it, but for losses and flushes
pub lines_lose : (scenario : Parts) (setup : Setup) (buffers : List Buffer) (lines : List NumberedLine) (world : World) (notes : List ActNote)
    → Plays setup buffers (acts_from scenario [] lines) (first_world setup) world notes → (place : ℕ) → Loses (calls_asked (suc place) lines) (writer world place).calls
lines_lose scenario setup buffers lines world notes plays place =
    plays_written setup buffers (acts_from scenario [] lines) (first_world setup) world notes place plays
    ∙ ap (λ (view : WriterView). written_calls view.calls ++ written_calls (calls_in (acts_from scenario [] lines) place)) (all_same newcomer setup.writers place)
    ∙ ap written_calls (lines_ask scenario [] lines place)

-- behind a schedule each writer has noted what the lines ask of it, but for losses and flushes
pub schedule_loses : (scenario : Parts) (setup : Setup) (buffers : List Buffer) (world : World) (notes : List ActNote)
    → Plays setup buffers (schedule_of scenario) (first_world setup) world notes → (place : ℕ)
    → Loses (calls_asked (suc place) scenario.lines) (writer world place).calls
schedule_loses scenario setup buffers world notes plays place =
    plays_written setup buffers (schedule_of scenario) (first_world setup) world notes place plays
    ∙ ap (λ (view : WriterView). written_calls view.calls ++ written_calls (calls_in (schedule_of scenario) place)) (all_same newcomer setup.writers place)
    ∙ schedule_writes scenario place
