-- What comes by commits: nothing of the sequence of a writer in whose name none of the acts, or of the lines, commits a chunk.
use Rattle.std.proofs.Common.{◌≡◌, ◌∙◌, ℕ, zero, suc, ◌⊎◌, Bool, true, false, ◌||◌, List, [], ◌∷◌, ◌++◌, map, Some, refl, sym, ap, subst, arith, inl, inr, cond}
use Rattle.std.specs.Prelude.{◌==◌, slice_get, MatchBool}
use Rattle.std.specs.List.{list_any}
use Rattle.std.proofs.lemmas.Bool.{cases_eq, eq-eqb, ne_eqb, eqb-false, false≢true, or_parts}
use Rattle.std.proofs.lemmas.List.Folds.{list_any-append}
use Rattle.trace_model.specs.Buffers.{Buffer}
use Rattle.trace_model.specs.Calls.{Call, Flushed}
use Rattle.trace_model.specs.Packets.{packets_of, is_writing}
use Rattle.chunk_plain.specs.Plain.{first_world}
use Rattle.chunk_plain.specs.Setup.{Setup, sequence_of}
use Rattle.chunk_plain.specs.Steps.{notes_commit}
use Rattle.chunk_plain.specs.Views.{Committed, ServiceView}
use Rattle.chunk_plain.specs.World.{World, writer}
use Rattle.world_model.specs.Accounts.{NoneCommitted}
use Rattle.scenario_text.specs.declared.scenario.BufferLine.{BufferLine}
use Rattle.scenario_text.specs.declared.scenario.LineKind.{LineKind}
use Rattle.scenario_text.specs.declared.scenario.LineKind.TheVariants as line
use Rattle.scenario_text.specs.declared.scenario.NumberedLine.{NumberedLine}
use Rattle.scenario_text.specs.Accepted.{line_calls}
use Rattle.scenario_text.specs.Scenario.{Parts}
use Rattle.scenario_text.specs.Raws.{HasNoRaw, RawsNone, has_raw, is_raw, is_raw_of}
use Rattle.service_core.specs.Agreement.{buffer_of}
use Rattle.service_core.specs.Taking.{Takes, places_of}
use Rattle.replay_model.specs.Acts.{Act, Ask, Request, Answer, Collect, Scrape, CloseProducer, ReadAll, CommitRaw, asks}
use Rattle.replay_model.specs.ActNotes.{ActNote}
use Rattle.replay_model.specs.FlushLaws.{has_committed}
use Rattle.replay_model.specs.Does.{Does, Collects, Tries, Gains, Again, Ends, Works, Alone, Helped, Tried, Lost, Asks}
use Rattle.replay_model.specs.Plays.{Plays}
use Rattle.replay_model.specs.Raws.{raw_commit}
use Rattle.replay_model.specs.Schedule.{acts_of, acts_from, answers_late, asked_of, commits_of, is_due, last_acts, open_places, open_producers, reads_from, schedule_of}

-- ---- a view

-- one commit more, of another sequence
pub none_committed_more : (view : ServiceView) (committed : Committed) (q : ℕ) → NoneCommitted view q → (committed.image.sequence == q) ≡ false
    → NoneCommitted (notes_commit view committed) q
none_committed_more view committed q none apart = among view.commits none
  where
    among : (commits : List Committed) → ((k : ℕ) (one : Committed) → slice_get commits k ≡ Some one → (one.image.sequence == q) ≡ false)
        → (k : ℕ) (one : Committed) → slice_get (commits ++ committed ∷ []) k ≡ Some one → (one.image.sequence == q) ≡ false
    among [] all zero one is = let same : committed ≡ one = cc in subst (λ (c : Committed). (c.image.sequence == q) ≡ false) same apart
    among [] all (suc k) one is = absurd (cc)
    among (first ∷ commits) all zero one is = all 0 one is
    among (first ∷ commits) all (suc k) one is = among commits (λ n other e. all (suc n) other e) k one is

-- what has no commits has none of any sequence
pub none_committed_yet : (view : ServiceView) (q : ℕ) → view.commits ≡ [] → NoneCommitted view q
none_committed_yet view q none k one is = absurd (nothing view.commits k none is)
  where
    nothing : (commits : List Committed) (n : ℕ) → commits ≡ [] → slice_get commits n ≡ Some one → ⊥
    nothing [] n empty there = cc
    nothing (first ∷ commits) n empty there = cc

-- so the test says
pub none_is_committed : (view : ServiceView) (q : ℕ) → NoneCommitted view q → has_committed view q ≡ false
none_is_committed view q none = among view.commits none
  where
    among : (commits : List Committed) → ((k : ℕ) (one : Committed) → slice_get commits k ≡ Some one → (one.image.sequence == q) ≡ false)
        → list_any (λ (committed : Committed). committed.image.sequence == q) commits ≡ false
    among [] all = refl
    among (first ∷ commits) all =
        ap (λ (b : Bool). b || list_any (λ (committed : Committed). committed.image.sequence == q) commits) (all 0 first refl)
        ∙ among commits (λ k one is. all (suc k) one is)

-- and what it denies
pub committed_is_none : (view : ServiceView) (q : ℕ) → has_committed view q ≡ false → NoneCommitted view q
committed_is_none view q denied = among view.commits denied
  where
    among : (commits : List Committed) → list_any (λ (committed : Committed). committed.image.sequence == q) commits ≡ false
        → (k : ℕ) (one : Committed) → slice_get commits k ≡ Some one → (one.image.sequence == q) ≡ false
    among [] denied k one is = absurd (cc)
    among (first ∷ commits) denied zero one is =
        let same : first ≡ one = cc in
        subst (λ (c : Committed). (c.image.sequence == q) ≡ false) same
        (or_parts (first.image.sequence == q) (list_any (λ (committed : Committed). committed.image.sequence == q) commits) denied).0
    among (first ∷ commits) denied (suc k) one is =
        among commits (or_parts (first.image.sequence == q) (list_any (λ (committed : Committed). committed.image.sequence == q) commits) denied).1 k one is

same_commits : (old new : ServiceView) (q : ℕ) → new.commits ≡ old.commits → NoneCommitted old q → NoneCommitted new q
same_commits old new q same none k one is = none k one (subst (λ (cs : List Committed). slice_get cs k ≡ Some one) same is)

-- ---- acts

-- the act commits a chunk in the name of the writer at this place
abbrev pub is_commit_at : (place : ℕ) → Act → Bool
is_commit_at place (CommitRaw other chunk) = other == place
is_commit_at place act = false

-- none of these acts does
abbrev pub CommitNone : List Act → (place : ℕ) → Type 0
CommitNone acts place = list_any (is_commit_at place) acts ≡ false

takes_commits : (setup : Setup) (places : List ℕ) (taken : ℕ) (old new : ServiceView) → Takes setup places taken old new → new.commits ≡ old.commits
takes_commits setup [] taken old new takes = ap (λ (v : ServiceView). v.commits) takes.1
takes_commits setup (place ∷ places) taken old new takes =
    takes_commits setup places takes.1 takes.2 new takes.5 ∙ ap (λ (v : ServiceView). v.commits) takes.4.view

collects_commits : (setup : Setup) (producer : ℕ) (old new : World) → Collects setup producer old new → new.service.commits ≡ old.service.commits
collects_commits setup producer old new collects =
    takes_commits setup (places_of producer 0 setup.writers) collects.taken old.service new.service collects.takes

tries_commits : (setup : Setup) (place : ℕ) {call : Call} {left : ℕ} {stopped : Bool} (old new : World) → Tries setup place call left stopped old new
    → new.service.commits ≡ old.service.commits
tries_commits setup place old new (Gains left chunk _ _ leaves claims) = ap (λ (v : ServiceView). v.commits) leaves.service
tries_commits setup place old new (Again left stopped _ asking freed _ round vain holds collects owned rest) =
    tries_commits setup place freed new rest ∙ collects_commits setup _ asking freed collects ∙ ap (λ (v : ServiceView). v.commits) round.leaves.service
tries_commits setup place old new (Ends _ _ round vain) = ap (λ (v : ServiceView). v.commits) round.leaves.service

works_commits : (setup : Setup) (place : ℕ) {call : Call} {stopped : Bool} (old new : World) → Works setup place call stopped old new
    → new.service.commits ≡ old.service.commits
works_commits setup place old new (Alone _ _ leaves) = ap (λ (v : ServiceView). v.commits) leaves.service
works_commits setup place old new (Helped stopped _ before asking freed _ may stalls leaves round out collects owned some rest) =
    works_commits setup place freed new rest ∙ collects_commits setup _ asking freed collects
    ∙ ap (λ (v : ServiceView). v.commits) round.leaves.service ∙ ap (λ (v : ServiceView). v.commits) leaves.service
works_commits setup place old new (Tried stopped _ before gained _ tries may policy leaves tried rest) =
    works_commits setup place gained new rest ∙ tries_commits setup place before gained tried ∙ ap (λ (v : ServiceView). v.commits) leaves.service
works_commits setup place old new (Lost _ before last _ may losing leaves tried ends asked) =
    ap (λ (v : ServiceView). v.commits) ends.service ∙ tries_commits setup place before last tried ∙ ap (λ (v : ServiceView). v.commits) leaves.service

answer_commits : (setup : Setup) (place : ℕ) (old new : World) (b : Bool) → MatchBool b (new ≡ old) (Asks setup place Flushed old new)
    → new.service.commits ≡ old.service.commits
answer_commits setup place old new true same = ap (λ (w : World). w.service.commits) same
answer_commits setup place old new false asks = works_commits setup place old new asks.works

-- one act
pub does_commit_none : (setup : Setup) (buffers : List Buffer) (act : Act) (old new : World) (place : ℕ) → Does setup buffers act old new
    → is_commit_at place act ≡ false → NoneCommitted old.service (sequence_of place) → NoneCommitted new.service (sequence_of place)
does_commit_none setup buffers (Ask other call) old new place does apart none =
    same_commits old.service new.service (sequence_of place) (works_commits setup other old new does.works) none
does_commit_none setup buffers Request old new place does apart none =
    same_commits old.service new.service (sequence_of place) (ap (λ (w : World). w.service.commits) does) none
does_commit_none setup buffers (Answer other) old new place does apart none =
    same_commits old.service new.service (sequence_of place) (answer_commits setup other old new (is_writing (packets_of (writer old other).calls)) does) none
does_commit_none setup buffers (Collect producer) old new place does apart none =
    same_commits old.service new.service (sequence_of place) (collects_commits setup producer old new does) none
does_commit_none setup buffers (Scrape producer) old new place does apart none =
    same_commits old.service new.service (sequence_of place)
    (ap (λ (v : ServiceView). v.commits) does.notes ∙ takes_commits setup (places_of producer 0 setup.writers) does.taken old.service does.between does.takes) none
does_commit_none setup buffers (CloseProducer producer) old new place does apart none =
    same_commits old.service new.service (sequence_of place)
    (ap (λ (v : ServiceView). v.commits) does.closes.view
    ∙ takes_commits setup (places_of producer 0 setup.writers) does.taken old.service does.closes.between does.closes.takes) none
does_commit_none setup buffers (ReadAll buffer limit) old new place does apart none =
    same_commits old.service new.service (sequence_of place) (ap (λ (v : ServiceView). v.commits) does.notes) none
does_commit_none setup buffers (CommitRaw other chunk) old new place does apart none =
    subst (λ (v : ServiceView). NoneCommitted v (sequence_of place)) (sym does.notes) (by_target (buffer_of setup other == chunk.buffer))
  where
    differs : (sequence_of other == sequence_of place) ≡ false
    differs = ne_eqb (sequence_of other) (sequence_of place) (λ e. eqb-false other place apart (let same : other ≡ place = omega (arith, e) in same))

    by_target : (own : Bool) → NoneCommitted (cond own (notes_commit old.service (raw_commit setup other chunk)) old.service) (sequence_of place)
    by_target true = none_committed_more old.service (raw_commit setup other chunk) (sequence_of place) none differs
    by_target false = none

-- acts one behind another
pub plays_commit_none : (setup : Setup) (buffers : List Buffer) (acts : List Act) (old new : World) (notes : List ActNote) (place : ℕ)
    → Plays setup buffers acts old new notes → CommitNone acts place → NoneCommitted old.service (sequence_of place) → NoneCommitted new.service (sequence_of place)
plays_commit_none setup buffers [] old new notes place plays apart none = subst (λ (w : World). NoneCommitted w.service (sequence_of place)) (sym plays.0) none
plays_commit_none setup buffers (act ∷ acts) old new notes place plays apart none =
    let parts = or_parts (is_commit_at place act) (list_any (is_commit_at place) acts) apart in
    plays_commit_none setup buffers acts plays.0 new plays.1 place plays.5 parts.1 (does_commit_none setup buffers act old plays.0 place plays.2 parts.0 none)

-- of acts that commit none, those in front commit none, and those behind
pub commit_none_parts : (acts others : List Act) (place : ℕ) → CommitNone (acts ++ others) place → CommitNone acts place × CommitNone others place
commit_none_parts acts others place none =
    or_parts (list_any (is_commit_at place) acts) (list_any (is_commit_at place) others) (sym (list_any-append (is_commit_at place) acts others) ∙ none)

-- ---- lines

asks_commit_none : (place other : ℕ) (calls : List Call) → CommitNone (asks other calls) place
asks_commit_none place other [] = refl
asks_commit_none place other (call ∷ calls) = asks_commit_none place other calls

asked_commit_none : (place number : ℕ) (calls : List Call) → CommitNone (asked_of number calls) place
asked_commit_none place zero calls = refl
asked_commit_none place (suc other) calls = asks_commit_none place other calls

late_commits_none : (place number : ℕ) (due : Bool) → CommitNone (answers_late number due) place
late_commits_none place zero due = refl
late_commits_none place (suc other) true = refl
late_commits_none place (suc other) false = refl

-- acts that commit none whatever they are made of
each_commits_none : (place : ℕ) (act : ℕ → Act) (numbers : List ℕ) → ((number : ℕ) → is_commit_at place (act number) ≡ false) → CommitNone (map act numbers) place
each_commits_none place act [] none = refl
each_commits_none place act (number ∷ numbers) none =
    ap (λ (b : Bool). b || list_any (is_commit_at place) (map act numbers)) (none number) ∙ each_commits_none place act numbers none

both_commit_none : (place : ℕ) (acts others : List Act) → CommitNone acts place → CommitNone others place → CommitNone (acts ++ others) place
both_commit_none place acts others one two =
    list_any-append (is_commit_at place) acts others ∙ ap (λ (b : Bool). b || list_any (is_commit_at place) others) one ∙ two

named_commits : (place number : ℕ) (chunk : _) → list_any (is_commit_at place) (commits_of number chunk) ≡ (suc place == number)
named_commits place zero chunk = sym (ne_eqb (suc place) 0 (λ e. absurd (omega (arith, e))))
named_commits place (suc other) chunk = by_place (cases_eq other place)
  where
    by_place : (other ≡ place) ⊎ (other ≡ place → ⊥) → ((other == place) || false) ≡ (suc place == suc other)
    by_place (inl same) =
        ap (λ (b : Bool). b || false) (eq-eqb other place same) ∙ sym (eq-eqb (suc place) (suc other) (ap suc (sym same)))
    by_place (inr differs) =
        ap (λ (b : Bool). b || false) (ne_eqb other place differs)
        ∙ sym (ne_eqb (suc place) (suc other) (λ e. differs (let same : other ≡ place = omega (arith, e) in same)))

-- the acts of a line commit a chunk in the writer's name exactly where the line does
pub line_commits : (scenario : Parts) (before : List NumberedLine) (kind : LineKind) (place : ℕ)
    → list_any (is_commit_at place) (acts_of scenario before kind) ≡ is_raw_of (suc place) kind
unfolding is_raw_of
line_commits scenario before (line.Packet writer fields) place = asked_commit_none place writer (line_calls writer (line.Packet writer fields))
line_commits scenario before (line.Begin writer) place = asked_commit_none place writer (line_calls writer (line.Begin writer))
line_commits scenario before (line.Add writer fields) place = asked_commit_none place writer (line_calls writer (line.Add writer fields))
line_commits scenario before (line.Nest writer field) place = asked_commit_none place writer (line_calls writer (line.Nest writer field))
line_commits scenario before (line.Unnest writer) place = asked_commit_none place writer (line_calls writer (line.Unnest writer))
line_commits scenario before (line.End writer) place =
    both_commit_none place (asked_of writer (line_calls writer (line.End writer))) (answers_late writer (is_due writer before))
    (asked_commit_none place writer (line_calls writer (line.End writer))) (late_commits_none place writer (is_due writer before))
line_commits scenario before (line.Flush writer) place = asked_commit_none place writer (line_calls writer (line.Flush writer))
line_commits scenario before (line.Collect producer) place = refl
line_commits scenario before (line.Scrape producer) place = refl
line_commits scenario before (line.Close producer) place = refl
line_commits scenario before (line.Read buffer limit) place = refl
line_commits scenario before line.Request place =
    both_commit_none place (map Answer (open_places before 0 scenario.writers)) (map Collect (open_producers before 1 scenario.producers))
    (each_commits_none place Answer (open_places before 0 scenario.writers) (λ n. refl)) (each_commits_none place Collect (open_producers before 1 scenario.producers) (λ n. refl))
line_commits scenario before (line.CloneBuffer buffer) place = refl
line_commits scenario before (line.Raw writer chunk) place = named_commits place writer chunk

-- so do those of all lines
pub lines_commit : (scenario : Parts) (before lines : List NumberedLine) (place : ℕ)
    → list_any (is_commit_at place) (acts_from scenario before lines) ≡ has_raw (suc place) lines
lines_commit scenario before [] place = refl
lines_commit scenario before (one ∷ lines) place =
    list_any-append (is_commit_at place) (acts_of scenario before one.what) (acts_from scenario (before ++ one ∷ []) lines)
    ∙ ap (λ (b : Bool). b || list_any (is_commit_at place) (acts_from scenario (before ++ one ∷ []) lines)) (line_commits scenario before one.what place)
    ∙ ap (λ (b : Bool). is_raw_of (suc place) one.what || b) (lines_commit scenario (before ++ one ∷ []) lines place)

reads_commit_none : (place number : ℕ) (buffers : List BufferLine) → CommitNone (reads_from number buffers) place
reads_commit_none place number [] = refl
reads_commit_none place number (buffer ∷ buffers) = reads_commit_none place (suc number) buffers

-- the end of a schedule commits none
pub end_commits_none : (scenario : Parts) (place : ℕ) → CommitNone (last_acts scenario) place
end_commits_none scenario place =
    let flushes : List Act = map (λ other. Ask other Flushed) (open_places scenario.lines 0 scenario.writers) in
    let producers : List ℕ = open_producers scenario.lines 1 scenario.producers in
    both_commit_none place ((flushes ++ map Collect producers) ++ map CloseProducer producers) (reads_from 1 scenario.buffers)
    (both_commit_none place (flushes ++ map Collect producers) (map CloseProducer producers)
    (both_commit_none place flushes (map Collect producers)
    (each_commits_none place (λ other. Ask other Flushed) (open_places scenario.lines 0 scenario.writers) (λ n. refl))
    (each_commits_none place Collect producers (λ n. refl)))
    (each_commits_none place CloseProducer producers (λ n. refl)))
    (reads_commit_none place 1 scenario.buffers)

pub schedule_commits_none : (scenario : Parts) (place : ℕ) → HasNoRaw scenario.lines place → CommitNone (schedule_of scenario) place
schedule_commits_none scenario place none =
    both_commit_none place (acts_from scenario [] scenario.lines) (last_acts scenario) (lines_commit scenario [] scenario.lines place ∙ none)
    (end_commits_none scenario place)

-- ---- worlds

-- behind acts from the first world on
pub acts_committed_none : (setup : Setup) (buffers : List Buffer) (acts : List Act) (world : World) (notes : List ActNote) (place : ℕ)
    → Plays setup buffers acts (first_world setup) world notes → CommitNone acts place → NoneCommitted world.service (sequence_of place)
acts_committed_none setup buffers acts world notes place plays none =
    plays_commit_none setup buffers acts (first_world setup) world notes place plays none
    (none_committed_yet (first_world setup).service (sequence_of place) refl)

-- behind these lines
pub lines_committed_none : (scenario : Parts) (setup : Setup) (buffers : List Buffer) (lines : List NumberedLine) (world : World) (notes : List ActNote) (place : ℕ)
    → Plays setup buffers (acts_from scenario [] lines) (first_world setup) world notes → HasNoRaw lines place → NoneCommitted world.service (sequence_of place)
lines_committed_none scenario setup buffers lines world notes place plays none =
    acts_committed_none setup buffers (acts_from scenario [] lines) world notes place plays (lines_commit scenario [] lines place ∙ none)

-- behind any front of a scenario's acts
pub front_committed_none : (scenario : Parts) (setup : Setup) (buffers : List Buffer) (done rest : List Act) (world : World) (notes : List ActNote) (place : ℕ)
    → schedule_of scenario ≡ done ++ rest → Plays setup buffers done (first_world setup) world notes → HasNoRaw scenario.lines place
    → NoneCommitted world.service (sequence_of place)
front_committed_none scenario setup buffers done rest world notes place cut plays none =
    acts_committed_none setup buffers done world notes place plays
    (commit_none_parts done rest place (subst (λ (acts : List Act). CommitNone acts place) cut (schedule_commits_none scenario place none))).0

-- and behind all of them
pub schedule_committed_none : (scenario : Parts) (setup : Setup) (buffers : List Buffer) (world : World) (notes : List ActNote) (place : ℕ)
    → Plays setup buffers (schedule_of scenario) (first_world setup) world notes → HasNoRaw scenario.lines place → NoneCommitted world.service (sequence_of place)
schedule_committed_none scenario setup buffers world notes place plays none =
    acts_committed_none setup buffers (schedule_of scenario) world notes place plays (schedule_commits_none scenario place none)

-- ---- lines without any

-- where no line commits a chunk, none does in any writer's name
pub no_raw_of : (number : ℕ) (kind : LineKind) → is_raw kind ≡ false → is_raw_of number kind ≡ false
unfolding is_raw is_raw_of
no_raw_of number (line.Packet writer fields) none = refl
no_raw_of number (line.Begin writer) none = refl
no_raw_of number (line.Add writer fields) none = refl
no_raw_of number (line.Nest writer field) none = refl
no_raw_of number (line.Unnest writer) none = refl
no_raw_of number (line.End writer) none = refl
no_raw_of number (line.Flush writer) none = refl
no_raw_of number (line.Collect producer) none = refl
no_raw_of number (line.Scrape producer) none = refl
no_raw_of number (line.Close producer) none = refl
no_raw_of number (line.Read buffer limit) none = refl
no_raw_of number line.Request none = refl
no_raw_of number (line.CloneBuffer buffer) none = refl
no_raw_of number (line.Raw writer chunk) none = absurd (false≢true (sym none))

pub none_has_raw : (lines : List NumberedLine) (place : ℕ) → RawsNone lines → HasNoRaw lines place
none_has_raw [] place none = refl
none_has_raw (one ∷ lines) place none =
    let parts = or_parts (is_raw one.what) (list_any (λ (line : NumberedLine). is_raw line.what) lines) none in
    ap (λ (b : Bool). b || has_raw (suc place) lines) (no_raw_of (suc place) one.what parts.0) ∙ none_has_raw lines place parts.1

-- the first of these lines, and the others
pub no_raw_parts : (lines others : List NumberedLine) (place : ℕ) → HasNoRaw (lines ++ others) place → HasNoRaw lines place × HasNoRaw others place
no_raw_parts lines others place none =
    let test : NumberedLine → Bool = λ (line : NumberedLine). is_raw_of (suc place) line.what in
    or_parts (has_raw (suc place) lines) (has_raw (suc place) others) (sym (list_any-append test lines others) ∙ none)
