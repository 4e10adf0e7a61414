-- Only a writer whose policy is to drop, at once or behind asks, loses packets.
use Rattle.std.proofs.Common.{◌≡◌, ◌∙◌, ℕ, zero, suc, ◌<◌, ◌⊎◌, Bool, true, false, not, ◌&&◌, ◌||◌, is_some, List, [], ◌∷◌, ◌++◌, length, map, reverse, get_or, filter, Option, Some, None, refl, sym, ap, subst, arith, inl, inr, cond}
use Rattle.std.specs.Prelude.{◌==◌, MatchBool}
use Rattle.std.proofs.lemmas.Bool.{cases_eq, false≢true}
use Rattle.std.proofs.lemmas.Grind.{reverse_onto}
use Rattle.std.proofs.lemmas.List.{map-append}
use Rattle.std.proofs.lemmas.List.Sums.{fold-append}
use Rattle.trace_model.specs.Buffers.{Buffer}
use Rattle.trace_model.specs.Calls.{Call, Begun, Number, Bytes, Nested, Ended, GivenUp, Finished, Flushed}
use Rattle.trace_model.specs.Encoding.{number_field, bytes_field}
use Rattle.trace_model.specs.Packets.{Packet, Text, Account, noted, nothing_yet, account_of, packets_of, body_of, bodies_of, front_of, packet_encoding, emissions_in, emissions_of, newest_is_lost, is_lost, is_writing, on_newest, begun_packet, with_more, with_nested, with_nested_ended, finished_packet, lost_count}
use Rattle.trace_model.specs.PacketLaws.{AreFronted}
use Rattle.trace_model.specs.Record.{mark_where}
use Rattle.trace_model.proofs.PacketLemmas.{packets_are_fronted, emitted_more}
use Rattle.model_laws.proofs.TextSizes.{AllFinished}
use Rattle.delivery_laws.specs.Finishing.{AllWhole}
use Rattle.delivery_laws.proofs.WholeLemmas.{all_kept}
use Rattle.field_tree.specs.declared.node.FieldNode.TheVariants as node
use Rattle.field_tree.specs.Nodes.{Shown}
use Rattle.chunk_plain.specs.Setup.{Setup}
use Rattle.chunk_plain.specs.Plain.{first_world}
use Rattle.chunk_plain.specs.Views.{WriterView, newcomer}
use Rattle.chunk_plain.specs.World.{World, writer}
use Rattle.chunk_plain.proofs.MadeLemmas.{all_same}
use Rattle.scenario_text.specs.declared.scenario.BufferLine.{BufferLine}
use Rattle.scenario_text.specs.declared.scenario.NumberedLine.{NumberedLine}
use Rattle.scenario_text.specs.declared.scenario.LineKind.{LineKind}
use Rattle.scenario_text.specs.declared.scenario.LineKind.TheVariants as line
use Rattle.scenario_text.specs.RawChunks.{AskedChunk}
use Rattle.scenario_text.specs.Scenario.{Parts}
use Rattle.scenario_text.specs.Accepted.{line_calls, node_call}
use Rattle.trace_writer.specs.Helping.{loses}
use Rattle.replay_model.specs.Acts.{Act, Ask, Request, Answer, Collect, Scrape, CloseProducer, ReadAll, CommitRaw, asks}
use Rattle.replay_model.specs.Does.{Asks, Notes, policy_of}
use Rattle.replay_model.specs.ActNotes.{ActNote}
use Rattle.replay_model.specs.Plays.{Plays}
use Rattle.replay_model.specs.Schedule.{schedule_of, acts_of, acts_from, last_acts, reads_from, asked_of, answers_late, commits_of, open_places, open_producers, is_due}
use Rattle.replay_model.proofs.StandsLemmas.{works_others}

-- ---- calls that lose nothing

-- a call that a line may ask: it loses no packet
abbrev keeps_call : Call → Bool
keeps_call (Begun kept) = kept
keeps_call (Number field value) = true
keeps_call (Bytes field text times) = true
keeps_call (Nested field) = true
keeps_call Ended = true
keeps_call GivenUp = false
keeps_call Finished = true
keeps_call Flushed = true

same_count : (b : Bool) (one other : Packet) (packets : List Packet) → length (cond b (one ∷ packets) packets) ≡ length (cond b (other ∷ packets) packets)
same_count true one other packets = refl
same_count false one other packets = refl

lost_changed : (change : Packet → Packet) → ((packet : Packet) → is_lost (change packet) ≡ is_lost packet) → (packets : List Packet) (flushed : Bool)
    → lost_count (on_newest change (record { packets = packets; flushed = flushed })).packets ≡ lost_count packets
lost_changed change keeps [] flushed = refl
lost_changed change keeps (packet ∷ older) flushed =
    ap (λ (b : Bool). length (cond b (change packet ∷ filter is_lost older) (filter is_lost older))) (keeps packet)
    ∙ same_count (is_lost packet) (change packet) packet (filter is_lost older)

lost_begun : (kept : Bool) (packets : List Packet) (flushed : Bool) → kept ≡ true
    → lost_count (begun_packet kept (record { packets = packets; flushed = flushed }) ∷ packets) ≡ lost_count packets
lost_begun true packets flushed is = refl
lost_begun false packets flushed is = absurd (false≢true is)

lost_noted : (call : Call) (packets : List Packet) (flushed : Bool) → keeps_call call ≡ true
    → lost_count (noted (record { packets = packets; flushed = flushed }) call).packets ≡ lost_count packets
lost_noted (Begun kept) packets flushed keeps = lost_begun kept packets flushed keeps
lost_noted (Number field value) packets flushed keeps = lost_changed (with_more (number_field field value)) (λ p. refl) packets flushed
lost_noted (Bytes field text times) packets flushed keeps = lost_changed (with_more (bytes_field field text times)) (λ p. refl) packets flushed
lost_noted (Nested field) packets flushed keeps = lost_changed (with_nested field) (λ p. refl) packets flushed
lost_noted Ended packets flushed keeps = lost_changed with_nested_ended (λ p. refl) packets flushed
lost_noted GivenUp packets flushed keeps = absurd (false≢true keeps)
lost_noted Finished packets flushed keeps = lost_changed finished_packet (λ p. refl) packets flushed
lost_noted Flushed packets flushed keeps = refl

lost_more : (calls : List Call) (call : Call) → keeps_call call ≡ true → lost_count (packets_of (calls ++ call ∷ [])) ≡ lost_count (packets_of calls)
lost_more calls call keeps =
    ap (λ (a : Account). lost_count a.packets) (fold-append noted nothing_yet calls (call ∷ []))
    ∙ lost_noted call (packets_of calls) (account_of calls).flushed keeps

-- ---- acts that ask for none else

abbrev KeepAll : List Act → Type 0
KeepAll [] = Unit {0}
KeepAll (Ask place call ∷ acts) = (keeps_call call ≡ true) × KeepAll acts
KeepAll (Request ∷ acts) = KeepAll acts
KeepAll (Answer place ∷ acts) = KeepAll acts
KeepAll (Collect producer ∷ acts) = KeepAll acts
KeepAll (Scrape producer ∷ acts) = KeepAll acts
KeepAll (CloseProducer producer ∷ acts) = KeepAll acts
KeepAll (ReadAll buffer limit ∷ acts) = KeepAll acts
KeepAll (CommitRaw place chunk ∷ acts) = KeepAll acts

-- each writer that lost a packet is one whose policy loses packets
abbrev OnlyLosersLose : Setup → World → Type 0
OnlyLosersLose setup world = (place : ℕ) → 0 < lost_count (packets_of (writer world place).calls) → loses (policy_of setup place) ≡ true

asks_keep : (setup : Setup) (place : ℕ) (call : Call) (old new : World) → Asks setup place call old new → keeps_call call ≡ true → OnlyLosersLose setup old → OnlyLosersLose setup new
asks_keep setup place call old new asks keeps only other some = by_place (cases_eq other place)
  where
    here : (stopped : Bool) → Notes setup place call stopped old new → 0 < lost_count (packets_of (writer new place).calls) → loses (policy_of setup place) ≡ true
    here false is more =
        let same : lost_count (packets_of (writer new place).calls) ≡ lost_count (packets_of (writer old place).calls) =
        ap (λ (calls : List Call). lost_count (packets_of calls)) is ∙ lost_more (writer old place).calls call keeps in
        only place (omega (arith, more, same))
    here true h more = h.2

    by_place : (other ≡ place) ⊎ (other ≡ place → ⊥) → loses (policy_of setup other) ≡ true
    by_place (inl same) =
        subst (λ (p : ℕ). loses (policy_of setup p) ≡ true) (sym same)
        (here asks.stopped asks.notes (subst (λ (p : ℕ). 0 < lost_count (packets_of (writer new p).calls)) same some))
    by_place (inr differs) =
        only other (subst (λ (view : WriterView). 0 < lost_count (packets_of view.calls)) (works_others setup place old new asks.works other differs) some)

same_keep : (setup : Setup) (old new : World) → new.writers ≡ old.writers → OnlyLosersLose setup old → OnlyLosersLose setup new
same_keep setup old new is only place some =
    only place (subst (λ (ws : List WriterView). 0 < lost_count (packets_of (get_or ws place newcomer).calls)) is some)

answer_keep : (setup : Setup) (place : ℕ) (old new : World) (b : Bool) → MatchBool b (new ≡ old) (Asks setup place Flushed old new) → OnlyLosersLose setup old → OnlyLosersLose setup new
answer_keep setup place old new true same only = subst (OnlyLosersLose setup) (sym same) only
answer_keep setup place old new false asks only = asks_keep setup place Flushed old new asks refl only

plays_keep_all : (setup : Setup) (buffers : List Buffer) (acts : List Act) (old new : World) (notes : List ActNote) → KeepAll acts → Plays setup buffers acts old new notes
    → OnlyLosersLose setup old → OnlyLosersLose setup new
plays_keep_all setup buffers [] old new notes keep plays only = subst (OnlyLosersLose setup) (sym plays.0) only
plays_keep_all setup buffers (Ask place call ∷ acts) old new notes keep plays only =
    plays_keep_all setup buffers acts plays.0 new plays.1 keep.1 plays.5 (asks_keep setup place call old plays.0 plays.2 keep.0 only)
plays_keep_all setup buffers (Request ∷ acts) old new notes keep plays only =
    plays_keep_all setup buffers acts plays.0 new plays.1 keep plays.5 (subst (OnlyLosersLose setup) (sym plays.2) only)
plays_keep_all setup buffers (Answer place ∷ acts) old new notes keep plays only =
    plays_keep_all setup buffers acts plays.0 new plays.1 keep plays.5
    (answer_keep setup place old plays.0 (is_writing (packets_of (writer old place).calls)) plays.2 only)
plays_keep_all setup buffers (Collect producer ∷ acts) old new notes keep plays only =
    plays_keep_all setup buffers acts plays.0 new plays.1 keep plays.5 (same_keep setup old plays.0 plays.2.writers only)
plays_keep_all setup buffers (Scrape producer ∷ acts) old new notes keep plays only =
    plays_keep_all setup buffers acts plays.0 new plays.1 keep plays.5 (same_keep setup old plays.0 plays.2.writers only)
plays_keep_all setup buffers (CloseProducer producer ∷ acts) old new notes keep plays only =
    plays_keep_all setup buffers acts plays.0 new plays.1 keep plays.5 (same_keep setup old plays.0 plays.2.writers only)
plays_keep_all setup buffers (ReadAll buffer limit ∷ acts) old new notes keep plays only =
    plays_keep_all setup buffers acts plays.0 new plays.1 keep plays.5 (same_keep setup old plays.0 plays.2.writers only)
plays_keep_all setup buffers (CommitRaw place chunk ∷ acts) old new notes keep plays only =
    plays_keep_all setup buffers acts plays.0 new plays.1 keep plays.5 (same_keep setup old plays.0 plays.2.writers only)

-- ---- those of a schedule

keep_append : (xs ys : List Act) → KeepAll xs → KeepAll ys → KeepAll (xs ++ ys)
keep_append [] ys one two = two
keep_append (Ask place call ∷ xs) ys one two = (one.0, keep_append xs ys one.1 two)
keep_append (Request ∷ xs) ys one two = keep_append xs ys one two
keep_append (Answer place ∷ xs) ys one two = keep_append xs ys one two
keep_append (Collect producer ∷ xs) ys one two = keep_append xs ys one two
keep_append (Scrape producer ∷ xs) ys one two = keep_append xs ys one two
keep_append (CloseProducer producer ∷ xs) ys one two = keep_append xs ys one two
keep_append (ReadAll buffer limit ∷ xs) ys one two = keep_append xs ys one two
keep_append (CommitRaw place chunk ∷ xs) ys one two = keep_append xs ys one two

abbrev KeepCalls : List Call → Type 0
KeepCalls [] = Unit {0}
KeepCalls (call ∷ calls) = (keeps_call call ≡ true) × KeepCalls calls

calls_append : (xs ys : List Call) → KeepCalls xs → KeepCalls ys → KeepCalls (xs ++ ys)
calls_append [] ys one two = two
calls_append (call ∷ xs) ys one two = (one.0, calls_append xs ys one.1 two)

keep_asks : (place : ℕ) (calls : List Call) → KeepCalls calls → KeepAll (asks place calls)
keep_asks place [] keep = tt
keep_asks place (call ∷ calls) keep = (keep.0, keep_asks place calls keep.1)

keep_asked : (number : ℕ) (calls : List Call) → KeepCalls calls → KeepAll (asked_of number calls)
keep_asked zero calls keep = tt
keep_asked (suc place) calls keep = keep_asks place calls keep

keep_if : (b : Bool) (calls : List Call) → KeepCalls calls → KeepCalls (cond b calls [])
keep_if true calls keep = keep
keep_if false calls keep = tt

keep_nodes : (nodes : List Shown) → KeepCalls (map node_call nodes)
unfolding node_call
keep_nodes [] = tt
keep_nodes ((node.Number field value, text) ∷ nodes) = (refl, keep_nodes nodes)
keep_nodes ((node.Bytes field times, text) ∷ nodes) = (refl, keep_nodes nodes)
keep_nodes ((node.Begin field, text) ∷ nodes) = (refl, keep_nodes nodes)
keep_nodes ((node.End, text) ∷ nodes) = (refl, keep_nodes nodes)

keep_late : (number : ℕ) (due : Bool) → KeepAll (answers_late number due)
keep_late zero due = tt
keep_late (suc place) true = tt
keep_late (suc place) false = tt

keep_answers : (places : List ℕ) → KeepAll (map Answer places)
keep_answers [] = tt
keep_answers (place ∷ places) = keep_answers places

keep_collects : (producers : List ℕ) → KeepAll (map Collect producers)
keep_collects [] = tt
keep_collects (producer ∷ producers) = keep_collects producers

keep_closes : (producers : List ℕ) → KeepAll (map CloseProducer producers)
keep_closes [] = tt
keep_closes (producer ∷ producers) = keep_closes producers

keep_reads : (number : ℕ) (buffers : List BufferLine) → KeepAll (reads_from number buffers)
keep_reads number [] = tt
keep_reads number (buffer ∷ buffers) = keep_reads (suc number) buffers

keep_flushes : (places : List ℕ) → KeepAll (map (λ place. Ask place Flushed) places)
keep_flushes [] = tt
keep_flushes (place ∷ places) = (refl, keep_flushes places)

keep_commits : (number : ℕ) (chunk : AskedChunk) → KeepAll (commits_of number chunk)
keep_commits zero chunk = tt
keep_commits (suc place) chunk = tt

keep_line : (scenario : Parts) (before : List NumberedLine) (kind : LineKind) → KeepAll (acts_of scenario before kind)
unfolding line_calls
keep_line scenario before (line.Packet writer fields) =
    keep_asked writer _ (keep_if (writer == writer) (Begun true ∷ map node_call fields ++ Finished ∷ [])
    (refl, calls_append (map node_call fields) (Finished ∷ []) (keep_nodes fields) (refl, tt)))
keep_line scenario before (line.Begin writer) = keep_asked writer _ (keep_if (writer == writer) (Begun true ∷ []) (refl, tt))
keep_line scenario before (line.Add writer fields) = keep_asked writer _ (keep_if (writer == writer) (map node_call fields) (keep_nodes fields))
keep_line scenario before (line.Nest writer field) = keep_asked writer _ (keep_if (writer == writer) (Nested field ∷ []) (refl, tt))
keep_line scenario before (line.Unnest writer) = keep_asked writer _ (keep_if (writer == writer) (Ended ∷ []) (refl, tt))
keep_line scenario before (line.End writer) =
    keep_append (asked_of writer (cond (writer == writer) (Finished ∷ []) [])) (answers_late writer (is_due writer before)) (keep_asked writer _ (keep_if (writer == writer) (Finished ∷ []) (refl, tt)))
    (keep_late writer (is_due writer before))
keep_line scenario before (line.Flush writer) = keep_asked writer _ (keep_if (writer == writer) (Flushed ∷ []) (refl, tt))
keep_line scenario before (line.Collect producer) = tt
keep_line scenario before (line.Scrape producer) = tt
keep_line scenario before (line.Close producer) = tt
keep_line scenario before (line.Read buffer limit) = tt
keep_line scenario before line.Request =
    keep_append (map Answer (open_places before 0 scenario.writers)) (map Collect (open_producers before 1 scenario.producers))
    (keep_answers (open_places before 0 scenario.writers)) (keep_collects (open_producers before 1 scenario.producers))
keep_line scenario before (line.CloneBuffer buffer) = tt
keep_line scenario before (line.Raw writer chunk) = keep_commits writer chunk

keep_lines : (scenario : Parts) (before lines : List NumberedLine) → KeepAll (acts_from scenario before lines)
keep_lines scenario before [] = tt
keep_lines scenario before (line ∷ lines) =
    keep_append (acts_of scenario before line.what) (acts_from scenario (before ++ line ∷ []) lines) (keep_line scenario before line.what)
    (keep_lines scenario (before ++ line ∷ []) lines)

keep_end : (scenario : Parts) → KeepAll (last_acts scenario)
keep_end scenario =
    let flushes : List Act = map (λ place. Ask place Flushed) (open_places scenario.lines 0 scenario.writers) in
    let producers : List ℕ = open_producers scenario.lines 1 scenario.producers in
    keep_append ((flushes ++ map Collect producers) ++ map CloseProducer producers) (reads_from 1 scenario.buffers)
    (keep_append (flushes ++ map Collect producers) (map CloseProducer producers)
    (keep_append flushes (map Collect producers) (keep_flushes (open_places scenario.lines 0 scenario.writers)) (keep_collects producers)) (keep_closes producers))
    (keep_reads 1 scenario.buffers)

pub only_losers_lose : (scenario : Parts) (setup : Setup) (buffers : List Buffer) (world : World) (notes : List ActNote)
    → Plays setup buffers (schedule_of scenario) (first_world setup) world notes → (place : ℕ) → 0 < lost_count (packets_of (writer world place).calls)
    → loses (policy_of setup place) ≡ true
only_losers_lose scenario setup buffers world notes plays =
    plays_keep_all setup buffers (schedule_of scenario) (first_world setup) world notes
    (keep_append (acts_from scenario [] scenario.lines) (last_acts scenario) (keep_lines scenario [] scenario.lines) (keep_end scenario)) plays
    (λ place some.
    let none : 0 < lost_count (packets_of newcomer.calls) =
    subst (λ (view : WriterView). 0 < lost_count (packets_of view.calls)) (all_same newcomer setup.writers place) some in
    absurd (omega (arith, none)))

-- ---- where none is lost

pub all_whole : (packets : List Packet) → lost_count packets ≡ 0 → AllFinished packets → AllWhole packets
all_whole [] none finished = tt
all_whole (packet ∷ older) none finished = step packet.kept packet.given_up refl refl (λ h. all_whole older h finished.1)
  where
    step : (kept : Bool) (given : Option Text) → packet.kept ≡ kept → packet.given_up ≡ given → (lost_count older ≡ 0 → AllWhole older)
        → (packet.kept ≡ true) × (packet.given_up ≡ None) × (packet.finished ≡ true) × AllWhole older
    step true None kept_is given_is rest =
        let lost : is_lost packet ≡ false = ap (λ (b : Bool). not b || is_some packet.given_up) kept_is ∙ ap (λ (o : Option Text). is_some o) given_is in
        let less : lost_count older ≡ 0 = sym (ap (λ (b : Bool). length (cond b (packet ∷ filter is_lost older) (filter is_lost older))) lost) ∙ none in
        (kept_is, given_is, finished.0, rest less)
    step true (Some text) kept_is given_is rest =
        let lost : is_lost packet ≡ true = ap (λ (b : Bool). not b || is_some packet.given_up) kept_is ∙ ap (λ (o : Option Text). is_some o) given_is in
        let some : suc (lost_count older) ≡ 0 = sym (ap (λ (b : Bool). length (cond b (packet ∷ filter is_lost older) (filter is_lost older))) lost) ∙ none in
        absurd (omega (arith, some))
    step false given kept_is given_is rest =
        let lost : is_lost packet ≡ true = ap (λ (b : Bool). not b || is_some packet.given_up) kept_is in
        let some : suc (lost_count older) ≡ 0 = sym (ap (λ (b : Bool). length (cond b (packet ∷ filter is_lost older) (filter is_lost older))) lost) ∙ none in
        absurd (omega (arith, some))

-- What is emitted of whole packets is their bodies: none has a mark in front.
bodies_whole : (packets : List Packet) → AllWhole packets → AreFronted packets → map body_of (reverse packets) ≡ emissions_in packets
bodies_whole [] whole fronted = refl
bodies_whole (packet ∷ older) whole fronted =
    let follows : packet.follows_loss ≡ false = fronted.0 ∙ none_newest older whole.3 in
    let front : front_of packet ≡ [] =
    ap (λ (b : Bool). mark_where (packet.kept && b)) follows ∙ ap (λ (b : Bool). mark_where (b && false)) whole.0 in
    let body : body_of packet ≡ packet_encoding packet = fronted.1 ∙ ap (λ (xs : List ℕ). xs ++ packet_encoding packet) front in
    ap (map body_of) (reverse_onto older packet [])
    ∙ map-append body_of (reverse older) (packet ∷ [])
    ∙ ap (λ (xs : List (List ℕ)). xs ++ body_of packet ∷ []) (bodies_whole older whole.3 fronted.2)
    ∙ ap (λ (xs : List ℕ). emissions_in older ++ xs ∷ []) body
    ∙ sym (emitted_more packet older true whole.2)
  where
    none_newest : (packets : List Packet) → AllWhole packets → newest_is_lost packets ≡ false
    none_newest [] whole = refl
    none_newest (packet ∷ older) whole =
        ap (λ (b : Bool). not b || is_some packet.given_up) whole.0 ∙ ap (λ (o : Option Text). is_some o) whole.1

pub bodies_emitted : (calls : List Call) → AllWhole (packets_of calls) → bodies_of calls ≡ emissions_of calls
bodies_emitted calls whole =
    ap (λ (ps : List Packet). map body_of (reverse ps)) (all_kept (packets_of calls) whole)
    ∙ bodies_whole (packets_of calls) whole (packets_are_fronted calls)
