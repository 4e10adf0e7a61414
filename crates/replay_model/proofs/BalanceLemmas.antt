-- The report of a replay counts every packet once.
use Rattle.std.proofs.Common.{◌≡◌, ◌∙◌, ℕ, zero, suc, ◌+◌, ◌-◌, ◌*◌, ◌<◌, ◌≤◌, Bool, true, false, List, [], ◌∷◌, ◌++◌, length, map, fold, Some, refl, sym, ap, subst, arith, cond}
use Rattle.std.specs.Prelude.{◌==◌, slice_get}
use Rattle.std.specs.List.{AllByRecursion}
use Rattle.std.proofs.lemmas.Bool.{eq-eqb}
use Rattle.std.proofs.lemmas.Option.{slice_get_within}
use Rattle.trace_base.specs.declared.policy.FullPolicy.{FullPolicy}
use Rattle.trace_base.specs.declared.policy.FullPolicy.TheVariants.{Ring, Discard}
use Rattle.trace_base.specs.declared.policy.WriterSpec.{WriterSpec}
use Rattle.page_geometry.specs.Sizes.{record_size}
use Rattle.trace_model.specs.Calls.{Call, Begun, Number, Bytes, Nested, Ended, GivenUp, Finished, Flushed}
use Rattle.trace_model.specs.Counts.{last_count, one_if}
use Rattle.trace_model.specs.Encoding.{number_field, bytes_field}
use Rattle.trace_model.specs.Packets.{Packet, Account, noted, begun_count, begun_packet, with_more, with_nested, with_nested_ended, given_up_packet, finished_packet}
use Rattle.trace_model.specs.Balance.{PacketCounts, IsBalanced, counts_of}
use Rattle.trace_model.specs.Buffers.{Buffer, empty_buffer}
use Rattle.trace_model.specs.History.{Event, state_after, buffers_after}
use Rattle.trace_model.specs.Sequences.{Sequence, sequence_in}
use Rattle.model_laws.proofs.ReportLemmas.{counts_are_balanced}
use Rattle.delivery_laws.proofs.ReportLemmas.{accounts_are_histories}
use Rattle.field_tree.specs.declared.node.FieldNode.TheVariants as node
use Rattle.field_tree.specs.Nodes.{Shown}
use Rattle.chunk_plain.specs.Setup.{Setup, sequence_of, size_of}
use Rattle.chunk_plain.specs.World.{World, writer}
use Rattle.chunk_plain.specs.Histories.{history_of}
use Rattle.world_model.specs.FirstBuffers.{BufferSpec, sequences_from, first_buffers}
use Rattle.world_model.proofs.MakingLemmas.{first_long, set_at}
use Rattle.scenario_text.specs.declared.scenario.BufferLine.{BufferLine}
use Rattle.scenario_text.specs.declared.scenario.NumberedLine.{NumberedLine}
use Rattle.scenario_text.specs.declared.scenario.LineKind.{LineKind}
use Rattle.scenario_text.specs.declared.scenario.LineKind.TheVariants as line
use Rattle.scenario_text.specs.Scenario.{Parts}
use Rattle.scenario_text.specs.Accepted.{line_calls, calls_asked, node_call}
use Rattle.scenario_text.specs.Limits.{IsWriter, IsSetUp}
use Rattle.scenario_text.specs.Raws.{HasNoRaw, has_raw}
use Rattle.service_core.specs.Routing.{buffer_at}
use Rattle.replay_model.specs.Played.{buffer_specs, buffers_of, buffers_in, counts_from, packet_counts, AreBalanced}
use Rattle.replay_model.specs.Raws.{counts_by}
use Rattle.replay_model.specs.Laws.{EveryReportIsBalanced}
use Rattle.replay_model.proofs.DoneLemmas.{IsDone, played_done, there, within, account_of}
use Rattle.replay_model.proofs.PigeonLemmas.{hit_few}

-- ---- how many packets the lines begin

abbrev pub begins : List Call → ℕ
begins [] = 0
begins (Begun kept ∷ calls) = suc (begins calls)
begins (Number field value ∷ calls) = begins calls
begins (Bytes field text times ∷ calls) = begins calls
begins (Nested field ∷ calls) = begins calls
begins (Ended ∷ calls) = begins calls
begins (GivenUp ∷ calls) = begins calls
begins (Finished ∷ calls) = begins calls
begins (Flushed ∷ calls) = begins calls

pub begins_append : (xs ys : List Call) → begins (xs ++ ys) ≡ begins xs + begins ys
begins_append [] ys = omega arith
begins_append (Begun kept ∷ xs) ys = let rest = begins_append xs ys in omega (arith, rest)
begins_append (Number field value ∷ xs) ys = begins_append xs ys
begins_append (Bytes field text times ∷ xs) ys = begins_append xs ys
begins_append (Nested field ∷ xs) ys = begins_append xs ys
begins_append (Ended ∷ xs) ys = begins_append xs ys
begins_append (GivenUp ∷ xs) ys = begins_append xs ys
begins_append (Finished ∷ xs) ys = begins_append xs ys
begins_append (Flushed ∷ xs) ys = begins_append xs ys

abbrev account : List Packet → Bool → Account
account packets flushed = record { packets = packets; flushed = flushed }

pub many_begun : (calls : List Call) (packets : List Packet) (flushed : Bool) → length (fold noted (account packets flushed) calls).packets ≡ length packets + begins calls
many_begun [] packets flushed = omega arith
many_begun (Begun kept ∷ calls) packets flushed =
    let rest = many_begun calls (begun_packet kept (account packets flushed) ∷ packets) false in omega (arith, rest)
many_begun (Number field value ∷ calls) [] flushed = many_begun calls [] flushed
many_begun (Number field value ∷ calls) (packet ∷ packets) flushed = many_begun calls (with_more (number_field field value) packet ∷ packets) flushed
many_begun (Bytes field text times ∷ calls) [] flushed = many_begun calls [] flushed
many_begun (Bytes field text times ∷ calls) (packet ∷ packets) flushed = many_begun calls (with_more (bytes_field field text times) packet ∷ packets) flushed
many_begun (Nested field ∷ calls) [] flushed = many_begun calls [] flushed
many_begun (Nested field ∷ calls) (packet ∷ packets) flushed = many_begun calls (with_nested field packet ∷ packets) flushed
many_begun (Ended ∷ calls) [] flushed = many_begun calls [] flushed
many_begun (Ended ∷ calls) (packet ∷ packets) flushed = many_begun calls (with_nested_ended packet ∷ packets) flushed
many_begun (GivenUp ∷ calls) [] flushed = many_begun calls [] flushed
many_begun (GivenUp ∷ calls) (packet ∷ packets) flushed = many_begun calls (given_up_packet packet ∷ packets) flushed
many_begun (Finished ∷ calls) [] flushed = many_begun calls [] flushed
many_begun (Finished ∷ calls) (packet ∷ packets) flushed = many_begun calls (finished_packet packet ∷ packets) flushed
many_begun (Flushed ∷ calls) packets flushed = many_begun calls packets true

pub nodes_begin_none : (nodes : List Shown) → begins (map node_call nodes) ≡ 0
unfolding node_call
nodes_begin_none [] = refl
nodes_begin_none ((node.Number field value, text) ∷ nodes) = nodes_begin_none nodes
nodes_begin_none ((node.Bytes field times, text) ∷ nodes) = nodes_begin_none nodes
nodes_begin_none ((node.Begin field, text) ∷ nodes) = nodes_begin_none nodes
nodes_begin_none ((node.End, text) ∷ nodes) = nodes_begin_none nodes

-- the writer that a line asks something of, or 0; a chunk that is committed in a writer's name asks nothing of it
abbrev pub writer_number : LineKind → ℕ
writer_number (line.Packet writer fields) = writer
writer_number (line.Begin writer) = writer
writer_number (line.Add writer fields) = writer
writer_number (line.Nest writer field) = writer
writer_number (line.Unnest writer) = writer
writer_number (line.End writer) = writer
writer_number (line.Flush writer) = writer
writer_number (line.Collect producer) = 0
writer_number (line.Scrape producer) = 0
writer_number (line.Close producer) = 0
writer_number (line.Read buffer limit) = 0
writer_number line.Request = 0
writer_number (line.CloneBuffer buffer) = 0
writer_number (line.Raw writer chunk) = 0

own_begins : (b : Bool) (calls : List Call) → begins calls ≤ 1 → begins (cond b calls []) ≤ one_if b
own_begins true calls few = few
own_begins false calls few = omega arith

-- a line begins at most one packet, and that of its own writer
pub line_own : (number : ℕ) (kind : LineKind) → begins (line_calls number kind) ≤ one_if (number == writer_number kind)
unfolding line_calls
line_own number (line.Packet writer fields) =
    own_begins (number == writer) (Begun true ∷ map node_call fields ++ Finished ∷ [])
    (let both = begins_append (map node_call fields) (Finished ∷ []) in let none = nodes_begin_none fields in omega (arith, both, none))
line_own number (line.Begin writer) = own_begins (number == writer) (Begun true ∷ []) (omega arith)
line_own number (line.Add writer fields) = own_begins (number == writer) (map node_call fields) (let none = nodes_begin_none fields in omega (arith, none))
line_own number (line.Nest writer field) = own_begins (number == writer) (Nested field ∷ []) (omega arith)
line_own number (line.Unnest writer) = own_begins (number == writer) (Ended ∷ []) (omega arith)
line_own number (line.End writer) = own_begins (number == writer) (Finished ∷ []) (omega arith)
line_own number (line.Flush writer) = own_begins (number == writer) (Flushed ∷ []) (omega arith)
line_own number (line.Collect producer) = omega arith
line_own number (line.Scrape producer) = omega arith
line_own number (line.Close producer) = omega arith
line_own number (line.Read buffer limit) = omega arith
line_own number line.Request = omega arith
line_own number (line.CloneBuffer buffer) = omega arith
line_own number (line.Raw writer chunk) = omega arith

lines_begin : (number : ℕ) (lines : List NumberedLine) → begins (calls_asked number lines) ≤ length lines
lines_begin number [] = omega arith
lines_begin number (line ∷ lines) =
    let both = begins_append (line_calls number line.what) (calls_asked number lines) in
    let own = line_own number line.what in
    let one = hit_few (number == writer_number line.what) in
    let rest = lines_begin number lines in
    omega (arith, both, own, one, rest)

pub asked_few : (number : ℕ) (lines : List NumberedLine) → begun_count (calls_asked number lines) ≤ length lines
asked_few number lines =
    let many = many_begun (calls_asked number lines) [] false in
    let few = lines_begin number lines in
    omega (arith, many, few)

-- ---- the buffer of a writer

pub first_at : (setup : Setup) (n : ℕ) (specs : List BufferSpec) (i : ℕ) (spec : BufferSpec) → slice_get specs i ≡ Some spec
    → buffer_at (first_buffers setup n specs) i ≡ empty_buffer spec.size spec.policy (sequences_from setup (n + i) 0 setup.writers)
first_at setup n [] i spec get = absurd (cc)
first_at setup n (first ∷ specs) zero spec get =
    let same : first ≡ spec = cc in
    let at : n ≡ n + 0 = omega arith in
    ap (λ (s : BufferSpec). empty_buffer s.size s.policy (sequences_from setup n 0 setup.writers)) same
    ∙ ap (λ (m : ℕ). empty_buffer spec.size spec.policy (sequences_from setup m 0 setup.writers)) at
first_at setup n (first ∷ specs) (suc i) spec get =
    let at : suc n + i ≡ n + suc i = omega arith in
    first_at setup (suc n) specs i spec get
    ∙ ap (λ (m : ℕ). empty_buffer spec.size spec.policy (sequences_from setup m 0 setup.writers)) at

-- what a buffer comes to, at its place
pub after_at : (buffers : List Buffer) (events : List Event) (i : ℕ) → i < length buffers → buffer_at (buffers_after buffers events) i ≡ state_after (buffer_at buffers i) events
after_at [] events i low = absurd (omega (arith, low))
after_at (buffer ∷ buffers) events zero low = refl
after_at (buffer ∷ buffers) events (suc i) low = after_at buffers events i (omega (arith, low))

-- ---- the counts

-- what is lost counts once, under either policy
balanced_under : (one other : FullPolicy) (calls : List Call) (state : Sequence) → IsBalanced (counts_of one calls state) → IsBalanced (counts_of other calls state)
balanced_under Ring Ring calls state balanced = balanced
balanced_under Ring Discard calls state balanced = let sum = balanced.sum in record { sum = omega (arith, sum) }
balanced_under Discard Ring calls state balanced = let sum = balanced.sum in record { sum = omega (arith, sum) }
balanced_under Discard Discard calls state balanced = balanced

pub record IsCountOf (lines : List NumberedLine) (buffers : List Buffer) (world : World) (place i : ℕ) (specs : List WriterSpec) (counts : PacketCounts) : Type 0 where
  pub spec : WriterSpec
  pub get : slice_get specs i ≡ Some spec
  pub is : counts ≡ counts_by (has_raw (suc (place + i)) lines) (buffer_at buffers (spec.buffer - 1)).policy (writer world (place + i)).calls
      (sequence_in (buffer_at buffers (spec.buffer - 1)).sequences (sequence_of (place + i)))

-- the counts of one writer, where its sequence is in this buffer
abbrev counts_in : List NumberedLine → Buffer → World → (place : ℕ) → PacketCounts
counts_in lines buffer world place =
    counts_by (has_raw (suc place) lines) buffer.policy (writer world place).calls (sequence_in buffer.sequences (sequence_of place))

pub count_at : (lines : List NumberedLine) (buffers : List Buffer) (world : World) (place : ℕ) (specs : List WriterSpec) (i : ℕ) (counts : PacketCounts)
    → slice_get (counts_from lines buffers world place specs) i ≡ Some counts → IsCountOf lines buffers world place i specs counts
count_at lines buffers world place [] i counts get = absurd (cc)
count_at lines buffers world place (spec ∷ specs) zero counts get =
    let buffer : Buffer = buffer_at buffers (spec.buffer - 1) in
    let first : PacketCounts = counts_in lines buffer world place in
    let same : first ≡ counts = cc in
    let at : place ≡ place + 0 = omega arith in
    record {
      spec = spec;
      get = refl;
      is = sym same ∙ ap (λ (p : ℕ). counts_in lines buffer world p) at;
    }
count_at lines buffers world place (spec ∷ specs) (suc i) counts get =
    let h = count_at lines buffers world (suc place) specs i counts get in
    let buffer : Buffer = buffer_at buffers (h.spec.buffer - 1) in
    let at : suc place + i ≡ place + suc i = omega arith in
    record {
      spec = h.spec;
      get = h.get;
      is = h.is ∙ ap (λ (p : ℕ). counts_in lines buffer world p) at;
    }

-- those of one in whose name no line commits a chunk
pub own_counts : (lines : List NumberedLine) (buffers : List Buffer) (world : World) (specs : List WriterSpec) (place : ℕ) (counts : PacketCounts)
    → HasNoRaw lines place → (count : IsCountOf lines buffers world 0 place specs counts)
    → counts ≡ counts_of (buffer_at buffers (count.spec.buffer - 1)).policy (writer world place).calls
    (sequence_in (buffer_at buffers (count.spec.buffer - 1)).sequences (sequence_of place))
own_counts lines buffers world specs place counts none count =
    let buffer : Buffer = buffer_at buffers (count.spec.buffer - 1) in
    let at : 0 + place ≡ place = omega arith in
    count.is ∙ ap (λ (p : ℕ). counts_in lines buffer world p) at
    ∙ ap (λ (raw : Bool). counts_by raw buffer.policy (writer world place).calls (sequence_in buffer.sequences (sequence_of place))) none

pub each_is : {A : Type 0} (P : A → Type 0) (xs : List A) (i : ℕ) (x : A) → AllByRecursion P xs → slice_get xs i ≡ Some x → P x
each_is P [] i x all get = absurd (cc)
each_is P (y ∷ xs) zero x all get = let same : y ≡ x = cc in subst P same all.0
each_is P (y ∷ xs) (suc i) x all get = each_is P xs i x all.1 get

pub get_map : {A B : Type 0} (f : A → B) (xs : List A) (i : ℕ) (x : A) → slice_get xs i ≡ Some x → slice_get (map f xs) i ≡ Some (f x)
get_map f [] i x get = absurd (cc)
get_map f (y ∷ xs) zero x get = let same : y ≡ x = cc in ap (λ a. Some (f a)) same
get_map f (y ∷ xs) (suc i) x get = get_map f xs i x get

module _ (scenario : Parts) (setup : Setup) (world : World) (done : IsDone scenario setup world)
    (few : length scenario.lines ≤ last_count) (place : ℕ) (spec : WriterSpec) (get : slice_get scenario.writers place ≡ Some spec)
    (is_writer : IsWriter scenario.buffers scenario.producers spec) where
  abbrev pub index : ℕ
  index = spec.buffer - 1

  abbrev pub made : BufferSpec
  made = record { size = is_writer.into_buffer.kb * 1024; policy = is_writer.into_buffer.policy }

  abbrev pub first : Buffer
  first = empty_buffer made.size made.policy (sequences_from setup spec.buffer 0 setup.writers)

  pub made_there : slice_get (buffer_specs scenario) index ≡ Some made
  made_there = get_map (λ (line : BufferLine). record { size = line.kb * 1024; policy = line.policy }) scenario.buffers index is_writer.into_buffer is_writer.buffer_is

  pub begins_as : buffer_at (buffers_of scenario setup) index ≡ first
  begins_as =
      let least = is_writer.counts_buffer in
      let number : 1 + index ≡ spec.buffer = omega (arith, least) in
      first_at setup 1 (buffer_specs scenario) index made made_there
      ∙ ap (λ (m : ℕ). empty_buffer made.size made.policy (sequences_from setup m 0 setup.writers)) number

  pub inside : index < length (buffers_of scenario setup)
  inside =
      let low = slice_get_within (buffer_specs scenario) index made made_there in
      let long = first_long setup 1 (buffer_specs scenario) in
      omega (arith, low, long)

  pub becomes : buffer_at (buffers_in scenario setup world) index ≡ state_after first (history_of world.service)
  becomes = after_at (buffers_of scenario setup) (history_of world.service) index inside ∙ ap (λ (b : Buffer). state_after b (history_of world.service)) begins_as

  pub begun_few : begun_count (writer world place).calls ≤ last_count
  begun_few =
      let same = (done.shape place (within scenario setup world done place spec get)).begun in
      let asked = asked_few (suc place) scenario.lines in
      omega (arith, same, asked, few)

  balanced : HasNoRaw scenario.lines place → IsBalanced (counts_of (buffer_at (buffers_in scenario setup world) index).policy (writer world place).calls
      (sequence_in (buffer_at (buffers_in scenario setup world) index).sequences (sequence_of place)))
  balanced none =
      let is = set_at setup place spec (there scenario setup world done place spec get) spec.buffer in
      let named = eq-eqb spec.buffer spec.buffer refl in
      let own = account_of scenario setup world done place (within scenario setup world done place spec get) none (sequences_from setup spec.buffer 0 setup.writers)
      (record_size (size_of setup spec.producer)) (is.known ∙ named) (is.start named) in
      let history = accounts_are_histories _ (writer world place).calls _ (sequences_from setup spec.buffer 0 setup.writers) (place + 2)
      (record_size (size_of setup spec.producer)) (history_of world.service) own begun_few in
      let here : IsBalanced (counts_of made.policy (writer world place).calls (sequence_in (state_after first (history_of world.service)).sequences (place + 2))) =
      counts_are_balanced _ (writer world place).calls _ made.size made.policy (sequences_from setup spec.buffer 0 setup.writers) (place + 2)
      (record_size (size_of setup spec.producer)) (history_of world.service) history in
      subst (λ (b : Buffer). IsBalanced (counts_of b.policy (writer world place).calls (sequence_in b.sequences (sequence_of place)))) (sym becomes)
      (balanced_under made.policy (state_after first (history_of world.service)).policy (writer world place).calls
      (sequence_in (state_after first (history_of world.service)).sequences (place + 2)) here)

pub done_is_balanced : (scenario : Parts) (setup : Setup) (world : World) → IsDone scenario setup world → length scenario.lines ≤ last_count
    → IsSetUp scenario.buffers scenario.producers scenario.writers → AreBalanced scenario.lines (packet_counts scenario setup world)
done_is_balanced scenario setup world done few is_set_up place counts none get =
    let count = count_at scenario.lines (buffers_in scenario setup world) world 0 scenario.writers place counts get in
    let is_writer = each_is (IsWriter scenario.buffers scenario.producers) scenario.writers place count.spec is_set_up.are_writers count.get in
    subst IsBalanced (sym (own_counts scenario.lines (buffers_in scenario setup world) world scenario.writers place counts none count))
    (balanced scenario setup world done few place count.spec count.get is_writer none)

pub every_report_is_balanced : EveryReportIsBalanced
every_report_is_balanced scenario setup world notes played = done_is_balanced scenario setup world (played_done scenario setup world notes played)
