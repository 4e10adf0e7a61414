-- What is counted once all is played is what the report says.
use Rattle.std.proofs.Common.{◌≡◌, ◌∙◌, ℕ, zero, suc, ◌+◌, ◌-◌, ◌*◌, ◌^◌, ◌<◌, ◌≤◌, min, Bool, true, false, Some, List, [], ◌∷◌, ◌++◌, length, map, get_or, refl, sym, ap, subst, arith}
use Rattle.std.specs.Prelude.{slice_get, slice_index_or, vec_len}
use Rattle.std.proofs.lemmas.List.{length-map}
use Rattle.std.proofs.lemmas.Option.{slice_get_within, get_or_from_slice_get}
use Rattle.trace_base.specs.declared.limits.TheConstants.{BYTES_PER_KB}
use Rattle.trace_base.specs.declared.policy.FullPolicy.{FullPolicy}
use Rattle.trace_base.specs.declared.policy.FullPolicy.TheVariants.{Ring, Discard}
use Rattle.trace_base.specs.declared.policy.WriterSpec.{WriterSpec}
use Rattle.trace_model.specs.Balance.{PacketCounts, IsBalanced, counts_of}
use Rattle.trace_model.specs.Buffers.{Buffer}
use Rattle.trace_model.specs.Calls.{Call}
use Rattle.trace_model.specs.Counts.{raised, last_count}
use Rattle.trace_model.specs.History.{buffers_after}
use Rattle.trace_model.specs.Packets.{begun_count, dropped_at_begin}
use Rattle.trace_model.specs.Sequences.{Sequence, sequence_in}
use Rattle.trace_buffer.specs.Answers as answers
use Rattle.trace_buffer.specs.declared.answers.BufferCounts.{BufferCounts}
use Rattle.trace_buffer.specs.declared.answers.SequenceState.{SequenceState}
use Rattle.chunk_plain.specs.Histories.{history_of}
use Rattle.chunk_plain.specs.Meaning.{Meaning}
use Rattle.chunk_plain.specs.Setup.{Setup, sequence_of, no_writer}
use Rattle.chunk_plain.specs.Views.{ServiceView, WriterView}
use Rattle.chunk_plain.specs.World.{World, writer}
use Rattle.trace_writer.specs.declared.writer.WriterCore.{WriterCore}
use Rattle.trace_writer.specs.Agreement.{counted}
use Rattle.world_model.proofs.MakingLemmas.{first_long}
use Rattle.scenario_text.specs.declared.scenario.BufferLine.{BufferLine}
use Rattle.scenario_text.specs.declared.scenario.NumberedLine.{NumberedLine}
use Rattle.scenario_text.specs.Raws.{has_raw, raw_numbers}
use Rattle.scenario_text.specs.Scenario.{Parts}
use Rattle.service_core.specs.declared.service.ServiceCore.{ServiceCore}
use Rattle.service_core.specs.Agreement.{ServiceAgrees, first_of, buffer_of, spec_at, spec_value}
use Rattle.service_core.specs.Routing.{buffer_at}
use Rattle.service_core.proofs.RouteLemmas.{length_after}
use Rattle.loss_report.specs.declared.counts.SequenceCounts.{SequenceCounts}
use Rattle.loss_report.specs.declared.raws.RawLine.{RawLine}
use Rattle.loss_report.specs.Raws.{raw_text}
use Rattle.loss_report.specs.Report.{report_text}
use Rattle.replay_model.specs.Enough.{IsPlayable}
use Rattle.replay_model.specs.ActNotes.{ActNote, answers_in}
use Rattle.replay_model.specs.Flushes.{flush_sums}
use Rattle.replay_model.specs.Played.{IsPlayed, buffer_specs, buffers_of, buffers_in, counts_from, packet_counts, printed, report_of, report_with}
use Rattle.replay_model.specs.Raws.{counts_by, raw_counts, raw_lines}
use Rattle.replay_model.proofs.BalanceLemmas.{count_at, every_report_is_balanced}
use Rattle.replay_model.proofs.PlayedLemmas.{setup_writers}
use Rattle.replay_host.specs.declared.flushes.Flushes.{Flushes}
use Rattle.replay_host.specs.declared.host.Host.{Host}
use Rattle.replay_host.specs.Counting.{packets_counted, packets_left, packets_of_either, buffers_now, packets_now, answers_to, IsReportOf, CountsAll}
use Rattle.replay_host.specs.Playing.{IsHost}
use Rattle.replay_host.specs.Raws.{AreMarked}
use Rattle.replay_host.specs.Standing.{IsSeated}
use Rattle.replay_host.specs.Tally.{IsTally}
use Rattle.replay_host.proofs.RestLemmas.{sums_rest, none_over}
use Rattle.replay_host.proofs.RowLemmas.{AreLaws, row_is}

-- ---- lists

-- a list is another one mapped, where it is so at each place
pub map_each : {A B : Type 0} (f : A → B) (xs : List A) (ys : List B) → length ys ≡ length xs
    → ((i : ℕ) (x : A) (d : B) → slice_get xs i ≡ Some x → get_or ys i d ≡ f x) → ys ≡ map f xs
map_each f [] [] long each = refl
map_each f [] (y ∷ ys) long each = absurd (omega (arith, long))
map_each f (x ∷ xs) [] long each = absurd (omega (arith, long))
map_each f (x ∷ xs) (y ∷ ys) long each =
    ap (λ z. z ∷ ys) (each 0 x y refl) ∙ ap (λ zs. f x ∷ zs) (map_each f xs ys (omega (arith, long)) (λ i z d at. each (suc i) z d at))

pub counts_long : (lines : List NumberedLine) (buffers : List Buffer) (world : World) (place : ℕ) (specs : List WriterSpec)
    → length (counts_from lines buffers world place specs) ≡ length specs
counts_long lines buffers world place [] = refl
counts_long lines buffers world place (spec ∷ specs) = ap suc (counts_long lines buffers world (suc place) specs)

-- a host has as many buffers as its service was made with
pub buffers_long : {T W S : Type 0} (means : Meaning T W S) (host : Host T W S)
    → length (buffers_now means host) ≡ length host.helper.service.specs.items
buffers_long means host =
    length_after (first_of (means.setup host.table) host.helper.service)
    (history_of (means.service_view host.table host.helper.service.seat))
    ∙ first_long (means.setup host.table) 1 (map spec_value host.helper.service.specs.items)
    ∙ length-map host.helper.service.specs.items spec_value

-- and so many as the scenario has, where they are its buffers
pub specs_many : {S : Type 0} (scenario : Parts) (setup : Setup) (service : ServiceCore S)
    → first_of setup service ≡ buffers_of scenario setup
    → length service.specs.items ≡ length scenario.buffers
specs_many scenario setup service first =
    sym (first_long setup 1 (map spec_value service.specs.items) ∙ length-map service.specs.items spec_value)
    ∙ ap (λ (all : List Buffer). length all) first ∙ first_long setup 1 (buffer_specs scenario)
    ∙ length-map scenario.buffers (λ (line : BufferLine). record { size = line.kb * BYTES_PER_KB; policy = line.policy })

-- ---- a sequence's packets

-- counts of which each is the same
same_counts : (begun dropped cut all lost rest delivered overwritten discarded : ℕ) → begun ≡ all → dropped ≡ lost → cut ≡ rest
    → ◌≡◌ {A = SequenceCounts}
    (record { begun = begun; delivered = delivered; dropped = dropped; overwritten = overwritten; discarded = discarded; cut = cut })
    (record { begun = all; delivered = delivered; dropped = lost; overwritten = overwritten; discarded = discarded; cut = rest })
same_counts begun dropped cut all lost rest delivered overwritten discarded same_begun same_dropped same_cut = cc

begun_is : (n : ℕ) → counted n ≡ raised 0 n
begun_is n = omega arith

-- a count within a sum that is within the last value
within : (n more count a b c e : ℕ) → raised 0 n ≡ a + raised count more + b + c + e → count ≤ last_count
within n more count a b c e sum = omega (arith, sum)

dropped_is : (count more : ℕ) → count ≤ last_count → min (count + counted more) (2 ^ 64 - 1) ≡ raised count more
dropped_is count more few = omega (arith, few)

cut_is : (begun dropped cut all lost delivered overwritten discarded : ℕ) → begun ≡ all → dropped ≡ lost
    → all ≡ delivered + lost + overwritten + discarded + cut → begun - delivered - dropped - overwritten - discarded ≡ cut
cut_is begun dropped cut all lost delivered overwritten discarded same_begun same_dropped sum = omega (arith, same_begun, same_dropped, sum)

-- the same of the same
pub left_same : (begun at_begin all dropped : ℕ) (state other : SequenceState) → begun ≡ all → at_begin ≡ dropped → state ≡ other
    → packets_left begun at_begin state ≡ packets_left all dropped other
left_same begun at_begin all dropped state other same_begun same_dropped same_state = cc

-- other begun ones, of the same counts
more_begun : (begun all delivered dropped overwritten discarded cut : ℕ) → begun ≡ all
    → ◌≡◌ {A = SequenceCounts}
    (record { begun = begun; delivered = delivered; dropped = dropped; overwritten = overwritten; discarded = discarded; cut = cut })
    (record { begun = all; delivered = delivered; dropped = dropped; overwritten = overwritten; discarded = discarded; cut = cut })
more_begun begun all delivered dropped overwritten discarded cut same = cc

-- Of a sequence in whose name lines commit chunks as many were begun as losses and reads counted.
pub counted_is : (policy : FullPolicy) (state : Sequence) → packets_counted (answers.state_of policy state) ≡ printed (raw_counts policy state)
counted_is Ring state =
    more_begun _ (raw_counts Ring state).begun state.delivered state.dropped state.lost 0 state.cut
    (let same : min (state.delivered + state.dropped + state.lost + 0 + state.cut) last_count ≡ raised 0 (state.delivered + state.dropped + state.lost + state.cut) = omega arith in same)
counted_is Discard state =
    more_begun _ (raw_counts Discard state).begun state.delivered state.dropped 0 state.lost state.cut
    (let same : min (state.delivered + state.dropped + 0 + state.lost + state.cut) last_count ≡ raised 0 (state.delivered + state.dropped + state.lost + state.cut) = omega arith in same)

-- What no cause has is what is left of those that were begun, where each counts once.
pub left_is : (policy : FullPolicy) (calls : List Call) (state : Sequence) → IsBalanced (counts_of policy calls state)
    → packets_left (counted (begun_count calls)) (counted (dropped_at_begin calls)) (answers.state_of policy state)
    ≡ printed (counts_of policy calls state)
left_is Ring calls state balanced =
    let counts : PacketCounts = counts_of Ring calls state in
    let few = within (begun_count calls) (dropped_at_begin calls) state.dropped state.delivered state.lost 0 counts.cut balanced.sum in
    let dropped = dropped_is state.dropped (dropped_at_begin calls) few in
    same_counts _ _ _ counts.begun counts.dropped counts.cut state.delivered state.lost 0 (begun_is (begun_count calls)) dropped
    (cut_is _ _ counts.cut counts.begun counts.dropped state.delivered state.lost 0 (begun_is (begun_count calls)) dropped balanced.sum)
left_is Discard calls state balanced =
    let counts : PacketCounts = counts_of Discard calls state in
    let few = within (begun_count calls) (dropped_at_begin calls) state.dropped state.delivered 0 state.lost counts.cut balanced.sum in
    let dropped = dropped_is state.dropped (dropped_at_begin calls) few in
    same_counts _ _ _ counts.begun counts.dropped counts.cut state.delivered 0 state.lost (begun_is (begun_count calls)) dropped
    (cut_is _ _ counts.cut counts.begun counts.dropped state.delivered 0 state.lost (begun_is (begun_count calls)) dropped balanced.sum)

-- So what is counted of a sequence is what the report says, whether lines commit chunks in its writer's name or not.
pub either_is : (marked : Bool) (policy : FullPolicy) (calls : List Call) (state : Sequence) → (marked ≡ false → IsBalanced (counts_of policy calls state))
    → packets_of_either marked (counted (begun_count calls)) (counted (dropped_at_begin calls)) (answers.state_of policy state)
    ≡ printed (counts_by marked policy calls state)
either_is true policy calls state balanced = counted_is policy state
either_is false policy calls state balanced = left_is policy calls state (balanced refl)

-- what is left in these buffers of the packets of the writer at this place
abbrev pub left_in : (place : ℕ) → List Buffer → (index : ℕ) → List Call → SequenceCounts
left_in place buffers index calls =
    packets_left (counted (begun_count calls)) (counted (dropped_at_begin calls))
    (answers.state_of (buffer_at buffers index).policy (sequence_in (buffer_at buffers index).sequences (sequence_of place)))

-- or what is counted of them, where lines commit chunks in its name
abbrev pub either_in : (place : ℕ) → (marked : Bool) → List Buffer → (index : ℕ) → List Call → SequenceCounts
either_in place marked buffers index calls =
    packets_of_either marked (counted (begun_count calls)) (counted (dropped_at_begin calls))
    (answers.state_of (buffer_at buffers index).policy (sequence_in (buffer_at buffers index).sequences (sequence_of place)))

-- ---- all of it

module _ {T W S : Type 0} (means : Meaning T W S) (laws : AreLaws means) (host : Host T W S) (is_host : IsHost means host)
    (scenario : Parts) (notes : List ActNote)
    (world : World) (told : means.told host.table ≡ Some world) (played : IsPlayed scenario (means.setup host.table) world notes)
    (playable : IsPlayable scenario)
    (first : first_of (means.setup host.table) host.helper.service ≡ buffers_of scenario (means.setup host.table))
    (marks : List Bool) (marked : AreMarked scenario.lines (length scenario.writers) marks) where
  abbrev setup : Setup
  setup = means.setup host.table

  -- the service's view is the world's
  served : means.service_view host.table host.helper.service.seat ≡ world.service
  served = laws.told_service_view host.table host.helper.service.seat world told is_host.stands.served.serves

  -- the buffers are those of the world
  pub buffers_are : buffers_now means host ≡ buffers_in scenario (means.setup host.table) world
  buffers_are =
      ap (λ (buffers : List Buffer). buffers_after buffers (history_of (means.service_view host.table host.helper.service.seat))) first
      ∙ ap (λ (view : ServiceView). buffers_after (buffers_of scenario setup) (history_of view)) served

  -- the counts of a writer are those of the report
  packets_are : (place : ℕ) (core : WriterCore W) (counts : PacketCounts) → slice_get host.writers.items place ≡ Some core
      → slice_get (packet_counts scenario (means.setup host.table) world) place ≡ Some counts
      → packets_now means host place (slice_index_or marks place false) (means.view host.table core.seat).calls ≡ printed counts
  packets_are place core counts at get =
      let buffers : List Buffer = buffers_in scenario setup world in
      let lines : List NumberedLine = scenario.lines in
      let count = count_at lines buffers world 0 scenario.writers place counts get in
      let seated : IsSeated means host.table place core = is_host.stands.seated place core at in
      let row : writer world place ≡ means.view host.table core.seat =
      row_is means laws host.table world told place core.seat seated.sits seated.place_is in
      let here : 0 + place ≡ place = omega arith in
      let spec_is : spec_at setup.writers place ≡ count.spec =
      ap (λ (specs : List WriterSpec). spec_at specs place) (setup_writers scenario setup played.setup_is)
      ∙ get_or_from_slice_get scenario.writers place count.spec no_writer count.get in
      let index : buffer_of setup place - 1 ≡ count.spec.buffer - 1 = ap (λ (s : WriterSpec). s.buffer - 1) spec_is in
      let number : ℕ = count.spec.buffer - 1 in
      let raw : Bool = has_raw (suc place) lines in
      let policy : FullPolicy = (buffer_at buffers number).policy in
      let state : Sequence = sequence_in (buffer_at buffers number).sequences (sequence_of place) in
      let calls : List Call = (writer world place).calls in
      let counts_is : counts ≡ counts_by raw policy calls state =
      count.is ∙ ap (λ (p : ℕ). counts_by (has_raw (suc p) lines) policy (writer world p).calls
      (sequence_in (buffer_at buffers number).sequences (sequence_of p))) here in
      let balanced : raw ≡ false → IsBalanced (counts_of policy calls state) =
      λ none. subst IsBalanced (counts_is ∙ ap (λ (b : Bool). counts_by b policy calls state) none)
      (every_report_is_balanced scenario setup world notes played playable.few playable.set_up place counts none get) in
      let said : slice_index_or marks place false ≡ raw = marked.each place (slice_get_within scenario.writers place count.spec count.get) in
      ap (λ (b : Bool). packets_now means host place b (means.view host.table core.seat).calls) said
      ∙ ap (λ (all : List Buffer). either_in place raw all (buffer_of setup place - 1) (means.view host.table core.seat).calls) buffers_are
      ∙ ap (λ (n : ℕ). either_in place raw buffers n (means.view host.table core.seat).calls) index
      ∙ ap (λ (view : WriterView). either_in place raw buffers number view.calls) (sym row)
      ∙ either_is raw policy calls state balanced
      ∙ ap printed (sym counts_is)

  -- and so are all of them
  pub sequences_are : (items : List SequenceCounts) → length items ≡ length host.writers.items
      → ((place : ℕ) (core : WriterCore W) → slice_get host.writers.items place ≡ Some core
      → slice_get items place ≡ Some (packets_now means host place (slice_index_or marks place false) (means.view host.table core.seat).calls))
      → items ≡ map printed (packet_counts scenario (means.setup host.table) world)
  sequences_are items long each =
      let many = is_host.stands.many in
      let writers = ap (λ (specs : List WriterSpec). length specs) (setup_writers scenario setup played.setup_is) in
      let wide = counts_long scenario.lines (buffers_in scenario setup world) world 0 scenario.writers in
      map_each printed (packet_counts scenario setup world) items (omega (arith, long, many, writers, wide))
      (λ place counts d get.
      let inside = slice_get_within (packet_counts scenario setup world) place counts get in
      let cases = core_at host.writers.items place (omega (arith, inside, many, writers, wide)) in
      get_or_from_slice_get items place _ d (each place cases.0 cases.1) ∙ packets_are place cases.0 counts cases.1 get)
    where
      core_at : (cores : List (WriterCore W)) (place : ℕ) → place < length cores
          → (core : WriterCore W) × (slice_get cores place ≡ Some core)
      core_at [] place inside = absurd (omega (arith, inside))
      core_at (core ∷ cores) zero inside = (core, refl)
      core_at (core ∷ cores) (suc place) inside = core_at cores place (omega (arith, inside))

  -- the sums are those of the world
  pub flushes_are : (writers : ℕ) (flushes : Flushes) → writers ≡ length (means.setup host.table).writers
      → IsTally (notes ++ answers_to (means.service_view host.table host.helper.service.seat) writers) writers flushes
      → vec_len flushes.chunks ≡ length flushes.chunks.items
      → flushes.made ≡ vec_len flushes.chunks → flushes.chunks.items ≡ flush_sums notes world.service.taken
  flushes_are writers flushes same tally joined made =
      let view : ServiceView = means.service_view host.table host.helper.service.seat in
      let many = is_host.stands.served.agrees.many in
      none_over (notes ++ answers_to view writers) writers flushes tally made joined
      ∙ sums_rest view writers (omega (arith, same, many)) notes
      ∙ ap (λ (v : ServiceView). flush_sums notes v.taken) served

-- What was counted is what the report says.
pub counts_all : {T W S : Type 0} (means : Meaning T W S) → AreLaws means → (host : Host T W S) → IsHost means host
    → (marks : List Bool) (buffers : List BufferCounts) (sequences : List SequenceCounts) (flushes : Flushes) (writers : ℕ)
    → writers ≡ length host.writers.items
    → buffers ≡ map answers.counts_of (buffers_now means host)
    → length sequences ≡ length host.writers.items
    → ((place : ℕ) (core : WriterCore W) → slice_get host.writers.items place ≡ Some core
    → slice_get sequences place ≡ Some (packets_now means host place (slice_index_or marks place false) (means.view host.table core.seat).calls))
    → ((notes : List ActNote) (setup : Setup) (view : ServiceView) → IsTally notes writers host.flushes
    → ServiceAgrees setup view host.helper.service
    → IsTally (notes ++ answers_to view writers) writers flushes)
    → vec_len flushes.chunks ≡ length flushes.chunks.items
    → CountsAll means host marks buffers sequences flushes
counts_all means laws host is_host marks buffers sequences flushes writers many counted_buffers long each rest
    joined scenario notes world told played playable first tally marked =
    let setup : Setup = means.setup host.table in
    let there : writers ≡ length setup.writers = many ∙ is_host.stands.many in
    let named : length scenario.writers ≡ writers = ap (λ (specs : List WriterSpec). length specs)
    (sym (setup_writers scenario setup played.setup_is)) ∙ sym there in
    let last = rest notes setup (means.service_view host.table host.helper.service.seat)
    (subst (λ (n : ℕ). IsTally notes n host.flushes) named tally) is_host.stands.served.agrees in
    record {
      buffers_are = counted_buffers ∙ ap (λ (all : List Buffer). map answers.counts_of all)
          (buffers_are means laws host is_host scenario notes world told played playable first marks marked);
      sequences_are = sequences_are means laws host is_host scenario notes world told played playable first marks marked sequences long each;
      sums_are = flushes_are means laws host is_host scenario notes world told played playable first marks marked writers flushes there last joined;
    }

-- The report of what was counted is that of the world.
pub report_is : (scenario : Parts) (setup : Setup) (world : World) (notes : List ActNote) (buffers : List BufferCounts)
    (sequences : List SequenceCounts) (flushes : Flushes) (raws : List RawLine)
    → IsReportOf scenario setup world notes buffers sequences flushes → flushes.made ≡ vec_len flushes.chunks
    → raws ≡ raw_lines (raw_numbers scenario.lines) (answers_in notes)
    → report_text buffers sequences flushes.chunks.items ++ raw_text raws ≡ report_of scenario setup world notes
report_is scenario setup world notes buffers sequences flushes raws is made raws_are =
    ap (λ (all : List BufferCounts). report_text all sequences flushes.chunks.items ++ raw_text raws) is.buffers_are
    ∙ ap (λ (all : List SequenceCounts). report_text (map answers.counts_of (buffers_in scenario setup world)) all flushes.chunks.items ++ raw_text raws) is.sequences_are
    ∙ ap (λ (sums : List ℕ). report_with scenario setup world sums ++ raw_text raws) (is.sums_are made)
    ∙ ap (λ (rs : List RawLine). report_with scenario setup world (flush_sums notes world.service.taken) ++ raw_text rs) raws_are
