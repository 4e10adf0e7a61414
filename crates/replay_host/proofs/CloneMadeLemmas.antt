-- The clones that a scenario's lines ask for are as its buffers are made, in whatever set-up of the scenario.
use Rattle.std.proofs.Common.{◌≡◌, ◌∙◌, ℕ, suc, ◌+◌, ◌-◌, ◌≤◌, Bool, true, false, cond, Some, List, [], ◌∷◌, ◌++◌, length, map, get_or, refl, sym, ap, subst, arith, append_assoc, Result, Ok, Err, IfOk}
use Rattle.std.specs.Prelude.{◌==◌, slice_get}
use Rattle.std.specs.List.{AllZip}
use Rattle.std.proofs.lemmas.Option.{slice_get-get_or}
use Rattle.trace_base.specs.declared.policy.FullPolicy.TheVariants.{Ring}
use Rattle.trace_base.specs.declared.policy.WriterSpec.{WriterSpec}
use Rattle.page_geometry.specs.Sizes.{payload_size, record_size}
use Rattle.trace_model.specs.Buffers.{Buffer, empty_buffer}
use Rattle.trace_model.specs.Sequences.{Sequence, fresh}
use Rattle.scenario_text.specs.declared.scenario.LineKind.{LineKind}
use Rattle.scenario_text.specs.declared.scenario.LineKind.TheVariants.{CloneBuffer}
use Rattle.scenario_text.specs.declared.scenario.NumberedLine.{NumberedLine}
use Rattle.scenario_text.specs.declared.scenario.ProducerLine.{ProducerLine}
use Rattle.scenario_text.specs.declared.scenario.Scenario.{Scenario}
use Rattle.scenario_text.specs.Clones.{clones_by, clones_in}
use Rattle.scenario_text.specs.Reach.{IsInReach, NamesBuffer}
use Rattle.scenario_text.specs.Scenario.{IsScenario, Parts}
use Rattle.scenario_text.proofs.ReachLemmas.{scenario_is_in_reach}
use Rattle.chunk_plain.specs.declared.setup.ProducerSpec.{ProducerSpec}
use Rattle.chunk_plain.specs.Laying.{setup_of, sizes_of}
use Rattle.chunk_plain.specs.Setup.{Setup, size_of}
use Rattle.world_model.specs.FirstBuffers as first
use Rattle.world_model.specs.FirstBuffers.{sequences_from, first_buffers}
use Rattle.trace_buffer.specs.declared.answers.BufferSpec.{BufferSpec}
use Rattle.service_core.specs.Agreement.{spec_value}
use Rattle.service_core.specs.Making.{buffer_spec_at}
use Rattle.service_core.specs.Routing.{buffer_at}
use Rattle.replay_model.specs.Clones.{first_of_number}
use Rattle.replay_model.specs.Played.{IsSetupOf, IsSpecOf}
use Rattle.replay_model.proofs.BalanceLemmas.{first_at, get_map}
use Rattle.replay_host.specs.Making.{buffer_asked}
use Rattle.replay_host.proofs.MakingLemmas.{asked_values}

-- ---- two set-ups of one scenario

-- what is made of the same producer lines has chunks of the same sizes
pub same_sizes : (lines : List ProducerLine) (one other : List ProducerSpec) → AllZip IsSpecOf lines one → AllZip IsSpecOf lines other → sizes_of one ≡ sizes_of other
same_sizes [] [] [] first second = refl
same_sizes [] [] (o ∷ other) first second = absurd second
same_sizes [] (p ∷ one) other first second = absurd first
same_sizes (line ∷ lines) [] other first second = absurd first
same_sizes (line ∷ lines) (p ∷ one) [] first second = absurd second
same_sizes (line ∷ lines) (p ∷ one) (o ∷ other) first second =
    let this = first.0 in
    let that = second.0 in
    ap (λ (size : ℕ). payload_size size p.geometry.chunks ∷ sizes_of one) (this.page_size ∙ sym that.page_size)
    ∙ ap (λ (chunks : ℕ). payload_size o.geometry.page_size chunks ∷ sizes_of one) (this.chunks ∙ sym that.chunks)
    ∙ ap (λ (sizes : List ℕ). payload_size o.geometry.page_size o.geometry.chunks ∷ sizes) (same_sizes lines one other first.1 second.1)

-- so a buffer has the same sequences in both
same_from : (one other : Setup) (number place : ℕ) (specs : List WriterSpec) → one.sizes ≡ other.sizes
    → sequences_from one number place specs ≡ sequences_from other number place specs
same_from one other number place [] same = refl
same_from one other number place (spec ∷ specs) same = step (spec.buffer == number) (same_from one other number (suc place) specs same)
  where
    step : (named : Bool) → sequences_from one number (suc place) specs ≡ sequences_from other number (suc place) specs
        → cond named (fresh (place + 2) (record_size (size_of one spec.producer)) spec.from ∷ sequences_from one number (suc place) specs) (sequences_from one number (suc place) specs)
        ≡ cond named (fresh (place + 2) (record_size (size_of other spec.producer)) spec.from ∷ sequences_from other number (suc place) specs) (sequences_from other number (suc place) specs)
    step true rest =
        ap (λ (sizes : List ℕ). fresh (place + 2) (record_size (get_or sizes (spec.producer - 1) 0)) spec.from ∷ sequences_from one number (suc place) specs) same
        ∙ ap (λ (sequences : List Sequence). fresh (place + 2) (record_size (size_of other spec.producer)) spec.from ∷ sequences) rest
    step false rest = rest

-- and the buffers are the same at first
same_first : (one other : Setup) (number : ℕ) (specs : List first.BufferSpec) → one.sizes ≡ other.sizes → one.writers ≡ other.writers
    → first_buffers one number specs ≡ first_buffers other number specs
same_first one other number [] sizes writers = refl
same_first one other number (spec ∷ specs) sizes writers =
    ap (λ (ws : List WriterSpec). empty_buffer spec.size spec.policy (sequences_from one number 0 ws) ∷ first_buffers one (suc number) specs) writers
    ∙ ap (λ (sequences : List Sequence). empty_buffer spec.size spec.policy sequences ∷ first_buffers one (suc number) specs)
    (same_from one other number 0 other.writers sizes)
    ∙ ap (λ (buffers : List Buffer). empty_buffer spec.size spec.policy (sequences_from other number 0 other.writers) ∷ buffers)
    (same_first one other (suc number) specs sizes writers)

-- ---- the clone of one line

-- the buffer with this number, as it is made of its specification
pub made_at : (setup : Setup) (buffers : List BufferSpec) (number : ℕ) (sequences : List Sequence) → 1 ≤ number → number ≤ length buffers
    → sequences ≡ sequences_from setup number 0 setup.writers
    → empty_buffer (buffer_spec_at buffers (number - 1)).size (buffer_spec_at buffers (number - 1)).policy sequences
    ≡ buffer_at (first_buffers setup 1 (map spec_value buffers)) (number - 1)
made_at setup buffers number sequences least most are =
    let spec : BufferSpec = buffer_spec_at buffers (number - 1) in
    let there : slice_get (map spec_value buffers) (number - 1) ≡ Some (spec_value spec) =
    get_map spec_value buffers (number - 1) spec (slice_get-get_or buffers (number - 1) (record { size = 0; policy = Ring }) (omega (arith, least, most))) in
    let counted : 1 + (number - 1) ≡ number = omega (arith, least) in
    ap (empty_buffer spec.size spec.policy) (are ∙ ap (λ (n : ℕ). sequences_from setup n 0 setup.writers) (sym counted))
    ∙ sym (first_at setup 1 (map spec_value buffers) (number - 1) (spec_value spec) there)

-- what is made is that
pub ok_is : {A E : Type 0} (result : Result A E) (x y : A) → IfOk result (λ (made : A). made ≡ x) → x ≡ y → IfOk result (λ (made : A). made ≡ y)
ok_is (Ok made) x y is same = is ∙ same
ok_is (Err fault) x y is same = tt

-- what is made of the set-up lines, as a buffer of whatever set-up of the scenario
pub as_first : (scenario : Parts) (specs : List ProducerSpec) (buffers : List BufferSpec) (writers : List WriterSpec) (number : ℕ)
    → AllZip IsSpecOf scenario.producers specs → buffers ≡ map buffer_asked scenario.buffers → writers ≡ scenario.writers
    → (setup : Setup) → IsSetupOf scenario setup
    → buffer_at (first_buffers (setup_of specs writers) 1 (map spec_value buffers)) (number - 1) ≡ first_of_number scenario setup number
as_first scenario specs buffers writers number made buffers_are writers_are setup is =
    let sizes : (setup_of specs writers).sizes ≡ setup.sizes =
    same_sizes scenario.producers specs is.specs made is.made ∙ ap (λ (s : Setup). s.sizes) (sym is.laid) in
    ap (λ (bs : List BufferSpec). buffer_at (first_buffers (setup_of specs writers) 1 (map spec_value bs)) (number - 1)) buffers_are
    ∙ ap (λ (values : List first.BufferSpec). buffer_at (first_buffers (setup_of specs writers) 1 values) (number - 1)) (asked_values scenario.buffers)
    ∙ ap (λ (bs : List Buffer). buffer_at bs (number - 1))
    (same_first (setup_of specs writers) setup 1 _ sizes (writers_are ∙ ap (λ (s : Setup). s.writers) (sym is.laid)))

-- a line that asks for a clone names a buffer
pub named : (scenario : Scenario) → IsScenario scenario → (before later rest : List NumberedLine) (line : NumberedLine) (number : ℕ)
    → scenario.lines ≡ before ++ later → later ≡ line ∷ rest → line.what ≡ CloneBuffer number → NamesBuffer scenario.buffers.items number
named scenario is before later rest line number split next what =
    subst (λ (kind : LineKind). IsInReach scenario.buffers.items scenario.producers.items scenario.writers.items before kind) what
    (scenario_is_in_reach scenario is before line rest (split ∙ ap (λ (ls : List NumberedLine). before ++ ls) next))

-- ---- the lines behind it

-- the lines before these have one more
pub split_next : (lines before later rest : List NumberedLine) (line : NumberedLine) → lines ≡ before ++ later → later ≡ line ∷ rest
    → lines ≡ (before ++ line ∷ []) ++ rest
split_next lines before later rest line split next =
    split ∙ ap (λ (ls : List NumberedLine). before ++ ls) next ∙ sym (append_assoc before (line ∷ []) rest)

-- one clone more
pub made_next : (first : ℕ → Buffer) (clones now : List Buffer) (one : Buffer) (number : ℕ) (later rest : List NumberedLine) (line : NumberedLine) (all : List Buffer)
    → clones ++ map first (clones_in later) ≡ all → later ≡ line ∷ rest → line.what ≡ CloneBuffer number → one ≡ first number → now ≡ clones ++ one ∷ []
    → now ++ map first (clones_in rest) ≡ all
made_next first clones now one number later rest line all made next what is more =
    ap (λ (bs : List Buffer). bs ++ map first (clones_in rest)) more
    ∙ append_assoc clones (one ∷ []) (map first (clones_in rest))
    ∙ ap (λ (buffer : Buffer). clones ++ buffer ∷ map first (clones_in rest)) is
    ∙ sym (ap (λ (ls : List NumberedLine). clones ++ map first (clones_in ls)) next
    ∙ ap (λ (kind : LineKind). clones ++ map first (clones_by kind ++ clones_in rest)) what)
    ∙ made

-- a line that asks for none
pub made_same : (first : ℕ → Buffer) (clones : List Buffer) (later rest : List NumberedLine) (line : NumberedLine) (all : List Buffer)
    → clones ++ map first (clones_in later) ≡ all → later ≡ line ∷ rest → clones_by line.what ≡ [] → clones ++ map first (clones_in rest) ≡ all
made_same first clones later rest line all made next none =
    sym (ap (λ (ls : List NumberedLine). clones ++ map first (clones_in ls)) next
    ∙ ap (λ (numbers : List ℕ). clones ++ map first (numbers ++ clones_in rest)) none)
    ∙ made
