-- What every scenario's lines name is there, and no line before has closed it.
use Rattle.std.proofs.Common.{◌≡◌, ◌∙◌, ℕ, zero, suc, ◌-◌, ◌<◌, ◌≤◌, nat_eq, length, ◌⊎◌, inl, inr, Bool, true, false, cond, ◌||◌, ◌&&◌, List, [], ◌∷◌, ◌++◌, Option, Some, None, is_none, slice_get, slice_set, refl, sym, subst, ap, arith}
use Rattle.std.specs.List.{list_any}
use Rattle.std.specs.Option.{unwrap_or}
use Rattle.std.proofs.lemmas.Grind.{common_steps}
use Rattle.std.proofs.lemmas.List.{length-append, length-set}
use Rattle.std.proofs.lemmas.List.Folds.{list_any-append}
use Rattle.std.proofs.lemmas.Option.{slice_get_within}
use Rattle.std.proofs.lemmas.Bool.{false_from_ne_true, not-false}
use Rattle.trace_base.specs.declared.limits.TheConstants.{MAX_NUMBER}
use Rattle.trace_base.specs.declared.policy.WriterSpec.{WriterSpec}
use Rattle.field_tree.specs.Nodes.{Shown}
use Rattle.trace_base.specs.declared.numeral.Numeral.{Numeral}
use Rattle.trace_base.specs.declared.numeral.Numeral.TheVariants.{Fits, TooLarge}
use Rattle.scenario_text.specs.declared.form.Form.{Form}
use Rattle.scenario_text.specs.declared.form.Form.TheVariants.{Buffer, Producer, Writer, OfWriter, OfProducer, Read, Request, CloneBuffer, Raw}
use Rattle.scenario_text.specs.declared.form.NamedRaw.{NamedRaw}
use Rattle.scenario_text.specs.declared.form.WriterStep.{WriterStep}
use Rattle.scenario_text.specs.declared.form.WriterStep.TheVariants.{Packet, Begin, Add, Nest, Unnest, End, Flush}
use Rattle.scenario_text.specs.declared.form.ProducerStep.{ProducerStep}
use Rattle.scenario_text.specs.declared.form.ProducerStep.TheVariants.{Collect, Scrape, Close}
use Rattle.scenario_text.specs.declared.scenario.BufferLine.{BufferLine}
use Rattle.scenario_text.specs.declared.scenario.ProducerLine.{ProducerLine}
use Rattle.scenario_text.specs.declared.scenario.LineKind.{LineKind}
use Rattle.scenario_text.specs.declared.scenario.LineKind.TheVariants as kinds
use Rattle.scenario_text.specs.declared.scenario.NumberedLine.{NumberedLine}
use Rattle.scenario_text.specs.declared.scenario.Scenario.{Scenario}
use Rattle.scenario_text.specs.Items.{item, with_item}
use Rattle.scenario_text.specs.Forms.{form_of}
use Rattle.scenario_text.specs.RawForms.{payload_part}
use Rattle.scenario_text.specs.RawChunks.{chunk_by}
use Rattle.scenario_text.specs.Ranges.{fits, value}
use Rattle.scenario_text.specs.State.{State, beginning, is_closed}
use Rattle.scenario_text.specs.Reasons.{front_reasons, back_reasons, refusal_of, given, is_limit, is_out_of_range, lacks_producer, lacks_buffer, lacks_writer, is_closed_for, has_closed_producer}
use Rattle.scenario_text.specs.Effects.{policy_of, moved, nodes_given, written, served, with_line, with_packet, with_closed, with_bytes, writer_kind, producer_kind, limit_of, with_clone, first_id}
use Rattle.scenario_text.specs.Scenario.{Parts, IsScenario}
use Rattle.scenario_text.specs.Accepted.{closes, is_closed_by}
use Rattle.scenario_text.specs.Reach.{NamesWriter, NamesProducer, NamesBuffer, ReadsBuffer, IsInReach, AreInReach}
use Rattle.scenario_text.proofs.SoundLemmas.{both}
use Rattle.scenario_text.proofs.FrontLemmas.{IsPassed, passed, within_least, within_most}
use Rattle.scenario_text.proofs.LimitLemmas.{KeepsLimits, limits_kept, named, nothing_kept}
use Rattle.scenario_text.proofs.RawLemmas.{payload_is}
use Rattle.scenario_text.proofs.ChunkReach.{more_named, chunk_more_writers, chunk_more_producers, chunk_more_buffers, chunk_in_reach}
use Rattle.scenario_text.proofs.StateLemmas.{first_none, scenario_holds}

-- Of each producer that a line has closed the state says so, and what the lines name is there.
record IsReaching (state : State) : Type 0 where
  many : length state.closed ≡ length state.producers
  known : (producer : ℕ) → is_closed_by state.lines producer ≡ true → is_closed state (Fits producer) ≡ true
  each : AreInReach state.buffers state.producers state.writers state.lines

-- ---- lines, and one more behind them

-- the last of the lines, or one before
abbrev SplitsEarlier : List NumberedLine → NumberedLine → List NumberedLine → NumberedLine → Type 0
SplitsEarlier lines new before line =
    ((lines ≡ before) × (new ≡ line)) ⊎ ((rest : List NumberedLine) × (lines ≡ before ++ line ∷ rest))

nothing_split : (before : List NumberedLine) (line : NumberedLine) (after : List NumberedLine) → [] ≡ before ++ line ∷ after → ⊥
nothing_split [] line after is = cc
nothing_split (first ∷ before) line after is = cc

split_push : (lines : List NumberedLine) (new : NumberedLine) (before : List NumberedLine) (line : NumberedLine) (after : List NumberedLine)
    → lines ++ new ∷ [] ≡ before ++ line ∷ after → SplitsEarlier lines new before line
split_push [] new [] line after is = inl (refl, cc)
split_push [] new (first ∷ before) line after is = absurd (nothing_split before line after cc)
split_push (top ∷ lines) new [] line after is =
    let same : top ≡ line = cc in inr (lines, ap (λ (l : NumberedLine). l ∷ lines) same)
split_push (top ∷ lines) new (first ∷ before) line after is =
    let same : top ≡ first = cc in
    let more : lines ++ new ∷ [] ≡ before ++ line ∷ after = cc in
    later same (split_push lines new before line after more)
  where
    later : top ≡ first → SplitsEarlier lines new before line → SplitsEarlier (top ∷ lines) new (first ∷ before) line
    later same (inl last) = inl (ap (λ (l : NumberedLine). l ∷ lines) same ∙ ap (λ (ls : List NumberedLine). first ∷ ls) last.0, last.1)
    later same (inr earlier) = inr (earlier.0, ap (λ (l : NumberedLine). l ∷ lines) same ∙ ap (λ (ls : List NumberedLine). first ∷ ls) earlier.1)

reach_push : (buffers : List BufferLine) (producers : List ProducerLine) (writers : List WriterSpec) (lines : List NumberedLine) (new : NumberedLine)
    → AreInReach buffers producers writers lines → IsInReach buffers producers writers lines new.what
    → AreInReach buffers producers writers (lines ++ new ∷ [])
reach_push buffers producers writers lines new all one = λ before line after is. by_place before line (split_push lines new before line after is)
  where
    by_place : (before : List NumberedLine) (line : NumberedLine) → SplitsEarlier lines new before line → IsInReach buffers producers writers before line.what
    by_place before line (inl last) =
        subst (λ (ls : List NumberedLine). IsInReach buffers producers writers ls line.what) last.0
        (subst (λ (l : NumberedLine). IsInReach buffers producers writers lines l.what) last.1 one)
    by_place before line (inr earlier) = all before line earlier.0 earlier.1

-- ---- more buffers, producers or writers

reach_writer : (buffers : List BufferLine) (producers : List ProducerLine) (writers : List WriterSpec) (writer : WriterSpec) (before : List NumberedLine)
    (kind : LineKind) → IsInReach buffers producers writers before kind → IsInReach buffers producers (writers ++ writer ∷ []) before kind
reach_writer buffers producers writers writer before (kinds.Packet number fields) names = more_named writers writer before number names
reach_writer buffers producers writers writer before (kinds.Begin number) names = more_named writers writer before number names
reach_writer buffers producers writers writer before (kinds.Add number fields) names = more_named writers writer before number names
reach_writer buffers producers writers writer before (kinds.Nest number field) names = more_named writers writer before number names
reach_writer buffers producers writers writer before (kinds.Unnest number) names = more_named writers writer before number names
reach_writer buffers producers writers writer before (kinds.End number) names = more_named writers writer before number names
reach_writer buffers producers writers writer before (kinds.Flush number) names = more_named writers writer before number names
reach_writer buffers producers writers writer before (kinds.Collect producer) names = names
reach_writer buffers producers writers writer before (kinds.Scrape producer) names = names
reach_writer buffers producers writers writer before (kinds.Close producer) names = names
reach_writer buffers producers writers writer before (kinds.Read buffer limit) names = names
reach_writer buffers producers writers writer before kinds.Request names = names
reach_writer buffers producers writers writer before (kinds.CloneBuffer buffer) names = names
reach_writer buffers producers writers writer before (kinds.Raw number chunk) names =
    chunk_more_writers buffers producers writers writer before number chunk names

more_producers : (producers : List ProducerLine) (producer : ProducerLine) (before : List NumberedLine) (number : ℕ)
    → NamesProducer producers before number → NamesProducer (producers ++ producer ∷ []) before number
more_producers producers producer before number names = record {
  least = names.least;
  most = omega (arith, names.most, length-append producers (producer ∷ []));
  opened = names.opened;
}

reach_producer : (buffers : List BufferLine) (producers : List ProducerLine) (writers : List WriterSpec) (producer : ProducerLine)
    (before : List NumberedLine) (kind : LineKind) → IsInReach buffers producers writers before kind
    → IsInReach buffers (producers ++ producer ∷ []) writers before kind
reach_producer buffers producers writers producer before (kinds.Packet number fields) names = names
reach_producer buffers producers writers producer before (kinds.Begin number) names = names
reach_producer buffers producers writers producer before (kinds.Add number fields) names = names
reach_producer buffers producers writers producer before (kinds.Nest number field) names = names
reach_producer buffers producers writers producer before (kinds.Unnest number) names = names
reach_producer buffers producers writers producer before (kinds.End number) names = names
reach_producer buffers producers writers producer before (kinds.Flush number) names = names
reach_producer buffers producers writers producer before (kinds.Collect number) names = more_producers producers producer before number names
reach_producer buffers producers writers producer before (kinds.Scrape number) names = more_producers producers producer before number names
reach_producer buffers producers writers producer before (kinds.Close number) names = more_producers producers producer before number names
reach_producer buffers producers writers producer before (kinds.Read buffer limit) names = names
reach_producer buffers producers writers producer before kinds.Request names = names
reach_producer buffers producers writers producer before (kinds.CloneBuffer buffer) names = names
reach_producer buffers producers writers producer before (kinds.Raw number chunk) names =
    chunk_more_producers buffers producers writers producer before number chunk names

reach_buffer : (buffers : List BufferLine) (producers : List ProducerLine) (writers : List WriterSpec) (buffer : BufferLine)
    (before : List NumberedLine) (kind : LineKind) → IsInReach buffers producers writers before kind
    → IsInReach (buffers ++ buffer ∷ []) producers writers before kind
reach_buffer buffers producers writers buffer before (kinds.Packet number fields) names = names
reach_buffer buffers producers writers buffer before (kinds.Begin number) names = names
reach_buffer buffers producers writers buffer before (kinds.Add number fields) names = names
reach_buffer buffers producers writers buffer before (kinds.Nest number field) names = names
reach_buffer buffers producers writers buffer before (kinds.Unnest number) names = names
reach_buffer buffers producers writers buffer before (kinds.End number) names = names
reach_buffer buffers producers writers buffer before (kinds.Flush number) names = names
reach_buffer buffers producers writers buffer before (kinds.Collect number) names = names
reach_buffer buffers producers writers buffer before (kinds.Scrape number) names = names
reach_buffer buffers producers writers buffer before (kinds.Close number) names = names
reach_buffer buffers producers writers buffer before (kinds.Read number limit) names = record {
  least = names.least;
  most = omega (arith, names.most, length-append buffers (buffer ∷ []));
  some_packets = names.some_packets;
  counted = names.counted;
}
reach_buffer buffers producers writers buffer before kinds.Request names = names
reach_buffer buffers producers writers buffer before (kinds.Raw number chunk) names =
    chunk_more_buffers buffers producers writers buffer before number chunk names
reach_buffer buffers producers writers buffer before (kinds.CloneBuffer number) names = record {
  least = names.least;
  most = omega (arith, names.most, length-append buffers (buffer ∷ []));
}

-- ---- which producers are closed

no_both : {b : Bool} → b ≡ true → b ≡ false → ⊥
no_both is none = cc

-- a producer that the state doesn't call closed wasn't closed by a line
opened_before : (state : State) (producer : ℕ) → IsReaching state → is_closed state (Fits producer) ≡ false → is_closed_by state.lines producer ≡ false
opened_before state producer reaching open_is =
    false_from_ne_true (is_closed_by state.lines producer) (λ closed. no_both (reaching.known producer closed) open_is)

either : (a b : Bool) → (a || b) ≡ true → (a ≡ true) ⊎ (b ≡ true)
either true b is = inl refl
either false b is = inr is

-- one of the lines has closed it, or the last one does
closed_of : (lines : List NumberedLine) (new : NumberedLine) (producer : ℕ) → is_closed_by (lines ++ new ∷ []) producer ≡ true
    → (is_closed_by lines producer ≡ true) ⊎ (closes producer new.what ≡ true)
closed_of lines new producer is =
    let test = λ (l : NumberedLine). closes producer l.what in
    last (either (is_closed_by lines producer) (list_any test (new ∷ [])) (sym (list_any-append test lines (new ∷ [])) ∙ is))
  where
    last : (is_closed_by lines producer ≡ true) ⊎ (list_any (λ (l : NumberedLine). closes producer l.what) (new ∷ []) ≡ true)
        → (is_closed_by lines producer ≡ true) ⊎ (closes producer new.what ≡ true)
    last (inl before) = inl before
    last (inr now) = by_case (either (closes producer new.what) false now)
      where
        by_case : (closes producer new.what ≡ true) ⊎ (false ≡ true) → (is_closed_by lines producer ≡ true) ⊎ (closes producer new.what ≡ true)
        by_case (inl is) = inr is
        by_case (inr never) = absurd cc

-- a line that closes nothing
closed_same : (lines : List NumberedLine) (new : NumberedLine) (producer : ℕ) → closes producer new.what ≡ false
    → is_closed_by (lines ++ new ∷ []) producer ≡ true → is_closed_by lines producer ≡ true
closed_same lines new producer none is = by_case (closed_of lines new producer is)
  where
    by_case : (is_closed_by lines producer ≡ true) ⊎ (closes producer new.what ≡ true) → is_closed_by lines producer ≡ true
    by_case (inl before) = before
    by_case (inr now) = absurd (no_both now none)

set_keeps : (closed : List Bool) (at place : ℕ) → unwrap_or (slice_get closed place) false ≡ true
    → unwrap_or (slice_get (slice_set closed at true) place) false ≡ true
set_keeps [] at place is = is
set_keeps (first ∷ closed) zero zero is = refl
set_keeps (first ∷ closed) zero (suc place) is = is
set_keeps (first ∷ closed) (suc at) zero is = is
set_keeps (first ∷ closed) (suc at) (suc place) is = set_keeps closed at place is

set_there : (closed : List Bool) (at : ℕ) → at < length closed → unwrap_or (slice_get (slice_set closed at true) at) false ≡ true
set_there [] at inside = absurd (omega (arith, inside))
set_there (first ∷ closed) zero inside = refl
set_there (first ∷ closed) (suc at) inside = set_there closed at (omega (arith, inside))

push_keeps : (closed : List Bool) (place : ℕ) → unwrap_or (slice_get closed place) false ≡ true
    → unwrap_or (slice_get (closed ++ false ∷ []) place) false ≡ true
push_keeps [] place is = cc
push_keeps (first ∷ closed) zero is = is
push_keeps (first ∷ closed) (suc place) is = push_keeps closed place is

pushed_at : (none_is : Bool) (closed : List Bool) (producer : ℕ) → unwrap_or (cond none_is None (slice_get closed (producer - 1))) false ≡ true
    → unwrap_or (cond none_is None (slice_get (closed ++ false ∷ []) (producer - 1))) false ≡ true
pushed_at true closed producer is = is
pushed_at false closed producer is = push_keeps closed (producer - 1) is

closed_stays_at : (zero_is none_is : Bool) (closed : List Bool) (n producer : ℕ)
    → unwrap_or (cond none_is None (slice_get closed (producer - 1))) false ≡ true
    → unwrap_or (cond none_is None (slice_get (cond zero_is closed (slice_set closed (n - 1) true)) (producer - 1))) false ≡ true
closed_stays_at zero_is true closed n producer is = is
closed_stays_at true false closed n producer is = is
closed_stays_at false false closed n producer is = set_keeps closed (n - 1) (producer - 1) is

closed_stays : (closed : List Bool) (number : Numeral) (producer : ℕ) → unwrap_or (item closed (Fits producer)) false ≡ true
    → unwrap_or (item (with_item closed number true) (Fits producer)) false ≡ true
unfolding item with_item
closed_stays closed (Fits n) producer is = closed_stays_at (nat_eq n 0) (nat_eq producer 0) closed n producer is
closed_stays closed TooLarge producer is = is

closed_there_at : (zero_is : Bool) (closed : List Bool) (n : ℕ) → nat_eq n 0 ≡ zero_is → 1 ≤ n → n ≤ length closed
    → unwrap_or (cond zero_is None (slice_get (cond zero_is closed (slice_set closed (n - 1) true)) (n - 1))) false ≡ true
closed_there_at true closed n is least most = grind (arith, common_steps, is, least)
closed_there_at false closed n is least most = set_there closed (n - 1) (omega (arith, least, most))

closed_there : (closed : List Bool) (number : Numeral) → 1 ≤ value number → value number ≤ length closed
    → unwrap_or (item (with_item closed number true) (Fits (value number))) false ≡ true
unfolding item with_item value
closed_there closed (Fits n) least most = closed_there_at (nat_eq n 0) closed n refl least most
closed_there closed TooLarge least most = absurd (omega (arith, least))

-- ---- what a line names

named_fits : {X : Type 0} (things : List X) (number : Numeral) → is_none (item things number) ≡ false → number ≡ Fits (value number)
unfolding item value
named_fits things (Fits n) some = refl
named_fits things TooLarge some = absurd cc

writer_there : (state : State) (writer : Numeral) → is_none (item state.writers writer) ≡ false
    → is_closed_for state (item state.writers writer) ≡ false → IsReaching state → NamesWriter state.writers state.lines (value writer)
unfolding is_closed_for
writer_there state writer there open_is reaching =
    let n = named state.writers writer there in
    let opened : is_closed state (Fits n.thing.producer) ≡ false =
    subst (λ (found : Option WriterSpec). is_closed_for state found ≡ false) n.item_is open_is in
    record { least = n.counted; spec = n.thing; there = n.is; opened = opened_before state n.thing.producer reaching opened }

writer_in_reach : (state : State) (writer : Numeral) (step : WriterStep) → IsPassed state (OfWriter writer step) → IsReaching state
    → NamesWriter state.writers state.lines (value writer)
unfolding lacks_writer has_closed_producer
writer_in_reach state writer step pass reaching = writer_there state writer pass.writer pass.opened reaching

raw_writer_in_reach : (state : State) (raw : NamedRaw) → IsPassed state (Raw raw) → IsReaching state
    → NamesWriter state.writers state.lines (value raw.writer)
unfolding lacks_writer has_closed_producer
raw_writer_in_reach state raw pass reaching = writer_there state raw.writer pass.writer pass.opened reaching

producer_in_reach : (state : State) (producer : Numeral) (step : ProducerStep) → IsPassed state (OfProducer producer step) → IsReaching state
    → NamesProducer state.producers state.lines (value producer)
unfolding lacks_producer has_closed_producer
producer_in_reach state producer step pass reaching =
    let n = named state.producers producer pass.producer in
    let opened : is_closed state (Fits (value producer)) ≡ false =
    subst (λ (p : Numeral). is_closed state p ≡ false) (named_fits state.producers producer pass.producer) pass.opened in
    record {
      least = n.counted;
      most = omega (arith, n.counted, slice_get_within state.producers (value producer - 1) n.thing n.is);
      opened = opened_before state (value producer) reaching opened;
    }

limit_least : (limit : Option Numeral) → is_limit limit ≡ true → 1 ≤ limit_of limit
unfolding is_limit limit_of
limit_least None is = omega arith
limit_least (Some limit) is = within_least 1 MAX_NUMBER limit is

limit_most : (limit : Option Numeral) → is_limit limit ≡ true → limit_of limit ≤ MAX_NUMBER
unfolding is_limit limit_of
limit_most None is = omega arith
limit_most (Some limit) is = within_most 1 MAX_NUMBER limit is

buffer_in_reach : (state : State) (buffer : Numeral) (limit : Option Numeral) → IsPassed state (Read buffer limit)
    → ReadsBuffer state.buffers (value buffer) (limit_of limit)
unfolding lacks_buffer is_out_of_range
buffer_in_reach state buffer limit pass =
    let n = named state.buffers buffer pass.buffer in
    let in_range = both (fits buffer) (is_limit limit) (not-false (fits buffer && is_limit limit) pass.in_range) in
    record {
      least = n.counted;
      most = omega (arith, n.counted, slice_get_within state.buffers (value buffer - 1) n.thing n.is);
      some_packets = limit_least limit in_range.1;
      counted = limit_most limit in_range.1;
    }

clone_in_reach : (state : State) (buffer : Numeral) → IsPassed state (CloneBuffer buffer) → NamesBuffer state.buffers (value buffer)
unfolding lacks_buffer
clone_in_reach state buffer pass =
    let n = named state.buffers buffer pass.buffer in
    record { least = n.counted; most = omega (arith, n.counted, slice_get_within state.buffers (value buffer - 1) n.thing n.is) }

-- ---- one line

-- a line that closes nothing, and names what is there
reach_line : (state : State) (number : ℕ) (kind : LineKind) → ((producer : ℕ) → closes producer kind ≡ false)
    → IsInReach state.buffers state.producers state.writers state.lines kind → IsReaching state → IsReaching (with_line state number kind)
unfolding with_line is_closed
reach_line state number kind none one reaching = record {
  many = reaching.many;
  known = λ producer closed. reaching.known producer (closed_same state.lines (record { line = number; what = kind }) producer (none producer) closed);
  each = reach_push state.buffers state.producers state.writers state.lines (record { line = number; what = kind }) reaching.each one;
}

writer_closes : (producer writer : ℕ) (step : WriterStep) (nodes : List Shown) → closes producer (writer_kind writer step nodes) ≡ false
unfolding writer_kind closes
writer_closes producer writer (Packet has_fields) nodes = refl
writer_closes producer writer Begin nodes = refl
writer_closes producer writer Add nodes = refl
writer_closes producer writer (Nest field) nodes = refl
writer_closes producer writer Unnest nodes = refl
writer_closes producer writer End nodes = refl
writer_closes producer writer Flush nodes = refl

writer_reaches : (buffers : List BufferLine) (producers : List ProducerLine) (writers : List WriterSpec) (before : List NumberedLine) (writer : ℕ)
    (step : WriterStep) (nodes : List Shown) → NamesWriter writers before writer → IsInReach buffers producers writers before (writer_kind writer step nodes)
unfolding writer_kind
writer_reaches buffers producers writers before writer (Packet has_fields) nodes names = names
writer_reaches buffers producers writers before writer Begin nodes names = names
writer_reaches buffers producers writers before writer Add nodes names = names
writer_reaches buffers producers writers before writer (Nest field) nodes names = names
writer_reaches buffers producers writers before writer Unnest nodes names = names
writer_reaches buffers producers writers before writer End nodes names = names
writer_reaches buffers producers writers before writer Flush nodes names = names

writer_keeps : (state : State) (number : ℕ) (line : List ℕ) (writer : Numeral) (step : WriterStep) (nodes : List Shown)
    → IsPassed state (OfWriter writer step) → IsReaching state → IsReaching (moved state number line (OfWriter writer step) nodes)
unfolding moved written with_bytes with_packet with_line is_closed
writer_keeps state number line writer step nodes pass reaching =
    let kind = writer_kind (value writer) step nodes in
    let with = reach_line state number kind (λ producer. writer_closes producer (value writer) step nodes)
    (writer_reaches state.buffers state.producers state.writers state.lines (value writer) step nodes (writer_in_reach state writer step pass reaching)) reaching in
    record { many = with.many; known = with.known; each = with.each }

close_keeps : (state : State) (number : ℕ) (producer : Numeral) → IsPassed state (OfProducer producer Close) → IsReaching state
    → IsReaching (with_closed (with_line state number (producer_kind (value producer) Close)) producer)
unfolding with_closed with_line with_item producer_kind is_closed closes
close_keeps state number producer pass reaching =
    let line : NumberedLine = record { line = number; what = kinds.Close (value producer) } in
    let names = producer_in_reach state producer Close pass reaching in
    record {
      many = with_many producer;
      known = λ other closed. by_case other names (closed_of state.lines line other closed);
      each = reach_push state.buffers state.producers state.writers state.lines line reaching.each names;
    }
  where
    with_many : (n : Numeral) → length (with_item state.closed n true) ≡ length state.producers
    with_many (Fits n) = many_at (nat_eq n 0) n
      where
        many_at : (zero_is : Bool) (n : ℕ) → length (cond zero_is state.closed (slice_set state.closed (n - 1) true)) ≡ length state.producers
        many_at true n = reaching.many
        many_at false n = length-set state.closed (n - 1) true ∙ reaching.many
    with_many TooLarge = reaching.many

    by_case : (other : ℕ) → NamesProducer state.producers state.lines (value producer)
        → (is_closed_by state.lines other ≡ true) ⊎ (nat_eq other (value producer) ≡ true)
        → unwrap_or (item (with_item state.closed producer true) (Fits other)) false ≡ true
    by_case other names (inl before) = closed_stays state.closed producer other (reaching.known other before)
    by_case other names (inr now) =
        let same : value producer ≡ other = grind (arith, common_steps, now) in
        subst (λ (n : ℕ). unwrap_or (item (with_item state.closed producer true) (Fits n)) false ≡ true) same
        (closed_there state.closed producer names.least (omega (arith, names.most, reaching.many)))

producer_keeps : (state : State) (number : ℕ) (producer : Numeral) (step : ProducerStep) → IsPassed state (OfProducer producer step) → IsReaching state
    → IsReaching (served (with_line state number (producer_kind (value producer) step)) producer step)
unfolding served producer_kind closes
producer_keeps state number producer Collect pass reaching =
    reach_line state number (kinds.Collect (value producer)) (λ other. refl) (producer_in_reach state producer Collect pass reaching) reaching
producer_keeps state number producer Scrape pass reaching =
    reach_line state number (kinds.Scrape (value producer)) (λ other. refl) (producer_in_reach state producer Scrape pass reaching) reaching
producer_keeps state number producer Close pass reaching = close_keeps state number producer pass reaching

moved_keeps : (state : State) (number : ℕ) (line : List ℕ) (form : Form) (nodes : List Shown) → form_of line ≡ Some form
    → IsPassed state form
    → KeepsLimits state → IsReaching state
    → IsReaching (moved state number line form nodes)
unfolding moved with_clone is_closed item closes
moved_keeps state number line (Buffer kb policy) nodes formed pass keeps reaching =
    let buffer : BufferLine = record { kb = value kb; policy = policy } in
    record {
      many = reaching.many;
      known = reaching.known;
      each = λ before line after is. reach_buffer state.buffers state.producers state.writers buffer before line.what (reaching.each before line after is);
    }
moved_keeps state number line (Producer pages page_size chunks) nodes formed pass keeps reaching =
    let producer : ProducerLine = record { pages = value pages; page_size = value page_size; chunks = value chunks } in
    record {
      many = omega (arith, length-append state.closed (false ∷ []), length-append state.producers (producer ∷ []), reaching.many);
      known = λ other closed. pushed_at (nat_eq other 0) state.closed other (reaching.known other closed);
      each = λ before line after is. reach_producer state.buffers state.producers state.writers producer before line.what (reaching.each before line after is);
    }
moved_keeps state number line (Writer producer buffer policy from) nodes formed pass keeps reaching =
    let writer : WriterSpec = record { producer = value producer; buffer = value buffer; policy = policy_of policy; from = first_id from } in
    record {
      many = reaching.many;
      known = reaching.known;
      each = λ before line after is. reach_writer state.buffers state.producers state.writers writer before line.what (reaching.each before line after is);
    }
moved_keeps state number line (OfWriter writer step) nodes formed pass keeps reaching =
    writer_keeps state number line writer step nodes pass reaching
moved_keeps state number line (OfProducer producer step) nodes formed pass keeps reaching =
    producer_keeps state number producer step pass reaching
moved_keeps state number line (Read buffer limit) nodes formed pass keeps reaching =
    reach_line state number (kinds.Read (value buffer) (limit_of limit)) (λ other. refl) (buffer_in_reach state buffer limit pass) reaching
moved_keeps state number line Request nodes formed pass keeps reaching = reach_line state number kinds.Request (λ other. refl) tt reaching
moved_keeps state number line (Raw raw) nodes formed pass keeps reaching =
    let payload = payload_part line in
    reach_line state number (kinds.Raw (value raw.writer) (chunk_by raw payload)) (λ other. refl)
    (chunk_in_reach state raw payload (raw_writer_in_reach state raw pass reaching) pass keeps (payload_is line raw formed)) reaching
moved_keeps state number line (CloneBuffer buffer) nodes formed pass keeps reaching =
    let with = reach_line state number (kinds.CloneBuffer (value buffer)) (λ other. refl) (clone_in_reach state buffer pass) reaching in
    record { many = with.many; known = with.known; each = with.each }

-- what is kept beside the limits of the set-up
abbrev Reaches : State → Type 0
Reaches state = KeepsLimits state × IsReaching state

line_keeps : (state : State) (number : ℕ) (line : List ℕ) (form : Form) → form_of line ≡ Some form → refusal_of state line form ≡ None
    → Reaches state → Reaches (moved state number line form (nodes_given (given state line form)))
unfolding refusal_of
line_keeps state number line form formed none holds = (
  limits_kept state number line form none holds.0,
  moved_keeps state number line form (nodes_given (given state line form)) formed
      (passed state form (first_none (front_reasons state form) (back_reasons state line form) none).0) holds.0 holds.1,
)

nothing_reached : IsReaching beginning
nothing_reached = record {
  many = refl;
  known = λ producer closed. cc;
  each = λ before line after is. absurd (nothing_split before line after is);
}

-- ---- every scenario

pub scenario_is_in_reach : (scenario : Scenario) → IsScenario scenario
    → AreInReach scenario.buffers.items scenario.producers.items scenario.writers.items scenario.lines
scenario_is_in_reach scenario is =
    let end = scenario_holds Reaches line_keeps (nothing_kept, nothing_reached) scenario is in
    subst (λ (parts : Parts). AreInReach parts.buffers parts.producers parts.writers parts.lines) end.says end.holds.1.each
