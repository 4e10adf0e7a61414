-- A writer accepts what every scenario asks of it, and spells trees by it.
use Rattle.std.proofs.Common.{◌≡◌, ◌≢◌, ◌∙◌, ℕ, zero, suc, ◌+◌, ◌-◌, ◌<◌, ◌≤◌, nat_eq, length, Bool, true, false, cond, List, [], ◌∷◌, ◌++◌, Option, Some, None, Result, is_none, nat_lt, slice_get, slice_set, refl, sym, subst, ap, arith}
use Rattle.std.specs.Prelude.{fold}
use Rattle.std.specs.List.{list_any}
use Rattle.std.specs.Option.{unwrap_or}
use Rattle.std.proofs.lemmas.Grind.{common_steps, flat_map-append}
use Rattle.std.proofs.lemmas.List.{append-nil, length-append, length-set}
use Rattle.std.proofs.lemmas.List.Folds.{list_any-append}
use Rattle.std.proofs.lemmas.Bool.{eqb-false, ne_eqb, false_from_ne_true, or_left, or_right}
use Rattle.std.proofs.Math.Dec.{eqb-suc-zero}
use Rattle.std.proofs.lemmas.Option.{slice_get_within}
use Rattle.trace_base.specs.declared.policy.WriterSpec.{WriterSpec}
use Rattle.trace_model.specs.Calls.{Call}
use Rattle.trace_model.specs.Packets.{nothing_yet, noted, packets_of, is_writing}
use Rattle.field_tree.specs.declared.fault.FieldFault.{FieldFault}
use Rattle.field_tree.specs.Nodes.{Shown}
use Rattle.trace_base.specs.declared.numeral.Numeral.{Numeral}
use Rattle.trace_base.specs.declared.numeral.Numeral.TheVariants.{Fits, TooLarge}
use Rattle.scenario_text.specs.declared.form.Form.{Form}
use Rattle.scenario_text.specs.declared.form.Form.TheVariants.{Buffer, Producer, Writer, OfWriter, OfProducer, Read, Request, CloneBuffer, Raw}
use Rattle.scenario_text.specs.declared.form.WriterStep.{WriterStep}
use Rattle.scenario_text.specs.declared.form.WriterStep.TheVariants.{Packet, Begin, Add, Nest, Unnest, End, Flush}
use Rattle.scenario_text.specs.declared.form.ProducerStep.{ProducerStep}
use Rattle.scenario_text.specs.declared.form.ProducerStep.TheVariants.{Collect, Scrape, Close}
use Rattle.scenario_text.specs.declared.open_packet.OpenPacket.{OpenPacket}
use Rattle.scenario_text.specs.declared.scenario.LineKind.{LineKind}
use Rattle.scenario_text.specs.declared.scenario.NumberedLine.{NumberedLine}
use Rattle.scenario_text.specs.declared.scenario.Scenario.{Scenario}
use Rattle.scenario_text.specs.Items.{item, with_item}
use Rattle.scenario_text.specs.Ranges.{value}
use Rattle.scenario_text.specs.State.{State, beginning, packet_of, is_closed}
use Rattle.scenario_text.specs.Reasons.{front_reasons, back_reasons, refusal_of, given, lacks_writer, step_len}
use Rattle.scenario_text.specs.Effects.{policy_of, moved, nodes_given, written, served, with_line, with_packet, with_closed, with_bytes, writer_kind, producer_kind, packet_after, with_clone, first_id}
use Rattle.scenario_text.specs.Grammar.{earlier, line_left, first_left}
use Rattle.scenario_text.specs.Scenario.{Parts, IsScenario}
use Rattle.scenario_text.specs.Accepted.{line_calls, calls_asked, closes, is_closed_by, AsksWell}
use Rattle.scenario_text.specs.Spelled.{ScenariosSpellTrees}
use Rattle.scenario_text.proofs.FrontLemmas.{IsPassed, passed}
use Rattle.scenario_text.proofs.StateLemmas.{first_none, scenario_holds}
use Rattle.scenario_text.proofs.AcceptedCalls.{Stands, LeadTo, lead_on, leads_nowhere}
use Rattle.scenario_text.proofs.AcceptedLines.{step_calls, line_given, line_leads}
use Rattle.scenario_text.proofs.SpelledLemmas.{accepted_spells, accepted_passes}

-- What has been asked of the writer whose packet stands so: all of it is accepted. Nothing has been asked of one that isn't there.
abbrev Told : Option (Option OpenPacket) → List Call → Type 0
Told None calls = calls ≡ []
Told (Some packet) calls = LeadTo nothing_yet calls packet

record IsTold (state : State) : Type 0 where
  many : length state.packets ≡ length state.writers
  each : (place : ℕ) → Told (slice_get state.packets place) (calls_asked (suc place) state.lines)
  shut : (producer : ℕ) → is_closed state (Fits producer) ≡ true → is_closed_by state.lines producer ≡ true

-- ---- lines

pub calls_more : (number : ℕ) (lines : List NumberedLine) (line : NumberedLine)
    → calls_asked number (lines ++ line ∷ []) ≡ calls_asked number lines ++ line_calls number line.what
calls_more number lines line =
    flat_map-append (λ (l : NumberedLine). line_calls number l.what) lines (line ∷ [])
    ∙ ap (λ (calls : List Call). calls_asked number lines ++ calls) (append-nil (line_calls number line.what))

-- a line that asks nothing of the writer
calls_same : (number : ℕ) (lines : List NumberedLine) (line : NumberedLine) → line_calls number line.what ≡ []
    → calls_asked number (lines ++ line ∷ []) ≡ calls_asked number lines
calls_same number lines line none =
    calls_more number lines line ∙ ap (λ (calls : List Call). calls_asked number lines ++ calls) none ∙ append-nil (calls_asked number lines)

own_at : (own : Bool) (number : ℕ) (step : WriterStep) (nodes : List Shown) → nat_eq number number ≡ own
    → line_calls number (writer_kind number step nodes) ≡ step_calls step nodes
unfolding writer_kind line_calls
own_at true number (Packet has_fields) nodes is = rw is refl
own_at true number Begin nodes is = rw is refl
own_at true number Add nodes is = rw is refl
own_at true number (Nest field) nodes is = rw is refl
own_at true number Unnest nodes is = rw is refl
own_at true number End nodes is = rw is refl
own_at true number Flush nodes is = rw is refl
own_at false number step nodes is = absurd (eqb-false number number is refl)

own_calls : (number : ℕ) (step : WriterStep) (nodes : List Shown) → line_calls number (writer_kind number step nodes) ≡ step_calls step nodes
own_calls number step nodes = own_at (nat_eq number number) number step nodes refl

other_calls : (number writer : ℕ) (step : WriterStep) (nodes : List Shown) → nat_eq number writer ≡ false
    → line_calls number (writer_kind writer step nodes) ≡ []
unfolding writer_kind line_calls
other_calls number writer (Packet has_fields) nodes is = rw is refl
other_calls number writer Begin nodes is = rw is refl
other_calls number writer Add nodes is = rw is refl
other_calls number writer (Nest field) nodes is = rw is refl
other_calls number writer Unnest nodes is = rw is refl
other_calls number writer End nodes is = rw is refl
other_calls number writer Flush nodes is = rw is refl

producer_calls : (number producer : ℕ) (step : ProducerStep) → line_calls number (producer_kind producer step) ≡ []
unfolding producer_kind line_calls
producer_calls number producer Collect = refl
producer_calls number producer Scrape = refl
producer_calls number producer Close = refl

-- ---- what lines have closed

closed_before : (lines : List NumberedLine) (line : NumberedLine) (producer : ℕ) → is_closed_by lines producer ≡ true
    → is_closed_by (lines ++ line ∷ []) producer ≡ true
closed_before lines line producer is =
    let test = λ (l : NumberedLine). closes producer l.what in
    list_any-append test lines (line ∷ []) ∙ or_left (list_any test lines) (list_any test (line ∷ [])) is

closed_now : (lines : List NumberedLine) (line : NumberedLine) (producer : ℕ) → closes producer line.what ≡ true
    → is_closed_by (lines ++ line ∷ []) producer ≡ true
closed_now lines line producer is =
    let test = λ (l : NumberedLine). closes producer l.what in
    list_any-append test lines (line ∷ []) ∙ or_right (list_any test lines) (list_any test (line ∷ [])) (or_left (closes producer line.what) false is)

-- ---- the packets of writers

told_pushed : (packets : List (Option OpenPacket)) (place : ℕ) (calls : List Call) → Told (slice_get packets place) calls
    → Told (slice_get (packets ++ None ∷ []) place) calls
told_pushed [] zero calls told =
    subst (λ (asked : List Call). LeadTo nothing_yet asked None) (sym told) (leads_nowhere nothing_yet None (record { ended = refl; whole = refl }))
told_pushed [] (suc place) calls told = told
told_pushed (packet ∷ packets) zero calls told = told
told_pushed (packet ∷ packets) (suc place) calls told = told_pushed packets place calls told

told_set : (packets : List (Option OpenPacket)) (at place : ℕ) (packet : Option OpenPacket) (calls : List Call) → at < length packets
    → (place ≢ at → Told (slice_get packets place) calls) → (place ≡ at → LeadTo nothing_yet calls packet)
    → Told (slice_get (slice_set packets at packet) place) calls
told_set [] at place packet calls inside others own = absurd (omega (arith, inside))
told_set (first ∷ packets) zero zero packet calls inside others own = own refl
told_set (first ∷ packets) zero (suc place) packet calls inside others own = others (λ same. omega (arith, same))
told_set (first ∷ packets) (suc at) zero packet calls inside others own = others (λ same. omega (arith, same))
told_set (first ∷ packets) (suc at) (suc place) packet calls inside others own =
    told_set packets at place packet calls (omega (arith, inside)) (λ other. others (λ same. other (omega (arith, same)))) (λ same. own (ap suc same))

-- ---- the writer of a line

record IsThere (state : State) (writer : Numeral) : Type 0 where
  place : ℕ
  inside : place < length state.writers
  number_is : writer ≡ Fits (suc place)

there_at : (zero_is : Bool) (n : ℕ) (state : State) → nat_eq n 0 ≡ zero_is → is_none (cond zero_is None (slice_get state.writers (n - 1))) ≡ false
    → IsThere state (Fits n)
there_at true n state is some = cc
there_at false n state is some =
    let least : 1 ≤ n = grind (arith, common_steps, is) in
    inside_at (slice_get state.writers (n - 1)) refl some least
  where
    inside_at : (found : Option WriterSpec) → slice_get state.writers (n - 1) ≡ found → is_none found ≡ false → 1 ≤ n → IsThere state (Fits n)
    inside_at (Some writer) get some least = record {
      place = n - 1;
      inside = slice_get_within state.writers (n - 1) writer get;
      number_is = ap Fits (omega (arith, least));
    }
    inside_at None get some least = cc

there : (state : State) (writer : Numeral) (step : WriterStep) → lacks_writer state (OfWriter writer step) ≡ false → IsThere state writer
unfolding lacks_writer item
there state (Fits n) step some = there_at (nat_eq n 0) n state refl some
there state TooLarge step some = cc

packet_is : (state : State) (place : ℕ) → packet_of state (Fits (suc place)) ≡ unwrap_or (slice_get state.packets place) None
unfolding packet_of item
packet_is state place = let less : suc place - 1 ≡ place = omega arith in rw (eqb-suc-zero place, less) refl

set_is : (packets : List (Option OpenPacket)) (place : ℕ) (packet : Option OpenPacket)
    → with_item packets (Fits (suc place)) packet ≡ slice_set packets place packet
unfolding with_item
set_is packets place packet = let less : suc place - 1 ≡ place = omega arith in rw (eqb-suc-zero place, less) refl

told_there : (packets : List (Option OpenPacket)) (place : ℕ) (calls : List Call) → place < length packets → Told (slice_get packets place) calls
    → LeadTo nothing_yet calls (unwrap_or (slice_get packets place) None)
told_there [] place calls inside told = absurd (omega (arith, inside))
told_there (packet ∷ packets) zero calls inside told = told
told_there (packet ∷ packets) (suc place) calls inside told = told_there packets place calls (omega (arith, inside)) told

-- ---- one line

written_at : (state : State) (number place : ℕ) (line : List ℕ) (step : WriterStep) → IsTold state → place < length state.writers
    → IsPassed state (OfWriter (Fits (suc place)) step) → (nodes : List Shown)
    → LeadTo nothing_yet (calls_asked (suc place) state.lines ++ step_calls step nodes)
    (packet_after number (packet_of state (Fits (suc place))) step (step_len step nodes))
    → IsTold (written state number (Fits (suc place)) step nodes (step_len step nodes))
unfolding written with_bytes with_packet with_line value is_closed item
written_at state number place line step told inside passed nodes leads =
    let l : NumberedLine = record { line = number; what = writer_kind (suc place) step nodes } in
    let after = packet_after number (packet_of state (Fits (suc place))) step (step_len step nodes) in
    subst (λ (packets : List (Option OpenPacket)). IsTold (record state { lines = state.lines ++ l ∷ []; packets = packets; bytes = state.bytes + step_len step nodes }))
    (sym (set_is state.packets place after))
    (record {
      many = length-set state.packets place after ∙ told.many;
      each = λ other. told_set state.packets place other after (calls_asked (suc other) (state.lines ++ l ∷ [])) (omega (arith, inside, told.many))
          (λ ne. subst (Told (slice_get state.packets other))
          (sym (calls_same (suc other) state.lines l (other_calls (suc other) (suc place) step nodes (ne_eqb (suc other) (suc place) (λ same. ne (omega (arith, same)))))))
          (told.each other))
          (λ same. subst (λ (p : ℕ). LeadTo nothing_yet (calls_asked (suc p) (state.lines ++ l ∷ [])) after) (sym same)
          (subst (λ (calls : List Call). LeadTo nothing_yet calls after)
          (sym (calls_more (suc place) state.lines l ∙ ap (λ (calls : List Call). calls_asked (suc place) state.lines ++ calls) (own_calls (suc place) step nodes)))
          leads));
      shut = λ producer closed. closed_before state.lines l producer (told.shut producer closed);
    })

writer_keeps : (state : State) (number : ℕ) (line : List ℕ) (writer : Numeral) (step : WriterStep) → refusal_of state line (OfWriter writer step) ≡ None
    → IsTold state → IsTold (moved state number line (OfWriter writer step) (nodes_given (given state line (OfWriter writer step))))
unfolding refusal_of moved given
writer_keeps state number line writer step none told =
    let reasons = first_none (front_reasons state (OfWriter writer step)) (back_reasons state line (OfWriter writer step)) none in
    let pass = passed state (OfWriter writer step) reasons.0 in
    let t = there state writer step pass.writer in
    let g = line_given state line writer step reasons.1 in
    let inside : t.place < length state.packets = omega (arith, t.inside, told.many) in
    let before : LeadTo nothing_yet (calls_asked (suc t.place) state.lines) (packet_of state writer) =
    subst (λ (w : Numeral). LeadTo nothing_yet (calls_asked (suc t.place) state.lines) (packet_of state w)) (sym t.number_is)
    (subst (LeadTo nothing_yet (calls_asked (suc t.place) state.lines)) (sym (packet_is state t.place))
    (told_there state.packets t.place (calls_asked (suc t.place) state.lines) inside (told.each t.place))) in
    let account = fold noted nothing_yet (calls_asked (suc t.place) state.lines) in
    let now = line_leads account state number line writer step g.nodes before.stands pass g.is g.short in
    let all = lead_on nothing_yet (calls_asked (suc t.place) state.lines) (step_calls step g.nodes) (packet_of state writer) _ before now in
    subst (λ (result : Result (List Shown) FieldFault). IsTold (written state number writer step (nodes_given result) (step_len step (nodes_given result)))) (sym g.is)
    (subst (λ (w : Numeral). IsPassed state (OfWriter w step)
    → LeadTo nothing_yet (calls_asked (suc t.place) state.lines ++ step_calls step g.nodes) (packet_after number (packet_of state w) step (step_len step g.nodes))
    → IsTold (written state number w step g.nodes (step_len step g.nodes))) (sym t.number_is)
    (λ passed_here leads. written_at state number t.place line step told t.inside passed_here g.nodes leads) pass all)

closed_with : (closed : List Bool) (at place : ℕ) → unwrap_or (slice_get (slice_set closed at true) place) false ≡ true
    → (place ≡ at → ⊥) → unwrap_or (slice_get closed place) false ≡ true
closed_with [] at place is ne = is
closed_with (first ∷ closed) zero zero is ne = absurd (ne refl)
closed_with (first ∷ closed) zero (suc place) is ne = is
closed_with (first ∷ closed) (suc at) zero is ne = is
closed_with (first ∷ closed) (suc at) (suc place) is ne = closed_with closed at place is (λ same. ne (ap suc same))

closed_at : (zero_is none_is : Bool) (closed : List Bool) (n producer : ℕ) → nat_eq n 0 ≡ zero_is → nat_eq producer 0 ≡ none_is
    → nat_eq producer n ≡ false
    → unwrap_or (cond none_is None (slice_get (cond zero_is closed (slice_set closed (n - 1) true)) (producer - 1))) false ≡ true
    → unwrap_or (cond none_is None (slice_get closed (producer - 1))) false ≡ true
closed_at zero_is true closed n producer n_is producer_is other is = is
closed_at true false closed n producer n_is producer_is other is = is
closed_at false false closed n producer n_is producer_is other is =
    let n_some : 1 ≤ n = grind (arith, common_steps, n_is) in
    let producer_some : 1 ≤ producer = grind (arith, common_steps, producer_is) in
    closed_with closed (n - 1) (producer - 1) is (λ same. eqb-false producer n other (omega (arith, same, n_some, producer_some)))

closed_before_close : (closed : List Bool) (number : Numeral) (producer : ℕ) → nat_eq producer (value number) ≡ false
    → unwrap_or (item (with_item closed number true) (Fits producer)) false ≡ true → unwrap_or (item closed (Fits producer)) false ≡ true
unfolding item with_item value
closed_before_close closed (Fits n) producer other is = closed_at (nat_eq n 0) (nat_eq producer 0) closed n producer refl refl other is
closed_before_close closed TooLarge producer other is = is

closed_pushed_at : (closed : List Bool) (place : ℕ) → unwrap_or (slice_get (closed ++ false ∷ []) place) false ≡ true
    → unwrap_or (slice_get closed place) false ≡ true
closed_pushed_at [] zero is = is
closed_pushed_at [] (suc place) is = is
closed_pushed_at (first ∷ closed) zero is = is
closed_pushed_at (first ∷ closed) (suc place) is = closed_pushed_at closed place is

closed_pushed : (none_is : Bool) (closed : List Bool) (producer : ℕ)
    → unwrap_or (cond none_is None (slice_get (closed ++ false ∷ []) (producer - 1))) false ≡ true
    → unwrap_or (cond none_is None (slice_get closed (producer - 1))) false ≡ true
closed_pushed true closed producer is = is
closed_pushed false closed producer is = closed_pushed_at closed (producer - 1) is

-- a line that asks nothing of writers and closes nothing
told_line : (state : State) (number : ℕ) (kind : LineKind) → ((writer : ℕ) → line_calls writer kind ≡ []) → IsTold state → IsTold (with_line state number kind)
unfolding with_line is_closed
told_line state number kind none told = record {
  many = told.many;
  each = λ place. subst (Told (slice_get state.packets place)) (sym (calls_same (suc place) state.lines (record { line = number; what = kind }) (none (suc place)))) (told.each place);
  shut = λ producer closed. closed_before state.lines (record { line = number; what = kind }) producer (told.shut producer closed);
}

shut_close : (is_own : Bool) (state : State) (number : ℕ) (closing : Numeral) (producer : ℕ) → nat_eq producer (value closing) ≡ is_own → IsTold state
    → unwrap_or (item (with_item state.closed closing true) (Fits producer)) false ≡ true
    → is_closed_by (state.lines ++ (record { line = number; what = producer_kind (value closing) Close }) ∷ []) producer ≡ true
unfolding producer_kind closes is_closed
shut_close true state number closing producer own told is =
    closed_now state.lines (record { line = number; what = producer_kind (value closing) Close }) producer own
shut_close false state number closing producer own told is =
    closed_before state.lines (record { line = number; what = producer_kind (value closing) Close }) producer
    (told.shut producer (closed_before_close state.closed closing producer own is))

producer_keeps : (state : State) (number : ℕ) (producer : Numeral) (step : ProducerStep) → IsTold state
    → IsTold (served (with_line state number (producer_kind (value producer) step)) producer step)
unfolding served with_closed with_line is_closed
producer_keeps state number producer Collect told =
    told_line state number (producer_kind (value producer) Collect) (λ writer. producer_calls writer (value producer) Collect) told
producer_keeps state number producer Scrape told =
    told_line state number (producer_kind (value producer) Scrape) (λ writer. producer_calls writer (value producer) Scrape) told
producer_keeps state number producer Close told =
    let with = told_line state number (producer_kind (value producer) Close) (λ writer. producer_calls writer (value producer) Close) told in
    record {
      many = with.many;
      each = with.each;
      shut = λ other closed. shut_close (nat_eq other (value producer)) state number producer other refl told closed;
    }

line_keeps : (state : State) (number : ℕ) (line : List ℕ) (form : Form) → refusal_of state line form ≡ None → IsTold state
    → IsTold (moved state number line form (nodes_given (given state line form)))
unfolding moved with_clone line_calls is_closed item
line_keeps state number line (Buffer kb policy) none told = record { many = told.many; each = told.each; shut = told.shut }
line_keeps state number line (Producer pages page_size chunks) none told = record {
  many = told.many;
  each = told.each;
  shut = λ producer closed. told.shut producer (closed_pushed (nat_eq producer 0) state.closed producer closed);
}
line_keeps state number line (Writer producer buffer policy from) none told =
    let writer : WriterSpec = record { producer = value producer; buffer = value buffer; policy = policy_of policy; from = first_id from } in
    record {
      many = omega (arith, length-append state.packets (None ∷ []), length-append state.writers (writer ∷ []), told.many);
      each = λ place. told_pushed state.packets place (calls_asked (suc place) state.lines) (told.each place);
      shut = told.shut;
    }
line_keeps state number line (OfWriter writer step) none told = writer_keeps state number line writer step none told
line_keeps state number line (OfProducer producer step) none told = producer_keeps state number producer step told
line_keeps state number line (Read buffer limit) none told = told_line state number _ (λ writer. refl) told
line_keeps state number line Request none told = told_line state number _ (λ writer. refl) told
line_keeps state number line (Raw raw) none told = told_line state number _ (λ writer. refl) told
line_keeps state number line (CloneBuffer buffer) none told =
    let with = told_line state number _ (λ writer. refl) told in
    record { many = with.many; each = with.each; shut = with.shut }

none_told : IsTold beginning
unfolding is_closed item
none_told = record { many = refl; each = λ place. nothing_at place; shut = λ producer closed. none_shut (nat_eq producer 0) producer closed }
  where
    nothing_at : (place : ℕ) → Told (slice_get [] place) []
    nothing_at zero = refl
    nothing_at (suc place) = refl

    none_shut : (none_is : Bool) (producer : ℕ) → unwrap_or (cond none_is None (slice_get {X = Bool} [] (producer - 1))) false ≡ true
        → is_closed_by [] producer ≡ true
    none_shut true producer closed = cc
    none_shut false producer closed = absurd (nothing_shut (producer - 1) closed)
      where
        nothing_shut : (place : ℕ) → unwrap_or (slice_get {X = Bool} [] place) false ≡ true → ⊥
        nothing_shut zero is = cc
        nothing_shut (suc place) is = cc

-- ---- the end: no packet is left, but by writers of closed producers

neither_earlier : (line other : Option ℕ) → earlier line other ≡ None → (line ≡ None) × (other ≡ None)
unfolding earlier
neither_earlier None other is = (refl, is)
neither_earlier (Some line) None is = cc
neither_earlier (Some line) (Some other) is = absurd (some_earlier (nat_lt other line) is)
  where
    some_earlier : (less : Bool) → cond less (Some other) (Some line) ≡ None → ⊥
    some_earlier true is = cc
    some_earlier false is = cc

none_left_at : (state : State) (writers : List WriterSpec) (line : Option ℕ) (number : ℕ) → first_left state line number writers ≡ None
    → (line ≡ None) × ((place : ℕ) (writer : WriterSpec) → slice_get writers place ≡ Some writer
    → line_left state writer (packet_of state (Fits (number + place))) ≡ None)
unfolding first_left
none_left_at state [] line number none = (none, λ place writer get. cc)
none_left_at state (first ∷ writers) line number none =
    let more = none_left_at state writers (earlier line (line_left state first (packet_of state (Fits number)))) (number + 1) none in
    let here = neither_earlier line (line_left state first (packet_of state (Fits number))) more.0 in
    (here.0, λ place writer get. left_at place writer get here.1 more.1)
  where
    left_at : (place : ℕ) (writer : WriterSpec) → slice_get (first ∷ writers) place ≡ Some writer
        → line_left state first (packet_of state (Fits number)) ≡ None
        → ((place : ℕ) (writer : WriterSpec) → slice_get writers place ≡ Some writer → line_left state writer (packet_of state (Fits (number + 1 + place))) ≡ None)
        → line_left state writer (packet_of state (Fits (number + place))) ≡ None
    left_at zero writer get here more =
        let same : first ≡ writer = cc in
        subst (λ (w : WriterSpec). line_left state w (packet_of state (Fits (number + 0))) ≡ None) same
        (subst (λ (n : ℕ). line_left state first (packet_of state (Fits n)) ≡ None) (omega arith) here)
    left_at (suc place) writer get here more =
        subst (λ (n : ℕ). line_left state writer (packet_of state (Fits n)) ≡ None) (omega arith) (more place writer get)

left_none : (closed : Bool) (state : State) (writer : WriterSpec) (packet : Option OpenPacket) → is_closed state (Fits writer.producer) ≡ closed
    → closed ≡ false → line_left state writer packet ≡ None → packet ≡ None
unfolding line_left
left_none closed state writer None closed_is not none = refl
left_none true state writer (Some packet) closed_is not none = cc
left_none false state writer (Some packet) closed_is not none = absurd (left_some (is_closed state (Fits writer.producer)) closed_is none)
  where
    left_some : (b : Bool) → b ≡ false → cond b None (Some packet.line) ≡ None → ⊥
    left_some true is none = cc
    left_some false is none = cc

-- what the lines ask of a writer, and that none is left of it, unless a line has closed its producer
record IsAsked (lines : List NumberedLine) (number : ℕ) (writer : WriterSpec) : Type 0 where
  packet : Option OpenPacket
  leads : LeadTo nothing_yet (calls_asked number lines) packet
  ended : is_closed_by lines writer.producer ≡ false → is_writing (packets_of (calls_asked number lines)) ≡ false

ends : (state : State) → IsTold state → first_left state None 1 state.writers ≡ None → (place : ℕ) (writer : WriterSpec)
    → slice_get state.writers place ≡ Some writer → IsAsked state.lines (place + 1) writer
ends state told none place writer get =
    let inside : place < length state.packets = omega (arith, slice_get_within state.writers place writer get, told.many) in
    let all : LeadTo nothing_yet (calls_asked (suc place) state.lines) (packet_of state (Fits (suc place))) =
    subst (LeadTo nothing_yet (calls_asked (suc place) state.lines)) (sym (packet_is state place))
    (told_there state.packets place (calls_asked (suc place) state.lines) inside (told.each place)) in
    let left : line_left state writer (packet_of state (Fits (suc place))) ≡ None =
    subst (λ (n : ℕ). line_left state writer (packet_of state (Fits n)) ≡ None) (omega arith) ((none_left_at state state.writers None 1 none).1 place writer get) in
    subst (λ (n : ℕ). IsAsked state.lines n writer) (omega arith)
    (record {
      packet = packet_of state (Fits (suc place));
      leads = all;
      ended = λ unshut.
          let shut : is_closed state (Fits writer.producer) ≡ false =
          false_from_ne_true (is_closed state (Fits writer.producer)) (λ closed. no_both (told.shut writer.producer closed) unshut) in
          let gone : packet_of state (Fits (suc place)) ≡ None =
          left_none (is_closed state (Fits writer.producer)) state writer (packet_of state (Fits (suc place))) refl shut left in
          (subst (Stands (fold noted nothing_yet (calls_asked (suc place) state.lines))) gone all.stands).ended;
    })
  where
    no_both : {b : Bool} → b ≡ true → b ≡ false → ⊥
    no_both is none = cc

scenario_asks : (scenario : Scenario) → IsScenario scenario → (place : ℕ) (writer : WriterSpec)
    → slice_get scenario.writers.items place ≡ Some writer → IsAsked scenario.lines (place + 1) writer
scenario_asks scenario is place writer get =
    let end =
    scenario_holds IsTold (λ state number line form formed none told. line_keeps state number line form none told) none_told scenario is in
    subst (λ (parts : Parts). slice_get parts.writers place ≡ Some writer → IsAsked parts.lines (place + 1) writer) end.says
    (λ there. ends end.state end.holds end.none_left place writer there) get

pub scenario_is_accepted : (scenario : Scenario) → IsScenario scenario → (place : ℕ) (writer : WriterSpec)
    → slice_get scenario.writers.items place ≡ Some writer → AsksWell scenario.lines (place + 1) writer
scenario_is_accepted scenario is place writer get =
    let asked = scenario_asks scenario is place writer get in
    record {
      accepted = asked.leads.accepted;
      ended = asked.ended;
      passes = accepted_passes (calls_asked (place + 1) scenario.lines) asked.leads.accepted asked.leads.words;
    }

pub scenario_spells_trees : ScenariosSpellTrees
scenario_spells_trees scenario is place writer get =
    let asked = scenario_asks scenario is place writer get in
    accepted_spells (calls_asked (place + 1) scenario.lines) asked.leads.accepted asked.leads.words
