-- The lines of a workload's packets, one after another.
use Rattle.std.proofs.Common.{◌≡◌, ℕ, zero, suc, ◌+◌, ◌-◌, ◌*◌, ◌/◌, ◌%◌, ◌^◌, ◌<◌, ◌≤◌, ◌==◌, inl, inr, ◌⊎◌, min, not, true, false, Some, None, List, [], ◌∷◌, ◌++◌, slice_get, refl, sym, ap, subst, ◌∙◌, arith, append_assoc}
use Rattle.std.specs.Prelude.{codes, replicate}
use Rattle.std.specs.Fmt.{decimal}
use Rattle.std.proofs.Math.Nat.{mul-zero, mul-le-mul, div-lt_iff_lt-mul}
use Rattle.std.proofs.lemmas.List.{length-replicate, get_or-replicate}
use Rattle.std.proofs.lemmas.Option.{slice_get-get_or}
use Rattle.std.proofs.lemmas.Bool.{and_from, cases_lt, not_from_false, ne_eqb}
use Rattle.trace_base.specs.declared.limits.TheConstants.{MAX_GENERATED_PACKETS, MAX_GENERATED_WRITERS, MAX_SCENARIO_PACKET_BYTES}
use Rattle.field_tree.specs.Nodes.{nodes_of}
use Rattle.field_tree.specs.Judged.{nodes_len}
use Rattle.field_tree.proofs.NodeLaws.{nodes_len_tree}
use Rattle.trace_base.specs.declared.numeral.Numeral.TheVariants.{Fits}
use Rattle.scenario_text.specs.Items.{item}
use Rattle.scenario_text.specs.State.{State, is_closed}
use Rattle.workload_gen.specs.Workload.{packet_line, packet_lines, drawn_of, state_after}
use Rattle.workload_laws.specs.Asked.{buffer_asked, producer_asked, writer_asked, fields_asked, line_asked, lines_asked}
use Rattle.workload_laws.proofs.CutLemmas.{lacks, lacks-append, lacks_decimal}
use Rattle.workload_laws.proofs.FieldsLemmas.{turn_text, inner_text, nested_text, fields_text, AreNumbers, packet_len_any, packet_len_early}
use Rattle.workload_laws.proofs.WalkLemmas.{Leads, leads_nowhere, leads_further, line_leads}
use Rattle.workload_laws.proofs.PacketLemmas.{packet_text, IsFree, packet_leads}
use Rattle.workload_laws.proofs.SetUpLemmas.{none_begun, set_up}

-- ---- which numbers a packet's line has

-- a packet of a workload that command words can ask for
pub record IsAsked (writers packet : ℕ) : Type 0 where
  pub some : 0 < writers
  pub few : writers ≤ 64
  pub packet_few : packet < 6400000
  pub turn_few : packet / writers < 100000

some_writers : (writers packets packet : ℕ) → packet < packets * writers → 0 < writers
some_writers zero packets packet below = absurd (omega (arith, mul-zero packets))
some_writers (suc writers) packets packet below = omega arith

pub asked : (writers packets packet : ℕ) → writers ≤ MAX_GENERATED_WRITERS → packets ≤ MAX_GENERATED_PACKETS → packet < packets * writers
    → IsAsked writers packet
asked writers packets packet few many below =
    let some : 0 < writers = some_writers writers packets packet below in
    let most : packets * writers ≤ 100000 * 64 = mul-le-mul many few in
    let turn : packet / writers < packets = (div-lt_iff_lt-mul some).1 below in
    record { some = some; few = few; packet_few = omega arith; turn_few = omega arith }

pub numbers_are : (writers packet drawn : ℕ) → IsAsked writers packet
    → AreNumbers (packet * 100 + drawn % 100) (97 + drawn / 24 % 26) (drawn % 24 + 1) (packet / writers + 1)
numbers_are writers packet drawn is = record {
  time_fits = omega (arith, is.packet_few);
  letter_is = (omega arith, omega arith, λ same. absurd (omega arith), λ same. absurd (omega arith));
  some = omega arith;
  few = omega arith;
  turn_fits = omega (arith, is.turn_few);
}

-- ---- its text

text_free : (writer time letter times turn : ℕ) → writer < 2 ^ 64 → AreNumbers time letter times turn
    → lacks 10 (packet_text writer (fields_text time letter times turn)) ≡ true
text_free writer time letter times turn small are =
    let byte = are.letter_is in
    let no_feed : not (letter == 10) ≡ true = not_from_false (letter == 10) (ne_eqb letter 10 (λ same. absurd (omega (arith, byte.0)))) in
    let of_turn : lacks 10 (decimal turn) ≡ true = lacks_decimal 10 turn (omega arith) (omega (arith, are.turn_fits)) in
    let of_times : lacks 10 (decimal times) ≡ true = lacks_decimal 10 times (omega arith) (omega (arith, are.few)) in
    let of_time : lacks 10 (decimal time) ≡ true = lacks_decimal 10 time (omega arith) (omega (arith, are.time_fits)) in
    let of_writer : lacks 10 (decimal writer) ≡ true = lacks_decimal 10 writer (omega arith) small in
    let last : lacks 10 (decimal times ++ turn_text turn) ≡ true = lacks-append 10 (decimal times) (turn_text turn) of_times of_turn in
    let inner : lacks 10 (inner_text letter times turn) ≡ true =
    and_from (not (letter == 10)) (lacks 10 (decimal times ++ turn_text turn)) no_feed last in
    let nested : lacks 10 (nested_text letter times turn) ≡ true = lacks-append 10 (inner_text letter times turn) (codes "}") inner refl in
    let fields : lacks 10 (fields_text time letter times turn) ≡ true =
    lacks-append 10 (decimal time) (nested_text letter times turn) of_time nested in
    lacks-append 10 (decimal writer) (codes " " ++ fields_text time letter times turn) of_writer fields

text_is : (packet writer turn drawn : ℕ)
    → packet_line packet writer turn drawn
    ≡ packet_text writer (fields_text (packet * 100 + drawn % 100) (97 + drawn / 24 % 26) (drawn % 24 + 1) turn) ++ 10 ∷ []
unfolding packet_line
text_is packet writer turn drawn = simp append_assoc

-- ---- the state between two lines

-- the bytes of the first so many packets
unfoldable pub bytes_asked : ℕ → ℕ → ℕ → ℕ
bytes_asked number writers zero = 0
bytes_asked number writers (suc packet) = bytes_asked number writers packet + nodes_len (nodes_of (fields_asked number writers packet))

abbrev pub between_lines : ℕ → ℕ → ℕ → State
between_lines number writers packet = record {
  buffers = buffer_asked ∷ [];
  producers = producer_asked ∷ [];
  writers = replicate writers writer_asked;
  lines = lines_asked number writers packet;
  closed = false ∷ [];
  packets = none_begun writers;
  bytes = bytes_asked number writers packet;
  clones = 0;
}

get_replicate : {X : Type 0} (n i : ℕ) (x : X) → i < n → slice_get (replicate n x) i ≡ Some x
get_replicate {X} n i x inside =
    slice_get-get_or (replicate n x) i x (omega (arith, length-replicate n x)) ∙ ap (λ (y : X). Some y) (get_or-replicate n i x x inside)

item_replicate : {X : Type 0} (n i : ℕ) (x : X) → i < n → item (replicate n x) (Fits (i + 1)) ≡ Some x
unfolding item
item_replicate n i x inside =
    let back : i + 1 - 1 ≡ i = omega arith in
    let some : (i + 1 == 0) ≡ false = ne_eqb (i + 1) 0 (λ same. absurd (omega arith)) in
    rw (some, back) (get_replicate n i x inside)

free : (number writers packet place : ℕ) → place < writers → IsFree (between_lines number writers packet) (place + 1)
unfolding is_closed item
free number writers packet place inside = record {
  spec = writer_asked;
  there = item_replicate writers place writer_asked inside;
  opened = refl;
  free = item_replicate writers place None inside;
}

-- ---- lengths

packet_len : (number writers packet : ℕ) → IsAsked writers packet → nodes_len (nodes_of (fields_asked number writers packet)) ≤ 42
packet_len number writers packet is =
    let drawn = drawn_of (state_after number (suc packet)) in
    let same = nodes_len_tree (fields_asked number writers packet) in
    let are = numbers_are writers packet drawn is in
    let len = packet_len_any (packet * 100 + drawn % 100) (97 + drawn / 24 % 26) (drawn % 24 + 1) (packet / writers + 1) are in
    omega arith

early_len : (number writers packet : ℕ) → IsAsked writers packet → packet < 2684353
    → nodes_len (nodes_of (fields_asked number writers packet)) ≤ 41
early_len number writers packet is early =
    let drawn = drawn_of (state_after number (suc packet)) in
    let same = nodes_len_tree (fields_asked number writers packet) in
    let are = numbers_are writers packet drawn is in
    let time : packet * 100 + drawn % 100 < 268435456 = omega arith in
    let len = packet_len_early (packet * 100 + drawn % 100) (97 + drawn / 24 % 26) (drawn % 24 + 1) (packet / writers + 1) are time in
    omega arith

one_longer : (bytes len packet : ℕ) → (packet < 2684353) ⊎ (2684353 ≤ packet) → bytes + min packet 2684353 ≤ 42 * packet → len ≤ 42
    → (packet < 2684353 → len ≤ 41) → bytes + len + min (suc packet) 2684353 ≤ 42 * suc packet
one_longer bytes len packet (inl first) before most early = let less : len ≤ 41 = early first in omega arith
one_longer bytes len packet (inr later) before most early = omega arith

-- The first 2,684,353 packets have times of four bytes at most: so all are within the limit of a scenario, which 42 bytes
-- for each of 6,400,000 packets aren't.
bytes_within : (number writers packets count : ℕ) → writers ≤ MAX_GENERATED_WRITERS → packets ≤ MAX_GENERATED_PACKETS
    → count ≤ packets * writers → bytes_asked number writers count + min count 2684353 ≤ 42 * count
unfolding bytes_asked
bytes_within number writers packets zero few many within = omega arith
bytes_within number writers packets (suc packet) few many within =
    let is = asked writers packets packet few many (omega arith) in
    one_longer (bytes_asked number writers packet) (nodes_len (nodes_of (fields_asked number writers packet))) packet (cases_lt packet 2684353)
    (bytes_within number writers packets packet few many (omega arith)) (packet_len number writers packet is) (early_len number writers packet is)

bytes_few : (number writers packets count : ℕ) → writers ≤ MAX_GENERATED_WRITERS → packets ≤ MAX_GENERATED_PACKETS
    → count ≤ packets * writers → bytes_asked number writers count ≤ MAX_SCENARIO_PACKET_BYTES
bytes_few number writers packets count few many within =
    let most : packets * writers ≤ 100000 * 64 = mul-le-mul many few in
    omega (arith, bytes_within number writers packets count few many within)

-- ---- one line, and all

line_taken : (number writers packets packet : ℕ) → writers ≤ MAX_GENERATED_WRITERS → packets ≤ MAX_GENERATED_PACKETS → packet < packets * writers
    → Leads (between_lines number writers packet) (writers + 3 + packet)
    (packet_line packet (packet % writers + 1) (packet / writers + 1) (drawn_of (state_after number (suc packet))))
    (between_lines number writers (suc packet)) (writers + 3 + suc packet)
unfolding lines_asked line_asked bytes_asked
line_taken number writers packets packet few many below =
    let is = asked writers packets packet few many below in
    let drawn = drawn_of (state_after number (suc packet)) in
    let writer = packet % writers + 1 in
    let turn = packet / writers + 1 in
    let are = numbers_are writers packet drawn is in
    let place : packet % writers < writers = omega (arith, is.some) in
    let small : writer < 2 ^ 64 = omega (arith, is.few) in
    let bytes = bytes_few number writers packets (suc packet) few many (omega arith) in
    let text = fields_text (packet * 100 + drawn % 100) (97 + drawn / 24 % 26) (drawn % 24 + 1) turn in
    let goes = packet_leads (between_lines number writers packet) (writers + 3 + packet) writer (packet * 100 + drawn % 100)
    (97 + drawn / 24 % 26) (drawn % 24 + 1) turn small are (free number writers packet (packet % writers) place) bytes in
    let P : List ℕ → Type 0 = λ line. Leads (between_lines number writers packet) (writers + 3 + packet) line
    (between_lines number writers (suc packet)) (writers + 3 + suc packet) in
    subst P (sym (text_is packet writer turn drawn))
    (line_leads (between_lines number writers packet) (between_lines number writers (suc packet)) (writers + 3 + packet) (writers + 3 + suc packet)
    (packet_text writer text)
    (text_free writer (packet * 100 + drawn % 100) (97 + drawn / 24 % 26) (drawn % 24 + 1) turn small are) goes (omega arith))

before_packets : (number writers : ℕ) → between_lines number writers 0 ≡ set_up writers
unfolding lines_asked bytes_asked
before_packets number writers = refl

pub packets_lead : (number writers packets count : ℕ) → writers ≤ MAX_GENERATED_WRITERS → packets ≤ MAX_GENERATED_PACKETS → count ≤ packets * writers
    → Leads (set_up writers) (writers + 3) (packet_lines number writers count) (between_lines number writers count) (writers + 3 + count)
unfolding packet_lines
packets_lead number writers packets zero few many within =
    let same : writers + 3 ≡ writers + 3 + zero = omega arith in
    let P : State → ℕ → Type 0 = λ state next. Leads (set_up writers) (writers + 3) [] state next in
    subst (λ (next : ℕ). P (between_lines number writers 0) next) same
    (subst (λ (state : State). P state (writers + 3)) (sym (before_packets number writers)) (leads_nowhere (set_up writers) (writers + 3)))
packets_lead number writers packets (suc packet) few many within =
    leads_further (packets_lead number writers packets packet few many (omega arith))
    (line_taken number writers packets packet few many (omega arith))
