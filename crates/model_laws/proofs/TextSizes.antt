-- The four bytes of each nested length lie inside a packet's bytes, which never get fewer; and all packets but the newest are
-- finished.
use Rattle.std.proofs.Common.{◌≡◌, ◌∙◌, ℕ, ◌+◌, ◌≤◌, Bool, true, false, not, ◌||◌, List, [], ◌∷◌, ◌++◌, map, length, length-append, refl, sym, ap, subst, arith, Some}
use Rattle.std.specs.Prelude.{◌==◌, IsTrue, fold}
use Rattle.std.proofs.lemmas.Bool.{and_parts, eqb-true}
use Rattle.wire_varint.specs.Varint.{redundant}
use Rattle.wire_varint.proofs.Lengths.{length-redundant}
use Rattle.trace_model.specs.Calls.{Call, Begun, Number, Bytes, Nested, Ended, GivenUp, Finished, Flushed}
use Rattle.trace_model.specs.Encoding.{number_field, bytes_field, nested_tag}
use Rattle.trace_model.specs.Sequences.{is_among}
use Rattle.trace_model.specs.Packets.{Packet, Text, NestedLength, flat, open_length, open_places, written, closed_levels, begun_packet, on_newest, with_more, with_nested, with_nested_ended, given_up_packet, finished_packet, noted, packets_of, is_writing, is_possible, are_possible_after, AreCalls}
use Rattle.trace_model.specs.Cut.{length_places}
use Rattle.model_laws.proofs.LossLemmas.{account_with}

abbrev pub text_size : List (List ℕ) → ℕ
text_size levels = length (flat open_length levels)

-- Places inside

-- from each of these places on four bytes lie inside so many
abbrev pub AllInside : ℕ → List ℕ → Type 0
AllInside total [] = Unit {0}
AllInside total (at ∷ places) = (at + 4 ≤ total) × AllInside total places

inside_more : (total more : ℕ) (places : List ℕ) → total ≤ more → AllInside total places → AllInside more places
inside_more total more [] grows h = tt
inside_more total more (at ∷ places) grows h = let here = h.0 in (omega (arith, grows, here), inside_more total more places grows h.1)

inside_append : (total : ℕ) (places others : List ℕ) → AllInside total places → AllInside total others → AllInside total (places ++ others)
inside_append total [] others h k = k
inside_append total (at ∷ places) others h k = (h.0, inside_append total places others h.1 k)

pub inside_among : (total at : ℕ) (places : List ℕ) → AllInside total places → is_among at places ≡ true → at + 4 ≤ total
inside_among total at [] h among = absurd (cc)
inside_among total at (first ∷ places) h among = step (first == at) refl among (inside_among total at places h.1)
  where
    step : (b : Bool) → (first == at) ≡ b → (b || is_among at places) ≡ true → (is_among at places ≡ true → at + 4 ≤ total) → at + 4 ≤ total
    step true e among later = subst (λ (n : ℕ). n + 4 ≤ total) (eqb-true first at e) h.0
    step false e among later = later among

long_parts : (a b c : List ℕ) → length (a ++ b ++ c) ≡ length a + length b + length c
long_parts a b c = omega (arith, length-append (a ++ b) c, length-append a b)

pub open_inside : (levels : List (List ℕ)) → AllInside (text_size levels) (open_places levels)
open_inside [] = tt
open_inside (level ∷ []) = tt
open_inside (level ∷ outer ∷ others) =
    let long = long_parts (flat open_length (outer ∷ others)) open_length level in
    let four : length open_length ≡ 4 = refl in
    (omega (arith, long, four), inside_more (text_size (outer ∷ others)) (text_size (level ∷ outer ∷ others)) (open_places (outer ∷ others)) (omega (arith, long)) (open_inside (outer ∷ others)))

-- Texts

abbrev closed_places : List NestedLength → List ℕ
closed_places closed = map (λ (nested : NestedLength). nested.at) closed

abbrev pub IsInside : Text → Type 0
IsInside text = AllInside (text_size text.levels) (closed_places text.closed)

pub all_inside : (text : Text) → IsInside text → AllInside (text_size text.levels) (length_places text)
all_inside text h = inside_append (text_size text.levels) (closed_places text.closed) (open_places text.levels) h (open_inside text.levels)

record Grows (old new : Text) : Type 0 where
  size : text_size old.levels ≤ text_size new.levels
  inside : IsInside old → IsInside new

size_written : (bytes : List ℕ) (levels : List (List ℕ)) → text_size levels ≤ text_size (written bytes levels)
size_written bytes [] = omega arith
size_written bytes (level ∷ []) = omega (arith, length-append level bytes)
size_written bytes (level ∷ outer ∷ others) =
    omega (arith, long_parts (flat open_length (outer ∷ others)) open_length level, long_parts (flat open_length (outer ∷ others)) open_length (level ++ bytes), length-append level bytes)

size_nested : (levels : List (List ℕ)) → text_size levels ≤ text_size ([] ∷ levels)
size_nested [] = omega arith
size_nested (level ∷ others) = omega (arith, long_parts (flat open_length (level ∷ others)) open_length [])

grows_more : (bytes : List ℕ) (text : Text) → Grows text (record text { levels = written bytes text.levels })
grows_more bytes text = record {
  size = size_written bytes text.levels;
  inside = λ h. inside_more (text_size text.levels) (text_size (written bytes text.levels)) (closed_places text.closed) (size_written bytes text.levels) h;
}

grows_nested : (bytes : List ℕ) (text : Text) → Grows text (record text { levels = [] ∷ written bytes text.levels })
grows_nested bytes text =
    let longer : text_size text.levels ≤ text_size ([] ∷ written bytes text.levels) = omega (arith, size_written bytes text.levels, size_nested (written bytes text.levels)) in
    record {
      size = longer;
      inside = λ h. inside_more (text_size text.levels) (text_size ([] ∷ written bytes text.levels)) (closed_places text.closed) longer h;
    }

size_closed : (level outer : List ℕ) (others : List (List ℕ)) (closed : List NestedLength)
    → text_size (closed_levels (level ∷ outer ∷ others) closed).levels ≡ text_size (level ∷ outer ∷ others)
size_closed level outer [] closed =
    let four : length open_length ≡ 4 = refl in
    omega (arith, four, long_parts outer open_length level, long_parts outer (redundant (length level)) level, length-redundant (length level))
size_closed level outer (next ∷ others) closed =
    let four : length open_length ≡ 4 = refl in
    let before : List ℕ = flat open_length (next ∷ others) in
    omega (arith, four, long_parts (before ++ open_length ++ outer) open_length level, long_parts before open_length outer, long_parts before open_length (outer ++ redundant (length level) ++ level), long_parts outer (redundant (length level)) level, length-redundant (length level))

closed_more : (closed : List NestedLength) (one : NestedLength) → closed_places (closed ++ one ∷ []) ≡ closed_places closed ++ one.at ∷ []
closed_more [] one = refl
closed_more (first ∷ closed) one = ap (λ (places : List ℕ). first.at ∷ places) (closed_more closed one)

grows_ended : (levels : List (List ℕ)) (closed : List NestedLength) → Grows (record { levels = levels; closed = closed }) (closed_levels levels closed)
grows_ended [] closed = record { size = omega arith; inside = λ h. h }
grows_ended (level ∷ []) closed = record { size = omega arith; inside = λ h. h }
grows_ended (level ∷ outer ∷ others) closed =
    let same = size_closed level outer others closed in
    let total : ℕ = text_size (closed_levels (level ∷ outer ∷ others) closed).levels in
    let at : ℕ = text_size (outer ∷ others) in
    let long = long_parts (flat open_length (outer ∷ others)) open_length level in
    let four : length open_length ≡ 4 = refl in
    let fits : at + 4 ≤ total = omega (arith, same, long, four) in
    record {
      size = omega (arith, same);
      inside = λ h. subst (λ (places : List ℕ). AllInside total places) (sym (closed_more closed (record { at = at; size = length level })))
          (inside_append total (closed_places closed) (at ∷ []) (inside_more (text_size (level ∷ outer ∷ others)) total (closed_places closed) (omega (arith, same)) h) (fits, tt));
    }

-- Packets

pub record IsSized (packet : Packet) : Type 0 where
  pub whole : IsInside packet.text
  pub part : (text : Text) → packet.given_up ≡ Some text → IsInside text × (text_size text.levels ≤ text_size packet.text.levels)

abbrev pub AllSized : List Packet → Type 0
AllSized [] = Unit {0}
AllSized (packet ∷ older) = IsSized packet × AllSized older

abbrev pub AllFinished : List Packet → Type 0
AllFinished [] = Unit {0}
AllFinished (packet ∷ older) = (packet.finished ≡ true) × AllFinished older

abbrev pub OlderFinished : List Packet → Type 0
OlderFinished [] = Unit {0}
OlderFinished (packet ∷ older) = AllFinished older

abbrev AreSound : List Packet → Type 0
AreSound packets = AllSized packets × OlderFinished packets

sized_changed : (packet changed : Packet) → changed.given_up ≡ packet.given_up → Grows packet.text changed.text → IsSized packet → IsSized changed
sized_changed packet changed same grows h = record {
  whole = grows.inside h.whole;
  part = λ text e. let old = h.part text (sym same ∙ e) in let less = old.1 in let more = grows.size in (old.0, omega (arith, less, more));
}

sized_given : (packet : Packet) → IsSized packet → IsSized (given_up_packet packet)
sized_given packet h = record { whole = h.whole; part = λ text e. let same : packet.text ≡ text = cc in given text same }
  where
    given : (text : Text) → packet.text ≡ text → IsInside text × (text_size text.levels ≤ text_size packet.text.levels)
    given text same = subst (λ (t : Text). IsInside t × (text_size t.levels ≤ text_size packet.text.levels)) same (h.whole, omega arith)

sized_finished : (packet : Packet) → IsSized packet → IsSized (finished_packet packet)
sized_finished packet h = record { whole = h.whole; part = h.part }

sized_more : (bytes : List ℕ) (packet : Packet) → IsSized packet → IsSized (with_more bytes packet)
sized_more bytes packet h = sized_changed packet (with_more bytes packet) refl (grows_more bytes packet.text) h

sized_nested : (field : ℕ) (packet : Packet) → IsSized packet → IsSized (with_nested field packet)
sized_nested field packet h = sized_changed packet (with_nested field packet) refl (grows_nested (nested_tag field) packet.text) h

sized_ended : (packet : Packet) → IsSized packet → IsSized (with_nested_ended packet)
sized_ended packet h = sized_changed packet (with_nested_ended packet) refl (grows_ended packet.text.levels packet.text.closed) h

-- Calls

sound_newest : (change : Packet → Packet) → ((packet : Packet) → IsSized packet → IsSized (change packet)) → (packets : List Packet) (flushed : Bool)
    → AreSound packets → AreSound (on_newest change (account_with packets flushed)).packets
sound_newest change keeps [] flushed h = h
sound_newest change keeps (packet ∷ older) flushed h = ((keeps packet h.0.0, h.0.1), h.1)

finished_newest : (packets : List Packet) → is_writing packets ≡ false → OlderFinished packets → AllFinished packets
finished_newest [] rests h = tt
finished_newest (packet ∷ older) rests h = (turned packet.finished rests, h)
  where
    turned : (b : Bool) → not b ≡ false → b ≡ true
    turned true e = refl
    turned false e = absurd (cc)

sound_begun : (kept : Bool) (packets : List Packet) (flushed : Bool) → not (is_writing packets) ≡ true → AreSound packets
    → AreSound (begun_packet kept (account_with packets flushed) ∷ packets)
sound_begun kept packets flushed rests h =
    ((record { whole = tt; part = λ text e. absurd (cc) }, h.0), finished_newest packets (turned (is_writing packets) rests) h.1)
  where
    turned : (b : Bool) → not b ≡ true → b ≡ false
    turned true e = absurd (cc)
    turned false e = refl

abbrev GoesOn : List Call → Type 0
GoesOn calls = (packets : List Packet) (flushed : Bool) → AreSound packets → IsTrue (are_possible_after (account_with packets flushed) calls)
    → AreSound (fold noted (account_with packets flushed) calls).packets

sound_calls : (calls : List Call) (packets : List Packet) (flushed : Bool) → AreSound packets → IsTrue (are_possible_after (account_with packets flushed) calls)
    → AreSound (fold noted (account_with packets flushed) calls).packets
sound_calls [] packets flushed h possible = h
sound_calls (call ∷ calls) packets flushed h possible =
    let both = and_parts (is_possible packets call) (are_possible_after (noted (account_with packets flushed) call) calls) possible in
    step (sound_calls calls) call both.0 both.1
  where
    changed : GoesOn calls → (change : Packet → Packet) → ((packet : Packet) → IsSized packet → IsSized (change packet))
        → IsTrue (are_possible_after (on_newest change (account_with packets flushed)) calls)
        → AreSound (fold noted (on_newest change (account_with packets flushed)) calls).packets
    changed again change keeps later =
        again (on_newest change (account_with packets flushed)).packets flushed (sound_newest change keeps packets flushed h) later

    step : GoesOn calls → (call : Call) → IsTrue (is_possible packets call) → IsTrue (are_possible_after (noted (account_with packets flushed) call) calls)
        → AreSound (fold noted (noted (account_with packets flushed) call) calls).packets
    step again (Begun kept) now later =
        again (begun_packet kept (account_with packets flushed) ∷ packets) false (sound_begun kept packets flushed now h) later
    step again (Number field value) now later = changed again (with_more (number_field field value)) (sized_more (number_field field value)) later
    step again (Bytes field text times) now later = changed again (with_more (bytes_field field text times)) (sized_more (bytes_field field text times)) later
    step again (Nested field) now later = changed again (with_nested field) (sized_nested field) later
    step again Ended now later = changed again with_nested_ended sized_ended later
    step again GivenUp now later = changed again given_up_packet sized_given later
    step again Finished now later = changed again finished_packet sized_finished later
    step again Flushed now later = again packets true h later

pub all_sized : (calls : List Call) → AreCalls calls → AllSized (packets_of calls)
all_sized calls possible = (sound_calls calls [] false (tt, tt) possible).0

pub all_finished : (calls : List Call) → AreCalls calls → is_writing (packets_of calls) ≡ false → AllFinished (packets_of calls)
all_finished calls possible rests = finished_newest (packets_of calls) rests (sound_calls calls [] false (tt, tt) possible).1
