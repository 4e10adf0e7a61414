-- How an emitter goes from call to call.
use Rattle.std.proofs.Common.{◌≡◌, ℕ, zero, suc, ◌+◌, ◌-◌, ◌≤◌, Bool, true, false, List, [], ◌∷◌, ◌++◌, length, map, reverse, take, drop, Option, None, refl, sym, ap, ◌∙◌, subst, arith, append_assoc, length-append}
use Rattle.std.specs.Prelude.{not, ◌||◌, ◌&&◌, is_some}
use Rattle.std.specs.List.{repeat}
use Rattle.std.proofs.Math.ListN.{replicate}
use Rattle.std.proofs.lemmas.Bool.{false≢true}
use Rattle.std.proofs.lemmas.List.{append-nil, reverse-append, reverse-reverse, length-drop, drop_all, take_all, take_at, drop_at, take-append-le, drop-append-le}
use Rattle.std.proofs.lemmas.Grind.{common_steps}
use Rattle.trace_model.specs.Calls as calls
use Rattle.trace_model.specs.Encoding.{number_field, bytes_field, nested_tag}
use Rattle.wire_varint.specs.Varint.{redundant}
use Rattle.wire_varint.proofs.Lengths.{length-redundant}
use Rattle.trace_model.specs.Images.{with_bytes}
use Rattle.trace_model.specs.Record.{mark_where}
use Rattle.trace_model.specs.Packets.{Account, Packet, Text, begun_packet, closed_levels, flat, newest_is_lost, open_count, with_nested_ended, finished_packet, is_writing, noted, nothing_yet, open_length, open_places, packet_encoding, with_more, with_nested, written, emissions_in}
use Rattle.trace_model.proofs.PacketLemmas.{flat_written, emitted_more, emitted_still}
use Rattle.packet_runs.specs.Pieces.{pieces, AreEnds}
use Rattle.emitted_packets.specs.Emitting.{last_end, AreKept, Writes, IsGoingOn, IsEmitting}

pub emitting_none : IsEmitting nothing_yet [] [] []
emitting_none = record { done = []; current = []; cut = refl; last = refl; rising = tt; finished = refl; kept = tt; goes_on = (refl, refl) }

-- ---- levels of open messages

-- a message begins
flat_begun : (four bytes level : List ℕ) (outer : List (List ℕ))
    → flat four ([] ∷ (level ++ bytes) ∷ outer) ≡ flat four (level ∷ outer) ++ (bytes ++ four)
flat_begun four bytes level outer =
    append-nil (flat four ((level ++ bytes) ∷ outer) ++ four)
    ∙ ap (λ (xs : List ℕ). xs ++ four) (flat_written four bytes level outer)
    ∙ append_assoc (flat four (level ∷ outer)) bytes four

places_written : (bytes level : List ℕ) (outer : List (List ℕ)) → open_places ((level ++ bytes) ∷ outer) ≡ open_places (level ∷ outer)
places_written bytes level [] = refl
places_written bytes level (next ∷ others) = refl

-- ---- bytes that are put in, and texts that are repeated

pub length_put : (old : List ℕ) (at : ℕ) (bytes : List ℕ) → at + length bytes ≤ length old → length (with_bytes old at bytes) ≡ length old
length_put old at bytes fits = grind (arith, common_steps)

-- a text once more
pub one_more_turn : (n : ℕ) (xs : List ℕ) → repeat n xs ++ xs ≡ repeat (suc n) xs
one_more_turn zero xs = sym (append-nil xs)
one_more_turn (suc n) xs = append_assoc xs (repeat n xs) xs ∙ ap (λ (ys : List ℕ). xs ++ ys) (one_more_turn n xs)

-- ---- runs of one byte

repeat_one : (times byte : ℕ) → replicate times byte ≡ repeat times (byte ∷ [])
repeat_one zero byte = refl
repeat_one (suc times) byte = ap (λ (xs : List ℕ). byte ∷ xs) (repeat_one times byte)

-- bytes that are filled up to a greater length with one byte
pub filled_up : (bytes : List ℕ) (len more times byte : ℕ) → length bytes ≤ len → more ≡ times
    → take len bytes ++ replicate more byte ≡ bytes ++ repeat times (byte ∷ [])
filled_up bytes len more times byte longer same =
    ap (λ (xs : List ℕ). xs ++ replicate more byte) (take_all len bytes longer)
    ∙ ap (λ (xs : List ℕ). bytes ++ xs) (repeat_one more byte ∙ ap (λ (n : ℕ). repeat n (byte ∷ [])) same)

-- ---- a packet that goes on

-- the newest packet is written on
written_on : (packet new : Packet) (older : List Packet) (flushed : Bool) (bytes ends opens new_bytes new_opens current : List ℕ)
    (h : IsEmitting (record { packets = packet ∷ older; flushed = flushed }) bytes ends opens) → packet.finished ≡ false → new.finished ≡ false
    → new.kept ≡ packet.kept → new.given_up ≡ packet.given_up → new.follows_loss ≡ packet.follows_loss
    → new_bytes ≡ h.done ++ current → Writes new (length h.done) current new_opens
    → IsEmitting (record { packets = new ∷ older; flushed = flushed }) new_bytes ends new_opens
written_on packet new older flushed bytes ends opens new_bytes new_opens current h unfinished still kept given_up follows cut writes = record {
  done = h.done;
  current = current;
  cut = cut;
  last = h.last;
  rising = h.rising;
  finished = h.finished ∙ emitted_still packet older unfinished ∙ sym (emitted_still new older still);
  kept = (kept ∙ h.kept.0, given_up ∙ h.kept.1, follows ∙ h.kept.2, h.kept.3);
  goes_on = (λ e. absurd (false≢true (sym still ∙ e)), λ e. writes);
}

writing_is : (packet : Packet) (older : List Packet) → is_writing (packet ∷ older) ≡ true → packet.finished ≡ false
writing_is packet older e = by_value packet.finished e
  where
    by_value : (b : Bool) → not b ≡ true → b ≡ false
    by_value true e = absurd (false≢true e)
    by_value false e = refl

more_on : (packet : Packet) (older : List Packet) (flushed : Bool) (bytes ends opens more : List ℕ)
    → IsEmitting (record { packets = packet ∷ older; flushed = flushed }) bytes ends opens → packet.finished ≡ false
    → IsEmitting (record { packets = with_more more packet ∷ older; flushed = flushed }) (bytes ++ more) ends opens
more_on packet older flushed bytes ends opens more h unfinished =
    let w = h.goes_on.1 unfinished in
    written_on packet (with_more more packet) older flushed bytes ends opens (bytes ++ more) opens (h.current ++ more) h unfinished unfinished refl refl refl
    (ap (λ (xs : List ℕ). xs ++ more) h.cut ∙ append_assoc h.done h.current more)
    (record {
      level = w.level ++ more;
      outer = w.outer;
      levels = ap (written more) w.levels;
      bytes_are = ap (λ (xs : List ℕ). xs ++ more) w.bytes_are ∙ sym (flat_written open_length more w.level w.outer);
      places = ap (map (λ (place : ℕ). length h.done + place)) (places_written more w.level w.outer) ∙ w.places;
    })

pub number_on : (account : Account) (bytes ends opens : List ℕ) (field value : ℕ) → IsEmitting account bytes ends opens → is_writing account.packets ≡ true
    → IsEmitting (noted account (calls.Number field value)) (bytes ++ number_field field value) ends opens
number_on account bytes ends opens field value h writing = by_packets account.packets account.flushed h writing
  where
    by_packets : (packets : List Packet) (flushed : Bool) → IsEmitting (record { packets = packets; flushed = flushed }) bytes ends opens → is_writing packets ≡ true
        → IsEmitting (noted (record { packets = packets; flushed = flushed }) (calls.Number field value)) (bytes ++ number_field field value) ends opens
    by_packets [] flushed h writing = absurd (false≢true writing)
    by_packets (packet ∷ older) flushed h writing = more_on packet older flushed bytes ends opens (number_field field value) h (writing_is packet older writing)

pub bytes_on : (account : Account) (bytes ends opens : List ℕ) (field : ℕ) (text : List ℕ) (times : ℕ) → IsEmitting account bytes ends opens → is_writing account.packets ≡ true
    → IsEmitting (noted account (calls.Bytes field text times)) (bytes ++ bytes_field field text times) ends opens
bytes_on account bytes ends opens field text times h writing = by_packets account.packets account.flushed h writing
  where
    by_packets : (packets : List Packet) (flushed : Bool) → IsEmitting (record { packets = packets; flushed = flushed }) bytes ends opens → is_writing packets ≡ true
        → IsEmitting (noted (record { packets = packets; flushed = flushed }) (calls.Bytes field text times)) (bytes ++ bytes_field field text times) ends opens
    by_packets [] flushed h writing = absurd (false≢true writing)
    by_packets (packet ∷ older) flushed h writing = more_on packet older flushed bytes ends opens (bytes_field field text times) h (writing_is packet older writing)

-- ---- a nested message

tagged_twice : (done current tag : List ℕ) → (done ++ current) ++ (tag ++ open_length) ≡ done ++ (current ++ (tag ++ open_length))
tagged_twice done current tag = append_assoc done current (tag ++ open_length)

nested_at : (packet : Packet) (older : List Packet) (flushed : Bool) (bytes ends opens : List ℕ) (field : ℕ)
    → IsEmitting (record { packets = packet ∷ older; flushed = flushed }) bytes ends opens → packet.finished ≡ false
    → IsEmitting (record { packets = with_nested field packet ∷ older; flushed = flushed }) (bytes ++ (nested_tag field ++ open_length)) ends
    (opens ++ (length bytes + length (nested_tag field)) ∷ [])
nested_at packet older flushed bytes ends opens field h unfinished =
    let w = h.goes_on.1 unfinished in
    let tag : List ℕ = nested_tag field in
    let place : length h.done + length (flat open_length ((w.level ++ tag) ∷ w.outer)) ≡ length bytes + length tag =
    omega (arith, ap length h.cut, length-append h.done h.current, ap length w.bytes_are, ap length (flat_written open_length tag w.level w.outer), length-append (flat open_length (w.level ∷ w.outer)) tag) in
    written_on packet (with_nested field packet) older flushed bytes ends opens (bytes ++ (tag ++ open_length)) (opens ++ (length bytes + length tag) ∷ [])
    (h.current ++ (tag ++ open_length)) h unfinished unfinished refl refl refl
    (ap (λ (xs : List ℕ). xs ++ (tag ++ open_length)) h.cut ∙ tagged_twice h.done h.current tag)
    (record {
      level = [];
      outer = (w.level ++ tag) ∷ w.outer;
      levels = ap (λ (ls : List (List ℕ)). [] ∷ written tag ls) w.levels;
      bytes_are = ap (λ (xs : List ℕ). xs ++ (tag ++ open_length)) w.bytes_are ∙ sym (flat_begun open_length tag w.level w.outer);
      places = ap (λ (n : ℕ). n ∷ map (λ (p : ℕ). length h.done + p) (open_places ((w.level ++ tag) ∷ w.outer))) place
          ∙ ap (λ (ns : List ℕ). (length bytes + length tag) ∷ ns) (ap (map (λ (p : ℕ). length h.done + p)) (places_written tag w.level w.outer) ∙ w.places)
          ∙ sym (reverse-append opens ((length bytes + length tag) ∷ []));
    })

pub nested_on : (account : Account) (bytes ends opens : List ℕ) (field : ℕ) → IsEmitting account bytes ends opens → is_writing account.packets ≡ true
    → IsEmitting (noted account (calls.Nested field)) (bytes ++ (nested_tag field ++ open_length)) ends (opens ++ (length bytes + length (nested_tag field)) ∷ [])
nested_on account bytes ends opens field h writing = by_packets account.packets account.flushed h writing
  where
    by_packets : (packets : List Packet) (flushed : Bool) → IsEmitting (record { packets = packets; flushed = flushed }) bytes ends opens → is_writing packets ≡ true
        → IsEmitting (noted (record { packets = packets; flushed = flushed }) (calls.Nested field)) (bytes ++ (nested_tag field ++ open_length)) ends
        (opens ++ (length bytes + length (nested_tag field)) ∷ [])
    by_packets [] flushed h writing = absurd (false≢true writing)
    by_packets (packet ∷ older) flushed h writing = nested_at packet older flushed bytes ends opens field h (writing_is packet older writing)

-- four bytes in place of others
put_four : (front old new back : List ℕ) → length old ≡ length new → with_bytes (front ++ (old ++ back)) (length front) new ≡ front ++ (new ++ back)
put_four front old new back same =
    let first : take (length front) (front ++ (old ++ back)) ≡ front = take_at front (old ++ back) (length front) refl in
    let last : drop (length front + length new) (front ++ (old ++ back)) ≡ back =
    ap (λ (n : ℕ). drop n (front ++ (old ++ back))) (omega (arith, same, length-append front old))
    ∙ ap (drop (length (front ++ old))) (sym (append_assoc front old back)) ∙ drop_at (front ++ old) back (length (front ++ old)) refl in
    ap (λ (xs : List ℕ). xs ++ new ++ drop (length front + length new) (front ++ (old ++ back))) first
    ∙ ap (λ (xs : List ℕ). front ++ new ++ xs) last ∙ append_assoc front new back

-- what is known of the end of a message
pub record Ending (account : Account) (bytes ends opens : List ℕ) (offset : ℕ) : Type 0 where
  pub size : ℕ
  pub behind : offset + 4 + size ≡ length bytes
  pub emitting : IsEmitting account (with_bytes bytes offset (redundant size)) ends opens

ended_at : (packet : Packet) (older : List Packet) (flushed : Bool) (bytes ends opens : List ℕ) (offset : ℕ) (level next : List ℕ) (others : List (List ℕ))
    (h : IsEmitting (record { packets = packet ∷ older; flushed = flushed }) bytes ends (opens ++ offset ∷ [])) → packet.finished ≡ false
    → packet.text.levels ≡ level ∷ next ∷ others → h.current ≡ flat open_length (level ∷ next ∷ others)
    → map (λ (place : ℕ). length h.done + place) (open_places (level ∷ next ∷ others)) ≡ reverse (opens ++ offset ∷ [])
    → Ending (record { packets = with_nested_ended packet ∷ older; flushed = flushed }) bytes ends opens offset
ended_at packet older flushed bytes ends opens offset level next others h unfinished levels current_is places =
    let around : List ℕ = flat open_length (next ∷ others) in
    let four : List ℕ = redundant (length level) in
    let both : (length h.done + length around) ∷ map (λ (place : ℕ). length h.done + place) (open_places (next ∷ others)) ≡ offset ∷ reverse opens =
    places ∙ reverse-append opens (offset ∷ []) in
    let offset_is : offset ≡ length h.done + length around = heads _ _ _ _ (sym both) in
    let rest : map (λ (place : ℕ). length h.done + place) (open_places (next ∷ others)) ≡ reverse opens = tails _ _ _ _ both in
    let whole : bytes ≡ (h.done ++ around) ++ (open_length ++ level) =
    h.cut ∙ ap (λ (xs : List ℕ). h.done ++ xs) (current_is ∙ append_assoc around open_length level) ∙ sym (append_assoc h.done around (open_length ++ level)) in
    let put : with_bytes bytes offset four ≡ (h.done ++ around) ++ (four ++ level) =
    ap (λ (xs : List ℕ). with_bytes xs offset four) whole
    ∙ ap (λ (n : ℕ). with_bytes ((h.done ++ around) ++ (open_length ++ level)) n four) (omega (arith, offset_is, length-append h.done around))
    ∙ put_four (h.done ++ around) open_length four level (sym (length-redundant (length level))) in
    let closed_is : flat open_length ((next ++ four ++ level) ∷ others) ≡ around ++ (four ++ level) =
    flat_written open_length level (next ++ four) others ∙ ap (λ (xs : List ℕ). xs ++ level) (flat_written open_length four next others) ∙ append_assoc around four level in
    record {
      size = length level;
      behind = omega (arith, offset_is, ap length whole, length-append (h.done ++ around) (open_length ++ level), length-append h.done around, length-append open_length level);
      emitting = written_on packet (with_nested_ended packet) older flushed bytes ends (opens ++ offset ∷ []) (with_bytes bytes offset four) opens (around ++ (four ++ level)) h unfinished unfinished refl refl refl
          (put ∙ append_assoc h.done around (four ++ level))
          (record {
            level = next ++ four ++ level;
            outer = others;
            levels = ap (λ (ls : List (List ℕ)). (closed_levels ls packet.text.closed).levels) levels;
            bytes_are = sym closed_is;
            places = ap (map (λ (place : ℕ). length h.done + place)) (places_written level (next ++ four) others ∙ places_written four next others) ∙ rest;
          });
    }
  where
    heads : (x y : ℕ) (xs ys : List ℕ) → x ∷ xs ≡ y ∷ ys → x ≡ y
    heads x y xs ys e = cc

    tails : (x y : ℕ) (xs ys : List ℕ) → x ∷ xs ≡ y ∷ ys → xs ≡ ys
    tails x y xs ys e = cc

-- the innermost message ends, which isn't the packet itself
pub ended_on : (account : Account) (bytes ends opens old : List ℕ) (offset : ℕ) → old ≡ opens ++ offset ∷ [] → IsEmitting account bytes ends old → is_writing account.packets ≡ true
    → Ending (noted account calls.Ended) bytes ends opens offset
ended_on account bytes ends opens old offset pops h writing =
    by_packets account.packets account.flushed (subst (IsEmitting account bytes ends) pops h) writing
  where
    by_levels : (packet : Packet) (older : List Packet) (flushed : Bool) (level : List ℕ) (outer : List (List ℕ))
        (h : IsEmitting (record { packets = packet ∷ older; flushed = flushed }) bytes ends (opens ++ offset ∷ [])) → packet.finished ≡ false
        → packet.text.levels ≡ level ∷ outer → h.current ≡ flat open_length (level ∷ outer)
        → map (λ (place : ℕ). length h.done + place) (open_places (level ∷ outer)) ≡ reverse (opens ++ offset ∷ [])
        → Ending (record { packets = with_nested_ended packet ∷ older; flushed = flushed }) bytes ends opens offset
    by_levels packet older flushed level [] h unfinished levels current_is places =
        let none : [] ≡ offset ∷ reverse opens = places ∙ reverse-append opens (offset ∷ []) in absurd cc
    by_levels packet older flushed level (next ∷ others) h unfinished levels current_is places =
        ended_at packet older flushed bytes ends opens offset level next others h unfinished levels current_is places

    by_packets : (packets : List Packet) (flushed : Bool) → IsEmitting (record { packets = packets; flushed = flushed }) bytes ends (opens ++ offset ∷ []) → is_writing packets ≡ true
        → Ending (noted (record { packets = packets; flushed = flushed }) calls.Ended) bytes ends opens offset
    by_packets [] flushed h writing = absurd (false≢true writing)
    by_packets (packet ∷ older) flushed h writing =
        let unfinished = writing_is packet older writing in
        let w = h.goes_on.1 unfinished in
        by_levels packet older flushed w.level w.outer h unfinished w.levels w.bytes_are w.places

-- ---- a packet begins

kept_clean : (packets : List Packet) → AreKept packets → newest_is_lost packets ≡ false
kept_clean [] kept = refl
kept_clean (packet ∷ older) kept = by_parts packet.kept packet.given_up kept.0 kept.1
  where
    by_parts : (k : Bool) (g : Option Text) → k ≡ true → g ≡ None → (not k || is_some g) ≡ false
    by_parts k g e f = ap (λ (b : Bool). not b || is_some g) e ∙ ap (λ (o : Option Text). is_some o) f

pub begun_on : (account : Account) (bytes ends opens : List ℕ) → IsEmitting account bytes ends opens → is_writing account.packets ≡ false
    → IsEmitting (noted account (calls.Begun true)) bytes ends opens
begun_on account bytes ends opens h idle =
    let nothing = none_open account.packets (length h.done) h.current opens h.goes_on idle in
    let clean : newest_is_lost account.packets ≡ false = kept_clean account.packets h.kept in
    record {
      done = h.done;
      current = h.current;
      cut = h.cut;
      last = h.last;
      rising = h.rising;
      finished = h.finished ∙ sym (emitted_still (begun_packet true account) account.packets refl);
      kept = (refl, refl, clean, h.kept);
      goes_on = (
        λ e. absurd (false≢true e),
        λ e. record {
          level = [];
          outer = [];
          levels = ap (λ (b : Bool). mark_where b ∷ []) clean;
          bytes_are = nothing.0;
          places = sym (ap reverse nothing.1);
        },
      );
    }
  where
    none_open : (packets : List Packet) (start : ℕ) (current opens : List ℕ) → IsGoingOn packets start current opens → is_writing packets ≡ false → (current ≡ []) × (opens ≡ [])
    none_open [] start current opens g idle = g
    none_open (packet ∷ older) start current opens g idle = g.0 (by_value packet.finished idle)
      where
        by_value : (b : Bool) → not b ≡ false → b ≡ true
        by_value true e = refl
        by_value false e = absurd (false≢true (sym e))

pub flushed_on : (account : Account) (bytes ends opens : List ℕ) → IsEmitting account bytes ends opens → IsEmitting (noted account calls.Flushed) bytes ends opens
flushed_on account bytes ends opens h = record {
  done = h.done;
  current = h.current;
  cut = h.cut;
  last = h.last;
  rising = h.rising;
  finished = h.finished;
  kept = h.kept;
  goes_on = h.goes_on;
}

-- ---- a packet is finished

pub pieces_append : (a b : List ℕ) (start : ℕ) (ends : List ℕ) → start ≤ length a → AreEnds (length a) start ends → pieces (a ++ b) start ends ≡ pieces a start ends
pieces_append a b start [] low h = refl
pieces_append a b start (end ∷ ends) low h =
    let here : take (end - start) (drop start (a ++ b)) ≡ take (end - start) (drop start a) =
    ap (take (end - start)) (drop-append-le start a b low) ∙ take-append-le (end - start) (drop start a) b (omega (arith, h.0, h.1, length-drop start a)) in
    ap (λ (x : List ℕ). x ∷ pieces (a ++ b) end ends) here ∙ ap (λ (xs : List (List ℕ)). take (end - start) (drop start a) ∷ xs) (pieces_append a b end ends h.1 h.2)

pieces_push : (bytes : List ℕ) (start : ℕ) (ends : List ℕ) (end : ℕ)
    → pieces bytes start (ends ++ end ∷ []) ≡ pieces bytes start ends ++ take (end - last_end start ends) (drop (last_end start ends) bytes) ∷ []
pieces_push bytes start [] end = refl
pieces_push bytes start (first ∷ ends) end = ap (λ (xs : List (List ℕ)). take (first - start) (drop start bytes) ∷ xs) (pieces_push bytes first ends end)

last_push : (start : ℕ) (ends : List ℕ) (end : ℕ) → last_end start (ends ++ end ∷ []) ≡ end
last_push start [] end = refl
last_push start (first ∷ ends) end = last_push first ends end

rising_push : (size more start : ℕ) (ends : List ℕ) (end : ℕ) → AreEnds size start ends → size ≤ more → last_end start ends ≤ end → end ≤ more → AreEnds more start (ends ++ end ∷ [])
rising_push size more start [] end h low last most = (last, most, tt)
rising_push size more start (first ∷ ends) end h low last most = (h.0, omega (arith, h.1, low), rising_push size more first ends end h.2 low last most)

finished_at : (packet : Packet) (older : List Packet) (flushed : Bool) (bytes ends opens level : List ℕ)
    (h : IsEmitting (record { packets = packet ∷ older; flushed = flushed }) bytes ends opens) → packet.finished ≡ false
    → packet.text.levels ≡ level ∷ [] → h.current ≡ level → [] ≡ reverse opens
    → IsEmitting (record { packets = finished_packet packet ∷ older; flushed = flushed }) bytes (ends ++ length bytes ∷ []) opens
finished_at packet older flushed bytes ends opens level h unfinished levels current_is none =
    let cut : bytes ≡ h.done ++ level = h.cut ∙ ap (λ (xs : List ℕ). h.done ++ xs) current_is in
    let long : length bytes ≡ length h.done + length level = ap length cut ∙ length-append h.done level in
    let piece : take (length bytes - last_end 0 ends) (drop (last_end 0 ends) bytes) ≡ level =
    ap (λ (n : ℕ). take (length bytes - n) (drop n bytes)) h.last
    ∙ ap (λ (xs : List ℕ). take (length bytes - length h.done) (drop (length h.done) xs)) cut
    ∙ ap (take (length bytes - length h.done)) (drop_at h.done level (length h.done) refl)
    ∙ take_all (length bytes - length h.done) level (omega (arith, long)) in
    let encoding : packet_encoding (finished_packet packet) ≡ level =
    ap (λ (b : Bool). drop (length (mark_where (packet.kept && b))) (flat open_length packet.text.levels)) h.kept.2
    ∙ ap (λ (b : Bool). drop (length (mark_where (b && false))) (flat open_length packet.text.levels)) h.kept.0
    ∙ ap (flat open_length) levels in
    let opens_none : opens ≡ [] = sym (reverse-reverse opens) ∙ ap reverse (sym none) in
    record {
      done = bytes;
      current = [];
      cut = sym (append-nil bytes);
      last = last_push 0 ends (length bytes);
      rising = rising_push (length h.done) (length bytes) 0 ends (length bytes) h.rising (omega (arith, long)) (omega (arith, long, h.last)) (omega arith);
      finished = pieces_push bytes 0 ends (length bytes)
          ∙ ap (λ (x : List ℕ). pieces bytes 0 ends ++ x ∷ []) piece
          ∙ ap (λ (xs : List (List ℕ)). xs ++ level ∷ []) (ap (λ (b : List ℕ). pieces b 0 ends) cut ∙ pieces_append h.done level 0 ends (omega arith) h.rising
          ∙ h.finished ∙ emitted_still packet older unfinished)
          ∙ ap (λ (x : List ℕ). emissions_in older ++ x ∷ []) (sym encoding)
          ∙ sym (emitted_more (finished_packet packet) older true refl);
      kept = h.kept;
      goes_on = (λ e. (refl, opens_none), λ e. absurd (false≢true (sym e)));
    }

pub finished_on : (account : Account) (bytes ends opens : List ℕ) → IsEmitting account bytes ends opens → is_writing account.packets ≡ true → open_count account.packets ≡ 1
    → IsEmitting (noted account calls.Finished) bytes (ends ++ length bytes ∷ []) opens
finished_on account bytes ends opens h writing one = by_packets account.packets account.flushed h writing one
  where
    by_levels : (packet : Packet) (older : List Packet) (flushed : Bool) (level : List ℕ) (outer : List (List ℕ))
        (h : IsEmitting (record { packets = packet ∷ older; flushed = flushed }) bytes ends opens) → packet.finished ≡ false → length packet.text.levels ≡ 1
        → packet.text.levels ≡ level ∷ outer → h.current ≡ flat open_length (level ∷ outer)
        → map (λ (place : ℕ). length h.done + place) (open_places (level ∷ outer)) ≡ reverse opens
        → IsEmitting (record { packets = finished_packet packet ∷ older; flushed = flushed }) bytes (ends ++ length bytes ∷ []) opens
    by_levels packet older flushed level [] h unfinished one levels current_is places = finished_at packet older flushed bytes ends opens level h unfinished levels current_is places
    by_levels packet older flushed level (next ∷ others) h unfinished one levels current_is places = absurd (omega (arith, one, ap length levels))

    by_packets : (packets : List Packet) (flushed : Bool) → IsEmitting (record { packets = packets; flushed = flushed }) bytes ends opens → is_writing packets ≡ true → open_count packets ≡ 1
        → IsEmitting (noted (record { packets = packets; flushed = flushed }) calls.Finished) bytes (ends ++ length bytes ∷ []) opens
    by_packets [] flushed h writing one = absurd (false≢true writing)
    by_packets (packet ∷ older) flushed h writing one =
        let unfinished = writing_is packet older writing in
        let w = h.goes_on.1 unfinished in
        by_levels packet older flushed w.level w.outer h unfinished one w.levels w.bytes_are w.places

-- what a list holds once all of it was lent
pub put_back : {A : Type 0} (items new : List A) (count : ℕ) → count ≡ length items → length new ≡ length items → take count (new ++ drop (length new) items) ≡ new
put_back items new count all same =
    ap (λ xs. take count (new ++ xs)) (drop_all (length new) items (omega (arith, same)))
    ∙ ap (take count) (append-nil new) ∙ take_all count new (omega (arith, all, same))
