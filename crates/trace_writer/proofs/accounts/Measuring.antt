-- The length of the packet that is begun and the starts of its messages, behind a call.
use Rattle.std.proofs.Common.{◌≡◌, ◌∙◌, ℕ, ◌+◌, ◌<◌, List, [], ◌∷◌, ◌++◌, length, map, reverse, refl, sym, ap, arith, length-append}
use Rattle.std.proofs.lemmas.List.{map-append, reverse-append, reverse-reverse}
use Rattle.wire_varint.specs.Varint.{redundant}
use Rattle.wire_varint.proofs.Lengths.{length-redundant}
use Rattle.trace_model.specs.Packets.{Packet, NestedLength, flat, open_length, open_places, written, closed_levels, with_more, with_nested_ended, front_of, body_of}
use Rattle.trace_model.proofs.PacketLemmas.{flat_written}
use Rattle.cut_steps.specs.Writing.{with_open}
use Rattle.cut_steps.proofs.Places.{flat_begun, open_places-innermost, length_flat_closed}
use Rattle.cut_steps.proofs.StepLemmas.{open_places-written}
use Rattle.trace_writer.specs.declared.packet.OpenPacket.{OpenPacket}
use Rattle.trace_writer.specs.Agreement.{IsMeasured}

-- Bytes

pub long_written : (bytes : List ℕ) (levels : List (List ℕ)) → 0 < length levels
    → length (flat open_length (written bytes levels)) ≡ length (flat open_length levels) + length bytes
long_written bytes [] some = absurd (omega (arith, some))
long_written bytes (level ∷ others) some =
    ap length (flat_written open_length bytes level others) ∙ length-append (flat open_length (level ∷ others)) bytes

pub measured_more : (open_one later : OpenPacket) (packet : Packet) (bytes : List ℕ) (count : ℕ) → length bytes ≡ count
    → later.len ≡ open_one.len + count → later.starts.items ≡ open_one.starts.items → 0 < length packet.text.levels
    → IsMeasured open_one packet → IsMeasured later (with_more bytes packet)
measured_more open_one later packet bytes count count_is len_is starts_is some m = record {
  len = let long : length (body_of (with_more bytes packet)) ≡ length (body_of packet) + length bytes = long_written bytes packet.text.levels some in
      omega (arith, m.len, len_is, count_is, long);
  starts = ap (map (λ (start : ℕ). start + length (front_of packet))) starts_is
      ∙ m.starts
      ∙ ap (λ (places : List ℕ). reverse (map (λ (at : ℕ). at + 4) places)) (sym (open_places-written bytes packet.text.levels));
}

-- A message begins

pub long_opened : (tag : List ℕ) (levels : List (List ℕ)) → 0 < length levels
    → length (flat open_length ([] ∷ written tag levels)) ≡ length (flat open_length levels) + (length tag + 4)
long_opened tag [] some = absurd (omega (arith, some))
long_opened tag (level ∷ others) some =
    let begun : length (flat open_length ([] ∷ (level ++ tag) ∷ others)) ≡ length (flat open_length ((level ++ tag) ∷ others)) + 4 =
    ap length (flat_begun open_length (level ++ tag) others) ∙ length-append (flat open_length ((level ++ tag) ∷ others)) open_length in
    let tagged : length (flat open_length ((level ++ tag) ∷ others)) ≡ length (flat open_length (level ∷ others)) + length tag = long_written tag (level ∷ others) some in
    omega (arith, begun, tagged)

starts_opened : (levels : List (List ℕ)) (tag starts : List ℕ) (last front : ℕ) → 0 < length levels
    → last + front ≡ length (flat open_length levels) + (length tag + 4)
    → map (λ (start : ℕ). start + front) starts ≡ reverse (map (λ (at : ℕ). at + 4) (open_places levels))
    → map (λ (start : ℕ). start + front) (starts ++ last ∷ []) ≡ reverse (map (λ (at : ℕ). at + 4) (open_places ([] ∷ written tag levels)))
starts_opened [] tag starts last front some last_is are = absurd (omega (arith, some))
starts_opened (level ∷ others) tag starts last front some last_is are =
    let place : ℕ = length (flat open_length ((level ++ tag) ∷ others)) in
    let tagged : place ≡ length (flat open_length (level ∷ others)) + length tag = long_written tag (level ∷ others) some in
    let end : last + front ≡ place + 4 = omega (arith, last_is, tagged) in
    let ends : List ℕ = map (λ (at : ℕ). at + 4) (open_places ((level ++ tag) ∷ others)) in
    map-append (λ (start : ℕ). start + front) starts (last ∷ [])
    ∙ ap (λ (xs : List ℕ). xs ++ (last + front) ∷ []) are
    ∙ ap (λ (places : List ℕ). reverse (map (λ (at : ℕ). at + 4) places) ++ (last + front) ∷ []) (open_places-innermost level (level ++ tag) others)
    ∙ ap (λ (n : ℕ). reverse ends ++ n ∷ []) end
    ∙ sym (reverse-append ((place + 4) ∷ []) ends)

pub measured_nested : (open_one later : OpenPacket) (packet : Packet) (tag : List ℕ) (count : ℕ) → length tag ≡ count → later.len ≡ open_one.len + (count + 4)
    → later.starts.items ≡ open_one.starts.items ++ later.len ∷ [] → 0 < length packet.text.levels
    → IsMeasured open_one packet → IsMeasured later (with_open (with_more tag packet))
measured_nested open_one later packet tag count count_is len_is starts_is some m =
    let long : length (body_of (with_open (with_more tag packet))) ≡ length (body_of packet) + (length tag + 4) = long_opened tag packet.text.levels some in
    record {
      len = omega (arith, m.len, len_is, count_is, long);
      starts = ap (map (λ (start : ℕ). start + length (front_of packet))) starts_is
          ∙ starts_opened packet.text.levels tag open_one.starts.items later.len (length (front_of packet)) some (omega (arith, m.len, len_is, count_is)) m.starts;
    }

-- A message ends

pub record Last (xs : List ℕ) : Type 0 where
  pub front : List ℕ
  pub last : ℕ
  pub is : xs ≡ front ++ last ∷ []

pub last_of : (xs : List ℕ) → 0 < length xs → Last xs
last_of [] some = absurd (omega (arith, some))
last_of (x ∷ []) some = record { front = []; last = x; is = refl }
last_of (x ∷ y ∷ ys) some =
    let rest : Last (y ∷ ys) = last_of (y ∷ ys) (omega arith) in
    record { front = x ∷ rest.front; last = rest.last; is = ap (λ (zs : List ℕ). x ∷ zs) rest.is }

-- the innermost message's start, where it is in the packet's bytes
pub record Innermost (levels : List (List ℕ)) (outs : List ℕ) (start front : ℕ) : Type 0 where
  pub level : List ℕ
  pub outer : List ℕ
  pub others : List (List ℕ)
  pub levels_are : levels ≡ level ∷ outer ∷ others
  pub start_is : start + front ≡ length (flat open_length (outer ∷ others)) + 4
  pub outs_are : map (λ (s : ℕ). s + front) outs ≡ reverse (map (λ (at : ℕ). at + 4) (open_places (outer ∷ others)))
  pub long : length (flat open_length levels) ≡ start + front + length level

pub innermost : (levels : List (List ℕ)) (starts outs : List ℕ) (start front : ℕ) → starts ≡ outs ++ start ∷ []
    → map (λ (s : ℕ). s + front) starts ≡ reverse (map (λ (at : ℕ). at + 4) (open_places levels)) → Innermost levels outs start front
innermost levels starts outs start front starts_are are = by_levels levels turned
  where
    turned : (start + front) ∷ reverse (map (λ (s : ℕ). s + front) outs) ≡ map (λ (at : ℕ). at + 4) (open_places levels)
    turned =
        sym (reverse-append (map (λ (s : ℕ). s + front) outs) ((start + front) ∷ []))
        ∙ ap reverse (sym (map-append (λ (s : ℕ). s + front) outs (start ∷ [])))
        ∙ ap (λ (xs : List ℕ). reverse (map (λ (s : ℕ). s + front) xs)) (sym starts_are)
        ∙ ap reverse are
        ∙ reverse-reverse (map (λ (at : ℕ). at + 4) (open_places levels))

    by_levels : (ls : List (List ℕ)) → (start + front) ∷ reverse (map (λ (s : ℕ). s + front) outs) ≡ map (λ (at : ℕ). at + 4) (open_places ls)
        → Innermost ls outs start front
    by_levels [] e = absurd (cc)
    by_levels (level ∷ []) e = absurd (cc)
    by_levels (level ∷ outer ∷ others) e =
        let head : start + front ≡ length (flat open_length (outer ∷ others)) + 4 = cc in
        let tail : reverse (map (λ (s : ℕ). s + front) outs) ≡ map (λ (at : ℕ). at + 4) (open_places (outer ∷ others)) = cc in
        let whole : length (flat open_length (level ∷ outer ∷ others)) ≡ length (flat open_length (outer ∷ others)) + 4 + length level =
        length-append (flat open_length (outer ∷ others) ++ open_length) level
        ∙ ap (λ (n : ℕ). n + length level) (length-append (flat open_length (outer ∷ others)) open_length) in
        record {
          level = level;
          outer = outer;
          others = others;
          levels_are = refl;
          start_is = head;
          outs_are = sym (reverse-reverse (map (λ (s : ℕ). s + front) outs)) ∙ ap reverse tail;
          long = omega (arith, head, whole);
        }

pub long_ended : (levels : List (List ℕ)) (closed : List NestedLength) → length (flat open_length (closed_levels levels closed).levels) ≡ length (flat open_length levels)
long_ended [] closed = refl
long_ended (level ∷ []) closed = refl
long_ended (level ∷ outer ∷ others) closed = length_flat_closed (redundant (length level)) level outer others (length-redundant (length level))

pub measured_ended : (open_one later : OpenPacket) (packet : Packet) (outs : List ℕ) (start : ℕ) → open_one.starts.items ≡ outs ++ start ∷ []
    → later.len ≡ open_one.len → later.starts.items ≡ outs → IsMeasured open_one packet → IsMeasured later (with_nested_ended packet)
measured_ended open_one later packet outs start starts_are len_is starts_is m =
    let inner : Innermost packet.text.levels outs start (length (front_of packet)) =
    innermost packet.text.levels open_one.starts.items outs start (length (front_of packet)) starts_are m.starts in
    let long : length (body_of (with_nested_ended packet)) ≡ length (body_of packet) = long_ended packet.text.levels packet.text.closed in
    record {
      len = omega (arith, m.len, len_is, long);
      starts = ap (map (λ (s : ℕ). s + length (front_of packet))) starts_is
          ∙ inner.outs_are
          ∙ ap (λ (places : List ℕ). reverse (map (λ (at : ℕ). at + 4) places))
          (open_places-innermost inner.outer (inner.outer ++ redundant (length inner.level) ++ inner.level) inner.others
          ∙ ap (λ (ls : List (List ℕ)). open_places (closed_levels ls packet.text.closed).levels) (sym inner.levels_are));
    }
