-- The four bytes of each length whose message has ended stand in a packet's bytes, at their place; and so do those that stand for an open one.
use Rattle.std.proofs.Common.{◌≡◌, ℕ, ◌+◌, ◌≤◌, ◌⊎◌, List, [], ◌∷◌, ◌++◌, length, Bool, Some, refl, sym, subst, arith, inl, inr, length-append, append_assoc}
use Rattle.std.specs.Prelude.{fold}
use Rattle.wire_varint.specs.Varint.{redundant}
use Rattle.wire_varint.proofs.Lengths.{length-redundant}
use Rattle.trace_model.specs.Calls.{Call, Begun, Number, Bytes, Nested, Ended, GivenUp, Finished, Flushed}
use Rattle.trace_model.specs.Encoding.{number_field, bytes_field, nested_tag}
use Rattle.trace_model.specs.Packets.{Packet, Account, Text, NestedLength, flat, open_length, open_places, written, closed_levels, on_newest, with_more, with_nested, with_nested_ended, given_up_packet, finished_packet, nothing_yet, noted, packets_of}
use Rattle.trace_model.proofs.CursorLemmas.{Each, each-append, each-then}
use Rattle.model_laws.proofs.TextSizes.{text_size}
use Rattle.commit_laws.proofs.Standing.{Stands, stands_more, stands_behind, stands_here}

-- The bytes stand in one of the levels of a text, at this place of the whole.
abbrev pub InLevels : List (List ℕ) → ℕ → List ℕ → Type 0
InLevels [] at ys = ⊥
InLevels (level ∷ []) at ys = Stands level at ys
InLevels (level ∷ outer ∷ others) at ys =
    InLevels (outer ∷ others) at ys ⊎ ((off : ℕ) × (at ≡ text_size (outer ∷ others) + 4 + off) × Stands level off ys)

-- Whatever four bytes stand for an open length

pub flat_long : (four : List ℕ) → length four ≡ 4 → (levels : List (List ℕ)) → length (flat four levels) ≡ text_size levels
flat_long four four_long [] = refl
flat_long four four_long (level ∷ []) = refl
flat_long four four_long (level ∷ outer ∷ others) =
    let rest = flat_long four four_long (outer ∷ others) in
    let one = length-append (flat four (outer ∷ others) ++ four) level in
    let two = length-append (flat four (outer ∷ others)) four in
    let one' = length-append (flat open_length (outer ∷ others) ++ open_length) level in
    let two' = length-append (flat open_length (outer ∷ others)) open_length in
    let four' : length open_length ≡ 4 = refl in
    omega (arith, rest, one, two, one', two', four', four_long)

pub in_flat : (four : List ℕ) → length four ≡ 4 → (levels : List (List ℕ)) (at : ℕ) (ys : List ℕ) → InLevels levels at ys → Stands (flat four levels) at ys
in_flat four four_long [] at ys h = absurd h
in_flat four four_long (level ∷ []) at ys h = h
in_flat four four_long (level ∷ outer ∷ others) at ys (inl h) =
    stands_more (flat four (outer ∷ others) ++ four) level at ys (stands_more (flat four (outer ∷ others)) four at ys (in_flat four four_long (outer ∷ others) at ys h))
in_flat four four_long (level ∷ outer ∷ others) at ys (inr h) =
    let rest = flat_long four four_long (outer ∷ others) in
    let long = length-append (flat four (outer ∷ others)) four in
    let off : ℕ = h.0 in
    let is = h.1 in
    let place : length (flat four (outer ∷ others) ++ four) + off ≡ at = omega (arith, rest, long, is, four_long) in
    subst (λ (n : ℕ). Stands (flat four (level ∷ outer ∷ others)) n ys) place (stands_behind (flat four (outer ∷ others) ++ four) level off ys h.2)

-- Levels that grow

pub in_written : (bytes : List ℕ) (levels : List (List ℕ)) (at : ℕ) (ys : List ℕ) → InLevels levels at ys → InLevels (written bytes levels) at ys
in_written bytes [] at ys h = absurd h
in_written bytes (level ∷ []) at ys h = stands_more level bytes at ys h
in_written bytes (level ∷ outer ∷ others) at ys (inl h) = inl h
in_written bytes (level ∷ outer ∷ others) at ys (inr h) = inr (h.0, h.1, stands_more level bytes h.0 ys h.2)

in_nested : (levels : List (List ℕ)) (at : ℕ) (ys : List ℕ) → InLevels levels at ys → InLevels ([] ∷ levels) at ys
in_nested [] at ys h = absurd h
in_nested (level ∷ others) at ys h = inl h

-- a level stands in the whole behind the others
in_level : (level : List ℕ) (others : List (List ℕ)) (off at : ℕ) (ys : List ℕ) → Stands level off ys → at + length level ≡ text_size (level ∷ others) + off → InLevels (level ∷ others) at ys
in_level level [] off at ys s e =
    let same : off ≡ at = omega (arith, e) in
    subst (λ (n : ℕ). Stands level n ys) same s
in_level level (outer ∷ others) off at ys s e =
    let one = length-append (flat open_length (outer ∷ others) ++ open_length) level in
    let two = length-append (flat open_length (outer ∷ others)) open_length in
    let four : length open_length ≡ 4 = refl in
    inr (off, omega (arith, e, one, two, four), s)

-- The level around a message that ends: its own bytes, the length, and the message.
module _ (level outer : List ℕ) (others : List (List ℕ)) where
  abbrev joined : List ℕ
  joined = outer ++ redundant (length level) ++ level

  joined_long : length joined ≡ length outer + 4 + length level
  joined_long =
      let one = length-append (outer ++ redundant (length level)) level in
      let two = length-append outer (redundant (length level)) in
      let four = length-redundant (length level) in
      omega (arith, one, two, four)

  joined_size : text_size (joined ∷ others) ≡ text_size (outer ∷ others) + 4 + length level
  joined_size = by_outer others
    where
      by_outer : (others : List (List ℕ)) → text_size (joined ∷ others) ≡ text_size (outer ∷ others) + 4 + length level
      by_outer [] = joined_long
      by_outer (next ∷ others) =
          let here = joined_long in
          let one = length-append (flat open_length (next ∷ others) ++ open_length) joined in
          let two = length-append (flat open_length (next ∷ others) ++ open_length) outer in
          omega (arith, here, one, two)

  -- what stood somewhere stands there still
  in_joined : (at : ℕ) (ys : List ℕ) → InLevels (level ∷ outer ∷ others) at ys → InLevels (joined ∷ others) at ys
  in_joined at ys (inl h) =
      subst (λ (xs : List ℕ). InLevels (xs ∷ others) at ys) (sym (append_assoc outer (redundant (length level)) level)) (in_written (redundant (length level) ++ level) (outer ∷ others) at ys h)
  in_joined at ys (inr h) =
      let off : ℕ = h.0 in
      let is = h.1 in
      let front = length-append outer (redundant (length level)) in
      let four = length-redundant (length level) in
      let long = joined_long in
      let size = joined_size in
      in_level joined others (length (outer ++ redundant (length level)) + off) at ys (stands_behind (outer ++ redundant (length level)) level off ys h.2)
      (omega (arith, is, front, four, long, size))

  -- and so does the length
  length_joined : InLevels (joined ∷ others) (text_size (outer ∷ others)) (redundant (length level))
  length_joined =
      let long = joined_long in
      let size = joined_size in
      in_level joined others (length outer) (text_size (outer ∷ others)) (redundant (length level))
      (subst (λ (xs : List ℕ). Stands xs (length outer) (redundant (length level))) (sym (append_assoc outer (redundant (length level)) level)) (stands_here outer (redundant (length level)) level))
      (omega (arith, long, size))

-- Texts

abbrev Stays : List (List ℕ) → NestedLength → Type 0
Stays levels nested = InLevels levels nested.at (redundant nested.size)

-- each length whose message has ended stands in the text
abbrev pub HasLengths : Text → Type 0
HasLengths text = Each (λ (nested : NestedLength). InLevels text.levels nested.at (redundant nested.size)) text.closed

lengths_more : (bytes : List ℕ) (text : Text) → HasLengths text → HasLengths (record text { levels = written bytes text.levels })
lengths_more bytes text h =
    each-then (Stays text.levels) (Stays (written bytes text.levels)) (λ nested s. in_written bytes text.levels nested.at (redundant nested.size) s) text.closed h

lengths_nested : (bytes : List ℕ) (text : Text) → HasLengths text → HasLengths (record text { levels = [] ∷ written bytes text.levels })
lengths_nested bytes text h =
    each-then (Stays (written bytes text.levels)) (Stays ([] ∷ written bytes text.levels)) (λ nested s. in_nested (written bytes text.levels) nested.at (redundant nested.size) s) text.closed
    (lengths_more bytes text h)

lengths_ended : (levels : List (List ℕ)) (closed : List NestedLength) → HasLengths (record { levels = levels; closed = closed }) → HasLengths (closed_levels levels closed)
lengths_ended [] closed h = h
lengths_ended (level ∷ []) closed h = h
lengths_ended (level ∷ outer ∷ others) closed h =
    each-append (Stays (joined level outer others ∷ others)) closed (record { at = text_size (outer ∷ others); size = length level } ∷ [])
    (each-then (Stays (level ∷ outer ∷ others)) (Stays (joined level outer others ∷ others)) (λ nested s. in_joined level outer others nested.at (redundant nested.size) s) closed h)
    (length_joined level outer others, tt)

-- Packets

pub record HasAllLengths (packet : Packet) : Type 0 where
  pub text : HasLengths packet.text
  pub given_up : (text : Text) → packet.given_up ≡ Some text → HasLengths text

module _ (change : Packet → Packet) (keeps : (packet : Packet) → HasAllLengths packet → HasAllLengths (change packet)) where
  newest_keeps : (packets : List Packet) (flushed : Bool) → Each HasAllLengths packets → Each HasAllLengths (on_newest change (record { packets = packets; flushed = flushed })).packets
  newest_keeps [] flushed h = h
  newest_keeps (packet ∷ older) flushed h = (keeps packet h.0, h.1)

lengths_noted : (account : Account) (call : Call) → Each HasAllLengths account.packets → Each HasAllLengths (noted account call).packets
lengths_noted account (Begun kept) h = (record { text = tt; given_up = λ text e. absurd (cc) }, h)
lengths_noted account (Number field value) h =
    newest_keeps (with_more (number_field field value)) (λ packet k. record { text = lengths_more (number_field field value) packet.text k.text; given_up = k.given_up }) account.packets account.flushed h
lengths_noted account (Bytes field text times) h =
    newest_keeps (with_more (bytes_field field text times)) (λ packet k. record { text = lengths_more (bytes_field field text times) packet.text k.text; given_up = k.given_up }) account.packets account.flushed h
lengths_noted account (Nested field) h =
    newest_keeps (with_nested field) (λ packet k. record { text = lengths_nested (nested_tag field) packet.text k.text; given_up = k.given_up }) account.packets account.flushed h
lengths_noted account Ended h =
    newest_keeps with_nested_ended (λ packet k. record { text = lengths_ended packet.text.levels packet.text.closed k.text; given_up = k.given_up }) account.packets account.flushed h
lengths_noted account GivenUp h =
    newest_keeps given_up_packet (λ packet k. record { text = k.text; given_up = λ text e. let same : packet.text ≡ text = cc in subst HasLengths same k.text }) account.packets account.flushed h
lengths_noted account Finished h = newest_keeps finished_packet (λ packet k. record { text = k.text; given_up = k.given_up }) account.packets account.flushed h
lengths_noted account Flushed h = h

lengths_all : (calls : List Call) (account : Account) → Each HasAllLengths account.packets → Each HasAllLengths (fold noted account calls).packets
lengths_all [] account h = h
lengths_all (call ∷ calls) account h = lengths_all calls (noted account call) (lengths_noted account call h)

pub have_lengths : (calls : List Call) → Each HasAllLengths (packets_of calls)
have_lengths calls = lengths_all calls nothing_yet tt

-- Open lengths

-- What stands in a level lies before or behind the four bytes of each open length.
pub apart_open : (levels : List (List ℕ)) (at : ℕ) (ys : List ℕ) → InLevels levels at ys → Each (λ (open_at : ℕ). (at + length ys ≤ open_at) ⊎ (open_at + 4 ≤ at)) (open_places levels)
apart_open [] at ys h = absurd h
apart_open (level ∷ []) at ys h = tt
apart_open (level ∷ outer ∷ others) at ys (inl h) =
    let stands = in_flat open_length refl (outer ∷ others) at ys h in
    (inl stands.fits, apart_open (outer ∷ others) at ys h)
apart_open (level ∷ outer ∷ others) at ys (inr h) =
    let is = h.1 in
    let off : ℕ = h.0 in
    (inr (omega (arith, is)), all_before (outer ∷ others) (omega (arith, is)))
  where
    all_before : (levels : List (List ℕ)) → text_size levels ≤ at → Each (λ (open_at : ℕ). (at + length ys ≤ open_at) ⊎ (open_at + 4 ≤ at)) (open_places levels)
    all_before [] low = tt
    all_before (level ∷ []) low = tt
    all_before (level ∷ outer ∷ others) low =
        let one = length-append (flat open_length (outer ∷ others) ++ open_length) level in
        let two = length-append (flat open_length (outer ∷ others)) open_length in
        let four : length open_length ≡ 4 = refl in
        (inr (omega (arith, low, one, two, four)), all_before (outer ∷ others) (omega (arith, low, one, two, four)))

-- what stands for an open length stands there, and is apart from the others
pub open_stand : (four : List ℕ) → length four ≡ 4 → (levels : List (List ℕ)) → Each (λ (open_at : ℕ). Stands (flat four levels) open_at four) (open_places levels)
open_stand four four_long [] = tt
open_stand four four_long (level ∷ []) = tt
open_stand four four_long (level ∷ outer ∷ others) =
    let long = flat_long four four_long (outer ∷ others) in (
      subst (λ (n : ℕ). Stands (flat four (level ∷ outer ∷ others)) n four) long
          (subst (λ (xs : List ℕ). Stands xs (length (flat four (outer ∷ others))) four) (sym (append_assoc (flat four (outer ∷ others)) four level)) (stands_here (flat four (outer ∷ others)) four level)),
      each-then (λ (open_at : ℕ). Stands (flat four (outer ∷ others)) open_at four) (λ (open_at : ℕ). Stands (flat four (level ∷ outer ∷ others)) open_at four)
          (λ open_at s. stands_more (flat four (outer ∷ others) ++ four) level open_at four (stands_more (flat four (outer ∷ others)) four open_at four s))
          (open_places (outer ∷ others)) (open_stand four four_long (outer ∷ others)),
    )
