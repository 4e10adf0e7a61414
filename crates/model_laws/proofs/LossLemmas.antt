-- Losses change no shape: packets that were lost, or follow a lost one, are those that were asked but for the mark in front.
use Rattle.std.proofs.Common.{◌≡◌, ◌∙◌, ℕ, suc, Bool, true, false, not, ◌&&◌, ◌||◌, List, [], ◌∷◌, ◌++◌, length, drop, refl, sym, ap, subst, append_assoc, append-nil, Option, None, is_some, cond}
use Rattle.std.specs.Prelude.{fold}
use Rattle.std.proofs.Math.Seq.{drop-append_seam}
use Rattle.wire_varint.specs.Varint.{redundant}
use Rattle.trace_model.specs.Calls.{Call, Begun, Number, Bytes, Nested, Ended, GivenUp, Finished, Flushed}
use Rattle.trace_model.specs.Encoding.{number_field, bytes_field, nested_tag}
use Rattle.trace_model.specs.Record.{mark_where}
use Rattle.trace_model.specs.Packets.{Packet, Account, Text, NestedLength, flat, open_length, written, closed_levels, begun_packet, on_newest, with_more, with_nested, with_nested_ended, given_up_packet, finished_packet, newest_is_lost, front_of, body_of, packet_encoding, noted, packets_of, emissions_in, emissions_of, is_writing, open_count, newest_length}
use Rattle.trace_model.proofs.PacketLemmas.{emitted_more}
use Rattle.model_laws.specs.Losses.{written_calls, HasShapeOf, LossesChangeNoShape}

-- Levels with a mark in front

-- these bytes in front of the packet's own level, which stands last
abbrev fronted : List ℕ → List (List ℕ) → List (List ℕ)
fronted front [] = []
fronted front (level ∷ []) = (front ++ level) ∷ []
fronted front (level ∷ outer ∷ others) = level ∷ fronted front (outer ∷ others)

written_fronted : (front bytes : List ℕ) (levels : List (List ℕ)) → written bytes (fronted front levels) ≡ fronted front (written bytes levels)
written_fronted front bytes [] = refl
written_fronted front bytes (level ∷ []) = ap (λ (xs : List ℕ). xs ∷ []) (append_assoc front level bytes)
written_fronted front bytes (level ∷ outer ∷ others) = refl

abbrev levels_closed : List (List ℕ) → List (List ℕ)
levels_closed [] = []
levels_closed (level ∷ []) = level ∷ []
levels_closed (level ∷ outer ∷ others) = (outer ++ redundant (length level) ++ level) ∷ others

closed_is : (levels : List (List ℕ)) (closed : List NestedLength) → (closed_levels levels closed).levels ≡ levels_closed levels
closed_is [] closed = refl
closed_is (level ∷ []) closed = refl
closed_is (level ∷ outer ∷ others) closed = refl

closed_fronted : (front : List ℕ) (levels : List (List ℕ)) → levels_closed (fronted front levels) ≡ fronted front (levels_closed levels)
closed_fronted front [] = refl
closed_fronted front (level ∷ []) = refl
closed_fronted front (level ∷ outer ∷ []) =
    ap (λ (xs : List ℕ). xs ∷ []) (append_assoc (front ++ outer) (redundant (length level)) level
    ∙ append_assoc front outer (redundant (length level) ++ level)
    ∙ ap (λ (xs : List ℕ). front ++ xs) (sym (append_assoc outer (redundant (length level)) level)))
closed_fronted front (level ∷ outer ∷ next ∷ others) = refl

-- a level stands there
abbrev IsSome : List (List ℕ) → Type 0
IsSome levels = (level : List ℕ) × ((outer : List (List ℕ)) × (levels ≡ level ∷ outer))

flat_fronted : (front level : List ℕ) (outer : List (List ℕ)) → flat open_length (fronted front (level ∷ outer)) ≡ front ++ flat open_length (level ∷ outer)
flat_fronted front level [] = refl
flat_fronted front level (next ∷ []) =
    append_assoc (front ++ next) open_length level ∙ append_assoc front next (open_length ++ level)
    ∙ ap (λ (xs : List ℕ). front ++ xs) (sym (append_assoc next open_length level))
flat_fronted front level (next ∷ further ∷ others) =
    ap (λ (xs : List ℕ). xs ++ open_length ++ level) (flat_fronted front next (further ∷ others))
    ∙ append_assoc (front ++ flat open_length (next ∷ further ∷ others)) open_length level
    ∙ append_assoc front (flat open_length (next ∷ further ∷ others)) (open_length ++ level)
    ∙ ap (λ (xs : List ℕ). front ++ xs) (sym (append_assoc (flat open_length (next ∷ further ∷ others)) open_length level))

length_fronted : (front : List ℕ) (levels : List (List ℕ)) → length (fronted front levels) ≡ length levels
length_fronted front [] = refl
length_fronted front (level ∷ []) = refl
length_fronted front (level ∷ outer ∷ others) = ap suc (length_fronted front (outer ∷ others))

-- Packets

-- The first packet is the second, which was asked, but for its mark and its losses.
record SamePacket (packet asked : Packet) : Type 0 where
  kept : asked.kept ≡ true
  follows : asked.follows_loss ≡ false
  whole : asked.given_up ≡ None
  finished : packet.finished ≡ asked.finished
  levels : packet.text.levels ≡ fronted (front_of packet) asked.text.levels
  level : List ℕ
  outer : List (List ℕ)
  some : asked.text.levels ≡ level ∷ outer

abbrev AllSame : List Packet → List Packet → Type 0
AllSame [] [] = Unit {0}
AllSame [] (asked ∷ others) = ⊥
AllSame (packet ∷ packets) [] = ⊥
AllSame (packet ∷ packets) (asked ∷ others) = SamePacket packet asked × AllSame packets others

none_lost : (packets asked : List Packet) → AllSame packets asked → newest_is_lost asked ≡ false
none_lost [] [] h = refl
none_lost [] (one ∷ others) h = absurd h
none_lost (packet ∷ packets) [] h = absurd h
none_lost (packet ∷ packets) (one ∷ others) h =
    ap (λ (b : Bool). not b || is_some one.given_up) h.0.kept ∙ ap (λ (o : Option Text). is_some o) h.0.whole

same_more : (bytes : List ℕ) (packet asked : Packet) → SamePacket packet asked → SamePacket (with_more bytes packet) (with_more bytes asked)
same_more bytes packet asked h = record {
  kept = h.kept;
  follows = h.follows;
  whole = h.whole;
  finished = h.finished;
  levels = ap (written bytes) h.levels ∙ written_fronted (front_of packet) bytes asked.text.levels;
  level = h.level ++ bytes;
  outer = h.outer;
  some = ap (written bytes) h.some;
}

same_nested : (field : ℕ) (packet asked : Packet) → SamePacket packet asked → SamePacket (with_nested field packet) (with_nested field asked)
same_nested field packet asked h =
    let more : SamePacket (with_more (nested_tag field) packet) (with_more (nested_tag field) asked) = same_more (nested_tag field) packet asked h in
    record {
      kept = h.kept;
      follows = h.follows;
      whole = h.whole;
      finished = h.finished;
      levels = ap (λ (levels : List (List ℕ)). [] ∷ levels) more.levels
          ∙ ap (λ (levels : List (List ℕ)). [] ∷ fronted (front_of packet) levels) more.some
          ∙ sym (ap (λ (levels : List (List ℕ)). fronted (front_of packet) ([] ∷ levels)) more.some);
      level = [];
      outer = more.level ∷ more.outer;
      some = ap (λ (levels : List (List ℕ)). [] ∷ levels) more.some;
    }

same_ended : (packet asked : Packet) → SamePacket packet asked → SamePacket (with_nested_ended packet) (with_nested_ended asked)
same_ended packet asked h =
    let left : IsSome (levels_closed asked.text.levels) = subst (λ (levels : List (List ℕ)). IsSome (levels_closed levels)) (sym h.some) (some_left h.level h.outer) in
    record {
      kept = h.kept;
      follows = h.follows;
      whole = h.whole;
      finished = h.finished;
      levels = closed_is packet.text.levels packet.text.closed
          ∙ ap levels_closed h.levels
          ∙ closed_fronted (front_of packet) asked.text.levels
          ∙ sym (ap (fronted (front_of packet)) (closed_is asked.text.levels asked.text.closed));
      level = left.0;
      outer = left.1.0;
      some = closed_is asked.text.levels asked.text.closed ∙ left.1.1;
    }
  where
    some_left : (level : List ℕ) (outer : List (List ℕ)) → IsSome (levels_closed (level ∷ outer))
    some_left level [] = (level, ([], refl))
    some_left level (next ∷ others) = (next ++ redundant (length level) ++ level, (others, refl))

same_given : (packet asked : Packet) → SamePacket packet asked → SamePacket (given_up_packet packet) asked
same_given packet asked h = record {
  kept = h.kept;
  follows = h.follows;
  whole = h.whole;
  finished = h.finished;
  levels = h.levels;
  level = h.level;
  outer = h.outer;
  some = h.some;
}

same_finished : (packet asked : Packet) → SamePacket packet asked → SamePacket (finished_packet packet) (finished_packet asked)
same_finished packet asked h = record {
  kept = h.kept;
  follows = h.follows;
  whole = h.whole;
  finished = refl;
  levels = h.levels;
  level = h.level;
  outer = h.outer;
  some = h.some;
}

-- Calls

abbrev pub account_with : List Packet → Bool → Account
account_with packets flushed = record { packets = packets; flushed = flushed }

same_newest : (f g : Packet → Packet) → ((packet asked : Packet) → SamePacket packet asked → SamePacket (f packet) (g asked))
    → (packets asked : List Packet) (a b : Bool) → AllSame packets asked
    → AllSame (on_newest f (account_with packets a)).packets (on_newest g (account_with asked b)).packets
same_newest f g same [] [] a b h = tt
same_newest f g same [] (one ∷ others) a b h = absurd h
same_newest f g same (packet ∷ packets) [] a b h = absurd h
same_newest f g same (packet ∷ packets) (one ∷ others) a b h = (same packet one h.0, h.1)

same_alone : (f : Packet → Packet) → ((packet asked : Packet) → SamePacket packet asked → SamePacket (f packet) asked)
    → (packets asked : List Packet) (a : Bool) → AllSame packets asked → AllSame (on_newest f (account_with packets a)).packets asked
same_alone f same [] [] a h = tt
same_alone f same [] (one ∷ others) a h = absurd h
same_alone f same (packet ∷ packets) [] a h = absurd h
same_alone f same (packet ∷ packets) (one ∷ others) a h = (same packet one h.0, h.1)

same_begun : (kept : Bool) (packets asked : List Packet) (a b : Bool) → AllSame packets asked
    → SamePacket (begun_packet kept (account_with packets a)) (begun_packet true (account_with asked b))
same_begun kept packets asked a b h =
    let none : newest_is_lost asked ≡ false = none_lost packets asked h in
    let front : List ℕ = mark_where (kept && newest_is_lost packets) in
    record {
      kept = refl;
      follows = none;
      whole = refl;
      finished = refl;
      levels = ap (λ (xs : List ℕ). xs ∷ []) (sym (append-nil front))
          ∙ sym (ap (λ (x : Bool). fronted front (mark_where x ∷ [])) none);
      level = mark_where (newest_is_lost asked);
      outer = [];
      some = refl;
    }

same_calls : (calls : List Call) (packets asked : List Packet) (a b : Bool) → AllSame packets asked
    → AllSame (fold noted (account_with packets a) calls).packets (fold noted (account_with asked b) (written_calls calls)).packets
same_calls [] packets asked a b h = h
same_calls (Begun kept ∷ calls) packets asked a b h =
    same_calls calls (begun_packet kept (account_with packets a) ∷ packets) (begun_packet true (account_with asked b) ∷ asked) false false (same_begun kept packets asked a b h, h)
same_calls (Number field value ∷ calls) packets asked a b h =
    same_calls calls (on_newest (with_more (number_field field value)) (account_with packets a)).packets (on_newest (with_more (number_field field value)) (account_with asked b)).packets a b
    (same_newest (with_more (number_field field value)) (with_more (number_field field value)) (same_more (number_field field value)) packets asked a b h)
same_calls (Bytes field text times ∷ calls) packets asked a b h =
    same_calls calls (on_newest (with_more (bytes_field field text times)) (account_with packets a)).packets (on_newest (with_more (bytes_field field text times)) (account_with asked b)).packets a b
    (same_newest (with_more (bytes_field field text times)) (with_more (bytes_field field text times)) (same_more (bytes_field field text times)) packets asked a b h)
same_calls (Nested field ∷ calls) packets asked a b h =
    same_calls calls (on_newest (with_nested field) (account_with packets a)).packets (on_newest (with_nested field) (account_with asked b)).packets a b
    (same_newest (with_nested field) (with_nested field) (same_nested field) packets asked a b h)
same_calls (Ended ∷ calls) packets asked a b h =
    same_calls calls (on_newest with_nested_ended (account_with packets a)).packets (on_newest with_nested_ended (account_with asked b)).packets a b
    (same_newest with_nested_ended with_nested_ended same_ended packets asked a b h)
same_calls (GivenUp ∷ calls) packets asked a b h =
    same_calls calls (on_newest given_up_packet (account_with packets a)).packets asked a b (same_alone given_up_packet same_given packets asked a h)
same_calls (Finished ∷ calls) packets asked a b h =
    same_calls calls (on_newest finished_packet (account_with packets a)).packets (on_newest finished_packet (account_with asked b)).packets a b
    (same_newest finished_packet finished_packet same_finished packets asked a b h)
same_calls (Flushed ∷ calls) packets asked a b h = same_calls calls packets asked true b h

-- What they emit

same_encoding : (packet asked : Packet) → SamePacket packet asked → packet_encoding packet ≡ packet_encoding asked
same_encoding packet asked h =
    let front : List ℕ = front_of packet in
    let bytes : body_of packet ≡ front ++ body_of asked =
    ap (flat open_length) h.levels
    ∙ ap (λ (levels : List (List ℕ)). flat open_length (fronted front levels)) h.some
    ∙ flat_fronted front h.level h.outer
    ∙ sym (ap (λ (levels : List (List ℕ)). front ++ flat open_length levels) h.some) in
    let unmarked : front_of asked ≡ [] = ap (λ (b : Bool). mark_where (asked.kept && b)) h.follows ∙ ap (λ (b : Bool). mark_where (b && false)) h.kept in
    ap (drop (length front)) bytes
    ∙ drop-append_seam front (body_of asked)
    ∙ sym (ap (λ (xs : List ℕ). drop (length xs) (body_of asked)) unmarked)

abbrev pub emitted_one : Packet → List (List ℕ)
emitted_one packet = cond packet.finished (packet_encoding packet ∷ []) []

same_emitted : (packets asked : List Packet) → AllSame packets asked → emissions_in packets ≡ emissions_in asked
same_emitted [] [] h = refl
same_emitted [] (one ∷ others) h = absurd h
same_emitted (packet ∷ packets) [] h = absurd h
same_emitted (packet ∷ packets) (one ∷ others) h =
    emitted_more packet packets packet.finished refl
    ∙ ap (λ (xs : List (List ℕ)). xs ++ emitted_one packet) (same_emitted packets others h.1)
    ∙ ap (λ (b : Bool). emissions_in others ++ cond b (packet_encoding packet ∷ []) []) h.0.finished
    ∙ ap (λ (xs : List ℕ). emissions_in others ++ cond one.finished (xs ∷ []) []) (same_encoding packet one h.0)
    ∙ sym (emitted_more one others one.finished refl)

same_many : (packets asked : List Packet) → AllSame packets asked → length packets ≡ length asked
same_many [] [] h = refl
same_many [] (one ∷ others) h = absurd h
same_many (packet ∷ packets) [] h = absurd h
same_many (packet ∷ packets) (one ∷ others) h = ap suc (same_many packets others h.1)

same_newest_parts : (packets asked : List Packet) → AllSame packets asked
    → (is_writing packets ≡ is_writing asked) × ((open_count packets ≡ open_count asked) × (newest_length packets ≡ newest_length asked))
same_newest_parts [] [] h = (refl, (refl, refl))
same_newest_parts [] (one ∷ others) h = absurd h
same_newest_parts (packet ∷ packets) [] h = absurd h
same_newest_parts (packet ∷ packets) (one ∷ others) h = (
  ap not h.0.finished,
  (ap length h.0.levels ∙ length_fronted (front_of packet) one.text.levels, ap length (same_encoding packet one h.0)),
)

shape_of : (calls : List Call) → HasShapeOf (written_calls calls) calls
shape_of calls =
    let same : AllSame (packets_of calls) (packets_of (written_calls calls)) = same_calls calls [] [] false false tt in
    let newest = same_newest_parts (packets_of calls) (packets_of (written_calls calls)) same in
    record {
      emitted = same_emitted (packets_of calls) (packets_of (written_calls calls)) same;
      begun = same_many (packets_of calls) (packets_of (written_calls calls)) same;
      writing = newest.0;
      depth = newest.1.0;
      long = newest.1.1;
    }

pub losses_change_no_shape : LossesChangeNoShape
losses_change_no_shape asked done loses =
    let here : HasShapeOf (written_calls done) done = shape_of done in
    let there : HasShapeOf (written_calls asked) asked = shape_of asked in
    record {
      emitted = here.emitted ∙ ap emissions_of loses ∙ sym there.emitted;
      begun = here.begun ∙ ap (λ (calls : List Call). length (packets_of calls)) loses ∙ sym there.begun;
      writing = here.writing ∙ ap (λ (calls : List Call). is_writing (packets_of calls)) loses ∙ sym there.writing;
      depth = here.depth ∙ ap (λ (calls : List Call). open_count (packets_of calls)) loses ∙ sym there.depth;
      long = here.long ∙ ap (λ (calls : List Call). newest_length (packets_of calls)) loses ∙ sym there.long;
    }

-- what calls write that come one behind another
pub written_append : (xs ys : List Call) → written_calls (xs ++ ys) ≡ written_calls xs ++ written_calls ys
written_append [] ys = refl
written_append (Begun kept ∷ xs) ys = ap (λ (cs : List Call). Begun true ∷ cs) (written_append xs ys)
written_append (Number field value ∷ xs) ys = ap (λ (cs : List Call). Number field value ∷ cs) (written_append xs ys)
written_append (Bytes field text times ∷ xs) ys = ap (λ (cs : List Call). Bytes field text times ∷ cs) (written_append xs ys)
written_append (Nested field ∷ xs) ys = ap (λ (cs : List Call). Nested field ∷ cs) (written_append xs ys)
written_append (Ended ∷ xs) ys = ap (λ (cs : List Call). Ended ∷ cs) (written_append xs ys)
written_append (GivenUp ∷ xs) ys = written_append xs ys
written_append (Finished ∷ xs) ys = ap (λ (cs : List Call). Finished ∷ cs) (written_append xs ys)
written_append (Flushed ∷ xs) ys = written_append xs ys
