-- No packet that the lines of a scenario ask for begins with the mark: the mark is a field of the service's own.
use Rattle.std.proofs.Common.{◌≡◌, ◌∙◌, ℕ, zero, suc, ◌+◌, ◌*◌, ◌<◌, ◌⊎◌, Bool, true, false, List, [], ◌∷◌, ◌++◌, Option, Some, None, length, drop, refl, sym, ap, subst, arith, append_assoc, inl, inr, lit<}
use Rattle.std.specs.Prelude.{fold, not, ◌&&◌, ◌||◌, is_some, slice_get}
use Rattle.std.specs.List.{repeat}
use Rattle.std.proofs.lemmas.Bool.{false≢true}
use Rattle.std.proofs.lemmas.List.{append-nil}
use Rattle.wire_varint.specs.Varint.{varint, redundant, tag, groups}
use Rattle.wire_varint.proofs.Varints.{one_varint, tag_is_varint}
use Rattle.trace_base.specs.Reserved.{is_reserved}
use Rattle.trace_model.specs.Calls.{Call, Begun, Number, Bytes, Nested, Ended, GivenUp, Finished, Flushed}
use Rattle.trace_model.specs.Encoding.{number_field, bytes_field, bytes_head, nested_tag}
use Rattle.trace_model.specs.Record.{dropped_mark, mark_where}
use Rattle.trace_model.specs.Packets.{Account, Packet, Text, NestedLength, closed_levels, flat, newest_is_lost, noted, nothing_yet, open_length, packet_encoding, packets_of, emissions_of, written, emissions_in}
use Rattle.trace_model.proofs.PacketLemmas.{emitted_more, emitted_still}
use Rattle.trace_file.specs.Apart.{BeginsWithMark}
use Rattle.field_tree.specs.Nodes.{IsField}
use Rattle.scenario_text.specs.Accepted.{Accepts, AreAccepted}

-- ---- bytes that begin with a field which isn't the service's own

pub record BeginsFree (bytes : List ℕ) : Type 0 where
  pub field : ℕ
  pub wire : ℕ
  pub rest : List ℕ
  pub numbered : IsField field
  pub low : wire < 8
  pub free : is_reserved field ≡ false
  pub is : bytes ≡ tag field wire ++ rest

mark_is : dropped_mark ≡ tag 42 0 ++ 0x01 ∷ []
unfolding tag varint groups
mark_is = refl

same_field : (field wire : ℕ) → wire < 8 → 8 * field + wire ≡ 8 * 42 + 0 → field ≡ 42
same_field field wire low e = omega (arith, low, e)

free_unmarked : (bytes : List ℕ) → BeginsFree bytes → BeginsWithMark bytes → ⊥
free_unmarked bytes f (rest, e) =
    let whole : tag f.field f.wire ++ f.rest ≡ tag 42 0 ++ (0x01 ∷ rest) =
    sym f.is ∙ e ∙ ap (λ (xs : List ℕ). xs ++ rest) mark_is ∙ append_assoc (tag 42 0) (0x01 ∷ []) rest in
    let one = one_varint (tag f.field f.wire) (tag 42 0) f.rest (0x01 ∷ rest) (8 * f.field + f.wire) (8 * 42 + 0)
    (tag_is_varint f.field f.wire (omega (arith, f.numbered.1)) f.low) (tag_is_varint 42 0 (lit< tt) (lit< tt)) whole in
    let same : f.field ≡ 42 = same_field f.field f.wire f.low one.1 in
    let reserved : is_reserved f.field ≡ true = ap is_reserved same in
    false≢true (sym f.free ∙ reserved)

free_more : (bytes more : List ℕ) → BeginsFree bytes → BeginsFree (bytes ++ more)
free_more bytes more f = record {
  field = f.field;
  wire = f.wire;
  rest = f.rest ++ more;
  numbered = f.numbered;
  low = f.low;
  free = f.free;
  is = ap (λ (xs : List ℕ). xs ++ more) f.is ∙ append_assoc (tag f.field f.wire) f.rest more;
}

tag_free : (field wire : ℕ) (rest : List ℕ) → IsField field → wire < 8 → is_reserved field ≡ false → BeginsFree (tag field wire ++ rest)
tag_free field wire rest numbered low free =
    record { field = field; wire = wire; rest = rest; numbered = numbered; low = low; free = free; is = refl }

-- ---- the bytes of a packet's messages

-- the packet's own bytes begin so, or it has none and no message is open
abbrev pub AreFree : List (List ℕ) → Type 0
AreFree [] = Unit {0}
AreFree (level ∷ []) = (level ≡ []) ⊎ BeginsFree level
AreFree (level ∷ outer ∷ []) = BeginsFree outer
AreFree (level ∷ outer ∷ next ∷ others) = AreFree (outer ∷ next ∷ others)

flat_free : (level outer : List ℕ) (others : List (List ℕ)) → AreFree (level ∷ outer ∷ others) → BeginsFree (flat open_length (level ∷ outer ∷ others))
flat_free level outer [] f = free_more (outer ++ open_length) level (free_more outer open_length f)
flat_free level outer (next ∷ others) f =
    let inner = flat_free outer next others f in
    free_more (flat open_length (outer ∷ next ∷ others) ++ open_length) level (free_more (flat open_length (outer ∷ next ∷ others)) open_length inner)

levels_unmarked : (levels : List (List ℕ)) → AreFree levels → BeginsWithMark (flat open_length levels) → ⊥
levels_unmarked [] f (rest, e) = cc
levels_unmarked (level ∷ []) f marked = by_case f marked
  where
    by_case : (level ≡ []) ⊎ BeginsFree level → BeginsWithMark level → ⊥
    by_case (inl none) (rest, e) = let empty : [] ≡ dropped_mark ++ rest = sym none ∙ e in cc
    by_case (inr free) marked = free_unmarked level free marked
levels_unmarked (level ∷ outer ∷ others) f marked = free_unmarked (flat open_length (level ∷ outer ∷ others)) (flat_free level outer others f) marked

-- more bytes, which begin free where they are the packet's first
more_free : (more : List ℕ) (levels : List (List ℕ)) → (length levels ≡ 1 → BeginsFree more) → AreFree levels → AreFree (written more levels)
more_free more [] free f = tt
more_free more (level ∷ []) free f = inr (by_case level f)
  where
    by_case : (level : List ℕ) → (level ≡ []) ⊎ BeginsFree level → BeginsFree (level ++ more)
    by_case level (inl none) = subst (λ (xs : List ℕ). BeginsFree (xs ++ more)) (sym none) (free refl)
    by_case level (inr begins) = free_more level more begins
more_free more (level ∷ outer ∷ []) free f = f
more_free more (level ∷ outer ∷ next ∷ others) free f = f

nested_free : (more : List ℕ) (levels : List (List ℕ)) → (length levels ≡ 1 → BeginsFree more) → AreFree levels → AreFree ([] ∷ written more levels)
nested_free more [] free f = inl refl
nested_free more (level ∷ []) free f = by_case level f
  where
    by_case : (level : List ℕ) → (level ≡ []) ⊎ BeginsFree level → BeginsFree (level ++ more)
    by_case level (inl none) = subst (λ (xs : List ℕ). BeginsFree (xs ++ more)) (sym none) (free refl)
    by_case level (inr begins) = free_more level more begins
nested_free more (level ∷ outer ∷ []) free f = f
nested_free more (level ∷ outer ∷ next ∷ others) free f = f

closed_free : (levels : List (List ℕ)) (closed : List NestedLength) → AreFree levels → AreFree (closed_levels levels closed).levels
closed_free [] closed f = tt
closed_free (level ∷ []) closed f = f
closed_free (level ∷ outer ∷ []) closed f =
    inr (free_more (outer ++ redundant (length level)) level (free_more outer (redundant (length level)) f))
closed_free (level ∷ outer ∷ next ∷ []) closed f = f
closed_free (level ∷ outer ∷ next ∷ last ∷ others) closed f = f

-- ---- packets

-- a packet that was written whole, and whose bytes begin so
pub record IsFree (packet : Packet) : Type 0 where
  pub kept : packet.kept ≡ true
  pub ungiven : packet.given_up ≡ None
  pub alone : packet.follows_loss ≡ false
  pub levels : AreFree packet.text.levels

abbrev pub AllFree : List Packet → Type 0
AllFree [] = Unit {0}
AllFree (packet ∷ older) = IsFree packet × AllFree older

packet_unmarked : (packet : Packet) → IsFree packet → BeginsWithMark (packet_encoding packet) → ⊥
packet_unmarked packet f marked =
    let bytes = flat open_length packet.text.levels in
    let alone : BeginsWithMark (drop (length (mark_where (packet.kept && false))) bytes) =
    subst (λ (b : Bool). BeginsWithMark (drop (length (mark_where (packet.kept && b))) bytes)) f.alone marked in
    levels_unmarked packet.text.levels f.levels
    (subst (λ (b : Bool). BeginsWithMark (drop (length (mark_where (b && false))) bytes)) f.kept alone)

newest_clean : (packets : List Packet) → AllFree packets → newest_is_lost packets ≡ false
newest_clean [] all = refl
newest_clean (packet ∷ older) all =
    ap (λ (b : Bool). not b || is_some packet.given_up) all.0.kept ∙ ap (λ (o : Option Text). is_some o) all.0.ungiven

number_begins : (field value : ℕ) → IsField field → is_reserved field ≡ false → BeginsFree (number_field field value)
unfolding number_field
number_begins field value numbered free = tag_free field 0 (varint value) numbered (lit< tt) free

bytes_begins : (field times : ℕ) (text : List ℕ) → IsField field → is_reserved field ≡ false → BeginsFree (bytes_field field text times)
unfolding bytes_field bytes_head
bytes_begins field times text numbered free =
    free_more (tag field 2 ++ varint (times * length text)) (repeat times text) (tag_free field 2 (varint (times * length text)) numbered (lit< tt) free)

nested_begins : (field : ℕ) → IsField field → is_reserved field ≡ false → BeginsFree (nested_tag field)
nested_begins field numbered free =
    subst BeginsFree (append-nil (tag field 2)) (tag_free field 2 [] numbered (lit< tt) free)

-- ---- calls

call_free : (packets : List Packet) (flushed : Bool) (call : Call) → Accepts packets call → AllFree packets
    → AllFree (noted (record { packets = packets; flushed = flushed }) call).packets
call_free packets flushed (Begun kept) accepts all =
    let clean = newest_clean packets all in (
      record {
        kept = accepts.0;
        ungiven = refl;
        alone = clean;
        levels = inl (ap (λ (b : Bool). mark_where (kept && b)) clean ∙ ap (λ (b : Bool). mark_where (b && false)) accepts.0);
      },
      all,
    )
call_free [] flushed (Number field value) accepts all = tt
call_free (packet ∷ older) flushed (Number field value) accepts all = (
  record {
    kept = all.0.kept;
    ungiven = all.0.ungiven;
    alone = all.0.alone;
    levels = more_free (number_field field value) packet.text.levels (λ one. number_begins field value accepts.numbered (accepts.free one)) all.0.levels;
  },
  all.1,
)
call_free [] flushed (Bytes field text times) accepts all = tt
call_free (packet ∷ older) flushed (Bytes field text times) accepts all = (
  record {
    kept = all.0.kept;
    ungiven = all.0.ungiven;
    alone = all.0.alone;
    levels = more_free (bytes_field field text times) packet.text.levels (λ one. bytes_begins field times text accepts.numbered (accepts.free one)) all.0.levels;
  },
  all.1,
)
call_free [] flushed (Nested field) accepts all = tt
call_free (packet ∷ older) flushed (Nested field) accepts all = (
  record {
    kept = all.0.kept;
    ungiven = all.0.ungiven;
    alone = all.0.alone;
    levels = nested_free (nested_tag field) packet.text.levels (λ one. nested_begins field accepts.0.numbered (accepts.0.free one)) all.0.levels;
  },
  all.1,
)
call_free [] flushed Ended accepts all = tt
call_free (packet ∷ older) flushed Ended accepts all = (
  record {
    kept = all.0.kept;
    ungiven = all.0.ungiven;
    alone = all.0.alone;
    levels = closed_free packet.text.levels packet.text.closed all.0.levels;
  },
  all.1,
)
call_free packets flushed GivenUp accepts all = absurd accepts
call_free [] flushed Finished accepts all = tt
call_free (packet ∷ older) flushed Finished accepts all = (
  record {
    kept = all.0.kept;
    ungiven = all.0.ungiven;
    alone = all.0.alone;
    levels = all.0.levels;
  },
  all.1,
)
call_free packets flushed Flushed accepts all = all

calls_free : (account : Account) (calls : List Call) → AreAccepted account calls → AllFree account.packets → AllFree (fold noted account calls).packets
calls_free account [] accepted all = all
calls_free account (call ∷ calls) accepted all =
    calls_free (noted account call) calls accepted.1 (call_free account.packets account.flushed call accepted.0 all)

-- ---- emissions

abbrev pub AllUnmarked : List (List ℕ) → Type 0
AllUnmarked [] = Unit {0}
AllUnmarked (packet ∷ packets) = (BeginsWithMark packet → ⊥) × AllUnmarked packets

unmarked_push : (packets : List (List ℕ)) (packet : List ℕ) → AllUnmarked packets → (BeginsWithMark packet → ⊥) → AllUnmarked (packets ++ packet ∷ [])
unmarked_push [] packet all one = (one, tt)
unmarked_push (first ∷ packets) packet all one = (all.0, unmarked_push packets packet all.1 one)

unmarked_there : (packets : List (List ℕ)) (place : ℕ) (packet : List ℕ) → AllUnmarked packets → slice_get packets place ≡ Some packet → BeginsWithMark packet → ⊥
unmarked_there [] place packet all there marked = cc
unmarked_there (first ∷ packets) zero packet all there marked =
    let same : first ≡ packet = cc in all.0 (subst BeginsWithMark (sym same) marked)
unmarked_there (first ∷ packets) (suc place) packet all there marked = unmarked_there packets place packet all.1 there marked

emitted_unmarked : (packets : List Packet) → AllFree packets → AllUnmarked (emissions_in packets)
emitted_unmarked [] all = tt
emitted_unmarked (packet ∷ older) all = by_end packet.finished refl (emitted_unmarked older all.1)
  where
    by_end : (b : Bool) → packet.finished ≡ b → AllUnmarked (emissions_in older) → AllUnmarked (emissions_in (packet ∷ older))
    by_end true is others =
        subst AllUnmarked (sym (emitted_more packet older true is))
        (unmarked_push (emissions_in older) (packet_encoding packet) others (packet_unmarked packet all.0))
    by_end false is others = subst AllUnmarked (sym (emitted_still packet older is)) others

-- no packet of calls that a writer accepts begins with the mark
pub asked_unmarked : (calls : List Call) → AreAccepted nothing_yet calls → (place : ℕ) (packet : List ℕ) → slice_get (emissions_of calls) place ≡ Some packet
    → BeginsWithMark packet → ⊥
asked_unmarked calls accepted place packet there =
    unmarked_there (emissions_of calls) place packet (emitted_unmarked (packets_of calls) (calls_free nothing_yet calls accepted tt)) there
