-- How the reading of a packet's content, and of a trace, goes from field to field.
use Rattle.std.proofs.Common.{◌≡◌, ◌≢◌, ℕ, ◌+◌, ◌-◌, ◌<◌, ◌≤◌, List, [], ◌∷◌, ◌++◌, length, take, drop, refl, sym, ap, ◌∙◌, subst, arith, append_assoc, length-append, inl, inr}
use Rattle.std.specs.Prelude.{fold, not, ◌==◌, Option, Some, None}
use Rattle.std.proofs.lemmas.List.{length-take-le, length-drop, take-append-drop, take_all, append-nil, drop-drop, drop_all, drop_at}
use Rattle.std.proofs.lemmas.List.Elements.{All-nil, All-push}
use Rattle.std.proofs.Math.Seq.{take-add}
use Rattle.trace_file.specs.declared.field.FieldFault.{FieldFault}
use Rattle.wire_varint.proofs.Whole.{whole_some}
use Rattle.trace_model.specs.Fields.{FieldValue, MessageField, Spells, SpellsAll, number_at, last_number}
use Rattle.trace_file.specs.Faults.{Lacks}
use Rattle.trace_file.specs.Readers.{ReadsBehind}
use Rattle.trace_file.specs.declared.fault.TraceFault.{TraceFault}
use Rattle.trace_file.specs.Traces.{TracePacket, record_field, SaysNumbers, StopsInside, IsPacketAt, IsOther, IsPassed, HasInnerFault, inner_fault, top_fault, EndsBehind, IsNext, ReadsFrom}

pub spells_push : (fields : List MessageField) (field : MessageField) (front bytes : List ℕ) → SpellsAll fields front → Spells field bytes
    → SpellsAll (fields ++ field ∷ []) (front ++ bytes)
spells_push [] field front bytes all one = (bytes, [], ap (λ (xs : List ℕ). xs ++ bytes) all ∙ sym (append-nil bytes), one, refl)
spells_push (first ∷ fields) field front bytes all one =
    (all.0, all.1 ++ bytes, ap (λ (xs : List ℕ). xs ++ bytes) all.2 ∙ append_assoc all.0 all.1 bytes, all.3, spells_push fields field all.1 bytes all.4 one)

-- the content was read up to a place
pub record IsReadTo (content : List ℕ) (at sequence mark : ℕ) : Type 0 where
  pub within : at ≤ length content
  pub fields : List MessageField
  pub spells : SpellsAll fields (take at content)
  pub sequence_is : sequence ≡ last_number 10 fields
  pub mark_is : mark ≡ last_number 42 fields

pub read_start : (content : List ℕ) → IsReadTo content 0 0 0
unfolding last_number
read_start content = record { within = omega arith; fields = []; spells = refl; sequence_is = refl; mark_is = refl }

fold-push : (f : ℕ → MessageField → ℕ) (start : ℕ) (fields : List MessageField) (field : MessageField)
    → fold f start (fields ++ field ∷ []) ≡ f (fold f start fields) field
fold-push f start [] field = refl
fold-push f start (first ∷ fields) field = fold-push f (f start first) fields field

number-push : (wanted : ℕ) (fields : List MessageField) (field : MessageField)
    → number_at wanted (last_number wanted fields) field.number field.value ≡ last_number wanted (fields ++ field ∷ [])
unfolding last_number
number-push wanted fields field = sym (fold-push (λ before f. number_at wanted before f.number f.value) 0 fields field)

pub read_more : (content : List ℕ) (at sequence mark len number : ℕ) (value : FieldValue) → IsReadTo content at sequence mark
    → Spells (record { number = number; value = value }) (take len (drop at content)) → at + len ≤ length content
    → IsReadTo content (at + len) (number_at 10 sequence number value) (number_at 42 mark number value)
read_more content at sequence mark len number value h one fits =
    let field : MessageField = record { number = number; value = value } in
    record {
      within = fits;
      fields = h.fields ++ field ∷ [];
      spells = subst (SpellsAll (h.fields ++ field ∷ [])) (sym (take-add at len content)) (spells_push h.fields field (take at content) (take len (drop at content)) h.spells one);
      sequence_is = ap (λ (n : ℕ). number_at 10 n number value) h.sequence_is ∙ number-push 10 h.fields field;
      mark_is = ap (λ (n : ℕ). number_at 42 n number value) h.mark_is ∙ number-push 42 h.fields field;
    }

pub read_all : (content : List ℕ) (at sequence mark : ℕ) → IsReadTo content at sequence mark → length content ≤ at → SaysNumbers content sequence mark
read_all content at sequence mark h end = record {
  fields = h.fields;
  spells = subst (SpellsAll h.fields) (take_all at content end) h.spells;
  sequence_is = h.sequence_is;
  mark_is = h.mark_is;
}

not_nil : (at : ℕ) (bytes : List ℕ) → at < length bytes → drop at bytes ≢ []
not_nil at bytes more e = omega (arith, ap length e, length-drop at bytes)

pub read_stops : (content : List ℕ) (at sequence mark : ℕ) (fault : FieldFault) → IsReadTo content at sequence mark → at < length content
    → Lacks fault (drop at content) → StopsInside content fault at
read_stops content at sequence mark fault h more lacks = record {
  fields = h.fields;
  front = take at content;
  rest = drop at content;
  cut = sym (take-append-drop at content);
  spells = h.spells;
  at_is = sym (length-take-le at content (omega arith));
  more = not_nil at content more;
  lacks = lacks;
}

pub packet_is : (at : ℕ) (packet : TracePacket) (bytes content : List ℕ) (sequence mark : ℕ) → Spells (record_field content) bytes → SaysNumbers content sequence mark
    → packet.at ≡ at → packet.bytes ≡ bytes → packet.content ≡ content → packet.sequence ≡ sequence → packet.marked ≡ not (mark == 0)
    → IsPacketAt at packet
packet_is at packet bytes content sequence mark spells says place is_bytes is_content is_sequence is_marked = record {
  at_is = place;
  spells = rw (is_bytes, is_content) spells;
  mark = mark;
  says = rw (is_content, is_sequence) says;
  marked_is = is_marked;
}

pub inner_is : (at : ℕ) (bytes content behind : List ℕ) (reason : FieldFault) (place : ℕ) → Spells (record_field content) bytes → StopsInside content reason place
    → HasInnerFault at (bytes ++ behind) (inner_fault reason (at + (length bytes - length content) + place))
inner_is at bytes content behind reason place spells stops = record {
  bytes = bytes;
  behind = behind;
  content = content;
  cut = refl;
  spells = spells;
  reason = reason;
  place = place;
  stops = stops;
  fault_is = refl;
}

-- a record is longer than its content, by a tag and a length
pub content_within : (bytes content : List ℕ) → Spells (record_field content) bytes → length content + 2 ≤ length bytes
content_within bytes content h =
    omega (
      arith,
      ap length h.cut,
      length-append h.tag h.behind,
      ap length h.is_value.2,
      length-append h.is_value.0 content,
      whole_some h.tag h.is_tag.whole,
      whole_some h.is_value.0 h.is_value.1.whole,
    )

-- the fields from one place to another were passed
pub record HasPassed (bytes : List ℕ) (from at : ℕ) : Type 0 where
  pub within : at ≤ length bytes
  pub onward : from ≤ at
  pub passed : IsPassed (take (at - from) (drop from bytes))

pub pass_start : (bytes : List ℕ) (from : ℕ) → from ≤ length bytes → HasPassed bytes from from
pass_start bytes from fits = record {
  within = fits;
  onward = omega arith;
  passed = record {
    fields = [];
    spells = let none : from - from ≡ 0 = omega arith in ap (λ (n : ℕ). take n (drop from bytes)) none;
    others = All-nil IsOther;
  };
}

pub pass_more : (bytes : List ℕ) (from at len number : ℕ) (value : FieldValue) → HasPassed bytes from at
    → Spells (record { number = number; value = value }) (take len (drop at bytes)) → IsOther (record { number = number; value = value })
    → at + len ≤ length bytes → HasPassed bytes from (at + len)
pass_more bytes from at len number value h one other fits =
    let field : MessageField = record { number = number; value = value } in
    let there : drop (at - from) (drop from bytes) ≡ drop at bytes =
    drop-drop (at - from) from bytes ∙ ap (λ (n : ℕ). drop n bytes) (omega (arith, h.onward)) in
    let long : at + len - from ≡ (at - from) + len = omega (arith, h.onward) in
    let cut : take (at + len - from) (drop from bytes) ≡ take (at - from) (drop from bytes) ++ take len (drop at bytes) =
    ap (λ (n : ℕ). take n (drop from bytes)) long ∙ take-add (at - from) len (drop from bytes)
    ∙ ap (λ (xs : List ℕ). take (at - from) (drop from bytes) ++ take len xs) there in
    record {
      within = fits;
      onward = omega (arith, h.onward);
      passed = record {
        fields = h.passed.fields ++ field ∷ [];
        spells = subst (SpellsAll (h.passed.fields ++ field ∷ [])) (sym cut)
            (spells_push h.passed.fields field (take (at - from) (drop from bytes)) (take len (drop at bytes)) h.passed.spells one);
        others = All-push IsOther h.passed.fields field h.passed.others other;
      };
    }

-- what is left behind the fields that were passed
pub passed_cut : (bytes : List ℕ) (from at : ℕ) → HasPassed bytes from at → drop from bytes ≡ take (at - from) (drop from bytes) ++ drop at bytes
passed_cut bytes from at h =
    sym (take-append-drop (at - from) (drop from bytes))
    ∙ ap (λ (xs : List ℕ). take (at - from) (drop from bytes) ++ xs)
    (drop-drop (at - from) from bytes ∙ ap (λ (n : ℕ). drop n bytes) (omega (arith, h.onward)))

passed_len : (bytes : List ℕ) (from at : ℕ) → HasPassed bytes from at → from + length (take (at - from) (drop from bytes)) ≡ at
passed_len bytes from at h =
    let long : length (take (at - from) (drop from bytes)) ≡ at - from = length-take-le (at - from) (drop from bytes) (omega (arith, length-drop from bytes, h.within)) in
    omega (arith, long, h.onward)

pub next_is : (bytes : List ℕ) (from at len : ℕ) (packet : TracePacket) → HasPassed bytes from at → packet.bytes ≡ take len (drop at bytes)
    → IsPacketAt at packet → IsNext from (drop from bytes) packet
next_is bytes from at len packet h is_bytes is = record {
  front = take (at - from) (drop from bytes);
  rest = drop len (drop at bytes);
  cut = passed_cut bytes from at h
      ∙ ap (λ (xs : List ℕ). take (at - from) (drop from bytes) ++ xs)
      (sym (take-append-drop len (drop at bytes)) ∙ ap (λ (xs : List ℕ). xs ++ drop len (drop at bytes)) (sym is_bytes));
  passed = h.passed;
  is = subst (λ (n : ℕ). IsPacketAt n packet) (sym (passed_len bytes from at h)) is;
}

pub ends_whole : (bytes : List ℕ) (from at : ℕ) → HasPassed bytes from at → length bytes ≤ at → EndsBehind from (drop from bytes) None
ends_whole bytes from at h end = record {
  front = take (at - from) (drop from bytes);
  rest = drop at bytes;
  cut = passed_cut bytes from at h;
  passed = h.passed;
  ends = drop_all at bytes end;
}

pub ends_top : (bytes : List ℕ) (from at : ℕ) (reason : FieldFault) → HasPassed bytes from at → at < length bytes → Lacks reason (drop at bytes)
    → EndsBehind from (drop from bytes) (Some (top_fault reason at))
ends_top bytes from at reason h more lacks = record {
  front = take (at - from) (drop from bytes);
  rest = drop at bytes;
  cut = passed_cut bytes from at h;
  passed = h.passed;
  ends = inl (record {
    reason = reason;
    more = not_nil at bytes more;
    lacks = lacks;
    fault_is = ap (top_fault reason) (sym (passed_len bytes from at h));
  });
}

pub ends_inner : (bytes record_bytes : List ℕ) (from at len : ℕ) (fault : TraceFault) → HasPassed bytes from at → record_bytes ≡ take len (drop at bytes)
    → ((behind : List ℕ) → HasInnerFault at (record_bytes ++ behind) fault) → EndsBehind from (drop from bytes) (Some fault)
ends_inner bytes record_bytes from at len fault h is_bytes inner =
    let whole : record_bytes ++ drop len (drop at bytes) ≡ drop at bytes =
    ap (λ (xs : List ℕ). xs ++ drop len (drop at bytes)) is_bytes ∙ take-append-drop len (drop at bytes) in
    record {
      front = take (at - from) (drop from bytes);
      rest = drop at bytes;
      cut = passed_cut bytes from at h;
      passed = h.passed;
      ends = inr (subst (λ (n : ℕ). HasInnerFault n (drop at bytes) fault) (sym (passed_len bytes from at h))
          (subst (λ (xs : List ℕ). HasInnerFault at xs fault) whole (inner (drop len (drop at bytes)))));
    }

pub next_rest : (bytes : List ℕ) (from : ℕ) (packet : TracePacket) (h : IsNext from (drop from bytes) packet)
    → drop (packet.at + length packet.bytes) bytes ≡ h.rest
next_rest bytes from packet h =
    let far : packet.at + length packet.bytes ≡ from + length (h.front ++ packet.bytes) =
    omega (arith, h.is.at_is, length-append h.front packet.bytes) in
    ap (λ (n : ℕ). drop n bytes) far
    ∙ sym (drop-drop (length (h.front ++ packet.bytes)) from bytes)
    ∙ ap (drop (length (h.front ++ packet.bytes))) (h.cut ∙ sym (append_assoc h.front packet.bytes h.rest))
    ∙ drop_at (h.front ++ packet.bytes) h.rest _ refl

-- a packet, and then what the bytes behind it read as
pub reads_on : (bytes : List ℕ) (from : ℕ) (packet : TracePacket) (packets : List TracePacket) (ending : Option TraceFault) → IsNext from (drop from bytes) packet
    → ReadsFrom (packet.at + length packet.bytes) (drop (packet.at + length packet.bytes) bytes) packets ending
    → ReadsFrom from (drop from bytes) (packet ∷ packets) ending
reads_on bytes from packet packets ending h others =
    (h, subst (λ (xs : List ℕ). ReadsFrom (packet.at + length packet.bytes) xs packets ending) (next_rest bytes from packet h) others)

-- a reader that has met no fault
pub still_reads : (fault ending other : Option TraceFault) (at behind : ℕ) (rest more : List ℕ) (packets others : List TracePacket) → fault ≡ None
    → (ReadsFrom at rest packets ending → ReadsFrom behind more others other)
    → ReadsBehind fault at rest packets ending → ReadsBehind fault behind more others other
still_reads None ending other at behind rest more packets others e f reads = f reads
still_reads (Some fault) ending other at behind rest more packets others e f reads = absurd cc
