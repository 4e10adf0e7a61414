-- Of the same bytes a trace has one reading.
use Rattle.std.proofs.Common.{◌≡◌, ℕ, ◌+◌, ◌-◌, List, [], ◌∷◌, ◌++◌, length, All, refl, sym, ap, ◌∙◌, subst, arith, append_assoc, inl, inr, length-append, Option, Some, None}
use Rattle.std.proofs.lemmas.List.{append-nil}
use Rattle.std.specs.Prelude.{Bool, not, ◌==◌}
use Rattle.std.proofs.lemmas.List.Elements.{All-head, All-tail}
use Rattle.trace_file.specs.declared.field.FieldFault.{FieldFault}
use Rattle.trace_file.specs.declared.fault.TraceFault.{TraceFault}
use Rattle.trace_model.specs.Fields.{Content, MessageField, Spells, SpellsAll, last_number}
use Rattle.trace_file.specs.Faults.{Lacks}
use Rattle.trace_file.specs.Traces.{TracePacket, record_field, SaysNumbers, IsPacketAt, IsOther, IsPassed, StopsInside, top_fault, inner_fault, HasTopFault, HasInnerFault, EndsAt, EndsBehind, IsNext, ReadsFrom, TracesReadOnce}
use Rattle.trace_file.proofs.OnceLemmas.{spells_once, spells_not_lacks, lacks_once, spells_some}

-- no field of this kind stands in front
abbrev NoneInFront : (MessageField → Type 0) → List ℕ → Type 0
NoneInFront P bytes = (field : MessageField) (front rest : List ℕ) → P field → Spells field front → bytes ≡ front ++ rest → ⊥

none_in_nil : (P : MessageField → Type 0) → NoneInFront P []
none_in_nil P field front rest is spells e =
    omega (arith, spells_some field front spells, ap length e, length-append front rest)

none_in_fault : (P : MessageField → Type 0) (fault : FieldFault) (bytes : List ℕ) → Lacks fault bytes → NoneInFront P bytes
none_in_fault P fault bytes lacks field front rest is spells e = spells_not_lacks fault field front rest spells (subst (Lacks fault) e lacks)

none_in_record : (content bytes behind : List ℕ) → Spells (record_field content) bytes → NoneInFront IsOther (bytes ++ behind)
none_in_record content bytes behind record_spells field front rest other spells e =
    other content (sym (spells_once (record_field content) field bytes front behind rest record_spells spells e).0)

-- fields of one kind, up to where none of that kind stands, are the same
stop_once : (P : MessageField → Type 0) (fs gs : List MessageField) (a b x y : List ℕ) → SpellsAll fs a → SpellsAll gs b → All P fs → All P gs
    → NoneInFront P x → NoneInFront P y → a ++ x ≡ b ++ y → (fs ≡ gs) × (a ≡ b) × (x ≡ y)
stop_once P [] [] a b x y p q all_p all_q none_x none_y e =
    (refl, p ∙ sym q, sym (ap (λ (xs : List ℕ). xs ++ x) p) ∙ e ∙ ap (λ (xs : List ℕ). xs ++ y) q)
stop_once P [] (g ∷ gs) a b x y p q all_p all_q none_x none_y e =
    absurd (none_x g q.0 (q.1 ++ y) (All-head P g gs all_q) q.3
    (sym (ap (λ (xs : List ℕ). xs ++ x) p) ∙ e ∙ ap (λ (xs : List ℕ). xs ++ y) q.2 ∙ append_assoc q.0 q.1 y))
stop_once P (f ∷ fs) [] a b x y p q all_p all_q none_x none_y e =
    absurd (none_y f p.0 (p.1 ++ x) (All-head P f fs all_p) p.3
    (sym (ap (λ (xs : List ℕ). xs ++ y) q) ∙ sym e ∙ ap (λ (xs : List ℕ). xs ++ x) p.2 ∙ append_assoc p.0 p.1 x))
stop_once P (f ∷ fs) (g ∷ gs) a b x y p q all_p all_q none_x none_y e =
    let first = spells_once f g p.0 q.0 (p.1 ++ x) (q.1 ++ y) p.3 q.3
    (sym (append_assoc p.0 p.1 x) ∙ sym (ap (λ (xs : List ℕ). xs ++ x) p.2) ∙ e ∙ ap (λ (xs : List ℕ). xs ++ y) q.2 ∙ append_assoc q.0 q.1 y) in
    let others = stop_once P fs gs p.1 q.1 x y p.4 q.4 (All-tail P f fs all_p) (All-tail P g gs all_q) none_x none_y first.2 in
    (cons_same f g fs gs first.0 others.0, p.2 ∙ join_same p.0 q.0 p.1 q.1 first.1 others.1 ∙ sym q.2, others.2)
  where
    cons_same : (m n : MessageField) (ms ns : List MessageField) → m ≡ n → ms ≡ ns → m ∷ ms ≡ n ∷ ns
    cons_same m n ms ns e1 e2 = cc

    join_same : (m n ms ns : List ℕ) → m ≡ n → ms ≡ ns → m ++ ms ≡ n ++ ns
    join_same m n ms ns e1 e2 = cc

any_field : (fields : List MessageField) → All (λ (field : MessageField). Unit {0}) fields
any_field fields k d low = tt

all_once : (fs gs : List MessageField) (bytes : List ℕ) → SpellsAll fs bytes → SpellsAll gs bytes → fs ≡ gs
all_once fs gs bytes p q =
    (stop_once (λ (field : MessageField). Unit {0}) fs gs bytes bytes [] [] p q (any_field fs) (any_field gs) (none_in_nil _) (none_in_nil _) refl).0

-- a content that is read whole doesn't stop inside
whole_not_stops : (fields : List MessageField) (content : List ℕ) (fault : FieldFault) (at : ℕ) → SpellsAll fields content → StopsInside content fault at → ⊥
whole_not_stops fields content fault at p h =
    h.more (sym (stop_once (λ (field : MessageField). Unit {0}) fields h.fields content h.front [] h.rest p h.spells (any_field fields) (any_field h.fields)
    (none_in_nil _) (none_in_fault _ fault h.rest h.lacks) (append-nil content ∙ h.cut)).2)

stops_once : (content : List ℕ) (f g : FieldFault) (m n : ℕ) → StopsInside content f m → StopsInside content g n → (f ≡ g) × (m ≡ n)
stops_once content f g m n p q =
    let same = stop_once (λ (field : MessageField). Unit {0}) p.fields q.fields p.front q.front p.rest q.rest p.spells q.spells (any_field p.fields) (any_field q.fields)
    (none_in_fault _ f p.rest p.lacks) (none_in_fault _ g q.rest q.lacks) (sym p.cut ∙ q.cut) in
    (lacks_once f g q.rest (subst (Lacks f) same.2 p.lacks) q.lacks, p.at_is ∙ ap length same.1 ∙ sym q.at_is)

content_once : (s t a b x y : List ℕ) → Spells (record_field s) a → Spells (record_field t) b → a ++ x ≡ b ++ y → (s ≡ t) × (a ≡ b) × (x ≡ y)
content_once s t a b x y p q e =
    let same = spells_once (record_field s) (record_field t) a b x y p q e in
    (content_same s t (ap (λ (field : MessageField). field.value) same.0), same.1, same.2)
  where
    content_same : (s t : List ℕ) → Content s ≡ Content t → s ≡ t
    content_same s t e = cc

-- ---- what stands behind the fields that were passed

none_behind : (at : ℕ) (rest : List ℕ) (ending : Option TraceFault) → EndsAt at rest ending → NoneInFront IsOther rest
none_behind at rest None ends = subst (NoneInFront IsOther) (sym ends) (none_in_nil IsOther)
none_behind at rest (Some fault) (inl h) = none_in_fault IsOther h.reason rest h.lacks
none_behind at rest (Some fault) (inr h) = subst (NoneInFront IsOther) (sym h.cut) (none_in_record h.content h.bytes h.behind h.spells)

-- where the trace ends or has its fault no record is that reads
not_both : (at : ℕ) (rest behind : List ℕ) (ending : Option TraceFault) (packet : TracePacket) → EndsAt at rest ending → IsPacketAt at packet
    → rest ≡ packet.bytes ++ behind → ⊥
not_both at rest behind None packet ends is e =
    none_in_nil (λ (field : MessageField). Unit {0}) (record_field packet.content) packet.bytes behind tt is.spells (sym ends ∙ e)
not_both at rest behind (Some fault) packet (inl h) is e = spells_not_lacks h.reason (record_field packet.content) packet.bytes behind is.spells (subst (Lacks h.reason) e h.lacks)
not_both at rest behind (Some fault) packet (inr h) is e =
    let same = content_once h.content packet.content h.bytes packet.bytes h.behind behind h.spells is.spells (sym h.cut ∙ e) in
    whole_not_stops is.says.fields packet.content h.reason h.place is.says.spells (subst (λ (xs : List ℕ). StopsInside xs h.reason h.place) same.0 h.stops)

inner_once : (at : ℕ) (rest : List ℕ) (f g : TraceFault) → HasInnerFault at rest f → HasInnerFault at rest g → f ≡ g
inner_once at rest f g p q =
    let same = content_once p.content q.content p.bytes q.bytes p.behind q.behind p.spells q.spells (sym p.cut ∙ q.cut) in
    let stop = stops_once q.content p.reason q.reason p.place q.place (subst (λ (xs : List ℕ). StopsInside xs p.reason p.place) same.0 p.stops) q.stops in
    p.fault_is
    ∙ ap (λ (r : FieldFault). inner_fault r (at + (length p.bytes - length p.content) + p.place)) stop.0
    ∙ ap (inner_fault q.reason) (omega (arith, ap length same.0, ap length same.1, stop.1)) ∙ sym q.fault_is

not_top_and_inner : (at : ℕ) (rest : List ℕ) (f g : TraceFault) → HasTopFault at rest f → HasInnerFault at rest g → ⊥
not_top_and_inner at rest f g p q = spells_not_lacks p.reason (record_field q.content) q.bytes q.behind q.spells (subst (Lacks p.reason) q.cut p.lacks)

not_nil_inner : (at : ℕ) (rest : List ℕ) (g : TraceFault) → rest ≡ [] → HasInnerFault at rest g → ⊥
not_nil_inner at rest g e q = none_in_nil (λ (field : MessageField). Unit {0}) (record_field q.content) q.bytes q.behind tt q.spells (sym e ∙ q.cut)

ends_once : (at : ℕ) (rest : List ℕ) (e f : Option TraceFault) → EndsAt at rest e → EndsAt at rest f → e ≡ f
ends_once at rest None None p q = refl
ends_once at rest None (Some g) p (inl q) = absurd (q.more p)
ends_once at rest None (Some g) p (inr q) = absurd (not_nil_inner at rest g p q)
ends_once at rest (Some f) None (inl p) q = absurd (p.more q)
ends_once at rest (Some f) None (inr p) q = absurd (not_nil_inner at rest f q p)
ends_once at rest (Some f) (Some g) (inl p) (inl q) =
    ap Some (p.fault_is ∙ ap (λ (r : FieldFault). top_fault r at) (lacks_once p.reason q.reason rest p.lacks q.lacks) ∙ sym q.fault_is)
ends_once at rest (Some f) (Some g) (inl p) (inr q) = absurd (not_top_and_inner at rest f g p q)
ends_once at rest (Some f) (Some g) (inr p) (inl q) = absurd (not_top_and_inner at rest g f q p)
ends_once at rest (Some f) (Some g) (inr p) (inr q) = ap Some (inner_once at rest f g p q)

passed_once : (a b x y : List ℕ) → IsPassed a → IsPassed b → NoneInFront IsOther x → NoneInFront IsOther y → a ++ x ≡ b ++ y → (a ≡ b) × (x ≡ y)
passed_once a b x y p q none_x none_y e =
    let same = stop_once IsOther p.fields q.fields a b x y p.spells q.spells p.others q.others none_x none_y e in
    (same.1, same.2)

-- ---- the whole

numbers_once : (content : List ℕ) (s t m n : ℕ) → SaysNumbers content s m → SaysNumbers content t n → (s ≡ t) × (m ≡ n)
numbers_once content s t m n p q =
    let same = all_once p.fields q.fields content p.spells q.spells in
    (p.sequence_is ∙ ap (last_number 10) same ∙ sym q.sequence_is, p.mark_is ∙ ap (last_number 42) same ∙ sym q.mark_is)

same_packet : (p q : TracePacket) → p.at ≡ q.at → p.bytes ≡ q.bytes → p.content ≡ q.content → p.sequence ≡ q.sequence → p.marked ≡ q.marked → p ≡ q
same_packet p q at bytes content sequence marked =
    let one : p ≡ record p { at = q.at } = ap (λ (n : ℕ). record p { at = n }) at in
    let two : record p { at = q.at } ≡ record p { at = q.at; bytes = q.bytes } = ap (λ (xs : List ℕ). record p { at = q.at; bytes = xs }) bytes in
    let three : record p { at = q.at; bytes = q.bytes } ≡ record q { sequence = p.sequence; marked = p.marked } =
    ap (λ (xs : List ℕ). record p { at = q.at; bytes = q.bytes; content = xs }) content in
    let four : record q { sequence = p.sequence; marked = p.marked } ≡ record q { marked = p.marked } = ap (λ (n : ℕ). record q { sequence = n; marked = p.marked }) sequence in
    let five : record q { marked = p.marked } ≡ q = ap (λ (b : Bool). record q { marked = b }) marked in
    one ∙ two ∙ three ∙ four ∙ five

packet_once : (at : ℕ) (p q : TracePacket) (x y : List ℕ) → IsPacketAt at p → IsPacketAt at q → p.bytes ++ x ≡ q.bytes ++ y → (p ≡ q) × (x ≡ y)
packet_once at p q x y is_p is_q e =
    let same = content_once p.content q.content p.bytes q.bytes x y is_p.spells is_q.spells e in
    let numbers = numbers_once q.content p.sequence q.sequence is_p.mark is_q.mark (subst (λ (xs : List ℕ). SaysNumbers xs p.sequence is_p.mark) same.0 is_p.says) is_q.says in (
      same_packet p q (is_p.at_is ∙ sym is_q.at_is) same.1 same.0 numbers.0
          (is_p.marked_is ∙ ap (λ (n : ℕ). not (n == 0)) numbers.1 ∙ sym is_q.marked_is),
      same.2,
    )

next_none : (at : ℕ) (bytes : List ℕ) (packet : TracePacket) (h : IsNext at bytes packet) → NoneInFront IsOther (packet.bytes ++ h.rest)
next_none at bytes packet h = none_in_record packet.content packet.bytes h.rest h.is.spells

end_not_next : (at : ℕ) (bytes : List ℕ) (ending : Option TraceFault) (packet : TracePacket) → EndsBehind at bytes ending → IsNext at bytes packet → ⊥
end_not_next at bytes ending packet p q =
    let same = passed_once p.front q.front p.rest (packet.bytes ++ q.rest) p.passed q.passed (none_behind _ p.rest ending p.ends) (next_none at bytes packet q) (sym p.cut ∙ q.cut) in
    not_both (at + length q.front) p.rest q.rest ending packet (subst (λ (xs : List ℕ). EndsAt (at + length xs) p.rest ending) same.0 p.ends) q.is same.1

end_once : (at : ℕ) (bytes : List ℕ) (e f : Option TraceFault) → EndsBehind at bytes e → EndsBehind at bytes f → e ≡ f
end_once at bytes e f p q =
    let same = passed_once p.front q.front p.rest q.rest p.passed q.passed (none_behind _ p.rest e p.ends) (none_behind _ q.rest f q.ends) (sym p.cut ∙ q.cut) in
    ends_once (at + length q.front) q.rest e f
    (subst (λ (xs : List ℕ). EndsAt (at + length q.front) xs e) same.1 (subst (λ (xs : List ℕ). EndsAt (at + length xs) p.rest e) same.0 p.ends)) q.ends

next_once : (at : ℕ) (bytes : List ℕ) (p q : TracePacket) (h : IsNext at bytes p) (k : IsNext at bytes q) → (p ≡ q) × (h.rest ≡ k.rest)
next_once at bytes p q h k =
    let same = passed_once h.front k.front (p.bytes ++ h.rest) (q.bytes ++ k.rest) h.passed k.passed (next_none at bytes p h) (next_none at bytes q k) (sym h.cut ∙ k.cut) in
    packet_once (at + length k.front) p q h.rest k.rest (subst (λ (xs : List ℕ). IsPacketAt (at + length xs) p) same.0 h.is) k.is same.1

pub traces_read_once : TracesReadOnce
traces_read_once at bytes [] [] e f p q = (refl, end_once at bytes e f p q)
traces_read_once at bytes [] (q' ∷ qs) e f p q = absurd (end_not_next at bytes e q' p q.0)
traces_read_once at bytes (p' ∷ ps) [] e f p q = absurd (end_not_next at bytes f p' q p.0)
traces_read_once at bytes (p' ∷ ps) (q' ∷ qs) e f p q =
    let same = next_once at bytes p' q' p.0 q.0 in
    let there : p'.at + length p'.bytes ≡ q'.at + length q'.bytes = ap (λ (x : TracePacket). x.at + length x.bytes) same.0 in
    let others = traces_read_once (q'.at + length q'.bytes) q.0.rest ps qs e f
    (subst (λ (xs : List ℕ). ReadsFrom (q'.at + length q'.bytes) xs ps e) same.1 (subst (λ (n : ℕ). ReadsFrom n p.0.rest ps e) there p.1)) q.1 in
    (cons_same p' q' ps qs same.0 others.0, others.1)
  where
    cons_same : (m n : TracePacket) (ms ns : List TracePacket) → m ≡ n → ms ≡ ns → m ∷ ms ≡ n ∷ ns
    cons_same m n ms ns e1 e2 = cc
