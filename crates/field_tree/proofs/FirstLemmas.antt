-- The node in front of nodes that were written.
use Rattle.std.proofs.Common.{◌≡◌, ℕ, ◌-◌, ◌/◌, ◌%◌, ◌^◌, ◌<◌, ◌≤◌, ◌==◌, Bool, true, false, List, [], ◌∷◌, ◌++◌, length, take, drop, refl, sym, ap, subst, arith, ◌∙◌, append_assoc, length-append, length-drop}
use Rattle.std.specs.List.{AllByRecursion}
use Rattle.std.proofs.lemmas.Bool.{eqb-true, false≢true}
use Rattle.std.proofs.lemmas.List.{take_at, drop_at, take_all, take-append-drop}
use Rattle.wire_varint.specs.Reading.{IsVarint, NoVarintInFront}
use Rattle.wire_varint.specs.Varint.{varint}
use Rattle.wire_varint.proofs.Varints.{varint_is_varint, one_varint}
use Rattle.field_tree.specs.declared.node.FieldNode.{FieldNode}
use Rattle.field_tree.specs.declared.node.FieldNode.TheVariants.{Number, Bytes, Begin, End}
use Rattle.field_tree.specs.Nodes.{Shown, IsFit}
use Rattle.field_tree.specs.Written.{tag_of, written_value, written_node, written_nodes, IsWritable, shown_in, AreFitNodes, IsFirst}
use Rattle.field_tree.proofs.EncodedLemmas.{nothing_shown}
use Rattle.field_tree.proofs.WrittenLemmas.{tag_fits, node_cut, are_written}

-- ---- the parts of what is read

-- what the reading of a number in front of some bytes answers
abbrev pub Splits : List ℕ → ℕ → List ℕ → Type 0
Splits bytes number behind = (n : ℕ) (rest : List ℕ) → n < 2 ^ 64 → bytes ≡ varint n ++ rest → (number ≡ n) × (behind ≡ rest)

pub split_found : (bytes : List ℕ) (number width n : ℕ) (rest : List ℕ) → IsVarint (take width bytes) number → n < 2 ^ 64 → bytes ≡ varint n ++ rest
    → (number ≡ n) × (take (length bytes - width) (drop width bytes) ≡ rest)
split_found bytes number width n rest found fits cut =
    let one = one_varint (take width bytes) (varint n) (drop width bytes) rest number n found (varint_is_varint n fits) (take-append-drop width bytes ∙ cut) in
    (one.1, take_all (length bytes - width) (drop width bytes) (omega (arith, length-drop width bytes)) ∙ one.2)

pub split_none : (bytes : List ℕ) (n : ℕ) (rest : List ℕ) → NoVarintInFront bytes → n < 2 ^ 64 → bytes ≡ varint n ++ rest → ⊥
split_none bytes n rest none fits cut =
    let front : take (length (varint n)) bytes ≡ varint n = ap (take (length (varint n))) cut ∙ take_at (varint n) rest (length (varint n)) refl in
    none n (length (varint n)) (subst (λ (xs : List ℕ). IsVarint xs n) (sym front) (varint_is_varint n fits))

-- the tag was read of the node in front
pub record HasTag (first : Shown) (rest : List ℕ) (tag : ℕ) (behind : List ℕ) : Type 0 where
  pub tag_is : tag ≡ tag_of first.0
  pub small : tag < 2 ^ 34
  pub behind_is : behind ≡ written_value first.0 first.1 ++ rest

pub tag_read : (first : Shown) (rest bytes : List ℕ) (tag : ℕ) (behind : List ℕ) → IsWritable first → bytes ≡ written_node first ++ rest
    → Splits bytes tag behind → HasTag first rest tag behind
tag_read first rest bytes tag behind is cut splits =
    let fits : tag_of first.0 < 2 ^ 34 = tag_fits first.0 is.numbers in
    let read = splits (tag_of first.0) (written_value first.0 first.1 ++ rest) (omega (arith, fits)) (cut ∙ node_cut first rest) in
    record { tag_is = read.0; small = omega (arith, fits, read.0); behind_is = read.1 }

pub number_first : (first : Shown) (rest : List ℕ) (tag value : ℕ) (behind left text : List ℕ) → IsWritable first → HasTag first rest tag behind
    → tag % 4 ≡ 0 → Splits behind value left → text ≡ [] → IsFirst first rest (Number (tag / 4) value) text left
number_first (Number f v, t) rest tag value behind left text is has kind splits empty =
    let read = splits v rest is.numbers.1 has.behind_is in
    let field : tag / 4 ≡ f = omega (arith, has.tag_is) in
    record {
      node_is = ap (λ (n : ℕ). Number n value) field ∙ ap (λ (n : ℕ). Number f n) read.0;
      text_is = empty ∙ sym is.text;
      behind_is = read.1;
    }
number_first (Bytes f k, t) rest tag value behind left text is has kind splits empty = absurd (omega (arith, has.tag_is, kind))
number_first (Begin f, t) rest tag value behind left text is has kind splits empty = absurd (omega (arith, has.tag_is, kind))
number_first (End, t) rest tag value behind left text is has kind splits empty = absurd (omega (arith, has.tag_is, kind))

-- the parts of a text in front were read
pub record HasText (first : Shown) (rest : List ℕ) (tag times len : ℕ) (content : List ℕ) : Type 0 where
  pub field : ℕ
  pub many : ℕ
  pub node_is : first.0 ≡ Bytes field many
  pub field_is : tag / 4 ≡ field
  pub times_is : times ≡ many
  pub times_fit : times < 2 ^ 32
  pub len_is : len ≡ length first.1
  pub content_is : content ≡ first.1 ++ rest

pub text_read : (first : Shown) (rest : List ℕ) (tag times len : ℕ) (behind later content : List ℕ) → IsWritable first → HasTag first rest tag behind
    → tag % 4 ≡ 1 → Splits behind times later → Splits later len content → HasText first rest tag times len content
text_read (Number f v, t) rest tag times len behind later content is has kind splits then_splits = absurd (omega (arith, has.tag_is, kind))
text_read (Bytes f k, t) rest tag times len behind later content is has kind splits then_splits =
    let cut : (varint k ++ varint (length t) ++ t) ++ rest ≡ varint k ++ (varint (length t) ++ (t ++ rest)) =
    append_assoc (varint k ++ varint (length t)) t rest ∙ append_assoc (varint k) (varint (length t)) (t ++ rest) in
    let one = splits k (varint (length t) ++ (t ++ rest)) (omega (arith, is.numbers.1)) (has.behind_is ∙ cut) in
    let two = then_splits (length t) (t ++ rest) is.text one.1 in
    record {
      field = f;
      many = k;
      node_is = refl;
      field_is = omega (arith, has.tag_is);
      times_is = one.0;
      times_fit = omega (arith, one.0, is.numbers.1);
      len_is = two.0;
      content_is = two.1;
    }
text_read (Begin f, t) rest tag times len behind later content is has kind splits then_splits = absurd (omega (arith, has.tag_is, kind))
text_read (End, t) rest tag times len behind later content is has kind splits then_splits = absurd (omega (arith, has.tag_is, kind))

pub text_within : (first : Shown) (rest : List ℕ) (tag times len : ℕ) (content : List ℕ) → HasText first rest tag times len content → len ≤ length content
text_within first rest tag times len content has = omega (arith, has.len_is, ap length has.content_is, length-append first.1 rest)

pub text_first : (first : Shown) (rest : List ℕ) (tag times len : ℕ) (content : List ℕ) → HasText first rest tag times len content
    → IsFirst first rest (Bytes (tag / 4) times) (take len content) (drop len content)
text_first first rest tag times len content has =
    let size : length first.1 ≡ len = sym has.len_is in
    record {
      node_is = ap (λ (n : ℕ). Bytes n times) has.field_is ∙ ap (λ (n : ℕ). Bytes has.field n) has.times_is ∙ sym has.node_is;
      text_is = ap (take len) has.content_is ∙ take_at first.1 rest len size;
      behind_is = ap (drop len) has.content_is ∙ drop_at first.1 rest len size;
    }

pub IsFirst_as : (first : Shown) (rest : List ℕ) (node : FieldNode) (text behind text_is behind_is : List ℕ) → text_is ≡ text → behind_is ≡ behind
    → IsFirst first rest node text behind → IsFirst first rest node text_is behind_is
IsFirst_as first rest node text behind text_is behind_is e f is = record { node_is = is.node_is; text_is = e ∙ is.text_is; behind_is = f ∙ is.behind_is }

pub begin_first : (first : Shown) (rest : List ℕ) (tag : ℕ) (behind text : List ℕ) → IsWritable first → HasTag first rest tag behind
    → tag % 4 ≡ 2 → text ≡ [] → IsFirst first rest (Begin (tag / 4)) text behind
begin_first (Number f v, t) rest tag behind text is has kind empty = absurd (omega (arith, has.tag_is, kind))
begin_first (Bytes f k, t) rest tag behind text is has kind empty = absurd (omega (arith, has.tag_is, kind))
begin_first (Begin f, t) rest tag behind text is has kind empty =
    let field : tag / 4 ≡ f = omega (arith, has.tag_is) in
    record { node_is = ap (λ (n : ℕ). Begin n) field; text_is = empty ∙ sym is.text; behind_is = has.behind_is }
begin_first (End, t) rest tag behind text is has kind empty = absurd (omega (arith, has.tag_is, kind))

pub end_first : (first : Shown) (rest : List ℕ) (tag : ℕ) (behind text : List ℕ) → IsWritable first → HasTag first rest tag behind
    → 3 ≤ tag % 4 → text ≡ [] → IsFirst first rest End text behind
end_first (Number f v, t) rest tag behind text is has kind empty = absurd (omega (arith, has.tag_is, kind))
end_first (Bytes f k, t) rest tag behind text is has kind empty = absurd (omega (arith, has.tag_is, kind))
end_first (Begin f, t) rest tag behind text is has kind empty = absurd (omega (arith, has.tag_is, kind))
end_first (End, t) rest tag behind text is has kind empty = record { node_is = refl; text_is = empty ∙ sym is.text; behind_is = has.behind_is }

-- ---- the nodes that are left

-- the bytes begin with a node, and go on with others
pub record BeginsWith (bytes : List ℕ) : Type 0 where
  pub first : Shown
  pub others : List Shown
  pub writable : IsWritable first
  pub fit : IsFit first.0
  pub cut : bytes ≡ written_node first ++ written_nodes others
  pub shown : shown_in bytes ≡ first ∷ others
  pub later : AreFitNodes (written_nodes others)
  pub later_shown : shown_in (written_nodes others) ≡ others

begins : (bytes : List ℕ) (nodes : List Shown) → 1 ≤ length bytes → bytes ≡ written_nodes nodes → shown_in bytes ≡ nodes
    → AllByRecursion IsWritable nodes → AllByRecursion (λ node. IsFit node.0) nodes → BeginsWith bytes
begins bytes [] some written shown writable fit = absurd (omega (arith, some, ap length written))
begins bytes (first ∷ others) some written shown writable fit =
    let again = are_written (written_nodes others) others writable.1 refl in
    record {
      first = first;
      others = others;
      writable = writable.0;
      fit = fit.0;
      cut = written;
      shown = shown;
      later = record { are = again.0; fit = subst (AllByRecursion (λ (node : Shown). IsFit node.0)) (sym again.1) fit.1 };
      later_shown = again.1;
    }

pub none_left : (bytes : List ℕ) (test : Bool) → test ≡ (length bytes == 0) → test ≡ true → shown_in bytes ≡ []
none_left [] test is holds = nothing_shown
none_left (byte ∷ bytes) test is holds = absurd (omega (arith, eqb-true (length (byte ∷ bytes)) 0 (sym is ∙ holds)))

some_left : (bytes : List ℕ) (test : Bool) → test ≡ (length bytes == 0) → test ≡ false → 1 ≤ length bytes
some_left [] test is fails = absurd (false≢true (sym (sym is ∙ fails)))
some_left (byte ∷ bytes) test is fails = omega arith

pub begins_with : (bytes : List ℕ) (test : Bool) → AreFitNodes bytes → test ≡ (length bytes == 0) → test ≡ false → BeginsWith bytes
begins_with bytes test are is fails =
    begins bytes (shown_in bytes) (some_left bytes test is fails) are.are.written refl are.are.writable are.fit

-- the first of them, as it was read
pub record IsNext (bytes : List ℕ) (node : FieldNode) (text behind : List ℕ) : Type 0 where
  pub shown : shown_in bytes ≡ (node, text) ∷ shown_in behind
  pub fit : IsFit node
  pub left : AreFitNodes behind

pub next_is : (bytes : List ℕ) (front : BeginsWith bytes) (node : FieldNode) (text behind : List ℕ)
    → IsFirst front.first (written_nodes front.others) node text behind → IsNext bytes node text behind
next_is bytes front node text behind is =
    let one : (node, text) ≡ front.first = ap (λ (n : FieldNode). (n, text)) is.node_is ∙ ap (λ (t : List ℕ). (front.first.0, t)) is.text_is in
    let later : shown_in behind ≡ front.others = ap shown_in is.behind_is ∙ front.later_shown in
    record {
      shown = front.shown ∙ ap (λ (s : Shown). s ∷ front.others) (sym one) ∙ ap (λ (more : List Shown). (node, text) ∷ more) (sym later);
      fit = subst IsFit (sym is.node_is) front.fit;
      left = subst AreFitNodes (sym is.behind_is) front.later;
    }
