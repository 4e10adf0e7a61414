-- The text that follows inside open messages: the fields of the innermost one, its end, and so on outwards.
use Rattle.std.proofs.Common.{◌≡◌, ◌≢◌, ℕ, zero, suc, ◌^◌, ◌<◌, Bool, true, false, List, [], ◌∷◌, ◌++◌, refl, sym, ap, ◌∙◌, append_assoc}
use Rattle.trace_model.specs.Encoding.{Fields, NoFields, NumberField, BytesField, NestedField}
use Rattle.field_tree.specs.declared.node.FieldNode.TheVariants.{Number, Bytes, Begin, End}
use Rattle.field_tree.specs.Nodes.{Shown, nodes_of, IsField}
use Rattle.field_tree.specs.Grammar.{number, BytesSpelling, IsSpelling}

-- the text ends so many open messages, each behind some more of its fields, and these are the nodes
abbrev pub Closes : ℕ → List Shown → List ℕ → Type 0
Closes zero nodes text = (nodes ≡ []) × (text ≡ [])
Closes (suc d) nodes text =
    (fields : Fields) × (front : List ℕ) × (behind : List ℕ) × (others : List Shown)
    × (text ≡ 125 ∷ (front ++ behind)) × (nodes ≡ (End, []) ∷ (nodes_of fields ++ others))
    × IsSpelling true fields front × Closes d others behind

-- first come more fields of the innermost message
pub record InMessage (after : Bool) (d : ℕ) (nodes : List Shown) (text : List ℕ) : Type 0 where
  pub fields : Fields
  pub front : List ℕ
  pub behind : List ℕ
  pub others : List Shown
  pub text_is : text ≡ front ++ behind
  pub nodes_are : nodes ≡ nodes_of fields ++ others
  pub spelled : IsSpelling after fields front
  pub ends : Closes d others behind

-- at least one
pub record AField (d : ℕ) (nodes : List Shown) (text : List ℕ) : Type 0 where
  pub message : InMessage false d nodes text
  pub some : message.fields ≢ NoFields

-- a message ends here
pub closes_here : (after : Bool) (d : ℕ) (nodes : List Shown) (text : List ℕ) → InMessage true d nodes text
    → InMessage after (suc d) ((End, []) ∷ nodes) (125 ∷ text)
closes_here after d nodes text m = record {
  fields = NoFields;
  front = [];
  behind = 125 ∷ text;
  others = (End, []) ∷ nodes;
  text_is = refl;
  nodes_are = refl;
  spelled = refl;
  ends = (m.fields, m.front, m.behind, m.others, ap (λ (w : List ℕ). 125 ∷ w) m.text_is, ap (λ (ns : List Shown). (End, []) ∷ ns) m.nodes_are, m.spelled, m.ends);
}

-- all ends here
pub ends_here : InMessage true 0 [] []
ends_here = record {
  fields = NoFields;
  front = [];
  behind = [];
  others = [];
  text_is = refl;
  nodes_are = refl;
  spelled = refl;
  ends = (refl, refl);
}

-- a space, and then a field
spaced_spelling : (fields : Fields) (front : List ℕ) → fields ≢ NoFields → IsSpelling false fields front
    → IsSpelling true fields (32 ∷ front)
spaced_spelling NoFields front some spelled = absurd (some refl)
spaced_spelling (NumberField field value others) front some spelled =
    (spelled.0, spelled.1, spelled.2, ap (λ (w : List ℕ). 32 ∷ w) spelled.3, spelled.4)
spaced_spelling (BytesField field text times others) front some spelled =
    (spelled.0, spelled.1, spelled.2, spelled.3, ap (λ (w : List ℕ). 32 ∷ w) spelled.4, spelled.5)
spaced_spelling (NestedField field inner others) front some spelled =
    (spelled.0, spelled.1, spelled.2, spelled.3, ap (λ (w : List ℕ). 32 ∷ w) spelled.4, spelled.5)

pub spaced : (d : ℕ) (nodes : List Shown) (text : List ℕ) → AField d nodes text → InMessage true d nodes (32 ∷ text)
spaced d nodes text a = record {
  fields = a.message.fields;
  front = 32 ∷ a.message.front;
  behind = a.message.behind;
  others = a.message.others;
  text_is = ap (λ (w : List ℕ). 32 ∷ w) a.message.text_is;
  nodes_are = a.message.nodes_are;
  spelled = spaced_spelling a.message.fields a.message.front a.some a.message.spelled;
  ends = a.message.ends;
}

longer : (word front behind text : List ℕ) → text ≡ front ++ behind → word ++ text ≡ (word ++ front) ++ behind
longer word front behind text is = ap (λ (w : List ℕ). word ++ w) is ∙ sym (append_assoc word front behind)

-- a field before others
pub number_before : (n v d : ℕ) (nodes : List Shown) (text : List ℕ) → IsField n → v < 2 ^ 64 → InMessage true d nodes text
    → AField d ((Number n v, []) ∷ nodes) ((number n ++ 58 ∷ number v) ++ text)
number_before n v d nodes text field fits m = record {
  message = record {
    fields = NumberField n v m.fields;
    front = (number n ++ 58 ∷ number v) ++ m.front;
    behind = m.behind;
    others = m.others;
    text_is = longer (number n ++ 58 ∷ number v) m.front m.behind text m.text_is;
    nodes_are = ap (λ (ns : List Shown). (Number n v, []) ∷ ns) m.nodes_are;
    spelled = (field, fits, m.front, refl, m.spelled);
    ends = m.ends;
  };
  some = λ is. cc;
}

pub bytes_before : (n k d : ℕ) (t value : List ℕ) (nodes : List Shown) (text : List ℕ) → IsField n → BytesSpelling t k value
    → InMessage true d nodes text → AField d ((Bytes n k, t) ∷ nodes) ((number n ++ 58 ∷ value) ++ text)
bytes_before n k d t value nodes text field spelling m = record {
  message = record {
    fields = BytesField n t k m.fields;
    front = (number n ++ 58 ∷ value) ++ m.front;
    behind = m.behind;
    others = m.others;
    text_is = longer (number n ++ 58 ∷ value) m.front m.behind text m.text_is;
    nodes_are = ap (λ (ns : List Shown). (Bytes n k, t) ∷ ns) m.nodes_are;
    spelled = (field, value, spelling, m.front, refl, m.spelled);
    ends = m.ends;
  };
  some = λ is. cc;
}

nested_text : (n : ℕ) (between front behind text tail : List ℕ) → text ≡ between ++ behind → behind ≡ 125 ∷ (front ++ tail)
    → number n ++ 123 ∷ text ≡ ((number n ++ 123 ∷ between ++ 125 ∷ []) ++ front) ++ tail
nested_text n between front behind text tail text_is behind_is =
    rw (text_is, behind_is) (simp append_assoc)

nested_nodes : (n : ℕ) (inner later : Fields) (nodes others rest : List Shown) → nodes ≡ nodes_of inner ++ others
    → others ≡ (End, []) ∷ (nodes_of later ++ rest)
    → (Begin n, []) ∷ nodes ≡ nodes_of (NestedField n inner later) ++ rest
nested_nodes n inner later nodes others rest nodes_are others_are =
    rw (nodes_are, others_are) (simp append_assoc)

pub nested_before : (n d : ℕ) (nodes : List Shown) (text : List ℕ) → IsField n → InMessage false (suc d) nodes text
    → AField d ((Begin n, []) ∷ nodes) (number n ++ 123 ∷ text)
nested_before n d nodes text field m =
    let (fields, front, behind, others, text_is, nodes_are, spelled, ends) = m.ends in
    record {
      message = record {
        fields = NestedField n m.fields fields;
        front = (number n ++ 123 ∷ m.front ++ 125 ∷ []) ++ front;
        behind = behind;
        others = others;
        text_is = nested_text n m.front front m.behind text behind m.text_is text_is;
        nodes_are = nested_nodes n m.fields fields nodes m.others others m.nodes_are nodes_are;
        spelled = (field, m.front, m.spelled, front, refl, spelled);
        ends = ends;
      };
      some = λ is. cc;
    }
