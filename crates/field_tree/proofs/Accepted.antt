-- What is read is spelled: the text behind each place is what follows there.
use Rattle.std.proofs.Common.{◌≡◌, ℕ, suc, ◌-◌, Bool, true, false, cond, ◌&&◌, ◌||◌, ◌==◌, nat_lt, Option, Some, None, option_and_then, List, [], ◌∷◌, ◌++◌, refl, sym, ap, subst, arith, ◌∙◌, append_assoc}
use Rattle.std.proofs.lemmas.List.{append-nil}
use Rattle.std.proofs.lemmas.Bool.{cond_both, and_parts, eqb-true, ltb-true}
use Rattle.field_tree.specs.declared.node.FieldNode.{FieldNode}
use Rattle.field_tree.specs.declared.node.FieldNode.TheVariants.{Number, Bytes, Begin, End}
use Rattle.field_tree.specs.declared.mode.Mode.{Mode}
use Rattle.field_tree.specs.declared.mode.Mode.TheVariants.{Start, Field, Value, Zero, Digits, Text, Quoted, Star, Times, Tick, Pairs, Half, Packed, After}
use Rattle.field_tree.specs.declared.mode.Action.{Action}
use Rattle.field_tree.specs.declared.mode.Action.TheVariants.{Refuse, Go, Keep, Open, Close}
use Rattle.field_tree.specs.Nodes.{Shown, nodes_of}
use Rattle.field_tree.specs.Grammar.{number, Quoted as AsQuoted, Repeated, InPairs, IsTextOf, Spells}
use Rattle.field_tree.specs.Machine.{TextReading, act, settled, before_byte, moved, applied, next, then_run, run, is_after, finish, beginning, IsValid}
use Rattle.field_tree.proofs.TestLemmas.{number_digit}
use Rattle.field_tree.proofs.Messages.{InMessage, AField, ends_here, number_before, bytes_before}
use Rattle.field_tree.proofs.Steps.{Follows, Back, act_back}

-- the nodes of all, where the text behind a place ends it
abbrev pub accepted : TextReading → List ℕ → Option (List Shown)
accepted r text = option_and_then finish (run r text)

-- what follows a place, and the nodes of all
pub record Means (r : TextReading) (all : List Shown) (text : List ℕ) : Type 0 where
  pub nodes : List Shown
  pub all_is : all ≡ r.nodes ++ nodes
  pub follows : Follows r.mode r.text r.depth nodes text

-- ---- the end of a field

pub record SettlesBack (r to : TextReading) : Type 0 where
  pub valid : IsValid to.mode to.text
  pub back : (all : List Shown) (text : List ℕ) → Means to all text → Means r all text

stays : (r : TextReading) → IsValid r.mode r.text → SettlesBack r r
stays r valid = record { valid = valid; back = λ all text m. m }

joins : (all ns nodes : List Shown) (one : Shown) → all ≡ (ns ++ one ∷ []) ++ nodes → all ≡ ns ++ one ∷ nodes
joins all ns nodes one is = is ∙ append_assoc ns (one ∷ []) nodes

settles : (ns : List Shown) (d : ℕ) (t : List ℕ) (m : Mode) (node : FieldNode)
    → ((nodes : List Shown) (text : List ℕ) → InMessage true d nodes text → Follows m t d ((node, t) ∷ nodes) text)
    → SettlesBack (record { nodes = ns; depth = d; text = t; mode = m }) (record { nodes = ns ++ (node, t) ∷ []; depth = d; text = []; mode = After })
settles ns d t m node before = record {
  valid = refl;
  back = λ all text m. record {
    nodes = (node, t) ∷ m.nodes;
    all_is = joins all ns m.nodes (node, t) m.all_is;
    follows = before m.nodes text m.follows;
  };
}

zero_before : (n d : ℕ) (t : List ℕ) (nodes : List Shown) (text : List ℕ) → IsValid (Zero n) t → InMessage true d nodes text
    → Follows (Zero n) t d ((Number n 0, t) ∷ nodes) text
zero_before n d [] nodes text valid m =
    let P : List ℕ → Type 0 = λ w. AField d ((Number n 0, []) ∷ nodes) ((number n ++ 58 ∷ w) ++ text) in
    subst P (number_digit 0 (omega arith)) (number_before n 0 d nodes text valid.0 (omega arith) m)
zero_before n d (x ∷ t) nodes text valid m = absurd (cc)

digits_before : (n v d : ℕ) (t : List ℕ) (nodes : List Shown) (text : List ℕ) → IsValid (Digits n v) t → InMessage true d nodes text
    → Follows (Digits n v) t d ((Number n v, t) ∷ nodes) text
digits_before n v d [] nodes text valid m = number_before n v d nodes text valid.0 valid.2 m
digits_before n v d (x ∷ t) nodes text valid m = absurd (cc)

pub settle_back : (ns : List Shown) (d : ℕ) (t : List ℕ) (m : Mode) → IsValid m t
    → SettlesBack (record { nodes = ns; depth = d; text = t; mode = m }) (settled (record { nodes = ns; depth = d; text = t; mode = m }))
unfolding settled
settle_back ns d t (Start opened) valid = stays _ valid
settle_back ns d t (Field n) valid = stays _ valid
settle_back ns d t (Value n) valid = stays _ valid
settle_back ns d t (Zero n) valid = settles ns d t (Zero n) (Number n 0) (λ nodes text m. zero_before n d t nodes text valid m)
settle_back ns d t (Digits n v) valid = settles ns d t (Digits n v) (Number n v) (λ nodes text m. digits_before n v d t nodes text valid m)
settle_back ns d t (Text n) valid = stays _ valid
settle_back ns d t (Quoted n) valid = settles ns d t (Quoted n) (Bytes n 1) (λ nodes text m. bytes_before n 1 d t _ nodes text valid.0 (AsQuoted valid.1 refl refl) m)
settle_back ns d t (Star n) valid = stays _ valid
settle_back ns d t (Times n k) valid = settles ns d t (Times n k) (Bytes n k) (λ nodes text m. bytes_before n k d t _ nodes text valid.0 (Repeated valid.1 valid.2 valid.3 refl) m)
settle_back ns d t (Tick n) valid = stays _ valid
settle_back ns d t (Pairs n) valid = stays _ valid
settle_back ns d t (Half n high) valid = stays _ valid
settle_back ns d t (Packed n) valid = settles ns d t (Packed n) (Bytes n 1) (λ nodes text m. bytes_before n 1 d t _ nodes text valid.0 (InPairs valid.1 refl refl) m)
settle_back ns d t After valid = stays _ valid

before_back : (r : TextReading) (b : ℕ) → IsValid r.mode r.text → SettlesBack r (before_byte b r)
before_back r b valid =
    cond_both (b == 32 || b == 125) (settled r) r (λ (q : TextReading). SettlesBack r q)
    (λ is. settle_back r.nodes r.depth r.text r.mode valid)
    (λ is. stays r valid)

-- ---- a byte

pub record StepsBack (r : TextReading) (b : ℕ) (to : TextReading) : Type 0 where
  pub valid : IsValid to.mode to.text
  pub back : (all : List Shown) (text : List ℕ) → Means to all text → Means r all (b ∷ text)

abbrev pub Steps : TextReading → ℕ → Option TextReading → Type 0
Steps r b None = Unit {0}
Steps r b (Some to) = StepsBack r b to

applied_back : (r : TextReading) (b : ℕ) (a : Action) → Back r.mode r.text (nat_lt 0 r.depth) b a → Steps r b (applied a r)
unfolding applied
applied_back r b Refuse given = tt
applied_back r b (Go to) given = record {
  valid = given.valid;
  back = λ all text m. record { nodes = m.nodes; all_is = m.all_is; follows = given.back r.depth m.nodes text m.follows };
}
applied_back r b (Keep to byte) given = record {
  valid = given.valid;
  back = λ all text m. record { nodes = m.nodes; all_is = m.all_is; follows = given.back r.depth m.nodes text m.follows };
}
applied_back r b (Open n) given = record {
  valid = refl;
  back = λ all text m. record {
    nodes = (Begin n, []) ∷ m.nodes;
    all_is = joins all r.nodes m.nodes (Begin n, r.text) m.all_is ∙ ap (λ (t : List ℕ). r.nodes ++ (Begin n, t) ∷ m.nodes) given.empty;
    follows = given.back r.depth m.nodes text m.follows;
  };
}
applied_back r b Close given =
    let some = ltb-true 0 r.depth given.inside in
    let depth : suc (r.depth - 1) ≡ r.depth = omega arith in
    record {
      valid = refl;
      back = λ all text m.
          let P : ℕ → Type 0 = λ d. Follows r.mode r.text d ((End, []) ∷ m.nodes) (b ∷ text) in
          record {
            nodes = (End, []) ∷ m.nodes;
            all_is = joins all r.nodes m.nodes (End, r.text) m.all_is ∙ ap (λ (t : List ℕ). r.nodes ++ (End, t) ∷ m.nodes) given.empty;
            follows = subst P depth (given.back (r.depth - 1) m.nodes text m.follows);
          };
    }

both_back : (r q : TextReading) (b : ℕ) (o : Option TextReading) → SettlesBack r q → Steps q b o → Steps r b o
both_back r q b None settle step = tt
both_back r q b (Some to) settle step = record {
  valid = step.valid;
  back = λ all text m. settle.back all (b ∷ text) (step.back all text m);
}

pub next_back : (r : TextReading) (b : ℕ) → IsValid r.mode r.text → Steps r b (next r b)
unfolding next
next_back r b valid =
    let settle = before_back r b valid in
    let q : TextReading = before_byte b r in
    both_back r q b (moved b q) settle
    (applied_back q b (act q.mode (nat_lt 0 q.depth) b) (act_back q.mode q.text (nat_lt 0 q.depth) b settle.valid))

-- ---- a text

ends_as : (r : TextReading) (all : List Shown) (m : Mode) → r.mode ≡ m → is_after m ≡ true → r.depth ≡ 0 → all ≡ r.nodes
    → Follows m r.text r.depth [] []
ends_as r all After mode after depth nodes =
    let P : ℕ → Type 0 = λ d. InMessage true d [] [] in
    subst P (sym depth) ends_here
ends_as r all (Start opened) mode after depth nodes = absurd (cc)
ends_as r all (Field n) mode after depth nodes = absurd (cc)
ends_as r all (Value n) mode after depth nodes = absurd (cc)
ends_as r all (Zero n) mode after depth nodes = absurd (cc)
ends_as r all (Digits n v) mode after depth nodes = absurd (cc)
ends_as r all (Text n) mode after depth nodes = absurd (cc)
ends_as r all (Quoted n) mode after depth nodes = absurd (cc)
ends_as r all (Star n) mode after depth nodes = absurd (cc)
ends_as r all (Times n k) mode after depth nodes = absurd (cc)
ends_as r all (Tick n) mode after depth nodes = absurd (cc)
ends_as r all (Pairs n) mode after depth nodes = absurd (cc)
ends_as r all (Half n h) mode after depth nodes = absurd (cc)
ends_as r all (Packed n) mode after depth nodes = absurd (cc)

end_means : (r : TextReading) (all : List Shown) (test : Bool) → (is_after r.mode && r.depth == 0) ≡ test → cond test (Some r.nodes) None ≡ Some all
    → Means r all []
end_means r all true is given =
    let both = and_parts (is_after r.mode) (r.depth == 0) is in
    let nodes : all ≡ r.nodes = cc in
    record {
      nodes = [];
      all_is = nodes ∙ sym (append-nil r.nodes);
      follows = ends_as r all r.mode refl both.0 (eqb-true r.depth 0 both.1) nodes;
    }
end_means r all false is given = absurd (cc)

step_means : (r : TextReading) (b : ℕ) (bs : List ℕ) (all : List Shown) (o : Option TextReading) → Steps r b o
    → option_and_then finish (then_run (λ q. run q bs) o) ≡ Some all
    → ((q : TextReading) → IsValid q.mode q.text → accepted q bs ≡ Some all → Means q all bs)
    → Means r all (b ∷ bs)
step_means r b bs all None step given again = absurd (cc)
step_means r b bs all (Some q) step given again = step.back all bs (again q step.valid given)

pub means : (text : List ℕ) (r : TextReading) (all : List Shown) → IsValid r.mode r.text → accepted r text ≡ Some all → Means r all text
unfolding run finish
means [] r all valid given =
    let settle = settle_back r.nodes r.depth r.text r.mode valid in
    settle.back all [] (end_means (settled r) all _ refl given)
means (b ∷ bs) r all valid given =
    step_means r b bs all (next r b) (next_back r b valid) given (λ q valid is. means bs q all valid is)

pub accepted_spelled : (text : List ℕ) (nodes : List Shown) → accepted beginning text ≡ Some nodes → Spells text nodes
unfolding beginning
accepted_spelled text nodes given =
    let m = means text beginning nodes refl given in
    let field = m.follows.message in
    let whole : text ≡ field.front = field.text_is ∙ ap (λ (w : List ℕ). field.front ++ w) field.ends.1 ∙ append-nil field.front in
    let P : List ℕ → Type 0 = λ w. IsTextOf field.fields w in
    record {
      fields = field.fields;
      text_of = subst P (sym whole) (record { some = m.follows.some; spelled = field.spelled });
      nodes_are = m.all_is ∙ field.nodes_are ∙ ap (λ (ns : List Shown). nodes_of field.fields ++ ns) field.ends.0 ∙ append-nil (nodes_of field.fields);
    }
