-- What was read so far begins some fields, and what was refused begins none.
use Rattle.std.proofs.Common.{◌≡◌, ℕ, zero, suc, ◌+◌, ◌*◌, Option, Some, None, option_and_then, List, [], ◌∷◌, ◌++◌, refl, ap, subst, ◌∙◌, append_assoc}
use Rattle.field_tree.specs.declared.node.FieldNode.TheVariants.{Number, Bytes, End}
use Rattle.field_tree.specs.declared.mode.Mode.{Mode}
use Rattle.field_tree.specs.declared.mode.Mode.TheVariants.{Start, Field, Value, Zero, Digits, Text, Quoted, Star, Times, Tick, Pairs, Half, Packed, After}
use Rattle.field_tree.specs.Nodes.{Shown, nodes_of}
use Rattle.field_tree.specs.Grammar.{IsTextOf, IsFrontOfFields, Spells}
use Rattle.field_tree.specs.Machine.{TextReading, act, settled, applied, next, then_run, run, finish, beginning, IsValid}
use Rattle.field_tree.proofs.Accepted.{accepted, Steps, next_back, accepted_spelled}
use Rattle.field_tree.specs.Scanning.{reading_with}
use Rattle.field_tree.proofs.Runs.{run-append}
use Rattle.field_tree.proofs.Spelled.{after_at, end_next, settled_after, end_of, spelled_accepted}

-- some text ends all
pub record Completes (r : TextReading) : Type 0 where
  pub more : List ℕ
  pub nodes : List Shown
  pub accepted_is : accepted r more ≡ Some nodes

accepted_next : (b : ℕ) (bs : List ℕ) (r q : TextReading) (o : Option (List Shown)) → next r b ≡ Some q → accepted q bs ≡ o → accepted r (b ∷ bs) ≡ o
unfolding run
accepted_next b bs r q o first later = ap (λ (p : Option TextReading). option_and_then finish (then_run (λ s. run s bs) p)) first ∙ later

byte_first : (b : ℕ) (r q : TextReading) → next r b ≡ Some q → Completes q → Completes r
byte_first b r q first later = record {
  more = b ∷ later.more;
  nodes = later.nodes;
  accepted_is = accepted_next b later.more r q (Some later.nodes) first later.accepted_is;
}

-- a closing brace for each open message
closes : (d : ℕ) (ns : List Shown) (q : TextReading) → settled q ≡ after_at ns d → Completes q
closes zero ns q is = record { more = []; nodes = ns; accepted_is = unfold run in end_of ns q is }
closes (suc d) ns q is =
    byte_first 125 q (after_at (ns ++ (End, []) ∷ []) d) (end_next q ns d is)
    (closes d (ns ++ (End, []) ∷ []) (after_at (ns ++ (End, []) ∷ []) d) (settled_after (ns ++ (End, []) ∷ []) d))

pub completes : (ns : List Shown) (d : ℕ) (t : List ℕ) (m : Mode) → IsValid m t → Completes (reading_with ns d t m)
unfolding next act applied settled
completes ns d t (Zero n) valid = closes d (ns ++ (Number n 0, t) ∷ []) (reading_with ns d t (Zero n)) refl
completes ns d t (Digits n v) valid = closes d (ns ++ (Number n v, t) ∷ []) (reading_with ns d t (Digits n v)) refl
completes ns d t (Quoted n) valid = closes d (ns ++ (Bytes n 1, t) ∷ []) (reading_with ns d t (Quoted n)) refl
completes ns d t (Times n k) valid = closes d (ns ++ (Bytes n k, t) ∷ []) (reading_with ns d t (Times n k)) refl
completes ns d t (Packed n) valid = closes d (ns ++ (Bytes n 1, t) ∷ []) (reading_with ns d t (Packed n)) refl
completes ns d [] After valid = closes d ns (reading_with ns d [] After) refl
completes ns d (x ∷ t) After valid = absurd (cc)
completes ns d t (Value n) valid =
    byte_first 48 (reading_with ns d t (Value n)) (reading_with ns d t (Zero n)) refl (closes d (ns ++ (Number n 0, t) ∷ []) (reading_with ns d t (Zero n)) refl)
completes ns d t (Field n) valid =
    byte_first 58 (reading_with ns d t (Field n)) (reading_with ns d t (Value n)) refl
    (byte_first 48 (reading_with ns d t (Value n)) (reading_with ns d t (Zero n)) refl (closes d (ns ++ (Number n 0, t) ∷ []) (reading_with ns d t (Zero n)) refl))
completes ns d t (Start opened) valid =
    byte_first 49 (reading_with ns d t (Start opened)) (reading_with ns d t (Field 1)) refl
    (byte_first 58 (reading_with ns d t (Field 1)) (reading_with ns d t (Value 1)) refl
    (byte_first 48 (reading_with ns d t (Value 1)) (reading_with ns d t (Zero 1)) refl (closes d (ns ++ (Number 1 0, t) ∷ []) (reading_with ns d t (Zero 1)) refl)))
completes ns d t (Text n) valid =
    byte_first 34 (reading_with ns d t (Text n)) (reading_with ns d t (Quoted n)) refl (closes d (ns ++ (Bytes n 1, t) ∷ []) (reading_with ns d t (Quoted n)) refl)
completes ns d t (Star n) valid =
    byte_first 49 (reading_with ns d t (Star n)) (reading_with ns d t (Times n 1)) refl (closes d (ns ++ (Bytes n 1, t) ∷ []) (reading_with ns d t (Times n 1)) refl)
completes ns d t (Tick n) valid =
    byte_first 39 (reading_with ns d t (Tick n)) (reading_with ns d t (Pairs n)) refl
    (byte_first 39 (reading_with ns d t (Pairs n)) (reading_with ns d t (Packed n)) refl (closes d (ns ++ (Bytes n 1, t) ∷ []) (reading_with ns d t (Packed n)) refl))
completes ns d t (Pairs n) valid =
    byte_first 39 (reading_with ns d t (Pairs n)) (reading_with ns d t (Packed n)) refl (closes d (ns ++ (Bytes n 1, t) ∷ []) (reading_with ns d t (Packed n)) refl)
completes ns d t (Half n high) valid =
    let kept : List ℕ = t ++ (16 * high + 0) ∷ [] in
    byte_first 48 (reading_with ns d t (Half n high)) (reading_with ns d kept (Pairs n)) (unfold Rattle.field_tree.specs.Machine.hex_value in refl)
    (byte_first 39 (reading_with ns d kept (Pairs n)) (reading_with ns d kept (Packed n)) refl (closes d (ns ++ (Bytes n 1, kept) ∷ []) (reading_with ns d kept (Packed n)) refl))

-- ---- what was read

valid_step : (r : TextReading) (b : ℕ) (bs : List ℕ) (to : TextReading) (o : Option TextReading) → Steps r b o
    → then_run (λ q. run q bs) o ≡ Some to
    → ((q : TextReading) → IsValid q.mode q.text → run q bs ≡ Some to → IsValid to.mode to.text)
    → IsValid to.mode to.text
valid_step r b bs to None step given again = absurd (cc)
valid_step r b bs to (Some q) step given again = again q step.valid given

pub valid_run : (text : List ℕ) (r to : TextReading) → IsValid r.mode r.text → run r text ≡ Some to → IsValid to.mode to.text
unfolding run
valid_run [] r to valid given =
    let same : r ≡ to = cc in
    let P : TextReading → Type 0 = λ q. IsValid q.mode q.text in
    subst P same valid
valid_run (b ∷ bs) r to valid given =
    valid_step r b bs to (next r b) (next_back r b valid) given (λ q valid is. valid_run bs q to valid is)

pub valid_here : (text : List ℕ) (to : TextReading) → run beginning text ≡ Some to → IsValid to.mode to.text
unfolding beginning
valid_here text to given = valid_run text beginning to refl given

pub begins_fields : (text : List ℕ) (r : TextReading) → run beginning text ≡ Some r → IsFrontOfFields text
begins_fields text r given =
    let c = completes r.nodes r.depth r.text r.mode (valid_here text r given) in
    let whole : accepted beginning (text ++ c.more) ≡ Some c.nodes =
    ap (λ (o : Option TextReading). option_and_then finish o) (run-append text c.more beginning ∙ ap (then_run (λ q. run q c.more)) given) ∙ c.accepted_is in
    let s = accepted_spelled (text ++ c.more) c.nodes whole in
    record { fields = s.fields; more = c.more; whole = s.text_of }

pub begins_none : (text : List ℕ) → run beginning text ≡ None → IsFrontOfFields text → ⊥
begins_none text refused front =
    let spelled : Spells (text ++ front.more) (nodes_of front.fields) = record { fields = front.fields; text_of = front.whole; nodes_are = refl } in
    let read = spelled_accepted (text ++ front.more) (nodes_of front.fields) spelled in
    let stopped : accepted beginning (text ++ front.more) ≡ None =
    ap (λ (o : Option TextReading). option_and_then finish o) (run-append text front.more beginning ∙ ap (then_run (λ q. run q front.more)) refused) in
    absurd (cc)

pub shorter_front : (text more : List ℕ) → IsFrontOfFields (text ++ more) → IsFrontOfFields text
shorter_front text more front =
    let P : List ℕ → Type 0 = λ w. IsTextOf front.fields w in
    record {
      fields = front.fields;
      more = more ++ front.more;
      whole = subst P (append_assoc text more front.more) front.whole;
    }
