-- What a text comes to, by where the reading stands in it; and that this is what the grammar says.
use Rattle.std.proofs.Common.{◌≡◌, ℕ, ◌+◌, ◌-◌, Option, Some, None, option_and_then, Result, Ok, Err, List, [], ◌∷◌, ◌++◌, length, refl, sym, ap, subst, arith, ◌∙◌, append_assoc, length-append}
use Rattle.std.proofs.lemmas.List.{append-nil}
use Rattle.field_tree.specs.Nodes.{Shown}
use Rattle.field_tree.specs.Grammar.{Spells, IsFaultAt}
use Rattle.field_tree.specs.Machine.{TextReading, next, then_run, run, finish, beginning, taken_back, at_end, at_byte, nodes_or_column_from, nodes_or_column}
use Rattle.field_tree.proofs.Accepted.{accepted, accepted_spelled}
use Rattle.field_tree.proofs.Runs.{run_joins, run_last}
use Rattle.field_tree.proofs.Spelled.{spelled_accepted}
use Rattle.field_tree.proofs.Faults.{fault_byte, fault_short}

-- what an outcome says of a text
abbrev pub Says : List ℕ → Result (List Shown) ℕ → Type 0
Says text (Ok nodes) = Spells text nodes
Says text (Err column) = IsFaultAt text column

end_says : (text : List ℕ) (r : TextReading) (place : ℕ) (o : Option (List Shown)) → run beginning text ≡ Some r → length text ≡ place → finish r ≡ o
    → Says text (at_end place o)
end_says text r place None given size ends =
    let P : ℕ → Type 0 = λ n. IsFaultAt text (n + 1) in
    subst P size (fault_short text r given ends)
end_says text r place (Some nodes) given size ends =
    accepted_spelled text nodes (ap (λ (o : Option TextReading). option_and_then finish o) given ∙ ends)

byte_says : (text : List ℕ) (b : ℕ) (rest : List ℕ) (r : TextReading) (place : ℕ) (o : Option TextReading) → run beginning text ≡ Some r → length text ≡ place → next r b ≡ o
    → ((q : TextReading) → run beginning (text ++ b ∷ []) ≡ Some q → Says ((text ++ b ∷ []) ++ rest) (nodes_or_column_from q (place + 1) rest))
    → Says (text ++ b ∷ rest) (at_byte (place + 1 - length (taken_back r.mode b)) (λ q. nodes_or_column_from q (place + 1) rest) o)
byte_says text b rest r place None given size goes again =
    let P : ℕ → Type 0 = λ n. IsFaultAt (text ++ b ∷ rest) (n + 1 - length (taken_back r.mode b)) in
    subst P size (fault_byte text b rest r given goes)
byte_says text b rest r place (Some q) given size goes again =
    let P : List ℕ → Type 0 = λ w. Says w (nodes_or_column_from q (place + 1) rest) in
    subst P (append_assoc text (b ∷ []) rest) (again q (run_joins text (b ∷ []) beginning r (Some q) given (run_last b r (Some q) goes)))

from_says : (rest text : List ℕ) (r : TextReading) (place : ℕ) → run beginning text ≡ Some r → length text ≡ place → Says (text ++ rest) (nodes_or_column_from r place rest)
unfolding nodes_or_column_from
from_says [] text r place given size =
    let P : List ℕ → Type 0 = λ w. Says w (at_end place (finish r)) in
    subst P (sym (append-nil text)) (end_says text r place (finish r) given size refl)
from_says (b ∷ rest) text r place given size =
    byte_says text b rest r place (next r b) given size refl
    (λ q is. from_says rest (text ++ b ∷ []) q (place + 1) is (length-append text (b ∷ []) ∙ ap (λ (n : ℕ). n + 1) size))

pub outcome_says : (text : List ℕ) → Says text (nodes_or_column text)
unfolding nodes_or_column
outcome_says text = from_says text [] beginning 0 (unfold run in refl) refl

-- ---- in the middle of a text

from_one : (b : ℕ) (a rest : List ℕ) (r q : TextReading) (place : ℕ) (o : Option TextReading) → next r b ≡ o → then_run (λ s. run s a) o ≡ Some q
    → ((s : TextReading) → run s a ≡ Some q → nodes_or_column_from s (place + 1) (a ++ rest) ≡ nodes_or_column_from q (place + 1 + length a) rest)
    → at_byte (place + 1 - length (taken_back r.mode b)) (λ s. nodes_or_column_from s (place + 1) (a ++ rest)) o ≡ nodes_or_column_from q (place + length (b ∷ a)) rest
from_one b a rest r q place None goes given again = absurd (cc)
from_one b a rest r q place (Some s) goes given again =
    let same : place + 1 + length a ≡ place + length (b ∷ a) = omega arith in
    again s given ∙ ap (λ (n : ℕ). nodes_or_column_from q n rest) same

from_middle : (a rest : List ℕ) (r q : TextReading) (place : ℕ) → run r a ≡ Some q → nodes_or_column_from r place (a ++ rest) ≡ nodes_or_column_from q (place + length a) rest
unfolding run nodes_or_column_from
from_middle [] rest r q place given =
    let same : r ≡ q = cc in
    let zero_more : place ≡ place + 0 = omega arith in
    ap (λ (s : TextReading). nodes_or_column_from s place rest) same ∙ ap (λ (n : ℕ). nodes_or_column_from q n rest) zero_more
from_middle (b ∷ a) rest r q place given = from_one b a rest r q place (next r b) refl given (λ s is. from_middle a rest s q (place + 1) is)

pub outcome_middle : (a rest : List ℕ) (q : TextReading) → run beginning a ≡ Some q → nodes_or_column (a ++ rest) ≡ nodes_or_column_from q (length a) rest
unfolding nodes_or_column
outcome_middle a rest q given =
    let same : 0 + length a ≡ length a = omega arith in
    from_middle a rest beginning q 0 given ∙ ap (λ (n : ℕ). nodes_or_column_from q n rest) same

pub outcome_end : (text : List ℕ) (q : TextReading) (o : Option (List Shown)) → run beginning text ≡ Some q → finish q ≡ o → nodes_or_column text ≡ at_end (length text) o
unfolding nodes_or_column_from
outcome_end text q o given ends =
    ap nodes_or_column (sym (append-nil text)) ∙ outcome_middle text [] q given ∙ ap (at_end (length text)) ends

pub outcome_refused : (text : List ℕ) (b : ℕ) (rest : List ℕ) (q : TextReading) → run beginning text ≡ Some q → next q b ≡ None
    → nodes_or_column (text ++ b ∷ rest) ≡ Err (length text + 1 - length (taken_back q.mode b))
unfolding nodes_or_column_from
outcome_refused text b rest q given refused =
    outcome_middle text (b ∷ rest) q given
    ∙ ap (at_byte (length text + 1 - length (taken_back q.mode b)) (λ s. nodes_or_column_from s (length text + 1) rest)) refused

-- what is spelled is read
spelled_result : (nodes : List Shown) (text : List ℕ) (o : Option TextReading) → run beginning text ≡ o → option_and_then finish o ≡ Some nodes → nodes_or_column text ≡ Ok nodes
spelled_result nodes text None given accepted = absurd (cc)
spelled_result nodes text (Some q) given accepted = outcome_end text q (Some nodes) given accepted

pub read_as : (text : List ℕ) (nodes : List Shown) → Spells text nodes → nodes_or_column text ≡ Ok nodes
read_as text nodes spelled = spelled_result nodes text (run beginning text) refl (spelled_accepted text nodes spelled)
