-- From what a text comes to, to what the answer means.
use Rattle.std.proofs.Common.{◌≡◌, ℕ, ◌+◌, Bool, true, false, ◌==◌, nat_lt, Option, Some, None, Result, Ok, Err, List, refl, sym, ap, subst, ◌∙◌}
use Rattle.std.proofs.lemmas.Bool.{cond_both}
use Rattle.std.specs.List.{AllByRecursion}
use Rattle.trace_base.specs.declared.limits.TheConstants.{MAX_NESTING, MAX_PACKET_LEN}
use Rattle.trace_model.specs.Encoding.{Fields, encoding_len, depth_of}
use Rattle.field_tree.specs.declared.fault.FieldFault.{FieldFault}
use Rattle.field_tree.specs.declared.fault.FieldFault.TheVariants.{BadField, Reserved, TooDeep, PacketTooLong}
use Rattle.field_tree.specs.declared.fault.FieldError.{FieldError}
use Rattle.field_tree.specs.declared.fault.FieldError.TheVariants.{OutOfMemory, Fault}
use Rattle.field_tree.specs.declared.tree.FieldTree.{FieldTree}
use Rattle.field_tree.specs.Nodes.{Shown, nodes_of, IsFit}
use Rattle.field_tree.specs.Grammar.{IsTextOf, IsFaultAt, Spells}
use Rattle.field_tree.specs.Refusals.{first_reserved, reserved_fault, when, or_else, refusal_of}
use Rattle.field_tree.specs.Judged.{nodes_refusal}
use Rattle.field_tree.specs.Machine.{nodes_or_column}
use Rattle.field_tree.specs.Answers.{IsRefused, Means, unless, judged, outcome, Parses, Gives}
use Rattle.field_tree.proofs.FitLemmas.{spelled_fit}
use Rattle.field_tree.proofs.Faults.{one_fault, fault_no_text}
use Rattle.field_tree.proofs.Outcomes.{Says, outcome_says, read_as}
use Rattle.field_tree.proofs.NodeLaws.{refusal_tree, one_tree_of_nodes}

-- ---- what is given

read_fit : (nodes : List Shown) (text : List ℕ) (r : Result (List Shown) ℕ) → Says text r → r ≡ Ok nodes → AllByRecursion (λ n. IsFit n.0) nodes
read_fit nodes text (Ok read) says is =
    let same : read ≡ nodes = cc in
    let P : List Shown → Type 0 = λ ns. AllByRecursion (λ n. IsFit n.0) ns in
    subst P (sym says.nodes_are ∙ same) (spelled_fit says.fields false text says.text_of.spelled)
read_fit nodes text (Err column) says is = absurd (cc)

pub nodes_fit : (text : List ℕ) (nodes : List Shown) → nodes_or_column text ≡ Ok nodes → AllByRecursion (λ n. IsFit n.0) nodes
nodes_fit text nodes read = read_fit nodes text (nodes_or_column text) (outcome_says text) read

pub given_taken : (depth : ℕ) (text : List ℕ) (nodes : List Shown) → nodes_or_column text ≡ Ok nodes
    → nodes_refusal depth nodes ≡ None → outcome depth text ≡ Ok nodes
unfolding outcome
given_taken depth text nodes is none = ap (judged depth) is ∙ ap (λ (o : Option FieldFault). unless o nodes) none

pub given_refused : (depth : ℕ) (text : List ℕ) (nodes : List Shown) (fault : FieldFault) → nodes_or_column text ≡ Ok nodes
    → nodes_refusal depth nodes ≡ Some fault → outcome depth text ≡ Err fault
unfolding outcome
given_refused depth text nodes fault is some = ap (judged depth) is ∙ ap (λ (o : Option FieldFault). unless o nodes) some

pub given_column : (depth column : ℕ) (text : List ℕ) → nodes_or_column text ≡ Err column → outcome depth text ≡ Err (BadField column)
unfolding outcome
given_column depth column text is = ap (judged depth) is

-- ---- what it means

abbrev NoColumn : Option FieldFault → Type 0
NoColumn None = Unit {0}
NoColumn (Some (BadField column)) = ⊥
NoColumn (Some fault) = Unit {0}

either_no : (a b : Option FieldFault) → NoColumn a → NoColumn b → NoColumn (or_else a b)
either_no None b first second = second
either_no (Some fault) b first second = first

reserved_no : (depth : ℕ) (found : Option ℕ) → NoColumn (reserved_fault depth found)
reserved_no depth None = cond_both (depth == 0) None None NoColumn (λ _. tt) (λ _. tt)
reserved_no depth (Some field) = cond_both (depth == 0) (Some (Reserved field)) None NoColumn (λ _. tt) (λ _. tt)

when_no : (test : Bool) (fault : FieldFault) → NoColumn (Some fault) → NoColumn (when test fault)
when_no true fault none = none
when_no false fault none = tt

never_column : (depth : ℕ) (fields : Fields) (column : ℕ) → refusal_of depth fields ≡ Some (BadField column) → ⊥
unfolding refusal_of
never_column depth all column is =
    let none : NoColumn (refusal_of depth all) =
    either_no (reserved_fault depth (first_reserved all)) _ (reserved_no depth (first_reserved all))
    (either_no (when (nat_lt MAX_NESTING (depth + depth_of all)) TooDeep) (when (nat_lt MAX_PACKET_LEN (encoding_len all)) PacketTooLong)
    (when_no (nat_lt MAX_NESTING (depth + depth_of all)) TooDeep tt)
    (when_no (nat_lt MAX_PACKET_LEN (encoding_len all)) PacketTooLong tt)) in
    subst NoColumn is none

refused_means : (depth : ℕ) (text : List ℕ) (fields : Fields) (fault : FieldFault) → IsTextOf fields text → refusal_of depth fields ≡ Some fault → Means depth text (Err fault)
refused_means depth text fields (BadField column) is refused = absurd (never_column depth fields column refused)
refused_means depth text fields (Reserved field) is refused = record { fields = fields; text_of = is; refused = refused }
refused_means depth text fields TooDeep is refused = record { fields = fields; text_of = is; refused = refused }
refused_means depth text fields PacketTooLong is refused = record { fields = fields; text_of = is; refused = refused }

unless_means : (depth : ℕ) (text : List ℕ) (nodes : List Shown) (o : Option FieldFault) → Spells text nodes → nodes_refusal depth nodes ≡ o → Means depth text (unless o nodes)
unless_means depth text nodes None spelled is =
    record {
      fields = spelled.fields;
      text_of = spelled.text_of;
      nodes_are = spelled.nodes_are;
      taken = sym (refusal_tree depth spelled.fields) ∙ ap (nodes_refusal depth) (sym spelled.nodes_are) ∙ is;
    }
unless_means depth text nodes (Some fault) spelled is =
    refused_means depth text spelled.fields fault spelled.text_of (sym (refusal_tree depth spelled.fields) ∙ ap (nodes_refusal depth) (sym spelled.nodes_are) ∙ is)

judged_means : (depth : ℕ) (text : List ℕ) (r : Result (List Shown) ℕ) → Says text r → Means depth text (judged depth r)
judged_means depth text (Ok nodes) says = unless_means depth text nodes (nodes_refusal depth nodes) says refl
judged_means depth text (Err column) says = says

pub outcome_means : (depth : ℕ) (text : List ℕ) → Means depth text (outcome depth text)
unfolding outcome
outcome_means depth text = judged_means depth text (nodes_or_column text) (outcome_says text)

-- ---- and nothing else

outcome_text : (depth : ℕ) (text : List ℕ) (fields : Fields) → IsTextOf fields text → outcome depth text ≡ unless (refusal_of depth fields) (nodes_of fields)
unfolding outcome
outcome_text depth text fields is =
    let read = read_as text (nodes_of fields) (record { fields = fields; text_of = is; nodes_are = refl }) in
    ap (judged depth) read ∙ ap (λ (o : Option FieldFault). unless o (nodes_of fields)) (refusal_tree depth fields)

refused_only : (depth : ℕ) (text : List ℕ) (fault : FieldFault) → IsRefused depth text fault → outcome depth text ≡ Err fault
refused_only depth text fault r =
    outcome_text depth text r.fields r.text_of ∙ ap (λ (o : Option FieldFault). unless o (nodes_of r.fields)) r.refused

column_only : (depth : ℕ) (text : List ℕ) (column : ℕ) (r : Result (List Shown) ℕ) → IsFaultAt text column → Says text r → judged depth r ≡ Err (BadField column)
column_only depth text column (Ok nodes) fault says = absurd (fault_no_text text column says.fields fault says.text_of)
column_only depth text column (Err other) fault says = ap (λ (c : ℕ). Err (BadField c)) (one_fault text other column says fault)

pub only_outcome : (depth : ℕ) (text : List ℕ) (answer : Result (List Shown) FieldFault) → Means depth text answer → answer ≡ outcome depth text
unfolding outcome
only_outcome depth text (Ok nodes) given =
    sym (outcome_text depth text given.fields given.text_of ∙ ap (λ (o : Option FieldFault). unless o (nodes_of given.fields)) given.taken
    ∙ ap (λ (ns : List Shown). Ok ns) (sym given.nodes_are))
only_outcome depth text (Err (BadField column)) given = sym (column_only depth text column (nodes_or_column text) given (outcome_says text))
only_outcome depth text (Err (Reserved field)) given = sym (refused_only depth text (Reserved field) given)
only_outcome depth text (Err TooDeep) given = sym (refused_only depth text TooDeep given)
only_outcome depth text (Err PacketTooLong) given = sym (refused_only depth text PacketTooLong given)

pub one_tree : (text : List ℕ) (a b : Fields) → IsTextOf a text → IsTextOf b text → a ≡ b
one_tree text a b first second =
    let one = read_as text (nodes_of a) (record { fields = a; text_of = first; nodes_are = refl }) in
    let other = read_as text (nodes_of b) (record { fields = b; text_of = second; nodes_are = refl }) in
    let same : nodes_of a ≡ nodes_of b = cc in
    one_tree_of_nodes a b same

-- an answer that is given means what it says
pub gives_parses : (depth : ℕ) (text : List ℕ) (result : Result FieldTree FieldError) → Gives result (outcome depth text) → Parses depth text result
gives_parses depth text (Ok tree) is = let P : Result (List Shown) FieldFault → Type 0 = λ r. Means depth text r in subst P is (outcome_means depth text)
gives_parses depth text (Err OutOfMemory) is = tt
gives_parses depth text (Err (Fault fault)) is = let P : Result (List Shown) FieldFault → Type 0 = λ r. Means depth text r in subst P is (outcome_means depth text)
