-- Statements of the laws of the grammar and of the nodes of a tree.
use Rattle.std.specs.Prelude.{◌≡◌, ℕ, ◌-◌, List, take, length, Result}
use Rattle.trace_model.specs.Encoding.{Fields, encoding_of}
use Rattle.field_tree.specs.declared.fault.FieldFault.{FieldFault}
use Rattle.field_tree.specs.Nodes.{Shown, nodes_of}
use Rattle.field_tree.specs.Grammar.{IsTextOf, IsFrontOfFields, IsFaultAt}
use Rattle.field_tree.specs.Judged.{nodes_len}
use Rattle.field_tree.specs.Answers.{Means, outcome}

-- a text spells one tree at most
abbrev pub OneTree : Type 0
OneTree = (text : List ℕ) (a b : Fields) → IsTextOf a text → IsTextOf b text → a ≡ b

-- a text has a fault at one column at most, and then it spells no tree
abbrev pub OneFault : Type 0
OneFault = (text : List ℕ) (c d : ℕ) → IsFaultAt text c → IsFaultAt text d → c ≡ d

-- A text with a fault spells no fields.
abbrev pub FaultsHaveNoTree : Type 0
FaultsHaveNoTree = (text : List ℕ) (c : ℕ) (fields : Fields) → IsFaultAt text c → IsTextOf fields text → ⊥

-- some FIELDS begin as the text does before the column of its fault
abbrev pub FieldsBeginBeforeFaults : Type 0
FieldsBeginBeforeFaults = (text : List ℕ) (c : ℕ) → IsFaultAt text c → IsFrontOfFields (take (c - 1) text)

-- the outcome of a text is an answer that is right, and there is no other
abbrev pub OutcomesAreRight : Type 0
OutcomesAreRight = (depth : ℕ) (text : List ℕ) → Means depth text (outcome depth text)

-- The answer on a text is the only one that means what it is to mean.
abbrev pub NoOtherIsRight : Type 0
NoOtherIsRight = (depth : ℕ) (text : List ℕ) (answer : Result (List Shown) FieldFault) → Means depth text answer
    → answer ≡ outcome depth text

-- no two trees have the same nodes
abbrev pub NodesTellTheTree : Type 0
NodesTellTheTree = (a b : Fields) → nodes_of a ≡ nodes_of b → a ≡ b

-- the lengths of the nodes add up to that of the encoding
abbrev pub NodesAreAsLong : Type 0
NodesAreAsLong = (fields : Fields) → nodes_len (nodes_of fields) ≡ length (encoding_of fields)
