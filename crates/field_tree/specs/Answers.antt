-- What the answer to a text means, in a place where so many messages are open.
use Rattle.std.specs.Prelude.{◌≡◌, ℕ, List, Option, Some, None, Result, Ok, Err}
use Rattle.trace_model.specs.Encoding.{Fields}
use Rattle.field_tree.specs.declared.fault.FieldFault.{FieldFault}
use Rattle.field_tree.specs.declared.fault.FieldFault.TheVariants.{BadField}
use Rattle.field_tree.specs.declared.fault.FieldError.{FieldError}
use Rattle.field_tree.specs.declared.fault.FieldError.TheVariants.{OutOfMemory, Fault}
use Rattle.field_tree.specs.declared.tree.FieldTree.{FieldTree}
use Rattle.field_tree.specs.Nodes.{Shown, nodes_of}
use Rattle.field_tree.specs.Grammar.{IsTextOf, IsFaultAt}
use Rattle.field_tree.specs.Refusals.{refusal_of}
use Rattle.field_tree.specs.Judged.{nodes_refusal}
use Rattle.field_tree.specs.Machine.{nodes_or_column}

-- the text spells fields with these nodes, and nothing speaks against them
pub record IsTaken (depth : ℕ) (text : List ℕ) (nodes : List Shown) : Type 0 where
  pub fields : Fields
  pub text_of : IsTextOf fields text
  pub nodes_are : nodes ≡ nodes_of fields
  pub taken : refusal_of depth fields ≡ None

-- the text spells fields that aren't taken for this reason
pub record IsRefused (depth : ℕ) (text : List ℕ) (fault : FieldFault) : Type 0 where
  pub fields : Fields
  pub text_of : IsTextOf fields text
  pub refused : refusal_of depth fields ≡ Some fault

-- nodes, or the first reason for which the text isn't taken
abbrev pub Means : ℕ → List ℕ → Result (List Shown) FieldFault → Type 0
Means depth text (Ok nodes) = IsTaken depth text nodes
Means depth text (Err (BadField column)) = IsFaultAt text column
Means depth text (Err fault) = IsRefused depth text fault

-- ---- the same as a function, for definitions above: a law says that it means this, and that nothing else does

abbrev pub unless : Option FieldFault → List Shown → Result (List Shown) FieldFault
unless None nodes = Ok nodes
unless (Some fault) nodes = Err fault

-- what a text of FIELDS comes to: its nodes where the packet may have them, else the fault
abbrev pub judged : ℕ → Result (List Shown) ℕ → Result (List Shown) FieldFault
judged depth (Ok nodes) = unless (nodes_refusal depth nodes) nodes
judged depth (Err column) = Err (BadField column)

-- the answer on a text at a depth of nesting
unfoldable pub outcome : ℕ → List ℕ → Result (List Shown) FieldFault
outcome depth text = judged depth (nodes_or_column text)

-- ---- answers of calls; that memory ran out says nothing of the text

abbrev pub Parses : ℕ → List ℕ → Result FieldTree FieldError → Type 0
Parses depth text (Ok tree) = Means depth text (Ok tree)
Parses depth text (Err OutOfMemory) = Unit {0}
Parses depth text (Err (Fault fault)) = Means depth text (Err fault)

-- the parser's answer is the one that is due; want of memory is free
abbrev pub Gives : Result FieldTree FieldError → Result (List Shown) FieldFault → Type 0
Gives (Ok tree) given = given ≡ Ok tree
Gives (Err OutOfMemory) given = Unit {0}
Gives (Err (Fault fault)) given = given ≡ Err fault
