-- What the types of the code are in the words of the grammar.
use Rattle.std.specs.Prelude.{◌≡◌, ℕ, Bool, true, false, List, [], ◌∷◌, ◌++◌, Option, Some, None, Result, Ok, Err}
use Rattle.field_tree.specs.declared.parser.Parser.{Parser}
use Rattle.field_tree.specs.declared.mode.Mode.{Mode}
use Rattle.field_tree.specs.declared.node.FieldNode.{FieldNode}
use Rattle.field_tree.specs.declared.fault.FieldFault.{FieldFault}
use Rattle.field_tree.specs.declared.fault.FieldFault.TheVariants.{BadField}
use Rattle.field_tree.specs.declared.fault.FieldError.{FieldError}
use Rattle.field_tree.specs.declared.fault.FieldError.TheVariants.{OutOfMemory, Fault}
use Rattle.field_tree.specs.declared.survey.Survey.{Survey}
use Rattle.field_tree.specs.Nodes.{Shown}
use Rattle.field_tree.specs.Machine.{TextReading}
use Rattle.field_tree.specs.Judged.{level}
use Rattle.field_tree.specs.Surveys.{IsSurvey, level_behind}
use Rattle.field_tree.specs.Encoded.{IsEncoded}
use Rattle.field_tree.specs.Written.{shown_in, AreWritten, AreFitNodes}

-- the nodes that a parser has read
abbrev pub nodes_read : Parser → List Shown
nodes_read p = shown_in p.code.items

-- the text that is being read
abbrev pub text_read : Parser → List ℕ
text_read p = p.text.items

-- what a parser has read, as the grammar's machine sees it
abbrev pub reading : Parser → Mode → TextReading
reading p mode = record { nodes = nodes_read p; depth = p.depth; text = text_read p; mode = mode }

-- one node more with its text, and no text is being read
abbrev pub AddsNode : FieldNode → List ℕ → Parser → Parser → Type 0
AddsNode node text old new =
    (nodes_read new ≡ nodes_read old ++ (node, text) ∷ []) × (text_read new ≡ []) × (new.depth ≡ level old.depth node)

-- one byte more of the text that is being read
abbrev pub AddsByte : ℕ → Parser → Parser → Type 0
AddsByte byte old new =
    (nodes_read new ≡ nodes_read old) × (text_read new ≡ text_read old ++ byte ∷ []) × (new.depth ≡ old.depth)

-- some bytes more of it
abbrev pub AddsText : List ℕ → Parser → Parser → Type 0
AddsText bytes old new =
    (nodes_read new ≡ nodes_read old) × (text_read new ≡ text_read old ++ bytes) × (new.depth ≡ old.depth)

-- these bytes say some nodes, so many messages are open behind them, and this is found of them
pub record KeepsNodes (code : List ℕ) (depth : ℕ) (found : Survey) : Type 0 where
  pub written : AreWritten code
  pub open_messages : level_behind 0 (shown_in code) ≡ depth
  pub surveyed : IsSurvey found (shown_in code)

-- what a parser keeps
abbrev pub Keeps : Parser → Type 0
Keeps p = KeepsNodes p.code.items p.depth p.found

-- whether a byte was taken, and where the reading stands then
abbrev pub Takes : Bool → Option TextReading → TextReading → Type 0
Takes true given new = given ≡ Some new
Takes false given new = given ≡ None

-- whether the text may end, and its nodes where it may
abbrev pub Ends : Bool → Option (List Shown) → Parser → Type 0
Ends true given p = given ≡ Some (nodes_read p)
Ends false given p = given ≡ None

-- what was answered, with these bytes, is what the text comes to, unless memory ran out
abbrev pub GivesNodes : Result (Unit {0}) FieldError → List ℕ → Result (List Shown) ℕ → Type 0
GivesNodes (Ok done) code given = (given ≡ Ok (shown_in code)) × AreFitNodes code
GivesNodes (Err OutOfMemory) code given = Unit {0}
GivesNodes (Err (Fault (BadField column))) code given = given ≡ Err column
GivesNodes (Err (Fault fault)) code given = ⊥

-- the same of what a packet may have, with the length of its encoding
abbrev pub GivesCode : Result ℕ FieldError → List ℕ → Result (List Shown) FieldFault → Type 0
GivesCode (Ok encoded) code given = (given ≡ Ok (shown_in code)) × IsEncoded code encoded
GivesCode (Err OutOfMemory) code given = Unit {0}
GivesCode (Err (Fault fault)) code given = given ≡ Err fault
