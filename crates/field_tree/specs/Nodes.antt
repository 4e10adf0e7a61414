-- The nodes of a tree of fields, in the order in which a writer is given them.
use Rattle.std.specs.Prelude.{◌≤◌, ℕ, List, [], ◌∷◌, ◌++◌}
use Rattle.trace_base.specs.declared.limits.TheConstants.{MAX_FIELD, MAX_PACKET_LEN}
use Rattle.trace_model.specs.Encoding.{Fields, NoFields, NumberField, BytesField, NestedField}
use Rattle.field_tree.specs.declared.node.FieldNode.{FieldNode}
use Rattle.field_tree.specs.declared.node.FieldNode.TheVariants.{Number, Bytes, Begin, End}

-- a node, and the text of one repetition, which is empty for each other node
abbrev pub Shown : Type 0
Shown = FieldNode × List ℕ

-- the fields as a list of nodes, nested messages between their begin and their end
abbrev pub nodes_of : Fields → List Shown
nodes_of NoFields = []
nodes_of (NumberField field value others) = (Number field value, []) ∷ nodes_of others
nodes_of (BytesField field text times others) = (Bytes field times, text) ∷ nodes_of others
nodes_of (NestedField field inner others) = (Begin field, []) ∷ (nodes_of inner ++ (End, []) ∷ nodes_of others)

-- a field number of protobuf
abbrev pub IsField : ℕ → Type 0
IsField n = (1 ≤ n) × (n ≤ MAX_FIELD)

-- a node's field and how often its text stands are in their ranges
abbrev pub IsFit : FieldNode → Type 0
IsFit (Number field value) = IsField field
IsFit (Bytes field times) = IsField field × (1 ≤ times) × (times ≤ MAX_PACKET_LEN)
IsFit (Begin field) = IsField field
IsFit End = Unit {0}
