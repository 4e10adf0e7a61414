-- How nodes with their texts are written as bytes, one behind another, and how they are read again.
use Rattle.std.specs.Prelude.{◌≡◌, ℕ, zero, suc, ◌+◌, ◌*◌, ◌/◌, ◌%◌, ◌^◌, ◌<◌, nat_lt, List, [], ◌∷◌, ◌++◌, length, take, drop, ⊤, if◌then◌else◌}
use Rattle.std.specs.List.{AllByRecursion}
use Rattle.wire_varint.specs.Varint.{varint}
use Rattle.field_tree.specs.declared.node.FieldNode.{FieldNode}
use Rattle.field_tree.specs.declared.node.FieldNode.TheVariants.{Number, Bytes, Begin, End}
use Rattle.field_tree.specs.Nodes.{Shown, IsFit}

-- ---- writing

-- a node's field and its kind in one number
abbrev pub tag_of : FieldNode → ℕ
tag_of (Number field value) = 4 * field
tag_of (Bytes field times) = 4 * field + 1
tag_of (Begin field) = 4 * field + 2
tag_of End = 3

-- what stands behind that number
abbrev pub written_value : FieldNode → List ℕ → List ℕ
written_value (Number field value) text = varint value
written_value (Bytes field times) text = varint times ++ varint (length text) ++ text
written_value (Begin field) text = []
written_value End text = []

-- a node with its text
unfoldable pub written_node : Shown → List ℕ
written_node node = varint (tag_of node.0) ++ written_value node.0 node.1

-- nodes, one behind another
abbrev pub written_nodes : List Shown → List ℕ
written_nodes [] = []
written_nodes (node ∷ nodes) = written_node node ++ written_nodes nodes

-- only a text has bytes of its own
abbrev pub HasItsText : FieldNode → List ℕ → Type 0
HasItsText (Bytes field times) text = length text < 2 ^ 64
HasItsText node text = text ≡ []

-- the numbers are those of the code
abbrev pub HasItsNumbers : FieldNode → Type 0
HasItsNumbers (Number field value) = (field < 2 ^ 32) × (value < 2 ^ 64)
HasItsNumbers (Bytes field times) = (field < 2 ^ 32) × (times < 2 ^ 32)
HasItsNumbers (Begin field) = field < 2 ^ 32
HasItsNumbers End = ⊤

-- a node with its text that is read as it was written
pub record IsWritable (node : Shown) : Type 0 where
  pub numbers : HasItsNumbers node.0
  pub text : HasItsText node.0 node.1

-- ---- reading

-- the number in front of some bytes
abbrev pub number_in : List ℕ → ℕ
number_in [] = 0
number_in (byte ∷ bytes) = if nat_lt byte 128 then byte else byte % 128 + 128 * number_in bytes

-- what stands behind it
abbrev pub behind_number : List ℕ → List ℕ
behind_number [] = []
behind_number (byte ∷ bytes) = if nat_lt byte 128 then bytes else behind_number bytes

-- a node of this kind and field, from what stands behind both
abbrev pub node_in : ℕ → ℕ → List ℕ → Shown
node_in zero field bytes = (Number field (number_in bytes), [])
node_in (suc zero) field bytes =
    (Bytes field (number_in bytes), take (number_in (behind_number bytes)) (behind_number (behind_number bytes)))
node_in (suc (suc zero)) field bytes = (Begin field, [])
node_in kind field bytes = (End, [])

-- what stands behind such a node
abbrev pub behind_node : ℕ → List ℕ → List ℕ
behind_node zero bytes = behind_number bytes
behind_node (suc zero) bytes = drop (number_in (behind_number bytes)) (behind_number (behind_number bytes))
behind_node kind bytes = bytes

-- at most so many nodes
unfoldable pub shown_from : ℕ → List ℕ → List Shown
shown_from zero bytes = []
shown_from (suc most) [] = []
shown_from (suc most) (byte ∷ bytes) =
    node_in (number_in (byte ∷ bytes) % 4) (number_in (byte ∷ bytes) / 4) (behind_number (byte ∷ bytes))
    ∷ shown_from most (behind_node (number_in (byte ∷ bytes) % 4) (behind_number (byte ∷ bytes)))

-- the nodes that the bytes say
unfoldable pub shown_in : List ℕ → List Shown
shown_in bytes = shown_from (length bytes) bytes

-- the bytes are what is written for the nodes that they say
pub record AreWritten (bytes : List ℕ) : Type 0 where
  pub written : bytes ≡ written_nodes (shown_in bytes)
  pub writable : AllByRecursion IsWritable (shown_in bytes)

-- these nodes are within a packet's ranges too
pub record AreFitNodes (bytes : List ℕ) : Type 0 where
  pub are : AreWritten bytes
  pub fit : AllByRecursion (λ node. IsFit node.0) (shown_in bytes)

-- a reading of the node in front gives this node, and what stands behind it
pub record IsFirst (first : Shown) (rest : List ℕ) (node : FieldNode) (text behind : List ℕ) : Type 0 where
  pub node_is : node ≡ first.0
  pub text_is : text ≡ first.1
  pub behind_is : behind ≡ rest
