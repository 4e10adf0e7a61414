-- What is found by going once over a list of nodes. The laws say that it is what the tree of the nodes says of itself.
use Rattle.std.specs.Prelude.{◌≡◌, ℕ, zero, suc, ◌+◌, ◌-◌, ◌*◌, ◌≤◌, max, sum_by, map, List, [], ◌∷◌, length, Option, Some, None, Result, Ok, Err}
use Rattle.trace_base.specs.declared.limits.TheConstants.{MAX_PACKET_LEN}
use Rattle.trace_model.specs.Encoding.{number_field, bytes_head, nested_tag}
use Rattle.field_tree.specs.declared.node.FieldNode.{FieldNode}
use Rattle.field_tree.specs.declared.node.FieldNode.TheVariants.{Number, Bytes, Begin, End}
use Rattle.field_tree.specs.declared.fault.FieldFault.{FieldFault}
use Rattle.field_tree.specs.Nodes.{Shown}
use Rattle.field_tree.specs.Refusals.{reserved_or, refusal_by}

-- ---- lengths

-- how many bytes a node takes in the encoding, by the length of its text
unfoldable pub node_len_at : FieldNode → ℕ → ℕ
node_len_at (Number field value) len = length (number_field field value)
node_len_at (Bytes field times) len = length (bytes_head field (times * len)) + times * len
node_len_at (Begin field) len = length (nested_tag field) + 4
node_len_at End len = 0

-- how many bytes of encoding a node adds
abbrev pub node_len : Shown → ℕ
node_len n = node_len_at n.0 (length n.1)

-- how many bytes of encoding the nodes have
abbrev pub nodes_len : List Shown → ℕ
nodes_len nodes = sum_by node_len nodes

-- ---- nested messages

-- the nodes without their texts
abbrev pub kinds_of : List Shown → List FieldNode
kinds_of nodes = map (λ n. n.0) nodes

-- how many messages are open behind a node
unfoldable pub level : ℕ → FieldNode → ℕ
level open_before (Begin field) = suc open_before
level open_before End = open_before - 1
level open_before node = open_before

-- the most that were open at once, where so many are and there were so many before
unfoldable pub deepest : ℕ → ℕ → List FieldNode → ℕ
deepest now most [] = most
deepest now most (node ∷ nodes) = deepest (level now node) (max most (level now node)) nodes

-- a node's field where it is the service's own, or else what comes later
abbrev pub node_reserved_or : FieldNode → Option ℕ → Option ℕ
node_reserved_or (Number field value) later = reserved_or field later
node_reserved_or (Bytes field times) later = reserved_or field later
node_reserved_or (Begin field) later = reserved_or field later
node_reserved_or End later = later

-- only where no message is open
unfoldable pub reserved_at : ℕ → FieldNode → Option ℕ → Option ℕ
reserved_at zero node later = node_reserved_or node later
reserved_at (suc now) node later = later

-- the first reserved field at the top level, behind so many open messages
unfoldable pub reserved_from : ℕ → List FieldNode → Option ℕ
reserved_from now [] = None
reserved_from now (node ∷ nodes) = reserved_at now node (reserved_from (level now node) nodes)

-- what was answered is the length of the nodes, or why they aren't taken
abbrev pub Judges : ℕ → Result ℕ FieldFault → Option FieldFault → Type 0
Judges len (Ok n) given = (given ≡ None) × (n ≡ len) × (n ≤ MAX_PACKET_LEN)
Judges len (Err fault) given = given ≡ Some fault

-- ---- the first reason for which the nodes aren't taken inside so many messages

unfoldable pub nodes_refusal : ℕ → List Shown → Option FieldFault
nodes_refusal depth nodes =
    refusal_by depth (reserved_from 0 (kinds_of nodes)) (deepest 0 0 (kinds_of nodes)) (nodes_len nodes)
