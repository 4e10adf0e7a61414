-- Which trees of fields can be written.
use Rattle.std.specs.Prelude.{◌≡◌, ◌≤◌, List, ⊤}
use Rattle.trace_base.specs.declared.limits.TheConstants.{MAX_NESTING, MAX_PACKET_LEN}
use Rattle.trace_model.specs.Encoding.{Fields, NoFields, NumberField, BytesField, NestedField, depth_of}
use Rattle.field_tree.specs.Nodes.{IsField}
use Rattle.field_tree.specs.Nodes.{Shown, nodes_of}
use Rattle.field_tree.specs.Judged.{nodes_len}

-- each field has a field number of protobuf
abbrev pub HasFieldNumbers : Fields → Type 0
HasFieldNumbers NoFields = ⊤
HasFieldNumbers (NumberField field value others) = IsField field × HasFieldNumbers others
HasFieldNumbers (BytesField field text times others) = IsField field × HasFieldNumbers others
HasFieldNumbers (NestedField field inner others) = IsField field × HasFieldNumbers inner × HasFieldNumbers others

-- the nodes are those of a tree of fields that is within the limits of a packet
pub record IsTree (nodes : List Shown) : Type 0 where
  pub tree : Fields
  pub nodes_are : nodes ≡ nodes_of tree
  pub numbers : HasFieldNumbers tree
  pub nesting : depth_of tree ≤ MAX_NESTING
  pub most : nodes_len nodes ≤ MAX_PACKET_LEN
