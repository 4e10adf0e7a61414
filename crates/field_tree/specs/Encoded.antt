-- Nodes as bytes, with the length of their encoding.
use Rattle.std.specs.Prelude.{◌≡◌, ℕ, ◌≤◌, List}
use Rattle.trace_base.specs.declared.limits.TheConstants.{MAX_PACKET_LEN}
use Rattle.field_tree.specs.Judged.{nodes_len}
use Rattle.field_tree.specs.Written.{shown_in, AreFitNodes}

-- the bytes say nodes that are within a packet's ranges, and whose encoding has this length
pub record IsEncoded (code : List ℕ) (encoded : ℕ) : Type 0 where
  pub nodes : AreFitNodes code
  pub encoded_is : encoded ≡ nodes_len (shown_in code)
  pub most : encoded ≤ MAX_PACKET_LEN
