-- Nodes as bytes, with the length of their encoding.
use Rattle.std.proofs.Common.{◌≡◌, [], sym, ap, subst, arith}
use Rattle.std.specs.List.{AllByRecursion}
use Rattle.field_tree.specs.Nodes.{Shown, IsFit}
use Rattle.field_tree.specs.Judged.{nodes_len}
use Rattle.field_tree.specs.Written.{shown_in}
use Rattle.field_tree.specs.Encoded.{IsEncoded}
use Rattle.field_tree.proofs.WrittenLemmas.{none_written}

pub nothing_shown : shown_in [] ≡ []
nothing_shown = none_written.1

pub nothing_encoded : IsEncoded [] 0
nothing_encoded = record {
  nodes = record { are = none_written.0; fit = subst (AllByRecursion (λ (n : Shown). IsFit n.0)) (sym nothing_shown) tt };
  encoded_is = sym (ap nodes_len nothing_shown);
  most = omega arith;
}
