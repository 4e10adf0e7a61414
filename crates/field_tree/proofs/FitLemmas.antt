-- The numbers of what is spelled are in their ranges, and so are those of its nodes.
use Rattle.std.proofs.Common.{ℕ, ◌≤◌, Bool, List, [], ◌∷◌, ◌++◌, arith}
use Rattle.std.specs.List.{AllByRecursion}
use Rattle.trace_base.specs.declared.limits.TheConstants.{MAX_PACKET_LEN}
use Rattle.trace_model.specs.Encoding.{Fields, NoFields, NumberField, BytesField, NestedField}
use Rattle.field_tree.specs.declared.node.FieldNode.TheVariants.{End}
use Rattle.field_tree.specs.Nodes.{Shown, nodes_of, IsFit}
use Rattle.field_tree.specs.Grammar.{BytesSpelling, Quoted, Repeated, InPairs, IsSpelling}

all_joined : (a b : List Shown) → AllByRecursion (λ n. IsFit n.0) a → AllByRecursion (λ n. IsFit n.0) b → AllByRecursion (λ n. IsFit n.0) (a ++ b)
all_joined [] b first second = second
all_joined (n ∷ a) b first second = (first.0, all_joined a b first.1 second)

times_fit : (text value : List ℕ) (times : ℕ) → BytesSpelling text times value → (1 ≤ times) × (times ≤ MAX_PACKET_LEN)
times_fit text value times (Quoted all once is) = (omega arith, omega arith)
times_fit text value times (Repeated all some fits is) = (some, fits)
times_fit text value times (InPairs all once is) = (omega arith, omega arith)

pub spelled_fit : (fields : Fields) (after : Bool) (text : List ℕ) → IsSpelling after fields text → AllByRecursion (λ n. IsFit n.0) (nodes_of fields)
spelled_fit NoFields after text spelled = tt
spelled_fit (NumberField f v others) after text spelled = (spelled.0, spelled_fit others _ spelled.2 spelled.4)
spelled_fit (BytesField f t k others) after text spelled =
    let times = times_fit t spelled.1 k spelled.2 in
    ((spelled.0, times.0, times.1), spelled_fit others _ spelled.3 spelled.5)
spelled_fit (NestedField f inner others) after text spelled =
    (spelled.0, all_joined (nodes_of inner) ((End, []) ∷ nodes_of others) (spelled_fit inner _ spelled.1 spelled.2) (tt, spelled_fit others _ spelled.3 spelled.5))
