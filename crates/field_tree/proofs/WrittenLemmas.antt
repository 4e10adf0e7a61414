-- What was written for nodes is read as these nodes.
use Rattle.std.proofs.Common.{◌≡◌, ℕ, zero, suc, ◌+◌, ◌*◌, ◌/◌, ◌%◌, ◌^◌, ◌<◌, ◌≤◌, List, [], ◌∷◌, ◌++◌, length, take, drop, refl, sym, ap, subst, arith, ◌∙◌, append_assoc, length-append}
use Rattle.std.specs.List.{AllByRecursion}
use Rattle.std.proofs.lemmas.Bool.{lt-ltb, le-ltb}
use Rattle.std.proofs.lemmas.List.{take_at, drop_at, append-nil}
use Rattle.wire_varint.specs.Reading.{joined, IsWhole}
use Rattle.wire_varint.specs.Varint.{varint}
use Rattle.wire_varint.proofs.Varints.{varint_is_varint}
use Rattle.field_tree.specs.declared.node.FieldNode.{FieldNode}
use Rattle.field_tree.specs.declared.node.FieldNode.TheVariants.{Number, Bytes, Begin, End}
use Rattle.field_tree.specs.Nodes.{Shown}
use Rattle.field_tree.specs.Written.{tag_of, written_value, written_node, written_nodes, HasItsNumbers, IsWritable, number_in, behind_number, node_in, behind_node, shown_from, shown_in, AreWritten}

-- ---- numbers

whole_in : (front rest : List ℕ) → IsWhole front → (number_in (front ++ rest) ≡ joined front) × (behind_number (front ++ rest) ≡ rest)
whole_in [] rest whole = absurd whole
whole_in (byte ∷ []) rest whole = rw (lt-ltb byte 128 whole) (omega (arith, whole), refl)
whole_in (byte ∷ next ∷ front) rest whole =
    let others = whole_in (next ∷ front) rest whole.1 in
    rw (le-ltb byte 128 whole.0) (ap (λ (n : ℕ). byte % 128 + 128 * n) others.0, others.1)

pub varint_in : (n : ℕ) (rest : List ℕ) → n < 2 ^ 64 → (number_in (varint n ++ rest) ≡ n) × (behind_number (varint n ++ rest) ≡ rest)
varint_in n rest fits =
    let is = varint_is_varint n fits in
    let read = whole_in (varint n) rest is.whole in
    (read.0 ∙ is.value, read.1)

varint_some : (n : ℕ) → n < 2 ^ 64 → 1 ≤ length (varint n)
varint_some n fits = some (varint n) (varint_is_varint n fits).whole
  where
    some : (bytes : List ℕ) → IsWhole bytes → 1 ≤ length bytes
    some [] whole = absurd whole
    some (byte ∷ bytes) whole = omega arith

-- ---- nodes

pub tag_fits : (node : FieldNode) → HasItsNumbers node → tag_of node < 2 ^ 34
tag_fits (Number field value) fits = omega (arith, fits.0)
tag_fits (Bytes field times) fits = omega (arith, fits.0)
tag_fits (Begin field) fits = omega (arith, fits)
tag_fits End fits = omega arith

node_as : (kind field : ℕ) (k f : ℕ) (bytes : List ℕ) → kind ≡ k → field ≡ f → node_in kind field bytes ≡ node_in k f bytes
node_as kind field k f bytes e g = ap (λ (n : ℕ). node_in n field bytes) e ∙ ap (λ (n : ℕ). node_in k n bytes) g

pub node_read : (node : Shown) (rest : List ℕ) → IsWritable node
    → (node_in (tag_of node.0 % 4) (tag_of node.0 / 4) (written_value node.0 node.1 ++ rest) ≡ node)
    × (behind_node (tag_of node.0 % 4) (written_value node.0 node.1 ++ rest) ≡ rest)
node_read (Number field value, text) rest is =
    let kind : 4 * field % 4 ≡ 0 = omega arith in
    let which : 4 * field / 4 ≡ field = omega arith in
    let read = varint_in value rest is.numbers.1 in
    let empty : text ≡ [] = is.text in (
      node_as _ _ 0 field (varint value ++ rest) kind which ∙ ap (λ (n : ℕ). (Number field n, [])) read.0 ∙ ap (λ (t : List ℕ). (Number field value, t)) (sym empty),
      ap (λ (n : ℕ). behind_node n (varint value ++ rest)) kind ∙ read.1,
    )
node_read (Bytes field times, text) rest is =
    let kind : (4 * field + 1) % 4 ≡ 1 = omega arith in
    let which : (4 * field + 1) / 4 ≡ field = omega arith in
    let cut : (varint times ++ varint (length text) ++ text) ++ rest ≡ varint times ++ (varint (length text) ++ (text ++ rest)) =
    append_assoc (varint times ++ varint (length text)) text rest ∙ append_assoc (varint times) (varint (length text)) (text ++ rest) in
    let first = varint_in times (varint (length text) ++ (text ++ rest)) (omega (arith, is.numbers.1)) in
    let second = varint_in (length text) (text ++ rest) is.text in
    let whole : List ℕ = (varint times ++ varint (length text) ++ text) ++ rest in
    let number : number_in whole ≡ times = ap number_in cut ∙ first.0 in
    let behind : behind_number whole ≡ varint (length text) ++ (text ++ rest) = ap behind_number cut ∙ first.1 in
    let size : number_in (behind_number whole) ≡ length text = ap number_in behind ∙ second.0 in
    let content : behind_number (behind_number whole) ≡ text ++ rest = ap behind_number behind ∙ second.1 in (
      node_as _ _ 1 field whole kind which
          ∙ ap (λ (n : ℕ). (Bytes field n, take (number_in (behind_number whole)) (behind_number (behind_number whole)))) number
          ∙ ap (λ (n : ℕ). (Bytes field times, take n (behind_number (behind_number whole)))) size
          ∙ ap (λ (w : List ℕ). (Bytes field times, take (length text) w)) content
          ∙ ap (λ (t : List ℕ). (Bytes field times, t)) (take_at text rest (length text) refl),
      ap (λ (n : ℕ). behind_node n whole) kind
          ∙ ap (λ (n : ℕ). drop n (behind_number (behind_number whole))) size
          ∙ ap (λ (w : List ℕ). drop (length text) w) content
          ∙ drop_at text rest (length text) refl,
    )
node_read (Begin field, text) rest is =
    let kind : (4 * field + 2) % 4 ≡ 2 = omega arith in
    let which : (4 * field + 2) / 4 ≡ field = omega arith in
    let empty : text ≡ [] = is.text in (
      node_as _ _ 2 field rest kind which ∙ ap (λ (t : List ℕ). (Begin field, t)) (sym empty),
      ap (λ (n : ℕ). behind_node n rest) kind,
    )
node_read (End, text) rest is = (ap (λ (t : List ℕ). (End, t)) (sym is.text), refl)

pub node_cut : (node : Shown) (rest : List ℕ) → written_node node ++ rest ≡ varint (tag_of node.0) ++ (written_value node.0 node.1 ++ rest)
unfolding written_node
node_cut node rest = append_assoc (varint (tag_of node.0)) (written_value node.0 node.1) rest

-- ---- all of them

from_some : (most : ℕ) (bytes : List ℕ) → 1 ≤ length bytes
    → shown_from (suc most) bytes
    ≡ node_in (number_in bytes % 4) (number_in bytes / 4) (behind_number bytes) ∷ shown_from most (behind_node (number_in bytes % 4) (behind_number bytes))
unfolding shown_from
from_some most [] some = absurd (omega (arith, some))
from_some most (byte ∷ bytes) some = refl

from_none : (most : ℕ) → shown_from most [] ≡ []
unfolding shown_from
from_none zero = refl
from_none (suc most) = refl

from_more : (most : ℕ) (node : Shown) (nodes : List Shown) → IsWritable node → 1 ≤ most
    → ((less : ℕ) → less + 1 ≡ most → shown_from less (written_nodes nodes) ≡ nodes)
    → shown_from most (varint (tag_of node.0) ++ (written_value node.0 node.1 ++ written_nodes nodes)) ≡ node ∷ nodes
from_more zero node nodes one room again = absurd (omega (arith, room))
from_more (suc most) node nodes one room again =
    let small : tag_of node.0 < 2 ^ 64 = omega (arith, tag_fits node.0 one.numbers) in
    let value : List ℕ = written_value node.0 node.1 ++ written_nodes nodes in
    let bytes : List ℕ = varint (tag_of node.0) ++ value in
    let some : 1 ≤ length bytes = omega (arith, length-append (varint (tag_of node.0)) value, varint_some (tag_of node.0) small) in
    let tag = varint_in (tag_of node.0) value small in
    let read = node_read node (written_nodes nodes) one in
    let behind : behind_node (number_in bytes % 4) (behind_number bytes) ≡ written_nodes nodes =
    ap (λ (n : ℕ). behind_node (n % 4) (behind_number bytes)) tag.0 ∙ ap (λ (w : List ℕ). behind_node (tag_of node.0 % 4) w) tag.1 ∙ read.1 in
    let here : node_in (number_in bytes % 4) (number_in bytes / 4) (behind_number bytes) ≡ node =
    ap (λ (n : ℕ). node_in (n % 4) (n / 4) (behind_number bytes)) tag.0
    ∙ ap (λ (w : List ℕ). node_in (tag_of node.0 % 4) (tag_of node.0 / 4) w) tag.1 ∙ read.0 in
    from_some most bytes some
    ∙ ap (λ (first : Shown). first ∷ shown_from most (behind_node (number_in bytes % 4) (behind_number bytes))) here
    ∙ ap (λ (w : List ℕ). node ∷ shown_from most w) behind
    ∙ ap (λ (more : List Shown). node ∷ more) (again most (omega arith))

nodes_from : (most : ℕ) (nodes : List Shown) → AllByRecursion IsWritable nodes → length (written_nodes nodes) ≤ most
    → shown_from most (written_nodes nodes) ≡ nodes
nodes_from most [] all long = from_none most
nodes_from most (node ∷ nodes) all long =
    let value : List ℕ = written_value node.0 node.1 ++ written_nodes nodes in
    let cut : written_node node ++ written_nodes nodes ≡ varint (tag_of node.0) ++ value = node_cut node (written_nodes nodes) in
    let sum : length (written_node node ++ written_nodes nodes) ≡ length (varint (tag_of node.0)) + length value =
    ap length cut ∙ length-append (varint (tag_of node.0)) value in
    let parts : length value ≡ length (written_value node.0 node.1) + length (written_nodes nodes) = length-append (written_value node.0 node.1) (written_nodes nodes) in
    let some : 1 ≤ length (varint (tag_of node.0)) = varint_some (tag_of node.0) (omega (arith, tag_fits node.0 all.0.numbers)) in
    ap (shown_from most) cut
    ∙ from_more most node nodes all.0 (omega (arith, sum, some, long)) (λ less is. nodes_from less nodes all.1 (omega (arith, sum, parts, some, long, is)))

pub nodes_read_again : (nodes : List Shown) → AllByRecursion IsWritable nodes → shown_in (written_nodes nodes) ≡ nodes
unfolding shown_in
nodes_read_again nodes all = nodes_from (length (written_nodes nodes)) nodes all (omega arith)

pub are_written : (bytes : List ℕ) (nodes : List Shown) → AllByRecursion IsWritable nodes → bytes ≡ written_nodes nodes
    → AreWritten bytes × (shown_in bytes ≡ nodes)
are_written bytes nodes all is =
    let shown : shown_in bytes ≡ nodes = ap shown_in is ∙ nodes_read_again nodes all in (
      record {
        written = is ∙ ap written_nodes (sym shown);
        writable = subst (AllByRecursion IsWritable) (sym shown) all;
      },
      shown,
    )

-- ---- one node more at the end

written-push : (nodes : List Shown) (node : Shown) → written_nodes (nodes ++ node ∷ []) ≡ written_nodes nodes ++ written_node node
written-push [] node = append-nil (written_node node)
written-push (first ∷ nodes) node =
    ap (λ (w : List ℕ). written_node first ++ w) (written-push nodes node) ∙ sym (append_assoc (written_node first) (written_nodes nodes) (written_node node))

writable-push : (nodes : List Shown) (node : Shown) → AllByRecursion IsWritable nodes → IsWritable node → AllByRecursion IsWritable (nodes ++ node ∷ [])
writable-push [] node all one = (one, tt)
writable-push (first ∷ nodes) node all one = (all.0, writable-push nodes node all.1 one)

pub node_added : (bytes : List ℕ) (node : Shown) → AreWritten bytes → IsWritable node
    → AreWritten (bytes ++ written_node node) × (shown_in (bytes ++ written_node node) ≡ shown_in bytes ++ node ∷ [])
node_added bytes node are one =
    are_written (bytes ++ written_node node) (shown_in bytes ++ node ∷ []) (writable-push (shown_in bytes) node are.writable one)
    (ap (λ (w : List ℕ). w ++ written_node node) are.written ∙ sym (written-push (shown_in bytes) node))

pub none_written : AreWritten [] × (shown_in [] ≡ [])
none_written = are_written [] [] tt refl

-- each node takes a byte at least
written_long : (nodes : List Shown) → AllByRecursion IsWritable nodes → length nodes ≤ length (written_nodes nodes)
written_long [] all = omega arith
written_long (node ∷ nodes) all =
    let value : List ℕ = written_value node.0 node.1 ++ written_nodes nodes in
    let sum : length (written_node node ++ written_nodes nodes) ≡ length (varint (tag_of node.0)) + length value =
    ap length (node_cut node (written_nodes nodes)) ∙ length-append (varint (tag_of node.0)) value in
    let parts : length value ≡ length (written_value node.0 node.1) + length (written_nodes nodes) = length-append (written_value node.0 node.1) (written_nodes nodes) in
    let some : 1 ≤ length (varint (tag_of node.0)) = varint_some (tag_of node.0) (omega (arith, tag_fits node.0 all.0.numbers)) in
    omega (arith, sum, parts, some, written_long nodes all.1)
