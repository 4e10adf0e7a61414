-- What is found by going over the nodes of a tree is what the tree says, and no other tree has these nodes.
use Rattle.std.proofs.Common.{◌≡◌, ◌≢◌, ℕ, suc, ◌+◌, ◌-◌, ◌*◌, ◌≤◌, max, map, List, [], ◌∷◌, ◌++◌, length, Option, None, refl, sym, ap, arith, ◌∙◌, append_assoc}
use Rattle.std.proofs.lemmas.List.{append-nil, map-append}
use Rattle.std.proofs.lemmas.List.Sums.{sum_by-append, sum_by-cons}
use Rattle.trace_model.specs.Encoding.{Fields, NoFields, NumberField, BytesField, NestedField, encoding_of, encoding_len, depth_of, number_field, bytes_head}
use Rattle.trace_model.proofs.EncodingLemmas.{encoding_as_long}
use Rattle.field_tree.specs.declared.node.FieldNode.{FieldNode}
use Rattle.field_tree.specs.declared.node.FieldNode.TheVariants.{Number, Bytes, Begin, End}
use Rattle.field_tree.specs.Nodes.{Shown, nodes_of}
use Rattle.field_tree.specs.Refusals.{reserved_or, first_reserved, refusal_by, refusal_of}
use Rattle.field_tree.specs.Judged.{node_len_at, node_len, nodes_len, level, deepest, reserved_at, reserved_from, nodes_refusal}

-- ---- lengths

pub nodes_len_tree : (fields : Fields) → nodes_len (nodes_of fields) ≡ encoding_len fields
unfolding node_len_at
nodes_len_tree NoFields = refl
nodes_len_tree (NumberField f v others) =
    sum_by-cons node_len (Number f v, []) (nodes_of others) ∙ ap (λ (n : ℕ). length (number_field f v) + n) (nodes_len_tree others)
nodes_len_tree (BytesField f t k others) =
    sum_by-cons node_len (Bytes f k, t) (nodes_of others) ∙ ap (λ (n : ℕ). length (bytes_head f (k * length t)) + k * length t + n) (nodes_len_tree others)
nodes_len_tree (NestedField f inner others) =
    let both = sum_by-append node_len (nodes_of inner) ((End, []) ∷ nodes_of others) in
    let begin = sum_by-cons node_len (Begin f, []) (nodes_of inner ++ (End, []) ∷ nodes_of others) in
    let end = sum_by-cons node_len (End, []) (nodes_of others) in
    let first = nodes_len_tree inner in
    let later = nodes_len_tree others in
    omega arith

pub nodes_as_long : (fields : Fields) → nodes_len (nodes_of fields) ≡ length (encoding_of fields)
nodes_as_long fields = nodes_len_tree fields ∙ sym (encoding_as_long fields)

-- ---- nested messages

abbrev kinds : Fields → List FieldNode
kinds fields = map (λ n. n.0) (nodes_of fields)

kinds_nested : (f : ℕ) (inner others : Fields) (rest : List FieldNode)
    → kinds (NestedField f inner others) ++ rest ≡ Begin f ∷ (kinds inner ++ End ∷ (kinds others ++ rest))
kinds_nested f inner others rest =
    ap (λ (ns : List FieldNode). Begin f ∷ (ns ++ rest)) (map-append (λ n. n.0) (nodes_of inner) ((End, []) ∷ nodes_of others))
    ∙ ap (λ (ns : List FieldNode). Begin f ∷ ns) (append_assoc (kinds inner) (End ∷ kinds others) rest)

deepest_tree : (fields : Fields) (now most : ℕ) (rest : List FieldNode) → now ≤ most
    → deepest now most (kinds fields ++ rest) ≡ deepest now (max most (now + depth_of fields)) rest
unfolding deepest level
deepest_tree NoFields now most rest within =
    let same : most ≡ max most (now + 0) = omega arith in
    ap (λ (m : ℕ). deepest now m rest) same
deepest_tree (NumberField f v others) now most rest within =
    let same : max most now ≡ most = omega arith in
    ap (λ (m : ℕ). deepest now m (kinds others ++ rest)) same ∙ deepest_tree others now most rest within
deepest_tree (BytesField f t k others) now most rest within =
    let same : max most now ≡ most = omega arith in
    ap (λ (m : ℕ). deepest now m (kinds others ++ rest)) same ∙ deepest_tree others now most rest within
deepest_tree (NestedField f inner others) now most rest within =
    let M : ℕ = max (max most (suc now)) (suc now + depth_of inner) in
    let back : suc now - 1 ≡ now = omega arith in
    let top : max M (suc now - 1) ≡ M = omega arith in
    let whole : max M (now + depth_of others) ≡ max most (now + max (suc (depth_of inner)) (depth_of others)) = omega arith in
    ap (deepest now most) (kinds_nested f inner others rest)
    ∙ deepest_tree inner (suc now) (max most (suc now)) (End ∷ (kinds others ++ rest)) (omega arith)
    ∙ ap (λ (m : ℕ). deepest (suc now - 1) m (kinds others ++ rest)) top
    ∙ ap (λ (d : ℕ). deepest d M (kinds others ++ rest)) back
    ∙ deepest_tree others now M rest (omega arith)
    ∙ ap (λ (m : ℕ). deepest now m rest) whole

pub deepest_of : (fields : Fields) → deepest 0 0 (kinds fields) ≡ depth_of fields
unfolding deepest
deepest_of fields =
    let same : max 0 (0 + depth_of fields) ≡ depth_of fields = omega arith in
    ap (deepest 0 0) (sym (append-nil (kinds fields))) ∙ deepest_tree fields 0 0 [] (omega arith) ∙ same

-- ---- reserved fields

inside_tree : (fields : Fields) (now : ℕ) (rest : List FieldNode) → reserved_from (suc now) (kinds fields ++ rest) ≡ reserved_from (suc now) rest
unfolding reserved_from reserved_at level
inside_tree NoFields now rest = refl
inside_tree (NumberField f v others) now rest = inside_tree others now rest
inside_tree (BytesField f t k others) now rest = inside_tree others now rest
inside_tree (NestedField f inner others) now rest =
    let back : suc (suc now) - 1 ≡ suc now = omega arith in
    ap (reserved_from (suc now)) (kinds_nested f inner others rest)
    ∙ inside_tree inner (suc now) (End ∷ (kinds others ++ rest))
    ∙ ap (λ (d : ℕ). reserved_from d (kinds others ++ rest)) back
    ∙ inside_tree others now rest

-- the first one of these fields, or else what comes later
abbrev reserved_then : Fields → Option ℕ → Option ℕ
reserved_then NoFields later = later
reserved_then (NumberField f v others) later = reserved_or f (reserved_then others later)
reserved_then (BytesField f t k others) later = reserved_or f (reserved_then others later)
reserved_then (NestedField f inner others) later = reserved_or f (reserved_then others later)

top_tree : (fields : Fields) (rest : List FieldNode) → reserved_from 0 (kinds fields ++ rest) ≡ reserved_then fields (reserved_from 0 rest)
unfolding reserved_from reserved_at level
top_tree NoFields rest = refl
top_tree (NumberField f v others) rest = ap (reserved_or f) (top_tree others rest)
top_tree (BytesField f t k others) rest = ap (reserved_or f) (top_tree others rest)
top_tree (NestedField f inner others) rest =
    let back : suc 0 - 1 ≡ 0 = omega arith in
    ap (reserved_from 0) (kinds_nested f inner others rest)
    ∙ ap (reserved_or f) (inside_tree inner 0 (End ∷ (kinds others ++ rest))
    ∙ ap (λ (d : ℕ). reserved_from d (kinds others ++ rest)) back
    ∙ top_tree others rest)

then_none : (fields : Fields) → reserved_then fields None ≡ first_reserved fields
then_none NoFields = refl
then_none (NumberField f v others) = ap (reserved_or f) (then_none others)
then_none (BytesField f t k others) = ap (reserved_or f) (then_none others)
then_none (NestedField f inner others) = ap (reserved_or f) (then_none others)

pub reserved_of : (fields : Fields) → reserved_from 0 (kinds fields) ≡ first_reserved fields
unfolding reserved_from
reserved_of fields = ap (reserved_from 0) (sym (append-nil (kinds fields))) ∙ top_tree fields [] ∙ then_none fields

pub refusal_tree : (depth : ℕ) (fields : Fields) → nodes_refusal depth (nodes_of fields) ≡ refusal_of depth fields
unfolding nodes_refusal refusal_of
refusal_tree depth fields =
    ap (λ (o : Option ℕ). refusal_by depth o (deepest 0 0 (kinds fields)) (nodes_len (nodes_of fields))) (reserved_of fields)
    ∙ ap (λ (d : ℕ). refusal_by depth (first_reserved fields) d (nodes_len (nodes_of fields))) (deepest_of fields)
    ∙ ap (λ (n : ℕ). refusal_by depth (first_reserved fields) (depth_of fields) n) (nodes_len_tree fields)

-- ---- one tree

-- nothing follows, or the end of a message
data Ended (nodes : List Shown) : Type 0 where
  Nothing : nodes ≡ [] → Ended nodes
  EndFirst : (rest : List Shown) → nodes ≡ (End, []) ∷ rest → Ended nodes

no_field : (node : Shown) (nodes rest : List Shown) → Ended nodes → nodes ≡ node ∷ rest → node.0 ≢ End → ⊥
no_field node nodes rest (Nothing is) other field = absurd (cc)
no_field node nodes rest (EndFirst more is) other field =
    let same : node ≡ (End, []) = cc in
    absurd (field (ap (λ (n : Shown). n.0) same))

heads : (a b : Shown) (x y : List Shown) → a ∷ x ≡ b ∷ y → (a.0 ≡ b.0) × (a.1 ≡ b.1) × (x ≡ y)
heads a b x y is =
    let first : a ≡ b = cc in
    (ap (λ (n : Shown). n.0) first, ap (λ (n : Shown). n.1) first, cc)

nested_nodes : (f : ℕ) (inner others : Fields) (x : List Shown)
    → nodes_of (NestedField f inner others) ++ x ≡ (Begin f, []) ∷ (nodes_of inner ++ (End, []) ∷ (nodes_of others ++ x))
nested_nodes f inner others x = ap (λ (ns : List Shown). (Begin f, []) ∷ ns) (append_assoc (nodes_of inner) ((End, []) ∷ nodes_of others) x)

same_nodes : (a b : Fields) (x y : List Shown) → Ended x → Ended y → nodes_of a ++ x ≡ nodes_of b ++ y → (a ≡ b) × (x ≡ y)
same_nodes NoFields NoFields x y first second is = (refl, is)
same_nodes NoFields (NumberField f v others) x y first second is = absurd (no_field (Number f v, []) x (nodes_of others ++ y) first is (λ e. cc))
same_nodes NoFields (BytesField f t k others) x y first second is = absurd (no_field (Bytes f k, t) x (nodes_of others ++ y) first is (λ e. cc))
same_nodes NoFields (NestedField f inner others) x y first second is = absurd (no_field (Begin f, []) x _ first is (λ e. cc))
same_nodes (NumberField f v others) NoFields x y first second is = absurd (no_field (Number f v, []) y (nodes_of others ++ x) second (sym is) (λ e. cc))
same_nodes (BytesField f t k others) NoFields x y first second is = absurd (no_field (Bytes f k, t) y (nodes_of others ++ x) second (sym is) (λ e. cc))
same_nodes (NestedField f inner others) NoFields x y first second is = absurd (no_field (Begin f, []) y _ second (sym is) (λ e. cc))
same_nodes (NumberField f v others) (NumberField g w more) x y first second is =
    let h = heads _ _ _ _ is in
    let later = same_nodes others more x y first second h.2 in
    let field : f ≡ g = cc in
    let value : v ≡ w = cc in
    let tail : others ≡ more = later.0 in
    (cc, later.1)
same_nodes (BytesField f t k others) (BytesField g u m more) x y first second is =
    let h = heads _ _ _ _ is in
    let later = same_nodes others more x y first second h.2 in
    let field : f ≡ g = cc in
    let times : k ≡ m = cc in
    let text : t ≡ u = h.1 in
    let tail : others ≡ more = later.0 in
    (cc, later.1)
same_nodes (NestedField f inner others) (NestedField g within more) x y first second is =
    let h = heads (Begin f, []) (Begin g, []) _ _ (sym (nested_nodes f inner others x) ∙ is ∙ nested_nodes g within more y) in
    let inside = same_nodes inner within ((End, []) ∷ (nodes_of others ++ x)) ((End, []) ∷ (nodes_of more ++ y)) (EndFirst _ refl) (EndFirst _ refl) h.2 in
    let behind = heads (End, []) (End, []) (nodes_of others ++ x) (nodes_of more ++ y) inside.1 in
    let later = same_nodes others more x y first second behind.2 in
    let field : f ≡ g = cc in
    let middle : inner ≡ within = inside.0 in
    let tail : others ≡ more = later.0 in
    (cc, later.1)
same_nodes (NumberField f v others) (BytesField g u m more) x y first second is = let h = heads _ _ _ _ is in let e : Number f v ≡ Bytes g m = h.0 in absurd (cc)
same_nodes (NumberField f v others) (NestedField g within more) x y first second is = let h = heads _ _ _ _ is in let e : Number f v ≡ Begin g = h.0 in absurd (cc)
same_nodes (BytesField f t k others) (NumberField g w more) x y first second is = let h = heads _ _ _ _ is in let e : Bytes f k ≡ Number g w = h.0 in absurd (cc)
same_nodes (BytesField f t k others) (NestedField g within more) x y first second is = let h = heads _ _ _ _ is in let e : Bytes f k ≡ Begin g = h.0 in absurd (cc)
same_nodes (NestedField f inner others) (NumberField g w more) x y first second is = let h = heads _ _ _ _ is in let e : Begin f ≡ Number g w = h.0 in absurd (cc)
same_nodes (NestedField f inner others) (BytesField g u m more) x y first second is = let h = heads _ _ _ _ is in let e : Begin f ≡ Bytes g m = h.0 in absurd (cc)

pub one_tree_of_nodes : (a b : Fields) → nodes_of a ≡ nodes_of b → a ≡ b
one_tree_of_nodes a b is =
    let same = same_nodes a b [] [] (Nothing refl) (Nothing refl) (append-nil (nodes_of a) ∙ is ∙ sym (append-nil (nodes_of b))) in
    same.0
