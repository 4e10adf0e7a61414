-- What is found of nodes with one more behind them.
use Rattle.std.proofs.Common.{◌≡◌, ℕ, zero, suc, ◌+◌, ◌-◌, ◌^◌, ◌≤◌, min, max, Option, Some, None, List, [], ◌∷◌, ◌++◌, ap, refl, sym, arith, ◌∙◌, if◌then◌else◌}
use Rattle.std.proofs.lemmas.Bool.{cond_both}
use Rattle.std.proofs.lemmas.List.{map-append}
use Rattle.std.proofs.lemmas.List.Sums.{sum_by-append, sum_by-cons}
use Rattle.std.specs.Option.{option_or}
use Rattle.trace_base.specs.Reserved.{is_reserved}
use Rattle.field_tree.specs.declared.node.FieldNode.{FieldNode}
use Rattle.field_tree.specs.declared.node.FieldNode.TheVariants.{Number, Bytes, Begin, End}
use Rattle.field_tree.specs.Nodes.{Shown}
use Rattle.field_tree.specs.Refusals.{reserved_or}
use Rattle.field_tree.specs.Judged.{deepest, kinds_of, level, node_len, nodes_len, reserved_at, reserved_from}
use Rattle.field_tree.specs.Surveys.{IsCounted, IsSurvey, level_behind}
use Rattle.field_tree.specs.declared.survey.Survey.{Survey}

kinds_more : (nodes : List Shown) (node : Shown) → kinds_of (nodes ++ node ∷ []) ≡ kinds_of nodes ++ node.0 ∷ []
kinds_more nodes node = map-append (λ (n : Shown). n.0) nodes (node ∷ [])

pub level_more : (now : ℕ) (nodes : List Shown) (node : Shown) → level_behind now (nodes ++ node ∷ []) ≡ level (level_behind now nodes) node.0
level_more now [] node = refl
level_more now (first ∷ nodes) node = level_more (level now first.0) nodes node

or_later : (field : ℕ) (a b : Option ℕ) → reserved_or field (option_or a b) ≡ option_or (reserved_or field a) b
or_later field a b =
    cond_both (is_reserved field) (Some field) a (λ (o : Option ℕ). (if is_reserved field then Some field else option_or a b) ≡ option_or o b) (λ is. rw is refl) (λ is. rw is refl)

or_none : (a : Option ℕ) → option_or a None ≡ a
or_none None = refl
or_none (Some n) = refl

at_later : (now : ℕ) (kind : FieldNode) (a b : Option ℕ) → reserved_at now kind (option_or a b) ≡ option_or (reserved_at now kind a) b
unfolding reserved_at
at_later zero (Number f v) a b = or_later f a b
at_later zero (Bytes f k) a b = or_later f a b
at_later zero (Begin f) a b = or_later f a b
at_later zero End a b = refl
at_later (suc now) kind a b = refl

reserved_behind : (now : ℕ) (nodes : List Shown) (node : Shown)
    → reserved_from now (kinds_of nodes ++ node.0 ∷ []) ≡ option_or (reserved_from now (kinds_of nodes)) (reserved_at (level_behind now nodes) node.0 None)
unfolding reserved_from
reserved_behind now [] node = refl
reserved_behind now (first ∷ nodes) node =
    ap (reserved_at now first.0) (reserved_behind (level now first.0) nodes node)
    ∙ at_later now first.0 (reserved_from (level now first.0) (kinds_of nodes)) _

deep_behind : (now most : ℕ) (nodes : List Shown) (node : Shown)
    → deepest now most (kinds_of nodes ++ node.0 ∷ []) ≡ max (deepest now most (kinds_of nodes)) (level (level_behind now nodes) node.0)
unfolding deepest
deep_behind now most [] node = refl
deep_behind now most (first ∷ nodes) node = deep_behind (level now first.0) (max most (level now first.0)) nodes node

reserved_more : (nodes : List Shown) (node : Shown)
    → reserved_from 0 (kinds_of (nodes ++ node ∷ [])) ≡ option_or (reserved_from 0 (kinds_of nodes)) (reserved_at (level_behind 0 nodes) node.0 None)
reserved_more nodes node = ap (reserved_from 0) (kinds_more nodes node) ∙ reserved_behind 0 nodes node

deep_more : (nodes : List Shown) (node : Shown)
    → deepest 0 0 (kinds_of (nodes ++ node ∷ [])) ≡ max (deepest 0 0 (kinds_of nodes)) (level (level_behind 0 nodes) node.0)
deep_more nodes node = ap (deepest 0 0) (kinds_more nodes node) ∙ deep_behind 0 0 nodes node

len_more : (nodes : List Shown) (node : Shown) → nodes_len (nodes ++ node ∷ []) ≡ nodes_len nodes + node_len node
len_more nodes node = omega (arith, sum_by-append node_len nodes (node ∷ []), sum_by-cons node_len node [])

-- ---- what is found with one node more

deep_least : (now most : ℕ) (nodes : List Shown) → now ≤ most → level_behind now nodes ≤ deepest now most (kinds_of nodes)
unfolding deepest
deep_least now most [] least = least
deep_least now most (first ∷ nodes) least = deep_least (level now first.0) (max most (level now first.0)) nodes (omega arith)

-- no more messages are open behind some nodes than ever were
pub deep_enough : (nodes : List Shown) → level_behind 0 nodes ≤ deepest 0 0 (kinds_of nodes)
deep_enough nodes = deep_least 0 0 nodes (omega arith)

counted_sum : (most a b c x y : ℕ) → a ≡ min x most → b ≡ min y most → c ≡ min (a + b) most → c ≡ min (x + y) most
counted_sum most a b c x y first second sum = omega (arith, first, second, sum)

pub survey_more : (nodes : List Shown) (node : Shown) (now len : ℕ) (found new : Survey) → level_behind 0 nodes ≡ now → IsSurvey found nodes
    → IsCounted len (node_len node)
    → new.reserved ≡ option_or found.reserved (reserved_at now node.0 None)
    → new.deepest ≡ max found.deepest (level now node.0)
    → new.len ≡ min (found.len + len) (2 ^ 64 - 1)
    → IsSurvey new (nodes ++ node ∷ [])
survey_more nodes node now len found new here before counted reserved deep sum = record {
  reserved =
      reserved
      ∙ ap (λ (o : Option ℕ). option_or o (reserved_at now node.0 None)) before.reserved
      ∙ ap (λ (n : ℕ). option_or (reserved_from 0 (kinds_of nodes)) (reserved_at n node.0 None)) (sym here)
      ∙ sym (reserved_more nodes node);
  deep =
      deep
      ∙ ap (λ (d : ℕ). max d (level now node.0)) before.deep
      ∙ ap (λ (n : ℕ). max (deepest 0 0 (kinds_of nodes)) (level n node.0)) (sym here)
      ∙ sym (deep_more nodes node);
  len =
      counted_sum (2 ^ 64 - 1) found.len len new.len (nodes_len nodes) (node_len node) before.len counted sum
      ∙ ap (λ (n : ℕ). min n (2 ^ 64 - 1)) (sym (len_more nodes node));
}
