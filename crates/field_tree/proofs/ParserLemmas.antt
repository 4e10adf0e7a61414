-- What the parser keeps, and which node and which action may come where it stands.
use Rattle.std.proofs.Common.{◌≡◌, ℕ, ◌^◌, ◌<◌, ◌≤◌, Bool, List, [], ◌∷◌, ◌++◌, length, ap, subst, sym, ◌∙◌}
use Rattle.field_tree.specs.declared.node.FieldNode.{FieldNode}
use Rattle.field_tree.specs.declared.node.FieldNode.TheVariants.{Number, Bytes, Begin, End}
use Rattle.field_tree.specs.declared.mode.Mode.{Mode}
use Rattle.field_tree.specs.declared.mode.Mode.TheVariants.{Start, Field, Value, Zero, Digits, Text, Quoted, Star, Times, Tick, Pairs, Half, Packed, After}
use Rattle.field_tree.specs.declared.mode.Action.{Action}
use Rattle.field_tree.specs.declared.mode.Action.TheVariants.{Refuse, Go, Keep, Open, Close}
use Rattle.field_tree.specs.declared.survey.Survey.{Survey}
use Rattle.field_tree.specs.Nodes.{Shown}
use Rattle.field_tree.specs.Judged.{level}
use Rattle.field_tree.specs.Surveys.{IsSurvey, level_behind}
use Rattle.field_tree.specs.Views.{KeepsNodes}
use Rattle.field_tree.specs.Machine.{act, IsValid, IsBetween, MayHave, HalfFits}
use Rattle.field_tree.specs.Written.{written_node, shown_in, HasItsNumbers, IsWritable, AreWritten}
use Rattle.field_tree.proofs.Steps.{Back, act_back}
use Rattle.field_tree.proofs.SurveyLemmas.{deep_enough, level_more}
use Rattle.field_tree.proofs.WrittenLemmas.{node_added, none_written}

-- ---- the action at a byte

between : (m : Mode) (t : List ℕ) (inner : Bool) (b : ℕ) (action : Action) → Back m t inner b action → IsBetween action t
between m t inner b Refuse back = tt
between m t inner b (Go to) back = tt
between m t inner b (Keep to byte) back = tt
between m t inner b (Open n) back = back.empty
between m t inner b Close back = back.empty

pub acts_between : (m : Mode) (t : List ℕ) (inner : Bool) (b : ℕ) → IsValid m t → IsBetween (act m inner b) t
acts_between m t inner b valid = between m t inner b (act m inner b) (act_back m t inner b valid)

pub half_fits : (m : Mode) (t : List ℕ) → IsValid m t → HalfFits m
half_fits (Start opened) t valid = tt
half_fits (Field n) t valid = tt
half_fits (Value n) t valid = tt
half_fits (Zero n) t valid = tt
half_fits (Digits n v) t valid = tt
half_fits (Text n) t valid = tt
half_fits (Quoted n) t valid = tt
half_fits (Star n) t valid = tt
half_fits (Times n k) t valid = tt
half_fits (Tick n) t valid = tt
half_fits (Pairs n) t valid = tt
half_fits (Half n high) t valid = valid.2
half_fits (Packed n) t valid = tt
half_fits After t valid = tt

-- ---- one node more

pub node_writable : (node : FieldNode) (t : List ℕ) → HasItsNumbers node → MayHave node t → length t < 2 ^ 64 → IsWritable (node, t)
node_writable (Number f v) t numbers empty few = record { numbers = numbers; text = empty }
node_writable (Bytes f k) t numbers any few = record { numbers = numbers; text = few }
node_writable (Begin f) t numbers empty few = record { numbers = numbers; text = empty }
node_writable End t numbers empty few = record { numbers = numbers; text = empty }

pub node_kept : (code t : List ℕ) (node : FieldNode) → AreWritten code → HasItsNumbers node → MayHave node t → length t < 2 ^ 64
    → AreWritten (code ++ written_node (node, t))
node_kept code t node kept numbers may few = (node_added code (node, t) kept (node_writable node t numbers may few)).0

pub node_shown : (code t : List ℕ) (node : FieldNode) → AreWritten code → HasItsNumbers node → MayHave node t → length t < 2 ^ 64
    → shown_in (code ++ written_node (node, t)) ≡ shown_in code ++ (node, t) ∷ []
node_shown code t node kept numbers may few = (node_added code (node, t) kept (node_writable node t numbers may few)).1

pub nothing_kept : (found : Survey) → IsSurvey found [] → KeepsNodes [] 0 found
nothing_kept found none = record {
  written = none_written.0;
  open_messages = ap (level_behind 0) none_written.1;
  surveyed = subst (IsSurvey found) (sym none_written.1) none;
}

pub more_kept : (code t : List ℕ) (node : FieldNode) (depth : ℕ) (found new : Survey) → KeepsNodes code depth found
    → HasItsNumbers node → MayHave node t → length t < 2 ^ 64
    → ((nodes : List Shown) → level_behind 0 nodes ≡ depth → IsSurvey found nodes → IsSurvey new (nodes ++ (node, t) ∷ []))
    → KeepsNodes (code ++ written_node (node, t)) (level depth node) new
more_kept code t node depth found new kept numbers may few surveyed =
    let shown = node_shown code t node kept.written numbers may few in
    record {
      written = node_kept code t node kept.written numbers may few;
      open_messages = ap (level_behind 0) shown ∙ level_more 0 (shown_in code) (node, t) ∙ ap (λ (n : ℕ). level n node) kept.open_messages;
      surveyed = subst (IsSurvey new) (sym shown) (surveyed (shown_in code) kept.open_messages kept.surveyed);
    }

pub depth_surveyed : (code : List ℕ) (depth : ℕ) (found : Survey) → KeepsNodes code depth found → depth ≤ found.deepest
depth_surveyed code depth found kept = rw (sym kept.open_messages, kept.surveyed.deep) (deep_enough (shown_in code))
