-- What an emitter takes of a line, by its kind.
use Rattle.std.proofs.Common.{◌≡◌, ℕ, List, [], ◌∷◌, refl, sym, subst, lit≤}
use Rattle.field_tree.specs.declared.node.FieldNode.TheVariants as node
use Rattle.field_tree.specs.Judged.{node_len, node_len_at}
use Rattle.field_tree.specs.Nodes.{Shown}
use Rattle.emitted_packets.specs.declared.emitter.Emitter.{Emitter}
use Rattle.scenario_text.specs.declared.scenario.LineKind.{LineKind}
use Rattle.scenario_text.specs.declared.scenario.LineKind.TheVariants as line
use Rattle.scenario_text.specs.Accepted.{node_call, named_calls}
use Rattle.scenario_text.specs.Lengths.{line_len}
use Rattle.scenario_check.specs.Progress.{MayTake, Takes}
use Rattle.scenario_check.proofs.CallLemmas.{takes_fewer, takes_none, begun_takes, flushed_takes}

-- a message begins
abbrev pub BeginsMessage : ℕ → Emitter → Emitter → Type 0
BeginsMessage field old new = Takes (node_call (node.Begin field, []) ∷ []) (node_len (node.Begin field, [])) 0 old new

-- the innermost one ends
abbrev pub EndsMessage : Emitter → Emitter → Type 0
EndsMessage old new = Takes (node_call (node.End, []) ∷ []) (node_len (node.End, [])) 0 old new

pub nest_may : (what : LineKind) (writer field : ℕ) (old : Emitter) → what ≡ line.Nest writer field → MayTake (named_calls what) (line_len what) old
    → MayTake (node_call (node.Begin field, []) ∷ []) (node_len (node.Begin field, [])) old
unfolding node_call node_len_at
nest_may what writer field old is may = subst (λ (w : LineKind). MayTake (named_calls w) (line_len w) old) is may

pub nest_takes : (what : LineKind) (writer field : ℕ) (old new : Emitter) → what ≡ line.Nest writer field → BeginsMessage field old new
    → Takes (named_calls what) (line_len what) 1 old new
unfolding node_call node_len_at
nest_takes what writer field old new is takes =
    let one : Takes (named_calls (line.Nest writer field)) (line_len (line.Nest writer field)) 1 old new = takes_fewer _ _ 0 1 old new (lit≤ tt) takes in
    subst (λ (w : LineKind). Takes (named_calls w) (line_len w) 1 old new) (sym is) one

pub unnest_may : (what : LineKind) (writer : ℕ) (old : Emitter) → what ≡ line.Unnest writer → MayTake (named_calls what) (line_len what) old
    → MayTake (node_call (node.End, []) ∷ []) (node_len (node.End, [])) old
unfolding node_call node_len_at
unnest_may what writer old is may = subst (λ (w : LineKind). MayTake (named_calls w) (line_len w) old) is may

pub unnest_takes : (what : LineKind) (writer : ℕ) (old new : Emitter) → what ≡ line.Unnest writer → EndsMessage old new
    → Takes (named_calls what) (line_len what) 1 old new
unfolding node_call node_len_at
unnest_takes what writer old new is takes =
    let one : Takes (named_calls (line.Unnest writer)) (line_len (line.Unnest writer)) 1 old new = takes_fewer _ _ 0 1 old new (lit≤ tt) takes in
    subst (λ (w : LineKind). Takes (named_calls w) (line_len w) 1 old new) (sym is) one

-- the lines of other kinds have nothing written
pub rest_takes : (what : LineKind) (old : Emitter) → ((writer : ℕ) (nodes : List Shown) → what ≡ line.Packet writer nodes → ⊥)
    → ((writer : ℕ) (nodes : List Shown) → what ≡ line.Add writer nodes → ⊥) → ((writer field : ℕ) → what ≡ line.Nest writer field → ⊥)
    → ((writer : ℕ) → what ≡ line.Unnest writer → ⊥) → ((writer : ℕ) → what ≡ line.End writer → ⊥) → Takes (named_calls what) (line_len what) 1 old old
rest_takes (line.Packet writer nodes) old packet add nest unnest end = absurd (packet writer nodes refl)
rest_takes (line.Begin writer) old packet add nest unnest end = takes_fewer _ _ 0 1 old old (lit≤ tt) (begun_takes old)
rest_takes (line.Add writer nodes) old packet add nest unnest end = absurd (add writer nodes refl)
rest_takes (line.Nest writer field) old packet add nest unnest end = absurd (nest writer field refl)
rest_takes (line.Unnest writer) old packet add nest unnest end = absurd (unnest writer refl)
rest_takes (line.End writer) old packet add nest unnest end = absurd (end writer refl)
rest_takes (line.Flush writer) old packet add nest unnest end = takes_fewer _ _ 0 1 old old (lit≤ tt) (flushed_takes old)
rest_takes (line.Collect producer) old packet add nest unnest end = takes_fewer _ _ 0 1 old old (lit≤ tt) (takes_none old)
rest_takes (line.Scrape producer) old packet add nest unnest end = takes_fewer _ _ 0 1 old old (lit≤ tt) (takes_none old)
rest_takes (line.Close producer) old packet add nest unnest end = takes_fewer _ _ 0 1 old old (lit≤ tt) (takes_none old)
rest_takes (line.Read buffer limit) old packet add nest unnest end = takes_fewer _ _ 0 1 old old (lit≤ tt) (takes_none old)
rest_takes line.Request old packet add nest unnest end = takes_fewer _ _ 0 1 old old (lit≤ tt) (takes_none old)
rest_takes (line.CloneBuffer buffer) old packet add nest unnest end = takes_fewer _ _ 0 1 old old (lit≤ tt) (takes_none old)
rest_takes (line.Raw writer chunk) old packet add nest unnest end = takes_fewer _ _ 0 1 old old (lit≤ tt) (takes_none old)
