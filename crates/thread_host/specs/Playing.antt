-- A writer of threads while it plays its lines: what it was asked for, and what is still to come.
use Rattle.std.specs.Prelude.{◌≡◌, ℕ, zero, suc, ◌+◌, ◌*◌, ◌≤◌, Bool, true, false, List, ◌++◌, map}
use Rattle.atomic_table.specs.Seated.{TableId}
use Rattle.trace_base.specs.declared.policy.WriterPolicy.{WriterPolicy}
use Rattle.trace_base.specs.declared.policy.WriterPolicy.TheVariants.{Stalls}
use Rattle.trace_model.specs.Calls.{Call}
use Rattle.trace_model.specs.Packets.{packets_of, lost_count}
use Rattle.model_laws.specs.Losses.{Loses}
use Rattle.chunk_plain.specs.Owned.{won_chunks}
use Rattle.chunk_plain.specs.Views.{chunk_of}
use Rattle.chunk_words.specs.declared.host.HostTable.{HostTable}
use Rattle.chunk_words.specs.Sits.{setup_in}
use Rattle.world_model.specs.FirstBuffers.{payload_at}
use Rattle.trace_writer.specs.Core.{is_stalled, route_of}
use Rattle.service_core.specs.Agreement.{spec_at}
use Rattle.replay_model.specs.Does.{asks_for}
use Rattle.replay_host.specs.Asking.{IsReadyFor}
use Rattle.run_model.specs.Answered.{answered_out}
use Rattle.run_model.specs.Collected.{asks_help}
use Rattle.run_model.specs.Noted.{done_calls}
use Rattle.run_model.specs.Vain.{LosesInVain}
use Rattle.thread_writer.specs.declared.helper.Asks.{Asks}
use Rattle.thread_writer.specs.declared.writer.TraceWriter.{TraceWriter}
use Rattle.chunk_words.specs.Named.{identity_of}
use Rattle.thread_writer.specs.Writing.{core_of, view_in, Writes}

-- Whoever asks such a helper for a writer of this policy is never told that nothing came free. A writer that drops asks nobody.
abbrev pub NeverRefuses : {H : Type 0} → (H → ℕ → Bool → H → Type 0) → WriterPolicy → Type 0
NeverRefuses {H} helps policy = asks_help policy ≡ true → (helper : H) (producer : ℕ) (after : H) → helps helper producer false after → ⊥

-- What the writer at this place has noted, but for the flushes of its answers, is just what was asked of it, and it has begun just the chunks that its
-- claims won, in their order. Packets may be lost, each behind rounds of claims in vain, but none of one that stalls. It isn't stalled, it accepts what is to come, and it has a helper of its
-- table, which never refuses it.
pub record IsGoing {H : Type 0} (helps : H → ℕ → Bool → H → Type 0) (of_table : H → TableId → Type 0) (table : HostTable) (place : ℕ)
    (asked coming : List Call) (help : Asks H) (writer : TraceWriter) : Type 0 where
  pub writes : Writes table writer
  pub place_is : (core_of writer).seat.place ≡ place
  pub going : is_stalled (core_of writer) ≡ false
  pub done : done_calls (answered_out (view_in writer)) ≡ asked
  pub lose : Loses asked (view_in writer).calls
  pub in_turn : won_chunks (view_in writer).asked ≡ map chunk_of (view_in writer).begun
  pub vain : LosesInVain (setup_in table) place (view_in writer)
  pub whole : (spec_at (setup_in table).writers place).policy ≡ Stalls → lost_count (packets_of (view_in writer).calls) ≡ 0
  pub ready : IsReadyFor (payload_at (setup_in table) place) (view_in writer) coming
  pub of_this : of_table help.help (identity_of table)
  pub never : NeverRefuses helps (spec_at (setup_in table).writers place).policy

-- The writer is going, and these calls come next.
abbrev pub MayBeAsked : {H : Type 0} → (H → ℕ → Bool → H → Type 0) → (H → TableId → Type 0) → HostTable → List Call → Asks H → TraceWriter → Type 0
MayBeAsked helps of_table table calls help writer =
    (place : ℕ) × (asked coming : List Call) × IsGoing helps of_table table place asked (calls ++ coming) help writer

-- The writer was asked for these calls: where it was going, and they came next, it is going still, and what came behind them comes next.
abbrev pub WasAsked : {H : Type 0} → (H → ℕ → Bool → H → Type 0) → (H → TableId → Type 0) → HostTable → List Call
    → Asks H → TraceWriter → Asks H → TraceWriter → Type 0
WasAsked helps of_table table calls help writer left after =
    (place : ℕ) (asked coming : List Call) → IsGoing helps of_table table place asked (calls ++ coming) help writer
    → IsGoing helps of_table table place (asked ++ calls) coming left after

-- The writer goes on as it was going.
abbrev pub StaysGoing : {H : Type 0} → (H → ℕ → Bool → H → Type 0) → (H → TableId → Type 0) → HostTable → Asks H → TraceWriter → TraceWriter → Type 0
StaysGoing helps of_table table help writer after =
    (place : ℕ) (asked coming : List Call) → IsGoing helps of_table table place asked coming help writer
    → IsGoing helps of_table table place asked coming help after

-- ---- asks for chunks

-- The helper was asked so many times, once behind another, and is left so.
abbrev pub IsHelped : {H : Type 0} → (H → ℕ → Bool → H → Type 0) → (times : ℕ) → (old new : H) → Type 0
IsHelped helps zero old new = new ≡ old
IsHelped {H} helps (suc times) old new = (producer : ℕ) × (answer : Bool) × (mid : H) × helps old producer answer mid × IsHelped helps times mid new

-- what a writer does where it finds no free chunk
abbrev pub policy_in : TraceWriter → WriterPolicy
policy_in writer = (route_of (core_of writer)).spec.policy

-- how many of its packets it has lost
abbrev pub lost_in : TraceWriter → ℕ
lost_in writer = lost_count (packets_of (view_in writer).calls)

-- Between the first and the second the helper was asked as often, at least, as the writer's losses want: for each packet that it lost as often as its
-- policy lets it ask for one chunk.
pub record HelpsLosses {H : Type 0} (helps : H → ℕ → Bool → H → Type 0) (help : Asks H) (writer : TraceWriter) (left : Asks H) (after : TraceWriter) : Type 0 where
  pub policy_stays : policy_in after ≡ policy_in writer
  pub times : ℕ
  pub helped : IsHelped helps times help.help left.help
  pub enough : asks_for (policy_in writer) * lost_in after ≤ asks_for (policy_in writer) * lost_in writer + times
