-- A writer before its first line, and behind the flush that ends its job.
use Rattle.std.proofs.Common.{◌≡◌, ◌∙◌, ℕ, suc, Bool, true, false, not, List, [], ◌∷◌, ◌++◌, length, map, refl, sym, ap, subst, arith, append-nil}
use Rattle.std.proofs.lemmas.Bool.{and_from}
use Rattle.std.specs.Borrow.{Bor}
use Rattle.atomic_table.specs.Seated.{TableId}
use Rattle.trace_base.specs.declared.policy.WriterSpec.{WriterSpec}
use Rattle.trace_model.specs.Calls.{Flushed}
use Rattle.trace_model.specs.Packets.{packets_of, lost_count}
use Rattle.model_laws.specs.Losses.{Loses, written_calls}
use Rattle.model_laws.proofs.LossLemmas.{written_append}
use Rattle.chunk_plain.specs.Owned.{held_count, won_chunks}
use Rattle.chunk_plain.specs.Setup.{Setup, sequence_of}
use Rattle.chunk_plain.specs.Views.{At, Letters, Reply, WriterView, chunk_of}
use Rattle.chunk_words.specs.declared.host.HostTable.{HostTable}
use Rattle.chunk_words.specs.Sits.{setup_in}
use Rattle.trace_writer.specs.declared.state.State.{State}
use Rattle.trace_writer.specs.declared.state.State.TheVariants.{Idle, Between, Writing, Dropping, Stalled}
use Rattle.trace_writer.specs.declared.state.Writer.{Writer}
use Rattle.world_model.specs.FirstBuffers.{payload_at}
use Rattle.trace_writer.specs.Agreement.{Agrees}
use Rattle.trace_writer.specs.Answered.{IsAnsweredCut}
use Rattle.trace_writer.specs.Core.{WriterAgrees, in_packet, holds_chunk}
use Rattle.trace_writer.specs.Empty.{is_empty}
use Rattle.trace_writer.specs.Outcomes.{held_images}
use Rattle.trace_writer.proofs.accounts.Possible.{flushed_loses}
use Rattle.scenario_text.specs.declared.scenario.NumberedLine.{NumberedLine}
use Rattle.scenario_text.specs.Accepted.{calls_asked}
use Rattle.schedule_laws.specs.Resting.{IsBetweenCalls}
use Rattle.service_core.specs.Agreement.{spec_at}
use Rattle.replay_model.proofs.ScrapedLemmas.{counted}
use Rattle.replay_host.proofs.ReadyLemmas.{between_is}
use Rattle.replay_host.proofs.WroteLemmas.{begun_many}
use Rattle.run_model.specs.Answered.{answered_out}
use Rattle.run_model.specs.Collected.{asks_help, begins_packets, may_ask}
use Rattle.run_model.specs.Noted.{done_calls}
use Rattle.run_model.specs.Vain.{LosesInVain}
use Rattle.run_model.proofs.AnsweredLemmas.{out_noted}
use Rattle.thread_writer.specs.declared.helper.Asks.{Asks}
use Rattle.thread_writer.specs.declared.writer.TraceWriter.{TraceWriter}
use Rattle.chunk_words.specs.Named.{identity_of}
use Rattle.thread_writer.specs.Lent.{lent}
use Rattle.thread_writer.specs.Writing.{core_of, view_in, Writes, IsQuietCall}
use Rattle.thread_host.specs.Hosts.{IsReady, HasPlayed}
use Rattle.thread_host.specs.Playing.{NeverRefuses, IsGoing, lost_in, policy_in}
use Rattle.thread_host.proofs.Doing.{done_more}
use Rattle.thread_host.proofs.Going.{size_here, spec_is}
use Rattle.thread_host.proofs.InVain.{vain_none, vain_flushed, chunks_kept}

-- ---- before its first line

-- no helper refuses a writer that asks nobody
pub drops_never : {H : Type 0} (helps : H → ℕ → Bool → H → Type 0) (lines : List NumberedLine) (table : HostTable) (place : ℕ) (writer : TraceWriter)
    → IsReady lines table place writer → asks_help (policy_in writer) ≡ false → NeverRefuses helps (spec_at (setup_in table).writers place).policy
drops_never helps lines table place writer ready never asks =
    let spec = spec_is table place writer ready.writes ready.place_is in
    absurd (let wrong : false ≡ true = sym never ∙ ap (λ (s : WriterSpec). asks_help s.policy) spec ∙ asks in cc)

-- with a helper that never refuses it, it plays its lines
pub begins : {H : Type 0} (helps : H → ℕ → Bool → H → Type 0) (of_table : H → TableId → Type 0) (lines : List NumberedLine) (table : HostTable) (place number : ℕ)
    (help : Asks H) (writer : TraceWriter) → number ≡ suc place → IsReady lines table place writer → of_table help.help (identity_of table)
    → NeverRefuses helps (spec_at (setup_in table).writers place).policy
    → IsGoing helps of_table table place [] (calls_asked number lines ++ Flushed ∷ []) help writer
begins helps of_table lines table place number help writer is ready of_this never = record {
  writes = ready.writes;
  place_is = ready.place_is;
  going = ready.going;
  done = ap (λ (view : WriterView). done_calls (answered_out view)) ready.fresh;
  lose = ap (λ (view : WriterView). written_calls view.calls) ready.fresh;
  in_turn = subst (λ (view : WriterView). won_chunks view.asked ≡ map chunk_of view.begun) (sym ready.fresh) refl;
  vain = subst (λ (view : WriterView). LosesInVain (setup_in table) place view) (sym ready.fresh) (vain_none (setup_in table) place);
  whole = λ stalls. ap (λ (view : WriterView). lost_count (packets_of view.calls)) ready.fresh;
  ready = rw is ready.ready;
  of_this = of_this;
  never = never;
}

-- what it has lost before, and what it does where it finds no free chunk
pub none_lost : (lines : List NumberedLine) (table : HostTable) (place : ℕ) (writer : TraceWriter) → IsReady lines table place writer → lost_in writer ≡ 0
none_lost lines table place writer ready = ap (λ (view : WriterView). lost_count (packets_of view.calls)) ready.fresh

pub policy_here : (setup : Setup) (lines : List NumberedLine) (table : HostTable) (place : ℕ) (writer : TraceWriter) → setup_in table ≡ setup
    → IsReady lines table place writer → policy_in writer ≡ (spec_at setup.writers place).policy
policy_here setup lines table place writer setup_is ready =
    ap (λ (s : WriterSpec). s.policy) (spec_is table place writer ready.writes ready.place_is)
    ∙ ap (λ (s : Setup). (spec_at s.writers place).policy) setup_is

-- and that it asks for help
pub asks_too : (setup : Setup) (lines own : List NumberedLine) (place number : ℕ) (begins_one : Bool) → asks_help (spec_at setup.writers place).policy ≡ true
    → begins_one ≡ begins_packets number own → begins_one ≡ true → own ≡ lines → number ≡ suc place → may_ask setup lines place ≡ true
asks_too setup lines own place number begins_one asks is some same at =
    and_from (asks_help (spec_at setup.writers place).policy) (begins_packets (suc place) lines) asks
    (ap (λ (ls : List NumberedLine). begins_packets (suc place) ls) (sym same) ∙ ap (λ (n : ℕ). begins_packets n own) (sym at) ∙ sym is ∙ some)

-- ---- its answers

-- what each answer of a writer of the table counts is a cut, by the payloads of its place
pub answers_cut : (table : HostTable) (place : ℕ) (writer : TraceWriter) → Writes table writer → (core_of writer).seat.place ≡ place
    → (n : ℕ) (answer : Reply) → At (view_in writer).letters.answers n answer
    → IsAnsweredCut (payload_at (setup_in table) place) (sequence_of place) (view_in writer) answer
answers_cut table place writer writes place_is n answer there =
    subst (λ (p : ℕ). IsAnsweredCut (payload_at (setup_in table) place) (sequence_of p) (view_in writer) answer) place_is
    (subst (λ (size : ℕ). IsAnsweredCut size (sequence_of (core_of writer).seat.place) (view_in writer) answer) (sym (size_here table place writer writes place_is))
    (writes.cuts n answer there))

-- ---- behind the flush

no_images : (place : ℕ) (state : State) → not (is_empty state) ≡ false → length (held_images place state) ≡ 0
no_images place (Idle next_id) none = refl
no_images place (Between chunk) none = absurd (let wrong : true ≡ false = none in cc)
no_images place (Writing fragment) none = absurd (let wrong : true ≡ false = none in cc)
no_images place (Dropping next_id) none = refl
no_images place (Stalled next_id) none = refl

pub none_held : (setup : Setup) (place : ℕ) (view : WriterView) (writer : Writer) → Agrees setup place view writer → not (is_empty writer.state) ≡ false
    → held_count view.begun ≡ 0
none_held setup place view writer agrees none =
    let many = begun_many setup place view writer agrees writer.state refl in
    let all = counted view.begun in
    let images = no_images place writer.state none in
    omega (arith, many, all, images)

module _ {H : Type 0} (helps : H → ℕ → Bool → H → Type 0) (of_table : H → TableId → Type 0) (lines : List NumberedLine) (table : Bor HostTable) (place number : ℕ)
    (help : Asks H) (writer : TraceWriter) (going : IsGoing helps of_table table.now place (calls_asked number lines) (Flushed ∷ []) help writer)
  where
    -- it is between two packets
    pub between_now : in_packet (view_in writer) ≡ false
    between_now = between_is going.ready.asked (view_in writer) going.ready.loses going.ready.accepted.0

    module _ (after : TraceWriter) (is : number ≡ suc place) (writes : Writes table.now after)
        (flushed : IsQuietCall (lent table) (core_of writer) (core_of after) (Flushed ∷ []))
        (none_held_now : holds_chunk (core_of after) ≡ false) (none_begun : in_packet (view_in after) ≡ false)
      where
        notes : (view_in after).calls ≡ (view_in writer).calls ++ Flushed ∷ []
        notes = flushed.notes going.going

        out : answered_out (view_in after) ≡ answered_out (view_in writer) ++ Flushed ∷ []
        out = out_noted (view_in writer) (view_in after) (Flushed ∷ []) (ap (λ (l : Letters). l.answers) flushed.quiet.step.letters_stay) notes
            (λ n answer there. (going.writes.cuts n answer there).calls)

        lose : Loses (calls_asked number lines) (view_in after).calls
        lose =
            ap written_calls notes ∙ written_append (view_in writer).calls (Flushed ∷ [])
            ∙ append-nil (written_calls (view_in writer).calls) ∙ going.lose

        place_is : (core_of after).seat.place ≡ place
        place_is = flushed.quiet.step.place_stays ∙ going.place_is

        between : IsBetweenCalls (setup_in table.now) place (view_in after)
        between = record {
          writer = (core_of after).writer;
          agrees = subst (λ (p : ℕ). WriterAgrees (setup_in table.now) p (view_in after) (core_of after).writer) place_is writes.agrees;
        }

        in_turn : won_chunks (view_in after).asked ≡ map chunk_of (view_in after).begun
        in_turn = ap won_chunks flushed.quiet.asked ∙ going.in_turn ∙ sym (chunks_kept (view_in writer).begun (view_in after).begun flushed.quiet.chunks)

        -- it has done its lines
        pub has_played : HasPlayed lines (Flushed ∷ []) table.now place after
        has_played = record {
          writes = writes;
          place_is = place_is;
          going = flushed.goes ∙ going.going;
          done = record {
            between = between;
            asked = subst (λ (n : ℕ). done_calls (answered_out (view_in after)) ≡ calls_asked n lines ++ Flushed ∷ []) is
                (done_more (calls_asked number lines) (answered_out (view_in writer)) (answered_out (view_in after)) Flushed (Flushed ∷ []) going.done out refl);
            lose = subst (λ (n : ℕ). Loses (calls_asked n lines) (view_in after).calls) is lose;
            in_turn = in_turn;
            vain = vain_flushed (setup_in table.now) place (view_in writer) (view_in after) flushed.quiet.asked flushed.quiet.chunks notes between in_turn going.vain;
            stalls = λ stalls. flushed_loses (view_in writer) (view_in after) notes ∙ going.whole stalls;
            none_held = none_held (setup_in table.now) (core_of after).seat.place (view_in after) (core_of after).writer writes.agrees.writes none_held_now;
            answers = answers_cut table.now place after writes place_is;
          };
          none_begun = none_begun;
          none_held = none_held_now;
        }
