-- What a writer is behind hearing of flush requests and answering them: it goes on as it did, with one flush more for an answer.
use Rattle.std.proofs.Common.{◌≡◌, ◌∙◌, ℕ, suc, ◌≤◌, Bool, false, not, Option, Some, None, List, [], ◌∷◌, ◌++◌, length, map, refl, sym, ap, subst, arith, append-nil, append_assoc}
use Rattle.atomic_table.specs.Seated.{TableId}
use Rattle.trace_model.specs.Calls.{Call, Flushed}
use Rattle.trace_model.specs.Packets.{packets_of, lost_count}
use Rattle.model_laws.specs.Losses.{written_calls}
use Rattle.model_laws.proofs.LossLemmas.{written_append}
use Rattle.chunk_plain.specs.Letters.{last_flush}
use Rattle.chunk_plain.specs.Owned.{held_count, won_chunks}
use Rattle.chunk_plain.specs.Setup.{Setup, sequence_of}
use Rattle.chunk_plain.specs.Views.{At, Letters, Reply, WriterView, chunk_of}
use Rattle.chunk_words.specs.declared.host.HostTable.{HostTable}
use Rattle.chunk_words.specs.declared.seats.WriterSeat.{WriterSeat}
use Rattle.chunk_words.specs.declared.shared.Shared.{Shared}
use Rattle.chunk_words.specs.Sits.{setup_in, known_by}
use Rattle.chunk_words.proofs.MailSteps.{last_of}
use Rattle.world_model.specs.FirstBuffers.{payload_at}
use Rattle.trace_writer.specs.declared.state.Writer.{Writer}
use Rattle.trace_writer.specs.declared.writer.WriterCore.{WriterCore}
use Rattle.trace_writer.specs.Answered.{IsAnsweredCut}
use Rattle.trace_writer.specs.Core.{WriterAgrees, holds_chunk, in_packet}
use Rattle.trace_writer.specs.Empty.{is_empty, is_stalled as is_stalled_state}
use Rattle.trace_writer.specs.OwnSteps.{KeepsChunks}
use Rattle.trace_writer.proofs.accounts.Possible.{flushed_loses}
use Rattle.scenario_text.specs.declared.scenario.NumberedLine.{NumberedLine}
use Rattle.scenario_text.specs.Accepted.{calls_asked}
use Rattle.schedule_laws.specs.Resting.{IsBetweenCalls}
use Rattle.replay_host.proofs.ReadyLemmas.{ready_still}
use Rattle.run_model.specs.Answered.{answered_out}
use Rattle.run_model.specs.Noted.{done_calls}
use Rattle.run_model.specs.Settled.{HasDoneLines}
use Rattle.run_model.specs.Vain.{HasVainRounds, LosesInVain}
use Rattle.run_model.proofs.AnsweredLemmas.{out_answered, out_noted}
use Rattle.thread_writer.specs.declared.helper.Asks.{Asks}
use Rattle.thread_writer.specs.declared.writer.TraceWriter.{TraceWriter}
use Rattle.thread_writer.specs.Polling.{AnswersWith, HearsAlone, Polls}
use Rattle.thread_writer.specs.Writing.{core_of, view_in, IsQuietCall, Writes}
use Rattle.thread_host.specs.Hosts.{HasPlayed}
use Rattle.thread_host.specs.Playing.{IsGoing}
use Rattle.thread_host.proofs.Doing.{done_more}
use Rattle.thread_host.proofs.InVain.{chunks_kept, vain_flushed}
use Rattle.thread_host.proofs.PlayedWriters.{answers_cut, none_held}

-- ---- a view of which nothing changed but its letters

module _ (setup : Setup) (place : ℕ) (view : WriterView) (letters : Letters) where
  rounds_with : (calls behind : ℕ) → HasVainRounds setup place view calls behind → HasVainRounds setup place (record view { letters = letters }) calls behind
  rounds_with calls behind rounds = record {
    front = rounds.front;
    noted = rounds.noted;
    between = rounds.between;
    in_turn = rounds.in_turn;
    rounds = rounds.rounds;
    goes_on = record {
      calls = rounds.goes_on.calls;
      asks = rounds.goes_on.asks;
      calls_are = rounds.goes_on.calls_are;
      asks_are = rounds.goes_on.asks_are;
      chunks_are = rounds.goes_on.chunks_are;
      later = rounds.goes_on.later;
    };
  }

  pub vain_with : LosesInVain setup place view → LosesInVain setup place (record view { letters = letters })
  vain_with vain = record {
    dropped = λ index there. rounds_with index (suc index) (vain.dropped index there);
    given_up = λ index there. let loss = vain.given_up index there in (loss.0, loss.1, rounds_with loss.0 (suc index) loss.2);
  }

-- ---- a writer that is going

module _ {H : Type 0} (helps : H → ℕ → Bool → H → Type 0) (of_table : H → TableId → Type 0) (table : HostTable) (place : ℕ) (asked coming : List Call)
    (help : Asks H) (writer after : TraceWriter) (going : IsGoing helps of_table table place asked coming help writer) (writes : Writes table after) where
  heard_going : HearsAlone (core_of writer) (core_of after) → IsGoing helps of_table table place asked coming help after
  heard_going alone =
      let rest = alone.rest in
      record {
        writes = writes;
        place_is = alone.place ∙ going.place_is;
        going = ap (λ (w : Writer). is_stalled_state w.state) alone.writer ∙ going.going;
        done = ap (λ (v : WriterView). done_calls (answered_out v)) rest ∙ going.done;
        lose = ap (λ (v : WriterView). written_calls v.calls) rest ∙ going.lose;
        in_turn = ap (λ (v : WriterView). won_chunks v.asked) rest ∙ going.in_turn ∙ sym (ap (λ (v : WriterView). map chunk_of v.begun) rest);
        vain = subst (λ (v : WriterView). LosesInVain (setup_in table) place v) (sym rest)
            (vain_with (setup_in table) place (view_in writer) (record (view_in writer).letters { known = (view_in after).letters.known }) going.vain);
        whole = λ stalls. ap (λ (v : WriterView). lost_count (packets_of v.calls)) rest ∙ going.whole stalls;
        ready = ready_still (payload_at (setup_in table) place) (view_in writer) (view_in after) coming (ap (λ (v : WriterView). v.calls) rest) going.ready;
        of_this = going.of_this;
        never = going.never;
      }

  module _ (flush chunks : ℕ) (gave : AnswersWith flush chunks (core_of writer) (core_of after)) where
    place_is : (core_of after).seat.place ≡ place
    place_is = gave.place ∙ going.place_is

    between : IsBetweenCalls (setup_in table) place (view_in after)
    between = record {
      writer = (core_of after).writer;
      agrees = subst (λ (p : ℕ). WriterAgrees (setup_in table) p (view_in after) (core_of after).writer) place_is writes.agrees;
    }

    in_turn : won_chunks (view_in after).asked ≡ map chunk_of (view_in after).begun
    in_turn = ap won_chunks gave.asked ∙ going.in_turn ∙ sym (chunks_kept (view_in writer).begun (view_in after).begun gave.kept)

    written : written_calls (view_in after).calls ≡ written_calls (view_in writer).calls
    written = ap written_calls gave.calls ∙ written_append (view_in writer).calls (Flushed ∷ []) ∙ append-nil (written_calls (view_in writer).calls)

    answered_going : IsGoing helps of_table table place asked coming help after
    answered_going = record {
      writes = writes;
      place_is = place_is;
      going = gave.goes;
      done = ap done_calls (out_answered (view_in writer) (view_in after) (record { flush = flush; chunks = chunks; calls = length (view_in after).calls })
          gave.answers gave.calls refl) ∙ going.done;
      lose = written ∙ going.lose;
      in_turn = in_turn;
      vain = vain_flushed (setup_in table) place (view_in writer) (view_in after) gave.asked gave.kept gave.calls between in_turn going.vain;
      whole = λ stalls. flushed_loses (view_in writer) (view_in after) gave.calls ∙ going.whole stalls;
      ready = record {
        asked = going.ready.asked;
        loses = written ∙ going.ready.loses;
        accepted = going.ready.accepted;
        possible = going.ready.possible;
        few = going.ready.few;
      };
      of_this = going.of_this;
      never = going.never;
    }

  -- behind a poll, whether it answers or not
  pub polled_going : (answer : Option (ℕ × ℕ)) → Polls answer (core_of writer) (core_of after) → IsGoing helps of_table table place asked coming help after
  polled_going None none = heard_going none.hears
  polled_going (Some answer) gave = answered_going answer.0 answer.1 gave

-- ---- a writer that has done its lines

-- what each of its answers counts is a cut
abbrev AreCut : Setup → ℕ → WriterView → Type 0
AreCut setup place view = (n : ℕ) (answer : Reply) → At view.letters.answers n answer → IsAnsweredCut (payload_at setup place) (sequence_of place) view answer

done_silent : (setup : Setup) (lines : List NumberedLine) (endings : List Call) (place number : ℕ) (old new : WriterView)
    → new ≡ record old { letters = record old.letters { known = number } } → IsBetweenCalls setup place new → AreCut setup place new
    → HasDoneLines setup lines endings place old → HasDoneLines setup lines endings place new
done_silent setup lines endings place number old new rest between cuts done = record {
  between = between;
  asked = ap (λ (v : WriterView). done_calls (answered_out v)) rest ∙ done.asked;
  lose = ap (λ (v : WriterView). written_calls v.calls) rest ∙ done.lose;
  in_turn = ap (λ (v : WriterView). won_chunks v.asked) rest ∙ done.in_turn ∙ sym (ap (λ (v : WriterView). map chunk_of v.begun) rest);
  vain = subst (λ (v : WriterView). LosesInVain setup place v) (sym rest) (vain_with setup place old (record old.letters { known = number }) done.vain);
  stalls = λ stalls. ap (λ (v : WriterView). lost_count (packets_of v.calls)) rest ∙ done.stalls stalls;
  none_held = ap (λ (v : WriterView). held_count v.begun) rest ∙ done.none_held;
  answers = cuts;
}

done_flushed : (setup : Setup) (lines : List NumberedLine) (endings more : List Call) (place : ℕ) (old new : WriterView) → new.calls ≡ old.calls ++ Flushed ∷ []
    → new.asked ≡ old.asked → KeepsChunks old.begun new.begun → done_calls (answered_out new) ≡ done_calls (answered_out old) ++ more
    → held_count new.begun ≡ 0 → IsBetweenCalls setup place new → AreCut setup place new
    → HasDoneLines setup lines endings place old → HasDoneLines setup lines (endings ++ more) place new
done_flushed setup lines endings more place old new notes asked kept out none between cuts done =
    let in_turn = ap won_chunks asked ∙ done.in_turn ∙ sym (chunks_kept old.begun new.begun kept) in
    record {
      between = between;
      asked = out ∙ ap (λ (calls : List Call). calls ++ more) done.asked ∙ append_assoc (calls_asked (suc place) lines) endings more;
      lose = ap written_calls notes ∙ written_append old.calls (Flushed ∷ []) ∙ append-nil (written_calls old.calls) ∙ done.lose;
      in_turn = in_turn;
      vain = vain_flushed setup place old new asked kept notes between in_turn done.vain;
      stalls = λ stalls. flushed_loses old new notes ∙ done.stalls stalls;
      none_held = none;
      answers = cuts;
    }

module _ (lines : List NumberedLine) (table : HostTable) (place : ℕ) (endings : List Call) (old new : TraceWriter)
    (played : HasPlayed lines endings table place old) (writes : Writes table new) where
  module _ (place_is : (core_of new).seat.place ≡ place) where
    rests : IsBetweenCalls (setup_in table) place (view_in new)
    rests = record {
      writer = (core_of new).writer;
      agrees = subst (λ (p : ℕ). WriterAgrees (setup_in table) p (view_in new) (core_of new).writer) place_is writes.agrees;
    }

    cut : AreCut (setup_in table) place (view_in new)
    cut = answers_cut table place new writes place_is

    held_none : holds_chunk (core_of new) ≡ false → held_count (view_in new).begun ≡ 0
    held_none none = none_held (setup_in table) (core_of new).seat.place (view_in new) (core_of new).writer writes.agrees.writes none

  -- behind hearing of requests
  pub played_heard : HearsAlone (core_of old) (core_of new) → HasPlayed lines endings table place new
  played_heard alone =
      let place_is = alone.place ∙ played.place_is in
      record {
        writes = writes;
        place_is = place_is;
        going = ap (λ (w : Writer). is_stalled_state w.state) alone.writer ∙ played.going;
        done = done_silent (setup_in table) lines endings place (view_in new).letters.known (view_in old) (view_in new) alone.rest (rests place_is) (cut place_is) played.done;
        none_begun = ap (λ (v : WriterView). in_packet v) alone.rest ∙ played.none_begun;
        none_held = ap (λ (w : Writer). not (is_empty w.state)) alone.writer ∙ played.none_held;
      }

  -- behind a flush
  pub played_flushed : (shared_table : Shared) → IsQuietCall shared_table (core_of old) (core_of new) (Flushed ∷ []) → holds_chunk (core_of new) ≡ false
      → in_packet (view_in new) ≡ false → HasPlayed lines (endings ++ Flushed ∷ []) table place new
  played_flushed shared_table flushed none none_begun =
      let place_is = flushed.quiet.step.place_stays ∙ played.place_is in
      let notes = flushed.notes played.going in
      let out = out_noted (view_in old) (view_in new) (Flushed ∷ []) (ap (λ (l : Letters). l.answers) flushed.quiet.step.letters_stay) notes
      (λ n answer there. (played.writes.cuts n answer there).calls) in
      record {
        writes = writes;
        place_is = place_is;
        going = flushed.goes ∙ played.going;
        done = done_flushed (setup_in table) lines endings (Flushed ∷ []) place (view_in old) (view_in new) notes flushed.quiet.asked flushed.quiet.chunks
            (done_more (done_calls (answered_out (view_in old))) (answered_out (view_in old)) (answered_out (view_in new)) Flushed (Flushed ∷ []) refl out refl)
            (held_none place_is none) (rests place_is) (cut place_is) played.done;
        none_begun = none_begun;
        none_held = none;
      }

  -- behind a poll
  pub played_polled : (answer : Option (ℕ × ℕ)) → Polls answer (core_of old) (core_of new) → in_packet (view_in new) ≡ false → HasPlayed lines endings table place new
  played_polled None none none_begun = played_heard none.hears
  played_polled (Some answer) gave none_begun =
      let place_is = gave.place ∙ played.place_is in
      let reply : Reply = record { flush = answer.0; chunks = answer.1; calls = length (view_in new).calls } in
      let out = ap done_calls (out_answered (view_in old) (view_in new) reply gave.answers gave.calls refl) ∙ sym (append-nil (done_calls (answered_out (view_in old)))) in
      record {
        writes = writes;
        place_is = place_is;
        going = gave.goes;
        done = subst (λ (calls : List Call). HasDoneLines (setup_in table) lines calls place (view_in new)) (append-nil endings)
            (done_flushed (setup_in table) lines endings [] place (view_in old) (view_in new) gave.calls gave.asked gave.kept out
            (held_none place_is gave.holds_none) (rests place_is) (cut place_is) played.done);
        none_begun = none_begun;
        none_held = gave.holds_none;
      }

-- behind a poll its last answer is to each request that it knew of before
pub polls_reach : (answer : Option (ℕ × ℕ)) (old new : WriterCore WriterSeat) → Polls answer old new
    → (known_by old.seat).letters.known ≤ last_flush (known_by new.seat).letters.answers
polls_reach None old new none =
    let rises = none.hears.rises in let newer = none.none_newer in
    let same : last_flush (known_by new.seat).letters.answers ≡ last_flush (known_by old.seat).letters.answers
    = ap (λ (v : WriterView). last_flush v.letters.answers) none.hears.rest in
    omega (arith, rises, newer, same)
polls_reach (Some answer) old new gave =
    let reply : Reply = record { flush = answer.0; chunks = answer.1; calls = length (known_by new.seat).calls } in
    let last : last_flush (known_by new.seat).letters.answers ≡ answer.0
    = ap last_flush gave.answers ∙ ap (λ (r : Reply). r.flush) (last_of (known_by old.seat).letters.answers reply) in
    let rises = gave.rises in omega (arith, last, rises)
