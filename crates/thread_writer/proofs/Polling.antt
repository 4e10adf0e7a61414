-- A writer that hears of flush requests, and one that answers, is one of its table still.
use Rattle.std.proofs.Common.{◌<◌, ◌≡◌, ◌∙◌, ℕ, ◌+◌, Bool, true, false, not, List, [], ◌∷◌, ◌++◌, length, take, refl, sym, ap, subst, arith, ⊎_elim, append-nil, length-append}
use Rattle.std.proofs.lemmas.List.{take_all}
use Rattle.trace_model.specs.Calls.{Call, Flushed}
use Rattle.chunk_plain.specs.Histories.{completed_images}
use Rattle.chunk_plain.specs.Letters.{NoClaimSince, last_flush, knows_request, answers_with}
use Rattle.chunk_plain.specs.Owned.{held_count}
use Rattle.chunk_plain.specs.Setup.{Setup}
use Rattle.chunk_plain.specs.Views.{At, Ask, BegunChunk, Letters, Reply, WriterView}
use Rattle.chunk_plain.proofs.Lists.{at_more}
use Rattle.chunk_words.specs.declared.host.HostTable.{HostTable}
use Rattle.chunk_words.specs.declared.seats.WriterSeat.{WriterSeat}
use Rattle.chunk_words.specs.declared.shared.Shared.{Shared}
use Rattle.chunk_words.specs.Sits.{Sits, setup_in, known_by}
use Rattle.chunk_words.proofs.MailSteps.{last_of}
use Rattle.trace_writer.specs.declared.state.Writer.{Writer}
use Rattle.trace_writer.specs.declared.writer.WriterCore.{WriterCore}
use Rattle.trace_writer.specs.Answered.{IsAnsweredCut}
use Rattle.trace_writer.specs.Core.{WriterAgrees, holds_chunk, is_stalled, route_of}
use Rattle.trace_writer.specs.Empty.{is_empty, is_stalled as is_stalled_state}
use Rattle.trace_writer.specs.OwnSteps.{KeepsChunks, NoneHeld}
use Rattle.trace_writer.proofs.accounts.Letters.{letters_agree}
use Rattle.trace_writer.proofs.holding.KeptChunks.{none_counted}
use Rattle.trace_writer.proofs.holding.Answering.{cut_stays, answered_cut, all_completed, empty_holds_none}
use Rattle.thread_writer.specs.declared.writer.TraceWriter.{TraceWriter}
use Rattle.thread_writer.specs.Polling.{AnswersAlone, AnswersWith, HearsAlone, IsFlushed}
use Rattle.thread_writer.specs.Writing.{core_of, view_in, AnswersAreCuts, IsQuietCall, Writes}
use Rattle.thread_writer.proofs.Calls.{all_stays, cuts_stay}

-- it agrees with its view, with other letters
agrees_there : (setup : Setup) (old new : WriterCore WriterSeat) (letters : Letters) → WriterAgrees setup old.seat.place (known_by old.seat) old.writer
    → new.writer ≡ old.writer → new.seat.place ≡ old.seat.place → known_by new.seat ≡ record (known_by old.seat) { letters = letters }
    → WriterAgrees setup new.seat.place (known_by new.seat) new.writer
agrees_there setup old new letters agrees writer place view =
    let as_before = letters_agree setup old.seat.place (known_by old.seat) letters old.writer agrees in
    subst (λ (p : ℕ). WriterAgrees setup p (known_by new.seat) new.writer) (sym place)
    (subst (λ (w : Writer). WriterAgrees setup old.seat.place (known_by new.seat) w) (sym writer)
    (subst (λ (v : WriterView). WriterAgrees setup old.seat.place v old.writer) (sym view) as_before))

pub heard_writes : (table : HostTable) (old new : TraceWriter) (number : ℕ) → Writes table old → new.policy ≡ old.policy → new.answered ≡ old.answered
    → (core_of new).writer ≡ (core_of old).writer → (core_of new).seat.place ≡ (core_of old).seat.place → Sits table (core_of new).seat
    → view_in new ≡ knows_request (view_in old) number → Writes table new
heard_writes table old new number was policy answered writer place seat view = record {
  seat = seat;
  agrees = agrees_there (setup_in table) (core_of old) (core_of new) (record (view_in old).letters { known = number }) was.agrees writer place view;
  policy_is = policy ∙ was.policy_is ∙ ap (λ (w : Writer). w.route.spec.policy) (sym writer);
  answered_is = answered ∙ was.answered_is ∙ ap (λ (v : WriterView). last_flush v.letters.answers) (sym view);
  cuts = cuts_stay (core_of old) (core_of new) was.cuts (ap (λ (w : Writer). w.route.payload_size) writer) place (ap (λ (v : WriterView). v.letters.answers) view)
      (all_stays (view_in old) (view_in new) (ap (λ (v : WriterView). v.calls) view) (ap (λ (v : WriterView). v.begun) view));
}

-- ---- an answer behind a flush

empty_of : (holds empty : Bool) → holds ≡ not empty → holds ≡ false → empty ≡ true
empty_of holds true is none = refl
empty_of holds false is none = absurd (let never : true ≡ false = sym is ∙ none in cc)

pub none_held_is_empty : (core : WriterCore WriterSeat) → holds_chunk core ≡ false → is_empty core.writer.state ≡ true
none_held_is_empty core none = empty_of (holds_chunk core) (is_empty core.writer.state) refl none

-- none of what it began is held
none_held_in : (table : HostTable) (writer : TraceWriter) → Writes table writer → holds_chunk (core_of writer) ≡ false → NoneHeld (view_in writer).begun
none_held_in table writer writes none =
    empty_holds_none (setup_in table) (core_of writer).seat.place (view_in writer) (core_of writer).writer writes.agrees (none_held_is_empty (core_of writer) none)

-- all that it began is completed
pub all_of_them : (table : HostTable) (writer : TraceWriter) → Writes table writer → holds_chunk (core_of writer) ≡ false
    → length (completed_images (view_in writer).begun) ≡ length (view_in writer).begun
all_of_them table writer writes none = all_completed (view_in writer).begun (none_held_in table writer writes none)

-- and so none is held of the first ones, as many as it completed
pub none_of_them : (table : HostTable) (writer : TraceWriter) (chunks : ℕ) → Writes table writer → holds_chunk (core_of writer) ≡ false
    → chunks ≡ length (completed_images (view_in writer).begun) → held_count (take chunks (view_in writer).begun) ≡ 0
none_of_them table writer chunks writes none complete =
    let all = all_of_them table writer writes none in
    ap held_count (take_all chunks (view_in writer).begun (omega (arith, complete, all))) ∙ none_counted (view_in writer).begun (none_held_in table writer writes none)

answers_are_cuts : (setup : Setup) (core : WriterCore WriterSeat) (flush chunks : ℕ) → WriterAgrees setup core.seat.place (known_by core.seat) core.writer
    → holds_chunk core ≡ false → IsFlushed (known_by core.seat).calls → chunks ≡ length (known_by core.seat).begun → AnswersAreCuts core
    → (n : ℕ) (answer : Reply) → At (answers_with (known_by core.seat) flush chunks).letters.answers n answer
    → IsAnsweredCut (route_of core).payload_size (core.seat.place + 2) (answers_with (known_by core.seat) flush chunks) answer
answers_are_cuts setup core flush chunks agrees none flushed all cuts n answer at =
    let view = known_by core.seat in let new = answers_with view flush chunks in
    let reply : Reply = record { flush = flush; chunks = chunks; calls = length view.calls } in
    ⊎_elim
    (λ old. cut_stays (route_of core).payload_size (core.seat.place + 2) view new [] answer (sym (append-nil view.calls)) (λ id chunk content there. there) (cuts n answer old))
    (λ is. subst (λ (r : Reply). IsAnsweredCut (route_of core).payload_size (core.seat.place + 2) new r) is.1
    (answered_cut setup core.seat.place new core.writer flushed.0 reply (letters_agree setup core.seat.place view new.letters core.writer agrees) (none_held_is_empty core none)
    flushed.1 refl all))
    (at_more view.letters.answers reply answer n at)

pub answered_writes : (table : HostTable) (old new : TraceWriter) (flush chunks : ℕ) → Writes table old → new.policy ≡ old.policy → new.answered ≡ flush
    → holds_chunk (core_of old) ≡ false → IsFlushed (view_in old).calls → chunks ≡ length (completed_images (view_in old).begun)
    → (core_of new).writer ≡ (core_of old).writer → (core_of new).seat.place ≡ (core_of old).seat.place → Sits table (core_of new).seat
    → view_in new ≡ answers_with (view_in old) flush chunks → Writes table new
answered_writes table old new flush chunks was policy answered none flushed complete writer place seat view =
    let after = answers_with (view_in old) flush chunks in
    let reply : Reply = record { flush = flush; chunks = chunks; calls = length (view_in old).calls } in
    let are = answers_are_cuts (setup_in table) (core_of old) flush chunks was.agrees none flushed (complete ∙ all_of_them table old was none) was.cuts in
    record {
      seat = seat;
      agrees = agrees_there (setup_in table) (core_of old) (core_of new) after.letters was.agrees writer place view;
      policy_is = policy ∙ was.policy_is ∙ ap (λ (w : Writer). w.route.spec.policy) (sym writer);
      answered_is = answered ∙ sym (ap (λ (v : WriterView). last_flush v.letters.answers) view ∙ ap (λ (r : Reply). r.flush) (last_of (view_in old).letters.answers reply));
      cuts = λ n answer at.
          subst (λ (p : ℕ). IsAnsweredCut (route_of (core_of new)).payload_size (p + 2) (view_in new) answer) (sym place)
          (subst (λ (w : Writer). IsAnsweredCut w.route.payload_size ((core_of old).seat.place + 2) (view_in new) answer) (sym writer)
          (subst (λ (v : WriterView). IsAnsweredCut (route_of (core_of old)).payload_size ((core_of old).seat.place + 2) v answer) (sym view)
          (are n answer (subst (λ (v : WriterView). At v.letters.answers n answer) view at))));
    }

-- behind the flush of a poll it has made no claim
pub no_claim_since : (table : HostTable) (shared_table : Shared) (old heard flushed : TraceWriter) → is_stalled (core_of old) ≡ false
    → HearsAlone (core_of old) (core_of heard) → Writes table heard → IsQuietCall shared_table (core_of heard) (core_of flushed) (Flushed ∷ [])
    → NoClaimSince (view_in flushed)
no_claim_since table shared_table old heard flushed going alone writes call i ask at =
    let goes : is_stalled (core_of heard) ≡ false = ap (λ (w : Writer). is_stalled_state w.state) alone.writer ∙ going in
    let more = ap (λ (calls : List Call). length calls) (call.notes goes) ∙ length-append (view_in heard).calls (Flushed ∷ []) in
    let behind = writes.seat.rests.rests.behind i ask (subst (λ (asked : List Ask). At asked i ask) call.quiet.asked at) in
    omega (arith, more, behind)

-- ---- a poll that answers: the writer heard, flushed and gave its answer

pub polled : (table : HostTable) (shared_table : Shared) (old heard flushed new : TraceWriter) (flush chunks : ℕ) → is_stalled (core_of old) ≡ false
    → HearsAlone (core_of old) (core_of heard) → (view_in heard).letters.known ≡ flush → last_flush (view_in old).letters.answers < flush
    → Writes table flushed → IsQuietCall shared_table (core_of heard) (core_of flushed) (Flushed ∷ []) → holds_chunk (core_of flushed) ≡ false
    → chunks ≡ length (completed_images (view_in flushed).begun) → AnswersAlone flush chunks (core_of flushed) (core_of new)
    → AnswersWith flush chunks (core_of old) (core_of new)
polled table shared_table old heard flushed new flush chunks going alone known newer writes call none complete gave =
    let view = gave.view in let writer = gave.writer in let quiet = call.quiet in let rest = alone.rest in
    let goes : is_stalled (core_of heard) ≡ false = ap (λ (w : Writer). is_stalled_state w.state) alone.writer ∙ going in
    let noted : (view_in flushed).calls ≡ (view_in old).calls ++ Flushed ∷ [] = call.notes goes ∙ ap (λ (v : WriterView). v.calls ++ Flushed ∷ []) rest in
    let calls : (view_in new).calls ≡ (view_in flushed).calls = ap (λ (v : WriterView). v.calls) view in
    let begun : (view_in new).begun ≡ (view_in flushed).begun = ap (λ (v : WriterView). v.begun) view in
    let answers : (view_in flushed).letters.answers ≡ (view_in old).letters.answers
    = ap (λ (l : Letters). l.answers) quiet.step.letters_stay ∙ ap (λ (v : WriterView). v.letters.answers) rest in
    let none_left : NoneHeld (view_in flushed).begun = none_held_in table flushed writes none in
    record {
      calls = calls ∙ noted;
      answers = ap (λ (v : WriterView). v.letters.answers) view
          ∙ (ap (λ (l : List Reply). l ++ record { flush = flush; chunks = chunks; calls = length (view_in flushed).calls } ∷ []) answers
          ∙ ap (λ (l : List Call). (view_in old).letters.answers ++ record { flush = flush; chunks = chunks; calls = length l } ∷ []) (sym calls));
      newest = ap (λ (v : WriterView). v.letters.known) view ∙ (ap (λ (l : Letters). l.known) quiet.step.letters_stay ∙ known);
      newer = newer;
      rises = let low = alone.rises in omega (arith, low, known);
      complete = complete ∙ ap (λ (l : List BegunChunk). length (completed_images l)) (sym begun);
      whole = complete ∙ (all_of_them table flushed writes none ∙ ap (λ (l : List BegunChunk). length l) (sym begun));
      none_held = subst NoneHeld (sym begun) none_left;
      kept = subst (KeepsChunks (view_in old).begun) (sym begun)
          (subst (λ (l : List BegunChunk). KeepsChunks l (view_in flushed).begun) (ap (λ (v : WriterView). v.begun) rest) quiet.chunks);
      asked = ap (λ (v : WriterView). v.asked) view ∙ (quiet.asked ∙ ap (λ (v : WriterView). v.asked) rest);
      claimed = ap (λ (v : WriterView). v.claimed) view ∙ (quiet.claimed ∙ ap (λ (v : WriterView). v.claimed) rest);
      stamped = ap (λ (v : WriterView). v.stamped) view ∙ (quiet.stamped ∙ ap (λ (v : WriterView). v.stamped) rest);
      holds_none = ap (λ (w : Writer). not (is_empty w.state)) writer ∙ none;
      goes = ap (λ (w : Writer). is_stalled_state w.state) writer ∙ (call.goes ∙ goes);
      route = ap (λ (w : Writer). w.route) writer ∙ (call.route ∙ ap (λ (w : Writer). w.route) alone.writer);
      place = gave.place ∙ (quiet.step.place_stays ∙ alone.place);
    }
