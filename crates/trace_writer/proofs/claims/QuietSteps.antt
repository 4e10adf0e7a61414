-- The steps of a writer by which it asks for no chunk.
use Rattle.std.proofs.Common.{◌≡◌, ℕ, List, Some, sym, ap, subst, set}
use Rattle.trace_model.specs.Calls.{Call}
use Rattle.chunk_plain.specs.Views.{BegunChunk, Held, Draft, Content, WriterView}
use Rattle.chunk_plain.specs.Drafts.{IsHolding, draft_at}
use Rattle.chunk_plain.specs.Steps.{redrafts, completes, notes_call, moved, with_writer_view}
use Rattle.chunk_plain.specs.Meaning.{Meaning, IsWriterStep}
use Rattle.chunk_plain.specs.World.{World, Writing, Ready}
use Rattle.trace_writer.specs.OwnSteps.{KeepsChunks, FreesNone, IsQuiet}
use Rattle.trace_writer.proofs.holding.KeptChunks.{keeps_same, keeps_redrafted, keeps_set, frees_moved, frees_noted, writing_used, ready_used}

module _ {T W S : Type 0} (means : Meaning T W S) where
  quiet_chunks : (old : T) (seat : W) (new : T) (after : W) (begun : List BegunChunk) → IsWriterStep means old seat new after
      → means.view new after ≡ record (means.view old seat) { begun = begun } → KeepsChunks (means.view old seat).begun begun → FreesNone means.told old new
      → IsQuiet means old seat new after
  quiet_chunks old seat new after begun step is keeps frees = record {
    step = step;
    asked = ap (λ (v : WriterView). v.asked) is;
    claimed = ap (λ (v : WriterView). v.claimed) is;
    stamped = ap (λ (v : WriterView). v.stamped) is;
    chunks = subst (λ (chunks : List BegunChunk). KeepsChunks (means.view old seat).begun chunks) (sym (ap (λ (v : WriterView). v.begun) is)) keeps;
    frees_none = frees;
  }

  -- another thing stands in a held chunk
  pub quiet_redrafted : (old : T) (seat : W) (new : T) (after : W) (by chunk position : ℕ) (draft other : Draft) → IsWriterStep means old seat new after
      → means.view new after ≡ redrafts (means.view old seat) chunk position draft → IsHolding (means.view old seat) chunk position
      → ((world : World) → means.told old ≡ Some world → means.told new ≡ Some (moved world by (means.view new after) chunk (Writing by position other)))
      → IsQuiet means old seat new after
  quiet_redrafted old seat new after by chunk position draft other step is held tells =
      quiet_chunks old seat new after (set (means.view old seat).begun position (Held chunk draft)) step is
      (keeps_redrafted (means.view old seat).begun chunk position (draft_at (means.view old seat) position) draft held)
      (frees_moved means.told old new by chunk (means.view new after) (Writing by position other) (writing_used by position other) tells)

  -- a held chunk is completed
  pub quiet_completed : (old : T) (seat : W) (new : T) (after : W) (by chunk position : ℕ) (content : Content) → IsWriterStep means old seat new after
      → means.view new after ≡ completes (means.view old seat) chunk position content → IsHolding (means.view old seat) chunk position
      → ((world : World) → means.told old ≡ Some world → means.told new ≡ Some (moved world by (means.view new after) chunk (Ready by position content)))
      → IsQuiet means old seat new after
  quiet_completed old seat new after by chunk position content step is held tells =
      quiet_chunks old seat new after _ step is
      (keeps_set (means.view old seat).begun chunk position (draft_at (means.view old seat) position) content held)
      (frees_moved means.told old new by chunk (means.view new after) (Ready by position content) (ready_used by position content) tells)

  -- a call is noted
  pub quiet_noted : (old : T) (seat : W) (new : T) (after : W) (by : ℕ) (call : Call) → IsWriterStep means old seat new after
      → means.view new after ≡ notes_call (means.view old seat) call
      → ((world : World) → means.told old ≡ Some world → means.told new ≡ Some (with_writer_view world by (means.view new after)))
      → IsQuiet means old seat new after
  quiet_noted old seat new after by call step is tells = record {
    step = step;
    asked = ap (λ (v : WriterView). v.asked) is;
    claimed = ap (λ (v : WriterView). v.claimed) is;
    stamped = ap (λ (v : WriterView). v.stamped) is;
    chunks = subst (λ (chunks : List BegunChunk). KeepsChunks (means.view old seat).begun chunks) (sym (ap (λ (v : WriterView). v.begun) is)) (keeps_same (means.view old seat).begun);
    frees_none = frees_noted means.told old new by (means.view new after) tells;
  }
