-- Behind the closes a sequence is closed, and stays so.
use Rattle.std.proofs.Common.{◌≡◌, ◌∙◌, ℕ, zero, suc, ◌+◌, ◌<◌, Bool, true, false, cond, List, [], ◌∷◌, length, refl, sym, ap, subst, arith}
use Rattle.std.specs.Prelude.{◌==◌}
use Rattle.trace_base.specs.declared.policy.WriterSpec.{WriterSpec}
use Rattle.trace_model.specs.Buffers.{Buffer, BufferRecord}
use Rattle.trace_model.specs.History.{Event, Arrives, ArrivesInPart, Patched, Committed, Closed, Read, buffer_after, state_after}
use Rattle.trace_model.specs.Patches.{closed_buffer, closed_sequence}
use Rattle.trace_model.specs.Sequences.{Sequence, changed_at, is_known, sequence_in}
use Rattle.trace_model.proofs.SequenceLemmas.{changed_here}
use Rattle.trace_model.proofs.ShapeLemmas.{closed_after}
use Rattle.delivery_laws.proofs.AskLemmas.{known_after}
use Rattle.chunk_plain.specs.Setup.{sequence_of}
use Rattle.stream_producer.specs.History.{closes_from}
use Rattle.stream_laws.proofs.EventLemmas.{AreReads}

-- events change no buffer's sequences
pub known_on : (b : Buffer) (events : List Event) (q : ℕ) → is_known (state_after b events).sequences q ≡ is_known b.sequences q
known_on b [] q = refl
known_on b (event ∷ events) q = known_on (buffer_after b event) events q ∙ known_after b event q

-- what is closed stays so where another one is closed
changed_shut : (p q : ℕ) (live : List BufferRecord) (states : List Sequence) → (sequence_in states q).closed ≡ true
    → (sequence_in (changed_at p (closed_sequence live) states) q).closed ≡ true
changed_shut p q live [] is = is
changed_shut p q live (state ∷ states) is = by_both (state.number == p) (state.number == q) refl (changed_shut p q live states) is
  where
    others : List Sequence
    others = changed_at p (closed_sequence live) states

    by_both : (here own : Bool) → (state.number == q) ≡ own
        → ((sequence_in states q).closed ≡ true → (sequence_in others q).closed ≡ true)
        → (cond own state (sequence_in states q)).closed ≡ true
        → (cond ((cond here (closed_sequence live state) state).number == q) (cond here (closed_sequence live state) state)
        (sequence_in others q)).closed ≡ true
    by_both true true e rest is = ap (λ (b : Bool). (cond b (closed_sequence live state) (sequence_in others q)).closed) e
    by_both true false e rest is = ap (λ (b : Bool). (cond b (closed_sequence live state) (sequence_in others q)).closed) e ∙ rest is
    by_both false true e rest is = ap (λ (b : Bool). (cond b state (sequence_in others q)).closed) e ∙ is
    by_both false false e rest is = ap (λ (b : Bool). (cond b state (sequence_in others q)).closed) e ∙ rest is

module _ (q : ℕ) where
  -- the sequence is closed
  abbrev pub IsShut : Buffer → Type 0
  IsShut b = (sequence_in b.sequences q).closed ≡ true

  shut_by : (b : Buffer) → is_known b.sequences q ≡ true → IsShut (buffer_after b (Closed q))
  shut_by b known =
      ap (λ (x : Bool). (sequence_in (cond x (cond (sequence_in b.sequences q).closed b (closed_buffer b q)) b).sequences q).closed) known
      ∙ by_closed (sequence_in b.sequences q).closed refl
    where
      by_closed : (x : Bool) → (sequence_in b.sequences q).closed ≡ x → IsShut (cond x b (closed_buffer b q))
      by_closed true e = e
      by_closed false e = ap (λ (s : Sequence). s.closed) (changed_here q (closed_sequence b.live) (λ s. refl) b.sequences known)

  shut_on : (b : Buffer) (p : ℕ) → IsShut b → IsShut (buffer_after b (Closed p))
  shut_on b p is = by_known (is_known b.sequences p)
    where
      by_closed : (x : Bool) → IsShut (cond x b (closed_buffer b p))
      by_closed true = is
      by_closed false = changed_shut p q b.live b.sequences is

      by_known : (x : Bool) → IsShut (cond x (cond (sequence_in b.sequences p).closed b (closed_buffer b p)) b)
      by_known true = by_closed (sequence_in b.sequences p).closed
      by_known false = is

  closes_keep : (place : ℕ) (specs : List WriterSpec) (b : Buffer) → IsShut b → IsShut (state_after b (closes_from place specs))
  closes_keep place [] b is = is
  closes_keep place (spec ∷ specs) b is =
      closes_keep (suc place) specs (buffer_after b (Closed (sequence_of place))) (shut_on b (sequence_of place) is)

  -- each sequence of a writer is closed by the closes
  pub closes_shut : (place : ℕ) (specs : List WriterSpec) (index : ℕ) (b : Buffer) → index < length specs → sequence_of (place + index) ≡ q
      → is_known b.sequences q ≡ true → IsShut (state_after b (closes_from place specs))
  closes_shut place [] index b below is known = absurd (omega (arith, below))
  closes_shut place (spec ∷ specs) zero b below is known =
      let own : sequence_of place ≡ q = omega (arith, is) in
      closes_keep (suc place) specs (buffer_after b (Closed (sequence_of place)))
      (subst (λ (p : ℕ). IsShut (buffer_after b (Closed p))) (sym own) (shut_by b known))
  closes_shut place (spec ∷ specs) (suc index) b below is known =
      closes_shut (suc place) specs index (buffer_after b (Closed (sequence_of place))) (omega (arith, below)) (omega (arith, is))
      (known_after b (Closed (sequence_of place)) q ∙ known)

  -- and reads open none
  pub reads_shut : (events : List Event) (b : Buffer) → AreReads events → IsShut b → IsShut (state_after b events)
  reads_shut [] b are is = is
  reads_shut (Arrives p chunk_id chunk ∷ events) b are is = absurd are
  reads_shut (ArrivesInPart p chunk_id chunk ∷ events) b are is = absurd are
  reads_shut (Patched p patches ∷ events) b are is = absurd are
  reads_shut (Committed image patches ∷ events) b are is = absurd are
  reads_shut (Closed p ∷ events) b are is = absurd are
  reads_shut (Read p limit ∷ events) b are is =
      reads_shut events (buffer_after b (Read p limit)) are (closed_after b (Read p limit) q refl ∙ is)
