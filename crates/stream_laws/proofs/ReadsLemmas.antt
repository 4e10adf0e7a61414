-- The reading of all buffers has that of each, and it names each sequence of the buffer.
use Rattle.std.proofs.Common.{◌≡◌, ◌∙◌, ℕ, zero, suc, ◌+◌, ◌<◌, ◌≤◌, Bool, true, false, cond, ◌||◌, List, [], ◌∷◌, ◌++◌, length, Some, refl, sym, ap, arith, append_assoc}
use Rattle.std.specs.Prelude.{◌==◌, slice_get}
use Rattle.std.proofs.lemmas.Bool.{eq-eqb}
use Rattle.trace_base.specs.declared.limits.TheConstants.{MAX_NUMBER}
use Rattle.trace_base.specs.declared.policy.WriterSpec.{WriterSpec}
use Rattle.trace_model.specs.Buffers.{Buffer}
use Rattle.trace_model.specs.History.{Event, buffers_after}
use Rattle.trace_model.specs.Sequences.{is_among}
use Rattle.chunk_plain.specs.Setup.{Setup, sequence_of}
use Rattle.service_core.specs.Reading.{reads_in, sequences_to}
use Rattle.service_core.proofs.RouteLemmas.{buffers_append, buffers_none}
use Rattle.stream_producer.specs.History.{reads_from}
use Rattle.stream_laws.proofs.EventLemmas.{AreReads, buffer_reads, reads_both}

-- these are reads, among them those of the buffer that is so many behind the first one
pub record ReadsOf (setup : Setup) (buffers : List Buffer) (number index : ℕ) (events : List Event) : Type 0 where
  pub before : List Event
  pub later : List Event
  pub reads : AreReads before
  pub cut : events ≡ before ++ (reads_in setup (buffers_after buffers before) (number + index) MAX_NUMBER ++ later)

pub reads_of_each : (setup : Setup) (buffers : List Buffer) (number count index : ℕ) → index < count
    → ReadsOf setup buffers number index (reads_from setup buffers number count)
reads_of_each setup buffers number zero index below = absurd (omega (arith, below))
reads_of_each setup buffers number (suc count) zero below =
    let rest : List Event = reads_from setup (buffers_after buffers (reads_in setup buffers number MAX_NUMBER)) (suc number) count in
    let same : number ≡ number + 0 = omega arith in
    record {
      before = [];
      later = rest;
      reads = tt;
      cut = ap (λ (bs : List Buffer). reads_in setup bs number MAX_NUMBER ++ rest) (sym (buffers_none buffers))
          ∙ ap (λ (n : ℕ). reads_in setup (buffers_after buffers []) n MAX_NUMBER ++ rest) same;
    }
reads_of_each setup buffers number (suc count) (suc index) below =
    let first : List Event = reads_in setup buffers number MAX_NUMBER in
    let others = reads_of_each setup (buffers_after buffers first) (suc number) count index (omega (arith, below)) in
    let same : suc number + index ≡ number + suc index = omega arith in
    record {
      before = first ++ others.before;
      later = others.later;
      reads = reads_both first others.before (buffer_reads setup buffers number MAX_NUMBER) others.reads;
      cut = ap (λ (es : List Event). first ++ es) others.cut
          ∙ sym (append_assoc first others.before
          (reads_in setup (buffers_after (buffers_after buffers first) others.before) (suc number + index) MAX_NUMBER ++ others.later))
          ∙ ap (λ (bs : List Buffer). (first ++ others.before) ++ (reads_in setup bs (suc number + index) MAX_NUMBER ++ others.later))
          (sym (buffers_append buffers first others.before))
          ∙ ap (λ (n : ℕ). (first ++ others.before)
          ++ (reads_in setup (buffers_after buffers (first ++ others.before)) n MAX_NUMBER ++ others.later))
          same;
    }

-- a writer's sequence is one of those of the buffer that it names
pub named_among : (number place : ℕ) (specs : List WriterSpec) (index : ℕ) (spec : WriterSpec) (q : ℕ) → slice_get specs index ≡ Some spec
    → spec.buffer ≡ number → sequence_of (place + index) ≡ q → is_among q (sequences_to number place specs) ≡ true
named_among number place [] index spec q there is own = absurd (cc)
named_among number place (first ∷ specs) zero spec q there is own =
    let same : first ≡ spec = cc in
    let named : (first.buffer == number) ≡ true = eq-eqb first.buffer number (ap (λ (s : WriterSpec). s.buffer) same ∙ is) in
    let here : (sequence_of place == q) ≡ true = eq-eqb (sequence_of place) q (omega (arith, own)) in
    ap (λ (b : Bool). is_among q
    (cond b (sequence_of place ∷ sequences_to number (suc place) specs) (sequences_to number (suc place) specs)))
    named
    ∙ ap (λ (b : Bool). b || is_among q (sequences_to number (suc place) specs)) here
named_among number place (first ∷ specs) (suc index) spec q there is own =
    by_named (first.buffer == number) (named_among number (suc place) specs index spec q there is (omega (arith, own)))
  where
    by_here : (b : Bool) → is_among q (sequences_to number (suc place) specs) ≡ true
        → (b || is_among q (sequences_to number (suc place) specs)) ≡ true
    by_here true rest = refl
    by_here false rest = rest

    by_named : (b : Bool) → is_among q (sequences_to number (suc place) specs) ≡ true
        → is_among q (cond b (sequence_of place ∷ sequences_to number (suc place) specs) (sequences_to number (suc place) specs)) ≡ true
    by_named true rest = by_here (sequence_of place == q) rest
    by_named false rest = rest

-- a buffer has no more sequences than there are writers
pub named_few : (number place : ℕ) (specs : List WriterSpec) → length (sequences_to number place specs) ≤ length specs
named_few number place [] = omega arith
named_few number place (spec ∷ specs) = by_named (spec.buffer == number) (named_few number (suc place) specs)
  where
    by_named : (b : Bool) → length (sequences_to number (suc place) specs) ≤ length specs
        → length (cond b (sequence_of place ∷ sequences_to number (suc place) specs) (sequences_to number (suc place) specs))
        ≤ suc (length specs)
    by_named true rest = omega (arith, rest)
    by_named false rest = omega (arith, rest)
