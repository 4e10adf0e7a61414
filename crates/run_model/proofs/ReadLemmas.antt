-- The reads at the end of a run: each buffer is read without limit, behind all that came before.
use Rattle.std.proofs.Common.{◌≡◌, ◌∙◌, ℕ, zero, suc, ◌-◌, ◌<◌, ◌≤◌, ◌⊎◌, List, [], ◌∷◌, ◌++◌, refl, sym, ap, subst, arith, inl, inr, append_assoc, append-nil}
use Rattle.std.specs.List.{flat_map}
use Rattle.std.proofs.lemmas.Bool.{cases_lt}
use Rattle.std.proofs.lemmas.Grind.{flat_map-append}
use Rattle.trace_model.specs.Buffers.{Buffer}
use Rattle.trace_model.specs.Counts.{last_count}
use Rattle.trace_model.specs.History.{Event, buffers_after}
use Rattle.chunk_plain.specs.Setup.{Setup}
use Rattle.chunk_plain.specs.Views.{Noted, Arrive, Partial, Patched, Closed, Read, Commit, ServiceView}
use Rattle.chunk_plain.specs.Histories.{happened, history_of}
use Rattle.service_core.specs.Reading.{reads_in, noted_read, sequences_to}
use Rattle.service_core.specs.Routing.{buffer_at}
use Rattle.service_core.specs.Taking.{noted_more}
use Rattle.replay_model.proofs.PhaseLemmas.{AreReads, are_reads_append, reads_are_reads, reads_happen}
use Rattle.run_model.specs.Settled.{ReadsTo}

-- ---- the history behind more notes

happened_same : (view : ServiceView) (notes : List Noted) (note : Noted) → happened (noted_more view notes) note ≡ happened view note
happened_same view notes (Arrive sequence chunk_id) = refl
happened_same view notes (Partial sequence chunk_id count) = refl
happened_same view notes (Patched sequence chunk_id) = refl
happened_same view notes (Closed sequence) = refl
happened_same view notes (Read sequence limit) = refl
happened_same view notes (Commit place) = refl

all_happened_same : (view : ServiceView) (notes some : List Noted) → flat_map (happened (noted_more view notes)) some ≡ flat_map (happened view) some
all_happened_same view notes [] = refl
all_happened_same view notes (note ∷ some) =
    ap (λ (events : List Event). events ++ flat_map (happened (noted_more view notes)) some) (happened_same view notes note)
    ∙ ap (λ (events : List Event). happened view note ++ events) (all_happened_same view notes some)

pub history_read : (view : ServiceView) (reads : List Event) → AreReads reads → history_of (noted_more view (flat_map noted_read reads)) ≡ history_of view ++ reads
history_read view reads are =
    let notes : List Noted = flat_map noted_read reads in
    all_happened_same view notes (view.events ++ notes)
    ∙ flat_map-append (happened view) view.events notes
    ∙ ap (λ (events : List Event). history_of view ++ events) (reads_happen view reads are)

-- ---- the reads of all buffers

-- what the reads of the buffers up to this number come to
pub record IsReadOut (setup : Setup) (first : List Buffer) (number : ℕ) (reads : List Event) (old new : ServiceView) : Type 0 where
  pub are : AreReads reads
  pub view : new ≡ noted_more old (flat_map noted_read reads)
  pub history : history_of new ≡ history_of old ++ reads
  pub each : (i : ℕ) → i < number → (before : List Event) × (later : List Event) × AreReads before
      × (reads ≡ before ++ (reads_in setup (buffers_after first (history_of old ++ before)) (suc i) last_count ++ later))

read_more : (setup : Setup) (first : List Buffer) (number : ℕ) (earlier : List Event) (old between : ServiceView) → IsReadOut setup first number earlier old between
    → IsReadOut setup first (suc number) (earlier ++ reads_in setup (buffers_after first (history_of between)) (suc number) last_count) old
    (noted_more between (flat_map noted_read (reads_in setup (buffers_after first (history_of between)) (suc number) last_count)))
read_more setup first number earlier old between out =
    record { are = all_are; view = all_view; history = ap history_of all_view ∙ history_read old (earlier ++ here) all_are; each = each_of }
  where
    here : List Event
    here = reads_in setup (buffers_after first (history_of between)) (suc number) last_count

    here_are : AreReads here
    here_are = reads_are_reads last_count (buffer_at (buffers_after first (history_of between)) (suc number - 1)) (sequences_to (suc number) 0 setup.writers)

    all_are : AreReads (earlier ++ here)
    all_are = are_reads_append earlier here out.are here_are

    all_view : noted_more between (flat_map noted_read here) ≡ noted_more old (flat_map noted_read (earlier ++ here))
    all_view =
        ap (λ (view : ServiceView). noted_more view (flat_map noted_read here)) out.view
        ∙ ap (λ (notes : List Noted). record old { events = notes }) (append_assoc old.events (flat_map noted_read earlier) (flat_map noted_read here))
        ∙ ap (λ (notes : List Noted). noted_more old notes) (sym (flat_map-append noted_read earlier here))

    each_of : (i : ℕ) → i < suc number → (before : List Event) × (later : List Event) × AreReads before
        × (earlier ++ here ≡ before ++ (reads_in setup (buffers_after first (history_of old ++ before)) (suc i) last_count ++ later))
    each_of i low = by_number (cases_lt i number)
      where
        by_number : (i < number) ⊎ (number ≤ i) → (before : List Event) × (later : List Event) × AreReads before
            × (earlier ++ here ≡ before ++ (reads_in setup (buffers_after first (history_of old ++ before)) (suc i) last_count ++ later))
        by_number (inl below) =
            let one = out.each i below in
            let reads : List Event = reads_in setup (buffers_after first (history_of old ++ one.0)) (suc i) last_count in (
              one.0,
              one.1 ++ here,
              one.2,
              ap (λ (events : List Event). events ++ here) one.3 ∙ append_assoc one.0 (reads ++ one.1) here
                  ∙ ap (λ (events : List Event). one.0 ++ events) (append_assoc reads one.1 here),
            )
        by_number (inr last) =
            let same : number ≡ i = omega (arith, low, last) in (
              earlier,
              [],
              out.are,
              ap (λ (events : List Event). earlier ++ events) (sym (append-nil here))
                  ∙ ap (λ (history : List Event). earlier ++ (reads_in setup (buffers_after first history) (suc number) last_count ++ [])) out.history
                  ∙ ap (λ (n : ℕ). earlier ++ (reads_in setup (buffers_after first (history_of old ++ earlier)) (suc n) last_count ++ [])) same,
            )

pub read_out : (setup : Setup) (first : List Buffer) (number : ℕ) (reads : List Event) (old new : ServiceView) → ReadsTo setup first number reads old new
    → IsReadOut setup first number reads old new
read_out setup first zero reads old new is =
    subst (λ (events : List Event). IsReadOut setup first 0 events old new) (sym is.0)
    (subst (IsReadOut setup first 0 [] old) (sym is.1)
    (record {
      are = tt;
      view = ap (λ (notes : List Noted). record old { events = notes }) (sym (append-nil old.events));
      history = sym (append-nil (history_of old));
      each = λ i low. absurd (omega (arith, low));
    }))
read_out setup first (suc number) reads old new is =
    subst (λ (events : List Event). IsReadOut setup first (suc number) events old new) (sym is.3.0)
    (subst (IsReadOut setup first (suc number) (is.1 ++ reads_in setup (buffers_after first (history_of is.0)) (suc number) last_count) old) (sym is.3.1)
    (read_more setup first number is.1 old is.0 (read_out setup first number is.1 old is.0 is.2)))

-- what was noted before the reads stands for the same behind them
pub history_before : (setup : Setup) (first : List Buffer) (number : ℕ) (reads : List Event) (old new : ServiceView) → IsReadOut setup first number reads old new
    → flat_map (happened new) old.events ≡ history_of old
history_before setup first number reads old new out =
    ap (λ (view : ServiceView). flat_map (happened view) old.events) out.view ∙ all_happened_same old (flat_map noted_read reads) old.events
