-- The first buffers: the sequence of a writer is in one of them, or in none.
use Rattle.std.proofs.Common.{◌≡◌, ◌∙◌, ℕ, zero, suc, ◌+◌, ◌-◌, ◌<◌, ◌≤◌, ◌⊎◌, Bool, true, false, ◌||◌, List, [], ◌∷◌, length, Some, refl, sym, ap, subst, arith, inl, inr}
use Rattle.std.specs.Prelude.{cond, ◌==◌, slice_get}
use Rattle.std.proofs.lemmas.Bool.{false≢true, cases_lt, eqb-true, eq-eqb, ne_eqb}
use Rattle.trace_base.proofs.Lists.{some_there}
use Rattle.trace_base.specs.declared.policy.FullPolicy.{FullPolicy}
use Rattle.trace_base.specs.declared.policy.WriterSpec.{WriterSpec}
use Rattle.page_geometry.specs.Sizes.{record_size}
use Rattle.trace_model.specs.Sequences.{Sequence, fresh, IsFresh, sequence_in, is_known}
use Rattle.trace_model.specs.Buffers.{Buffer, empty_buffer}
use Rattle.trace_model.proofs.SequenceLemmas.{fresh_is}
use Rattle.chunk_plain.specs.Setup.{Setup, size_of}
use Rattle.world_model.specs.FirstBuffers.{BufferSpec, sequences_from, first_buffers}
use Rattle.world_model.proofs.ProjectLemmas.{Without, Once, Only, without_other}

-- the sequence is one of so many writers, of which the first has this place
abbrev pub IsAmong : (place count q : ℕ) → Type 0
IsAmong place count q = (place + 2 ≤ q) × (q < place + count + 2)

-- a buffer has sequences of writers alone
pub known_range : (setup : Setup) (n place : ℕ) (specs : List WriterSpec) (q : ℕ) → is_known (sequences_from setup n place specs) q ≡ true → IsAmong place (length specs) q
known_range setup n place [] q h = absurd (false≢true h)
known_range setup n place (spec ∷ specs) q h = step (spec.buffer == n) h (known_range setup n (suc place) specs q)
  where
    behind : IsAmong (suc place) (length specs) q → IsAmong place (length (spec ∷ specs)) q
    behind range = let low = range.0 in let high = range.1 in (omega (arith, low), omega (arith, high))

    here : (x : Bool) → (place + 2 == q) ≡ x → (x || is_known (sequences_from setup n (suc place) specs) q) ≡ true
        → (is_known (sequences_from setup n (suc place) specs) q ≡ true → IsAmong (suc place) (length specs) q) → IsAmong place (length (spec ∷ specs)) q
    here true e k rest = let same = eqb-true (place + 2) q e in (omega (arith, same), omega (arith, same))
    here false e k rest = behind (rest k)

    step : (x : Bool) → is_known (cond x (fresh (place + 2) (record_size (size_of setup spec.producer)) spec.from ∷ sequences_from setup n (suc place) specs) (sequences_from setup n (suc place) specs)) q ≡ true
        → (is_known (sequences_from setup n (suc place) specs) q ≡ true → IsAmong (suc place) (length specs) q) → IsAmong place (length (spec ∷ specs)) q
    step true k rest = here (place + 2 == q) refl k rest
    step false k rest = behind (rest k)

not_known : (setup : Setup) (n place : ℕ) (specs : List WriterSpec) (q : ℕ) → q < place + 2 → is_known (sequences_from setup n place specs) q ≡ false
not_known setup n place specs q low = step (is_known (sequences_from setup n place specs) q) refl
  where
    step : (x : Bool) → is_known (sequences_from setup n place specs) q ≡ x → x ≡ false
    step true e = let range = known_range setup n place specs q e in let least = range.0 in absurd (omega (arith, low, least))
    step false e = refl

-- The buffer has the sequence of the writer with this spec, as it is at first, or hasn't it.
pub record IsSet (setup : Setup) (n q size from : ℕ) (sequences : List Sequence) (named : Bool) : Type 0 where
  pub known : is_known sequences q ≡ named
  pub start : named ≡ true → IsFresh q size (sequence_in sequences q)
  pub from_is : named ≡ true → (sequence_in sequences q).from ≡ from

set_from : (setup : Setup) (n place : ℕ) (specs : List WriterSpec) (i : ℕ) (spec : WriterSpec) → slice_get specs i ≡ Some spec
    → IsSet setup n (place + i + 2) (record_size (size_of setup spec.producer)) spec.from (sequences_from setup n place specs) (spec.buffer == n)
set_from setup n place [] i spec get = absurd (cc)
set_from setup n place (first ∷ specs) zero spec get =
    let same : first ≡ spec = cc in
    let at : place + 2 ≡ place + 0 + 2 = omega arith in
    subst (λ (q : ℕ). IsSet setup n q (record_size (size_of setup spec.producer)) spec.from (sequences_from setup n place (first ∷ specs)) (spec.buffer == n)) at
    (subst (λ (s : WriterSpec). IsSet setup n (place + 2) (record_size (size_of setup s.producer)) s.from (sequences_from setup n place (first ∷ specs)) (s.buffer == n)) same
    (step (first.buffer == n)))
  where
    here : sequence_in (fresh (place + 2) (record_size (size_of setup first.producer)) first.from ∷ sequences_from setup n (suc place) specs) (place + 2)
        ≡ fresh (place + 2) (record_size (size_of setup first.producer)) first.from
    here =
        ap (λ (b : Bool). cond b (fresh (place + 2) (record_size (size_of setup first.producer)) first.from) (sequence_in (sequences_from setup n (suc place) specs) (place + 2)))
        (eq-eqb (place + 2) (place + 2) refl)

    step : (x : Bool)
        → IsSet setup n (place + 2) (record_size (size_of setup first.producer)) first.from (cond x (fresh (place + 2) (record_size (size_of setup first.producer)) first.from ∷ sequences_from setup n (suc place) specs) (sequences_from setup n (suc place) specs)) x
    step true = record {
      known = ap (λ (b : Bool). b || is_known (sequences_from setup n (suc place) specs) (place + 2)) (eq-eqb (place + 2) (place + 2) refl);
      start = λ e. fresh_is (place + 2) (record_size (size_of setup first.producer)) first.from _ here;
      from_is = λ e. ap (λ (s : Sequence). s.from) here;
    }
    step false = record {
      known = not_known setup n (suc place) specs (place + 2) (omega arith);
      start = λ e. absurd (false≢true e);
      from_is = λ e. absurd (false≢true e);
    }
set_from setup n place (first ∷ specs) (suc i) spec get =
    let at : suc place + i + 2 ≡ place + suc i + 2 = omega arith in
    let rest = subst (λ (q : ℕ). IsSet setup n q (record_size (size_of setup spec.producer)) spec.from (sequences_from setup n (suc place) specs) (spec.buffer == n)) at
    (set_from setup n (suc place) specs i spec get) in
    let apart : (place + 2 == place + suc i + 2) ≡ false = ne_eqb (place + 2) (place + suc i + 2) (λ e. omega (arith, e)) in
    step (first.buffer == n) rest apart
  where
    behind : (place + 2 == place + suc i + 2) ≡ false
        → sequence_in (fresh (place + 2) (record_size (size_of setup first.producer)) first.from ∷ sequences_from setup n (suc place) specs) (place + suc i + 2)
        ≡ sequence_in (sequences_from setup n (suc place) specs) (place + suc i + 2)
    behind apart =
        ap (λ (b : Bool). cond b (fresh (place + 2) (record_size (size_of setup first.producer)) first.from) (sequence_in (sequences_from setup n (suc place) specs) (place + suc i + 2)))
        apart

    step : (x : Bool) → IsSet setup n (place + suc i + 2) (record_size (size_of setup spec.producer)) spec.from (sequences_from setup n (suc place) specs) (spec.buffer == n)
        → (place + 2 == place + suc i + 2) ≡ false
        → IsSet setup n (place + suc i + 2) (record_size (size_of setup spec.producer)) spec.from (cond x (fresh (place + 2) (record_size (size_of setup first.producer)) first.from ∷ sequences_from setup n (suc place) specs) (sequences_from setup n (suc place) specs)) (spec.buffer == n)
    step true rest apart = record {
      known = ap (λ (b : Bool). b || is_known (sequences_from setup n (suc place) specs) (place + suc i + 2)) apart ∙ rest.known;
      start = λ e. subst (IsFresh (place + suc i + 2) (record_size (size_of setup spec.producer))) (sym (behind apart)) (rest.start e);
      from_is = λ e. ap (λ (s : Sequence). s.from) (behind apart) ∙ rest.from_is e;
    }
    step false rest apart = rest

-- One buffer has the sequence, as it is at first; or none has it.
pub record IsOnce (q size from : ℕ) (bs : List Buffer) : Type 0 where
  pub room : ℕ
  pub policy : FullPolicy
  pub sequences : List Sequence
  pub known : is_known sequences q ≡ true
  pub start : IsFresh q size (sequence_in sequences q)
  pub from_is : (sequence_in sequences q).from ≡ from
  pub once : Once q (empty_buffer room policy sequences) bs

module _ (setup : Setup) (place : ℕ) (spec : WriterSpec) (get : slice_get setup.writers place ≡ Some spec) where
  pub set_at : (n : ℕ) → IsSet setup n (place + 2) (record_size (size_of setup spec.producer)) spec.from (sequences_from setup n 0 setup.writers) (spec.buffer == n)
  set_at n =
      let at : 0 + place + 2 ≡ place + 2 = omega arith in
      subst (λ (q : ℕ). IsSet setup n q (record_size (size_of setup spec.producer)) spec.from (sequences_from setup n 0 setup.writers) (spec.buffer == n)) at
      (set_from setup n 0 setup.writers place spec get)

  -- buffers behind the one that the writer names
  none_behind : (n : ℕ) (buffers : List BufferSpec) → spec.buffer < n → Without (place + 2) (first_buffers setup n buffers)
  none_behind n [] low = tt
  none_behind n (buffer ∷ buffers) low =
      let apart : (spec.buffer == n) ≡ false = ne_eqb spec.buffer n (λ e. omega (arith, e, low)) in
      let is = set_at n in
      (is.known ∙ apart, none_behind (suc n) buffers (omega (arith, low)))

  pub in_one : (n : ℕ) (buffers : List BufferSpec)
      → IsOnce (place + 2) (record_size (size_of setup spec.producer)) spec.from (first_buffers setup n buffers) ⊎ Without (place + 2) (first_buffers setup n buffers)
  in_one n [] = inr tt
  in_one n (buffer ∷ buffers) = step (spec.buffer == n) refl (in_one (suc n) buffers)
    where
      more : (spec.buffer == n) ≡ false
          → IsOnce (place + 2) (record_size (size_of setup spec.producer)) spec.from (first_buffers setup (suc n) buffers) ⊎ Without (place + 2) (first_buffers setup (suc n) buffers)
          → IsOnce (place + 2) (record_size (size_of setup spec.producer)) spec.from (first_buffers setup n (buffer ∷ buffers)) ⊎ Without (place + 2) (first_buffers setup n (buffer ∷ buffers))
      more e (inl h) = inl (record {
        room = h.room;
        policy = h.policy;
        sequences = h.sequences;
        known = h.known;
        start = h.start;
        from_is = h.from_is;
        once = inr ((set_at n).known ∙ e, h.once);
      })
      more e (inr h) = inr ((set_at n).known ∙ e, h)

      step : (x : Bool) → (spec.buffer == n) ≡ x
          → IsOnce (place + 2) (record_size (size_of setup spec.producer)) spec.from (first_buffers setup (suc n) buffers) ⊎ Without (place + 2) (first_buffers setup (suc n) buffers)
          → IsOnce (place + 2) (record_size (size_of setup spec.producer)) spec.from (first_buffers setup n (buffer ∷ buffers)) ⊎ Without (place + 2) (first_buffers setup n (buffer ∷ buffers))
      step true e rest =
          let same = eqb-true spec.buffer n e in
          inl (record {
            room = buffer.size;
            policy = buffer.policy;
            sequences = sequences_from setup n 0 setup.writers;
            known = (set_at n).known ∙ e;
            start = (set_at n).start e;
            from_is = (set_at n).from_is e;
            once = inl (refl, (set_at n).known ∙ e, none_behind (suc n) buffers (omega (arith, same)));
          })
      step false e rest = more e rest

pub only_writers : (setup : Setup) (n : ℕ) (buffers : List BufferSpec) → Only (λ s. (2 ≤ s) × (s < length setup.writers + 2)) (first_buffers setup n buffers)
only_writers setup n [] = tt
only_writers setup n (buffer ∷ buffers) = ((λ s known. let range = known_range setup n 0 setup.writers s known in let low = range.0 in let high = range.1 in (omega (arith, low), omega (arith, high))), only_writers setup (suc n) buffers)

-- as many buffers as were named
pub first_long : (setup : Setup) (n : ℕ) (specs : List BufferSpec) → length (first_buffers setup n specs) ≡ length specs
first_long setup n [] = refl
first_long setup n (spec ∷ specs) = ap suc (first_long setup (suc n) specs)

-- each sequence is in one buffer, or in none
pub once_or_none : (setup : Setup) (buffers : List BufferSpec) (q : ℕ)
    → ((b : Buffer) × Once q b (first_buffers setup 1 buffers)) ⊎ Without q (first_buffers setup 1 buffers)
once_or_none setup buffers q = by_low (cases_lt q 2)
  where
    none_here : (((2 ≤ q) × (q < length setup.writers + 2)) → ⊥) → Without q (first_buffers setup 1 buffers)
    none_here = without_other (λ s. (2 ≤ s) × (s < length setup.writers + 2)) (first_buffers setup 1 buffers) (only_writers setup 1 buffers) q

    by_place : (place size from : ℕ) → place + 2 ≡ q → IsOnce (place + 2) size from (first_buffers setup 1 buffers) ⊎ Without (place + 2) (first_buffers setup 1 buffers)
        → ((b : Buffer) × Once q b (first_buffers setup 1 buffers)) ⊎ Without q (first_buffers setup 1 buffers)
    by_place place size from same (inl one) =
        let b = empty_buffer one.room one.policy one.sequences in
        inl (b, subst (λ (n : ℕ). Once n b (first_buffers setup 1 buffers)) same one.once)
    by_place place size from same (inr none) = inr (subst (λ (n : ℕ). Without n (first_buffers setup 1 buffers)) same none)

    by_high : 2 ≤ q → (q < length setup.writers + 2) ⊎ (length setup.writers + 2 ≤ q)
        → ((b : Buffer) × Once q b (first_buffers setup 1 buffers)) ⊎ Without q (first_buffers setup 1 buffers)
    by_high least (inl high) =
        let there = some_there setup.writers (q - 2) (omega (arith, least, high)) in
        by_place (q - 2) (record_size (size_of setup there.0.producer)) there.0.from (omega (arith, least)) (in_one setup (q - 2) there.0 there.1 1 buffers)
    by_high least (inr high) = inr (none_here (λ range. let most = range.1 in omega (arith, most, high)))

    by_low : (q < 2) ⊎ (2 ≤ q) → ((b : Buffer) × Once q b (first_buffers setup 1 buffers)) ⊎ Without q (first_buffers setup 1 buffers)
    by_low (inl low) = inr (none_here (λ range. let least = range.0 in omega (arith, low, least)))
    by_low (inr least) = by_high least (cases_lt q (length setup.writers + 2))
