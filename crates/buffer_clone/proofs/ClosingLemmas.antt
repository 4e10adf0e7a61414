-- Closing the sequences of a buffer one by one, and giving each a new consumer.
use Rattle.std.proofs.Common.{◌≡◌, ◌∙◌, ℕ, ◌+◌, ◌<◌, ◌≤◌, ◌==◌, ◌||◌, Bool, true, false, cond, List, [], ◌∷◌, ◌++◌, length, map, take, get_or, refl, sym, ap, ap₂, arith, eq-eqb, append_assoc}
use Rattle.std.proofs.lemmas.Bool.{or_right}
use Rattle.std.proofs.lemmas.List.{take_more, take_all, map-append}
use Rattle.trace_model.specs.Buffers.{Buffer}
use Rattle.trace_model.specs.History.{Closed, state_after, buffer_after}
use Rattle.trace_model.specs.Patches.{with_close, closed_buffer, closed_sequence}
use Rattle.trace_model.specs.Sequences.{Sequence, is_known, is_among, sequence_in, changed_at}
use Rattle.trace_buffer.specs.Clones.{none_delivered, with_none_delivered, numbers_of, all_none_delivered}
use Rattle.buffer_clone.proofs.NumberLemmas.{numbers_in, numbers_changed, known_at, state_parts}

-- Closes

pub close_numbers : (b : Buffer) (q : ℕ) → numbers_of (with_close b q) ≡ numbers_of b
close_numbers b q = of (sequence_in b.sequences q).closed
  where
    of : (x : Bool) → numbers_of (cond x b (closed_buffer b q)) ≡ numbers_of b
    of true = refl
    of false = numbers_changed q (closed_sequence b.live) (λ s. refl) b.sequences

-- so many of the sequences are closed
pub record HasClosed (old now : Buffer) (many : ℕ) : Type 0 where
  pub now_is : now ≡ state_after old (map Closed (take many (numbers_of old)))
  pub same : numbers_of now ≡ numbers_of old

pub closed_one : (old now new : Buffer) (many d q : ℕ) → HasClosed old now many → many < length (numbers_of old) → q ≡ get_or (numbers_of old) many d
    → new ≡ with_close now q → HasClosed old new (many + 1)
closed_one old now new many d q has inside q_is is =
    let numbers : List ℕ = numbers_of old in
    let known : is_known now.sequences q ≡ true = known_at now numbers many d q has.same inside q_is in
    let one : buffer_after now (Closed q) ≡ with_close now q = ap (λ x. cond x (with_close now q) now) known in
    record {
      now_is = is
          ∙ sym one
          ∙ ap (λ (b : Buffer). state_after b (Closed q ∷ [])) has.now_is
          ∙ sym (state_parts old (map Closed (take many numbers)) (Closed q ∷ []))
          ∙ ap (λ n. state_after old (map Closed (take many numbers) ++ Closed n ∷ [])) q_is
          ∙ ap (state_after old) (sym (map-append Closed (take many numbers) (get_or numbers many d ∷ [])))
          ∙ ap (λ (ns : List ℕ). state_after old (map Closed ns)) (sym (take_more numbers many d inside));
      same = ap numbers_of is ∙ close_numbers now q ∙ has.same;
    }

-- New consumers

-- these sequences have one
abbrev renewed : List ℕ → Sequence → Sequence
renewed numbers s = cond (is_among s.number numbers) (none_delivered s) s

renew_none : (ss : List Sequence) → ss ≡ map (renewed []) ss
renew_none [] = refl
renew_none (s ∷ ss) = ap (λ ts. s ∷ ts) (renew_none ss)

among_last : (n q : ℕ) (numbers : List ℕ) → is_among n (numbers ++ q ∷ []) ≡ (is_among n numbers || (q == n))
among_last n q [] = of (q == n)
  where
    of : (b : Bool) → (b || false) ≡ b
    of true = refl
    of false = refl
among_last n q (m ∷ numbers) = of (m == n) (among_last n q numbers)
  where
    of : (b : Bool) → is_among n (numbers ++ q ∷ []) ≡ (is_among n numbers || (q == n)) → (b || is_among n (numbers ++ q ∷ [])) ≡ ((b || is_among n numbers) || (q == n))
    of true rest = refl
    of false rest = rest

turned : (m n : ℕ) → (m == n) ≡ (n == m)
turned m n = grind arith

renew_one : (numbers : List ℕ) (q : ℕ) (s : Sequence) → cond ((renewed numbers s).number == q) (none_delivered (renewed numbers s)) (renewed numbers s) ≡ renewed (numbers ++ q ∷ []) s
renew_one numbers q s =
    of (is_among s.number numbers) (s.number == q) refl
    ∙ sym (ap (λ b. cond b (none_delivered s) s) (among_last s.number q numbers ∙ ap (λ b. is_among s.number numbers || b) (turned q s.number)))
  where
    again : (y : Bool) → cond y (none_delivered (none_delivered s)) (none_delivered s) ≡ none_delivered s
    again true = refl
    again false = refl

    of : (x y : Bool) → (s.number == q) ≡ y → cond ((cond x (none_delivered s) s).number == q) (none_delivered (cond x (none_delivered s) s)) (cond x (none_delivered s) s)
        ≡ cond (x || y) (none_delivered s) s
    of true y e = again (s.number == q)
    of false y e = ap (λ b. cond b (none_delivered s) s) e

renew_more : (numbers : List ℕ) (q : ℕ) (ss : List Sequence) → changed_at q none_delivered (map (renewed numbers) ss) ≡ map (renewed (numbers ++ q ∷ [])) ss
renew_more numbers q [] = refl
renew_more numbers q (s ∷ ss) = ap₂ (λ t ts. t ∷ ts) (renew_one numbers q s) (renew_more numbers q ss)

among_middle : (before : List ℕ) (n : ℕ) (behind : List ℕ) → is_among n (before ++ n ∷ behind) ≡ true
among_middle [] n behind = ap (λ b. b || is_among n behind) (eq-eqb n n refl)
among_middle (m ∷ before) n behind = or_right (m == n) (is_among n (before ++ n ∷ behind)) (among_middle before n behind)

renew_every : (before : List ℕ) (ss : List Sequence) → map (renewed (before ++ numbers_in ss)) ss ≡ map none_delivered ss
renew_every before [] = refl
renew_every before (s ∷ ss) =
    ap₂ (λ t ts. t ∷ ts)
    (ap (λ b. cond b (none_delivered s) s) (among_middle before s.number (numbers_in ss)))
    (ap (λ (ns : List ℕ). map (renewed ns) ss) (sym (append_assoc before (s.number ∷ []) (numbers_in ss)))
    ∙ renew_every (before ++ s.number ∷ []) ss)

-- so many of the sequences have a new consumer
pub record HasReset (old now : Buffer) (many : ℕ) : Type 0 where
  pub now_is : now ≡ record old { sequences = map (renewed (take many (numbers_of old))) old.sequences }
  pub same : numbers_of now ≡ numbers_of old

pub reset_none : (old : Buffer) → HasReset old old 0
reset_none old = record { now_is = ap (λ ss. record old { sequences = ss }) (renew_none old.sequences); same = refl }

pub reset_one : (old now new : Buffer) (many d q : ℕ) → HasReset old now many → many < length (numbers_of old) → q ≡ get_or (numbers_of old) many d
    → new ≡ with_none_delivered q now → HasReset old new (many + 1)
reset_one old now new many d q has inside q_is is =
    let front : List ℕ = take many (numbers_of old) in
    record {
      now_is = is
          ∙ ap (with_none_delivered q) has.now_is
          ∙ ap (λ ss. record old { sequences = ss }) (renew_more front q old.sequences)
          ∙ ap (λ (ns : List ℕ). record old { sequences = map (renewed ns) old.sequences })
          (ap (λ n. front ++ n ∷ []) q_is ∙ sym (take_more (numbers_of old) many d inside));
      same = ap numbers_of is ∙ numbers_changed q none_delivered (λ s. refl) now.sequences ∙ has.same;
    }

pub reset_every : (old now : Buffer) (many : ℕ) → HasReset old now many → length (numbers_of old) ≤ many → now ≡ all_none_delivered old
reset_every old now many has past =
    has.now_is
    ∙ ap (λ (ns : List ℕ). record old { sequences = map (renewed ns) old.sequences }) (take_all many (numbers_of old) past)
    ∙ ap (λ ss. record old { sequences = ss }) (renew_every [] old.sequences)
