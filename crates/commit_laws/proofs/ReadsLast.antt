-- Where a buffer is read with a limit that allows for all that commits can bring, each sequence is read with a limit that is enough for it.
use Rattle.std.proofs.Common.{◌≡◌, ◌∙◌, ℕ, suc, ◌+◌, ◌-◌, ◌*◌, ◌≤◌, Bool, true, false, ◌||◌, List, [], ◌∷◌, ◌++◌, length, refl, sym, ap, subst, arith, inl, inr, mul-le-mul_right, mul_comm, suc-mul}
use Rattle.std.specs.Prelude.{cond, ◌==◌}
use Rattle.std.proofs.lemmas.Bool.{false≢true, eqb-true}
use Rattle.trace_base.specs.declared.limits.TheConstants.{MAX_FRAGMENTS}
use Rattle.trace_base.specs.declared.policy.FullPolicy.{FullPolicy}
use Rattle.trace_model.specs.Buffers.{Buffer, empty_buffer}
use Rattle.trace_model.specs.History.{Event, Read, after, buffer_after, reads_of, state_after}
use Rattle.trace_model.specs.Reads.{delivered_by, passed_by, sequence_after, with_read}
use Rattle.trace_model.specs.Row.{row_from_cursor}
use Rattle.trace_model.specs.Sequences.{Sequence, changed_at, is_among, is_known, sequence_in}
use Rattle.trace_model.proofs.ShapeLemmas.{closed_after}
use Rattle.commit_laws.specs.Commits.{AreByCommits}
use Rattle.commit_laws.specs.Complete.{IsReadOut, commits_to}
use Rattle.commit_laws.proofs.CommitCounts.{IsSmall, by_before, commits_split, small_after}
use Rattle.commit_laws.proofs.FullHistories.{IsReadLast}
use Rattle.commit_laws.proofs.ReadCounts.{read_most}

-- a sequence that isn't there isn't changed
unchanged : (q : ℕ) (change : Sequence → Sequence) (ss : List Sequence) → is_known ss q ≡ false → changed_at q change ss ≡ ss
unchanged q change [] h = refl
unchanged q change (s ∷ ss) h = by_first (s.number == q) refl h (unchanged q change ss)
  where
    by_first : (b : Bool) → (s.number == q) ≡ b → (b || is_known ss q) ≡ false → (is_known ss q ≡ false → changed_at q change ss ≡ ss)
        → cond (s.number == q) (change s) s ∷ changed_at q change ss ≡ s ∷ ss
    by_first true e h rest = absurd (false≢true (sym h))
    by_first false e h rest = ap (λ (b : Bool). cond b (change s) s ∷ changed_at q change ss) e ∙ ap (λ (xs : List Sequence). s ∷ xs) (rest h)

-- so a read of it changes nothing
read_is : (b : Buffer) (q limit : ℕ) → buffer_after b (Read q limit) ≡ with_read b q limit
read_is b q limit = by_known (is_known b.sequences q) refl
  where
    by_known : (x : Bool) → is_known b.sequences q ≡ x → cond x (after b (Read q limit)) b ≡ with_read b q limit
    by_known true e = refl
    by_known false e =
        sym (ap (λ (ss : List Sequence). record b { sequences = ss })
        (unchanged q (sequence_after (passed_by limit (row_from_cursor b (sequence_in b.sequences q)))) b.sequences e))

module _ (q packets n most : ℕ) (enough : n * MAX_FRAGMENTS ≤ most) (few : packets ≤ most) (later : List Event) where
  reads_last : (numbers : List ℕ) (b : Buffer) (limit : ℕ) → IsSmall n b.live → (sequence_in b.sequences q).closed ≡ true → is_among q numbers ≡ true → length numbers * most ≤ limit
      → IsReadLast q packets b (reads_of limit b numbers ++ later)
  reads_last [] b limit small closed among high = absurd (false≢true among)
  reads_last (s ∷ others) b limit small closed among high =
      by_own (s == q) refl among (reads_last others (with_read b s limit) (limit - length (delivered_by b s limit)))
    where
      product : suc (length others) * most ≡ length others * most + most
      product = suc-mul (length others) most

      by_own : (x : Bool) → (s == q) ≡ x → (x || is_among q others) ≡ true
          → (IsSmall n (with_read b s limit).live → (sequence_in (with_read b s limit).sequences q).closed ≡ true → is_among q others ≡ true → length others * most ≤ limit - length (delivered_by b s limit)
          → IsReadLast q packets (with_read b s limit) (reads_of (limit - length (delivered_by b s limit)) (with_read b s limit) others ++ later))
          → IsReadLast q packets b (Read s limit ∷ (reads_of (limit - length (delivered_by b s limit)) (with_read b s limit) others ++ later))
      by_own true e among rest =
          let p = product in
          inl (limit, ap (λ (i : ℕ). Read i limit) (eqb-true s q e), closed, omega (arith, high, p, few))
      by_own false e among rest =
          let p = product in
          let least = read_most n b s limit small in
          inr (subst (λ (c : Buffer). IsReadLast q packets c (reads_of (limit - length (delivered_by b s limit)) (with_read b s limit) others ++ later)) (sym (read_is b s limit))
          (rest small
          (subst (λ (c : Buffer). (sequence_in c.sequences q).closed ≡ true) (read_is b s limit) (closed_after b (Read s limit) q refl ∙ closed))
          among (omega (arith, high, p, least, enough))))

last_behind : (q packets : ℕ) (before : List Event) (b : Buffer) (events : List Event) → IsReadLast q packets (state_after b before) events → IsReadLast q packets b (before ++ events)
last_behind q packets [] b events h = h
last_behind q packets (event ∷ before) b events h = inr (last_behind q packets before (buffer_after b event) events h)

-- the reads at the end of a history by commits
pub read_out : (q room : ℕ) (policy : FullPolicy) (sequences : List Sequence) (events : List Event) (packets : ℕ) → AreByCommits events
    → IsReadOut q (empty_buffer room policy sequences) events → packets ≤ MAX_FRAGMENTS * commits_to sequences events
    → IsReadLast q packets (empty_buffer room policy sequences) events
read_out q room policy sequences events packets by out few =
    subst (IsReadLast q packets (empty_buffer room policy sequences)) (sym out.cut)
    (last_behind q packets out.before (empty_buffer room policy sequences) (reads_of out.limit (state_after (empty_buffer room policy sequences) out.before) out.numbers ++ out.later)
    (reads_last q packets (0 + commits_to sequences out.before) (MAX_FRAGMENTS * commits_to sequences events) enough few out.later
    out.numbers (state_after (empty_buffer room policy sequences) out.before) out.limit
    (small_after sequences out.before 0 (empty_buffer room policy sequences) refl
    (by_before out.before (reads_of out.limit (state_after (empty_buffer room policy sequences) out.before) out.numbers ++ out.later) (subst AreByCommits out.cut by))
    (record { few = omega arith; short = tt }))
    out.closed out.read out.unlimited))
  where
    enough : (0 + commits_to sequences out.before) * MAX_FRAGMENTS ≤ MAX_FRAGMENTS * commits_to sequences events
    enough =
        let split = commits_split sequences out.before (reads_of out.limit (state_after (empty_buffer room policy sequences) out.before) out.numbers ++ out.later) in
        let whole = ap (commits_to sequences) out.cut in
        let less : 0 + commits_to sequences out.before ≤ commits_to sequences events = omega (arith, split, whole) in
        let product = mul-le-mul_right MAX_FRAGMENTS less in
        let turned = mul_comm (commits_to sequences events) MAX_FRAGMENTS in
        omega (arith, product, turned)
