-- Deliveries one behind another are one change of the sequence.
use Rattle.std.proofs.Common.{◌≡◌, ℕ, zero, suc, ◌<◌, ◌==◌, Bool, true, false, cond, List, [], ◌∷◌, refl, sym, ap, ap₂, ◌∙◌, arith}
use Rattle.trace_model.specs.Buffers.{Buffer}
use Rattle.trace_model.specs.Counts.{raised}
use Rattle.trace_model.specs.Reads.{Delivers, advanced}
use Rattle.trace_model.specs.Sequences.{Sequence, Cursor, changed_at}
use Rattle.trace_model.proofs.CountedLemmas.{raised-none}
use Rattle.trace_buffer.specs.Calls.{with_advance, with_deliveries, delivered_to}

-- two changes of one sequence are one
pub changed_twice : (q : ℕ) (f g h : Sequence → Sequence) → ((s : Sequence) → (g s).number ≡ s.number) → ((s : Sequence) → h s ≡ f (g s)) → (ss : List Sequence)
    → changed_at q h ss ≡ changed_at q f (changed_at q g ss)
changed_twice q f g h keeps is [] = refl
changed_twice q f g h keeps is (s ∷ ss) = ap₂ (λ t ts. t ∷ ts) (of (s.number == q) refl) (changed_twice q f g h keeps is ss)
  where
    of : (b : Bool) → (s.number == q) ≡ b → cond b (h s) s ≡ cond ((cond b (g s) s).number == q) (f (cond b (g s) s)) (cond b (g s) s)
    of true e = is s ∙ ap (λ c. cond c (f (g s)) (g s)) (sym (ap (λ n. n == q) (keeps s) ∙ e))
    of false e = ap (λ c. cond c (f s) s) (sym e)

-- the first delivery, and one more
first_of : (to : Cursor) (s : Sequence) → advanced to Delivers s ≡ delivered_to to 1 s
first_of to s = λ i. record s {
  cursor = to;
  missing = false;
  delivered = raised s.delivered 1;
  dropped = raised-none s.dropped i;
  lost = raised-none s.lost i;
  cut = raised-none s.cut i;
}

next_of : (at to : Cursor) (n : ℕ) (s : Sequence) → delivered_to to (suc n) s ≡ advanced to Delivers (delivered_to at n s)
next_of at to n s =
    let more : raised s.delivered (suc n) ≡ raised (raised s.delivered n) 1 = omega arith in
    λ i. record s {
      cursor = to;
      missing = false;
      delivered = more i;
      dropped = sym (raised-none s.dropped) i;
      lost = sym (raised-none s.lost) i;
      cut = sym (raised-none s.cut) i;
    }

module _ (b : Buffer) (q : ℕ) where
  abbrev delivered_at : Cursor → ℕ → Buffer
  delivered_at to n = record b { sequences = changed_at q (delivered_to to n) b.sequences }

  one_more : (at to : Cursor) (n : ℕ) → with_advance (delivered_at at n) q to Delivers ≡ delivered_at to (suc n)
  one_more at to n =
      ap (λ ss. record b { sequences = ss })
      (sym (changed_twice q (advanced to Delivers) (delivered_to at n) (delivered_to to (suc n)) (λ s. refl) (next_of at to n) b.sequences))

  deliveries_are : (to : Cursor) (n : ℕ) → with_deliveries b q to (suc n) ≡ delivered_at to (suc n)
  deliveries_are to zero = λ i. record b { sequences = changed_at q (λ s. first_of to s i) b.sequences }
  deliveries_are to (suc n) = ap (λ (a : Buffer). with_advance a q to Delivers) (deliveries_are to n) ∙ one_more to to (suc n)

  -- what is made of the rows
  pub delivered_is : (to : Cursor) (n : ℕ) → 0 < n → record b { sequences = changed_at q (delivered_to to n) b.sequences } ≡ with_deliveries b q to n
  delivered_is to zero some = absurd (omega (arith, some))
  delivered_is to (suc n) some = sym (deliveries_are to n)

  -- where the deliveries before came doesn't matter
  pub next_delivery : (at to : Cursor) (n : ℕ) → with_advance (with_deliveries b q at n) q to Delivers ≡ with_deliveries b q to (suc n)
  next_delivery at to zero = refl
  next_delivery at to (suc n) =
      ap (λ (a : Buffer). with_advance a q to Delivers) (deliveries_are at n) ∙ one_more at to (suc n) ∙ sym (deliveries_are to (suc n))
