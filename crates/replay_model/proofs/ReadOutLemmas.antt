-- A read of a buffer without limit has enough left for each of its sequences.
use Rattle.std.proofs.Common.{◌≡◌, ◌∙◌, ℕ, zero, suc, ◌+◌, ◌-◌, ◌<◌, ◌≤◌, ◌⊎◌, Bool, true, false, List, [], ◌∷◌, ◌++◌, length, refl, sym, ap, subst, arith, inl, inr, cond, append_assoc, length-append}
use Rattle.std.specs.Prelude.{◌==◌}
use Rattle.std.proofs.lemmas.Bool.{cases_eq, eq-eqb, ne_eqb, eqb-true, false≢true}
use Rattle.trace_base.specs.declared.policy.WriterSpec.{WriterSpec}
use Rattle.trace_model.specs.Buffers.{Buffer}
use Rattle.trace_model.specs.Counts.{one_if}
use Rattle.trace_model.specs.Packets.{begun_count}
use Rattle.trace_model.specs.Reads.{delivered_by, with_read}
use Rattle.trace_model.specs.History as model
use Rattle.trace_model.specs.History.{Event, buffer_after, state_after, delivered_at, delivered_to, reads_of}
use Rattle.trace_model.specs.Sequences.{is_known}
use Rattle.trace_model.specs.Tells.{Tells}
use Rattle.delivery_laws.proofs.AskLemmas.{known_after}
use Rattle.delivery_laws.proofs.EnoughLemmas.{tells_few}
use Rattle.scenario_text.specs.declared.scenario.NumberedLine.{NumberedLine}
use Rattle.scenario_text.specs.Accepted.{line_calls, calls_asked}
use Rattle.service_core.specs.Agreement.{spec_at}
use Rattle.service_core.specs.Reading.{sequences_to}
use Rattle.service_core.proofs.RouteLemmas.{state_append}
use Rattle.replay_model.proofs.BalanceLemmas.{begins, begins_append, many_begun, writer_number, line_own}
use Rattle.replay_model.proofs.FinishLemmas.{HasRead}
use Rattle.replay_model.proofs.PigeonLemmas.{hit_few}

-- ---- no more is delivered than was emitted

pub told_few : (emitted : List (List ℕ)) (sequence : ℕ) (records : List (List ℕ)) → Tells emitted sequence records → length records ≤ length emitted
told_few emitted sequence records tells = let few = tells_few emitted sequence true 0 records tells (omega arith) in omega (arith, few)

pub delivered_part : (q limit : ℕ) (before later : List Event) (buffer : Buffer)
    → length (delivered_by (state_after buffer before) q limit) ≤ length (delivered_to q buffer (before ++ (model.Read q limit ∷ later)))
delivered_part q limit [] later buffer =
    let here : length (delivered_at q buffer (model.Read q limit)) ≡ length (delivered_by buffer q limit) =
    ap (λ (b : Bool). length (cond b (delivered_by buffer q limit) [])) (eq-eqb q q refl) in
    let both = length-append (delivered_at q buffer (model.Read q limit)) (delivered_to q (buffer_after buffer (model.Read q limit)) later) in
    omega (arith, here, both)
delivered_part q limit (event ∷ before) later buffer =
    let rest = delivered_part q limit before later (buffer_after buffer event) in
    let both = length-append (delivered_at q buffer event) (delivered_to q (buffer_after buffer event) (before ++ (model.Read q limit ∷ later))) in
    omega (arith, rest, both)

-- ---- the lines begin no more packets than there are

-- the sum of what each writer comes to, from this place on
abbrev pub sum_all : (ℕ → ℕ) → (place : ℕ) → List WriterSpec → ℕ
sum_all each place [] = 0
sum_all each place (spec ∷ specs) = each place + sum_all each (suc place) specs

sum_zero : (each : ℕ → ℕ) (place : ℕ) (specs : List WriterSpec) → ((p : ℕ) → place ≤ p → each p ≡ 0) → sum_all each place specs ≡ 0
sum_zero each place [] none = refl
sum_zero each place (spec ∷ specs) none =
    let here = none place (omega arith) in
    let rest = sum_zero each (suc place) specs (λ p low. none p (omega (arith, low))) in
    omega (arith, here, rest)

pub sum_both : (one other : ℕ → ℕ) (place : ℕ) (specs : List WriterSpec) → sum_all (λ p. one p + other p) place specs ≡ sum_all one place specs + sum_all other place specs
sum_both one other place [] = refl
sum_both one other place (spec ∷ specs) = let rest = sum_both one other (suc place) specs in omega (arith, rest)

pub sum_less : (one other : ℕ → ℕ) (place : ℕ) (specs : List WriterSpec) → ((p : ℕ) → one p ≤ other p) → sum_all one place specs ≤ sum_all other place specs
sum_less one other place [] less = omega arith
sum_less one other place (spec ∷ specs) less = let rest = sum_less one other (suc place) specs less in let here = less place in omega (arith, rest, here)

hits_few : (number place : ℕ) (specs : List WriterSpec) → sum_all (λ p. one_if (suc p == number)) place specs ≤ 1
hits_few number place [] = omega arith
hits_few number place (spec ∷ specs) = by_number (hits_few number (suc place) specs) (cases_eq (suc place) number)
  where
    by_number : sum_all (λ p. one_if (suc p == number)) (suc place) specs ≤ 1 → (suc place ≡ number) ⊎ (suc place ≡ number → ⊥)
        → sum_all (λ p. one_if (suc p == number)) place (spec ∷ specs) ≤ 1
    by_number rest (inl same) =
        let none = sum_zero (λ p. one_if (suc p == number)) (suc place) specs (λ p low. ap one_if (ne_eqb (suc p) number (λ e. omega (arith, e, low, same)))) in
        let here = hit_few (suc place == number) in
        omega (arith, none, here)
    by_number rest (inr differs) =
        let here : one_if (suc place == number) ≡ 0 = ap one_if (ne_eqb (suc place) number differs) in
        omega (arith, rest, here)

lines_sum : (lines : List NumberedLine) (specs : List WriterSpec) → sum_all (λ p. begins (calls_asked (suc p) lines)) 0 specs ≤ length lines
lines_sum [] specs = let none = sum_zero (λ p. begins (calls_asked (suc p) [])) 0 specs (λ p low. refl) in omega (arith, none)
lines_sum (line ∷ lines) specs =
    let rest = lines_sum lines specs in
    let both = sum_both (λ p. begins (line_calls (suc p) line.what)) (λ p. begins (calls_asked (suc p) lines)) 0 specs in
    let split = sum_less (λ p. begins (calls_asked (suc p) (line ∷ lines))) (λ p. begins (line_calls (suc p) line.what) + begins (calls_asked (suc p) lines)) 0 specs
    (λ p. let sum = begins_append (line_calls (suc p) line.what) (calls_asked (suc p) lines) in omega (arith, sum)) in
    let own = sum_less (λ p. begins (line_calls (suc p) line.what)) (λ p. one_if (suc p == writer_number line.what)) 0 specs (λ p. line_own (suc p) line.what) in
    let one = hits_few (writer_number line.what) 0 specs in
    omega (arith, rest, both, split, own, one)

pub begun_sum : (lines : List NumberedLine) (specs : List WriterSpec) → sum_all (λ p. begun_count (calls_asked (suc p) lines)) 0 specs ≤ length lines
begun_sum lines specs =
    let few = lines_sum lines specs in
    let less = sum_less (λ p. begun_count (calls_asked (suc p) lines)) (λ p. begins (calls_asked (suc p) lines)) 0 specs
    (λ p. let many = many_begun (calls_asked (suc p) lines) [] false in omega (arith, many)) in
    omega (arith, few, less)

-- ---- the reads of a buffer

module _ (first : Buffer) (whole : List Event) (number most : ℕ) (each : ℕ → ℕ) where
  -- no read of this writer's sequence delivers more than so many
  pub record IsFew (place : ℕ) : Type 0 where
    pub known : is_known first.sequences (place + 2) ≡ true
    pub few : length (delivered_to (place + 2) first whole) ≤ each place

  known_then : (before : List Event) (buffer : Buffer) (q : ℕ) → is_known buffer.sequences q ≡ true → is_known (state_after buffer before).sequences q ≡ true
  known_then [] buffer q known = known
  known_then (event ∷ before) buffer q known = known_then before (buffer_after buffer event) q (known_after buffer event q ∙ known)

  with_read_is : (before : List Event) (q limit : ℕ) → is_known first.sequences q ≡ true
      → with_read (state_after first before) q limit ≡ state_after first (before ++ model.Read q limit ∷ [])
  with_read_is before q limit known =
      let b : Buffer = state_after first before in
      ap (λ (x : Bool). cond x (with_read b q limit) b) (sym (known_then before first q known))
      ∙ sym (state_append first before (model.Read q limit ∷ []))

  pub reads_has : (specs : List WriterSpec) (place limit spent : ℕ) (before later : List Event) (buffer : Buffer) → buffer ≡ state_after first before
      → whole ≡ before ++ (reads_of limit buffer (sequences_to number place specs) ++ later) → most ≤ limit + spent
      → spent + sum_all each place specs ≤ most
      → ((j : ℕ) → j < length specs → (spec_at specs j).buffer ≡ number → IsFew (place + j))
      → (i : ℕ) → i < length specs → (spec_at specs i).buffer ≡ number
      → HasRead (place + i + 2) (each (place + i)) (reads_of limit buffer (sequences_to number place specs))
  reads_has [] place limit spent before later buffer is cut left sum fits i low mine = absurd (omega (arith, low))
  reads_has (spec ∷ specs) place limit spent before later buffer is cut left sum fits i low mine =
      step (spec.buffer == number) refl cut i low mine
      (λ next gone front then at split enough. reads_has specs (suc place) next gone front later then at split enough)
    where
      later_fits : (j : ℕ) → j < length specs → (spec_at specs j).buffer ≡ number → IsFew (suc place + j)
      later_fits j below own = subst IsFew (let at : place + suc j ≡ suc place + j = omega arith in at) (fits (suc j) (omega (arith, below)) own)

      step : (b : Bool) → (spec.buffer == number) ≡ b
          → whole ≡ before ++ (reads_of limit buffer (cond b ((place + 2) ∷ sequences_to number (suc place) specs) (sequences_to number (suc place) specs)) ++ later)
          → (i : ℕ) → i < length (spec ∷ specs) → (spec_at (spec ∷ specs) i).buffer ≡ number
          → ((next gone : ℕ) (front : List Event) (then : Buffer) → then ≡ state_after first front
          → whole ≡ front ++ (reads_of next then (sequences_to number (suc place) specs) ++ later) → most ≤ next + gone
          → gone + sum_all each (suc place) specs ≤ most
          → ((j : ℕ) → j < length specs → (spec_at specs j).buffer ≡ number → IsFew (suc place + j))
          → (i : ℕ) → i < length specs → (spec_at specs i).buffer ≡ number
          → HasRead (suc place + i + 2) (each (suc place + i)) (reads_of next then (sequences_to number (suc place) specs)))
          → HasRead (place + i + 2) (each (place + i)) (reads_of limit buffer (cond b ((place + 2) ∷ sequences_to number (suc place) specs) (sequences_to number (suc place) specs)))
      step true own split zero below mine rest =
          let at : place ≡ place + 0 = omega arith in
          let enough : each place ≤ limit = omega (arith, left, sum) in
          inl (ap (λ (p : ℕ). p + 2) at, subst (λ (p : ℕ). each p ≤ limit) at enough)
      step true own split (suc i) below mine rest =
          let q : ℕ = place + 2 in
          let others : List ℕ = sequences_to number (suc place) specs in
          let got : ℕ = length (delivered_by buffer q limit) in
          let fit = subst IsFew (let at : place + 0 ≡ place = omega arith in at) (fits 0 (omega arith) (eqb-true spec.buffer number own)) in
          let reads : List Event = reads_of (limit - got) (with_read buffer q limit) others in
          let cut_here : whole ≡ before ++ (model.Read q limit ∷ (reads ++ later)) = split in
          let part = delivered_part q limit before (reads ++ later) first in
          let here : length (delivered_by (state_after first before) q limit) ≡ got = ap (λ (b : Buffer). length (delivered_by b q limit)) (sym is) in
          let all : length (delivered_to q first (before ++ (model.Read q limit ∷ (reads ++ later)))) ≡ length (delivered_to q first whole) =
          ap (λ (es : List Event). length (delivered_to q first es)) (sym cut_here) in
          let few = fit.few in
          let front : List Event = before ++ model.Read q limit ∷ [] in
          let then_is : with_read buffer q limit ≡ state_after first front = ap (λ (b : Buffer). with_read b q limit) is ∙ with_read_is before q limit fit.known in
          let split_next : whole ≡ front ++ (reads ++ later) = cut_here ∙ sym (append_assoc before (model.Read q limit ∷ []) (reads ++ later)) in
          let at : suc place + i ≡ place + suc i = omega arith in
          let next = rest (limit - got) (spent + each place) front (with_read buffer q limit) then_is split_next
          (omega (arith, left, part, here, all, few)) (omega (arith, sum)) later_fits i (omega (arith, below)) mine in
          inr (subst (λ (p : ℕ). HasRead (p + 2) (each p) reads) at next)
      step false own split zero below mine rest = absurd (false≢true (sym own ∙ eq-eqb spec.buffer number mine))
      step false own split (suc i) below mine rest =
          let at : suc place + i ≡ place + suc i = omega arith in
          subst (λ (p : ℕ). HasRead (p + 2) (each p) (reads_of limit buffer (sequences_to number (suc place) specs))) at
          (rest limit spent before buffer is split left (omega (arith, sum)) later_fits i (omega (arith, below)) mine)
