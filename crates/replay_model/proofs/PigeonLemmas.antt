-- Where a writer lost a packet, each chunk of its producer was begun by some writer: so many chunks were begun at least.
use Rattle.std.proofs.Common.{◌≡◌, ◌≢◌, ◌∙◌, ℕ, zero, suc, ◌+◌, ◌<◌, ◌≤◌, ◌⊎◌, Bool, true, false, ◌&&◌, Option, None, List, [], ◌∷◌, length, refl, ap, subst, arith, inl, inr, cond}
use Rattle.std.specs.Prelude.{◌==◌}
use Rattle.std.proofs.lemmas.Bool.{cases_eq, eq-eqb, ne_eqb, eqb-true}
use Rattle.trace_base.specs.declared.policy.WriterSpec.{WriterSpec}
use Rattle.trace_model.specs.Counts.{one_if}
use Rattle.chunk_plain.specs.Setup.{Setup, IsChunkOf}
use Rattle.chunk_plain.specs.Views.{At, Ask, Stamp, taken_of}
use Rattle.chunk_plain.specs.World.{World, writer}
use Rattle.chunk_plain.specs.Owned.{IsOwned, stamped_chunks, won_chunks}
use Rattle.chunk_plain.proofs.Owned.{won_as_many}
use Rattle.trace_writer.specs.Claims.{AreOwnAsks, HasAsked}
use Rattle.service_core.specs.Agreement.{spec_at}

-- ---- claims that won

-- how many claims of this chunk won
abbrev pub wins_on : (chunk : ℕ) → List Ask → ℕ
wins_on chunk [] = 0
wins_on chunk (ask ∷ asks) = one_if (ask.won && (ask.chunk == chunk)) + wins_on chunk asks

-- and how many of the chunks from this one on, so many
abbrev pub range_wins : (first n : ℕ) → List Ask → ℕ
range_wins first zero asks = 0
range_wins first (suc n) asks = range_wins first n asks + wins_on (first + n) asks

pub won_on : (chunk : ℕ) (asks : List Ask) (i : ℕ) (ask : Ask) → At asks i ask → ask.won ≡ true → ask.chunk ≡ chunk → 1 ≤ wins_on chunk asks
won_on chunk [] i ask at won is = absurd (cc)
won_on chunk (one ∷ asks) zero ask at won is =
    let same : one ≡ ask = cc in
    let here : (one.won && (one.chunk == chunk)) ≡ true =
    ap (λ (a : Ask). a.won && (a.chunk == chunk)) same ∙ ap (λ (b : Bool). b && (ask.chunk == chunk)) won ∙ eq-eqb ask.chunk chunk is in
    let count : one_if (one.won && (one.chunk == chunk)) ≡ 1 = ap (λ (b : Bool). one_if b) here in
    omega (arith, count)
won_on chunk (one ∷ asks) (suc i) ask at won is = let rest = won_on chunk asks i ask at won is in omega (arith, rest)

-- one claim
abbrev hits : (first n : ℕ) → Ask → ℕ
hits first zero ask = 0
hits first (suc n) ask = hits first n ask + one_if (ask.won && (ask.chunk == (first + n)))

hits_lost : (first n : ℕ) (ask : Ask) → ask.won ≡ false → hits first n ask ≡ 0
hits_lost first zero ask lost = refl
hits_lost first (suc n) ask lost =
    let rest = hits_lost first n ask lost in
    let here : one_if (ask.won && (ask.chunk == (first + n))) ≡ 0 = ap (λ (b : Bool). one_if (b && (ask.chunk == (first + n)))) lost in
    omega (arith, rest, here)

hit_none : (b : Bool) (x y : ℕ) → x ≢ y → one_if (b && (x == y)) ≡ 0
hit_none true x y differs = ap (λ (e : Bool). one_if e) (ne_eqb x y differs)
hit_none false x y differs = refl

pub hit_few : (b : Bool) → one_if b ≤ 1
hit_few true = omega arith
hit_few false = omega arith

hits_before : (first n : ℕ) (ask : Ask) → first + n ≤ ask.chunk → hits first n ask ≡ 0
hits_before first zero ask past = refl
hits_before first (suc n) ask past =
    let rest = hits_before first n ask (omega (arith, past)) in
    let here = hit_none ask.won ask.chunk (first + n) (λ e. omega (arith, e, past)) in
    omega (arith, rest, here)

hits_few : (first n : ℕ) (ask : Ask) → hits first n ask ≤ 1
hits_few first zero ask = omega arith
hits_few first (suc n) ask = by_chunk (hits_few first n ask) (cases_eq ask.chunk (first + n))
  where
    by_chunk : hits first n ask ≤ 1 → (ask.chunk ≡ first + n) ⊎ (ask.chunk ≡ first + n → ⊥) → hits first (suc n) ask ≤ 1
    by_chunk rest (inl same) =
        let before = hits_before first n ask (omega (arith, same)) in
        let here = hit_few (ask.won && (ask.chunk == (first + n))) in
        omega (arith, before, here)
    by_chunk rest (inr differs) = let here = hit_none ask.won ask.chunk (first + n) differs in omega (arith, rest, here)

range_cons : (first n : ℕ) (ask : Ask) (asks : List Ask) → range_wins first n (ask ∷ asks) ≡ hits first n ask + range_wins first n asks
range_cons first zero ask asks = refl
range_cons first (suc n) ask asks = let rest = range_cons first n ask asks in omega (arith, rest)

range_none : (first n : ℕ) → range_wins first n [] ≡ 0
range_none first zero = refl
range_none first (suc n) = let rest = range_none first n in omega (arith, rest)

pub range_few : (first n : ℕ) (asks : List Ask) → range_wins first n asks ≤ length (won_chunks asks)
range_few first n [] = let none = range_none first n in omega (arith, none)
range_few first n (ask ∷ asks) = step ask.won refl (range_few first n asks)
  where
    step : (b : Bool) → ask.won ≡ b → range_wins first n asks ≤ length (won_chunks asks) → range_wins first n (ask ∷ asks) ≤ length (cond b (ask.chunk ∷ won_chunks asks) (won_chunks asks))
    step true won rest =
        let both = range_cons first n ask asks in let one = hits_few first n ask in
        omega (arith, both, one, rest)
    step false lost rest =
        let both = range_cons first n ask asks in let none = hits_lost first n ask lost in
        omega (arith, both, none, rest)

-- ---- over the writers of a producer

module _ (world : World) (producer : ℕ) where
  -- what each writer of the producer, from this place on, comes to, in all
  abbrev pub total : (ℕ → ℕ) → (place : ℕ) → List WriterSpec → ℕ
  total each place [] = 0
  total each place (spec ∷ specs) = cond (spec.producer == producer) (each place) 0 + total each (suc place) specs

  cond_sum : (b : Bool) (x y : ℕ) → cond b (x + y) 0 ≡ cond b x 0 + cond b y 0
  cond_sum true x y = refl
  cond_sum false x y = refl

  pub total_sum : (one other : ℕ → ℕ) (place : ℕ) (specs : List WriterSpec) → total (λ p. one p + other p) place specs ≡ total one place specs + total other place specs
  total_sum one other place [] = refl
  total_sum one other place (spec ∷ specs) =
      let rest = total_sum one other (suc place) specs in
      let here = cond_sum (spec.producer == producer) (one place) (other place) in
      omega (arith, rest, here)

  cond_less : (b : Bool) (x y : ℕ) → (b ≡ true → x ≤ y) → cond b x 0 ≤ cond b y 0
  cond_less true x y less = less refl
  cond_less false x y less = omega arith

  pub total_less : (one other : ℕ → ℕ) (place : ℕ) (specs : List WriterSpec)
      → ((i : ℕ) → i < length specs → (spec_at specs i).producer ≡ producer → one (place + i) ≤ other (place + i)) → total one place specs ≤ total other place specs
  total_less one other place [] less = omega arith
  total_less one other place (spec ∷ specs) less =
      let rest = total_less one other (suc place) specs
      (λ i low mine. subst (λ (p : ℕ). one p ≤ other p) (let same : place + suc i ≡ suc place + i = omega arith in same) (less (suc i) (omega (arith, low)) mine)) in
      let here = cond_less (spec.producer == producer) (one place) (other place)
      (λ e. subst (λ (p : ℕ). one p ≤ other p) (let same : place + 0 ≡ place = omega arith in same) (less 0 (omega arith) (eqb-true spec.producer producer e))) in
      omega (arith, rest, here)

  -- one of them alone
  pub total_least : (each : ℕ → ℕ) (place : ℕ) (specs : List WriterSpec) (i : ℕ) → i < length specs → (spec_at specs i).producer ≡ producer
      → each (place + i) ≤ total each place specs
  total_least each place [] i low mine = absurd (omega (arith, low))
  total_least each place (spec ∷ specs) zero low mine =
      let is : cond (spec.producer == producer) (each place) 0 ≡ each place = ap (λ (b : Bool). cond b (each place) 0) (eq-eqb spec.producer producer mine) in
      let same : each (place + 0) ≡ each place = ap each (let at : place + 0 ≡ place = omega arith in at) in
      omega (arith, is, same)
  total_least each place (spec ∷ specs) (suc i) low mine =
      let rest = total_least each (suc place) specs i (omega (arith, low)) mine in
      let same : each (place + suc i) ≡ each (suc place + i) = ap each (let at : place + suc i ≡ suc place + i = omega arith in at) in
      omega (arith, rest, same)

  -- where each chunk of a range was won by one of them, they won as many claims as there are chunks
  pub many_wins : (specs : List WriterSpec) (first n : ℕ)
      → ((k : ℕ) → k < n → (p : ℕ) × (p < length specs) × ((spec_at specs p).producer ≡ producer) × (1 ≤ wins_on (first + k) (writer world p).asked))
      → n ≤ total (λ p. range_wins first n (writer world p).asked) 0 specs
  many_wins specs first zero won = omega arith
  many_wins specs first (suc n) won =
      let rest = many_wins specs first n (λ k low. won k (omega (arith, low))) in
      let last = won n (omega arith) in
      let here = total_least (λ p. wins_on (first + n) (writer world p).asked) 0 specs last.0 last.1 last.2 in
      let at : 0 + last.0 ≡ last.0 = omega arith in
      let same : wins_on (first + n) (writer world (0 + last.0)).asked ≡ wins_on (first + n) (writer world last.0).asked =
      ap (λ (p : ℕ). wins_on (first + n) (writer world p).asked) at in
      let some = last.3 in
      let sum = total_sum (λ p. range_wins first n (writer world p).asked) (λ p. wins_on (first + n) (writer world p).asked) 0 specs in
      omega (arith, rest, here, same, some, sum)

-- ---- each chunk was won

pub asked_at : (asks : List Ask) (chunk : ℕ) → HasAsked asks chunk → (i : ℕ) × (ask : Ask) × At asks i ask × (ask.chunk ≡ chunk)
asked_at [] chunk asked = absurd asked
asked_at (ask ∷ asks) chunk (inl same) = (0, ask, refl, same)
asked_at (ask ∷ asks) chunk (inr asked) = let h = asked_at asks chunk asked in (suc h.0, h.1, h.2, h.3)

pub own_ask : (setup : Setup) (producer : ℕ) (asks : List Ask) (i : ℕ) (ask : Ask) → AreOwnAsks setup producer asks → At asks i ask → IsChunkOf setup producer ask.chunk
own_ask setup producer [] i ask own at = absurd (cc)
own_ask setup producer (one ∷ asks) zero ask own at = let same : one ≡ ask = cc in subst (λ (a : Ask). IsChunkOf setup producer a.chunk) same own.0
own_ask setup producer (one ∷ asks) (suc i) ask own at = own_ask setup producer asks i ask own.1 at

-- what a writer begins it has won
pub wins_are_begun : (world : World) (place : ℕ) → IsOwned world → (writer world place).claimed ≡ [] → (writer world place).stamped ≡ None
    → length (won_chunks (writer world place).asked) ≡ length (writer world place).begun
wins_are_begun world place owned none unstamped =
    let won = won_as_many (taken_of world.service place) place (writer world place) (owned.counts place) in
    let claimed = ap (λ (xs : List ℕ). length xs) none in
    let stamped = ap (λ (s : Option Stamp). length (stamped_chunks s)) unstamped in
    omega (arith, won, claimed, stamped)
