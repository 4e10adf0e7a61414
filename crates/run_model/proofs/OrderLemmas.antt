-- Before a claim in vain stands one that won, and the chunks of those that won.
use Rattle.std.proofs.Common.{◌≡◌, ◌∙◌, ℕ, zero, suc, ◌+◌, ◌<◌, Bool, true, false, cond, List, [], ◌∷◌, ◌++◌, length, map, refl, sym, ap, subst, arith}
use Rattle.std.specs.Prelude.{◌==◌}
use Rattle.std.proofs.lemmas.Bool.{true≢false}
use Rattle.std.proofs.lemmas.Bool.Decides.{nat_tests}
use mathlib.Core.Option.{some, some-injective, some-ne-none}
use Rattle.chunk_plain.specs.Owned.{AskOf, asks_of, held_count, won_chunks}
use Rattle.chunk_plain.specs.Views.{Ask, At, BegunChunk, Held, Completed, Content, chunk_of}
use Rattle.claim_arbiter.specs.Claiming.{lost_asks}

-- ---- lists

pub at_front : {A : Type 0} (xs ys : List A) (i : ℕ) (x : A) → At xs i x → At (xs ++ ys) i x
at_front [] ys i x at = absurd (some-ne-none x (sym at))
at_front (y ∷ xs) ys zero x at = at
at_front (y ∷ xs) ys (suc i) x at = at_front xs ys i x at

pub at_back : {A : Type 0} (xs ys : List A) (i : ℕ) (x : A) → At ys i x → (n : ℕ) × At (xs ++ ys) n x
at_back [] ys i x at = (i, at)
at_back (y ∷ xs) ys i x at = let later = at_back xs ys i x at in (suc later.0, later.1)

pub at_within : {A : Type 0} (xs ys : List A) (i : ℕ) (x : A) → i < length xs → At (xs ++ ys) i x → At xs i x
at_within [] ys i x low at = absurd (omega (arith, low))
at_within (y ∷ xs) ys zero x low at = at
at_within (y ∷ xs) ys (suc i) x low at = at_within xs ys i x (omega (arith, low)) at

-- ---- one order of all claims

-- A writer's claim stands in the order of all, and each claim of the writer that stands before it there was made before it.
pub record StandsAt (place : ℕ) (asks : List AskOf) (own : List Ask) (n : ℕ) (ask : Ask) : Type 0 where
  pub at : ℕ
  pub one : AskOf
  pub there : At asks at one
  pub is : one.ask ≡ ask
  pub before : (m : ℕ) (other : AskOf) → At asks m other → m < at → other.place ≡ place → (k : ℕ) × (k < n) × At own k other.ask

module _ (place : ℕ) (first : AskOf) (asks : List AskOf) (own : List Ask) (ask : Ask) (more : (n : ℕ) → At own n ask → StandsAt place asks own n ask) where
  stands_own : (n : ℕ) → At (first.ask ∷ own) n ask → StandsAt place (first ∷ asks) (first.ask ∷ own) n ask
  stands_own zero at = record {
    at = 0;
    one = first;
    there = refl;
    is = some-injective first.ask ask at;
    before = λ m other there less. absurd (omega (arith, less));
  }
  stands_own (suc n) at = record { at = suc (more n at).at; one = (more n at).one; there = (more n at).there; is = (more n at).is; before = before }
    where
      before : (m : ℕ) (other : AskOf) → At (first ∷ asks) m other → m < suc (more n at).at → other.place ≡ place
          → (k : ℕ) × (k < suc n) × At (first.ask ∷ own) k other.ask
      before zero other there less same = (0, omega arith, ap (λ (a : AskOf). some a.ask) (some-injective first other there))
      before (suc m) other there less same =
          let here = (more n at).before m other there (omega (arith, less)) same in
          let low = here.1 in (suc here.0, omega (arith, low), here.2)

  stands_other : (first.place == place) ≡ false → (n : ℕ) → At own n ask → StandsAt place (first ∷ asks) own n ask
  stands_other differs n at = record { at = suc (more n at).at; one = (more n at).one; there = (more n at).there; is = (more n at).is; before = before }
    where
      before : (m : ℕ) (other : AskOf) → At (first ∷ asks) m other → m < suc (more n at).at → other.place ≡ place → (k : ℕ) × (k < n) × At own k other.ask
      before zero other there less same =
          let is : first.place ≡ place = ap (λ (a : AskOf). a.place) (some-injective first other there) ∙ same in
          let equal : (first.place == place) ≡ true = grind (arith, nat_tests, is) in
          absurd (true≢false (sym equal ∙ differs))
      before (suc m) other there less same = (more n at).before m other there (omega (arith, less)) same

  stands_first : (b : Bool) → (first.place == place) ≡ b → (n : ℕ) → At (cond b (first.ask ∷ own) own) n ask
      → StandsAt place (first ∷ asks) (cond b (first.ask ∷ own) own) n ask
  stands_first true is n at = stands_own n at
  stands_first false is n at = stands_other is n at

pub stands_at : (place : ℕ) (asks : List AskOf) (n : ℕ) (ask : Ask) → At (asks_of place asks) n ask → StandsAt place asks (asks_of place asks) n ask
stands_at place [] n ask at = absurd (some-ne-none ask (sym at))
stands_at place (first ∷ asks) n ask at =
    stands_first place first asks (asks_of place asks) ask (λ k there. stands_at place asks k ask there) (first.place == place) refl n at

-- each of all stands among those of its writer
behind_first : {A : Type 0} (b : Bool) (first : A) (others : List A) (i : ℕ) (one : A) → At others i one → (k : ℕ) × At (cond b (first ∷ others) others) k one
behind_first true first others i one at = (suc i, at)
behind_first false first others i one at = (i, at)

pub among_own : (asks : List AskOf) (m : ℕ) (one : AskOf) → At asks m one → (i : ℕ) × At (asks_of one.place asks) i one.ask
among_own [] m one at = absurd (some-ne-none one (sym at))
among_own (first ∷ asks) zero one at =
    let is : first ≡ one = some-injective first one at in
    let equal : (first.place == one.place) ≡ true = let same : first.place ≡ one.place = ap (λ (a : AskOf). a.place) is in grind (arith, nat_tests, same) in
    (0, subst (λ (b : Bool). At (cond b (first.ask ∷ asks_of one.place asks) (asks_of one.place asks)) 0 one.ask) (sym equal) (ap (λ (a : AskOf). some a.ask) is))
among_own (first ∷ asks) (suc m) one at =
    let later = among_own asks m one at in
    behind_first (first.place == one.place) first.ask (asks_of one.place asks) later.0 one.ask later.1

-- ---- claims and their chunks

-- the claim of a round in vain with this number
pub lost_at : (calls first : ℕ) (words : List ℕ) (k : ℕ) → k < length words
    → (ask : Ask) × At (lost_asks calls first words) k ask × (ask.won ≡ false) × (ask.chunk ≡ first + k)
lost_at calls first [] k low = absurd (omega (arith, low))
lost_at calls first (word ∷ words) zero low = (record { chunk = first; found = word; won = false; calls = calls }, refl, refl, omega arith)
lost_at calls first (word ∷ words) (suc k) low =
    let later = lost_at calls (first + 1) words k (omega (arith, low)) in
    (later.0, later.1, later.2, later.3 ∙ omega arith)

-- the chunk of a claim that won is among those won
pub won_at : (asks : List Ask) (n : ℕ) (ask : Ask) → At asks n ask → ask.won ≡ true → (j : ℕ) × At (won_chunks asks) j ask.chunk
won_at [] n ask at won = absurd (some-ne-none ask (sym at))
won_at (first ∷ asks) zero ask at won =
    let is : first ≡ ask = some-injective first ask at in (
      0,
      subst (λ (b : Bool). At (cond b (first.chunk ∷ won_chunks asks) (won_chunks asks)) 0 ask.chunk) (sym (ap (λ (a : Ask). a.won) is ∙ won))
          (ap (λ (a : Ask). some a.chunk) is),
    )
won_at (first ∷ asks) (suc n) ask at won =
    let later = won_at asks n ask at won in
    behind_first first.won first.chunk (won_chunks asks) later.0 ask.chunk later.1

-- what a writer that holds no chunk has begun it has completed
pub entry_at : (begun : List BegunChunk) → held_count begun ≡ 0 → (j chunk : ℕ) → At (map chunk_of begun) j chunk
    → (content : Content) × At begun j (Completed chunk content)
entry_at [] none j chunk at = absurd (some-ne-none chunk (sym at))
entry_at (Held other draft ∷ begun) none j chunk at = absurd (omega (arith, none))
entry_at (Completed other content ∷ begun) none zero chunk at = (content, ap (λ (k : ℕ). some (Completed k content)) (some-injective other chunk at))
entry_at (Completed other content ∷ begun) none (suc j) chunk at = entry_at begun none j chunk at
