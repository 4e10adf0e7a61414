-- The one order of all claims, and how it grows.
use Rattle.std.proofs.Common.{◌≡◌, ◌≢◌, ℕ, ◌<◌, ◌⊎◌, inl, inr, zero, suc, Bool, true, false, cond, List, [], ◌∷◌, ◌++◌, length, set, get_or, subst, sym, refl, ap, ◌∙◌, arith, ⊎_elim}
use Rattle.std.proofs.lemmas.Bool.Decides.{nat_tests}
use Rattle.std.specs.Prelude.{◌==◌}
use native.Mathlib.Decide.{ℕ_discrete}
use mathlib.Core.Logic.{dite}
use mathlib.Core.Option.{some, some-injective, some-ne-none}
use Rattle.atomic_table.proofs.Lists.{at_longer}
use Rattle.chunk_plain.specs.Views.{At, Ask, WriterView, newcomer}
use Rattle.chunk_plain.specs.World.{World, writer}
use Rattle.chunk_plain.specs.Owned.{AskOf, asks_of, Won, AreInOrder}
use Rattle.chunk_plain.proofs.Lists.{at_inside, at_more, changed}

-- the first claim is the writer's, or it isn't
asks_first : (place : ℕ) (one : AskOf) (asks : List AskOf) → one.place ≡ place → asks_of place (one ∷ asks) ≡ one.ask ∷ asks_of place asks
asks_first place one asks same =
    let is : (one.place == place) ≡ true = grind (arith, nat_tests, same) in
    ap (λ (b : Bool). cond b (one.ask ∷ asks_of place asks) (asks_of place asks)) is

asks_passed : (place : ℕ) (one : AskOf) (asks : List AskOf) → one.place ≢ place → asks_of place (one ∷ asks) ≡ asks_of place asks
asks_passed place one asks differs =
    let is : (one.place == place) ≡ false = grind (arith, nat_tests, differs) in
    ap (λ (b : Bool). cond b (one.ask ∷ asks_of place asks) (asks_of place asks)) is

asks_on : (b : Bool) (ask : Ask) (more less tail : List Ask) → more ≡ less ++ tail → cond b (ask ∷ more) more ≡ cond b (ask ∷ less) less ++ tail
asks_on true ask more less tail e = ap (λ (l : List Ask). ask ∷ l) e
asks_on false ask more less tail e = e

asks_both : (place : ℕ) (asks more : List AskOf) → asks_of place (asks ++ more) ≡ asks_of place asks ++ asks_of place more
asks_both place [] more = refl
asks_both place (one ∷ asks) more =
    asks_on (one.place == place) one.ask (asks_of place (asks ++ more)) (asks_of place asks) (asks_of place more) (asks_both place asks more)

no_more : (asks : List Ask) → asks ++ [] ≡ asks
no_more [] = refl
no_more (ask ∷ asks) = ap (λ (l : List Ask). ask ∷ l) (no_more asks)

-- what stands behind the first one is a later one
first_or : (first : Ask) (asks : List Ask) (i : ℕ) (ask : Ask) → At (first ∷ asks) i ask → (first ≡ ask) ⊎ ((j : ℕ) × At asks j ask)
first_or first asks zero ask at = inl (some-injective first ask at)
first_or first asks (suc i) ask at = inr (i, at)

-- each claim of a writer stands among those of all
among : (place : ℕ) (asks : List AskOf) (i : ℕ) (ask : Ask) → At (asks_of place asks) i ask → (n : ℕ) × (one : AskOf) × At asks n one × (one.ask ≡ ask)
among place [] i ask at = absurd (some-ne-none ask (sym at))
among place (one ∷ asks) i ask at =
    let further : ((j : ℕ) × At (asks_of place asks) j ask) → (n : ℕ) × (found : AskOf) × At (one ∷ asks) n found × (found.ask ≡ ask) = λ later.
    let tail = among place asks later.0 ask later.1 in (suc tail.0, tail.1, tail.2, tail.3) in
    dite (ℕ_discrete one.place place)
    (λ same. ⊎_elim
    (λ (is : one.ask ≡ ask). (zero, one, refl, is))
    further
    (first_or one.ask (asks_of place asks) i ask (subst (λ (l : List Ask). At l i ask) (asks_first place one asks same) at)))
    (λ differs. further (i, subst (λ (l : List Ask). At l i ask) (asks_passed place one asks differs) at))

-- and each of all among those of its writer
its_own : (asks : List AskOf) (n : ℕ) (one : AskOf) → At asks n one → (i : ℕ) × At (asks_of one.place asks) i one.ask
its_own [] n one at = absurd (some-ne-none one (sym at))
its_own (first ∷ asks) zero one at =
    let is : first ≡ one = some-injective first one at in
    (zero, subst (λ (l : List Ask). At l zero one.ask) (sym (asks_first one.place first asks (ap (λ (o : AskOf). o.place) is))) (ap (λ (o : AskOf). some o.ask) is))
its_own (first ∷ asks) (suc n) one at =
    let tail = its_own asks n one at in
    dite (ℕ_discrete first.place one.place)
    (λ same. (suc tail.0, subst (λ (l : List Ask). At l (suc tail.0) one.ask) (sym (asks_first one.place first asks same)) tail.1))
    (λ differs. (tail.0, subst (λ (l : List Ask). At l tail.0 one.ask) (sym (asks_passed one.place first asks differs)) tail.1))

-- a step by which no writer makes a claim
pub order_stays : (writers : List WriterView) (place : ℕ) (view : WriterView) → AreInOrder writers → place < length writers
    → view.asked ≡ (get_or writers place newcomer).asked → AreInOrder (set writers place view)
order_stays writers place view o inside same =
    record {
      order = o.order;
      each = λ u. changed (λ (v : WriterView). v.asked ≡ asks_of u o.order) writers place u view newcomer inside
          (λ is. same ∙ subst (λ (k : ℕ). (get_or writers place newcomer).asked ≡ asks_of k o.order) (sym is) (o.each place))
          (λ _. o.each u);
      won_before = o.won_before;
    }

-- a step by which a writer makes a claim, where one in vain is of a chunk that was won
pub order_grows : (world : World) (place : ℕ) (view : WriterView) (ask : Ask) → AreInOrder world.writers → place < length world.writers
    → view.asked ≡ (writer world place).asked ++ ask ∷ [] → (ask.won ≡ false → Won world ask.chunk) → AreInOrder (set world.writers place view)
order_grows world place view ask o inside is won =
    let new : AskOf = record { place = place; ask = ask } in
    let mine : asks_of place (o.order ++ new ∷ []) ≡ (writer world place).asked ++ ask ∷ [] =
    asks_both place o.order (new ∷ []) ∙ (ap (λ (l : List Ask). asks_of place o.order ++ l) (asks_first place new [] refl) ∙ ap (λ (l : List Ask). l ++ ask ∷ []) (sym (o.each place))) in
    record {
      order = o.order ++ new ∷ [];
      each = λ u. changed (λ (v : WriterView). v.asked ≡ asks_of u (o.order ++ new ∷ [])) world.writers place u view newcomer inside
          (λ same. subst (λ (k : ℕ). view.asked ≡ asks_of k (o.order ++ new ∷ [])) (sym same) (is ∙ sym mine))
          (λ differs. o.each u ∙ sym (asks_both u o.order (new ∷ [])
          ∙ (ap (λ (l : List Ask). asks_of u o.order ++ l) (asks_passed u new [] (λ e. differs (sym e))) ∙ no_more (asks_of u o.order))));
      won_before = λ n one at lost. ⊎_elim
          (λ old. let r = o.won_before n one old lost in (r.0, r.1, at_longer o.order (new ∷ []) r.0 r.1 r.2, r.3, r.4, r.5))
          (λ (last : (n ≡ length o.order) × (new ≡ one)).
          let winner = won (ap (λ (a : AskOf). a.ask.won) last.1 ∙ lost) in
          let stands = among winner.0 o.order winner.1 winner.2 (subst (λ (l : List Ask). At l winner.1 winner.2) (o.each winner.0) winner.3) in
          let low = at_inside o.order stands.1 stands.0 stands.2 in (
            stands.0,
            stands.1,
            at_longer o.order (new ∷ []) stands.0 stands.1 stands.2,
            omega (arith, low, last.0),
            ap (λ (a : Ask). a.won) stands.3 ∙ winner.4,
            ap (λ (a : Ask). a.chunk) stands.3 ∙ (winner.5 ∙ ap (λ (a : AskOf). a.ask.chunk) last.1),
          ))
          (at_more o.order new one n at);
    }

won_or_not : (b : Bool) → (b ≡ true) ⊎ (b ≡ false)
won_or_not true = inl refl
won_or_not false = inr refl

-- a chunk that a writer claimed, in vain or not, was won by somebody
pub asked_won : (world : World) → AreInOrder world.writers → (place i : ℕ) (ask : Ask) → At (writer world place).asked i ask → Won world ask.chunk
asked_won world o place i ask at = ⊎_elim
    (λ (won : ask.won ≡ true). (place, i, ask, at, won, refl))
    (λ (lost : ask.won ≡ false).
    let stands = among place o.order i ask (subst (λ (l : List Ask). At l i ask) (o.each place) at) in
    let before = o.won_before stands.0 stands.1 stands.2 (ap (λ (a : Ask). a.won) stands.3 ∙ lost) in
    let own = its_own o.order before.0 before.1 before.2 in (
      before.1.place,
      own.0,
      before.1.ask,
      subst (λ (l : List Ask). At l own.0 before.1.ask) (sym (o.each before.1.place)) own.1,
      before.4,
      before.5 ∙ ap (λ (a : Ask). a.chunk) stands.3,
    ))
    (won_or_not ask.won)
