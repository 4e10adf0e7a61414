-- How what a writer has done goes on, and which chunks its claims won.
use Rattle.std.proofs.Common.{◌≡◌, ◌∙◌, ℕ, ◌+◌, ◌≤◌, Bool, true, false, cond, List, [], ◌∷◌, ◌++◌, length, map, refl, sym, ap, arith, append-nil, append_assoc, length-append}
use Rattle.std.proofs.lemmas.List.Elements.{All-nil, All-append}
use Rattle.trace_model.specs.Calls.{Call}
use Rattle.chunk_plain.specs.Owned.{won_chunks}
use Rattle.chunk_plain.specs.Views.{Ask, WriterView, chunk_of}
use Rattle.claim_arbiter.specs.Claiming.{lost_asks}
use Rattle.run_model.specs.Vain.{GoesOnInTurn}

-- ---- claims that won

won_first : (won : Bool) (chunk : ℕ) (all front back : List ℕ) → all ≡ front ++ back → cond won (chunk ∷ all) all ≡ cond won (chunk ∷ front) front ++ back
won_first true chunk all front back is = ap (λ (l : List ℕ). chunk ∷ l) is
won_first false chunk all front back is = is

pub won_append : (asks more : List Ask) → won_chunks (asks ++ more) ≡ won_chunks asks ++ won_chunks more
won_append [] more = refl
won_append (ask ∷ asks) more = won_first ask.won ask.chunk (won_chunks (asks ++ more)) (won_chunks asks) (won_chunks more) (won_append asks more)

-- none of a round in vain did
pub lost_won : (calls first : ℕ) (words : List ℕ) → won_chunks (lost_asks calls first words) ≡ []
lost_won calls first [] = refl
lost_won calls first (word ∷ words) = lost_won calls (first + 1) words

-- ---- going on

pub goes_none : (view : WriterView) → GoesOnInTurn view view
goes_none view = record {
  calls = [];
  asks = [];
  calls_are = sym (append-nil view.calls);
  asks_are = sym (append-nil view.asked);
  chunks_are = sym (append-nil (map chunk_of view.begun));
  later = All-nil (λ (ask : Ask). length view.calls ≤ ask.calls);
}

pub goes_both : (old mid new : WriterView) → GoesOnInTurn old mid → GoesOnInTurn mid new → GoesOnInTurn old new
goes_both old mid new one two = record {
  calls = one.calls ++ two.calls;
  asks = one.asks ++ two.asks;
  calls_are = two.calls_are ∙ ap (λ (l : List Call). l ++ two.calls) one.calls_are ∙ append_assoc old.calls one.calls two.calls;
  asks_are = two.asks_are ∙ ap (λ (l : List Ask). l ++ two.asks) one.asks_are ∙ append_assoc old.asked one.asks two.asks;
  chunks_are = two.chunks_are ∙ ap (λ (l : List ℕ). l ++ won_chunks two.asks) one.chunks_are
      ∙ append_assoc (map chunk_of old.begun) (won_chunks one.asks) (won_chunks two.asks)
      ∙ ap (λ (l : List ℕ). map chunk_of old.begun ++ l) (sym (won_append one.asks two.asks));
  later = All-append (λ (ask : Ask). length old.calls ≤ ask.calls) one.asks two.asks one.later
      (λ k d inside.
      let least = two.later k d inside in
      let long = ap length one.calls_are in
      let both = length-append old.calls one.calls in
      omega (arith, least, long, both));
}

-- what is begun stays in turn
pub in_turn_behind : (old new : WriterView) → GoesOnInTurn old new → won_chunks old.asked ≡ map chunk_of old.begun
    → won_chunks new.asked ≡ map chunk_of new.begun
in_turn_behind old new on before =
    ap won_chunks on.asks_are ∙ won_append old.asked on.asks
    ∙ ap (λ (l : List ℕ). l ++ won_chunks on.asks) before ∙ sym on.chunks_are
