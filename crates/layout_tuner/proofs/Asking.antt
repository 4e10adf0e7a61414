-- The claims of one call, one behind another.
use Rattle.std.proofs.Common.{◌≡◌, ℕ, ◌+◌, ◌<◌, true, false, List, [], ◌∷◌, ◌++◌, subst, sym, refl, ap, ◌∙◌, arith, ⊎_elim, append_assoc, append-nil}
use Rattle.std.proofs.lemmas.List.{length-append}
use Rattle.page_geometry.specs.PageBits.{IsClaimed}
use Rattle.chunk_plain.specs.Owned.{times}
use Rattle.chunk_plain.proofs.Lists.{at_more, times-here}
use mathlib.Core.Option.{some-ne-none}
use Rattle.std.proofs.lemmas.Bool.Decides.{nat_tests}
use Rattle.layout_tuner.specs.PageWords.{spot, is_clear}
use Rattle.layout_tuner.specs.Knows.{Ask, UserView, claims}
use Rattle.layout_tuner.specs.Plays.{Claims}
use Rattle.layout_tuner.specs.Claiming.{AsksInVain, ClaimsFirst}

-- the test of a claim bit, as a page word's accessor makes it
pub taken_word : (word place : ℕ) → IsClaimed word place → is_clear word place ≡ false
taken_word word place is = grind (arith, nat_tests, is)

pub clear_word : (word place : ℕ) → (IsClaimed word place → ⊥) → is_clear word place ≡ true
clear_word word place isnt = grind (arith, nat_tests, isnt)

pub asks_none : (view : UserView) → AsksInVain 0 view view
asks_none view = record {
  asks = [];
  many = refl;
  each = λ k ask at. absurd (some-ne-none ask (sym at));
  new_is = ap (λ (l : List Ask). let v : UserView = record view { asked = l } in v) (sym (append-nil view.asked));
}

pub asks_more : (count page place found : ℕ) (old view new : UserView) → AsksInVain count old view → spot page place ≡ count → place < 14 → is_clear found place ≡ false
    → new ≡ claims view page place found false → AsksInVain (count + 1) old new
asks_more count page place found old view new vain here below taken is =
    let ask : Ask = record { page = page; place = place; found = found } in
    record {
      asks = vain.asks ++ ask ∷ [];
      many = length-append vain.asks (ask ∷ []) ∙ (let many = vain.many in omega (arith, many));
      each = λ k one at. ⊎_elim
          (λ before. vain.each k one before)
          (λ last. subst (λ (a : Ask). (spot a.page a.place ≡ k) × (a.place < 14) × (is_clear a.found a.place ≡ false)) last.1 (here ∙ (sym vain.many ∙ sym last.0), below, taken))
          (at_more vain.asks ask one k at);
      new_is = is ∙ (ap (λ (v : UserView). claims v page place found false) vain.new_is
          ∙ ap (λ (l : List Ask). let v : UserView = record old { asked = l } in v) (append_assoc old.asked vain.asks (ask ∷ [])));
    }

-- a claim that found its bit set
pub lost_is : (page place found : ℕ) (old new : UserView) → Claims page place old found new → is_clear found place ≡ false → new ≡ claims old page place found false
lost_is page place found old new is taken = is.new_is ∙ ap (λ b. claims old page place found b) taken

-- a claim that won
pub won_is : (page place found : ℕ) (old new : UserView) → Claims page place old found new → is_clear found place ≡ true → new ≡ claims old page place found true
won_is page place found old new is clear = is.new_is ∙ ap (λ b. claims old page place found b) clear

pub first_won : (page place found : ℕ) (old view new : UserView) → AsksInVain (spot page place) old view → Claims page place view found new → is_clear found place ≡ true → ClaimsFirst page place old new
first_won page place found old view new vain is clear = record {
  between = view;
  vain = vain;
  found = found;
  clear = clear;
  inside = is.inside clear;
  new_is = won_is page place found view new is clear;
}

pub has_won : (page place found : ℕ) (view new : UserView) → Claims page place view found new → is_clear found place ≡ true → 0 < times (spot page place) new.claimed
has_won page place found view new is clear =
    let one = ap (λ (v : UserView). times (spot page place) v.claimed) (won_is page place found view new is clear) ∙ times-here (spot page place) view.claimed in omega (arith, one)
