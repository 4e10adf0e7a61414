-- The slots of a table that threads share: one goes out with a seat, or comes back.
use Rattle.std.proofs.Common.{◌≡◌, ◌≢◌, ℕ, ◌<◌, Option, List, length, set, subst, sym, ap, ◌∙◌, arith, length-set}
use Rattle.std.proofs.lemmas.Bool.Decides.{nat_tests}
use Rattle.std.proofs.lemmas.List.{get_or-set_same, get_or-set_other}
use native.Mathlib.Decide.{ℕ_discrete}
use mathlib.Core.Logic.{dite}
use mathlib.Core.Option.{none, some}
use Rattle.atomic_table.proofs.Lists.{set_here, set_else}
use Rattle.commit_body.specs.declared.body.CommitBody.{CommitBody}
use Rattle.chunk_plain.specs.Setup.{Setup}
use Rattle.chunk_plain.specs.Stored.{Stored, nothing_stored, stored_at}
use Rattle.chunk_words.specs.Knows.{hand_with, put}
use Rattle.chunk_words.specs.Rule.{Roll, IsIn, HoldsBodies}

abbrev pub Homes : Type 0
Homes = List (mathlib.Core.Option.Option (Option CommitBody))

pub put_same : (f : ℕ → ℕ) (place value : ℕ) → put f place value place ≡ value
put_same f place value = grind (arith, nat_tests)

pub put_other : (f : ℕ → ℕ) (place value other : ℕ) → other ≢ place → put f place value other ≡ f other
put_other f place value other differs = grind (arith, nat_tests)

-- a writer has another hand
abbrev pub with_hand : Roll → ℕ → ℕ → Roll
with_hand roll place hand = record roll { hands = put roll.hands place hand }

abbrev pub with_service_hand : Roll → ℕ → Roll
with_service_hand roll hand = record roll { hand = hand }

-- where a hand that hasn't this slot changes, the slot was in before if it is in now
pub in_before : (roll : Roll) (place hand chunk : ℕ) → roll.hands place ≢ hand_with chunk → IsIn (with_hand roll place hand) chunk → IsIn roll chunk
in_before roll place hand chunk apart in_now = record {
  with_none = λ other. dite (ℕ_discrete other place)
      (λ same. subst (λ p. roll.hands p ≢ hand_with chunk) (sym same) apart)
      (λ differs e. in_now.with_none other (put_other roll.hands place hand other differs ∙ e));
  not_service = in_now.not_service;
}

pub in_before_service : (roll : Roll) (hand chunk : ℕ) → roll.hand ≢ hand_with chunk → IsIn (with_service_hand roll hand) chunk → IsIn roll chunk
in_before_service roll hand chunk apart in_now = record { with_none = in_now.with_none; not_service = apart }

-- no slot goes out or comes back, and each slot's body is as before
pub bodies_stay : (setup : Setup) (homes : Homes) (slots stored : List Stored) (roll next : Roll) → HoldsBodies setup homes slots roll
    → ((chunk : ℕ) → (stored_at stored chunk).body ≡ (stored_at slots chunk).body) → ((chunk : ℕ) → IsIn next chunk → IsIn roll chunk) → HoldsBodies setup homes stored next
bodies_stay setup homes slots stored roll next holds same back = record {
  count = holds.count;
  home_is = λ chunk inside in_now. holds.home_is chunk inside (back chunk in_now) ∙ ap (λ (b : Option CommitBody). some (some b)) (sym (same chunk));
}

-- the slot of a chunk goes out
pub bodies_out : (setup : Setup) (homes : Homes) (slots : List Stored) (roll next : Roll) (chunk : ℕ) → HoldsBodies setup homes slots roll
    → (IsIn next chunk → ⊥) → ((other : ℕ) → other ≢ chunk → IsIn next other → IsIn roll other) → HoldsBodies setup (set homes chunk none) slots next
bodies_out setup homes slots roll next chunk holds out back = record {
  count = length-set homes chunk none ∙ holds.count;
  home_is = λ d inside in_now. dite (ℕ_discrete d chunk)
      (λ same. absurd (out (subst (λ e. IsIn next e) same in_now)))
      (λ differs. set_else homes chunk d none differs ∙ holds.home_is d inside (back d differs in_now));
}

-- the slot of a chunk comes back, with what the chunk keeps now
pub bodies_back : (setup : Setup) (homes : Homes) (slots stored : List Stored) (roll next : Roll) (chunk : ℕ) (body : Option CommitBody) → HoldsBodies setup homes slots roll
    → chunk < length setup.spots → (stored_at stored chunk).body ≡ body
    → ((other : ℕ) → other ≢ chunk → (stored_at stored other).body ≡ (stored_at slots other).body)
    → ((other : ℕ) → other ≢ chunk → IsIn next other → IsIn roll other) → HoldsBodies setup (set homes chunk (some body)) stored next
bodies_back setup homes slots stored roll next chunk body holds inside here others back = record {
  count = length-set homes chunk (some body) ∙ holds.count;
  home_is = λ d below in_now. dite (ℕ_discrete d chunk)
      (λ same. subst (λ e. lib.ListN.get_elem? (set homes chunk (some body)) e ≡ some (some (stored_at stored e).body)) (sym same)
      (set_here homes chunk (some body) (let count = holds.count in omega arith) ∙ ap (λ (b : Option CommitBody). some (some b)) (sym here)))
      (λ differs. set_else homes chunk d (some body) differs ∙ (holds.home_is d below (back d differs in_now) ∙ ap (λ (b : Option CommitBody). some (some b)) (sym (others d differs))));
}

-- the body of one slot changes
pub body_here : (slots : List Stored) (chunk : ℕ) (body : Option CommitBody) → chunk < length slots
    → (stored_at (set slots chunk (record (stored_at slots chunk) { body = body })) chunk).body ≡ body
body_here slots chunk body inside = ap (λ (one : Stored). one.body) (get_or-set_same slots chunk (record (stored_at slots chunk) { body = body }) nothing_stored inside)

pub body_else : (slots : List Stored) (chunk other : ℕ) (body : Option CommitBody) → other ≢ chunk
    → (stored_at (set slots chunk (record (stored_at slots chunk) { body = body })) other).body ≡ (stored_at slots other).body
body_else slots chunk other body differs = ap (λ (one : Stored). one.body) (get_or-set_other slots chunk other (record (stored_at slots chunk) { body = body }) nothing_stored differs)
