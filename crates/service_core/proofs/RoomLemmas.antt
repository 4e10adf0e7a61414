-- Chunks that are taken use up positions.
use Rattle.std.proofs.Common.{◌≡◌, ◌∙◌, ℕ, zero, suc, ◌+◌, ◌-◌, ◌^◌, ◌<◌, ◌≤◌, ◌⊎◌, List, [], ◌∷◌, length, map, get_or, set, refl, sym, ap, subst, arith, inl, inr}
use Rattle.std.specs.List.{sum_by}
use Rattle.std.proofs.lemmas.Bool.{cases_eq}
use Rattle.std.proofs.lemmas.List.Sums.{sum_by-cons}
use Rattle.chunk_plain.specs.declared.tokens.TheConstants.{POSITION_LIMIT}
use Rattle.chunk_plain.specs.Setup.{Setup}
use Rattle.chunk_plain.specs.Views.{Taken, none_taken, ServiceView, taken_of}
use Rattle.service_core.specs.declared.service.ServiceCore.{ServiceCore}
use Rattle.service_core.specs.Agreement.{ServiceAgrees, ids_left}
use Rattle.service_core.specs.Taking.{Takes, took, taken_more, places_of}
use Rattle.service_core.proofs.QuietLemmas.{AllBelow, long_still, places_below}
use Rattle.service_core.proofs.TakingLemmas.{counts_at, taken_here, taken_other}

-- the positions that are left of each
abbrev room_of : List Taken → ℕ
room_of [] = 0
room_of (taken ∷ others) = (POSITION_LIMIT - taken.count) + room_of others

sum_room : (taken : List Taken) → sum_by (λ (n : ℕ). POSITION_LIMIT - n) (map (λ (t : Taken). t.count) taken) ≡ room_of taken
sum_room [] = refl
sum_room (one ∷ taken) =
    sum_by-cons (λ (n : ℕ). POSITION_LIMIT - n) one.count (map (λ (t : Taken). t.count) taken) ∙ ap (λ (n : ℕ). (POSITION_LIMIT - one.count) + n) (sum_room taken)

-- where more is taken of one, as much less is left
set_room : (taken : List Taken) (place more : ℕ) (one : Taken) → place < length taken → one.count ≡ (get_or taken place none_taken).count + more
    → one.count ≤ POSITION_LIMIT → room_of (set taken place one) + more ≡ room_of taken
set_room [] place more one inside is fits = absurd (omega (arith, inside))
set_room (first ∷ taken) zero more one inside is fits = omega (arith, is, fits)
set_room (first ∷ taken) (suc place) more one inside is fits =
    let rest = set_room taken place more one (omega (arith, inside)) is fits in omega (arith, rest)

-- no count falls
pub takes_grow : (setup : Setup) (places : List ℕ) (taken : ℕ) (old new : ServiceView) → AllBelow (length old.taken) places → Takes setup places taken old new
    → (place : ℕ) → (taken_of old place).count ≤ (taken_of new place).count
takes_grow setup [] taken old new below takes place =
    let same : (taken_of new place).count ≡ (taken_of old place).count = ap (λ (v : ServiceView). (taken_of v place).count) takes.1 in omega (arith, same)
takes_grow setup (one ∷ places) taken old new below takes place =
    let rest = takes_grow setup places takes.1 takes.2 new
    (subst (λ (n : ℕ). AllBelow n places) (sym (long_still setup one takes.0 old takes.2 takes.4)) below.1) takes.5 place in
    let first = step (cases_eq place one) in
    omega (arith, rest, first)
  where
    step : (place ≡ one) ⊎ (place ≡ one → ⊥) → (taken_of old place).count ≤ (taken_of takes.2 place).count
    step (inl same) =
        let here : (taken_of takes.2 place).count ≡ (taken_of old one).count + length takes.4.contents =
        ap (λ (v : ServiceView). (taken_of v place).count) takes.4.view ∙ ap (λ (p : ℕ). (taken_of (took old one takes.4.looks takes.4.contents) p).count) same
        ∙ ap (λ (t : Taken). t.count) (taken_here old one takes.4.looks takes.4.contents below.0) in
        let was : (taken_of old place).count ≡ (taken_of old one).count = ap (λ (p : ℕ). (taken_of old p).count) same in
        omega (arith, here, was)
    step (inr apart) =
        let here : (taken_of takes.2 place).count ≡ (taken_of old place).count =
        ap (λ (v : ServiceView). (taken_of v place).count) takes.4.view ∙ ap (λ (t : Taken). t.count) (taken_other old one place takes.4.looks takes.4.contents apart) in
        omega (arith, here)

takes_room : (setup : Setup) (places : List ℕ) (taken : ℕ) (old new : ServiceView) → AllBelow (length old.taken) places → Takes setup places taken old new
    → ((place : ℕ) → (taken_of new place).count ≤ POSITION_LIMIT) → room_of new.taken + taken ≡ room_of old.taken
takes_room setup [] taken old new below takes fits =
    let same = ap (λ (v : ServiceView). room_of v.taken) takes.1 in let none = takes.0 in omega (arith, same, none)
takes_room setup (place ∷ places) taken old new below takes fits =
    let later = subst (λ (n : ℕ). AllBelow n places) (sym (long_still setup place takes.0 old takes.2 takes.4)) below.1 in
    let rest = takes_room setup places takes.1 takes.2 new later takes.5 fits in
    let grows = takes_grow setup places takes.1 takes.2 new later takes.5 place in
    let last = fits place in
    let here : (taken_of takes.2 place).count ≡ (taken_of old place).count + length takes.4.contents =
    ap (λ (v : ServiceView). (taken_of v place).count) takes.4.view ∙ ap (λ (t : Taken). t.count) (taken_here old place takes.4.looks takes.4.contents below.0) in
    let first : room_of (set old.taken place (taken_more (taken_of old place) takes.4.contents)) + length takes.4.contents ≡ room_of old.taken =
    set_room old.taken place (length takes.4.contents) (taken_more (taken_of old place) takes.4.contents) below.0 refl (omega (arith, here, grows, last)) in
    let same : room_of takes.2.taken ≡ room_of (set old.taken place (taken_more (taken_of old place) takes.4.contents)) = ap (λ (v : ServiceView). room_of v.taken) takes.4.view in
    let many = takes.4.many in
    let sum = takes.3 in
    omega (arith, rest, first, same, many, sum)

-- A taking of some chunks leaves fewer positions.
pub ids_fall : {S : Type 0} (setup : Setup) (old new : ServiceView) (before after : ServiceCore S) (producer taken : ℕ) → ServiceAgrees setup old before
    → ServiceAgrees setup new after → Takes setup (places_of producer 0 setup.writers) taken old new
    → ((place : ℕ) → get_or after.taken.items place 0 < 2 ^ 32) → 0 < taken → ids_left after < ids_left before
ids_fall setup old new before after producer taken was is takes fit some =
    let below = places_below producer 0 setup.writers (length old.taken) (let many = was.many in omega arith) in
    let fits : (place : ℕ) → (taken_of new place).count ≤ POSITION_LIMIT = λ place.
    (let read = ap (λ (ns : List ℕ). get_or ns place 0) is.taken ∙ counts_at new place in let small = fit place in omega (arith, read, small)) in
    let room = takes_room setup (places_of producer 0 setup.writers) taken old new below takes fits in
    let left = ap (λ (ns : List ℕ). sum_by (λ (n : ℕ). POSITION_LIMIT - n) ns) was.taken ∙ sum_room old.taken in
    let rest = ap (λ (ns : List ℕ). sum_by (λ (n : ℕ). POSITION_LIMIT - n) ns) is.taken ∙ sum_room new.taken in
    omega (arith, room, left, rest, some)
