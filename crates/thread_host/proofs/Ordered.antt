-- Which calls of a service read answers of writers, and that these never go back.
use Rattle.std.proofs.Common.{◌≡◌, ◌∙◌, ℕ, zero, suc, ◌<◌, ◌≤◌, ◌⊎◌, List, [], ◌∷◌, ◌++◌, length, sym, ap, subst, inl, inr, arith, ⊎_elim}
use Rattle.std.proofs.Props.{props}
use Rattle.std.proofs.Math.Logic.{∥∥₁_elim}
use mathlib.Core.Option.{some-ne-none}
use Rattle.chunk_plain.proofs.Lists.{at_inside, at_more}
use Rattle.chunk_plain.specs.Setup.{Setup}
use Rattle.chunk_plain.specs.Views.{At, Letter, Asked, Heard, ServiceView}
use Rattle.scenario_text.specs.declared.scenario.NumberedLine.{NumberedLine}
use Rattle.service_core.specs.Scraping.{ScrapesOne, ScrapesEach}
use Rattle.service_core.specs.Taking.{Takes, places_of}
use Rattle.thread_host.specs.Growing.{HearsLast, IsHearing, GrowsOnce, GrowsBy, Grows}
use Rattle.thread_host.specs.Tally.{AreHeardInOrder}

-- ---- one letter more

pub none_ordered : AreHeardInOrder []
none_ordered n m place flush chunks number many before early late some = absurd (some-ne-none (Heard place flush chunks) (sym early))

asked_ordered : (letters : List Letter) (events : ℕ) → AreHeardInOrder letters → AreHeardInOrder (letters ++ Asked events ∷ [])
asked_ordered letters events was n m place flush chunks number many before early late some =
    was n m place flush chunks number many before (old_of n flush chunks early) (old_of m number many late) some
  where
    old_of : (k f c : ℕ) → At (letters ++ Asked events ∷ []) k (Heard place f c) → At letters k (Heard place f c)
    old_of k f c at =
        ⊎_elim (λ old. old) (λ new. absurd (let never : Asked events ≡ Heard place f c = new.1 in cc))
        (at_more letters (Asked events) (Heard place f c) k at)

answer_ordered : (letters : List Letter) (place flush chunks : ℕ)
    → ((n number many : ℕ) → At letters n (Heard place number many) → 0 < number → (number ≤ flush) × (number ≡ flush → many ≡ chunks))
    → AreHeardInOrder letters → AreHeardInOrder (letters ++ Heard place flush chunks ∷ [])
answer_ordered letters place flush chunks older was n m p f c number many before early late some =
    by_parts (at_more letters (Heard place flush chunks) (Heard p f c) n early) (at_more letters (Heard place flush chunks) (Heard p number many) m late)
  where
    behind : Heard place flush chunks ≡ Heard p number many → At letters n (Heard p f c) → (f ≤ number) × (f ≡ number → c ≡ many)
    behind same one =
        let place_is : place ≡ p = cc in
        let flush_is : flush ≡ number = cc in
        let chunks_is : chunks ≡ many = cc in
        let is = older n f c (subst (λ (q : ℕ). At letters n (Heard q f c)) (sym place_is) one) some in
        let low = is.0 in
        (omega (arith, low, flush_is), λ equal. is.1 (omega (arith, equal, flush_is)) ∙ chunks_is)

    by_parts : At letters n (Heard p f c) ⊎ ((n ≡ length letters) × (Heard place flush chunks ≡ Heard p f c))
        → At letters m (Heard p number many) ⊎ ((m ≡ length letters) × (Heard place flush chunks ≡ Heard p number many))
        → (f ≤ number) × (f ≡ number → c ≡ many)
    by_parts (inl one) (inl other) = was n m p f c number many before one other some
    by_parts (inl one) (inr last) = behind last.1 one
    by_parts (inr last) (inl other) =
        absurd (let inside = at_inside letters (Heard p number many) m other in let at = last.0 in omega (arith, before, inside, at))
    by_parts (inr last) (inr other) = absurd (let at = last.0 in let here = other.0 in omega (arith, before, at, here))

last_ordered : (place : ℕ) (old new : ServiceView) → HearsLast place old new → AreHeardInOrder old.letters → AreHeardInOrder new.letters
last_ordered place old new hears was =
    subst (λ (v : ServiceView). AreHeardInOrder v.letters) (sym hears.view) (answer_ordered old.letters place hears.flush hears.chunks hears.heard was)

-- ---- by the calls

pub takes_letters : (setup : Setup) (places : List ℕ) (taken : ℕ) (old new : ServiceView) → Takes setup places taken old new → new.letters ≡ old.letters
takes_letters setup [] taken old new takes = ap (λ (v : ServiceView). v.letters) takes.1
takes_letters setup (place ∷ places) taken old new takes =
    takes_letters setup places takes.1 takes.2 new takes.5 ∙ ap (λ (v : ServiceView). v.letters) takes.4.view

one_letters : (setup : Setup) (one : ℕ) (old new : ServiceView) → ScrapesOne setup one old new → new.letters ≡ old.letters
one_letters setup one old new (inl part) = ap (λ (v : ServiceView). v.letters) part.view
one_letters setup one old new (inr none) = ap (λ (v : ServiceView). v.letters) none.view

each_letters : (setup : Setup) (places : List ℕ) (old new : ServiceView) → ScrapesEach setup places old new → new.letters ≡ old.letters
each_letters setup [] old new each = ap (λ (v : ServiceView). v.letters) each
each_letters setup (one ∷ places) old new each = each_letters setup places each.0 new each.2 ∙ one_letters setup one old each.0 each.1

pub same_ordered : (old new : List Letter) → new ≡ old → AreHeardInOrder old → AreHeardInOrder new
same_ordered old new same was = subst (λ (letters : List Letter). AreHeardInOrder letters) (sym same) was

pub hears_ordered : (writers : ℕ) (old new : ServiceView) → IsHearing writers old new → AreHeardInOrder old.letters → AreHeardInOrder new.letters
hears_ordered zero old new same was = same_ordered old.letters new.letters (ap (λ (v : ServiceView). v.letters) same) was
hears_ordered (suc place) old new hears was = last_ordered place hears.0 new hears.2 (hears_ordered place old hears.0 hears.1 was)

-- ---- by calls one after another

once_ordered : (setup : Setup) (lines : List NumberedLine) (old new : ServiceView) → GrowsOnce setup lines old new → AreHeardInOrder old.letters
    → AreHeardInOrder new.letters
once_ordered setup lines old new (inl collect) was =
    same_ordered old.letters new.letters (takes_letters setup (places_of collect.0 0 setup.writers) collect.1 old new collect.3) was
once_ordered setup lines old new (inr (inl scrape)) was =
    let places : List ℕ = places_of scrape.0 0 setup.writers in
    same_ordered old.letters new.letters
    (each_letters setup places scrape.3.between new scrape.3.scrapes ∙ takes_letters setup places scrape.1 old scrape.3.between scrape.3.takes) was
once_ordered setup lines old new (inr (inr (inl read))) was =
    same_ordered old.letters new.letters (ap (λ (v : ServiceView). v.letters) read.1) was
once_ordered setup lines old new (inr (inr (inr (inl hears)))) was = hears_ordered (length setup.writers) old new hears was
once_ordered setup lines old new (inr (inr (inr (inr asks)))) was =
    same_ordered (old.letters ++ Asked (length old.events) ∷ []) new.letters (ap (λ (v : ServiceView). v.letters) asks)
    (asked_ordered old.letters (length old.events) was)

by_ordered : (setup : Setup) (lines : List NumberedLine) (views : List ServiceView) (old new : ServiceView) → GrowsBy setup lines views old new
    → AreHeardInOrder old.letters → AreHeardInOrder new.letters
by_ordered setup lines [] old new same was = same_ordered old.letters new.letters (ap (λ (v : ServiceView). v.letters) same) was
by_ordered setup lines (view ∷ views) old new grows was = by_ordered setup lines views view new grows.1 (once_ordered setup lines old view grows.0 was)

ordered_prop : (letters : List Letter) → IsProp (AreHeardInOrder letters)
ordered_prop letters = Prim.hlevel props

pub grown_ordered : (setup : Setup) (lines : List NumberedLine) (old new : ServiceView) → Grows setup lines old new → AreHeardInOrder old.letters
    → AreHeardInOrder new.letters
grown_ordered setup lines old new grows was =
    ∥∥₁_elim grows (ordered_prop new.letters) (λ (by : (views : List ServiceView) × GrowsBy setup lines views old new). by_ordered setup lines by.0 old new by.1 was)
