-- Which calls of a service take chunks: collects and scrapes alone, of the writers whose producer is collected, and how many at most.
use Rattle.std.proofs.Common.{◌≡◌, ◌≢◌, ◌∙◌, ℕ, suc, ◌+◌, ◌<◌, ◌≤◌, ◌⊎◌, Bool, true, false, List, [], ◌∷◌, length, refl, sym, ap, subst, inl, inr, arith}
use Rattle.std.specs.Prelude.{◌==◌, if◌then◌else◌}
use Rattle.std.proofs.lemmas.Bool.{cases_eq, cases_lt}
use Rattle.std.proofs.lemmas.List.{set_past}
use Rattle.trace_base.specs.declared.policy.WriterSpec.{WriterSpec}
use Rattle.chunk_plain.specs.Setup.{Setup, producer_of, range_of}
use Rattle.chunk_plain.specs.Views.{ServiceView, Taken, taken_of}
use Rattle.service_core.specs.Scraping.{ScrapesOne, ScrapesEach}
use Rattle.service_core.specs.Taking.{Takes, TakesOf, places_of, taken_more, took}
use Rattle.service_core.proofs.TakingLemmas.{taken_here, taken_other}
use Rattle.thread_service.proofs.SettlingLemmas.{rounds_look}

-- ---- by the calls

pub takes_other : (setup : Setup) (producer taken : ℕ) (old new : ServiceView) → Takes setup (places_of producer 0 setup.writers) taken old new
    → (place : ℕ) → producer_of setup place ≢ producer → taken_of new place ≡ taken_of old place
takes_other setup producer taken old new takes place other = (rounds_look setup producer (taken ∷ []) old new (new, takes, refl)).others place other

one_takes_none : (setup : Setup) (one : ℕ) (old new : ServiceView) → ScrapesOne setup one old new → new.taken ≡ old.taken
one_takes_none setup one old new (inl part) = ap (λ (v : ServiceView). v.taken) part.view
one_takes_none setup one old new (inr none) = ap (λ (v : ServiceView). v.taken) none.view

pub each_takes_none : (setup : Setup) (places : List ℕ) (old new : ServiceView) → ScrapesEach setup places old new → new.taken ≡ old.taken
each_takes_none setup [] old new each = ap (λ (v : ServiceView). v.taken) each
each_takes_none setup (one ∷ places) old new each =
    each_takes_none setup places each.0 new each.2 ∙ one_takes_none setup one old each.0 each.1

-- ---- how many

-- by one taking of one writer
took_most : (setup : Setup) (first taken : ℕ) (old new : ServiceView) → TakesOf setup first taken old new → (place : ℕ)
    → (place ≢ first → (taken_of new place).count ≡ (taken_of old place).count)
    × ((taken_of new place).count ≤ (taken_of old place).count + (range_of setup (producer_of setup place)).count)
took_most setup first taken old new takes place = (other, by_place (cases_eq place first))
  where
    view : (taken_of new place).count ≡ (taken_of (took old first takes.looks takes.contents) place).count
    view = ap (λ (v : ServiceView). (taken_of v place).count) takes.view

    other : place ≢ first → (taken_of new place).count ≡ (taken_of old place).count
    other apart = view ∙ ap (λ (t : Taken). t.count) (taken_other old first place takes.looks takes.contents apart)

    own : (first < length old.taken) ⊎ (length old.taken ≤ first)
        → (taken_of new first).count ≤ (taken_of old first).count + (range_of setup (producer_of setup first)).count
    own (inl inside) =
        let here : (taken_of new first).count ≡ (taken_of old first).count + length takes.contents =
        ap (λ (v : ServiceView). (taken_of v first).count) takes.view ∙ ap (λ (t : Taken). t.count) (taken_here old first takes.looks takes.contents inside) in
        let many = takes.many in let most = takes.most in omega (arith, here, many, most)
    own (inr past) =
        let here : (taken_of new first).count ≡ (taken_of old first).count =
        ap (λ (v : ServiceView). (taken_of v first).count) takes.view
        ∙ ap (λ (ts : List Taken). (taken_of (record old { taken = ts }) first).count) (set_past old.taken first (taken_more (taken_of old first) takes.contents) past) in
        omega (arith, here)

    by_place : (place ≡ first) ⊎ (place ≡ first → ⊥)
        → (taken_of new place).count ≤ (taken_of old place).count + (range_of setup (producer_of setup place)).count
    by_place (inl is) =
        subst (λ (p : ℕ). (taken_of new p).count ≤ (taken_of old p).count + (range_of setup (producer_of setup p)).count) (sym is)
        (own (cases_lt first (length old.taken)))
    by_place (inr apart) = let same = other apart in omega (arith, same)

-- by one collect, each writer of the producer once
pub takes_most : (setup : Setup) (producer first : ℕ) (specs : List WriterSpec) (taken : ℕ) (old new : ServiceView) → Takes setup (places_of producer first specs) taken old new
    → (place : ℕ) → (place < first → (taken_of new place).count ≡ (taken_of old place).count)
    × ((taken_of new place).count ≤ (taken_of old place).count + (range_of setup (producer_of setup place)).count)
takes_most setup producer first [] taken old new takes place =
    let same : (taken_of new place).count ≡ (taken_of old place).count = ap (λ (v : ServiceView). (taken_of v place).count) takes.1 in
    (λ before. same, omega (arith, same))
takes_most setup producer first (spec ∷ specs) taken old new takes place =
    by_own (spec.producer == producer) (λ number between later rest. takes_most setup producer (suc first) specs number between later rest place) takes
  where
    by_own : (b : Bool)
        → ((number : ℕ) (between later : ServiceView) → Takes setup (places_of producer (suc first) specs) number between later
        → (place < suc first → (taken_of later place).count ≡ (taken_of between place).count)
        × ((taken_of later place).count ≤ (taken_of between place).count + (range_of setup (producer_of setup place)).count))
        → Takes setup (if b then first ∷ places_of producer (suc first) specs else places_of producer (suc first) specs) taken old new
        → (place < first → (taken_of new place).count ≡ (taken_of old place).count)
        × ((taken_of new place).count ≤ (taken_of old place).count + (range_of setup (producer_of setup place)).count)
    by_own false others rest =
        let more = others taken old new rest in
        (λ before. more.0 (omega (arith, before)), more.1)
    by_own true others both =
        let here = took_most setup first both.0 old both.2 both.4 place in
        let more = others both.1 both.2 new both.5 in (
          λ before. more.0 (omega (arith, before)) ∙ here.0 (λ is. omega (arith, is, before)),
          elim (cases_lt first place) [
            | inl behind ↦ (let first_same = here.0 (λ is. omega (arith, is, behind)) in let bound = more.1 in omega (arith, first_same, bound))
            | inr front ↦ (let rest_same = more.0 (omega (arith, front)) in let bound = here.1 in omega (arith, rest_same, bound))
          ],
        )
