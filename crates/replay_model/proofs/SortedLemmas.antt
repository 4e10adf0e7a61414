-- The notes on each sequence stay in order while chunks are taken, sequences are closed and buffers are read.
use Rattle.std.proofs.Common.{◌≡◌, ◌≢◌, ◌∙◌, ℕ, suc, ◌+◌, ◌-◌, ◌<◌, ◌≤◌, ◌⊎◌, Bool, true, false, ◌||◌, List, [], ◌∷◌, ◌++◌, length, Some, refl, sym, ap, subst, arith, inl, inr, length-append, cond}
use Rattle.std.specs.Prelude.{◌==◌, slice_get}
use Rattle.std.specs.List.{flat_map}
use Rattle.std.proofs.lemmas.Bool.{eq-eqb, ne_eqb, eqb-true, cases_eq}
use Rattle.std.proofs.Math.Bool.{or-false, or-true, or_assoc}
use Rattle.std.proofs.lemmas.List.{length-set}
use Rattle.trace_base.proofs.Choices.{match_true, match_false}
use Rattle.trace_base.proofs.Lists.{get_behind, get_seam}
use Rattle.trace_base.specs.declared.policy.WriterSpec.{WriterSpec}
use Rattle.trace_model.specs.Images.{Patch}
use Rattle.trace_model.specs.History as model
use Rattle.chunk_plain.specs.Setup.{Setup, producer_of, sequence_of}
use Rattle.chunk_plain.specs.Steps.{notes_commit}
use Rattle.chunk_plain.specs.Views.{Content, Look, Taken, Noted, Commit, Committed, ServiceView, taken_of}
use Rattle.chunk_plain.specs.Histories.{content_at}
use Rattle.world_model.specs.Accounts.{NoneCommitted}
use Rattle.service_core.specs.Agreement.{AreKnownNotes, spec_at}
use Rattle.service_core.specs.Closing.{closes_of}
use Rattle.service_core.specs.Order.{Stage, beginning, LeadTo}
use Rattle.service_core.specs.Reading.{noted_read}
use Rattle.service_core.specs.Taking.{patched_where, takings, taken_more, took, noted_more, TakesOf, Takes, places_of}
use Rattle.service_core.proofs.CloseLemmas.{noted_grows, committed_grows}
use Rattle.service_core.proofs.HistoryLemmas.{Grows, known_append, all_known_grow}
use Rattle.service_core.proofs.OrderLemmas.{lead_both, lead_grows}
use Rattle.service_core.proofs.TakingLemmas.{taken_here, taken_other, took_grows}
use Rattle.replay_model.specs.Does.{AreOpen, is_close_of, is_shut}

-- ---- words

-- so many chunks have come, and no patch is due
abbrev pub at_stage : ℕ → Bool → Stage
at_stage come closed = record { come = come; closed = closed; due = [] }

-- The notes on each sequence have come to where the view stands, where nothing of it came by a commit.
pub record IsSorted (setup : Setup) (service : ServiceView) : Type 0 where
  pub many : length service.taken ≡ length setup.writers
  pub level : (place : ℕ) → length (taken_of service place).contents ≡ (taken_of service place).count
  pub known : AreKnownNotes service service.events
  pub lead : (place : ℕ) → place < length setup.writers → NoneCommitted service (sequence_of place)
      → LeadTo service (sequence_of place) beginning service.events (at_stage (taken_of service place).count (is_shut (sequence_of place) service.events))

-- the number stands in the list
abbrev pub Among : ℕ → List ℕ → Type 0
Among n [] = ⊥
Among n (m ∷ ms) = (m ≡ n) ⊎ Among n ms

pub shut_append : (q : ℕ) (xs ys : List Noted) → is_shut q (xs ++ ys) ≡ (is_shut q xs || is_shut q ys)
shut_append q [] ys = refl
shut_append q (x ∷ xs) ys =
    ap (λ (b : Bool). is_close_of q x || b) (shut_append q xs ys) ∙ sym (or_assoc (is_close_of q x) (is_shut q xs) (is_shut q ys))

-- ---- more notes

pub sorted_more : (setup : Setup) (old new : ServiceView) (notes : List Noted) → IsSorted setup old → Grows old new → new.events ≡ old.events ++ notes
    → length new.taken ≡ length old.taken → ((place : ℕ) → length (taken_of new place).contents ≡ (taken_of new place).count) → AreKnownNotes new notes
    → ((place : ℕ) → place < length setup.writers → NoneCommitted new (sequence_of place)
    → LeadTo new (sequence_of place) (at_stage (taken_of old place).count (is_shut (sequence_of place) old.events)) notes
    (at_stage (taken_of new place).count (is_shut (sequence_of place) old.events || is_shut (sequence_of place) notes)))
    → IsSorted setup new
sorted_more setup old new notes sorted grows events_are taken_are level known leads = record {
  many = taken_are ∙ sorted.many;
  level = level;
  known = subst (AreKnownNotes new) (sym events_are) (known_append new old.events notes (all_known_grow old new old.events grows sorted.known) known);
  lead = λ place inside none.
      let q : ℕ = sequence_of place in
      let last : ℕ = (taken_of new place).count in
      let before : Bool = is_shut q old.events in
      let closed_is : (before || is_shut q notes) ≡ is_shut q new.events = sym (ap (is_shut q) events_are ∙ shut_append q old.events notes) in
      subst (λ (es : List Noted). LeadTo new q beginning es (at_stage last (is_shut q new.events))) (sym events_are)
      (subst (λ (b : Bool). LeadTo new q beginning (old.events ++ notes) (at_stage last b)) closed_is
      (lead_both new q beginning (at_stage (taken_of old place).count before) (at_stage last (before || is_shut q notes)) old.events notes
      (lead_grows old new q beginning (at_stage (taken_of old place).count before) old.events grows sorted.known
      (sorted.lead place inside (λ k one is. none k one (grows.commits k one is))))
      (leads place inside none)));
}

-- ---- chunks that are taken of one writer

behind_patches : (view : ServiceView) (q id : ℕ) (content : Content) (patches : List Patch) → content_at view q id ≡ Some content → content.patches ≡ patches
    → LeadTo view q (record { come = suc id; closed = false; due = patches }) (patched_where patches q id) (at_stage (suc id) false)
behind_patches view q id content [] there is = refl
behind_patches view q id content (patch ∷ patches) there is = match_true (q == q) _ _ (eq-eqb q q refl) (content, there, is, refl)

pub lead_takings : (view : ServiceView) (q id : ℕ) (contents : List Content)
    → ((k : ℕ) (content : Content) → slice_get contents k ≡ Some content → content_at view q (id + k) ≡ Some content)
    → LeadTo view q (at_stage id false) (takings q id contents) (at_stage (id + length contents) false)
lead_takings view q id [] there = ap (λ (n : ℕ). at_stage n false) (let same : id ≡ id + 0 = omega arith in same)
lead_takings view q id (content ∷ contents) there =
    let zeroth : id ≡ id + 0 = omega arith in
    let first : content_at view q id ≡ Some content = ap (content_at view q) zeroth ∙ there 0 content refl in
    let rest : LeadTo view q (at_stage (suc id) false) (takings q (suc id) contents) (at_stage (suc id + length contents) false) =
    lead_takings view q (suc id) contents (λ k c is. ap (content_at view q) (let same : suc id + k ≡ id + suc k = omega arith in same) ∙ there (suc k) c is) in
    let sum : suc id + length contents ≡ id + suc (length contents) = omega arith in
    let last : LeadTo view q (at_stage (suc id) false) (takings q (suc id) contents) (at_stage (id + suc (length contents)) false) =
    subst (λ (n : ℕ). LeadTo view q (at_stage (suc id) false) (takings q (suc id) contents) (at_stage n false)) sum rest in (
      refl,
      match_true (q == q) _ _ (eq-eqb q q refl) (
        refl,
        refl,
        content,
        first,
        lead_both view q (record { come = suc id; closed = false; due = content.patches }) (at_stage (suc id) false) (at_stage (id + suc (length contents)) false)
            (patched_where content.patches q id) (takings q (suc id) contents) (behind_patches view q id content content.patches first refl) last,
      ),
    )

pub lead_takings_other : (view : ServiceView) (q other id come : ℕ) (closed : Bool) (contents : List Content) → other ≢ q
    → LeadTo view q (at_stage come closed) (takings other id contents) (at_stage come closed)
lead_takings_other view q other id come closed [] differs = refl
lead_takings_other view q other id come closed (content ∷ contents) differs = (
  refl,
  match_false (other == q) _ _ (ne_eqb other q differs)
      (lead_both view q (at_stage come closed) (at_stage come closed) (at_stage come closed) (patched_where content.patches other id) (takings other (suc id) contents)
      (behind content.patches) (lead_takings_other view q other (suc id) come closed contents differs)),
)
  where
    behind : (patches : List Patch) → LeadTo view q (at_stage come closed) (patched_where patches other id) (at_stage come closed)
    behind [] = refl
    behind (patch ∷ patches) = match_false (other == q) _ _ (ne_eqb other q differs) (refl, refl)

shut_patches : (q s id : ℕ) (patches : List Patch) → is_shut q (patched_where patches s id) ≡ false
shut_patches q s id [] = refl
shut_patches q s id (patch ∷ patches) = refl

pub shut_takings : (q s id : ℕ) (contents : List Content) → is_shut q (takings s id contents) ≡ false
shut_takings q s id [] = refl
shut_takings q s id (content ∷ contents) =
    shut_append q (patched_where content.patches s id) (takings s (suc id) contents)
    ∙ ap (λ (b : Bool). b || is_shut q (takings s (suc id) contents)) (shut_patches q s id content.patches)
    ∙ shut_takings q s (suc id) contents

known_takings : (view : ServiceView) (q id : ℕ) (contents : List Content)
    → ((k : ℕ) (content : Content) → slice_get contents k ≡ Some content → content_at view q (id + k) ≡ Some content)
    → AreKnownNotes view (takings q id contents)
known_takings view q id [] there = tt
known_takings view q id (content ∷ contents) there =
    let zeroth : id ≡ id + 0 = omega arith in
    let first : content_at view q id ≡ Some content = ap (content_at view q) zeroth ∙ there 0 content refl in
    let rest = known_takings view q (suc id) contents (λ k c is. ap (content_at view q) (let same : suc id + k ≡ id + suc k = omega arith in same) ∙ there (suc k) c is) in
    ((content, first), known_append view (patched_where content.patches q id) (takings q (suc id) contents) (behind content.patches first) rest)
  where
    behind : (patches : List Patch) → content_at view q id ≡ Some content → AreKnownNotes view (patched_where patches q id)
    behind [] is = tt
    behind (patch ∷ patches) is = ((content, is), tt)

-- the contents of what was taken are there
taken_there : (view : ServiceView) (place : ℕ) (looks : List Look) (contents : List Content) → place < length view.taken
    → length (taken_of view place).contents ≡ (taken_of view place).count
    → (k : ℕ) (content : Content) → slice_get contents k ≡ Some content
    → content_at (took view place looks contents) (sequence_of place) ((taken_of view place).count + k) ≡ Some content
taken_there view place looks contents inside level k content is =
    let t : Taken = taken_of view place in
    let back : place + 2 - 2 ≡ place = omega arith in
    ap (λ (p : ℕ). slice_get (taken_of (took view place looks contents) p).contents (t.count + k)) back
    ∙ ap (λ (x : Taken). slice_get x.contents (t.count + k)) (taken_here view place looks contents inside)
    ∙ ap (λ (n : ℕ). slice_get (t.contents ++ contents) (n + k)) (sym level)
    ∙ get_behind t.contents contents k content is

pub shut_took : (q : ℕ) (view : ServiceView) (place : ℕ) (looks : List Look) (contents : List Content)
    → is_shut q (took view place looks contents).events ≡ is_shut q view.events
shut_took q view place looks contents =
    shut_append q view.events (takings (sequence_of place) (taken_of view place).count contents)
    ∙ ap (λ (b : Bool). is_shut q view.events || b) (shut_takings q (sequence_of place) (taken_of view place).count contents)
    ∙ or-false (is_shut q view.events)

pub sorted_took : (setup : Setup) (view : ServiceView) (place : ℕ) (looks : List Look) (contents : List Content) → IsSorted setup view
    → place < length setup.writers → is_shut (sequence_of place) view.events ≡ false → IsSorted setup (took view place looks contents)
sorted_took setup view place looks contents sorted inside opened =
    let new : ServiceView = took view place looks contents in
    let many = sorted.many in
    let low : place < length view.taken = omega (arith, inside, many) in
    let t : Taken = taken_of view place in
    let notes : List Noted = takings (sequence_of place) t.count contents in
    sorted_more setup view new notes sorted (took_grows view place looks contents low) refl
    (length-set view.taken place (taken_more t contents))
    (λ p. level_at low p (cases_eq p place))
    (known_takings new (sequence_of place) t.count contents (taken_there view place looks contents low (sorted.level place)))
    (λ p below none. lead_at low p (cases_eq p place))
  where
    level_at : place < length view.taken → (p : ℕ) → (p ≡ place) ⊎ (p ≡ place → ⊥)
        → length (taken_of (took view place looks contents) p).contents ≡ (taken_of (took view place looks contents) p).count
    level_at low p (inl same) =
        let t : Taken = taken_of view place in
        let long = length-append t.contents contents in
        let level = sorted.level place in
        let here : length (taken_more t contents).contents ≡ (taken_more t contents).count = omega (arith, long, level) in
        subst (λ (x : Taken). length x.contents ≡ x.count) (sym (ap (taken_of (took view place looks contents)) same ∙ taken_here view place looks contents low)) here
    level_at low p (inr differs) =
        subst (λ (x : Taken). length x.contents ≡ x.count) (sym (taken_other view place p looks contents differs)) (sorted.level p)

    lead_at : place < length view.taken → (p : ℕ) → (p ≡ place) ⊎ (p ≡ place → ⊥)
        → LeadTo (took view place looks contents) (sequence_of p) (at_stage (taken_of view p).count (is_shut (sequence_of p) view.events))
        (takings (sequence_of place) (taken_of view place).count contents)
        (at_stage (taken_of (took view place looks contents) p).count
        (is_shut (sequence_of p) view.events || is_shut (sequence_of p) (takings (sequence_of place) (taken_of view place).count contents)))
    lead_at low p (inl same) =
        let new : ServiceView = took view place looks contents in
        let t : Taken = taken_of view place in
        let q : ℕ = sequence_of place in
        let notes : List Noted = takings q t.count contents in
        let last_closed : (is_shut q view.events || is_shut q notes) ≡ false =
        ap (λ (b : Bool). b || is_shut q notes) opened ∙ shut_takings q q t.count contents in
        let last_count : (taken_of new place).count ≡ t.count + length contents = ap (λ (x : Taken). x.count) (taken_here view place looks contents low) in
        let h : LeadTo new q (at_stage t.count false) notes (at_stage (t.count + length contents) false) =
        lead_takings new q t.count contents (taken_there view place looks contents low (sorted.level place)) in
        let h1 : LeadTo new q (at_stage t.count (is_shut q view.events)) notes (at_stage (t.count + length contents) false) =
        subst (λ (b : Bool). LeadTo new q (at_stage t.count b) notes (at_stage (t.count + length contents) false)) (sym opened) h in
        let h2 : LeadTo new q (at_stage t.count (is_shut q view.events)) notes (at_stage (taken_of new place).count false) =
        subst (λ (n : ℕ). LeadTo new q (at_stage t.count (is_shut q view.events)) notes (at_stage n false)) (sym last_count) h1 in
        let h3 : LeadTo new q (at_stage t.count (is_shut q view.events)) notes (at_stage (taken_of new place).count (is_shut q view.events || is_shut q notes)) =
        subst (λ (b : Bool). LeadTo new q (at_stage t.count (is_shut q view.events)) notes (at_stage (taken_of new place).count b)) (sym last_closed) h2 in
        subst (λ (r : ℕ). LeadTo new (sequence_of r) (at_stage (taken_of view r).count (is_shut (sequence_of r) view.events)) notes
        (at_stage (taken_of new r).count (is_shut (sequence_of r) view.events || is_shut (sequence_of r) notes))) (sym same) h3
    lead_at low p (inr differs) =
        let new : ServiceView = took view place looks contents in
        let t : Taken = taken_of view place in
        let q : ℕ = sequence_of p in
        let notes : List Noted = takings (sequence_of place) t.count contents in
        let last_closed : is_shut q view.events ≡ (is_shut q view.events || is_shut q notes) =
        sym (ap (λ (b : Bool). is_shut q view.events || b) (shut_takings q (sequence_of place) t.count contents) ∙ or-false (is_shut q view.events)) in
        let last_count : (taken_of view p).count ≡ (taken_of new p).count = sym (ap (λ (x : Taken). x.count) (taken_other view place p looks contents differs)) in
        let apart : sequence_of place ≢ q = λ e. differs (let same : p ≡ place = omega (arith, e) in same) in
        let h : LeadTo new q (at_stage (taken_of view p).count (is_shut q view.events)) notes (at_stage (taken_of view p).count (is_shut q view.events)) =
        lead_takings_other new q (sequence_of place) t.count (taken_of view p).count (is_shut q view.events) contents apart in
        let h1 : LeadTo new q (at_stage (taken_of view p).count (is_shut q view.events)) notes (at_stage (taken_of new p).count (is_shut q view.events)) =
        subst (λ (n : ℕ). LeadTo new q (at_stage (taken_of view p).count (is_shut q view.events)) notes (at_stage n (is_shut q view.events))) last_count h in
        subst (λ (b : Bool). LeadTo new q (at_stage (taken_of view p).count (is_shut q view.events)) notes (at_stage (taken_of new p).count b)) last_closed h1

-- ---- of all writers of a producer

pub sorted_takes : (setup : Setup) (places : List ℕ) (taken : ℕ) (old new : ServiceView) → IsSorted setup old
    → ((p : ℕ) → Among p places → (p < length setup.writers) × (is_shut (sequence_of p) old.events ≡ false)) → Takes setup places taken old new
    → IsSorted setup new × ((q : ℕ) → is_shut q new.events ≡ is_shut q old.events)
sorted_takes setup [] taken old new sorted fits takes =
    (subst (IsSorted setup) (sym takes.1) sorted, λ q. ap (λ (v : ServiceView). is_shut q v.events) takes.1)
sorted_takes setup (place ∷ places) taken old new sorted fits takes =
    let mid : ServiceView = takes.2 in
    let of : TakesOf setup place takes.0 old mid = takes.4 in
    let here = fits place (inl refl) in
    let next : IsSorted setup mid = subst (IsSorted setup) (sym of.view) (sorted_took setup old place of.looks of.contents sorted here.0 here.1) in
    let same : (q : ℕ) → is_shut q mid.events ≡ is_shut q old.events =
    λ q. ap (λ (v : ServiceView). is_shut q v.events) of.view ∙ shut_took q old place of.looks of.contents in
    let rest = sorted_takes setup places takes.1 mid new next (λ p among. let f = fits p (inr among) in (f.0, same (sequence_of p) ∙ f.1)) takes.5 in
    (rest.0, λ q. rest.1 q ∙ same q)

-- the places of a producer's writers
pub record IsPlaceOf (producer first : ℕ) (specs : List WriterSpec) (place : ℕ) : Type 0 where
  pub offset : ℕ
  pub place_is : place ≡ first + offset
  pub inside : offset < length specs
  pub producer_is : (spec_at specs offset).producer ≡ producer

pub place_among : (producer first : ℕ) (specs : List WriterSpec) (place : ℕ) → Among place (places_of producer first specs) → IsPlaceOf producer first specs place
place_among producer first [] place among = absurd among
place_among producer first (spec ∷ specs) place among =
    step (spec.producer == producer) refl (λ h. place_among producer (suc first) specs place h) among
  where
    later : IsPlaceOf producer (suc first) specs place → IsPlaceOf producer first (spec ∷ specs) place
    later is =
        let at = is.place_is in
        let inside = is.inside in
        record { offset = suc is.offset; place_is = omega (arith, at); inside = omega (arith, inside); producer_is = is.producer_is }

    step : (b : Bool) → (spec.producer == producer) ≡ b → (Among place (places_of producer (suc first) specs) → IsPlaceOf producer (suc first) specs place)
        → Among place (cond b (first ∷ places_of producer (suc first) specs) (places_of producer (suc first) specs))
        → IsPlaceOf producer first (spec ∷ specs) place
    step true is rest (inl same) =
        record { offset = 0; place_is = let at : place ≡ first + 0 = omega (arith, same) in at; inside = omega arith; producer_is = eqb-true spec.producer producer is }
    step true is rest (inr h) = later (rest h)
    step false is rest h = later (rest h)

-- and those of an open one
pub open_places_fit : (setup : Setup) (producer : ℕ) (service : ServiceView) → AreOpen setup producer service
    → (p : ℕ) → Among p (places_of producer 0 setup.writers) → (p < length setup.writers) × (is_shut (sequence_of p) service.events ≡ false)
open_places_fit setup producer service opened p among =
    let is = place_among producer 0 setup.writers p among in
    let at = is.place_is in
    let same : is.offset ≡ p = omega (arith, at) in
    let low : p < length setup.writers = let inside = is.inside in omega (arith, inside, same) in
    (low, opened p low (subst (λ (i : ℕ). producer_of setup i ≡ producer) same is.producer_is))

-- ---- closes

-- the numbers rise from this one on
abbrev Rising : ℕ → List ℕ → Type 0
Rising low [] = Unit {0}
Rising low (n ∷ ns) = (low ≤ n) × Rising (suc n) ns

rising_from : (low least : ℕ) (ns : List ℕ) → low ≤ least → Rising least ns → Rising low ns
rising_from low least [] below h = tt
rising_from low least (n ∷ ns) below h = let first = h.0 in (omega (arith, below, first), h.1)

rising_places : (producer first : ℕ) (specs : List WriterSpec) → Rising first (places_of producer first specs)
rising_places producer first [] = tt
rising_places producer first (spec ∷ specs) = step (spec.producer == producer) (rising_places producer (suc first) specs)
  where
    step : (b : Bool) → Rising (suc first) (places_of producer (suc first) specs)
        → Rising first (cond b (first ∷ places_of producer (suc first) specs) (places_of producer (suc first) specs))
    step true rest = (let same : first ≤ first = omega arith in same, rest)
    step false rest = rising_from first (suc first) (places_of producer (suc first) specs) (omega arith) rest

rising_least : (low n : ℕ) (ns : List ℕ) → Rising low ns → Among n ns → low ≤ n
rising_least low n [] h among = absurd among
rising_least low n (m ∷ ns) h (inl same) = let first = h.0 in omega (arith, first, same)
rising_least low n (m ∷ ns) h (inr among) = let later = rising_least (suc m) n ns h.1 among in let first = h.0 in omega (arith, later, first)

lead_closes : (view : ServiceView) (target come : ℕ) (closed : Bool) (low : ℕ) (places : List ℕ) → Rising low places → (Among target places → closed ≡ false)
    → LeadTo view (sequence_of target) (at_stage come closed) (closes_of places) (at_stage come (closed || is_shut (sequence_of target) (closes_of places)))
lead_closes view target come closed low [] rising opened = ap (at_stage come) (sym (or-false closed))
lead_closes view target come closed low (place ∷ places) rising opened =
    by_place (λ behind. lead_closes view target come true (suc place) places rising.1 behind)
    (λ behind. lead_closes view target come closed (suc place) places rising.1 behind) (cases_eq place target)
  where
    by_place : ((Among target places → true ≡ false)
        → LeadTo view (sequence_of target) (at_stage come true) (closes_of places) (at_stage come (true || is_shut (sequence_of target) (closes_of places))))
        → ((Among target places → closed ≡ false)
        → LeadTo view (sequence_of target) (at_stage come closed) (closes_of places) (at_stage come (closed || is_shut (sequence_of target) (closes_of places))))
        → (place ≡ target) ⊎ (place ≡ target → ⊥)
        → LeadTo view (sequence_of target) (at_stage come closed) (closes_of (place ∷ places)) (at_stage come (closed || is_shut (sequence_of target) (closes_of (place ∷ places))))
    by_place shut rest (inl same) =
        let q : ℕ = sequence_of target in
        let is : (sequence_of place == q) ≡ true = eq-eqb (sequence_of place) q (ap sequence_of same) in
        let behind : Among target places → true ≡ false = λ among.
        let least = rising_least (suc place) target places rising.1 among in absurd (omega (arith, least, same)) in
        let last : (closed || ((sequence_of place == q) || is_shut q (closes_of places))) ≡ true =
        ap (λ (b : Bool). closed || (b || is_shut q (closes_of places))) is ∙ or-true closed in (
          refl,
          match_true (sequence_of place == q) _ _ is (
            opened (inl same),
            subst (λ (b : Bool). LeadTo view q (at_stage come true) (closes_of places) (at_stage come b)) (sym last) (shut behind),
          ),
        )
    by_place shut rest (inr differs) =
        let q : ℕ = sequence_of target in
        let apart : sequence_of place ≢ q = λ e. differs (let same : place ≡ target = omega (arith, e) in same) in
        let is : (sequence_of place == q) ≡ false = ne_eqb (sequence_of place) q apart in
        let last : (closed || ((sequence_of place == q) || is_shut q (closes_of places))) ≡ (closed || is_shut q (closes_of places)) =
        ap (λ (b : Bool). closed || (b || is_shut q (closes_of places))) is in (
          refl,
          match_false (sequence_of place == q) _ _ is
              (subst (λ (b : Bool). LeadTo view q (at_stage come closed) (closes_of places) (at_stage come b)) (sym last) (rest (λ among. opened (inr among)))),
        )

known_closes : (view : ServiceView) (places : List ℕ) → AreKnownNotes view (closes_of places)
known_closes view [] = tt
known_closes view (place ∷ places) = (tt, known_closes view places)

pub sorted_closes : (setup : Setup) (producer : ℕ) (view : ServiceView) → IsSorted setup view → AreOpen setup producer view
    → IsSorted setup (noted_more view (closes_of (places_of producer 0 setup.writers)))
sorted_closes setup producer view sorted opened =
    let places : List ℕ = places_of producer 0 setup.writers in
    let new : ServiceView = noted_more view (closes_of places) in
    sorted_more setup view new (closes_of places) sorted (noted_grows view (closes_of places)) refl refl sorted.level (known_closes new places)
    (λ place inside none. lead_closes new place (taken_of view place).count (is_shut (sequence_of place) view.events) 0 places (rising_places producer 0 setup.writers)
    (λ among. (open_places_fit setup producer view opened place among).1))

-- ---- reads

lead_reads : (view : ServiceView) (q come : ℕ) (closed : Bool) (events : List model.Event)
    → LeadTo view q (at_stage come closed) (flat_map noted_read events) (at_stage come closed)
lead_reads view q come closed [] = refl
lead_reads view q come closed (model.Read sequence limit ∷ events) = (refl, lead_reads view q come closed events)
lead_reads view q come closed (model.Arrives sequence chunk_id chunk ∷ events) = lead_reads view q come closed events
lead_reads view q come closed (model.ArrivesInPart sequence chunk_id chunk ∷ events) = lead_reads view q come closed events
lead_reads view q come closed (model.Patched sequence patches ∷ events) = lead_reads view q come closed events
lead_reads view q come closed (model.Committed image patches ∷ events) = lead_reads view q come closed events
lead_reads view q come closed (model.Closed sequence ∷ events) = lead_reads view q come closed events

known_reads : (view : ServiceView) (events : List model.Event) → AreKnownNotes view (flat_map noted_read events)
known_reads view [] = tt
known_reads view (model.Read sequence limit ∷ events) = (tt, known_reads view events)
known_reads view (model.Arrives sequence chunk_id chunk ∷ events) = known_reads view events
known_reads view (model.ArrivesInPart sequence chunk_id chunk ∷ events) = known_reads view events
known_reads view (model.Patched sequence patches ∷ events) = known_reads view events
known_reads view (model.Committed image patches ∷ events) = known_reads view events
known_reads view (model.Closed sequence ∷ events) = known_reads view events

pub shut_reads : (q : ℕ) (events : List model.Event) → is_shut q (flat_map noted_read events) ≡ false
shut_reads q [] = refl
shut_reads q (model.Read sequence limit ∷ events) = shut_reads q events
shut_reads q (model.Arrives sequence chunk_id chunk ∷ events) = shut_reads q events
shut_reads q (model.ArrivesInPart sequence chunk_id chunk ∷ events) = shut_reads q events
shut_reads q (model.Patched sequence patches ∷ events) = shut_reads q events
shut_reads q (model.Committed image patches ∷ events) = shut_reads q events
shut_reads q (model.Closed sequence ∷ events) = shut_reads q events

pub sorted_reads : (setup : Setup) (view : ServiceView) (events : List model.Event) → IsSorted setup view
    → IsSorted setup (noted_more view (flat_map noted_read events))
sorted_reads setup view events sorted =
    let notes : List Noted = flat_map noted_read events in
    let new : ServiceView = noted_more view notes in
    sorted_more setup view new notes sorted (noted_grows view notes) refl refl sorted.level (known_reads new events)
    (λ place inside none.
    let q : ℕ = sequence_of place in
    let n : ℕ = (taken_of view place).count in
    let closed : Bool = is_shut q view.events in
    let same : closed ≡ (closed || is_shut q notes) = sym (ap (λ (b : Bool). closed || b) (shut_reads q events) ∙ or-false closed) in
    subst (λ (b : Bool). LeadTo new q (at_stage n closed) notes (at_stage n b)) same (lead_reads new q n closed events))

-- ---- commits

pub sorted_committed : (setup : Setup) (view : ServiceView) (committed : Committed) → IsSorted setup view → IsSorted setup (notes_commit view committed)
sorted_committed setup view committed sorted =
    let at : ℕ = length view.commits in
    let new : ServiceView = notes_commit view committed in
    sorted_more setup view new (Commit at ∷ []) sorted (committed_grows view committed) refl refl sorted.level ((committed, get_seam view.commits [] committed), tt)
    (λ place inside none.
    let closed : Bool = is_shut (sequence_of place) view.events in
    (refl, none at, ap (at_stage (taken_of view place).count) (sym (or-false closed))))
