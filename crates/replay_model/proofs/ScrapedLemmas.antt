-- The parts of chunks that a scrape finds are those of the chunks that come next.
use Rattle.std.proofs.Common.{◌≡◌, ◌∙◌, ℕ, zero, suc, ◌+◌, ◌-◌, ◌<◌, ◌≤◌, ◌⊎◌, Bool, true, false, ◌||◌, List, [], ◌∷◌, ◌++◌, length, get_or, refl, sym, ap, subst, arith, inl, inr, cond}
use Rattle.std.specs.Prelude.{◌==◌, nat_lt, MatchBool}
use Rattle.std.specs.List.{flat_map}
use Rattle.std.proofs.lemmas.Bool.{eq-eqb, ne_eqb, ltb-true, cases_eq}
use Rattle.std.proofs.Math.Bool.{or-false}
use Rattle.trace_base.proofs.Choices.{match_true, match_false}
use Rattle.trace_model.specs.Images.{Image}
use Rattle.chunk_plain.specs.Setup.{Setup, sequence_of}
use Rattle.chunk_plain.specs.Views.{At, BegunChunk, Held, Completed, Draft, no_draft, Look, Noted, Partial, ServiceView, taken_of, WriterView}
use Rattle.chunk_plain.specs.World.{World, writer}
use Rattle.chunk_plain.specs.Histories.{completed_images}
use Rattle.chunk_plain.specs.Owned.{held_count}
use Rattle.world_model.proofs.PartLemmas.{looked as as_looked}
use Rattle.service_core.specs.Agreement.{AreKnownNotes}
use Rattle.service_core.specs.Order.{IsFoundPart, LeadTo}
use Rattle.service_core.specs.Looking.{looked}
use Rattle.service_core.specs.Taking.{places_of, noted_more}
use Rattle.service_core.proofs.HistoryLemmas.{Grows, found_more}
use Rattle.service_core.proofs.OrderLemmas.{lead_both}
use Rattle.service_core.specs.Scraping.{part_of_entry, part_held, parts_held}
use Rattle.replay_model.specs.Does.{Scrapes, Wrote, is_shut}
use Rattle.replay_model.proofs.SortedLemmas.{at_stage, IsSorted, Among, shut_append, sorted_more, sorted_takes, open_places_fit}

-- ---- what a writer holds

-- each chunk that was begun is completed or held
pub counted : (begun : List BegunChunk) → length begun ≡ length (completed_images begun) + held_count begun
counted [] = refl
counted (Held chunk draft ∷ begun) = let h = counted begun in omega (arith, h)
counted (Completed chunk content ∷ begun) = let h = counted begun in omega (arith, h)

pub one_held : (begun : List BegunChunk) (i chunk : ℕ) (draft : Draft) → At begun i (Held chunk draft) → 1 ≤ held_count begun
one_held [] i chunk draft at = absurd (cc)
one_held (Held other one ∷ begun) i chunk draft at = omega arith
one_held (Completed other content ∷ begun) zero chunk draft at = absurd (cc)
one_held (Completed other content ∷ begun) (suc i) chunk draft at = one_held begun i chunk draft at

pub two_held : (begun : List BegunChunk) (i j chunk other : ℕ) (draft next : Draft) → At begun i (Held chunk draft) → At begun j (Held other next) → i < j → 2 ≤ held_count begun
two_held [] i j chunk other draft next first second below = absurd (cc)
two_held (Held c d ∷ begun) i zero chunk other draft next first second below = absurd (omega (arith, below))
two_held (Held c d ∷ begun) i (suc j) chunk other draft next first second below = let h = one_held begun j other next second in omega (arith, h)
two_held (Completed c d ∷ begun) i zero chunk other draft next first second below = absurd (omega (arith, below))
two_held (Completed c d ∷ begun) zero (suc j) chunk other draft next first second below = absurd (cc)
two_held (Completed c d ∷ begun) (suc i) (suc j) chunk other draft next first second below =
    two_held begun i j chunk other draft next first second (omega (arith, below))

pub few_held : (setup : Setup) (place : ℕ) (view : WriterView) → Wrote setup place view → held_count view.begun ≤ 1
few_held setup place view wrote = by_held wrote.held refl
  where
    by_held : (held : List Image) → wrote.held ≡ held → held_count view.begun ≤ 1
    by_held [] is =
        let all = counted view.begun in let begun = wrote.begun in let none = ap (λ (xs : List Image). length xs) is in
        omega (arith, all, begun, none)
    by_held (one ∷ []) is =
        let all = counted view.begun in let begun = wrote.begun in let some = ap (λ (xs : List Image). length xs) is in
        omega (arith, all, begun, some)
    by_held (one ∷ other ∷ others) is = absurd (wrote.only one other others is)

-- ---- a part that is held

record IsPart (q id : ℕ) (notes : List Noted) : Type 0 where
  count : ℕ
  some : 1 ≤ count
  is : notes ≡ Partial q id count ∷ []

part_is : (place id : ℕ) (one : BegunChunk) → (part_of_entry place id one ≡ []) ⊎ IsPart (sequence_of place) id (part_of_entry place id one)
part_is place id (Completed chunk content) = inl refl
part_is place id (Held chunk draft) = step (nat_lt 1 draft.head.count) refl
  where
    step : (b : Bool) → nat_lt 1 draft.head.count ≡ b
        → (part_of_entry place id (Held chunk draft) ≡ []) ⊎ IsPart (sequence_of place) id (part_of_entry place id (Held chunk draft))
    step false is = inl (ap (λ (b : Bool). cond b (Partial (sequence_of place) id (draft.head.count - 1) ∷ []) []) is)
    step true is =
        let most = ltb-true 1 draft.head.count is in
        inr (record {
          count = draft.head.count - 1;
          some = omega (arith, most);
          is = ap (λ (b : Bool). cond b (Partial (sequence_of place) id (draft.head.count - 1) ∷ []) []) is;
        })

-- ---- all parts of a scrape

-- the writer's notes are none, or one part that fits where this sequence stands
abbrev Fits : ServiceView → (target come : ℕ) → Bool → (place : ℕ) → List Noted → Type 0
Fits view target come closed place notes =
    (notes ≡ [])
    ⊎ ((id : ℕ) × (count : ℕ) × (notes ≡ Partial (sequence_of place) id count ∷ [])
    × (place ≡ target → (closed ≡ false) × (id ≡ come) × IsFoundPart view (sequence_of target) id count))

lead_part : (view : ServiceView) (target come : ℕ) (closed : Bool) (place : ℕ) (notes : List Noted) → Fits view target come closed place notes
    → LeadTo view (sequence_of target) (at_stage come closed) notes (at_stage come closed)
lead_part view target come closed place notes (inl none) =
    subst (λ (ns : List Noted). LeadTo view (sequence_of target) (at_stage come closed) ns (at_stage come closed)) (sym none) refl
lead_part view target come closed place notes (inr part) =
    subst (λ (ns : List Noted). LeadTo view (sequence_of target) (at_stage come closed) ns (at_stage come closed)) (sym part.2)
    (refl, by_place (cases_eq place target))
  where
    by_place : (place ≡ target) ⊎ (place ≡ target → ⊥)
        → MatchBool (sequence_of place == sequence_of target)
        ((closed ≡ false) × (part.0 ≡ come) × IsFoundPart view (sequence_of target) part.0 part.1 × (at_stage come closed ≡ at_stage come closed))
        (at_stage come closed ≡ at_stage come closed)
    by_place (inl same) =
        let h = part.3 same in
        match_true (sequence_of place == sequence_of target) _ _ (eq-eqb (sequence_of place) (sequence_of target) (ap sequence_of same)) (h.0, h.1, h.2, refl)
    by_place (inr differs) =
        match_false (sequence_of place == sequence_of target) _ _
        (ne_eqb (sequence_of place) (sequence_of target) (λ e. differs (let same : place ≡ target = omega (arith, e) in same))) refl

lead_parts : (view : ServiceView) (target come : ℕ) (closed : Bool) (notes : ℕ → List Noted) (places : List ℕ)
    → ((p : ℕ) → Among p places → Fits view target come closed p (notes p))
    → LeadTo view (sequence_of target) (at_stage come closed) (flat_map notes places) (at_stage come closed)
lead_parts view target come closed notes [] fits = refl
lead_parts view target come closed notes (place ∷ places) fits =
    lead_both view (sequence_of target) (at_stage come closed) (at_stage come closed) (at_stage come closed) (notes place) (flat_map notes places)
    (lead_part view target come closed place (notes place) (fits place (inl refl)))
    (lead_parts view target come closed notes places (λ p among. fits p (inr among)))

shut_parts : (q : ℕ) (notes : ℕ → List Noted) (places : List ℕ) → ((p : ℕ) → is_shut q (notes p) ≡ false) → is_shut q (flat_map notes places) ≡ false
shut_parts q notes [] none = refl
shut_parts q notes (place ∷ places) none =
    shut_append q (notes place) (flat_map notes places) ∙ ap (λ (b : Bool). b || is_shut q (flat_map notes places)) (none place) ∙ shut_parts q notes places none

shut_part : (q place id : ℕ) (one : BegunChunk) → is_shut q (part_of_entry place id one) ≡ false
shut_part q place id one = by_part (part_is place id one)
  where
    by_part : (part_of_entry place id one ≡ []) ⊎ IsPart (sequence_of place) id (part_of_entry place id one) → is_shut q (part_of_entry place id one) ≡ false
    by_part (inl none) = ap (is_shut q) none
    by_part (inr part) = ap (is_shut q) part.is

pub known_right : (view : ServiceView) (xs ys : List Noted) → AreKnownNotes view (xs ++ ys) → AreKnownNotes view ys
known_right view [] ys known = known
known_right view (x ∷ xs) ys known = known_right view xs ys known.1

known_left : (view : ServiceView) (xs ys : List Noted) → AreKnownNotes view (xs ++ ys) → AreKnownNotes view xs
known_left view [] ys known = tt
known_left view (x ∷ xs) ys known = (known.0, known_left view xs ys known.1)

known_among : (view : ServiceView) (notes : ℕ → List Noted) (places : List ℕ) (p : ℕ) → Among p places → AreKnownNotes view (flat_map notes places) → AreKnownNotes view (notes p)
known_among view notes [] p among known = absurd among
known_among view notes (place ∷ places) p (inl same) known =
    subst (λ (i : ℕ). AreKnownNotes view (notes i)) same (known_left view (notes place) (flat_map notes places) known)
known_among view notes (place ∷ places) p (inr among) known =
    known_among view notes places p among (known_right view (notes place) (flat_map notes places) known)

looked_grows : (view : ServiceView) (looks : List Look) (notes : List Noted) → Grows view (noted_more (looked view looks) notes)
looked_grows view looks notes = record {
  contents = λ s i content is. is;
  looks = λ p i n found is. found_more p i n view.looks looks found is;
  commits = λ k committed is. is;
}

module _ (setup : Setup) (producer : ℕ) (old new : World) (sorted : IsSorted setup old.service) (scrapes : Scrapes setup producer old new) where
  abbrev between : ServiceView
  between = scrapes.between

  abbrev notes : List Noted
  notes = parts_held setup producer new

  abbrev view : ServiceView
  view = noted_more (looked between scrapes.looks) notes

  abbrev places : List ℕ
  places = places_of producer 0 setup.writers

  mid : IsSorted setup between × ((q : ℕ) → is_shut q between.events ≡ is_shut q old.service.events)
  mid = sorted_takes setup places scrapes.taken old.service between sorted (open_places_fit setup producer old.service scrapes.opened) scrapes.takes

  known : AreKnownNotes view notes
  known = subst (λ (v : ServiceView). AreKnownNotes v notes) scrapes.notes scrapes.found

  count_is : (p : ℕ) → (taken_of new.service p).count ≡ (taken_of between p).count
  count_is p = ap (λ (v : ServiceView). (taken_of v p).count) scrapes.notes

  -- the note of one writer
  abbrev note_of : ℕ → List Noted
  note_of p = part_held new p

  -- the chunk that comes next of it
  abbrev next_of : ℕ → BegunChunk
  next_of p = get_or (writer new p).begun (taken_of new.service p).count (Held 0 no_draft)

  by_part : (target p : ℕ) → is_shut (sequence_of p) between.events ≡ false → AreKnownNotes view (note_of p)
      → (note_of p ≡ []) ⊎ IsPart (sequence_of p) (taken_of new.service p).count (note_of p)
      → Fits view target (taken_of between target).count (is_shut (sequence_of target) between.events) p (note_of p)
  by_part target p opened there (inl none) = inl none
  by_part target p opened there (inr part) =
      let id : ℕ = (taken_of new.service p).count in
      let one : AreKnownNotes view (Partial (sequence_of p) id part.count ∷ []) = subst (AreKnownNotes view) part.is there in
      let look = as_looked (sequence_of p - 2) id part.count view.looks one.0.0 one.0.1 in
      let many = look.count_is in
      let some = part.some in
      let found : IsFoundPart view (sequence_of p) id part.count = record { found = one.0.0; looked = one.0.1; some = omega (arith, many, some) } in
      inr (
        id,
        part.count,
        part.is,
        λ same. (
          subst (λ (i : ℕ). is_shut (sequence_of i) between.events ≡ false) same opened,
          count_is p ∙ ap (λ (i : ℕ). (taken_of between i).count) same,
          subst (λ (i : ℕ). IsFoundPart view (sequence_of i) id part.count) same found,
        ),
      )

  fits : (target p : ℕ) → Among p places → Fits view target (taken_of between target).count (is_shut (sequence_of target) between.events) p (note_of p)
  fits target p among =
      by_part target p (mid.1 (sequence_of p) ∙ (open_places_fit setup producer old.service scrapes.opened p among).1)
      (known_among view note_of places p among known)
      (part_is p (taken_of new.service p).count (next_of p))

  leads : (target : ℕ) → LeadTo view (sequence_of target) (at_stage (taken_of between target).count (is_shut (sequence_of target) between.events)) notes
      (at_stage (taken_of view target).count (is_shut (sequence_of target) between.events || is_shut (sequence_of target) notes))
  leads target =
      let q : ℕ = sequence_of target in
      let n : ℕ = (taken_of between target).count in
      let closed : Bool = is_shut q between.events in
      let none = shut_parts q note_of places
      (λ p. shut_part q p (taken_of new.service p).count (next_of p)) in
      let same : closed ≡ (closed || is_shut q notes) = sym (ap (λ (b : Bool). closed || b) none ∙ or-false closed) in
      subst (λ (b : Bool). LeadTo view q (at_stage n closed) notes (at_stage n b)) same
      (lead_parts view target n closed note_of places (fits target))

  pub sorted_scrapes : IsSorted setup new.service
  sorted_scrapes =
      subst (IsSorted setup) (sym scrapes.notes)
      (sorted_more setup between view notes mid.0 (looked_grows between scrapes.looks notes) refl refl mid.0.level known (λ target inside none. leads target))
