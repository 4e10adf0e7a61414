-- `Tells` and strictly rising places say the same.
use Rattle.std.proofs.Common.{◌≡◌, ◌∙◌, ℕ, zero, suc, ◌<◌, ◌≤◌, Bool, true, false, not, ◌||◌, List, [], ◌∷◌, Option, Some, None, refl, sym, ap, subst, arith}
use Rattle.std.specs.Prelude.{◌==◌, slice_get, is_none}
use Rattle.std.proofs.lemmas.Bool.{eq-eqb, ne_eqb, both_ways, not_from_true, not_from_false}
use Rattle.std.proofs.lemmas.Option.{none-some, same_Some}
use Rattle.trace_model.specs.Tells.{IsTold, TellsFrom}
use Rattle.trace_model.specs.TellsLaws.{place_before, Skips, IsRecordAt, AreRecordsAt, TellsByPlaces}

-- the place behind the one before
abbrev next_of : Option ℕ → ℕ
next_of None = 0
next_of (Some before) = suc before

-- what is skipped, as `Tells` tests it
abbrev skips : Option ℕ → ℕ → Bool
skips before place = is_none before || not (place == next_of before)

skips_from : (before : Option ℕ) (place : ℕ) → skips before place ≡ true → Skips before place
skips_from None place h = tt
skips_from (Some before) place h = λ e. both_ways (not (place == suc before)) (not_from_true (place == suc before) (eq-eqb place (suc before) (sym e))) h

skips_to : (before : Option ℕ) (place : ℕ) → Skips before place → skips before place ≡ true
skips_to None place h = refl
skips_to (Some before) place h = not_from_false (place == suc before) (ne_eqb place (suc before) (λ e. h (sym e)))

shift : (before : Option ℕ) (place : ℕ) (places : List ℕ) (number : ℕ)
    → place_before before (place ∷ places) (suc number) ≡ place_before (Some place) places number
shift before place places zero = refl
shift before place places (suc number) = refl

above : (before : Option ℕ) (place b : ℕ) → next_of before ≤ place → before ≡ Some b → b < place
above None place b h e = absurd (none-some b e)
above (Some a) place b h e = subst (λ (n : ℕ). n < place) (same_Some a b e) h

module _ (emitted : List (List ℕ)) (sequence : ℕ) where
  to_record : (before : Option ℕ) (place : ℕ) (bytes : List ℕ)
      → IsTold emitted sequence (is_none before) (next_of before) place bytes → IsRecordAt emitted sequence before place bytes
  to_record before place bytes told = record {
    packet = told.packet;
    emitted_there = told.emitted_there;
    front = told.front;
    behind = told.behind;
    exact = told.exact;
    marked = (λ h. skips_from before place (sym told.marked ∙ h), λ h. told.marked ∙ skips_to before place h);
  }

  to_places : (before : Option ℕ) (records : List (List ℕ)) → TellsFrom emitted sequence (is_none before) (next_of before) records
      → (places : List ℕ) × AreRecordsAt emitted sequence before records places
  to_places before [] told = (
    [],
    record {
      as_many = refl;
      rising = λ number b p h e. absurd (none-some p e);
      each = λ number p bytes e f. absurd (none-some p e);
    },
  )
  to_places before (bytes ∷ others) told =
      let place : ℕ = told.0 in
      let rest : (places : List ℕ) × AreRecordsAt emitted sequence (Some place) others places = to_places (Some place) others told.2 in
      let places : List ℕ = rest.0 in (
        place ∷ places,
        record {
          as_many = ap suc rest.1.as_many;
          rising = rises before place places told.1.not_before rest.1.rising;
          each = each_is before place places bytes others (to_record before place bytes told.1) rest.1.each;
        },
      )
    where
      rises : (before : Option ℕ) (place : ℕ) (places : List ℕ) → next_of before ≤ place
          → ((number b p : ℕ) → place_before (Some place) places number ≡ Some b → slice_get places number ≡ Some p → b < p)
          → (number b p : ℕ) → place_before before (place ∷ places) number ≡ Some b → slice_get (place ∷ places) number ≡ Some p → b < p
      rises before place places h rest zero b p e f = subst (λ (n : ℕ). b < n) (same_Some place p f) (above before place b h e)
      rises before place places h rest (suc number) b p e f = rest number b p (sym (shift before place places number) ∙ e) f

      each_is : (before : Option ℕ) (place : ℕ) (places : List ℕ) (bytes : List ℕ) (others : List (List ℕ))
          → IsRecordAt emitted sequence before place bytes
          → ((number p : ℕ) (xs : List ℕ) → slice_get places number ≡ Some p → slice_get others number ≡ Some xs
          → IsRecordAt emitted sequence (place_before (Some place) places number) p xs)
          → (number p : ℕ) (xs : List ℕ) → slice_get (place ∷ places) number ≡ Some p → slice_get (bytes ∷ others) number ≡ Some xs
          → IsRecordAt emitted sequence (place_before before (place ∷ places) number) p xs
      each_is before place places bytes others here rest zero p xs e f =
          subst (λ (n : ℕ). IsRecordAt emitted sequence before n xs) (same_Some place p e)
          (subst (λ (ys : List ℕ). IsRecordAt emitted sequence before place ys) (same_Some bytes xs f) here)
      each_is before place places bytes others here rest (suc number) p xs e f =
          subst (λ (o : Option ℕ). IsRecordAt emitted sequence o p xs) (sym (shift before place places number)) (rest number p xs e f)

  from_places : (before : Option ℕ) (records : List (List ℕ)) (places : List ℕ) → AreRecordsAt emitted sequence before records places
      → TellsFrom emitted sequence (is_none before) (next_of before) records
  from_places before [] places are = tt
  from_places before (bytes ∷ others) [] are = absurd (omega (arith, are.as_many))
  from_places before (bytes ∷ others) (place ∷ places) are = (
    place,
    from_record before place bytes (are.each 0 place bytes refl refl) (not_below before (are.rising 0)),
    from_places (Some place) others places (record {
      as_many = omega (arith, are.as_many);
      rising = λ number b p e f. are.rising (suc number) b p (shift before place places number ∙ e) f;
      each = λ number p xs e f. subst (λ (o : Option ℕ). IsRecordAt emitted sequence o p xs) (shift before place places number)
          (are.each (suc number) p xs e f);
    }),
  )
    where
      not_below : (before : Option ℕ) → ((b p : ℕ) → before ≡ Some b → Some place ≡ Some p → b < p) → next_of before ≤ place
      not_below None h = omega arith
      not_below (Some b) h = h b place refl refl

      from_record : (before : Option ℕ) (place : ℕ) (bytes : List ℕ) → IsRecordAt emitted sequence before place bytes
          → next_of before ≤ place → IsTold emitted sequence (is_none before) (next_of before) place bytes
      from_record before place bytes is h = record {
        packet = is.packet;
        emitted_there = is.emitted_there;
        not_before = h;
        front = is.front;
        behind = is.behind;
        exact = is.exact;
        marked = same (is.front || is.behind) (skips before place) (λ e. skips_to before place (is.marked.0 e)) (λ e. is.marked.1 (skips_from before place e));
      }
        where
          same : (a b : Bool) → (a ≡ true → b ≡ true) → (b ≡ true → a ≡ true) → a ≡ b
          same true b f g = sym (f refl)
          same false true f g = g refl
          same false false f g = refl

pub tells_by_places : TellsByPlaces
tells_by_places emitted sequence records =
    (λ told. to_places emitted sequence None records told, λ are. from_places emitted sequence None records are.0 are.1)
