-- How pages are laid out, by what users saw: a step of one user keeps that.
use Rattle.std.proofs.Common.{◌≡◌, ℕ, zero, suc, ◌<◌, ◌≤◌, ◌⊎◌, inl, inr, List, ◌∷◌, subst, sym, refl, ap, ◌∙◌, arith, ⊎_elim}
use native.Mathlib.Decide.{ℕ_discrete}
use mathlib.Core.Logic.{dite}
use mathlib.Core.Option.{some-injective}
use Rattle.chunk_plain.specs.Views.{At}
use Rattle.layout_tuner.specs.Knows.{Sight, UserView}
use Rattle.layout_tuner.specs.World.{put, HasSeen, IsLaid}
use Rattle.layout_tuner.proofs.Puts.{put_here, put_else}

-- a page that is laid out so
abbrev pub sight_of : (page layout generation : ℕ) → Sight
sight_of page layout generation = record { page = page; layout = layout; generation = generation }

-- What a user saw before a step on a page it has seen behind it, and what it has seen is older, or how the page is laid out now.
pub record Sees (page layout generation old_layout old_generation : ℕ) (old new : List Sight) : Type 0 where
  pub stays : (k : ℕ) (sight : Sight) → At old k sight → (j : ℕ) × At new j sight
  pub comes : (k : ℕ) (sight : Sight) → At new k sight → ((j : ℕ) × At old j sight) ⊎ (sight ≡ sight_of page layout generation)
  pub more : old_generation ≤ generation
  pub same : generation ≡ old_generation → layout ≡ old_layout
  pub last : old_generation < generation → (k : ℕ) × At new k (sight_of page layout generation)

-- nothing is seen anew
pub sees_same : (page layout generation : ℕ) (sights : List Sight) → Sees page layout generation layout generation sights sights
sees_same page layout generation sights = record {
  stays = λ k sight at. (k, at);
  comes = λ k sight at. inl (k, at);
  more = omega arith;
  same = λ _. refl;
  last = λ less. absurd (omega (arith, less));
}

-- the page is seen as it is laid out now
pub sees_more : (page layout generation old_layout old_generation : ℕ) (sights : List Sight) → old_generation ≤ generation → (generation ≡ old_generation → layout ≡ old_layout)
    → Sees page layout generation old_layout old_generation sights (sight_of page layout generation ∷ sights)
sees_more page layout generation old_layout old_generation sights more same = record {
  stays = λ k sight at. (suc k, at);
  comes = comes;
  more = more;
  same = same;
  last = λ _. (0, refl);
}
  where
    comes : (k : ℕ) (sight : Sight) → At (sight_of page layout generation ∷ sights) k sight → ((j : ℕ) × At sights j sight) ⊎ (sight ≡ sight_of page layout generation)
    comes zero sight at = inr (sym (some-injective (sight_of page layout generation) sight at))
    comes (suc k) sight at = inl (k, at)

-- the same page, by other names of its layout and generation
pub laid_as : (count : ℕ) (users : ℕ → UserView) (page layout generation old_layout old_generation : ℕ) → layout ≡ old_layout → generation ≡ old_generation
    → IsLaid count users page old_layout old_generation → IsLaid count users page layout generation
laid_as count users page layout generation old_layout old_generation one two laid =
    subst (λ l. IsLaid count users page l generation) (sym one) (subst (λ g. IsLaid count users page old_layout g) (sym two) laid)

-- the same views, by another name
pub laid_by : (count : ℕ) (users views : ℕ → UserView) (page layout generation : ℕ) → ((user : ℕ) → user < count → users user ≡ views user)
    → IsLaid count users page layout generation → IsLaid count views page layout generation
laid_by count users views page layout generation same laid = record {
  first = laid.first;
  last = λ some. let seen = laid.last some in record {
    user = seen.user;
    inside = seen.inside;
    place = seen.place;
    at = subst (λ (v : UserView). At v.sights seen.place (sight_of page layout generation)) (same seen.user seen.inside) seen.at;
  };
  past = λ user k sight below at is. laid.past user k sight below (subst (λ (v : UserView). At v.sights k sight) (sym (same user below)) at) is;
}

module _ (count : ℕ) (users : ℕ → UserView) (layouts generations : ℕ → ℕ) (user page layout generation : ℕ) (view : UserView) (user_in : user < count)
    (sees : Sees page layout generation (layouts page) (generations page) (users user).sights view.sights)
    (laid : (p : ℕ) → IsLaid count users p (layouts p) (generations p)) where
  abbrev next : ℕ → UserView
  next = put users user view

  -- what was seen is seen still
  seen_on : (sight : Sight) → HasSeen count users sight → HasSeen count next sight
  seen_on sight seen = dite (ℕ_discrete seen.user user)
      (λ same. let there = sees.stays seen.place sight (subst (λ u. At (users u).sights seen.place sight) same seen.at) in record {
        user = user;
        inside = user_in;
        place = there.0;
        at = subst (λ (v : UserView). At v.sights there.0 sight) (sym (put_here users user view user refl)) there.1;
      })
      (λ differs. record {
        user = seen.user;
        inside = seen.inside;
        place = seen.place;
        at = subst (λ (v : UserView). At v.sights seen.place sight) (sym (put_else users user view seen.user differs)) seen.at;
      })

  -- what is seen was seen, or is how the page is laid out now
  seen_from : (u k : ℕ) (sight : Sight) → u < count → At (next u).sights k sight → ((v : ℕ) × (j : ℕ) × (v < count) × At (users v).sights j sight) ⊎ (sight ≡ sight_of page layout generation)
  seen_from u k sight below at = dite (ℕ_discrete u user)
      (λ same. ⊎_elim
      (λ old. inl (user, old.0, user_in, old.1))
      (λ new. inr new)
      (sees.comes k sight (subst (λ (v : UserView). At v.sights k sight) (put_here users user view u same) at)))
      (λ differs. inl (u, k, below, subst (λ (v : UserView). At v.sights k sight) (put_else users user view u differs) at))

  laid_here : IsLaid count next page layout generation
  laid_here = record {
    first = λ none. let more = sees.more in sees.same (omega (arith, none, more)) ∙ (laid page).first (omega (arith, none, more));
    last = λ some. let more = sees.more in dite (ℕ_discrete generation (generations page))
        (λ same. subst (λ l. HasSeen count next (sight_of page l generation)) (sym (sees.same same))
        (subst (λ g. HasSeen count next (sight_of page (layouts page) g)) (sym same)
        (seen_on (sight_of page (layouts page) (generations page)) ((laid page).last (omega (arith, some, same))))))
        (λ differs. let there = sees.last (omega (arith, more, differs)) in record {
          user = user;
          inside = user_in;
          place = there.0;
          at = subst (λ (v : UserView). At v.sights there.0 (sight_of page layout generation)) (sym (put_here users user view user refl)) there.1;
        });
    past = λ u k sight below at is. ⊎_elim
        (λ old. let was = (laid page).past old.0 old.1 sight old.2 old.3 is in let most = was.0 in let more = sees.more in
        (omega (arith, most, more), λ e. was.1 (omega (arith, e, most, more)) ∙ sym (sees.same (omega (arith, e, most, more)))))
        (λ new. let same = ap (λ (s : Sight). s.generation) new in (omega (arith, same), λ _. ap (λ (s : Sight). s.layout) new))
        (seen_from u k sight below at);
  }

  laid_else : (p : ℕ) → (p ≡ page → ⊥) → IsLaid count next p (layouts p) (generations p)
  laid_else p differs = record {
    first = (laid p).first;
    last = λ some. seen_on (sight_of p (layouts p) (generations p)) ((laid p).last some);
    past = λ u k sight below at is. ⊎_elim
        (λ old. (laid p).past old.0 old.1 sight old.2 old.3 is)
        (λ new. absurd (differs (sym is ∙ ap (λ (s : Sight). s.page) new)))
        (seen_from u k sight below at);
  }

  pub laid_turn : (p : ℕ) → IsLaid count next p (put layouts page layout p) (put generations page generation p)
  laid_turn p = dite (ℕ_discrete p page)
      (λ same. subst (λ q. IsLaid count next q (put layouts page layout q) (put generations page generation q)) (sym same)
      (laid_as count next page (put layouts page layout page) (put generations page generation page) layout generation
      (put_here layouts page layout page refl) (put_here generations page generation page refl) laid_here))
      (λ differs. laid_as count next p (put layouts page layout p) (put generations page generation p) (layouts p) (generations p)
      (put_else layouts page layout p differs) (put_else generations page generation p differs) (laid_else p differs))
