-- What a step of one user makes of an owned world: its view changes, and the places of one page.
use Rattle.std.proofs.Common.{◌≡◌, ◌≢◌, ℕ, ◌+◌, ◌<◌, ◌≤◌, List, subst, sym, refl, ap, ◌∙◌, arith, ◌==◌}
use Rattle.std.specs.Prelude.{if◌then◌else◌}
use native.Mathlib.Decide.{ℕ_discrete}
use mathlib.Core.Logic.{dite}
use Rattle.std.proofs.lemmas.Bool.Decides.{nat_tests}
use Rattle.chunk_plain.specs.Owned.{times}
use Rattle.layout_tuner.specs.PageWords.{spot, chunks_of}
use Rattle.layout_tuner.specs.Knows.{UserView, seen_in, told_by}
use Rattle.layout_tuner.specs.World.{Status, Outside, Unclaimed, Claimed, Held, Complete, Reading, claim_of, claims_of, holds_of, reads_of, waits_of, IsMine, put, total, World, IsOwned}
use Rattle.layout_tuner.proofs.Laid.{Sees, laid_turn}
use Rattle.layout_tuner.proofs.Puts.{put_at, put_here, put_else, total-change}
use Rattle.layout_tuner.proofs.Spots.{apart, apart_places}

-- the world with this view of a user, and this page
abbrev pub turned : World → (user page : ℕ) → (ℕ → Status) → (layout generation : ℕ) → UserView → World
turned world user page places layout generation view = record world {
  layouts = put world.layouts page layout;
  generations = put world.generations page generation;
  status = put world.status page places;
  users = put world.users user view;
}

-- A user's view and the places of a page change so that each place is owned still.
pub record Turns (users : ℕ) (world : World) (user page : ℕ) (places : ℕ → Status) (layout generation : ℕ) (old view : UserView) : Type 0 where
  pub old_is : old ≡ world.users user
  pub user_in : user < users
  pub claims_here : (place : ℕ) → place < 14 → times (spot page place) view.claimed ≡ claims_of user (places place)
  pub claims_else : (other place : ℕ) → other ≢ page → place < 14 → times (spot other place) view.claimed ≡ times (spot other place) old.claimed
  pub holds_here : (place : ℕ) → place < 14 → times (spot page place) view.held ≡ holds_of user (places place)
  pub holds_else : (other place : ℕ) → other ≢ page → place < 14 → times (spot other place) view.held ≡ times (spot other place) old.held
  pub others_claim : (other place : ℕ) → other ≢ user → claims_of other (places place) ≡ claims_of other (world.status page place)
  pub others_hold : (other place : ℕ) → other ≢ user → holds_of other (places place) ≡ holds_of other (world.status page place)
  pub reads : (place : ℕ) → reads_of (places place) ≡ reads_of (world.status page place)
  pub completes_here : (place : ℕ) → place < 14
      → times (spot page place) view.completed + waits_of (world.status page place) ≡ times (spot page place) old.completed + waits_of (places place)
  pub completes_else : (other place : ℕ) → other ≢ page → place < 14 → times (spot other place) view.completed ≡ times (spot other place) old.completed
  pub completes_more : (at : ℕ) → times at old.completed ≤ times at view.completed
  pub generation_here : times page view.retiled + world.generations page ≡ times page old.retiled + generation
  pub generation_else : (other : ℕ) → other ≢ page → times other view.retiled ≡ times other old.retiled
  pub sights_here : (place : ℕ) → place < 14 → IsMine user (places place) → seen_in page view.sights ≡ (layout, generation)
  pub sights_else : (other : ℕ) → other ≢ page → seen_in other view.sights ≡ seen_in other old.sights
  pub sees : Sees page layout generation (world.layouts page) (world.generations page) old.sights view.sights
  pub others_saw : (other place : ℕ) → other ≢ user → IsMine other (places place)
      → IsMine other (world.status page place) × (layout ≡ world.layouts page) × (generation ≡ world.generations page)
  pub layout_least : 1 ≤ layout
  pub layout_most : layout ≤ 5
  pub outer : (place : ℕ) → chunks_of layout ≤ place → places place ≡ Outside
  pub inner : (place : ℕ) → place < chunks_of layout → places place ≢ Outside
  pub full : (place : ℕ) → world.status page place ≡ Complete → places place ≡ Complete

module _ (users : ℕ) (world : World) (user page : ℕ) (places : ℕ → Status) (layout generation : ℕ) (old view : UserView)
    (t : Turns users world user page places layout generation old view) (owned : IsOwned users world) where
  abbrev next : World
  next = turned world user page places layout generation view

  -- a list of the user is that of its old view
  of_old : (f : UserView → ℕ) → f old ≡ f (world.users user)
  of_old f = ap f t.old_is

  -- what the user has of any place
  by_place : (f : UserView → ℕ → ℕ) (of : ℕ → Status → ℕ) → ((u p q : ℕ) → q < 14 → f (world.users u) (spot p q) ≡ of u (world.status p q))
      → ((q : ℕ) → q < 14 → f view (spot page q) ≡ of user (places q)) → ((p q : ℕ) → p ≢ page → q < 14 → f view (spot p q) ≡ f old (spot p q))
      → ((u q : ℕ) → u ≢ user → of u (places q) ≡ of u (world.status page q))
      → (u p q : ℕ) → q < 14 → f (next.users u) (spot p q) ≡ of u (next.status p q)
  by_place f of was here else_ others u p q below =
      put_at (λ v (known : UserView). f known (spot p q) ≡ of v (next.status p q)) world.users user view u
      (put_at (λ r (all : ℕ → Status). f view (spot r q) ≡ of user (all q)) world.status page places p
      (here q below)
      (λ differs. else_ p q differs below ∙ (of_old (λ v. f v (spot p q)) ∙ was user p q below)))
      (λ apart_. put_at (λ r (all : ℕ → Status). f (world.users u) (spot r q) ≡ of u (all q)) world.status page places p
      (was u page q below ∙ sym (others u q apart_))
      (λ differs. was u p q below))

  pub owned_turn : IsOwned users next
  owned_turn = record {
    claimed = by_place (λ v at. times at v.claimed) claims_of owned.claimed t.claims_here t.claims_else t.others_claim;
    held = by_place (λ v at. times at v.held) holds_of owned.held t.holds_here t.holds_else t.others_hold;
    reading = λ p q below. put_at (λ r (all : ℕ → Status). times (spot r q) world.collector.reading ≡ reads_of (all q)) world.status page places p
        (owned.reading page q below ∙ sym (t.reads q)) (λ differs. owned.reading p q below);
    balance = λ p q below.
        let at = spot p q in
        let change = total-change users (λ u. times at (world.users u).completed) (λ u. times at (next.users u).completed) user t.user_in
        (λ k differs. ap (λ (v : UserView). times at v.completed) (put_else world.users user view k differs)) in
        let mine : times at (next.users user).completed ≡ times at view.completed = ap (λ (v : UserView). times at v.completed) (put_here world.users user view user refl) in
        let was = owned.balance p q below in
        let old_ = of_old (λ v. times at v.completed) in
        put_at (λ r (all : ℕ → Status). r ≡ p → total users (λ u. times at (next.users u).completed) ≡ times at world.collector.taken + waits_of (all q)) world.status page places p
        (λ same. let here : times at view.completed + waits_of (world.status p q) ≡ times at old.completed + waits_of (places q)
        = subst (λ r. times (spot r q) view.completed + waits_of (world.status r q) ≡ times (spot r q) old.completed + waits_of (places q)) same (t.completes_here q below) in
        omega (arith, change, mine, was, old_, here))
        (λ differs _. let here = t.completes_else p q differs below in omega (arith, change, mine, was, old_, here)) refl;
    generation = λ p.
        let change = total-change users (λ u. times p (world.users u).retiled) (λ u. times p (next.users u).retiled) user t.user_in
        (λ k differs. ap (λ (v : UserView). times p v.retiled) (put_else world.users user view k differs)) in
        let mine : times p (next.users user).retiled ≡ times p view.retiled = ap (λ (v : UserView). times p v.retiled) (put_here world.users user view user refl) in
        let was = owned.generation p in
        let old_ = of_old (λ v. times p v.retiled) in
        put_at (λ r n. r ≡ p → total users (λ u. times p (next.users u).retiled) ≡ n) world.generations page generation p
        (λ same. let here : times p view.retiled + world.generations p ≡ times p old.retiled + generation
        = subst (λ r. times r view.retiled + world.generations r ≡ times r old.retiled + generation) same t.generation_here in
        omega (arith, change, mine, was, old_, here))
        (λ differs _. let here = t.generation_else p differs in omega (arith, change, mine, was, old_, here)) refl;
    sights = λ u p q below mine. dite (ℕ_discrete u user)
        (λ same_user. let known : next.users u ≡ view = put_here world.users user view u same_user in
        subst (λ (v : UserView). seen_in p v.sights ≡ (next.layouts p, next.generations p)) (sym known) (dite (ℕ_discrete p page)
        (λ same_page. let all : next.status p ≡ places = put_here world.status page places p same_page in
        let has : IsMine user (places q) = subst (λ w. IsMine w (places q)) same_user (subst (λ (f : ℕ → Status). IsMine u (f q)) all mine) in
        subst (λ r. seen_in r view.sights ≡ (layout, generation)) (sym same_page) (t.sights_here q below has)
        ∙ pair layout (next.layouts p) generation (next.generations p) (sym (put_here world.layouts page layout p same_page)) (sym (put_here world.generations page generation p same_page)))
        (λ differs. let all : next.status p ≡ world.status p = put_else world.status page places p differs in
        let has : IsMine user (world.status p q) = subst (λ w. IsMine w (world.status p q)) same_user (subst (λ (f : ℕ → Status). IsMine u (f q)) all mine) in
        t.sights_else p differs ∙ (ap (λ (v : UserView). seen_in p v.sights) t.old_is ∙ (owned.sights user p q below has
        ∙ pair (world.layouts p) (next.layouts p) (world.generations p) (next.generations p) (sym (put_else world.layouts page layout p differs)) (sym (put_else world.generations page generation p differs)))))))
        (λ other_user. let known : next.users u ≡ world.users u = put_else world.users user view u other_user in
        subst (λ (v : UserView). seen_in p v.sights ≡ (next.layouts p, next.generations p)) (sym known) (dite (ℕ_discrete p page)
        (λ same_page. let all : next.status p ≡ places = put_here world.status page places p same_page in
        let saw = t.others_saw u q other_user (subst (λ (f : ℕ → Status). IsMine u (f q)) all mine) in
        subst (λ r. seen_in r (world.users u).sights ≡ (world.layouts r, world.generations r)) (sym same_page) (owned.sights u page q below saw.0)
        ∙ pair (world.layouts p) (next.layouts p) (world.generations p) (next.generations p)
        (ap world.layouts same_page ∙ (sym saw.1 ∙ sym (put_here world.layouts page layout p same_page)))
        (ap world.generations same_page ∙ (sym saw.2 ∙ sym (put_here world.generations page generation p same_page))))
        (λ differs. let all : next.status p ≡ world.status p = put_else world.status page places p differs in
        owned.sights u p q below (subst (λ (f : ℕ → Status). IsMine u (f q)) all mine)
        ∙ pair (world.layouts p) (next.layouts p) (world.generations p) (next.generations p) (sym (put_else world.layouts page layout p differs)) (sym (put_else world.generations page generation p differs)))));
    laid = laid_turn users world.users world.layouts world.generations user page layout generation view t.user_in
        (subst (λ (v : UserView). Sees page layout generation (world.layouts page) (world.generations page) v.sights view.sights) t.old_is t.sees) owned.laid;
    layout_least = λ p. put_at (λ _ l. 1 ≤ l) world.layouts page layout p t.layout_least (λ differs. owned.layout_least p);
    layout_most = λ p. put_at (λ _ l. l ≤ 5) world.layouts page layout p t.layout_most (λ differs. owned.layout_most p);
    outside = λ p q. dite (ℕ_discrete p page)
        (λ same past. ap (λ (f : ℕ → Status). f q) (put_here world.status page places p same) ∙ t.outer q (subst (λ l. chunks_of l ≤ q) (put_here world.layouts page layout p same) past))
        (λ differs past. ap (λ (f : ℕ → Status). f q) (put_else world.status page places p differs) ∙ owned.outside p q (subst (λ l. chunks_of l ≤ q) (put_else world.layouts page layout p differs) past));
    inside = λ p q. dite (ℕ_discrete p page)
        (λ same below is. t.inner q (subst (λ l. q < chunks_of l) (put_here world.layouts page layout p same) below) (ap (λ (f : ℕ → Status). f q) (sym (put_here world.status page places p same)) ∙ is))
        (λ differs below is. owned.inside p q (subst (λ l. q < chunks_of l) (put_else world.layouts page layout p differs) below) (ap (λ (f : ℕ → Status). f q) (sym (put_else world.status page places p differs)) ∙ is));
    told = λ u at. put_at (λ v (known : UserView). times at (told_by v world.collector.told) ≤ times at known.completed) world.users user view u
        (let was = owned.told user at in let old_ = of_old (λ v. times at v.completed) in let more = t.completes_more at in omega (arith, was, old_, more))
        (λ differs. owned.told u at);
  }
    where
      pair : (a b c d : ℕ) → a ≡ b → c ≡ d → (let x : ℕ × ℕ = (a, c) in let y : ℕ × ℕ = (b, d) in x ≡ y)
      pair a b c d first second = λ i. (first i, second i)

-- ---- one place changes

-- A user's view and one place of a page change.
pub record PlaceTurn (world : World) (user page place : ℕ) (is : Status) (old view : UserView) : Type 0 where
  pub old_is : old ≡ world.users user
  pub place_in : place < 14
  pub was_in : world.status page place ≢ Outside
  pub is_in : is ≢ Outside
  pub claims_here : times (spot page place) view.claimed ≡ claims_of user is
  pub claims_else : (at : ℕ) → at ≢ spot page place → times at view.claimed ≡ times at old.claimed
  pub holds_here : times (spot page place) view.held ≡ holds_of user is
  pub holds_else : (at : ℕ) → at ≢ spot page place → times at view.held ≡ times at old.held
  pub others_claim : (other : ℕ) → other ≢ user → claims_of other is ≡ claims_of other (world.status page place)
  pub others_hold : (other : ℕ) → other ≢ user → holds_of other is ≡ holds_of other (world.status page place)
  pub others_have : (other : ℕ) → other ≢ user → IsMine other is → IsMine other (world.status page place)
  pub reads : reads_of is ≡ reads_of (world.status page place)
  pub completes_here : times (spot page place) view.completed + waits_of (world.status page place) ≡ times (spot page place) old.completed + waits_of is
  pub completes_else : (at : ℕ) → at ≢ spot page place → times at view.completed ≡ times at old.completed
  pub completes_more : (at : ℕ) → times at old.completed ≤ times at view.completed
  pub retiled : view.retiled ≡ old.retiled
  pub sights_here : seen_in page view.sights ≡ (world.layouts page, world.generations page)
  pub sights_else : (other : ℕ) → other ≢ page → seen_in other view.sights ≡ seen_in other old.sights
  pub sees : Sees page (world.layouts page) (world.generations page) (world.layouts page) (world.generations page) old.sights view.sights
  pub full : world.status page place ≡ Complete → is ≡ Complete

pub place_turns : (users : ℕ) (world : World) (user page place : ℕ) (is : Status) (old view : UserView) → IsOwned users world → user < users → PlaceTurn world user page place is old view
    → Turns users world user page (put (world.status page) place is) (world.layouts page) (world.generations page) old view
place_turns users world user page place is old view owned user_in t = record {
  old_is = t.old_is;
  user_in = user_in;
  claims_here = λ q below. put_at (λ r s. times (spot page r) view.claimed ≡ claims_of user s) (world.status page) place is q t.claims_here
      (λ differs. t.claims_else (spot page q) (apart_places page place q differs) ∙ (ap (λ (v : UserView). times (spot page q) v.claimed) t.old_is ∙ owned.claimed user page q below));
  claims_else = λ other q differs below. t.claims_else (spot other q) (apart page other place q t.place_in below differs);
  holds_here = λ q below. put_at (λ r s. times (spot page r) view.held ≡ holds_of user s) (world.status page) place is q t.holds_here
      (λ differs. t.holds_else (spot page q) (apart_places page place q differs) ∙ (ap (λ (v : UserView). times (spot page q) v.held) t.old_is ∙ owned.held user page q below));
  holds_else = λ other q differs below. t.holds_else (spot other q) (apart page other place q t.place_in below differs);
  others_claim = λ other q differs. put_at (λ r s. claims_of other s ≡ claims_of other (world.status page r)) (world.status page) place is q (t.others_claim other differs) (λ _. refl);
  others_hold = λ other q differs. put_at (λ r s. holds_of other s ≡ holds_of other (world.status page r)) (world.status page) place is q (t.others_hold other differs) (λ _. refl);
  reads = λ q. put_at (λ r s. reads_of s ≡ reads_of (world.status page r)) (world.status page) place is q t.reads (λ _. refl);
  completes_here = λ q below. put_at (λ r s. times (spot page r) view.completed + waits_of (world.status page r) ≡ times (spot page r) old.completed + waits_of s) (world.status page) place is q t.completes_here
      (λ differs. ap (λ n. n + waits_of (world.status page q)) (t.completes_else (spot page q) (apart_places page place q differs)));
  completes_else = λ other q differs below. t.completes_else (spot other q) (apart page other place q t.place_in below differs);
  completes_more = t.completes_more;
  generation_here = ap (λ (l : List ℕ). times page l + world.generations page) t.retiled;
  generation_else = λ other differs. ap (times other) t.retiled;
  sights_here = λ q below mine. t.sights_here;
  sights_else = t.sights_else;
  sees = t.sees;
  others_saw = λ other q differs mine. (put_at (λ r s. IsMine other s → IsMine other (world.status page r)) (world.status page) place is q (t.others_have other differs) (λ _ x. x) mine, refl, refl);
  layout_least = owned.layout_least page;
  layout_most = owned.layout_most page;
  outer = λ q past. put_at (λ r s. chunks_of (world.layouts page) ≤ r → s ≡ Outside) (world.status page) place is q (λ over. absurd (t.was_in (owned.outside page place over))) (λ _ over. owned.outside page q over) past;
  inner = λ q below. put_at (λ r s. r < chunks_of (world.layouts page) → s ≢ Outside) (world.status page) place is q (λ _. t.is_in) (λ _ under. owned.inside page q under) below;
  full = λ q was. put_at (λ r s. world.status page r ≡ Complete → s ≡ Complete) (world.status page) place is q t.full (λ _ x. x) was;
}

-- ---- what a status says

pub unclaimed_of : (is : Status) → claim_of is ≡ 0 → is ≡ Unclaimed
unclaimed_of Outside clear = absurd (omega arith)
unclaimed_of Unclaimed clear = refl
unclaimed_of (Claimed user) clear = absurd (omega arith)
unclaimed_of (Held user) clear = absurd (omega arith)
unclaimed_of Complete clear = absurd (omega arith)
unclaimed_of Reading clear = absurd (omega arith)

one_user : (other user : ℕ) → 0 < (if other == user then 1 else 0) → other ≡ user
one_user other user has = grind (arith, nat_tests, has)

pub claimed_of : (user : ℕ) (is : Status) → 0 < claims_of user is → is ≡ Claimed user
claimed_of user Outside has = absurd (omega arith)
claimed_of user Unclaimed has = absurd (omega arith)
claimed_of user (Claimed other) has = ap Claimed (one_user other user has)
claimed_of user (Held other) has = absurd (omega arith)
claimed_of user Complete has = absurd (omega arith)
claimed_of user Reading has = absurd (omega arith)

pub held_of : (user : ℕ) (is : Status) → 0 < holds_of user is → is ≡ Held user
held_of user Outside has = absurd (omega arith)
held_of user Unclaimed has = absurd (omega arith)
held_of user (Claimed other) has = absurd (omega arith)
held_of user (Held other) has = ap Held (one_user other user has)
held_of user Complete has = absurd (omega arith)
held_of user Reading has = absurd (omega arith)

pub mine_of : (user : ℕ) (is : Status) → 0 < claims_of user is + holds_of user is → IsMine user is
mine_of user Outside has = absurd (omega arith)
mine_of user Unclaimed has = absurd (omega arith)
mine_of user (Claimed other) has = one_user other user (omega (arith, has))
mine_of user (Held other) has = one_user other user (omega (arith, has))
mine_of user Complete has = absurd (omega arith)
mine_of user Reading has = absurd (omega arith)

pub claims_of-mine : (user : ℕ) → claims_of user (Claimed user) ≡ 1
claims_of-mine user = grind (arith, nat_tests)

pub holds_of-mine : (user : ℕ) → holds_of user (Held user) ≡ 1
holds_of-mine user = grind (arith, nat_tests)

pub claims_of-other : (other user : ℕ) → other ≢ user → claims_of other (Claimed user) ≡ 0
claims_of-other other user differs = grind (arith, nat_tests, differs)

pub holds_of-other : (other user : ℕ) → other ≢ user → holds_of other (Held user) ≡ 0
holds_of-other other user differs = grind (arith, nat_tests, differs)
