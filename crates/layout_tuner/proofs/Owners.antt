-- The rule of a table in the words of page words and of what seats know.
use Rattle.std.proofs.Common.{◌≡◌, ◌≢◌, ℕ, ◌<◌, ◌≤◌, get_or, subst, sym, refl, ap, ◌∙◌, arith, inl, inr, lt_of_not-le}
use native.Mathlib.Decide.{dec_le}
use mathlib.Core.Logic.{dite}
use Rattle.chunk_plain.specs.Views.{At}
use Rattle.chunk_plain.specs.Owned.{times}
use Rattle.chunk_plain.proofs.Lists.{at_some}
use Rattle.layout_tuner.specs.declared.table.Shape.{Shape}
use Rattle.layout_tuner.specs.PageWords.{spot, line, chunks_of, layout_in, generation_in}
use Rattle.layout_tuner.specs.Knows.{UserView, User, Collector}
use Rattle.layout_tuner.specs.World.{Status, Outside, Unclaimed, Claimed, Held, Complete, Reading, low_of, high_of, claim_of, claims_of, holds_of, reads_of, waits_of, World, IsOwned}
use Rattle.layout_tuner.specs.Rule.{ShowsPage, IsTuned}
use Rattle.layout_tuner.specs.Laws.{IsNobodys, IsClaimedByOne, IsHeldByOne, IsReadOnce, PageOwnership, TunedOwnership}
use Rattle.layout_tuner.proofs.Laid.{laid_as}
use Rattle.layout_tuner.proofs.Puts.{few_chunks}
use Rattle.layout_tuner.proofs.WorldTurns.{claimed_of, held_of, mine_of, claims_of-mine, holds_of-mine, unclaimed_of}
use Rattle.layout_tuner.proofs.SeatTurns.{Pages}

-- ---- what the bits of a place say of it

free_of : (is : Status) → low_of is ≡ 0 → high_of is ≡ 0 → claim_of is ≡ 1 → is ≢ Outside → (user : ℕ) × (is ≡ Claimed user)
free_of Outside low high claim inside = absurd (inside refl)
free_of Unclaimed low high claim inside = absurd (omega (arith, claim))
free_of (Claimed user) low high claim inside = (user, refl)
free_of (Held user) low high claim inside = absurd (omega (arith, low))
free_of Complete low high claim inside = absurd (omega (arith, low))
free_of Reading low high claim inside = absurd (omega (arith, high))

written_of : (is : Status) → low_of is ≡ 1 → high_of is ≡ 0 → (user : ℕ) × (is ≡ Held user)
written_of Outside low high = absurd (omega (arith, low))
written_of Unclaimed low high = absurd (omega (arith, low))
written_of (Claimed user) low high = absurd (omega (arith, low))
written_of (Held user) low high = (user, refl)
written_of Complete low high = absurd (omega (arith, high))
written_of Reading low high = absurd (omega (arith, low))

complete_of : (is : Status) → low_of is ≡ 1 → high_of is ≡ 1 → is ≡ Complete
complete_of Outside low high = absurd (omega (arith, low))
complete_of Unclaimed low high = absurd (omega (arith, low))
complete_of (Claimed user) low high = absurd (omega (arith, low))
complete_of (Held user) low high = absurd (omega (arith, high))
complete_of Complete low high = refl
complete_of Reading low high = absurd (omega (arith, low))

read_of : (is : Status) → low_of is ≡ 0 → high_of is ≡ 1 → is ≡ Reading
read_of Outside low high = absurd (omega (arith, high))
read_of Unclaimed low high = absurd (omega (arith, high))
read_of (Claimed user) low high = absurd (omega (arith, high))
read_of (Held user) low high = absurd (omega (arith, low))
read_of Complete low high = absurd (omega (arith, low))
read_of Reading low high = refl

none_waiting : (is : Status) → ((is ≡ Complete) → ⊥) → waits_of is ≡ 0
none_waiting Outside isnt = refl
none_waiting Unclaimed isnt = refl
none_waiting (Claimed user) isnt = refl
none_waiting (Held user) isnt = refl
none_waiting Complete isnt = absurd (isnt refl)
none_waiting Reading isnt = refl

-- ---- who has a place

module _ (users : ℕ) (world : World) (owned : IsOwned users world) (page place : ℕ) (inside : place < 14) where
  abbrev at : ℕ
  at = spot page place

  abbrev is : Status
  is = world.status page place

  claimed_is : (user : ℕ) (s : Status) → is ≡ s → times at (world.users user).claimed ≡ claims_of user s
  claimed_is user s same = owned.claimed user page place inside ∙ ap (claims_of user) same

  held_is : (user : ℕ) (s : Status) → is ≡ s → times at (world.users user).held ≡ holds_of user s
  held_is user s same = owned.held user page place inside ∙ ap (holds_of user) same

  reading_is : (s : Status) → is ≡ s → times at world.collector.reading ≡ reads_of s
  reading_is s same = owned.reading page place inside ∙ ap reads_of same

  nobodys : (s : Status) → is ≡ s → ((user : ℕ) → claims_of user s ≡ 0) → ((user : ℕ) → holds_of user s ≡ 0) → reads_of s ≡ 0 → IsNobodys world.users world.collector at
  nobodys s same claims holds reads = record {
    claimed = λ user. claimed_is user s same ∙ claims user;
    held = λ user. held_is user s same ∙ holds user;
    reading = reading_is s same ∙ reads;
  }

  claimed_by_one : (user : ℕ) → is ≡ Claimed user → IsClaimedByOne world.users world.collector at
  claimed_by_one user same = record {
    user = user;
    once = claimed_is user (Claimed user) same ∙ claims_of-mine user;
    others = λ other has.
        let mine = claimed_of other (Claimed user) (let all = claimed_is other (Claimed user) same in omega (arith, has, all)) in one_claimer user other mine;
    held = λ other. held_is other (Claimed user) same;
    reading = reading_is (Claimed user) same;
  }
    where
      one_claimer : (user other : ℕ) → Claimed user ≡ Claimed other → other ≡ user
      one_claimer user other e = let same_user : user ≡ other = cc in sym same_user

  held_by_one : (user : ℕ) → is ≡ Held user → IsHeldByOne world.users world.collector at
  held_by_one user same = record {
    user = user;
    once = held_is user (Held user) same ∙ holds_of-mine user;
    others = λ other has.
        let mine = held_of other (Held user) (let all = held_is other (Held user) same in omega (arith, has, all)) in one_holder user other mine;
    claimed = λ other. claimed_is other (Held user) same;
    reading = reading_is (Held user) same;
  }
    where
      one_holder : (user other : ℕ) → Held user ≡ Held other → other ≡ user
      one_holder user other e = let same_user : user ≡ other = cc in sym same_user

  read_once : is ≡ Reading → IsReadOnce world.users world.collector at
  read_once same = record {
    once = reading_is Reading same;
    claimed = λ user. claimed_is user Reading same;
    held = λ user. held_is user Reading same;
  }

-- ---- a page

page_ownership : (users : ℕ) (world : World) (page word : ℕ) → IsOwned users world → ShowsPage word (world.layouts page) (world.generations page) (world.status page)
    → PageOwnership users page word world.users world.collector
page_ownership users world page word owned shows =
    let few = few_chunks (world.layouts page) (owned.layout_least page) (owned.layout_most page) in
    let below : (place : ℕ) → place < chunks_of (layout_in word) → place < chunks_of (world.layouts page) = λ place under. subst (λ l. place < chunks_of l) shows.layout_is under in
    let near : (place : ℕ) → place < chunks_of (layout_in word) → place < 14 = λ place under. let less = below place under in omega (arith, less, few) in
    record {
      layout_least = subst (λ l. 1 ≤ l) (sym shows.layout_is) (owned.layout_least page);
      layout_most = subst (λ l. l ≤ 5) (sym shows.layout_is) (owned.layout_most page);
      unclaimed = λ place under clear.
          let free = unclaimed_of (world.status page place) (sym (shows.claim place (near place under)) ∙ clear) in (
            record { low = shows.low place (near place under) ∙ ap low_of free; high = shows.high place (near place under) ∙ ap high_of free },
            nobodys users world owned page place (near place under) Unclaimed free (λ _. refl) (λ _. refl) refl,
          );
      claimed = λ place under claim bits.
          let one = free_of (world.status page place) (sym (shows.low place (near place under)) ∙ bits.low) (sym (shows.high place (near place under)) ∙ bits.high)
          (sym (shows.claim place (near place under)) ∙ claim) (owned.inside page place (below place under)) in
          claimed_by_one users world owned page place (near place under) one.0 one.1;
      written = λ place under bits.
          let one = written_of (world.status page place) (sym (shows.low place (near place under)) ∙ bits.low) (sym (shows.high place (near place under)) ∙ bits.high) in
          (shows.claim place (near place under) ∙ ap claim_of one.1, held_by_one users world owned page place (near place under) one.0 one.1);
      complete = λ place under bits.
          let full = complete_of (world.status page place) (sym (shows.low place (near place under)) ∙ bits.low) (sym (shows.high place (near place under)) ∙ bits.high) in
          (shows.claim place (near place under) ∙ ap claim_of full, nobodys users world owned page place (near place under) Complete full (λ _. refl) (λ _. refl) refl);
      read = λ place under bits.
          let read_ = read_of (world.status page place) (sym (shows.low place (near place under)) ∙ bits.low) (sym (shows.high place (near place under)) ∙ bits.high) in
          (shows.claim place (near place under) ∙ ap claim_of read_, read_once users world owned page place (near place under) read_);
      outer = λ place past inside.
          let out = owned.outside page place (subst (λ l. chunks_of l ≤ place) shows.layout_is past) in (
            shows.claim place inside ∙ ap claim_of out,
            record { low = shows.low place inside ∙ ap low_of out; high = shows.high place inside ∙ ap high_of out },
            nobodys users world owned page place inside Outside out (λ _. refl) (λ _. refl) refl,
          );
      seen = λ user place inside has.
          let claimed = owned.claimed user page place inside in let held = owned.held user page place inside in
          owned.sights user page place inside (mine_of user (world.status page place) (omega (arith, has, claimed, held))) ∙ (λ i. (sym shows.layout_is i, sym shows.generation_is i));
      laid = laid_as users world.users page (layout_in word) (generation_in word) (world.layouts page) (world.generations page) shows.layout_is shows.generation_is (owned.laid page);
      generation = shows.generation_is ∙ sym (owned.generation page);
      waiting = λ place inside bits.
          let full = complete_of (world.status page place) (sym (shows.low place inside) ∙ bits.low) (sym (shows.high place inside) ∙ bits.high) in
          let balance = owned.balance page place inside in let one = ap waits_of full in omega (arith, balance, one);
      none_waits = λ place inside isnt.
          let none = none_waiting (world.status page place) (λ full. isnt (record { low = shows.low place inside ∙ ap low_of full; high = shows.high place inside ∙ ap high_of full })) in
          let balance = owned.balance page place inside in omega (arith, balance, none);
    }

pub tuned_ownership : (shape : Shape) (state : Pages) → IsTuned shape state → TunedOwnership shape state
tuned_ownership shape s r =
    let staffed = r.manned.staffed in
    let fits = r.manned.each r.roll.server (Collector r.roll.made staffed.0 staffed.1 r.world.collector) staffed.2 in
    record {
      users = r.world.users;
      collector = r.world.collector;
      pages = λ page below. page_ownership shape.users r.world page (get_or s.words (line page) 0) r.owned (r.shows page below);
      user_views = λ seat number view at. (r.manned.each seat (User number view) at).0;
      one_seat = λ seat other number view known at there. sym (r.manned.each seat (User number view) at).1 ∙ (r.manned.each other (User number known) there).1;
      collector_view = λ seat made joined watch view at. (r.manned.each seat (Collector made joined watch view) at).0;
      one_collector = λ seat other made more joined other_joined watch watched view known at there.
          sym (r.manned.each seat (Collector made joined watch view) at).1 ∙ (r.manned.each other (Collector more other_joined watched known) there).1;
      has_collector = record { seat = r.roll.server; made = r.roll.made; joined = staffed.0; watch = staffed.1; at = staffed.2 };
      each_user = λ user below. dite (dec_le r.roll.made user)
          (λ past. inl (r.manned.fresh user past))
          (λ under. inr (dite (dec_le r.roll.joined user)
          (λ low. inl (r.roll.seats user, r.manned.seated user low (lt_of_not-le under)))
          (λ early. inr (let there = at_some staffed.0 user (let count = fits.3.count in let less = lt_of_not-le early in omega (arith, count, less)) in
          subst (λ (v : UserView). At staffed.0 user v) (fits.3.each user there.0 there.1) there.1))));
      no_others = λ user past. r.manned.fresh user (let most = r.manned.most in omega (arith, past, most));
    }
