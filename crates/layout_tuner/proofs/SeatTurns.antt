-- A step of one seat leaves each other seat what it knows.
use Rattle.std.proofs.Common.{◌≡◌, ◌≢◌, ℕ, ◌<◌, ◌≤◌, List, length, set, get_or, subst, sym, refl, ap, ◌∙◌, arith, ⊎_elim, length-set}
use Rattle.std.proofs.lemmas.List.{get_or-set_same, get_or-set_other}
use native.Mathlib.Decide.{ℕ_discrete}
use mathlib.Core.Logic.{dite}
use Rattle.atomic_table.specs.Table.{State}
use Rattle.atomic_table.proofs.Lists.{at_set, set_here, set_else}
use Rattle.chunk_plain.specs.Views.{At}
use Rattle.chunk_plain.specs.Owned.{times}
use Rattle.chunk_plain.proofs.Lists.{at_one, at_inside}
use Rattle.layout_tuner.specs.declared.table.Shape.{Shape}
use Rattle.layout_tuner.specs.PageWords.{line}
use Rattle.layout_tuner.specs.Knows.{UserView, Watch, Nothing, Full, Knows, Spent, User, Collector, Report, number_of}
use Rattle.layout_tuner.specs.World.{Status, Complete, waits_of, World}
use Rattle.layout_tuner.specs.Rule.{ShowsPage, Roll, IsWatched, Fits, IsManned, IsTuned}
use Rattle.layout_tuner.proofs.Puts.{put_here, put_else}
use Rattle.layout_tuner.proofs.WorldTurns.{turned, Turns, owned_turn}

abbrev pub Pages : Type 0
Pages = State ℕ Knows

-- what a step of a user leaves of the world
pub record UserChange (world next : World) (user : ℕ) (view : UserView) : Type 0 where
  pub mine : next.users user ≡ view
  pub others : (other : ℕ) → other ≢ user → next.users other ≡ world.users other
  pub collector : next.collector ≡ world.collector
  pub full : (page place : ℕ) → world.status page place ≡ Complete → next.status page place ≡ Complete
  pub more : (at : ℕ) → times at (world.users user).completed ≤ times at view.completed

watch_stays : (world next : World) (watch : Watch) → ((page place : ℕ) → world.status page place ≡ Complete → next.status page place ≡ Complete) → IsWatched world watch → IsWatched next watch
watch_stays world next Nothing full is = tt
watch_stays world next (Full page place) full is = full page place is

fits_on : (world next : World) (roll : Roll) (seat user : ℕ) (view : UserView) (knows : Knows) → UserChange world next user view → roll.joined ≤ user → roll.seats user ≢ seat
    → Fits world roll seat knows → Fits next roll seat knows
fits_on world next roll seat user view Spent change joined apart fits = tt
fits_on world next roll seat user view (User other known) change joined apart fits =
    let differs : other ≢ user = λ same. apart (ap roll.seats (sym same) ∙ fits.1) in (fits.0 ∙ sym (change.others other differs), fits.1, fits.2, fits.3)
fits_on world next roll seat user view (Report other completed) change joined apart fits = λ at. dite (ℕ_discrete other user)
    (λ same. let was = fits at in let more = change.more at in
    let old : times at (world.users other).completed ≡ times at (world.users user).completed = ap (λ u. times at (world.users u).completed) same in
    let now : times at (next.users other).completed ≡ times at view.completed = ap (λ u. times at (next.users u).completed) same ∙ ap (λ (v : UserView). times at v.completed) change.mine in
    omega (arith, was, more, old, now))
    (λ differs. subst (λ (v : UserView). times at completed ≤ times at v.completed) (sym (change.others other differs)) (fits at))
fits_on world next roll seat user view (Collector made views watch known) change joined apart fits = (
  fits.0 ∙ sym change.collector,
  fits.1,
  fits.2,
  record {
    count = fits.3.count;
    each = λ other one at. let differs : other ≢ user = λ same. absurd (let below = at_inside views one other at in let many = fits.3.count in omega (arith, below, many, joined, same)) in
        fits.3.each other one at ∙ sym (change.others other differs);
  },
  watch_stays world next watch change.full fits.4,
)

pub user_turn : (users : ℕ) (world next : World) (roll : Roll) (views : List Knows) (seat user : ℕ) (known view : UserView)
    → IsManned users world roll views → At views seat (User user known) → UserChange world next user view → IsManned users next roll (set views seat (User user view))
user_turn users world next roll views seat user known view manned at change =
    let fits = manned.each seat (User user known) at in
    let inside = at_inside views (User user known) seat at in
    let now = User user view in
    record {
      most = manned.most;
      least = manned.least;
      fresh = λ other high. let differs : other ≢ user = λ same. absurd (let low = fits.2 in omega (arith, low, high, same)) in change.others other differs ∙ manned.fresh other high;
      seated = λ other low below. dite (ℕ_discrete other user)
          (λ same. subst (λ u. At (set views seat now) (roll.seats u) (User u (next.users u))) (sym same)
          (subst (λ s. At (set views seat now) s (User user (next.users user))) (sym fits.1)
          (subst (λ v. At (set views seat now) seat (User user v)) (sym change.mine) (set_here views seat now inside))))
          (λ differs. let old = manned.seated other low below in
          let apart : roll.seats other ≢ seat = λ same. differs (ap number_of (at_one views (User other (world.users other)) (User user known) seat (subst (λ s. At views s (User other (world.users other))) same old) at)) in
          set_else views seat (roll.seats other) now apart ∙ subst (λ v. At views (roll.seats other) (User other v)) (sym (change.others other differs)) old);
      staffed = let old = manned.staffed in
          let apart : roll.server ≢ seat = λ same. absurd (let one = at_one views (Collector roll.made old.0 old.1 world.collector) (User user known) seat (subst (λ s. At views s (Collector roll.made old.0 old.1 world.collector)) same old.2) at in cc) in
          (old.0, old.1, set_else views seat roll.server now apart ∙ subst (λ v. At views roll.server (Collector roll.made old.0 old.1 v)) (sym change.collector) old.2);
      each = λ other knows there. ⊎_elim
          (λ here. subst (λ s. Fits next roll s knows) (sym here.0) (subst (λ k. Fits next roll seat k) here.1 (sym change.mine, fits.1, fits.2, fits.3)))
          (λ old. fits_on world next roll other user view knows change fits.3 (λ same. old.0 (sym same ∙ fits.1)) (manned.each other knows old.1))
          (at_set views seat other now knows there);
    }

alike : (word was layout old_layout generation old_generation : ℕ) (places old_places : ℕ → Status) → word ≡ was → layout ≡ old_layout → generation ≡ old_generation → places ≡ old_places
    → ShowsPage was old_layout old_generation old_places → ShowsPage word layout generation places
alike word was layout old_layout generation old_generation places old_places one two three four shows =
    subst (λ w. ShowsPage w layout generation places) (sym one) (subst (λ l. ShowsPage was l generation places) (sym two)
    (subst (λ g. ShowsPage was old_layout g places) (sym three) (subst (λ (f : ℕ → Status). ShowsPage was old_layout old_generation f) (sym four) shows)))

-- the page words, where one of them changes, and with it its page alone
pub shows_set : (pages : ℕ) (words : List ℕ) (world next : World) (page new : ℕ) → length words ≡ line pages → page < pages
    → ((p : ℕ) → p < pages → ShowsPage (get_or words (line p) 0) (world.layouts p) (world.generations p) (world.status p))
    → ShowsPage new (next.layouts page) (next.generations page) (next.status page)
    → ((p : ℕ) → p ≢ page → (next.layouts p ≡ world.layouts p) × (next.generations p ≡ world.generations p) × (next.status p ≡ world.status p))
    → (p : ℕ) → p < pages → ShowsPage (get_or (set words (line page) new) (line p) 0) (next.layouts p) (next.generations p) (next.status p)
shows_set pages words world next page new many inside shows here others p below = dite (ℕ_discrete p page)
    (λ same. subst (λ q. ShowsPage (get_or (set words (line page) new) (line q) 0) (next.layouts q) (next.generations q) (next.status q)) (sym same)
    (subst (λ w. ShowsPage w (next.layouts page) (next.generations page) (next.status page)) (sym (get_or-set_same words (line page) new 0 (omega (arith, many, inside)))) here))
    (λ differs. let is = others p differs in alike _ (get_or words (line p) 0) _ (world.layouts p) _ (world.generations p) _ (world.status p)
    (get_or-set_other words (line page) (line p) new 0 (λ e. differs (omega (arith, e)))) is.0 is.1 is.2 (shows p below))

pub user_keeps : (shape : Shape) (s : Pages) (r : IsTuned shape s) (id user page new : ℕ) (places : ℕ → Status) (layout generation : ℕ) (old view : UserView)
    → At s.views id (User user old) → page < shape.pages → Turns shape.users r.world user page places layout generation old view → ShowsPage new layout generation places
    → IsTuned shape (record { words = set s.words (line page) new; homes = s.homes; views = set s.views id (User user view) })
user_keeps shape s r id user page new places layout generation old view at inside t shows =
    let world = r.world in let next = turned world user page places layout generation view in
    record {
      world = next;
      roll = r.roll;
      words = length-set s.words (line page) new ∙ r.words;
      shows = shows_set shape.pages s.words world next page new r.words inside r.shows
          (alike new new _ layout _ generation _ places refl (put_here world.layouts page layout page refl) (put_here world.generations page generation page refl) (put_here world.status page places page refl) shows)
          (λ p differs. (put_else world.layouts page layout p differs, put_else world.generations page generation p differs, put_else world.status page places p differs));
      owned = owned_turn shape.users world user page places layout generation old view t r.owned;
      unused = λ p past. put_else world.generations page generation p (λ same. absurd (omega (arith, inside, past, same))) ∙ r.unused p past;
      untouched = λ p q past. ap (λ (f : ℕ → Status). waits_of (f q)) (put_else world.status page places p (λ same. absurd (omega (arith, inside, past, same)))) ∙ r.untouched p q past;
      manned = user_turn shape.users world next r.roll s.views id user old view r.manned at (record {
        mine = put_here world.users user view user refl;
        others = λ other differs. put_else world.users user view other differs;
        collector = refl;
        full = λ p q was. dite (ℕ_discrete p page)
            (λ same. ap (λ (f : ℕ → Status). f q) (put_here world.status page places p same) ∙ t.full q (subst (λ z. world.status z q ≡ Complete) same was))
            (λ differs. ap (λ (f : ℕ → Status). f q) (put_else world.status page places p differs) ∙ was);
        more = λ at_. subst (λ (v : UserView). times at_ v.completed ≤ times at_ view.completed) t.old_is (t.completes_more at_);
      });
    }
