-- A user tells the collector what it has completed, and the collector takes in the seats of users.
use Rattle.std.proofs.Common.{◌≡◌, ◌≢◌, ℕ, ◌+◌, ◌*◌, ◌≤◌, List, [], ◌∷◌, ◌++◌, length, set, subst, sym, refl, ap, ◌∙◌, arith, ⊎_elim, eq-eqb, ne_eqb}
use Rattle.std.specs.Prelude.{if◌then◌else◌}
use Rattle.std.proofs.lemmas.List.{length-append}
use native.Mathlib.Decide.{ℕ_discrete}
use mathlib.Core.Logic.{dite}
use Rattle.atomic_table.specs.Table.{Splits, Joins}
use Rattle.atomic_table.proofs.Lists.{at_set, at_longer, set_here, set_else, set_again}
use Rattle.chunk_plain.specs.Views.{At}
use Rattle.chunk_plain.specs.Owned.{times}
use Rattle.chunk_plain.proofs.Lists.{at_one, at_more, at_inside}
use Rattle.layout_tuner.specs.declared.table.Shape.{Shape}
use Rattle.layout_tuner.specs.Knows.{UserView, CollectView, Watch, Nothing, Full, Knows, Spent, User, Collector, Report, number_of, told_by, hears}
use Rattle.layout_tuner.specs.World.{waits_of, World}
use Rattle.layout_tuner.specs.Rule.{Roll, HasJoined, IsWatched, Fits, IsManned, IsTuned}
use Rattle.layout_tuner.proofs.CollectorTurns.{collector_turn}

-- ---- a tale

-- one seat more, which knows its part of the world and is no user's nor the collector's
reports_manned : (users : ℕ) (world : World) (roll : Roll) (views : List Knows) (user : ℕ) (completed : List ℕ) → IsManned users world roll views
    → ((at : ℕ) → times at completed ≤ times at (world.users user).completed) → IsManned users world roll (views ++ Report user completed ∷ [])
reports_manned users world roll views user completed manned fits = let one = Report user completed in
    record {
      most = manned.most;
      least = manned.least;
      fresh = manned.fresh;
      seated = λ k low below. at_longer views (one ∷ []) (roll.seats k) (User k (world.users k)) (manned.seated k low below);
      staffed = let old = manned.staffed in (old.0, old.1, at_longer views (one ∷ []) roll.server (Collector roll.made old.0 old.1 world.collector) old.2);
      each = λ seat knows there. ⊎_elim
          (λ old. manned.each seat knows old)
          (λ new. subst (λ k. Fits world roll seat k) new.1 fits)
          (at_more views one knows seat there);
    }

pub tells_tuned : (shape : Shape) (id user : ℕ) (v : UserView) → Splits (IsTuned shape) id (User user v) (User user v) (Report user v.completed)
tells_tuned shape id user v s r at = record {
  world = r.world;
  roll = r.roll;
  words = r.words;
  shows = r.shows;
  owned = r.owned;
  unused = r.unused;
  untouched = r.untouched;
  manned = subst (λ l. IsManned shape.users r.world r.roll (l ++ Report user v.completed ∷ [])) (sym (set_again s.views id (User user v) at))
      (reports_manned shape.users r.world r.roll s.views user v.completed r.manned
      (λ a. subst (λ (w : UserView). times a v.completed ≤ times a w.completed) (r.manned.each id (User user v) at).0 (omega arith)));
}

-- a seat that another one takes in
spends_manned : (users : ℕ) (world : World) (roll : Roll) (views : List Knows) (seat user : ℕ) (completed : List ℕ) → IsManned users world roll views → At views seat (Report user completed)
    → IsManned users world roll (set views seat Spent)
spends_manned users world roll views seat user completed manned at = record {
  most = manned.most;
  least = manned.least;
  fresh = manned.fresh;
  seated = λ k low below. let was = manned.seated k low below in
      let apart : roll.seats k ≢ seat = λ same. absurd (let clash = at_one views (User k (world.users k)) (Report user completed) seat (subst (λ j. At views j (User k (world.users k))) same was) at in cc) in
      set_else views seat (roll.seats k) Spent apart ∙ was;
  staffed = let old = manned.staffed in
      let apart : roll.server ≢ seat = λ same. absurd (let clash = at_one views (Collector roll.made old.0 old.1 world.collector) (Report user completed) seat (subst (λ j. At views j (Collector roll.made old.0 old.1 world.collector)) same old.2) at in cc) in
      (old.0, old.1, set_else views seat roll.server Spent apart ∙ old.2);
  each = λ other knows there. ⊎_elim
      (λ here. subst (λ k. Fits world roll other k) here.1 tt)
      (λ old. manned.each other knows old.1)
      (at_set views seat other Spent knows there);
}

watch_heard : (world next : World) (watch : Watch) → ((page place : ℕ) → next.status page place ≡ world.status page place) → IsWatched world watch → IsWatched next watch
watch_heard world next Nothing same is = tt
watch_heard world next (Full page place) same is = same page place ∙ is

-- what was told last, with one tale more
told_more : (at user : ℕ) (view : CollectView) (number most : ℕ) (completed : List ℕ) → (user ≡ number → times at completed ≤ most) → times at (told_by user view.told) ≤ most
    → times at (told_by user (hears view number completed).told) ≤ most
told_more at user view number most completed here old = dite (ℕ_discrete number user)
    (λ same. subst (λ b. times at (if b then completed else told_by user view.told) ≤ most) (sym (eq-eqb number user same)) (here (sym same)))
    (λ differs. subst (λ b. times at (if b then completed else told_by user view.told) ≤ most) (sym (ne_eqb number user differs)) old)

pub hears_tuned : (shape : Shape) (id made other user : ℕ) (joined : List UserView) (watch : Watch) (v : CollectView) (completed : List ℕ)
    → Joins (IsTuned shape) id (Collector made joined watch v) other (Report user completed) (Collector made joined watch (hears v user completed)) Spent
hears_tuned shape id made other user joined watch v completed s r at apart there =
    let old = Collector made joined watch v in let view = hears v user completed in let now = Collector made joined watch view in
    let world = r.world in let f = r.manned.each id old at in
    let next : World = record world { collector = view } in
    let was = sym (set_else s.views id other now apart) ∙ there in
    let fits = r.manned.each other (Report user completed) was in
    let owned = r.owned in
    record {
      world = next;
      roll = r.roll;
      words = r.words;
      shows = r.shows;
      owned = record {
        claimed = owned.claimed;
        held = owned.held;
        reading = λ p q below. ap (λ (c : CollectView). times (14 * p + q) c.reading) f.0 ∙ owned.reading p q below;
        balance = λ p q below. owned.balance p q below ∙ ap (λ (c : CollectView). times (14 * p + q) c.taken + waits_of (world.status p q)) (sym f.0);
        generation = owned.generation;
        sights = owned.sights;
        laid = owned.laid;
        layout_least = owned.layout_least;
        layout_most = owned.layout_most;
        outside = owned.outside;
        inside = owned.inside;
        told = λ k a. told_more a k v user (times a (world.users k).completed) completed
            (λ same. subst (λ n. times a completed ≤ times a (world.users n).completed) (sym same) (fits a))
            (subst (λ (c : CollectView). times a (told_by k c.told) ≤ times a (world.users k).completed) (sym f.0) (owned.told k a));
      };
      unused = r.unused;
      untouched = r.untouched;
      manned = spends_manned shape.users next r.roll (set s.views id now) other user completed
          (collector_turn shape.users world next r.roll s.views id made joined watch watch v view r.manned at refl (λ _. refl) (watch_heard world next watch (λ p q. refl) f.4)) there;
    }

-- ---- a seat comes back

joins_fits : (world : World) (roll : Roll) (j user other : ℕ) (knows : Knows) → roll.joined ≡ user → roll.seats user ≡ other → j ≢ other → roll.server ≢ j
    → Fits world roll j knows → Fits world (record roll { joined = user + 1 }) j knows
joins_fits world roll j user other Spent same seat apart server fits = tt
joins_fits world roll j user other (User p view) same seat apart server fits =
    let low = fits.3 in let differs : p ≢ user = λ e. apart (sym fits.1 ∙ (ap roll.seats e ∙ seat)) in
    (fits.0, fits.1, fits.2, omega (arith, same, low, differs))
joins_fits world roll j user other (Report p completed) same seat apart server fits = fits
joins_fits world roll j user other (Collector made joined watch view) same seat apart server fits = absurd (server fits.1)

pub joins_tuned : (shape : Shape) (id user made other : ℕ) (joined : List UserView) (watch : Watch) (v : CollectView) (w : UserView) → user ≡ length joined
    → Joins (IsTuned shape) id (Collector made joined watch v) other (User user w) (Collector made (joined ++ w ∷ []) watch v) Spent
joins_tuned shape id user made other joined watch v w count s r at apart there =
    let old = Collector made joined watch v in let both = Collector made (joined ++ w ∷ []) watch v in let mine = User user w in
    let f = r.manned.each id old at in let world = r.world in
    let mine_at : At s.views other mine = sym (set_else s.views id other both apart) ∙ there in
    let g = r.manned.each other mine mine_at in
    let many = f.3.count in
    let joined_is : r.roll.joined ≡ user = omega (arith, many, count) in
    let one = set s.views id both in let last = set one other Spent in
    let roll : Roll = record r.roll { joined = user + 1 } in
    let inside = at_inside s.views old id at in
    let has : HasJoined world roll (joined ++ w ∷ []) = record {
      count = length-append joined (w ∷ []) ∙ (let same : length joined + 1 ≡ user + 1 = omega (arith, count) in same);
      each = λ k view in_list. ⊎_elim
          (λ before. f.3.each k view before)
          (λ new. let same : user ≡ k = count ∙ sym new.0 in subst (λ (z : UserView). z ≡ world.users k) new.1 (subst (λ p. w ≡ world.users p) same g.0))
          (at_more joined w view k in_list);
    } in
    record {
      world = world;
      roll = roll;
      words = r.words;
      shows = r.shows;
      owned = r.owned;
      unused = r.unused;
      untouched = r.untouched;
      manned = record {
        most = r.manned.most;
        least = let below = g.2 in omega (arith, below);
        fresh = r.manned.fresh;
        seated = λ p low below.
            let was = r.manned.seated p (omega (arith, low, joined_is)) below in
            let whole = User p (world.users p) in
            let not_other : r.roll.seats p ≢ other = λ same. absurd (let clash : p ≡ user = ap number_of (at_one s.views whole mine other (subst (λ j. At s.views j whole) same was) mine_at) in omega (arith, clash, low)) in
            let not_id : r.roll.seats p ≢ id = λ same. absurd (let clash = at_one s.views whole old id (subst (λ j. At s.views j whole) same was) at in cc) in
            set_else one other (r.roll.seats p) Spent not_other ∙ (set_else s.views id (r.roll.seats p) both not_id ∙ was);
        staffed = (
          joined ++ w ∷ [],
          watch,
          subst (λ j. At last j (Collector r.roll.made (joined ++ w ∷ []) watch world.collector)) (sym f.1)
              (subst (λ m. At last id (Collector m (joined ++ w ∷ []) watch world.collector)) (sym f.2)
              (subst (λ z. At last id (Collector made (joined ++ w ∷ []) watch z)) f.0
              (set_else one other id Spent (λ e. apart (sym e)) ∙ set_here s.views id both inside))),
        );
        each = λ j knows in_views. ⊎_elim
            (λ here. subst (λ z. Fits world roll j z) here.1 tt)
            (λ rest. ⊎_elim
            (λ here. subst (λ i. Fits world roll i knows) (sym here.0) (subst (λ z. Fits world roll id z) here.1 (f.0, f.1, f.2, has, f.4)))
            (λ older. joins_fits world r.roll j user other knows joined_is g.1 rest.0 (λ e. older.0 (sym e ∙ f.1)) (r.manned.each j knows older.1))
            (at_set s.views id j both knows rest.1))
            (at_set one other j Spent knows in_views);
      };
    }
