-- Each step of the collector's seat keeps the rule, and tells what it does.
use Rattle.std.proofs.Common.{◌≡◌, ◌≢◌, ℕ, ◌+◌, ◌*◌, ◌<◌, ◌≤◌, Bool, true, false, List, [], set, get_or, subst, sym, refl, ap, ◌∙◌, arith, ⊎_elim, length-set, bit_and}
use Rattle.std.specs.Int.{bit_at}
use Rattle.std.specs.Prelude.{if◌then◌else◌}
use native.Mathlib.Decide.{ℕ_discrete}
use mathlib.Core.Logic.{dite}
use Rattle.atomic_table.specs.Table.{Allows, keeps}
use Rattle.atomic_table.proofs.Lists.{at_set, set_here, set_else}
use Rattle.page_geometry.specs.Masks.{IsAllBut, IsReleaseMask}
use Rattle.page_geometry.proofs.Bits.{bit_at-and_kept, bit_at-and_cleared}
use Rattle.chunk_plain.specs.Views.{At}
use Rattle.chunk_plain.specs.Owned.{times}
use Rattle.chunk_plain.proofs.Lists.{at_one, at_inside, times-here, times-other, times-without_same, times-without_other}
use Rattle.layout_tuner.specs.declared.table.Shape.{Shape}
use Rattle.layout_tuner.specs.declared.moves.Move.TheVariants as move
use Rattle.layout_tuner.specs.PageWords.{spot, line, chunks_of, is_full}
use Rattle.layout_tuner.specs.Knows.{UserView, CollectView, Watch, Nothing, Full, Knows, Spent, User, Collector, Report, seen_in, told_by, looks_at, takes_in, lets_go}
use Rattle.layout_tuner.specs.World.{Status, Outside, Unclaimed, Claimed, Held, Complete, Reading, low_of, high_of, claim_of, claims_of, holds_of, reads_of, waits_of, IsMine, put, total, World, IsOwned}
use Rattle.layout_tuner.specs.Rule.{ShowsPage, Roll, IsWatched, Fits, IsManned, IsTuned}
use Rattle.layout_tuner.specs.Plays.{told_total, watch_for, After}
use Rattle.layout_tuner.proofs.Puts.{put_at, put_here, put_else, total-le}
use Rattle.layout_tuner.proofs.WordBits.{shown_place, full_bits, is_full-bits}
use Rattle.layout_tuner.proofs.SeatTurns.{Pages, shows_set}

-- the world with this view of the collector, and this status of a place
abbrev pub served : World → (page place : ℕ) → Status → CollectView → World
served world page place is view = record world { status = put world.status page (put (world.status page) place is); collector = view }

other_spot : (page place r q : ℕ) → place < 14 → q < 14 → (r ≡ page → q ≢ place) → spot r q ≢ spot page place
other_spot page place r q inside below differs same =
    let page_is : r ≡ page = omega (arith, inside, below, same) in differs page_is (omega (arith, same, page_is))

-- the collector's view and one place of a page change
pub record Serves (world : World) (page place : ℕ) (is : Status) (old view : CollectView) : Type 0 where
  pub old_is : old ≡ world.collector
  pub place_in : place < 14
  pub was_in : world.status page place ≢ Outside
  pub is_in : is ≢ Outside
  pub claims : (user : ℕ) → claims_of user is ≡ claims_of user (world.status page place)
  pub holds : (user : ℕ) → holds_of user is ≡ holds_of user (world.status page place)
  pub nobodys : (user : ℕ) → IsMine user is → ⊥
  pub reads_here : times (spot page place) view.reading ≡ reads_of is
  pub reads_else : (at : ℕ) → at ≢ spot page place → times at view.reading ≡ times at old.reading
  pub takes_here : times (spot page place) view.taken + waits_of is ≡ times (spot page place) old.taken + waits_of (world.status page place)
  pub takes_else : (at : ℕ) → at ≢ spot page place → times at view.taken ≡ times at old.taken
  pub told : view.told ≡ old.told

module _ (users : ℕ) (world : World) (page place : ℕ) (is : Status) (old view : CollectView) (t : Serves world page place is old view) (owned : IsOwned users world) where
  abbrev next : World
  next = served world page place is view

  -- what holds of the place that changes, and of each other one
  by_status : (P : ℕ → ℕ → Status → Type 0) (p q : ℕ) → P page place is → ((r : ℕ) → (r ≡ page → q ≢ place) → P r q (world.status r q)) → P p q (next.status p q)
  by_status P p q here else_ = put_at (λ r (all : ℕ → Status). P r q (all q)) world.status page (put (world.status page) place is) p
      (put_at (λ o s. P page o s) (world.status page) place is q here (λ differs. else_ page (λ _. differs)))
      (λ differs. else_ p (λ same. absurd (differs same)))

  reading_is : (at : ℕ) → times at old.reading ≡ times at world.collector.reading
  reading_is at = ap (λ (v : CollectView). times at v.reading) t.old_is

  taken_is : (at : ℕ) → times at old.taken ≡ times at world.collector.taken
  taken_is at = ap (λ (v : CollectView). times at v.taken) t.old_is

  pub owned_serve : IsOwned users next
  owned_serve = record {
    claimed = λ user p q below. by_status (λ r o s. o < 14 → times (spot r o) (world.users user).claimed ≡ claims_of user s) p q
        (λ inside. owned.claimed user page place inside ∙ sym (t.claims user)) (λ r _ inside. owned.claimed user r q inside) below;
    held = λ user p q below. by_status (λ r o s. o < 14 → times (spot r o) (world.users user).held ≡ holds_of user s) p q
        (λ inside. owned.held user page place inside ∙ sym (t.holds user)) (λ r _ inside. owned.held user r q inside) below;
    reading = λ p q below. by_status (λ r o s. o < 14 → times (spot r o) view.reading ≡ reads_of s) p q
        (λ inside. t.reads_here) (λ r differs inside. t.reads_else (spot r q) (other_spot page place r q t.place_in inside differs) ∙ (reading_is (spot r q) ∙ owned.reading r q inside)) below;
    balance = λ p q below. by_status (λ r o s. o < 14 → total users (λ user. times (spot r o) (world.users user).completed) ≡ times (spot r o) view.taken + waits_of s) p q
        (λ inside. let was = owned.balance page place inside in let here = t.takes_here in let same = taken_is (spot page place) in omega (arith, was, here, same))
        (λ r differs inside. let was = owned.balance r q inside in let stays = t.takes_else (spot r q) (other_spot page place r q t.place_in inside differs) in let same = taken_is (spot r q) in omega (arith, was, stays, same)) below;
    generation = owned.generation;
    sights = λ user p q below. by_status (λ r o s. o < 14 → IsMine user s → seen_in r (world.users user).sights ≡ (world.layouts r, world.generations r)) p q
        (λ inside mine. absurd (t.nobodys user mine)) (λ r _ inside mine. owned.sights user r q inside mine) below;
    laid = owned.laid;
    layout_least = owned.layout_least;
    layout_most = owned.layout_most;
    outside = λ p q. by_status (λ r o s. chunks_of (world.layouts r) ≤ o → s ≡ Outside) p q (λ past. absurd (t.was_in (owned.outside page place past))) (λ r _ past. owned.outside r q past);
    inside = λ p q. by_status (λ r o s. o < chunks_of (world.layouts r) → s ≢ Outside) p q (λ _. t.is_in) (λ r _ below. owned.inside r q below);
    told = λ user at. subst (λ l. times at (told_by user l) ≤ times at (world.users user).completed) (sym (t.told ∙ ap (λ (v : CollectView). v.told) t.old_is)) (owned.told user at);
  }

-- ---- the seats

served_on : (world later : World) (roll : Roll) (seat : ℕ) (knows : Knows) → ((user : ℕ) → later.users user ≡ world.users user) → roll.server ≢ seat → Fits world roll seat knows → Fits later roll seat knows
served_on world later roll seat Spent same apart fits = tt
served_on world later roll seat (User number known) same apart fits = (fits.0 ∙ sym (same number), fits.1, fits.2, fits.3)
served_on world later roll seat (Report number completed) same apart fits = λ at. subst (λ (v : UserView). times at completed ≤ times at v.completed) (sym (same number)) (fits at)
served_on world later roll seat (Collector made joined watch known) same apart fits = absurd (apart fits.1)

pub collector_turn : (users : ℕ) (world next : World) (roll : Roll) (views : List Knows) (seat made : ℕ) (joined : List UserView) (watch seen : Watch) (known view : CollectView)
    → IsManned users world roll views → At views seat (Collector made joined watch known) → next.collector ≡ view → ((user : ℕ) → next.users user ≡ world.users user) → IsWatched next seen
    → IsManned users next roll (set views seat (Collector made joined seen view))
collector_turn users world next roll views seat made joined watch seen known view manned at view_is same watches =
    let old = Collector made joined watch known in let now = Collector made joined seen view in
    let fits = manned.each seat old at in
    let inside = at_inside views old seat at in
    record {
      most = manned.most;
      least = manned.least;
      fresh = λ user high. same user ∙ manned.fresh user high;
      seated = λ user low below. let was = manned.seated user low below in
          let apart : roll.seats user ≢ seat = λ e. absurd (let one = at_one views (User user (world.users user)) old seat (subst (λ s. At views s (User user (world.users user))) e was) at in cc) in
          set_else views seat (roll.seats user) now apart ∙ subst (λ v. At views (roll.seats user) (User user v)) (sym (same user)) was;
      staffed = (
        joined,
        seen,
        subst (λ s. At (set views seat now) s (Collector roll.made joined seen next.collector)) (sym fits.1)
            (subst (λ m. At (set views seat now) seat (Collector m joined seen next.collector)) (sym fits.2)
            (subst (λ v. At (set views seat now) seat (Collector made joined seen v)) (sym view_is) (set_here views seat now inside))),
      );
      each = λ other knows there. ⊎_elim
          (λ here. subst (λ s. Fits next roll s knows) (sym here.0) (subst (λ k. Fits next roll seat k) here.1
          (sym view_is, fits.1, fits.2, record { count = fits.3.count; each = λ user one in_list. fits.3.each user one in_list ∙ sym (same user) }, watches)))
          (λ older. served_on world next roll other knows same (λ e. older.0 (sym e ∙ fits.1)) (manned.each other knows older.1))
          (at_set views seat other now knows there);
    }

collector_keeps : (shape : Shape) (s : Pages) (r : IsTuned shape s) (id page place new made : ℕ) (is : Status) (joined : List UserView) (watch seen : Watch) (old view : CollectView)
    → At s.views id (Collector made joined watch old) → page < shape.pages → Serves r.world page place is old view
    → ShowsPage new (r.world.layouts page) (r.world.generations page) (put (r.world.status page) place is) → IsWatched (served r.world page place is view) seen
    → IsTuned shape (record { words = set s.words (line page) new; homes = s.homes; views = set s.views id (Collector made joined seen view) })
collector_keeps shape s r id page place new made is joined watch seen old view at inside t shows watches =
    let world = r.world in let next = served world page place is view in let places = put (world.status page) place is in
    record {
      world = next;
      roll = r.roll;
      words = length-set s.words (line page) new ∙ r.words;
      shows = shows_set shape.pages s.words world next page new r.words inside r.shows
          (subst (λ (f : ℕ → Status). ShowsPage new (world.layouts page) (world.generations page) f) (sym (put_here world.status page places page refl)) shows)
          (λ p differs. (refl, refl, put_else world.status page places p differs));
      owned = owned_serve shape.users world page place is old view t r.owned;
      unused = r.unused;
      untouched = λ p q past. ap (λ (f : ℕ → Status). waits_of (f q)) (put_else world.status page places p (λ same. absurd (omega (arith, inside, past, same)))) ∙ r.untouched p q past;
      manned = collector_turn shape.users world next r.roll s.views id made joined watch seen old view r.manned at refl (λ _. refl) watches;
    }

-- ---- what a status says

complete_of : (is : Status) → low_of is ≡ 1 → high_of is ≡ 1 → is ≡ Complete
complete_of Outside low high = absurd (omega arith)
complete_of Unclaimed low high = absurd (omega arith)
complete_of (Claimed user) low high = absurd (omega arith)
complete_of (Held user) low high = absurd (omega (arith, high))
complete_of Complete low high = refl
complete_of Reading low high = absurd (omega (arith, low))

pub waiting_of : (is : Status) → 0 < waits_of is → is ≡ Complete
waiting_of Outside some = absurd (omega arith)
waiting_of Unclaimed some = absurd (omega arith)
waiting_of (Claimed user) some = absurd (omega arith)
waiting_of (Held user) some = absurd (omega arith)
waiting_of Complete some = refl
waiting_of Reading some = absurd (omega arith)

waits_most : (is : Status) → waits_of is ≤ 1
waits_most Outside = omega arith
waits_most Unclaimed = omega arith
waits_most (Claimed user) = omega arith
waits_most (Held user) = omega arith
waits_most Complete = omega arith
waits_most Reading = omega arith

pub reading_of : (is : Status) → 0 < reads_of is → is ≡ Reading
reading_of Outside some = absurd (omega arith)
reading_of Unclaimed some = absurd (omega arith)
reading_of (Claimed user) some = absurd (omega arith)
reading_of (Held user) some = absurd (omega arith)
reading_of Complete some = absurd (omega arith)
reading_of Reading some = refl

-- ---- look

-- where more was told than taken, the chunk waits
told_most : (users : ℕ) (world : World) (page place : ℕ) (old : CollectView) → IsOwned users world → old ≡ world.collector → place < 14
    → told_total users (spot page place) old ≤ times (spot page place) old.taken + waits_of (world.status page place)
told_most users world page place old owned old_is inside =
    let at = spot page place in
    let told = total-le users (λ user. times at (told_by user old.told)) (λ user. times at (world.users user).completed)
    (λ user _. subst (λ (v : CollectView). times at (told_by user v.told) ≤ times at (world.users user).completed) (sym old_is) (owned.told user at)) in
    let balance = owned.balance page place inside in
    let same = ap (λ (v : CollectView). times at v.taken) old_is in
    omega (arith, told, balance, same)

watch_now : (world : World) (page place found : ℕ) (view : CollectView) (full : Bool) → is_full found place ≡ full → place < 14 → ShowsPage found (world.layouts page) (world.generations page) (world.status page)
    → IsWatched (record world { collector = view }) (if full then Full page place else Nothing)
watch_now world page place found view true is inside shows =
    let bits = full_bits found place is in complete_of (world.status page place) (sym (shows.low place inside) ∙ bits.0) (sym (shows.high place inside) ∙ bits.1)
watch_now world page place found view false is inside shows = tt

pub looks_allowed : (shape : Shape) (count id page place made : ℕ) (joined : List UserView) (watch : Watch) (v : CollectView) → page < shape.pages → place < 14
    → Allows (IsTuned shape) count id (Collector made joined watch v, []) (line page) (λ found. found) (λ found new. After (move.Look shape.users page place) (Collector made joined watch v, []) found new)
looks_allowed shape count id page place made joined watch v inside place_in s r deep at small =
    let world = r.world in let found = get_or s.words (line page) 0 in let f = r.manned.each id (Collector made joined watch v) at in
    let shows = r.shows page inside in let view = looks_at v page place found in let next : World = record world { collector = view } in
    let most = told_most shape.users world page place v r.owned f.0 place_in in
    let owned = r.owned in (
      Collector made joined (watch_for page place found) view,
      keeps,
      tt,
      record {
        world = next;
        roll = r.roll;
        words = length-set s.words (line page) found ∙ r.words;
        shows = shows_set shape.pages s.words world next page found r.words inside r.shows shows (λ p differs. (refl, refl, refl));
        owned = record {
          claimed = owned.claimed;
          held = owned.held;
          reading = λ p q below. ap (λ (c : CollectView). times (spot p q) c.reading) f.0 ∙ owned.reading p q below;
          balance = λ p q below. owned.balance p q below ∙ ap (λ (c : CollectView). times (spot p q) c.taken + waits_of (world.status p q)) (sym f.0);
          generation = owned.generation;
          sights = owned.sights;
          laid = owned.laid;
          layout_least = owned.layout_least;
          layout_most = owned.layout_most;
          outside = owned.outside;
          inside = owned.inside;
          told = λ user a. subst (λ (c : CollectView). times a (told_by user c.told) ≤ times a (world.users user).completed) (sym f.0) (owned.told user a);
        };
        unused = r.unused;
        untouched = r.untouched;
        manned = collector_turn shape.users world next r.roll s.views id made joined watch (watch_for page place found) v view r.manned at refl (λ _. refl)
            (watch_now world page place found view (is_full found place) refl place_in shows);
      },
      (
        record {
          told = λ isnt. let none : waits_of (world.status page place) ≡ 0 = dite (ℕ_discrete (waits_of (world.status page place)) 0) (λ e. e)
              (λ some. absurd (let is = waiting_of (world.status page place) (omega (arith, some)) in
              let yes_ = is_full-bits found place (shows.low place place_in ∙ ap low_of is) (shows.high place place_in ∙ ap high_of is) in
              let clash : true ≡ false = sym yes_ ∙ isnt in cc)) in omega (arith, most, none);
          most = let one = waits_most (world.status page place) in omega (arith, most, one);
          new_is = refl;
        },
        refl,
      ),
    )

-- ---- take and release

pub takes_allowed : (shape : Shape) (count id page place mask made : ℕ) (joined : List UserView) (watch : Watch) (v : CollectView) → page < shape.pages → place < 14 → watch ≡ Full page place
    → IsAllBut mask (2 * place)
    → Allows (IsTuned shape) count id (Collector made joined watch v, []) (line page) (λ found. bit_and found mask) (λ found new. After (move.Take page place) (Collector made joined watch v, []) found new)
takes_allowed shape count id page place mask made joined watch v inside place_in watches is_mask s r deep at small =
    let world = r.world in let found = get_or s.words (line page) 0 in let f = r.manned.each id (Collector made joined watch v) at in
    let shows = r.shows page inside in let here = spot page place in let view = takes_in v here in
    let is : world.status page place ≡ Complete = subst (IsWatched world) watches f.4 in
    let kept : (bit : ℕ) → bit ≢ 2 * place → bit_at (bit_and found mask) bit ≡ bit_at found bit = λ bit differs. bit_at-and_kept found mask bit small (λ below. is_mask.others bit below differs) in (
      Collector made joined Nothing view,
      keeps,
      tt,
      collector_keeps shape s r id page place (bit_and found mask) made Reading joined watch Nothing v view at inside
          (record {
            old_is = f.0;
            place_in = place_in;
            was_in = λ out. absurd (let clash : Complete ≡ Outside = sym is ∙ out in cc);
            is_in = λ out. absurd cc;
            claims = λ user. sym (ap (claims_of user) is);
            holds = λ user. sym (ap (holds_of user) is);
            nobodys = λ user mine. absurd mine;
            reads_here = times-here here v.reading ∙ (let none = ap (λ (c : CollectView). times here c.reading) f.0 ∙ (r.owned.reading page place place_in ∙ ap reads_of is) in omega (arith, none));
            reads_else = λ a differs. times-other a here v.reading differs;
            takes_here = let more = times-here here v.taken in let one = ap waits_of is in omega (arith, more, one);
            takes_else = λ a differs. times-other a here v.taken differs;
            told = refl;
          })
          (shown_place found (bit_and found mask) (world.layouts page) (world.generations page) place (world.status page) Reading place_in shows
          (bit_at-and_cleared found mask (2 * place) is_mask.here)
          (kept (2 * place + 1) (omega arith) ∙ (shows.high place place_in ∙ ap high_of is))
          (kept (32 + place) (omega (arith, place_in)) ∙ (shows.claim place place_in ∙ ap claim_of is))
          (λ bit low high claim. kept bit low)) tt,
      refl,
    )

pub releases_allowed : (shape : Shape) (count id page place mask made : ℕ) (joined : List UserView) (watch : Watch) (v : CollectView) → page < shape.pages → place < 14 → 0 < times (spot page place) v.reading
    → IsReleaseMask mask place
    → Allows (IsTuned shape) count id (Collector made joined watch v, []) (line page) (λ found. bit_and found mask) (λ found new. After (move.Release page place) (Collector made joined watch v, []) found new)
releases_allowed shape count id page place mask made joined watch v inside place_in has is_mask s r deep at small =
    let world = r.world in let found = get_or s.words (line page) 0 in let f = r.manned.each id (Collector made joined watch v) at in
    let shows = r.shows page inside in let here = spot page place in let view = lets_go v here in
    let reads = ap (λ (c : CollectView). times here c.reading) f.0 ∙ r.owned.reading page place place_in in
    let is = reading_of (world.status page place) (omega (arith, has, reads)) in
    let kept : (bit : ℕ) → bit ≢ 2 * place + 1 → bit ≢ 32 + place → bit_at (bit_and found mask) bit ≡ bit_at found bit
    = λ bit high claim. bit_at-and_kept found mask bit small (λ below. is_mask.others bit below high claim) in (
      Collector made joined Nothing view,
      keeps,
      tt,
      collector_keeps shape s r id page place (bit_and found mask) made Unclaimed joined watch Nothing v view at inside
          (record {
            old_is = f.0;
            place_in = place_in;
            was_in = λ out. absurd (let clash : Reading ≡ Outside = sym is ∙ out in cc);
            is_in = λ out. absurd cc;
            claims = λ user. sym (ap (claims_of user) is);
            holds = λ user. sym (ap (holds_of user) is);
            nobodys = λ user mine. absurd mine;
            reads_here = let less = times-without_same here v.reading has in let one = reads ∙ ap reads_of is in omega (arith, less, one);
            reads_else = λ a differs. times-without_other a here v.reading differs;
            takes_here = ap (λ n. times here v.taken + n) (sym (ap waits_of is));
            takes_else = λ a differs. refl;
            told = refl;
          })
          (shown_place found (bit_and found mask) (world.layouts page) (world.generations page) place (world.status page) Unclaimed place_in shows
          (kept (2 * place) (omega arith) (omega (arith, place_in)) ∙ (shows.low place place_in ∙ ap low_of is))
          (bit_at-and_cleared found mask (2 * place + 1) is_mask.state)
          (bit_at-and_cleared found mask (32 + place) is_mask.claim)
          (λ bit low high claim. kept bit high claim)) tt,
      refl,
    )
