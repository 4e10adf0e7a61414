-- The reading pass is made, goes into the service's seat for a read, and comes back; and what a writer tells goes to the service.
use Rattle.std.proofs.Common.{◌≡◌, ◌≢◌, ℕ, ◌≤◌, zero, suc, List, [], ◌∷◌, ◌++◌, length, set, get_or, subst, sym, refl, ap, ◌∙◌, arith, ⊎_elim}
use Rattle.std.proofs.lemmas.List.{set_comm}
use mathlib.Core.Option.{some-injective}
use Rattle.atomic_table.specs.Table.{Allows, Splits, Joins, keeps}
use Rattle.atomic_table.proofs.Lists.{at_set, at_longer, set_here, set_else}
use Rattle.chunk_plain.specs.Setup.{Setup}
use Rattle.chunk_plain.specs.Views.{At, BegunChunk, WriterView, Noted, ServiceView}
use Rattle.chunk_plain.specs.World.{World, writer}
use Rattle.chunk_plain.specs.Steps.{notes, serviced}
use Rattle.chunk_plain.specs.Letters.{last_flush}
use Rattle.chunk_plain.proofs.Lists.{at_inside, at_one, at_more}
use Rattle.chunk_plain.proofs.KeptService.{serviced_kept}
use Rattle.chunk_schedules.specs.Moves.{Notes as NotesMove, MayMove}
use Rattle.chunk_schedules.specs.Schedules.{IsLed}
use Rattle.chunk_schedules.proofs.Leading.{led_on, led_mark}
use Rattle.chunk_words.specs.GoesOn.{GoesOn}
use Rattle.chunk_words.specs.Knows.{Watch, Nothing, Stage, Unmade, Away, Here, Tale, Desk, Knows, Spent, Writer, Service, Pass, Report, Notice, staged, with_stage, with_tale, with_mark}
use Rattle.chunk_words.specs.Rule.{Roll, IsMade, IsTrue, Fits, IsManned, IsShared}
use Rattle.chunk_words.specs.Moves.{NotesRead, Marks}
use Rattle.chunk_words.proofs.Bodies.{with_service_hand, bodies_stay}
use Rattle.chunk_words.specs.Told.{StaysCompleted}
use Rattle.chunk_words.proofs.Telling.{stays_same}
use Rattle.chunk_words.proofs.Passing.{goes_same}
use Rattle.chunk_words.proofs.MailWords.{mail_loaded, mail_by_service}
use Rattle.chunk_words.proofs.Turns.{serviced_change, same_service, service_turn}
use Rattle.chunk_words.proofs.WriterMoves.{Table}
use Rattle.chunk_words.proofs.WriterEnds.{words_loaded}

-- no seat is the reading pass's
abbrev pub IsNone : List Knows → Type 0
IsNone views = (seat : ℕ) (view : ServiceView) → At views seat (Pass view) → ⊥

-- the reading pass is here, with this seat and this view
abbrev pub with_pass : Roll → Stage → ℕ → ServiceView → Roll
with_pass roll stage keeper passed = record roll { stage = stage; keeper = keeper; passed = passed }

pub set_twice : {A : Type 0} (xs : List A) (i : ℕ) (x y : A) → set (set xs i x) i y ≡ set xs i y
set_twice [] i x y = refl
set_twice (z ∷ zs) zero x y = refl
set_twice (z ∷ zs) (suc i) x y = ap (λ (l : List _). z ∷ l) (set_twice zs i x y)

pub none_set : (views : List Knows) (id hand made : ℕ) (desk : Desk) (watch : Watch) (v : ServiceView) → IsNone views → IsNone (set views id (Service hand made desk watch v))
none_set views id hand made desk watch v none seat view at = ⊎_elim
    (λ here. absurd (let clash = here.1 in cc))
    (λ old. none seat view old.1)
    (at_set views id seat (Service hand made desk watch v) (Pass view) at)

restaged_on : (setup : Setup) (world : World) (roll : Roll) (seat keeper : ℕ) (stage : Stage) (passed : ServiceView) (knows : Knows) → roll.server ≢ seat
    → ((view : ServiceView) → knows ≡ Pass view → ⊥) → Fits setup world roll seat knows → Fits setup world (with_pass roll stage keeper passed) seat knows
restaged_on setup world roll seat keeper stage passed Spent apart none fits = tt
restaged_on setup world roll seat keeper stage passed (Writer place hand view) apart none fits = fits
restaged_on setup world roll seat keeper stage passed (Service hand made desk watch view) apart none fits = absurd (apart fits.1)
restaged_on setup world roll seat keeper stage passed (Report place begun flush) apart none fits = fits
restaged_on setup world roll seat keeper stage passed (Notice requests) apart none fits = fits
restaged_on setup world roll seat keeper stage passed (Pass view) apart none fits = absurd (none view refl)

-- the service has the pass at another stage, while no seat is the pass's
pub restage : (setup : Setup) (world : World) (roll : Roll) (views : List Knows) (seat hand made keeper : ℕ) (desk : Desk) (watch : Watch) (v : ServiceView) (stage : Stage) (passed : ServiceView)
    → IsManned setup world roll views → At views seat (Service hand made desk watch v) → IsNone views → (IsMade stage → GoesOn passed world.service)
    → ((view : ServiceView) → stage ≡ Here view → view ≡ passed)
    → IsManned setup world (with_pass roll stage keeper passed) (set views seat (Service hand made (with_stage desk stage) watch v))
restage setup world roll views seat hand made keeper desk watch v stage passed manned at none goes here =
    let old = Service hand made desk watch v in let new = Service hand made (with_stage desk stage) watch v in
    let f = manned.each seat old at in let inside = at_inside views old seat at in
    record {
      most = manned.most;
      least = manned.least;
      fresh = manned.fresh;
      seated = λ p low below. let was = manned.seated p low below in let whole = Writer p (roll.hands p) (writer world p) in
          let apart : roll.seats p ≢ seat = λ same. absurd (let clash = at_one views whole old seat (subst (λ j. At views j whole) same was) at in cc) in
          set_else views seat (roll.seats p) new apart ∙ was;
      staffed = (
        with_stage desk stage,
        watch,
        subst (λ j. At (set views seat new) j (Service roll.hand roll.made (with_stage desk stage) watch world.service)) (sym f.1)
            (subst (λ h. At (set views seat new) seat (Service h roll.made (with_stage desk stage) watch world.service)) (sym f.2)
            (subst (λ m. At (set views seat new) seat (Service hand m (with_stage desk stage) watch world.service)) (sym f.3)
            (subst (λ z. At (set views seat new) seat (Service hand made (with_stage desk stage) watch z)) f.0 (set_here views seat new inside)))),
      );
      each = λ j knows there. ⊎_elim
          (λ now. subst (λ i. Fits setup world (with_pass roll stage keeper passed) i knows) (sym now.0)
          (subst (λ k. Fits setup world (with_pass roll stage keeper passed) seat k) now.1
          (f.0, f.1, f.2, f.3, record { count = f.4.count; each = f.4.each }, f.5, refl, f.7, f.8)))
          (λ was. restaged_on setup world roll j keeper stage passed knows (λ same. was.0 (sym same ∙ f.1))
          (λ view is. none j view (subst (λ k. At views j k) is was.1)) (manned.each j knows was.1))
          (at_set views seat j new knows there);
      handed = manned.handed;
      lifted = manned.lifted;
      goes_on = goes;
      here = here;
    }

-- a seat that is neither a writer's nor the service's
abbrev IsLight : Knows → Type 0
IsLight (Pass view) = Unit {0}
IsLight (Report place begun flush) = Unit {0}
IsLight (Notice requests) = Unit {0}
IsLight _ = ⊥

-- such a seat leaves what it knows
pub spend : (setup : Setup) (world : World) (roll : Roll) (views : List Knows) (seat : ℕ) (known : Knows) → IsManned setup world roll views → At views seat known → IsLight known
    → IsManned setup world roll (set views seat Spent)
spend setup world roll views seat known manned at light = record {
  most = manned.most;
  least = manned.least;
  fresh = manned.fresh;
  seated = λ p low below. let was = manned.seated p low below in let whole = Writer p (roll.hands p) (writer world p) in
      let apart : roll.seats p ≢ seat = λ same. absurd (subst IsLight (sym (at_one views whole known seat (subst (λ j. At views j whole) same was) at)) light) in
      set_else views seat (roll.seats p) Spent apart ∙ was;
  staffed = let was = manned.staffed in let whole = Service roll.hand roll.made was.0 was.1 world.service in
      let apart : roll.server ≢ seat = λ same. absurd (subst IsLight (sym (at_one views whole known seat (subst (λ j. At views j whole) same was.2) at)) light) in
      (was.0, was.1, set_else views seat roll.server Spent apart ∙ was.2);
  each = λ j knows there. ⊎_elim
      (λ now. subst (λ i. Fits setup world roll i knows) (sym now.0) (subst (λ k. Fits setup world roll seat k) now.1 tt))
      (λ was. manned.each j knows was.1)
      (at_set views seat j Spent knows there);
  handed = manned.handed;
  lifted = manned.lifted;
  goes_on = manned.goes_on;
  here = manned.here;
}

none_left : (setup : Setup) (world : World) (roll : Roll) (views : List Knows) (seat : ℕ) (known : ServiceView) → IsManned setup world roll views → At views seat (Pass known)
    → IsNone (set views seat Spent)
none_left setup world roll views seat known manned at other view there = ⊎_elim
    (λ here. absurd (let clash = here.1 in cc))
    (λ old. old.0 (sym (manned.each other (Pass view) old.1).1 ∙ (manned.each seat (Pass known) at).1))
    (at_set views seat other Spent (Pass view) there)

-- a new seat is the pass's, while no other one is
kept_on : (setup : Setup) (world : World) (roll : Roll) (seat keeper : ℕ) (knows : Knows) → ((view : ServiceView) → knows ≡ Pass view → ⊥)
    → Fits setup world roll seat knows → Fits setup world (record roll { keeper = keeper }) seat knows
kept_on setup world roll seat keeper Spent none fits = tt
kept_on setup world roll seat keeper (Writer place hand view) none fits = fits
kept_on setup world roll seat keeper (Service hand made desk watch view) none fits =
    (fits.0, fits.1, fits.2, fits.3, record { count = fits.4.count; each = fits.4.each }, fits.5, fits.6, fits.7, fits.8)
kept_on setup world roll seat keeper (Report place begun flush) none fits = fits
kept_on setup world roll seat keeper (Notice requests) none fits = fits
kept_on setup world roll seat keeper (Pass view) none fits = absurd (none view refl)

append : (setup : Setup) (world : World) (roll : Roll) (views : List Knows) → IsManned setup world roll views → IsNone views → roll.stage ≡ Away
    → IsManned setup world (record roll { keeper = length views }) (views ++ Pass roll.passed ∷ [])
append setup world roll views manned none away = record {
  most = manned.most;
  least = manned.least;
  fresh = manned.fresh;
  seated = λ p low below. at_longer views (Pass roll.passed ∷ []) (roll.seats p) (Writer p (roll.hands p) (writer world p)) (manned.seated p low below);
  staffed = let was = manned.staffed in
      (was.0, was.1, at_longer views (Pass roll.passed ∷ []) roll.server (Service roll.hand roll.made was.0 was.1 world.service) was.2);
  each = λ j knows there. ⊎_elim
      (λ was. kept_on setup world roll j (length views) knows (λ view is. none j view (subst (λ k. At views j k) is was)) (manned.each j knows was))
      (λ last. subst (λ i. Fits setup world (record roll { keeper = length views }) i knows) (sym last.0)
      (subst (λ k. Fits setup world (record roll { keeper = length views }) (length views) k) last.1 (refl, refl, away)))
      (at_more views (Pass roll.passed) knows j there);
  handed = manned.handed;
  lifted = manned.lifted;
  goes_on = manned.goes_on;
  here = manned.here;
}

-- the words and the slots are as before
pub as_shared : (setup : Setup) (s : Table) (r : IsShared setup s) (stage : Stage) (keeper : ℕ) (passed : ServiceView) (views : List Knows)
    → IsManned setup r.world (with_pass r.roll stage keeper passed) views → IsShared setup (record { words = s.words; homes = s.homes; views = views })
as_shared setup s r stage keeper passed views manned = record {
  world = r.world;
  front = r.front;
  slots = r.slots;
  roll = with_pass r.roll stage keeper passed;
  laid = r.laid;
  kept = r.kept;
  led = r.led;
  words = r.words;
  mail = r.mail;
  bodies = bodies_stay setup s.homes r.slots r.slots r.roll (with_pass r.roll stage keeper passed) r.bodies (λ d. refl)
      (λ d in_now. record { with_none = in_now.with_none; not_service = in_now.not_service });
  manned = manned;
}

-- the service gives a pass with this view away
given : (setup : Setup) (s : Table) (r : IsShared setup s) (id made : ℕ) (desk : Desk) (watch : Watch) (v passed : ServiceView)
    → At s.views id (Service 0 made desk watch v) → (r.roll.stage ≡ Away → ⊥) → GoesOn passed r.world.service
    → IsShared setup (record { words = s.words; homes = s.homes; views = set s.views id (Service 0 made (with_stage desk Away) watch v) ++ Pass passed ∷ [] })
given setup s r id made desk watch v passed at apart goes =
    let none : IsNone s.views = λ seat view there. apart (r.manned.each seat (Pass view) there).2 in
    let one = restage setup r.world r.roll s.views id 0 made 0 desk watch v Away passed r.manned at none (λ _. goes) (λ view is. absurd cc) in
    let views = set s.views id (Service 0 made (with_stage desk Away) watch v) in
    as_shared setup s r Away (length views) passed (views ++ Pass passed ∷ [])
    (append setup r.world (with_pass r.roll Away 0 passed) views one (none_set s.views id 0 made (with_stage desk Away) watch v none) refl)

module _ (setup : Setup) (id made : ℕ) (desk : Desk) (watch : Watch) (v : ServiceView) where
  pub pass_made : desk.stage ≡ Unmade → Splits (IsShared setup) id (Service 0 made desk watch v) (Service 0 made (with_stage desk Away) watch v) (Pass v)
  pass_made unmade s r at =
      let f = r.manned.each id (Service 0 made desk watch v) at in
      given setup s r id made desk watch v v at (λ away. absurd (let clash = sym away ∙ (f.6 ∙ unmade) in cc)) (subst (GoesOn v) f.0 (goes_same v))

  pub pass_given : (passed : ServiceView) → desk.stage ≡ Here passed → Splits (IsShared setup) id (Service 0 made desk watch v) (Service 0 made (with_stage desk Away) watch v) (Pass passed)
  pass_given passed here s r at =
      let f = r.manned.each id (Service 0 made desk watch v) at in let stage = f.6 ∙ here in
      given setup s r id made desk watch v passed at (λ away. absurd (let clash = sym away ∙ stage in cc))
      (subst (λ z. GoesOn z r.world.service) (sym (r.manned.here passed stage)) (r.manned.goes_on (subst IsMade (sym stage) tt)))

  pub pass_joins : (other : ℕ) (passed : ServiceView)
      → Joins (IsShared setup) id (Service 0 made desk watch v) other (Pass passed) (Service 0 made (with_stage desk (Here passed)) watch v) Spent
  pass_joins other passed s r at apart there =
      let old = Service 0 made desk watch v in let both = Service 0 made (with_stage desk (Here passed)) watch v in
      let mine_at : At s.views other (Pass passed) = sym (set_else s.views id other both apart) ∙ there in
      let g = r.manned.each other (Pass passed) mine_at in
      let one = spend setup r.world r.roll s.views other (Pass passed) r.manned mine_at tt in
      let old_at : At (set s.views other Spent) id old = set_else s.views other id Spent (λ e. apart (sym e)) ∙ at in
      let two = restage setup r.world r.roll (set s.views other Spent) id 0 made 0 desk watch v (Here passed) passed one old_at
      (none_left setup r.world r.roll s.views other passed r.manned mine_at)
      (λ _. subst (λ z. GoesOn z r.world.service) (sym g.0) (r.manned.goes_on (subst IsMade (sym g.2) tt))) (λ view is. ap staged (sym is)) in
      as_shared setup s r (Here passed) 0 passed (set (set s.views id both) other Spent)
      (subst (λ views. IsManned setup r.world (with_pass r.roll (Here passed) 0 passed) views) (set_comm s.views other id Spent both apart) two)

  pub read_allowed : (count index : ℕ) (passed : ServiceView) (note : Noted) → desk.stage ≡ Here passed
      → ((before : World) → MayMove setup before (NotesMove note))
      → Allows (IsShared setup) count id (Service 0 made desk watch v, []) index (λ found. found) (λ _. NotesRead note (Service 0 made desk watch v, []))
  read_allowed count index passed note here may s r deep at small =
      let world = r.world in let f = r.manned.each id (Service 0 made desk watch v) at in let stage = f.6 ∙ here in
      let view = notes world.service note in let next = serviced world view in
      let kept = serviced_kept setup r.front r.slots world view r.kept refl refl refl in
      let none : IsNone s.views = λ seat known there. absurd (let clash = sym (r.manned.each seat (Pass known) there).2 ∙ stage in cc) in
      let bare = with_stage desk Unmade in let first = Service 0 made bare watch v in let second = Service 0 made bare Nothing view in
      let third = Service 0 made (with_stage desk (Here view)) Nothing view in
      let inside = at_inside s.views (Service 0 made desk watch v) id at in
      let one = restage setup world r.roll s.views id 0 made 0 desk watch v Unmade passed r.manned at none (λ m. absurd m) (λ known is. absurd cc) in
      let one_at : At (set s.views id first) id first = set_here s.views id first inside in
      let two = service_turn setup world next (with_pass r.roll Unmade 0 passed) (set s.views id first) id 0 0 made bare watch Nothing v view one one_at (serviced_change world view (omega arith))
      (λ m. absurd m) (λ i tale there true_. true_.1) (λ d e. absurd (omega arith)) tt in
      let two_at : At (set (set s.views id first) id second) id second = set_here (set s.views id first) id second (at_inside (set s.views id first) first id one_at) in
      let free : IsNone (set (set s.views id first) id second) = none_set (set s.views id first) id 0 made bare Nothing view (none_set s.views id 0 made bare watch v none) in
      let roll = with_pass (with_service_hand r.roll 0) (Here view) 0 view in
      let three = restage setup next (with_service_hand (with_pass r.roll Unmade 0 passed) 0) (set (set s.views id first) id second) id 0 made 0 bare Nothing view (Here view) view two two_at free
      (λ _. goes_same view) (λ known is. ap staged (sym is)) in
      let same : set (set (set s.views id first) id second) id third ≡ set s.views id third
      = ap (λ (l : List Knows). set l id third) (set_twice s.views id first second) ∙ set_twice s.views id second third in (
        Service 0 made (with_stage desk (Here (notes v note))) Nothing (notes v note),
        keeps,
        tt,
        record {
          world = next;
          front = r.front;
          slots = r.slots;
          roll = roll;
          laid = r.laid;
          kept = kept;
          led = led_on setup r.roll.marks world next (NotesMove note) r.led (may world) refl;
          words = words_loaded setup s.words r.front r.slots index r.words;
          mail = mail_by_service setup world next (set s.words index (get_or s.words index 0)) refl refl (mail_loaded setup world s.words index r.mail);
          bodies = bodies_stay setup s.homes r.slots r.slots r.roll roll r.bodies (λ d. refl)
              (λ d in_now. record { with_none = in_now.with_none; not_service = λ e. in_now.not_service (sym f.2 ∙ e) });
          manned = subst (λ z. IsManned setup next roll (set s.views id (Service 0 made (with_stage desk (Here (notes z note))) Nothing (notes z note)))) (sym f.0)
              (subst (λ views. IsManned setup next roll views) same three);
        },
        record {
          goes_on = subst (λ (stage_ : Stage). GoesOn (staged stage_) v) (sym here) (subst (λ z. GoesOn z v) (sym (r.manned.here passed stage))
              (subst (GoesOn r.roll.passed) (sym f.0) (r.manned.goes_on (subst IsMade (sym stage) tt))));
          new_is = refl;
          seen = ∣ (next, kept.owned, ap (λ z. notes z note) (sym f.0)) ∣₁;
        },
      )

-- the pass's seat hands on what it knows to a new one
pub pass_handed : (setup : Setup) (id : ℕ) (passed : ServiceView) → Splits (IsShared setup) id (Pass passed) Spent (Pass passed)
pass_handed setup id passed s r at =
    let g = r.manned.each id (Pass passed) at in let views = set s.views id Spent in
    let one = spend setup r.world r.roll s.views id (Pass passed) r.manned at tt in
    let two = append setup r.world r.roll views one (none_left setup r.world r.roll s.views id passed r.manned at) g.2 in
    as_shared setup s r r.roll.stage (length views) r.roll.passed (views ++ Pass passed ∷ [])
    (subst (λ z. IsManned setup r.world (with_pass r.roll r.roll.stage (length views) r.roll.passed) (views ++ Pass z ∷ [])) (sym g.0) two)

-- ---- marks

-- the worlds that the service marked are these
abbrev pub with_marks : Roll → List World → Roll
with_marks roll marks = record roll { marks = marks }

marked_on : (setup : Setup) (world : World) (roll : Roll) (seat : ℕ) (marks : List World) (knows : Knows) → roll.server ≢ seat
    → Fits setup world roll seat knows → Fits setup world (with_marks roll marks) seat knows
marked_on setup world roll seat marks Spent apart fits = tt
marked_on setup world roll seat marks (Writer place hand view) apart fits = fits
marked_on setup world roll seat marks (Service hand made desk watch view) apart fits = absurd (apart fits.1)
marked_on setup world roll seat marks (Pass view) apart fits = fits
marked_on setup world roll seat marks (Report place begun flush) apart fits = fits
marked_on setup world roll seat marks (Notice requests) apart fits = fits

-- the service's seat has a mark more
remark : (setup : Setup) (world : World) (roll : Roll) (views : List Knows) (seat hand made : ℕ) (desk : Desk) (watch : Watch) (v : ServiceView) (mark : World)
    → IsManned setup world roll views → At views seat (Service hand made desk watch v)
    → IsManned setup world (with_marks roll (desk.marks ++ mark ∷ [])) (set views seat (Service hand made (with_mark desk mark) watch v))
remark setup world roll views seat hand made desk watch v mark manned at =
    let old = Service hand made desk watch v in let more = with_mark desk mark in let new = Service hand made more watch v in
    let marks = desk.marks ++ mark ∷ [] in
    let f = manned.each seat old at in let inside = at_inside views old seat at in
    record {
      most = manned.most;
      least = manned.least;
      fresh = manned.fresh;
      seated = λ p low below. let was = manned.seated p low below in let whole = Writer p (roll.hands p) (writer world p) in
          let apart : roll.seats p ≢ seat = λ same. absurd (let clash = at_one views whole old seat (subst (λ j. At views j whole) same was) at in cc) in
          set_else views seat (roll.seats p) new apart ∙ was;
      staffed = (
        more,
        watch,
        subst (λ j. At (set views seat new) j (Service roll.hand roll.made more watch world.service)) (sym f.1)
            (subst (λ h. At (set views seat new) seat (Service h roll.made more watch world.service)) (sym f.2)
            (subst (λ m. At (set views seat new) seat (Service hand m more watch world.service)) (sym f.3)
            (subst (λ z. At (set views seat new) seat (Service hand made more watch z)) f.0 (set_here views seat new inside)))),
      );
      each = λ j knows there. ⊎_elim
          (λ now. subst (λ i. Fits setup world (with_marks roll marks) i knows) (sym now.0)
          (subst (λ k. Fits setup world (with_marks roll marks) seat k) now.1
          (f.0, f.1, f.2, f.3, record { count = f.4.count; each = f.4.each }, f.5, f.6, f.7, refl)))
          (λ was. marked_on setup world roll j marks knows (λ same. was.0 (sym same ∙ f.1)) (manned.each j knows was.1))
          (at_set views seat j new knows there);
      handed = manned.handed;
      lifted = manned.lifted;
      goes_on = manned.goes_on;
      here = manned.here;
    }

pub marks_allowed : (setup : Setup) (id made : ℕ) (desk : Desk) (watch : Watch) (v : ServiceView) (count index : ℕ)
    → Allows (IsShared setup) count id (Service 0 made desk watch v, []) index (λ found. found) (λ _. Marks setup (Service 0 made desk watch v, []))
marks_allowed setup id made desk watch v count index s r deep at small =
    let world = r.world in let f = r.manned.each id (Service 0 made desk watch v) at in
    let first = Service 0 made desk Nothing world.service in let second = Service 0 made (with_mark desk world) Nothing world.service in
    let one = service_turn setup world world r.roll s.views id 0 0 made desk watch Nothing v world.service r.manned at
    (same_service world) (λ _. goes_same world.service) (λ i tale there true_. true_.1) (λ d e. absurd (omega arith)) tt in
    let one_at : At (set s.views id first) id first = set_here s.views id first (at_inside s.views (Service 0 made desk watch v) id at) in
    let two = remark setup world (with_service_hand r.roll 0) (set s.views id first) id 0 made desk Nothing world.service world one one_at in
    let roll = with_marks (with_service_hand r.roll 0) (desk.marks ++ world ∷ []) in (
      Service 0 made (with_mark desk world) Nothing v,
      keeps,
      tt,
      record {
        world = world;
        front = r.front;
        slots = r.slots;
        roll = roll;
        laid = r.laid;
        kept = r.kept;
        led = subst (λ (marks : List World). IsLed setup (marks ++ world ∷ []) world) f.8 (led_mark setup r.roll.marks world r.led);
        words = words_loaded setup s.words r.front r.slots index r.words;
        mail = mail_loaded setup world s.words index r.mail;
        bodies = bodies_stay setup s.homes r.slots r.slots r.roll roll r.bodies (λ d. refl)
            (λ d in_now. record { with_none = in_now.with_none; not_service = λ e. in_now.not_service (sym f.2 ∙ e) });
        manned = subst (λ z. IsManned setup world roll (set s.views id (Service 0 made (with_mark desk world) Nothing z))) (sym f.0)
            (subst (λ views. IsManned setup world roll views) (set_twice s.views id first second) two);
      },
      record {
        marked = record {
          world = world;
          desk_is = refl;
          view_is = sym f.0;
          owned = r.kept.owned;
          reached = r.led.reached;
          told = λ i tale there. (f.7 i tale there).0;
        };
        new_is = refl;
      },
    )

-- ---- tales

pub set_at : (views : List Knows) (id : ℕ) (knows : Knows) → At views id knows → set views id knows ≡ views
set_at [] id knows at = refl
set_at (one ∷ views) zero knows at = ap (λ (k : Knows). k ∷ views) (sym (some-injective one knows at))
set_at (one ∷ views) (suc id) knows at = ap (λ (l : List Knows). one ∷ l) (set_at views id knows at)

-- a new seat that knows something true
pub added : (setup : Setup) (world : World) (roll : Roll) (views : List Knows) (new : Knows) → IsManned setup world roll views
    → ((seat : ℕ) → Fits setup world roll seat new) → IsManned setup world roll (views ++ new ∷ [])
added setup world roll views new manned fits = record {
  most = manned.most;
  least = manned.least;
  fresh = manned.fresh;
  seated = λ p low below. at_longer views (new ∷ []) (roll.seats p) (Writer p (roll.hands p) (writer world p)) (manned.seated p low below);
  staffed = let was = manned.staffed in
      (was.0, was.1, at_longer views (new ∷ []) roll.server (Service roll.hand roll.made was.0 was.1 world.service) was.2);
  each = λ j knows there. ⊎_elim
      (λ was. manned.each j knows was)
      (λ last. subst (λ k. Fits setup world roll j k) last.1 (fits j))
      (at_more views new knows j there);
  handed = manned.handed;
  lifted = manned.lifted;
  goes_on = manned.goes_on;
  here = manned.here;
}

pub tale_cut : (setup : Setup) (id place hand : ℕ) (v : WriterView)
    → Splits (IsShared setup) id (Writer place hand v) (Writer place hand v) (Report place v.begun (last_flush v.letters.answers))
tale_cut setup id place hand v s r at =
    let f = r.manned.each id (Writer place hand v) at in let tale : WriterView → Knows = λ z. Report place z.begun (last_flush z.letters.answers) in
    let one = added setup r.world r.roll s.views (tale (writer r.world place)) r.manned (λ seat. (stays_same (writer r.world place).begun, omega arith)) in
    let whole : IsShared setup (record { words = s.words; homes = s.homes; views = s.views ++ tale (writer r.world place) ∷ [] })
    = as_shared setup s r r.roll.stage r.roll.keeper r.roll.passed _ one in
    subst (λ views. IsShared setup (record { words = s.words; homes = s.homes; views = views ++ tale v ∷ [] })) (sym (set_at s.views id (Writer place hand v) at))
    (subst (λ (z : WriterView). IsShared setup (record { words = s.words; homes = s.homes; views = s.views ++ tale z ∷ [] })) (sym f.0) whole)

told_on : (setup : Setup) (world : World) (v : ServiceView) (desk : Desk) (place : ℕ) (begun : List BegunChunk) (flush : ℕ) → v ≡ world.service
    → ((i : ℕ) (tale : Tale) → At desk.told i tale → IsTrue setup world tale) → StaysCompleted begun (writer world place).begun
    → flush ≤ last_flush (writer world place).letters.answers → (i : ℕ) (tale : Tale) → At (with_tale desk v place begun flush).told i tale → IsTrue setup world tale
told_on setup world v desk place begun flush same true_ stays low i tale there = ⊎_elim
    (λ old. true_ i tale old)
    (λ last. subst (λ (t : Tale). IsTrue setup world t) last.1 (
      stays,
      λ n id look content since at mine free. absurd (let inside = at_inside world.service.looks look n at in let many = ap (λ (z : ServiceView). length z.looks) same in omega (arith, inside, many, since)),
      low,
    ))
    (at_more desk.told (record { place = place; looks = length v.looks; begun = begun; flush = flush }) tale i there)

-- the service's seat has a tale more
retell : (setup : Setup) (world : World) (roll : Roll) (views : List Knows) (seat hand made place : ℕ) (desk : Desk) (watch : Watch) (v : ServiceView) (begun : List BegunChunk) (flush : ℕ)
    → IsManned setup world roll views → At views seat (Service hand made desk watch v) → StaysCompleted begun (writer world place).begun
    → flush ≤ last_flush (writer world place).letters.answers
    → IsManned setup world roll (set views seat (Service hand made (with_tale desk v place begun flush) watch v))
retell setup world roll views seat hand made place desk watch v begun flush manned at stays low =
    let old = Service hand made desk watch v in let more = with_tale desk v place begun flush in let new = Service hand made more watch v in
    let f = manned.each seat old at in let inside = at_inside views old seat at in
    record {
      most = manned.most;
      least = manned.least;
      fresh = manned.fresh;
      seated = λ p low below. let was = manned.seated p low below in let whole = Writer p (roll.hands p) (writer world p) in
          let apart : roll.seats p ≢ seat = λ same. absurd (let clash = at_one views whole old seat (subst (λ j. At views j whole) same was) at in cc) in
          set_else views seat (roll.seats p) new apart ∙ was;
      staffed = (
        more,
        watch,
        subst (λ j. At (set views seat new) j (Service roll.hand roll.made more watch world.service)) (sym f.1)
            (subst (λ h. At (set views seat new) seat (Service h roll.made more watch world.service)) (sym f.2)
            (subst (λ m. At (set views seat new) seat (Service hand m more watch world.service)) (sym f.3)
            (subst (λ z. At (set views seat new) seat (Service hand made more watch z)) f.0 (set_here views seat new inside)))),
      );
      each = λ j knows there. ⊎_elim
          (λ now. subst (λ i. Fits setup world roll i knows) (sym now.0)
          (subst (λ k. Fits setup world roll seat k) now.1
          (f.0, f.1, f.2, f.3, f.4, f.5, f.6, told_on setup world v desk place begun flush f.0 f.7 stays low, f.8)))
          (λ was. manned.each j knows was.1)
          (at_set views seat j new knows there);
      handed = manned.handed;
      lifted = manned.lifted;
      goes_on = manned.goes_on;
      here = manned.here;
    }

pub tale_heard : (setup : Setup) (id made other place : ℕ) (desk : Desk) (watch : Watch) (v : ServiceView) (begun : List BegunChunk) (flush : ℕ)
    → Joins (IsShared setup) id (Service 0 made desk watch v) other (Report place begun flush) (Service 0 made (with_tale desk v place begun flush) watch v) Spent
tale_heard setup id made other place desk watch v begun flush s r at apart there =
    let old = Service 0 made desk watch v in let both = Service 0 made (with_tale desk v place begun flush) watch v in
    let mine_at : At s.views other (Report place begun flush) = sym (set_else s.views id other both apart) ∙ there in
    let stays = r.manned.each other (Report place begun flush) mine_at in
    let one = spend setup r.world r.roll s.views other (Report place begun flush) r.manned mine_at tt in
    let old_at : At (set s.views other Spent) id old = set_else s.views other id Spent (λ e. apart (sym e)) ∙ at in
    let two = retell setup r.world r.roll (set s.views other Spent) id 0 made place desk watch v begun flush one old_at stays.0 stays.1 in
    as_shared setup s r r.roll.stage r.roll.keeper r.roll.passed (set (set s.views id both) other Spent)
    (subst (λ views. IsManned setup r.world r.roll views) (set_comm s.views other id Spent both apart) two)
