-- A step of one seat leaves each other seat what it knows.
use Rattle.std.proofs.Common.{◌≡◌, ◌≢◌, ℕ, ◌<◌, ◌≤◌, List, length, set, get_or, subst, sym, refl, ap, ◌∙◌, arith, ⊎_elim, length-set}
use native.Mathlib.Decide.{ℕ_discrete}
use mathlib.Core.Logic.{dite}
use Rattle.atomic_table.proofs.Lists.{at_set, set_here, set_else}
use Rattle.std.proofs.lemmas.List.{get_or-set_same, get_or-set_other}
use Rattle.chunk_plain.specs.Setup.{Setup}
use Rattle.chunk_plain.specs.Views.{At, BegunChunk, Completed, WriterView, asked_in, ServiceView, newcomer}
use Rattle.chunk_plain.specs.World.{World, Status, Unclaimed, Claimed, Stamped, Writing, Ready, Reading, status, writer}
use Rattle.chunk_plain.specs.Steps.{moved, with_writer_view, served, serviced}
use Rattle.chunk_plain.specs.Letters.{last_flush}
use Rattle.chunk_plain.proofs.Lists.{changed, at_one, at_inside}
use Rattle.chunk_words.specs.Knows.{Watch, Desk, Nothing, Peeked, Known, Lifted, Tale, Knows, Spent, Writer, Service, Pass, Report, Notice, hand_with, place_of, put}
use Rattle.chunk_words.specs.Rule.{Roll, IsOf, IsRead, IsStarted, IsCompleteChunk, HasHeader, IsWatched, IsMade, IsTrue, Fits, IsManned}
use Rattle.chunk_words.specs.Told.{StaysCompleted, ShowsTold}
use Rattle.chunk_words.specs.GoesOn.{GoesOn}
use Rattle.chunk_words.proofs.Passing.{goes_further}
use Rattle.chunk_words.proofs.Bodies.{put_same, put_other, with_hand, with_service_hand}

-- what a step of the writer at this place leaves of a chunk's status
pub record Still (place : ℕ) (was is : Status) : Type 0 where
  pub started : IsStarted was → IsStarted is
  pub full : IsCompleteChunk was → is ≡ was
  pub read : IsRead was → is ≡ was
  pub others : (other : ℕ) → other ≢ place → IsOf other was → IsOf other is

-- what it leaves of the world
pub record IsWriterChange (world next : World) (place : ℕ) (view : WriterView) : Type 0 where
  pub mine : writer next place ≡ view
  pub others : (other : ℕ) → other ≢ place → writer next other ≡ writer world other
  pub service : next.service ≡ world.service
  pub count : length next.writers ≡ length world.writers
  pub still : (chunk : ℕ) → Still place (status world chunk) (status next chunk)
  pub follows : StaysCompleted (writer world place).begun view.begun
  pub answered : last_flush (writer world place).letters.answers ≤ last_flush view.letters.answers

-- what a step of the service leaves of the world
pub record IsServiceChange (world next : World) (view : ServiceView) : Type 0 where
  pub service : next.service ≡ view
  pub writers : next.writers ≡ world.writers
  pub still : (place chunk : ℕ) → IsOf place (status world chunk) → IsOf place (status next chunk)
  pub asked : asked_in world.service.letters ≤ asked_in view.letters

still_same : (place : ℕ) (is : Status) → Still place is is
still_same place is = record { started = λ x. x; full = λ x. refl; read = λ x. refl; others = λ other differs x. x }

pub moved_change : (world : World) (place chunk : ℕ) (view : WriterView) (is : Status) → place < length world.writers → chunk < length world.chunks
    → Still place (status world chunk) is → StaysCompleted (writer world place).begun view.begun
    → last_flush (writer world place).letters.answers ≤ last_flush view.letters.answers → IsWriterChange world (moved world place view chunk is) place view
moved_change world place chunk view is inside_w inside_c still follows answered = record {
  mine = get_or-set_same world.writers place view newcomer inside_w;
  others = λ other differs. get_or-set_other world.writers place other view newcomer differs;
  service = refl;
  count = length-set world.writers place view;
  still = λ d. changed (λ t. Still place (status world d) t) world.chunks chunk d is Unclaimed inside_c
      (λ same. subst (λ e. Still place (status world e) is) (sym same) still) (λ differs. still_same place (status world d));
  follows = follows;
  answered = answered;
}

pub noted_change : (world : World) (place : ℕ) (view : WriterView) → place < length world.writers → view.begun ≡ (writer world place).begun
    → last_flush (writer world place).letters.answers ≤ last_flush view.letters.answers → IsWriterChange world (with_writer_view world place view) place view
noted_change world place view inside_w same answered = record {
  mine = get_or-set_same world.writers place view newcomer inside_w;
  others = λ other differs. get_or-set_other world.writers place other view newcomer differs;
  service = refl;
  count = length-set world.writers place view;
  still = λ d. still_same place (status world d);
  follows = λ id chunk content at. subst (λ (l : List BegunChunk). At l id (Completed chunk content)) (sym same) at;
  answered = answered;
}

-- nothing changes but the hand
pub same_change : (world : World) (place : ℕ) → IsWriterChange world world place (writer world place)
same_change world place = record { mine = refl; others = λ other differs. refl; service = refl; count = refl; still = λ d. still_same place (status world d); follows = λ id chunk content at. at; answered = omega arith }

pub served_change : (world : World) (chunk : ℕ) (view : ServiceView) (is : Status) → chunk < length world.chunks
    → ((place : ℕ) → IsOf place (status world chunk) → IsOf place is) → asked_in world.service.letters ≤ asked_in view.letters
    → IsServiceChange world (served world view chunk is) view
served_change world chunk view is inside_c still asked = record {
  service = refl;
  writers = refl;
  still = λ place d. changed (λ t. IsOf place (status world d) → IsOf place t) world.chunks chunk d is Unclaimed inside_c
      (λ same. subst (λ e. IsOf place (status world e) → IsOf place is) (sym same) (still place)) (λ differs x. x);
  asked = asked;
}

pub serviced_change : (world : World) (view : ServiceView) → asked_in world.service.letters ≤ asked_in view.letters → IsServiceChange world (serviced world view) view
serviced_change world view asked = record { service = refl; writers = refl; still = λ place d x. x; asked = asked }

-- nothing changes but the hand
pub same_service : (world : World) → IsServiceChange world world world.service
same_service world = record { service = refl; writers = refl; still = λ place d x. x; asked = omega arith }

-- what any writer completed it has still
begun_stays : (world next : World) (place : ℕ) (view : WriterView) → IsWriterChange world next place view → (other : ℕ) → StaysCompleted (writer world other).begun (writer next other).begun
begun_stays world next place view change other id chunk content at = dite (ℕ_discrete other place)
    (λ same. subst (λ p. At (writer next p).begun id (Completed chunk content)) (sym same)
    (subst (λ (v : WriterView). At v.begun id (Completed chunk content)) (sym change.mine)
    (change.follows id chunk content (subst (λ p. At (writer world p).begun id (Completed chunk content)) same at))))
    (λ differs. subst (λ (v : WriterView). At v.begun id (Completed chunk content)) (sym (change.others other differs)) at)

-- and its last answer is no older one
answered_stays : (world next : World) (place : ℕ) (view : WriterView) → IsWriterChange world next place view → (other flush : ℕ)
    → flush ≤ last_flush (writer world other).letters.answers → flush ≤ last_flush (writer next other).letters.answers
answered_stays world next place view change other flush low = dite (ℕ_discrete other place)
    (λ same. subst (λ p. flush ≤ last_flush (writer next p).letters.answers) (sym same)
    (subst (λ (v : WriterView). flush ≤ last_flush v.letters.answers) (sym change.mine)
    (let was = subst (λ p. flush ≤ last_flush (writer world p).letters.answers) same low in let more = change.answered in omega (arith, was, more))))
    (λ differs. subst (λ (v : WriterView). flush ≤ last_flush v.letters.answers) (sym (change.others other differs)) low)

header_stays : (setup : Setup) (header : ℕ) (was is : Status) → (IsCompleteChunk was → is ≡ was) → HasHeader setup header was → HasHeader setup header is
header_stays setup header (Ready place id content) is same has = subst (λ t. HasHeader setup header t) (sym (same tt)) has
header_stays setup header Unclaimed is same has = absurd has
header_stays setup header (Claimed place) is same has = absurd has
header_stays setup header (Stamped place id) is same has = absurd has
header_stays setup header (Writing place id draft) is same has = absurd has
header_stays setup header (Reading place id content) is same has = absurd has

watch_stays : (setup : Setup) (world next : World) (place : ℕ) (watch : Watch) → ((chunk : ℕ) → Still place (status world chunk) (status next chunk))
    → IsWatched setup world watch → IsWatched setup next watch
watch_stays setup world next place Nothing still is = tt
watch_stays setup world next place (Peeked chunk word) still is = record {
  started = λ s. (still chunk).started (is.started s);
  complete = λ c. let was = is.complete c in subst IsCompleteChunk (sym ((still chunk).full was)) was;
}
watch_stays setup world next place (Known chunk word header) still is = header_stays setup header (status world chunk) (status next chunk) ((still chunk).full) is
watch_stays setup world next place (Lifted chunk other id content) still is = (still chunk).read (subst IsRead (sym is) tt) ∙ is

fits_on : (setup : Setup) (world next : World) (roll : Roll) (seat place hand : ℕ) (view : WriterView) (knows : Knows) → IsWriterChange world next place view
    → roll.joined ≤ place → roll.seats place ≢ seat → Fits setup world roll seat knows → Fits setup next (with_hand roll place hand) seat knows
fits_on setup world next roll seat place hand view Spent change joined apart fits = tt
fits_on setup world next roll seat place hand view (Writer other held known) change joined apart fits =
    let differs : other ≢ place = λ same. apart (ap roll.seats (sym same) ∙ fits.1) in
    (fits.0 ∙ sym (change.others other differs), fits.1, put_other roll.hands place hand other differs ∙ fits.2, fits.3, fits.4)
fits_on setup world next roll seat place hand view (Pass known) change joined apart fits = fits
fits_on setup world next roll seat place hand view (Report other begun flush) change joined apart fits = (
  λ id chunk content at. begun_stays world next place view change other id chunk content (fits.0 id chunk content at),
  answered_stays world next place view change other flush fits.1,
)
fits_on setup world next roll seat place hand view (Notice requests) change joined apart fits =
    subst (λ (z : ServiceView). requests ≤ asked_in z.letters) (sym change.service) fits
fits_on setup world next roll seat place hand view (Service held made desk watch known) change joined apart fits = (
  fits.0 ∙ sym change.service,
  fits.1,
  fits.2,
  fits.3,
  record {
    count = fits.4.count;
    each = λ other one at. let differs : other ≢ place = λ same. absurd (let below = at_inside desk.joined one other at in let many = fits.4.count in omega arith) in
        let was = fits.4.each other one at in (was.0 ∙ sym (change.others other differs), put_other roll.hands place hand other differs ∙ was.1);
  },
  watch_stays setup world next place watch change.still fits.5,
  fits.6,
  λ i tale there. let was = fits.7 i tale there in (
    λ id chunk content at. begun_stays world next place view change tale.place id chunk content (was.0 id chunk content at),
    subst (λ (z : ServiceView). ShowsTold setup z tale) (sym change.service) was.1,
    answered_stays world next place view change tale.place tale.flush was.2,
  ),
  fits.8,
)

pub writer_turn : (setup : Setup) (world next : World) (roll : Roll) (views : List Knows) (seat place hand now : ℕ) (known view : WriterView)
    → IsManned setup world roll views → At views seat (Writer place hand known) → IsWriterChange world next place view
    → ((chunk : ℕ) → now ≡ hand_with chunk → IsOf place (status next chunk))
    → IsManned setup next (with_hand roll place now) (set views seat (Writer place now view))
writer_turn setup world next roll views seat place hand now known view manned at change has =
    let fits = manned.each seat (Writer place hand known) at in
    let inside = at_inside views (Writer place hand known) seat at in
    record {
      most = subst (λ n. roll.made ≤ n) (sym change.count) manned.most;
      least = manned.least;
      fresh = λ other high. let differs : other ≢ place = λ same. absurd (let low = fits.3 in omega arith) in
          let was = manned.fresh other high in (change.others other differs ∙ was.0, put_other roll.hands place now other differs ∙ was.1);
      seated = λ other low below. dite (ℕ_discrete other place)
          (λ same. subst (λ p. At (set views seat (Writer place now view)) (roll.seats p) (Writer p (put roll.hands place now p) (writer next p))) (sym same)
          (subst (λ s. At (set views seat (Writer place now view)) s (Writer place (put roll.hands place now place) (writer next place))) (sym fits.1)
          (subst (λ h. At (set views seat (Writer place now view)) seat (Writer place h (writer next place))) (sym (put_same roll.hands place now))
          (subst (λ v. At (set views seat (Writer place now view)) seat (Writer place now v)) (sym change.mine)
          (set_here views seat (Writer place now view) inside)))))
          (λ differs. let old = manned.seated other low below in
          let apart : roll.seats other ≢ seat = λ same. differs (ap place_of (at_one views (Writer other (roll.hands other) (writer world other)) (Writer place hand known) seat (subst (λ s. At views s (Writer other (roll.hands other) (writer world other))) same old) at)) in
          set_else views seat (roll.seats other) (Writer place now view) apart
          ∙ subst (λ v. At views (roll.seats other) (Writer other (put roll.hands place now other) v)) (sym (change.others other differs))
          (subst (λ h. At views (roll.seats other) (Writer other h (writer world other))) (sym (put_other roll.hands place now other differs)) old));
      staffed = let old = manned.staffed in
          let apart : roll.server ≢ seat = λ same. absurd (let one = at_one views (Service roll.hand roll.made old.0 old.1 world.service) (Writer place hand known) seat (subst (λ s. At views s (Service roll.hand roll.made old.0 old.1 world.service)) same old.2) at in cc) in
          (old.0, old.1, set_else views seat roll.server (Writer place now view) apart ∙ subst (λ v. At views roll.server (Service roll.hand roll.made old.0 old.1 v)) (sym change.service) old.2);
      each = λ other knows there. ⊎_elim
          (λ here. subst (λ s. Fits setup next (with_hand roll place now) s knows) (sym here.0)
          (subst (λ k. Fits setup next (with_hand roll place now) seat k) here.1 (sym change.mine, fits.1, put_same roll.hands place now, fits.3, fits.4)))
          (λ old. fits_on setup world next roll other place now view knows change fits.4 (λ same. old.0 (sym same ∙ fits.1)) (manned.each other knows old.1))
          (at_set views seat other (Writer place now view) knows there);
      handed = λ other chunk out. dite (ℕ_discrete other place)
          (λ same. subst (λ p. IsOf p (status next chunk)) (sym same) (has chunk (sym (put_same roll.hands place now) ∙ (ap (put roll.hands place now) (sym same) ∙ out))))
          (λ differs. (change.still chunk).others other differs (manned.handed other chunk (sym (put_other roll.hands place now other differs) ∙ out)));
      lifted = λ chunk out. let was = manned.lifted chunk out in subst IsRead (sym ((change.still chunk).read was)) was;
      goes_on = λ made. subst (GoesOn roll.passed) (sym change.service) (manned.goes_on made);
      here = manned.here;
    }

served_on : (setup : Setup) (world next : World) (roll : Roll) (seat hand : ℕ) (view : ServiceView) (knows : Knows) → IsServiceChange world next view
    → roll.server ≢ seat → Fits setup world roll seat knows → Fits setup next (with_service_hand roll hand) seat knows
served_on setup world next roll seat hand view Spent change apart fits = tt
served_on setup world next roll seat hand view (Writer other held known) change apart fits =
    (subst (λ (l : List WriterView). known ≡ get_or l other newcomer) (sym change.writers) fits.0, fits.1, fits.2, fits.3, fits.4)
served_on setup world next roll seat hand view (Pass known) change apart fits = fits
served_on setup world next roll seat hand view (Report other begun flush) change apart fits =
    subst (λ (l : List WriterView). StaysCompleted begun (get_or l other newcomer).begun × (flush ≤ last_flush (get_or l other newcomer).letters.answers))
    (sym change.writers) fits
served_on setup world next roll seat hand view (Notice requests) change apart fits =
    subst (λ (z : ServiceView). requests ≤ asked_in z.letters) (sym change.service) (let more = change.asked in omega (arith, fits, more))
served_on setup world next roll seat hand view (Service held made desk watch known) change apart fits = absurd (apart fits.1)

pub service_turn : (setup : Setup) (world next : World) (roll : Roll) (views : List Knows) (seat hand now made : ℕ) (desk : Desk) (watch seen : Watch) (known view : ServiceView)
    → IsManned setup world roll views → At views seat (Service hand made desk watch known) → IsServiceChange world next view
    → (IsMade desk.stage → GoesOn world.service view) → ((i : ℕ) (tale : Tale) → At desk.told i tale → IsTrue setup world tale → ShowsTold setup view tale)
    → ((chunk : ℕ) → now ≡ hand_with chunk → IsRead (status next chunk)) → IsWatched setup next seen
    → IsManned setup next (with_service_hand roll now) (set views seat (Service now made desk seen view))
service_turn setup world next roll views seat hand now made desk watch seen known view manned at change goes shows has watches =
    let fits = manned.each seat (Service hand made desk watch known) at in
    let inside = at_inside views (Service hand made desk watch known) seat at in
    let same_writers : (place : ℕ) → writer next place ≡ writer world place = λ place. ap (λ (l : List WriterView). get_or l place newcomer) change.writers in
    record {
      most = subst (λ (l : List WriterView). roll.made ≤ length l) (sym change.writers) manned.most;
      least = manned.least;
      fresh = λ place high. let was = manned.fresh place high in (same_writers place ∙ was.0, was.1);
      seated = λ place low below. let old = manned.seated place low below in
          let apart : roll.seats place ≢ seat = λ same. absurd (let one = at_one views (Writer place (roll.hands place) (writer world place)) (Service hand made desk watch known) seat (subst (λ s. At views s (Writer place (roll.hands place) (writer world place))) same old) at in cc) in
          set_else views seat (roll.seats place) (Service now made desk seen view) apart ∙ subst (λ v. At views (roll.seats place) (Writer place (roll.hands place) v)) (sym (same_writers place)) old;
      staffed = (
        desk,
        seen,
        subst (λ s. At (set views seat (Service now made desk seen view)) s (Service now roll.made desk seen next.service)) (sym fits.1)
            (subst (λ m. At (set views seat (Service now made desk seen view)) seat (Service now m desk seen next.service)) (sym fits.3)
            (subst (λ v. At (set views seat (Service now made desk seen view)) seat (Service now made desk seen v)) (sym change.service)
            (set_here views seat (Service now made desk seen view) inside))),
      );
      each = λ other knows there. ⊎_elim
          (λ here. subst (λ s. Fits setup next (with_service_hand roll now) s knows) (sym here.0)
          (subst (λ k. Fits setup next (with_service_hand roll now) seat k) here.1 (
            sym change.service,
            fits.1,
            refl,
            fits.3,
            record {
              count = fits.4.count;
              each = λ place one at_one_. let was = fits.4.each place one at_one_ in (was.0 ∙ sym (same_writers place), was.1);
            },
            watches,
            fits.6,
            λ i tale told. let was = fits.7 i tale told in (
              subst (λ (l : List WriterView). StaysCompleted tale.begun (get_or l tale.place newcomer).begun) (sym change.writers) was.0,
              subst (λ (z : ServiceView). ShowsTold setup z tale) (sym change.service) (shows i tale told was),
              subst (λ (l : List WriterView). tale.flush ≤ last_flush (get_or l tale.place newcomer).letters.answers) (sym change.writers) was.2,
            ),
            fits.8,
          )))
          (λ old. served_on setup world next roll other now view knows change (λ same. old.0 (sym same ∙ fits.1)) (manned.each other knows old.1))
          (at_set views seat other (Service now made desk seen view) knows there);
      handed = λ place chunk out. change.still place chunk (manned.handed place chunk out);
      lifted = λ chunk out. has chunk out;
      goes_on = λ made_. subst (GoesOn roll.passed) (sym change.service)
          (goes_further roll.passed world.service view (manned.goes_on made_) (goes (subst IsMade fits.6 made_)));
      here = manned.here;
    }
