-- The seats of a table come back, and what it is then.
use Rattle.std.proofs.Common.{◌≡◌, ◌≢◌, ℕ, zero, suc, ◌+◌, ◌<◌, ◌≤◌, Option, None, List, [], ◌∷◌, ◌++◌, length, set, get_or, subst, sym, refl, ap, ◌∙◌, arith, ⊎_elim, lt_of_not-le}
use Rattle.std.proofs.lemmas.List.{length-append, length-map}
use native.Mathlib.Decide.{dec_le}
use mathlib.Core.Logic.{dite}
use mathlib.Core.Option.{some-injective, some-ne-none}
use Rattle.atomic_table.specs.Table.{Joins, Seen, Final}
use Rattle.atomic_table.proofs.Lists.{at_set, at_map, set_here, set_else}
use Rattle.std.specs.Int.{bit_at}
use Rattle.commit_body.specs.declared.body.CommitBody.{CommitBody}
use Rattle.page_geometry.specs.declared.chunk_state.ChunkState.TheVariants.{Free}
use Rattle.page_geometry.specs.PageBits.{HasState}
use Rattle.chunk_plain.specs.Setup.{Setup, spot}
use Rattle.chunk_plain.specs.Views.{At, Draft, BegunChunk, Held, Completed, WriterView, ServiceView, newcomer, taken_of}
use Rattle.chunk_plain.specs.World.{World, Status, Unclaimed, Claimed, Stamped, Writing, Ready, Reading, status, writer}
use Rattle.chunk_plain.specs.Owned.{times, claims_of, reads_of, held_count, IsOwned}
use Rattle.chunk_plain.specs.Shows.{ShowsPage, page_word}
use Rattle.chunk_plain.proofs.Lists.{at_inside, at_one, at_more, at_seam, at_some, at_get}
use Rattle.chunk_plain.proofs.Owned.{claims_of-mine}
use Rattle.chunk_words.specs.GoesOn.{GoesOn}
use Rattle.chunk_schedules.specs.Schedules.{IsLed}
use Rattle.chunk_words.specs.Knows.{Watch, Here, Desk, Knows, Spent, Writer, Service, Pass, Report, Notice, place_of, view_of, with_view, with_views}
use Rattle.chunk_words.specs.Places.{front_place}
use Rattle.chunk_words.specs.Rule.{Roll, HasJoined, IsMade, Fits, IsShared}
use Rattle.chunk_words.specs.Closed.{IsDone, AllTaken, HasAllSeats, views_of, IsUnused, IsAccount}
use Rattle.chunk_words.specs.declared.host.HostTable.{HostTable}
use Rattle.chunk_words.specs.declared.seats.WriterSeat.{WriterSeat}
use Rattle.chunk_words.specs.Sits.{Sits}
use Rattle.chunk_words.proofs.WriterMoves.{Table, page_is}

-- ---- join

joins_fits : (setup : Setup) (world : World) (roll : Roll) (j k other : ℕ) (knows : Knows) → roll.joined ≡ k → roll.seats k ≡ other → j ≢ other → roll.server ≢ j
    → Fits setup world roll j knows → Fits setup world (record roll { joined = k + 1 }) j knows
joins_fits setup world roll j k other Spent same seat apart server fits = tt
joins_fits setup world roll j k other (Writer p hand view) same seat apart server fits =
    let low = fits.4 in let differs : p ≢ k = λ e. apart (sym fits.1 ∙ (ap roll.seats e ∙ seat)) in
    (fits.0, fits.1, fits.2, fits.3, more p low differs)
  where
    more : (p : ℕ) → roll.joined ≤ p → p ≢ k → k + 1 ≤ p
    more p low differs = omega (arith, same, low, differs)
joins_fits setup world roll j k other (Pass view) same seat apart server fits = fits
joins_fits setup world roll j k other (Report place begun flush) same seat apart server fits = fits
joins_fits setup world roll j k other (Notice requests) same seat apart server fits = fits
joins_fits setup world roll j k other (Service hand made desk watch view) same seat apart server fits = absurd (server fits.1)

pub joins_shared : (setup : Setup) (id k made other : ℕ) (desk : Desk) (watch : Watch) (v : ServiceView) (w : WriterView) → k ≡ length desk.joined
    → Joins (IsShared setup) id (Service 0 made desk watch v) other (Writer k 0 w) (Service 0 made (with_view desk w) watch v) Spent
joins_shared setup id k made other desk watch v w count s r at apart there =
    let old = Service 0 made desk watch v in let both = Service 0 made (with_view desk w) watch v in let mine = Writer k 0 w in
    let f = r.manned.each id old at in let world = r.world in
    let mine_at : At s.views other mine = sym (set_else s.views id other both apart) ∙ there in
    let g = r.manned.each other mine mine_at in
    let joined_is : r.roll.joined ≡ k = let many = f.4.count in omega arith in
    let one = set s.views id both in let last = set one other Spent in
    let roll : Roll = record r.roll { joined = k + 1 } in
    let inside = at_inside s.views old id at in
    let has : HasJoined world roll (desk.joined ++ w ∷ []) = record {
      count = length-append desk.joined (w ∷ []) ∙ (let same : length desk.joined + 1 ≡ k + 1 = omega arith in same);
      each = λ place view in_list. ⊎_elim
          (λ before. f.4.each place view before)
          (λ new. let same : k ≡ place = count ∙ sym new.0 in
          (subst (λ (z : WriterView). z ≡ writer world place) new.1 (subst (λ p. w ≡ writer world p) same g.0), subst (λ p. r.roll.hands p ≡ 0) same g.2))
          (at_more desk.joined w view place in_list);
    } in
    record {
      world = world;
      front = r.front;
      slots = r.slots;
      roll = roll;
      laid = r.laid;
      kept = r.kept;
      led = r.led;
      words = r.words;
      mail = r.mail;
      bodies = record { count = r.bodies.count; home_is = λ chunk below in_now. r.bodies.home_is chunk below (record { with_none = in_now.with_none; not_service = in_now.not_service }) };
      manned = record {
        most = r.manned.most;
        least = let below = g.3 in omega arith;
        fresh = r.manned.fresh;
        seated = λ p low below.
            let was = r.manned.seated p (omega arith) below in
            let whole = Writer p (r.roll.hands p) (writer world p) in
            let not_other : r.roll.seats p ≢ other = λ same. absurd (let clash : p ≡ k = ap place_of (at_one s.views whole mine other (subst (λ j. At s.views j whole) same was) mine_at) in omega arith) in
            let not_id : r.roll.seats p ≢ id = λ same. absurd (let clash = at_one s.views whole old id (subst (λ j. At s.views j whole) same was) at in cc) in
            set_else one other (r.roll.seats p) Spent not_other ∙ (set_else s.views id (r.roll.seats p) both not_id ∙ was);
        staffed = (
          with_view desk w,
          watch,
          subst (λ j. At last j (Service r.roll.hand r.roll.made (with_view desk w) watch world.service)) (sym f.1)
              (subst (λ h. At last id (Service h r.roll.made (with_view desk w) watch world.service)) (sym f.2)
              (subst (λ m. At last id (Service 0 m (with_view desk w) watch world.service)) (sym f.3)
              (subst (λ z. At last id (Service 0 made (with_view desk w) watch z)) f.0
              (set_else one other id Spent (λ e. apart (sym e)) ∙ set_here s.views id both inside)))),
        );
        each = λ j knows in_views. ⊎_elim
            (λ here. subst (λ i. Fits setup world roll i knows) (sym here.0) (subst (λ z. Fits setup world roll other z) here.1 tt))
            (λ rest. ⊎_elim
            (λ here. subst (λ i. Fits setup world roll i knows) (sym here.0) (subst (λ z. Fits setup world roll id z) here.1 (f.0, f.1, f.2, f.3, has, f.5, f.6, f.7, f.8)))
            (λ older. joins_fits setup world r.roll j k other knows joined_is g.1 rest.0 (λ e. older.0 (sym e ∙ f.1)) (r.manned.each j knows older.1))
            (at_set s.views id j both knows rest.1))
            (at_set one other j Spent knows in_views);
        handed = r.manned.handed;
        lifted = r.manned.lifted;
        goes_on = r.manned.goes_on;
        here = r.manned.here;
      };
    }

-- ---- what is left

-- a writer who holds nothing has no chunk as held
none_held : (begun : List BegunChunk) (i chunk : ℕ) (draft : Draft) → held_count begun ≡ 0 → At begun i (Held chunk draft) → ⊥
none_held [] i chunk draft none at = absurd (some-ne-none _ (sym at))
none_held (Held c d ∷ begun) i chunk draft none at = absurd (omega arith)
none_held (Completed c m ∷ begun) zero chunk draft none at = absurd (let same : Completed c m ≡ Held chunk draft = some-injective _ _ at in cc)
none_held (Completed c m ∷ begun) (suc i) chunk draft none at = none_held begun i chunk draft none at

-- nobody has a chunk, where each writer has nothing left to do and the service reads none
idle_free : (world : World) (chunk : ℕ) (is : Status) → IsOwned world → ((place : ℕ) → IsDone world.service place (writer world place)) → ((place : ℕ) → (writer world place).stamped ≡ None)
    → world.service.reading ≡ [] → status world chunk ≡ is → is ≡ Unclaimed
idle_free world chunk Unclaimed owned done unstamped none was = refl
idle_free world chunk (Claimed k) owned done unstamped none was = absurd (
    let o = (owned.owns k chunk).claimed in let all = ap (times chunk) (done k).claimed in let one = claims_of-mine k in
    let is : claims_of k (status world chunk) ≡ claims_of k (Claimed k) = ap (claims_of k) was in omega (arith, o, all, one, is))
idle_free world chunk (Stamped k i) owned done unstamped none was = absurd (let stamp = (owned.owns k chunk).stamped_is i was in let no_ = unstamped k in cc)
idle_free world chunk (Writing k i d) owned done unstamped none was = absurd (none_held (writer world k).begun i chunk d (done k).held ((owned.owns k chunk).writing_is i d was))
idle_free world chunk (Ready k i m) owned done unstamped none was = absurd (
    let ready = (owned.owns k chunk).ready_is i m was in let inside = at_inside (writer world k).begun (Completed chunk m) i ready.0 in let low = ready.1 in let count = (done k).taken in omega (arith, inside, low, count))
idle_free world chunk (Reading k i m) owned done unstamped none was = absurd (
    let o = owned.reads chunk in let all = ap (times chunk) none in let is : reads_of (status world chunk) ≡ 1 = ap reads_of was in omega (arith, o, all, is))

-- ---- lists

get_past : {A : Type 0} (xs : List A) (k : ℕ) (d : A) → length xs ≤ k → get_or xs k d ≡ d
get_past [] k d past = refl
get_past (z ∷ zs) zero d past = absurd (omega arith)
get_past (z ∷ zs) (suc k) d past = get_past zs k d (omega arith)

same_by : {A : Type 0} (xs ys : List A) → length xs ≡ length ys → ((k : ℕ) (y : A) → At ys k y → At xs k y) → xs ≡ ys
same_by [] [] many each = refl
same_by [] (y ∷ ys) many each = absurd (omega arith)
same_by (x ∷ xs) [] many each = absurd (omega arith)
same_by (x ∷ xs) (y ∷ ys) many each = let head : x ≡ y = some-injective x y (each 0 y refl) in λ i. head i ∷ same_by xs ys (omega arith) (λ k z at. each (suc k) z at) i

-- the seat that is taken in next
pub next_seat : (table : HostTable) (service : ServiceView) (seats yielded rest : List WriterSeat) (mine : WriterSeat) → HasAllSeats table service seats → yielded ++ mine ∷ rest ≡ seats
    → (mine.place ≡ length yielded) × Sits table mine × IsDone service (length yielded) (view_of mine.seat.me.0)
next_seat table service seats yielded rest mine all same = all.each (length yielded) mine (subst (λ l. At l (length yielded) mine) same (at_seam yielded rest mine))

-- ---- the end

module _ (setup : Setup) (id made : ℕ) (desk : Desk) (views : List WriterView) (watch : Watch) (service : ServiceView) (words : List ℕ) (slots : List (Option CommitBody))
    (final : Final (Seen (IsShared setup) id (Service 0 made (with_views desk views) watch service)) words slots) (count : length views ≡ length setup.writers)
    (done : (place : ℕ) (view : WriterView) → At views place view → IsDone service place view × (view.stamped ≡ None)) where
  abbrev last : Table
  last = final.0

  abbrev rule : IsShared setup last
  rule = final.1.0

  abbrev fits : Fits setup rule.world rule.roll id (Service 0 made (with_views desk views) watch service)
  fits = rule.manned.each id (Service 0 made (with_views desk views) watch service) final.1.1

  known : (place : ℕ) (view : WriterView) → At views place view → view ≡ writer rule.world place
  known place view at = (fits.4.each place view at).0

  writers_are : rule.world.writers ≡ views
  writers_are = same_by rule.world.writers views (rule.kept.writers ∙ sym count) (λ k view at.
      let inside : k < length rule.world.writers = let below = at_inside views view k at in let many = rule.kept.writers in omega (arith, below, many, count) in
      let there = at_some rule.world.writers k inside in
      subst (λ v. At rule.world.writers k v) (sym (at_get rule.world.writers k newcomer there.0 there.1) ∙ sym (known k view at)) there.1)

  pub closed_account : IsAccount setup desk.marks views service
  closed_account = ∣ (rule.world, rule.kept.owned, subst (λ marks. IsLed setup marks rule.world) fits.8 rule.led, writers_are, sym fits.0, rule.mail.letters) ∣₁

  -- the service has the reading pass
  pub closed_goes : (known : ServiceView) → desk.stage ≡ Here known → GoesOn known service
  closed_goes known is =
      let stage : rule.roll.stage ≡ Here known = fits.6 ∙ is in
      subst (λ (z : ServiceView). GoesOn z service) (sym (rule.manned.here known stage))
      (subst (GoesOn rule.roll.passed) (sym fits.0) (rule.manned.goes_on (subst IsMade (sym stage) tt)))

  pub closed_taken : AllTaken service views
  closed_taken place view at =
      let same = known place view at in let counts = rule.kept.owned.counts place in
      let least = (done place view at).0.taken in
      let count = (taken_of rule.world.service place).count in
      let most : count ≤ length (writer rule.world place).begun = dite (dec_le count (length (writer rule.world place).begun))
      (λ low. low)
      (λ high. absurd (let one = counts.completed (length (writer rule.world place).begun) (lt_of_not-le high) in
      let inside = at_inside (writer rule.world place).begun (Completed one.0 one.1) (length (writer rule.world place).begun) one.2 in omega arith)) in
      let count_is = ap (λ (z : ServiceView). (taken_of z place).count) fits.0 in
      let many = ap (λ (w : WriterView). length w.begun) same in
      omega (arith, least, most, count_is, many)

  past_writer : (place : ℕ) → length views ≤ place → writer rule.world place ≡ newcomer
  past_writer place past = let of_world = rule.kept.writers in get_past rule.world.writers place newcomer (omega (arith, of_world, count, past))

  idle : (place : ℕ) → IsDone rule.world.service place (writer rule.world place) × ((writer rule.world place).stamped ≡ None)
  idle place = subst (λ s. IsDone s place (writer rule.world place) × ((writer rule.world place).stamped ≡ None)) fits.0 (dite (dec_le (length views) place)
      (λ past. subst (λ v. IsDone service place v × (v.stamped ≡ None)) (sym (past_writer place past))
      (record { claimed = refl; held = refl; taken = omega arith }, refl))
      (λ below. let there = at_some views place (lt_of_not-le below) in
      subst (λ v. IsDone service place v × (v.stamped ≡ None)) (known place there.0 there.1) (done place there.0 there.1)))

  pub closed_unused : service.reading ≡ [] → (chunk : ℕ) → chunk < length setup.spots → IsUnused setup words chunk
  closed_unused none chunk inside =
      let free = idle_free rule.world chunk (status rule.world chunk) rule.kept.owned (λ place. (idle place).0) (λ place. (idle place).1) (ap (λ (s : ServiceView). s.reading) (sym fits.0) ∙ none) refl in
      let at = spot setup chunk in
      let page : ShowsPage setup rule.world at (page_word setup rule.front chunk) Unclaimed
      = subst (λ t. ShowsPage setup rule.world at (page_word setup rule.front chunk) t) free (rule.kept.shown.page chunk inside) in
      let word_is : page_word setup rule.front chunk ≡ get_or words (front_place at.page) 0 = sym (page_is setup last rule chunk inside) ∙ ap (λ l. get_or l (front_place at.page) 0) final.2 in
      subst (λ w. HasState w at.place Free × (bit_at w (32 + at.place) ≡ 0)) word_is (page.state, page.claim)

-- ---- the seats that came back

pub all_done : (table : HostTable) (service : ServiceView) (seats : List WriterSeat) → HasAllSeats table service seats
    → (place : ℕ) (view : WriterView) → At (views_of seats) place view → IsDone service place view × (view.stamped ≡ None)
all_done table service seats all place view at =
    let inside : place < length seats = let below = at_inside (views_of seats) view place at in let many = length-map seats (λ (s : WriterSeat). view_of s.seat.me.0) in omega (arith, below, many) in
    let there = at_some seats place inside in let each = all.each place there.0 there.1 in
    let same : view_of there.0.seat.me.0 ≡ view = at_one (views_of seats) (view_of there.0.seat.me.0) view place (at_map (λ (s : WriterSeat). view_of s.seat.me.0) seats place there.0 there.1) at in
    subst (λ v. IsDone service place v × (v.stamped ≡ None)) same (each.2, each.1.rests.rests.stamped)

pub all_count : (table : HostTable) (service : ServiceView) (seats : List WriterSeat) → HasAllSeats table service seats → length (views_of seats) ≡ length table.layout.writers
all_count table service seats all = length-map seats (λ (s : WriterSeat). view_of s.seat.me.0) ∙ all.count
