-- All seats are back: what the words and the views are then.
use Rattle.std.proofs.Common.{◌≡◌, ◌≢◌, ℕ, zero, suc, ◌+◌, ◌*◌, ◌/◌, ◌%◌, ◌<◌, ◌≤◌, true, false, List, [], ◌∷◌, ◌++◌, length, get_or, subst, sym, refl, ap, ◌∙◌, arith, lt_of_not-le}
use Rattle.std.specs.Prelude.{if◌then◌else◌, nat_lt}
use Rattle.std.specs.Int.{bit_at}
use Rattle.std.proofs.lemmas.Bool.Decides.{nat_tests}
use Rattle.std.proofs.lemmas.List.{length-map, length-append}
use native.Mathlib.Decide.{ℕ_discrete, dec_le}
use mathlib.Core.Logic.{dite}
use mathlib.Core.Option.{some-injective, some-ne-none}
use Rattle.atomic_table.specs.Table.{Final, Seen}
use Rattle.atomic_table.proofs.Lists.{at_map}
use Rattle.chunk_plain.specs.Views.{At}
use Rattle.chunk_plain.specs.Owned.{times}
use Rattle.chunk_plain.proofs.Lists.{at_seam, at_some, at_one, at_inside, same_many, times-both, times-first, times-passed}
use Rattle.layout_tuner.specs.declared.table.Shape.{Shape}
use Rattle.layout_tuner.specs.declared.table.TuneTable.{TuneTable}
use Rattle.layout_tuner.specs.declared.seats.TuneSeat.{TuneSeat}
use Rattle.layout_tuner.specs.PageWords.{spot, line, chunks_of, layout_in, generation_in}
use Rattle.layout_tuner.specs.Knows.{UserView, CollectView, Watch, Collector, told_by}
use Rattle.layout_tuner.specs.World.{Status, Outside, Unclaimed, Claimed, Held, Complete, Reading, low_of, high_of, claim_of, claims_of, holds_of, reads_of, waits_of, total, World, IsLaid}
use Rattle.layout_tuner.specs.Rule.{ShowsPage, Fits, IsTuned}
use Rattle.layout_tuner.specs.Collecting.{IsCaughtUp}
use Rattle.layout_tuner.specs.Sits.{Sits, known_by}
use Rattle.layout_tuner.specs.Closed.{IsDone, HasAllSeats, IsUnused, IsClosed, view_at, views_of}
use Rattle.layout_tuner.proofs.Puts.{total-same, total-change}
use Rattle.layout_tuner.proofs.Laid.{laid_as, laid_by}
use Rattle.layout_tuner.proofs.Making.{total-zero}
use Rattle.layout_tuner.proofs.WorldTurns.{claims_of-mine, holds_of-mine}
use Rattle.layout_tuner.proofs.SeatTurns.{Pages}

-- the seat that is taken in next
pub next_seat : (table : TuneTable) (collector : CollectView) (seats yielded rest : List TuneSeat) (mine : TuneSeat) → HasAllSeats table collector seats → yielded ++ mine ∷ rest ≡ seats
    → (mine.number ≡ length yielded) × Sits table mine × IsDone collector (length yielded) (known_by mine)
next_seat table collector seats yielded rest mine all same = all.each (length yielded) mine (subst (λ l. At l (length yielded) mine) same (at_seam yielded rest mine))

-- ---- sums and lists

pub at_get : {A : Type 0} (xs : List A) (k : ℕ) (d x : A) → At xs k x → get_or xs k d ≡ x
at_get [] k d x at = absurd (some-ne-none x (sym at))
at_get (z ∷ zs) zero d x at = some-injective z x at
at_get (z ∷ zs) (suc k) d x at = at_get zs k d x at

-- the lists of the first ones, joined
abbrev all_of : ℕ → (ℕ → List ℕ) → List ℕ
all_of zero f = []
all_of (suc n) f = all_of n f ++ f n

times-all_of : (x n : ℕ) (f : ℕ → List ℕ) → times x (all_of n f) ≡ total n (λ k. times x (f k))
times-all_of x zero f = refl
times-all_of x (suc n) f = times-both x (all_of n f) (f n) ∙ ap (λ m. m + times x (f n)) (times-all_of x n f)

length-all_of : (n : ℕ) (f : ℕ → List ℕ) → length (all_of n f) ≡ total n (λ k. length (f k))
length-all_of zero f = refl
length-all_of (suc n) f = length-append (all_of n f) (f n) ∙ ap (λ m. m + length (f n)) (length-all_of n f)

total-add : (n : ℕ) (f g : ℕ → ℕ) → total n (λ k. f k + g k) ≡ total n f + total n g
total-add zero f g = refl
total-add (suc n) f g = let tail = total-add n f g in omega (arith, tail)

-- sums may be taken in either order
total-swap : (n m : ℕ) (f : ℕ → ℕ → ℕ) → total n (λ i. total m (λ j. f i j)) ≡ total m (λ j. total n (λ i. f i j))
total-swap zero m f = sym (total-zero m)
total-swap (suc n) m f = ap (λ k. k + total m (λ j. f n j)) (total-swap n m f) ∙ sym (total-add m (λ j. total n (λ i. f i j)) (λ j. f n j))

-- a list of numbers below n is as long as these numbers stand in it often
by_number : (n : ℕ) (xs : List ℕ) → ((x : ℕ) → n ≤ x → times x xs ≡ 0) → total n (λ k. times k xs) ≡ length xs
by_number n [] none = total-zero n
by_number n (x ∷ xs) none =
    let inside : x < n = dite (dec_le n x) (λ past. absurd (let has = times-first x xs in let no_ = none x past in omega (arith, has, no_))) (λ under. lt_of_not-le under) in
    let fewer : (y : ℕ) → n ≤ y → times y xs ≡ 0 = λ y past. sym (times-passed y x xs (λ e. absurd (omega (arith, inside, past, e)))) ∙ none y past in
    let tail = by_number n xs fewer in
    let change = total-change n (λ k. times k xs) (λ k. times k (x ∷ xs)) x inside (λ k differs. times-passed k x xs differs) in
    let more = times-first x xs in
    omega (arith, tail, change, more)

-- each summand of a sum that is 0
none_of : (n : ℕ) (f : ℕ → ℕ) → total n f ≡ 0 → (k : ℕ) → k < n → f k ≡ 0
none_of zero f none k below = absurd (omega (arith, below))
none_of (suc n) f none k below = dite (ℕ_discrete k n)
    (λ same. subst (λ m. f m ≡ 0) (sym same) (omega (arith, none)))
    (λ differs. none_of n f (omega (arith, none)) k (omega (arith, below, differs)))

-- ---- what a status is that nobody has

-- such a place is free where it is a chunk, and has no state bit in either case
pub record IsIdle (is : Status) : Type 0 where
  pub low : low_of is ≡ 0
  pub high : high_of is ≡ 0
  pub free : is ≢ Outside → is ≡ Unclaimed

nobodys : (is : Status) → ((k : ℕ) → claims_of k is ≡ 0) → ((k : ℕ) → holds_of k is ≡ 0) → reads_of is ≡ 0 → waits_of is ≡ 0 → IsIdle is
nobodys Outside claims holds reads waits = record { low = refl; high = refl; free = λ inside. absurd (inside refl) }
nobodys Unclaimed claims holds reads waits = record { low = refl; high = refl; free = λ _. refl }
nobodys (Claimed k) claims holds reads waits = absurd (let none = claims k in let one = claims_of-mine k in omega (arith, none, one))
nobodys (Held k) claims holds reads waits = absurd (let none = holds k in let one = holds_of-mine k in omega (arith, none, one))
nobodys Complete claims holds reads waits = absurd (omega (arith, waits))
nobodys Reading claims holds reads waits = absurd (omega (arith, reads))

-- ---- the end

module _ (shape : Shape) (id : ℕ) (views : List UserView) (watch : Watch) (collector : CollectView) (words : List ℕ) (slots : List ℕ)
    (final : Final (Seen (IsTuned shape) id (Collector shape.users views watch collector)) words slots) (count : length views ≡ shape.users)
    (done : (user : ℕ) (view : UserView) → At views user view → IsDone collector user view)
    (none_read : collector.reading ≡ []) (caught_up : IsCaughtUp shape.users (14 * shape.pages) collector) where
  abbrev last : Pages
  last = final.0

  abbrev rule : IsTuned shape last
  rule = final.1.0

  abbrev world : World
  world = rule.world

  abbrev fits : Fits world rule.roll id (Collector shape.users views watch collector)
  fits = rule.manned.each id (Collector shape.users views watch collector) final.1.1

  -- each user has nothing left to do
  idle : (user : ℕ) → ((world.users user).claimed ≡ []) × ((world.users user).held ≡ []) × (user < shape.users → told_by user collector.told ≡ (world.users user).completed)
  idle user = dite (dec_le shape.users user)
      (λ past. let fresh = rule.manned.fresh user (let made = fits.2 in omega (arith, past, made)) in
      (ap (λ (v : UserView). v.claimed) fresh, ap (λ (v : UserView). v.held) fresh, λ below. absurd (omega (arith, past, below))))
      (λ under. let there = at_some views user (let below = lt_of_not-le under in omega (arith, below, count)) in
      let known = fits.3.each user there.0 there.1 in let is = done user there.0 there.1 in
      (ap (λ (v : UserView). v.claimed) (sym known) ∙ is.claimed, ap (λ (v : UserView). v.held) (sym known) ∙ is.held, λ _. is.told ∙ ap (λ (v : UserView). v.completed) known))

  taken_is : (at : ℕ) → times at world.collector.taken ≡ times at collector.taken
  taken_is at = ap (λ (v : CollectView). times at v.taken) (sym fits.0)

  -- nothing waits
  none_waits : (page place : ℕ) → place < 14 → waits_of (world.status page place) ≡ 0
  none_waits page place inside = dite (dec_le shape.pages page)
      (λ past. rule.untouched page place past)
      (λ under. let below = lt_of_not-le under in let at = spot page place in
      let caught = caught_up at (omega (arith, below, inside)) in
      let told = total-same shape.users (λ user. times at (told_by user collector.told)) (λ user. times at (world.users user).completed) (λ user is. ap (times at) ((idle user).2 is)) in
      let balance = rule.owned.balance page place inside in
      let same = taken_is at in
      omega (arith, caught, told, balance, same))

  -- as many chunks were taken of each place as completed
  pub balanced : (at : ℕ) → total shape.users (λ user. times at (world.users user).completed) ≡ times at collector.taken
  balanced at =
      let page = at / 14 in let place = at % 14 in
      let here : spot page place ≡ at = omega arith in let inside : place < 14 = omega arith in
      subst (λ a. total shape.users (λ user. times a (world.users user).completed) ≡ times a collector.taken) here
      (let balance = rule.owned.balance page place inside in let none = none_waits page place inside in let same = taken_is (spot page place) in omega (arith, balance, none, same))

  free : (page place : ℕ) → place < 14 → IsIdle (world.status page place)
  free page place inside = nobodys (world.status page place)
      (λ user. sym (rule.owned.claimed user page place inside) ∙ ap (times (spot page place)) (idle user).0)
      (λ user. sym (rule.owned.held user page place inside) ∙ ap (times (spot page place)) (idle user).1)
      (sym (rule.owned.reading page place inside) ∙ (ap (λ (v : CollectView). times (spot page place) v.reading) (sym fits.0) ∙ ap (times (spot page place)) none_read))
      (none_waits page place inside)

  pub word_unused : (page : ℕ) → page < shape.pages → IsUnused (get_or words (line page) 0)
  word_unused page below = subst (λ l. IsUnused (get_or l (line page) 0)) final.2 (unused (rule.shows page below))
    where
      unused : ShowsPage (get_or last.words (line page) 0) (world.layouts page) (world.generations page) (world.status page) → IsUnused (get_or last.words (line page) 0)
      unused shows = record {
        layout_least = subst (λ l. 1 ≤ l) (sym shows.layout_is) (rule.owned.layout_least page);
        layout_most = subst (λ l. l ≤ 5) (sym shows.layout_is) (rule.owned.layout_most page);
        spare = shows.spare;
        states = λ bit inside. dite (ℕ_discrete (bit % 2) 0)
            (λ even. let here : 2 * (bit / 2) ≡ bit = omega (arith, even) in let low : bit / 2 < 14 = omega (arith, inside) in
            subst (λ b. bit_at (get_or last.words (line page) 0) b ≡ 0) here (shows.low (bit / 2) low ∙ (free page (bit / 2) low).low))
            (λ odd. let here : 2 * (bit / 2) + 1 ≡ bit = omega (arith, odd) in let low : bit / 2 < 14 = omega (arith, inside) in
            subst (λ b. bit_at (get_or last.words (line page) 0) b ≡ 0) here (shows.high (bit / 2) low ∙ (free page (bit / 2) low).high));
        claims = λ place inside. shows.claim place inside ∙ subst (λ l. claim_of (world.status page place) ≡ (if nat_lt place (chunks_of l) then 0 else 1)) (sym shows.layout_is)
            (dite (dec_le (chunks_of (world.layouts page)) place)
            (λ past. ap claim_of (rule.owned.outside page place past)
            ∙ ap (λ b. if b then 0 else 1) (let test : false ≡ nat_lt place (chunks_of (world.layouts page)) = sym (grind (arith, nat_tests, past)) in test))
            (λ under. let chunk = lt_of_not-le under in ap claim_of ((free page place inside).free (rule.owned.inside page place chunk))
            ∙ ap (λ b. if b then 0 else 1) (let test : true ≡ nat_lt place (chunks_of (world.layouts page)) = sym (grind (arith, nat_tests, chunk)) in test)));
      }

  -- each page's generation is the number of its retiles
  pub word_generation : (page : ℕ) → page < shape.pages → generation_in (get_or words (line page) 0) ≡ total shape.users (λ user. times page (world.users user).retiled)
  word_generation page below = ap (λ l. generation_in (get_or l (line page) 0)) (sym final.2) ∙ ((rule.shows page below).generation_is ∙ sym (rule.owned.generation page))

  -- each page is laid out as users saw it
  pub word_laid : (page : ℕ) → page < shape.pages → IsLaid shape.users world.users page (layout_in (get_or words (line page) 0)) (generation_in (get_or words (line page) 0))
  word_laid page below = subst (λ l. IsLaid shape.users world.users page (layout_in (get_or l (line page) 0)) (generation_in (get_or l (line page) 0))) final.2
      (laid_as shape.users world.users page (layout_in (get_or last.words (line page) 0)) (generation_in (get_or last.words (line page) 0)) (world.layouts page) (world.generations page)
      (rule.shows page below).layout_is (rule.shows page below).generation_is (rule.owned.laid page))

  pub all_taken : total shape.users (λ user. length (world.users user).completed) ≡ length collector.taken
  all_taken = sym (length-all_of shape.users (λ user. (world.users user).completed))
      ∙ same_many (all_of shape.users (λ user. (world.users user).completed)) collector.taken
      (λ at. times-all_of at shape.users (λ user. (world.users user).completed) ∙ balanced at)

  pub all_retiled : total shape.pages (λ page. generation_in (get_or words (line page) 0)) ≡ total shape.users (λ user. length (world.users user).retiled)
  all_retiled =
      total-same shape.pages (λ page. generation_in (get_or words (line page) 0)) (λ page. total shape.users (λ user. times page (world.users user).retiled)) word_generation
      ∙ (total-swap shape.pages shape.users (λ page user. times page (world.users user).retiled)
      ∙ total-same shape.users (λ user. total shape.pages (λ page. times page (world.users user).retiled)) (λ user. length (world.users user).retiled)
      (λ user inside. by_number shape.pages (world.users user).retiled (λ page past.
      none_of shape.users (λ u. times page (world.users u).retiled) (rule.owned.generation page ∙ rule.unused page past) user inside)))

-- ---- the views of the seats

view_at-is : (seats : List TuneSeat) (user : ℕ) (seat : TuneSeat) → At seats user seat → view_at seats user ≡ known_by seat
view_at-is [] user seat at = absurd (some-ne-none seat (sym at))
view_at-is (one ∷ seats) zero seat at = ap known_by (some-injective one seat at)
view_at-is (one ∷ seats) (suc user) seat at = view_at-is seats user seat at

pub table_ends : (table : TuneTable) (id : ℕ) (seats : List TuneSeat) (watch : Watch) (collector : CollectView) (words slots : List ℕ)
    → Final (Seen (IsTuned table.shape) id (Collector table.shape.users (views_of seats) watch collector)) words slots → HasAllSeats table collector seats → collector.reading ≡ []
    → IsCaughtUp table.shape.users (14 * table.shape.pages) collector → IsClosed table.shape seats collector (λ page. get_or words (line page) 0)
table_ends table id seats watch collector words slots final all none caught =
    let shape = table.shape in
    let views = views_of seats in
    let count : length views ≡ shape.users = length-map seats (λ (s : TuneSeat). known_by s) ∙ all.count_is in
    let seat_at : (user : ℕ) (view : UserView) → At views user view → IsDone collector user view = λ user view at.
    let there = at_some seats user (let below = at_inside views view user at in let many = length-map seats (λ (s : TuneSeat). known_by s) in omega (arith, below, many)) in
    let same : known_by there.0 ≡ view = at_one views (known_by there.0) view user (at_map (λ (s : TuneSeat). known_by s) seats user there.0 there.1) at in
    subst (IsDone collector user) same (all.each user there.0 there.1).2 in
    let world = final.1.0.world in
    let known : (user : ℕ) → user < shape.users → world.users user ≡ view_at seats user = λ user below.
    let there = at_some seats user (let many = all.count_is in omega (arith, below, many)) in
    let fits = (final.1.0.manned.each id (Collector shape.users views watch collector) final.1.1).3 in
    sym (fits.each user (known_by there.0) (at_map (λ (s : TuneSeat). known_by s) seats user there.0 there.1)) ∙ sym (view_at-is seats user there.0 there.1) in
    let alike : (f : UserView → ℕ) → total shape.users (λ user. f (view_at seats user)) ≡ total shape.users (λ user. f (world.users user)) = λ f.
    total-same shape.users (λ user. f (view_at seats user)) (λ user. f (world.users user)) (λ user below. ap f (sym (known user below))) in
    record {
      unused = word_unused shape id views watch collector words slots final count seat_at none caught;
      taken = λ at. alike (λ v. times at v.completed) ∙ balanced shape id views watch collector words slots final count seat_at none caught at;
      all_taken = alike (λ v. length v.completed) ∙ all_taken shape id views watch collector words slots final count seat_at none caught;
      generations = λ page below. word_generation shape id views watch collector words slots final count seat_at none caught page below ∙ sym (alike (λ v. times page v.retiled));
      laid = λ page below. laid_by shape.users world.users (λ user. view_at seats user) page (layout_in (get_or words (line page) 0)) (generation_in (get_or words (line page) 0)) known
          (word_laid shape id views watch collector words slots final count seat_at none caught page below);
      all_retiled = all_retiled shape id views watch collector words slots final count seat_at none caught ∙ sym (alike (λ v. length v.retiled));
    }
