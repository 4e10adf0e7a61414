-- A table as it is made keeps the rule, and so does each seat that the collector makes.
use Rattle.std.proofs.Common.{◌≡◌, ◌≢◌, ℕ, zero, suc, ◌+◌, ◌*◌, ◌<◌, ◌≤◌, true, false, List, [], ◌∷◌, ◌++◌, length, replicate, set, get_or, subst, sym, refl, ap, ◌∙◌, arith, ⊎_elim}
use Rattle.std.specs.Prelude.{if◌then◌else◌, nat_lt}
use Rattle.std.proofs.lemmas.Bool.Decides.{nat_tests}
use Rattle.std.proofs.lemmas.List.{length-replicate, length-append}
use Rattle.std.proofs.lemmas.Nat.Bits.{bit_at_above}
use native.Mathlib.Decide.{ℕ_discrete, dec_le}
use mathlib.Core.Logic.{dite}
use mathlib.Core.Option.{some-injective, some-ne-none}
use Rattle.atomic_table.specs.Table.{opening, Splits}
use Rattle.atomic_table.proofs.Lists.{at_set, at_longer, at_last, set_here, set_else}
use Rattle.page_geometry.proofs.Bits.{bit_at-shl_below}
use Rattle.chunk_plain.specs.Views.{At}
use Rattle.chunk_plain.proofs.Lists.{at_one, at_more, at_inside}
use Rattle.layout_tuner.specs.declared.table.Shape.{Shape}
use Rattle.layout_tuner.specs.declared.table.TuneTable.{TuneTable}
use Rattle.layout_tuner.specs.declared.seats.TuneSeat.{TuneSeat}
use Rattle.layout_tuner.specs.PageWords.{line}
use Rattle.layout_tuner.specs.Knows.{UserView, newcomer, CollectView, Watch, Nothing, Knows, Spent, User, Collector, Report, view_of}
use Rattle.layout_tuner.specs.World.{Status, Outside, Unclaimed, low_of, high_of, claim_of, claims_of, holds_of, reads_of, waits_of, IsMine, total, put, free_place, World, first_world, IsOwned}
use Rattle.layout_tuner.specs.Rule.{ShowsPage, Roll, Fits, IsTuned, first_of}
use Rattle.layout_tuner.specs.Plays.{Mine}
use Rattle.layout_tuner.specs.Sits.{Sits, known_by}
use Rattle.layout_tuner.specs.Closed.{HasNewSeats}
use Rattle.layout_tuner.proofs.Puts.{put_here, put_else}

-- ---- the first state

pub total-zero : (n : ℕ) → total n (λ _. 0) ≡ 0
total-zero zero = refl
total-zero (suc n) = let tail = total-zero n in omega (arith, tail)

free_in : (chunks place : ℕ) → place < chunks → free_place chunks place ≡ Unclaimed
free_in chunks place below = ap (λ b. if b then Unclaimed else Outside) (let test : nat_lt place chunks ≡ true = grind (arith, nat_tests, below) in test)

free_out : (chunks place : ℕ) → chunks ≤ place → free_place chunks place ≡ Outside
free_out chunks place past = ap (λ b. if b then Unclaimed else Outside) (let test : nat_lt place chunks ≡ false = grind (arith, nat_tests, past) in test)

-- what holds of a free place and of one outside
free_by : (P : Status → Type 0) (chunks place : ℕ) → P Unclaimed → P Outside → P (free_place chunks place)
free_by P chunks place free out = dite (dec_le chunks place)
    (λ past. subst P (sym (free_out chunks place past)) out)
    (λ under. subst P (sym (free_in chunks place (omega (arith, under)))) free)

first_shows : ShowsPage 1342177280 5 0 (free_place 14)
first_shows = record {
  low = λ place below. bit_at-shl_below 5 28 (2 * place) (omega (arith, below)) ∙ sym (ap low_of (free_in 14 place below));
  high = λ place below. bit_at-shl_below 5 28 (2 * place + 1) (omega (arith, below)) ∙ sym (ap high_of (free_in 14 place below));
  claim = λ place below. bit_at_above 1342177280 32 (32 + place) (omega arith) (omega arith) ∙ sym (ap claim_of (free_in 14 place below));
  layout_is = refl;
  spare = refl;
  generation_is = refl;
}

first_owned : (users : ℕ) → IsOwned users first_world
first_owned users = record {
  claimed = λ user page place below. sym (free_by (λ s. claims_of user s ≡ 0) 14 place refl refl);
  held = λ user page place below. sym (free_by (λ s. holds_of user s ≡ 0) 14 place refl refl);
  reading = λ page place below. sym (free_by (λ s. reads_of s ≡ 0) 14 place refl refl);
  balance = λ page place below. total-zero users ∙ sym (free_by (λ s. 0 + waits_of s ≡ 0) 14 place refl refl);
  generation = λ page. total-zero users;
  sights = λ user page place below mine. absurd (free_by (λ s. IsMine user s → ⊥) 14 place (λ x. x) (λ x. x) mine);
  laid = λ page. record {
    first = λ _. refl;
    last = λ some. absurd (omega (arith, some));
    past = λ user k sight below at is. absurd (some-ne-none sight (sym at));
  };
  layout_least = λ page. omega arith;
  layout_most = λ page. omega arith;
  outside = λ page place past. free_out 14 place past;
  inside = λ page place below out. absurd (let clash : Unclaimed ≡ Outside = sym (free_in 14 place below) ∙ out in cc);
  told = λ user at. omega arith;
}

first_roll : Roll
first_roll = record { seats = λ _. 0; server = 0; made = 0; joined = 0 }

pub starts_tuned : (shape : Shape) (words : List ℕ) → words ≡ replicate (line shape.pages) 1342177280 → IsTuned shape (opening words [] (first_of shape))
unfolding first_roll
starts_tuned shape words all = record {
  world = first_world;
  roll = first_roll;
  words = ap (λ (l : List ℕ). length l) all ∙ length-replicate (line shape.pages) 1342177280;
  shows = λ page below. subst (λ w. ShowsPage w 5 0 (free_place 14))
      (sym (ap (λ (l : List ℕ). get_or l (line page) 0) all ∙ repeated (line shape.pages) (line page) (omega (arith, below)))) first_shows;
  owned = first_owned shape.users;
  unused = λ page past. refl;
  untouched = λ page place past. free_by (λ s. waits_of s ≡ 0) 14 place refl refl;
  manned = record {
    most = omega arith;
    least = omega arith;
    fresh = λ user high. refl;
    seated = λ user low below. absurd (omega (arith, below));
    staffed = ([], Nothing, refl);
    each = first_fits;
  };
}
  where
    repeated : (n i : ℕ) → i < n → let all : List ℕ = replicate n 1342177280 in get_or all i 0 ≡ 1342177280
    repeated zero i below = absurd (omega (arith, below))
    repeated (suc n) zero below = refl
    repeated (suc n) (suc i) below = repeated n i (omega (arith, below))

    first_fits : (seat : ℕ) (knows : Knows) → At (first_of shape ∷ []) seat knows → Fits first_world first_roll seat knows
    first_fits zero knows at = subst (λ k. Fits first_world first_roll 0 k) (some-injective (first_of shape) knows at)
        (refl, refl, refl, record { count = refl; each = λ user view there. absurd (some-ne-none view (sym there)) }, tt)
    first_fits (suc seat) knows at = absurd (some-ne-none knows (sym at))

-- ---- a user's seat is made

still_fits : (world : World) (roll : Roll) (j made seat : ℕ) (knows : Knows) → roll.made ≡ made → Fits world roll j knows → roll.server ≢ j
    → Fits world (record roll { seats = put roll.seats made seat; made = made + 1 }) j knows
still_fits world roll j made seat Spent same fits apart = tt
still_fits world roll j made seat (User user view) same fits apart =
    let below = fits.2 in (fits.0, put_else roll.seats made seat user (λ e. absurd (omega (arith, below, same, e))) ∙ fits.1, omega (arith, below, same), fits.3)
still_fits world roll j made seat (Report user completed) same fits apart = fits
still_fits world roll j made seat (Collector n joined watch view) same fits apart = absurd (apart fits.1)

-- each seat is an old one that isn't the collector's, the collector's, or the new one
pub splits_tuned : (shape : Shape) (id made : ℕ) (joined : List UserView) (watch : Watch) (v : CollectView) → made < shape.users
    → Splits (IsTuned shape) id (Collector made joined watch v) (Collector (made + 1) joined watch v) (User made newcomer)
splits_tuned shape id made joined watch v inside s r at =
    let old = Collector made joined watch v in let more = Collector (made + 1) joined watch v in let one = User made newcomer in
    let f = r.manned.each id old at in let world = r.world in
    let seat = length (set s.views id more) in let all = set s.views id more ++ one ∷ [] in
    let made_is : r.roll.made ≡ made = f.2 in
    let fresh = r.manned.fresh made (omega (arith, made_is)) in
    let in_views = at_inside s.views old id at in
    let low_joined = r.manned.least in
    let roll : Roll = record r.roll { seats = put r.roll.seats made seat; made = made + 1 } in
    record {
      world = world;
      roll = roll;
      words = r.words;
      shows = r.shows;
      owned = r.owned;
      unused = r.unused;
      untouched = r.untouched;
      manned = record {
        most = omega (arith, inside);
        least = omega (arith, low_joined, made_is);
        fresh = λ user high. r.manned.fresh user (omega (arith, high, made_is));
        seated = λ user low below. dite (ℕ_discrete user made)
            (λ same. subst (λ q. At all (put r.roll.seats made seat q) (User q (world.users q))) (sym same)
            (subst (λ j. At all j (User made (world.users made))) (sym (put_here r.roll.seats made seat made refl))
            (subst (λ w. At all seat (User made w)) (sym fresh) (at_last (set s.views id more) one seat refl))))
            (λ differs. let was = r.manned.seated user low (omega (arith, below, differs, made_is)) in
            let apart : r.roll.seats user ≢ id = λ same. absurd (let clash = at_one s.views (User user (world.users user)) old id (subst (λ j. At s.views j (User user (world.users user))) same was) at in cc) in
            subst (λ j. At all j (User user (world.users user))) (sym (put_else r.roll.seats made seat user differs))
            (at_longer (set s.views id more) (one ∷ []) (r.roll.seats user) (User user (world.users user)) (set_else s.views id (r.roll.seats user) more apart ∙ was)));
        staffed = (
          joined,
          watch,
          subst (λ j. At all j (Collector (made + 1) joined watch world.collector)) (sym f.1)
              (subst (λ w. At all id (Collector (made + 1) joined watch w)) f.0
              (at_longer (set s.views id more) (one ∷ []) id more (set_here s.views id more in_views))),
        );
        each = λ j knows there. ⊎_elim
            (λ before. ⊎_elim
            (λ here. subst (λ i. Fits world roll i knows) (sym here.0) (subst (λ k. Fits world roll id k) here.1
            (f.0, f.1, refl, record { count = f.3.count; each = f.3.each }, f.4)))
            (λ other. still_fits world r.roll j made seat knows made_is (r.manned.each j knows other.1) (λ same. other.0 (sym same ∙ f.1)))
            (at_set s.views id j more knows before))
            (λ last. subst (λ i. Fits world roll i knows) (sym last.0) (subst (λ k. Fits world roll seat k) last.1
            (sym fresh, put_here r.roll.seats made seat made refl, omega arith, omega (arith, low_joined, made_is))))
            (at_more (set s.views id more) one knows j there);
      };
    }

-- ---- the list of seats

pub seats_more : (table : TuneTable) (count : ℕ) (seats : List TuneSeat) (seat : TuneSeat) → HasNewSeats table count seats → seat.number ≡ count → seat.seat.table_id ≡ table.table.shared.table_id
    → seat.seat.me ≡ (User count newcomer, []) → HasNewSeats table (count + 1) (seats ++ seat ∷ [])
seats_more table count seats seat all number_is joined me_is =
    let view_is : known_by seat ≡ newcomer = ap (λ (m : Mine). view_of m.0) me_is in
    let sits : Sits table seat = record {
      joined = joined;
      idle = me_is ∙ (ap (λ n. let m : Mine = (User n newcomer, []) in m) (sym number_is) ∙ ap (λ v. let m : Mine = (User seat.number v, []) in m) (sym view_is));
    } in
    record {
      count_is = length-append seats (seat ∷ []) ∙ (let many = all.count_is in omega (arith, many));
      each = λ user other at. ⊎_elim
          (λ old. all.each user other old)
          (λ new. subst (λ (w : TuneSeat). (w.number ≡ user) × Sits table w × (known_by w ≡ newcomer)) new.1 (number_is ∙ (sym all.count_is ∙ sym new.0), sits, view_is))
          (at_more seats seat other user at);
    }
