-- Each step of a user's seat keeps the rule, and tells what it does.
use Rattle.std.proofs.Common.{◌≡◌, ◌≢◌, ℕ, ◌+◌, ◌*◌, ◌<◌, ◌≤◌, Bool, true, false, List, [], ◌∷◌, ◌++◌, get_or, subst, sym, refl, ap, ◌∙◌, arith, bit_or, bit_and, eq-eqb, ne_eqb}
use Rattle.std.specs.Int.{bit_at}
use Rattle.std.proofs.lemmas.Bool.Decides.{nat_tests}
use Rattle.std.specs.Prelude.{if◌then◌else◌, nat_lt, nat_eq}
use native.Mathlib.Decide.{dec_le}
use mathlib.Core.Logic.{dite}
use Rattle.atomic_table.specs.Table.{Allows, keeps}
use Rattle.page_geometry.specs.Masks.{IsBit, IsAllBut}
use Rattle.page_geometry.proofs.Bits.{bit_at-and_kept, bit_at-and_cleared}
use Rattle.page_geometry.proofs.Steps.{bit_at-or_bit, bit_at-or_other}
use Rattle.chunk_plain.specs.Views.{At}
use Rattle.chunk_plain.specs.Owned.{times}
use Rattle.chunk_plain.proofs.Lists.{times-here, times-other, times-both, times-without_same, times-without_other}
use Rattle.layout_tuner.specs.declared.table.Shape.{Shape}
use Rattle.layout_tuner.specs.declared.moves.Move.TheVariants as move
use Rattle.layout_tuner.specs.PageWords.{spot, line, chunks_of, layout_in, generation_in, is_clear, IsTiled}
use Rattle.layout_tuner.specs.Knows.{Ask, UserView, User, seen_in, claims, begins, completes, gives, retiles, elsewhere, first_spots}
use Rattle.layout_tuner.specs.World.{Status, Outside, Unclaimed, Claimed, Held, Complete, low_of, high_of, claim_of, claims_of, holds_of, reads_of, waits_of, IsMine, put, World, IsOwned}
use Rattle.layout_tuner.specs.Rule.{ShowsPage, IsTuned}
use Rattle.layout_tuner.specs.Plays.{HasPlace, HasPage, Claims, After}
use Rattle.layout_tuner.proofs.Puts.{few_chunks, some_chunks}
use Rattle.layout_tuner.proofs.WordBits.{shown_place, or_set, clear_bit, set_bit}
use Rattle.layout_tuner.proofs.Spots.{is_of-here, is_of-other, times-elsewhere_here, times-elsewhere_other, times-first_spots, times-first_spots_behind, times-first_spots_other}
use Rattle.layout_tuner.proofs.Laid.{sight_of, Sees, sees_same, sees_more}
use Rattle.layout_tuner.proofs.WorldTurns.{Turns, PlaceTurn, place_turns, unclaimed_of, claimed_of, held_of, mine_of, claims_of-mine, holds_of-mine, claims_of-other, holds_of-other}
use Rattle.layout_tuner.proofs.SeatTurns.{Pages, user_keeps}

module _ (users : ℕ) (world : World) (user page place : ℕ) (v : UserView) (owned : IsOwned users world) (known : v ≡ world.users user) (user_in : user < users) (place_in : place < 14) where
  abbrev at : ℕ
  at = spot page place

  abbrev was : Status
  was = world.status page place

  claimed_is : times at v.claimed ≡ claims_of user was
  claimed_is = ap (λ (w : UserView). times at w.claimed) known ∙ owned.claimed user page place place_in

  held_is : times at v.held ≡ holds_of user was
  held_is = ap (λ (w : UserView). times at w.held) known ∙ owned.held user page place place_in

  -- a user that has a place of the page saw it as it is laid out
  pub saw : HasPlace v page place → seen_in page v.sights ≡ (world.layouts page, world.generations page)
  saw has = let claimed = claimed_is in let held = held_is in
      ap (λ (w : UserView). seen_in page w.sights) known ∙ owned.sights user page place place_in (mine_of user was (omega (arith, has, claimed, held)))

  -- the status of a place that the user has claimed
  pub status_claimed : 0 < times at v.claimed → was ≡ Claimed user
  status_claimed has = claimed_of user was (let same = claimed_is in omega (arith, has, same))

  pub status_held : 0 < times at v.held → was ≡ Held user
  status_held has = held_of user was (let same = held_is in omega (arith, has, same))

  -- ---- claim

  -- a claim in vain changes nothing but the list of claims, and a test that finds a place free not even that
  asks_turns : (asked : List Ask) → Turns users world user page (world.status page) (world.layouts page) (world.generations page) v (record v { asked = asked })
  asks_turns asked = record {
    old_is = known;
    user_in = user_in;
    claims_here = λ q below. ap (λ (w : UserView). times (spot page q) w.claimed) known ∙ owned.claimed user page q below;
    claims_else = λ other q differs below. refl;
    holds_here = λ q below. ap (λ (w : UserView). times (spot page q) w.held) known ∙ owned.held user page q below;
    holds_else = λ other q differs below. refl;
    others_claim = λ other q differs. refl;
    others_hold = λ other q differs. refl;
    reads = λ q. refl;
    completes_here = λ q below. refl;
    completes_else = λ other q differs below. refl;
    completes_more = λ a. omega arith;
    generation_here = refl;
    generation_else = λ other differs. refl;
    sights_here = λ q below mine. ap (λ (w : UserView). seen_in page w.sights) known ∙ owned.sights user page q below mine;
    sights_else = λ other differs. refl;
    sees = sees_same page (world.layouts page) (world.generations page) v.sights;
    others_saw = λ other q differs mine. (mine, refl, refl);
    layout_least = owned.layout_least page;
    layout_most = owned.layout_most page;
    outer = owned.outside page;
    inner = owned.inside page;
    full = λ q is. is;
  }

  wins_turn : (found : ℕ) → layout_in found ≡ world.layouts page → generation_in found ≡ world.generations page → was ≡ Unclaimed
      → PlaceTurn world user page place (Claimed user) v (claims v page place found true)
  wins_turn found layout_is generation_is free = record {
    old_is = known;
    place_in = place_in;
    was_in = λ out. absurd (let clash : Unclaimed ≡ Outside = sym free ∙ out in cc);
    is_in = λ out. absurd cc;
    claims_here = times-here at v.claimed ∙ (let none = claimed_is ∙ ap (claims_of user) free in let one = claims_of-mine user in omega (arith, none, one));
    claims_else = λ a differs. times-other a at v.claimed differs;
    holds_here = held_is ∙ ap (holds_of user) free;
    holds_else = λ a differs. refl;
    others_claim = λ other differs. claims_of-other other user differs ∙ sym (ap (claims_of other) free);
    others_hold = λ other differs. sym (ap (holds_of other) free);
    others_have = λ other differs mine. absurd (differs (sym mine));
    reads = sym (ap reads_of free);
    completes_here = ap (λ n. times at v.completed + n) (ap waits_of free);
    completes_else = λ a differs. refl;
    completes_more = λ a. omega arith;
    retiled = refl;
    sights_here = let here : nat_eq page page ≡ true = eq-eqb page page refl in
        ap (λ b. let x : ℕ × ℕ = if b then (layout_in found, generation_in found) else seen_in page v.sights in x) here ∙ (λ i. (layout_is i, generation_is i));
    sights_else = λ other differs. ap (λ b. let x : ℕ × ℕ = if b then (layout_in found, generation_in found) else seen_in other v.sights in x) (ne_eqb page other (λ e. differs (sym e)));
    sees = subst (λ l. Sees page (world.layouts page) (world.generations page) (world.layouts page) (world.generations page) v.sights (sight_of page l (generation_in found) ∷ v.sights)) (sym layout_is)
        (subst (λ g. Sees page (world.layouts page) (world.generations page) (world.layouts page) (world.generations page) v.sights (sight_of page (world.layouts page) g ∷ v.sights)) (sym generation_is)
        (sees_more page (world.layouts page) (world.generations page) (world.layouts page) (world.generations page) v.sights (omega arith) (λ _. refl)));
    full = λ is. absurd (let clash : Unclaimed ≡ Complete = sym free ∙ is in cc);
  }

  -- ---- begin, complete, give

  begins_turn : 0 < times at v.claimed → PlaceTurn world user page place (Held user) v (begins v at)
  begins_turn has = let is = status_claimed has in let one = claimed_is ∙ (ap (claims_of user) is ∙ claims_of-mine user) in record {
    old_is = known;
    place_in = place_in;
    was_in = λ out. absurd (let clash : Claimed user ≡ Outside = sym is ∙ out in cc);
    is_in = λ out. absurd cc;
    claims_here = let less = times-without_same at v.claimed has in omega (arith, less, one);
    claims_else = λ a differs. times-without_other a at v.claimed differs;
    holds_here = times-here at v.held ∙ (let none = held_is ∙ ap (holds_of user) is in let mine = holds_of-mine user in omega (arith, none, mine));
    holds_else = λ a differs. times-other a at v.held differs;
    others_claim = λ other differs. sym (ap (claims_of other) is ∙ claims_of-other other user differs);
    others_hold = λ other differs. holds_of-other other user differs ∙ sym (ap (holds_of other) is);
    others_have = λ other differs mine. absurd (differs (sym mine));
    reads = sym (ap reads_of is);
    completes_here = ap (λ n. times at v.completed + n) (ap waits_of is);
    completes_else = λ a differs. refl;
    completes_more = λ a. omega arith;
    retiled = refl;
    sights_here = saw (omega (arith, has));
    sights_else = λ other differs. refl;
    sees = sees_same page (world.layouts page) (world.generations page) v.sights;
    full = λ full. absurd (let clash : Claimed user ≡ Complete = sym is ∙ full in cc);
  }

  completes_turn : 0 < times at v.held → PlaceTurn world user page place Complete v (completes v at)
  completes_turn has = let is = status_held has in let one = held_is ∙ (ap (holds_of user) is ∙ holds_of-mine user) in record {
    old_is = known;
    place_in = place_in;
    was_in = λ out. absurd (let clash : Held user ≡ Outside = sym is ∙ out in cc);
    is_in = λ out. absurd cc;
    claims_here = claimed_is ∙ ap (claims_of user) is;
    claims_else = λ a differs. refl;
    holds_here = let less = times-without_same at v.held has in omega (arith, less, one);
    holds_else = λ a differs. times-without_other a at v.held differs;
    others_claim = λ other differs. sym (ap (claims_of other) is);
    others_hold = λ other differs. sym (ap (holds_of other) is ∙ holds_of-other other user differs);
    others_have = λ other differs mine. absurd mine;
    reads = sym (ap reads_of is);
    completes_here = let more = times-here at v.completed in let none = ap waits_of is in omega (arith, more, none);
    completes_else = λ a differs. times-other a at v.completed differs;
    completes_more = λ a. let both = times-both a v.completed (at ∷ []) in omega (arith, both);
    retiled = refl;
    sights_here = saw (omega (arith, has));
    sights_else = λ other differs. refl;
    sees = sees_same page (world.layouts page) (world.generations page) v.sights;
    full = λ full. refl;
  }

  gives_turn : 0 < times at v.claimed → PlaceTurn world user page place Unclaimed v (gives v at)
  gives_turn has = let is = status_claimed has in let one = claimed_is ∙ (ap (claims_of user) is ∙ claims_of-mine user) in record {
    old_is = known;
    place_in = place_in;
    was_in = λ out. absurd (let clash : Claimed user ≡ Outside = sym is ∙ out in cc);
    is_in = λ out. absurd cc;
    claims_here = let less = times-without_same at v.claimed has in omega (arith, less, one);
    claims_else = λ a differs. times-without_other a at v.claimed differs;
    holds_here = held_is ∙ ap (holds_of user) is;
    holds_else = λ a differs. refl;
    others_claim = λ other differs. sym (ap (claims_of other) is ∙ claims_of-other other user differs);
    others_hold = λ other differs. sym (ap (holds_of other) is);
    others_have = λ other differs mine. absurd mine;
    reads = sym (ap reads_of is);
    completes_here = ap (λ n. times at v.completed + n) (ap waits_of is);
    completes_else = λ a differs. refl;
    completes_more = λ a. omega arith;
    retiled = refl;
    sights_here = saw (omega (arith, has));
    sights_else = λ other differs. refl;
    sees = sees_same page (world.layouts page) (world.generations page) v.sights;
    full = λ full. absurd (let clash : Claimed user ≡ Complete = sym is ∙ full in cc);
  }

  pub turns_of : (is : Status) (view : UserView) → PlaceTurn world user page place is v view → Turns users world user page (put (world.status page) place is) (world.layouts page) (world.generations page) v view
  turns_of is view t = place_turns users world user page place is v view owned user_in t

-- ---- the steps

pub user_inside : (shape : Shape) (s : Pages) (r : IsTuned shape s) (id user : ℕ) (v : UserView) → At s.views id (User user v) → user < shape.users
user_inside shape s r id user v at = let below = (r.manned.each id (User user v) at).2 in let most = r.manned.most in omega (arith, below, most)

-- the places of a page behind a claim
abbrev claimed_places : Bool → (ℕ → Status) → (place user : ℕ) → ℕ → Status
claimed_places true places place user = put places place (Claimed user)
claimed_places false places place user = places

-- what a claim makes of the page, won or lost
claim_page : (users : ℕ) (world : World) (user page place mask found : ℕ) (v : UserView) (won : Bool) → is_clear found place ≡ won → IsOwned users world → v ≡ world.users user → user < users → place < 14
    → IsBit mask (32 + place) → ShowsPage found (world.layouts page) (world.generations page) (world.status page)
    → Turns users world user page (claimed_places won (world.status page) place user) (world.layouts page) (world.generations page) v (claims v page place found won)
    × ShowsPage (bit_or found mask) (world.layouts page) (world.generations page) (claimed_places won (world.status page) place user)
claim_page users world user page place mask found v true clear owned known user_in place_in is_bit shows =
    let free = unclaimed_of (world.status page place) (sym (shows.claim place place_in) ∙ clear_bit found place clear) in (
      turns_of users world user page place v owned known user_in place_in (Claimed user) (claims v page place found true)
          (wins_turn users world user page place v owned known user_in place_in found shows.layout_is shows.generation_is free),
      shown_place found (bit_or found mask) (world.layouts page) (world.generations page) place (world.status page) (Claimed user) place_in shows
          (bit_at-or_other found mask (32 + place) (2 * place) is_bit (omega (arith, place_in)) ∙ (shows.low place place_in ∙ ap low_of free))
          (bit_at-or_other found mask (32 + place) (2 * place + 1) is_bit (omega (arith, place_in)) ∙ (shows.high place place_in ∙ ap high_of free))
          (bit_at-or_bit found mask (32 + place) is_bit)
          (λ bit low high claim. bit_at-or_other found mask (32 + place) bit is_bit claim),
    )
claim_page users world user page place mask found v false taken owned known user_in place_in is_bit shows = (
  asks_turns users world user page place v owned known user_in place_in (v.asked ++ record { page = page; place = place; found = found } ∷ []),
  subst (λ w. ShowsPage w (world.layouts page) (world.generations page) (world.status page)) (sym (or_set found mask (32 + place) is_bit (set_bit found place taken))) shows,
)

-- what a claim tells of the word that it found
claim_tells : (users : ℕ) (world : World) (user page place found : ℕ) (v : UserView) → IsOwned users world → v ≡ world.users user → user < users → place < 14
    → ShowsPage found (world.layouts page) (world.generations page) (world.status page) → Claims page place v found (claims v page place found (is_clear found place))
claim_tells users world user page place found v owned known user_in place_in shows =
    let free : is_clear found place ≡ true → world.status page place ≡ Unclaimed = λ clear. unclaimed_of (world.status page place) (sym (shows.claim place place_in) ∙ clear_bit found place clear) in
    record {
      fresh = λ clear. ap (λ (w : UserView). times (spot page place) w.claimed) known ∙ (owned.claimed user page place place_in ∙ ap (claims_of user) (free clear));
      agrees = λ other below has. saw users world user page other v owned known user_in below has ∙ (λ i. (sym shows.layout_is i, sym shows.generation_is i));
      inside = λ clear. dite (dec_le (chunks_of (world.layouts page)) place)
          (λ over. absurd (let clash : Unclaimed ≡ Outside = sym (free clear) ∙ owned.outside page place over in cc))
          (λ under. subst (λ l. place < chunks_of l) (sym shows.layout_is) (omega (arith, under)));
      layout_least = subst (λ l. 1 ≤ l) (sym shows.layout_is) (owned.layout_least page);
      layout_most = subst (λ l. l ≤ 5) (sym shows.layout_is) (owned.layout_most page);
      new_is = refl;
    }

pub claims_allowed : (shape : Shape) (count id user page place mask : ℕ) (v : UserView) → page < shape.pages → place < 14 → IsBit mask (32 + place)
    → Allows (IsTuned shape) count id (User user v, []) (line page) (λ found. bit_or found mask) (λ found new. After (move.Claim page place) (User user v, []) found new)
claims_allowed shape count id user page place mask v inside place_in is_bit s r deep at small =
    let world = r.world in let found = get_or s.words (line page) 0 in let won = is_clear found place in
    let f = r.manned.each id (User user v) at in let user_in = user_inside shape s r id user v at in
    let shows = r.shows page inside in
    let after = claim_page shape.users world user page place mask found v won refl r.owned f.0 user_in place_in is_bit shows in
    let view = claims v page place found won in (
      User user view,
      keeps,
      tt,
      user_keeps shape s r id user page (bit_or found mask) (claimed_places won (world.status page) place user) (world.layouts page) (world.generations page) v view at inside after.0 after.1,
      (claim_tells shape.users world user page place found v r.owned f.0 user_in place_in shows, refl),
    )

-- ---- test

-- the view of a user behind a test that found the place free or not
abbrev tested : UserView → (page place found : ℕ) → (free : Bool) → UserView
tested v page place found true = v
tested v page place found false = claims v page place found false

tested_turns : (users : ℕ) (world : World) (user page place found : ℕ) (v : UserView) (free : Bool) → IsOwned users world → v ≡ world.users user → user < users → place < 14
    → Turns users world user page (world.status page) (world.layouts page) (world.generations page) v (tested v page place found free)
tested_turns users world user page place found v true owned known user_in place_in = asks_turns users world user page place v owned known user_in place_in v.asked
tested_turns users world user page place found v false owned known user_in place_in =
    asks_turns users world user page place v owned known user_in place_in (v.asked ++ record { page = page; place = place; found = found } ∷ [])

pub tests_allowed : (shape : Shape) (count id user page place : ℕ) (v : UserView) → page < shape.pages → place < 14
    → Allows (IsTuned shape) count id (User user v, []) (line page) (λ found. found) (λ found new. After (move.Test page place) (User user v, []) found new)
tests_allowed shape count id user page place v inside place_in s r deep at small =
    let world = r.world in let found = get_or s.words (line page) 0 in let free = is_clear found place in
    let f = r.manned.each id (User user v) at in let user_in = user_inside shape s r id user v at in
    let shows = r.shows page inside in
    let view = tested v page place found free in
    let tells = claim_tells shape.users world user page place found v r.owned f.0 user_in place_in shows in (
      User user view,
      keeps,
      tt,
      user_keeps shape s r id user page found (world.status page) (world.layouts page) (world.generations page) v view at inside
          (tested_turns shape.users world user page place found v free r.owned f.0 user_in place_in) shows,
      (
        record {
          taken = λ taken. subst (Claims page place v found) (ap (claims v page place found) taken ∙ sym (ap (tested v page place found) taken)) tells;
          free = λ clear. ap (tested v page place found) clear;
        },
        refl,
      ),
    )

pub begins_allowed : (shape : Shape) (count id user page place mask : ℕ) (v : UserView) → page < shape.pages → place < 14 → 0 < times (spot page place) v.claimed → IsBit mask (2 * place)
    → Allows (IsTuned shape) count id (User user v, []) (line page) (λ found. bit_or found mask) (λ found new. After (move.Begin page place) (User user v, []) found new)
begins_allowed shape count id user page place mask v inside place_in has is_bit s r deep at small =
    let world = r.world in let found = get_or s.words (line page) 0 in
    let f = r.manned.each id (User user v) at in let user_in = user_inside shape s r id user v at in let shows = r.shows page inside in
    let is = status_claimed shape.users world user page place v r.owned f.0 user_in place_in has in
    let view = begins v (spot page place) in (
      User user view,
      keeps,
      tt,
      user_keeps shape s r id user page (bit_or found mask) (put (world.status page) place (Held user)) (world.layouts page) (world.generations page) v view at inside
          (turns_of shape.users world user page place v r.owned f.0 user_in place_in (Held user) view (begins_turn shape.users world user page place v r.owned f.0 user_in place_in has))
          (shown_place found (bit_or found mask) (world.layouts page) (world.generations page) place (world.status page) (Held user) place_in shows
          (bit_at-or_bit found mask (2 * place) is_bit)
          (bit_at-or_other found mask (2 * place) (2 * place + 1) is_bit (omega arith) ∙ (shows.high place place_in ∙ ap high_of is))
          (bit_at-or_other found mask (2 * place) (32 + place) is_bit (omega (arith, place_in)) ∙ (shows.claim place place_in ∙ ap claim_of is))
          (λ bit low high claim. bit_at-or_other found mask (2 * place) bit is_bit low)),
      refl,
    )

pub completes_allowed : (shape : Shape) (count id user page place mask : ℕ) (v : UserView) → page < shape.pages → place < 14 → 0 < times (spot page place) v.held → IsBit mask (2 * place + 1)
    → Allows (IsTuned shape) count id (User user v, []) (line page) (λ found. bit_or found mask) (λ found new. After (move.Complete page place) (User user v, []) found new)
completes_allowed shape count id user page place mask v inside place_in has is_bit s r deep at small =
    let world = r.world in let found = get_or s.words (line page) 0 in
    let f = r.manned.each id (User user v) at in let user_in = user_inside shape s r id user v at in let shows = r.shows page inside in
    let is = status_held shape.users world user page place v r.owned f.0 user_in place_in has in
    let view = completes v (spot page place) in (
      User user view,
      keeps,
      tt,
      user_keeps shape s r id user page (bit_or found mask) (put (world.status page) place Complete) (world.layouts page) (world.generations page) v view at inside
          (turns_of shape.users world user page place v r.owned f.0 user_in place_in Complete view (completes_turn shape.users world user page place v r.owned f.0 user_in place_in has))
          (shown_place found (bit_or found mask) (world.layouts page) (world.generations page) place (world.status page) Complete place_in shows
          (bit_at-or_other found mask (2 * place + 1) (2 * place) is_bit (omega arith) ∙ (shows.low place place_in ∙ ap low_of is))
          (bit_at-or_bit found mask (2 * place + 1) is_bit)
          (bit_at-or_other found mask (2 * place + 1) (32 + place) is_bit (omega (arith, place_in)) ∙ (shows.claim place place_in ∙ ap claim_of is))
          (λ bit low high claim. bit_at-or_other found mask (2 * place + 1) bit is_bit high)),
      refl,
    )

pub gives_allowed : (shape : Shape) (count id user page place mask : ℕ) (v : UserView) → page < shape.pages → place < 14 → 0 < times (spot page place) v.claimed → IsAllBut mask (32 + place)
    → Allows (IsTuned shape) count id (User user v, []) (line page) (λ found. bit_and found mask) (λ found new. After (move.Give page place) (User user v, []) found new)
gives_allowed shape count id user page place mask v inside place_in has is_mask s r deep at small =
    let world = r.world in let found = get_or s.words (line page) 0 in
    let f = r.manned.each id (User user v) at in let user_in = user_inside shape s r id user v at in let shows = r.shows page inside in
    let is = status_claimed shape.users world user page place v r.owned f.0 user_in place_in has in
    let view = gives v (spot page place) in
    let kept : (bit : ℕ) → bit ≢ 32 + place → bit_at (bit_and found mask) bit ≡ bit_at found bit = λ bit differs. bit_at-and_kept found mask bit small (λ below. is_mask.others bit below differs) in (
      User user view,
      keeps,
      tt,
      user_keeps shape s r id user page (bit_and found mask) (put (world.status page) place Unclaimed) (world.layouts page) (world.generations page) v view at inside
          (turns_of shape.users world user page place v r.owned f.0 user_in place_in Unclaimed view (gives_turn shape.users world user page place v r.owned f.0 user_in place_in has))
          (shown_place found (bit_and found mask) (world.layouts page) (world.generations page) place (world.status page) Unclaimed place_in shows
          (kept (2 * place) (omega (arith, place_in)) ∙ (shows.low place place_in ∙ ap low_of is))
          (kept (2 * place + 1) (omega (arith, place_in)) ∙ (shows.high place place_in ∙ ap high_of is))
          (bit_at-and_cleared found mask (32 + place) is_mask.here)
          (λ bit low high claim. kept bit claim)),
      refl,
    )

-- ---- a page is partitioned anew

-- the status of a place of a page whose user has claimed all chunks
abbrev tile : (user chunks place : ℕ) → Status
tile user chunks place = if nat_lt place chunks then Claimed user else Outside

tile_in : (user chunks place : ℕ) → place < chunks → tile user chunks place ≡ Claimed user
tile_in user chunks place below = ap (λ b. if b then Claimed user else Outside) (let test : nat_lt place chunks ≡ true = grind (arith, nat_tests, below) in test)

tile_out : (user chunks place : ℕ) → chunks ≤ place → tile user chunks place ≡ Outside
tile_out user chunks place past = ap (λ b. if b then Claimed user else Outside) (let test : nat_lt place chunks ≡ false = grind (arith, nat_tests, past) in test)

-- what holds where the user has the place and where nobody has it
tiled_by : (P : Status → Type 0) (user chunks place : ℕ) → (place < chunks → P (Claimed user)) → (chunks ≤ place → P Outside) → P (tile user chunks place)
tiled_by P user chunks place here out = dite (dec_le chunks place)
    (λ past. subst P (sym (tile_out user chunks place past)) (out past))
    (λ under. let below : place < chunks = omega (arith, under) in subst P (sym (tile_in user chunks place below)) (here below))

module _ (users : ℕ) (world : World) (user page old_layout generation layout : ℕ) (v : UserView) (owned : IsOwned users world) (known : v ≡ world.users user) (user_in : user < users)
    (has : HasPage v page old_layout generation) (least : 1 ≤ layout) (most : layout ≤ 5) where
  abbrev chunks : ℕ
  chunks = chunks_of layout

  some_least : (l : ℕ) → 1 ≤ l → l ≤ 5 → 0 < chunks_of l
  some_least l low high = some_chunks l low high

  -- the user has the page's first chunk, and so saw it as it is
  seen : seen_in page v.sights ≡ (world.layouts page, world.generations page)
  seen = saw users world user page 0 v owned known user_in (omega arith) (let one = has.all 0 has.some in omega (arith, one))

  layout_is : world.layouts page ≡ old_layout
  layout_is = ap (λ (x : ℕ × ℕ). x.0) (sym seen ∙ has.seen)

  generation_is : world.generations page ≡ generation
  generation_is = ap (λ (x : ℕ × ℕ). x.1) (sym seen ∙ has.seen)

  -- each place of the page is the user's, or no chunk
  old_by : (P : Status → Type 0) (place : ℕ) → P (Claimed user) → P Outside → P (world.status page place)
  old_by P place here out = dite (dec_le (chunks_of (world.layouts page)) place)
      (λ past. subst P (sym (owned.outside page place past)) out)
      (λ under. let below : place < chunks_of old_layout = subst (λ l. place < chunks_of l) layout_is (omega (arith, under)) in
      let few = few_chunks (world.layouts page) (owned.layout_least page) (owned.layout_most page) in
      subst P (sym (status_claimed users world user page place v owned known user_in (omega (arith, under, few)) (has.all place below))) here)

  retiles_turns : Turns users world user page (tile user chunks) layout (generation + 1) v (retiles v page layout chunks (generation + 1))
  retiles_turns = record {
    old_is = known;
    user_in = user_in;
    claims_here = λ place below.
        let gone = times-elsewhere_here page (spot page place) v.claimed (is_of-here page place below) in let few = few_chunks layout least most in
        times-both (spot page place) (elsewhere page v.claimed) (first_spots page chunks)
        ∙ tiled_by (λ s. times (spot page place) (elsewhere page v.claimed) + times (spot page place) (first_spots page chunks) ≡ claims_of user s) user chunks place
        (λ under. let one = times-first_spots page chunks place under few in let mine = claims_of-mine user in omega (arith, gone, one, mine))
        (λ past. let none = times-first_spots_behind page chunks place past in omega (arith, gone, none));
    claims_else = λ other place differs below.
        let stays = times-elsewhere_other page (spot other place) v.claimed (is_of-other page other place differs below) in
        let none = times-first_spots_other page other chunks place differs below (few_chunks layout least most) in
        times-both (spot other place) (elsewhere page v.claimed) (first_spots page chunks) ∙ omega (arith, stays, none);
    holds_here = λ place below. ap (λ (w : UserView). times (spot page place) w.held) known ∙ (owned.held user page place below
        ∙ (old_by (λ s. holds_of user s ≡ 0) place refl refl ∙ sym (tiled_by (λ s. holds_of user s ≡ 0) user chunks place (λ _. refl) (λ _. refl))));
    holds_else = λ other place differs below. refl;
    others_claim = λ other place differs. tiled_by (λ s. claims_of other s ≡ 0) user chunks place (λ _. claims_of-other other user differs) (λ _. refl)
        ∙ sym (old_by (λ s. claims_of other s ≡ 0) place (claims_of-other other user differs) refl);
    others_hold = λ other place differs. tiled_by (λ s. holds_of other s ≡ 0) user chunks place (λ _. refl) (λ _. refl) ∙ sym (old_by (λ s. holds_of other s ≡ 0) place refl refl);
    reads = λ place. tiled_by (λ s. reads_of s ≡ 0) user chunks place (λ _. refl) (λ _. refl) ∙ sym (old_by (λ s. reads_of s ≡ 0) place refl refl);
    completes_here = λ place below. ap (λ n. times (spot page place) v.completed + n)
        (old_by (λ s. waits_of s ≡ 0) place refl refl ∙ sym (tiled_by (λ s. waits_of s ≡ 0) user chunks place (λ _. refl) (λ _. refl)));
    completes_else = λ other place differs below. refl;
    completes_more = λ a. omega arith;
    generation_here = let more = times-here page v.retiled in let same = generation_is in omega (arith, more, same);
    generation_else = λ other differs. times-other other page v.retiled differs;
    sights_here = λ place below mine. ap (λ b. let x : ℕ × ℕ = if b then (layout, generation + 1) else seen_in page v.sights in x) (eq-eqb page page refl);
    sights_else = λ other differs. ap (λ b. let x : ℕ × ℕ = if b then (layout, generation + 1) else seen_in other v.sights in x) (ne_eqb page other (λ e. differs (sym e)));
    sees = let old = generation_is in sees_more page layout (generation + 1) (world.layouts page) (world.generations page) v.sights (omega (arith, old)) (λ e. absurd (omega (arith, old, e)));
    others_saw = λ other place differs. tiled_by (λ s. IsMine other s → IsMine other (world.status page place) × (layout ≡ world.layouts page) × (generation + 1 ≡ world.generations page)) user chunks place
        (λ _ mine. absurd (differs (sym mine))) (λ _ mine. absurd mine);
    layout_least = least;
    layout_most = most;
    outer = tile_out user chunks;
    inner = λ place below out. absurd (let clash : Claimed user ≡ Outside = sym (tile_in user chunks place below) ∙ out in cc);
    full = λ place is. absurd (old_by (λ s. s ≡ Complete → ⊥) place (λ e. cc) (λ e. cc) is);
  }

  retiles_shows : (word : ℕ) → IsTiled word layout (generation + 1) → ShowsPage word layout (generation + 1) (tile user chunks)
  retiles_shows word is = record {
    low = λ place below. is.states (2 * place) (omega (arith, below)) ∙ sym (tiled_by (λ s. low_of s ≡ 0) user chunks place (λ _. refl) (λ _. refl));
    high = λ place below. is.states (2 * place + 1) (omega (arith, below)) ∙ sym (tiled_by (λ s. high_of s ≡ 0) user chunks place (λ _. refl) (λ _. refl));
    claim = λ place below. is.claims place below ∙ sym (tiled_by (λ s. claim_of s ≡ 1) user chunks place (λ _. refl) (λ _. refl));
    layout_is = is.layout_is;
    spare = is.spare;
    generation_is = is.generation_is;
  }

pub retiles_allowed : (shape : Shape) (count id user page old_layout generation layout word : ℕ) (v : UserView) → page < shape.pages → HasPage v page old_layout generation → 1 ≤ layout → layout ≤ 5
    → IsTiled word layout (generation + 1)
    → Allows (IsTuned shape) count id (User user v, []) (line page) (λ _. word) (λ _ new. After (move.Retile page layout (chunks_of layout) (generation + 1)) (User user v, []) word new)
retiles_allowed shape count id user page old_layout generation layout word v inside has least most is s r deep at small =
    let world = r.world in let f = r.manned.each id (User user v) at in let user_in = user_inside shape s r id user v at in
    let view = retiles v page layout (chunks_of layout) (generation + 1) in (
      User user view,
      keeps,
      tt,
      user_keeps shape s r id user page word (tile user (chunks_of layout)) layout (generation + 1) v view at inside
          (retiles_turns shape.users world user page old_layout generation layout v r.owned f.0 user_in has least most)
          (retiles_shows shape.users world user page old_layout generation layout v r.owned f.0 user_in has least most word is),
      refl,
    )
