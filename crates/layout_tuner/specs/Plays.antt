-- What each atomic step tells the seat that makes it.
use Rattle.std.specs.Prelude.{◌≡◌, ℕ, ◌+◌, ◌<◌, ◌≤◌, true, false, [], if◌then◌else◌}
use Rattle.atomic_table.specs.Table.{Me}
use Rattle.chunk_plain.specs.Owned.{times}
use Rattle.layout_tuner.specs.declared.moves.Move.{Move}
use Rattle.layout_tuner.specs.declared.moves.Move.TheVariants.{Test, Claim, Begin, Complete, Give, Retile, Look, Take, Release}
use Rattle.layout_tuner.specs.PageWords.{spot, chunks_of, layout_in, generation_in, is_clear, is_full}
use Rattle.layout_tuner.specs.Knows.{UserView, CollectView, Watch, Nothing, Full, Knows, User, seen_in, told_by, view_of, collector_of, claims, begins, completes, gives, retiles, looks_at, takes_in, lets_go, by_user, by_collector}
use Rattle.layout_tuner.specs.World.{total}

-- what a seat knows; it takes no slot
abbrev pub Mine : Type 0
Mine = Me ℕ Knows

-- the user has the place, claimed or held
abbrev pub HasPlace : UserView → (page place : ℕ) → Type 0
HasPlace view page place = 0 < times (spot page place) view.claimed + times (spot page place) view.held

-- A claim that found this word. A chunk that was won was none that the user had claimed already, and is one of the layout in the word. Where
-- the user had a place of the page, the word has the layout and the generation that it saw.
pub record Claims (page place : ℕ) (old : UserView) (found : ℕ) (new : UserView) : Type 0 where
  pub fresh : is_clear found place ≡ true → times (spot page place) old.claimed ≡ 0
  pub agrees : (other : ℕ) → other < 14 → HasPlace old page other → seen_in page old.sights ≡ (layout_in found, generation_in found)
  pub inside : is_clear found place ≡ true → place < chunks_of (layout_in found)
  pub layout_least : 1 ≤ layout_in found
  pub layout_most : layout_in found ≤ 5
  pub new_is : new ≡ claims old page place found (is_clear found place)

-- A user read this word before a claim. Where the claim bit is set, that is a claim in vain: an or with a bit that is set leaves the word as
-- it is, so a load that finds it set is that or. Where the bit is clear, nothing was done.
pub record Tests (page place : ℕ) (old : UserView) (found : ℕ) (new : UserView) : Type 0 where
  pub taken : is_clear found place ≡ false → Claims page place old found new
  pub free : is_clear found place ≡ true → new ≡ old

-- a user's view changes in a known way
abbrev pub Does : (UserView → UserView) → Mine → Mine → Type 0
Does step me new = new ≡ (by_user step me.0, [])

-- how many completed chunks at a place the users told
abbrev pub told_total : (users at : ℕ) → CollectView → ℕ
told_total users at view = total users (λ user. times at (told_by user view.told))

-- A look that found this word. Where more was told of a place than taken, it is found complete.
pub record Looks (users page place : ℕ) (old : CollectView) (found : ℕ) (new : CollectView) : Type 0 where
  pub told : is_full found place ≡ false → told_total users (spot page place) old ≤ times (spot page place) old.taken
  pub most : told_total users (spot page place) old ≤ times (spot page place) old.taken + 1
  pub new_is : new ≡ looks_at old page place found

-- what a look watches: a place that it finds complete
abbrev pub watch_for : (page place found : ℕ) → Watch
watch_for page place found = if is_full found place then Full page place else Nothing

-- the collector's view changes in a known way, and nothing is watched
abbrev pub Serves : (CollectView → CollectView) → Mine → Mine → Type 0
Serves step me new = new ≡ (by_collector Nothing step me.0, [])

-- what a step tells of what was known before it, the number that it found, and what is known behind it
abbrev pub After : Move → Mine → ℕ → Mine → Type 0
After (Test page place) me found new = Tests page place (view_of me.0) found (view_of new.0) × Does (λ _. view_of new.0) me new
After (Claim page place) me found new = Claims page place (view_of me.0) found (view_of new.0) × Does (λ _. view_of new.0) me new
After (Begin page place) me found new = Does (λ view. begins view (spot page place)) me new
After (Complete page place) me found new = Does (λ view. completes view (spot page place)) me new
After (Give page place) me found new = Does (λ view. gives view (spot page place)) me new
After (Retile page layout chunks generation) me found new = Does (λ view. retiles view page layout chunks generation) me new
After (Look users page place) me found new = Looks users page place (collector_of me.0) found (collector_of new.0)
    × (new ≡ (by_collector (watch_for page place found) (λ _. collector_of new.0) me.0, []))
After (Take page place) me found new = Serves (λ view. takes_in view (spot page place)) me new
After (Release page place) me found new = Serves (λ view. lets_go view (spot page place)) me new

-- the seat of the user with this number, with no step of a call open
abbrev pub IsUser : ℕ → Mine → Type 0
IsUser number me = me ≡ (User number (view_of me.0), [])

-- The user has claimed each chunk of the page, whose layout and generation it has seen.
pub record HasPage (view : UserView) (page layout generation : ℕ) : Type 0 where
  pub seen : seen_in page view.sights ≡ (layout, generation)
  pub some : 0 < chunks_of layout
  pub all : (place : ℕ) → place < chunks_of layout → 0 < times (spot page place) view.claimed
