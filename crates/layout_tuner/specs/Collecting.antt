-- What a collect does to the view of the collector.
use Rattle.std.specs.Prelude.{◌≡◌, ℕ, ◌<◌, ◌≤◌, ◌++◌, ◌∷◌, [], List, length, if◌then◌else◌}
use Rattle.chunk_plain.specs.Views.{At}
use Rattle.chunk_plain.specs.Owned.{times}
use Rattle.layout_tuner.specs.PageWords.{spot, is_full}
use Rattle.layout_tuner.specs.Knows.{Look, CollectView}
use Rattle.layout_tuner.specs.Plays.{told_total}

-- the places that looks found complete
abbrev pub full_spots : List Look → List ℕ
full_spots [] = []
full_spots (look ∷ looks) = if is_full look.found look.place then spot look.page look.place ∷ full_spots looks else full_spots looks

-- The collector looked at so many places, each once and in rising order from the table's first one on, and took each that it found complete.
pub record Collects (count : ℕ) (old new : CollectView) : Type 0 where
  pub looks : List Look
  pub many : length looks ≡ count
  pub each : (k : ℕ) (look : Look) → At looks k look → (spot look.page look.place ≡ k) × (look.place < 14)
  pub looks_is : new.looks ≡ old.looks ++ looks
  pub taken_is : new.taken ≡ old.taken ++ full_spots looks
  pub reading : new.reading ≡ []
  pub told : new.told ≡ old.told

-- Of each of the first so many places as many chunks were taken as the users told.
abbrev pub IsCaughtUp : (users count : ℕ) → CollectView → Type 0
IsCaughtUp users count view = (at : ℕ) → at < count → told_total users at view ≤ times at view.taken

-- The collector looked at a place, and took its chunk where it found it complete: so many.
pub record CollectsOne (users page place : ℕ) (old new : CollectView) (count : ℕ) : Type 0 where
  pub found : ℕ
  pub new_is : new ≡ record old {
    looks = old.looks ++ record { page = page; place = place; found = found } ∷ [];
    taken = old.taken ++ (if is_full found place then spot page place ∷ [] else []);
  }
  pub count_is : count ≡ (if is_full found place then 1 else 0)
  pub caught_up : told_total users (spot page place) new ≤ times (spot page place) new.taken
