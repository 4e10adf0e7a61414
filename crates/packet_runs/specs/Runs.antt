-- When packets that were delivered tell of those that were emitted: they stand among them in order, and each is marked
-- exactly where it is the first one or doesn't stand right behind the one before. Packets without a mark between them
-- make a run: they stand side by side.
use Rattle.std.specs.Prelude.{◌≡◌, ℕ, zero, suc, ◌≤◌, ◌==◌, ◌||◌, Bool, true, false, not, List, [], ◌∷◌, Some, slice_get, slice_index_or}

-- a packet that was delivered, and whether it is marked
pub record Said : Type 0 where
  pub packet : List ℕ
  pub marked : Bool

-- the packet stands at this place, which isn't before `next`; its mark says whether it is the first or isn't at `next`
pub record IsAt (emitted : List (List ℕ)) (first : Bool) (next place : ℕ) (said : Said) : Type 0 where
  pub emitted_there : slice_get emitted place ≡ Some said.packet
  pub not_before : next ≤ place
  pub marked : said.marked ≡ (first || not (place == next))

-- the packets stand from the place `next` on
abbrev pub StandFrom : List (List ℕ) → Bool → ℕ → List Said → Type 0
StandFrom emitted first next [] = Unit {0}
StandFrom emitted first next (said ∷ others) =
    (place : ℕ) × IsAt emitted first next place said × StandFrom emitted false (suc place) others

-- all of them do
abbrev pub StandIn : List (List ℕ) → List Said → Type 0
StandIn emitted said = StandFrom emitted true 0 said

-- the emitted packet at a place
abbrev pub packet_at : List (List ℕ) → ℕ → List ℕ
packet_at emitted place = slice_index_or emitted place []

-- a run of so many packets from a place on, of which the first is marked or isn't
abbrev pub run_of : List (List ℕ) → Bool → ℕ → ℕ → List Said
run_of emitted first place zero = []
run_of emitted first place (suc len) = record { packet = packet_at emitted place; marked = first } ∷ run_of emitted false (suc place) len
