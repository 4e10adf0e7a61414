-- What a seat of a table knows: what it has done and has, and what each step makes of that.
use Rattle.std.specs.Prelude.{ℕ, zero, suc, ◌+◌, ◌*◌, ◌==◌, ◌&&◌, ◌++◌, ◌∷◌, Bool, true, false, nat_le, nat_lt, List, [], if◌then◌else◌}
use Rattle.chunk_plain.specs.Steps.{without}
use Rattle.layout_tuner.specs.PageWords.{spot, layout_in, generation_in}

-- a claim, with the page word that it found
pub record Ask : Type 0 where
  pub page : ℕ
  pub place : ℕ
  pub found : ℕ

-- how a page was laid out when a seat last won a chunk of it, or partitioned it anew
pub record Sight : Type 0 where
  pub page : ℕ
  pub layout : ℕ
  pub generation : ℕ

-- What a user's seat has done: its claims, the chunks that it completed, and the pages that it partitioned anew, each in their order, and how
-- it saw pages laid out, the newest first; and what it has claimed and holds. A chunk is named by the number of its place.
pub record UserView : Type 0 where
  pub asked : List Ask
  pub claimed : List ℕ
  pub held : List ℕ
  pub sights : List Sight
  pub completed : List ℕ
  pub retiled : List ℕ

-- a user that has done nothing
abbrev pub newcomer : UserView
newcomer = record { asked = []; claimed = []; held = []; sights = []; completed = []; retiled = [] }

-- how a seat last saw a page laid out: the layout, and how often the page had been partitioned anew
abbrev pub seen_in : ℕ → List Sight → ℕ × ℕ
seen_in page [] = (0, 0)
seen_in page (sight ∷ sights) = if sight.page == page then (sight.layout, sight.generation) else seen_in page sights

-- a look of the collector, with the page word that it found
pub record Look : Type 0 where
  pub page : ℕ
  pub place : ℕ
  pub found : ℕ

-- what a user told: the chunks that it had completed
pub record Tale : Type 0 where
  pub user : ℕ
  pub completed : List ℕ

-- What the collector's seat has done: its looks and the chunks that it took, in their order, and what users told, the newest first; and the
-- chunks that it took and hasn't given back.
pub record CollectView : Type 0 where
  pub looks : List Look
  pub taken : List ℕ
  pub reading : List ℕ
  pub told : List Tale

-- a collector that has done nothing
abbrev pub new_collector : CollectView
new_collector = record { looks = []; taken = []; reading = []; told = [] }

-- what a user told last
abbrev pub told_by : ℕ → List Tale → List ℕ
told_by user [] = []
told_by user (tale ∷ tales) = if tale.user == user then tale.completed else told_by user tales

-- what the collector found at one step and relies on at the next one: the chunk at this place is complete
pub data Watch : Type 0 where
  Nothing : Watch
  Full : (page place : ℕ) → Watch

-- What a seat knows.
pub data Knows : Type 0 where
  -- a seat that another one took in
  Spent : Knows
  User : (number : ℕ) → UserView → Knows
  -- the collector's, which made so many seats of users, and has the views of those that came back
  Collector : (made : ℕ) → List UserView → Watch → CollectView → Knows
  -- that of a tale on its way to the collector: what the user had completed
  Report : (number : ℕ) → List ℕ → Knows

-- the view of a user's seat
abbrev pub view_of : Knows → UserView
view_of (User number view) = view
view_of _ = newcomer

-- the number of a user's seat
abbrev pub number_of : Knows → ℕ
number_of (User number view) = number
number_of _ = 0

-- the view of the collector's seat
abbrev pub collector_of : Knows → CollectView
collector_of (Collector made joined watch view) = view
collector_of _ = new_collector

-- how many seats of users the collector made
abbrev pub made_of : Knows → ℕ
made_of (Collector made joined watch view) = made
made_of _ = 0

-- the views of the seats that came back
abbrev pub joined_of : Knows → List UserView
joined_of (Collector made joined watch view) = joined
joined_of _ = []

-- what the collector's seat watches
abbrev pub watch_of : Knows → Watch
watch_of (Collector made joined watch view) = watch
watch_of _ = Nothing

-- ---- steps of a user

-- a claim that found this page word; where it won, the user has the chunk, and has seen how the page is laid out
abbrev pub claims : UserView → (page place found : ℕ) → (won : Bool) → UserView
claims view page place found true = record view {
  asked = view.asked ++ record { page = page; place = place; found = found } ∷ [];
  claimed = view.claimed ++ spot page place ∷ [];
  sights = record { page = page; layout = layout_in found; generation = generation_in found } ∷ view.sights;
}
claims view page place found false = record view { asked = view.asked ++ record { page = page; place = place; found = found } ∷ [] }

-- a chunk that was claimed is held
abbrev pub begins : UserView → ℕ → UserView
begins view at = record view { claimed = without at view.claimed; held = view.held ++ at ∷ [] }

-- a chunk that was held is completed
abbrev pub completes : UserView → ℕ → UserView
completes view at = record view { held = without at view.held; completed = view.completed ++ at ∷ [] }

-- a chunk that was claimed is given back
abbrev pub gives : UserView → ℕ → UserView
gives view at = record view { claimed = without at view.claimed }

-- the number is that of a place of the page
abbrev pub is_of : ℕ → ℕ → Bool
is_of page at = nat_le (14 * page) at && nat_lt at (14 * page + 14)

-- the places of other pages
abbrev pub elsewhere : ℕ → List ℕ → List ℕ
elsewhere page [] = []
elsewhere page (at ∷ spots) = if is_of page at then elsewhere page spots else at ∷ elsewhere page spots

-- the first places of a page
abbrev pub first_spots : ℕ → ℕ → List ℕ
first_spots page zero = []
first_spots page (suc n) = first_spots page n ++ spot page n ∷ []

-- the page is partitioned anew, into so many chunks, which the user has claimed
abbrev pub retiles : UserView → (page layout chunks generation : ℕ) → UserView
retiles view page layout chunks generation = record view {
  claimed = elsewhere page view.claimed ++ first_spots page chunks;
  sights = record { page = page; layout = layout; generation = generation } ∷ view.sights;
  retiled = view.retiled ++ page ∷ [];
}

-- ---- steps of the collector

-- a look that found this page word
abbrev pub looks_at : CollectView → (page place found : ℕ) → CollectView
looks_at view page place found = record view { looks = view.looks ++ record { page = page; place = place; found = found } ∷ [] }

-- a complete chunk is taken
abbrev pub takes_in : CollectView → ℕ → CollectView
takes_in view at = record view { taken = view.taken ++ at ∷ []; reading = view.reading ++ at ∷ [] }

-- a chunk that was taken is given back
abbrev pub lets_go : CollectView → ℕ → CollectView
lets_go view at = record view { reading = without at view.reading }

-- a user told what it had completed
abbrev pub hears : CollectView → (user : ℕ) → List ℕ → CollectView
hears view user completed = record view { told = record { user = user; completed = completed } ∷ view.told }

-- ---- seats are made, joined and cut

-- a user's seat with another view
abbrev pub by_user : (UserView → UserView) → Knows → Knows
by_user step knows = User (number_of knows) (step (view_of knows))

-- the collector's seat with another watch and view
abbrev pub by_collector : Watch → (CollectView → CollectView) → Knows → Knows
by_collector watch step knows = Collector (made_of knows) (joined_of knows) watch (step (collector_of knows))

-- the collector has made one seat more
abbrev pub one_more : Knows → Knows
one_more (Collector made joined watch view) = Collector (made + 1) joined watch view
one_more knows = knows

-- the seat that it makes next
abbrev pub next_user : Knows → Knows
next_user (Collector made joined watch view) = User made newcomer
next_user knows = Spent

-- the collector has taken in the seat of a user
abbrev pub takes_seat : Knows → Knows → Knows
takes_seat (Collector made joined watch view) (User number known) = Collector made (joined ++ known ∷ []) watch view
takes_seat knows _ = knows

-- a seat stays as it is
abbrev pub same : Knows → Knows
same knows = knows

-- a user tells what it has completed
abbrev pub tells : Knows → Knows
tells knows = Report (number_of knows) (view_of knows).completed

-- the collector has heard it
abbrev pub heard : Knows → Knows → Knows
heard (Collector made joined watch view) (Report number completed) = Collector made joined watch (hears view number completed)
heard knows _ = knows
