-- What a seat of a table that threads share knows: a view, and what it does with it in the middle of a call.
use Rattle.std.specs.Prelude.{ℕ, ◌+◌, ◌-◌, ◌==◌, ◌++◌, ◌∷◌, List, [], length, if◌then◌else◌}
use Rattle.chunk_plain.specs.Views.{Content, BegunChunk, WriterView, newcomer, asked_in, ServiceView, newcomer_service}
use Rattle.chunk_plain.specs.Letters.{last_flush, knows_request}
use Rattle.chunk_plain.specs.World.{World}

-- What the service found at one step of a call and relies on at the next one.
pub data Watch : Type 0 where
  Nothing : Watch
  -- this page word was found, and what it said of the chunk is so still
  Peeked : (chunk word : ℕ) → Watch
  -- by this page word the chunk was found complete, and it is, with this header word
  Known : (chunk word header : ℕ) → Watch
  -- it is being read, of this writer and at this position, with this content
  Lifted : (chunk place position : ℕ) → Content → Watch

-- The reading pass of a table: it isn't made, or it is with whoever reads, or the service's seat has it in the midst of a call, with this
-- view.
pub data Stage : Type 0 where
  Unmade : Stage
  Away : Stage
  Here : ServiceView → Stage

-- What a writer told the service: what it had begun, and the number in its last answer to a flush request, 0 without one. The service had
-- looked so often by then.
pub record Tale : Type 0 where
  pub place : ℕ
  pub looks : ℕ
  pub begun : List BegunChunk
  pub flush : ℕ

-- What the service's seat has of the other seats: the views of the writers' that it took in again, where the reading pass is, what
-- writers told it, and the worlds of the table that it marked, in their order.
pub record Desk : Type 0 where
  pub joined : List WriterView
  pub stage : Stage
  pub told : List Tale
  pub marks : List World

-- no seat came back, no pass was made, nothing was told, and nothing is marked
abbrev pub first_desk : Desk
first_desk = record { joined = []; stage = Unmade; told = []; marks = [] }

-- What a seat knows. The hand says whose slot is out with the seat: 0 for none, else the chunk's number and 1. A later kind of seat is one
-- case more.
pub data Knows : Type 0 where
  -- a seat that another one took in
  Spent : Knows
  Writer : (place hand : ℕ) → WriterView → Knows
  -- the service's, which made the writers' seats, so many by now
  Service : (hand made : ℕ) → Desk → Watch → ServiceView → Knows
  -- the reading pass's, which knows what the service knew when its last read was noted
  Pass : ServiceView → Knows
  -- that of a tale on its way to the service: what the writer at this place had begun, and the number in its last answer
  Report : (place : ℕ) → List BegunChunk → (flush : ℕ) → Knows
  -- that of a notice on its way to a writer: so many flush requests were made
  Notice : (requests : ℕ) → Knows

-- the hand that has the slot of a chunk
abbrev pub hand_with : ℕ → ℕ
hand_with chunk = chunk + 1

-- a content of nothing
abbrev pub no_content : Content
no_content = record { image = record { sequence = 0; chunk_id = 0; count = 0; flags = 0; payload = [] }; patches = []; target = 0 }

-- the view of a writer's seat
abbrev pub view_of : Knows → WriterView
view_of (Writer place hand view) = view
view_of _ = newcomer

-- the writer's place in the set-up, of its seat
abbrev pub place_of : Knows → ℕ
place_of (Writer place hand view) = place
place_of _ = 0

-- the view of the service's seat
abbrev pub service_of : Knows → ServiceView
service_of (Service hand made desk watch view) = view
service_of _ = newcomer_service

-- what the service's seat watches
abbrev pub watch_of : Knows → Watch
watch_of (Service hand made desk watch view) = watch
watch_of _ = Nothing

-- whose slot is out with a seat: 0 for none, else the chunk's number and 1
abbrev pub hand_of : Knows → ℕ
hand_of (Writer place hand view) = hand
hand_of (Service hand made desk watch view) = hand
hand_of _ = 0

-- how many seats of writers the service has made
abbrev pub made_of : Knows → ℕ
made_of (Service hand made desk watch view) = made
made_of _ = 0

-- what the service's seat has of the other seats
abbrev pub desk_of : Knows → Desk
desk_of (Service hand made desk watch view) = desk
desk_of _ = first_desk

-- the views of the seats that it took in
abbrev pub joined_of : Knows → List WriterView
joined_of knows = (desk_of knows).joined

-- where the reading pass is
abbrev pub stage_of : Knows → Stage
stage_of knows = (desk_of knows).stage

-- the view of the reading pass
abbrev pub passed_of : Knows → ServiceView
passed_of (Pass view) = view
passed_of _ = newcomer_service

-- a writer's seat with another hand and view
abbrev pub by_writer : ℕ → (WriterView → WriterView) → Knows → Knows
by_writer hand step knows = Writer (place_of knows) hand (step (view_of knows))

-- the service's seat with another hand, watch and view
abbrev pub by_service : ℕ → Watch → (ServiceView → ServiceView) → Knows → Knows
by_service hand watch step knows = Service hand (made_of knows) (desk_of knows) watch (step (service_of knows))

-- the service has made one seat more
abbrev pub one_more : Knows → Knows
one_more (Service hand made desk watch view) = Service hand (made + 1) desk watch view
one_more knows = knows

-- the seat that it makes next
abbrev pub next_writer : Knows → Knows
next_writer (Service hand made desk watch view) = Writer made 0 newcomer
next_writer knows = Spent

-- the view of a writer's seat that came back
abbrev pub with_view : Desk → WriterView → Desk
with_view desk view = record desk { joined = desk.joined ++ view ∷ [] }

-- the views of the seats that came back are these
abbrev pub with_views : Desk → List WriterView → Desk
with_views desk views = record desk { joined = views }

-- the reading pass is somewhere else
abbrev pub with_stage : Desk → Stage → Desk
with_stage desk stage = record desk { stage = stage }

-- the service has heard so much of the writer at this place
abbrev pub with_tale : Desk → ServiceView → (place : ℕ) → List BegunChunk → (flush : ℕ) → Desk
with_tale desk view place begun flush =
    record desk { told = desk.told ++ record { place = place; looks = length view.looks; begun = begun; flush = flush } ∷ [] }

-- the service has marked the world that the table has now
abbrev pub with_mark : Desk → World → Desk
with_mark desk world = record desk { marks = desk.marks ++ world ∷ [] }

-- the service has taken in the seat of a writer
abbrev pub takes_seat : Knows → Knows → Knows
takes_seat (Service hand made desk watch view) (Writer place held known) = Service hand made (with_view desk known) watch view
takes_seat knows _ = knows

-- the service has given the reading pass away
abbrev pub without_pass : Knows → Knows
without_pass (Service hand made desk watch view) = Service hand made (with_stage desk Away) watch view
without_pass knows = knows

-- the reading pass as it is made: it knows what the service knows
abbrev pub new_pass : Knows → Knows
new_pass knows = Pass (service_of knows)

-- the reading pass that the service has
abbrev pub staged : Stage → ServiceView
staged (Here view) = view
staged _ = newcomer_service

-- the reading pass's seat as the service gives it back
abbrev pub own_pass : Knows → Knows
own_pass knows = Pass (staged (stage_of knows))

-- a seat leaves all that it knows to a new one
abbrev pub left_over : Knows → Knows
left_over knows = Spent

-- what the new seat knows then
abbrev pub handed_on : Knows → Knows
handed_on knows = knows

-- the service has taken in the reading pass
abbrev pub takes_pass : Knows → Knows → Knows
takes_pass (Service hand made desk watch view) (Pass known) = Service hand made (with_stage desk (Here known)) watch view
takes_pass knows _ = knows

-- a writer tells what it has begun, and the number in its last answer
abbrev pub tells : Knows → Knows
tells knows = Report (place_of knows) (view_of knows).begun (last_flush (view_of knows).letters.answers)

-- the service has heard it
abbrev pub hears : Knows → Knows → Knows
hears (Service hand made desk watch view) (Report place begun flush) = Service hand made (with_tale desk view place begun flush) watch view
hears knows _ = knows

-- the reading pass says how many requests were made
abbrev pub notice_of : Knows → Knows
notice_of knows = Notice (asked_in (passed_of knows).letters)

-- the greater of two
abbrev pub later : ℕ → ℕ → ℕ
later a b = a + (b - a)

-- a writer has heard it
abbrev pub hears_notice : Knows → Knows → Knows
hears_notice (Writer place hand view) (Notice requests) = Writer place hand (knows_request view (later view.letters.known requests))
hears_notice knows _ = knows

-- a function that differs at one place
abbrev pub put : (ℕ → ℕ) → ℕ → ℕ → ℕ → ℕ
put f place value other = if other == place then value else f other
