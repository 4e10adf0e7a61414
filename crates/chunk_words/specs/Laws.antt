-- What the rule of a table that threads share says, part by part: ownership in the words of a page word, a header word, payload words and
-- views, between any two steps of any seats. And what the looks show of what writers told.
use Rattle.std.specs.Prelude.{◌≡◌, ℕ, ◌<◌, ◌≤◌, Option, List, length}
use Rattle.atomic_table.specs.Table.{State}
use Rattle.commit_body.specs.declared.body.CommitBody.{CommitBody}
use Rattle.chunk_plain.specs.Setup.{Setup}
use Rattle.chunk_plain.specs.Views.{At, Content, Completed, WriterView, ServiceView}
use Rattle.chunk_plain.specs.World.{World, writer}
use Rattle.chunk_plain.specs.Stored.{Stored}
use Rattle.chunk_plain.specs.Ownership.{Ownership}
use Rattle.chunk_plain.specs.Plain.{first_world}
use Rattle.chunk_schedules.specs.Schedules.{Leads}
use Rattle.chunk_words.specs.Knows.{Watch, Tale, Desk, Knows, Writer, Service, Pass}
use Rattle.chunk_words.specs.GoesOn.{GoesOn}
use Rattle.chunk_words.specs.Told.{ShowsTold, PassesOver}
use Rattle.chunk_words.specs.Rule.{HoldsWords, HoldsMail, Roll, HoldsBodies, IsShared}

-- The table's words are those of chunks in a world that is owned in its eight parts and to which some schedule leads, and each writer and the service have one seat at most,
-- whose view is that world's; and so has the reading pass.
pub record SharedOwnership (setup : Setup) (state : State (Option CommitBody) Knows) : Type 0 where
  pub world : World
  -- the page and header words, and the payload words and the body of each chunk
  pub front : List ℕ
  pub slots : List Stored
  pub roll : Roll
  pub words : HoldsWords setup state.words front slots
  -- the word of flush requests and those of the answers say what was asked and answered
  pub mail : HoldsMail setup world state.words
  pub bodies : HoldsBodies setup state.homes slots roll
  pub parts : Ownership setup front slots world
  -- some schedule of steps leads to the world from a table as it is made
  pub reached : Leads setup (first_world setup) world
  pub writers : (seat place hand : ℕ) (view : WriterView) → At state.views seat (Writer place hand view) → view ≡ writer world place
  pub one_seat : (seat other place hand held : ℕ) (view known : WriterView) → At state.views seat (Writer place hand view)
      → At state.views other (Writer place held known) → seat ≡ other
  pub service : (seat hand made : ℕ) (desk : Desk) (watch : Watch) (view : ServiceView)
      → At state.views seat (Service hand made desk watch view) → view ≡ world.service
  pub one_service : (seat other hand held made more : ℕ) (desk other_desk : Desk) (watch watched : Watch) (view known : ServiceView)
      → At state.views seat (Service hand made desk watch view) → At state.views other (Service held more other_desk watched known)
      → seat ≡ other
  -- the service's view goes on from that of the reading pass, without a read
  pub pass : (seat : ℕ) (view : ServiceView) → At state.views seat (Pass view) → GoesOn view world.service
  pub one_pass : (seat other : ℕ) (view known : ServiceView) → At state.views seat (Pass view) → At state.views other (Pass known)
      → seat ≡ other

-- Each step is allowed by the rule alone, so between any two steps of any number of threads ownership holds.
abbrev pub SharedIsOwnership : Type 0
SharedIsOwnership = (setup : Setup) (state : State (Option CommitBody) Knows) → IsShared setup state → SharedOwnership setup state

-- Where the writer had completed all that it told of, and looks since pass over each chunk that may be the next one, so many were taken as
-- it told of.
abbrev pub ToldIsTaken : Type 0
ToldIsTaken = (setup : Setup) (view : ServiceView) (tale : Tale) (count : ℕ) → ShowsTold setup view tale
    → ((position : ℕ) → position < length tale.begun → (chunk : ℕ) × (content : Content) × At tale.begun position (Completed chunk content))
    → ((chunk : ℕ) (content : Content) → At tale.begun count (Completed chunk content) → PassesOver setup view tale count chunk)
    → length tale.begun ≤ count
