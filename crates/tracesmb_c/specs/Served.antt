-- What the exports of a session say, by what the handles have.
use Rattle.std.specs.Prelude.{◌≡◌, ◌≢◌, ℕ, ◌-◌, ◌≤◌, ◌⊎◌, true, false, List, [], ◌++◌, length, take, drop, Option, Some, None, slice_get}
use Rattle.trace_model.specs.Delivery.{trace_of}
use Rattle.thread_writer.specs.declared.writer.TraceWriter.{TraceWriter}
use Rattle.trace_writer.specs.Core.{in_packet}
use Rattle.tracesmb_c.specs.declared.codes.TheConstants.{OK, BAD_HANDLE, BAD_NUMBER, WRONG_STATE, BUSY}
use Rattle.tracesmb_c.specs.declared.session.OwnedSession.{OwnedSession}
use Rattle.tracesmb_c.specs.declared.writer.OwnedWriter.{OwnedWriter}
use Rattle.tracesmb_c.specs.Lending.{table_of, view_of}
use Rattle.tracesmb_c.specs.Sessions.{session_table, HasGiven, IsLent, IsBack}
use Rattle.tracesmb_c.specs.Unread.{records_due}
use Rattle.tracesmb_c.specs.Waits.{left_in}

-- there is a session, and this is so of it
abbrev pub HasSession : Option OwnedSession → (OwnedSession → Type 0) → Type 0
HasSession None is = ⊥
HasSession (Some session) is = is session

-- there was a session, there is one, and this is so of both
abbrev pub LeadsSession : Option OwnedSession → Option OwnedSession → (OwnedSession → OwnedSession → Type 0) → Type 0
LeadsSession None new relates = ⊥
LeadsSession (Some old) None relates = ⊥
LeadsSession (Some old) (Some new) relates = relates old new

-- the writer with this number is lent out of the session
abbrev pub IsLentBy : (number : ℕ) → Option OwnedSession → Option OwnedSession → Option OwnedWriter → Type 0
IsLentBy number old new None = ⊥
IsLentBy number old new (Some lent) = LeadsSession old new (λ before behind. IsLent number before behind lent)

-- the writer is home again
abbrev pub IsBackIn : Option OwnedWriter → Option OwnedSession → Option OwnedSession → Type 0
IsBackIn None old new = ⊥
IsBackIn (Some lent) old new = LeadsSession old new (IsBack lent)

-- A writer is given back to the session that lent it: both have one table. This is what a program owes.
abbrev pub SameTable : Option OwnedSession → Option OwnedWriter → Type 0
SameTable None writer = Unit {0}
SameTable (Some session) None = Unit {0}
SameTable (Some session) (Some lent) = session_table session ≡ table_of lent

-- the session goes on, and the writer with this number, from 1, is home
pub record MayLend (number : ℕ) (session : OwnedSession) : Type 0 where
  pub goes : session.stopped ≡ false
  pub least : 1 ≤ number
  pub writer : TraceWriter
  pub home : slice_get session.homes.items (number - 1) ≡ Some (Some writer)

-- the session goes on, and the writer isn't in it, and stands between two packets
pub record IsAwayFrom (session : OwnedSession) (lent : OwnedWriter) : Type 0 where
  pub goes : session.stopped ≡ false
  pub away : slice_get session.homes.items (lent.number - 1) ≡ Some None
  pub none_begun : in_packet (view_of lent) ≡ false

-- what a session may take back: a writer that is away from it
abbrev pub MayTakeBack : Option OwnedSession → Option OwnedWriter → Type 0
MayTakeBack None writer = ⊥
MayTakeBack (Some session) None = ⊥
MayTakeBack (Some session) (Some lent) = IsAwayFrom session lent

-- What comes next of the trace was put into the front of the room, so many bytes; what is behind them is as it was. It is none only where
-- none waits and the next reading of the buffer writes no record.
pub record GivesNext (count : ℕ) (before after : List ℕ) (old new : OwnedSession) : Type 0 where
  pub given : (bytes : List ℕ) → HasGiven old bytes → HasGiven new (bytes ++ take count after)
  pub within : count ≤ length after
  pub behind : drop count after ≡ drop count before
  pub whole : (old.torn ≡ false) × (new.torn ≡ false)
  pub some : count ≡ 0 → (left_in old.waiting ≡ []) × (trace_of (records_due old) ≡ [])

-- What a close with room for so many losses answers: before the stop, with the wrong room, while bytes wait, and else.
pub record IsCloseAnswer (code many : ℕ) (session : OwnedSession) : Type 0 where
  pub goes_on : session.stopped ≡ false → code ≡ WRONG_STATE
  pub room : session.stopped ≡ true → many ≢ length session.seats.items → code ≡ BAD_NUMBER
  pub unread : session.stopped ≡ true → many ≡ length session.seats.items → session.torn ≡ false → left_in session.waiting ≢ []
      → code ≡ BUSY
  pub when : session.stopped ≡ true → many ≡ length session.seats.items → (session.torn ≡ true) ⊎ (left_in session.waiting ≡ [])
      → code ≢ OK → code ≢ BAD_HANDLE → code ≡ BUSY
