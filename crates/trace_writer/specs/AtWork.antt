-- What a call of a writer asks of what it works with, and what one leaves that asks for no chunk.
use Rattle.std.specs.Prelude.{◌≡◌, ℕ, ◌<◌, true, false, [], ◌∷◌, ◌++◌, length}
use Rattle.trace_model.specs.Calls.{Call}
use Rattle.chunk_plain.specs.declared.tokens.TheConstants.{POSITION_LIMIT}
use Rattle.chunk_plain.specs.Meaning.{Meaning}
use Rattle.trace_writer.specs.declared.route.Route.{Route}
use Rattle.trace_writer.specs.declared.state.Writer.{Writer}
use Rattle.trace_writer.specs.Agreement.{Agrees}
use Rattle.trace_writer.specs.Empty.{is_stalled}
use Rattle.trace_writer.specs.Moments.{CallMoment}
use Rattle.trace_writer.specs.OwnSteps.{IsQuiet}
use Rattle.trace_writer.specs.Site.{IsRoute}

-- the writer's seat sits at the table, and the writer is as the calls in its view say
pub record IsAtWork {T W S : Type 0} (means : Meaning T W S) (table : T) (seat : W) (writer : Writer) : Type 0 where
  pub seat_sits : means.sits table seat
  pub agrees : Agrees (means.setup table) (means.place seat) (means.view table seat) writer

-- and its helper may be asked
pub record IsReady {H T W S : Type 0} (means : Meaning T W S) (needs : H → T → Type 0) (now : CallMoment H T W) : Type 0 where
  pub at_work : IsAtWork means now.table now.core.seat now.core.writer
  pub needed : needs now.helper now.table

-- The call was noted, and no chunk asked for: the writer is as the calls in its view say then, and writes on this route.
pub record Notes {T W S : Type 0} (means : Meaning T W S) (call : Call) (route : Route) (table : T) (seat : W) (left : T) (after : W) (later : Writer) : Type 0 where
  pub agrees : Agrees (means.setup table) (means.place seat) (means.view left after) later
  pub route_stays : later.route ≡ route
  pub calls : (means.view left after).calls ≡ (means.view table seat).calls ++ call ∷ []
  pub quiet : IsQuiet means table seat left after

-- The same of a writer that may have stalled: then it changes nothing. It is stalled behind the call exactly where it was.
pub record NotesUnlessStalled {T W S : Type 0} (means : Meaning T W S) (call : Call) (table : T) (seat : W) (writer : Writer) (left : T) (after : W) (later : Writer) : Type 0 where
  pub agrees : Agrees (means.setup table) (means.place seat) (means.view left after) later
  pub route_stays : later.route ≡ writer.route
  pub stays : is_stalled writer.state ≡ true → (later ≡ writer) × (left ≡ table) × (after ≡ seat)
  pub goes : is_stalled later.state ≡ is_stalled writer.state
  pub calls : is_stalled writer.state ≡ false → (means.view left after).calls ≡ (means.view table seat).calls ++ call ∷ []
  pub quiet : IsQuiet means table seat left after

-- A chunk may be asked for on this route: it is that of the writer whose seat sits at the table, and the helper may be asked.
pub record MayAsk {H T W S : Type 0} (means : Meaning T W S) (needs : H → T → Type 0) (route : Route) (helper : H) (table : T) (seat : W) : Type 0 where
  pub seat_sits : means.sits table seat
  pub needed : needs helper table
  pub route_is : IsRoute (means.setup table) (means.place seat) route

-- and the next chunk gets this position, which is one that a chunk may have
pub record MayClaim {H T W S : Type 0} (means : Meaning T W S) (needs : H → T → Type 0) (route : Route) (helper : H) (table : T) (seat : W) (position : ℕ) : Type 0 where
  pub asks : MayAsk means needs route helper table seat
  pub position_is : position ≡ length (means.view table seat).begun
  pub position_fits : position < POSITION_LIMIT
