-- From the seats of a table to the world that it tells: what a step leaves of views it leaves of the world's rows.
use Rattle.std.proofs.Common.{◌≡◌, ◌≢◌, ◌∙◌, ℕ, ◌<◌, ◌≤◌, List, ◌++◌, inl, inr, refl, sym, ap, subst, length, Some}
use Rattle.std.proofs.lemmas.Bool.{cases_eq, cases_lt}
use Rattle.std.proofs.lemmas.List.{get_or_past}
use Rattle.chunk_plain.specs.Views.{Ask, WriterView, newcomer}
use Rattle.chunk_plain.specs.Meaning.{Meaning, IsWriterStep}
use Rattle.chunk_plain.specs.World.{World, writer}
use Rattle.chunk_plain.specs.Owned.{IsOwned}
use Rattle.trace_writer.specs.Helping.{LeavesWriters}
use Rattle.replay_model.specs.Does.{LeavesRest}

-- what the laws of a table say of the world that it tells
pub record AreLaws {T W S : Type 0} (means : Meaning T W S) : Type 0 where
  pub told_view : (table : T) (seat : W) (world : World) → means.told table ≡ Some world → means.sits table seat → means.view table seat ≡ writer world (means.place seat)
  pub told_service_view : (table : T) (seat : S) (world : World) → means.told table ≡ Some world → means.serves table seat → means.service_view table seat ≡ world.service
  pub told_writers : (table : T) (world : World) → means.told table ≡ Some world → length world.writers ≡ length (means.setup table).writers
  pub told_owned : (table : T) (world : World) → means.told table ≡ Some world → ∥ IsOwned world ∥₁

-- a seat of the writer at this place
pub record HasSeat {T W S : Type 0} (means : Meaning T W S) (table : T) (place : ℕ) : Type 0 where
  pub seat : W
  pub sits : means.sits table seat
  pub place_is : means.place seat ≡ place

-- each writer of the table has a seat
abbrev pub AllSit : {T W S : Type 0} → Meaning T W S → T → Type 0
AllSit means table = (place : ℕ) → place < length (means.setup table).writers → HasSeat means table place

-- a row of the world is the view of the seat of its place
pub row_is : {T W S : Type 0} (means : Meaning T W S) → AreLaws means → (table : T) (world : World) → means.told table ≡ Some world
    → (place : ℕ) (seat : W) → means.sits table seat → means.place seat ≡ place → writer world place ≡ means.view table seat
row_is means laws table world told place seat sits at =
    ap (λ (p : ℕ). writer world p) (sym at) ∙ sym (laws.told_view table seat world told sits)

-- a row beyond the writers is a newcomer's
row_beyond : {T W S : Type 0} (means : Meaning T W S) → AreLaws means → (table : T) (world : World) → means.told table ≡ Some world
    → (place : ℕ) → length (means.setup table).writers ≤ place → writer world place ≡ newcomer
row_beyond means laws table world told place beyond =
    get_or_past world.writers place newcomer (subst (λ (n : ℕ). n ≤ place) (sym (laws.told_writers table world told)) beyond)

-- a writer's step leaves the seats of all writers
pub sit_after : {T W S : Type 0} (means : Meaning T W S) (old : T) (seat : W) (new : T) (after : W) → IsWriterStep means old seat new after
    → AllSit means old → AllSit means new
sit_after means old seat new after step sit place below =
    let inside : place < length (means.setup old).writers = subst (λ (s : _). place < length s.writers) step.setup_stays below in
    let one = sit place inside in
    elim (cases_eq (means.place one.seat) (means.place seat)) [
      | inl same ↦ record { seat = after; sits = step.seat_stays; place_is = step.place_stays ∙ sym same ∙ one.place_is }
      | inr other ↦ record { seat = one.seat; sits = (step.writers_stay one.seat one.sits other).0; place_is = one.place_is }
    ]

-- and so does a help
pub sit_helped : {T W S : Type 0} (means : Meaning T W S) (old new : T) → LeavesWriters means old new → AllSit means old → AllSit means new
sit_helped means old new leaves sit place below =
    let inside : place < length (means.setup old).writers = subst (λ (s : _). place < length s.writers) leaves.setup_stays below in
    let one = sit place inside in
    record { seat = one.seat; sits = (leaves.writers_stay one.seat one.sits).0; place_is = one.place_is }

-- claims were added, and none taken back
pub record AsksMore (old new : WriterView) : Type 0 where
  pub more : List Ask
  pub asked : new.asked ≡ old.asked ++ more

-- In the world that is told, a writer's step leaves the rows of all others, and the service; what it adds to its claims it adds there.
pub own_step : {T W S : Type 0} (means : Meaning T W S) → AreLaws means → (old : T) (seat : W) (new : T) (after : W) (server : S)
    → IsWriterStep means old seat new after → means.sits old seat → AsksMore (means.view old seat) (means.view new after)
    → AllSit means old → means.serves old server
    → (was is : World) → means.told old ≡ Some was → means.told new ≡ Some is → LeavesRest (means.place seat) was is
own_step means laws old seat new after server step sits claims sit serves was is told_old told_new = record {
  writers = rows;
  service = served;
  more = claims.more;
  asked = ap (λ (v : WriterView). v.asked) (row_is means laws new is told_new (means.place seat) after step.seat_stays step.place_stays) ∙ claims.asked
      ∙ ap (λ (v : WriterView). v.asked ++ claims.more) (sym (row_is means laws old was told_old (means.place seat) seat sits refl));
}
  where
    rows : (other : ℕ) → other ≢ means.place seat → writer is other ≡ writer was other
    rows other apart = elim (cases_lt other (length (means.setup old).writers)) [
      | inl below ↦
          (let one = sit other below in
          let distinct : means.place one.seat ≢ means.place seat = λ same. apart (sym one.place_is ∙ same) in
          let stays = step.writers_stay one.seat one.sits distinct in
          row_is means laws new is told_new other one.seat stays.0 one.place_is ∙ stays.1 ∙ sym (row_is means laws old was told_old other one.seat one.sits one.place_is))
      | inr beyond ↦
          row_beyond means laws new is told_new other (subst (λ (s : _). length s.writers ≤ other) (sym step.setup_stays) beyond)
          ∙ sym (row_beyond means laws old was told_old other beyond)
    ]

    served : is.service ≡ was.service
    served = let stays = step.service_stays server serves in
        sym (laws.told_service_view new server is told_new stays.0) ∙ stays.1 ∙ laws.told_service_view old server was told_old serves
