-- A step of a writer's own is one on the same table, since a seat of the service would stay there: so a helper may be asked behind it as
-- before.
use Rattle.std.proofs.Common.{◌≡◌, [], length, subst, sym, refl}
use Rattle.atomic_table.specs.Seated.{TableId}
use Rattle.chunk_plain.specs.Meaning.{IsWriterStep}
use Rattle.chunk_plain.specs.Plain.{first_world}
use Rattle.chunk_plain.proofs.MadeLemmas.{first_owned, first_serves}
use Rattle.chunk_words.specs.declared.host.HostTable.{HostTable}
use Rattle.chunk_words.specs.declared.shared.Shared.{Shared}
use Rattle.chunk_words.specs.declared.seats.ServiceSeat.{ServiceSeat}
use Rattle.chunk_words.specs.declared.seats.WriterSeat.{WriterSeat}
use Rattle.chunk_words.specs.contracts.shared.SharedWords.TheImpl.{ghosts as shared}
use Rattle.chunk_words.specs.Knows.{Nothing, Service, first_desk}
use Rattle.chunk_words.specs.Sits.{Attends}
use Rattle.thread_writer.specs.declared.helper.Asks.{Asks}
use Rattle.chunk_words.specs.Named.{identity_of}
use Rattle.thread_writer.specs.Asking.{MayAsk}

-- a seat of the service as the table was made with it
abbrev a_service : HostTable → WriterSeat → ServiceSeat
a_service table seat = record {
  seat = record seat.seat {
    table_id = identity_of table;
    me = (Service 0 (length table.layout.writers) first_desk Nothing (first_world table.layout).service, []);
  };
}

attends_there : (table : HostTable) (seat : WriterSeat) → Attends table (a_service table seat)
attends_there table seat = record {
  joined = refl;
  waits = record {
    idle = refl;
    serving = first_serves table.layout;
    seen = ∣ (first_world table.layout, first_owned table.layout, refl) ∣₁;
    all_made = refl;
    none_joined = refl;
  };
}

-- a step of a writer's own leaves the lent table the same one
pub step_stays : (old new : Shared) (seat after : WriterSeat) → IsWriterStep shared.means old seat new after
    → identity_of new.table.now ≡ identity_of old.table.now
step_stays old new seat after step = sym (step.service_stays (a_service old.table.now seat) (attends_there old.table.now seat)).0.joined

-- and a helper may be asked behind it as before
pub still_asks : {H : Type 0} (of_table : H → TableId → Type 0) (asks : Asks H) (old new : Shared) (seat after : WriterSeat)
    → IsWriterStep shared.means old seat new after → MayAsk of_table asks old → MayAsk of_table asks new
still_asks of_table asks old new seat after step may = subst (of_table asks.help) (sym (step_stays old new seat after step)) may
