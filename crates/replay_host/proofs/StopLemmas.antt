-- Where acts stop that come behind others, and in front of others.
use Rattle.std.proofs.Common.{◌≡◌, ◌∙◌, ℕ, List, [], ◌∷◌, ◌++◌, refl, sym, ap, subst, append_assoc}
use Rattle.std.specs.Prelude.{Some}
use Rattle.std.proofs.lemmas.List.{map-append}
use Rattle.byte_io.specs.Bytes.{Intake, after_told}
use Rattle.trace_model.specs.Buffers.{Buffer}
use Rattle.trace_model.specs.Calls.{Call}
use Rattle.trace_model.specs.Delivery.{trace_of}
use Rattle.trace_model.specs.History.{records_after}
use Rattle.chunk_plain.specs.Histories.{history_of}
use Rattle.chunk_plain.specs.Meaning.{Meaning}
use Rattle.chunk_plain.specs.Setup.{Setup}
use Rattle.chunk_plain.specs.Steps.{serviced}
use Rattle.chunk_plain.specs.Views.{ServiceView}
use Rattle.chunk_plain.specs.World.{World}
use Rattle.service_core.specs.Agreement.{first_of}
use Rattle.service_core.proofs.AgreeLemmas.{first_stays}
use Rattle.replay_model.specs.Acts.{Act, Ask, ReadAll, asks}
use Rattle.replay_model.specs.Does.{Reads}
use Rattle.replay_model.specs.ActNotes.{ActNote}
use Rattle.replay_model.specs.Plays.{Plays}
use Rattle.replay_model.proofs.PlayLemmas.{plays_both}
use Rattle.replay_host.specs.declared.fault.HostFault.{HostFault}
use Rattle.replay_host.specs.declared.host.Host.{Host}
use Rattle.replay_host.specs.Playing.{IsHost, IsTraceOf, HasAsked, HasDone}
use Rattle.replay_host.specs.Stopping.{FailsReading, Halts, Stalls, StallsIn, StopsAt, StopsIn, TakesRecords, with_reads}
use Rattle.replay_host.proofs.RowLemmas.{AreLaws}
use Rattle.replay_host.proofs.ServedLemmas.{quiet_writes}

-- acts that stop do so in front of others
pub stopped_more : {T W S : Type 0} (means : Meaning T W S) (acts more : List Act) (old : Host T W S) (taken : Intake) (fault : HostFault)
    (left : Intake)
    → StopsIn means acts old taken fault left → StopsIn means (acts ++ more) old taken fault left
stopped_more means acts more old taken fault left stops was told start traced =
    let at = stops was told start traced in
    record {
      done = at.done;
      act = at.act;
      rest = at.rest ++ more;
      cut = ap (λ (all : List Act). all ++ more) at.cut ∙ append_assoc at.done (at.act ∷ at.rest) more;
      notes = at.notes;
      world = at.world;
      plays = at.plays;
      records = at.records;
      halts = at.halts;
      takes = at.takes;
    }

-- acts that stop do so behind others that were done
pub stopped_later : {T W S : Type 0} (means : Meaning T W S) (acts others : List Act) (notes : List ActNote) (old mid : Host T W S)
    (taken between : Intake) (fault : HostFault) (left : Intake)
    → HasDone means acts notes old taken mid between → StopsIn means others mid between fault left
    → StopsIn means (acts ++ others) old taken fault left
stopped_later {T} {W} {S} means acts others notes old mid taken between fault left done stops was told start traced = record {
  done = acts ++ at.done;
  act = at.act;
  rest = at.rest;
  cut = ap (λ (all : List Act). acts ++ all) at.cut ∙ sym (append_assoc acts at.done (at.act ∷ at.rest));
  notes = notes ++ at.notes;
  world = at.world;
  plays = plays_both (means.setup old.table) (first_of (means.setup old.table) old.helper.service) acts at.done was middle.0 at.world
      notes at.notes middle.2 at.plays;
  records = at.records;
  halts = at.halts;
  takes = at.takes;
}
  where
    middle : (is : World) × (means.told mid.table ≡ Some is)
        × Plays (means.setup old.table) (first_of (means.setup old.table) old.helper.service) acts was is notes
    middle = done.plays was told

    first_is : first_of (means.setup mid.table) mid.helper.service ≡ first_of (means.setup old.table) old.helper.service
    first_is = ap (λ (s : Setup). first_of s mid.helper.service) done.setup_is ∙ done.first

    traced_still : IsTraceOf start (first_of (means.setup mid.table) mid.helper.service)
        (means.service_view mid.table mid.helper.service.seat) between
    traced_still = subst (λ (buffers : List Buffer). IsTraceOf start buffers (means.service_view mid.table mid.helper.service.seat)
        between) (sym first_is)
        (done.writes start traced)

    at : StopsAt (means.setup old.table) (first_of (means.setup old.table) old.helper.service) others middle.0 fault start left
    at = subst (λ (buffers : List Buffer). StopsAt (means.setup old.table) buffers others middle.0 fault start left) first_is
        (subst (λ (s : Setup). StopsAt s (first_of (means.setup mid.table) mid.helper.service) others middle.0 fault start left)
        done.setup_is
        (stops middle.0 middle.1 start traced_still))

-- what a writer was asked for, as acts that were done: the sink has taken the trace still
pub asked_done : {T W S : Type 0} (means : Meaning T W S) (place : ℕ) (calls : List Call) (old new : Host T W S)
    → HasAsked means place calls old new
    → (taken : Intake) → HasDone means (asks place calls) [] old taken new taken
asked_done means place calls old new asked taken = record {
  setup_is = asked.service.setup_is;
  first = first_stays (means.setup old.table) old.helper.service new.helper.service asked.service.keeps.fields;
  plays = asked.plays (first_of (means.setup old.table) old.helper.service);
  writes = λ start is. quiet_writes start taken (first_of (means.setup old.table) old.helper.service)
      (means.service_view old.table old.helper.service.seat) (means.service_view new.table new.helper.service.seat)
      (asked.service.quiet (first_of (means.setup old.table) old.helper.service)) is;
}

-- acts that stop do so behind calls that a writer was asked for
pub stopped_asked : {T W S : Type 0} (means : Meaning T W S) (place : ℕ) (calls : List Call) (others : List Act) (old mid : Host T W S)
    (taken : Intake) (fault : HostFault) (left : Intake)
    → HasAsked means place calls old mid → StopsIn means others mid taken fault left
    → StopsIn means (asks place calls ++ others) old taken fault left
stopped_asked means place calls others old mid taken fault left asked stops =
    stopped_later means (asks place calls) others [] old mid taken taken fault left (asked_done means place calls old mid asked taken) stops

-- the act stops in which a writer stalled
pub stopped_one : {T W S : Type 0} (means : Meaning T W S) → AreLaws means
    → (place : ℕ) (call : Call) (old new : Host T W S) (fault : HostFault)
    → IsHost means old → Stalls means place call old new fault → (taken : Intake) → StopsIn means (Ask place call ∷ []) old taken fault taken
stopped_one {T} {W} {S} means laws place call old new fault host stalled taken was told start traced = record {
  done = [];
  act = Ask place call;
  rest = [];
  cut = refl;
  notes = [];
  world = was;
  plays = (refl, refl);
  records = records_after buffers (history_of was.service);
  halts = subst (λ (f : HostFault). Halts (means.setup old.table) buffers (Ask place call) was f (records_after buffers (history_of was.service)))
      (sym stalled.fault_is) (refl, last.0, last.2, sym quiet, refl);
  takes = subst (λ (f : HostFault). TakesRecords f start taken (records_after buffers (history_of was.service))) (sym stalled.fault_is)
      (traced ∙ ap (λ (v : ServiceView). after_told start (trace_of (records_after buffers (history_of v)))) before);
}
  where
    buffers : List Buffer
    buffers = first_of (means.setup old.table) old.helper.service

    last : (is : World) × (means.told new.table ≡ Some is) × StallsIn (means.setup old.table) place call was is
    last = stalled.told was told

    before : means.service_view old.table old.helper.service.seat ≡ was.service
    before = laws.told_service_view old.table old.helper.service.seat was told host.stands.served.serves

    quiet : records_after buffers (history_of last.0.service) ≡ records_after buffers (history_of was.service)
    quiet =
        sym (ap (λ (v : ServiceView). records_after buffers (history_of v))
        (laws.told_service_view new.table new.helper.service.seat last.0 last.1 stalled.serves))
        ∙ stalled.service.quiet buffers
        ∙ ap (λ (v : ServiceView). records_after buffers (history_of v)) before

-- the read stops in which a write failed
pub stopped_read : {T W S : Type 0} (means : Meaning T W S) → AreLaws means
    → (number limit : ℕ) (old new : Host T W S) (taken left : Intake) (fault : HostFault)
    → IsHost means old → FailsReading means number limit old taken new left fault → StopsIn means (ReadAll number limit ∷ []) old taken fault left
stopped_read {T} {W} {S} means laws number limit old new taken left fault host fails was told start traced = record {
  done = [];
  act = ReadAll number limit;
  rest = [];
  cut = refl;
  notes = [];
  world = was;
  plays = (refl, refl);
  records = records_after buffers (history_of view);
  halts = subst (λ (f : HostFault). Halts setup buffers (ReadAll number limit) was f (records_after buffers (history_of view)))
      (sym fails.fault_is) (serviced was view, does, refl);
  takes = subst (λ (f : HostFault). TakesRecords f start left (records_after buffers (history_of view))) (sym fails.fault_is)
      (fails.part start traced);
}
  where
    setup : Setup
    setup = means.setup old.table

    buffers : List Buffer
    buffers = first_of setup old.helper.service

    view : ServiceView
    view = with_reads setup buffers number limit (means.service_view old.table old.helper.service.seat)

    does : Reads setup buffers number limit was (serviced was view)
    does = record {
      writers = refl;
      notes = ap (with_reads setup buffers number limit)
          (laws.told_service_view old.table old.helper.service.seat was told host.stands.served.serves);
    }

-- calls stop so behind others that a writer was asked for, and in front of others
pub stopped_calls : {T W S : Type 0} (means : Meaning T W S) (place : ℕ) (before calls more : List Call) (old mid : Host T W S)
    (taken : Intake) (fault : HostFault) (left : Intake)
    → HasAsked means place before old mid → StopsIn means (asks place calls) mid taken fault left
    → StopsIn means (asks place ((before ++ calls) ++ more)) old taken fault left
stopped_calls means place before calls more old mid taken fault left asked stops =
    subst (λ (acts : List Act). StopsIn means acts old taken fault left)
    (sym (map-append (Ask place) (before ++ calls) more ∙ ap (λ (acts : List Act). acts ++ asks place more)
    (map-append (Ask place) before calls)))
    (stopped_more means (asks place before ++ asks place calls) (asks place more) old taken fault left
    (stopped_asked means place before (asks place calls) old mid taken fault left asked stops))
