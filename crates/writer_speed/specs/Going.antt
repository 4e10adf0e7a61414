-- A writer that drops packets and is used with its table, and what its calls leave.
use Rattle.std.specs.Prelude.{◌≡◌}
use Rattle.trace_base.specs.declared.policy.WriterPolicy.TheVariants.{Drops}
use Rattle.chunk_plain.specs.Meaning.{Meaning, IsWriterStep}
use Rattle.trace_writer.specs.declared.writer.WriterCore.{WriterCore}
use Rattle.trace_writer.specs.Core.{CoreAgrees, route_of}

-- the writer sits at the table, agrees with the view of its seat, and drops packets where no chunk is free: so it never stalls
pub record IsReady {T W S : Type 0} (means : Meaning T W S) (table : T) (core : WriterCore W) : Type 0 where
  pub seat : means.sits table core.seat
  pub agrees : CoreAgrees (means.setup table) (means.place core.seat) (means.view table core.seat) core
  pub drops : (route_of core).spec.policy ≡ Drops

-- the writer made steps, and is ready for more
pub record GoesOn {T W S : Type 0} (means : Meaning T W S) (old : T) (before : WriterCore W) (new : T) (after : WriterCore W) : Type 0 where
  pub ready : IsReady means new after
  pub step : IsWriterStep means old before.seat new after.seat
