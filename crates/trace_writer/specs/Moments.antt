-- The moments between which it is said what a writer's steps do, and what its calls.
use Rattle.std.specs.Prelude.{ℕ}
use Rattle.chunk_plain.specs.Meaning.{Meaning}
use Rattle.chunk_plain.specs.Views.{WriterView}
use Rattle.trace_writer.specs.declared.state.Writer.{Writer}
use Rattle.trace_writer.specs.declared.writer.WriterCore.{WriterCore}

-- what a writer's steps work with, as it stands at a moment
pub record StepMoment (H T W : Type 0) : Type 0 where
  pub helper : H
  pub table : T
  pub seat : W
  pub steps : ℕ

-- what a call of a writer works with, which has the writer beside its seat
pub record CallMoment (H T W : Type 0) : Type 0 where
  pub core : WriterCore W
  pub helper : H
  pub table : T
  pub steps : ℕ

-- the moment at which these stand so
abbrev pub at_step : {H T W : Type 0} → H → T → W → ℕ → StepMoment H T W
at_step helper table seat steps = record { helper = helper; table = table; seat = seat; steps = steps }

-- and that of a call
abbrev pub at_call : {H T W : Type 0} → WriterCore W → H → T → ℕ → CallMoment H T W
at_call core helper table steps = record { core = core; helper = helper; table = table; steps = steps }

-- within a call the writer and its seat stand apart
abbrev pub moment : {H T W : Type 0} → Writer → H → T → W → ℕ → CallMoment H T W
moment writer helper table seat steps = at_call (record { seat = seat; writer = writer }) helper table steps

-- what the seat knows at that moment
abbrev pub view_at : {H T W S : Type 0} → Meaning T W S → CallMoment H T W → WriterView
view_at means now = means.view now.table now.core.seat
