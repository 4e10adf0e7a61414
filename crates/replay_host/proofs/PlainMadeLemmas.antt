-- The table of one thread as it is made: what its seats know.
use Rattle.std.proofs.Common.{◌≡◌, ◌∙◌, ℕ, Option, Some, unwrap_or, ap, subst}
use Rattle.chunk_plain.specs.declared.plain.PlainTable.{PlainTable}
use Rattle.chunk_plain.specs.declared.plain_seats.PlainService.{PlainService}
use Rattle.chunk_plain.specs.declared.plain_seats.PlainWriter.{PlainWriter}
use Rattle.chunk_plain.specs.contracts.plain_words.PlainTableWords.TheImpl.{ghosts as plain}
use Rattle.chunk_plain.specs.Plain.{first_world}
use Rattle.chunk_plain.specs.Setup.{Setup}
use Rattle.chunk_plain.specs.Views.{newcomer}
use Rattle.chunk_plain.specs.World.{World, nowhere, writer}
use Rattle.chunk_plain.proofs.MadeLemmas.{all_same}
use Rattle.trace_writer.specs.declared.writer.WriterCore.{WriterCore}
use Rattle.trace_writer.specs.Core.{CoreAgrees}
use Rattle.replay_host.specs.Making.{IsNewcomer}
use Rattle.replay_host.proofs.BuiltLemmas.{IsSeatedNew}

module _ (table : PlainTable) (setup : Setup) (setup_is : plain.means.setup table ≡ setup)
    (told : plain.means.told table ≡ Some (first_world setup)) where
  world_is : table.told.world ≡ first_world setup
  world_is = ap (λ (known : Option World). unwrap_or known nowhere) told

  pub table_service : (seat : PlainService) → plain.means.service_view table seat ≡ (first_world setup).service
  table_service seat = ap (λ (w : World). w.service) world_is

  pub seated_new : (place : ℕ) (core : WriterCore PlainWriter) → plain.means.sits table core.seat
      → IsNewcomer (plain.means.setup table) place core
      → IsSeatedNew plain.means setup table place core
  seated_new place core sits new = record {
    sits = sits;
    place_is = new.place_is;
    view_is = ap (λ (w : World). writer w core.seat.place) world_is ∙ all_same newcomer setup.writers core.seat.place;
    agrees = subst (λ (s : Setup). CoreAgrees s place newcomer core) setup_is new.agrees;
    going = new.going;
  }
