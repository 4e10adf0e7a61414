use Rattle.std.proofs.Common.{◌≡◌, ◌∙◌, Option, [], ◌∷◌, unwrap_or, sym, ap, subst, arith}
use Rattle.trace_base.proofs.IdLemmas.{id_first}
use Rattle.trace_base.specs.declared.policy.WriterPolicy.TheVariants.{Drops}
use Rattle.trace_base.specs.declared.policy.WriterSpec.{WriterSpec}
use Rattle.chunk_plain.specs.declared.setup.ProducerSpec.{ProducerSpec}
use Rattle.chunk_plain.specs.Setup.{Setup, id_at}
use Rattle.chunk_plain.specs.Laying.{setup_of}
use Rattle.chunk_plain.specs.World.{World, nowhere}
use Rattle.chunk_plain.specs.Words.{AllArrived}
use Rattle.chunk_plain.proofs.ArrivedLemmas.{first_arrived}
use Rattle.chunk_plain_rows.proofs.rounds.scrape_one.Goals as goal

-- the writer's first chunk has its first id
pub scrape_and_take-requires-clause-id : goal.scrape_and_take-requires-clause-id
scrape_and_take-requires-clause-id c = sym (ap (λ (s : Setup). id_at s 0 0) c.in_ok-table.ensures.setup ∙ id_first 9 (omega arith))

-- and nothing was taken that has to arrive
pub scrape_and_take-requires-clause-arrived : goal.scrape_and_take-requires-clause-arrived
scrape_and_take-requires-clause-arrived c =
    let producer : ProducerSpec = record { pages = 1; geometry = c.in_ok-geometry.geometry } in
    let spec : WriterSpec = record { producer = 1; buffer = 1; policy = Drops; from = 9 } in
    let world : c.in_ok-table.table.told.world ≡ _ = ap (λ (o : Option World). unwrap_or o nowhere) c.in_ok-table.ensures.told in
    subst (λ (w : World). AllArrived w.service) (sym world) (first_arrived (setup_of (producer ∷ []) (spec ∷ [])))
