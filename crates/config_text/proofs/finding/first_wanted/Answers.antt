use Rattle.std.proofs.Common.{[], arith}
use Rattle.config_text.specs.declared.kept.KeptProducer.{KeptProducer}
use Rattle.trace_base.specs.declared.numeral.Numeral.TheVariants.{TooLarge}
use Rattle.config_text.specs.Wanted.{is_wanted}
use Rattle.config_text.proofs.FindingLemmas.{place_none}
use Rattle.config_text.proofs.finding.first_wanted.Goals as goal

pub returns : goal.returns
returns c =
    let none : KeptProducer = record { name = record { ref_ptr = (0, 0); now = [] }; shm_size_kb = TooLarge; page_size_kb = TooLarge } in
    place_none (is_wanted c.args.wanted.now) c.args.producers.now none (λ k inside. c.loop-i.invariant k none (omega (arith, inside)))
