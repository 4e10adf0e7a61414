use Rattle.std.proofs.Common.{map}
use Rattle.trace_base.specs.declared.policy.FullPolicy.TheVariants.{Ring}
use Rattle.std.specs.Prelude.{None, false}
use Rattle.config_text.specs.declared.kept.KeptBlock.{KeptBlock}
use Rattle.config_text.specs.declared.kept.KeptWhat.TheVariants.{Buffer}
use Rattle.config_text.specs.Blocks.{Block}
use Rattle.config_text.specs.Kept.{producer_kept}
use Rattle.config_text.specs.Narrow.{source_of}
use Rattle.config_text.specs.Reasons.{source_in}
use Rattle.config_text.proofs.LookUpLemmas.{said_more}
use Rattle.config_text.proofs.building.sources_of.Goals as goal

abbrev none : KeptBlock
none = record { line = 0; fits = false; what = Buffer (record { size_kb = None; policy = Ring }) }

pub loop-block-preserved : goal.loop-block-preserved
loop-block-preserved c =
    said_more (source_of (map producer_kept c.args.producers.now)) (λ (block : Block). source_in block.what) c.args.entries.now c.args.blocks.now
    c.loop-block.block-index none c.loop-block-test.true
    c.loop-block.sources.items c.add_source.new.sources.items c.loop-block.invariant c.in_ok-add_source.ensures
