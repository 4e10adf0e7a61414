use Rattle.trace_base.specs.declared.policy.FullPolicy.TheVariants.{Ring}
use Rattle.std.specs.Prelude.{None, false}
use Rattle.config_text.specs.declared.kept.KeptBlock.{KeptBlock}
use Rattle.config_text.specs.declared.kept.KeptWhat.TheVariants.{Buffer}
use Rattle.config_text.specs.Blocks.{Block}
use Rattle.config_text.specs.Narrow.{buffer_of}
use Rattle.config_text.specs.Reasons.{buffer_in}
use Rattle.config_text.proofs.LookUpLemmas.{said_more}
use Rattle.config_text.proofs.building.buffers_of.Goals as goal

abbrev none : KeptBlock
none = record { line = 0; fits = false; what = Buffer (record { size_kb = None; policy = Ring }) }

pub loop-block-preserved : goal.loop-block-preserved
loop-block-preserved c = λ entries.
    said_more buffer_of (λ (block : Block). buffer_in block.what) entries c.args.blocks.now c.loop-block.block-index none c.loop-block-test.true
    c.loop-block.buffers.items c.add_buffer.new.buffers.items (c.loop-block.invariant entries) (c.in_ok-add_buffer.ensures entries)
