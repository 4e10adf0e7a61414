-- What is known of the blocks so far and of one more.
use Rattle.std.proofs.Common.{◌∙◌, sym, ap, arith, false, List, [], ◌∷◌, ◌++◌, get_or, Option, Bool, ◌&&◌, map}
use Rattle.trace_base.specs.declared.policy.FullPolicy.TheVariants.{Ring}
use Rattle.std.specs.Prelude.{None}
use Rattle.config_text.specs.declared.kept.KeptBlock.{KeptBlock}
use Rattle.config_text.specs.declared.kept.KeptWhat.TheVariants.{Buffer}
use Rattle.trace_base.specs.declared.numeral.Numeral.{Numeral}
use Rattle.config_text.specs.Blocks.{Block, ProducerSaid}
use Rattle.config_text.specs.Kept.{producer_kept, what_kept, block_kept}
use Rattle.config_text.specs.Reasons.{size_in, sizes_in, producer_in, producers_said, is_fit_producer}
use Rattle.config_text.proofs.LookUpLemmas.{more_of, all_more, known_all}
use Rattle.config_text.proofs.look_ups.LookUps.new.Goals as goal

abbrev none : KeptBlock
none = record { line = 0; fits = false; what = Buffer (record { size_kb = None; policy = Ring }) }

pub loop-block-preserved : goal.loop-block-preserved
loop-block-preserved c =
    let blocks = c.args.blocks.now in
    let i = c.loop-block.block-index in
    record {
      sizes = λ entries. c.in_ok-add.ensures.sizes entries ∙ ap (λ (xs : List (Option Numeral)). xs ++ sizes_in (block_kept entries (get_or blocks i none) ∷ [])) (c.loop-block.invariant.sizes entries)
          ∙ sym (more_of (λ (b : Block). size_in b.fits b.what) entries blocks i none c.loop-block-test.true);
      producers = λ entries. c.in_ok-add.ensures.producers entries ∙ ap (λ (xs : List ProducerSaid). xs ++ producers_said (block_kept entries (get_or blocks i none) ∷ [])) (c.loop-block.invariant.producers entries)
          ∙ sym (more_of (λ (b : Block). producer_in b.what) entries blocks i none c.loop-block-test.true);
      fit = λ entries. c.in_ok-add.ensures.fit entries ∙ ap (λ (b : Bool). b && is_fit_producer (get_or blocks i none).fits (what_kept entries (get_or blocks i none).what)) (c.loop-block.invariant.fit entries)
          ∙ sym (all_more (λ (b : Block). is_fit_producer b.fits b.what) entries blocks i none c.loop-block-test.true);
    }

pub returns : goal.returns
returns c = λ entries.
    let known = c.add_default.new.self in
    let said = c.in_ok-add_default.ensures in
    known_all entries c.args.blocks.now c.loop-block.block-index known.sizes.items (map producer_kept c.loop-block.known.producers.items)
    (map producer_kept known.producers.items) known.fit (omega arith) (said.sizes ∙ c.loop-block.invariant.sizes entries) (c.loop-block.invariant.producers entries)
    (said.fit ∙ c.loop-block.invariant.fit entries) said.producers
