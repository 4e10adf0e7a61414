use Rattle.std.proofs.Common.{◌≡◌, Bool, true, false, not, refl, ap, ◌∙◌, arith, true≢false}
use Rattle.std.proofs.lemmas.Grind.{common_steps}
use Rattle.trace_model.specs.Sequences.{fresh}
use Rattle.trace_buffer.specs.Unfinished.{UnfinishedValue}
use Rattle.trace_buffer.proofs.CountLemmas.{set_more}
use Rattle.trace_buffer.proofs.unfinished.Unfinished.add.Goals as goal

does : (b : Bool) → not b ≡ false → b ≡ true
does true is = refl
does false is = absurd (true≢false is)

pub returns : goal.returns
returns c = record {
  parts = grind (arith, common_steps);
  awaiting = λ count old_is. set_more c.args.rows.now c.self.inside.awaiting.items count c.find_row-place.result c.index_mut.result.now c.index_mut.result.now c.args.key (fresh 0 0 0)
      c.requires.once c.find_row-place.ensures.within c.find_row-place.ensures.number (does c.args.key.awaits c.if-not-key.false)
      (ap (λ (v : UnfinishedValue). v.awaiting) c.self.view_is ∙ old_is) c.index_mut.ensures.value;
}
