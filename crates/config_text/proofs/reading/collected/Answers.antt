-- Before the first item.
use Rattle.std.proofs.Common.{◌≡◌, ◌∙◌, ap, arith}
use Rattle.config_text.specs.Answers.{collected_items}
use Rattle.config_text.specs.Collecting.{Collected, nothing_collected}
use Rattle.config_text.proofs.reading.collected.Goals as goal

pub items-init : goal.items-init
unfolding nothing_collected
items-init c =
    let none : c.new-collector.result.skipped ≡ 0 = ap (λ (k : Collected). k.skipped) c.new-collector.ensures.nothing in
    record {
      collects = ap (λ (k : Collected). collected_items k c.new-reader.result.coming) c.new-collector.ensures.nothing
          ∙ ap (collected_items nothing_collected) c.new-reader.ensures.coming;
      laid = c.new-collector.ensures.laid;
      room = omega (arith, none, c.new-reader.ensures.left);
    }
