use Rattle.std.proofs.Common.{◌≡◌, ◌+◌, ◌≤◌, length}
use Rattle.text_form.specs.Machine.{items_or_line}
use Rattle.config_text.specs.Answers.{collected_items}
use Rattle.config_text.specs.Collecting.{nothing_collected}
use Rattle.config_text.specs.Collectors.{collected_of, IsLaid}
use Rattle.config_text.proofs.reading.collected.Given as goal

abbrev pub invariant-items : goal.invariant-items
invariant-items l = record {
  collects : collected_items (collected_of l.collector) l.reader.coming ≡ collected_items nothing_collected (items_or_line l.text);
  laid : IsLaid l.collector;
  room : l.collector.skipped + l.reader.left ≤ length l.text;
}

abbrev pub decreases-items : goal.decreases-items
decreases-items l = l.reader.left
