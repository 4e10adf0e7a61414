-- A field of another name says nothing; one in a `config` leaves its block the newest.
use Rattle.std.proofs.Common.{◌≡◌, sym, length, [], None}
use Rattle.config_text.specs.Blocks.{kind_of}
use Rattle.config_text.specs.Collecting.{at_level}
use Rattle.config_text.specs.Kept.{blocks_kept, IsNewest}
use Rattle.config_text.proofs.CollectingLemmas.{single_other}
use Rattle.config_text.proofs.KeptLemmas.{saying_newest}
use Rattle.text_form.specs.Reading.{value_of}
use Rattle.config_text.proofs.collector.Collector.take_single.Goals as goal

pub returns-in_default-clause-collected : goal.returns-in_default-clause-collected
unfolding at_level
returns-in_default-clause-collected c =
    let collector = c.args.self.now in
    let other : None ≡ kind_of c.args.name.now = rw c.in_default.is at (c.kind_of.ensures.kind []) in
    rw c.in-Top.is (rw c.requires.seen (sym (single_other (blocks_kept collector.entries.items collector.ended.items) c.args.line c.args.name.now (value_of c.args.value) other)))

pub returns-in-Config-clause-laid : goal.returns-in-Config-clause-laid
returns-in-Config-clause-laid c =
    let count = length c.args.self.now.entries.items in
    let newest : IsNewest count c.in-Config.block.what = rw c.in-Config.is at c.requires.laid.open_one in
    record {
      inside = c.requires.laid.inside;
      open_one = saying_newest count c.what_with_config-what.result c.in-Config.block.what c.saying.result.what newest
          (c.what_with_config-what.ensures.newest count newest) c.saying.ensures.some c.saying.ensures.none;
    }
