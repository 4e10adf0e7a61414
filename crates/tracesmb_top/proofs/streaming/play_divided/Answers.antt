-- The stream was played on what was made for the text's configuration.
use Rattle.std.proofs.Common.{◌≡◌, refl}
use Rattle.config_text.specs.Configs.{parts_of}
use Rattle.tracesmb_top.proofs.streaming.play_divided.Goals as goal

pub returns-in-Ok-write_stream-clause-ends : goal.returns-in-Ok-write_stream-clause-ends
returns-in-Ok-write_stream-clause-ends g c =
    let config = parts_of c.in-Ok.config in
    let made = c.in-Ok-make.ensures.made in
    let plays = c.in-Ok-write_stream.ensures.plays config made in
    record {
      config = config;
      is_for = record { spells = c.in-Ok.ensures.spells; right = rw c.in_default.is at c.find_fault.ensures.none };
      setup = c.in-Ok-make.producer.player.table.layout;
      made = made.setup;
      done = c.in-Ok-write_stream.done;
      counts = plays.counts;
      report_is = refl;
      taken = plays.all;
    }
