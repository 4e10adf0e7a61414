-- The line is played behind the poll.
use Rattle.std.proofs.Common.{◌++◌}
use Rattle.scenario_text.specs.Accepted.{named_calls}
use Rattle.thread_host.proofs.Helped.{helps_both}
use Rattle.thread_host.proofs.playing.poll_and_play.Goals as goal

pub poll-requires : goal.poll-requires
poll-requires g c = record {
  going = (c.requires.going.0, c.requires.going.1, named_calls c.args.line.now ++ c.requires.going.2, c.requires.going.3);
}

pub play_line-requires : goal.play_line-requires
play_line-requires g c =
    let place = c.requires.going.0 in let asked = c.requires.going.1 in let coming = c.requires.going.2 in
    record { going = (place, asked, coming, c.poll.ensures.stays place asked (named_calls c.args.line.now ++ coming) c.requires.going.3) }

pub returns : goal.returns
returns g c = record {
  asked = λ place asked coming going.
      c.play_line.ensures.asked place asked coming (c.poll.ensures.stays place asked (named_calls c.args.line.now ++ coming) going);
  helped = helps_both g.H.Helper.helps c.args.help.now c.args.help.now c.play_line.new.help c.args.writer.now c.poll.new.writer c.play_line.new.writer
      c.poll.ensures.helped c.play_line.ensures.helped;
}
