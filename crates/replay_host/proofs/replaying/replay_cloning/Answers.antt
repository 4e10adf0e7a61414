-- All that was made is ready.
use Rattle.std.proofs.Common.{rules}
use Rattle.replay_host.proofs.replaying.replay_cloning.Goals as goal

pub play_made-requires-clause-ready : goal.play_made-requires-clause-ready
play_made-requires-clause-ready g c = record {
  within = c.requires.scenario;
  made = c.in-Ok-make_host.ensures;
  marked = search rules;
  payload_room = c.in-Ok-make_room.ensures _ c.in-Ok-make_host.ensures.at.going.kept.laid;
  cloned = search rules;
  buffers = c.in-Ok.ensures.buffers;
  sequences = c.in-Ok.ensures.sequences;
  unanswered = c.in-Ok.ensures.raws;
  answer_room = c.in-Ok.ensures.raw_room;
}
