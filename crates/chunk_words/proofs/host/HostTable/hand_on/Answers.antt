use Rattle.std.proofs.Common.{arith}
use Rattle.chunk_words.specs.Knows.{passed_of}
use Rattle.chunk_words.proofs.Staging.{pass_handed}
use Rattle.chunk_words.proofs.host.HostTable.hand_on.Goals as goal

pub split_seat-inner-requires : goal.split_seat-inner-requires
split_seat-inner-requires c =
    let self = c.args.self.now in let pass = c.args.pass.now.seat in (
      c.requires.joined,
      (let words = self.word_count in omega arith),
      rw (self.key, c.requires.idle) (pass_handed self.layout pass.id (passed_of pass.me.0)),
    )
