use Rattle.std.proofs.Common.{◌∙◌, ◌<◌, refl, arith}
use Rattle.std.specs.Vec.{with_items}
use Rattle.commit_body.specs.declared.body.CommitBody.{CommitBody}
use Rattle.chunk_plain.specs.Setup.{spot}
use Rattle.chunk_plain.proofs.Taking.{with_items_is}
use Rattle.chunk_words.proofs.TakingUp.{take_done}
use Rattle.chunk_words.proofs.host.HostTable.take_found.Goals as goal

pub returns-clause-left : goal.returns-clause-left
returns-clause-left c =
    let self = c.args.self.now in let chunk = c.args.chunk in let size = (spot self.layout chunk).payload_size in
    let taken = c.body_out-body.result in let bytes = c.load_words.new.into in
    let full : CommitBody = record { payload = with_items taken.payload bytes; patches = taken.patches; target = taken.target } in
    let many = c.load_words.ensures.size ∙ c.deref_mut.ensures.len in
    let some : 0 < size = let least = self.laid.least chunk c.requires.chunk in omega arith in
    record {
      seat = c.step_learn.ensures.seat ∙ (c.load_words.ensures.seat ∙ (c.body_out-body.ensures.seat ∙ c.step_take.ensures.seat));
      me = take_done self.layout c.args.writer chunk size c.args.word c.args.header c.args.seat.now.seat.me c.step_take.new.seat.seat.me c.body_out-body.new.seat.me c.load_words.new.seat.seat.me taken full bytes
          c.step_take.ensures.me c.body_out-body.ensures.body c.body_out-body.ensures.me c.load_words.ensures.me many some (with_items_is taken.payload bytes many) refl refl
          c.step_learn.new.seat.seat.me c.step_learn.ensures.me;
    }
