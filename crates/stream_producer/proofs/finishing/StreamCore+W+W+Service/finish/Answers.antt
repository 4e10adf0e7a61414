-- The closes, and then the reads.
use Rattle.std.proofs.Common.{◌≡◌, ◌∙◌, Err, List, true, map, ap, rules}
use Rattle.trace_model.specs.Buffers.{Buffer}
use Rattle.trace_buffer.specs.Answers.{counts_of}
use Rattle.stream_frames.specs.Values.{feeding_of}
use Rattle.stream_producer.specs.declared.fault.StreamFault.TheVariants.{WriteFault}
use Rattle.stream_producer.specs.Counting.{counts_from}
use Rattle.stream_producer.proofs.FinishLemmas.{end_part, end_taken, end_behind, end_sequences, stream_behind, stream_taken, front_is, buffers_filled, sequences_filled}
use Rattle.stream_producer.proofs.ResultLemmas.{if_err_is}
use Rattle.stream_producer.proofs.finishing.StreamCore+W+W+Service.finish.Goals as goal

pub returns-in_err-read_all-clause-stops : goal.returns-in_err-read_all-clause-stops
returns-in_err-read_all-clause-stops g c =
    let core = c.args.self in
    let closed : (feeding_of core.reader).closed ≡ true = search rules in
    let result_is : c.from_residual.result ≡ Err WriteFault = search rules in
    if_err_is c.from_residual.result WriteFault _ result_is (
      closed,
      end_part g.W.Words.means core c.close_all.new.self c.requires.feeding.ready.stands.served c.close_all.ensures.closes
          (g.O.Sink.taken c.args.out.now) (g.O.Sink.taken c.read_all.new.out) c.in_err-read_all.ensures.part,
    )

pub returns-clause-finishes : goal.returns-clause-finishes
returns-clause-finishes g c =
    let means = g.W.Words.means in
    let core = c.args.self in
    let mid = c.close_all.new.self in
    let last = c.read_all.new.self in
    let was = c.requires.feeding.ready.stands.served in
    let shut = c.close_all.ensures.closes in
    let out = c.in_ok-read_all.ensures.reads in
    let before = g.O.Sink.taken c.args.out.now in
    let after = g.O.Sink.taken c.read_all.new.out in
    let closed : (feeding_of core.reader).closed ≡ true = search rules in
    record {
      closed = closed;
      taken = end_taken means core mid was shut last before after out;
      buffers = front_is c.count_buffers.new.buffers _ core.done.buffers.len
          (buffers_filled means core mid was shut last before after out c.requires.feeding.ready.room c.count_buffers.new.buffers
          c.count_buffers.ensures)
          ∙ c.count_buffers.ensures ∙ ap (λ (b : List Buffer). map counts_of b) (end_behind means core mid was shut last before after out);
      sequences = front_is c.count_sequences.new.sequences _ core.done.sequences.len
          (sequences_filled means core mid was shut last before after out c.requires.feeding.ready.room c.count_sequences.new.sequences
          c.count_sequences.ensures)
          ∙ c.count_sequences.ensures ∙ end_sequences means core mid was shut last before after out;
      commits = out.commits ∙ shut.commits;
      refused = out.refused ∙ shut.refused;
    }

pub returns-clause-stream : goal.returns-clause-stream
returns-clause-stream g c config stream start taken trace =
    let means = g.W.Words.means in
    let core = c.args.self in
    let mid = c.close_all.new.self in
    let last = c.read_all.new.self in
    let was = c.requires.feeding.ready.stands.served in
    let shut = c.close_all.ensures.closes in
    let out = c.in_ok-read_all.ensures.reads in
    let before = g.O.Sink.taken c.args.out.now in
    let after = g.O.Sink.taken c.read_all.new.out in
    let behind = stream_behind means config stream core start before after c.requires.feeding taken in
    record {
      taken = stream_taken means config stream core start before after c.requires.feeding taken trace
          (end_taken means core mid was shut last before after out);
      buffers = front_is c.count_buffers.new.buffers _ core.done.buffers.len
          (buffers_filled means core mid was shut last before after out c.requires.feeding.ready.room c.count_buffers.new.buffers
          c.count_buffers.ensures)
          ∙ c.count_buffers.ensures
          ∙ ap (λ (b : List Buffer). map counts_of b) (end_behind means core mid was shut last before after out ∙ behind);
      sequences = front_is c.count_sequences.new.sequences _ core.done.sequences.len
          (sequences_filled means core mid was shut last before after out c.requires.feeding.ready.room c.count_sequences.new.sequences
          c.count_sequences.ensures)
          ∙ c.count_sequences.ensures ∙ end_sequences means core mid was shut last before after out
          ∙ ap (λ (b : List Buffer). counts_from b 0 (means.setup core.player.table).writers) behind;
      commits = out.commits ∙ shut.commits ∙ taken.commits;
      refused = out.refused ∙ shut.refused ∙ taken.refused;
    }
