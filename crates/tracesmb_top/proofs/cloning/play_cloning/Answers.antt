-- The clones are those of the replay, one for each line that asks for one.
use Rattle.std.proofs.Common.{◌++◌, ℕ, List, [], length, ap, refl, subst, arith}
use Rattle.std.proofs.lemmas.List.{length-map}
use Rattle.byte_io.specs.Bytes.{TakesPart}
use Rattle.trace_model.specs.Buffers.{Buffer}
use Rattle.scenario_text.specs.Clones.{clones_in}
use Rattle.scenario_text.specs.Scenario.{parts_of}
use Rattle.chunk_plain.specs.Plain.{first_world}
use Rattle.tracesmb_top.specs.declared.cloning.CloneCount.{CloneCount}
use Rattle.tracesmb_top.specs.Cloned.{clone_counts, clones_text, clones_trace}
use Rattle.loss_report.specs.Raws.{done_text}
use Rattle.tracesmb_top.proofs.CloneLemmas.{made_many}
use Rattle.tracesmb_top.proofs.cloning.play_cloning.Goals as goal

pub write_clones-requires-clause-many : goal.write_clones-requires-clause-many
write_clones-requires-clause-many g c =
    let replays = c.in-Ok-replay_cloning.ensures.done in
    let lines = c.args.scenario.now.lines in
    let counts = c.in-Ok-counts_for.counts.items in
    let many = made_many (parts_of c.args.scenario.now) replays.replays.setup [] lines (first_world replays.replays.setup) replays.between
    c.replay_cloning.new.clones.items replays.make in
    let counted = ap (λ (numbers : List ℕ). length numbers) c.in-Ok-counts_for.ensures in
    let long = length-map counts (λ (count : CloneCount). count.buffer) in
    let first = ap (λ (xs : List CloneCount). length xs) c.deref_mut-2.ensures.value in
    let second = ap (λ (bs : List Buffer). length bs) c.deref_mut.ensures.value in
    omega (arith, many, counted, long, first, second)

pub returns-clause-cloned : goal.returns-clause-cloned
returns-clause-cloned g c =
    let clones = c.replay_cloning.new.clones.items in
    let played = done_text c.in-Ok-replay_cloning.done in
    let report = played ++ clones_text (clone_counts (clones_in c.args.scenario.now.lines) clones) in (
      clones,
      report,
      record { played = played; replays = c.in-Ok-replay_cloning.ensures.done; report_is = refl },
      subst (λ (bs : List Buffer). TakesPart (g.T.Sink.taken c.args.trace.now) (g.T.Sink.taken c.write_clones.new.trace) (clones_trace bs))
          c.deref_mut.ensures.value c.in-Err-write_clones.ensures.part,
    )
