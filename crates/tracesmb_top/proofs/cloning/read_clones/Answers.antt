use Rattle.std.proofs.Common.{◌≡◌, ◌∙◌, ◌+◌, ◌<◌, ℕ, length, get_or, drop, ap, subst, arith, rules}
use Rattle.byte_io.specs.Bytes.{after_told, TakesPart}
use Rattle.loss_report.proofs.Writing.{up_to_next, up_to_fault}
use Rattle.trace_model.specs.Buffers.{Buffer}
use Rattle.trace_model.specs.Delivery.{trace_of}
use Rattle.buffer_clone.specs.Clones.{clone_records}
use Rattle.tracesmb_top.specs.declared.cloning.CloneCount.{CloneCount}
use Rattle.tracesmb_top.specs.Cloned.{clones_trace}
use Rattle.tracesmb_top.proofs.CloneLemmas.{no_count, trace_next, ends_part, same_there, same_behind, count_of, counted_next}
use Rattle.tracesmb_top.proofs.cloning.read_clones.Goals as goal

pub returns-in_err-counts-clause-part : goal.returns-in_err-counts-clause-part
returns-in_err-counts-clause-part g c =
    let taken = g.O.Sink.taken in
    let i : ℕ = c.loop-index.index in
    let clones = c.args.clones.now in
    let none : Buffer = c.index-clones-index.result in
    let clone : Buffer = get_or c.loop-index.clones i none in
    let below : i < length clones = omega arith in
    let is : clone ≡ get_or clones i none = same_there c.loop-index.clones clones i none c.loop-index.invariant.unread in
    let took : TakesPart (taken c.loop-index.out) (taken c.read_all.new.out) (trace_of (clone_records (get_or clones i none))) =
    subst (λ (b : Buffer). TakesPart (taken c.loop-index.out) (taken c.read_all.new.out) (trace_of (clone_records b))) is
    (ends_part clone c.read_all.new.self (taken c.loop-index.out) (taken c.read_all.new.out) c.in_err-counts.ensures.part) in
    let part = up_to_fault (taken c.args.out.now) (taken c.loop-index.out) (taken c.read_all.new.out) (clones_trace clones)
    (trace_of (clone_records (get_or clones i none))) (clones_trace (drop (i + 1) clones)) (clones_trace (drop i clones))
    c.loop-index.invariant.taken (trace_next clones i none below) took in
    search (rules, part)

pub loop-index-preserved : goal.loop-index-preserved
loop-index-preserved g c =
    let taken = g.O.Sink.taken in
    let i : ℕ = c.loop-index.index in
    let clones = c.args.clones.now in
    let counts = c.args.counts.now in
    let none : Buffer = c.index-clones-index.result in
    let clone : Buffer = get_or c.loop-index.clones i none in
    let below : i < length clones = omega arith in
    let is : clone ≡ get_or clones i none = same_there c.loop-index.clones clones i none c.loop-index.invariant.unread in
    let one : CloneCount = record { buffer = (get_or c.loop-index.counts i no_count).buffer; delivered = c.in_ok-counts.field-0 } in
    let counted : one ≡ count_of (get_or counts i no_count) (get_or clones i none) =
    ap (λ (count : CloneCount). record count { delivered = c.in_ok-counts.field-0 })
    (same_there c.loop-index.counts counts i no_count c.loop-index.invariant.uncounted)
    ∙ ap (λ (n : ℕ). record (get_or counts i no_count) { delivered = n })
    (c.in_ok-counts.ensures.number ∙ ap (λ (b : Buffer). length (clone_records b)) is) in
    record {
      taken = up_to_next (taken c.args.out.now) (taken c.loop-index.out) (taken c.read_all.new.out) (clones_trace clones)
          (trace_of (clone_records (get_or clones i none))) (clones_trace (drop (i + 1) clones)) (clones_trace (drop i clones))
          c.loop-index.invariant.taken (trace_next clones i none below)
          (c.in_ok-counts.ensures.records
          ∙ ap (λ (b : Buffer). after_told (taken c.loop-index.out) (trace_of (clone_records b))) is);
      counted = counted_next counts c.loop-index.counts clones i one no_count none below c.requires.many (omega arith) c.loop-index.invariant.counted counted;
      unread = same_behind c.loop-index.clones clones i c.read_all.new.self c.loop-index.invariant.unread;
      uncounted = same_behind c.loop-index.counts counts i one c.loop-index.invariant.uncounted;
      steady = c.in_ok-counts.ensures.count ∙ c.loop-index.invariant.steady;
      may = c.in_ok-counts.ensures.goes_on;
    }
