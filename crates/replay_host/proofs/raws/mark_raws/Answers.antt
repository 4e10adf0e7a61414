-- A line that commits a chunk names a writer that is there.
use Rattle.std.proofs.Common.{◌-◌, Bool, true, ℕ, List, [], ◌∷◌, ◌++◌, length, set, sym, subst, arith}
use Rattle.std.proofs.lemmas.Option.{slice_get_within}
use Rattle.replay_host.specs.Raws.{AreMarked}
use Rattle.replay_host.proofs.CloneMadeLemmas.{split_next}
use Rattle.replay_host.proofs.RawLinesLemmas.{commits_there, marked_raw, marked_other}
use Rattle.replay_host.proofs.raws.mark_raws.Goals as goal

pub overflow_sub-from : goal.overflow_sub-from
overflow_sub-from c =
    let there =
    commits_there c.args.scenario.now c.requires c.lines.invariant.before c.lines.walk c.next.new.self c.in-Some.line
    c.in-Raw.writer c.in-Raw.chunk
    c.lines.invariant.split c.in-Some.ensures.first c.in-Raw.is in
    let least = there.of_writer.least in
    let from = c.from.ensures in
    omega (arith, least, from)

pub index_mut-requires : goal.index_mut-requires
index_mut-requires c =
    let there =
    commits_there c.args.scenario.now c.requires c.lines.invariant.before c.lines.walk c.next.new.self c.in-Some.line
    c.in-Raw.writer c.in-Raw.chunk
    c.lines.invariant.split c.in-Some.ensures.first c.in-Raw.is in
    let inside = slice_get_within c.args.scenario.now.writers.items (c.in-Raw.writer - 1) there.of_writer.spec there.of_writer.there in
    let many = c.lines.invariant.marked.many in
    let joined = c.lines.marks.ok.0 in
    let from = c.from.ensures in
    omega (arith, inside, many, joined, from)

pub lines-preserved-in-Raw : goal.lines-preserved-in-Raw
lines-preserved-in-Raw c =
    let first = c.in-Some.ensures.first in
    let there =
    commits_there c.args.scenario.now c.requires c.lines.invariant.before c.lines.walk c.next.new.self c.in-Some.line
    c.in-Raw.writer c.in-Raw.chunk
    c.lines.invariant.split first c.in-Raw.is in
    let inside = slice_get_within c.args.scenario.now.writers.items (c.in-Raw.writer - 1) there.of_writer.spec there.of_writer.there in
    let marks : List Bool = c.lines.marks.items in
    record {
      before = c.lines.invariant.before ++ c.in-Some.line ∷ [];
      split = split_next c.args.scenario.now.lines c.lines.invariant.before c.lines.walk c.next.new.self c.in-Some.line
          c.lines.invariant.split first;
      marked = subst (λ (n : ℕ). AreMarked (c.lines.invariant.before ++ c.in-Some.line ∷ []) (length c.args.scenario.now.writers.items)
          (set marks (n - 1) true))
          (sym c.from.ensures)
          (marked_raw c.lines.invariant.before c.in-Some.line c.in-Raw.writer c.in-Raw.chunk
          (length c.args.scenario.now.writers.items) marks
          c.in-Raw.is there.of_writer.least inside c.lines.invariant.marked);
    }

pub lines-preserved : goal.lines-preserved
lines-preserved c = record {
  before = c.lines.invariant.before ++ c.in-Some.line ∷ [];
  split = split_next c.args.scenario.now.lines c.lines.invariant.before c.lines.walk c.next.new.self c.in-Some.line
      c.lines.invariant.split c.in-Some.ensures.first;
  marked = marked_other c.lines.invariant.before c.in-Some.line (length c.args.scenario.now.writers.items) c.lines.marks.items
      (λ writer chunk same. c.in_default-what.not-Raw writer chunk same) c.lines.invariant.marked;
}
