use Rattle.std.proofs.Common.{◌<◌, length, ap, subst, arith, get_or, List, ℕ}
use Rattle.trace_buffer.specs.Clones.{numbers_of}
use Rattle.buffer_clone.proofs.NumberLemmas.{known_at}
use Rattle.buffer_clone.proofs.ClosingLemmas.{closed_one}
use Rattle.buffer_clone.proofs.closing.close_all.Goals as goal

pub close_open-requires : goal.close_open-requires
close_open-requires c =
    known_at c.loop-i.buffer (numbers_of c.args.buffer.now) c.loop-i.i 0 _ c.loop-i.invariant.same
    (subst (λ (ns : List ℕ). c.loop-i.i < length ns) c.requires (let test = c.loop-i-test.true in omega arith))
    (ap (λ (ns : List ℕ). get_or ns c.loop-i.i 0) c.requires)

pub loop-i-preserved : goal.loop-i-preserved
loop-i-preserved c =
    closed_one c.args.buffer.now c.loop-i.buffer c.close_open.new.buffer c.loop-i.i 0 _ c.loop-i.invariant
    (subst (λ (ns : List ℕ). c.loop-i.i < length ns) c.requires (let test = c.loop-i-test.true in omega arith))
    (ap (λ (ns : List ℕ). get_or ns c.loop-i.i 0) c.requires) c.close_open.ensures
