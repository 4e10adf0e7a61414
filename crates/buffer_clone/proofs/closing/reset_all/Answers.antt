use Rattle.std.proofs.Common.{◌<◌, ◌≤◌, length, ap, subst, arith, get_or, List, ℕ}
use Rattle.trace_buffer.specs.Clones.{numbers_of}
use Rattle.buffer_clone.proofs.NumberLemmas.{known_at}
use Rattle.buffer_clone.proofs.ClosingLemmas.{reset_none, reset_one, reset_every}
use Rattle.buffer_clone.proofs.closing.reset_all.Goals as goal

pub loop-i-init : goal.loop-i-init
loop-i-init c = reset_none c.args.buffer.now

pub reset_delivered-requires : goal.reset_delivered-requires
reset_delivered-requires c =
    known_at c.loop-i.buffer (numbers_of c.args.buffer.now) c.loop-i.i 0 _ c.loop-i.invariant.same
    (subst (λ (ns : List ℕ). c.loop-i.i < length ns) c.requires (let test = c.loop-i-test.true in omega arith))
    (ap (λ (ns : List ℕ). get_or ns c.loop-i.i 0) c.requires)

pub loop-i-preserved : goal.loop-i-preserved
loop-i-preserved c =
    reset_one c.args.buffer.now c.loop-i.buffer c.reset_delivered.new.self c.loop-i.i 0 _ c.loop-i.invariant
    (subst (λ (ns : List ℕ). c.loop-i.i < length ns) c.requires (let test = c.loop-i-test.true in omega arith))
    (ap (λ (ns : List ℕ). get_or ns c.loop-i.i 0) c.requires) c.reset_delivered.ensures

pub returns-clause-reset : goal.returns-clause-reset
returns-clause-reset c =
    reset_every c.args.buffer.now c.loop-i.buffer c.loop-i.i c.loop-i.invariant
    (subst (λ (ns : List ℕ). length ns ≤ c.loop-i.i) c.requires (let test = c.loop-i-test.false in omega arith))
