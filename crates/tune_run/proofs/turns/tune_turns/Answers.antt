use Rattle.std.proofs.Common.{◌≡◌, ◌+◌, ◌∙◌, suc, refl, subst, arith}
use Rattle.layout_tuner.specs.Sits.{known_by}
use Rattle.tune_run.specs.Turns.{TakesTurns, AddsUp}
use Rattle.tune_run.proofs.Sums.{turns_add_up}
use Rattle.tune_run.proofs.turns.tune_turns.Goals as goal

pub loop-turn-init : goal.loop-turn-init
loop-turn-init t c = record { seat = c.requires.seat; number = refl; turns = (refl, c.new-counts.ensures) }

pub one_turn-deed-requires-clause-free : goal.one_turn-deed-requires-clause-free
one_turn-deed-requires-clause-free t c =
    (turns_add_up c.args.table.now.shape.pages c.args.user c.loop-turn.turn c.loop-turn.counts (known_by c.args.seat.now) (known_by c.loop-turn.seat) c.requires.free c.loop-turn.invariant.turns).leaves.free

pub count-requires : goal.count-requires
count-requires t c =
    let all = turns_add_up c.args.table.now.shape.pages c.args.user c.loop-turn.turn c.loop-turn.counts (known_by c.args.seat.now) (known_by c.loop-turn.seat) c.requires.free c.loop-turn.invariant.turns in
    let claims = all.claims in let retiles = all.retiles in let below = c.loop-turn-test.true in let few = c.requires.turns.most in
    omega (arith, claims, retiles, below, few)

pub loop-turn-preserved : goal.loop-turn-preserved
loop-turn-preserved t c =
    let invariant = c.loop-turn.invariant in
    record {
      seat = c.one_turn-deed.ensures.seat;
      number = c.one_turn-deed.ensures.number ∙ invariant.number;
      turns = subst (λ n. TakesTurns c.args.table.now.shape.pages c.args.user n (known_by c.args.seat.now) (known_by c.one_turn-deed.new.seat) c.count.new.self)
          (let e : suc c.loop-turn.turn ≡ c.loop-turn.turn + 1 = omega arith in e)
          (known_by c.loop-turn.seat, c.loop-turn.counts, c.one_turn-deed.result, invariant.turns, c.one_turn-deed.ensures.turn, c.count.ensures);
    }

pub returns-clause-sums : goal.returns-clause-sums
returns-clause-sums t c =
    let old = known_by c.args.seat.now in let new = known_by c.loop-turn.seat in let counts = c.loop-turn.counts in
    let ended : c.loop-turn.turn ≡ c.args.turns = let past = c.loop-turn-test.false in let end = c.loop-turn.auto.turn-end in omega (arith, past, end) in
    subst (λ n. AddsUp c.args.user n counts old new) ended
    (turns_add_up c.args.table.now.shape.pages c.args.user c.loop-turn.turn counts old new c.requires.free c.loop-turn.invariant.turns)
