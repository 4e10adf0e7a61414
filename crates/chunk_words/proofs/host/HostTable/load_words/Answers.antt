use Rattle.std.proofs.Common.{◌≡◌, ◌+◌, ◌/◌, ◌∙◌, length, refl, sym, subst, arith}
use Rattle.chunk_words.specs.Moves.{Loads, LoadsUpTo}
use Rattle.chunk_words.proofs.Loading.{loads_none, loads_next, between_service}
use Rattle.chunk_words.proofs.host.HostTable.load_words.Goals as goal

pub loop-index-init : goal.loop-index-init
loop-index-init c = record { seat = refl; size = refl; loads = loads_none c.args.chunk _ c.args.into.now c.args.seat.now.seat.me c.requires.service }

pub step_load-word-requires-clause-service : goal.step_load-word-requires-clause-service
step_load-word-requires-clause-service c = between_service c.args.chunk c.loop-index.index _ c.loop-index.into c.args.seat.now.seat.me c.loop-index.seat.seat.me c.loop-index.invariant.loads

pub loop-index-preserved : goal.loop-index-preserved
loop-index-preserved c =
    let invariant = c.loop-index.invariant in let size = length c.args.into.now in
    record {
      seat = c.step_load-word.ensures.seat ∙ invariant.seat;
      size = c.put_bytes.ensures.size ∙ invariant.size;
      loads = loads_next c.args.chunk c.loop-index.index size c.step_load-word.result c.loop-index.into c.put_bytes.new.into c.args.seat.now.seat.me c.loop-index.seat.seat.me c.step_load-word.new.seat.seat.me
          invariant.loads (subst (λ n. Loads c.args.chunk c.loop-index.index n c.loop-index.seat.seat.me c.step_load-word.result c.step_load-word.new.seat.seat.me) (sym c.requires.size) c.step_load-word.ensures.me)
          (record { size = c.put_bytes.ensures.size; here = λ m below inside. c.put_bytes.ensures.here m below; before = c.put_bytes.ensures.before }) invariant.size;
    }

pub returns-then-whole-into-clause-me : goal.returns-then-whole-into-clause-me
returns-then-whole-into-clause-me c =
    let size = length c.args.into.now in let whole = size / 8 in let old = c.args.seat.now.seat.me in let step = c.step_load-word-then-whole-into in
    let over = c.loop-index-test.false in let ended = c.loop-index.auto.index-end in let more = c.if-whole-into.true in let many = c.loop-index.invariant.size in
    let here : c.loop-index.index ≡ whole = omega arith in
    let last : whole + 1 ≡ (size + 7) / 8 = omega arith in
    let so_far = subst (λ n. LoadsUpTo c.args.chunk n size c.loop-index.into old c.loop-index.seat.seat.me) here c.loop-index.invariant.loads in
    let all = loads_next c.args.chunk whole size step.result c.loop-index.into c.put_rest.new.into old c.loop-index.seat.seat.me step.new.seat.seat.me
    so_far (subst (λ n. Loads c.args.chunk whole n c.loop-index.seat.seat.me step.result step.new.seat.seat.me) (sym c.requires.size) step.ensures.me)
    (record { size = c.put_rest.ensures.size; here = c.put_rest.ensures.here; before = c.put_rest.ensures.before }) many in
    subst (λ n. LoadsUpTo c.args.chunk ((n + 7) / 8) n c.put_rest.new.into old step.new.seat.seat.me) (sym (c.put_rest.ensures.size ∙ many))
    (subst (λ n. LoadsUpTo c.args.chunk n size c.put_rest.new.into old step.new.seat.seat.me) last all)
