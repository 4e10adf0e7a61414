use Rattle.std.proofs.Common.{◌≡◌, ◌+◌, ◌∙◌, refl, subst, arith}
use Rattle.chunk_words.specs.Moves.{Stores}
use Rattle.chunk_words.proofs.Storing.{stores_none, stores_next, between_holds, between_keeps}
use Rattle.chunk_words.proofs.host.HostTable.store_words.Goals as goal

pub loop-index-init : goal.loop-index-init
loop-index-init c =
    let seat = c.args.seat.now in
    record { seat = refl; place = refl; stores = stores_none seat.place c.args.chunk c.args.position c.args.first c.args.copy.now seat.seat.me c.requires.seat.idle c.requires.may.held }

pub step_publish-requires-clause-held : goal.step_publish-requires-clause-held
step_publish-requires-clause-held c =
    between_holds c.args.chunk c.args.position c.args.first c.loop-index.index c.args.copy.now c.args.seat.now.seat.me c.loop-index.seat.seat.me c.loop-index.invariant.stores c.requires.may.held

pub step_publish-requires-clause-kept : goal.step_publish-requires-clause-kept
step_publish-requires-clause-kept c =
    between_keeps c.args.chunk c.args.position c.args.first c.loop-index.index c.whole_word-word.result c.args.copy.now c.args.seat.now.seat.me c.loop-index.seat.seat.me c.loop-index.invariant.stores c.requires.may.held c.requires.may.kept c.whole_word-word.ensures

pub loop-index-preserved : goal.loop-index-preserved
loop-index-preserved c =
    let invariant = c.loop-index.invariant in
    record {
      seat = c.step_publish.ensures.seat ∙ invariant.seat;
      place = c.step_publish.ensures.place ∙ invariant.place;
      stores = stores_next c.args.chunk c.args.position c.args.first c.loop-index.index c.whole_word-word.result c.args.copy.now c.args.seat.now.seat.me c.loop-index.seat.seat.me c.step_publish.new.seat.seat.me
          invariant.stores c.step_publish.ensures.me c.requires.may.held c.loop-index.auto.index c.whole_word-word.ensures;
    }

pub step_publish-requires-then-whole-end-clause-held : goal.step_publish-requires-then-whole-end-clause-held
step_publish-requires-then-whole-end-clause-held c =
    between_holds c.args.chunk c.args.position c.args.first c.loop-index.index c.args.copy.now c.args.seat.now.seat.me c.loop-index.seat.seat.me c.loop-index.invariant.stores c.requires.may.held

pub step_publish-requires-then-whole-end-clause-kept : goal.step_publish-requires-then-whole-end-clause-kept
step_publish-requires-then-whole-end-clause-kept c =
    let over = c.loop-index-test.false in let ended = c.loop-index.auto.index-end in
    let here : c.loop-index.index ≡ c.max-whole.result = omega arith in
    let so_far = subst (λ n. Stores c.args.chunk c.args.position c.args.first n c.args.copy.now c.args.seat.now.seat.me c.loop-index.seat.seat.me) here c.loop-index.invariant.stores in
    between_keeps c.args.chunk c.args.position c.args.first c.max-whole.result c.pack-word.result c.args.copy.now c.args.seat.now.seat.me c.loop-index.seat.seat.me so_far c.requires.may.held c.requires.may.kept c.pack-word.ensures

pub returns-then-whole-end : goal.returns-then-whole-end
returns-then-whole-end c =
    let over = c.loop-index-test.false in let ended = c.loop-index.auto.index-end in
    let whole = c.max-whole.result in let few = c.min.ensures in let most = c.max-whole.ensures in
    let order = c.requires.may.order in let inside = c.requires.may.inside in let more = c.if-whole-end.true in
    let here : c.loop-index.index ≡ whole = omega arith in
    let last : whole + 1 ≡ c.args.end = omega arith in
    let so_far = subst (λ n. Stores c.args.chunk c.args.position c.args.first n c.args.copy.now c.args.seat.now.seat.me c.loop-index.seat.seat.me) here c.loop-index.invariant.stores in
    let put = c.step_publish-then-whole-end in
    record {
      seat = put.ensures.seat ∙ c.loop-index.invariant.seat;
      place = put.ensures.place ∙ c.loop-index.invariant.place;
      me = subst (λ n. Stores c.args.chunk c.args.position c.args.first n c.args.copy.now c.args.seat.now.seat.me put.new.seat.seat.me) last
          (stores_next c.args.chunk c.args.position c.args.first whole c.pack-word.result c.args.copy.now c.args.seat.now.seat.me c.loop-index.seat.seat.me put.new.seat.seat.me
          so_far put.ensures.me c.requires.may.held (omega arith) c.pack-word.ensures);
    }
