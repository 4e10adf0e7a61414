use Rattle.std.proofs.Common.{◌≡◌, ℕ, [], ◌∷◌, ◌∙◌, sym, subst, ap, arith}
use Rattle.chunk_plain.specs.Views.{ServiceView, taken_of}
use Rattle.service_core.specs.Told.{FreesOne, Isnt, FreesNone}
use Rattle.service_core.proofs.ToldLemmas.{finds_begin, finds_more, finds_fewer, frees_next}
use Rattle.chunk_plain.specs.Setup.{Setup, producer_of, IsChunkOf}
use Rattle.service_core.specs.Taking.{IsOther, SeesOther}
use Rattle.service_core.proofs.AgreeLemmas.{goes_begin, goes_on, writer_on}
use Rattle.service_core.proofs.KeptLemmas.{read_count}
use Rattle.service_core.proofs.ChainLemmas.{takes_behind}
use Rattle.service_core.proofs.LookLemmas.{sees_begin, sees_fewer, sees_more}
use Rattle.service_core.proofs.service.ServiceCore.take_among.Goals as goal

pub loop-chunk-preserved : goal.loop-chunk-preserved
loop-chunk-preserved g c =
    let means = g.W.Words.means in
    let i = c.loop-chunk.invariant in
    let setup = means.setup c.args.table.now in
    let place = c.args.place in
    let old = means.service_view c.args.table.now c.args.self.now.seat in
    let mid = means.service_view c.loop-chunk.table c.loop-chunk.self.seat in
    let new = means.service_view c.try_take.new.table c.try_take.new.self.seat in
    let same = i.on.step.setup_stays in
    record {
      on = goes_on i.on c.try_take.ensures.leaves;
      told = λ world is.
          let count_is : (taken_of mid place).count ≡ (taken_of old place).count = ap (λ (v : ServiceView). (taken_of v place).count) i.seen.view in
          finds_more (Isnt place (taken_of old place).count) c.args.first c.loop-chunk.chunk world (means.told c.loop-chunk.table) (means.told c.try_take.new.table) mid new (i.told world is)
          (λ w e. subst (λ (n : ℕ). FreesNone place n c.loop-chunk.chunk w (means.told c.try_take.new.table) new) count_is ((c.try_take.ensures.other c.if-try_take.false).told w e));
      seen = sees_more IsOther setup place c.args.first c.loop-chunk.chunk (means.service_view c.args.table.now c.args.self.now.seat) mid new i.seen
          (subst (λ (s : Setup). SeesOther s place c.loop-chunk.chunk mid new) same (c.try_take.ensures.other c.if-try_take.false).sees);
    }

pub loop-chunk-init : goal.loop-chunk-init
loop-chunk-init g c =
    let means = g.W.Words.means in
    let setup = means.setup c.args.table.now in
    let old = means.service_view c.args.table.now c.args.self.now.seat in
    record {
      on = goes_begin c.requires.writer.service;
      told = λ world is. finds_begin (Isnt c.args.place (taken_of old c.args.place).count) c.args.first world (means.told c.args.table.now) old is
          (g.met.W.Words.told_service_view c.args.table.now c.args.self.now.seat world is c.requires.writer.service.serves);
      seen = sees_begin IsOther setup c.args.place c.args.first old;
    }

pub returns-then-try_take-clause-leaves : goal.returns-then-try_take-clause-leaves
returns-then-try_take-clause-leaves g c = goes_on c.loop-chunk.invariant.on c.try_take.ensures.leaves

pub returns-then-try_take-clause-taken : goal.returns-then-try_take-clause-taken
returns-then-try_take-clause-taken g c _ =
    let means = g.W.Words.means in
    let i = c.loop-chunk.invariant in
    let setup = means.setup c.args.table.now in
    let place = c.args.place in
    let old = means.service_view c.args.table.now c.args.self.now.seat in
    let mid = means.service_view c.loop-chunk.table c.loop-chunk.self.seat in
    let new = means.service_view c.try_take.new.table c.try_take.new.self.seat in
    let one = c.try_take.ensures.taken c.if-try_take.true in
    let count_is : (taken_of mid place).count ≡ (taken_of old place).count = ap (λ (v : ServiceView). (taken_of v place).count) i.seen.view in
    record {
      takes = takes_behind setup place c.args.first c.loop-chunk.chunk old mid new i.seen (record { looks = one.takes.look ∷ []; content = one.takes.content; view = one.takes.view });
      told = λ world is.
          frees_next setup place (taken_of old place).count c.args.first c.loop-chunk.chunk world (means.told c.loop-chunk.table) (means.told c.try_take.new.table) mid new (i.told world is)
          (c.requires.range c.loop-chunk.chunk (omega arith) (omega arith))
          (λ w e. subst (λ (n : ℕ). FreesOne place n c.loop-chunk.chunk w (means.told c.try_take.new.table) new) count_is (one.told w e));
    }

pub returns-clause-none : goal.returns-clause-none
returns-clause-none g c _ =
    let means = g.W.Words.means in
    let i = c.loop-chunk.invariant in
    let place = c.args.place in
    let old = means.service_view c.args.table.now c.args.self.now.seat in
    let new = means.service_view c.loop-chunk.table c.loop-chunk.self.seat in
    record {
      sees = sees_fewer IsOther (means.setup c.args.table.now) place c.args.first c.args.last c.loop-chunk.chunk old new c.loop-chunk-test.false i.seen;
      told = λ world is.
          finds_fewer (Isnt place (taken_of old place).count) c.args.first c.args.last c.loop-chunk.chunk world (means.told c.loop-chunk.table) new c.loop-chunk-test.false (i.told world is);
    }

pub try_take-requires-clause-writer : goal.try_take-requires-clause-writer
try_take-requires-clause-writer g c = writer_on c.loop-chunk.invariant.on c.requires.writer

pub try_take-requires-clause-chunk : goal.try_take-requires-clause-chunk
try_take-requires-clause-chunk g c =
    subst (λ (s : Setup). IsChunkOf s (producer_of s c.args.place) c.loop-chunk.chunk) (sym c.loop-chunk.invariant.on.step.setup_stays)
    (c.requires.range c.loop-chunk.chunk c.loop-chunk.auto.chunk c.loop-chunk-test.true)

pub try_take-requires-clause-next : goal.try_take-requires-clause-next
try_take-requires-clause-next g c =
    let means = g.W.Words.means in
    let place = c.args.place in
    let old = means.service_view c.args.table.now c.args.self.now.seat in
    read_count (means.setup c.args.table.now) old c.args.self.now place c.requires.writer.service.agrees c.requires.writer.inside c.index-position.result.now c.index-position.ensures
    ∙ sym (ap (λ (v : ServiceView). (taken_of v place).count) c.loop-chunk.invariant.seen.view)

pub try_take-requires-clause-position : goal.try_take-requires-clause-position
try_take-requires-clause-position g c =
    let means = g.W.Words.means in
    let place = c.args.place in
    let old = means.service_view c.args.table.now c.args.self.now.seat in
    let is = read_count (means.setup c.args.table.now) old c.args.self.now place c.requires.writer.service.agrees c.requires.writer.inside c.index-position.result.now c.index-position.ensures in
    let few = c.requires.position in
    omega (arith, is, few)
