use Rattle.std.proofs.Common.{◌≡◌, ◌+◌, ℕ, ap, subst, arith, rules}
use Rattle.chunk_plain.specs.Setup.{Setup}
use Rattle.service_core.specs.Taking.{IsOther, SeesNoneOf}
use Rattle.service_core.proofs.AgreeLemmas.{goes_begin, goes_on, writer_on}
use Rattle.service_core.proofs.ChainLemmas.{takes_none_yet, takes_more, takes_until}
use Rattle.chunk_plain.specs.Views.{ServiceView, taken_of}
use Rattle.chunk_plain.specs.Setup.{range_of, producer_of}
use Rattle.service_core.specs.Taking.{IsRange}
use Rattle.service_core.specs.Told.{FreesNext, FreesNoneOf, FreesSome}
use Rattle.service_core.proofs.ToldLemmas.{frees_some_yet, frees_some_more, none_by_count, none_by_ids, none_by_looks}
use Rattle.service_core.proofs.LookLemmas.{sees_all}
use Rattle.service_core.proofs.KeptLemmas.{has_place, read_count, range_is}
use Rattle.service_core.proofs.service.ServiceCore.take_all.Goals as goal

pub loop-taken-init : goal.loop-taken-init
loop-taken-init g c =
    let means = g.W.Words.means in
    record {
      on = goes_begin c.requires.writer.service;
      told = λ world is. frees_some_yet (means.setup c.args.table.now) c.args.place world (means.told c.args.table.now) (means.service_view c.args.table.now c.args.self.now.seat) is
          (g.met.W.Words.told_service_view c.args.table.now c.args.self.now.seat world is c.requires.writer.service.serves);
      from = (omega arith, omega arith);
      some = takes_none_yet (means.service_view c.args.table.now c.args.self.now.seat) c.args.place;
    }

pub take_next-requires-clause-writer : goal.take_next-requires-clause-writer
take_next-requires-clause-writer g c = writer_on c.loop-taken.invariant.on c.requires.writer

pub loop-taken-preserved : goal.loop-taken-preserved
loop-taken-preserved g c =
    let means = g.W.Words.means in
    let i = c.loop-taken.invariant in
    let setup = means.setup c.args.table.now in
    let place = c.args.place in
    let old = means.service_view c.args.table.now c.args.self.now.seat in
    let mid = means.service_view c.loop-taken.table c.loop-taken.self.seat in
    let new = means.service_view c.take_next.new.table c.take_next.new.self.seat in
    let same = i.on.step.setup_stays in
    let inside = has_place setup old c.args.self.now place c.requires.writer.service.agrees c.requires.writer.inside in
    let next = c.take_next.ensures.taken (search rules) in
    record {
      on = goes_on i.on c.take_next.ensures.leaves;
      told = λ world is. frees_some_more setup place c.loop-taken.taken (taken_of mid place).count world (means.told c.loop-taken.table) (means.told c.take_next.new.table) mid new (i.told world is)
          (λ w e. subst (λ (s : Setup). FreesNext s place (taken_of mid place).count w (means.told c.take_next.new.table) new) same (next.told w e));
      from = search rules;
      some = takes_more place c.loop-taken.taken old mid new inside i.some next.takes;
    }

pub returns-in-None-clause-takes : goal.returns-in-None-clause-takes
returns-in-None-clause-takes g c =
    let means = g.W.Words.means in
    let i = c.loop-taken.invariant in
    let setup = means.setup c.args.table.now in
    let place = c.args.place in
    let old = means.service_view c.args.table.now c.args.self.now.seat in
    let mid = means.service_view c.loop-taken.table c.loop-taken.self.seat in
    let new = means.service_view c.take_next.new.table c.take_next.new.self.seat in
    let none = c.take_next.ensures.none (search rules) in
    let range : IsRange (range_of setup (producer_of setup place)) c.chunks_of-first.result.0 c.chunks_of-first.result.1 =
    range_is setup old c.args.self.now place c.requires.writer.service.agrees c.requires.writer.inside c.index.result.now c.chunks_of-first.result c.index.ensures c.chunks_of-first.ensures in
    let many = range.count_is in
    let below = c.loop-taken-test.true in
    let seen = subst (λ (s : Setup). SeesNoneOf s place c.chunks_of-first.result.0 (c.chunks_of-first.result.0 + c.chunks_of-first.result.1) mid new) i.on.step.setup_stays none.sees in
    takes_until setup place c.loop-taken.taken old mid new i.some
    (sees_all IsOther setup place c.chunks_of-first.result.0 c.chunks_of-first.result.1 (c.chunks_of-first.result.0 + c.chunks_of-first.result.1) mid new range (omega arith) seen) (omega (arith, many, below))

pub returns-in-None-clause-told : goal.returns-in-None-clause-told
returns-in-None-clause-told g c world is =
    let means = g.W.Words.means in
    let i = c.loop-taken.invariant in
    let setup = means.setup c.args.table.now in
    let place = c.args.place in
    let old = means.service_view c.args.table.now c.args.self.now.seat in
    let mid = means.service_view c.loop-taken.table c.loop-taken.self.seat in
    let new = means.service_view c.take_next.new.table c.take_next.new.self.seat in
    let none = c.take_next.ensures.none (search rules) in
    let range : IsRange (range_of setup (producer_of setup place)) c.chunks_of-first.result.0 c.chunks_of-first.result.1 =
    range_is setup old c.args.self.now place c.requires.writer.service.agrees c.requires.writer.inside c.index.result.now c.chunks_of-first.result c.index.ensures c.chunks_of-first.ensures in
    none_by_looks setup place c.loop-taken.taken world (means.told c.loop-taken.table) (means.told c.take_next.new.table) mid new (i.told world is)
    (ap (λ (v : ServiceView). (taken_of v place).count) none.sees.view)
    (λ w e. subst (λ (n : ℕ). FreesNoneOf place (taken_of mid place).count n (n + (range_of setup (producer_of setup place)).count) w (means.told c.take_next.new.table) new) range.first_is
    (subst (λ (n : ℕ). FreesNoneOf place (taken_of mid place).count c.chunks_of-first.result.0 (c.chunks_of-first.result.0 + n) w (means.told c.take_next.new.table) new) range.count_is
    (none.told w e)))

pub returns-then-index-clause-told : goal.returns-then-index-clause-told
returns-then-index-clause-told g c world is =
    let means = g.W.Words.means in
    let i = c.loop-taken.invariant in
    let setup = means.setup c.args.table.now in
    let place = c.args.place in
    none_by_ids setup place c.loop-taken.taken world (means.told c.loop-taken.table) (means.service_view c.loop-taken.table c.loop-taken.self.seat) (i.told world is)
    (let view = means.service_view c.loop-taken.table c.loop-taken.self.seat in
    let count = read_count setup view c.loop-taken.self place i.on.agrees c.requires.writer.inside c.index-in-loop-taken.result.now c.index-in-loop-taken.ensures in
    let last = c.if-index.true in
    omega (arith, count, last))

pub returns-clause-told : goal.returns-clause-told
returns-clause-told g c world is =
    let means = g.W.Words.means in
    let i = c.loop-taken.invariant in
    let setup = means.setup c.args.table.now in
    let place = c.args.place in
    let old = means.service_view c.args.table.now c.args.self.now.seat in
    let view = means.service_view c.loop-taken.table c.loop-taken.self.seat in
    let range = range_is setup old c.args.self.now place c.requires.writer.service.agrees c.requires.writer.inside c.index.result.now c.chunks_of-first.result c.index.ensures c.chunks_of-first.ensures in
    let all = c.loop-taken-test.false in
    let most = c.loop-taken.auto.taken-end in
    let done : c.loop-taken.taken ≡ c.chunks_of-first.result.1 = omega (arith, all, most) in
    none_by_count setup place c.chunks_of-first.result.1 world (means.told c.loop-taken.table) view
    (subst (λ (n : ℕ). FreesSome setup place n world (means.told c.loop-taken.table) view) done (i.told world is)) (let many = range.count_is in omega (arith, many))
