use Rattle.std.proofs.Common.{◌≡◌, ◌+◌, ℕ, subst, ap}
use Rattle.chunk_plain.specs.Setup.{Setup}
use Rattle.chunk_plain.specs.Views.{ServiceView, taken_of}
use Rattle.service_core.specs.Taking.{IsOther, SeesNoneOf}
use Rattle.service_core.specs.Told.{FreesNext, Isnt, FreesNoneOf}
use Rattle.service_core.proofs.AgreeLemmas.{goes_on, writer_on}
use Rattle.service_core.proofs.ChainLemmas.{takes_behind}
use Rattle.service_core.proofs.LookLemmas.{sees_both}
use Rattle.service_core.proofs.ToldLemmas.{finds_both, frees_behind}
use Rattle.service_core.proofs.service.ServiceCore.take_next.Goals as goal

pub take_among-requires-in-None-clause-writer : goal.take_among-requires-in-None-clause-writer
take_among-requires-in-None-clause-writer g c = writer_on c.take_among.ensures.leaves c.requires.writer

pub returns-in-None-clause-leaves : goal.returns-in-None-clause-leaves
returns-in-None-clause-leaves g c = goes_on c.take_among.ensures.leaves c.take_among-in-None.ensures.leaves

pub returns-in-None-clause-taken : goal.returns-in-None-clause-taken
returns-in-None-clause-taken g c some =
    let means = g.W.Words.means in
    let setup = means.setup c.args.table.now in
    let place = c.args.place in
    let old = means.service_view c.args.table.now c.args.self.now.seat in
    let mid = means.service_view c.take_among.new.table c.take_among.new.self.seat in
    let new = means.service_view c.take_among-in-None.new.table c.take_among-in-None.new.self.seat in
    let none = c.take_among.ensures.none c.in-None.is in
    let next = c.take_among-in-None.ensures.taken some in
    let count_is : (taken_of mid place).count ≡ (taken_of old place).count = ap (λ (v : ServiceView). (taken_of v place).count) none.sees.view in
    let told = means.told c.take_among-in-None.new.table in
    record {
      takes = takes_behind setup place c.args.from (c.args.first + c.args.count) old mid new none.sees next.takes;
      told = λ world is.
          frees_behind setup place (taken_of old place).count c.args.from (c.args.first + c.args.count) world (means.told c.take_among.new.table) told mid new (none.told world is)
          (λ w e. subst (λ (n : ℕ). FreesNext setup place n w told new) count_is
          (subst (λ (s : Setup). FreesNext s place (taken_of mid place).count w told new) c.take_among.ensures.leaves.step.setup_stays (next.told w e)));
    }

pub returns-in-None-clause-none : goal.returns-in-None-clause-none
returns-in-None-clause-none g c empty =
    let means = g.W.Words.means in
    let setup = means.setup c.args.table.now in
    let place = c.args.place in
    let old = means.service_view c.args.table.now c.args.self.now.seat in
    let mid = means.service_view c.take_among.new.table c.take_among.new.self.seat in
    let new = means.service_view c.take_among-in-None.new.table c.take_among-in-None.new.self.seat in
    let none = c.take_among.ensures.none c.in-None.is in
    let also = c.take_among-in-None.ensures.none empty in
    let count_is : (taken_of mid place).count ≡ (taken_of old place).count = ap (λ (v : ServiceView). (taken_of v place).count) none.sees.view in
    let told = means.told c.take_among-in-None.new.table in
    record {
      sees = sees_both IsOther setup place c.args.first c.args.from (c.args.first + c.args.count) old mid new none.sees
          (subst (λ (s : Setup). SeesNoneOf s place c.args.first c.args.from mid new) c.take_among.ensures.leaves.step.setup_stays also.sees);
      told = λ world is.
          finds_both (Isnt place (taken_of old place).count) c.args.first c.args.from (c.args.first + c.args.count) world (means.told c.take_among.new.table) told mid new (none.told world is)
          (λ w e. subst (λ (n : ℕ). FreesNoneOf place n c.args.first c.args.from w told new) count_is (also.told w e));
    }
