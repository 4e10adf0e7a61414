-- The looks that each writer's rounds end with are made since it told, and show all that it told of.
use Rattle.std.proofs.Common.{◌∙◌, ℕ, length, sym, ap, subst, arith}
use Rattle.chunk_plain.specs.Views.{At, Completed, ServiceView, taken_of}
use Rattle.chunk_words.specs.Knows.{Desk}
use Rattle.chunk_words.specs.Sits.{setup_in}
use Rattle.thread_service.specs.Serving.{view_in, desk_in}
use Rattle.thread_service.specs.Settling.{IsSeenOut, TakesAllOut}
use Rattle.thread_service.proofs.Standing.{stays_on}
use Rattle.thread_service.proofs.SettlingLemmas.{all_out_own, told_out}
use Rattle.thread_service.proofs.service.Service.settle.Goals as goal

pub returns-clause-own : goal.returns-clause-own
returns-clause-own c =
    let setup = setup_in c.args.table.now in
    ap (λ (v : ServiceView). v.commits) c.recall.ensures.same.view
    ∙ all_out_own setup c.args.producers (view_in c.args.self.now) (view_in c.collect_all_out.new.self) c.collect_all_out.ensures.takes

pub returns-clause-stays : goal.returns-clause-stays
returns-clause-stays c = stays_on c.collect_all_out.ensures.stays
    (record { serves = c.recall.ensures.serves; desk = c.recall.ensures.desk; letters = ap (λ (v : ServiceView). v.letters) c.recall.ensures.same.view })

pub returns-clause-takes : goal.returns-clause-takes
returns-clause-takes c =
    let setup = setup_in c.args.table.now in
    subst (λ (v : ServiceView). TakesAllOut setup (length setup.ranges) (view_in c.args.self.now) v) (sym c.recall.ensures.same.view)
    (subst (λ (n : ℕ). TakesAllOut setup n (view_in c.args.self.now) (view_in c.collect_all_out.new.self)) c.requires.producers c.collect_all_out.ensures.takes)

pub returns-clause-taken : goal.returns-clause-taken
returns-clause-taken c i tale told whole =
    let setup = setup_in c.args.table.now in
    let old = view_in c.args.self.now in
    let view = view_in c.recall.new.self in
    let same = c.recall.ensures.desk ∙ c.collect_all_out.ensures.stays.desk in
    let most = (c.requires.serves.agrees.routed.producers tale.place whole.inside).most in
    let many = c.requires.producers in
    let seen = subst (λ (v : ServiceView). IsSeenOut setup (length old.looks) tale.place v) (sym c.recall.ensures.same.view)
    (c.collect_all_out.ensures.seen tale.place whole.inside (omega (arith, most, many))) in
    told_out setup (length old.looks) i view (desk_in c.recall.new.self) tale c.recall.ensures.shown
    (subst (λ (d : Desk). At d.told i tale) (sym same) told) whole.heard seen whole.complete
    (λ chunk content at. whole.own (taken_of view tale.place).count (Completed chunk content) at) whole.few
