use native.Mathlib.Decide.{ℕ_discrete}
use mathlib.Core.Logic.{dite}
use Rattle.std.proofs.lemmas.List.{get_or-set_same, get_or-set_other}
use Rattle.std.proofs.Common.{◌≡◌, ℕ, ◌<◌, ◌∙◌, get_or, set, length, refl, ap, sym, subst, arith}
use Rattle.std.specs.Mem.Slots.{slots_items}
use Rattle.atomic_table.specs.Table.{Final, Seen}
use Rattle.layout_tuner.specs.declared.table.Shape.{Shape}
use Rattle.layout_tuner.specs.PageWords.{line, layout_in, generation_in}
use Rattle.layout_tuner.specs.Knows.{Knows, Collector, watch_of, collector_of}
use Rattle.layout_tuner.specs.World.{IsLaid}
use Rattle.layout_tuner.specs.Rule.{IsTuned}
use Rattle.layout_tuner.specs.Plays.{Mine}
use Rattle.layout_tuner.specs.Closed.{IsUnused, IsClosed, view_at, views_of}
use Rattle.layout_tuner.proofs.Puts.{total-same}
use Rattle.layout_tuner.proofs.Ending.{at_get, table_ends}
use Rattle.layout_tuner.proofs.table.TuneTable.close.Goals as goal

ends : (c : goal.After-free) → IsClosed c.args.self.shape c.args.seats.items (collector_of c.args.collect.seat.me.0)
    (λ page. get_or (slots_items c.close_with-closed.result.words) (line page) 0)
ends c =
    let self = c.args.self in let me = c.args.collect.seat.me.0 in let seats = c.args.seats.items in let last = c.join_all.new.collect.seat in
    let words = slots_items c.close_with-closed.result.words in let slots = slots_items c.close_with-closed.result.slots in
    let final = subst (λ (k : Knows). Final (Seen (IsTuned self.shape) last.id k) words slots) (ap (λ (m : Mine). m.0) c.join_all.ensures.me)
    (subst (λ (s : Shape). Final (Seen (IsTuned s) last.id last.me.0) words slots) self.key c.close_with-closed.ensures.values.2) in
    table_ends self last.id seats (watch_of me) (collector_of me) words slots
    (subst (λ n. Final (Seen (IsTuned self.shape) last.id (Collector n (views_of seats) (watch_of me) (collector_of me))) words slots) c.requires.collect.serving.all_made final)
    c.requires.seats c.requires.collect.none_read c.requires.caught_up

-- the vector has the words of the pages
word_of : (c : goal.After-free) (page : ℕ) → page < c.args.self.shape.pages → get_or c.loop-page.last.items page 0 ≡ get_or (slots_items c.close_with-closed.result.words) (line page) 0
word_of c page below = c.loop-page.invariant.each page (let past = c.loop-page-test.false in omega (arith, below, past))

pub loop-page-init : goal.loop-page-init
loop-page-init c = record { many = refl; each = λ p below. absurd (omega (arith, below)) }

pub loop-page-preserved : goal.loop-page-preserved
loop-page-preserved c =
    let invariant = c.loop-page.invariant in let page = c.loop-page.page in let items = c.loop-page.last.items in let word = c.word.result in
    let inside : page < length items = let many = invariant.many in let all = c.args.self.last_count in let len = c.loop-page.last.ok.0 in let below = c.loop-page-test.true in omega (arith, many, all, len, below) in
    record {
      many = invariant.many;
      each = λ p below. dite (ℕ_discrete p page)
          (λ same. subst (λ q. get_or (set items page word) q 0 ≡ get_or (slots_items c.close_with-closed.result.words) (line q) 0) (sym same)
          (get_or-set_same items page word 0 inside ∙ sym (at_get (slots_items c.close_with-closed.result.words) (line page) 0 word c.word.ensures)))
          (λ differs. get_or-set_other items page p word 0 differs ∙ invariant.each p (omega (arith, below, differs)));
    }

pub returns-clause-pages : goal.returns-clause-pages
returns-clause-pages c = let many = c.loop-page.invariant.many in let all = c.args.self.last_count in let len = c.loop-page.last.ok.0 in omega (arith, many, all, len)

pub returns-clause-closed : goal.returns-clause-closed
returns-clause-closed c =
    let all = ends c in let shape = c.args.self.shape in let seats = c.args.seats.items in
    record {
      unused = λ page below. subst IsUnused (sym (word_of c page below)) (all.unused page below);
      taken = all.taken;
      all_taken = all.all_taken;
      generations = λ page below. ap generation_in (word_of c page below) ∙ all.generations page below;
      laid = λ page below. subst (λ w. IsLaid shape.users (λ user. view_at seats user) page (layout_in w) (generation_in w)) (sym (word_of c page below)) (all.laid page below);
      all_retiled = total-same shape.pages (λ page. generation_in (get_or c.loop-page.last.items page 0)) (λ page. generation_in (get_or (slots_items c.close_with-closed.result.words) (line page) 0))
          (λ page below. ap generation_in (word_of c page below)) ∙ all.all_retiled;
    }
