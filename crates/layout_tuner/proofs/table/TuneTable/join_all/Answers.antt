use Rattle.std.proofs.Common.{◌≡◌, ◌∙◌, ◌++◌, ◌∷◌, [], List, length, refl, sym, ap, append_assoc, append-nil, arith}
use Rattle.std.proofs.lemmas.List.{length-map, map-append}
use Rattle.std.specs.Vec.Iter.{into_iter_items}
use Rattle.layout_tuner.specs.declared.seats.TuneSeat.{TuneSeat}
use Rattle.layout_tuner.specs.Knows.{Knows, Collector, made_of, joined_of, watch_of, collector_of}
use Rattle.layout_tuner.specs.Plays.{Mine}
use Rattle.layout_tuner.specs.Closed.{views_of, with_view}
use Rattle.layout_tuner.specs.Sits.{known_by}
use Rattle.layout_tuner.proofs.Ending.{next_seat}
use Rattle.layout_tuner.proofs.table.TuneTable.join_all.Goals as goal

nothing_left : (l : List TuneSeat) → length l ≡ 0 → l ≡ []
nothing_left [] none = refl
nothing_left (x ∷ xs) none = absurd (omega arith)

pub join_one-requires-clause-mine : goal.join_one-requires-clause-mine
join_one-requires-clause-mine c =
    let at = c.loop-mine in let steps : into_iter_items at.mine-iterator ≡ c.in-Some.mine ∷ into_iter_items c.next.new.self = c.in-Some.ensures.steps.0 in
    let all = ap (λ l. at.yielded ++ l) (sym steps) ∙ (at.invariant.all ∙ c.into_iter-mine-iterator.ensures.into_iter_gives.0) in
    (next_seat c.args.self.now _ c.args.seats.items at.yielded _ c.in-Some.mine c.requires.seats all).1

pub join_one-requires-clause-next : goal.join_one-requires-clause-next
join_one-requires-clause-next c =
    let at = c.loop-mine in let steps : into_iter_items at.mine-iterator ≡ c.in-Some.mine ∷ into_iter_items c.next.new.self = c.in-Some.ensures.steps.0 in
    let all = ap (λ l. at.yielded ++ l) (sym steps) ∙ (at.invariant.all ∙ c.into_iter-mine-iterator.ensures.into_iter_gives.0) in
    (next_seat c.args.self.now _ c.args.seats.items at.yielded _ c.in-Some.mine c.requires.seats all).0
    ∙ sym (ap (λ (m : Mine). length (joined_of m.0)) at.invariant.me ∙ length-map at.yielded (λ (s : TuneSeat). known_by s))

pub loop-mine-preserved : goal.loop-mine-preserved
loop-mine-preserved c =
    let at = c.loop-mine in let mine = c.in-Some.mine in
    let steps : into_iter_items at.mine-iterator ≡ mine ∷ into_iter_items c.next.new.self = c.in-Some.ensures.steps.0 in
    let known = ap (λ (m : Mine). m.0) at.invariant.me in
    record {
      seat = c.join_one.ensures.seat ∙ at.invariant.seat;
      me = c.join_one.ensures.me
          ∙ (ap (λ (k : Knows). let m : Mine = (Collector (made_of k) (with_view (joined_of k) (known_by mine)) (watch_of k) (collector_of k), []) in m) known
          ∙ ap (λ l. let m : Mine = (Collector (made_of c.args.collect.now.seat.me.0) l (watch_of c.args.collect.now.seat.me.0) (collector_of c.args.collect.now.seat.me.0), []) in m)
          (sym (map-append (λ (s : TuneSeat). known_by s) at.yielded (mine ∷ []))));
      all = append_assoc at.yielded (mine ∷ []) _ ∙ rw (← steps) at.invariant.all;
      count = let was = at.invariant.count in let gone = c.in-Some.ensures.steps.1 in let short = ap length steps in omega arith;
    }

pub returns-clause-me : goal.returns-clause-me
returns-clause-me c =
    let at = c.loop-mine in
    let none = c.in-None.ensures.steps in
    let empty : into_iter_items at.mine-iterator ≡ [] = nothing_left _ (at.invariant.count ∙ none.0) in
    let all = sym (append-nil at.yielded) ∙ rw empty at at.invariant.all ∙ c.into_iter-mine-iterator.ensures.into_iter_gives.0 in
    at.invariant.me ∙ ap (λ l. let m : Mine = (Collector (made_of c.args.collect.now.seat.me.0) (views_of l) (watch_of c.args.collect.now.seat.me.0) (collector_of c.args.collect.now.seat.me.0), []) in m) all
