use Rattle.std.proofs.Common.{◌≡◌, ◌-◌, ◌+◌, ◌<◌, ◌∙◌, ℕ, Bool, true, not, Option, Some, None, IfSome, IfNone, is_some, length, sym, ap, subst, true≢false, arith, rules}
use Rattle.table_speed.specs.Taking.{HasTakenEach, TakesNone, TakesOne}
use Rattle.table_speed.proofs.TakenLemmas.{as_before, one_more}
use Rattle.table_speed.proofs.service.take_next.Goals as goal
use Rattle.table_speed.proofs.service.take_next.Goals.{then-header-id-via-then-header-id, then-header-id-via-else-header-id+then-is_none}

none_told : {X : Type 0} (o : Option X) (P : Type 0) (b : Bool) → IfNone o P → is_some o ≡ not b → b ≡ true → P
none_told None P b is some none = is
none_told (Some x) P b is some none = absurd (true≢false (some ∙ ap not none))

some_told : {X : Type 0} (o : Option X) (P : Type 0) → IfSome o (λ _. P) → is_some o ≡ true → P
some_told None P is some = absurd (true≢false (sym some))
some_told (Some x) P is some = is

pub returns-then-header-id-clause-taken : goal.returns-then-header-id-clause-taken
returns-then-header-id-clause-taken c =
    let counts = c.args.counts.now in
    let looked = as_before counts c.args.seat.now c.find-header.new.seat c.requires.taken c.find-header.ensures.none in
    elim c.then-header-id.branch [
      | then-header-id-via-then-header-id w ↦ subst (HasTakenEach counts) (sym w.seat-is) looked
      | then-header-id-via-else-header-id+then-is_none w ↦
          let none = none_told w.take_one.result (TakesNone c.find-header.new.seat w.take_one.new.seat) w.is_none.result w.take_one.ensures.other w.is_none.ensures w.if-is_none.true in
          subst (HasTakenEach counts) (sym w.seat-is) (as_before counts c.find-header.new.seat w.take_one.new.seat looked none)
    ]

pub returns-clause-taken : goal.returns-clause-taken
returns-clause-taken c =
    let counts = c.args.counts.now in let old = c.find-header.new.seat in let new = c.take_one.new.seat in
    let writer = c.find-header.result.writer_id in let place = c.from-place.result in
    let looked = as_before counts c.args.seat.now old c.requires.taken c.find-header.ensures.none in
    let took : TakesOne (writer - 1) old new = some_told c.take_one.result (TakesOne (writer - 1) old new) c.take_one.ensures.taken c.if-is_none.ensures in
    let here : place ≡ writer - 1 = c.from-place.ensures in
    let most = c.if-writer-gt4.false in let some = c.if-writer-eq0.false in
    let low : place < 4 = omega (arith, most, some, here) in
    let inside : place < length counts = first_of (search rules, omega (arith, low)) in
    one_more counts old new place c.in-Some.more inside (c.in-Some.ensures.1 ∙ ap (λ (n : ℕ). n + 1) (sym (looked.counts_are place low))) looked
    (subst (λ (p : ℕ). TakesOne p old new) (sym here) took)
