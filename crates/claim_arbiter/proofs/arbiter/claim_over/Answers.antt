use Rattle.std.proofs.Common.{◌≡◌, ℕ, ◌+◌, ◌-◌, ◌<◌, ◌∙◌, true, false, Some, length, subst, sym, refl, ap, arith}
use Rattle.chunk_plain.specs.World.{Unclaimed, Claimed, Writing, status}
use Rattle.chunk_plain.specs.Steps.{moved, with_writer_view}
use Rattle.chunk_plain.specs.Owned.{held_count}
use Rattle.chunk_plain.specs.Drafts.{draft_at}
use Rattle.chunk_plain.specs.Words.{HasClaimed, TriesClaim, BeginsChunk}
use Rattle.chunk_plain.proofs.Holding.{claims_has, begins_holds}
use Rattle.chunk_plain.proofs.SeatSteps.{stays, steps_follow}
use Rattle.chunk_plain.specs.Setup.{Setup, spot}
use Rattle.claim_arbiter.specs.Claiming.{AsksInVain, ClaimsInTurn, NoneFree}
use Rattle.claim_arbiter.proofs.Turns as turns
use Rattle.claim_arbiter.proofs.arbiter.claim_over.Goals as goal

pub loop-chunk-init : goal.loop-chunk-init
loop-chunk-init g c =
    let table = c.args.table.now in let seat = c.args.seat.now in let first = c.args.arbiter.now.first in
    let setup = g.W.Words.means.setup table in let view = g.W.Words.means.view table seat in
    let zero_is : 0 ≡ first - first = omega arith in
    record {
      step = stays g.W.Words.means table seat c.requires.seat;
      vain = subst (λ n. AsksInVain setup first n view view) zero_is (turns.vain_none setup first view);
      counted = refl {a = c.args.steps.now + first};
      told = λ world told. (
        (λ chunk least below free. absurd (omega arith)),
        told ∙ turns.noted_same world (g.W.Words.means.place seat) view (g.met.W.Words.told_view table seat world told c.requires.seat),
      );
    }

-- the writer has begun no chunk by its claim, and its place and the set-up are as they were
pub begin-requires-clause-may : goal.begin-requires-clause-may
begin-requires-clause-may g c =
    let i = c.loop-chunk.invariant in let mid = g.W.Words.means.view c.loop-chunk.table c.loop-chunk.seat in
    let won = g.W.Words.means.view c.claim_try.new.self c.claim_try.new.seat in let wins = c.in-Some.ensures.won in
    let same = turns.begun_same (g.W.Words.means.setup c.args.table.now) c.args.arbiter.now.first (c.loop-chunk.chunk - c.args.arbiter.now.first) c.loop-chunk.chunk (g.W.Words.means.view c.args.table.now c.args.seat.now) mid won i.vain
    (subst (λ s. TriesClaim s c.loop-chunk.chunk true mid won) i.step.setup_stays wins) in
    record {
      claimed = subst (λ d. HasClaimed won d) (sym c.in-Some.ensures.chunk) (claims_has mid won c.loop-chunk.chunk wins.found wins.view);
      id_is = turns.same_id (g.W.Words.means.setup c.args.table.now) (g.W.Words.means.setup c.claim_try.new.self) (g.W.Words.means.place c.args.seat.now) (g.W.Words.means.place c.claim_try.new.seat)
          (length (g.W.Words.means.view c.args.table.now c.args.seat.now).begun) (length won.begun) c.args.id
          (c.in-Some.ensures.step.setup_stays ∙ i.step.setup_stays) (c.in-Some.ensures.step.place_stays ∙ i.step.place_stays) same c.requires.id;
      few_begun = subst (λ (n : ℕ). n < 4294967295) (sym same) c.requires.few_begun;
    }

pub begin-requires-clause-few : goal.begin-requires-clause-few
begin-requires-clause-few g c =
    let i = c.loop-chunk.invariant in let mid = g.W.Words.means.view c.loop-chunk.table c.loop-chunk.seat in
    let won = g.W.Words.means.view c.claim_try.new.self c.claim_try.new.seat in
    let wins = subst (λ s. TriesClaim s c.loop-chunk.chunk true mid won) i.step.setup_stays c.in-Some.ensures.won in
    let same = turns.held_same (g.W.Words.means.setup c.args.table.now) c.args.arbiter.now.first (c.loop-chunk.chunk - c.args.arbiter.now.first) c.loop-chunk.chunk (g.W.Words.means.view c.args.table.now c.args.seat.now) mid won i.vain wins in
    subst (λ l. held_count l < 2) (sym same) c.requires.few

pub returns-in-Some-clause-begun : goal.returns-in-Some-clause-begun
returns-in-Some-clause-begun g c =
    let i = c.loop-chunk.invariant in let mid = g.W.Words.means.view c.loop-chunk.table c.loop-chunk.seat in
    let won = g.W.Words.means.view c.claim_try.new.self c.claim_try.new.seat in
    let wins = subst (λ s. TriesClaim s c.loop-chunk.chunk true mid won) i.step.setup_stays c.in-Some.ensures.won in
    let same = turns.begun_same (g.W.Words.means.setup c.args.table.now) c.args.arbiter.now.first (c.loop-chunk.chunk - c.args.arbiter.now.first) c.loop-chunk.chunk (g.W.Words.means.view c.args.table.now c.args.seat.now) mid won i.vain wins in
    let held = c.begin.ensures.held in
    record {
      chunk_is = refl;
      position_is = held.position_is ∙ same;
      whole = held.whole ∙ (ap (λ (s : Setup). (spot s c.in-Some.claimed.chunk).payload_size) (c.in-Some.ensures.step.setup_stays ∙ i.step.setup_stays)
          ∙ ap (λ (d : ℕ). (spot (g.W.Words.means.setup c.args.table.now) d).payload_size) (sym held.chunk_is));
      empty = held.empty;
    }

pub returns-in-Some-clause-won : goal.returns-in-Some-clause-won
returns-in-Some-clause-won g c =
    let i = c.loop-chunk.invariant in let chunk = c.loop-chunk.chunk in let first = c.args.arbiter.now.first in let chunks = c.args.arbiter.now.chunks in
    let setup = g.W.Words.means.setup c.args.table.now in let old = g.W.Words.means.view c.args.table.now c.args.seat.now in
    let mid = g.W.Words.means.view c.loop-chunk.table c.loop-chunk.seat in let won = g.W.Words.means.view c.claim_try.new.self c.claim_try.new.seat in
    let new = g.W.Words.means.view c.begin.new.self c.begin.new.seat in
    let wins = subst (λ s. TriesClaim s chunk true mid won) i.step.setup_stays c.in-Some.ensures.won in
    let setup_is = c.in-Some.ensures.step.setup_stays ∙ i.step.setup_stays in
    let begun = subst (λ s. BeginsChunk s chunk won new) setup_is (subst (λ d. BeginsChunk (g.W.Words.means.setup c.claim_try.new.self) d won new) c.in-Some.ensures.chunk c.begin.ensures.view) in
    let rests = (g.met.W.Words.rests c.args.table.now c.args.seat.now c.requires.seat).stamped in
    subst (λ d. ClaimsInTurn setup first chunks d old new) (sym (c.begin.ensures.held.chunk_is ∙ c.in-Some.ensures.chunk))
    (turns.turn_won setup first (chunk - first) chunks chunk old mid won new (omega arith) (omega arith) i.vain wins begun rests)

pub returns-in-Some-clause-holding : goal.returns-in-Some-clause-holding
returns-in-Some-clause-holding g c =
    let i = c.loop-chunk.invariant in let mid = g.W.Words.means.view c.loop-chunk.table c.loop-chunk.seat in
    let won = g.W.Words.means.view c.claim_try.new.self c.claim_try.new.seat in
    let wins = subst (λ s. TriesClaim s c.loop-chunk.chunk true mid won) i.step.setup_stays c.in-Some.ensures.won in
    let same = turns.begun_same (g.W.Words.means.setup c.args.table.now) c.args.arbiter.now.first (c.loop-chunk.chunk - c.args.arbiter.now.first) c.loop-chunk.chunk (g.W.Words.means.view c.args.table.now c.args.seat.now) mid won i.vain wins in
    let n = length (g.W.Words.means.view c.args.table.now c.args.seat.now).begun in
    begins_holds (g.W.Words.means.setup c.claim_try.new.self) won (g.W.Words.means.view c.begin.new.self c.begin.new.seat) c.in-Some.claimed.chunk n c.begin.result.chunk n
    c.begin.ensures.view (sym same) c.begin.ensures.held.chunk_is (refl {a = n})

pub returns-in-Some-clause-told_won : goal.returns-in-Some-clause-told_won
returns-in-Some-clause-told_won g c = λ world told.
    let i = c.loop-chunk.invariant in let chunk = c.loop-chunk.chunk in let first = c.args.arbiter.now.first in
    let place = g.W.Words.means.place c.args.seat.now in let other = g.W.Words.means.place c.loop-chunk.seat in let last = g.W.Words.means.place c.claim_try.new.seat in
    let mid = g.W.Words.means.view c.loop-chunk.table c.loop-chunk.seat in let won = g.W.Words.means.view c.claim_try.new.self c.claim_try.new.seat in
    let new = g.W.Words.means.view c.begin.new.self c.begin.new.seat in
    let before = i.told world told in
    let claimed = c.in-Some.ensures.told (with_writer_view world place mid) before.1 in
    let begun = c.begin.ensures.told (moved (with_writer_view world place mid) other won chunk (Claimed other)) claimed.1 in
    let chunk_is = c.begin.ensures.held.chunk_is ∙ c.in-Some.ensures.chunk in
    let last_is = c.in-Some.ensures.step.place_stays ∙ i.step.place_stays in
    let m = length won.begun in let n = length (g.W.Words.means.view c.args.table.now c.args.seat.now).begun in
    let at = turns.told_begun (g.W.Words.means.told c.begin.new.self) world place other last chunk c.in-Some.claimed.chunk m mid won new (draft_at new m) i.step.place_stays last_is c.in-Some.ensures.chunk begun in
    let wins = subst (λ s. TriesClaim s chunk true mid won) i.step.setup_stays c.in-Some.ensures.won in
    let same = turns.begun_same (g.W.Words.means.setup c.args.table.now) first (chunk - first) chunk (g.W.Words.means.view c.args.table.now c.args.seat.now) mid won i.vain wins in
    let then = subst (λ (j : ℕ). g.W.Words.means.told c.begin.new.self ≡ Some (moved world place new chunk (Writing place j (draft_at new j)))) same at in
    subst (λ d. NoneFree world first d × ∥ status world d ≡ Unclaimed ∥₁ × (g.W.Words.means.told c.begin.new.self ≡ Some (moved world place new d (Writing place n (draft_at new n))))) (sym chunk_is)
    (before.0, claimed.0, then)

pub loop-chunk-preserved : goal.loop-chunk-preserved
loop-chunk-preserved g c =
    let i = c.loop-chunk.invariant in let chunk = c.loop-chunk.chunk in let first = c.args.arbiter.now.first in
    let place = g.W.Words.means.place c.args.seat.now in
    let setup = g.W.Words.means.setup c.args.table.now in let old = g.W.Words.means.view c.args.table.now c.args.seat.now in
    let mid = g.W.Words.means.view c.loop-chunk.table c.loop-chunk.seat in let new = g.W.Words.means.view c.claim_try.new.self c.claim_try.new.seat in
    let lost = subst (λ s. TriesClaim s chunk false mid new) i.step.setup_stays c.in_default.ensures.lost in
    let count_is : chunk - first + 1 ≡ chunk + 1 - first = omega arith in
    record {
      step = steps_follow g.W.Words.means c.args.table.now c.args.seat.now c.loop-chunk.table c.loop-chunk.seat c.claim_try.new.self c.claim_try.new.seat i.step c.in_default.ensures.step;
      vain = subst (λ n. AsksInVain setup first n old new) count_is (turns.vain_more setup first (chunk - first) chunk old mid new (omega arith) i.vain lost);
      counted = omega arith;
      told = λ world told.
          let before = i.told world told in
          let after = c.in_default.ensures.told (with_writer_view world place mid) before.1 in (
            turns.none_free world first chunk before.0 after.0,
            after.1 ∙ ap (λ w. Some w) (turns.noted_again world place (g.W.Words.means.place c.loop-chunk.seat) mid new i.step.place_stays),
          );
    }

pub returns-clause-told_lost : goal.returns-clause-told_lost
returns-clause-told_lost g c = λ world told.
    let before = c.loop-chunk.invariant.told world told in
    let end_is : c.loop-chunk.chunk ≡ c.args.arbiter.now.first + c.args.arbiter.now.chunks = omega arith in
    (subst (λ n. NoneFree world c.args.arbiter.now.first n) end_is before.0, before.1)
