-- Claims of a writer: what the claim that won, or a round in vain, does to its table and its view.
use Rattle.std.proofs.Common.{◌≡◌, ◌∙◌, ℕ, ◌+◌, ◌-◌, true, List, [], ◌∷◌, ◌++◌, length, Option, Some, None, IfNone, refl, sym, ap, subst, arith, length-append}
use Rattle.chunk_plain.specs.declared.tokens.Held.{Held as HeldToken}
use Rattle.chunk_plain.specs.Setup.{Setup}
use Rattle.chunk_plain.specs.Views.{Ask, BegunChunk, Held, WriterView, fresh}
use Rattle.chunk_plain.specs.Drafts.{draft_at}
use Rattle.chunk_plain.specs.Steps.{moved, with_writer_view}
use Rattle.chunk_plain.specs.Meaning.{Meaning, IsWriterStep}
use Rattle.chunk_plain.specs.World.{World, Unclaimed, Writing, status}
use Rattle.chunk_plain.proofs.SeatSteps.{steps_follow}
use Rattle.claim_arbiter.specs.Claiming.{AsksInVain, ClaimsInTurn, NoneFree, lost_asks}
use Rattle.trace_writer.specs.declared.route.Route.{Route}
use Rattle.trace_writer.specs.Claims.{Wins, FindsNone}
use Rattle.trace_writer.specs.OwnSteps.{KeepsChunks, NoneHeld, IsQuiet, GetsChunk, IsInVain, IsOutNow}
use Rattle.trace_writer.proofs.holding.KeptChunks.{keeps_same, frees_moved, writing_used}

pub none_yet : (view : WriterView) → FindsNone view view
none_yet view = record { begun = refl; calls = refl }

pub none_again : (setup : Setup) (route : Route) (old mid new : WriterView) → FindsNone old mid
    → AsksInVain setup route.arbiter.first route.arbiter.chunks mid new → FindsNone old new
none_again setup route old mid new so_far vain = record {
  begun = ap (λ (v : WriterView). v.begun) vain.view ∙ so_far.begun;
  calls = ap (λ (v : WriterView). v.calls) vain.view ∙ so_far.calls;
}

pub finds_none : (setup : Setup) (route : Route) (old new : WriterView) (found : Option HeldToken)
    → IfNone found (AsksInVain setup route.arbiter.first route.arbiter.chunks old new) → IfNone found (FindsNone old new)
finds_none setup route old new None vain = none_again setup route old old new (none_yet old) vain
finds_none setup route old new (Some held) vain = vain

pub wins_in_turn : (setup : Setup) (route : Route) (chunk : ℕ) (old mid new : WriterView) → FindsNone old mid
    → ClaimsInTurn setup route.arbiter.first route.arbiter.chunks chunk mid new → Wins route chunk old new
wins_in_turn setup route chunk old mid new so_far claims = record {
  least = claims.least;
  below = claims.below;
  words = claims.payload;
  begun = ap (λ (v : WriterView). v.begun) claims.view ∙ ap (λ (xs : List BegunChunk). xs ++ Held chunk (fresh claims.payload) ∷ []) so_far.begun;
  calls = ap (λ (v : WriterView). v.calls) claims.view ∙ so_far.calls;
}

-- Steps

pub length-lost_asks : (calls first : ℕ) (words : List ℕ) → length (lost_asks calls first words) ≡ length words
length-lost_asks calls first [] = refl
length-lost_asks calls first (found ∷ words) = let rest = length-lost_asks calls (first + 1) words in omega (arith, rest)

-- each claim and each begin is a step
pub won_counts : (setup : Setup) (first count chunk : ℕ) (old new : WriterView) (steps later : ℕ) → ClaimsInTurn setup first count chunk old new
    → later ≡ steps + (chunk - first) + 2 → later + (length old.asked + length old.begun) ≡ steps + (length new.asked + length new.begun)
won_counts setup first count chunk old new steps later claims is =
    let won : Ask = record { chunk = chunk; found = claims.found; won = true; calls = length old.calls } in
    let lost : List Ask = lost_asks (length old.calls) first claims.words in
    let asks : length new.asked ≡ length (old.asked ++ lost ++ won ∷ []) = ap (λ (v : WriterView). length v.asked) claims.view in
    let begun : length new.begun ≡ length (old.begun ++ Held chunk (fresh claims.payload) ∷ []) = ap (λ (v : WriterView). length v.begun) claims.view in
    omega (
      arith,
      is,
      asks,
      begun,
      claims.count_is,
      length-append (old.asked ++ lost) (won ∷ []),
      length-append old.asked lost,
      length-lost_asks (length old.calls) first claims.words,
      length-append old.begun (Held chunk (fresh claims.payload) ∷ []),
    )

pub lost_counts : (setup : Setup) (first count : ℕ) (old new : WriterView) (steps later : ℕ) → AsksInVain setup first count old new
    → later ≡ steps + count → later + (length old.asked + length old.begun) ≡ steps + (length new.asked + length new.begun)
lost_counts setup first count old new steps later vain is =
    let lost : List Ask = lost_asks (length old.calls) first vain.words in
    let asks : length new.asked ≡ length (old.asked ++ lost) = ap (λ (v : WriterView). length v.asked) vain.view in
    let begun : length new.begun ≡ length old.begun = ap (λ (v : WriterView). length v.begun) vain.view in
    omega (arith, is, asks, begun, vain.count_is, length-append old.asked lost, length-lost_asks (length old.calls) first vain.words)

module _ {T W S : Type 0} (means : Meaning T W S) where
  pub gets_chunk : (route : Route) (chunk position : ℕ) (old : T) (seat : W) (new : T) (after : W) → IsWriterStep means old seat new after
      → ClaimsInTurn (means.setup old) route.arbiter.first route.arbiter.chunks chunk (means.view old seat) (means.view new after)
      → ((world : World) → means.told old ≡ Some world → NoneFree world route.arbiter.first chunk × ∥ status world chunk ≡ Unclaimed ∥₁
      × (means.told new ≡ Some (moved world (means.place seat) (means.view new after) chunk (Writing (means.place seat) position (draft_at (means.view new after) position)))))
      → GetsChunk means route old seat new after
  gets_chunk route chunk position old seat new after step claims tells = record {
    step = step;
    chunk = chunk;
    claims = claims;
    frees_none = frees_moved means.told old new (means.place seat) chunk (means.view new after) (Writing (means.place seat) position (draft_at (means.view new after) position)) (writing_used (means.place seat) position (draft_at (means.view new after) position))
        (λ world is. (tells world is).2);
  }

  pub in_vain : (route : Route) (old : T) (seat : W) (new : T) (after : W) → IsWriterStep means old seat new after
      → AsksInVain (means.setup old) route.arbiter.first route.arbiter.chunks (means.view old seat) (means.view new after)
      → ((world : World) → means.told old ≡ Some world → NoneFree world route.arbiter.first (route.arbiter.first + route.arbiter.chunks)
      × (means.told new ≡ Some (with_writer_view world (means.place seat) (means.view new after))))
      → IsInVain means route old seat new after
  in_vain route old seat new after step vain tells =
      let begun : (means.view new after).begun ≡ (means.view old seat).begun = ap (λ (v : WriterView). v.begun) vain.view in
      record {
        step = step;
        words = vain.words;
        count_is = vain.count_is;
        all_claimed = vain.claimed;
        asked = ap (λ (v : WriterView). v.asked) vain.view;
        claimed = ap (λ (v : WriterView). v.claimed) vain.view;
        stamped = ap (λ (v : WriterView). v.stamped) vain.view;
        calls = ap (λ (v : WriterView). v.calls) vain.view;
        chunks = subst (λ (chunks : List BegunChunk). KeepsChunks (means.view old seat).begun chunks) (sym begun) (keeps_same (means.view old seat).begun);
        none_free = λ world is. (with_writer_view world (means.place seat) (means.view new after), (tells world is).1, (tells world is).0);
      }

  -- where the writer holds no chunk it is out of chunks
  pub out_now : (route : Route) (old : T) (seat : W) (new : T) (after : W) → IsWriterStep means old seat new after
      → AsksInVain (means.setup old) route.arbiter.first route.arbiter.chunks (means.view old seat) (means.view new after) → NoneHeld (means.view old seat).begun
      → ((world : World) → means.told old ≡ Some world → NoneFree world route.arbiter.first (route.arbiter.first + route.arbiter.chunks)
      × (means.told new ≡ Some (with_writer_view world (means.place seat) (means.view new after))))
      → IsOutNow means route old seat new after
  out_now route old seat new after step vain none tells = record {
    vain = in_vain route old seat new after step vain tells;
    none_held = subst NoneHeld (sym (ap (λ (v : WriterView). v.begun) vain.view)) none;
  }

  -- the same where the writer still holds a chunk, and completes it behind the round
  pub out_after : (route : Route) (old : T) (seat : W) (mid : T) (between : W) (new : T) (after : W) → IsWriterStep means old seat mid between
      → AsksInVain (means.setup old) route.arbiter.first route.arbiter.chunks (means.view old seat) (means.view mid between)
      → ((world : World) → means.told old ≡ Some world → NoneFree world route.arbiter.first (route.arbiter.first + route.arbiter.chunks)
      × (means.told mid ≡ Some (with_writer_view world (means.place seat) (means.view mid between))))
      → IsQuiet means mid between new after → (means.view new after).calls ≡ (means.view mid between).calls → NoneHeld (means.view new after).begun
      → IsOutNow means route old seat new after
  out_after route old seat mid between new after step vain tells quiet calls none = record {
    vain = record {
      step = steps_follow means old seat mid between new after step quiet.step;
      words = vain.words;
      count_is = vain.count_is;
      all_claimed = vain.claimed;
      asked = quiet.asked ∙ ap (λ (v : WriterView). v.asked) vain.view;
      claimed = quiet.claimed ∙ ap (λ (v : WriterView). v.claimed) vain.view;
      stamped = quiet.stamped ∙ ap (λ (v : WriterView). v.stamped) vain.view;
      calls = calls ∙ ap (λ (v : WriterView). v.calls) vain.view;
      chunks = subst (λ (begun : List BegunChunk). KeepsChunks begun (means.view new after).begun) (ap (λ (v : WriterView). v.begun) vain.view) quiet.chunks;
      none_free = λ world is.
          let found = tells world is in
          let kept = quiet.frees_none (with_writer_view world (means.place seat) (means.view mid between)) found.1 in
          (kept.0, kept.1, λ chunk least below free. found.0 chunk least below (kept.2 chunk free));
    };
    none_held = none;
  }
