-- What a writer's call adds to its claims, and the rounds in vain that a loss has behind it.
use Rattle.std.proofs.Common.{◌≡◌, ◌∙◌, ℕ, ◌+◌, suc, Bool, true, false, List, [], ◌∷◌, ◌++◌, length, refl, sym, ap, subst, append_assoc, append-nil, true≢false}
use Rattle.std.proofs.lemmas.List.Elements.{All-nil, All-cons, All-append}
use Rattle.std.specs.List.{All, flat_map}
use Rattle.trace_base.specs.declared.policy.WriterPolicy.{WriterPolicy}
use Rattle.trace_model.specs.Calls.{Call}
use Rattle.chunk_plain.specs.declared.setup.ChunkRange.{ChunkRange}
use Rattle.chunk_plain.specs.Setup.{Setup}
use Rattle.chunk_plain.specs.Views.{Ask, WriterView}
use Rattle.chunk_plain.specs.Meaning.{Meaning}
use Rattle.claim_arbiter.specs.Claiming.{ClaimsInTurn, lost_asks, range_in}
use Rattle.trace_writer.specs.declared.route.Route.{Route}
use Rattle.trace_writer.specs.Helping.{LeavesWriters, Tries, Gains, Again, Ends, Works, Done, Silent, Gets, Helped, Refused, Lost, Tried, GivesUp, loses, rounds_for}
use Rattle.trace_writer.specs.Losing.{LosesBehind}
use Rattle.trace_writer.specs.OwnSteps.{IsQuiet, IsSilent, GetsChunk, IsInVain, IsVainTry, IsOutNow}
use Rattle.trace_writer.proofs.claims.VainRounds.{HasRounds, one_round, tries_rounds, tries_setup}

-- claims were added, each made when as many calls were noted as before
pub record AsksNow (old new : WriterView) : Type 0 where
  pub more : List Ask
  pub asked : new.asked ≡ old.asked ++ more
  pub now : All (λ (ask : Ask). ask.calls ≡ length old.calls) more

-- and no call was noted
record AsksOn (old new : WriterView) : Type 0 where
  asks : AsksNow old new
  calls : new.calls ≡ old.calls

asks_none : (old new : WriterView) → new.asked ≡ old.asked → AsksNow old new
asks_none old new same = record {
  more = [];
  asked = same ∙ sym (append-nil old.asked);
  now = All-nil (λ (ask : Ask). ask.calls ≡ length old.calls);
}

lost_now : (calls first : ℕ) (words : List ℕ) → All (λ (ask : Ask). ask.calls ≡ calls) (lost_asks calls first words)
lost_now calls first [] = All-nil (λ (ask : Ask). ask.calls ≡ calls)
lost_now calls first (word ∷ words) =
    All-cons (λ (ask : Ask). ask.calls ≡ calls) (record { chunk = first; found = word; won = false; calls = calls }) (lost_asks calls (first + 1) words) refl (lost_now calls (first + 1) words)

on_gets : (setup : Setup) (first count chunk : ℕ) (old new : WriterView) → ClaimsInTurn setup first count chunk old new → AsksOn old new
on_gets setup first count chunk old new claims =
    let calls : ℕ = length old.calls in
    let won : Ask = record { chunk = chunk; found = claims.found; won = true; calls = calls } in
    let lost : List Ask = lost_asks calls first claims.words in
    record {
      asks = record {
        more = lost ++ won ∷ [];
        asked = ap (λ (v : WriterView). v.asked) claims.view ∙ append_assoc old.asked lost (won ∷ []);
        now = All-append (λ (ask : Ask). ask.calls ≡ calls) lost (won ∷ []) (lost_now calls first claims.words)
            (All-cons (λ (ask : Ask). ask.calls ≡ calls) won [] refl (All-nil (λ (ask : Ask). ask.calls ≡ calls)));
      };
      calls = ap (λ (v : WriterView). v.calls) claims.view;
    }

now_then : (old mid new : WriterView) → AsksOn old mid → AsksNow mid new → AsksNow old new
now_then old mid new one two = record {
  more = one.asks.more ++ two.more;
  asked = two.asked ∙ ap (λ (asks : List Ask). asks ++ two.more) one.asks.asked ∙ append_assoc old.asked one.asks.more two.more;
  now = All-append (λ (ask : Ask). ask.calls ≡ length old.calls) one.asks.more two.more one.asks.now
      (subst (λ (noted : List Call). All (λ (ask : Ask). ask.calls ≡ length noted) two.more) one.calls two.now);
}

on_then : (old mid new : WriterView) → AsksOn old mid → AsksOn mid new → AsksOn old new
on_then old mid new one two = record { asks = now_then old mid new one two.asks; calls = two.calls ∙ one.calls }

-- claims that come before a loss's rounds
loses_behind : (setup : Setup) (range : ChunkRange) (many : ℕ) (old mid new : WriterView) → AsksOn old mid → LosesBehind setup range many mid new → LosesBehind setup range many old new
loses_behind setup range many old mid new one loss =
    let rounds : List Ask = flat_map (lost_asks (length old.calls) range.first) loss.rounds in
    record {
      before = one.asks.more ++ loss.before;
      rounds = loss.rounds;
      count_is = loss.count_is;
      each = loss.each;
      asked = subst (λ (noted : List Call). new.asked ≡ mid.asked ++ loss.before ++ flat_map (lost_asks (length noted) range.first) loss.rounds) one.calls loss.asked
          ∙ ap (λ (asks : List Ask). asks ++ loss.before ++ rounds) one.asks.asked
          ∙ ap (λ (asks : List Ask). asks ++ rounds) (append_assoc old.asked one.asks.more loss.before);
    }

of_rounds : (setup : Setup) (route : Route) (many : ℕ) (old mid new : WriterView) → HasRounds setup route many old mid → new.asked ≡ mid.asked
    → LosesBehind setup (range_in route.arbiter) many old new
of_rounds setup route many old mid new has same = record {
  before = [];
  rounds = has.rounds;
  count_is = has.count_is;
  each = has.each;
  asked = same ∙ has.asked
      ∙ ap (λ (asks : List Ask). asks ++ flat_map (lost_asks (length old.calls) route.arbiter.first) has.rounds) (sym (append-nil old.asked));
}

module _ {T W S : Type 0} (means : Meaning T W S) where
  on_silent : (old : T) (seat : W) (new : T) (after : W) → IsSilent means old seat new after → AsksOn (means.view old seat) (means.view new after)
  on_silent old seat new after silent = record { asks = asks_none (means.view old seat) (means.view new after) silent.quiet.asked; calls = silent.calls }

  on_vain : (route : Route) (old : T) (seat : W) (new : T) (after : W) → IsInVain means route old seat new after → AsksOn (means.view old seat) (means.view new after)
  on_vain route old seat new after vain = record {
    asks = record {
      more = lost_asks (length (means.view old seat).calls) route.arbiter.first vain.words;
      asked = vain.asked;
      now = lost_now (length (means.view old seat).calls) route.arbiter.first vain.words;
    };
    calls = vain.calls;
  }

  -- behind a help the view is the same
  on_help : (route : Route) (old : T) (seat : W) (asking : T) (asker : W) (freed : T) → IsInVain means route old seat asking asker → LeavesWriters means asking freed
      → AsksOn (means.view old seat) (means.view freed asker)
  on_help route old seat asking asker freed vain leaves =
      subst (λ (v : WriterView). AsksOn (means.view old seat) v) (sym (leaves.writers_stay asker vain.step.seat_stays).1) (on_vain route old seat asking asker vain)

module _ {H T W S : Type 0} (means : Meaning T W S) where
  on_tries : {begins : Bool} (route : Route) {asks : H → T → Bool → H → T → Type 0} {left : ℕ} {helper kept : H} {old new : T} {seat after : W} {stopped : Bool}
      → Tries (GetsChunk means route) (IsVainTry means route begins) (λ asked table answer behind freed. asks asked table answer behind freed × LeavesWriters means table freed)
      left helper old seat stopped kept new after
      → AsksOn (means.view old seat) (means.view new after)
  on_tries route (Gains left helper old seat new after gets) =
      on_gets (means.setup old) route.arbiter.first route.arbiter.chunks gets.chunk (means.view old seat) (means.view new after) gets.claims
  on_tries route (Again left helper old seat asking asker answer helped freed stopped kept new after vain helps more) =
      on_then (means.view old seat) (means.view freed asker) (means.view new after) (on_help means route old seat asking asker freed vain.vain helps.1) (on_tries route more)
  on_tries route (Ends helper old seat new after vain) = on_vain means route old seat new after vain.vain

  -- a call makes all its claims before it notes itself
  pub works_now : {begins : Bool} (route : Route) {policy : WriterPolicy} {asks : H → T → Bool → H → T → Type 0} {helper left : H} {old new : T} {seat after : W} {stopped : Bool}
      → Works policy (IsSilent means) (IsQuiet means) (GetsChunk means route) (IsVainTry means route begins) (IsOutNow means route)
      (λ asked table answer behind freed. asks asked table answer behind freed × LeavesWriters means table freed)
      helper old seat stopped left new after
      → AsksNow (means.view old seat) (means.view new after)
  works_now route (Done helper old seat new after last) = asks_none (means.view old seat) (means.view new after) last.asked
  works_now route (Silent helper old seat next moved stopped left new after silent more) =
      now_then (means.view old seat) (means.view next moved) (means.view new after) (on_silent means old seat next moved silent) (works_now route more)
  works_now route (Gets helper old seat next moved stopped left new after gets more) =
      now_then (means.view old seat) (means.view next moved) (means.view new after)
      (on_gets (means.setup old) route.arbiter.first route.arbiter.chunks gets.chunk (means.view old seat) (means.view next moved) gets.claims) (works_now route more)
  works_now route (Helped helper old seat asking asker helped freed stopped left new after stalls out helps more) =
      now_then (means.view old seat) (means.view freed asker) (means.view new after) (on_help means route old seat asking asker freed out.vain helps.1) (works_now route more)
  works_now route (Refused helper old seat asking asker left kept new after stalls out helps last) =
      now_then (means.view old seat) (means.view kept asker) (means.view new after) (on_help means route old seat asking asker kept out.vain helps.1)
      (asks_none (means.view kept asker) (means.view new after) last.asked)
  works_now route (Lost helper old seat mid between new after drops out last) =
      now_then (means.view old seat) (means.view mid between) (means.view new after) (on_vain means route old seat mid between out.vain)
      (asks_none (means.view mid between) (means.view new after) last.asked)
  works_now route (Tried helper old seat tries kept next moved stopped left new after trying tried more) =
      now_then (means.view old seat) (means.view next moved) (means.view new after) (on_tries route tried) (works_now route more)
  works_now route (GivesUp helper old seat tries left mid between new after trying tried last) =
      now_then (means.view old seat) (means.view mid between) (means.view new after) (on_tries route tried)
      (asks_none (means.view mid between) (means.view new after) last.asked)

  -- one that loses its packet made its last rounds of claims in vain
  pub works_lose : {begins : Bool} (route : Route) {policy : WriterPolicy} {asks : H → T → Bool → H → T → Type 0} {helper left : H} {old new : T} {seat after : W} {stopped : Bool}
      → Works policy (IsSilent means) (IsQuiet means) (GetsChunk means route) (IsVainTry means route begins) (IsOutNow means route)
      (λ asked table answer behind freed. asks asked table answer behind freed × LeavesWriters means table freed)
      helper old seat stopped left new after
      → stopped ≡ true → loses policy ≡ true
      → LosesBehind (means.setup old) (range_in route.arbiter) (rounds_for policy) (means.view old seat) (means.view new after)
  works_lose route (Done helper old seat new after last) stops losing = absurd (true≢false (sym stops))
  works_lose route {policy} (Silent helper old seat next moved stopped left new after silent more) stops losing =
      loses_behind (means.setup old) (range_in route.arbiter) (rounds_for policy) (means.view old seat) (means.view next moved) (means.view new after) (on_silent means old seat next moved silent)
      (subst (λ (s : Setup). LosesBehind s (range_in route.arbiter) (rounds_for policy) (means.view next moved) (means.view new after)) silent.quiet.step.setup_stays
      (works_lose route more stops losing))
  works_lose route {policy} (Gets helper old seat next moved stopped left new after gets more) stops losing =
      loses_behind (means.setup old) (range_in route.arbiter) (rounds_for policy) (means.view old seat) (means.view next moved) (means.view new after)
      (on_gets (means.setup old) route.arbiter.first route.arbiter.chunks gets.chunk (means.view old seat) (means.view next moved) gets.claims)
      (subst (λ (s : Setup). LosesBehind s (range_in route.arbiter) (rounds_for policy) (means.view next moved) (means.view new after)) gets.step.setup_stays
      (works_lose route more stops losing))
  works_lose route (Helped helper old seat asking asker helped freed stopped left new after stalls out helps more) stops losing =
      absurd (true≢false (sym losing ∙ ap loses stalls))
  works_lose route (Refused helper old seat asking asker left kept new after stalls out helps last) stops losing =
      absurd (true≢false (sym losing ∙ ap loses stalls))
  works_lose route (Lost helper old seat mid between new after drops out last) stops losing =
      subst (λ (p : WriterPolicy). LosesBehind (means.setup old) (range_in route.arbiter) (rounds_for p) (means.view old seat) (means.view new after)) (sym drops)
      (of_rounds (means.setup old) route 1 (means.view old seat) (means.view mid between) (means.view new after) (one_round means route old seat mid between out.vain) last.asked)
  works_lose route {policy} (Tried helper old seat tries kept next moved stopped left new after trying tried more) stops losing =
      loses_behind (means.setup old) (range_in route.arbiter) (rounds_for policy) (means.view old seat) (means.view next moved) (means.view new after) (on_tries route tried)
      (subst (λ (s : Setup). LosesBehind s (range_in route.arbiter) (rounds_for policy) (means.view next moved) (means.view new after)) (tries_setup means route tried)
      (works_lose route more stops losing))
  works_lose route (GivesUp helper old seat tries left mid between new after trying tried last) stops losing =
      subst (λ (p : WriterPolicy). LosesBehind (means.setup old) (range_in route.arbiter) (rounds_for p) (means.view old seat) (means.view new after)) (sym trying)
      (of_rounds (means.setup old) route (suc tries) (means.view old seat) (means.view mid between) (means.view new after) (tries_rounds means route tried refl) last.asked)
