-- How many steps a call of a writer that loses packets takes.
use Rattle.std.proofs.Common.{◌≡◌, ◌∙◌, ℕ, suc, ◌+◌, ◌-◌, ◌*◌, ◌≤◌, Bool, true, true≢false, if◌then◌else◌, length, sym, ap, subst, arith, length-append, List, [], ◌∷◌, ◌++◌}
use Rattle.trace_base.specs.declared.policy.WriterPolicy.{WriterPolicy}
use Rattle.trace_base.specs.declared.policy.WriterPolicy.TheVariants.{Drops, Stalls, StallsThenDrops}
use Rattle.chunk_plain.specs.Views.{Ask, Held, WriterView, fresh}
use Rattle.chunk_plain.specs.Meaning.{Meaning}
use Rattle.chunk_plain.specs.Setup.{Setup}
use Rattle.claim_arbiter.specs.Claiming.{ClaimsInTurn, lost_asks}
use Rattle.trace_writer.specs.declared.route.Route.{Route}
use Rattle.trace_writer.specs.Helping.{LeavesWriters, Tries, Gains, Again, Ends, Works, Done, Silent, Gets, Helped, Refused, Lost, Tried, GivesUp, loses, rounds_for}
use Rattle.trace_writer.specs.OwnSteps.{IsQuiet, IsSilent, GetsChunk, IsInVain, IsVainTry, IsOutNow}
use Rattle.trace_writer.proofs.claims.Asking.{length-lost_asks}
use Rattle.trace_writer.proofs.holding.KeptChunks.{keeps_long}

-- so many chunks were begun, and at most so many claims were made for each of them, and for one that wasn't got
record Grows (most : ℕ) (stopped : Bool) (old new : WriterView) : Type 0 where
  more : ℕ
  begun : length new.begun ≡ length old.begun + more
  few : length new.asked + length new.begun ≤ length old.asked + length old.begun + more * (most + 1) + (if stopped then most else 0)

-- one chunk was tried for, with so many asks left
record GrowsOnce (count left : ℕ) (stopped : Bool) (old new : WriterView) : Type 0 where
  begun : length new.begun ≡ length old.begun + (if stopped then 0 else 1)
  few : length new.asked ≤ length old.asked + suc left * count

-- a chunk is claimed and begun, behind fewer claims in vain than there are chunks
grows_one : (setup : Setup) (first count chunk : ℕ) (old new : WriterView) → ClaimsInTurn setup first count chunk old new
    → (length new.begun ≡ length old.begun + 1) × (length new.asked ≤ length old.asked + count)
grows_one setup first count chunk old new claims =
    let won : Ask = record { chunk = chunk; found = claims.found; won = true; calls = length old.calls } in
    let lost : List Ask = lost_asks (length old.calls) first claims.words in
    let asks : length new.asked ≡ length (old.asked ++ lost ++ won ∷ []) = ap (λ (v : WriterView). length v.asked) claims.view in
    let begun : length new.begun ≡ length (old.begun ++ Held chunk (fresh claims.payload) ∷ []) = ap (λ (v : WriterView). length v.begun) claims.view in (
      omega (arith, begun, length-append old.begun (Held chunk (fresh claims.payload) ∷ [])),
      omega (
        arith,
        asks,
        length-append (old.asked ++ lost) (won ∷ []),
        length-append old.asked lost,
        length-lost_asks (length old.calls) first claims.words,
        claims.count_is,
        claims.below,
      ),
    )

-- one more was got, and so many claims were made for it at most
grows_more : (most : ℕ) (stopped : Bool) (old mid new : WriterView) → length mid.begun ≡ length old.begun + 1 → length mid.asked ≤ length old.asked + most
    → Grows most stopped mid new → Grows most stopped old new
grows_more most stopped old mid new begun few rest = record {
  more = 1 + rest.more;
  begun = omega (arith, begun, rest.begun);
  few = omega (arith, begun, few, rest.few);
}

-- and so many none was got for
grows_none : (most : ℕ) (old mid new : WriterView) → length mid.begun ≡ length old.begun → length mid.asked ≤ length old.asked + most
    → length new.begun ≡ length mid.begun → length new.asked ≡ length mid.asked → Grows most true old new
grows_none most old mid new begun few still same = record { more = 0; begun = omega (arith, begun, still); few = omega (arith, begun, few, still, same) }

least_rounds : (policy : WriterPolicy) (count : ℕ) → count ≤ rounds_for policy * count
least_rounds Drops count = omega arith
least_rounds Stalls count = omega arith
least_rounds (StallsThenDrops tries) count = omega arith

module _ {T W S : Type 0} (means : Meaning T W S) where
  vain_grows : (route : Route) (old : T) (seat : W) (new : T) (after : W) → IsInVain means route old seat new after
      → (length (means.view new after).begun ≡ length (means.view old seat).begun)
      × (length (means.view new after).asked ≡ length (means.view old seat).asked + route.arbiter.chunks)
  vain_grows route old seat new after vain =
      let asks : length (means.view new after).asked ≡ length ((means.view old seat).asked ++ lost_asks (length (means.view old seat).calls) route.arbiter.first vain.words) = ap length vain.asked in (
        keeps_long (means.view old seat).begun (means.view new after).begun vain.chunks,
        omega (
          arith,
          asks,
          length-append (means.view old seat).asked (lost_asks (length (means.view old seat).calls) route.arbiter.first vain.words),
          length-lost_asks (length (means.view old seat).calls) route.arbiter.first vain.words,
          vain.count_is,
        ),
      )

module _ {H T W S : Type 0} (means : Meaning T W S) where
  tries_grow : {begins : Bool} (route : Route) {asks : H → T → Bool → H → T → Type 0} {left : ℕ} {helper kept : H} {old new : T} {seat after : W} {stopped : Bool}
      → Tries (GetsChunk means route) (IsVainTry means route begins) (λ asked table answer behind freed. asks asked table answer behind freed × LeavesWriters means table freed)
      left helper old seat stopped kept new after
      → GrowsOnce route.arbiter.chunks left stopped (means.view old seat) (means.view new after)
  tries_grow route (Gains left helper old seat new after gets) =
      let one = grows_one (means.setup old) route.arbiter.first route.arbiter.chunks gets.chunk (means.view old seat) (means.view new after) gets.claims in
      record { begun = one.0; few = let few = one.1 in omega (arith, few) }
  tries_grow route (Again left helper old seat asking asker answer helped freed stopped kept new after vain helps more) =
      let one = vain_grows means route old seat asking asker vain.vain in
      let rest = tries_grow route more in
      let same = (helps.1.writers_stay asker vain.vain.step.seat_stays).1 in
      let begun : length (means.view freed asker).begun ≡ length (means.view asking asker).begun = ap (λ (v : WriterView). length v.begun) same in
      let asked : length (means.view freed asker).asked ≡ length (means.view asking asker).asked = ap (λ (v : WriterView). length v.asked) same in
      record {
        begun = omega (arith, one.0, rest.begun, begun);
        few = omega (arith, one.1, rest.few, asked);
      }
  tries_grow route (Ends helper old seat new after vain) =
      let one = vain_grows means route old seat new after vain.vain in
      record { begun = omega (arith, one.0); few = omega (arith, one.1) }

  works_grow : {begins : Bool} (route : Route) {policy : WriterPolicy} {asks : H → T → Bool → H → T → Type 0} {helper left : H} {old new : T} {seat after : W} {stopped : Bool}
      → Works policy (IsSilent means) (IsQuiet means) (GetsChunk means route) (IsVainTry means route begins) (IsOutNow means route)
      (λ asked table answer behind freed. asks asked table answer behind freed × LeavesWriters means table freed) helper old seat stopped left new after
      → loses policy ≡ true → Grows (rounds_for policy * route.arbiter.chunks) stopped (means.view old seat) (means.view new after)
  works_grow route (Done helper old seat new after last) losing =
      let asks = ap length last.asked in let chunks = keeps_long (means.view old seat).begun (means.view new after).begun last.chunks in
      record { more = 0; begun = omega (arith, chunks); few = omega (arith, asks, chunks) }
  works_grow route (Silent helper old seat next moved stopped left new after silent more) losing =
      let rest = works_grow route more losing in
      let asks = ap length silent.quiet.asked in let chunks = keeps_long (means.view old seat).begun (means.view next moved).begun silent.quiet.chunks in
      record { more = rest.more; begun = omega (arith, rest.begun, chunks); few = omega (arith, rest.few, asks, chunks) }
  works_grow route {policy} (Gets helper old seat next moved stopped left new after gets more) losing =
      let one = grows_one (means.setup old) route.arbiter.first route.arbiter.chunks gets.chunk (means.view old seat) (means.view next moved) gets.claims in
      let most = least_rounds policy route.arbiter.chunks in
      grows_more (rounds_for policy * route.arbiter.chunks) stopped (means.view old seat) (means.view next moved) (means.view new after) one.0
      (let few = one.1 in omega (arith, few, most)) (works_grow route more losing)
  works_grow route (Helped helper old seat asking asker helped freed stopped left new after stalls out helps more) losing = absurd (true≢false (sym losing ∙ ap loses stalls))
  works_grow route (Refused helper old seat asking asker left kept new after stalls out helps last) losing = absurd (true≢false (sym losing ∙ ap loses stalls))
  works_grow route {policy} (Lost helper old seat mid between new after drops out last) losing =
      let one = vain_grows means route old seat mid between out.vain in
      let most = least_rounds policy route.arbiter.chunks in
      grows_none (rounds_for policy * route.arbiter.chunks) (means.view old seat) (means.view mid between) (means.view new after) one.0
      (let few = one.1 in omega (arith, few, most)) (keeps_long (means.view mid between).begun (means.view new after).begun last.chunks) (ap length last.asked)
  works_grow route {policy} (Tried helper old seat tries kept next moved stopped left new after trying tried more) losing =
      let one = tries_grow route tried in
      grows_more (rounds_for policy * route.arbiter.chunks) stopped (means.view old seat) (means.view next moved) (means.view new after) one.begun
      (subst (λ (p : WriterPolicy). length (means.view next moved).asked ≤ length (means.view old seat).asked + rounds_for p * route.arbiter.chunks) (sym trying) one.few)
      (works_grow route more losing)
  works_grow route {policy} (GivesUp helper old seat tries left mid between new after trying tried last) losing =
      let one = tries_grow route tried in
      grows_none (rounds_for policy * route.arbiter.chunks) (means.view old seat) (means.view mid between) (means.view new after)
      (let begun = one.begun in omega (arith, begun))
      (subst (λ (p : WriterPolicy). length (means.view mid between).asked ≤ length (means.view old seat).asked + rounds_for p * route.arbiter.chunks) (sym trying) one.few)
      (keeps_long (means.view mid between).begun (means.view new after).begun last.chunks) (ap length last.asked)

  pub works_few : {begins : Bool} (policy : WriterPolicy) (route : Route) (asks : H → T → Bool → H → T → Type 0) (helper : H) (old : T) (seat : W) (steps : ℕ) (stopped : Bool) (left : H) (new : T) (after : W) (later : ℕ)
      → Works policy (IsSilent means) (IsQuiet means) (GetsChunk means route) (IsVainTry means route begins) (IsOutNow means route)
      (λ asked table answer behind freed. asks asked table answer behind freed × LeavesWriters means table freed) helper old seat stopped left new after
      → later + (length (means.view old seat).asked + length (means.view old seat).begun) ≡ steps + (length (means.view new after).asked + length (means.view new after).begun) → loses policy ≡ true
      → later ≤ steps + (length (means.view new after).begun - length (means.view old seat).begun) * (rounds_for policy * route.arbiter.chunks + 1)
      + (if stopped then rounds_for policy * route.arbiter.chunks else 0)
  works_few policy route asks helper old seat steps stopped left new after later works counts losing =
      let grows = works_grow route works losing in
      let many : length (means.view new after).begun - length (means.view old seat).begun ≡ grows.more = omega (arith, grows.begun) in
      subst (λ (more : ℕ). later ≤ steps + more * (rounds_for policy * route.arbiter.chunks + 1) + (if stopped then rounds_for policy * route.arbiter.chunks else 0)) (sym many)
      (let few = grows.few in omega (arith, counts, few))
