-- What a writer keeps of its claims over a call.
use Rattle.std.proofs.Common.{◌≡◌, ◌∙◌, ℕ, ◌+◌, ◌<◌, ◌≤◌, ◌⊎◌, inl, inr, Bool, true, None, List, [], ◌∷◌, ◌++◌, length, refl, sym, ap, subst, arith}
use Rattle.std.specs.Prelude.{Some, slice_get}
use Rattle.std.proofs.lemmas.Bool.{true≢false}
use Rattle.std.proofs.lemmas.Option.{same_Some}
use native.Mathlib.Decide.{dec_le}
use mathlib.Core.Logic.{dite}
use Rattle.trace_base.specs.declared.policy.WriterPolicy.{WriterPolicy}
use Rattle.trace_base.specs.declared.policy.WriterSpec.{WriterSpec}
use Rattle.trace_model.specs.Calls.{Call}
use Rattle.trace_model.specs.Packets.{packets_of, lost_count}
use Rattle.chunk_plain.specs.Views.{Ask, BegunChunk, Held, Completed, Draft, WriterView, fresh}
use Rattle.chunk_plain.specs.Meaning.{Meaning}
use Rattle.chunk_plain.specs.declared.setup.ChunkRange.{ChunkRange}
use Rattle.chunk_plain.specs.Setup.{Setup, range_of, producer_of, IsChunkOf}
use Rattle.claim_arbiter.specs.Claiming.{ClaimsInTurn, lost_asks, range_in}
use Rattle.trace_writer.specs.declared.route.Route.{Route}
use Rattle.trace_writer.specs.Asked.{IsAsked}
use Rattle.trace_writer.specs.Claims.{AreOwnAsks, AreOwnChunks, HasAsked, KeepsClaims}
use Rattle.trace_writer.specs.Helping.{LeavesWriters, Tries, Gains, Again, Ends, Works, Done, Silent, Gets, Helped, Refused, Lost, Tried, GivesUp, loses}
use Rattle.trace_writer.specs.Moments.{CallMoment, view_at}
use Rattle.trace_writer.specs.OwnSteps.{KeepsChunks, IsQuiet, IsSilent, GetsChunk, IsInVain, IsVainTry, IsOutNow}

-- Lists

own_both : (setup : Setup) (producer : ℕ) (asks more : List Ask) → AreOwnAsks setup producer asks → AreOwnAsks setup producer more → AreOwnAsks setup producer (asks ++ more)
own_both setup producer [] more one two = two
own_both setup producer (ask ∷ asks) more one two = (one.0, own_both setup producer asks more one.1 two)

own_lost : (setup : Setup) (producer calls first : ℕ) (words : List ℕ) → (range_of setup producer).first ≤ first
    → first + length words ≤ (range_of setup producer).first + (range_of setup producer).count → AreOwnAsks setup producer (lost_asks calls first words)
own_lost setup producer calls first [] least most = tt
own_lost setup producer calls first (word ∷ words) least most =
    (record { least = least; below = omega (arith, most) }, own_lost setup producer calls (first + 1) words (omega (arith, least)) (omega (arith, most)))

-- chunks that are kept are those that were begun
pub chunks_kept : (setup : Setup) (producer : ℕ) (old new : List BegunChunk) → KeepsChunks old new → AreOwnChunks setup producer old → AreOwnChunks setup producer new
chunks_kept setup producer [] [] keeps own = tt
chunks_kept setup producer [] (one ∷ new) keeps own = absurd keeps
chunks_kept setup producer (Held chunk head ∷ old) [] keeps own = absurd keeps
chunks_kept setup producer (Completed chunk content ∷ old) [] keeps own = absurd keeps
chunks_kept setup producer (Held chunk head ∷ old) (Held other next ∷ new) keeps own =
    (subst (λ (c : ℕ). IsChunkOf setup producer c) (sym keeps.0) own.0, chunks_kept setup producer old new keeps.1 own.1)
chunks_kept setup producer (Held chunk head ∷ old) (Completed other content ∷ new) keeps own =
    (subst (λ (c : ℕ). IsChunkOf setup producer c) (sym keeps.0) own.0, chunks_kept setup producer old new keeps.1 own.1)
chunks_kept setup producer (Completed chunk content ∷ old) (Held other next ∷ new) keeps own = absurd keeps
chunks_kept setup producer (Completed chunk content ∷ old) (Completed other later ∷ new) keeps own =
    (subst (λ (c : ℕ). IsChunkOf setup producer c) (sym keeps.0) own.0, chunks_kept setup producer old new keeps.2 own.1)

pub chunks_more : (setup : Setup) (producer chunk : ℕ) (head : Draft) (begun : List BegunChunk) → IsChunkOf setup producer chunk → AreOwnChunks setup producer begun
    → AreOwnChunks setup producer (begun ++ Held chunk head ∷ [])
chunks_more setup producer chunk head [] own all = (own, tt)
chunks_more setup producer chunk head (Held c h ∷ begun) own all = (all.0, chunks_more setup producer chunk head begun own all.1)
chunks_more setup producer chunk head (Completed c content ∷ begun) own all = (all.0, chunks_more setup producer chunk head begun own all.1)

has_before : (asks more : List Ask) (chunk : ℕ) → HasAsked asks chunk → HasAsked (asks ++ more) chunk
has_before [] more chunk has = absurd has
has_before (ask ∷ asks) more chunk (inl same) = inl same
has_before (ask ∷ asks) more chunk (inr has) = inr (has_before asks more chunk has)

has_behind : (asks more : List Ask) (chunk : ℕ) → HasAsked more chunk → HasAsked (asks ++ more) chunk
has_behind [] more chunk has = has
has_behind (ask ∷ asks) more chunk has = inr (has_behind asks more chunk has)

has_lost : (calls first : ℕ) (words : List ℕ) (chunk : ℕ) → first ≤ chunk → chunk < first + length words → HasAsked (lost_asks calls first words) chunk
has_lost calls first [] chunk least below = absurd (omega (arith, least, below))
has_lost calls first (word ∷ words) chunk least below =
    dite (dec_le (first + 1) chunk)
    (λ later. inr (has_lost calls (first + 1) words chunk later (omega (arith, below))))
    (λ first_one. inl (omega (arith, least, first_one)))

-- A call

-- what is kept whatever the call loses
record KeepsMost (setup : Setup) (producer : ℕ) (view : WriterView) : Type 0 where
  unclaimed : view.claimed ≡ []
  unstamped : view.stamped ≡ None
  own_asks : AreOwnAsks setup producer view.asked
  own_chunks : AreOwnChunks setup producer view.begun

record KeepsOn (policy : WriterPolicy) (setup : Setup) (producer : ℕ) (stopped : Bool) (old new : WriterView) : Type 0 where
  kept : KeepsMost setup producer new
  grown : (chunk : ℕ) → HasAsked old.asked chunk → HasAsked new.asked chunk
  all : loses policy ≡ true → stopped ≡ true → (chunk : ℕ) → IsChunkOf setup producer chunk → HasAsked new.asked chunk

-- and by its tries for one chunk
record TriesOn (setup : Setup) (producer : ℕ) (stopped : Bool) (old new : WriterView) : Type 0 where
  kept : KeepsMost setup producer new
  grown : (chunk : ℕ) → HasAsked old.asked chunk → HasAsked new.asked chunk
  all : stopped ≡ true → (chunk : ℕ) → IsChunkOf setup producer chunk → HasAsked new.asked chunk

most_gets : (setup now : Setup) (producer chunk : ℕ) (route : Route) (old new : WriterView) → range_of setup producer ≡ range_in route.arbiter
    → ClaimsInTurn now route.arbiter.first route.arbiter.chunks chunk old new → KeepsMost setup producer old
    → KeepsMost setup producer new × ((other : ℕ) → HasAsked old.asked other → HasAsked new.asked other)
most_gets setup now producer chunk route old new range claims kept =
    let won : Ask = record { chunk = chunk; found = claims.found; won = true; calls = length old.calls } in
    let lost : List Ask = lost_asks (length old.calls) route.arbiter.first claims.words in
    let first : (range_of setup producer).first ≡ route.arbiter.first = ap (λ (r : ChunkRange). r.first) range in
    let count : (range_of setup producer).count ≡ route.arbiter.chunks = ap (λ (r : ChunkRange). r.count) range in
    let own : IsChunkOf setup producer chunk = record { least = omega (arith, first, claims.least); below = omega (arith, first, count, claims.below) } in
    let asked : new.asked ≡ old.asked ++ lost ++ won ∷ [] = ap (λ (v : WriterView). v.asked) claims.view in (
      record {
        unclaimed = ap (λ (v : WriterView). v.claimed) claims.view ∙ kept.unclaimed;
        unstamped = ap (λ (v : WriterView). v.stamped) claims.view ∙ kept.unstamped;
        own_asks = subst (λ (asks : List Ask). AreOwnAsks setup producer asks) (sym asked)
            (own_both setup producer (old.asked ++ lost) (won ∷ [])
            (own_both setup producer old.asked lost kept.own_asks
            (own_lost setup producer (length old.calls) route.arbiter.first claims.words (omega (arith, first)) (omega (arith, first, count, claims.count_is, claims.below))))
            (own, tt));
        own_chunks = subst (λ (begun : List BegunChunk). AreOwnChunks setup producer begun) (sym (ap (λ (v : WriterView). v.begun) claims.view))
            (chunks_more setup producer chunk (fresh claims.payload) old.begun own kept.own_chunks);
      },
      λ other has. subst (λ (asks : List Ask). HasAsked asks other) (sym asked)
          (has_before (old.asked ++ lost) (won ∷ []) other (has_before old.asked lost other has)),
    )

keeps_then : (policy : WriterPolicy) (there : Setup) (producer : ℕ) (stopped : Bool) (old mid new : WriterView)
    → ((chunk : ℕ) → HasAsked old.asked chunk → HasAsked mid.asked chunk) → KeepsOn policy there producer stopped mid new → KeepsOn policy there producer stopped old new
keeps_then policy there producer stopped old mid new grows on = record {
  kept = on.kept;
  grown = λ chunk has. on.grown chunk (grows chunk has);
  all = on.all;
}

module _ {T W S : Type 0} (means : Meaning T W S) where
  most_quiet : (there : Setup) (producer : ℕ) (old : T) (seat : W) (new : T) (after : W) → IsQuiet means old seat new after
      → KeepsMost there producer (means.view old seat) → KeepsMost there producer (means.view new after)
  most_quiet there producer old seat new after quiet kept = record {
    unclaimed = quiet.claimed ∙ kept.unclaimed;
    unstamped = quiet.stamped ∙ kept.unstamped;
    own_asks = subst (λ (asks : List Ask). AreOwnAsks there producer asks) (sym quiet.asked) kept.own_asks;
    own_chunks = chunks_kept there producer (means.view old seat).begun (means.view new after).begun quiet.chunks kept.own_chunks;
  }

  most_out : (there : Setup) (producer : ℕ) (route : Route) (old : T) (seat : W) (new : T) (after : W) → range_of there producer ≡ range_in route.arbiter
      → IsInVain means route old seat new after → KeepsMost there producer (means.view old seat)
      → KeepsMost there producer (means.view new after) × ((other : ℕ) → HasAsked (means.view old seat).asked other → HasAsked (means.view new after).asked other)
      × ((other : ℕ) → IsChunkOf there producer other → HasAsked (means.view new after).asked other)
  most_out there producer route old seat new after range vain kept =
      let lost : List Ask = lost_asks (length (means.view old seat).calls) route.arbiter.first vain.words in
      let first : (range_of there producer).first ≡ route.arbiter.first = ap (λ (r : ChunkRange). r.first) range in
      let count : (range_of there producer).count ≡ route.arbiter.chunks = ap (λ (r : ChunkRange). r.count) range in (
        record {
          unclaimed = vain.claimed ∙ kept.unclaimed;
          unstamped = vain.stamped ∙ kept.unstamped;
          own_asks = subst (λ (asks : List Ask). AreOwnAsks there producer asks) (sym vain.asked)
              (own_both there producer (means.view old seat).asked lost kept.own_asks
              (own_lost there producer (length (means.view old seat).calls) route.arbiter.first vain.words (omega (arith, first)) (omega (arith, first, count, vain.count_is))));
          own_chunks = chunks_kept there producer (means.view old seat).begun (means.view new after).begun vain.chunks kept.own_chunks;
        },
        λ other has. subst (λ (asks : List Ask). HasAsked asks other) (sym vain.asked) (has_before (means.view old seat).asked lost other has),
        λ other inside. subst (λ (asks : List Ask). HasAsked asks other) (sym vain.asked)
            (has_behind (means.view old seat).asked lost other
            (let least = inside.least in let below = inside.below in
            has_lost (length (means.view old seat).calls) route.arbiter.first vain.words other (omega (arith, first, least)) (omega (arith, first, count, below, vain.count_is)))),
      )

  pub claims_quiet : (there : Setup) (at : ℕ) (old : T) (seat : W) (new : T) (after : W) → IsQuiet means old seat new after
      → lost_count (packets_of (means.view new after).calls) ≡ lost_count (packets_of (means.view old seat).calls)
      → KeepsClaims there at (means.view old seat) → KeepsClaims there at (means.view new after)
  claims_quiet there at old seat new after quiet same claims =
      let kept = most_quiet there (producer_of there at) old seat new after quiet
      (record { unclaimed = claims.unclaimed; unstamped = claims.unstamped; own_asks = claims.own_asks; own_chunks = claims.own_chunks }) in
      record {
        unclaimed = kept.unclaimed;
        unstamped = kept.unstamped;
        own_asks = kept.own_asks;
        own_chunks = kept.own_chunks;
        vain = λ some chunk inside. subst (λ (asks : List Ask). HasAsked asks chunk) (sym quiet.asked) (claims.vain (subst (λ (n : ℕ). 0 < n) same some) chunk inside);
        stalls = λ spec there is. same ∙ claims.stalls spec there is;
      }

module _ {H T W S : Type 0} (means : Meaning T W S) (needs : H → T → Type 0) (helps : H → T → ℕ → Bool → H → T → Type 0) where
  tries_keep : {begins : Bool} (there : Setup) (producer : ℕ) (route : Route) {asks : H → T → Bool → H → T → Type 0} {left : ℕ} {helper kept_helper : H} {old new : T} {seat after : W} {stopped : Bool}
      → range_of there producer ≡ range_in route.arbiter
      → Tries (GetsChunk means route) (IsVainTry means route begins) (λ asked table answer behind freed. asks asked table answer behind freed × LeavesWriters means table freed)
      left helper old seat stopped kept_helper new after
      → KeepsMost there producer (means.view old seat) → TriesOn there producer stopped (means.view old seat) (means.view new after)
  tries_keep there producer route range (Gains left helper old seat new after gets) kept =
      let found = most_gets there (means.setup old) producer gets.chunk route (means.view old seat) (means.view new after) range gets.claims kept in
      record { kept = found.0; grown = found.1; all = λ stops. absurd (true≢false (sym stops)) }
  tries_keep there producer route range (Again left helper old seat asking asker answer helped freed stopped kept_helper new after vain helps more) kept =
      let found = most_out means there producer route old seat asking asker range vain.vain kept in
      let same = (helps.1.writers_stay asker vain.vain.step.seat_stays).1 in
      let rest = tries_keep there producer route range more (subst (λ (v : WriterView). KeepsMost there producer v) (sym same) found.0) in
      record {
        kept = rest.kept;
        grown = λ chunk has. rest.grown chunk (subst (λ (v : WriterView). HasAsked v.asked chunk) (sym same) (found.1 chunk has));
        all = rest.all;
      }
  tries_keep there producer route range (Ends helper old seat new after vain) kept =
      let found = most_out means there producer route old seat new after range vain.vain kept in
      record { kept = found.0; grown = found.1; all = λ stops. found.2 }

  works_keep : {begins : Bool} (there : Setup) (producer : ℕ) (route : Route) {policy : WriterPolicy} {asks : H → T → Bool → H → T → Type 0} {helper left : H} {old new : T} {seat after : W} {stopped : Bool}
      → range_of there producer ≡ range_in route.arbiter
      → Works policy (IsSilent means) (IsQuiet means) (GetsChunk means route)
      (IsVainTry means route begins) (IsOutNow means route) (λ asked table answer behind freed. asks asked table answer behind freed × LeavesWriters means table freed)
      helper old seat stopped left new after
      → KeepsMost there producer (means.view old seat) → KeepsOn policy there producer stopped (means.view old seat) (means.view new after)
  works_keep there producer route range (Done helper old seat new after last) kept = record {
    kept = most_quiet means there producer old seat new after last kept;
    grown = λ chunk has. subst (λ (asks : List Ask). HasAsked asks chunk) (sym last.asked) has;
    all = λ drops stops. absurd (true≢false (sym stops));
  }
  works_keep there producer route {policy} range (Silent helper old seat next moved stopped left new after silent more) kept =
      keeps_then policy there producer stopped (means.view old seat) (means.view next moved) (means.view new after)
      (λ chunk has. subst (λ (asks : List Ask). HasAsked asks chunk) (sym silent.quiet.asked) has)
      (works_keep there producer route range more (most_quiet means there producer old seat next moved silent.quiet kept))
  works_keep there producer route {policy} range (Gets helper old seat next moved stopped left new after gets more) kept =
      let found = most_gets there (means.setup old) producer gets.chunk route (means.view old seat) (means.view next moved) range gets.claims kept in
      keeps_then policy there producer stopped (means.view old seat) (means.view next moved) (means.view new after) found.1 (works_keep there producer route range more found.0)
  works_keep there producer route {policy} range (Helped helper old seat asking asker helped freed stopped left new after stalls out helps_ more) kept =
      let found = most_out means there producer route old seat asking asker range out.vain kept in
      let same = (helps_.1.writers_stay asker out.vain.step.seat_stays).1 in
      keeps_then policy there producer stopped (means.view old seat) (means.view freed asker) (means.view new after)
      (λ chunk has. subst (λ (v : WriterView). HasAsked v.asked chunk) (sym same) (found.1 chunk has))
      (works_keep there producer route range more (subst (λ (v : WriterView). KeepsMost there producer v) (sym same) found.0))
  works_keep there producer route {policy} range (Refused helper old seat asking asker left kept_table new after stalls out helps_ last) kept =
      let found = most_out means there producer route old seat asking asker range out.vain kept in
      let same = (helps_.1.writers_stay asker out.vain.step.seat_stays).1 in
      record {
        kept = most_quiet means there producer kept_table asker new after last (subst (λ (v : WriterView). KeepsMost there producer v) (sym same) found.0);
        grown = λ chunk has. subst (λ (asks : List Ask). HasAsked asks chunk) (sym last.asked)
            (subst (λ (v : WriterView). HasAsked v.asked chunk) (sym same) (found.1 chunk has));
        all = λ losing. absurd (true≢false (sym losing ∙ ap loses stalls));
      }
  works_keep there producer route range (Lost helper old seat mid between new after drops out last) kept =
      let found = most_out means there producer route old seat mid between range out.vain kept in record {
        kept = most_quiet means there producer mid between new after last found.0;
        grown = λ chunk has. subst (λ (asks : List Ask). HasAsked asks chunk) (sym last.asked) (found.1 chunk has);
        all = λ is stops chunk inside. subst (λ (asks : List Ask). HasAsked asks chunk) (sym last.asked) (found.2 chunk inside);
      }
  works_keep there producer route {policy} range (Tried helper old seat tries kept_helper next moved stopped left new after trying tried more) kept =
      let found = tries_keep there producer route range tried kept in
      keeps_then policy there producer stopped (means.view old seat) (means.view next moved) (means.view new after) found.grown (works_keep there producer route range more found.kept)
  works_keep there producer route range (GivesUp helper old seat tries left mid between new after trying tried last) kept =
      let found = tries_keep there producer route range tried kept in record {
        kept = most_quiet means there producer mid between new after last found.kept;
        grown = λ chunk has. subst (λ (asks : List Ask). HasAsked asks chunk) (sym last.asked) (found.grown chunk has);
        all = λ is stops chunk inside. subst (λ (asks : List Ask). HasAsked asks chunk) (sym last.asked) (found.all refl chunk inside);
      }

  -- the writer keeps what it has of its claims, if the call loses a packet only where it stops
  pub claims_kept : {begins stopped : Bool} {noted : List Call} {before behind : CallMoment H T W} (there : Setup) (at : ℕ)
      → range_of there (producer_of there at) ≡ range_in before.core.writer.route.arbiter → slice_get there.writers at ≡ Some before.core.writer.route.spec
      → IsAsked means needs helps begins stopped noted before behind
      → (lost_count (packets_of (view_at means behind).calls) ≡ lost_count (packets_of (view_at means before).calls))
      ⊎ ((loses before.core.writer.route.spec.policy ≡ true) × (stopped ≡ true))
      → KeepsClaims there at (view_at means before) → KeepsClaims there at (view_at means behind)
  claims_kept {before = before} there at range own asked lost claims =
      let route = before.core.writer.route in
      let on = works_keep there (producer_of there at) route range asked.works
      (record { unclaimed = claims.unclaimed; unstamped = claims.unstamped; own_asks = claims.own_asks; own_chunks = claims.own_chunks }) in
      record {
        unclaimed = on.kept.unclaimed;
        unstamped = on.kept.unstamped;
        own_asks = on.kept.own_asks;
        own_chunks = on.kept.own_chunks;
        vain = λ some chunk inside. elim lost [
          | inl same ↦ on.grown chunk (claims.vain (subst (λ (n : ℕ). 0 < n) same some) chunk inside)
          | inr now ↦ on.all now.0 now.1 chunk inside
        ];
        stalls = λ spec here is. elim lost [
          | inl same ↦ same ∙ claims.stalls spec here is
          | inr now ↦
              let one : spec ≡ route.spec = same_Some spec route.spec (sym here ∙ own) in
              absurd (true≢false (sym now.0 ∙ ap loses (ap (λ (s : WriterSpec). s.policy) (sym one) ∙ is)))
        ];
      }
