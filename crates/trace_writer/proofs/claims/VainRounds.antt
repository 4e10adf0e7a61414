-- The rounds of claims of a writer that tries so often: where it gets no chunk all of them were in vain, one behind the other.
use Rattle.std.proofs.Common.{◌≡◌, ◌∙◌, ℕ, suc, Bool, true, List, [], ◌∷◌, ◌++◌, length, refl, sym, ap, subst, append_assoc, append-nil, true≢false}
use Rattle.std.proofs.lemmas.List.Elements.{All-nil, All-cons}
use Rattle.std.specs.List.{All, flat_map}
use Rattle.trace_model.specs.Calls.{Call}
use Rattle.chunk_plain.specs.Setup.{Setup}
use Rattle.chunk_plain.specs.Views.{Ask, WriterView}
use Rattle.chunk_plain.specs.Meaning.{Meaning}
use Rattle.claim_arbiter.specs.Claiming.{AllClaimed, lost_asks}
use Rattle.trace_writer.specs.declared.route.Route.{Route}
use Rattle.trace_writer.specs.Helping.{LeavesWriters, Tries, Gains, Again, Ends}
use Rattle.trace_writer.specs.OwnSteps.{GetsChunk, IsInVain, IsVainTry}

-- so many full rounds of claims in vain, one behind the other, with no call noted among them
pub record HasRounds (setup : Setup) (route : Route) (many : ℕ) (old new : WriterView) : Type 0 where
  pub rounds : List (List ℕ)
  pub count_is : length rounds ≡ many
  pub each : All (λ (words : List ℕ). (length words ≡ route.arbiter.chunks) × AllClaimed setup route.arbiter.first words) rounds
  pub asked : new.asked ≡ old.asked ++ flat_map (lost_asks (length old.calls) route.arbiter.first) rounds
  pub calls : new.calls ≡ old.calls

-- a round comes first
round_first : (setup : Setup) (route : Route) (many : ℕ) (words : List ℕ) (old mid new : WriterView) → length words ≡ route.arbiter.chunks → AllClaimed setup route.arbiter.first words
    → mid.asked ≡ old.asked ++ lost_asks (length old.calls) route.arbiter.first words → mid.calls ≡ old.calls
    → HasRounds setup route many mid new → HasRounds setup route (suc many) old new
round_first setup route many words old mid new count_is claimed asked calls rest =
    let round : List Ask = lost_asks (length old.calls) route.arbiter.first words in
    let later : List Ask = flat_map (lost_asks (length old.calls) route.arbiter.first) rest.rounds in
    let behind : new.asked ≡ mid.asked ++ later =
    subst (λ (noted : List Call). new.asked ≡ mid.asked ++ flat_map (lost_asks (length noted) route.arbiter.first) rest.rounds) calls rest.asked in
    record {
      rounds = words ∷ rest.rounds;
      count_is = ap (λ (n : ℕ). suc n) rest.count_is;
      each = All-cons (λ (one : List ℕ). (length one ≡ route.arbiter.chunks) × AllClaimed setup route.arbiter.first one) words rest.rounds (count_is, claimed) rest.each;
      asked = behind ∙ ap (λ (asks : List Ask). asks ++ later) asked ∙ append_assoc old.asked round later;
      calls = rest.calls ∙ calls;
    }

no_round : (setup : Setup) (route : Route) (view : WriterView) → HasRounds setup route 0 view view
no_round setup route view = record {
  rounds = [];
  count_is = refl;
  each = All-nil (λ (one : List ℕ). (length one ≡ route.arbiter.chunks) × AllClaimed setup route.arbiter.first one);
  asked = sym (append-nil view.asked);
  calls = refl;
}

module _ {T W S : Type 0} (means : Meaning T W S) where
  -- one behind which nothing was asked
  pub one_round : (route : Route) (old : T) (seat : W) (new : T) (after : W) → IsInVain means route old seat new after
      → HasRounds (means.setup old) route 1 (means.view old seat) (means.view new after)
  one_round route old seat new after vain =
      round_first (means.setup old) route 0 vain.words (means.view old seat) (means.view new after) (means.view new after) vain.count_is vain.all_claimed vain.asked vain.calls
      (no_round (means.setup old) route (means.view new after))

module _ {H T W S : Type 0} (means : Meaning T W S) where
  pub tries_rounds : {begins : Bool} (route : Route) {asks : H → T → Bool → H → T → Type 0} {left : ℕ} {helper kept : H} {old new : T} {seat after : W} {stopped : Bool}
      → Tries (GetsChunk means route) (IsVainTry means route begins) (λ asked table answer behind freed. asks asked table answer behind freed × LeavesWriters means table freed)
      left helper old seat stopped kept new after
      → stopped ≡ true → HasRounds (means.setup old) route (suc left) (means.view old seat) (means.view new after)
  tries_rounds route (Gains left helper old seat new after gets) stops = absurd (true≢false (sym stops))
  tries_rounds route (Again left helper old seat asking asker answer helped freed stopped kept new after vain helps more) stops =
      let rest = tries_rounds route more stops in
      let same = (helps.1.writers_stay asker vain.vain.step.seat_stays).1 in
      round_first (means.setup old) route (suc left) vain.vain.words (means.view old seat) (means.view asking asker) (means.view new after) vain.vain.count_is vain.vain.all_claimed vain.vain.asked vain.vain.calls
      (subst (λ (v : WriterView). HasRounds (means.setup old) route (suc left) v (means.view new after)) same
      (subst (λ (s : Setup). HasRounds s route (suc left) (means.view freed asker) (means.view new after)) (helps.1.setup_stays ∙ vain.vain.step.setup_stays) rest))
  tries_rounds route (Ends helper old seat new after vain) stops = one_round means route old seat new after vain.vain

  pub tries_setup : {begins : Bool} (route : Route) {asks : H → T → Bool → H → T → Type 0} {left : ℕ} {helper kept : H} {old new : T} {seat after : W} {stopped : Bool}
      → Tries (GetsChunk means route) (IsVainTry means route begins) (λ asked table answer behind freed. asks asked table answer behind freed × LeavesWriters means table freed)
      left helper old seat stopped kept new after
      → means.setup new ≡ means.setup old
  tries_setup route (Gains left helper old seat new after gets) = gets.step.setup_stays
  tries_setup route (Again left helper old seat asking asker answer helped freed stopped kept new after vain helps more) =
      tries_setup route more ∙ helps.1.setup_stays ∙ vain.vain.step.setup_stays
  tries_setup route (Ends helper old seat new after vain) = vain.vain.step.setup_stays
