-- What the service took of each writer, call by call.
use Rattle.std.proofs.Common.{◌≡◌, ℕ, ◌+◌, ◌-◌, ◌<◌, ◌≤◌, zero, suc, List, [], length, set, get_or, replicate, refl, sym, subst, ◌∙◌, arith}
use Rattle.chunk_plain.specs.Steps.{notes}
use Rattle.chunk_plain.specs.Views.{Arrive, ServiceView}
use Rattle.chunk_plain.specs.Words.{AllArrived, LacksArrival}
use Rattle.chunk_plain.proofs.ArrivedLemmas.{all_arrived}
use Rattle.chunk_plain.proofs.Lists.{changed}
use Rattle.chunk_words.specs.declared.seats.ServiceSeat.{ServiceSeat}
use Rattle.table_speed.specs.Taking.{HasTakenEach, HasTakenNone, TakesOne, TakesNone, count_of}

zeros : (n place : ℕ) → get_or (replicate n zero) place zero ≡ zero
zeros zero place = refl
zeros (suc n) zero = refl
zeros (suc n) (suc place) = zeros n place

pub none_yet : (seat : ServiceSeat) → HasTakenNone seat → HasTakenEach (replicate 4 0) seat
none_yet seat none = record {
  counts_are = λ place below. none.counts_are place below ∙ sym (zeros 4 place);
  none_out = none.none_out;
  arrived = none.arrived;
}

pub as_before : (counts : List ℕ) (old new : ServiceSeat) → HasTakenEach counts old → TakesNone old new → HasTakenEach counts new
as_before counts old new each none = record {
  counts_are = λ place below. none.all place ∙ each.counts_are place below;
  none_out = none.none_out;
  arrived = none.arrived;
}

pub one_more : (counts : List ℕ) (old new : ServiceSeat) (place more : ℕ) → place < length counts → more ≡ count_of old place + 1
    → HasTakenEach counts old → TakesOne place old new → HasTakenEach (set counts place more) new
one_more counts old new place more inside is each one = record {
  counts_are = λ other below. changed (λ (n : ℕ). count_of new other ≡ n) counts place other more 0 inside
      (λ same. subst (λ p. count_of new p ≡ more) (sym same) (one.more ∙ sym is))
      (λ differs. one.others other differs ∙ each.counts_are other below);
  none_out = one.none_out;
  arrived = one.arrived;
}

-- behind the note that the chunk arrived which was taken last, all that was taken has
pub arrives : (view : ServiceView) (writer sequence position : ℕ) → 1 ≤ writer → sequence ≡ writer + 1 → LacksArrival view (writer - 1) position
    → AllArrived (notes view (Arrive sequence position))
arrives view writer sequence position least is lacks =
    let same : writer - 1 + 2 ≡ sequence = omega (arith, least, is) in
    subst (λ (s : ℕ). AllArrived (notes view (Arrive s position))) same (all_arrived view (writer - 1) position [] lacks.others)
