-- What closing a producer leaves of the host.
use Rattle.std.proofs.Common.{◌≡◌, ◌≢◌, ◌∙◌, ℕ, ◌-◌, ◌<◌, ◌≤◌, ◌⊎◌, Bool, true, false, true≢false, Some, List, [], ◌∷◌, length, length-set, sym, ap, subst, arith, inl, inr}
use Rattle.std.specs.Prelude.{slice_index_or, slice_set}
use Rattle.std.proofs.lemmas.Bool.{cases_eq}
use Rattle.std.proofs.lemmas.List.{get_or-set_same, get_or-set_other}
use Rattle.byte_io.specs.Bytes.{Intake}
use Rattle.chunk_plain.specs.Meaning.{Meaning, IsServiceStep}
use Rattle.chunk_plain.specs.Setup.{Setup, HasProducer, producer_of, ProducersAreApart}
use Rattle.chunk_plain.specs.Views.{ServiceView}
use Rattle.chunk_plain.specs.World.{World}
use Rattle.service_core.specs.Agreement.{is_closed, first_of}
use Rattle.service_core.specs.Closing.{ClosesAll, TakesAndCloses}
use Rattle.service_core.specs.Told.{LeavesNone}
use Rattle.service_core.proofs.AgreeLemmas.{first_stays}
use Rattle.replay_model.specs.Acts.{CloseProducer}
use Rattle.replay_model.specs.Does.{AreOpen, Closes}
use Rattle.replay_model.proofs.PlayLemmas.{plays_one}
use Rattle.replay_host.specs.declared.host.Host.{Host}
use Rattle.replay_host.specs.Playing.{IsHost, HasDone}
use Rattle.replay_host.specs.Standing.{IsServed, Stands}
use Rattle.service_core.proofs.QuietLemmas.{adds_quiet, close_adds}
use Rattle.replay_host.proofs.RowLemmas.{AreLaws}
use Rattle.replay_host.proofs.ServedLemmas.{quiet_writes}

-- a flag that stands once another one is taken down stood before
flag_stood : (flags : List Bool) (taken asked : ℕ) → 1 ≤ taken → 1 ≤ asked → taken ≤ length flags
    → slice_index_or (slice_set flags (taken - 1) false) (asked - 1) false ≡ true
    → (asked ≢ taken) × (slice_index_or flags (asked - 1) false ≡ true)
flag_stood flags taken asked least some inside said = step (cases_eq asked taken)
  where
    step : (asked ≡ taken) ⊎ (asked ≡ taken → ⊥) → (asked ≢ taken) × (slice_index_or flags (asked - 1) false ≡ true)
    step (inl same) =
        absurd (true≢false (sym said ∙ ap (λ (i : ℕ). slice_index_or (slice_set flags (taken - 1) false) (i - 1) false) same
        ∙ get_or-set_same flags (taken - 1) false false (omega (arith, least, inside))))
    step (inr apart) =
        let differs : asked - 1 ≢ taken - 1 = λ same. apart (omega (arith, least, some, same)) in
        (apart, sym (get_or-set_other flags (taken - 1) (asked - 1) false false differs) ∙ said)

-- what is kept of the set-up stays right where a producer's sequences are closed and its flag is taken down
pub closed_still : {T W S : Type 0} (means : Meaning T W S) (producer : ℕ) (old new : Host T W S) → IsHost means old → HasProducer (means.setup old.table) producer
    → Stands means new.table new.writers.items new.helper.service → means.setup new.table ≡ means.setup old.table
    → ClosesAll (means.setup old.table) producer old.helper.service new.helper.service
    → new.specs ≡ old.specs → new.open_producers.items ≡ slice_set old.open_producers.items (producer - 1) false → IsHost means new
closed_still means producer old new host mine stands same closes specs flags = record {
  stands = stands;
  apart = subst ProducersAreApart (sym same) host.apart;
  specs = ap (λ (v : _). v.items) specs ∙ host.specs ∙ ap (λ (s : Setup). s.writers) (sym same);
  producers = ap (λ (fs : List Bool). length fs) flags ∙ length-set old.open_producers.items (producer - 1) false
      ∙ host.producers ∙ ap (λ (s : Setup). length s.ranges) (sym same);
  opened = λ asked has said place below of_asked.
      let was : HasProducer (means.setup old.table) asked = subst (λ (s : Setup). HasProducer s asked) same has in
      let inside : producer ≤ length old.open_producers.items = let most = mine.most in let many = host.producers in omega (arith, most, many) in
      let stood = flag_stood old.open_producers.items producer asked mine.least was.least inside (ap (λ (fs : List Bool). slice_index_or fs (asked - 1) false) (sym flags) ∙ said) in
      let here : place < length (means.setup old.table).writers = subst (λ (s : Setup). place < length s.writers) same below in
      let named : producer_of (means.setup old.table) place ≡ asked = ap (λ (s : Setup). producer_of s place) (sym same) ∙ of_asked in
      ap (λ (s : Setup). is_closed s new.helper.service place) same
      ∙ closes.others place here (λ is. stood.0 (sym named ∙ is)) ∙ host.opened asked was stood.1 place here named;
}

-- the closing of a producer, as an act
pub close_done : {T W S : Type 0} (means : Meaning T W S) → AreLaws means → (producer taken : ℕ) (old new : Host T W S) → IsServed means old.table old.helper.service
    → IsServiceStep means old.table old.helper.service.seat new.table new.helper.service.seat
    → ClosesAll (means.setup old.table) producer old.helper.service new.helper.service
    → AreOpen (means.setup old.table) producer (means.service_view old.table old.helper.service.seat)
    → TakesAndCloses (means.setup old.table) producer taken
    (means.service_view old.table old.helper.service.seat) (means.service_view new.table new.helper.service.seat)
    → ((was : World) → means.told old.table ≡ Some was
    → LeavesNone (means.setup old.table) producer was (means.told new.table) (means.service_view new.table new.helper.service.seat))
    → (intake : Intake) → HasDone means (CloseProducer producer ∷ []) [] old intake new intake
close_done means laws producer taken old new served step closes opened takes told intake = record {
  setup_is = step.setup_stays;
  first = first_stays (means.setup old.table) old.helper.service new.helper.service closes.fields;
  plays = λ was told_was.
      let left = told was told_was in
      let view_was = laws.told_service_view old.table old.helper.service.seat was told_was served.serves in
      let does : Closes (means.setup old.table) producer was left.new = record {
        opened = subst (λ (v : ServiceView). AreOpen (means.setup old.table) producer v) view_was opened;
        writers = left.stands.writers;
        taken = taken;
        closes = subst (λ (v : ServiceView). TakesAndCloses (means.setup old.table) producer taken v left.new.service) view_was
            (subst (λ (v : ServiceView). TakesAndCloses (means.setup old.table) producer taken
            (means.service_view old.table old.helper.service.seat) v) (sym left.stands.service) takes);
        none_left = left.none_left;
      } in (
        left.new,
        left.told_is,
        plays_one (means.setup old.table) (first_of (means.setup old.table) old.helper.service) (CloseProducer producer) was left.new does (laws.told_owned new.table left.new left.told_is),
      );
  writes = λ start is. quiet_writes start intake (first_of (means.setup old.table) old.helper.service)
      (means.service_view old.table old.helper.service.seat) (means.service_view new.table new.helper.service.seat)
      (adds_quiet (first_of (means.setup old.table) old.helper.service)
      (means.service_view old.table old.helper.service.seat) (means.service_view new.table new.helper.service.seat) served.agrees.known
      (close_adds (means.setup old.table) old.helper.service producer taken (means.service_view old.table old.helper.service.seat) (means.service_view new.table new.helper.service.seat)
      served.agrees takes)) is;
}
