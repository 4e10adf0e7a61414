-- What a schedule leads to is an account, and so it is faithful.
use Rattle.std.proofs.Common.{◌≡◌, ◌∙◌, ℕ, ◌+◌, ◌<◌, ◌≤◌, ◌⊎◌, false, List, [], length, get_or, arith, inl, inr}
use Rattle.std.proofs.lemmas.Bool.{cases_lt}
use Rattle.std.proofs.lemmas.List.{length-map}
use Rattle.std.proofs.lemmas.Option.{slice_get-get_or}
use Rattle.trace_base.specs.declared.policy.WriterSpec.{WriterSpec}
use Rattle.trace_model.specs.Images.{Image}
use Rattle.chunk_plain.specs.Setup.{Setup, IsLaid, sequence_of, no_writer}
use Rattle.chunk_plain.specs.Views.{WriterView, newcomer}
use Rattle.chunk_plain.specs.World.{World, writer}
use Rattle.chunk_plain.specs.Plain.{first_world}
use Rattle.chunk_plain.specs.Owned.{IsOwned}
use Rattle.chunk_plain.specs.Histories.{completed_images}
use Rattle.chunk_plain.proofs.MadeLemmas.{first_owned}
use Rattle.world_model.specs.FirstBuffers.{payload_at}
use Rattle.world_model.specs.Accounts.{all_images, HasCut, InOrder, IsAccount, NoneCommitted}
use Rattle.world_model.proofs.FaithfulLemmas.{told_of, every_account_is_faithful}
use Rattle.service_core.proofs.AccountLemmas.{leads_are_in_order}
use Rattle.replay_model.specs.Written.{HasWritten}
use Rattle.chunk_schedules.specs.Moves.{Move}
use Rattle.chunk_schedules.specs.Schedules.{IsSchedule}
use Rattle.schedule_laws.specs.Resting.{AreBetweenCalls, IsNotedInOrder, AreOwnInOrder}
use Rattle.schedule_laws.specs.Laws.{SchedulesAreAccounts, EveryScheduleIsFaithful, EverySequenceIsTold, EveryServedScheduleIsFaithful}
use Rattle.schedule_laws.proofs.BetweenLemmas.{has_written}
use Rattle.schedule_laws.proofs.CommitLemmas.{none_committed, serving_is_in_order}
use Rattle.chunk_schedules.proofs.ScheduleLemmas.{schedules_keep_ownership}

-- the world that a schedule leads to is owned, with as many writers as the set-up
pub owned_behind : (setup : Setup) (moves : List Move) (world : World) → IsSchedule setup (first_world setup) moves world → IsOwned world
owned_behind setup moves world schedule = (schedules_keep_ownership setup (first_world setup) world moves (first_owned setup) schedule).0

pub many_behind : (setup : Setup) (moves : List Move) (world : World) → IsSchedule setup (first_world setup) moves world → length world.writers ≡ length setup.writers
many_behind setup moves world schedule =
    (schedules_keep_ownership setup (first_world setup) world moves (first_owned setup) schedule).1 ∙ length-map setup.writers (λ (_ : WriterSpec). newcomer)

-- notes that lead on are in order
pub in_order : (setup : Setup) (world : World) (place : ℕ) → IsOwned world → (wrote : HasWritten setup place (writer world place)) → IsNotedInOrder world.service place
    → InOrder (all_images (writer world place) wrote.held) world.service (sequence_of place) 0 false [] world.service.events
in_order setup world place owned wrote noted =
    leads_are_in_order world place (all_images (writer world place) wrote.held) noted.last owned wrote.images noted.leads noted.none_due

-- ---- the account

module _ (setup : Setup) (world : World) (laid : IsLaid setup) (owned : IsOwned world) (between : AreBetweenCalls setup world)
    (noted : AreOwnInOrder setup world.service) where
  wrote : (place : ℕ) → place < length setup.writers → HasWritten setup place (writer world place)
  wrote place inside = has_written setup place (writer world place) laid (between place inside)

  abbrev held_by : (place : ℕ) → (place < length setup.writers) ⊎ (length setup.writers ≤ place) → List Image
  held_by place (inl inside) = (wrote place inside).held
  held_by place (inr past) = []

  cut_by : (place : ℕ) (c : (place < length setup.writers) ⊎ (length setup.writers ≤ place)) → place < length setup.writers
      → HasCut (payload_at setup place) place (writer world place) (held_by place c)
  cut_by place (inl inside) low = (wrote place inside).cut
  cut_by place (inr past) low = absurd (omega (arith, past, low))

  begun_by : (place : ℕ) (c : (place < length setup.writers) ⊎ (length setup.writers ≤ place)) → place < length setup.writers
      → length (writer world place).begun ≡ length (completed_images (writer world place).begun) + length (held_by place c)
  begun_by place (inl inside) low = (wrote place inside).begun
  begun_by place (inr past) low = absurd (omega (arith, past, low))

  order_by : (place : ℕ) (c : (place < length setup.writers) ⊎ (length setup.writers ≤ place)) → place < length setup.writers
      → NoneCommitted world.service (sequence_of place)
      → InOrder (all_images (writer world place) (held_by place c)) world.service (sequence_of place) 0 false [] world.service.events
  order_by place (inl inside) low none = in_order setup world place owned (wrote place inside) (noted place inside none)
  order_by place (inr past) low none = absurd (omega (arith, past, low))

  account_of : length world.writers ≡ length setup.writers → IsAccount setup world
  account_of many = record {
    owned = owned;
    writers = many;
    held = λ place. held_by place (cases_lt place (length setup.writers));
    cuts = λ place low. cut_by place (cases_lt place (length setup.writers)) (omega (arith, low, many));
    begun = λ place low. begun_by place (cases_lt place (length setup.writers)) (omega (arith, low, many));
    order = λ place low none. order_by place (cases_lt place (length setup.writers)) (omega (arith, low, many)) none;
  }

pub schedules_are_accounts : SchedulesAreAccounts
schedules_are_accounts setup moves world laid schedule between noted =
    account_of setup world laid (owned_behind setup moves world schedule) between noted (many_behind setup moves world schedule)

-- ---- the law

pub every_schedule_is_faithful : EveryScheduleIsFaithful
every_schedule_is_faithful setup buffers moves world laid schedule between noted =
    every_account_is_faithful setup buffers world (schedules_are_accounts setup moves world laid schedule between noted)

pub every_sequence_is_told : EverySequenceIsTold
every_sequence_is_told setup buffers moves world laid schedule place inside between noted =
    let owned = owned_behind setup moves world schedule in
    let view : WriterView = writer world place in
    let wrote = has_written setup place view laid between in
    let counts = owned.counts place in
    let spec : WriterSpec = get_or setup.writers place no_writer in
    let get = slice_get-get_or setup.writers place no_writer inside in
    told_of (payload_at setup place) place view wrote.held wrote.cut world.service counts.learnt
    (λ n chunk content at. (counts.named n chunk content at).0) (λ n look found at is. (owned.looks n look found at is).0)
    setup buffers spec get (in_order setup world place owned wrote noted)

pub every_served_schedule_is_faithful : (S : Type 0) → EveryServedScheduleIsFaithful S
every_served_schedule_is_faithful S setup buffers moves world core laid schedule between agrees =
    let faithful = every_schedule_is_faithful setup buffers moves world laid schedule between
    (λ place inside none. serving_is_in_order S setup world.service core agrees place inside none) in
    record {
      known = faithful.known;
      told = λ place packets none e. faithful.told place packets (none_committed setup moves world (sequence_of place) schedule none) e;
    }
