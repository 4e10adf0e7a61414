-- The history of a schedule is an account of each sequence whose writer is between two calls, so the report counts its packets once.
use Rattle.std.proofs.Common.{◌≡◌, ◌∙◌, ℕ, true, false, List, [], refl}
use Rattle.std.proofs.lemmas.Bool.{eq-eqb}
use Rattle.std.proofs.lemmas.Option.{slice_get_within}
use Rattle.page_geometry.specs.Sizes.{record_size}
use Rattle.trace_model.specs.Calls.{Call}
use Rattle.trace_model.specs.History.{Event}
use Rattle.trace_model.specs.Pages.{Page}
use Rattle.trace_model.specs.Sequences.{Sequence, IsFresh, sequence_in, is_known}
use Rattle.delivery_laws.specs.DeliveryLaws.{IsAccountOf}
use Rattle.delivery_laws.proofs.ReportLemmas.{accounts_are_histories}
use Rattle.model_laws.proofs.ReportLemmas.{counts_are_balanced, counts_are_of_outcomes, reports_count_deliveries}
use Rattle.chunk_plain.specs.Setup.{Setup, size_of, sequence_of}
use Rattle.chunk_plain.specs.World.{World, writer}
use Rattle.chunk_plain.specs.Owned.{IsOwned}
use Rattle.chunk_plain.specs.Histories.{history_of}
use Rattle.world_model.specs.FirstBuffers.{payload_at, sequences_from}
use Rattle.world_model.proofs.FaithfulLemmas.{order_events}
use Rattle.world_model.proofs.MakingLemmas.{set_at}
use Rattle.replay_model.specs.Written.{HasWritten}
use Rattle.schedule_laws.specs.Resting.{IsNotedInOrder}
use Rattle.schedule_laws.specs.ReportLaws.{SequencesHaveAccounts, EveryPacketIsCounted}
use Rattle.schedule_laws.proofs.AccountLemmas.{owned_behind, in_order}
use Rattle.schedule_laws.proofs.BetweenLemmas.{has_written}

-- the pages of a writer's cut come in order in the history
pub account_in : (setup : Setup) (world : World) (place : ℕ) → IsOwned world → (wrote : HasWritten setup place (writer world place)) → IsNotedInOrder world.service place
    → (sequences : List Sequence) (record_size : ℕ) → is_known sequences (sequence_of place) ≡ true
    → IsFresh (sequence_of place) record_size (sequence_in sequences (sequence_of place))
    → IsAccountOf (payload_at setup place) (writer world place).calls wrote.cut.cut.pages sequences (sequence_of place) record_size (history_of world.service)
account_in setup world place owned wrote noted sequences record_size known start =
    let counts = owned.counts place in
    record {
      possible = wrote.cut.possible;
      cut = wrote.cut.cut.cut;
      known = known;
      start = start;
      order = order_events (payload_at setup place) place (writer world place) wrote.held wrote.cut world.service counts.learnt
          (λ n chunk content at. (counts.named n chunk content at).0) (λ n look found at is. (owned.looks n look found at is).0)
          world.service.events 0 false [] (in_order setup world place owned wrote noted);
    }

pub sequences_have_accounts : SequencesHaveAccounts
sequences_have_accounts setup moves world laid schedule place inside between noted =
    let wrote = has_written setup place (writer world place) laid between in
    record {
      wrote = wrote;
      account = account_in setup world place (owned_behind setup moves world schedule) wrote noted;
    }

pub every_packet_is_counted : EveryPacketIsCounted
every_packet_is_counted setup moves world laid schedule place spec buffer get between noted few =
    let inside = slice_get_within setup.writers place spec get in
    let has = sequences_have_accounts setup moves world laid schedule place inside between noted in
    let set = set_at setup place spec get spec.buffer in
    let named = eq-eqb spec.buffer spec.buffer refl in
    let sequences : List Sequence = sequences_from setup spec.buffer 0 setup.writers in
    let calls : List Call = (writer world place).calls in
    let events : List Event = history_of world.service in
    let size : ℕ = record_size (size_of setup spec.producer) in
    let pages : List Page = has.wrote.cut.cut.pages in
    let account = has.account sequences size (set.known ∙ named) (set.start named) in
    let history = accounts_are_histories (payload_at setup place) calls pages sequences (sequence_of place) size events account few in
    record {
      balanced = counts_are_balanced (payload_at setup place) calls pages buffer.size buffer.policy sequences (sequence_of place) size events history;
      wrote = has.wrote;
      outcomes = counts_are_of_outcomes (payload_at setup place) calls pages buffer.size buffer.policy sequences (sequence_of place) size events history;
      records = reports_count_deliveries (payload_at setup place) calls pages buffer.size buffer.policy sequences (sequence_of place) size events history;
    }
