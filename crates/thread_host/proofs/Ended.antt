-- Once all producers are closed and then buffers read, all of them or up to a write that failed: what the seats knew that were settled is a world in which
-- all was done and then closed.
use Rattle.std.proofs.Common.{◌≡◌, ◌∙◌, ℕ, ◌≤◌, true, All, List, [], ◌++◌, length, refl, ap, subst, arith}
use Rattle.std.specs.Prelude.{slice_index_or}
use Rattle.std.specs.List.{flat_map}
use Rattle.trace_model.specs.Buffers.{Buffer}
use Rattle.trace_model.specs.Delivery.{Delivered}
use Rattle.trace_model.specs.History as model
use Rattle.trace_model.specs.History.{records_after}
use Rattle.chunk_plain.specs.Histories.{history_of}
use Rattle.chunk_plain.specs.Setup.{Setup}
use Rattle.chunk_plain.specs.Views.{ServiceView, Taken, none_taken, taken_of}
use Rattle.chunk_plain.specs.World.{World}
use Rattle.chunk_words.specs.declared.seats.ReadPass.{ReadPass}
use Rattle.chunk_words.specs.Closed.{HasAllSeats, IsAccount, AllTaken, views_of}
use Rattle.chunk_words.specs.GoesOn.{GoesOn}
use Rattle.chunk_words.specs.Sits.{setup_in, known_by_pass}
use Rattle.scenario_text.specs.Scenario.{Parts}
use Rattle.service_core.specs.Agreement.{KeepsRest, first_of}
use Rattle.service_core.specs.Reading.{noted_read}
use Rattle.service_core.proofs.QuietLemmas.{adds_quiet}
use Rattle.replay_model.specs.Played.{buffers_of}
use Rattle.run_model.specs.Reads.{GoesByReads}
use Rattle.run_model.specs.Settled.{ClosesTo, HasClosedAll}
use Rattle.chunk_plain.specs.Plain.{first_world}
use Rattle.run_model.specs.Lines.{PlaysAll}
use Rattle.thread_service.specs.declared.service.Service.{Service}
use Rattle.thread_service.specs.Reading.{GoesUnread, IsKnownWhole}
use Rattle.thread_service.specs.Serving.{core_of, view_in, desk_in, Serves}
use Rattle.thread_service.proofs.GoingOn.{goes_adds, goes_unread}
use Rattle.thread_host.specs.Finishing.{AreClosedTo, HasEnded}
use Rattle.thread_host.specs.Hosts.{IsSettled}
use Rattle.thread_host.specs.declared.settled.Settled.{Settled}
use Rattle.thread_host.proofs.Closing.{IsNotedRead, closes_own, closes_rise, none_between}
use Rattle.thread_host.proofs.DoneAll.{all_seats, closed_here, done_all, opened_here, whole_here}
use Rattle.thread_host.proofs.Parts.{AddsNoPart, closes_to_none}
use Rattle.thread_host.proofs.Telling.{reads_further}

-- ---- what was done

-- The service closed all producers of what was settled, in rising number. What it did then left it one of the table, with all closed that was, and its
-- buffers made as they were.
pub record ClosesAll (settled : Settled) (closed final : Service) : Type 0 where
  pub closes : ClosesTo (setup_in settled.table) settled.producers (view_in settled.service) (view_in closed)
  pub all_closed : AreClosedTo (setup_in settled.table) settled.producers closed
  pub first : first_of (setup_in settled.table) (core_of closed) ≡ first_of (setup_in settled.table) (core_of settled.service)
  pub keeps : KeepsRest (setup_in settled.table) (core_of closed) (core_of final)
  pub serves : Serves settled.table final

-- Nothing but these reads was noted: no image came by a commit, nothing was taken, and no part of a chunk noted. The pass went on by the same reads, and
-- by no other one.
pub record AddsReads (old new passed pass : ServiceView) : Type 0 where
  pub commits : new.commits ≡ old.commits
  pub taken : new.taken ≡ old.taken
  pub parts : AddsNoPart old new
  pub last : List model.Event
  pub are_reads : All IsNotedRead last
  pub history : history_of new ≡ history_of old ++ last
  pub since : List model.Event
  pub goes : history_of pass ≡ history_of passed ++ since
  pub noted : flat_map noted_read since ≡ flat_map noted_read last

-- ---- what holds then

module _ (scenario : Parts) (settled : Settled) (is : IsSettled scenario settled) (closed final : Service) (ending : ClosesAll settled closed final) where
  abbrev setup : Setup
  setup = setup_in settled.table

  abbrev view : ServiceView
  view = view_in final

  abbrev world : World
  world = record { chunks = []; writers = views_of settled.seats.items; service = view_in final }

  -- the buffers were those of the scenario
  pub began : first_of (setup_in settled.table) (core_of closed) ≡ buffers_of scenario (setup_in settled.table)
  began = ending.first ∙ is.served.began

  pub of_scenario : (P : List Buffer → ℕ → Type 0) (count : ℕ) → count ≡ length scenario.buffers → P (first_of (setup_in settled.table) (core_of closed)) count
      → P (buffers_of scenario (setup_in settled.table)) (length scenario.buffers)
  of_scenario P count many holds =
      subst (λ (first : List Buffer). P first (length scenario.buffers)) began (subst (λ (n : ℕ). P (first_of setup (core_of closed)) n) many holds)

  module _ (pass : ReadPass) (reads : AddsReads (view_in closed) (view_in final) (known_by_pass settled.pass) (known_by_pass pass)) where
    pub own : (view_in final).commits ≡ []
    own = reads.commits ∙ closes_own setup settled.producers (view_in settled.service) (view_in closed) ending.closes ∙ is.served.own

    -- a part is noted neither by the closes nor by the reads
    pub no_part : AddsNoPart (view_in settled.service) (view_in final)
    no_part sequence = reads.parts sequence ∙ closes_to_none setup settled.producers (view_in settled.service) (view_in closed) ending.closes sequence

    pub rises : (place : ℕ) → (taken_of (view_in settled.service) place).count ≤ (taken_of (view_in final) place).count
    rises place =
        let rise = closes_rise setup settled.producers (view_in settled.service) (view_in closed) is.served.serves.agrees.many ending.closes place in
        let same : (taken_of view place).count ≡ (taken_of (view_in closed) place).count =
        ap (λ (ts : List Taken). (slice_index_or ts place none_taken).count) reads.taken in
        omega (arith, rise, same)

    -- each seat has nothing left to do
    pub ended_seats : HasAllSeats settled.table (view_in final) settled.seats.items
    ended_seats = all_seats scenario settled is final ending.serves rises own no_part

    -- ---- once all is taken apart

    module _ (account : IsAccount (setup_in settled.table) (desk_in settled.service).marks (views_of settled.seats.items) (view_in final)) (taken : AllTaken (view_in final) (views_of settled.seats.items))
        (goes : GoesOn (known_by_pass pass) (view_in final)) (known : IsKnownWhole (known_by_pass pass)) where
      -- nothing was read behind the lines, before the end
      pub none_read : GoesUnread (history_of (known_by_pass settled.pass)) (history_of (view_in closed))
      none_read =
          none_between (known_by_pass settled.pass) (known_by_pass pass) (view_in closed) view reads.since reads.last reads.history reads.goes reads.noted reads.are_reads
          (goes_unread (known_by_pass pass) view known goes)

      -- all was done, and then closed
      abbrev pub closed_all : GoesByReads (setup_in settled.table) (buffers_of scenario (setup_in settled.table)) scenario.lines [] (history_of (known_by_pass settled.pass))
          → PlaysAll (setup_in settled.table) (buffers_of scenario (setup_in settled.table)) scenario.lines (first_world (setup_in settled.table)).service is.stood.service
          → HasClosedAll scenario (setup_in settled.table) (record { chunks = []; writers = views_of settled.seats.items; service = view_in final })
      closed_all asked played = record {
        done = done_all scenario settled is final ending.serves rises own no_part account taken true (closed_here scenario settled closed final is ending.all_closed ending.keeps);
        settled = view_in settled.service;
        closed = view_in closed;
        played = played;
        settles = is.settles;
        whole = whole_here scenario settled is final ending.serves rises own no_part account taken;
        opened = opened_here scenario settled is;
        closes = subst (λ (n : ℕ). ClosesTo setup n (view_in settled.service) (view_in closed)) is.producers ending.closes;
        asked = reads_further setup (buffers_of scenario setup) scenario.lines [] (history_of (known_by_pass settled.pass)) (history_of (view_in closed)) asked
            none_read;
      }

      -- the records are those that the pass knew, and then those that it knows more
      abbrev pub has_ended : (more : List Delivered)
          → records_after (buffers_of scenario (setup_in settled.table)) (history_of (known_by_pass pass))
          ≡ records_after (buffers_of scenario (setup_in settled.table)) (history_of (known_by_pass settled.pass)) ++ more
          → HasEnded scenario settled
      has_ended more told = record {
        world = world;
        writers = refl;
        account = account;
        closed = view_in closed;
        closes = ending.closes;
        more = more;
        records = adds_quiet (buffers_of scenario setup) (known_by_pass pass) view known (goes_adds (known_by_pass pass) view goes) ∙ told;
      }
