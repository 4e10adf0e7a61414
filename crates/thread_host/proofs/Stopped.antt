-- Where a write failed at the end, or before it: what the seats knew is a run of the scenario up to there.
use Rattle.std.proofs.Common.{◌≡◌, ◌∙◌, ℕ, ◌≤◌, false, All, List, [], length, refl, sym, ap, subst, arith}
use Rattle.byte_io.specs.Bytes.{Intake}
use Rattle.trace_model.specs.Buffers.{Buffer}
use Rattle.trace_model.specs.History as model
use Rattle.chunk_plain.specs.Histories.{history_of}
use Rattle.chunk_plain.specs.Setup.{Setup}
use Rattle.chunk_plain.specs.Views.{ServiceView, taken_of}
use Rattle.chunk_words.specs.declared.seats.ReadPass.{ReadPass}
use Rattle.chunk_words.specs.Closed.{HasAllSeats, IsAccount, AllTaken, views_of}
use Rattle.chunk_words.specs.GoesOn.{GoesOn}
use Rattle.chunk_words.specs.Sits.{setup_in, known_by_pass}
use Rattle.scenario_text.specs.Scenario.{Parts}
use Rattle.service_core.specs.Agreement.{first_of}
use Rattle.replay_model.specs.Played.{buffers_of}
use Rattle.run_model.specs.Reads.{GoesByReads}
use Rattle.run_model.specs.Stopped.{StopsInEnd}
use Rattle.chunk_plain.specs.Plain.{first_world}
use Rattle.run_model.specs.Lines.{PlaysAll}
use Rattle.thread_service.specs.declared.service.Service.{Service}
use Rattle.thread_service.specs.Reading.{IsKnownWhole}
use Rattle.thread_service.specs.Serving.{core_of, view_in, desk_in}
use Rattle.thread_service.proofs.GoingOn.{goes_unread}
use Rattle.thread_host.specs.Finishing.{FailsOut, HasFailed, HasLetGo}
use Rattle.thread_host.specs.Hosts.{IsSettled}
use Rattle.thread_host.specs.declared.settled.Settled.{Settled}
use Rattle.thread_host.proofs.Closing.{IsNotedRead, reads_own, reads_taken, some_noted}
use Rattle.thread_host.proofs.DoneAll.{all_seats, done_all}
use Rattle.thread_host.proofs.Ended.{AddsReads, ClosesAll, closed_all, ended_seats, has_ended, of_scenario}
use Rattle.thread_host.proofs.Parts.{reads_some_none}

-- ---- at the end

-- what was read is reads alone
reads_only : (setup : Setup) (first : List Buffer) (number : ℕ) (old new passed pass : ServiceView) (before after : Intake)
    → FailsOut setup first number old new passed pass before after → AddsReads old new passed pass
reads_only setup first number old new passed pass before after out =
    let some = out.reads in
    record {
      commits = ap (λ (v : ServiceView). v.commits) some.view ∙ reads_own setup first some.read some.earlier old some.between some.reads;
      taken = ap (λ (v : ServiceView). v.taken) some.view ∙ reads_taken setup first some.read some.earlier old some.between some.reads;
      parts = reads_some_none setup first number old new out.next some;
      last = out.last;
      are_reads = subst (λ (es : List model.Event). All IsNotedRead es) (sym out.last_is) (some_noted setup first number old new out.next some);
      history = out.history;
      since = out.since;
      goes = out.goes;
      noted = out.noted;
    }

module _ (scenario : Parts) (settled : Settled) (is : IsSettled scenario settled) (closed final : Service) (ending : ClosesAll settled closed final)
    (pass : ReadPass) (before after : Intake) (count : ℕ) (all_read : count ≡ length scenario.buffers)
    (out : FailsOut (setup_in settled.table) (first_of (setup_in settled.table) (core_of closed)) count (view_in closed) (view_in final)
    (known_by_pass settled.pass) (known_by_pass pass) before after) where
  abbrev setup : Setup
  setup = setup_in settled.table

  fails_out : FailsOut (setup_in settled.table) (buffers_of scenario (setup_in settled.table)) (length scenario.buffers) (view_in closed) (view_in final)
      (known_by_pass settled.pass) (known_by_pass pass) before after
  fails_out = of_scenario scenario settled is closed final ending
      (λ (first : List Buffer) (number : ℕ). FailsOut setup first number (view_in closed) (view_in final) (known_by_pass settled.pass) (known_by_pass pass) before after)
      count all_read out

  only : AddsReads (view_in closed) (view_in final) (known_by_pass settled.pass) (known_by_pass pass)
  only = reads_only setup (first_of setup (core_of closed)) count (view_in closed) (view_in final) (known_by_pass settled.pass) (known_by_pass pass) before after out

  pub seats_back : HasAllSeats settled.table (view_in final) settled.seats.items
  seats_back = ended_seats scenario settled is closed final ending pass only

  -- once all is taken apart
  module _ (account : IsAccount (setup_in settled.table) (desk_in settled.service).marks (views_of settled.seats.items) (view_in final)) (taken : AllTaken (view_in final) (views_of settled.seats.items))
      (goes : GoesOn (known_by_pass pass) (view_in final)) (known : IsKnownWhole (known_by_pass pass)) where
    stops_in_end : GoesByReads (setup_in settled.table) (buffers_of scenario (setup_in settled.table)) scenario.lines [] (history_of (known_by_pass settled.pass))
        → PlaysAll (setup_in settled.table) (buffers_of scenario (setup_in settled.table)) scenario.lines (first_world (setup_in settled.table)).service is.stood.service
        → StopsInEnd scenario (setup_in settled.table) (record { chunks = []; writers = views_of settled.seats.items; service = view_in final }) fails_out.next
    stops_in_end asked played = record {
      before = closed_all scenario settled is closed final ending pass only account taken goes known asked played;
      reads = fails_out.reads;
    }

    pub has_failed : HasFailed scenario settled is before after
    has_failed = record {
      ended = has_ended scenario settled is closed final ending pass only account taken goes known fails_out.tells.more fails_out.tells.records;
      next = fails_out.next;
      reads = fails_out.reads;
      run = stops_in_end;
      part = fails_out.tells.part;
    }

-- ---- before it

module _ (scenario : Parts) (settled : Settled) (is : IsSettled scenario settled) where
  same_count : (place : ℕ) → (taken_of (view_in settled.service) place).count ≤ (taken_of (view_in settled.service) place).count
  same_count place = omega arith

  pub settled_seats : HasAllSeats settled.table (view_in settled.service) settled.seats.items
  settled_seats = all_seats scenario settled is settled.service is.served.serves same_count is.served.own (λ sequence. refl)

  pub has_let_go : IsAccount (setup_in settled.table) (desk_in settled.service).marks (views_of settled.seats.items) (view_in settled.service) → AllTaken (view_in settled.service) (views_of settled.seats.items)
      → GoesOn (known_by_pass settled.pass) (view_in settled.service) → HasLetGo scenario settled is
  has_let_go account taken goes = record {
    world = record { chunks = []; writers = views_of settled.seats.items; service = view_in settled.service };
    writers = refl;
    service = refl;
    account = account;
    done = done_all scenario settled is settled.service is.served.serves same_count is.served.own (λ sequence. refl) account taken false is.served.opened;
    stood_is = refl;
    settles = is.settles;
    goes = goes_unread (known_by_pass settled.pass) (view_in settled.service) is.known goes;
  }
