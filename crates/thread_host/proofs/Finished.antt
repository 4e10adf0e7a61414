-- Once all is closed, read and taken apart, what the seats knew is a run of the scenario, and what was counted is its report.
use Rattle.std.proofs.Common.{◌≡◌, ◌∙◌, ℕ, ◌<◌, List, [], length, map, sym, ap, subst, append-nil, ◌++◌}
use Rattle.std.specs.Prelude.{slice_index_or}
use Rattle.byte_io.specs.Bytes.{Intake}
use Rattle.trace_buffer.specs.Answers as answers
use Rattle.trace_model.specs.Buffers.{Buffer}
use Rattle.chunk_plain.specs.Histories.{history_of}
use Rattle.chunk_plain.specs.Setup.{Setup}
use Rattle.chunk_plain.specs.Views.{At, Heard, Letter, ServiceView, asked_in}
use Rattle.chunk_words.specs.declared.seats.ReadPass.{ReadPass}
use Rattle.chunk_words.specs.Closed.{HasAllSeats, IsAccount, AllTaken, views_of}
use Rattle.chunk_words.specs.GoesOn.{GoesOn}
use Rattle.chunk_words.specs.Sits.{setup_in, known_by_pass}
use Rattle.loss_report.specs.declared.counts.Done.{Done}
use Rattle.loss_report.specs.Raws.{raw_text}
use Rattle.loss_report.specs.Report.{report_text}
use Rattle.scenario_text.specs.Scenario.{Parts}
use Rattle.service_core.specs.Agreement.{first_of}
use Rattle.service_core.proofs.AgreeLemmas.{first_stays}
use Rattle.replay_model.specs.Played.{buffers_of}
use Rattle.run_model.specs.Answered.{HasAnsweredAll, run_sums}
use Rattle.run_model.specs.Reads.{GoesByReads}
use Rattle.run_model.specs.Settled.{IsRun}
use Rattle.chunk_plain.specs.Plain.{first_world}
use Rattle.run_model.specs.Lines.{PlaysAll}
use Rattle.thread_service.specs.declared.service.Service.{Service}
use Rattle.thread_service.specs.Reading.{IsKnownWhole}
use Rattle.thread_service.specs.Serving.{core_of, view_in, desk_in}
use Rattle.thread_host.specs.Counting as counting
use Rattle.thread_host.specs.Counting.{packets_in}
use Rattle.thread_host.specs.Ending.{no_counts}
use Rattle.thread_host.specs.Finishing.{HasFinished, ReadsOut}
use Rattle.thread_host.specs.Hosts.{IsSettled}
use Rattle.thread_host.specs.declared.settled.Settled.{Settled}
use Rattle.thread_host.proofs.Closing.{closes_letters, reads_letters, reads_noted, reads_own, reads_taken}
use Rattle.thread_host.proofs.Ended.{AddsReads, ClosesAll, began, closed_all, ended_seats, has_ended, of_scenario}
use Rattle.thread_host.proofs.Parts.{reads_to_none}
use Rattle.thread_host.proofs.Tallying.{report_is}

-- what was read of answers stays so
answered_still : (scenario : Parts) (setup : Setup) (old new : ServiceView) → new.letters ≡ old.letters → HasAnsweredAll scenario setup old
    → HasAnsweredAll scenario setup new
answered_still scenario setup old new same answered = record {
  requests = ap asked_in same ∙ answered.requests;
  last = subst (λ (letters : List Letter). 0 < asked_in letters → (place : ℕ) → place < length setup.writers
      → (n : ℕ) × (chunks : ℕ) × At letters n (Heard place (asked_in letters) chunks)) (sym same) answered.last;
}

-- what was read is reads alone
reads_only : (setup : Setup) (first : List Buffer) (number : ℕ) (old new passed pass : ServiceView) (before after : Intake)
    → ReadsOut setup first number old new passed pass before after → AddsReads old new passed pass
reads_only setup first number old new passed pass before after out = record {
  commits = reads_own setup first number out.last old new out.reads;
  taken = reads_taken setup first number out.last old new out.reads;
  parts = reads_to_none setup first number out.last old new out.reads;
  last = out.last;
  are_reads = reads_noted setup first number out.last old new out.reads;
  history = out.history;
  since = out.tells.since;
  goes = out.tells.history;
  noted = out.tells.reads;
}

module _ (scenario : Parts) (settled : Settled) (is : IsSettled scenario settled) (closed final : Service) (ending : ClosesAll settled closed final)
    (pass : ReadPass) (before after : Intake) (count : ℕ) (all_read : count ≡ length scenario.buffers)
    (out : ReadsOut (setup_in settled.table) (first_of (setup_in settled.table) (core_of closed)) count (view_in closed) (view_in final)
    (known_by_pass settled.pass) (known_by_pass pass) before after) where
  abbrev setup : Setup
  setup = setup_in settled.table

  reads_out : ReadsOut (setup_in settled.table) (buffers_of scenario (setup_in settled.table)) (length scenario.buffers) (view_in closed) (view_in final)
      (known_by_pass settled.pass) (known_by_pass pass) before after
  reads_out = of_scenario scenario settled is closed final ending
      (λ (first : List Buffer) (number : ℕ). ReadsOut setup first number (view_in closed) (view_in final) (known_by_pass settled.pass) (known_by_pass pass) before after)
      count all_read out

  only : AddsReads (view_in closed) (view_in final) (known_by_pass settled.pass) (known_by_pass pass)
  only = reads_only setup (first_of setup (core_of closed)) count (view_in closed) (view_in final) (known_by_pass settled.pass) (known_by_pass pass) before after out

  pub has_all_seats : HasAllSeats settled.table (view_in final) settled.seats.items
  has_all_seats = ended_seats scenario settled is closed final ending pass only

  -- ---- once all is taken apart

  module _ (account : IsAccount (setup_in settled.table) (desk_in settled.service).marks (views_of settled.seats.items) (view_in final)) (taken : AllTaken (view_in final) (views_of settled.seats.items))
      (goes : GoesOn (known_by_pass pass) (view_in final)) (known : IsKnownWhole (known_by_pass pass)) where
    -- the scenario was run
    -- no flush request was made since, and no answer read
    letters : (view_in final).letters ≡ (view_in settled.service).letters
    letters =
        reads_letters setup (buffers_of scenario setup) (length scenario.buffers) reads_out.last (view_in closed) (view_in final) reads_out.reads
        ∙ closes_letters setup settled.producers (view_in settled.service) (view_in closed) ending.closes

    run_is : GoesByReads (setup_in settled.table) (buffers_of scenario (setup_in settled.table)) scenario.lines [] (history_of (known_by_pass settled.pass))
        → HasAnsweredAll scenario (setup_in settled.table) (view_in settled.service)
        → PlaysAll (setup_in settled.table) (buffers_of scenario (setup_in settled.table)) scenario.lines (first_world (setup_in settled.table)).service is.stood.service
        → IsRun scenario (setup_in settled.table) (record { chunks = []; writers = views_of settled.seats.items; service = view_in final })
    run_is asked answered played = record {
      before = closed_all scenario settled is closed final ending pass only account taken goes known asked played;
      answered = answered_still scenario setup (view_in settled.service) (view_in final) letters answered;
      last = reads_out.last;
      reads = reads_out.reads;
    }

    pub has_finished : (done : Done) → done.buffers.items ≡ map answers.counts_of (counting.buffers_in (setup_in settled.table) final)
        → length done.sequences.items ≡ length (setup_in settled.table).writers
        → ((place : ℕ) → place < length (setup_in settled.table).writers → slice_index_or done.sequences.items place no_counts
        ≡ packets_in (setup_in settled.table) final place (slice_index_or settled.counts.sequences.items place no_counts))
        → done.flushes.items ≡ settled.counts.flushes.items → done.raws.items ≡ []
        → HasFinished scenario settled is before after done
    has_finished done buffers long each flushes no_raws =
        let told = reads_out.tells.tells in
        let first = first_stays setup (core_of closed) (core_of final) ending.keeps.fields ∙ began scenario settled is closed final ending in
        record {
          ended = has_ended scenario settled is closed final ending pass only account taken goes known told.more told.records;
          last = reads_out.last;
          reads = reads_out.reads;
          run = run_is;
          taken = told.taken;
          report = λ none balanced all_asked.
              ap (λ raws. report_text done.buffers.items done.sequences.items done.flushes.items ++ raw_text raws) no_raws
              ∙ append-nil (report_text done.buffers.items done.sequences.items done.flushes.items)
              ∙ ap (λ all. report_text all done.sequences.items done.flushes.items) buffers
              ∙ ap (λ all. report_text (map answers.counts_of (counting.buffers_in setup final)) done.sequences.items all)
              (flushes ∙ is.flushes all_asked ∙ ap (run_sums (length setup.writers)) (sym letters))
              ∙ report_is scenario setup is.laid settled.seats.items is.many final first none balanced settled.counts.sequences.items done.sequences.items long
              (λ place seat there. (is.done place seat there).counts_are) each (run_sums (length setup.writers) (view_in final).letters);
        }
