-- A run on threads whose trace gathers short writes into long ones: what the trace has taken in the end.
use Rattle.std.proofs.Common.{◌≡◌, ◌∙◌, inl, inr, ℕ, List, [], ◌∷◌, ◌++◌, length, take, refl, sym, subst, append-nil, Result, Ok, Err}
use Rattle.byte_io.specs.Bytes.{Intake, Loan, told, untold, after_told, lent_by, told_bytes, TakesUpTo}
use Rattle.byte_io.proofs.Lent.{handed_on, lent_part}
use Rattle.byte_io.proofs.Told.{after_told_again, after_told_nothing}
use Rattle.trace_model.specs.Delivery.{trace_of}
use Rattle.scenario_text.specs.Scenario.{Parts}
use Rattle.loss_report.specs.declared.counts.Done.{Done}
use Rattle.replay_model.specs.Played.{records_in}
use Rattle.replay_host.specs.declared.fault.HostFault.{HostFault}
use Rattle.replay_host.specs.declared.fault.HostFault.TheVariants.{OutOfMemory, WriteFault, Stalled}
use Rattle.run_model.specs.Runs.{FailsRun, Runs}
use Rattle.thread_host.specs.Finishing.{EndsRun, HasRun}
use Rattle.thread_host.specs.Jobs.{KeepsLoans}
use Rattle.tracesmb_top.specs.Ran.{GathersRun, TakesSomeRun}
use Rattle.loss_report.specs.Raws.{done_text}
use Rattle.tracesmb_top.proofs.GatherLemmas.{lent_all, none_part, up_to_all}

-- where an adapter hands its bytes on as before, it stands on the same loan
pub same_loan : (loan loan' : Loan) (old new : Intake) → KeepsLoans (lent_by loan old) (lent_by loan' new) → loan' ≡ loan
same_loan loan loan' (told first loans) (told second loans') keeps = let same : loan' ∷ loans' ≡ loan ∷ loans = keeps in cc
same_loan loan loan' (told first loans) (untold loans') keeps = let same : loan' ∷ loans' ≡ loan ∷ loans = keeps in cc
same_loan loan loan' (untold loans) (told second loans') keeps = let same : loan' ∷ loans' ≡ loan ∷ loans = keeps in cc
same_loan loan loan' (untold loans) (untold loans') keeps = let same : loan' ∷ loans' ≡ loan ∷ loans = keeps in cc

-- a run is one whatever the trace had taken before
runs_again : (scenario : Parts) (old new start left : Intake) (report : List ℕ) (runs : Runs scenario old new report)
    → left ≡ after_told start (trace_of (records_in scenario runs.setup runs.world)) → Runs scenario start left report
runs_again scenario old new start left report runs taken = record {
  setup = runs.setup;
  world = runs.world;
  run = runs.run;
  trace = taken;
  report = runs.report;
  faithful = runs.faithful;
  balanced = runs.balanced;
  counted = runs.counted;
  complete = runs.complete;
}

-- what a run wrote that a write cut off, whatever the trace had taken before
record FailsBy (scenario : Parts) (old new : Intake) : Type 0 where
  bytes : List ℕ
  took : new ≡ after_told old bytes
  again : (start : Intake) → FailsRun scenario start (after_told start bytes)

fails_by : (scenario : Parts) (old new : Intake) → FailsRun scenario old new → FailsBy scenario old new
fails_by scenario old new run =
    let wrote = trace_of (records_in scenario run.setup run.world) in
    let front = run.trace.part in
    record {
      bytes = wrote ++ front;
      took = run.trace.taken ∙ after_told_again old wrote front;
      again = λ start. record {
        setup = run.setup;
        world = run.world;
        next = run.next;
        run = run.run;
        trace = record { part = front; rest = run.trace.rest; cut = run.trace.cut; taken = sym (after_told_again start wrote front) };
        faithful = run.faithful;
      };
    }

run_gathered_of : (scenario : Parts) (result : Result Done HostFault) (loan loan' : Loan) (old new : Intake) (waits : List ℕ)
    → take (length loan'.start) (told_bytes new) ≡ loan'.start → loan.start ≡ told_bytes old
    → EndsRun scenario result (lent_by loan (after_told old [])) (lent_by loan' (after_told new waits)) → GathersRun scenario result old new waits
run_gathered_of scenario (Ok done) loan loan' old new waits grown started runs =
    let handed = lent_all loan loan' old new waits _ grown started runs.trace in
    (runs_again scenario _ _ old (after_told new waits) (done_text done) runs handed.all, handed.grown)
run_gathered_of scenario (Err OutOfMemory) loan loan' old new waits grown started ends =
    let lent = lent_by loan (after_told old []) in
    none_part old new (lent_part loan loan' old new waits [] started grown
    (record { part = []; rest = []; cut = refl; taken = ends ∙ sym (after_told_nothing lent) }))
run_gathered_of scenario (Err WriteFault) loan loan' old new waits grown started ends =
    let by = fails_by scenario (lent_by loan (after_told old [])) (lent_by loan' (after_told new waits)) ends in
    record {
      bytes = by.bytes;
      would = inr (by.again old);
      part = lent_part loan loan' old new waits by.bytes started grown
          (record { part = by.bytes; rest = []; cut = sym (append-nil by.bytes); taken = by.took });
    }
run_gathered_of scenario (Err (Stalled writer)) loan loan' old new waits grown started ends = ends

-- what was run into a sink that gathers was run into the sink that it was lent
pub run_gathered : (scenario : Parts) (result : Result Done HostFault) (loan loan' : Loan) (lent old new : Intake) (waits : List ℕ)
    → lent ≡ lent_by loan (after_told old []) → take (length loan'.start) (told_bytes new) ≡ loan'.start → loan.start ≡ told_bytes old
    → EndsRun scenario result lent (lent_by loan' (after_told new waits)) → GathersRun scenario result old new waits
run_gathered scenario result loan loan' lent old new waits is grown started ends =
    let after = lent_by loan' (after_told new waits) in
    run_gathered_of scenario result loan loan' old new waits grown started
    (subst (λ (from : Intake). EndsRun scenario result from after) is ends)

-- all that waited was passed on
pub passed_run : (scenario : Parts) (done : Done) (old new left : Intake) (waits rest : List ℕ)
    → GathersRun scenario (Ok done) old new waits → TakesUpTo new left waits rest → rest ≡ [] → HasRun scenario old left done
passed_run scenario done old new left waits rest gathers passed none =
    subst (λ (intake : Intake). HasRun scenario old intake done) (sym (up_to_all new left waits rest passed none)) gathers.0

-- only a part of it
pub passed_run_part : (scenario : Parts) (done : Done) (old new left : Intake) (waits rest : List ℕ)
    → GathersRun scenario (Ok done) old new waits → TakesUpTo new left waits rest → TakesSomeRun scenario old left
passed_run_part scenario done old new left waits rest gathers passed =
    let runs = gathers.0 in
    let bytes = trace_of (records_in scenario runs.setup runs.world) in
    record {
      bytes = bytes;
      would = inl (done_text done, runs_again scenario _ _ old (after_told old bytes) (done_text done) runs refl);
      part = handed_on old new left bytes waits rest (record { all = runs.trace; grown = gathers.1 }) passed;
    }
