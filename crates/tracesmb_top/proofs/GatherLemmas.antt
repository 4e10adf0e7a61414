-- A replay whose trace gathers short writes into long ones: what the trace has taken in the end.
use Rattle.std.proofs.Common.{◌≡◌, ℕ, List, [], ◌∷◌, ◌++◌, length, take, refl, sym, ap, subst, ◌∙◌, append-nil, inl, inr, Result, Ok, Err, IfOk}
use Rattle.std.specs.Prelude.{IfErr, OnOk, OnErr}
use Rattle.byte_io.specs.Bytes.{Intake, Loan, told, untold, after_told, lent_by, told_bytes, TakesPart, TakesUpTo, HandsOn}
use Rattle.byte_io.proofs.Lent.{lent_part, handed_on}
use Rattle.byte_io.proofs.Told.{up_to_end, after_told_nothing}
use Rattle.trace_model.specs.Delivery.{trace_of}
use Rattle.scenario_text.specs.Scenario.{Parts}
use Rattle.replay_model.specs.Played.{Replays, records_in}
use Rattle.replay_host.specs.declared.fault.HostFault.{HostFault}
use Rattle.replay_host.specs.declared.fault.HostFault.TheVariants.{OutOfMemory, WriteFault, Stalled}
use Rattle.loss_report.specs.declared.counts.Done.{Done}
use Rattle.replay_host.specs.Replaying.{HasReplayed, HasStopped, EndsEarly}
use Rattle.replay_host.specs.Stopping.{TakesRecords}
use Rattle.loss_report.specs.Raws.{done_text}
use Rattle.tracesmb_top.specs.Replayed.{TakesSome, Gathers}

-- ---- a stop writes the same records, whatever the trace had taken before

stops_again : (scenario : Parts) (fault : HostFault) (old new start left : Intake) (has : HasStopped scenario fault old new)
    → TakesRecords fault start left has.stops.records → HasStopped scenario fault start left
stops_again scenario fault old new start left has takes =
    let at = has.stops in
    record {
      setup = has.setup;
      setup_is = has.setup_is;
      stops = record {
        done = at.done;
        act = at.act;
        rest = at.rest;
        cut = at.cut;
        notes = at.notes;
        world = at.world;
        plays = at.plays;
        records = at.records;
        halts = at.halts;
        takes = takes;
      };
      faithful = has.faithful;
    }

-- ---- what the trace behind an adapter took

-- an adapter over a sink begins with what the sink has taken, where nothing waits
pub lent_first : (loan : Loan) (first old : Intake) (waits : List ℕ) → first ≡ old → waits ≡ [] → lent_by loan (after_told first waits) ≡ lent_by loan (after_told old [])
lent_first loan first old waits same none = ap (λ (bytes : List ℕ). lent_by loan (after_told first bytes)) none ∙ ap (λ (start : Intake). lent_by loan (after_told start [])) same

-- where an adapter took all of some bytes, the sink that it was lent took them but for those that wait
pub lent_all : (loan loan' : Loan) (old new : Intake) (waits bytes : List ℕ)
    → take (length loan'.start) (told_bytes new) ≡ loan'.start → loan.start ≡ told_bytes old
    → lent_by loan' (after_told new waits) ≡ after_told (lent_by loan (after_told old [])) bytes → HandsOn old new bytes waits
lent_all loan loan' (told first loans) (told second loans') waits bytes grown started same =
    let same_told : told (second ++ waits) (loan' ∷ loans') ≡ told ((first ++ []) ++ bytes) (loan ∷ loans) = same in
    let same_loan : loan' ≡ loan = cc in
    let same_loans : loans' ≡ loans = cc in
    let all : second ++ waits ≡ (first ++ []) ++ bytes = ap told_bytes same_told in
    let whole : second ++ waits ≡ first ++ bytes = all ∙ ap (λ front. front ++ bytes) (append-nil first) in
    let start_is : loan'.start ≡ first = ap (λ l. l.start) same_loan ∙ started in
    let P : List ℕ → Type 0 = λ start. take (length start) second ≡ start in
    record { all = cc; grown = subst P start_is grown }
lent_all loan loan' (untold loans) (untold loans') waits bytes grown started same =
    let same_told : untold (loan' ∷ loans') ≡ untold (loan ∷ loans) = same in
    record { all = cc; grown = refl }
lent_all loan loan' (told first loans) (untold loans') waits bytes grown started same =
    let same_told : untold (loan' ∷ loans') ≡ told ((first ++ []) ++ bytes) (loan ∷ loans) = same in absurd cc
lent_all loan loan' (untold loans) (told second loans') waits bytes grown started same =
    let same_told : told (second ++ waits) (loan' ∷ loans') ≡ untold (loan ∷ loans) = same in absurd cc

-- the same of a writing that may fail
pub lent_whole : {A E : Type 0} (result : Result A E) (loan loan' : Loan) (lent old new : Intake) (waits bytes : List ℕ)
    → lent ≡ lent_by loan (after_told old []) → take (length loan'.start) (told_bytes new) ≡ loan'.start → loan.start ≡ told_bytes old
    → OnOk result (lent_by loan' (after_told new waits) ≡ after_told lent bytes) → OnOk result (HandsOn old new bytes waits)
lent_whole (Ok done) loan loan' lent old new waits bytes is grown started all =
    let after = lent_by loan' (after_told new waits) in
    lent_all loan loan' old new waits bytes grown started (subst (λ (from : Intake). after ≡ after_told from bytes) is all)
lent_whole (Err fault) loan loan' lent old new waits bytes is grown started all = tt

pub lent_front : {A E : Type 0} (result : Result A E) (loan loan' : Loan) (lent old new : Intake) (waits bytes : List ℕ)
    → lent ≡ lent_by loan (after_told old []) → take (length loan'.start) (told_bytes new) ≡ loan'.start → loan.start ≡ told_bytes old
    → OnErr result (TakesPart lent (lent_by loan' (after_told new waits)) bytes) → OnErr result (TakesPart old new bytes)
lent_front (Ok done) loan loan' lent old new waits bytes is grown started part = tt
lent_front (Err fault) loan loan' lent old new waits bytes is grown started part =
    let after = lent_by loan' (after_told new waits) in
    lent_part loan loan' old new waits bytes started grown (subst (λ (from : Intake). TakesPart from after bytes) is part)

-- all of some bytes is a part of them
all_part : (old : Intake) (bytes : List ℕ) → TakesPart old (after_told old bytes) bytes
all_part old bytes = record { part = bytes; rest = []; cut = sym (append-nil bytes); taken = refl }

-- nothing is a part of nothing
front_none : (part rest : List ℕ) → part ++ rest ≡ [] → part ≡ []
front_none [] rest is = refl
front_none (byte ∷ part) rest is = absurd cc

-- a sink that took a part of nothing is as it was
pub none_part : (old new : Intake) → TakesPart old new [] → new ≡ old
none_part old new took =
    let none : took.part ≡ [] = front_none took.part took.rest (sym took.cut) in
    took.taken ∙ ap (λ bytes. after_told old bytes) none ∙ after_told_nothing old

-- a replay is one whatever the trace had taken before
replays_again : (scenario : Parts) (old new start left : Intake) (report : List ℕ) (replays : Replays scenario old new report)
    → left ≡ after_told start (trace_of (records_in scenario replays.setup replays.world)) → Replays scenario start left report
replays_again scenario old new start left report replays taken = record {
  setup = replays.setup;
  world = replays.world;
  notes = replays.notes;
  played = replays.played;
  trace = taken;
  report = replays.report;
  faithful = replays.faithful;
  balanced = replays.balanced;
  counted = replays.counted;
  complete = replays.complete;
}

gathered_of : (scenario : Parts) (result : Result Done HostFault) (loan loan' : Loan) (old new : Intake) (waits : List ℕ)
    → take (length loan'.start) (told_bytes new) ≡ loan'.start → loan.start ≡ told_bytes old
    → IfOk result (λ done. HasReplayed scenario (lent_by loan (after_told old [])) (lent_by loan' (after_told new waits)) done)
    → IfErr result (λ fault. EndsEarly scenario fault (lent_by loan (after_told old [])) (lent_by loan' (after_told new waits)))
    → Gathers scenario result old new waits
gathered_of scenario (Ok done) loan loan' old new waits grown started replays early =
    let handed = lent_all loan loan' old new waits _ grown started replays.trace in
    (replays_again scenario _ _ old (after_told new waits) (done_text done) replays handed.all, handed.grown)
gathered_of scenario (Err OutOfMemory) loan loan' old new waits grown started replays early =
    let lent = lent_by loan (after_told old []) in
    none_part old new (lent_part loan loan' old new waits [] started grown
    (record { part = []; rest = []; cut = refl; taken = early ∙ sym (after_told_nothing lent) }))
gathered_of scenario (Err WriteFault) loan loan' old new waits grown started replays early =
    let bytes = trace_of early.stops.records in
    record {
      bytes = bytes;
      would = inr (WriteFault, stops_again scenario WriteFault _ _ old (after_told old bytes) early (all_part old bytes));
      part = lent_part loan loan' old new waits bytes started grown early.stops.takes;
    }
gathered_of scenario (Err (Stalled writer)) loan loan' old new waits grown started replays early =
    let handed = lent_all loan loan' old new waits (trace_of early.stops.records) grown started early.stops.takes in
    (stops_again scenario (Stalled writer) _ _ old (after_told new waits) early handed.all, handed.grown)

pub gathered : (scenario : Parts) (result : Result Done HostFault) (loan loan' : Loan) (lent old new : Intake) (waits : List ℕ)
    → lent ≡ lent_by loan (after_told old []) → take (length loan'.start) (told_bytes new) ≡ loan'.start → loan.start ≡ told_bytes old
    → IfOk result (λ done. HasReplayed scenario lent (lent_by loan' (after_told new waits)) done)
    → IfErr result (λ fault. EndsEarly scenario fault lent (lent_by loan' (after_told new waits)))
    → Gathers scenario result old new waits
gathered scenario result loan loan' lent old new waits is grown started replays early =
    let after = lent_by loan' (after_told new waits) in
    gathered_of scenario result loan loan' old new waits grown started
    (subst (λ (from : Intake). IfOk result (λ done. HasReplayed scenario from after done)) is replays)
    (subst (λ (from : Intake). IfErr result (λ fault. EndsEarly scenario fault from after)) is early)

-- ---- what waited is passed on

-- all that waited was passed on
pub up_to_all : (new left : Intake) (waits rest : List ℕ) → TakesUpTo new left waits rest → rest ≡ [] → left ≡ after_told new waits
up_to_all new left waits rest passed none = up_to_end new left waits (subst (λ (bytes : List ℕ). TakesUpTo new left waits bytes) none passed)

pub passed_all : (scenario : Parts) (done : Done) (old new left : Intake) (waits rest : List ℕ)
    → Gathers scenario (Ok done) old new waits → TakesUpTo new left waits rest → rest ≡ [] → HasReplayed scenario old left done
passed_all scenario done old new left waits rest gathers passed none =
    subst (λ (intake : Intake). HasReplayed scenario old intake done) (sym (up_to_all new left waits rest passed none)) gathers.0

pub passed_stall : (scenario : Parts) (writer : ℕ) (old new left : Intake) (waits rest : List ℕ)
    → Gathers scenario (Err (Stalled writer)) old new waits → TakesUpTo new left waits rest → rest ≡ []
    → HasStopped scenario (Stalled writer) old left
passed_stall scenario writer old new left waits rest gathers passed none =
    subst (λ (intake : Intake). HasStopped scenario (Stalled writer) old intake) (sym (up_to_all new left waits rest passed none)) gathers.0

-- only a part of it
pub passed_part : (scenario : Parts) (done : Done) (old new left : Intake) (waits rest : List ℕ)
    → Gathers scenario (Ok done) old new waits → TakesUpTo new left waits rest → TakesSome scenario old left
passed_part scenario done old new left waits rest gathers passed =
    let replays = gathers.0 in
    let bytes = trace_of (records_in scenario replays.setup replays.world) in
    record {
      bytes = bytes;
      would = inl (done_text done, replays_again scenario _ _ old (after_told old bytes) (done_text done) replays refl);
      part = handed_on old new left bytes waits rest (record { all = replays.trace; grown = gathers.1 }) passed;
    }

pub passed_stall_part : (scenario : Parts) (writer : ℕ) (old new left : Intake) (waits rest : List ℕ)
    → Gathers scenario (Err (Stalled writer)) old new waits → TakesUpTo new left waits rest → TakesSome scenario old left
passed_stall_part scenario writer old new left waits rest gathers passed =
    let bytes = trace_of gathers.0.stops.records in
    record {
      bytes = bytes;
      would = inr (Stalled writer, stops_again scenario (Stalled writer) _ _ old (after_told old bytes) gathers.0 refl);
      part = handed_on old new left bytes waits rest (record { all = gathers.0.stops.takes; grown = gathers.1 }) passed;
    }
