-- What a command did for what it was given: it isn't refused, and what follows for the words that ask for it.
use Rattle.std.proofs.Common.{arith, ◌≡◌, ℕ, ◌<◌, ◌≤◌, List, length, Option, Some, None, IfSome, subst, sym, ◌∙◌, ◌⊎◌, inl, inr}
use Rattle.byte_io.specs.Bytes.{Intake, Faulted, NoFault}
use Rattle.trace_base.specs.declared.limits.TheConstants.{MAX_INPUT}
use Rattle.trace_file.proofs.WholeLemmas.{traces_read_once}
use Rattle.command_words.specs.declared.command.Command.{Command}
use Rattle.command_words.specs.declared.command.Command.TheVariants.{Replay, Run, Read, Check, Gen, Stream, Clone, Tune}
use Rattle.scenario_text.specs.Scenario.{Parts}
use Rattle.tracesmb_top.specs.Words.{Ask, ReadsInput, LeavesReport, PlaysByLine}
use Rattle.tracesmb_top.specs.Commands.{IsGiven, Refuses, Writes, Wrote, WrotePart, HasStalled}
use Rattle.tracesmb_top.specs.Refusals.{refusal_of, IsFor}
use Rattle.tracesmb_top.specs.Answers.{Says, SaysBehind}
use Rattle.tracesmb_top.proofs.CheckLemmas.{checked_unrefused, none_refused}
use Rattle.tracesmb_top.proofs.StreamLemmas.{streamed_unrefused}
use Rattle.tracesmb_top.proofs.WordLemmas.{same_command}

-- ---- what is done isn't refused

-- a text that is a scenario for the command isn't
said_unrefused : (command : Command) (given line : List ℕ) (parts : Parts) → IsFor command given parts → refusal_of command given ≡ Some line → ⊥
said_unrefused command given line parts is refused = let none : None ≡ Some line = sym (none_refused command given parts is) ∙ refused in cc

bytes_unrefused : (command : Command) (given bytes line : List ℕ) → Writes command given bytes → Refuses command given line → ⊥
bytes_unrefused Read given bytes line summary refusal =
    let once = traces_read_once 0 given summary.packets refusal.packets None (Some refusal.fault) summary.reads refusal.reads in
    let none : None ≡ Some refusal.fault = once.1 in cc
bytes_unrefused Check given bytes line writes refused = checked_unrefused given bytes line writes refused
bytes_unrefused (Gen number writers packets) given bytes line writes refused = refused
bytes_unrefused (Tune users turns) given bytes line writes refused = refused
bytes_unrefused Replay given bytes line writes refused = writes
bytes_unrefused Run given bytes line writes refused = writes
bytes_unrefused Clone given bytes line writes refused = writes
bytes_unrefused Stream given bytes line writes refused = writes

-- A command that did something with what it was given: all that it does, a part of it, or all up to a stall.
pub data IsTried (command : Command) (given : List ℕ) (old new : Intake) : Type 0 where
  wrote : (report : List ℕ) → Wrote command given old new report → IsTried command given old new
  wrote_part : WrotePart command given old new → IsTried command given old new
  has_stalled : (writer : ℕ) → HasStalled command given writer old new → IsTried command given old new

tried_unrefused : (command : Command) (given line : List ℕ) (old new : Intake) → IsTried command given old new
    → Refuses command given line → ⊥
tried_unrefused Replay given line old new (wrote report is) refused = said_unrefused Replay given line is.parts is.for_replay refused
tried_unrefused Replay given line old new (wrote_part is) refused = said_unrefused Replay given line is.parts is.for_replay refused
tried_unrefused Replay given line old new (has_stalled writer is) refused = said_unrefused Replay given line is.parts is.for_replay refused
tried_unrefused Run given line old new (wrote report is) refused = said_unrefused Run given line is.parts is.for_threads refused
tried_unrefused Run given line old new (wrote_part is) refused = said_unrefused Run given line is.parts is.for_threads refused
tried_unrefused Run given line old new (has_stalled writer is) refused = is
tried_unrefused Clone given line old new (wrote report is) refused = said_unrefused Clone given line is.parts is.for_clone refused
tried_unrefused Clone given line old new (wrote_part is) refused = said_unrefused Clone given line is.parts is.for_clone refused
tried_unrefused Clone given line old new (has_stalled writer is) refused = said_unrefused Clone given line is.parts is.for_clone refused
tried_unrefused Stream given line old new (wrote report is) refused =
    streamed_unrefused given line is.at is.plays.config is.divides is.plays.is_for refused
tried_unrefused Stream given line old new (wrote_part is) refused =
    streamed_unrefused given line is.at is.plays.config is.divides is.plays.is_for refused
tried_unrefused Stream given line old new (has_stalled writer is) refused = is
tried_unrefused Read given line old new (wrote report is) refused = bytes_unrefused Read given is.0.bytes line is.0.writes refused
tried_unrefused Read given line old new (wrote_part is) refused = bytes_unrefused Read given is.bytes line is.writes refused
tried_unrefused Read given line old new (has_stalled writer is) refused = is
tried_unrefused Check given line old new (wrote report is) refused = bytes_unrefused Check given is.0.bytes line is.0.writes refused
tried_unrefused Check given line old new (wrote_part is) refused = bytes_unrefused Check given is.bytes line is.writes refused
tried_unrefused Check given line old new (has_stalled writer is) refused = is
tried_unrefused (Gen number writers packets) given line old new tried refused = refused
tried_unrefused (Tune users turns) given line old new tried refused = refused

-- ---- a command that refuses or stalls reads the input

pub refused_reads : (command : Command) (given line : List ℕ) → Refuses command given line → ReadsInput command
refused_reads Replay given line refused = tt
refused_reads Run given line refused = tt
refused_reads Clone given line refused = tt
refused_reads Stream given line refused = tt
refused_reads Read given line refused = tt
refused_reads Check given line refused = tt
refused_reads (Gen number writers packets) given line refused = refused
refused_reads (Tune users turns) given line refused = refused

pub report_reads : (command : Command) → LeavesReport command → ReadsInput command
report_reads Replay is = tt
report_reads Run is = tt
report_reads Clone is = tt
report_reads Stream is = tt
report_reads Read is = tt
report_reads Check is = tt
report_reads (Gen number writers packets) is = is
report_reads (Tune users turns) is = is

-- what plays line by line leaves a report
pub played_reports : (command : Command) → PlaysByLine command → LeavesReport command
played_reports Replay is = tt
played_reports Run is = tt
played_reports Clone is = tt
played_reports Stream is = tt
played_reports Read is = is
played_reports Check is = is
played_reports (Gen number writers packets) is = is
played_reports (Tune users turns) is = is

-- where a writer stalled, the command plays line by line
pub stalled_by_line : (command : Command) (given : List ℕ) (writer : ℕ) (old new : Intake) → HasStalled command given writer old new → PlaysByLine command
stalled_by_line Replay given writer old new has = tt
stalled_by_line Clone given writer old new has = tt
stalled_by_line Stream given writer old new has = has
stalled_by_line Run given writer old new has = has
stalled_by_line Read given writer old new has = has
stalled_by_line Check given writer old new has = has
stalled_by_line (Gen number writers packets) given writer old new has = has
stalled_by_line (Tune users turns) given writer old new has = has

-- ---- of words that ask for a command, and an input with so much left

-- what was given was no longer than it may be
pub never_long : (P : Type 0) (words : List (List ℕ)) (command other : Command) (left : Option (List ℕ)) (given : List ℕ)
    → Ask words command → Ask words other → ReadsInput other → IsGiven command left given → length given ≤ MAX_INPUT
    → IfSome left (λ told. MAX_INPUT < length told → P)
never_long P words command other None given first second reads is_given short = tt
never_long P words command other (Some told) given first second reads is_given short = λ long.
    let same : other ≡ command = same_command words other command second first in
    let is : given ≡ told = is_given (subst (λ (c : Command). ReadsInput c) same reads) in
    let within : length told ≤ MAX_INPUT = subst (λ (g : List ℕ). length g ≤ MAX_INPUT) is short in
    absurd (omega (arith, long, within))

pub never_refused : (P : Type 0) (words : List (List ℕ)) (command other : Command) (left : Option (List ℕ)) (given : List ℕ) (old new : Intake)
    → Ask words command → Ask words other → IsGiven command left given → IsTried command given old new
    → IfSome left (λ told. length told ≤ MAX_INPUT → (line : List ℕ) → Refuses other told line → P)
never_refused P words command other None given old new first second is_given tried = tt
never_refused P words command other (Some told) given old new first second is_given tried = λ short line refuses.
    let same : other ≡ command = same_command words other command second first in
    let refused : Refuses command told line = subst (λ (c : Command). Refuses c told line) same refuses in
    let is : given ≡ told = is_given (refused_reads command told line refused) in
    absurd (tried_unrefused command told line old new (subst (λ (g : List ℕ). IsTried command g old new) is tried) refused)

-- ---- a report that was written

-- a count that rose between, or stood at its last value, is no count without a fault
rose_between : (old between new : ℕ) → between ≤ new → Faulted old between → NoFault old new → ⊥
rose_between old between new later (inl rose) none = let still = none.0 in omega (arith, later, rose, still)
rose_between old between new later (inr full) none = let less = none.1 in omega (arith, later, full, less)

says_later : (old new : Intake) (old_faults new_faults : ℕ) (line : List ℕ) → Says old new old_faults new_faults line → old_faults ≤ new_faults
says_later old new old_faults new_faults line (inl whole) = let same = whole.1 in omega (arith, same)
says_later old new old_faults new_faults line (inr part) = part.1

-- where the text's faults didn't rise, the report was written whole
pub whole_reported : (words : List (List ℕ)) (command other : Command) (status : ℕ) (old new : Intake) (old_faults new_faults : ℕ) (report line : List ℕ)
    → Ask words command → Ask words other → LeavesReport command → (status ≡ 0) ⊎ (status ≡ 5)
    → (status ≡ 5 → SaysBehind old new old_faults new_faults report line)
    → (LeavesReport other → NoFault old_faults new_faults) → status ≡ 0
whole_reported words command other status old new old_faults new_faults report line first second leaves (inl whole) behind quiet = whole
whole_reported words command other status old new old_faults new_faults report line first second leaves (inr short) behind quiet =
    let same : other ≡ command = same_command words other command second first in
    let none : NoFault old_faults new_faults = quiet (subst (λ (c : Command). LeavesReport c) (sym same) leaves) in
    let is = behind short in
    absurd (rose_between old_faults is.between_faults new_faults (says_later is.between new is.between_faults new_faults line is.says) is.faulted none)
