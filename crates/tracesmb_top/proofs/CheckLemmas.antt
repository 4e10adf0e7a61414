-- That what is checked isn't refused.
use Rattle.std.proofs.Common.{◌≡◌, ◌∙◌, ℕ, List, Option, Some, None, ap, subst}
use Rattle.command_words.specs.declared.command.Command.{Command}
use Rattle.command_words.specs.declared.command.Command.TheVariants.{Check}
use Rattle.trace_file.proofs.WholeLemmas.{traces_read_once}
use Rattle.tracesmb_top.specs.Checked.{IsChecked, IsCheckRefusal, RefusesAt, RefusesLines, text_before, trace_behind}
use Rattle.scenario_text.specs.Scenario.{Parts}
use Rattle.tracesmb_top.specs.Refusals.{refusal_by, refusal_of, IsFor, IsTraceRefusal}

-- nothing is said of a scenario for the command
pub none_refused : (command : Command) (text : List ℕ) (parts : Parts) → IsFor command text parts → refusal_of command text ≡ None
unfolding refusal_of refusal_by
none_refused command text parts is = ap (refusal_by command) is.scenario_is ∙ is.fits

refused_both : (said : Option (List ℕ)) (Otherwise : List ℕ → Type 0) (line : List ℕ) → said ≡ None → RefusesLines said Otherwise line → Otherwise line
refused_both None Otherwise line is refused = refused
refused_both (Some words) Otherwise line is refused = absurd cc

pub checked_unrefused : (input bytes line : List ℕ) → IsChecked input bytes → IsCheckRefusal input line → ⊥
checked_unrefused input bytes line checked refused =
    let v = checked.is in
    let here : RefusesAt input (Some v.at) line = subst (λ (o : Option ℕ). RefusesAt input o line) v.divides refused in
    let fault : IsTraceRefusal (trace_behind v.at input) line =
    refused_both (refusal_of Check (text_before v.at input)) (IsTraceRefusal (trace_behind v.at input)) line
    (none_refused Check (text_before v.at input) v.from.parts v.from.says) here in
    let once = traces_read_once 0 (trace_behind v.at input) v.from.on.packets fault.packets None (Some fault.fault) v.from.on.reads fault.reads in
    let none : None ≡ Some fault.fault = once.1 in cc
