-- Words ask for one command at most.
use Rattle.std.proofs.Common.{◌≡◌, ℕ, List, subst}
use Rattle.command_words.specs.declared.command.Command.{Command}
use Rattle.command_words.proofs.OnceLemmas.{words_spell_one_command}
use Rattle.tracesmb_top.specs.Words.{Ask, ReadsInput}

pub same_command : (words : List (List ℕ)) (one other : Command) → Ask words one → Ask words other → one ≡ other
same_command words one other first second = words_spell_one_command words one other first.spell second.spell

-- so either both read the input or none does
pub same_reads : (words : List (List ℕ)) (one other : Command) → Ask words one → Ask words other → ReadsInput other → ReadsInput one
same_reads words one other first second reads = subst (λ (c : Command). ReadsInput c) (same_command words other one second first) reads
