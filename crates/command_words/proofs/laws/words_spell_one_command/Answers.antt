use Rattle.command_words.proofs.OnceLemmas.{words_spell_one_command}
use Rattle.command_words.proofs.laws.words_spell_one_command.Goals as goal

pub returns : goal.returns
returns c = words_spell_one_command
