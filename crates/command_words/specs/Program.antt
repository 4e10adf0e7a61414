-- The program's commands as `clap` is told of them: one command with a subcommand each.
use Rattle.std.specs.Prelude.{◌==◌, ◌&&◌, Bool, true, false, not, [], ◌∷◌, codes}
use Rattle.std.specs.Str.{bytes_eq}
use Rattle.clap.specs.Words.{App, Rule, Text, new_app, new_rule, with_rule, with_subcommand}

-- a number that has to be there
abbrev pub number_rule : Text → Rule
number_rule name = record (new_rule name) { required = true }

-- a command that has no words of its own, and no help
abbrev pub plain_app : Text → App
plain_app name = record (new_app name) { top = record (new_app name).top { disable_help_flag = true } }

-- `gen` and its three numbers
abbrev pub gen_app : App
gen_app =
    with_rule (with_rule (with_rule (plain_app (codes "gen")) (number_rule (codes "NUMBER"))) (number_rule (codes "WRITERS")))
    (number_rule (codes "PACKETS"))

-- `tune` and its two numbers
abbrev pub tune_app : App
tune_app = with_rule (with_rule (plain_app (codes "tune")) (number_rule (codes "USERS"))) (number_rule (codes "TURNS"))

-- the program without its commands: all words are its own, and there is no help
abbrev pub bare_program : App
bare_program = record (new_app (codes "tracesmb")) {
  top = record (new_app (codes "tracesmb")).top {
    no_binary_name = true;
    disable_help_flag = true;
    disable_help_subcommand = true;
    subcommand_required = true;
  };
}

-- the whole program
abbrev pub program_app : App
program_app =
    with_subcommand (with_subcommand (with_subcommand (with_subcommand (with_subcommand (with_subcommand (with_subcommand (with_subcommand
    bare_program (plain_app (codes "replay")).top) (plain_app (codes "run")).top) (plain_app (codes "read")).top)
    (plain_app (codes "check")).top) gen_app.top) (plain_app (codes "stream")).top) (plain_app (codes "clone")).top) tune_app.top

-- the word isn't empty, doesn't begin with a hyphen, and isn't `help`: `clap` gives such words meanings of its own
abbrev pub is_plain : Text → Bool
is_plain [] = false
is_plain (byte ∷ bytes) = not (byte == 45) && not (bytes_eq (byte ∷ bytes) (codes "help"))
