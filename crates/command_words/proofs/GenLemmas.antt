-- What `clap` makes of the words of `gen`: a name and three values that don't begin with a hyphen.
use Rattle.std.proofs.Common.{◌≡◌, ℕ, ◌==◌, true, false, List, [], ◌∷◌, Some, None, unwrap_or, slice_get, codes, refl, ◌∙◌, ap}
use Rattle.std.specs.Option.{option_map_or}
use Rattle.std.specs.Str.{bytes_eq}
use Rattle.clap.specs.Lexer.{long_of, short_of}
use Rattle.clap.specs.Walk.{Rule, Row, Text, Held, Walk, idle, finished, settled, walk, walked, walk_from, nothing_held, to_positional, arg_by_index}
use Rattle.clap.specs.Simple.{Shape, built, names_of}
use Rattle.clap.specs.Kinds.{Kinds, or_else}
use Rattle.clap.specs.Faults.{level_fault, walk_fault, turn_fault, positional_fault, stray_fault, settle_fault, defaults_fault, check_fault}
use Rattle.clap.specs.Words.{fault_of, subcommand_of, first_of, is_simple, is_simple_and_free}
use Rattle.clap.proofs.OnLiterals.{clap_on_literals}
use Rattle.command_words.specs.Program.{program_app, gen_app}

-- a word that is no flag
pub record IsValue (word : Text) : Type 0 where
  pub no_dashes : bytes_eq word (45 ∷ 45 ∷ []) ≡ false
  pub no_long : long_of word ≡ None
  pub no_short : short_of word ≡ None

-- a word with another first byte than a hyphen is no flag
pub is_value : (byte : ℕ) (bytes : List ℕ) → (byte == 45) ≡ false → IsValue (byte ∷ bytes)
is_value byte bytes other = record { no_dashes = rw other refl; no_long = rw other refl; no_short = rw other refl }

abbrev pub at : Held → ℕ → Walk
at held position = record { held = held; waiting = idle; position = position; is_trailing = false; stopped = None }

-- such a word goes to the positional whose turn it is
pub value_step : (rules : List Rule) (held : Held) (position : ℕ) (word : Text) → IsValue word
    → walked rules [] (at held position) word ≡ to_positional rules (arg_by_index rules position) word (at held position) held
unfolding walked
value_step rules held position word plain = rw plain.no_dashes (rw plain.no_long (rw plain.no_short refl))

pub value_turn : (shape : Shape) (held : Held) (position : ℕ) (word : Text) → IsValue word
    → turn_fault shape [] (at held position) word
    ≡ option_map_or (λ rule. positional_fault shape.rules shape.args_override_self rule held) (arg_by_index shape.rules position) (stray_fault shape)
value_turn shape held position word plain = rw plain.no_dashes (rw plain.no_long (rw plain.no_short refl))

-- `gen` as it is built in the program
abbrev gen_shape : Shape
gen_shape = unwrap_or (slice_get (built program_app).subs 4) gen_app.top

abbrev rules : List Rule
rules = gen_shape.rules

abbrev after : Walk → Text → Walk
after walk word = to_positional rules (arg_by_index rules walk.position) word walk walk.held

abbrev first_walk : Text → Walk
first_walk number = after (walk_from nothing_held) number

abbrev second_walk : Text → Text → Walk
second_walk number writers = after (first_walk number) writers

abbrev third_walk : Text → Text → Text → Walk
third_walk number writers packets = after (second_walk number writers) packets

first_step : (number : Text) → IsValue number → walked rules [] (walk_from nothing_held) number ≡ first_walk number
first_step number plain = value_step rules nothing_held 1 number plain

second_step : (number writers : Text) → IsValue writers → walked rules [] (first_walk number) writers ≡ second_walk number writers
second_step number writers plain = value_step rules (first_walk number).held 2 writers plain

third_step : (number writers packets : Text) → IsValue packets
    → walked rules [] (second_walk number writers) packets ≡ third_walk number writers packets
third_step number writers packets plain = value_step rules (second_walk number writers).held 3 packets plain

all_steps : (number writers packets : Text) → IsValue number → IsValue writers → IsValue packets
    → walk rules [] nothing_held (number ∷ writers ∷ packets ∷ []) ≡ third_walk number writers packets
all_steps number writers packets one two three =
    ap (λ w. walked rules [] (walked rules [] w writers) packets) (first_step number one)
    ∙ ap (λ w. walked rules [] w packets) (second_step number writers two) ∙ third_step number writers packets three

first_turn : (number : Text) → IsValue number → turn_fault gen_shape [] (walk_from nothing_held) number ≡ []
first_turn number plain = value_turn gen_shape nothing_held 1 number plain

second_turn : (number writers : Text) → IsValue writers → turn_fault gen_shape [] (first_walk number) writers ≡ []
second_turn number writers plain = value_turn gen_shape (first_walk number).held 2 writers plain

third_turn : (number writers packets : Text) → IsValue packets → turn_fault gen_shape [] (second_walk number writers) packets ≡ []
third_turn number writers packets plain = value_turn gen_shape (second_walk number writers).held 3 packets plain

no_fault : (number writers packets : Text) → IsValue number → IsValue writers → IsValue packets
    → walk_fault gen_shape [] (walk_from nothing_held) (number ∷ writers ∷ packets ∷ []) ≡ []
unfolding walk_fault
no_fault number writers packets one two three =
    ap (λ (k : Kinds). or_else k (walk_fault gen_shape [] (walked rules [] (walk_from nothing_held) number) (writers ∷ packets ∷ []))) (first_turn number one)
    ∙ ap (λ w. walk_fault gen_shape [] w (writers ∷ packets ∷ [])) (first_step number one)
    ∙ ap (λ (k : Kinds). or_else k (walk_fault gen_shape [] (walked rules [] (first_walk number) writers) (packets ∷ []))) (second_turn number writers two)
    ∙ ap (λ w. walk_fault gen_shape [] w (packets ∷ [])) (second_step number writers two)
    ∙ ap (λ (k : Kinds). or_else k []) (third_turn number writers packets three)

-- what is left to find at fault behind the walk
abbrev pub end_fault : Shape → Kinds → Held → Kinds
end_fault shape walked_kinds end =
    or_else walked_kinds
    (or_else [] (or_else (settle_fault shape.rules shape.args_override_self end)
    (or_else (defaults_fault (settled shape.rules end).rows shape.rules) (check_fault shape (finished shape.rules end) false))))

level_passes : (number writers packets : Text) → IsValue number → IsValue writers → IsValue packets
    → level_fault gen_shape [] nothing_held (number ∷ writers ∷ packets ∷ []) false [] ≡ []
unfolding defaults_fault
level_passes number writers packets one two three =
    ap (λ w. end_fault gen_shape (walk_fault gen_shape [] (walk_from nothing_held) (number ∷ writers ∷ packets ∷ [])) w.held) (all_steps number writers packets one two three)
    ∙ ap (λ (k : Kinds). end_fault gen_shape k (third_walk number writers packets).held) (no_fault number writers packets one two three)

abbrev pub gen_words : Text → Text → Text → List Text
gen_words number writers packets = codes "gen" ∷ number ∷ writers ∷ packets ∷ []

-- the program takes the words
pub gen_passes : (number writers packets : Text) → IsValue number → IsValue writers → IsValue packets
    → fault_of program_app (gen_words number writers packets) ≡ []
unfolding clap_on_literals
gen_passes number writers packets one two three =
    ap (λ (k : Kinds). level_fault (built program_app).top (names_of (built program_app)) nothing_held (gen_words number writers packets) true k)
    (level_passes number writers packets one two three)

-- and finds the three values in them
pub gen_found : (number writers packets : Text) → IsValue number → IsValue writers → IsValue packets
    → subcommand_of program_app (gen_words number writers packets) ≡ Some (codes "gen", finished rules (third_walk number writers packets).held)
unfolding clap_on_literals
gen_found number writers packets one two three =
    ap (λ w. Some (codes "gen", finished rules w.held)) (all_steps number writers packets one two three)

-- the values are those of the three words
pub gen_values : (number writers packets : Text)
    → (first_of (codes "NUMBER") (finished rules (third_walk number writers packets).held) ≡ Some number)
    × (first_of (codes "WRITERS") (finished rules (third_walk number writers packets).held) ≡ Some writers)
    × (first_of (codes "PACKETS") (finished rules (third_walk number writers packets).held) ≡ Some packets)
gen_values number writers packets = (refl, refl, refl)

-- a command without numbers is taken by its name alone
pub lone_passes : (fault_of program_app (codes "replay" ∷ []) ≡ []) × (fault_of program_app (codes "run" ∷ []) ≡ [])
    × (fault_of program_app (codes "read" ∷ []) ≡ []) × (fault_of program_app (codes "check" ∷ []) ≡ [])
    × (fault_of program_app (codes "stream" ∷ []) ≡ []) × (fault_of program_app (codes "clone" ∷ []) ≡ [])
unfolding clap_on_literals
lone_passes = (refl, refl, refl, refl, refl, refl)

-- the program is simple: `clap` says all that it finds in the words of such a one, and which faults
pub simple_program : is_simple program_app ≡ true
unfolding clap_on_literals
simple_program = refl

pub simple_and_free_program : is_simple_and_free program_app ≡ true
unfolding clap_on_literals
simple_and_free_program = refl

-- and found by it
pub lone_found : (subcommand_of program_app (codes "replay" ∷ []) ≡ Some (codes "replay", []))
    × (subcommand_of program_app (codes "run" ∷ []) ≡ Some (codes "run", []))
    × (subcommand_of program_app (codes "read" ∷ []) ≡ Some (codes "read", []))
    × (subcommand_of program_app (codes "check" ∷ []) ≡ Some (codes "check", []))
    × (subcommand_of program_app (codes "stream" ∷ []) ≡ Some (codes "stream", []))
    × (subcommand_of program_app (codes "clone" ∷ []) ≡ Some (codes "clone", []))
unfolding clap_on_literals
lone_found = (refl, refl, refl, refl, refl, refl)

-- what `clap` finds behind `gen`
abbrev pub gen_rows : Text → Text → Text → List Row
gen_rows number writers packets = finished rules (third_walk number writers packets).held
