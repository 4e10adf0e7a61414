-- What `clap` makes of the words of `tune`: a name and two values that don't begin with a hyphen.
use Rattle.std.proofs.Common.{◌≡◌, true, false, List, [], ◌∷◌, Some, unwrap_or, slice_get, codes, refl, ◌∙◌, ap}
use Rattle.clap.specs.Walk.{Rule, Row, Text, Walk, finished, walk, walked, walk_from, nothing_held, to_positional, arg_by_index}
use Rattle.clap.specs.Simple.{Shape, built, names_of}
use Rattle.clap.specs.Kinds.{Kinds, or_else}
use Rattle.clap.specs.Faults.{level_fault, walk_fault, turn_fault, defaults_fault}
use Rattle.clap.specs.Words.{fault_of, subcommand_of, first_of}
use Rattle.clap.proofs.OnLiterals.{clap_on_literals}
use Rattle.command_words.specs.Program.{program_app, tune_app}
use Rattle.command_words.proofs.GenLemmas.{IsValue, value_step, value_turn, end_fault}

-- `tune` as it is built in the program
abbrev tune_shape : Shape
tune_shape = unwrap_or (slice_get (built program_app).subs 7) tune_app.top

abbrev rules : List Rule
rules = tune_shape.rules

abbrev after : Walk → Text → Walk
after walk word = to_positional rules (arg_by_index rules walk.position) word walk walk.held

abbrev first_walk : Text → Walk
first_walk users = after (walk_from nothing_held) users

abbrev second_walk : Text → Text → Walk
second_walk users turns = after (first_walk users) turns

first_step : (users : Text) → IsValue users → walked rules [] (walk_from nothing_held) users ≡ first_walk users
first_step users plain = value_step rules nothing_held 1 users plain

second_step : (users turns : Text) → IsValue turns → walked rules [] (first_walk users) turns ≡ second_walk users turns
second_step users turns plain = value_step rules (first_walk users).held 2 turns plain

both_steps : (users turns : Text) → IsValue users → IsValue turns → walk rules [] nothing_held (users ∷ turns ∷ []) ≡ second_walk users turns
both_steps users turns one two = ap (λ w. walked rules [] w turns) (first_step users one) ∙ second_step users turns two

first_turn : (users : Text) → IsValue users → turn_fault tune_shape [] (walk_from nothing_held) users ≡ []
first_turn users plain = value_turn tune_shape nothing_held 1 users plain

second_turn : (users turns : Text) → IsValue turns → turn_fault tune_shape [] (first_walk users) turns ≡ []
second_turn users turns plain = value_turn tune_shape (first_walk users).held 2 turns plain

no_fault : (users turns : Text) → IsValue users → IsValue turns → walk_fault tune_shape [] (walk_from nothing_held) (users ∷ turns ∷ []) ≡ []
unfolding walk_fault
no_fault users turns one two =
    ap (λ (k : Kinds). or_else k (walk_fault tune_shape [] (walked rules [] (walk_from nothing_held) users) (turns ∷ []))) (first_turn users one)
    ∙ ap (λ w. walk_fault tune_shape [] w (turns ∷ [])) (first_step users one)
    ∙ ap (λ (k : Kinds). or_else k []) (second_turn users turns two)

level_passes : (users turns : Text) → IsValue users → IsValue turns → level_fault tune_shape [] nothing_held (users ∷ turns ∷ []) false [] ≡ []
unfolding defaults_fault
level_passes users turns one two =
    ap (λ w. end_fault tune_shape (walk_fault tune_shape [] (walk_from nothing_held) (users ∷ turns ∷ [])) w.held) (both_steps users turns one two)
    ∙ ap (λ (k : Kinds). end_fault tune_shape k (second_walk users turns).held) (no_fault users turns one two)

abbrev pub tune_words : Text → Text → List Text
tune_words users turns = codes "tune" ∷ users ∷ turns ∷ []

-- the program takes the words
pub tune_passes : (users turns : Text) → IsValue users → IsValue turns → fault_of program_app (tune_words users turns) ≡ []
unfolding clap_on_literals
tune_passes users turns one two =
    ap (λ (k : Kinds). level_fault (built program_app).top (names_of (built program_app)) nothing_held (tune_words users turns) true k) (level_passes users turns one two)

-- what `clap` finds behind `tune`
abbrev pub tune_rows : Text → Text → List Row
tune_rows users turns = finished rules (second_walk users turns).held

-- and finds the two values in them
pub tune_found : (users turns : Text) → IsValue users → IsValue turns → subcommand_of program_app (tune_words users turns) ≡ Some (codes "tune", tune_rows users turns)
unfolding clap_on_literals
tune_found users turns one two = ap (λ w. Some (codes "tune", finished rules w.held)) (both_steps users turns one two)

-- the values are those of the two words
pub tune_values : (users turns : Text) → (first_of (codes "USERS") (tune_rows users turns) ≡ Some users) × (first_of (codes "TURNS") (tune_rows users turns) ≡ Some turns)
tune_values users turns = (refl, refl)
