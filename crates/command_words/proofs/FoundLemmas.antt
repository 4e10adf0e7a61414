-- What `clap` finds in words that spell a command.
use Rattle.std.proofs.Common.{◌≡◌, ℕ, Bool, ◌<◌, ◌^◌, ◌==◌, ◌&&◌, true, false, List, [], ◌∷◌, length, Option, Some, None, option_map, unwrap_or, map, slice_index_or, codes, decimal, refl, sym, ◌∙◌, ap, subst, arith}
use Rattle.std.specs.List.{list_all}
use Rattle.std.specs.Str.Parse.{AllDigits}
use Rattle.std.proofs.lemmas.Bool.{true≢false, and_parts, ne_eqb, not-true}
use Rattle.std.proofs.lemmas.Fmt.{digits_decimal, decimal_nonempty}
use Rattle.std.proofs.lemmas.Str.Parse.{digit_at, numerals_by_value, tells_digits}
use Rattle.clap.specs.Walk.{Row, Text}
use Rattle.clap.specs.Words.{fault_of, subcommand_of, subcommand_name_of, subcommand_rows_of, first_of, found_of, rows_of}
use Rattle.clap.specs.declared.ArgMatches.{ArgMatches}
use Rattle.clap.proofs.WalkLemmas.{first_value-rows}
use Rattle.command_words.specs.declared.command.Command.{Command}
use Rattle.command_words.specs.declared.command.Command.TheVariants.{Replay, Run, Read, Check, Gen, Stream, Clone, Tune}
use Rattle.command_words.specs.Commands.{Spells, IsWithinLimits, words_of}
use Rattle.command_words.specs.Found.{HasNumbers, HasTurns}
use Rattle.command_words.specs.Program.{program_app, is_plain}
use Rattle.command_words.proofs.GenLemmas.{IsValue, is_value, gen_passes, gen_found, gen_values, gen_rows, lone_passes, lone_found}
use Rattle.command_words.proofs.TuneLemmas.{tune_passes, tune_found, tune_values, tune_rows}

-- a word that was let through is no flag
pub plain_value : (word : Text) → is_plain word ≡ true → IsValue word
plain_value [] plain = absurd (true≢false (sym plain))
plain_value (byte ∷ bytes) plain = is_value byte bytes (not-true _ (and_parts _ _ plain).0)

-- digits are let through
digits_plain : (text : Text) → AllDigits 10 text → 0 < length text → is_plain text ≡ true
digits_plain [] digits some = absurd (omega arith)
digits_plain (byte ∷ bytes) digits some =
    let range = digit_at (byte ∷ bytes) 0 digits some in
    let no_hyphen : (byte == 45) ≡ false = ne_eqb byte 45 (λ same. absurd (omega (arith, range, same))) in
    let no_help : (byte == 104) ≡ false = ne_eqb byte 104 (λ same. absurd (omega (arith, range, same))) in
    rw no_hyphen (rw no_help refl)

pub decimal_plain : (number : ℕ) → number < 2 ^ 64 → is_plain (decimal number) ≡ true
decimal_plain number small =
    digits_plain (decimal number) (digits_decimal (numerals_by_value (AllDigits 10) tells_digits) number small) (decimal_nonempty number small)

-- a number in decimal is no flag
pub decimal_value : (number : ℕ) → number < 2 ^ 64 → IsValue (decimal number)
decimal_value number small = plain_value (decimal number) (decimal_plain number small)

-- what a command's words are found as
pub record IsFound (words : List Text) : Type 0 where
  pub rows : List Row
  pub found : subcommand_of program_app words ≡ Some (slice_index_or words 0 [], rows)
  pub passes : fault_of program_app words ≡ []
  pub plain : list_all is_plain words ≡ true

spelled_by : (command : Command) → IsWithinLimits command → IsFound (words_of command)
spelled_by Replay within = record { rows = []; found = lone_found.0; passes = lone_passes.0; plain = refl }
spelled_by Run within = record { rows = []; found = lone_found.1; passes = lone_passes.1; plain = refl }
spelled_by Read within = record { rows = []; found = lone_found.2; passes = lone_passes.2; plain = refl }
spelled_by Check within = record { rows = []; found = lone_found.3; passes = lone_passes.3; plain = refl }
spelled_by Stream within = record { rows = []; found = lone_found.4; passes = lone_passes.4; plain = refl }
spelled_by Clone within = record { rows = []; found = lone_found.5; passes = lone_passes.5; plain = refl }
spelled_by (Gen number writers packets) (small, some_writer, few_writers, some_packet, few_packets) =
    let few : writers < 2 ^ 64 = omega arith in
    let many : packets < 2 ^ 64 = omega arith in
    record {
      rows = gen_rows (decimal number) (decimal writers) (decimal packets);
      found = gen_found (decimal number) (decimal writers) (decimal packets) (decimal_value number small) (decimal_value writers few) (decimal_value packets many);
      passes = gen_passes (decimal number) (decimal writers) (decimal packets) (decimal_value number small) (decimal_value writers few) (decimal_value packets many);
      plain = rw (decimal_plain number small) (rw (decimal_plain writers few) (rw (decimal_plain packets many) refl));
    }
spelled_by (Tune users turns) (some_user, few_users, some_turn, few_turns) =
    let few : users < 2 ^ 64 = omega arith in
    let many : turns < 2 ^ 64 = omega arith in
    record {
      rows = tune_rows (decimal users) (decimal turns);
      found = tune_found (decimal users) (decimal turns) (decimal_value users few) (decimal_value turns many);
      passes = tune_passes (decimal users) (decimal turns) (decimal_value users few) (decimal_value turns many);
      plain = rw (decimal_plain users few) (rw (decimal_plain turns many) refl);
    }

pub spelled : (words : List Text) (command : Command) → Spells words command → IsFound words
spelled words command (same, within) = subst IsFound (sym same) (spelled_by command within)

-- one of two parts
both_mapped : {X A B : Type 0} (f : X → A) (g : X → B) (o : Option X)
    → option_map f o ≡ option_map (λ (p : A × B). p.0) (option_map (λ x. (f x, g x)) o)
both_mapped f g None = refl
both_mapped f g (Some x) = refl

-- the name and the rows of the subcommand that was found
pub found_name : (m : ArgMatches) (name : Text) (rows : List Row) → subcommand_rows_of m ≡ Some (name, rows) → subcommand_name_of m ≡ Some name
found_name m name rows found =
    both_mapped _ _ _ ∙ ap (λ o. option_map (λ (p : Text × List Row). p.0) o) found

pub found_rows : (m : ArgMatches) (name : Text) (rows : List Row) → subcommand_rows_of m ≡ Some (name, rows)
    → option_map (λ (p : Text × List Row). p.1) (subcommand_rows_of m) ≡ Some rows
found_rows m name rows found = ap (λ o. option_map (λ (p : Text × List Row). p.1) o) found

-- behind `gen`, with three words that were let through, their values are found
pub numbers_found : (values : ArgMatches) (number writers packets : Text) → rows_of (found_of values) ≡ gen_rows number writers packets
    → HasNumbers values number writers packets
numbers_found values number writers packets same =
    let found = gen_values number writers packets in
    record {
      number_found = first_value-rows (found_of values) (codes "NUMBER") ∙ ap (first_of (codes "NUMBER")) same ∙ found.0;
      writers_found = first_value-rows (found_of values) (codes "WRITERS") ∙ ap (first_of (codes "WRITERS")) same ∙ found.1;
      packets_found = first_value-rows (found_of values) (codes "PACKETS") ∙ ap (first_of (codes "PACKETS")) same ∙ found.2;
    }

-- behind `tune`, with two words that were let through, their values are found
pub turns_found : (values : ArgMatches) (users turns : Text) → rows_of (found_of values) ≡ tune_rows users turns → HasTurns values users turns
turns_found values users turns same =
    let found = tune_values users turns in
    record {
      users_found = first_value-rows (found_of values) (codes "USERS") ∙ ap (first_of (codes "USERS")) same ∙ found.0;
      turns_found = first_value-rows (found_of values) (codes "TURNS") ∙ ap (first_of (codes "TURNS")) same ∙ found.1;
    }

pub some_same : {T : Type 0} (one other : T) → Some one ≡ Some other → one ≡ other
some_same one other same = ap (λ o. unwrap_or o one) same

-- the same said of texts and of what has them
pub all_mapped : {T : Type 0} (test : Text → Bool) (text_of : T → Text) (items : List T)
    → list_all (λ item. test (text_of item)) items ≡ list_all test (map text_of items)
all_mapped test text_of [] = refl
all_mapped test text_of (item ∷ items) = ap (λ b. test (text_of item) && b) (all_mapped test text_of items)

-- three words
pub record AreThree (words : List Text) : Type 0 where
  pub first : Text
  pub second : Text
  pub third : Text
  pub same : words ≡ first ∷ second ∷ third ∷ []

pub three_of : (words : List Text) → length words ≡ 3 → AreThree words
three_of [] long = absurd (omega (arith, long))
three_of (a ∷ []) long = absurd (omega (arith, long))
three_of (a ∷ b ∷ []) long = absurd (omega (arith, long))
three_of (a ∷ b ∷ c ∷ []) long = record { first = a; second = b; third = c; same = refl }
three_of (a ∷ b ∷ c ∷ d ∷ more) long = absurd (omega (arith, long))

pub none_of : {T : Type 0} (items : List T) → length items ≡ 0 → items ≡ []
none_of [] none = refl
none_of (item ∷ items) none = absurd (omega (arith, none))

-- the numbers that are found behind the name `gen`
pub gen_numbers : (m values : ArgMatches) (name number writers packets : Text)
    → subcommand_rows_of m ≡ subcommand_of program_app (name ∷ number ∷ writers ∷ packets ∷ [])
    → list_all is_plain (name ∷ number ∷ writers ∷ packets ∷ []) ≡ true → name ≡ codes "gen"
    → Some (rows_of (found_of values)) ≡ option_map (λ (p : Text × List Row). p.1) (subcommand_rows_of m)
    → HasNumbers values number writers packets
gen_numbers m values name number writers packets found plain named rows =
    let last = is_plain packets && true in
    let two_last = is_plain writers && last in
    let first = and_parts (is_plain number) two_last (and_parts (is_plain name) (is_plain number && two_last) plain).1 in
    let second = and_parts (is_plain writers) last first.1 in
    let third = and_parts (is_plain packets) true second.1 in
    let whole = found ∙ ap (λ n. subcommand_of program_app (n ∷ number ∷ writers ∷ packets ∷ [])) named
    ∙ gen_found number writers packets (plain_value number first.0) (plain_value writers second.0) (plain_value packets third.0) in
    numbers_found values number writers packets
    (some_same _ _ (rows ∙ found_rows m (codes "gen") (gen_rows number writers packets) whole))

-- no text is found twice
pub same_numbers : (values : ArgMatches) (a b c x y z : Text) → HasNumbers values a b c → HasNumbers values x y z → (a ≡ x) × (b ≡ y) × (c ≡ z)
same_numbers values a b c x y z one other = (
  some_same a x (sym one.number_found ∙ other.number_found),
  some_same b y (sym one.writers_found ∙ other.writers_found),
  some_same c z (sym one.packets_found ∙ other.packets_found),
)

-- two words
pub record AreTwo (words : List Text) : Type 0 where
  pub first : Text
  pub second : Text
  pub same : words ≡ first ∷ second ∷ []

pub two_of : (words : List Text) → length words ≡ 2 → AreTwo words
two_of [] long = absurd (omega (arith, long))
two_of (a ∷ []) long = absurd (omega (arith, long))
two_of (a ∷ b ∷ []) long = record { first = a; second = b; same = refl }
two_of (a ∷ b ∷ c ∷ more) long = absurd (omega (arith, long))

-- the numbers that are found behind the name `tune`
pub tune_numbers : (m values : ArgMatches) (name users turns : Text) → subcommand_rows_of m ≡ subcommand_of program_app (name ∷ users ∷ turns ∷ [])
    → list_all is_plain (name ∷ users ∷ turns ∷ []) ≡ true → name ≡ codes "tune"
    → Some (rows_of (found_of values)) ≡ option_map (λ (p : Text × List Row). p.1) (subcommand_rows_of m)
    → HasTurns values users turns
tune_numbers m values name users turns found plain named rows =
    let last = is_plain turns && true in
    let first = and_parts (is_plain users) last (and_parts (is_plain name) (is_plain users && last) plain).1 in
    let second = and_parts (is_plain turns) true first.1 in
    let whole = found ∙ ap (λ n. subcommand_of program_app (n ∷ users ∷ turns ∷ [])) named
    ∙ tune_found users turns (plain_value users first.0) (plain_value turns second.0) in
    turns_found values users turns (some_same _ _ (rows ∙ found_rows m (codes "tune") (tune_rows users turns) whole))

-- no text is found twice
pub same_turns : (values : ArgMatches) (a b x y : Text) → HasTurns values a b → HasTurns values x y → (a ≡ x) × (b ≡ y)
same_turns values a b x y one other = (some_same a x (sym one.users_found ∙ other.users_found), some_same b y (sym one.turns_found ∙ other.turns_found))
