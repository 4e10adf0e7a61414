use Rattle.std.proofs.Common.{◌≡◌, true, false, not, List, [], ◌∷◌, map, Option, Some, None, option_map, IfSome, IfNone, slice_index_or, sym, ◌∙◌, ap, subst}
use Rattle.std.specs.List.{list_all}
use Rattle.std.specs.Str.{bytes_eq}
use Rattle.std.specs.String.{string_bytes}
use Rattle.std.proofs.lemmas.Bool.{true≢false, not-false}
use Rattle.std.proofs.lemmas.List.{length-map}
use Rattle.std.proofs.lemmas.Slice.Eq.{bytes_eq-Decides}
use Rattle.clap.specs.Walk.{Row, Text}
use Rattle.clap.specs.Words.{subcommand_rows_of, subcommand_of, found_of, rows_of}
use Rattle.command_words.specs.declared.command.Command.{Command}
use Rattle.command_words.specs.Commands.{Spells}
use Rattle.command_words.specs.Program.{program_app, is_plain}
use Rattle.command_words.proofs.FoundLemmas.{spelled, found_name, some_same, all_mapped, two_of, three_of, none_of, gen_numbers, same_numbers, tune_numbers, same_turns}
use Rattle.command_words.proofs.SpellLemmas.{same_text, three_words, four_words}
use Rattle.command_words.proofs.reading.command_of.Goals as goal

-- what holds anyhow holds of None
on_none : {T P : Type 0} (o : Option T) → P → IfNone o P
on_none None holds = holds
on_none (Some value) holds = tt

none_some : {T P : Type 0} (value : T) → None ≡ Some value → P
none_some {T} {P} value same = absurd (true≢false (ap (λ (o : Option T). elim o [ None ↦ true | Some v ↦ false ]) same))

same_bytes : (one other : Text) → bytes_eq one other ≡ true → one ≡ other
same_bytes one other same = (bytes_eq-Decides one other).0 same

pub returns-in_err-name-clause-none : goal.returns-in_err-name-clause-none
returns-in_err-name-clause-none c = on_none c.from_residual.result (λ command spells.
    let f = spelled (map string_bytes c.args.words.now) command spells in
    none_some (slice_index_or (map string_bytes c.args.words.now) 0 [])
    (c.in_err-name.ensures.name ∙ found_name c.args.matches.now _ f.rows (c.requires.found ∙ f.found)))

pub returns-then-ne-clause-none : goal.returns-then-ne-clause-none
returns-then-ne-clause-none c = λ command spells.
    let f = spelled (map string_bytes c.args.words.now) command spells in
    let named : Some c.in_ok-name.name.now ≡ Some (slice_index_or (map string_bytes c.args.words.now) 0 []) =
    c.in_ok-name.ensures.name ∙ found_name c.args.matches.now _ f.rows (c.requires.found ∙ f.found) in
    let first : slice_index_or (map string_bytes c.args.words.now) 0 [] ≡ c.as_str.result.now =
    ap (λ words. slice_index_or (map string_bytes words) 0 []) c.in_ok-first.ensures.cases.0 ∙ sym c.as_str.ensures.value in
    let same = same_text c.as_str.result.now c.in_ok-name.name.now (sym (some_same _ _ named ∙ first)) in
    let unequal : c.ne.result ≡ false = c.ne.ensures ∙ ap not same in
    true≢false (sym c.if-ne.true ∙ unequal)

none_weaker : {T P Q : Type 0} (o : Option T) → (P → Q) → IfNone o P → IfNone o Q
none_weaker None weaker holds = weaker holds
none_weaker (Some value) weaker holds = tt

some_weaker : {T : Type 0} (o : Option T) (P Q : T → Type 0) → ((value : T) → P value → Q value) → IfSome o P → IfSome o Q
some_weaker None P Q weaker holds = tt
some_weaker (Some value) P Q weaker holds = weaker value holds

pub returns-in-0-clause-some : goal.returns-in-0-clause-some
returns-in-0-clause-some c =
    let words = c.in_ok-first.ensures.cases.0 in
    let same : string_bytes c.in_ok-first.first.now ≡ c.in_ok-name.name.now =
    sym c.as_str.ensures.value ∙ same_bytes c.as_str.result.now c.in_ok-name.name.now (not-false _ (sym c.ne.ensures ∙ c.if-ne.false)) in
    let texts : map string_bytes c.args.words.now ≡ c.in_ok-name.name.now ∷ [] =
    ap (map string_bytes) (words ∙ ap (λ others. c.in_ok-first.first.now ∷ others) (none_of c.in_ok-first.others.now c.in-0.is)) ∙ ap (λ name. name ∷ []) same in
    let P : List Text → Type 0 = λ ws. IfSome c.lone_command.result (λ command. Spells ws command) in
    subst P (sym texts) c.lone_command.ensures.some

pub returns-in-0-clause-none : goal.returns-in-0-clause-none
returns-in-0-clause-none c =
    let words = c.in_ok-first.ensures.cases.0 in
    let same : string_bytes c.in_ok-first.first.now ≡ c.in_ok-name.name.now =
    sym c.as_str.ensures.value ∙ same_bytes c.as_str.result.now c.in_ok-name.name.now (not-false _ (sym c.ne.ensures ∙ c.if-ne.false)) in
    let texts : map string_bytes c.args.words.now ≡ c.in_ok-name.name.now ∷ [] =
    ap (map string_bytes) (words ∙ ap (λ others. c.in_ok-first.first.now ∷ others) (none_of c.in_ok-first.others.now c.in-0.is)) ∙ ap (λ name. name ∷ []) same in
    let P : List Text → Type 0 = λ ws. IfNone c.lone_command.result ((command : Command) → Spells ws command → ⊥) in
    subst P (sym texts) c.lone_command.ensures.none

pub returns-in-3-clause-some : goal.returns-in-3-clause-some
returns-in-3-clause-some c =
    let words = c.in_ok-first.ensures.cases.0 in
    let name = c.in_ok-name.name.now in
    let same : string_bytes c.in_ok-first.first.now ≡ name =
    sym c.as_str.ensures.value ∙ same_bytes c.as_str.result.now name (not-false _ (sym c.ne.ensures ∙ c.if-ne.false)) in
    let three = three_of (map string_bytes c.in_ok-first.others.now) (length-map c.in_ok-first.others.now string_bytes ∙ c.in-3.is) in
    let texts : map string_bytes c.args.words.now ≡ name ∷ three.first ∷ three.second ∷ three.third ∷ [] =
    ap (map string_bytes) words ∙ ap (λ first. first ∷ map string_bytes c.in_ok-first.others.now) same ∙ ap (λ others. name ∷ others) three.same in
    let plain : list_all is_plain (name ∷ three.first ∷ three.second ∷ three.third ∷ []) ≡ true =
    ap (list_all is_plain) (sym texts) ∙ sym (all_mapped is_plain string_bytes c.args.words.now) ∙ c.requires.plain in
    let found = c.requires.found ∙ ap (subcommand_of program_app) texts in
    let rows : Some (rows_of (found_of c.in_ok-name.values.now)) ≡ option_map (λ (p : Text × List Row). p.1) (subcommand_rows_of c.args.matches.now) =
    c.in_ok-name.ensures.rows in
    some_weaker c.generation_of.result _ (λ command. Spells (map string_bytes c.args.words.now) command)
    (λ command (number, writers, packets, has, spells).
    let four = four_words name number writers packets command spells in
    let numbers = gen_numbers c.args.matches.now c.in_ok-name.values.now name three.first three.second three.third found plain four.0 rows in
    let (one, two, last) = same_numbers c.in_ok-name.values.now number writers packets three.first three.second three.third has numbers in
    subst (λ ws. Spells ws command)
    (ap (λ n. name ∷ n ∷ writers ∷ packets ∷ []) one ∙ ap (λ n. name ∷ three.first ∷ n ∷ packets ∷ []) two
    ∙ ap (λ n. name ∷ three.first ∷ three.second ∷ n ∷ []) last ∙ sym texts) spells)
    c.generation_of.ensures.some

pub returns-in-3-clause-none : goal.returns-in-3-clause-none
returns-in-3-clause-none c =
    let words = c.in_ok-first.ensures.cases.0 in
    let name = c.in_ok-name.name.now in
    let same : string_bytes c.in_ok-first.first.now ≡ name =
    sym c.as_str.ensures.value ∙ same_bytes c.as_str.result.now name (not-false _ (sym c.ne.ensures ∙ c.if-ne.false)) in
    let three = three_of (map string_bytes c.in_ok-first.others.now) (length-map c.in_ok-first.others.now string_bytes ∙ c.in-3.is) in
    let texts : map string_bytes c.args.words.now ≡ name ∷ three.first ∷ three.second ∷ three.third ∷ [] =
    ap (map string_bytes) words ∙ ap (λ first. first ∷ map string_bytes c.in_ok-first.others.now) same ∙ ap (λ others. name ∷ others) three.same in
    let plain : list_all is_plain (name ∷ three.first ∷ three.second ∷ three.third ∷ []) ≡ true =
    ap (list_all is_plain) (sym texts) ∙ sym (all_mapped is_plain string_bytes c.args.words.now) ∙ c.requires.plain in
    let found = c.requires.found ∙ ap (subcommand_of program_app) texts in
    let rows : Some (rows_of (found_of c.in_ok-name.values.now)) ≡ option_map (λ (p : Text × List Row). p.1) (subcommand_rows_of c.args.matches.now) =
    c.in_ok-name.ensures.rows in
    none_weaker c.generation_of.result (λ none command spells.
    let spelled_so : Spells (name ∷ three.first ∷ three.second ∷ three.third ∷ []) command = subst (λ ws. Spells ws command) texts spells in
    let numbers = gen_numbers c.args.matches.now c.in_ok-name.values.now name three.first three.second three.third found plain
    (four_words name three.first three.second three.third command spelled_so).0 rows in
    none command three.first three.second three.third numbers spelled_so) c.generation_of.ensures.none

pub returns-in-2-clause-some : goal.returns-in-2-clause-some
returns-in-2-clause-some c =
    let words = c.in_ok-first.ensures.cases.0 in
    let name = c.in_ok-name.name.now in
    let same : string_bytes c.in_ok-first.first.now ≡ name =
    sym c.as_str.ensures.value ∙ same_bytes c.as_str.result.now name (not-false _ (sym c.ne.ensures ∙ c.if-ne.false)) in
    let two = two_of (map string_bytes c.in_ok-first.others.now) (length-map c.in_ok-first.others.now string_bytes ∙ c.in-2.is) in
    let texts : map string_bytes c.args.words.now ≡ name ∷ two.first ∷ two.second ∷ [] =
    ap (map string_bytes) words ∙ ap (λ first. first ∷ map string_bytes c.in_ok-first.others.now) same ∙ ap (λ others. name ∷ others) two.same in
    let plain : list_all is_plain (name ∷ two.first ∷ two.second ∷ []) ≡ true =
    ap (list_all is_plain) (sym texts) ∙ sym (all_mapped is_plain string_bytes c.args.words.now) ∙ c.requires.plain in
    let found = c.requires.found ∙ ap (subcommand_of program_app) texts in
    let rows : Some (rows_of (found_of c.in_ok-name.values.now)) ≡ option_map (λ (p : Text × List Row). p.1) (subcommand_rows_of c.args.matches.now) =
    c.in_ok-name.ensures.rows in
    some_weaker c.tuning_of.result _ (λ command. Spells (map string_bytes c.args.words.now) command)
    (λ command (users, turns, has, spells).
    let three = three_words name users turns command spells in
    let numbers = tune_numbers c.args.matches.now c.in_ok-name.values.now name two.first two.second found plain three.0 rows in
    let (one, last) = same_turns c.in_ok-name.values.now users turns two.first two.second has numbers in
    subst (λ ws. Spells ws command) (ap (λ n. name ∷ n ∷ turns ∷ []) one ∙ ap (λ n. name ∷ two.first ∷ n ∷ []) last ∙ sym texts) spells)
    c.tuning_of.ensures.some

pub returns-in-2-clause-none : goal.returns-in-2-clause-none
returns-in-2-clause-none c =
    let words = c.in_ok-first.ensures.cases.0 in
    let name = c.in_ok-name.name.now in
    let same : string_bytes c.in_ok-first.first.now ≡ name =
    sym c.as_str.ensures.value ∙ same_bytes c.as_str.result.now name (not-false _ (sym c.ne.ensures ∙ c.if-ne.false)) in
    let two = two_of (map string_bytes c.in_ok-first.others.now) (length-map c.in_ok-first.others.now string_bytes ∙ c.in-2.is) in
    let texts : map string_bytes c.args.words.now ≡ name ∷ two.first ∷ two.second ∷ [] =
    ap (map string_bytes) words ∙ ap (λ first. first ∷ map string_bytes c.in_ok-first.others.now) same ∙ ap (λ others. name ∷ others) two.same in
    let plain : list_all is_plain (name ∷ two.first ∷ two.second ∷ []) ≡ true =
    ap (list_all is_plain) (sym texts) ∙ sym (all_mapped is_plain string_bytes c.args.words.now) ∙ c.requires.plain in
    let found = c.requires.found ∙ ap (subcommand_of program_app) texts in
    let rows : Some (rows_of (found_of c.in_ok-name.values.now)) ≡ option_map (λ (p : Text × List Row). p.1) (subcommand_rows_of c.args.matches.now) =
    c.in_ok-name.ensures.rows in
    none_weaker c.tuning_of.result (λ none command spells.
    let spelled_so : Spells (name ∷ two.first ∷ two.second ∷ []) command = subst (λ ws. Spells ws command) texts spells in
    let numbers = tune_numbers c.args.matches.now c.in_ok-name.values.now name two.first two.second found plain (three_words name two.first two.second command spelled_so).0 rows in
    none command two.first two.second numbers spelled_so) c.tuning_of.ensures.none
