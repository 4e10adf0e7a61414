use Rattle.std.proofs.Common.{◌≡◌, true, map, [], unwrap_or, inl, inr, sym, ◌∙◌, ap, subst}
use Rattle.std.specs.Result.{result_err}
use Rattle.std.specs.String.{string_bytes}
use Rattle.std.proofs.lemmas.Bool.{true≢false}
use Rattle.clap.specs.Words.{app_of, fault_of, is_simple, is_simple_and_free, subcommand_of, HasKind}
use Rattle.command_words.specs.Program.{program_app, is_plain}
use Rattle.command_words.proofs.GenLemmas.{simple_program, simple_and_free_program}
use Rattle.command_words.proofs.FoundLemmas.{spelled, all_mapped}
use Rattle.command_words.proofs.reading.read_words.Goals as goal

pub returns-then-not-are_plain-clause-unknown : goal.returns-then-not-are_plain-clause-unknown
returns-then-not-are_plain-clause-unknown c = λ same command spells.
    let f = spelled (map string_bytes c.args.words.now) command spells in
    let plain : c.are_plain.result ≡ true = c.are_plain.ensures ∙ all_mapped is_plain string_bytes c.args.words.now ∙ f.plain in
    true≢false (sym plain ∙ c.if-not-are_plain.true)

pub returns-clause-unknown : goal.returns-clause-unknown
returns-clause-unknown c = λ same command spells.
    let f = spelled (map string_bytes c.args.words.now) command spells in
    let program : app_of c.in-Ok.program ≡ program_app = c.in-Ok.ensures in
    let kinds = c.in-Err-try_get_matches_from.ensures.kinds (ap is_simple_and_free program ∙ simple_and_free_program) in
    let none : fault_of (app_of c.in-Ok.program) (map string_bytes c.args.words.now) ≡ [] =
    ap (λ app. fault_of app (map string_bytes c.args.words.now)) program ∙ f.passes in
    let kind = subst (λ ks. HasKind ks c.in-Err-try_get_matches_from.error) none kinds in
    c.fault_of.ensures (ap (λ answer. unwrap_or (result_err answer) c.fault_of.result) same) (elim kind [ inl h ↦ h | inr h ↦ absurd h ])

pub command_of-requires-clause-found : goal.command_of-requires-clause-found
command_of-requires-clause-found c =
    let program : app_of c.in-Ok.program ≡ program_app = c.in-Ok.ensures in
    (c.in-Ok-try_get_matches_from.ensures.matches (ap is_simple program ∙ simple_program)).1
    ∙ ap (λ app. subcommand_of app (map string_bytes c.args.words.now)) program
