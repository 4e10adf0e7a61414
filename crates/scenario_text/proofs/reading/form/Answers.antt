use Rattle.std.proofs.Common.{ℕ, List, [], Option, Bor, sym, ap, ◌∙◌}
use Rattle.std.specs.Option.{option_copied, unwrap_or}
use Rattle.scenario_text.proofs.PieceLemmas.{no_second, behind_second}
use Rattle.scenario_text.proofs.reading.form.Goals as goal

pub returns-in_default-clause-fields : goal.returns-in_default-clause-fields
returns-in_default-clause-fields c =
    no_second c.args.line.now c.next_piece.result.1 c.next_piece.ensures.behind c.in_default.not-Some

pub returns-in-None-clause-fields : goal.returns-in-None-clause-fields
returns-in-None-clause-fields c =
    ap (λ (more : Option (Bor (List ℕ))). unwrap_or (option_copied more) []) (sym c.in-None.is)
    ∙ behind_second c.args.line.now c.next_piece.result.1 c.next_piece-2.result.1 c.in-Some.behind c.in-Some.is
    c.next_piece.ensures.behind c.next_piece-2.ensures.behind

pub returns-in-Some-more-clause-fields : goal.returns-in-Some-more-clause-fields
returns-in-Some-more-clause-fields c =
    ap (λ (more : Option (Bor (List ℕ))). unwrap_or (option_copied more) []) (sym c.in-Some-more.is)
    ∙ behind_second c.args.line.now c.next_piece.result.1 c.next_piece-2.result.1 c.in-Some.behind c.in-Some.is
    c.next_piece.ensures.behind c.next_piece-2.ensures.behind
