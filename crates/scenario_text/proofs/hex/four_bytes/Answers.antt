use Rattle.std.proofs.Common.{◌∙◌, ◌∷◌, ◌++◌, ℕ, Some, [], drop, append-nil, ap, sym, arith}
use Rattle.scenario_text.specs.Hex.{hex_of}
use Rattle.scenario_text.proofs.HexLemmas.{four_are, not_four, none_four}
use Rattle.scenario_text.proofs.hex.four_bytes.Goals as goal

pub returns-in_default : goal.returns-in_default
returns-in_default c = none_four (hex_of c.args.word.now) c.in_default.ensures

pub returns-then-len-ne4 : goal.returns-then-len-ne4
returns-then-len-ne4 c = not_four (hex_of c.args.word.now) c.in-Some.len c.in-Some.ensures c.if-len-ne4.true

pub put_hex-requires : goal.put_hex-requires
put_hex-requires c =
    let four = four_are (hex_of c.args.word.now) c.in-Some.len c.in-Some.ensures c.if-len-ne4.false in
    (four.0, four.1, omega (arith, four.2))

pub returns : goal.returns
returns c =
    let four = four_are (hex_of c.args.word.now) c.in-Some.len c.in-Some.ensures c.if-len-ne4.false in
    ap Some
    (c.put_hex.ensures four.0 four.1 ∙ ap (λ (n : ℕ). four.0 ++ drop n (0 ∷ 0 ∷ 0 ∷ 0 ∷ [])) four.2 ∙ append-nil four.0)
    ∙ sym four.3
