use Rattle.std.proofs.Common.{◌≡◌, ◌∷◌, Option, Bor, List, ℕ, drop, subst, arith}
use Rattle.std.specs.Option.{option_copied}
use Rattle.scenario_text.specs.Pieces.{pieces, pieces_behind}
use Rattle.scenario_text.proofs.RawLemmas.{words_behind, payload_word_says, payload_there}
use Rattle.scenario_text.proofs.raw_chunk.payload_word.Goals as goal

pub unreachable-requires : goal.unreachable-requires
unreachable-requires c =
    payload_there c.args.line.now c.loop.rest.now c.next_piece.result.0.now c.loop.counter c.requires c.loop-test.true c.loop.invariant
    (subst (λ (more : Option (Bor (List ℕ))). pieces 32 c.loop.rest.now ≡ c.next_piece.result.0.now ∷ pieces_behind 32 (option_copied more))
    c.in-None.is c.next_piece.ensures.cut)

pub loop-preserved : goal.loop-preserved
loop-preserved c =
    words_behind c.args.line.now c.loop.rest.now c.next_piece.result.0.now c.in-Some.behind.now c.loop.counter c.loop.invariant
    (subst (λ (more : Option (Bor (List ℕ))). pieces 32 c.loop.rest.now ≡ c.next_piece.result.0.now ∷ pieces_behind 32 (option_copied more))
    c.in-Some.is c.next_piece.ensures.cut)

pub returns : goal.returns
returns c =
    let all : c.loop.counter ≡ 6 = omega arith in
    payload_word_says c.args.line.now c.loop.rest.now c.next_piece-2.result.0.now (option_copied c.next_piece-2.result.1) c.requires
    (subst (λ (at : ℕ). pieces 32 c.loop.rest.now ≡ drop at (pieces 32 c.args.line.now)) all c.loop.invariant)
    c.next_piece-2.ensures.cut
