use Rattle.std.proofs.Common.{◌≡◌, ℕ, ◌==◌, ◌+◌, ◌-◌, ◌∷◌, length, drop, Some, ap, sym, ◌∙◌, arith}
use Rattle.std.proofs.lemmas.List.{take_rest}
use Rattle.trace_model.specs.Reading.{size_of, fragment_of, fragment_end}
use Rattle.chunk_image.specs.Values.{fragment_value}
use Rattle.chunk_image.specs.Readable.{readable_from}
use Rattle.chunk_image.proofs.NextLemmas.{next_some}
use Rattle.chunk_image.proofs.iterate.FragmentIterIterator.next.Goals as goal

pub returns-clause-steps : goal.returns-clause-steps
returns-clause-steps c =
    let fragment = fragment_value c.in_ok-fragment.fragment in
    let found : fragment_of (c.self.inside.left == 1) c.self.inside.at c.self.inside.rest.now (size_of 4 c.self.inside.rest.now) ≡ Some fragment =
    sym c.in_ok-fragment.ensures.value in
    let taken : ℕ = fragment.offset - c.self.inside.at + length fragment.bytes in
    let same : fragment_end fragment - c.self.inside.at ≡ taken = omega (arith, c.in_ok-fragment.ensures.within.0) in
    sym c.self.view_is ∙ next_some c.self.inside.left c.self.inside.at c.self.inside.rest.now fragment c.if-self-eq0.false found
    ∙ ap (λ n. fragment ∷ readable_from (c.self.inside.left - 1) (fragment_end fragment) (drop n c.self.inside.rest.now)) same
    ∙ ap (λ rest. fragment ∷ readable_from (c.self.inside.left - 1) (fragment_end fragment) rest)
    (sym (take_rest c.self.inside.rest.now taken))

-- an item leaves one fewer
pub returns-clause-goes : goal.returns-clause-goes
returns-clause-goes c = record {
  on = λ _. (tt, tt, omega (arith, ap length (returns-clause-steps c)));
  keeps = tt;
  rests = λ _. tt;
}
