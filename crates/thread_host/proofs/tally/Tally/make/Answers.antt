-- Nothing was read.
use Rattle.std.proofs.Common.{◌≡◌, ◌∙◌, ℕ, suc, List, [], get_or, replicate, rules, sym, ap, arith}
use Rattle.std.proofs.lemmas.List.{get_or-replicate}
use Rattle.chunk_plain.proofs.Lists.{at_inside}
use Rattle.chunk_plain.specs.Views.{Heard}
use Rattle.thread_host.proofs.TallyLemmas.{sum_none}
use Rattle.thread_host.proofs.tally.Tally.make.Goals as goal

pub returns : goal.returns
returns c =
    let sums : c.in_ok-vec.field-0.items ≡ replicate c.args.requests 0 = search rules in
    let answered : c.in_ok-vec-2.field-0.items ≡ replicate c.args.writers 0 = search rules in
    record {
      few = c.requires;
      rows = c.in_ok-vec.ensures.len;
      many = c.in_ok-vec-2.ensures.len;
      small = λ n place flush chunks at. absurd (let inside = at_inside [] (Heard place flush chunks) n at in omega (arith, inside));
      sums = λ k inside.
          ap (λ (xs : List ℕ). get_or xs k 0) sums ∙ get_or-replicate c.args.requests k 0 0 inside ∙ sym (sum_none (suc k) c.args.writers);
      answered = λ place inside. ap (λ (xs : List ℕ). get_or xs place 0) answered ∙ get_or-replicate c.args.writers place 0 0 inside;
    }
