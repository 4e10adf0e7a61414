use Rattle.std.proofs.Common.{rules, ◌≡◌, ◌∙◌, ℕ, refl, ap, length, subst, sym, arith}
use Rattle.std.proofs.lemmas.Grind.{common_steps}
use Rattle.std.proofs.lemmas.List.{length-append}
use Rattle.chunk_plain.specs.Setup.{spot, from_of}
use Rattle.chunk_plain.specs.Views.{WriterView}
use Rattle.chunk_plain.specs.Words.{HasClaimed}
use Rattle.chunk_plain.proofs.Holding.{claims_has}
use Rattle.chunk_words.specs.Sits.{setup_in, known_by}
use Rattle.table_speed.proofs.HeldLemmas.{just_begun}
use Rattle.table_speed.proofs.rounds.begin.Goals as goal
use Rattle.trace_base.specs.Ids.{id_of}

pub begin-requires-clause-may : goal.begin-requires-clause-may
begin-requires-clause-may c = record {
  claimed = let won = c.in_ok-claimed.ensures.won in
      subst (λ k. HasClaimed (known_by c.claim_try.new.seat) k) (sym c.in_ok-claimed.ensures.chunk)
      (claims_has (known_by c.args.seat.now) (known_by c.claim_try.new.seat) c.args.chunk won.found won.view);
  id_is = let won = c.in_ok-claimed.ensures.won in
      let setup = setup_in c.args.host.now in
      let count : ℕ = length (known_by c.claim_try.new.seat).begun in
      let from_is = ap (from_of setup) c.in_ok-claimed.ensures.place ∙ c.requires.seat.from_is in
      c.id_of.ensures ∙ ap (id_of 0) (c.requires.position ∙ sym (ap (λ (v : WriterView). length v.begun) won.view)) ∙ ap (λ (f : ℕ). id_of f count) (sym from_is);
  few_begun = first_of (search rules, grind (arith, common_steps));
}

pub returns-clause-held : goal.returns-clause-held
returns-clause-held c =
    let won = c.in_ok-claimed.ensures.won in
    record {
      holds = just_begun c.args.host.now (known_by c.claim_try.new.seat) c.begin.new.seat c.in_ok-claimed.claimed.chunk (length (known_by c.claim_try.new.seat).begun) c.begin.result
          c.begin.ensures.seat refl
          (subst (λ k. (spot (setup_in c.args.host.now) k).payload_size ≡ 284) (sym c.in_ok-claimed.ensures.chunk) c.requires.size)
          c.begin.ensures.held c.begin.ensures.view;
      chunk_is = search rules;
      more =
          let before = ap (λ (v : WriterView). length v.begun) won.view in let now = ap (λ (v : WriterView). length v.begun) c.begin.ensures.view.view in
          let position = c.requires.position in
          now ∙ simp length-append (omega (arith, before, position));
    }
