use Rattle.std.proofs.Common.{◌≡◌, ℕ, Some, refl, sym, subst, rules}
use Rattle.std.specs.Prelude.{slice_get}
use Rattle.std.proofs.lemmas.Option.{slice_get_read}
use Rattle.scenario_text.proofs.own_lines.whole_row.Goals as goal

pub returns-then-row : goal.returns-then-row
returns-then-row c = (
  c.index-rows-index.result,
  subst (λ (n : ℕ). slice_get c.args.rows.now n ≡ Some c.index-rows-index.result) (search rules)
      (slice_get_read c.args.rows.now _ c.from-index.result c.index-rows-index.result refl (search rules) c.index-rows-index.is),
  c.if-row.true,
  sym c.deref.ensures.value,
)
