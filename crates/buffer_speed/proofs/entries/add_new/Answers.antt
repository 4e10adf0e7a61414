use Rattle.std.proofs.Common.{◌≡◌, ℕ, Option, Some, None, is_some, false, true≢false, refl, ap, ◌∙◌, arith, sym}
use Rattle.std.specs.FinMap.{len}
use Rattle.chunk_index.specs.Value.{IndexValue, key_of}
use Rattle.chunk_index.proofs.MapLemmas.{len_with}
use Rattle.buffer_speed.proofs.entries.add_new.Goals as goal

none_of : (found : Option ℕ) → is_some found ≡ false → found ≡ None
none_of None is = refl
none_of (Some place) is = absurd (true≢false is)

pub returns-clause-count : goal.returns-clause-count
returns-clause-count c =
    let absent = none_of c.find.result (sym c.is_some.ensures ∙ c.if-is_some.false) in
    let more = ap (λ (i : IndexValue). len i.places) c.add.ensures
    ∙ len_with c.args.index.now.places (key_of c.args.sequence c.args.chunk_id) c.args.place (sym c.find.ensures ∙ absent) in
    omega (arith, more)
