use Rattle.std.proofs.Common.{◌≡◌, ◌+◌, ◌-◌, ◌%◌, ◌^◌, ◌<◌, ◌≤◌, ℕ, List, [], ◌∷◌, Bool, true, false, cond, refl, sym, ap, ◌∙◌, subst, arith}
use Rattle.page_geometry.specs.Sizes.{record_size}
use Rattle.ring_bytes.specs.declared.header.Header.{Header}
use Rattle.ring_bytes.specs.Header.{header_at, StandsAt, is_live, rest_header}
use Rattle.ring_bytes.specs.Rows.{IsRow, live_row, stored_of}
use Rattle.ring_bytes.proofs.RowLemmas.{part, row_none, row_one}
use Rattle.ring_bytes.proofs.part.put_rest.Goals as goal

never_live : (len : ℕ) (padding : Bool) → is_live (rest_header len padding) ≡ false
never_live len true = refl
never_live len false = refl

rest_row : (c : List ℕ) (from to : ℕ) (padding : Bool) → from < to → to ≤ 2 ^ 26 → from % 16 ≡ 0 → to % 16 ≡ 0 → header_at c from ≡ rest_header (to - from - 16) padding → StandsAt c from (rest_header (to - from - 16) padding) → IsRow c from to × (live_row c from to ≡ [])
rest_row c from to padding order small low high there stands =
    let header : Header = rest_header (to - from - 16) padding in
    let one = row_one c from header there stands (omega arith) in
    let end : from + record_size (to - from - 16) ≡ to = omega arith in (
      subst (λ n. IsRow c from n) end one.0,
      ap (λ n. live_row c from n) (sym end) ∙ one.1 ∙ ap (λ x. cond x (stored_of c (part from header) ∷ []) []) (never_live (to - from - 16) padding),
    )

pub returns-then-from-to-clause-row : goal.returns-then-from-to-clause-row
returns-then-from-to-clause-row c =
    subst (λ n. IsRow c.args.bytes.now c.args.from n) c.if-from-to.true (row_none c.args.bytes.now c.args.from).0

pub returns-then-from-to-clause-none : goal.returns-then-from-to-clause-none
returns-then-from-to-clause-none c =
    subst (λ n. live_row c.args.bytes.now c.args.from n ≡ []) c.if-from-to.true (row_none c.args.bytes.now c.args.from).1

pub returns-clause-row : goal.returns-clause-row
returns-clause-row c =
    (rest_row c.put_header.new.bytes c.args.from c.args.to c.args.padding (omega arith) c.requires.small c.requires.from_units c.requires.to_units c.put_header.ensures.there c.put_header.ensures.bytes).0

pub returns-clause-none : goal.returns-clause-none
returns-clause-none c =
    (rest_row c.put_header.new.bytes c.args.from c.args.to c.args.padding (omega arith) c.requires.small c.requires.from_units c.requires.to_units c.put_header.ensures.there c.put_header.ensures.bytes).1
