use Rattle.std.proofs.Common.{◌≡◌, ◌+◌, ◌<◌, ◌≤◌, ℕ, List, [], ◌∷◌, true, false, ◌^◌, length, refl, sym, ap, ◌∙◌, subst, arith, cond}
use Rattle.page_geometry.specs.Sizes.{record_size}
use Rattle.ring_bytes.specs.declared.header.Header.{Header}
use Rattle.ring_bytes.specs.Bytes.{slice, SameOutside}
use Rattle.ring_bytes.specs.Header.{header_at, header_of, StandsAt, is_live}
use Rattle.ring_bytes.specs.Rows.{IsRow, live_row}
use Rattle.ring_bytes.specs.Value.{put_at}
use Rattle.ring_bytes.proofs.RowLemmas.{row_one, size_least}
use Rattle.ring_bytes.proofs.SliceLemmas.{put_same, same_then, same_wider, slice_put_here}
use Rattle.ring_bytes.proofs.part.put_record.Goals as goal

-- header and payload are put behind one another
record IsPut (b c d : List ℕ) (at : ℕ) (header : Header) (payload : List ℕ) : Type 0 where
  same : SameOutside at (at + record_size (length payload)) b d
  there : header_at d at ≡ header
  stands : StandsAt d at header
  bytes : slice (at + 16) (length payload) d ≡ payload

put_of : (b c d : List ℕ) (at : ℕ) (header : Header) (payload : List ℕ) → at + record_size (length payload) ≤ length b → SameOutside at (at + 16) b c → header_at c at ≡ header → StandsAt c at header → d ≡ put_at (at + 16) payload c → IsPut b c d at header payload
put_of b c d at header payload room first there stands is =
    let least = size_least (length payload) in
    let second : SameOutside (at + 16) (at + 16 + length payload) c d =
    subst (λ x. SameOutside (at + 16) (at + 16 + length payload) c x) (sym is) (put_same (at + 16) payload c (omega (arith, first.size))) in
    record {
      same = same_then at (at + record_size (length payload)) b c d
          (same_wider at (at + 16) at (at + record_size (length payload)) b c (omega arith) (omega arith) first)
          (same_wider (at + 16) (at + 16 + length payload) at (at + record_size (length payload)) c d (omega arith) (omega arith) second);
      there = ap header_of (second.below at 16 (omega arith)) ∙ there;
      stands = second.below at 16 (omega arith) ∙ stands;
      bytes = ap (slice (at + 16) (length payload)) is ∙ slice_put_here (at + 16) payload c (omega (arith, first.size));
    }

row_of : (b c d : List ℕ) (at : ℕ) (header : Header) (payload : List ℕ) → header.len ≡ length payload → is_live header ≡ true → length payload < 2 ^ 26 → IsPut b c d at header payload → IsRow d at (at + record_size (length payload)) × (live_row d at (at + record_size (length payload)) ≡ record { at = at; key = header.key; payload = payload } ∷ [])
row_of b c d at header payload len live small put =
    let one = row_one d at header put.there put.stands (omega (arith, len)) in
    let end : at + record_size header.len ≡ at + record_size (length payload) = ap (λ n. at + record_size n) len in
    let bytes : slice (at + 16) header.len d ≡ payload = ap (λ n. slice (at + 16) n d) len ∙ put.bytes in (
      subst (λ n. IsRow d at n) end one.0,
      ap (λ n. live_row d at n) (sym end)
          ∙ one.1
          ∙ ap (λ x. cond x (record { at = at; key = header.key; payload = slice (at + 16) header.len d } ∷ []) []) live
          ∙ ap (λ (x : List ℕ). record { at = at; key = header.key; payload = x } ∷ []) bytes,
    )

pub overflow_add-at : goal.overflow_add-at
overflow_add-at c = omega (arith, size_least (length c.args.payload.now), c.requires.small)

pub returns-clause-same : goal.returns-clause-same
returns-clause-same c =
    let header : Header = record { len = length c.args.payload.now; key = c.args.key; padding = false; dead = false } in
    (put_of c.args.bytes.now c.put_header.new.bytes c.put.new.bytes c.args.at header c.args.payload.now c.requires.room
    c.put_header.ensures.same c.put_header.ensures.there c.put_header.ensures.bytes c.put.ensures).same

pub returns-clause-row : goal.returns-clause-row
returns-clause-row c =
    let header : Header = record { len = length c.args.payload.now; key = c.args.key; padding = false; dead = false } in
    (row_of c.args.bytes.now c.put_header.new.bytes c.put.new.bytes c.args.at header c.args.payload.now refl refl (omega (arith, size_least (length c.args.payload.now), c.requires.small))
    (put_of c.args.bytes.now c.put_header.new.bytes c.put.new.bytes c.args.at header c.args.payload.now c.requires.room
    c.put_header.ensures.same c.put_header.ensures.there c.put_header.ensures.bytes c.put.ensures)).0

pub returns-clause-live : goal.returns-clause-live
returns-clause-live c =
    let header : Header = record { len = length c.args.payload.now; key = c.args.key; padding = false; dead = false } in
    (row_of c.args.bytes.now c.put_header.new.bytes c.put.new.bytes c.args.at header c.args.payload.now refl refl (omega (arith, size_least (length c.args.payload.now), c.requires.small))
    (put_of c.args.bytes.now c.put_header.new.bytes c.put.new.bytes c.args.at header c.args.payload.now c.requires.room
    c.put_header.ensures.same c.put_header.ensures.there c.put_header.ensures.bytes c.put.ensures)).1
