-- The fields of a sequence and its value.
use Rattle.std.proofs.Common.{◌≡◌, ℕ, ◌+◌, ◌<◌, ◌≤◌, nat_le, false, sym, ap, ◌∙◌, arith, true≢false}
use Rattle.std.proofs.lemmas.Bool.Decides.{nat_tests}
use Rattle.trace_model.specs.Arrivals.{is_too_far}
use Rattle.trace_model.specs.Sequences.{Sequence, has_arrived, is_among}
use Rattle.trace_buffer.specs.Circle.{arrived_of}
use Rattle.trace_buffer.specs.RowFields.{row_view, IsSequence}
use Rattle.trace_buffer.specs.declared.row.SequenceRow.TheInside.{Inside}
use Rattle.trace_buffer.proofs.CircleLemmas.{arrived_below, base_is}

-- the position is one of those that have a bit
pub record IsAhead (a : Inside) (id : ℕ) : Type 0 where
  pub from : a.base ≤ id
  pub to : id < a.base + 1024

not_far : (base id : ℕ) → nat_le (base + 1024) id ≡ false → id < base + 1024
not_far base id is = grind (arith, nat_tests)

pub is_ahead : (a : Inside) (v : Sequence) (id : ℕ) → row_view a ≡ v → IsSequence a → has_arrived v id ≡ false → is_too_far v id ≡ false → IsAhead a id
is_ahead a v id view ok fresh near =
    let fresh_is : is_among id (arrived_of a.base a.ahead.items) ≡ false = ap (λ (s : Sequence). has_arrived s id) view ∙ fresh in
    let near_is : nat_le (a.base + 1024) id ≡ false =
    ap (λ n. nat_le (n + 1024) id) (sym (base_is a.ahead.items a.base ok.settled)) ∙ ap (λ (s : Sequence). is_too_far s id) view ∙ near in
    record {
      from = grind (arith, fresh_is, arrived_below a.ahead.items a.base id, true≢false);
      to = not_far a.base id near_is;
    }
