-- Where the last field began never comes before where an earlier one did.
use Rattle.std.proofs.Common.{◌≡◌, ℕ, ◌+◌, ◌-◌, ◌*◌, ◌/◌, ◌%◌, ◌^◌, ◌<◌, ◌≤◌, ◌==◌, List, [], ◌∷◌, length, refl, sym, ap, ◌∙◌, subst, arith, inl, inr, length-append}
use Rattle.std.specs.Prelude.{nat_lt, ◌&&◌, if◌then◌else◌}
use Rattle.std.proofs.lemmas.Bool.{cond_both, cases_Bool}
use Rattle.wire_varint.proofs.Whole.{whole_some}
use Rattle.trace_model.specs.Fields.{MessageField, Spells}
use Rattle.trace_model.specs.Walks.{VarintOf, OfTag, OfNumber, OfLength, WalkPart, Between, InVarint, InContent, Unfit, Refused, Walk, is_refused, is_number, field_ended, content_left, value_begun, varint_ended, varint_more, part_more, step, walk_over}
use Rattle.packet_check.specs.Messages.{NoFieldInFront}
use Rattle.packet_check.specs.Values as values
use Rattle.packet_check.specs.declared.walk.Walk as code
use Rattle.packet_check.proofs.WalkLemmas.{walk_at, walked_on, field_walk, refused_walk, ended_passed, ended_refused}
use Rattle.packet_check.proofs.SplitLemmas.{IsStuck}

-- what holds of where the last field began and of where the walk is, whatever its part
module _ (P : (start at : ℕ) → Type 0) where
  abbrev Holds : Walk → Type 0
  Holds walk = P walk.start walk.at

  holds_left : (left : ℕ) (walk : Walk) → Holds walk → Holds (content_left left walk)
  holds_left left walk h = cond_both (left == 0) (field_ended walk) (record walk { part = InContent left }) Holds (λ is. h) (λ is. h)

  holds_ended : (of : VarintOf) (value : ℕ) (walk : Walk) → Holds walk → Holds (varint_ended of value walk)
  holds_ended OfTag value walk h =
      cond_both (is_number (value / 8)) (record walk { number = value / 8; part = value_begun (value % 8) }) (record walk { part = Unfit }) Holds
      (λ is. h) (λ is. h)
  holds_ended OfNumber value walk h = h
  holds_ended OfLength value walk h = holds_left value walk h

  holds_more : (of : VarintOf) (value count byte : ℕ) (walk : Walk) → Holds walk → Holds (varint_more of value count byte walk)
  holds_more of value count byte walk h =
      cond_both ((count == 9) && nat_lt 1 byte) (record walk { part = Unfit })
      (if nat_lt byte 128 then varint_ended of (value + 128 ^ count * (byte % 128)) walk else record walk { part = InVarint of (value + 128 ^ count * (byte % 128)) (count + 1) })
      Holds
      (λ is. h)
      (λ few. cond_both (nat_lt byte 128) (varint_ended of (value + 128 ^ count * (byte % 128)) walk)
      (record walk { part = InVarint of (value + 128 ^ count * (byte % 128)) (count + 1) }) Holds
      (λ is. holds_ended of (value + 128 ^ count * (byte % 128)) walk h) (λ other. h))

  holds_part : (part : WalkPart) (at byte : ℕ) (walk : Walk) → P at walk.at → Holds walk → Holds (part_more part at byte walk)
  holds_part Between at byte walk here h = holds_more OfTag 0 0 byte (record walk { start = at; number = 0 }) here
  holds_part (InVarint of value count) at byte walk here h = holds_more of value count byte walk h
  holds_part (InContent left) at byte walk here h = holds_left (left - 1) walk h
  holds_part Unfit at byte walk here h = h
  holds_part Refused at byte walk here h = h

  -- where a step leaves it, the walk does
  holds_walk : ((start at : ℕ) → P start at → P start (at + 1) × P at (at + 1)) → (bytes : List ℕ) (walk : Walk) → Holds walk → Holds (walk_over walk bytes)
  holds_walk on [] walk h = h
  holds_walk on (byte ∷ bytes) walk h =
      holds_walk on bytes (step walk byte)
      (holds_part walk.part walk.at byte (record walk { at = walk.at + 1 }) (on walk.start walk.at h).1 (on walk.start walk.at h).0)

-- the walk's last field began at this place or behind it, and so the next one will
abbrev IsPast : (low start at : ℕ) → Type 0
IsPast low start at = (low ≤ start) × (low ≤ at)

-- the last field began no later than where the walk is
abbrev IsBegun : (start at : ℕ) → Type 0
IsBegun start at = start ≤ at

pub begun_walk : (bytes : List ℕ) (walk : Walk) → walk.start ≤ walk.at → (walk_over walk bytes).start ≤ (walk_over walk bytes).at
begun_walk bytes walk h = holds_walk IsBegun (λ start at begun. (omega (arith, begun), omega arith)) bytes walk h

pub begun_by : (walk next : code.Walk) (piece : List ℕ) → values.walk_of next ≡ walk_over (values.walk_of walk) piece → walk.start ≤ walk.at
    → next.start ≤ next.at
begun_by walk next piece is h = subst (λ (w : Walk). w.start ≤ w.at) (sym is) (begun_walk piece (values.walk_of walk) h)

-- each byte is counted
pub walk_counts : (bytes : List ℕ) (walk : Walk) → (walk_over walk bytes).at ≡ walk.at + length bytes
walk_counts [] walk = omega arith
walk_counts (byte ∷ bytes) walk =
    walk_counts bytes (step walk byte)
    ∙ ap (λ (n : ℕ). n + length bytes)
    (holds_part (λ start at. at ≡ walk.at + 1) walk.part walk.at byte (record walk { at = walk.at + 1 }) refl refl)
    ∙ omega arith

pub ruleset placed_steps = (begun_by)

-- behind a field's end that was passed the walk isn't in that field any more
not_back : (bytes : List ℕ) (at start number here : ℕ) → here < at → IsStuck here (walk_over (walk_at at start number Between) bytes) → ⊥
not_back [] at start number here less stuck = stuck.unended
not_back (byte ∷ bytes) at start number here less stuck =
    let first = holds_more (IsPast at) OfTag 0 0 byte (walk_at (at + 1) at 0 Between) (omega arith, omega arith) in
    let past = holds_walk (IsPast at) (λ start there low. ((low.0, omega (arith, low.1)), (low.1, omega (arith, low.1)))) bytes
    (varint_more OfTag 0 0 byte (walk_at (at + 1) at 0 Between)) first in
    omega (arith, past.0, stuck.start_is, less)

pub field_some : (field : MessageField) (bytes : List ℕ) → Spells field bytes → 1 ≤ length bytes
field_some field bytes h = omega (arith, whole_some h.tag h.is_tag.whole, length-append h.tag h.behind, ap length h.cut)

refused_not : (bytes : List ℕ) (at start number here : ℕ) → IsStuck here (walk_over (walk_at at start number Refused) bytes) → ⊥
refused_not bytes at start number here stuck = (subst (IsStuck here) (refused_walk bytes at start number) stuck).unended

-- where the walk is stuck no field stands
pub stuck_none : (bytes : List ℕ) (at start number : ℕ) → IsStuck at (walk_over (walk_at at start number Between) bytes) → NoFieldInFront bytes
stuck_none bytes at start number stuck field front rest spells cut =
    let over : walk_over (walk_at at start number Between) bytes ≡ walk_over (field_ended (walk_at (at + length front) at field.number Between)) rest =
    ap (walk_over (walk_at at start number Between)) cut ∙ walked_on (walk_at at start number Between) front rest
    ∙ ap (λ (walk : Walk). walk_over walk rest) (field_walk field front at start number Between spells) in
    let there : IsStuck at (walk_over (field_ended (walk_at (at + length front) at field.number Between)) rest) = subst (IsStuck at) over stuck in
    elim (cases_Bool (is_refused field.number)) [
      | inl is ↦
          refused_not rest (at + length front) at field.number at
          (subst (λ (walk : Walk). IsStuck at (walk_over walk rest)) (ended_refused (at + length front) at field.number Between is) there)
      | inr free ↦
          not_back rest (at + length front) at field.number at (omega (arith, field_some field front spells))
          (subst (λ (walk : Walk). IsStuck at (walk_over walk rest)) (ended_passed (at + length front) at field.number Between free) there)
    ]
