use Rattle.std.proofs.Common.{◌≡◌, ℕ, ◌+◌, ◌-◌, ◌<◌, ◌≤◌, ◌%◌, ◌^◌, suc, true, false, List, Bool, length, get_or, set, sym, ap, ◌∙◌, subst, arith}
use Rattle.std.proofs.lemmas.List.{length-set}
use Rattle.trace_model.specs.Sequences.{is_among}
use Rattle.trace_buffer.specs.Circle.{bit, with_bit, arrived_of}
use Rattle.trace_buffer.proofs.CircleLemmas.{arrived_step, arrived_least, arrived_ahead}
use Rattle.trace_buffer.proofs.circle.settle.Goals as goal

-- the base is among those that arrived
low : (bits first : List Bool) (base begin : ℕ) → arrived_of base bits ≡ arrived_of begin first → bit bits base ≡ true → ((i : ℕ) → is_among i (arrived_of begin first) ≡ true → i < 2 ^ 32) → base < 2 ^ 32
low bits first base begin same on small =
    small base (ap (is_among base) (sym same) ∙ arrived_ahead bits base base (omega arith) (omega arith) ∙ on)

step : (bits : List Bool) (base place : ℕ) → length bits ≡ 1024 → place ≡ base % 1024 → bit bits base ≡ true → arrived_of (base + 1) (set bits place false) ≡ arrived_of base bits
step bits base place len is on =
    let e : base + 1 ≡ suc base = omega arith in
    ap (λ k. arrived_of (base + 1) (set bits k false)) is
    ∙ ap (λ n. arrived_of n (with_bit bits base false)) e ∙ arrived_step bits base len on

-- the list of those that arrived, which doesn't change, is longer than the base
fewer : (bits first : List Bool) (base begin : ℕ) → arrived_of (base + 1) bits ≡ arrived_of begin first → length (arrived_of begin first) - (base + 1) < length (arrived_of begin first) - base
fewer bits first base begin same =
    let least : base + 1 ≤ length (arrived_of begin first) =
    subst (λ (ks : List ℕ). base + 1 ≤ length ks) same (arrived_least bits (base + 1)) in
    omega arith

pub loop-bits-preserved : goal.loop-bits-preserved
loop-bits-preserved c =
    let bits : List Bool = c.loop-bits.bits in
    let on : bit bits c.loop-bits.base ≡ true =
    ap (λ k. get_or bits k false) (sym c.place_of.ensures.is) ∙ c.loop-bits-test.true in
    record {
      len = length-set bits c.place_of-in-loop-bits.result false ∙ c.loop-bits.invariant.len;
      same = step bits c.loop-bits.base c.place_of-in-loop-bits.result c.loop-bits.invariant.len c.place_of-in-loop-bits.ensures.is on ∙ c.loop-bits.invariant.same;
      low = omega (arith, low bits c.args.bits.now c.loop-bits.base c.args.base c.loop-bits.invariant.same on c.requires.small);
    }

pub loop-bits-smaller : goal.loop-bits-smaller
loop-bits-smaller c =
    fewer (set c.loop-bits.bits c.place_of-in-loop-bits.result false) c.args.bits.now c.loop-bits.base c.args.base (loop-bits-preserved c).same
