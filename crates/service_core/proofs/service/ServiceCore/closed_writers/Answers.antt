use Rattle.std.proofs.Common.{◌≡◌, ◌+◌, ◌∙◌, ◌<◌, ℕ, Bool, false, List, length, set, get_or, sym, ap, arith, inl, inr, length-set}
use Rattle.std.proofs.lemmas.Bool.{cases_eq}
use Rattle.std.proofs.lemmas.List.{get_or-set_other}
use Rattle.std.proofs.lemmas.Grind.{get_or-set_at}
use Rattle.trace_base.specs.declared.policy.WriterSpec.{WriterSpec}
use Rattle.trace_buffer.specs.declared.answers.SequenceState.{SequenceState}
use Rattle.service_core.specs.Agreement.{is_closed_in}
use Rattle.service_core.proofs.service.ServiceCore.closed_writers.Goals as goal

-- one flag more is known
one_more : (flags : List Bool) (at : ℕ) (flag : Bool) (is : ℕ → Bool) → at < length flags → flag ≡ is at → ((place : ℕ) → place < at → get_or flags place false ≡ is place)
    → (place : ℕ) → place < at + 1 → get_or (set flags at flag) place false ≡ is place
one_more flags at flag is inside here before place low =
    elim (cases_eq place at) as (λ _. get_or (set flags at flag) place false ≡ is place) [
      | inl same ↦ get_or-set_at flags at place flag false same inside ∙ here ∙ ap is (sym same)
      | inr differs ↦ get_or-set_other flags at place flag false differs ∙ before place (omega (arith, low, differs))
    ]

pub loop-place-preserved : goal.loop-place-preserved
loop-place-preserved g c =
    let writers = ap (λ (ws : List WriterSpec). length ws) c.requires.agrees.writers in
    let few = c.requires.agrees.routed.few in
    let end = c.len-place-end.ensures in
    let joined = c.args.self.now.writers.ok.0 in
    let long = c.loop-place.invariant.long in
    let inside : c.loop-place.place < length c.loop-place.closed = omega (arith, writers, few, end, joined, long) in
    record {
      long = length-set c.loop-place.closed c.loop-place.place c.state_at.result.closed ∙ long;
      done = one_more c.loop-place.closed c.loop-place.place c.state_at.result.closed (is_closed_in c.args.self.now) inside
          (ap (λ (s : SequenceState). s.closed) c.state_at.ensures) c.loop-place.invariant.done;
    }
