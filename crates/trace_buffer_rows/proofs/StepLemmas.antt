-- From one step of a table to the next.
use Rattle.std.proofs.Common.{◌≡◌, ℕ, sym, subst}
use Rattle.page_geometry.specs.Sizes.{record_size}
use Rattle.trace_model.specs.Buffers.{Buffer}
use Rattle.trace_buffer.specs.Ready.{Takes, StayReady}
use Rattle.trace_buffer_rows.specs.Both.{HasBoth}

pub goes_on : (old v new : Buffer) (payload q n : ℕ) → new ≡ v → n ≡ q → StayReady old v → HasBoth old payload q → HasBoth new payload n
goes_on old v new payload q n is same stays both =
    subst (λ (b : Buffer). HasBoth b payload n) (sym is)
    (subst (HasBoth v payload) (sym same)
    (record {
      first = stays (record_size payload) 2 both.first;
      second = stays (record_size payload) 3 both.second;
      steps = stays (record_size payload) q both.steps;
    }))

pub turns_to : (old new : Buffer) (payload here q n : ℕ) → new ≡ old → n ≡ q → Takes old payload q → HasBoth old payload here → HasBoth new payload n
turns_to old new payload here q n is same takes both =
    subst (λ (b : Buffer). HasBoth b payload n) (sym is)
    (subst (HasBoth old payload) (sym same) (record { first = both.first; second = both.second; steps = takes }))
