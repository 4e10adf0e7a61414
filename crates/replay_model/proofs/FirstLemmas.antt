-- A table as it is made stands as it should.
use Rattle.std.proofs.Common.{◌≡◌, ℕ, zero, suc, ◌-◌, ◌<◌, false, List, [], ◌∷◌, length, get_or, refl, sym, ap, subst, arith}
use Rattle.std.proofs.lemmas.List.{length-map}
use Rattle.trace_base.specs.declared.policy.WriterSpec.{WriterSpec}
use Rattle.page_geometry.proofs.SizeLemmas.{payload_size_most}
use Rattle.trace_model.specs.Fragments.{drop_size}
use Rattle.chunk_plain.specs.declared.setup.ProducerSpec.{ProducerSpec}
use Rattle.chunk_plain.specs.Setup.{Setup, producer_of}
use Rattle.chunk_plain.specs.Laying.{sizes_of, setup_of}
use Rattle.chunk_plain.specs.Plain.{first_world}
use Rattle.chunk_plain.specs.Views.{Taken, none_taken, newcomer, taken_of}
use Rattle.chunk_plain.proofs.MadeLemmas.{all_same}
use Rattle.world_model.specs.FirstBuffers.{payload_at}
use Rattle.world_model.proofs.BeginningLemmas.{nothing_cut}
use Rattle.scenario_text.specs.Scenario.{Parts}
use Rattle.replay_model.specs.Does.{Wrote}
use Rattle.replay_model.specs.Played.{IsSetupOf}
use Rattle.replay_model.proofs.SortedLemmas.{at_stage}
use Rattle.replay_model.proofs.StandsLemmas.{Stands}

small_sizes : (specs : List ProducerSpec) (i : ℕ) → get_or (sizes_of specs) i 0 < drop_size
small_sizes [] i = omega arith
small_sizes (spec ∷ specs) zero = let most = payload_size_most spec.geometry in omega (arith, most)
small_sizes (spec ∷ specs) (suc i) = small_sizes specs i

pub small_payload : (scenario : Parts) (setup : Setup) → IsSetupOf scenario setup → (place : ℕ) → payload_at setup place < drop_size
small_payload scenario setup is place =
    subst (λ (s : Setup). payload_at s place < drop_size) (sym is.laid)
    (small_sizes is.specs (producer_of (setup_of is.specs scenario.writers) place - 1))

newcomer_wrote : (setup : Setup) (place : ℕ) → payload_at setup place < drop_size → Wrote setup place newcomer
newcomer_wrote setup place small = record {
  held = [];
  cut = record {
    unsent = [];
    cut = record { pages = []; images_are = refl; patches_are = refl; cut = nothing_cut (payload_at setup place) };
    ends = λ e. refl;
    possible = refl;
    small = small;
  };
  whole = tt;
  holds = refl;
  begun = refl;
  stands = λ image e. absurd (cc);
  only = λ one other others e. absurd (cc);
  claims = record { unclaimed = refl; unstamped = refl; own_asks = tt; own_chunks = tt; vain = λ some chunk is. absurd (omega (arith, some)); stalls = λ spec there is. refl };
}

pub first_stands : (setup : Setup) → ((place : ℕ) → payload_at setup place < drop_size) → Stands setup (first_world setup)
first_stands setup small =
    let nothing : (p : ℕ) → taken_of (first_world setup).service p ≡ none_taken = λ p. all_same none_taken setup.writers p in
    record {
      sorted = record {
        many = length-map setup.writers (λ (_ : WriterSpec). none_taken);
        level = λ p. subst (λ (t : Taken). length t.contents ≡ t.count) (sym (nothing p)) refl;
        known = tt;
        lead = λ p inside none. ap (λ (t : Taken). at_stage t.count false) (sym (nothing p));
      };
      wrote = λ p inside. subst (Wrote setup p) (sym (all_same newcomer setup.writers p)) (newcomer_wrote setup p (small p));
    }
