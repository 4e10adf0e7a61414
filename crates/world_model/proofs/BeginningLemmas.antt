-- A table as it is made is an account: nothing was called, nothing was begun, and nothing is noted.
use Rattle.std.proofs.Common.{◌≡◌, ℕ, ◌+◌, ◌<◌, [], length, refl, sym, subst, arith}
use Rattle.std.proofs.lemmas.Bool.{false≢true}
use Rattle.std.proofs.lemmas.List.{length-map}
use Rattle.std.proofs.lemmas.List.Elements.{All-nil}
use Rattle.trace_base.specs.declared.policy.WriterSpec.{WriterSpec}
use Rattle.trace_model.specs.Fragments.{drop_size}
use Rattle.trace_model.specs.Cut.{IsWellFormedPage, CutsInto}
use Rattle.chunk_plain.specs.Views.{WriterView, newcomer}
use Rattle.chunk_plain.specs.Histories.{completed_images}
use Rattle.chunk_plain.proofs.MadeLemmas.{all_same, first_owned}
use Rattle.world_model.specs.FirstBuffers.{payload_at}
use Rattle.world_model.specs.Accounts.{HasCut}
use Rattle.world_model.specs.AccountLaws.{TablesBeginAsAccounts}

pub nothing_cut : (size : ℕ) → CutsInto size [] []
nothing_cut size = record {
  full = All-nil (IsWellFormedPage size);
  flags = tt;
  last = λ e. absurd (false≢true e);
  chains = tt;
  patches = record { sent = tt; lasts = tt; awaits = tt; placed = refl; behind = tt };
  begins = refl;
}

newcomer_cut : (size place : ℕ) → size < drop_size → HasCut size place newcomer []
newcomer_cut size place small = record {
  unsent = [];
  cut = record { pages = []; images_are = refl; patches_are = refl; cut = nothing_cut size };
  ends = λ e. refl;
  possible = refl;
  small = small;
}

pub tables_begin_as_accounts : TablesBeginAsAccounts
tables_begin_as_accounts setup small =
    let many = length-map setup.writers (λ (_ : WriterSpec). newcomer) in
    record {
      owned = first_owned setup;
      writers = many;
      held = λ place. [];
      cuts = λ place inside. subst (λ (view : WriterView). HasCut (payload_at setup place) place view []) (sym (all_same newcomer setup.writers place))
          (newcomer_cut (payload_at setup place) place (small place (omega (arith, inside, many))));
      begun = λ place inside. subst (λ (view : WriterView). length view.begun ≡ length (completed_images view.begun) + 0)
          (sym (all_same newcomer setup.writers place)) refl;
      order = λ place inside none. refl;
    }
