-- What follows for a view of the service from its being part of an owned world.
use Rattle.std.proofs.Common.{◌≡◌, ℕ, subst, sym, ◌∙◌}
use Rattle.std.proofs.Math.Logic.{∥∥₁_map, ∥∥₁_elim}
use Rattle.std.proofs.Math.Nat.{ℕ_set}
use Rattle.std.specs.Coded.{le_prop}
use mathlib.Core.Option.{some-injective}
use Rattle.chunk_plain.specs.Views.{At, BegunChunk, Completed, ServiceView, taken_of}
use Rattle.chunk_plain.specs.World.{World, writer}
use Rattle.chunk_plain.specs.Owned.{IsOwned}
use Rattle.chunk_plain.specs.Drafts.{StillHas}
use Rattle.chunk_plain.specs.Words.{LearntAsFound, LooksAgree, HasBoth}
use Rattle.chunk_words.specs.Moves.{IsSeen}

-- what was found of a chunk while it was written is in its content
pub learnt_as_found : (view : ServiceView) → IsSeen view → LearntAsFound view
learnt_as_found view seen n look found content at is has =
    let fact : (world : World) × IsOwned world × (world.service ≡ view)
    → (chunk : ℕ) × StillHas look.chunk found (Completed chunk content) = λ w.
    let there = (w.1.looks n look found (subst (λ (v : ServiceView). At v.looks n look) (sym w.2) at) is).1 in
    let done = (w.1.counts found.place).learnt found.position content (subst (λ (v : ServiceView). At (taken_of v found.place).contents found.position content) (sym w.2) has) in
    (done.0, subst (StillHas look.chunk found) (some-injective there.entry (Completed done.0 content) (sym there.at ∙ done.1)) there.has) in (
      record {
        count_grows = ∥∥₁_elim seen (Prim.hlevel le_prop) (λ w. (fact w).1.1.count_grows);
        front_stays = λ some. ∥∥₁_elim seen (ℕ_set _ _) (λ w. (fact w).1.1.front_stays some);
      },
      ∥∥₁_elim seen (Prim.hlevel le_prop) (λ w. (fact w).1.2),
      λ j below. ∥∥₁_elim seen (ℕ_set _ _) (λ w. (fact w).1.3 j below),
    )

-- looks that found a chunk of the same writer and position found what one begun chunk has
pub looks_agree : (view : ServiceView) → IsSeen view → LooksAgree view
looks_agree view seen n m look later found other at is then was place position =
    let both : (world : World) × IsOwned world × (world.service ≡ view) → HasBoth look.chunk found later.chunk other = λ w.
    let here = w.1.looks n look found (subst (λ (v : ServiceView). At v.looks n look) (sym w.2) at) is in
    let there = w.1.looks m later other (subst (λ (v : ServiceView). At v.looks m later) (sym w.2) then) was in
    let moved = subst (λ (i : ℕ). At (writer w.0 found.place).begun i there.1.entry) (sym position)
    (subst (λ (p : ℕ). At (writer w.0 p).begun other.position there.1.entry) (sym place) there.1.at) in
    let same = some-injective here.1.entry there.1.entry (sym here.1.at ∙ moved) in
    record {
      entry = here.1.entry;
      found_is = here.0;
      has = here.1.has;
      other_is = there.0;
      had = subst (λ (e : BegunChunk). StillHas later.chunk other e) (sym same) there.1.has;
    } in
    ∥∥₁_map seen both
