-- Looks that found a chunk of the same writer and position found the same of it: the chunk has what each found.
use Rattle.std.proofs.Common.{◌≡◌, ◌∙◌, ℕ, Some, length, sym, arith}
use Rattle.std.proofs.Math.Logic.{∥∥₁_elim}
use Rattle.std.proofs.Math.Nat.{ℕ_set}
use Rattle.std.proofs.lemmas.Grind.{same_number_lists}
use mathlib.Core.List.{is_set as list_set}
use Rattle.chunk_plain.specs.Payload.{byte_at, byte_in}
use Rattle.chunk_plain.specs.Views.{At, BegunChunk, Held, Completed, Found, Look, ServiceView}
use Rattle.chunk_plain.specs.Drafts.{IsFound, BeginsAs, StillHas}
use Rattle.chunk_plain.specs.Words.{HasBoth, FoundAlike, LooksAgree}
use Rattle.chunk_plain.proofs.Sealing.{reads_same, ends_grow}

-- equally many fragments that the same bytes begin with
same_front : (byte : ℕ → ℕ) (one other : Found) → IsFound one → IsFound other → length one.ends ≡ length other.ends → BeginsAs byte one → BeginsAs byte other → one.sealed ≡ other.sealed
same_front byte one other is also many here there =
    let whole = is.whole in
    let whole_too = also.whole in
    let reads = reads_same (byte_in one.sealed) byte one.ends (λ j low. sym (here j (omega (arith, low, whole)))) is.sealed.reads in
    let reads_too = reads_same (byte_in other.sealed) byte other.ends (λ j low. sym (there j (omega (arith, low, whole_too)))) also.sealed.reads in
    let up = ends_grow byte one.ends other.ends reads reads_too (omega (arith, many)) in
    let down = ends_grow byte other.ends one.ends reads_too reads (omega (arith, many)) in
    let size : length one.sealed ≡ length other.sealed = omega (arith, whole, whole_too, up, down) in
    same_number_lists one.sealed other.sealed size (λ j low. sym (here j low) ∙ there j (omega (arith, low, size)))

alike : (about next : ℕ) (entry : BegunChunk) (one other : Found) → IsFound one → IsFound other → length one.ends ≡ length other.ends → StillHas about one entry → StillHas next other entry
    → FoundAlike one other
alike about next (Held chunk draft) one other is also many has had =
    let count = is.sealed.count in
    let count_too = also.sealed.count in
    record {
      sealed = same_front (byte_at draft.words) one other is also many has.3 had.3;
      front = λ some. sym (has.1.front_stays (λ e. omega (arith, e, count, some))) ∙ had.1.front_stays (λ e. omega (arith, e, count_too, many, some));
    }
alike about next (Completed chunk content) one other is also many has had =
    let count = is.sealed.count in
    let count_too = also.sealed.count in
    record {
      sealed = same_front (byte_in content.image.payload) one other is also many has.3 had.3;
      front = λ some. sym (has.1.front_stays (λ e. omega (arith, e, count, some))) ∙ had.1.front_stays (λ e. omega (arith, e, count_too, many, some));
    }

pub found_alike : (view : ServiceView) → LooksAgree view → (n m : ℕ) (look later : Look) (found other : Found) → At view.looks n look → look.found ≡ Some found → At view.looks m later
    → later.found ≡ Some other → found.place ≡ other.place → found.position ≡ other.position → length found.ends ≡ length other.ends → FoundAlike found other
found_alike view agree n m look later found other at is then was place position many =
    let both = agree n m look later found other at is then was place position in
    let same : HasBoth look.chunk found later.chunk other → FoundAlike found other = λ h. alike look.chunk later.chunk h.entry found other h.found_is h.other_is many h.has h.had in
    record {
      sealed = ∥∥₁_elim both (hlevel (ℕ_set, list_set)) (λ h. (same h).sealed);
      front = λ some. ∥∥₁_elim both (ℕ_set _ _) (λ h. (same h).front some);
    }
