-- The fragments that are read of a payload are those that it reads as.
use Rattle.std.proofs.Common.{◌≡◌, ◌∙◌, ℕ, zero, suc, ◌-◌, ◌<◌, true, List, [], ◌∷◌, ◌++◌, length, drop, Option, Some, None, refl, ap, subst, arith, length-append, inl, inr}
use Rattle.std.proofs.lemmas.List.Elements.{All-drop}
use Rattle.std.specs.Prelude.{All, ◌==◌}
use Rattle.std.proofs.lemmas.Bool.{eqb-true, false≢true}
use Rattle.std.proofs.Math.Seq.{drop-append_seam}
use Rattle.trace_model.specs.Images.{Fragment}
use Rattle.trace_model.specs.Fragments.{ReadsOne, ReadsFrom}
use Rattle.trace_model.specs.Reading.{size_of, fragment_of, Reading, Fragments, Unreadable, behind, fragment_end, read_on, reading_from, reading_of, fragments_of, is_readable}
use Rattle.trace_model.specs.ReadingLaws.{ReadingIsExact}
use Rattle.trace_model.proofs.ReadingLemmas.{StandsFirst, read_kept, read_dropped, read_sound}

-- the rest behind a fragment
pub rest_behind : (at : ℕ) (bytes : List ℕ) (fragment : Fragment) (rest : List ℕ) → ReadsOne at bytes fragment rest → drop (fragment_end fragment - at) bytes ≡ rest
rest_behind at bytes fragment rest reads =
    ap (λ (n : ℕ). drop n bytes) (omega (arith, reads.offset, length-append reads.size fragment.bytes))
    ∙ ap (drop (length (reads.size ++ fragment.bytes))) reads.cut
    ∙ drop-append_seam (reads.size ++ fragment.bytes) rest

complete_from : (fragments : List Fragment) (number at : ℕ) (bytes : List ℕ) → ReadsFrom at bytes fragments → reading_from (length fragments) number at bytes ≡ Fragments fragments
complete_from [] number at bytes h = absurd h
complete_from (fragment ∷ []) number at bytes (inl h) =
    ap (read_on number (λ f. Fragments [])) (read_dropped at bytes fragment h)
complete_from (fragment ∷ []) number at bytes (inr h) =
    ap (read_on number (λ f. Fragments [])) (read_kept true at bytes fragment h.0 h.1)
complete_from (fragment ∷ next ∷ others) number at bytes h =
    let left : ℕ = length (next ∷ others) in
    let go : Fragment → Reading = λ f. reading_from left (suc number) (fragment_end f) (drop (fragment_end f - at) bytes) in
    ap (read_on number go) (read_kept (left == 0) at bytes fragment h.0 h.1)
    ∙ ap (λ (xs : List ℕ). behind fragment (reading_from left (suc number) (fragment_end fragment) xs)) (rest_behind at bytes fragment h.0 h.1)
    ∙ ap (behind fragment) (complete_from (next ∷ others) (suc number) (fragment_end fragment) h.0 h.2)

unread : (number : ℕ) (fragments : List Fragment) → Unreadable number ≡ Fragments fragments → ⊥
unread number fragments e = false≢true (ap is_readable e)

abbrev IsSound : ℕ → ℕ → List ℕ → List Fragment → Type 0
IsSound left at bytes fragments = ReadsFrom at bytes fragments × (length fragments ≡ suc left)

-- a fragment that was read, and then these
first_read : (left at : ℕ) (bytes : List ℕ) (fragment : Fragment) (others : List Fragment) → StandsFirst (suc left == 0) at bytes fragment
    → IsSound left (fragment_end fragment) (drop (fragment_end fragment - at) bytes) others → IsSound (suc left) at bytes (fragment ∷ others)
first_read left at bytes fragment [] h k = absurd k.0
first_read left at bytes fragment (next ∷ others) (inl h) k = absurd (omega (arith, eqb-true (suc left) 0 h.0))
first_read left at bytes fragment (next ∷ others) (inr h) k = ((drop (fragment_end fragment - at) bytes, h, k.0), ap suc k.1)

sound_from : (left number at : ℕ) (bytes : List ℕ) (fragments : List Fragment) → All (λ byte. byte < 256) bytes → reading_from (suc left) number at bytes ≡ Fragments fragments → IsSound left at bytes fragments
sound_from zero number at bytes fragments below e = by_fragment (fragment_of true at bytes (size_of 4 bytes)) refl e
  where
    only : (fragment : Fragment) → StandsFirst true at bytes fragment → IsSound zero at bytes (fragment ∷ [])
    only fragment (inl h) = (inl h.1, refl)
    only fragment (inr h) = (inr (drop (fragment_end fragment - at) bytes, h), refl)

    by_fragment : (o : Option Fragment) → fragment_of true at bytes (size_of 4 bytes) ≡ o → read_on number (λ f. Fragments []) o ≡ Fragments fragments → IsSound zero at bytes fragments
    by_fragment None f g = absurd (unread number fragments g)
    by_fragment (Some fragment) f g =
        subst (λ (fs : List Fragment). IsSound zero at bytes fs) (ap fragments_of g) (only fragment (read_sound true at bytes fragment below f))
sound_from (suc left) number at bytes fragments below e = by_fragment (fragment_of (suc left == 0) at bytes (size_of 4 bytes)) refl e (sound_from left)
  where
    by_rest : (fragment : Fragment) → StandsFirst (suc left == 0) at bytes fragment → (r : Reading)
        → reading_from (suc left) (suc number) (fragment_end fragment) (drop (fragment_end fragment - at) bytes) ≡ r → behind fragment r ≡ Fragments fragments
        → ((n a : ℕ) (bs : List ℕ) (fs : List Fragment) → All (λ byte. byte < 256) bs → reading_from (suc left) n a bs ≡ Fragments fs → IsSound left a bs fs) → IsSound (suc left) at bytes fragments
    by_rest fragment h (Unreadable n) f g rest = absurd (unread n fragments g)
    by_rest fragment h (Fragments others) f g rest =
        subst (λ (fs : List Fragment). IsSound (suc left) at bytes fs) (ap fragments_of g)
        (first_read left at bytes fragment others h (rest (suc number) (fragment_end fragment) (drop (fragment_end fragment - at) bytes) others (All-drop (λ byte. byte < 256) (fragment_end fragment - at) bytes below) f))

    by_fragment : (o : Option Fragment) → fragment_of (suc left == 0) at bytes (size_of 4 bytes) ≡ o
        → read_on number (λ f. reading_from (suc left) (suc number) (fragment_end f) (drop (fragment_end f - at) bytes)) o ≡ Fragments fragments
        → ((n a : ℕ) (bs : List ℕ) (fs : List Fragment) → All (λ byte. byte < 256) bs → reading_from (suc left) n a bs ≡ Fragments fs → IsSound left a bs fs) → IsSound (suc left) at bytes fragments
    by_fragment None f g rest = absurd (unread number fragments g)
    by_fragment (Some fragment) f g rest =
        by_rest fragment (read_sound (suc left == 0) at bytes fragment below f)
        (reading_from (suc left) (suc number) (fragment_end fragment) (drop (fragment_end fragment - at) bytes)) refl g rest

complete_of : (payload : List ℕ) (fragments : List Fragment) → ReadsFrom 0 payload fragments → reading_of (length fragments) payload ≡ Fragments fragments
complete_of payload [] h = absurd h
complete_of payload (fragment ∷ others) h = complete_from (fragment ∷ others) 0 0 payload h

sound_of : (count : ℕ) (payload : List ℕ) (fragments : List Fragment) → All (λ byte. byte < 256) payload → reading_of count payload ≡ Fragments fragments
    → ReadsFrom 0 payload fragments × (length fragments ≡ count)
sound_of zero payload fragments below e = absurd (unread 0 fragments e)
sound_of (suc more) payload fragments below e = sound_from more 0 0 payload fragments below e

pub reading_is_exact : ReadingIsExact
reading_is_exact = record { sound = sound_of; complete = complete_of }
