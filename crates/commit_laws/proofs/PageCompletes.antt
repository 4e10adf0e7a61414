-- A page that comes is completed by the patches that are still to come, whatever their order.
use Rattle.std.proofs.Common.{◌≡◌, ◌∙◌, ℕ, ◌+◌, ◌-◌, Bool, true, false, not, ◌&&◌, ◌||◌, List, [], ◌∷◌, ◌++◌, length, refl, sym, ap, subst, arith}
use Rattle.std.specs.Prelude.{cond, ◌==◌, nat_le, MatchBool}
use Rattle.std.specs.List.{list_any}
use Rattle.std.proofs.lemmas.Bool.{false≢true, eqb-true}
use Rattle.trace_model.specs.Fading.{ShowFragments}
use Rattle.trace_model.specs.Images.{Fragment, Patch, holds_patch, last_holds, patched_fragment, patched_last}
use Rattle.trace_model.specs.Sent.{chunks_of}
use Rattle.trace_model.specs.Sequences.{is_among}
use Rattle.trace_model.specs.Written.{settled_fragments}
use Rattle.trace_model.proofs.CursorLemmas.{Each, each-then}
use Rattle.delivery_laws.specs.Histories.{Completes}
use Rattle.commit_laws.specs.Commits.{LastsComeLast}
use Rattle.commit_laws.proofs.LastFragments.{held_lies, holds_end, patched_end, settled_end, with_text}
use Rattle.commit_laws.proofs.PatchOrder.{AllLieIn, AllStandIn, LiesIn, gives, put_all, put_long, same_put}

pub shows_itself : (awaits : Bool) (fs : List Fragment) → ShowFragments false awaits fs fs
shows_itself awaits [] = tt
shows_itself awaits (f ∷ fs) = (refl, (λ e. refl), shows_itself awaits fs)

module _ (chunk_id : ℕ) (front : List Fragment) where
  -- each patch for the chunk lies in its last fragment
  abbrev pub AllHeld : Fragment → List Patch → Type 0
  AllHeld last patches = Each (λ (patch : Patch). (patch.chunk_id == chunk_id) ≡ true → (holds_patch last patch ≡ true) × (length patch.bytes ≡ 4)) patches

  held_patched : (last : Fragment) (patch : Patch) → holds_patch last patch ≡ true → length patch.bytes ≡ 4 → (patches : List Patch) → AllHeld last patches
      → AllHeld (patched_fragment patch last) patches
  held_patched last patch holds four patches held =
      each-then (λ (other : Patch). (other.chunk_id == chunk_id) ≡ true → (holds_patch last other ≡ true) × (length other.bytes ≡ 4))
      (λ (other : Patch). (other.chunk_id == chunk_id) ≡ true → (holds_patch (patched_fragment patch last) other ≡ true) × (length other.bytes ≡ 4))
      (λ other h e. (
        ap (λ (n : ℕ). nat_le last.offset other.offset && nat_le (other.offset + 4) (last.offset + n)) long ∙ (h e).0,
        (h e).1,
      )) patches held
    where
      long : length (patched_fragment patch last).bytes ≡ length last.bytes
      long =
          let lies = held_lies chunk_id last patch holds four in
          let least = lies.least in
          let most = lies.most in
          put_long last.bytes (patch.offset - last.offset) patch.bytes (omega (arith, least, most, four))

  -- patches of which the last ones come last, put in in their order
  completes_settled : (patches : List Patch) (last : Fragment) (awaits : Bool) → LastsComeLast patches → AllHeld last patches → (is_among chunk_id (chunks_of patches) ≡ true → awaits ≡ true)
      → Completes patches chunk_id awaits (front ++ last ∷ []) (settled_fragments patches chunk_id (front ++ last ∷ []))
  completes_settled [] last awaits lasts held a = shows_itself awaits (front ++ last ∷ [])
  completes_settled (patch ∷ patches) last awaits lasts held a =
      by_id (patch.chunk_id == chunk_id) refl a
      (λ h four. completes_settled patches (patched_fragment patch last) (not patch.last) lasts.1 (held_patched last patch h four patches held.1))
      (completes_settled patches last awaits lasts.1 held.1)
    where
      more_come : (b : Bool) → (b ≡ true → is_among patch.chunk_id (chunks_of patches) ≡ false) → is_among patch.chunk_id (chunks_of patches) ≡ true → not b ≡ true
      more_come true h k = absurd (false≢true (sym (h refl) ∙ k))
      more_come false h k = refl

      by_id : (b : Bool) → (patch.chunk_id == chunk_id) ≡ b → ((b || is_among chunk_id (chunks_of patches)) ≡ true → awaits ≡ true)
          → (holds_patch last patch ≡ true → length patch.bytes ≡ 4 → (is_among chunk_id (chunks_of patches) ≡ true → not patch.last ≡ true)
          → Completes patches chunk_id (not patch.last) (front ++ patched_fragment patch last ∷ []) (settled_fragments patches chunk_id (front ++ patched_fragment patch last ∷ [])))
          → ((is_among chunk_id (chunks_of patches) ≡ true → awaits ≡ true) → Completes patches chunk_id awaits (front ++ last ∷ []) (settled_fragments patches chunk_id (front ++ last ∷ [])))
          → MatchBool b ((awaits ≡ true) × (last_holds (front ++ last ∷ []) patch ≡ true)
          × Completes patches chunk_id (not patch.last) (patched_last patch (front ++ last ∷ [])) (settled_fragments patches chunk_id (cond b (patched_last patch (front ++ last ∷ [])) (front ++ last ∷ []))))
          (Completes patches chunk_id awaits (front ++ last ∷ []) (settled_fragments patches chunk_id (cond b (patched_last patch (front ++ last ∷ [])) (front ++ last ∷ []))))
      by_id true e a here other =
          let is = held.0 e in (
            a refl,
            holds_end front last patch ∙ is.0,
            subst (λ (fs : List Fragment). Completes patches chunk_id (not patch.last) fs (settled_fragments patches chunk_id fs)) (sym (patched_end front last patch))
                (here is.0 is.1 (λ later. more_come patch.last lasts.0 (ap (λ (n : ℕ). is_among n (chunks_of patches)) (eqb-true patch.chunk_id chunk_id e) ∙ later))),
          )
      by_id false e a here other = other a

  pub held_all_lie : (last : Fragment) (patches : List Patch) → AllHeld last patches → AllLieIn chunk_id last.offset (length last.bytes) patches
  held_all_lie last patches held =
      each-then (λ (patch : Patch). (patch.chunk_id == chunk_id) ≡ true → (holds_patch last patch ≡ true) × (length patch.bytes ≡ 4))
      (λ (patch : Patch). (patch.chunk_id == chunk_id) ≡ true → LiesIn chunk_id last.offset (length last.bytes) patch)
      (λ patch h e. held_lies chunk_id last patch (h e).0 (h e).1) patches held

  -- Others that give the same, and stand in what these lead to, complete the chunk as these do.
  pub completes_any : (all later : List Patch) (last : Fragment) (awaits : Bool) → LastsComeLast later → AllHeld last later → AllHeld last all
      → (is_among chunk_id (chunks_of later) ≡ true → awaits ≡ true)
      → AllStandIn chunk_id last.offset (put_all chunk_id last.offset all last.bytes) later
      → ((x : ℕ) → list_any (gives chunk_id last.offset x) all ≡ true → list_any (gives chunk_id last.offset x) later ≡ true)
      → Completes later chunk_id awaits (front ++ last ∷ []) (settled_fragments all chunk_id (front ++ last ∷ []))
  completes_any all later last awaits lasts held all_held a stand covers =
      subst (Completes later chunk_id awaits (front ++ last ∷ []))
      (settled_end later chunk_id front last
      ∙ ap (λ (bytes : List ℕ). front ++ with_text last bytes ∷ []) (same_put chunk_id last.offset all later last.bytes (held_all_lie last all all_held) stand covers)
      ∙ sym (settled_end all chunk_id front last))
      (completes_settled later last awaits lasts held a)
