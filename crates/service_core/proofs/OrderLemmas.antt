-- Notes that are in order stay so while the view grows, and go on at the end.
use Rattle.std.proofs.Common.{◌≡◌, ◌≢◌, ℕ, suc, ◌-◌, Bool, true, false, List, [], ◌∷◌, ◌++◌, refl, sym, subst}
use Rattle.std.specs.Prelude.{◌==◌, slice_get, Some}
use Rattle.std.proofs.lemmas.Bool.{eq-eqb, ne_eqb}
use Rattle.trace_base.proofs.Choices.{match_map, match_true, match_false}
use Rattle.trace_model.specs.Images.{Patch}
use Rattle.chunk_plain.specs.Views.{Content, Noted, Arrive, Partial, Patched, Closed, Read, Commit, Committed, ServiceView}
use Rattle.chunk_plain.specs.Histories.{content_at}
use Rattle.world_model.specs.Accounts.{CommitsElsewhere}
use Rattle.service_core.specs.Agreement.{AreKnownNotes}
use Rattle.service_core.specs.Taking.{patched_where, takings}
use Rattle.service_core.specs.Order.{Stage, IsFoundPart, LeadTo}
use Rattle.service_core.proofs.HistoryLemmas.{Grows}

-- one list of notes behind another
pub lead_both : (view : ServiceView) (q : ℕ) (first mid last : Stage) (xs ys : List Noted) → LeadTo view q first xs mid → LeadTo view q mid ys last → LeadTo view q first (xs ++ ys) last
lead_both view q first mid last [] ys one two = subst (λ (s : Stage). LeadTo view q s ys last) (sym one) two
lead_both view q first mid last (Arrive other position ∷ xs) ys one two = (
  one.0,
  match_map (other == q) _ _ _ _ one.1
      (λ h. (h.0, h.1, h.2, h.3, lead_both view q (record { come = suc first.come; closed = first.closed; due = h.2.patches }) mid last xs ys h.4 two))
      (λ h. lead_both view q first mid last xs ys h two),
)
lead_both view q first mid last (Partial other position count ∷ xs) ys one two = (
  one.0,
  match_map (other == q) _ _ _ _ one.1
      (λ h. (h.0, h.1, h.2, lead_both view q first mid last xs ys h.3 two))
      (λ h. lead_both view q first mid last xs ys h two),
)
lead_both view q first mid last (Patched other position ∷ xs) ys one two =
    match_map (other == q) _ _ _ _ one
    (λ h. (h.0, h.1, h.2, lead_both view q (record first { due = [] }) mid last xs ys h.3 two))
    (λ h. (h.0, lead_both view q first mid last xs ys h.1 two))
lead_both view q first mid last (Closed other ∷ xs) ys one two = (
  one.0,
  match_map (other == q) _ _ _ _ one.1
      (λ h. (h.0, lead_both view q (record first { closed = true }) mid last xs ys h.1 two))
      (λ h. lead_both view q first mid last xs ys h two),
)
lead_both view q first mid last (Read other limit ∷ xs) ys one two = (one.0, lead_both view q first mid last xs ys one.1 two)
lead_both view q first mid last (Commit at ∷ xs) ys one two = (one.0, one.1, lead_both view q first mid last xs ys one.2 two)

elsewhere_grows : (old new : ServiceView) (q at : ℕ) → Grows old new → ((committed : Committed) × (slice_get old.commits at ≡ Some committed)) → CommitsElsewhere old q at → CommitsElsewhere new q at
elsewhere_grows old new q at grows known elsewhere committed is =
    let same : known.0 ≡ committed = let there = grows.commits at known.0 known.1 in cc (there, is) in
    subst (λ (c : Committed). (c.image.sequence == q) ≡ false) same (elsewhere known.0 known.1)

-- the view grows
pub lead_grows : (old new : ServiceView) (q : ℕ) (first last : Stage) (xs : List Noted) → Grows old new → AreKnownNotes old xs → LeadTo old q first xs last → LeadTo new q first xs last
lead_grows old new q first last [] grows known lead = lead
lead_grows old new q first last (Arrive other position ∷ xs) grows known lead = (
  lead.0,
  match_map (other == q) _ _ _ _ lead.1
      (λ h. (h.0, h.1, h.2, grows.contents q position h.2 h.3, lead_grows old new q (record { come = suc first.come; closed = first.closed; due = h.2.patches }) last xs grows known.1 h.4))
      (λ h. lead_grows old new q first last xs grows known.1 h),
)
lead_grows old new q first last (Partial other position count ∷ xs) grows known lead = (
  lead.0,
  match_map (other == q) _ _ _ _ lead.1
      (λ h. (h.0, h.1, record { found = h.2.found; looked = grows.looks (q - 2) position count h.2.found h.2.looked; some = h.2.some }, lead_grows old new q first last xs grows known.1 h.3))
      (λ h. lead_grows old new q first last xs grows known.1 h),
)
lead_grows old new q first last (Patched other position ∷ xs) grows known lead =
    match_map (other == q) _ _ _ _ lead
    (λ h. (h.0, grows.contents q position h.0 h.1, h.2, lead_grows old new q (record first { due = [] }) last xs grows known.1 h.3))
    (λ h. (h.0, lead_grows old new q first last xs grows known.1 h.1))
lead_grows old new q first last (Closed other ∷ xs) grows known lead = (
  lead.0,
  match_map (other == q) _ _ _ _ lead.1
      (λ h. (h.0, lead_grows old new q (record first { closed = true }) last xs grows known.1 h.1))
      (λ h. lead_grows old new q first last xs grows known.1 h),
)
lead_grows old new q first last (Read other limit ∷ xs) grows known lead = (lead.0, lead_grows old new q first last xs grows known.1 lead.1)
lead_grows old new q first last (Commit at ∷ xs) grows known lead =
    (lead.0, elsewhere_grows old new q at grows known.0 lead.1, lead_grows old new q first last xs grows known.1 lead.2)

-- one chunk of the sequence was taken
pub lead_taken : (view : ServiceView) (q position : ℕ) (content : Content) → content_at view q position ≡ Some content
    → LeadTo view q (record { come = position; closed = false; due = [] }) (takings q position (content ∷ [])) (record { come = suc position; closed = false; due = [] })
lead_taken view q position content there = (refl, match_true (q == q) _ _ (eq-eqb q q refl) (refl, refl, content, there, behind content.patches refl))
  where
    behind : (patches : List Patch) → content.patches ≡ patches
        → LeadTo view q (record { come = suc position; closed = false; due = patches }) (patched_where patches q position ++ []) (record { come = suc position; closed = false; due = [] })
    behind [] is = refl
    behind (patch ∷ patches) is = match_true (q == q) _ _ (eq-eqb q q refl) (content, there, is, refl)

-- and one of another sequence
pub lead_other : (view : ServiceView) (q other position come : ℕ) (closed : Bool) (content : Content) → other ≢ q
    → LeadTo view q (record { come = come; closed = closed; due = [] }) (takings other position (content ∷ [])) (record { come = come; closed = closed; due = [] })
lead_other view q other position come closed content differs = (refl, match_false (other == q) _ _ (ne_eqb other q differs) (behind content.patches))
  where
    behind : (patches : List Patch) → LeadTo view q (record { come = come; closed = closed; due = [] }) (patched_where patches other position ++ []) (record { come = come; closed = closed; due = [] })
    behind [] = refl
    behind (patch ∷ patches) = match_false (other == q) _ _ (ne_eqb other q differs) (refl, refl)

-- the sequence is closed, or another one
pub lead_closed : (view : ServiceView) (q come : ℕ) → LeadTo view q (record { come = come; closed = false; due = [] }) (Closed q ∷ []) (record { come = come; closed = true; due = [] })
lead_closed view q come = (refl, match_true (q == q) _ _ (eq-eqb q q refl) (refl, refl))

pub lead_closed_other : (view : ServiceView) (q other come : ℕ) (closed : Bool) → other ≢ q
    → LeadTo view q (record { come = come; closed = closed; due = [] }) (Closed other ∷ []) (record { come = come; closed = closed; due = [] })
lead_closed_other view q other come closed differs = (refl, match_false (other == q) _ _ (ne_eqb other q differs) refl)

-- a part of the sequence's next chunk, or of another sequence's
pub lead_part : (view : ServiceView) (q position count : ℕ) → IsFoundPart view q position count
    → LeadTo view q (record { come = position; closed = false; due = [] }) (Partial q position count ∷ []) (record { come = position; closed = false; due = [] })
lead_part view q position count found = (refl, match_true (q == q) _ _ (eq-eqb q q refl) (refl, refl, found, refl))

pub lead_part_other : (view : ServiceView) (q other position count come : ℕ) (closed : Bool) → other ≢ q
    → LeadTo view q (record { come = come; closed = closed; due = [] }) (Partial other position count ∷ []) (record { come = come; closed = closed; due = [] })
lead_part_other view q other position count come closed differs = (refl, match_false (other == q) _ _ (ne_eqb other q differs) refl)
