-- The order of what was noted on one sequence, in the form that goes on at the end.
use Rattle.std.specs.Prelude.{◌≡◌, ℕ, suc, ◌-◌, ◌<◌, ◌==◌, Bool, true, false, List, [], ◌∷◌, length, Some, MatchBool}
use Rattle.trace_base.specs.declared.limits.TheConstants.{FIRST_SEQUENCE}
use Rattle.trace_model.specs.Images.{Patch}
use Rattle.chunk_plain.specs.Views.{Content, Found, Noted, Arrive, Partial, Patched, Closed, Read, Commit, ServiceView}
use Rattle.chunk_plain.specs.Histories.{content_at, found_among}
use Rattle.world_model.specs.Accounts.{CommitsElsewhere}

-- how far the notes on a sequence have come: so many of its chunks came, it is closed or not, and these patches are due next
pub record Stage : Type 0 where
  pub come : ℕ
  pub closed : Bool
  pub due : List Patch

-- nothing of a sequence has come
abbrev pub beginning : Stage
beginning = record { come = 0; closed = false; due = [] }

-- a part of the chunk stands on a look that found so many fragments of it
pub record IsFoundPart (view : ServiceView) (sequence position count : ℕ) : Type 0 where
  pub found : Found
  pub looked : found_among (sequence - FIRST_SEQUENCE) position count view.looks ≡ Some found
  pub some : 0 < length found.ends

-- The notes lead from one stage to another, in the order that is asked of an account: the chunks in the order of their positions, each once
-- and with its content, its patches right behind it, parts before it, and nothing behind the close or by a commit.
abbrev pub LeadTo : ServiceView → ℕ → Stage → List Noted → Stage → Type 0
LeadTo view sequence stage [] last = stage ≡ last
LeadTo view sequence stage (Arrive other position ∷ notes) last =
    (stage.due ≡ [])
    × MatchBool (other == sequence)
    ((stage.closed ≡ false) × (position ≡ stage.come) × (content : Content) × (content_at view sequence position ≡ Some content)
    × LeadTo view sequence (record { come = suc stage.come; closed = stage.closed; due = content.patches }) notes last)
    (LeadTo view sequence stage notes last)
LeadTo view sequence stage (Partial other position count ∷ notes) last =
    (stage.due ≡ [])
    × MatchBool (other == sequence)
    ((stage.closed ≡ false) × (position ≡ stage.come) × IsFoundPart view sequence position count × LeadTo view sequence stage notes last)
    (LeadTo view sequence stage notes last)
LeadTo view sequence stage (Patched other position ∷ notes) last =
    MatchBool (other == sequence)
    ((content : Content) × (content_at view sequence position ≡ Some content) × (content.patches ≡ stage.due)
    × LeadTo view sequence (record stage { due = [] }) notes last)
    ((stage.due ≡ []) × LeadTo view sequence stage notes last)
LeadTo view sequence stage (Closed other ∷ notes) last =
    (stage.due ≡ [])
    × MatchBool (other == sequence)
    ((stage.closed ≡ false) × LeadTo view sequence (record stage { closed = true }) notes last)
    (LeadTo view sequence stage notes last)
LeadTo view sequence stage (Read other limit ∷ notes) last = (stage.due ≡ []) × LeadTo view sequence stage notes last
LeadTo view sequence stage (Commit place ∷ notes) last = (stage.due ≡ []) × CommitsElsewhere view sequence place × LeadTo view sequence stage notes last
