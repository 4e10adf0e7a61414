-- Reads at the end lead the notes on a sequence nowhere else.
use Rattle.std.proofs.Common.{◌≡◌, ℕ, suc, true, List, [], ◌∷◌, ◌++◌}
use Rattle.std.specs.Prelude.{◌==◌}
use Rattle.std.specs.List.{flat_map}
use Rattle.trace_base.proofs.Choices.{match_map}
use Rattle.trace_model.specs.History as model
use Rattle.trace_model.specs.History.{Event}
use Rattle.chunk_plain.specs.Views.{Noted, Arrive, Partial, Patched, Closed, Read, Commit, ServiceView}
use Rattle.service_core.specs.Order.{Stage, LeadTo}
use Rattle.service_core.specs.Reading.{noted_read}

-- reads lead nowhere else
reads_stay : (service : ServiceView) (q : ℕ) (reads : List Event) (stage last : Stage) → LeadTo service q stage (flat_map noted_read reads) last → stage ≡ last
reads_stay service q [] stage last lead = lead
reads_stay service q (model.Read other limit ∷ reads) stage last lead = reads_stay service q reads stage last lead.1
reads_stay service q (model.Arrives sequence chunk_id chunk ∷ reads) stage last lead = reads_stay service q reads stage last lead
reads_stay service q (model.ArrivesInPart sequence chunk_id chunk ∷ reads) stage last lead = reads_stay service q reads stage last lead
reads_stay service q (model.Patched sequence patches ∷ reads) stage last lead = reads_stay service q reads stage last lead
reads_stay service q (model.Committed image patches ∷ reads) stage last lead = reads_stay service q reads stage last lead
reads_stay service q (model.Closed sequence ∷ reads) stage last lead = reads_stay service q reads stage last lead

-- so what was noted before them leads to where all leads to
pub before_reads : (service : ServiceView) (q : ℕ) (reads : List Event) (notes : List Noted) (stage last : Stage) → LeadTo service q stage (notes ++ flat_map noted_read reads) last
    → LeadTo service q stage notes last
before_reads service q reads [] stage last lead = reads_stay service q reads stage last lead
before_reads service q reads (Arrive other id ∷ notes) stage last lead = (
  lead.0,
  match_map (other == q) _ _ _ _ lead.1
      (λ h. (h.0, h.1, h.2, h.3, before_reads service q reads notes (record { come = suc stage.come; closed = stage.closed; due = h.2.patches }) last h.4))
      (λ h. before_reads service q reads notes stage last h),
)
before_reads service q reads (Partial other id count ∷ notes) stage last lead = (
  lead.0,
  match_map (other == q) _ _ _ _ lead.1 (λ h. (h.0, h.1, h.2, before_reads service q reads notes stage last h.3)) (λ h. before_reads service q reads notes stage last h),
)
before_reads service q reads (Patched other id ∷ notes) stage last lead =
    match_map (other == q) _ _ _ _ lead
    (λ h. (h.0, h.1, h.2, before_reads service q reads notes (record stage { due = [] }) last h.3)) (λ h. (h.0, before_reads service q reads notes stage last h.1))
before_reads service q reads (Closed other ∷ notes) stage last lead = (
  lead.0,
  match_map (other == q) _ _ _ _ lead.1
      (λ h. (h.0, before_reads service q reads notes (record stage { closed = true }) last h.1)) (λ h. before_reads service q reads notes stage last h),
)
before_reads service q reads (Read other limit ∷ notes) stage last lead = (lead.0, before_reads service q reads notes stage last lead.1)
before_reads service q reads (Commit at ∷ notes) stage last lead = (lead.0, lead.1, before_reads service q reads notes stage last lead.2)
