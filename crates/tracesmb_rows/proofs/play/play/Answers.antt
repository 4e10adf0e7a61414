-- What the top call says, of objects in memory.
use Rattle.std.proofs.Common.{rules, inl, inr}
use Rattle.tracesmb_rows.proofs.play.play.Goals as goal

pub returns-clause-refused : goal.returns-clause-refused
returns-clause-refused g c = λ three.
    let refused = c.trace_top-status.ensures.refused three in
    (refused.0, refused.1, refused.2, search (rules, refused), search (rules, refused), refused.5, search (rules, refused))

pub returns-clause-part : goal.returns-clause-part
returns-clause-part g c = λ five.
    let part = c.trace_top-status.ensures.part five in (
      part.0,
      part.1,
      search (rules, part),
      search (rules, part),
      elim part.4 [
        | inl failed ↦ inl (search (rules, failed), search (rules, failed), search (rules, failed))
        | inr kept ↦ inr (kept.0, kept.1, search (rules, kept), search (rules, kept))
      ],
    )

pub returns-clause-stalled : goal.returns-clause-stalled
returns-clause-stalled g c = λ six.
    let stalled = c.trace_top-status.ensures.stalled six in
    (stalled.0, stalled.1, stalled.2, search (rules, stalled), search (rules, stalled), search (rules, stalled), search (rules, stalled))
