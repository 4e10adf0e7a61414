-- The book has as many turns as whoever plays the lines says.
use Rattle.std.proofs.Common.{◌∙◌, ℕ, sym, subst}
use Rattle.thread_service.specs.Serving.{view_in}
use Rattle.thread_host.specs.Turns.{PlaysTurns}
use Rattle.thread_host.proofs.locked.Locked.into_parts.Goals as goal

pub returns-clause-played : goal.returns-clause-played
returns-clause-played g c =
    subst (λ (n : ℕ). PlaysTurns g.N.HostName.setup g.N.HostName.first g.N.HostName.lines n g.N.HostName.start (view_in c.args.self.service))
    (sym (c.audit.ensures.whole (c.turns.invariant ∙ c.requires.ledger.0)) ∙ c.turns.view_is) c.args.self.played
