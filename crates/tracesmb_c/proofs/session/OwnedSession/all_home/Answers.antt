-- A writer that isn't home is one of those.
use Rattle.std.proofs.Common.{◌≡◌, ◌∙◌, ℕ, true, false, not, Bool, Some, ap, arith}
use Rattle.std.specs.Prelude.{slice_get}
use borrow.Author.Count.{below_more}
use Rattle.thread_writer.specs.declared.writer.TraceWriter.{TraceWriter}
use Rattle.tracesmb_c.proofs.HomeLemmas.{home_here, home_none}
use Rattle.tracesmb_c.proofs.session.OwnedSession.all_home.Goals as goal

pub homes-preserved : goal.homes-preserved
homes-preserved c =
    let homes = c.args.self.now.homes.items in
    let test : c.is_none.result ≡ false = c.if-is_none.false in
    record {
      home = below_more (λ (k : ℕ). (writer : TraceWriter) × (slice_get homes k ≡ Some (Some writer))) c.homes.place c.homes.invariant.home
          (home_here homes c.homes.place c.index.result.now (omega arith) c.index.ensures
          (c.is_none.ensures ∙ ap (λ (b : Bool). not b) test));
    }

pub returns-then-is_none-clause-lent : goal.returns-then-is_none-clause-lent
returns-then-is_none-clause-lent c all =
    let homes = c.args.self.now.homes.items in
    let home = all c.homes.place (omega arith) in
    let test : c.is_none.result ≡ true = c.if-is_none.true in
    absurd (home_none homes c.homes.place c.index.result.now home.0 c.index.ensures home.1
    (c.is_none.ensures ∙ ap (λ (b : Bool). not b) test))
