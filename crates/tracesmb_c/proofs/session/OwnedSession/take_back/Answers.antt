-- A writer that is flushed between two packets may be home.
use Rattle.std.proofs.Common.{◌≡◌, ◌∙◌, ℕ, ◌+◌, ◌-◌, Some, sym, subst, arith}
use Rattle.std.specs.Prelude.{slice_set}
use Rattle.tracesmb_c.specs.declared.writer.OwnedWriter.{OwnedWriter}
use Rattle.tracesmb_c.specs.Sessions.{session_table, IsHome}
use Rattle.tracesmb_c.proofs.HousedLemmas.{housed, home_from_ready}
use Rattle.tracesmb_c.proofs.session.OwnedSession.take_back.Goals as goal

pub returns-clause-session : goal.returns-clause-session
returns-clause-session c =
    let session = c.args.self.now in
    let lent : OwnedWriter = c.flush.new.self in
    let place : ℕ = lent.number - 1 in
    let is = c.flush.ensures.ready.number_is in
    let number : lent.number ≡ place + 1 = omega (arith, is) in
    housed session c.put_home.new.self place
    (Some lent.writer) c.requires.session c.requires.away.goes c.put_home.ensures.rest c.put_home.ensures.homes
    (λ writer there.
    let same : lent.writer ≡ writer = cc in
    subst (IsHome (session_table session) place) same
    (home_from_ready (session_table session) place lent c.flush.ensures.ready
    (c.requires.table ∙ sym c.flush.ensures.notes.table) number c.flush.ensures.none_begun
    c.flush.ensures.none_held))

pub returns-clause-back : goal.returns-clause-back
returns-clause-back c = record {
  writer = c.flush.new.self.writer;
  calls = c.flush.ensures.notes.calls;
  homes = subst (λ (n : ℕ). c.put_home.new.self.homes.items ≡ slice_set c.args.self.now.homes.items (n - 1)
      (Some c.flush.new.self.writer)) c.flush.ensures.notes.number
      c.put_home.ensures.homes;
  rest = c.put_home.ensures.rest;
}
