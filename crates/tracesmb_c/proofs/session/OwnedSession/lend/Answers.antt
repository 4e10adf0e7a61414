-- The writer goes from its place, and comes back where no memory is left for its box.
use Rattle.std.proofs.Common.{◌≡◌, ◌∙◌, ℕ, ◌+◌, ◌-◌, Option, Some, None, List, sym, ap, subst, arith}
use Rattle.std.specs.Prelude.{slice_get, slice_set}
use Rattle.thread_writer.specs.declared.writer.TraceWriter.{TraceWriter}
use Rattle.tracesmb_c.specs.declared.session.OwnedSession.{OwnedSession}
use Rattle.tracesmb_c.specs.declared.writer.OwnedWriter.{OwnedWriter}
use Rattle.tracesmb_c.specs.Lending.{table_of}
use Rattle.tracesmb_c.specs.Sessions.{session_table, IsHome, IsSession}
use Rattle.tracesmb_c.proofs.HousedLemmas.{housed, others_on, ready_from_home, set_same, set_back}
use Rattle.tracesmb_c.proofs.session.OwnedSession.lend.Goals as goal

pub returns-in_default-take_home-clause-session : goal.returns-in_default-take_home-clause-session
returns-in_default-take_home-clause-session c =
    housed c.args.self.now c.take_home.new.self
    (c.args.number - 1) None c.requires.session c.if-self.false c.take_home.ensures.rest c.take_home.ensures.homes
    (λ writer there. absurd (cc))

pub returns-in_default-take_home-clause-kept : goal.returns-in_default-take_home-clause-kept
returns-in_default-take_home-clause-kept c =
    let none : c.take_home.result ≡ None = c.in_default-take_home.is in
    c.take_home.ensures.homes
    ∙ set_same c.args.self.now.homes.items (c.args.number - 1) None (c.take_home.ensures.was ∙ ap (λ (h : Option TraceWriter). Some h) none)

pub returns-in_default-take_home-clause-others : goal.returns-in_default-take_home-clause-others
returns-in_default-take_home-clause-others c = c.take_home.ensures.rest

pub returns-in_default-take_home-clause-when : goal.returns-in_default-take_home-clause-when
returns-in_default-take_home-clause-when c may =
    let none : c.take_home.result ≡ None = c.in_default-take_home.is in
    let was : slice_get c.args.self.now.homes.items (c.args.number - 1) ≡ Some c.take_home.result = c.take_home.ensures.was in
    let home : slice_get c.args.self.now.homes.items (c.args.number - 1) ≡ Some (Some may.writer) = may.home in
    absurd (cc)

pub returns-in-Ok-new-clause-session : goal.returns-in-Ok-new-clause-session
returns-in-Ok-new-clause-session c =
    housed c.args.self.now c.take_home.new.self
    (c.args.number - 1) None c.requires.session c.if-self.false c.take_home.ensures.rest c.take_home.ensures.homes
    (λ writer there. absurd (cc))

pub returns-in-Ok-new-clause-lent : goal.returns-in-Ok-new-clause-lent
returns-in-Ok-new-clause-lent c =
    let session = c.args.self.now in
    let place : ℕ = c.args.number - 1 in
    let writer : TraceWriter = c.in-Some.writer in
    let lent : OwnedWriter = c.in-Ok-new.lent.value in
    let there : slice_get session.homes.items place ≡ Some (Some writer) = c.take_home.ensures.was ∙ ap
    (λ (h : Option TraceWriter). Some h) c.in-Some.is in
    let home = (c.requires.session.goes_on c.if-self.false).homes place writer there in
    let is : lent ≡ record { table = c.in-Ok.table; writer = writer; number = c.args.number } = c.in-Ok-new.ensures.ok in
    let same : lent.writer ≡ writer = ap (λ (o : OwnedWriter). o.writer) is in
    let table : table_of lent ≡ session_table session = ap table_of is ∙ c.in-Ok.ensures in
    let number : lent.number ≡ c.args.number = ap (λ (o : OwnedWriter). o.number) is in
    let least = c.if-number-lt1.false in
    record {
      ready = ready_from_home (session_table session) place writer lent home same table
          (number ∙ (let next : c.args.number ≡ place + 1 = omega (arith, least) in next));
      table = table;
      number_is = number;
      was = there ∙ ap (λ (w : TraceWriter). Some (Some w)) (sym same);
      homes = c.take_home.ensures.homes;
      rest = c.take_home.ensures.rest;
    }

pub returns-in-Err-clause-session : goal.returns-in-Err-clause-session
returns-in-Err-clause-session c =
    let session = c.args.self.now in
    let mid : OwnedSession = c.take_home.new.self in
    let place : ℕ = c.args.number - 1 in
    let away : IsSession mid =
    housed session mid place None c.requires.session c.if-self.false c.take_home.ensures.rest c.take_home.ensures.homes
    (λ writer there. absurd (cc)) in
    let there : slice_get session.homes.items place ≡ Some (Some c.in-Some.writer) = c.take_home.ensures.was ∙ ap
    (λ (h : Option TraceWriter). Some h) c.in-Some.is in
    let home = (c.requires.session.goes_on c.if-self.false).homes place c.in-Some.writer there in
    let back : c.in-Err.failed.value.writer ≡ c.in-Some.writer = ap (λ (o : OwnedWriter). o.writer) c.in-Err.ensures.value_returned in
    housed mid c.put_home.new.self place (Some c.in-Err.failed.value.writer) away
    (c.take_home.ensures.rest.stopped ∙ c.if-self.false) c.put_home.ensures.rest c.put_home.ensures.homes
    (λ writer is.
    let same : c.in-Some.writer ≡ writer = cc in
    subst (λ (w : TraceWriter). IsHome (session_table mid) place w) same
    (subst (λ t. IsHome t place c.in-Some.writer) (sym c.take_home.ensures.rest.table) home))

pub returns-in-Err-clause-kept : goal.returns-in-Err-clause-kept
returns-in-Err-clause-kept c =
    let session = c.args.self.now in
    let place : ℕ = c.args.number - 1 in
    let there : slice_get session.homes.items place ≡ Some (Some c.in-Some.writer) = c.take_home.ensures.was ∙ ap
    (λ (h : Option TraceWriter). Some h) c.in-Some.is in
    let back : c.in-Err.failed.value.writer ≡ c.in-Some.writer = ap (λ (o : OwnedWriter). o.writer) c.in-Err.ensures.value_returned in
    c.put_home.ensures.homes
    ∙ ap (λ (hs : List (Option TraceWriter)). slice_set hs place (Some c.in-Err.failed.value.writer)) c.take_home.ensures.homes
    ∙ ap (λ (w : TraceWriter). slice_set (slice_set session.homes.items place None) place (Some w)) back
    ∙ set_back session.homes.items place (Some c.in-Some.writer) None there

pub returns-in-Err-clause-others : goal.returns-in-Err-clause-others
returns-in-Err-clause-others c =
    others_on c.args.self.now c.take_home.new.self c.put_home.new.self c.take_home.ensures.rest c.put_home.ensures.rest
