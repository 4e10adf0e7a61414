-- What is taken and noted leaves the session one.
use Rattle.std.proofs.Common.{◌≡◌, Bool, true, false, sym, subst}
use Rattle.chunk_words.specs.declared.host.HostTable.{HostTable}
use Rattle.chunk_words.specs.Sits.{Passes, setup_in}
use Rattle.service_core.specs.Agreement.{IsOpen}
use Rattle.service_core.specs.Scraping.{TakesAndScrapes}
use Rattle.service_core.specs.Taking.{Takes, places_of}
use Rattle.service_core.proofs.AnswerLemmas.{takes_own}
use Rattle.replay_host.proofs.ScrapedLemmas.{scrapes_own}
use Rattle.thread_service.specs.Serving.{Serves, core_of, view_in}
use Rattle.tracesmb_c.specs.Collecting.{TakesOrScrapes}
use Rattle.tracesmb_c.specs.Sessions.{known_in}
use Rattle.tracesmb_c.proofs.SessionLemmas.{serves_by, serves_given}
use Rattle.tracesmb_c.proofs.session.OwnedSession.collect.Goals as goal

pub scrape-requires-clause-serves : goal.scrape-requires-clause-serves
scrape-requires-clause-serves c =
    subst (λ (t : HostTable). Serves t c.args.self.now.service) (sym c.deref.ensures) c.requires.session.serves

pub scrape-requires-clause-open : goal.scrape-requires-clause-open
scrape-requires-clause-open c =
    subst (λ (t : HostTable). IsOpen (setup_in t) (core_of c.args.self.now.service) c.args.producer) (sym c.deref.ensures)
    (λ place inside _. (c.requires.session.goes_on c.requires.may.goes).opened place inside)

pub collect-requires-clause-serves : goal.collect-requires-clause-serves
collect-requires-clause-serves c =
    subst (λ (t : HostTable). Serves t c.args.self.now.service) (sym c.deref-else-held.ensures) c.requires.session.serves

pub collect-requires-clause-open : goal.collect-requires-clause-open
collect-requires-clause-open c =
    subst (λ (t : HostTable). IsOpen (setup_in t) (core_of c.args.self.now.service) c.args.producer) (sym c.deref-else-held.ensures)
    (λ place inside _. (c.requires.session.goes_on c.requires.may.goes).opened place inside)

pub returns-then-held-clause-session : goal.returns-then-held-clause-session
returns-then-held-clause-session c =
    let session = c.args.self.now in
    serves_by session c.deref.result.now c.deref.ensures c.scrape.new.self session.pass session.waiting session.torn c.requires.session
    c.scrape.ensures.stays.serves
    (subst (λ (t : HostTable). Passes t session.pass) (sym c.deref.ensures) c.requires.session.pass) c.requires.session.known
    c.scrape.ensures.keeps
    (scrapes_own (setup_in c.deref.result.now) c.args.producer c.scrape.result (known_in session) _ c.scrape.ensures.scrapes)
    (λ stopped. let open_still = c.requires.may.goes in let wrong : true ≡ false = cc in absurd (cc))

-- the table that was lent is the session's
pub returns-then-held-clause-takes : goal.returns-then-held-clause-takes
returns-then-held-clause-takes c =
    let session = c.args.self.now in
    subst (λ (b : Bool). TakesOrScrapes b c.args.producer c.scrape.result session (record session { service = c.scrape.new.self }))
    (sym c.if-held.true)
    (subst (λ (t : HostTable). TakesAndScrapes (setup_in t) c.args.producer c.scrape.result (known_in session) (view_in c.scrape.new.self))
    c.deref.ensures c.scrape.ensures.scrapes)

pub returns-then-held-clause-given : goal.returns-then-held-clause-given
returns-then-held-clause-given c = serves_given c.args.self.now c.deref.result.now c.scrape.new.self c.scrape.ensures.keeps

pub returns-else-held-clause-session : goal.returns-else-held-clause-session
returns-else-held-clause-session c =
    let session = c.args.self.now in
    serves_by session c.deref-else-held.result.now c.deref-else-held.ensures c.collect.new.self session.pass session.waiting session.torn
    c.requires.session
    c.collect.ensures.stays.serves
    (subst (λ (t : HostTable). Passes t session.pass) (sym c.deref-else-held.ensures) c.requires.session.pass) c.requires.session.known
    c.collect.ensures.keeps
    (takes_own (setup_in c.deref-else-held.result.now)
    (places_of c.args.producer 0 (setup_in c.deref-else-held.result.now).writers) c.collect.result (known_in session) _
    c.collect.ensures.takes)
    (λ stopped. let open_still = c.requires.may.goes in let wrong : true ≡ false = cc in absurd (cc))

pub returns-else-held-clause-takes : goal.returns-else-held-clause-takes
returns-else-held-clause-takes c =
    let session = c.args.self.now in
    subst (λ (b : Bool). TakesOrScrapes b c.args.producer c.collect.result session (record session { service = c.collect.new.self }))
    (sym c.if-held.false)
    (subst (λ (t : HostTable). Takes (setup_in t) (places_of c.args.producer 0 (setup_in t).writers) c.collect.result
    (known_in session) (view_in c.collect.new.self)) c.deref-else-held.ensures c.collect.ensures.takes)

pub returns-else-held-clause-given : goal.returns-else-held-clause-given
returns-else-held-clause-given c = serves_given c.args.self.now c.deref-else-held.result.now c.collect.new.self c.collect.ensures.keeps
