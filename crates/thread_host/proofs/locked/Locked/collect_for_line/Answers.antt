-- The next line has chunks taken: the book counts its turns, and says of the share's number that it is its own.
use Rattle.std.proofs.Common.{◌∙◌, ◌≤◌, ℕ, List, length, rules, sym, ap, subst, arith}
use Rattle.chunk_plain.specs.Setup.{Setup}
use Rattle.chunk_plain.specs.Views.{Letter, asked_in}
use Rattle.replay_model.specs.Flushes.{requests_in}
use Rattle.scenario_text.specs.declared.scenario.LineKind.TheVariants as line
use Rattle.service_core.specs.Taking.{Takes, places_of}
use Rattle.session_core.specs.Sessions.{SessionValue}
use Rattle.thread_service.specs.Serving.{core_of, view_in}
use Rattle.thread_host.specs.Tally.{IsTally}
use Rattle.thread_host.specs.Turns.{IsNext}
use Rattle.thread_host.proofs.Growing.{collect_grows}
use Rattle.thread_host.proofs.Hosting.{collect_own}
use Rattle.thread_host.proofs.KeptAnswers.{answers_same}
use Rattle.thread_host.proofs.Turning.{turns_line}
use Rattle.thread_host.proofs.locked.Locked.collect_for_line.Goals as goal

pub invariant_of-self : goal.invariant_of-self
invariant_of-self g c = record {
  serves = search rules;
  «open» = search rules;
  began = search rules;
  own = search (rules, collect_own);
  grows =
      let setup_is = c.requires.table.setup_is in
      let old = view_in c.args.self.now.service in let new = view_in c.collect.new.self in
      collect_grows g.N.HostName.setup g.N.HostName.lines c.args.producer c.collect.result g.N.HostName.start old new c.requires.asked
      (subst (λ (s : Setup). Takes s (places_of c.args.producer 0 s.writers) c.collect.result old new) setup_is c.collect.ensures.takes)
      c.args.self.now.grows;
  played =
      let setup_is = c.requires.table.setup_is in
      let old = view_in c.args.self.now.service in let new = view_in c.collect.new.self in
      let same = c.audit.ensures.whole (c.turns.invariant ∙ c.requires.turn.whole.0) in
      let total = c.audit.ensures.total in let more = c.add.ensures.total in
      turns_line g.N.HostName.setup g.N.HostName.first g.N.HostName.lines c.args.self.now.book.total c.add.new.self.total (line.Collect c.args.producer)
      g.N.HostName.start old new
      (subst (λ (n : ℕ). IsNext g.N.HostName.lines n (line.Collect c.args.producer)) (sym c.turns.view_is ∙ same) c.requires.turn.next) (omega (arith, total, more))
      (c.collect.result, subst (λ (s : Setup). Takes s (places_of c.args.producer 0 s.writers) c.collect.result old new) setup_is c.collect.ensures.takes) c.args.self.now.played;
  started = ap (λ (s : SessionValue). s.state) c.collect.ensures.keeps.fields.session ∙ c.args.self.now.started;
  few = subst (λ (l : List Letter). asked_in l ≤ requests_in g.N.HostName.lines) (sym c.collect.ensures.stays.letters) c.args.self.now.few;
  tallied = subst (λ (l : List Letter). IsTally (requests_in g.N.HostName.lines) (length g.N.HostName.setup.writers) l c.args.self.now.tally)
      (sym c.collect.ensures.stays.letters) c.args.self.now.tallied;
  kept = answers_same (length g.N.HostName.setup.writers) (view_in c.args.self.now.service).letters (view_in c.collect.new.self).letters
      (core_of c.args.self.now.service).session (core_of c.collect.new.self).session c.collect.ensures.stays.letters c.collect.ensures.keeps.fields.session
      c.args.self.now.kept;
}
