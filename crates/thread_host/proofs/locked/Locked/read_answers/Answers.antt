use Rattle.std.proofs.Common.{rules, ◌∙◌, ℕ, List, length, map, sym, ap, subst, arith}
use Rattle.chunk_plain.specs.Setup.{Setup}
use Rattle.chunk_plain.specs.Views.{ServiceView}
use Rattle.trace_buffer.specs.declared.answers.BufferSpec.{BufferSpec}
use Rattle.world_model.specs.FirstBuffers.{first_buffers}
use Rattle.service_core.specs.Agreement.{spec_value}
use Rattle.replay_model.specs.Flushes.{requests_in}
use Rattle.thread_service.specs.Serving.{core_of, view_in}
use Rattle.thread_host.specs.Growing.{IsHearing}
use Rattle.thread_host.specs.Tally.{IsTally, KeepsAnswers}
use Rattle.thread_host.proofs.Growing.{hear_grows}
use Rattle.thread_host.proofs.ReadAnswers.{hears_asked, hears_letters, taking_serving}
use Rattle.thread_host.proofs.Turning.{turns_heard}
use Rattle.thread_host.proofs.locked.Locked.read_answers.Goals as goal

pub read_answers-requires-clause-tally : goal.read_answers-requires-clause-tally
read_answers-requires-clause-tally g c = record {
  started = c.args.self.now.started;
  tallied = (
    requests_in g.N.HostName.lines,
    subst (λ (s : Setup). IsTally (requests_in g.N.HostName.lines) (length s.writers) (view_in c.args.self.now.service).letters c.args.self.now.tally)
        (sym c.requires.table.setup_is) c.args.self.now.tallied,
  );
  room = let few = c.args.self.now.few in let rows = c.args.self.now.tallied.rows in omega (arith, few, rows);
}

pub returns-clause-hears : goal.returns-clause-hears
returns-clause-hears g c =
    subst (λ (s : Setup). IsHearing (length s.writers) (view_in c.args.self.now.service) (view_in c.read_answers.new.service)) c.requires.table.setup_is
    c.read_answers.ensures.hears

pub invariant_of-self : goal.invariant_of-self
invariant_of-self g c =
    let old = c.args.self.now.service in let new = c.read_answers.new.service in
    let reads = c.read_answers.ensures in
    let setup_is = c.requires.table.setup_is in
    let serving = taking_serving g.N.HostName.setup (core_of old) (core_of new) reads.leaves.keeps reads.leaves.session in
    let hears = subst (λ (s : Setup). IsHearing (length s.writers) (view_in old) (view_in new)) setup_is reads.hears in
    let many : ℕ = length g.N.HostName.setup.writers in
    record {
      serves = search rules;
      «open» = λ place inside. serving.closed place inside ∙ c.args.self.now.«open» place inside;
      began = ap (λ (specs : List BufferSpec). first_buffers g.N.HostName.setup 1 (map spec_value specs)) reads.leaves.keeps.specs ∙ c.args.self.now.began;
      own = ap (λ (v : ServiceView). v.commits) (hears_letters many (view_in old) (view_in new) hears).2 ∙ c.args.self.now.own;
      grows = hear_grows g.N.HostName.setup g.N.HostName.lines g.N.HostName.start (view_in old) (view_in new) hears c.args.self.now.grows;
      played = turns_heard g.N.HostName.setup g.N.HostName.first g.N.HostName.lines many c.args.self.now.book.total g.N.HostName.start (view_in old) (view_in new) hears
          c.args.self.now.played;
      started = reads.leaves.session.state ∙ c.args.self.now.started;
      few = let asked = hears_asked many (view_in old) (view_in new) hears in let few = c.args.self.now.few in omega (arith, asked, few);
      tallied = subst (λ (s : Setup). IsTally (requests_in g.N.HostName.lines) (length s.writers) (view_in new).letters c.read_answers.new.tally) setup_is
          (reads.leaves.tallied (requests_in g.N.HostName.lines)
          (subst (λ (s : Setup). IsTally (requests_in g.N.HostName.lines) (length s.writers) (view_in old).letters c.args.self.now.tally) (sym setup_is) c.args.self.now.tallied));
      kept = subst (λ (s : Setup). KeepsAnswers (length s.writers) (view_in new).letters (core_of new).session) setup_is
          (reads.leaves.kept (subst (λ (s : Setup). KeepsAnswers (length s.writers) (view_in old).letters (core_of old).session) (sym setup_is) c.args.self.now.kept));
    }
