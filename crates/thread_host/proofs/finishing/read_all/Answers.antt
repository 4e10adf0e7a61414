-- One buffer is read behind another.
use Rattle.std.proofs.Common.{◌≡◌, ◌∙◌, suc, ◌+◌, refl, ap, arith}
use Rattle.std.proofs.lemmas.Result.{MatchResult-from_err}
use Rattle.chunk_words.specs.Knows.{Desk}
use Rattle.chunk_words.specs.Sits.{setup_in, known_by_pass}
use Rattle.service_core.specs.Agreement.{first_of}
use Rattle.service_core.proofs.AgreeLemmas.{first_stays, keeps_same, keeps_both}
use Rattle.thread_service.specs.Serving.{core_of, view_in}
use Rattle.thread_host.proofs.Closing.{out_none, out_more}
use Rattle.thread_host.proofs.Failing.{out_fails}
use Rattle.thread_host.proofs.Telling.{loans_kept}
use Rattle.thread_host.proofs.finishing.read_all.Goals as goal

pub buffers-init : goal.buffers-init
buffers-init g c =
    let setup = setup_in c.args.table.now in
    record {
      stays = record { serves = c.requires.serves; keeps = keeps_same setup (core_of c.args.service.now); marks = refl };
      pass = c.requires.pass;
      reads = out_none setup (first_of setup (core_of c.args.service.now)) (view_in c.args.service.now) (known_by_pass c.args.pass.now) (g.T.Sink.taken c.args.out.now);
      stands = refl;
      steady = refl;
      may = c.requires.may;
    }

pub buffers-preserved : goal.buffers-preserved
buffers-preserved g c =
    let setup = setup_in c.args.table.now in
    let i = c.buffers.invariant in
    let ok = c.in_ok-read_passing.ensures in
    let core = core_of c.buffers.service in
    let start = core_of c.args.service.now in
    record {
      stays = record {
        serves = ok.leaves.serving.serves;
        keeps = keeps_both setup start core (core_of c.read_passing.new.self) i.stays.keeps ok.leaves.keeps;
        marks = ap (λ (d : Desk). d.marks) ok.leaves.desk ∙ i.stays.marks;
      };
      pass = record { passes = ok.leaves.serving.passes; known = ok.leaves.serving.known };
      reads = out_more setup core (first_of setup start) c.buffers.index (c.buffers.index + 1) _ (view_in c.args.service.now) (view_in c.buffers.service)
          (view_in c.read_passing.new.self) (known_by_pass c.args.pass.now) (known_by_pass c.buffers.pass) (known_by_pass c.read_passing.new.pass)
          (g.T.Sink.taken c.args.out.now) (g.T.Sink.taken c.buffers.out) (g.T.Sink.taken c.read_passing.new.out)
          (let more : c.buffers.index + 1 ≡ suc c.buffers.index = omega arith in more)
          (first_stays setup start core i.stays.keeps.fields) i.stays.serves.agrees.buffers i.reads ok.reads ok.passes;
      stands = loans_kept (g.T.Sink.taken c.buffers.out) (g.T.Sink.taken c.read_passing.new.out) _ ok.reads.taken ∙ i.stands;
      steady = ok.count ∙ i.steady;
      may = ok.goes_on;
    }

pub returns-in_err-read_passing-clause-reads : goal.returns-in_err-read_passing-clause-reads
returns-in_err-read_passing-clause-reads g c =
    let setup = setup_in c.args.table.now in
    let i = c.buffers.invariant in
    let failed = c.in_err-read_passing.ensures in
    let core = core_of c.buffers.service in
    let start = core_of c.args.service.now in
    MatchResult-from_err c.from_residual.result _ _ c.from_residual.ensures.0 (λ _.
    out_fails setup core (first_of setup start) c.buffers.index (c.buffers.index + 1) c.args.buffers (view_in c.args.service.now) (view_in c.buffers.service)
    (view_in c.read_passing.new.self) (known_by_pass c.args.pass.now) (known_by_pass c.buffers.pass) (known_by_pass c.read_passing.new.pass)
    (g.T.Sink.taken c.args.out.now) (g.T.Sink.taken c.buffers.out) (g.T.Sink.taken c.read_passing.new.out)
    (let more : c.buffers.index + 1 ≡ suc c.buffers.index = omega arith in more) c.buffers-test.true
    (first_stays setup start core i.stays.keeps.fields) i.stays.serves.agrees.buffers i.reads failed.fails failed.passes)

pub returns-in_err-read_passing-clause-stays : goal.returns-in_err-read_passing-clause-stays
returns-in_err-read_passing-clause-stays g c =
    let i = c.buffers.invariant in let failed = c.in_err-read_passing.ensures in
    record {
      serves = failed.leaves.serving.serves;
      keeps = keeps_both (setup_in c.args.table.now) (core_of c.args.service.now) (core_of c.buffers.service) (core_of c.read_passing.new.self) i.stays.keeps failed.leaves.keeps;
      marks = ap (λ (d : Desk). d.marks) failed.leaves.desk ∙ i.stays.marks;
    }
