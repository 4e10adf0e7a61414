-- Each writer's answer is read behind those before it.
use Rattle.std.proofs.Common.{◌≡◌, ◌∙◌, ℕ, length, refl, sym, subst, inl, inr, arith}
use Rattle.std.proofs.lemmas.Bool.{cases_eq}
use Rattle.chunk_words.specs.Sits.{setup_in}
use Rattle.thread_service.specs.Serving.{core_of, view_in, desk_in}
use Rattle.thread_host.specs.Growing.{IsHearing}
use Rattle.thread_host.specs.Tally.{HearsOf}
use Rattle.thread_host.proofs.ReadAnswers.{heard_stays, hears_asked, hears_next, only_taking, session_both, taking_both}
use Rattle.thread_host.proofs.reading.read_answers.Goals as goal

pub writers-init : goal.writers-init
writers-init c = record {
  serves = c.requires.serves;
  hears = refl;
  leaves = record {
    desk = refl;
    keeps = only_taking (core_of c.args.service.now) (core_of c.args.service.now) refl;
    session = record { state = refl; writers = refl; requests = refl };
    kept = λ was. was;
    tallied = λ requests tally. tally;
  };
  heard = λ place below. absurd (omega (arith, below));
}

pub read_answer-requires-clause-tally : goal.read_answer-requires-clause-tally
read_answer-requires-clause-tally c =
    let i = c.writers.invariant in let first = c.requires.tally in
    let tally = i.leaves.tallied first.tallied.0 first.tallied.1 in
    record {
      started = i.leaves.session.state ∙ first.started;
      tallied = (first.tallied.0, tally);
      room =
          let asked = hears_asked c.writers.place (view_in c.args.service.now) (view_in c.writers.service) i.hears in
          let room = first.room in let rows = first.tallied.1.rows in let now = tally.rows in
          omega (arith, asked, room, rows, now);
    }

pub read_answer-requires-clause-place : goal.read_answer-requires-clause-place
read_answer-requires-clause-place c =
    let many = c.requires.tally.tallied.1.many in let long = c.len-place-end.ensures in let below = c.writers-test.true in
    omega (arith, many, long, below)

pub writers-preserved : goal.writers-preserved
writers-preserved c =
    let i = c.writers.invariant in
    let reads = c.read_answer.ensures in
    let first = c.args.service.now in let old = c.writers.service in let new = c.read_answer.new.service in
    record {
      serves = reads.serves;
      hears = hears_next c.writers.place (view_in first) (view_in old) (view_in new) i.hears reads.hears;
      leaves = record {
        desk = reads.leaves.desk ∙ i.leaves.desk;
        keeps = taking_both (core_of first) (core_of old) (core_of new) i.leaves.keeps reads.leaves.keeps;
        session = session_both (core_of first).session (core_of old).session (core_of new).session i.leaves.session reads.leaves.session;
        kept = λ was. reads.leaves.kept (i.leaves.kept was);
        tallied = λ requests tally. reads.leaves.tallied requests (i.leaves.tallied requests tally);
      };
      heard = λ place below. elim (cases_eq place c.writers.place) [
        | inl is ↦ subst (HearsOf (view_in new) (desk_in new)) (sym is) reads.heard
        | inr apart ↦
            heard_stays (view_in old) (view_in new) (desk_in old) (desk_in new) place c.writers.place reads.hears reads.leaves.desk
            (i.heard place (omega (arith, below, apart)))
      ];
    }

-- behind the last place all were read
pub returns-clause-hears : goal.returns-clause-hears
returns-clause-hears c =
    let many = c.requires.tally.tallied.1.many in let long = c.len-place-end.ensures in let out = c.writers-test.false in let bound = c.writers.auto.place-end in
    let place : ℕ = c.writers.place in
    let all : place ≡ length (setup_in c.args.table.now).writers = omega (arith, many, long, out, bound) in
    subst (λ (n : ℕ). IsHearing n (view_in c.args.service.now) (view_in c.writers.service)) all c.writers.invariant.hears

pub returns-clause-heard : goal.returns-clause-heard
returns-clause-heard c place inside =
    let many = c.requires.tally.tallied.1.many in let long = c.len-place-end.ensures in let out = c.writers-test.false in
    c.writers.invariant.heard place (omega (arith, inside, many, long, out))
