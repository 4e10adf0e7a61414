-- Once the jobs are done each writer answers, with the pass, which knows what it knew.
use Rattle.std.proofs.Common.{◌≡◌, ◌∙◌, List, [], ◌∷◌, ◌++◌, length, take, drop, sym, ap, subst}
use Rattle.std.specs.Prelude.{MatchResult}
use Rattle.trace_model.specs.Calls.{Flushed}
use Rattle.chunk_plain.specs.Views.{ServiceView, asked_in}
use Rattle.chunk_words.specs.declared.host.HostTable.{HostTable}
use Rattle.chunk_words.specs.Sits.{Passes, setup_in, known_by_pass}
use Rattle.scenario_text.specs.Scenario.{parts_of}
use Rattle.replay_model.specs.Played.{buffers_of}
use Rattle.thread_service.specs.Reading.{IsKnownWhole}
use Rattle.thread_writer.specs.declared.writer.TraceWriter.{TraceWriter}
use Rattle.thread_host.specs.Hosts.{HavePlayed}
use Rattle.thread_host.specs.Jobs.{FailsLines, TellsLines}
use Rattle.thread_host.specs.Terms.{HaveRun}
use Rattle.thread_host.proofs.Hosting.{given_back}
use Rattle.thread_host.proofs.host.Host.run.Goals as goal

pub answer_all-requires-clause-played : goal.answer_all-requires-clause-played
answer_all-requires-clause-played g c = (
  c.args.scenario.now.lines,
  subst (HavePlayed c.args.scenario.now.lines (Flushed ∷ []) c.run_jobs-told.new.self.table) (sym c.as_mut_slice.ensures.value) c.run_jobs-told.ensures.played,
)

pub returns-clause-host : goal.returns-clause-host
returns-clause-host g c =
    let host = c.run_jobs-told.ensures.host.host in
    record {
      host = record {
        laid = host.laid;
        specs = host.specs;
        producers = host.producers;
        served = host.served;
        pass = c.answer_all.ensures.pass;
        known = subst IsKnownWhole (sym c.answer_all.ensures.known) host.known;
        tallied = host.tallied;
        few_requests = host.few_requests;
        no_seats = host.no_seats;
        room = host.room;
        few_buffers = host.few_buffers;
        buffers = host.buffers;
        sequences = host.sequences;
        flushes = host.flushes;
        raws = host.raws;
      };
      table = c.run_jobs-told.ensures.host.table;
    }

pub returns-clause-writers : goal.returns-clause-writers
returns-clause-writers g c =
    let table = c.run_jobs-told.new.self.table in let lines = c.args.scenario.now.lines in
    let old = c.run_jobs-told.new.writers in
    let lent : List TraceWriter = c.as_mut_slice.result.now in
    let new : List TraceWriter = c.answer_all.new.writers in
    let whole : length lent ≡ length old.items = ap (λ (ws : List TraceWriter). length ws) c.as_mut_slice.ensures.value in
    let played = c.answer_all.ensures.played lines
    (subst (HavePlayed lines (Flushed ∷ []) table) (sym c.as_mut_slice.ensures.value) c.run_jobs-told.ensures.played) in
    let back = given_back new old.items old.len (played.many ∙ sym c.run_jobs-told.ensures.played.many ∙ sym whole ∙ c.as_mut_slice.ensures.len) in
    subst (λ (v : ServiceView). HaveRun lines table (asked_in v.letters) (take old.len (new ++ drop (length new) old.items))) (sym c.answer_all.ensures.known)
    (subst (HaveRun lines table (asked_in (known_by_pass c.run_jobs-told.new.self.pass).letters)) (sym back)
    (record { played = played; answered = c.answer_all.ensures.answered }))

-- the pass knows what it knew behind the jobs
pub returns-clause-job : goal.returns-clause-job
returns-clause-job g c =
    let setup = setup_in c.args.self.now.table in let first = buffers_of (parts_of c.args.scenario.now) setup in
    let lines = c.args.scenario.now.lines in
    let told = c.run_jobs-told.result in let job = c.run_jobs-told.ensures.job in
    let old = known_by_pass c.args.self.now.pass in
    let before = g.T.Sink.taken c.args.out.now in let after = g.T.Sink.taken c.run_jobs-told.new.out in
    record {
      pass_is = record {
        passes = subst (λ (table : HostTable). Passes table c.answer_all.new.pass) c.run_jobs-told.ensures.host.table c.answer_all.ensures.pass;
        known = subst IsKnownWhole (sym c.answer_all.ensures.known) job.pass_is.known;
      };
      told = subst (λ (v : ServiceView). MatchResult told (λ _. TellsLines setup first lines old v before after) (λ _. FailsLines setup first lines old v before after))
          (sym c.answer_all.ensures.known) job.told;
      sink = job.sink;
    }
