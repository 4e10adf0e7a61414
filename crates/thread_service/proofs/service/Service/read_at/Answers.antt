use Rattle.std.proofs.Common.{◌∙◌, sym, ap}
use Rattle.session_core.specs.Sessions.{SessionValue}
use Rattle.chunk_words.specs.Knows.{Desk, Away, with_stage}
use Rattle.chunk_words.specs.Sits.{setup_in, known_by_pass, known_by_service}
use Rattle.thread_service.specs.Serving.{view_in}
use Rattle.thread_service.proofs.Standing.{attends_back, passes_back, counts_on}
use Rattle.thread_service.proofs.PassLemmas.{passes_start, since_back, some_noted, known_behind, pass_reads, asked_behind}
use Rattle.service_core.specs.Reading.{read_moment}
use Rattle.thread_service.proofs.service.Service.read_at.Goals as goal

pub read_buffer-read-requires-clause-asks : goal.read_buffer-read-requires-clause-asks
read_buffer-read-requires-clause-asks g c =
    let starts = c.requires.starts in
    let serves = starts.serving.serves in
    record {
      service = record {
        serves = passes_start g.N.Start.table g.N.Start.passed g.N.Start.view g.N.Start.desk c.args.table.now c.hand_on.result c.args.self.now.core.seat
            serves.attends c.hand_on.ensures.pass starts.table_is (c.hand_on.ensures.known ∙ starts.passed_is) starts.view_is starts.desk_is serves.agrees.known;
        agrees = serves.agrees;
      };
      reads = tt;
    }

pub returns-clause-leaves : goal.returns-clause-leaves
returns-clause-leaves g c =
    let starts = c.requires.starts in
    let did = c.read_buffer-read.ensures in
    let on = did.leaves.service in
    let stays = on.step.seat_stays in
    let lent = c.read_buffer-read.new.table in
    let setup = setup_in c.args.table.now in
    let old = c.args.self.now.core in
    let core = c.read_buffer-read.new.self in
    let passed = known_by_pass c.args.pass.now in
    let before = view_in c.args.self.now in
    let pass = known_by_pass lent.pass in
    let view = known_by_service core.seat in
    let since = since_back g.N.Start.passed g.N.Start.view pass view passed before starts.passed_is starts.view_is stays.since in
    let same = stays.same_table ∙ sym starts.table_is in
    let some = some_noted setup old c.args.buffer c.args.limit (read_moment before (g.O.Sink.taken c.args.out.now)) (read_moment view (g.O.Sink.taken c.read_buffer-read.new.out))
    c.read_buffer-read.result did.reads did.fails in
    record {
      serving = record {
        serves = record {
          attends = attends_back c.args.table.now lent.table.now core.seat same on.step.setup_stays stays.attends;
          agrees = on.agrees;
          asked = counts_on old core (ap (λ (s : SessionValue). s.requests) on.keeps.fields.session) on.step.letters_stay starts.serving.serves.asked;
        };
        passes = passes_back c.args.table.now lent.table.now lent.pass same stays.passes;
        known = known_behind setup old some.0 passed before pass view some.1 starts.serving.known since;
      };
      desk = stays.desk_is ∙ sym (ap (λ (d : Desk). with_stage d Away) starts.desk_is);
      letters = on.step.letters_stay;
      asked = asked_behind passed before pass view on.step.letters_stay since;
      keeps = on.keeps;
    }

pub returns-clause-passes : goal.returns-clause-passes
returns-clause-passes g c events notes =
    let starts = c.requires.starts in
    let serving = starts.serving in
    let passed = known_by_pass c.args.pass.now in
    let before = view_in c.args.self.now in
    let pass = known_by_pass c.read_buffer-read.new.table.pass in
    let view = known_by_service c.read_buffer-read.new.self.seat in
    pass_reads (setup_in c.args.table.now) c.args.self.now.core events passed before pass view
    notes serving.serves.agrees.buffers serving.known serving.serves.agrees.known
    (since_back g.N.Start.passed g.N.Start.view pass view passed before starts.passed_is starts.view_is c.read_buffer-read.ensures.leaves.service.step.seat_stays.since)
