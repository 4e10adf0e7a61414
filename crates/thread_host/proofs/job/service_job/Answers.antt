-- Each line is played behind those before it.
use Rattle.std.proofs.lemmas.Result.{MatchResult-from_err}
use Rattle.std.proofs.Common.{rules, ◌≡◌, ◌∙◌, ◌+◌, List, [], ◌∷◌, ◌++◌, length, refl, sym, ap, subst, append-nil, append_assoc, arith}
use Rattle.chunk_words.specs.Sits.{known_by_pass}
use Rattle.scenario_text.specs.declared.scenario.NumberedLine.{NumberedLine}
use Rattle.replay_model.specs.Flushes.{request_count, requests_in}
use Rattle.run_model.specs.Lines.{service_lines}
use Rattle.thread_host.specs.Jobs.{FailsLines, TellsLines}
use Rattle.thread_host.proofs.Collected.{collected_here}
use Rattle.thread_host.proofs.Counted.{requests_both}
use Rattle.thread_host.proofs.Parts.{scraped_here}
use Rattle.thread_host.proofs.Telling.{fails_behind, tells_none, tells_more}
use Rattle.thread_host.proofs.Turning.{next_line, readings_more, turns_more}
use Rattle.thread_host.proofs.job.service_job.Goals as goal

pub lines-init : goal.lines-init
lines-init g c = record {
  before = [];
  all = c.walk-walk.ensures;
  pass = c.requires.plays.pass_is;
  told = tells_none g.N.HostName.setup g.N.HostName.first (known_by_pass c.args.pass.now) (g.O.Sink.taken c.args.out.now);
  stands = refl;
  turns = c.requires.first;
  reads = omega arith;
  steady = refl;
  may = c.requires.may;
}

pub play_line-requires-clause-line : goal.play_line-requires-clause-line
play_line-requires-clause-line g c =
    let before : List NumberedLine = c.lines.invariant.before in
    let line : NumberedLine = c.in-Some.line in let behind = c.next.new.self in
    let lines = g.N.HostName.lines in
    let all : before ++ line ∷ behind ≡ lines =
    ap (λ (ls : List NumberedLine). before ++ ls) (sym c.in-Some.ensures.first) ∙ c.lines.invariant.all ∙ c.requires.plays.lines_are in
    record {
      whole = c.requires.plays.whole;
      next = λ own. next_line before behind lines line c.lines.turns all c.lines.invariant.turns own;
      collected = λ producer is. collected_here g.N.HostName.setup before behind lines line producer all is;
      scraped = λ producer is. scraped_here before behind lines line producer all is;
      room = λ is.
          let both = requests_both before (line ∷ behind) in
          let many = ap requests_in all in
          let one = ap request_count is in
          let told = c.lines.invariant.told.requests in
          let none = c.requires.plays.none_asked in
          omega (arith, both, many, one, told, none);
      few = c.requires.plays.few;
    }

pub lines-preserved : goal.lines-preserved
lines-preserved g c =
    let before : List NumberedLine = c.lines.invariant.before in
    let line : NumberedLine = c.in-Some.line in
    record {
      before = before ++ line ∷ [];
      all = append_assoc before (line ∷ []) c.next.new.self ∙ ap (λ (ls : List NumberedLine). before ++ ls) (sym c.in-Some.ensures.first) ∙ c.lines.invariant.all;
      pass = c.in_ok-play_line.ensures.pass;
      told = tells_more g.N.HostName.setup g.N.HostName.first before line (known_by_pass c.args.pass.now) (known_by_pass c.lines.pass)
          (known_by_pass c.play_line.new.pass) (g.O.Sink.taken c.args.out.now) (g.O.Sink.taken c.lines.out) (g.O.Sink.taken c.play_line.new.out)
          c.lines.invariant.told c.in_ok-play_line.ensures.told;
      stands = c.in_ok-play_line.ensures.sink.stands ∙ c.lines.invariant.stands;
      turns = turns_more before line c.lines.turns c.play_line.new.turns c.lines.invariant.turns c.in_ok-play_line.ensures.turns;
      reads = readings_more before line (c.args.readings.now) c.lines.readings c.begin_line-number.new.readings c.lines.invariant.reads
          c.begin_line-number.ensures.reads;
      steady = c.in_ok-play_line.ensures.sink.count ∙ c.lines.invariant.steady;
      may = c.in_ok-play_line.ensures.sink.goes_on;
    }

-- the lines before were played, and then one up to a write that failed
pub returns-in_err-play_line-clause-job : goal.returns-in_err-play_line-clause-job
returns-in_err-play_line-clause-job g c =
    let before : List NumberedLine = c.lines.invariant.before in
    let line : NumberedLine = c.in-Some.line in
    let old = known_by_pass c.args.pass.now in let mid = known_by_pass c.lines.pass in
    let new = known_by_pass c.play_line.new.pass in
    let failed = c.in_err-play_line.ensures in
    let all : before ++ line ∷ c.next.new.self ≡ c.args.lines.now =
    ap (λ (ls : List NumberedLine). before ++ ls) (sym c.in-Some.ensures.first) ∙ c.lines.invariant.all in
    record {
      pass_is = failed.pass;
      told = MatchResult-from_err c.from_residual.result _ _ c.from_residual.ensures.0 (λ _.
          (subst (λ (ls : List NumberedLine). FailsLines g.N.HostName.setup g.N.HostName.first ls old new
          (g.O.Sink.taken c.args.out.now) (g.O.Sink.taken c.play_line.new.out)) all
          (fails_behind g.N.HostName.setup g.N.HostName.first before line c.next.new.self old mid new (g.O.Sink.taken c.args.out.now)
          (g.O.Sink.taken c.lines.out) (g.O.Sink.taken c.play_line.new.out) c.lines.invariant.told failed.told)));
      sink = record { stands = failed.sink.stands ∙ c.lines.invariant.stands; count = search rules; goes_on = search rules };
    }

pub returns-clause-job : goal.returns-clause-job
returns-clause-job g c =
    let before : List NumberedLine = c.lines.invariant.before in
    let none = rw c.in_default.is at c.next.ensures.none in
    let all : before ≡ c.args.lines.now =
    sym (append-nil before) ∙ ap (λ (ls : List NumberedLine). before ++ ls) (sym none.0) ∙ c.lines.invariant.all in
    record {
      pass_is = c.lines.invariant.pass;
      told = subst (λ (ls : List NumberedLine). TellsLines g.N.HostName.setup g.N.HostName.first ls (known_by_pass c.args.pass.now) (known_by_pass c.lines.pass)
          (g.O.Sink.taken c.args.out.now) (g.O.Sink.taken c.lines.out)) all c.lines.invariant.told;
      sink = record { stands = c.lines.invariant.stands; count = c.lines.invariant.steady; goes_on = c.lines.invariant.may };
    }

pub returns-in_err-play_line-clause-turns : goal.returns-in_err-play_line-clause-turns
returns-in_err-play_line-clause-turns g c =
    let turns = c.lines.invariant.turns in let one = c.in_err-play_line.ensures.turns in
    MatchResult-from_err c.from_residual.result _ _ c.from_residual.ensures.0 (λ _. (length (service_lines c.lines.invariant.before), omega (arith, turns, one)))

pub returns-clause-turns : goal.returns-clause-turns
returns-clause-turns g c =
    let before : List NumberedLine = c.lines.invariant.before in
    let none = rw c.in_default.is at c.next.ensures.none in
    let all : before ≡ c.args.lines.now =
    sym (append-nil before) ∙ ap (λ (ls : List NumberedLine). before ++ ls) (sym none.0) ∙ c.lines.invariant.all in
    subst (λ (ls : List NumberedLine). c.lines.turns ≡ length (service_lines ls) + length (service_lines ls)) all c.lines.invariant.turns

pub returns-clause-reads : goal.returns-clause-reads
returns-clause-reads g c =
    let before : List NumberedLine = c.lines.invariant.before in
    let none = rw c.in_default.is at c.next.ensures.none in
    let all : before ≡ c.args.lines.now =
    sym (append-nil before) ∙ ap (λ (ls : List NumberedLine). before ++ ls) (sym none.0) ∙ c.lines.invariant.all in
    subst (λ (ls : List NumberedLine). c.lines.readings ≡ c.args.readings.now + length (service_lines ls)) all c.lines.invariant.reads
