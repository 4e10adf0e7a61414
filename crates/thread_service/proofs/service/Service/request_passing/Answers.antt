use Rattle.std.proofs.Common.{◌≡◌, ◌∙◌, [], ◌∷◌, ◌++◌, ◌+◌, length, sym, ap, subst, rules}
use Rattle.chunk_plain.specs.Histories.{history_of}
use Rattle.chunk_plain.specs.Views.{Asked, ServiceView, asked_in}
use Rattle.chunk_words.specs.Sits.{setup_in, known_by_pass, known_by_service}
use Rattle.chunk_words.proofs.MailSteps.{asked_more}
use Rattle.chunk_words.proofs.Passing.{goes_same}
use Rattle.service_core.specs.Agreement.{ServiceAgrees}
use Rattle.thread_service.specs.Reading.{IsKnownWhole}
use Rattle.thread_service.specs.Serving.{core_of, view_in}
use Rattle.thread_service.proofs.PassLemmas.{passes_request}
use Rattle.thread_service.proofs.Standing.{agrees_letters, agrees_seat, answered_requests, history_letters, known_letters}
use Rattle.thread_service.proofs.service.Service.request_passing.Goals as goal

-- a refused one leaves the service and the pass as they were, compared
pub returns-in_err-flush-clause-passes : goal.returns-in_err-flush-clause-passes
returns-in_err-flush-clause-passes c =
    let passed = known_by_pass c.args.pass.now in
    record {
      goes_on = c.compare.ensures.joins.goes_on;
      view = search rules;
      knows = search rules;
      passes = passes_request (setup_in c.args.table.now) (core_of c.args.self.now) passed passed (known_by_pass c.compare.new.pass) c.requires.serves.known (goes_same passed)
          (ap history_of c.compare.ensures.known);
    }

-- compared, the service agrees as it did
pub request_flush-requires-clause-agrees : goal.request_flush-requires-clause-agrees
request_flush-requires-clause-agrees c =
    agrees_seat (setup_in c.args.table.now) (view_in c.args.self.now) (known_by_service c.compare.new.seat) c.args.self.now.core c.compare.new.seat
    c.compare.ensures.view c.requires.serves.serves.agrees

-- the session's own call leaves the service as it agreed, reading no chunk
pub note_request-requires-clause-none_read : goal.note_request-requires-clause-none_read
note_request-requires-clause-none_read c = c.request_flush.ensures.agrees.none_read

-- behind the session's own call the service agrees with the view of its seat, which is as it was
agrees_then : (c : goal.After-note_request) → ServiceAgrees (setup_in c.args.table.now) (known_by_service c.request_flush.new.self.seat) c.request_flush.new.self
agrees_then c = let core = c.request_flush.new.self in
    subst (λ t. ServiceAgrees (setup_in t.table.now) (known_by_service core.seat) core) c.request_flush.ensures.table c.request_flush.ensures.agrees

view_then : (c : goal.After-note_request) → known_by_service c.request_flush.new.self.seat ≡ view_in c.args.self.now
view_then c = ap known_by_service c.request_flush.ensures.keeps.seat ∙ c.compare.ensures.view

-- it made the request that it answered
asked_then : (c : goal.After-note_request) → c.request_flush.new.self.session.requests ≡ asked_in (known_by_service c.request_flush.new.self.seat).letters + 1
asked_then c = let old = core_of c.args.self.now in
    answered_requests _ c.in_ok-flush.flush _ old.session c.request_flush.new.self.session (sym c.in_ok-flush.was ∙ c.request_flush.ensures.answer) c.request_flush.ensures.after
    ∙ ap (λ n. n + 1) (c.requires.serves.serves.asked ∙ sym (ap (λ (v : ServiceView). asked_in v.letters) (view_then c)))

pub returns-clause-serves : goal.returns-clause-serves
returns-clause-serves c =
    let core = c.request_flush.new.self in
    let old = known_by_service core.seat in
    let setup = setup_in c.args.table.now in
    let letters = old.letters ++ Asked (length old.events) ∷ [] in
    let view = c.note_request.ensures.view in
    record {
      serves = record {
        attends = c.note_request.ensures.seat;
        agrees = subst (λ (v : ServiceView). ServiceAgrees setup v (record core { seat = c.note_request.new.seat })) (sym view)
            (agrees_letters old letters setup core c.note_request.new.seat (agrees_then c));
        asked = asked_then c ∙ sym (asked_more old.letters (length old.events)) ∙ sym (ap (λ (v : ServiceView). asked_in v.letters) view);
      };
      passes = c.note_request.ensures.joins.passes;
      known = subst IsKnownWhole (sym (c.note_request.ensures.known ∙ view)) (known_letters old letters (agrees_then c).known);
    }

pub returns-clause-passes : goal.returns-clause-passes
returns-clause-passes c =
    let old = known_by_service c.request_flush.new.self.seat in
    record {
      goes_on = c.compare.ensures.joins.goes_on;
      view = search rules;
      knows = search rules;
      passes = passes_request (setup_in c.args.table.now) (core_of c.args.self.now) (known_by_pass c.args.pass.now) (view_in c.args.self.now) (known_by_pass c.note_request.new.pass)
          c.requires.serves.known c.compare.ensures.joins.goes_on
          (ap history_of (c.note_request.ensures.known ∙ c.note_request.ensures.view) ∙ history_letters old (old.letters ++ Asked (length old.events) ∷ []) (agrees_then c).known ∙ ap history_of (view_then c));
    }
