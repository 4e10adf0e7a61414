-- An answer that is newer goes to the session and into the tally; any other changes neither.
use Rattle.std.proofs.Common.{◌∙◌, ℕ, ◌+◌, ◌-◌, ◌^◌, ◌<◌, length, refl, sym, ap, subst, arith}
use Rattle.session_core.specs.declared.answers.Answer.{Answer}
use Rattle.session_core.specs.States.{answered_as}
use Rattle.chunk_plain.specs.Views.{ServiceView}
use Rattle.chunk_words.specs.declared.seats.ServiceSeat.{ServiceSeat}
use Rattle.chunk_words.specs.Moves.{IsLastAnswer}
use Rattle.chunk_words.specs.Sits.{desk_by_service, known_by_service, setup_in}
use Rattle.service_core.specs.declared.service.ServiceCore.{ServiceCore}
use Rattle.thread_service.specs.Serving.{core_of, view_in, desk_in}
use Rattle.thread_host.specs.Growing.{HearsLast}
use Rattle.thread_host.specs.Tally.{IsTally, KeepsAnswers}
use Rattle.thread_host.proofs.KeptAnswers.{answers_passed, answers_same, answers_taken}
use Rattle.thread_host.proofs.ReadAnswers.{accepted, acknowledged, heard_of, hears_last, none_newer, only_session, only_taking, session_acknowledged, session_both, taking_on}
use Rattle.thread_host.proofs.TallyLemmas.{tally_again}
use Rattle.thread_host.proofs.reading.read_answer.Goals as goal

pub is_newer-requires : goal.is_newer-requires
is_newer-requires c = let many = c.requires.tally.tallied.1.many in let inside = c.requires.place in omega (arith, many, inside)

-- a started session refuses no answer to a request that was made
pub unreachable-requires : goal.unreachable-requires
unreachable-requires c =
    let flush = c.answer_of-flush.result.0 in
    let session = only_session (core_of c.args.service.now) (core_of c.answer_of-flush.new.self) c.answer_of-flush.ensures.only in
    let low = c.answer_of-flush.ensures.answer.asked in let same = session.requests in
    let newer = c.is_newer.ensures.0 c.if-is_newer.true in
    let none = accepted (core_of c.answer_of-flush.new.self).session flush (session.state ∙ c.requires.tally.started) (omega (arith, newer)) (omega (arith, low, same)) in
    absurd (let wrong = sym c.in-Err.is ∙ c.acknowledge.ensures.answer ∙ ap (λ o. answered_as o tt) none in cc)

pub add-requires-clause-tally : goal.add-requires-clause-tally
add-requires-clause-tally c = (c.requires.tally.tallied.0, length (setup_in c.args.table.now).writers, (view_in c.args.service.now).letters, c.requires.tally.tallied.1)

pub add-requires-clause-place : goal.add-requires-clause-place
add-requires-clause-place c = let many = c.requires.tally.tallied.1.many in let inside = c.requires.place in omega (arith, many, inside)

pub add-requires-clause-room : goal.add-requires-clause-room
add-requires-clause-room c =
    let low = c.answer_of-flush.ensures.answer.asked in let made = c.requires.serves.asked in let room = c.requires.tally.room in omega (arith, low, made, room)

pub add-requires-clause-newer : goal.add-requires-clause-newer
add-requires-clause-newer c = c.is_newer.ensures.0 c.if-is_newer.true

pub returns-in-Ok : goal.returns-in-Ok
returns-in-Ok c =
    let old = c.args.service.now in let mid = c.answer_of-flush.new.self in let new = c.acknowledge.new.self in
    let flush = c.answer_of-flush.result.0 in let chunks = c.answer_of-flush.result.1 in
    let place : ℕ = c.args.place in
    let writers : ℕ = length (setup_in c.args.table.now).writers in
    let gave = c.answer_of-flush.ensures in let took = c.acknowledge.ensures in
    let session = only_session (core_of old) (core_of mid) gave.only in
    let low = gave.answer.asked in let same = session.requests in let made = c.requires.serves.asked in
    let newer = c.is_newer.ensures.0 c.if-is_newer.true in
    let none = accepted (core_of mid).session flush (session.state ∙ c.requires.tally.started) (omega (arith, newer)) (omega (arith, low, same)) in
    let seen = ap known_by_service took.keeps.seat in
    let desk = ap desk_by_service took.keeps.seat ∙ gave.desk in
    let hears : HearsLast place (view_in old) (view_in new) =
    hears_last (view_in old) (view_in new) place (place + 1) flush chunks (omega arith) (seen ∙ gave.answer.view) (omega (arith, low, made)) gave.answer.heard
    (subst (λ (v : ServiceView). IsLastAnswer v (place + 1 - 1) flush chunks) (sym seen) gave.answer.last) in
    let answer : Answer = record { flush = flush; chunks = chunks } in
    let is = acknowledged (core_of mid).session (core_of new).session flush place (place + 1) answer (omega arith) none took.after in
    record {
      serves = took.serves c.args.table.now gave.serves;
      hears = hears;
      leaves = record {
        desk = desk;
        keeps = taking_on (core_of old) (core_of mid) (core_of new) (only_taking (core_of old) (core_of mid) gave.only) took.keeps;
        session = session_both (core_of old).session (core_of mid).session (core_of new).session session
            (session_acknowledged (core_of mid).session (core_of new).session place answer is);
        kept = λ was.
            let read = c.requires.tally.tallied.1.answered place c.requires.place in
            subst (λ (v : ServiceView). KeepsAnswers writers v.letters (core_of new).session) (sym hears.view)
            (answers_taken writers place flush chunks (view_in old).letters (core_of mid).session (core_of new).session c.requires.place (omega (arith, read, newer)) is
            (answers_same writers (view_in old).letters (view_in old).letters (core_of old).session (core_of mid).session refl
            (ap (λ (core : ServiceCore ServiceSeat). core.session) gave.only) was));
        tallied = λ requests tally. subst (λ (v : ServiceView). IsTally requests writers v.letters c.add.new.self) (sym hears.view)
            (c.add.ensures.tally requests writers (view_in old).letters tally);
      };
      heard = heard_of (view_in old) (view_in new) (desk_in old) (desk_in new) place (place + 1) hears (omega arith) desk gave.answer.told;
    }

pub returns-else-is_newer : goal.returns-else-is_newer
returns-else-is_newer c =
    let old = c.args.service.now in let new = c.answer_of-flush.new.self in
    let flush = c.answer_of-flush.result.0 in let chunks = c.answer_of-flush.result.1 in
    let place : ℕ = c.args.place in
    let writers : ℕ = length (setup_in c.args.table.now).writers in
    let gave = c.answer_of-flush.ensures in
    let low = gave.answer.asked in let made = c.requires.serves.asked in
    let hears : HearsLast place (view_in old) (view_in new) =
    hears_last (view_in old) (view_in new) place (place + 1) flush chunks (omega arith) gave.answer.view (omega (arith, low, made)) gave.answer.heard gave.answer.last in
    let older = none_newer _ flush c.is_newer.result c.is_newer.ensures.1 c.if-is_newer.false in
    record {
      serves = gave.serves;
      hears = hears;
      leaves = record {
        desk = gave.desk;
        keeps = only_taking (core_of old) (core_of new) gave.only;
        session = only_session (core_of old) (core_of new) gave.only;
        kept = λ was.
            let read = c.requires.tally.tallied.1.answered place c.requires.place in
            subst (λ (v : ServiceView). KeepsAnswers writers v.letters (core_of new).session) (sym hears.view)
            (answers_passed writers place flush chunks (view_in old).letters (core_of new).session (omega (arith, read, older))
            (answers_same writers (view_in old).letters (view_in old).letters (core_of old).session (core_of new).session refl
            (ap (λ (core : ServiceCore ServiceSeat). core.session) gave.only) was));
        tallied = λ requests tally.
            let read = tally.answered place c.requires.place in
            let fits : chunks < 2 ^ 32 = omega arith in
            subst (λ (v : ServiceView). IsTally requests writers v.letters c.args.tally.now) (sym hears.view)
            (tally_again requests writers place flush chunks (view_in old).letters c.args.tally.now (omega (arith, read, older)) fits tally);
      };
      heard = heard_of (view_in old) (view_in new) (desk_in old) (desk_in new) place (place + 1) hears (omega arith) gave.desk gave.answer.told;
    }
