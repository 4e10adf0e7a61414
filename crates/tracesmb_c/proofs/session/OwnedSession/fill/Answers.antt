-- What was read waits whole; where a record found no memory, a front part of the trace was given.
use Rattle.std.proofs.Common.{◌≡◌, ◌∙◌, true, false, List, [], ◌∷◌, ◌++◌, sym, ap, subst}
use Rattle.trace_model.specs.Delivery.{trace_of}
use Rattle.trace_model.specs.History as model
use Rattle.trace_model.specs.History.{records_after}
use Rattle.chunk_words.specs.declared.host.HostTable.{HostTable}
use Rattle.chunk_words.specs.Sits.{Passes, setup_in, known_by_pass}
use Rattle.service_core.specs.Reading.{reads_in}
use Rattle.thread_service.specs.Reading.{PassReads}
use Rattle.thread_service.specs.Serving.{Serves, core_of, view_in}
use Rattle.tracesmb_c.specs.declared.reading.TheConstants.{AT_ONCE, BUFFER}
use Rattle.tracesmb_c.specs.Sessions.{known_in}
use Rattle.tracesmb_c.proofs.SessionLemmas.{serves_by, same_taken}
use Rattle.tracesmb_c.proofs.ReadLemmas.{given_next, reads_own, reads_taken, waits_whole}
use Rattle.tracesmb_c.proofs.session.OwnedSession.fill.Goals as goal

pub read_passing-requires-clause-serves : goal.read_passing-requires-clause-serves
read_passing-requires-clause-serves c =
    let session = c.requires.session in
    record {
      serves = subst (λ (t : HostTable). Serves t c.args.self.now.service) (sym c.deref.ensures) session.serves;
      passes = subst (λ (t : HostTable). Passes t c.args.self.now.pass) (sym c.deref.ensures) session.pass;
      known = session.known;
    }

pub returns-in-Ok-clause-session : goal.returns-in-Ok-clause-session
returns-in-Ok-clause-session c =
    let session = c.args.self.now in
    let reads = c.in-Ok.ensures.reads in
    let core = core_of session.service in
    let events = reads_in (setup_in c.deref.result.now) core.buffers.items BUFFER AT_ONCE in
    let new = c.read_passing.new.self in
    serves_by session c.deref.result.now c.deref.ensures new c.read_passing.new.pass _ session.torn c.requires.session
    c.in-Ok.ensures.leaves.serving.serves c.in-Ok.ensures.leaves.serving.passes c.in-Ok.ensures.leaves.serving.known c.in-Ok.ensures.leaves.keeps
    (reads_own (setup_in c.deref.result.now) core events (known_in session) (view_in new) reads.notes)
    (λ _. same_taken (known_in session) (view_in new)
    (reads_taken (setup_in c.deref.result.now) core events (known_in session) (view_in new) reads.notes))

pub returns-in-Err-clause-session : goal.returns-in-Err-clause-session
returns-in-Err-clause-session c =
    let session = c.args.self.now in
    let fails = c.in-Err.ensures.fails in
    let core = core_of session.service in
    let events : List model.Event = fails.firsts ++ model.Read fails.sequence fails.count ∷ [] in
    let new = c.read_passing.new.self in
    serves_by session c.deref.result.now c.deref.ensures new c.read_passing.new.pass _ true c.requires.session
    c.in-Err.ensures.leaves.serving.serves c.in-Err.ensures.leaves.serving.passes c.in-Err.ensures.leaves.serving.known c.in-Err.ensures.leaves.keeps
    (reads_own (setup_in c.deref.result.now) core events (known_in session) (view_in new) fails.notes)
    (λ _. same_taken (known_in session) (view_in new)
    (reads_taken (setup_in c.deref.result.now) core events (known_in session) (view_in new) fails.notes))

pub returns-in-Ok-clause-given : goal.returns-in-Ok-clause-given
returns-in-Ok-clause-given c =
    let session = c.args.self.now in
    let reads = c.in-Ok.ensures.reads in
    let core = core_of session.service in
    let events = reads_in (setup_in c.deref.result.now) core.buffers.items BUFFER AT_ONCE in
    given_next session c.read_passing.new.self c.read_passing.new.pass _ session.torn events
    (subst (λ (t : HostTable). PassReads (setup_in t) core events (known_by_pass session.pass)
    (known_by_pass c.read_passing.new.pass)) c.deref.ensures
    (c.in-Ok.ensures.passes events reads.notes))
    c.in-Ok.ensures.leaves.keeps.fields.specs c.requires.whole c.requires.none_waits
    (λ _. waits_whole c.clear.new.self c.read_passing.new.out
    (trace_of (records_after core.buffers.items events)) c.clear.ensures.bytes c.clear.ensures.handed reads.taken)

pub returns-in-Err-clause-given : goal.returns-in-Err-clause-given
returns-in-Err-clause-given c =
    let session = c.args.self.now in
    let fails = c.in-Err.ensures.fails in
    let core = core_of session.service in
    let events : List model.Event = fails.firsts ++ model.Read fails.sequence fails.count ∷ [] in
    given_next session c.read_passing.new.self c.read_passing.new.pass _ true events
    (subst (λ (t : HostTable). PassReads (setup_in t) core events (known_by_pass session.pass)
    (known_by_pass c.read_passing.new.pass)) c.deref.ensures
    (c.in-Err.ensures.passes events fails.notes))
    c.in-Err.ensures.leaves.keeps.fields.specs c.requires.whole c.requires.none_waits
    (λ whole. let wrong : true ≡ false = whole in absurd (cc))

pub returns-in-Ok-clause-due : goal.returns-in-Ok-clause-due
returns-in-Ok-clause-due c whole =
    let session = c.args.self.now in
    let core = core_of session.service in
    waits_whole c.clear.new.self c.read_passing.new.out
    (trace_of (records_after core.buffers.items (reads_in (setup_in c.deref.result.now) core.buffers.items BUFFER AT_ONCE)))
    c.clear.ensures.bytes c.clear.ensures.handed c.in-Ok.ensures.reads.taken
    ∙ ap (λ (t : HostTable). trace_of
    (records_after core.buffers.items (reads_in (setup_in t) core.buffers.items BUFFER AT_ONCE))) c.deref.ensures
