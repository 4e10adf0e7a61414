use Rattle.std.proofs.Common.{rules, ◌≡◌, ◌∙◌, ◌≤◌, ℕ, Ok, Err, List, length, refl, sym, ap, subst, arith}
use Rattle.std.specs.List.{flat_map}
use Rattle.trace_model.specs.Buffers.{Buffer}
use Rattle.trace_model.specs.History.{buffers_after}
use Rattle.chunk_plain.specs.Histories.{history_of}
use Rattle.chunk_plain.specs.Setup.{Setup}
use Rattle.chunk_plain.specs.Views.{Letter, ServiceView, asked_in}
use Rattle.chunk_words.specs.declared.seats.ServiceSeat.{ServiceSeat}
use Rattle.chunk_words.specs.Sits.{setup_in, known_by_pass}
use Rattle.scenario_text.specs.declared.scenario.LineKind.TheVariants as line
use Rattle.session_core.specs.Sessions.{SessionValue}
use Rattle.service_core.specs.declared.service.ServiceCore.{ServiceCore}
use Rattle.service_core.specs.Agreement.{first_of}
use Rattle.service_core.specs.Reading.{FailsAmong, noted_read, reads_in, read_moment}
use Rattle.service_core.specs.Taking.{noted_more}
use Rattle.replay_model.specs.Flushes.{requests_in}
use Rattle.thread_service.specs.Serving.{core_of, view_in}
use Rattle.thread_host.specs.Jobs.{FailsLine, TellsLine}
use Rattle.thread_host.specs.Tally.{IsTally}
use Rattle.thread_host.specs.Turns.{IsNext}
use Rattle.thread_host.proofs.Growing.{read_grows}
use Rattle.thread_host.proofs.KeptAnswers.{answers_same}
use Rattle.thread_host.proofs.Telling.{locked_fails, locked_tells, reads_up_to}
use Rattle.thread_host.proofs.Turning.{turns_line, turns_stop}
use Rattle.thread_host.proofs.locked.Locked.read_passing.Goals as goal

pub returns-in-Ok-clause-told : goal.returns-in-Ok-clause-told
returns-in-Ok-clause-told g c =
    let setup_is = c.requires.table.setup_is in
    let core = core_of c.args.self.now.service in
    let passed = known_by_pass c.args.pass.now in let pass = known_by_pass c.read_passing.new.pass in
    let before = g.O.Sink.taken c.args.out.now in let after = g.O.Sink.taken c.read_passing.new.out in
    subst (λ (setup : Setup). TellsLine setup g.N.HostName.first (line.Read c.args.buffer c.args.limit) passed pass before after)
    setup_is
    (locked_tells (setup_in c.args.table.now) core c.args.buffer c.args.limit (view_in c.args.self.now.service) (view_in c.read_passing.new.self)
    passed pass before after g.N.HostName.first (ap (λ (setup : Setup). first_of setup core) setup_is ∙ c.args.self.now.began)
    (Ok c.in-Ok.delivered) c.in-Ok.ensures.reads c.read_passing.ensures.passes c.read_passing.ensures.leaves.asked)

pub returns-in-Err-clause-told : goal.returns-in-Err-clause-told
returns-in-Err-clause-told g c =
    let setup_is = c.requires.table.setup_is in
    let core = core_of c.args.self.now.service in
    let passed = known_by_pass c.args.pass.now in let pass = known_by_pass c.read_passing.new.pass in
    let before = g.O.Sink.taken c.args.out.now in let after = g.O.Sink.taken c.read_passing.new.out in
    subst (λ (setup : Setup). FailsLine setup g.N.HostName.first (line.Read c.args.buffer c.args.limit) passed pass before after) setup_is
    (locked_fails (setup_in c.args.table.now) core c.args.buffer c.args.limit (view_in c.args.self.now.service) (view_in c.read_passing.new.self)
    passed pass before after g.N.HostName.first (ap (λ (setup : Setup). first_of setup core) setup_is ∙ c.args.self.now.began)
    (Err c.in-Err.fault) c.in-Err.ensures.fails c.read_passing.ensures.passes)

-- what the buffers held when the line was played
held : (setup named : Setup) (core : ServiceCore ServiceSeat) (first : List Buffer) (view : ServiceView) → setup ≡ named
    → core.buffers.items ≡ buffers_after (first_of setup core) (history_of view) → first_of named core ≡ first
    → core.buffers.items ≡ buffers_after first (history_of view)
held setup named core first view same holds began =
    holds ∙ ap (λ (bs : List Buffer). buffers_after bs (history_of view)) (ap (λ (s : Setup). first_of s core) same ∙ began)

pub invariant_of-self : goal.invariant_of-self
invariant_of-self g c =
    let named = g.N.HostName.setup in
    let setup_is = c.requires.table.setup_is in
    let core = core_of c.args.self.now.service in
    let old = view_in c.args.self.now.service in let new = view_in c.read_passing.new.self in
    let before = g.O.Sink.taken c.args.out.now in let after = g.O.Sink.taken c.read_passing.new.out in
    let letters = c.read_passing.ensures.leaves.letters in
    let kind = line.Read c.args.buffer c.args.limit in
    record {
      serves = search rules;
      «open» = search rules;
      began = search rules;
      own = search rules;
      grows = read_grows named (setup_in c.args.table.now) g.N.HostName.lines core c.args.buffer c.args.limit g.N.HostName.start old new before after c.read_passing.result
          c.read_passing.ensures.reads c.read_passing.ensures.fails c.args.self.now.grows;
      played =
          let same = c.audit.ensures.whole (c.turns.invariant ∙ c.requires.turn.whole.0) in
          let total = c.audit.ensures.total in let one = c.add.ensures.total in let other = c.add-in-Ok.ensures.total in
          turns_line named g.N.HostName.first g.N.HostName.lines c.args.self.now.book.total c.add-in-Ok.new.self.total kind g.N.HostName.start old new
          (subst (λ (n : ℕ). IsNext g.N.HostName.lines n kind) (sym c.turns.view_is ∙ same) c.requires.turn.next) (omega (arith, total, one, other))
          (c.in-Ok.ensures.reads.notes.view
          ∙ ap (λ (s : Setup). noted_more old (flat_map noted_read (reads_in s core.buffers.items c.args.buffer c.args.limit))) setup_is
          ∙ ap (λ (bs : List Buffer). noted_more old (flat_map noted_read (reads_in named bs c.args.buffer c.args.limit)))
          (held (setup_in c.args.table.now) named core g.N.HostName.first old setup_is
          (c.args.self.now.serves c.args.table.now c.requires.table).agrees.buffers c.args.self.now.began))
          c.args.self.now.played;
      started = ap (λ (s : SessionValue). s.state) c.read_passing.ensures.leaves.keeps.fields.session ∙ c.args.self.now.started;
      few = subst (λ (l : List Letter). asked_in l ≤ requests_in g.N.HostName.lines) (sym letters) c.args.self.now.few;
      tallied = subst (λ (l : List Letter). IsTally (requests_in g.N.HostName.lines) (length named.writers) l c.args.self.now.tally) (sym letters) c.args.self.now.tallied;
      kept = answers_same (length named.writers) old.letters new.letters (core_of c.args.self.now.service).session (core_of c.read_passing.new.self).session letters
          c.read_passing.ensures.leaves.keeps.fields.session c.args.self.now.kept;
    }

pub invariant_of-self-in-Err-1 : goal.invariant_of-self-in-Err-1
unfolding reads_up_to
invariant_of-self-in-Err-1 g c =
    let named = g.N.HostName.setup in
    let setup_is = c.requires.table.setup_is in
    let core = core_of c.args.self.now.service in
    let old = view_in c.args.self.now.service in let new = view_in c.read_passing.new.self in
    let before = g.O.Sink.taken c.args.out.now in let after = g.O.Sink.taken c.read_passing.new.out in
    let letters = c.read_passing.ensures.leaves.letters in
    let kind = line.Read c.args.buffer c.args.limit in
    let fails = subst (λ (s : Setup). FailsAmong s core c.args.buffer c.args.limit (read_moment old before) (read_moment new after)) setup_is c.in-Err.ensures.fails in
    record {
      serves = search rules;
      «open» = search rules;
      began = search rules;
      own = search rules;
      grows = read_grows named (setup_in c.args.table.now) g.N.HostName.lines core c.args.buffer c.args.limit g.N.HostName.start old new before after c.read_passing.result
          c.read_passing.ensures.reads c.read_passing.ensures.fails c.args.self.now.grows;
      played =
          let same = c.audit.ensures.whole (c.turns.invariant ∙ c.requires.turn.whole.0) in
          let total = c.audit.ensures.total in let one = c.add.ensures.total in
          turns_stop named g.N.HostName.first g.N.HostName.lines c.args.self.now.book.total c.add.new.self.total kind fails.fails.failed g.N.HostName.start old new
          (subst (λ (n : ℕ). IsNext g.N.HostName.lines n kind) (sym c.turns.view_is ∙ same) c.requires.turn.next) (omega (arith, total, one))
          (reads_up_to named core c.args.buffer c.args.buffer c.args.limit old new before after fails g.N.HostName.first (history_of old) (history_of new) refl
          (held (setup_in c.args.table.now) named core g.N.HostName.first old setup_is
          (c.args.self.now.serves c.args.table.now c.requires.table).agrees.buffers c.args.self.now.began) fails.notes.history)
          fails.notes.view c.args.self.now.played;
      started = ap (λ (s : SessionValue). s.state) c.read_passing.ensures.leaves.keeps.fields.session ∙ c.args.self.now.started;
      few = subst (λ (l : List Letter). asked_in l ≤ requests_in g.N.HostName.lines) (sym letters) c.args.self.now.few;
      tallied = subst (λ (l : List Letter). IsTally (requests_in g.N.HostName.lines) (length named.writers) l c.args.self.now.tally) (sym letters) c.args.self.now.tallied;
      kept = answers_same (length named.writers) old.letters new.letters (core_of c.args.self.now.service).session (core_of c.read_passing.new.self).session letters
          c.read_passing.ensures.leaves.keeps.fields.session c.args.self.now.kept;
    }
