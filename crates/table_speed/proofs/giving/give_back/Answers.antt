use Rattle.std.proofs.Common.{◌≡◌, ◌+◌, ◌-◌, ◌<◌, ℕ, sym, ap, subst, arith}
use Rattle.chunk_plain.specs.Views.{taken_of}
use Rattle.chunk_plain.specs.Words.{AllArrived}
use Rattle.chunk_words.specs.Knows.{service_of}
use Rattle.table_speed.proofs.TakenLemmas.{arrives}
use Rattle.table_speed.proofs.giving.give_back.Goals as goal

pub note-requires-clause-taken : goal.note-requires-clause-taken
note-requires-clause-taken c =
    let least = c.requires.least in let number = c.from-sequence.ensures in
    let back : c.from-sequence.result + 1 - 2 ≡ c.args.writer - 1 = omega (arith, least, number) in
    subst (λ (p : ℕ). c.args.position < (taken_of (service_of c.args.seat.now.seat.me.0) p).count) (sym back) c.requires.lacks.taken

pub release-requires-clause-arrived : goal.release-requires-clause-arrived
release-requires-clause-arrived c =
    subst AllArrived (sym c.note.ensures.view)
    (arrives (service_of c.args.seat.now.seat.me.0) c.args.writer (c.from-sequence.result + 1) c.args.position c.requires.least
    (ap (λ (n : ℕ). n + 1) c.from-sequence.ensures) c.requires.lacks)

pub returns-clause-arrived : goal.returns-clause-arrived
returns-clause-arrived c =
    subst AllArrived (sym c.release.ensures.view) (subst AllArrived (sym c.note.ensures.view)
    (arrives (service_of c.args.seat.now.seat.me.0) c.args.writer (c.from-sequence.result + 1) c.args.position c.requires.least
    (ap (λ (n : ℕ). n + 1) c.from-sequence.ensures) c.requires.lacks))
