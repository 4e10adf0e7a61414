use Rattle.std.proofs.Common.{◌≡◌, ◌+◌, ◌-◌, ◌<◌, ℕ, [], sym, subst, arith}
use Rattle.chunk_plain.specs.Views.{Arrive, taken_of}
use Rattle.chunk_plain.specs.Steps.{notes}
use Rattle.chunk_plain.specs.Words.{AllArrived}
use Rattle.chunk_plain.proofs.ArrivedLemmas.{all_arrived}
use Rattle.chunk_plain_rows.proofs.rounds.give_back.Goals as goal

pub note-requires-clause-taken : goal.note-requires-clause-taken
note-requires-clause-taken g c =
    let least = c.requires.least in
    let number = c.from-sequence.ensures in
    let back : c.from-sequence.result + 1 - 2 ≡ c.args.writer - 1 = omega (arith, least, number) in
    subst (λ (p : ℕ). c.args.position < (taken_of (g.W.Words.means.service_view c.args.table.now c.args.seat.now) p).count) (sym back) c.requires.lacks.taken

-- behind the note all that was taken has arrived
pub release-requires-clause-arrived : goal.release-requires-clause-arrived
release-requires-clause-arrived g c =
    let least = c.requires.least in
    let number = c.from-sequence.ensures in
    let view = g.W.Words.means.service_view c.args.table.now c.args.seat.now in
    let same : c.args.writer - 1 + 2 ≡ c.from-sequence.result + 1 = omega (arith, least, number) in
    subst AllArrived (sym c.note.ensures.view)
    (subst (λ (sequence : ℕ). AllArrived (notes view (Arrive sequence c.args.position))) same
    (all_arrived view (c.args.writer - 1) c.args.position [] c.requires.lacks.others))
