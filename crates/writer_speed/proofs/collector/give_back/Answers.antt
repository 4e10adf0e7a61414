use Rattle.std.proofs.Common.{◌≡◌, ℕ, [], sym, subst}
use Rattle.chunk_plain.specs.Views.{Arrive, ServiceView}
use Rattle.chunk_plain.specs.Steps.{notes}
use Rattle.chunk_plain.specs.Words.{AllArrived, OthersArrived}
use Rattle.chunk_plain.proofs.ArrivedLemmas.{all_arrived}
use Rattle.writer_speed.proofs.collector.give_back.Goals as goal

pub note-requires-clause-taken : goal.note-requires-clause-taken
note-requires-clause-taken g c = c.requires.lacks.taken

-- behind the note all that was taken has arrived
arrived_then : (old new : ServiceView) (position : ℕ) → new ≡ notes old (Arrive 2 position) → OthersArrived old 0 position → AllArrived new
arrived_then old new position same others = subst AllArrived (sym same) (all_arrived old 0 position [] others)

pub release-requires-clause-arrived : goal.release-requires-clause-arrived
release-requires-clause-arrived g c =
    arrived_then (g.W.Words.means.service_view c.args.table.now c.args.seat.now) (g.W.Words.means.service_view c.note.new.self c.note.new.seat)
    c.args.position c.note.ensures.view c.requires.lacks.others

pub returns-clause-arrived : goal.returns-clause-arrived
returns-clause-arrived g c = subst AllArrived (sym c.release.ensures.view)
    (arrived_then (g.W.Words.means.service_view c.args.table.now c.args.seat.now) (g.W.Words.means.service_view c.note.new.self c.note.new.seat)
    c.args.position c.note.ensures.view c.requires.lacks.others)
