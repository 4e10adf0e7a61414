use Rattle.std.proofs.Common.{◌≡◌, ◌-◌, ◌<◌, ℕ, length, subst, arith}
use Rattle.page_geometry.specs.Header.{packed}
use Rattle.chunk_plain.specs.Views.{taken_of}
use Rattle.chunk_plain.specs.Words.{LacksArrival, taken_content}
use Rattle.chunk_plain.proofs.ArrivedLemmas.{takes_lacks}
use Rattle.chunk_plain_rows.proofs.rounds.drain.Goals as goal

pub give_back-requires-clause-lacks : goal.give_back-requires-clause-lacks
give_back-requires-clause-lacks g c =
    let setup = g.W.Words.means.setup c.args.table.now in
    let old = g.W.Words.means.service_view c.args.table.now c.args.seat.now in
    let new = g.W.Words.means.service_view c.take.new.self c.take.new.seat in
    let all = (g.met.W.Words.serving c.args.table.now c.args.seat.now c.requires.seat).writers in
    let least = c.requires.writer in
    let most = c.requires.writers in
    let inside : c.args.writer - 1 < length old.taken = omega (arith, all, least, most) in
    subst (λ (n : ℕ). LacksArrival new (c.args.writer - 1) n) c.requires.none_taken
    (takes_lacks setup old new c.args.chunk c.args.writer c.args.id c.in_ok-taken.taken c.in_ok-taken.ensures.taken inside c.requires.arrived)
