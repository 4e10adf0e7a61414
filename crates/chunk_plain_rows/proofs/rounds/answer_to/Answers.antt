use Rattle.std.proofs.Common.{◌≡◌, ℕ, ◌<◌, ◌-◌, ◌∙◌, List, [], ◌∷◌, length, get_or, sym, ap, arith, rules, Option, unwrap_or}
use Rattle.chunk_plain.specs.Views.{WriterView, ServiceView, Taken, none_taken, taken_of}
use Rattle.chunk_plain.specs.World.{World, writer, nowhere}
use Rattle.chunk_plain.specs.Owned.{held_count}
use Rattle.chunk_plain.proofs.MadeLemmas.{all_same}
use Rattle.chunk_plain.proofs.ArrivedLemmas.{none_lacks}
use Rattle.chunk_plain.specs.Setup.{Setup, id_at}
use Rattle.chunk_plain_rows.proofs.rounds.answer_to.Goals as goal
use Rattle.chunk_plain_rows.proofs.SameWriters.{from_of_two}
use Rattle.trace_base.specs.Ids.{id_of}
use Rattle.trace_base.proofs.IdLemmas.{id_first}
use Rattle.trace_base.specs.declared.policy.WriterPolicy.TheVariants.{Drops}

pub fill-requires-else-not-fill-clause-seat : goal.fill-requires-else-not-fill-clause-seat
fill-requires-else-not-fill-clause-seat c =
    let sits = c.in_ok-table.ensures.sits (record { place = 1 }) (search rules) in
    (c.fill.ensures.step.writers_stay (record { place = 1 }) sits (λ e. absurd (omega arith))).0

pub fill-requires-else-not-fill-clause-few : goal.fill-requires-else-not-fill-clause-few
fill-requires-else-not-fill-clause-few c =
    let sits = c.in_ok-table.ensures.sits (record { place = 1 }) (search rules) in
    let stays = (c.fill.ensures.step.writers_stay (record { place = 1 }) sits (λ e. absurd (omega arith))).1 in
    let first = ap (λ (o : Option World). unwrap_or o nowhere) c.in_ok-table.ensures.told in
    let none : held_count (writer c.fill.new.table.told.world 1).begun ≡ 0 = ap (λ (v : WriterView). held_count v.begun) (stays ∙ ap (λ (w : World). writer w 1) first) in
    omega arith

pub fill-requires-else-not-fill-clause-few_begun : goal.fill-requires-else-not-fill-clause-few_begun
fill-requires-else-not-fill-clause-few_begun c =
    let sits = c.in_ok-table.ensures.sits (record { place = 1 }) (search rules) in
    let stays = (c.fill.ensures.step.writers_stay (record { place = 1 }) sits (λ e. absurd (omega arith))).1 in
    let first = ap (λ (o : Option World). unwrap_or o nowhere) c.in_ok-table.ensures.told in
    let none : length (writer c.fill.new.table.told.world 1).begun ≡ 0 = ap (λ (v : WriterView). length v.begun) (stays ∙ ap (λ (w : World). writer w 1) first) in
    omega arith

-- the first chunk of a writer has the writer's first id
pub fill-requires-clause-id : goal.fill-requires-clause-id
fill-requires-clause-id c =
    let first = ap (λ (o : Option World). unwrap_or o nowhere) c.in_ok-table.ensures.told in
    let none : length (writer c.in_ok-table.table.told.world 0).begun ≡ 0 = ap (λ (w : World). length (writer w 0).begun) first in
    sym (ap (λ (s : Setup). id_at s 0 (length (writer c.in_ok-table.table.told.world 0).begun)) c.in_ok-table.ensures.setup
    ∙ ap (id_of 9) none ∙ id_first 9 (omega arith))

pub fill-requires-else-not-fill-clause-id : goal.fill-requires-else-not-fill-clause-id
fill-requires-else-not-fill-clause-id c =
    let sits = c.in_ok-table.ensures.sits (record { place = 1 }) (search rules) in
    let stays = (c.fill.ensures.step.writers_stay (record { place = 1 }) sits (λ e. absurd (omega arith))).1 in
    let first = ap (λ (o : Option World). unwrap_or o nowhere) c.in_ok-table.ensures.told in
    let none : length (writer c.fill.new.table.told.world 1).begun ≡ 0 = ap (λ (v : WriterView). length v.begun) (stays ∙ ap (λ (w : World). writer w 1) first) in
    sym (ap (λ (s : Setup). id_at s 1 (length (writer c.fill.new.table.told.world 1).begun)) (c.fill.ensures.step.setup_stays ∙ c.in_ok-table.ensures.setup)
    ∙ ap (id_of 9) none ∙ id_first 9 (omega arith))

pub look-requires-clause-seat : goal.look-requires-clause-seat
look-requires-clause-seat c =
    let service = c.in_ok-table.service in
    let one = (c.fill.ensures.step.service_stays service c.in_ok-table.ensures.serves).0 in
    (c.fill-else-not-fill.ensures.step.service_stays service one).0

pub drain-requires-clause-id : goal.drain-requires-clause-id
drain-requires-clause-id c =
    let service = c.in_ok-table.service in let place = c.args.writer - 1 in
    let first = ap (λ (o : Option World). (unwrap_or o nowhere).service) c.in_ok-table.ensures.told in
    let one = c.fill.ensures.step.service_stays service c.in_ok-table.ensures.serves in
    let two = c.fill-else-not-fill.ensures.step.service_stays service one.0 in
    let looked = ap (λ (s : ServiceView). s.taken) c.look.ensures.view.view in
    let all = looked ∙ ap (λ (s : ServiceView). s.taken) (two.1 ∙ (one.1 ∙ first)) in
    let two_writers : List ℕ = 0 ∷ 0 ∷ [] in
    let none = ap (λ (l : List Taken). (get_or l place none_taken).count) all ∙ ap (λ (t : Taken). t.count) (all_same none_taken two_writers place) in
    let setup_is = c.look.ensures.step.setup_stays ∙ (c.fill-else-not-fill.ensures.step.setup_stays ∙ (c.fill.ensures.step.setup_stays ∙ c.in_ok-table.ensures.setup)) in
    sym (ap (λ (s : Setup). id_at s place (taken_of c.look.new.self.told.world.service place).count) setup_is
    ∙ ap (λ (n : ℕ). id_of n (taken_of c.look.new.self.told.world.service place).count) (let most = c.requires.most in from_of_two (record { producer = 1; buffer = 1; policy = Drops; from = 9 }) place (let low : place < 2 = omega (arith, most) in low))
    ∙ ap (id_of 9) none ∙ id_first 9 (omega arith))

pub drain-requires-clause-none_out : goal.drain-requires-clause-none_out
drain-requires-clause-none_out c =
    let service = c.in_ok-table.service in
    let first = ap (λ (o : Option World). (unwrap_or o nowhere).service) c.in_ok-table.ensures.told in
    let one = c.fill.ensures.step.service_stays service c.in_ok-table.ensures.serves in
    let two = c.fill-else-not-fill.ensures.step.service_stays service one.0 in
    ap (λ (s : ServiceView). s.reading) c.look.ensures.view.view ∙ ap (λ (s : ServiceView). s.reading) (two.1 ∙ (one.1 ∙ first))

-- the service has taken nothing by then, of any writer
none_then : (c : goal.After-service-3-1) (place : ℕ) → (taken_of c.look.new.self.told.world.service place).count ≡ 0
none_then c place =
    let service = c.in_ok-table.service in
    let first = ap (λ (o : Option World). (unwrap_or o nowhere).service) c.in_ok-table.ensures.told in
    let one = c.fill.ensures.step.service_stays service c.in_ok-table.ensures.serves in
    let two = c.fill-else-not-fill.ensures.step.service_stays service one.0 in
    let looked = ap (λ (s : ServiceView). s.taken) c.look.ensures.view.view in
    let all = looked ∙ ap (λ (s : ServiceView). s.taken) (two.1 ∙ (one.1 ∙ first)) in
    let two_writers : List ℕ = 0 ∷ 0 ∷ [] in
    ap (λ (l : List Taken). (get_or l place none_taken).count) all ∙ ap (λ (t : Taken). t.count) (all_same none_taken two_writers place)

pub drain-requires-clause-none_taken : goal.drain-requires-clause-none_taken
drain-requires-clause-none_taken c = none_then c (c.args.writer - 1)

pub drain-requires-clause-arrived : goal.drain-requires-clause-arrived
drain-requires-clause-arrived c = none_lacks c.look.new.self.told.world.service (none_then c)
