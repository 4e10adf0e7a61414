use Rattle.std.proofs.Common.{◌≡◌, ◌∙◌, ℕ, ◌+◌, List, [], ◌∷◌, ◌++◌, Some, slice_get, length, length-append, sym, ap, subst, arith}
use Rattle.chunk_plain.specs.declared.plain_seats.PlainWriter.{PlainWriter}
use Rattle.chunk_plain.specs.contracts.plain_words.PlainTableWords.TheImpl.{ghosts as plain}
use Rattle.trace_writer.specs.declared.writer.WriterCore.{WriterCore}
use Rattle.replay_host.specs.Making.{IsNewcomer}
use Rattle.replay_host.proofs.MakingLemmas.{pushed_each}
use Rattle.replay_host.proofs.making.fill_writers.Goals as goal

pub loop-place-preserved : goal.loop-place-preserved
loop-place-preserved c =
    let old : List (WriterCore PlainWriter) = c.loop-place.writers.items in
    let one : WriterCore PlainWriter = c.make_writer.result in
    let is = IsNewcomer (plain.means.setup c.args.table.now) in
    let inv = c.loop-place.invariant in
    let items : c.push.new.self.items ≡ old ++ one ∷ [] = c.in-Ok.ensures.items in
    let many : length old ≡ c.loop-place.place = inv.many in
    let capacity = c.in-Ok.ensures.capacity in
    let room = inv.room in
    record {
      many = ap length items ∙ length-append old (one ∷ []) ∙
          (let more : length old + 1 ≡ c.loop-place.place + 1 = omega (arith, many) in more);
      room = omega (arith, room, capacity);
      made = λ place core there.
          pushed_each is old one inv.made (subst (λ (n : ℕ). is n one) (sym many) c.make_writer.ensures) place core
          (subst (λ (cores : List (WriterCore PlainWriter)). slice_get cores place ≡ Some core) items there);
    }
