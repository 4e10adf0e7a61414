use Rattle.std.proofs.Common.{◌≡◌, ◌∙◌, ◌<◌, [], length, refl, ap, arith}
use Rattle.chunk_words.specs.Knows.{hand_of, service_of, by_service}
use Rattle.chunk_words.specs.Moves.{Mine}
use Rattle.chunk_words.proofs.Loading.{loaded_found, loaded_read}
use Rattle.chunk_words.proofs.Rests.{attends_now}
use Rattle.chunk_words.proofs.host.HostTable.load.Goals as goal

pub returns-clause-loads : goal.returns-clause-loads
returns-clause-loads c =
    let self = c.args.self.now in let bytes = c.load_words.new.into in
    let some : 0 < length bytes = let least = self.laid.least c.args.chunk c.requires.chunk in let size = c.requires.size in let same = c.load_words.ensures.size in omega arith in
    record {
      size = c.load_words.ensures.size;
      found = loaded_found c.args.chunk (length bytes) bytes c.args.seat.now.seat.me c.load_words.new.seat.seat.me c.load_words.ensures.me refl some;
      read = loaded_read self.layout c.args.chunk (length bytes) bytes c.args.seat.now.seat.me c.load_words.new.seat.seat.me c.load_words.ensures.me refl some
          c.requires.seat.waits.serving;
    }

pub returns-clause-seat : goal.returns-clause-seat
returns-clause-seat c =
    let seat = c.args.seat.now in let loads = c.load_words.ensures.me in let waits = c.requires.seat.waits in
    let hand : hand_of seat.seat.me.0 ≡ 0 = ap (λ (m : Mine). hand_of m.0) waits.idle in
    let none : seat.seat.me.1 ≡ [] = ap (λ (m : Mine). m.1) waits.idle in
    attends_now c.args.self.now seat c.load_words.new.seat loads.watch (service_of seat.seat.me.0) c.requires.seat c.load_words.ensures.seat
    (loads.new_is ∙ (ap (λ l. let m : Mine = (by_service (hand_of seat.seat.me.0) loads.watch (λ v. v) seat.seat.me.0, l) in m) none
    ∙ ap (λ h. let m : Mine = (by_service h loads.watch (λ v. v) seat.seat.me.0, []) in m) hand))
    waits.serving waits.seen
