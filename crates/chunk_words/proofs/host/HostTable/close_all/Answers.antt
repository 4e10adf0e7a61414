use Rattle.std.proofs.Common.{ap, subst}
use Rattle.std.specs.Mem.Slots.{slots_items}
use Rattle.atomic_table.specs.Table.{Final, Seen}
use Rattle.chunk_plain.specs.Setup.{Setup}
use Rattle.chunk_words.specs.Closed.{views_of}
use Rattle.chunk_words.specs.Knows.{Knows, made_of, desk_of, watch_of, service_of}
use Rattle.chunk_words.specs.Moves.{Mine}
use Rattle.chunk_words.specs.Rule.{IsShared}
use Rattle.chunk_words.proofs.Closing.{all_done, all_count, closed_account, closed_goes, closed_taken, closed_unused}
use Rattle.chunk_words.proofs.host.HostTable.close_all.Goals as goal

pub returns-clause-unused : goal.returns-clause-unused
returns-clause-unused c =
    let self = c.args.self in let me = c.args.service.seat.me.0 in let seats = c.args.seats.items in let last = c.join_all.new.service.seat in
    let words = slots_items c.close_with.result.words in let slots = slots_items c.close_with.result.slots in
    let final = subst (λ (k : Knows). Final (Seen (IsShared self.layout) last.id k) words slots) (ap (λ (m : Mine). m.0) c.join_all.ensures.me)
    (subst (λ (s : Setup). Final (Seen (IsShared s) last.id last.me.0) words slots) self.key c.close_with.ensures.values.2) in
    closed_unused self.layout last.id (made_of me) (desk_of me) (views_of seats) (watch_of me) (service_of me) words slots final
    (all_count self (service_of me) seats c.requires.seats) (all_done self (service_of me) seats c.requires.seats) c.requires.none_out

pub returns-clause-account : goal.returns-clause-account
returns-clause-account c =
    let self = c.args.self in let me = c.args.service.seat.me.0 in let seats = c.args.seats.items in let last = c.join_all.new.service.seat in
    let words = slots_items c.close_with.result.words in let slots = slots_items c.close_with.result.slots in
    let final = subst (λ (k : Knows). Final (Seen (IsShared self.layout) last.id k) words slots) (ap (λ (m : Mine). m.0) c.join_all.ensures.me)
    (subst (λ (s : Setup). Final (Seen (IsShared s) last.id last.me.0) words slots) self.key c.close_with.ensures.values.2) in
    closed_account self.layout last.id (made_of me) (desk_of me) (views_of seats) (watch_of me) (service_of me) words slots final
    (all_count self (service_of me) seats c.requires.seats) (all_done self (service_of me) seats c.requires.seats)

pub returns-clause-goes_on : goal.returns-clause-goes_on
returns-clause-goes_on c known here =
    let self = c.args.self in let me = c.args.service.seat.me.0 in let seats = c.args.seats.items in let last = c.join_all.new.service.seat in
    let words = slots_items c.close_with.result.words in let slots = slots_items c.close_with.result.slots in
    let final = subst (λ (k : Knows). Final (Seen (IsShared self.layout) last.id k) words slots) (ap (λ (m : Mine). m.0) c.join_all.ensures.me)
    (subst (λ (s : Setup). Final (Seen (IsShared s) last.id last.me.0) words slots) self.key c.close_with.ensures.values.2) in
    closed_goes self.layout last.id (made_of me) (desk_of me) (views_of seats) (watch_of me) (service_of me) words slots final
    (all_count self (service_of me) seats c.requires.seats) (all_done self (service_of me) seats c.requires.seats) known here

pub returns-clause-taken : goal.returns-clause-taken
returns-clause-taken c =
    let self = c.args.self in let me = c.args.service.seat.me.0 in let seats = c.args.seats.items in let last = c.join_all.new.service.seat in
    let words = slots_items c.close_with.result.words in let slots = slots_items c.close_with.result.slots in
    let final = subst (λ (k : Knows). Final (Seen (IsShared self.layout) last.id k) words slots) (ap (λ (m : Mine). m.0) c.join_all.ensures.me)
    (subst (λ (s : Setup). Final (Seen (IsShared s) last.id last.me.0) words slots) self.key c.close_with.ensures.values.2) in
    closed_taken self.layout last.id (made_of me) (desk_of me) (views_of seats) (watch_of me) (service_of me) words slots final
    (all_count self (service_of me) seats c.requires.seats) (all_done self (service_of me) seats c.requires.seats)
