use Rattle.std.proofs.Common.{◌<◌, ◌^◌, ◌∙◌, subst, ap, bit_and, []}
use Rattle.page_geometry.specs.Header.{packed}
use Rattle.page_geometry.specs.declared.chunk_header.ChunkHeader.{ChunkHeader}
use Rattle.page_geometry.specs.PageBits.{HasState, SetsState, KeepsOthers}
use Rattle.page_geometry.specs.declared.chunk_state.ChunkState.TheVariants.{BeingRead, Complete}
use Rattle.atomic_table.specs.Table.{Allows}
use Rattle.chunk_plain.specs.declared.setup.Spot.{Spot}
use Rattle.chunk_plain.specs.Setup.{spot}
use Rattle.chunk_words.specs.Knows.{Service, Known, made_of, desk_of, service_of}
use Rattle.chunk_words.specs.Moves.{Takes}
use Rattle.chunk_words.specs.Places.{front_place}
use Rattle.chunk_words.specs.Rule.{IsShared}
use Rattle.chunk_words.proofs.ServiceMoves.{takes_allowed}
use Rattle.chunk_words.proofs.host.HostTable.step_take.Goals as goal

pub make_and-requires-clause-allowed : goal.make_and-requires-clause-allowed
make_and-requires-clause-allowed c =
    let self = c.args.self.now in let seat = c.args.seat.now.seat in let k = seat.me.0 in let mask = c.take_mask.result in let header = c.args.header in
    let fields = c.requires.next.fields in
    let fact = takes_allowed self.layout self.table.shared.table_id.slots seat.id (made_of k) (desk_of k) c.args.writer c.args.chunk c.args.word (packed header) mask (service_of k) c.requires.chunk c.requires.writer c.requires.none_read c.requires.next.complete
    (ap (λ (h : ChunkHeader). h.writer_id) fields ∙ c.requires.next.writer_is) (ap (λ (h : ChunkHeader). h.chunk_id) fields ∙ c.requires.next.next)
    (subst (λ (s : Spot). (found : _) → found < 2 ^ 64 → HasState found s.place Complete → SetsState found (bit_and found mask) s.place BeingRead) c.spot-spot.ensures.spot c.take_mask.ensures.step)
    (subst (λ (s : Spot). (found : _) → KeepsOthers found (bit_and found mask) s.place) c.spot-spot.ensures.spot c.take_mask.ensures.others) in
    rw (self.key, c.page_index.ensures.here, c.spot-spot.ensures.spot, c.requires.seat.idle, c.requires.next.watch)
    (subst (λ (h : ChunkHeader). Allows (IsShared self.layout) self.table.shared.table_id.slots seat.id (Service 0 (made_of k) (desk_of k) (Known c.args.chunk c.args.word (packed header)) (service_of k), []) (front_place (spot self.layout c.args.chunk).page)
    (λ found. bit_and found mask) (λ _. Takes self.layout c.args.writer c.args.chunk (spot self.layout c.args.chunk).payload_size c.args.word h (Service 0 (made_of k) (desk_of k) (Known c.args.chunk c.args.word (packed header)) (service_of k), []))) fields fact)
