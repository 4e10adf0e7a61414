-- Each kind of line is played as it says.
use Rattle.std.proofs.Common.{◌∙◌, [], refl}
use Rattle.replay_host.proofs.FieldLemmas.{on_ok_map, if_err_map}
use Rattle.replay_host.proofs.KindLemmas.{comes_packet, comes_begin, comes_fields, comes_nest, comes_unnest, comes_flush, comes_collect, comes_scrape, comes_read, comes_clone}
use Rattle.replay_host.proofs.GoingLemmas.{done_none}
use Rattle.replay_host.proofs.ServedLineLemmas.{served_played}
use Rattle.replay_host.proofs.lines.Host+W+W+Writer+W+Service.play_line.Goals as goal

pub play_packet-requires : goal.play_packet-requires
play_packet-requires g c =
    record { next = (c.requires.next.0, comes_packet g.W.Words.means c.requires.next.0 c.args.self.now c.in-Packet.writer c.place_of.result c.place_of.ensures c.in-Packet.fields (c.requires.next.1 ∙ c.in-Packet.is) c.requires.next.2) }

pub returns-in-Packet-clause-played : goal.returns-in-Packet-clause-played
returns-in-Packet-clause-played g c =
    on_ok_map c.play_packet.result _ _ c.play_packet.ensures.played
    (λ played moment what next. played moment (comes_packet g.W.Words.means moment c.args.self.now c.in-Packet.writer c.place_of.result c.place_of.ensures c.in-Packet.fields (what ∙ c.in-Packet.is) next) (g.O.Sink.taken c.args.out.now))

pub returns-in-Packet-clause-stops : goal.returns-in-Packet-clause-stops
returns-in-Packet-clause-stops g c =
    if_err_map c.play_packet.result _ _ c.play_packet.ensures.stops
    (λ fault stops moment what next. stops moment (comes_packet g.W.Words.means moment c.args.self.now c.in-Packet.writer c.place_of.result c.place_of.ensures c.in-Packet.fields (what ∙ c.in-Packet.is) next) (g.O.Sink.taken c.args.out.now))

pub play_call-requires-clause-next : goal.play_call-requires-clause-next
play_call-requires-clause-next g c =
    (c.requires.next.0, comes_begin g.W.Words.means c.requires.next.0 c.args.self.now c.in-Begin.writer c.place_of-in-Begin.result c.place_of-in-Begin.ensures (c.requires.next.1 ∙ c.in-Begin.is) c.requires.next.2)

pub returns-in-Begin-clause-played : goal.returns-in-Begin-clause-played
returns-in-Begin-clause-played g c =
    on_ok_map c.play_call.result _ _ c.play_call.ensures.played
    (λ played moment what next. played moment (comes_begin g.W.Words.means moment c.args.self.now c.in-Begin.writer c.place_of-in-Begin.result c.place_of-in-Begin.ensures (what ∙ c.in-Begin.is) next) (g.O.Sink.taken c.args.out.now))

pub returns-in-Begin-clause-stops : goal.returns-in-Begin-clause-stops
returns-in-Begin-clause-stops g c =
    if_err_map c.play_call.result _ _ c.play_call.ensures.stops
    (λ fault stops moment what next. stops moment (comes_begin g.W.Words.means moment c.args.self.now c.in-Begin.writer c.place_of-in-Begin.result c.place_of-in-Begin.ensures (what ∙ c.in-Begin.is) next) (g.O.Sink.taken c.args.out.now))

pub play_fields-requires : goal.play_fields-requires
play_fields-requires g c =
    record { next = (c.requires.next.0, comes_fields g.W.Words.means c.requires.next.0 c.args.self.now c.in-Add.writer c.place_of-in-Add.result c.place_of-in-Add.ensures c.in-Add.fields (c.requires.next.1 ∙ c.in-Add.is) c.requires.next.2) }

pub returns-in-Add-clause-played : goal.returns-in-Add-clause-played
returns-in-Add-clause-played g c =
    on_ok_map c.play_fields.result _ _ c.play_fields.ensures.played
    (λ played moment what next. played moment (comes_fields g.W.Words.means moment c.args.self.now c.in-Add.writer c.place_of-in-Add.result c.place_of-in-Add.ensures c.in-Add.fields (what ∙ c.in-Add.is) next) (g.O.Sink.taken c.args.out.now))

pub returns-in-Add-clause-stops : goal.returns-in-Add-clause-stops
returns-in-Add-clause-stops g c =
    if_err_map c.play_fields.result _ _ c.play_fields.ensures.stops
    (λ fault stops moment what next. stops moment (comes_fields g.W.Words.means moment c.args.self.now c.in-Add.writer c.place_of-in-Add.result c.place_of-in-Add.ensures c.in-Add.fields (what ∙ c.in-Add.is) next) (g.O.Sink.taken c.args.out.now))

pub play_call-requires-in-Nest-clause-next : goal.play_call-requires-in-Nest-clause-next
play_call-requires-in-Nest-clause-next g c =
    (c.requires.next.0, comes_nest g.W.Words.means c.requires.next.0 c.args.self.now c.in-Nest.writer c.place_of-in-Nest.result c.place_of-in-Nest.ensures c.in-Nest.field (c.requires.next.1 ∙ c.in-Nest.is) c.requires.next.2)

pub returns-in-Nest-clause-played : goal.returns-in-Nest-clause-played
returns-in-Nest-clause-played g c =
    on_ok_map c.play_call-in-Nest.result _ _ c.play_call-in-Nest.ensures.played
    (λ played moment what next. played moment (comes_nest g.W.Words.means moment c.args.self.now c.in-Nest.writer c.place_of-in-Nest.result c.place_of-in-Nest.ensures c.in-Nest.field (what ∙ c.in-Nest.is) next) (g.O.Sink.taken c.args.out.now))

pub returns-in-Nest-clause-stops : goal.returns-in-Nest-clause-stops
returns-in-Nest-clause-stops g c =
    if_err_map c.play_call-in-Nest.result _ _ c.play_call-in-Nest.ensures.stops
    (λ fault stops moment what next. stops moment (comes_nest g.W.Words.means moment c.args.self.now c.in-Nest.writer c.place_of-in-Nest.result c.place_of-in-Nest.ensures c.in-Nest.field (what ∙ c.in-Nest.is) next) (g.O.Sink.taken c.args.out.now))

pub play_call-requires-in-Unnest-clause-next : goal.play_call-requires-in-Unnest-clause-next
play_call-requires-in-Unnest-clause-next g c =
    (c.requires.next.0, comes_unnest g.W.Words.means c.requires.next.0 c.args.self.now c.in-Unnest.writer c.place_of-in-Unnest.result c.place_of-in-Unnest.ensures (c.requires.next.1 ∙ c.in-Unnest.is) c.requires.next.2)

pub returns-in-Unnest-clause-played : goal.returns-in-Unnest-clause-played
returns-in-Unnest-clause-played g c =
    on_ok_map c.play_call-in-Unnest.result _ _ c.play_call-in-Unnest.ensures.played
    (λ played moment what next. played moment (comes_unnest g.W.Words.means moment c.args.self.now c.in-Unnest.writer c.place_of-in-Unnest.result c.place_of-in-Unnest.ensures (what ∙ c.in-Unnest.is) next) (g.O.Sink.taken c.args.out.now))

pub returns-in-Unnest-clause-stops : goal.returns-in-Unnest-clause-stops
returns-in-Unnest-clause-stops g c =
    if_err_map c.play_call-in-Unnest.result _ _ c.play_call-in-Unnest.ensures.stops
    (λ fault stops moment what next. stops moment (comes_unnest g.W.Words.means moment c.args.self.now c.in-Unnest.writer c.place_of-in-Unnest.result c.place_of-in-Unnest.ensures (what ∙ c.in-Unnest.is) next) (g.O.Sink.taken c.args.out.now))

pub play_flush-requires : goal.play_flush-requires
play_flush-requires g c =
    record { next = (c.requires.next.0, comes_flush g.W.Words.means c.requires.next.0 c.args.self.now c.in-Flush.writer c.place_of-in-Flush.result c.place_of-in-Flush.ensures (c.requires.next.1 ∙ c.in-Flush.is) c.requires.next.2) }

pub returns-in-Flush-clause-played : goal.returns-in-Flush-clause-played
returns-in-Flush-clause-played g c moment what next = c.play_flush.ensures.played moment (comes_flush g.W.Words.means moment c.args.self.now c.in-Flush.writer c.place_of-in-Flush.result c.place_of-in-Flush.ensures (what ∙ c.in-Flush.is) next) (g.O.Sink.taken c.args.out.now)

pub play_collect-requires : goal.play_collect-requires
play_collect-requires g c =
    let comes = comes_collect g.W.Words.means c.requires.next.0 c.args.self.now c.in-Collect.producer (c.requires.next.1 ∙ c.in-Collect.is) c.requires.next.2 in
    record { next = (c.requires.next.0, comes.0, comes.1) }

pub returns-in-Collect-clause-played : goal.returns-in-Collect-clause-played
returns-in-Collect-clause-played g c moment what next = c.play_collect.ensures.played moment (comes_collect g.W.Words.means moment c.args.self.now c.in-Collect.producer (what ∙ c.in-Collect.is) next).0 (g.O.Sink.taken c.args.out.now)

pub play_scrape-requires : goal.play_scrape-requires
play_scrape-requires g c =
    let comes = comes_scrape g.W.Words.means c.requires.next.0 c.args.self.now c.in-Scrape.producer (c.requires.next.1 ∙ c.in-Scrape.is) c.requires.next.2 in
    record { next = (c.requires.next.0, comes.0, comes.1) }

pub returns-in-Scrape-clause-played : goal.returns-in-Scrape-clause-played
returns-in-Scrape-clause-played g c moment what next = c.play_scrape.ensures.played moment (comes_scrape g.W.Words.means moment c.args.self.now c.in-Scrape.producer (what ∙ c.in-Scrape.is) next).0 (g.O.Sink.taken c.args.out.now)

pub play_read-requires-clause-next : goal.play_read-requires-clause-next
play_read-requires-clause-next g c =
    (c.requires.next.0, comes_read g.W.Words.means c.requires.next.0 c.args.self.now c.in-Read.buffer c.in-Read.limit (c.requires.next.1 ∙ c.in-Read.is) c.requires.next.2)

pub returns-in-Read-clause-played : goal.returns-in-Read-clause-played
returns-in-Read-clause-played g c =
    on_ok_map c.play_read.result _ _ c.play_read.ensures.played (λ played moment what next. played moment (comes_read g.W.Words.means moment c.args.self.now c.in-Read.buffer c.in-Read.limit (what ∙ c.in-Read.is) next))

pub returns-in-Read-clause-stops : goal.returns-in-Read-clause-stops
returns-in-Read-clause-stops g c =
    if_err_map c.play_read.result _ _ c.play_read.ensures.stops (λ fault stops moment what next. stops moment (comes_read g.W.Words.means moment c.args.self.now c.in-Read.buffer c.in-Read.limit (what ∙ c.in-Read.is) next))

-- nothing is done, and nothing changes
pub returns-in-CloneBuffer-clause-played : goal.returns-in-CloneBuffer-clause-played
returns-in-CloneBuffer-clause-played g c moment what next =
    let means = g.W.Words.means in
    served_played means moment [] c.args.self.now c.args.self.now (g.O.Sink.taken c.args.out.now) (g.O.Sink.taken c.args.out.now)
    (comes_clone means moment c.args.self.now c.in-CloneBuffer.buffer (what ∙ c.in-CloneBuffer.is) next) next.at.going.kept.is_host
    (record { writers = refl; flushes = refl; specs = refl; views = λ place core at. refl }) refl refl
    (done_none means c.args.self.now (g.O.Sink.taken c.args.out.now))
