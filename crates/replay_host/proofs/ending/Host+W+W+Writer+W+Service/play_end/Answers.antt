-- The end is played in four parts.
use Rattle.replay_host.proofs.EndingLemmas.{with_service, session_quiet, flags_flushed, flags_served, flags_quiet, ended_all, stopped_all}
use Rattle.replay_host.proofs.FieldLemmas.{on_ok_map, if_err_map}
use Rattle.replay_host.proofs.ending.Host+W+W+Writer+W+Service.play_end.Goals as goal

pub collect_all-requires : goal.collect_all-requires
collect_all-requires g c =
    let over = c.requires.over.0 in
    record { flags = flags_flushed g.W.Words.means _ c.args.self.now c.flush_all.new.self over (c.flush_all.ensures.flushed over) }

pub close_all-requires : goal.close_all-requires
close_all-requires g c =
    let means = g.W.Words.means in
    let over = c.requires.over.0 in
    let flags = flags_flushed means _ c.args.self.now c.flush_all.new.self over (c.flush_all.ensures.flushed over) in
    let served = c.collect_all.ensures.served flags in
    let later = flags_served means _ c.flush_all.new.self c.collect_all.new.self flags served in
    let quiet = session_quiet means c.collect_all.new.self c.stop.new.self served.host c.stop.ensures.keeps
    (c.stop.ensures.agrees (means.setup c.collect_all.new.self.table) (means.service_view c.collect_all.new.self.table c.collect_all.new.self.helper.service.seat)
    served.host.stands.served.agrees) in
    record { flags = flags_quiet means _ c.collect_all.new.self (with_service c.collect_all.new.self c.stop.new.self) later quiet }

pub read_all-requires-clause-host : goal.read_all-requires-clause-host
read_all-requires-clause-host g c =
    let means = g.W.Words.means in
    let over = c.requires.over.0 in
    let flags = flags_flushed means _ c.args.self.now c.flush_all.new.self over (c.flush_all.ensures.flushed over) in
    let served = c.collect_all.ensures.served flags in
    let later = flags_served means _ c.flush_all.new.self c.collect_all.new.self flags served in
    let quiet = session_quiet means c.collect_all.new.self c.stop.new.self served.host c.stop.ensures.keeps
    (c.stop.ensures.agrees (means.setup c.collect_all.new.self.table) (means.service_view c.collect_all.new.self.table c.collect_all.new.self.helper.service.seat)
    served.host.stands.served.agrees) in
    (c.close_all.ensures.closed (flags_quiet means _ c.collect_all.new.self (with_service c.collect_all.new.self c.stop.new.self) later quiet)).host

pub returns-clause-ended : goal.returns-clause-ended
returns-clause-ended g c =
    let means = g.W.Words.means in
    on_ok_map c.read_all.result _ _ c.read_all.ensures.read
    (λ read over many.
    let flushed = c.flush_all.ensures.flushed over in
    let flags = flags_flushed means _ c.args.self.now c.flush_all.new.self over flushed in
    let served = c.collect_all.ensures.served flags in
    let later = flags_served means _ c.flush_all.new.self c.collect_all.new.self flags served in
    let quiet = session_quiet means c.collect_all.new.self c.stop.new.self served.host c.stop.ensures.keeps
    (c.stop.ensures.agrees (means.setup c.collect_all.new.self.table) (means.service_view c.collect_all.new.self.table c.collect_all.new.self.helper.service.seat)
    served.host.stands.served.agrees) in
    let closed = c.close_all.ensures.closed (flags_quiet means _ c.collect_all.new.self (with_service c.collect_all.new.self c.stop.new.self) later quiet) in
    ended_all means c.args.self.now c.flush_all.new.self c.collect_all.new.self (with_service c.collect_all.new.self c.stop.new.self) c.close_all.new.self over
    flushed served quiet closed c.read_all.new.self (g.O.Sink.taken c.args.out.now) (g.O.Sink.taken c.read_all.new.out) c.args.buffers many read)

pub returns-clause-stops : goal.returns-clause-stops
returns-clause-stops g c =
    let means = g.W.Words.means in
    if_err_map c.read_all.result _ _ c.read_all.ensures.stops
    (λ fault stops over many.
    let flushed = c.flush_all.ensures.flushed over in
    let flags = flags_flushed means _ c.args.self.now c.flush_all.new.self over flushed in
    let served = c.collect_all.ensures.served flags in
    let later = flags_served means _ c.flush_all.new.self c.collect_all.new.self flags served in
    let quiet = session_quiet means c.collect_all.new.self c.stop.new.self served.host c.stop.ensures.keeps
    (c.stop.ensures.agrees (means.setup c.collect_all.new.self.table) (means.service_view c.collect_all.new.self.table c.collect_all.new.self.helper.service.seat)
    served.host.stands.served.agrees) in
    let closed = c.close_all.ensures.closed (flags_quiet means _ c.collect_all.new.self (with_service c.collect_all.new.self c.stop.new.self) later quiet) in
    stopped_all means c.args.self.now c.flush_all.new.self c.collect_all.new.self (with_service c.collect_all.new.self c.stop.new.self) c.close_all.new.self over
    flushed served quiet closed (g.O.Sink.taken c.args.out.now) (g.O.Sink.taken c.read_all.new.out) fault c.args.buffers many stops)
