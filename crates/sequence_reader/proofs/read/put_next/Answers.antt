use Rattle.std.proofs.Common.{◌+◌, ◌-◌, true, false, not, refl, ap, subst, arith}
use Rattle.byte_io.specs.Bytes.{TakesPart}
use Rattle.trace_model.specs.Reads.{Delivers, delivers, is_marked, link_bytes}
use Rattle.trace_model.specs.Record.{record_of}
use Rattle.trace_model.specs.Sequences as model
use Rattle.trace_buffer.specs.Answers.{turn_value}
use Rattle.sequence_reader.specs.declared.progress.Progress.{Progress}
use Rattle.sequence_reader.specs.Spots.{rows_of, cursor_of}
use Rattle.sequence_reader.specs.Links.{first_bytes}
use Rattle.sequence_reader.proofs.ReadLemmas.{done_at_stop, done_at_limit, fails_here, goes_by, stays_on, taken_one, taken_none, none_counted}
use Rattle.sequence_reader.proofs.read.put_next.Goals as goal

pub returns-in-Ends-clause-puts : goal.returns-in-Ends-clause-puts
returns-in-Ends-clause-puts g c =
    done_at_stop c.args.buffer.now c.args.bounds.sequence (c.args.limit - c.args.progress.delivered) (g.O.Sink.taken c.args.out.now)
    (rows_of c.args.buffer.now c.args.bounds.sequence (cursor_of c.args.progress.at)) c.in-Ends.why c.requires.at.links c.in-Ends.ensures.finds

pub returns-in-Passes-clause-puts : goal.returns-in-Passes-clause-puts
returns-in-Passes-clause-puts g c =
    let b = c.args.buffer.now in
    let q = c.args.bounds.sequence in
    let found = c.in-Passes.ensures.finds in
    let t = turn_value c.in-Passes.passed in
    let next : Progress = record { at = c.in-Passes.next; held = c.at-held.result; marked = true; delivered = c.args.progress.delivered } in
    goes_by b c.args.bounds (g.O.Sink.taken c.args.out.now) (g.O.Sink.taken c.args.out.now) c.args.limit c.args.progress next t c.requires.at (stays_on c.in-Passes.passed) found.is
    (taken_none (g.O.Sink.taken c.args.out.now) q (link_bytes found.is.link) (is_marked (model.sequence_in b.sequences q)) (delivers t) found.kept)
    found.behind c.at-held.ensures.held (ap not found.kept) c.requires.most (none_counted c.args.progress.delivered (delivers t) found.kept)

pub returns-then-progress-limit-clause-puts : goal.returns-then-progress-limit-clause-puts
returns-then-progress-limit-clause-puts g c =
    done_at_limit c.args.buffer.now c.args.bounds.sequence (c.args.limit - c.args.progress.delivered) (g.O.Sink.taken c.args.out.now)
    (rows_of c.args.buffer.now c.args.bounds.sequence (cursor_of c.args.progress.at)) (rows_of c.args.buffer.now c.args.bounds.sequence (cursor_of c.in-Delivers.next)) (cursor_of c.in-Delivers.next)
    (omega (arith, c.if-progress-limit.true)) c.requires.at.links c.in-Delivers.ensures.finds.is

pub returns-in-Err-clause-puts : goal.returns-in-Err-clause-puts
returns-in-Err-clause-puts g c =
    let b = c.args.buffer.now in
    let q = c.args.bounds.sequence in
    let links = rows_of b q (cursor_of c.args.progress.at) in
    let is = c.in-Delivers.ensures.finds.is in
    fails_here b q (c.args.limit - c.args.progress.delivered) (g.O.Sink.taken c.args.out.now) (g.O.Sink.taken c.put_packet_at.new.out) links (cursor_of c.in-Delivers.next) c.args.progress.marked
    (omega (arith, c.requires.most, c.if-progress-limit.false)) c.requires.at.bounds_are.known c.requires.at.links is c.requires.at.marked
    (subst (λ bytes. TakesPart (g.O.Sink.taken c.args.out.now) (g.O.Sink.taken c.put_packet_at.new.out) (record_of bytes q c.args.progress.marked)) (ap first_bytes is.links_are) c.in-Err.ensures.part)

pub returns-in-Ok-clause-puts : goal.returns-in-Ok-clause-puts
returns-in-Ok-clause-puts g c =
    let b = c.args.buffer.now in
    let q = c.args.bounds.sequence in
    let links = rows_of b q (cursor_of c.args.progress.at) in
    let is = c.in-Delivers.ensures.finds.is in
    let next : Progress = record { at = c.in-Delivers.next; held = c.at-held.result; marked = false; delivered = c.args.progress.delivered + 1 } in
    let took = taken_one (g.O.Sink.taken c.args.out.now) (g.O.Sink.taken c.put_packet_at.new.out) q (first_bytes links) (link_bytes is.link) c.args.progress.marked (is_marked (model.sequence_in b.sequences q))
    (ap first_bytes is.links_are) c.requires.at.marked c.in-Ok.ensures.all in
    goes_by b c.args.bounds (g.O.Sink.taken c.args.out.now) (g.O.Sink.taken c.put_packet_at.new.out) c.args.limit c.args.progress next Delivers c.requires.at refl is took
    c.in-Delivers.ensures.finds.behind c.at-held.ensures.held refl (omega (arith, c.requires.most, c.if-progress-limit.false)) refl
