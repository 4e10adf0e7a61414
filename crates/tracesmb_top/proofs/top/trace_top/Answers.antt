use Rattle.std.proofs.Common.{[], map, inl}
use Rattle.std.specs.String.{string_bytes}
use Rattle.tracesmb_top.specs.Cloned.{report_of}
use Rattle.tracesmb_top.proofs.CommandLemmas.{never_long, never_refused, whole_reported, wrote, wrote_part, has_stalled}
use Rattle.tracesmb_top.proofs.top.trace_top.Goals as goal

pub returns-in-Ok-None-clause-refuses : goal.returns-in-Ok-None-clause-refuses
returns-in-Ok-None-clause-refuses g c = λ command ask quiet.
    let done = rw c.in-Ok-None.field-0-is at c.in-Ok-None.ensures in
    never_refused _ (map string_bytes c.args.words.now) c.in-Ok.command command _ c.in-Ok-take_input.ensures.given.text
    (g.T.Sink.taken c.args.trace.now) (g.T.Sink.taken c.perform.new.trace) c.in-Ok.ensures.asked ask c.in-Ok-take_input.ensures.given.all (wrote [] (done.ends c.in-Ok-take_input.ensures.given.text c.in-Ok-take_input.ensures.given.tells))

pub returns-in-Ok-Some-clause-refuses : goal.returns-in-Ok-Some-clause-refuses
returns-in-Ok-Some-clause-refuses g c = λ command ask quiet.
    let done = rw c.in-Ok-Some.field-0-is at c.in-Ok-Some.ensures in
    never_refused _ (map string_bytes c.args.words.now) c.in-Ok.command command _ c.in-Ok-take_input.ensures.given.text
    (g.T.Sink.taken c.args.trace.now) (g.T.Sink.taken c.perform.new.trace) c.in-Ok.ensures.asked ask c.in-Ok-take_input.ensures.given.all (wrote (report_of c.in-Ok-Some.report) (done.ends c.in-Ok-take_input.ensures.given.text c.in-Ok-take_input.ensures.given.tells).1)

pub returns-in-Err-WriteFault-clause-refuses : goal.returns-in-Err-WriteFault-clause-refuses
returns-in-Err-WriteFault-clause-refuses g c = λ command ask quiet.
    let done = rw c.in-Err-WriteFault.field-0-is at c.in-Err-WriteFault.ensures in
    never_refused _ (map string_bytes c.args.words.now) c.in-Ok.command command _ c.in-Ok-take_input.ensures.given.text
    (g.T.Sink.taken c.args.trace.now) (g.T.Sink.taken c.perform.new.trace) c.in-Ok.ensures.asked ask c.in-Ok-take_input.ensures.given.all (wrote_part (done.ends c.in-Ok-take_input.ensures.given.text c.in-Ok-take_input.ensures.given.tells))

pub returns-in-Err-Stalled-clause-refuses : goal.returns-in-Err-Stalled-clause-refuses
returns-in-Err-Stalled-clause-refuses g c = λ command ask quiet.
    let done = rw c.in-Err-Stalled.field-0-is at c.in-Err-Stalled.ensures in
    never_refused _ (map string_bytes c.args.words.now) c.in-Ok.command command _ c.in-Ok-take_input.ensures.given.text
    (g.T.Sink.taken c.args.trace.now) (g.T.Sink.taken c.perform.new.trace) c.in-Ok.ensures.asked ask c.in-Ok-take_input.ensures.given.all (has_stalled c.in-Err-Stalled.writer (done.ends c.in-Ok-take_input.ensures.given.text c.in-Ok-take_input.ensures.given.tells))

pub returns-in-Ok-None-clause-long : goal.returns-in-Ok-None-clause-long
returns-in-Ok-None-clause-long g c = λ command ask reads quiet.
    let taken = c.in-Ok-take_input.ensures.given in
    never_long _ (map string_bytes c.args.words.now) c.in-Ok.command command _ taken.text c.in-Ok.ensures.asked ask reads taken.all taken.short

pub returns-in-Ok-Some-clause-long : goal.returns-in-Ok-Some-clause-long
returns-in-Ok-Some-clause-long g c = λ command ask reads quiet.
    let taken = c.in-Ok-take_input.ensures.given in
    never_long _ (map string_bytes c.args.words.now) c.in-Ok.command command _ taken.text c.in-Ok.ensures.asked ask reads taken.all taken.short

pub returns-in-Err-Refused-clause-long : goal.returns-in-Err-Refused-clause-long
returns-in-Err-Refused-clause-long g c = λ command ask reads quiet.
    let taken = c.in-Ok-take_input.ensures.given in
    never_long _ (map string_bytes c.args.words.now) c.in-Ok.command command _ taken.text c.in-Ok.ensures.asked ask reads taken.all taken.short

pub returns-in-Err-WriteFault-clause-long : goal.returns-in-Err-WriteFault-clause-long
returns-in-Err-WriteFault-clause-long g c = λ command ask reads quiet.
    let taken = c.in-Ok-take_input.ensures.given in
    never_long _ (map string_bytes c.args.words.now) c.in-Ok.command command _ taken.text c.in-Ok.ensures.asked ask reads taken.all taken.short

pub returns-in-Err-Stalled-clause-long : goal.returns-in-Err-Stalled-clause-long
returns-in-Err-Stalled-clause-long g c = λ command ask reads quiet.
    let taken = c.in-Ok-take_input.ensures.given in
    never_long _ (map string_bytes c.args.words.now) c.in-Ok.command command _ taken.text c.in-Ok.ensures.asked ask reads taken.all taken.short

pub say_report-requires : goal.say_report-requires
say_report-requires g c =
    let done = rw c.in-Ok-Some.field-0-is at c.in-Ok-Some.ensures in
    c.requires.report c.in-Ok.command c.in-Ok.ensures.asked (done.ends c.in-Ok-take_input.ensures.given.text c.in-Ok-take_input.ensures.given.tells).0

pub returns-in-Ok-Some-clause-complete : goal.returns-in-Ok-Some-clause-complete
returns-in-Ok-Some-clause-complete g c = λ command ask read written quiet accepts.
    let done = rw c.in-Ok-Some.field-0-is at c.in-Ok-Some.ensures in
    let taken = c.in-Ok-take_input.ensures.given in
    inl (whole_reported (map string_bytes c.args.words.now) c.in-Ok.command command c.say_report.result _ _ _ _ _ _ c.in-Ok.ensures.asked ask
    (done.ends taken.text taken.tells).0 c.say_report.ensures.status c.say_report.ensures.part quiet)
