-- All was handed out where nothing is left.
use Rattle.std.proofs.Common.{length, length-drop, ap, arith}
use Rattle.std.proofs.lemmas.Bool.{eq-eqb}
use Rattle.tracesmb_c.proofs.waiting.Waiting.is_done.Goals as goal

pub returns-clause-done : goal.returns-clause-done
returns-clause-done c none =
    let waiting = c.args.self.now in
    let long = length-drop waiting.handed waiting.read.bytes.items in
    let gone = ap length none in
    let within = waiting.within in
    let ok = waiting.read.bytes.ok.0 in
    let seen = c.len.ensures in
    eq-eqb waiting.handed c.len.result (omega (arith, long, gone, within, ok, seen))
