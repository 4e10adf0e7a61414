use Rattle.std.proofs.Common.{◌∙◌, rules}
use Rattle.config_text.specs.Writing.{producer_line}
use Rattle.config_text.proofs.PutLemmas.{item_more, item_part}
use Rattle.config_text.proofs.putting.put_producers.Goals as goal

pub returns-in_err-put_producer-clause-part : goal.returns-in_err-put_producer-clause-part
returns-in_err-put_producer-clause-part g c =
    let taken = g.O.Sink.taken in
    let part = item_part producer_line (taken c.args.out.now) (taken c.loop-producer.out) (taken c.put_producer.new.out) c.args.producers.now c.loop-producer.producer-index
    c.producer-item.result c.loop-producer-test.true c.producer-item.is c.loop-producer.invariant.taken c.in_err-put_producer.ensures.part in
    search (rules, part)

pub loop-producer-preserved : goal.loop-producer-preserved
loop-producer-preserved g c =
    let taken = g.O.Sink.taken in
    record {
      taken = item_more producer_line (taken c.args.out.now) (taken c.loop-producer.out) (taken c.put_producer.new.out) c.args.producers.now c.loop-producer.producer-index
          c.producer-item.result c.loop-producer-test.true c.producer-item.is c.loop-producer.invariant.taken c.in_ok-put_producer.ensures.all;
      faults = c.in_ok-put_producer.ensures.count ∙ c.loop-producer.invariant.faults;
      may = c.in_ok-put_producer.ensures.goes_on;
    }
