use Rattle.std.proofs.Common.{◌∙◌, rules}
use Rattle.config_text.specs.Writing.{source_line}
use Rattle.config_text.proofs.PutLemmas.{item_more, item_part}
use Rattle.config_text.proofs.putting.put_sources.Goals as goal

pub returns-in_err-put_source-clause-part : goal.returns-in_err-put_source-clause-part
returns-in_err-put_source-clause-part g c =
    let taken = g.O.Sink.taken in
    let part = item_part (source_line c.args.producers.now) (taken c.args.out.now) (taken c.loop-source.out) (taken c.put_source.new.out) c.args.sources.now c.loop-source.source-index
    c.source-item.result c.loop-source-test.true c.source-item.is c.loop-source.invariant.taken c.in_err-put_source.ensures.part in
    search (rules, part)

pub loop-source-preserved : goal.loop-source-preserved
loop-source-preserved g c =
    let taken = g.O.Sink.taken in
    record {
      taken = item_more (source_line c.args.producers.now) (taken c.args.out.now) (taken c.loop-source.out) (taken c.put_source.new.out) c.args.sources.now c.loop-source.source-index
          c.source-item.result c.loop-source-test.true c.source-item.is c.loop-source.invariant.taken c.in_ok-put_source.ensures.all;
      faults = c.in_ok-put_source.ensures.count ∙ c.loop-source.invariant.faults;
      may = c.in_ok-put_source.ensures.goes_on;
    }
