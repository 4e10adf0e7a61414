-- An entry more of the source that is open.
use Rattle.std.proofs.Common.{◌≡◌, ◌∙◌, ap, sym, rules, arith, Some}
use Rattle.std.specs.Prelude.{codes, true}
use Rattle.config_text.specs.Blocks.{SourceSaid, is, text_in}
use Rattle.config_text.specs.Kept.{source_kept}
use Rattle.config_text.proofs.KeptLemmas.{source_pushed, with_filter_entry}
use Rattle.text_form.specs.Reading.{value_of}
use Rattle.config_text.proofs.collector.source_with.Goals as goal

pub returns-then-eq-clause-said : goal.returns-then-eq-clause-said
returns-then-eq-clause-said c =
    let named : is c.args.name.now (codes "producer_name_filter") ≡ true = search rules in
    let given : text_in (value_of c.args.value) ≡ Some c.in-Some.entry.now = search rules in
    ap (λ (said : SourceSaid). Some said) (source_pushed c.args.entries.now.items c.push.new.self.items c.in-Some.entry c.args.said c.len-to.result (search rules) (omega (arith, c.len-to.ensures, c.push.new.self.ok.0)) c.requires.0 (omega (arith, c.requires.1, c.args.entries.now.ok.0)))
    ∙ sym (with_filter_entry c.args.name.now (value_of c.args.value) (source_kept c.args.entries.now.items c.args.said) c.in-Some.entry.now named given)
