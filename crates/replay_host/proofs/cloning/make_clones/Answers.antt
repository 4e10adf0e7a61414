-- Each line that asks for a clone has the one that is made for its buffer.
use Rattle.std.proofs.Common.{◌∙◌, List, [], ◌∷◌, ◌++◌, length, map, sym, ap, subst, arith}
use Rattle.std.proofs.lemmas.List.{length-map}
use Rattle.std.specs.List.{AllByRecursion, AllZip}
use Rattle.scenario_text.specs.Limits.{IsBuffer, IsProducer}
use Rattle.scenario_text.specs.Scenario.{parts_of}
use Rattle.scenario_text.proofs.LimitLemmas.{scenario_is_set_up}
use Rattle.chunk_plain.specs.declared.setup.ProducerSpec.{ProducerSpec}
use Rattle.replay_model.specs.Clones.{first_of_number}
use Rattle.replay_model.specs.Played.{IsSpecOf}
use Rattle.replay_host.specs.Making.{buffer_asked}
use Rattle.replay_host.proofs.CloneMadeLemmas.{as_first, named, split_next, made_next, made_same}
use Rattle.replay_host.proofs.FillingLemmas.{no_clone}
use Rattle.replay_host.proofs.SetUpLemmas.{made_as_asked, specs_fit, specs_routed, specs_sizes}
use Rattle.replay_host.proofs.cloning.make_clones.Goals as goal

pub producer_specs-requires : goal.producer_specs-requires
producer_specs-requires c = subst (AllByRecursion IsProducer) (sym c.deref.ensures.value)
    (scenario_is_set_up c.args.scenario.now c.requires).are_producers

pub buffer_specs-requires : goal.buffer_specs-requires
buffer_specs-requires c = subst (AllByRecursion IsBuffer) (sym c.deref-2.ensures.value)
    (scenario_is_set_up c.args.scenario.now c.requires).are_buffers

pub make_clone-requires-clause-sizes : goal.make_clone-requires-clause-sizes
make_clone-requires-clause-sizes c =
    specs_sizes c.args.scenario.now c.requires c.deref.result.now c.in_ok-producers.producers.items c.deref.ensures.value
    c.in_ok-producers.ensures
    c.deref-in-CloneBuffer.result.now c.deref-in-CloneBuffer-2.result.now c.deref-in-CloneBuffer-3.result.now
    (c.deref-in-CloneBuffer.ensures.value ∙ c.in_ok-buffers.ensures ∙ ap (map buffer_asked) c.deref-2.ensures.value) c.deref-in-CloneBuffer-2.ensures.value
    c.deref-in-CloneBuffer-3.ensures.value

pub make_clone-requires-clause-routed : goal.make_clone-requires-clause-routed
make_clone-requires-clause-routed c =
    specs_routed c.args.scenario.now c.requires c.deref.result.now c.in_ok-producers.producers.items c.deref.ensures.value
    c.in_ok-producers.ensures
    c.deref-in-CloneBuffer.result.now c.deref-in-CloneBuffer-2.result.now c.deref-in-CloneBuffer-3.result.now
    (c.deref-in-CloneBuffer.ensures.value ∙ c.in_ok-buffers.ensures ∙ ap (map buffer_asked) c.deref-2.ensures.value) c.deref-in-CloneBuffer-2.ensures.value
    c.deref-in-CloneBuffer-3.ensures.value

pub make_clone-requires-clause-fits : goal.make_clone-requires-clause-fits
make_clone-requires-clause-fits c =
    specs_fit c.args.scenario.now c.requires c.deref.result.now c.in_ok-producers.producers.items c.deref.ensures.value
    c.in_ok-producers.ensures
    c.deref-in-CloneBuffer.result.now c.deref-in-CloneBuffer-2.result.now c.deref-in-CloneBuffer-3.result.now
    (c.deref-in-CloneBuffer.ensures.value ∙ c.in_ok-buffers.ensures ∙ ap (map buffer_asked) c.deref-2.ensures.value) c.deref-in-CloneBuffer-2.ensures.value
    c.deref-in-CloneBuffer-3.ensures.value

pub make_clone-requires-clause-least : goal.make_clone-requires-clause-least
make_clone-requires-clause-least c =
    (named c.args.scenario.now c.requires c.lines.invariant.before c.lines.walk c.next.new.self c.in-Some.line c.in-CloneBuffer.buffer
    c.lines.invariant.split c.in-Some.ensures.first c.in-CloneBuffer.is).least

pub make_clone-requires-clause-most : goal.make_clone-requires-clause-most
make_clone-requires-clause-most c =
    let most = (named c.args.scenario.now c.requires c.lines.invariant.before c.lines.walk c.next.new.self c.in-Some.line c.in-CloneBuffer.buffer
    c.lines.invariant.split c.in-Some.ensures.first c.in-CloneBuffer.is).most in
    let made = ap length (c.deref-in-CloneBuffer.ensures.value ∙ c.in_ok-buffers.ensures ∙ ap (map buffer_asked) c.deref-2.ensures.value) in
    let long = length-map c.args.scenario.now.buffers.items buffer_asked in
    omega (arith, most, made, long)

pub lines-preserved-in_ok-push : goal.lines-preserved-in_ok-push
lines-preserved-in_ok-push c =
    let first = c.in-Some.ensures.first in
    record {
      before = c.lines.invariant.before ++ c.in-Some.line ∷ [];
      split = split_next c.args.scenario.now.lines c.lines.invariant.before c.lines.walk c.next.new.self c.in-Some.line c.lines.invariant.split first;
      made = λ setup is.
          made_next (first_of_number (parts_of c.args.scenario.now) setup) c.lines.clones.items _ _ c.in-CloneBuffer.buffer c.lines.walk c.next.new.self
          c.in-Some.line _ (c.lines.invariant.made setup is) first c.in-CloneBuffer.is
          (c.in_ok-make_clone.ensures
          ∙ as_first (parts_of c.args.scenario.now) c.deref-in-CloneBuffer-2.result.now c.deref-in-CloneBuffer.result.now c.deref-in-CloneBuffer-3.result.now
          c.in-CloneBuffer.buffer
          (subst (λ (ps : List ProducerSpec). AllZip IsSpecOf c.args.scenario.now.producers.items ps) (sym c.deref-in-CloneBuffer-2.ensures.value)
          (made_as_asked c.args.scenario.now c.requires c.deref.result.now c.in_ok-producers.producers.items c.deref.ensures.value c.in_ok-producers.ensures))
          (c.deref-in-CloneBuffer.ensures.value ∙ c.in_ok-buffers.ensures ∙ ap (map buffer_asked) c.deref-2.ensures.value)
          c.deref-in-CloneBuffer-3.ensures.value setup is)
          c.in_ok-push.ensures.items;
    }

pub lines-preserved : goal.lines-preserved
lines-preserved c =
    let none = no_clone c.in-Some.line.what (λ buffer same. c.in_default-what.not-CloneBuffer buffer same) in
    record {
      before = c.lines.invariant.before ++ c.in-Some.line ∷ [];
      split = split_next c.args.scenario.now.lines c.lines.invariant.before c.lines.walk c.next.new.self c.in-Some.line
          c.lines.invariant.split c.in-Some.ensures.first;
      made = λ setup is.
          made_same (first_of_number (parts_of c.args.scenario.now) setup) c.lines.clones.items c.lines.walk c.next.new.self c.in-Some.line _
          (c.lines.invariant.made setup is) c.in-Some.ensures.first none;
    }
