use Rattle.std.proofs.Common.{◌≡◌, ◌+◌, ◌++◌, ◌∷◌, [], ℕ, List, length, Some, subst, sym, arith, refl, length-append}
use Rattle.std.specs.Prelude.{slice_get}
use Rattle.std.proofs.lemmas.Option.{slice_get_read}
use Rattle.std.proofs.lemmas.Iterator.Adapters.{YieldsList-from_vec}
use Rattle.std.proofs.lemmas.Iterator.Consumers.{YieldsList-turn, YieldsList-end}
use Rattle.trace_model.specs.Packets.{account_of}
use Rattle.scenario_text.specs.Accepted.{calls_asked}
use Rattle.scenario_check.proofs.AskedLemmas.{AreAskedUpTo, asked_more, asked_all}
use Rattle.scenario_check.proofs.collect.finish_all.Goals as goal

pub finish-requires : goal.finish-requires
finish-requires c =
    let t = YieldsList-turn (YieldsList-from_vec c.args.emitters.items (cc) (cc)) c.loop-emitter.yielded c.loop-emitter.emitter-iterator c.loop-emitter.yielded_by c.next.result c.next.new.self c.in-Some.emitter c.in-Some.is c.next.ensures.steps in
    let here : slice_get c.args.emitters.items (length c.loop-emitter.yielded) ≡ Some c.in-Some.emitter =
    slice_get_read c.args.emitters.items (length c.args.emitters.items) (length c.loop-emitter.yielded) c.in-Some.emitter refl t.0 t.1 in
    (account_of (calls_asked (length c.loop-emitter.yielded + 1) c.requires.0), (c.requires.1 (length c.loop-emitter.yielded) c.in-Some.emitter here).holds)

pub loop-emitter-preserved : goal.loop-emitter-preserved
loop-emitter-preserved c =
    let t = YieldsList-turn (YieldsList-from_vec c.args.emitters.items (cc) (cc)) c.loop-emitter.yielded c.loop-emitter.emitter-iterator c.loop-emitter.yielded_by c.next.result c.next.new.self c.in-Some.emitter c.in-Some.is c.next.ensures.steps in
    let count : ℕ = length c.loop-emitter.yielded in
    let here : slice_get c.args.emitters.items count ≡ Some c.in-Some.emitter =
    slice_get_read c.args.emitters.items (length c.args.emitters.items) count c.in-Some.emitter refl t.0 t.1 in
    let more : AreAskedUpTo c.args.emitters.items (count + 1) (c.loop-emitter.packets.items ++ c.finish.result ∷ []) =
    asked_more c.args.emitters.items count c.loop-emitter.packets.items c.in-Some.emitter c.finish.result c.loop-emitter.invariant.asked here c.finish.ensures.packets c.finish.ensures.many in
    let counted : count + 1 ≡ length (c.loop-emitter.yielded ++ c.in-Some.emitter ∷ []) = omega (arith, length-append c.loop-emitter.yielded (c.in-Some.emitter ∷ [])) in
    record {
      iterates = c.loop-emitter.invariant.iterates;
      asked = subst (λ (n : ℕ). AreAskedUpTo c.args.emitters.items n c.push.new.self.items) counted
          (subst (λ (ps : List (List (List ℕ))). AreAskedUpTo c.args.emitters.items (count + 1) ps) (sym c.in_ok-push.ensures.items) more);
    }

pub returns : goal.returns
returns c =
    let e = YieldsList-end (YieldsList-from_vec c.args.emitters.items (cc) (cc)) c.loop-emitter.yielded c.loop-emitter.emitter-iterator c.loop-emitter.yielded_by c.next.result c.next.new.self c.in-None.is c.next.ensures.steps in
    asked_all c.args.emitters.items (length c.loop-emitter.yielded) c.loop-emitter.packets.items e.1 c.loop-emitter.invariant.asked
