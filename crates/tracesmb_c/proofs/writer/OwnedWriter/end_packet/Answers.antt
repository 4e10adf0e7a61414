-- One message more ends, and then the packet.
use Rattle.std.proofs.Common.{◌≡◌, ℕ, ◌+◌, [], ◌∷◌, ◌++◌, subst, arith}
use Rattle.trace_model.specs.Calls.{Ended, Finished}
use Rattle.trace_writer.specs.Core.{open_depth}
use Rattle.tracesmb_c.specs.Eventing.{NotesAll, ended_calls}
use Rattle.tracesmb_c.specs.Lending.{table_of, view_of}
use Rattle.tracesmb_c.proofs.EventLemmas.{stays_same, notes_one, notes_quiet, notes_both, ended_more}
use Rattle.tracesmb_c.proofs.writer.OwnedWriter.end_packet.Goals as goal

pub messages-init : goal.messages-init
messages-init c = record {
  ready = c.requires.ready;
  inside = c.requires.begun;
  gone = 0;
  left = omega arith;
  noted = stays_same c.args.self.now;
}

pub messages-preserved : goal.messages-preserved
messages-preserved c =
    let i = c.messages.invariant in
    let falls = c.end_nested.ensures.depth_falls in
    let left = i.left in
    record {
      ready = c.end_nested.ensures.ready;
      inside = c.end_nested.ensures.begun;
      gone = i.gone + 1;
      left = omega (arith, falls, left);
      noted = ended_more c.args.self.now c.messages.self c.end_nested.new.self i.gone i.noted
          (notes_quiet c.messages.self c.end_nested.new.self Ended c.end_nested.ensures.notes);
    }

pub returns-clause-ends : goal.returns-clause-ends
returns-clause-ends c =
    let i = c.messages.invariant in
    let mid = c.messages.self in
    let deep = c.depth.ensures (table_of mid) i.ready.writes in
    let none : open_depth (view_of mid) ≡ 0 = omega (arith, deep) in
    let left = i.left in
    let all : i.gone ≡ open_depth (view_of c.args.self.now) = omega (arith, left, none) in
    subst (λ (n : ℕ). NotesAll c.args.self.now c.finish.new.self (ended_calls n ++ Finished ∷ [])) all
    (notes_both c.args.self.now mid c.finish.new.self (ended_calls i.gone) (Finished ∷ []) i.noted
    (notes_one mid c.finish.new.self Finished (notes_quiet mid c.finish.new.self Finished c.finish.ensures.notes)))
