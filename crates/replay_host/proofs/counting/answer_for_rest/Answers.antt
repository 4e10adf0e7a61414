-- One writer after another answers with what was taken of it.
use Rattle.std.proofs.Common.{◌≡◌, ◌∙◌, ℕ, suc, ◌+◌, ◌-◌, List, [], ◌∷◌, ◌++◌, refl, sym, ap, subst, arith, append_assoc, append-nil}
use Rattle.chunk_plain.specs.Views.{taken_of}
use Rattle.replay_model.specs.ActNotes.{ActNote, Answered}
use Rattle.replay_host.specs.Counting.{answers_to}
use Rattle.replay_host.specs.Tally.{IsTally}
use Rattle.replay_host.proofs.counting.answer_for_rest.Goals as goal

pub answer-requires : goal.answer-requires
answer-requires g c =
    let agreeing = c.requires.agrees in
    let before = c.requires.tally in (
      before.0 ++ answers_to agreeing.view c.loop-place.place,
      c.args.writers,
      c.loop-place.invariant.tally before.0 agreeing.setup agreeing.view before.1 agreeing.agrees,
      c.loop-place-test.true,
    )

pub loop-place-init : goal.loop-place-init
loop-place-init g c = record {
  made = refl;
  room = refl;
  told = refl;
  tally = λ notes setup view tally agrees.
      subst (λ (all : List ActNote). IsTally all c.args.writers c.args.flushes.now) (sym (append-nil notes)) tally;
}

pub loop-place-preserved : goal.loop-place-preserved
loop-place-preserved g c = record {
  made = c.answer.ensures.made ∙ c.loop-place.invariant.made;
  room = c.answer.ensures.room ∙ c.loop-place.invariant.room;
  told = c.answer.ensures.told ∙ c.loop-place.invariant.told;
  tally = λ notes setup view tally agrees.
      let place : ℕ = c.loop-place.place in
      let here : place + 1 - 1 ≡ place = omega arith in
      let taken : c.taken.result ≡ (taken_of view place).count = c.taken.ensures setup view agrees
      ∙ ap (λ (p : ℕ). (taken_of view p).count) here in
      let next = c.answer.ensures.tally (notes ++ answers_to view place) c.args.writers
      (c.loop-place.invariant.tally notes setup view tally agrees) in
      let more : suc place ≡ place + 1 = omega arith in
      subst (λ (n : ℕ). IsTally (notes ++ answers_to view n) c.args.writers c.answer.new.self) more
      (subst (λ (all : List ActNote). IsTally all c.args.writers c.answer.new.self)
      (append_assoc notes (answers_to view place) (Answered place (taken_of view place).count ∷ []))
      (subst (λ (n : ℕ). IsTally ((notes ++ answers_to view place) ++ Answered place n ∷ []) c.args.writers c.answer.new.self) taken next));
}

pub returns-clause-tally : goal.returns-clause-tally
returns-clause-tally g c notes setup view tally agrees =
    let out = c.loop-place-test.false in
    let bound = c.loop-place.auto.place-end in
    let end : c.loop-place.place ≡ c.args.writers = omega (arith, out, bound) in
    subst (λ (n : ℕ). IsTally (notes ++ answers_to view n) c.args.writers c.loop-place.flushes) end
    (c.loop-place.invariant.tally notes setup view tally agrees)
