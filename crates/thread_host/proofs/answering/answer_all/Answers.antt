-- Each writer answers behind those before it.
use Rattle.std.proofs.Common.{◌≡◌, ◌∙◌, ℕ, ◌≤◌, Some, List, length-set, get_or, inl, inr, sym, subst, arith}
use Rattle.std.specs.Prelude.{slice_get}
use Rattle.std.proofs.lemmas.Option.{slice_get_within, slice_get-get_or}
use Rattle.chunk_plain.specs.Letters.{last_flush}
use Rattle.chunk_plain.specs.Views.{ServiceView, asked_in}
use Rattle.chunk_words.specs.Sits.{known_by_pass}
use Rattle.run_model.specs.Settled.{last_flushes}
use Rattle.thread_writer.specs.declared.writer.TraceWriter.{TraceWriter}
use Rattle.thread_writer.specs.Writing.{view_in}
use Rattle.thread_host.specs.Hosts.{HasPlayed}
use Rattle.thread_host.proofs.LastAnswers.{set_get}
use Rattle.thread_host.proofs.answering.answer_all.Goals as goal

pub answer_last-requires-clause-played : goal.answer_last-requires-clause-played
answer_last-requires-clause-played c =
    let i = c.writers.invariant in
    let place : ℕ = c.writers.place in
    let writer : TraceWriter = get_or c.writers.writers place c.index-writers-place.result in
    let there : slice_get c.writers.writers place ≡ Some writer =
    slice_get-get_or c.writers.writers place c.index-writers-place.result (let many = i.many in let below = c.writers-test.true in omega (arith, many, below)) in
    (c.requires.played.0, place, c.requires.played.1.each place writer (i.left place writer (omega arith) there))

pub writers-preserved : goal.writers-preserved
writers-preserved c =
    let i = c.writers.invariant in
    let place : ℕ = c.writers.place in
    let old : List TraceWriter = c.writers.writers in
    let writer : TraceWriter = get_or c.writers.writers place c.index-writers-place.result in
    let after : TraceWriter = c.answer_last.new.writer in
    let there : slice_get old place ≡ Some writer =
    slice_get-get_or old place c.index-writers-place.result (let many = i.many in let below = c.writers-test.true in omega (arith, many, below)) in
    let was = i.left place writer (omega arith) there in
    record {
      many = length-set old place after ∙ i.many;
      pass = c.answer_last.ensures.pass;
      known = c.answer_last.ensures.known ∙ i.known;
      done = λ lines have p w below at. elim (set_get old place p after w at) [
        | inl is ↦
            subst (λ (one : TraceWriter). HasPlayed lines last_flushes c.args.table.now p one) is.1
            (subst (λ (q : ℕ). HasPlayed lines last_flushes c.args.table.now q after) (sym is.0) (c.answer_last.ensures.played lines place (have.each place writer was)))
        | inr other ↦ (let apart = other.0 in i.done lines have p w (omega (arith, below, apart)) other.1)
      ];
      left = λ p w above at. elim (set_get old place p after w at) [
        | inl is ↦ absurd (let same = is.0 in omega (arith, above, same))
        | inr other ↦ i.left p w (omega (arith, above)) other.1
      ];
      answered = λ p w below at. elim (set_get old place p after w at) [
        | inl is ↦
            subst (λ (one : TraceWriter). asked_in (known_by_pass c.args.pass.now).letters ≤ last_flush (view_in one).letters.answers) is.1
            (subst (λ (v : ServiceView). asked_in v.letters ≤ last_flush (view_in after).letters.answers) i.known c.answer_last.ensures.answered)
        | inr other ↦ (let apart = other.0 in i.answered p w (omega (arith, below, apart)) other.1)
      ];
    }

pub returns : goal.returns
returns c =
    let i = c.writers.invariant in
    let out = c.writers-test.false in let many = i.many in
    record {
      pass = i.pass;
      known = i.known;
      played = λ lines have. record {
        many = i.many ∙ have.many;
        each = λ place writer at. i.done lines have place writer (let inside = slice_get_within c.writers.writers place writer at in omega (arith, inside, out, many)) at;
      };
      answered = λ place writer at. i.answered place writer (let inside = slice_get_within c.writers.writers place writer at in omega (arith, inside, out, many)) at;
    }
