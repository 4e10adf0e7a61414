use Rattle.std.proofs.Common.{◌≡◌, ◌+◌, ◌-◌, ◌<◌, ◌⊎◌, ℕ, length, get_or, Some, inl, inr, arith}
use Rattle.std.specs.Prelude.{slice_get}
use Rattle.std.proofs.lemmas.Option.{slice_get-get_or}
use Rattle.trace_base.proofs.Choices.{on_ok}
use Rattle.emitted_packets.specs.declared.emitter.Emitter.{Emitter}
use Rattle.scenario_text.specs.Accepted.{named_calls}
use Rattle.scenario_text.specs.Lengths.{line_len}
use Rattle.scenario_check.specs.Progress.{Takes, named_writer}
use Rattle.scenario_check.proofs.LineLemmas.{line_may, all_own, all_other}
use Rattle.scenario_check.proofs.collect.take_line.Goals as goal
use Rattle.scenario_check.proofs.collect.take_line.Goals.{then-writer-eq0-via-then-writer-eq0, then-writer-eq0-via-else-writer-eq0+then-writer-emitters}

pub returns-then-writer-eq0 : goal.returns-then-writer-eq0
returns-then-writer-eq0 c = λ lines taken may.
    let outside : (named_writer c.args.line.now.what ≡ 0) ⊎ (length c.args.emitters.now < named_writer c.args.line.now.what) =
    elim c.then-writer-eq0.branch [
      | then-writer-eq0-via-then-writer-eq0 w ↦ inl (omega arith)
      | then-writer-eq0-via-else-writer-eq0+then-writer-emitters w ↦ inr (omega arith)
    ] in
    all_other lines c.args.line.now c.args.emitters.now outside taken

pub emit_line-requires : goal.emit_line-requires
emit_line-requires c =
    let place : ℕ = c.named_writer-writer.result - 1 in
    let inside : place < length c.args.emitters.now = omega arith in
    let here : slice_get c.args.emitters.now place ≡ Some (get_or c.args.emitters.now place c.index-emitters-writer.result) =
    slice_get-get_or c.args.emitters.now place c.index-emitters-writer.result inside in
    line_may place (length c.args.emitters.now) c.requires.0 c.args.line.now (get_or c.args.emitters.now place c.index-emitters-writer.result)
    (omega arith) (omega arith) (c.requires.1 place _ here) c.requires.2

pub returns : goal.returns
returns c =
    let place : ℕ = c.named_writer-writer.result - 1 in
    let old : Emitter = get_or c.args.emitters.now place c.index-emitters-writer.result in
    let inside : place < length c.args.emitters.now = omega arith in
    let here : slice_get c.args.emitters.now place ≡ Some old = slice_get-get_or c.args.emitters.now place c.index-emitters-writer.result inside in
    let named : named_writer c.args.line.now.what ≡ place + 1 = omega arith in
    on_ok c.emit_line.result (Takes (named_calls c.args.line.now.what) (line_len c.args.line.now.what) 1 old c.emit_line.new.emitter) _
    (λ takes. λ lines taken may. all_own place lines c.args.line.now c.args.emitters.now old c.emit_line.new.emitter named here taken may takes) c.emit_line.ensures
