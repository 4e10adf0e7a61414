use Rattle.std.proofs.Common.{◌≡◌, ◌++◌, ◌*◌, ◌+◌, ◌≤◌, Result, Ok, Err, OnErr, refl, ◌∙◌, ap, arith}
use Rattle.std.proofs.lemmas.Result.{on_err_weaker}
use Rattle.byte_io.specs.Bytes.{TakesUpTo}
use Rattle.workload_gen.specs.Workload.{set_up_lines, packet_lines, state_after}
use Rattle.workload_gen.proofs.LineLemmas.{set_up_waits, state_more, line_waits, lines_failed, none_waits}
use Rattle.workload_gen.proofs.workload.generate.Goals as goal
use Rattle.workload_gen.proofs.workload.generate.Goals.{then-len+in_ok-put_all, else-len}

-- what holds anyhow holds of an error
on_err : {T E P : Type 0} (result : Result T E) → P → OnErr result P
on_err (Ok value) holds = tt
on_err (Err fault) holds = holds

pub loop-k-init : goal.loop-k-init
unfolding state_after
loop-k-init g c = record {
  written = set_up_waits c.args.number c.args.writers (set_up_lines c.args.writers) c.add_set_up.ensures.text;
  count = refl;
  may = c.requires.may;
  state = refl;
}

pub returns-in_err-put_all-clause-part : goal.returns-in_err-put_all-clause-part
returns-in_err-put_all-clause-part g c =
    let below : c.loop-k.k ≤ c.args.packets * c.args.writers = omega (arith, ap (λ w. c.args.packets * w) c.from-writers_of_turn.ensures) in
    on_err c.from_residual.result
    (lines_failed c.args.number c.args.writers c.loop-k.k (c.args.packets * c.args.writers) (set_up_lines c.args.writers) below
    c.loop-k.invariant.written (rw c.as_slice.ensures.value at c.in_err-put_all.ensures.part))

pub loop-k-preserved : goal.loop-k-preserved
loop-k-preserved g c =
    let state : c.next_state-state.result ≡ state_after c.args.number (c.loop-k.k + 1) =
    state_more c.args.number c.loop-k.k c.loop-k.invariant.state c.next_state-state.ensures in
    elim c.if-len.branch [
      | then-len+in_ok-put_all w ↦
          let waits : TakesUpTo (g.O.Sink.taken c.args.out.now) (g.O.Sink.taken c.if-len.out) (set_up_lines c.args.writers ++ packet_lines c.args.number c.args.writers c.loop-k.k) c.if-len.batch.items =
          rw w.out-is (rw w.batch-is (none_waits c.loop-k.invariant.written (rw w.as_slice.ensures.value at w.in_ok-put_all.ensures.all) w.clear.ensures)) in
          record {
            written = line_waits c.args.number c.args.writers c.loop-k.k (set_up_lines c.args.writers) waits c.from-writers_of_turn.ensures state
                c.drawn_of.ensures.is c.add_line.ensures;
            count = ap g.O.Sink.faults w.out-is ∙ w.in_ok-put_all.ensures.count ∙ c.loop-k.invariant.count;
            may = rw w.out-is w.in_ok-put_all.ensures.goes_on;
            state = state;
          }
      | else-len w ↦
          let waits : TakesUpTo (g.O.Sink.taken c.args.out.now) (g.O.Sink.taken c.if-len.out) (set_up_lines c.args.writers ++ packet_lines c.args.number c.args.writers c.loop-k.k) c.if-len.batch.items =
          rw w.out-is (rw w.batch-is c.loop-k.invariant.written) in
          record {
            written = line_waits c.args.number c.args.writers c.loop-k.k (set_up_lines c.args.writers) waits c.from-writers_of_turn.ensures state
                c.drawn_of.ensures.is c.add_line.ensures;
            count = ap g.O.Sink.faults w.out-is ∙ c.loop-k.invariant.count;
            may = rw w.out-is c.loop-k.invariant.may;
            state = state;
          }
    ]

pub returns-clause-part : goal.returns-clause-part
returns-clause-part g c =
    let below : c.loop-k.k ≤ c.args.packets * c.args.writers = omega (arith, ap (λ w. c.args.packets * w) c.from-writers_of_turn.ensures) in
    on_err_weaker c.put_all-2.result
    (λ failed. lines_failed c.args.number c.args.writers c.loop-k.k (c.args.packets * c.args.writers) (set_up_lines c.args.writers) below
    c.loop-k.invariant.written failed)
    (rw c.as_slice-2.ensures.value at c.put_all-2.ensures.part)
