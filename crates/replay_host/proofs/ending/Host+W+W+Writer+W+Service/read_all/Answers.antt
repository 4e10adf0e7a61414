-- Each buffer is read behind those before it.
use Rattle.std.proofs.Common.{◌≡◌, ◌∙◌, ℕ, suc, ◌+◌, List, [], ◌∷◌, ◌++◌, sym, subst, add-one, rules}
use Rattle.std.specs.Prelude.{Err}
use Rattle.trace_model.specs.Counts.{last_count}
use Rattle.replay_model.specs.Acts.{Act, ReadAll}
use Rattle.replay_host.specs.Ending.{HasEnded, reads_to}
use Rattle.replay_host.specs.Playing.{HasDone}
use Rattle.replay_host.specs.declared.fault.HostFault.{HostFault}
use Rattle.replay_host.specs.Replaying.{CountsOne, IsStall}
use Rattle.replay_host.specs.Stopping.{StopsIn}
use Rattle.replay_host.proofs.EndingLemmas.{ended_more, reads_cut}
use Rattle.replay_host.proofs.FieldLemmas.{if_err_is}
use Rattle.replay_host.proofs.ResultLemmas.{counts_stop}
use Rattle.replay_host.proofs.RowLemmas.{AreLaws}
use Rattle.replay_host.proofs.StopLemmas.{stopped_later, stopped_more, stopped_read}
use Rattle.replay_host.proofs.ending.Host+W+W+Writer+W+Service.read_all.Goals as goal

pub returns-in_err-read-clause-stops : goal.returns-in_err-read-clause-stops
returns-in_err-read-clause-stops g c =
    let means = g.W.Words.means in
    let laws : AreLaws means = record {
      told_view = g.met.W.Words.told_view;
      told_service_view = g.met.W.Words.told_service_view;
      told_writers = g.met.W.Words.told_writers;
      told_owned = g.met.W.Words.told_owned;
    } in
    let index : ℕ = c.loop-index.index in
    let mid = c.loop-index.self in
    let old = c.args.self.now in
    let taken = g.O.Sink.taken c.args.out.now in
    let between = g.O.Sink.taken c.loop-index.out in
    let left = g.O.Sink.taken c.read.new.out in
    let found = c.in_err-read.field-0.0 in
    let result_is : c.from_residual.result ≡ Err found = search rules in
    let cut = reads_cut c.args.buffers index c.loop-index-test.true in
    let here : StopsIn means (ReadAll (suc index) last_count ∷ []) mid between found left =
    subst (λ (n : ℕ). StopsIn means (ReadAll n last_count ∷ []) mid between found left) (add-one index)
    (stopped_read means laws (index + 1) last_count mid c.read.new.self between left found c.loop-index.invariant.ended.host c.in_err-read.ensures.fails) in
    if_err_is c.from_residual.result found _ result_is
    (subst (λ (acts : List Act). StopsIn means acts old taken found left) (sym cut.1)
    (stopped_more means (reads_to index ++ ReadAll (suc index) last_count ∷ []) cut.0 old taken found left
    (stopped_later means (reads_to index) (ReadAll (suc index) last_count ∷ []) [] old mid taken between found left c.loop-index.invariant.ended.done here)))

pub loop-index-preserved : goal.loop-index-preserved
loop-index-preserved g c =
    let means = g.W.Words.means in
    let index : ℕ = c.loop-index.index in
    let mid = c.loop-index.self in
    let old = c.args.self.now in
    let taken = g.O.Sink.taken c.args.out.now in
    let between = g.O.Sink.taken c.loop-index.out in
    let left = g.O.Sink.taken c.read.new.out in
    let done : HasDone means (ReadAll (suc index) last_count ∷ []) [] mid between c.read.new.self left =
    subst (λ (n : ℕ). HasDone means (ReadAll n last_count ∷ []) [] mid between c.read.new.self left) (add-one index) c.in_ok-read.ensures.done in
    record {
      ended = subst (λ (n : ℕ). HasEnded means (reads_to n) old taken c.read.new.self left) (sym (add-one index))
          (ended_more means (reads_to index) (ReadAll (suc index) last_count ∷ []) old mid c.read.new.self taken between left c.loop-index.invariant.ended
          c.in_ok-read.ensures.leaves.host c.in_ok-read.ensures.leaves.writers.flushes done);
      steady = c.in_ok-read.ensures.count ∙ c.loop-index.invariant.steady;
      may = c.in_ok-read.ensures.goes_on;
    }

pub returns-in_err-read-clause-count : goal.returns-in_err-read-clause-count
returns-in_err-read-clause-count g c =
    let was = g.O.Sink.faults c.args.out.now in
    let mid = g.O.Sink.faults c.loop-index.out in
    let now = g.O.Sink.faults c.read.new.out in
    let found = c.in_err-read.field-0.0 in
    let result_is : c.from_residual.result ≡ Err found = search rules in
    counts_stop c.from_residual.result found was mid now result_is c.loop-index.invariant.steady c.in_err-read.ensures.count.0
    (subst (λ (f : HostFault). CountsOne f mid now) (sym c.in_err-read.ensures.fails.fault_is) c.in_err-read.ensures.count.1)

pub returns-clause-count : goal.returns-clause-count
returns-clause-count g c = c.loop-index.invariant.steady

pub returns-in_err-read-clause-stalled : goal.returns-in_err-read-clause-stalled
returns-in_err-read-clause-stalled g c =
    let found = c.in_err-read.field-0.0 in
    let result_is : c.from_residual.result ≡ Err found = search rules in
    if_err_is c.from_residual.result found _ result_is (λ stall. absurd (subst IsStall c.in_err-read.ensures.fails.fault_is stall))
