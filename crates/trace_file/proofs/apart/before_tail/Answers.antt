use Rattle.std.proofs.Common.{◌≡◌, ◌≢◌, ◌++◌, ℕ, List, MatchOption, sym, subst}
use Rattle.trace_file.proofs.RecordLemmas.{tail_long, tail_short}
use Rattle.trace_file.proofs.apart.before_tail.Goals as goal

pub returns-then-marked : goal.returns-then-marked
returns-then-marked c =
    subst (λ (end : List ℕ). MatchOption c.strip_end-then-marked.result ((body : List ℕ) → c.args.content.now ≢ body ++ end) (λ body. c.args.content.now ≡ body.now ++ end))
    (sym (tail_long c.args.sequence c.args.marked c.if-sequence-ge128.false c.if-marked.true)) c.strip_end-then-marked.ensures

pub returns : goal.returns
returns c =
    subst (λ (end : List ℕ). MatchOption c.strip_end-2.result ((body : List ℕ) → c.args.content.now ≢ body ++ end) (λ body. c.args.content.now ≡ body.now ++ end))
    (sym (tail_short c.args.sequence c.args.marked c.if-sequence-ge128.false c.if-marked.false)) c.strip_end-2.ensures
