use Rattle.std.proofs.Common.{◌≡◌, ◌≢◌, ◌∙◌, ◌∷◌, ◌++◌, ℕ, List, MatchOption, sym, subst}
use Rattle.trace_file.proofs.RecordLemmas.{varint_short}
use Rattle.trace_file.proofs.apart.behind_head.Goals as goal

pub returns-then-len-lt128 : goal.returns-then-len-lt128
returns-then-len-lt128 c =
    subst (λ (number : List ℕ). MatchOption c.strip_front.result ((rest : List ℕ) → c.args.bytes.now ≢ 10 ∷ (number ++ rest)) (λ rest. c.args.bytes.now ≡ 10 ∷ (number ++ rest.now)))
    (sym (varint_short c.args.len c.if-len-lt128.true)) c.strip_front.ensures

pub returns : goal.returns
returns c =
    subst (λ (front : List ℕ). MatchOption c.strip_front-2.result ((rest : List ℕ) → c.args.bytes.now ≢ front ++ rest) (λ rest. c.args.bytes.now ≡ front ++ rest.now))
    (c.deref.ensures.0 ∙ c.head.ensures) c.strip_front-2.ensures
