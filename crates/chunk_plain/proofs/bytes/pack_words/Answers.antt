use Rattle.std.proofs.Common.{◌≡◌, ◌+◌, arith, set, sym, subst}
use Rattle.chunk_plain.specs.Payload.{StoredUpTo}
use Rattle.chunk_plain.proofs.Publishing.{stored_none, stored_next, stored_part}
use Rattle.chunk_plain.proofs.bytes.pack_words.Goals as goal
use Rattle.chunk_plain.proofs.bytes.pack_words.Goals.{then-first-whole, else-first-whole}

pub returns-then-whole-end : goal.returns-then-whole-end
returns-then-whole-end c =
    let copy = c.args.from.now in let first = c.args.first in let old = c.args.words.now in let whole = c.max-whole.result in
    let few = c.min.ensures in let most = c.max-whole.ensures in let within = c.requires.within in let order = c.requires.order in
    let bytes = c.requires.from in let more = c.if-whole-end.true in let many = c.if-first-whole.auto.words in
    let so_far : StoredUpTo copy first whole old c.if-first-whole.words =
    elim c.if-first-whole.branch [
      | then-first-whole w ↦ subst (StoredUpTo copy first whole old) (sym w.words-is)
          (stored_part copy first whole old w.pack_all.new.words (omega arith) (omega arith) (let below = w.if-first-whole.true in omega arith) w.pack_all.ensures)
      | else-first-whole w ↦ subst (StoredUpTo copy first whole old) (sym w.words-is)
          (subst (λ n. StoredUpTo copy first n old old) (let not_below = w.if-first-whole.false in let same : first ≡ whole = omega arith in same) (stored_none copy first old))
    ] in
    let last : whole + 1 ≡ c.args.end = omega arith in
    subst (λ n. StoredUpTo copy first n old (set c.if-first-whole.words whole c.pack.result)) last
    (stored_next copy first whole c.pack.result old c.if-first-whole.words (omega arith) (omega arith) c.pack.ensures so_far)

pub returns-else-whole-end : goal.returns-else-whole-end
returns-else-whole-end c =
    let copy = c.args.from.now in let first = c.args.first in let old = c.args.words.now in let whole = c.max-whole.result in
    let few = c.min.ensures in let most = c.max-whole.ensures in let within = c.requires.within in let order = c.requires.order in
    let less = c.if-whole-end.false in
    let so_far : StoredUpTo copy first whole old c.if-first-whole.words =
    elim c.if-first-whole.branch [
      | then-first-whole w ↦ subst (StoredUpTo copy first whole old) (sym w.words-is)
          (stored_part copy first whole old w.pack_all.new.words (omega arith) (omega arith) (let below = w.if-first-whole.true in omega arith) w.pack_all.ensures)
      | else-first-whole w ↦ subst (StoredUpTo copy first whole old) (sym w.words-is)
          (subst (λ n. StoredUpTo copy first n old old) (let not_below = w.if-first-whole.false in let same : first ≡ whole = omega arith in same) (stored_none copy first old))
    ] in
    let here : whole ≡ c.args.end = omega arith in
    subst (λ n. StoredUpTo copy first n old c.if-first-whole.words) here so_far
