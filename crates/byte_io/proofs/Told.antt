-- What follows from told bytes for the callers of sinks and sources.
use Rattle.std.proofs.Common.{◌≡◌, ℕ, ◌+◌, ◌-◌, ◌<◌, ◌≤◌, List, [], ◌++◌, length, take, drop, Option, Some, None, IfSome, refl, sym, ◌∙◌, ap, subst, arith, append_assoc}
use Rattle.std.proofs.lemmas.Grind.{common_steps}
use Rattle.std.proofs.lemmas.List.{take_rest, take-append-drop, drop-drop}
use Rattle.byte_io.specs.Bytes.{Intake, told, untold, before_told, after_told, GivesAtMost, TakesPart, TakesUpTo}

-- two reads give what one of both would
pub before_told_again : (a b : List ℕ) (left : Option (List ℕ)) → before_told a (before_told b left) ≡ before_told (a ++ b) left
before_told_again a b None = refl
before_told_again a b (Some left) = ap (λ bytes. Some bytes) (sym (append_assoc a b left))

-- two writes take what one of both would
pub after_told_again : (old : Intake) (a b : List ℕ) → after_told (after_told old a) b ≡ after_told old (a ++ b)
after_told_again (told taken loans) a b = ap (λ bytes. told bytes loans) (append_assoc taken a b)
after_told_again (untold loans) a b = refl

-- no bytes taken change nothing
pub after_told_nothing : (old : Intake) → after_told old [] ≡ old
after_told_nothing (told taken loans) = grind (arith, common_steps)
after_told_nothing (untold loans) = refl

-- before the first write nothing is taken
pub up_to_start : (old : Intake) (bytes : List ℕ) → TakesUpTo old old bytes bytes
up_to_start old bytes = record { part = []; cut = refl; taken = sym (after_told_nothing old) }

-- one write more: the rest is what a slice `&rest[count..]` holds
pub up_to_more : (old mid new : Intake) (bytes rest : List ℕ) (count : ℕ) → TakesUpTo old mid bytes rest
    → new ≡ after_told mid (take count rest) → TakesUpTo old new bytes (take (length rest - count) (drop count rest))
up_to_more old mid new bytes rest count done write =
    let tail : take (length rest - count) (drop count rest) ≡ drop count rest = take_rest rest count in
    record {
      part = done.part ++ take count rest;
      cut = rw tail (done.cut ∙ ap (λ behind. done.part ++ behind) (sym (take-append-drop count rest)) ∙ sym (append_assoc done.part (take count rest) (drop count rest)));
      taken = write ∙ ap (λ intake. after_told intake (take count rest)) done.taken ∙ after_told_again old done.part (take count rest);
    }

-- the same where the rest stands behind a place in a list that stays, which moves on
pub up_to_further : (old mid new : Intake) (bytes all : List ℕ) (at count : ℕ) → TakesUpTo old mid bytes (drop at all)
    → new ≡ after_told mid (take count (take (length all - at) (drop at all))) → TakesUpTo old new bytes (drop (at + count) all)
up_to_further old mid new bytes all at count done write =
    let P : List ℕ → Type 0 = λ rest. TakesUpTo old new bytes rest in
    let here : new ≡ after_told mid (take count (drop at all)) = rw (take_rest all at) at write in
    subst P (take_rest (drop at all) count ∙ drop-drop count at all) (up_to_more old mid new bytes (drop at all) count done here)

-- a write that fails leaves the sink with a part
pub up_to_part : (old new : Intake) (bytes rest : List ℕ) → TakesUpTo old new bytes rest → TakesPart old new bytes
up_to_part old new bytes rest done = record { part = done.part; rest = rest; cut = done.cut; taken = done.taken }

-- with no rest all was taken
pub up_to_end : (old new : Intake) (bytes : List ℕ) → TakesUpTo old new bytes [] → new ≡ after_told old bytes
up_to_end old new bytes done = grind (arith, common_steps, done.cut, done.taken)

-- a slice `&bytes[count..]` stands behind the first bytes
behind_first : (bytes : List ℕ) (count : ℕ) → take count bytes ++ take (length bytes - count) (drop count bytes) ≡ bytes
behind_first bytes count = ap (λ behind. take count bytes ++ behind) (take_rest bytes count) ∙ take-append-drop count bytes

-- a write of all bytes
pub all_at_once : (old new : Intake) (bytes : List ℕ) (count : ℕ) → new ≡ after_told old (take count bytes) → count ≡ length bytes → new ≡ after_told old bytes
all_at_once old new bytes count write whole = grind (arith, common_steps, write, whole)

-- a write, and then all of the rest
pub all_behind : (old mid new : Intake) (bytes : List ℕ) (count : ℕ) → mid ≡ after_told old (take count bytes)
    → new ≡ after_told mid (take (length bytes - count) (drop count bytes)) → new ≡ after_told old bytes
all_behind old mid new bytes count first second =
    second ∙ ap (λ intake. after_told intake (take (length bytes - count) (drop count bytes))) first
    ∙ after_told_again old (take count bytes) (take (length bytes - count) (drop count bytes)) ∙ ap (λ all. after_told old all) (behind_first bytes count)

-- a write that fails takes nothing
pub part_none : (old new : Intake) (bytes : List ℕ) → new ≡ old → TakesPart old new bytes
part_none old new bytes same = record { part = []; rest = bytes; cut = refl; taken = same ∙ sym (after_told_nothing old) }

-- part of the first of two pieces
pub part_first : (old new : Intake) (first second : List ℕ) → TakesPart old new first → TakesPart old new (first ++ second)
part_first old new first second done = record {
  part = done.part;
  rest = done.rest ++ second;
  cut = ap (λ bytes. bytes ++ second) done.cut ∙ append_assoc done.part done.rest second;
  taken = done.taken;
}

-- all of the first of two pieces, and part of the second
pub part_second : (old mid new : Intake) (first second : List ℕ) → mid ≡ after_told old first → TakesPart mid new second → TakesPart old new (first ++ second)
part_second old mid new first second whole done = record {
  part = first ++ done.part;
  rest = done.rest;
  cut = ap (λ bytes. first ++ bytes) done.cut ∙ sym (append_assoc first done.part done.rest);
  taken = done.taken ∙ ap (λ intake. after_told intake done.part) whole ∙ after_told_again old first done.part;
}

-- a write, and then part of the rest
pub part_behind : (old mid new : Intake) (bytes : List ℕ) (count : ℕ) → mid ≡ after_told old (take count bytes)
    → TakesPart mid new (take (length bytes - count) (drop count bytes)) → TakesPart old new bytes
part_behind old mid new bytes count first done =
    let P : List ℕ → Type 0 = λ all. TakesPart old new all in
    subst P (behind_first bytes count) (part_second old mid new (take count bytes) (take (length bytes - count) (drop count bytes)) first done)

-- the bytes of all reads so far
pub gives_at_most : (most : ℕ) (bytes : List ℕ) (old new : Option (List ℕ)) → old ≡ before_told bytes new → length bytes ≤ most → GivesAtMost most old new
gives_at_most most bytes old new given within = record { bytes = bytes; within = within; given = given }

-- and of one read more
pub gives_more : (most : ℕ) (bytes piece : List ℕ) (old mid new : Option (List ℕ)) → old ≡ before_told bytes mid → mid ≡ before_told piece new
    → length bytes + length piece ≤ most → GivesAtMost most old new
gives_more most bytes piece old mid new first second within = record {
  bytes = bytes ++ piece;
  within = grind (arith, common_steps);
  given = first ∙ ap (λ left. before_told bytes left) second ∙ before_told_again bytes piece new;
}

-- a source that gave all that it had, up to its end
pub all_came : (items : List ℕ) (old left : Option (List ℕ)) → old ≡ before_told items left → IfSome left (λ rest. rest ≡ []) → IfSome old (λ bytes. items ≡ bytes)
all_came items old None given end = let P : Option (List ℕ) → Type 0 = λ given. IfSome given (λ bytes. items ≡ bytes) in subst P (sym given) tt
all_came items old (Some rest) given end = let P : Option (List ℕ) → Type 0 = λ given. IfSome given (λ bytes. items ≡ bytes) in
    subst P (sym given) (grind (arith, common_steps))

-- a source that gave more bytes than the limit had more
pub longer_told : (limit : ℕ) (items : List ℕ) (old left : Option (List ℕ)) → old ≡ before_told items left → limit < length items → IfSome old (λ bytes. limit < length bytes)
longer_told limit items old None given more = let P : Option (List ℕ) → Type 0 = λ given. IfSome given (λ bytes. limit < length bytes) in subst P (sym given) tt
longer_told limit items old (Some rest) given more = let P : Option (List ℕ) → Type 0 = λ given. IfSome given (λ bytes. limit < length bytes) in
    subst P (sym given) (grind (arith, common_steps))
