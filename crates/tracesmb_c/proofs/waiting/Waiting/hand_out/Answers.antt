-- What the room took, and what is left, are what was left before.
use Rattle.std.proofs.Common.{◌≡◌, ◌∙◌, ℕ, ◌+◌, ◌-◌, ◌≤◌, List, ◌++◌, length, take, drop, sym, ap, subst, arith}
use Rattle.std.proofs.lemmas.List.{length-take, length-drop, take_all, take_at, drop_at, take-append-drop, drop-drop}
use Rattle.tracesmb_c.proofs.waiting.Waiting.hand_out.Goals as goal

handed_out : (items copied room : List ℕ) (handed count : ℕ) → copied ≡ take count (drop handed items) → count ≤ length (drop handed items)
    → drop handed items ≡ take count (copied ++ room) ++ drop (handed + count) items
handed_out items copied room handed count is within =
    let left : List ℕ = drop handed items in
    let long : length copied ≡ count = let same = ap length is in let cut = length-take count left in omega (arith, same, cut, within) in
    sym (ap (λ (xs : List ℕ). xs ++ drop (handed + count) items) (take_at copied room count long ∙ is)
    ∙ ap (λ (xs : List ℕ). take count left ++ xs) (sym (drop-drop count handed items))
    ∙ take-append-drop count left)

-- what the room had behind them stays there
kept_behind : (copied items room : List ℕ) (count : ℕ) → copied ≡ take count items → count ≤ length items
    → drop count (copied ++ drop count room) ≡ drop count room
kept_behind copied items room count is within =
    let long : length copied ≡ count = let same = ap length is in let cut = length-take count items in omega (arith, same, cut, within) in
    drop_at copied (drop count room) count long

pub returns-clause-given : goal.returns-clause-given
returns-clause-given c =
    let waiting = c.args.self.now in
    let items = waiting.read.bytes.items in
    let least = c.min-count.ensures in
    let value : c.deref.result.now ≡ items = c.deref.ensures.value in
    let length_is = length-drop waiting.handed c.deref.result.now in
    let all : take (length c.deref.result.now - waiting.handed)
    (drop waiting.handed c.deref.result.now) ≡ drop waiting.handed c.deref.result.now =
    take_all (length c.deref.result.now - waiting.handed) (drop waiting.handed c.deref.result.now) (omega (arith, length_is)) in
    let same_length = ap length all in
    handed_out items c.copy_from_slice.new.self (drop c.min-count.result c.args.room.now) waiting.handed c.min-count.result
    (c.copy_from_slice.ensures.after ∙ ap (take c.min-count.result) (all ∙ ap (drop waiting.handed) value))
    (subst (λ (xs : List ℕ). c.min-count.result ≤ length (drop waiting.handed xs)) value (omega (arith, least, same_length)))

pub returns-clause-behind : goal.returns-clause-behind
returns-clause-behind c =
    let waiting = c.args.self.now in
    let least = c.min-count.ensures in
    let rest : List ℕ = take (length c.deref.result.now - waiting.handed) (drop waiting.handed c.deref.result.now) in
    let length_is = length-drop waiting.handed c.deref.result.now in
    let cut = length-take (length c.deref.result.now - waiting.handed) (drop waiting.handed c.deref.result.now) in
    kept_behind c.copy_from_slice.new.self rest c.args.room.now c.min-count.result c.copy_from_slice.ensures.after
    (omega (arith, least, length_is, cut))
