-- Positions and ids undo each other.
use Rattle.std.proofs.Common.{◌≡◌, ℕ, ◌+◌, ◌-◌, ◌*◌, ◌/◌, ◌%◌, ◌^◌, ◌<◌, ap, sym, ◌∙◌, arith}
use Rattle.std.proofs.Math.Nat.{mod-add-mod, add-mod-mod, add-mul-mod_self_left, div-add-mod, mod-eq_of_lt}
use Rattle.std.proofs.lemmas.Nat.{mod_below}
use Rattle.trace_base.specs.Ids.{id_of, position_of, IdsGoBack}

-- a number of 32 bits, once what another one lacks is added to it and to that one
gone_round : (from n : ℕ) → (from + n + (2 ^ 32 - from % 2 ^ 32)) % 2 ^ 32 ≡ n % 2 ^ 32
gone_round from n =
    let below : from % 2 ^ 32 < 2 ^ 32 = mod_below from (2 ^ 32) (omega arith) in
    let whole : from + n + (2 ^ 32 - from % 2 ^ 32) ≡ n + 2 ^ 32 * (from / 2 ^ 32 + 1) = omega (arith, div-add-mod from (2 ^ 32), below) in
    ap (λ (m : ℕ). m % 2 ^ 32) whole ∙ add-mul-mod_self_left n (2 ^ 32) (from / 2 ^ 32 + 1)

-- an id has 32 bits
pub id_below : (from position : ℕ) → id_of from position < 2 ^ 32
unfolding id_of
id_below from position = mod_below (from + position) (2 ^ 32) (omega arith)

-- and so has a position that belongs to an id
pub position_below : (from id : ℕ) → position_of from id < 2 ^ 32
unfolding position_of
position_below from id = mod_below (id + (2 ^ 32 - from % 2 ^ 32)) (2 ^ 32) (omega arith)

pub position_of_id : (from position : ℕ) → position < 2 ^ 32 → position_of from (id_of from position) ≡ position
unfolding id_of position_of
position_of_id from position small =
    mod-add-mod (from + position) (2 ^ 32) (2 ^ 32 - from % 2 ^ 32) ∙ gone_round from position ∙ mod-eq_of_lt small

pub id_of_position : (from id : ℕ) → id < 2 ^ 32 → id_of from (position_of from id) ≡ id
unfolding id_of position_of
id_of_position from id small =
    add-mod-mod from (id + (2 ^ 32 - from % 2 ^ 32)) (2 ^ 32)
    ∙ ap (λ (m : ℕ). m % 2 ^ 32) (let regroup : from + (id + (2 ^ 32 - from % 2 ^ 32)) ≡ from + id + (2 ^ 32 - from % 2 ^ 32) = omega arith in regroup)
    ∙ gone_round from id ∙ mod-eq_of_lt small

-- two positions with one id are one
pub same_position : (from one other : ℕ) → one < 2 ^ 32 → other < 2 ^ 32 → id_of from one ≡ id_of from other → one ≡ other
same_position from one other small below same =
    sym (position_of_id from one small) ∙ ap (position_of from) same ∙ position_of_id from other below

-- the difference of two numbers of 32 bits, as they are taken from one another
pub position_by_difference : (from id : ℕ) → from < 2 ^ 32 → (id + (2 ^ 32 - from)) % 2 ^ 32 ≡ position_of from id
unfolding position_of
position_by_difference from id small = ap (λ (n : ℕ). (id + (2 ^ 32 - n)) % 2 ^ 32) (sym (mod-eq_of_lt small))

-- the first chunk has the first id
pub id_first : (from : ℕ) → from < 2 ^ 32 → id_of from 0 ≡ from
unfolding id_of
id_first from small = ap (λ (n : ℕ). n % 2 ^ 32) (let same : from + 0 ≡ from = omega arith in same) ∙ mod-eq_of_lt small

-- in a sequence whose first chunk has the id 0, ids are positions
pub id_from_nought : (position : ℕ) → position < 2 ^ 32 → id_of 0 position ≡ position
unfolding id_of
id_from_nought position small = mod-eq_of_lt (let less : 0 + position < 2 ^ 32 = omega (arith, small) in less) ∙ omega arith

pub ids_go_back : IdsGoBack
ids_go_back = record { positions = position_of_id; ids = id_of_position }
