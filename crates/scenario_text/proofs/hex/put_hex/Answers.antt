use Rattle.std.proofs.Common.{◌≡◌, ◌∙◌, ◌<◌, ℕ, Option, None, Some, length, ap, arith}
use Rattle.scenario_text.specs.Hex.{pairs_in, in_front}
use Rattle.scenario_text.proofs.HexLemmas.{put_begun, put_inside, put_more, put_bad, put_all}
use Rattle.scenario_text.proofs.hex.put_hex.Goals as goal
use Rattle.scenario_text.proofs.hex.put_hex.Goals.{In-Some-byte}

pub digits-init : goal.digits-init
digits-init c =
    put_begun c.args.word.now c.in-Some.word_digits.now c.args.room.now c.requires.0 c.in-Some.ensures.some c.requires.1 c.requires.2

pub returns-in_default-byte : goal.returns-in_default-byte
returns-in_default-byte c =
    let none : pairs_in c.digits.digits.now ≡ in_front None (pairs_in c.in-Some-next_pair.behind.now) =
    c.in-Some-next_pair.ensures.some
    ∙ ap (λ (byte : Option ℕ). in_front byte (pairs_in c.in-Some-next_pair.behind.now)) c.in_default-byte.is in
    put_bad c.args.word.now c.digits.digits.now (pairs_in c.in-Some-next_pair.behind.now) c.digits.at c.args.room.now c.digits.room
    c.digits.invariant none

-- the pair in front says this byte
says : (c : In-Some-byte) → pairs_in c.digits.digits.now ≡ in_front (Some c.in-Some-byte.byte) (pairs_in c.in-Some-next_pair.behind.now)
says c =
    c.in-Some-next_pair.ensures.some
    ∙ ap (λ (byte : Option ℕ). in_front byte (pairs_in c.in-Some-next_pair.behind.now)) c.in-Some-byte.is

inside : (c : In-Some-byte) → c.digits.at < length c.args.room.now
inside c =
    put_inside c.args.word.now c.digits.digits.now c.in-Some-next_pair.behind.now c.digits.at c.in-Some-byte.byte c.args.room.now
    c.digits.room c.digits.invariant (says c)

pub bounds-room-at : goal.bounds-room-at
bounds-room-at c = omega (arith, inside c, c.digits.auto.room)

pub overflow_add-at : goal.overflow_add-at
overflow_add-at c = omega (arith, inside c)

pub digits-smaller : goal.digits-smaller
digits-smaller c = omega (arith, c.in-Some-next_pair.ensures.shorter)

pub digits-preserved : goal.digits-preserved
digits-preserved c =
    put_more c.args.word.now c.digits.digits.now c.in-Some-next_pair.behind.now c.digits.at c.in-Some-byte.byte c.args.room.now
    c.digits.room c.digits.invariant (says c)

pub returns : goal.returns
returns c =
    put_all c.args.word.now c.digits.digits.now c.digits.at c.args.room.now c.digits.room c.digits.invariant
    c.in_default-next_pair.ensures.none
