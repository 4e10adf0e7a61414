-- What the groups of a number are, one by one.
use Rattle.std.proofs.Common.{◌≡◌, ℕ, suc, ◌+◌, ◌/◌, ◌%◌, ◌<◌, ◌≤◌, [], ◌∷◌, refl}
use Rattle.std.proofs.lemmas.Bool.{lt-ltb, le-ltb}
use Rattle.wire_varint.specs.Varint.{groups}

pub groups_last : (most n : ℕ) → n < 128 → groups (suc most) n ≡ n ∷ []
unfolding groups
groups_last most n small = rw (lt-ltb n 128 small) refl

pub groups_more : (most n : ℕ) → 128 ≤ n → groups (suc most) n ≡ (128 + n % 128) ∷ groups most (n / 128)
unfolding groups
groups_more most n large = rw (le-ltb n 128 large) refl
