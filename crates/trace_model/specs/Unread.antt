-- The first fragment of a payload that can't be read, over the relation of a payload and its fragments.
use Rattle.std.specs.Prelude.{◌≡◌, ℕ, zero, suc, ◌<◌, List, [], ◌∷◌, length}
use Rattle.trace_model.specs.Images.{Fragment}
use Rattle.trace_model.specs.Fragments.{ReadsOne, ReadsDropped}
use Rattle.trace_model.specs.Reading.{fragment_end}

-- The bytes from the place `at` on begin with these fragments, none of which has the drop mark, and the rest stands from
-- the place `next` on.
abbrev pub BeginsWith : ℕ → List ℕ → List Fragment → ℕ → List ℕ → Type 0
BeginsWith at bytes [] next rest = (next ≡ at) × (rest ≡ bytes)
BeginsWith at bytes (fragment ∷ others) next rest =
    (behind : List ℕ) × ReadsOne at bytes fragment behind
    × BeginsWith (fragment_end fragment) behind others next rest

-- The fragment with this number is among the payload's, those before it can be read, and it can't.
pub record StopsAt (count number : ℕ) (payload : List ℕ) : Type 0 where
  pub among : number < count
  pub before : List Fragment
  pub place : ℕ
  pub rest : List ℕ
  pub number_is : length before ≡ number
  pub begins : BeginsWith 0 payload before place rest
  -- no fragment stands in front of the rest, and where it would be the last one, none with the drop mark
  pub unread : (fragment : Fragment) (behind : List ℕ) → ReadsOne place rest fragment behind → ⊥
  pub undropped : suc number ≡ count → (fragment : Fragment) → ReadsDropped place rest fragment → ⊥

-- the number of the first of `count` fragments that can't be read; of none the first is missing
abbrev pub IsFirstUnread : ℕ → List ℕ → ℕ → Type 0
IsFirstUnread zero payload number = number ≡ 0
IsFirstUnread (suc more) payload number = StopsAt (suc more) number payload
