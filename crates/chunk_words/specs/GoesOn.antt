-- How the view of the service's seat goes on from an earlier one.
use Rattle.std.specs.Prelude.{◌≡◌, ℕ, List, ◌++◌}
use Rattle.std.specs.List.{All}
use Rattle.chunk_plain.specs.Views.{Noted, Read, asked_in, ServiceView, taken_of}

-- the second list begins with the first one
pub record IsFront {A : Type 0} (front all : List A) : Type 0 where
  pub rest : List A
  pub is : all ≡ front ++ rest

-- a read was noted
abbrev pub IsReadNote : Noted → Type 0
IsReadNote (Read sequence limit) = Unit {0}
IsReadNote _ = ⊥

-- The events are those of the earlier view, and then others without a read. What the earlier view has of its events, the images, the finds
-- and the commits, stands in the later one at the same places. No flush request was made since.
pub record GoesOn (before view : ServiceView) : Type 0 where
  pub rest : List Noted
  pub events : view.events ≡ before.events ++ rest
  pub no_read : All (λ note. IsReadNote note → ⊥) rest
  pub looks : IsFront before.looks view.looks
  pub contents : (place : ℕ) → IsFront (taken_of before place).contents (taken_of view place).contents
  pub commits : IsFront before.commits view.commits
  pub asked : asked_in view.letters ≡ asked_in before.letters
