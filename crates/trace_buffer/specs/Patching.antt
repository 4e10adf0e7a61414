-- Where a patch lies in a payload.
use Rattle.std.specs.Prelude.{ℕ, Bool, List, [], ◌∷◌}
use Rattle.trace_model.specs.Images.{Fragment, Patch, last_holds, holds_patch}
use Rattle.trace_model.specs.Reading.{reading_of, fragments_of}

-- the patch lies inside the last of the payload's fragments
abbrev pub last_has : ℕ → List ℕ → Patch → Bool
last_has count payload patch = last_holds (fragments_of (reading_of count payload)) patch

-- the same where the fragment before these holds it, or doesn't
abbrev pub holds_behind : Bool → List Fragment → Patch → Bool
holds_behind holds [] patch = holds
holds_behind holds (fragment ∷ fragments) patch = holds_behind (holds_patch fragment patch) fragments patch
