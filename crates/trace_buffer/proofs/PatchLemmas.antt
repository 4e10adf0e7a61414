-- Where a patch lies.
use Rattle.std.proofs.Common.{◌≡◌, Bool, false, List, [], ◌∷◌, refl}
use Rattle.trace_model.specs.Images.{Fragment, Patch, last_holds, holds_patch}
use Rattle.trace_buffer.specs.Patching.{holds_behind}

pub behind_one : (holds : Bool) (f : Fragment) (fs : List Fragment) (patch : Patch) → holds_behind holds (f ∷ fs) patch ≡ last_holds (f ∷ fs) patch
behind_one holds f [] patch = refl
behind_one holds f (g ∷ fs) patch = behind_one (holds_patch f patch) g fs patch

pub behind_none : (fs : List Fragment) (patch : Patch) → holds_behind false fs patch ≡ last_holds fs patch
behind_none [] patch = refl
behind_none (f ∷ fs) patch = behind_one false f fs patch
