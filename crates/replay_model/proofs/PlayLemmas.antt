-- Acts one behind another.
use Rattle.std.proofs.Common.{◌≡◌, ◌∙◌, List, [], ◌∷◌, ◌++◌, refl, sym, ap, subst, append_assoc}
use Rattle.trace_model.specs.Buffers.{Buffer}
use Rattle.chunk_plain.specs.Setup.{Setup}
use Rattle.chunk_plain.specs.World.{World}
use Rattle.chunk_plain.specs.Owned.{IsOwned}
use Rattle.replay_model.specs.Acts.{Act}
use Rattle.replay_model.specs.Does.{Does}
use Rattle.replay_model.specs.ActNotes.{ActNote, act_notes}
use Rattle.replay_model.specs.Plays.{Plays}
use Rattle.replay_model.specs.Laws.{NothingPlaysNothing}

pub nothing_plays_nothing : NothingPlaysNothing
nothing_plays_nothing setup buffers world = (refl, refl)

-- one act
pub plays_one : (setup : Setup) (buffers : List Buffer) (act : Act) (old new : World) → Does setup buffers act old new → ∥ IsOwned new ∥₁
    → Plays setup buffers (act ∷ []) old new (act_notes setup buffers act old new)
plays_one setup buffers act old new does owned = (new, [], does, owned, behind (act_notes setup buffers act old new), (refl, refl))
  where
    behind : (notes : List ActNote) → notes ≡ notes ++ []
    behind [] = refl
    behind (note ∷ notes) = ap (λ (ns : List ActNote). note ∷ ns) (behind notes)

-- one list of acts behind another
pub plays_both : (setup : Setup) (buffers : List Buffer) (acts others : List Act) (old mid new : World) (notes more : List ActNote)
    → Plays setup buffers acts old mid notes → Plays setup buffers others mid new more → Plays setup buffers (acts ++ others) old new (notes ++ more)
plays_both setup buffers [] others old mid new notes more first second =
    subst (λ (ns : List ActNote). Plays setup buffers others old new (ns ++ more)) (sym first.1)
    (subst (λ (w : World). Plays setup buffers others w new more) first.0 second)
plays_both setup buffers (act ∷ acts) others old mid new notes more first second = (
  first.0,
  first.1 ++ more,
  first.2,
  first.3,
  ap (λ (ns : List ActNote). ns ++ more) first.4 ∙ append_assoc (act_notes setup buffers act old first.0) first.1 more,
  plays_both setup buffers acts others first.0 mid new first.1 more first.5 second,
)

-- what each act keeps all acts keep
pub plays_keep : (setup : Setup) (buffers : List Buffer) (Keeps : World → Type 0)
    → ((act : Act) (old new : World) → Does setup buffers act old new → ∥ IsOwned new ∥₁ → Keeps old → Keeps new)
    → (acts : List Act) (old new : World) (notes : List ActNote) → Plays setup buffers acts old new notes → Keeps old → Keeps new
plays_keep setup buffers Keeps step [] old new notes plays keeps = subst Keeps (sym plays.0) keeps
plays_keep setup buffers Keeps step (act ∷ acts) old new notes plays keeps =
    plays_keep setup buffers Keeps step acts plays.0 new plays.1 plays.5 (step act old plays.0 plays.2 plays.3 keeps)
