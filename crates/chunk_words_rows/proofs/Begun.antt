-- A chunk that is begun and completed in a row joins the begun ones, and none of them is held.
use Rattle.std.proofs.Common.{◌≡◌, ℕ, ◌+◌, List, [], ◌∷◌, ◌++◌, length, set, refl, ap, ◌∙◌}
use Rattle.std.proofs.lemmas.List.{set-set}
use Rattle.chunk_plain.specs.Views.{Draft, Content, BegunChunk, Held, Completed, WriterView}
use Rattle.chunk_plain.specs.Steps.{stamps, begins, redrafts, completes}
use Rattle.chunk_plain.specs.Owned.{held_count}

set_last : {A : Type 0} (xs : List A) (x y : A) → set (xs ++ x ∷ []) (length xs) y ≡ xs ++ y ∷ []
set_last [] x y = refl
set_last (z ∷ zs) x y = ap (λ l. z ∷ l) (set_last zs x y)

held_more : (begun : List BegunChunk) (chunk : ℕ) (content : Content) → held_count (begun ++ Completed chunk content ∷ []) ≡ held_count begun
held_more [] chunk content = refl
held_more (Held c d ∷ begun) chunk content = ap (λ n. n + 1) (held_more begun chunk content)
held_more (Completed c m ∷ begun) chunk content = held_more begun chunk content

-- the view after a round that won
pub round_begun : (old won begun published done : WriterView) (chunk id : ℕ) (words : List ℕ) (draft : Draft) (content : Content) → won.begun ≡ old.begun → id ≡ length old.begun
    → begun ≡ begins (stamps won chunk) chunk words → published ≡ redrafts begun chunk id draft → done ≡ completes published chunk id content
    → done.begun ≡ old.begun ++ Completed chunk content ∷ []
round_begun old won begun published done chunk id words draft content same id_is is_begun is_published is_done =
    let fresh : Draft = Rattle.chunk_plain.specs.Views.fresh words in
    let one : published.begun ≡ set (old.begun ++ Held chunk fresh ∷ []) id (Held chunk draft)
    = ap (λ (v : WriterView). v.begun) is_published ∙ ap (λ (v : WriterView). set v.begun id (Held chunk draft)) is_begun ∙ ap (λ l. set (l ++ Held chunk fresh ∷ []) id (Held chunk draft)) same in
    ap (λ (v : WriterView). v.begun) is_done ∙ (ap (λ l. set l id (Completed chunk content)) one
    ∙ (set-set (old.begun ++ Held chunk fresh ∷ []) id (Held chunk draft) (Completed chunk content)
    ∙ (ap (λ i. set (old.begun ++ Held chunk fresh ∷ []) i (Completed chunk content)) id_is ∙ set_last old.begun (Held chunk fresh) (Completed chunk content))))

-- the same where the tokens name the chunk and the id
pub round_any : (old won begun published done : WriterView) (chunk id c i d j : ℕ) (words : List ℕ) (draft : Draft) (content : Content) → won.begun ≡ old.begun → id ≡ length old.begun
    → c ≡ chunk → i ≡ id → d ≡ chunk → j ≡ id
    → begun ≡ begins (stamps won chunk) chunk words → published ≡ redrafts begun c i draft → done ≡ completes published d j content
    → done.begun ≡ old.begun ++ Completed chunk content ∷ []
round_any old won begun published done chunk id c i d j words draft content same id_is c_is i_is d_is j_is is_begun is_published is_done =
    round_begun old won begun published done chunk id words draft content same id_is is_begun
    (is_published ∙ (ap (λ k. redrafts begun k i draft) c_is ∙ ap (λ k. redrafts begun chunk k draft) i_is))
    (is_done ∙ (ap (λ k. completes published k j content) d_is ∙ ap (λ k. completes published chunk k content) j_is))

pub round_held : (old done : WriterView) (chunk : ℕ) (content : Content) → done.begun ≡ old.begun ++ Completed chunk content ∷ [] → held_count old.begun ≡ 0 → held_count done.begun ≡ 0
round_held old done chunk content is none = ap held_count is ∙ (held_more old.begun chunk content ∙ none)
