-- Chunks that a writer began, as its quiet steps leave them, and the statuses of chunks in a world.
use Rattle.std.proofs.Common.{◌≡◌, ◌∙◌, ℕ, zero, suc, ◌+◌, ◌++◌, List, [], ◌∷◌, length, set, get_or, Bool, true, false, Option, Some, refl, sym, ap}
use mathlib.Core.Option.{some}
use Rattle.std.proofs.lemmas.Bool.{true≢false}
use Rattle.trace_model.specs.Pages.{Page}
use Rattle.chunk_plain.specs.Views.{At, BegunChunk, chunk_of, Held, Completed, Draft, Content, WriterView}
use Rattle.chunk_plain.specs.Steps.{moved, with_writer_view}
use Rattle.chunk_plain.specs.World.{World, Status, Unclaimed, Writing, Ready}
use Rattle.chunk_plain.specs.Owned.{held_count}
use Rattle.trace_writer.specs.Site.{Site}
use Rattle.trace_writer.specs.Filled.{ShowsPages}
use Rattle.trace_writer.specs.OwnSteps.{KeepsChunks, NoneHeld, FreesNone}

-- Chunks

pub keeps_same : (begun : List BegunChunk) → KeepsChunks begun begun
keeps_same [] = tt
keeps_same (Held chunk head ∷ begun) = (refl, keeps_same begun)
keeps_same (Completed chunk content ∷ begun) = (refl, refl, keeps_same begun)

pub keeps_both : (old mid new : List BegunChunk) → KeepsChunks old mid → KeepsChunks mid new → KeepsChunks old new
keeps_both [] [] new one two = two
keeps_both [] (y ∷ mid) new one two = absurd one
keeps_both (Held chunk head ∷ old) [] new one two = absurd one
keeps_both (Completed chunk content ∷ old) [] new one two = absurd one
keeps_both (Held chunk head ∷ old) (Held other next ∷ mid) [] one two = absurd two
keeps_both (Held chunk head ∷ old) (Held other next ∷ mid) (Held last h ∷ new) one two = (two.0 ∙ one.0, keeps_both old mid new one.1 two.1)
keeps_both (Held chunk head ∷ old) (Held other next ∷ mid) (Completed last c ∷ new) one two = (two.0 ∙ one.0, keeps_both old mid new one.1 two.1)
keeps_both (Held chunk head ∷ old) (Completed other content ∷ mid) [] one two = absurd two
keeps_both (Held chunk head ∷ old) (Completed other content ∷ mid) (Held last h ∷ new) one two = absurd two
keeps_both (Held chunk head ∷ old) (Completed other content ∷ mid) (Completed last c ∷ new) one two = (two.0 ∙ one.0, keeps_both old mid new one.1 two.2)
keeps_both (Completed chunk content ∷ old) (Held other next ∷ mid) new one two = absurd one
keeps_both (Completed chunk content ∷ old) (Completed other later ∷ mid) [] one two = absurd two
keeps_both (Completed chunk content ∷ old) (Completed other later ∷ mid) (Held last h ∷ new) one two = absurd two
keeps_both (Completed chunk content ∷ old) (Completed other later ∷ mid) (Completed last c ∷ new) one two =
    (two.0 ∙ one.0, two.1 ∙ one.1, keeps_both old mid new one.2 two.2)

pub keeps_long : (old new : List BegunChunk) → KeepsChunks old new → length new ≡ length old
keeps_long [] [] keeps = refl
keeps_long [] (y ∷ new) keeps = absurd keeps
keeps_long (Held chunk head ∷ old) [] keeps = absurd keeps
keeps_long (Completed chunk content ∷ old) [] keeps = absurd keeps
keeps_long (Held chunk head ∷ old) (Held other next ∷ new) keeps = ap suc (keeps_long old new keeps.1)
keeps_long (Held chunk head ∷ old) (Completed other content ∷ new) keeps = ap suc (keeps_long old new keeps.1)
keeps_long (Completed chunk content ∷ old) (Held other next ∷ new) keeps = absurd keeps
keeps_long (Completed chunk content ∷ old) (Completed other later ∷ new) keeps = ap suc (keeps_long old new keeps.2)

is_held : BegunChunk → Bool
is_held (Held chunk head) = true
is_held (Completed chunk content) = false

-- the one that stands first
first_is : (x y : BegunChunk) (begun : List BegunChunk) → At (x ∷ begun) 0 y → x ≡ y
first_is x y begun at = let same : some x ≡ some y = at in cc

-- another thing stands in a held chunk
pub keeps_redrafted : (begun : List BegunChunk) (chunk position : ℕ) (head next : Draft) → At begun position (Held chunk head) → KeepsChunks begun (set begun position (Held chunk next))
unfolding is_held
keeps_redrafted [] chunk position head next held = tt
keeps_redrafted (Held other h ∷ begun) chunk zero head next held = (sym (ap chunk_of (first_is (Held other h) (Held chunk head) begun held)), keeps_same begun)
keeps_redrafted (Held other h ∷ begun) chunk (suc position) head next held = (refl, keeps_redrafted begun chunk position head next held)
keeps_redrafted (Completed other c ∷ begun) chunk zero head next held = absurd (true≢false (sym (ap is_held (first_is (Completed other c) (Held chunk head) begun held))))
keeps_redrafted (Completed other c ∷ begun) chunk (suc position) head next held = (refl, refl, keeps_redrafted begun chunk position head next held)

-- or the chunk is completed
pub keeps_set : (begun : List BegunChunk) (chunk position : ℕ) (head : Draft) (content : Content) → At begun position (Held chunk head) → KeepsChunks begun (set begun position (Completed chunk content))
unfolding is_held
keeps_set [] chunk position head content held = tt
keeps_set (Held other h ∷ begun) chunk zero head content held = (sym (ap chunk_of (first_is (Held other h) (Held chunk head) begun held)), keeps_same begun)
keeps_set (Held other h ∷ begun) chunk (suc position) head content held = (refl, keeps_set begun chunk position head content held)
keeps_set (Completed other c ∷ begun) chunk zero head content held = absurd (true≢false (sym (ap is_held (first_is (Completed other c) (Held chunk head) begun held))))
keeps_set (Completed other c ∷ begun) chunk (suc position) head content held = (refl, refl, keeps_set begun chunk position head content held)

-- completed chunks are none that is held
pub shown_none_held : (site : Site) (position : ℕ) (begun : List BegunChunk) (pages : List Page) → ShowsPages site position begun pages → NoneHeld begun
shown_none_held site position [] pages shown = tt
shown_none_held site position (Held chunk head ∷ begun) pages shown = absurd shown
shown_none_held site position (Completed chunk content ∷ begun) [] shown = absurd shown
shown_none_held site position (Completed chunk content ∷ begun) (page ∷ pages) shown = shown_none_held site (suc position) begun pages shown.1

-- how many are held
pub none_counted : (begun : List BegunChunk) → NoneHeld begun → held_count begun ≡ 0
none_counted [] none = refl
none_counted (Held chunk draft ∷ begun) none = absurd none
none_counted (Completed chunk content ∷ begun) none = none_counted begun none

pub one_held : (begun : List BegunChunk) (chunk : ℕ) (draft : Draft) → held_count (begun ++ Held chunk draft ∷ []) ≡ held_count begun + 1
one_held [] chunk draft = refl
one_held (Held c d ∷ begun) chunk draft = ap (λ (n : ℕ). n + 1) (one_held begun chunk draft)
one_held (Completed c content ∷ begun) chunk draft = one_held begun chunk draft

-- Worlds

pub frees_same : {T : Type 0} (told : T → Option World) (table : T) → FreesNone told table table
frees_same told table = λ world is. (world, is, λ chunk free. free)

pub frees_both : {T : Type 0} (told : T → Option World) (old mid new : T) → FreesNone told old mid → FreesNone told mid new → FreesNone told old new
frees_both told old mid new one two = λ world is.
    let first = one world is in
    let second = two first.0 first.1 in
    (second.0, second.1, λ chunk free. first.2 chunk (second.2 chunk free))

-- a chunk that is used isn't free
unclaimed_set : (chunks : List Status) (chunk other : ℕ) (to : Status) → (to ≡ Unclaimed → ⊥) → get_or (set chunks chunk to) other Unclaimed ≡ Unclaimed
    → get_or chunks other Unclaimed ≡ Unclaimed
unclaimed_set [] chunk other to used free = free
unclaimed_set (x ∷ chunks) zero zero to used free = absurd (used free)
unclaimed_set (x ∷ chunks) zero (suc other) to used free = free
unclaimed_set (x ∷ chunks) (suc chunk) zero to used free = free
unclaimed_set (x ∷ chunks) (suc chunk) (suc other) to used free = unclaimed_set chunks chunk other to used free

is_unclaimed : Status → Bool
is_unclaimed Unclaimed = true
is_unclaimed other = false

pub writing_used : (place position : ℕ) (head : Draft) → Writing place position head ≡ Unclaimed → ⊥
unfolding is_unclaimed
writing_used place position head e = true≢false (sym (ap is_unclaimed e))

pub ready_used : (place position : ℕ) (content : Content) → Ready place position content ≡ Unclaimed → ⊥
unfolding is_unclaimed
ready_used place position content e = true≢false (sym (ap is_unclaimed e))

-- a writer's step uses a chunk
pub frees_moved : {T : Type 0} (told : T → Option World) (old new : T) (place chunk : ℕ) (view : WriterView) (to : Status) → (to ≡ Unclaimed → ⊥)
    → ((world : World) → told old ≡ Some world → told new ≡ Some (moved world place view chunk to)) → FreesNone told old new
frees_moved told old new place chunk view to used tells = λ world is.
    (moved world place view chunk to, tells world is, λ other free. unclaimed_set world.chunks chunk other to used free)

-- or no chunk
pub frees_noted : {T : Type 0} (told : T → Option World) (old new : T) (place : ℕ) (view : WriterView)
    → ((world : World) → told old ≡ Some world → told new ≡ Some (with_writer_view world place view)) → FreesNone told old new
frees_noted told old new place view tells = λ world is. (with_writer_view world place view, tells world is, λ other free. free)
