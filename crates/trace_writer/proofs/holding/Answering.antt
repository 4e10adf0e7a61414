-- An answer to a flush request counts chunks that are a cut, and stays so: what a writer has completed and noted stands first among all that it completes
-- and notes.
use Rattle.std.proofs.Common.{◌≡◌, ◌∙◌, ℕ, zero, suc, ◌+◌, ◌≤◌, Bool, true, false, List, [], ◌∷◌, ◌++◌, length, take, refl, sym, ap, subst, arith, append-nil}
use Rattle.std.proofs.lemmas.List.{length-append, take-append-le, take_all}
use Rattle.trace_base.specs.declared.policy.WriterPolicy.{WriterPolicy}
use Rattle.trace_model.specs.Calls.{Call, Flushed}
use Rattle.trace_model.specs.Cut.{IsCut}
use Rattle.trace_model.specs.Images.{Image, Patch}
use Rattle.trace_model.specs.Packets.{account_of}
use Rattle.commit_body.specs.Pending.{Pending}
use Rattle.chunk_plain.specs.Histories.{completed_images, completed_patches}
use Rattle.chunk_plain.specs.Meaning.{Meaning}
use Rattle.chunk_plain.specs.Setup.{Setup}
use Rattle.chunk_plain.specs.Views.{At, BegunChunk, Held, Completed, Draft, Content, Reply, WriterView}
use Rattle.chunk_plain.proofs.Lists.{at_inside, at_one}
use Rattle.trace_writer.specs.declared.route.Route.{Route}
use Rattle.trace_writer.specs.declared.state.State.{State}
use Rattle.trace_writer.specs.declared.state.State.TheVariants.{Idle, Between, Writing, Dropping, Stalled}
use Rattle.trace_writer.specs.declared.state.Writer.{Writer}
use Rattle.trace_writer.specs.Agreement.{StateAgrees}
use Rattle.trace_writer.specs.Answered.{KeepsCompleted, IsAnsweredCut}
use Rattle.trace_writer.specs.Core.{WriterAgrees}
use Rattle.trace_writer.specs.Empty.{is_empty}
use Rattle.trace_writer.specs.Helping.{LeavesWriters, Tries, Gains, Again, Ends, Works, Done, Silent, Gets, Helped, Refused, Lost, Tried, GivesUp}
use Rattle.trace_writer.specs.Outcomes.{held_images, held_patches}
use Rattle.trace_writer.specs.OwnSteps.{KeepsChunks, NoneHeld, IsQuiet, IsSilent, GetsChunk, IsInVain, IsVainTry, IsOutNow}
use Rattle.trace_writer.specs.Site.{site_of}
use Rattle.trace_writer.proofs.accounts.CutLaws as laws
use Rattle.trace_writer.proofs.holding.KeptChunks.{shown_none_held}

-- ---- what was completed stays

not_held : (begun : List BegunChunk) (about chunk : ℕ) (draft : Draft) (content : Content)
    → At (Held about draft ∷ begun) zero (Completed chunk content) → ⊥
not_held begun about chunk draft content at =
    let never : Held about draft ≡ Completed chunk content = at_one (Held about draft ∷ begun) (Held about draft)
    (Completed chunk content) zero refl at in cc

pub keeps_on : (old mid new : List BegunChunk) → KeepsCompleted old mid → KeepsCompleted mid new → KeepsCompleted old new
keeps_on old mid new one two = λ position chunk content at. two position chunk content (one position chunk content at)

pub quiet_keeps : (old new : List BegunChunk) → KeepsChunks old new → KeepsCompleted old new
quiet_keeps [] new keeps position chunk content at = absurd (let inside = at_inside [] (Completed chunk content) position at in omega (arith, inside))
quiet_keeps (Held about draft ∷ old) [] keeps position chunk content at = absurd keeps
quiet_keeps (Completed about was ∷ old) [] keeps position chunk content at = absurd keeps
quiet_keeps (Held about draft ∷ old) (Held other next ∷ new) keeps zero chunk content at = absurd (not_held old about chunk draft content at)
quiet_keeps (Held about draft ∷ old) (Held other next ∷ new) keeps (suc position) chunk content at = quiet_keeps old new keeps.1 position chunk content at
quiet_keeps (Held about draft ∷ old) (Completed other later ∷ new) keeps zero chunk content at = absurd (not_held old about chunk draft content at)
quiet_keeps (Held about draft ∷ old) (Completed other later ∷ new) keeps (suc position) chunk content at = quiet_keeps old new keeps.1 position chunk content at
quiet_keeps (Completed about was ∷ old) (Held other next ∷ new) keeps position chunk content at = absurd keeps
quiet_keeps (Completed about was ∷ old) (Completed other later ∷ new) keeps zero chunk content at =
    let number = keeps.0 in let text = keeps.1 in let same : Completed about was ≡ Completed other later = cc in
    subst (λ (one : BegunChunk). At (one ∷ new) zero (Completed chunk content)) same at
quiet_keeps (Completed about was ∷ old) (Completed other later ∷ new) keeps (suc position) chunk content at = quiet_keeps old new keeps.2 position chunk content at

longer_keeps : (old more : List BegunChunk) → KeepsCompleted old (old ++ more)
longer_keeps [] more position chunk content at = absurd (let inside = at_inside [] (Completed chunk content) position at in omega (arith, inside))
longer_keeps (one ∷ old) more zero chunk content at = at
longer_keeps (one ∷ old) more (suc position) chunk content at = longer_keeps old more position chunk content at

module _ {H T W S : Type 0} (means : Meaning T W S) (route : Route) (helps : H → T → ℕ → Bool → H → T → Type 0) where
  abbrev begun : T → W → List BegunChunk
  begun table seat = (means.view table seat).begun

  got_keeps : (old : T) (seat : W) (new : T) (after : W) → GetsChunk means route old seat new after → KeepsCompleted (begun old seat) (begun new after)
  got_keeps old seat new after gets = subst (KeepsCompleted (begun old seat)) (sym (ap (λ (v : WriterView). v.begun) gets.claims.view)) (longer_keeps (begun old seat) _)

  helped_keeps : (old : T) (seat : W) (asking : T) (asker : W) (freed new : T) (after : W) → IsInVain means route old seat asking asker → LeavesWriters means asking freed
      → KeepsCompleted (begun freed asker) (begun new after) → KeepsCompleted (begun old seat) (begun new after)
  helped_keeps old seat asking asker freed new after vain leaves more =
      keeps_on (begun old seat) (begun asking asker) (begun new after) (quiet_keeps (begun old seat) (begun asking asker) vain.chunks)
      (subst (λ (v : WriterView). KeepsCompleted v.begun (begun new after)) (leaves.writers_stay asker vain.step.seat_stays).1 more)

  tries_keep : {begins : Bool} {left : ℕ} {helper kept : H} {old new : T} {seat after : W} {stopped : Bool}
      → Tries (GetsChunk means route) (IsVainTry means route begins)
      (λ asked table answer behind freed. helps asked table route.spec.producer answer behind freed × LeavesWriters means table freed)
      left helper old seat stopped kept new after
      → KeepsCompleted (begun old seat) (begun new after)
  tries_keep (Gains left helper old seat new after gets) = got_keeps old seat new after gets
  tries_keep (Again left helper old seat asking asker answer helped freed stopped kept new after vain helped_it more) =
      helped_keeps old seat asking asker freed new after vain.vain helped_it.1 (tries_keep more)
  tries_keep (Ends helper old seat new after vain) = quiet_keeps (begun old seat) (begun new after) vain.vain.chunks

  -- whatever a writer does for a call, with the helps that it asks for
  pub works_keep_completed : {begins : Bool} {policy : WriterPolicy} {helper left : H} {old new : T} {seat after : W} {stopped : Bool}
      → Works policy (IsSilent means) (IsQuiet means) (GetsChunk means route) (IsVainTry means route begins) (IsOutNow means route)
      (λ asked table answer behind freed. helps asked table route.spec.producer answer behind freed × LeavesWriters means table freed)
      helper old seat stopped left new after
      → KeepsCompleted (begun old seat) (begun new after)
  works_keep_completed (Done helper old seat new after last) = quiet_keeps (begun old seat) (begun new after) last.chunks
  works_keep_completed (Silent helper old seat next moved stopped left new after silent more) =
      keeps_on (begun old seat) (begun next moved) (begun new after) (quiet_keeps (begun old seat) (begun next moved) silent.quiet.chunks) (works_keep_completed more)
  works_keep_completed (Gets helper old seat next moved stopped left new after gets more) =
      keeps_on (begun old seat) (begun next moved) (begun new after) (got_keeps old seat next moved gets) (works_keep_completed more)
  works_keep_completed (Helped helper old seat asking asker helped freed stopped left new after stalls out helped_it more) =
      helped_keeps old seat asking asker freed new after out.vain helped_it.1 (works_keep_completed more)
  works_keep_completed (Refused helper old seat asking asker left kept new after stalls out helped_it last) =
      helped_keeps old seat asking asker kept new after out.vain helped_it.1 (quiet_keeps (begun kept asker) (begun new after) last.chunks)
  works_keep_completed (Lost helper old seat mid between new after drops out last) =
      keeps_on (begun old seat) (begun mid between) (begun new after) (quiet_keeps (begun old seat) (begun mid between) out.vain.chunks)
      (quiet_keeps (begun mid between) (begun new after) last.chunks)
  works_keep_completed (Tried helper old seat tries kept next moved stopped left new after trying tried more) =
      keeps_on (begun old seat) (begun next moved) (begun new after) (tries_keep tried) (works_keep_completed more)
  works_keep_completed (GivesUp helper old seat tries left mid between new after trying tried last) =
      keeps_on (begun old seat) (begun mid between) (begun new after) (tries_keep tried) (quiet_keeps (begun mid between) (begun new after) last.chunks)

-- ---- so an answer's chunks stand first ever after

front_stays : (n : ℕ) (old new : List BegunChunk) → KeepsCompleted old new → n ≤ length old → NoneHeld (take n old)
    → (n ≤ length new) × (take n new ≡ take n old)
front_stays zero old new keeps inside none = (omega arith, refl)
front_stays (suc n) [] new keeps inside none = absurd (omega (arith, inside))
front_stays (suc n) (Held chunk draft ∷ old) new keeps inside none = absurd none
front_stays (suc n) (Completed chunk content ∷ old) [] keeps inside none =
    absurd (let there = at_inside [] (Completed chunk content) zero (keeps zero chunk content refl) in omega (arith, there))
front_stays (suc n) (Completed chunk content ∷ old) (one ∷ new) keeps inside none =
    let first : one ≡ Completed chunk content = at_one (one ∷ new) one (Completed chunk content) zero refl (keeps zero chunk content refl) in
    let rest = front_stays n old new (λ position other later at. keeps (suc position) other later at) (omega (arith, inside)) none in
    (let low = rest.0 in omega (arith, low), (let same = rest.1 in cc))

pub cut_stays : (size sequence : ℕ) (old new : WriterView) (noted : List Call) (answer : Reply) → new.calls ≡ old.calls ++ noted
    → KeepsCompleted old.begun new.begun → IsAnsweredCut size sequence old answer → IsAnsweredCut size sequence new answer
cut_stays size sequence old new noted answer calls keeps was =
    let front = front_stays answer.chunks old.begun new.begun keeps was.chunks was.completed in
    let same : take answer.calls new.calls ≡ take answer.calls old.calls = ap (take answer.calls) calls ∙ take-append-le answer.calls old.calls noted was.calls in
    record {
      calls = let more = length-append old.calls noted in let all = ap (λ (l : List Call). length l) calls in let low = was.calls in omega (arith, more, all, low);
      chunks = front.0;
      before = was.before;
      flushed = same ∙ was.flushed;
      completed = subst NoneHeld (sym front.1) was.completed;
      cut = subst (λ (c : List Call). IsCut size sequence c (completed_images (take answer.chunks new.begun)) (completed_patches (take answer.chunks new.begun))) (sym same)
          (subst (λ (b : List BegunChunk). IsCut size sequence (take answer.calls old.calls) (completed_images b) (completed_patches b)) (sym front.1) was.cut);
    }

-- ---- a writer that holds no chunk

pub empty_holds_none : (setup : Setup) (place : ℕ) (view : WriterView) (one : Writer) → WriterAgrees setup place view one → is_empty one.state ≡ true → NoneHeld view.begun
empty_holds_none setup place view one agrees = by_state one.state agrees.writes.state
  where
    by_state : (at : State) → StateAgrees (site_of setup place one.route) (account_of view.calls) view one.pending at → is_empty at ≡ true → NoneHeld view.begun
    by_state (Idle next_position) is none = shown_none_held (site_of setup place one.route) 0 view.begun is.1.pages is.1.shown
    by_state (Between chunk) is none = absurd (let never : false ≡ true = none in cc)
    by_state (Writing fragment) is none = absurd (let never : false ≡ true = none in cc)
    by_state (Dropping next_position) is none = shown_none_held (site_of setup place one.route) 0 view.begun is.1.idle.pages is.1.idle.shown
    by_state (Stalled next_position) is none = shown_none_held (site_of setup place one.route) 0 view.begun is.1.pages is.1.shown

no_images : (place : ℕ) (at : State) → is_empty at ≡ true → held_images place at ≡ []
no_images place (Idle next_position) none = refl
no_images place (Between chunk) none = absurd (let never : false ≡ true = none in cc)
no_images place (Writing fragment) none = absurd (let never : false ≡ true = none in cc)
no_images place (Dropping next_position) none = refl
no_images place (Stalled next_position) none = refl

no_patches : (pending : Pending) (at : State) → is_empty at ≡ true → held_patches pending at ≡ []
no_patches pending (Idle next_position) none = refl
no_patches pending (Between chunk) none = absurd (let never : false ≡ true = none in cc)
no_patches pending (Writing fragment) none = absurd (let never : false ≡ true = none in cc)
no_patches pending (Dropping next_position) none = refl
no_patches pending (Stalled next_position) none = refl

-- what was completed is all that was begun
pub all_completed : (begun : List BegunChunk) → NoneHeld begun → length (completed_images begun) ≡ length begun
all_completed [] none = refl
all_completed (Held chunk draft ∷ begun) none = absurd none
all_completed (Completed chunk content ∷ begun) none = ap suc (all_completed begun none)

-- An answer behind a flush, with all chunks that the writer began, counts a cut.
pub answered_cut : (setup : Setup) (place : ℕ) (view : WriterView) (one : Writer) (before : List Call) (answer : Reply) → WriterAgrees setup place view one
    → is_empty one.state ≡ true → view.calls ≡ before ++ Flushed ∷ [] → answer.calls ≡ length view.calls → answer.chunks ≡ length view.begun
    → IsAnsweredCut one.route.payload_size (place + 2) view answer
answered_cut setup place view one before answer agrees none calls all_calls all_chunks =
    let noted : take answer.calls view.calls ≡ view.calls = take_all answer.calls view.calls (omega (arith, all_calls)) in
    let front : take answer.chunks view.begun ≡ view.begun = take_all answer.chunks view.begun (omega (arith, all_chunks)) in
    let images : completed_images view.begun ++ held_images place one.state ≡ completed_images view.begun
    = ap (λ (l : List Image). completed_images view.begun ++ l) (no_images place one.state none) ∙ append-nil (completed_images view.begun) in
    let patches : completed_patches view.begun ++ held_patches one.pending one.state ≡ completed_patches view.begun
    = ap (λ (l : List (List Patch)). completed_patches view.begun ++ l) (no_patches one.pending one.state none) ∙ append-nil (completed_patches view.begun) in
    let cut = (laws.agreeing_is_cut setup place view one agrees).cut in
    record {
      calls = omega (arith, all_calls);
      chunks = omega (arith, all_chunks);
      before = before;
      flushed = noted ∙ calls;
      completed = subst NoneHeld (sym front) (empty_holds_none setup place view one agrees none);
      cut = subst (λ (c : List Call). IsCut one.route.payload_size (place + 2) c (completed_images (take answer.chunks view.begun)) (completed_patches (take answer.chunks view.begun))) (sym noted)
          (subst (λ (b : List BegunChunk). IsCut one.route.payload_size (place + 2) view.calls (completed_images b) (completed_patches b)) (sym front)
          (subst (λ (l : List (List Patch)). IsCut one.route.payload_size (place + 2) view.calls (completed_images view.begun) l) patches
          (subst (λ (l : List Image). IsCut one.route.payload_size (place + 2) view.calls l (completed_patches view.begun ++ held_patches one.pending one.state)) images cut)));
    }
