-- What a writer that is between two calls has written: a cut of its packets, whose images are those of the chunks that it began.
use Rattle.std.proofs.Common.{◌≡◌, ◌∙◌, ℕ, zero, suc, ◌+◌, ◌<◌, ◌⊎◌, List, [], ◌∷◌, ◌++◌, length, get_or, Some, refl, sym, ap, subst, arith, inl, inr, length-append}
use Rattle.std.specs.Prelude.{slice_get}
use Rattle.std.proofs.lemmas.Option.{same_Some, slice_get-get_or, slice_get_within}
use Rattle.trace_base.proofs.Lists.{get_more}
use Rattle.trace_base.specs.declared.policy.WriterSpec.{WriterSpec}
use Rattle.trace_model.specs.Fragments.{drop_size}
use Rattle.trace_model.specs.Images.{Image}
use Rattle.trace_model.specs.Packets.{Account, account_of}
use Rattle.commit_body.specs.Pending.{Pending}
use Rattle.chunk_plain.specs.Setup.{Setup, IsLaid, HasProducer, IsChunkOf, range_of, producer_of, no_writer}
use Rattle.chunk_plain.specs.Views.{At, BegunChunk, Held, Completed, Content, Draft, WriterView}
use Rattle.chunk_plain.specs.Histories.{completed_images}
use Rattle.chunk_plain.proofs.Lists.{at_more, at_one}
use Rattle.delivery_laws.proofs.CompleteLemmas.{full_at}
use Rattle.delivery_laws.proofs.WrittenPackets.{are_full}
use Rattle.world_model.specs.FirstBuffers.{payload_at}
use Rattle.world_model.specs.FrontLaws.{StandsInWords}
use Rattle.world_model.specs.Accounts.{all_images, HasCut}
use Rattle.world_model.proofs.OwnLemmas.{image_at, elem_at}
use Rattle.trace_writer.specs.declared.route.Route.{Route}
use Rattle.trace_writer.specs.declared.state.State.{State}
use Rattle.trace_writer.specs.declared.state.State.TheVariants.{Idle, Between, Writing, Dropping, Stalled}
use Rattle.trace_writer.specs.declared.state.Writer.{Writer}
use Rattle.trace_writer.specs.Agreement.{StateAgrees}
use Rattle.trace_writer.specs.Laws.{IsHeldImage}
use Rattle.trace_writer.specs.OwnSteps.{NoneHeld}
use Rattle.trace_writer.specs.Outcomes.{held_images, held_patches}
use Rattle.trace_writer.specs.Site.{Site, site_of, IsRoute}
use Rattle.trace_writer.proofs.accounts.CutLaws.{agreeing_is_cut, images_held as front_images}
use Rattle.trace_writer.proofs.holding.HeldLaws.{held_is_published}
use Rattle.trace_writer.proofs.holding.KeptChunks.{shown_none_held}
use Rattle.service_core.specs.OrderLaws.{HasImages}
use Rattle.replay_model.specs.Written.{HasWritten}
use Rattle.replay_model.proofs.AccountLemmas.{get_seam}
use Rattle.schedule_laws.specs.Resting.{IsBetweenCalls}

-- ---- chunks that were begun

-- where none is held, each has its image at its own position
completed_there : (begun : List BegunChunk) (position chunk : ℕ) (content : Content) → NoneHeld begun → At begun position (Completed chunk content)
    → slice_get (completed_images begun) position ≡ Some content.image
completed_there [] position chunk content none at = absurd (cc)
completed_there (Held other draft ∷ begun) position chunk content none at = absurd none
completed_there (Completed other one ∷ begun) zero chunk content none at = let same : one ≡ content = cc in ap (λ (c : Content). Some c.image) same
completed_there (Completed other one ∷ begun) (suc position) chunk content none at = completed_there begun position chunk content none at

held_nowhere : (begun : List BegunChunk) (position chunk : ℕ) (draft : Draft) → NoneHeld begun → At begun position (Held chunk draft) → ⊥
held_nowhere [] position chunk draft none at = absurd (cc)
held_nowhere (Held other one ∷ begun) position chunk draft none at = none
held_nowhere (Completed other one ∷ begun) zero chunk draft none at = absurd (cc)
held_nowhere (Completed other one ∷ begun) (suc position) chunk draft none at = held_nowhere begun position chunk draft none at

completed_long : (begun : List BegunChunk) → NoneHeld begun → length (completed_images begun) ≡ length begun
completed_long [] none = refl
completed_long (Held other draft ∷ begun) none = absurd none
completed_long (Completed other one ∷ begun) none = ap suc (completed_long begun none)

-- ---- what a writer holds

-- the newest of these chunks is held, and stands in this image; the others are completed
record IsLast (begun : List BegunChunk) (image : Image) : Type 0 where
  front : List BegunChunk
  chunk : ℕ
  draft : Draft
  none : NoneHeld front
  begun_is : begun ≡ front ++ Held chunk draft ∷ []
  stands : StandsInWords draft image

-- all are completed, or all but the last one
abbrev Holding : List BegunChunk → List Image → Type 0
Holding begun held = (NoneHeld begun × (held ≡ [])) ⊎ ((image : Image) × (held ≡ image ∷ []) × IsLast begun image)

-- the draft of a chunk that is held last, whose image is published but for its last fragment
last_of : (view : WriterView) (front : List BegunChunk) (chunk : ℕ) (draft : Draft) (image : Image) → view.begun ≡ front ++ Held chunk draft ∷ [] → NoneHeld front
    → IsHeldImage view image → IsLast view.begun image
last_of view front chunk draft image begun_is none is =
    let ends = ap (λ (bs : List BegunChunk). length bs) begun_is in
    let ends_too = ap (λ (bs : List BegunChunk). length bs) is.begun in
    let same_place : length is.completed ≡ length front =
    omega (arith, ends, ends_too, length-append front (Held chunk draft ∷ []), length-append is.completed (Held is.chunk is.draft ∷ [])) in
    let here = at_last view.begun front chunk draft begun_is in
    let there = subst (λ (n : ℕ). At view.begun n (Held is.chunk is.draft)) same_place (at_last view.begun is.completed is.chunk is.draft is.begun) in
    let equal = at_one view.begun (Held is.chunk is.draft) (Held chunk draft) (length front) there here in
    let same : is.draft ≡ draft = cc in
    record {
      front = front;
      chunk = chunk;
      draft = draft;
      none = none;
      begun_is = begun_is;
      stands = subst (λ (d : Draft). StandsInWords d image) same
          record { head = is.head; before = is.before; count = is.count; rest = is.rest; payload = is.payload; bytes = is.bytes };
    }
  where
    at_last : (begun front : List BegunChunk) (chunk : ℕ) (draft : Draft) → begun ≡ front ++ Held chunk draft ∷ [] → At begun (length front) (Held chunk draft)
    at_last begun front chunk draft is =
        subst (λ (bs : List BegunChunk). At bs (length front) (Held chunk draft)) (sym is)
        (elem_at (front ++ Held chunk draft ∷ []) (length front) (Held chunk draft) (get_seam front (Held chunk draft)))

-- in each state of a writer
holding_of : (site : Site) (account : Account) (view : WriterView) (pending : Pending) (place : ℕ) (state : State) → StateAgrees site account view pending state
    → ((image : Image) → held_images place state ≡ image ∷ [] → IsHeldImage view image) → Holding view.begun (held_images place state)
holding_of site account view pending place (Idle next_id) is published = inl (shown_none_held site 0 view.begun is.1.pages is.1.shown, refl)
holding_of site account view pending place (Between chunk) is published =
    inr (_, refl, last_of view is.completed chunk.held.chunk is.draft _ is.begun (shown_none_held site 0 is.completed is.pages is.shown) (published _ refl))
holding_of site account view pending place (Writing fragment) is published =
    inr (
      _,
      refl,
      last_of view is.inside.completed fragment.held.chunk is.inside.draft _ is.inside.begun
          (shown_none_held site 0 is.inside.completed is.inside.pages is.inside.shown) (published _ refl),
    )
holding_of site account view pending place (Dropping next_id) is published = inl (shown_none_held site 0 view.begun is.1.idle.pages is.1.idle.shown, refl)
holding_of site account view pending place (Stalled next_id) is published = inl (shown_none_held site 0 view.begun is.1.pages is.1.shown, refl)

-- ---- the images of all chunks

-- each image is of the payload's size, which is smaller than the value of a drop mark
small_image : (size place : ℕ) (view : WriterView) (held : List Image) → HasCut size place view held → (position : ℕ) (image : Image)
    → slice_get (all_images view held) position ≡ Some image → length image.payload < drop_size
small_image size place view held cut position image there =
    let paged = image_at (place + 2) 0 cut.cut.pages position image (subst (λ (xs : List Image). slice_get xs position ≡ Some image) cut.cut.images_are there) in
    let full = full_at size cut.cut.pages position paged.page (are_full size cut.cut.pages cut.cut.cut.full) paged.get in
    let long : length image.payload ≡ size = ap (λ (one : Image). length one.payload) paged.is ∙ full.whole in
    let small = cut.small in
    omega (arith, long, small)

-- what is asked of a chunk that a writer holds
abbrev IsHeldThere : List Image → ℕ → Draft → Type 0
IsHeldThere images position draft = (image : Image) × (slice_get images position ≡ Some image) × StandsInWords draft image × (length image.payload < drop_size)

module _ (view : WriterView) (held : List Image) (small : (position : ℕ) (image : Image) → slice_get (all_images view held) position ≡ Some image → length image.payload < drop_size) where
  images_none : NoneHeld view.begun → HasImages view (all_images view held)
  images_none none = record {
    completed = λ position chunk content at. get_more (completed_images view.begun) held position content.image (completed_there view.begun position chunk content none at);
    held = λ position chunk draft at. absurd (held_nowhere view.begun position chunk draft none at);
  }

  module _ (image : Image) (held_is : held ≡ image ∷ []) (last : IsLast view.begun image) where
    -- the images are those of the front, and this one
    images_are : all_images view held ≡ completed_images last.front ++ image ∷ []
    images_are =
        ap (λ (begun : List BegunChunk). completed_images begun ++ held) last.begun_is
        ∙ ap (λ (images : List Image). images ++ held) (front_images last.front last.chunk last.draft)
        ∙ ap (λ (images : List Image). completed_images last.front ++ images) held_is

    -- and a chunk is one of the front, or the last one
    place_of : (position : ℕ) (one : BegunChunk) → At view.begun position one → At last.front position one ⊎ ((position ≡ length last.front) × (Held last.chunk last.draft ≡ one))
    place_of position one at = at_more last.front (Held last.chunk last.draft) one position (subst (λ (begun : List BegunChunk). At begun position one) last.begun_is at)

    completed_one : (position chunk : ℕ) (content : Content) → At last.front position (Completed chunk content) ⊎ ((position ≡ length last.front) × (Held last.chunk last.draft ≡ Completed chunk content))
        → slice_get (all_images view held) position ≡ Some content.image
    completed_one position chunk content (inl there) =
        subst (λ (images : List Image). slice_get images position ≡ Some content.image) (sym images_are)
        (get_more (completed_images last.front) (image ∷ []) position content.image (completed_there last.front position chunk content last.none there))
    completed_one position chunk content (inr at_end) = let never = at_end.1 in absurd cc

    held_one : (position chunk : ℕ) (draft : Draft) → At last.front position (Held chunk draft) ⊎ ((position ≡ length last.front) × (Held last.chunk last.draft ≡ Held chunk draft))
        → IsHeldThere (all_images view held) position draft
    held_one position chunk draft (inl there) = absurd (held_nowhere last.front position chunk draft last.none there)
    held_one position chunk draft (inr at_end) =
        let equal = at_end.1 in
        let same : last.draft ≡ draft = cc in
        let position_is : position ≡ length (completed_images last.front) = at_end.0 ∙ sym (completed_long last.front last.none) in
        let there : slice_get (all_images view held) position ≡ Some image =
        subst (λ (images : List Image). slice_get images position ≡ Some image) (sym images_are)
        (subst (λ (n : ℕ). slice_get (completed_images last.front ++ image ∷ []) n ≡ Some image) (sym position_is) (get_seam (completed_images last.front) image)) in
        (image, there, subst (λ (d : Draft). StandsInWords d image) same last.stands, small position image there)

    images_held : HasImages view (all_images view held)
    images_held = record {
      completed = λ position chunk content at. completed_one position chunk content (place_of position (Completed chunk content) at);
      held = λ position chunk draft at. held_one position chunk draft (place_of position (Held chunk draft) at);
    }

  images_of : Holding view.begun held → HasImages view (all_images view held)
  images_of (inl all) = images_none all.0
  images_of (inr some) = images_held some.0 some.1 some.2

-- what was begun was completed, or is held
begun_long : (begun : List BegunChunk) (held : List Image) → Holding begun held → length begun ≡ length (completed_images begun) + length held
begun_long begun held (inl all) =
    let completed = completed_long begun all.0 in let none = ap (λ (images : List Image). length images) all.1 in
    omega (arith, completed, none)
begun_long begun held (inr some) =
    let last = some.2 in
    let long = ap (λ (bs : List BegunChunk). length bs) last.begun_is in
    let both = length-append last.front (Held last.chunk last.draft ∷ []) in
    let images = ap (λ (bs : List BegunChunk). length (completed_images bs)) last.begun_is in
    let front = ap (λ (images : List Image). length images) (front_images last.front last.chunk last.draft) in
    let completed = completed_long last.front last.none in
    let one = ap (λ (images : List Image). length images) some.1 in
    omega (arith, long, both, images, front, completed, one)

-- ---- a writer between two calls

-- the route's producer is that of the writer at this place
pub has_producer : (setup : Setup) (place : ℕ) (route : Route) → IsRoute setup place route → HasProducer setup (producer_of setup place)
has_producer setup place route is =
    let inside = slice_get_within setup.writers place route.spec is.spec in
    let there = slice_get-get_or setup.writers place no_writer inside in
    let same = same_Some (get_or setup.writers place no_writer) route.spec (sym there ∙ is.spec) in
    subst (λ (spec : WriterSpec). HasProducer setup spec.producer) (sym same) is.producer

-- so the payload size of its chunks is that of the producer
size_is : (setup : Setup) (place : ℕ) (route : Route) → IsLaid setup → IsRoute setup place route → route.payload_size ≡ payload_at setup place
size_is setup place route laid is =
    let some = laid.some (producer_of setup place) (has_producer setup place route is) in
    let first : IsChunkOf setup (producer_of setup place) (range_of setup (producer_of setup place)).first = record { least = omega arith; below = omega arith } in
    sym (is.sizes (range_of setup (producer_of setup place)).first first)
    ∙ laid.sizes (producer_of setup place) (range_of setup (producer_of setup place)).first first

pub has_written : (setup : Setup) (place : ℕ) (view : WriterView) → IsLaid setup → IsBetweenCalls setup place view → HasWritten setup place view
has_written setup place view laid between =
    let writer : Writer = between.writer in let agrees = between.agrees in
    let held : List Image = held_images place writer.state in
    let most = agrees.writes.route.most in
    let found = agreeing_is_cut setup place view writer agrees in
    let cut : HasCut (payload_at setup place) place view held =
    subst (λ (n : ℕ). HasCut n place view held) (size_is setup place writer.route laid agrees.writes.route)
    record {
      unsent = held_patches writer.pending writer.state;
      cut = found.cut;
      ends = found.ends;
      possible = agrees.possible;
      small = omega arith;
    } in
    let holding = holding_of (site_of setup place writer.route) (account_of view.calls) view writer.pending place writer.state agrees.writes.state
    (λ image is. held_is_published setup place view writer agrees image is) in
    record {
      held = held;
      cut = cut;
      images = images_of view held (small_image (payload_at setup place) place view held cut) holding;
      begun = begun_long view.begun held holding;
    }
