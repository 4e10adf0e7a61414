-- A world that stands as it should is an account: its records are faithful to what its writers emitted.
use Rattle.std.proofs.Common.{◌≡◌, ◌∙◌, ℕ, zero, suc, ◌+◌, ◌<◌, ◌≤◌, ◌⊎◌, true, false, All, List, [], ◌∷◌, ◌++◌, length, map, get_or, Some, refl, sym, ap, subst, arith, inl, inr, length-append}
use Rattle.std.specs.Prelude.{slice_get, option_map}
use Rattle.std.proofs.Math.Logic.{∥∥₁_elim, ∥∥₁_map}
use Rattle.std.proofs.Math.Nat.{ℕ_set}
use Rattle.std.proofs.lemmas.Bool.{cases_lt}
use Rattle.std.proofs.lemmas.List.{length-map}
use Rattle.std.proofs.lemmas.Option.{same_Some, slice_get-map, slice_get-get_or, slice_get_within}
use Rattle.trace_base.proofs.Lists.{get_more}
use Rattle.trace_base.specs.declared.policy.WriterSpec.{WriterSpec}
use Rattle.trace_model.specs.Fragments.{drop_size}
use Rattle.trace_model.specs.Images.{Image}
use Rattle.trace_model.specs.Packets.{packets_of, emissions_of}
use Rattle.trace_model.specs.Sequences.{Sequence, IsFresh, sequence_in, is_known}
use Rattle.trace_model.specs.Tells.{Tells}
use Rattle.trace_model.specs.Delivery.{Delivered, IsFaithfulOf, records_of}
use Rattle.trace_model.specs.History.{records_after}
use Rattle.chunk_plain.specs.Setup.{Setup, sequence_of, no_writer}
use Rattle.chunk_plain.specs.Views.{At, BegunChunk, Held, Completed, Content, Draft, taken_of, WriterView, newcomer}
use Rattle.chunk_plain.specs.World.{World, writer}
use Rattle.chunk_plain.specs.Histories.{completed_images, history_of}
use Rattle.chunk_plain.specs.Owned.{IsOwned, held_count}
use Rattle.chunk_plain.proofs.Lists.{at_inside, at_one}
use Rattle.world_model.specs.FirstBuffers.{BufferSpec, payload_at, first_buffers}
use Rattle.world_model.specs.FrontLaws.{StandsInWords}
use Rattle.world_model.specs.Accounts.{NoneCommitted, all_images, HasCut, InOrder, IsAccount}
use Rattle.trace_model.specs.Cut.{newest_goes_on}
use Rattle.trace_model.proofs.PageLemmas.{images_long}
use Rattle.delivery_laws.specs.DeliveryLaws.{IsAccountOf}
use Rattle.delivery_laws.specs.Orders as orders
use Rattle.delivery_laws.specs.WriterSheets.{sheets_of}
use Rattle.delivery_laws.proofs.CompleteLemmas.{full_at}
use Rattle.delivery_laws.proofs.WrittenPackets.{are_full}
use Rattle.world_model.proofs.ProjectLemmas.{all_mine}
use Rattle.world_model.proofs.MakingLemmas.{only_writers}
use Rattle.world_model.proofs.FaithfulLemmas.{told_of, order_events}
use Rattle.world_model.proofs.OwnLemmas.{image_at, elem_at}
use Rattle.trace_writer.specs.Laws.{IsHeldImage}
use Rattle.service_core.specs.OrderLaws.{HasImages}
use Rattle.replay_model.specs.Does.{Wrote, is_shut}
use Rattle.replay_model.specs.Written.{HasWritten}
use Rattle.replay_model.proofs.OwnedLemmas.{owned_itself, named, learnt, finds, in_order}
use Rattle.replay_model.proofs.SortedLemmas.{at_stage, IsSorted}
use Rattle.replay_model.proofs.ScrapedLemmas.{counted, one_held, two_held, few_held}
use Rattle.replay_model.proofs.StandsLemmas.{Stands}

-- ---- images of what was begun

pub get_seam : {A : Type 0} (xs : List A) (y : A) → slice_get (xs ++ y ∷ []) (length xs) ≡ Some y
get_seam [] y = refl
get_seam (x ∷ xs) y = get_seam xs y

-- an image that was completed is among those of all chunks, at its own position
completed_there : (begun : List BegunChunk) (i chunk : ℕ) (content : Content) → At begun i (Completed chunk content)
    → (n : ℕ) × (slice_get (completed_images begun) n ≡ Some content.image)
completed_there [] i chunk content at = absurd (cc)
completed_there (Held other draft ∷ begun) zero chunk content at = absurd (cc)
completed_there (Held other draft ∷ begun) (suc i) chunk content at = completed_there begun i chunk content at
completed_there (Completed other one ∷ begun) zero chunk content at =
    let same : one ≡ content = cc in (0, ap (λ (c : Content). Some c.image) same)
completed_there (Completed other one ∷ begun) (suc i) chunk content at =
    let h = completed_there begun i chunk content at in (suc h.0, h.1)

-- a writer has begun as many chunks as there are pages of its cut
pub pages_begun : (setup : Setup) (place : ℕ) (view : WriterView) → (wrote : HasWritten setup place view) → length view.begun ≡ length wrote.cut.cut.pages
pages_begun setup place view wrote =
    let begun = wrote.begun in
    let both = length-append (completed_images view.begun) wrote.held in
    let images = ap (λ (xs : List Image). length xs) wrote.cut.cut.images_are in
    let long = images_long (place + 2) 0 wrote.cut.cut.pages in
    omega (arith, begun, both, images, long)

module _ (setup : Setup) (world : World) (owned : ∥ IsOwned world ∥₁) (place : ℕ) (wrote : Wrote setup place (writer world place)) where
  abbrev view : WriterView
  view = writer world place

  abbrev begun : List BegunChunk
  begun = (writer world place).begun

  abbrev images : List Image
  images = all_images (writer world place) wrote.held

  -- the image of a completed chunk stands at its position
  image_of_completed : (id chunk : ℕ) (content : Content) → At begun id (Completed chunk content) → slice_get images id ≡ Some content.image
  image_of_completed id chunk content at =
      let h = completed_there begun id chunk content at in
      let there : slice_get images h.0 ≡ Some content.image = get_more (completed_images begun) wrote.held h.0 content.image h.1 in
      let paged = image_at (place + 2) 0 wrote.cut.cut.pages h.0 content.image (subst (λ (xs : List Image). slice_get xs h.0 ≡ Some content.image) wrote.cut.cut.images_are there) in
      let number = ap (λ (i : Image). i.chunk_id) paged.is in
      let id_is = named world (owned_itself world owned) place id chunk content at in
      let same : h.0 ≡ id = omega (arith, number, id_is) in
      subst (λ (n : ℕ). slice_get images n ≡ Some content.image) same there

  -- and that of the held one at the end
  record IsHeldAt (id chunk : ℕ) (draft : Draft) : Type 0 where
    image : Image
    there : slice_get images id ≡ Some image
    stands : StandsInWords draft image

  image_of_held : (id chunk : ℕ) (draft : Draft) → At begun id (Held chunk draft) → IsHeldAt id chunk draft
  image_of_held id chunk draft at = by_held wrote.held refl
    where
      some : 1 ≤ held_count begun
      some = one_held begun id chunk draft at

      by_held : (held : List Image) → wrote.held ≡ held → IsHeldAt id chunk draft
      by_held [] is =
          let all = counted begun in let many = wrote.begun in let none = ap (λ (xs : List Image). length xs) is in
          absurd (omega (arith, all, many, none, some))
      by_held (one ∷ other ∷ others) is = absurd (wrote.only one other others is)
      by_held (image ∷ []) is = record {
        image = image;
        there =
            subst (λ (xs : List Image). slice_get (completed_images begun ++ xs) id ≡ Some image) (sym is)
            (subst (λ (n : ℕ). slice_get (completed_images begun ++ image ∷ []) n ≡ Some image) (sym id_is) (get_seam (completed_images begun) image));
        stands = subst (λ (d : Draft). StandsInWords d image) same_draft stands_there;
      }
        where
          held_is : IsHeldImage view image
          held_is = wrote.stands image is

          last : At begun (length held_is.completed) (Held held_is.chunk held_is.draft)
          last = subst (λ (bs : List BegunChunk). At bs (length held_is.completed) (Held held_is.chunk held_is.draft)) (sym held_is.begun)
              (elem_at (held_is.completed ++ Held held_is.chunk held_is.draft ∷ []) (length held_is.completed) (Held held_is.chunk held_is.draft)
              (get_seam held_is.completed (Held held_is.chunk held_is.draft)))

          ends : length begun ≡ length held_is.completed + 1
          ends = ap (λ (bs : List BegunChunk). length bs) held_is.begun ∙ length-append held_is.completed (Held held_is.chunk held_is.draft ∷ [])

          id_last : id ≡ length held_is.completed
          id_last = by_order (cases_lt id (length held_is.completed))
            where
              by_order : (id < length held_is.completed) ⊎ (length held_is.completed ≤ id) → id ≡ length held_is.completed
              by_order (inl below) =
                  let two = two_held begun id (length held_is.completed) chunk held_is.chunk draft held_is.draft at last below in
                  let few = few_held setup place view wrote in
                  absurd (omega (arith, two, few))
              by_order (inr past) = let inside = at_inside begun (Held chunk draft) id at in let long = ends in omega (arith, past, inside, long)

          same_draft : held_is.draft ≡ draft
          same_draft =
              let here : At begun id (Held held_is.chunk held_is.draft) = subst (λ (n : ℕ). At begun n (Held held_is.chunk held_is.draft)) (sym id_last) last in
              let equal = at_one begun (Held held_is.chunk held_is.draft) (Held chunk draft) id here at in
              cc

          id_is : id ≡ length (completed_images begun)
          id_is =
              let all = counted begun in let many = wrote.begun in let one = ap (λ (xs : List Image). length xs) is in
              let long = ends in let at_end = id_last in
              omega (arith, all, many, one, long, at_end)

          stands_there : StandsInWords held_is.draft image
          stands_there = record {
            head = held_is.head;
            before = held_is.before;
            count = held_is.count;
            rest = held_is.rest;
            payload = held_is.payload;
            bytes = held_is.bytes;
          }

  small_image : (id : ℕ) (image : Image) → slice_get images id ≡ Some image → length image.payload < drop_size
  small_image id image there =
      let size : ℕ = payload_at setup place in
      let paged = image_at (place + 2) 0 wrote.cut.cut.pages id image (subst (λ (xs : List Image). slice_get xs id ≡ Some image) wrote.cut.cut.images_are there) in
      let full = full_at size wrote.cut.cut.pages id paged.page (are_full size wrote.cut.cut.pages wrote.cut.cut.cut.full) paged.get in
      let long : length image.payload ≡ size = ap (λ (i : Image). length i.payload) paged.is ∙ full.whole in
      let small = wrote.cut.small in
      omega (arith, long, small)

  pub has_images : HasImages view images
  has_images = record {
    completed = image_of_completed;
    held = λ id chunk draft at. let h = image_of_held id chunk draft at in (h.image, h.there, h.stands, small_image id h.image h.there);
  }

  abbrev pub has_written : HasWritten setup place view
  has_written = record { held = wrote.held; cut = wrote.cut; images = has_images; begun = wrote.begun }

  pub order_of : IsSorted setup world.service → place < length setup.writers → NoneCommitted world.service (sequence_of place)
      → InOrder images world.service (sequence_of place) 0 false [] world.service.events
  order_of sorted inside none =
      in_order world (owned_itself world owned) place images has_images
      (at_stage (taken_of world.service place).count (is_shut (sequence_of place) world.service.events)) (sorted.lead place inside none) refl

  pub tells_of : IsSorted setup world.service → place < length setup.writers → NoneCommitted world.service (sequence_of place) → (buffers : List BufferSpec) (spec : WriterSpec) → slice_get setup.writers place ≡ Some spec
      → Tells (emissions_of view.calls) (place + 2) (records_of (place + 2) (records_after (first_buffers setup 1 buffers) (history_of world.service)))
  tells_of sorted inside none buffers spec get =
      told_of (payload_at setup place) place view wrote.held wrote.cut world.service (learnt world (owned_itself world owned) place)
      (named world (owned_itself world owned) place) (finds world (owned_itself world owned) place) setup buffers spec get (order_of sorted inside none)

  -- the pages come in order in the history
  pub history_in_order : IsSorted setup world.service → place < length setup.writers → NoneCommitted world.service (sequence_of place)
      → orders.InOrder (sheets_of (newest_goes_on (packets_of view.calls)) wrote.cut.cut.pages) (place + 2) 0 false [] (history_of world.service)
  history_in_order sorted inside none =
      order_events (payload_at setup place) place view wrote.held wrote.cut world.service (learnt world (owned_itself world owned) place)
      (named world (owned_itself world owned) place) (finds world (owned_itself world owned) place) world.service.events 0 false [] (order_of sorted inside none)

  -- the account of the sequence, in a buffer that has it
  pub account_in : IsSorted setup world.service → place < length setup.writers → NoneCommitted world.service (sequence_of place) → (sequences : List Sequence) (record_size : ℕ)
      → is_known sequences (place + 2) ≡ true → IsFresh (place + 2) record_size (sequence_in sequences (place + 2))
      → IsAccountOf (payload_at setup place) view.calls wrote.cut.cut.pages sequences (place + 2) record_size (history_of world.service)
  account_in sorted inside none sequences record_size known start = record {
    possible = wrote.cut.possible;
    cut = wrote.cut.cut.cut;
    known = known;
    start = start;
    order = history_in_order sorted inside none;
  }

-- ---- the whole

pub many_writers : (setup : Setup) (world : World) → ∥ IsOwned world ∥₁ → Stands setup world → length world.writers ≡ length setup.writers
many_writers setup world owned stands = ∥∥₁_elim owned (ℕ_set _ _) (λ (is : IsOwned world). sym is.all_taken ∙ stands.sorted.many)

pub standing_is_faithful : (setup : Setup) (buffers : List BufferSpec) (world : World) → ∥ IsOwned world ∥₁ → Stands setup world
    → IsFaithfulOf (λ place. NoneCommitted world.service (sequence_of place)) (map (λ (view : WriterView). emissions_of view.calls) world.writers)
    (records_after (first_buffers setup 1 buffers) (history_of world.service))
standing_is_faithful setup buffers world owned stands = record { known = known; told = tells }
  where
    many : length world.writers ≡ length setup.writers
    many = many_writers setup world owned stands

    known : All (λ (d : Delivered). (2 ≤ d.sequence) × (d.sequence < length (map (λ (view : WriterView). emissions_of view.calls) world.writers) + 2))
        (records_after (first_buffers setup 1 buffers) (history_of world.service))
    known =
        subst (λ (n : ℕ). All (λ (d : Delivered). (2 ≤ d.sequence) × (d.sequence < n + 2)) (records_after (first_buffers setup 1 buffers) (history_of world.service)))
        (sym many ∙ sym (length-map world.writers (λ (view : WriterView). emissions_of view.calls)))
        (all_mine (λ s. (2 ≤ s) × (s < length setup.writers + 2)) (history_of world.service) (first_buffers setup 1 buffers) (only_writers setup 1 buffers))

    tells : (place : ℕ) (packets : List (List ℕ)) → NoneCommitted world.service (sequence_of place)
        → slice_get (map (λ (view : WriterView). emissions_of view.calls) world.writers) place ≡ Some packets
        → Tells packets (place + 2) (records_of (place + 2) (records_after (first_buffers setup 1 buffers) (history_of world.service)))
    tells place packets none e =
        let long = length-map world.writers (λ (view : WriterView). emissions_of view.calls) in
        let low = slice_get_within (map (λ (view : WriterView). emissions_of view.calls) world.writers) place packets e in
        let all = many in
        let inside : place < length world.writers = omega (arith, low, long) in
        let within : place < length setup.writers = omega (arith, inside, all) in
        let view : WriterView = writer world place in
        let there = slice_get-get_or world.writers place newcomer inside in
        let same : emissions_of view.calls ≡ packets =
        same_Some (emissions_of view.calls) packets
        (sym (slice_get-map (λ (v : WriterView). emissions_of v.calls) world.writers place ∙ ap (option_map (λ (v : WriterView). emissions_of v.calls)) there) ∙ e) in
        let spec : WriterSpec = get_or setup.writers place no_writer in
        let get = slice_get-get_or setup.writers place no_writer within in
        subst (λ (ps : List (List ℕ)). Tells ps (place + 2) (records_of (place + 2) (records_after (first_buffers setup 1 buffers) (history_of world.service)))) same
        (tells_of setup world owned place (stands.wrote place within) stands.sorted within none buffers spec get)

module _ (setup : Setup) (world : World) (owned : ∥ IsOwned world ∥₁) (stands : Stands setup world) where
  abbrev held_by : (place : ℕ) → (place < length setup.writers) ⊎ (length setup.writers ≤ place) → List Image
  held_by place (inl inside) = (stands.wrote place inside).held
  held_by place (inr past) = []

  cut_by : (place : ℕ) (c : (place < length setup.writers) ⊎ (length setup.writers ≤ place)) → place < length setup.writers
      → HasCut (payload_at setup place) place (writer world place) (held_by place c)
  cut_by place (inl inside) low = (stands.wrote place inside).cut
  cut_by place (inr past) low = absurd (omega (arith, past, low))

  begun_by : (place : ℕ) (c : (place < length setup.writers) ⊎ (length setup.writers ≤ place)) → place < length setup.writers
      → length (writer world place).begun ≡ length (completed_images (writer world place).begun) + length (held_by place c)
  begun_by place (inl inside) low = (stands.wrote place inside).begun
  begun_by place (inr past) low = absurd (omega (arith, past, low))

  order_by : (place : ℕ) (c : (place < length setup.writers) ⊎ (length setup.writers ≤ place)) → place < length setup.writers
      → NoneCommitted world.service (sequence_of place) → InOrder (all_images (writer world place) (held_by place c)) world.service (sequence_of place) 0 false [] world.service.events
  order_by place (inl inside) low none = order_of setup world owned place (stands.wrote place inside) stands.sorted inside none
  order_by place (inr past) low none = absurd (omega (arith, past, low))

  account_of_world : IsOwned world → IsAccount setup world
  account_of_world is =
      let many = many_writers setup world owned stands in
      record {
        owned = is;
        writers = many;
        held = λ place. held_by place (cases_lt place (length setup.writers));
        cuts = λ place low. cut_by place (cases_lt place (length setup.writers)) (omega (arith, low, many));
        begun = λ place low. begun_by place (cases_lt place (length setup.writers)) (omega (arith, low, many));
        order = λ place low none. order_by place (cases_lt place (length setup.writers)) (omega (arith, low, many)) none;
      }

  pub standing_is_account : ∥ IsAccount setup world ∥₁
  standing_is_account = ∥∥₁_map owned account_of_world
