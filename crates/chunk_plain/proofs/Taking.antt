-- The steps by which the service takes a chunk, as its code knows them.
use Rattle.std.proofs.Common.{◌≡◌, ℕ, ◌+◌, ◌<◌, Bool, true, false, not, Some, None, IsSome, List, ◌++◌, length, map, set, take, drop, Vec, vec_len, subst, sym, refl, ap, ◌∙◌, arith}
use Rattle.std.proofs.Math.Logic.{∥∥₁_map, ∥∥₁_elim}
use Rattle.std.proofs.Math.Nat.{ℕ_set}
use Rattle.std.specs.Vec.{with_items}
use Rattle.std.proofs.lemmas.Grind.{same_number_lists}
use Rattle.std.proofs.lemmas.List.{get_or-set_same}
use Rattle.std.proofs.Math.Seq.{take-append_seam}
use Rattle.commit_body.specs.declared.body.CommitBody.{CommitBody}
use Rattle.commit_body.specs.Patches.{patch_value}
use Rattle.page_geometry.specs.Header.{packed, unpacked}
use Rattle.page_geometry.specs.PageBits.{HasState}
use Rattle.page_geometry.specs.declared.chunk_state.ChunkState.TheVariants.{Complete}
use Rattle.page_geometry.specs.declared.chunk_header.ChunkHeader.{ChunkHeader}
use Rattle.chunk_plain.specs.declared.step.Step.TheVariants.{Take}
use Rattle.chunk_plain.specs.Setup.{Setup, spot, sequence_of, from_of, id_at}
use Rattle.chunk_plain.specs.Payload.{byte_at, byte_in}
use Rattle.chunk_plain.specs.Views.{Head, Content, ServiceView, Taken, none_taken, taken_of}
use Rattle.chunk_plain.specs.World.{World, Status, Unclaimed, Ready, Reading, status}
use Rattle.chunk_plain.specs.Steps.{looks_at, takes_in, learns, served, serviced}
use Rattle.chunk_plain.specs.Drafts.{head_of}
use Rattle.chunk_plain.specs.Stored.{Stored, stored_at}
use Rattle.chunk_plain.specs.Shows.{ShowsPage, ShowsHeader, IsHeader, content_of, page_word, header_word, patches_in}
use Rattle.chunk_plain.specs.Words.{IsServing}
use Rattle.chunk_plain.specs.Plain.{IsLent, read_as, world_after, IsKept}
use Rattle.chunk_plain.proofs.KeptService.{IsReadyAt, header_reads, found_ready}
use Rattle.chunk_plain.proofs.Known.{is_some_by}
use Rattle.chunk_plain.proofs.Resting.{takes_serving}
use Rattle.chunk_plain.proofs.WorldSet.{world_set}
use Rattle.trace_model.specs.Ids.{placed_patches}

-- the elements of a vector that was filled as a slice
pub with_items_is : {Z : Type 0} (v : Vec ℕ Z) (xs : List ℕ) → length xs ≡ vec_len v → (with_items v xs).items ≡ xs
with_items_is v xs same = ap (λ n. take n (xs ++ drop (length xs) v.items)) (sym same) ∙ take-append_seam xs (drop (length xs) v.items)

pub not_false : (a b : Bool) → a ≡ false → a ≡ not b → b ≡ true
not_false a true is e = refl
not_false a false is e = absurd cc

-- a chunk that was found complete, with this writer's number in its header and the id of its next position
pub ready_found : (setup : Setup) (words : List ℕ) (slots : List Stored) (world : World) → ∥ IsKept setup words slots world ∥₁ → (place chunk : ℕ) (header : ChunkHeader) → chunk < length setup.spots
    → HasState (page_word setup words chunk) (spot setup chunk).place Complete → header ≡ unpacked (header_word setup words chunk) → header.writer_id ≡ place + 1
    → header.chunk_id ≡ id_at setup place (taken_of world.service place).count
    → ∥ IsReadyAt setup slots world place chunk (taken_of world.service place).count (record { count = header.count; flags = header.flags }) ∥₁
ready_found setup words slots world kept place chunk header inside complete fields writer_is id_is =
    ∥∥₁_map kept (λ k. found_ready setup words slots world place chunk header k inside complete fields writer_is id_is)

pub lent_by : (world : World) (place chunk position : ℕ) → ∥ ((content : Content) × (status world chunk ≡ Reading place position content)) ∥₁ → ∥ IsLent (status world chunk) ∥₁
lent_by world place chunk position reading = ∥∥₁_map reading (λ r. subst IsLent (sym r.1) tt)

-- a content by its parts
pub content_by : (content : Content) (from place position : ℕ) (head : Head) (body : CommitBody) → (content.image.chunk_id ≡ position) × (content.image.sequence ≡ sequence_of place)
    → head_of content ≡ head → body.payload.items ≡ content.image.payload → patches_in from body ≡ content.patches → body.target ≡ content.target
    → content ≡ content_of from place position head body
content_by content from place position head body named head_is payload_is patches_are target_is =
    let image = content.image in
    ap (λ n. record content { image = record image { sequence = n } }) named.1
    ∙ (ap (λ n. record content { image = record image { sequence = sequence_of place; chunk_id = n } }) named.0
    ∙ (ap (λ (h : Head). record content { image = record image { sequence = sequence_of place; chunk_id = position; count = h.count; flags = h.flags } }) head_is
    ∙ (ap (λ l. record content { image = record { sequence = sequence_of place; chunk_id = position; count = head.count; flags = head.flags; payload = l } }) (sym payload_is)
    ∙ (ap (λ l. record content { image = record { sequence = sequence_of place; chunk_id = position; count = head.count; flags = head.flags; payload = body.payload.items }; patches = l }) (sym patches_are)
    ∙ ap (λ n. record { image = record { sequence = sequence_of place; chunk_id = position; count = head.count; flags = head.flags; payload = body.payload.items }; patches = patches_in from body; target = n }) (sym target_is)))))

module _ (setup : Setup) (slots : List Stored) (world : World) (place chunk position : ℕ) (head : Head) (found : ∥ IsReadyAt setup slots world place chunk position head ∥₁) where
  pub is_ready : position ≡ (taken_of world.service place).count → ∥ ((content : Content) × (status world chunk ≡ Ready place (taken_of world.service place).count content)) ∥₁
  is_ready is = ∥∥₁_map found (λ f. (f.content, f.ready ∙ ap (λ i. Ready place i f.content) is))

  pub has_body : IsSome (stored_at slots chunk).body
  has_body = is_some_by (stored_at slots chunk).body (∥∥₁_map found (λ f. (f.body, f.kept)))

  pub body_size : (body : CommitBody) → (stored_at slots chunk).body ≡ Some body → vec_len body.payload ≡ (spot setup chunk).payload_size
  body_size body is = ∥∥₁_elim found (ℕ_set _ _) (λ f.
      let some_same : Some f.body ≡ Some body = sym f.kept ∙ is in let same : f.body ≡ body = cc in
      subst (λ (b : CommitBody). vec_len b.payload ≡ (spot setup chunk).payload_size) same f.of_content.whole)

  -- the chunk's status once its state is set
  pub is_reading : (next : World) (word : ℕ) (header : ChunkHeader) → chunk < length world.chunks → next ≡ world_after world (Take place chunk word header)
      → ∥ ((content : Content) × (status next chunk ≡ Reading place position content)) ∥₁
  is_reading next word header inside is = ∥∥₁_map found (λ f. (
    f.content,
    ap (λ (w : World). status w chunk) is ∙ (get_or-set_same world.chunks chunk (read_as (status world chunk)) Unclaimed inside ∙ ap read_as f.ready),
  ))

  -- what was loaded, with the body that was taken out, is the content
  pub is_content : (taken full : CommitBody) → (stored_at slots chunk).body ≡ Some taken → length full.payload.items ≡ (spot setup chunk).payload_size
      → ((j : ℕ) → j < length full.payload.items → byte_in full.payload.items j ≡ byte_at (stored_at slots chunk).words j)
      → full.patches ≡ taken.patches → full.target ≡ taken.target
      → ∥ status world chunk ≡ Ready place position (content_of (from_of setup place) place position head full) ∥₁
  is_content taken full is whole loaded patches_are target_is = ∥∥₁_map found (λ f.
      let some_same : Some f.body ≡ Some taken = sym f.kept ∙ is in let same : f.body ≡ taken = cc in
      let patches = ap (λ (b : CommitBody). patches_in (from_of setup place) b) same in
      let bytes : full.payload.items ≡ f.content.image.payload = same_number_lists full.payload.items f.content.image.payload (whole ∙ sym f.payload.whole)
      (λ j below. loaded j below ∙ f.payload.bytes j (omega (arith, whole))) in
      f.ready ∙ ap (λ m. Ready place position m) (content_by f.content (from_of setup place) place position head full f.named f.head_is bytes
      (ap (λ p. placed_patches (from_of setup place) (map patch_value p.value.items)) patches_are ∙ (sym patches ∙ f.of_content.patches_are))
      (target_is ∙ (sym (ap (λ (b : CommitBody). b.target) same) ∙ f.of_content.target_is))))

-- so the chunk that is read has it
pub reads_content : (world next : World) (place chunk word position : ℕ) (header : ChunkHeader) (content : Content) → chunk < length world.chunks → next ≡ world_after world (Take place chunk word header)
    → ∥ status world chunk ≡ Ready place position content ∥₁ → ∥ status next chunk ≡ Reading place position content ∥₁
reads_content world next place chunk word position header content inside is ready =
    ∥∥₁_map ready (λ r. ap (λ (w : World). status w chunk) is ∙ (get_or-set_same world.chunks chunk (read_as (status world chunk)) Unclaimed inside ∙ ap read_as r))

-- how many chunks were taken, and how many contents there are, between the steps
pub taken_between : (setup : Setup) (world next : World) (place chunk word : ℕ) (header : ChunkHeader) → IsServing setup world.service → place < length setup.writers
    → next ≡ world_after world (Take place chunk word header)
    → ((taken_of next.service place).count ≡ length (taken_of next.service place).contents + 1) × (length (taken_of next.service place).contents ≡ (taken_of world.service place).count)
taken_between setup world next place chunk word header serving inside is =
    let taken = taken_of world.service place in let more : Taken = record taken { count = taken.count + 1 } in
    let within : place < length world.service.taken = let many = serving.writers in omega arith in
    let now : taken_of next.service place ≡ more = ap (λ (w : World). taken_of w.service place) is ∙ get_or-set_same world.service.taken place more none_taken within in
    let level = serving.level place in (
      ap (λ (t : Taken). t.count) now ∙ (ap (λ n. n + 1) (sym level) ∙ ap (λ (t : Taken). length t.contents + 1) (sym now)),
      ap (λ (t : Taken). length t.contents) now ∙ level,
    )

-- the content that joins the view last is that of the position that was taken
pub learnt_at : (setup now : Setup) (world middle next : World) (place chunk word : ℕ) (header : ChunkHeader) (head : Head) (full : CommitBody) → IsServing setup world.service
    → place < length setup.writers → now ≡ setup → middle ≡ world_after world (Take place chunk word header)
    → next ≡ serviced middle (learns middle.service place (content_of (from_of now place) place (length (taken_of middle.service place).contents) head full))
    → next ≡ serviced middle (learns middle.service place (content_of (from_of setup place) place (taken_of world.service place).count head full))
learnt_at setup now world middle next place chunk word header head full serving inside same took learnt =
    learnt
    ∙ (ap (λ (s : Setup). serviced middle (learns middle.service place (content_of (from_of s place) place (length (taken_of middle.service place).contents) head full))) same
    ∙ ap (λ (i : ℕ). serviced middle (learns middle.service place (content_of (from_of setup place) place i head full)))
    (taken_between setup world middle place chunk word header serving inside took).1)

-- the whole take, as the table tells it
pub taken_world : (world middle next : World) (place chunk word position : ℕ) (header : ChunkHeader) (content : Content)
    → middle ≡ world_after world (Take place chunk word header) → next ≡ serviced middle (learns middle.service place content)
    → ∥ status world chunk ≡ Ready place position content ∥₁ → next ≡ served world next.service chunk (Reading place position content)
taken_world world middle next place chunk word position header content took learnt ready =
    ∥∥₁_elim ready (world_set _ _) (λ r.
    let service = learns (takes_in (looks_at world.service chunk word (packed header) None) place chunk) place content in
    let one : next ≡ record { chunks = set world.chunks chunk (read_as (status world chunk)); writers = world.writers; service = service } =
    learnt ∙ ap (λ (w : World). serviced w (learns w.service place content)) took in
    let service_is : next.service ≡ service = ap (λ (w : World). w.service) one in
    one ∙ (ap (λ t. record { chunks = set world.chunks chunk t; writers = world.writers; service = service }) (ap read_as r)
    ∙ ap (λ s. record { chunks = set world.chunks chunk (Reading place position content); writers = world.writers; service = s }) (sym service_is)))

pub taken_service : (world middle next : World) (place chunk word : ℕ) (header : ChunkHeader) (content : Content)
    → middle ≡ world_after world (Take place chunk word header) → next ≡ serviced middle (learns middle.service place content)
    → next.service ≡ learns (takes_in (looks_at world.service chunk word (packed header) None) place chunk) place content
taken_service world middle next place chunk word header content took learnt =
    ap (λ (w : World). w.service) learnt ∙ ap (λ (w : World). learns w.service place content) took

pub taken_writers : (world middle next : World) (place chunk word : ℕ) (header : ChunkHeader) (content : Content)
    → middle ≡ world_after world (Take place chunk word header) → next ≡ serviced middle (learns middle.service place content) → next.writers ≡ world.writers
taken_writers world middle next place chunk word header content took learnt =
    ap (λ (w : World). w.writers) learnt ∙ ap (λ (w : World). w.writers) took

pub taken_serves : (setup : Setup) (service : ServiceView) (place chunk word : ℕ) (header : ChunkHeader) (content : Content) → IsServing setup service → place < length setup.writers
    → IsServing setup (learns (takes_in (looks_at service chunk word (packed header) None) place chunk) place content)
taken_serves setup service place chunk word header content serving inside =
    takes_serving setup (looks_at service chunk word (packed header) None) place chunk content (record { writers = serving.writers; level = serving.level }) inside

-- a chunk that was found to be another isn't ready at this position of the writer
pub other_found : (setup : Setup) (words : List ℕ) (slots : List Stored) (world : World) → ∥ IsKept setup words slots world ∥₁ → (place chunk position word : ℕ) (header : ChunkHeader) → chunk < length setup.spots
    → word ≡ page_word setup words chunk → header ≡ unpacked (header_word setup words chunk)
    → (HasState word (spot setup chunk).place Complete → header.writer_id ≡ place + 1 → header.chunk_id ≡ id_at setup place position → ⊥)
    → (content : Content) → status world chunk ≡ Ready place position content → ⊥
other_found setup words slots world kept place chunk position word header inside word_is fields other content ready =
    ∥∥₁_elim kept (λ a b. absurd a) (λ k.
    let page : ShowsPage setup world (spot setup chunk) (page_word setup words chunk) (Ready place position content) =
    subst (λ (t : Status). ShowsPage setup world (spot setup chunk) (page_word setup words chunk) t) ready (k.shown.page chunk inside) in
    let shows : IsHeader setup (header_word setup words chunk) place position (head_of content) =
    subst (λ (t : Status). ShowsHeader setup (header_word setup words chunk) t) ready (k.shown.header chunk inside) in
    let reads = fields ∙ header_reads setup (header_word setup words chunk) place position (head_of content) shows in
    other (subst (λ (w : ℕ). HasState w (spot setup chunk).place Complete) (sym word_is) page.state)
    (ap (λ (h : ChunkHeader). h.writer_id) reads) (ap (λ (h : ChunkHeader). h.chunk_id) reads))
