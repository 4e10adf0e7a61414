-- What a look finds in a chunk, and what is loaded from it.
use Rattle.std.proofs.Common.{◌≡◌, ℕ, ◌+◌, ◌<◌, None, List, length, subst, sym, refl, ap, ◌∙◌, arith}
use Rattle.std.proofs.Math.Logic.{∥∥₁_map, ∥∥₁_elim}
use Rattle.std.proofs.Math.Nat.{ℕ_set}
use Rattle.std.specs.Coded.{le_prop}
use Rattle.std.proofs.lemmas.Grind.{same_number_lists}
use Rattle.page_geometry.specs.Header.{unpacked}
use Rattle.page_geometry.specs.PageBits.{HasState}
use Rattle.page_geometry.specs.declared.chunk_header.ChunkHeader.{ChunkHeader}
use Rattle.page_geometry.specs.declared.chunk_state.ChunkState.TheVariants.{BeingWritten}
use Rattle.chunk_plain.specs.Setup.{Setup, spot, id_at}
use Rattle.chunk_plain.specs.Payload.{byte_at, byte_in, first_bytes, sealed_to}
use Rattle.chunk_plain.specs.Views.{Head, Draft, Content, Completed, taken_of}
use Rattle.chunk_plain.specs.World.{World, Status, Unclaimed, Claimed, Stamped, Writing, Ready, Reading, status, writer}
use Rattle.chunk_plain.specs.Stored.{Stored, stored_at}
use Rattle.chunk_plain.specs.Shows.{state_of, ShowsPage, ShowsHeader, ShowsSlot, ShowsPayload, IsHeader, page_word, header_word}
use Rattle.chunk_plain.specs.Owned.{times}
use Rattle.chunk_plain.specs.Drafts.{StillHas}
use Rattle.chunk_plain.specs.Words.{IsServing, WasSeen, IsOfHeader, FindsWritten, ShowsFound, IsTakenPayload}
use Rattle.chunk_plain.specs.Plain.{found_in, IsKept}
use Rattle.chunk_plain.proofs.States.{writing_status}
use Rattle.chunk_plain.proofs.Lists.{at_some, at_one}
use Rattle.chunk_plain.proofs.OwnershipLemmas.{as_found, found_inside}
use Rattle.chunk_plain.proofs.KeptService.{held_untaken, finished, header_reads, reading_of}

module _ (setup : Setup) (words : List ℕ) (slots : List Stored) (world : World) (kept : ∥ IsKept setup words slots world ∥₁) where
  -- a chunk whose state is being written has that status
  written : (chunk word : ℕ) (is : Status) → status world chunk ≡ is → chunk < length setup.spots → word ≡ page_word setup words chunk
      → HasState word (spot setup chunk).place BeingWritten → ∥ ((k position : ℕ) × (draft : Draft) × (is ≡ Writing k position draft)) ∥₁
  written chunk word is was inside word_is has =
      ∥∥₁_map kept (λ k. writing_status is word (spot setup chunk).place
      (subst (λ t. HasState word (spot setup chunk).place (state_of t)) was (subst (λ w. HasState w (spot setup chunk).place (state_of (status world chunk))) (sym word_is) (k.shown.page chunk inside).state)) has)

  not_written : (chunk word : ℕ) (header : ChunkHeader) (is : Status) → status world chunk ≡ is → chunk < length setup.spots → word ≡ page_word setup words chunk
      → ((k position : ℕ) (draft : Draft) → is ≡ Writing k position draft → ⊥) → found_in is ≡ None → FindsWritten setup chunk word header world.service (found_in is)
  not_written chunk word header is was inside word_is apart none = record {
    some = λ has. absurd (∥∥₁_elim (written chunk word is was inside word_is has) (λ x y. absurd x) (λ w. apart w.0 w.1 w.2 w.3));
    none = λ _. none;
  }

  of_header : (chunk : ℕ) (header : ChunkHeader) (place position : ℕ) (draft : Draft) → status world chunk ≡ Writing place position draft → chunk < length setup.spots
      → header ≡ unpacked (header_word setup words chunk)
      → let n = sealed_to draft.ends in
      IsOfHeader setup header world.service (record { place = place; position = position; head = draft.head; ends = draft.ends; sealed = first_bytes (byte_at draft.words) n })
  of_header chunk header place position draft was inside header_is =
      ∥∥₁_elim kept (hlevel (le_prop, ℕ_set)) (λ k.
      let shows : IsHeader setup (header_word setup words chunk) place position draft.head = subst (λ t. ShowsHeader setup (header_word setup words chunk) t) was (k.shown.header chunk inside) in
      let reads : header ≡ record { chunk_id = id_at setup place position; writer_id = place + 1; count = draft.head.count; flags = draft.head.flags } = header_is ∙ header_reads setup (header_word setup words chunk) place position draft.head shows in
      let at = (k.owned.owns place chunk).writing_is position draft was in
      record {
        place_is = sym (ap (λ (h : ChunkHeader). h.writer_id) reads);
        id_is = sym (ap (λ (h : ChunkHeader). h.chunk_id) reads);
        position_fits = shows.position_fits;
        head_is = sym (ap (λ (h : ChunkHeader). let head : Head = record { count = h.count; flags = h.flags } in head) reads);
        untaken = held_untaken world place chunk position draft k.owned at;
        finished = finished world place chunk position draft k.owned at;
      })

  finds_by : (chunk word : ℕ) (header : ChunkHeader) (is : Status) → status world chunk ≡ is → chunk < length setup.spots → word ≡ page_word setup words chunk
      → header ≡ unpacked (header_word setup words chunk) → FindsWritten setup chunk word header world.service (found_in is)
  finds_by chunk word header Unclaimed was inside word_is header_is = not_written chunk word header Unclaimed was inside word_is (λ k position draft e. absurd cc) refl
  finds_by chunk word header (Claimed place) was inside word_is header_is = not_written chunk word header (Claimed place) was inside word_is (λ k position draft e. absurd cc) refl
  finds_by chunk word header (Stamped place position) was inside word_is header_is = not_written chunk word header (Stamped place position) was inside word_is (λ k i draft e. absurd cc) refl
  finds_by chunk word header (Writing place position draft) was inside word_is header_is = record {
    some = λ has. (
      record { place = place; position = position; head = draft.head; ends = draft.ends; sealed = first_bytes (byte_at draft.words) (sealed_to draft.ends) },
      refl,
      of_header chunk header place position draft was inside header_is,
    );
    none = λ apart. absurd (∥∥₁_elim kept (λ x y. absurd x) (λ k. apart
        (subst (λ w. HasState w (spot setup chunk).place BeingWritten) (sym word_is) (subst (λ t. HasState (page_word setup words chunk) (spot setup chunk).place (state_of t)) was (k.shown.page chunk inside).state))));
  }
  finds_by chunk word header (Ready place position content) was inside word_is header_is = not_written chunk word header (Ready place position content) was inside word_is (λ k i draft e. absurd cc) refl
  finds_by chunk word header (Reading place position content) was inside word_is header_is = not_written chunk word header (Reading place position content) was inside word_is (λ k i draft e. absurd cc) refl

  pub finds_written : (chunk word : ℕ) (header : ChunkHeader) → chunk < length setup.spots → word ≡ page_word setup words chunk
      → header ≡ unpacked (header_word setup words chunk) → FindsWritten setup chunk word header world.service (found_in (status world chunk))
  finds_written chunk word header inside word_is header_is = finds_by chunk word header (status world chunk) refl inside word_is header_is

  pub was_seen : (chunk word : ℕ) → chunk < length setup.spots → word ≡ page_word setup words chunk → ∥ WasSeen setup chunk word world.service ∥₁
  was_seen chunk word inside word_is =
      ∥∥₁_map kept (λ k. record {
        world = world;
        may_be = record { writers = k.writers; chunks = k.shown.chunk_count; owned = k.owned; own = k.own };
        view_is = refl;
        shows = subst (λ w. ShowsPage setup world (spot setup chunk) w (status world chunk)) (sym word_is) (k.shown.page chunk inside);
      })

  pub look_shown : (chunk word header : ℕ) → chunk < length setup.spots → word ≡ page_word setup words chunk → header ≡ header_word setup words chunk
      → ∥ (ShowsPage setup world (spot setup chunk) word (status world chunk) × ShowsHeader setup header (status world chunk)) ∥₁
  look_shown chunk word header inside word_is header_is =
      ∥∥₁_map kept (λ k. (
        subst (λ w. ShowsPage setup world (spot setup chunk) w (status world chunk)) (sym word_is) (k.shown.page chunk inside),
        subst (λ w. ShowsHeader setup w (status world chunk)) (sym header_is) (k.shown.header chunk inside),
      ))

  -- ---- what is loaded

  shows_payload : (chunk : ℕ) (bytes : List ℕ) (is : Status) → length bytes ≡ (spot setup chunk).payload_size → ShowsSlot setup (spot setup chunk).payload_size is (stored_at slots chunk)
      → ((j : ℕ) → j < length bytes → byte_in bytes j ≡ byte_at (stored_at slots chunk).words j) → ShowsPayload is bytes
  shows_payload chunk bytes Unclaimed whole slot loaded = tt
  shows_payload chunk bytes (Claimed place) whole slot loaded = tt
  shows_payload chunk bytes (Stamped place position) whole slot loaded = tt
  shows_payload chunk bytes (Writing place position draft) whole slot loaded = λ j below. loaded j below ∙ ap (λ l. byte_at l j) slot.words.0
  shows_payload chunk bytes (Ready place position content) whole slot loaded =
      same_number_lists bytes content.image.payload (whole ∙ sym slot.words.whole) (λ j below. loaded j below ∙ slot.words.bytes j (omega (arith, whole)))
  shows_payload chunk bytes (Reading place position content) whole slot loaded =
      same_number_lists bytes content.image.payload (whole ∙ sym slot.words.whole) (λ j below. loaded j below ∙ slot.words.bytes j (omega (arith, whole)))

  module _ (chunk : ℕ) (bytes : List ℕ) (inside : chunk < length setup.spots) (whole : length bytes ≡ (spot setup chunk).payload_size)
      (loaded : (j : ℕ) → j < length bytes → byte_in bytes j ≡ byte_at (stored_at slots chunk).words j) where
    pub load_shown : ∥ ShowsPayload (status world chunk) bytes ∥₁
    load_shown = ∥∥₁_map kept (λ k. shows_payload chunk bytes (status world chunk) whole (k.shown.slot chunk inside) loaded)

    pub load_found : ShowsFound world.service chunk bytes
    load_found n look found at about is untaken = (
      ∥∥₁_elim kept (hlevel le_prop) (λ k.
          let there = (k.owned.looks n look found at is).1 in
          let most = found_inside setup words slots world chunk found k untaken there.entry there.at (subst (λ d. StillHas d found there.entry) about there.has) in
          omega (arith, whole, most)),
      λ j below. ∥∥₁_elim kept (ℕ_set _ _) (λ k.
          let there = (k.owned.looks n look found at is).1 in
          let now = as_found setup words slots world chunk found k untaken there.entry there.at (subst (λ d. StillHas d found there.entry) about there.has) in
          let most = found_inside setup words slots world chunk found k untaken there.entry there.at (subst (λ d. StillHas d found there.entry) about there.has) in
          loaded j (omega (arith, whole, most)) ∙ now.bytes j below),
    )

    pub load_read : 0 < times chunk world.service.reading → IsServing setup world.service → ∥ IsTakenPayload world.service bytes ∥₁
    load_read reading serving =
        ∥∥₁_map kept (λ k.
        let was = reading_of world chunk k.owned reading in
        let slot : ShowsSlot setup (spot setup chunk).payload_size (Reading was.0 was.1 was.2) (stored_at slots chunk) = subst (λ t. ShowsSlot setup (spot setup chunk).payload_size t (stored_at slots chunk)) was.3 (k.shown.slot chunk inside) in
        let at = (k.owned.owns was.0 chunk).reading_is was.1 was.2 was.3 in
        let has = at_some (taken_of world.service was.0).contents was.1 (let level = serving.level was.0 in let below = at.1 in omega arith) in
        let done = (k.owned.counts was.0).learnt was.1 has.0 has.1 in
        let same : Completed chunk was.2 ≡ Completed done.0 has.0 = at_one (writer world was.0).begun (Completed chunk was.2) (Completed done.0 has.0) was.1 at.0 done.1 in
        let content_is : was.2 ≡ has.0 = cc in
        record {
          place = was.0;
          position = was.1;
          content = has.0;
          at = has.1;
          bytes_are = shows_payload chunk bytes (Reading was.0 was.1 was.2) whole slot loaded ∙ ap (λ (m : Content). m.image.payload) content_is;
        })
