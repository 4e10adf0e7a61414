-- Every account is faithful: the service's notes are a history in which the writer's pages come in order.
use Rattle.std.proofs.Common.{◌≡◌, ◌∙◌, ℕ, suc, ◌+◌, ◌-◌, ◌<◌, ◌≤◌, ◌⊎◌, Bool, true, false, All, List, [], ◌∷◌, ◌++◌, length, map, take, get_or, Option, Some, None, refl, sym, ap, subst, arith, inl, inr, length-take}
use Rattle.std.specs.Prelude.{◌==◌, slice_get, MatchBool, option_map}
use Rattle.std.specs.List.{flat_map}
use Rattle.std.proofs.lemmas.Bool.{eqb-true, eq-eqb}
use Rattle.std.proofs.lemmas.Option.{same_Some, slice_get-map, slice_get-get_or, slice_get_within}
use Rattle.std.proofs.lemmas.List.{length-map}
use Rattle.trace_base.proofs.Choices.{match_true, match_false}
use Rattle.trace_base.specs.declared.policy.WriterSpec.{WriterSpec}
use Rattle.page_geometry.specs.Sizes.{record_size}
use Rattle.trace_model.specs.Images.{Image, Chunk, Fragment, Patch, has_flag_1, whole_chunk}
use Rattle.trace_model.specs.Reading.{Reading, Fragments, Unreadable, reading_of}
use Rattle.trace_model.specs.Packets.{packets_of, emissions_of}
use Rattle.trace_model.specs.Pages.{Page, fragments_from, patches_of}
use Rattle.trace_model.specs.Cut.{newest_goes_on}
use Rattle.trace_model.specs.Tells.{Tells}
use Rattle.trace_model.specs.Delivery.{Delivered, records_of}
use Rattle.trace_model.specs.Buffers.{empty_buffer}
use Rattle.trace_model.specs.History as model
use Rattle.trace_model.specs.History.{Event, delivered_to, records_after}
use Rattle.trace_model.proofs.PageLemmas.{fragments_long}
use Rattle.delivery_laws.specs.Sheets.{Sheet}
use Rattle.delivery_laws.specs.Histories.{IsPart}
use Rattle.delivery_laws.specs.Orders as orders
use Rattle.delivery_laws.specs.WriterSheets.{sheet_of, sheets_of}
use Rattle.delivery_laws.specs.DeliveryLaws.{IsAccountOf}
use Rattle.delivery_laws.proofs.WrittenPackets.{AreFull, are_full}
use Rattle.delivery_laws.proofs.CompleteLemmas.{full_at}
use Rattle.delivery_laws.proofs.OrderLemmas.{every_writer_is_told}
use Rattle.chunk_plain.specs.Setup.{Setup, size_of, no_writer}
use Rattle.chunk_plain.specs.Drafts.{IsFound}
use Rattle.chunk_plain.specs.Views.{At, Content, Completed, Committed, WriterView, newcomer, Found, Look, Noted, Arrive, Partial, Patched, Closed, Read, Commit, ServiceView, taken_of}
use Rattle.chunk_plain.specs.World.{World, writer}
use Rattle.chunk_plain.specs.Histories as histories
use Rattle.chunk_plain.specs.Histories.{content_at, found_among, once_read, happened, history_of}
use Rattle.world_model.specs.FirstBuffers.{BufferSpec, payload_at, first_buffers}
use Rattle.world_model.specs.Accounts.{all_images, HasCut, IsScraped, InOrder, IsAccount}
use Rattle.world_model.specs.AccountLaws.{EveryAccountIsFaithful}
use Rattle.world_model.proofs.ProjectLemmas.{Without, once_writes, without_writes, all_mine}
use Rattle.world_model.proofs.MakingLemmas.{IsOnce, in_one, only_writers}
use Rattle.world_model.proofs.OwnLemmas.{elem_at, image_at, page_of, sheet_there, sheet_some, page_continues, page_arrives}
use Rattle.world_model.proofs.PartLemmas.{looked, sealed_is, front_reads, front_shows}

by_match : {A B C : Type 0} (b : Bool) → MatchBool b A B → (b ≡ true → A → C) → (b ≡ false → B → C) → C
by_match true h f g = f refl h
by_match false h f g = g refl h

-- One writer and what the service knows of its chunks.
module _ (size place : ℕ) (view : WriterView) (held : List Image) (cut : HasCut size place view held) (service : ServiceView)
    (learnt : (n : ℕ) (content : Content) → At (taken_of service place).contents n content → (chunk : ℕ) × At view.begun n (Completed chunk content))
    (named : (n chunk : ℕ) (content : Content) → At view.begun n (Completed chunk content) → content.image.chunk_id ≡ n)
    (finds : (n : ℕ) (look : Look) (found : Found) → At service.looks n look → look.found ≡ Some found → IsFound found) where
  abbrev pages : List Page
  pages = cut.cut.pages

  abbrev goes : Bool
  goes = newest_goes_on (packets_of view.calls)

  abbrev sheets : List Sheet
  sheets = sheets_of goes pages

  abbrev q : ℕ
  q = place + 2

  all_full : AreFull size pages
  all_full = are_full size pages cut.cut.cut.full

  -- an arrival is that of a sheet
  record Comes (n : ℕ) (content : Content) : Type 0 where
    sheet : Sheet
    get : slice_get sheets n ≡ Some sheet
    event : happened service (Arrive q n) ≡ model.Arrives q n sheet.chunk ∷ []
    patches : sheet.patches ≡ content.patches

  comes : (n : ℕ) (content : Content) → content_at service q n ≡ Some content → Comes n content
  comes n content e =
      let back : place + 2 - 2 ≡ place = omega arith in
      let there : slice_get (taken_of service place).contents n ≡ Some content = sym (ap (λ (p : ℕ). slice_get (taken_of service p).contents n) back) ∙ e in
      let is = learnt n content (elem_at (taken_of service place).contents n content there) in
      let own = page_of size place n is.0 view held cut content is.1 (named n is.0 content is.1) in
      record {
        sheet = sheet_of (patches_of pages) (0 + n) own.page.runs_on own.page;
        get = sheet_there (patches_of pages) goes pages 0 n own.page own.get (λ last. cut.ends (own.last last));
        event = ap (histories.arrival_of q n) e ∙ page_arrives size q n own.page content cut.small (full_at size pages n own.page all_full own.get) own.image;
        patches = sym own.patches;
      }

  -- a part is that of a sheet
  record ComesInPart (n count : ℕ) : Type 0 where
    chunk : Chunk
    event : happened service (Partial q n count) ≡ model.ArrivesInPart q n chunk ∷ []
    part : IsPart sheets n chunk

  comes_in_part : (n count : ℕ) → IsScraped (all_images view held) service q n count → ComesInPart n count
  comes_in_part n count s =
      let found : Found = s.found in
      let back : place + 2 - 2 ≡ place = omega arith in
      let look = looked (place + 2 - 2) n count service.looks found s.looked in
      let is = finds look.number look.look found look.at look.found_is in
      let image = image_at q 0 pages n s.image (subst (λ (xs : List Image). slice_get xs n ≡ Some s.image) cut.cut.images_are s.there) in
      let page : Page = image.page in
      let full = full_at size pages n page all_full image.get in
      let k : ℕ = length found.ends in
      let count_is : k ≡ count = look.count_is in
      let fragments_are : s.image.count ≡ length page.fragments = ap (λ (i : Image). i.count) image.is in
      let least = s.front.some in
      let more : k < length page.fragments = let low = s.front.more in omega (arith, low, fragments_are) in
      let begins = sym (ap (λ (i : Image). i.payload) image.is) ∙ s.front.begins in
      let whole = full.whole in
      let small = cut.small in
      let most = full.most in
      let laid_small = subst (λ (m : ℕ). m < 268435455) (sym whole) small in
      let sealed = sealed_is found.sealed found.ends s.front.rest page.dropped page.fragments page.rest is.sealed.reads is.whole more laid_small begins in
      let shorter = ap (λ (xs : List ℕ). length xs) begins in
      let parts = length_two found.sealed s.front.rest in
      let reads = front_reads k page.fragments found.sealed sealed least more most (omega (arith, whole, small, shorter, parts)) in
      let front : List Fragment = fragments_from 4 false (take k page.fragments) in
      let some_sheet = sheet_some (patches_of pages) goes pages 0 n page image.get in
      let long = fragments_long 4 false (take k page.fragments) in
      let event : Chunk → Event = λ chunk. model.ArrivesInPart q n chunk in
      record {
        chunk = whole_chunk found.head.flags front;
        event = ap (histories.part_of q n count) s.looked
            ∙ ap (λ (m : ℕ). once_read event found.head.flags (reading_of m found.sealed)) (sym count_is)
            ∙ ap (once_read event found.head.flags) reads;
        part = record {
          sheet = sheet_of (patches_of pages) (0 + n) some_sheet.0 page;
          there = some_sheet.1;
          continues = ap (λ (m : ℕ). m == 1) s.front.continues ∙ ap (λ (i : Image). has_flag_1 i.flags) image.is ∙ page_continues page;
          shows = front_shows k (0 + n) (patches_of pages) page.dropped page.fragments more;
          some = omega (arith, long, length-take k page.fragments, least, more);
        };
      }
    where
      length_two : (xs ys : List ℕ) → length (xs ++ ys) ≡ length xs + length ys
      length_two [] ys = omega arith
      length_two (x ∷ xs) ys = let rest = length_two xs ys in omega (arith, rest)

  abbrev Ordered : ℕ → Bool → List Patch → List Event → Type 0
  Ordered come closed due events = orders.InOrder sheets q come closed due events

  -- what is no event, or one of another sequence
  nothing : (come : ℕ) (closed : Bool) (due : List Patch) (events : List Event) → due ≡ [] → Ordered come closed [] events → Ordered come closed due events
  nothing come closed due events none order = subst (λ (ps : List Patch). Ordered come closed ps events) (sym none) order

  other_arrives : (other position come : ℕ) (closed : Bool) (due : List Patch) (events : List Event) (content : Option Content) → due ≡ [] → (other == q) ≡ false
      → Ordered come closed [] events → Ordered come closed due (histories.arrival_of other position content ++ events)
  other_arrives other position come closed due events None none apart order = nothing come closed due events none order
  other_arrives other position come closed due events (Some content) none apart order = by_reading (reading_of content.image.count content.image.payload)
    where
      by_reading : (reading : Reading) → Ordered come closed due (once_read (λ chunk. model.Arrives other position chunk) content.image.flags reading ++ events)
      by_reading (Fragments fragments) = (none, match_false (other == q) _ _ apart order)
      by_reading (Unreadable number) = nothing come closed due events none order

  other_in_part : (other position count come : ℕ) (closed : Bool) (due : List Patch) (events : List Event) (found : Option Found) → due ≡ [] → (other == q) ≡ false
      → Ordered come closed [] events → Ordered come closed due (histories.part_of other position count found ++ events)
  other_in_part other position count come closed due events None none apart order = nothing come closed due events none order
  other_in_part other position count come closed due events (Some found) none apart order = by_reading (reading_of count found.sealed)
    where
      by_reading : (reading : Reading) → Ordered come closed due (once_read (λ chunk. model.ArrivesInPart other position chunk) found.head.flags reading ++ events)
      by_reading (Fragments fragments) = (none, match_false (other == q) _ _ apart order)
      by_reading (Unreadable number) = nothing come closed due events none order

  other_patched : (other come : ℕ) (closed : Bool) (due : List Patch) (events : List Event) (content : Option Content) → due ≡ [] → (other == q) ≡ false
      → Ordered come closed [] events → Ordered come closed due (histories.patches_of other content ++ events)
  other_patched other come closed due events None none apart order = nothing come closed due events none order
  other_patched other come closed due events (Some content) none apart order = match_false (other == q) _ _ apart (none, order)

  committed : (come : ℕ) (closed : Bool) (due : List Patch) (events : List Event) (commit : Option Committed) → due ≡ []
      → ((one : Committed) → commit ≡ Some one → (one.image.sequence == q) ≡ false) → Ordered come closed [] events
      → Ordered come closed due (histories.commit_of commit ++ events)
  committed come closed due events None none elsewhere order = nothing come closed due events none order
  committed come closed due events (Some one) none elsewhere order = (none, elsewhere one refl, order)

  pub order_events : (notes : List Noted) (come : ℕ) (closed : Bool) (due : List Patch) → InOrder (all_images view held) service q come closed due notes
      → Ordered come closed due (flat_map (happened service) notes)
  order_events [] come closed due order = order
  order_events (Arrive other position ∷ notes) come closed due order =
      let events : List Event = flat_map (happened service) notes in
      by_match (other == q) order.1
      (λ same h.
      let c = comes come h.2 h.3 in
      let is : happened service (Arrive other position) ≡ model.Arrives q come c.sheet.chunk ∷ [] =
      ap (λ (s : ℕ). happened service (Arrive s position)) (eqb-true other q same) ∙ ap (λ (i : ℕ). happened service (Arrive q i)) h.1 ∙ c.event in
      subst (λ (es : List Event). Ordered come closed due (es ++ events)) (sym is) (
        order.0,
        match_true (q == q) _ _ (eq-eqb q q refl) (
          h.0,
          refl,
          c.sheet,
          c.get,
          refl,
          subst (λ (ps : List Patch). Ordered (suc come) closed ps events) (sym c.patches) (order_events notes (suc come) closed h.2.patches h.4),
        ),
      ))
      (λ apart rest. other_arrives other position come closed due events (content_at service other position) order.0 apart (order_events notes come closed [] rest))
  order_events (Partial other position count ∷ notes) come closed due order =
      let events : List Event = flat_map (happened service) notes in
      by_match (other == q) order.1
      (λ same h.
      let c = comes_in_part come count h.2 in
      let is : happened service (Partial other position count) ≡ model.ArrivesInPart q come c.chunk ∷ [] =
      ap (λ (s : ℕ). happened service (Partial s position count)) (eqb-true other q same) ∙ ap (λ (i : ℕ). happened service (Partial q i count)) h.1 ∙ c.event in
      subst (λ (es : List Event). Ordered come closed due (es ++ events)) (sym is)
      (order.0, match_true (q == q) _ _ (eq-eqb q q refl) (h.0, refl, c.part, order_events notes come closed [] h.3)))
      (λ apart rest. other_in_part other position count come closed due events (found_among (other - 2) position count service.looks) order.0 apart (order_events notes come closed [] rest))
  order_events (Patched other position ∷ notes) come closed due order =
      let events : List Event = flat_map (happened service) notes in
      by_match (other == q) order
      (λ same h.
      let is : happened service (Patched other position) ≡ model.Patched q h.0.patches ∷ [] =
      ap (λ (s : ℕ). happened service (Patched s position)) (eqb-true other q same) ∙ ap (histories.patches_of q) h.1 in
      subst (λ (es : List Event). Ordered come closed due (es ++ events)) (sym is)
      (match_true (q == q) _ _ (eq-eqb q q refl) (h.2, order_events notes come closed [] h.3)))
      (λ apart rest. other_patched other come closed due events (content_at service other position) rest.0 apart (order_events notes come closed [] rest.1))
  order_events (Closed other ∷ notes) come closed due order =
      by_match (other == q) order.1
      (λ same h. (order.0, match_true (other == q) _ _ same (h.0, order_events notes come true [] h.1)))
      (λ apart rest. (order.0, match_false (other == q) _ _ apart (order_events notes come closed [] rest)))
  order_events (Read other limit ∷ notes) come closed due order = (order.0, order_events notes come closed [] order.1)
  order_events (Commit at ∷ notes) come closed due order =
      committed come closed due (flat_map (happened service) notes) (slice_get service.commits at) order.0 order.1 (order_events notes come closed [] order.2)

  -- the records of whatever history its chunks come in order in tell of what the writer emitted
  pub told_by : (setup : Setup) (buffers : List BufferSpec) (spec : WriterSpec) → slice_get setup.writers place ≡ Some spec
      → (events : List Event) → Ordered 0 false [] events
      → Tells (emissions_of view.calls) q (records_of q (records_after (first_buffers setup 1 buffers) events))
  told_by setup buffers spec get events order = by_buffer (in_one setup place spec get 1 buffers)
    where
      by_buffer : IsOnce q (record_size (size_of setup spec.producer)) spec.from (first_buffers setup 1 buffers) ⊎ Without q (first_buffers setup 1 buffers)
          → Tells (emissions_of view.calls) q (records_of q (records_after (first_buffers setup 1 buffers) events))
      by_buffer (inl h) =
          let account : IsAccountOf size view.calls pages h.sequences q (record_size (size_of setup spec.producer)) events =
          record { possible = cut.possible; cut = cut.cut.cut; known = h.known; start = h.start; order = order } in
          subst (Tells (emissions_of view.calls) q) (sym (once_writes q events (empty_buffer h.room h.policy h.sequences) (first_buffers setup 1 buffers) h.once))
          (every_writer_is_told size view.calls pages h.room h.policy h.sequences q (record_size (size_of setup spec.producer)) events account)
      by_buffer (inr none) = subst (Tells (emissions_of view.calls) q) (sym (without_writes q events (first_buffers setup 1 buffers) none)) tt

  -- that of the service is one
  pub told_of : (setup : Setup) (buffers : List BufferSpec) (spec : WriterSpec) → slice_get setup.writers place ≡ Some spec
      → InOrder (all_images view held) service q 0 false [] service.events
      → Tells (emissions_of view.calls) q (records_of q (records_after (first_buffers setup 1 buffers) (history_of service)))
  told_of setup buffers spec get order = told_by setup buffers spec get (history_of service) (order_events service.events 0 false [] order)

-- each record is of a writer's sequence
pub account_known : (setup : Setup) (buffers : List BufferSpec) (world : World) → IsAccount setup world
    → All (λ (d : Delivered). (2 ≤ d.sequence) × (d.sequence < length (map (λ (view : WriterView). emissions_of view.calls) world.writers) + 2))
    (records_after (first_buffers setup 1 buffers) (history_of world.service))
account_known setup buffers world account =
    subst (λ (n : ℕ). All (λ (d : Delivered). (2 ≤ d.sequence) × (d.sequence < n + 2)) (records_after (first_buffers setup 1 buffers) (history_of world.service)))
    (sym account.writers ∙ sym (length-map world.writers (λ (view : WriterView). emissions_of view.calls)))
    (all_mine (λ s. (2 ≤ s) × (s < length setup.writers + 2)) (history_of world.service) (first_buffers setup 1 buffers) (only_writers setup 1 buffers))

-- and those of a sequence that was noted in order tell of what its writer emitted
pub account_tells : (setup : Setup) (buffers : List BufferSpec) (world : World) (account : IsAccount setup world) (place : ℕ) (packets : List (List ℕ))
    → (place < length world.writers → InOrder (all_images (writer world place) (account.held place)) world.service (place + 2) 0 false [] world.service.events)
    → slice_get (map (λ (view : WriterView). emissions_of view.calls) world.writers) place ≡ Some packets
    → Tells packets (place + 2) (records_of (place + 2) (records_after (first_buffers setup 1 buffers) (history_of world.service)))
account_tells setup buffers world account place packets order e =
    let many = length-map world.writers (λ (view : WriterView). emissions_of view.calls) in
    let low = slice_get_within (map (λ (view : WriterView). emissions_of view.calls) world.writers) place packets e in
    let inside : place < length world.writers = omega (arith, low, many) in
    let view : WriterView = writer world place in
    let there = slice_get-get_or world.writers place newcomer inside in
    let same : emissions_of view.calls ≡ packets =
    same_Some (emissions_of view.calls) packets
    (sym (slice_get-map (λ (v : WriterView). emissions_of v.calls) world.writers place ∙ ap (option_map (λ (v : WriterView). emissions_of v.calls)) there) ∙ e) in
    let writers = account.writers in
    let spec : WriterSpec = get_or setup.writers place no_writer in
    let get = slice_get-get_or setup.writers place no_writer (omega (arith, inside, writers)) in
    let counts = account.owned.counts place in
    subst (λ (ps : List (List ℕ)). Tells ps (place + 2) (records_of (place + 2) (records_after (first_buffers setup 1 buffers) (history_of world.service)))) same
    (told_of (payload_at setup place) place view (account.held place) (account.cuts place inside) world.service
    counts.learnt (λ n chunk content at. (counts.named n chunk content at).0) (λ n look found at is. (account.owned.looks n look found at is).0)
    setup buffers spec get (order inside))

pub every_account_is_faithful : EveryAccountIsFaithful
every_account_is_faithful setup buffers world account = record {
  known = account_known setup buffers world account;
  told = λ place packets own e. account_tells setup buffers world account place packets (λ inside. account.order place inside own) e;
}
