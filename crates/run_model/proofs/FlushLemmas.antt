-- What an answer of a run counts is settled once it has come and is read.
use Rattle.std.proofs.Common.{◌≡◌, ◌∙◌, ℕ, zero, suc, ◌+◌, ◌-◌, ◌*◌, ◌<◌, ◌≤◌, List, [], ◌∷◌, ◌++◌, length, map, take, drop, Some, refl, sym, ap, subst, arith, append_assoc, false}
use Rattle.std.specs.Prelude.{slice_get}
use Rattle.std.proofs.lemmas.Bool.{eq-eqb}
use Rattle.std.proofs.lemmas.Option.{slice_get-get_or, same_Some}
use Rattle.trace_base.specs.declared.policy.WriterSpec.{WriterSpec}
use Rattle.trace_base.proofs.Lists.{get_more}
use Rattle.page_geometry.specs.Sizes.{record_size}
use Rattle.trace_model.specs.Buffers.{Buffer, empty_buffer}
use Rattle.trace_model.specs.Calls.{Call, Flushed}
use Rattle.trace_model.specs.Causes.{fixed_after}
use Rattle.trace_model.specs.Cut.{CutsInto, newest_goes_on}
use Rattle.trace_model.specs.History as model
use Rattle.trace_model.specs.History.{Event}
use Rattle.trace_model.specs.Images.{Image, Patch}
use Rattle.trace_model.specs.Packets.{Packet, packets_of, begun_count}
use Rattle.trace_model.specs.Pages.{Page, image_of, images_from}
use Rattle.trace_model.specs.Sequences.{Sequence}
use Rattle.trace_model.specs.Written.{chains_of}
use Rattle.trace_model.proofs.PageLemmas.{images_long}
use Rattle.delivery_laws.specs.DeliveryLaws.{IsAccountOf}
use Rattle.delivery_laws.specs.FlushLaws.{arrivals_of, IsFlushed, AreSettled}
use Rattle.delivery_laws.proofs.CompleteLemmas.{full_at}
use Rattle.delivery_laws.proofs.FlushLemmas as delivery
use Rattle.delivery_laws.specs.Orders.{InOrder}
use Rattle.delivery_laws.specs.WriterSheets.{sheets_of}
use Rattle.delivery_laws.proofs.WrittenPackets.{are_full}
use Rattle.chunk_plain.specs.Histories.{completed_images, completed_patches, history_of}
use Rattle.chunk_plain.specs.Setup.{Setup, sequence_of, size_of, no_writer}
use Rattle.chunk_plain.specs.Views.{BegunChunk, Held, Completed, Reply}
use Rattle.chunk_plain.specs.World.{World, writer}
use Rattle.world_model.specs.FirstBuffers.{BufferSpec, payload_at, sequences_from}
use Rattle.world_model.proofs.MakingLemmas.{set_at}
use Rattle.world_model.proofs.OwnLemmas.{image_at}
use Rattle.trace_writer.specs.Answered.{IsAnsweredCut}
use Rattle.trace_writer.proofs.holding.Answering.{all_completed}
use Rattle.scenario_text.specs.declared.scenario.BufferLine.{BufferLine}
use Rattle.scenario_text.specs.Limits.{IsSetUp, IsWriter}
use Rattle.scenario_text.specs.Scenario.{Parts}
use Rattle.service_core.specs.Agreement.{spec_at}
use Rattle.service_core.specs.Routing.{buffer_at}
use Rattle.replay_model.specs.Played.{buffer_specs, buffers_of, first_buffer}
use Rattle.replay_model.specs.Written.{HasWritten}
use Rattle.replay_model.proofs.BalanceLemmas.{first_at, each_is, get_map}
use Rattle.replay_model.proofs.DoneLemmas.{IsDone}
use Rattle.replay_model.proofs.PageLemmas.{begins_as, pages_same}
use Rattle.replay_model.proofs.PlayedLemmas.{setup_writers}
use Rattle.replay_model.proofs.PlayedOnLemmas.{flush_packets}
use Rattle.run_model.specs.FlushLaws.{IsSettledBehind, EveryRunFlushIsSettled}
use Rattle.run_model.proofs.RunLemmas.{laid_out, is_done, history_in_order}

-- ---- lists

images_get : (q first : ℕ) (pages : List Page) (i : ℕ) (page : Page) → slice_get pages i ≡ Some page
    → slice_get (images_from q first pages) i ≡ Some (image_of q (first + i) page)
images_get q first [] i page get = absurd (cc)
images_get q first (one ∷ pages) zero page get =
    let same : one ≡ page = cc in
    let at : first ≡ first + 0 = omega arith in
    ap (λ (p : Page). Some (image_of q first p)) same ∙ ap (λ (n : ℕ). Some (image_of q n page)) at
images_get q first (one ∷ pages) (suc i) page get =
    let at : suc first + i ≡ first + suc i = omega arith in
    images_get q (suc first) pages i page get ∙ ap (λ (n : ℕ). Some (image_of q n page)) at

front_images : (n : ℕ) (begun : List BegunChunk) → completed_images begun ≡ completed_images (take n begun) ++ completed_images (drop n begun)
front_images zero begun = refl
front_images (suc n) [] = refl
front_images (suc n) (Held chunk draft ∷ begun) = front_images n begun
front_images (suc n) (Completed chunk content ∷ begun) = ap (λ (images : List Image). content.image ∷ images) (front_images n begun)

front_patches : (n : ℕ) (begun : List BegunChunk) → completed_patches begun ≡ completed_patches (take n begun) ++ completed_patches (drop n begun)
front_patches zero begun = refl
front_patches (suc n) [] = refl
front_patches (suc n) (Held chunk draft ∷ begun) = front_patches n begun
front_patches (suc n) (Completed chunk content ∷ begun) = ap (λ (patches : List (List Patch)). content.patches ∷ patches) (front_patches n begun)

front_long : {A : Type 0} (n : ℕ) (xs : List A) → n ≤ length xs → length (take n xs) ≡ n
front_long zero xs low = refl
front_long (suc n) [] low = absurd (omega (arith, low))
front_long (suc n) (x ∷ xs) low = ap suc (front_long n xs (omega (arith, low)))

front_rest : {A : Type 0} (n : ℕ) (xs : List A) → take n xs ++ drop n xs ≡ xs
front_rest zero xs = refl
front_rest (suc n) [] = refl
front_rest (suc n) (x ∷ xs) = ap (λ ys. x ∷ ys) (front_rest n xs)

-- ---- what a writer had cut at an answer

module _ (setup : Setup) (world : World) (place : ℕ) (wrote : HasWritten setup place (writer world place)) (answer : Reply)
    (cut : IsAnsweredCut (payload_at setup place) (sequence_of place) (writer world place) answer) where
  abbrev size : ℕ
  size = payload_at setup place

  abbrev begun : List BegunChunk
  begun = (writer world place).begun

  abbrev pages_then : List Page
  pages_then = cut.cut.pages

  abbrev pages_now : List Page
  pages_now = wrote.cut.cut.pages

  pub many_then : length (cut.cut.pages) ≡ answer.chunks
  many_then =
      let images = ap (λ (xs : List Image). length xs) cut.cut.images_are in
      let all = all_completed (take answer.chunks begun) cut.completed in
      let front = front_long answer.chunks begun cut.chunks in
      let long = images_long (sequence_of place) 0 pages_then in
      omega (arith, images, all, front, long)

  image_now : (i : ℕ) (image : Image) → slice_get (images_from (sequence_of place) 0 pages_then) i ≡ Some image
      → slice_get (images_from (sequence_of place) 0 pages_now) i ≡ Some image
  image_now i image there =
      let rest : List Image = completed_images (drop answer.chunks begun) in
      let first : slice_get (completed_images (take answer.chunks begun)) i ≡ Some image =
      ap (λ (xs : List Image). slice_get xs i) cut.cut.images_are ∙ there in
      let own : slice_get (completed_images begun) i ≡ Some image =
      ap (λ (xs : List Image). slice_get xs i) (front_images answer.chunks begun) ∙ get_more (completed_images (take answer.chunks begun)) rest i image first in
      ap (λ (xs : List Image). slice_get xs i) (sym wrote.cut.cut.images_are) ∙ get_more (completed_images begun) wrote.held i image own

  patches_now : (i : ℕ) (patches : List Patch) → slice_get (map (λ (p : Page). p.patches) pages_then) i ≡ Some patches
      → slice_get (map (λ (p : Page). p.patches) pages_now) i ≡ Some patches
  patches_now i patches there =
      let rest : List (List Patch) = completed_patches (drop answer.chunks begun) in
      let first : slice_get (completed_patches (take answer.chunks begun)) i ≡ Some patches =
      ap (λ (xs : List (List Patch)). slice_get xs i) cut.cut.patches_are ∙ there in
      let own : slice_get (completed_patches begun) i ≡ Some patches =
      ap (λ (xs : List (List Patch)). slice_get xs i) (front_patches answer.chunks begun) ∙ get_more (completed_patches (take answer.chunks begun)) rest i patches first in
      ap (λ (xs : List (List Patch)). slice_get xs i) (sym wrote.cut.cut.patches_are) ∙ get_more (completed_patches begun) wrote.cut.unsent i patches own

  page_stays : (i : ℕ) (page : Page) → slice_get pages_then i ≡ Some page → slice_get pages_now i ≡ Some page
  page_stays i page get =
      let later = image_at (sequence_of place) 0 pages_now i (image_of (sequence_of place) (0 + i) page)
      (image_now i (image_of (sequence_of place) (0 + i) page) (images_get (sequence_of place) 0 pages_then i page get)) in
      let brought : Some later.page.patches ≡ Some page.patches =
      sym (get_map (λ (p : Page). p.patches) pages_now i later.page later.get) ∙ patches_now i page.patches (get_map (λ (p : Page). p.patches) pages_then i page get) in
      let same : later.page ≡ page =
      pages_same size (sequence_of place) (0 + i) later.page page wrote.cut.small
      (full_at size pages_now i later.page (are_full size pages_now wrote.cut.cut.cut.full) later.get)
      (full_at size pages_then i page (are_full size pages_then cut.cut.cut.full) get)
      (sym later.is) (same_Some later.page.patches page.patches brought) in
      later.get ∙ ap (λ (p : Page). Some p) same

  cut_then : CutsInto (payload_at setup place) (packets_of cut.before) cut.cut.pages
  cut_then =
      subst (λ (ps : List Packet). CutsInto size ps pages_then) (ap packets_of cut.flushed ∙ flush_packets cut.before) cut.cut.cut

  pub is_flushed : IsFlushed (payload_at setup place) (writer world place).calls wrote.cut.cut.pages cut.before cut.cut.pages
  is_flushed = record {
    behind = drop answer.calls (writer world place).calls;
    calls_are = sym (front_rest answer.calls (writer world place).calls)
        ∙ ap (λ (cs : List Call). cs ++ drop answer.calls (writer world place).calls) cut.flushed
        ∙ append_assoc cut.before (Flushed ∷ []) (drop answer.calls (writer world place).calls);
    more = drop (length pages_then) pages_now;
    pages_are = begins_as pages_then pages_now page_stays;
    cut = cut_then;
  }

-- ---- the law

module _ (scenario : Parts) (setup : Setup) (world : World) (done : IsDone scenario setup world)
    (set_up : IsSetUp scenario.buffers scenario.producers scenario.writers) (place : ℕ) (inside : place < length setup.writers)
    (ordered : InOrder (sheets_of (newest_goes_on (packets_of (writer world place).calls)) (done.wrote place inside).cut.cut.pages) (place + 2) 0 false []
    (history_of world.service)) where
  there : slice_get setup.writers place ≡ Some (spec_at setup.writers place)
  there = slice_get-get_or setup.writers place no_writer inside

  is_writer : IsWriter scenario.buffers scenario.producers (spec_at setup.writers place)
  is_writer =
      each_is (IsWriter scenario.buffers scenario.producers) scenario.writers place (spec_at setup.writers place) set_up.are_writers
      (sym (ap (λ (specs : List WriterSpec). slice_get specs place) (setup_writers scenario setup done.setup_is)) ∙ there)

  abbrev made : BufferSpec
  made = record { size = is_writer.into_buffer.kb * 1024; policy = is_writer.into_buffer.policy }

  abbrev sequences : List Sequence
  sequences = sequences_from setup (spec_at setup.writers place).buffer 0 setup.writers

  abbrev first : Buffer
  first = empty_buffer made.size made.policy (sequences_from setup (spec_at setup.writers place).buffer 0 setup.writers)

  made_there : slice_get (buffer_specs scenario) ((spec_at setup.writers place).buffer - 1) ≡ Some made
  made_there =
      get_map (λ (line : BufferLine). record { size = line.kb * 1024; policy = line.policy }) scenario.buffers ((spec_at setup.writers place).buffer - 1)
      is_writer.into_buffer is_writer.buffer_is

  first_is : first_buffer scenario setup place ≡ first
  first_is =
      let least = is_writer.counts_buffer in
      let number : 1 + ((spec_at setup.writers place).buffer - 1) ≡ (spec_at setup.writers place).buffer = omega (arith, least) in
      ap (λ (specs : List WriterSpec). buffer_at (buffers_of scenario setup) ((spec_at specs place).buffer - 1)) (sym (setup_writers scenario setup done.setup_is))
      ∙ first_at setup 1 (buffer_specs scenario) ((spec_at setup.writers place).buffer - 1) made made_there
      ∙ ap (λ (m : ℕ). empty_buffer made.size made.policy (sequences_from setup m 0 setup.writers)) number

  abbrev held_size : ℕ
  held_size = record_size (size_of setup (spec_at setup.writers place).producer)

  account : IsAccountOf (payload_at setup place) (writer world place).calls (done.wrote place inside).cut.cut.pages sequences (place + 2) held_size (history_of world.service)
  account =
      let set = set_at setup place (spec_at setup.writers place) there (spec_at setup.writers place).buffer in
      let own = eq-eqb (spec_at setup.writers place).buffer (spec_at setup.writers place).buffer refl in
      record {
        possible = (done.wrote place inside).cut.possible;
        cut = (done.wrote place inside).cut.cut.cut;
        known = set.known ∙ own;
        start = set.start own;
        order = ordered;
      }

  pub answer_settled : (answer : Reply) → IsAnsweredCut (payload_at setup place) (sequence_of place) (writer world place) answer
      → (early later : List Event) (limit : ℕ) → history_of world.service ≡ early ++ model.Read (sequence_of place) limit ∷ later
      → answer.chunks ≤ arrivals_of (sequence_of place) early → begun_count (writer world place).calls ≤ limit
      → IsSettledBehind scenario setup world place answer (early ++ model.Read (sequence_of place) limit ∷ [])
  answer_settled answer cut early later limit history come enough =
      let wrote = done.wrote place inside in
      let many = many_then setup world place wrote answer cut in
      let flushed = is_flushed setup world place wrote answer cut in
      record {
        wrote = wrote;
        before = cut.before;
        calls = cut.flushed;
        pages = cut.cut.pages;
        count_is = many;
        flushed = flushed;
        settled =
            subst (λ (b : Buffer). AreSettled (fixed_after (sequence_of place) b (early ++ model.Read (sequence_of place) limit ∷ [])) (packets_of cut.before) (chains_of cut.cut.pages))
            (sym first_is)
            (delivery.every_flush_is_settled (payload_at setup place) (writer world place).calls wrote.cut.cut.pages made.size made.policy sequences (place + 2) held_size
            early later limit cut.before cut.cut.pages
            (subst (IsAccountOf (payload_at setup place) (writer world place).calls wrote.cut.cut.pages sequences (place + 2) held_size) history account)
            flushed (omega (arith, many, come)) enough);
      }

pub every_run_flush_is_settled : EveryRunFlushIsSettled
every_run_flush_is_settled scenario setup world run set_up place n answer inside there early later limit history come enough =
    let done = run.before.done in
    let laid = laid_out scenario setup done.setup_is set_up in
    answer_settled scenario setup world (is_done scenario setup world _ done laid) set_up place inside
    (history_in_order scenario setup world _ done laid place inside) answer
    ((done.writers place inside).answers n answer there) early later limit history come enough
