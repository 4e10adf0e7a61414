-- The records of a stream's sequence tell of what its writer emitted: of one buffer, and of all buffers of a service.
use Rattle.std.proofs.Common.{◌≡◌, ◌∙◌, ℕ, zero, suc, ◌+◌, ◌-◌, ◌⊎◌, true, false, List, [], ◌∷◌, ◌++◌, length, map, reverse, Some, refl, sym, ap, subst, arith, inl, inr, append-nil, length-append}
use Rattle.std.specs.Prelude.{◌==◌, slice_get}
use Rattle.std.proofs.lemmas.Bool.{false≢true, eq-eqb}
use Rattle.std.proofs.lemmas.List.{length-map, nil_from_length}
use Rattle.trace_base.specs.declared.policy.FullPolicy.{FullPolicy}
use Rattle.trace_base.specs.declared.policy.WriterSpec.{WriterSpec}
use Rattle.page_geometry.specs.Sizes.{record_size}
use Rattle.trace_model.specs.Buffers.{Buffer, empty_buffer}
use Rattle.trace_model.specs.Calls.{Call}
use Rattle.trace_model.specs.History.{Event, delivered_to}
use Rattle.trace_model.specs.Images.{Image, Patch}
use Rattle.trace_model.specs.Packets.{emissions_of, packets_of}
use Rattle.trace_model.specs.Pages.{Page, image_of, images_from}
use Rattle.trace_model.specs.Sent.{is_placed}
use Rattle.trace_model.specs.Sequences.{Sequence, IsFresh, is_known, sequence_in}
use Rattle.trace_model.specs.Tells.{Tells}
use Rattle.trace_model.proofs.PageLemmas.{images_long}
use Rattle.delivery_laws.specs.Sheets.{all_parts, packets_in}
use Rattle.delivery_laws.proofs.CallLemmas.{calls_are_paired, calls_in_turn}
use Rattle.delivery_laws.proofs.EmissionLemmas.{first_told}
use Rattle.chunk_plain.specs.Histories.{completed_images, completed_patches}
use Rattle.chunk_plain.specs.Setup.{Setup, size_of}
use Rattle.chunk_plain.specs.Views.{BegunChunk, Completed, Held}
use Rattle.world_model.specs.FirstBuffers.{BufferSpec, first_buffers, sequences_from}
use Rattle.world_model.proofs.MakingLemmas.{IsOnce, in_one, set_at}
use Rattle.world_model.proofs.ProjectLemmas.{Once, Without, once_writes}
use Rattle.commit_laws.specs.CommitHistories.{AreCommitted, patches_to}
use Rattle.commit_laws.specs.Commits.{Commit, commits_in, page_commits}
use Rattle.commit_laws.specs.StreamLaws.{EveryStreamIsTold, StreamsAreTold, WritersLeaveStreams}
use Rattle.commit_laws.specs.Streams.{IsBufferOf, IsStreamOf, completed_commits}
use Rattle.commit_laws.proofs.CommitMembers.{all_of_pages, all_there, any_patch, each_once, each_patch}
use Rattle.commit_laws.proofs.CommitsTell.{every_commit_history_tells}
use Rattle.commit_laws.proofs.CutSheets.{cut_agrees, cut_sheets}
use Rattle.commit_laws.proofs.LeftCommits.{IsLeft}
use Rattle.commit_laws.proofs.PatchOrder.{StandsIn}
use Rattle.commit_laws.proofs.StreamCommits.{all_placed, committed}

-- One buffer

module _ (size : ℕ) (calls : List Call) (pages : List Page) (q : ℕ) (buffer : Buffer) (events : List Event) (is : IsStreamOf size calls pages q buffer events) where
  -- all of it is left at first
  pub stream_left : IsLeft q pages (patches_to q events) [] [] [] (commits_in q events)
  stream_left = record {
    all = refl;
    done_came = tt;
    same = λ n h. h;
    once = λ i h. absurd (false≢true h);
    most = each_once q pages (commits_in q events) is.each_once;
    left = λ i low. inr (all_there q pages (commits_in q events) is.each_once i low);
    are = all_of_pages q pages (commits_in q events) is.each_once;
    placed = each_patch q pages (commits_in q events) is.each_once (λ (patch : Patch). is_placed pages patch ≡ true) (all_placed size calls pages is.cut);
    behind = is.behind;
    lasts = is.lasts;
  }

  -- the stream's events agree with the sheets of its pages
  pub stream_committed : AreCommitted (cut_sheets calls pages) q [] false events
  stream_committed =
      committed size calls pages is.cut q (patches_to q events)
      (λ chunk_id offset bytes h. each_patch q pages (commits_in q events) is.each_once (λ (patch : Patch). (patch.chunk_id == chunk_id) ≡ true → StandsIn chunk_id offset bytes patch) h)
      (any_patch q pages (commits_in q events) is.each_once)
      events [] [] [] false stream_left is.only

pub every_stream_is_told : EveryStreamIsTold
every_stream_is_told size calls pages room policy sequences q record_size events known start is =
    first_told (reverse (packets_of calls)) (packets_in (all_parts (cut_sheets calls pages))) q
    (delivered_to q (empty_buffer room policy sequences) events)
    (calls_are_paired size calls pages is.cut.possible is.cut.cut)
    (calls_in_turn calls is.cut.possible)
    (every_commit_history_tells (cut_sheets calls pages) q record_size room policy sequences events
    (cut_agrees size calls pages is.cut) known start
    (stream_committed size calls pages q (empty_buffer room policy sequences) events is)
    is.accepted)

-- A service

module _ (setup : Setup) (place : ℕ) (spec : WriterSpec) (get : slice_get setup.writers place ≡ Some spec) where
  -- the buffer that the writer names has its sequence, as it is at first
  named_knows : (n : ℕ) (buffers : List BufferSpec) (i : ℕ) (buffer : Buffer) → slice_get (first_buffers setup n buffers) i ≡ Some buffer → spec.buffer ≡ n + i
      → is_known buffer.sequences (place + 2) ≡ true
  named_knows n [] i buffer there number = absurd (cc)
  named_knows n (first ∷ buffers) zero buffer there number =
      let same : empty_buffer first.size first.policy (sequences_from setup n 0 setup.writers) ≡ buffer = cc in
      subst (λ (b : Buffer). is_known b.sequences (place + 2) ≡ true) same ((set_at setup place spec get n).known ∙ eq-eqb spec.buffer n (omega (arith, number)))
  named_knows n (first ∷ buffers) (suc i) buffer there number = named_knows (suc n) buffers i buffer there (omega (arith, number))

-- where a sequence is in one buffer, a buffer that has it is that one
once_is : (q : ℕ) (one : Buffer) (buffers : List Buffer) → Once q one buffers → (i : ℕ) (buffer : Buffer) → slice_get buffers i ≡ Some buffer → is_known buffer.sequences q ≡ true → buffer ≡ one
once_is q one [] once i buffer there known = absurd once
once_is q one (first ∷ buffers) (inl h) zero buffer there known =
    let same : first ≡ buffer = cc in
    sym same ∙ h.0
once_is q one (first ∷ buffers) (inl h) (suc i) buffer there known = absurd (none_there buffers h.2 i there)
  where
    none_there : (bs : List Buffer) → Without q bs → (i : ℕ) → slice_get bs i ≡ Some buffer → ⊥
    none_there [] none i there = cc
    none_there (b ∷ bs) none zero there =
        let same : b ≡ buffer = cc in
        false≢true (sym none.0 ∙ ap (λ (c : Buffer). is_known c.sequences q) same ∙ known)
    none_there (b ∷ bs) none (suc i) there = none_there bs none.1 i there
once_is q one (first ∷ buffers) (inr h) zero buffer there known =
    let same : first ≡ buffer = cc in
    absurd (false≢true (sym h.0 ∙ ap (λ (c : Buffer). is_known c.sequences q) same ∙ known))
once_is q one (first ∷ buffers) (inr h) (suc i) buffer there known = once_is q one buffers h.1 i buffer there known

without_is : (q : ℕ) (buffers : List Buffer) → Without q buffers → (i : ℕ) (buffer : Buffer) → slice_get buffers i ≡ Some buffer → is_known buffer.sequences q ≡ true → ⊥
without_is q [] none i buffer there known = cc
without_is q (first ∷ buffers) none zero buffer there known =
    let same : first ≡ buffer = cc in
    false≢true (sym none.0 ∙ ap (λ (c : Buffer). is_known c.sequences q) same ∙ known)
without_is q (first ∷ buffers) none (suc i) buffer there known = without_is q buffers none.1 i buffer there known

-- The buffer of a writer's sequence is the one that has it, and is empty.
pub record IsOwn (setup : Setup) (buffers : List BufferSpec) (q : ℕ) (buffer : Buffer) : Type 0 where
  pub room : ℕ
  pub policy : FullPolicy
  pub sequences : List Sequence
  pub size : ℕ
  pub is : buffer ≡ empty_buffer room policy sequences
  pub known : is_known sequences q ≡ true
  pub start : IsFresh q size (sequence_in sequences q)
  pub once : Once q (empty_buffer room policy sequences) (first_buffers setup 1 buffers)

pub own_buffer : (setup : Setup) (buffers : List BufferSpec) (place : ℕ) (buffer : Buffer) → IsBufferOf setup buffers place buffer → IsOwn setup buffers (place + 2) buffer
own_buffer setup buffers place buffer of = by_one (in_one setup place of.spec of.writer 1 buffers)
  where
    knows : is_known buffer.sequences (place + 2) ≡ true
    knows = named_knows setup place of.spec of.writer 1 buffers (of.spec.buffer - 1) buffer of.there (let least = of.counted in omega (arith, least))

    by_one : IsOnce (place + 2) (record_size (size_of setup of.spec.producer)) of.spec.from (first_buffers setup 1 buffers) ⊎ Without (place + 2) (first_buffers setup 1 buffers) → IsOwn setup buffers (place + 2) buffer
    by_one (inr none) = absurd (without_is (place + 2) (first_buffers setup 1 buffers) none (of.spec.buffer - 1) buffer of.there knows)
    by_one (inl one) = record {
      room = one.room;
      policy = one.policy;
      sequences = one.sequences;
      size = record_size (size_of setup of.spec.producer);
      is = once_is (place + 2) (empty_buffer one.room one.policy one.sequences) (first_buffers setup 1 buffers) one.once (of.spec.buffer - 1) buffer of.there knows;
      known = one.known;
      start = one.start;
      once = one.once;
    }

pub streams_are_told : StreamsAreTold
streams_are_told setup buffers place buffer of size calls pages events is =
    let own = own_buffer setup buffers place buffer of in
    subst (Tells (emissions_of calls) (place + 2)) (sym (once_writes (place + 2) events (empty_buffer own.room own.policy own.sequences) (first_buffers setup 1 buffers) own.once))
    (every_stream_is_told size calls pages own.room own.policy own.sequences (place + 2) own.size events own.known own.start
    (subst (λ (b : Buffer). IsStreamOf size calls pages (place + 2) b events) own.is is))

-- Writers

commits_of_pages : (q first : ℕ) (begun : List BegunChunk) (pages : List Page) → completed_images begun ≡ images_from q first pages
    → completed_patches begun ≡ map (λ (page : Page). page.patches) pages → completed_commits begun ≡ page_commits q first pages
commits_of_pages q first [] [] images patches = refl
commits_of_pages q first [] (page ∷ pages) images patches = absurd (cc)
commits_of_pages q first (Held chunk draft ∷ begun) pages images patches = commits_of_pages q first begun pages images patches
commits_of_pages q first (Completed chunk content ∷ begun) [] images patches = absurd (cc)
commits_of_pages q first (Completed chunk content ∷ begun) (page ∷ pages) images patches =
    let image : content.image ≡ image_of q first page = cc in
    let brings : content.patches ≡ page.patches = cc in
    let others : completed_images begun ≡ images_from q (suc first) pages = cc in
    let their : completed_patches begun ≡ map (λ (p : Page). p.patches) pages = cc in
    ap (λ (i : Image). record { image = i; patches = content.patches } ∷ completed_commits begun) image
    ∙ ap (λ (ps : List Patch). record { image = image_of q first page; patches = ps } ∷ completed_commits begun) brings
    ∙ ap (λ (cs : List Commit). record { image = image_of q first page; patches = page.patches } ∷ cs) (commits_of_pages q (suc first) begun pages others their)

same_many : (begun : List BegunChunk) → length (completed_images begun) ≡ length (completed_patches begun)
same_many [] = refl
same_many (Held chunk draft ∷ begun) = same_many begun
same_many (Completed chunk content ∷ begun) = ap suc (same_many begun)

pub writers_leave_streams : WritersLeaveStreams
writers_leave_streams size place view cut =
    let pages : List Page = cut.cut.pages in
    let images : completed_images view.begun ≡ images_from (place + 2) 0 pages = sym (append-nil (completed_images view.begun)) ∙ cut.cut.images_are in
    let many = same_many view.begun in
    let long = ap (λ (xs : List Image). length xs) images in
    let as_many = images_long (place + 2) 0 pages in
    let patches_long = ap (λ (xs : List (List Patch)). length xs) cut.cut.patches_are in
    let mapped = length-map pages (λ (page : Page). page.patches) in
    let both = length-append (completed_patches view.begun) cut.unsent in
    let none : cut.unsent ≡ [] = nil_from_length cut.unsent (omega (arith, many, long, as_many, patches_long, mapped, both)) in
    let patches : completed_patches view.begun ≡ map (λ (page : Page). page.patches) pages =
    sym (append-nil (completed_patches view.begun)) ∙ ap (λ (xs : List (List Patch)). completed_patches view.begun ++ xs) (sym none) ∙ cut.cut.patches_are in (
      pages,
      record { possible = cut.possible; small = cut.small; cut = cut.cut.cut; ends = cut.ends refl },
      commits_of_pages (place + 2) 0 view.begun pages images patches,
    )
