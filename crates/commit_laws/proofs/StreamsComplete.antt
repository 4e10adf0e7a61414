-- Where the bytes suffice and the buffer is read at the end, no packet of a stream is absent that was emitted and never dropped, and that the packet
-- check accepts.
use Rattle.std.proofs.Common.{◌≡◌, ◌∙◌, ℕ, zero, suc, ◌+◌, ◌*◌, ◌≤◌, Bool, true, false, List, [], ◌∷◌, ◌++◌, length, reverse, Some, refl, sym, ap, subst, arith, length-append, mul-le-mul_right, mul_comm, suc-mul}
use Rattle.std.specs.Prelude.{cond, ◌==◌, slice_get}
use Rattle.std.proofs.lemmas.Bool.{false≢true, eqb-true}
use Rattle.std.proofs.lemmas.List.Sorted.{length_permutation}
use Rattle.std.proofs.lemmas.List.Sums.{count_by-le-length, length-filter}
use Rattle.trace_base.specs.declared.limits.TheConstants.{MAX_FRAGMENTS}
use Rattle.trace_model.specs.Buffers.{Buffer, empty_buffer}
use Rattle.trace_model.specs.Calls.{Call}
use Rattle.trace_model.specs.Cut.{newest_goes_on}
use Rattle.trace_model.specs.History.{Event, Arrives, ArrivesInPart, Patched, Committed, Closed, Read, delivered_to}
use Rattle.trace_model.specs.Images.{Fragment, Patch}
use Rattle.trace_model.specs.Packets.{emissions_of, packets_of}
use Rattle.trace_model.specs.Pages.{Page, chunk_of, patches_of}
use Rattle.trace_model.specs.Sequences.{Cursor, Sequence, has_arrived, is_known, sequence_in}
use Rattle.trace_model.specs.Written.{settled_fragments}
use Rattle.trace_model.proofs.PageLemmas.{fragments_long, settled_long}
use Rattle.delivery_laws.specs.Sheets.{Sheet, Part, SheetsAgree, WrittenPacket, all_parts, ends_whole, packets_in, parts_from, tail_bytes}
use Rattle.delivery_laws.specs.WriterSheets.{sheet_of, sheets_from}
use Rattle.delivery_laws.proofs.CallLemmas.{calls_are_paired, calls_in_turn}
use Rattle.delivery_laws.proofs.CompleteLemmas.{full_at}
use Rattle.delivery_laws.proofs.RowWalks.{all_at_start, inside_first}
use Rattle.delivery_laws.proofs.Walks.{Inside, parts_at}
use Rattle.delivery_laws.proofs.WrittenPackets.{AreFull}
use Rattle.world_model.specs.FirstBuffers.{first_buffers}
use Rattle.world_model.proofs.ProjectLemmas.{once_writes}
use Rattle.commit_laws.specs.CommitHistories.{AreCommitted, patches_to}
use Rattle.commit_laws.specs.Commits.{commits_in, page_commits}
use Rattle.commit_laws.specs.Complete.{IsReadOut, TellsAt, commits_to, kept_places, largest_record}
use Rattle.commit_laws.specs.CompleteLaws.{EveryStreamIsComplete, StreamsAreComplete}
use Rattle.commit_laws.specs.Streams.{IsCompletedCut, IsStreamOf}
use Rattle.commit_laws.proofs.AwaitSettles.{stream_settles}
use Rattle.commit_laws.proofs.CommitCounts.{asked_most}
use Rattle.commit_laws.proofs.CommitMembers.{any_patch}
use Rattle.commit_laws.proofs.CommitsTell.{every_commit_history_tells, fresh_met}
use Rattle.commit_laws.proofs.CutSheets.{cut_agrees, cut_full, cut_sheet, cut_sheets}
use Rattle.commit_laws.proofs.ExactChains.{exact_chains, page_marks}
use Rattle.commit_laws.proofs.FullHistories.{delivers_wholes}
use Rattle.commit_laws.proofs.FullReads.{wholes}
use Rattle.commit_laws.proofs.FullRows.{DropsEnd}
use Rattle.commit_laws.proofs.KeptBodies.{stream_accepted}
use Rattle.commit_laws.proofs.ReadsLast.{read_out}
use Rattle.commit_laws.proofs.StreamsTold.{own_buffer, stream_committed, stream_left}
use Rattle.commit_laws.proofs.TellsWholes.{all_told}

-- How many packets there can be

parts_long : (continues runs_on : Bool) (fs : List Fragment) → length (parts_from continues runs_on fs) ≡ length fs
parts_long continues runs_on [] = refl
parts_long continues runs_on (f ∷ fs) = ap suc (parts_long false runs_on fs)

packets_few : (parts : List Part) → length (packets_in parts) ≤ length parts
packets_few [] = omega arith
packets_few (part ∷ parts) = by_start part.starts (packets_few parts)
  where
    by_start : (b : Bool) → length (packets_in parts) ≤ length parts
        → length (cond b (record { bytes = part.bytes ++ tail_bytes parts; whole = ends_whole part parts } ∷ packets_in parts) (packets_in parts)) ≤ suc (length parts)
    by_start true low = omega (arith, low)
    by_start false low = omega (arith, low)

wholes_few : (parts : List Part) → wholes (packets_in parts) ≤ length parts
wholes_few parts =
    let count = length-filter (λ (packet : WrittenPacket). packet.whole) (packets_in parts) in
    let less = count_by-le-length (λ (packet : WrittenPacket). packet.whole) (packets_in parts) in
    let few = packets_few parts in
    omega (arith, count, less, few)

-- a page has no more fragments than a count can say
all_few : (size : ℕ) (patches : List Patch) (goes : Bool) (pages : List Page) (first : ℕ) → AreFull size pages → length (all_parts (sheets_from patches first goes pages)) ≤ length pages * MAX_FRAGMENTS
all_few size patches goes [] first full = omega arith
all_few size patches goes (page ∷ []) first full =
    let fragments : List Fragment = settled_fragments patches first (chunk_of page).fragments in
    let long = length-append (parts_from page.continues goes fragments) [] in
    let parts = parts_long page.continues goes fragments in
    let settled = settled_long patches first (chunk_of page).fragments in
    let texts = fragments_long 4 page.dropped page.fragments in
    let most = full.0.most in
    omega (arith, long, parts, settled, texts, most)
all_few size patches goes (page ∷ next ∷ pages) first full =
    let fragments : List Fragment = settled_fragments patches first (chunk_of page).fragments in
    let long = length-append (parts_from page.continues page.runs_on fragments) (all_parts (sheets_from patches (suc first) goes (next ∷ pages))) in
    let parts = parts_long page.continues page.runs_on fragments in
    let settled = settled_long patches first (chunk_of page).fragments in
    let texts = fragments_long 4 page.dropped page.fragments in
    let most = full.0.most in
    let rest = all_few size patches goes (next ∷ pages) (suc first) full.1 in
    let product = suc-mul (suc (length pages)) MAX_FRAGMENTS in
    omega (arith, long, parts, settled, texts, most, rest, product)

pages_long : (q first : ℕ) (pages : List Page) → length (page_commits q first pages) ≡ length pages
pages_long q first [] = refl
pages_long q first (page ∷ pages) = ap suc (pages_long q (suc first) pages)

-- the commits of a sequence are among those to its buffer
own_few : (sequences : List Sequence) (q : ℕ) → is_known sequences q ≡ true → (events : List Event) → length (commits_in q events) ≤ commits_to sequences events
own_few sequences q known [] = omega arith
own_few sequences q known (Arrives other id chunk ∷ events) = own_few sequences q known events
own_few sequences q known (ArrivesInPart other id chunk ∷ events) = own_few sequences q known events
own_few sequences q known (Patched other patches ∷ events) = own_few sequences q known events
own_few sequences q known (Closed other ∷ events) = own_few sequences q known events
own_few sequences q known (Read other limit ∷ events) = own_few sequences q known events
own_few sequences q known (Committed image patches ∷ events) = by_own (image.sequence == q) refl (own_few sequences q known events)
  where
    by_own : (b : Bool) → (image.sequence == q) ≡ b → length (commits_in q events) ≤ commits_to sequences events
        → length (cond b (record { image = image; patches = patches } ∷ commits_in q events) (commits_in q events)) ≤ cond {A = ℕ} (is_known sequences image.sequence) 1 0 + commits_to sequences events
    by_own true e low =
        let one : cond {A = ℕ} (is_known sequences image.sequence) 1 0 ≡ 1 =
        ap (λ (b : Bool). cond {A = ℕ} b 1 0) (ap (is_known sequences) (eqb-true image.sequence q e) ∙ known) in
        omega (arith, low, one)
    by_own false e low = omega (arith, low)

-- One buffer

page_there : (patches : List Patch) (goes : Bool) (pages : List Page) (first i : ℕ) (sheet : Sheet) → slice_get (sheets_from patches first goes pages) i ≡ Some sheet
    → (page : Page) × (slice_get pages i ≡ Some page)
page_there patches goes [] first i sheet e = absurd (cc)
page_there patches goes (page ∷ []) first zero sheet e = (page, refl)
page_there patches goes (page ∷ []) first (suc i) sheet e = absurd (cc)
page_there patches goes (page ∷ next ∷ pages) first zero sheet e = (page, refl)
page_there patches goes (page ∷ next ∷ pages) first (suc i) sheet e = page_there patches goes (next ∷ pages) (suc first) i sheet e

sheets_drop : (size : ℕ) (calls : List Call) (pages : List Page) → IsCompletedCut size calls pages → (i : ℕ) (sheet : Sheet)
    → slice_get (cut_sheets calls pages) i ≡ Some sheet → DropsEnd sheet
sheets_drop size calls pages cut i sheet there =
    let page = page_there (patches_of pages) (newest_goes_on (packets_of calls)) pages 0 i sheet there in
    let known = cut_sheet size calls pages cut i page.0 page.1 in
    let same : sheet_of (patches_of pages) i page.0.runs_on page.0 ≡ sheet = cc in
    subst DropsEnd same (page_marks size (patches_of pages) i page.0 (full_at size pages i page.0 (cut_full size calls pages cut) page.1))

pub every_stream_is_complete : EveryStreamIsComplete
every_stream_is_complete size calls pages room policy sequences q record_size events known start is passes by low out =
    all_told (reverse (packets_of calls)) (packets_in (all_parts sheets)) q (delivered_to q buffer events)
    (calls_are_paired size calls pages is.cut.possible is.cut.cut)
    (calls_in_turn calls is.cut.possible)
    (exact_chains size calls pages is.cut)
    (every_commit_history_tells sheets q record_size room policy sequences events agree known start committed is.accepted)
    (subst (λ (n : ℕ). n ≤ length (delivered_to q buffer events)) at_start
    (delivers_wholes sheets agree (sheets_drop size calls pages is.cut) (stream_accepted size calls pages is.cut passes) q (wholes (packets_in (all_parts sheets))) events buffer [] false
    (record {
      met = fresh_met sheets q record_size room policy sequences (patches_to q events) known start;
      committed = committed;
      accepted = is.accepted;
    })
    (record {
      roomy = record { below = tt; unshut = refl };
      all = λ i h. absurd (false≢true (ap (λ (s : Sequence). has_arrived s i) (sym start) ∙ h));
      waits = tt;
    })
    (stream_settles size calls pages is.cut q (patches_to q events) (any_patch q pages (commits_in q events) is.each_once) events [] [] []
    (stream_left size calls pages q buffer events is))
    (let asks = asked_most sequences events buffer refl by in omega (arith, asks, low))
    (subst (λ (c : Cursor). Inside sheets c.chunk_id c.passed) (sym cursor) (inside_first sheets false 0 agree))
    (let same = at_start in omega (arith, same))
    (read_out q room policy sequences events (wholes (packets_in (all_parts sheets))) by out few)))
  where
    sheets : List Sheet
    sheets = cut_sheets calls pages

    buffer : Buffer
    buffer = empty_buffer room policy sequences

    agree : SheetsAgree false sheets
    agree = cut_agrees size calls pages is.cut

    committed : AreCommitted sheets q [] false events
    committed = stream_committed size calls pages q buffer events is

    cursor : (sequence_in sequences q).cursor ≡ record { chunk_id = 0; passed = 0 }
    cursor = ap (λ (s : Sequence). s.cursor) start

    at_start : wholes (packets_in (parts_at sheets (sequence_in sequences q).cursor.chunk_id (sequence_in sequences q).cursor.passed)) ≡ wholes (packets_in (all_parts sheets))
    at_start =
        ap (λ (c : Cursor). wholes (packets_in (parts_at sheets c.chunk_id c.passed))) cursor
        ∙ ap (λ (ps : List Part). wholes (packets_in ps)) (all_at_start sheets)

    few : wholes (packets_in (all_parts sheets)) ≤ MAX_FRAGMENTS * commits_to sequences events
    few =
        let one = wholes_few (all_parts sheets) in
        let two = all_few size (patches_of pages) (newest_goes_on (packets_of calls)) pages 0 (cut_full size calls pages is.cut) in
        let many = length_permutation (commits_in q events) (page_commits q 0 pages) is.each_once in
        let long = pages_long q 0 pages in
        let own = own_few sequences q known events in
        let less : length pages ≤ commits_to sequences events = omega (arith, many, long, own) in
        let product = mul-le-mul_right MAX_FRAGMENTS less in
        let turned = mul_comm (commits_to sequences events) MAX_FRAGMENTS in
        omega (arith, one, two, product, turned)

-- All buffers of a service

pub streams_are_complete : StreamsAreComplete
streams_are_complete setup buffers place buffer of size calls pages events is passes by low out =
    let own = own_buffer setup buffers place buffer of in
    subst (TellsAt (emissions_of calls) (place + 2) true 0 (kept_places 0 (reverse (packets_of calls))))
    (sym (once_writes (place + 2) events (empty_buffer own.room own.policy own.sequences) (first_buffers setup 1 buffers) own.once))
    (every_stream_is_complete size calls pages own.room own.policy own.sequences (place + 2) own.size events own.known own.start
    (subst (λ (b : Buffer). IsStreamOf size calls pages (place + 2) b events) own.is is) passes by
    (subst (λ (b : Buffer). commits_to b.sequences events * largest_record b.sequences ≤ b.room) own.is low)
    (subst (λ (b : Buffer). IsReadOut (place + 2) b events) own.is out))
