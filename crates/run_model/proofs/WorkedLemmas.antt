-- Over one chunk that nobody has collected a packet is lost in each run that has two chunks' worth.
use Rattle.std.proofs.Common.{◌≡◌, ◌∙◌, ℕ, zero, suc, ◌+◌, ◌*◌, ◌<◌, ◌≤◌, ◌⊎◌, inl, inr, Bool, true, false, List, [], ◌∷◌, ◌++◌, length, map, refl, sym, ap, subst, arith}
use Rattle.std.specs.Prelude.{fold}
use Rattle.std.proofs.Math.Logic.{∥∥₁_elim}
use Rattle.std.proofs.Math.Nat.{ℕ_set}
use Rattle.std.proofs.lemmas.Bool.{cases_eq}
use Rattle.std.proofs.lemmas.List.{length-map}
use Rattle.std.specs.List.{AllByRecursion, AllZip}
use Rattle.trace_base.specs.declared.limits.TheConstants.{MAX_WRITERS}
use Rattle.trace_base.specs.declared.policy.FullPolicy.TheVariants.{Ring}
use Rattle.trace_base.specs.declared.policy.WriterSpec.{WriterSpec}
use Rattle.trace_model.specs.Calls.{Call, Begun, Finished, Flushed}
use Rattle.trace_model.specs.Cut.{CutsInto}
use Rattle.trace_model.specs.Packets.{Packet, packets_of, lost_count}
use Rattle.field_tree.specs.Nodes.{Shown}
use Rattle.page_geometry.specs.Sizes.{payload_size, chunk_size}
use Rattle.chunk_plain.specs.declared.setup.ProducerSpec.{ProducerSpec}
use Rattle.chunk_plain.specs.Laying.{setup_of}
use Rattle.chunk_plain.specs.Letters.{AreLetters}
use Rattle.chunk_plain.specs.Setup.{Setup, IsLaid, IsChunkOf, range_of, producer_of}
use Rattle.chunk_plain.specs.Views.{At, BegunChunk, Held, Completed, Content, taken_of}
use Rattle.chunk_plain.specs.World.{World, writer}
use Rattle.chunk_plain.specs.Owned.{held_count}
use Rattle.scenario_text.specs.declared.scenario.NumberedLine.{NumberedLine}
use Rattle.world_model.specs.FirstBuffers.{payload_at}
use Rattle.trace_writer.specs.Claims.{AreOwnChunks}
use Rattle.scenario_text.specs.Limits.{IsSetUp, IsWriter}
use Rattle.scenario_text.specs.Accepted.{calls_asked, line_calls, node_call}
use Rattle.scenario_text.specs.Scenario.{Parts}
use Rattle.replay_model.specs.Flushes.{requests_in}
use Rattle.replay_model.specs.Played.{IsSpecOf}
use Rattle.replay_model.proofs.AccountLemmas.{pages_begun}
use Rattle.run_model.proofs.LineLemmas.{lines_take_at_most}
use Rattle.run_model.specs.Collected.{CollectedByLines, has_asker, may_be_collected, taken_by_lines, times_in}
use Rattle.run_model.specs.Noted.{done_calls}
use Rattle.run_model.specs.Settled.{HasDoneAll, IsRun, last_flushes}
use Rattle.run_model.specs.Worked.{over_one_chunk, dropping, stalling, two_packets, flushed_between, beside_idle, one_of_each, collected_once, filled_again, OneChunkHoldsOnePacket, OneCollectFreesOneChunk, ChunksArriveInTurn}
use Rattle.run_model.proofs.AnsweredLemmas.{none_answered, out_none}
use Rattle.run_model.proofs.AskedLemmas.{Flags, flag_after, flags_are, packet_flag, flags_behind}
use Rattle.run_model.proofs.ChunkLemmas.{left_are_apart, uses_once}
use Rattle.run_model.proofs.FirstKeptLemmas.{BeginsFirst, begins_first, begun_first, first_of_two}
use Rattle.run_model.proofs.FirstWinLemmas.{waits_until_another_arrives}
use Rattle.run_model.proofs.FreshLemmas.{AllSet, fresh_pages, one_page, whole_fresh}
use Rattle.run_model.proofs.RunLemmas.{laid_out, wrote}

-- what a writer that holds no chunk has begun it has completed, in a chunk of its own producer
completed_there : (setup : Setup) (producer : ℕ) (begun : List BegunChunk) → AreOwnChunks setup producer begun → held_count begun ≡ 0 → (id : ℕ) → id < length begun
    → (chunk : ℕ) × (content : Content) × At begun id (Completed chunk content) × IsChunkOf setup producer chunk
completed_there setup producer [] own none id inside = absurd (omega (arith, inside))
completed_there setup producer (Held chunk draft ∷ begun) own none id inside = absurd (omega (arith, none))
completed_there setup producer (Completed chunk content ∷ begun) own none zero inside = (chunk, content, refl, own.0)
completed_there setup producer (Completed chunk content ∷ begun) own none (suc id) inside =
    completed_there setup producer begun own.1 none id (omega (arith, inside))

-- the producer's one chunk is the first one
one_range : (writers : List WriterSpec) (specs : List ProducerSpec) → AllZip IsSpecOf (record { pages = 1; page_size = 4096; chunks = 1 } ∷ []) specs
    → ((range_of (setup_of specs writers) 1).first ≡ 0) × ((range_of (setup_of specs writers) 1).count ≡ 1)
one_range writers [] made = absurd made
one_range writers (spec ∷ []) made = (refl, ap (λ (n : ℕ). n * spec.geometry.chunks) made.0.pages ∙ ap (λ (n : ℕ). 1 * n) made.0.chunks)
one_range writers (spec ∷ other ∷ specs) made = absurd made.1

module _ (writers : List WriterSpec) (lines : List NumberedLine) (set_up : IsSetUp (over_one_chunk writers lines).buffers (over_one_chunk writers lines).producers writers)
    (setup : Setup) (world : World) (closed : Bool) (done : HasDoneAll (over_one_chunk writers lines) setup world closed)
    (collected : CollectedByLines setup lines done.stood.service) where
  laid : IsLaid setup
  laid = laid_out (over_one_chunk writers lines) setup done.setup_is set_up

  only_chunk : (chunk : ℕ) → IsChunkOf setup 1 chunk → chunk ≡ 0
  only_chunk chunk is =
      let range = one_range writers done.setup_is.specs done.setup_is.made in
      let first : (range_of setup 1).first ≡ 0 = ap (λ (s : Setup). (range_of s 1).first) done.setup_is.laid ∙ range.0 in
      let count : (range_of setup 1).count ≡ 1 = ap (λ (s : Setup). (range_of s 1).count) done.setup_is.laid ∙ range.1 in
      let below = is.below in omega (arith, first, count, below)

  -- an entry is the completed first chunk
  entry : (place : ℕ) → place < length setup.writers → producer_of setup place ≡ 1 → (id : ℕ) → id < length (writer world place).begun
      → (content : Content) × At (writer world place).begun id (Completed 0 content)
  entry place inside of_one id low =
      let there = completed_there setup (producer_of setup place) (writer world place).begun (done.writers place inside).between.agrees.claims.own_chunks
      (done.writers place inside).none_held id low in
      let is = only_chunk there.0 (subst (λ (n : ℕ). IsChunkOf setup n there.0) of_one there.3) in
      (there.1, subst (λ (n : ℕ). At (writer world place).begun id (Completed n there.1)) is there.2)

  -- no two entries
  one_entry : (place other id more : ℕ) → place < length setup.writers → other < length setup.writers → producer_of setup place ≡ 1 → producer_of setup other ≡ 1
      → may_be_collected setup lines 1 ≡ false → id < length (writer world place).begun → more < length (writer world other).begun
      → (place ≡ other) × (id ≡ more)
  one_entry place other id more inside within of_one to_one none low under =
      let one = entry place inside of_one id low in let two = entry other within to_one more under in
      uses_once (over_one_chunk writers lines) setup world closed done collected place other id more 0 one.0 two.0 inside within
      (ap (may_be_collected setup lines) of_one ∙ none) (ap (may_be_collected setup lines) to_one ∙ none) one.1 two.1

  -- nor two that nobody had taken once the threads were done
  left_entry : (place id more : ℕ) → place < length setup.writers → producer_of setup place ≡ 1 → (taken_of done.stood.service place).count ≤ id
      → (taken_of done.stood.service place).count ≤ more → id < length (writer world place).begun → more < length (writer world place).begun → id ≡ more
  left_entry place id more inside of_one left beside low under =
      let one = entry place inside of_one id low in let two = entry place inside of_one more under in
      (left_are_apart (over_one_chunk writers lines) setup world closed done place place id more 0 one.0 two.0 inside inside left beside one.1 two.1).1

  -- as many chunks were begun as there are pages
  flushed_begun : (place : ℕ) → place < length setup.writers → (flags : List Bool) → AllSet flags
      → map (λ (packet : Packet). packet.follows_flush) (packets_of (writer world place).calls) ≡ flags ++ false ∷ []
      → lost_count (packets_of (writer world place).calls) ≡ 0 → length (flags ++ false ∷ []) ≤ length (writer world place).begun
  flushed_begun place inside flags all is none =
      let packets : List Packet = packets_of (writer world place).calls in
      let own = wrote (over_one_chunk writers lines) setup world closed done laid place inside in
      let pages = pages_begun setup place (writer world place) own in
      let many = fresh_pages _ packets own.cut.cut.pages (whole_fresh packets flags is all none) own.cut.cut.cut in
      let long = ap (λ (bs : List Bool). length bs) is in
      let same = length-map packets (λ (packet : Packet). packet.follows_flush) in
      omega (arith, pages, many, long, same)

  one_begun : (place : ℕ) → place < length setup.writers → map (λ (packet : Packet). packet.follows_flush) (packets_of (writer world place).calls) ≡ false ∷ []
      → lost_count (packets_of (writer world place).calls) ≡ 0 → 1 ≤ length (writer world place).begun
  one_begun place inside flags none =
      let own = wrote (over_one_chunk writers lines) setup world closed done laid place inside in
      let pages = pages_begun setup place (writer world place) own in
      let one = by_packets (packets_of (writer world place).calls) flags none own.cut.cut.cut in
      omega (arith, pages, one)
    where
      by_packets : (packets : List Packet) → map (λ (packet : Packet). packet.follows_flush) packets ≡ false ∷ [] → lost_count packets ≡ 0
          → CutsInto (payload_at setup place) packets (wrote (over_one_chunk writers lines) setup world closed done laid place inside).cut.cut.pages
          → 1 ≤ length (wrote (over_one_chunk writers lines) setup world closed done laid place inside).cut.cut.pages
      by_packets [] is whole cut = absurd (let long = ap (λ (bs : List Bool). length bs) is in omega (arith, long))
      by_packets (packet ∷ older) is whole cut = one_page _ packet older _ whole cut

-- ---- the scenarios

a_writer : (lines : List NumberedLine) → IsWriter (over_one_chunk (dropping ∷ []) lines).buffers (over_one_chunk (dropping ∷ []) lines).producers dropping
unfolding payload_size chunk_size
a_writer lines = record {
  of_producer = record { pages = 1; page_size = 4096; chunks = 1 };
  into_buffer = record { kb = 64; policy = Ring };
  counts_producer = omega arith;
  counts_buffer = omega arith;
  producer_is = refl;
  buffer_is = refl;
  fits = omega arith;
  tries = tt;
}

idle_writer : (lines : List NumberedLine) → IsWriter (over_one_chunk (dropping ∷ []) lines).buffers (over_one_chunk (dropping ∷ []) lines).producers stalling
unfolding payload_size chunk_size
idle_writer lines = record {
  of_producer = record { pages = 1; page_size = 4096; chunks = 1 };
  into_buffer = record { kb = 64; policy = Ring };
  counts_producer = omega arith;
  counts_buffer = omega arith;
  producer_is = refl;
  buffer_is = refl;
  fits = omega arith;
  tries = tt;
}

set_up : (writers : List WriterSpec) (lines : List NumberedLine) → length writers ≤ MAX_WRITERS
    → AllByRecursion (IsWriter (over_one_chunk writers lines).buffers (over_one_chunk writers lines).producers) writers
    → IsSetUp (over_one_chunk writers lines).buffers (over_one_chunk writers lines).producers writers
set_up writers lines few all = record {
  few_buffers = omega arith;
  few_producers = omega arith;
  few_writers = few;
  are_buffers = (record { least = omega arith; most = omega arith }, tt);
  are_producers = (
    record {
      some_pages = omega arith;
      few_pages = omega arith;
      page_size = record { whole = refl; least = omega arith; most = omega arith };
      chunks = (0, omega arith, refl);
    },
    tt,
  );
  are_writers = all;
}

-- where no line asks for a flush, what a writer noted is what was asked of it
asked_all : (scenario : Parts) (setup : Setup) (world : World) → IsRun scenario setup world → requests_in scenario.lines ≡ 0 → (place : ℕ) → place < length setup.writers
    → done_calls (writer world place).calls ≡ calls_asked (suc place) scenario.lines ++ last_flushes
asked_all scenario setup world run none place inside =
    ap done_calls (sym (out_none (writer world place) nobody)) ∙ (run.before.done.writers place inside).asked
  where
    nobody : length (writer world place).letters.answers ≡ 0
    nobody =
        ∥∥₁_elim run.before.done.letters (ℕ_set (length (writer world place).letters.answers) 0)
        (λ (are : AreLetters world). none_answered world place are (run.answered.requests ∙ none))

-- ---- a flush between two packets

flushed_flags : (at : ℕ) (first second : List Shown) → fold flag_after ([], false) (calls_asked 1 (two_packets at first second) ++ last_flushes) ≡ (true ∷ false ∷ [], true)
unfolding line_calls
flushed_flags at first second =
    let one : List Call = Begun true ∷ map node_call first ++ Finished ∷ [] in let two : List Call = Begun true ∷ map node_call second ++ Finished ∷ [] in
    flags_behind (one ++ (Flushed ∷ [] ++ (two ++ []))) last_flushes ([], false) (true ∷ false ∷ [], false)
    (flags_behind one (Flushed ∷ [] ++ (two ++ [])) ([], false) (false ∷ [], false) (packet_flag first ([], false))
    ∙ flags_behind two [] (false ∷ [], true) (true ∷ false ∷ [], false) (packet_flag second (false ∷ [], true)))

-- whichever writers there are beside, where none of them asks for help
flushed_beside : (others : List WriterSpec) (at : ℕ) (first second : List Shown) (setup : Setup) (world : World)
    → IsRun (over_one_chunk (dropping ∷ others) (two_packets at first second)) setup world
    → IsSetUp (over_one_chunk (dropping ∷ others) (two_packets at first second)).buffers (over_one_chunk (dropping ∷ others) (two_packets at first second)).producers (dropping ∷ others)
    → ((specs : List ProducerSpec) → may_be_collected (setup_of specs (dropping ∷ others)) (two_packets at first second) 1 ≡ false)
    → 0 < lost_count (packets_of (writer world 0).calls)
flushed_beside others at first second setup world run fits alone = by_count (cases_eq (lost_count (packets_of (writer world 0).calls)) 0)
  where
    by_count : (lost_count (packets_of (writer world 0).calls) ≡ 0) ⊎ (lost_count (packets_of (writer world 0).calls) ≡ 0 → ⊥)
        → 0 < lost_count (packets_of (writer world 0).calls)
    by_count (inr more) = omega (arith, more)
    by_count (inl none) =
        let done = run.before.done in let lines = two_packets at first second in let writers = dropping ∷ others in
        let laid_is = done.setup_is.laid in
        let inside : 0 < length setup.writers = let many = ap (λ (s : Setup). length s.writers) laid_is in omega (arith, many) in
        let of_one : producer_of setup 0 ≡ 1 = ap (λ (s : Setup). producer_of s 0) laid_is in
        let nobody : may_be_collected setup lines 1 ≡ false = ap (λ (s : Setup). may_be_collected s lines 1) laid_is ∙ alone done.setup_is.specs in
        let flags = flags_are (writer world 0).calls (calls_asked 1 lines ++ last_flushes) (asked_all (over_one_chunk writers lines) setup world run refl 0 inside)
        ∙ ap (λ (f : Flags). f.0) (flushed_flags at first second) in
        let two = flushed_begun writers lines fits setup world _ done (lines_take_at_most.run _ setup world run) 0 inside (true ∷ []) (refl, tt) flags none in
        let same = one_entry writers lines fits setup world _ done (lines_take_at_most.run _ setup world run) 0 0 0 1 inside inside of_one of_one nobody
        (omega (arith, two)) (omega (arith, two)) in
        absurd (let clash = same.1 in omega (arith, clash))

flushed : (first second : List Shown) (setup : Setup) (world : World) → IsRun (flushed_between first second) setup world
    → 0 < lost_count (packets_of (writer world 0).calls)
flushed first second setup world run =
    flushed_beside [] 4 first second setup world run (set_up (dropping ∷ []) (two_packets 4 first second) (omega arith) (a_writer (two_packets 4 first second), tt))
    (λ specs. refl)

idle : (first second : List Shown) (setup : Setup) (world : World) → IsRun (beside_idle first second) setup world
    → 0 < lost_count (packets_of (writer world 0).calls)
idle first second setup world run =
    let lines = two_packets 5 first second in
    flushed_beside (stalling ∷ []) 5 first second setup world run (set_up (dropping ∷ stalling ∷ []) lines (omega arith) (a_writer lines, (idle_writer lines, tt)))
    (λ specs. refl)

-- the first of them is begun: its writer is alone, and the second finds the chunk claimed
first_kept : (first second : List Shown) (setup : Setup) (world : World) → IsRun (flushed_between first second) setup world
    → map (λ (packet : Packet). packet.kept) (packets_of (writer world 0).calls) ≡ false ∷ true ∷ []
unfolding line_calls
first_kept first second setup world run = by_packets (packets_of (writer world 0).calls) refl flags
  where
    inside : 0 < length setup.writers
    inside = let many = ap (λ (s : Setup). length s.writers) run.before.done.setup_is.laid in omega (arith, many)

    of_one : producer_of setup 0 ≡ 1
    of_one = ap (λ (s : Setup). producer_of s 0) run.before.done.setup_is.laid

    nobody : may_be_collected setup (flushed_between first second).lines 1 ≡ false
    nobody = ap (λ (s : Setup). may_be_collected s (flushed_between first second).lines 1) run.before.done.setup_is.laid

    fits : IsSetUp (flushed_between first second).buffers (flushed_between first second).producers (dropping ∷ [])
    fits = set_up (dropping ∷ []) (flushed_between first second).lines (omega arith) (a_writer (flushed_between first second).lines, tt)

    flags : map (λ (packet : Packet). packet.follows_flush) (packets_of (writer world 0).calls) ≡ true ∷ false ∷ []
    flags = flags_are (writer world 0).calls (calls_asked 1 (flushed_between first second).lines ++ last_flushes)
        (asked_all (flushed_between first second) setup world run refl 0 inside)
        ∙ ap (λ (f : Flags). f.0) (flushed_flags 4 first second)

    own : IsChunkOf setup (producer_of setup 0) 0
    own =
        let range = one_range (dropping ∷ []) run.before.done.setup_is.specs run.before.done.setup_is.made in
        let least : (range_of setup 1).first ≡ 0 = ap (λ (s : Setup). (range_of s 1).first) run.before.done.setup_is.laid ∙ range.0 in
        let count : (range_of setup 1).count ≡ 1 = ap (λ (s : Setup). (range_of s 1).count) run.before.done.setup_is.laid ∙ range.1 in
        subst (λ (n : ℕ). IsChunkOf setup n 0) (sym of_one) (record { least = omega (arith, least); below = omega (arith, least, count) })

    begins : BeginsFirst (writer world 0).calls
    begins = begins_first setup world 0 _ (run.before.done.writers 0 inside).vain (asked_all (flushed_between first second) setup world run refl 0 inside)

    kept : begins.kept ≡ true
    kept = begun_first (flushed_between first second) setup world _ run.before.done (lines_take_at_most.run _ setup world run) (laid (dropping ∷ []) (flushed_between first second).lines fits setup world _ run.before.done (lines_take_at_most.run _ setup world run))
        (ap (λ (s : Setup). length s.writers) run.before.done.setup_is.laid) 0 own (ap (may_be_collected setup (flushed_between first second).lines) of_one ∙ nobody) begins

    by_packets : (packets : List Packet) → packets_of (writer world 0).calls ≡ packets
        → map (λ (packet : Packet). packet.follows_flush) (packets_of (writer world 0).calls) ≡ true ∷ false ∷ []
        → map (λ (packet : Packet). packet.kept) (packets_of (writer world 0).calls) ≡ false ∷ true ∷ []
    by_packets [] is flags = absurd (let long = ap (λ (bs : List Bool). length bs) (sym (ap (λ (ps : List Packet). map (λ (packet : Packet). packet.follows_flush) ps) is) ∙ flags) in omega (arith, long))
    by_packets (p ∷ []) is flags = absurd (let long = ap (λ (bs : List Bool). length bs) (sym (ap (λ (ps : List Packet). map (λ (packet : Packet). packet.follows_flush) ps) is) ∙ flags) in omega (arith, long))
    by_packets (p ∷ q ∷ r ∷ packets) is flags = absurd (let long = ap (λ (bs : List Bool). length bs) (sym (ap (λ (ps : List Packet). map (λ (packet : Packet). packet.follows_flush) ps) is) ∙ flags) in omega (arith, long))
    by_packets (p ∷ q ∷ []) is flags =
        ap (λ (ps : List Packet). map (λ (packet : Packet). packet.kept) ps) is
        ∙ ap (λ (b : Bool). b ∷ q.kept ∷ []) (by_kept p.kept refl) ∙ ap (λ (b : Bool). false ∷ b ∷ []) old
      where
        old : q.kept ≡ true
        old = first_of_two (writer world 0).calls begins.more p q (begins.is ∙ ap (λ (b : Bool). Begun b ∷ begins.more) kept) is

        follows : p.follows_flush ≡ true
        follows = ap head_or (sym (ap (λ (ps : List Packet). map (λ (packet : Packet). packet.follows_flush) ps) is) ∙ flags)
          where
            head_or : List Bool → Bool
            head_or [] = false
            head_or (b ∷ bs) = b

        by_kept : (b : Bool) → p.kept ≡ b → p.kept ≡ false
        by_kept false new = new
        by_kept true new =
            let own_cut = wrote (flushed_between first second) setup world _ run.before.done (laid (dropping ∷ []) (flushed_between first second).lines fits setup world _ run.before.done (lines_take_at_most.run _ setup world run)) 0 inside in
            let pages = pages_begun setup 0 (writer world 0) own_cut in
            let two = fresh_pages (payload_at setup 0) (p ∷ q ∷ []) own_cut.cut.cut.pages (new, follows, old)
            (subst (λ (ps : List Packet). CutsInto (payload_at setup 0) ps own_cut.cut.cut.pages) is own_cut.cut.cut.cut) in
            let same = one_entry (dropping ∷ []) (flushed_between first second).lines fits setup world _ run.before.done (lines_take_at_most.run _ setup world run) 0 0 0 1 inside inside of_one of_one nobody
            (omega (arith, two, pages)) (omega (arith, two, pages)) in
            absurd (let clash = same.1 in omega (arith, clash))

-- ---- a packet of each of two writers

each_flags : (number : ℕ) (first second : List Shown) → (number ≡ 1) ⊎ (number ≡ 2)
    → fold flag_after ([], false) (calls_asked number (one_of_each first second).lines ++ last_flushes) ≡ (false ∷ [], true)
unfolding line_calls
each_flags number first second (inl is) =
    let one : List Call = Begun true ∷ map node_call first ++ Finished ∷ [] in
    ap (λ (n : ℕ). fold flag_after ([], false) (calls_asked n (one_of_each first second).lines ++ last_flushes)) is
    ∙ flags_behind (one ++ []) last_flushes ([], false) (false ∷ [], false) (flags_behind one [] ([], false) (false ∷ [], false) (packet_flag first ([], false)))
each_flags number first second (inr is) =
    let two : List Call = Begun true ∷ map node_call second ++ Finished ∷ [] in
    ap (λ (n : ℕ). fold flag_after ([], false) (calls_asked n (one_of_each first second).lines ++ last_flushes)) is
    ∙ flags_behind (two ++ []) last_flushes ([], false) (false ∷ [], false) (flags_behind two [] ([], false) (false ∷ [], false) (packet_flag second ([], false)))

each : (first second : List Shown) (setup : Setup) (world : World) → IsRun (one_of_each first second) setup world
    → 0 < lost_count (packets_of (writer world 0).calls) + lost_count (packets_of (writer world 1).calls)
each first second setup world run = by_count (cases_eq (lost_count (packets_of (writer world 0).calls) + lost_count (packets_of (writer world 1).calls)) 0)
  where
    by_count : (lost_count (packets_of (writer world 0).calls) + lost_count (packets_of (writer world 1).calls) ≡ 0)
        ⊎ (lost_count (packets_of (writer world 0).calls) + lost_count (packets_of (writer world 1).calls) ≡ 0 → ⊥)
        → 0 < lost_count (packets_of (writer world 0).calls) + lost_count (packets_of (writer world 1).calls)
    by_count (inr more) = omega (arith, more)
    by_count (inl none) =
        let done = run.before.done in let lines = (one_of_each first second).lines in let writers = dropping ∷ dropping ∷ [] in
        let laid_is = done.setup_is.laid in
        let inside : 0 < length setup.writers = let many = ap (λ (s : Setup). length s.writers) laid_is in omega (arith, many) in
        let within : 1 < length setup.writers = let many = ap (λ (s : Setup). length s.writers) laid_is in omega (arith, many) in
        let of_one : producer_of setup 0 ≡ 1 = ap (λ (s : Setup). producer_of s 0) laid_is in
        let to_one : producer_of setup 1 ≡ 1 = ap (λ (s : Setup). producer_of s 1) laid_is in
        let nobody : may_be_collected setup lines 1 ≡ false = ap (λ (s : Setup). may_be_collected s lines 1) laid_is in
        let fits = set_up writers lines (omega arith) (a_writer lines, (a_writer lines, tt)) in
        let flags = flags_are (writer world 0).calls (calls_asked 1 lines ++ last_flushes) (asked_all (one_of_each first second) setup world run refl 0 inside)
        ∙ ap (λ (f : Flags). f.0) (each_flags 1 first second (inl refl)) in
        let other_flags = flags_are (writer world 1).calls (calls_asked 2 lines ++ last_flushes) (asked_all (one_of_each first second) setup world run refl 1 within)
        ∙ ap (λ (f : Flags). f.0) (each_flags 2 first second (inr refl)) in
        let one = one_begun writers lines fits setup world _ done (lines_take_at_most.run _ setup world run) 0 inside flags (omega (arith, none)) in
        let other = one_begun writers lines fits setup world _ done (lines_take_at_most.run _ setup world run) 1 within other_flags (omega (arith, none)) in
        let same = one_entry writers lines fits setup world _ done (lines_take_at_most.run _ setup world run) 0 1 0 0 inside within of_one to_one nobody one other in
        absurd (let clash = same.0 in omega (arith, clash))

pub one_chunk_holds_one_packet : OneChunkHoldsOnePacket
one_chunk_holds_one_packet = record { flushed = flushed; first_kept = first_kept; idle = idle; each = each }

-- ---- three packets, and a line that collects

collected_flags : (first second third : List Shown)
    → fold flag_after ([], false) (calls_asked 1 (collected_once first second third).lines ++ last_flushes) ≡ (true ∷ true ∷ false ∷ [], true)
unfolding line_calls
collected_flags first second third =
    let one : List Call = Begun true ∷ map node_call first ++ Finished ∷ [] in let two : List Call = Begun true ∷ map node_call second ++ Finished ∷ [] in
    let three : List Call = Begun true ∷ map node_call third ++ Finished ∷ [] in
    let last : List Call = Flushed ∷ [] ++ (three ++ []) in
    let rest : List Call = Flushed ∷ [] ++ (two ++ last) in
    flags_behind (one ++ rest) last_flushes ([], false) (true ∷ true ∷ false ∷ [], false)
    (flags_behind one rest ([], false) (false ∷ [], false) (packet_flag first ([], false))
    ∙ flags_behind two last (false ∷ [], true) (true ∷ false ∷ [], false) (packet_flag second (false ∷ [], true))
    ∙ flags_behind three [] (true ∷ false ∷ [], true) (true ∷ true ∷ false ∷ [], false) (packet_flag third (true ∷ false ∷ [], true)))

pub one_collect_frees_one_chunk : OneCollectFreesOneChunk
one_collect_frees_one_chunk first second third setup world run = by_count (cases_eq (lost_count (packets_of (writer world 0).calls)) 0)
  where
    by_count : (lost_count (packets_of (writer world 0).calls) ≡ 0) ⊎ (lost_count (packets_of (writer world 0).calls) ≡ 0 → ⊥)
        → 0 < lost_count (packets_of (writer world 0).calls)
    by_count (inr more) = omega (arith, more)
    by_count (inl none) =
        let done = run.before.done in let lines = (collected_once first second third).lines in let writers = dropping ∷ [] in
        let collected = (lines_take_at_most.run _ setup world run) in
        let laid_is = done.setup_is.laid in
        let inside : 0 < length setup.writers = let many = ap (λ (s : Setup). length s.writers) laid_is in omega (arith, many) in
        let of_one : producer_of setup 0 ≡ 1 = ap (λ (s : Setup). producer_of s 0) laid_is in
        let nobody : has_asker setup lines 1 ≡ false = ap (λ (s : Setup). has_asker s lines 1) laid_is in
        let count : (range_of setup 1).count ≡ 1 = ap (λ (s : Setup). (range_of s 1).count) laid_is ∙ (one_range writers done.setup_is.specs done.setup_is.made).1 in
        let times : times_in (producer_of setup 0) (taken_by_lines lines) * (range_of setup (producer_of setup 0)).count ≡ 1 =
        ap (λ (n : ℕ). times_in n (taken_by_lines lines) * (range_of setup n).count) of_one ∙ ap (λ (n : ℕ). 1 * n) count in
        let most = collected 0 inside (ap (has_asker setup lines) of_one ∙ nobody) in
        let fits = set_up writers lines (omega arith) (a_writer lines, tt) in
        let flags = flags_are (writer world 0).calls (calls_asked 1 lines ++ last_flushes) (asked_all (collected_once first second third) setup world run refl 0 inside)
        ∙ ap (λ (f : Flags). f.0) (collected_flags first second third) in
        let three = flushed_begun writers lines fits setup world _ done collected 0 inside (true ∷ true ∷ []) (refl, (refl, tt)) flags none in
        let same = left_entry writers lines fits setup world _ done collected 0 1 2 inside of_one (omega (arith, most, times)) (omega (arith, most, times))
        (omega (arith, three)) (omega (arith, three)) in
        absurd (omega (arith, same))

-- ---- a chunk that is filled again

pub chunks_arrive_in_turn : ChunksArriveInTurn
chunks_arrive_in_turn first second third setup world run more dropped some =
    let done = run.before.done in let lines = (filled_again first second third).lines in let writers = dropping ∷ dropping ∷ [] in
    let collected = (lines_take_at_most.run _ setup world run) in
    let laid_is = done.setup_is.laid in
    let within : 1 < length setup.writers = let many = ap (λ (s : Setup). length s.writers) laid_is in omega (arith, many) in
    let to_one : producer_of setup 1 ≡ 1 = ap (λ (s : Setup). producer_of s 1) laid_is in
    let fits = set_up writers lines (omega arith) (a_writer lines, (a_writer lines, tt)) in
    let range = one_range writers done.setup_is.specs done.setup_is.made in
    let least : (range_of setup 1).first ≡ 0 = ap (λ (s : Setup). (range_of s 1).first) laid_is ∙ range.0 in
    let count : (range_of setup 1).count ≡ 1 = ap (λ (s : Setup). (range_of s 1).count) laid_is ∙ range.1 in
    let own : IsChunkOf setup (producer_of setup 1) 0 =
    subst (λ (n : ℕ). IsChunkOf setup n 0) (sym to_one) (record { least = omega (arith, least); below = omega (arith, least, count) }) in
    waits_until_another_arrives (filled_again first second third) setup world _ done (laid writers lines fits setup world _ done collected) 1 0 within own
    (λ chunk is. only_chunk writers lines fits setup world _ done collected chunk (subst (λ (n : ℕ). IsChunkOf setup n chunk) to_one is))
    more dropped some
