-- What commits bring at most: a record for each, with no more fragments than a count can say.
use Rattle.std.proofs.Common.{◌≡◌, ◌∙◌, ℕ, zero, suc, ◌+◌, ◌-◌, ◌*◌, ◌≤◌, max, Bool, true, false, not, ◌&&◌, List, [], ◌∷◌, ◌++◌, length, drop, map, Option, Some, None, refl, sym, ap, subst, arith, suc-mul, length-append}
use Rattle.std.specs.Prelude.{cond, ◌==◌, filter}
use Rattle.std.specs.List.{list_any}
use Rattle.std.proofs.lemmas.List.{length-map}
use Rattle.std.proofs.lemmas.List.Sums.{count_by-le-length, length-filter}
use Rattle.trace_base.specs.declared.limits.TheConstants.{MAX_FRAGMENTS}
use Rattle.trace_model.specs.Arrivals.{Arrived, Kept, Rewritten, Duplicate, Discarded, TooFar, BadChunk, arrival_of, discarded_buffer, image_arrival_of, once_read, settled, with_arrival, with_image}
use Rattle.trace_model.specs.Buffers.{Buffer, BufferRecord, is_of, meets}
use Rattle.trace_model.specs.History.{Event, Arrives, ArrivesInPart, Patched, Committed, Closed, Read, after, buffer_after, state_after}
use Rattle.trace_model.specs.Images.{Chunk, Fragment, Image, Patch, complete_chunk, last_holds, whole_chunk}
use Rattle.trace_model.specs.Patches.{awaits_at, closed_buffer, patched_chunk, with_patch, with_patches}
use Rattle.trace_model.specs.Reading.{Reading, Fragments, Unreadable, behind, fragment_end, fragment_of, read_on, reading_from, reading_of, size_of}
use Rattle.trace_model.specs.Sequences.{Sequence, is_known, sequence_in}
use Rattle.trace_model.proofs.CursorLemmas.{Each, each-append, each-filter, each-map}
use Rattle.trace_model.proofs.PageLemmas.{same_long}
use Rattle.trace_model.proofs.ShapeLemmas.{Shape, known_shapes, shapes, shapes_event}
use Rattle.delivery_laws.specs.Room.{asked, asks, is_placing}
use Rattle.commit_laws.specs.Commits.{AreByCommits}
use Rattle.commit_laws.specs.Complete.{commits_to, largest_record}

-- a payload reads as so many fragments as its count says
from_long : (left number at : ℕ) (bytes : List ℕ) (fragments : List Fragment) → reading_from left number at bytes ≡ Fragments fragments → length fragments ≡ left
from_long zero number at bytes fragments e =
    let none : [] ≡ fragments = cc in
    ap (λ (fs : List Fragment). length fs) (sym none)
from_long (suc left) number at bytes fragments e =
    by_first (fragment_of (left == 0) at bytes (size_of 4 bytes))
    (λ (fragment : Fragment) (fs : List Fragment) (h : reading_from left (suc number) (fragment_end fragment) (drop (fragment_end fragment - at) bytes) ≡ Fragments fs).
    from_long left (suc number) (fragment_end fragment) (drop (fragment_end fragment - at) bytes) fs h) e
  where
    by_first : (o : Option Fragment)
        → ((fragment : Fragment) (fs : List Fragment) → reading_from left (suc number) (fragment_end fragment) (drop (fragment_end fragment - at) bytes) ≡ Fragments fs → length fs ≡ left)
        → read_on number (λ fragment. reading_from left (suc number) (fragment_end fragment) (drop (fragment_end fragment - at) bytes)) o ≡ Fragments fragments
        → length fragments ≡ suc left
    by_first None rest e = absurd (cc)
    by_first (Some fragment) rest e = by_others (reading_from left (suc number) (fragment_end fragment) (drop (fragment_end fragment - at) bytes)) (rest fragment) e
      where
        by_others : (r : Reading) → ((fs : List Fragment) → r ≡ Fragments fs → length fs ≡ left) → behind fragment r ≡ Fragments fragments → length fragments ≡ suc left
        by_others (Unreadable n) rest e = absurd (cc)
        by_others (Fragments fs) rest e =
            let same : fragment ∷ fs ≡ fragments = cc in
            sym (ap (λ (xs : List Fragment). length xs) same) ∙ ap suc (rest fs refl)

reading_long : (count : ℕ) (payload : List ℕ) (fragments : List Fragment) → reading_of count payload ≡ Fragments fragments → length fragments ≡ count
reading_long zero payload fragments e = absurd (cc)
reading_long (suc more) payload fragments e = from_long (suc more) 0 0 payload fragments e

-- The records of a buffer

abbrev IsShort : BufferRecord → Type 0
IsShort r = length r.chunk.fragments ≤ MAX_FRAGMENTS

-- so many records at most, none longer than a count can say
pub record IsSmall (most : ℕ) (live : List BufferRecord) : Type 0 where
  pub few : length live ≤ most
  pub short : Each (λ (r : BufferRecord). length r.chunk.fragments ≤ MAX_FRAGMENTS) live

small_more : (n m : ℕ) (live : List BufferRecord) → n ≤ m → IsSmall n live → IsSmall m live
small_more n m live low is = let few = is.few in record { few = omega (arith, few, low); short = is.short }

small_map : (n : ℕ) (live : List BufferRecord) (change : BufferRecord → BufferRecord) → ((r : BufferRecord) → IsShort r → IsShort (change r)) → IsSmall n live → IsSmall n (map change live)
small_map n live change keeps is =
    let few = is.few in
    let long = length-map live change in
    record { few = omega (arith, few, long); short = each-map IsShort IsShort change keeps live is.short }

small_settled : (o : Arrived) (n : ℕ) (b : Buffer) (q i : ℕ) (chunk : Chunk) → length chunk.fragments ≤ MAX_FRAGMENTS → IsSmall n b.live → IsSmall (suc n) (settled o b q i chunk).live
small_settled Kept n b q i chunk short is =
    let few = is.few in
    let kept : List BufferRecord = filter (λ stored. not (meets b (sequence_in b.sequences q).size stored)) b.live in
    let new : List BufferRecord = _ ∷ [] in
    let long = length-append kept new in
    let count = length-filter (λ (stored : BufferRecord). not (meets b (sequence_in b.sequences q).size stored)) b.live in
    let less = count_by-le-length (λ (stored : BufferRecord). not (meets b (sequence_in b.sequences q).size stored)) b.live in
    record {
      few = omega (arith, few, long, count, less);
      short = each-append IsShort kept new (each-filter IsShort (λ (stored : BufferRecord). not (meets b (sequence_in b.sequences q).size stored)) b.live is.short) (short, tt);
    }
small_settled Rewritten n b q i chunk short is =
    small_more n (suc n) _ (omega arith)
    (small_map n b.live (λ stored. cond (is_of q i stored) (record stored { chunk = chunk }) stored) (λ r h. step (is_of q i r) r h) is)
  where
    step : (x : Bool) (r : BufferRecord) → IsShort r → IsShort (cond x (record r { chunk = chunk }) r)
    step true r h = short
    step false r h = h
small_settled Discarded n b q i chunk short is = by_part chunk.partial
  where
    by_part : (x : Bool) → IsSmall (suc n) (cond x (record b { shut = true }) (discarded_buffer b q i chunk)).live
    by_part true = small_more n (suc n) b.live (omega arith) is
    by_part false = small_more n (suc n) b.live (omega arith) is
small_settled Duplicate n b q i chunk short is = small_more n (suc n) b.live (omega arith) is
small_settled TooFar n b q i chunk short is = small_more n (suc n) b.live (omega arith) is
small_settled (BadChunk fragment) n b q i chunk short is = small_more n (suc n) b.live (omega arith) is

small_patches : (n : ℕ) (patches : List Patch) (b : Buffer) (q : ℕ) → IsSmall n b.live → IsSmall n (with_patches b q patches).live
small_patches n [] b q is = is
small_patches n (patch ∷ patches) b q is =
    small_patches n patches (with_patch b q patch) q
    (small_map n b.live
    (λ stored. cond (awaits_at q patch.chunk_id stored && last_holds stored.chunk.fragments patch) (record stored { chunk = patched_chunk patch stored.chunk }) stored)
    (λ r h. step (awaits_at q patch.chunk_id r && last_holds r.chunk.fragments patch) r h) is)
  where
    step : (x : Bool) (r : BufferRecord) → IsShort r → IsShort (cond x (record r { chunk = patched_chunk patch r.chunk }) r)
    step true r h = let same = same_long r.chunk.fragments patch in omega (arith, h, same)
    step false r h = h

small_commit : (n : ℕ) (b : Buffer) (image : Image) (patches : List Patch) → image.count ≤ MAX_FRAGMENTS → IsSmall n b.live → IsSmall (suc n) (after b (Committed image patches)).live
small_commit n b image patches short is = small_patches (suc n) patches (with_image b image) image.sequence (by_reading (reading_of image.count image.payload) refl)
  where
    by_reading : (r : Reading) → reading_of image.count image.payload ≡ r → IsSmall (suc n) (once_read b (with_arrival b image.sequence image.chunk_id) image.flags r).live
    by_reading (Unreadable number) e = small_more n (suc n) b.live (omega arith) is
    by_reading (Fragments fragments) e =
        let long = reading_long image.count image.payload fragments e in
        small_settled (arrival_of b image.sequence image.chunk_id) n b image.sequence image.chunk_id (complete_chunk (whole_chunk image.flags fragments)) (omega (arith, long, short)) is

pub small_read : (n : ℕ) (b : Buffer) (q limit : ℕ) → IsSmall n b.live → IsSmall n (buffer_after b (Read q limit)).live
small_read n b q limit is = step (is_known b.sequences q)
  where
    step : (x : Bool) → IsSmall n (cond x (after b (Read q limit)) b).live
    step true = is
    step false = is

-- Histories

module _ (ss : List Sequence) where
  abbrev Same : Buffer → Type 0
  Same b = shapes false b.sequences ≡ shapes false ss

  known_is : (b : Buffer) (q : ℕ) → Same b → is_known b.sequences q ≡ is_known ss q
  known_is b q same = known_shapes false b.sequences q ∙ ap (λ (xs : List Shape). list_any (λ (s : Shape). s.number == q) xs) same ∙ sym (known_shapes false ss q)

  abbrev largest_of : List Shape → ℕ
  largest_of [] = 0
  largest_of (shape ∷ others) = max shape.size (largest_of others)

  largest_is : (xs : List Sequence) → largest_record xs ≡ largest_of (shapes false xs)
  largest_is [] = refl
  largest_is (x ∷ xs) = ap (λ (n : ℕ). max x.size n) (largest_is xs)

  size_low : (xs : List Sequence) (q : ℕ) → (sequence_in xs q).size ≤ largest_record xs
  size_low [] q = omega arith
  size_low (x ∷ xs) q = by_first (x.number == q) (size_low xs q)
    where
      by_first : (b : Bool) → (sequence_in xs q).size ≤ largest_record xs → (cond b x (sequence_in xs q)).size ≤ max x.size (largest_record xs)
      by_first true rest = omega arith
      by_first false rest = omega (arith, rest)

  one_asks : (b : Buffer) (image : Image) (patches : List Patch) → Same b → asks b (Committed image patches) ≤ largest_record ss
  one_asks b image patches same =
      let low = size_low b.sequences image.sequence in
      let one = largest_is b.sequences in
      let two = largest_is ss in
      let three = ap largest_of same in
      let less = step (is_placing (image_arrival_of b image)) in
      omega (arith, low, one, two, three, less)
    where
      step : (x : Bool) → cond x (sequence_in b.sequences image.sequence).size 0 ≤ (sequence_in b.sequences image.sequence).size
      step true = omega arith
      step false = omega arith

  nothing : (x : Bool) → cond {A = ℕ} x 0 0 ≡ 0
  nothing true = refl
  nothing false = refl

  pub asked_most : (events : List Event) (b : Buffer) → Same b → AreByCommits events → asked b events ≤ commits_to ss events * largest_record ss
  asked_most [] b same by = omega arith
  asked_most (Arrives q i chunk ∷ events) b same by = absurd by
  asked_most (ArrivesInPart q i chunk ∷ events) b same by = absurd by
  asked_most (Patched q patches ∷ events) b same by = absurd by
  asked_most (Closed q ∷ events) b same by =
      let rest = asked_most events (buffer_after b (Closed q)) (shapes_event b (Closed q) ∙ same) by in
      let none = nothing (is_known b.sequences q) in
      omega (arith, rest, none)
  asked_most (Read q limit ∷ events) b same by =
      let rest = asked_most events (buffer_after b (Read q limit)) (shapes_event b (Read q limit) ∙ same) by in
      let none = nothing (is_known b.sequences q) in
      omega (arith, rest, none)
  asked_most (Committed image patches ∷ events) b same by =
      by_known (is_known b.sequences image.sequence) (known_is b image.sequence same)
      (asked_most events (buffer_after b (Committed image patches)) (shapes_event b (Committed image patches) ∙ same) by.1)
    where
      by_known : (x : Bool) → x ≡ is_known ss image.sequence → asked (buffer_after b (Committed image patches)) events ≤ commits_to ss events * largest_record ss
          → cond {A = ℕ} x (asks b (Committed image patches)) 0 + asked (buffer_after b (Committed image patches)) events
          ≤ (cond {A = ℕ} (is_known ss image.sequence) 1 0 + commits_to ss events) * largest_record ss
      by_known true e rest =
          let low = one_asks b image patches same in
          let product = suc-mul (commits_to ss events) (largest_record ss) in
          subst (λ (x : Bool). asks b (Committed image patches) + asked (buffer_after b (Committed image patches)) events ≤ (cond {A = ℕ} x 1 0 + commits_to ss events) * largest_record ss) e
          (let one : 1 + commits_to ss events ≡ suc (commits_to ss events) = omega arith in
          subst (λ (n : ℕ). asks b (Committed image patches) + asked (buffer_after b (Committed image patches)) events ≤ n * largest_record ss) (sym one)
          (omega (arith, low, rest, product)))
      by_known false e rest =
          subst (λ (x : Bool). 0 + asked (buffer_after b (Committed image patches)) events ≤ (cond {A = ℕ} x 1 0 + commits_to ss events) * largest_record ss) e
          (let one : 0 + commits_to ss events ≡ commits_to ss events = omega arith in
          subst (λ (n : ℕ). 0 + asked (buffer_after b (Committed image patches)) events ≤ n * largest_record ss) (sym one) (omega (arith, rest)))

  pub small_after : (events : List Event) (n : ℕ) (b : Buffer) → Same b → AreByCommits events → IsSmall n b.live → IsSmall (n + commits_to ss events) (state_after b events).live
  small_after [] n b same by is = small_more n (n + 0) b.live (omega arith) is
  small_after (Arrives q i chunk ∷ events) n b same by is = absurd by
  small_after (ArrivesInPart q i chunk ∷ events) n b same by is = absurd by
  small_after (Patched q patches ∷ events) n b same by is = absurd by
  small_after (Closed q ∷ events) n b same by is =
      small_after events n (buffer_after b (Closed q)) (shapes_event b (Closed q) ∙ same) by (step (is_known b.sequences q))
    where
      closes : (x : Bool) → IsSmall n (cond x b (closed_buffer b q)).live
      closes true = is
      closes false = is

      step : (x : Bool) → IsSmall n (cond x (after b (Closed q)) b).live
      step true = closes (sequence_in b.sequences q).closed
      step false = is
  small_after (Read q limit ∷ events) n b same by is = small_after events n (buffer_after b (Read q limit)) (shapes_event b (Read q limit) ∙ same) by (small_read n b q limit is)
  small_after (Committed image patches ∷ events) n b same by is =
      let more = small_after events (n + cond {A = ℕ} (is_known ss image.sequence) 1 0) (buffer_after b (Committed image patches)) (shapes_event b (Committed image patches) ∙ same) by.1
      (step (is_known b.sequences image.sequence) (known_is b image.sequence same)) in
      let sum : n + cond {A = ℕ} (is_known ss image.sequence) 1 0 + commits_to ss events ≡ n + (cond {A = ℕ} (is_known ss image.sequence) 1 0 + commits_to ss events) = omega arith in
      subst (λ (m : ℕ). IsSmall m (state_after (buffer_after b (Committed image patches)) events).live) sum more
    where
      step : (x : Bool) → x ≡ is_known ss image.sequence → IsSmall (n + cond {A = ℕ} (is_known ss image.sequence) 1 0) (cond x (after b (Committed image patches)) b).live
      step true e =
          subst (λ (x : Bool). IsSmall (n + cond {A = ℕ} x 1 0) (after b (Committed image patches)).live) e
          (small_more (suc n) (n + 1) _ (omega arith) (small_commit n b image patches by.0 is))
      step false e = small_more n (n + cond {A = ℕ} (is_known ss image.sequence) 1 0) b.live (omega arith) is

  -- Parts of a history

  pub commits_split : (before later : List Event) → commits_to ss (before ++ later) ≡ commits_to ss before + commits_to ss later
  commits_split [] later = omega arith
  commits_split (Arrives q i chunk ∷ before) later = commits_split before later
  commits_split (ArrivesInPart q i chunk ∷ before) later = commits_split before later
  commits_split (Patched q patches ∷ before) later = commits_split before later
  commits_split (Closed q ∷ before) later = commits_split before later
  commits_split (Read q limit ∷ before) later = commits_split before later
  commits_split (Committed image patches ∷ before) later = let rest = commits_split before later in omega (arith, rest)

pub by_before : (before later : List Event) → AreByCommits (before ++ later) → AreByCommits before
by_before [] later by = tt
by_before (Arrives q i chunk ∷ before) later by = absurd by
by_before (ArrivesInPart q i chunk ∷ before) later by = absurd by
by_before (Patched q patches ∷ before) later by = absurd by
by_before (Closed q ∷ before) later by = by_before before later by
by_before (Read q limit ∷ before) later by = by_before before later by
by_before (Committed image patches ∷ before) later by = (by.0, by_before before later by.1)
