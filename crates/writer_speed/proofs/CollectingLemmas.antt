-- A collector's steps.
use Rattle.std.proofs.Common.{◌≡◌, ◌∙◌, ℕ, Bool, Option, if◌then◌else◌, ◌+◌, ◌<◌, ◌≤◌, List, [], ◌∷◌, ◌++◌, length, set, get_or, refl, sym, ap, subst, arith}
use Rattle.std.proofs.lemmas.Bool.{eq-eqb}
use Rattle.chunk_plain.specs.declared.setup.ChunkRange.{ChunkRange}
use Rattle.chunk_plain.specs.Setup.{Setup, from_of}
use Rattle.chunk_plain.specs.Views.{Content, Found, Noted, ServiceView, Taken, none_taken}
use Rattle.chunk_plain.specs.Steps.{without, looks_at, takes_in, learns, notes, lets_go}
use Rattle.chunk_plain.specs.Words.{AllArrived}
use Rattle.chunk_plain.proofs.ArrivedLemmas.{arrived_alike}
use Rattle.chunk_plain.specs.Meaning.{IsWriterStep, Meaning}
use Rattle.writer_speed.specs.Collecting.{IsCollecting}

-- The first writer's row

first_more : (rows : List Taken) (content : Content) → 0 < length rows
    → let counted : Taken = record (get_or rows 0 none_taken) { count = (get_or rows 0 none_taken).count + 1 } in
    let once = set rows 0 counted in
    let twice = set once 0 (record (get_or once 0 none_taken) { contents = (get_or once 0 none_taken).contents ++ content ∷ [] }) in
    (0 < length twice) × ((get_or twice 0 none_taken).count ≡ (get_or rows 0 none_taken).count + 1)
first_more [] content some = absurd (omega (arith, some))
first_more (row ∷ rows) content some = (omega arith, refl)

-- the chunk that was taken is let go
none_left : (reading : List ℕ) (chunk freed : ℕ) → reading ≡ [] → freed ≡ chunk → without freed (reading ++ chunk ∷ []) ≡ []
none_left reading chunk freed none same =
    ap (λ (xs : List ℕ). without freed (xs ++ chunk ∷ [])) none ∙ ap (λ (b : Bool). if b then [] else chunk ∷ []) (eq-eqb chunk freed (sym same))

module _ {T W S : Type 0} (means : Meaning T W S) where
  -- nothing is taken
  pub collects_still : (old : T) (before : S) (new : T) (after : S) (range : ChunkRange) (taken : ℕ) → IsCollecting means old before range taken
      → means.serves new after → means.setup new ≡ means.setup old → (means.service_view new after).taken ≡ (means.service_view old before).taken
      → (means.service_view new after).reading ≡ (means.service_view old before).reading
      → (means.service_view new after).events ≡ (means.service_view old before).events → IsCollecting means new after range taken
  collects_still old before new after range taken was seat_is same rows reading events = record {
    seat_is = seat_is;
    writers = subst (λ (s : Setup). 1 ≤ length s.writers) (sym same) was.writers;
    chunks = subst (λ (s : Setup). range.first + range.count ≤ length s.spots) (sym same) was.chunks;
    listed = subst (λ (l : List Taken). 0 < length l) (sym rows) was.listed;
    none_out = reading ∙ was.none_out;
    arrived = arrived_alike (means.service_view old before) (means.service_view new after) rows events was.arrived;
    from = ap (λ (s : Setup). from_of s 0) same ∙ was.from;
    count = was.count ∙ ap (λ (l : List Taken). (get_or l 0 none_taken).count) (sym rows);
  }

  -- a writer does something
  pub collects_beside : (old : T) (writer : W) (new : T) (behind : W) (seat : S) (range : ChunkRange) (taken : ℕ) → IsWriterStep means old writer new behind
      → IsCollecting means old seat range taken → IsCollecting means new seat range taken
  collects_beside old writer new behind seat range taken step was =
      let stays = step.service_stays seat was.seat_is in
      collects_still old seat new seat range taken was stays.0 step.setup_stays (ap (λ (s : ServiceView). s.taken) stays.1) (ap (λ (s : ServiceView). s.reading) stays.1)
      (ap (λ (s : ServiceView). s.events) stays.1)

  -- a chunk is taken, noted to have arrived, and let go
  pub collects_one : (old : T) (before : S) (new : T) (after : S) (range : ChunkRange) (taken : ℕ) → IsCollecting means old before range taken
      → means.serves new after → means.setup new ≡ means.setup old → (mid : ServiceView) (chunk word header freed : ℕ) (found : Option Found) (content : Content) (note : Noted)
      → mid ≡ learns (takes_in (looks_at (means.service_view old before) chunk word header found) 0 chunk) 0 content → freed ≡ chunk
      → means.service_view new after ≡ lets_go (notes mid note) freed → AllArrived (means.service_view new after)
      → IsCollecting means new after range (taken + 1)
  collects_one old before new after range taken was seat_is same mid chunk word header freed found content note took freed_same freed_is arrived =
      let rows = ap (λ (s : ServiceView). s.taken) freed_is ∙ ap (λ (s : ServiceView). s.taken) took in
      let more = first_more (means.service_view old before).taken content was.listed in
      record {
        seat_is = seat_is;
        writers = subst (λ (s : Setup). 1 ≤ length s.writers) (sym same) was.writers;
        chunks = subst (λ (s : Setup). range.first + range.count ≤ length s.spots) (sym same) was.chunks;
        listed = subst (λ (l : List Taken). 0 < length l) (sym rows) more.0;
        none_out = ap (λ (s : ServiceView). s.reading) freed_is ∙ ap (λ (s : ServiceView). without freed s.reading) took
            ∙ none_left (means.service_view old before).reading chunk freed was.none_out freed_same;
        arrived = arrived;
        from = ap (λ (s : Setup). from_of s 0) same ∙ was.from;
        count = ap (λ (n : ℕ). n + 1) was.count ∙ sym more.1 ∙ ap (λ (l : List Taken). (get_or l 0 none_taken).count) (sym rows);
      }
