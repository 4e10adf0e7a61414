-- The outcomes that are fixed behind a flush are those of the writer's first packets in the end: more pages begin more chains, behind the first ones.
use Rattle.std.proofs.Common.{◌≡◌, ◌∙◌, ℕ, zero, suc, Bool, true, false, not, ◌&&◌, ◌||◌, List, [], ◌∷◌, ◌++◌, length, map, take, reverse, Option, Some, refl, sym, ap, subst, arith, append_assoc, length-append}
use Rattle.std.specs.Prelude.{cond, ◌==◌, unwrap_or}
use Rattle.std.proofs.lemmas.Bool.{false≢true}
use Rattle.std.proofs.lemmas.List.{reverse-append, length-reverse, length-map}
use Rattle.std.proofs.Math.Seq.{take-append_seam}
use Rattle.std.proofs.lemmas.List.Elements.{filter-append}
use Rattle.trace_model.specs.Calls.{Call, Flushed}
use Rattle.trace_model.specs.Images.{Chunk, Fragment, Patch}
use Rattle.trace_model.specs.Packets.{Packet, packets_of, kept_of, begun_count, AreCalls}
use Rattle.trace_model.specs.Pages.{Page, chunk_of, patches_of}
use Rattle.trace_model.specs.Cut.{IsChainOf, FlagsAgree}
use Rattle.trace_model.specs.Sequences.{Sequence, Cursor}
use Rattle.trace_model.specs.Buffers.{empty_buffer}
use Rattle.trace_model.specs.Row.{Piece, Chain, CutOff, Link, Joined, Gap, Stop, Unpatched, joined_to, with_piece, chain_of, place, place_behind, is_last, is_part, chunk_links, row_of}
use Rattle.trace_model.specs.Written.{settled_fragments, settled_chunk, written_slots, written_row, chains_in, chains_of}
use Rattle.trace_model.specs.Reads.{Dropped, Cut}
use Rattle.trace_model.specs.History.{Event, state_after}
use Rattle.trace_model.specs.Causes.{Outcome, Absent, Fixed, fixed_after, outcome_at}
use Rattle.trace_model.specs.Balance.{outcomes_of, packet_outcomes}
use Rattle.trace_model.proofs.CursorLemmas.{Each}
use Rattle.trace_model.proofs.PageLemmas.{fragments_long, settled_long}
use Rattle.delivery_laws.specs.DeliveryLaws.{IsAccountOf}
use Rattle.delivery_laws.specs.FlushLaws.{fates_of, IsFlushed, EveryOutcomeStays}
use Rattle.delivery_laws.proofs.EnoughLemmas.{zip_long}
use Rattle.delivery_laws.proofs.FlushCalls.{AreBehind, packets_behind}
use Rattle.delivery_laws.proofs.FlushLemmas.{fixed_parts, kept_fates}
use Rattle.delivery_laws.proofs.WrittenPackets.{AreFull, are_full, chains_have_heads}

-- ---- where packets begin, by the pages alone

abbrev CutsIntoFlags : ℕ → List Page → Type 0
CutsIntoFlags size pages = AreFull size pages × FlagsAgree false pages

abbrev own : Bool → Cursor → List Cursor
own headless at = cond headless [] (at ∷ [])

-- where the chains of a row begin that have their start
abbrev heads : List Link → List Cursor
heads [] = []
heads (Joined chain ∷ links) = own chain.headless chain.at ++ heads links
heads (Gap at next lost ∷ links) = heads links
heads (Stop at why may ∷ links) = heads links

heads_joined : (chain : Chain) (links : List Link) → heads (joined_to chain links) ≡ own chain.headless chain.at ++ heads links
heads_joined chain [] = refl
heads_joined chain (Gap at next lost ∷ links) = refl
heads_joined chain (Stop at why may ∷ links) = refl
heads_joined chain (Joined rest ∷ links) = step rest.headless refl
  where
    step : (b : Bool) → rest.headless ≡ b → heads (cond b
        (Joined (record chain { next = rest.next; pieces = chain.pieces ++ rest.pieces; awaits = chain.awaits || rest.awaits; fate = rest.fate }) ∷ links)
        (Joined (record chain { fate = CutOff }) ∷ Joined rest ∷ links)) ≡ own chain.headless chain.at ++ (own rest.headless rest.at ++ heads links)
    step true e = ap (λ (b : Bool). own chain.headless chain.at ++ (own b rest.at ++ heads links)) (sym e)
    step false e = refl

heads_piece : (piece : Piece) (next : Cursor) (headless awaits : Bool) (links : List Link) → heads (with_piece piece next headless awaits links) ≡ own headless piece.at ++ heads links
heads_piece piece next headless awaits links = step (piece.runs_on && not piece.fragment.dropped)
  where
    step : (b : Bool) → heads (cond b (joined_to (chain_of piece next headless awaits) links) (Joined (chain_of piece next headless awaits) ∷ links)) ≡ own headless piece.at ++ heads links
    step true = heads_joined (chain_of piece next headless awaits) links
    step false = refl

-- of so many fragments of a chunk, from this one on
abbrev starts : Bool → ℕ → ℕ → ℕ → List Cursor
starts continues chunk_id passed zero = []
starts continues chunk_id passed (suc count) = own (continues && (passed == 0)) (place chunk_id passed) ++ starts continues chunk_id (suc passed) count

heads_fragments : (chunk : Chunk) → chunk.awaits ≡ false → (chunk_id : ℕ) (rest : List Link) (fragments : List Fragment) (passed : ℕ)
    → heads (chunk_links false chunk_id chunk passed fragments rest) ≡ starts chunk.continues chunk_id passed (length fragments) ++ heads rest
heads_fragments chunk settled chunk_id rest [] passed = refl
heads_fragments chunk settled chunk_id rest (fragment ∷ others) passed =
    by_stop ((chunk.awaits && is_last others) && not false) (ap (λ (b : Bool). (b && is_last others) && not false) settled) (heads_fragments chunk settled chunk_id rest others (suc passed))
  where
    by_stop : (b : Bool) → b ≡ false
        → heads (chunk_links false chunk_id chunk (suc passed) others rest) ≡ starts chunk.continues chunk_id (suc passed) (length others) ++ heads rest
        → heads (cond b (Stop (place chunk_id passed) Unpatched (chunk.continues && (passed == 0)) ∷ [])
        (with_piece (record { at = place chunk_id passed; fragment = fragment; runs_on = chunk.runs_on && is_last others }) (place_behind (is_part false chunk) chunk_id passed (is_last others))
        (chunk.continues && (passed == 0)) (chunk.awaits && is_last others) (chunk_links false chunk_id chunk (suc passed) others rest)))
        ≡ (own (chunk.continues && (passed == 0)) (place chunk_id passed) ++ starts chunk.continues chunk_id (suc passed) (length others)) ++ heads rest
    by_stop true e h = absurd (false≢true (sym e))
    by_stop false e h =
        heads_piece (record { at = place chunk_id passed; fragment = fragment; runs_on = chunk.runs_on && is_last others }) (place_behind (is_part false chunk) chunk_id passed (is_last others))
        (chunk.continues && (passed == 0)) (chunk.awaits && is_last others) (chunk_links false chunk_id chunk (suc passed) others rest)
        ∙ ap (λ (cs : List Cursor). own (chunk.continues && (passed == 0)) (place chunk_id passed) ++ cs) h
        ∙ sym (append_assoc (own (chunk.continues && (passed == 0)) (place chunk_id passed)) (starts chunk.continues chunk_id (suc passed) (length others)) (heads rest))

abbrev page_starts : ℕ → List Page → List Cursor
page_starts first [] = []
page_starts first (page ∷ pages) = starts page.continues first 0 (length page.fragments) ++ page_starts (suc first) pages

heads_pages : (patches : List Patch) (pages : List Page) (first : ℕ) → heads (row_of false first 0 (written_slots patches first pages)) ≡ page_starts first pages
heads_pages patches [] first = refl
heads_pages patches (page ∷ pages) first =
    let long : length (settled_fragments patches first (chunk_of page).fragments) ≡ length page.fragments =
    settled_long patches first (chunk_of page).fragments ∙ fragments_long 4 page.dropped page.fragments in
    heads_fragments (settled_chunk patches first (chunk_of page)) refl first (row_of false (suc first) 0 (written_slots patches (suc first) pages)) (settled_fragments patches first (chunk_of page).fragments) 0
    ∙ ap (λ (n : ℕ). starts page.continues first 0 n ++ heads (row_of false (suc first) 0 (written_slots patches (suc first) pages))) long
    ∙ ap (λ (cs : List Cursor). starts page.continues first 0 (length page.fragments) ++ cs) (heads_pages patches pages (suc first))

starts_parts : (xs ys : List Page) (first : ℕ) → (more : List Cursor) × (page_starts first (xs ++ ys) ≡ page_starts first xs ++ more)
starts_parts [] ys first = (page_starts first ys, refl)
starts_parts (page ∷ xs) ys first =
    let rest = starts_parts xs ys (suc first) in (
      rest.0,
      ap (λ (cs : List Cursor). starts page.continues first 0 (length page.fragments) ++ cs) rest.1
          ∙ sym (append_assoc (starts page.continues first 0 (length page.fragments)) (page_starts (suc first) xs) rest.0),
    )

abbrev places : List Chain → List Cursor
places chains = map (λ (chain : Chain). chain.at) chains

heads_places : (links : List Link) → Each (λ (chain : Chain). chain.headless ≡ false) (chains_in links) → places (chains_in links) ≡ heads links
heads_places [] h = refl
heads_places (Joined chain ∷ links) h =
    ap (λ (cs : List Cursor). chain.at ∷ cs) (heads_places links h.1) ∙ ap (λ (b : Bool). own b chain.at ++ heads links) (sym h.0)
heads_places (Gap at next lost ∷ links) h = heads_places links h
heads_places (Stop at why may ∷ links) h = heads_places links h

map_reversed : (chains : List Chain) → places (reverse chains) ≡ reverse (places chains)
map_reversed [] = refl
map_reversed (chain ∷ chains) =
    ap places (reverse-append (chain ∷ []) chains) ∙ split (reverse chains) ∙ ap (λ (cs : List Cursor). cs ++ chain.at ∷ []) (map_reversed chains) ∙ sym (reverse-append (chain.at ∷ []) (places chains))
  where
    split : (cs : List Chain) → places (cs ++ chain ∷ []) ≡ places cs ++ chain.at ∷ []
    split [] = refl
    split (c ∷ cs) = ap (λ (xs : List Cursor). c.at ∷ xs) (split cs)

-- ---- outcomes, by places

abbrev outcomes_by : List Fixed → List Packet → List Cursor → List Outcome
outcomes_by fixed [] ats = []
outcomes_by fixed (packet ∷ packets) [] = Absent Dropped ∷ outcomes_by fixed packets []
outcomes_by fixed (packet ∷ packets) (at ∷ ats) =
    cond packet.kept (unwrap_or (outcome_at at fixed) (Absent Cut) ∷ outcomes_by fixed packets ats) (Absent Dropped ∷ outcomes_by fixed packets (at ∷ ats))

by_places : (fixed : List Fixed) (packets : List Packet) (chains : List Chain) → outcomes_of fixed packets chains ≡ outcomes_by fixed packets (places chains)
by_places fixed [] chains = refl
by_places fixed (packet ∷ packets) [] = ap (λ (os : List Outcome). Absent Dropped ∷ os) (by_places fixed packets [])
by_places fixed (packet ∷ packets) (chain ∷ chains) =
    ap (λ (os : List Outcome). cond packet.kept (unwrap_or (outcome_at chain.at fixed) (Absent Cut) ∷ os) (Absent Dropped ∷ outcomes_of fixed packets (chain ∷ chains))) (by_places fixed packets chains)
    ∙ ap (λ (os : List Outcome). cond packet.kept (unwrap_or (outcome_at chain.at fixed) (Absent Cut) ∷ outcomes_by fixed packets (places chains)) (Absent Dropped ∷ os)) (by_places fixed packets (chain ∷ chains))

by_parts : (fixed : List Fixed) (newer base : List Packet) (ats bats : List Cursor) → length (kept_of newer) ≡ length ats
    → outcomes_by fixed (newer ++ base) (ats ++ bats) ≡ outcomes_by fixed newer ats ++ outcomes_by fixed base bats
by_parts fixed [] base [] bats long = refl
by_parts fixed [] base (at ∷ ats) bats long = absurd (omega (arith, long))
by_parts fixed (packet ∷ newer) base [] bats long = by_kept packet.kept refl long (λ e. by_parts fixed newer base [] bats e) bats refl
  where
    by_kept : (b : Bool) → packet.kept ≡ b → length (cond b (packet ∷ kept_of newer) (kept_of newer)) ≡ 0
        → (length (kept_of newer) ≡ 0 → outcomes_by fixed (newer ++ base) bats ≡ outcomes_by fixed newer [] ++ outcomes_by fixed base bats)
        → (cs : List Cursor) → bats ≡ cs → outcomes_by fixed (packet ∷ (newer ++ base)) bats ≡ Absent Dropped ∷ (outcomes_by fixed newer [] ++ outcomes_by fixed base bats)
    by_kept true k l rest cs e = absurd (omega (arith, l))
    by_kept false k l rest [] e =
        ap (outcomes_by fixed (packet ∷ (newer ++ base))) e ∙ ap (λ (xs : List Cursor). Absent Dropped ∷ outcomes_by fixed (newer ++ base) xs) (sym e)
        ∙ ap (λ (os : List Outcome). Absent Dropped ∷ os) (rest l)
    by_kept false k l rest (c ∷ cs) e =
        ap (outcomes_by fixed (packet ∷ (newer ++ base))) e
        ∙ ap (λ (b : Bool). cond b (unwrap_or (outcome_at c fixed) (Absent Cut) ∷ outcomes_by fixed (newer ++ base) cs) (Absent Dropped ∷ outcomes_by fixed (newer ++ base) (c ∷ cs))) k
        ∙ ap (λ (xs : List Cursor). Absent Dropped ∷ outcomes_by fixed (newer ++ base) xs) (sym e) ∙ ap (λ (os : List Outcome). Absent Dropped ∷ os) (rest l)
by_parts fixed (packet ∷ newer) base (at ∷ ats) bats long = by_kept packet.kept long (λ e. by_parts fixed newer base ats bats e) (λ e. by_parts fixed newer base (at ∷ ats) bats e)
  where
    by_kept : (b : Bool) → length (cond b (packet ∷ kept_of newer) (kept_of newer)) ≡ suc (length ats)
        → (length (kept_of newer) ≡ length ats → outcomes_by fixed (newer ++ base) (ats ++ bats) ≡ outcomes_by fixed newer ats ++ outcomes_by fixed base bats)
        → (length (kept_of newer) ≡ suc (length ats) → outcomes_by fixed (newer ++ base) (at ∷ (ats ++ bats)) ≡ outcomes_by fixed newer (at ∷ ats) ++ outcomes_by fixed base bats)
        → cond b (unwrap_or (outcome_at at fixed) (Absent Cut) ∷ outcomes_by fixed (newer ++ base) (ats ++ bats)) (Absent Dropped ∷ outcomes_by fixed (newer ++ base) (at ∷ (ats ++ bats)))
        ≡ cond b (unwrap_or (outcome_at at fixed) (Absent Cut) ∷ outcomes_by fixed newer ats) (Absent Dropped ∷ outcomes_by fixed newer (at ∷ ats)) ++ outcomes_by fixed base bats
    by_kept true l one two = ap (λ (os : List Outcome). unwrap_or (outcome_at at fixed) (Absent Cut) ∷ os) (one (omega (arith, l)))
    by_kept false l one two = ap (λ (os : List Outcome). Absent Dropped ∷ os) (two l)

-- where the outcome of each is fixed, these are the outcomes
fates_are : (fixed : List Fixed) (packets : List Packet) (chains : List Chain) (outcomes : List Outcome) → fates_of fixed packets chains ≡ map Some outcomes
    → outcomes_of fixed packets chains ≡ outcomes
fates_are fixed [] chains [] e = refl
fates_are fixed [] chains (outcome ∷ outcomes) e = absurd (cc)
fates_are fixed (packet ∷ packets) [] [] e = absurd (cc)
fates_are fixed (packet ∷ packets) [] (outcome ∷ outcomes) e =
    let first : Absent Dropped ≡ outcome = cc in
    let rest : fates_of fixed packets [] ≡ map Some outcomes = cc in
    ap (λ (o : Outcome). o ∷ outcomes_of fixed packets []) first ∙ ap (λ (os : List Outcome). outcome ∷ os) (fates_are fixed packets [] outcomes rest)
fates_are fixed (packet ∷ packets) (chain ∷ chains) outcomes e =
    by_kept packet.kept outcomes e (λ os f. fates_are fixed packets chains os f) (λ os f. fates_are fixed packets (chain ∷ chains) os f)
  where
    by_kept : (b : Bool) (outcomes : List Outcome)
        → cond b (outcome_at chain.at fixed ∷ fates_of fixed packets chains) (Some (Absent Dropped) ∷ fates_of fixed packets (chain ∷ chains)) ≡ map Some outcomes
        → ((os : List Outcome) → fates_of fixed packets chains ≡ map Some os → outcomes_of fixed packets chains ≡ os)
        → ((os : List Outcome) → fates_of fixed packets (chain ∷ chains) ≡ map Some os → outcomes_of fixed packets (chain ∷ chains) ≡ os)
        → cond b (unwrap_or (outcome_at chain.at fixed) (Absent Cut) ∷ outcomes_of fixed packets chains) (Absent Dropped ∷ outcomes_of fixed packets (chain ∷ chains)) ≡ outcomes
    by_kept true [] e one two = absurd (cc)
    by_kept false [] e one two = absurd (cc)
    by_kept true (outcome ∷ os) e one two =
        let first : outcome_at chain.at fixed ≡ Some outcome = cc in
        let rest : fates_of fixed packets chains ≡ map Some os = cc in
        ap (λ (o : Option Outcome). unwrap_or o (Absent Cut) ∷ outcomes_of fixed packets chains) first ∙ ap (λ (xs : List Outcome). outcome ∷ xs) (one os rest)
    by_kept false (outcome ∷ os) e one two =
        let first : Absent Dropped ≡ outcome = cc in
        let rest : fates_of fixed packets (chain ∷ chains) ≡ map Some os = cc in
        ap (λ (o : Outcome). o ∷ outcomes_of fixed packets (chain ∷ chains)) first ∙ ap (λ (xs : List Outcome). outcome ∷ xs) (two os rest)

by_long : (fixed : List Fixed) (packets : List Packet) (ats : List Cursor) → length (outcomes_by fixed packets ats) ≡ length packets
by_long fixed [] ats = refl
by_long fixed (packet ∷ packets) [] = ap suc (by_long fixed packets [])
by_long fixed (packet ∷ packets) (at ∷ ats) = step packet.kept (by_long fixed packets ats) (by_long fixed packets (at ∷ ats))
  where
    step : (b : Bool) → length (outcomes_by fixed packets ats) ≡ length packets → length (outcomes_by fixed packets (at ∷ ats)) ≡ length packets
        → length (cond b (unwrap_or (outcome_at at fixed) (Absent Cut) ∷ outcomes_by fixed packets ats) (Absent Dropped ∷ outcomes_by fixed packets (at ∷ ats))) ≡ suc (length packets)
    step true h k = ap suc h
    step false h k = ap suc k

-- the chains of pages begin where the pages say
chains_at : (size : ℕ) (pages : List Page) → CutsIntoFlags size pages → places (chains_of pages) ≡ reverse (page_starts 0 pages)
chains_at size pages is =
    map_reversed (chains_in (written_row pages))
    ∙ ap reverse (heads_places (written_row pages) (chains_have_heads size pages is.0 is.1) ∙ heads_pages (patches_of pages) pages 0)

module _ (size : ℕ) (calls : List Call) (pages : List Page) (sequences : List Sequence) (q record_size : ℕ) (events : List Event)
    (account : IsAccountOf size calls pages sequences q record_size events) (before : List Call) (flushed : List Page) (is : IsFlushed size calls pages before flushed) where
  newer : AreBehind (packets_of before) (packets_of (before ++ Flushed ∷ is.behind))
  newer = packets_behind before is.behind (subst AreCalls is.calls_are account.possible)

  more : (more : List Cursor) × (page_starts 0 (flushed ++ is.more) ≡ page_starts 0 flushed ++ more)
  more = starts_parts flushed is.more 0

  packets_are : packets_of calls ≡ newer.newer ++ packets_of before
  packets_are = ap packets_of is.calls_are ∙ newer.are

  chains_are : places (chains_of pages) ≡ reverse more.0 ++ places (chains_of flushed)
  chains_are =
      chains_at size pages (are_full size pages account.cut.full, account.cut.flags)
      ∙ ap (λ (ps : List Page). reverse (page_starts 0 ps)) is.pages_are ∙ ap reverse more.1 ∙ reverse-append (page_starts 0 flushed) more.0
      ∙ ap (λ (cs : List Cursor). reverse more.0 ++ cs) (sym (chains_at size flushed (are_full size flushed is.cut.full, is.cut.flags)))

  long : length (kept_of newer.newer) ≡ length (reverse more.0)
  long =
      let all = zip_long (IsChainOf size) (kept_of (packets_of calls)) (chains_of pages) account.cut.chains in
      let old = zip_long (IsChainOf size) (kept_of (packets_of before)) (chains_of flushed) is.cut.chains in
      let kept = ap (λ (ps : List Packet). length (kept_of ps)) packets_are in
      let split = ap (λ (ps : List Packet). length ps) (filter-append (λ (p : Packet). p.kept) newer.newer (packets_of before)) in
      let sum = length-append (kept_of newer.newer) (kept_of (packets_of before)) in
      let ats = ap (λ (cs : List Cursor). length cs) chains_are in
      let both = length-append (reverse more.0) (places (chains_of flushed)) in
      let one = length-map (chains_of pages) (λ (chain : Chain). chain.at) in
      let two = length-map (chains_of flushed) (λ (chain : Chain). chain.at) in
      omega (arith, all, old, kept, split, sum, ats, both, one, two)

  outcomes_in_parts : (fixed : List Fixed) → outcomes_of fixed (packets_of calls) (chains_of pages)
      ≡ outcomes_by fixed newer.newer (reverse more.0) ++ outcomes_of fixed (packets_of before) (chains_of flushed)
  outcomes_in_parts fixed =
      by_places fixed (packets_of calls) (chains_of pages)
      ∙ ap (λ (ps : List Packet). outcomes_by fixed ps (places (chains_of pages))) packets_are
      ∙ ap (outcomes_by fixed (newer.newer ++ packets_of before)) chains_are
      ∙ by_parts fixed newer.newer (packets_of before) (reverse more.0) (places (chains_of flushed)) long
      ∙ ap (λ (os : List Outcome). outcomes_by fixed newer.newer (reverse more.0) ++ os) (sym (by_places fixed (packets_of before) (chains_of flushed)))

  first_outcomes : (fixed : List Fixed) → take (begun_count before) (packet_outcomes fixed calls pages) ≡ reverse (outcomes_of fixed (packets_of before) (chains_of flushed))
  first_outcomes fixed =
      let newest : List Outcome = outcomes_by fixed newer.newer (reverse more.0) in
      let oldest : List Outcome = outcomes_of fixed (packets_of before) (chains_of flushed) in
      let many : length (reverse oldest) ≡ begun_count before =
      length-reverse oldest ∙ ap (λ (os : List Outcome). length os) (by_places fixed (packets_of before) (chains_of flushed)) ∙ by_long fixed (packets_of before) (places (chains_of flushed)) in
      ap (λ (os : List Outcome). take (begun_count before) (reverse os)) (outcomes_in_parts fixed)
      ∙ ap (take (begun_count before)) (reverse-append newest oldest)
      ∙ ap (λ (n : ℕ). take n (reverse oldest ++ reverse newest)) (sym many)
      ∙ take-append_seam (reverse oldest) (reverse newest)

pub every_outcome_stays : EveryOutcomeStays
every_outcome_stays size calls pages room policy sequences q record_size early later before flushed account is settled =
    let fixed : List Fixed = fixed_after q (empty_buffer room policy sequences) (early ++ later) in
    let still : fates_of fixed (packets_of before) (chains_of flushed) ≡ map Some settled.outcomes =
    ap (λ (fs : List Fixed). fates_of fs (packets_of before) (chains_of flushed)) (fixed_parts q (empty_buffer room policy sequences) early later)
    ∙ kept_fates (fixed_after q (empty_buffer room policy sequences) early) (fixed_after q (state_after (empty_buffer room policy sequences) early) later)
    (packets_of before) (chains_of flushed) settled.outcomes settled.fates in
    first_outcomes size calls pages sequences q record_size (early ++ later) account before flushed is fixed
    ∙ ap reverse (fates_are fixed (packets_of before) (chains_of flushed) settled.outcomes still)
