-- What a writer wrote whose packets are all whole: no drop mark, no length that stays open, and a patch for each page that awaits
-- one.
use Rattle.std.proofs.Common.{◌≡◌, ◌∙◌, ℕ, zero, suc, ◌+◌, ◌-◌, ◌<◌, ◌≤◌, ◌⊎◌, Bool, true, false, not, ◌&&◌, ◌||◌, List, [], ◌∷◌, ◌++◌, length, map, drop, reverse, Option, Some, None, refl, sym, ap, subst, arith, inl, inr, append-nil}
use Rattle.std.specs.Prelude.{cond, ◌==◌, slice_get, filter, fold, is_some, nat_lt, nat_le}
use Rattle.std.proofs.Common.{unwrap_or}
use Rattle.std.proofs.lemmas.Option.{slice_get_within}
use Rattle.std.specs.List.{AllZip}
use Rattle.std.proofs.lemmas.Bool.{false≢true, and_parts, eqb-true, eq-eqb, cases_eq, or_left, or_right}
use Rattle.std.proofs.lemmas.List.{reverse-append, reverse-reverse}
use Rattle.trace_model.specs.Calls.{Call, Begun, Number, Bytes, Nested, Ended, GivenUp, Finished, Flushed}
use Rattle.trace_model.specs.Images.{Chunk, Fragment, Patch}
use Rattle.trace_model.specs.Encoding.{number_field, bytes_field}
use Rattle.trace_model.specs.Packets.{Packet, Account, Text, NestedLength, nothing_yet, noted, on_newest, with_more, with_nested, with_nested_ended, given_up_packet, packets_of, kept_of, open_places, open_count, is_writing, newest_is_lost, is_possible, are_possible_after, AreCalls, is_lost}
use Rattle.trace_model.specs.Pages.{Page, chunk_of, patches_of}
use Rattle.trace_model.specs.Sequences.{Cursor, is_among}
use Rattle.trace_model.specs.Row.{Piece, Chain, Whole, Marked, CutOff, Link, Joined, Gap, Stop, Unpatched, joined_to, with_piece, chain_of, place, place_behind, is_last, is_part, chunk_links, row_of, bytes_of}
use Rattle.trace_model.specs.Written.{settled_fragments, settled_chunk, written_slots, written_row, chains_in, chains_of}
use Rattle.trace_model.specs.Sent.{SentPatch, chunk_at, text_of, crosses, sent_for, sent_at_drop, last_chunk, open_in, sent_of, all_sent, open_chunks, as_sent, PatchesAre, AllChunksBelow, Behind, chunks_of, LastsAre, AwaitsAre}
use Rattle.trace_model.specs.Cut.{IsChainOf, FlagsAgree, is_marked_fate, newest_goes_on, CutsInto}
use Rattle.trace_model.proofs.CursorLemmas.{Each, each-append}
use Rattle.delivery_laws.specs.Sheets.{Sheet, sheet_patches}
use Rattle.delivery_laws.specs.Finishing.{AllWhole}
use Rattle.delivery_laws.specs.WriterSheets.{sheet_of, sheets_from, sheets_of}
use Rattle.delivery_laws.proofs.CompleteLemmas.{IsSheetOf, sheet_at, patches_left}
use Rattle.delivery_laws.proofs.CleanRows.{NoneDropped}
use Rattle.delivery_laws.proofs.CalmLemmas.{continues_at, AreWhole}

-- Packets

pub none_goes_on : (packets : List Packet) → AllWhole packets → newest_goes_on packets ≡ false
none_goes_on [] h = refl
none_goes_on (packet ∷ packets) h = ap (λ (b : Bool). not (is_lost packet) && not b) h.2 ∙ and_false (not (is_lost packet))
  where
    and_false : (b : Bool) → (b && false) ≡ false
    and_false true = refl
    and_false false = refl

pub all_kept : (packets : List Packet) → AllWhole packets → kept_of packets ≡ packets
all_kept [] h = refl
all_kept (packet ∷ packets) h =
    ap (λ (b : Bool). cond b (packet ∷ kept_of packets) (kept_of packets)) h.0 ∙ ap (λ (ps : List Packet). packet ∷ ps) (all_kept packets h.3)

-- a finished packet has no open message
abbrev pub FinishedFlat : List Packet → Type 0
FinishedFlat [] = Unit {0}
FinishedFlat (packet ∷ packets) = (packet.finished ≡ true → length packet.text.levels ≡ 1) × FinishedFlat packets

flat_changed : (change : Packet → Packet) (packets : List Packet) (flushed : Bool) → ((packet : Packet) → (change packet).finished ≡ packet.finished)
    → is_writing packets ≡ true → FinishedFlat packets → FinishedFlat (on_newest change (record { packets = packets; flushed = flushed })).packets
flat_changed change [] flushed keeps w h = h
flat_changed change (packet ∷ older) flushed keeps w h =
    ((λ f. absurd (false≢true (sym (writes packet.finished w) ∙ (sym (keeps packet) ∙ f)))), h.1)
  where
    writes : (b : Bool) → not b ≡ true → b ≡ false
    writes true e = absurd (false≢true e)
    writes false e = refl

flat_finished : (packets : List Packet) (flushed : Bool) → (open_count packets == 1) ≡ true → FinishedFlat packets
    → FinishedFlat (noted (record { packets = packets; flushed = flushed }) Finished).packets
flat_finished [] flushed e h = h
flat_finished (packet ∷ older) flushed e h = ((λ f. eqb-true (length packet.text.levels) 1 e), h.1)

flat_noted : (account : Account) (call : Call) → is_possible account.packets call ≡ true → FinishedFlat account.packets → FinishedFlat (noted account call).packets
flat_noted account (Begun kept) p h = ((λ f. absurd (false≢true f)), h)
flat_noted account (Number field value) p h = flat_changed (with_more (number_field field value)) account.packets account.flushed (λ packet. refl) p h
flat_noted account (Bytes field text times) p h = flat_changed (with_more (bytes_field field text times)) account.packets account.flushed (λ packet. refl) p h
flat_noted account (Nested field) p h = flat_changed (with_nested field) account.packets account.flushed (λ packet. refl) p h
flat_noted account Ended p h =
    flat_changed with_nested_ended account.packets account.flushed (λ packet. refl) (and_parts (is_writing account.packets) (not (open_count account.packets == 1)) p).0 h
flat_noted account GivenUp p h =
    flat_changed given_up_packet account.packets account.flushed (λ packet. refl) (and_parts (is_writing account.packets) (not (newest_is_lost account.packets)) p).0 h
flat_noted account Finished p h = flat_finished account.packets account.flushed (and_parts (is_writing account.packets) (open_count account.packets == 1) p).1 h
flat_noted account Flushed p h = h

pub flat_all : (calls : List Call) (account : Account) → are_possible_after account calls ≡ true → FinishedFlat account.packets → FinishedFlat (fold noted account calls).packets
flat_all [] account p h = h
flat_all (call ∷ calls) account p h =
    let parts = and_parts (is_possible account.packets call) (are_possible_after (noted account call) calls) p in
    flat_all calls (noted account call) parts.1 (flat_noted account call parts.0 h)

-- a packet without an open message
abbrev pub IsFlat : Packet → Type 0
IsFlat packet = length packet.text.levels ≡ 1

-- so no length is open at the end
pub none_open : (packets : List Packet) (chains : List Chain) → Each IsFlat packets → open_chunks packets chains ≡ []
none_open [] chains flat = refl
none_open (packet ∷ packets) [] flat = refl
none_open (packet ∷ packets) (chain ∷ chains) flat = by_given packet.given_up
  where
    closed : (levels : List (List ℕ)) → length levels ≡ 1 → open_places levels ≡ []
    closed [] e = refl
    closed (level ∷ []) e = refl
    closed (level ∷ outer ∷ others) e = absurd (omega (arith, e))

    by_given : (given : Option Text) → cond (is_some given) [] (map (chunk_at chain.pieces) (open_in chain.pieces (unwrap_or given packet.text))) ≡ []
    by_given (Some text) = refl
    by_given None =
        ap (λ (places : List ℕ). map (chunk_at chain.pieces) (filter (λ at. nat_le (at + 4) (length (bytes_of chain.pieces))) places)) (closed packet.text.levels flat.0)

whole_flat : (packets : List Packet) → AllWhole packets → FinishedFlat packets → Each IsFlat packets
whole_flat [] w f = tt
whole_flat (packet ∷ packets) w f = (f.0 w.2, whole_flat packets w.3 f.1)

-- Chains without a drop mark

abbrev Unmarked : Chain → Type 0
Unmarked chain = is_marked_fate chain.fate ≡ false

unmarked_zip : (size : ℕ) (packets : List Packet) (chains : List Chain) → AllWhole packets → AllZip (IsChainOf size) packets chains → Each Unmarked chains
unmarked_zip size [] [] w z = tt
unmarked_zip size [] (c ∷ cs) w z = absurd z
unmarked_zip size (p ∷ ps) [] w z = absurd z
unmarked_zip size (p ∷ ps) (c ∷ cs) w z = (z.0.marked ∙ ap (λ (o : Option Text). is_some o) w.1, unmarked_zip size ps cs w.3 z.1)

pub each_reversed : {X : Type 0} (P : X → Type 0) (xs : List X) → Each P xs → Each P (reverse xs)
each_reversed P [] h = tt
each_reversed P (x ∷ xs) h = subst (Each P) (sym (reverse-append (x ∷ []) xs)) (each-append P (reverse xs) (x ∷ []) (each_reversed P xs h.1) (h.0, tt))

unmarked_joined : (chain : Chain) (links : List Link) → Each Unmarked (chains_in (joined_to chain links)) → Each Unmarked (chains_in links)
unmarked_joined chain [] h = tt
unmarked_joined chain (Gap at next lost ∷ links) h = h.1
unmarked_joined chain (Stop at why may ∷ links) h = h.1
unmarked_joined chain (Joined other ∷ links) h = by_head other.headless h
  where
    by_head : (b : Bool) → Each Unmarked (chains_in (cond b
        (Joined (record chain { next = other.next; pieces = chain.pieces ++ other.pieces; awaits = chain.awaits || other.awaits; fate = other.fate }) ∷ links)
        (Joined (record chain { fate = CutOff }) ∷ Joined other ∷ links))) → Each Unmarked (other ∷ chains_in links)
    by_head true h = h
    by_head false h = h.1

unmarked_piece : (piece : Piece) (next : Cursor) (headless awaits : Bool) (links : List Link) → Each Unmarked (chains_in (with_piece piece next headless awaits links))
    → (piece.fragment.dropped ≡ false) × Each Unmarked (chains_in links)
unmarked_piece piece next headless awaits links h = by_drop piece.fragment.dropped refl piece.runs_on h
  where
    by_drop : (d : Bool) → piece.fragment.dropped ≡ d → (r : Bool)
        → Each Unmarked (chains_in (cond (r && not d) (joined_to (record { at = piece.at; next = next; headless = headless; pieces = piece ∷ []; awaits = awaits; fate = cond d Marked Whole }) links)
        (Joined (record { at = piece.at; next = next; headless = headless; pieces = piece ∷ []; awaits = awaits; fate = cond d Marked Whole }) ∷ links)))
        → (piece.fragment.dropped ≡ false) × Each Unmarked (chains_in links)
    by_drop true e true h = absurd (false≢true (sym h.0))
    by_drop true e false h = absurd (false≢true (sym h.0))
    by_drop false e true h = (e, unmarked_joined (record { at = piece.at; next = next; headless = headless; pieces = piece ∷ []; awaits = awaits; fate = Whole }) links h)
    by_drop false e false h = (e, h.1)

unmarked_fragments : (chunk : Chunk) → chunk.awaits ≡ false → (chunk_id : ℕ) (rest : List Link) (fragments : List Fragment) (k : ℕ)
    → Each Unmarked (chains_in (chunk_links false chunk_id chunk k fragments rest)) → NoneDropped fragments × Each Unmarked (chains_in rest)
unmarked_fragments chunk settled chunk_id rest [] k h = (tt, h)
unmarked_fragments chunk settled chunk_id rest (f ∷ fs) k h =
    by_stop ((chunk.awaits && is_last fs) && not false) (ap (λ (b : Bool). (b && is_last fs) && not false) settled) h
    (λ i. unmarked_fragments chunk settled chunk_id rest fs (suc k) i)
  where
    by_stop : (b : Bool) → b ≡ false → Each Unmarked (chains_in (cond b (Stop (place chunk_id k) Unpatched (chunk.continues && (k == 0)) ∷ [])
        (with_piece (record { at = place chunk_id k; fragment = f; runs_on = chunk.runs_on && is_last fs }) (place_behind (is_part false chunk) chunk_id k (is_last fs))
        (chunk.continues && (k == 0)) (chunk.awaits && is_last fs) (chunk_links false chunk_id chunk (suc k) fs rest))))
        → (Each Unmarked (chains_in (chunk_links false chunk_id chunk (suc k) fs rest)) → NoneDropped fs × Each Unmarked (chains_in rest))
        → NoneDropped (f ∷ fs) × Each Unmarked (chains_in rest)
    by_stop true e h n = absurd (false≢true (sym e))
    by_stop false e h n =
        let one = unmarked_piece (record { at = place chunk_id k; fragment = f; runs_on = chunk.runs_on && is_last fs }) (place_behind (is_part false chunk) chunk_id k (is_last fs))
        (chunk.continues && (k == 0)) (chunk.awaits && is_last fs) (chunk_links false chunk_id chunk (suc k) fs rest) h in
        let others = n one.1 in
        ((one.0, others.0), others.1)

-- none of the pages has a drop mark
abbrev AllKept : List Patch → ℕ → List Page → Type 0
AllKept patches chunk_id [] = Unit {0}
AllKept patches chunk_id (page ∷ pages) = NoneDropped (settled_fragments patches chunk_id (chunk_of page).fragments) × AllKept patches (suc chunk_id) pages

pages_kept : (patches : List Patch) (pages : List Page) (chunk_id : ℕ) → Each Unmarked (chains_in (row_of false chunk_id 0 (written_slots patches chunk_id pages))) → AllKept patches chunk_id pages
pages_kept patches [] chunk_id h = tt
pages_kept patches (page ∷ pages) chunk_id h =
    let one = unmarked_fragments (settled_chunk patches chunk_id (chunk_of page)) refl chunk_id (row_of false (suc chunk_id) 0 (written_slots patches (suc chunk_id) pages))
    (settled_fragments patches chunk_id (chunk_of page).fragments) 0 h in
    (one.0, pages_kept patches pages (suc chunk_id) one.1)

kept_at : (patches : List Patch) (pages : List Page) (first place : ℕ) (page : Page) → AllKept patches first pages → slice_get pages place ≡ Some page
    → NoneDropped (settled_fragments patches (first + place) (chunk_of page).fragments)
kept_at patches [] first place page kept get = absurd (cc)
kept_at patches (other ∷ pages) first zero page kept get =
    let same : other ≡ page = cc in
    let at : first ≡ first + 0 = omega arith in
    subst (λ (n : ℕ). NoneDropped (settled_fragments patches n (chunk_of page).fragments)) at
    (subst (λ (p : Page). NoneDropped (settled_fragments patches first (chunk_of p).fragments)) same kept.0)
kept_at patches (other ∷ pages) first (suc place) page kept get =
    let at : suc first + place ≡ first + suc place = omega arith in
    subst (λ (n : ℕ). NoneDropped (settled_fragments patches n (chunk_of page).fragments)) at (kept_at patches pages (suc first) place page kept.1 get)

-- Flags

next_continues : (patches : List Patch) (pages : List Page) (runs_on : Bool) (first place : ℕ) (sheet : Sheet) → FlagsAgree runs_on pages
    → slice_get (sheets_from patches first false pages) place ≡ Some sheet → continues_at (sheets_from patches first false pages) (suc place) ≡ sheet.chunk.runs_on
next_continues patches [] runs_on first place sheet flags get = absurd (cc)
next_continues patches (page ∷ []) runs_on first zero sheet flags get =
    let same : sheet_of patches first false page ≡ sheet = cc in
    ap (λ (s : Sheet). s.chunk.runs_on) same
next_continues patches (page ∷ []) runs_on first (suc place) sheet flags get = absurd (cc)
next_continues patches (page ∷ next ∷ []) runs_on first zero sheet flags get =
    let same : sheet_of patches first page.runs_on page ≡ sheet = cc in
    flags.1.0 ∙ ap (λ (s : Sheet). s.chunk.runs_on) same
next_continues patches (page ∷ next ∷ third ∷ pages) runs_on first zero sheet flags get =
    let same : sheet_of patches first page.runs_on page ≡ sheet = cc in
    flags.1.0 ∙ ap (λ (s : Sheet). s.chunk.runs_on) same
next_continues patches (page ∷ next ∷ pages) runs_on first (suc place) sheet flags get =
    next_continues patches (next ∷ pages) page.runs_on (suc first) place sheet flags.1 get

-- Patches that were sent

abbrev IsIn : SentPatch → List SentPatch → Type 0
IsIn one [] = ⊥
IsIn one (other ∷ others) = (other ≡ one) ⊎ IsIn one others

each_in : (P : SentPatch → Type 0) (one : SentPatch) (xs : List SentPatch) → Each P xs → IsIn one xs → P one
each_in P one [] h i = absurd i
each_in P one (x ∷ xs) h (inl e) = subst P e h.0
each_in P one (x ∷ xs) h (inr i) = each_in P one xs h.1 i

in_filter : (test : SentPatch → Bool) (one : SentPatch) (xs : List SentPatch) → IsIn one xs → test one ≡ true → IsIn one (filter test xs)
in_filter test one [] i t = i
in_filter test one (x ∷ xs) i t = step (test x) refl i (λ j. in_filter test one xs j t)
  where
    step : (b : Bool) → test x ≡ b → IsIn one (x ∷ xs) → (IsIn one xs → IsIn one (filter test xs)) → IsIn one (cond b (x ∷ filter test xs) (filter test xs))
    step true e (inl s) k = inl s
    step true e (inr j) k = inr (k j)
    step false e (inl s) k = absurd (false≢true (sym e ∙ ap test s ∙ t))
    step false e (inr j) k = k j

found_sent : (i : ℕ) (xs : List SentPatch) → is_among i (map (λ (one : SentPatch). one.chunk_id) xs) ≡ true → (one : SentPatch) × IsIn one xs × (one.chunk_id ≡ i)
found_sent i [] h = absurd (false≢true h)
found_sent i (x ∷ xs) h = step (x.chunk_id == i) refl h (found_sent i xs)
  where
    step : (b : Bool) → (x.chunk_id == i) ≡ b → (b || is_among i (map (λ (one : SentPatch). one.chunk_id) xs)) ≡ true
        → (is_among i (map (λ (one : SentPatch). one.chunk_id) xs) ≡ true → (one : SentPatch) × IsIn one xs × (one.chunk_id ≡ i))
        → (one : SentPatch) × IsIn one (x ∷ xs) × (one.chunk_id ≡ i)
    step true e h k = (x, inl refl, eqb-true x.chunk_id i e)
    step false e h k = let more = k h in (more.0, inr more.1, more.2)

brought_in : (by : ℕ) (one : SentPatch) (patches : List Patch) → IsIn one (map (as_sent by) patches) → is_among one.chunk_id (chunks_of patches) ≡ true
brought_in by one [] i = absurd i
brought_in by one (patch ∷ patches) (inl e) =
    or_left (patch.chunk_id == one.chunk_id) (is_among one.chunk_id (chunks_of patches)) (eq-eqb patch.chunk_id one.chunk_id (ap (λ (s : SentPatch). s.chunk_id) e))
brought_in by one (patch ∷ patches) (inr i) = or_right (patch.chunk_id == one.chunk_id) (is_among one.chunk_id (chunks_of patches)) (brought_in by one patches i)

among_append : (i : ℕ) (xs ys : List Patch) → is_among i (chunks_of (xs ++ ys)) ≡ (is_among i (chunks_of xs) || is_among i (chunks_of ys))
among_append i [] ys = refl
among_append i (x ∷ xs) ys = ap (λ (b : Bool). (x.chunk_id == i) || b) (among_append i xs ys) ∙ both (x.chunk_id == i) (is_among i (chunks_of xs)) (is_among i (chunks_of ys))
  where
    both : (a b c : Bool) → (a || (b || c)) ≡ ((a || b) || c)
    both true b c = refl
    both false b c = refl

below_among : (bound i : ℕ) (patches : List Patch) → AllChunksBelow bound patches → is_among i (chunks_of patches) ≡ true → i < bound
below_among bound i [] b h = absurd (false≢true h)
below_among bound i (patch ∷ patches) b h = step (patch.chunk_id == i) refl h (below_among bound i patches b.1)
  where
    step : (x : Bool) → (patch.chunk_id == i) ≡ x → (x || is_among i (chunks_of patches)) ≡ true → (is_among i (chunks_of patches) ≡ true → i < bound) → i < bound
    step true e h k = let same = eqb-true patch.chunk_id i e in let low = b.0 in omega (arith, same, low)
    step false e h k = k h

-- The page by which the patch was sent brings it, and comes behind the chunk that it is for.
record IsBrought (one : SentPatch) (pages : List Page) (place : ℕ) : Type 0 where
  among : is_among one.chunk_id (chunks_of (patches_of (drop place pages))) ≡ true
  behind : one.chunk_id < one.by

brought : (sent : List SentPatch) (one : SentPatch) (pages : List Page) (first place : ℕ) → PatchesAre sent first pages → Behind first pages → IsIn one sent
    → first + place ≤ one.by → one.by < first + length pages → IsBrought one pages place
brought sent one [] first place are behind i low high = absurd (omega (arith, low, high))
brought sent one (page ∷ pages) first (suc place) are behind i low high =
    let rest = brought sent one pages (suc first) place are.1 behind.1 i (omega (arith, low)) (omega (arith, high)) in
    record { among = rest.among; behind = rest.behind }
brought sent one (page ∷ pages) first zero are behind i low high =
    by_place (cases_eq one.by first) (λ l. brought sent one pages (suc first) 0 are.1 behind.1 i l (omega (arith, high)))
  where
    by_place : ((one.by ≡ first) ⊎ (one.by ≡ first → ⊥)) → (suc first + 0 ≤ one.by → IsBrought one pages 0) → IsBrought one (page ∷ pages) 0
    by_place (inl e) rest =
        let there : IsIn one (map (as_sent first) page.patches) =
        subst (IsIn one) (sym are.0) (in_filter (λ (s : SentPatch). s.by == first) one sent i (eq-eqb one.by first e)) in
        let among = brought_in first one page.patches there in
        let below = below_among first one.chunk_id page.patches behind.0 among in
        record {
          among = among_append one.chunk_id page.patches (patches_of pages) ∙ or_left (is_among one.chunk_id (chunks_of page.patches)) (is_among one.chunk_id (chunks_of (patches_of pages))) among;
          behind = omega (arith, e, below);
        }
    by_place (inr d) rest =
        let more = rest (grind (arith, low, d)) in
        record {
          among = among_append one.chunk_id page.patches (patches_of pages) ∙ or_right (is_among one.chunk_id (chunks_of page.patches)) (is_among one.chunk_id (chunks_of (patches_of pages))) (among_all pages more.among);
          behind = more.behind;
        }
      where
        among_all : (pages : List Page) → is_among one.chunk_id (chunks_of (patches_of (drop 0 pages))) ≡ true → is_among one.chunk_id (chunks_of (patches_of pages)) ≡ true
        among_all pages h = h

-- Pieces stand in the pages

abbrev PiecesBelow : ℕ → Chain → Type 0
PiecesBelow bound chain = Each (λ (piece : Piece). piece.at.chunk_id < bound) chain.pieces

below_joined : (bound : ℕ) (chain : Chain) (links : List Link) → PiecesBelow bound chain → Each (PiecesBelow bound) (chains_in links) → Each (PiecesBelow bound) (chains_in (joined_to chain links))
below_joined bound chain [] p h = (p, tt)
below_joined bound chain (Gap at next lost ∷ links) p h = (p, h)
below_joined bound chain (Stop at why may ∷ links) p h = (p, h)
below_joined bound chain (Joined other ∷ links) p h = by_head other.headless
  where
    by_head : (b : Bool) → Each (PiecesBelow bound) (chains_in (cond b
        (Joined (record chain { next = other.next; pieces = chain.pieces ++ other.pieces; awaits = chain.awaits || other.awaits; fate = other.fate }) ∷ links)
        (Joined (record chain { fate = CutOff }) ∷ Joined other ∷ links)))
    by_head true = (each-append (λ (piece : Piece). piece.at.chunk_id < bound) chain.pieces other.pieces p h.0, h.1)
    by_head false = (p, h)

below_fragments : (bound : ℕ) (chunk : Chunk) (chunk_id : ℕ) (rest : List Link) → chunk_id < bound → Each (PiecesBelow bound) (chains_in rest) → (fragments : List Fragment) (k : ℕ)
    → Each (PiecesBelow bound) (chains_in (chunk_links false chunk_id chunk k fragments rest))
below_fragments bound chunk chunk_id rest low h [] k = h
below_fragments bound chunk chunk_id rest low h (f ∷ fs) k = by_stop ((chunk.awaits && is_last fs) && not false) (below_fragments bound chunk chunk_id rest low h fs (suc k))
  where
    by_runs : (b : Bool) (chain : Chain) (links : List Link) → PiecesBelow bound chain → Each (PiecesBelow bound) (chains_in links) → Each (PiecesBelow bound) (chains_in (cond b (joined_to chain links) (Joined chain ∷ links)))
    by_runs true chain links p n = below_joined bound chain links p n
    by_runs false chain links p n = (p, n)

    by_stop : (b : Bool) → Each (PiecesBelow bound) (chains_in (chunk_links false chunk_id chunk (suc k) fs rest))
        → Each (PiecesBelow bound) (chains_in (cond b (Stop (place chunk_id k) Unpatched (chunk.continues && (k == 0)) ∷ [])
        (with_piece (record { at = place chunk_id k; fragment = f; runs_on = chunk.runs_on && is_last fs }) (place_behind (is_part false chunk) chunk_id k (is_last fs))
        (chunk.continues && (k == 0)) (chunk.awaits && is_last fs) (chunk_links false chunk_id chunk (suc k) fs rest))))
    by_stop true n = tt
    by_stop false n = by_runs ((chunk.runs_on && is_last fs) && not f.dropped)
        (chain_of (record { at = place chunk_id k; fragment = f; runs_on = chunk.runs_on && is_last fs }) (place_behind (is_part false chunk) chunk_id k (is_last fs)) (chunk.continues && (k == 0)) (chunk.awaits && is_last fs))
        (chunk_links false chunk_id chunk (suc k) fs rest) (low, tt) n

below_pages : (patches : List Patch) (pages : List Page) (bound chunk_id : ℕ) → chunk_id + length pages ≤ bound
    → Each (PiecesBelow bound) (chains_in (row_of false chunk_id 0 (written_slots patches chunk_id pages)))
below_pages patches [] bound chunk_id low = tt
below_pages patches (page ∷ pages) bound chunk_id low =
    below_fragments bound (settled_chunk patches chunk_id (chunk_of page)) chunk_id (row_of false (suc chunk_id) 0 (written_slots patches (suc chunk_id) pages)) (omega (arith, low))
    (below_pages patches pages bound (suc chunk_id) (omega (arith, low))) (settled_fragments patches chunk_id (chunk_of page).fragments) 0

chunk_below : (bound : ℕ) (pieces : List Piece) (at : ℕ) → 0 < bound → Each (λ (piece : Piece). piece.at.chunk_id < bound) pieces → chunk_at pieces at < bound
chunk_below bound [] at some h = some
chunk_below bound (piece ∷ pieces) at some h = step (nat_lt at (length piece.fragment.bytes)) (chunk_below bound pieces (at - length piece.fragment.bytes) some h.1)
  where
    step : (b : Bool) → chunk_at pieces (at - length piece.fragment.bytes) < bound → cond b piece.at.chunk_id (chunk_at pieces (at - length piece.fragment.bytes)) < bound
    step true k = h.0
    step false k = k

abbrev SentBelow : ℕ → SentPatch → Type 0
SentBelow bound one = one.by < bound

last_below : (bound : ℕ) (pieces : List Piece) → 0 < bound → Each (λ (piece : Piece). piece.at.chunk_id < bound) pieces → last_chunk pieces < bound
last_below bound [] some h = some
last_below bound (piece ∷ []) some h = h.0
last_below bound (piece ∷ next ∷ pieces) some h = last_below bound (next ∷ pieces) some h.1

sent_below : (bound : ℕ) (packets : List Packet) (chains : List Chain) → 0 < bound → Each (PiecesBelow bound) chains → Each (SentBelow bound) (all_sent packets chains)
sent_below bound [] chains some h = tt
sent_below bound (packet ∷ packets) [] some h = tt
sent_below bound (packet ∷ packets) (chain ∷ chains) some h =
    each-append (SentBelow bound) (all_sent packets chains) (sent_of packet chain) (sent_below bound packets chains some h.1)
    (each-append (SentBelow bound) (map (sent_for chain.pieces) (filter (crosses chain.pieces) (text_of packet).closed))
    (cond (is_some packet.given_up) (map (sent_at_drop chain.pieces)
    (filter (λ at. not (chunk_at chain.pieces at == last_chunk chain.pieces)) (open_in chain.pieces (text_of packet)))) [])
    (all_for (filter (crosses chain.pieces) (text_of packet).closed))
    (by_drop (is_some packet.given_up) (filter (λ at. not (chunk_at chain.pieces at == last_chunk chain.pieces)) (open_in chain.pieces (text_of packet)))))
  where
    all_for : (lengths : List NestedLength) → Each (SentBelow bound) (map (sent_for chain.pieces) lengths)
    all_for [] = tt
    all_for (nested ∷ lengths) = (chunk_below bound chain.pieces (nested.at + 3 + nested.size) some h.0, all_for lengths)

    at_drop : (places : List ℕ) → Each (SentBelow bound) (map (sent_at_drop chain.pieces) places)
    at_drop [] = tt
    at_drop (at ∷ places) = (last_below bound chain.pieces some h.0, at_drop places)

    by_drop : (b : Bool) (places : List ℕ) → Each (SentBelow bound) (cond b (map (sent_at_drop chain.pieces) places) [])
    by_drop true places = at_drop places
    by_drop false places = tt

-- Pages that await patches

awaits_at_page : (crossing : List ℕ) (pages : List Page) (first place : ℕ) (page : Page) → AwaitsAre crossing first pages → slice_get pages place ≡ Some page
    → page.awaits ≡ (page.runs_on && is_among (first + place) crossing)
awaits_at_page crossing [] first place page are get = absurd (cc)
awaits_at_page crossing (other ∷ pages) first zero page are get =
    let same : other ≡ page = cc in
    let at : first ≡ first + 0 = omega arith in
    subst (λ (n : ℕ). page.awaits ≡ (page.runs_on && is_among n crossing)) at (subst (λ (p : Page). p.awaits ≡ (p.runs_on && is_among first crossing)) same are.0)
awaits_at_page crossing (other ∷ pages) first (suc place) page are get =
    let at : suc first + place ≡ first + suc place = omega arith in
    subst (λ (n : ℕ). page.awaits ≡ (page.runs_on && is_among n crossing)) at (awaits_at_page crossing pages (suc first) place page are.1 get)

-- Where no length is open, each page that awaits patches gets some, from a page behind it.
pub awaited_are_sent : (size : ℕ) (packets : List Packet) (pages : List Page) → CutsInto size packets pages → open_chunks (kept_of packets) (chains_of pages) ≡ []
    → (i : ℕ) (page : Page) → slice_get pages i ≡ Some page → page.awaits ≡ true → is_among i (chunks_of (patches_of (drop i pages))) ≡ true
awaited_are_sent size packets pages cut closed i page get awaits =
    let low : i < length pages = slice_get_within pages i page get in
    let at : 0 + i ≡ i = omega arith in
    let awaited = awaits_at_page (map (λ (one : SentPatch). one.chunk_id) (all_sent (kept_of packets) (chains_of pages)) ++ open_chunks (kept_of packets) (chains_of pages)) pages 0 i page cut.patches.awaits get in
    let among = (and_parts page.runs_on (is_among (0 + i) (map (λ (one : SentPatch). one.chunk_id) (all_sent (kept_of packets) (chains_of pages)) ++ open_chunks (kept_of packets) (chains_of pages)))
    (sym awaited ∙ awaits)).1 in
    let here : is_among i (map (λ (one : SentPatch). one.chunk_id) (all_sent (kept_of packets) (chains_of pages))) ≡ true =
    sym (ap (is_among i) (ap (λ (ns : List ℕ). map (λ (one : SentPatch). one.chunk_id) (all_sent (kept_of packets) (chains_of pages)) ++ ns) closed
    ∙ append-nil (map (λ (one : SentPatch). one.chunk_id) (all_sent (kept_of packets) (chains_of pages)))))
    ∙ ap (λ (n : ℕ). is_among n (map (λ (one : SentPatch). one.chunk_id) (all_sent (kept_of packets) (chains_of pages)) ++ open_chunks (kept_of packets) (chains_of pages))) (sym at)
    ∙ among in
    let found = found_sent i (all_sent (kept_of packets) (chains_of pages)) here in
    let bounds : Each (SentBelow (length pages)) (all_sent (kept_of packets) (chains_of pages)) =
    sent_below (length pages) (kept_of packets) (chains_of pages) (omega (arith, low))
    (each_reversed (PiecesBelow (length pages)) (chains_in (written_row pages)) (below_pages (patches_of pages) pages (length pages) 0 (omega arith))) in
    let high : found.0.by < length pages = each_in (SentBelow (length pages)) found.0 (all_sent (kept_of packets) (chains_of pages)) bounds found.1 in
    let chunk = found.2 in
    let first = brought (all_sent (kept_of packets) (chains_of pages)) found.0 pages 0 0 cut.patches.sent cut.patches.behind found.1 (omega arith) (omega (arith, high)) in
    let later = first.behind in
    let there = brought (all_sent (kept_of packets) (chains_of pages)) found.0 pages 0 i cut.patches.sent cut.patches.behind found.1 (omega (arith, chunk, later)) (omega (arith, high)) in
    ap (λ (n : ℕ). is_among n (chunks_of (patches_of (drop i pages)))) (sym chunk)
    ∙ there.among

pub sheets_are_whole : (size : ℕ) (calls : List Call) (pages : List Page) → AreCalls calls → CutsInto size (packets_of calls) pages → AllWhole (packets_of calls)
    → AreWhole (sheets_of false pages)
sheets_are_whole size calls pages possible cut w = record {
  kept = λ i sheet get.
      let is = sheet_at (patches_of pages) false pages 0 i sheet get in
      subst NoneDropped (sym is.written) (kept_at (patches_of pages) pages 0 i is.page (pages_kept (patches_of pages) pages 0 unmarked) is.get);
  next = λ i sheet get. next_continues (patches_of pages) pages false 0 i sheet cut.flags get;
  sent = λ i sheet get awaits. sent_for_page i sheet awaits (sheet_at (patches_of pages) false pages 0 i sheet get);
  lasts = subst (LastsAre []) (sym (patches_left (patches_of pages) false pages 0 0)) (subst (λ (ns : List ℕ). LastsAre ns (patches_of pages)) closed cut.patches.lasts);
}
  where
    kept : kept_of (packets_of calls) ≡ packets_of calls
    kept = all_kept (packets_of calls) w

    closed : open_chunks (kept_of (packets_of calls)) (chains_of pages) ≡ []
    closed = ap (λ (ps : List Packet). open_chunks ps (chains_of pages)) kept ∙ none_open (packets_of calls) (chains_of pages) (whole_flat (packets_of calls) w (flat_all calls nothing_yet possible tt))

    unmarked : Each Unmarked (chains_in (written_row pages))
    unmarked = subst (Each Unmarked) (reverse-reverse (chains_in (written_row pages)))
        (each_reversed Unmarked (chains_of pages) (unmarked_zip size (packets_of calls) (chains_of pages) w (subst (λ (ps : List Packet). AllZip (IsChainOf size) ps (chains_of pages)) kept cut.chains)))

    sent_for_page : (i : ℕ) (sheet : Sheet) → sheet.chunk.awaits ≡ true → IsSheetOf (patches_of pages) pages 0 i sheet → is_among i (chunks_of (sheet_patches (drop i (sheets_of false pages)))) ≡ true
    sent_for_page i sheet awaits is =
        ap (λ (ps : List Patch). is_among i (chunks_of ps)) (patches_left (patches_of pages) false pages 0 i)
        ∙ awaited_are_sent size (packets_of calls) pages cut closed i is.page is.get (sym is.awaits ∙ awaits)
