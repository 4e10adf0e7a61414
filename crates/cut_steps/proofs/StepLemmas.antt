-- What each step of a writer needs: where its packet begins, how its fragments end, which pages there are.
use Rattle.std.proofs.Common.{◌≡◌, ◌∙◌, ℕ, ◌+◌, ◌<◌, ◌≤◌, ◌⊎◌, Bool, true, false, not, ◌&&◌, ◌||◌, List, [], ◌∷◌, ◌++◌, length, map, refl, sym, ap, subst, arith, append_assoc, length-append, inl, inr}
use Rattle.std.specs.Prelude.{◌==◌, nat_lt, IsTrue}
use Rattle.std.proofs.lemmas.List.{map-append}
use Rattle.std.proofs.lemmas.Bool.{cond-true, and_parts, and_from, or_cases, or_left, or_right, eq-eqb, lt-ltb}
use Rattle.trace_model.specs.Packets.{Packet, NestedLength, open_places, written}
use Rattle.trace_model.specs.Pages.{Page}
use Rattle.trace_model.specs.Sequences.{is_among, Cursor}
use Rattle.trace_model.specs.Row.{Piece, Chain, bytes_of}
use Rattle.trace_model.specs.Cut.{FlagsAgree, last_runs_on, left_behind, ends_well, all_end_well, begins_chunk, begins_well, is_same, is_fresh}
use Rattle.cut_steps.specs.RawChains.{start_of}
use Rattle.cut_steps.specs.Pieces.{BeginsAt}
use Rattle.cut_steps.specs.Pending.{AllEndWithin}
use Rattle.cut_steps.proofs.Marks.{is_among-append}

-- Where a packet begins

-- a later piece of the packet, or more bytes in its first one, change nothing
pub begins_at-grown : (a : List Piece) (q r : Piece) (first offset : ℕ) → q.at.chunk_id ≡ r.at.chunk_id → q.fragment.offset ≡ r.fragment.offset
    → BeginsAt first offset (a ++ q ∷ []) → BeginsAt first offset (a ++ r ∷ [])
begins_at-grown [] q r first offset chunk place begins = (sym chunk ∙ begins.0, sym place ∙ begins.1)
begins_at-grown (piece ∷ a) q r first offset chunk place begins = begins

pub begins_at-more : (a more : List Piece) (first offset : ℕ) → BeginsAt first offset a → BeginsAt first offset (a ++ more)
begins_at-more [] more first offset begins = absurd begins
begins_at-more (piece ∷ a) more first offset begins = begins

pub start_of-same : (a : List Piece) (q r : Piece) → q.at ≡ r.at → start_of a q ≡ start_of a r
start_of-same [] q r same = same
start_of-same (piece ∷ a) q r same = refl

pub start_of-run : (a : List Piece) (q ended next : Piece) → q.at ≡ ended.at → start_of a q ≡ start_of (a ++ ended ∷ []) next
start_of-run [] q ended next same = same
start_of-run (piece ∷ a) q ended next same = refl

begins_well-kept : (size : ℕ) (packet : Packet) (older : List Packet) (chain : Chain) (chains : List Chain) → packet.kept ≡ true
    → begins_well size packet older (chain ∷ chains) ≡ is_same (begins_chunk chain) (is_fresh size packet.follows_flush older chains)
begins_well-kept size packet older chain chains kept =
    cond-true packet.kept (is_same (begins_chunk chain) (is_fresh size packet.follows_flush older chains)) (is_fresh size packet.follows_flush older (chain ∷ chains)) kept

pub begins_well-same : (size : ℕ) (packet other : Packet) (older : List Packet) (chain next : Chain) (chains : List Chain) → packet.kept ≡ true → other.kept ≡ true
    → packet.follows_flush ≡ other.follows_flush → chain.at ≡ next.at → IsTrue (begins_well size packet older (chain ∷ chains))
    → IsTrue (begins_well size other older (next ∷ chains))
begins_well-same size packet other older chain next chains kept also flush same begins =
    begins_well-kept size other older next chains also
    ∙ ap (λ (b : Bool). is_same (begins_chunk next) (is_fresh size b older chains)) (sym flush)
    ∙ ap (λ (at : Cursor). is_same (at.passed == 0) (is_fresh size packet.follows_flush older chains)) (sym same)
    ∙ sym (begins_well-kept size packet older chain chains kept)
    ∙ begins

-- Closed lengths

pub within-more : (closed : List NestedLength) (low high : ℕ) → low ≤ high → AllEndWithin low closed → AllEndWithin high closed
within-more [] low high h within = tt
within-more (nested ∷ closed) low high h within = (omega (arith, within.0, h), within-more closed low high h within.1)

pub within-one : (closed : List NestedLength) (nested : NestedLength) (count : ℕ) → AllEndWithin count closed → nested.at + 3 + nested.size < count
    → AllEndWithin count (closed ++ nested ∷ [])
within-one [] nested count within last = (last, tt)
within-one (one ∷ closed) nested count within last = (within.0, within-one closed nested count within.1 last)

pub open_places-written : (bytes : List ℕ) (levels : List (List ℕ)) → open_places (written bytes levels) ≡ open_places levels
open_places-written bytes [] = refl
open_places-written bytes (level ∷ []) = refl
open_places-written bytes (level ∷ outer ∷ others) = refl

-- How fragments end

or_mono : (a b c d e : Bool) → (a || (b || (c && d))) ≡ true → (d ≡ true → e ≡ true) → (a || (b || (c && e))) ≡ true
or_mono true b c d e h k = refl
or_mono false true c d e h k = refl
or_mono false false true d e h k = k h
or_mono false false false d e h k = h

-- more places where a length may come
pub all_end_well-more : (pieces : List Piece) (size : ℕ) (a b : List ℕ) (at : ℕ) → ((n : ℕ) → IsTrue (is_among n a) → IsTrue (is_among n b))
    → IsTrue (all_end_well size a at pieces) → IsTrue (all_end_well size b at pieces)
all_end_well-more [] size a b at more ends = refl
all_end_well-more (piece ∷ pieces) size a b at more ends =
    let end : ℕ = at + length piece.fragment.bytes in
    let parts = and_parts (ends_well size a end piece) (all_end_well size a end pieces) ends in
    and_from (ends_well size b end piece) (all_end_well size b end pieces)
    (or_mono (not piece.runs_on) (left_behind size piece == 0) (nat_lt (left_behind size piece) 4) (is_among end a) (is_among end b) parts.0 (more end))
    (all_end_well-more pieces size a b end more parts.1)

-- one piece more
pub all_end_well-one : (pieces : List Piece) (size : ℕ) (lengths : List ℕ) (at : ℕ) (piece : Piece) → IsTrue (all_end_well size lengths at pieces)
    → IsTrue (ends_well size lengths (at + length (bytes_of pieces) + length piece.fragment.bytes) piece)
    → IsTrue (all_end_well size lengths at (pieces ++ piece ∷ []))
all_end_well-one [] size lengths at piece ends last =
    let place : at + 0 + length piece.fragment.bytes ≡ at + length piece.fragment.bytes = omega arith in
    and_from (ends_well size lengths (at + length piece.fragment.bytes) piece) true
    (subst (λ (n : ℕ). IsTrue (ends_well size lengths n piece)) place last) refl
all_end_well-one (one ∷ pieces) size lengths at piece ends last =
    let end : ℕ = at + length one.fragment.bytes in
    let parts = and_parts (ends_well size lengths end one) (all_end_well size lengths end pieces) ends in
    let place : at + length (bytes_of (one ∷ pieces)) + length piece.fragment.bytes ≡ end + length (bytes_of pieces) + length piece.fragment.bytes =
    omega (arith, length-append one.fragment.bytes (bytes_of pieces)) in
    and_from (ends_well size lengths end one) (all_end_well size lengths end (pieces ++ piece ∷ [])) parts.0
    (all_end_well-one pieces size lengths end piece parts.1 (subst (λ (n : ℕ). IsTrue (ends_well size lengths n piece)) place last))

pub ends_well-from : (size : ℕ) (lengths : List ℕ) (end : ℕ) (piece : Piece)
    → (left_behind size piece ≡ 0) ⊎ ((left_behind size piece < 4) × IsTrue (is_among end lengths)) → IsTrue (ends_well size lengths end piece)
ends_well-from size lengths end piece (inl none) =
    or_right (not piece.runs_on) ((left_behind size piece == 0) || (nat_lt (left_behind size piece) 4 && is_among end lengths))
    (or_left (left_behind size piece == 0) (nat_lt (left_behind size piece) 4 && is_among end lengths) (eq-eqb (left_behind size piece) 0 none))
ends_well-from size lengths end piece (inr few) =
    or_right (not piece.runs_on) ((left_behind size piece == 0) || (nat_lt (left_behind size piece) 4 && is_among end lengths))
    (or_right (left_behind size piece == 0) (nat_lt (left_behind size piece) 4 && is_among end lengths)
    (and_from (nat_lt (left_behind size piece) 4) (is_among end lengths) (lt-ltb (left_behind size piece) 4 few.0) few.1))

pub is_among-of_append : (n : ℕ) (xs ys : List ℕ) → IsTrue (is_among n (xs ++ ys)) → IsTrue (is_among n xs) ⊎ IsTrue (is_among n ys)
is_among-of_append n xs ys among = or_cases (is_among n xs) (is_among n ys) (sym (is_among-append n xs ys) ∙ among)

pub is_among-left : (n : ℕ) (xs ys : List ℕ) → IsTrue (is_among n xs) → IsTrue (is_among n (xs ++ ys))
is_among-left n xs ys among = is_among-append n xs ys ∙ or_left (is_among n xs) (is_among n ys) among

pub is_among-right : (n : ℕ) (xs ys : List ℕ) → IsTrue (is_among n ys) → IsTrue (is_among n (xs ++ ys))
is_among-right n xs ys among = is_among-append n xs ys ∙ or_right (is_among n xs) (is_among n ys) among

-- the length that was to come is there
pub came : (n : ℕ) (coming closed : List ℕ) (place : ℕ) (places : List ℕ) → (IsTrue (is_among n coming) → n ≡ place)
    → IsTrue (is_among n (coming ++ (closed ++ places))) → IsTrue (is_among n (closed ++ place ∷ places))
came n coming closed place places only among = elim (is_among-of_append n coming (closed ++ places) among) [
  | inl first ↦ is_among-right n closed (place ∷ places) (or_left (place == n) (is_among n places) (eq-eqb place n (sym (only first))))
  | inr rest ↦ elim (is_among-of_append n closed places rest) [
    | inl before ↦ is_among-left n closed (place ∷ places) before
    | inr behind ↦ is_among-right n closed (place ∷ places) (or_right (place == n) (is_among n places) behind)
  ]
]

-- the places of all lengths don't change as a message ends
pub length_places-ended : (closed : List NestedLength) (nested : NestedLength) (places : List ℕ)
    → map (λ (one : NestedLength). one.at) (closed ++ nested ∷ []) ++ places ≡ map (λ (one : NestedLength). one.at) closed ++ nested.at ∷ places
length_places-ended closed nested places =
    ap (λ (xs : List ℕ). xs ++ places) (map-append (λ (one : NestedLength). one.at) closed (nested ∷ []))
    ∙ append_assoc (map (λ (one : NestedLength). one.at) closed) (nested.at ∷ []) places

-- Pages

pub flags-one : (pages : List Page) (runs_on : Bool) (page : Page) → FlagsAgree runs_on pages → page.continues ≡ last_runs_on runs_on pages → FlagsAgree runs_on (pages ++ page ∷ [])
flags-one [] runs_on page flags continues = (continues, tt)
flags-one (one ∷ pages) runs_on page flags continues = (flags.0, flags-one pages one.runs_on page flags.1 continues)

pub last_runs_on-one : (pages : List Page) (runs_on : Bool) (page : Page) → last_runs_on runs_on (pages ++ page ∷ []) ≡ page.runs_on
last_runs_on-one [] runs_on page = refl
last_runs_on-one (one ∷ pages) runs_on page = last_runs_on-one pages one.runs_on page
