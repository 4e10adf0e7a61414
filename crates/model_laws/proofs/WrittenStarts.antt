-- Where a packet of the pages begins, a chain of the row of what was written does.
use Rattle.std.proofs.Common.{◌≡◌, ◌∙◌, ℕ, zero, suc, ◌+◌, ◌<◌, Bool, true, false, ◌&&◌, ◌||◌, List, [], ◌∷◌, reverse, length, refl, ap, subst, arith, inl, inr, Some}
use Rattle.std.specs.Prelude.{◌==◌, slice_get}
use Rattle.std.specs.List.{list_any}
use Rattle.std.proofs.lemmas.Bool.{and_from, eq-eqb, or_left, or_right, false≢true}
use Rattle.std.proofs.lemmas.List.{reverse-append}
use Rattle.std.proofs.lemmas.List.Folds.{list_any-append}
use Rattle.trace_model.specs.Images.{Chunk, Patch}
use Rattle.trace_model.specs.Pages.{Page, chunk_of, patches_of}
use Rattle.trace_model.specs.Sequences.{Cursor}
use Rattle.trace_model.specs.Row.{Chain, Link, Joined, Gap, Stop, place, row_of}
use Rattle.trace_model.specs.Written.{settled_chunk, written_slots, written_row, chains_in, chains_of}
use Rattle.trace_model.specs.Causes.{Fixed, is_same_place}
use Rattle.trace_model.proofs.PageLemmas.{settled_long, fragments_long}
use Rattle.model_laws.specs.Starts.{begins_one, AllBegin}
use Rattle.model_laws.proofs.StartLemmas.{IsStart, AtStarts}
use Rattle.model_laws.proofs.StartedRows.{Started, chunk_keeps, chunk_starts}

-- no place counts at which the row stops
abbrev NoStop : Cursor → Cursor → Type 0
NoStop here at = ⊥

-- a chain that has its start begins at the place
abbrev HasHead : Cursor → List Link → Type 0
HasHead at links = Started NoStop at links

-- Pages

pages_head : (patches : List Patch) (pages : List Page) (first n k : ℕ) (page : Page) → slice_get pages n ≡ Some page → k < length page.fragments
    → (page.continues && (k == 0)) ≡ false → HasHead (place (first + n) k) (row_of false first 0 (written_slots patches first pages))
pages_head patches [] first n k page found within begins = absurd (cc)
pages_head patches (one ∷ pages) first zero k page found within begins =
    let same : one ≡ page = cc in
    let chunk : Chunk = settled_chunk patches first (chunk_of one) in
    let long : length chunk.fragments ≡ length page.fragments =
    settled_long patches first (chunk_of one).fragments ∙ fragments_long 4 one.dropped one.fragments ∙ ap (λ (p : Page). length p.fragments) same in
    subst (λ (m : ℕ). HasHead (place m k) (row_of false first 0 (written_slots patches first (one ∷ pages)))) (omega arith)
    (chunk_starts NoStop false first chunk (row_of false (suc first) 0 (written_slots patches (suc first) pages)) k chunk.fragments 0 (omega arith) (omega (arith, within, long))
    (ap (λ (p : Page). p.continues && (k == 0)) same ∙ begins) (λ p below awaits. false≢true awaits))
pages_head patches (one ∷ pages) first (suc n) k page found within begins =
    let chunk : Chunk = settled_chunk patches first (chunk_of one) in
    subst (λ (m : ℕ). HasHead (place m k) (row_of false first 0 (written_slots patches first (one ∷ pages)))) (omega arith)
    (chunk_keeps NoStop false first chunk (row_of false (suc first) 0 (written_slots patches (suc first) pages)) (place (suc first + n) k) chunk.fragments 0
    (λ p below awaits. false≢true awaits) (pages_head patches pages (suc first) n k page found within begins))

-- Chains

head_begins : (at : Cursor) (links : List Link) → HasHead at links → begins_one (chains_in links) at ≡ true
head_begins at [] h = absurd h
head_begins at (Joined chain ∷ links) (inl here) =
    or_left (is_same_place chain.at at) (begins_one (chains_in links) at)
    (and_from (chain.at.chunk_id == at.chunk_id) (chain.at.passed == at.passed)
    (eq-eqb chain.at.chunk_id at.chunk_id (ap (λ (c : Cursor). c.chunk_id) here.0)) (eq-eqb chain.at.passed at.passed (ap (λ (c : Cursor). c.passed) here.0)))
head_begins at (Joined chain ∷ links) (inr there) = or_right (is_same_place chain.at at) (begins_one (chains_in links) at) (head_begins at links there)
head_begins at (Gap here next lost ∷ links) h = head_begins at links h
head_begins at (Stop here why may ∷ links) h = absurd h

-- the order of chains doesn't matter
pub any_reversed : {X : Type 0} (test : X → Bool) (xs : List X) → list_any test (reverse xs) ≡ list_any test xs
any_reversed test [] = refl
any_reversed {X = X} test (x ∷ xs) =
    ap (list_any test) (reverse-append (x ∷ []) xs)
    ∙ list_any-append test (reverse xs) (x ∷ [])
    ∙ ap (λ (b : Bool). b || (test x || false)) (any_reversed test xs)
    ∙ turned (list_any test xs) (test x)
  where
    turned : (a b : Bool) → (a || (b || false)) ≡ (b || a)
    turned true true = refl
    turned true false = refl
    turned false true = refl
    turned false false = refl

pub start_begins : (pages : List Page) (at : Cursor) → IsStart pages at → begins_one (chains_of pages) at ≡ true
start_begins pages at start =
    any_reversed (λ (chain : Chain). is_same_place chain.at at) (chains_in (written_row pages))
    ∙ head_begins at (written_row pages)
    (subst (λ (m : ℕ). HasHead (place m at.passed) (written_row pages)) (omega arith)
    (pages_head (patches_of pages) pages 0 at.chunk_id at.passed start.page start.there start.inside start.begins))

pub all_begin : (pages : List Page) (fixed : List Fixed) → AtStarts pages fixed → AllBegin (chains_of pages) fixed
all_begin pages [] h = tt
all_begin pages (one ∷ others) h = (start_begins pages one.at h.0, all_begin pages others h.1)
