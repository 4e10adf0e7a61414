-- Whether the last part that was written ends its packet: the last chunk says it.
use Rattle.std.proofs.Common.{◌≡◌, ◌∙◌, ℕ, zero, suc, ◌<◌, Bool, true, false, not, ◌&&◌, List, [], ◌∷◌, ◌++◌, length, drop, refl, sym, ap, subst, arith, append-nil}
use Rattle.std.specs.Prelude.{cond, ◌==◌}
use Rattle.std.proofs.lemmas.Bool.{false≢true}
use Rattle.trace_model.specs.Images.{Fragment, Patch}
use Rattle.trace_model.specs.Pages.{Page}
use Rattle.trace_model.proofs.CursorLemmas.{Each}
use Rattle.delivery_laws.specs.Sheets.{Sheet, Part, SheetsAgree, all_parts, ends_whole, parts_from}
use Rattle.delivery_laws.specs.WriterSheets.{sheets_from}
use Rattle.delivery_laws.proofs.RowWalks.{all_at_start}
use Rattle.delivery_laws.proofs.Walks.{parts_at}
use Rattle.delivery_laws.proofs.WrittenPackets.{LastGoesOn}

-- the last chunk runs on; without chunks, what is said of the one before
abbrev pub last_chunk_runs : Bool → List Sheet → Bool
last_chunk_runs runs_on [] = runs_on
last_chunk_runs runs_on (sheet ∷ sheets) = last_chunk_runs sheet.chunk.runs_on sheets

pub last_is : (patches : List Patch) (goes runs_on : Bool) (page : Page) (pages : List Page) (first : ℕ) → last_chunk_runs runs_on (sheets_from patches first goes (page ∷ pages)) ≡ goes
last_is patches goes runs_on page [] first = refl
last_is patches goes runs_on page (next ∷ pages) first = last_is patches goes page.runs_on next pages (suc first)

-- The parts of a chunk

ends_fragments : (continues runs_on : Bool) (fs : List Fragment) → runs_on ≡ true → LastGoesOn (parts_from continues runs_on fs)
ends_fragments continues runs_on [] e = tt
ends_fragments continues runs_on (f ∷ []) e = ap (λ (b : Bool). not (b && true)) e
ends_fragments continues runs_on (f ∷ g ∷ gs) e = ends_fragments false runs_on (g ∷ gs) e

fragments_end : (continues runs_on : Bool) (fs : List Fragment) → 0 < length (parts_from continues runs_on fs) → LastGoesOn (parts_from continues runs_on fs) → runs_on ≡ true
fragments_end continues runs_on [] some h = absurd (omega (arith, some))
fragments_end continues runs_on (f ∷ []) some h = was runs_on h
  where
    was : (b : Bool) → not (b && true) ≡ false → b ≡ true
    was true h = refl
    was false h = absurd (false≢true (sym h))
fragments_end continues runs_on (f ∷ g ∷ gs) some h = fragments_end false runs_on (g ∷ gs) (omega arith) h

ends_append : (xs ys : List Part) → 0 < length ys → LastGoesOn ys → LastGoesOn (xs ++ ys)
ends_append [] ys some h = h
ends_append (x ∷ []) [] some h = absurd (omega (arith, some))
ends_append (x ∷ []) (y ∷ ys) some h = h
ends_append (x ∷ z ∷ xs) ys some h = ends_append (z ∷ xs) ys some h

append_ends : (xs ys : List Part) → 0 < length ys → LastGoesOn (xs ++ ys) → LastGoesOn ys
append_ends [] ys some h = h
append_ends (x ∷ []) [] some h = absurd (omega (arith, some))
append_ends (x ∷ []) (y ∷ ys) some h = h
append_ends (x ∷ z ∷ xs) ys some h = append_ends (z ∷ xs) ys some h

-- All parts

pub some_parts : (sheet : Sheet) (sheets : List Sheet) (runs_on : Bool) → SheetsAgree runs_on (sheet ∷ sheets) → 0 < length (all_parts (sheet ∷ sheets))
some_parts sheet sheets runs_on agree = long sheet.written agree.1
  where
    long : (fs : List Fragment) → 0 < length fs → 0 < length (parts_from sheet.chunk.continues sheet.chunk.runs_on fs ++ all_parts sheets)
    long [] some = absurd (omega (arith, some))
    long (f ∷ fs) some = omega arith

-- where the last chunk runs on, the last part ends nothing
pub runs_goes : (sheets : List Sheet) (before runs_on : Bool) (chunk_id passed : ℕ) → SheetsAgree before sheets → last_chunk_runs runs_on sheets ≡ true → LastGoesOn (parts_at sheets chunk_id passed)
runs_goes [] before runs_on chunk_id passed agree runs = tt
runs_goes (sheet ∷ []) before runs_on (suc chunk_id) passed agree runs = tt
runs_goes (sheet ∷ next ∷ sheets) before runs_on (suc chunk_id) passed agree runs = runs_goes (next ∷ sheets) sheet.chunk.runs_on sheet.chunk.runs_on chunk_id passed agree.2 runs
runs_goes (sheet ∷ []) before runs_on zero passed agree runs =
    subst LastGoesOn (sym (append-nil (parts_from (sheet.chunk.continues && (passed == 0)) sheet.chunk.runs_on (drop passed sheet.written))))
    (ends_fragments (sheet.chunk.continues && (passed == 0)) sheet.chunk.runs_on (drop passed sheet.written) runs)
runs_goes (sheet ∷ next ∷ sheets) before runs_on zero passed agree runs =
    ends_append (parts_from (sheet.chunk.continues && (passed == 0)) sheet.chunk.runs_on (drop passed sheet.written)) (all_parts (next ∷ sheets))
    (some_parts next sheets sheet.chunk.runs_on agree.2)
    (subst LastGoesOn (all_at_start (next ∷ sheets)) (runs_goes (next ∷ sheets) sheet.chunk.runs_on sheet.chunk.runs_on 0 0 agree.2 runs))

-- and where it ends nothing, the last chunk runs on
pub goes_runs : (sheets : List Sheet) (before runs_on : Bool) (chunk_id passed : ℕ) → SheetsAgree before sheets → 0 < length (parts_at sheets chunk_id passed)
    → LastGoesOn (parts_at sheets chunk_id passed) → last_chunk_runs runs_on sheets ≡ true
goes_runs [] before runs_on chunk_id passed agree some h = absurd (omega (arith, some))
goes_runs (sheet ∷ []) before runs_on (suc chunk_id) passed agree some h = absurd (omega (arith, some))
goes_runs (sheet ∷ next ∷ sheets) before runs_on (suc chunk_id) passed agree some h = goes_runs (next ∷ sheets) sheet.chunk.runs_on sheet.chunk.runs_on chunk_id passed agree.2 some h
goes_runs (sheet ∷ []) before runs_on zero passed agree some h =
    let same : parts_from (sheet.chunk.continues && (passed == 0)) sheet.chunk.runs_on (drop passed sheet.written) ++ []
    ≡ parts_from (sheet.chunk.continues && (passed == 0)) sheet.chunk.runs_on (drop passed sheet.written) = append-nil (parts_from (sheet.chunk.continues && (passed == 0)) sheet.chunk.runs_on (drop passed sheet.written)) in
    fragments_end (sheet.chunk.continues && (passed == 0)) sheet.chunk.runs_on (drop passed sheet.written) (subst (λ (ps : List Part). 0 < length ps) same some) (subst LastGoesOn same h)
goes_runs (sheet ∷ next ∷ sheets) before runs_on zero passed agree some h =
    let more = some_parts next sheets sheet.chunk.runs_on agree.2 in
    let start = all_at_start (next ∷ sheets) in
    goes_runs (next ∷ sheets) sheet.chunk.runs_on sheet.chunk.runs_on 0 0 agree.2 (subst (λ (ps : List Part). 0 < length ps) (sym start) more)
    (subst LastGoesOn (sym start)
    (append_ends (parts_from (sheet.chunk.continues && (passed == 0)) sheet.chunk.runs_on (drop passed sheet.written)) (all_parts (next ∷ sheets)) more h))

none_starts : (part next : Part) (parts : List Part) → LastGoesOn (next ∷ parts) → Each (λ (one : Part). one.starts ≡ false) (next ∷ parts) → ends_whole part (next ∷ parts) ≡ false
none_starts part next [] last none =
    ap (λ (b : Bool). cond b (part.ends && not part.dropped) (next.ends && not next.dropped)) none.0 ∙ ap (λ (b : Bool). b && not next.dropped) last
none_starts part next (other ∷ parts) last none =
    ap (λ (b : Bool). cond b (part.ends && not part.dropped) (ends_whole next (other ∷ parts))) none.0 ∙ none_starts next other parts last none.1

-- Where the last part ends nothing, and no packet begins in these parts, the packet before them isn't whole.
pub none_ends : (part : Part) (parts : List Part) → part.ends ≡ false → LastGoesOn parts → Each (λ (one : Part). one.starts ≡ false) parts → ends_whole part parts ≡ false
none_ends part [] e last none = ap (λ (b : Bool). b && not part.dropped) e
none_ends part (next ∷ parts) e last none = none_starts part next parts last none
