-- Pages that make the same image, and bring the same patches, are the same.
use Rattle.std.proofs.Common.{◌≡◌, ◌∙◌, ℕ, suc, ◌+◌, ◌<◌, Bool, true, false, ◌||◌, List, [], ◌∷◌, ◌++◌, length, map, drop, Some, refl, sym, ap, arith}
use Rattle.std.specs.Prelude.{slice_get}
use Rattle.std.proofs.lemmas.List.{append_cancel_left}
use Rattle.trace_model.specs.Fragments.{drop_size, drop_mark}
use Rattle.trace_model.specs.Images.{Image, Fragment, Patch, has_flag_1, has_flag_2, has_flag_4}
use Rattle.trace_model.specs.Pages.{Page, framed, laid, flags_of, image_of, fragments_from, chunk_of}
use Rattle.trace_model.specs.Cut.{IsWellFormedPage}
use Rattle.trace_model.specs.Reading.{Fragments, reading_of}
use Rattle.world_model.proofs.OwnLemmas.{page_reads, page_continues, flag_2, flag_4}

bytes_back : (at : ℕ) (dropped : Bool) (texts : List (List ℕ)) → map (λ (f : Fragment). f.bytes) (fragments_from at dropped texts) ≡ texts
bytes_back at dropped [] = refl
bytes_back at dropped (text ∷ []) = refl
bytes_back at dropped (text ∷ next ∷ texts) = ap (λ (ts : List (List ℕ)). text ∷ ts) (bytes_back (at + length text + 4) dropped (next ∷ texts))

-- the last one says whether it was dropped
last_dropped : List Fragment → Bool
last_dropped [] = false
last_dropped (f ∷ fs) = f.dropped || last_dropped fs

dropped_back : (at : ℕ) (dropped : Bool) (texts : List (List ℕ)) → 0 < length texts → last_dropped (fragments_from at dropped texts) ≡ dropped
unfolding last_dropped
dropped_back at dropped [] some = absurd (omega (arith, some))
dropped_back at dropped (text ∷ []) some = or_false dropped
  where
    or_false : (b : Bool) → (b || false) ≡ b
    or_false true = refl
    or_false false = refl
dropped_back at dropped (text ∷ next ∷ texts) some = dropped_back (at + length text + 4) dropped (next ∷ texts) (omega arith)

rest_back : (dropped : Bool) (texts : List (List ℕ)) (one other : List ℕ) → laid dropped texts one ≡ laid dropped texts other → one ≡ other
rest_back dropped [] one other e = e
rest_back true (text ∷ []) one other e =
    append_cancel_left text one other (append_cancel_left drop_mark (text ++ one) (text ++ other) e)
rest_back false (text ∷ []) one other e = append_cancel_left (framed text) one other e
rest_back dropped (text ∷ next ∷ texts) one other e =
    rest_back dropped (next ∷ texts) one other (append_cancel_left (framed text) (laid dropped (next ∷ texts) one) (laid dropped (next ∷ texts) other) e)

same_fragments : (one other : List Fragment) → Fragments one ≡ Fragments other → one ≡ other
same_fragments one other e = cc

-- a page of these parts
abbrev made : Bool → Bool → Bool → List (List ℕ) → Bool → List ℕ → List Patch → Page
made continues runs_on awaits fragments dropped rest patches =
    record { continues = continues; runs_on = runs_on; awaits = awaits; fragments = fragments; dropped = dropped; rest = rest; patches = patches }

pub pages_same : (size q i : ℕ) (one other : Page) → size < drop_size → IsWellFormedPage size one → IsWellFormedPage size other → image_of q i one ≡ image_of q i other
    → one.patches ≡ other.patches → one ≡ other
pages_same size q i one other small full also same patches =
    let flags : flags_of one ≡ flags_of other = ap (λ (image : Image). image.flags) same in
    let count : length one.fragments ≡ length other.fragments = ap (λ (image : Image). image.count) same in
    let payload : laid one.dropped one.fragments one.rest ≡ laid other.dropped other.fragments other.rest = ap (λ (image : Image). image.payload) same in
    let reads : (chunk_of one).fragments ≡ (chunk_of other).fragments =
    same_fragments (chunk_of one).fragments (chunk_of other).fragments
    (sym (page_reads size one small full) ∙ ap (λ (n : ℕ). reading_of n (laid one.dropped one.fragments one.rest)) count
    ∙ ap (reading_of (length other.fragments)) payload ∙ page_reads size other small also) in
    let fragments : one.fragments ≡ other.fragments =
    sym (bytes_back 4 one.dropped one.fragments) ∙ ap (map (λ (f : Fragment). f.bytes)) reads ∙ bytes_back 4 other.dropped other.fragments in
    let dropped : one.dropped ≡ other.dropped =
    sym (dropped_back 4 one.dropped one.fragments full.some) ∙ ap last_dropped reads ∙ dropped_back 4 other.dropped other.fragments also.some in
    let rest : one.rest ≡ other.rest =
    rest_back other.dropped other.fragments one.rest other.rest
    (sym (ap (λ (d : Bool). laid d one.fragments one.rest) dropped ∙ ap (λ (fs : List (List ℕ)). laid other.dropped fs one.rest) fragments) ∙ payload) in
    let continues : one.continues ≡ other.continues = sym (page_continues one) ∙ ap has_flag_1 flags ∙ page_continues other in
    let runs_on : one.runs_on ≡ other.runs_on =
    sym (flag_2 one.continues one.runs_on one.awaits) ∙ ap has_flag_2 flags ∙ flag_2 other.continues other.runs_on other.awaits in
    let awaits : one.awaits ≡ other.awaits =
    sym (flag_4 one.continues one.runs_on one.awaits) ∙ ap has_flag_4 flags ∙ flag_4 other.continues other.runs_on other.awaits in
    ap (λ (b : Bool). made b one.runs_on one.awaits one.fragments one.dropped one.rest one.patches) continues
    ∙ ap (λ (b : Bool). made other.continues b one.awaits one.fragments one.dropped one.rest one.patches) runs_on
    ∙ ap (λ (b : Bool). made other.continues other.runs_on b one.fragments one.dropped one.rest one.patches) awaits
    ∙ ap (λ (fs : List (List ℕ)). made other.continues other.runs_on other.awaits fs one.dropped one.rest one.patches) fragments
    ∙ ap (λ (b : Bool). made other.continues other.runs_on other.awaits other.fragments b one.rest one.patches) dropped
    ∙ ap (λ (xs : List ℕ). made other.continues other.runs_on other.awaits other.fragments other.dropped xs one.patches) rest
    ∙ ap (λ (ps : List Patch). made other.continues other.runs_on other.awaits other.fragments other.dropped other.rest ps) patches

-- a list that begins as another one does
pub begins_as : (flushed pages : List Page) → ((i : ℕ) (page : Page) → slice_get flushed i ≡ Some page → slice_get pages i ≡ Some page) → pages ≡ flushed ++ drop (length flushed) pages
begins_as [] pages each = refl
begins_as (page ∷ flushed) [] each = absurd (none (each 0 page refl))
  where
    none : slice_get {X = Page} [] 0 ≡ Some page → ⊥
    none e = cc
begins_as (page ∷ flushed) (first ∷ pages) each =
    let same : first ≡ page = was (each 0 page refl) in
    ap (λ (p : Page). p ∷ pages) same ∙ ap (λ (ps : List Page). page ∷ ps) (begins_as flushed pages (λ i p e. each (suc i) p e))
  where
    was : Some first ≡ Some page → first ≡ page
    was e = cc
