-- The patches of the bodies from a page on complete it: so a writer's chunks, in order, make a legal history.
use Rattle.std.proofs.Common.{◌≡◌, ◌∙◌, ℕ, zero, suc, ◌+◌, ◌-◌, ◌<◌, ◌≤◌, Bool, true, false, not, ◌&&◌, ◌||◌, List, [], ◌∷◌, ◌++◌, length, drop, take, Option, Some, refl, sym, ap, subst, arith, length-append, length-take, length-drop, append_assoc}
use Rattle.std.specs.Prelude.{cond, ◌==◌, slice_get, nat_le, MatchBool, IsTrue}
use Rattle.std.specs.List.{list_all}
use Rattle.std.proofs.lemmas.Bool.{false≢true, eqb-true, ne_eqb, and_parts, leb-true, or_left}
use Rattle.std.proofs.lemmas.List.Folds.{list_all-append}
use Rattle.trace_model.specs.Images.{Fragment, Patch, with_bytes, holds_patch, patched_fragment, last_holds, patched_last}
use Rattle.trace_model.specs.Fading.{ShowFragments}
use Rattle.trace_model.specs.Pages.{Page, chunk_of, patches_of}
use Rattle.trace_model.specs.Written.{settled_fragments}
use Rattle.trace_model.specs.Sequences.{is_among}
use Rattle.trace_model.specs.Sent.{AllChunksBelow, Behind, chunks_of, LastsAre, is_placed_in, is_placed}
use Rattle.trace_model.specs.Cut.{IsWellFormedPage}
use Rattle.trace_model.proofs.PageLemmas.{fragments_long}
use Rattle.delivery_laws.specs.Sheets.{Sheet, sheet_patches}
use Rattle.delivery_laws.specs.Histories.{Completes}
use Rattle.delivery_laws.specs.WriterSheets.{sheet_of, sheets_from, sheets_of}
use Rattle.delivery_laws.proofs.WrittenPackets.{AreFull}

-- Patches keep their places

with_long : (old : List ℕ) (at : ℕ) (bytes : List ℕ) → length bytes ≡ 4 → at + 4 ≤ length old → length (with_bytes old at bytes) ≡ length old
with_long old at bytes four low =
    let whole = length-append (take at old) (bytes ++ drop (at + length bytes) old) in
    let back = length-append bytes (drop (at + length bytes) old) in
    let front = length-take at old in
    let rest = length-drop (at + length bytes) old in
    let turned : with_bytes old at bytes ≡ take at old ++ (bytes ++ drop (at + length bytes) old) = append_assoc (take at old) bytes (drop (at + length bytes) old) in
    ap (λ (xs : List ℕ). length xs) turned ∙ omega (arith, whole, back, front, rest, four, low)

patched_long : (f : Fragment) (patch : Patch) → holds_patch f patch ≡ true → length patch.bytes ≡ 4 → length (patched_fragment patch f).bytes ≡ length f.bytes
patched_long f patch holds four =
    let parts = and_parts (nat_le f.offset patch.offset) (nat_le (patch.offset + 4) (f.offset + length f.bytes)) holds in
    let low = leb-true f.offset patch.offset parts.0 in
    let high = leb-true (patch.offset + 4) (f.offset + length f.bytes) parts.1 in
    with_long f.bytes (patch.offset - f.offset) patch.bytes four (omega (arith, low, high))

-- a patch that is put in leaves room for the same patches
holds_patched : (fs : List Fragment) (patch other : Patch) → last_holds fs patch ≡ true → length patch.bytes ≡ 4 → last_holds (patched_last patch fs) other ≡ last_holds fs other
holds_patched [] patch other h four = refl
holds_patched (f ∷ []) patch other h four =
    ap (λ (n : ℕ). nat_le f.offset other.offset && nat_le (other.offset + 4) (f.offset + n)) (patched_long f patch h four)
holds_patched (f ∷ g ∷ []) patch other h four = holds_patched (g ∷ []) patch other h four
holds_patched (f ∷ g ∷ i ∷ fs) patch other h four = holds_patched (g ∷ i ∷ fs) patch other h four

-- each of these patches for the chunk lies in its last fragment
abbrev ArePlaced : ℕ → List Fragment → List Patch → Type 0
ArePlaced chunk_id fs [] = Unit {0}
ArePlaced chunk_id fs (patch ∷ patches) =
    ((patch.chunk_id == chunk_id) ≡ true → (last_holds fs patch ≡ true) × (length patch.bytes ≡ 4)) × ArePlaced chunk_id fs patches

placed_patched : (chunk_id : ℕ) (fs : List Fragment) (patch : Patch) (patches : List Patch) → last_holds fs patch ≡ true → length patch.bytes ≡ 4
    → ArePlaced chunk_id fs patches → ArePlaced chunk_id (patched_last patch fs) patches
placed_patched chunk_id fs patch [] h four placed = tt
placed_patched chunk_id fs patch (other ∷ patches) h four placed =
    ((λ e. (holds_patched fs patch other h four ∙ (placed.0 e).0, (placed.0 e).1)), placed_patched chunk_id fs patch patches h four placed.1)

shows_same : (awaits : Bool) (fs : List Fragment) → ShowFragments false awaits fs fs
shows_same awaits [] = tt
shows_same awaits (f ∷ fs) = (refl, (λ e. refl), shows_same awaits fs)

completes_from : (patches : List Patch) (open_ones : List ℕ) (chunk_id : ℕ) (awaits : Bool) (fs : List Fragment) → LastsAre open_ones patches
    → ArePlaced chunk_id fs patches → (is_among chunk_id (chunks_of patches) ≡ true → awaits ≡ true)
    → Completes patches chunk_id awaits fs (settled_fragments patches chunk_id fs)
completes_from [] open_ones chunk_id awaits fs lasts placed a = shows_same awaits fs
completes_from (patch ∷ patches) open_ones chunk_id awaits fs lasts placed a =
    by_id (patch.chunk_id == chunk_id) refl a
    (λ h four. completes_from patches open_ones chunk_id (not patch.last) (patched_last patch fs) lasts.1 (placed_patched chunk_id fs patch patches h four placed.1))
    (completes_from patches open_ones chunk_id awaits fs lasts.1 placed.1)
  where
    by_id : (b : Bool) → (patch.chunk_id == chunk_id) ≡ b → ((b || is_among chunk_id (chunks_of patches)) ≡ true → awaits ≡ true)
        → (last_holds fs patch ≡ true → length patch.bytes ≡ 4 → (is_among chunk_id (chunks_of patches) ≡ true → not patch.last ≡ true)
        → Completes patches chunk_id (not patch.last) (patched_last patch fs) (settled_fragments patches chunk_id (patched_last patch fs)))
        → ((is_among chunk_id (chunks_of patches) ≡ true → awaits ≡ true) → Completes patches chunk_id awaits fs (settled_fragments patches chunk_id fs))
        → MatchBool b ((awaits ≡ true) × (last_holds fs patch ≡ true)
        × Completes patches chunk_id (not patch.last) (patched_last patch fs) (settled_fragments patches chunk_id (cond b (patched_last patch fs) fs)))
        (Completes patches chunk_id awaits fs (settled_fragments patches chunk_id (cond b (patched_last patch fs) fs)))
    by_id true e a here other =
        let is = placed.0 e in (
          a refl,
          is.0,
          here is.0 is.1 (λ later. ap not (lasts.0 ∙ ap not (or_left (is_among patch.chunk_id (chunks_of patches)) (is_among patch.chunk_id open_ones)
              (ap (λ (n : ℕ). is_among n (chunks_of patches)) (eqb-true patch.chunk_id chunk_id e) ∙ later)))),
        )
    by_id false e a here other = other a

-- Only bodies behind a page bring patches for it

settled_behind : (patches more : List Patch) (bound chunk_id : ℕ) (fs : List Fragment) → AllChunksBelow bound patches → bound ≤ chunk_id
    → settled_fragments (patches ++ more) chunk_id fs ≡ settled_fragments more chunk_id fs
settled_behind [] more bound chunk_id fs below low = refl
settled_behind (patch ∷ patches) more bound chunk_id fs below low =
    ap (λ (b : Bool). settled_fragments (patches ++ more) chunk_id (cond b (patched_last patch fs) fs)) (ne_eqb patch.chunk_id chunk_id (λ e. omega (arith, e, below.0, low)))
    ∙ settled_behind patches more bound chunk_id fs below.1 low

settled_from : (pages : List Page) (first place chunk_id : ℕ) (fs : List Fragment) → Behind first pages → first + place ≤ chunk_id
    → settled_fragments (patches_of pages) chunk_id fs ≡ settled_fragments (patches_of (drop place pages)) chunk_id fs
settled_from pages first zero chunk_id fs behind low = refl
settled_from [] first (suc place) chunk_id fs behind low = refl
settled_from (page ∷ pages) first (suc place) chunk_id fs behind low =
    settled_behind page.patches (patches_of pages) first chunk_id fs behind.0 (omega (arith, low))
    ∙ settled_from pages (suc first) place chunk_id fs behind.1 (omega (arith, low))

pub lasts_behind : (open_ones : List ℕ) (patches more : List Patch) → LastsAre open_ones (patches ++ more) → LastsAre open_ones more
lasts_behind open_ones [] more h = h
lasts_behind open_ones (patch ∷ patches) more h = lasts_behind open_ones patches more h.1

pub lasts_from : (open_ones : List ℕ) (pages : List Page) (place : ℕ) → LastsAre open_ones (patches_of pages) → LastsAre open_ones (patches_of (drop place pages))
lasts_from open_ones pages zero h = h
lasts_from open_ones [] (suc place) h = h
lasts_from open_ones (page ∷ pages) (suc place) h = lasts_from open_ones pages place (lasts_behind open_ones page.patches (patches_of pages) h)

all_from : (test : Patch → Bool) (pages : List Page) (place : ℕ) → list_all test (patches_of pages) ≡ true → list_all test (patches_of (drop place pages)) ≡ true
all_from test pages zero h = h
all_from test [] (suc place) h = h
all_from test (page ∷ pages) (suc place) h =
    all_from test pages place (and_parts (list_all test page.patches) (list_all test (patches_of pages)) (sym (list_all-append test page.patches (patches_of pages)) ∙ h)).1

-- what being placed says of patches for one page
placed_in : (pages : List Page) (chunk_id : ℕ) (page : Page) → slice_get pages chunk_id ≡ Some page → (patch : Patch) → is_placed pages patch ≡ true → (patch.chunk_id == chunk_id) ≡ true
    → (page.awaits ≡ true) × (last_holds (chunk_of page).fragments patch ≡ true) × (length patch.bytes ≡ 4)
placed_in pages chunk_id page get patch h e =
    let here : is_placed_in (Some page) patch ≡ true =
    ap (λ (o : Option Page). is_placed_in o patch) (sym get ∙ ap (slice_get pages) (sym (eqb-true patch.chunk_id chunk_id e))) ∙ h in
    let one = and_parts (page.awaits && last_holds (chunk_of page).fragments patch) (length patch.bytes == 4) here in
    let two = and_parts page.awaits (last_holds (chunk_of page).fragments patch) one.0 in
    (two.0, two.1, eqb-true (length patch.bytes) 4 one.1)

are_placed : (pages : List Page) (chunk_id : ℕ) (page : Page) → slice_get pages chunk_id ≡ Some page → (patches : List Patch) → list_all (is_placed pages) patches ≡ true
    → ArePlaced chunk_id (chunk_of page).fragments patches
are_placed pages chunk_id page get [] h = tt
are_placed pages chunk_id page get (patch ∷ patches) h =
    let parts = and_parts (is_placed pages patch) (list_all (is_placed pages) patches) h in (
      (λ e. let is = placed_in pages chunk_id page get patch parts.0 e in (is.1, is.2)),
      are_placed pages chunk_id page get patches parts.1,
    )

awaits_them : (pages : List Page) (chunk_id : ℕ) (page : Page) → slice_get pages chunk_id ≡ Some page → (patches : List Patch) → list_all (is_placed pages) patches ≡ true
    → is_among chunk_id (chunks_of patches) ≡ true → page.awaits ≡ true
awaits_them pages chunk_id page get [] h among = absurd (false≢true among)
awaits_them pages chunk_id page get (patch ∷ patches) h among =
    let parts = and_parts (is_placed pages patch) (list_all (is_placed pages) patches) h in
    step (patch.chunk_id == chunk_id) refl among parts.0 (awaits_them pages chunk_id page get patches parts.1)
  where
    step : (b : Bool) → (patch.chunk_id == chunk_id) ≡ b → (b || is_among chunk_id (chunks_of patches)) ≡ true → is_placed pages patch ≡ true
        → (is_among chunk_id (chunks_of patches) ≡ true → page.awaits ≡ true) → page.awaits ≡ true
    step true e a p k = (placed_in pages chunk_id page get patch p e).0
    step false e a p k = k a

-- Sheets

-- the sheet of a page
pub record IsSheetOf (patches : List Patch) (pages : List Page) (first place : ℕ) (sheet : Sheet) : Type 0 where
  pub page : Page
  pub get : slice_get pages place ≡ Some page
  pub continues : sheet.chunk.continues ≡ page.continues
  pub awaits : sheet.chunk.awaits ≡ page.awaits
  pub fragments : sheet.chunk.fragments ≡ (chunk_of page).fragments
  pub written : sheet.written ≡ settled_fragments patches (first + place) (chunk_of page).fragments
  pub brings : sheet.patches ≡ page.patches
  -- the last page's sheet runs on as is given
  pub runs : suc place < length pages → sheet.chunk.runs_on ≡ page.runs_on

pub sheet_at : (patches : List Patch) (goes : Bool) (pages : List Page) (first place : ℕ) (sheet : Sheet) → slice_get (sheets_from patches first goes pages) place ≡ Some sheet
    → IsSheetOf patches pages first place sheet
sheet_at patches goes [] first place sheet get = absurd (cc)
sheet_at patches goes (page ∷ []) first zero sheet get = here goes get
  where
    here : (runs_on : Bool) → Some (sheet_of patches first runs_on page) ≡ Some sheet → IsSheetOf patches (page ∷ []) first 0 sheet
    here runs_on e =
        let same : sheet_of patches first runs_on page ≡ sheet = cc in
        let at : first ≡ first + 0 = omega arith in
        record {
          page = page;
          get = refl;
          continues = sym (ap (λ (s : Sheet). s.chunk.continues) same);
          awaits = sym (ap (λ (s : Sheet). s.chunk.awaits) same);
          fragments = sym (ap (λ (s : Sheet). s.chunk.fragments) same);
          written = sym (ap (λ (s : Sheet). s.written) same) ∙ ap (λ (n : ℕ). settled_fragments patches n (chunk_of page).fragments) at;
          brings = sym (ap (λ (s : Sheet). s.patches) same);
          runs = λ low. absurd (omega (arith, low));
        }
sheet_at patches goes (page ∷ []) first (suc place) sheet get = absurd (cc)
sheet_at patches goes (page ∷ next ∷ pages) first zero sheet get =
    let same : sheet_of patches first page.runs_on page ≡ sheet = cc in
    let at : first ≡ first + 0 = omega arith in
    record {
      page = page;
      get = refl;
      continues = sym (ap (λ (s : Sheet). s.chunk.continues) same);
      awaits = sym (ap (λ (s : Sheet). s.chunk.awaits) same);
      fragments = sym (ap (λ (s : Sheet). s.chunk.fragments) same);
      written = sym (ap (λ (s : Sheet). s.written) same) ∙ ap (λ (n : ℕ). settled_fragments patches n (chunk_of page).fragments) at;
      brings = sym (ap (λ (s : Sheet). s.patches) same);
      runs = λ low. sym (ap (λ (s : Sheet). s.chunk.runs_on) same);
    }
sheet_at patches goes (page ∷ next ∷ pages) first (suc place) sheet get =
    let is = sheet_at patches goes (next ∷ pages) (suc first) place sheet get in
    let at : suc first + place ≡ first + suc place = omega arith in
    record {
      page = is.page;
      get = is.get;
      continues = is.continues;
      awaits = is.awaits;
      fragments = is.fragments;
      written = is.written ∙ ap (λ (n : ℕ). settled_fragments patches n (chunk_of is.page).fragments) at;
      brings = is.brings;
      runs = λ low. is.runs (omega (arith, low));
    }

pub patches_left : (patches : List Patch) (goes : Bool) (pages : List Page) (first place : ℕ) → sheet_patches (drop place (sheets_from patches first goes pages)) ≡ patches_of (drop place pages)
patches_left patches goes [] first zero = refl
patches_left patches goes [] first (suc place) = refl
patches_left patches goes (page ∷ []) first zero = refl
patches_left patches goes (page ∷ []) first (suc place) = none place
  where
    none : (n : ℕ) → sheet_patches (drop n []) ≡ patches_of (drop n [])
    none zero = refl
    none (suc n) = refl
patches_left patches goes (page ∷ next ∷ pages) first zero = ap (λ (ps : List Patch). page.patches ++ ps) (patches_left patches goes (next ∷ pages) (suc first) 0)
patches_left patches goes (page ∷ next ∷ pages) first (suc place) = patches_left patches goes (next ∷ pages) (suc first) place

-- the patches of the bodies from a chunk on complete it, and it isn't empty
pub record IsCompleted (sheets : List Sheet) (chunk_id : ℕ) (sheet : Sheet) : Type 0 where
  pub completes : Completes (sheet_patches (drop chunk_id sheets)) chunk_id sheet.chunk.awaits sheet.chunk.fragments sheet.written
  pub some : 0 < length sheet.chunk.fragments

abbrev pub EachCompletes : List Sheet → Type 0
EachCompletes sheets = (chunk_id : ℕ) (sheet : Sheet) → slice_get sheets chunk_id ≡ Some sheet → IsCompleted sheets chunk_id sheet

pub full_at : (size : ℕ) (pages : List Page) (place : ℕ) (page : Page) → AreFull size pages → slice_get pages place ≡ Some page → IsWellFormedPage size page
full_at size [] place page full get = absurd (cc)
full_at size (first ∷ pages) zero page full get =
    let same : first ≡ page = cc in
    subst (IsWellFormedPage size) same full.0
full_at size (first ∷ pages) (suc place) page full get = full_at size pages place page full.1 get

pub each_completes : (size : ℕ) (goes : Bool) (pages : List Page) (open_ones : List ℕ) → AreFull size pages → Behind 0 pages → LastsAre open_ones (patches_of pages)
    → IsTrue (list_all (is_placed pages) (patches_of pages)) → EachCompletes (sheets_of goes pages)
each_completes size goes pages open_ones full behind lasts placed chunk_id sheet get =
    let is = sheet_at (patches_of pages) goes pages 0 chunk_id sheet get in
    let at : 0 + chunk_id ≡ chunk_id = omega arith in
    let there = all_from (is_placed pages) pages chunk_id placed in
    let done : Completes (patches_of (drop chunk_id pages)) chunk_id is.page.awaits (chunk_of is.page).fragments
    (settled_fragments (patches_of (drop chunk_id pages)) chunk_id (chunk_of is.page).fragments) =
    completes_from (patches_of (drop chunk_id pages)) open_ones chunk_id is.page.awaits (chunk_of is.page).fragments
    (lasts_from open_ones pages chunk_id lasts)
    (are_placed pages chunk_id is.page is.get (patches_of (drop chunk_id pages)) there)
    (awaits_them pages chunk_id is.page is.get (patches_of (drop chunk_id pages)) there) in
    let written : sheet.written ≡ settled_fragments (patches_of (drop chunk_id pages)) chunk_id (chunk_of is.page).fragments =
    is.written ∙ ap (λ (n : ℕ). settled_fragments (patches_of pages) n (chunk_of is.page).fragments) at
    ∙ settled_from pages 0 chunk_id chunk_id (chunk_of is.page).fragments behind (omega arith) in
    record {
      completes =
          subst (λ (ps : List Patch). Completes ps chunk_id sheet.chunk.awaits sheet.chunk.fragments sheet.written) (sym (patches_left (patches_of pages) goes pages 0 chunk_id))
          (subst (λ (a : Bool). Completes (patches_of (drop chunk_id pages)) chunk_id a sheet.chunk.fragments sheet.written) (sym is.awaits)
          (subst (λ (fs : List Fragment). Completes (patches_of (drop chunk_id pages)) chunk_id is.page.awaits fs sheet.written) (sym is.fragments)
          (subst (λ (ws : List Fragment). Completes (patches_of (drop chunk_id pages)) chunk_id is.page.awaits (chunk_of is.page).fragments ws) (sym written) done)));
      some =
          let some = (full_at size pages chunk_id is.page full is.get).some in
          let long = fragments_long 4 is.page.dropped is.page.fragments in
          let same = ap (λ (fs : List Fragment). length fs) is.fragments in
          omega (arith, some, long, same);
    }
