-- The contents that the service has of a writer's chunks are the pages of the writer's cut.
use Rattle.std.proofs.Common.{◌≡◌, ◌∙◌, ℕ, zero, suc, ◌+◌, ◌<◌, Bool, true, false, List, [], ◌∷◌, length, map, Some, refl, sym, ap, subst, arith, length-append}
use Rattle.std.specs.Prelude.{slice_get}
use Rattle.std.proofs.lemmas.List.{nil_from_length}
use Rattle.std.proofs.lemmas.Option.{slice_get_within}
use mathlib.Core.Option.{some}
use Rattle.trace_base.proofs.Lists.{get_more}
use Rattle.trace_model.specs.Fragments.{drop_size}
use Rattle.trace_model.specs.Images.{Image, Chunk, Patch, has_flag_1, has_flag_2, has_flag_4, whole_chunk}
use Rattle.trace_model.specs.Pages.{Page, laid, flag_where, flags_of, image_of, images_from, chunk_of}
use Rattle.trace_model.specs.Cut.{IsWellFormedPage, last_runs_on}
use Rattle.trace_model.specs.Reading.{Fragments, reading_of}
use Rattle.trace_model.specs.History as model
use Rattle.trace_model.proofs.PageLemmas.{pages_read_as_written, fragments_long, images_long}
use Rattle.trace_model.proofs.ReadsAsLemmas.{reading_is_exact}
use Rattle.delivery_laws.specs.WriterSheets.{sheet_of, sheets_from}
use Rattle.chunk_plain.specs.Views.{At, Content, BegunChunk, Held, Completed, WriterView}
use Rattle.chunk_plain.specs.Histories.{completed_images, completed_patches, once_read, arrival_of}
use Rattle.world_model.specs.Accounts.{HasCut}

pub elem_at : {A : Type 0} (xs : List A) (i : ℕ) (x : A) → slice_get xs i ≡ Some x → At xs i x
elem_at [] i x e = absurd (cc)
elem_at (y ∷ ys) zero x e = let same : y ≡ x = cc in ap some same
elem_at (y ∷ ys) (suc i) x e = elem_at ys i x e

-- A completed chunk among those that were completed

record IsAmong (begun : List BegunChunk) (content : Content) : Type 0 where
  place : ℕ
  image : slice_get (completed_images begun) place ≡ Some content.image
  patches : slice_get (completed_patches begun) place ≡ Some content.patches

is_among : (begun : List BegunChunk) (n chunk : ℕ) (content : Content) → At begun n (Completed chunk content) → IsAmong begun content
is_among [] n chunk content at = absurd (cc)
is_among (Held other draft ∷ begun) zero chunk content at = absurd (cc)
is_among (Completed other first ∷ begun) zero chunk content at =
    let same : first ≡ content = cc in
    record { place = 0; image = ap (λ (c : Content). Some c.image) same; patches = ap (λ (c : Content). Some c.patches) same }
is_among (Held other draft ∷ begun) (suc n) chunk content at =
    let h = is_among begun n chunk content at in
    record { place = h.place; image = h.image; patches = h.patches }
is_among (Completed other first ∷ begun) (suc n) chunk content at =
    let h = is_among begun n chunk content at in
    record { place = suc h.place; image = h.image; patches = h.patches }

-- Pages and images

pub record IsImageOf (q : ℕ) (pages : List Page) (first i : ℕ) (image : Image) : Type 0 where
  pub page : Page
  pub get : slice_get pages i ≡ Some page
  pub is : image ≡ image_of q (first + i) page

pub image_at : (q first : ℕ) (pages : List Page) (i : ℕ) (image : Image) → slice_get (images_from q first pages) i ≡ Some image → IsImageOf q pages first i image
image_at q first [] i image e = absurd (cc)
image_at q first (page ∷ pages) zero image e =
    let same : image_of q first page ≡ image = cc in
    let at : first ≡ first + 0 = omega arith in
    record { page = page; get = refl; is = sym same ∙ ap (λ (n : ℕ). image_of q n page) at }
image_at q first (page ∷ pages) (suc i) image e =
    let h = image_at q (suc first) pages i image e in
    let at : suc first + i ≡ first + suc i = omega arith in
    record { page = h.page; get = h.get; is = h.is ∙ ap (λ (n : ℕ). image_of q n h.page) at }

patches_at : (pages : List Page) (i : ℕ) (page : Page) (patches : List Patch) → slice_get pages i ≡ Some page
    → slice_get (map (λ (p : Page). p.patches) pages) i ≡ Some patches → patches ≡ page.patches
patches_at [] i page patches e f = absurd (cc)
patches_at (first ∷ pages) zero page patches e f =
    let same : first ≡ page = cc in
    let is : first.patches ≡ patches = cc in
    sym is ∙ ap (λ (p : Page). p.patches) same
patches_at (first ∷ pages) (suc i) page patches e f = patches_at pages i page patches e f

-- a content is a page of the writer; it is the last one only where nothing is held
pub record IsPageOf (q n : ℕ) (pages : List Page) (held : List Image) (content : Content) : Type 0 where
  pub page : Page
  pub get : slice_get pages n ≡ Some page
  pub image : content.image ≡ image_of q n page
  pub patches : content.patches ≡ page.patches
  pub last : suc n ≡ length pages → held ≡ []

pub page_of : (size place n chunk : ℕ) (view : WriterView) (held : List Image) (cut : HasCut size place view held) (content : Content)
    → At view.begun n (Completed chunk content) → content.image.chunk_id ≡ n → IsPageOf (place + 2) n cut.cut.pages held content
page_of size place n chunk view held cut content at named =
    let h = is_among view.begun n chunk content at in
    let q : ℕ = place + 2 in
    let pages : List Page = cut.cut.pages in
    let there : slice_get (images_from q 0 pages) h.place ≡ Some content.image =
    subst (λ (xs : List Image). slice_get xs h.place ≡ Some content.image) cut.cut.images_are (get_more (completed_images view.begun) held h.place content.image h.image) in
    let brings : slice_get (map (λ (p : Page). p.patches) pages) h.place ≡ Some content.patches =
    subst (λ (xs : List (List Patch)). slice_get xs h.place ≡ Some content.patches) cut.cut.patches_are
    (get_more (completed_patches view.begun) cut.unsent h.place content.patches h.patches) in
    let is = image_at q 0 pages h.place content.image there in
    let same : h.place ≡ n = let position = ap (λ (i : Image). i.chunk_id) is.is in omega (arith, position, named) in
    let position_is : 0 + h.place ≡ n = omega (arith, same) in
    let inside = slice_get_within (completed_images view.begun) h.place content.image h.image in
    let long = ap (λ (xs : List Image). length xs) cut.cut.images_are in
    let both = length-append (completed_images view.begun) held in
    let as_many = images_long q 0 pages in
    record {
      page = is.page;
      get = subst (λ (i : ℕ). slice_get pages i ≡ Some is.page) same is.get;
      image = is.is ∙ ap (λ (i : ℕ). image_of q i is.page) position_is;
      patches = patches_at pages h.place is.page content.patches is.get brings;
      last = λ e. nil_from_length held (omega (arith, e, same, inside, long, both, as_many));
    }

-- Pages and sheets

pub sheet_there : (patches : List Patch) (goes : Bool) (pages : List Page) (first n : ℕ) (page : Page) → slice_get pages n ≡ Some page
    → (suc n ≡ length pages → last_runs_on false pages ≡ goes) → slice_get (sheets_from patches first goes pages) n ≡ Some (sheet_of patches (first + n) page.runs_on page)
sheet_there patches goes [] first n page get last = absurd (cc)
sheet_there patches goes (only ∷ []) first zero page get last =
    let same : only ≡ page = cc in
    let at : first ≡ first + 0 = omega arith in
    ap (λ (b : Bool). Some (sheet_of patches first b only)) (sym (last refl))
    ∙ ap (λ (p : Page). Some (sheet_of patches first p.runs_on p)) same
    ∙ ap (λ (i : ℕ). Some (sheet_of patches i page.runs_on page)) at
sheet_there patches goes (only ∷ []) first (suc n) page get last = absurd (cc)
sheet_there patches goes (other ∷ next ∷ pages) first zero page get last =
    let same : other ≡ page = cc in
    let at : first ≡ first + 0 = omega arith in
    ap (λ (p : Page). Some (sheet_of patches first p.runs_on p)) same
    ∙ ap (λ (i : ℕ). Some (sheet_of patches i page.runs_on page)) at
sheet_there patches goes (other ∷ next ∷ pages) first (suc n) page get last =
    let at : suc first + n ≡ first + suc n = omega arith in
    sheet_there patches goes (next ∷ pages) (suc first) n page get (λ e. last (ap suc e))
    ∙ ap (λ (i : ℕ). Some (sheet_of patches i page.runs_on page)) at

pub sheet_some : (patches : List Patch) (goes : Bool) (pages : List Page) (first n : ℕ) (page : Page) → slice_get pages n ≡ Some page
    → (runs_on : Bool) × (slice_get (sheets_from patches first goes pages) n ≡ Some (sheet_of patches (first + n) runs_on page))
sheet_some patches goes [] first n page get = absurd (cc)
sheet_some patches goes (only ∷ []) first zero page get =
    let same : only ≡ page = cc in
    let at : first ≡ first + 0 = omega arith in (
      goes,
      ap (λ (p : Page). Some (sheet_of patches first goes p)) same ∙ ap (λ (i : ℕ). Some (sheet_of patches i goes page)) at,
    )
sheet_some patches goes (only ∷ []) first (suc n) page get = absurd (cc)
sheet_some patches goes (other ∷ next ∷ pages) first zero page get =
    let same : other ≡ page = cc in
    let at : first ≡ first + 0 = omega arith in (
      page.runs_on,
      ap (λ (p : Page). Some (sheet_of patches first p.runs_on p)) same ∙ ap (λ (i : ℕ). Some (sheet_of patches i page.runs_on page)) at,
    )
sheet_some patches goes (other ∷ next ∷ pages) first (suc n) page get =
    let h = sheet_some patches goes (next ∷ pages) (suc first) n page get in
    let at : suc first + n ≡ first + suc n = omega arith in
    (h.0, h.1 ∙ ap (λ (i : ℕ). Some (sheet_of patches i h.0 page)) at)

-- What a page reads as

pub page_reads : (size : ℕ) (page : Page) → size < drop_size → IsWellFormedPage size page
    → reading_of (length page.fragments) (laid page.dropped page.fragments page.rest) ≡ Fragments (chunk_of page).fragments
page_reads size page small full =
    ap (λ (n : ℕ). reading_of n (laid page.dropped page.fragments page.rest)) (sym (fragments_long 4 page.dropped page.fragments))
    ∙ reading_is_exact.complete (laid page.dropped page.fragments page.rest) (chunk_of page).fragments (pages_read_as_written size page small full)

flag_1 : (a b c : Bool) → has_flag_1 (flag_where a 1 + flag_where b 2 + flag_where c 4) ≡ a
flag_1 true true true = refl
flag_1 true true false = refl
flag_1 true false true = refl
flag_1 true false false = refl
flag_1 false true true = refl
flag_1 false true false = refl
flag_1 false false true = refl
flag_1 false false false = refl

pub flag_2 : (a b c : Bool) → has_flag_2 (flag_where a 1 + flag_where b 2 + flag_where c 4) ≡ b
flag_2 true true true = refl
flag_2 true true false = refl
flag_2 true false true = refl
flag_2 true false false = refl
flag_2 false true true = refl
flag_2 false true false = refl
flag_2 false false true = refl
flag_2 false false false = refl

pub flag_4 : (a b c : Bool) → has_flag_4 (flag_where a 1 + flag_where b 2 + flag_where c 4) ≡ c
flag_4 true true true = refl
flag_4 true true false = refl
flag_4 true false true = refl
flag_4 true false false = refl
flag_4 false true true = refl
flag_4 false true false = refl
flag_4 false false true = refl
flag_4 false false false = refl

pub page_continues : (page : Page) → has_flag_1 (flags_of page) ≡ page.continues
page_continues page = flag_1 page.continues page.runs_on page.awaits

chunk_is : (page : Page) → whole_chunk (flags_of page) (chunk_of page).fragments ≡ chunk_of page
chunk_is page =
    let chunk : Chunk = chunk_of page in
    ap (λ (b : Bool). record (whole_chunk (flags_of page) chunk.fragments) { continues = b }) (page_continues page)
    ∙ ap (λ (b : Bool). record (whole_chunk (flags_of page) chunk.fragments) { continues = page.continues; runs_on = b }) (flag_2 page.continues page.runs_on page.awaits)
    ∙ ap (λ (b : Bool). record (whole_chunk (flags_of page) chunk.fragments) { continues = page.continues; runs_on = page.runs_on; awaits = b }) (flag_4 page.continues page.runs_on page.awaits)

-- the event of a content that is a page
pub page_arrives : (size q n : ℕ) (page : Page) (content : Content) → size < drop_size → IsWellFormedPage size page → content.image ≡ image_of q n page
    → arrival_of q n (Some content) ≡ model.Arrives q n (chunk_of page) ∷ []
page_arrives size q n page content small full is =
    let event : Chunk → model.Event = λ chunk. model.Arrives q n chunk in
    ap (λ (i : Image). once_read event i.flags (reading_of i.count i.payload)) is
    ∙ ap (once_read event (flags_of page)) (page_reads size page small full)
    ∙ ap (λ (c : Chunk). event c ∷ []) (chunk_is page)
