-- A patch of an earlier piece is placed: the piece is the last fragment of a page that runs on and awaits it.
use Rattle.std.proofs.Common.{◌≡◌, ◌∙◌, ℕ, zero, suc, ◌+◌, ◌-◌, ◌≤◌, Bool, true, false, ◌&&◌, List, [], ◌∷◌, ◌++◌, length, refl, sym, ap, subst, arith, Some, Option, inl, inr}
use Rattle.std.specs.Prelude.{◌==◌, IsTrue, slice_get, nat_le}
use Rattle.std.proofs.lemmas.Bool.{cases_lt, le-leb, eq-eqb, and_from, or_left, or_right}
use Rattle.trace_base.proofs.Lists.{get_more, get_seam}
use Rattle.trace_model.specs.Images.{Patch, Fragment, holds_patch, last_holds}
use Rattle.trace_model.specs.Pages.{Page, chunk_of, fragments_from}
use Rattle.trace_model.specs.Sequences.{is_among}
use Rattle.trace_model.specs.Row.{Piece}
use Rattle.trace_model.specs.Sent.{AwaitsAre, chunk_at, offset_at, is_placed, is_placed_in}
use Rattle.cut_steps.specs.RawChains.{offset_behind, piece_behind}
use Rattle.cut_steps.specs.Pieces.{StandInOnePiece, EndsWith, RunsOnFrom, AllRunOn}
use Rattle.cut_steps.proofs.Places.{chunk_at-here, chunk_at-behind, offset_at-here, offset_at-behind, stands-here, stands-behind}
use Rattle.cut_steps.proofs.Marks.{is_among-append}

-- what a page of these awaits
awaits_at : (pages : List Page) (crossing : List ℕ) (first n : ℕ) (page : Page) → AwaitsAre crossing first pages → slice_get pages n ≡ Some page
    → page.awaits ≡ (page.runs_on && is_among (first + n) crossing)
awaits_at [] crossing first n page awaits stands = absurd (cc)
awaits_at (one ∷ pages) crossing first zero page awaits stands =
    let same : one ≡ page = cc in
    let there : first ≡ first + 0 = omega arith in
    subst (λ (it : Page). it.awaits ≡ (it.runs_on && is_among (first + 0) crossing)) same
    (awaits.0 ∙ ap (λ (k : ℕ). one.runs_on && is_among k crossing) there)
awaits_at (one ∷ pages) crossing first (suc n) page awaits stands =
    let there : suc first + n ≡ first + suc n = omega arith in
    awaits_at pages crossing (suc first) n page awaits.1 stands ∙ ap (λ (k : ℕ). page.runs_on && is_among k crossing) there

last_holds-ends : (fragments : List Fragment) (last : Fragment) (patch : Patch) → EndsWith fragments last → last_holds fragments patch ≡ holds_patch last patch
last_holds-ends [] last patch ends = absurd ends
last_holds-ends (fragment ∷ []) last patch ends = ap (λ (one : Fragment). holds_patch one patch) ends
last_holds-ends (fragment ∷ next ∷ others) last patch ends = last_holds-ends (next ∷ others) last patch ends

pub is_among-here : (n : ℕ) (xs ys : List ℕ) → is_among n (xs ++ n ∷ ys) ≡ true
is_among-here n xs ys =
    is_among-append n xs (n ∷ ys) ∙ or_right (is_among n xs) (is_among n (n ∷ ys)) (or_left (n == n) (is_among n ys) (eq-eqb n n refl))

placed_in : (pages : List Page) (crossing : List ℕ) (piece : Piece) (at : ℕ) (patch : Patch) → AwaitsAre crossing 0 pages → RunsOnFrom pages piece
    → at + 4 ≤ length piece.fragment.bytes → patch.chunk_id ≡ piece.at.chunk_id → patch.offset ≡ piece.fragment.offset + at
    → length patch.bytes ≡ 4 → is_among patch.chunk_id crossing ≡ true → IsTrue (is_placed pages patch)
placed_in pages crossing piece at patch awaits runs within chunk offset four among =
    let stands : slice_get pages patch.chunk_id ≡ Some runs.page = ap (slice_get pages) chunk ∙ runs.stands in
    let waits : runs.page.awaits ≡ true =
    awaits_at pages crossing 0 patch.chunk_id runs.page awaits stands
    ∙ and_from runs.page.runs_on (is_among (0 + patch.chunk_id) crossing) runs.runs_on (ap (λ (n : ℕ). is_among n crossing) (omega arith) ∙ among) in
    let holds : last_holds (chunk_of runs.page).fragments patch ≡ true =
    last_holds-ends (chunk_of runs.page).fragments piece.fragment patch runs.last
    ∙ and_from (nat_le piece.fragment.offset patch.offset) (nat_le (patch.offset + 4) (piece.fragment.offset + length piece.fragment.bytes))
    (le-leb piece.fragment.offset patch.offset (omega (arith, offset)))
    (le-leb (patch.offset + 4) (piece.fragment.offset + length piece.fragment.bytes) (omega (arith, offset, within))) in
    ap (λ (page : Option Page). is_placed_in page patch) stands
    ∙ and_from (runs.page.awaits && last_holds (chunk_of runs.page).fragments patch) (length patch.bytes == 4)
    (and_from runs.page.awaits (last_holds (chunk_of runs.page).fragments patch) waits holds) (eq-eqb (length patch.bytes) 4 four)

pub placed_earlier : (earlier : List Piece) (pages : List Page) (crossing : List ℕ) (at : ℕ) (patch : Patch) → AwaitsAre crossing 0 pages → AllRunOn pages earlier
    → StandInOnePiece earlier at → patch.chunk_id ≡ chunk_at earlier at → patch.offset ≡ offset_at earlier at
    → length patch.bytes ≡ 4 → is_among patch.chunk_id crossing ≡ true → IsTrue (is_placed pages patch)
placed_earlier [] pages crossing at patch awaits run stands chunk offset four among = absurd stands
placed_earlier (piece ∷ earlier) pages crossing at patch awaits run stands chunk offset four among = elim (cases_lt at (length piece.fragment.bytes)) [
  | inl lt ↦
      placed_in pages crossing piece at patch awaits run.0 (stands-here piece earlier at lt stands) (chunk ∙ chunk_at-here piece earlier at lt)
      (offset ∙ offset_at-here piece earlier at lt) four among
  | inr ge ↦
      placed_earlier earlier pages crossing (at - length piece.fragment.bytes) patch awaits run.1 (stands-behind piece earlier at ge stands)
      (chunk ∙ chunk_at-behind piece earlier at ge) (offset ∙ offset_at-behind piece earlier at ge) four among
]

-- One page more

run_on-more : (pages more : List Page) (piece : Piece) → RunsOnFrom pages piece → RunsOnFrom (pages ++ more) piece
run_on-more pages more piece runs =
    record { page = runs.page; stands = get_more pages more piece.at.chunk_id runs.page runs.stands; runs_on = runs.runs_on; last = runs.last }

ends_with-more : (fragment : Fragment) (fragments : List Fragment) (last : Fragment) → EndsWith fragments last → EndsWith (fragment ∷ fragments) last
ends_with-more fragment [] last ends = absurd ends
ends_with-more fragment (next ∷ others) last ends = ends

ends_with-behind : (done : List (List ℕ)) (at : ℕ) (dropped : Bool) (now : List ℕ)
    → EndsWith (fragments_from at dropped (done ++ now ∷ [])) (record { bytes = now; dropped = dropped; offset = offset_behind at done })
ends_with-behind [] at dropped now = refl
ends_with-behind (bytes ∷ []) at dropped now = refl
ends_with-behind (bytes ∷ next ∷ others) at dropped now =
    ends_with-more (record { bytes = bytes; dropped = false; offset = at })
    (fragments_from (at + length bytes + 4) dropped (next ∷ others ++ now ∷ [])) (record { bytes = now; dropped = dropped; offset = offset_behind at (bytes ∷ next ∷ others) })
    (ends_with-behind (next ∷ others) (at + length bytes + 4) dropped now)

pub all_run_on-one : (earlier : List Piece) (pages : List Page) (page : Page) (done : List (List ℕ)) (now : List ℕ) → page.fragments ≡ done ++ now ∷ []
    → page.runs_on ≡ true → page.dropped ≡ false → AllRunOn pages earlier → AllRunOn (pages ++ page ∷ []) (earlier ++ piece_behind pages done now true false ∷ [])
all_run_on-one [] pages page done now holds runs kept run = (
  record {
    page = page;
    stands = get_seam pages [] page;
    runs_on = runs;
    last = subst (λ (fragments : List (List ℕ)). EndsWith (fragments_from 4 page.dropped fragments) (record { bytes = now; dropped = false; offset = offset_behind 4 done })) (sym holds)
        (subst (λ (b : Bool). EndsWith (fragments_from 4 b (done ++ now ∷ [])) (record { bytes = now; dropped = false; offset = offset_behind 4 done })) (sym kept)
        (ends_with-behind done 4 false now));
  },
  tt,
)
all_run_on-one (piece ∷ earlier) pages page done now holds runs kept run =
    (run_on-more pages (page ∷ []) piece run.0, all_run_on-one earlier pages page done now holds runs kept run.1)
