-- The view of a writer whose chunk is held: its begun chunks as it is completed, and the pages that they show.
use Rattle.std.proofs.Common.{◌≡◌, ◌∙◌, ℕ, suc, ◌+◌, List, [], ◌∷◌, ◌++◌, length, set, get_or, refl, sym, ap, subst, arith}
use Rattle.std.proofs.Math.Seq.{get_or-append_seam, set-append_seam}
use Rattle.trace_model.specs.Pages.{Page, laid, flags_of, image_of}
use Rattle.chunk_plain.specs.Views.{At, BegunChunk, Held, Completed, Draft, no_draft, Content, WriterView}
use Rattle.chunk_plain.specs.Drafts.{draft_in, draft_at, IsHolding}
use Rattle.chunk_plain.specs.Steps.{redrafts, completes}
use Rattle.chunk_plain.proofs.Lists.{at_seam}
use Rattle.trace_writer.specs.Headers.{completed_chunk}
use Rattle.trace_writer.specs.Site.{Site}
use Rattle.trace_writer.specs.Filled.{ShowsPages}

-- A chunk that the writer holds

pub draft_here : (view : WriterView) (completed later : List BegunChunk) (chunk position : ℕ) (draft : Draft) → view.begun ≡ completed ++ Held chunk draft ∷ later
    → position ≡ length completed → draft_at view position ≡ draft
draft_here view completed later chunk position draft begun position_is =
    ap (λ (xs : List BegunChunk). draft_in (get_or xs position (Held 0 no_draft))) begun
    ∙ ap (λ (i : ℕ). draft_in (get_or (completed ++ Held chunk draft ∷ later) i (Held 0 no_draft))) position_is
    ∙ ap draft_in (get_or-append_seam completed (Held chunk draft) later (Held 0 no_draft))

pub holds_here : (view : WriterView) (completed later : List BegunChunk) (chunk position : ℕ) (draft : Draft) → view.begun ≡ completed ++ Held chunk draft ∷ later
    → position ≡ length completed → IsHolding view chunk position
holds_here view completed later chunk position draft begun position_is =
    subst (λ (d : Draft). At view.begun position (Held chunk d)) (sym (draft_here view completed later chunk position draft begun position_is))
    (subst (λ (xs : List BegunChunk). At xs position (Held chunk draft)) (sym begun)
    (subst (λ (i : ℕ). At (completed ++ Held chunk draft ∷ later) i (Held chunk draft)) (sym position_is) (at_seam completed later (Held chunk draft))))

pub redrafted_here : (view new : WriterView) (completed later : List BegunChunk) (chunk position : ℕ) (draft next : Draft) → view.begun ≡ completed ++ Held chunk draft ∷ later
    → position ≡ length completed → new ≡ redrafts view chunk position next → new.begun ≡ completed ++ Held chunk next ∷ later
redrafted_here view new completed later chunk position draft next begun position_is is =
    ap (λ (v : WriterView). v.begun) is
    ∙ ap (λ (xs : List BegunChunk). set xs position (Held chunk next)) begun
    ∙ ap (λ (i : ℕ). set (completed ++ Held chunk draft ∷ later) i (Held chunk next)) position_is
    ∙ set-append_seam completed (Held chunk draft) later (Held chunk next)

pub completed_here : (view new : WriterView) (completed later : List BegunChunk) (chunk position : ℕ) (draft : Draft) (content : Content)
    → view.begun ≡ completed ++ Held chunk draft ∷ later → position ≡ length completed → new ≡ completes view chunk position content
    → new.begun ≡ completed ++ Completed chunk content ∷ later
completed_here view new completed later chunk position draft content begun position_is is =
    ap (λ (v : WriterView). v.begun) is
    ∙ ap (λ (xs : List BegunChunk). set xs position (Completed chunk content)) begun
    ∙ ap (λ (i : ℕ). set (completed ++ Held chunk draft ∷ later) i (Completed chunk content)) position_is
    ∙ set-append_seam completed (Held chunk draft) later (Completed chunk content)

-- Pages

pub shows_long : (site : Site) (position : ℕ) (begun : List BegunChunk) (pages : List Page) → ShowsPages site position begun pages → length begun ≡ length pages
shows_long site position [] [] shown = refl
shows_long site position [] (page ∷ pages) shown = absurd shown
shows_long site position (Held chunk head ∷ begun) pages shown = absurd shown
shows_long site position (Completed chunk content ∷ begun) [] shown = absurd shown
shows_long site position (Completed chunk content ∷ begun) (page ∷ pages) shown = ap suc (shows_long site (suc position) begun pages shown.1)

-- what a chunk is completed with
abbrev pub content_with : Site → ℕ → Page → Content
content_with site position page = record { image = image_of (site.place + 2) position page; patches = page.patches; target = site.buffer }

pub content_is : (site : Site) (position count : ℕ) (payload : List ℕ) (page : Page) → count ≡ length page.fragments
    → payload ≡ laid page.dropped page.fragments page.rest
    → completed_chunk site.place position count (flags_of page) payload page.patches site.buffer ≡ content_with site position page
content_is site position count payload page count_is payload_is =
    ap (λ (n : ℕ). completed_chunk site.place position n (flags_of page) payload page.patches site.buffer) count_is
    ∙ ap (λ (bytes : List ℕ). completed_chunk site.place position (length page.fragments) (flags_of page) bytes page.patches site.buffer) payload_is

pub shows_one : (site : Site) (position last chunk : ℕ) (begun : List BegunChunk) (pages : List Page) (content : Content) (page : Page)
    → ShowsPages site position begun pages → last ≡ position + length pages → content ≡ content_with site last page
    → ShowsPages site position (begun ++ Completed chunk content ∷ []) (pages ++ page ∷ [])
shows_one site position last chunk [] [] content page shown last_is is =
    let same : last ≡ position = omega (arith, last_is) in
    (subst (λ (i : ℕ). content ≡ content_with site i page) same is, tt)
shows_one site position last chunk [] (other ∷ pages) content page shown last_is is = absurd shown
shows_one site position last chunk (Held c head ∷ begun) pages content page shown last_is is = absurd shown
shows_one site position last chunk (Completed c old ∷ begun) [] content page shown last_is is = absurd shown
shows_one site position last chunk (Completed c old ∷ begun) (other ∷ pages) content page shown last_is is =
    (shown.0, shows_one site (suc position) last chunk begun pages content page shown.1 (omega (arith, last_is)) is)
