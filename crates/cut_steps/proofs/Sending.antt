-- What was sent, step by step: an open length, its end in the held chunk or behind it, and the held chunk completed.
use Rattle.std.proofs.Common.{◌≡◌, ◌∙◌, ℕ, ◌+◌, ◌<◌, true, ◌&&◌, List, [], ◌∷◌, ◌++◌, length, map, refl, sym, ap, subst, arith, append_assoc, length-append}
use Rattle.std.specs.Prelude.{IsTrue}
use Rattle.std.specs.List.{list_all}
use Rattle.std.proofs.lemmas.List.{map-append}
use Rattle.std.proofs.lemmas.Bool.{and_from}
use Rattle.trace_model.specs.Images.{Patch}
use Rattle.trace_model.specs.Pages.{Page, patches_of}
use Rattle.trace_model.specs.Sequences.{is_among}
use Rattle.trace_model.specs.Sent.{SentPatch, AwaitsAre, as_sent, chunks_of, is_placed, AllChunksBelow}
use Rattle.commit_body.specs.Patches.{with_lasts}
use Rattle.commit_body.proofs.PatchLemmas.{chunks_of-with_lasts}
use Rattle.cut_steps.specs.Pending.{HasSent, sent_chunks}
use Rattle.cut_steps.proofs.Marks.{is_among-held, patches_of-one, with_lasts-append, with_lasts-same, with_lasts-twice, sent-with_lasts, chunks_below-append, chunks_below-more, chunks_below-with_lasts, sent_by-append, sent_by-more, sent_for-append, sent_for-more, none_by, patches_are-one, patches_are-later, filter_by-one, awaits_are-same, awaits_are-one, behind-one, all_placed-more, all_placed-append, all_placed-with_lasts}

-- a length is opened in the held chunk
pub sends_open : (pages : List Page) (sent : List SentPatch) (unsent : List Patch) (open_ones : List ℕ)
    → HasSent pages sent unsent open_ones → HasSent pages sent unsent (length pages ∷ open_ones)
sends_open pages sent unsent open_ones h =
    let held : ℕ = length pages in
    record {
      patches = h.patches;
      unsent_are = h.unsent_are;
      by = h.by;
      for = h.for;
      sent_below = h.sent_below;
      unsent_below = h.unsent_below;
      lasts = with_lasts-same (patches_of pages) (chunks_of unsent ++ held ∷ open_ones) (chunks_of unsent ++ open_ones) held
          (λ n below. is_among-held held n (chunks_of unsent) open_ones below) h.sent_below
          ∙ h.lasts;
      awaits = awaits_are-same pages (sent_chunks sent ++ open_ones) (sent_chunks sent ++ held ∷ open_ones) 0 held (omega arith)
          (λ n below. sym (is_among-held held n (sent_chunks sent) open_ones below)) h.awaits;
      sent_placed = h.sent_placed;
      unsent_placed = h.unsent_placed;
      behind = h.behind;
    }

-- its message ends, and its bytes are still there
pub sends_here : (pages : List Page) (sent : List SentPatch) (unsent : List Patch) (open_ones : List ℕ)
    → HasSent pages sent unsent (length pages ∷ open_ones) → HasSent pages sent unsent open_ones
sends_here pages sent unsent open_ones h =
    let held : ℕ = length pages in
    record {
      patches = h.patches;
      unsent_are = h.unsent_are;
      by = h.by;
      for = h.for;
      sent_below = h.sent_below;
      unsent_below = h.unsent_below;
      lasts = sym (with_lasts-same (patches_of pages) (chunks_of unsent ++ held ∷ open_ones) (chunks_of unsent ++ open_ones) held
          (λ n below. is_among-held held n (chunks_of unsent) open_ones below) h.sent_below)
          ∙ h.lasts;
      awaits = awaits_are-same pages (sent_chunks sent ++ held ∷ open_ones) (sent_chunks sent ++ open_ones) 0 held (omega arith)
          (λ n below. is_among-held held n (sent_chunks sent) open_ones below) h.awaits;
      sent_placed = h.sent_placed;
      unsent_placed = h.unsent_placed;
      behind = h.behind;
    }

-- a message ends whose length is in an earlier chunk: its patch is kept
pub sends_later : (pages : List Page) (sent : List SentPatch) (unsent : List Patch) (open_ones : List ℕ) (patch : Patch)
    → patch.chunk_id < length pages → IsTrue (is_placed pages patch)
    → HasSent pages sent unsent (patch.chunk_id ∷ open_ones) → HasSent pages (sent ++ as_sent (length pages) patch ∷ []) (unsent ++ patch ∷ []) open_ones
sends_later pages sent unsent open_ones patch below placed h =
    let held : ℕ = length pages in
    let one : SentPatch = as_sent held patch in
    let kept : chunks_of (unsent ++ patch ∷ []) ++ open_ones ≡ chunks_of unsent ++ patch.chunk_id ∷ open_ones =
    ap (λ (xs : List ℕ). xs ++ open_ones) (map-append (λ (p : Patch). p.chunk_id) unsent (patch ∷ [])) ∙ append_assoc (chunks_of unsent) (patch.chunk_id ∷ []) open_ones in
    let sends : sent_chunks (sent ++ one ∷ []) ++ open_ones ≡ sent_chunks sent ++ patch.chunk_id ∷ open_ones =
    ap (λ (xs : List ℕ). xs ++ open_ones) (map-append (λ (s : SentPatch). s.chunk_id) sent (one ∷ [])) ∙ append_assoc (sent_chunks sent) (patch.chunk_id ∷ []) open_ones in
    record {
      patches = patches_are-later pages sent one 0 (omega arith) h.patches;
      unsent_are = map-append (as_sent held) unsent (patch ∷ [])
          ∙ ap (λ (xs : List SentPatch). xs ++ one ∷ []) h.unsent_are
          ∙ sym (filter_by-one sent one held refl);
      by = sent_by-append (held + 1) sent (one ∷ []) h.by (omega arith, tt);
      for = sent_for-append held sent (one ∷ []) h.for (below, tt);
      sent_below = h.sent_below;
      unsent_below = chunks_below-append held unsent (patch ∷ []) h.unsent_below (below, tt);
      lasts = ap (λ (xs : List ℕ). with_lasts xs (patches_of pages)) kept ∙ h.lasts;
      awaits = subst (λ (xs : List ℕ). AwaitsAre xs 0 pages) (sym sends) h.awaits;
      sent_placed = h.sent_placed;
      unsent_placed = all_placed-append pages unsent (patch ∷ []) h.unsent_placed (and_from (is_placed pages patch) true placed refl);
      behind = h.behind;
    }

-- the held chunk is completed with the patches that weren't sent
pub sends_done : (pages : List Page) (sent : List SentPatch) (unsent : List Patch) (open_ones : List ℕ) (page : Page)
    → page.patches ≡ with_lasts open_ones unsent
    → page.awaits ≡ (page.runs_on && is_among (length pages) (sent_chunks sent ++ open_ones))
    → HasSent pages sent unsent open_ones → HasSent (pages ++ page ∷ []) sent [] open_ones
sends_done pages sent unsent open_ones page brings awaits h =
    let held : ℕ = length pages in
    let longer : length (pages ++ page ∷ []) ≡ held + 1 = length-append pages (page ∷ []) in
    let all : patches_of (pages ++ page ∷ []) ≡ patches_of pages ++ with_lasts open_ones unsent =
    patches_of-one pages page ∙ ap (λ (xs : List Patch). patches_of pages ++ xs) brings in
    let marked : with_lasts open_ones (patches_of pages ++ with_lasts open_ones unsent) ≡ patches_of pages ++ with_lasts open_ones unsent =
    with_lasts-append open_ones (patches_of pages) (with_lasts open_ones unsent)
    ∙ ap (λ (xs : List ℕ). with_lasts (xs ++ open_ones) (patches_of pages) ++ with_lasts open_ones (with_lasts open_ones unsent)) (chunks_of-with_lasts open_ones unsent)
    ∙ ap (λ (xs : List Patch). xs ++ with_lasts open_ones (with_lasts open_ones unsent)) h.lasts
    ∙ ap (λ (xs : List Patch). patches_of pages ++ xs) (with_lasts-twice open_ones open_ones unsent) in
    record {
      patches = patches_are-one pages sent 0 held page (omega arith) h.patches
          (ap (map (as_sent held)) brings ∙ sent-with_lasts open_ones held unsent ∙ h.unsent_are);
      unsent_are = sym (none_by sent (length (pages ++ page ∷ [])) (sent_by-more sent (held + 1) (length (pages ++ page ∷ [])) (omega (arith, longer)) h.by));
      by = sent_by-more sent (held + 1) (length (pages ++ page ∷ []) + 1) (omega (arith, longer)) h.by;
      for = sent_for-more sent held (length (pages ++ page ∷ [])) (omega (arith, longer)) h.for;
      sent_below = subst (AllChunksBelow (length (pages ++ page ∷ []))) (sym all)
          (chunks_below-more (patches_of pages ++ with_lasts open_ones unsent) held (length (pages ++ page ∷ [])) (omega (arith, longer))
          (chunks_below-append held (patches_of pages) (with_lasts open_ones unsent) h.sent_below (chunks_below-with_lasts open_ones held unsent h.unsent_below)));
      unsent_below = tt;
      lasts = subst (λ (xs : List Patch). with_lasts open_ones xs ≡ xs) (sym all) marked;
      awaits = awaits_are-one pages (sent_chunks sent ++ open_ones) 0 held page (omega arith) h.awaits awaits;
      sent_placed = subst (λ (xs : List Patch). IsTrue (list_all (is_placed (pages ++ page ∷ [])) xs)) (sym all)
          (all_placed-append (pages ++ page ∷ []) (patches_of pages) (with_lasts open_ones unsent)
          (all_placed-more (patches_of pages) pages (page ∷ []) h.sent_placed)
          (all_placed-with_lasts (pages ++ page ∷ []) open_ones unsent ∙ all_placed-more unsent pages (page ∷ []) h.unsent_placed));
      unsent_placed = refl;
      behind = behind-one pages 0 held page (omega arith) h.behind
          (subst (AllChunksBelow held) (sym brings) (chunks_below-with_lasts open_ones held unsent h.unsent_below));
    }
