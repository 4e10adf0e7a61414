-- Which patches pages bring, which of them are the last of their chunks, and which pages await patches, as pages and
-- patches are added.
use Rattle.std.proofs.Common.{◌≡◌, ◌∙◌, ℕ, suc, ◌+◌, ◌<◌, ◌≤◌, Bool, true, false, not, ◌&&◌, ◌||◌, cond, List, [], ◌∷◌, ◌++◌, length, map, refl, sym, ap, subst, arith, Some, None, Option}
use Rattle.std.proofs.Math.Bool.{or_assoc}
use Rattle.std.specs.Prelude.{◌==◌, IsTrue, filter, slice_get}
use Rattle.std.specs.List.{list_all}
use Rattle.std.proofs.lemmas.List.{map-append}
use Rattle.std.proofs.lemmas.List.Folds.{list_any-append, list_all-append}
use Rattle.std.proofs.lemmas.List.Concat.{flat_map-append}
use Rattle.std.proofs.lemmas.List.{append-nil}
use Rattle.std.proofs.lemmas.Bool.{eq-eqb, ne_eqb, and_parts, and_from, false≢true}
use Rattle.trace_base.proofs.Lists.{get_more}
use Rattle.trace_model.specs.Images.{Patch, Fragment, last_holds}
use Rattle.trace_model.specs.Pages.{Page, patches_of, chunk_of}
use Rattle.trace_model.specs.Sequences.{is_among}
use Rattle.trace_model.specs.Sent.{SentPatch, PatchesAre, AwaitsAre, as_sent, chunks_of, is_last_patch, is_placed, is_placed_in, AllChunksBelow, Behind}
use Rattle.commit_body.specs.Patches.{with_lasts}
use Rattle.commit_body.proofs.PatchLemmas.{chunks_of-with_lasts}
use Rattle.cut_steps.specs.Pending.{AllSentBy, AllSentFor, sent_chunks}

-- Chunks among others

pub is_among-append : (n : ℕ) (xs ys : List ℕ) → is_among n (xs ++ ys) ≡ (is_among n xs || is_among n ys)
is_among-append n xs ys = list_any-append (λ (m : ℕ). m == n) xs ys

-- the held chunk doesn't matter to earlier ones
pub is_among-held : (held n : ℕ) (xs ys : List ℕ) → n < held → is_among n (xs ++ held ∷ ys) ≡ is_among n (xs ++ ys)
is_among-held held n [] ys h =
    ap (λ b. b || is_among n ys) (ne_eqb held n (λ e. omega (arith, e, h)))
is_among-held held n (x ∷ xs) ys h = ap (λ b. (x == n) || b) (is_among-held held n xs ys h)

-- no patch was sent for the held chunk
pub none_sent : (sent : List SentPatch) (held : ℕ) → AllSentFor held sent → is_among held (sent_chunks sent) ≡ false
none_sent [] held below = refl
none_sent (one ∷ sent) held below =
    ap (λ b. b || is_among held (sent_chunks sent)) (ne_eqb one.chunk_id held (λ e. omega (arith, e, below.0)))
    ∙ none_sent sent held below.1

pub patches_of-append : (pages more : List Page) → patches_of (pages ++ more) ≡ patches_of pages ++ patches_of more
patches_of-append pages more = flat_map-append (λ (page : Page). page.patches) pages more

pub patches_of-one : (pages : List Page) (page : Page) → patches_of (pages ++ page ∷ []) ≡ patches_of pages ++ page.patches
patches_of-one pages page = patches_of-append pages (page ∷ []) ∙ ap (λ (xs : List Patch). patches_of pages ++ xs) (append-nil page.patches)

-- Marks

is_last_patch-append : (open_ones : List ℕ) (patch : Patch) (later more : List Patch)
    → is_last_patch open_ones patch (later ++ more) ≡ is_last_patch (chunks_of more ++ open_ones) patch later
is_last_patch-append open_ones patch later more =
    ap (λ (xs : List ℕ). not (is_among patch.chunk_id xs || is_among patch.chunk_id open_ones)) (map-append (λ (one : Patch). one.chunk_id) later more)
    ∙ ap (λ b. not (b || is_among patch.chunk_id open_ones)) (is_among-append patch.chunk_id (chunks_of later) (chunks_of more))
    ∙ ap not (or_assoc (is_among patch.chunk_id (chunks_of later)) (is_among patch.chunk_id (chunks_of more)) (is_among patch.chunk_id open_ones))
    ∙ ap (λ b. not (is_among patch.chunk_id (chunks_of later) || b)) (sym (is_among-append patch.chunk_id (chunks_of more) open_ones))

pub with_lasts-append : (open_ones : List ℕ) (patches more : List Patch)
    → with_lasts open_ones (patches ++ more) ≡ with_lasts (chunks_of more ++ open_ones) patches ++ with_lasts open_ones more
with_lasts-append open_ones [] more = refl
with_lasts-append open_ones (patch ∷ later) more =
    ap (λ b. record patch { last = b } ∷ with_lasts open_ones (later ++ more)) (is_last_patch-append open_ones patch later more)
    ∙ ap (λ (ps : List Patch). record patch { last = is_last_patch (chunks_of more ++ open_ones) patch later } ∷ ps) (with_lasts-append open_ones later more)

-- only which of the chunks below are open matters
pub with_lasts-same : (patches : List Patch) (a b : List ℕ) (bound : ℕ) → ((n : ℕ) → n < bound → is_among n a ≡ is_among n b)
    → AllChunksBelow bound patches → with_lasts a patches ≡ with_lasts b patches
with_lasts-same [] a b bound same below = refl
with_lasts-same (patch ∷ later) a b bound same below =
    ap (λ t. record patch { last = not (is_among patch.chunk_id (chunks_of later) || t) } ∷ with_lasts a later) (same patch.chunk_id below.0)
    ∙ ap (λ (ps : List Patch). record patch { last = is_last_patch b patch later } ∷ ps) (with_lasts-same later a b bound same below.1)

-- marks that were there don't matter
pub with_lasts-twice : (a b : List ℕ) (patches : List Patch) → with_lasts a (with_lasts b patches) ≡ with_lasts a patches
with_lasts-twice a b [] = refl
with_lasts-twice a b (patch ∷ later) =
    ap (λ (xs : List ℕ). record patch { last = not (is_among patch.chunk_id xs || is_among patch.chunk_id a) } ∷ with_lasts a (with_lasts b later)) (chunks_of-with_lasts b later)
    ∙ ap (λ (ps : List Patch). record patch { last = is_last_patch a patch later } ∷ ps) (with_lasts-twice a b later)

pub sent-with_lasts : (open_ones : List ℕ) (by : ℕ) (patches : List Patch) → map (as_sent by) (with_lasts open_ones patches) ≡ map (as_sent by) patches
sent-with_lasts open_ones by [] = refl
sent-with_lasts open_ones by (patch ∷ later) = ap (λ (xs : List SentPatch). as_sent by patch ∷ xs) (sent-with_lasts open_ones by later)

-- Bounds

pub chunks_below-append : (bound : ℕ) (patches more : List Patch) → AllChunksBelow bound patches → AllChunksBelow bound more → AllChunksBelow bound (patches ++ more)
chunks_below-append bound [] more here there = there
chunks_below-append bound (patch ∷ patches) more here there = (here.0, chunks_below-append bound patches more here.1 there)

pub chunks_below-more : (patches : List Patch) (low high : ℕ) → low ≤ high → AllChunksBelow low patches → AllChunksBelow high patches
chunks_below-more [] low high h below = tt
chunks_below-more (patch ∷ patches) low high h below = (omega (arith, below.0, h), chunks_below-more patches low high h below.1)

pub chunks_below-with_lasts : (open_ones : List ℕ) (bound : ℕ) (patches : List Patch) → AllChunksBelow bound patches → AllChunksBelow bound (with_lasts open_ones patches)
chunks_below-with_lasts open_ones bound [] below = tt
chunks_below-with_lasts open_ones bound (patch ∷ patches) below = (below.0, chunks_below-with_lasts open_ones bound patches below.1)

pub sent_by-append : (bound : ℕ) (sent more : List SentPatch) → AllSentBy bound sent → AllSentBy bound more → AllSentBy bound (sent ++ more)
sent_by-append bound [] more here there = there
sent_by-append bound (one ∷ sent) more here there = (here.0, sent_by-append bound sent more here.1 there)

pub sent_by-more : (sent : List SentPatch) (low high : ℕ) → low ≤ high → AllSentBy low sent → AllSentBy high sent
sent_by-more [] low high h below = tt
sent_by-more (one ∷ sent) low high h below = (omega (arith, below.0, h), sent_by-more sent low high h below.1)

pub sent_for-append : (bound : ℕ) (sent more : List SentPatch) → AllSentFor bound sent → AllSentFor bound more → AllSentFor bound (sent ++ more)
sent_for-append bound [] more here there = there
sent_for-append bound (one ∷ sent) more here there = (here.0, sent_for-append bound sent more here.1 there)

pub sent_for-more : (sent : List SentPatch) (low high : ℕ) → low ≤ high → AllSentFor low sent → AllSentFor high sent
sent_for-more [] low high h below = tt
sent_for-more (one ∷ sent) low high h below = (omega (arith, below.0, h), sent_for-more sent low high h below.1)

-- nothing was sent by a later chunk
pub none_by : (sent : List SentPatch) (bound : ℕ) → AllSentBy bound sent → filter (λ one. one.by == bound) sent ≡ []
none_by [] bound below = refl
none_by (one ∷ sent) bound below =
    ap (λ b. cond b (one ∷ filter (λ other. other.by == bound) sent) (filter (λ other. other.by == bound) sent)) (ne_eqb one.by bound (λ e. omega (arith, e, below.0)))
    ∙ none_by sent bound below.1

-- Pages

pub patches_are-one : (pages : List Page) (sent : List SentPatch) (first last : ℕ) (page : Page) → first + length pages ≡ last → PatchesAre sent first pages
    → map (as_sent last) page.patches ≡ filter (λ one. one.by == last) sent → PatchesAre sent first (pages ++ page ∷ [])
patches_are-one [] sent first last page e before here =
    let same : last ≡ first = omega (arith, e) in
    (subst (λ (n : ℕ). map (as_sent n) page.patches ≡ filter (λ one. one.by == n) sent) same here, tt)
patches_are-one (one ∷ pages) sent first last page e before here =
    (before.0, patches_are-one pages sent (suc first) last page (omega (arith, e)) before.1 here)

-- what comes by later chunks changes nothing
pub patches_are-later : (pages : List Page) (sent : List SentPatch) (one : SentPatch) (first : ℕ) → first + length pages ≤ one.by → PatchesAre sent first pages
    → PatchesAre (sent ++ one ∷ []) first pages
patches_are-later [] sent one first h before = tt
patches_are-later (page ∷ pages) sent one first h before = (
  before.0 ∙ sym (filter_later sent one first (λ e. omega (arith, e, h))),
  patches_are-later pages sent one (suc first) (omega (arith, h)) before.1,
)
  where
    filter_later : (sent : List SentPatch) (one : SentPatch) (by : ℕ) → (one.by ≡ by → ⊥)
        → filter (λ other. other.by == by) (sent ++ one ∷ []) ≡ filter (λ other. other.by == by) sent
    filter_later [] one by other = ap (λ b. cond b (one ∷ []) []) (ne_eqb one.by by other)
    filter_later (x ∷ sent) one by other =
        ap (λ (xs : List SentPatch). cond (x.by == by) (x ∷ xs) xs) (filter_later sent one by other)

pub filter_by-one : (sent : List SentPatch) (one : SentPatch) (by : ℕ) → one.by ≡ by
    → filter (λ other. other.by == by) (sent ++ one ∷ []) ≡ filter (λ other. other.by == by) sent ++ one ∷ []
filter_by-one [] one by same = ap (λ b. cond b (one ∷ []) []) (eq-eqb one.by by same)
filter_by-one (x ∷ sent) one by same =
    ap (λ (xs : List SentPatch). cond (x.by == by) (x ∷ xs) xs) (filter_by-one sent one by same)
    ∙ both (x.by == by)
  where
    both : (b : Bool) → cond b (x ∷ (filter (λ other. other.by == by) sent ++ one ∷ [])) (filter (λ other. other.by == by) sent ++ one ∷ [])
        ≡ cond b (x ∷ filter (λ other. other.by == by) sent) (filter (λ other. other.by == by) sent) ++ one ∷ []
    both true = refl
    both false = refl

pub awaits_are-same : (pages : List Page) (a b : List ℕ) (first bound : ℕ) → first + length pages ≤ bound
    → ((n : ℕ) → n < bound → is_among n a ≡ is_among n b) → AwaitsAre a first pages → AwaitsAre b first pages
awaits_are-same [] a b first bound h same before = tt
awaits_are-same (page ∷ pages) a b first bound h same before = (
  before.0 ∙ ap (λ t. page.runs_on && t) (same first (omega (arith, h))),
  awaits_are-same pages a b (suc first) bound (omega (arith, h)) same before.1,
)

pub awaits_are-one : (pages : List Page) (crossing : List ℕ) (first last : ℕ) (page : Page) → first + length pages ≡ last → AwaitsAre crossing first pages
    → page.awaits ≡ (page.runs_on && is_among last crossing) → AwaitsAre crossing first (pages ++ page ∷ [])
awaits_are-one [] crossing first last page e before here =
    let same : last ≡ first = omega (arith, e) in
    (subst (λ (n : ℕ). page.awaits ≡ (page.runs_on && is_among n crossing)) same here, tt)
awaits_are-one (one ∷ pages) crossing first last page e before here =
    (before.0, awaits_are-one pages crossing (suc first) last page (omega (arith, e)) before.1 here)

pub behind-one : (pages : List Page) (first last : ℕ) (page : Page) → first + length pages ≡ last → Behind first pages → AllChunksBelow last page.patches
    → Behind first (pages ++ page ∷ [])
behind-one [] first last page e before here = (subst (λ (n : ℕ). AllChunksBelow n page.patches) (omega (arith, e)) here, tt)
behind-one (one ∷ pages) first last page e before here = (before.0, behind-one pages (suc first) last page (omega (arith, e)) before.1 here)

-- Placed patches

placed_in-some : (page : Option Page) (patch : Patch) → is_placed_in page patch ≡ true → (found : Page) × (page ≡ Some found)
placed_in-some None patch placed = absurd (false≢true placed)
placed_in-some (Some page) patch placed = (page, refl)

pub placed-more : (pages more : List Page) (patch : Patch) → IsTrue (is_placed pages patch) → IsTrue (is_placed (pages ++ more) patch)
placed-more pages more patch placed =
    let stands : (found : Page) × (slice_get pages patch.chunk_id ≡ Some found) = placed_in-some (slice_get pages patch.chunk_id) patch placed in
    subst (λ (page : Option Page). IsTrue (is_placed_in page patch)) (stands.1 ∙ sym (get_more pages more patch.chunk_id stands.0 stands.1)) placed

pub all_placed-more : (patches : List Patch) (pages more : List Page) → IsTrue (list_all (is_placed pages) patches) → IsTrue (list_all (is_placed (pages ++ more)) patches)
all_placed-more [] pages more placed = refl
all_placed-more (patch ∷ patches) pages more placed =
    let parts = and_parts (is_placed pages patch) (list_all (is_placed pages) patches) placed in
    and_from (is_placed (pages ++ more) patch) (list_all (is_placed (pages ++ more)) patches) (placed-more pages more patch parts.0) (all_placed-more patches pages more parts.1)

pub all_placed-append : (pages : List Page) (patches more : List Patch) → IsTrue (list_all (is_placed pages) patches) → IsTrue (list_all (is_placed pages) more)
    → IsTrue (list_all (is_placed pages) (patches ++ more))
all_placed-append pages patches more here there =
    list_all-append (is_placed pages) patches more ∙ and_from (list_all (is_placed pages) patches) (list_all (is_placed pages) more) here there

-- a mark doesn't matter to it
last_holds-marked : (fragments : List Fragment) (patch : Patch) (last : Bool) → last_holds fragments (record patch { last = last }) ≡ last_holds fragments patch
last_holds-marked [] patch last = refl
last_holds-marked (fragment ∷ []) patch last = refl
last_holds-marked (fragment ∷ next ∷ others) patch last = last_holds-marked (next ∷ others) patch last

placed_in-marked : (page : Option Page) (patch : Patch) (last : Bool) → is_placed_in page (record patch { last = last }) ≡ is_placed_in page patch
placed_in-marked None patch last = refl
placed_in-marked (Some page) patch last =
    ap (λ b. (page.awaits && b) && (length patch.bytes == 4)) (last_holds-marked (chunk_of page).fragments patch last)

pub all_placed-with_lasts : (pages : List Page) (open_ones : List ℕ) (patches : List Patch)
    → list_all (is_placed pages) (with_lasts open_ones patches) ≡ list_all (is_placed pages) patches
all_placed-with_lasts pages open_ones [] = refl
all_placed-with_lasts pages open_ones (patch ∷ patches) =
    ap (λ b. b && list_all (is_placed pages) (with_lasts open_ones patches)) (placed_in-marked (slice_get pages patch.chunk_id) patch (is_last_patch open_ones patch patches))
    ∙ ap (λ b. is_placed pages patch && b) (all_placed-with_lasts pages open_ones patches)
