-- A block that is kept says the same where more entries stand behind those that there were.
use Rattle.std.proofs.Common.{◌≡◌, ◌∙◌, ℕ, ◌+◌, ◌-◌, ◌≤◌, List, [], ◌∷◌, ◌++◌, length, take, drop, refl, sym, ap, subst, arith, length-append, length-drop}
use Rattle.std.specs.Prelude.{slice_range, Option, Some, None, option_map, IfSome, IfNone, codes, true}
use Rattle.text_form.specs.Entries.{Value}
use Rattle.std.specs.Borrow.{Bor}
use Rattle.std.proofs.lemmas.List.{take-append-le, drop-append-le, take_all, take_rest, map_push}
use Rattle.std.proofs.lemmas.List.Elements.{All-head, All-tail, All-weaker, All-push}
use Rattle.config_text.specs.declared.kept.KeptSource.{KeptSource}
use Rattle.config_text.specs.declared.kept.KeptWhat.{KeptWhat}
use Rattle.config_text.specs.declared.kept.KeptWhat.TheVariants as kept
use Rattle.config_text.specs.declared.kept.KeptBlock.{KeptBlock}
use Rattle.config_text.specs.Blocks.{Block, What, Source, SourceSaid, is, text_in, with_filter, source_with}
use Rattle.config_text.specs.Kept.{texts, source_kept, what_kept, block_kept, blocks_kept, IsInside, IsNewest, AreInside, GrowsBy}

-- a part of a list is one of a longer list
pub range_more : {T : Type 0} (xs more : List T) (from to : ℕ) → from ≤ to → to ≤ length xs → slice_range (xs ++ more) from to ≡ slice_range xs from to
range_more xs more from to rising inside =
    let low : from ≤ length xs = omega arith in
    let long : to - from ≤ length (drop from xs) = omega (arith, length-drop from xs) in
    ap (take (to - from)) (drop-append-le from xs more low) ∙ take-append-le (to - from) (drop from xs) more long

-- one more at the end
pub range_push : {T : Type 0} (xs : List T) (x : T) (from : ℕ) → from ≤ length xs
    → slice_range (xs ++ x ∷ []) from (length xs + 1) ≡ slice_range xs from (length xs) ++ x ∷ []
range_push {T} xs x from low =
    let short : length (drop from xs ++ x ∷ []) ≤ length xs + 1 - from = omega (arith, length-append (drop from xs) (x ∷ []), length-drop from xs) in
    ap (take (length xs + 1 - from)) (drop-append-le from xs (x ∷ []) low) ∙ take_all (length xs + 1 - from) (drop from xs ++ x ∷ []) short
    ∙ ap (λ (ys : List T). ys ++ x ∷ []) (sym (take_rest xs from))

pub what_more : (xs more : List (Bor (List ℕ))) (what : KeptWhat) → IsInside (length xs) what → what_kept (xs ++ more) what ≡ what_kept xs what
what_more xs more (kept.Buffer said) inside = refl
what_more xs more (kept.Producer producer) inside = refl
what_more xs more (kept.Source source) inside =
    ap (λ (part : List (Bor (List ℕ))). Source (record { name = source.name.now; target = source.target; filters = texts part })) (range_more xs more source.from source.to inside.0 inside.1)

pub block_more : (xs more : List (Bor (List ℕ))) (block : KeptBlock) → IsInside (length xs) block.what → block_kept (xs ++ more) block ≡ block_kept xs block
block_more xs more block inside =
    ap (λ (what : What). record { line = block.line; fits = block.fits; what = what }) (what_more xs more block.what inside)

pub blocks_more : (xs more : List (Bor (List ℕ))) (blocks : List KeptBlock) → AreInside (length xs) blocks → blocks_kept (xs ++ more) blocks ≡ blocks_kept xs blocks
blocks_more xs more [] inside = refl
blocks_more xs more (block ∷ blocks) inside =
    let P : KeptBlock → Type 0 = λ b. IsInside (length xs) b.what in
    ap (λ (b : Block). b ∷ blocks_kept (xs ++ more) blocks) (block_more xs more block (All-head P block blocks inside))
    ∙ ap (λ (bs : List Block). block_kept xs block ∷ bs) (blocks_more xs more blocks (All-tail P block blocks inside))

-- where the entries grew
pub blocks_grown : (old new : List (Bor (List ℕ))) (blocks : List KeptBlock) → GrowsBy old new → AreInside (length old) blocks → blocks_kept new blocks ≡ blocks_kept old blocks
blocks_grown old new blocks grows inside =
    ap (λ (xs : List (Bor (List ℕ))). blocks_kept xs blocks) grows.grown ∙ blocks_more old grows.more blocks inside

inside_more : (low high : ℕ) (what : KeptWhat) → low ≤ high → IsInside low what → IsInside high what
inside_more low high (kept.Buffer said) more inside = tt
inside_more low high (kept.Producer producer) more inside = tt
inside_more low high (kept.Source source) more inside = (inside.0, omega (arith, inside.1))

pub grown_len : (old new : List (Bor (List ℕ))) → GrowsBy old new → length old ≤ length new
grown_len old new grows = omega (arith, ap length grows.grown, length-append old grows.more)

-- those that lay inside still do
pub inside_grown : (old new : List (Bor (List ℕ))) (blocks : List KeptBlock) → GrowsBy old new → AreInside (length old) blocks → AreInside (length new) blocks
inside_grown old new blocks grows inside =
    let P : KeptBlock → Type 0 = λ b. IsInside (length old) b.what in
    let Q : KeptBlock → Type 0 = λ b. IsInside (length new) b.what in
    All-weaker P Q (λ b h. inside_more (length old) (length new) b.what (grown_len old new grows) h) blocks inside

-- the newest part lies inside
pub newest_inside : (count : ℕ) (what : KeptWhat) → IsNewest count what → IsInside count what
newest_inside count (kept.Buffer said) newest = tt
newest_inside count (kept.Producer producer) newest = tt
newest_inside count (kept.Source source) newest = (newest.0, omega (arith, newest.1))

-- a block that has ended joins those inside
pub inside_push : (count : ℕ) (blocks : List KeptBlock) (block : KeptBlock) → AreInside count blocks → IsNewest count block.what → AreInside count (blocks ++ block ∷ [])
inside_push count blocks block inside newest =
    let P : KeptBlock → Type 0 = λ b. IsInside count b.what in
    All-push P blocks block inside (newest_inside count block.what newest)

-- and what it says joins what the others say
pub blocks_push : (xs : List (Bor (List ℕ))) (blocks : List KeptBlock) (block : KeptBlock) → blocks_kept xs (blocks ++ block ∷ []) ≡ blocks_kept xs blocks ++ block_kept xs block ∷ []
blocks_push xs blocks block = map_push (block_kept xs) blocks block

-- an entry more of the source that is open
pub filter_kept : (xs : List (Bor (List ℕ))) (entry : Bor (List ℕ)) (from : ℕ) → from ≤ length xs
    → texts (slice_range (xs ++ entry ∷ []) from (length xs + 1)) ≡ texts (slice_range xs from (length xs)) ++ entry.now ∷ []
filter_kept xs entry from low =
    ap texts (range_push xs entry from low) ∙ map_push (λ (part : Bor (List ℕ)). part.now) (slice_range xs from (length xs)) entry

pub source_pushed : (xs new : List (Bor (List ℕ))) (entry : Bor (List ℕ)) (said : KeptSource) (to : ℕ) → new ≡ xs ++ entry ∷ [] → to ≡ length new
    → said.from ≤ said.to → said.to ≡ length xs
    → source_kept new (record { name = said.name; target = said.target; from = said.from; to = to }) ≡ with_filter (source_kept xs said) entry.now
unfolding with_filter
source_pushed xs new entry said to grown end rising newest =
    let low : said.from ≤ length xs = omega arith in
    let more : length xs + 1 ≡ to = omega (arith, ap length grown, length-append xs (entry ∷ [])) in
    let filters : texts (slice_range new said.from to) ≡ texts (slice_range xs said.from said.to) ++ entry.now ∷ [] =
    ap (λ (ys : List (Bor (List ℕ))). texts (slice_range ys said.from to)) grown
    ∙ ap (λ (n : ℕ). texts (slice_range (xs ++ entry ∷ []) said.from n)) (sym more)
    ∙ filter_kept xs entry said.from low
    ∙ ap (λ (n : ℕ). texts (slice_range xs said.from n) ++ entry.now ∷ []) (sym newest) in
    ap (λ (fs : List (List ℕ)). record { name = said.name.now; target = said.target; filters = fs }) filters

-- a field that is an entry of the filter
pub with_filter_entry : (name : List ℕ) (value : Value) (said : SourceSaid) (entry : List ℕ) → is name (codes "producer_name_filter") ≡ true
    → text_in value ≡ Some entry → source_with name value said ≡ Some (with_filter said entry)
unfolding source_with
with_filter_entry name value said entry named given = rw named (ap (option_map (with_filter said)) given)

-- a block that says more, or as much as before, has the newest entries still
pub saying_newest : (count : ℕ) (found : Option KeptWhat) (was now : KeptWhat) → IsNewest count was → IfSome found (λ (what : KeptWhat). IsNewest count what)
    → IfSome found (λ (what : KeptWhat). now ≡ what) → IfNone found (now ≡ was) → IsNewest count now
saying_newest count None was now newest more some none = let P : KeptWhat → Type 0 = λ w. IsNewest count w in subst P (sym none) newest
saying_newest count (Some what) was now newest more some none = let P : KeptWhat → Type 0 = λ w. IsNewest count w in subst P (sym some) more
