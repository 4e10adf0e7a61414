-- The first block that is refused, block by block.
use Rattle.std.proofs.Common.{◌≡◌, ◌∙◌, ℕ, ◌+◌, ◌<◌, ◌≤◌, Bool, true, false, List, [], ◌∷◌, ◌++◌, length, take, drop, get_or, map, Option, Some, None, refl, sym, ap, arith, length-append}
use Rattle.std.specs.Prelude.{slice_get, option_map}
use Rattle.std.specs.Borrow.{Bor}
use Rattle.std.proofs.lemmas.List.{map_more, drop_more, drop_all}
use Rattle.std.proofs.lemmas.Option.{slice_get-map}
use Rattle.config_text.specs.declared.judging.Counts.{Counts}
use Rattle.config_text.specs.declared.kept.KeptProducer.{KeptProducer}
use Rattle.config_text.specs.declared.kept.KeptBlock.{KeptBlock}
use Rattle.config_text.specs.declared.kept.KeptWhat.{KeptWhat}
use Rattle.config_text.specs.declared.kept.KeptWhat.TheVariants as kept
use Rattle.config_text.specs.declared.reason.ConfigReason.{ConfigReason}
use Rattle.config_text.specs.declared.reason.ConfigReason.TheVariants.{WrongKind}
use Rattle.config_text.specs.Blocks.{Block, begun}
use Rattle.config_text.specs.Judging.{HasCounts, counts_with}
use Rattle.config_text.specs.Kept.{producer_kept, source_kept, what_kept, block_kept, blocks_kept}
use Rattle.config_text.specs.Reasons.{Known, refusal_of, or_later, first_refusal, buffer_in, producer_in, source_in, buffers_said, producers_said, sources_said}
use Rattle.config_text.proofs.LookUpLemmas.{more_some, more_none}

-- a block with a field that hasn't its kind
pub unfit_refused : (known : Known) (blocks : List Block) (block : Block) → block.fits ≡ false → Some WrongKind ≡ refusal_of known blocks block
unfolding refusal_of
unfit_refused known blocks block unfit = rw unfit refl

-- one without
pub fit_block : (entries : List (Bor (List ℕ))) (block : KeptBlock) → block.fits ≡ true → begun block.line (what_kept entries block.what) ≡ block_kept entries block
unfolding begun
fit_block entries block fits = ap (λ (b : Bool). record { line = block.line; fits = b; what = what_kept entries block.what }) (sym fits)

-- what is known of its kind
pub fit_what : (entries : List (Bor (List ℕ))) (block : KeptBlock) (what : KeptWhat) → block.fits ≡ true → block.what ≡ what
    → begun block.line (what_kept entries what) ≡ block_kept entries block
fit_what entries block what fits is =
    ap (λ (w : KeptWhat). begun block.line (what_kept entries w)) (sym is) ∙ fit_block entries block fits

-- ---- from block to block

abbrev behind : Known → List (Bor (List ℕ)) → List KeptBlock → ℕ → Option (ℕ × ConfigReason)
behind known entries blocks i = first_refusal known (blocks_kept entries (take i blocks)) (blocks_kept entries (drop i blocks))

behind_is : (known : Known) (entries : List (Bor (List ℕ))) (blocks : List KeptBlock) (i : ℕ) (d : KeptBlock) → i < length blocks
    → behind known entries blocks i
    ≡ or_later (get_or blocks i d).line (refusal_of known (blocks_kept entries (take i blocks)) (block_kept entries (get_or blocks i d)))
    (behind known entries blocks (i + 1))
behind_is known entries blocks i d inside =
    let block : Block = block_kept entries (get_or blocks i d) in
    let before : List Block = blocks_kept entries (take i blocks) in
    ap (λ (bs : List KeptBlock). first_refusal known before (blocks_kept entries bs)) (drop_more blocks i d inside)
    ∙ ap (λ (bs : List Block). or_later block.line (refusal_of known before block) (first_refusal known bs (blocks_kept entries (drop (i + 1) blocks))))
    (sym (map_more (block_kept entries) blocks i d inside))

-- a block that isn't refused
pub goes_on : (known : Known) (entries : List (Bor (List ℕ))) (blocks : List KeptBlock) (i : ℕ) (d : KeptBlock) → i < length blocks
    → None ≡ refusal_of known (blocks_kept entries (take i blocks)) (block_kept entries (get_or blocks i d))
    → behind known entries blocks (i + 1) ≡ behind known entries blocks i
unfolding or_later
goes_on known entries blocks i d inside none =
    sym (behind_is known entries blocks i d inside
    ∙ ap (λ (o : Option ConfigReason). or_later (get_or blocks i d).line o (behind known entries blocks (i + 1))) (sym none))

-- one that is
pub stops : (known : Known) (entries : List (Bor (List ℕ))) (blocks : List KeptBlock) (i : ℕ) (d : KeptBlock) (reason : ConfigReason) → i < length blocks
    → Some reason ≡ refusal_of known (blocks_kept entries (take i blocks)) (block_kept entries (get_or blocks i d))
    → behind known entries blocks i ≡ Some ((get_or blocks i d).line, reason)
unfolding or_later
stops known entries blocks i d reason inside some =
    behind_is known entries blocks i d inside
    ∙ ap (λ (o : Option ConfigReason). or_later (get_or blocks i d).line o (behind known entries blocks (i + 1))) (sym some)

-- none is left
pub ends : (known : Known) (entries : List (Bor (List ℕ))) (blocks : List KeptBlock) (i : ℕ) → length blocks ≤ i → behind known entries blocks i ≡ None
ends known entries blocks i past =
    ap (λ (bs : List KeptBlock). first_refusal known (blocks_kept entries (take i blocks)) (blocks_kept entries bs)) (drop_all i blocks past)

-- ---- the counts

push_len : {T : Type 0} (xs : List T) (x : T) (n : ℕ) → length xs ≡ n → length (xs ++ x ∷ []) ≡ n + 1
push_len xs x n is = omega (arith, length-append xs (x ∷ []), is)

-- of one block more, whose kind is known
counted : (what : KeptWhat) (counts : Counts) (entries : List (Bor (List ℕ))) (blocks : List KeptBlock) (i : ℕ) (d : KeptBlock) → i < length blocks
    → (get_or blocks i d).what ≡ what → HasCounts counts (blocks_kept entries (take i blocks))
    → HasCounts (counts_with counts what) (blocks_kept entries (take (i + 1) blocks))
unfolding buffer_in producer_in source_in
counted (kept.Buffer said) counts entries blocks i d inside is has = record {
  buffers = ap length (more_some (λ b. buffer_in b.what) entries blocks i d said inside (rw is refl)) ∙ push_len (buffers_said (blocks_kept entries (take i blocks))) said counts.buffers has.buffers;
  producers = ap length (more_none (λ b. producer_in b.what) entries blocks i d inside (rw is refl)) ∙ has.producers;
  sources = ap length (more_none (λ b. source_in b.what) entries blocks i d inside (rw is refl)) ∙ has.sources;
}
counted (kept.Producer said) counts entries blocks i d inside is has = record {
  buffers = ap length (more_none (λ b. buffer_in b.what) entries blocks i d inside (rw is refl)) ∙ has.buffers;
  producers = ap length (more_some (λ b. producer_in b.what) entries blocks i d (producer_kept said) inside (rw is refl)) ∙ push_len (producers_said (blocks_kept entries (take i blocks))) (producer_kept said) counts.producers has.producers;
  sources = ap length (more_none (λ b. source_in b.what) entries blocks i d inside (rw is refl)) ∙ has.sources;
}
counted (kept.Source said) counts entries blocks i d inside is has = record {
  buffers = ap length (more_none (λ b. buffer_in b.what) entries blocks i d inside (rw is refl)) ∙ has.buffers;
  producers = ap length (more_none (λ b. producer_in b.what) entries blocks i d inside (rw is refl)) ∙ has.producers;
  sources = ap length (more_some (λ b. source_in b.what) entries blocks i d (source_kept entries said) inside (rw is refl)) ∙ push_len (sources_said (blocks_kept entries (take i blocks))) (source_kept entries said) counts.sources has.sources;
}

pub counts_more : (counts : Counts) (entries : List (Bor (List ℕ))) (blocks : List KeptBlock) (i : ℕ) (d : KeptBlock) → i < length blocks
    → HasCounts counts (blocks_kept entries (take i blocks))
    → HasCounts (counts_with counts (get_or blocks i d).what) (blocks_kept entries (take (i + 1) blocks))
counts_more counts entries blocks i d inside has = counted (get_or blocks i d).what counts entries blocks i d inside refl has

-- counts that are at most so many are so still
pub counts_low : (counts : Counts) (what : KeptWhat) (i : ℕ) → (counts.buffers ≤ i) × (counts.producers ≤ i) × (counts.sources ≤ i)
    → ((counts_with counts what).buffers ≤ i + 1) × ((counts_with counts what).producers ≤ i + 1) × ((counts_with counts what).sources ≤ i + 1)
counts_low counts (kept.Buffer said) i low = (omega (arith, low.0), omega (arith, low.1), omega (arith, low.2))
counts_low counts (kept.Producer said) i low = (omega (arith, low.0), omega (arith, low.1), omega (arith, low.2))
counts_low counts (kept.Source said) i low = (omega (arith, low.0), omega (arith, low.1), omega (arith, low.2))

-- ---- the producer of a source

pub found_producer : (producers : List KeptProducer) (place : ℕ) (producer : KeptProducer) → slice_get producers place ≡ Some producer
    → slice_get (map producer_kept producers) place ≡ Some (producer_kept producer)
found_producer producers place producer is = slice_get-map producer_kept producers place ∙ ap (option_map producer_kept) is

pub no_producer : (producers : List KeptProducer) (place : ℕ) → slice_get producers place ≡ None → slice_get (map producer_kept producers) place ≡ None
no_producer producers place is = slice_get-map producer_kept producers place ∙ ap (option_map producer_kept) is
