-- What is known of a text, block by block.
use Rattle.std.proofs.Common.{◌≡◌, ◌∙◌, ℕ, ◌+◌, ◌<◌, ◌≤◌, ◌==◌, Bool, true, false, ◌&&◌, List, [], ◌∷◌, ◌++◌, length, take, get_or, map, Option, Some, None, refl, sym, ap, subst}
use Rattle.std.specs.Borrow.{Bor}
use Rattle.std.specs.List.{filter_map, list_all}
use Rattle.std.proofs.lemmas.List.{map_more, take_all, append-nil, map-append}
use Rattle.std.proofs.lemmas.List.Elements.{filter_map-append}
use Rattle.std.proofs.lemmas.List.Folds.{list_all-append}
use Rattle.std.proofs.lemmas.Bool.{both_ways}
use Rattle.trace_base.proofs.Choices.{more_isnt_none}
use Rattle.config_text.specs.declared.kept.KeptProducer.{KeptProducer}
use Rattle.config_text.specs.declared.kept.KeptBlock.{KeptBlock}
use Rattle.trace_base.specs.declared.numeral.Numeral.{Numeral}
use Rattle.config_text.specs.Blocks.{Block, ProducerSaid, no_producer}
use Rattle.config_text.specs.Kept.{producer_kept, block_kept, blocks_kept}
use Rattle.config_text.specs.Reasons.{sizes_in, producers_said, is_fit_producer, or_default, known_in}

and_all : (b : Bool) → (b && true) ≡ b
and_all true = refl
and_all false = refl

-- ---- one block more

-- what a function gives of the blocks so far and of one more
pub more_of : {Y : Type 0} (h : Block → Option Y) (entries : List (Bor (List ℕ))) (blocks : List KeptBlock) (i : ℕ) (d : KeptBlock) → i < length blocks
    → filter_map h (blocks_kept entries (take (i + 1) blocks))
    ≡ filter_map h (blocks_kept entries (take i blocks)) ++ filter_map h (block_kept entries (get_or blocks i d) ∷ [])
more_of h entries blocks i d inside =
    ap (filter_map h) (map_more (block_kept entries) blocks i d inside)
    ∙ filter_map-append h (blocks_kept entries (take i blocks)) (block_kept entries (get_or blocks i d) ∷ [])

one_of : {Y : Type 0} (h : Block → Option Y) (block : Block) (y : Y) → h block ≡ Some y → filter_map h (block ∷ []) ≡ y ∷ []
one_of h block y is = rw is refl

none_of : {Y : Type 0} (h : Block → Option Y) (block : Block) → h block ≡ None → filter_map h (block ∷ []) ≡ []
none_of h block is = rw is refl

pub more_some : {Y : Type 0} (h : Block → Option Y) (entries : List (Bor (List ℕ))) (blocks : List KeptBlock) (i : ℕ) (d : KeptBlock) (y : Y) → i < length blocks
    → h (block_kept entries (get_or blocks i d)) ≡ Some y
    → filter_map h (blocks_kept entries (take (i + 1) blocks)) ≡ filter_map h (blocks_kept entries (take i blocks)) ++ y ∷ []
more_some h entries blocks i d y inside is =
    more_of h entries blocks i d inside ∙ ap (λ ys. filter_map h (blocks_kept entries (take i blocks)) ++ ys) (one_of h (block_kept entries (get_or blocks i d)) y is)

pub more_none : {Y : Type 0} (h : Block → Option Y) (entries : List (Bor (List ℕ))) (blocks : List KeptBlock) (i : ℕ) (d : KeptBlock) → i < length blocks
    → h (block_kept entries (get_or blocks i d)) ≡ None
    → filter_map h (blocks_kept entries (take (i + 1) blocks)) ≡ filter_map h (blocks_kept entries (take i blocks))
more_none h entries blocks i d inside is =
    more_of h entries blocks i d inside
    ∙ ap (λ ys. filter_map h (blocks_kept entries (take i blocks)) ++ ys) (none_of h (block_kept entries (get_or blocks i d)) is)
    ∙ append-nil (filter_map h (blocks_kept entries (take i blocks)))

-- a test of the blocks so far and of one more
pub all_more : (test : Block → Bool) (entries : List (Bor (List ℕ))) (blocks : List KeptBlock) (i : ℕ) (d : KeptBlock) → i < length blocks
    → list_all test (blocks_kept entries (take (i + 1) blocks)) ≡ (list_all test (blocks_kept entries (take i blocks)) && test (block_kept entries (get_or blocks i d)))
all_more test entries blocks i d inside =
    ap (list_all test) (map_more (block_kept entries) blocks i d inside)
    ∙ list_all-append test (blocks_kept entries (take i blocks)) (block_kept entries (get_or blocks i d) ∷ [])
    ∙ ap (λ (b : Bool). list_all test (blocks_kept entries (take i blocks)) && b) (and_all (test (block_kept entries (get_or blocks i d))))

-- ---- the producer of a text without any

pub default_pushed : (producers : List KeptProducer) (producer : KeptProducer) → (length producers == 0) ≡ true → producer_kept producer ≡ no_producer
    → map producer_kept (producers ++ producer ∷ []) ≡ or_default (map producer_kept producers)
unfolding or_default
default_pushed [] producer none is = ap (λ (p : ProducerSaid). p ∷ []) is
default_pushed (first ∷ producers) producer none is = absurd (both_ways (length (first ∷ producers) == 0) (more_isnt_none (length producers)) none)

pub default_kept : (producers : List KeptProducer) → (length producers == 0) ≡ false → map producer_kept producers ≡ or_default (map producer_kept producers)
unfolding or_default
default_kept [] some = absurd (cc)
default_kept (first ∷ producers) some = refl

-- ---- all blocks

pub known_all : (entries : List (Bor (List ℕ))) (blocks : List KeptBlock) (i : ℕ) (sizes : List (Option Numeral)) (said made : List ProducerSaid) (fit : Bool) → length blocks ≤ i
    → sizes ≡ sizes_in (blocks_kept entries (take i blocks)) → said ≡ producers_said (blocks_kept entries (take i blocks))
    → fit ≡ list_all (λ (block : Block). is_fit_producer block.fits block.what) (blocks_kept entries (take i blocks)) → made ≡ or_default said
    → record { sizes = sizes; producers = made; fit = fit } ≡ known_in (blocks_kept entries blocks)
unfolding known_in
known_all entries blocks i sizes said made fit past sized named fitted defaulted =
    let all : take i blocks ≡ blocks = take_all i blocks past in
    let P : List KeptBlock → Type 0 = λ bs. record { sizes = sizes; producers = made; fit = fit } ≡ known_in (blocks_kept entries bs) in
    subst P all (rw (sized, defaulted, named, fitted) refl)

-- what was made of the blocks so far, and of one more
pub said_more : {Y Z : Type 0} (f : Y → Z) (h : Block → Option Y) (entries : List (Bor (List ℕ))) (blocks : List KeptBlock) (i : ℕ) (d : KeptBlock) → i < length blocks
    → (old new : List Z) → old ≡ map f (filter_map h (blocks_kept entries (take i blocks)))
    → new ≡ old ++ map f (filter_map h (block_kept entries (get_or blocks i d) ∷ []))
    → new ≡ map f (filter_map h (blocks_kept entries (take (i + 1) blocks)))
said_more {Y} {Z} f h entries blocks i d inside old new before now =
    now
    ∙ ap (λ (zs : List Z). zs ++ map f (filter_map h (block_kept entries (get_or blocks i d) ∷ []))) before
    ∙ sym (map-append f (filter_map h (blocks_kept entries (take i blocks))) (filter_map h (block_kept entries (get_or blocks i d) ∷ [])))
    ∙ ap (map f) (sym (more_of h entries blocks i d inside))
