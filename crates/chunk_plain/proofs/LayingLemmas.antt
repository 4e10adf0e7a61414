-- The chunks of a set-up are laid out as a table needs them.
use Rattle.std.proofs.Common.{◌≡◌, ℕ, zero, suc, ◌+◌, ◌-◌, ◌*◌, ◌<◌, ◌≤◌, ◌⊎◌, inl, inr, List, [], ◌∷◌, ◌++◌, length, get_or, subst, sym, refl, ap, ◌∙◌, arith, ⊎_elim, length-append, append_assoc, append-nil, zero-add, add-zero}
use Rattle.std.proofs.Math.Logic.{∥∥₁_elim}
use Rattle.std.specs.Coded.{le_prop}
use Rattle.std.proofs.lemmas.List.{get_or_append_left, get_or-append_right}
use Rattle.std.proofs.lemmas.List.Elements.{All-head, All-tail}
use Rattle.std.proofs.lemmas.Nat.{mul-le}
use Rattle.std.specs.List.{All}
use Rattle.std.proofs.Math.Seq.{get_or-append_seam}
use native.Mathlib.Decide.{dec_le}
use mathlib.Core.Logic.{dite}
use Rattle.trace_base.specs.declared.limits.TheConstants.{MAX_PRODUCERS, MAX_PAGES}
use Rattle.trace_base.specs.declared.policy.WriterSpec.{WriterSpec}
use Rattle.page_geometry.specs.Sizes.{IsChunkCount, layout_number, payload_size}
use Rattle.page_geometry.proofs.SizeLemmas.{payload_size_least, payload_size_most}
use Rattle.page_geometry.specs.declared.geometry.Geometry.{Geometry}
use Rattle.chunk_plain.specs.declared.setup.ProducerSpec.{ProducerSpec}
use Rattle.chunk_plain.specs.declared.setup.Spot.{Spot}
use Rattle.chunk_plain.specs.Setup.{no_spot, ProducersAreApart, IsLaid, Setup, IsChunkOf}
use Rattle.chunk_plain.specs.Laying.{spot_at, page_spots, pages_spots, spots_of, ranges_of, sizes_of, pages_in, chunks_in, setup_of}

abbrev Bounded : ℕ → Type 0
Bounded chunks = (chunks ≤ 14) × (layout_number chunks < 8) × (1 ≤ chunks)

bounds : (chunks : ℕ) → IsChunkCount chunks → Bounded chunks
unfolding layout_number
bounds chunks (zero, _, is) = subst Bounded is (omega arith, omega arith, omega arith)
bounds chunks (suc zero, _, is) = subst Bounded is (omega arith, omega arith, omega arith)
bounds chunks (suc (suc zero), _, is) = subst Bounded is (omega arith, omega arith, omega arith)
bounds chunks (suc (suc (suc zero)), _, is) = subst Bounded is (omega arith, omega arith, omega arith)
bounds chunks (suc (suc (suc (suc zero))), _, is) = subst Bounded is (omega arith, omega arith, omega arith)
bounds chunks (suc (suc (suc (suc (suc _)))), inside, _) = absurd (omega (arith, inside))

geometry_most : (geometry : Geometry) → geometry.chunks ≤ 14
geometry_most geometry = ∥∥₁_elim geometry.counted (hlevel le_prop) (λ counted. (bounds geometry.chunks counted).0)

geometry_layout : (geometry : Geometry) → layout_number geometry.chunks < 8
geometry_layout geometry = ∥∥₁_elim geometry.counted (hlevel le_prop) (λ counted. (bounds geometry.chunks counted).1)

geometry_least : (geometry : Geometry) → 1 ≤ geometry.chunks
geometry_least geometry = ∥∥₁_elim geometry.counted (hlevel le_prop) (λ counted. (bounds geometry.chunks counted).2)

-- The chunks so far: those of whole pages before this page, and of it the first ones, so many, of this geometry.
record LaidUpTo (spots : List Spot) (page place chunks layout : ℕ) : Type 0 where
  before : (c : ℕ) → c < length spots → ((get_or spots c no_spot).page < page)
      ⊎ (((get_or spots c no_spot).page ≡ page) × ((get_or spots c no_spot).place < place) × ((get_or spots c no_spot).chunks ≡ chunks) × ((get_or spots c no_spot).layout ≡ layout))
  inside : (c : ℕ) → c < length spots → (get_or spots c no_spot).place < (get_or spots c no_spot).chunks
  most : (c : ℕ) → c < length spots → (get_or spots c no_spot).chunks ≤ 14
  numbered : (c : ℕ) → c < length spots → (get_or spots c no_spot).layout < 8
  sized : (c : ℕ) → c < length spots → (284 ≤ (get_or spots c no_spot).payload_size) × ((get_or spots c no_spot).payload_size < 65536)
  apart : (c d : ℕ) → c < length spots → d < length spots → (get_or spots c no_spot).page ≡ (get_or spots d no_spot).page → (get_or spots c no_spot).place ≡ (get_or spots d no_spot).place → c ≡ d
  alike : (c d : ℕ) → c < length spots → d < length spots → (get_or spots c no_spot).page ≡ (get_or spots d no_spot).page
      → ((get_or spots c no_spot).chunks ≡ (get_or spots d no_spot).chunks) × ((get_or spots c no_spot).layout ≡ (get_or spots d no_spot).layout)

-- a read of a list with one more element: an old one, or the last
snoc_read : (P : ℕ → Spot → Type 0) (spots : List Spot) (new : Spot) (c : ℕ) → c < length (spots ++ new ∷ [])
    → (c < length spots → P c (get_or spots c no_spot)) → (c ≡ length spots → P (length spots) new) → P c (get_or (spots ++ new ∷ []) c no_spot)
snoc_read P spots new c below old last =
    dite (dec_le (suc c) (length spots))
    (λ less. let low : c < length spots = less in subst (P c) (sym (get_or_append_left spots (new ∷ []) no_spot c low)) (old low))
    (λ not_less. let same : c ≡ length spots = omega (arith, length-append spots (new ∷ [])) in
    subst (λ i. P i (get_or (spots ++ new ∷ []) i no_spot)) (sym same) (subst (P (length spots)) (sym (get_or-append_seam spots new [] no_spot)) (last same)))

abbrev Apart : Spot → ℕ → Spot → ℕ → Type 0
Apart x c y d = x.page ≡ y.page → x.place ≡ y.place → c ≡ d

abbrev Alike : Spot → Spot → Type 0
Alike x y = x.page ≡ y.page → (x.chunks ≡ y.chunks) × (x.layout ≡ y.layout)

-- one more chunk of the page
lay_push : (spots : List Spot) (page n : ℕ) (geometry : Geometry) → n < geometry.chunks → LaidUpTo spots page n geometry.chunks (layout_number geometry.chunks)
    → LaidUpTo (spots ++ spot_at page n geometry ∷ []) page (suc n) geometry.chunks (layout_number geometry.chunks)
lay_push spots page n geometry fits o =
    let new = spot_at page n geometry in let ch = geometry.chunks in let la = layout_number geometry.chunks in
    record {
      before = λ c below. snoc_read (λ _ x. (x.page < page) ⊎ ((x.page ≡ page) × (x.place < suc n) × (x.chunks ≡ ch) × (x.layout ≡ la))) spots new c below
          (λ low. ⊎_elim (λ less. inl less) (λ (same : ((get_or spots c no_spot).page ≡ page) × ((get_or spots c no_spot).place < n) × ((get_or spots c no_spot).chunks ≡ ch) × ((get_or spots c no_spot).layout ≡ la)). inr (same.0, (let less = same.1 in omega arith), same.2, same.3)) (o.before c low))
          (λ _. inr (refl, omega arith, refl, refl));
      inside = λ c below. snoc_read (λ _ x. x.place < x.chunks) spots new c below (o.inside c) (λ _. fits);
      most = λ c below. snoc_read (λ _ x. x.chunks ≤ 14) spots new c below (o.most c) (λ _. geometry_most geometry);
      numbered = λ c below. snoc_read (λ _ x. x.layout < 8) spots new c below (o.numbered c) (λ _. geometry_layout geometry);
      sized = λ c below. snoc_read (λ _ x. (284 ≤ x.payload_size) × (x.payload_size < 65536)) spots new c below (o.sized c)
          (λ _. (payload_size_least geometry, (let most = payload_size_most geometry in omega arith)));
      apart = λ c d below_c below_d.
          snoc_read (λ i x. Apart x i (get_or (spots ++ new ∷ []) d no_spot) d) spots new c below_c
          (λ low_c. snoc_read (λ j y. Apart (get_or spots c no_spot) c y j) spots new d below_d
          (λ low_d. o.apart c d low_c low_d)
          (λ _ same_page same_place. absurd (⊎_elim (λ less. omega arith) (λ (same : ((get_or spots c no_spot).page ≡ page) × ((get_or spots c no_spot).place < n) × ((get_or spots c no_spot).chunks ≡ ch) × ((get_or spots c no_spot).layout ≡ la)). let less = same.1 in omega arith) (o.before c low_c))))
          (λ _. snoc_read (λ j y. Apart new (length spots) y j) spots new d below_d
          (λ low_d same_page same_place. absurd (⊎_elim (λ less. omega arith) (λ (same : ((get_or spots d no_spot).page ≡ page) × ((get_or spots d no_spot).place < n) × ((get_or spots d no_spot).chunks ≡ ch) × ((get_or spots d no_spot).layout ≡ la)). let less = same.1 in omega arith) (o.before d low_d)))
          (λ _ _ _. refl));
      alike = λ c d below_c below_d.
          snoc_read (λ _ x. Alike x (get_or (spots ++ new ∷ []) d no_spot)) spots new c below_c
          (λ low_c. snoc_read (λ _ y. Alike (get_or spots c no_spot) y) spots new d below_d
          (λ low_d. o.alike c d low_c low_d)
          (λ _ same_page. ⊎_elim (λ less. absurd (omega arith)) (λ (same : ((get_or spots c no_spot).page ≡ page) × ((get_or spots c no_spot).place < n) × ((get_or spots c no_spot).chunks ≡ ch) × ((get_or spots c no_spot).layout ≡ la)). (same.2, same.3)) (o.before c low_c)))
          (λ _. snoc_read (λ _ y. Alike new y) spots new d below_d
          (λ low_d same_page. ⊎_elim (λ less. absurd (omega arith)) (λ (same : ((get_or spots d no_spot).page ≡ page) × ((get_or spots d no_spot).place < n) × ((get_or spots d no_spot).chunks ≡ ch) × ((get_or spots d no_spot).layout ≡ la)). (sym same.2, sym same.3)) (o.before d low_d))
          (λ _ _. (refl, refl)));
    }

-- the next page is begun
lay_turn : (spots : List Spot) (page next place chunks layout chunks' layout' : ℕ) → page < next → LaidUpTo spots page place chunks layout → LaidUpTo spots next 0 chunks' layout'
lay_turn spots page next place chunks layout chunks' layout' later o =
    record {
      before = λ c below. inl (⊎_elim (λ less. omega arith) (λ (same : ((get_or spots c no_spot).page ≡ page) × ((get_or spots c no_spot).place < place) × ((get_or spots c no_spot).chunks ≡ chunks) × ((get_or spots c no_spot).layout ≡ layout)). let is = same.0 in omega arith) (o.before c below));
      inside = o.inside;
      most = o.most;
      numbered = o.numbered;
      sized = o.sized;
      apart = o.apart;
      alike = o.alike;
    }

-- the first page is as good as any where no chunk is
lay_again : (spots : List Spot) (page chunks layout chunks' layout' : ℕ) → LaidUpTo spots page 0 chunks layout → LaidUpTo spots page 0 chunks' layout'
lay_again spots page chunks layout chunks' layout' o =
    record {
      before = λ c below. ⊎_elim (λ less. inl less) (λ (same : ((get_or spots c no_spot).page ≡ page) × ((get_or spots c no_spot).place < 0) × ((get_or spots c no_spot).chunks ≡ chunks) × ((get_or spots c no_spot).layout ≡ layout)). absurd (let less = same.1 in omega arith)) (o.before c below);
      inside = o.inside;
      most = o.most;
      numbered = o.numbered;
      sized = o.sized;
      apart = o.apart;
      alike = o.alike;
    }

lay_page : (spots : List Spot) (page : ℕ) (geometry : Geometry) (n : ℕ) → n ≤ geometry.chunks → LaidUpTo spots page 0 geometry.chunks (layout_number geometry.chunks)
    → LaidUpTo (spots ++ page_spots page geometry n) page n geometry.chunks (layout_number geometry.chunks)
lay_page spots page geometry zero fits o = subst (λ l. LaidUpTo l page 0 geometry.chunks (layout_number geometry.chunks)) (sym (append-nil spots)) o
lay_page spots page geometry (suc n) fits o =
    subst (λ l. LaidUpTo l page (suc n) geometry.chunks (layout_number geometry.chunks)) (append_assoc spots (page_spots page geometry n) (spot_at page n geometry ∷ []))
    (lay_push (spots ++ page_spots page geometry n) page n geometry (omega arith) (lay_page spots page geometry n (omega arith) o))

lay_pages : (spots : List Spot) (page : ℕ) (geometry : Geometry) (n : ℕ) → LaidUpTo spots page 0 geometry.chunks (layout_number geometry.chunks)
    → LaidUpTo (spots ++ pages_spots page geometry n) (page + n) 0 geometry.chunks (layout_number geometry.chunks)
lay_pages spots page geometry zero o = subst (λ l. LaidUpTo l (page + 0) 0 geometry.chunks (layout_number geometry.chunks)) (sym (append-nil spots)) (subst (λ p. LaidUpTo spots p 0 geometry.chunks (layout_number geometry.chunks)) (sym (add-zero page)) o)
lay_pages spots page geometry (suc n) o =
    subst (λ l. LaidUpTo l (page + suc n) 0 geometry.chunks (layout_number geometry.chunks)) (append_assoc spots (pages_spots page geometry n) (page_spots (page + n) geometry geometry.chunks))
    (lay_turn ((spots ++ pages_spots page geometry n) ++ page_spots (page + n) geometry geometry.chunks) (page + n) (page + suc n) geometry.chunks geometry.chunks (layout_number geometry.chunks) geometry.chunks (layout_number geometry.chunks) (omega arith)
    (lay_page (spots ++ pages_spots page geometry n) (page + n) geometry geometry.chunks (omega arith) (lay_pages spots page geometry n o)))

lay_all : (spots : List Spot) (page chunks layout : ℕ) (producers : List ProducerSpec) → LaidUpTo spots page 0 chunks layout → LaidUpTo (spots ++ spots_of page producers) (page + pages_in producers) 0 chunks layout
lay_all spots page chunks layout [] o = subst (λ l. LaidUpTo l (page + 0) 0 chunks layout) (sym (append-nil spots)) (subst (λ p. LaidUpTo spots p 0 chunks layout) (sym (add-zero page)) o)
lay_all spots page chunks layout (producer ∷ producers) o =
    let geometry = producer.geometry in
    let total : (page + producer.pages) + pages_in producers ≡ page + (producer.pages + pages_in producers) = omega arith in
    subst (λ p. LaidUpTo (spots ++ (pages_spots page geometry producer.pages ++ spots_of (page + producer.pages) producers)) p 0 chunks layout) total
    (subst (λ l. LaidUpTo l ((page + producer.pages) + pages_in producers) 0 chunks layout) (append_assoc spots (pages_spots page geometry producer.pages) (spots_of (page + producer.pages) producers))
    (lay_all (spots ++ pages_spots page geometry producer.pages) (page + producer.pages) chunks layout producers
    (lay_again (spots ++ pages_spots page geometry producer.pages) (page + producer.pages) geometry.chunks (layout_number geometry.chunks) chunks layout
    (lay_pages spots page geometry producer.pages (lay_again spots page chunks layout geometry.chunks (layout_number geometry.chunks) o)))))

nothing_laid : (page : ℕ) → LaidUpTo [] page 0 0 0
nothing_laid page = record {
  before = λ c below. absurd (omega arith);
  inside = λ c below. absurd (omega arith);
  most = λ c below. absurd (omega arith);
  numbered = λ c below. absurd (omega arith);
  sized = λ c below. absurd (omega arith);
  apart = λ c d below _. absurd (omega arith);
  alike = λ c d below _. absurd (omega arith);
}

-- ---- how many chunks there are

pub length-page_spots : (page : ℕ) (geometry : Geometry) (n : ℕ) → length (page_spots page geometry n) ≡ n
length-page_spots page geometry zero = refl
length-page_spots page geometry (suc n) = length-append (page_spots page geometry n) (spot_at page n geometry ∷ []) ∙ (let tail = length-page_spots page geometry n in omega arith)

pub length-pages_spots : (page : ℕ) (geometry : Geometry) (n : ℕ) → length (pages_spots page geometry n) ≡ n * geometry.chunks
length-pages_spots page geometry zero = omega arith
length-pages_spots page geometry (suc n) =
    let tail : length (pages_spots page geometry n) ≡ n * geometry.chunks = length-pages_spots page geometry n in
    let one : length (page_spots (page + n) geometry geometry.chunks) ≡ geometry.chunks = length-page_spots (page + n) geometry geometry.chunks in
    let more : suc n * geometry.chunks ≡ n * geometry.chunks + geometry.chunks = omega arith in
    length-append (pages_spots page geometry n) (page_spots (page + n) geometry geometry.chunks) ∙ omega (arith, tail, one, more)

-- a producer has at most 64 pages of 14 chunks
pub few_spots : (page : ℕ) (producers : List ProducerSpec) → All (λ producer. producer.pages ≤ MAX_PAGES) producers → length (spots_of page producers) ≤ 896 * length producers
few_spots page [] few = omega arith
few_spots page (producer ∷ producers) few =
    let many : length (pages_spots page producer.geometry producer.pages) ≡ chunks_in producer = length-pages_spots page producer.geometry producer.pages in
    let most : chunks_in producer ≤ 896 = mul-le producer.pages producer.geometry.chunks 64 14 (All-head (λ (p : ProducerSpec). p.pages ≤ MAX_PAGES) producer producers few) (geometry_most producer.geometry) in
    let tail = few_spots (page + producer.pages) producers (All-tail (λ (p : ProducerSpec). p.pages ≤ MAX_PAGES) producer producers few) in
    omega (arith, many, most, tail, length-append (pages_spots page producer.geometry producer.pages) (spots_of (page + producer.pages) producers))

-- each producer's chunks are there
ranges_inside : (first page : ℕ) (producers : List ProducerSpec) (i : ℕ)
    → (get_or (ranges_of first producers) i (record { first = 0; count = 0 })).first + (get_or (ranges_of first producers) i (record { first = 0; count = 0 })).count ≤ first + length (spots_of page producers)
ranges_inside first page [] i = omega arith
ranges_inside first page (producer ∷ producers) zero =
    let many : length (pages_spots page producer.geometry producer.pages) ≡ chunks_in producer = length-pages_spots page producer.geometry producer.pages in
    omega (arith, many, length-append (pages_spots page producer.geometry producer.pages) (spots_of (page + producer.pages) producers))
ranges_inside first page (producer ∷ producers) (suc i) =
    let many : length (pages_spots page producer.geometry producer.pages) ≡ chunks_in producer = length-pages_spots page producer.geometry producer.pages in
    let tail = ranges_inside (first + chunks_in producer) (page + producer.pages) producers i in
    omega (arith, many, tail, length-append (pages_spots page producer.geometry producer.pages) (spots_of (page + producer.pages) producers))

-- each producer has a chunk
some_chunk : (first : ℕ) (producers : List ProducerSpec) (i : ℕ) → All (λ producer. 1 ≤ producer.pages) producers → i < length (ranges_of first producers)
    → 0 < (get_or (ranges_of first producers) i (record { first = 0; count = 0 })).count
some_chunk first [] i some inside = absurd (omega arith)
some_chunk first (producer ∷ producers) zero some inside =
    let least : 1 ≤ producer.pages = All-head (λ (p : ProducerSpec). 1 ≤ p.pages) producer producers some in
    let chunks = geometry_least producer.geometry in
    mul-le 1 1 producer.pages producer.geometry.chunks least chunks
some_chunk first (producer ∷ producers) (suc i) some inside =
    some_chunk (first + chunks_in producer) producers i (All-tail (λ (p : ProducerSpec). 1 ≤ p.pages) producer producers some) (omega arith)

-- the chunks of a producer's pages have the payload size of its geometry
pub page_sized : (page : ℕ) (geometry : Geometry) (n c : ℕ) → c < n → (get_or (page_spots page geometry n) c no_spot).payload_size ≡ payload_size geometry.page_size geometry.chunks
page_sized page geometry zero c below = absurd (omega arith)
page_sized page geometry (suc n) c below =
    snoc_read (λ _ x. x.payload_size ≡ payload_size geometry.page_size geometry.chunks) (page_spots page geometry n) (spot_at page n geometry) c
    (let many = length-page_spots page geometry (suc n) in omega arith)
    (λ low. page_sized page geometry n c (let many = length-page_spots page geometry n in omega arith))
    (λ _. refl)

pages_sized : (page : ℕ) (geometry : Geometry) (n c : ℕ) → c < length (pages_spots page geometry n) → (get_or (pages_spots page geometry n) c no_spot).payload_size ≡ payload_size geometry.page_size geometry.chunks
pages_sized page geometry zero c below = absurd (omega arith)
pages_sized page geometry (suc n) c below =
    let before = pages_spots page geometry n in let last = page_spots (page + n) geometry geometry.chunks in
    dite (dec_le (suc c) (length before))
    (λ less. ap (λ (x : Spot). x.payload_size) (get_or_append_left before last no_spot c less) ∙ pages_sized page geometry n c less)
    (λ above. ap (λ (x : Spot). x.payload_size) (get_or-append_right before last (length before) c no_spot refl (omega arith))
    ∙ page_sized (page + n) geometry geometry.chunks (c - length before) (let many = length-append before last in let one = length-page_spots (page + n) geometry geometry.chunks in omega arith))

-- a chunk of some producer isn't one of those before
pub range_behind : (first : ℕ) (producers : List ProducerSpec) (i c : ℕ) → (get_or (ranges_of first producers) i (record { first = 0; count = 0 })).first ≤ c
    → c < (get_or (ranges_of first producers) i (record { first = 0; count = 0 })).first + (get_or (ranges_of first producers) i (record { first = 0; count = 0 })).count → first ≤ c
range_behind first [] i c least below = absurd (omega arith)
range_behind first (producer ∷ producers) zero c least below = least
range_behind first (producer ∷ producers) (suc i) c least below = let tail = range_behind (first + chunks_in producer) producers i c least below in omega arith

-- a chunk of one producer's range is of no other
pub ranges_apart : (first : ℕ) (producers : List ProducerSpec) (i j c : ℕ)
    → (get_or (ranges_of first producers) i (record { first = 0; count = 0 })).first ≤ c
    → c < (get_or (ranges_of first producers) i (record { first = 0; count = 0 })).first + (get_or (ranges_of first producers) i (record { first = 0; count = 0 })).count
    → (get_or (ranges_of first producers) j (record { first = 0; count = 0 })).first ≤ c
    → c < (get_or (ranges_of first producers) j (record { first = 0; count = 0 })).first + (get_or (ranges_of first producers) j (record { first = 0; count = 0 })).count
    → i ≡ j
ranges_apart first [] i j c low high least most = absurd (omega (arith, low, high))
ranges_apart first (producer ∷ producers) zero zero c low high least most = refl
ranges_apart first (producer ∷ producers) zero (suc j) c low high least most =
    let behind = range_behind (first + chunks_in producer) producers j c least most in absurd (omega (arith, behind, high))
ranges_apart first (producer ∷ producers) (suc i) zero c low high least most =
    let behind = range_behind (first + chunks_in producer) producers i c low high in absurd (omega (arith, behind, most))
ranges_apart first (producer ∷ producers) (suc i) (suc j) c low high least most =
    ap suc (ranges_apart (first + chunks_in producer) producers i j c low high least most)

pub producers_apart : (producers : List ProducerSpec) (writers : List WriterSpec) → ProducersAreApart (setup_of producers writers)
producers_apart producers writers producer other chunk has has_other here there =
    let same = ranges_apart 0 producers (producer - 1) (other - 1) chunk here.least here.below there.least there.below in
    let first = has.least in
    let second = has_other.least in
    omega (arith, same, first, second)

range_sized : (first page : ℕ) (producers : List ProducerSpec) (i c : ℕ) → (get_or (ranges_of first producers) i (record { first = 0; count = 0 })).first ≤ c
    → c < (get_or (ranges_of first producers) i (record { first = 0; count = 0 })).first + (get_or (ranges_of first producers) i (record { first = 0; count = 0 })).count
    → (get_or (spots_of page producers) (c - first) no_spot).payload_size ≡ get_or (sizes_of producers) i 0
range_sized first page [] i c least below = absurd (omega arith)
range_sized first page (producer ∷ producers) zero c least below =
    let mine = pages_spots page producer.geometry producer.pages in let others = spots_of (page + producer.pages) producers in
    let many : length mine ≡ chunks_in producer = length-pages_spots page producer.geometry producer.pages in
    let inside : c - first < length mine = omega arith in
    ap (λ (x : Spot). x.payload_size) (get_or_append_left mine others no_spot (c - first) inside) ∙ pages_sized page producer.geometry producer.pages (c - first) inside
range_sized first page (producer ∷ producers) (suc i) c least below =
    let mine = pages_spots page producer.geometry producer.pages in let others = spots_of (page + producer.pages) producers in
    let many : length mine ≡ chunks_in producer = length-pages_spots page producer.geometry producer.pages in
    let behind = range_behind (first + chunks_in producer) producers i c least below in
    ap (λ (x : Spot). x.payload_size) (get_or-append_right mine others (length mine) (c - first) no_spot refl (omega arith))
    ∙ (ap (λ k. (get_or others k no_spot).payload_size) (let back : c - first - length mine ≡ c - (first + chunks_in producer) = omega arith in back)
    ∙ range_sized (first + chunks_in producer) (page + producer.pages) producers i c least below)

-- a producer's chunk is one of the table's
pub chunk_inside : (setup : Setup) (producer chunk : ℕ) → IsLaid setup → IsChunkOf setup producer chunk → chunk < length setup.spots
chunk_inside setup producer chunk laid own = let all = laid.ranges producer in let below = own.below in omega (arith, all, below)

pub setup_laid : (producers : List ProducerSpec) (writers : List WriterSpec) → length producers ≤ MAX_PRODUCERS → All (λ producer. 1 ≤ producer.pages) producers
    → All (λ producer. producer.pages ≤ MAX_PAGES) producers → IsLaid (setup_of producers writers)
setup_laid producers writers few some pages =
    let o = subst (λ p. LaidUpTo (spots_of 0 producers) p 0 0 0) (zero-add (pages_in producers)) (lay_all [] 0 0 0 producers (nothing_laid 0)) in
    let most = few_spots 0 producers pages in
    record {
      few = omega arith;
      page = λ c below. ⊎_elim (λ less. less) (λ (same : ((get_or (spots_of 0 producers) c no_spot).page ≡ pages_in producers) × ((get_or (spots_of 0 producers) c no_spot).place < 0) × ((get_or (spots_of 0 producers) c no_spot).chunks ≡ 0) × ((get_or (spots_of 0 producers) c no_spot).layout ≡ 0)). absurd (let less = same.1 in omega arith)) (o.before c below);
      place = o.inside;
      chunks = o.most;
      layout = o.numbered;
      apart = o.apart;
      alike = o.alike;
      ranges = λ producer. subst (λ n. (get_or (ranges_of 0 producers) (producer - 1) (record { first = 0; count = 0 })).first + (get_or (ranges_of 0 producers) (producer - 1) (record { first = 0; count = 0 })).count ≤ n) (zero-add (length (spots_of 0 producers))) (ranges_inside 0 0 producers (producer - 1));
      some = λ producer has. some_chunk 0 producers (producer - 1) some (let least = has.least in let most = has.most in omega arith);
      sizes = λ producer chunk own. ap (λ k. (get_or (spots_of 0 producers) k no_spot).payload_size) (let same : chunk ≡ chunk - 0 = omega arith in same) ∙ range_sized 0 0 producers (producer - 1) chunk own.least own.below;
      least = λ c below. (o.sized c below).0;
      most = λ c below. (o.sized c below).1;
    }
