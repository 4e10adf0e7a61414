-- How runs stand, and why the first place of a run is the best one.
use Rattle.std.proofs.Common.{◌≡◌, ◌≢◌, ◌↔◌, ℕ, zero, suc, ◌+◌, ◌<◌, ◌≤◌, ◌⊎◌, Bool, true, false, List, [], ◌∷◌, ◌++◌, length, get_or, Some, refl, sym, ap, subst, ◌∙◌, arith, inl, inr, ⊎_elim, append_assoc, set, eq-eqb}
use Rattle.std.specs.Prelude.{slice_get, ◌==◌, ◌||◌, not}
use Rattle.std.proofs.lemmas.Bool.{cases_eq, cases_lt, ne_eqb}
use Rattle.std.proofs.lemmas.List.{append-nil, get_or-set_same, get_or-set_other, length-set}
use Rattle.packet_runs.specs.Borders.{Nowhere, IsLongestBorder, BordersBelow, StandsAt}
use Rattle.packet_runs.specs.Runs.{Said, IsAt, StandFrom, StandIn, packet_at, run_of}
use Rattle.packet_runs.specs.Tellers.{run_at, with_next, IsAfter, IsReady}
use Rattle.packet_runs.proofs.BorderLemmas.{longest_same, border_one}
use Rattle.packet_runs.proofs.SearchLemmas.{Wanted, next_in, next_last}

-- ---- what stands at a place

pub there : (xs : List (List ℕ)) (i : ℕ) (x : List ℕ) → slice_get xs i ≡ Some x → (i < length xs) × (packet_at xs i ≡ x)
there [] i x e = absurd cc
there (y ∷ ys) zero x e = (omega arith, cc)
there (y ∷ ys) (suc i) x e = let rest = there ys i x e in (omega (arith, rest.0), rest.1)

pub there_is : (xs : List (List ℕ)) (i : ℕ) → i < length xs → slice_get xs i ≡ Some (packet_at xs i)
there_is [] i within = absurd (omega (arith, within))
there_is (y ∷ ys) zero within = refl
there_is (y ∷ ys) (suc i) within = there_is ys i (omega (arith, within))

-- an unmarked packet stands right behind the one before
unmarked_next : (place next : ℕ) → false ≡ (false || not (place == next)) → place ≡ next
unmarked_next place next e = ⊎_elim (λ (same : place ≡ next). same)
    (λ (ne : place ≢ next). absurd (let other : (place == next) ≡ false = ne_eqb place next ne in let both : false ≡ (false || not false) = e ∙ ap (λ (b : Bool). false || not b) other in cc)) (cases_eq place next)

-- a marked one doesn't
marked_apart : (place next : ℕ) → true ≡ (false || not (place == next)) → place ≢ next
marked_apart place next e same = let is : (place == next) ≡ true = eq-eqb place next same in let both : true ≡ (false || not true) = e ∙ ap (λ (b : Bool). false || not b) is in absurd cc

mark_next : (place : ℕ) → false ≡ (false || not (place == place))
mark_next place = ap (λ (b : Bool). false || not b) (sym (eq-eqb place place refl))

mark_apart : (place next : ℕ) → place ≢ next → true ≡ (false || not (place == next))
mark_apart place next ne = ap (λ (b : Bool). false || not b) (sym (ne_eqb place next ne))

-- so many packets from one place on are those from another
abbrev Same : List (List ℕ) → ℕ → ℕ → ℕ → Type 0
Same emitted len place other = (k : ℕ) → k < len → packet_at emitted (other + k) ≡ packet_at emitted (place + k)

shift : (emitted : List (List ℕ)) (len place other : ℕ) → Same emitted (suc len) place other → Same emitted len (suc place) (suc other)
shift emitted len place other same k below =
    ap (packet_at emitted) (omega arith) ∙ same (suc k) (omega (arith, below)) ∙ ap (packet_at emitted) (omega arith)

unshift : (emitted : List (List ℕ)) (len place other : ℕ) → packet_at emitted other ≡ packet_at emitted place → Same emitted len (suc place) (suc other)
    → Same emitted (suc len) place other
unshift emitted len place other here same zero below = ap (packet_at emitted) (omega arith) ∙ here ∙ ap (packet_at emitted) (omega arith)
unshift emitted len place other here same (suc k) below =
    ap (packet_at emitted) (omega arith) ∙ same k (omega (arith, below)) ∙ ap (packet_at emitted) (omega arith)

-- ---- runs as lists

run_same : (emitted : List (List ℕ)) (first : Bool) (place other len : ℕ) → Same emitted len place other → run_of emitted first other len ≡ run_of emitted first place len
run_same emitted first place other zero same = refl
run_same emitted first place other (suc len) same =
    let here : packet_at emitted other ≡ packet_at emitted place = ap (packet_at emitted) (omega arith) ∙ same 0 (omega arith) ∙ ap (packet_at emitted) (omega arith) in
    let rest = run_same emitted false (suc place) (suc other) len (shift emitted len place other same) in
    ap (λ (x : List ℕ). record { packet = x; marked = first } ∷ run_of emitted false (suc other) len) here
    ∙ ap (λ (xs : List Said). record { packet = packet_at emitted place; marked = first } ∷ xs) rest

run_push : (emitted : List (List ℕ)) (first : Bool) (place len : ℕ)
    → run_of emitted first place (suc (suc len)) ≡ run_of emitted first place (suc len) ++ record { packet = packet_at emitted (place + suc len); marked = false } ∷ []
run_push emitted first place zero =
    let here : suc place ≡ place + 1 = omega arith in
    ap (λ (n : ℕ). record { packet = packet_at emitted place; marked = first } ∷ record { packet = packet_at emitted n; marked = false } ∷ []) here
run_push emitted first place (suc len) =
    let here : suc place + suc len ≡ place + suc (suc len) = omega arith in
    ap (λ (xs : List Said). record { packet = packet_at emitted place; marked = first } ∷ xs)
    (run_push emitted false (suc place) len
    ∙ ap (λ (n : ℕ). run_of emitted false (suc place) (suc len) ++ record { packet = packet_at emitted n; marked = false } ∷ []) here)

-- ---- runs that stand

-- an unmarked part stands where it is asked for
record Behind (emitted : List (List ℕ)) (place next len : ℕ) (others : List Said) : Type 0 where
  fits : next + len ≤ length emitted
  same : Same emitted len place next
  rest : StandFrom emitted false (next + len) others

behind_to : (emitted : List (List ℕ)) (place next len : ℕ) (others : List Said) → next ≤ length emitted
    → StandFrom emitted false next (run_of emitted false place len ++ others) → Behind emitted place next len others
behind_to emitted place next zero others low h = record {
  fits = omega (arith, low);
  same = λ k below. absurd (omega (arith, below));
  rest = subst (λ (n : ℕ). StandFrom emitted false n others) (omega arith) h;
}
behind_to emitted place next (suc len) others low h =
    let at_next : h.0 ≡ next = unmarked_next h.0 next h.1.marked in
    let found = there emitted h.0 (packet_at emitted place) h.1.emitted_there in
    let rest = behind_to emitted (suc place) (suc h.0) len others (omega (arith, found.0)) h.2 in
    let here : packet_at emitted next ≡ packet_at emitted place = ap (packet_at emitted) (sym at_next) ∙ found.1 in
    record {
      fits = omega (arith, rest.fits, at_next);
      same = unshift emitted len place next here (subst (λ (n : ℕ). Same emitted len (suc place) (suc n)) at_next rest.same);
      rest = subst (λ (n : ℕ). StandFrom emitted false n others) (omega (arith, at_next)) rest.rest;
    }

behind_from : (emitted : List (List ℕ)) (place len : ℕ) (others : List Said) → place + len ≤ length emitted → StandFrom emitted false (place + len) others
    → StandFrom emitted false place (run_of emitted false place len ++ others)
behind_from emitted place zero others fits h = subst (λ (n : ℕ). StandFrom emitted false n others) (omega arith) h
behind_from emitted place (suc len) others fits h =
    let at : IsAt emitted false place place (record { packet = packet_at emitted place; marked = false }) = record {
      emitted_there = there_is emitted place (omega (arith, fits));
      not_before = omega arith;
      marked = mark_next place;
    } in
    let moved : StandFrom emitted false (suc place + len) others = subst (λ (n : ℕ). StandFrom emitted false n others) (omega arith) h in
    (place, at, behind_from emitted (suc place) len others (omega (arith, fits)) moved)

-- a run stands somewhere
record Run (emitted : List (List ℕ)) (place from len : ℕ) (others : List Said) : Type 0 where
  at : ℕ
  low : from ≤ at
  stands : StandsAt (length emitted) (packet_at emitted) (run_at emitted place) len at
  rest : StandFrom emitted false (at + len) others

run_to : (emitted : List (List ℕ)) (place from len : ℕ) (others : List Said) → 0 < len
    → StandFrom emitted true from (run_of emitted true place len ++ others) → Run emitted place from len others
run_to emitted place from zero others some h = absurd (omega (arith, some))
run_to emitted place from (suc len) others some h =
    let found = there emitted h.0 (packet_at emitted place) h.1.emitted_there in
    let rest = behind_to emitted (suc place) (suc h.0) len others (omega (arith, found.0)) h.2 in
    record {
      at = h.0;
      low = h.1.not_before;
      stands = record { fits = omega (arith, rest.fits); reads = unshift emitted len place h.0 found.1 rest.same };
      rest = subst (λ (n : ℕ). StandFrom emitted false n others) (omega arith) rest.rest;
    }

run_from : (emitted : List (List ℕ)) (place from len : ℕ) (others : List Said) → 0 < len → from ≤ place → place + len ≤ length emitted
    → StandFrom emitted false (place + len) others → StandFrom emitted true from (run_of emitted true place len ++ others)
run_from emitted place from zero others some low fits h = absurd (omega (arith, some))
run_from emitted place from (suc len) others some low fits h =
    let at : IsAt emitted true from place (record { packet = packet_at emitted place; marked = true }) = record {
      emitted_there = there_is emitted place (omega (arith, fits));
      not_before = low;
      marked = refl;
    } in
    (place, at, behind_from emitted (suc place) len others (omega (arith, fits)) (subst (λ (n : ℕ). StandFrom emitted false n others) (omega arith) h))

-- ---- the first place is the best one

exchange : (emitted : List (List ℕ)) (packet : List ℕ) (others : List Said) (from place len : ℕ) → 0 < len → from ≤ place → place + len ≤ length emitted
    → Nowhere (StandsAt (length emitted) (packet_at emitted) (run_at emitted place) len) from place
    → StandFrom emitted true from (run_of emitted true place len ++ record { packet = packet; marked = true } ∷ others)
    ↔ StandFrom emitted true (place + len + 1) (record { packet = packet; marked = true } ∷ others)
exchange emitted packet others from place len some low fits first = (to, back)
  where
    said : Said
    said = record { packet = packet; marked = true }

    to : StandFrom emitted true from (run_of emitted true place len ++ said ∷ others) → StandFrom emitted true (place + len + 1) (said ∷ others)
    to h =
        let run = run_to emitted place from len (said ∷ others) some h in
        let early : place ≤ run.at = ⊎_elim (λ (below : run.at < place). absurd (first run.at run.low below run.stands)) (λ (from_on : place ≤ run.at). from_on) (cases_lt run.at place) in
        let next = run.rest in
        let apart : next.0 ≢ run.at + len = marked_apart next.0 (run.at + len) next.1.marked in
        (next.0, record { emitted_there = next.1.emitted_there; not_before = omega (arith, next.1.not_before, apart, early); marked = refl }, next.2)

    back : StandFrom emitted true (place + len + 1) (said ∷ others) → StandFrom emitted true from (run_of emitted true place len ++ said ∷ others)
    back h =
        run_from emitted place from len (said ∷ others) some low fits
        (h.0, record { emitted_there = h.1.emitted_there; not_before = omega (arith, h.1.not_before); marked = mark_apart h.0 (place + len) (omega (arith, h.1.not_before)) }, h.2)

-- ---- tellers

pub after_none : (emitted : List (List ℕ)) → IsAfter emitted [] 0 0
after_none emitted = record {
  from = 0;
  low = omega arith;
  start = λ e. refl;
  fits = omega arith;
  first = λ k low high. absurd (omega (arith, high));
  goes_on = λ others. (λ h. h, λ h. h);
}

pub ready_none : (emitted : List (List ℕ)) (borders : List ℕ) → length borders ≡ length emitted + 1 → IsReady emitted 0 0 borders
ready_none emitted borders room = record { fits = omega arith; room = room; known = λ len some below. absurd (omega (arith, some, below)) }

-- the run that stands is told
pub is_told : (emitted : List (List ℕ)) (said : List Said) (place len : ℕ) → IsAfter emitted said place len → StandIn emitted said
is_told emitted said place zero h = subst (StandIn emitted) (append-nil said) ((h.goes_on []).1 tt)
is_told emitted said place (suc len) h =
    subst (StandIn emitted) (append-nil said) ((h.goes_on []).1 (run_from emitted place h.from (suc len) [] (omega arith) h.low h.fits tt))

-- ---- one packet more

stands_same : (size : ℕ) (text p q : ℕ → List ℕ) (len k : ℕ) → ((j : ℕ) → j < len → p j ≡ q j) → StandsAt size text p len k → StandsAt size text q len k
stands_same size text p q len k agree h = record { fits = h.fits; reads = λ j below. h.reads j below ∙ agree j below }

fewer : (size : ℕ) (text p : ℕ → List ℕ) (len less k : ℕ) → less ≤ len → StandsAt size text p len k → StandsAt size text p less k
fewer size text p len less k low h = record { fits = omega (arith, h.fits, low); reads = λ j below. h.reads j (omega (arith, below, low)) }

-- where a run may begin behind the last one
abbrev pub IsBehind : ℕ → ℕ → ℕ → Type 0
IsBehind place len from = ((len ≡ 0) × (from ≡ place)) ⊎ ((0 < len) × (from ≡ place + len + 1))

marked_step : (emitted : List (List ℕ)) (said : List Said) (place len from : ℕ) (packet : List ℕ) (others : List Said) → IsAfter emitted said place len → IsBehind place len from
    → StandIn emitted (said ++ record { packet = packet; marked = true } ∷ others) ↔ StandFrom emitted true from (record { packet = packet; marked = true } ∷ others)
marked_step emitted said place zero from packet others h (inl b) =
    let same : h.from ≡ from = h.start refl ∙ sym b.1 in
    let next : List Said = record { packet = packet; marked = true } ∷ others in (
      λ stands. subst (λ (n : ℕ). StandFrom emitted true n next) same ((h.goes_on next).0 stands),
      λ stands. (h.goes_on next).1 (subst (λ (n : ℕ). StandFrom emitted true n next) (sym same) stands),
    )
marked_step emitted said place zero from packet others h (inr b) = absurd (omega (arith, b.0))
marked_step emitted said place (suc len) from packet others h (inl b) = absurd (omega (arith, b.0))
marked_step emitted said place (suc len) from packet others h (inr b) =
    let next : List Said = record { packet = packet; marked = true } ∷ others in
    let swap = exchange emitted packet others h.from place (suc len) (omega arith) h.low h.fits h.first in (
      λ stands. subst (λ (n : ℕ). StandFrom emitted true n next) (sym b.1) (swap.0 ((h.goes_on next).0 stands)),
      λ stands. (h.goes_on next).1 (swap.1 (subst (λ (n : ℕ). StandFrom emitted true n next) b.1 stands)),
    )

wanted_one : (emitted : List (List ℕ)) (from : ℕ) (packet : List ℕ) (at : ℕ) → at < length emitted → packet_at emitted at ≡ packet → Wanted emitted from 0 packet at
wanted_one emitted from packet at within is = record {
  fits = omega (arith, within);
  reads = λ k below.
      let none : k ≡ 0 = omega (arith, below) in
      ap (packet_at emitted) (omega (arith, none)) ∙ is ∙ sym (next_last emitted from 0 packet) ∙ ap (with_next emitted from 0 packet) (sym none);
}

pub begun : (emitted : List (List ℕ)) (said : List Said) (place len from : ℕ) (packet : List ℕ) (at : ℕ) → IsAfter emitted said place len → IsBehind place len from
    → from ≤ at → Wanted emitted from 0 packet at → Nowhere (Wanted emitted from 0 packet) from at
    → IsAfter emitted (said ++ record { packet = packet; marked = true } ∷ []) at 1
begun emitted said place len from packet at h b low wanted first = record {
  from = from;
  low = low;
  start = λ e. absurd (omega (arith, e));
  fits = omega (arith, wanted.fits);
  first = λ k low_k high stands. first k low_k high (stands_same (length emitted) (packet_at emitted) (run_at emitted at) (with_next emitted from 0 packet) 1 k wanted.reads stands);
  goes_on = goes_on;
}
  where
    here : packet_at emitted at ≡ packet
    here = ap (packet_at emitted) (omega arith) ∙ wanted.reads 0 (omega arith) ∙ next_last emitted from 0 packet

    goes_on : (others : List Said) → StandIn emitted ((said ++ record { packet = packet; marked = true } ∷ []) ++ others)
        ↔ StandFrom emitted true from (run_of emitted true at 1 ++ others)
    goes_on others =
        let step = marked_step emitted said place len from packet others h b in
        let apart : (said ++ record { packet = packet; marked = true } ∷ []) ++ others ≡ said ++ (record { packet = packet; marked = true } ∷ others) = append_assoc said (record { packet = packet; marked = true } ∷ []) others in (
          λ stands. subst (λ (x : List ℕ). StandFrom emitted true from (record { packet = x; marked = true } ∷ others)) (sym here) (step.0 (subst (StandIn emitted) apart stands)),
          λ stands. subst (StandIn emitted) (sym apart) (step.1 (subst (λ (x : List ℕ). StandFrom emitted true from (record { packet = x; marked = true } ∷ others)) here stands)),
        )

pub not_begun : (emitted : List (List ℕ)) (said : List Said) (place len from : ℕ) (packet : List ℕ) → IsAfter emitted said place len → IsBehind place len from
    → ((k : ℕ) → from ≤ k → Wanted emitted from 0 packet k → ⊥) → StandIn emitted (said ++ record { packet = packet; marked = true } ∷ []) → ⊥
not_begun emitted said place len from packet h b none stands =
    let next = (marked_step emitted said place len from packet [] h b).0 stands in
    let found = there emitted next.0 packet next.1.emitted_there in
    none next.0 next.1.not_before (wanted_one emitted from packet next.0 found.0 found.1)

pub wanted_within : (emitted : List (List ℕ)) (place len : ℕ) (packet : List ℕ) (from : ℕ) → length emitted < from → (k : ℕ) → from ≤ k → Wanted emitted place len packet k → ⊥
wanted_within emitted place len packet from past k low w = omega (arith, w.fits, past, low)

-- a run with one packet more is the run and the packet
longer_run : (emitted : List (List ℕ)) (place len at : ℕ) (packet : List ℕ) → 0 < len → Wanted emitted place len packet at
    → run_of emitted true at (len + 1) ≡ run_of emitted true place len ++ record { packet = packet; marked = false } ∷ []
longer_run emitted place zero at packet some w = absurd (omega (arith, some))
longer_run emitted place (suc len) at packet some w =
    let count : suc len + 1 ≡ suc (suc len) = omega arith in
    let same : Same emitted (suc len) place at = λ k below. w.reads k (omega (arith, below)) ∙ next_in emitted place (suc len) packet k below in
    let last : packet_at emitted (at + suc len) ≡ packet = w.reads (suc len) (omega arith) ∙ next_last emitted place (suc len) packet in
    ap (run_of emitted true at) count ∙ run_push emitted true at len
    ∙ ap (λ (xs : List Said). xs ++ record { packet = packet_at emitted (at + suc len); marked = false } ∷ []) (run_same emitted true place at (suc len) same)
    ∙ ap (λ (x : List ℕ). run_of emitted true place (suc len) ++ record { packet = x; marked = false } ∷ []) last

pub gone_on : (emitted : List (List ℕ)) (said : List Said) (place len : ℕ) (packet : List ℕ) (at : ℕ) → IsAfter emitted said place len → 0 < len
    → place ≤ at → Wanted emitted place len packet at → Nowhere (Wanted emitted place len packet) place at
    → IsAfter emitted (said ++ record { packet = packet; marked = false } ∷ []) at (len + 1)
gone_on emitted said place len packet at h some low wanted first = record {
  from = h.from;
  low = omega (arith, h.low, low);
  start = λ e. absurd (omega (arith, e));
  fits = omega (arith, wanted.fits);
  first = nowhere;
  goes_on = goes_on;
}
  where
    agree : (j : ℕ) → j < len → run_at emitted at j ≡ run_at emitted place j
    agree j below = wanted.reads j (omega (arith, below)) ∙ next_in emitted place len packet j below

    nowhere : Nowhere (StandsAt (length emitted) (packet_at emitted) (run_at emitted at) (len + 1)) h.from at
    nowhere k low_k high stands =
        ⊎_elim (λ (below : k < place). h.first k low_k below
        (stands_same (length emitted) (packet_at emitted) (run_at emitted at) (run_at emitted place) len k agree
        (fewer (length emitted) (packet_at emitted) (run_at emitted at) (len + 1) len k (omega arith) stands)))
        (λ (from_on : place ≤ k). first k from_on high
        (stands_same (length emitted) (packet_at emitted) (run_at emitted at) (with_next emitted place len packet) (len + 1) k wanted.reads stands))
        (cases_lt k place)

    said_now : Said
    said_now = record { packet = packet; marked = false }

    goes_on : (others : List Said) → StandIn emitted ((said ++ record { packet = packet; marked = false } ∷ []) ++ others)
        ↔ StandFrom emitted true h.from (run_of emitted true at (len + 1) ++ others)
    goes_on others =
        let step = h.goes_on (said_now ∷ others) in
        let apart : (said ++ said_now ∷ []) ++ others ≡ said ++ (said_now ∷ others) = append_assoc said (said_now ∷ []) others in
        let longer : run_of emitted true at (len + 1) ++ others ≡ run_of emitted true place len ++ (said_now ∷ others) =
        ap (λ (xs : List Said). xs ++ others) (longer_run emitted place len at packet some wanted) ∙ append_assoc (run_of emitted true place len) (said_now ∷ []) others in (
          λ stands. subst (StandFrom emitted true h.from) (sym longer) (step.0 (subst (StandIn emitted) apart stands)),
          λ stands. subst (StandIn emitted) (sym apart) (step.1 (subst (StandFrom emitted true h.from) longer stands)),
        )

pub not_gone_on : (emitted : List (List ℕ)) (said : List Said) (place len : ℕ) (packet : List ℕ) → IsAfter emitted said place len → 0 < len
    → ((k : ℕ) → place ≤ k → Wanted emitted place len packet k → ⊥) → StandIn emitted (said ++ record { packet = packet; marked = false } ∷ []) → ⊥
not_gone_on emitted said place len packet h some none stands =
    let run = run_to emitted place h.from len (record { packet = packet; marked = false } ∷ []) some ((h.goes_on (record { packet = packet; marked = false } ∷ [])).0 stands) in
    let early : place ≤ run.at = ⊎_elim (λ (below : run.at < place). absurd (h.first run.at run.low below run.stands)) (λ (from_on : place ≤ run.at). from_on) (cases_lt run.at place) in
    let at_next : run.rest.0 ≡ run.at + len = unmarked_next run.rest.0 (run.at + len) run.rest.1.marked in
    let found = there emitted run.rest.0 packet run.rest.1.emitted_there in
    none run.at early (record {
      fits = omega (arith, found.0, at_next);
      reads = λ k below. ⊎_elim
          (λ (last : k ≡ len). ap (λ (j : ℕ). packet_at emitted (run.at + j)) last ∙ ap (packet_at emitted) (sym at_next) ∙ found.1 ∙ sym (next_last emitted place len packet)
          ∙ ap (with_next emitted place len packet) (sym last))
          (λ (before : k ≢ len). let within : k < len = omega (arith, before, below) in run.stands.reads k within ∙ sym (next_in emitted place len packet k within))
          (cases_eq k len);
    })

pub not_first : (emitted : List (List ℕ)) (said : List Said) (place len : ℕ) (packet : List ℕ) → IsAfter emitted said place len → len ≡ 0
    → StandIn emitted (said ++ record { packet = packet; marked = false } ∷ []) → ⊥
not_first emitted said place zero packet h none stands =
    let next = (h.goes_on (record { packet = packet; marked = false } ∷ [])).0 stands in
    let wrong : false ≡ true = next.1.marked in
    absurd cc
not_first emitted said place (suc len) packet h none stands = absurd (omega (arith, none))

-- ---- the table of borders

pub ready_begun : (emitted : List (List ℕ)) (at : ℕ) (borders : List ℕ) → at + 1 ≤ length emitted → length borders ≡ length emitted + 1
    → IsReady emitted at 1 (set borders 1 0)
ready_begun emitted at borders fits room = record {
  fits = fits;
  room = length-set borders 1 0 ∙ room;
  known = λ len some below.
      let one : len ≡ 1 = omega (arith, some, below) in
      let entry : get_or (set borders 1 0) len 0 ≡ 0 = ap (λ (n : ℕ). get_or (set borders 1 0) n 0) one ∙ get_or-set_same borders 1 0 0 (omega (arith, fits, room)) in
      subst (λ (n : ℕ). IsLongestBorder (run_at emitted at) len n) (sym entry) (subst (λ (n : ℕ). IsLongestBorder (run_at emitted at) n 0) (sym one) (border_one (run_at emitted at)));
}

pub borders_moved : (emitted : List (List ℕ)) (place len : ℕ) (packet : List ℕ) (at : ℕ) (borders : List ℕ) → Wanted emitted place len packet at
    → BordersBelow (run_at emitted place) borders (len + 1) → BordersBelow (run_at emitted at) borders (len + 1)
borders_moved emitted place len packet at borders w known n some below =
    longest_same (run_at emitted place) (run_at emitted at) n (get_or borders n 0)
    (λ k low. let within : k < len = omega (arith, low, below) in sym (w.reads k (omega (arith, within)) ∙ next_in emitted place len packet k within)) (known n some below)

pub ready_more : (emitted : List (List ℕ)) (at len border : ℕ) (borders : List ℕ) → at + (len + 1) ≤ length emitted → length borders ≡ length emitted + 1
    → BordersBelow (run_at emitted at) borders (len + 1) → IsLongestBorder (run_at emitted at) (len + 1) border → IsReady emitted at (len + 1) (set borders (len + 1) border)
ready_more emitted at len border borders fits room known longest = record {
  fits = fits;
  room = length-set borders (len + 1) border ∙ room;
  known = λ n some below. ⊎_elim
      (λ (last : n ≡ len + 1).
      let entry : get_or (set borders (len + 1) border) n 0 ≡ border = ap (λ (k : ℕ). get_or (set borders (len + 1) border) k 0) last ∙ get_or-set_same borders (len + 1) border 0 (omega (arith, fits, room)) in
      subst (λ (k : ℕ). IsLongestBorder (run_at emitted at) n k) (sym entry) (subst (λ (k : ℕ). IsLongestBorder (run_at emitted at) k border) (sym last) longest))
      (λ (before : n ≢ len + 1).
      subst (λ (k : ℕ). IsLongestBorder (run_at emitted at) n k) (sym (get_or-set_other borders (len + 1) n border 0 before)) (known n some (omega (arith, before, below))))
      (cases_eq n (len + 1));
}
