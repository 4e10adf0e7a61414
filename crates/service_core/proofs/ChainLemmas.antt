-- Takings one after another, and behind looks.
use Rattle.std.proofs.Common.{◌≡◌, ◌≤◌, ◌≢◌, ◌∙◌, ℕ, suc, ◌+◌, ◌<◌, Bool, true, false, List, [], ◌∷◌, ◌++◌, length, set, take, refl, sym, ap, subst, arith, append-nil, append_assoc, length-append, length-take-le, inl, inr}
use Rattle.std.specs.Prelude.{cond, ◌==◌}
use Rattle.std.proofs.lemmas.List.{set-set, set-get_or, take_more}
use Rattle.std.proofs.lemmas.Bool.{eq-eqb, ne_eqb}
use Rattle.trace_base.specs.declared.policy.WriterSpec.{WriterSpec}
use Rattle.chunk_plain.specs.Setup.{Setup, range_of, producer_of, IsChunkOf, no_writer}
use Rattle.chunk_plain.specs.Views.{Content, Look, Taken, none_taken, Noted, Arrive, ServiceView, taken_of}
use Rattle.service_core.specs.Agreement.{spec_at}
use Rattle.service_core.specs.Looking.{looked, SeesEach}
use Rattle.service_core.specs.Taking.{patched_where, takings, taken_more, took, IsOther, ShowsOther, TakesOf, Takes, places_of, TakesNext, SeesNoneOf, TakesSome}
use Rattle.service_core.proofs.LookLemmas.{shows_right}
use Rattle.service_core.proofs.TakingLemmas.{taken_here}

-- Behind looks that found none

pub takes_behind : (setup : Setup) (place first last : ℕ) (old mid new : ServiceView) → SeesNoneOf setup place first last old mid → TakesNext place mid new → TakesNext place old new
takes_behind setup place first last old mid new seen next = record {
  looks = seen.looks ++ next.looks;
  content = next.content;
  view = next.view ∙ ap (λ (v : ServiceView). took v place next.looks (next.content ∷ [])) seen.view
      ∙ ap (λ (l : List Look). record (took old place [] (next.content ∷ [])) { looks = l }) (append_assoc old.looks seen.looks next.looks);
}

-- Chunks of one writer

takings_more : (q position : ℕ) (xs ys : List Content) → takings q position (xs ++ ys) ≡ takings q position xs ++ takings q (position + length xs) ys
takings_more q position [] ys = ap (λ (i : ℕ). takings q i ys) (let same : position ≡ position + 0 = omega arith in same)
takings_more q position (x ∷ xs) ys =
    let behind : List Noted = patched_where x.patches q position in
    let later : suc position + length xs ≡ position + suc (length xs) = omega arith in
    ap (λ (ns : List Noted). Arrive q position ∷ (behind ++ ns)) (takings_more q (suc position) xs ys ∙ ap (λ (i : ℕ). takings q (suc position) xs ++ takings q i ys) later)
    ∙ ap (λ (ns : List Noted). Arrive q position ∷ ns) (sym (append_assoc behind (takings q (suc position) xs) (takings q (position + suc (length xs)) ys)))

pub took_none : (view : ServiceView) (place : ℕ) → view ≡ took view place [] []
took_none view place =
    let t : Taken = taken_of view place in
    let same : t ≡ taken_more t [] =
    ap (λ (n : ℕ). record t { count = n }) (let zero_is : t.count ≡ t.count + 0 = omega arith in zero_is) ∙ ap (λ (cs : List Content). record { count = t.count + 0; contents = cs }) (sym (append-nil t.contents)) in
    ap (λ (ts : List Taken). record view { taken = ts }) (sym (set-get_or view.taken place none_taken) ∙ ap (λ (x : Taken). set view.taken place x) same)
    ∙ ap (λ (l : List Look). record view { looks = l; taken = set view.taken place (taken_more t []) }) (sym (append-nil view.looks))
    ∙ ap (λ (es : List Noted). record view { looks = view.looks ++ []; taken = set view.taken place (taken_more t []); events = es }) (sym (append-nil view.events))

pub took_both : (view : ServiceView) (place : ℕ) (first second : List Look) (xs ys : List Content) → place < length view.taken
    → took (took view place first xs) place second ys ≡ took view place (first ++ second) (xs ++ ys)
took_both view place first second xs ys inside =
    let t : Taken = taken_of view place in
    let here = taken_here view place first xs inside in
    let some : List Taken = set view.taken place (taken_more t xs) in
    let more_is : taken_more (taken_more t xs) ys ≡ taken_more t (xs ++ ys) =
    ap (λ (n : ℕ). record { count = n; contents = (t.contents ++ xs) ++ ys }) (let long = length-append xs ys in let same : t.count + length xs + length ys ≡ t.count + length (xs ++ ys) = omega (arith, long) in same)
    ∙ ap (λ (cs : List Content). record { count = t.count + length (xs ++ ys); contents = cs }) (append_assoc t.contents xs ys) in
    let taken_is : set some place (taken_more (taken_of (took view place first xs) place) ys) ≡ set view.taken place (taken_more t (xs ++ ys)) =
    ap (λ (x : Taken). set some place (taken_more x ys)) here
    ∙ set-set view.taken place (taken_more t xs) (taken_more (taken_more t xs) ys) ∙ ap (λ (x : Taken). set view.taken place x) more_is in
    let events_is : (view.events ++ takings (place + 2) t.count xs) ++ takings (place + 2) (taken_of (took view place first xs) place).count ys
    ≡ view.events ++ takings (place + 2) t.count (xs ++ ys) =
    ap (λ (x : Taken). (view.events ++ takings (place + 2) t.count xs) ++ takings (place + 2) x.count ys) here
    ∙ append_assoc view.events (takings (place + 2) t.count xs) (takings (place + 2) (t.count + length xs) ys)
    ∙ ap (λ (ns : List Noted). view.events ++ ns) (sym (takings_more (place + 2) t.count xs ys)) in
    ap (λ (ts : List Taken). record view { looks = (view.looks ++ first) ++ second; taken = ts; events = (view.events ++ takings (place + 2) t.count xs) ++ takings (place + 2) (taken_of (took view place first xs) place).count ys }) taken_is
    ∙ ap (λ (es : List Noted). record view { looks = (view.looks ++ first) ++ second; taken = set view.taken place (taken_more t (xs ++ ys)); events = es }) events_is
    ∙ ap (λ (l : List Look). record view { looks = l; taken = set view.taken place (taken_more t (xs ++ ys)); events = view.events ++ takings (place + 2) t.count (xs ++ ys) }) (append_assoc view.looks first second)

pub takes_none_yet : (view : ServiceView) (place : ℕ) → TakesSome place 0 view view
takes_none_yet view place = record { looks = []; contents = []; many = refl; view = took_none view place }

pub takes_more : (place taken : ℕ) (old mid new : ServiceView) → place < length old.taken → TakesSome place taken old mid → TakesNext place mid new → TakesSome place (taken + 1) old new
takes_more place taken old mid new inside some next =
    let long = length-append some.contents (next.content ∷ []) in
    let many = some.many in
    record {
      looks = some.looks ++ next.looks;
      contents = some.contents ++ next.content ∷ [];
      many = omega (arith, long, many);
      view = next.view ∙ ap (λ (v : ServiceView). took v place next.looks (next.content ∷ [])) some.view ∙ took_both old place some.looks next.looks some.contents (next.content ∷ []) inside;
    }

-- it saw none that is next
pub takes_until : (setup : Setup) (place taken : ℕ) (old mid new : ServiceView) → TakesSome place taken old mid
    → SeesEach IsOther setup place (IsChunkOf setup (producer_of setup place)) mid new
    → taken ≤ (range_of setup (producer_of setup place)).count → TakesOf setup place taken old new
takes_until setup place taken old mid new some none most =
    let count_is : (taken_of mid place).count ≡ (taken_of new place).count = sym (ap (λ (v : ServiceView). (taken_of v place).count) none.view) in
    record {
      most = most;
      looks = some.looks ++ none.looks;
      contents = some.contents;
      many = some.many;
      view = none.view ∙ ap (λ (v : ServiceView). looked v none.looks) some.view
          ∙ ap (λ (l : List Look). record (took old place some.looks some.contents) { looks = l }) (append_assoc old.looks some.looks none.looks);
      leaves = inr (inl (λ chunk is. subst (λ (n : ℕ). ShowsOther setup place n chunk (some.looks ++ none.looks)) count_is
          (shows_right IsOther setup place (taken_of mid place).count chunk some.looks none.looks (none.each chunk is))));
    }

-- Writer by writer

pub takes_writer : (setup : Setup) (places : List ℕ) (place taken one : ℕ) (old mid new : ServiceView) → Takes setup places taken old mid → TakesOf setup place one mid new
    → Takes setup (places ++ place ∷ []) (taken + one) old new
takes_writer setup [] place taken one old mid new before next =
    let none = before.0 in
    (one, 0, new, omega (arith, none), subst (λ (v : ServiceView). TakesOf setup place one v new) before.1 next, (refl, refl))
takes_writer setup (p ∷ places) place taken one old mid new before next =
    let sum = before.3 in
    (before.0, before.1 + one, before.2, omega (arith, sum), before.4, takes_writer setup places place before.1 one before.2 mid new before.5 next)

pub places_more : (producer first : ℕ) (specs : List WriterSpec) (spec : WriterSpec)
    → places_of producer first (specs ++ spec ∷ []) ≡ places_of producer first specs ++ cond (spec.producer == producer) ((first + length specs) ∷ []) []
places_more producer first [] spec = ap (λ (p : ℕ). cond (spec.producer == producer) (p ∷ []) []) (let same : first ≡ first + 0 = omega arith in same)
places_more producer first (s ∷ specs) spec =
    let later : suc first + length specs ≡ first + suc (length specs) = omega arith in
    let rest = places_more producer (suc first) specs spec ∙ ap (λ (p : ℕ). places_of producer (suc first) specs ++ cond (spec.producer == producer) (p ∷ []) []) later in
    step (s.producer == producer) rest
  where
    step : (b : Bool) → places_of producer (suc first) (specs ++ spec ∷ []) ≡ places_of producer (suc first) specs ++ cond (spec.producer == producer) ((first + suc (length specs)) ∷ []) []
        → cond b (first ∷ places_of producer (suc first) (specs ++ spec ∷ [])) (places_of producer (suc first) (specs ++ spec ∷ []))
        ≡ cond b (first ∷ places_of producer (suc first) specs) (places_of producer (suc first) specs) ++ cond (spec.producer == producer) ((first + suc (length specs)) ∷ []) []
    step true rest = ap (λ (ps : List ℕ). first ∷ ps) rest
    step false rest = rest

-- the places of the first writers, with one more
places_next : (producer : ℕ) (specs : List WriterSpec) (i : ℕ) → i < length specs
    → places_of producer 0 (take (i + 1) specs) ≡ places_of producer 0 (take i specs) ++ cond ((spec_at specs i).producer == producer) (i ∷ []) []
places_next producer specs i below =
    let long : 0 + length (take i specs) ≡ i = let same = length-take-le i specs (omega arith) in omega (arith, same) in
    ap (places_of producer 0) (take_more specs i no_writer below)
    ∙ places_more producer 0 (take i specs) (spec_at specs i)
    ∙ ap (λ (p : ℕ). places_of producer 0 (take i specs) ++ cond ((spec_at specs i).producer == producer) (p ∷ []) []) long

pub places_add : (producer : ℕ) (specs : List WriterSpec) (i : ℕ) → i < length specs → (spec_at specs i).producer ≡ producer
    → places_of producer 0 (take (i + 1) specs) ≡ places_of producer 0 (take i specs) ++ i ∷ []
places_add producer specs i below same =
    places_next producer specs i below
    ∙ ap (λ (b : Bool). places_of producer 0 (take i specs) ++ cond b (i ∷ []) []) (eq-eqb (spec_at specs i).producer producer same)

pub places_skip : (producer : ℕ) (specs : List WriterSpec) (i : ℕ) → i < length specs → (spec_at specs i).producer ≢ producer
    → places_of producer 0 (take (i + 1) specs) ≡ places_of producer 0 (take i specs)
places_skip producer specs i below differs =
    places_next producer specs i below
    ∙ ap (λ (b : Bool). places_of producer 0 (take i specs) ++ cond b (i ∷ []) []) (ne_eqb (spec_at specs i).producer producer differs)
    ∙ append-nil (places_of producer 0 (take i specs))
