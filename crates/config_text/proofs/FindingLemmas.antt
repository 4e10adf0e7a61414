-- Whose a source is, by a set of its entries.
use Rattle.std.proofs.Common.{◌≡◌, ◌∙◌, ℕ, ◌+◌, ◌<◌, ◌==◌, nat_lt, Bool, true, false, cond, not, ◌&&◌, ◌||◌, List, [], ◌∷◌, ◌++◌, length, take, get_or, map, Option, Some, None, refl, sym, ap, arith}
use Rattle.std.specs.Prelude.{position, unwrap_or}
use Rattle.std.specs.Borrow.{Bor}
use Rattle.std.specs.List.{list_any, position_or_len}
use Rattle.std.specs.Str.{bytes_eq}
use Rattle.std.specs.HashSet.{HashSet, contains_by, UpdatesBy}
use Rattle.std.proofs.lemmas.Bool.{lt-ltb, le-ltb}
use Rattle.std.proofs.lemmas.Bool.Decides.{same_from_decides}
use Rattle.std.proofs.lemmas.List.{map_more, length-map}
use Rattle.std.proofs.lemmas.List.Folds.{list_any-append}
use Rattle.std.proofs.lemmas.List.Sums.{position_or_len_is}
use Rattle.std.proofs.lemmas.Slice.Eq.{bytes_eq-Decides}
use Rattle.config_text.specs.Kept.{producer_kept, texts}
use Rattle.config_text.specs.Wanted.{is_wanted}
use Rattle.config_text.specs.declared.kept.KeptProducer.{KeptProducer}
use Rattle.config_text.specs.Blocks.{ProducerSaid}
use Rattle.config_text.specs.Reasons.{is_named, producer_place}

-- ---- the set of all entries

same_both_ways : (a b : List ℕ) → bytes_eq a b ≡ bytes_eq b a
same_both_ways a b =
    same_from_decides (bytes_eq a b) (bytes_eq b a) (bytes_eq-Decides a b) ((λ e. sym ((bytes_eq-Decides b a).0 e)), (λ s. (bytes_eq-Decides b a).1 (sym s)))

or_last : (x y z : Bool) → x ≡ z → cond x true y ≡ y || (z || false)
or_last true true z same = refl
or_last true false z same = rw (← same) refl
or_last false true z same = refl
or_last false false z same = rw (← same) refl

-- one entry more
pub wanted_more : {S : Type 0} (old new : HashSet (Bor (List ℕ)) S) (filters : List (Bor (List ℕ))) (at : ℕ) (d : Bor (List ℕ)) → at < length filters
    → ((name : Bor (List ℕ)) → contains_by (λ (entry : Bor (List ℕ)). bytes_eq name.now entry.now) old ≡ list_any (bytes_eq name.now) (texts (take at filters)))
    → UpdatesBy (λ (x y : Bor (List ℕ)). bytes_eq x.now y.now) (λ (q : Bor (List ℕ)). bytes_eq (get_or filters at d).now q.now) old new true
    → (name : Bor (List ℕ)) → contains_by (λ (entry : Bor (List ℕ)). bytes_eq name.now entry.now) new ≡ list_any (bytes_eq name.now) (texts (take (at + 1) filters))
wanted_more old new filters at d inside before updates name =
    let entry : List ℕ = (get_or filters at d).now in
    let all : texts (take (at + 1) filters) ≡ texts (take at filters) ++ entry ∷ [] = map_more (λ (part : Bor (List ℕ)). part.now) filters at d inside in
    updates.0 name
    ∙ ap (λ (b : Bool). cond (bytes_eq entry name.now) true b) (before name)
    ∙ or_last (bytes_eq entry name.now) (list_any (bytes_eq name.now) (texts (take at filters))) (bytes_eq name.now entry) (same_both_ways entry name.now)
    ∙ sym (list_any-append (bytes_eq name.now) (texts (take at filters)) (entry ∷ []))
    ∙ ap (list_any (bytes_eq name.now)) (sym all)

-- ---- the first place that passes

pub place_found : {T : Type 0} (test : T → Bool) (xs : List T) (i : ℕ) (d : T) → i < length xs → ((k : ℕ) → k < i → test (get_or xs k d) ≡ false)
    → test (get_or xs i d) ≡ true → i ≡ unwrap_or (position test xs) 0
place_found test xs i d inside before here =
    let place : position_or_len test xs ≡ i = position_or_len_is test xs i d (omega arith) before (λ _. here) in
    let found : position test xs ≡ Some i = rw place (rw (lt-ltb i (length xs) inside) refl) in
    sym (ap (λ (o : Option ℕ). unwrap_or o 0) found)

pub place_none : {T : Type 0} (test : T → Bool) (xs : List T) (d : T) → ((k : ℕ) → k < length xs → test (get_or xs k d) ≡ false)
    → 0 ≡ unwrap_or (position test xs) 0
place_none test xs d none =
    let place : position_or_len test xs ≡ length xs = position_or_len_is test xs (length xs) d (omega arith) none (λ less. absurd (omega (arith, less))) in
    let found : position test xs ≡ None = rw place (rw (le-ltb (length xs) (length xs) (omega arith)) refl) in
    sym (ap (λ (o : Option ℕ). unwrap_or o 0) found)

-- ---- the same test through a view

place_map : {T U : Type 0} (test : U → Bool) (other : T → Bool) (v : T → U) (xs : List T) → ((x : T) → test (v x) ≡ other x)
    → position_or_len test (map v xs) ≡ position_or_len other xs
place_map test other v [] same = refl
place_map test other v (x ∷ xs) same =
    ap (λ (b : Bool). cond (not b) (1 + position_or_len test (map v xs)) 0) (same x)
    ∙ ap (λ (n : ℕ). cond (not (other x)) (1 + n) 0) (place_map test other v xs same)

position_map : {T U : Type 0} (test : U → Bool) (other : T → Bool) (v : T → U) (xs : List T) → ((x : T) → test (v x) ≡ other x)
    → position test (map v xs) ≡ position other xs
position_map test other v xs same =
    ap (λ (n : ℕ). cond (nat_lt n (length (map v xs))) (Some n) None) (place_map test other v xs same)
    ∙ ap (λ (n : ℕ). cond (nat_lt (position_or_len other xs) n) (Some (position_or_len other xs)) None) (length-map xs v)

-- the first that is named, by the set and by the entries
pub named_as : {S : Type 0} (wanted : HashSet (Bor (List ℕ)) S) (producers : List KeptProducer) (filters : List (Bor (List ℕ)))
    → ((name : Bor (List ℕ)) → contains_by (λ (entry : Bor (List ℕ)). bytes_eq name.now entry.now) wanted ≡ list_any (bytes_eq name.now) (texts filters))
    → unwrap_or (position (is_wanted wanted) producers) 0 ≡ producer_place (map producer_kept producers) (texts filters)
unfolding producer_place is_named
named_as wanted producers filters is =
    ap (λ (o : Option ℕ). unwrap_or o 0)
    (sym (position_map (is_named (texts filters)) (is_wanted wanted) producer_kept producers
    (λ (p : KeptProducer). ap (λ (b : Bool). not (length p.name.now == 0) && b) (sym (is p.name)))))

none_named : (b : Bool) → (b && false) ≡ false
none_named true = refl
none_named false = refl

-- no entry names any
pub named_none : (producers : List KeptProducer) (filters : List (Bor (List ℕ))) → length filters ≡ 0 → 0 ≡ producer_place (map producer_kept producers) (texts filters)
unfolding producer_place is_named
named_none [] [] none = refl
named_none (p ∷ producers) [] none =
    let said : List ProducerSaid = map producer_kept (p ∷ producers) in
    place_none (is_named []) said (producer_kept p) (λ k inside. none_named (not (length (get_or said k (producer_kept p)).name == 0)))
named_none producers (entry ∷ filters) none = absurd (omega (arith, none))
