-- The fragment that reading stops at is the first that can't be read.
use Rattle.std.proofs.Common.{◌≡◌, ◌∙◌, ℕ, zero, suc, ◌+◌, ◌-◌, ◌<◌, Bool, true, List, [], ◌∷◌, length, drop, Option, Some, None, refl, sym, ap, subst, arith, inl, inr}
use Rattle.std.specs.Prelude.{All, ◌==◌}
use Rattle.std.proofs.lemmas.List.Elements.{All-drop}
use Rattle.std.proofs.lemmas.Bool.{eqb-true, eq-eqb, false≢true}
use Rattle.std.proofs.lemmas.Option.{none-some}
use Rattle.trace_model.specs.Images.{Fragment}
use Rattle.trace_model.specs.Fragments.{ReadsOne, ReadsDropped}
use Rattle.trace_model.specs.Reading.{size_of, fragment_of, Reading, Fragments, Unreadable, behind, fragment_end, read_on, reading_from, reading_of, is_readable}
use Rattle.trace_model.proofs.ReadingLemmas.{StandsFirst, read_kept, read_dropped, read_sound}
use Rattle.trace_model.specs.Unread.{BeginsWith, StopsAt}
use Rattle.trace_model.proofs.ReadsAsLemmas.{rest_behind}
use Rattle.model_laws.specs.UnreadableLaws.{UnreadableIsFirst}

-- No fragment stands at the place; where the last one of a chunk is due none with the drop mark does either.
record NoneReads (last : Bool) (at : ℕ) (bytes : List ℕ) : Type 0 where
  kept : (fragment : Fragment) (rest : List ℕ) → ReadsOne at bytes fragment rest → ⊥
  dropped : last ≡ true → (fragment : Fragment) → ReadsDropped at bytes fragment → ⊥

-- the first fragment that can't be read, of so many fragments of which the first has the number
record IsFirstFrom (left number at : ℕ) (bytes : List ℕ) (k : ℕ) : Type 0 where
  below : k < number + left
  before : List Fragment
  many : number + length before ≡ k
  place : ℕ
  rest : List ℕ
  reads : BeginsWith at bytes before place rest
  none : NoneReads (suc k == number + left) place rest

-- what a reading answers
abbrev number_in : Reading → ℕ
number_in (Fragments fragments) = 0
number_in (Unreadable number) = number

-- the rest behind a fragment
-- where nothing is read no fragment stands
none_there : (left number at : ℕ) (bytes : List ℕ) → fragment_of (left == 0) at bytes (size_of 4 bytes) ≡ None → NoneReads (suc number == number + suc left) at bytes
none_there left number at bytes none = record {
  kept = λ fragment rest reads. none-some fragment (sym none ∙ read_kept (left == 0) at bytes fragment rest reads);
  dropped = λ last fragment reads.
      let zero_left : (left == 0) ≡ true = eq-eqb left 0 (omega (arith, eqb-true (suc number) (number + suc left) last)) in
      none-some fragment (sym none ∙ ap (λ (b : Bool). fragment_of b at bytes (size_of 4 bytes)) zero_left ∙ read_dropped at bytes fragment reads);
}

unread_from : (left number at : ℕ) (bytes : List ℕ) (k : ℕ) → All (λ byte. byte < 256) bytes → reading_from left number at bytes ≡ Unreadable k → IsFirstFrom left number at bytes k
unread_from zero number at bytes k below e = absurd (false≢true (sym (ap is_readable e)))
unread_from (suc left) number at bytes k below e = by_fragment (fragment_of (left == 0) at bytes (size_of 4 bytes)) refl e (unread_from left)
  where
    by_rest : (fragment : Fragment) → StandsFirst (left == 0) at bytes fragment → (r : Reading)
        → reading_from left (suc number) (fragment_end fragment) (drop (fragment_end fragment - at) bytes) ≡ r → behind fragment r ≡ Unreadable k
        → (reading_from left (suc number) (fragment_end fragment) (drop (fragment_end fragment - at) bytes) ≡ Unreadable k
        → IsFirstFrom left (suc number) (fragment_end fragment) (drop (fragment_end fragment - at) bytes) k)
        → IsFirstFrom (suc left) number at bytes k
    by_rest fragment stands (Fragments others) f g rest = absurd (false≢true (sym (ap is_readable g)))
    by_rest fragment (inl dropped) (Unreadable n) f g rest =
        let none : left ≡ 0 = eqb-true left 0 dropped.0 in
        absurd (false≢true (sym (ap (λ (m : ℕ). is_readable (reading_from m (suc number) (fragment_end fragment) (drop (fragment_end fragment - at) bytes))) (sym none) ∙ ap is_readable f)))
    by_rest fragment (inr reads) (Unreadable n) f g rest =
        let first : IsFirstFrom left (suc number) (fragment_end fragment) (drop (fragment_end fragment - at) bytes) k = rest (f ∙ g) in
        record {
          below = omega (arith, first.below);
          before = fragment ∷ first.before;
          many = omega (arith, first.many);
          place = first.place;
          rest = first.rest;
          reads = (drop (fragment_end fragment - at) bytes, reads, first.reads);
          none = subst (λ (m : ℕ). NoneReads (suc k == m) first.place first.rest) (omega arith) first.none;
        }

    by_fragment : (o : Option Fragment) → fragment_of (left == 0) at bytes (size_of 4 bytes) ≡ o
        → read_on number (λ f. reading_from left (suc number) (fragment_end f) (drop (fragment_end f - at) bytes)) o ≡ Unreadable k
        → ((n a : ℕ) (bs : List ℕ) (j : ℕ) → All (λ byte. byte < 256) bs → reading_from left n a bs ≡ Unreadable j → IsFirstFrom left n a bs j)
        → IsFirstFrom (suc left) number at bytes k
    by_fragment None f g rest =
        let same : number ≡ k = ap number_in g in
        subst (λ (m : ℕ). IsFirstFrom (suc left) number at bytes m) same (record {
          below = omega arith;
          before = [];
          many = omega arith;
          place = at;
          rest = bytes;
          reads = (refl, refl);
          none = none_there left number at bytes f;
        })
    by_fragment (Some fragment) f g rest =
        by_rest fragment (read_sound (left == 0) at bytes fragment below f)
        (reading_from left (suc number) (fragment_end fragment) (drop (fragment_end fragment - at) bytes)) refl g
        (rest (suc number) (fragment_end fragment) (drop (fragment_end fragment - at) bytes) k (All-drop (λ byte. byte < 256) (fragment_end fragment - at) bytes below))

-- where those before it can be read, and it can't, reading stops there
stops_from : (before : List Fragment) (left number at : ℕ) (bytes : List ℕ) (place : ℕ) (rest : List ℕ) → All (λ byte. byte < 256) bytes
    → number + length before < number + left → BeginsWith at bytes before place rest → NoneReads (suc (number + length before) == number + left) place rest
    → reading_from left number at bytes ≡ Unreadable (number + length before)
stops_from before zero number at bytes place rest below less reads none = absurd (omega (arith, less))
stops_from [] (suc left) number at bytes place rest below less reads none =
    by_fragment (fragment_of (left == 0) at bytes (size_of 4 bytes)) refl
  where
    by_fragment : (o : Option Fragment) → fragment_of (left == 0) at bytes (size_of 4 bytes) ≡ o
        → read_on number (λ f. reading_from left (suc number) (fragment_end f) (drop (fragment_end f - at) bytes)) o ≡ Unreadable (number + 0)
    by_fragment None f = ap Unreadable (omega arith)
    by_fragment (Some fragment) f = absurd (stands (read_sound (left == 0) at bytes fragment below f))
      where
        here : NoneReads (suc (number + 0) == number + suc left) at bytes
        here = subst (λ (p : ℕ). NoneReads (suc (number + 0) == number + suc left) p bytes) reads.0
            (subst (λ (xs : List ℕ). NoneReads (suc (number + 0) == number + suc left) place xs) reads.1 none)

        stands : StandsFirst (left == 0) at bytes fragment → ⊥
        stands (inl dropped) = here.dropped (eq-eqb (suc (number + 0)) (number + suc left) (omega (arith, eqb-true left 0 dropped.0))) fragment dropped.1
        stands (inr kept) = here.kept fragment (drop (fragment_end fragment - at) bytes) kept
stops_from (fragment ∷ before) (suc left) number at bytes place rest below less reads none =
    let further : List ℕ = reads.0 in
    let same : drop (fragment_end fragment - at) bytes ≡ further = rest_behind at bytes fragment further reads.1 in
    let go : Fragment → Reading = λ f. reading_from left (suc number) (fragment_end f) (drop (fragment_end f - at) bytes) in
    let total : suc number + length before ≡ number + length (fragment ∷ before) = omega arith in
    let later : NoneReads (suc (suc number + length before) == suc number + left) place rest =
    subst (λ (m : ℕ). NoneReads (suc (suc number + length before) == m) place rest) (omega arith)
    (subst (λ (m : ℕ). NoneReads (suc m == number + suc left) place rest) (sym total) none) in
    ap (read_on number go) (read_kept (left == 0) at bytes fragment further reads.1)
    ∙ ap (λ (xs : List ℕ). behind fragment (reading_from left (suc number) (fragment_end fragment) xs)) same
    ∙ ap (behind fragment)
    (stops_from before left (suc number) (fragment_end fragment) further place rest
    (subst (λ (xs : List ℕ). All (λ byte. byte < 256) xs) same (All-drop (λ byte. byte < 256) (fragment_end fragment - at) bytes below))
    (omega (arith, less)) reads.2 later)
    ∙ ap Unreadable total

pub unreadable_is_first : UnreadableIsFirst
unreadable_is_first zero payload number below = (λ e. sym (ap number_in e), λ is. ap Unreadable (sym is))
unreadable_is_first (suc more) payload number below = (first, stops)
  where
    first : reading_of (suc more) payload ≡ Unreadable number → StopsAt (suc more) number payload
    first e =
        let from : IsFirstFrom (suc more) 0 0 payload number = unread_from (suc more) 0 0 payload number below e in
        record {
          among = omega (arith, from.below);
          before = from.before;
          place = from.place;
          rest = from.rest;
          number_is = omega (arith, from.many);
          begins = from.reads;
          unread = from.none.kept;
          undropped = λ last. from.none.dropped (eq-eqb (suc number) (0 + suc more) (omega (arith, last)));
        }

    stops : StopsAt (suc more) number payload → reading_of (suc more) payload ≡ Unreadable number
    stops is =
        let same : 0 + length is.before ≡ number = omega (arith, is.number_is) in
        let none : NoneReads (suc (0 + length is.before) == 0 + suc more) is.place is.rest = record {
          kept = is.unread;
          dropped = λ last. is.undropped (omega (arith, same, eqb-true (suc (0 + length is.before)) (0 + suc more) last));
        } in
        stops_from is.before (suc more) 0 0 payload is.place is.rest below (omega (arith, is.among, is.number_is)) is.begins none
        ∙ ap Unreadable same
