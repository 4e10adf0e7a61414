-- Reading the fragments of a payload from any of them on.
use Rattle.std.proofs.Common.{◌≡◌, ℕ, zero, suc, ◌+◌, ◌-◌, ◌<◌, ◌≤◌, ◌^◌, ◌==◌, Bool, true, false, cond, List, [], ◌∷◌, length, take, drop, nat_le, Option, Some, None, is_some, refl, sym, ap, ◌∙◌, subst, arith, length-append, leb-true, ne_eqb, true≢false}
use Rattle.std.proofs.lemmas.Bool.Decides.{nat_tests}
use Rattle.std.proofs.lemmas.List.{drop-drop, length-drop, length-take, take_rest}
use Rattle.wire_varint.proofs.Whole.{whole_some}
use Rattle.std.specs.Option.{option_map}
use Rattle.chunk_image.specs.Values.{fragment_value}
use Rattle.chunk_image.specs.declared.read.Fragment as code
use Rattle.trace_model.specs.Fragments.{drop_size}
use Rattle.trace_model.specs.Images.{Fragment}
use Rattle.trace_model.specs.Reading.{Size, Reading, Fragments, Unreadable, size_of, fragment_of, fragment_end, behind, read_on, reading_from, reading_of, is_readable, fragments_of}
use Rattle.trace_model.specs.Row.{is_last}
use Rattle.trace_model.proofs.ReadingLemmas.{HasSize, size_sound}
use Rattle.trace_buffer.proofs.LossLemmas.{reading_length}
use Rattle.trace_buffer.proofs.FindLemmas.{readable_is}
use Rattle.sequence_reader.specs.Spots.{start_from}

-- a fragment begins behind its size, and ends inside the bytes
pub record IsInside (at : ℕ) (bytes : List ℕ) (fragment : Fragment) : Type 0 where
  pub after : at < fragment.offset
  pub inside : fragment_end fragment ≤ at + length bytes

inside_with : (last : Bool) (at : ℕ) (bytes : List ℕ) (fragment : Fragment) (o : Option Size) → size_of 4 bytes ≡ o
    → fragment_of last at bytes o ≡ Some fragment → IsInside at bytes fragment
inside_with last at bytes fragment None is found = absurd (cc)
inside_with last at bytes fragment (Some size) is found = mark (size.value == drop_size) last found
  where
    has : HasSize 4 bytes size
    has = size_sound 4 bytes size is

    wide : 0 < size.width
    wide = omega (arith, has.width, whole_some has.front has.whole)

    short : size.width ≤ length bytes
    short = omega (arith, ap length has.cut, length-append has.front has.rest, has.width)

    dropped : Fragment
    dropped = record { bytes = drop size.width bytes; dropped = true; offset = at + size.width }

    marked : Some dropped ≡ Some fragment → IsInside at bytes fragment
    marked e =
        let same : dropped ≡ fragment = cc in
        subst (IsInside at bytes) same
        (record { after = omega (arith, wide); inside = omega (arith, length-drop size.width bytes, short) })

    kept : Fragment
    kept = record { bytes = take size.value (drop size.width bytes); dropped = false; offset = at + size.width }

    whole : (b : Bool) → nat_le (size.width + size.value) (length bytes) ≡ b → cond b (Some kept) None ≡ Some fragment → IsInside at bytes fragment
    whole true fits e =
        let same : kept ≡ fragment = cc in
        let enough : size.width + size.value ≤ length bytes = leb-true (size.width + size.value) (length bytes) fits in
        subst (IsInside at bytes) same
        (record { after = omega (arith, wide); inside = omega (arith, length-take size.value (drop size.width bytes), enough) })
    whole false fits e = absurd (cc)

    mark : (b l : Bool) → cond b (cond l (Some dropped) None) (cond (nat_le (size.width + size.value) (length bytes)) (Some kept) None) ≡ Some fragment → IsInside at bytes fragment
    mark true true e = marked e
    mark true false e = absurd (cc)
    mark false l e = whole (nat_le (size.width + size.value) (length bytes)) refl e

pub fragment_inside : (last : Bool) (at : ℕ) (bytes : List ℕ) (fragment : Fragment) → fragment_of last at bytes (size_of 4 bytes) ≡ Some fragment → IsInside at bytes fragment
fragment_inside last at bytes fragment found = inside_with last at bytes fragment (size_of 4 bytes) refl found

-- so many fragments are left from a place on
pub record ReadsBehind (payload : List ℕ) (left at : ℕ) (fragments : List Fragment) : Type 0 where
  pub number : ℕ
  pub within : at ≤ length payload
  pub reads : reading_from left number at (drop at payload) ≡ Fragments fragments

-- the first of them, and what is left behind it
pub record ReadsNext (payload : List ℕ) (left at : ℕ) (fragments : List Fragment) : Type 0 where
  pub fragment : Fragment
  pub others : List Fragment
  pub within : at ≤ length payload
  pub found : fragment_of (left == 0) at (drop at payload) (size_of 4 (drop at payload)) ≡ Some fragment
  pub split : fragments ≡ fragment ∷ others
  pub after : at < fragment.offset
  pub rest : ReadsBehind payload left (fragment_end fragment) others

behind_is : (fragment : Fragment) (r : Reading) (fragments : List Fragment) → behind fragment r ≡ Fragments fragments
    → (r ≡ Fragments (fragments_of r)) × (fragments ≡ fragment ∷ fragments_of r)
behind_is fragment (Fragments others) fragments is = (refl, ap fragments_of (sym is))
behind_is fragment (Unreadable n) fragments is = absurd (true≢false (sym (ap is_readable is)))

pub reads_next : (payload : List ℕ) (left at : ℕ) (fragments : List Fragment) → ReadsBehind payload (suc left) at fragments → ReadsNext payload left at fragments
reads_next payload left at fragments now =
    of (fragment_of (left == 0) at (drop at payload) (size_of 4 (drop at payload))) refl now.reads
  where
    others : Fragment → Reading
    others f = reading_from left (suc now.number) (fragment_end f) (drop (fragment_end f - at) (drop at payload))

    of : (o : Option Fragment) → fragment_of (left == 0) at (drop at payload) (size_of 4 (drop at payload)) ≡ o → read_on now.number others o ≡ Fragments fragments → ReadsNext payload left at fragments
    of None found reads = absurd (true≢false (sym (ap is_readable reads)))
    of (Some f) found reads =
        let rest = behind_is f (others f) fragments reads in
        let is = fragment_inside (left == 0) at (drop at payload) f found in
        let on : at + (fragment_end f - at) ≡ fragment_end f = omega (arith, is.after) in
        let same : drop (fragment_end f - at) (drop at payload) ≡ drop (fragment_end f) payload = drop-drop (fragment_end f - at) at payload ∙ ap (λ n. drop n payload) on in
        record {
          fragment = f;
          others = fragments_of (others f);
          within = now.within;
          found = found;
          split = rest.1;
          after = is.after;
          rest = record {
            number = suc now.number;
            within = omega (arith, is.inside, length-drop at payload, now.within);
            reads = ap (reading_from left (suc now.number) (fragment_end f)) (sym same) ∙ rest.0;
          };
        }

-- behind so many fragments
pub reads_further : (payload : List ℕ) (passed left n at : ℕ) (fragments : List Fragment) → n ≡ passed + left → ReadsBehind payload n at fragments
    → ReadsBehind payload left (start_from at passed fragments) (drop passed fragments)
reads_further payload zero left n at fragments is now =
    let same : n ≡ left = omega (arith, is) in
    subst (λ m. ReadsBehind payload m at fragments) same now
reads_further payload (suc passed) left n at fragments is now =
    let more : n ≡ suc (passed + left) = omega (arith, is) in
    let next : ReadsNext payload (passed + left) at fragments = reads_next payload (passed + left) at fragments (subst (λ m. ReadsBehind payload m at fragments) more now) in
    subst (λ fs. ReadsBehind payload left (start_from at (suc passed) fs) (drop (suc passed) fs)) (sym next.split)
    (reads_further payload passed left (passed + left) (fragment_end next.fragment) next.others refl next.rest)

pub reads_start : (count : ℕ) (payload : List ℕ) → is_readable (reading_of count payload) ≡ true → ReadsBehind payload count 0 (fragments_of (reading_of count payload))
reads_start zero payload reads = absurd (true≢false (sym reads))
reads_start (suc more) payload reads = record { number = 0; within = omega arith; reads = readable_is (reading_of (suc more) payload) reads }

-- the fragment with a number
pub reads_at : (count : ℕ) (payload : List ℕ) (passed : ℕ) → is_readable (reading_of count payload) ≡ true → passed < count
    → ReadsNext payload (count - suc passed) (start_from 0 passed (fragments_of (reading_of count payload))) (drop passed (fragments_of (reading_of count payload)))
reads_at count payload passed reads less =
    let n : count ≡ passed + suc (count - suc passed) = omega (arith, less) in
    reads_next payload (count - suc passed) (start_from 0 passed (fragments_of (reading_of count payload))) (drop passed (fragments_of (reading_of count payload)))
    (reads_further payload passed (suc (count - suc passed)) count 0 (fragments_of (reading_of count payload)) n (reads_start count payload reads))

-- and the next one begins behind it
pub start_next : (at passed : ℕ) (fragments : List Fragment) (fragment : Fragment) (others : List Fragment) → drop passed fragments ≡ fragment ∷ others
    → start_from at (suc passed) fragments ≡ fragment_end fragment
start_next at zero [] fragment others is = absurd (cc)
start_next at zero (f ∷ fragments) fragment others is = let same : f ≡ fragment = cc in ap fragment_end same
start_next at (suc passed) [] fragment others is = absurd (cc)
start_next at (suc passed) (f ∷ fragments) fragment others is = start_next (fragment_end f) passed fragments fragment others is

-- the last one, by its number
last_is : (others : List Fragment) → is_last others ≡ (length others == 0)
last_is [] = refl
last_is (f ∷ others) = sym (ne_eqb (suc (length others)) 0 (λ e. absurd (omega (arith, e))))

pub is_last_at : (count : ℕ) (payload : List ℕ) (passed : ℕ) (fragment : Fragment) (others : List Fragment) → is_readable (reading_of count payload) ≡ true
    → drop passed (fragments_of (reading_of count payload)) ≡ fragment ∷ others → is_last others ≡ (passed + 1 == count)
is_last_at count payload passed fragment others reads is =
    let all : length (fragments_of (reading_of count payload)) ≡ count = reading_length count payload reads in
    let some : length (drop passed (fragments_of (reading_of count payload))) ≡ suc (length others) = ap length is in
    let dropped = length-drop passed (fragments_of (reading_of count payload)) in
    let rest : length others + (passed + 1) ≡ count = omega (arith, all, some, dropped) in
    last_is others ∙ same_test (length others) (passed + 1) count rest
  where
    same_test : (n m k : ℕ) → n + m ≡ k → (n == 0) ≡ (m == k)
    same_test n m k e = grind (arith, nat_tests)

pub left_none : (passed count : ℕ) → passed < count → (count - suc passed == 0) ≡ (passed + 1 == count)
left_none passed count less = grind (arith, nat_tests)

-- what is read of the rest of the payload
pub found_as : (payload : List ℕ) (left at : ℕ) (fragments : List Fragment) (next : ReadsNext payload left at fragments) (last : Bool) (o : Option Fragment)
    → last ≡ (left == 0)
    → o ≡ fragment_of last at (take (length payload - at) (drop at payload)) (size_of 4 (take (length payload - at) (drop at payload)))
    → o ≡ Some next.fragment
found_as payload left at fragments next last o same is =
    is
    ∙ ap (λ bytes. fragment_of last at bytes (size_of 4 bytes)) (take_rest payload at)
    ∙ ap (λ b. fragment_of b at (drop at payload) (size_of 4 (drop at payload))) same
    ∙ next.found

-- a fragment that isn't the last one
pub not_last : (passed number count : ℕ) → passed < number → number < count → false ≡ (count - suc passed == 0)
not_last passed number count low high = sym (ne_eqb (count - suc passed) 0 (λ e. absurd (omega (arith, e, low, high))))

pub rest_fits : (payload : List ℕ) (at : ℕ) → length payload ≤ 2 ^ 26 → at ≤ length payload → at + length (take (length payload - at) (drop at payload)) ≤ 67108864
rest_fits payload at small within =
    let same : length (take (length payload - at) (drop at payload)) ≡ length (drop at payload) = ap length (take_rest payload at) in
    omega (arith, same, length-drop at payload, small, within)

-- The same as a call of `read_fragment` has it

pub some_read : (payload : List ℕ) (left start at : ℕ) (fragments : List Fragment) (next : ReadsNext payload left start fragments) → at ≡ start
    → (last : Bool) (result : Option code.Fragment) (fragment : code.Fragment) → last ≡ (left == 0)
    → option_map fragment_value result ≡ fragment_of last at (take (length payload - at) (drop at payload)) (size_of 4 (take (length payload - at) (drop at payload)))
    → result ≡ Some fragment → fragment_value fragment ≡ next.fragment
some_read payload left start at fragments next here last result fragment same is some =
    let found : option_map fragment_value result ≡ Some next.fragment =
    found_as payload left start fragments next last (option_map fragment_value result) same
    (subst (λ n. option_map fragment_value result ≡ fragment_of last n (take (length payload - n) (drop n payload)) (size_of 4 (take (length payload - n) (drop n payload)))) here is) in
    let both : Some (fragment_value fragment) ≡ Some next.fragment = ap (option_map fragment_value) (sym some) ∙ found in
    cc

pub none_read : (payload : List ℕ) (left start at : ℕ) (fragments : List Fragment) (next : ReadsNext payload left start fragments) → at ≡ start
    → (last : Bool) (result : Option code.Fragment) → last ≡ (left == 0)
    → option_map fragment_value result ≡ fragment_of last at (take (length payload - at) (drop at payload)) (size_of 4 (take (length payload - at) (drop at payload)))
    → result ≡ None → ⊥
none_read payload left start at fragments next here last result same is none =
    let found : option_map fragment_value result ≡ Some next.fragment =
    found_as payload left start fragments next last (option_map fragment_value result) same
    (subst (λ n. option_map fragment_value result ≡ fragment_of last n (take (length payload - n) (drop n payload)) (size_of 4 (take (length payload - n) (drop n payload)))) here is) in
    let both : None ≡ Some next.fragment = ap (option_map fragment_value) (sym none) ∙ found in
    true≢false (sym (ap is_some both))
