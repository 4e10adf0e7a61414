-- The record that a patch changes.
use Rattle.std.proofs.Common.{◌≡◌, ℕ, ◌==◌, ◌&&◌, Bool, true, false, not, cond, List, [], ◌∷◌, length, map, Some, None, is_some, IsSome, refl, sym, ap, ap₂, ◌∙◌, subst, arith, eqb-true}
use Rattle.std.specs.List.{find}
use Rattle.std.proofs.lemmas.Bool.{and_parts}
use Rattle.page_geometry.specs.Sizes.{record_size}
use Rattle.chunk_index.specs.Value.{IndexValue}
use Rattle.ring_bytes.specs.Value.{Stored, RingValue, is_at, change_at, changed_at, stored_at, with_awaits, put_at}
use Rattle.ring_bytes.specs.Value as ring
use Rattle.ring_bytes.proofs.SliceLemmas.{length_put}
use Rattle.trace_model.specs.Buffers.{BufferRecord, is_of}
use Rattle.trace_model.specs.Images.{Patch, last_holds, patched_last}
use Rattle.trace_model.specs.Patches.{awaits_at, patched_chunk}
use Rattle.trace_model.specs.Reading.{reading_of, fragments_of, is_readable}
use Rattle.trace_model.specs.Sequences.{Sequence}
use Rattle.trace_buffer.specs.BufferFields.{AreParts, AllKept, IsKept, IsIndexed, NoneOf, KeysOnce}
use Rattle.trace_buffer.specs.Records.{record_of, is_at_key}
use Rattle.trace_buffer.proofs.ChangeLemmas.{IsAlike, indexed_alike, at_key, same_change, no_change_of}
use Rattle.trace_buffer.proofs.DropLemmas.{none_find}
use Rattle.trace_buffer.proofs.FindLemmas.{readable_is}
use Rattle.trace_buffer.proofs.PutLemmas.{payload_patched}

-- Records that no patch changes

unchanged : (C : BufferRecord → Bool) (f : BufferRecord → BufferRecord) (rs : List BufferRecord) → find C rs ≡ None → map (λ r. cond (C r) (f r) r) rs ≡ rs
unchanged C f [] none = refl
unchanged C f (r ∷ rs) none = of (C r) none (unchanged C f rs)
  where
    of : (b : Bool) → cond b (Some r) (find C rs) ≡ None → (find C rs ≡ None → map (λ s. cond (C s) (f s) s) rs ≡ rs) → cond b (f r) r ∷ map (λ s. cond (C s) (f s) s) rs ≡ r ∷ rs
    of true is rest = absurd (cc)
    of false is rest = ap (λ ss. r ∷ ss) (rest is)

-- with a further test, none but the one of the chunk passes

pub none_with : (q i : ℕ) (B : BufferRecord → Bool) (ss : List Stored) → find (is_at_key q i) ss ≡ None → find (λ (r : BufferRecord). is_of q i r && B r) (map record_of ss) ≡ None
none_with q i B [] none = refl
none_with q i B (s ∷ ss) none = of (is_at_key q i s) none (none_with q i B ss)
  where
    of : (b : Bool) → cond b (Some s) (find (is_at_key q i) ss) ≡ None → (find (is_at_key q i) ss ≡ None → find (λ (r : BufferRecord). is_of q i r && B r) (map record_of ss) ≡ None) → cond (b && B (record_of s)) (Some (record_of s)) (find (λ (r : BufferRecord). is_of q i r && B r) (map record_of ss)) ≡ None
    of true is rest = absurd (cc)
    of false is rest = rest is

none_of_key : (q i : ℕ) (s : Stored) (ss : List Stored) → is_at_key q i s ≡ true → NoneOf s.key.sequence s.key.chunk_id ss → NoneOf q i ss
none_of_key q i s ss is none =
    let two = and_parts (s.key.sequence == q) (s.key.chunk_id == i) is in
    subst (λ n. NoneOf n i ss) (eqb-true s.key.sequence q two.0) (subst (λ n. NoneOf s.key.sequence n ss) (eqb-true s.key.chunk_id i two.1) none)

none_key : (q i : ℕ) (s : Stored) (ss : List Stored) → is_at_key q i s ≡ true → NoneOf s.key.sequence s.key.chunk_id ss → find (is_at_key q i) ss ≡ None
none_key q i s ss is none = none_find q i ss (none_of_key q i s ss is none)

pub one_with : (q i : ℕ) (B : BufferRecord → Bool) (ss : List Stored) (s : Stored) → KeysOnce ss → find (is_at_key q i) ss ≡ Some s → find (λ (r : BufferRecord). is_of q i r && B r) (map record_of ss) ≡ cond (B (record_of s)) (Some (record_of s)) None
one_with q i B [] s once found = absurd (cc)
one_with q i B (t ∷ ss) s once found = of (is_at_key q i t) refl found (one_with q i B ss s once.1)
  where
    of : (b : Bool) → is_at_key q i t ≡ b → cond b (Some t) (find (is_at_key q i) ss) ≡ Some s → (find (is_at_key q i) ss ≡ Some s → find (λ (r : BufferRecord). is_of q i r && B r) (map record_of ss) ≡ cond (B (record_of s)) (Some (record_of s)) None) → cond (b && B (record_of t)) (Some (record_of t)) (find (λ (r : BufferRecord). is_of q i r && B r) (map record_of ss)) ≡ cond (B (record_of s)) (Some (record_of s)) None
    of true holds is rest =
        let here : t ≡ s = cc in
        ap (λ o. cond (B (record_of t)) (Some (record_of t)) o) (none_with q i B ss (none_key q i t ss holds once.0))
        ∙ ap (λ (u : Stored). cond (B (record_of u)) (Some (record_of u)) None) here
    of false holds is rest = rest is

-- as the calls have them

and_assoc : (x y z : Bool) → ((x && y) && z) ≡ (x && (y && z))
and_assoc true y z = refl
and_assoc false y z = refl

find_same : (P Q : BufferRecord → Bool) (rs : List BufferRecord) → ((r : BufferRecord) → P r ≡ Q r) → find P rs ≡ find Q rs
find_same P Q [] same = refl
find_same P Q (r ∷ rs) same = ap₂ (λ b o. cond b (Some r) o) (same r) (find_same P Q rs same)

-- no record takes the patch
pub none_changes : (q : ℕ) (patch : Patch) (rs : List BufferRecord) → find (λ (r : BufferRecord). is_of q patch.chunk_id r && (r.chunk.awaits && last_holds r.chunk.fragments patch)) rs ≡ None → rs ≡ map (λ (r : BufferRecord). cond (awaits_at q patch.chunk_id r && last_holds r.chunk.fragments patch) (record r { chunk = patched_chunk patch r.chunk }) r) rs
none_changes q patch rs none =
    sym
    (unchanged (λ (r : BufferRecord). awaits_at q patch.chunk_id r && last_holds r.chunk.fragments patch) (λ (r : BufferRecord). record r { chunk = patched_chunk patch r.chunk }) rs
    (find_same (λ (r : BufferRecord). awaits_at q patch.chunk_id r && last_holds r.chunk.fragments patch) (λ (r : BufferRecord). is_of q patch.chunk_id r && (r.chunk.awaits && last_holds r.chunk.fragments patch)) rs
    (λ r. and_assoc (is_of q patch.chunk_id r) r.chunk.awaits (last_holds r.chunk.fragments patch))
    ∙ none))

-- The record that takes it

abbrev pub patched_stored : Patch → Stored → Stored
patched_stored patch s = with_awaits (not patch.last) (ring.with_bytes patch.offset patch.bytes s)

twice : (place : ℕ) (f g : Stored → Stored) (ss : List Stored) → ((s : Stored) → (f s).at ≡ s.at) → change_at place g (change_at place f ss) ≡ change_at place (λ s. g (f s)) ss
twice place f g [] same = refl
twice place f g (s ∷ ss) same = ap₂ (λ x xs. x ∷ xs) (of (is_at place s) refl) (twice place f g ss same)
  where
    of : (b : Bool) → is_at place s ≡ b → cond (is_at place (cond b (f s) s)) (g (cond b (f s) s)) (cond b (f s) s) ≡ cond b (g (f s)) s
    of true is = ap (λ b. cond b (g (f s)) (f s)) (ap (λ n. n == place) (same s) ∙ is)
    of false is = ap (λ b. cond b (g s) s) is

pub both_changes : (old one two : RingValue) (place : ℕ) (patch : Patch) → one ≡ changed_at old place (ring.with_bytes patch.offset patch.bytes) → two ≡ changed_at one place (with_awaits (not patch.last)) → two ≡ changed_at old place (patched_stored patch)
both_changes old one two place patch one_is two_is =
    let live = twice place (ring.with_bytes patch.offset patch.bytes) (with_awaits (not patch.last)) old.live (λ s. refl) in
    two_is ∙ ap (λ (r : RingValue). changed_at r place (with_awaits (not patch.last))) one_is ∙ (λ i. record old { live = live i })

some_still : (place : ℕ) (f : Stored → Stored) (ss : List Stored) → ((s : Stored) → (f s).at ≡ s.at) → is_some (find (is_at place) (change_at place f ss)) ≡ is_some (find (is_at place) ss)
some_still place f [] same = refl
some_still place f (s ∷ ss) same = of (is_at place s) refl (some_still place f ss same)
  where
    of : (b : Bool) → is_at place s ≡ b → is_some (find (is_at place) (change_at place f ss)) ≡ is_some (find (is_at place) ss) → is_some (cond (is_at place (cond b (f s) s)) (Some (cond b (f s) s)) (find (is_at place) (change_at place f ss))) ≡ is_some (cond b (Some s) (find (is_at place) ss))
    of true is rest = ap (λ b. is_some (cond b (Some (f s)) (find (is_at place) (change_at place f ss)))) (ap (λ n. n == place) (same s) ∙ is)
    of false is rest = ap (λ b. is_some (cond b (Some s) (find (is_at place) (change_at place f ss)))) is ∙ rest

pub still_there : (old one : RingValue) (place : ℕ) (patch : Patch) (s : Stored) → one ≡ changed_at old place (ring.with_bytes patch.offset patch.bytes) → stored_at old place ≡ Some s → IsSome (stored_at one place)
still_there old one place patch s one_is there =
    subst (λ (r : RingValue). IsSome (stored_at r place)) (sym one_is)
    (some_still place (ring.with_bytes patch.offset patch.bytes) old.live (λ t. refl) ∙ ap is_some there)

alike_at : (q i : ℕ) (patch : Patch) (t : Stored) → IsAlike t (at_key q i (patched_stored patch) t)
alike_at q i patch t = of (is_at_key q i t)
  where
    of : (b : Bool) → IsAlike t (cond b (patched_stored patch t) t)
    of true = record { at = refl; sequence = refl; chunk_id = refl }
    of false = record { at = refl; sequence = refl; chunk_id = refl }

kept_patched : (rows : List Sequence) (q i : ℕ) (f : Stored → Stored) (ss : List Stored) (s : Stored) → KeysOnce ss → find (is_at_key q i) ss ≡ Some s → IsKept rows (f s) → AllKept rows ss → AllKept rows (map (at_key q i f) ss)
kept_patched rows q i f [] s once found new kept = absurd (cc)
kept_patched rows q i f (t ∷ ss) s once found new kept = of (is_at_key q i t) refl found (λ h. kept_patched rows q i f ss s once.1 h new kept.1)
  where
    of : (b : Bool) → is_at_key q i t ≡ b → cond b (Some t) (find (is_at_key q i) ss) ≡ Some s → (find (is_at_key q i) ss ≡ Some s → AllKept rows (map (at_key q i f) ss)) → IsKept rows (cond b (f t) t) × AllKept rows (map (at_key q i f) ss)
    of true holds is rest =
        let here : t ≡ s = cc in (
          subst (λ (u : Stored). IsKept rows (f u)) (sym here) new,
          subst (AllKept rows) (sym (no_change_of q i f ss (none_of_key q i t ss holds once.0))) kept.1,
        )
    of false holds is rest = (kept.0, rest is)

records_patched : (q : ℕ) (patch : Patch) (ss : List Stored) (s : Stored) → KeysOnce ss → find (is_at_key q patch.chunk_id) ss ≡ Some s → record_of (patched_stored patch s) ≡ record (record_of s) { chunk = patched_chunk patch (record_of s).chunk } → (s.key.awaits && last_holds (record_of s).chunk.fragments patch) ≡ true → map record_of (map (at_key q patch.chunk_id (patched_stored patch)) ss) ≡ map (λ (r : BufferRecord). cond (awaits_at q patch.chunk_id r && last_holds r.chunk.fragments patch) (record r { chunk = patched_chunk patch r.chunk }) r) (map record_of ss)
records_patched q patch [] s once found same takes = absurd (cc)
records_patched q patch (t ∷ ss) s once found same takes = of (is_at_key q patch.chunk_id t) refl found (λ h. records_patched q patch ss s once.1 h same takes)
  where
    of : (b : Bool) → is_at_key q patch.chunk_id t ≡ b → cond b (Some t) (find (is_at_key q patch.chunk_id) ss) ≡ Some s → (find (is_at_key q patch.chunk_id) ss ≡ Some s → map record_of (map (at_key q patch.chunk_id (patched_stored patch)) ss) ≡ map (λ (r : BufferRecord). cond (awaits_at q patch.chunk_id r && last_holds r.chunk.fragments patch) (record r { chunk = patched_chunk patch r.chunk }) r) (map record_of ss)) → record_of (cond b (patched_stored patch t) t) ∷ map record_of (map (at_key q patch.chunk_id (patched_stored patch)) ss) ≡ cond ((b && t.key.awaits) && last_holds (record_of t).chunk.fragments patch) (record (record_of t) { chunk = patched_chunk patch (record_of t).chunk }) (record_of t) ∷ map (λ (r : BufferRecord). cond (awaits_at q patch.chunk_id r && last_holds r.chunk.fragments patch) (record r { chunk = patched_chunk patch r.chunk }) r) (map record_of ss)
    of true holds is rest =
        let here : t ≡ s = cc in
        ap₂ (λ x xs. x ∷ xs)
        (ap (λ (u : Stored). record_of (patched_stored patch u)) here ∙ same
        ∙ sym
        (ap (λ (u : Stored). cond (u.key.awaits && last_holds (record_of u).chunk.fragments patch) (record (record_of u) { chunk = patched_chunk patch (record_of u).chunk }) (record_of u)) here
        ∙ ap (λ b. cond b (record (record_of s) { chunk = patched_chunk patch (record_of s).chunk }) (record_of s)) takes))
        (ap (map record_of) (no_change_of q patch.chunk_id (patched_stored patch) ss (none_of_key q patch.chunk_id t ss holds once.0))
        ∙ none_changes q patch (map record_of ss)
        (none_with q patch.chunk_id (λ (r : BufferRecord). r.chunk.awaits && last_holds r.chunk.fragments patch) ss (none_key q patch.chunk_id t ss holds once.0)))
    of false holds is rest = ap (λ xs. record_of t ∷ xs) (rest is)

-- as the calls have it

pub record IsTaken (old two : RingValue) (index : IndexValue) (rows : List Sequence) (q : ℕ) (patch : Patch) : Type 0 where
  pub parts : AreParts two index rows
  pub records : map record_of two.live ≡ map (λ (r : BufferRecord). cond (awaits_at q patch.chunk_id r && last_holds r.chunk.fragments patch) (record r { chunk = patched_chunk patch r.chunk }) r) (map record_of old.live)
  pub room : two.room ≡ old.room
  pub next : two.next ≡ old.next

pub taken : (old two : RingValue) (index : IndexValue) (rows : List Sequence) (q place : ℕ) (patch : Patch) (s : Stored) → AreParts old index rows → find (is_at_key q patch.chunk_id) old.live ≡ Some s → place ≡ s.at → two ≡ changed_at old place (patched_stored patch) → length patch.bytes ≡ 4 → IsKept rows s → s.key.awaits ≡ true → last_holds (fragments_of (reading_of s.key.count s.payload)) patch ≡ true → IsTaken old two index rows q patch
taken old two index rows q place patch s parts found here two_is four is awaits holds =
    let law = payload_patched s.key.count s.payload (fragments_of (reading_of s.key.count s.payload)) patch four (readable_is (reading_of s.key.count s.payload) is.reads) holds in
    let long : length (put_at patch.offset patch.bytes s.payload) ≡ length s.payload = length_put patch.offset patch.bytes s.payload (omega (arith, law.inside, four)) in
    let new : IsKept rows (patched_stored patch s) = record {
      known = is.known;
      size = ap record_size long ∙ is.size;
      reads = ap is_readable law.reads;
      number = is.number;
      id = is.id;
      part = is.part;
    } in
    let live : change_at place (patched_stored patch) old.live ≡ map (at_key q patch.chunk_id (patched_stored patch)) old.live =
    same_change q patch.chunk_id place (patched_stored patch) old.live s parts.indexed.keys parts.indexed.places_once found here in
    let size_is : record_size (length (put_at patch.offset patch.bytes s.payload)) ≡ record_size (length s.payload) = ap record_size long in
    let fragments : fragments_of (reading_of s.key.count (put_at patch.offset patch.bytes s.payload)) ≡ patched_last patch (fragments_of (reading_of s.key.count s.payload)) = ap fragments_of law.reads in
    record {
      parts = subst (λ (r : RingValue). AreParts r index rows) (sym two_is)
          (record {
            indexed = subst (IsIndexed index.places) (sym live) (indexed_alike index.places (at_key q patch.chunk_id (patched_stored patch)) old.live (alike_at q patch.chunk_id patch) parts.indexed);
            kept = subst (AllKept rows) (sym live) (kept_patched rows q patch.chunk_id (patched_stored patch) old.live s parts.indexed.keys found new parts.kept);
            once = parts.once;
            fit = parts.fit;
          });
      records = ap (λ (r : RingValue). map record_of r.live) two_is ∙ ap (map record_of) live
          ∙ records_patched q patch old.live s parts.indexed.keys found
          (λ j. record (record_of s) { size = size_is j; chunk = record (record_of s).chunk { awaits = not patch.last; fragments = fragments j } })
          (ap₂ (λ x y. x && y) awaits holds);
      room = ap (λ (r : RingValue). r.room) two_is;
      next = ap (λ (r : RingValue). r.next) two_is;
    }
