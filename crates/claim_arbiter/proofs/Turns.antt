-- A writer's claims in turn: one more that is lost, and the one that wins.
use Rattle.std.proofs.Common.{◌≡◌, ℕ, ◌+◌, ◌<◌, true, false, Option, Some, None, List, [], ◌∷◌, ◌++◌, length, get_or, set, subst, sym, refl, ap, ◌∙◌, arith, append-nil, append_assoc, length-append, below_more}
use Rattle.std.specs.Int.{bit_at}
use Rattle.std.proofs.lemmas.List.{get_or_append_left, set-set, set-get_or}
use Rattle.std.proofs.lemmas.Bool.Decides.{nat_tests}
use Rattle.std.proofs.Math.Seq.{get_or-append_seam}
use native.Mathlib.Decide.{ℕ_discrete}
use mathlib.Core.Logic.{dite}
use Rattle.chunk_plain.specs.Setup.{Setup, spot, id_at}
use Rattle.chunk_plain.specs.Payload.{sealed_to}
use Rattle.chunk_plain.specs.Views.{Ask, Held, Draft, fresh, no_draft, WriterView, newcomer}
use Rattle.chunk_plain.specs.Drafts.{draft_in, draft_at}
use Rattle.chunk_plain.specs.World.{World, Unclaimed, Claimed, Writing, status, writer}
use Rattle.chunk_plain.specs.Steps.{claims, stamps, begins, without, moved, with_writer_view}
use Rattle.chunk_plain.specs.Owned.{times}
use Rattle.chunk_plain.specs.Words.{TriesClaim, BeginsChunk}
use Rattle.claim_arbiter.specs.Claiming.{lost_asks, AllClaimed, AsksInVain, ClaimsInTurn, NoneFree}

lost_more : (calls first chunk found : ℕ) (words : List ℕ) → first + length words ≡ chunk
    → lost_asks calls first (words ++ found ∷ []) ≡ lost_asks calls first words ++ record { chunk = chunk; found = found; won = false; calls = calls } ∷ []
lost_more calls first chunk found [] is = ap (λ c. record { chunk = c; found = found; won = false; calls = calls } ∷ []) (let same : first ≡ chunk = omega arith in same)
lost_more calls first chunk found (word ∷ words) is = ap (λ l. record { chunk = first; found = word; won = false; calls = calls } ∷ l) (lost_more calls (first + 1) chunk found words (omega arith))

claimed_more : (setup : Setup) (first chunk found : ℕ) (words : List ℕ) → first + length words ≡ chunk
    → AllClaimed setup first words → bit_at found (32 + (spot setup chunk).place) ≡ 1 → AllClaimed setup first (words ++ found ∷ [])
claimed_more setup first chunk found words is all here = λ k below.
    let count : length (words ++ found ∷ []) ≡ length words + 1 = length-append words (found ∷ []) in
    below_more
    (λ i. bit_at (get_or (words ++ found ∷ []) i 0) (32 + (spot setup (first + i)).place) ≡ 1)
    (length words)
    (λ i low. subst (λ w. bit_at w (32 + (spot setup (first + i)).place) ≡ 1) (sym (get_or_append_left words (found ∷ []) 0 i low)) (all i low))
    (subst (λ w. bit_at w (32 + (spot setup (first + length words)).place) ≡ 1) (sym (get_or-append_seam words found [] 0))
    (subst (λ c. bit_at found (32 + (spot setup c).place) ≡ 1) (sym is) here))
    k
    (omega arith)

-- nothing was asked for yet
pub vain_none : (setup : Setup) (first : ℕ) (view : WriterView) → AsksInVain setup first 0 view view
vain_none setup first view = record {
  words = [];
  count_is = refl;
  claimed = λ k below. absurd (omega arith);
  view = ap (λ l. record view { asked = l }) (sym (append-nil view.asked));
}

-- one more claim is lost
pub vain_more : (setup : Setup) (first count chunk : ℕ) (old mid new : WriterView) → first + count ≡ chunk
    → AsksInVain setup first count old mid → TriesClaim setup chunk false mid new → AsksInVain setup first (count + 1) old new
vain_more setup first count chunk old mid new is vain lost =
    let at : first + length vain.words ≡ chunk = let many = vain.count_is in omega arith in
    let ask : Ask = record { chunk = chunk; found = lost.found; won = false; calls = length old.calls } in
    record {
      words = vain.words ++ lost.found ∷ [];
      count_is = length-append vain.words (lost.found ∷ []) ∙ ap (λ n. n + 1) vain.count_is;
      claimed = claimed_more setup first chunk lost.found vain.words at vain.claimed lost.bit;
      view = lost.view ∙ (ap (λ v. claims v chunk lost.found false) vain.view
          ∙ ap (λ l. record old { asked = l }) (append_assoc old.asked (lost_asks (length old.calls) first vain.words) (ask ∷ [])
          ∙ ap (λ l. old.asked ++ l) (sym (lost_more (length old.calls) first chunk lost.found vain.words at))));
    }

without_last : (x : ℕ) (ys : List ℕ) → times x ys ≡ 0 → without x (ys ++ x ∷ []) ≡ ys
without_last x [] none = grind (arith, nat_tests)
without_last x (y ∷ ys) none =
    dite (ℕ_discrete y x)
    (λ same. absurd (grind (arith, nat_tests)))
    (λ differs. let less : times x ys ≡ 0 = grind (arith, nat_tests) in let tail : without x (ys ++ x ∷ []) ≡ ys = without_last x ys less in grind (arith, nat_tests, tail))

-- the next claim wins, and the chunk is begun
pub turn_won : (setup : Setup) (first count most chunk : ℕ) (old mid won new : WriterView) → first + count ≡ chunk → count < most
    → AsksInVain setup first count old mid → TriesClaim setup chunk true mid won → BeginsChunk setup chunk won new → old.stamped ≡ None
    → ClaimsInTurn setup first most chunk old new
turn_won setup first count most chunk old mid won new is inside vain wins begun rests =
    let at : first + length vain.words ≡ chunk = let many = vain.count_is in omega arith in
    let asked = old.asked ++ lost_asks (length old.calls) first vain.words ++ record { chunk = chunk; found = wins.found; won = true; calls = length old.calls } ∷ [] in
    let begun_list = old.begun ++ Held chunk (fresh begun.words) ∷ [] in
    let view = begun.view ∙ ap (λ v. begins (stamps v chunk) chunk begun.words) (wins.view ∙ ap (λ v. claims v chunk wins.found true) vain.view) in
    let none : times chunk old.claimed ≡ 0 = sym (ap (λ (v : WriterView). times chunk v.claimed) vain.view) ∙ wins.fresh refl in
    record {
      least = omega arith;
      below = omega arith;
      words = vain.words;
      count_is = at;
      claimed = vain.claimed;
      found = wins.found;
      free = wins.bit;
      payload = begun.words;
      room = begun.room;
      view = view ∙ (ap (λ l. record old { asked = asked; claimed = l; stamped = None; begun = begun_list }) (without_last chunk old.claimed none)
          ∙ ap (λ x. record old { asked = asked; stamped = x; begun = begun_list }) (sym rests));
    }

-- no claim changes what the writer began
pub begun_same : (setup : Setup) (first count chunk : ℕ) (old mid won : WriterView) → AsksInVain setup first count old mid → TriesClaim setup chunk true mid won → length won.begun ≡ length old.begun
begun_same setup first count chunk old mid won vain wins =
    ap (λ (v : WriterView). length v.begun) wins.view ∙ ap (λ (v : WriterView). length v.begun) vain.view

-- the id of the next position, once the set-up, the place and the chunks begun are as they were
pub same_id : (setup now : Setup) (place there count many id : ℕ) → now ≡ setup → there ≡ place → many ≡ count → id ≡ id_at setup place count → id ≡ id_at now there many
same_id setup now place there count many id setup_is place_is count_is is =
    is
    ∙ (ap (λ (s : Setup). id_at s place count) (sym setup_is)
    ∙ (ap (λ (p : ℕ). id_at now p count) (sym place_is) ∙ ap (λ (n : ℕ). id_at now there n) (sym count_is)))

-- ---- what is told

pub noted_again : (world : World) (place other : ℕ) (u v : WriterView) → other ≡ place → with_writer_view (with_writer_view world place u) other v ≡ with_writer_view world place v
noted_again world place other u v is = ap (λ p. with_writer_view (with_writer_view world place u) p v) is ∙ ap (λ l. record world { writers = l }) (set-set world.writers place u v)

-- the chunk was claimed and then begun, whatever the view was before
pub told_begun : (told : Option World) (world : World) (place other last chunk c position : ℕ) (u v w : WriterView) (draft : Draft) → other ≡ place → last ≡ place → c ≡ chunk
    → told ≡ Some (moved (moved (with_writer_view world place u) other v chunk (Claimed other)) last w c (Writing last position draft))
    → told ≡ Some (moved world place w chunk (Writing place position draft))
told_begun told world place other last chunk c position u v w draft other_is last_is chunk_is is =
    let to = Writing place position draft in
    let first = subst (λ p. told ≡ Some (moved (moved (with_writer_view world place u) p v chunk (Claimed p)) last w c (Writing last position draft))) other_is is in
    let second = subst (λ p. told ≡ Some (moved (moved (with_writer_view world place u) place v chunk (Claimed place)) p w c (Writing p position draft))) last_is first in
    let third = subst (λ d. told ≡ Some (moved (moved (with_writer_view world place u) place v chunk (Claimed place)) place w d to)) chunk_is second in
    let chunks = set-set world.chunks chunk (Claimed place) to in
    let writers = set-set (set world.writers place u) place v w ∙ set-set world.writers place u w in
    third ∙ (ap (λ l. Some (record world { chunks = l; writers = set (set (set world.writers place u) place v) place w })) chunks
    ∙ ap (λ l. Some (record world { chunks = set world.chunks chunk to; writers = l })) writers)

-- nothing was asked for yet, so the world is as it was
pub noted_same : (world : World) (place : ℕ) (view : WriterView) → view ≡ writer world place → Some world ≡ Some (with_writer_view world place view)
noted_same world place view is =
    ap (λ l. Some (record world { writers = l })) (sym (set-get_or world.writers place newcomer)) ∙ ap (λ v. Some (with_writer_view world place v)) (sym is)

pub none_free : (world : World) (first chunk : ℕ) → NoneFree world first chunk → (status world chunk ≡ Unclaimed → ⊥) → NoneFree world first (chunk + 1)
none_free world first chunk before here = λ c least below free.
    dite (ℕ_discrete c chunk)
    (λ same. here (subst (λ i. status world i ≡ Unclaimed) same free))
    (λ differs. before c least (omega arith) free)

-- what a claim leaves of the chunks that the writer holds
pub held_same : (setup : Setup) (first count chunk : ℕ) (old mid won : WriterView) → AsksInVain setup first count old mid → TriesClaim setup chunk true mid won → won.begun ≡ old.begun
held_same setup first count chunk old mid won vain wins = ap (λ (v : WriterView). v.begun) wins.view ∙ ap (λ (v : WriterView). v.begun) vain.view

-- nothing is finished in a chunk that was just begun
pub turn_sealed : (setup : Setup) (first most chunk : ℕ) (old new : WriterView) (position : ℕ) → ClaimsInTurn setup first most chunk old new → position ≡ length old.begun → sealed_to (draft_at new position).ends ≡ 0
turn_sealed setup first most chunk old new position turn is =
    let draft_is : draft_at new position ≡ fresh turn.payload = ap (λ v. draft_at v position) turn.view
    ∙ (ap (λ i. draft_in (get_or (old.begun ++ Held chunk (fresh turn.payload) ∷ []) i (Held 0 no_draft))) is
    ∙ ap draft_in (get_or-append_seam old.begun (Held chunk (fresh turn.payload)) [] (Held 0 no_draft))) in
    ap (λ (d : Draft). sealed_to d.ends) draft_is
