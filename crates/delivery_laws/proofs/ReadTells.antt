-- What one read delivers of a row that walks over what was written is told from the place where the walk begins. Said with
-- what comes behind, so that a history is one recursion over its events.
use Rattle.std.proofs.Common.{◌≡◌, ◌∙◌, ℕ, zero, suc, ◌+◌, ◌-◌, ◌<◌, ◌≤◌, ◌⊎◌, Bool, true, false, not, ◌&&◌, ◌||◌, List, [], ◌∷◌, ◌++◌, length, drop, Some, refl, sym, ap, subst, arith, inl, inr, drop-drop}
use Rattle.std.specs.Prelude.{cond, ◌==◌, slice_get}
use Rattle.std.proofs.lemmas.Bool.{false≢true, eq-eqb, ne_eqb, or_left, or_right}
use Rattle.std.proofs.Math.Seq.{drop-append_seam}
use Rattle.trace_model.specs.Counts.{one_if}
use Rattle.trace_model.specs.Row.{Fate, Whole, Marked, IntoLost, CutOff, Open, Chain, Link, Joined, Gap, Stop, bytes_of}
use Rattle.trace_model.specs.Reads.{turn_by, turn_of, delivers, ends, passed_by, left_by, Delivery, delivered_of, missing_after}
use Rattle.trace_model.specs.Walks.{is_accepted}
use Rattle.delivery_laws.specs.Sheets.{Part, WrittenPacket, tail_bytes, ends_whole, packets_in}
use Rattle.delivery_laws.specs.Histories.{AreTold}
use Rattle.delivery_laws.proofs.Walks.{Follows, is_clear, IsChain, Walks}

-- What is known before a link: the packets that begin in these parts are those from the place `at` on. A next delivery is
-- unmarked only where a packet begins here that comes right behind the last one delivered; it is marked where it would be the
-- first or a packet was passed.
pub record IsBefore (packets : List WrittenPacket) (marked first : Bool) (next : ℕ) (parts : List Part) : Type 0 where
  pub at : ℕ
  pub from : drop at packets ≡ packets_in parts
  pub rising : next ≤ at
  pub unmarked : marked ≡ false → (first ≡ false) × (next ≡ at) × Follows true parts
  pub skipped : marked ≡ true → (first ≡ true) ⊎ (next < at)

drop_more : (n k : ℕ) (packets more others : List WrittenPacket) → drop n packets ≡ more ++ others → length more ≡ k → drop (n + k) packets ≡ others
drop_more n k packets more others e l =
    let turned : n + k ≡ length more + n = omega (arith, l) in
    ap (λ (m : ℕ). drop m packets) (omega (arith, l)) ∙ sym (drop-drop (length more) n packets) ∙ ap (λ (ps : List WrittenPacket). drop (length more) ps) e
    ∙ drop-append_seam more others

found_first : (n : ℕ) (packets : List WrittenPacket) (one : WrittenPacket) (others : List WrittenPacket) → drop n packets ≡ one ∷ others → slice_get packets n ≡ Some one
found_first zero [] one others e = absurd (cc)
found_first (suc n) [] one others e = absurd (cc)
found_first zero (p ∷ ps) one others e = let same : p ≡ one = cc in ap (λ (x : WrittenPacket). Some x) same
found_first (suc n) (p ∷ ps) one others e = found_first n ps one others e

-- a link that isn't delivered passes some packets, and at least one where a packet begins with it
pub record IsPassed (first : Part) (parts next : List Part) : Type 0 where
  pub skipped : List WrittenPacket
  pub after : packets_in (first ∷ parts) ≡ skipped ++ packets_in next
  pub one : first.starts ≡ true → 0 < length skipped

passed_between : (first : Part) (parts next : List Part) (between : List WrittenPacket) → packets_in parts ≡ between ++ packets_in next → IsPassed first parts next
passed_between first parts next between e = by_start first.starts refl
  where
    by_start : (b : Bool) → first.starts ≡ b → IsPassed first parts next
    by_start true s = record {
      skipped = record { bytes = first.bytes ++ tail_bytes parts; whole = ends_whole first parts } ∷ between;
      after = ap (λ (b : Bool). cond b (record { bytes = first.bytes ++ tail_bytes parts; whole = ends_whole first parts } ∷ packets_in parts) (packets_in parts)) s
          ∙ ap (λ (ps : List WrittenPacket). record { bytes = first.bytes ++ tail_bytes parts; whole = ends_whole first parts } ∷ ps) e;
      one = λ h. omega arith;
    }
    by_start false s = record {
      skipped = between;
      after = ap (λ (b : Bool). cond b (record { bytes = first.bytes ++ tail_bytes parts; whole = ends_whole first parts } ∷ packets_in parts) (packets_in parts)) s ∙ e;
      one = λ h. absurd (false≢true (sym s ∙ h));
    }

passed_on : (packets : List WrittenPacket) (marked first : Bool) (next : ℕ) (part : Part) (parts behind : List Part)
    → IsBefore packets marked first next (part ∷ parts) → IsPassed part parts behind → IsBefore packets true first next behind
passed_on packets marked first next part parts behind is passed = record {
  at = is.at + length passed.skipped;
  from = drop_more is.at (length passed.skipped) packets passed.skipped (packets_in behind) (is.from ∙ passed.after) refl;
  rising = let low = is.rising in omega (arith, low);
  unmarked = λ e. absurd (false≢true (sym e));
  skipped = λ e. by_mark marked refl;
}
  where
    by_mark : (m : Bool) → marked ≡ m → (first ≡ true) ⊎ (next < is.at + length passed.skipped)
    by_mark true e = further (is.skipped e)
      where
        further : ((first ≡ true) ⊎ (next < is.at)) → (first ≡ true) ⊎ (next < is.at + length passed.skipped)
        further (inl h) = inl h
        further (inr h) = inr (omega (arith, h))
    by_mark false e =
        let here = is.unmarked e in
        let some = passed.one here.2 in
        let low = is.rising in
        inr (omega (arith, some, low))

-- what stands behind a delivery, and its mark
record IsDelivered (packets : List WrittenPacket) (marked first : Bool) (next : ℕ) (body : List ℕ) (behind : List Part) : Type 0 where
  at : ℕ
  rising : next ≤ at
  get : slice_get packets at ≡ Some (record { bytes = body; whole = true })
  mark : marked ≡ (first || not (at == next))
  after : IsBefore packets false false (suc at) behind

mark_is : (packets : List WrittenPacket) (marked first : Bool) (next : ℕ) (parts : List Part) (is : IsBefore packets marked first next parts)
    → marked ≡ (first || not (is.at == next))
mark_is packets marked first next parts is = by_mark marked refl
  where
    by_mark : (m : Bool) → marked ≡ m → marked ≡ (first || not (is.at == next))
    by_mark true e = e ∙ by_skip (is.skipped e)
      where
        by_skip : ((first ≡ true) ⊎ (next < is.at)) → true ≡ (first || not (is.at == next))
        by_skip (inl h) = sym (or_left first (not (is.at == next)) h)
        by_skip (inr h) = sym (or_right first (not (is.at == next)) (ap not (ne_eqb is.at next (λ f. omega (arith, f, h)))))
    by_mark false e =
        let here = is.unmarked e in
        e ∙ sym (ap (λ (b : Bool). b || not (is.at == next)) here.0 ∙ ap not (eq-eqb is.at next (sym here.1)))

delivered_on : (At : ℕ → ℕ → List Part → Type 0) (packets : List WrittenPacket) (marked first : Bool) (next : ℕ) (chain : Chain) (part : Part) (parts behind : List Part)
    → IsBefore packets marked first next (part ∷ parts) → IsChain At chain part parts behind → is_clear chain.fate chain.awaits ≡ true → chain.headless ≡ false
    → IsDelivered packets marked first next (bytes_of chain.pieces) behind
delivered_on At packets marked first next chain part parts behind is c clear head =
    let whole = c.clear clear in
    let here : drop is.at packets ≡ record { bytes = bytes_of chain.pieces; whole = true } ∷ packets_in parts =
    is.from
    ∙ ap (λ (b : Bool). cond b (record { bytes = part.bytes ++ tail_bytes parts; whole = ends_whole part parts } ∷ packets_in parts) (packets_in parts)) (c.starts ∙ ap not head)
    ∙ ap (λ (b : Bool). record { bytes = part.bytes ++ tail_bytes parts; whole = b } ∷ packets_in parts) whole.1
    ∙ ap (λ (xs : List ℕ). record { bytes = xs; whole = true } ∷ packets_in parts) whole.0 in
    let one_more : suc is.at ≡ is.at + 1 = omega arith in
    record {
      at = is.at;
      rising = is.rising;
      get = found_first is.at packets (record { bytes = bytes_of chain.pieces; whole = true }) (packets_in parts) here;
      mark = mark_is packets marked first next (part ∷ parts) is;
      after = record {
        at = suc is.at;
        from = ap (λ (n : ℕ). drop n packets) one_more
            ∙ drop_more is.at 1 packets (record { bytes = bytes_of chain.pieces; whole = true } ∷ []) (packets_in parts) here refl
            ∙ c.after;
        rising = omega arith;
        unmarked = λ e. (refl, refl, whole.2);
        skipped = λ e. absurd (false≢true e);
      };
    }

-- a link that is delivered is a whole chain with its start, which awaits nothing, whatever else may spoil it
delivered_clear : (chain : Chain) → delivers (turn_of (Joined chain)) ≡ true → (is_clear chain.fate chain.awaits ≡ true) × (chain.headless ≡ false)
delivered_clear chain = by_fate chain.fate chain.headless chain.awaits (not (is_accepted (bytes_of chain.pieces)))
  where
    by_fate : (fate : Fate) (headless awaits refused : Bool) → delivers (turn_by fate headless (awaits || refused)) ≡ true
        → (is_clear fate awaits ≡ true) × (headless ≡ false)
    by_fate Open headless awaits refused h = absurd (false≢true h)
    by_fate Whole true awaits refused h = absurd (false≢true h)
    by_fate Whole false true refused h = absurd (false≢true h)
    by_fate Whole false false refused h = (refl, refl)
    by_fate Marked true awaits refused h = absurd (false≢true h)
    by_fate Marked false awaits refused h = absurd (false≢true h)
    by_fate IntoLost true awaits refused h = absurd (false≢true h)
    by_fate IntoLost false awaits refused h = absurd (false≢true h)
    by_fate CutOff true awaits refused h = absurd (false≢true h)
    by_fate CutOff false awaits refused h = absurd (false≢true h)

module _ (At : ℕ → ℕ → List Part → Type 0) (Over : ℕ → Type 0) (packets : List WrittenPacket) (more : List Delivery) where
  -- wherever the read ends, what comes behind it is told
  abbrev pub Onward : Bool → List Link → Type 0
  Onward marked left =
      (first : Bool) (next : ℕ) (parts : List Part) → Walks At Over left parts → IsBefore packets marked first next parts → AreTold packets first next more

  pub read_tells : (links : List Link) (limit : ℕ) (marked first : Bool) (next : ℕ) (parts : List Part) → Walks At Over links parts
      → IsBefore packets marked first next parts
      → Onward (missing_after marked (passed_by limit links)) (left_by limit links)
      → AreTold packets first next (delivered_of marked (passed_by limit links) ++ more)
  read_tells [] limit marked first next parts w is onward = absurd w
  read_tells (Stop at why may ∷ links) limit marked first next parts w is onward = onward first next parts w is
  read_tells (Gap at to lost ∷ links) limit marked first next [] w is onward = absurd w
  read_tells (Gap at to lost ∷ links) limit marked first next (part ∷ parts) w is onward =
      read_tells links (limit - 0) true first next w.0 w.2
      (passed_on packets marked first next part parts w.0 is (passed_between part parts w.0 w.1.between w.1.after)) onward
  read_tells (Joined chain ∷ links) limit marked first next [] w is onward = absurd w
  read_tells (Joined chain ∷ links) limit marked first next (part ∷ parts) w is onward =
      by_turn (ends (turn_of (Joined chain)) || (delivers (turn_of (Joined chain)) && (limit == 0))) onward
      (λ m f n b o. read_tells links (limit - one_if (delivers (turn_of (Joined chain)))) m f n w.0 w.2 b o)
    where
      by_turn : (b : Bool)
          → Onward (missing_after marked (cond b [] (Joined chain ∷ passed_by (limit - one_if (delivers (turn_of (Joined chain)))) links)))
          (cond b (Joined chain ∷ links) (left_by (limit - one_if (delivers (turn_of (Joined chain)))) links))
          → ((m f : Bool) (n : ℕ) → IsBefore packets m f n w.0
          → Onward (missing_after m (passed_by (limit - one_if (delivers (turn_of (Joined chain)))) links)) (left_by (limit - one_if (delivers (turn_of (Joined chain)))) links)
          → AreTold packets f n (delivered_of m (passed_by (limit - one_if (delivers (turn_of (Joined chain)))) links) ++ more))
          → AreTold packets first next (delivered_of marked (cond b [] (Joined chain ∷ passed_by (limit - one_if (delivers (turn_of (Joined chain)))) links)) ++ more)
      by_turn true o next_turn = o first next (part ∷ parts) w is
      by_turn false o next_turn = by_delivery (delivers (turn_of (Joined chain))) refl o
        where
          by_delivery : (d : Bool) → delivers (turn_of (Joined chain)) ≡ d
              → Onward (missing_after (not (delivers (turn_of (Joined chain)))) (passed_by (limit - one_if (delivers (turn_of (Joined chain)))) links)) (left_by (limit - one_if (delivers (turn_of (Joined chain)))) links)
              → AreTold packets first next (cond d
              (record { body = bytes_of chain.pieces; marked = marked } ∷ delivered_of false (passed_by (limit - one_if (delivers (turn_of (Joined chain)))) links))
              (delivered_of true (passed_by (limit - one_if (delivers (turn_of (Joined chain)))) links)) ++ more)
          by_delivery true e o =
              let clear = delivered_clear chain e in
              let done = delivered_on At packets marked first next chain part parts w.0 is w.1 clear.0 clear.1 in (
                done.at,
                done.rising,
                done.get,
                done.mark,
                next_turn false false (suc done.at) done.after
                    (subst (λ (b : Bool). Onward (missing_after (not b) (passed_by (limit - one_if (delivers (turn_of (Joined chain)))) links)) (left_by (limit - one_if (delivers (turn_of (Joined chain)))) links)) e o),
              )
          by_delivery false e o =
              next_turn true first next
              (passed_on packets marked first next part parts w.0 is (passed_between part parts w.0 [] w.1.after))
              (subst (λ (b : Bool). Onward (missing_after (not b) (passed_by (limit - one_if (delivers (turn_of (Joined chain)))) links)) (left_by (limit - one_if (delivers (turn_of (Joined chain)))) links)) e o)
