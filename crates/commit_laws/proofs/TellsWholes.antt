-- Where as many packets are delivered as were written whole, the records tell of each that was emitted and never dropped.
use Rattle.std.proofs.Common.{◌≡◌, ◌∙◌, ℕ, zero, suc, ◌≤◌, ◌⊎◌, Bool, true, false, not, ◌&&◌, ◌||◌, List, [], ◌∷◌, ◌++◌, drop, length, map, Some, refl, sym, ap, subst, arith, inl, inr}
use Rattle.std.specs.Prelude.{cond, ◌==◌, filter, is_some, slice_get, MatchBool}
use Rattle.std.specs.List.{AllZip}
use Rattle.std.proofs.lemmas.Bool.{false≢true, cases_eq, eq-eqb, ne_eqb}
use Rattle.trace_model.specs.Packets.{Packet, finished_encodings, front_of, is_lost, kept_of, packet_encoding}
use Rattle.trace_model.specs.Reads.{Delivery}
use Rattle.trace_model.specs.Record.{mark_where, record_of}
use Rattle.delivery_laws.specs.Histories.{AreTold}
use Rattle.delivery_laws.specs.Sheets.{WrittenPacket}
use Rattle.delivery_laws.proofs.EmissionLemmas.{Fits, InTurn, Pairs, record_bytes}
use Rattle.commit_laws.specs.Complete.{TellsAt, kept_places}
use Rattle.commit_laws.proofs.FullReads.{wholes, wholes-cons}

-- Deliveries of all that is whole

-- the whole ones of these packets as they are delivered, where the first is marked or not
abbrev due : Bool → List WrittenPacket → List Delivery
due marked [] = []
due marked (packet ∷ packets) = cond packet.whole (record { body = packet.bytes; marked = marked } ∷ due false packets) (due true packets)

due_first : (packet : WrittenPacket) (packets : List WrittenPacket) (marked : Bool) (delivery : Delivery) (deliveries : List Delivery) → delivery.marked ≡ marked
    → packet ≡ record { bytes = delivery.body; whole = true } → deliveries ≡ due false packets → delivery ∷ deliveries ≡ due marked (packet ∷ packets)
due_first packet packets marked delivery deliveries mark is rest =
    ap (λ (b : Bool). record { body = delivery.body; marked = b } ∷ deliveries) mark
    ∙ ap (λ (ds : List Delivery). record { body = delivery.body; marked = marked } ∷ ds) rest
    ∙ sym (ap (λ (p : WrittenPacket). due marked (p ∷ packets)) is)

one_left : {X : Type 0} (n : ℕ) (xs : List X) (x : X) (rest : List X) → drop n xs ≡ x ∷ rest → (drop (suc n) xs ≡ rest) × (slice_get xs n ≡ Some x)
one_left zero [] x rest e = absurd (cc)
one_left (suc n) [] x rest e = absurd (cc)
one_left zero (y ∷ ys) x rest e = (cc, cc)
one_left (suc n) (y ∷ ys) x rest e = one_left n ys x rest e

none_left : {X : Type 0} (n k : ℕ) (xs : List X) (x : X) → drop n xs ≡ [] → n ≤ k → slice_get xs k ≡ Some x → ⊥
none_left n k [] x e low get = cc
none_left zero k (y ∷ ys) x e low get = cc
none_left (suc n) zero (y ∷ ys) x e low get = omega (arith, low)
none_left (suc n) (suc k) (y ∷ ys) x e low get = none_left n k ys x e (omega (arith, low)) get

module _ (all : List WrittenPacket) where
  -- the first of these deliveries stands at this place, or behind it
  abbrev From : ℕ → (first : Bool) (next : ℕ) (deliveries : List Delivery) → AreTold all first next deliveries → Type 0
  From at first next [] told = Unit {0}
  From at first next (delivery ∷ deliveries) told = at ≤ told.0

  from_next : (at : ℕ) (deliveries : List Delivery) (next : ℕ) → suc at ≡ next → (told : AreTold all false next deliveries) → From (suc at) false next deliveries told
  from_next at [] next e told = tt
  from_next at (delivery ∷ deliveries) next e told = let low = told.1 in omega (arith, e, low)

  -- there are at most as many as whole packets from there on
  abbrev AreFew : List WrittenPacket → Type 0
  AreFew packets =
      (at : ℕ) → drop at all ≡ packets → (first : Bool) (next : ℕ) (deliveries : List Delivery) (told : AreTold all first next deliveries)
      → From at first next deliveries told → length deliveries ≤ wholes packets

  told_few : (packets : List WrittenPacket) → AreFew packets
  told_few packets at e first next [] told from = omega arith
  told_few [] at e first next (delivery ∷ deliveries) told from = absurd (none_left at told.0 all (record { bytes = delivery.body; whole = true }) e from told.2)
  told_few (packet ∷ packets) at e first next (delivery ∷ deliveries) told from = by_place (cases_eq at told.0) (told_few packets)
    where
      by_place : (at ≡ told.0) ⊎ (at ≡ told.0 → ⊥) → AreFew packets → length (delivery ∷ deliveries) ≤ wholes (packet ∷ packets)
      by_place (inl same) few =
          let there : slice_get all told.0 ≡ Some packet = subst (λ (n : ℕ). slice_get all n ≡ Some packet) same (one_left at all packet packets e).1 in
          let told_there = told.2 in
          let is : packet ≡ record { bytes = delivery.body; whole = true } = cc in
          let whole : cond {A = ℕ} packet.whole 1 0 ≡ 1 = ap (λ (p : WrittenPacket). cond {A = ℕ} p.whole 1 0) is in
          let rest = few (suc at) (one_left at all packet packets e).0 false (suc told.0) deliveries told.4 (from_next at deliveries (suc told.0) (ap suc same) told.4) in
          let c = wholes-cons packet packets in
          omega (arith, rest, c, whole)
      by_place (inr other) few =
          let higher : suc at ≤ told.0 = grind (arith, from, other) in
          let rest = few (suc at) (one_left at all packet packets e).0 first next (delivery ∷ deliveries) told higher in
          let c = wholes-cons packet packets in
          omega (arith, rest, c)

  -- so where there are as many, they are all of them
  abbrev AreDue : List WrittenPacket → Type 0
  AreDue packets =
      (at : ℕ) → drop at all ≡ packets → (first : Bool) (next : ℕ) (marked : Bool) → next ≤ at → marked ≡ (first || not (at == next))
      → (deliveries : List Delivery) (told : AreTold all first next deliveries) → From at first next deliveries told → wholes packets ≤ length deliveries → deliveries ≡ due marked packets

  all_due : (packets : List WrittenPacket) → AreDue packets
  all_due [] at e first next marked low m [] told from many = refl
  all_due [] at e first next marked low m (delivery ∷ deliveries) told from many = absurd (none_left at told.0 all (record { bytes = delivery.body; whole = true }) e from told.2)
  all_due (packet ∷ packets) at e first next marked low m deliveries told from many = by_deliveries deliveries told from many (all_due packets)
    where
      passed_mark : true ≡ (first || not (suc at == next))
      passed_mark = sym (ap (λ (b : Bool). first || not b) (ne_eqb (suc at) next (λ f. omega (arith, f, low))) ∙ or_true first)
        where
          or_true : (b : Bool) → (b || true) ≡ true
          or_true true = refl
          or_true false = refl

      -- a packet that is passed isn't whole
      passed : (deliveries : List Delivery) (told : AreTold all first next deliveries) → From (suc at) first next deliveries told → wholes (packet ∷ packets) ≤ length deliveries
          → AreDue packets → deliveries ≡ due marked (packet ∷ packets)
      passed deliveries told from many rest = by_whole packet.whole refl
        where
          by_whole : (w : Bool) → packet.whole ≡ w → deliveries ≡ cond w (record { body = packet.bytes; marked = marked } ∷ due false packets) (due true packets)
          by_whole true f =
              let few = told_few packets (suc at) (one_left at all packet packets e).0 first next deliveries told from in
              let c = wholes-cons packet packets in
              let one : cond {A = ℕ} packet.whole 1 0 ≡ 1 = ap (λ (b : Bool). cond {A = ℕ} b 1 0) f in
              absurd (omega (arith, few, c, one, many))
          by_whole false f =
              let c = wholes-cons packet packets in
              rest (suc at) (one_left at all packet packets e).0 first next true (omega (arith, low)) passed_mark deliveries told from (omega (arith, c, many))

      by_deliveries : (deliveries : List Delivery) (told : AreTold all first next deliveries) → From at first next deliveries told → wholes (packet ∷ packets) ≤ length deliveries
          → AreDue packets → deliveries ≡ due marked (packet ∷ packets)
      by_deliveries [] told from many others = passed [] told tt many others
      by_deliveries (delivery ∷ deliveries) told from many others = by_place (cases_eq at told.0)
        where
          found : at ≡ told.0 → packet ≡ record { bytes = delivery.body; whole = true }
          found same =
              let there : slice_get all told.0 ≡ Some packet = subst (λ (n : ℕ). slice_get all n ≡ Some packet) same (one_left at all packet packets e).1 in
              let told_there = told.2 in
              cc

          by_place : (at ≡ told.0) ⊎ (at ≡ told.0 → ⊥) → delivery ∷ deliveries ≡ due marked (packet ∷ packets)
          by_place (inr other) =
              let higher : suc at ≤ told.0 = grind (arith, from, other) in
              passed (delivery ∷ deliveries) told higher many others
          by_place (inl same) =
              let one : cond {A = ℕ} packet.whole 1 0 ≡ 1 = ap (λ (p : WrittenPacket). cond {A = ℕ} p.whole 1 0) (found same) in
              let c = wholes-cons packet packets in
              let mark : delivery.marked ≡ marked = told.3 ∙ ap (λ (n : ℕ). first || not (n == next)) (sym same) ∙ sym m in
              let rest : deliveries ≡ due false packets =
              others (suc at) (one_left at all packet packets e).0 false (suc told.0) false (omega (arith, same)) (sym (ap not (eq-eqb (suc at) (suc told.0) (ap suc same)))) deliveries told.4
              (from_next at deliveries (suc told.0) (ap suc same) told.4) (omega (arith, many, c, one)) in
              due_first packet packets marked delivery deliveries mark (found same) rest

-- From written packets to emissions

-- a packet that is finished and was never dropped was written whole
abbrev pub IsExactOf : Packet → WrittenPacket → Type 0
IsExactOf packet told = packet.finished ≡ true → is_some packet.given_up ≡ false → told.whole ≡ true

module _ (emitted : List (List ℕ)) (q : ℕ) where
  abbrev TellsDue : List Packet → Type 0
  TellsDue packets =
      (told : List WrittenPacket) (lost first marked : Bool) (next place : ℕ) → drop place emitted ≡ finished_encodings packets → Pairs packets told → AllZip IsExactOf (kept_of packets) told
      → InTurn lost packets → next ≤ place → (lost || marked) ≡ (first || not (place == next))
      → TellsAt emitted q first next (kept_places place packets) (map (record_bytes q) (due marked told))

  or_true : (b : Bool) → (b || true) ≡ true
  or_true true = refl
  or_true false = refl

  -- the packet stands next among those emitted, where it is finished
  emitted_next : (packet : Packet) (packets : List Packet) → packet.finished ≡ true → finished_encodings (packet ∷ packets) ≡ packet_encoding packet ∷ finished_encodings packets
  emitted_next packet packets e = ap (λ (b : Bool). map packet_encoding (cond b (packet ∷ filter (λ p. p.finished) packets) (filter (λ p. p.finished) packets))) e

  -- where one more place is passed, something is missing
  passed_place : (first : Bool) (next place : ℕ) → next ≤ place → (first || not (suc place == next)) ≡ true
  passed_place first next place low = ap (λ (b : Bool). first || not b) (ne_eqb (suc place) next (λ f. omega (arith, f, low))) ∙ or_true first

  module _ (packet : Packet) (packets : List Packet) (rest : TellsDue packets) (lost first marked : Bool) (next place : ℕ)
      (e : drop place emitted ≡ finished_encodings (packet ∷ packets)) (turn : InTurn lost (packet ∷ packets)) (low : next ≤ place)
      (marks : (lost || marked) ≡ (first || not (place == next))) where
    stands : packet.finished ≡ true → (drop (suc place) emitted ≡ finished_encodings packets) × (slice_get emitted place ≡ Some (packet_encoding packet))
    stands f = one_left place emitted (packet_encoding packet) (finished_encodings packets) (e ∙ emitted_next packet packets f)

    abbrev places : Bool → Bool → List ℕ
    places finished lost_one =
        cond finished (cond lost_one (kept_places (suc place) packets) (place ∷ kept_places (suc place) packets)) (kept_places place packets)

    -- a packet that is lost
    missing : (told : List WrittenPacket) (marked' : Bool) → Pairs packets told → AllZip IsExactOf (kept_of packets) told → is_lost packet ≡ true → packet.finished ≡ true
        → TellsAt emitted q first next (kept_places place (packet ∷ packets)) (map (record_bytes q) (due marked' told))
    missing told marked' pairs exact l f =
        subst (λ (b : Bool). TellsAt emitted q first next (places b (is_lost packet)) (map (record_bytes q) (due marked' told))) (sym f)
        (subst (λ (b : Bool). TellsAt emitted q first next (places true b) (map (record_bytes q) (due marked' told))) (sym l)
        (rest told true first marked' next (suc place) (stands f).0 pairs exact (subst (λ (b : Bool). InTurn b packets) l turn.2) (omega (arith, low))
        (sym (passed_place first next place low))))

    -- a packet that isn't finished, behind which there is none
    unfinished : (told : List WrittenPacket) → Pairs packets told → packet.finished ≡ false
        → TellsAt emitted q first next (kept_places place (packet ∷ packets)) (map (record_bytes q) (due true told))
    unfinished told pairs f =
        let none = turn.1 f in
        let no_told : told ≡ [] = subst (λ (ps : List Packet). Pairs ps told) none pairs in
        subst (λ (b : Bool). TellsAt emitted q first next (places b (is_lost packet)) (map (record_bytes q) (due true told))) (sym f)
        (subst (λ (ps : List Packet). TellsAt emitted q first next (kept_places place ps) (map (record_bytes q) (due true told))) (sym none)
        (ap (λ (ts : List WrittenPacket). map (record_bytes q) (due true ts)) no_told))

    -- a packet that was dropped at its begin
    not_kept : (told : List WrittenPacket) → packet.kept ≡ false → Pairs packets told → AllZip IsExactOf (kept_of packets) told
        → TellsAt emitted q first next (kept_places place (packet ∷ packets)) (map (record_bytes q) (due marked told))
    not_kept told k pairs exact = by_finish packet.finished refl
      where
        lost_one : is_lost packet ≡ true
        lost_one = ap (λ (b : Bool). not b || is_some packet.given_up) k

        by_finish : (b : Bool) → packet.finished ≡ b → TellsAt emitted q first next (kept_places place (packet ∷ packets)) (map (record_bytes q) (due marked told))
        by_finish true f = missing told marked pairs exact lost_one f
        by_finish false f =
            let none = turn.1 f in
            let no_told : told ≡ [] = subst (λ (ps : List Packet). Pairs ps told) none pairs in
            let same : due marked told ≡ due true told = ap (due marked) no_told ∙ sym (ap (due true) no_told) in
            subst (λ (ds : List Delivery). TellsAt emitted q first next (kept_places place (packet ∷ packets)) (map (record_bytes q) ds)) (sym same) (unfinished told pairs f)

    -- a packet that was kept
    kept : (one : WrittenPacket) (told : List WrittenPacket) → packet.kept ≡ true → Fits packet one → Pairs packets told → IsExactOf packet one
        → AllZip IsExactOf (kept_of packets) told → TellsAt emitted q first next (kept_places place (packet ∷ packets)) (map (record_bytes q) (due marked (one ∷ told)))
    kept one told k fits pairs exact rest_exact = by_whole one.whole refl
      where
        lost_as : is_lost packet ≡ is_some packet.given_up
        lost_as = ap (λ (b : Bool). not b || is_some packet.given_up) k

        by_whole : (w : Bool) → one.whole ≡ w
            → TellsAt emitted q first next (kept_places place (packet ∷ packets)) (map (record_bytes q) (cond w (record { body = one.bytes; marked = marked } ∷ due false told) (due true told)))
        by_whole true w =
            let f = fits.finished w in
            let l = fits.kept w in
            let front : front_of packet ≡ mark_where lost = ap mark_where (ap (λ (b : Bool). b && packet.follows_loss) k ∙ turn.0) in
            subst (λ (b : Bool). TellsAt emitted q first next (places b (is_lost packet)) (record_of one.bytes q marked ∷ map (record_bytes q) (due false told))) (sym f)
            (subst (λ (b : Bool). TellsAt emitted q first next (places true b) (record_of one.bytes q marked ∷ map (record_bytes q) (due false told))) (sym l) (
              record {
                packet = packet_encoding packet;
                emitted_there = (stands f).1;
                not_before = low;
                front = lost;
                behind = marked;
                exact = ap (λ (bytes : List ℕ). record_of bytes q marked) (fits.bytes w ∙ ap (λ (bytes : List ℕ). bytes ++ packet_encoding packet) front);
                marked = marks;
              },
              rest told false false false (suc place) (suc place) (stands f).0 pairs rest_exact (subst (λ (b : Bool). InTurn b packets) l turn.2) (omega arith)
                  (sym (ap not (eq-eqb (suc place) (suc place) refl))),
            ))
        by_whole false w = by_finish packet.finished refl
          where
            by_finish : (b : Bool) → packet.finished ≡ b → TellsAt emitted q first next (kept_places place (packet ∷ packets)) (map (record_bytes q) (due true told))
            by_finish false f = unfinished told pairs f
            by_finish true f = missing told true pairs rest_exact (lost_as ∙ is_given (is_some packet.given_up) refl) f
              where
                is_given : (b : Bool) → is_some packet.given_up ≡ b → is_some packet.given_up ≡ true
                is_given true g = g
                is_given false g = absurd (false≢true (sym w ∙ exact f g))

  tells_due : (packets : List Packet) → TellsDue packets
  tells_due [] told lost first marked next place e pairs exact turn low marks = ap (λ (ts : List WrittenPacket). map (record_bytes q) (due marked ts)) pairs
  tells_due (packet ∷ packets) [] lost first marked next place e pairs exact turn low marks =
      not_kept packet packets (tells_due packets) lost first marked next place e turn low marks [] pairs.0 pairs.1
      (subst (λ (b : Bool). AllZip IsExactOf (cond b (packet ∷ kept_of packets) (kept_of packets)) []) pairs.0 exact)
  tells_due (packet ∷ packets) (one ∷ told) lost first marked next place e pairs exact turn low marks = by_kept packet.kept refl pairs exact (tells_due packets)
    where
      by_kept : (b : Bool) → packet.kept ≡ b → MatchBool b (Fits packet one × Pairs packets told) (Pairs packets (one ∷ told))
          → AllZip IsExactOf (cond b (packet ∷ kept_of packets) (kept_of packets)) (one ∷ told) → TellsDue packets
          → TellsAt emitted q first next (kept_places place (packet ∷ packets)) (map (record_bytes q) (due marked (one ∷ told)))
      by_kept true k p x rest = kept packet packets rest lost first marked next place e turn low marks one told k p.0 p.1 x.0 x.1
      by_kept false k p x rest = not_kept packet packets rest lost first marked next place e turn low marks (one ∷ told) k p x

-- Where each packet that was finished and never dropped was written whole, and as many are delivered, the records tell of all of them.
pub all_told : (packets : List Packet) (told : List WrittenPacket) (q : ℕ) (deliveries : List Delivery) → Pairs packets told → InTurn false packets
    → AllZip IsExactOf (kept_of packets) told → AreTold told true 0 deliveries → wholes told ≤ length deliveries
    → TellsAt (finished_encodings packets) q true 0 (kept_places 0 packets) (map (record_bytes q) deliveries)
all_told packets told q deliveries pairs turn exact h many =
    let all : deliveries ≡ due true told = all_due told told 0 refl true 0 true (omega arith) refl deliveries h (from deliveries h) many in
    subst (λ (ds : List Delivery). TellsAt (finished_encodings packets) q true 0 (kept_places 0 packets) (map (record_bytes q) ds)) (sym all)
    (tells_due (finished_encodings packets) q packets told false true true 0 0 refl pairs exact turn (omega arith) refl)
  where
    from : (deliveries : List Delivery) (h : AreTold told true 0 deliveries) → From told 0 true 0 deliveries h
    from [] h = tt
    from (delivery ∷ deliveries) h = omega arith
