-- From the packets that were kept to those that were emitted: where the deliveries are told of the one, their records tell of
-- the other.
use Rattle.std.proofs.Common.{◌≡◌, ◌∙◌, ℕ, zero, suc, ◌<◌, ◌≤◌, ◌⊎◌, Bool, true, false, not, ◌&&◌, ◌||◌, List, [], ◌∷◌, ◌++◌, drop, map, Some, refl, sym, ap, subst, arith, inl, inr}
use Rattle.std.specs.Prelude.{cond, ◌==◌, slice_get, filter, is_some, MatchBool}
use Rattle.std.proofs.lemmas.Bool.{false≢true, eq-eqb, ne_eqb, cases_eq}
use Rattle.trace_model.specs.Packets.{Packet, is_lost, front_of, packet_encoding, finished_encodings}
use Rattle.trace_model.specs.Record.{record_of, mark_where}
use Rattle.trace_model.specs.Reads.{Delivery}
use Rattle.trace_model.specs.Tells.{TellsFrom}
use Rattle.delivery_laws.specs.Sheets.{WrittenPacket}
use Rattle.delivery_laws.specs.Histories.{AreTold}

-- what was written whole of a packet is its front mark and its encoding, and the packet is finished and not lost
pub record Fits (packet : Packet) (told : WrittenPacket) : Type 0 where
  pub kept : told.whole ≡ true → is_lost packet ≡ false
  pub finished : told.whole ≡ true → packet.finished ≡ true
  pub bytes : told.whole ≡ true → told.bytes ≡ front_of packet ++ packet_encoding packet

-- each kept packet is told of once, in order
abbrev pub Pairs : List Packet → List WrittenPacket → Type 0
Pairs [] told = told ≡ []
Pairs (packet ∷ packets) [] = (packet.kept ≡ false) × Pairs packets []
Pairs (packet ∷ packets) (one ∷ told) = MatchBool packet.kept (Fits packet one × Pairs packets told) (Pairs packets (one ∷ told))

-- each packet knows whether the one before was lost; and only the last one may be unfinished
abbrev pub InTurn : Bool → List Packet → Type 0
InTurn lost [] = Unit {0}
InTurn lost (packet ∷ packets) = (packet.follows_loss ≡ lost) × (packet.finished ≡ false → packets ≡ []) × InTurn (is_lost packet) packets

-- Where the deliveries have come, against the places of packets: `at` among those that were written, `place` among those that
-- were emitted, from which these packets are left; the last delivery stands before `next` and `behind`.
record IsAt (lost first : Bool) (next at behind place : ℕ) : Type 0 where
  told : next ≤ at
  emitted_there : behind ≤ place
  turn : first ≡ false
      → (((next ≡ at) × (behind ≡ place) × (lost ≡ false)) ⊎ ((next ≡ at) × (behind < place) × (lost ≡ true))) ⊎ ((next < at) × (behind < place))

-- one packet that was dropped at its begin is passed
passed_dropped : (lost first : Bool) (next at behind place : ℕ) → IsAt lost first next at behind place → IsAt true first next at behind (suc place)
passed_dropped lost first next at behind place is = record {
  told = is.told;
  emitted_there = let low = is.emitted_there in omega (arith, low);
  turn = λ f. step (is.turn f);
}
  where
    step : ((((next ≡ at) × (behind ≡ place) × (lost ≡ false)) ⊎ ((next ≡ at) × (behind < place) × (lost ≡ true))) ⊎ ((next < at) × (behind < place)))
        → (((next ≡ at) × (behind ≡ suc place) × (true ≡ false)) ⊎ ((next ≡ at) × (behind < suc place) × (true ≡ true))) ⊎ ((next < at) × (behind < suc place))
    step (inl (inl h)) = inl (inr (h.0, omega (arith, h.1), refl))
    step (inl (inr h)) = inl (inr (h.0, omega (arith, h.1), refl))
    step (inr h) = inr (h.0, omega (arith, h.1))

-- one packet that was kept is passed
passed_kept : (lost lost' first : Bool) (next at behind place : ℕ) → IsAt lost first next at behind place → IsAt lost' first next (suc at) behind (suc place)
passed_kept lost lost' first next at behind place is =
    let low = is.told in
    let high = is.emitted_there in
    record {
      told = omega (arith, low);
      emitted_there = omega (arith, high);
      turn = λ f. inr (omega (arith, low), omega (arith, high));
    }

-- the marks of a packet that is delivered: its writer's in front, and the service's
marks_are : (lost first : Bool) (next at behind place : ℕ) → IsAt lost first next at behind place → (marked : Bool) → marked ≡ (first || not (at == next))
    → (lost || marked) ≡ (first || not (place == behind))
marks_are lost true next at behind place is marked m = ap (λ (b : Bool). lost || b) m ∙ both lost
  where
    both : (b : Bool) → (b || true) ≡ true
    both true = refl
    both false = refl
marks_are lost false next at behind place is marked m = by_turn (is.turn refl)
  where
    by_turn : ((((next ≡ at) × (behind ≡ place) × (lost ≡ false)) ⊎ ((next ≡ at) × (behind < place) × (lost ≡ true))) ⊎ ((next < at) × (behind < place)))
        → (lost || marked) ≡ not (place == behind)
    by_turn (inl (inl h)) =
        ap (λ (b : Bool). b || marked) h.2 ∙ m ∙ ap not (eq-eqb at next (sym h.0)) ∙ sym (ap not (eq-eqb place behind (sym h.1)))
    by_turn (inl (inr h)) = ap (λ (b : Bool). b || marked) h.2 ∙ sym (ap not (ne_eqb place behind (λ e. omega (arith, e, h.1))))
    by_turn (inr h) =
        ap (λ (b : Bool). lost || b) (m ∙ ap not (ne_eqb at next (λ e. omega (arith, e, h.0)))) ∙ both lost ∙ sym (ap not (ne_eqb place behind (λ e. omega (arith, e, h.1))))
      where
        both : (b : Bool) → (b || true) ≡ true
        both true = refl
        both false = refl

drop_one : {X : Type 0} (n : ℕ) (xs : List X) (x : X) (rest : List X) → drop n xs ≡ x ∷ rest → (drop (suc n) xs ≡ rest) × (slice_get xs n ≡ Some x)
drop_one zero [] x rest e = absurd (cc)
drop_one (suc n) [] x rest e = absurd (cc)
drop_one zero (y ∷ ys) x rest e = (cc, cc)
drop_one (suc n) (y ∷ ys) x rest e = drop_one n ys x rest e

none_there : {X : Type 0} (n k : ℕ) (xs : List X) (x : X) → drop n xs ≡ [] → n ≤ k → slice_get xs k ≡ Some x → ⊥
none_there n k [] x e low get = cc
none_there zero k (y ∷ ys) x e low get = cc
none_there (suc n) zero (y ∷ ys) x e low get = omega (arith, low)
none_there (suc n) (suc k) (y ∷ ys) x e low get = none_there n k ys x e (omega (arith, low)) get

abbrev pub record_bytes : ℕ → Delivery → List ℕ
record_bytes q delivery = record_of delivery.body q delivery.marked

module _ (all : List WrittenPacket) (all_emitted : List (List ℕ)) (q : ℕ) where
  -- A delivery at a place, and what comes behind it.
  record IsNext (first : Bool) (next : ℕ) (d : Delivery) (ds : List Delivery) : Type 0 where
    at : ℕ
    get : slice_get all at ≡ Some (record { bytes = d.body; whole = true })
    mark : d.marked ≡ (first || not (at == next))
    rest : AreTold all false (suc at) ds

  abbrev TellsOn : List Packet → Type 0
  TellsOn packets =
      (told : List WrittenPacket) (lost first : Bool) (next at behind place : ℕ) → drop at all ≡ told → drop place all_emitted ≡ finished_encodings packets
      → Pairs packets told → InTurn lost packets → IsAt lost first next at behind place
      → (d : Delivery) (ds : List Delivery) (is : IsNext first next d ds) → at ≤ is.at
      → TellsFrom all_emitted q first behind (record_bytes q d ∷ map (record_bytes q) ds)

  -- the packet stands next among those emitted, where it is finished
  emitted_next : (packet : Packet) (packets : List Packet) → packet.finished ≡ true → finished_encodings (packet ∷ packets) ≡ packet_encoding packet ∷ finished_encodings packets
  emitted_next packet packets e = ap (λ (b : Bool). map packet_encoding (cond b (packet ∷ filter (λ p. p.finished) packets) (filter (λ p. p.finished) packets))) e

  -- where a packet is told of behind, this one is finished
  finished_before : (packet : Packet) (packets : List Packet) → (packet.finished ≡ false → packets ≡ []) → (packets ≡ [] → ⊥) → packet.finished ≡ true
  finished_before packet packets h some = by_finish packet.finished refl
    where
      by_finish : (b : Bool) → packet.finished ≡ b → packet.finished ≡ true
      by_finish true e = e
      by_finish false e = absurd (some (h e))

  tells_dropped : (packet : Packet) (packets : List Packet) → TellsOn packets
      → (told : List WrittenPacket) (lost first : Bool) (next at behind place : ℕ) → drop at all ≡ told → drop place all_emitted ≡ finished_encodings (packet ∷ packets)
      → packet.kept ≡ false → Pairs packets told → InTurn lost (packet ∷ packets) → IsAt lost first next at behind place
      → (d : Delivery) (ds : List Delivery) (is : IsNext first next d ds) → at ≤ is.at
      → TellsFrom all_emitted q first behind (record_bytes q d ∷ map (record_bytes q) ds)
  tells_dropped packet packets rest told lost first next at behind place t e kept pairs turn is_at d ds is low =
      let finished = finished_before packet packets turn.1 (λ none. none_there at is.at all (record { bytes = d.body; whole = true })
      (t ∙ subst (λ (ps : List Packet). Pairs ps told) none pairs) low is.get) in
      let one = drop_one place all_emitted (packet_encoding packet) (finished_encodings packets) (e ∙ emitted_next packet packets finished) in
      let lost_one : is_lost packet ≡ true = ap (λ (b : Bool). not b || is_some packet.given_up) kept in
      rest told true first next at behind (suc place) t one.0 pairs
      (subst (λ (b : Bool). InTurn b packets) lost_one turn.2)
      (passed_dropped lost first next at behind place is_at) d ds is low

  tells_kept : (packet : Packet) (packets : List Packet) → TellsOn packets
      → (one : WrittenPacket) (told : List WrittenPacket) (lost first : Bool) (next at behind place : ℕ) → drop at all ≡ one ∷ told → drop place all_emitted ≡ finished_encodings (packet ∷ packets)
      → packet.kept ≡ true → Fits packet one → Pairs packets told → InTurn lost (packet ∷ packets) → IsAt lost first next at behind place
      → (d : Delivery) (ds : List Delivery) (is : IsNext first next d ds) → at ≤ is.at
      → TellsFrom all_emitted q first behind (record_bytes q d ∷ map (record_bytes q) ds)
  tells_kept packet packets rest one told lost first next at behind place t e kept fits pairs turn is_at d ds is low = by_place (cases_eq at is.at)
    where
      here_all : (drop (suc at) all ≡ told) × (slice_get all at ≡ Some one)
      here_all = drop_one at all one told t

      found : at ≡ is.at → one ≡ record { bytes = d.body; whole = true }
      found same =
          let a : slice_get all is.at ≡ Some one = subst (λ (n : ℕ). slice_get all n ≡ Some one) same here_all.1 in
          let b = is.get in
          cc

      -- what comes behind this delivery
      behind_it : (ds : List Delivery) → AreTold all false (suc at) ds → packet.finished ≡ true → is_lost packet ≡ false
          → drop (suc place) all_emitted ≡ finished_encodings packets → TellsFrom all_emitted q false (suc place) (map (record_bytes q) ds)
      behind_it [] h f l e' = tt
      behind_it (d' ∷ ds') h f l e' =
          rest told (is_lost packet) false (suc at) (suc at) (suc place) (suc place) here_all.0 e' pairs turn.2
          (record {
            told = omega arith;
            emitted_there = omega arith;
            turn = λ z. inl (inl (refl, refl, l));
          })
          d' ds' (record { at = h.0; get = h.2; mark = h.3; rest = h.4 }) h.1

      by_place : ((at ≡ is.at) ⊎ (at ≡ is.at → ⊥)) → TellsFrom all_emitted q first behind (record_bytes q d ∷ map (record_bytes q) ds)
      by_place (inl same) =
          let is_one = found same in
          let whole : one.whole ≡ true = ap (λ (w : WrittenPacket). w.whole) is_one in
          let finished = fits.finished whole in
          let not_lost = fits.kept whole in
          let stands = drop_one place all_emitted (packet_encoding packet) (finished_encodings packets) (e ∙ emitted_next packet packets finished) in
          let body : d.body ≡ front_of packet ++ packet_encoding packet = sym (ap (λ (w : WrittenPacket). w.bytes) is_one) ∙ fits.bytes whole in
          let front : front_of packet ≡ mark_where lost = ap mark_where (ap (λ (b : Bool). b && packet.follows_loss) kept ∙ turn.0) in (
            place,
            record {
              packet = packet_encoding packet;
              emitted_there = stands.1;
              not_before = is_at.emitted_there;
              front = lost;
              behind = d.marked;
              exact = ap (λ (bytes : List ℕ). record_of bytes q d.marked) (body ∙ ap (λ (bytes : List ℕ). bytes ++ packet_encoding packet) front);
              marked = marks_are lost first next at behind place is_at d.marked (is.mark ∙ ap (λ (n : ℕ). first || not (n == next)) (sym same));
            },
            behind_it ds (subst (λ (n : ℕ). AreTold all false (suc n) ds) (sym same) is.rest) finished not_lost stands.0,
          )
      by_place (inr other) =
          let higher : suc at ≤ is.at = grind (arith, low, other) in
          let finished = finished_before packet packets turn.1 (λ none. none_there (suc at) is.at all (record { bytes = d.body; whole = true })
          (here_all.0 ∙ subst (λ (ps : List Packet). Pairs ps told) none pairs) higher is.get) in
          let stands = drop_one place all_emitted (packet_encoding packet) (finished_encodings packets) (e ∙ emitted_next packet packets finished) in
          rest told (is_lost packet) first next (suc at) behind (suc place) here_all.0 stands.0 pairs turn.2
          (passed_kept lost (is_lost packet) first next at behind place is_at) d ds is higher

  tells_on : (packets : List Packet) → TellsOn packets
  tells_on [] told lost first next at behind place t e pairs turn is_at d ds is low =
      absurd (none_there at is.at all (record { bytes = d.body; whole = true }) (t ∙ pairs) low is.get)
  tells_on (packet ∷ packets) [] lost first next at behind place t e pairs turn is_at d ds is low =
      absurd (none_there at is.at all (record { bytes = d.body; whole = true }) t low is.get)
  tells_on (packet ∷ packets) (one ∷ told) lost first next at behind place t e pairs turn is_at d ds is low =
      by_kept packet.kept refl pairs (λ ts. tells_on packets ts)
    where
      by_kept : (b : Bool) → packet.kept ≡ b → MatchBool b (Fits packet one × Pairs packets told) (Pairs packets (one ∷ told)) → TellsOn packets
          → TellsFrom all_emitted q first behind (record_bytes q d ∷ map (record_bytes q) ds)
      by_kept true k p rest = tells_kept packet packets rest one told lost first next at behind place t e k p.0 p.1 turn is_at d ds is low
      by_kept false k p rest = tells_dropped packet packets rest (one ∷ told) lost first next at behind place t e k p turn is_at d ds is low

pub first_told : (packets : List Packet) (told : List WrittenPacket) (q : ℕ) (ds : List Delivery) → Pairs packets told → InTurn false packets
    → AreTold told true 0 ds → TellsFrom (finished_encodings packets) q true 0 (map (record_bytes q) ds)
first_told packets told q [] pairs turn h = tt
first_told packets told q (d ∷ ds) pairs turn h =
    tells_on told (finished_encodings packets) q packets told false true 0 0 0 0 refl refl pairs turn
    (record { told = omega arith; emitted_there = omega arith; turn = λ f. absurd (false≢true (sym f)) })
    d ds (record { at = h.0; get = h.2; mark = h.3; rest = h.4 }) h.1
