-- A read of a row in which nothing is missing passes no whole packet that it doesn't deliver, where the packet check accepts each.
use Rattle.std.proofs.Common.{◌≡◌, ◌∙◌, ℕ, suc, ◌+◌, ◌-◌, ◌≤◌, Bool, true, false, not, ◌&&◌, ◌||◌, List, [], ◌∷◌, ◌++◌, length, refl, sym, ap, subst, arith}
use Rattle.std.specs.Prelude.{cond, ◌==◌, filter}
use Rattle.std.proofs.lemmas.Bool.{false≢true, eqb-true, eqb-false}
use Rattle.trace_model.specs.Counts.{one_if}
use Rattle.trace_model.specs.Reads.{delivered_of, delivers, ends, is_spoilt, left_by, passed_by, turn_by, turn_of}
use Rattle.trace_model.specs.Row.{Chain, Fate, Whole, Marked, IntoLost, CutOff, Open, Link, Joined, Gap, Stop, bytes_of}
use Rattle.trace_model.specs.Walks.{is_accepted}
use Rattle.delivery_laws.specs.Sheets.{Sheet, Part, WrittenPacket, all_parts, ends_whole, packets_in, tail_bytes}
use Rattle.delivery_laws.proofs.AcceptedParts.{AreAccepted, accepted_at, accepted_first}
use Rattle.commit_laws.proofs.FullRows.{Holds, IsFateOf, IsHeld}

-- how many of these packets were written whole
abbrev pub wholes : List WrittenPacket → ℕ
wholes packets = length (filter (λ (packet : WrittenPacket). packet.whole) packets)

pub wholes-cons : (packet : WrittenPacket) (packets : List WrittenPacket) → wholes (packet ∷ packets) ≡ cond {A = ℕ} packet.whole 1 0 + wholes packets
wholes-cons packet packets = by_whole packet.whole
  where
    by_whole : (b : Bool) → length (cond b (packet ∷ filter (λ (p : WrittenPacket). p.whole) packets) (filter (λ (p : WrittenPacket). p.whole) packets))
        ≡ cond {A = ℕ} b 1 0 + length (filter (λ (p : WrittenPacket). p.whole) packets)
    by_whole true = omega arith
    by_whole false = omega arith

-- the packets of these parts are one that begins with the first, whole or not, and then those of the others
first_wholes : (first : Part) (parts : List Part) → wholes (packets_in (first ∷ parts)) ≡ cond {A = ℕ} (first.starts && ends_whole first parts) 1 0 + wholes (packets_in parts)
first_wholes first parts = by_start first.starts
  where
    by_start : (b : Bool) → wholes (cond b (record { bytes = first.bytes ++ tail_bytes parts; whole = ends_whole first parts } ∷ packets_in parts) (packets_in parts))
        ≡ cond {A = ℕ} (b && ends_whole first parts) 1 0 + wholes (packets_in parts)
    by_start true = wholes-cons (record { bytes = first.bytes ++ tail_bytes parts; whole = ends_whole first parts }) (packets_in parts)
    by_start false = omega arith

module _ (sheets : List Sheet) (closed ended : Bool) where
  -- a chain that a read passes is delivered exactly where its packet begins with it and is whole
  delivered_whole : AreAccepted (all_parts sheets) → (chain : Chain) (first : Part) (parts next : List Part) (behind : List Link)
      → IsHeld sheets closed ended chain first parts next behind
      → ends (turn_of (Joined chain)) ≡ false → delivers (turn_of (Joined chain)) ≡ (first.starts && ends_whole first parts)
  delivered_whole accepted chain first parts next behind is goes =
      by_fate chain.fate chain.headless chain.awaits (not (is_accepted (bytes_of chain.pieces))) is.fate passes goes
      ∙ ap (λ (b : Bool). b && ends_whole first parts) (sym is.starts)
    where
      -- the bytes of a whole chain with its start are a whole packet, which the packet check accepts
      passes : chain.fate ≡ Whole → chain.headless ≡ false → chain.awaits ≡ false → ends_whole first parts ≡ true → not (is_accepted (bytes_of chain.pieces)) ≡ false
      passes f h a whole =
          ap (λ (xs : List ℕ). not (is_accepted xs)) (sym (is.bytes f a))
          ∙ ap not ((accepted_first first parts (is.starts ∙ ap not h)
          (subst AreAccepted is.here.0 (accepted_at sheets chain.at.chunk_id chain.at.passed accepted))).0 whole)

      by_fate : (fate : Fate) (headless awaits refused : Bool) → IsFateOf sheets closed ended fate awaits (ends_whole first parts) (first ∷ parts)
          → (fate ≡ Whole → headless ≡ false → awaits ≡ false → ends_whole first parts ≡ true → refused ≡ false)
          → ends (turn_by fate headless (awaits || refused)) ≡ false
          → delivers (turn_by fate headless (awaits || refused)) ≡ (not headless && ends_whole first parts)
      by_fate Open headless awaits refused h p goes = absurd (false≢true (sym goes))
      by_fate Whole true awaits refused h p goes = refl
      by_fate Whole false true refused h p goes = sym h
      by_fate Whole false false true h p goes = absurd (false≢true (sym (p refl refl refl h)))
      by_fate Whole false false false h p goes = sym h
      by_fate Marked true awaits refused h p goes = refl
      by_fate Marked false awaits refused h p goes = sym h
      by_fate IntoLost headless awaits refused h p goes = absurd h
      by_fate CutOff true awaits refused h p goes = refl
      by_fate CutOff false awaits refused h p goes = sym h.1

  -- what a read of such a row delivers and leaves
  pub record IsFullRead (limit : ℕ) (marked : Bool) (passed left : List Link) (parts : List Part) : Type 0 where
    pub behind : List Part
    pub holds : Holds sheets closed ended left behind
    pub count : wholes (packets_in parts) ≡ length (delivered_of marked passed) + wholes (packets_in behind)
    -- in a closed sequence nothing whole is left where the limit allows
    pub all : closed ≡ true → wholes (packets_in parts) ≤ limit → wholes (packets_in behind) ≡ 0

  -- a read that passes nothing
  passes_none : (limit : ℕ) (marked : Bool) (links : List Link) (parts : List Part) → Holds sheets closed ended links parts
      → (closed ≡ true → wholes (packets_in parts) ≤ limit → wholes (packets_in parts) ≡ 0) → IsFullRead limit marked [] links parts
  passes_none limit marked links parts h all = record { behind = parts; holds = h; count = omega arith; all = all }

  module _ (closes : closed ≡ true → ended ≡ true) (accepted : AreAccepted (all_parts sheets)) where
    pub reads_full : (links : List Link) (limit : ℕ) (marked : Bool) (parts : List Part) → Holds sheets closed ended links parts
        → IsFullRead limit marked (passed_by limit links) (left_by limit links) parts
    reads_full [] limit marked parts h = absurd h
    reads_full (Gap at next lost ∷ links) limit marked parts h = absurd h
    reads_full (Stop at why may ∷ links) limit marked parts h =
        passes_none limit marked (Stop at why may ∷ links) parts h (λ shut low. ap (λ (ps : List Part). wholes (packets_in ps)) (h.end (closes shut)))
    reads_full (Joined chain ∷ links) limit marked [] h = absurd h
    reads_full (Joined chain ∷ links) limit marked (first ∷ parts) h =
        by_end (ends (turn_of (Joined chain))) refl (λ (n : ℕ) (m : Bool). reads_full links n m h.0 h.2)
      where
        counted : wholes (packets_in (first ∷ parts)) ≡ cond {A = ℕ} (first.starts && ends_whole first parts) 1 0 + wholes (packets_in h.0)
        counted = first_wholes first parts ∙ ap (λ (ps : List WrittenPacket). cond {A = ℕ} (first.starts && ends_whole first parts) 1 0 + wholes ps) h.1.after

        not_open : (fate : Fate) → chain.fate ≡ fate → ends (turn_of (Joined chain)) ≡ true → closed ≡ true → ⊥
        not_open Open e t c = false≢true (sym (subst (λ (f : Fate). IsFateOf sheets closed ended f chain.awaits (ends_whole first parts) (first ∷ parts)) e h.1.fate).0 ∙ c)
        not_open Whole e t c = goes_on chain.headless (is_spoilt chain) (sym (ap (λ (f : Fate). ends (turn_by f chain.headless (is_spoilt chain))) e) ∙ t)
          where
            goes_on : (a b : Bool) → ends (turn_by Whole a b) ≡ true → ⊥
            goes_on true b t = false≢true t
            goes_on false true t = false≢true t
            goes_on false false t = false≢true t
        not_open Marked e t c = goes_on chain.headless (sym (ap (λ (f : Fate). ends (turn_by f chain.headless (is_spoilt chain))) e) ∙ t)
          where
            goes_on : (a : Bool) → ends (turn_by Marked a (is_spoilt chain)) ≡ true → ⊥
            goes_on true t = false≢true t
            goes_on false t = false≢true t
        not_open IntoLost e t c = subst (λ (f : Fate). IsFateOf sheets closed ended f chain.awaits (ends_whole first parts) (first ∷ parts)) e h.1.fate
        not_open CutOff e t c = goes_on chain.headless (sym (ap (λ (f : Fate). ends (turn_by f chain.headless (is_spoilt chain))) e) ∙ t)
          where
            goes_on : (a : Bool) → ends (turn_by CutOff a (is_spoilt chain)) ≡ true → ⊥
            goes_on true t = false≢true t
            goes_on false t = false≢true t

        -- the read ends here
        stops : (ends (turn_of (Joined chain)) || (delivers (turn_of (Joined chain)) && (limit == 0))) ≡ true
            → (closed ≡ true → wholes (packets_in (first ∷ parts)) ≤ limit → wholes (packets_in (first ∷ parts)) ≡ 0)
            → IsFullRead limit marked (passed_by limit (Joined chain ∷ links)) (left_by limit (Joined chain ∷ links)) (first ∷ parts)
        stops s all =
            subst (λ (b : Bool). IsFullRead limit marked (cond b [] (Joined chain ∷ passed_by (limit - one_if (delivers (turn_of (Joined chain)))) links))
            (cond b (Joined chain ∷ links) (left_by (limit - one_if (delivers (turn_of (Joined chain)))) links)) (first ∷ parts)) (sym s)
            (passes_none limit marked (Joined chain ∷ links) (first ∷ parts) h all)

        -- it goes on
        goes : ends (turn_of (Joined chain)) ≡ false → (d : Bool) → delivers (turn_of (Joined chain)) ≡ d → (d && (limit == 0)) ≡ false
            → IsFullRead (limit - one_if d) (not d) (passed_by (limit - one_if d) links) (left_by (limit - one_if d) links) h.0
            → IsFullRead limit marked (passed_by limit (Joined chain ∷ links)) (left_by limit (Joined chain ∷ links)) (first ∷ parts)
        goes e d f some rest =
            let turn : (ends (turn_of (Joined chain)) || (delivers (turn_of (Joined chain)) && (limit == 0))) ≡ false =
            ap (λ (b : Bool). b || (delivers (turn_of (Joined chain)) && (limit == 0))) e ∙ ap (λ (b : Bool). b && (limit == 0)) f ∙ some in
            subst (λ (b : Bool). IsFullRead limit marked (cond b [] (Joined chain ∷ passed_by (limit - one_if (delivers (turn_of (Joined chain)))) links))
            (cond b (Joined chain ∷ links) (left_by (limit - one_if (delivers (turn_of (Joined chain)))) links)) (first ∷ parts)) (sym turn)
            (subst (λ (b : Bool). IsFullRead limit marked (Joined chain ∷ passed_by (limit - one_if b) links) (left_by (limit - one_if b) links) (first ∷ parts)) (sym f) (more d f some rest))
          where
            whole : delivers (turn_of (Joined chain)) ≡ (first.starts && ends_whole first parts)
            whole = delivered_whole accepted chain first parts h.0 links h.1 e

            more : (d : Bool) → delivers (turn_of (Joined chain)) ≡ d → (d && (limit == 0)) ≡ false
                → IsFullRead (limit - one_if d) (not d) (passed_by (limit - one_if d) links) (left_by (limit - one_if d) links) h.0
                → IsFullRead limit marked (Joined chain ∷ passed_by (limit - one_if d) links) (left_by (limit - one_if d) links) (first ∷ parts)
            more true f some rest =
                let one : cond {A = ℕ} (first.starts && ends_whole first parts) 1 0 ≡ 1 = ap (λ (b : Bool). cond {A = ℕ} b 1 0) (sym whole ∙ f) in
                let given : length (delivered_of marked (Joined chain ∷ passed_by (limit - 1) links)) ≡ suc (length (delivered_of false (passed_by (limit - 1) links))) =
                ap (λ (b : Bool). length (cond b (record { body = bytes_of chain.pieces; marked = marked } ∷ delivered_of false (passed_by (limit - 1) links)) (delivered_of true (passed_by (limit - 1) links)))) f in
                let c = counted in
                let count = rest.count in
                let nonzero : limit ≡ 0 → ⊥ = eqb-false limit 0 some in
                record {
                  behind = rest.behind;
                  holds = rest.holds;
                  count = omega (arith, c, one, given, count);
                  all = λ shut low. rest.all shut (omega (arith, c, one, low));
                }
            more false f some rest =
                let none : cond {A = ℕ} (first.starts && ends_whole first parts) 1 0 ≡ 0 = ap (λ (b : Bool). cond {A = ℕ} b 1 0) (sym whole ∙ f) in
                let given : length (delivered_of marked (Joined chain ∷ passed_by (limit - 0) links)) ≡ length (delivered_of true (passed_by (limit - 0) links)) =
                ap (λ (b : Bool). length (cond b (record { body = bytes_of chain.pieces; marked = marked } ∷ delivered_of false (passed_by (limit - 0) links)) (delivered_of true (passed_by (limit - 0) links)))) f in
                let c = counted in
                let count = rest.count in
                record {
                  behind = rest.behind;
                  holds = rest.holds;
                  count = omega (arith, c, none, given, count);
                  all = λ shut low. rest.all shut (omega (arith, c, none, low));
                }

        by_end : (e : Bool) → ends (turn_of (Joined chain)) ≡ e → ((n : ℕ) (m : Bool) → IsFullRead n m (passed_by n links) (left_by n links) h.0)
            → IsFullRead limit marked (passed_by limit (Joined chain ∷ links)) (left_by limit (Joined chain ∷ links)) (first ∷ parts)
        by_end true e rest =
            stops (ap (λ (b : Bool). b || (delivers (turn_of (Joined chain)) && (limit == 0))) e) (λ shut low. absurd (not_open chain.fate refl e shut))
        by_end false e rest = by_due (delivers (turn_of (Joined chain))) refl (limit == 0) refl
          where
            by_due : (d : Bool) → delivers (turn_of (Joined chain)) ≡ d → (z : Bool) → (limit == 0) ≡ z
                → IsFullRead limit marked (passed_by limit (Joined chain ∷ links)) (left_by limit (Joined chain ∷ links)) (first ∷ parts)
            by_due false f z g = goes e false f refl (rest (limit - 0) true)
            by_due true f false g = goes e true f g (rest (limit - 1) false)
            by_due true f true g =
                stops (ap (λ (b : Bool). b || (delivers (turn_of (Joined chain)) && (limit == 0))) e ∙ ap (λ (b : Bool). b && (limit == 0)) f ∙ g)
                (λ shut low.
                let one : cond {A = ℕ} (first.starts && ends_whole first parts) 1 0 ≡ 1 =
                ap (λ (b : Bool). cond {A = ℕ} b 1 0) (sym (delivered_whole accepted chain first parts h.0 links h.1 e) ∙ f) in
                let c = counted in
                let none = eqb-true limit 0 g in
                absurd (omega (arith, c, one, low, none)))
