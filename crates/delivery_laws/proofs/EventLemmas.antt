-- What is known is kept by the sequence's own events, where they are legal.
use Rattle.std.proofs.Common.{◌≡◌, ◌∙◌, ℕ, suc, ◌+◌, ◌<◌, ◌≤◌, ◌⊎◌, Bool, true, false, not, ◌&&◌, List, [], ◌∷◌, length, map, Option, Some, None, refl, sym, ap, subst, arith, inl, inr}
use Rattle.std.specs.Prelude.{cond, ◌==◌, slice_get, find, filter, is_some, nat_le}
use Rattle.std.proofs.lemmas.Bool.{false≢true, eqb-true, eq-eqb, and_parts, and_from, cases_lt, leb-true}
use Rattle.trace_base.specs.declared.limits.TheConstants.{IDS_AHEAD}
use Rattle.trace_model.specs.Images.{Chunk, Patch, complete_chunk}
use Rattle.trace_model.specs.Sequences.{Sequence, is_among, base_of, with_number, sequence_in, is_known, changed_at}
use Rattle.trace_model.specs.Buffers.{Buffer, BufferRecord, is_of, live_at, meets, with_losses}
use Rattle.trace_model.specs.Places.{place_after}
use Rattle.trace_model.specs.Arrivals.{Arrived, Kept, Rewritten, Duplicate, Discarded, TooFar, is_refused, is_too_far, placing_of, arrival_of, with_arrived, with_discarded, settled, makes_arrive, arrival_noted, with_arrival}
use Rattle.trace_model.proofs.SequenceLemmas.{sequence_in-map, known-map, changed_here, known_changed}
use Rattle.delivery_laws.specs.Sheets.{Sheet}
use Rattle.delivery_laws.specs.Histories.{Completes, IsComplete}
use Rattle.delivery_laws.proofs.IdLemmas.{not_upto, put_next}
use Rattle.delivery_laws.proofs.KnownLemmas.{IsGood, EachOf, HasSheet, IsKnown, base_is}
use Rattle.delivery_laws.proofs.KeepLemmas.{unlost, each_change, each_append, each_filter, SameReader}

-- Sequences that are the same but for losses

record Unlosing (q : ℕ) (old new : List Sequence) : Type 0 where
  known : is_known new q ≡ true
  same : unlost (sequence_in new q) ≡ unlost (sequence_in old q)

losses_unlose : (q : ℕ) (records : List BufferRecord) (ss : List Sequence) → is_known ss q ≡ true → Unlosing q ss (map (with_losses records) ss)
losses_unlose q records ss h = record {
  known = known-map (with_losses records) (λ s. refl) ss q ∙ h;
  same = ap unlost (sequence_in-map (with_losses records) (λ s. refl) ss q h);
}

discarded_unlose : (q chunk_id : ℕ) (chunk : Chunk) (ss : List Sequence) → is_known ss q ≡ true → Unlosing q ss (changed_at q (with_discarded chunk_id chunk) ss)
discarded_unlose q chunk_id chunk ss h = record {
  known = known_changed q q (with_discarded chunk_id chunk) (λ s. refl) ss ∙ h;
  same = ap unlost (changed_here q (with_discarded chunk_id chunk) (λ s. refl) ss h);
}

-- A chunk comes

module _ (sheets : List Sheet) (q come : ℕ) (later : List Patch) where
  -- a record of another chunk is good once one more has come
  good_next : (r : BufferRecord) → (r.chunk_id ≡ come → ⊥) → IsGood sheets come later r → IsGood sheets (suc come) later r
  good_next r other good = record {
    sheet = good.sheet;
    there = good.there;
    continues = good.continues;
    complete = λ p. let c = good.complete p in (omega (arith, c.0), c.1, c.2);
    part = λ p. absurd (other (good.part p).0);
    some = good.some;
  }

  good_whole : (r : BufferRecord) (chunk : Chunk) → IsComplete sheets later come chunk → r.chunk_id ≡ come → r.chunk ≡ complete_chunk chunk → IsGood sheets (suc come) later r
  good_whole r chunk is at e = record {
    sheet = is.sheet;
    there = ap (slice_get sheets) at ∙ is.there;
    continues = ap (λ (c : Chunk). c.continues) e ∙ ap (λ (c : Chunk). c.continues) is.same;
    complete = λ p. (
      omega (arith, at),
      ap (λ (c : Chunk). c.runs_on) e ∙ ap (λ (c : Chunk). c.runs_on) is.same,
      subst (λ (c : Chunk). Completes later r.chunk_id c.awaits c.fragments is.sheet.written) (sym e)
          (subst (λ (n : ℕ). Completes later n chunk.awaits chunk.fragments is.sheet.written) (sym at) is.completes),
    );
    part = λ p. absurd (false≢true (sym (ap (λ (c : Chunk). c.partial) e) ∙ p));
    some = subst (λ (c : Chunk). 0 < length c.fragments) (sym e) is.some;
  }

  -- none of the records is of the chunk
  each_next : (rs : List BufferRecord) → find (is_of q come) rs ≡ None → EachOf q (IsGood sheets come later) rs → EachOf q (IsGood sheets (suc come) later) rs
  each_next [] none each = tt
  each_next (r ∷ rs) none each = step (is_of q come r) refl none (λ n. each_next rs n each.1)
    where
      step : (b : Bool) → is_of q come r ≡ b → cond b (Some r) (find (is_of q come) rs) ≡ None
          → (find (is_of q come) rs ≡ None → EachOf q (IsGood sheets (suc come) later) rs) → EachOf q (IsGood sheets (suc come) later) (r ∷ rs)
      step true e n k = absurd (cc)
      step false e n k = (
        (λ of. good_next r (λ same. false≢true (sym e ∙ and_from (r.sequence == q) (r.chunk_id == come) of (eq-eqb r.chunk_id come same))) (each.0 of)),
        k n,
      )

  each_rewritten : (chunk : Chunk) → IsComplete sheets later come chunk → (rs : List BufferRecord) → EachOf q (IsGood sheets come later) rs
      → EachOf q (IsGood sheets (suc come) later) (map (λ stored. cond (is_of q come stored) (record stored { chunk = complete_chunk chunk }) stored) rs)
  each_rewritten chunk is rs each =
      each_change q (IsGood sheets come later) (IsGood sheets (suc come) later) (λ stored. cond (is_of q come stored) (record stored { chunk = complete_chunk chunk }) stored)
      (λ r good of. by_test r (is_of q come r) refl good of) rs each
    where
      by_test : (r : BufferRecord) (b : Bool) → is_of q come r ≡ b → ((r.sequence == q) ≡ true → IsGood sheets come later r)
          → ((cond b (record r { chunk = complete_chunk chunk }) r).sequence == q) ≡ true → IsGood sheets (suc come) later (cond b (record r { chunk = complete_chunk chunk }) r)
      by_test r true e good of = good_whole (record r { chunk = complete_chunk chunk }) chunk is (eqb-true r.chunk_id come (and_parts (r.sequence == q) (r.chunk_id == come) e).1) refl
      by_test r false e good of =
          good_next r (λ same. false≢true (sym e ∙ and_from (r.sequence == q) (r.chunk_id == come) of (eq-eqb r.chunk_id come same))) (good of)

  -- what is known once the chunk has come
  record HasCome (b after : Buffer) : Type 0 where
    sequences : Unlosing q b.sequences after.sequences
    live : EachOf q (IsGood sheets (suc come) later) after.live

  comes : (b : Buffer) (chunk : Chunk) → IsKnown sheets q come false later b → IsComplete sheets later come chunk
      → (outcome : Arrived) → placing_of b q come ≡ outcome → (makes_arrive outcome ≡ true) × HasCome b (settled outcome b q come (complete_chunk chunk))
  comes b chunk known is outcome e = by_live (live_at b q come) refl (is_refused b (sequence_in b.sequences q).size) outcome e
    where
      by_live : (o : Option BufferRecord) → live_at b q come ≡ o → (refused : Bool) → (outcome : Arrived)
          → cond (is_some o) Rewritten (cond refused Discarded Kept) ≡ outcome
          → (makes_arrive outcome ≡ true) × HasCome b (settled outcome b q come (complete_chunk chunk))
      by_live (Some r) f refused outcome e =
          subst (λ (x : Arrived). (makes_arrive x ≡ true) × HasCome b (settled x b q come (complete_chunk chunk))) e (
            refl,
            record {
              sequences = record { known = known.known; same = refl };
              live = each_rewritten chunk is b.live known.live;
            },
          )
      by_live None f true outcome e =
          subst (λ (x : Arrived). (makes_arrive x ≡ true) × HasCome b (settled x b q come (complete_chunk chunk))) e (
            refl,
            record {
              sequences = discarded_unlose q come (complete_chunk chunk) b.sequences known.known;
              live = each_next b.live f known.live;
            },
          )
      by_live None f false outcome e =
          subst (λ (x : Arrived). (makes_arrive x ≡ true) × HasCome b (settled x b q come (complete_chunk chunk))) e (
            refl,
            record {
              sequences = losses_unlose q (filter (meets b (sequence_in b.sequences q).size) b.live) b.sequences known.known;
              live = each_append q (IsGood sheets (suc come) later) (filter (λ stored. not (meets b (sequence_in b.sequences q).size stored)) b.live)
                  (record { sequence = q; chunk_id = come; at = place_after b.room b.next (sequence_in b.sequences q).size; size = (sequence_in b.sequences q).size; chunk = complete_chunk chunk } ∷ [])
                  (each_filter q (IsGood sheets (suc come) later) (λ stored. not (meets b (sequence_in b.sequences q).size stored)) b.live (each_next b.live f known.live))
                  ((λ of. good_whole (record { sequence = q; chunk_id = come; at = place_after b.room b.next (sequence_in b.sequences q).size; size = (sequence_in b.sequences q).size; chunk = complete_chunk chunk }) chunk is refl refl), tt);
            },
          )

  -- in order no chunk comes twice or too far ahead
  pub arrival_is : (b : Buffer) → IsKnown sheets q come false later b → arrival_of b q come ≡ placing_of b q come
  arrival_is b known =
      ap (λ (x : Bool). cond x Duplicate (cond (is_too_far (sequence_in b.sequences q) come) TooFar (placing_of b q come)))
      (ap (is_among come) known.arrived ∙ not_upto come come (omega arith))
      ∙ ap (λ (x : Bool). cond x TooFar (placing_of b q come)) near
    where
      near : is_too_far (sequence_in b.sequences q) come ≡ false
      near = far (nat_le (base_of (sequence_in b.sequences q) + IDS_AHEAD) come) refl
        where
          far : (x : Bool) → nat_le (base_of (sequence_in b.sequences q) + IDS_AHEAD) come ≡ x → x ≡ false
          far true e =
              let base = base_is come (sequence_in b.sequences q).arrived known.arrived in
              let high = leb-true (base_of (sequence_in b.sequences q) + IDS_AHEAD) come e in
              absurd (omega (arith, base, high))
          far false e = refl

  pub record Continues (come' : ℕ) (closed' : Bool) (later' : List Patch) (b after : Buffer) : Type 0 where
    pub known : IsKnown sheets q come' closed' later' after
    pub reader : SameReader (sequence_in b.sequences q) (sequence_in after.sequences q)

  -- a chunk arrives; the cursor isn't past its fragments
  pub arrives : (b : Buffer) (chunk : Chunk) → IsKnown sheets q come false later b → IsComplete sheets later come chunk
      → ((sequence_in b.sequences q).cursor.chunk_id ≡ come → (sequence_in b.sequences q).cursor.passed < length chunk.fragments)
      → Continues (suc come) false later b (with_arrival b q come chunk)
  arrives b chunk known is inside =
      by_outcome (arrival_of b q come) (sym (arrival_is b known))
    where
      by_outcome : (outcome : Arrived) → placing_of b q come ≡ outcome
          → Continues (suc come) false later b (arrival_noted outcome q come (length chunk.fragments) (settled outcome b q come (complete_chunk chunk)))
      by_outcome outcome e =
          let placed = comes b chunk known is outcome e in
          noted (settled outcome b q come (complete_chunk chunk)) placed.1 (makes_arrive outcome) placed.0
        where
          cursor_stays : (s : Sequence) → s.cursor ≡ (sequence_in b.sequences q).cursor
              → ((s.cursor.chunk_id == come) && nat_le (length chunk.fragments) s.cursor.passed) ≡ false
          cursor_stays s same = by_test (s.cursor.chunk_id == come) refl (nat_le (length chunk.fragments) s.cursor.passed) refl
            where
              by_test : (x : Bool) → (s.cursor.chunk_id == come) ≡ x → (y : Bool) → nat_le (length chunk.fragments) s.cursor.passed ≡ y → (x && y) ≡ false
              by_test false f y g = refl
              by_test true f false g = refl
              by_test true f true g =
                  let here : (sequence_in b.sequences q).cursor.chunk_id ≡ come = sym (ap (λ c. c.chunk_id) same) ∙ eqb-true s.cursor.chunk_id come f in
                  let low = inside here in
                  let at : s.cursor.passed ≡ (sequence_in b.sequences q).cursor.passed = ap (λ c. c.passed) same in
                  let high = leb-true (length chunk.fragments) s.cursor.passed g in
                  absurd (omega (arith, low, at, high))

          noted : (c : Buffer) → HasCome b c → (arrive : Bool) → arrive ≡ true
              → Continues (suc come) false later b (record c { sequences = cond arrive (changed_at q (with_arrived come (length chunk.fragments)) c.sequences) c.sequences })
          noted c has false e = absurd (false≢true e)
          noted c has true e =
              let now : sequence_in (changed_at q (with_arrived come (length chunk.fragments)) c.sequences) q ≡ with_arrived come (length chunk.fragments) (sequence_in c.sequences q) =
              changed_here q (with_arrived come (length chunk.fragments)) (λ s. refl) c.sequences has.sequences.known in
              let same = has.sequences.same in
              let cursor : (sequence_in c.sequences q).cursor ≡ (sequence_in b.sequences q).cursor = ap (λ (x : Sequence). x.cursor) same in
              record {
                known = record {
                  known = known_changed q q (with_arrived come (length chunk.fragments)) (λ s. refl) c.sequences ∙ has.sequences.known;
                  arrived = ap (λ (x : Sequence). x.arrived) now
                      ∙ ap (with_number come) (ap (λ (x : Sequence). x.arrived) same ∙ known.arrived)
                      ∙ put_next come;
                  shut = ap (λ (x : Sequence). x.closed) now ∙ ap (λ (x : Sequence). x.closed) same ∙ known.shut;
                  none = λ o. ap (λ (x : Sequence). x.final) now ∙ ap (λ (x : Sequence). x.final) same ∙ known.none refl;
                  final = λ i h. absurd (false≢true
                      (sym (ap (λ (x : Sequence). is_among i x.final) now ∙ ap (λ (x : Sequence). is_among i x.final) same ∙ ap (is_among i) (known.none refl)) ∙ h));
                  came = λ i low. by_place i low (cases_lt i come);
                  live = has.live;
                };
                reader = record {
                  cursor = ap (λ (x : Sequence). x.cursor) now
                      ∙ ap (λ (x : Bool). cond x (record { chunk_id = suc come; passed = 0 }) (sequence_in c.sequences q).cursor) (cursor_stays (sequence_in c.sequences q) cursor)
                      ∙ cursor;
                  missing = ap (λ (x : Sequence). x.missing) now ∙ ap (λ (x : Sequence). x.missing) same;
                  delivered = ap (λ (x : Sequence). x.delivered) now ∙ ap (λ (x : Sequence). x.delivered) same;
                };
              }
            where
              by_place : (i : ℕ) → i < suc come → ((i < come) ⊎ (come ≤ i)) → HasSheet sheets i
              by_place i low (inl h) = known.came i h
              by_place i low (inr h) =
                  let same : come ≡ i = omega (arith, low, h) in
                  subst (HasSheet sheets) same (is.sheet, is.there)
