-- The buffer between a record's place and the note of its arrival.
use Rattle.std.proofs.Common.{◌≡◌, ℕ, ◌==◌, ◌&&◌, Bool, true, false, cond, List, [], ◌∷◌, ◌++◌, map, filter, not, Option, Some, None, is_some, refl, sym, ap, ◌∙◌, true≢false}
use Rattle.std.specs.List.{find}
use Rattle.std.proofs.lemmas.Bool.{and_right}
use Rattle.trace_model.specs.Arrivals.{Arrived, Kept, Rewritten, Duplicate, Discarded, TooFar, BadChunk, makes_arrive, is_too_far, is_refused, arrival_of, settled, with_discarded, discarded_buffer}
use Rattle.trace_model.specs.Buffers.{Buffer, BufferRecord, is_of, live_at, meets, with_losses}
use Rattle.trace_model.specs.Images.{Chunk}
use Rattle.trace_model.specs.Sequences.{Sequence, is_known, sequence_in, has_arrived}
use Rattle.trace_buffer.proofs.PartLemmas.{KeepsRow, known_map, sequence_map, keeps_at, keeps_losses, sizes}
use Rattle.trace_buffer.proofs.RoomLemmas.{find_filter}

-- The sequences are as before, but for losses

pub record KeepsRows (old new : List Sequence) : Type 0 where
  pub change : Sequence → Sequence
  pub keeps : KeepsRow change
  pub closed : (s : Sequence) → (change s).closed ≡ s.closed
  pub is : new ≡ map change old

map_same : (rows : List Sequence) → rows ≡ map (λ s. s) rows
map_same [] = refl
map_same (s ∷ rows) = ap (λ ss. s ∷ ss) (map_same rows)

same_rows : (rows : List Sequence) → KeepsRows rows rows
same_rows rows = record {
  change = λ s. s;
  keeps = record { number = λ s. refl; size = λ s. refl; arrived = λ s. refl };
  closed = λ s. refl;
  is = map_same rows;
}

discarded_rows : (q i : ℕ) (chunk : Chunk) (rows : List Sequence) → KeepsRows rows (map (λ s. cond (s.number == q) (with_discarded i chunk s) s) rows)
discarded_rows q i chunk rows = record {
  change = λ s. cond (s.number == q) (with_discarded i chunk s) s;
  keeps = keeps_at q (with_discarded i chunk) (record { number = λ s. refl; size = λ s. refl; arrived = λ s. refl });
  closed = λ s. of s (s.number == q);
  is = refl;
}
  where
    of : (s : Sequence) (b : Bool) → (cond b (with_discarded i chunk s) s).closed ≡ s.closed
    of s true = refl
    of s false = refl

pub settled_rows : (a : Arrived) (v : Buffer) (q i : ℕ) (chunk : Chunk) → KeepsRows v.sequences (settled a v q i chunk).sequences
settled_rows Kept v q i chunk = record {
  change = with_losses (filter (meets v (sequence_in v.sequences q).size) v.live);
  keeps = keeps_losses (filter (meets v (sequence_in v.sequences q).size) v.live);
  closed = λ s. refl;
  is = refl;
}
settled_rows Rewritten v q i chunk = same_rows v.sequences
settled_rows Duplicate v q i chunk = same_rows v.sequences
settled_rows TooFar v q i chunk = same_rows v.sequences
settled_rows (BadChunk n) v q i chunk = same_rows v.sequences
settled_rows Discarded v q i chunk = of chunk.partial
  where
    of : (b : Bool) → KeepsRows v.sequences (cond b (record v { shut = true }) (discarded_buffer v q i chunk)).sequences
    of true = same_rows v.sequences
    of false = discarded_rows q i chunk v.sequences

pub known_still : (old new : List Sequence) (q : ℕ) → KeepsRows old new → is_known old q ≡ true → is_known new q ≡ true
known_still old new q k known =
    ap (λ (ss : List Sequence). is_known ss q) k.is ∙ known_map k.change old q (sizes k.keeps) ∙ known

there : (old new : List Sequence) (q : ℕ) (k : KeepsRows old new) → is_known old q ≡ true → sequence_in new q ≡ k.change (sequence_in old q)
there old new q k known =
    ap (λ (ss : List Sequence). sequence_in ss q) k.is ∙ sequence_map k.change old q (sizes k.keeps) known

pub open_still : (old new : List Sequence) (q : ℕ) → KeepsRows old new → is_known old q ≡ true → (sequence_in old q).closed ≡ false → (sequence_in new q).closed ≡ false
open_still old new q k known is =
    ap (λ (s : Sequence). s.closed) (there old new q k known) ∙ k.closed (sequence_in old q) ∙ is

arrived_still : (old new : List Sequence) (q : ℕ) → KeepsRows old new → is_known old q ≡ true → (sequence_in new q).arrived ≡ (sequence_in old q).arrived
arrived_still old new q k known =
    ap (λ (s : Sequence). s.arrived) (there old new q k known) ∙ k.keeps.arrived (sequence_in old q)

pub fresh_still : (old new : List Sequence) (q i : ℕ) → KeepsRows old new → is_known old q ≡ true → has_arrived (sequence_in old q) i ≡ false → has_arrived (sequence_in new q) i ≡ false
fresh_still old new q i k known fresh =
    ap (λ (ids : List ℕ). has_arrived (record (sequence_in old q) { arrived = ids }) i) (arrived_still old new q k known) ∙ fresh

pub near_still : (old new : List Sequence) (q i : ℕ) → KeepsRows old new → is_known old q ≡ true → is_too_far (sequence_in old q) i ≡ false → is_too_far (sequence_in new q) i ≡ false
near_still old new q i k known near =
    ap (λ (ids : List ℕ). is_too_far (record (sequence_in old q) { arrived = ids }) i) (arrived_still old new q k known) ∙ near

-- What an outcome says of the buffer before

pub there_before : (v : Buffer) (q i : ℕ) → arrival_of v q i ≡ Rewritten → is_some (live_at v q i) ≡ true
there_before v q i is =
    of (has_arrived (sequence_in v.sequences q) i) (is_too_far (sequence_in v.sequences q) i) (is_some (live_at v q i)) (is_refused v (sequence_in v.sequences q).size) is
  where
    of : (b d s r : Bool) → cond b Duplicate (cond d TooFar (cond s Rewritten (cond r Discarded Kept))) ≡ Rewritten → s ≡ true
    of true d s r h = absurd (cc)
    of false true s r h = absurd (cc)
    of false false true r h = refl
    of false false false true h = absurd (cc)
    of false false false false h = absurd (cc)

pub fresh_before : (v : Buffer) (q i : ℕ) → makes_arrive (arrival_of v q i) ≡ true → has_arrived (sequence_in v.sequences q) i ≡ false
fresh_before v q i makes =
    of (has_arrived (sequence_in v.sequences q) i) (is_too_far (sequence_in v.sequences q) i) (is_some (live_at v q i)) (is_refused v (sequence_in v.sequences q).size) makes
  where
    of : (b d s r : Bool) → makes_arrive (cond b Duplicate (cond d TooFar (cond s Rewritten (cond r Discarded Kept)))) ≡ true → b ≡ false
    of true d s r h = absurd (true≢false (sym h))
    of false d s r h = refl

pub near_before : (v : Buffer) (q i : ℕ) → makes_arrive (arrival_of v q i) ≡ true → is_too_far (sequence_in v.sequences q) i ≡ false
near_before v q i makes =
    of (has_arrived (sequence_in v.sequences q) i) (is_too_far (sequence_in v.sequences q) i) (is_some (live_at v q i)) (is_refused v (sequence_in v.sequences q).size) makes
  where
    of : (b d s r : Bool) → makes_arrive (cond b Duplicate (cond d TooFar (cond s Rewritten (cond r Discarded Kept)))) ≡ true → d ≡ false
    of true true s r h = absurd (true≢false (sym h))
    of true false s r h = refl
    of false true s r h = absurd (true≢false (sym h))
    of false false s r h = refl

none_kept : (v : Buffer) (q i : ℕ) → arrival_of v q i ≡ Kept → live_at v q i ≡ None
none_kept v q i is =
    of (has_arrived (sequence_in v.sequences q) i) (is_too_far (sequence_in v.sequences q) i) (live_at v q i) (is_refused v (sequence_in v.sequences q).size) is
  where
    of : (b d : Bool) (o : Option BufferRecord) (r : Bool) → cond b Duplicate (cond d TooFar (cond (is_some o) Rewritten (cond r Discarded Kept))) ≡ Kept → o ≡ None
    of true d o r h = absurd (cc)
    of false true o r h = absurd (cc)
    of false false (Some x) r h = absurd (cc)
    of false false None r h = refl

none_discarded : (v : Buffer) (q i : ℕ) → arrival_of v q i ≡ Discarded → live_at v q i ≡ None
none_discarded v q i is =
    of (has_arrived (sequence_in v.sequences q) i) (is_too_far (sequence_in v.sequences q) i) (live_at v q i) (is_refused v (sequence_in v.sequences q).size) is
  where
    of : (b d : Bool) (o : Option BufferRecord) (r : Bool) → cond b Duplicate (cond d TooFar (cond (is_some o) Rewritten (cond r Discarded Kept))) ≡ Discarded → o ≡ None
    of true d o r h = absurd (cc)
    of false true o r h = absurd (cc)
    of false false (Some x) r h = absurd (cc)
    of false false None r h = refl

-- No part of the chunk is left

part_of : ℕ → ℕ → BufferRecord → Bool
part_of q i r = is_of q i r && r.chunk.partial

none_part : (q i : ℕ) (rs : List BufferRecord) → find (is_of q i) rs ≡ None → find (part_of q i) rs ≡ None
unfolding part_of
none_part q i [] none = refl
none_part q i (r ∷ rs) none = of (is_of q i r) (none_part q i rs) none
  where
    of : (b : Bool) → (find (is_of q i) rs ≡ None → find (part_of q i) rs ≡ None) → cond b (Some r) (find (is_of q i) rs) ≡ None → cond (b && r.chunk.partial) (Some r) (find (part_of q i) rs) ≡ None
    of true rest h = absurd (cc)
    of false rest h = rest h

none_more : (q i : ℕ) (rs : List BufferRecord) (r : BufferRecord) → r.chunk.partial ≡ false → find (part_of q i) rs ≡ None → find (part_of q i) (rs ++ r ∷ []) ≡ None
unfolding part_of
none_more q i [] r whole none =
    ap (λ b. cond b (Some r) None) (and_right (is_of q i r) r.chunk.partial whole)
none_more q i (s ∷ rs) r whole none = of (is_of q i s && s.chunk.partial) (none_more q i rs r whole) none
  where
    of : (b : Bool) → (find (part_of q i) rs ≡ None → find (part_of q i) (rs ++ r ∷ []) ≡ None) → cond b (Some s) (find (part_of q i) rs) ≡ None → cond b (Some s) (find (part_of q i) (rs ++ r ∷ [])) ≡ None
    of true rest h = absurd (cc)
    of false rest h = rest h

none_rewritten : (q i : ℕ) (chunk : Chunk) (rs : List BufferRecord) → chunk.partial ≡ false → find (part_of q i) (map (λ (r : BufferRecord). cond (is_of q i r) (record r { chunk = chunk }) r) rs) ≡ None
unfolding part_of
none_rewritten q i chunk [] whole = refl
none_rewritten q i chunk (r ∷ rs) whole =
    ap (λ b. cond b (Some (cond (is_of q i r) (record r { chunk = chunk }) r)) (find (part_of q i) (map (λ (s : BufferRecord). cond (is_of q i s) (record s { chunk = chunk }) s) rs)))
    (of (is_of q i r) refl)
    ∙ none_rewritten q i chunk rs whole
  where
    of : (b : Bool) → is_of q i r ≡ b → (is_of q i (cond b (record r { chunk = chunk }) r) && (cond b (record r { chunk = chunk }) r).chunk.partial) ≡ false
    of true is = and_right (is_of q i r) chunk.partial whole
    of false is = ap (λ b. b && r.chunk.partial) is

of_outcome : (a : Arrived) (v : Buffer) (q i : ℕ) (chunk : Chunk) → arrival_of v q i ≡ a → makes_arrive a ≡ true → chunk.partial ≡ false → find (part_of q i) (settled a v q i chunk).live ≡ None
of_outcome Kept v q i chunk is makes whole =
    none_more q i (filter (λ r. not (meets v (sequence_in v.sequences q).size r)) v.live) _ whole
    (none_part q i (filter (λ r. not (meets v (sequence_in v.sequences q).size r)) v.live)
    (find_filter (is_of q i) (λ r. not (meets v (sequence_in v.sequences q).size r)) v.live (none_kept v q i is)))
of_outcome Rewritten v q i chunk is makes whole = none_rewritten q i chunk v.live whole
of_outcome Discarded v q i chunk is makes whole =
    ap (λ b. find (part_of q i) (cond b (record v { shut = true }) (discarded_buffer v q i chunk)).live) whole
    ∙ none_part q i v.live (none_discarded v q i is)
of_outcome Duplicate v q i chunk is makes whole = absurd (true≢false (sym makes))
of_outcome TooFar v q i chunk is makes whole = absurd (true≢false (sym makes))
of_outcome (BadChunk n) v q i chunk is makes whole = absurd (true≢false (sym makes))

pub no_part_after : (a : Arrived) (v : Buffer) (q i : ℕ) (chunk : Chunk) → a ≡ arrival_of v q i → makes_arrive a ≡ true → chunk.partial ≡ false → find (λ (r : BufferRecord). is_of q i r && r.chunk.partial) (settled a v q i chunk).live ≡ None
unfolding part_of
no_part_after a v q i chunk is makes whole = of_outcome a v q i chunk (sym is) makes whole
