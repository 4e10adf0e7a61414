-- A buffer that becomes a copy of another one.
use Rattle.std.proofs.Common.{◌≡◌, ℕ, ◌+◌, ◌*◌, ◌<◌, ◌≤◌, List, [], ◌∷◌, length, map, drop, sum_by, refl, sym, ap, ◌∙◌, subst, arith}
use Rattle.std.specs.FinMap.{len}
use Rattle.chunk_index.specs.Value.{IndexValue, with_places}
use Rattle.ring_bytes.specs.Value.{RingValue, size_of}
use Rattle.trace_model.specs.Buffers.{Buffer}
use Rattle.trace_model.specs.Sequences.{Sequence}
use Rattle.trace_buffer.specs.BufferFields.{AreParts, AllFit, IsBuffer, buffer_view}
use Rattle.trace_buffer.specs.Clones.{made_from, none_delivered}
use Rattle.trace_buffer.specs.declared.buffer.TraceBuffer.TheInside.{Inside}
use Rattle.trace_buffer.proofs.KeepLemmas.{roomy_kept, few_entries}
use Rattle.trace_buffer.proofs.PartLemmas.{KeepsRow}

first_size : List (ℕ × ℕ) → ℕ
first_size [] = 0
first_size (made ∷ others) = made.1

-- what is made from the same sequences has entries for as many records
pub fit_same : (room capacity : ℕ) (rows others : List Sequence) → map made_from rows ≡ map made_from others → AllFit room capacity rows → AllFit room capacity others
unfolding first_size
fit_same room capacity [] [] same fit = tt
fit_same room capacity [] (other ∷ others) same fit = absurd (let none = ap length same in omega arith)
fit_same room capacity (state ∷ rows) [] same fit = absurd (let none = ap length same in omega arith)
fit_same room capacity (state ∷ rows) (other ∷ others) same fit =
    let size : state.size ≡ other.size = ap first_size same in (
      subst (λ n. n ≤ room) size fit.0,
      subst (λ n. room < n * (capacity + 1)) size fit.1,
      fit_same room capacity rows others (ap (drop 1) same) fit.2,
    )

-- the index has room for the places of the other one's records
pub few_places : (ring : RingValue) (index : IndexValue) (capacity : ℕ) (rows : List Sequence) → AreParts ring index rows → AllFit ring.room capacity rows
    → sum_by size_of ring.live ≤ ring.room → len index.places ≤ capacity
few_places ring index capacity rows parts fit few =
    let most = few_entries ring.room capacity ring.live (roomy_kept ring.room capacity rows ring.live fit parts.kept) few in
    omega (arith, most, parts.indexed.few)

-- they are the parts of a buffer with the index's own capacity
pub parts_copied : (ring new : RingValue) (index own copy : IndexValue) (rows others : List Sequence) → AreParts ring index rows → AllFit ring.room own.capacity rows
    → new ≡ ring → copy ≡ with_places index.places own → others ≡ rows → AreParts new copy others
parts_copied ring new index own copy rows others parts fit ring_is index_is rows_is =
    subst (λ (r : RingValue). AreParts r copy others) (sym ring_is)
    (subst (λ (i : IndexValue). AreParts ring i others) (sym index_is)
    (subst (AreParts ring (with_places index.places own)) (sym rows_is)
    (record { indexed = parts.indexed; kept = parts.kept; once = parts.once; fit = fit })))

-- two buffers of one size, made from the same sequences
pub fit_copied : (own other : Inside) (mine theirs : Buffer) → buffer_view own ≡ mine → buffer_view other ≡ theirs → mine.room ≡ theirs.room
    → map made_from mine.sequences ≡ map made_from theirs.sequences → IsBuffer own → AllFit other.ring.room own.index.capacity other.rows.items
fit_copied own other mine theirs own_is other_is room same ok =
    let rooms : own.ring.room ≡ other.ring.room = ap (λ (b : Buffer). b.room) own_is ∙ room ∙ sym (ap (λ (b : Buffer). b.room) other_is) in
    let rows : map made_from own.rows.items ≡ map made_from other.rows.items =
    ap (λ (b : Buffer). map made_from b.sequences) own_is ∙ same ∙ sym (ap (λ (b : Buffer). map made_from b.sequences) other_is) in
    subst (λ n. AllFit n own.index.capacity other.rows.items) rooms
    (fit_same own.ring.room own.index.capacity own.rows.items other.rows.items rows ok.parts.fit)

pub keeps_reset : KeepsRow none_delivered
keeps_reset = record { number = λ s. refl; size = λ s. refl; arrived = λ s. refl }
