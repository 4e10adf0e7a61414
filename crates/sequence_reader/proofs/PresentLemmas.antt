-- The fragment at a spot of a chunk that has a record.
use Rattle.std.proofs.Common.{◌≡◌, ℕ, zero, suc, ◌+◌, ◌-◌, ◌^◌, ◌<◌, ◌≤◌, ◌==◌, Bool, true, false, List, length, drop, sym, subst, arith, true≢false}
use Rattle.ring_bytes.specs.declared.key.RecordKey.{RecordKey}
use Rattle.trace_model.specs.Images.{Fragment}
use Rattle.trace_model.specs.Reading.{reading_of, is_readable, fragments_of}
use Rattle.trace_model.specs.Row.{is_last}
use Rattle.trace_buffer.specs.Records.{chunk_of}
use Rattle.trace_buffer.proofs.LossLemmas.{reading_length}
use Rattle.sequence_reader.specs.declared.spot.Spot.{Spot}
use Rattle.sequence_reader.specs.Spots.{FitsChunk, reach_of, start_from}
use Rattle.sequence_reader.specs.Steps.{spot_behind}
use Rattle.sequence_reader.proofs.FragmentLemmas.{ReadsNext, reads_at, is_last_at}

abbrev pub fragments_at : ℕ → List ℕ → List Fragment
fragments_at count payload = fragments_of (reading_of count payload)

pub record Stands (count : ℕ) (payload : List ℕ) (spot : Spot) : Type 0 where
  pub next : ReadsNext payload (count - suc spot.passed) (start_from 0 spot.passed (fragments_at count payload)) (drop spot.passed (fragments_at count payload))
  pub at : spot.offset ≡ start_from 0 spot.passed (fragments_at count payload)
  pub last : is_last next.others ≡ (spot.passed + 1 == count)

pub stands : (key : RecordKey) (payload : List ℕ) (closed : Bool) (spot : Spot) → is_readable (reading_of key.count payload) ≡ true
    → FitsChunk closed (chunk_of key payload) spot → spot.passed < key.count → Stands key.count payload spot
stands key payload closed spot reads fits less =
    let next = reads_at key.count payload spot.passed reads less in
    let all : length (fragments_at key.count payload) ≡ key.count = reading_length key.count payload reads in
    record {
      next = next;
      at = fits.offset (omega (arith, all, less));
      last = is_last_at key.count payload spot.passed next.fragment next.others reads next.split;
    }

pub offset_within : (count : ℕ) (payload : List ℕ) (spot : Spot) → Stands count payload spot → spot.offset ≤ length payload
offset_within count payload spot is = subst (λ n. n ≤ length payload) (sym is.at) is.next.within

pub some_count : (count : ℕ) (payload : List ℕ) → is_readable (reading_of count payload) ≡ true → 0 < count
some_count zero payload reads = absurd (true≢false (sym reads))
some_count (suc more) payload reads = omega arith

pub reach_further : (spot : Spot) (end len : ℕ) (ended : Bool) → spot.offset + len < end → end ≤ 2 ^ 26 → reach_of spot + len < reach_of (spot_behind spot end ended)
reach_further spot end len true more small = omega (arith, more, small)
reach_further spot end len false more small = omega (arith, more, small)

pub reach_near : (spot : Spot) (end : ℕ) (ended : Bool) → spot.chunk_id < 2 ^ 33 → end ≤ 2 ^ 26 → reach_of (spot_behind spot end ended) ≤ 2 ^ 59
reach_near spot end true low small = omega (arith, low, small)
reach_near spot end false low small = omega (arith, low, small)
