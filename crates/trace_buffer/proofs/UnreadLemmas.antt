-- Whether a record has unread fragments, from its header.
use Rattle.std.proofs.Common.{◌≡◌, ℕ, ◌<◌, ◌≤◌, nat_lt, true, false, List, sym, ap, ◌∙◌, arith}
use Rattle.std.proofs.lemmas.Bool.Decides.{nat_tests}
use Rattle.ring_bytes.specs.declared.key.RecordKey.{RecordKey}
use Rattle.ring_bytes.specs.Value.{Stored}
use Rattle.trace_model.specs.Buffers.{is_unread}
use Rattle.trace_model.specs.Reading.{reading_of, is_readable}
use Rattle.trace_model.specs.Sequences.{Sequence, sequence_in, unread_of}
use Rattle.trace_buffer.specs.Records.{record_of}
use Rattle.trace_buffer.proofs.LossLemmas.{reading_length}

pub unread_is : (rows : List Sequence) (s : Stored) (key : RecordKey) (row : Sequence) (n : ℕ) → is_readable (reading_of s.key.count s.payload) ≡ true → key ≡ s.key → row ≡ sequence_in rows key.sequence → n ≡ unread_of row key.chunk_id key.count → nat_lt 0 n ≡ is_unread rows (record_of s)
unread_is rows s key row n reads key_is row_is n_is =
    ap (nat_lt 0)
    (n_is
    ∙ ap (λ (t : Sequence). unread_of t key.chunk_id key.count) row_is
    ∙ ap (λ (k : RecordKey). unread_of (sequence_in rows k.sequence) k.chunk_id k.count) key_is
    ∙ ap (unread_of (sequence_in rows s.key.sequence) s.key.chunk_id) (sym (reading_length s.key.count s.payload reads)))

pub is_more : (n : ℕ) → 0 < n → nat_lt 0 n ≡ true
is_more n some = grind (arith, nat_tests)

pub is_none : (n : ℕ) → n ≤ 0 → nat_lt 0 n ≡ false
is_none n none = grind (arith, nat_tests)
