-- The worked streams, computed.
use Rattle.std.proofs.Common.{◌*◌, ◌≤◌, ◌≡◌, ℕ, true, List, [], ◌∷◌, reverse, Some, refl, arith}
use Rattle.std.specs.Prelude.{slice_get}
use Rattle.std.proofs.lemmas.Bool.{false≢true}
use Rattle.std.proofs.lemmas.List.Elements.{All-from_recursion}
use Rattle.std.proofs.lemmas.List.Sorted.{IsPermutation-append_comm, IsPermutation-refl}
use Rattle.wire_varint.specs.Varint.{varint, groups, tag, redundant}
use Rattle.trace_base.specs.declared.limits.TheConstants.{MAX_FRAGMENTS}
use Rattle.trace_model.specs.Buffers.{Buffer}
use Rattle.trace_model.specs.Cut.{IsWellFormedPage}
use Rattle.trace_model.specs.Encoding.{number_field, bytes_head, bytes_field}
use Rattle.trace_model.specs.Record.{content_of, record_of}
use Rattle.trace_model.specs.History.{Event, state_after}
use Rattle.trace_model.specs.Packets.{packets_of}
use Rattle.trace_model.specs.Sequences.{sequence_in}
use Rattle.trace_model.specs.Walks.{is_refused, is_number, is_accepted}
use Rattle.trace_model.specs.WorkedRows.{no_limit}
use Rattle.trace_model.specs.WorkedWriters.{given_up_calls, given_up_pages, patched_calls, patched_pages}
use Rattle.trace_model.proofs.WorkedLemmas.{worked_rows}
use Rattle.commit_laws.specs.Commits.{commits_in}
use Rattle.commit_laws.specs.Complete.{IsReadOut, commits_to, kept_bodies}
use Rattle.commit_laws.specs.WorkedStreams.{early_buffer, mixed_buffer, read_behind, WorkedEarly, WorkedHeld, WorkedStream, closed_behind, held_events, held_pages, second_first, third_first}

is_read_out : (buffer : Buffer) (commits : List Event) → (sequence_in (state_after buffer (closed_behind commits)).sequences 2).closed ≡ true
    → 2 * (MAX_FRAGMENTS * commits_to buffer.sequences (read_behind buffer commits)) ≤ no_limit → IsReadOut 2 buffer (read_behind buffer commits)
is_read_out buffer commits closed unlimited = record {
  before = closed_behind commits;
  closed = closed;
  limit = no_limit;
  numbers = 2 ∷ 3 ∷ [];
  later = [];
  cut = refl;
  read = refl;
  unlimited = unlimited;
}

pub worked_stream : WorkedStream
unfolding groups varint tag redundant number_field bytes_head bytes_field is_accepted is_refused is_number
worked_stream = record {
  stream = record {
    cut = record { possible = refl; small = omega arith; cut = worked_rows.given_up.cut; ends = refl };
    each_once = IsPermutation-append_comm (_ ∷ []) (_ ∷ _ ∷ []);
    only = ((λ e. refl), ((λ e. refl), ((λ e. refl), tt)));
    accepted = ((λ e. refl), ((λ e. refl), ((λ e. refl), tt)));
    behind = (refl, (refl, (refl, tt)));
    lasts = ((λ e. refl), tt);
  };
  passes = All-from_recursion (λ (body : List ℕ). is_accepted body ≡ true) (kept_bodies (reverse (packets_of given_up_calls))) (refl, (refl, tt));
  by_commits = (omega arith, (omega arith, (omega arith, tt)));
  bytes = omega arith;
  read = is_read_out mixed_buffer (third_first given_up_pages) refl (omega arith);
  places = refl;
  delivered = refl;
}

pub worked_held : WorkedHeld
unfolding groups varint tag redundant number_field bytes_head bytes_field content_of record_of is_accepted is_refused is_number
worked_held = record {
  possible = refl;
  cut = record {
    full = All-from_recursion (IsWellFormedPage 284) held_pages (
      record { some = omega arith; most = omega arith; whole = refl; dropped = λ h. absurd (cc) },
      tt,
    );
    flags = (refl, tt);
    last = λ h. absurd (cc);
    chains = (record { marked = refl; bytes = ([], refl); ends = refl; goes_on = refl; lengths = refl }, tt);
    patches = record { sent = (refl, tt); lasts = tt; awaits = (refl, tt); placed = refl; behind = (tt, tt) };
    begins = refl;
  };
  each_once = IsPermutation-refl (commits_in 2 held_events);
  only = ((λ e. refl), tt);
  accepted = ((λ e. refl), tt);
  behind = (refl, tt);
  lasts = tt;
  stays = refl;
  goes_on = refl;
  untold = λ told. none_emitted told.0 _ told.1.emitted_there;
}
  where
    none_emitted : (place : ℕ) (packet : List ℕ) → slice_get [] place ≡ Some packet → ⊥
    none_emitted place packet e = cc

pub worked_early : WorkedEarly
unfolding groups varint tag redundant number_field bytes_head bytes_field is_accepted is_refused is_number
worked_early = record {
  cut = record { possible = refl; small = omega arith; cut = worked_rows.patched.cut; ends = refl };
  each_once = IsPermutation-append_comm (_ ∷ []) (_ ∷ []);
  only = ((λ e. refl), ((λ e. refl), tt));
  accepted = ((λ e. refl), ((λ e. refl), tt));
  before = λ behind. false≢true behind.0;
  lasts = ((λ e. refl), tt);
  passes = All-from_recursion (λ (body : List ℕ). is_accepted body ≡ true) (kept_bodies (reverse (packets_of patched_calls))) (refl, tt);
  by_commits = (omega arith, (omega arith, tt));
  bytes = omega arith;
  read = is_read_out early_buffer (second_first patched_pages) refl (omega arith);
  incomplete = λ all. all;
}
