-- What is done to a fragment that is written.
use Rattle.std.specs.Prelude.{◌≡◌, ℕ, ◌+◌, List, length, vec_len}
use Rattle.trace_model.specs.Images.{with_bytes}
use Rattle.trace_model.specs.Packets.{open_length}
use Rattle.commit_body.specs.declared.closed.Closed.{Closed}
use Rattle.commit_body.specs.declared.closed.Closed.TheVariants.{Here, Later}
use Rattle.commit_body.specs.Pending.{Pending, AddsHole, ClosesHole}
use Rattle.trace_writer.specs.declared.fragment.OpenFragment.{OpenFragment}

-- nothing but the payload and the place of the next byte differs
pub record IsSameChunk (old new : OpenFragment) : Type 0 where
  pub chunk : new.held.chunk ≡ old.held.chunk
  pub position : new.held.position ≡ old.held.position
  pub patches : new.held.body.patches ≡ old.held.body.patches
  pub start : new.start ≡ old.start
  pub count : new.count ≡ old.count
  pub continues : new.continues ≡ old.continues
  pub len : vec_len new.held.body.payload ≡ vec_len old.held.body.payload

-- these bytes stand at a place of the payload, and no other byte of it differs
pub record IsPutInto (old new : OpenFragment) (at : ℕ) (bytes : List ℕ) : Type 0 where
  pub same : IsSameChunk old new
  pub payload : new.held.body.payload.items ≡ with_bytes old.held.body.payload.items at bytes

-- where a hole was in the held chunk its length stands there, and else the chunk is as it was
abbrev pub Closes : OpenFragment → OpenFragment → Closed → Type 0
Closes old new (Here offset bytes) = IsPutInto old new offset bytes
Closes old new Later = new ≡ old

-- a hole was closed: in place, or by a patch later
pub record AnswersClose (old new : OpenFragment) (before after : Pending) (value : ℕ) : Type 0 where
  pub answer : Closed
  pub closes : ClosesHole before after old.held.position value answer
  pub put : Closes old new answer
  pub at : new.at ≡ old.at

-- a nested message's tag stands behind the bytes before, and behind it four bytes that are set aside for its length
pub record OpensMessage (old new : OpenFragment) (before after : Pending) (tag : List ℕ) : Type 0 where
  pub tagged : OpenFragment
  pub put : IsPutInto old tagged old.at tag
  pub at : tagged.at ≡ old.at + length tag
  pub put_length : IsPutInto tagged new tagged.at open_length
  pub length_at : new.at ≡ tagged.at + 4
  pub adds : AddsHole before after tagged.held.position tagged.at
