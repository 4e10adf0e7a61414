-- Each commit of a stream's frames has a count as a chunk's header can say it, since ten bits of the header are for it, and its writer is
-- counted from 1.
use Rattle.std.proofs.Common.{◌≡◌, ℕ, ◌≤◌, Bool, true, false, cond, not, List, [], ◌∷◌, ◌++◌, length, take, drop, Option, Some, None, Result, Ok, Err, refl, arith}
use Rattle.std.specs.Prelude.{◌/◌, ◌^◌, ◌&&◌, ◌==◌, nat_le, nat_lt, IfSome, ⊤}
use Rattle.std.specs.Int.{w32, w64, from_le_bytes}
use Rattle.std.proofs.lemmas.Bool.{and_parts, leb-true}
use Rattle.std.proofs.lemmas.Nat.{mod_below}
use Rattle.trace_base.specs.declared.limits.TheConstants.{MAX_FRAGMENTS}
use Rattle.page_geometry.specs.Header.{unpacked}
use Rattle.trace_model.specs.Images.{Patch}
use Rattle.stream_frames.specs.Decoding.{◌>>=◌, byte_at, number_at, counted_at, is_within, is_buffer, holds, commit_at, buffer_at, frame_of, decoded}
use Rattle.stream_frames.specs.Frames.{Commit, Frame, Commits, Reads, Closes, Limits, payload_size_of}
use Rattle.stream_frames.specs.Framing.{Front, Short, Bad, Whole, Feeding, Progress, is_size, whole_of, behind_length, front_of, stopped, by_front, goes_on, fed_byte, fed, beginning, frames_of}

-- a header can say its count, and its writer is counted from 1
abbrev pub IsCounted : Frame → Type 0
IsCounted (Commits commit) = (commit.header.count ≤ MAX_FRAGMENTS) × (1 ≤ commit.header.writer_id)
IsCounted (Reads buffer) = ⊤
IsCounted Closes = ⊤

abbrev pub AreCounted : List Frame → Type 0
AreCounted [] = ⊤
AreCounted (frame ∷ frames) = IsCounted frame × AreCounted frames

counted_both : (frames later : List Frame) → AreCounted frames → AreCounted later → AreCounted (frames ++ later)
counted_both [] later are all = all
counted_both (frame ∷ frames) later are all = (are.0, counted_both frames later are.1 all)

-- One frame

unpacked_small : (word : ℕ) → (unpacked word).count ≤ MAX_FRAGMENTS
unfolding unpacked
unpacked_small word =
    let below = mod_below (word / 2 ^ 48) (2 ^ 10) (omega arith) in
    omega (arith, below)

module _ {B : Type 0} (P : B → Type 0) where
  bind_if : {A : Type 0} (found : Option A) (next : A → Option B) → ((x : A) → IfSome (next x) P) → IfSome (found >>= next) P
  bind_if None next all = tt
  bind_if (Some x) next all = all x

  if_some : (b : Bool) (x : B) → (b ≡ true → P x) → IfSome (cond b (Some x) None) P
  if_some true x is = is refl
  if_some false x is = tt

  if_cond : (b : Bool) (one other : Option B) → IfSome one P → IfSome other P → IfSome (cond b one other) P
  if_cond true one other first second = first
  if_cond false one other first second = second

abbrev IsSmall : Commit → Type 0
IsSmall commit = (commit.header.count ≤ MAX_FRAGMENTS) × (1 ≤ commit.header.writer_id)

abbrev made : (target word : ℕ) → List Patch → List ℕ → Commit
made target word patches payload = record { target = target; header = unpacked word; patches = patches; payload = payload }

abbrev checked : Limits → Commit → Option Commit
checked limits commit = cond (is_within limits commit) (Some commit) None

named : (limits : Limits) (commit : Commit) → is_within limits commit ≡ true → 1 ≤ commit.header.writer_id
named limits commit e =
    let within = and_parts (is_buffer limits commit.target) (holds limits commit.header.writer_id commit.payload) e in
    let both = and_parts (nat_le 1 commit.header.writer_id)
    (nat_le commit.header.writer_id (length limits.sizes)
    && nat_le (length commit.payload) (payload_size_of limits commit.header.writer_id))
    within.1 in
    leb-true 1 commit.header.writer_id both.0

commit_small : (limits : Limits) (bytes : List ℕ) → IfSome (commit_at limits bytes) IsSmall
unfolding commit_at
commit_small limits bytes =
    bind_if IsSmall (byte_at bytes)
    (λ target. number_at w64 target.1 >>= λ header. counted_at header.1
    >>= λ patches. checked limits (made target.0 header.0 patches.0 patches.1))
    (λ target.
    bind_if IsSmall (number_at w64 target.1)
    (λ header. counted_at header.1 >>= λ patches. checked limits (made target.0 header.0 patches.0 patches.1))
    (λ header.
    bind_if IsSmall (counted_at header.1)
    (λ patches. checked limits (made target.0 header.0 patches.0 patches.1))
    (λ patches.
    if_some IsSmall (is_within limits (made target.0 header.0 patches.0 patches.1)) (made target.0 header.0 patches.0 patches.1)
    (λ e. (unpacked_small header.0, named limits (made target.0 header.0 patches.0 patches.1) e)))))

commit_counted : (found : Option Commit) → IfSome found IsSmall → IfSome (found >>= λ commit. Some (Commits commit)) IsCounted
commit_counted None is = tt
commit_counted (Some commit) is = is

frame_counted : (limits : Limits) (kind : ℕ) (bytes : List ℕ) → IfSome (frame_of limits kind bytes) IsCounted
unfolding frame_of
frame_counted limits kind bytes =
    let close : Option Frame = cond ((kind == 3) && (length bytes == 0)) (Some Closes) None in
    let read : Option Frame = buffer_at limits bytes >>= λ buffer. Some (Reads buffer) in
    let commit : Option Frame = commit_at limits bytes >>= λ found. Some (Commits found) in
    if_cond IsCounted (kind == 1) commit (cond (kind == 2) read close)
    (commit_counted (commit_at limits bytes) (commit_small limits bytes))
    (if_cond IsCounted (kind == 2) read close
    (bind_if IsCounted (buffer_at limits bytes) (λ buffer. Some (Reads buffer)) (λ buffer. tt))
    (if_some IsCounted ((kind == 3) && (length bytes == 0)) Closes (λ e. tt)))

decoded_counted : (limits : Limits) (bytes : List ℕ) → IfSome (decoded limits bytes) IsCounted
unfolding decoded
decoded_counted limits bytes =
    bind_if IsCounted (byte_at bytes) (λ kind. frame_of limits kind.0 kind.1) (λ kind. frame_counted limits kind.0 kind.1)

-- What stands in front of some bytes

abbrev FrontCounted : Front → Type 0
FrontCounted Short = ⊤
FrontCounted Bad = ⊤
FrontCounted (Whole frame size) = IsCounted frame

whole_counted : (size : ℕ) (found : Option Frame) → IfSome found IsCounted → FrontCounted (whole_of size found)
whole_counted size None is = tt
whole_counted size (Some frame) is = is

front_cond : (b : Bool) (one other : Front) → FrontCounted one → FrontCounted other → FrontCounted (cond b one other)
front_cond true one other first second = first
front_cond false one other first second = second

behind_counted : (limits : Limits) (size : ℕ) (bytes : List ℕ) → FrontCounted (behind_length limits size bytes)
unfolding behind_length
behind_counted limits size bytes =
    let whole : Front = whole_of size (decoded limits (take size bytes)) in
    front_cond (not (is_size size)) Bad (cond (nat_lt (length bytes) size) Short whole) tt
    (front_cond (nat_lt (length bytes) size) Short whole tt
    (whole_counted size (decoded limits (take size bytes)) (decoded_counted limits (take size bytes))))

front_counted : (limits : Limits) (bytes : List ℕ) → FrontCounted (front_of limits bytes)
unfolding front_of
front_counted limits bytes =
    front_cond (nat_lt (length bytes) 4) Short (behind_length limits (from_le_bytes w32 (take 4 bytes)) (drop 4 bytes)) tt
    (behind_counted limits (from_le_bytes w32 (take 4 bytes)) (drop 4 bytes))

-- A stream

by_counted : (at : ℕ) (bytes : List ℕ) (front : Front) → FrontCounted front → AreCounted (by_front at bytes front).frames
by_counted at bytes Short is = tt
by_counted at bytes Bad is = tt
by_counted at bytes (Whole frame size) is = (is, tt)

byte_counted : (limits : Limits) (feeding : Feeding) (byte : ℕ) → AreCounted (fed_byte limits feeding byte).frames
unfolding fed_byte
byte_counted limits feeding byte = by_closed feeding.closed
  where
    by_closed : (b : Bool)
        → AreCounted (cond b (stopped feeding.at)
        (by_front feeding.at (feeding.have ++ byte ∷ []) (front_of limits (feeding.have ++ byte ∷ [])))).frames
    by_closed true = tt
    by_closed false =
        by_counted feeding.at (feeding.have ++ byte ∷ []) (front_of limits (feeding.have ++ byte ∷ []))
        (front_counted limits (feeding.have ++ byte ∷ []))

goes_counted : (frames : List Frame) (ends : Result Feeding ℕ) (next : Feeding → Progress) → AreCounted frames
    → ((feeding : Feeding) → AreCounted (next feeding).frames) → AreCounted (goes_on frames ends next).frames
goes_counted frames (Ok feeding) next are all = counted_both frames (next feeding).frames are (all feeding)
goes_counted frames (Err at) next are all = are

fed_counted : (limits : Limits) (feeding : Feeding) (bytes : List ℕ) → AreCounted (fed limits feeding bytes).frames
unfolding fed
fed_counted limits feeding [] = tt
fed_counted limits feeding (byte ∷ bytes) =
    goes_counted (fed_byte limits feeding byte).frames (fed_byte limits feeding byte).ends (λ next. fed limits next bytes)
    (byte_counted limits feeding byte) (λ next. fed_counted limits next bytes)

-- of any stream's frames
pub stream_counted : (limits : Limits) (stream : List ℕ) → AreCounted (frames_of limits stream)
stream_counted limits stream = fed_counted limits beginning stream
