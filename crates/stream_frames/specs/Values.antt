-- Frames of the code as those that contracts speak of.
use Rattle.std.specs.Prelude.{List}
use Rattle.trace_model.specs.Images.{Patch}
use Rattle.stream_frames.specs.declared.frame.FrameLimits.{FrameLimits}
use Rattle.stream_frames.specs.declared.frame.Commit.{Commit}
use Rattle.stream_frames.specs.declared.frame.Frame.{Frame}
use Rattle.stream_frames.specs.declared.frame.Frame.TheVariants as frames
use Rattle.stream_frames.specs.declared.front.Front.{Front}
use Rattle.stream_frames.specs.declared.front.Front.TheVariants as fronts
use Rattle.stream_frames.specs.declared.patches.PatchBytes.{PatchBytes}
use Rattle.stream_frames.specs.declared.reader.FrameReader.{FrameReader}
use Rattle.stream_frames.specs.Decoding.{patches_at, first_of}
use Rattle.stream_frames.specs.Frames as model
use Rattle.stream_frames.specs.Framing as framing

-- the limits
abbrev pub limits_value : FrameLimits → model.Limits
limits_value limits = record { buffers = limits.buffers; sizes = limits.payload_sizes.items }

-- the patches that stand in front of a commit's bytes
abbrev pub patches_value : PatchBytes → List Patch
patches_value patches = first_of (patches_at patches.count patches.bytes.now)

-- a commit
abbrev pub commit_value : Commit → model.Commit
commit_value commit =
    record { target = commit.target; header = commit.header; patches = patches_value commit.patches; payload = commit.payload.now }

-- a frame
abbrev pub frame_value : Frame → model.Frame
frame_value (frames.Commit commit) = model.Commits (commit_value commit)
frame_value (frames.Read buffer) = model.Reads buffer
frame_value frames.Close = model.Closes

-- what stands in front of some bytes
abbrev pub front_value : Front → framing.Front
front_value fronts.Short = framing.Short
front_value fronts.Bad = framing.Bad
front_value (fronts.Whole frame size) = framing.Whole (frame_value frame) size

-- the frame that is there is one that keeps to the limits
abbrev pub IsFrameOf : model.Limits → Front → Type 0
IsFrameOf limits fronts.Short = Unit {0}
IsFrameOf limits fronts.Bad = Unit {0}
IsFrameOf limits (fronts.Whole frame size) = model.IsFrame limits (frame_value frame)

-- what a reader has of the stream
abbrev pub feeding_of : FrameReader → framing.Feeding
feeding_of reader = record { at = reader.at; have = reader.have.items; closed = reader.closed }

-- and which limits it goes by
abbrev pub limits_of : FrameReader → model.Limits
limits_of reader = limits_value reader.limits
