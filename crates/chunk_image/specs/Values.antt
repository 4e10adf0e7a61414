-- Images, fragments and what a reading answers, as the model has them.
use Rattle.std.specs.Prelude.{ℕ, Result, Ok, Err, List}
use Rattle.trace_model.specs.Images as model
use Rattle.trace_model.specs.Reading.{Size, Reading, Fragments, Unreadable}
use Rattle.chunk_image.specs.declared.image.Image.{Image}
use Rattle.chunk_image.specs.declared.image.ImageFault.{ImageFault}
use Rattle.chunk_image.specs.declared.image.ImageFault.TheVariants.{BadChunk}
use Rattle.chunk_image.specs.declared.read.Fragment.{Fragment}

-- an image as one of the model
abbrev pub image_value : Image → model.Image
image_value image = record {
  sequence = image.sequence;
  chunk_id = image.chunk_id;
  count = image.count;
  flags = image.flags;
  payload = image.payload.now;
}

-- a fragment as one of the model
abbrev pub fragment_value : Fragment → model.Fragment
fragment_value fragment =
    record { bytes = fragment.bytes.now; dropped = fragment.dropped; offset = fragment.offset }

-- a size and its length in bytes
abbrev pub size_value : ℕ × ℕ → Size
size_value size = record { value = size.0; width = size.1 }

-- the number of the fragment that a fault names
abbrev pub unread_number : ImageFault → ℕ
unread_number (BadChunk fragment) = fragment

-- what an answer says of the payload
abbrev pub reading_told : Result (List model.Fragment) ImageFault → Reading
reading_told (Ok fragments) = Fragments fragments
reading_told (Err fault) = Unreadable (unread_number fault)
