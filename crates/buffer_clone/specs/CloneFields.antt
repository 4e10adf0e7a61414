-- What the fields of a clone mean.
use Rattle.std.specs.Prelude.{◌≡◌}
use Rattle.trace_model.specs.Buffers.{Buffer}
use Rattle.trace_buffer.specs.Clones.{numbers_of}
use Rattle.buffer_clone.specs.declared.copy.BufferClone.TheInside.{Inside}

-- a clone as a buffer of the model
abbrev pub clone_view : Inside → Buffer
clone_view clone = clone.buffer

-- the fields of a clone hold together
pub record IsClone (clone : Inside) : Type 0 where
  pub numbers : clone.sequences.items ≡ numbers_of clone.buffer
