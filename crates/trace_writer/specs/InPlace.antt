-- What is put into the fragment that is written, where all of it fits there.
use Rattle.std.specs.Prelude.{◌≡◌, ℕ, ◌+◌, List, [], ◌∷◌, ◌++◌, length, Some}
use Rattle.trace_writer.specs.declared.fragment.OpenFragment.{OpenFragment}
use Rattle.trace_writer.specs.declared.packet.OpenPacket.{OpenPacket}
use Rattle.trace_writer.specs.declared.state.State.TheVariants.{Writing}
use Rattle.trace_writer.specs.declared.state.Writer.{Writer}
use Rattle.trace_writer.specs.Fragment.{IsPutInto, OpensMessage}

-- the bytes of a field stand behind those before, and the packet is as much longer
pub record PutsField (old new : Writer) (bytes : List ℕ) : Type 0 where
  pub fragment : OpenFragment
  pub next : OpenFragment
  pub open_one : OpenPacket
  pub later : OpenPacket
  pub was : old.state ≡ Writing fragment
  pub packet_was : old.packet ≡ Some open_one
  pub new_is : new ≡ record old { state = Writing next; packet = Some later }
  pub put : IsPutInto fragment next fragment.at bytes
  pub at : next.at ≡ fragment.at + length bytes
  pub len : later.len ≡ open_one.len + length bytes
  pub starts : later.starts.items ≡ open_one.starts.items

-- a nested message is begun behind the bytes before, and the packet is longer by its tag and length
pub record PutsNested (old new : Writer) (tag : List ℕ) : Type 0 where
  pub fragment : OpenFragment
  pub next : OpenFragment
  pub open_one : OpenPacket
  pub later : OpenPacket
  pub was : old.state ≡ Writing fragment
  pub packet_was : old.packet ≡ Some open_one
  pub new_is : new ≡ record old { state = Writing next; packet = Some later; pending = new.pending }
  pub opens : OpensMessage fragment next old.pending new.pending tag
  pub len : later.len ≡ open_one.len + (length tag + 4)
  pub starts : later.starts.items ≡ open_one.starts.items ++ later.len ∷ []
