-- Positions don't run out within a packet: a chunk that a packet runs on from holds at least 277 bytes of it, but for the
-- chunk in which it begins.
use Rattle.std.specs.Prelude.{ℕ, ◌+◌, ◌-◌, ◌*◌, ◌==◌, ◌≤◌, if◌then◌else◌}
use Rattle.chunk_plain.specs.declared.tokens.TheConstants.{POSITION_LIMIT}
use Rattle.trace_writer.specs.declared.fragment.OpenFragment.{OpenFragment}

-- the greatest position
abbrev pub last_position : ℕ
last_position = POSITION_LIMIT - 1

-- the bytes by which a packet fills at least a chunk of 284 bytes, behind the fragment's size and before a length that doesn't fit
abbrev pub least_filled : ℕ
least_filled = 277

-- what the fragment has of that
abbrev pub filled : OpenFragment → ℕ
filled fragment = if fragment.start == 0 then fragment.at - 4 else least_filled

-- there are positions for so many further bytes of the packet
abbrev pub HasIds : OpenFragment → ℕ → Type 0
HasIds fragment further = further + filled fragment ≤ (last_position - fragment.held.position) * least_filled
