-- How lines are kept: one head for each, and the nodes of all as bytes, one line's behind another's. Of a line `raw` its text is kept.
use Rattle.std.specs.Prelude.{◌≡◌, ℕ, ◌+◌, ◌*◌, ◌^◌, ◌≤◌, List, [], ◌∷◌, length, take, drop, ⊤}
use Rattle.field_tree.specs.Written.{shown_in, AreFitNodes}
use Rattle.scenario_text.specs.declared.line_list.KeptKind.{KeptKind}
use Rattle.scenario_text.specs.declared.line_list.KeptKind.TheVariants.{Packet, Begin, Add, Nest, Unnest, End, Flush, Collect, Scrape, Close, Read, Request, CloneBuffer, Raw}
use Rattle.scenario_text.specs.declared.line_list.KeptLine.{KeptLine}
use Rattle.scenario_text.specs.declared.scenario.LineKind.{LineKind}
use Rattle.scenario_text.specs.declared.scenario.LineKind.TheVariants as kinds
use Rattle.scenario_text.specs.declared.scenario.NumberedLine.{NumberedLine}
use Rattle.scenario_text.specs.RawChunks.{chunk_in, IsRawLine}

-- how many bytes are the line's own
abbrev pub own_len : KeptKind → ℕ
own_len (Packet writer len) = len
own_len (Add writer len) = len
own_len (Raw writer len) = len
own_len other = 0

-- what the line has done, where these bytes are its own
abbrev pub kind_of : KeptKind → List ℕ → LineKind
kind_of (Packet writer len) own = kinds.Packet writer (shown_in own)
kind_of (Begin writer) own = kinds.Begin writer
kind_of (Add writer len) own = kinds.Add writer (shown_in own)
kind_of (Nest writer field) own = kinds.Nest writer field
kind_of (Unnest writer) own = kinds.Unnest writer
kind_of (End writer) own = kinds.End writer
kind_of (Flush writer) own = kinds.Flush writer
kind_of (Collect producer) own = kinds.Collect producer
kind_of (Scrape producer) own = kinds.Scrape producer
kind_of (Close producer) own = kinds.Close producer
kind_of (Read buffer high low) own = kinds.Read buffer (high * 2 ^ 32 + low)
kind_of Request own = kinds.Request
kind_of (CloneBuffer buffer) own = kinds.CloneBuffer buffer
kind_of (Raw writer len) own = kinds.Raw writer (chunk_in own)

-- the bytes say the line's nodes, where it has some, or are the line itself, where it asks for a chunk
abbrev pub HasOwn : KeptKind → List ℕ → Type 0
HasOwn (Packet writer len) own = AreFitNodes own
HasOwn (Add writer len) own = AreFitNodes own
HasOwn (Raw writer len) own = IsRawLine own
HasOwn other own = ⊤

-- the lines, where these bytes are theirs, one's behind another's
abbrev pub lines_of : List KeptLine → List ℕ → List NumberedLine
lines_of [] code = []
lines_of (head ∷ heads) code =
    (record { line = head.line; what = kind_of head.what (take (own_len head.what) code) })
    ∷ lines_of heads (drop (own_len head.what) code)

-- there are so many bytes as the lines have of their own, and they say the nodes of each
abbrev pub AreLaid : List KeptLine → List ℕ → Type 0
AreLaid [] code = code ≡ []
AreLaid (head ∷ heads) code =
    (own_len head.what ≤ length code) × HasOwn head.what (take (own_len head.what) code)
    × AreLaid heads (drop (own_len head.what) code)
