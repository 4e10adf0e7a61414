-- How a refusal is printed.
use Rattle.std.specs.Prelude.{ℕ, List, [], ◌++◌, Option, Some, None, codes, decimal}
use Rattle.scenario_text.specs.declared.reason.Reason.{Reason}
use Rattle.scenario_text.specs.declared.reason.Reason.TheVariants.{UnfinishedLine, BadLine, NumberOutOfRange, LateSetUp, TooMany, NoSuchProducer, NoSuchBuffer, NoSuchWriter, ChunkLargerThanBuffer, ProducerClosed, RawTooLong, PacketBegun, NoPacket, NoNesting, NestingLeft, BadField, ReservedField, TooDeep, PacketTooLong, TooManyBytes, PacketLeft}

-- its words
unfoldable pub reason_words : Reason → List ℕ
reason_words UnfinishedLine = codes "unfinished line"
reason_words BadLine = codes "bad line"
reason_words NumberOutOfRange = codes "number out of range"
reason_words LateSetUp = codes "late set-up"
reason_words TooMany = codes "too many"
reason_words NoSuchProducer = codes "no such producer"
reason_words NoSuchBuffer = codes "no such buffer"
reason_words NoSuchWriter = codes "no such writer"
reason_words ChunkLargerThanBuffer = codes "chunk larger than buffer"
reason_words ProducerClosed = codes "producer closed"
reason_words RawTooLong = codes "raw too long"
reason_words PacketBegun = codes "packet begun"
reason_words NoPacket = codes "no packet"
reason_words NoNesting = codes "no nesting"
reason_words NestingLeft = codes "nesting left"
reason_words (BadField column) = codes "bad field at column "
reason_words (ReservedField field) = codes "reserved field "
reason_words TooDeep = codes "too deep"
reason_words PacketTooLong = codes "packet too long"
reason_words TooManyBytes = codes "too many bytes"
reason_words PacketLeft = codes "packet left"

-- the number that stands behind them, if one does
unfoldable pub reason_number : Reason → Option ℕ
reason_number (BadField column) = Some column
reason_number (ReservedField field) = Some field
reason_number reason = None

-- the number behind a reason's words
unfoldable pub number_text : Option ℕ → List ℕ
number_text None = []
number_text (Some n) = decimal n

-- `line L: REASON`, with its line feed
unfoldable pub refusal_line : ℕ → Reason → List ℕ
refusal_line line reason =
    codes "line " ++ decimal line ++ codes ": " ++ reason_words reason ++ number_text (reason_number reason) ++ codes "\n"
