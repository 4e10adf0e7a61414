-- The walk and the grammar say the same, wherever a packet is cut.
use Rattle.std.specs.Prelude.{◌≡◌, ◌↔◌, true, List, ◌++◌, ℕ, Result}
use Rattle.packet_check.specs.Answers.{IsAnswer, answer_of}
use Rattle.packet_check.specs.Messages.{Passes}
use Rattle.packet_check.specs.declared.fault.PacketFault.{PacketFault}
use Rattle.trace_model.specs.Walks.{Walk, packet_start, walk_over, is_accepted}

-- what a walk over a packet says is so, by the grammar
abbrev pub AnswersAreOfTheGrammar : Type 0
AnswersAreOfTheGrammar = (bytes : List ℕ) → IsAnswer bytes (answer_of (walk_over packet_start bytes))

-- what is so by the grammar, the walk says: so a packet has one answer
abbrev pub PacketsHaveOneAnswer : Type 0
PacketsHaveOneAnswer = (bytes : List ℕ) (answer : Result (Unit {0}) PacketFault) → IsAnswer bytes answer
    → answer ≡ answer_of (walk_over packet_start bytes)

-- the walk over two pieces is that over the pieces joined
abbrev pub PiecesAreJoined : Type 0
PiecesAreJoined = (walk : Walk) (piece next : List ℕ) → walk_over (walk_over walk piece) next ≡ walk_over walk (piece ++ next)

-- the packets that are accepted are those that pass by the grammar
abbrev pub AcceptedPass : Type 0
AcceptedPass = (bytes : List ℕ) → (is_accepted bytes ≡ true) ↔ Passes bytes
