-- The workload of a number: a scenario that is as long as wanted and the same on every machine. Its form is this profile's own.
use Rattle.std.specs.Prelude.{◌≡◌, ℕ, zero, suc, ◌+◌, ◌*◌, ◌/◌, ◌%◌, ◌^◌, List, [], ◌∷◌, ◌++◌, codes, decimal}

-- the next state of the generator: a linear congruential one modulo 2 ^ 64, with Knuth's numbers for it
unfoldable pub next_state : ℕ → ℕ
next_state state = (state * 6364136223846793005 + 1442695040888963407) % 2 ^ 64

-- the state after so many steps from a number
unfoldable pub state_after : ℕ → ℕ → ℕ
state_after number zero = number
state_after number (suc k) = next_state (state_after number k)

-- what a state draws: its upper 31 bits, since the lower ones of such a generator repeat too soon
abbrev pub drawn_of : ℕ → ℕ
drawn_of state = state / 2 ^ 33

-- the line of packet k of all, counted from 0, of this writer in this turn, where a number was drawn for it: a time that
-- rises by about 100, and a message with a letter up to 24 times over and with the number of the turn
unfoldable pub packet_line : ℕ → ℕ → ℕ → ℕ → List ℕ
packet_line k writer turn drawn =
    codes "p " ++ decimal writer ++ codes " 8:" ++ decimal (k * 100 + drawn % 100) ++ codes " 900{1:\""
    ++ ((97 + drawn / 24 % 26) ∷ []) ++ codes "\"*" ++ decimal (drawn % 24 + 1) ++ codes " 2:" ++ decimal turn ++ codes "}\n"

-- the lines of the first so many packets: the writers take turns, and each turn has a packet of each writer
unfoldable pub packet_lines : ℕ → ℕ → ℕ → List ℕ
packet_lines number writers zero = []
packet_lines number writers (suc k) =
    packet_lines number writers k ++ packet_line k (k % writers + 1) (k / writers + 1) (drawn_of (state_after number (suc k)))

-- a text so many times over
unfoldable pub repeated : ℕ → List ℕ → List ℕ
repeated zero text = []
repeated (suc n) text = repeated n text ++ text

-- the lines before the first packet: one large buffer, one producer, and writers that stall, so that no packet is lost
unfoldable pub set_up_lines : ℕ → List ℕ
set_up_lines writers = codes "buffer 65536 ring\nproducer 16 4096 14\n" ++ repeated writers (codes "writer 1 1 stall\n")

-- the scenario of a number, with so many writers and so many packets of each
abbrev pub workload : ℕ → ℕ → ℕ → List ℕ
workload number writers packets = set_up_lines writers ++ packet_lines number writers (packets * writers)

-- a piece was added behind a text
pub record IsAdded (old piece new : List ℕ) : Type 0 where
  pub text : new ≡ old ++ piece
