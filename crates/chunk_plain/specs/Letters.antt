-- What flush requests and their answers say in the views of the seats, and what each step on them does to a view. A writer hears of requests
-- by their number, and answers with the number of the last one, which is an answer to all before it too.
use Rattle.std.specs.Prelude.{◌≡◌, ℕ, ◌-◌, ◌^◌, ◌<◌, ◌≤◌, List, [], ◌∷◌, ◌++◌, length, slice_index_or}
use Rattle.chunk_plain.specs.Views.{At, Ask, Reply, WriterView, Asked, Heard, asked_in, ServiceView}
use Rattle.chunk_plain.specs.World.{World, writer}

-- the answer of a writer that gave none
abbrev pub no_reply : Reply
no_reply = record { flush = 0; chunks = 0; calls = 0 }

-- the last of some answers
abbrev pub last_reply : List Reply → Reply
last_reply replies = slice_index_or replies (length replies - 1) no_reply

-- the number in it, which is 0 without one
abbrev pub last_flush : List Reply → ℕ
last_flush replies = (last_reply replies).flush

-- the writer has noted a call since its last claim
abbrev pub NoClaimSince : WriterView → Type 0
NoClaimSince view = (i : ℕ) (ask : Ask) → At view.asked i ask → ask.calls < length view.calls

-- the answer is to a request that the writer knew of, and counts no more chunks and calls than it began and noted
pub record IsReply (view : WriterView) (one : Reply) : Type 0 where
  pub some : 0 < one.flush
  pub known : one.flush ≤ view.letters.known
  pub small : one.chunks < 2 ^ 32
  pub chunks : one.chunks ≤ length view.begun
  pub calls : one.calls ≤ length view.calls

-- the answers are to rising requests
pub record AreAnswers (view : WriterView) : Type 0 where
  pub rising : (n m : ℕ) (one other : Reply) → n < m → At view.letters.answers n one → At view.letters.answers m other
      → one.flush < other.flush
  pub each : (n : ℕ) (one : Reply) → At view.letters.answers n one → IsReply view one

-- among the answers is this one
abbrev pub HasAnswered : List Reply → (flush chunks : ℕ) → Type 0
HasAnswered answers flush chunks = (m : ℕ) × (one : Reply) × At answers m one × (one.flush ≡ flush) × (one.chunks ≡ chunks)

-- No writer knows of a request that wasn't made, and each answer that the service read was given.
pub record AreLetters (world : World) : Type 0 where
  pub known : (place : ℕ) → (writer world place).letters.known ≤ asked_in world.service.letters
  pub answers : (place : ℕ) → AreAnswers (writer world place)
  pub heard : (n place flush chunks : ℕ) → At world.service.letters n (Heard place flush chunks) → 0 < flush
      → HasAnswered (writer world place).letters.answers flush chunks

-- The steps

-- the writer knows of so many requests
abbrev pub knows_request : WriterView → ℕ → WriterView
knows_request view number = record view { letters = record view.letters { known = number } }

-- it answers the request with this number and those before it, with so many chunks
abbrev pub answers_with : WriterView → (flush chunks : ℕ) → WriterView
answers_with view flush chunks = record view {
  letters = record view.letters { answers = view.letters.answers ++ record { flush = flush; chunks = chunks; calls = length view.calls } ∷ [] };
}

-- the service makes the next request, behind all that it noted by then
abbrev pub requests : ServiceView → ServiceView
requests view = record view { letters = view.letters ++ Asked (length view.events) ∷ [] }

-- it reads this answer of the writer at this place
abbrev pub hears_answer : ServiceView → (place flush chunks : ℕ) → ServiceView
hears_answer view place flush chunks = record view { letters = view.letters ++ Heard place flush chunks ∷ [] }
