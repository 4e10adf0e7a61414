-- What the tellers of all sequences have taken.
use Rattle.std.specs.Prelude.{◌≡◌, ℕ, ◌+◌, ◌^◌, ◌<◌, ◌≤◌, List, [], ◌∷◌, length, All, Some, slice_get}
use Rattle.trace_model.specs.Delivery.{Delivered, records_of, sequence_of}
use Rattle.trace_file.specs.Apart.{SaysPacket, SaysOnly}
use Rattle.packet_runs.specs.Runs.{Said}
use Rattle.packet_runs.specs.Tellers.{IsAfter, IsReady}
use Rattle.packet_runs.specs.declared.teller.Teller.{Teller}

-- each record says its packet and mark, and no other
abbrev pub AllSay : ℕ → List (List ℕ) → List Said → Type 0
AllSay sequence [] [] = Unit {0}
AllSay sequence (bytes ∷ records) (said ∷ others) =
    SaysPacket bytes sequence said.packet said.marked × SaysOnly bytes sequence said.packet said.marked × AllSay sequence records others
AllSay sequence records said = ⊥

-- a teller of a writer's packets has taken what the records of its sequence say
pub record HasTaken (packets : List (List ℕ)) (sequence : ℕ) (records : List (List ℕ)) (teller : Teller) : Type 0 where
  pub said : List Said
  pub all : AllSay sequence records said
  pub after : IsAfter packets said teller.place teller.len
  pub ready : IsReady packets teller.place teller.len teller.borders.items

-- each teller has taken the records of its sequence, and there are no others
pub record AllTaken (emitted : List (List (List ℕ))) (delivered : List Delivered) (tellers : List Teller) : Type 0 where
  pub many : length tellers ≡ length emitted
  pub known : All (λ d. (2 ≤ d.sequence) × (d.sequence < sequence_of (length emitted))) delivered
  pub each : (writer : ℕ) (packets : List (List ℕ)) (teller : Teller) → slice_get emitted writer ≡ Some packets
      → slice_get tellers writer ≡ Some teller
      → HasTaken packets (sequence_of writer) (records_of (sequence_of writer) delivered) teller

-- each writer has so few packets that their numbers fit
abbrev pub AreFew : List (List (List ℕ)) → Type 0
AreFew emitted = (writer : ℕ) (packets : List (List ℕ)) → slice_get emitted writer ≡ Some packets → length packets + 1 < 2 ^ 32
