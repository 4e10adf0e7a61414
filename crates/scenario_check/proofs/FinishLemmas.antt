-- The packets of an emitter that has taken all lines.
use Rattle.std.proofs.Common.{◌≡◌, ◌∙◌, ℕ, ◌≤◌, List, [], ◌∷◌, length, ap, arith, length-append}
use Rattle.trace_model.specs.Packets.{Account, emissions_in}
use Rattle.packet_runs.specs.Pieces.{pieces, AreEnds}
use Rattle.packet_runs.proofs.PieceLemmas.{many}
use Rattle.emitted_packets.specs.declared.emitter.Emitter.{Emitter}
use Rattle.emitted_packets.proofs.EmitLemmas.{pieces_append}
use Rattle.scenario_check.specs.Progress.{Holds}

rising_more : (size more start : ℕ) (ends : List ℕ) → size ≤ more → AreEnds size start ends → AreEnds more start ends
rising_more size more start [] low rising = tt
rising_more size more start (end ∷ ends) low rising = (rising.0, omega (arith, rising.1, low), rising_more size more end ends low rising.2)

pub finish_rising : (account : Account) (emitter : Emitter) → Holds account emitter → AreEnds (length emitter.bytes.items) 0 emitter.ends.items
finish_rising account emitter holds =
    rising_more (length holds.done) (length emitter.bytes.items) 0 emitter.ends.items
    (omega (arith, ap length holds.cut, length-append holds.done holds.current)) holds.rising

pub finish_is : (account : Account) (emitter : Emitter) (packets : List (List ℕ)) → packets ≡ pieces emitter.bytes.items 0 emitter.ends.items → Holds account emitter
    → packets ≡ emissions_in account.packets
finish_is account emitter packets is holds =
    is ∙ ap (λ (bytes : List ℕ). pieces bytes 0 emitter.ends.items) holds.cut
    ∙ pieces_append holds.done holds.current 0 emitter.ends.items (omega arith) holds.rising ∙ holds.finished

pub finish_many : (emitter : Emitter) (packets : List (List ℕ)) → packets ≡ pieces emitter.bytes.items 0 emitter.ends.items
    → length packets ≡ length emitter.ends.items
finish_many emitter packets is = ap length is ∙ many emitter.bytes.items 0 emitter.ends.items
