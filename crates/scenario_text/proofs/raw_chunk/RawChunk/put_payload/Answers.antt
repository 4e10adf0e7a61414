use Rattle.std.proofs.Common.{◌∙◌, ◌++◌, List, ℕ, length, drop, ap, arith}
use Rattle.scenario_text.specs.RawForms.{payload_part}
use Rattle.scenario_text.proofs.RawLemmas.{payload_in}
use Rattle.scenario_text.proofs.raw_chunk.RawChunk.put_payload.Goals as goal

pub put_hex-requires : goal.put_hex-requires
put_hex-requires c =
    let same = payload_in c.self.inside.text.now c.args.self.now c.self.invariant c.self.view_is in
    (payload_part c.self.inside.text.now, c.payload_word.ensures, omega (arith, ap (λ (bytes : List ℕ). length bytes) same, c.requires))

pub returns : goal.returns
returns c =
    c.put_hex.ensures (payload_part c.self.inside.text.now) c.payload_word.ensures
    ∙ ap (λ (bytes : List ℕ). bytes ++ drop (length bytes) c.args.room.now)
    (payload_in c.self.inside.text.now c.args.self.now c.self.invariant c.self.view_is)
