use Rattle.std.proofs.Common.{◌∙◌, ℕ, ◌+◌, ◌*◌, ◌≤◌, length, ap, arith}
use Rattle.std.specs.List.{repeat}
use Rattle.std.specs.Prelude.{vec_len}
use Rattle.trace_model.specs.Encoding.{bytes_head}
use Rattle.trace_model.proofs.EncodingLemmas.{length-repeat}
use Rattle.trace_writer.proofs.packets.InPlace.{put_both}
use Rattle.trace_writer.proofs.fragment.OpenFragment.put_whole.Goals as goal

pub returns-clause-bytes : goal.returns-clause-bytes
returns-clause-bytes c = λ _.
    let old = c.args.self.now in let head = bytes_head c.args.field c.args.len in let text = c.args.text.now in
    let fits : old.at + length head + c.args.times * length text ≤ vec_len old.held.body.payload = omega (arith, c.requires.size) in
    put_both old c.put_head.new.self c.put_text.new.self head (repeat c.args.times text) (omega (arith, fits, length-repeat c.args.times text))
    (c.put_head.ensures.at ∙ ap (λ (n : ℕ). old.at + n) c.requires.size) c.put_head.ensures.bytes c.put_text.ensures.bytes
