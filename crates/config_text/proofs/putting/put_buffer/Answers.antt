use Rattle.std.proofs.Common.{◌≡◌, ◌∙◌, List, ℕ, ◌++◌, OnErr, ap, subst}
use Rattle.std.specs.Prelude.{codes}
use Rattle.byte_io.specs.Bytes.{TakesPart}
use Rattle.config_text.specs.Writing.{numbered, buffer_line}
use Rattle.config_text.proofs.putting.put_buffer.Goals as goal

pub returns-clause-part : goal.returns-clause-part
returns-clause-part g c =
    let taken = g.O.Sink.taken in
    let buffer = c.args.buffer.now in
    let size : c.deref.result.now ≡ numbered (codes "buffers { size_kb: ") buffer.size_kb (codes " fill_policy: ") = c.deref.ensures.0 ∙ c.numbered-size.ensures in
    let line : c.deref.result.now ++ c.policy_end.result.now ≡ buffer_line buffer =
    ap (λ (bytes : List ℕ). bytes ++ c.policy_end.result.now) size
    ∙ ap (λ (bytes : List ℕ). numbered (codes "buffers { size_kb: ") buffer.size_kb (codes " fill_policy: ") ++ bytes) c.policy_end.ensures in
    let P : List ℕ → Type 0 = λ bytes. OnErr c.put_two.result (TakesPart (taken c.args.out.now) (taken c.put_two.new.out) bytes) in
    subst P line c.put_two.ensures.part
