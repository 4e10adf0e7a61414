use Rattle.std.proofs.Common.{◌≡◌, ℕ, ◌∷◌, true, Some, ap, ◌∙◌}
use Rattle.field_tree.specs.declared.mode.Mode.TheVariants.{Start, Field}
use Rattle.field_tree.specs.Judged.{level}
use Rattle.field_tree.specs.Machine.{next}
use Rattle.field_tree.specs.Views.{reading, nodes_read}
use Rattle.field_tree.proofs.EndLemmas.{brace_opens}
use Rattle.field_tree.proofs.ScanLemmas.{stays_here, over_front}
use Rattle.field_tree.proofs.parser.Parser.read_begin.Goals as goal

pub returns-in_ok-push_begin-in-Some-eq123-default-clause-over : goal.returns-in_ok-push_begin-in-Some-eq123-default-clause-over
unfolding level
returns-in_ok-push_begin-in-Some-eq123-default-clause-over c =
    let old = c.args.self.now in
    let brace = c.in-Some-eq123-default in
    let pushed = c.in_ok-push_begin-in-Some-eq123-default.ensures.pushed in
    let to = reading c.push_begin.new.self (Start true) in
    let goes : next (reading old (Field c.args.field)) 123 ≡ Some to =
    rw (pushed.0, pushed.1, pushed.2, c.requires.between) (brace_opens (nodes_read old) old.depth c.args.field) in
    over_front 123 (reading old (Field c.args.field)) to to c.args.bytes.now brace.behind.now brace.behind.now
    (brace.ensures ∙ ap (λ (b : ℕ). b ∷ brace.behind.now) brace.field-0-0-test) goes (stays_here to brace.behind.now)

pub returns-in_default-clause-over : goal.returns-in_default-clause-over
returns-in_default-clause-over c = stays_here (reading c.args.self.now (Field c.args.field)) c.args.bytes.now
