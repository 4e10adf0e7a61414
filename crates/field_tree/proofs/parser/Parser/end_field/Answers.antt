use Rattle.field_tree.specs.Judged.{level}
use Rattle.field_tree.specs.Views.{nodes_read, text_read}
use Rattle.field_tree.proofs.EndLemmas.{space_behind, brace_here, brace_behind}
use Rattle.field_tree.proofs.parser.Parser.end_field.Goals as goal

pub returns-then-byte-eq32-clause-next : goal.returns-then-byte-eq32-clause-next
returns-then-byte-eq32-clause-next c =
    let old = c.args.self.now in
    rw c.if-byte-eq32.true (space_behind (nodes_read old) old.depth (text_read old))

pub returns-clause-next : goal.returns-clause-next
unfolding level
returns-clause-next c =
    let old = c.args.self.now in
    let pushed = c.in_ok-push_end.ensures.pushed in
    let brace = brace_here old.depth c.args.byte c.requires.here c.if-byte-eq32.false in
    rw (pushed.0, pushed.1, pushed.2, c.requires.between, brace.1) (brace_behind (nodes_read old) old.depth brace.0)
