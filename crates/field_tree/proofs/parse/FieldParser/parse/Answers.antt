use Rattle.std.proofs.Common.{rules, Ok}
use Rattle.field_tree.specs.Answers.{Gives, outcome}
use Rattle.field_tree.specs.Found.{nodes_found}
use Rattle.field_tree.proofs.AnswerLemmas.{gives_parses}
use Rattle.field_tree.proofs.parse.FieldParser.parse.Goals as goal

pub returns-in_err-encoded-clause-means : goal.returns-in_err-encoded-clause-means
returns-in_err-encoded-clause-means c =
    let exact : Gives (nodes_found c.from_residual.result) (outcome c.args.depth c.args.text.now) = search rules in
    gives_parses c.args.depth c.args.text.now (nodes_found c.from_residual.result) exact

pub returns-clause-means : goal.returns-clause-means
returns-clause-means c =
    let exact : Gives (Ok c.new.result) (outcome c.args.depth c.args.text.now) = search rules in
    gives_parses c.args.depth c.args.text.now (Ok c.new.result) exact
