use Rattle.field_tree.proofs.SurveyLemmas.{survey_more}
use Rattle.field_tree.proofs.survey.Survey.add_node.Goals as goal

pub returns : goal.returns
returns c = λ nodes text counted here before.
    survey_more nodes (c.args.node, text) c.args.now c.args.len c.args.self.now _ here before counted c.note_reserved.ensures c.note_level.ensures c.saturating_add-self.ensures
