use Rattle.text_form.proofs.FieldLemmas.{lead_item}
use Rattle.text_form.proofs.reader.first_item.Goals as goal

pub returns-then-is_name_start-clause-read : goal.returns-then-is_name_start-clause-read
returns-then-is_name_start-clause-read c =
    lead_item _ _ _ _ _ _ _ _ _ c.in_ok-there.ensures.passes (c.in_ok-field.ensures.read c.args.depth)
