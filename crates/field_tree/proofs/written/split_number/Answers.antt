use Rattle.field_tree.proofs.FirstLemmas.{split_found, split_none}
use Rattle.field_tree.proofs.written.split_number.Goals as goal

pub returns-in-Ok : goal.returns-in-Ok
returns-in-Ok c n rest fits cut = split_found c.args.bytes.now c.in-Ok.number c.in-Ok.width n rest c.in-Ok.ensures.found fits cut

pub returns-in-Err : goal.returns-in-Err
returns-in-Err c n rest fits cut = absurd (split_none c.args.bytes.now n rest c.in-Err.ensures.none fits cut)
