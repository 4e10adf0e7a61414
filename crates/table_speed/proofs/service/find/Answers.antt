use Rattle.std.proofs.Common.{◌∙◌, sym, ap, subst}
use Rattle.chunk_plain.specs.Views.{ServiceView, taken_of}
use Rattle.chunk_plain.specs.Words.{AllArrived}
use Rattle.table_speed.proofs.service.find.Goals as goal

-- a look changes none of it
pub returns-clause-none : goal.returns-clause-none
returns-clause-none c =
    let look = c.look.ensures.view in
    record {
      all = λ place. ap (λ (v : ServiceView). (taken_of v place).count) look.view;
      none_out = ap (λ (v : ServiceView). v.reading) look.view ∙ c.requires.none_out;
      arrived = subst AllArrived (sym look.view) c.requires.arrived;
    }
