use Rattle.std.proofs.Common.{ap}
use Rattle.chunk_plain.specs.Views.{asked_in, ServiceView}
use Rattle.chunk_words_rows.proofs.OnePage.{one_page, none_taken_yet, neither_taken}
use Rattle.chunk_words_rows.proofs.threads.make.Goals as goal

pub returns-clause-page : goal.returns-clause-page
returns-clause-page c = one_page c.in_ok-host.host c.in_ok-geometry.geometry c.in_ok-host.ensures.setup c.in_ok-geometry.ensures.page_size c.in_ok-geometry.ensures.chunks

pub returns-clause-none_taken : goal.returns-clause-none_taken
returns-clause-none_taken c = none_taken_yet c.in_ok-host.host c.in_ok-host.service c.in_ok-geometry.geometry _ c.in_ok-host.ensures.setup c.in_ok-host.ensures.service_view

pub returns-clause-neither : goal.returns-clause-neither
returns-clause-neither c = neither_taken c.in_ok-host.host c.in_ok-host.service c.in_ok-geometry.geometry _ c.in_ok-host.ensures.setup c.in_ok-host.ensures.service_view

pub returns-clause-untouched : goal.returns-clause-untouched
returns-clause-untouched c = let first = c.in_ok-host.ensures.service_view in record {
  no_pass = c.in_ok-host.ensures.no_pass;
  none_noted = ap (λ (v : ServiceView). v.events) first;
  none_asked = ap (λ (v : ServiceView). asked_in v.letters) first;
}
