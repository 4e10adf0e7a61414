-- A worked history that meets all that the laws on reports ask for: the second of two packets runs on into a chunk that a
-- discard buffer refuses.
use Rattle.std.specs.Prelude.{[], ◌∷◌, ◌++◌}
use Rattle.trace_model.specs.Sequences.{fresh}
use Rattle.trace_model.specs.WorkedRows.{halved_calls, halved_pages, taken, ended}
use Rattle.model_laws.specs.OutcomeLaws.{IsHistoryOf}

-- a history that meets what the laws on reports ask
abbrev pub WorkedReport : Type 0
WorkedReport =
    IsHistoryOf 2036 halved_calls halved_pages (fresh 2 2064 0 ∷ fresh 3 2064 0 ∷ []) 2 2064 (taken 2 0 halved_pages ++ ended)
