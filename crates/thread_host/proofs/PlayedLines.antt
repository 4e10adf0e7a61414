-- What a writer's lines ask of it, one by one.
use Rattle.std.proofs.Common.{◌≡◌, ℕ, Bool, true, false, List, [], ◌∷◌, ◌++◌, refl, sym, ap, subst, append-nil, append_assoc, ◌∙◌}
use Rattle.std.proofs.lemmas.Grind.{flat_map-append}
use Rattle.std.specs.Prelude.{cond, if◌then◌else◌}
use Rattle.std.specs.List.{flat_map}
use Rattle.atomic_table.specs.Seated.{TableId}
use Rattle.trace_model.specs.Calls.{Call}
use Rattle.chunk_words.specs.declared.host.HostTable.{HostTable}
use Rattle.scenario_text.specs.declared.scenario.LineKind.{LineKind}
use Rattle.scenario_text.specs.declared.scenario.LineKind.TheVariants as line
use Rattle.scenario_text.specs.declared.scenario.NumberedLine.{NumberedLine}
use Rattle.scenario_text.specs.Accepted.{named_calls, is_of, line_calls, calls_asked, own_kinds}
use Rattle.thread_writer.specs.declared.helper.Asks.{Asks}
use Rattle.thread_writer.specs.declared.writer.TraceWriter.{TraceWriter}
use Rattle.thread_host.specs.Playing.{IsGoing, WasAsked}
use Rattle.thread_host.proofs.Going.{asked_both}

-- what a line asks, where the line is known
pub line_asked : {H : Type 0} (helps : H → ℕ → Bool → H → Type 0) (of_table : H → TableId → Type 0) (table : HostTable) (help : Asks H) (writer : TraceWriter)
    (left : Asks H) (after : TraceWriter) (kind known : LineKind) → kind ≡ known
    → WasAsked helps of_table table (named_calls known) help writer left after → WasAsked helps of_table table (named_calls kind) help writer left after
line_asked helps of_table table help writer left after kind known is asked =
    subst (λ (k : LineKind). WasAsked helps of_table table (named_calls k) help writer left after) (sym is) asked

-- a line asks the writer with this number for its calls, if it is one of that writer, and else for none
calls_named : (number : ℕ) (kind : LineKind) → line_calls number kind ≡ (if is_of number kind then named_calls kind else [])
unfolding line_calls
calls_named number (line.Packet writer fields) = refl
calls_named number (line.Begin writer) = refl
calls_named number (line.Add writer fields) = refl
calls_named number (line.Nest writer field) = refl
calls_named number (line.Unnest writer) = refl
calls_named number (line.End writer) = refl
calls_named number (line.Flush writer) = refl
calls_named number (line.Collect producer) = refl
calls_named number (line.Scrape producer) = refl
calls_named number (line.Close producer) = refl
calls_named number (line.Read buffer limit) = refl
calls_named number line.Request = refl
calls_named number (line.CloneBuffer buffer) = refl
calls_named number (line.Raw writer chunk) = refl

-- ---- the lines of a writer

-- one line more, if it is the writer's
calls_more : (own : Bool) (kind : LineKind) (kinds : List LineKind) → flat_map named_calls (cond own (kind ∷ kinds) kinds)
    ≡ (if own then named_calls kind else []) ++ flat_map named_calls kinds
calls_more true kind kinds = refl
calls_more false kind kinds = refl

-- they ask it for all that all lines do
pub own_asked : (number : ℕ) (lines : List NumberedLine) → flat_map named_calls (own_kinds number lines) ≡ calls_asked number lines
own_asked number [] = refl
own_asked number (line ∷ lines) =
    calls_more (is_of number line.what) line.what (own_kinds number lines)
    ∙ ap (λ (calls : List Call). calls ++ flat_map named_calls (own_kinds number lines)) (sym (calls_named number line.what))
    ∙ ap (λ (calls : List Call). line_calls number line.what ++ calls) (own_asked number lines)

-- ---- the line that comes next

module _ {H : Type 0} (helps : H → ℕ → Bool → H → Type 0) (of_table : H → TableId → Type 0) (table : HostTable) (kind : LineKind) (others : List LineKind)
    (help : Asks H) (writer : TraceWriter)
  where
    pub line_next : (walk : List LineKind) → walk ≡ kind ∷ others → (place : ℕ) (asked coming : List Call)
        → IsGoing helps of_table table place asked (flat_map named_calls walk ++ coming) help writer
        → IsGoing helps of_table table place asked (named_calls kind ++ (flat_map named_calls others ++ coming)) help writer
    line_next walk is place asked coming going =
        subst (λ (calls : List Call). IsGoing helps of_table table place asked calls help writer)
        (append_assoc (named_calls kind) (flat_map named_calls others) coming)
        (subst (λ (kinds : List LineKind). IsGoing helps of_table table place asked (flat_map named_calls kinds ++ coming) help writer) is going)

    -- the lines up to it were played
    pub played_more : (before : List LineKind) (first : Asks H) (at_first : TraceWriter) (left : Asks H) (after : TraceWriter)
        → WasAsked helps of_table table (flat_map named_calls before) first at_first help writer
        → WasAsked helps of_table table (named_calls kind) help writer left after
        → WasAsked helps of_table table (flat_map named_calls (before ++ kind ∷ [])) first at_first left after
    played_more before first at_first left after played asked =
        subst (λ (calls : List Call). WasAsked helps of_table table calls first at_first left after)
        (sym (flat_map-append named_calls before (kind ∷ []) ∙ ap (λ (calls : List Call). flat_map named_calls before ++ calls) (append-nil (named_calls kind))))
        (asked_both helps of_table table (flat_map named_calls before) (named_calls kind) first help left at_first writer after played asked)
