-- A workload is the scenario that it asks for.
use Rattle.std.proofs.Common.{◌≡◌, ℕ, zero, suc, ◌+◌, ◌-◌, ◌*◌, ◌≤◌, nat_eq, Bool, true, false, cond, None, Ok, List, [], ◌∷◌, slice_get, refl, sym, ap, ◌∙◌, arith}
use Rattle.std.specs.Prelude.{unwrap_or}
use Rattle.std.proofs.lemmas.List.{append-nil}
use Rattle.trace_base.specs.declared.limits.TheConstants.{MAX_GENERATED_PACKETS, MAX_GENERATED_WRITERS}
use Rattle.trace_base.specs.declared.policy.WriterSpec.{WriterSpec}
use Rattle.trace_base.specs.declared.numeral.Numeral.TheVariants.{Fits}
use Rattle.scenario_text.specs.Pieces.{pieces}
use Rattle.scenario_text.specs.Items.{item}
use Rattle.scenario_text.specs.State.{State, beginning, packet_of}
use Rattle.scenario_text.specs.Grammar.{after_lines, at_end, earlier, first_left, line_left, state_after, unless_left}
use Rattle.scenario_text.specs.Scenario.{said, scenario_of}
use Rattle.workload_gen.specs.Workload.{workload}
use Rattle.workload_laws.specs.Asked.{workload_asked}
use Rattle.workload_laws.proofs.WalkLemmas.{Leads, leads_further}
use Rattle.workload_laws.proofs.SetUpLemmas.{none_begun, set_up_leads}
use Rattle.workload_laws.proofs.LineLemmas.{between_lines, packets_lead}

-- ---- no packet is left

get_none : (writers i : ℕ) → unwrap_or (slice_get (none_begun writers) i) None ≡ None
get_none zero i = refl
get_none (suc writers) zero = refl
get_none (suc writers) (suc i) = get_none writers i

none_by : (zero_is : Bool) (writers i : ℕ) → unwrap_or (cond zero_is None (slice_get (none_begun writers) i)) None ≡ None
none_by true writers i = refl
none_by false writers i = get_none writers i

none_of : (number writers packet writer : ℕ) → packet_of (between_lines number writers packet) (Fits writer) ≡ None
unfolding packet_of item
none_of number writers packet writer = none_by (nat_eq writer 0) writers (writer - 1)

none_left : (state : State) (writers : List WriterSpec) (number : ℕ) → ((writer : ℕ) → packet_of state (Fits writer) ≡ None)
    → first_left state None number writers ≡ None
unfolding first_left earlier line_left
none_left state [] number none = refl
none_left state (writer ∷ writers) number none = rw (none number) (none_left state writers (number + 1) none)

ends : (number writers packet : ℕ) → at_end (between_lines number writers packet) ≡ Ok (between_lines number writers packet)
unfolding at_end unless_left
ends number writers packet =
    rw (none_left (between_lines number writers packet) (between_lines number writers packet).writers 1 (none_of number writers packet)) refl

-- ---- the whole text

all_lead : (number writers packets : ℕ) → writers ≤ MAX_GENERATED_WRITERS → packets ≤ MAX_GENERATED_PACKETS
    → state_after (workload number writers packets) ≡ Ok (between_lines number writers (packets * writers))
unfolding state_after after_lines
all_lead number writers packets few many =
    let text = workload number writers packets in
    let leads : Leads beginning 1 text (between_lines number writers (packets * writers)) (writers + 3 + packets * writers) =
    leads_further (set_up_leads writers few) (packets_lead number writers packets (packets * writers) few many (omega arith)) in
    ap (λ (all : List ℕ). after_lines beginning 1 (pieces 10 all)) (sym (append-nil text))
    ∙ leads.on []
    ∙ ends number writers (packets * writers)

pub workload_is_scenario : (number writers packets : ℕ) → writers ≤ MAX_GENERATED_WRITERS → packets ≤ MAX_GENERATED_PACKETS
    → scenario_of (workload number writers packets) ≡ Ok (workload_asked number writers packets)
unfolding scenario_of said
workload_is_scenario number writers packets few many = ap said (all_lead number writers packets few many)
