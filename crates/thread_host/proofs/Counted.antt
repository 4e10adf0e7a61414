-- How often a helper was asked, and how many flush requests lines make.
use Rattle.std.proofs.Common.{◌≡◌, ◌≤◌, ◌+◌, ◌-◌, ℕ, suc, List, [], ◌∷◌, ◌++◌, refl, arith}
use Rattle.trace_model.specs.Counts.{raised, last_count}
use Rattle.scenario_text.specs.declared.scenario.LineKind.{LineKind}
use Rattle.scenario_text.specs.declared.scenario.LineKind.TheVariants.{Packet, Begin, Add, Nest, Unnest, End, Flush, Collect, Scrape, Close, Read, Request, CloneBuffer, Raw}
use Rattle.scenario_text.specs.declared.scenario.NumberedLine.{NumberedLine}
use Rattle.replay_model.specs.Flushes.{request_count, requests_in}

-- Of the turns that a helper has at most, one more is gone.
pub raised_once : (left after : ℕ) → left ≡ suc after → left ≤ last_count → last_count - after ≡ raised (last_count - left) 1
raised_once left after is most = omega (arith, is, most)

-- ---- requests

pub requests_both : (before later : List NumberedLine) → requests_in (before ++ later) ≡ requests_in before + requests_in later
requests_both [] later = omega arith
requests_both (line ∷ before) later = let rest = requests_both before later in omega (arith, rest)

pub requests_more : (before : List NumberedLine) (line : NumberedLine) → requests_in (before ++ line ∷ []) ≡ requests_in before + request_count line.what
requests_more before line = let both = requests_both before (line ∷ []) in omega (arith, both)

-- A line that makes no flush request counts none.
pub none_requested : (line : LineKind) → (line ≡ Request → ⊥) → request_count line ≡ 0
none_requested (Packet writer fields) not = refl
none_requested (Begin writer) not = refl
none_requested (Add writer fields) not = refl
none_requested (Nest writer field) not = refl
none_requested (Unnest writer) not = refl
none_requested (End writer) not = refl
none_requested (Flush writer) not = refl
none_requested (Collect producer) not = refl
none_requested (Scrape producer) not = refl
none_requested (Close producer) not = refl
none_requested (Read buffer limit) not = refl
none_requested Request not = absurd (not refl)
none_requested (CloneBuffer buffer) not = refl
none_requested (Raw writer chunk) not = refl
