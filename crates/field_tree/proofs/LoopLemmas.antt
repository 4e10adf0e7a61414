-- What a reading of the bytes in front of a text says of those behind them.
use Rattle.std.proofs.Common.{◌≡◌, ℕ, ◌+◌, ◌-◌, ◌≤◌, Bool, true, false, ◌==◌, if◌then◌else◌, Option, Some, None, Err, List, [], ◌∷◌, ◌++◌, length, length-append, ap, subst, refl, arith, ◌∙◌, append-nil}
use Rattle.field_tree.specs.declared.mode.Mode.TheVariants.{After}
use Rattle.field_tree.specs.declared.parser.Parser.{Parser}
use Rattle.field_tree.specs.Nodes.{Shown}
use Rattle.field_tree.specs.Machine.{TextReading, next, run, settled, finish, beginning, taken_back, at_end, nodes_or_column, IsValid}
use Rattle.field_tree.specs.Scanning.{RunsOver}
use Rattle.field_tree.specs.Views.{nodes_read, reading, Ends}
use Rattle.field_tree.proofs.Completes.{valid_here}
use Rattle.field_tree.proofs.Cuts.{depth_within}
use Rattle.field_tree.proofs.Faults.{back_within}
use Rattle.field_tree.proofs.Outcomes.{outcome_refused, outcome_end}
use Rattle.field_tree.proofs.ScanLemmas.{stays_here, over_front, over_both}

both_long : (text front rest : List ℕ) → text ≡ front ++ rest → length text ≡ length front + length rest
both_long text front rest cut = ap length cut ∙ length-append front rest

-- over more bytes, where what is left then is known
pub reads_on : (text rest left end : List ℕ) (r q : TextReading) → RunsOver beginning text r rest → RunsOver r rest q left → left ≡ end
    → RunsOver beginning text q end
reads_on text rest left end r q given more is =
    subst (λ (w : List ℕ). RunsOver beginning text q w) is (over_both beginning r q text rest left given more)

pub depth_before : (text rest : List ℕ) (r : TextReading) → RunsOver beginning text r rest → r.depth ≤ length text
depth_before text rest r given = omega (arith, depth_within given.0 r given.2, both_long text given.0 rest given.1)

pub valid_before : (text rest : List ℕ) (r : TextReading) → RunsOver beginning text r rest → IsValid r.mode r.text
valid_before text rest r given = valid_here given.0 r given.2

pub back_before : (text rest : List ℕ) (b : ℕ) (r : TextReading) → RunsOver beginning text r (b ∷ rest) → next r b ≡ None
    → length rest + length (taken_back r.mode b) ≤ length text
back_before text rest b r given refused =
    omega (arith, back_within given.0 b r given.2 refused, both_long text given.0 (b ∷ rest) given.1)

pub read_more : (text rest : List ℕ) (b : ℕ) (r q : TextReading) → RunsOver beginning text r (b ∷ rest) → next r b ≡ Some q → RunsOver beginning text q rest
read_more text rest b r q given goes =
    over_both beginning r q text (b ∷ rest) rest given (over_front b r q q (b ∷ rest) rest rest refl goes (stays_here q rest))

pub refused_at : (text rest : List ℕ) (b : ℕ) (r : TextReading) → RunsOver beginning text r (b ∷ rest) → next r b ≡ None
    → nodes_or_column text ≡ Err (length text - length rest - length (taken_back r.mode b))
refused_at text rest b r given refused =
    let long = both_long text given.0 (b ∷ rest) given.1 in
    let column : length given.0 + 1 - length (taken_back r.mode b) ≡ length text - length rest - length (taken_back r.mode b) = omega (arith, long) in
    ap nodes_or_column given.1 ∙ outcome_refused given.0 b rest r given.2 refused ∙ ap Err column

ends_where : (test : Bool) (ns : List Shown) (p : Parser) → ns ≡ nodes_read p → Ends test (if test then Some ns else None) p
ends_where true ns p same = ap Some same
ends_where false ns p same = refl

-- a text ends behind a field that has ended, where no message is open
pub after_ends : (p : Parser) → Ends (p.depth == 0) (finish (reading p After)) p
unfolding finish settled
after_ends p = ends_where (p.depth == 0) (nodes_read p) p refl

pub ends_at : (text : List ℕ) (r : TextReading) (o : Option (List Shown)) → RunsOver beginning text r [] → finish r ≡ o
    → nodes_or_column text ≡ at_end (length text) o
ends_at text r o given ends =
    outcome_end text r o (ap (run beginning) (given.1 ∙ append-nil given.0) ∙ given.2) ends
