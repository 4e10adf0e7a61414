-- What came of a source so far, and what a text says by it.
use Rattle.std.proofs.Common.{◌≡◌, ℕ, ◌+◌, ◌<◌, ◌≤◌, List, [], ◌++◌, length, Option, Some, None, Err, Result, IfSome, IsErrOf, refl, sym, ap, subst, ◌∙◌, arith, append_assoc}
use Rattle.std.proofs.lemmas.Grind.{common_steps}
use Rattle.std.proofs.lemmas.List.{append-nil, length-append}
use Rattle.trace_base.specs.declared.limits.TheConstants.{MAX_INPUT}
use Rattle.byte_io.specs.Bytes.{before_told, GivesAtMost}
use Rattle.byte_io.proofs.Told.{all_came, before_told_again, gives_at_most, gives_more}
use Rattle.scenario_text.specs.declared.reason.Reason.{Reason}
use Rattle.scenario_text.specs.declared.reason.ScenarioFault.{ScenarioFault}
use Rattle.scenario_text.specs.declared.scenario.Scenario.{Scenario}
use Rattle.scenario_text.specs.declared.scenario_reader.ScenarioReader.{ScenarioReader}
use Rattle.scenario_text.specs.Scenario.{GivesScenario, Parts, scenario_of}
use Rattle.scenario_text.specs.Behind.{line_bound, says_behind, RefusedBy}
use Rattle.scenario_text.proofs.BehindLemmas.{by_fault}
use Rattle.scenario_input.specs.Taken.{IsReadOf}

-- so many bytes came of a source, and this is how a text says on that begins with them
pub record HasCome (old new : Option (List ℕ)) (count : ℕ) (reader : ScenarioReader) : Type 0 where
  pub came : List ℕ
  pub given : old ≡ before_told came new
  pub long : length came ≡ count
  pub says : (more : List ℕ) → scenario_of (came ++ more) ≡ says_behind reader more
  pub bound : line_bound reader ≤ count + 1

none_told : (left : Option (List ℕ)) → left ≡ before_told [] left
none_told None = refl
none_told (Some left) = refl

-- before the first piece
pub none_came : (left : Option (List ℕ)) (reader : ScenarioReader) → ((text : List ℕ) → says_behind reader text ≡ scenario_of text)
    → line_bound reader ≡ 1 → HasCome left left 0 reader
none_came left reader starts bound = record {
  came = [];
  given = none_told left;
  long = refl;
  says = λ more. sym (starts more);
  bound = omega (arith, bound);
}

-- one piece more
pub piece_came : (old mid new : Option (List ℕ)) (count : ℕ) (reader after : ScenarioReader) (piece : List ℕ) → HasCome old mid count reader
    → mid ≡ before_told piece new → ((more : List ℕ) → says_behind reader (piece ++ more) ≡ says_behind after more)
    → line_bound after ≤ line_bound reader + length piece → HasCome old new (count + length piece) after
piece_came old mid new count reader after piece has more goes bound = record {
  came = has.came ++ piece;
  given = has.given ∙ ap (before_told has.came) more ∙ before_told_again has.came piece new;
  long = omega (arith, has.long, length-append has.came piece);
  says = λ others. ap scenario_of (append_assoc has.came piece others) ∙ has.says (piece ++ others) ∙ goes others;
  bound = omega (arith, has.bound, bound);
}

-- no more came, and the source is at its end
pub ended : (mid new : Option (List ℕ)) (piece : List ℕ) → mid ≡ before_told piece new → length piece ≡ 0 → IfSome new (λ left. left ≡ [])
    → IfSome mid (λ left. left ≡ [])
ended mid None piece given none end = let P : Option (List ℕ) → Type 0 = λ told. IfSome told (λ left. left ≡ []) in subst P (sym given) tt
ended mid (Some rest) piece given none end = let P : Option (List ℕ) → Type 0 = λ told. IfSome told (λ left. left ≡ []) in
    subst P (sym given) (grind (arith, common_steps))

-- at the end of the source
pub all_is_read : (old new : Option (List ℕ)) (count : ℕ) (reader : ScenarioReader) (said : Result Scenario ScenarioFault) → HasCome old new count reader
    → IfSome new (λ left. left ≡ []) → count ≤ MAX_INPUT → GivesScenario said (says_behind reader []) → IsReadOf old said
all_is_read old new count reader said has end short gives = record {
  text = has.came;
  all = all_came has.came old new has.given end;
  short = omega (arith, has.long, short);
  says = subst (λ (given : Result Parts (ℕ × Reason)). GivesScenario said given) (sym (has.says []) ∙ ap scenario_of (append-nil has.came)) gives;
}

-- so many bytes came of a source
pub record HasGiven (old new : Option (List ℕ)) (count : ℕ) : Type 0 where
  pub bytes : List ℕ
  pub given : old ≡ before_told bytes new
  pub long : length bytes ≡ count

-- with the piece that came last
pub given_with : (old mid left : Option (List ℕ)) (count : ℕ) (reader : ScenarioReader) (piece : List ℕ) → HasCome old mid count reader
    → mid ≡ before_told piece left → HasGiven old left (count + length piece)
given_with old mid left count reader piece has more = record {
  bytes = has.came ++ piece;
  given = has.given ∙ ap (before_told has.came) more ∙ before_told_again has.came piece left;
  long = omega (arith, has.long, length-append has.came piece);
}

pub at_most_given : (old left : Option (List ℕ)) (count most : ℕ) → HasGiven old left count → count ≤ most → GivesAtMost most old left
at_most_given old left count most has within = gives_at_most most has.bytes old left has.given (omega (arith, has.long, within))

-- and with what comes behind
pub at_most_behind : (old left new : Option (List ℕ)) (count more most : ℕ) → HasGiven old left count → GivesAtMost more left new → count + more ≤ most
    → GivesAtMost most old new
at_most_behind old left new count more most has gives within =
    gives_more most has.bytes gives.bytes old left new has.given gives.given (omega (arith, has.long, gives.within, within))

longer_by : (old left : Option (List ℕ)) (bytes : List ℕ) (more most : ℕ) → old ≡ before_told bytes left → IfSome left (λ told. more < length told)
    → most ≤ length bytes + more → IfSome old (λ told. most < length told)
longer_by old None bytes more most given long within = let P : Option (List ℕ) → Type 0 = λ told. IfSome told (λ all. most < length all) in subst P (sym given) tt
longer_by old (Some told) bytes more most given long within = let P : Option (List ℕ) → Type 0 = λ told. IfSome told (λ all. most < length all) in
    subst P (sym given) (omega (arith, length-append bytes told, long, within))

-- more came, or would come, than an input may have
pub longer_behind : (old left : Option (List ℕ)) (count more most : ℕ) → HasGiven old left count → IfSome left (λ told. more < length told)
    → most ≤ count + more → IfSome old (λ told. most < length told)
longer_behind old left count more most has long within = longer_by old left has.bytes more most has.given long (omega (arith, has.long, within))

told_behind : (old left : Option (List ℕ)) (first rest : List ℕ) → old ≡ before_told first left → IfSome left (λ told. rest ≡ told)
    → IfSome old (λ told. first ++ rest ≡ told)
told_behind old None first rest given is = let P : Option (List ℕ) → Type 0 = λ told. IfSome told (λ all. first ++ rest ≡ all) in subst P (sym given) tt
told_behind old (Some told) first rest given is = let P : Option (List ℕ) → Type 0 = λ told. IfSome told (λ all. first ++ rest ≡ all) in
    subst P (sym given) (ap (λ behind. first ++ behind) is)

-- at the end of the source, where a line was refused before
pub refused_is_read : (old mid left : Option (List ℕ)) (count : ℕ) (reader : ScenarioReader) (fault : ScenarioFault) (piece rest : List ℕ)
    → HasCome old mid count reader → mid ≡ before_told piece left → IfSome left (λ told. rest ≡ told)
    → ((more : List ℕ) → RefusedBy fault (says_behind reader (piece ++ more))) → count + length piece + length rest ≤ MAX_INPUT → IsReadOf old (Err fault)
unfolding given_with
refused_is_read old mid left count reader fault piece rest has more all refused short =
    let has_given = given_with old mid left count reader piece has more in
    let text : List ℕ = has_given.bytes ++ rest in
    let said : scenario_of text ≡ says_behind reader (piece ++ rest) = ap scenario_of (append_assoc has.came piece rest) ∙ has.says (piece ++ rest) in
    record {
      text = text;
      all = told_behind old left has_given.bytes rest has_given.given all;
      short = omega (arith, has_given.long, length-append has_given.bytes rest, short);
      says = by_fault fault (scenario_of text) (subst (λ (given : Result Parts (ℕ × Reason)). RefusedBy fault given) (sym said) (refused rest));
    }

-- an error of one answer is that of another
pub err_again : {T U E : Type 0} (a b : E) → IsErrOf {T = T} {E = E} (Err a) b → IsErrOf {T = U} {E = E} (Err a) b
err_again a b is = let same : a ≡ b = cc in ap Err same
