use Rattle.std.proofs.Common.{◌≡◌, ◌+◌, ◌-◌, ◌<◌, ◌≤◌, List, ℕ, length, take, subst, ◌∙◌, arith, rules}
use Rattle.std.proofs.lemmas.Grind.{common_steps}
use Rattle.trace_base.specs.declared.limits.TheConstants.{MAX_INPUT}
use Rattle.scenario_input.proofs.Come.{HasCome, all_is_read, at_most_behind, at_most_given, ended, err_again, given_with, longer_behind, piece_came, refused_is_read}
use Rattle.scenario_input.proofs.take.take_scenario.Goals as goal

pub returns-in-Ok-eq0-clause-all : goal.returns-in-Ok-eq0-clause-all
returns-in-Ok-eq0-clause-all g c =
    let piece : List ℕ = take c.in-Ok-eq0.field-0 c.read.new.into in
    let none : length piece ≡ 0 = grind (arith, common_steps, c.in-Ok-eq0.field-0-test) in
    let some : 0 < length c.read.new.into = search rules in
    all_is_read (g.S.Source.left c.args.input.now) (g.S.Source.left c.pieces.input) c.pieces.count c.pieces.reader c.finish.result c.pieces.invariant.0
    (ended (g.S.Source.left c.pieces.input) (g.S.Source.left c.read.new.self) piece c.in-Ok-eq0.ensures.bytes none (c.in-Ok-eq0.ensures.end c.in-Ok-eq0.field-0-test some))
    c.pieces.invariant.2 c.finish.ensures

pub returns-in-Ok-eq0-clause-taken : goal.returns-in-Ok-eq0-clause-taken
returns-in-Ok-eq0-clause-taken g c =
    let piece : List ℕ = take c.in-Ok-eq0.field-0 c.read.new.into in
    let none : length piece ≡ 0 = grind (arith, common_steps, c.in-Ok-eq0.field-0-test) in
    at_most_given _ _ (c.pieces.count + length piece) (MAX_INPUT + 1) (given_with _ _ _ c.pieces.count c.pieces.reader piece c.pieces.invariant.0 c.in-Ok-eq0.ensures.bytes)
    (omega (arith, none, c.pieces.invariant.2))

pub returns-then-more-count-clause-taken : goal.returns-then-more-count-clause-taken
returns-then-more-count-clause-taken g c =
    let piece : List ℕ = take c.in-Ok.more c.read.new.into in
    let long : length piece ≡ c.in-Ok.more = grind (arith, common_steps, c.in-Ok.ensures.within) in
    let room : length c.read.new.into ≤ MAX_INPUT - c.pieces.count + 1 = search rules in
    at_most_given _ _ (c.pieces.count + length piece) (MAX_INPUT + 1) (given_with _ _ _ c.pieces.count c.pieces.reader piece c.pieces.invariant.0 c.in-Ok.ensures.bytes)
    (omega (arith, long, room, c.in-Ok.ensures.within, c.pieces.invariant.2))

pub returns-in-Ok-fill_all-clause-all : goal.returns-in-Ok-fill_all-clause-all
returns-in-Ok-fill_all-clause-all g c =
    let piece : List ℕ = take c.in-Ok.more c.read.new.into in
    let long : length piece ≡ c.in-Ok.more = grind (arith, common_steps, c.in-Ok.ensures.within) in
    refused_is_read _ _ (g.S.Source.left c.read.new.self) c.pieces.count c.pieces.reader c.in-Err-take.fault piece c.in-Ok-fill_all.field-0.items
    c.pieces.invariant.0 c.in-Ok.ensures.bytes c.in-Ok-fill_all.ensures.all c.in-Err-take.ensures.refuses
    (omega (arith, long, c.in-Ok-fill_all.ensures.within, c.if-more-count.false))

pub returns-in-Ok-fill_all-clause-taken : goal.returns-in-Ok-fill_all-clause-taken
returns-in-Ok-fill_all-clause-taken g c =
    let piece : List ℕ = take c.in-Ok.more c.read.new.into in
    let long : length piece ≡ c.in-Ok.more = grind (arith, common_steps, c.in-Ok.ensures.within) in
    at_most_behind _ (g.S.Source.left c.read.new.self) _ (c.pieces.count + length piece) _ (MAX_INPUT + 1)
    (given_with _ _ _ c.pieces.count c.pieces.reader piece c.pieces.invariant.0 c.in-Ok.ensures.bytes) c.in-Ok-fill_all.ensures.taken
    (omega (arith, long, c.if-more-count.false, c.pieces.invariant.2))

pub returns-in-Err-fill_all-clause-read_within : goal.returns-in-Err-fill_all-clause-read_within
returns-in-Err-fill_all-clause-read_within g c = λ is.
    let piece : List ℕ = take c.in-Ok.more c.read.new.into in
    let long : length piece ≡ c.in-Ok.more = grind (arith, common_steps, c.in-Ok.ensures.within) in
    at_most_behind _ (g.S.Source.left c.read.new.self) _ (c.pieces.count + length piece) _ MAX_INPUT
    (given_with _ _ _ c.pieces.count c.pieces.reader piece c.pieces.invariant.0 c.in-Ok.ensures.bytes) (c.in-Err-fill_all.ensures.read_within (err_again c.in-Err-fill_all.other _ is))
    (omega (arith, long, c.if-more-count.false, c.pieces.invariant.2))

pub returns-in-Err-fill_all-clause-too_long : goal.returns-in-Err-fill_all-clause-too_long
returns-in-Err-fill_all-clause-too_long g c = λ is.
    let piece : List ℕ = take c.in-Ok.more c.read.new.into in
    let long : length piece ≡ c.in-Ok.more = grind (arith, common_steps, c.in-Ok.ensures.within) in
    longer_behind _ (g.S.Source.left c.read.new.self) (c.pieces.count + length piece) _ MAX_INPUT
    (given_with _ _ _ c.pieces.count c.pieces.reader piece c.pieces.invariant.0 c.in-Ok.ensures.bytes) (c.in-Err-fill_all.ensures.too_long (err_again c.in-Err-fill_all.other _ is))
    (omega (arith, long, c.if-more-count.false, c.pieces.invariant.2))

pub returns-in-Err-fill_all-clause-taken : goal.returns-in-Err-fill_all-clause-taken
returns-in-Err-fill_all-clause-taken g c =
    let piece : List ℕ = take c.in-Ok.more c.read.new.into in
    let long : length piece ≡ c.in-Ok.more = grind (arith, common_steps, c.in-Ok.ensures.within) in
    at_most_behind _ (g.S.Source.left c.read.new.self) _ (c.pieces.count + length piece) _ (MAX_INPUT + 1)
    (given_with _ _ _ c.pieces.count c.pieces.reader piece c.pieces.invariant.0 c.in-Ok.ensures.bytes) c.in-Err-fill_all.ensures.taken
    (omega (arith, long, c.if-more-count.false, c.pieces.invariant.2))

pub pieces-preserved : goal.pieces-preserved
pieces-preserved g c =
    let piece : List ℕ = take c.in-Ok.more c.read.new.into in
    let long : length piece ≡ c.in-Ok.more = grind (arith, common_steps, c.in-Ok.ensures.within) in
    let bound = c.in-Ok-take.ensures.bound in (
      subst (λ (n : ℕ). HasCome (g.S.Source.left c.args.input.now) (g.S.Source.left c.read.new.self) (c.pieces.count + n) c.take.new.self) long
          (piece_came _ _ _ c.pieces.count c.pieces.reader c.take.new.self piece c.pieces.invariant.0 c.in-Ok.ensures.bytes c.in-Ok-take.ensures.goes_on bound),
      c.in-Ok.ensures.count ∙ c.pieces.invariant.1,
      omega (arith, c.if-more-count.false, c.pieces.invariant.2),
      c.in-Ok.ensures.goes_on (search rules),
    )
