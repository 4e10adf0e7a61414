use Rattle.std.proofs.Common.{◌≡◌, ◌<◌, ◌∙◌, length, get_or, sym, ap, subst, arith}
use Rattle.layout_tuner.specs.PageWords.{generation_in}
use Rattle.layout_tuner.specs.World.{total}
use Rattle.layout_tuner.specs.Closed.{view_at}
use Rattle.layout_tuner.specs.Sits.{known_by_collector}
use Rattle.tune_run.specs.Told.{HaveTold}
use Rattle.tune_run.proofs.Reports.{all_seats, one_adds_up, all_claimed, all_retiled}
use Rattle.tune_run.proofs.run.report.Goals as goal

pub close-words-requires-clause-seats : goal.close-words-requires-clause-seats
close-words-requires-clause-seats c =
    let table = c.args.table in let made = c.tell_all-counts in
    let told = subst (λ n. HaveTold table c.args.turns n (known_by_collector made.new.collect) made.result.0.items made.result.1.items) c.requires.many made.ensures.told in
    all_seats table c.args.turns (known_by_collector made.new.collect) (known_by_collector c.collect-late.new.seat) made.result.0.items made.result.1.items told c.collect-late.ensures.collects.told

pub returns : goal.returns
returns c =
    let table = c.args.table in let made = c.tell_all-counts in let turns = c.args.turns in let collector = known_by_collector made.new.collect in
    let counts = made.result.0.items in let seats = made.result.1.items in let words = c.close-words.result.items in
    let told = subst (λ n. HaveTold table turns n collector counts seats) c.requires.many made.ensures.told in
    let closed = c.close-words.ensures.closed in
    record {
      many = told.counts_are;
      pages = c.close-words.ensures.pages ∙ c.requires.pages;
      counted = λ user below. let is = one_adds_up table turns collector counts seats user told below in record { claims = is.claims; retiles = is.retiles };
      taken = sym (all_claimed table turns collector counts seats told) ∙ (closed.all_taken
          ∙ (let more = c.collect-late.ensures.count in let same = ap length made.ensures.taken in let early = c.requires.taken in let late = c.from.ensures in omega (arith, more, same, early, late)));
      retiled = subst (λ n. total n (λ page. generation_in (get_or words page 0)) ≡ total table.shape.users (λ user. length (view_at seats user).retiled)) c.requires.pages closed.all_retiled
          ∙ all_retiled table turns collector counts seats told;
      first = λ page below. (closed.laid page (subst (λ n. page < n) (sym c.requires.pages) below)).first;
      unused = λ page below. closed.unused page (subst (λ n. page < n) (sym c.requires.pages) below);
    }
