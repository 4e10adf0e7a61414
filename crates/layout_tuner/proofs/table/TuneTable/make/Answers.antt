use Rattle.std.proofs.Common.{◌≡◌, ◌*◌, ◌∙◌, replicate, refl, ap, sym, subst, arith}
use Rattle.layout_tuner.specs.PageWords.{line}
use Rattle.layout_tuner.specs.Knows.{made_of, joined_of, collector_of}
use Rattle.layout_tuner.specs.Plays.{Mine}
use Rattle.layout_tuner.specs.Sits.{IsCollector}
use Rattle.layout_tuner.proofs.Making.{starts_tuned}
use Rattle.layout_tuner.proofs.table.TuneTable.make.Goals as goal

pub of_words-requires : goal.of_words-requires
of_words-requires c =
    let all : c.deref.result.now ≡ replicate (line c.args.pages) 1342177280 = c.deref.ensures.value
    ∙ (c.in_ok-words.ensures.items_if_clones_equal (λ y h. h) ∙ ap (λ n. replicate n 1342177280) (let e : c.args.pages * 8 ≡ line c.args.pages = omega arith in e)) in
    starts_tuned (record { pages = c.args.pages; users = c.args.users }) c.deref.result.now all

pub returns : goal.returns
returns c =
    let me_is = c.in_ok-seats.ensures.me in
    record {
      pages_are = refl;
      users_are = refl;
      has_seats = c.in_ok-seats.ensures.seats;
      attends = record {
        serving = record {
          joined = c.in_ok-seats.ensures.seat ∙ c.in_ok-table.ensures.2;
          idle = subst IsCollector (sym me_is) refl;
          all_made = ap (λ (m : Mine). made_of m.0) me_is;
          none_joined = ap (λ (m : Mine). joined_of m.0) me_is;
        };
        none_read = ap (λ (m : Mine). (collector_of m.0).reading) me_is;
      };
      none_collected = ap (λ (m : Mine). collector_of m.0) me_is;
    }
