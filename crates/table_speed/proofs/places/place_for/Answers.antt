use Rattle.std.proofs.Common.{◌≡◌, ◌∙◌, ◌+◌, ℕ, Bool, if◌then◌else◌, ap, sym, arith}
use Rattle.table_speed.proofs.TimedLemmas.{writes_at}
use Rattle.table_speed.proofs.places.place_for.Goals as goal
use Rattle.table_speed.proofs.places.place_for.Goals.{then-own, else-own}

pub returns : goal.returns
returns c =
    let before : ℕ = c.args.before in let place = c.requires.place in let few = c.requires.few in
    let named : c.if-own.result ≡ (if c.args.own then before + 1 else 1) = elim c.if-own.branch [
      | then-own w ↦ w.result-is ∙ sym (ap (λ (b : Bool). if b then before + 1 else 1) w.if-own.true)
      | else-own w ↦ w.result-is ∙ sym (ap (λ (b : Bool). if b then before + 1 else 1) w.if-own.false)
    ] in
    record {
      number = omega (arith, place);
      most = omega (arith, few);
      sits = c.requires.sits;
      fresh = c.requires.fresh;
      writes = writes_at c.args.host.now c.args.own c.args.seat.place before c.if-own.result c.requires.timed place few named;
    }
