-- The worked account, computed.
use Rattle.std.proofs.Common.{◌≡◌, ℕ, true, List, refl, arith, inl}
use Rattle.std.proofs.lemmas.List.Elements.{All-from_recursion}
use Rattle.wire_varint.specs.Varint.{varint, groups, tag, redundant}
use Rattle.trace_model.specs.Encoding.{number_field, bytes_head, bytes_field}
use Rattle.trace_model.specs.Packets.{bodies_of}
use Rattle.trace_model.specs.Walks.{is_refused, is_number, is_accepted}
use Rattle.trace_model.specs.WorkedWriters.{patched_calls}
use Rattle.trace_model.proofs.WorkedLemmas.{worked_rows}
use Rattle.delivery_laws.specs.WorkedAccounts.{WorkedAccount, WorkedEnough}

pub worked_account : WorkedAccount
unfolding groups varint tag redundant number_field bytes_head bytes_field is_accepted is_refused is_number
worked_account = record {
  account = record {
    possible = refl;
    cut = worked_rows.given_up.cut;
    known = refl;
    start = refl;
    order = (
      refl,
      (
        refl,
        refl,
        record { sheet = _; there = refl; continues = refl; shows = (refl, (λ e. refl), tt); some = omega arith },
        (
          refl,
          (
            refl,
            (
              refl,
              refl,
              _,
              refl,
              refl,
              (
                refl,
                (
                  refl,
                  (
                    refl,
                    refl,
                    _,
                    refl,
                    refl,
                    (
                      refl,
                      (
                        refl,
                        (
                          refl,
                          refl,
                          _,
                          refl,
                          refl,
                          (
                            refl,
                            (refl, (refl, (refl, (refl, (refl, refl))))),
                          ),
                        ),
                      ),
                    ),
                  ),
                ),
              ),
            ),
          ),
        ),
      ),
    );
  };
  delivered = refl;
}

pub worked_enough : WorkedEnough
unfolding groups varint tag redundant number_field bytes_head bytes_field is_accepted is_refused is_number
worked_enough = record {
  account = record {
    possible = refl;
    cut = worked_rows.patched.cut;
    known = refl;
    start = refl;
    order = (refl, (refl, refl, _, refl, refl, (refl, (refl, (refl, refl, _, refl, refl, (refl, (refl, (refl, (refl, (refl, (refl, refl)))))))))));
  };
  whole = (refl, refl, refl, tt);
  accepted = All-from_recursion (λ (body : List ℕ). is_accepted body ≡ true) (bodies_of patched_calls) (refl, tt);
  finishes = (refl, inl (refl, refl, omega arith));
  bytes = omega arith;
  below = ((λ k. omega arith), ((λ k. omega arith), tt));
  room = omega arith;
}
