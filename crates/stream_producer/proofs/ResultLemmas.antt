-- What is answered where a call within failed.
use Rattle.std.proofs.Common.{◌≡◌, ℕ, Result, Ok, Err, sym, subst}
use Rattle.std.specs.Prelude.{IfErr, OnErr, OnOk}
use Rattle.stream_producer.specs.declared.fault.StreamFault.{StreamFault}
use Rattle.stream_producer.specs.Faults.{CountsFault, LeavesSink}

pub if_err_is : {A E : Type 0} (answer : Result A E) (fault : E) (P : E → Type 0) → answer ≡ Err fault → P fault → IfErr answer P
if_err_is {A} {E} answer fault P is holds = subst (λ (r : Result A E). IfErr r P) (sym is) holds

pub on_ok_none : {A E : Type 0} (answer : Result A E) (fault : E) (P : Type 0) → answer ≡ Err fault → OnOk answer P
on_ok_none {A} {E} answer fault P is = subst (λ (r : Result A E). OnOk r P) (sym is) tt

-- the sink is left as by the call within that failed; its fault is counted from the count before on
pub sink_left : {A B : Type 0} (answer : Result A StreamFault) (fault : StreamFault) (was mid now : ℕ) (MayWrite : Type 0)
    → answer ≡ Err fault → mid ≡ was → LeavesSink {T = B} mid (Err fault) now MayWrite → LeavesSink was answer now MayWrite
sink_left {A} answer fault was mid now MayWrite is steady left =
    subst (λ (r : Result A StreamFault). LeavesSink was r now MayWrite) (sym is) (record {
      count = subst (λ (n : ℕ). CountsFault n now fault) steady left.count;
      goes_on = tt;
      goes_on_behind = left.goes_on_behind;
    })

pub on_err : {A E : Type 0} (answer : Result A E) (P : Type 0) → P → OnErr answer P
on_err (Ok value) P holds = tt
on_err (Err fault) P holds = holds
