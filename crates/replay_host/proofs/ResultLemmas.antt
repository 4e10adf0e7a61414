-- What follows from what a contract says of an answer.
use Rattle.std.proofs.Common.{◌≡◌, ℕ, ◌≤◌, Result, Ok, Err, sym, subst}
use Rattle.std.specs.Prelude.{OnOk, IfErr}
use Rattle.replay_host.specs.declared.fault.HostFault.{HostFault}
use Rattle.replay_host.specs.Replaying.{CountsOne, CountsStop}

pub on_ok_both : {A E : Type 0} (answer : Result A E) (P Q R : Type 0) → OnOk answer P → OnOk answer Q → (P → Q → R) → OnOk answer R
on_ok_both (Ok x) P Q R one two more = more one two
on_ok_both (Err e) P Q R one two more = tt

-- a fact for each value is one fact on the fault
pub if_err_each : {A E B : Type 0} (answer : Result A E) (P : B → E → Type 0) (Q : E → Type 0) → ((value : B) → IfErr answer (P value))
    → ((fault : E) → ((value : B) → P value fault) → Q fault) → IfErr answer Q
if_err_each (Ok x) P Q holds more = tt
if_err_each (Err e) P Q holds more = more e holds

-- a fault that stops behind calls that left the count
pub counts_stop : {A : Type 0} (answer : Result A HostFault) (fault : HostFault) (was mid now : ℕ) → answer ≡ Err fault → mid ≡ was → mid ≤ now → CountsOne fault mid now
    → CountsStop was now answer
counts_stop {A} answer fault was mid now is steady least counts =
    subst (λ (r : Result A HostFault). CountsStop was now r) (sym is)
    (subst (λ (n : ℕ). (n ≤ now) × CountsOne fault n now) steady (least, counts))
