-- Laws of `Tells`.
use Rattle.std.proofs.Common.{◌≡◌, ℕ, suc, length, Bool, true, false, not, ◌||◌, nat_eq, List, [], ◌∷◌, ◌++◌, refl, sym, ap, subst, append_assoc, length-append, arith}
use Rattle.std.proofs.lemmas.Bool.{eq-eqb}
use Rattle.trace_base.proofs.Lists.{get_seam}
use Rattle.trace_model.specs.Record.{record_of}
use Rattle.trace_model.specs.Tells.{IsTold, TellsFrom}
use Rattle.trace_model.specs.Laws.{all_records}

-- a record at the very next place bears a mark exactly where it is the first
marks_the_first : (first : Bool) (n : ℕ) → (false || first) ≡ (first || not (nat_eq n n))
marks_the_first true n = refl
marks_the_first false n = sym (ap not (eq-eqb n n refl))

-- the records of the packets behind `front`, which all have theirs
pub all_tell : (front rest : List (List ℕ)) (sequence : ℕ) (first : Bool)
    → TellsFrom (front ++ rest) sequence first (length front) (all_records sequence first rest)
all_tell front [] sequence first = tt
all_tell front (packet ∷ rest) sequence first =
    let told : IsTold (front ++ packet ∷ rest) sequence first (length front) (length front) (record_of packet sequence first) =
    record {
      packet = packet;
      emitted_there = get_seam front rest packet;
      not_before = omega arith;
      front = false;
      behind = first;
      exact = refl;
      marked = marks_the_first first (length front);
    } in
    let whole : (front ++ packet ∷ []) ++ rest ≡ front ++ packet ∷ rest = append_assoc front (packet ∷ []) rest in
    let longer : length (front ++ packet ∷ []) ≡ suc (length front) = simp length-append (omega arith) in
    let after : TellsFrom (front ++ packet ∷ rest) sequence false (suc (length front)) (all_records sequence false rest) =
    subst (λ (n : ℕ). TellsFrom (front ++ packet ∷ rest) sequence false n (all_records sequence false rest)) longer
    (subst (λ (xs : List (List ℕ)). TellsFrom xs sequence false (length (front ++ packet ∷ [])) (all_records sequence false rest)) whole
    (all_tell (front ++ packet ∷ []) rest sequence false)) in
    (length front, told, after)
