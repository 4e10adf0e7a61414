-- What is written of a workload, and what waits.
use Rattle.std.proofs.Common.{◌≡◌, ℕ, zero, suc, ◌+◌, ◌-◌, ◌/◌, ◌%◌, ◌≤◌, List, [], ◌++◌, refl, sym, ◌∙◌, ap, subst, arith, append_assoc, add-zero, add-one}
use Rattle.std.proofs.Math.Nat.{add-suc}
use Rattle.std.proofs.lemmas.Grind.{common_steps}
use Rattle.std.proofs.lemmas.List.{append-nil}
use Rattle.byte_io.specs.Bytes.{Intake, after_told, TakesPart, TakesUpTo}
use Rattle.byte_io.proofs.Told.{after_told_again, up_to_start}
use Rattle.workload_gen.specs.Workload.{IsAdded, packet_line, packet_lines, drawn_of, next_state, state_after}

-- a piece more waits
pub up_to_added : {old now : Intake} {text waits piece after : List ℕ} → TakesUpTo old now text waits → IsAdded waits piece after
    → TakesUpTo old now (text ++ piece) after
up_to_added {old} {now} {text} {waits} {piece} {after} done added = record {
  part = done.part;
  cut = ap (λ bytes. bytes ++ piece) done.cut ∙ append_assoc done.part waits piece ∙ ap (λ bytes. done.part ++ bytes) (sym added.text);
  taken = done.taken;
}

-- what waited is written
pub up_to_written : {old now after : Intake} {text waits : List ℕ} → TakesUpTo old now text waits → after ≡ after_told now waits
    → after ≡ after_told old text
up_to_written {old} {now} {after} {text} {waits} done write =
    write ∙ ap (λ intake. after_told intake waits) done.taken ∙ after_told_again old done.part waits ∙ ap (λ bytes. after_told old bytes) (sym done.cut)

-- of what waited a part is written, and more would have followed
pub up_to_failed : {old now after : Intake} {text waits all : List ℕ} (more : List ℕ) → TakesUpTo old now text waits → TakesPart now after waits
    → all ≡ text ++ more → TakesPart old after all
up_to_failed {old} {now} {after} {text} {waits} {all} more done failed whole = record {
  part = done.part ++ failed.part;
  rest = failed.rest ++ more;
  cut = whole ∙ ap (λ bytes. bytes ++ more) (done.cut ∙ ap (λ bytes. done.part ++ bytes) failed.cut)
      ∙ grind (arith, common_steps);
  taken = failed.taken ∙ ap (λ intake. after_told intake failed.part) done.taken ∙ after_told_again old done.part failed.part;
}

-- the lines of more packets begin with those of fewer
pub lines_begin : (number writers k n : ℕ) → (more : List ℕ) × (packet_lines number writers (k + n) ≡ packet_lines number writers k ++ more)
unfolding packet_lines
lines_begin number writers k zero = ([], simp (add-zero, append-nil) refl)
lines_begin number writers k (suc n) =
    let (more, same) = lines_begin number writers k n in
    let line = packet_line (k + n) ((k + n) % writers + 1) ((k + n) / writers + 1) (drawn_of (state_after number (suc (k + n)))) in
    (more ++ line, rw (add-suc k n) (ap (λ bytes. bytes ++ line) same ∙ append_assoc (packet_lines number writers k) more line))

-- and so does the text of all
text_begins : (number writers k n : ℕ) (front : List ℕ) → k ≤ n
    → (more : List ℕ) × (front ++ packet_lines number writers n ≡ (front ++ packet_lines number writers k) ++ more)
text_begins number writers k n front below =
    let (more, same) = lines_begin number writers k (n - k) in
    let whole : k + (n - k) ≡ n = omega arith in
    let P : ℕ → Type 0 = λ m. packet_lines number writers m ≡ packet_lines number writers k ++ more in
    (more, ap (λ bytes. front ++ bytes) (subst P whole same) ∙ sym (append_assoc front (packet_lines number writers k) more))

-- before the first packet the lines in front wait
pub set_up_waits : (number writers : ℕ) (front : List ℕ) {old : Intake} {waits : List ℕ} → waits ≡ front
    → TakesUpTo old old (front ++ packet_lines number writers 0) waits
unfolding packet_lines
set_up_waits number writers front {old} {waits} same =
    let P : List ℕ → Type 0 = λ bytes. TakesUpTo old old bytes waits in
    subst P (same ∙ sym (append-nil front)) (up_to_start old waits)

-- the generator takes a step
pub state_more : (number k : ℕ) {state next : ℕ} → state ≡ state_after number k → next ≡ next_state state → next ≡ state_after number (k + 1)
unfolding state_after
state_more number k was step = rw (add-one k) (step ∙ ap next_state was)

-- the line of one packet more waits
pub line_waits : (number writers k : ℕ) (front : List ℕ) {w state drawn : ℕ} {old now : Intake} {waits after : List ℕ}
    → TakesUpTo old now (front ++ packet_lines number writers k) waits → w ≡ writers → state ≡ state_after number (k + 1) → drawn ≡ drawn_of state
    → IsAdded waits (packet_line k (k % w + 1) (k / w + 1) drawn) after → TakesUpTo old now (front ++ packet_lines number writers (k + 1)) after
unfolding packet_lines
line_waits number writers k front {w} {state} {drawn} {old} {now} {waits} {after} done same at draws added =
    let line = packet_line k (k % writers + 1) (k / writers + 1) (drawn_of (state_after number (suc k))) in
    let is_line : packet_line k (k % w + 1) (k / w + 1) drawn ≡ line =
    ap (λ v. packet_line k (k % v + 1) (k / v + 1) drawn) same
    ∙ ap (λ d. packet_line k (k % writers + 1) (k / writers + 1) d) (draws ∙ ap drawn_of (at ∙ ap (state_after number) (add-one k))) in
    let P : List ℕ → Type 0 = λ bytes. IsAdded waits bytes after in
    let Q : List ℕ → Type 0 = λ bytes. TakesUpTo old now bytes after in
    rw (add-one k) (subst Q (append_assoc front (packet_lines number writers k) line) (up_to_added done (subst P is_line added)))

-- where writing fails in between, a front part of all lines is written
pub lines_failed : (number writers k n : ℕ) (front : List ℕ) {old now after : Intake} {waits : List ℕ} → k ≤ n
    → TakesUpTo old now (front ++ packet_lines number writers k) waits → TakesPart now after waits
    → TakesPart old after (front ++ packet_lines number writers n)
lines_failed number writers k n front {old} {now} {after} {waits} below done failed =
    let (more, same) = text_begins number writers k n front below in
    up_to_failed more done failed same

-- once all was written nothing waits
pub none_waits : {old now after : Intake} {text waits rest : List ℕ} → TakesUpTo old now text waits → after ≡ after_told now waits → rest ≡ []
    → TakesUpTo old after text rest
none_waits {old} {now} {after} {text} {waits} {rest} done write none =
    record { part = text; cut = sym (ap (λ bytes. text ++ bytes) none ∙ append-nil text); taken = up_to_written done write }
