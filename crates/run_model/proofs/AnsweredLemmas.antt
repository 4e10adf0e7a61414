-- What the calls of a writer are without the flushes of its answers.
use Rattle.std.proofs.Common.{◌≡◌, ◌∙◌, ℕ, suc, ◌+◌, ◌<◌, ◌≤◌, Bool, true, false, List, [], ◌∷◌, ◌++◌, length, refl, sym, ap, subst, arith, cond, append-nil, length-append}
use Rattle.std.specs.Prelude.{◌==◌, ◌||◌}
use Rattle.std.proofs.Math.Bool.{or-true}
use Rattle.std.proofs.lemmas.Bool.{eq-eqb, ne_eqb}
use Rattle.trace_model.specs.Calls.{Call, Flushed}
use Rattle.chunk_plain.specs.Letters.{AreLetters}
use Rattle.chunk_plain.specs.Views.{At, Reply, WriterView, asked_in}
use Rattle.chunk_plain.specs.World.{World, writer}
use Rattle.run_model.specs.Answered.{is_answered_behind, without_answers, answered_out}

-- ---- whether an answer stands there

none_behind : (calls : ℕ) (answers : List Reply) → ((n : ℕ) (answer : Reply) → At answers n answer → answer.calls < calls) → is_answered_behind calls answers ≡ false
none_behind calls [] low = refl
none_behind calls (answer ∷ answers) low =
    let first = low 0 answer refl in
    ap (λ (b : Bool). b || is_answered_behind calls answers) (ne_eqb answer.calls calls (λ same. omega (arith, first, same)))
    ∙ none_behind calls answers (λ n other at. low (suc n) other at)

behind_elsewhere : (calls : ℕ) (answers : List Reply) (answer : Reply) → (answer.calls ≡ calls → ⊥)
    → is_answered_behind calls (answers ++ answer ∷ []) ≡ is_answered_behind calls answers
behind_elsewhere calls [] answer apart = ap (λ (b : Bool). b || false) (ne_eqb answer.calls calls apart)
behind_elsewhere calls (one ∷ answers) answer apart = ap (λ (b : Bool). (one.calls == calls) || b) (behind_elsewhere calls answers answer apart)

behind_here : (calls : ℕ) (answers : List Reply) (answer : Reply) → answer.calls ≡ calls → is_answered_behind calls (answers ++ answer ∷ []) ≡ true
behind_here calls [] answer is = ap (λ (b : Bool). b || false) (eq-eqb answer.calls calls is)
behind_here calls (one ∷ answers) answer is =
    ap (λ (b : Bool). (one.calls == calls) || b) (behind_here calls answers answer is) ∙ or-true (one.calls == calls)

-- ---- calls without answers' flushes

pub without_none : (at : ℕ) (calls : List Call) → without_answers at [] calls ≡ calls
without_none at [] = refl
without_none at (call ∷ calls) = ap (λ (cs : List Call). call ∷ cs) (without_none (suc at) calls)

without_append : (at : ℕ) (answers : List Reply) (xs ys : List Call)
    → without_answers at answers (xs ++ ys) ≡ without_answers at answers xs ++ without_answers (at + length xs) answers ys
without_append at answers [] ys = let same : at ≡ at + 0 = omega arith in ap (λ (n : ℕ). without_answers n answers ys) same
without_append at answers (call ∷ xs) ys =
    let same : suc at + length xs ≡ at + suc (length xs) = omega arith in
    by_test (is_answered_behind (suc at) answers)
    (without_append (suc at) answers xs ys ∙ ap (λ (n : ℕ). without_answers (suc at) answers xs ++ without_answers n answers ys) same)
  where
    by_test : (b : Bool) → without_answers (suc at) answers (xs ++ ys) ≡ without_answers (suc at) answers xs ++ without_answers (at + suc (length xs)) answers ys
        → cond b (without_answers (suc at) answers (xs ++ ys)) (call ∷ without_answers (suc at) answers (xs ++ ys))
        ≡ cond b (without_answers (suc at) answers xs) (call ∷ without_answers (suc at) answers xs) ++ without_answers (at + suc (length xs)) answers ys
    by_test true rest = rest
    by_test false rest = ap (λ (cs : List Call). call ∷ cs) rest

-- where no answer stands behind them, they stay
without_same : (at : ℕ) (answers : List Reply) (calls : List Call) → ((n : ℕ) (answer : Reply) → At answers n answer → answer.calls ≤ at)
    → without_answers at answers calls ≡ calls
without_same at answers [] low = refl
without_same at answers (call ∷ calls) low =
    ap (λ (b : Bool). cond b (without_answers (suc at) answers calls) (call ∷ without_answers (suc at) answers calls))
    (none_behind (suc at) answers (λ n answer there. let first = low n answer there in omega (arith, first)))
    ∙ ap (λ (cs : List Call). call ∷ cs) (without_same (suc at) answers calls (λ n answer there. let first = low n answer there in omega (arith, first)))

-- an answer that comes later leaves out none of them
without_later : (at : ℕ) (answers : List Reply) (answer : Reply) (calls : List Call) → at + length calls < answer.calls
    → without_answers at (answers ++ answer ∷ []) calls ≡ without_answers at answers calls
without_later at answers answer [] later = refl
without_later at answers answer (call ∷ calls) later =
    ap (λ (b : Bool). cond b (without_answers (suc at) (answers ++ answer ∷ []) calls) (call ∷ without_answers (suc at) (answers ++ answer ∷ []) calls))
    (behind_elsewhere (suc at) answers answer (λ same. omega (arith, later, same)))
    ∙ ap (λ (cs : List Call). cond (is_answered_behind (suc at) answers) cs (call ∷ cs)) (without_later (suc at) answers answer calls (omega (arith, later)))

-- ---- of a writer

-- what it notes without an answer it notes for what is asked of it
pub out_noted : (old new : WriterView) (noted : List Call) → new.letters.answers ≡ old.letters.answers → new.calls ≡ old.calls ++ noted
    → ((n : ℕ) (answer : Reply) → At old.letters.answers n answer → answer.calls ≤ length old.calls) → answered_out new ≡ answered_out old ++ noted
out_noted old new noted same notes low =
    ap (λ (answers : List Reply). without_answers 0 answers new.calls) same
    ∙ ap (λ (calls : List Call). without_answers 0 old.letters.answers calls) notes
    ∙ without_append 0 old.letters.answers old.calls noted
    ∙ ap (λ (calls : List Call). answered_out old ++ calls)
    (without_same (0 + length old.calls) old.letters.answers noted (λ n answer there. let first = low n answer there in omega (arith, first)))

-- where it has the same answers and calls
pub out_same : (old new : WriterView) → new.letters.answers ≡ old.letters.answers → new.calls ≡ old.calls → answered_out new ≡ answered_out old
out_same old new same notes =
    ap (λ (answers : List Reply). without_answers 0 answers new.calls) same ∙ ap (λ (calls : List Call). without_answers 0 old.letters.answers calls) notes

-- the flush of an answer is left out
pub out_answered : (old new : WriterView) (answer : Reply) → new.letters.answers ≡ old.letters.answers ++ answer ∷ [] → new.calls ≡ old.calls ++ Flushed ∷ []
    → answer.calls ≡ length new.calls → answered_out new ≡ answered_out old
out_answered old new answer answers notes behind =
    let many = ap (λ (calls : List Call). length calls) notes in let grown = length-append old.calls (Flushed ∷ []) in
    let last : answer.calls ≡ suc (0 + length old.calls) = omega (arith, behind, many, grown) in
    ap (λ (replies : List Reply). without_answers 0 replies new.calls) answers
    ∙ ap (λ (calls : List Call). without_answers 0 (old.letters.answers ++ answer ∷ []) calls) notes
    ∙ without_append 0 (old.letters.answers ++ answer ∷ []) old.calls (Flushed ∷ [])
    ∙ ap (λ (calls : List Call). calls ++ without_answers (0 + length old.calls) (old.letters.answers ++ answer ∷ []) (Flushed ∷ []))
    (without_later 0 old.letters.answers answer old.calls (omega (arith, last)))
    ∙ ap (λ (b : Bool). answered_out old ++ cond b [] (Flushed ∷ [])) (behind_here (suc (0 + length old.calls)) old.letters.answers answer last)
    ∙ append-nil (answered_out old)

-- where no request was made nobody has answered one
pub none_answered : (world : World) (place : ℕ) → AreLetters world → asked_in world.service.letters ≡ 0 → length (writer world place).letters.answers ≡ 0
none_answered world place are none = by_list (writer world place).letters.answers refl
  where
    by_list : (answers : List Reply) → (writer world place).letters.answers ≡ answers → length (writer world place).letters.answers ≡ 0
    by_list [] is = ap (λ (replies : List Reply). length replies) is
    by_list (answer ∷ answers) is =
        let there : At (writer world place).letters.answers 0 answer = subst (λ (replies : List Reply). At replies 0 answer) (sym is) refl in
        let reply = (are.answers place).each 0 answer there in
        let some = reply.some in let known = reply.known in let made = are.known place in
        absurd (omega (arith, some, known, made, none))

pub out_none : (view : WriterView) → length view.letters.answers ≡ 0 → answered_out view ≡ view.calls
out_none view none = by_list view.letters.answers refl
  where
    by_list : (answers : List Reply) → view.letters.answers ≡ answers → answered_out view ≡ view.calls
    by_list [] is = ap (λ (replies : List Reply). without_answers 0 replies view.calls) is ∙ without_none 0 view.calls
    by_list (answer ∷ answers) is = absurd (let long = ap (λ (replies : List Reply). length replies) is in omega (arith, long, none))
