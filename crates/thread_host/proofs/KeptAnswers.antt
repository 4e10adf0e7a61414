-- Which answer a session keeps of each writer, of those that the service has read.
use Rattle.std.proofs.Common.{◌≡◌, ◌≢◌, ◌∙◌, ℕ, zero, suc, ◌<◌, ◌≤◌, Bool, Option, Some, None, List, [], ◌∷◌, ◌++◌, length, length-set, cond, refl, sym, ap, subst, inl, inr, arith}
use Rattle.std.proofs.lemmas.Bool.{cases_eq, lt-ltb}
use Rattle.std.proofs.lemmas.List.{get_or-replicate, get_or-set_same, get_or-set_other, length-replicate}
use Rattle.trace_base.specs.declared.limits.TheConstants.{MAX_WRITERS}
use Rattle.chunk_plain.specs.Views.{Letter, Asked, Heard}
use Rattle.session_core.specs.declared.answers.Answer.{Answer}
use Rattle.session_core.specs.declared.answers.SessionState.TheVariants.{Started}
use Rattle.session_core.specs.Sessions.{SessionValue, answer_at, configured, kept, moved, new_session, requested, with_answer}
use Rattle.run_model.specs.Answered.{chunks_to}
use Rattle.thread_host.specs.Tally.{answer_read, answer_to, KeepsAnswers, newest_read}
use Rattle.thread_host.proofs.TallyLemmas.{chunks_again, chunks_first, chunks_other, chunks_stay, newest_asked, newest_other, newest_own}

-- ---- which answer was read

abbrev answer_with : (flush chunks : ℕ) → Option Answer
answer_with flush chunks = Some (record { flush = flush; chunks = chunks })

to_same : (flush place : ℕ) (old new : List Letter) → (0 < flush → chunks_to flush place new ≡ chunks_to flush place old)
    → answer_to flush place new ≡ answer_to flush place old
to_same zero place old new same = refl
to_same (suc number) place old new same = ap (answer_with (suc number)) (same (omega arith))

-- it is the same one where the newest request is, and the first answer to it
read_same : (place : ℕ) (old new : List Letter) → newest_read place new ≡ newest_read place old
    → (0 < newest_read place old → chunks_to (newest_read place old) place new ≡ chunks_to (newest_read place old) place old)
    → answer_read place new ≡ answer_read place old
read_same place old new newest chunks =
    ap (λ (flush : ℕ). answer_to flush place new) newest ∙ to_same (newest_read place old) place old new chunks

-- behind an answer that is no newer
read_again : (place flush chunks : ℕ) (letters : List Letter) → flush ≤ newest_read place letters
    → answer_read place (letters ++ Heard place flush chunks ∷ []) ≡ answer_read place letters
read_again place flush chunks letters low =
    let own = newest_own place place flush chunks letters refl in
    read_same place letters (letters ++ Heard place flush chunks ∷ []) (omega (arith, own, low))
    (λ some. chunks_again (newest_read place letters) place flush chunks letters some (omega arith))

-- behind one of another writer
read_other : (place other flush chunks : ℕ) (letters : List Letter) → other ≢ place
    → answer_read place (letters ++ Heard other flush chunks ∷ []) ≡ answer_read place letters
read_other place other flush chunks letters apart =
    read_same place letters (letters ++ Heard other flush chunks ∷ []) (newest_other place other flush chunks letters apart)
    (λ some. chunks_other (newest_read place letters) place other flush chunks letters apart)

-- a newer one is the newest
first_to : (flush place chunks : ℕ) (letters : List Letter) → newest_read place letters < flush
    → answer_to flush place (letters ++ Heard place flush chunks ∷ []) ≡ answer_with flush chunks
first_to zero place chunks letters newer = absurd (omega (arith, newer))
first_to (suc number) place chunks letters newer =
    ap (answer_with (suc number)) (chunks_first (suc number) place (suc number) chunks letters newer (omega arith)).1

read_first : (place flush chunks : ℕ) (letters : List Letter) → newest_read place letters < flush
    → answer_read place (letters ++ Heard place flush chunks ∷ []) ≡ answer_with flush chunks
read_first place flush chunks letters newer =
    let own = newest_own place place flush chunks letters refl in
    let newest : newest_read place (letters ++ Heard place flush chunks ∷ []) ≡ flush = omega (arith, own, newer) in
    ap (λ (number : ℕ). answer_to number place (letters ++ Heard place flush chunks ∷ [])) newest ∙ first_to flush place chunks letters newer

-- and a session keeps it
kept_newer : (flush place : ℕ) (letters : List Letter) (answer : Answer) → flush < answer.flush → kept (answer_to flush place letters) answer ≡ Some answer
kept_newer zero place letters answer newer = refl
kept_newer (suc number) place letters answer newer =
    ap (λ (b : Bool). cond b (Some answer) (answer_with (suc number) (chunks_to (suc number) place letters))) (lt-ltb (suc number) answer.flush newer)

-- ---- what a session keeps

-- as it is made
pub answers_none : (writers count : ℕ) (session : SessionValue) → writers ≤ MAX_WRITERS → session ≡ moved Started (configured count new_session)
    → KeepsAnswers writers [] session
answers_none writers count session few is =
    let none : Option Answer = None in
    record {
      room = let long = ap (λ (s : SessionValue). length s.answers) is ∙ length-replicate MAX_WRITERS none in omega (arith, few, long);
      each = λ place below. ap (λ (s : SessionValue). answer_at s place) is ∙ get_or-replicate MAX_WRITERS place none none (omega (arith, few, below));
    }

-- by the same letters
pub answers_same : (writers : ℕ) (old new : List Letter) (before after : SessionValue) → new ≡ old → after ≡ before
    → KeepsAnswers writers old before → KeepsAnswers writers new after
answers_same writers old new before after letters session was =
    subst (λ (l : List Letter). KeepsAnswers writers l after) (sym letters) (subst (KeepsAnswers writers old) (sym session) was)

-- behind a request
pub answers_asked : (writers events : ℕ) (letters : List Letter) (old new : SessionValue) → new ≡ requested old
    → KeepsAnswers writers letters old → KeepsAnswers writers (letters ++ Asked events ∷ []) new
answers_asked writers events letters old new is was = record {
  room = let long = ap (λ (s : SessionValue). length s.answers) is in let room = was.room in omega (arith, long, room);
  each = λ place below.
      ap (λ (s : SessionValue). answer_at s place) is
      ∙ was.each place below
      ∙ sym (read_same place letters (letters ++ Asked events ∷ []) (newest_asked place events letters)
      (λ some. chunks_stay (newest_read place letters) place letters (Asked events) refl));
}

-- behind an answer that is no newer, which doesn't go to it
pub answers_passed : (writers place flush chunks : ℕ) (letters : List Letter) (session : SessionValue) → flush ≤ newest_read place letters
    → KeepsAnswers writers letters session → KeepsAnswers writers (letters ++ Heard place flush chunks ∷ []) session
answers_passed writers place flush chunks letters session low was = record {
  room = was.room;
  each = λ p below. was.each p below ∙ sym (elim (cases_eq place p) [
    | inl is ↦
        subst (λ (q : ℕ). answer_read q (letters ++ Heard place flush chunks ∷ []) ≡ answer_read q letters) is (read_again place flush chunks letters low)
    | inr apart ↦ read_other p place flush chunks letters apart
  ]);
}

-- behind a newer one, which does
pub answers_taken : (writers place flush chunks : ℕ) (letters : List Letter) (old new : SessionValue) → place < writers → newest_read place letters < flush
    → new ≡ with_answer old place (record { flush = flush; chunks = chunks })
    → KeepsAnswers writers letters old → KeepsAnswers writers (letters ++ Heard place flush chunks ∷ []) new
answers_taken writers place flush chunks letters old new inside newer is was =
    let answer : Answer = record { flush = flush; chunks = chunks } in
    let more : List Letter = letters ++ Heard place flush chunks ∷ [] in
    let room = was.room in
    record {
      room =
          let long = ap (λ (s : SessionValue). length s.answers) is ∙ length-set old.answers place (kept (answer_at old place) answer) in
          omega (arith, long, room);
      each = λ p below. ap (λ (s : SessionValue). answer_at s p) is ∙ (elim (cases_eq place p) [
        | inl same ↦
            subst (λ (q : ℕ). answer_at (with_answer old place answer) q ≡ answer_read q more) same
            (get_or-set_same old.answers place (kept (answer_at old place) answer) None (omega (arith, inside, room))
            ∙ ap (λ (o : Option Answer). kept o answer) (was.each place inside)
            ∙ kept_newer (newest_read place letters) place letters answer newer
            ∙ sym (read_first place flush chunks letters newer))
        | inr apart ↦
            get_or-set_other old.answers place p (kept (answer_at old place) answer) None (λ same. apart (sym same))
            ∙ was.each p below
            ∙ sym (read_other p place flush chunks letters apart)
      ]);
    }
