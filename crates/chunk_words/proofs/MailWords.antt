-- The words of flush requests and answers, where a step stores another word, or changes no word of them.
use Rattle.std.proofs.Common.{◌≡◌, ◌≢◌, ℕ, ◌+◌, ◌<◌, ◌≤◌, List, length, set, get_or, subst, sym, refl, ap, ◌∙◌, arith}
use Rattle.std.proofs.lemmas.List.{set-get_or, get_or-set_other}
use native.Mathlib.Decide.{ℕ_discrete}
use mathlib.Core.Logic.{dite}
use Rattle.chunk_plain.specs.Setup.{Setup}
use Rattle.chunk_plain.specs.Views.{At, Reply, Letters, WriterView, Letter, Heard, asked_in, ServiceView, newcomer}
use Rattle.chunk_plain.specs.World.{World, writer}
use Rattle.chunk_plain.specs.Letters.{AreAnswers, HasAnswered}
use Rattle.chunk_words.specs.Places.{payload_start, payload_words, request_place, answer_place}
use Rattle.chunk_words.specs.Rule.{answer_word, HoldsMail}
use Rattle.chunk_words.proofs.Standing.{words_apart}
use Rattle.chunk_words.proofs.Turns.{IsWriterChange}

-- a word in front of them is stored
pub mail_apart : (setup : Setup) (world : World) (words : List ℕ) (place value : ℕ) → place < request_place setup → HoldsMail setup world words
    → HoldsMail setup world (set words place value)
mail_apart setup world words place value below mail = record {
  letters = mail.letters;
  few = mail.few;
  request = get_or-set_other words place (request_place setup) value 0 (omega (arith, below)) ∙ mail.request;
  answer = λ k inside. get_or-set_other words place (answer_place setup k) value 0 (omega (arith, below)) ∙ mail.answer k inside;
}

-- a word is loaded
pub mail_loaded : (setup : Setup) (world : World) (words : List ℕ) (index : ℕ) → HoldsMail setup world words → HoldsMail setup world (set words index (get_or words index 0))
mail_loaded setup world words index mail = subst (λ l. HoldsMail setup world l) (sym (set-get_or words index 0)) mail

-- the payload words lie in front of them
pub payload_below : (setup : Setup) (chunk index : ℕ) → chunk < length setup.spots → index < payload_words setup chunk → payload_start setup chunk + index < request_place setup
payload_below setup chunk index inside less = let last = words_apart setup.spots chunk (length setup.spots) inside in omega (arith, last, less)

-- what holds of a writer's view behind its step, and of each other one before it, holds of each behind it
pub each_behind : (P : ℕ → WriterView → Type 0) (world next : World) (place : ℕ) (view : WriterView) → IsWriterChange world next place view → P place view
    → ((k : ℕ) → k ≢ place → P k (writer world k)) → (k : ℕ) → P k (writer next k)
each_behind P world next place view change mine others k = dite (ℕ_discrete k place)
    (λ same. subst (λ p. P p (writer next p)) (sym same) (subst (P place) (sym change.mine) mine))
    (λ differs. subst (P k) (sym (change.others k differs)) (others k differs))

-- a writer's step gives no answer
pub mail_by_view : (setup : Setup) (world next : World) (words : List ℕ) (place : ℕ) (view : WriterView) → IsWriterChange world next place view
    → view.letters.answers ≡ (writer world place).letters.answers → view.letters.known ≤ asked_in world.service.letters → AreAnswers view
    → HoldsMail setup world words → HoldsMail setup next words
mail_by_view setup world next words place view change same known are mail =
    let answers : (k : ℕ) → (writer next k).letters.answers ≡ (writer world k).letters.answers
    = each_behind (λ k v. v.letters.answers ≡ (writer world k).letters.answers) world next place view change same (λ k differs. refl) in
    record {
      letters = record {
        known = λ k. subst (λ (s : ServiceView). (writer next k).letters.known ≤ asked_in s.letters) (sym change.service)
            (each_behind (λ _ v. v.letters.known ≤ asked_in world.service.letters) world next place view change known (λ p differs. mail.letters.known p) k);
        answers = each_behind (λ _ v. AreAnswers v) world next place view change are (λ k differs. mail.letters.answers k);
        heard = λ n k flush chunks at some. subst (λ (l : List Reply). HasAnswered l flush chunks) (sym (answers k))
            (mail.letters.heard n k flush chunks (subst (λ (s : ServiceView). At s.letters n (Heard k flush chunks)) change.service at) some);
      };
      few = subst (λ (s : ServiceView). asked_in s.letters < 4294967296) (sym change.service) mail.few;
      request = subst (λ (s : ServiceView). get_or words (request_place setup) 0 ≡ asked_in s.letters) (sym change.service) mail.request;
      answer = λ k inside. mail.answer k inside ∙ ap answer_word (sym (answers k));
    }

-- a writer's view behind a step that changes no letter: answers are counted of chunks and calls, of which there are as many at least
pub record KeepsLetters (old new : WriterView) : Type 0 where
  pub letters : new.letters ≡ old.letters
  pub begun : length old.begun ≤ length new.begun
  pub calls : length old.calls ≤ length new.calls

answers_kept : (old new : WriterView) → KeepsLetters old new → AreAnswers old → AreAnswers new
answers_kept old new keeps are = record {
  rising = λ n m one other less at then. are.rising n m one other less
      (subst (λ (l : Letters). At l.answers n one) keeps.letters at) (subst (λ (l : Letters). At l.answers m other) keeps.letters then);
  each = λ n one at. let was = are.each n one (subst (λ (l : Letters). At l.answers n one) keeps.letters at) in record {
    some = was.some;
    known = subst (λ (l : Letters). one.flush ≤ l.known) (sym keeps.letters) was.known;
    small = was.small;
    chunks = let low = was.chunks in let more = keeps.begun in omega (arith, low, more);
    calls = let low = was.calls in let more = keeps.calls in omega (arith, low, more);
  };
}

pub mail_by_writer : (setup : Setup) (world next : World) (words : List ℕ) (place : ℕ) (view : WriterView) → IsWriterChange world next place view
    → KeepsLetters (writer world place) view → HoldsMail setup world words → HoldsMail setup next words
mail_by_writer setup world next words place view change keeps mail =
    mail_by_view setup world next words place view change (ap (λ (l : Letters). l.answers) keeps.letters)
    (subst (λ (l : Letters). l.known ≤ asked_in world.service.letters) (sym keeps.letters) (mail.letters.known place))
    (answers_kept (writer world place) view keeps (mail.letters.answers place)) mail

-- a step of the service changes no letter
pub mail_by_service : (setup : Setup) (world next : World) (words : List ℕ) → next.service.letters ≡ world.service.letters → next.writers ≡ world.writers
    → HoldsMail setup world words → HoldsMail setup next words
mail_by_service setup world next words same stay mail = record {
  letters = record {
    known = λ k. subst (λ (l : List Letter). (writer next k).letters.known ≤ asked_in l) (sym same)
        (subst (λ (ws : List WriterView). (get_or ws k newcomer).letters.known ≤ asked_in world.service.letters) (sym stay) (mail.letters.known k));
    answers = λ k. subst (λ (ws : List WriterView). AreAnswers (get_or ws k newcomer)) (sym stay) (mail.letters.answers k);
    heard = λ n k flush chunks at some. subst (λ (ws : List WriterView). HasAnswered (get_or ws k newcomer).letters.answers flush chunks) (sym stay)
        (mail.letters.heard n k flush chunks (subst (λ (l : List Letter). At l n (Heard k flush chunks)) same at) some);
  };
  few = subst (λ (l : List Letter). asked_in l < 4294967296) (sym same) mail.few;
  request = subst (λ (l : List Letter). get_or words (request_place setup) 0 ≡ asked_in l) (sym same) mail.request;
  answer = λ k inside. subst (λ (ws : List WriterView). get_or words (answer_place setup k) 0 ≡ answer_word (get_or ws k newcomer).letters.answers) (sym stay)
      (mail.answer k inside);
}
