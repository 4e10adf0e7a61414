-- Steps of one seat in a row are a step of it.
use Rattle.std.proofs.Common.{refl, ◌∙◌}
use Rattle.chunk_plain.specs.Meaning.{Meaning, IsWriterStep, IsServiceStep}

module _ {T W S : Type 0} (means : Meaning T W S) where
  pub stays : (table : T) (seat : W) → means.sits table seat → IsWriterStep means table seat table seat
  stays table seat sits_ = record {
    setup_stays = refl;
    seat_stays = sits_;
    place_stays = refl;
    writers_stay = λ other there _. (there, refl);
    service_stays = λ other there. (there, refl);
    reads_stay = λ other takes. takes;
    letters_stay = refl;
  }

  pub steps_follow : (old : T) (before : W) (mid : T) (between : W) (new : T) (after : W)
      → IsWriterStep means old before mid between → IsWriterStep means mid between new after → IsWriterStep means old before new after
  steps_follow old before mid between new after one two = record {
    setup_stays = two.setup_stays ∙ one.setup_stays;
    seat_stays = two.seat_stays;
    place_stays = two.place_stays ∙ one.place_stays;
    writers_stay = λ other there differs.
        let first = one.writers_stay other there differs in
        let second = two.writers_stay other first.0 (λ same. differs (same ∙ one.place_stays)) in
        (second.0, second.1 ∙ first.1);
    service_stays = λ other there.
        let first = one.service_stays other there in
        let second = two.service_stays other first.0 in
        (second.0, second.1 ∙ first.1);
    reads_stay = λ other takes. two.reads_stay other (one.reads_stay other takes);
    letters_stay = two.letters_stay ∙ one.letters_stay;
  }

  pub serves_on : (table : T) (seat : S) → means.serves table seat → IsServiceStep means table seat table seat
  serves_on table seat serves_ = record {
    setup_stays = refl;
    seat_stays = serves_;
    writers_stay = λ other there. (there, refl);
    reads_stay = λ takes. takes;
    letters_stay = refl;
  }

  pub services_follow : (old : T) (before : S) (mid : T) (between : S) (new : T) (after : S)
      → IsServiceStep means old before mid between → IsServiceStep means mid between new after → IsServiceStep means old before new after
  services_follow old before mid between new after one two = record {
    setup_stays = two.setup_stays ∙ one.setup_stays;
    seat_stays = two.seat_stays;
    writers_stay = λ other there.
        let first = one.writers_stay other there in
        let second = two.writers_stay other first.0 in
        (second.0, second.1 ∙ first.1);
    reads_stay = λ takes. two.reads_stay (one.reads_stay takes);
    letters_stay = two.letters_stay ∙ one.letters_stay;
  }
