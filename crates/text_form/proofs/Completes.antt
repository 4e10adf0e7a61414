-- Wherever the reading stands, some text goes on from there to its end.
use Rattle.std.proofs.Common.{◌≡◌, ◌∙◌, ℕ, zero, suc, Bool, true, false, List, [], ◌∷◌, Result, Ok, refl, ap}
use Rattle.text_form.specs.Bytes.{is_word_byte}
use Rattle.text_form.specs.Entries.{Word, Text, Item, Single, Begin, End}
use Rattle.text_form.specs.Grammar.{EndsRun}
use Rattle.text_form.specs.Machine.{Place, Start, Ended, Named, Valued, Mode, Between, InComment, InName, InWord, InQuotes, items_from, with_item}
use Rattle.text_form.specs.Walking.{place_before}
use Rattle.text_form.proofs.Walks.{reads_close, ends_word}

-- some text goes on
pub record GoesOn (depth line : ℕ) (mode : Mode) : Type 0 where
  pub more : List ℕ
  pub items : List Item
  pub same : items_from depth line mode more ≡ Ok items

-- so many closing braces
abbrev braces : ℕ → List ℕ
braces zero = []
braces (suc depth) = 125 ∷ braces depth

abbrev ends : ℕ → List Item
ends zero = []
ends (suc depth) = End ∷ ends depth

closes : (depth line : ℕ) (after : Bool) → items_from depth line (Between (place_before after)) (braces depth) ≡ Ok (ends depth)
closes zero line true = refl
closes zero line false = refl
closes (suc depth) line after =
    reads_close depth line after (braces depth) ∙ ap (λ (r : Result (List Item) ℕ). with_item End r) (closes depth line true)

opens : (depth line at : ℕ) (name : List ℕ) → GoesOn depth line (Between (Named at name))
opens depth line at name = record {
  more = 123 ∷ braces (suc depth);
  items = Begin at name ∷ ends (suc depth);
  same = ap (λ (r : Result (List Item) ℕ). with_item (Begin at name) r) (closes (suc depth) line false);
}

no_word : (depth : ℕ) → EndsRun is_word_byte (braces depth)
no_word zero = tt
no_word (suc depth) = refl

place_goes_on : (depth line : ℕ) (place : Place) → GoesOn depth line (Between place)
place_goes_on depth line Start = record { more = braces depth; items = ends depth; same = closes depth line false }
place_goes_on depth line Ended = record { more = braces depth; items = ends depth; same = closes depth line true }
place_goes_on depth line (Named at name) = opens depth line at name
place_goes_on depth line (Valued at name) = record {
  more = 123 ∷ braces (suc depth);
  items = Begin at name ∷ ends (suc depth);
  same = ap (λ (r : Result (List Item) ℕ). with_item (Begin at name) r) (closes (suc depth) line false);
}

pub goes_on : (depth line : ℕ) (mode : Mode) → GoesOn depth line mode
goes_on depth line (Between place) = place_goes_on depth line place
goes_on depth line (InComment place) =
    let next = place_goes_on depth (suc line) place in
    record { more = 10 ∷ next.more; items = next.items; same = next.same }
goes_on depth line (InName at name) = record {
  more = 123 ∷ braces (suc depth);
  items = Begin at name ∷ ends (suc depth);
  same = ap (λ (r : Result (List Item) ℕ). with_item (Begin at name) r) (closes (suc depth) line false);
}
goes_on depth line (InWord at name word) = record {
  more = braces depth;
  items = Single at name (Word word) ∷ ends depth;
  same = ends_word depth line at name word (braces depth) (no_word depth)
      ∙ ap (λ (r : Result (List Item) ℕ). with_item (Single at name (Word word)) r) (closes depth line true);
}
goes_on depth line (InQuotes at name text) = record {
  more = 34 ∷ braces depth;
  items = Single at name (Text text) ∷ ends depth;
  same = ap (λ (r : Result (List Item) ℕ). with_item (Single at name (Text text)) r) (closes depth line true);
}
