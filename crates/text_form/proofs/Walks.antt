-- What the machine does over a run of bytes, a token or the bytes between two tokens: one equation each.
use Rattle.std.proofs.Common.{◌≡◌, ◌∙◌, ℕ, suc, ◌-◌, nat_lt, Bool, true, false, ◌==◌, List, [], ◌∷◌, ◌++◌, Result, Ok, Err, refl, sym, ap, subst, arith, append_assoc}
use Rattle.std.proofs.lemmas.List.{append-nil}
use Rattle.std.proofs.lemmas.Bool.{cond-true, cond-false, cond_both, lt-ltb}
use Rattle.text_form.specs.Bytes.{is_blank, is_comment_byte, is_separator, is_name_start, is_name_byte, is_word_byte, is_text_byte, AreAll, line_behind}
use Rattle.text_form.specs.Entries.{Word, Text, Item, Single, End}
use Rattle.text_form.specs.Grammar.{EndsRun, IsName, IsWord}
use Rattle.text_form.specs.Machine.{Place, Start, Ended, Named, Valued, Mode, Between, InComment, InName, InWord, InQuotes, Step, Moved, Refused, at_field, at_token, between, step, behind_item, items_from, behind_step, with_item}
use Rattle.text_form.specs.Walking.{begins_gap, place_before, EndsLine}
use Rattle.text_form.proofs.ByteKinds.{differs, not_blank, not_separator, gap_parts, same_line}

-- a step whose outcome is known
pub goes : (depth line : ℕ) (mode : _) (byte : ℕ) (rest : List ℕ) (to : Step) → step depth line mode byte ≡ to
    → items_from depth line mode (byte ∷ rest) ≡ behind_step line (λ deep mode. items_from deep (line_behind line byte) mode rest) to
goes depth line mode byte rest to is = ap (behind_step line (λ deep mode. items_from deep (line_behind line byte) mode rest)) is

-- the same on one line
pub stays : (depth line : ℕ) (mode : _) (byte : ℕ) (rest : List ℕ) (to : Step) → (byte == 10) ≡ false → step depth line mode byte ≡ to
    → items_from depth line mode (byte ∷ rest) ≡ behind_step line (λ deep mode. items_from deep line mode rest) to
stays depth line mode byte rest to feed is =
    goes depth line mode byte rest to is
    ∙ ap (λ (l : ℕ). behind_step line (λ deep mode. items_from deep l mode rest) to) (same_line line byte feed)

-- ---- between tokens

pub over_blank : (depth line : ℕ) (place : Place) (byte : ℕ) (rest : List ℕ) → is_blank byte ≡ true
    → items_from depth line (Between place) (byte ∷ rest) ≡ items_from depth (line_behind line byte) (Between place) rest
over_blank depth line place byte rest is = goes depth line (Between place) byte rest _ (cond-true (is_blank byte) _ _ is)

-- a byte of a token
pub token_byte : (depth line : ℕ) (place : Place) (byte : ℕ) → is_blank byte ≡ false → (byte == 35) ≡ false
    → between depth line place byte ≡ at_token depth line place byte
token_byte depth line place byte blank sharp = cond-false (is_blank byte) _ _ blank ∙ cond-false (byte == 35) _ _ sharp

-- ---- comments

pub over_comment : (depth line : ℕ) (place : Place) (bytes rest : List ℕ) → AreAll is_comment_byte bytes
    → items_from depth line (InComment place) (bytes ++ rest) ≡ items_from depth line (InComment place) rest
over_comment depth line place [] rest all = refl
over_comment depth line place (byte ∷ bytes) rest all =
    let plain = differs is_comment_byte byte 10 all.0 refl in
    stays depth line (InComment place) byte (bytes ++ rest) _ plain
    (cond-false (byte == 10) _ _ plain ∙ cond-true (is_comment_byte byte) _ _ all.0)
    ∙ over_comment depth line place bytes rest all.1

-- the end of the text or a line feed ends a comment
pub ends_comment : (depth line : ℕ) (place : Place) (rest : List ℕ) → EndsLine rest
    → items_from depth line (InComment place) rest ≡ items_from depth line (Between place) rest
ends_comment depth line Start [] ends = refl
ends_comment depth line Ended [] ends = refl
ends_comment depth line (Named at name) [] ends = refl
ends_comment depth line (Valued at name) [] ends = refl
ends_comment depth line place (byte ∷ rest) ends =
    let P : ℕ → Type 0 = λ b. items_from depth line (InComment place) (b ∷ rest) ≡ items_from depth line (Between place) (b ∷ rest) in
    subst P (sym ends) refl

-- ---- names

pub begins_name : (depth line : ℕ) (after : Bool) (byte : ℕ) (rest : List ℕ) → is_name_start byte ≡ true
    → items_from depth line (Between (place_before after)) (byte ∷ rest) ≡ items_from depth line (InName line (byte ∷ [])) rest
begins_name depth line after byte rest is =
    stays depth line (Between (place_before after)) byte rest (Moved [] depth (InName line (byte ∷ []))) (differs is_name_start byte 10 is refl)
    (token_byte depth line (place_before after) byte (not_blank is_name_start byte is refl refl refl refl) (differs is_name_start byte 35 is refl)
    ∙ token after)
  where
    field : at_field depth line byte ≡ Moved [] depth (InName line (byte ∷ []))
    field = cond-true (is_name_start byte) _ _ is

    token : (behind : Bool) → at_token depth line (place_before behind) byte ≡ Moved [] depth (InName line (byte ∷ []))
    token true = cond-false (is_separator byte) _ _ (not_separator is_name_start byte is refl refl) ∙ field
    token false = field

pub over_name : (depth line at : ℕ) (name bytes rest : List ℕ) → AreAll is_name_byte bytes
    → items_from depth line (InName at name) (bytes ++ rest) ≡ items_from depth line (InName at (name ++ bytes)) rest
over_name depth line at name [] rest all = ap (λ (w : List ℕ). items_from depth line (InName at w) rest) (sym (append-nil name))
over_name depth line at name (byte ∷ bytes) rest all =
    stays depth line (InName at name) byte (bytes ++ rest) _ (differs is_name_byte byte 10 all.0 refl)
    (cond-true (is_name_byte byte) _ _ all.0)
    ∙ over_name depth line at (name ++ byte ∷ []) bytes rest all.1
    ∙ ap (λ (w : List ℕ). items_from depth line (InName at w) rest) (append_assoc name (byte ∷ []) bytes)

pub ends_name : (depth line at : ℕ) (name rest : List ℕ) → EndsRun is_name_byte rest
    → items_from depth line (InName at name) rest ≡ items_from depth line (Between (Named at name)) rest
ends_name depth line at name [] ends = refl
ends_name depth line at name (byte ∷ rest) ends =
    goes depth line (InName at name) byte rest _ (cond-false (is_name_byte byte) _ _ ends)

-- a whole name
pub reads_name : (depth line : ℕ) (after : Bool) (name rest : List ℕ) → IsName name → EndsRun is_name_byte rest
    → items_from depth line (Between (place_before after)) (name ++ rest) ≡ items_from depth line (Between (Named line name)) rest
reads_name depth line after [] rest is ends = absurd is
reads_name depth line after (byte ∷ bytes) rest is ends =
    begins_name depth line after byte (bytes ++ rest) is.0
    ∙ over_name depth line line (byte ∷ []) bytes rest is.1
    ∙ ends_name depth line line (byte ∷ bytes) rest ends

-- ---- words

item_first : (line : ℕ) (go_on : ℕ → Mode → Result (List Item) ℕ) (item : Item) (to : Step)
    → behind_step line go_on (behind_item item to) ≡ with_item item (behind_step line go_on to)
item_first line go_on item Refused = refl
item_first line go_on item (Moved items depth mode) = refl

pub over_word : (depth line at : ℕ) (name word bytes rest : List ℕ) → AreAll is_word_byte bytes
    → items_from depth line (InWord at name word) (bytes ++ rest) ≡ items_from depth line (InWord at name (word ++ bytes)) rest
over_word depth line at name word [] rest all = ap (λ (w : List ℕ). items_from depth line (InWord at name w) rest) (sym (append-nil word))
over_word depth line at name word (byte ∷ bytes) rest all =
    stays depth line (InWord at name word) byte (bytes ++ rest) _ (differs is_word_byte byte 10 all.0 refl)
    (cond-true (is_word_byte byte) _ _ all.0)
    ∙ over_word depth line at name (word ++ byte ∷ []) bytes rest all.1
    ∙ ap (λ (w : List ℕ). items_from depth line (InWord at name w) rest) (append_assoc word (byte ∷ []) bytes)

pub ends_word : (depth line at : ℕ) (name word rest : List ℕ) → EndsRun is_word_byte rest
    → items_from depth line (InWord at name word) rest ≡ with_item (Single at name (Word word)) (items_from depth line (Between Ended) rest)
ends_word depth line at name word [] ends =
    cond_both (depth == 0) (Ok []) (Err line)
    (λ (r : Result (List Item) ℕ). items_from depth line (InWord at name word) [] ≡ with_item (Single at name (Word word)) r)
    (λ is. cond-true (depth == 0) _ _ is) (λ isnt. cond-false (depth == 0) _ _ isnt)
ends_word depth line at name word (byte ∷ rest) ends =
    goes depth line (InWord at name word) byte rest _ (cond-false (is_word_byte byte) _ _ ends)
    ∙ item_first line _ (Single at name (Word word)) (between depth line Ended byte)

-- a whole word
pub reads_word : (depth line at : ℕ) (name word rest : List ℕ) → IsWord word → EndsRun is_word_byte rest
    → items_from depth line (Between (Valued at name)) (word ++ rest)
    ≡ with_item (Single at name (Word word)) (items_from depth line (Between Ended) rest)
reads_word depth line at name [] rest is ends = absurd is
reads_word depth line at name (byte ∷ bytes) rest is ends =
    stays depth line (Between (Valued at name)) byte (bytes ++ rest) (Moved [] depth (InWord at name (byte ∷ []))) (differs is_word_byte byte 10 is.0 refl)
    (token_byte depth line (Valued at name) byte (not_blank is_word_byte byte is.0 refl refl refl refl) (differs is_word_byte byte 35 is.0 refl)
    ∙ cond-false (byte == 123) _ _ (differs is_word_byte byte 123 is.0 refl)
    ∙ cond-false (byte == 34) _ _ (differs is_word_byte byte 34 is.0 refl)
    ∙ cond-true (is_word_byte byte) _ _ is.0)
    ∙ over_word depth line at name (byte ∷ []) bytes rest is.1
    ∙ ends_word depth line at name (byte ∷ bytes) rest ends

-- ---- texts in quotes

pub over_text : (depth line at : ℕ) (name text bytes rest : List ℕ) → AreAll is_text_byte bytes
    → items_from depth line (InQuotes at name text) (bytes ++ rest) ≡ items_from depth line (InQuotes at name (text ++ bytes)) rest
over_text depth line at name text [] rest all = ap (λ (w : List ℕ). items_from depth line (InQuotes at name w) rest) (sym (append-nil text))
over_text depth line at name text (byte ∷ bytes) rest all =
    stays depth line (InQuotes at name text) byte (bytes ++ rest) _ (differs is_text_byte byte 10 all.0 refl)
    (cond-false (byte == 34) _ _ (differs is_text_byte byte 34 all.0 refl) ∙ cond-true (is_text_byte byte) _ _ all.0)
    ∙ over_text depth line at name (text ++ byte ∷ []) bytes rest all.1
    ∙ ap (λ (w : List ℕ). items_from depth line (InQuotes at name w) rest) (append_assoc text (byte ∷ []) bytes)

-- a whole text
pub reads_text : (depth line at : ℕ) (name text rest : List ℕ) → AreAll is_text_byte text
    → items_from depth line (Between (Valued at name)) (34 ∷ (text ++ 34 ∷ rest))
    ≡ with_item (Single at name (Text text)) (items_from depth line (Between Ended) rest)
reads_text depth line at name text rest all = over_text depth line at name [] text (34 ∷ rest) all

-- ---- separators and braces

pub over_separator : (depth line byte : ℕ) (rest : List ℕ) → is_separator byte ≡ true
    → items_from depth line (Between Ended) (byte ∷ rest) ≡ items_from depth line (Between Start) rest
over_separator depth line byte rest is =
    stays depth line (Between Ended) byte rest (Moved [] depth (Between Start)) (differs is_separator byte 10 is refl)
    (token_byte depth line Ended byte (not_blank is_separator byte is refl refl refl refl) (differs is_separator byte 35 is refl)
    ∙ cond-true (is_separator byte) _ _ is)

pub reads_close : (depth line : ℕ) (after : Bool) (rest : List ℕ)
    → items_from (suc depth) line (Between (place_before after)) (125 ∷ rest) ≡ with_item End (items_from depth line (Between Ended) rest)
reads_close depth line after rest = goes (suc depth) line (Between (place_before after)) 125 rest (Moved (End ∷ []) depth (Between Ended)) (closes after)
  where
    field : at_field (suc depth) line 125 ≡ Moved (End ∷ []) depth (Between Ended)
    field = cond-true (nat_lt 0 (suc depth)) (Moved (End ∷ []) (suc depth - 1) (Between Ended)) Refused (lt-ltb 0 (suc depth) (omega arith))
        ∙ ap (λ (n : ℕ). Moved (End ∷ []) n (Between Ended)) (omega arith)

    closes : (behind : Bool) → at_token (suc depth) line (place_before behind) 125 ≡ Moved (End ∷ []) depth (Between Ended)
    closes true = field
    closes false = field

-- where no separator stands it doesn't matter whether a field was before
pub ended_starts : (depth line : ℕ) (rest : List ℕ) → EndsRun begins_gap rest → EndsRun is_separator rest
    → items_from depth line (Between Ended) rest ≡ items_from depth line (Between Start) rest
ended_starts depth line [] gap ends = refl
ended_starts depth line (byte ∷ rest) gap ends =
    let parts = gap_parts byte gap in
    goes depth line (Between Ended) byte rest (between depth line Start byte)
    (token_byte depth line Ended byte parts.0 parts.1 ∙ cond-false (is_separator byte) _ _ ends
    ∙ sym (token_byte depth line Start byte parts.0 parts.1))
