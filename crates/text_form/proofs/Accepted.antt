-- What is read is what the text says: each step of the machine puts its byte in front of what follows.
use Rattle.std.proofs.Common.{◌≡◌, ◌∙◌, ℕ, zero, suc, ◌-◌, ◌<◌, nat_lt, Bool, true, false, ◌==◌, ◌&&◌, List, [], ◌∷◌, ◌++◌, inl, inr, Result, Ok, Err, if◌then◌else◌, refl, sym, ap, subst, arith, append_assoc}
use Rattle.std.proofs.lemmas.List.{append-nil}
use Rattle.std.proofs.lemmas.Bool.{cond_both, and_parts, eqb-true, ltb-true}
use Rattle.text_form.specs.Bytes.{is_blank, is_comment_byte, is_separator, is_name_start, is_name_byte, is_word_byte, is_text_byte, AreAll, line_behind}
use Rattle.text_form.specs.Entries.{Word, Text, Item, Single, Begin, End}
use Rattle.text_form.specs.Grammar.{Spot, spot, Stands, NoGap, Blank, Comment, StandsBehindGap, Brace, ColonBrace}
use Rattle.text_form.specs.Machine.{Place, Start, Ended, Named, Valued, Mode, Between, InComment, InName, InWord, InQuotes, Step, Moved, Refused, at_field, at_token, between, step, behind_item, at_end, items_from, behind_step, with_item, with_items}
use Rattle.text_form.proofs.ByteKinds.{differs, same_line}
use Rattle.text_form.proofs.Again.{with_items-ok}
use Rattle.text_form.proofs.Before.{IsRest, FollowsPlace, EndsAt, BytesLeft, QuotesLeft, ItemBefore, BlockBefore, Follows, place_longer, separator_before, field_before, close_before, nothing_before}

-- what follows the step follows here with the byte in front, and with the items that end there
abbrev pub Adds : (List Item → Spot → Type 0) → ℕ → ℕ → List ℕ → Step → Type 0
Adds Here line byte rest Refused = Unit {0}
Adds Here line byte rest (Moved items deep to) = (others : List Item) → Follows deep to others (spot (line_behind line byte) rest)
    → Here (items ++ others) (spot line (byte ∷ rest))

-- what follows stands on the same line
on_line : (depth line : ℕ) (mode : Mode) (byte : ℕ) (rest : List ℕ) (items : List Item) → (byte == 10) ≡ false
    → Follows depth mode items (spot (line_behind line byte) rest) → Follows depth mode items (spot line rest)
on_line depth line mode byte rest items feed follows =
    let P : ℕ → Type 0 = λ l. Follows depth mode items (spot l rest) in
    subst P (same_line line byte feed) follows

-- the byte is this one
at_byte : (Here : List Item → Spot → Type 0) (line byte known : ℕ) (rest : List ℕ) (to : Step) → (byte == known) ≡ true
    → Adds Here line known rest to → Adds Here line byte rest to
at_byte Here line byte known rest to is adds =
    let P : ℕ → Type 0 = λ b. Adds Here line b rest to in
    subst P (sym (eqb-true byte known is)) adds

-- one byte is a token
one_byte : (line byte : ℕ) (rest : List ℕ) → Stands (byte ∷ []) (spot line (byte ∷ rest)) (spot line rest)
one_byte line byte rest = record { same_line = refl; text_is = refl }

token_here : (line byte : ℕ) (rest : List ℕ) → StandsBehindGap byte (spot line (byte ∷ rest)) (spot line rest)
token_here line byte rest = record { before = spot line (byte ∷ rest); gap = NoGap _; token = one_byte line byte rest }

-- ---- between tokens

blank_adds : (depth line : ℕ) (place : Place) (byte : ℕ) (rest : List ℕ) → is_blank byte ≡ true
    → Adds (FollowsPlace depth place) line byte rest (Moved [] depth (Between place))
blank_adds depth line place byte rest is others follows =
    place_longer depth place others (spot (line_behind line byte) rest) (spot line (byte ∷ rest)) (λ there gap. Blank byte line rest there is gap) follows

-- a comment that isn't ended
last_comment : (depth line : ℕ) (place : Place) (rest : List ℕ) (items : List Item) → AreAll is_comment_byte rest → EndsAt depth place items
    → FollowsPlace depth place items (spot line (35 ∷ rest))
last_comment depth line Start rest items all ends =
    let P : ℕ → Type 0 = λ d. IsRest d false items (spot line (35 ∷ rest)) in
    let Q : List Item → Type 0 = λ l. IsRest 0 false l (spot line (35 ∷ rest)) in
    subst P (sym ends.0) (subst Q (sym ends.1) (nothing_before false (spot line (35 ∷ rest)) (inr (rest, refl, all))))
last_comment depth line Ended rest items all ends =
    let P : ℕ → Type 0 = λ d. IsRest d true items (spot line (35 ∷ rest)) in
    let Q : List Item → Type 0 = λ l. IsRest 0 true l (spot line (35 ∷ rest)) in
    subst P (sym ends.0) (subst Q (sym ends.1) (nothing_before true (spot line (35 ∷ rest)) (inr (rest, refl, all))))
last_comment depth line (Named at name) rest items all ends = absurd ends
last_comment depth line (Valued at name) rest items all ends = absurd ends

comment_adds : (depth line : ℕ) (place : Place) (rest : List ℕ) → Adds (FollowsPlace depth place) line 35 rest (Moved [] depth (InComment place))
comment_adds depth line place rest others (inl left) =
    let feed = left.behind in
    let whole : rest ≡ left.more ++ 10 ∷ feed.rest = left.text_is ∙ ap (λ (w : List ℕ). left.more ++ w) feed.feed in
    let P : List ℕ → Type 0 = λ w. FollowsPlace depth place others (spot line (35 ∷ w)) in
    subst P (sym whole) (place_longer depth place others (spot (suc line) feed.rest) (spot line (35 ∷ (left.more ++ 10 ∷ feed.rest)))
    (λ there gap. Comment left.more line feed.rest there left.all gap) feed.behind)
comment_adds depth line place rest others (inr last) = last_comment depth line place rest others last.0 last.1

-- ---- where a field may begin

name_adds : (depth line : ℕ) (after : Bool) (byte : ℕ) (rest : List ℕ) (items : List Item) → is_name_start byte ≡ true
    → Follows depth (InName line (byte ∷ [])) items (spot line rest) → IsRest depth after items (spot line (byte ∷ rest))
name_adds depth line after byte rest items is left =
    field_before depth after (byte ∷ left.more) items (spot line (byte ∷ rest)) (spot line left.rest)
    (record { is_name = (is, left.all); stands = record { same_line = refl; text_is = ap (λ (w : List ℕ). byte ∷ w) left.text_is } })
    left.behind

close_adds : (depth line : ℕ) (after : Bool) (rest : List ℕ) (items : List Item) → 0 < depth
    → IsRest (depth - 1) true items (spot line rest) → IsRest depth after (End ∷ items) (spot line (125 ∷ rest))
close_adds zero line after rest items some follows = absurd (omega (arith, some))
close_adds (suc depth) line after rest items some follows =
    let P : ℕ → Type 0 = λ d. IsRest d true items (spot line rest) in
    let less : suc depth - 1 ≡ depth = omega arith in
    close_before depth after items (spot line (125 ∷ rest)) (spot line rest) (one_byte line 125 rest) (subst P less follows)

field_adds : (depth line : ℕ) (after : Bool) (byte : ℕ) (rest : List ℕ) → Adds (IsRest depth after) line byte rest (at_field depth line byte)
field_adds depth line after byte rest =
    cond_both (is_name_start byte) _ _ (Adds (IsRest depth after) line byte rest)
    (λ is. λ others follows. name_adds depth line after byte rest others is
    (on_line depth line (InName line (byte ∷ [])) byte rest others (differs is_name_start byte 10 is refl) follows))
    (λ _. cond_both (byte == 125 && nat_lt 0 depth) _ _ (Adds (IsRest depth after) line byte rest)
    (λ is. let parts = and_parts (byte == 125) (nat_lt 0 depth) is in
    at_byte (IsRest depth after) line byte 125 rest (Moved (End ∷ []) (depth - 1) (Between Ended)) parts.0
    (λ others follows. close_adds depth line after rest others (ltb-true 0 depth parts.1) follows))
    (λ _. tt))

-- ---- tokens between which a gap may stand

open_adds : (depth line at : ℕ) (name : List ℕ) (rest : List ℕ) (items : List Item) → IsRest (suc depth) false items (spot line rest)
    → BlockBefore (StandsBehindGap 123) depth at name (Begin at name ∷ items) (spot line (123 ∷ rest))
open_adds depth line at name rest items follows =
    record { others = items; inside = spot line rest; items_are = refl; opens = token_here line 123 rest; rest = follows }

brace_adds : (depth line at : ℕ) (name : List ℕ) (rest : List ℕ) (items : List Item) → IsRest (suc depth) false items (spot line rest)
    → FollowsPlace depth (Named at name) (Begin at name ∷ items) (spot line (123 ∷ rest))
brace_adds depth line at name rest items follows =
    inr (record { others = items; inside = spot line rest; items_are = refl; opens = Brace _ _ (token_here line 123 rest); rest = follows })

colon_adds : (depth line at : ℕ) (name : List ℕ) (rest : List ℕ) (items : List Item) → FollowsPlace depth (Valued at name) items (spot line rest)
    → FollowsPlace depth (Named at name) items (spot line (58 ∷ rest))
colon_adds depth line at name rest items (inl value) = inl (record { behind = spot line rest; colon = token_here line 58 rest; value = value })
colon_adds depth line at name rest items (inr block) = inr (record {
  others = block.others;
  inside = block.inside;
  items_are = block.items_are;
  opens = ColonBrace (spot line (58 ∷ rest)) (spot line rest) block.inside (token_here line 58 rest) block.opens;
  rest = block.rest;
})

quotes_adds : (depth line at : ℕ) (name : List ℕ) (rest : List ℕ) (items : List Item) → Follows depth (InQuotes at name []) items (spot line rest)
    → FollowsPlace depth (Valued at name) items (spot line (34 ∷ rest))
quotes_adds depth line at name rest items left =
    let quotes = left.behind in
    let before = quotes.behind in
    inl (record {
      value = Text left.more;
      others = before.others;
      valued = spot line (34 ∷ rest);
      ended = spot line quotes.rest;
      items_are = before.items_are;
      gap = NoGap _;
      stands = (
        left.all,
        record {
          same_line = refl;
          text_is = ap (λ (w : List ℕ). 34 ∷ w) (left.text_is ∙ ap (λ (w : List ℕ). left.more ++ w) quotes.quotes ∙ sym (append_assoc left.more (34 ∷ []) quotes.rest));
        },
      );
      rest = before.rest;
    })

word_adds : (depth line at byte : ℕ) (name : List ℕ) (rest : List ℕ) (items : List Item) → is_word_byte byte ≡ true
    → Follows depth (InWord at name (byte ∷ [])) items (spot line rest) → FollowsPlace depth (Valued at name) items (spot line (byte ∷ rest))
word_adds depth line at byte name rest items is left =
    let before = left.behind.1 in
    inl (record {
      value = Word (byte ∷ left.more);
      others = before.others;
      valued = spot line (byte ∷ rest);
      ended = spot line left.rest;
      items_are = before.items_are;
      gap = NoGap _;
      stands = ((is, left.all), record { same_line = refl; text_is = ap (λ (w : List ℕ). byte ∷ w) left.text_is }, left.behind.0);
      rest = before.rest;
    })

token_adds : (depth line : ℕ) (place : Place) (byte : ℕ) (rest : List ℕ)
    → Adds (FollowsPlace depth place) line byte rest (at_token depth line place byte)
token_adds depth line Start byte rest = field_adds depth line false byte rest
token_adds depth line Ended byte rest =
    cond_both (is_separator byte) _ _ (Adds (IsRest depth true) line byte rest)
    (λ is. λ others follows. separator_before depth byte others (spot line (byte ∷ rest)) (spot line rest) is (one_byte line byte rest)
    (on_line depth line (Between Start) byte rest others (differs is_separator byte 10 is refl) follows))
    (λ _. field_adds depth line true byte rest)
token_adds depth line (Named at name) byte rest =
    let Here : List Item → Spot → Type 0 = FollowsPlace depth (Named at name) in
    cond_both (byte == 58) _ _ (Adds Here line byte rest)
    (λ is. at_byte Here line byte 58 rest (Moved [] depth (Between (Valued at name))) is (λ others follows. colon_adds depth line at name rest others follows))
    (λ _. cond_both (byte == 123) _ _ (Adds Here line byte rest)
    (λ is. at_byte Here line byte 123 rest (Moved (Begin at name ∷ []) (suc depth) (Between Start)) is (λ others follows. brace_adds depth line at name rest others follows))
    (λ _. tt))
token_adds depth line (Valued at name) byte rest =
    let Here : List Item → Spot → Type 0 = FollowsPlace depth (Valued at name) in
    cond_both (byte == 123) _ _ (Adds Here line byte rest)
    (λ is. at_byte Here line byte 123 rest (Moved (Begin at name ∷ []) (suc depth) (Between Start)) is (λ others follows. inr (open_adds depth line at name rest others follows)))
    (λ _. cond_both (byte == 34) _ _ (Adds Here line byte rest)
    (λ is. at_byte Here line byte 34 rest (Moved [] depth (InQuotes at name [])) is (λ others follows. quotes_adds depth line at name rest others follows))
    (λ _. cond_both (is_word_byte byte) _ _ (Adds Here line byte rest)
    (λ is. λ others follows. word_adds depth line at byte name rest others is
    (on_line depth line (InWord at name (byte ∷ [])) byte rest others (differs is_word_byte byte 10 is refl) follows))
    (λ _. tt)))

between_adds : (depth line : ℕ) (place : Place) (byte : ℕ) (rest : List ℕ)
    → Adds (FollowsPlace depth place) line byte rest (between depth line place byte)
between_adds depth line place byte rest =
    cond_both (is_blank byte) _ _ (Adds (FollowsPlace depth place) line byte rest)
    (λ is. blank_adds depth line place byte rest is)
    (λ _. cond_both (byte == 35) _ _ (Adds (FollowsPlace depth place) line byte rest)
    (λ is. at_byte (FollowsPlace depth place) line byte 35 rest (Moved [] depth (InComment place)) is (comment_adds depth line place rest))
    (λ _. token_adds depth line place byte rest))

-- ---- inside tokens

-- one byte more is left
left_before : (kind : ℕ → Bool) (Old New : List ℕ → Spot → Type 0) (line byte : ℕ) (rest : List ℕ) → kind byte ≡ true
    → ((more : List ℕ) (there : Spot) → Old more there → New (byte ∷ more) there)
    → BytesLeft kind Old (spot line rest) → BytesLeft kind New (spot line (byte ∷ rest))
left_before kind Old New line byte rest is other left = record {
  more = byte ∷ left.more;
  rest = left.rest;
  text_is = ap (λ (w : List ℕ). byte ∷ w) left.text_is;
  all = (is, left.all);
  behind = other left.more (spot line left.rest) left.behind;
}

nothing_more : (kind : ℕ → Bool) (Behind : List ℕ → Spot → Type 0) (here : Spot) → Behind [] here → BytesLeft kind Behind here
nothing_more kind Behind here behind = record { more = []; rest = here.rest; text_is = refl; all = tt; behind = behind }

in_comment_adds : (depth line : ℕ) (place : Place) (byte : ℕ) (rest : List ℕ)
    → Adds (Follows depth (InComment place)) line byte rest (step depth line (InComment place) byte)
in_comment_adds depth line place byte rest =
    let Here : List Item → Spot → Type 0 = Follows depth (InComment place) in
    cond_both (byte == 10) _ _ (Adds Here line byte rest)
    (λ is. at_byte Here line byte 10 rest (Moved [] depth (Between place)) is (λ others follows. inl (nothing_more is_comment_byte _ (spot line (10 ∷ rest))
    (record { rest = rest; feed = refl; behind = follows }))))
    (λ feed. cond_both (is_comment_byte byte) _ _ (Adds Here line byte rest)
    (λ is. λ others follows. goes_on is others (on_line depth line (InComment place) byte rest others feed follows))
    (λ _. tt))
  where
    goes_on : is_comment_byte byte ≡ true → (others : List Item) → Follows depth (InComment place) others (spot line rest)
        → Follows depth (InComment place) others (spot line (byte ∷ rest))
    goes_on is others (inl left) = inl (left_before is_comment_byte _ _ line byte rest is (λ more there behind. behind) left)
    goes_on is others (inr last) = inr ((is, last.0), last.1)

in_name_adds : (depth line at : ℕ) (name : List ℕ) (byte : ℕ) (rest : List ℕ)
    → Adds (Follows depth (InName at name)) line byte rest (step depth line (InName at name) byte)
in_name_adds depth line at name byte rest =
    cond_both (is_name_byte byte) _ _ (Adds (Follows depth (InName at name)) line byte rest)
    (λ is. λ others follows. left_before is_name_byte _ _ line byte rest is
    (λ more there behind. let P : List ℕ → Type 0 = λ w. FollowsPlace depth (Named at w) others there in
    subst P (append_assoc name (byte ∷ []) more) behind)
    (on_line depth line (InName at (name ++ byte ∷ [])) byte rest others (differs is_name_byte byte 10 is refl) follows))
    (λ _. ended (between depth line (Named at name) byte) (between_adds depth line (Named at name) byte rest))
  where
    ended : (to : Step) → Adds (FollowsPlace depth (Named at name)) line byte rest to → Adds (Follows depth (InName at name)) line byte rest to
    ended Refused adds = tt
    ended (Moved items deep mode) adds = λ others follows.
        let P : List ℕ → Type 0 = λ w. FollowsPlace depth (Named at w) (items ++ others) (spot line (byte ∷ rest)) in
        nothing_more is_name_byte _ (spot line (byte ∷ rest)) (subst P (sym (append-nil name)) (adds others follows))

in_word_adds : (depth line at : ℕ) (name word : List ℕ) (byte : ℕ) (rest : List ℕ)
    → Adds (Follows depth (InWord at name word)) line byte rest (step depth line (InWord at name word) byte)
in_word_adds depth line at name word byte rest =
    cond_both (is_word_byte byte) _ _ (Adds (Follows depth (InWord at name word)) line byte rest)
    (λ is. λ others follows. left_before is_word_byte _ _ line byte rest is
    (λ more there behind. let P : List ℕ → Type 0 = λ w. ItemBefore depth (Single at name (Word w)) others there in
    (behind.0, subst P (append_assoc word (byte ∷ []) more) behind.1))
    (on_line depth line (InWord at name (word ++ byte ∷ [])) byte rest others (differs is_word_byte byte 10 is refl) follows))
    (λ ends. ended ends (between depth line Ended byte) (between_adds depth line Ended byte rest))
  where
    ended : is_word_byte byte ≡ false → (to : Step) → Adds (IsRest depth true) line byte rest to
        → Adds (Follows depth (InWord at name word)) line byte rest (behind_item (Single at name (Word word)) to)
    ended ends Refused adds = tt
    ended ends (Moved items deep mode) adds = λ others follows.
        nothing_more is_word_byte _ (spot line (byte ∷ rest))
        (ends, record { others = items ++ others; items_are = ap (λ (w : List ℕ). Single at name (Word w) ∷ (items ++ others)) (sym (append-nil word)); rest = adds others follows })

in_quotes_adds : (depth line at : ℕ) (name text : List ℕ) (byte : ℕ) (rest : List ℕ)
    → Adds (Follows depth (InQuotes at name text)) line byte rest (step depth line (InQuotes at name text) byte)
in_quotes_adds depth line at name text byte rest =
    let Here : List Item → Spot → Type 0 = Follows depth (InQuotes at name text) in
    cond_both (byte == 34) _ _ (Adds Here line byte rest)
    (λ is. at_byte Here line byte 34 rest (Moved (Single at name (Text text) ∷ []) depth (Between Ended)) is (λ others follows. nothing_more is_text_byte _ (spot line (34 ∷ rest))
    (record {
      rest = rest;
      quotes = refl;
      behind = record {
        others = others;
        items_are = ap (λ (w : List ℕ). Single at name (Text w) ∷ others) (sym (append-nil text));
        rest = follows;
      };
    })))
    (λ _. cond_both (is_text_byte byte) _ _ (Adds Here line byte rest)
    (λ is. λ others follows. left_before is_text_byte _ _ line byte rest is
    (λ more there behind. let P : List ℕ → Type 0 = λ w. QuotesLeft (λ next. ItemBefore depth (Single at name (Text w)) others next) there in
    subst P (append_assoc text (byte ∷ []) more) behind)
    (on_line depth line (InQuotes at name (text ++ byte ∷ [])) byte rest others (differs is_text_byte byte 10 is refl) follows))
    (λ _. tt))

step_adds : (depth line : ℕ) (mode : Mode) (byte : ℕ) (rest : List ℕ) → Adds (Follows depth mode) line byte rest (step depth line mode byte)
step_adds depth line (Between place) byte rest = between_adds depth line place byte rest
step_adds depth line (InComment place) byte rest = in_comment_adds depth line place byte rest
step_adds depth line (InName at name) byte rest = in_name_adds depth line at name byte rest
step_adds depth line (InWord at name word) byte rest = in_word_adds depth line at name word byte rest
step_adds depth line (InQuotes at name text) byte rest = in_quotes_adds depth line at name text byte rest

-- ---- the whole text

-- items that are read follow here
abbrev pub AreHere : ℕ → Mode → Spot → Result (List Item) ℕ → Type 0
AreHere depth mode here (Ok items) = Follows depth mode items here
AreHere depth mode here (Err line) = Unit {0}

-- the text ends here, where no block is open
end_follows : (depth line : ℕ) (mode : Mode) (items : List Item) → Follows 0 mode items (spot line [])
    → AreHere depth mode (spot line []) (if depth == 0 then Ok items else Err line)
end_follows depth line mode items follows =
    cond_both (depth == 0) (Ok items) (Err line) (AreHere depth mode (spot line []))
    (λ is. let P : ℕ → Type 0 = λ d. Follows d mode items (spot line []) in subst P (sym (eqb-true depth 0 is)) follows)
    (λ _. tt)

ends : (depth line : ℕ) (mode : Mode) → AreHere depth mode (spot line []) (at_end depth line mode)
ends depth line (Between Start) = end_follows depth line (Between Start) [] (nothing_before false (spot line []) (inl refl))
ends depth line (Between Ended) = end_follows depth line (Between Ended) [] (nothing_before true (spot line []) (inl refl))
ends depth line (Between (Named at name)) = tt
ends depth line (Between (Valued at name)) = tt
ends depth line (InComment Start) = end_follows depth line (InComment Start) [] (inr (tt, (refl, refl)))
ends depth line (InComment Ended) = end_follows depth line (InComment Ended) [] (inr (tt, (refl, refl)))
ends depth line (InComment (Named at name)) = tt
ends depth line (InComment (Valued at name)) = tt
ends depth line (InName at name) = tt
ends depth line (InWord at name word) = end_follows depth line (InWord at name word) (Single at name (Word word) ∷ [])
    (nothing_more is_word_byte _ (spot line []) (
      tt,
      record {
        others = [];
        items_are = ap (λ (w : List ℕ). Single at name (Word w) ∷ []) (sym (append-nil word));
        rest = nothing_before true (spot line []) (inl refl);
      },
    ))
ends depth line (InQuotes at name text) = tt

pub with_items-err : (items : List Item) (line : ℕ) → with_items items (Err line) ≡ Err line
with_items-err [] line = refl
with_items-err (item ∷ items) line = ap (λ (r : Result (List Item) ℕ). with_item item r) (with_items-err items line)

pub accepted : (depth line : ℕ) (mode : Mode) (text : List ℕ) → AreHere depth mode (spot line text) (items_from depth line mode text)
accepted depth line mode [] = ends depth line mode
accepted depth line mode (byte ∷ rest) =
    behind (λ deep to. accepted deep (line_behind line byte) to rest) (step depth line mode byte) (step_adds depth line mode byte rest)
  where
    joined : (deep : ℕ) (to : Mode) (items : List Item) → ((others : List Item) → Follows deep to others (spot (line_behind line byte) rest)
        → Follows depth mode (items ++ others) (spot line (byte ∷ rest)))
        → (r : Result (List Item) ℕ) → AreHere deep to (spot (line_behind line byte) rest) r → AreHere depth mode (spot line (byte ∷ rest)) (with_items items r)
    joined deep to items adds (Ok others) follows =
        let P : Result (List Item) ℕ → Type 0 = AreHere depth mode (spot line (byte ∷ rest)) in
        subst P (sym (with_items-ok items others)) (adds others follows)
    joined deep to items adds (Err bad) follows =
        let P : Result (List Item) ℕ → Type 0 = AreHere depth mode (spot line (byte ∷ rest)) in
        subst P (sym (with_items-err items bad)) tt

    behind : ((deep : ℕ) (to : Mode) → AreHere deep to (spot (line_behind line byte) rest) (items_from deep (line_behind line byte) to rest))
        → (to : Step) → Adds (Follows depth mode) line byte rest to
        → AreHere depth mode (spot line (byte ∷ rest)) (behind_step line (λ deep mode. items_from deep (line_behind line byte) mode rest) to)
    behind later Refused adds = tt
    behind later (Moved items deep to) adds = joined deep to items adds (items_from deep (line_behind line byte) to rest) (later deep to)
