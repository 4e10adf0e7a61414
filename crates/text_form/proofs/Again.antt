-- What a text says is read: each part of the grammar takes the machine from one spot to the other.
use Rattle.std.proofs.Common.{◌≡◌, ◌∙◌, ℕ, suc, Bool, true, false, List, [], ◌∷◌, ◌++◌, Result, Ok, refl, sym, ap, subst, append_assoc, inl, inr}
use Rattle.std.proofs.lemmas.List.{append-nil}
use Rattle.text_form.specs.Bytes.{is_blank, is_name_byte, line_behind}
use Rattle.text_form.specs.Entries.{Value, Word, Text, Entries, Item, Single, Begin, End, items_of}
use Rattle.text_form.specs.Grammar.{Spot, spot, Stands, Gap, NoGap, Blank, Comment, Lead, Plain, Separated, EndsRun, StandsName, StandsValue, StandsBehindGap, Opens, Brace, ColonBrace, Fields, NoField, ValueField, BlockField, IsEnd}
use Rattle.text_form.specs.Machine.{Place, Start, Ended, Named, Valued, Mode, Between, InComment, items_from, items_or_line, with_item, with_items}
use Rattle.text_form.specs.Walking.{place_before}
use Rattle.text_form.specs.Laws.{FieldsAreRead}
use Rattle.text_form.proofs.ByteKinds.{blank_is_none}
use Rattle.text_form.proofs.Walks.{over_blank, over_comment, over_separator, reads_name, reads_word, reads_text, reads_close}

-- ---- between tokens

pub gap_reads : (depth : ℕ) (place : Place) (here there : Spot) → Gap here there
    → items_from depth here.line (Between place) here.rest ≡ items_from depth there.line (Between place) there.rest
gap_reads depth place _ _ (NoGap here) = refl
gap_reads depth place _ _ (Blank byte line rest there is gap) =
    over_blank depth line place byte rest is ∙ gap_reads depth place (spot (line_behind line byte) rest) there gap
gap_reads depth place _ _ (Comment bytes line rest there all gap) =
    over_comment depth line place bytes (10 ∷ rest) all ∙ gap_reads depth place (spot (suc line) rest) there gap

-- a token is all that stands between two spots
stands_reads : (depth : ℕ) (mode : Mode) (bytes : List ℕ) (here there : Spot) → Stands bytes here there
    → items_from depth here.line mode here.rest ≡ items_from depth there.line mode (bytes ++ there.rest)
stands_reads depth mode bytes here there stands =
    ap (λ (line : ℕ). items_from depth line mode here.rest) (sym stands.same_line)
    ∙ ap (λ (rest : List ℕ). items_from depth there.line mode rest) stands.text_is

-- the machine goes from one spot to another, behind which a field may begin
record Reaches (depth : ℕ) (after : Bool) (here there : Spot) (items : List Item) : Type 0 where
  pub behind : Bool
  pub same : items_from depth here.line (Between (place_before after)) here.rest
      ≡ with_items items (items_from depth there.line (Between (place_before behind)) there.rest)

lead_reads : (depth : ℕ) (after : Bool) (here there : Spot) → Lead after here there → Reaches depth after here there []
lead_reads depth _ _ _ (Plain after here there gap) = record { behind = after; same = gap_reads depth (place_before after) here there gap }
lead_reads depth _ _ _ (Separated byte here before behind there is gap stands later) = record {
  behind = false;
  same = gap_reads depth Ended here before gap
      ∙ stands_reads depth (Between Ended) (byte ∷ []) before behind stands
      ∙ over_separator depth behind.line byte behind.rest is
      ∙ gap_reads depth Start behind there later;
}

-- ---- names

-- a run of bytes that no gap has ends before a gap
gap_ends : (kind : ℕ → Bool) (here there : Spot) → ((byte : ℕ) → is_blank byte ≡ true → kind byte ≡ false) → kind 35 ≡ false
    → Gap here there → EndsRun kind there.rest → EndsRun kind here.rest
gap_ends kind _ _ blank sharp (NoGap here) ends = ends
gap_ends kind _ _ blank sharp (Blank byte line rest there is gap) ends = blank byte is
gap_ends kind _ _ blank sharp (Comment bytes line rest there all gap) ends = sharp

ends_before : (byte : ℕ) (here there : Spot) → is_name_byte byte ≡ false → StandsBehindGap byte here there → EndsRun is_name_byte here.rest
ends_before byte here there other token =
    let P : List ℕ → Type 0 = λ rest. EndsRun is_name_byte rest in
    gap_ends is_name_byte here token.before (λ b is. blank_is_none is_name_byte b is refl refl refl refl) refl token.gap
    (subst P (sym token.token.text_is) other)

ends_before_block : (here there : Spot) → Opens here there → EndsRun is_name_byte here.rest
ends_before_block _ _ (Brace here there brace) = ends_before 123 here there refl brace
ends_before_block _ _ (ColonBrace here behind there colon brace) = ends_before 58 here behind refl colon

name_reads : (depth : ℕ) (after : Bool) (name : List ℕ) (at named : Spot) → StandsName name at named → EndsRun is_name_byte named.rest
    → items_from depth at.line (Between (place_before after)) at.rest ≡ items_from depth named.line (Between (Named at.line name)) named.rest
name_reads depth after name at named stands ends =
    stands_reads depth (Between (place_before after)) name at named stands.stands
    ∙ reads_name depth named.line after name named.rest stands.is_name ends
    ∙ ap (λ (line : ℕ). items_from depth named.line (Between (Named line name)) named.rest) stands.stands.same_line

-- ---- what stands behind a name

token_reads : (depth : ℕ) (place : Place) (byte : ℕ) (here there : Spot) → StandsBehindGap byte here there
    → items_from depth here.line (Between place) here.rest ≡ items_from depth there.line (Between place) (byte ∷ there.rest)
token_reads depth place byte here there token =
    gap_reads depth place here token.before token.gap ∙ stands_reads depth (Between place) (byte ∷ []) token.before there token.token

value_reads : (depth line : ℕ) (name : List ℕ) (value : Value) (here there : Spot) → StandsValue value here there
    → items_from depth here.line (Between (Valued line name)) here.rest
    ≡ with_item (Single line name value) (items_from depth there.line (Between Ended) there.rest)
value_reads depth line name (Word bytes) here there is =
    stands_reads depth (Between (Valued line name)) bytes here there is.1 ∙ reads_word depth there.line line name bytes there.rest is.0 is.2
value_reads depth line name (Text bytes) here there is =
    stands_reads depth (Between (Valued line name)) (34 ∷ (bytes ++ 34 ∷ [])) here there is.1
    ∙ ap (λ (rest : List ℕ). items_from depth there.line (Between (Valued line name)) (34 ∷ rest)) (append_assoc bytes (34 ∷ []) there.rest)
    ∙ reads_text depth there.line line name bytes there.rest is.0

opens_reads : (depth line : ℕ) (name : List ℕ) (here there : Spot) → Opens here there
    → items_from depth here.line (Between (Named line name)) here.rest
    ≡ with_item (Begin line name) (items_from (suc depth) there.line (Between Start) there.rest)
opens_reads depth line name _ _ (Brace here there brace) = token_reads depth (Named line name) 123 here there brace
opens_reads depth line name _ _ (ColonBrace here behind there colon brace) =
    token_reads depth (Named line name) 58 here behind colon ∙ token_reads depth (Valued line name) 123 behind there brace

-- ---- fields

pub with_items-append : (front back : List Item) (rest : Result (List Item) ℕ) → with_items (front ++ back) rest ≡ with_items front (with_items back rest)
with_items-append [] back rest = refl
with_items-append (item ∷ front) back rest = ap (λ (r : Result (List Item) ℕ). with_item item r) (with_items-append front back rest)

pub with_items-ok : (items others : List Item) → with_items items (Ok others) ≡ Ok (items ++ others)
with_items-ok [] others = refl
with_items-ok (item ∷ items) others = ap (λ (r : Result (List Item) ℕ). with_item item r) (with_items-ok items others)

fields_reach : (depth : ℕ) (after : Bool) (entries : Entries) (here there : Spot) → Fields after entries here there
    → Reaches depth after here there (items_of entries)
fields_reach depth _ _ _ _ (NoField after here there lead) = lead_reads depth after here there lead
fields_reach depth _ _ _ _ (ValueField after name value others here at named behind valued ended there lead stands colon gap is later) =
    let led = lead_reads depth after here at lead in
    let tail = fields_reach depth true others ended there later in
    record {
      behind = tail.behind;
      same = led.same
          ∙ name_reads depth led.behind name at named stands (ends_before 58 named behind refl colon)
          ∙ token_reads depth (Named at.line name) 58 named behind colon
          ∙ gap_reads depth (Valued at.line name) behind valued gap
          ∙ value_reads depth at.line name value valued ended is
          ∙ ap (λ (r : Result (List Item) ℕ). with_item (Single at.line name value) r) tail.same;
    }
fields_reach depth _ _ _ _ (BlockField after name inner others here at named inside last ended there lead stands opens within close later) =
    let led = lead_reads depth after here at lead in
    let block = fields_reach (suc depth) false inner inside last within in
    let tail = fields_reach depth true others ended there later in
    let closed = stands_reads (suc depth) (Between (place_before block.behind)) (125 ∷ []) last ended close
    ∙ reads_close depth ended.line block.behind ended.rest
    ∙ ap (λ (r : Result (List Item) ℕ). with_item End r) tail.same in
    record {
      behind = tail.behind;
      same = led.same
          ∙ name_reads depth led.behind name at named stands (ends_before_block named inside opens)
          ∙ opens_reads depth at.line name named inside opens
          ∙ ap (λ (r : Result (List Item) ℕ). with_item (Begin at.line name) r)
          (block.same ∙ ap (with_items (items_of inner)) closed ∙ sym (with_items-append (items_of inner) (End ∷ items_of others) _));
    }

-- ---- the end

nothing_left : (line : ℕ) (after : Bool) (rest : List ℕ) → IsEnd rest → items_from 0 line (Between (place_before after)) rest ≡ Ok []
nothing_left line after rest (inl none) = ap (items_from 0 line (Between (place_before after))) none ∙ ended after
  where
    ended : (behind : Bool) → items_from 0 line (Between (place_before behind)) [] ≡ Ok []
    ended true = refl
    ended false = refl
nothing_left line after rest (inr last) =
    ap (items_from 0 line (Between (place_before after))) (last.1 ∙ ap (λ (w : List ℕ). 35 ∷ w) (sym (append-nil last.0)))
    ∙ opened after
    ∙ over_comment 0 line (place_before after) last.0 [] last.2
    ∙ ended after
  where
    opened : (behind : Bool) → items_from 0 line (Between (place_before behind)) (35 ∷ (last.0 ++ [])) ≡ items_from 0 line (InComment (place_before behind)) (last.0 ++ [])
    opened behind = refl

    ended : (behind : Bool) → items_from 0 line (InComment (place_before behind)) [] ≡ Ok []
    ended true = refl
    ended false = refl

pub fields_are_read : FieldsAreRead
unfolding items_or_line
fields_are_read entries text is =
    let all = fields_reach 0 false entries (spot 1 text) is.last is.fields in
    all.same ∙ ap (with_items (items_of entries)) (nothing_left is.last.line all.behind is.last.rest is.ends)
    ∙ with_items-ok (items_of entries) [] ∙ ap (λ (items : List Item). Ok items) (append-nil (items_of entries))
