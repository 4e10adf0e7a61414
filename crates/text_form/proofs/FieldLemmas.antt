-- What is read of a field, token by token, as the code does it.
use Rattle.std.proofs.Common.{◌≡◌, ◌∙◌, ℕ, Bool, true, false, ◌==◌, List, [], ◌∷◌, ◌++◌, length, Result, Ok, Err, Some, None, sym, ap, subst, arith, length-append}
use Rattle.std.specs.Prelude.{IfOk, IfErr}
use Rattle.std.proofs.lemmas.Bool.{cond-false, ne_eqb}
use Rattle.text_form.specs.Bytes.{is_name_start, is_name_byte, is_word_byte, is_text_byte}
use Rattle.text_form.specs.Entries.{Value, Word, Text, Item, Single, Begin}
use Rattle.text_form.specs.Grammar.{EndsRun, IsName}
use Rattle.text_form.specs.Machine.{Start, Named, Valued, Between, InQuotes, Refused, items_from}
use Rattle.text_form.specs.Walking.{IsRun, BeginsWith, begins_gap, place_before, PassesGap, RefusesGap, PassesLead, ReadsValue, ReadsItem}
use Rattle.text_form.proofs.ByteKinds.{gap_parts, start_in_name}
use Rattle.text_form.proofs.Walks.{goes, token_byte, over_text, reads_name, reads_word, reads_text}
use Rattle.text_form.proofs.GapLemmas.{run_length}

-- ---- answers that go on

pub if_ok : {A E : Type 0} (r : Result A E) (P Q : A → Type 0) → ((x : A) → P x → Q x) → IfOk r P → IfOk r Q
if_ok (Ok x) P Q follows holds = follows x holds
if_ok (Err e) P Q follows holds = holds

pub if_err : {A E : Type 0} (r : Result A E) (P Q : E → Type 0) → ((e : E) → P e → Q e) → IfErr r P → IfErr r Q
if_err (Ok x) P Q follows holds = holds
if_err (Err e) P Q follows holds = follows e holds

-- ---- texts in quotes

quotes_run : (depth line at : ℕ) (name behind front left : List ℕ) → IsRun is_text_byte behind front left
    → items_from depth line (InQuotes at name []) behind ≡ items_from depth line (InQuotes at name front) left
quotes_run depth line at name behind front left run =
    ap (items_from depth line (InQuotes at name [])) run.whole ∙ over_text depth line at name [] front left run.all

pub text_ended : (behind front left : List ℕ) → IsRun is_text_byte behind front left → left ≡ [] → (line : ℕ) → ReadsValue line (34 ∷ behind) None
text_ended behind front left run is line = λ depth at name.
    quotes_run depth line at name behind front left run ∙ ap (items_from depth line (InQuotes at name front)) is

pub text_refused : (behind front left : List ℕ) (byte : ℕ) (more : List ℕ) → IsRun is_text_byte behind front left → left ≡ byte ∷ more
    → (byte ≡ 34 → ⊥) → (line : ℕ) → ReadsValue line (34 ∷ behind) None
text_refused behind front left byte more run is quotes line = λ depth at name.
    quotes_run depth line at name behind front left run ∙ ap (items_from depth line (InQuotes at name front)) is
    ∙ goes depth line (InQuotes at name front) byte more Refused
    (cond-false (byte == 34) _ _ (ne_eqb byte 34 quotes) ∙ cond-false (is_text_byte byte) _ _ other)
  where
    other : is_text_byte byte ≡ false
    other = let P : List ℕ → Type 0 = λ l. EndsRun is_text_byte l in subst P is run.ends

pub text_read : (behind front left : List ℕ) (byte : ℕ) (more : List ℕ) → IsRun is_text_byte behind front left → left ≡ byte ∷ more
    → byte ≡ 34 → (line : ℕ) → ReadsValue line (34 ∷ behind) (Some (Text front, more))
text_read behind front left byte more run is quotes line =
    let whole : behind ≡ front ++ 34 ∷ more = run.whole ∙ ap (λ (l : List ℕ). front ++ l) (is ∙ ap (λ (b : ℕ). b ∷ more) quotes) in
    let long = ap length is in
    let short = run_length is_text_byte behind front left run in (
      omega (arith, long, short),
      λ depth at name. ap (λ (l : List ℕ). items_from depth line (Between (Valued at name)) (34 ∷ l)) whole
          ∙ reads_text depth line at name front more run.all,
    )

-- ---- words

pub word_read : (rest front left : List ℕ) → IsRun is_word_byte rest front left → (length front == 0) ≡ false
    → (line : ℕ) → ReadsValue line rest (Some (Word front, left))
word_read rest [] left run some line = absurd (cc)
word_read rest (byte ∷ front) left run some line =
    let whole = ap length run.whole in
    let sum = length-append front left in (
      omega (arith, whole, sum),
      λ depth at name. ap (items_from depth line (Between (Valued at name))) run.whole
          ∙ reads_word depth line at name (byte ∷ front) left run.all run.ends,
    )

-- ---- values

pub quoted_there : (rest : List ℕ) (byte : ℕ) (behind : List ℕ) (found : _) → rest ≡ byte ∷ behind → byte ≡ 34
    → ((line : ℕ) → ReadsValue line (34 ∷ behind) found) → (line : ℕ) → ReadsValue line rest found
quoted_there rest byte behind found is quotes reads line =
    let P : List ℕ → Type 0 = λ l. ReadsValue line l found in
    subst P (sym (is ∙ ap (λ (b : ℕ). b ∷ behind) quotes)) (reads line)

-- ---- behind a colon

pub colon_value : (line at : ℕ) (name rest : List ℕ) (there : ℕ) (left : List ℕ) (value : Value) (more : List ℕ) → PassesGap line rest there left
    → ((line : ℕ) → ReadsValue line left (Some (value, more))) → (depth : ℕ) → ReadsItem depth line (Valued at name) rest (Single at name value) there more
colon_value line at name rest there left value more passes reads depth =
    let read = reads there in
    let short = read.0 in
    let shorter = passes.leaves.shorter in
    let lines = passes.leaves.lines in
    record {
      shorter = omega arith;
      lines = omega arith;
      closes = λ is. absurd (cc);
      same = passes.same depth (Valued at name) ∙ read.1 depth at name;
    }

-- ---- behind a name

name_of : (rest front left : List ℕ) → BeginsWith is_name_start rest → IsRun is_name_byte rest front left → IsName front
name_of [] front left begins run = absurd begins
name_of (byte ∷ rest) [] left begins run =
    let P : List ℕ → Type 0 = λ l. EndsRun is_name_byte l in
    let none : is_name_byte byte ≡ false = subst P (sym run.whole) run.ends in
    let some : is_name_byte byte ≡ true = start_in_name byte begins in
    let both : true ≡ false = sym some ∙ none in
    absurd (cc)
name_of (byte ∷ rest) (first ∷ front) left begins run =
    let whole = run.whole in
    let same : byte ≡ first = cc in
    let P : ℕ → Type 0 = λ b. is_name_start b ≡ true in
    (subst P same begins, run.all.1)

-- what the name takes
name_read : (line : ℕ) (rest front left : List ℕ) → BeginsWith is_name_start rest → IsRun is_name_byte rest front left
    → (depth : ℕ) → items_from depth line (Between Start) rest ≡ items_from depth line (Between (Named line front)) left
name_read line rest front left begins run depth =
    ap (items_from depth line (Between Start)) run.whole
    ∙ reads_name depth line false front left (name_of rest front left begins run) run.ends

-- the same with the gap behind it
named : (line : ℕ) (rest front left : List ℕ) (there : ℕ) (more : List ℕ) → BeginsWith is_name_start rest → IsRun is_name_byte rest front left
    → PassesGap line left there more → (depth : ℕ) → items_from depth line (Between Start) rest ≡ items_from depth there (Between (Named line front)) more
named line rest front left there more begins run passes depth =
    name_read line rest front left begins run depth ∙ passes.same depth (Named line front)

pub field_refused : (line : ℕ) (rest front left : List ℕ) (bad : ℕ) → BeginsWith is_name_start rest → IsRun is_name_byte rest front left
    → RefusesGap line left bad → (depth : ℕ) → items_from depth line (Between Start) rest ≡ Err bad
field_refused line rest front left bad begins run refuses depth =
    name_read line rest front left begins run depth ∙ refuses depth (Named line front)

pub field_ended : (line : ℕ) (rest front left : List ℕ) (there : ℕ) (more : List ℕ) → BeginsWith is_name_start rest → IsRun is_name_byte rest front left
    → PassesGap line left there more → more ≡ [] → (depth : ℕ) → items_from depth line (Between Start) rest ≡ Err there
field_ended line rest front left there more begins run passes is depth =
    named line rest front left there more begins run passes depth ∙ ap (items_from depth there (Between (Named line front))) is

pub field_other : (line : ℕ) (rest front left : List ℕ) (there : ℕ) (more : List ℕ) (byte : ℕ) (behind : List ℕ)
    → BeginsWith is_name_start rest → IsRun is_name_byte rest front left → PassesGap line left there more → EndsRun begins_gap more
    → more ≡ byte ∷ behind → (byte ≡ 58 → ⊥) → (byte ≡ 123 → ⊥) → (depth : ℕ) → items_from depth line (Between Start) rest ≡ Err there
field_other line rest front left there more byte behind begins run passes ends is colon brace depth =
    let P : List ℕ → Type 0 = λ l. EndsRun begins_gap l in
    let gap = gap_parts byte (subst P is ends) in
    named line rest front left there more begins run passes depth ∙ ap (items_from depth there (Between (Named line front))) is
    ∙ goes depth there (Between (Named line front)) byte behind Refused
    (token_byte depth there (Named line front) byte gap.0 gap.1
    ∙ cond-false (byte == 58) _ _ (ne_eqb byte 58 colon) ∙ cond-false (byte == 123) _ _ (ne_eqb byte 123 brace))

over_colon : (line : ℕ) (rest front left : List ℕ) (there : ℕ) (more : List ℕ) (byte : ℕ) (behind : List ℕ)
    → BeginsWith is_name_start rest → IsRun is_name_byte rest front left → PassesGap line left there more → more ≡ byte ∷ behind → byte ≡ 58
    → (depth : ℕ) → items_from depth line (Between Start) rest ≡ items_from depth there (Between (Valued line front)) behind
over_colon line rest front left there more byte behind begins run passes is colon depth =
    named line rest front left there more begins run passes depth
    ∙ ap (items_from depth there (Between (Named line front))) (is ∙ ap (λ (b : ℕ). b ∷ behind) colon)

pub colon_field : (line : ℕ) (rest front left : List ℕ) (there : ℕ) (more : List ℕ) (byte : ℕ) (behind : List ℕ)
    → BeginsWith is_name_start rest → IsRun is_name_byte rest front left → PassesGap line left there more → more ≡ byte ∷ behind → byte ≡ 58
    → (item : Item) (last : ℕ) (others : List ℕ) → ((depth : ℕ) → ReadsItem depth there (Valued line front) behind item last others)
    → (depth : ℕ) → ReadsItem depth line Start rest item last others
colon_field line rest front left there more byte behind begins run passes is colon item last others reads depth =
    let read = reads depth in
    let short = read.shorter in
    let low = read.lines in
    let long = ap length is in
    let shorter = passes.leaves.shorter in
    let lines = passes.leaves.lines in
    let less = run_length is_name_byte rest front left run in
    record {
      shorter = omega (arith, long, less);
      lines = omega (arith, long, less);
      closes = read.closes;
      same = over_colon line rest front left there more byte behind begins run passes is colon depth ∙ read.same;
    }

pub colon_bad : (line : ℕ) (rest front left : List ℕ) (there : ℕ) (more : List ℕ) (byte : ℕ) (behind : List ℕ)
    → BeginsWith is_name_start rest → IsRun is_name_byte rest front left → PassesGap line left there more → more ≡ byte ∷ behind → byte ≡ 58
    → (bad : ℕ) → ((depth : ℕ) → items_from depth there (Between (Valued line front)) behind ≡ Err bad)
    → (depth : ℕ) → items_from depth line (Between Start) rest ≡ Err bad
colon_bad line rest front left there more byte behind begins run passes is colon bad refuses depth =
    over_colon line rest front left there more byte behind begins run passes is colon depth ∙ refuses depth

pub block_field : (line : ℕ) (rest front left : List ℕ) (there : ℕ) (more : List ℕ) (byte : ℕ) (behind : List ℕ) (item : Item) (last : ℕ) (others : List ℕ)
    → BeginsWith is_name_start rest → IsRun is_name_byte rest front left → PassesGap line left there more → more ≡ byte ∷ behind → byte ≡ 123
    → item ≡ Begin line front → last ≡ there → others ≡ behind → (depth : ℕ) → ReadsItem depth line Start rest item last others
block_field line rest front left there more byte behind item last others begins run passes is brace item_is last_is others_is depth =
    let one : more ≡ 123 ∷ behind = is ∙ ap (λ (b : ℕ). b ∷ behind) brace in
    let long = ap length one in
    let shorter = passes.leaves.shorter in
    let lines = passes.leaves.lines in
    let less = run_length is_name_byte rest front left run in
    let P : Item → Type 0 = λ i. ReadsItem depth line Start rest i last others in
    let Q : ℕ → Type 0 = λ l. ReadsItem depth line Start rest (Begin line front) l others in
    let R : List ℕ → Type 0 = λ l. ReadsItem depth line Start rest (Begin line front) there l in
    subst P (sym item_is) (subst Q (sym last_is) (subst R (sym others_is) (record {
      shorter = omega (arith, long, less);
      lines = omega (arith, long, less);
      closes = λ same. absurd (cc);
      same = named line rest front left there more begins run passes depth ∙ ap (items_from depth there (Between (Named line front))) one;
    })))

-- ---- what stands before

pub lead_item : (depth : ℕ) (after : Bool) (line : ℕ) (rest : List ℕ) (there : ℕ) (left : List ℕ) (item : Item) (last : ℕ) (more : List ℕ)
    → PassesLead after line rest there left → ReadsItem depth there Start left item last more → ReadsItem depth line (place_before after) rest item last more
lead_item depth after line rest there left item last more passes read =
    let short = read.shorter in
    let low = read.lines in
    let shorter = passes.leaves.shorter in
    let lines = passes.leaves.lines in
    record {
      shorter = omega arith;
      lines = omega arith;
      closes = read.closes;
      same = passes.same depth ∙ read.same;
    }
