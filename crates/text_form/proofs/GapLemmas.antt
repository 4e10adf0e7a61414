-- What is passed between two tokens, byte by byte and comment by comment, as the code does it.
use Rattle.std.proofs.Common.{◌≡◌, ◌∙◌, ℕ, suc, ◌+◌, ◌≤◌, Bool, true, false, ◌==◌, List, [], ◌∷◌, length, Some, None, refl, sym, ap, subst, arith, length-append}
use Rattle.std.proofs.lemmas.Bool.{cond-false, ne_eqb}
use Rattle.text_form.specs.Bytes.{is_blank, is_comment_byte}
use Rattle.text_form.specs.Grammar.{EndsRun}
use Rattle.text_form.specs.Machine.{Place, Between, InComment, Refused, items_from}
use Rattle.text_form.specs.Walking.{IsRun, EndsLine, Leaves, PassesComment, PassesGap, RefusesGap}
use Rattle.text_form.proofs.ByteKinds.{same_line}
use Rattle.text_form.proofs.Walks.{goes, over_blank, over_comment, ends_comment}

-- ---- comments

-- what is left of a run isn't longer
pub run_length : (kind : ℕ → Bool) (bytes front left : List ℕ) → IsRun kind bytes front left → length left ≤ length bytes
run_length kind bytes front left run =
    let whole = ap length run.whole in
    let sum = length-append front left in
    omega (arith, whole, sum)

over_run : (depth line : ℕ) (place : Place) (rest front left : List ℕ) → IsRun is_comment_byte rest front left
    → items_from depth line (InComment place) rest ≡ items_from depth line (InComment place) left
over_run depth line place rest front left run =
    ap (items_from depth line (InComment place)) run.whole ∙ over_comment depth line place front left run.all

comment_passed : (rest front left : List ℕ) → IsRun is_comment_byte rest front left → EndsLine left → PassesComment rest (Some left)
comment_passed rest front left run ends = (
  run_length is_comment_byte rest front left run,
  λ depth line place. over_run depth line place rest front left run ∙ ends_comment depth line place left ends,
)

pub comment_ended : (rest front left : List ℕ) → IsRun is_comment_byte rest front left → left ≡ [] → PassesComment rest (Some left)
comment_ended rest front left run is =
    let P : List ℕ → Type 0 = λ l. EndsLine l in
    comment_passed rest front left run (subst P (sym is) tt)

pub comment_fed : (rest front left : List ℕ) (byte : ℕ) (behind : List ℕ) → IsRun is_comment_byte rest front left → left ≡ byte ∷ behind
    → byte ≡ 10 → PassesComment rest (Some left)
comment_fed rest front left byte behind run is feed =
    let P : List ℕ → Type 0 = λ l. EndsLine l in
    comment_passed rest front left run (subst P (sym is) feed)

pub comment_refused : (rest front left : List ℕ) (byte : ℕ) (behind : List ℕ) → IsRun is_comment_byte rest front left
    → left ≡ byte ∷ behind → (byte ≡ 10 → ⊥) → PassesComment rest None
comment_refused rest front left byte behind run is feed = λ depth line place.
    over_run depth line place rest front left run ∙ ap (items_from depth line (InComment place)) is
    ∙ goes depth line (InComment place) byte behind Refused
    (cond-false (byte == 10) _ _ (ne_eqb byte 10 feed) ∙ cond-false (is_comment_byte byte) _ _ other)
  where
    other : is_comment_byte byte ≡ false
    other = let P : List ℕ → Type 0 = λ l. EndsRun is_comment_byte l in subst P is run.ends

-- ---- gaps

pub leaves_all : (line : ℕ) (rest : List ℕ) → Leaves line rest line rest
leaves_all line rest = record { shorter = omega arith; lines = omega arith }

pub gap_begins : (line : ℕ) (rest : List ℕ) → PassesGap line rest line rest
gap_begins line rest = record { leaves = leaves_all line rest; same = λ depth place. refl }

-- a line feed more
pub gap_feed : (line : ℕ) (rest : List ℕ) (there byte : ℕ) (left behind : List ℕ) → PassesGap line rest there left → left ≡ byte ∷ behind
    → byte ≡ 10 → PassesGap line rest (there + 1) behind
gap_feed line rest there byte left behind passes is feed =
    let one : left ≡ 10 ∷ behind = is ∙ ap (λ (b : ℕ). b ∷ behind) feed in
    let long = ap length one in
    let shorter = passes.leaves.shorter in
    let lines = passes.leaves.lines in
    let next : suc there ≡ there + 1 = omega arith in
    record {
      leaves = record { shorter = omega (arith, long); lines = omega (arith, long) };
      same = λ depth place. passes.same depth place ∙ ap (items_from depth there (Between place)) one
          ∙ ap (λ (l : ℕ). items_from depth l (Between place) behind) next;
    }

-- a blank more on the same line
pub gap_blank : (line : ℕ) (rest : List ℕ) (there byte : ℕ) (left behind : List ℕ) → PassesGap line rest there left → left ≡ byte ∷ behind
    → (byte ≡ 10 → ⊥) → is_blank byte ≡ true → PassesGap line rest there behind
gap_blank line rest there byte left behind passes is feed blank =
    let long = ap length is in
    let shorter = passes.leaves.shorter in
    let lines = passes.leaves.lines in
    record {
      leaves = record { shorter = omega (arith, long); lines = omega (arith, long) };
      same = λ depth place. passes.same depth place ∙ ap (items_from depth there (Between place)) is
          ∙ over_blank depth there place byte behind blank
          ∙ ap (λ (l : ℕ). items_from depth l (Between place) behind) (same_line there byte (ne_eqb byte 10 feed));
    }

-- a comment more
pub gap_comment : (line : ℕ) (rest : List ℕ) (there byte : ℕ) (left behind more : List ℕ) → PassesGap line rest there left → left ≡ byte ∷ behind
    → byte ≡ 35 → PassesComment behind (Some more) → PassesGap line rest there more
gap_comment line rest there byte left behind more passes is sharp comment =
    let one : left ≡ 35 ∷ behind = is ∙ ap (λ (b : ℕ). b ∷ behind) sharp in
    let long = ap length one in
    let short = comment.0 in
    let shorter = passes.leaves.shorter in
    let lines = passes.leaves.lines in
    record {
      leaves = record { shorter = omega (arith, long); lines = omega (arith, long) };
      same = λ depth place. passes.same depth place ∙ ap (items_from depth there (Between place)) one ∙ comment.1 depth there place;
    }

pub gap_refused : (line : ℕ) (rest : List ℕ) (there byte : ℕ) (left behind : List ℕ) → PassesGap line rest there left → left ≡ byte ∷ behind
    → byte ≡ 35 → PassesComment behind None → RefusesGap line rest there
gap_refused line rest there byte left behind passes is sharp comment = λ depth place.
    passes.same depth place ∙ ap (items_from depth there (Between place)) (is ∙ ap (λ (b : ℕ). b ∷ behind) sharp) ∙ comment depth there place
