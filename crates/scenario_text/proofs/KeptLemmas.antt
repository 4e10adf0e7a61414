-- Lines as they are kept, one more behind the others.
use Rattle.std.proofs.Common.{◌≡◌, ℕ, true, false, Option, Some, None, IfNone, List, [], ◌∷◌, ◌++◌, length, take, drop, refl, sym, ap, subst, ◌∙◌, arith}
use Rattle.std.proofs.lemmas.List.{length-append, take-append-le, drop-append-le, take_all, drop_all, append_assoc}
use Rattle.std.proofs.lemmas.List.Elements.{All-nil, All-push}
use Rattle.scenario_text.specs.declared.line_list.KeptLine.{KeptLine}
use Rattle.scenario_text.specs.declared.scenario.NumberedLine.{NumberedLine}
use Rattle.scenario_text.specs.Accepted.{is_of, PassesOver}
use Rattle.scenario_text.specs.KeptLines.{own_len, kind_of, HasOwn, lines_of, AreLaid}

pub as_many : (heads : List KeptLine) (code : List ℕ) → length (lines_of heads code) ≡ length heads
as_many [] code = refl
as_many (head ∷ heads) code = omega (arith, as_many heads (drop (own_len head.what) code))

-- the line that a head is, where these bytes are its own
abbrev line_of : KeptLine → List ℕ → NumberedLine
line_of head own = record { line = head.line; what = kind_of head.what own }

one_laid : (head : KeptLine) (own : List ℕ) → own_len head.what ≡ length own → HasOwn head.what own → AreLaid (head ∷ []) own
one_laid head own len has = (
  omega (arith, len),
  subst (HasOwn head.what) (sym (take_all (own_len head.what) own (omega (arith, len)))) has,
  drop_all (own_len head.what) own (omega (arith, len)),
)

one_line : (head : KeptLine) (own : List ℕ) → own_len head.what ≡ length own → lines_of (head ∷ []) own ≡ line_of head own ∷ []
one_line head own len =
    ap (λ (bytes : List ℕ). line_of head bytes ∷ []) (take_all (own_len head.what) own (omega (arith, len)))

pub laid_more : (heads : List KeptLine) (code : List ℕ) (head : KeptLine) (own : List ℕ) → AreLaid heads code
    → own_len head.what ≡ length own → HasOwn head.what own → AreLaid (heads ++ head ∷ []) (code ++ own)
laid_more [] code head own none len has =
    subst (λ (bytes : List ℕ). AreLaid (head ∷ []) (bytes ++ own)) (sym none) (one_laid head own len has)
laid_more (first ∷ heads) code head own laid len has = (
  omega (arith, laid.0, length-append code own),
  subst (HasOwn first.what) (sym (take-append-le (own_len first.what) code own laid.0)) laid.1,
  subst (AreLaid (heads ++ head ∷ [])) (sym (drop-append-le (own_len first.what) code own laid.0))
      (laid_more heads (drop (own_len first.what) code) head own laid.2 len has),
)

pub lines_more : (heads : List KeptLine) (code : List ℕ) (head : KeptLine) (own : List ℕ) → AreLaid heads code
    → own_len head.what ≡ length own → lines_of (heads ++ head ∷ []) (code ++ own) ≡ lines_of heads code ++ line_of head own ∷ []
lines_more [] code head own none len =
    ap (λ (bytes : List ℕ). lines_of (head ∷ []) (bytes ++ own)) none ∙ one_line head own len
lines_more (first ∷ heads) code head own laid len =
    ap (λ (bytes : List ℕ). line_of first bytes ∷ lines_of (heads ++ head ∷ []) (drop (own_len first.what) (code ++ own)))
    (take-append-le (own_len first.what) code own laid.0)
    ∙ ap (λ (bytes : List ℕ). line_of first (take (own_len first.what) code) ∷ lines_of (heads ++ head ∷ []) bytes)
    (drop-append-le (own_len first.what) code own laid.0)
    ∙ ap (λ (ls : List NumberedLine). line_of first (take (own_len first.what) code) ∷ ls)
    (lines_more heads (drop (own_len first.what) code) head own laid.2 len)

-- ---- lines that aren't a writer's

pub passes_none : (number : ℕ) (lines : List NumberedLine) → PassesOver number lines lines
passes_none number lines = record { passed = []; all = refl; others = All-nil (λ (line : NumberedLine). is_of number line.what ≡ false) }

pub passes_more : (number : ℕ) (lines now : List NumberedLine) (line : NumberedLine) (behind : List NumberedLine) → now ≡ line ∷ behind
    → is_of number line.what ≡ false → PassesOver number lines now → PassesOver number lines behind
passes_more number lines now line behind is another passes = record {
  passed = passes.passed ++ line ∷ [];
  all = append_assoc passes.passed (line ∷ []) behind ∙ ap (λ (ls : List NumberedLine). passes.passed ++ ls) (sym is) ∙ passes.all;
  others = All-push (λ (line : NumberedLine). is_of number line.what ≡ false) passes.passed line passes.others another;
}

-- behind them comes a line of the writer
pub comes_next : (number : ℕ) (lines now behind : List NumberedLine) → PassesOver number lines now
    → ((line : NumberedLine) (left : List NumberedLine) → now ≡ line ∷ left → is_of number line.what ≡ true)
    → (line : NumberedLine) → now ≡ line ∷ behind → (is_of number line.what ≡ true) × PassesOver number lines (line ∷ behind)
comes_next number lines now behind passes own line is = (own line behind is, subst (PassesOver number lines) is passes)

-- what follows where there is none
pub none_more : {X P Q : Type 0} (found : Option X) → (P → Q) → IfNone found P → IfNone found Q
none_more None more none = more none
none_more (Some x) more none = none
