-- Where the lines of each writer stand, one more line noted.
use Rattle.std.proofs.Common.{◌≡◌, ◌≢◌, ℕ, ◌==◌, ◌+◌, ◌<◌, ◌≤◌, true≢false, zero, suc, All, Bool, true, false, Some, List, [], ◌∷◌, ◌++◌, length, take, drop, get_or, refl, sym, ap, subst, ◌∙◌, arith, append-nil}
use Rattle.std.specs.Prelude.{slice_get, slice_set, cond, if◌then◌else◌}
use Rattle.std.proofs.Math.Seq.{drop-cons}
use Rattle.std.proofs.lemmas.Bool.{eqb-true, eq-eqb, ne_eqb}
use Rattle.std.proofs.lemmas.List.{length-drop, drop-drop}
use Rattle.std.proofs.lemmas.List.Elements.{All-nil, All-push, All-head, All-tail}
use Rattle.std.proofs.lemmas.Option.{slice_get_within, get_or_from_slice_get}
use Rattle.field_tree.specs.Written.{shown_in}
use Rattle.scenario_text.specs.declared.line_list.KeptKind.{KeptKind}
use Rattle.scenario_text.specs.declared.line_list.KeptKind.TheVariants.{Packet, Begin, Add, Nest, Unnest, End, Flush, Collect, Scrape, Close, Read, Request, CloneBuffer, Raw}
use Rattle.scenario_text.specs.declared.line_list.KeptLine.{KeptLine}
use Rattle.scenario_text.specs.declared.own_lines.Row.{Row}
use Rattle.scenario_text.specs.declared.own_lines.Span.{Span}
use Rattle.scenario_text.specs.declared.scenario.LineKind.{LineKind}
use Rattle.scenario_text.specs.declared.scenario.LineKind.TheVariants as kinds
use Rattle.scenario_text.specs.declared.scenario.NumberedLine.{NumberedLine}
use Rattle.scenario_text.specs.Accepted.{is_of, own_kinds, PassesOver}
use Rattle.scenario_text.specs.KeptLines.{own_len, kind_of, lines_of, HasOwn, AreLaid}
use Rattle.scenario_text.specs.OwnLines.{bytes_at, IsSpan, packets_at, span_of, is_other, AreNoted, AreEmpty, NotesLine, AreRows, IsWholeRow}

-- ---- lines that aren't the writer's

own_behind : (number : ℕ) (passed behind : List NumberedLine) → All (λ line. is_of number line.what ≡ false) passed
    → own_kinds number (passed ++ behind) ≡ own_kinds number behind
own_behind number [] behind others = refl
own_behind number (line ∷ passed) behind others =
    ap (λ (b : Bool). cond b (line.what ∷ own_kinds number (passed ++ behind)) (own_kinds number (passed ++ behind)))
    (All-head (λ (one : NumberedLine). is_of number one.what ≡ false) line passed others)
    ∙ own_behind number passed behind (All-tail (λ (one : NumberedLine). is_of number one.what ≡ false) line passed others)

pub own_passed : (number : ℕ) (lines behind : List NumberedLine) → PassesOver number lines behind → own_kinds number lines ≡ own_kinds number behind
own_passed number lines behind passes = ap (own_kinds number) (sym passes.all) ∙ own_behind number passes.passed behind passes.others

pub own_next : (number : ℕ) (lines : List NumberedLine) (line : NumberedLine) (behind : List NumberedLine) → is_of number line.what ≡ true
    → PassesOver number lines (line ∷ behind) → own_kinds number lines ≡ line.what ∷ own_kinds number behind
own_next number lines line behind is passes =
    own_passed number lines (line ∷ behind) passes
    ∙ ap (λ (b : Bool). cond b (line.what ∷ own_kinds number behind) (own_kinds number behind)) is

-- ---- rows

abbrev span_at : ℕ → ℕ → Span
span_at bytes len = record { bytes = bytes; len = len }

apart : (what : KeptKind) (bytes number : ℕ) → is_of number (kind_of what []) ≡ false → (is_other number what ≡ false) × (span_of number what bytes ≡ [])
apart (Packet writer len) bytes number is = (refl, ap (λ (b : Bool). if b then span_at bytes len ∷ [] else []) is)
apart (Begin writer) bytes number is = (is, refl)
apart (Add writer len) bytes number is = (is, refl)
apart (Nest writer field) bytes number is = (is, refl)
apart (Unnest writer) bytes number is = (is, refl)
apart (End writer) bytes number is = (is, refl)
apart (Flush writer) bytes number is = (is, refl)
apart (Collect producer) bytes number is = (is, refl)
apart (Scrape producer) bytes number is = (is, refl)
apart (Close producer) bytes number is = (is, refl)
apart (Read buffer high low) bytes number is = (is, refl)
apart Request bytes number is = (is, refl)
apart (CloneBuffer buffer) bytes number is = (is, refl)
apart (Raw writer len) bytes number is = (is, refl)

-- a row that no one changed, where the line isn't its writer's
same_row : (what : KeptKind) (bytes number : ℕ) (before : List Row) (row : Row) → slice_get before number ≡ Some row → is_of number (kind_of what []) ≡ false
    → (old : Row) × (slice_get before number ≡ Some old)
    × (row.whole ≡ true → (old.whole ≡ true) × (is_other number what ≡ false) × (row.spans.items ≡ old.spans.items ++ span_of number what bytes))
same_row what bytes number before row is other =
    let both = apart what bytes number other in
    (row, is, λ whole. (whole, both.0, sym (ap (λ (spans : List Span). row.spans.items ++ spans) both.1 ∙ append-nil row.spans.items)))

pub notes_none : (what : KeptKind) (bytes : ℕ) (rows : List Row) → ((number : ℕ) → number < length rows → is_of number (kind_of what []) ≡ false)
    → NotesLine what bytes rows rows
notes_none what bytes rows other number row is = same_row what bytes number rows row is (other number (slice_get_within rows number row is))

-- a row behind a change of one
set_row : {C : Type 0} (rows : List Row) (index : ℕ) (new : Row) (number : ℕ) (row : Row) → slice_get (slice_set rows index new) number ≡ Some row
    → (number ≡ index → row ≡ new → C) → (number ≢ index → slice_get rows number ≡ Some row → C) → C
set_row [] index new number row is same other = absurd (none_there number row is)
  where
    none_there : (number : ℕ) (row : Row) → slice_get [] number ≡ Some row → ⊥
    none_there number row is = cc
set_row (first ∷ rows) zero new zero row is same other = same refl (cc is)
set_row (first ∷ rows) zero new (suc number) row is same other = other (λ e. omega (arith, e)) is
set_row (first ∷ rows) (suc index) new zero row is same other = other (λ e. omega (arith, e)) is
set_row (first ∷ rows) (suc index) new (suc number) row is same other =
    set_row rows index new number row is (λ e r. same (ap suc e) r) (λ apart there. other (λ e. apart (omega (arith, e))) there)

pub notes_packet : (rows : List Row) (index writer bytes len : ℕ) (old new : Row) → index ≡ writer → slice_get rows index ≡ Some old
    → new.whole ≡ old.whole → new.spans.items ≡ old.spans.items ++ (record { bytes = bytes; len = len }) ∷ []
    → NotesLine (Packet writer len) bytes rows (slice_set rows index new)
notes_packet rows index writer bytes len old new is_writer is_old as_before more number row is =
    set_row rows index new number row is
    (λ same row_is. (
      old,
      subst (λ (n : ℕ). slice_get rows n ≡ Some old) (sym same) is_old,
      λ whole. (
        sym as_before ∙ ap (λ (one : Row). one.whole) (sym row_is) ∙ whole,
        refl,
        ap (λ (one : Row). one.spans.items) row_is ∙ more
            ∙ ap (λ (b : Bool). old.spans.items ++ (if b then span_at bytes len ∷ [] else [])) (sym (eq-eqb number writer (same ∙ is_writer))),
      ),
    ))
    (λ apart there. same_row (Packet writer len) bytes number rows row there (ne_eqb number writer (λ e. apart (e ∙ sym is_writer))))

pub notes_other : (rows : List Row) (what : KeptKind) (bytes index writer : ℕ) (old new : Row) → index ≡ writer → slice_get rows index ≡ Some old
    → ((number : ℕ) → is_of number (kind_of what []) ≡ (number == writer)) → new.whole ≡ false → NotesLine what bytes rows (slice_set rows index new)
notes_other rows what bytes index writer old new is_writer is_old own not_whole number row is =
    set_row rows index new number row is
    (λ same row_is. (
      old,
      subst (λ (n : ℕ). slice_get rows n ≡ Some old) (sym same) is_old,
      λ whole. absurd (true≢false (sym whole ∙ ap (λ (one : Row). one.whole) row_is ∙ not_whole)),
    ))
    (λ apart there. same_row what bytes number rows row there (own number ∙ ne_eqb number writer (λ e. apart (e ∙ sym is_writer))))

-- the rows of the writers that have one
pub row_spans : (heads : List KeptLine) (code : List ℕ) (rows : List Row) (number : ℕ) (spans : List Span) → AreRows heads code rows → IsWholeRow rows number spans
    → All (IsSpan code) spans × (packets_at number code spans ≡ own_kinds number (lines_of heads code))
row_spans heads code rows number spans are row =
    let known = are number row.0 row.1 row.2 in
    (subst (All (IsSpan code)) row.3 known.0, ap (packets_at number code) (sym row.3) ∙ sym known.1)

-- ---- lines

-- what the next line has done, where it is a packet of the writer or another's
packet_next : (number writer : ℕ) (code : List ℕ) (span : Span) (rest : List LineKind) (b : Bool) → (number == writer) ≡ b
    → cond (number == writer) (kinds.Packet writer (shown_in (bytes_at code span)) ∷ rest) rest
    ≡ packets_at number code (if number == writer then span ∷ [] else []) ++ rest
packet_next number writer code span rest true is =
    ap (λ (b : Bool). cond b (kinds.Packet writer (shown_in (bytes_at code span)) ∷ rest) rest) is
    ∙ ap (λ (w : ℕ). kinds.Packet w (shown_in (bytes_at code span)) ∷ rest) (sym (eqb-true number writer is))
    ∙ ap (λ (b : Bool). packets_at number code (if b then span ∷ [] else []) ++ rest) (sym is)
packet_next number writer code span rest false is =
    ap (λ (b : Bool). cond b (kinds.Packet writer (shown_in (bytes_at code span)) ∷ rest) rest) is
    ∙ ap (λ (b : Bool). packets_at number code (if b then span ∷ [] else []) ++ rest) (sym is)

other_next : (test : Bool) (kind : LineKind) (rest : List LineKind) → test ≡ false → cond test (kind ∷ rest) rest ≡ rest
other_next test kind rest is = ap (λ (b : Bool). cond b (kind ∷ rest) rest) is

kind_next : (number : ℕ) (what : KeptKind) (code : List ℕ) (bytes : ℕ) (rest : List LineKind) → is_other number what ≡ false
    → cond (is_of number (kind_of what (take (own_len what) (drop bytes code)))) (kind_of what (take (own_len what) (drop bytes code)) ∷ rest) rest
    ≡ packets_at number code (span_of number what bytes) ++ rest
kind_next number (Packet writer len) code bytes rest is = packet_next number writer code (record { bytes = bytes; len = len }) rest (number == writer) refl
kind_next number (Begin writer) code bytes rest is = other_next (number == writer) _ rest is
kind_next number (Add writer len) code bytes rest is = other_next (number == writer) _ rest is
kind_next number (Nest writer field) code bytes rest is = other_next (number == writer) _ rest is
kind_next number (Unnest writer) code bytes rest is = other_next (number == writer) _ rest is
kind_next number (End writer) code bytes rest is = other_next (number == writer) _ rest is
kind_next number (Flush writer) code bytes rest is = other_next (number == writer) _ rest is
kind_next number (Collect producer) code bytes rest is = refl
kind_next number (Scrape producer) code bytes rest is = refl
kind_next number (Close producer) code bytes rest is = refl
kind_next number (Read buffer high low) code bytes rest is = refl
kind_next number Request code bytes rest is = refl
kind_next number (CloneBuffer buffer) code bytes rest is = refl
kind_next number (Raw writer len) code bytes rest is = refl

lines_next : (number : ℕ) (head : KeptLine) (behind : List KeptLine) (code : List ℕ) (bytes : ℕ) → is_other number head.what ≡ false
    → own_kinds number (lines_of (head ∷ behind) (drop bytes code))
    ≡ packets_at number code (span_of number head.what bytes) ++ own_kinds number (lines_of behind (drop (bytes + own_len head.what) code))
lines_next number head behind code bytes is =
    kind_next number head.what code bytes (own_kinds number (lines_of behind (drop (own_len head.what) (drop bytes code)))) is
    ∙ ap (λ (left : List ℕ). packets_at number code (span_of number head.what bytes) ++ own_kinds number (lines_of behind left))
    (drop-drop (own_len head.what) bytes code)

-- the bytes of a packet are there
chosen_span : (test : Bool) (code : List ℕ) (spans : List Span) (span : Span) → IsSpan code span → All (IsSpan code) spans
    → All (IsSpan code) (spans ++ (if test then span ∷ [] else []))
chosen_span true code spans span one all = All-push (IsSpan code) spans span all one
chosen_span false code spans span one all = subst (All (IsSpan code)) (sym (append-nil spans)) all

spans_more : (number : ℕ) (what : KeptKind) (code : List ℕ) (bytes : ℕ) (spans : List Span) → bytes ≤ length code → own_len what ≤ length (drop bytes code)
    → HasOwn what (take (own_len what) (drop bytes code)) → All (IsSpan code) spans → All (IsSpan code) (spans ++ span_of number what bytes)
spans_more number (Packet writer len) code bytes spans inside enough own all =
    chosen_span (number == writer) code spans (record { bytes = bytes; len = len })
    (omega (arith, inside, enough, length-drop bytes code), own) all
spans_more number (Begin writer) code bytes spans inside enough own all = subst (All (IsSpan code)) (sym (append-nil spans)) all
spans_more number (Add writer len) code bytes spans inside enough own all = subst (All (IsSpan code)) (sym (append-nil spans)) all
spans_more number (Nest writer field) code bytes spans inside enough own all = subst (All (IsSpan code)) (sym (append-nil spans)) all
spans_more number (Unnest writer) code bytes spans inside enough own all = subst (All (IsSpan code)) (sym (append-nil spans)) all
spans_more number (End writer) code bytes spans inside enough own all = subst (All (IsSpan code)) (sym (append-nil spans)) all
spans_more number (Flush writer) code bytes spans inside enough own all = subst (All (IsSpan code)) (sym (append-nil spans)) all
spans_more number (Collect producer) code bytes spans inside enough own all = subst (All (IsSpan code)) (sym (append-nil spans)) all
spans_more number (Scrape producer) code bytes spans inside enough own all = subst (All (IsSpan code)) (sym (append-nil spans)) all
spans_more number (Close producer) code bytes spans inside enough own all = subst (All (IsSpan code)) (sym (append-nil spans)) all
spans_more number (Read buffer high low) code bytes spans inside enough own all = subst (All (IsSpan code)) (sym (append-nil spans)) all
spans_more number Request code bytes spans inside enough own all = subst (All (IsSpan code)) (sym (append-nil spans)) all
spans_more number (Raw writer len) code bytes spans inside enough own all = subst (All (IsSpan code)) (sym (append-nil spans)) all
spans_more number (CloneBuffer buffer) code bytes spans inside enough own all = subst (All (IsSpan code)) (sym (append-nil spans)) all

packets_more : (number : ℕ) (code : List ℕ) (spans more : List Span) (rest : List LineKind)
    → packets_at number code spans ++ (packets_at number code more ++ rest) ≡ packets_at number code (spans ++ more) ++ rest
packets_more number code [] more rest = refl
packets_more number code (span ∷ spans) more rest =
    ap (λ (ks : List LineKind). kinds.Packet number (shown_in (bytes_at code span)) ∷ ks) (packets_more number code spans more rest)

-- ---- all lines

pub noted_none : (heads : List KeptLine) (rows : List Row) → AreEmpty rows → AreNoted heads heads 0 rows
noted_none heads rows empty = record {
  inside = λ code laid. omega arith;
  laid = λ code laid. laid;
  each = λ code laid number row is whole.
      let none : row.spans.items ≡ [] =
      subst (λ (one : Row). one.spans.items ≡ []) (get_or_from_slice_get rows number row row is) (empty number row (slice_get_within rows number row is)) in (
        subst (All (IsSpan code)) (sym none) (All-nil (IsSpan code)),
        ap (λ (spans : List Span). packets_at number code spans ++ own_kinds number (lines_of heads code)) (sym none),
      );
}

pub noted_more : (heads : List KeptLine) (head : KeptLine) (behind : List KeptLine) (bytes : ℕ) (before after : List Row)
    → AreNoted heads (head ∷ behind) bytes before → NotesLine head.what bytes before after → AreNoted heads behind (bytes + own_len head.what) after
noted_more heads head behind bytes before after noted notes = record {
  inside = λ code laid. omega (arith, noted.inside code laid, (noted.laid code laid).0, length-drop bytes code);
  laid = λ code laid. subst (AreLaid behind) (drop-drop (own_len head.what) bytes code) (noted.laid code laid).2;
  each = λ code laid number row is whole.
      let at = noted.laid code laid in
      let old = notes number row is in
      let more = old.2 whole in
      let known = noted.each code laid number old.0 old.1 more.0 in (
        subst (All (IsSpan code)) (sym more.2) (spans_more number head.what code bytes old.0.spans.items (noted.inside code laid) at.0 at.1 known.0),
        known.1
            ∙ ap (λ (kinds : List LineKind). packets_at number code old.0.spans.items ++ kinds) (lines_next number head behind code bytes more.1)
            ∙ packets_more number code old.0.spans.items (span_of number head.what bytes) (own_kinds number (lines_of behind (drop (bytes + own_len head.what) code)))
            ∙ ap (λ (spans : List Span). packets_at number code spans ++ own_kinds number (lines_of behind (drop (bytes + own_len head.what) code))) (sym more.2),
      );
}

pub all_noted : (heads : List KeptLine) (code : List ℕ) (bytes : ℕ) (rows : List Row) → AreLaid heads code → AreNoted heads [] bytes rows → AreRows heads code rows
all_noted heads code bytes rows laid noted number row is whole =
    let known = noted.each code laid number row is whole in
    (known.0, known.1 ∙ append-nil (packets_at number code row.spans.items))

-- the line with this number
pub noted_at : (heads : List KeptLine) (index : ℕ) (first : KeptLine) (bytes behind : ℕ) (before after : List Row) → index < length heads
    → AreNoted heads (drop index heads) bytes before → NotesLine (get_or heads index first).what bytes before after
    → behind ≡ bytes + own_len (get_or heads index first).what → AreNoted heads (drop (index + 1) heads) behind after
noted_at heads index first bytes behind before after inside noted notes is =
    subst (λ (n : ℕ). AreNoted heads (drop (index + 1) heads) n after) (sym is)
    (noted_more heads (get_or heads index first) (drop (index + 1) heads) bytes before after
    (subst (λ (left : List KeptLine). AreNoted heads left bytes before)
    (drop-cons heads index first inside ∙ ap (λ (n : ℕ). get_or heads index first ∷ drop n heads) (let one : suc index ≡ index + 1 = omega arith in one))
    noted) notes)
