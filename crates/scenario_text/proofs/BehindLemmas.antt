-- A text of which more is still to come: its first line is cut off, whatever comes.
use Rattle.std.proofs.Common.{append_assoc, ◌≡◌, ℕ, suc, Result, Ok, Err, ◌+◌, ◌-◌, ◌<◌, length, Bool, true, false, not, cond, nat_eq, Option, Some, None, List, [], ◌∷◌, ◌++◌, take, drop, refl, sym, ap, subst, arith, ◌∙◌}
use Rattle.std.specs.Option.{is_some}
use Rattle.std.specs.List.{onto_first, position_or_len, slice_split}
use Rattle.std.proofs.lemmas.List.{append-nil, take_rest, take-append-le, drop-append-le}
use Rattle.std.proofs.lemmas.List.Splits.{slice_split_first}
use Rattle.std.proofs.lemmas.Grind.{common_steps}
use Rattle.memchr.specs.Find.{IsFirstByte, is_byte}
use Rattle.scenario_text.specs.Pieces.{pieces, pieces_behind}
use Rattle.scenario_text.specs.declared.reason.Reason.{Reason}
use Rattle.scenario_text.specs.declared.reason.Reason.TheVariants.{UnfinishedLine}
use Rattle.scenario_text.specs.declared.reason.ScenarioFault.{ScenarioFault}
use Rattle.scenario_text.specs.declared.reason.ScenarioFault.TheVariants.{OutOfMemory, Bad}
use Rattle.scenario_text.specs.declared.lines_reader.LinesReader.{LinesReader}
use Rattle.scenario_text.specs.Grammar.{after_line, after_lines, at_end}
use Rattle.scenario_text.specs.Scenario.{GivesScenario, Parts, said}
use Rattle.scenario_text.specs.View.{state_of}
use Rattle.scenario_text.specs.declared.scenario_reader.ScenarioReader.{ScenarioReader}
use Rattle.scenario_text.specs.Behind.{says_after, says_behind, waiting, IsOneLine, RefusedBy}
use Rattle.scenario_text.proofs.PieceLemmas.{first_byte_is, has_piece, HasPiece, one_piece, place_by}
use Rattle.scenario_text.proofs.ReadLemmas.{scenario_goes, scenario_stops, scenario_unfinished}

front_more : (answer : Bool) (here there len : ℕ) → (here < len → there ≡ here) → cond (not answer) (1 + here) 0 < suc len
    → cond (not answer) (1 + there) 0 ≡ cond (not answer) (1 + here) 0
front_more true here there len again inside = refl
front_more false here there len again inside = ap (λ (n : ℕ). 1 + n) (again (omega arith))

-- what comes behind doesn't move the first place
front_place : (p : ℕ → Bool) (bytes more : List ℕ) → position_or_len p bytes < length bytes
    → position_or_len p (bytes ++ more) ≡ position_or_len p bytes
front_place p [] more inside = absurd (omega arith)
front_place p (b ∷ bytes) more inside =
    front_more (p b) (position_or_len p bytes) (position_or_len p (bytes ++ more)) (length bytes) (front_place p bytes more) inside

-- no line feed came
pub no_line : (bytes : List ℕ) → IsFirstByte (is_byte 10) bytes None → pieces 10 bytes ≡ bytes ∷ []
unfolding pieces_behind
no_line bytes nowhere = one_piece 10 bytes (sym (first_byte_is bytes 10 None nowhere))

-- the first line, where this place has the first line feed
pub one_line : (bytes more : List ℕ) (at : ℕ) → IsFirstByte (is_byte 10) bytes (Some at)
    → pieces 10 (bytes ++ more) ≡ take at bytes ∷ pieces 10 (take (length bytes - (at + 1)) (drop (at + 1) bytes) ++ more)
one_line bytes more at found =
    let p : ℕ → Bool = λ b. nat_eq b 10 in
    let there = place_by _ at (length bytes) (position_or_len p bytes) refl (sym (first_byte_is bytes 10 (Some at) found)) in
    let same : position_or_len p (bytes ++ more) ≡ at = front_place p bytes more there.1 ∙ there.0 in
    let inside : position_or_len p (bytes ++ more) < length (bytes ++ more) = grind (arith, common_steps) in
    let first = slice_split_first p (bytes ++ more) 0 inside in
    rw (take_rest bytes (at + 1))
    (rw (← take-append-le at bytes more (omega arith)) (rw (← drop-append-le (at + 1) bytes more (omega arith))
    (subst (λ (n : ℕ). slice_split p (bytes ++ more) ≡ take n (bytes ++ more) ∷ slice_split p (drop (n + 1) (bytes ++ more))) same first)))

pub behind_line : (bytes : List ℕ) (at : ℕ) → at < length bytes
    → take (length bytes - (at + 1)) (drop (at + 1) bytes) ≡ drop (length (take at bytes) + 1) bytes
behind_line bytes at inside = grind (arith, common_steps, take_rest bytes (at + 1))

-- two parts of one line are a part of it too
join_by : (b : ℕ) (bytes back : List ℕ) (answer : Bool) (all : List (List ℕ)) → HasPiece all → cond answer ([] ∷ all) (onto_first b all) ≡ (b ∷ bytes) ∷ []
    → (all ≡ bytes ∷ [] → pieces 10 (bytes ++ back) ≡ (bytes ++ back) ∷ [])
    → cond answer ([] ∷ pieces 10 (bytes ++ back)) (onto_first b (pieces 10 (bytes ++ back))) ≡ (b ∷ bytes ++ back) ∷ []
join_by b bytes back true all some one again = cc
join_by b bytes back false [] some one again = absurd (by_none some)
  where
    by_none : HasPiece [] → ⊥
    by_none some = let are = some.are in cc
join_by b bytes back false (first ∷ others) some one again =
    let first_is : first ≡ bytes = cc in
    let none : others ≡ [] = cc in
    rw (again (rw first_is (rw none refl))) refl

pub joined_line : (front back : List ℕ) → IsOneLine front → IsOneLine back → IsOneLine (front ++ back)
joined_line [] back one other = other
joined_line (b ∷ bytes) back one other =
    join_by b bytes back (nat_eq b 10) (pieces 10 bytes) (has_piece 10 bytes) one (λ whole. joined_line bytes back whole other)

-- ---- a reader of lines

-- the next line is read
pub line_is_read : (reader after : LinesReader) (rest line behind more : List ℕ) → pieces 10 (rest ++ more) ≡ line ∷ pieces 10 (behind ++ more)
    → after_line (state_of reader.reader) reader.number line ≡ Ok (state_of after.reader) → after.number ≡ reader.number + 1
    → says_after reader (rest ++ more) ≡ says_after after (behind ++ more)
unfolding says_after pieces_behind
line_is_read reader after rest line behind more cut is number =
    ap (λ (lines : List (List ℕ)). said (after_lines (state_of reader.reader) reader.number lines)) cut
    ∙ scenario_goes (state_of reader.reader) (state_of after.reader) reader.number line (behind ++ more) is
    ∙ ap (λ (n : ℕ). said (after_lines (state_of after.reader) n (pieces 10 (behind ++ more)))) (sym number)

-- or refused
pub line_is_refused : (reader : LinesReader) (rest line behind more : List ℕ) (reason : Reason)
    → pieces 10 (rest ++ more) ≡ line ∷ pieces 10 (behind ++ more)
    → after_line (state_of reader.reader) reader.number line ≡ Err reason → says_after reader (rest ++ more) ≡ Err (reader.number, reason)
unfolding says_after pieces_behind
line_is_refused reader rest line behind more reason cut is =
    ap (λ (lines : List (List ℕ)). said (after_lines (state_of reader.reader) reader.number lines)) cut
    ∙ scenario_stops (state_of reader.reader) reader.number line (behind ++ more) reason is

-- nothing comes behind
pub nothing_behind : (reader : LinesReader) → says_after reader [] ≡ said (at_end (state_of reader.reader))
unfolding says_after after_lines
nothing_behind reader = refl

-- the beginning of a line comes behind
pub part_behind : (reader : LinesReader) (rest : List ℕ) → pieces 10 rest ≡ rest ∷ [] → 0 < length rest
    → says_after reader rest ≡ Err (reader.number, UnfinishedLine)
unfolding says_after pieces_behind
part_behind reader rest whole some =
    ap (λ (lines : List (List ℕ)). said (after_lines (state_of reader.reader) reader.number lines)) whole
    ∙ scenario_unfinished (state_of reader.reader) reader.number rest some

-- what is so whatever comes is so where nothing comes
pub goes_on_alone : (old new : LinesReader) (bytes rest : List ℕ) → ((more : List ℕ) → says_after old (bytes ++ more) ≡ says_after new (rest ++ more))
    → says_after old bytes ≡ says_after new rest
goes_on_alone old new bytes rest goes =
    ap (says_after old) (sym (append-nil bytes)) ∙ goes [] ∙ ap (says_after new) (append-nil rest)

pub by_fault : (fault : ScenarioFault) (given : Result Parts (ℕ × Reason)) → RefusedBy fault given → GivesScenario (Err fault) given
by_fault OutOfMemory given refused = tt
by_fault (Bad line reason) given refused = refused

pub refused_alone : (reader : LinesReader) (bytes : List ℕ) (fault : ScenarioFault) → ((more : List ℕ) → RefusedBy fault (says_after reader (bytes ++ more)))
    → GivesScenario (Err fault) (says_after reader bytes)
refused_alone reader bytes fault refused =
    by_fault fault (says_after reader bytes)
    (subst (λ (all : List ℕ). RefusedBy fault (says_after reader all)) (append-nil bytes) (refused []))

-- ---- a reader of a text that comes piece by piece

-- what waits and what comes are one text
pub one_text : (reader : ScenarioReader) (bytes piece more : List ℕ) → bytes ≡ reader.pending.items ++ piece
    → says_behind reader (piece ++ more) ≡ says_after reader.lines (bytes ++ more)
unfolding says_behind
one_text reader bytes piece more all =
    ap (says_after reader.lines) (sym (append_assoc reader.pending.items piece more))
    ∙ ap (λ (front : List ℕ). says_after reader.lines (front ++ more)) (sym all)

-- a piece without a line feed waits
pub piece_waits : (old new : ScenarioReader) (piece more : List ℕ) → new.lines ≡ old.lines → new.pending.items ≡ old.pending.items ++ piece
    → says_behind old (piece ++ more) ≡ says_behind new more
unfolding says_behind
piece_waits old new piece more lines all =
    one_text old new.pending.items piece more all ∙ ap (λ (l : LinesReader). says_after l (new.pending.items ++ more)) (sym lines)

-- so that what waits is still one line
pub one_line_waits : (old new : ScenarioReader) (piece : List ℕ) (found : Option ℕ) → IsFirstByte (is_byte 10) piece found → is_some found ≡ false
    → new.pending.items ≡ old.pending.items ++ piece → IsOneLine (waiting old) → IsOneLine (waiting new)
unfolding waiting
one_line_waits old new piece None nowhere none all one =
    subst IsOneLine (sym all) (joined_line old.pending.items piece one (no_line piece nowhere))
one_line_waits old new piece (Some at) nowhere none all one = cc

-- the lines of what came were read, and the rest waits
pub lines_are_read : (old new : ScenarioReader) (bytes piece more : List ℕ) (count : ℕ) → bytes ≡ old.pending.items ++ piece
    → ((more : List ℕ) → says_after old.lines (bytes ++ more) ≡ says_after new.lines (drop count bytes ++ more))
    → new.pending.items ≡ drop count bytes → says_behind old (piece ++ more) ≡ says_behind new more
unfolding says_behind
lines_are_read old new bytes piece more count all goes waits =
    one_text old bytes piece more all ∙ goes more ∙ ap (λ (rest : List ℕ). says_after new.lines (rest ++ more)) (sym waits)

-- what came is refused
pub piece_is_refused : (reader : ScenarioReader) (bytes piece more : List ℕ) (fault : ScenarioFault) → bytes ≡ reader.pending.items ++ piece
    → ((more : List ℕ) → RefusedBy fault (says_after reader.lines (bytes ++ more))) → RefusedBy fault (says_behind reader (piece ++ more))
piece_is_refused reader bytes piece more fault all refused =
    subst (λ (given : Result Parts (ℕ × Reason)). RefusedBy fault given) (sym (one_text reader bytes piece more all)) (refused more)

-- at its end a text is what waits
pub waits_alone : (reader : ScenarioReader) → says_after reader.lines reader.pending.items ≡ says_behind reader []
unfolding says_behind
waits_alone reader = ap (says_after reader.lines) (sym (append-nil reader.pending.items))
