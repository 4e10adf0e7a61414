-- Bytes that are put into the fragment of a packet, over as many chunks as they take.
use Rattle.std.proofs.Common.{◌≡◌, ◌∙◌, ℕ, zero, suc, ◌+◌, ◌-◌, ◌*◌, ◌<◌, ◌≤◌, ◌==◌, min, cond, reverse, Bool, true, false, List, [], ◌∷◌, ◌++◌, length, take, drop, refl, sym, ap, subst, arith, append_assoc, append-nil, length-append}
use Rattle.std.specs.Prelude.{vec_len}
use Rattle.std.specs.List.{repeat}
use Rattle.std.proofs.lemmas.List.{take-append-drop, length-take, length-drop, take_all}
use Rattle.std.proofs.lemmas.Bool.{eqb-true, eqb-false}
use Rattle.trace_model.specs.Images.{with_bytes}
use Rattle.trace_model.specs.Packets.{Packet, with_more}
use Rattle.commit_body.specs.Patches.{holes_outside}
use Rattle.commit_body.specs.Pending.{Pending}
use Rattle.chunk_plain.specs.Setup.{spot}
use Rattle.chunk_plain.specs.Views.{BegunChunk, Held, Draft, WriterView}
use Rattle.trace_model.proofs.EncodingLemmas.{length-repeat}
use Rattle.cut_steps.specs.Writing.{with_open, IsWriting}
use Rattle.cut_steps.proofs.Places.{with_bytes_right}
use Rattle.cut_steps.proofs.WritingSteps.{writing_more, with_more-both, with_more-none}
use Rattle.trace_writer.specs.declared.fragment.OpenFragment.{OpenFragment}
use Rattle.trace_writer.specs.Drafted.{IsDrafted}
use Rattle.trace_writer.specs.Site.{Site}
use Rattle.trace_writer.specs.Filled.{frames, HasOpenFragment, HasByte}
use Rattle.trace_writer.specs.Fragment.{IsPutInto}
use Rattle.trace_writer.specs.Ids.{HasIds}
use Rattle.trace_writer.specs.States.{InFragment}
use Rattle.trace_writer.specs.Flows.{IsInPacket, PutsOn, StopsIn, RunsOn, StopsHere, IsStopped}
use Rattle.trace_writer.proofs.holding.Payloads.{written_moved}

-- One fragment

-- bytes stand behind those of the fragment
pub written_more : (payload : List ℕ) (start at count : ℕ) (done : List (List ℕ)) (now bytes : List ℕ) → HasOpenFragment payload start at count done now
    → HasOpenFragment (with_bytes payload at bytes) start (at + length bytes) count done (now ++ bytes)
written_more payload start at count done now bytes w =
    let front : List ℕ = (frames done ++ w.four) ++ now in
    let behind : List ℕ = drop (0 + length bytes) w.rest in
    let front_long : at ≡ length front + 0 =
    omega (arith, length-append (frames done ++ w.four) now, length-append (frames done) w.four, w.four_is, w.start_is, w.at_is) in
    record {
      four = w.four;
      rest = behind;
      four_is = w.four_is;
      payload_is = ap (λ (xs : List ℕ). with_bytes xs at bytes)
          (w.payload_is ∙ sym (append_assoc (frames done) w.four (now ++ w.rest)) ∙ sym (append_assoc (frames done ++ w.four) now w.rest))
          ∙ ap (λ (n : ℕ). with_bytes (front ++ w.rest) n bytes) front_long
          ∙ with_bytes_right front w.rest bytes 0
          ∙ append_assoc (frames done ++ w.four) now (bytes ++ behind)
          ∙ append_assoc (frames done) w.four (now ++ (bytes ++ behind))
          ∙ ap (λ (xs : List ℕ). frames done ++ (w.four ++ xs)) (sym (append_assoc now bytes behind));
      start_is = w.start_is;
      at_is = omega (arith, w.at_is, length-append now bytes);
      count_is = w.count_is;
    }

-- the view still shows the chunk that is held
pub held_same : (begun completed : List BegunChunk) (chunk other : ℕ) (draft : Draft) → other ≡ chunk
    → begun ≡ completed ++ Held chunk draft ∷ [] → begun ≡ completed ++ Held other draft ∷ []
held_same begun completed chunk other draft chunk_is is = is ∙ ap (λ (n : ℕ). completed ++ Held n draft ∷ []) (sym chunk_is)

-- and what was published of it
pub drafted_same : (draft : Draft) (count many : ℕ) (continues goes : Bool) (done : List (List ℕ)) → many ≡ count → goes ≡ continues
    → IsDrafted draft count continues done → IsDrafted draft many goes done
drafted_same draft count many continues goes done count_is continues_is is =
    subst (λ (n : ℕ). IsDrafted draft n goes done) (sym count_is) (subst (λ (b : Bool). IsDrafted draft count b done) (sym continues_is) is)

pub inside_more : (site : Site) (packet : Packet) (older : List Packet) (view : WriterView) (pending : Pending) (fragment next : OpenFragment) (bytes : List ℕ)
    → IsPutInto fragment next fragment.at bytes → next.at ≡ fragment.at + length bytes
    → InFragment site packet older view pending fragment [] → InFragment site (with_more bytes packet) older view pending next []
inside_more site packet older view pending fragment next bytes put at_is i = record {
  pages = i.pages;
  done = i.done;
  now = i.now ++ bytes;
  completed = i.completed;
  draft = i.draft;
  begun = held_same view.begun i.completed fragment.held.chunk next.held.chunk i.draft put.same.chunk i.begun;
  drafted = drafted_same i.draft fragment.count next.count fragment.continues next.continues i.done put.same.count put.same.continues i.drafted;
  shown = i.shown;
  position = put.same.position ∙ i.position;
  sized = ap (λ (n : ℕ). (spot site.setup n).payload_size) put.same.chunk ∙ i.sized;
  whole = put.same.len ∙ i.whole;
  written = written_moved fragment.start next.start (fragment.at + length bytes) next.at fragment.count next.count i.done (i.now ++ bytes)
      put.payload put.same.start at_is put.same.count
      (written_more fragment.held.body.payload.items fragment.start fragment.at fragment.count i.done i.now bytes i.written);
  few = i.few;
  room = subst (λ (n : ℕ). length pending.unsent + holes_outside n pending.holes ≤ 16) (sym put.same.position) i.room;
  writing = subst (λ (b : Bool). IsWriting site.size (with_more bytes packet) older i.pages b i.done (i.now ++ bytes) pending.unsent (reverse pending.holes) [])
      (sym put.same.continues)
      (writing_more site.size packet older i.pages fragment.continues i.done i.now bytes pending.unsent (reverse pending.holes) [] i.writing);
}

-- Ids

ids_put : (first : Bool) (at count further room : ℕ) → 4 ≤ at → count + further + cond first (at - 4) 277 ≤ room
    → further + cond first (at + count - 4) 277 ≤ room
ids_put true at count further room low h = omega (arith, low, h)
ids_put false at count further room low h = omega (arith, h)

ids_run : (first : Bool) (at further last position : ℕ) → 281 ≤ at → further + cond first (at - 4) 277 ≤ (last - position) * 277
    → further + 0 ≤ (last - (position + 1)) * 277
ids_run true at further last position low h = omega (arith, low, h)
ids_run false at further last position low h = omega (arith, h)

pub ids_behind : (fragment next : OpenFragment) (at : ℕ) (bytes : List ℕ) (count further : ℕ) → IsPutInto fragment next at bytes → next.at ≡ fragment.at + count
    → HasIds fragment (count + further) → HasIds next further
ids_behind fragment next at bytes count further put at_is h =
    subst (λ (n : ℕ). further + cond (next.start == 0) (n - 4) 277 ≤ (4294967294 - next.held.position) * 277) (sym at_is)
    (subst (λ (n : ℕ). further + cond (n == 0) (fragment.at + count - 4) 277 ≤ (4294967294 - next.held.position) * 277) (sym put.same.start)
    (subst (λ (n : ℕ). further + cond (fragment.start == 0) (fragment.at + count - 4) 277 ≤ (4294967294 - n) * 277) (sym put.same.position)
    (ids_put (fragment.start == 0) fragment.at count further ((4294967294 - fragment.held.position) * 277) (omega (arith, fragment.behind)) h)))

pub ids_next : (fragment next : OpenFragment) (further : ℕ) → next.start ≡ 0 → next.at ≡ 4 → next.held.position ≡ fragment.held.position + 1 → 281 ≤ fragment.at
    → HasIds fragment further → HasIds next further
ids_next fragment next further start_is at_is position_is low h =
    subst (λ (n : ℕ). further + cond (next.start == 0) (n - 4) 277 ≤ (4294967294 - next.held.position) * 277) (sym at_is)
    (subst (λ (n : ℕ). further + cond (n == 0) (4 - 4) 277 ≤ (4294967294 - next.held.position) * 277) (sym start_is)
    (subst (λ (n : ℕ). further + 0 ≤ (4294967294 - n) * 277) (sym position_is)
    (ids_run (fragment.start == 0) fragment.at further 4294967294 fragment.held.position low h)))

pub ids_less : (fragment : OpenFragment) (many few : ℕ) → few ≤ many → HasIds fragment many → HasIds fragment few
ids_less fragment many few less h = omega (arith, less, h)

-- A piece

-- what is left behind the bytes that were written
pub left_is : (rest : List ℕ) (count : ℕ) → drop count rest ≡ take (length rest - count) (drop count rest)
left_is rest count = sym (take_all (length rest - count) (drop count rest) (omega (arith, length-drop count rest)))

pub left_none : (rest : List ℕ) (count : ℕ) (empty : Bool) → empty ≡ (length (take (length rest - count) (drop count rest)) == 0) → empty ≡ true
    → length (drop count rest) ≡ 0
left_none rest count empty is all =
    ap length (left_is rest count) ∙ eqb-true (length (take (length rest - count) (drop count rest))) 0 (sym is ∙ all)

pub left_some : (rest : List ℕ) (count : ℕ) (empty : Bool) → empty ≡ (length (take (length rest - count) (drop count rest)) == 0) → empty ≡ false
    → 0 < length (drop count rest)
left_some rest count empty is some =
    let not_none : length (take (length rest - count) (drop count rest)) ≡ 0 → ⊥ = eqb-false (length (take (length rest - count) (drop count rest))) 0 (sym is ∙ some) in
    let same : length (drop count rest) ≡ length (take (length rest - count) (drop count rest)) = ap length (left_is rest count) in
    omega (arith, same, not_none)

-- Some of the piece is written, and the rest is left.
pub record PutsSoFar (site : Site) (old new : WriterView) (before after : Pending) (fragment next : OpenFragment) (piece rest : List ℕ) : Type 0 where
  pub put : List ℕ
  pub piece_is : piece ≡ put ++ rest
  pub calls : new.calls ≡ old.calls
  pub holes : length after.holes ≡ length before.holes
  pub keeps : (packet : Packet) (older : List Packet) → InFragment site packet older old before fragment []
      → InFragment site (with_more put packet) older new after next []
  pub ids : (further : ℕ) → HasIds fragment (length piece + further) → HasIds next (length rest + further)
  pub byte : length rest ≡ 0 → HasByte fragment → HasByte next

four_below : (count at end : ℕ) → end ≡ at + count → 4 ≤ at → (count ≡ 0 → 4 < at) → 4 < end
four_below zero at end is low h = omega (arith, is, h refl)
four_below (suc count) at end is low h = omega (arith, is, low)

pub puts_none : (site : Site) (view : WriterView) (pending : Pending) (fragment : OpenFragment) (piece : List ℕ)
    → PutsSoFar site view view pending pending fragment fragment piece piece
puts_none site view pending fragment piece = record {
  put = [];
  piece_is = refl;
  calls = refl;
  holes = refl;
  keeps = λ packet older i.
      subst (λ (p : Packet). InFragment site p older view pending fragment []) (sym (with_more-none packet)) i;
  ids = λ further h. h;
  byte = λ none h. h;
}

-- what fits is written
pub puts_part : (site : Site) (old new : WriterView) (before after : Pending) (fragment now next : OpenFragment) (piece rest : List ℕ) (count : ℕ)
    → count ≡ min (length rest) (vec_len now.held.body.payload - now.at) → IsPutInto now next now.at (take count rest) → next.at ≡ now.at + count
    → PutsSoFar site old new before after fragment now piece rest
    → PutsSoFar site old new before after fragment next piece (drop count rest)
puts_part site old new before after fragment now next piece rest count count_is put at_is so_far =
    let long : length (take count rest) ≡ count = omega (arith, length-take count rest, count_is) in
    let left : length (drop count rest) + count ≡ length rest = omega (arith, length-drop count rest, count_is) in
    record {
      put = so_far.put ++ take count rest;
      piece_is = so_far.piece_is
          ∙ ap (λ (xs : List ℕ). so_far.put ++ xs) (sym (take-append-drop count rest))
          ∙ sym (append_assoc so_far.put (take count rest) (drop count rest));
      calls = so_far.calls;
      holes = so_far.holes;
      keeps = λ packet older i.
          subst (λ (p : Packet). InFragment site p older new after next []) (with_more-both packet so_far.put (take count rest))
          (inside_more site (with_more so_far.put packet) older new after now next (take count rest) put (at_is ∙ ap (λ (n : ℕ). now.at + n) (sym long))
          (so_far.keeps packet older i));
      ids = λ further h.
          ids_behind now next now.at (take count rest) count (length (drop count rest) + further) put at_is
          (subst (λ (n : ℕ). HasIds now n) (omega (arith, left)) (so_far.ids further h));
      byte = λ none h continues first.
          four_below count now.at next.at at_is (omega (arith, now.behind))
          (λ no. so_far.byte (omega (arith, left, none, no)) h (sym put.same.continues ∙ continues) (sym put.same.start ∙ first));
    }

-- the packet that is written, with the bytes so far
pub inside_so_far : (site : Site) (old new : WriterView) (before after : Pending) (fragment next : OpenFragment) (piece rest : List ℕ)
    → PutsSoFar site old new before after fragment next piece rest → IsInPacket site old before fragment → IsInPacket site new after next
inside_so_far site old new before after fragment next piece rest so_far i =
    record { packet = with_more so_far.put i.packet; older = i.older; inside = so_far.keeps i.packet i.older i.inside }

-- where bytes are left the chunk is full
pub full_when_left : (site : Site) (view : WriterView) (pending : Pending) (now next : OpenFragment) (at : ℕ) (bytes rest : List ℕ) (count : ℕ)
    → count ≡ min (length rest) (vec_len now.held.body.payload - now.at) → IsPutInto now next at bytes → next.at ≡ now.at + count
    → 0 < length (drop count rest) → IsInPacket site view pending next → next.at ≡ site.size
full_when_left site view pending now next at bytes rest count count_is put at_is left i =
    omega (arith, length-drop count rest, count_is, at_is, left, put.same.len, i.inside.whole, now.within)

-- the rest goes into a next chunk
pub puts_run : (site : Site) (old mid new : WriterView) (before between after : Pending) (fragment next later : OpenFragment) (piece rest : List ℕ)
    → PutsSoFar site old mid before between fragment next piece rest → RunsOn site mid new between after next later → next.at ≡ site.size → 284 ≤ site.size
    → 0 < length rest → PutsSoFar site old new before after fragment later piece rest
puts_run site old mid new before between after fragment next later piece rest so_far runs full least left = record {
  put = so_far.put;
  piece_is = so_far.piece_is;
  calls = runs.calls ∙ so_far.calls;
  holes = ap length runs.holes ∙ so_far.holes;
  keeps = λ packet older i. runs.full full (with_more so_far.put packet) older (so_far.keeps packet older i);
  ids = λ further h. ids_next next later (length rest + further) runs.start runs.at runs.position (omega (arith, full, least)) (so_far.ids further h);
  byte = λ none h. absurd (omega (arith, none, left));
}

-- or the packet stops
pub puts_lost : (site : Site) (old mid new : WriterView) (before between after : Pending) (fragment next : OpenFragment)
    (piece rest : List ℕ) → PutsSoFar site old mid before between fragment next piece rest → StopsHere site mid new between after next
    → next.at ≡ site.size → 0 < length rest → StopsIn site old new before after fragment piece
puts_lost site old mid new before between after fragment next piece rest so_far cannot full left =
    let whole : (packet : Packet) (more : List ℕ) → with_more (rest ++ more) (with_more so_far.put packet) ≡ with_more (piece ++ more) packet =
    λ packet more. with_more-both packet so_far.put (rest ++ more)
    ∙ ap (λ (xs : List ℕ). with_more xs packet) (sym (append_assoc so_far.put rest more) ∙ ap (λ (xs : List ℕ). xs ++ more) (sym so_far.piece_is)) in
    record {
      calls = cannot.calls ∙ so_far.calls;
      stopped = λ packet older more i.
          subst (λ (p : Packet). IsStopped site p older new after) (whole packet more)
          (cannot.full full (with_more so_far.put packet) older (rest ++ more) (omega (arith, length-append rest more, left)) (so_far.keeps packet older i));
      stopped_nested = λ packet older more i.
          subst (λ (p : Packet). IsStopped site (with_open p) older new after) (whole packet more)
          (cannot.full_nested full (with_more so_far.put packet) older (rest ++ more) (so_far.keeps packet older i));
    }

-- all of it is written
pub puts_all : (site : Site) (old new : WriterView) (before after : Pending) (fragment next : OpenFragment) (piece rest : List ℕ)
    → PutsSoFar site old new before after fragment next piece rest → length rest ≡ 0 → PutsOn site old new before after fragment next piece
puts_all site old new before after fragment next piece [] so_far none =
    let all : so_far.put ≡ piece = sym (so_far.piece_is ∙ append-nil so_far.put) in
    record {
      calls = so_far.calls;
      holes = so_far.holes;
      keeps = λ packet older i. subst (λ (xs : List ℕ). InFragment site (with_more xs packet) older new after next []) all (so_far.keeps packet older i);
      ids = λ further h. subst (λ (n : ℕ). HasIds next n) (omega arith) (so_far.ids further h);
      byte = so_far.byte refl;
    }
puts_all site old new before after fragment next piece (one ∷ rest) so_far none = absurd (omega (arith, none))

-- all of it fits into the fragment
pub puts_here : (site : Site) (view : WriterView) (pending : Pending) (fragment next : OpenFragment) (piece : List ℕ) (count : ℕ)
    → fragment.at + length piece ≤ vec_len fragment.held.body.payload → count ≡ min (length piece) (vec_len fragment.held.body.payload - fragment.at)
    → IsPutInto fragment next fragment.at (take count piece) → next.at ≡ fragment.at + count → PutsOn site view view pending pending fragment next piece
puts_here site view pending fragment next piece count fits count_is put at_is =
    puts_all site view view pending pending fragment next piece (drop count piece)
    (puts_part site view view pending pending fragment fragment next piece piece count count_is put at_is (puts_none site view pending fragment piece))
    (omega (arith, length-drop count piece, count_is, fits))

-- there is an id for a next chunk
pub ids_most : (site : Site) (old new : WriterView) (before after : Pending) (fragment next : OpenFragment) (piece rest : List ℕ)
    → PutsSoFar site old new before after fragment next piece rest → HasIds fragment (length piece) → 0 < length rest → HasIds next 1
ids_most site old new before after fragment next piece rest so_far enough left =
    ids_less next (length rest) 1 (omega (arith, left))
    (subst (λ (n : ℕ). HasIds next n) (omega arith) (so_far.ids 0 (subst (λ (n : ℕ). HasIds fragment n) (omega arith) enough)))

-- One piece behind another

pub puts_both : (site : Site) (old mid new : WriterView) (before between after : Pending) (fragment now next : OpenFragment) (one two : List ℕ)
    → PutsOn site old mid before between fragment now one → PutsOn site mid new between after now next two
    → PutsOn site old new before after fragment next (one ++ two)
puts_both site old mid new before between after fragment now next one two first second = record {
  calls = second.calls ∙ first.calls;
  holes = second.holes ∙ first.holes;
  keeps = λ packet older i.
      subst (λ (p : Packet). InFragment site p older new after next []) (with_more-both packet one two)
      (second.keeps (with_more one packet) older (first.keeps packet older i));
  ids = λ further h.
      second.ids further (first.ids (length two + further) (subst (λ (n : ℕ). HasIds fragment n) (omega (arith, length-append one two)) h));
  byte = λ h. second.byte (first.byte h);
}

-- a packet that stops in a piece behind another stops in the two, whatever comes behind them
pub lost_behind : (site : Site) (old mid new : WriterView) (before between after : Pending) (fragment now : OpenFragment)
    (one two later whole : List ℕ) → whole ≡ one ++ (two ++ later)
    → PutsOn site old mid before between fragment now one → StopsIn site mid new between after now two
    → StopsIn site old new before after fragment whole
lost_behind site old mid new before between after fragment now one two later whole whole_is first lost =
    let all : (packet : Packet) (more : List ℕ) → with_more (two ++ (later ++ more)) (with_more one packet) ≡ with_more (whole ++ more) packet =
    λ packet more. with_more-both packet one (two ++ (later ++ more))
    ∙ ap (λ (xs : List ℕ). with_more xs packet)
    (ap (λ (xs : List ℕ). one ++ xs) (sym (append_assoc two later more)) ∙ sym (append_assoc one (two ++ later) more) ∙ ap (λ (xs : List ℕ). xs ++ more) (sym whole_is)) in
    record {
      calls = lost.calls ∙ first.calls;
      stopped = λ packet older more i.
          subst (λ (p : Packet). IsStopped site p older new after) (all packet more)
          (lost.stopped (with_more one packet) older (later ++ more) (first.keeps packet older i));
      stopped_nested = λ packet older more i.
          subst (λ (p : Packet). IsStopped site (with_open p) older new after) (all packet more)
          (lost.stopped_nested (with_more one packet) older (later ++ more) (first.keeps packet older i));
    }

pub puts_nothing : (site : Site) (view : WriterView) (pending : Pending) (fragment : OpenFragment) → PutsOn site view view pending pending fragment fragment []
puts_nothing site view pending fragment = record {
  calls = refl;
  holes = refl;
  keeps = λ packet older i. subst (λ (p : Packet). InFragment site p older view pending fragment []) (sym (with_more-none packet)) i;
  ids = λ further h. subst (λ (n : ℕ). HasIds fragment n) (omega arith) h;
  byte = λ h. h;
}

-- A piece so many times over

repeat-both : (a b : ℕ) (piece : List ℕ) → repeat (a + b) piece ≡ repeat a piece ++ repeat b piece
repeat-both zero b piece = ap (λ (n : ℕ). repeat n piece) (omega arith)
repeat-both (suc a) b piece =
    let more : suc a + b ≡ suc (a + b) = omega arith in
    ap (λ (n : ℕ). repeat n piece) more
    ∙ ap (λ (xs : List ℕ). piece ++ xs) (repeat-both a b piece)
    ∙ sym (append_assoc piece (repeat a piece) (repeat b piece))

repeat-at : (turn times : ℕ) (piece : List ℕ) → turn < times → repeat times piece ≡ repeat turn piece ++ (piece ++ repeat (times - (turn + 1)) piece)
repeat-at turn times piece before =
    let split : times ≡ turn + suc (times - (turn + 1)) = omega (arith, before) in
    ap (λ (n : ℕ). repeat n piece) split ∙ repeat-both turn (suc (times - (turn + 1))) piece

pub repeat-next : (turn : ℕ) (piece : List ℕ) → repeat (turn + 1) piece ≡ repeat turn piece ++ piece
repeat-next turn piece = repeat-both turn 1 piece ∙ ap (λ (xs : List ℕ). repeat turn piece ++ xs) (append-nil piece)

pub times_next : (site : Site) (old mid new : WriterView) (before between after : Pending) (fragment now next : OpenFragment) (turn : ℕ) (piece : List ℕ)
    → PutsOn site old mid before between fragment now (repeat turn piece) → PutsOn site mid new between after now next piece
    → PutsOn site old new before after fragment next (repeat (turn + 1) piece)
times_next site old mid new before between after fragment now next turn piece first second =
    subst (λ (xs : List ℕ). PutsOn site old new before after fragment next xs)
    (sym (repeat-next turn piece))
    (puts_both site old mid new before between after fragment now next (repeat turn piece) piece first second)

pub times_lost : (site : Site) (old mid new : WriterView) (before between after : Pending) (fragment now : OpenFragment)
    (turn times : ℕ) (piece : List ℕ) → turn < times
    → PutsOn site old mid before between fragment now (repeat turn piece) → StopsIn site mid new between after now piece
    → StopsIn site old new before after fragment (repeat times piece)
times_lost site old mid new before between after fragment now turn times piece earlier first lost =
    lost_behind site old mid new before between after fragment now (repeat turn piece) piece (repeat (times - (turn + 1)) piece) (repeat times piece)
    (repeat-at turn times piece earlier) first lost

pub times_ids : (site : Site) (old new : WriterView) (before after : Pending) (fragment now : OpenFragment) (turn times : ℕ) (piece : List ℕ) → turn < times
    → HasIds fragment (times * length piece) → PutsOn site old new before after fragment now (repeat turn piece) → HasIds now (length piece)
times_ids site old new before after fragment now turn times piece earlier enough so_far =
    let later : List ℕ = repeat (times - (turn + 1)) piece in
    let all : times * length piece ≡ length (repeat turn piece) + length (piece ++ later) =
    sym (length-repeat times piece) ∙ ap length (repeat-at turn times piece earlier) ∙ length-append (repeat turn piece) (piece ++ later) in
    ids_less now (length (piece ++ later)) (length piece) (omega (arith, length-append piece later))
    (so_far.ids (length (piece ++ later)) (subst (λ (n : ℕ). HasIds fragment n) all enough))

-- the packet that is written, with the bytes that were put behind it
pub inside_behind : (site : Site) (old new : WriterView) (before after : Pending) (fragment next : OpenFragment) (bytes : List ℕ)
    → PutsOn site old new before after fragment next bytes → IsInPacket site old before fragment → IsInPacket site new after next
inside_behind site old new before after fragment next bytes puts i =
    record { packet = with_more bytes i.packet; older = i.older; inside = puts.keeps i.packet i.older i.inside }
