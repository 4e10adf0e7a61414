-- The steps joined, in chunks with payloads of twelve bytes: a packet whose nested message crosses chunks is finished, and
-- two like it are given up, one with a length open in each chunk, one before a nested length that has no room.
use Rattle.std.proofs.Common.{ℕ, true, false, List, [], ◌∷◌, None, refl, arith, inl}
use Rattle.std.proofs.lemmas.Bool.{false≢true}
use Rattle.wire_varint.specs.Varint.{redundant}
use Rattle.trace_model.specs.Images.{Patch}
use Rattle.trace_model.specs.Packets.{Packet, Text, with_more, with_nested_ended, finished_packet, given_up_packet}
use Rattle.trace_model.specs.Pages.{Page}
use Rattle.trace_model.specs.Cut.{IsWellFormedPage, CutsInto}
use Rattle.commit_body.specs.declared.hole.Hole.{Hole}
use Rattle.commit_body.specs.Pending.{patch_for}
use Rattle.cut_steps.specs.Writing.{with_open, IsWriting}
use Rattle.cut_steps.proofs.Beginning.{between_first, writing_begun_new}
use Rattle.cut_steps.proofs.WritingSteps.{writing_more, writing_nested}
use Rattle.cut_steps.proofs.RunningOn.{writing_run_on}
use Rattle.cut_steps.proofs.EndingSteps.{writing_ended_later}
use Rattle.cut_steps.proofs.BetweenCuts.{between_finished, between_held_cut}
use Rattle.cut_steps.proofs.GivesUpSteps.{gives_up, gives_up_nested, gives_up_here, gives_up_later, gave_up_cut}
use Rattle.cut_steps.proofs.RawCutLemmas.{raw_cut_is_cut}

pub begun : Packet
begun = record {
  kept = true;
  follows_loss = false;
  follows_flush = false;
  text = record { levels = [] ∷ []; closed = [] };
  given_up = None;
  finished = false;
}

-- a number field, a tag with its nested length, and the first byte of the message; the chunk is full
pub first_page : Page
first_page = record {
  continues = false;
  runs_on = true;
  awaits = true;
  fragments = (8 ∷ 1 ∷ 18 ∷ 128 ∷ 128 ∷ 128 ∷ 0 ∷ 8 ∷ []) ∷ [];
  dropped = false;
  rest = [];
  patches = [];
}

first_full : IsWellFormedPage 12 first_page
unfolding redundant first_page
first_full = record { some = omega arith; most = omega arith; whole = refl; dropped = λ e. absurd (false≢true e) }

first_hole : Hole
first_hole = record { chunk_id = 0; offset = 7 }

-- the packet that has run on, and has one more byte in its second chunk
abbrev pub running : Packet
unfolding begun
running = with_more (1 ∷ []) (with_more (8 ∷ []) (with_open (with_more (8 ∷ 1 ∷ 18 ∷ []) begun)))

runs : IsWriting 12 running [] (first_page ∷ []) true [] (1 ∷ []) [] (first_hole ∷ []) []
unfolding begun first_page first_hole
runs =
    let tagged : Packet = with_more (8 ∷ 1 ∷ 18 ∷ []) begun in
    let nested : Packet = with_open tagged in
    let open_now : List ℕ = 8 ∷ 1 ∷ 18 ∷ 128 ∷ 128 ∷ 128 ∷ 0 ∷ [] in
    let start = writing_begun_new 12 begun [] [] [] (between_first 12 (omega arith)) refl refl refl refl refl refl refl in
    let tag = writing_more 12 begun [] [] false [] [] (8 ∷ 1 ∷ 18 ∷ []) [] [] [] start in
    let length_begun = writing_nested 12 tagged [] [] false [] (8 ∷ 1 ∷ 18 ∷ []) [] [] [] (λ n e. absurd (false≢true e)) tag in
    let full = writing_more 12 nested [] [] false [] open_now (8 ∷ []) [] (first_hole ∷ []) [] length_begun in
    let next = writing_run_on 12 (with_more (8 ∷ []) nested) [] [] first_page [] (8 ∷ 1 ∷ 18 ∷ 128 ∷ 128 ∷ 128 ∷ 0 ∷ 8 ∷ []) [] (first_hole ∷ []) [] refl refl first_full refl refl (inl refl) full in
    writing_more 12 (with_more (8 ∷ []) nested) [] (first_page ∷ []) true [] [] (1 ∷ []) [] (first_hole ∷ []) [] next

-- The packet is finished: the length of its message, 2, comes as a patch.

pub whole_page : Page
whole_page = record {
  continues = true;
  runs_on = false;
  awaits = false;
  fragments = (1 ∷ []) ∷ [];
  dropped = false;
  rest = 0 ∷ 0 ∷ 0 ∷ 0 ∷ 0 ∷ 0 ∷ 0 ∷ [];
  patches = record { chunk_id = 0; offset = 7; bytes = 130 ∷ 128 ∷ 128 ∷ 0 ∷ []; last = true } ∷ [];
}

whole_full : IsWellFormedPage 12 whole_page
unfolding redundant whole_page
whole_full = record { some = omega arith; most = omega arith; whole = refl; dropped = λ e. absurd (false≢true e) }

pub finished_is_cut : CutsInto 12 (finished_packet (with_nested_ended running) ∷ []) (first_page ∷ whole_page ∷ [])
unfolding redundant begun first_page first_hole whole_page
finished_is_cut =
    let last : Packet = finished_packet (with_nested_ended running) in
    let patches : List Patch = patch_for first_hole 2 ∷ [] in
    let ended =
    writing_ended_later 12 running [] (first_page ∷ []) true [] (1 ∷ []) [] first_hole [] [] (8 ∷ 1 ∷ []) (8 ∷ 1 ∷ 18 ∷ []) [] refl (λ e. absurd (omega (arith, e))) (omega arith) runs in
    let between = between_finished 12 (with_nested_ended running) [] (first_page ∷ []) whole_page [] (1 ∷ []) patches ended refl refl refl (λ goes first. omega arith) in
    raw_cut_is_cut 12 (last ∷ []) (first_page ∷ whole_page ∷ [])
    (between_held_cut 12 (last ∷ []) (first_page ∷ []) whole_page patches 9 between refl refl refl refl whole_full)

-- The packet is given up in a second nested message: both lengths are 0, one by a patch.

pub marked_page : Page
marked_page = record {
  continues = true;
  runs_on = false;
  awaits = false;
  fragments = (1 ∷ 26 ∷ 128 ∷ 128 ∷ 128 ∷ 0 ∷ 9 ∷ 9 ∷ []) ∷ [];
  dropped = true;
  rest = [];
  patches = record { chunk_id = 0; offset = 7; bytes = 128 ∷ 128 ∷ 128 ∷ 0 ∷ []; last = true } ∷ [];
}

marked_full : IsWellFormedPage 12 marked_page
unfolding redundant marked_page
marked_full = record { some = omega arith; most = omega arith; whole = refl; dropped = λ e. (refl, refl) }

-- of the last call's three bytes one had no room
abbrev pub second_nested : Packet
unfolding begun
second_nested = with_more (9 ∷ 9 ∷ []) (with_open (with_more (26 ∷ []) running))

pub given_up_is_cut : CutsInto 12 (given_up_packet (with_more (7 ∷ []) second_nested) ∷ []) (first_page ∷ marked_page ∷ [])
unfolding redundant begun first_page first_hole marked_page
given_up_is_cut =
    let tagged : Packet = with_more (26 ∷ []) running in
    let last : Packet = given_up_packet (with_more (7 ∷ []) second_nested) in
    let text : Text = (with_more (7 ∷ []) second_nested).text in
    let held : Hole = record { chunk_id = 1; offset = 6 } in
    let now : List ℕ = 1 ∷ 26 ∷ 128 ∷ 128 ∷ 128 ∷ 0 ∷ 9 ∷ 9 ∷ [] in
    let patches : List Patch = patch_for first_hole 0 ∷ [] in
    let tag = writing_more 12 running [] (first_page ∷ []) true [] (1 ∷ []) (26 ∷ []) [] (first_hole ∷ []) [] runs in
    let length_begun = writing_nested 12 tagged [] (first_page ∷ []) true [] (1 ∷ 26 ∷ []) [] (first_hole ∷ []) [] (λ n e. absurd (false≢true e)) tag in
    let full = writing_more 12 (with_open tagged) [] (first_page ∷ []) true [] (1 ∷ 26 ∷ 128 ∷ 128 ∷ 128 ∷ 0 ∷ []) (9 ∷ 9 ∷ []) [] (held ∷ first_hole ∷ []) [] length_begun in
    let given = gives_up 12 second_nested [] (first_page ∷ []) true [] now (7 ∷ []) [] (held ∷ first_hole ∷ []) (omega arith) full in
    let inner = gives_up_here 12 second_nested [] (first_page ∷ []) true [] now [] held (first_hole ∷ []) text refl given in
    let outer = gives_up_later 12 second_nested [] (first_page ∷ []) true [] now [] first_hole [] text (λ e. absurd (omega (arith, e))) inner in
    raw_cut_is_cut 12 (last ∷ []) (first_page ∷ marked_page ∷ [])
    (gave_up_cut 12 second_nested last [] (first_page ∷ []) marked_page [] now [] patches text refl refl refl refl marked_full (omega arith) (λ e. absurd (omega (arith, e))) refl refl refl outer)

-- The packet is given up before a nested length: two bytes are left, which are unused.

pub unused_page : Page
unused_page = record {
  continues = true;
  runs_on = false;
  awaits = false;
  fragments = (1 ∷ 9 ∷ 9 ∷ 9 ∷ 9 ∷ 26 ∷ 0 ∷ 0 ∷ []) ∷ [];
  dropped = true;
  rest = [];
  patches = record { chunk_id = 0; offset = 7; bytes = 128 ∷ 128 ∷ 128 ∷ 0 ∷ []; last = true } ∷ [];
}

unused_full : IsWellFormedPage 12 unused_page
unfolding redundant unused_page
unused_full = record { some = omega arith; most = omega arith; whole = refl; dropped = λ e. (refl, refl) }

abbrev pub second_tag : Packet
unfolding begun
second_tag = with_more (9 ∷ 9 ∷ 9 ∷ 9 ∷ 26 ∷ []) running

pub given_up_before_length_is_cut : CutsInto 12 (given_up_packet (with_open second_tag) ∷ []) (first_page ∷ unused_page ∷ [])
unfolding redundant begun first_page first_hole unused_page
given_up_before_length_is_cut =
    let last : Packet = given_up_packet (with_open second_tag) in
    let now : List ℕ = 1 ∷ 9 ∷ 9 ∷ 9 ∷ 9 ∷ 26 ∷ [] in
    let patches : List Patch = patch_for first_hole 0 ∷ [] in
    let tag = writing_more 12 running [] (first_page ∷ []) true [] (1 ∷ []) (9 ∷ 9 ∷ 9 ∷ 9 ∷ 26 ∷ []) [] (first_hole ∷ []) [] runs in
    let given = gives_up_nested 12 second_tag [] (first_page ∷ []) true [] now [] [] (first_hole ∷ []) [] (λ n e. absurd (false≢true e)) tag in
    let outer = gives_up_later 12 second_tag [] (first_page ∷ []) true [] now [] first_hole [] (with_open second_tag).text (λ e. absurd (omega (arith, e))) given in
    raw_cut_is_cut 12 (last ∷ []) (first_page ∷ unused_page ∷ [])
    (gave_up_cut 12 second_tag last [] (first_page ∷ []) unused_page [] now (0 ∷ 0 ∷ []) patches (with_open second_tag).text refl refl refl refl unused_full (omega arith) (λ e. refl) refl refl refl outer)
