-- A row in which nothing is missing: its chains are the packets that were written, and what isn't delivered of them isn't whole.
use Rattle.std.proofs.Common.{◌≡◌, ◌∙◌, ℕ, zero, suc, ◌<◌, ◌≤◌, max, Bool, true, false, not, ◌&&◌, ◌||◌, List, [], ◌∷◌, ◌++◌, length, drop, Some, refl, sym, ap, subst, arith}
use Rattle.std.specs.Prelude.{cond, ◌==◌, slice_get}
use Rattle.std.proofs.lemmas.Bool.{false≢true, and_parts, or_parts}
use Rattle.std.proofs.Math.Bool.{and-false, and-true}
use Rattle.trace_base.proofs.Choices.{more_isnt_none}
use Rattle.trace_base.proofs.Lists.{one_left}
use Rattle.trace_model.specs.Fading.{ShowFragments}
use Rattle.trace_model.specs.Images.{Chunk, Fragment}
use Rattle.trace_model.specs.Row.{Slot, Here, Gone, Never, Piece, Chain, Fate, Whole, Marked, IntoLost, CutOff, Open, Link, Joined, Gap, Stop, Missing, Partial, Unpatched, joined_to, with_piece, chain_of, place, place_behind, is_last, is_part, chunk_links, row_of, bytes_of}
use Rattle.trace_model.specs.Sequences.{Cursor}
use Rattle.trace_model.specs.Written.{chains_in}
use Rattle.trace_model.proofs.CursorLemmas.{Each}
use Rattle.trace_model.proofs.FadingLemmas.{show_dropped}
use Rattle.delivery_laws.specs.Sheets.{Sheet, Part, SheetsAgree, all_parts, ends_whole, packets_in, parts_from, tail_bytes}
use Rattle.delivery_laws.proofs.AdjacentLemmas.{begin_of}
use Rattle.delivery_laws.proofs.HistoryLemmas.{as_long}
use Rattle.delivery_laws.proofs.PieceLemmas.{ends_here, no_tail}
use Rattle.delivery_laws.proofs.RowWalks.{inside_first, parts_next}
use Rattle.delivery_laws.proofs.Walks.{Follows, Inside, StandsAt, parts_at}
use Rattle.delivery_laws.proofs.WrittenPackets.{LastGoesOn}

-- a drop mark stands only in a fragment that runs on nowhere
abbrev pub DropsEnd : Sheet → Type 0
DropsEnd sheet = Each (λ (fragment : Fragment). fragment.dropped ≡ true → sheet.chunk.runs_on ≡ false) sheet.written

-- behind the last fragment of this chunk no packet begins, and its own one isn't whole
abbrev pub StaysOpen : List Sheet → ℕ → Type 0
StaysOpen sheets chunk_id = (part : Part) → part.ends ≡ false → ends_whole part (parts_at sheets (suc chunk_id) 0) ≡ false

-- The row of a closed or an open sequence; where `ended`, it goes up to the end of what was written.
module _ (sheets : List Sheet) (closed ended : Bool) where
  -- what a chain with this fate, which awaits a patch or not, says of its packet, which is whole or not
  abbrev pub IsFateOf : Fate → Bool → Bool → List Part → Type 0
  IsFateOf Whole awaits whole parts = whole ≡ not awaits
  IsFateOf Marked awaits whole parts = whole ≡ false
  IsFateOf IntoLost awaits whole parts = ⊥
  IsFateOf CutOff awaits whole parts = (closed ≡ true) × (whole ≡ false)
  IsFateOf Open awaits whole parts = (closed ≡ false) × (ended ≡ true → LastGoesOn parts)

  -- the chain is what there is of the packet of these parts; behind it stand these links
  pub record IsHeld (chain : Chain) (first : Part) (parts next : List Part) (behind : List Link) : Type 0 where
    pub here : StandsAt sheets chain.at.chunk_id chain.at.passed (first ∷ parts)
    pub starts : first.starts ≡ not chain.headless
    pub after : packets_in parts ≡ packets_in next
    pub awaits : chain.awaits ≡ true → closed ≡ true
    pub fate : IsFateOf chain.fate chain.awaits (ends_whole first parts) (first ∷ parts)
    pub bytes : chain.fate ≡ Whole → chain.awaits ≡ false → first.bytes ++ tail_bytes parts ≡ bytes_of chain.pieces
    pub last : chain.fate ≡ Open → chains_in behind ≡ []

  -- where the row stops
  pub record StopsAt (at : Cursor) (may : Bool) (links : List Link) (parts : List Part) : Type 0 where
    pub here : StandsAt sheets at.chunk_id at.passed parts
    pub end : ended ≡ true → parts ≡ []
    pub open_may : closed ≡ false → Follows false parts → may ≡ true
    pub may_open : may ≡ true → closed ≡ false
    pub none : links ≡ []

  abbrev pub Holds : List Link → List Part → Type 0
  Holds [] parts = ⊥
  Holds (Stop at why may ∷ links) parts = StopsAt at may links parts
  Holds (Gap at next lost ∷ links) parts = ⊥
  Holds (Joined chain ∷ links) [] = ⊥
  Holds (Joined chain ∷ links) (first ∷ parts) = (next : List Part) × IsHeld chain first parts next links × Holds links next

  pub held_stands : (links : List Link) (parts : List Part) → Holds links parts → StandsAt sheets (begin_of links).chunk_id (begin_of links).passed parts
  held_stands [] parts h = absurd h
  held_stands (Stop at why may ∷ links) parts h = h.here
  held_stands (Gap at next lost ∷ links) parts h = absurd h
  held_stands (Joined chain ∷ links) [] h = absurd h
  held_stands (Joined chain ∷ links) (first ∷ parts) h = h.1.here

  -- A fragment before a row

  record IsHeldPiece (piece : Piece) (headless awaits : Bool) (first : Part) (parts : List Part) : Type 0 where
    here : StandsAt sheets piece.at.chunk_id piece.at.passed (first ∷ parts)
    starts : first.starts ≡ not headless
    ends : first.ends ≡ not piece.runs_on
    dropped : piece.fragment.dropped ≡ first.dropped
    bytes : awaits ≡ false → first.bytes ≡ piece.fragment.bytes
    follows : Follows first.ends parts
    stops : piece.fragment.dropped ≡ true → piece.runs_on ≡ false
    waits : awaits ≡ true → (closed ≡ true) × (ends_whole first parts ≡ false)

  module _ (closes : closed ≡ true → ended ≡ true) where
    into_stop : (piece : Piece) (next : Cursor) (headless awaits : Bool) (first : Part) (at : Cursor) (may : Bool) (links : List Link) (parts : List Part)
        → IsHeldPiece piece headless awaits first parts → piece.runs_on ≡ true → StopsAt at may links parts
        → IsHeld (record (chain_of piece next headless awaits) { fate = cond may Open CutOff }) first parts parts (Stop at Missing may ∷ links)
    into_stop piece next headless awaits first at may links parts is runs stop = record {
      here = is.here;
      starts = is.starts;
      after = refl;
      awaits = λ a. (is.waits a).0;
      fate = by_may may refl;
      bytes = λ w. absurd (not_whole may w);
      last = λ e. ap chains_in stop.none;
    }
      where
        not_whole : (m : Bool) → cond m Open CutOff ≡ Whole → ⊥
        not_whole true w = cc
        not_whole false w = cc

        stays : first.ends ≡ false
        stays = is.ends ∙ ap not runs

        only_closed : (c : Bool) → closed ≡ c → may ≡ false → closed ≡ true
        only_closed true e m = e
        only_closed false e m = absurd (false≢true (sym m ∙ stop.open_may e (subst (λ (b : Bool). Follows b parts) stays is.follows)))

        by_may : (m : Bool) → may ≡ m → IsFateOf (cond m Open CutOff) awaits (ends_whole first parts) (first ∷ parts)
        by_may true e = (stop.may_open e, λ end. subst (λ (ps : List Part). LastGoesOn (first ∷ ps)) (sym (stop.end end)) stays)
        by_may false e =
            let shut = only_closed closed refl e in
            (shut, ap (ends_whole first) (stop.end (closes shut)) ∙ ap (λ (b : Bool). b && not first.dropped) stays)

    merged_fate : (fate : Fate) (a b whole : Bool) (first second : Part) (parts : List Part) → (a ≡ true → whole ≡ false) → IsFateOf fate b whole (second ∷ parts)
        → IsFateOf fate (a || b) whole (first ∷ second ∷ parts)
    merged_fate Whole true b whole first second parts late h = late refl
    merged_fate Whole false b whole first second parts late h = h
    merged_fate Marked a b whole first second parts late h = h
    merged_fate IntoLost a b whole first second parts late h = h
    merged_fate CutOff a b whole first second parts late h = h
    merged_fate Open a b whole first second parts late h = h

    joined_holds : (piece : Piece) (next : Cursor) (headless awaits : Bool) (first : Part) (links : List Link) (parts : List Part)
        → IsHeldPiece piece headless awaits first parts → piece.runs_on ≡ true → Holds links parts → Holds (joined_to (chain_of piece next headless awaits) links) (first ∷ parts)
    joined_holds piece next headless awaits first [] parts is runs h = absurd h
    joined_holds piece next headless awaits first (Gap at to lost ∷ links) parts is runs h = absurd h
    joined_holds piece next headless awaits first (Stop at why may ∷ links) parts is runs h =
        let into = into_stop piece next headless awaits first at may links parts is runs h in (
          parts,
          record { here = into.here; starts = into.starts; after = into.after; awaits = into.awaits; fate = into.fate; bytes = into.bytes; last = into.last },
          h,
        )
    joined_holds piece next headless awaits first (Joined other ∷ links) [] is runs h = absurd h
    joined_holds piece next headless awaits first (Joined other ∷ links) (second ∷ parts) is runs h = by_head other.headless refl
      where
        no_start : second.starts ≡ false
        no_start = is.follows ∙ is.ends ∙ ap not runs

        whole_is : ends_whole first (second ∷ parts) ≡ ends_whole second parts
        whole_is = ap (λ (b : Bool). cond b (first.ends && not first.dropped) (ends_whole second parts)) no_start

        either : (a b : Bool) → (a ≡ true → closed ≡ true) → (b ≡ true → closed ≡ true) → (a || b) ≡ true → closed ≡ true
        either true b f g e = f refl
        either false b f g e = g e

        by_head : (b : Bool) → other.headless ≡ b → Holds (cond b
            (Joined (record (chain_of piece next headless awaits) { next = other.next; pieces = (piece ∷ []) ++ other.pieces; awaits = awaits || other.awaits; fate = other.fate }) ∷ links)
            (Joined (record (chain_of piece next headless awaits) { fate = CutOff }) ∷ Joined other ∷ links)) (first ∷ second ∷ parts)
        by_head true e = (
          h.0,
          record {
            here = is.here;
            starts = is.starts;
            after = ap (λ (b : Bool). cond b (record { bytes = second.bytes ++ tail_bytes parts; whole = ends_whole second parts } ∷ packets_in parts) (packets_in parts)) no_start ∙ h.1.after;
            awaits = either awaits other.awaits (λ a. (is.waits a).0) h.1.awaits;
            fate = merged_fate other.fate awaits other.awaits (ends_whole first (second ∷ parts)) first second parts (λ a. (is.waits a).1)
                (subst (λ (w : Bool). IsFateOf other.fate other.awaits w (second ∷ parts)) (sym whole_is) h.1.fate);
            bytes = λ w a.
                let none = or_parts awaits other.awaits a in
                ap (λ (b : Bool). first.bytes ++ cond b [] (second.bytes ++ tail_bytes parts)) no_start
                ∙ ap (λ (xs : List ℕ). xs ++ (second.bytes ++ tail_bytes parts)) (is.bytes none.0)
                ∙ ap (λ (xs : List ℕ). piece.fragment.bytes ++ xs) (h.1.bytes w none.1);
            last = h.1.last;
          },
          h.2,
        )
        by_head false e = absurd (false≢true (sym no_start ∙ h.1.starts ∙ ap not e))

    piece_holds : (piece : Piece) (next : Cursor) (headless awaits : Bool) (first : Part) (links : List Link) (parts : List Part)
        → IsHeldPiece piece headless awaits first parts → Holds links parts → Holds (with_piece piece next headless awaits links) (first ∷ parts)
    piece_holds piece next headless awaits first links parts is h = by_runs (piece.runs_on && not piece.fragment.dropped) refl
      where
        ended_here : (r d : Bool) → (d ≡ true → r ≡ false) → (r && not d) ≡ false → r ≡ false
        ended_here true true s e = s refl
        ended_here true false s e = absurd (false≢true (sym e))
        ended_here false d s e = refl

        by_runs : (b : Bool) → (piece.runs_on && not piece.fragment.dropped) ≡ b
            → Holds (cond b (joined_to (chain_of piece next headless awaits) links) (Joined (chain_of piece next headless awaits) ∷ links)) (first ∷ parts)
        by_runs true e = joined_holds piece next headless awaits first links parts is (and_parts piece.runs_on (not piece.fragment.dropped) e).0 h
        by_runs false e = (
          parts,
          record {
            here = is.here;
            starts = is.starts;
            after = refl;
            awaits = λ a. (is.waits a).0;
            fate = by_drop piece.fragment.dropped refl;
            bytes = λ w a.
                ap (λ (xs : List ℕ). xs ++ tail_bytes parts) (is.bytes a)
                ∙ ap (λ (xs : List ℕ). piece.fragment.bytes ++ xs) (no_tail parts (subst (λ (b : Bool). Follows b parts) ends is.follows));
            last = λ o. absurd (never_open piece.fragment.dropped o);
          },
          h,
        )
          where
            ends : first.ends ≡ true
            ends = is.ends ∙ ap not (ended_here piece.runs_on piece.fragment.dropped is.stops e)

            whole : ends_whole first parts ≡ not first.dropped
            whole = ends_here first parts (subst (λ (b : Bool). Follows b parts) ends is.follows) ∙ ap (λ (b : Bool). b && not first.dropped) ends

            never_open : (d : Bool) → cond d Marked Whole ≡ Open → ⊥
            never_open true o = cc
            never_open false o = cc

            settled : (a : Bool) → awaits ≡ a → first.dropped ≡ false → ends_whole first parts ≡ not a
            settled true f d = (is.waits f).1
            settled false f d = whole ∙ ap not d

            by_drop : (d : Bool) → piece.fragment.dropped ≡ d → IsFateOf (cond d Marked Whole) awaits (ends_whole first parts) (first ∷ parts)
            by_drop true d = whole ∙ ap not (sym is.dropped ∙ d)
            by_drop false d = settled awaits refl (sym is.dropped ∙ d)

    -- Chunks

    module _ (agree : SheetsAgree false sheets) where
      follows_at : (xs : List Sheet) (chunk_id : ℕ) (runs_on : Bool) (sheet : Sheet) → SheetsAgree runs_on xs → slice_get xs chunk_id ≡ Some sheet
          → Follows (not sheet.chunk.runs_on) (parts_at xs (suc chunk_id) 0)
      follows_at [] chunk_id runs_on sheet agree get = absurd (cc)
      follows_at (one ∷ xs) (suc chunk_id) runs_on sheet agree get = follows_at xs chunk_id one.chunk.runs_on sheet agree.2 get
      follows_at (one ∷ []) zero runs_on sheet agree get = tt
      follows_at (one ∷ two ∷ xs) zero runs_on sheet agree get = begins two.written agree.2.1
        where
          begins : (fragments : List Fragment) → 0 < length fragments → Follows (not sheet.chunk.runs_on) (parts_from (two.chunk.continues && (0 == 0)) two.chunk.runs_on fragments ++ all_parts xs)
          begins [] some = absurd (omega (arith, some))
          begins (f ∷ fs) some =
              let same : one ≡ sheet = cc in
              ap not (and-true two.chunk.continues ∙ agree.2.0 ∙ ap (λ (s : Sheet). s.chunk.runs_on) same)

      -- a chunk that is there, whole
      pub record IsFullChunk (chunk_id : ℕ) (chunk : Chunk) : Type 0 where
        pub sheet : Sheet
        pub there : slice_get sheets chunk_id ≡ Some sheet
        pub whole : chunk.partial ≡ false
        pub continues : chunk.continues ≡ sheet.chunk.continues
        pub runs_on : chunk.runs_on ≡ sheet.chunk.runs_on
        pub shows : ShowFragments false chunk.awaits chunk.fragments sheet.written
        pub drops : DropsEnd sheet
        -- it awaits patches, and runs on, in a closed sequence only where its packet is never whole
        pub goes_on : chunk.awaits ≡ true → sheet.chunk.runs_on ≡ true
        pub stays : chunk.awaits ≡ true → closed ≡ true → StaysOpen sheets chunk_id
        -- in an open one the row stops before its last fragment
        pub unended : chunk.awaits ≡ true → closed ≡ false → ended ≡ false

      drops_left : (k : ℕ) (sheet : Sheet) → DropsEnd sheet → (written : List Fragment) → drop k sheet.written ≡ written
          → Each (λ (fragment : Fragment). fragment.dropped ≡ true → sheet.chunk.runs_on ≡ false) written
      drops_left k sheet drops written e = subst (Each (λ (fragment : Fragment). fragment.dropped ≡ true → sheet.chunk.runs_on ≡ false)) e (dropped k sheet.written drops)
        where
          dropped : (k : ℕ) (fs : List Fragment) → Each (λ (fragment : Fragment). fragment.dropped ≡ true → sheet.chunk.runs_on ≡ false) fs
              → Each (λ (fragment : Fragment). fragment.dropped ≡ true → sheet.chunk.runs_on ≡ false) (drop k fs)
          dropped zero fs h = h
          dropped (suc k) [] h = h
          dropped (suc k) (f ∷ fs) h = dropped k fs h.1

      module _ (chunk_id : ℕ) (chunk : Chunk) (is : IsFullChunk chunk_id chunk) (rest : List Link) (holds : Holds rest (parts_at sheets (suc chunk_id) 0)) where
        links_hold : (fragments written : List Fragment) (k : ℕ) → drop k is.sheet.written ≡ written → ShowFragments false chunk.awaits fragments written
            → Holds (chunk_links closed chunk_id chunk k fragments rest)
            (parts_from (is.sheet.chunk.continues && (k == 0)) is.sheet.chunk.runs_on written ++ parts_at sheets (suc chunk_id) 0)
        links_hold [] [] k e h = holds
        links_hold [] (w ∷ ws) k e h = absurd h
        links_hold (f ∷ fs) [] k e h = absurd h
        links_hold (f ∷ fs) (w ∷ ws) k e h =
            by_stop ((chunk.awaits && is_last fs) && not closed) refl (links_hold fs ws (suc k) (one_left k is.sheet.written w ws e).0 h.2)
          where
            here : StandsAt sheets chunk_id k (record { starts = not (is.sheet.chunk.continues && (k == 0)); ends = not (is.sheet.chunk.runs_on && is_last ws); dropped = w.dropped; bytes = w.bytes }
                ∷ (parts_from false is.sheet.chunk.runs_on ws ++ parts_at sheets (suc chunk_id) 0))
            here = (
              parts_next sheets chunk_id k is.sheet is.there
                  ∙ ap (λ (xs : List Fragment). parts_from (is.sheet.chunk.continues && (k == 0)) is.sheet.chunk.runs_on xs ++ parts_at sheets (suc chunk_id) 0) e,
              λ other found.
                  let one = is.there in
                  let same : is.sheet ≡ other = cc in
                  subst (λ (s : Sheet). k < length s.written) same (one_left k is.sheet.written w ws e).1,
            )

            same_last : (fs ws : List Fragment) → ShowFragments false chunk.awaits fs ws → is_last fs ≡ is_last ws
            same_last [] [] h = refl
            same_last [] (y ∷ ys) h = absurd h
            same_last (x ∷ xs) [] h = absurd h
            same_last (x ∷ xs) (y ∷ ys) h = refl

            onward : (ws : List Fragment) → Follows (not (is.sheet.chunk.runs_on && is_last ws)) (parts_from false is.sheet.chunk.runs_on ws ++ parts_at sheets (suc chunk_id) 0)
            onward [] = subst (λ (b : Bool). Follows (not b) (parts_at sheets (suc chunk_id) 0)) (sym (and-true is.sheet.chunk.runs_on)) (follows_at sheets chunk_id false is.sheet agree is.there)
            onward (x ∷ xs) = ap not (sym (and-false is.sheet.chunk.runs_on))

            shut : (c : Bool) → (true && not c) ≡ false → c ≡ true
            shut true s = refl
            shut false s = absurd (false≢true (sym s))

            stop_not : ((chunk.awaits && is_last fs) && not closed) ≡ false → (chunk.awaits && is_last fs) ≡ true → closed ≡ true
            stop_not s a = shut closed (ap (λ (b : Bool). b && not closed) (sym a) ∙ s)

            last_waits : (ws : List Fragment) → is_last ws ≡ true → closed ≡ true → chunk.awaits ≡ true
                → ends_whole (record { starts = not (is.sheet.chunk.continues && (k == 0)); ends = not (is.sheet.chunk.runs_on && is_last ws); dropped = w.dropped; bytes = w.bytes })
                (parts_from false is.sheet.chunk.runs_on ws ++ parts_at sheets (suc chunk_id) 0) ≡ false
            last_waits [] l c a =
                is.stays a c (record { starts = not (is.sheet.chunk.continues && (k == 0)); ends = not (is.sheet.chunk.runs_on && true); dropped = w.dropped; bytes = w.bytes })
                (ap not (and-true is.sheet.chunk.runs_on ∙ is.goes_on a))
            last_waits (x ∷ xs) l c a = absurd (false≢true l)

            piece : ((chunk.awaits && is_last fs) && not closed) ≡ false
                → IsHeldPiece (record { at = place chunk_id k; fragment = f; runs_on = chunk.runs_on && is_last fs }) (chunk.continues && (k == 0)) (chunk.awaits && is_last fs)
                (record { starts = not (is.sheet.chunk.continues && (k == 0)); ends = not (is.sheet.chunk.runs_on && is_last ws); dropped = w.dropped; bytes = w.bytes })
                (parts_from false is.sheet.chunk.runs_on ws ++ parts_at sheets (suc chunk_id) 0)
            piece s = record {
              here = here;
              starts = ap (λ (b : Bool). not (b && (k == 0))) (sym is.continues);
              ends = ap (λ (b : Bool). not (b && is_last ws)) (sym is.runs_on) ∙ ap (λ (b : Bool). not (chunk.runs_on && b)) (sym (same_last fs ws h.2));
              dropped = h.0;
              bytes = λ a. sym (h.1 a);
              follows = onward ws;
              stops = λ d. ap (λ (b : Bool). b && is_last fs) (is.runs_on ∙ (drops_left k is.sheet is.drops (w ∷ ws) e).0 (sym h.0 ∙ d));
              waits = λ a.
                  let parts = and_parts chunk.awaits (is_last fs) a in
                  let c = stop_not s a in
                  (c, last_waits ws (sym (same_last fs ws h.2) ∙ parts.1) c parts.0);
            }

            by_stop : (b : Bool) → ((chunk.awaits && is_last fs) && not closed) ≡ b
                → Holds (chunk_links closed chunk_id chunk (suc k) fs rest) (parts_from (is.sheet.chunk.continues && (suc k == 0)) is.sheet.chunk.runs_on ws ++ parts_at sheets (suc chunk_id) 0)
                → Holds (cond b (Stop (place chunk_id k) Unpatched (chunk.continues && (k == 0)) ∷ [])
                (with_piece (record { at = place chunk_id k; fragment = f; runs_on = chunk.runs_on && is_last fs }) (place_behind (is_part closed chunk) chunk_id k (is_last fs))
                (chunk.continues && (k == 0)) (chunk.awaits && is_last fs) (chunk_links closed chunk_id chunk (suc k) fs rest)))
                (record { starts = not (is.sheet.chunk.continues && (k == 0)); ends = not (is.sheet.chunk.runs_on && is_last ws); dropped = w.dropped; bytes = w.bytes }
                ∷ (parts_from false is.sheet.chunk.runs_on ws ++ parts_at sheets (suc chunk_id) 0))
            by_stop false s n =
                piece_holds (record { at = place chunk_id k; fragment = f; runs_on = chunk.runs_on && is_last fs }) (place_behind (is_part closed chunk) chunk_id k (is_last fs))
                (chunk.continues && (k == 0)) (chunk.awaits && is_last fs)
                (record { starts = not (is.sheet.chunk.continues && (k == 0)); ends = not (is.sheet.chunk.runs_on && is_last ws); dropped = w.dropped; bytes = w.bytes })
                (chunk_links closed chunk_id chunk (suc k) fs rest) (parts_from false is.sheet.chunk.runs_on ws ++ parts_at sheets (suc chunk_id) 0) (piece s)
                (subst (λ (b : Bool). Holds (chunk_links closed chunk_id chunk (suc k) fs rest) (parts_from b is.sheet.chunk.runs_on ws ++ parts_at sheets (suc chunk_id) 0))
                (ap (λ (b : Bool). is.sheet.chunk.continues && b) (more_isnt_none k) ∙ and-false is.sheet.chunk.continues) n)
            by_stop true s n =
                let both = and_parts (chunk.awaits && is_last fs) (not closed) s in
                let unclosed = open_one closed both.1 in
                let awaits = (and_parts chunk.awaits (is_last fs) both.0).0 in
                record {
                  here = here;
                  end = λ end. absurd (false≢true (sym (is.unended awaits unclosed) ∙ end));
                  open_may = λ o f. was (is.sheet.chunk.continues && (k == 0)) (chunk.continues && (k == 0)) (ap (λ (b : Bool). b && (k == 0)) is.continues) f;
                  may_open = λ m. unclosed;
                  none = refl;
                }
              where
                open_one : (c : Bool) → not c ≡ true → c ≡ false
                open_one true m = absurd (false≢true m)
                open_one false m = refl

                was : (a b : Bool) → b ≡ a → not a ≡ false → b ≡ true
                was true b e n = e
                was false b e n = absurd (false≢true (sym n))

      -- Slots

      abbrev pub FullSlots : ℕ → List Slot → Type 0
      FullSlots chunk_id [] = ended ≡ true → length sheets ≤ chunk_id
      FullSlots chunk_id (Here chunk ∷ slots) = IsFullChunk chunk_id chunk × FullSlots (suc chunk_id) slots
      FullSlots chunk_id (Gone ∷ slots) = ⊥
      FullSlots chunk_id (Never ∷ slots) = (closed ≡ false) × (ended ≡ false)

      none_left : (xs : List Sheet) (chunk_id passed : ℕ) → length xs ≤ chunk_id → parts_at xs chunk_id passed ≡ []
      none_left [] chunk_id passed low = refl
      none_left (x ∷ xs) zero passed low = absurd (omega (arith, low))
      none_left (x ∷ xs) (suc chunk_id) passed low = none_left xs chunk_id passed (omega (arith, low))

      is_open : (c : Bool) → not c ≡ true → c ≡ false
      is_open true m = absurd (false≢true m)
      is_open false m = refl

      here_holds : (chunk_id passed : ℕ) (chunk : Chunk) (slots : List Slot) (is : IsFullChunk chunk_id chunk) → Inside sheets chunk_id passed
          → Holds (row_of closed (suc chunk_id) 0 slots) (parts_at sheets (suc chunk_id) 0)
          → Holds (row_of closed chunk_id passed (Here chunk ∷ slots)) (parts_at sheets chunk_id passed)
      here_holds chunk_id passed chunk slots is inside rest =
          subst (λ (b : Bool). Holds (chunk_links closed chunk_id chunk passed (drop passed chunk.fragments)
          (cond b (Stop (place chunk_id (max passed (length chunk.fragments))) Partial false ∷ []) (row_of closed (suc chunk_id) 0 slots))) (parts_at sheets chunk_id passed))
          (sym (ap (λ (b : Bool). b && not closed) is.whole))
          (subst (Holds (chunk_links closed chunk_id chunk passed (drop passed chunk.fragments) (row_of closed (suc chunk_id) 0 slots))) (sym (parts_next sheets chunk_id passed is.sheet is.there))
          (links_hold chunk_id chunk is (row_of closed (suc chunk_id) 0 slots) rest (drop passed chunk.fragments) (drop passed is.sheet.written) passed refl
          (show_dropped passed false chunk.awaits chunk.fragments is.sheet.written is.shows
          (let low = inside is.sheet is.there in let long = as_long chunk.awaits chunk.fragments is.sheet.written is.shows in omega (arith, low, long)))))

      pub row_holds : (slots : List Slot) (chunk_id passed : ℕ) → FullSlots chunk_id slots → Inside sheets chunk_id passed → Holds (row_of closed chunk_id passed slots) (parts_at sheets chunk_id passed)
      row_holds [] chunk_id passed full inside = record {
        here = (refl, inside);
        end = λ end. none_left sheets chunk_id passed (full end);
        open_may = λ o f. ap not o;
        may_open = λ m. is_open closed m;
        none = refl;
      }
      row_holds (Here chunk ∷ slots) chunk_id passed full inside =
          here_holds chunk_id passed chunk slots full.0 inside (row_holds slots (suc chunk_id) 0 full.1 (inside_first sheets false (suc chunk_id) agree))
      row_holds (Gone ∷ slots) chunk_id passed full inside = absurd full
      row_holds (Never ∷ slots) chunk_id passed full inside =
          subst (λ (c : Bool). Holds (cond c (Gap (place chunk_id passed) (place (suc chunk_id) 0) false ∷ row_of closed (suc chunk_id) 0 slots) (Stop (place chunk_id passed) Missing true ∷ []))
          (parts_at sheets chunk_id passed)) (sym full.0)
          (record {
            here = (refl, inside);
            end = λ end. absurd (false≢true (sym full.1 ∙ end));
            open_may = λ o f. refl;
            may_open = λ m. full.0;
            none = refl;
          })
