-- What a reader sees is what was written, faded by losses.
use Rattle.std.proofs.Common.{◌≡◌, ◌∙◌, ℕ, zero, suc, ◌+◌, ◌<◌, ◌≤◌, max, Bool, true, false, not, ◌&&◌, List, [], ◌∷◌, ◌++◌, length, drop, map, refl, sym, ap, subst, arith, inl, inr}
use Rattle.std.specs.Prelude.{cond, ◌==◌, ◌⊎◌}
use Rattle.std.proofs.lemmas.Bool.{false≢true, or_parts, and_parts, cases_lt}
use Rattle.std.proofs.lemmas.List.{drop-drop, drop_all}
use Rattle.std.proofs.lemmas.Grind.{flat_map-append}
use Rattle.std.proofs.Math.Bool.{and-false}
use Rattle.trace_model.specs.Images.{Chunk, Fragment}
use Rattle.trace_model.specs.Sequences.{Cursor}
use Rattle.trace_model.specs.Row.{Slot, Here, Gone, Never, Piece, Chain, Fate, Whole, Marked, IntoLost, CutOff, Open, Link, Joined, Gap, Stop, Missing, Partial, Unpatched, bytes_of, joined_to, with_piece, place, is_last, is_part, place_behind, chunk_links, row_of, chain_of}
use Rattle.trace_model.proofs.ContinuedLemmas.{unstopped}
use Rattle.trace_model.proofs.JoinLemmas.{merged}
use Rattle.trace_model.specs.Fading.{ShowFragments, ShowsChunk, Show, written_from, StandsAsWritten, Fades, RowsFade}

-- a row fades, and a chain at its front without its start begins at this place
abbrev Front : Cursor → List Link → Type 0
Front at [] = Unit {0}
Front at (Joined chain ∷ links) = chain.headless ≡ true → chain.at ≡ at
Front at (Gap here next lost ∷ links) = Unit {0}
Front at (Stop here why may ∷ links) = Unit {0}

record FadesAt (written : List Chunk) (at : Cursor) (links : List Link) : Type 0 where
  fades : Fades written links
  front : Front at links

abbrev is_whole : Fate → Bool
is_whole Whole = true
is_whole other = false

-- a chain that ends otherwise isn't whole
never_whole : (fate : Fate) → is_whole fate ≡ false → fate ≡ Whole → ⊥
never_whole fate h e = false≢true (sym h ∙ ap is_whole e)

-- Chains

pub bytes_append : (xs ys : List Piece) → bytes_of (xs ++ ys) ≡ bytes_of xs ++ bytes_of ys
bytes_append xs ys = flat_map-append (λ (piece : Piece). piece.fragment.bytes) xs ys

-- two chains that follow one another stand in what was written
stands_merged : (written : List Chunk) (chain first other : Chain) (rest : List Link) → other.at ≡ chain.next → other.headless ≡ true
    → rest ≡ written_from written chain.next → written_from written chain.at ≡ joined_to first rest
    → first.headless ≡ chain.headless → bytes_of first.pieces ≡ bytes_of chain.pieces → StandsAsWritten written other → StandsAsWritten written (merged chain other)
stands_merged written chain first other rest at e r w h b is = record {
  same = merged first is.same;
  others = is.others;
  there = w
      ∙ ap (joined_to first) (r ∙ ap (written_from written) (sym at) ∙ is.there)
      ∙ ap (λ (x : Bool). cond x (Joined (merged first is.same) ∷ is.others) (Joined (record first { fate = CutOff }) ∷ Joined is.same ∷ is.others)) (is.headless ∙ e);
  fate = is.fate;
  headless = h;
  bytes = bytes_append first.pieces is.same.pieces
      ∙ ap (λ (xs : List ℕ). xs ++ bytes_of is.same.pieces) b
      ∙ ap (λ (xs : List ℕ). bytes_of chain.pieces ++ xs) is.bytes
      ∙ sym (bytes_append chain.pieces other.pieces);
}

-- the seen chain runs on, and so does the written one
fades_joined : (written : List Chunk) (chain first : Chain) (links rest : List Link) → FadesAt written chain.next links
    → rest ≡ written_from written chain.next → written_from written chain.at ≡ joined_to first rest
    → first.headless ≡ chain.headless → (chain.awaits ≡ false → bytes_of first.pieces ≡ bytes_of chain.pieces) → Fades written (joined_to chain links)
fades_joined written chain first [] rest f r w h b = ((λ e a. absurd (never_whole Open refl e)), tt)
fades_joined written chain first (Joined other ∷ links) rest f r w h b = step other.headless refl
  where
    step : (x : Bool) → other.headless ≡ x → Fades written (cond x (Joined (merged chain other) ∷ links) (Joined (record chain { fate = CutOff }) ∷ Joined other ∷ links))
    step false e = ((λ g a. absurd (never_whole CutOff refl g)), f.fades)
    step true e = (
      (λ g a.
          let parts = or_parts chain.awaits other.awaits a in
          stands_merged written chain first other rest (f.front e) e r w h (b parts.0) (f.fades.0 g parts.1)),
      f.fades.1,
    )
fades_joined written chain first (Gap at next lost ∷ links) rest f r w h b = (step lost, f.fades)
  where
    step : (x : Bool) → cond x IntoLost CutOff ≡ Whole → chain.awaits ≡ false → StandsAsWritten written (record chain { fate = cond x IntoLost CutOff })
    step true e a = absurd (never_whole IntoLost refl e)
    step false e a = absurd (never_whole CutOff refl e)
fades_joined written chain first (Stop at why may ∷ links) rest f r w h b = (step may, f.fades)
  where
    step : (x : Bool) → cond x Open CutOff ≡ Whole → chain.awaits ≡ false → StandsAsWritten written (record chain { fate = cond x Open CutOff })
    step true e a = absurd (never_whole Open refl e)
    step false e a = absurd (never_whole CutOff refl e)

-- A piece as it is seen, and as it was written

abbrev runs : Piece → Bool
runs piece = piece.runs_on && not piece.fragment.dropped

record SamePiece (piece first : Piece) (headless' headless awaits : Bool) : Type 0 where
  at : first.at ≡ piece.at
  dropped : piece.fragment.dropped ≡ first.fragment.dropped
  head : headless' ≡ headless
  bytes : awaits ≡ false → piece.fragment.bytes ≡ first.fragment.bytes
  same_runs : runs piece ≡ runs first

fades_piece : (written : List Chunk) (piece first : Piece) (next next' : Cursor) (headless headless' awaits awaits' : Bool) (links rest : List Link)
    → SamePiece piece first headless' headless awaits → written_from written piece.at ≡ with_piece first next' headless' awaits' rest
    → Fades written links → (runs piece ≡ true → FadesAt written next links × (rest ≡ written_from written next))
    → Fades written (with_piece piece next headless awaits links)
fades_piece written piece first next next' headless headless' awaits awaits' links rest same w f onward = step (runs piece) refl
  where
    bytes_are : awaits ≡ false → bytes_of (first ∷ []) ≡ bytes_of (piece ∷ [])
    bytes_are a = ap (λ (xs : List ℕ). xs ++ []) (sym (same.bytes a))

    written_as : (x : Bool) → runs piece ≡ x → written_from written piece.at
        ≡ cond x (joined_to (chain_of first next' headless' awaits') rest) (Joined (chain_of first next' headless' awaits') ∷ rest)
    written_as x e = w ∙ ap (λ (y : Bool). cond y (joined_to (chain_of first next' headless' awaits') rest) (Joined (chain_of first next' headless' awaits') ∷ rest)) (sym same.same_runs ∙ e)

    step : (x : Bool) → runs piece ≡ x
        → Fades written (cond x (joined_to (chain_of piece next headless awaits) links) (Joined (chain_of piece next headless awaits) ∷ links))
    step true e =
        fades_joined written (chain_of piece next headless awaits) (chain_of first next' headless' awaits') links rest (onward e).0 (onward e).1 (written_as true e) same.head bytes_are
    step false e = (
      (λ g a. record {
        same = chain_of first next' headless' awaits';
        others = rest;
        there = written_as false e;
        fate = ap (λ (d : Bool). cond d Marked Whole) (sym same.dropped) ∙ g;
        headless = same.head;
        bytes = bytes_are a;
      }),
      f,
    )

front_piece : (piece : Piece) (next : Cursor) (headless awaits : Bool) (links : List Link) → Front piece.at (with_piece piece next headless awaits links)
front_piece piece next headless awaits links = step (runs piece)
  where
    joined : (rest : List Link) → Front piece.at (joined_to (chain_of piece next headless awaits) rest)
    joined [] = λ h. refl
    joined (Joined other ∷ rest) = by_head other.headless
      where
        by_head : (x : Bool) → Front piece.at (cond x (Joined (merged (chain_of piece next headless awaits) other) ∷ rest)
            (Joined (record (chain_of piece next headless awaits) { fate = CutOff }) ∷ Joined other ∷ rest))
        by_head true = λ h. refl
        by_head false = λ h. refl
    joined (Gap at n lost ∷ rest) = λ h. refl
    joined (Stop at why may ∷ rest) = λ h. refl

    step : (x : Bool) → Front piece.at (cond x (joined_to (chain_of piece next headless awaits) links) (Joined (chain_of piece next headless awaits) ∷ links))
    step true = joined links
    step false = λ h. refl

-- Chunks

-- what is left one element further on
drop_further : {X : Type 0} (k : ℕ) (xs ys : List X) → drop k xs ≡ ys → drop (suc k) xs ≡ drop 1 ys
drop_further {X = X} k xs ys e =
    let one : suc k ≡ k + 1 = omega arith in
    ap (λ (n : ℕ). drop n xs) one ∙ sym (drop-drop 1 k xs) ∙ ap (λ (zs : List X). drop 1 zs) e

-- the last fragment that is there is the last one that was written, unless more is to come
same_last : (awaits : Bool) (fs ws : List Fragment) → ShowFragments false awaits fs ws → is_last fs ≡ is_last ws
same_last awaits [] [] h = refl
same_last awaits [] (w ∷ ws) h = absurd h
same_last awaits (f ∷ fs) [] h = absurd h
same_last awaits (f ∷ fs) (w ∷ ws) h = refl

not_last : (awaits : Bool) (fs ws : List Fragment) → ShowFragments true awaits fs ws → is_last ws ≡ false
not_last awaits [] [] h = absurd h
not_last awaits [] (w ∷ ws) h = refl
not_last awaits (f ∷ fs) [] h = absurd h
not_last awaits (f ∷ fs) (w ∷ ws) h = refl

-- a seen chunk runs on behind a fragment exactly where the written one does
same_onward : (chunk first : Chunk) → ShowsChunk chunk first → (fs ws : List Fragment) → ShowFragments chunk.partial chunk.awaits fs ws
    → (chunk.runs_on && is_last fs) ≡ (first.runs_on && is_last ws)
same_onward chunk first shows fs ws h = step chunk.partial refl
  where
    step : (b : Bool) → chunk.partial ≡ b → (chunk.runs_on && is_last fs) ≡ (first.runs_on && is_last ws)
    step true e =
        ap (λ (x : Bool). x && is_last fs) (shows.part e).0
        ∙ sym (ap (λ (x : Bool). first.runs_on && x) (not_last chunk.awaits fs ws (subst (λ (x : Bool). ShowFragments x chunk.awaits fs ws) e h)) ∙ and-false first.runs_on)
    step false e =
        ap (λ (x : Bool). x && is_last fs) (shows.whole e)
        ∙ ap (λ (x : Bool). first.runs_on && x) (same_last chunk.awaits fs ws (subst (λ (x : Bool). ShowFragments x chunk.awaits fs ws) e h))

-- where it does, it is there whole, and this is its last fragment
record IsOnward (chunk first : Chunk) (fs ws : List Fragment) : Type 0 where
  whole : chunk.partial ≡ false
  last : is_last fs ≡ true
  none : fs ≡ []
  none_written : ws ≡ []

onward_is : (chunk first : Chunk) → ShowsChunk chunk first → (fs ws : List Fragment) → ShowFragments chunk.partial chunk.awaits fs ws → (chunk.runs_on && is_last fs) ≡ true
    → IsOnward chunk first fs ws
onward_is chunk first shows fs ws h e = by_part chunk.partial refl
  where
    parts : (chunk.runs_on ≡ true) × (is_last fs ≡ true)
    parts = and_parts chunk.runs_on (is_last fs) e

    none_of : (gs : List Fragment) → is_last gs ≡ true → gs ≡ []
    none_of [] g = refl
    none_of (x ∷ gs) g = absurd (false≢true g)

    by_part : (b : Bool) → chunk.partial ≡ b → IsOnward chunk first fs ws
    by_part true g = absurd (false≢true (sym (shows.part g).0 ∙ parts.0))
    by_part false g = record {
      whole = g;
      last = parts.1;
      none = none_of fs parts.1;
      none_written = none_of ws (sym (same_last chunk.awaits fs ws (subst (λ (x : Bool). ShowFragments x chunk.awaits fs ws) g h)) ∙ parts.1);
    }

module _ (closed : Bool) (written : List Chunk) (chunk_id : ℕ) (chunk first : Chunk) (shows : ShowsChunk chunk first) (seen_rest rest : List Link)
    (row_at : (k : ℕ) → written_from written (place chunk_id k) ≡ chunk_links false chunk_id first k (drop k first.fragments) rest)
    (rest_is : rest ≡ written_from written (place (suc chunk_id) 0))
    (seen_fades : Fades written seen_rest) (seen_at : chunk.partial ≡ false → FadesAt written (place (suc chunk_id) 0) seen_rest) where
  fades_chunk : (fs ws : List Fragment) (k : ℕ) → drop k first.fragments ≡ ws → ShowFragments chunk.partial chunk.awaits fs ws
      → Fades written (chunk_links closed chunk_id chunk k fs seen_rest)
  fades_chunk [] ws k e h = seen_fades
  fades_chunk (f ∷ fs) [] k e h = absurd h
  fades_chunk (f ∷ fs) (w ∷ ws) k e h =
      stops ((chunk.awaits && is_last fs) && not closed) (fades_chunk fs ws (suc k) (drop_further k first.fragments (w ∷ ws) e) h.2)
    where
      stops : (b : Bool) → Fades written (chunk_links closed chunk_id chunk (suc k) fs seen_rest)
          → Fades written (cond b (Stop (place chunk_id k) Unpatched (chunk.continues && (k == 0)) ∷ [])
          (with_piece (record { at = place chunk_id k; fragment = f; runs_on = chunk.runs_on && is_last fs })
          (place_behind (is_part closed chunk) chunk_id k (is_last fs)) (chunk.continues && (k == 0)) (chunk.awaits && is_last fs)
          (chunk_links closed chunk_id chunk (suc k) fs seen_rest)))
      stops true r = tt
      stops false r =
          fades_piece written (record { at = place chunk_id k; fragment = f; runs_on = chunk.runs_on && is_last fs })
          (record { at = place chunk_id k; fragment = w; runs_on = first.runs_on && is_last ws })
          (place_behind (is_part closed chunk) chunk_id k (is_last fs)) (place_behind (is_part false first) chunk_id k (is_last ws))
          (chunk.continues && (k == 0)) (first.continues && (k == 0)) (chunk.awaits && is_last fs) (first.awaits && is_last ws)
          (chunk_links closed chunk_id chunk (suc k) fs seen_rest) (chunk_links false chunk_id first (suc k) ws rest)
          (record {
            at = refl;
            dropped = h.0;
            head = ap (λ (x : Bool). x && (k == 0)) (sym shows.continues);
            bytes = h.1;
            same_runs = ap (λ (x : Bool). x && not f.dropped) (same_onward chunk first shows fs ws h.2)
                ∙ ap (λ (x : Bool). (first.runs_on && is_last ws) && not x) h.0;
          })
          (row_at k ∙ ap (λ (gs : List Fragment). chunk_links false chunk_id first k gs rest) e ∙ unstopped chunk_id k first w ws rest shows.settled.0)
          r
          (λ g. onward (onward_is chunk first shows fs ws h.2 (and_parts (chunk.runs_on && is_last fs) (not f.dropped) g).0))
        where
          onward : IsOnward chunk first fs ws
              → FadesAt written (place_behind (is_part closed chunk) chunk_id k (is_last fs)) (chunk_links closed chunk_id chunk (suc k) fs seen_rest)
              × (chunk_links false chunk_id first (suc k) ws rest ≡ written_from written (place_behind (is_part closed chunk) chunk_id k (is_last fs)))
          onward o =
              let next : place_behind (is_part closed chunk) chunk_id k (is_last fs) ≡ place (suc chunk_id) 0 =
              ap (λ (x : Bool). cond (x && not (is_part closed chunk)) (place (suc chunk_id) 0) (place chunk_id (suc k))) o.last
              ∙ ap (λ (x : Bool). cond (not (x && not closed)) (place (suc chunk_id) 0) (place chunk_id (suc k))) o.whole in (
                subst (λ (at : Cursor). FadesAt written at (chunk_links closed chunk_id chunk (suc k) fs seen_rest)) (sym next)
                    (subst (λ (gs : List Fragment). FadesAt written (place (suc chunk_id) 0) (chunk_links closed chunk_id chunk (suc k) gs seen_rest)) (sym o.none) (seen_at o.whole)),
                ap (λ (gs : List Fragment). chunk_links false chunk_id first (suc k) gs rest) o.none_written ∙ rest_is ∙ ap (written_from written) (sym next),
              )

  front_chunk : (fs : List Fragment) (k : ℕ) → 0 < length fs → Front (place chunk_id k) (chunk_links closed chunk_id chunk k fs seen_rest)
  front_chunk [] k h = absurd (omega (arith, h))
  front_chunk (f ∷ fs) k h = stops ((chunk.awaits && is_last fs) && not closed)
    where
      stops : (b : Bool) → Front (place chunk_id k) (cond b (Stop (place chunk_id k) Unpatched (chunk.continues && (k == 0)) ∷ [])
          (with_piece (record { at = place chunk_id k; fragment = f; runs_on = chunk.runs_on && is_last fs })
          (place_behind (is_part closed chunk) chunk_id k (is_last fs)) (chunk.continues && (k == 0)) (chunk.awaits && is_last fs)
          (chunk_links closed chunk_id chunk (suc k) fs seen_rest)))
      stops true = tt
      stops false = front_piece (record { at = place chunk_id k; fragment = f; runs_on = chunk.runs_on && is_last fs })
          (place_behind (is_part closed chunk) chunk_id k (is_last fs)) (chunk.continues && (k == 0)) (chunk.awaits && is_last fs)
          (chunk_links closed chunk_id chunk (suc k) fs seen_rest)

-- Rows

pub show_dropped : (k : ℕ) (partial awaits : Bool) (fs ws : List Fragment) → ShowFragments partial awaits fs ws → k ≤ length fs → ShowFragments partial awaits (drop k fs) (drop k ws)
show_dropped zero partial awaits fs ws h k = h
show_dropped (suc n) partial awaits [] ws h k = absurd (omega (arith, k))
show_dropped (suc n) partial awaits (f ∷ fs) [] h k = absurd h
show_dropped (suc n) partial awaits (f ∷ fs) (w ∷ ws) h k = show_dropped n partial awaits fs ws h.2 (omega (arith, k))

record FadesRow (written : List Chunk) (chunk_id passed : ℕ) (links : List Link) : Type 0 where
  fades : Fades written links
  front : passed ≡ 0 → Front (place chunk_id 0) links

module _ (closed : Bool) (written : List Chunk) where
  -- a chunk that is there, before the rest of its row
  fades_here : (chunk_id passed : ℕ) (chunk first : Chunk) (slots : List Slot) (others : List Chunk) → drop chunk_id written ≡ first ∷ others → ShowsChunk chunk first
      → FadesRow written (suc chunk_id) 0 (row_of closed (suc chunk_id) 0 slots) → FadesRow written chunk_id passed (row_of closed chunk_id passed (Here chunk ∷ slots))
  fades_here chunk_id passed chunk first slots others e shows r = record {
    fades = by_length (cases_lt (length chunk.fragments) passed);
    front = λ z. subst (λ (n : ℕ). Front (place chunk_id 0) (chunk_links closed chunk_id chunk n (drop n chunk.fragments) seen)) (sym z)
        (front_chunk closed written chunk_id chunk first shows seen rest row_at rest_is seen_fades seen_at chunk.fragments 0 shows.some);
  }
    where
      rest : List Link
      rest = row_of false (suc chunk_id) 0 (map Here others)

      seen : List Link
      seen = cond (is_part closed chunk) (Stop (place chunk_id (max passed (length chunk.fragments))) Partial false ∷ []) (row_of closed (suc chunk_id) 0 slots)

      rest_is : rest ≡ written_from written (place (suc chunk_id) 0)
      rest_is = ap (λ (ws : List Chunk). row_of false (suc chunk_id) 0 (map Here ws)) (sym (drop_further chunk_id written (first ∷ others) e))

      row_at : (k : ℕ) → written_from written (place chunk_id k) ≡ chunk_links false chunk_id first k (drop k first.fragments) rest
      row_at k =
          ap (λ (ws : List Chunk). row_of false chunk_id k (map Here ws)) e
          ∙ ap (λ (x : Bool). chunk_links false chunk_id first k (drop k first.fragments)
          (cond (x && true) (Stop (place chunk_id (max k (length first.fragments))) Partial false ∷ []) (row_of false (suc chunk_id) 0 (map Here others)))) shows.settled.1

      part_fades : (x : Bool) → Fades written (cond x (Stop (place chunk_id (max passed (length chunk.fragments))) Partial false ∷ []) (row_of closed (suc chunk_id) 0 slots))
      part_fades true = tt
      part_fades false = r.fades

      seen_fades : Fades written seen
      seen_fades = part_fades (is_part closed chunk)

      seen_at : chunk.partial ≡ false → FadesAt written (place (suc chunk_id) 0) seen
      seen_at w = subst (λ (x : Bool). FadesAt written (place (suc chunk_id) 0) (cond (x && not closed) (Stop (place chunk_id (max passed (length chunk.fragments))) Partial false ∷ []) (row_of closed (suc chunk_id) 0 slots)))
          (sym w) (record { fades = r.fades; front = r.front refl })

      by_length : ((length chunk.fragments < passed) ⊎ (passed ≤ length chunk.fragments)) → Fades written (chunk_links closed chunk_id chunk passed (drop passed chunk.fragments) seen)
      by_length (inl h) = subst (λ (fs : List Fragment). Fades written (chunk_links closed chunk_id chunk passed fs seen)) (sym (drop_all passed chunk.fragments (omega (arith, h)))) seen_fades
      by_length (inr h) = fades_chunk closed written chunk_id chunk first shows seen rest row_at rest_is seen_fades seen_at (drop passed chunk.fragments) (drop passed first.fragments) passed refl
          (show_dropped passed chunk.partial chunk.awaits chunk.fragments first.fragments shows.fragments h)

  fades_row : (slots : List Slot) (chunk_id passed : ℕ) → Show slots (drop chunk_id written) → FadesRow written chunk_id passed (row_of closed chunk_id passed slots)
  fades_row [] chunk_id passed h = record { fades = tt; front = λ z. tt }
  fades_row (Here chunk ∷ slots) chunk_id passed h = by_written (drop chunk_id written) refl h (fades_row slots (suc chunk_id) 0)
    where
      by_written : (ws : List Chunk) → drop chunk_id written ≡ ws → Show (Here chunk ∷ slots) ws
          → (Show slots (drop (suc chunk_id) written) → FadesRow written (suc chunk_id) 0 (row_of closed (suc chunk_id) 0 slots))
          → FadesRow written chunk_id passed (row_of closed chunk_id passed (Here chunk ∷ slots))
      by_written [] e k r = absurd k
      by_written (first ∷ others) e k r = fades_here chunk_id passed chunk first slots others e k.0
          (r (subst (λ (ws : List Chunk). Show slots ws) (sym (drop_further chunk_id written (first ∷ others) e)) k.1))
  fades_row (Gone ∷ slots) chunk_id passed h = by_written (drop chunk_id written) refl h (fades_row slots (suc chunk_id) 0)
    where
      gap : (Show slots (drop (suc chunk_id) written) → FadesRow written (suc chunk_id) 0 (row_of closed (suc chunk_id) 0 slots)) → Show slots (drop (suc chunk_id) written)
          → FadesRow written chunk_id passed (row_of closed chunk_id passed (Gone ∷ slots))
      gap r k = record { fades = (r k).fades; front = λ z. tt }

      by_written : (ws : List Chunk) → drop chunk_id written ≡ ws → Show (Gone ∷ slots) ws
          → (Show slots (drop (suc chunk_id) written) → FadesRow written (suc chunk_id) 0 (row_of closed (suc chunk_id) 0 slots))
          → FadesRow written chunk_id passed (row_of closed chunk_id passed (Gone ∷ slots))
      by_written [] e k r = gap r (subst (λ (ws : List Chunk). Show slots ws) (sym (drop_further chunk_id written [] e)) k)
      by_written (first ∷ others) e k r = gap r (subst (λ (ws : List Chunk). Show slots ws) (sym (drop_further chunk_id written (first ∷ others) e)) k)
  fades_row (Never ∷ slots) chunk_id passed h = by_written (drop chunk_id written) refl h (fades_row slots (suc chunk_id) 0)
    where
      never : (x : Bool) → Fades written (row_of closed (suc chunk_id) 0 slots) → FadesRow written chunk_id passed (cond x
          (Gap (place chunk_id passed) (place (suc chunk_id) 0) false ∷ row_of closed (suc chunk_id) 0 slots) (Stop (place chunk_id passed) Missing true ∷ []))
      never true f = record { fades = f; front = λ z. tt }
      never false f = record { fades = tt; front = λ z. tt }

      by_written : (ws : List Chunk) → drop chunk_id written ≡ ws → Show (Never ∷ slots) ws
          → (Show slots (drop (suc chunk_id) written) → FadesRow written (suc chunk_id) 0 (row_of closed (suc chunk_id) 0 slots))
          → FadesRow written chunk_id passed (row_of closed chunk_id passed (Never ∷ slots))
      by_written [] e k r = never closed (r (subst (λ (ws : List Chunk). Show slots ws) (sym (drop_further chunk_id written [] e)) k)).fades
      by_written (first ∷ others) e k r = never closed (r (subst (λ (ws : List Chunk). Show slots ws) (sym (drop_further chunk_id written (first ∷ others) e)) k)).fades

pub rows_fade : RowsFade
rows_fade closed written slots chunk_id passed h = (fades_row closed written slots chunk_id passed h).fades
