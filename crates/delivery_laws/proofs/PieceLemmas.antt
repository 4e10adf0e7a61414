-- A fragment before a row that walks makes a row that walks.
use Rattle.std.proofs.Common.{◌≡◌, ◌∙◌, ℕ, Bool, true, false, not, ◌&&◌, ◌||◌, List, [], ◌∷◌, ◌++◌, refl, sym, ap, subst}
use Rattle.std.specs.Prelude.{cond}
use Rattle.std.proofs.lemmas.Bool.{false≢true, and_parts}
use Rattle.trace_model.specs.Sequences.{Cursor}
use Rattle.trace_model.specs.Row.{Piece, Chain, Fate, Whole, Marked, IntoLost, CutOff, Open, Link, Joined, Gap, Stop, bytes_of, joined_to, with_piece, chain_of}
use Rattle.delivery_laws.specs.Sheets.{Part, tail_bytes, ends_whole, packets_in}
use Rattle.delivery_laws.proofs.Walks.{Follows, is_clear, IsChain, Walks}

-- a packet begins next, or nothing is left
pub no_tail : (parts : List Part) → Follows true parts → tail_bytes parts ≡ []
no_tail [] h = refl
no_tail (part ∷ parts) h = ap (λ (b : Bool). cond b [] (part.bytes ++ tail_bytes parts)) h

pub ends_here : (first : Part) (parts : List Part) → Follows true parts → ends_whole first parts ≡ (first.ends && not first.dropped)
ends_here first [] h = refl
ends_here first (part ∷ parts) h = ap (λ (b : Bool). cond b (first.ends && not first.dropped) (ends_whole part parts)) h

-- nothing is missing in a chain of two only if nothing is in either
both_clear : (fate : Fate) (a b : Bool) → is_clear fate (a || b) ≡ true → (a ≡ false) × (is_clear fate b ≡ true)
both_clear Whole false b h = (refl, h)
both_clear Whole true b h = absurd (false≢true h)
both_clear Marked a b h = absurd (false≢true h)
both_clear IntoLost a b h = absurd (false≢true h)
both_clear CutOff a b h = absurd (false≢true h)
both_clear Open a b h = absurd (false≢true h)

bytes_append : (piece : Piece) (pieces : List Piece) → bytes_of ((piece ∷ []) ++ pieces) ≡ piece.fragment.bytes ++ bytes_of pieces
bytes_append piece pieces = refl

-- the fragment stands where the part does
pub record IsPiece (At : ℕ → ℕ → List Part → Type 0) (piece : Piece) (headless awaits : Bool) (first : Part) (parts : List Part) : Type 0 where
  pub here : At piece.at.chunk_id piece.at.passed (first ∷ parts)
  pub starts : first.starts ≡ not headless
  pub ends : first.ends ≡ not piece.runs_on
  pub dropped : piece.fragment.dropped ≡ first.dropped
  pub bytes : awaits ≡ false → first.bytes ≡ piece.fragment.bytes
  pub follows : Follows first.ends parts

module _ (At : ℕ → ℕ → List Part → Type 0) (Over : ℕ → Type 0) where
  -- a chain of one fragment, in which something is missing
  short : (piece : Piece) (next : Cursor) (headless awaits : Bool) (fate : Fate) (first : Part) (parts : List Part)
      → IsPiece At piece headless awaits first parts → ((a : Bool) → is_clear fate a ≡ true → ⊥)
      → IsChain At (record (chain_of piece next headless awaits) { fate = fate }) first parts parts
  short piece next headless awaits fate first parts is never = record {
    here = is.here;
    starts = is.starts;
    after = refl;
    clear = λ h. absurd (never awaits h);
  }

  never_lost : (lost a : Bool) → is_clear (cond lost IntoLost CutOff) a ≡ true → ⊥
  never_lost true a h = false≢true h
  never_lost false a h = false≢true h

  never_open : (may a : Bool) → is_clear (cond may Open CutOff) a ≡ true → ⊥
  never_open true a h = false≢true h
  never_open false a h = false≢true h

  -- a chain of one fragment that runs on nowhere
  alone : (piece : Piece) (next : Cursor) (headless awaits : Bool) (first : Part) (parts : List Part)
      → IsPiece At piece headless awaits first parts → (piece.fragment.dropped ≡ false → piece.runs_on ≡ false)
      → IsChain At (chain_of piece next headless awaits) first parts parts
  alone piece next headless awaits first parts is stops = record {
    here = is.here;
    starts = is.starts;
    after = refl;
    clear = λ h. by_drop piece.fragment.dropped refl h;
  }
    where
      by_drop : (d : Bool) → piece.fragment.dropped ≡ d → is_clear (cond d Marked Whole) awaits ≡ true
          → (first.bytes ++ tail_bytes parts ≡ bytes_of (piece ∷ [])) × (ends_whole first parts ≡ true) × Follows true parts
      by_drop true e h = absurd (false≢true h)
      by_drop false e h =
          let ends : first.ends ≡ true = is.ends ∙ ap not (stops e) in
          let follows : Follows true parts = subst (λ (b : Bool). Follows b parts) ends is.follows in (
            ap (λ (xs : List ℕ). xs ++ tail_bytes parts) (is.bytes (waits awaits h)) ∙ ap (λ (xs : List ℕ). piece.fragment.bytes ++ xs) (no_tail parts follows),
            ends_here first parts follows
                ∙ ap (λ (b : Bool). b && not first.dropped) ends
                ∙ ap not (sym is.dropped ∙ e),
            follows,
          )
        where
          waits : (a : Bool) → not a ≡ true → a ≡ false
          waits true k = absurd (false≢true k)
          waits false k = refl

  -- a fragment that runs on into the rest of its packet
  merged : (piece : Piece) (next : Cursor) (awaits headless : Bool) (first : Part) (other : Chain) (second : Part) (parts others : List Part)
      → IsPiece At piece headless awaits first (second ∷ parts) → second.starts ≡ false → other.headless ≡ true → IsChain At other second parts others
      → IsChain At (record (chain_of piece next headless awaits) {
        next = other.next;
        pieces = (piece ∷ []) ++ other.pieces;
        awaits = awaits || other.awaits;
        fate = other.fate;
      }) first (second ∷ parts) others
  merged piece next awaits headless first other second parts others is goes e chain = record {
    here = is.here;
    starts = is.starts;
    after = ap (λ (b : Bool). cond b (record { bytes = second.bytes ++ tail_bytes parts; whole = ends_whole second parts } ∷ packets_in parts) (packets_in parts)) goes
        ∙ chain.after;
    clear = λ h.
        let clears = both_clear other.fate awaits other.awaits h in
        let whole = chain.clear clears.1 in (
          ap (λ (b : Bool). first.bytes ++ cond b [] (second.bytes ++ tail_bytes parts)) goes
              ∙ ap (λ (xs : List ℕ). xs ++ (second.bytes ++ tail_bytes parts)) (is.bytes clears.0)
              ∙ ap (λ (xs : List ℕ). piece.fragment.bytes ++ xs) whole.0,
          ap (λ (b : Bool). cond b (first.ends && not first.dropped) (ends_whole second parts)) goes ∙ whole.1,
          whole.2,
        );
  }

  goes_on : (piece : Piece) (next : Cursor) (headless awaits : Bool) (first : Part) (links : List Link) (parts : List Part)
      → IsPiece At piece headless awaits first parts → piece.runs_on ≡ true → Walks At Over links parts
      → Walks At Over (joined_to (chain_of piece next headless awaits) links) (first ∷ parts)
  goes_on piece next headless awaits first [] parts is runs w = absurd w
  goes_on piece next headless awaits first (Stop at why may ∷ links) parts is runs w =
      (parts, short piece next headless awaits (cond may Open CutOff) first parts is (never_open may), w)
  goes_on piece next headless awaits first (Gap at to lost ∷ links) [] is runs w = absurd w
  goes_on piece next headless awaits first (Gap at to lost ∷ links) (second ∷ parts) is runs w =
      (second ∷ parts, short piece next headless awaits (cond lost IntoLost CutOff) first (second ∷ parts) is (never_lost lost), w)
  goes_on piece next headless awaits first (Joined other ∷ links) [] is runs w = absurd w
  goes_on piece next headless awaits first (Joined other ∷ links) (second ∷ parts) is runs w = by_head other.headless refl
    where
      no_start : second.starts ≡ false
      no_start = is.follows ∙ is.ends ∙ ap not runs

      by_head : (b : Bool) → other.headless ≡ b → Walks At Over (cond b
          (Joined (record (chain_of piece next headless awaits) { next = other.next; pieces = (piece ∷ []) ++ other.pieces; awaits = awaits || other.awaits; fate = other.fate }) ∷ links)
          (Joined (record (chain_of piece next headless awaits) { fate = CutOff }) ∷ Joined other ∷ links)) (first ∷ second ∷ parts)
      by_head true e = (w.0, merged piece next awaits headless first other second parts w.0 is no_start e w.1, w.2)
      by_head false e = (second ∷ parts, short piece next headless awaits CutOff first (second ∷ parts) is (λ a h. false≢true h), w)

  pub piece_walks : (piece : Piece) (next : Cursor) (headless awaits : Bool) (first : Part) (links : List Link) (parts : List Part)
      → IsPiece At piece headless awaits first parts → Walks At Over links parts
      → Walks At Over (with_piece piece next headless awaits links) (first ∷ parts)
  piece_walks piece next headless awaits first links parts is w = by_runs (piece.runs_on && not piece.fragment.dropped) refl
    where
      stops : (r d : Bool) → (r && not d) ≡ false → d ≡ false → r ≡ false
      stops true d h e = absurd (false≢true (sym h ∙ ap not e))
      stops false d h e = refl

      by_runs : (b : Bool) → (piece.runs_on && not piece.fragment.dropped) ≡ b
          → Walks At Over (cond b (joined_to (chain_of piece next headless awaits) links) (Joined (chain_of piece next headless awaits) ∷ links)) (first ∷ parts)
      by_runs true e = goes_on piece next headless awaits first links parts is (and_parts piece.runs_on (not piece.fragment.dropped) e).0 w
      by_runs false e = (parts, alone piece next headless awaits first parts is (stops piece.runs_on piece.fragment.dropped e), w)
