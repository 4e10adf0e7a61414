-- Chains before the rest of a row.
use Rattle.std.proofs.Common.{◌≡◌, ◌∙◌, Bool, true, false, cond, not, ◌&&◌, ◌||◌, List, [], ◌∷◌, ◌++◌, sym, ap, append_assoc}
use Rattle.std.proofs.Math.Bool.{or_assoc}
use Rattle.trace_model.specs.Sequences.{Cursor}
use Rattle.trace_model.specs.Row.{Piece, Chain, IntoLost, CutOff, Open, Link, Joined, Gap, Stop, joined_to, with_piece, chain_of}

-- two chains joined
abbrev pub merged : Chain → Chain → Chain
merged chain other = record chain { next = other.next; pieces = chain.pieces ++ other.pieces; awaits = chain.awaits || other.awaits; fate = other.fate }

-- before a chain that continues a packet, and before one that begins one
abbrev pub before_chain : Chain → Chain → List Link → Bool → List Link
before_chain chain other links headless =
    cond headless (Joined (merged chain other) ∷ links) (Joined (record chain { fate = CutOff }) ∷ Joined other ∷ links)

-- joining twice is joining once
pub joined-joined : (chain other : Chain) (rest : List Link) → other.headless ≡ true → joined_to chain (joined_to other rest) ≡ joined_to (merged chain other) rest
joined-joined chain other [] h = ap (before_chain chain (record other { fate = Open }) []) h
joined-joined chain other (Joined third ∷ links) h = step third.headless
  where
    step : (b : Bool) → joined_to chain (before_chain other third links b) ≡ before_chain (merged chain other) third links b
    step true =
        ap (before_chain chain (merged other third) links) h
        ∙ ap (λ (ps : List Piece). Joined (record chain { next = third.next; pieces = ps; awaits = chain.awaits || (other.awaits || third.awaits); fate = third.fate }) ∷ links)
        (sym (append_assoc chain.pieces other.pieces third.pieces))
        ∙ ap (λ (b : Bool). Joined (record chain { next = third.next; pieces = (chain.pieces ++ other.pieces) ++ third.pieces; awaits = b; fate = third.fate }) ∷ links)
        (sym (or_assoc chain.awaits other.awaits third.awaits))
    step false = ap (before_chain chain (record other { fate = CutOff }) (Joined third ∷ links)) h
joined-joined chain other (Gap at next lost ∷ links) h = ap (before_chain chain (record other { fate = cond lost IntoLost CutOff }) (Gap at next lost ∷ links)) h
joined-joined chain other (Stop at why may ∷ links) h = ap (before_chain chain (record other { fate = cond may Open CutOff }) (Stop at why may ∷ links)) h

-- a chain before one that begins a packet is cut
pub joined-start : (chain other : Chain) (rest : List Link) → other.headless ≡ false → joined_to chain (joined_to other rest) ≡ Joined (record chain { fate = CutOff }) ∷ joined_to other rest
joined-start chain other [] h = ap (before_chain chain (record other { fate = Open }) []) h
joined-start chain other (Joined third ∷ links) h = step third.headless
  where
    step : (b : Bool) → joined_to chain (before_chain other third links b) ≡ Joined (record chain { fate = CutOff }) ∷ before_chain other third links b
    step true = ap (before_chain chain (merged other third) links) h
    step false = ap (before_chain chain (record other { fate = CutOff }) (Joined third ∷ links)) h
joined-start chain other (Gap at next lost ∷ links) h = ap (before_chain chain (record other { fate = cond lost IntoLost CutOff }) (Gap at next lost ∷ links)) h
joined-start chain other (Stop at why may ∷ links) h = ap (before_chain chain (record other { fate = cond may Open CutOff }) (Stop at why may ∷ links)) h

-- a chain before a fragment

module _ (chain : Chain) (piece : Piece) (next : Cursor) (awaits : Bool) (links : List Link) where
  abbrev other : Bool → Chain
  other headless = chain_of piece next headless awaits

  pub before_start : (goes_on headless : Bool) → (piece.runs_on && not piece.fragment.dropped) ≡ goes_on → headless ≡ false
      → joined_to chain (with_piece piece next headless awaits links) ≡ Joined (record chain { fate = CutOff }) ∷ with_piece piece next headless awaits links
  before_start true headless goes h =
      ap (λ b. joined_to chain (cond b (joined_to (other headless) links) (Joined (other headless) ∷ links))) goes
      ∙ joined-start chain (other headless) links h
      ∙ ap (λ b. Joined (record chain { fate = CutOff }) ∷ cond b (joined_to (other headless) links) (Joined (other headless) ∷ links)) (sym goes)
  before_start false headless goes h =
      ap (λ b. joined_to chain (cond b (joined_to (other headless) links) (Joined (other headless) ∷ links))) goes
      ∙ ap (before_chain chain (other headless) links) h
      ∙ ap (λ b. Joined (record chain { fate = CutOff }) ∷ cond b (joined_to (other headless) links) (Joined (other headless) ∷ links)) (sym goes)

  pub before_more : (headless : Bool) → (piece.runs_on && not piece.fragment.dropped) ≡ true → headless ≡ true
      → joined_to chain (with_piece piece next headless awaits links) ≡ joined_to (merged chain (chain_of piece next headless awaits)) links
  before_more headless goes h =
      ap (λ b. joined_to chain (cond b (joined_to (other headless) links) (Joined (other headless) ∷ links))) goes
      ∙ joined-joined chain (other headless) links h

  pub before_last : (headless : Bool) → (piece.runs_on && not piece.fragment.dropped) ≡ false → headless ≡ true
      → joined_to chain (with_piece piece next headless awaits links) ≡ Joined (merged chain (chain_of piece next headless awaits)) ∷ links
  before_last headless goes h =
      ap (λ b. joined_to chain (cond b (joined_to (other headless) links) (Joined (other headless) ∷ links))) goes
      ∙ ap (before_chain chain (other headless) links) h
