-- A row in which nothing is lost, dropped or cut, and a read of it, which delivers whatever it passes.
use Rattle.std.proofs.Common.{◌≡◌, ◌∙◌, ℕ, zero, suc, ◌+◌, ◌-◌, ◌<◌, ◌≤◌, ◌⊎◌, max, Bool, true, false, not, ◌&&◌, ◌||◌, List, [], ◌∷◌, ◌++◌, length, drop, refl, sym, ap, subst, arith, inl, inr}
use Rattle.std.specs.Prelude.{cond, ◌==◌}
use Rattle.std.proofs.lemmas.Bool.{false≢true, and_parts, eqb-true, eqb-false}
use Rattle.trace_model.specs.Counts.{one_if}
use Rattle.trace_model.specs.Images.{Chunk, Fragment}
use Rattle.trace_model.specs.Sequences.{Cursor}
use Rattle.trace_model.specs.Row.{Slot, Here, Gone, Never, Piece, Chain, Fate, Whole, Marked, CutOff, Open, Link, Joined, Gap, Stop, Missing, Partial, Unpatched, joined_to, with_piece, chain_of, place, place_behind, is_last, is_part, chunk_links, row_of, bytes_of}
use Rattle.trace_model.specs.Reads.{Turn, Delivers, turn_by, turn_of, delivers, ends, passed_by, left_by, delivered_of, is_spoilt}
use Rattle.trace_model.specs.Walks.{is_accepted}
use Rattle.trace_model.proofs.CursorLemmas.{Each}
use Rattle.delivery_laws.specs.Sheets.{Part, WrittenPacket, tail_bytes, ends_whole, packets_in}
use Rattle.delivery_laws.proofs.Walks.{Follows, is_clear, Walks}
use Rattle.delivery_laws.proofs.AcceptedParts.{IsAccepted, AreAccepted, accepted_first}

-- nothing is missing in the chain, or it stands open in an open sequence
abbrev CleanChain : Bool → Chain → Type 0
CleanChain closed chain = ((chain.fate ≡ Whole) × (chain.awaits ≡ false)) ⊎ ((closed ≡ false) × (chain.fate ≡ Open))

-- the links of a row of which all is there; a closed sequence stops behind so many chunks
abbrev pub Clean : ℕ → Bool → List Link → Type 0
Clean chunks closed [] = Unit {0}
Clean chunks closed (Joined chain ∷ links) = CleanChain closed chain × Clean chunks closed links
Clean chunks closed (Gap at next lost ∷ links) = ⊥
Clean chunks closed (Stop at why may ∷ links) = (may ≡ true → closed ≡ false) × (closed ≡ true → chunks ≤ at.chunk_id)

-- what a chain that runs on meets
abbrev RunsInto : List Link → Type 0
RunsInto [] = ⊥
RunsInto (Joined chain ∷ links) = chain.headless ≡ true
RunsInto (Gap at next lost ∷ links) = ⊥
RunsInto (Stop at why may ∷ links) = may ≡ true

abbrev pub NoneDropped : List Fragment → Type 0
NoneDropped fragments = Each (λ (f : Fragment). f.dropped ≡ false) fragments

drop_each : (k : ℕ) (fs : List Fragment) → NoneDropped fs → NoneDropped (drop k fs)
drop_each zero fs h = h
drop_each (suc k) [] h = h
drop_each (suc k) (f ∷ fs) h = drop_each k fs h.1

module _ (chunks : ℕ) (closed : Bool) where
  clean_joined : (chain : Chain) (links : List Link) → chain.awaits ≡ false → Clean chunks closed links → RunsInto links → Clean chunks closed (joined_to chain links)
  clean_joined chain [] a c r = absurd r
  clean_joined chain (Gap at next lost ∷ links) a c r = absurd r
  clean_joined chain (Stop at why may ∷ links) a c r = (inr (c.0 r, ap (λ (b : Bool). cond b Open CutOff) r), c)
  clean_joined chain (Joined other ∷ links) a c r =
      subst (λ (b : Bool). Clean chunks closed (cond b
      (Joined (record chain { next = other.next; pieces = chain.pieces ++ other.pieces; awaits = chain.awaits || other.awaits; fate = other.fate }) ∷ links)
      (Joined (record chain { fate = CutOff }) ∷ Joined other ∷ links))) (sym r)
      (merged c.0, c.1)
    where
      merged : CleanChain closed other → CleanChain closed (record chain { next = other.next; pieces = chain.pieces ++ other.pieces; awaits = chain.awaits || other.awaits; fate = other.fate })
      merged (inl h) = inl (h.0, ap (λ (b : Bool). b || other.awaits) a ∙ h.1)
      merged (inr h) = inr h

  clean_piece : (piece : Piece) (next : Cursor) (headless awaits : Bool) (links : List Link) → piece.fragment.dropped ≡ false → awaits ≡ false → Clean chunks closed links
      → (piece.runs_on ≡ true → RunsInto links) → Clean chunks closed (with_piece piece next headless awaits links)
  clean_piece piece next headless awaits links d a c r = step (piece.runs_on && not piece.fragment.dropped) refl
    where
      step : (b : Bool) → (piece.runs_on && not piece.fragment.dropped) ≡ b
          → Clean chunks closed (cond b (joined_to (chain_of piece next headless awaits) links) (Joined (chain_of piece next headless awaits) ∷ links))
      step true e = clean_joined (chain_of piece next headless awaits) links a c (r (and_parts piece.runs_on (not piece.fragment.dropped) e).0)
      step false e = (inl (ap (λ (b : Bool). cond b Marked Whole) d, a), c)

  -- a row that begins with a fragment begins with its chain
  piece_into : (piece : Piece) (next : Cursor) (headless awaits : Bool) (links : List Link) → headless ≡ true → RunsInto (with_piece piece next headless awaits links)
  piece_into piece next headless awaits links h = step (piece.runs_on && not piece.fragment.dropped)
    where
      joined : (links : List Link) → RunsInto (joined_to (chain_of piece next headless awaits) links)
      joined [] = h
      joined (Gap at to lost ∷ links) = h
      joined (Stop at why may ∷ links) = h
      joined (Joined other ∷ links) = by_head other.headless
        where
          by_head : (b : Bool) → RunsInto (cond b
              (Joined (record (chain_of piece next headless awaits) { next = other.next; pieces = (piece ∷ []) ++ other.pieces; awaits = awaits || other.awaits; fate = other.fate }) ∷ links)
              (Joined (record (chain_of piece next headless awaits) { fate = CutOff }) ∷ Joined other ∷ links))
          by_head true = h
          by_head false = h

      step : (b : Bool) → RunsInto (cond b (joined_to (chain_of piece next headless awaits) links) (Joined (chain_of piece next headless awaits) ∷ links))
      step true = joined links
      step false = h

  clean_chunk : (chunk_id : ℕ) (chunk : Chunk) (rest : List Link) → (chunk.awaits ≡ true → closed ≡ false) → Clean chunks closed rest
      → (chunk.runs_on ≡ true → RunsInto rest) → (fragments : List Fragment) (k : ℕ) → NoneDropped fragments
      → Clean chunks closed (chunk_links closed chunk_id chunk k fragments rest)
  clean_chunk chunk_id chunk rest awaits c r [] k d = c
  clean_chunk chunk_id chunk rest awaits c r (f ∷ fs) k d =
      by_stop ((chunk.awaits && is_last fs) && not closed) refl (clean_chunk chunk_id chunk rest awaits c r fs (suc k) d.1)
    where
      open_one : (c : Bool) → not c ≡ true → c ≡ false
      open_one true h = absurd (false≢true h)
      open_one false h = refl

      settled : (x : Bool) → (chunk.awaits && is_last fs) ≡ x → (x && not closed) ≡ false → x ≡ false
      settled false e s = refl
      settled true e s =
          let unclosed = awaits (and_parts chunk.awaits (is_last fs) e).0 in
          absurd (false≢true (sym s ∙ ap not unclosed))

      runs : (fs : List Fragment) → (chunk.runs_on && is_last fs) ≡ true → RunsInto (chunk_links closed chunk_id chunk (suc k) fs rest)
      runs [] h = r (and_parts chunk.runs_on true h).0
      runs (g ∷ gs) h = absurd (false≢true (and_parts chunk.runs_on false h).1)

      by_stop : (b : Bool) → ((chunk.awaits && is_last fs) && not closed) ≡ b → Clean chunks closed (chunk_links closed chunk_id chunk (suc k) fs rest)
          → Clean chunks closed (cond b (Stop (place chunk_id k) Unpatched (chunk.continues && (k == 0)) ∷ [])
          (with_piece (record { at = place chunk_id k; fragment = f; runs_on = chunk.runs_on && is_last fs }) (place_behind (is_part closed chunk) chunk_id k (is_last fs))
          (chunk.continues && (k == 0)) (chunk.awaits && is_last fs) (chunk_links closed chunk_id chunk (suc k) fs rest)))
      by_stop true e n =
          let unclosed = open_one closed (and_parts (chunk.awaits && is_last fs) (not closed) e).1 in
          ((λ h. unclosed), (λ h. absurd (false≢true (sym unclosed ∙ h))))
      by_stop false e n =
          clean_piece (record { at = place chunk_id k; fragment = f; runs_on = chunk.runs_on && is_last fs }) (place_behind (is_part closed chunk) chunk_id k (is_last fs))
          (chunk.continues && (k == 0)) (chunk.awaits && is_last fs) (chunk_links closed chunk_id chunk (suc k) fs rest)
          d.0 (settled (chunk.awaits && is_last fs) refl e) n (λ h. runs fs h)

  chunk_into : (chunk_id : ℕ) (chunk : Chunk) (rest : List Link) (fragments : List Fragment) → 0 < length fragments → chunk.continues ≡ true
      → RunsInto (chunk_links closed chunk_id chunk 0 fragments rest)
  chunk_into chunk_id chunk rest [] some h = absurd (omega (arith, some))
  chunk_into chunk_id chunk rest (f ∷ fs) some h = by_stop ((chunk.awaits && is_last fs) && not closed)
    where
      head : (chunk.continues && (0 == 0)) ≡ true
      head = ap (λ (b : Bool). b && (0 == 0)) h

      by_stop : (b : Bool) → RunsInto (cond b (Stop (place chunk_id 0) Unpatched (chunk.continues && (0 == 0)) ∷ [])
          (with_piece (record { at = place chunk_id 0; fragment = f; runs_on = chunk.runs_on && is_last fs }) (place_behind (is_part closed chunk) chunk_id 0 (is_last fs))
          (chunk.continues && (0 == 0)) (chunk.awaits && is_last fs) (chunk_links closed chunk_id chunk 1 fs rest)))
      by_stop true = head
      by_stop false = piece_into (record { at = place chunk_id 0; fragment = f; runs_on = chunk.runs_on && is_last fs }) (place_behind (is_part closed chunk) chunk_id 0 (is_last fs))
          (chunk.continues && (0 == 0)) (chunk.awaits && is_last fs) (chunk_links closed chunk_id chunk 1 fs rest) head

  -- The slots of such a row. Whether a chunk is run into by the one before is given.
  pub record IsCleanChunk (into : ℕ → Bool) (chunk_id : ℕ) (chunk : Chunk) : Type 0 where
    pub some : 0 < length chunk.fragments
    pub kept : NoneDropped chunk.fragments
    pub awaits : chunk.awaits ≡ true → closed ≡ false
    pub continues : chunk.continues ≡ into chunk_id
    pub part : chunk.partial ≡ true → (closed ≡ false) × (chunk.runs_on ≡ false)
    pub whole : chunk.partial ≡ false → chunk.runs_on ≡ into (suc chunk_id)

  abbrev pub CleanSlots : (ℕ → Bool) → ℕ → List Slot → Type 0
  CleanSlots into chunk_id [] = (into chunk_id ≡ true → closed ≡ false) × (closed ≡ true → chunks ≤ chunk_id)
  CleanSlots into chunk_id (Here chunk ∷ slots) =
      IsCleanChunk into chunk_id chunk × (chunk.partial ≡ false → CleanSlots into (suc chunk_id) slots)
  CleanSlots into chunk_id (Gone ∷ slots) = ⊥
  CleanSlots into chunk_id (Never ∷ slots) = closed ≡ false

  record IsCleanRow (into : Bool) (passed : ℕ) (links : List Link) : Type 0 where
    clean : Clean chunks closed links
    met : passed ≡ 0 → into ≡ true → RunsInto links

  clean_here : (into : ℕ → Bool) (chunk_id passed : ℕ) (chunk : Chunk) (slots : List Slot) → IsCleanChunk into chunk_id chunk
      → (chunk.partial ≡ false → IsCleanRow (into (suc chunk_id)) 0 (row_of closed (suc chunk_id) 0 slots))
      → IsCleanRow (into chunk_id) passed (row_of closed chunk_id passed (Here chunk ∷ slots))
  clean_here into chunk_id passed chunk slots is rest = by_part chunk.partial refl
    where
      with_rest : (after : List Link) → Clean chunks closed after → (chunk.runs_on ≡ true → RunsInto after)
          → IsCleanRow (into chunk_id) passed (chunk_links closed chunk_id chunk passed (drop passed chunk.fragments) after)
      with_rest after c r = record {
        clean = clean_chunk chunk_id chunk after is.awaits c r (drop passed chunk.fragments) passed (drop_each passed chunk.fragments is.kept);
        met = λ z h. subst (λ (k : ℕ). RunsInto (chunk_links closed chunk_id chunk k (drop k chunk.fragments) after)) (sym z)
            (chunk_into chunk_id chunk after chunk.fragments is.some (is.continues ∙ h));
      }

      by_part : (b : Bool) → chunk.partial ≡ b → IsCleanRow (into chunk_id) passed (chunk_links closed chunk_id chunk passed (drop passed chunk.fragments)
          (cond (is_part closed chunk) (Stop (place chunk_id (max passed (length chunk.fragments))) Partial false ∷ []) (row_of closed (suc chunk_id) 0 slots)))
      by_part true p =
          subst (λ (b : Bool). IsCleanRow (into chunk_id) passed (chunk_links closed chunk_id chunk passed (drop passed chunk.fragments)
          (cond b (Stop (place chunk_id (max passed (length chunk.fragments))) Partial false ∷ []) (row_of closed (suc chunk_id) 0 slots))))
          (sym (ap (λ (x : Bool). x && not closed) p ∙ ap not (is.part p).0))
          (with_rest (Stop (place chunk_id (max passed (length chunk.fragments))) Partial false ∷ [])
          ((λ h. absurd (false≢true h)), (λ h. absurd (false≢true (sym (is.part p).0 ∙ h))))
          (λ h. absurd (false≢true (sym (is.part p).1 ∙ h))))
      by_part false p =
          subst (λ (b : Bool). IsCleanRow (into chunk_id) passed (chunk_links closed chunk_id chunk passed (drop passed chunk.fragments)
          (cond b (Stop (place chunk_id (max passed (length chunk.fragments))) Partial false ∷ []) (row_of closed (suc chunk_id) 0 slots))))
          (sym (ap (λ (x : Bool). x && not closed) p))
          (with_rest (row_of closed (suc chunk_id) 0 slots) (rest p).clean (λ h. (rest p).met refl (sym (is.whole p) ∙ h)))

  clean_row : (into : ℕ → Bool) (slots : List Slot) (chunk_id passed : ℕ) → CleanSlots into chunk_id slots → IsCleanRow (into chunk_id) passed (row_of closed chunk_id passed slots)
  clean_row into [] chunk_id passed h = record {
    clean = ((λ m. open_one closed m), h.1);
    met = λ z i. ap not (h.0 i);
  }
    where
      open_one : (c : Bool) → not c ≡ true → c ≡ false
      open_one true m = absurd (false≢true m)
      open_one false m = refl
  clean_row into (Here chunk ∷ slots) chunk_id passed h =
      clean_here into chunk_id passed chunk slots h.0 (λ p. clean_row into slots (suc chunk_id) 0 (h.1 p))
  clean_row into (Gone ∷ slots) chunk_id passed h = absurd h
  clean_row into (Never ∷ slots) chunk_id passed h =
      subst (λ (c : Bool). IsCleanRow (into chunk_id) passed (cond c (Gap (place chunk_id passed) (place (suc chunk_id) 0) false ∷ row_of closed (suc chunk_id) 0 slots)
      (Stop (place chunk_id passed) Missing true ∷ []))) (sym h)
      (record { clean = ((λ m. h), (λ c. absurd (false≢true (sym h ∙ c)))); met = λ z i. refl })

  pub row_clean : (into : ℕ → Bool) (slots : List Slot) (chunk_id passed : ℕ) → CleanSlots into chunk_id slots → Clean chunks closed (row_of closed chunk_id passed slots)
  row_clean into slots chunk_id passed h = (clean_row into slots chunk_id passed h).clean

-- Reads

passed_more : (limit : ℕ) (link : Link) (links : List Link) → turn_of link ≡ Delivers → (limit == 0) ≡ false → passed_by limit (link ∷ links) ≡ link ∷ passed_by (limit - 1) links
passed_more limit link links t l =
    ap (λ (x : Turn). cond (ends x || (delivers x && (limit == 0))) [] (link ∷ passed_by (limit - one_if (delivers x)) links)) t
    ∙ ap (λ (b : Bool). cond b [] (link ∷ passed_by (limit - 1) links)) l

left_more : (limit : ℕ) (link : Link) (links : List Link) → turn_of link ≡ Delivers → (limit == 0) ≡ false → left_by limit (link ∷ links) ≡ left_by (limit - 1) links
left_more limit link links t l =
    ap (λ (x : Turn). cond (ends x || (delivers x && (limit == 0))) (link ∷ links) (left_by (limit - one_if (delivers x)) links)) t
    ∙ ap (λ (b : Bool). cond b (link ∷ links) (left_by (limit - 1) links)) l

passed_none : (limit : ℕ) (link : Link) (links : List Link) → (ends (turn_of link) || (delivers (turn_of link) && (limit == 0))) ≡ true → passed_by limit (link ∷ links) ≡ []
passed_none limit link links h = ap (λ (b : Bool). cond b [] (link ∷ passed_by (limit - one_if (delivers (turn_of link))) links)) h

left_none : (limit : ℕ) (link : Link) (links : List Link) → (ends (turn_of link) || (delivers (turn_of link) && (limit == 0))) ≡ true → left_by limit (link ∷ links) ≡ link ∷ links
left_none limit link links h = ap (λ (b : Bool). cond b (link ∷ links) (left_by (limit - one_if (delivers (turn_of link))) links)) h

module _ (At : ℕ → ℕ → List Part → Type 0) (Over : ℕ → Type 0) (chunks : ℕ) (closed : Bool) (ended : (chunk_id passed : ℕ) (parts : List Part) → chunks ≤ chunk_id → (At chunk_id passed parts ⊎ Over chunk_id) → packets_in parts ≡ []) where
  -- what a read of a clean row delivers and leaves: each packet that it passes; all of them where the limit allows, once the sequence is closed
  pub record IsCleanRead (limit : ℕ) (marked : Bool) (passed left : List Link) (parts : List Part) : Type 0 where
    pub behind : List Part
    pub walks : Walks At Over left behind
    pub follows : Follows true behind
    pub count : length (delivered_of marked passed) + length (packets_in behind) ≡ length (packets_in parts)
    pub all : closed ≡ true → length (packets_in parts) ≤ limit → length (packets_in parts) ≤ length (delivered_of marked passed)

  -- a read that passes nothing
  passes_none : (limit : ℕ) (marked : Bool) (links : List Link) (parts : List Part) → Walks At Over links parts → Follows true parts
      → (closed ≡ true → length (packets_in parts) ≤ limit → length (packets_in parts) ≤ 0) → IsCleanRead limit marked [] links parts
  passes_none limit marked links parts w f all = record { behind = parts; walks = w; follows = f; count = omega arith; all = all }

  pub reads_clean : (links : List Link) (limit : ℕ) (marked : Bool) (parts : List Part) → Walks At Over links parts → Clean chunks closed links → Follows true parts
      → AreAccepted parts → IsCleanRead limit marked (passed_by limit links) (left_by limit links) parts
  reads_clean [] limit marked parts w c f a = absurd w
  reads_clean (Gap at next lost ∷ links) limit marked parts w c f a = absurd c
  reads_clean (Stop at why may ∷ links) limit marked parts w c f a =
      passes_none limit marked (Stop at why may ∷ links) parts w f
      (λ shut low. let none = ap (λ (ps : List WrittenPacket). length ps) (ended at.chunk_id at.passed parts (c.1 shut) w) in omega (arith, none))
  reads_clean (Joined chain ∷ links) limit marked [] w c f a = absurd w
  reads_clean (Joined chain ∷ links) limit marked (first ∷ parts) w c f a =
      by_chain c.0 (λ n ps. reads_clean links n false ps)
    where
      by_chain : CleanChain closed chain → ((n : ℕ) (ps : List Part) → Walks At Over links ps → Clean chunks closed links → Follows true ps → AreAccepted ps → IsCleanRead n false (passed_by n links) (left_by n links) ps)
          → IsCleanRead limit marked (passed_by limit (Joined chain ∷ links)) (left_by limit (Joined chain ∷ links)) (first ∷ parts)
      by_chain (inr h) rest =
          let stops : (ends (turn_of (Joined chain)) || (delivers (turn_of (Joined chain)) && (limit == 0))) ≡ true =
          ap (λ (x : Fate). ends (turn_by x chain.headless (is_spoilt chain)) || (delivers (turn_by x chain.headless (is_spoilt chain)) && (limit == 0))) h.1 in
          subst (λ (ls : List Link). IsCleanRead limit marked ls (left_by limit (Joined chain ∷ links)) (first ∷ parts)) (sym (passed_none limit (Joined chain) links stops))
          (subst (λ (ls : List Link). IsCleanRead limit marked [] ls (first ∷ parts)) (sym (left_none limit (Joined chain) links stops))
          (passes_none limit marked (Joined chain ∷ links) (first ∷ parts) w f (λ shut low. absurd (false≢true (sym h.0 ∙ shut)))))
      by_chain (inl h) rest = by_limit (limit == 0) refl
        where
          started : not chain.headless ≡ true → chain.headless ≡ false
          started s = was chain.headless s
            where
              was : (b : Bool) → not b ≡ true → b ≡ false
              was true k = absurd (false≢true k)
              was false k = refl

          clear : is_clear chain.fate chain.awaits ≡ true
          clear = ap (λ (x : Fate). is_clear x chain.awaits) h.0 ∙ ap not h.1

          accepted : IsAccepted (record { bytes = first.bytes ++ tail_bytes parts; whole = ends_whole first parts }) × AreAccepted parts
          accepted = accepted_first first parts f a

          unspoilt : is_spoilt chain ≡ false
          unspoilt =
              ap (λ (x : Bool). x || not (is_accepted (bytes_of chain.pieces))) h.1
              ∙ ap (λ (xs : List ℕ). not (is_accepted xs)) (sym (w.1.clear clear).0)
              ∙ ap not (accepted.0 (w.1.clear clear).1)

          turn : turn_of (Joined chain) ≡ Delivers
          turn =
              ap (λ (x : Fate). turn_by x chain.headless (is_spoilt chain)) h.0
              ∙ ap (λ (x : Bool). turn_by Whole x (is_spoilt chain)) (started (sym w.1.starts ∙ f))
              ∙ ap (λ (x : Bool). turn_by Whole false x) unspoilt

          here : length (packets_in (first ∷ parts)) ≡ suc (length (packets_in w.0))
          here =
              ap (λ (b : Bool). length (cond b (record { bytes = first.bytes ++ tail_bytes parts; whole = ends_whole first parts } ∷ packets_in parts) (packets_in parts))) f
              ∙ ap (λ (ps : List WrittenPacket). suc (length ps)) w.1.after

          by_limit : (z : Bool) → (limit == 0) ≡ z → IsCleanRead limit marked (passed_by limit (Joined chain ∷ links)) (left_by limit (Joined chain ∷ links)) (first ∷ parts)
          by_limit true z =
              let stops : (ends (turn_of (Joined chain)) || (delivers (turn_of (Joined chain)) && (limit == 0))) ≡ true =
              ap (λ (x : Turn). ends x || (delivers x && (limit == 0))) turn ∙ z in
              subst (λ (ls : List Link). IsCleanRead limit marked ls (left_by limit (Joined chain ∷ links)) (first ∷ parts)) (sym (passed_none limit (Joined chain) links stops))
              (subst (λ (ls : List Link). IsCleanRead limit marked [] ls (first ∷ parts)) (sym (left_none limit (Joined chain) links stops))
              (passes_none limit marked (Joined chain ∷ links) (first ∷ parts) w f
              (λ shut low. let none = eqb-true limit 0 z in let long = here in absurd (omega (arith, low, none, long)))))
          by_limit false z =
              let is = rest (limit - 1) w.0 w.2 c.1 (w.1.clear clear).2 (subst (Each IsAccepted) w.1.after accepted.1) in
              let more : length (delivered_of marked (Joined chain ∷ passed_by (limit - 1) links)) ≡ suc (length (delivered_of false (passed_by (limit - 1) links))) =
              ap (λ (x : Turn). length (cond (delivers x) (record { body = bytes_of chain.pieces; marked = marked } ∷ delivered_of false (passed_by (limit - 1) links)) (delivered_of true (passed_by (limit - 1) links)))) turn in
              let some : limit ≡ 0 → ⊥ = eqb-false limit 0 z in
              subst (λ (ls : List Link). IsCleanRead limit marked ls (left_by limit (Joined chain ∷ links)) (first ∷ parts)) (sym (passed_more limit (Joined chain) links turn z))
              (subst (λ (ls : List Link). IsCleanRead limit marked (Joined chain ∷ passed_by (limit - 1) links) ls (first ∷ parts)) (sym (left_more limit (Joined chain) links turn z))
              (record {
                behind = is.behind;
                walks = is.walks;
                follows = is.follows;
                count = let c = is.count in let long = here in omega (arith, more, c, long);
                all = λ shut low.
                    let long = here in
                    let others = is.all shut (omega (arith, low, long)) in
                    omega (arith, more, others, long);
              }))
