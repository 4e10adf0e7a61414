-- What all buffers write of a sequence is what the one that has it delivers.
use Rattle.std.proofs.Common.{◌≡◌, ◌∙◌, ℕ, suc, ◌+◌, ◌⊎◌, Bool, true, false, All, List, [], ◌∷◌, ◌++◌, length, map, take, refl, sym, ap, subst, arith, inl, inr, append-nil, length-append}
use Rattle.std.specs.Prelude.{cond, ◌==◌, filter}
use Rattle.std.specs.List.{flat_map}
use Rattle.std.proofs.lemmas.Bool.{eqb-true, eq-eqb, false_from_ne_true}
use Rattle.std.proofs.lemmas.List.{length-map, map-append, take-map}
use Rattle.std.proofs.lemmas.List.Elements.{filter-append, All-nil, All-cons, All-append}
use Rattle.std.proofs.Math.Seq.{take-append-add}
use Rattle.trace_model.specs.Sequences.{is_known, sequence_in}
use Rattle.trace_model.specs.Buffers.{Buffer}
use Rattle.trace_model.specs.Reads.{Delivery, delivered_by, is_marked}
use Rattle.trace_model.specs.Row.{row_from_cursor}
use Rattle.trace_model.specs.Record.{record_of}
use Rattle.trace_model.specs.Delivery.{Delivered, records_of}
use Rattle.trace_model.specs.History.{Event, Arrives, ArrivesInPart, Patched, Committed, Closed, Read, buffer_after, buffers_after, delivered_at, delivered_to, record_in, records_at, records_after, state_after}
use Rattle.delivery_laws.proofs.AskLemmas.{known_after}
use Rattle.delivery_laws.proofs.LimitLemmas.{delivered_within, fewer_delivered}

-- no buffer has the sequence
abbrev pub Without : ℕ → List Buffer → Type 0
Without q [] = Unit {0}
Without q (x ∷ xs) = (is_known x.sequences q ≡ false) × Without q xs

-- this one has it, and no other
abbrev pub Once : ℕ → Buffer → List Buffer → Type 0
Once q b [] = ⊥
Once q b (x ∷ xs) = ((x ≡ b) × (is_known b.sequences q ≡ true) × Without q xs) ⊎ ((is_known x.sequences q ≡ false) × Once q b xs)

abbrev pub told : ℕ → List Delivery → List (List ℕ)
told q deliveries = map (λ (delivery : Delivery). record_of delivery.body q delivery.marked) deliveries

records_append : (q : ℕ) (xs ys : List Delivered) → records_of q (xs ++ ys) ≡ records_of q xs ++ records_of q ys
records_append q xs ys =
    ap (map (λ (d : Delivered). d.bytes)) (filter-append (λ (d : Delivered). d.sequence == q) xs ys)
    ∙ map-append (λ (d : Delivered). d.bytes) (filter (λ (d : Delivered). d.sequence == q) xs) (filter (λ (d : Delivered). d.sequence == q) ys)

recorded : (q : ℕ) (deliveries : List Delivery) → records_of q (map (record_in q) deliveries) ≡ told q deliveries
recorded q [] = refl
recorded q (d ∷ ds) =
    let others : List Delivered = filter (λ (x : Delivered). x.sequence == q) (map (record_in q) ds) in
    ap (λ (b : Bool). map (λ (x : Delivered). x.bytes) (cond b (record_in q d ∷ others) others)) (eq-eqb q q refl)
    ∙ ap (λ (xs : List (List ℕ)). record_of d.body q d.marked ∷ xs) (recorded q ds)

recorded_other : (s q : ℕ) (deliveries : List Delivery) → (s == q) ≡ false → records_of q (map (record_in s) deliveries) ≡ []
recorded_other s q [] e = refl
recorded_other s q (d ∷ ds) e =
    let others : List Delivered = filter (λ (x : Delivered). x.sequence == q) (map (record_in s) ds) in
    ap (λ (b : Bool). map (λ (x : Delivered). x.bytes) (cond b (record_in s d ∷ others) others)) e
    ∙ recorded_other s q ds e

-- what a read of a sequence writes of one buffer
abbrev written_by : (s limit : ℕ) → Buffer → List Delivered
written_by s limit buffer = cond (is_known buffer.sequences s) (map (record_in s) (delivered_by buffer s limit)) []

unknown_writes : (s limit : ℕ) (b : Buffer) → is_known b.sequences s ≡ false → written_by s limit b ≡ []
unknown_writes s limit b e = ap (λ (x : Bool). cond x (map (record_in s) (delivered_by b s limit)) []) e

known_writes : (s limit : ℕ) (b : Buffer) → is_known b.sequences s ≡ true → written_by s limit b ≡ map (record_in s) (delivered_by b s limit)
known_writes s limit b e = ap (λ (x : Bool). cond x (map (record_in s) (delivered_by b s limit)) []) e

read_other : (s q limit : ℕ) (bs : List Buffer) → (s == q) ≡ false → records_of q (flat_map (written_by s limit) bs) ≡ []
read_other s q limit [] e = refl
read_other s q limit (b ∷ bs) e =
    records_append q (written_by s limit b) (flat_map (written_by s limit) bs)
    ∙ ap (λ (xs : List (List ℕ)). xs ++ records_of q (flat_map (written_by s limit) bs)) (step (is_known b.sequences s))
    ∙ read_other s q limit bs e
  where
    step : (x : Bool) → records_of q (cond x (map (record_in s) (delivered_by b s limit)) []) ≡ []
    step true = recorded_other s q (delivered_by b s limit) e
    step false = refl

read_without : (q limit : ℕ) (bs : List Buffer) → Without q bs → flat_map (written_by q limit) bs ≡ []
read_without q limit [] h = refl
read_without q limit (b ∷ bs) h =
    ap (λ (xs : List Delivered). xs ++ flat_map (written_by q limit) bs) (unknown_writes q limit b h.0) ∙ read_without q limit bs h.1

-- what a read writes is what the one buffer delivers that has the sequence
written_once : (q limit : ℕ) (b : Buffer) (bs : List Buffer) → Once q b bs → flat_map (written_by q limit) bs ≡ map (record_in q) (delivered_by b q limit)
written_once q limit b [] h = absurd h
written_once q limit b (x ∷ xs) (inl h) =
    ap (λ (y : Buffer). written_by q limit y ++ flat_map (written_by q limit) xs) h.0
    ∙ ap (λ (ys : List Delivered). written_by q limit b ++ ys) (read_without q limit xs h.2)
    ∙ append-nil (written_by q limit b)
    ∙ known_writes q limit b h.1
written_once q limit b (x ∷ xs) (inr h) =
    ap (λ (ys : List Delivered). ys ++ flat_map (written_by q limit) xs) (unknown_writes q limit x h.0)
    ∙ written_once q limit b xs h.1

read_once : (q limit : ℕ) (b : Buffer) (bs : List Buffer) → Once q b bs → records_of q (flat_map (written_by q limit) bs) ≡ told q (delivered_by b q limit)
read_once q limit b bs once = ap (records_of q) (written_once q limit b bs once) ∙ recorded q (delivered_by b q limit)

once_at : (q : ℕ) (b : Buffer) (bs : List Buffer) (event : Event) → Once q b bs → records_of q (records_at bs event) ≡ told q (delivered_at q b event)
once_at q b bs (Arrives s chunk_id chunk) once = refl
once_at q b bs (ArrivesInPart s chunk_id chunk) once = refl
once_at q b bs (Patched s patches) once = refl
once_at q b bs (Committed image patches) once = refl
once_at q b bs (Closed s) once = refl
once_at q b bs (Read s limit) once = step (s == q) refl
  where
    step : (x : Bool) → (s == q) ≡ x → records_of q (flat_map (written_by s limit) bs) ≡ told q (cond x (delivered_by b s limit) [])
    step true e =
        subst (λ (n : ℕ). records_of q (flat_map (written_by n limit) bs) ≡ told q (delivered_by b n limit)) (sym (eqb-true s q e)) (read_once q limit b bs once)
    step false e = read_other s q limit bs e

without_at : (q : ℕ) (bs : List Buffer) (event : Event) → Without q bs → records_of q (records_at bs event) ≡ []
without_at q bs (Arrives s chunk_id chunk) none = refl
without_at q bs (ArrivesInPart s chunk_id chunk) none = refl
without_at q bs (Patched s patches) none = refl
without_at q bs (Committed image patches) none = refl
without_at q bs (Closed s) none = refl
without_at q bs (Read s limit) none = step (s == q) refl
  where
    step : (x : Bool) → (s == q) ≡ x → records_of q (flat_map (written_by s limit) bs) ≡ []
    step true e =
        subst (λ (n : ℕ). records_of q (flat_map (written_by n limit) bs) ≡ []) (sym (eqb-true s q e)) (ap (records_of q) (read_without q limit bs none))
    step false e = read_other s q limit bs e

without_after : (q : ℕ) (bs : List Buffer) (event : Event) → Without q bs → Without q (map (λ (b : Buffer). buffer_after b event) bs)
without_after q [] event h = tt
without_after q (b ∷ bs) event h = (known_after b event q ∙ h.0, without_after q bs event h.1)

once_after : (q : ℕ) (b : Buffer) (bs : List Buffer) (event : Event) → Once q b bs → Once q (buffer_after b event) (map (λ (x : Buffer). buffer_after x event) bs)
once_after q b [] event h = absurd h
once_after q b (x ∷ xs) event (inl h) =
    inl (ap (λ (y : Buffer). buffer_after y event) h.0, known_after b event q ∙ h.1, without_after q xs event h.2)
once_after q b (x ∷ xs) event (inr h) = inr (known_after x event q ∙ h.0, once_after q b xs event h.1)

pub once_writes : (q : ℕ) (events : List Event) (b : Buffer) (bs : List Buffer) → Once q b bs → records_of q (records_after bs events) ≡ told q (delivered_to q b events)
once_writes q [] b bs once = refl
once_writes q (event ∷ events) b bs once =
    let later : List Buffer = map (λ (x : Buffer). buffer_after x event) bs in
    records_append q (records_at bs event) (records_after later events)
    ∙ ap (λ (xs : List (List ℕ)). xs ++ records_of q (records_after later events)) (once_at q b bs event once)
    ∙ ap (λ (xs : List (List ℕ)). told q (delivered_at q b event) ++ xs) (once_writes q events (buffer_after b event) later (once_after q b bs event once))
    ∙ sym (map-append (λ (d : Delivery). record_of d.body q d.marked) (delivered_at q b event) (delivered_to q (buffer_after b event) events))

pub without_writes : (q : ℕ) (events : List Event) (bs : List Buffer) → Without q bs → records_of q (records_after bs events) ≡ []
without_writes q [] bs none = refl
without_writes q (event ∷ events) bs none =
    let later : List Buffer = map (λ (x : Buffer). buffer_after x event) bs in
    records_append q (records_at bs event) (records_after later events)
    ∙ ap (λ (xs : List (List ℕ)). xs ++ records_of q (records_after later events)) (without_at q bs event none)
    ∙ without_writes q events later (without_after q bs event none)

-- Each buffer has only sequences of this kind.
module _ (Mine : ℕ → Type 0) where
  abbrev pub Only : List Buffer → Type 0
  Only [] = Unit {0}
  Only (b ∷ bs) = ((s : ℕ) → is_known b.sequences s ≡ true → Mine s) × Only bs

  -- so none has one of another kind
  pub without_other : (bs : List Buffer) → Only bs → (q : ℕ) → (Mine q → ⊥) → Without q bs
  without_other [] only q other = tt
  without_other (b ∷ bs) only q other =
      (false_from_ne_true (is_known b.sequences q) (λ known. other (only.0 q known)), without_other bs only.1 q other)

  abbrev IsMine : Delivered → Type 0
  IsMine d = Mine d.sequence

  each_mine : (s : ℕ) (deliveries : List Delivery) → Mine s → All IsMine (map (record_in s) deliveries)
  each_mine s [] mine = All-nil IsMine
  each_mine s (d ∷ ds) mine = All-cons IsMine (record_in s d) (map (record_in s) ds) mine (each_mine s ds mine)

  read_mine : (s limit : ℕ) (bs : List Buffer) → Only bs → All IsMine (flat_map (written_by s limit) bs)
  read_mine s limit [] only = All-nil IsMine
  read_mine s limit (b ∷ bs) only =
      All-append IsMine (written_by s limit b) (flat_map (written_by s limit) bs) (step (is_known b.sequences s) refl) (read_mine s limit bs only.1)
    where
      step : (x : Bool) → is_known b.sequences s ≡ x → All IsMine (cond x (map (record_in s) (delivered_by b s limit)) [])
      step true e = each_mine s (delivered_by b s limit) (only.0 s e)
      step false e = All-nil IsMine

  at_mine : (bs : List Buffer) (event : Event) → Only bs → All IsMine (records_at bs event)
  at_mine bs (Arrives s chunk_id chunk) only = All-nil IsMine
  at_mine bs (ArrivesInPart s chunk_id chunk) only = All-nil IsMine
  at_mine bs (Patched s patches) only = All-nil IsMine
  at_mine bs (Committed image patches) only = All-nil IsMine
  at_mine bs (Closed s) only = All-nil IsMine
  at_mine bs (Read s limit) only = read_mine s limit bs only

  only_after : (bs : List Buffer) (event : Event) → Only bs → Only (map (λ (b : Buffer). buffer_after b event) bs)
  only_after [] event only = tt
  only_after (b ∷ bs) event only = (λ s known. only.0 s (sym (known_after b event s) ∙ known), only_after bs event only.1)

  pub all_mine : (events : List Event) (bs : List Buffer) → Only bs → All IsMine (records_after bs events)
  all_mine [] bs only = All-nil IsMine
  all_mine (event ∷ events) bs only =
      let later : List Buffer = map (λ (b : Buffer). buffer_after b event) bs in
      All-append IsMine (records_at bs event) (records_after later events) (at_mine bs event only) (all_mine events later (only_after bs event only))

-- ---- a read that ended before a record

known_later : (events : List Event) (b : Buffer) (q : ℕ) → is_known (state_after b events).sequences q ≡ is_known b.sequences q
known_later [] b q = refl
known_later (event ∷ events) b q = known_later events (buffer_after b event) q ∙ known_after b event q

without_later : (q : ℕ) (events : List Event) (bs : List Buffer) → Without q bs → Without q (buffers_after bs events)
without_later q events [] none = tt
without_later q events (b ∷ bs) none = (known_later events b q ∙ none.0, without_later q events bs none.1)

once_later : (q : ℕ) (events : List Event) (b : Buffer) (bs : List Buffer) → Once q b bs → Once q (state_after b events) (buffers_after bs events)
once_later q events b [] once = absurd once
once_later q events b (x ∷ xs) (inl h) =
    inl (ap (λ (y : Buffer). state_after y events) h.0, known_later events b q ∙ h.1, without_later q events xs h.2)
once_later q events b (x ∷ xs) (inr h) = inr (known_later events x q ∙ h.0, once_later q events b xs h.1)

-- a limit of one more would have written the next record, and nothing else
next_of_one : (q count left : ℕ) (b : Buffer) (bs : List Buffer) (next : Delivered) (later : List Delivered) → Once q b bs
    → records_at bs (Read q left) ≡ records_at bs (Read q count) ++ next ∷ later → length (records_at bs (Read q count)) ≡ count
    → records_at bs (Read q (suc count)) ≡ records_at bs (Read q count) ++ next ∷ []
next_of_one q count left b bs next later once due many =
    let marked = is_marked (sequence_in b.sequences q) in
    let row = row_from_cursor b (sequence_in b.sequences q) in
    let written = records_at bs (Read q count) in
    let whole : map (record_in q) (delivered_by b q left) ≡ written ++ next ∷ later = sym (written_once q left b bs once) ∙ due in
    let long : length (delivered_by b q left) ≡ length (written ++ next ∷ later) =
    sym (length-map (delivered_by b q left) (record_in q)) ∙ ap (λ (ds : List Delivered). length ds) whole in
    let both = length-append written (next ∷ later) in
    let few = delivered_within marked left row in
    let place : suc count ≡ length written + 1 = omega (arith, many) in
    written_once q (suc count) b bs once
    ∙ ap (map (record_in q)) (fewer_delivered row marked (suc count) left (omega (arith, long, both, few, many)))
    ∙ sym (take-map (record_in q) (suc count) (delivered_by b q left))
    ∙ ap (take (suc count)) whole
    ∙ ap (λ (n : ℕ). take n (written ++ next ∷ later)) place
    ∙ take-append-add written (next ∷ later) 1

-- so a history whose last read ended before a record writes this record next, where that read goes one packet further
pub next_written : (q count left : ℕ) (early : List Event) (bs : List Buffer) (next : Delivered) (later : List Delivered)
    → ((b : Buffer) × Once q b bs) ⊎ Without q bs
    → records_at (buffers_after bs early) (Read q left) ≡ records_at (buffers_after bs early) (Read q count) ++ next ∷ later
    → length (records_at (buffers_after bs early) (Read q count)) ≡ count
    → records_at (buffers_after bs early) (Read q (suc count)) ≡ records_at (buffers_after bs early) (Read q count) ++ next ∷ []
next_written q count left early bs next later (inl one) due many =
    next_of_one q count left (state_after one.0 early) (buffers_after bs early) next later (once_later q early one.0 bs one.1) due many
next_written q count left early bs next later (inr none) due many =
    let written = records_at (buffers_after bs early) (Read q count) in
    let long = ap (λ (ds : List Delivered). length ds) (sym (read_without q left (buffers_after bs early) (without_later q early bs none)) ∙ due) in
    let both = length-append written (next ∷ later) in
    absurd (omega (arith, long, both))
