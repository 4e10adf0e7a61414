-- Histories that go on behind an account: whether the sequence is closed there, and what may come then.
use Rattle.std.proofs.Common.{◌≡◌, ◌∙◌, ℕ, suc, Bool, true, false, cond, List, [], ◌∷◌, ◌++◌, refl, sym, ap, subst, eq-eqb, eqb-true, true≢false}
use Rattle.std.specs.Prelude.{Some, ◌==◌, slice_get, MatchBool}
use Rattle.trace_model.specs.Buffers.{Buffer}
use Rattle.trace_model.specs.History.{Event, Arrives, ArrivesInPart, Patched, Committed, Closed, Read, buffer_after, state_after}
use Rattle.trace_model.specs.Images.{Patch}
use Rattle.trace_model.specs.Patches.{with_close, closed_buffer, closed_sequence}
use Rattle.trace_model.specs.Sequences.{Sequence, is_known, sequence_in}
use Rattle.trace_model.proofs.SequenceLemmas.{changed_here, changed_other}
use Rattle.trace_model.proofs.ShapeLemmas.{closed_after}
use Rattle.delivery_laws.specs.Histories.{IsPart}
use Rattle.delivery_laws.specs.Orders.{InOrder}
use Rattle.delivery_laws.specs.Sheets.{Sheet}
use Rattle.delivery_laws.proofs.AskLemmas.{known_after}
use Rattle.buffer_clone.proofs.ToldLemmas.{LooksSame}

-- the sequence is closed behind these events, where it was closed or not before them
abbrev pub closed_behind : ℕ → Bool → List Event → Bool
closed_behind q closed [] = closed
closed_behind q closed (Arrives other chunk_id chunk ∷ events) = closed_behind q closed events
closed_behind q closed (ArrivesInPart other chunk_id chunk ∷ events) = closed_behind q closed events
closed_behind q closed (Patched other patches ∷ events) = closed_behind q closed events
closed_behind q closed (Committed image patches ∷ events) = closed_behind q closed events
closed_behind q closed (Closed other ∷ events) = closed_behind q (cond (other == q) true closed) events
closed_behind q closed (Read other limit ∷ events) = closed_behind q closed events

-- One close, to this sequence and to another

close_here : (b : Buffer) (q : ℕ) → is_known b.sequences q ≡ true → (sequence_in (with_close b q).sequences q).closed ≡ true
close_here b q known = of (sequence_in b.sequences q).closed refl
  where
    of : (x : Bool) → (sequence_in b.sequences q).closed ≡ x → (sequence_in (cond x b (closed_buffer b q)).sequences q).closed ≡ true
    of true e = e
    of false e = ap (λ (s : Sequence). s.closed) (changed_here q (closed_sequence b.live) (λ s. refl) b.sequences known)

pub close_other : (b : Buffer) (p q : ℕ) → is_known b.sequences q ≡ true → (p == q) ≡ false → LooksSame q (buffer_after b (Closed p)) b
close_other b p q known apart = of (is_known b.sequences p) (sequence_in b.sequences p).closed
  where
    of : (x y : Bool) → LooksSame q (cond x (cond y b (closed_buffer b p)) b) b
    of false y = record { live = refl; state = refl }
    of true true = record { live = refl; state = refl }
    of true false = record {
      live = refl;
      state = changed_other p q (closed_sequence b.live) (λ s. refl) b.sequences known (λ e. true≢false (sym (eq-eqb p q e) ∙ apart));
    }

close_known : (b : Buffer) (q : ℕ) → is_known b.sequences q ≡ true → buffer_after b (Closed q) ≡ with_close b q
close_known b q known = ap (λ (x : Bool). cond x (with_close b q) b) known

closed_next : (b : Buffer) (p q : ℕ) (closed : Bool) → is_known b.sequences q ≡ true → (sequence_in b.sequences q).closed ≡ closed
    → (sequence_in (buffer_after b (Closed p)).sequences q).closed ≡ cond (p == q) true closed
closed_next b p q closed known is = of (p == q) refl
  where
    of : (x : Bool) → (p == q) ≡ x → (sequence_in (buffer_after b (Closed p)).sequences q).closed ≡ cond x true closed
    of true e =
        subst (λ (n : ℕ). (sequence_in (buffer_after b (Closed n)).sequences q).closed ≡ true) (sym (eqb-true p q e))
        (ap (λ (c : Buffer). (sequence_in c.sequences q).closed) (close_known b q known) ∙ close_here b q known)
    of false e = ap (λ (s : Sequence). s.closed) (close_other b p q known e).state ∙ is

pub shut_is : (q : ℕ) (events : List Event) (b : Buffer) (closed : Bool) → is_known b.sequences q ≡ true → (sequence_in b.sequences q).closed ≡ closed
    → (sequence_in (state_after b events).sequences q).closed ≡ closed_behind q closed events
shut_is q [] b closed known is = is
shut_is q (Arrives other chunk_id chunk ∷ events) b closed known is =
    let e : Event = Arrives other chunk_id chunk in
    shut_is q events (buffer_after b e) closed (known_after b e q ∙ known) (closed_after b e q refl ∙ is)
shut_is q (ArrivesInPart other chunk_id chunk ∷ events) b closed known is =
    let e : Event = ArrivesInPart other chunk_id chunk in
    shut_is q events (buffer_after b e) closed (known_after b e q ∙ known) (closed_after b e q refl ∙ is)
shut_is q (Patched other patches ∷ events) b closed known is =
    let e : Event = Patched other patches in
    shut_is q events (buffer_after b e) closed (known_after b e q ∙ known) (closed_after b e q refl ∙ is)
shut_is q (Committed image patches ∷ events) b closed known is =
    let e : Event = Committed image patches in
    shut_is q events (buffer_after b e) closed (known_after b e q ∙ known) (closed_after b e q refl ∙ is)
shut_is q (Closed other ∷ events) b closed known is =
    shut_is q events (buffer_after b (Closed other)) (cond (other == q) true closed) (known_after b (Closed other) q ∙ known) (closed_next b other q closed known is)
shut_is q (Read other limit ∷ events) b closed known is =
    let e : Event = Read other limit in
    shut_is q events (buffer_after b e) closed (known_after b e q ∙ known) (closed_after b e q refl ∙ is)

-- What may come behind a history in order comes in order
module _ (sheets : List Sheet) (q : ℕ) (tail : List Event) where
  abbrev TailInOrder : Bool → Type 0
  TailInOrder closed = (come : ℕ) → InOrder sheets q come closed [] tail

  pub order_on : (events : List Event) (come : ℕ) (closed : Bool) (due : List Patch) → InOrder sheets q come closed due events
      → TailInOrder (closed_behind q closed events) → InOrder sheets q come closed due (events ++ tail)
  order_on [] come closed due order last = subst (λ (ps : List Patch). InOrder sheets q come closed ps tail) (sym order) (last come)
  order_on (Arrives other chunk_id chunk ∷ events) come closed due order last =
      (order.0, by_same (other == q) order.1 (λ ps o. order_on events (suc come) closed ps o last) (λ o. order_on events come closed [] o last))
    where
      by_same : (x : Bool)
          → MatchBool x ((closed ≡ false) × (chunk_id ≡ come) × (sheet : Sheet) × (slice_get sheets come ≡ Some sheet) × (chunk ≡ sheet.chunk)
          × InOrder sheets q (suc come) closed sheet.patches events) (InOrder sheets q come closed [] events)
          → ((ps : List Patch) → InOrder sheets q (suc come) closed ps events → InOrder sheets q (suc come) closed ps (events ++ tail))
          → (InOrder sheets q come closed [] events → InOrder sheets q come closed [] (events ++ tail))
          → MatchBool x ((closed ≡ false) × (chunk_id ≡ come) × (sheet : Sheet) × (slice_get sheets come ≡ Some sheet) × (chunk ≡ sheet.chunk)
          × InOrder sheets q (suc come) closed sheet.patches (events ++ tail)) (InOrder sheets q come closed [] (events ++ tail))
      by_same true h here rest = (h.0, h.1, h.2, h.3, h.4, here h.2.patches h.5)
      by_same false h here rest = rest h
  order_on (ArrivesInPart other chunk_id chunk ∷ events) come closed due order last =
      (order.0, by_same (other == q) order.1 (λ o. order_on events come closed [] o last))
    where
      by_same : (x : Bool)
          → MatchBool x ((closed ≡ false) × (chunk_id ≡ come) × IsPart sheets come chunk × InOrder sheets q come closed [] events) (InOrder sheets q come closed [] events)
          → (InOrder sheets q come closed [] events → InOrder sheets q come closed [] (events ++ tail))
          → MatchBool x ((closed ≡ false) × (chunk_id ≡ come) × IsPart sheets come chunk × InOrder sheets q come closed [] (events ++ tail)) (InOrder sheets q come closed [] (events ++ tail))
      by_same true h rest = (h.0, h.1, h.2, rest h.3)
      by_same false h rest = rest h
  order_on (Patched other patches ∷ events) come closed due order last = by_same (other == q) order (λ o. order_on events come closed [] o last)
    where
      by_same : (x : Bool)
          → MatchBool x ((patches ≡ due) × InOrder sheets q come closed [] events) ((due ≡ []) × InOrder sheets q come closed [] events)
          → (InOrder sheets q come closed [] events → InOrder sheets q come closed [] (events ++ tail))
          → MatchBool x ((patches ≡ due) × InOrder sheets q come closed [] (events ++ tail)) ((due ≡ []) × InOrder sheets q come closed [] (events ++ tail))
      by_same true h rest = (h.0, rest h.1)
      by_same false h rest = (h.0, rest h.1)
  order_on (Committed image patches ∷ events) come closed due order last = (order.0, order.1, order_on events come closed [] order.2 last)
  order_on (Closed other ∷ events) come closed due order last =
      (order.0, by_same (other == q) order.1 last (λ o t. order_on events come true [] o t) (λ o t. order_on events come closed [] o t))
    where
      by_same : (x : Bool)
          → MatchBool x ((closed ≡ false) × InOrder sheets q come true [] events) (InOrder sheets q come closed [] events)
          → TailInOrder (closed_behind q (cond x true closed) events)
          → (InOrder sheets q come true [] events → TailInOrder (closed_behind q true events) → InOrder sheets q come true [] (events ++ tail))
          → (InOrder sheets q come closed [] events → TailInOrder (closed_behind q closed events) → InOrder sheets q come closed [] (events ++ tail))
          → MatchBool x ((closed ≡ false) × InOrder sheets q come true [] (events ++ tail)) (InOrder sheets q come closed [] (events ++ tail))
      by_same true h t here rest = (h.0, here h.1 t)
      by_same false h t here rest = rest h t
  order_on (Read other limit ∷ events) come closed due order last = (order.0, order_on events come closed [] order.1 last)

-- a read may come, and before it the close of a sequence that is open

pub read_last : (sheets : List Sheet) (q limit come : ℕ) (closed : Bool) → InOrder sheets q come closed [] (Read q limit ∷ [])
read_last sheets q limit come closed = (refl, refl)

pub close_last : (sheets : List Sheet) (q limit come : ℕ) (closed : Bool) → closed ≡ false → InOrder sheets q come closed [] (Closed q ∷ Read q limit ∷ [])
close_last sheets q limit come closed none = (
  refl,
  subst (λ (x : Bool). MatchBool x ((closed ≡ false) × InOrder sheets q come true [] (Read q limit ∷ [])) (InOrder sheets q come closed [] (Read q limit ∷ []))) (sym (eq-eqb q q refl))
      (none, (refl, refl)),
)
