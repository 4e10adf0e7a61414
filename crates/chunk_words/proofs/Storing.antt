-- Payload words of a held chunk that are stored one behind another.
use Rattle.std.proofs.Common.{◌≡◌, ℕ, ◌+◌, ◌*◌, ◌<◌, ◌≤◌, List, [], length, set, subst, sym, ap, ◌∙◌}
use Rattle.std.proofs.lemmas.List.{set-set}
use Rattle.atomic_table.proofs.Lists.{set_again, set_here}
use Rattle.chunk_plain.specs.Payload.{byte_of, byte_in}
use Rattle.chunk_plain.specs.Views.{At, Held, Draft, WriterView}
use Rattle.chunk_plain.specs.Steps.{redrafts, with_word, with_words}
use Rattle.chunk_plain.specs.Drafts.{draft_at, IsHolding}
use Rattle.chunk_plain.specs.Words.{KeepsSealed}
use Rattle.chunk_plain.proofs.Holding.{redrafts_draft}
use Rattle.chunk_plain.proofs.Lists.{at_inside}
use Rattle.chunk_plain.proofs.Publishing.{stored_none, stored_next, sealed_stays}
use Rattle.chunk_words.specs.Knows.{Knows, Writer, view_of, place_of, by_writer}
use Rattle.chunk_words.specs.Moves.{Mine, KeepsWord, Publishes, Stores}
use Rattle.chunk_words.specs.Seats.{IsIdle}
use Rattle.chunk_words.proofs.ServiceFinds.{word_byte}

redrafts_same : (view : WriterView) (chunk position : ℕ) → IsHolding view chunk position → redrafts view chunk position (draft_at view position) ≡ view
redrafts_same view chunk position holding = ap (λ l. let v : WriterView = record view { begun = l } in v) (set_again view.begun position (Held chunk (draft_at view position)) holding)

redrafts_twice : (view : WriterView) (chunk position : ℕ) (one other : Draft) → redrafts (redrafts view chunk position one) chunk position other ≡ redrafts view chunk position other
redrafts_twice view chunk position one other = ap (λ l. let v : WriterView = record view { begun = l } in v) (set-set view.begun position (Held chunk one) (Held chunk other))

pub redrafts_holding : (view : WriterView) (chunk position : ℕ) (draft : Draft) → IsHolding view chunk position → IsHolding (redrafts view chunk position draft) chunk position
redrafts_holding view chunk position draft holding =
    let inside = at_inside view.begun (Held chunk (draft_at view position)) position holding in
    subst (λ x. At (redrafts view chunk position draft).begun position (Held chunk x)) (sym (redrafts_draft view chunk position draft holding)) (set_here view.begun position (Held chunk draft) inside)

pub stores_none : (place chunk position first : ℕ) (copy : List ℕ) (me : Mine) → IsIdle place me → IsHolding (view_of me.0) chunk position → Stores chunk position first first copy me me
stores_none place chunk position first copy me idle holding =
    let view = view_of me.0 in
    let place_is : place_of me.0 ≡ place = ap (λ (m : Mine). place_of m.0) idle in
    record {
      words = (draft_at view position).words;
      stored = stored_none copy first (draft_at view position).words;
      new_is = idle ∙ (ap (λ v. let m : Mine = (Writer place 0 v, []) in m) (sym (redrafts_same view chunk position holding))
          ∙ ap (λ p. let m : Mine = (Writer p 0 (redrafts view chunk position (draft_at view position)), []) in m) (sym place_is));
    }

-- where the seat stands between two stores
pub between_view : (chunk position first index : ℕ) (copy : List ℕ) (me mid : Mine) (stores : Stores chunk position first index copy me mid) → view_of mid.0 ≡ redrafts (view_of me.0) chunk position (with_words (draft_at (view_of me.0) position) stores.words)
between_view chunk position first index copy me mid stores = ap (λ (m : Mine). view_of m.0) stores.new_is

pub between_draft : (chunk position first index : ℕ) (copy : List ℕ) (me mid : Mine) (stores : Stores chunk position first index copy me mid) → IsHolding (view_of me.0) chunk position
    → draft_at (view_of mid.0) position ≡ with_words (draft_at (view_of me.0) position) stores.words
between_draft chunk position first index copy me mid stores holding =
    ap (λ v. draft_at v position) (between_view chunk position first index copy me mid stores) ∙ redrafts_draft (view_of me.0) chunk position (with_words (draft_at (view_of me.0) position) stores.words) holding

pub between_holds : (chunk position first index : ℕ) (copy : List ℕ) (me mid : Mine) → Stores chunk position first index copy me mid → IsHolding (view_of me.0) chunk position → IsHolding (view_of mid.0) chunk position
between_holds chunk position first index copy me mid stores holding =
    subst (λ v. IsHolding v chunk position) (sym (between_view chunk position first index copy me mid stores)) (redrafts_holding (view_of me.0) chunk position (with_words (draft_at (view_of me.0) position) stores.words) holding)

-- the word of a copy keeps what is finished
pub between_keeps : (chunk position first index word : ℕ) (copy : List ℕ) (me mid : Mine) → Stores chunk position first index copy me mid → IsHolding (view_of me.0) chunk position
    → KeepsSealed (view_of me.0) position copy → ((m : ℕ) → m < 8 → 8 * index + m < length copy → byte_of word m ≡ byte_in copy (8 * index + m))
    → KeepsWord (draft_at (view_of mid.0) position) index word
between_keeps chunk position first index word copy me mid stores holding keeps packed =
    let view = view_of me.0 in
    subst (λ (d : Draft). KeepsWord d index word) (sym (between_draft chunk position first index copy me mid stores holding))
    (λ m small below.
    let kept = keeps (8 * index + m) below in
    packed m small kept.0 ∙ (sym kept.1 ∙ (sym (sealed_stays view position first index copy stores.words keeps stores.stored (8 * index + m) below) ∙ word_byte stores.words index m small)))

pub stores_next : (chunk position first index word : ℕ) (copy : List ℕ) (me mid new : Mine) → Stores chunk position first index copy me mid → Publishes chunk position index word mid new
    → IsHolding (view_of me.0) chunk position → first ≤ index → ((m : ℕ) → m < 8 → 8 * index + m < length copy → byte_of word m ≡ byte_in copy (8 * index + m))
    → Stores chunk position first (index + 1) copy me new
stores_next chunk position first index word copy me mid new stores step holding order packed =
    let view = view_of me.0 in let words = stores.words in let draft = with_words (draft_at view position) words in
    let draft_is = between_draft chunk position first index copy me mid stores holding in
    let inside : index < length words = subst (λ (d : Draft). index < length d.words) draft_is step.inside in
    record {
      words = set words index word;
      stored = stored_next copy first index word (draft_at view position).words words inside order packed stores.stored;
      new_is = step.new_is ∙ (ap (λ (d : Draft). let m : Mine = (by_writer 0 (λ v. redrafts v chunk position (with_word d index word)) mid.0, []) in m) draft_is
          ∙ (ap (λ (k : Knows). let m : Mine = (by_writer 0 (λ v. redrafts v chunk position (with_word draft index word)) k, []) in m) (ap (λ (m : Mine). m.0) stores.new_is)
          ∙ ap (λ v. let m : Mine = (Writer (place_of me.0) 0 v, []) in m) (redrafts_twice view chunk position draft (with_word draft index word))));
    }
