-- The service takes a chunk of the first writer, notes that it arrived, and lets it go.
use Rattle.std.proofs.Common.{◌≡◌, ℕ, ◌+◌, ◌-◌, ◌<◌, ◌≤◌, Option, List, [], ◌∷◌, ◌++◌, length, sym, ap, subst, ◌∙◌, arith, get_or-set_same, length-set}
use Rattle.std.proofs.lemmas.Bool.Decides.{nat_tests}
use Rattle.chunk_plain.specs.Views.{Arrive, Content, Found, Taken, none_taken, Noted, ServiceView, taken_of}
use Rattle.chunk_plain.specs.Steps.{without, looks_at, takes_in, learns, lets_go, notes}
use Rattle.chunk_plain.specs.Words.{AllArrived, LacksArrival}
use Rattle.chunk_plain.proofs.ArrivedLemmas.{all_arrived}
use Rattle.chunk_words.specs.declared.seats.ServiceSeat.{ServiceSeat}
use Rattle.chunk_words.specs.Knows.{service_of}
use Rattle.chunk_words_rows.specs.Page.{HasTaken}

none_left : (chunk : ℕ) → without chunk (chunk ∷ []) ≡ []
none_left chunk = grind (arith, nat_tests)

count_more : (view : ServiceView) (chunk : ℕ) (content : Content) → 0 < length view.taken → (taken_of (learns (takes_in view 0 chunk) 0 content) 0).count ≡ (taken_of view 0).count + 1
count_more view chunk content some =
    let now = takes_in view 0 chunk in let more : Taken = record (taken_of view 0) { count = (taken_of view 0).count + 1 } in
    let one : taken_of now 0 ≡ more = get_or-set_same view.taken 0 more none_taken some in
    let still : 0 < length now.taken = let same = length-set view.taken 0 more in omega (arith, same, some) in
    let with : Taken = record (taken_of now 0) { contents = (taken_of now 0).contents ++ content ∷ [] } in
    let two : taken_of (learns now 0 content) 0 ≡ with = get_or-set_same now.taken 0 with none_taken still in
    ap (λ (t : Taken). t.count) two ∙ ap (λ (t : Taken). t.count) one

-- a look, or a load, takes nothing
pub looked : (old new : ServiceSeat) (chunk word header count : ℕ) (found : Option Found) → HasTaken count old
    → service_of new.seat.me.0 ≡ looks_at (service_of old.seat.me.0) chunk word header found → HasTaken count new
looked old new chunk word header count found has is = record {
  count_is = ap (λ (v : ServiceView). (taken_of v 0).count) is ∙ has.count_is;
  none_out = ap (λ (v : ServiceView). v.reading) is ∙ has.none_out;
  arrived = subst AllArrived (sym is) has.arrived;
}

pub loaded : (old new : ServiceSeat) (count : ℕ) → HasTaken count old → service_of new.seat.me.0 ≡ service_of old.seat.me.0 → HasTaken count new
loaded old new count has is = record {
  count_is = ap (λ (v : ServiceView). (taken_of v 0).count) is ∙ has.count_is;
  none_out = ap (λ (v : ServiceView). v.reading) is ∙ has.none_out;
  arrived = subst AllArrived (sym is) has.arrived;
}

pub served : (old took new : ServiceSeat) (chunk taken_chunk word header count : ℕ) (found : Option Found) (content : Content) (note : Noted) → HasTaken count old
    → 0 < length (service_of old.seat.me.0).taken
    → service_of took.seat.me.0 ≡ learns (takes_in (looks_at (service_of old.seat.me.0) chunk word header found) 0 chunk) 0 content → taken_chunk ≡ chunk
    → service_of new.seat.me.0 ≡ lets_go (notes (service_of took.seat.me.0) note) taken_chunk → AllArrived (service_of new.seat.me.0) → HasTaken (count + 1) new
served old took new chunk taken_chunk word header count found content note has some is same gone arrived = record {
  count_is = ap (λ (v : ServiceView). (taken_of v 0).count) gone ∙ (ap (λ (v : ServiceView). (taken_of v 0).count) is
      ∙ (count_more (looks_at (service_of old.seat.me.0) chunk word header found) chunk content some ∙ ap (λ n. n + 1) has.count_is));
  none_out = ap (λ (v : ServiceView). v.reading) gone ∙ (ap (λ c. without c (service_of took.seat.me.0).reading) same ∙ (ap (λ (v : ServiceView). without chunk v.reading) is
      ∙ (ap (λ (l : List ℕ). without chunk (l ++ chunk ∷ [])) has.none_out ∙ none_left chunk)));
  arrived = arrived;
}

-- behind the note that the chunk arrived which was taken last, all that was taken has
pub arrives : (view : ServiceView) (writer sequence position : ℕ) → 1 ≤ writer → sequence ≡ writer + 1 → LacksArrival view (writer - 1) position
    → AllArrived (notes view (Arrive sequence position))
arrives view writer sequence position least is lacks =
    let same : writer - 1 + 2 ≡ sequence = omega (arith, least, is) in
    subst (λ (s : ℕ). AllArrived (notes view (Arrive s position))) same (all_arrived view (writer - 1) position [] lacks.others)
