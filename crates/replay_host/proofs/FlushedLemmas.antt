-- A flush between two packets is accepted, and changes nothing of what a writer accepts.
use Rattle.std.proofs.Common.{◌≡◌, ◌∙◌, ℕ, ◌+◌, ◌<◌, ◌≤◌, ◌==◌, ◌&&◌, Bool, true, false, List, [], ◌∷◌, ◌++◌, cond, refl, sym, ap, subst, fold}
use Rattle.std.proofs.lemmas.Grind.{fold-append}
use Rattle.std.specs.Prelude.{slice_get, Some}
use Rattle.std.proofs.lemmas.Bool.{and_from, and_parts, eqb-true}
use Rattle.trace_base.specs.declared.limits.TheConstants.{MAX_PACKET_LEN, MAX_NESTING}
use Rattle.trace_model.specs.Calls.{Call, Begun, Number, Bytes, Nested, Ended, GivenUp, Finished, Flushed}
use Rattle.trace_model.specs.Enough.{most_chunks}
use Rattle.trace_model.specs.Packets.{Account, Packet, nothing_yet, noted, account_of, packets_of, is_writing, open_count, is_possible, are_possible_after, AreCalls, newest_length}
use Rattle.model_laws.specs.Losses.{Loses, written_calls}
use Rattle.model_laws.proofs.LossLemmas.{losses_change_no_shape, written_append}
use Rattle.scenario_text.specs.Accepted.{Accepts, AcceptsField, AreAccepted}
use Rattle.scenario_text.proofs.PossibleLemmas.{accepted_possible}
use Rattle.chunk_plain.specs.declared.tokens.TheConstants.{POSITION_LIMIT}
use Rattle.chunk_plain.specs.Meaning.{Meaning}
use Rattle.chunk_plain.specs.Views.{WriterView}
use Rattle.trace_writer.specs.declared.ids.TheConstants.{PACKET_IDS}
use Rattle.trace_writer.specs.declared.writer.WriterCore.{WriterCore}
use Rattle.world_model.specs.FirstBuffers.{payload_at}
use Rattle.replay_host.specs.Asking.{IsReadyFor, AreReady}
use Rattle.replay_host.specs.Playing.{asked_all}

-- ---- what a writer accepts hangs on the shape of its newest packet alone

-- packets of the same shape: as far begun, as deep and as long
record AreAlike (packets others : List Packet) : Type 0 where
  writing : is_writing others ≡ is_writing packets
  depth : open_count others ≡ open_count packets
  long : newest_length others ≡ newest_length packets

field_alike : (packets others : List Packet) (field more : ℕ) → AreAlike packets others → AcceptsField packets field more → AcceptsField others field more
field_alike packets others field more alike accepts = record {
  begun = alike.writing ∙ accepts.begun;
  numbered = accepts.numbered;
  free = λ top. accepts.free (sym alike.depth ∙ top);
  short = subst (λ (n : ℕ). n + more ≤ MAX_PACKET_LEN) (sym alike.long) accepts.short;
}

accepts_alike : (packets others : List Packet) (call : Call) → AreAlike packets others → Accepts packets call → Accepts others call
accepts_alike packets others (Begun kept) alike accepts = (accepts.0, alike.writing ∙ accepts.1)
accepts_alike packets others (Number field value) alike accepts = field_alike packets others field _ alike accepts
accepts_alike packets others (Bytes field text times) alike accepts = field_alike packets others field _ alike accepts
accepts_alike packets others (Nested field) alike accepts =
    (field_alike packets others field _ alike accepts.0, subst (λ (n : ℕ). n ≤ MAX_NESTING) (sym alike.depth) accepts.1)
accepts_alike packets others Ended alike accepts = (alike.writing ∙ accepts.0, subst (λ (n : ℕ). 1 < n) (sym alike.depth) accepts.1)
accepts_alike packets others GivenUp alike accepts = accepts
accepts_alike packets others Finished alike accepts = (alike.writing ∙ accepts.0, alike.depth ∙ accepts.1)
accepts_alike packets others Flushed alike accepts = alike.writing ∙ accepts

-- one call more on both sides
loses_both : (asked done : List Call) (calls : List Call) → Loses asked done → Loses (asked ++ calls) (done ++ calls)
loses_both asked done calls loses =
    written_append done calls ∙ ap (λ (cs : List Call). cs ++ written_calls calls) loses ∙ sym (written_append asked calls)

-- what is accepted behind calls is accepted behind those that were noted of them
pub accepted_alike : (coming asked done : List Call) → Loses asked done → AreAccepted (account_of asked) coming → AreAccepted (account_of done) coming
accepted_alike [] asked done loses accepted = tt
accepted_alike (call ∷ coming) asked done loses accepted =
    let shape = losses_change_no_shape asked done loses in (
      accepts_alike (packets_of asked) (packets_of done) call (record { writing = shape.writing; depth = shape.depth; long = shape.long }) accepted.0,
      subst (λ (a : Account). AreAccepted a coming) (fold-append noted nothing_yet done (call ∷ []))
          (accepted_alike coming (asked ++ call ∷ []) (done ++ call ∷ []) (loses_both asked done (call ∷ []) loses)
          (subst (λ (a : Account). AreAccepted a coming) (sym (fold-append noted nothing_yet asked (call ∷ []))) accepted.1)),
    )

-- ---- what is possible, in two parts

possible_append : (account : Account) (xs ys : List Call)
    → are_possible_after account (xs ++ ys) ≡ (are_possible_after account xs && are_possible_after (fold noted account xs) ys)
possible_append account [] ys = refl
possible_append account (call ∷ xs) ys =
    ap (λ (b : Bool). is_possible account.packets call && b) (possible_append (noted account call) xs ys)
    ∙ and_regroup (is_possible account.packets call) (are_possible_after (noted account call) xs) (are_possible_after (fold noted (noted account call) xs) ys)
  where
    and_regroup : (a b c : Bool) → (a && (b && c)) ≡ ((a && b) && c)
    and_regroup true b c = refl
    and_regroup false b c = refl

-- the calls before are possible alone, and those behind them by being accepted
possible_behind : (asked others : List Call) → AreCalls (asked ++ others) → (coming : List Call) → AreAccepted (account_of asked) coming → AreCalls (asked ++ coming)
possible_behind asked others possible coming accepted =
    possible_append nothing_yet asked coming
    ∙ and_from (are_possible_after nothing_yet asked) (are_possible_after (account_of asked) coming)
    (and_parts (are_possible_after nothing_yet asked) (are_possible_after (account_of asked) others) (sym (possible_append nothing_yet asked others) ∙ possible)).0
    (accepted_possible (account_of asked) coming accepted)

-- ---- a flush more

flush_loses : (asked coming : List Call) → Loses (asked ++ coming) (asked ++ Flushed ∷ coming)
flush_loses asked coming = written_append asked (Flushed ∷ coming) ∙ sym (written_append asked coming)

-- between two packets a writer is ready to flush before what is to come
pub ready_flush : (size : ℕ) (view : WriterView) (coming : List Call) → is_writing (packets_of view.calls) ≡ false → IsReadyFor size view coming
    → IsReadyFor size view (Flushed ∷ coming)
ready_flush size view coming between ready =
    let shape = losses_change_no_shape ready.asked view.calls ready.loses in
    let behind : AreAccepted (account_of (ready.asked ++ Flushed ∷ [])) coming =
    accepted_alike coming ready.asked (ready.asked ++ Flushed ∷ []) (flush_alone ready.asked) ready.accepted in
    let accepted : AreAccepted (account_of ready.asked) (Flushed ∷ coming) =
    (sym shape.writing ∙ between, subst (λ (a : Account). AreAccepted a coming) (fold-append noted nothing_yet ready.asked (Flushed ∷ [])) behind) in
    record {
      asked = ready.asked;
      loses = ready.loses;
      accepted = accepted;
      possible = possible_behind ready.asked coming ready.possible (Flushed ∷ coming) accepted;
      few = subst (λ (es : List (List ℕ)). most_chunks size es + PACKET_IDS ≤ POSITION_LIMIT)
          (sym (losses_change_no_shape (ready.asked ++ coming) (ready.asked ++ Flushed ∷ coming) (flush_loses ready.asked coming)).emitted) ready.few;
    }
  where
    flush_alone : (asked : List Call) → Loses asked (asked ++ Flushed ∷ [])
    flush_alone asked = written_append asked (Flushed ∷ []) ∙ nothing_more (written_calls asked)
      where
        nothing_more : (calls : List Call) → calls ++ [] ≡ calls
        nothing_more [] = refl
        nothing_more (call ∷ calls) = ap (λ (cs : List Call). call ∷ cs) (nothing_more calls)

-- where the writer at this place is between two packets, it may be asked to flush first
pub ready_answer : {T W S : Type 0} (means : Meaning T W S) (table : T) (cores : List (WriterCore W)) (place : ℕ) (coming : ℕ → List Call)
    → ((core : WriterCore W) → slice_get cores place ≡ Some core → is_writing (packets_of (means.view table core.seat).calls) ≡ false)
    → AreReady means table cores coming → AreReady means table cores (asked_all place (Flushed ∷ []) coming)
ready_answer means table cores place coming between ready other core at =
    by_place (other == place) refl
  where
    by_place : (b : Bool) → (other == place) ≡ b
        → IsReadyFor (payload_at (means.setup table) other) (means.view table core.seat) (cond b ((Flushed ∷ []) ++ coming other) (coming other))
    by_place true same =
        ready_flush (payload_at (means.setup table) other) (means.view table core.seat) (coming other)
        (between core (subst (λ (p : ℕ). slice_get cores p ≡ Some core) (eqb-true other place same) at)) (ready other core at)
    by_place false apart = ready other core at
