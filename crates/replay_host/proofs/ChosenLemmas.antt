-- A writer that is chosen for a call, and what its call makes of the host.
use Rattle.std.proofs.Common.{◌≡◌, ◌∙◌, ℕ, suc, ◌<◌, ◌==◌, List, [], ◌∷◌, length, length-set, get_or, set, refl, sym, ap, subst, arith}
use Rattle.std.specs.Prelude.{slice_get, Some}
use Rattle.std.proofs.lemmas.Bool.{eq-eqb}
use Rattle.std.proofs.lemmas.List.{get_or_read}
use Rattle.std.proofs.lemmas.Option.{slice_get-get_or}
use Rattle.trace_base.specs.declared.policy.WriterSpec.{WriterSpec}
use Rattle.trace_model.specs.Calls.{Call}
use Rattle.trace_model.specs.Packets.{account_of}
use Rattle.chunk_plain.specs.Meaning.{Meaning}
use Rattle.chunk_plain.specs.Setup.{IsLaid, HasProducer, producer_of, no_writer}
use Rattle.world_model.specs.FirstBuffers.{payload_at}
use Rattle.trace_writer.specs.declared.writer.WriterCore.{WriterCore}
use Rattle.trace_writer.specs.Core.{route_of}
use Rattle.service_core.specs.Agreement.{spec_at}
use Rattle.replay_host.specs.declared.fault.HostFault.{HostFault}
use Rattle.replay_host.specs.declared.fault.HostFault.TheVariants.{Stalled}
use Rattle.replay_host.specs.declared.helper.Collecting.{Collecting}
use Rattle.replay_host.specs.declared.host.Host.{Host}
use Rattle.replay_host.specs.Asking.{IsReadyFor, AreReady, IsCalled, IsStalledCall}
use Rattle.replay_host.specs.Helping.{MayHelp, Helps}
use Rattle.replay_host.specs.Playing.{IsHost, HasAsked, KeepsBooks, asked_all}
use Rattle.replay_host.specs.Standing.{IsSeated, Stands}
use Rattle.replay_host.proofs.AskedLemmas.{IsProper, proper_is, route_is, asked_stands, asked_keeps, asked_ready, asked_does, asked_own, asked_others}
use Rattle.replay_host.proofs.HostLemmas.{host_still, played_ask, call_next}
use Rattle.replay_host.specs.Stopping.{Stalls}
use Rattle.replay_host.proofs.RowLemmas.{AreLaws}
use Rattle.replay_host.proofs.StallLemmas.{FitAll, stalled_keeps, stalled_told, stalled_own, stalled_others}
use Rattle.replay_host.proofs.WroteLemmas.{size_is}

-- The writer at this place is chosen for a call that it accepts, and its producer's chunks are what a helper takes.
pub record IsChosen {T W S : Type 0} (means : Meaning T W S) (host : Host T W S) (place : ℕ) (call : Call) (core : WriterCore W)
    (producer : ℕ) : Type 0 where
  pub was : IsHost means host
  pub laid : IsLaid (means.setup host.table)
  pub at : slice_get host.writers.items place ≡ Some core
  pub seated : IsSeated means host.table place core
  pub producer_is : producer ≡ producer_of (means.setup host.table) place
  pub coming : List Call
  pub next : IsReadyFor (payload_at (means.setup host.table) place) (means.view host.table core.seat) (call ∷ coming)

pub chosen : {T W S : Type 0} (means : Meaning T W S) (host : Host T W S) (place : ℕ) (call : Call) (core : WriterCore W)
    (spec : WriterSpec) (coming : ℕ → List Call)
    → IsHost means host → IsLaid (means.setup host.table) → place < length (means.setup host.table).writers
    → core ≡ get_or host.writers.items place core → spec ≡ get_or host.specs.items place spec
    → AreReady means host.table host.writers.items (asked_all place (call ∷ []) coming) → IsChosen means host place call core spec.producer
chosen {T} {W} {S} means host place call core spec coming was laid below core_read spec_read ready = record {
  was = was;
  laid = laid;
  at = at;
  seated = was.stands.seated place core at;
  producer_is = ap (λ (s : WriterSpec). s.producer)
      (get_or_read host.specs.items place spec inside spec_read no_writer ∙ ap (λ (ws : List WriterSpec). spec_at ws place) was.specs);
  coming = coming place;
  next = call_next (place == place) (payload_at (means.setup host.table) place) (means.view host.table core.seat) call (coming place)
      (eq-eqb place place refl)
      (ready place core at);
}
  where
    inside : place < length host.specs.items
    inside = subst (λ (ws : List WriterSpec). place < length ws) (sym was.specs) below

    at : slice_get host.writers.items place ≡ Some core
    at = slice_get-get_or host.writers.items place core (let many = was.stands.many in omega (arith, many, below)) ∙ ap Some (sym core_read)

-- the call comes next by the route that the writer has
pub chosen_ready : {T W S : Type 0} (means : Meaning T W S) (host : Host T W S) (place : ℕ) (call : Call) (core : WriterCore W)
    (producer : ℕ)
    → IsChosen means host place call core producer
    → (coming : List Call) × IsReadyFor (route_of core).payload_size (means.view host.table core.seat) (call ∷ coming)
chosen_ready means host place call core producer chosen =
    let route = route_is (means.setup host.table) place (route_of core) chosen.seated.agrees.writes.route in
    let has : HasProducer (means.setup host.table) (producer_of (means.setup host.table) place) =
    subst (λ (p : ℕ). HasProducer (means.setup host.table) p) (ap (λ (s : WriterSpec). s.producer) route)
    chosen.seated.agrees.writes.route.producer in
    let size : (route_of core).payload_size ≡ payload_at (means.setup host.table) place =
    size_is (means.setup host.table) place (means.view host.table core.seat) core.writer chosen.seated.agrees chosen.laid has in
    (chosen.coming, subst (λ (n : ℕ). IsReadyFor n (means.view host.table core.seat) (call ∷ chosen.coming)) (sym size) chosen.next)

-- the helper that takes the chunks of its producer
abbrev pub chosen_helper : {T W S : Type 0} → Host T W S → (producer : ℕ) → Collecting S
chosen_helper host producer = record { service = host.helper.service; producer = producer; asks = host.helper.asks }

module _ {T W S : Type 0} (means : Meaning T W S) (laws : AreLaws means) (old : Host T W S) (place : ℕ) (call : Call)
    (core : WriterCore W) (producer : ℕ)
    (chosen : IsChosen means old place call core producer) (new : Host T W S) (after : WriterCore W)
    (items : new.writers.items ≡ set old.writers.items place after)
    (books : KeepsBooks old new)
    (called : IsCalled means (MayHelp means) (Helps means) call (chosen_helper old producer) old.table core new.helper new.table after)
  where
    proper : IsProper call
    proper = proper_is (account_of chosen.next.asked).packets call chosen.next.accepted.0

    -- the host stands behind the call
    pub chosen_host : IsHost means new
    chosen_host = host_still means old new chosen.was
        (subst (λ (cores : List (WriterCore W)). Stands means new.table cores new.helper.service) (sym items)
        (asked_stands means laws call proper place old.table old.writers.items (chosen_helper old producer) core new.table new.helper after
        chosen.laid chosen.was.stands chosen.at chosen.producer_is called))
        (asked_keeps means laws call proper place old.table old.writers.items (chosen_helper old producer) core new.table new.helper after
        chosen.laid chosen.was.stands chosen.at chosen.producer_is called)
        books

    -- and the writer was asked for it
    pub chosen_asked : HasAsked means place (call ∷ []) old new
    chosen_asked = record {
      service = asked_keeps means laws call proper place old.table old.writers.items (chosen_helper old producer) core new.table
          new.helper after
          chosen.laid chosen.was.stands chosen.at chosen.producer_is called;
      books = books;
      ready = λ coming ready. subst (λ (cores : List (WriterCore W)). AreReady means new.table cores coming) (sym items)
          (asked_ready means laws call proper place old.table old.writers.items (chosen_helper old producer) core new.table new.helper after
          chosen.laid chosen.was.stands chosen.at chosen.producer_is called coming ready);
      plays = λ buffers. played_ask means laws buffers place call old.table new.table
          (asked_does means laws call proper place old.table old.writers.items (chosen_helper old producer) core new.table new.helper after
          chosen.laid chosen.was.stands chosen.at chosen.producer_is called);
      many = ap length items ∙ length-set old.writers.items place after;
      own = λ was is before behind.
          asked_own means laws call proper place old.table old.writers.items (chosen_helper old producer) core new.table new.helper after
          chosen.laid chosen.was.stands chosen.at chosen.producer_is called was is before
          (ap (λ (cores : List (WriterCore W)). slice_get cores place) (sym items) ∙ behind);
      others = λ other was is apart before behind.
          asked_others means laws call proper place old.table old.writers.items (chosen_helper old producer) core new.table new.helper after
          chosen.laid chosen.was.stands chosen.at chosen.producer_is called other was is apart before
          (ap (λ (cores : List (WriterCore W)). slice_get cores other) (sym items) ∙ behind);
    }

-- the writer stalled in it
pub chosen_stalls : {T W S : Type 0} (means : Meaning T W S) (laws : AreLaws means) (old : Host T W S) (place : ℕ) (call : Call)
    (core : WriterCore W) (producer : ℕ)
    (chosen : IsChosen means old place call core producer) (new : Host T W S) (after : WriterCore W)
    → new.writers.items ≡ set old.writers.items place after → KeepsBooks old new
    → FitAll (set old.writers.items place after)
    → (fault : HostFault) → fault ≡ Stalled (suc place)
    → IsStalledCall means (MayHelp means) (Helps means) call (chosen_helper old producer) old.table core new.helper new.table after
    → Stalls means place call old new fault
chosen_stalls {T} {W} {S} means laws old place call core producer chosen new after items books fits fault is stalled = record {
  fault_is = is;
  may = stalled.may;
  serves = stalled.needed.served.serves;
  service = stalled_keeps means laws call place old.table old.writers.items (chosen_helper old producer) core new.table new.helper after
      chosen.was.stands chosen.was.apart chosen.at chosen.producer_is stalled;
  books = books;
  many = ap length items ∙ length-set old.writers.items place after;
  own = λ was is before behind.
      stalled_own means laws call place old.table old.writers.items (chosen_helper old producer) core new.table new.helper after
      chosen.was.stands chosen.was.apart chosen.at chosen.producer_is stalled was is before
      (ap (λ (cores : List (WriterCore W)). slice_get cores place) (sym items) ∙ behind);
  others = λ other was is differs before behind.
      stalled_others means laws call place old.table old.writers.items (chosen_helper old producer) core new.table new.helper after
      chosen.was.stands chosen.was.apart chosen.at chosen.producer_is stalled other was is differs before
      (ap (λ (cores : List (WriterCore W)). slice_get cores other) (sym items) ∙ behind);
  told = stalled_told means laws call place old.table old.writers.items (chosen_helper old producer) core new.table new.helper after
      chosen.was.stands chosen.was.apart chosen.at chosen.producer_is stalled fits;
}
