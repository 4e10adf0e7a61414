-- What each kind of step makes of a page word, for the chunk that it is about.
use Rattle.std.proofs.Common.{◌≡◌, ◌≢◌, ℕ, ◌+◌, ◌*◌, ◌<◌, ◌≤◌, ◌⊎◌, inl, inr, subst, sym, ◌∙◌, arith, ⊎_elim}
use Rattle.page_geometry.specs.PageBits.{HasState, HasLayout, SetsState, Claims, Releases}
use Rattle.chunk_plain.specs.declared.setup.Spot.{Spot}
use Rattle.chunk_plain.specs.Setup.{Setup}
use Rattle.chunk_plain.specs.World.{World, Status, Unclaimed}
use Rattle.chunk_plain.specs.Shows.{state_of, claim_of, NeverAsked, IsSpare, ShowsPage}

-- the layout bits and the spare bits of a page lie outside the state bits and the claim bit of each of its chunks
spare_apart : (chunks place bit : ℕ) → place < chunks → chunks ≤ 14 → IsSpare chunks bit → (bit ≢ 2 * place) × (bit ≢ 2 * place + 1) × (bit ≢ 32 + place)
spare_apart chunks place bit inside most spare =
    ⊎_elim (λ low. ((λ e. omega arith), (λ e. omega arith), (λ e. omega arith)))
    (λ rest. ⊎_elim (λ middle. ((λ e. omega arith), (λ e. omega arith), (λ e. omega arith))) (λ high. ((λ e. omega arith), (λ e. omega arith), (λ e. omega arith))) rest)
    spare

-- a claim: the chunk's claim bit and the layout are set
pub claims_page : (setup : Setup) (world next : World) (at : Spot) (old new : ℕ) (was is : Status) → at.place < at.chunks → at.chunks ≤ 14
    → Claims old new at.place at.layout → state_of is ≡ state_of was → claim_of is ≡ 1
    → ShowsPage setup world at old was → ShowsPage setup next at new is
claims_page setup world next at old new was is inside most step same_state claimed shown =
    record {
      state = subst (HasState new at.place) (sym same_state)
          record { low = step.states (2 * at.place) (omega arith) ∙ shown.state.low; high = step.states (2 * at.place + 1) (omega arith) ∙ shown.state.high };
      claim = step.claimed ∙ sym claimed;
      layout = inl (step.laid_out (⊎_elim (λ has. inr has) (λ none. inl none.0) shown.layout));
      spare = λ bit spare. let apart = spare_apart at.chunks at.place bit inside most spare in
          ⊎_elim (λ (low : (2 * at.chunks ≤ bit) × (bit < 28)). step.states bit low.1) (λ (rest : (bit ≡ 31) ⊎ (32 + at.chunks ≤ bit)). step.others bit (⊎_elim (λ middle. omega arith) (λ high. omega arith) rest) apart.2) spare
          ∙ shown.spare bit spare;
    }

-- the chunk gets another state
pub sets_page : (setup : Setup) (world next : World) (at : Spot) (old new : ℕ) (was is : Status) → at.place < at.chunks → at.chunks ≤ 14
    → SetsState old new at.place (state_of is) → claim_of is ≡ claim_of was → (NeverAsked setup world at.page → NeverAsked setup next at.page)
    → ShowsPage setup world at old was → ShowsPage setup next at new is
sets_page setup world next at old new was is inside most step same_claim never shown =
    let layout_kept : (number : ℕ) → HasLayout old number → HasLayout new number = λ number has bit below. step.others (28 + bit) (omega arith) (omega arith) ∙ has bit below in
    record {
      state = step.here;
      claim = step.others (32 + at.place) (omega arith) (omega arith) ∙ (shown.claim ∙ sym same_claim);
      layout = ⊎_elim (λ has. inl (layout_kept at.layout has)) (λ none. inr (layout_kept 0 none.0, never none.1)) shown.layout;
      spare = λ bit spare. let apart = spare_apart at.chunks at.place bit inside most spare in step.others bit apart.0 apart.1 ∙ shown.spare bit spare;
    }

-- the chunk is given back
pub releases_page : (setup : Setup) (world next : World) (at : Spot) (old new : ℕ) (was : Status) → at.place < at.chunks → at.chunks ≤ 14
    → Releases old new at.place → (NeverAsked setup world at.page → NeverAsked setup next at.page)
    → ShowsPage setup world at old was → ShowsPage setup next at new Unclaimed
releases_page setup world next at old new was inside most step never shown =
    let layout_kept : (number : ℕ) → HasLayout old number → HasLayout new number = λ number has bit below. step.others (28 + bit) (omega arith) (omega arith) (omega arith) ∙ has bit below in
    record {
      state = step.free;
      claim = step.unclaimed;
      layout = ⊎_elim (λ has. inl (layout_kept at.layout has)) (λ none. inr (layout_kept 0 none.0, never none.1)) shown.layout;
      spare = λ bit spare. let apart = spare_apart at.chunks at.place bit inside most spare in step.others bit apart.0 apart.1 apart.2 ∙ shown.spare bit spare;
    }

-- the page word is as before
pub same_page : (setup : Setup) (world next : World) (at : Spot) (word : ℕ) (was is : Status) → state_of is ≡ state_of was → claim_of is ≡ claim_of was
    → (NeverAsked setup world at.page → NeverAsked setup next at.page) → ShowsPage setup world at word was → ShowsPage setup next at word is
same_page setup world next at word was is same_state same_claim never shown =
    record {
      state = subst (HasState word at.place) (sym same_state) shown.state;
      claim = shown.claim ∙ sym same_claim;
      layout = ⊎_elim (λ has. inl has) (λ none. inr (none.0, never none.1)) shown.layout;
      spare = shown.spare;
    }
