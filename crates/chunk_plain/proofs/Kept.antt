-- Each call of the table of one thread keeps what the table keeps.
use Rattle.std.proofs.Common.{◌≡◌, ◌≢◌, ℕ, ◌+◌, ◌<◌, ◌⊎◌, ◌↔◌, inl, inr, not, IsTrue, Bool, true, false, List, [], ◌∷◌, ◌++◌, length, set, get_or, subst, sym, refl, ap, ◌∙◌, arith, ⊎_elim, length-set}
use Rattle.std.specs.Int.{bit_at}
use Rattle.std.proofs.lemmas.List.{get_or-set_same, get_or-set_other, set-get_or}
use Rattle.page_geometry.specs.PageBits.{HasLayout, Claims, KeepsOthers, IsClaimed}
use Rattle.chunk_plain.specs.declared.setup.Spot.{Spot}
use Rattle.chunk_plain.specs.declared.step.Step.TheVariants.{Claim}
use Rattle.chunk_plain.specs.Setup.{Setup, spot, IsLaid, IsChunkOf, producer_of}
use Rattle.chunk_plain.specs.Views.{At, Ask, WriterView, ServiceView, newcomer}
use Rattle.chunk_plain.specs.World.{World, Status, Unclaimed, Claimed, Stamped, Writing, Ready, Reading, status, writer}
use Rattle.chunk_plain.specs.Steps.{claims}
use Rattle.chunk_plain.specs.Owned.{IsOwned}
use Rattle.chunk_plain.specs.Shows.{state_of, claim_of, NeverAsked, ShowsPage, ShowsHeader, ShowsSlot, page_word, header_word}
use Rattle.chunk_plain.specs.Stored.{Stored, stored_at}
use Rattle.chunk_plain.specs.Plain.{world_after, IsKept}
use Rattle.chunk_plain.specs.Words.{AskTheirOwn}
use Rattle.chunk_plain.proofs.Lists.{changed, at_more}
use Rattle.chunk_plain.proofs.WriterSteps.{claims_owned, misses_owned}
use Rattle.chunk_plain.proofs.PageSteps.{claims_page}
use Rattle.chunk_plain.proofs.Shown.{shown_page_only}

-- where one writer's claims are as before, or one more is about a chunk of another page, no claim was made in the page
pub never_more : (setup : Setup) (world : World) (place chunk : ℕ) (view : WriterView) (chunks : List Status) (service : ServiceView) → place < length world.writers
    → ((i : ℕ) (ask : Ask) → At view.asked i ask → At (writer world place).asked i ask ⊎ (ask.chunk ≡ chunk))
    → (number : ℕ) → number ≢ (spot setup chunk).page → NeverAsked setup world number → NeverAsked setup (record { chunks = chunks; writers = set world.writers place view; service = service }) number
never_more setup world place chunk view chunks service inside back number other never u i ask =
    changed (λ (v : WriterView). At v.asked i ask → (spot setup ask.chunk).page ≡ number → ⊥) world.writers place u view newcomer inside
    (λ _ at same. ⊎_elim (λ old. never place i ask old same) (λ new. other (sym same ∙ ap (λ c. (spot setup c).page) new)) (back i ask at))
    (λ _ at same. never u i ask at same)

-- a writer's claims are as before
pub never_same : (setup : Setup) (world : World) (place : ℕ) (view : WriterView) (chunks : List Status) (service : ServiceView) → place < length world.writers
    → view.asked ≡ (writer world place).asked
    → (number : ℕ) → NeverAsked setup world number → NeverAsked setup (record { chunks = chunks; writers = set world.writers place view; service = service }) number
never_same setup world place view chunks service inside same number never u i ask =
    changed (λ (v : WriterView). At v.asked i ask → (spot setup ask.chunk).page ≡ number → ⊥) world.writers place u view newcomer inside
    (λ _ at. never place i ask (subst (λ l. At l i ask) same at))
    (λ _ at. never u i ask at)

-- each writer's claims are of its own producer's chunks still
pub own_same : (setup : Setup) (writers : List WriterView) (place : ℕ) (view : WriterView) → place < length writers
    → view.asked ≡ (get_or writers place newcomer).asked → AskTheirOwn setup writers → AskTheirOwn setup (set writers place view)
own_same setup writers place view inside same own k i ask =
    changed (λ (v : WriterView). At v.asked i ask → IsChunkOf setup (producer_of setup k) ask.chunk) writers place k view newcomer inside
    (λ is at. own k i ask (subst (λ p. At (get_or writers p newcomer).asked i ask) (sym is) (subst (λ l. At l i ask) same at)))
    (λ _ at. own k i ask at)

-- and so is one claim more of such a chunk
own_more : (setup : Setup) (writers : List WriterView) (place : ℕ) (view : WriterView) (more : Ask) → place < length writers
    → view.asked ≡ (get_or writers place newcomer).asked ++ more ∷ [] → IsChunkOf setup (producer_of setup place) more.chunk → AskTheirOwn setup writers
    → AskTheirOwn setup (set writers place view)
own_more setup writers place view more inside asks of own k i ask =
    changed (λ (v : WriterView). At v.asked i ask → IsChunkOf setup (producer_of setup k) ask.chunk) writers place k view newcomer inside
    (λ is at. ⊎_elim (λ old. own k i ask (subst (λ p. At (get_or writers p newcomer).asked i ask) (sym is) old))
    (λ new. subst (λ (a : Ask). IsChunkOf setup (producer_of setup k) a.chunk) new.1 (subst (λ p. IsChunkOf setup (producer_of setup p) more.chunk) (sym is) of))
    (at_more (get_or writers place newcomer).asked more ask i (subst (λ l. At l i ask) asks at)))
    (λ _ at. own k i ask at)

pub claim_bit_free : (word place : ℕ) (is : Status) → bit_at word (32 + place) ≡ claim_of is → (bit_at word (32 + place) ≡ 1 → ⊥) → is ≡ Unclaimed
claim_bit_free word place Unclaimed bit clear = refl
claim_bit_free word place (Claimed k) bit clear = absurd (clear bit)
claim_bit_free word place (Stamped k i) bit clear = absurd (clear bit)
claim_bit_free word place (Writing k i h) bit clear = absurd (clear bit)
claim_bit_free word place (Ready k i m) bit clear = absurd (clear bit)
claim_bit_free word place (Reading k i m) bit clear = absurd (clear bit)

-- ---- claim

claim_won : (setup : Setup) (words : List ℕ) (slots : List Stored) (world : World) (place chunk found new : ℕ)
    → IsLaid setup → IsKept setup words slots world → place < length setup.writers → chunk < length setup.spots
    → IsChunkOf setup (producer_of setup place) chunk
    → found ≡ page_word setup words chunk
    → Claims found new (spot setup chunk).place (spot setup chunk).layout → KeepsOthers found new (spot setup chunk).place
    → (IsClaimed found (spot setup chunk).place → ⊥)
    → IsKept setup (set words (spot setup chunk).page new) slots (world_after world (Claim place chunk found true))
claim_won setup words slots world place chunk found new laid kept inside_w inside_c of is step keeps clear =
    let shown = kept.shown in let at = spot setup chunk in
    let w_inside : place < length world.writers = let many = kept.writers in omega arith in
    let c_inside : chunk < length world.chunks = let many = shown.chunk_count in omega arith in
    let page : ShowsPage setup world at found (status world chunk) = subst (λ w. ShowsPage setup world at w (status world chunk)) (sym is) (shown.page chunk inside_c) in
    let free : status world chunk ≡ Unclaimed = claim_bit_free found at.place (status world chunk) page.claim clear in
    let v = writer world place in
    let next = world_after world (Claim place chunk found true) in
    let now : status next chunk ≡ Claimed place = get_or-set_same world.chunks chunk (Claimed place) Unclaimed c_inside in
    let ask : Ask = record { chunk = chunk; found = found; won = true; calls = length v.calls } in
    let before : ShowsSlot setup at.payload_size Unclaimed (stored_at slots chunk) = subst (λ t. ShowsSlot setup at.payload_size t (stored_at slots chunk)) free (shown.slot chunk inside_c) in
    record {
      shown = shown_page_only setup words slots world next chunk new laid shown inside_c
          (length-set world.chunks chunk (Claimed place))
          (λ other differs. get_or-set_other world.chunks chunk other (Claimed place) Unclaimed differs)
          (never_more setup world place chunk (claims v chunk found true) (set world.chunks chunk (Claimed place)) world.service w_inside
          (λ i old at_old. ⊎_elim (λ before. inl before) (λ fresh. inr (sym (ap (λ (a : Ask). a.chunk) fresh.1))) (at_more v.asked ask old i at_old)))
          (subst (λ w. KeepsOthers w new at.place) is keeps)
          (subst (λ t. ShowsPage setup next at new t) (sym now)
          (claims_page setup world next at found new (status world chunk) (Claimed place) (laid.place chunk inside_c) (laid.chunks chunk inside_c) step (ap state_of (sym free)) refl page))
          (subst (λ t. ShowsHeader setup (header_word setup words chunk) t) (sym now) tt)
          (subst (λ t. ShowsSlot setup at.payload_size t (stored_at slots chunk)) (sym now) (record { room = before.room; words = tt; body = before.body }));
      owned = claims_owned world place chunk found kept.owned w_inside c_inside free;
      writers = length-set world.writers place (claims v chunk found true) ∙ kept.writers;
      own = own_more setup world.writers place (claims v chunk found true) ask w_inside refl of kept.own;
    }

claim_lost : (setup : Setup) (words : List ℕ) (slots : List Stored) (world : World) (place chunk found new : ℕ)
    → IsLaid setup → IsKept setup words slots world → place < length setup.writers → chunk < length setup.spots
    → IsChunkOf setup (producer_of setup place) chunk
    → found ≡ page_word setup words chunk
    → Claims found new (spot setup chunk).place (spot setup chunk).layout → KeepsOthers found new (spot setup chunk).place
    → IsClaimed found (spot setup chunk).place
    → IsKept setup (set words (spot setup chunk).page new) slots (world_after world (Claim place chunk found false))
claim_lost setup words slots world place chunk found new laid kept inside_w inside_c of is step keeps claimed =
    let shown = kept.shown in let at = spot setup chunk in
    let w_inside : place < length world.writers = let many = kept.writers in omega arith in
    let page : ShowsPage setup world at found (status world chunk) = subst (λ w. ShowsPage setup world at w (status world chunk)) (sym is) (shown.page chunk inside_c) in
    let one : claim_of (status world chunk) ≡ 1 = sym page.claim ∙ claimed in
    let taken : status world chunk ≡ Unclaimed → ⊥ = λ free. absurd (let none : claim_of (status world chunk) ≡ 0 = ap claim_of free in omega arith) in
    let v = writer world place in
    let next = world_after world (Claim place chunk found false) in
    let ask : Ask = record { chunk = chunk; found = found; won = false; calls = length v.calls } in
    record {
      shown = shown_page_only setup words slots world next chunk new laid shown inside_c
          refl
          (λ other differs. refl)
          (never_more setup world place chunk (claims v chunk found false) world.chunks world.service w_inside
          (λ i old at_old. ⊎_elim (λ before. inl before) (λ fresh. inr (sym (ap (λ (a : Ask). a.chunk) fresh.1))) (at_more v.asked ask old i at_old)))
          (subst (λ w. KeepsOthers w new at.place) is keeps)
          (claims_page setup world next at found new (status world chunk) (status world chunk) (laid.place chunk inside_c) (laid.chunks chunk inside_c) step refl one page)
          (shown.header chunk inside_c)
          (shown.slot chunk inside_c);
      owned = misses_owned world place chunk found kept.owned w_inside taken;
      writers = length-set world.writers place (claims v chunk found false) ∙ kept.writers;
      own = own_more setup world.writers place (claims v chunk found false) ask w_inside refl of kept.own;
    }

-- where a chunk is claimed, some writer asked for it: its page is laid out
pub laid_out : (setup : Setup) (world : World) (chunk word : ℕ) → IsOwned world → ShowsPage setup world (spot setup chunk) word (status world chunk)
    → IsClaimed word (spot setup chunk).place → HasLayout word (spot setup chunk).layout
laid_out setup world chunk word owned page claimed =
    let one : claim_of (status world chunk) ≡ 1 = sym page.claim ∙ claimed in
    let taken : status world chunk ≡ Unclaimed → ⊥ = λ free. absurd (let none : claim_of (status world chunk) ≡ 0 = ap claim_of free in omega arith) in
    let won = owned.claimed_won chunk taken in
    ⊎_elim (λ has. has) (λ never. absurd (never.1 won.0 won.1 won.2 won.3 (ap (λ c. (spot setup c).page) won.5))) page.layout

-- a claim in vain that only reads the page word: a step that sets its bits would leave it as it is
pub claim_seen : (setup : Setup) (words : List ℕ) (slots : List Stored) (world : World) (place chunk found : ℕ)
    → IsLaid setup → IsKept setup words slots world → place < length setup.writers → chunk < length setup.spots
    → IsChunkOf setup (producer_of setup place) chunk
    → found ≡ page_word setup words chunk → IsClaimed found (spot setup chunk).place
    → IsKept setup words slots (world_after world (Claim place chunk found false))
claim_seen setup words slots world place chunk found laid kept inside_w inside_c of is claimed =
    let at = spot setup chunk in
    let page : ShowsPage setup world at found (status world chunk) = subst (λ w. ShowsPage setup world at w (status world chunk)) (sym is) (kept.shown.page chunk inside_c) in
    subst (λ l. IsKept setup l slots (world_after world (Claim place chunk found false))) (ap (set words at.page) is ∙ set-get_or words at.page 0)
    (claim_lost setup words slots world place chunk found found laid kept inside_w inside_c of is
    record {
      claimed = claimed;
      laid_out = λ _. laid_out setup world chunk found kept.owned page claimed;
      states = λ bit below. refl;
      others = λ bit high differs. refl;
    }
    record { states = λ other state below differs has. has; claims = λ other below differs. refl } claimed)

by_claimed : (setup : Setup) (words : List ℕ) (slots : List Stored) (world : World) (place chunk found new : ℕ) (claimed : Bool)
    → IsLaid setup → IsKept setup words slots world → place < length setup.writers → chunk < length setup.spots
    → IsChunkOf setup (producer_of setup place) chunk
    → found ≡ page_word setup words chunk
    → Claims found new (spot setup chunk).place (spot setup chunk).layout → KeepsOthers found new (spot setup chunk).place
    → (IsTrue claimed ↔ IsClaimed found (spot setup chunk).place)
    → IsKept setup (set words (spot setup chunk).page new) slots (world_after world (Claim place chunk found (not claimed)))
by_claimed setup words slots world place chunk found new true laid kept inside_w inside_c of is step keeps tells = claim_lost setup words slots world place chunk found new laid kept inside_w inside_c of is step keeps (tells.0 refl)
by_claimed setup words slots world place chunk found new false laid kept inside_w inside_c of is step keeps tells = claim_won setup words slots world place chunk found new laid kept inside_w inside_c of is step keeps (λ bit. absurd (let no : false ≡ true = tells.1 bit in cc))

pub claim_kept : (setup : Setup) (words : List ℕ) (slots : List Stored) (world : World) (place chunk found new : ℕ) (claimed : Bool) (at : Spot) → at ≡ spot setup chunk
    → IsLaid setup → IsKept setup words slots world → place < length setup.writers → chunk < length setup.spots
    → IsChunkOf setup (producer_of setup place) chunk
    → found ≡ get_or words at.page 0
    → Claims found new at.place at.layout → KeepsOthers found new at.place
    → (IsTrue claimed ↔ IsClaimed found at.place)
    → IsKept setup (set words at.page new) slots (world_after world (Claim place chunk found (not claimed)))
claim_kept setup words slots world place chunk found new claimed at at_is laid kept inside_w inside_c of =
    subst (λ (s : Spot). found ≡ get_or words s.page 0 → Claims found new s.place s.layout → KeepsOthers found new s.place → (IsTrue claimed ↔ IsClaimed found s.place)
    → IsKept setup (set words s.page new) slots (world_after world (Claim place chunk found (not claimed)))) (sym at_is)
    (λ is step keeps tells. by_claimed setup words slots world place chunk found new claimed laid kept inside_w inside_c of is step keeps tells)
