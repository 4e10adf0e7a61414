-- A step that changes one chunk's words and slot shows the new world, where the new words and slot show the chunk and the page's others are as before.
use Rattle.std.proofs.Common.{◌≡◌, ◌≢◌, ℕ, ◌+◌, ◌<◌, inl, inr, List, length, set, get_or, subst, sym, refl, ap, ◌∙◌, arith, ⊎_elim, length-set}
use Rattle.std.specs.Int.{bit_at}
use Rattle.std.proofs.lemmas.List.{get_or-set_same, get_or-set_other, set-get_or}
use native.Mathlib.Decide.{ℕ_discrete}
use mathlib.Core.Logic.{dite}
use Rattle.page_geometry.specs.PageBits.{HasLayout, KeepsOthers}
use Rattle.chunk_plain.specs.declared.setup.Spot.{Spot}
use Rattle.chunk_plain.specs.Setup.{Setup, spot, IsLaid}
use Rattle.chunk_plain.specs.World.{World, Status, status}
use Rattle.chunk_plain.specs.Shows.{state_of, NeverAsked, IsSpare, ShowsLayout, ShowsPage, ShowsHeader, ShowsSlot, IsShown, page_word, header_word}
use Rattle.chunk_plain.specs.Stored.{Stored, nothing_stored, stored_at}

-- another chunk of the page whose word changes
pub beside : (setup : Setup) (world next : World) (at other : Spot) (old new : ℕ) (is : Status) → KeepsOthers old new at.place
    → other.place ≢ at.place → other.place < 14 → at.page ≡ other.page → at.chunks ≡ other.chunks → at.layout ≡ other.layout
    → ShowsLayout setup next at new → ((bit : ℕ) → IsSpare at.chunks bit → bit_at new bit ≡ 0)
    → ShowsPage setup world other old is → ShowsPage setup next other new is
beside setup world next at other old new is keeps apart inside same_page same_chunks same_layout layout spare was =
    record {
      state = keeps.states other.place (state_of is) inside apart was.state;
      claim = keeps.claims other.place inside apart ∙ was.claim;
      layout = ⊎_elim
          (λ has. inl (subst (λ l. HasLayout new l) same_layout has))
          (λ none. inr (none.0, subst (λ p. NeverAsked setup next p) same_page none.1))
          layout;
      spare = λ bit is_spare. spare bit (subst (λ n. IsSpare n bit) (sym same_chunks) is_spare);
    }

-- a chunk of another page
pub aside : (setup : Setup) (world next : World) (other : Spot) (word : ℕ) (is : Status) → (NeverAsked setup world other.page → NeverAsked setup next other.page)
    → ShowsPage setup world other word is → ShowsPage setup next other word is
aside setup world next other word is never was =
    record {
      state = was.state;
      claim = was.claim;
      layout = ⊎_elim (λ has. inl has) (λ none. inr (none.0, never none.1)) was.layout;
      spare = was.spare;
    }

-- the page words, where one of them changes
pages_turn : (setup : Setup) (words : List ℕ) (world next : World) (chunk page : ℕ) → IsLaid setup → length words ≡ setup.pages + length setup.spots
    → ((d : ℕ) → d < length setup.spots → ShowsPage setup world (spot setup d) (page_word setup words d) (status world d))
    → chunk < length setup.spots → ((other : ℕ) → other ≢ chunk → status next other ≡ status world other)
    → ((number : ℕ) → number ≢ (spot setup chunk).page → NeverAsked setup world number → NeverAsked setup next number)
    → KeepsOthers (page_word setup words chunk) page (spot setup chunk).place
    → ShowsPage setup next (spot setup chunk) page (status next chunk)
    → (d : ℕ) → d < length setup.spots → ShowsPage setup next (spot setup d) (page_word setup (set words (spot setup chunk).page page) d) (status next d)
pages_turn setup words world next chunk page laid many shown inside others never keeps here d below =
    let at = spot setup chunk in
    let at_page : at.page < length words = let low = laid.page chunk inside in omega arith in
    dite (ℕ_discrete d chunk)
    (λ same. subst (λ e. ShowsPage setup next (spot setup e) (page_word setup (set words at.page page) e) (status next e)) (sym same)
    (subst (λ w. ShowsPage setup next at w (status next chunk)) (sym (get_or-set_same words at.page page 0 at_page)) here))
    (λ differs. subst (λ t. ShowsPage setup next (spot setup d) (page_word setup (set words at.page page) d) t) (sym (others d differs))
    (dite (ℕ_discrete (spot setup d).page at.page)
    (λ same_page.
    subst (λ w. ShowsPage setup next (spot setup d) w (status world d)) (sym (ap (λ q. get_or (set words at.page page) q 0) same_page ∙ get_or-set_same words at.page page 0 at_page))
    (beside setup world next at (spot setup d) (page_word setup words chunk) page (status world d) keeps
    (λ same_place. differs (laid.apart d chunk below inside same_page same_place))
    (let low = laid.place d below in let most = laid.chunks d below in omega arith)
    (sym same_page)
    (laid.alike chunk d inside below (sym same_page)).0
    (laid.alike chunk d inside below (sym same_page)).1
    here.layout
    here.spare
    (subst (λ q. ShowsPage setup world (spot setup d) (get_or words q 0) (status world d)) same_page (shown d below))))
    (λ other_page.
    subst (λ w. ShowsPage setup next (spot setup d) w (status world d)) (sym (get_or-set_other words at.page (spot setup d).page page 0 other_page))
    (aside setup world next (spot setup d) (page_word setup words d) (status world d) (never (spot setup d).page other_page) (shown d below)))))

-- the words and the slot of one chunk change
pub shown_turn : (setup : Setup) (words : List ℕ) (slots : List Stored) (world next : World) (chunk page header : ℕ) (slot : Stored)
    → IsLaid setup → IsShown setup words slots world → chunk < length setup.spots → length next.chunks ≡ length world.chunks
    → ((other : ℕ) → other ≢ chunk → status next other ≡ status world other)
    → ((number : ℕ) → number ≢ (spot setup chunk).page → NeverAsked setup world number → NeverAsked setup next number)
    → KeepsOthers (page_word setup words chunk) page (spot setup chunk).place
    → ShowsPage setup next (spot setup chunk) page (status next chunk)
    → ShowsHeader setup header (status next chunk)
    → ShowsSlot setup (spot setup chunk).payload_size (status next chunk) slot
    → IsShown setup (set (set words (spot setup chunk).page page) (setup.pages + chunk) header) (set slots chunk slot) next
shown_turn setup words slots world next chunk page header slot laid shown inside same_length others never keeps here_page here_header here_slot =
    let at = spot setup chunk in
    let one = set words at.page page in
    let one_length : length one ≡ setup.pages + length setup.spots = length-set words at.page page ∙ shown.word_count in
    record {
      chunk_count = same_length ∙ shown.chunk_count;
      word_count = length-set one (setup.pages + chunk) header ∙ one_length;
      slot_count = length-set slots chunk slot ∙ shown.slot_count;
      page = λ d below.
          subst (λ w. ShowsPage setup next (spot setup d) w (status next d)) (sym (get_or-set_other one (setup.pages + chunk) (spot setup d).page header 0 (let low = laid.page d below in omega arith)))
          (pages_turn setup words world next chunk page laid shown.word_count shown.page inside others never keeps here_page d below);
      header = λ d below. dite (ℕ_discrete d chunk)
          (λ same. subst (λ e. ShowsHeader setup (get_or (set one (setup.pages + chunk) header) (setup.pages + e) 0) (status next e)) (sym same)
          (subst (λ w. ShowsHeader setup w (status next chunk)) (sym (get_or-set_same one (setup.pages + chunk) header 0 (omega arith))) here_header))
          (λ differs. subst (λ w. ShowsHeader setup w (status next d))
          (sym (get_or-set_other one (setup.pages + chunk) (setup.pages + d) header 0 (λ e. differs (omega arith)) ∙ get_or-set_other words at.page (setup.pages + d) page 0 (let low = laid.page chunk inside in omega arith)))
          (subst (λ t. ShowsHeader setup (header_word setup words d) t) (sym (others d differs)) (shown.header d below)));
      slot = λ d below. dite (ℕ_discrete d chunk)
          (λ same. subst (λ e. ShowsSlot setup (spot setup e).payload_size (status next e) (get_or (set slots chunk slot) e nothing_stored)) (sym same)
          (subst (λ b. ShowsSlot setup at.payload_size (status next chunk) b) (sym (get_or-set_same slots chunk slot nothing_stored (let deep = shown.slot_count in omega arith))) here_slot))
          (λ differs. subst (λ b. ShowsSlot setup (spot setup d).payload_size (status next d) b) (sym (get_or-set_other slots chunk d slot nothing_stored differs))
          (subst (λ t. ShowsSlot setup (spot setup d).payload_size t (stored_at slots d)) (sym (others d differs)) (shown.slot d below)));
    }

keeps_same : (word place : ℕ) → KeepsOthers word word place
keeps_same word place = record { states = λ other is below differs was. was; claims = λ other below differs. refl }

-- the page word changes, and the slot
pub shown_page : (setup : Setup) (words : List ℕ) (slots : List Stored) (world next : World) (chunk page : ℕ) (slot : Stored)
    → IsLaid setup → IsShown setup words slots world → chunk < length setup.spots → length next.chunks ≡ length world.chunks
    → ((other : ℕ) → other ≢ chunk → status next other ≡ status world other)
    → ((number : ℕ) → number ≢ (spot setup chunk).page → NeverAsked setup world number → NeverAsked setup next number)
    → KeepsOthers (page_word setup words chunk) page (spot setup chunk).place
    → ShowsPage setup next (spot setup chunk) page (status next chunk)
    → ShowsHeader setup (header_word setup words chunk) (status next chunk)
    → ShowsSlot setup (spot setup chunk).payload_size (status next chunk) slot
    → IsShown setup (set words (spot setup chunk).page page) (set slots chunk slot) next
shown_page setup words slots world next chunk page slot laid shown inside same_length others never keeps here_page here_header here_slot =
    let one = set words (spot setup chunk).page page in
    let same : get_or one (setup.pages + chunk) 0 ≡ header_word setup words chunk = get_or-set_other words (spot setup chunk).page (setup.pages + chunk) page 0 (let low = laid.page chunk inside in omega arith) in
    let back : set one (setup.pages + chunk) (header_word setup words chunk) ≡ one = ap (λ x. set one (setup.pages + chunk) x) (sym same) ∙ set-get_or one (setup.pages + chunk) 0 in
    subst (λ l. IsShown setup l (set slots chunk slot) next) back
    (shown_turn setup words slots world next chunk page (header_word setup words chunk) slot laid shown inside same_length others never keeps here_page here_header here_slot)

-- the page word alone
pub shown_page_only : (setup : Setup) (words : List ℕ) (slots : List Stored) (world next : World) (chunk page : ℕ)
    → IsLaid setup → IsShown setup words slots world → chunk < length setup.spots → length next.chunks ≡ length world.chunks
    → ((other : ℕ) → other ≢ chunk → status next other ≡ status world other)
    → ((number : ℕ) → number ≢ (spot setup chunk).page → NeverAsked setup world number → NeverAsked setup next number)
    → KeepsOthers (page_word setup words chunk) page (spot setup chunk).place
    → ShowsPage setup next (spot setup chunk) page (status next chunk)
    → ShowsHeader setup (header_word setup words chunk) (status next chunk)
    → ShowsSlot setup (spot setup chunk).payload_size (status next chunk) (stored_at slots chunk)
    → IsShown setup (set words (spot setup chunk).page page) slots next
shown_page_only setup words slots world next chunk page laid shown inside same_length others never keeps here_page here_header here_slot =
    subst (λ l. IsShown setup (set words (spot setup chunk).page page) l next) (set-get_or slots chunk nothing_stored)
    (shown_page setup words slots world next chunk page (stored_at slots chunk) laid shown inside same_length others never keeps here_page here_header here_slot)

-- the header word alone
pub shown_header : (setup : Setup) (words : List ℕ) (slots : List Stored) (world next : World) (chunk header : ℕ)
    → IsLaid setup → IsShown setup words slots world → chunk < length setup.spots → length next.chunks ≡ length world.chunks
    → ((other : ℕ) → other ≢ chunk → status next other ≡ status world other)
    → ((number : ℕ) → number ≢ (spot setup chunk).page → NeverAsked setup world number → NeverAsked setup next number)
    → ShowsPage setup next (spot setup chunk) (page_word setup words chunk) (status next chunk)
    → ShowsHeader setup header (status next chunk)
    → ShowsSlot setup (spot setup chunk).payload_size (status next chunk) (stored_at slots chunk)
    → IsShown setup (set words (setup.pages + chunk) header) slots next
shown_header setup words slots world next chunk header laid shown inside same_length others never here_page here_header here_slot =
    subst (λ l. IsShown setup (set words (setup.pages + chunk) header) l next) (set-get_or slots chunk nothing_stored)
    (subst (λ l. IsShown setup (set l (setup.pages + chunk) header) (set slots chunk (stored_at slots chunk)) next) (set-get_or words (spot setup chunk).page 0)
    (shown_turn setup words slots world next chunk (page_word setup words chunk) header (stored_at slots chunk) laid shown inside same_length others never (keeps_same (page_word setup words chunk) (spot setup chunk).place) here_page here_header here_slot))

-- the slot alone
pub shown_slot : (setup : Setup) (words : List ℕ) (slots : List Stored) (world next : World) (chunk : ℕ) (slot : Stored)
    → IsLaid setup → IsShown setup words slots world → chunk < length setup.spots → length next.chunks ≡ length world.chunks
    → ((other : ℕ) → other ≢ chunk → status next other ≡ status world other)
    → ((number : ℕ) → number ≢ (spot setup chunk).page → NeverAsked setup world number → NeverAsked setup next number)
    → ShowsPage setup next (spot setup chunk) (page_word setup words chunk) (status next chunk)
    → ShowsHeader setup (header_word setup words chunk) (status next chunk)
    → ShowsSlot setup (spot setup chunk).payload_size (status next chunk) slot
    → IsShown setup words (set slots chunk slot) next
shown_slot setup words slots world next chunk slot laid shown inside same_length others never here_page here_header here_slot =
    subst (λ l. IsShown setup l (set slots chunk slot) next) (set-get_or words (spot setup chunk).page 0)
    (shown_page setup words slots world next chunk (page_word setup words chunk) slot laid shown inside same_length others never (keeps_same (page_word setup words chunk) (spot setup chunk).place) here_page here_header here_slot)
