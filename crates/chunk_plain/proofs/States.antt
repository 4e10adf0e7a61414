-- What the state bits of a page word say of a chunk's status.
use Rattle.std.proofs.Common.{◌≡◌, ℕ, ◌⊎◌, inl, inr, refl, arith}
use Rattle.page_geometry.specs.PageBits.{HasState}
use Rattle.page_geometry.specs.declared.chunk_state.ChunkState.TheVariants as state
use Rattle.chunk_plain.specs.Views.{Draft, Content}
use Rattle.chunk_plain.specs.World.{Status, Unclaimed, Claimed, Stamped, Writing, Ready, Reading}
use Rattle.chunk_plain.specs.Shows.{state_of, claim_of}

-- a claimed chunk that is free in its page word
pub claimed_free : (is : Status) (word place : ℕ) → HasState word place (state_of is) → HasState word place state.Free → claim_of is ≡ 1 → ((k : ℕ) × (is ≡ Claimed k)) ⊎ ((k position : ℕ) × (is ≡ Stamped k position))
claimed_free Unclaimed word place has free one = absurd (omega arith)
claimed_free (Claimed k) word place has free one = inl (k, refl)
claimed_free (Stamped k i) word place has free one = inr (k, i, refl)
claimed_free (Writing k i h) word place has free one = absurd (let low = has.low in let low' = free.low in omega arith)
claimed_free (Ready k i m) word place has free one = absurd (let low = has.low in let low' = free.low in omega arith)
claimed_free (Reading k i m) word place has free one = absurd (let high = has.high in let high' = free.high in omega arith)

pub writing_status : (is : Status) (word place : ℕ) → HasState word place (state_of is) → HasState word place state.BeingWritten → (k position : ℕ) × (draft : Draft) × (is ≡ Writing k position draft)
writing_status Unclaimed word place has free = absurd (let low = has.low in let low' = free.low in omega arith)
writing_status (Claimed k) word place has free = absurd (let low = has.low in let low' = free.low in omega arith)
writing_status (Stamped k i) word place has free = absurd (let low = has.low in let low' = free.low in omega arith)
writing_status (Writing k i h) word place has free = (k, i, h, refl)
writing_status (Ready k i m) word place has free = absurd (let high = has.high in let high' = free.high in omega arith)
writing_status (Reading k i m) word place has free = absurd (let high = has.high in let high' = free.high in omega arith)

pub reading_status : (is : Status) (word place : ℕ) → HasState word place (state_of is) → HasState word place state.BeingRead → (k position : ℕ) × (content : Content) × (is ≡ Reading k position content)
reading_status Unclaimed word place has free = absurd (let high = has.high in let high' = free.high in omega arith)
reading_status (Claimed k) word place has free = absurd (let high = has.high in let high' = free.high in omega arith)
reading_status (Stamped k i) word place has free = absurd (let high = has.high in let high' = free.high in omega arith)
reading_status (Writing k i h) word place has free = absurd (let high = has.high in let high' = free.high in omega arith)
reading_status (Ready k i m) word place has free = absurd (let low = has.low in let low' = free.low in omega arith)
reading_status (Reading k i m) word place has free = (k, i, m, refl)

-- a chunk whose state is complete is ready
pub ready_status : (is : Status) (word place : ℕ) → HasState word place (state_of is) → HasState word place state.Complete → (k : ℕ) × (position : ℕ) × (content : Content) × (is ≡ Ready k position content)
ready_status Unclaimed word place has complete = absurd (let low = has.low in let low' = complete.low in omega arith)
ready_status (Claimed k) word place has complete = absurd (let low = has.low in let low' = complete.low in omega arith)
ready_status (Stamped k i) word place has complete = absurd (let low = has.low in let low' = complete.low in omega arith)
ready_status (Writing k i h) word place has complete = absurd (let high = has.high in let high' = complete.high in omega arith)
ready_status (Ready k i m) word place has complete = (k, i, m, refl)
ready_status (Reading k i m) word place has complete = absurd (let low = has.low in let low' = complete.low in omega arith)
