-- Words spell one command at most.
use Rattle.std.proofs.Common.{◌≡◌, ℕ, ◌==◌, false, List, [], length, slice_index_or, refl, sym, ◌∙◌, ap, arith}
use Rattle.std.proofs.lemmas.Bool.{eq-eqb, true≢false}
use Rattle.std.proofs.lemmas.Fmt.{decimal_injective}
use Rattle.command_words.specs.declared.command.Command.{Command}
use Rattle.command_words.specs.declared.command.Command.TheVariants.{Replay, Run, Read, Check, Gen, Stream, Clone, Tune}
use Rattle.command_words.specs.Commands.{Spells, WordsSpellOneCommand}
use Rattle.command_words.proofs.SpellLemmas.{other_length}

-- the first words of two lists are as long
heads : (one other : List (List ℕ)) → (length (slice_index_or one 0 []) == length (slice_index_or other 0 [])) ≡ false → one ≡ other → ⊥
heads one other long same = other_length (slice_index_or one 0 []) (slice_index_or other 0 []) long (ap (λ ws. slice_index_or ws 0 []) same)

-- or they have another second byte
seconds : (one other : List (List ℕ))
    → (slice_index_or (slice_index_or one 0 []) 1 0 == slice_index_or (slice_index_or other 0 []) 1 0) ≡ false → one ≡ other → ⊥
seconds one other unlike same =
    true≢false (sym (eq-eqb _ _ (ap (λ ws. slice_index_or (slice_index_or ws 0 []) 1 0) same)) ∙ unlike)

once : (words : List (List ℕ)) (one other : Command) → Spells words one → Spells words other → one ≡ other
once words Replay Replay (a, _) (b, _) = refl
once words Run Run (a, _) (b, _) = refl
once words Read Read (a, _) (b, _) = refl
once words Check Check (a, _) (b, _) = refl
once words Replay Read (a, _) (b, _) = absurd (heads _ _ refl (sym a ∙ b))
once words Replay Run (a, _) (b, _) = absurd (heads _ _ refl (sym a ∙ b))
once words Run Replay (a, _) (b, _) = absurd (heads _ _ refl (sym a ∙ b))
once words Run Read (a, _) (b, _) = absurd (heads _ _ refl (sym a ∙ b))
once words Read Run (a, _) (b, _) = absurd (heads _ _ refl (sym a ∙ b))
once words Run Check (a, _) (b, _) = absurd (heads _ _ refl (sym a ∙ b))
once words Check Run (a, _) (b, _) = absurd (heads _ _ refl (sym a ∙ b))
once words Run (Gen n w p) (a, _) (b, _) = absurd (other_length _ _ refl (sym a ∙ b))
once words (Gen n w p) Run (a, _) (b, _) = absurd (other_length _ _ refl (sym a ∙ b))
once words Replay Check (a, _) (b, _) = absurd (heads _ _ refl (sym a ∙ b))
once words Read Replay (a, _) (b, _) = absurd (heads _ _ refl (sym a ∙ b))
once words Read Check (a, _) (b, _) = absurd (heads _ _ refl (sym a ∙ b))
once words Check Replay (a, _) (b, _) = absurd (heads _ _ refl (sym a ∙ b))
once words Check Read (a, _) (b, _) = absurd (heads _ _ refl (sym a ∙ b))
once words Replay (Gen n w p) (a, _) (b, _) = absurd (heads _ _ refl (sym a ∙ b))
once words Read (Gen n w p) (a, _) (b, _) = absurd (heads _ _ refl (sym a ∙ b))
once words Check (Gen n w p) (a, _) (b, _) = absurd (heads _ _ refl (sym a ∙ b))
once words (Gen n w p) Replay (a, _) (b, _) = absurd (heads _ _ refl (sym a ∙ b))
once words (Gen n w p) Read (a, _) (b, _) = absurd (heads _ _ refl (sym a ∙ b))
once words (Gen n w p) Check (a, _) (b, _) = absurd (heads _ _ refl (sym a ∙ b))
once words Replay (Tune u t) (a, _) (b, _) = absurd (other_length _ _ refl (sym a ∙ b))
once words Run (Tune u t) (a, _) (b, _) = absurd (other_length _ _ refl (sym a ∙ b))
once words Read (Tune u t) (a, _) (b, _) = absurd (other_length _ _ refl (sym a ∙ b))
once words Check (Tune u t) (a, _) (b, _) = absurd (other_length _ _ refl (sym a ∙ b))
once words (Gen n w p) (Tune u t) (a, _) (b, _) = absurd (other_length _ _ refl (sym a ∙ b))
once words (Tune u t) Replay (a, _) (b, _) = absurd (other_length _ _ refl (sym a ∙ b))
once words (Tune u t) Run (a, _) (b, _) = absurd (other_length _ _ refl (sym a ∙ b))
once words (Tune u t) Read (a, _) (b, _) = absurd (other_length _ _ refl (sym a ∙ b))
once words (Tune u t) Check (a, _) (b, _) = absurd (other_length _ _ refl (sym a ∙ b))
once words (Tune u t) (Gen n w p) (a, _) (b, _) = absurd (other_length _ _ refl (sym a ∙ b))
once words Stream Stream (a, _) (b, _) = refl
once words Stream Replay (a, _) (b, _) = absurd (seconds _ _ refl (sym a ∙ b))
once words Replay Stream (a, _) (b, _) = absurd (seconds _ _ refl (sym a ∙ b))
once words Stream Run (a, _) (b, _) = absurd (heads _ _ refl (sym a ∙ b))
once words Run Stream (a, _) (b, _) = absurd (heads _ _ refl (sym a ∙ b))
once words Stream Read (a, _) (b, _) = absurd (heads _ _ refl (sym a ∙ b))
once words Read Stream (a, _) (b, _) = absurd (heads _ _ refl (sym a ∙ b))
once words Stream Check (a, _) (b, _) = absurd (heads _ _ refl (sym a ∙ b))
once words Check Stream (a, _) (b, _) = absurd (heads _ _ refl (sym a ∙ b))
once words Stream (Gen n w p) (a, _) (b, _) = absurd (other_length _ _ refl (sym a ∙ b))
once words (Gen n w p) Stream (a, _) (b, _) = absurd (other_length _ _ refl (sym a ∙ b))
once words Stream Clone (a, _) (b, _) = absurd (heads _ _ refl (sym a ∙ b))
once words Clone Stream (a, _) (b, _) = absurd (heads _ _ refl (sym a ∙ b))
once words Stream (Tune u t) (a, _) (b, _) = absurd (other_length _ _ refl (sym a ∙ b))
once words (Tune u t) Stream (a, _) (b, _) = absurd (other_length _ _ refl (sym a ∙ b))
once words Clone Clone (a, _) (b, _) = refl
once words Clone Replay (a, _) (b, _) = absurd (heads _ _ refl (sym a ∙ b))
once words Replay Clone (a, _) (b, _) = absurd (heads _ _ refl (sym a ∙ b))
once words Clone Run (a, _) (b, _) = absurd (heads _ _ refl (sym a ∙ b))
once words Run Clone (a, _) (b, _) = absurd (heads _ _ refl (sym a ∙ b))
once words Clone Read (a, _) (b, _) = absurd (heads _ _ refl (sym a ∙ b))
once words Read Clone (a, _) (b, _) = absurd (heads _ _ refl (sym a ∙ b))
once words Clone Check (a, _) (b, _) = absurd (seconds _ _ refl (sym a ∙ b))
once words Check Clone (a, _) (b, _) = absurd (seconds _ _ refl (sym a ∙ b))
once words Clone (Gen n w p) (a, _) (b, _) = absurd (other_length _ _ refl (sym a ∙ b))
once words (Gen n w p) Clone (a, _) (b, _) = absurd (other_length _ _ refl (sym a ∙ b))
once words Clone (Tune u t) (a, _) (b, _) = absurd (other_length _ _ refl (sym a ∙ b))
once words (Tune u t) Clone (a, _) (b, _) = absurd (other_length _ _ refl (sym a ∙ b))
once words (Tune u t) (Tune v s) (a, (u_some, u_few, t_some, t_few)) (b, (v_some, v_few, s_some, s_few)) =
    let same = sym a ∙ b in
    let one : u ≡ v = decimal_injective u v (omega arith) (omega arith) (ap (λ ws. slice_index_or ws 1 []) same) in
    let two : t ≡ s = decimal_injective t s (omega arith) (omega arith) (ap (λ ws. slice_index_or ws 2 []) same) in
    ap (λ x. Tune x t) one ∙ ap (λ x. Tune v x) two
once words (Gen n w p) (Gen m v q) (a, (n_small, w_some, w_few, p_some, p_few)) (b, (m_small, v_some, v_few, q_some, q_few)) =
    let same = sym a ∙ b in
    let one : n ≡ m = decimal_injective n m n_small m_small (ap (λ ws. slice_index_or ws 1 []) same) in
    let two : w ≡ v = decimal_injective w v (omega arith) (omega arith) (ap (λ ws. slice_index_or ws 2 []) same) in
    let three : p ≡ q = decimal_injective p q (omega arith) (omega arith) (ap (λ ws. slice_index_or ws 3 []) same) in
    ap (λ x. Gen x w p) one ∙ ap (λ x. Gen m x p) two ∙ ap (λ x. Gen m v x) three

pub words_spell_one_command : WordsSpellOneCommand
words_spell_one_command = once
