-- What words that spell a command are.
use Rattle.std.proofs.Common.{◌≡◌, ℕ, ◌<◌, ◌≤◌, ◌^◌, ◌==◌, false, List, [], ◌∷◌, length, slice_index_or, codes, decimal, refl, sym, ◌∙◌, ap}
use Rattle.std.proofs.lemmas.Bool.{eq-eqb, true≢false}
use Rattle.std.specs.Str.{bytes_eq}
use Rattle.std.specs.Result.{result_ok}
use Rattle.std.proofs.lemmas.Slice.Eq.{bytes_eq-Decides}
use Rattle.std.proofs.Common.{Result, Ok, true, unwrap_or}
use Rattle.trace_base.specs.declared.limits.TheConstants.{MAX_GENERATED_WRITERS, MAX_GENERATED_PACKETS}
use Rattle.layout_tuner.specs.declared.table.TheConstants.{MAX_USERS}
use Rattle.tune_run.specs.declared.turns.TheConstants.{MAX_TURNS}
use Rattle.command_words.specs.declared.command.Command.{Command}
use Rattle.command_words.specs.declared.command.Command.TheVariants.{Replay, Run, Read, Check, Gen, Stream, Clone, Tune}
use Rattle.command_words.specs.Commands.{Spells}

-- these three texts are the numbers of a workload
pub record AreNumbers (number writers packets : List ℕ) : Type 0 where
  pub first : ℕ
  pub number_is : number ≡ decimal first
  pub small : first < 2 ^ 64
  pub second : ℕ
  pub writers_are : writers ≡ decimal second
  pub some_writer : 1 ≤ second
  pub few_writers : second ≤ MAX_GENERATED_WRITERS
  pub third : ℕ
  pub packets_are : packets ≡ decimal third
  pub some_packet : 1 ≤ third
  pub few_packets : third ≤ MAX_GENERATED_PACKETS

pub other_length : {A : Type 0} (xs ys : List A) → (length xs == length ys) ≡ false → xs ≡ ys → ⊥
other_length xs ys other same = true≢false (sym (eq-eqb (length xs) (length ys) (ap length same)) ∙ other)

-- four words spell a workload alone
pub four_words : (name number writers packets : List ℕ) (command : Command) → Spells (name ∷ number ∷ writers ∷ packets ∷ []) command
    → (name ≡ codes "gen") × AreNumbers number writers packets
four_words name number writers packets Replay (words, within) = absurd (other_length _ _ refl words)
four_words name number writers packets Run (words, within) = absurd (other_length _ _ refl words)
four_words name number writers packets Read (words, within) = absurd (other_length _ _ refl words)
four_words name number writers packets Check (words, within) = absurd (other_length _ _ refl words)
four_words name number writers packets Stream (words, within) = absurd (other_length _ _ refl words)
four_words name number writers packets Clone (words, within) = absurd (other_length _ _ refl words)
four_words name number writers packets (Tune users turns) (words, within) = absurd (other_length _ _ refl words)
four_words name number writers packets (Gen first second third) (words, (small, some_writer, few_writers, some_packet, few_packets)) = (
  ap (λ (ws : List (List ℕ)). slice_index_or ws 0 []) words,
  record {
    first = first;
    number_is = ap (λ (ws : List (List ℕ)). slice_index_or ws 1 []) words;
    small = small;
    second = second;
    writers_are = ap (λ (ws : List (List ℕ)). slice_index_or ws 2 []) words;
    some_writer = some_writer;
    few_writers = few_writers;
    third = third;
    packets_are = ap (λ (ws : List (List ℕ)). slice_index_or ws 3 []) words;
    some_packet = some_packet;
    few_packets = few_packets;
  },
)

-- these two texts are the numbers of a run on pages that are partitioned anew
pub record AreTurns (users turns : List ℕ) : Type 0 where
  pub first : ℕ
  pub users_are : users ≡ decimal first
  pub some_user : 1 ≤ first
  pub few_users : first ≤ MAX_USERS
  pub second : ℕ
  pub turns_are : turns ≡ decimal second
  pub some_turn : 1 ≤ second
  pub few_turns : second ≤ MAX_TURNS

-- three words spell such a run alone
pub three_words : (name users turns : List ℕ) (command : Command) → Spells (name ∷ users ∷ turns ∷ []) command → (name ≡ codes "tune") × AreTurns users turns
three_words name users turns Replay (words, within) = absurd (other_length _ _ refl words)
three_words name users turns Run (words, within) = absurd (other_length _ _ refl words)
three_words name users turns Read (words, within) = absurd (other_length _ _ refl words)
three_words name users turns Check (words, within) = absurd (other_length _ _ refl words)
three_words name users turns Stream (words, within) = absurd (other_length _ _ refl words)
three_words name users turns Clone (words, within) = absurd (other_length _ _ refl words)
three_words name users turns (Gen first second third) (words, within) = absurd (other_length _ _ refl words)
three_words name users turns (Tune first second) (words, (some_user, few_users, some_turn, few_turns)) = (
  ap (λ (ws : List (List ℕ)). slice_index_or ws 0 []) words,
  record {
    first = first;
    users_are = ap (λ (ws : List (List ℕ)). slice_index_or ws 1 []) words;
    some_user = some_user;
    few_users = few_users;
    second = second;
    turns_are = ap (λ (ws : List (List ℕ)). slice_index_or ws 2 []) words;
    some_turn = some_turn;
    few_turns = few_turns;
  },
)

-- a text is the same as itself
pub same_text : (one other : List ℕ) → one ≡ other → bytes_eq one other ≡ true
same_text one other same = (bytes_eq-Decides one other).1 same

-- an answer is one answer
pub ok_same : {T E : Type 0} (one other : T) (answer : Result T E) → answer ≡ Ok one → answer ≡ Ok other → one ≡ other
ok_same {T} {E} one other answer first second = ap (λ (a : Result T E). unwrap_or (result_ok a) one) (sym first ∙ second)
