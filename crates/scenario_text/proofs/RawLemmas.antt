-- The payload of a line `raw`, by its form.
use Rattle.std.proofs.Common.{◌≡◌, ℕ, zero, suc, ◌+◌, ◌<◌, ◌≤◌, Bool, true, false, cond, ◌&&◌, take, drop, length-drop, Option, Some, None, option_and_then, slice_get, List, [], ◌∷◌, length, refl, sym, ap, subst, ◌∙◌, arith}
use Rattle.std.proofs.lemmas.List.{drop-drop}
use Rattle.std.proofs.lemmas.Option.{slice_get_past}
use Rattle.std.specs.Option.{unwrap_or}
use Rattle.std.specs.Str.{bytes_eq}
use Rattle.std.specs.Prelude.{codes}
use Rattle.trace_base.specs.declared.numeral.Numeral.{Numeral}
use Rattle.trace_base.specs.Numerals.{numeral_of}
use Rattle.scenario_text.specs.declared.form.Form.{Form}
use Rattle.scenario_text.specs.declared.form.Form.TheVariants.{Raw}
use Rattle.scenario_text.specs.declared.form.NamedPatch.{NamedPatch}
use Rattle.scenario_text.specs.declared.form.NamedRaw.{NamedRaw}
use Rattle.scenario_text.specs.Pieces.{pieces, pieces_behind}
use Rattle.scenario_text.specs.Hex.{hex_of}
use Rattle.scenario_text.specs.RawForms.{patch_form, payload_part, raw_by, raw_words}
use Rattle.scenario_text.specs.RawChunks.{chunk_by, chunk_in, chunk_of_form, AskedChunk, IsRawLine}
use Rattle.scenario_text.specs.Forms.{is, with_number, one_word, service_form, short_form, two_words, buffer_form, three_words, producer_form, policy_form, writer_form, four_words, six_words, late_words, more_words, raw_form, long_form, form_of_words, form_of}

-- ---- no other line has this form

abbrev IsPlain : Option Form → Type 0
IsPlain (Some (Raw raw)) = ⊥
IsPlain form = Unit {0}

record IsOther (form : Option Form) : Type 0 where
  plain : IsPlain form

is_other : (form : Option Form) → IsPlain form → IsOther form
is_other form plain = record { plain = plain }

either_other : (test : Bool) (x y : Option Form) → IsOther x → IsOther y → IsOther (cond test x y)
either_other true x y one two = one
either_other false x y one two = two

number_other : (form : Numeral → Option Form) (word : List ℕ) → ((n : Numeral) → IsOther (form n)) → IsOther (with_number form word)
unfolding with_number
number_other form word other = by_number (numeral_of word)
  where
    by_number : (n : Option Numeral) → IsOther (option_and_then form n)
    by_number None = is_other _ tt
    by_number (Some n) = other n

one_other : (word : List ℕ) → IsOther (one_word word)
unfolding one_word
one_other word = either_other (is word (codes "q")) _ _ (is_other _ tt) (is_other _ tt)

service_other : (word : List ℕ) (n : Numeral) → IsOther (service_form word n)
unfolding service_form
service_other word n =
    either_other (is word (codes "c")) _ _ (is_other _ tt)
    (either_other (is word (codes "s")) _ _ (is_other _ tt)
    (either_other (is word (codes "x")) _ _ (is_other _ tt)
    (either_other (is word (codes "r")) _ _ (is_other _ tt)
    (either_other (is word (codes "k")) _ _ (is_other _ tt) (is_other _ tt)))))

short_other : (word : List ℕ) (n : Numeral) → IsOther (short_form word n)
unfolding short_form
short_other word n =
    either_other (is word (codes "p")) _ _ (is_other _ tt)
    (either_other (is word (codes "b")) _ _ (is_other _ tt)
    (either_other (is word (codes "a")) _ _ (is_other _ tt)
    (either_other (is word (codes "u")) _ _ (is_other _ tt)
    (either_other (is word (codes "e")) _ _ (is_other _ tt)
    (either_other (is word (codes "f")) _ _ (is_other _ tt) (service_other word n))))))

two_other : (word second : List ℕ) → IsOther (two_words word second)
unfolding two_words
two_other word second = number_other (short_form word) second (short_other word)

buffer_other : (policy : List ℕ) (kb : Numeral) → IsOther (buffer_form policy kb)
unfolding buffer_form
buffer_other policy kb =
    either_other (is policy (codes "ring")) _ _ (is_other _ tt)
    (either_other (is policy (codes "discard")) _ _ (is_other _ tt) (is_other _ tt))

three_other : (word second third : List ℕ) → IsOther (three_words word second third)
unfolding three_words
three_other word second third =
    either_other (is word (codes "buffer")) _ _ (number_other (buffer_form third) second (buffer_other third))
    (either_other (is word (codes "n")) _ _ (number_other _ second (λ w. number_other _ third (λ field. (is_other _ tt))))
    (either_other (is word (codes "r")) _ _ (number_other _ second (λ b. number_other _ third (λ limit. (is_other _ tt)))) (is_other _ tt)))

policy_other : (policy : List ℕ) (p b : Numeral) (from : Option Numeral) → IsOther (policy_form policy p b from)
unfolding policy_form
policy_other policy p b from =
    either_other (is policy (codes "drop")) _ _ (is_other _ tt)
    (either_other (is policy (codes "stall")) _ _ (is_other _ tt)
    (either_other (is (take 6 policy) (codes "stall:")) _ _ (number_other _ (drop 6 policy) (λ tries. (is_other _ tt))) (is_other _ tt)))

writer_other : (second third fourth : List ℕ) (from : Option Numeral) → IsOther (writer_form second third fourth from)
unfolding writer_form
writer_other second third fourth from = number_other _ second (λ p. number_other _ third (λ b. policy_other fourth p b from))

producer_other : (second third fourth : List ℕ) → IsOther (producer_form second third fourth)
unfolding producer_form
producer_other second third fourth = number_other _ second (λ p. number_other _ third (λ s. number_other _ fourth (λ c. (is_other _ tt))))

four_other : (word second third fourth : List ℕ) → IsOther (four_words word second third fourth)
unfolding four_words
four_other word second third fourth =
    either_other (is word (codes "producer")) _ _ (producer_other second third fourth)
    (either_other (is word (codes "writer")) _ _ (writer_other second third fourth None) (is_other _ tt))

six_other : (word second third fourth fifth sixth : List ℕ) → IsOther (six_words word second third fourth fifth sixth)
unfolding six_words
six_other word second third fourth fifth sixth =
    either_other (is word (codes "writer") && is fifth (codes "from")) _ _
    (number_other _ sixth (λ from. writer_other second third fourth (Some from))) (is_other _ tt)

late_other : (word second third fourth : List ℕ) (others : List (List ℕ)) → IsOther (late_words word second third fourth others)
unfolding late_words
late_other word second third fourth [] = is_other _ tt
late_other word second third fourth (fifth ∷ []) = is_other _ tt
late_other word second third fourth (fifth ∷ sixth ∷ []) = six_other word second third fourth fifth sixth
late_other word second third fourth (fifth ∷ sixth ∷ seventh ∷ others) = is_other _ tt

more_other : (word second : List ℕ) (others : List (List ℕ)) → IsOther (more_words word second others)
unfolding more_words
more_other word second [] = is_other _ tt
more_other word second (third ∷ []) = three_other word second third
more_other word second (third ∷ fourth ∷ []) = four_other word second third fourth
more_other word second (third ∷ fourth ∷ fifth ∷ others) = late_other word second third fourth (fifth ∷ others)

-- ---- the payload of a line of this form

-- these words have such a payload
record HasPayload (words : List (List ℕ)) (raw : NamedRaw) : Type 0 where
  bytes : List ℕ
  there : option_and_then hex_of (slice_get words 6) ≡ Some bytes
  len : length bytes ≡ raw.len

-- how long the payload is
abbrev long : Option NamedRaw → ℕ
long None = 0
long (Some raw) = raw.len

payload_by : (raw : NamedRaw) (writer chunk_id count flags buffer : Option Numeral) (payload : Option (List ℕ))
    (patch : Option (Option NamedPatch)) → raw_by writer chunk_id count flags buffer payload patch ≡ Some raw
    → (bytes : List ℕ) × (payload ≡ Some bytes) × (length bytes ≡ raw.len)
unfolding raw_by
payload_by raw (Some w) (Some i) (Some c) (Some f) (Some b) (Some bytes) (Some patch) is =
    (bytes, refl, ap long is)
payload_by raw None i c f b payload patch is = absurd cc
payload_by raw (Some w) None c f b payload patch is = absurd cc
payload_by raw (Some w) (Some i) None f b payload patch is = absurd cc
payload_by raw (Some w) (Some i) (Some c) None b payload patch is = absurd cc
payload_by raw (Some w) (Some i) (Some c) (Some f) None payload patch is = absurd cc
payload_by raw (Some w) (Some i) (Some c) (Some f) (Some b) None patch is = absurd cc
payload_by raw (Some w) (Some i) (Some c) (Some f) (Some b) (Some bytes) None is = absurd cc

payload_words : (word writer : List ℕ) (others : List (List ℕ)) (raw : NamedRaw) → raw_words writer others ≡ Some raw
    → HasPayload (word ∷ writer ∷ others) raw
unfolding raw_words
payload_words word writer [] raw is = absurd cc
payload_words word writer (i ∷ []) raw is = absurd cc
payload_words word writer (i ∷ c ∷ []) raw is = absurd cc
payload_words word writer (i ∷ c ∷ f ∷ []) raw is = absurd cc
payload_words word writer (i ∷ c ∷ f ∷ b ∷ []) raw is = absurd cc
payload_words word writer (i ∷ c ∷ f ∷ b ∷ payload ∷ patch) raw is =
    let found = payload_by raw (numeral_of writer) (numeral_of i) (numeral_of c) (numeral_of f) (numeral_of b) (hex_of payload)
    (patch_form patch) is in
    record { bytes = found.0; there = found.1; len = found.2 }

no_other : {X : Type 0} (form : Option Form) (raw : NamedRaw) → IsOther form → form ≡ Some (Raw raw) → X
no_other form raw other is = absurd (subst IsPlain is other.plain)

raw_form_is : (words : Option NamedRaw) (raw : NamedRaw) → raw_form words ≡ Some (Raw raw) → words ≡ Some raw
unfolding raw_form
raw_form_is None raw is = absurd cc
raw_form_is (Some found) raw is = cc

payload_long : (packet add raw_is : Bool) (word writer : List ℕ) (others : List (List ℕ)) (one two three : Option Form) (raw : NamedRaw)
    → IsOther one → IsOther two → IsOther three
    → cond packet one (cond add two (cond raw_is (raw_form (raw_words writer others)) three)) ≡ Some (Raw raw)
    → HasPayload (word ∷ writer ∷ others) raw
payload_long true add raw_is word writer others one two three raw o t h is = no_other one raw o is
payload_long false true raw_is word writer others one two three raw o t h is = no_other two raw t is
payload_long false false true word writer others one two three raw o t h is =
    payload_words word writer others raw (raw_form_is (raw_words writer others) raw is)
payload_long false false false word writer others one two three raw o t h is = no_other three raw h is

has_payload : (words : List (List ℕ)) (raw : NamedRaw) → form_of_words words ≡ Some (Raw raw) → HasPayload words raw
unfolding form_of_words long_form
has_payload [] raw is = absurd cc
has_payload (word ∷ []) raw is = no_other (one_word word) raw (one_other word) is
has_payload (word ∷ second ∷ []) raw is = no_other (two_words word second) raw (two_other word second) is
has_payload (word ∷ second ∷ third ∷ others) raw is =
    payload_long (bytes_eq word (codes "p")) (bytes_eq word (codes "a")) (bytes_eq word (codes "raw")) word second (third ∷ others)
    _ _ _ raw (number_other _ second (λ w. (is_other _ tt))) (number_other _ second (λ w. (is_other _ tt)))
    (more_other word second (third ∷ others)) is

pub payload_is : (line : List ℕ) (raw : NamedRaw) → form_of line ≡ Some (Raw raw) → length (payload_part line) ≡ raw.len
payload_is line raw is =
    let has = has_payload (pieces 32 line) raw is in
    ap (λ (found : Option (List ℕ)). length (unwrap_or found [])) has.there ∙ has.len

-- a word that says the payload, where the line has it as its seventh
pub payload_said : (line word : List ℕ) (raw : NamedRaw) → form_of line ≡ Some (Raw raw) → slice_get (pieces 32 line) 6 ≡ Some word
    → hex_of word ≡ Some (payload_part line)
payload_said line word raw is there =
    let has = has_payload (pieces 32 line) raw is in
    let said : hex_of word ≡ Some has.bytes = ap (option_and_then hex_of) (sym there) ∙ has.there in
    said ∙ ap Some (sym (ap (λ (found : Option (List ℕ)). unwrap_or found []) has.there))

-- ---- the words in front of it are passed over

-- the words behind one more
pub words_behind : (line rest word behind : List ℕ) (at : ℕ) → pieces 32 rest ≡ drop at (pieces 32 line)
    → pieces 32 rest ≡ word ∷ pieces_behind 32 (Some behind) → pieces 32 behind ≡ drop (at + 1) (pieces 32 line)
unfolding pieces_behind
words_behind line rest word behind at left cut =
    ap (drop 1) (sym cut ∙ left) ∙ drop-drop 1 at (pieces 32 line)

first_left : {X : Type 0} (words : List X) (at : ℕ) (word : X) (others : List X) → drop at words ≡ word ∷ others
    → slice_get words at ≡ Some word
first_left [] zero word others is = absurd cc
first_left [] (suc at) word others is = absurd cc
first_left (first ∷ words) zero word others is = cc
first_left (first ∷ words) (suc at) word others is = first_left words at word others is

-- the word behind six others says the payload
pub payload_word_says : (line rest word : List ℕ) (more : Option (List ℕ)) → IsRawLine line → pieces 32 rest ≡ drop 6 (pieces 32 line)
    → pieces 32 rest ≡ word ∷ pieces_behind 32 more → hex_of word ≡ Some (payload_part line)
payload_word_says line rest word more asks left cut =
    payload_said line word asks.raw asks.form (first_left (pieces 32 line) 6 word (pieces_behind 32 more) (sym left ∙ cut))

none_there : {X : Type 0} (words : List X) (at : ℕ) (word : X) → at < 6 → drop at words ≡ word ∷ [] → slice_get words 6 ≡ None
none_there {X = X} words at word few left =
    let len : length words ≤ at + 1 = omega (arith, length-drop at words, ap (λ (ws : List X). length ws) left) in
    slice_get_past words 6 (omega arith)

-- there is such a word
pub payload_there : {X : Type 0} (line rest word : List ℕ) (at : ℕ) → IsRawLine line → at < 6 → pieces 32 rest ≡ drop at (pieces 32 line)
    → pieces 32 rest ≡ word ∷ pieces_behind 32 None → X
unfolding pieces_behind
payload_there line rest word at asks few left cut =
    let has = has_payload (pieces 32 line) asks.raw asks.form in
    let none : slice_get (pieces 32 line) 6 ≡ None = none_there (pieces 32 line) at word few (sym left ∙ cut) in
    let missing : None ≡ Some has.bytes = sym (ap (option_and_then hex_of) none) ∙ has.there in
    absurd cc

-- ---- the chunk of a line of this form

pub chunk_is : (line : List ℕ) (raw : NamedRaw) → form_of line ≡ Some (Raw raw) → chunk_in line ≡ chunk_by raw (payload_part line)
unfolding chunk_in chunk_of_form
chunk_is line raw is = ap (λ (form : Option Form). chunk_of_form form (payload_part line)) is

pub payload_in : (line : List ℕ) (chunk : AskedChunk) → IsRawLine line → chunk_in line ≡ chunk → payload_part line ≡ chunk.payload
unfolding chunk_by
payload_in line chunk asks same =
    sym (ap (λ (found : AskedChunk). found.payload) (chunk_is line asks.raw asks.form)) ∙ ap (λ (found : AskedChunk). found.payload) same
