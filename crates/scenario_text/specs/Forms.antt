-- The forms of a line: what a scenario's table of lines has in its left column, up to a line's FIELDS.
use Rattle.std.specs.Prelude.{ℕ, Bool, true, false, ◌&&◌, Option, Some, None, option_and_then, List, [], ◌∷◌, codes, take, drop, if◌then◌else◌}
use Rattle.std.specs.Str.{bytes_eq}
use Rattle.trace_base.specs.declared.policy.FullPolicy.TheVariants.{Ring, Discard}
use Rattle.trace_base.specs.declared.numeral.Numeral.{Numeral}
use Rattle.scenario_text.specs.declared.form.Form.{Form}
use Rattle.scenario_text.specs.declared.form.NamedRaw.{NamedRaw}
use Rattle.scenario_text.specs.declared.form.NamedPolicy.TheVariants.{Drops, Stalls, StallsThenDrops}
use Rattle.scenario_text.specs.declared.form.Form.TheVariants.{Buffer, Producer, Writer, OfWriter, OfProducer, Read, Request, CloneBuffer, Raw}
use Rattle.scenario_text.specs.declared.form.WriterStep.TheVariants.{Packet, Begin, Add, Nest, Unnest, End, Flush}
use Rattle.scenario_text.specs.declared.form.ProducerStep.TheVariants.{Collect, Scrape, Close}
use Rattle.scenario_text.specs.Pieces.{pieces}
use Rattle.scenario_text.specs.RawForms.{raw_words}
use Rattle.trace_base.specs.Numerals.{numeral_of}

-- the word is this text
abbrev pub is : List ℕ → List ℕ → Bool
is word text = bytes_eq word text

-- the form that a number makes, where the word is one
unfoldable pub with_number : (Numeral → Option Form) → List ℕ → Option Form
with_number form word = option_and_then form (numeral_of word)

-- `q`
unfoldable pub one_word : List ℕ → Option Form
one_word word = if is word (codes "q") then Some Request else None

-- `c P`, `s P`, `x P`, `r B`, `k B`
unfoldable pub service_form : List ℕ → Numeral → Option Form
service_form word n =
    if is word (codes "c") then Some (OfProducer n Collect)
    else if is word (codes "s") then Some (OfProducer n Scrape)
    else if is word (codes "x") then Some (OfProducer n Close)
    else if is word (codes "r") then Some (Read n None)
    else if is word (codes "k") then Some (CloneBuffer n)
    else None

-- `p W`, `b W`, `a W`, `u W`, `e W`, `f W`, and those of the service
unfoldable pub short_form : List ℕ → Numeral → Option Form
short_form word n =
    if is word (codes "p") then Some (OfWriter n (Packet false))
    else if is word (codes "b") then Some (OfWriter n Begin)
    else if is word (codes "a") then Some (OfWriter n Add)
    else if is word (codes "u") then Some (OfWriter n Unnest)
    else if is word (codes "e") then Some (OfWriter n End)
    else if is word (codes "f") then Some (OfWriter n Flush)
    else service_form word n

-- the form of a line of two words
unfoldable pub two_words : List ℕ → List ℕ → Option Form
two_words word second = with_number (short_form word) second

-- `buffer KB ring`, `buffer KB discard`
unfoldable pub buffer_form : List ℕ → Numeral → Option Form
buffer_form policy kb =
    if is policy (codes "ring") then Some (Buffer kb Ring)
    else if is policy (codes "discard") then Some (Buffer kb Discard)
    else None

-- a buffer; `n W FIELD`; `r B N`
unfoldable pub three_words : List ℕ → List ℕ → List ℕ → Option Form
three_words word second third =
    if is word (codes "buffer") then with_number (buffer_form third) second
    else if is word (codes "n") then with_number (λ w. with_number (λ field. Some (OfWriter w (Nest field))) third) second
    else if is word (codes "r") then with_number (λ b. with_number (λ limit. Some (Read b (Some limit))) third) second
    else None

-- `producer PAGES PAGE_SIZE CHUNKS`
unfoldable pub producer_form : List ℕ → List ℕ → List ℕ → Option Form
producer_form second third fourth =
    with_number (λ pages. with_number (λ page_size. with_number (λ chunks. Some (Producer pages page_size chunks)) fourth) third) second

-- `writer PRODUCER BUFFER drop`, `writer PRODUCER BUFFER stall`, `writer PRODUCER BUFFER stall:N`, with the id of the writer's first chunk
-- or without it
unfoldable pub policy_form : List ℕ → Numeral → Numeral → Option Numeral → Option Form
policy_form policy p b from =
    if is policy (codes "drop") then Some (Writer p b Drops from)
    else if is policy (codes "stall") then Some (Writer p b Stalls from)
    else if is (take 6 policy) (codes "stall:") then with_number (λ tries. Some (Writer p b (StallsThenDrops tries) from)) (drop 6 policy)
    else None

-- the form of a writer's set-up line
unfoldable pub writer_form : List ℕ → List ℕ → List ℕ → Option Numeral → Option Form
writer_form second third fourth from = with_number (λ p. with_number (λ b. policy_form fourth p b from) third) second

-- the form of a line of four words
unfoldable pub four_words : List ℕ → List ℕ → List ℕ → List ℕ → Option Form
four_words word second third fourth =
    if is word (codes "producer") then producer_form second third fourth
    else if is word (codes "writer") then writer_form second third fourth None
    else None

-- the form of a line of six words: a writer's set-up line with ` from ID` behind it
unfoldable pub six_words : List ℕ → List ℕ → List ℕ → List ℕ → List ℕ → List ℕ → Option Form
six_words word second third fourth fifth sixth =
    if is word (codes "writer") && is fifth (codes "from") then with_number (λ from. writer_form second third fourth (Some from)) sixth
    else None

-- the lines of more words than four, by those behind the fourth one
unfoldable pub late_words : List ℕ → List ℕ → List ℕ → List ℕ → List (List ℕ) → Option Form
late_words word second third fourth [] = None
late_words word second third fourth (fifth ∷ []) = None
late_words word second third fourth (fifth ∷ sixth ∷ []) = six_words word second third fourth fifth sixth
late_words word second third fourth (fifth ∷ sixth ∷ seventh ∷ others) = None

-- the other lines of three words and more, by the words behind the second one
unfoldable pub more_words : List ℕ → List ℕ → List (List ℕ) → Option Form
more_words word second [] = None
more_words word second (third ∷ []) = three_words word second third
more_words word second (third ∷ fourth ∷ []) = four_words word second third fourth
more_words word second (third ∷ fourth ∷ fifth ∷ others) = late_words word second third fourth (fifth ∷ others)

-- the form of a line that names a chunk
unfoldable pub raw_form : Option NamedRaw → Option Form
raw_form None = None
raw_form (Some raw) = Some (Raw raw)

-- `p W FIELDS` and `a W FIELDS`, whose words behind the second one are those of their FIELDS; a line `raw`; or another line
unfoldable pub long_form : List ℕ → List ℕ → List (List ℕ) → Option Form
long_form word second others =
    if is word (codes "p") then with_number (λ w. Some (OfWriter w (Packet true))) second
    else if is word (codes "a") then with_number (λ w. Some (OfWriter w Add)) second
    else if is word (codes "raw") then raw_form (raw_words second others)
    else more_words word second others

-- the form of a line, by its words
unfoldable pub form_of_words : List (List ℕ) → Option Form
form_of_words [] = None
form_of_words (word ∷ []) = one_word word
form_of_words (word ∷ second ∷ []) = two_words word second
form_of_words (word ∷ second ∷ third ∷ others) = long_form word second (third ∷ others)

-- the form of a line, if it has one
abbrev pub form_of : List ℕ → Option Form
form_of line = form_of_words (pieces 32 line)
