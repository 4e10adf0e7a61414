-- The fields that the lines of a configuration spell.
use Rattle.std.proofs.Common.{◌≡◌, ◌∙◌, ℕ, suc, ◌<◌, ◌^◌, Bool, true, false, ◌&&◌, List, [], ◌∷◌, ◌++◌, refl, sym, ap, subst, append_assoc}
use Rattle.std.specs.Prelude.{codes, decimal}
use Rattle.std.specs.List.{flat_map, list_all}
use Rattle.std.proofs.lemmas.Bool.{and_parts}
use Rattle.trace_base.specs.declared.policy.FullPolicy.{FullPolicy}
use Rattle.trace_base.specs.declared.policy.FullPolicy.TheVariants.{Ring, Discard}
use Rattle.text_form.specs.Bytes.{is_name_start, is_name_byte, is_word_byte, AreAll}
use Rattle.text_form.specs.Entries.{Value, Word, Text, Entries, NoEntries, ValueEntry, BlockEntry}
use Rattle.text_form.specs.Grammar.{Spot, spot, Stands, Gap, NoGap, Blank, Plain, IsName, IsWord, StandsValue, Brace, Fields, NoField, ValueField, BlockField}
use Rattle.config_text.specs.declared.config.ConfigBuffer.{ConfigBuffer}
use Rattle.config_text.specs.declared.config.ConfigProducer.{ConfigProducer}
use Rattle.config_text.specs.declared.config.ConfigSource.{ConfigSource}
use Rattle.config_text.specs.Writing.{policy_word, policy_end, buffer_line, producer_rest, producer_line, name_of, numbered, producer_head, source_head, source_middle, source_line, IsQuotable}
use Rattle.config_text.proofs.DecimalLemmas.{decimal_word}

-- ---- tokens

stands : (line : ℕ) (bytes rest : List ℕ) → Stands bytes (spot line (bytes ++ rest)) (spot line rest)
stands line bytes rest = record { same_line = refl; text_is = refl }

space : (line : ℕ) (rest : List ℕ) → Gap (spot line (32 ∷ rest)) (spot line rest)
space line rest = Blank 32 line rest (spot line rest) refl (NoGap (spot line rest))

all_from : (kind : ℕ → Bool) (bytes : List ℕ) → list_all kind bytes ≡ true → AreAll kind bytes
all_from kind [] all = tt
all_from kind (byte ∷ bytes) all =
    let parts = and_parts (kind byte) (list_all kind bytes) all in
    (parts.0, all_from kind bytes parts.1)

abbrev is_name : List ℕ → Bool
is_name [] = false
is_name (byte ∷ bytes) = is_name_start byte && list_all is_name_byte bytes

name_from : (name : List ℕ) → is_name name ≡ true → IsName name
name_from [] is = absurd (cc)
name_from (byte ∷ bytes) is =
    let parts = and_parts (is_name_start byte) (list_all is_name_byte bytes) is in
    (parts.0, all_from is_name_byte bytes parts.1)

-- a word with a blank behind it
word_stands : (line : ℕ) (bytes rest : List ℕ) → IsWord bytes → StandsValue (Word bytes) (spot line (bytes ++ 32 ∷ rest)) (spot line (32 ∷ rest))
word_stands line bytes rest word = (word, stands line bytes (32 ∷ rest), refl)

-- a text in quotes
text_stands : (line : ℕ) (bytes rest : List ℕ) → IsQuotable bytes → StandsValue (Text bytes) (spot line (34 ∷ (bytes ++ 34 ∷ rest))) (spot line rest)
text_stands line bytes rest quotable =
    (quotable, record { same_line = refl; text_is = ap (λ (bs : List ℕ). 34 ∷ bs) (sym (append_assoc bytes (34 ∷ []) rest)) })

-- ---- fields

-- ` name: value`
value_field : (after : Bool) (line : ℕ) (name : List ℕ) (value : Value) (bytes rest : List ℕ) (others : Entries) (there : Spot) → is_name name ≡ true
    → StandsValue value (spot line bytes) (spot line rest) → Fields true others (spot line rest) there
    → Fields after (ValueEntry line name value others) (spot line (32 ∷ (name ++ 58 ∷ 32 ∷ bytes))) there
value_field after line name value bytes rest others there is standing fields =
    let at : Spot = spot line (name ++ 58 ∷ 32 ∷ bytes) in
    let behind_name : Spot = spot line (58 ∷ 32 ∷ bytes) in
    let behind_colon : Spot = spot line (32 ∷ bytes) in
    ValueField after name value others (spot line (32 ∷ (name ++ 58 ∷ 32 ∷ bytes))) at behind_name behind_colon (spot line bytes) (spot line rest) there
    (Plain after (spot line (32 ∷ (name ++ 58 ∷ 32 ∷ bytes))) at (space line (name ++ 58 ∷ 32 ∷ bytes)))
    (record { is_name = name_from name is; stands = stands line name (58 ∷ 32 ∷ bytes) })
    (record { before = behind_name; gap = NoGap behind_name; token = stands line (58 ∷ []) (32 ∷ bytes) })
    (space line bytes) standing fields

-- ` }`, from before the blank up to the brace
closing : (line : ℕ) (rest : List ℕ) → Fields true NoEntries (spot line (32 ∷ 125 ∷ rest)) (spot line (125 ∷ rest))
closing line rest =
    NoField true (spot line (32 ∷ 125 ∷ rest)) (spot line (125 ∷ rest)) (Plain true (spot line (32 ∷ 125 ∷ rest)) (spot line (125 ∷ rest)) (space line (125 ∷ rest)))

-- `name { fields }`, where fields begin and end with a blank
block_field : (after : Bool) (line : ℕ) (name : List ℕ) (inner others : Entries) (here : Spot) (bytes rest : List ℕ) (there : Spot) → is_name name ≡ true
    → Gap here (spot line (name ++ 32 ∷ 123 ∷ bytes)) → Fields false inner (spot line bytes) (spot line (125 ∷ rest)) → Fields true others (spot line rest) there
    → Fields after (BlockEntry line name inner others) here there
block_field after line name inner others here bytes rest there is gap inside fields =
    let at : Spot = spot line (name ++ 32 ∷ 123 ∷ bytes) in
    let behind_name : Spot = spot line (32 ∷ 123 ∷ bytes) in
    let brace : Spot = spot line (123 ∷ bytes) in
    BlockField after name inner others here at behind_name (spot line bytes) (spot line (125 ∷ rest)) (spot line rest) there
    (Plain after here at gap)
    (record { is_name = name_from name is; stands = stands line name (32 ∷ 123 ∷ bytes) })
    (Brace behind_name (spot line bytes) (record { before = brace; gap = space line (123 ∷ bytes); token = stands line (123 ∷ []) bytes }))
    inside (stands line (125 ∷ []) rest) fields

-- ---- lines

-- the text from a line on says these fields to its end, whatever gap stands before it
abbrev pub Goes : Bool → ℕ → List ℕ → Entries → ℕ → Type 0
Goes after line text entries end = (here : Spot) → Gap here (spot line text) → Fields after entries here (spot end [])

-- a line with one block, and the lines behind it
abbrev pub LineGoes : ℕ → List ℕ → List ℕ → List ℕ → Entries → Type 0
LineGoes line text name rest inner = (after : Bool) (others : Entries) (end : ℕ) → Goes true (suc line) rest others end
    → Goes after line (text ++ rest) (BlockEntry line name inner others) end

one_line : (line : ℕ) (name bytes rest text : List ℕ) (inner : Entries) → is_name name ≡ true → text ≡ name ++ 32 ∷ 123 ∷ bytes
    → Fields false inner (spot line bytes) (spot line (125 ∷ 10 ∷ rest))
    → (after : Bool) (others : Entries) (end : ℕ) → Goes true (suc line) rest others end → Goes after line text (BlockEntry line name inner others) end
one_line line name bytes rest text inner is text_is inside after others end goes here gap =
    let P : List ℕ → Type 0 = λ bs. Gap here (spot line bs) in
    block_field after line name inner others here bytes (10 ∷ rest) (spot end []) is (subst P text_is gap) inside
    (goes (spot line (10 ∷ rest)) (Blank 10 line rest (spot (suc line) rest) refl (NoGap (spot (suc line) rest))))

-- ---- a buffer

abbrev pub buffer_inner : ℕ → ConfigBuffer → Entries
buffer_inner line buffer =
    ValueEntry line (codes "size_kb") (Word (decimal buffer.size_kb)) (ValueEntry line (codes "fill_policy") (Word (policy_word buffer.policy)) NoEntries)

policy_is_word : (policy : FullPolicy) → IsWord (policy_word policy)
policy_is_word Ring = (refl, all_from is_word_byte (codes "ING_BUFFER") refl)
policy_is_word Discard = (refl, all_from is_word_byte (codes "ISCARD") refl)

pub buffer_goes : (line : ℕ) (buffer : ConfigBuffer) (rest : List ℕ) → buffer.size_kb < 2 ^ 64
    → LineGoes line (buffer_line buffer) (codes "buffers") rest (buffer_inner line buffer)
unfolding numbered policy_end
buffer_goes line buffer rest small =
    let size : List ℕ = decimal buffer.size_kb in
    let word : List ℕ = policy_word buffer.policy in
    let last : List ℕ = 125 ∷ 10 ∷ rest in
    let more : List ℕ = codes " fill_policy: " ++ (word ++ 32 ∷ last) in
    let text_is : buffer_line buffer ++ rest ≡ codes "buffers { size_kb: " ++ (size ++ more) =
    append_assoc (numbered (codes "buffers { size_kb: ") buffer.size_kb (codes " fill_policy: ")) (word ++ codes " }\n") rest
    ∙ ap (λ (bs : List ℕ). codes "buffers { size_kb: " ++ bs)
    (append_assoc size (codes " fill_policy: ") ((word ++ codes " }\n") ++ rest)
    ∙ ap (λ (bs : List ℕ). size ++ (codes " fill_policy: " ++ bs)) (append_assoc word (codes " }\n") rest)) in
    one_line line (codes "buffers") (codes " size_kb: " ++ (size ++ more)) rest (buffer_line buffer ++ rest) (buffer_inner line buffer) refl text_is
    (value_field false line (codes "size_kb") (Word size) (size ++ more) more (ValueEntry line (codes "fill_policy") (Word word) NoEntries) (spot line last) refl
    (word_stands line size (codes "fill_policy: " ++ (word ++ 32 ∷ last)) (decimal_word buffer.size_kb small))
    (value_field true line (codes "fill_policy") (Word word) (word ++ 32 ∷ last) (32 ∷ last) NoEntries (spot line last) refl
    (word_stands line word last (policy_is_word buffer.policy)) (closing line (10 ∷ rest))))

-- ---- a producer

abbrev pub producer_inner : ℕ → ConfigProducer → Entries
producer_inner line producer =
    ValueEntry line (codes "producer_name") (Text producer.name) (ValueEntry line (codes "shm_size_kb") (Word (decimal producer.shm_size_kb))
    (ValueEntry line (codes "page_size_kb") (Word (decimal producer.page_size_kb)) NoEntries))

pub producer_goes : (line : ℕ) (producer : ConfigProducer) (rest : List ℕ) → IsQuotable producer.name → producer.shm_size_kb < 2 ^ 64 → producer.page_size_kb < 2 ^ 64
    → LineGoes line (producer_line producer) (codes "producers") rest (producer_inner line producer)
unfolding numbered producer_head
producer_goes line producer rest quotable shm_small page_small =
    let shm : List ℕ = decimal producer.shm_size_kb in
    let page : List ℕ = decimal producer.page_size_kb in
    let last : List ℕ = 125 ∷ 10 ∷ rest in
    let page_on : List ℕ = codes " page_size_kb: " ++ (page ++ 32 ∷ last) in
    let shm_on : List ℕ = codes " shm_size_kb: " ++ (shm ++ page_on) in
    let text_is : producer_line producer ++ rest ≡ codes "producers { producer_name: \"" ++ (producer.name ++ 34 ∷ shm_on) =
    ap (λ (bs : List ℕ). codes "producers { producer_name: \"" ++ bs)
    (append_assoc producer.name (producer_rest producer) rest
    ∙ ap (λ (bs : List ℕ). producer.name ++ bs)
    (append_assoc (numbered (codes "\" shm_size_kb: ") producer.shm_size_kb (codes " page_size_kb: ")) (page ++ codes " }\n") rest
    ∙ ap (λ (bs : List ℕ). codes "\" shm_size_kb: " ++ bs)
    (append_assoc shm (codes " page_size_kb: ") ((page ++ codes " }\n") ++ rest)
    ∙ ap (λ (bs : List ℕ). shm ++ (codes " page_size_kb: " ++ bs)) (append_assoc page (codes " }\n") rest)))) in
    one_line line (codes "producers") (codes " producer_name: \"" ++ (producer.name ++ 34 ∷ shm_on)) rest (producer_line producer ++ rest) (producer_inner line producer) refl text_is
    (value_field false line (codes "producer_name") (Text producer.name) (34 ∷ (producer.name ++ 34 ∷ shm_on)) shm_on
    (ValueEntry line (codes "shm_size_kb") (Word shm) (ValueEntry line (codes "page_size_kb") (Word page) NoEntries)) (spot line last) refl
    (text_stands line producer.name shm_on quotable)
    (value_field true line (codes "shm_size_kb") (Word shm) (shm ++ page_on) page_on (ValueEntry line (codes "page_size_kb") (Word page) NoEntries) (spot line last) refl
    (word_stands line shm (codes "page_size_kb: " ++ (page ++ 32 ∷ last)) (decimal_word producer.shm_size_kb shm_small))
    (value_field true line (codes "page_size_kb") (Word page) (page ++ 32 ∷ last) (32 ∷ last) NoEntries (spot line last) refl
    (word_stands line page last (decimal_word producer.page_size_kb page_small)) (closing line (10 ∷ rest)))))

-- ---- a source, whose producer has a name

abbrev pub source_config : ℕ → ConfigSource → Entries
source_config line source =
    ValueEntry line (codes "name") (Text source.name) (ValueEntry line (codes "target_buffer") (Word (decimal source.target_buffer)) NoEntries)

abbrev pub source_inner : List ConfigProducer → ℕ → ConfigSource → Entries
source_inner producers line source =
    BlockEntry line (codes "config") (source_config line source)
    (ValueEntry line (codes "producer_name_filter") (Text (name_of producers source.producer)) NoEntries)

pub source_goes : (producers : List ConfigProducer) (line : ℕ) (source : ConfigSource) (rest : List ℕ) → IsQuotable source.name → IsQuotable (name_of producers source.producer)
    → source.target_buffer < 2 ^ 64 → LineGoes line (source_line producers source) (codes "data_sources") rest (source_inner producers line source)
unfolding numbered source_head
source_goes producers line source rest quotable named small =
    let target : List ℕ = decimal source.target_buffer in
    let owner : List ℕ = name_of producers source.producer in
    let last : List ℕ = 32 ∷ 125 ∷ 10 ∷ rest in
    let filter_on : List ℕ = codes " producer_name_filter: \"" ++ (owner ++ 34 ∷ last) in
    let config_end : List ℕ = 125 ∷ filter_on in
    let target_on : List ℕ = codes " target_buffer: " ++ (target ++ 32 ∷ config_end) in
    let text_is : source_line producers source ++ rest ≡ codes "data_sources { config { name: \"" ++ (source.name ++ 34 ∷ target_on) =
    ap (λ (bs : List ℕ). codes "data_sources { config { name: \"" ++ bs)
    (append_assoc source.name (source_middle source ++ (owner ++ codes "\" }\n")) rest
    ∙ ap (λ (bs : List ℕ). source.name ++ bs)
    (ap (λ (bs : List ℕ). codes "\" target_buffer: " ++ bs)
    (ap (λ (bs : List ℕ). bs ++ rest) (append_assoc target (codes " } producer_name_filter: \"") (owner ++ codes "\" }\n"))
    ∙ append_assoc target (codes " } producer_name_filter: \"" ++ (owner ++ codes "\" }\n")) rest
    ∙ ap (λ (bs : List ℕ). target ++ (codes " } producer_name_filter: \"" ++ bs)) (append_assoc owner (codes "\" }\n") rest)))) in
    one_line line (codes "data_sources") (codes " config { name: \"" ++ (source.name ++ 34 ∷ target_on)) rest (source_line producers source ++ rest)
    (source_inner producers line source) refl text_is
    (block_field false line (codes "config") (source_config line source) (ValueEntry line (codes "producer_name_filter") (Text owner) NoEntries)
    (spot line (codes " config { name: \"" ++ (source.name ++ 34 ∷ target_on))) (codes " name: \"" ++ (source.name ++ 34 ∷ target_on)) filter_on (spot line (125 ∷ 10 ∷ rest)) refl
    (space line (codes "config { name: \"" ++ (source.name ++ 34 ∷ target_on)))
    (value_field false line (codes "name") (Text source.name) (34 ∷ (source.name ++ 34 ∷ target_on)) target_on
    (ValueEntry line (codes "target_buffer") (Word target) NoEntries) (spot line config_end) refl
    (text_stands line source.name target_on quotable)
    (value_field true line (codes "target_buffer") (Word target) (target ++ 32 ∷ config_end) (32 ∷ config_end) NoEntries (spot line config_end) refl
    (word_stands line target config_end (decimal_word source.target_buffer small)) (closing line filter_on)))
    (value_field true line (codes "producer_name_filter") (Text owner) (34 ∷ (owner ++ 34 ∷ last)) last NoEntries (spot line (125 ∷ 10 ∷ rest)) refl
    (text_stands line owner last named) (closing line (10 ∷ rest))))

-- ---- all lines of a kind

-- a block for each, on lines of their own, and then other fields
abbrev pub lines_then : {T : Type 0} → List ℕ → (ℕ → T → Entries) → ℕ → List T → (ℕ → Entries) → Entries
lines_then name inner line [] others = others line
lines_then name inner line (x ∷ xs) others = BlockEntry line name (inner line x) (lines_then name inner (suc line) xs others)

-- the line behind so many
abbrev pub line_after : {T : Type 0} → ℕ → List T → ℕ
line_after line [] = line
line_after line (x ∷ xs) = line_after (suc line) xs

-- each of some
abbrev pub Each : {T : Type 0} → (T → Type 0) → List T → Type 0
Each P [] = Unit {0}
Each P (x ∷ xs) = P x × Each P xs

pub lines_go : {T : Type 0} (P : T → Type 0) (text : T → List ℕ) (name : List ℕ) (inner : ℕ → T → Entries) (rest : List ℕ) (others : ℕ → Entries) (end : ℕ)
    → ((line : ℕ) (x : T) (rest : List ℕ) → P x → LineGoes line (text x) name rest (inner line x))
    → (xs : List T) (line : ℕ) (after : Bool) → Each P xs
    → ((after : Bool) → Goes after (line_after line xs) rest (others (line_after line xs)) end)
    → Goes after line (flat_map text xs ++ rest) (lines_then name inner line xs others) end
lines_go P text name inner rest others end one [] line after each goes = goes after
lines_go P text name inner rest others end one (x ∷ xs) line after each goes = λ here gap.
    let Q : List ℕ → Type 0 = λ bs. Gap here (spot line bs) in
    one line x (flat_map text xs ++ rest) each.0 after (lines_then name inner (suc line) xs others) end
    (lines_go P text name inner rest others end one xs (suc line) true each.1 goes)
    here (subst Q (append_assoc (text x) (flat_map text xs) rest) gap)
