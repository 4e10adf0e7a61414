-- Names that a text says have bytes of a text in quotes alone.
use Rattle.std.proofs.Common.{◌≡◌, ℕ, Bool, true, false, cond, List, [], ◌∷◌, ◌++◌, Option, Some, None, refl, subst}
use Rattle.std.specs.Prelude.{IfSome, option_map, codes}
use Rattle.std.proofs.lemmas.Bool.{cond_both}
use Rattle.text_form.specs.Entries.{Value, Word, Text, Entries, NoEntries, ValueEntry, BlockEntry}
use Rattle.text_form.specs.Grammar.{Spot, StandsValue, Fields, NoField, ValueField, BlockField, IsTextOf}
use Rattle.config_text.specs.Blocks.{Block, What, Buffer, Producer, Source, ProducerSaid, SourceSaid, is, kind_of, begun, unfit, saying, what_with, what_with_config, with_value, with_config_value, with_block, with_config_block, wants_value, config_wants_value, opens_config, buffer_with, producer_with, source_with, config_with, number_in, text_in, with_producer_name, with_shm_size, with_page_size, with_filter, with_source_name, with_target, no_buffer, no_producer, no_source, config_said, block_said, value_block, top_block, blocks_of}
use Rattle.config_text.specs.Writing.{IsQuotable}
use Rattle.config_text.proofs.WrittenEntries.{Each}

-- ---- the texts of fields

abbrev IsQuoted : Value → Type 0
IsQuoted (Word bytes) = Unit {0}
IsQuoted (Text bytes) = IsQuotable bytes

abbrev AllQuoted : Entries → Type 0
AllQuoted NoEntries = Unit {0}
AllQuoted (ValueEntry line name value others) = IsQuoted value × AllQuoted others
AllQuoted (BlockEntry line name inner others) = AllQuoted inner × AllQuoted others

quoted_by : (value : Value) (here there : Spot) → StandsValue value here there → IsQuoted value
quoted_by (Word bytes) here there standing = tt
quoted_by (Text bytes) here there standing = standing.0

fields_quoted : {after : Bool} {entries : Entries} {here there : Spot} → Fields after entries here there → AllQuoted entries
fields_quoted (NoField after here there lead) = tt
fields_quoted (ValueField after name value others here at named behind valued ended there lead standing colon gap stands rest) =
    (quoted_by value valued ended stands, fields_quoted rest)
fields_quoted (BlockField after name inner others here at named inside last ended there lead standing opens within brace rest) =
    (fields_quoted within, fields_quoted rest)

-- ---- what blocks say of them

abbrev pub IsNamed : What → Type 0
IsNamed (Buffer said) = Unit {0}
IsNamed (Producer said) = IsQuotable said.name
IsNamed (Source said) = IsQuotable said.name

map_some : {X Y : Type 0} (P : Y → Type 0) (f : X → Y) (o : Option X) → ((x : X) → o ≡ Some x → P (f x)) → IfSome (option_map f o) P
map_some P f None holds = tt
map_some P f (Some x) holds = holds x refl

text_quoted : (value : Value) (text : List ℕ) → IsQuoted value → text_in value ≡ Some text → IsQuotable text
unfolding text_in
text_quoted (Word bytes) text quoted is = absurd (cc)
text_quoted (Text bytes) text quoted is = let same : bytes ≡ text = cc in subst IsQuotable same quoted

named_kind : (name : List ℕ) → IfSome (kind_of name) IsNamed
unfolding kind_of no_buffer no_producer no_source
named_kind name =
    let P : Option What → Type 0 = λ o. IfSome o IsNamed in
    cond_both (is name (codes "buffers")) (Some (Buffer no_buffer))
    (cond (is name (codes "producers")) (Some (Producer no_producer)) (cond (is name (codes "data_sources")) (Some (Source no_source)) None)) P (λ _. tt) (λ _.
    cond_both (is name (codes "producers")) (Some (Producer no_producer)) (cond (is name (codes "data_sources")) (Some (Source no_source)) None) P (λ _. tt) (λ _.
    cond_both (is name (codes "data_sources")) (Some (Source no_source)) None P (λ _. tt) (λ _. tt)))

abbrev NamedProducer : ProducerSaid → Type 0
NamedProducer said = IsQuotable said.name

abbrev NamedSource : SourceSaid → Type 0
NamedSource said = IsQuotable said.name

producer_named : (name : List ℕ) (value : Value) (said : ProducerSaid) → IsQuoted value → NamedProducer said → IfSome (producer_with name value said) NamedProducer
unfolding producer_with with_producer_name with_shm_size with_page_size
producer_named name value said quoted named =
    let P : Option ProducerSaid → Type 0 = λ o. IfSome o NamedProducer in
    let by_name : Option ProducerSaid = option_map (with_producer_name said) (text_in value) in
    let by_shm : Option ProducerSaid = option_map (with_shm_size said) (number_in value) in
    let by_page : Option ProducerSaid = option_map (with_page_size said) (number_in value) in
    let last : Option ProducerSaid = cond (is name (codes "page_size_kb")) by_page (Some said) in
    cond_both (is name (codes "producer_name")) by_name (cond (is name (codes "shm_size_kb")) by_shm last) P
    (λ _. map_some NamedProducer (with_producer_name said) (text_in value) (λ text given. text_quoted value text quoted given)) (λ _.
    cond_both (is name (codes "shm_size_kb")) by_shm last P (λ _. map_some NamedProducer (with_shm_size said) (number_in value) (λ n given. named)) (λ _.
    cond_both (is name (codes "page_size_kb")) by_page (Some said) P (λ _. map_some NamedProducer (with_page_size said) (number_in value) (λ n given. named)) (λ _. named)))

source_named : (name : List ℕ) (value : Value) (said : SourceSaid) → NamedSource said → IfSome (source_with name value said) NamedSource
unfolding source_with with_filter
source_named name value said named =
    let P : Option SourceSaid → Type 0 = λ o. IfSome o NamedSource in
    let by_filter : Option SourceSaid = option_map (with_filter said) (text_in value) in
    cond_both (is name (codes "producer_name_filter")) by_filter (cond (is name (codes "config")) None (Some said)) P
    (λ _. map_some NamedSource (with_filter said) (text_in value) (λ text given. named)) (λ _.
    cond_both (is name (codes "config")) None (Some said) P (λ _. tt) (λ _. named))

config_named : (name : List ℕ) (value : Value) (said : SourceSaid) → IsQuoted value → NamedSource said → IfSome (config_with name value said) NamedSource
unfolding config_with with_source_name with_target
config_named name value said quoted named =
    let P : Option SourceSaid → Type 0 = λ o. IfSome o NamedSource in
    let by_name : Option SourceSaid = option_map (with_source_name said) (text_in value) in
    let by_target : Option SourceSaid = option_map (with_target said) (number_in value) in
    cond_both (is name (codes "name")) by_name (cond (is name (codes "target_buffer")) by_target (Some said)) P
    (λ _. map_some NamedSource (with_source_name said) (text_in value) (λ text given. text_quoted value text quoted given)) (λ _.
    cond_both (is name (codes "target_buffer")) by_target (Some said) P (λ _. map_some NamedSource (with_target said) (number_in value) (λ n given. named)) (λ _. named))

some_map : {X Y : Type 0} (P : X → Type 0) (Q : Y → Type 0) (f : X → Y) (o : Option X) → IfSome o P → ((x : X) → P x → Q (f x)) → IfSome (option_map f o) Q
some_map P Q f None holds leads = tt
some_map P Q f (Some x) holds leads = leads x holds

what_named : (name : List ℕ) (value : Value) (what : What) → IsQuoted value → IsNamed what → IfSome (what_with name value what) IsNamed
unfolding what_with
what_named name value (Buffer said) quoted named = map_some IsNamed Buffer (buffer_with name value said) (λ s given. tt)
what_named name value (Producer said) quoted named = some_map NamedProducer IsNamed Producer (producer_with name value said) (producer_named name value said quoted named) (λ s h. h)
what_named name value (Source said) quoted named = some_map NamedSource IsNamed Source (source_with name value said) (source_named name value said named) (λ s h. h)

config_what_named : (name : List ℕ) (value : Value) (what : What) → IsQuoted value → IsNamed what → IfSome (what_with_config name value what) IsNamed
unfolding what_with_config
config_what_named name value (Buffer said) quoted named = tt
config_what_named name value (Producer said) quoted named = named
config_what_named name value (Source said) quoted named = some_map NamedSource IsNamed Source (config_with name value said) (config_named name value said quoted named) (λ s h. h)

-- ---- blocks

abbrev pub NamedBlock : Block → Type 0
NamedBlock block = IsNamed block.what

saying_named : (block : Block) (found : Option What) → NamedBlock block → IfSome found IsNamed → NamedBlock (saying block found)
unfolding saying unfit
saying_named block None named more = named
saying_named block (Some what) named more = more

unfit_named : (test : Bool) (block : Block) → NamedBlock block → NamedBlock (cond test (unfit block) block)
unfolding unfit
unfit_named true block named = named
unfit_named false block named = named

value_named : (name : List ℕ) (value : Value) (block : Block) → IsQuoted value → NamedBlock block → NamedBlock (with_value name value block)
unfolding with_value
value_named name value block quoted named = saying_named block (what_with name value block.what) named (what_named name value block.what quoted named)

config_value_named : (name : List ℕ) (value : Value) (block : Block) → IsQuoted value → NamedBlock block → NamedBlock (with_config_value name value block)
unfolding with_config_value
config_value_named name value block quoted named =
    saying_named block (what_with_config name value block.what) named (config_what_named name value block.what quoted named)

block_named : (name : List ℕ) (block : Block) → NamedBlock block → NamedBlock (with_block name block)
unfolding with_block
block_named name block named = unfit_named (wants_value name block.what) block named

config_block_named : (name : List ℕ) (block : Block) → NamedBlock block → NamedBlock (with_config_block name block)
unfolding with_config_block
config_block_named name block named = unfit_named (config_wants_value name) block named

config_all_named : (block : Block) (entries : Entries) → AllQuoted entries → NamedBlock block → NamedBlock (config_said block entries)
config_all_named block NoEntries quoted named = named
config_all_named block (ValueEntry line name value others) quoted named =
    config_all_named (with_config_value name value block) others quoted.1 (config_value_named name value block quoted.0 named)
config_all_named block (BlockEntry line name inner others) quoted named =
    config_all_named (with_config_block name block) others quoted.1 (config_block_named name block named)

inner_named : (opens : Bool) (name : List ℕ) (block : Block) (inner : Entries) → AllQuoted inner → NamedBlock block
    → NamedBlock (cond opens (config_said block inner) (with_block name block))
inner_named true name block inner quoted named = config_all_named block inner quoted named
inner_named false name block inner quoted named = block_named name block named

block_all_named : (block : Block) (entries : Entries) → AllQuoted entries → NamedBlock block → NamedBlock (block_said block entries)
block_all_named block NoEntries quoted named = named
block_all_named block (ValueEntry line name value others) quoted named =
    block_all_named (with_value name value block) others quoted.1 (value_named name value block quoted.0 named)
block_all_named block (BlockEntry line name inner others) quoted named =
    block_all_named (cond (opens_config name block.what) (config_said block inner) (with_block name block)) others quoted.1
    (inner_named (opens_config name block.what) name block inner quoted.0 named)

each_append : {T : Type 0} (P : T → Type 0) (xs ys : List T) → Each P xs → Each P ys → Each P (xs ++ ys)
each_append P [] ys front back = back
each_append P (x ∷ xs) ys front back = (front.0, each_append P xs ys front.1 back)

value_block_named : (line : ℕ) (found : Option What) → IfSome found IsNamed → Each NamedBlock (value_block line found)
unfolding value_block unfit begun
value_block_named line None named = tt
value_block_named line (Some what) named = (named, tt)

top_block_named : (line : ℕ) (found : Option What) (inner : Entries) → AllQuoted inner → IfSome found IsNamed → Each NamedBlock (top_block line found inner)
unfolding top_block begun
top_block_named line None inner quoted named = tt
top_block_named line (Some what) inner quoted named = (block_all_named (begun line what) inner quoted named, tt)

all_named : (entries : Entries) → AllQuoted entries → Each NamedBlock (blocks_of entries)
all_named NoEntries quoted = tt
all_named (ValueEntry line name value others) quoted =
    each_append NamedBlock (value_block line (kind_of name)) (blocks_of others) (value_block_named line (kind_of name) (named_kind name)) (all_named others quoted.1)
all_named (BlockEntry line name inner others) quoted =
    each_append NamedBlock (top_block line (kind_of name) inner) (blocks_of others) (top_block_named line (kind_of name) inner quoted.0 (named_kind name)) (all_named others quoted.1)

-- the blocks of a text
pub blocks_named : (text : List ℕ) (entries : Entries) → IsTextOf entries text → Each NamedBlock (blocks_of entries)
blocks_named text entries is = all_named entries (fields_quoted is.fields)
