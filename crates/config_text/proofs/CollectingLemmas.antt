-- The items of a text tell its blocks.
use Rattle.std.proofs.Common.{◌≡◌, ◌∙◌, ℕ, zero, suc, ◌+◌, ◌-◌, ◌<◌, arith, Bool, true, false, cond, List, [], ◌∷◌, ◌++◌, Option, Some, None, refl, sym, ap}
use Rattle.std.proofs.lemmas.List.{append-nil, append_assoc}
use Rattle.text_form.specs.Entries.{Value, Item, Single, Begin, End, Entries, NoEntries, ValueEntry, BlockEntry, items_of}
use Rattle.config_text.specs.Blocks.{Block, What, kind_of, begun, opens_config, with_value, with_block, with_config_value, with_config_block, config_said, block_said, value_block, top_block, blocks_of}
use Rattle.config_text.specs.Collecting.{Level, AtTop, InBlock, InConfig, Collected, nothing_collected, at_level, skipping, single_at, top_at, begin_at, end_at, item_seen, item_skipped, item_in, collected_item, collected_all, ItemsTellTheBlocks}

-- some fields, and then the rest
both : (c : Collected) (a b : List Item) → collected_all c (a ++ b) ≡ collected_all (collected_all c a) b
both c [] b = refl
both c (item ∷ a) b = both (collected_item c item) a b

abbrev end_of : Entries → List Item → List Item
end_of others rest = End ∷ (items_of others ++ rest)

-- how the items of a block stand before those behind it
split : (inner others : Entries) (rest : List Item) → (items_of inner ++ End ∷ items_of others) ++ rest ≡ items_of inner ++ end_of others rest
split inner others rest = append_assoc (items_of inner) (End ∷ items_of others) rest

-- what is skipped changes nothing
skips : (blocks : List Block) (level : Level) (depth : ℕ) (entries : Entries) (rest : List Item)
    → collected_all (skipping blocks level (suc depth)) (items_of entries ++ rest) ≡ collected_all (skipping blocks level (suc depth)) rest
unfolding collected_item item_in item_skipped skipping
skips blocks level depth NoEntries rest = refl
skips blocks level depth (ValueEntry line name value others) rest = skips blocks level depth others rest
skips blocks level depth (BlockEntry line name inner others) rest =
    ap (λ (items : List Item). collected_all (skipping blocks level (suc (suc depth))) items) (split inner others rest)
    ∙ skips blocks level (suc depth) inner (end_of others rest)
    ∙ skips blocks level depth others rest

-- a block that is skipped whole
skips_block : (blocks : List Block) (level : Level) (inner others : Entries) (rest : List Item)
    → collected_all (skipping blocks level 1) ((items_of inner ++ End ∷ items_of others) ++ rest) ≡ collected_all (at_level blocks level) (items_of others ++ rest)
unfolding collected_item item_in item_skipped skipping at_level
skips_block blocks level inner others rest =
    ap (λ (items : List Item). collected_all (skipping blocks level 1) items) (split inner others rest)
    ∙ skips blocks level 0 inner (end_of others rest)

-- in a `config`
config_tells : (blocks : List Block) (block : Block) (entries : Entries) (rest : List Item)
    → collected_all (at_level blocks (InConfig block)) (items_of entries ++ rest) ≡ collected_all (at_level blocks (InConfig (config_said block entries))) rest
unfolding collected_item item_in item_seen single_at begin_at at_level
config_tells blocks block NoEntries rest = refl
config_tells blocks block (ValueEntry line name value others) rest = config_tells blocks (with_config_value name value block) others rest
config_tells blocks block (BlockEntry line name inner others) rest =
    skips_block blocks (InConfig (with_config_block name block)) inner others rest
    ∙ config_tells blocks (with_config_block name block) others rest

-- a block inside a block, its `config` or another
inside_tells : (opens : Bool) (blocks : List Block) (name : List ℕ) (block : Block) (inner others : Entries) (rest : List Item)
    → collected_all (cond opens (at_level blocks (InConfig block)) (skipping blocks (InBlock (with_block name block)) 1)) ((items_of inner ++ End ∷ items_of others) ++ rest)
    ≡ collected_all (at_level blocks (InBlock (cond opens (config_said block inner) (with_block name block)))) (items_of others ++ rest)
unfolding collected_item item_in item_seen end_at at_level
inside_tells true blocks name block inner others rest =
    ap (λ (items : List Item). collected_all (at_level blocks (InConfig block)) items) (split inner others rest)
    ∙ config_tells blocks block inner (end_of others rest)
inside_tells false blocks name block inner others rest = skips_block blocks (InBlock (with_block name block)) inner others rest

-- in a block
block_tells : (blocks : List Block) (block : Block) (entries : Entries) (rest : List Item)
    → collected_all (at_level blocks (InBlock block)) (items_of entries ++ rest) ≡ collected_all (at_level blocks (InBlock (block_said block entries))) rest
unfolding collected_item item_in item_seen single_at begin_at at_level
block_tells blocks block NoEntries rest = refl
block_tells blocks block (ValueEntry line name value others) rest = block_tells blocks (with_value name value block) others rest
block_tells blocks block (BlockEntry line name inner others) rest =
    inside_tells (opens_config name block.what) blocks name block inner others rest
    ∙ block_tells blocks (cond (opens_config name block.what) (config_said block inner) (with_block name block)) others rest

-- a block at the top
top_tells : (blocks : List Block) (line : ℕ) (found : Option What) (inner others : Entries) (rest : List Item)
    → collected_all (top_at blocks line found) ((items_of inner ++ End ∷ items_of others) ++ rest)
    ≡ collected_all (at_level (blocks ++ top_block line found inner) AtTop) (items_of others ++ rest)
unfolding collected_item item_in item_seen end_at at_level top_at top_block
top_tells blocks line None inner others rest =
    skips_block blocks AtTop inner others rest
    ∙ ap (λ (bs : List Block). collected_all (at_level bs AtTop) (items_of others ++ rest)) (sym (append-nil blocks))
top_tells blocks line (Some what) inner others rest =
    ap (λ (items : List Item). collected_all (at_level blocks (InBlock (begun line what))) items) (split inner others rest)
    ∙ block_tells blocks (begun line what) inner (end_of others rest)

-- at the top
tells : (blocks : List Block) (entries : Entries)
    → collected_all (at_level blocks AtTop) (items_of entries) ≡ at_level (blocks ++ blocks_of entries) AtTop
unfolding collected_item item_in item_seen single_at begin_at at_level
tells blocks NoEntries = ap (λ (bs : List Block). at_level bs AtTop) (sym (append-nil blocks))
tells blocks (ValueEntry line name value others) =
    tells (blocks ++ value_block line (kind_of name)) others
    ∙ ap (λ (bs : List Block). at_level bs AtTop) (append_assoc blocks (value_block line (kind_of name)) (blocks_of others))
tells blocks (BlockEntry line name inner others) =
    ap (λ (items : List Item). collected_all (top_at blocks line (kind_of name)) items) (sym (append-nil (items_of inner ++ End ∷ items_of others)))
    ∙ top_tells blocks line (kind_of name) inner others []
    ∙ ap (λ (items : List Item). collected_all (at_level (blocks ++ top_block line (kind_of name) inner) AtTop) items) (append-nil (items_of others))
    ∙ tells (blocks ++ top_block line (kind_of name) inner) others
    ∙ ap (λ (bs : List Block). at_level bs AtTop) (append_assoc blocks (top_block line (kind_of name) inner) (blocks_of others))

pub items_tell_the_blocks : ItemsTellTheBlocks
unfolding nothing_collected at_level
items_tell_the_blocks entries = ap (λ (c : Collected). c.blocks) (tells [] entries)

-- ---- where blocks are skipped

pub skipped_single : (blocks : List Block) (level : Level) (depth line : ℕ) (name : List ℕ) (value : Value) → 0 < depth
    → item_in blocks level depth (Single line name value) ≡ skipping blocks level depth
unfolding item_in item_skipped
skipped_single blocks level zero line name value some = absurd (omega arith)
skipped_single blocks level (suc depth) line name value some = refl

pub skipped_begin : (blocks : List Block) (level : Level) (depth line : ℕ) (name : List ℕ) → 0 < depth
    → item_in blocks level depth (Begin line name) ≡ skipping blocks level (depth + 1)
unfolding item_in item_skipped
skipped_begin blocks level zero line name some = absurd (omega arith)
skipped_begin blocks level (suc depth) line name some = ap (skipping blocks level) (let more : suc (suc depth) ≡ suc depth + 1 = omega arith in more)

pub skipped_end : (blocks : List Block) (level : Level) (depth : ℕ) → 0 < depth → item_in blocks level depth End ≡ skipping blocks level (depth - 1)
unfolding item_in item_skipped
skipped_end blocks level zero some = absurd (omega arith)
skipped_end blocks level (suc depth) some = ap (skipping blocks level) (let less : depth ≡ suc depth - 1 = omega arith in less)

-- ---- where a name is none of the three

pub begins_other : (blocks : List Block) (line : ℕ) (name : List ℕ) → None ≡ kind_of name → begin_at blocks AtTop line name ≡ skipping blocks AtTop 1
unfolding begin_at top_at
begins_other blocks line name other = ap (top_at blocks line) (sym other)

pub single_other : (blocks : List Block) (line : ℕ) (name : List ℕ) (value : Value) → None ≡ kind_of name
    → single_at blocks AtTop line name value ≡ at_level blocks AtTop
unfolding single_at value_block
single_other blocks line name value other =
    ap (λ (found : Option What). at_level (blocks ++ value_block line found) AtTop) (sym other)
    ∙ ap (λ (bs : List Block). at_level bs AtTop) (append-nil blocks)
