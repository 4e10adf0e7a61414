-- The same blocks from the fields of a text one after another, without the tree of them.
use Rattle.std.specs.Prelude.{◌≡◌, ℕ, zero, suc, List, [], ◌∷◌, ◌++◌, Option, Some, None, if◌then◌else◌}
use Rattle.text_form.specs.Entries.{Value, Item, Single, Begin, End, Entries, items_of}
use Rattle.config_text.specs.Blocks.{Block, What, kind_of, begun, with_value, with_config_value, with_block, with_config_block, opens_config, value_block, blocks_of}

-- where the next field stands: at the top, in one of the blocks that count, in its `config`, or in so many blocks that are skipped
pub data Level : Type 0 where
  AtTop : Level
  InBlock : (block : Block) → Level
  InConfig : (block : Block) → Level

-- the blocks that have ended, and where the next field stands
pub record Collected : Type 0 where
  pub blocks : List Block
  pub level : Level
  pub skipped : ℕ

-- before the first item
unfoldable pub nothing_collected : Collected
nothing_collected = record { blocks = []; level = AtTop; skipped = 0 }

-- these blocks have ended, and nothing is skipped
unfoldable pub at_level : List Block → Level → Collected
at_level blocks level = record { blocks = blocks; level = level; skipped = 0 }

-- these blocks have ended, and so many are open that are skipped
unfoldable pub skipping : List Block → Level → ℕ → Collected
skipping blocks level skipped = record { blocks = blocks; level = level; skipped = skipped }

-- a field with a value
unfoldable pub single_at : List Block → Level → ℕ → List ℕ → Value → Collected
single_at blocks AtTop line name value = at_level (blocks ++ value_block line (kind_of name)) AtTop
single_at blocks (InBlock block) line name value = at_level blocks (InBlock (with_value name value block))
single_at blocks (InConfig block) line name value = at_level blocks (InConfig (with_config_value name value block))

-- a block at the top
unfoldable pub top_at : List Block → ℕ → Option What → Collected
top_at blocks line None = skipping blocks AtTop 1
top_at blocks line (Some what) = at_level blocks (InBlock (begun line what))

-- a block begins
unfoldable pub begin_at : List Block → Level → ℕ → List ℕ → Collected
begin_at blocks AtTop line name = top_at blocks line (kind_of name)
begin_at blocks (InBlock block) line name =
    if opens_config name block.what then at_level blocks (InConfig block) else skipping blocks (InBlock (with_block name block)) 1
begin_at blocks (InConfig block) line name = skipping blocks (InConfig (with_config_block name block)) 1

-- a block ends
unfoldable pub end_at : List Block → Level → Collected
end_at blocks AtTop = at_level blocks AtTop
end_at blocks (InBlock block) = at_level (blocks ++ block ∷ []) AtTop
end_at blocks (InConfig block) = at_level blocks (InBlock block)

-- an item where nothing is skipped
unfoldable pub item_seen : List Block → Level → Item → Collected
item_seen blocks level (Single line name value) = single_at blocks level line name value
item_seen blocks level (Begin line name) = begin_at blocks level line name
item_seen blocks level End = end_at blocks level

-- and where so many blocks and one more are skipped
unfoldable pub item_skipped : List Block → Level → ℕ → Item → Collected
item_skipped blocks level skipped (Single line name value) = skipping blocks level (suc skipped)
item_skipped blocks level skipped (Begin line name) = skipping blocks level (suc (suc skipped))
item_skipped blocks level skipped End = skipping blocks level skipped

-- any item, where so many blocks are open that are skipped
unfoldable pub item_in : List Block → Level → ℕ → Item → Collected
item_in blocks level zero item = item_seen blocks level item
item_in blocks level (suc skipped) item = item_skipped blocks level skipped item

-- with one item more
unfoldable pub collected_item : Collected → Item → Collected
collected_item collected item = item_in collected.blocks collected.level collected.skipped item

-- with some items more
abbrev pub collected_all : Collected → List Item → Collected
collected_all collected [] = collected
collected_all collected (item ∷ items) = collected_all (collected_item collected item) items

-- the items of a text tell its blocks
abbrev pub ItemsTellTheBlocks : Type 0
ItemsTellTheBlocks = (entries : Entries) → (collected_all nothing_collected (items_of entries)).blocks ≡ blocks_of entries
