-- Where the words of a table lie that threads share: in front the word of each page, then the header word of each chunk, each on a cache
-- line of its own; behind them the payload words of the first chunk, of the next one, and so on; and behind these the word of flush requests
-- and a word for each writer's answers, each on a line of its own. The words between are never stored.
use Rattle.std.specs.Prelude.{ℕ, zero, suc, ◌+◌, ◌*◌, ◌/◌, List, length, slice_index_or}
use Rattle.chunk_plain.specs.declared.setup.Spot.{Spot}
use Rattle.chunk_plain.specs.Setup.{Setup, spot, no_spot}
use Rattle.chunk_words.specs.declared.host.TheConstants.{LINE_WORDS}

-- how many words hold a payload of this size
abbrev pub words_for : ℕ → ℕ
words_for size = (size + 7) / 8

-- how many payload words the first so many chunks have
abbrev pub words_before : List Spot → ℕ → ℕ
words_before spots zero = 0
words_before spots (suc n) = words_before spots n + words_for (slice_index_or spots n no_spot).payload_size

-- where a word in front lies: the words between it and the next one fill its cache line
abbrev pub front_place : ℕ → ℕ
front_place index = LINE_WORDS * index

-- how many words are in front: the page words, and the header words behind them
abbrev pub front_count : Setup → ℕ
front_count setup = setup.pages + length setup.spots

-- the first payload word of a chunk
abbrev pub payload_start : Setup → ℕ → ℕ
payload_start setup chunk = front_place (front_count setup) + words_before setup.spots chunk

-- how many payload words a chunk has
abbrev pub payload_words : Setup → ℕ → ℕ
payload_words setup chunk = words_for (spot setup chunk).payload_size

-- the word of flush requests lies a cache line behind the payload words
abbrev pub request_place : Setup → ℕ
request_place setup = payload_start setup (length setup.spots) + LINE_WORDS

-- and the word of a writer's answers behind it
abbrev pub answer_place : Setup → (place : ℕ) → ℕ
answer_place setup place = request_place setup + LINE_WORDS * suc place

-- The last word is never stored: a seat that notes something loads it. It lies a cache line behind all others, so that no other thread's
-- steps are in its way.
abbrev pub spare_place : Setup → ℕ
spare_place setup = request_place setup + LINE_WORDS * suc (length setup.writers)

-- all words
abbrev pub word_total : Setup → ℕ
word_total setup = spare_place setup + 1
