-- What a table of one thread keeps of a chunk beside its page and header word.
use Rattle.std.specs.Prelude.{ℕ, List, [], Option, None, slice_index_or}
use Rattle.commit_body.specs.declared.body.CommitBody.{CommitBody}

-- what the table of one thread keeps of a chunk beside its words
pub record Stored : Type 0 where
  -- its payload words
  pub words : List ℕ
  -- its body, as long as no token has it
  pub body : Option CommitBody

-- what is kept of a chunk that there isn't
abbrev pub nothing_stored : Stored
nothing_stored = record { words = []; body = None }

-- what is kept of a chunk
abbrev pub stored_at : List Stored → ℕ → Stored
stored_at slots chunk = slice_index_or slots chunk nothing_stored
