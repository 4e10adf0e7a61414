-- The words so far, and those that are still to come.
use Rattle.std.proofs.Common.{◌≡◌, ◌++◌, drop}
use Rattle.std.specs.Vec.Iter.{into_iter_items, into_iter_len}
use Rattle.tracesmb.proofs.words_behind_name.Given as goal

abbrev pub invariant-words : goal.invariant-words
invariant-words l = l.words.items ++ into_iter_items l.rest ≡ drop 1 (into_iter_items l.fn.args)

abbrev pub decreases-words : goal.decreases-words
decreases-words l = into_iter_len l.rest
