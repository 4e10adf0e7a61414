use Rattle.std.proofs.Common.{subst, arith}
use Rattle.chunk_index.specs.Slots.{home, entry_key}
use Rattle.chunk_index.specs.Table.{EndsAt}
use Rattle.chunk_index.proofs.SlotLemmas.{more_entries}
use Rattle.chunk_index.proofs.SearchLemmas.{keyless}
use Rattle.chunk_index.proofs.HoleLemmas.{table_with}
use Rattle.chunk_index.proofs.MapLemmas.{map_with}
use Rattle.chunk_index.proofs.StepLemmas.{IsFree, free_of}
use Rattle.chunk_index.proofs.room.put.Goals as goal

-- where the search ended
there : (c : goal.After-find_slot-at) → IsFree c.args.slots.now c.args.entry c.find_slot-at.result × EndsAt c.args.slots.now (entry_key c.args.entry) (home c.args.capacity (entry_key c.args.entry)) c.find_slot-at.result
there c =
    let search = subst (λ k. EndsAt c.args.slots.now k (home c.args.capacity k) c.find_slot-at.result) c.key_number.ensures c.find_slot-at.ensures.ends in
    (free_of c.args.capacity c.args.slots.now c.args.entry c.find_slot-at.result c.requires.size c.requires.table c.requires.few c.requires.absent search, search)

pub bounds-slots-at : goal.bounds-slots-at
bounds-slots-at c = (there c).0.inside

pub returns-clause-table : goal.returns-clause-table
returns-clause-table c =
    let f = there c in
    table_with c.args.capacity c.args.slots.now c.find_slot-at.result c.args.entry c.requires.table f.1 f.0.inside
    (keyless c.args.capacity c.args.slots.now (entry_key c.args.entry) c.find_slot-at.result c.requires.table f.1 f.0.absent)

pub returns-clause-map : goal.returns-clause-map
returns-clause-map c = let f = (there c).0 in map_with c.args.slots.now c.find_slot-at.result c.args.entry f.inside f.free c.requires.absent

pub returns-clause-entries : goal.returns-clause-entries
returns-clause-entries c =
    let f = (there c).0 in
    let more = more_entries c.args.slots.now c.find_slot-at.result c.args.entry f.inside f.free in
    omega arith
