use Rattle.std.proofs.Common.{◌≡◌, List, length, map, sym, ap, ap₂, ◌∙◌}
use Rattle.std.proofs.lemmas.List.{length-map}
use Rattle.std.specs.Vec.{with_items}
use Rattle.ring_bytes.specs.Value.{RingValue}
use Rattle.trace_model.specs.Buffers.{Buffer}
use Rattle.trace_model.specs.Sequences.{Sequence}
use Rattle.trace_buffer.specs.Clones.{made_from}
use Rattle.trace_buffer.specs.Unfinished.{unfinished_of}
use Rattle.trace_buffer.proofs.CopyLemmas.{few_places, parts_copied, fit_copied}
use Rattle.trace_buffer.proofs.PartLemmas.{items_of}
use Rattle.trace_buffer.proofs.UnfinishedLemmas.{counted_length}
use Rattle.trace_buffer.proofs.buffer.TraceBuffer.copy_from.Goals as goal

pub copy_from-requires-2 : goal.copy_from-requires-2
copy_from-requires-2 c =
    few_places c.other.inside.ring c.other.inside.index c.self.inside.index.capacity c.other.inside.rows.items c.other.invariant.parts
    (fit_copied c.self.inside c.other.inside c.args.self.now c.args.other.now c.self.view_is c.other.view_is c.requires.room c.requires.sequences c.self.invariant)
    c.place_next-few.ensures.few

pub copy_from-requires-3 : goal.copy_from-requires-3
copy_from-requires-3 c =
    let rows : length c.self.inside.rows.items ≡ length c.other.inside.rows.items =
    sym (length-map c.self.inside.rows.items made_from)
    ∙ ap length
    (ap (λ (b : Buffer). map made_from b.sequences) c.self.view_is ∙ c.requires.sequences ∙ sym (ap (λ (b : Buffer). map made_from b.sequences) c.other.view_is))
    ∙ length-map c.other.inside.rows.items made_from in
    counted_length c.self.inside.rows.items c.self.inside.ring.live c.self.inside.unfinished c.self.invariant.counted
    ∙ rows
    ∙ sym (counted_length c.other.inside.rows.items c.other.inside.ring.live c.other.inside.unfinished c.other.invariant.counted)

pub invariant_of-self : goal.invariant_of-self
invariant_of-self c =
    let rows : (with_items c.self.inside.rows c.copy_rows.new.rows).items ≡ c.other.inside.rows.items =
    items_of c.self.inside.rows c.copy_rows.new.rows (c.copy_rows.auto.rows ∙ ap length c.deref_mut.ensures.value)
    ∙ c.copy_rows.ensures ∙ c.deref.ensures.value in
    record {
      parts = parts_copied c.other.inside.ring c.copy_from.new.self c.other.inside.index c.self.inside.index c.copy_from-2.new.self c.other.inside.rows.items
          (with_items c.self.inside.rows c.copy_rows.new.rows).items c.other.invariant.parts
          (fit_copied c.self.inside c.other.inside c.args.self.now c.args.other.now c.self.view_is c.other.view_is c.requires.room c.requires.sequences c.self.invariant)
          c.copy_from.ensures c.copy_from-2.ensures rows;
      counted = c.copy_from-3.ensures ∙ c.other.invariant.counted
          ∙ ap₂ (λ (ss : List Sequence) (r : RingValue). unfinished_of ss r.live) (sym rows) (sym c.copy_from.ensures);
    }
