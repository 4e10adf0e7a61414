-- A handle of a writer and the parts of its box own what the box owns.
use mathlib.Core.List.{[]}
use mir.Syntax.{impl, tnil, dnil}
use denote.Signature.{Slot, plain}
use Rattle.std.proofs.BoxSteps.Form.{Bx}
use Rattle.std.specs.contracts.alloc.Global as Heap
use Rattle.std.specs.contracts.impls.GlobalAllocator.TheImpl.{ghosts, dict}
use Rattle.std.proofs.alloc.Global.TheLaws as heap
use Rattle.box_parts.specs.contracts.Parts as Parts
use Rattle.tracesmb_c.specs.contracts.writer.OwnedWriter as Inner
use Rattle.tracesmb_c.proofs.writer.OwnedWriter.TheLaws as inner
use Rattle.tracesmb_c.specs.contracts.writer_handle.RawWriter as Raw

-- the box, at the types of what is in it
abbrev pub E : Bx
E = record {
  row = Inner.the_row;
  laws = inner.the_row_laws;
  al = record
      { row = Heap.the_row; laws = heap.the_row_laws; g = ghosts; d = dict; drops = impl [] tnil dnil };
}

abbrev pub TheParts : Slot 0
TheParts = plain (λ _. Parts.the_row Inner.the_row Heap.the_row ghosts)

abbrev pub TheRaw : Slot 0
TheRaw = plain (λ _. Raw.the_row)

abbrev pub TheHeap : Slot 0
TheHeap = plain (λ _. Heap.the_row)
