use Rattle.std.proofs.Common.{◌+◌, ◌∙◌, ap, arith}
use Rattle.page_geometry.specs.declared.chunk_header.ChunkHeader.{ChunkHeader}
use Rattle.page_geometry.specs.Header.{packed}
use Rattle.chunk_plain.specs.Views.{Head}
use Rattle.chunk_plain.specs.Shows.{IsHeader}
use Rattle.chunk_words.specs.Knows.{view_of}
use Rattle.chunk_words.proofs.WriterMoves.{heads_allowed}
use Rattle.chunk_words.proofs.host.HostTable.step_header.Goals as goal

pub make_store-requires-clause-allowed : goal.make_store-requires-clause-allowed
make_store-requires-clause-allowed c =
    let self = c.args.self.now in let seat = c.args.seat.now in
    let head : Head = record { count = c.args.count; flags = c.args.flags } in
    let is : IsHeader self.layout c.pack.result seat.place c.args.position head = record {
      word_is = c.pack.ensures.word
          ∙ ap (λ (i : _). let h : ChunkHeader = record { chunk_id = i; writer_id = seat.place + 1; count = c.args.count; flags = c.args.flags } in packed h) c.id_at.ensures;
      position_fits = let fits = c.ranges.position.fits in omega arith;
      writer_fits = let few = self.few_writers in let inside = c.requires.place in omega arith;
      count_fits = let fits = c.requires.head.count_fits in omega arith;
      flags_fit = let fits = c.requires.head.flags_fit in omega arith;
    } in
    rw (self.key, c.header_index.ensures.here, c.requires.seat.idle)
    (heads_allowed self.layout _ seat.seat.id seat.place c.args.chunk c.args.position c.pack.result head (view_of seat.seat.me.0) c.requires.head.held is c.requires.head.follows c.requires.head.reads c.requires.head.inside)
