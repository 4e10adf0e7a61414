use Rattle.std.proofs.Common.{◌+◌, ◌∙◌, length, ap, arith}
use Rattle.page_geometry.specs.declared.chunk_header.ChunkHeader.{ChunkHeader}
use Rattle.page_geometry.specs.Header.{packed}
use Rattle.chunk_plain.specs.Views.{no_head}
use Rattle.chunk_plain.specs.Shows.{IsHeader}
use Rattle.chunk_words.specs.Knows.{view_of}
use Rattle.chunk_words.proofs.WriterMoves.{stamps_allowed}
use Rattle.chunk_words.proofs.host.HostTable.step_stamp.Goals as goal

pub make_store-requires-clause-allowed : goal.make_store-requires-clause-allowed
make_store-requires-clause-allowed c =
    let self = c.args.self.now in let seat = c.args.seat.now in
    let n = length (view_of seat.seat.me.0).begun in
    let is : IsHeader self.layout c.pack.result seat.place n no_head = record {
      word_is = c.pack.ensures.word ∙ ap (λ (i : _). let h : ChunkHeader = record { chunk_id = i; writer_id = seat.place + 1; count = 0; flags = 0 } in packed h) c.requires.id;
      position_fits = let few = c.requires.few_begun in omega (arith, few);
      writer_fits = let few = self.few_writers in let inside = c.requires.place in omega arith;
      count_fits = omega arith;
      flags_fit = omega arith;
    } in
    rw (self.key, c.spot-spot.ensures.spot, c.header_index.ensures.here, c.requires.seat.idle)
    (stamps_allowed self.layout _ seat.seat.id seat.place c.args.chunk c.pack.result (view_of seat.seat.me.0) c.requires.chunk c.requires.claimed c.requires.unstamped c.requires.few_begun is)
