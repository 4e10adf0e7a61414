use Rattle.std.proofs.Common.{◌≡◌, ◌+◌, ◌*◌, ◌/◌, ◌<◌, ◌≤◌, ◌∙◌, List, ℕ, length, refl, sym, ap, subst, arith}
use native.Mathlib.Decide.{dec_le}
use mathlib.Core.Logic.{dite}
use Rattle.chunk_plain.specs.Payload.{StoredUpTo}
use Rattle.chunk_plain.specs.Views.{Held, Draft}
use Rattle.chunk_plain.specs.Steps.{redrafts, with_words}
use Rattle.chunk_plain.specs.Drafts.{draft_at}
use Rattle.chunk_plain.specs.Words.{StaysOutside}
use Rattle.chunk_plain.proofs.Holding.{redrafts_draft}
use Rattle.chunk_plain.proofs.Publishing.{published_range, stored_range}
use Rattle.chunk_plain.proofs.Resting.{entry_rest}
use Rattle.chunk_words.specs.Knows.{view_of}
use Rattle.chunk_words.specs.Moves.{Mine}
use Rattle.chunk_words.proofs.Rests.{sits_now, held_of_table}
use Rattle.chunk_words.proofs.host.HostTable.publish.Goals as goal

pub store_words-requires-clause-chunk : goal.store_words-requires-clause-chunk
store_words-requires-clause-chunk c =
    let self = c.args.self.now in let seat = c.args.seat.now in
    held_of_table self.layout seat.place c.args.held.now.chunk c.args.held.now.position (view_of seat.seat.me.0) self.laid c.requires.seat.rests.rests c.requires.may.held

pub returns-clause-view : goal.returns-clause-view
returns-clause-view c =
    let seat = c.args.seat.now in let copy = c.args.held.now.body.payload.items in let position = c.args.held.now.position in let stores = c.store_words.ensures.me in
    let old = draft_at (view_of seat.seat.me.0) position in
    let whole : c.args.to ≤ length copy = let inside = c.requires.may.inside in let size = c.requires.may.size in let joined = c.args.held.now.body.payload.ok.0 in omega arith in
    let end = c.word_end-end.result in let order = c.requires.may.order in
    let most : 8 * end < c.args.to + 32 = dite (dec_le c.args.to c.args.from)
    (λ empty. let end_is = c.word_end-end.ensures.none empty in omega arith)
    (λ filled. let last = (c.word_end-end.ensures.some (omega arith)).1 in omega arith) in
    record {
      words = stores.words;
      bytes = published_range copy old.words stores.words c.args.from c.args.to c.word_end-end.result
          c.requires.may.order whole (λ less. (c.word_end-end.ensures.some less).0) most
          (subst (λ (l : List ℕ). StoredUpTo l (c.args.from / 8) c.word_end-end.result old.words stores.words) c.deref.ensures.value stores.stored);
      view = ap (λ (m : Mine). view_of m.0) stores.new_is;
    }

pub returns-clause-others : goal.returns-clause-others
returns-clause-others c =
    let view = view_of c.args.seat.now.seat.me.0 in let chunk = c.args.held.now.chunk in let position = c.args.held.now.position in let stores = c.store_words.ensures.me in
    let draft = with_words (draft_at view position) stores.words in
    let now : draft_at (view_of c.store_words.new.seat.seat.me.0) position ≡ draft
    = ap (λ (m : Mine). draft_at (view_of m.0) position) stores.new_is ∙ redrafts_draft view chunk position draft c.requires.may.held in
    subst (λ (d : Draft). StaysOutside c.args.from c.args.to (draft_at view position).words d.words) (sym now)
    (stored_range c.args.from c.args.to c.word_end-end.result (draft_at view position).words stores.words
    (λ less. (c.word_end-end.ensures.some less).1) c.word_end-end.ensures.none stores.stored.before stores.stored.behind)

pub returns-clause-seat : goal.returns-clause-seat
returns-clause-seat c =
    let self = c.args.self.now in let seat = c.args.seat.now in let chunk = c.args.held.now.chunk in let position = c.args.held.now.position in
    let view = view_of seat.seat.me.0 in let stores = c.store_words.ensures.me in
    let draft = with_words (draft_at view position) stores.words in
    sits_now self seat c.store_words.new.seat (redrafts view chunk position draft) c.requires.seat c.store_words.ensures.seat c.store_words.ensures.place stores.new_is
    (entry_rest self.layout seat.place view c.requires.seat.rests.rests chunk position (Held chunk draft) c.requires.may.held refl)
