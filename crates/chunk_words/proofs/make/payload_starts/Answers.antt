use Rattle.std.proofs.Common.{◌≡◌, ◌+◌, ◌<◌, ◌∙◌, List, length, get_or, ap, sym, arith}
use Rattle.chunk_plain.specs.declared.setup.Spot.{Spot}
use Rattle.chunk_plain.specs.Setup.{spot, no_spot}
use Rattle.chunk_words.specs.Places.{words_for, payload_start}
use Rattle.chunk_words.proofs.Making.{few_before, start_next, starts_more}
use Rattle.chunk_words.proofs.make.payload_starts.Goals as goal

pub overflow_add-next-in-loop-spot : goal.overflow_add-next-in-loop-spot
overflow_add-next-in-loop-spot c =
    let layout = c.args.layout.now in let at = c.loop-spot.spot-index in
    let size : (get_or c.spots-spot-items.result.now at no_spot).payload_size ≡ (spot layout at).payload_size = ap (λ (l : List Spot). (get_or l at no_spot).payload_size) c.spots-spot-items.ensures in
    let count : length c.spots-spot-items.result.now ≡ length layout.spots = ap (λ (l : List Spot). length l) c.spots-spot-items.ensures in
    let inside : at < length layout.spots = let less = c.loop-spot-test.true in omega (arith, less, count) in
    let low = few_before layout at c.requires.laid (omega arith) in let most = c.requires.laid.most at inside in let few = c.requires.laid.few in
    omega (arith, low, most, size, few, c.loop-spot.invariant.next_is, c.requires.pages, inside)

pub loop-spot-preserved : goal.loop-spot-preserved
loop-spot-preserved c =
    let layout = c.args.layout.now in let at = c.loop-spot.spot-index in
    record {
      starts = rw c.in_ok-push.ensures.items (starts_more layout at c.loop-spot.next c.loop-spot.starts.items c.loop-spot.invariant.starts c.loop-spot.invariant.next_is);
      next_is = ap (λ n. n + words_for (get_or c.spots-spot-items.result.now at no_spot).payload_size) c.loop-spot.invariant.next_is
          ∙ ap (λ (l : List Spot). payload_start layout at + words_for (get_or l at no_spot).payload_size) c.spots-spot-items.ensures ∙ sym (start_next layout at);
    }

pub overflow_add-result : goal.overflow_add-result
overflow_add-result c =
    let layout = c.args.layout.now in let at = c.loop-spot.spot-index in
    let count : length c.spots-spot-items.result.now ≡ length layout.spots = ap (λ (l : List Spot). length l) c.spots-spot-items.ensures in
    let ended = c.loop-spot.auto.spot-index-end in
    let low = few_before layout at c.requires.laid (omega (arith, ended, count)) in
    let few = c.requires.laid.few in
    omega (arith, low, few, c.loop-spot.invariant.next_is, c.requires.pages, ended, count)
