use Rattle.std.proofs.Common.{◌≡◌, ◌+◌, ◌*◌, length, drop, refl, ap, subst, ◌∙◌, arith}
use Rattle.std.proofs.lemmas.List.{get_or-drop, length-drop, drop-drop}
use Rattle.chunk_plain.specs.Payload.{StoredUpTo, byte_in}
use Rattle.chunk_plain.proofs.Publishing.{stored_none, stored_next}
use Rattle.chunk_plain.proofs.bytes.pack_all.Goals as goal

pub loop-index-init : goal.loop-index-init
loop-index-init c = record { stored = stored_none c.args.from.now 0 c.args.words.now; rest = refl }

pub split_word-word-requires : goal.split_word-word-requires
split_word-word-requires c =
    let all = c.requires in let more = c.loop-index-test.true in
    let long = length-drop (8 * c.loop-index.index) c.args.from.now in
    let same = ap length c.loop-index.invariant.rest in
    omega arith

pub loop-index-preserved : goal.loop-index-preserved
loop-index-preserved c =
    let from = c.args.from.now in let index = c.loop-index.index in
    let more = c.loop-index-test.true in let many = c.loop-index.auto.words in
    record {
      stored = stored_next from 0 index c.split_word-word.result.0 c.args.words.now c.loop-index.words (omega arith) (omega arith)
          (λ m below inside. c.split_word-word.ensures.word m below ∙ ap (λ l. byte_in l m) c.loop-index.invariant.rest ∙ get_or-drop (8 * index) from m 0)
          c.loop-index.invariant.stored;
      rest = c.split_word-word.ensures.behind ∙ ap (drop 8) c.loop-index.invariant.rest ∙ drop-drop 8 (8 * index) from
          ∙ ap (λ n. drop n from) (let next : 8 * index + 8 ≡ 8 * (index + 1) = omega arith in next);
    }

pub returns : goal.returns
returns c =
    let over = c.loop-index-test.false in let ended = c.loop-index.auto.index-end in
    let here : c.loop-index.index ≡ length c.args.words.now = omega arith in
    subst (λ n. StoredUpTo c.args.from.now 0 n c.args.words.now c.loop-index.words) here c.loop-index.invariant.stored
