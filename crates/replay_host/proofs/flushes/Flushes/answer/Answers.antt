-- The sums are raised from the first request that the writer hadn't answered.
use Rattle.std.proofs.Common.{◌≡◌, ◌∙◌, ℕ, ◌+◌, ◌<◌, List, [], ◌∷◌, ◌++◌, length, length-set, get_or, set, replicate, vec_len, sym, ap, subst, inl, inr, arith, length-append, append-nil}
use Rattle.std.proofs.lemmas.Bool.{cases_eq}
use Rattle.std.proofs.lemmas.List.{get_or-set_same, get_or-set_other, get_or_append_left, get_or_read}
use Rattle.replay_model.specs.ActNotes.{Answered, answers_in}
use Rattle.replay_model.specs.Flushes.{flush_sums}
use Rattle.replay_host.specs.Tally.{nobody, answered_by}
use Rattle.replay_host.proofs.TallyLemmas.{raised_from, raised_long, raised_is, sums_answer, answered_own, answered_other, answered_most, fits_append, sums_small, told_append}
use Rattle.replay_host.proofs.flushes.Flushes.answer.Goals as goal

-- the first request that the writer hadn't answered, as it is read
from_is : (answered : List ℕ) (place read writers : ℕ) → place < writers → length answered ≡ writers → read ≡ get_or answered place read → read ≡ get_or answered place 0
from_is answered place read writers below long is = get_or_read answered place read (omega (arith, below, long)) is 0

-- a sum as it is read
sum_is : (items was sums : List ℕ) (room flush read : ℕ) → was ≡ sums ++ replicate room 0 → length items ≡ length was → flush < length sums
    → get_or items flush 0 ≡ get_or was flush 0 → read ≡ get_or items flush read → read ≡ get_or sums flush 0
sum_is items was sums room flush read was_is long inside same is =
    let wide = ap (λ (xs : List ℕ). length xs) was_is ∙ length-append sums (replicate room 0) in
    get_or_read items flush read (omega (arith, wide, long, inside)) is 0 ∙ same
    ∙ ap (λ (xs : List ℕ). get_or xs flush 0) was_is ∙ get_or_append_left sums (replicate room 0) 0 flush inside

pub overflow_add-index_mut : goal.overflow_add-index_mut
overflow_add-index_mut c =
    let tally = c.requires.2 in
    let sums : List ℕ = flush_sums c.requires.0 (nobody c.requires.1) in
    let small = sums_small c.requires.1 c.loop-flush.flush c.requires.0 tally.notes_fit in
    let few = tally.few in
    let made = tally.made in
    let test = c.loop-flush-test.true in
    let i = c.loop-flush.invariant in
    let inside : c.loop-flush.flush < length sums = omega (arith, made, test) in
    let read = sum_is c.loop-flush.self.chunks.items c.args.self.now.chunks.items sums tally.room c.loop-flush.flush c.index_mut.result.now tally.chunks i.long inside
    (i.same c.loop-flush.flush (omega arith)) c.index_mut.ensures.value in
    let from = c.from.ensures in
    let fits = c.ranges.chunks.fits in
    omega (arith, small, few, read, from, fits)

pub loop-flush-preserved : goal.loop-flush-preserved
loop-flush-preserved c =
    let tally = c.requires.2 in
    let sums : List ℕ = flush_sums c.requires.0 (nobody c.requires.1) in
    let items : List ℕ = c.loop-flush.self.chunks.items in
    let flush : ℕ = c.loop-flush.flush in
    let value : ℕ = c.index_mut.result.now + c.from.result in
    let made = tally.made in
    let test = c.loop-flush-test.true in
    let i = c.loop-flush.invariant in
    let many = tally.many in
    let joined = c.args.self.now.answered.ok.0 in
    let from = from_is c.args.self.now.answered.items c.args.place c.index-flush.result.now c.requires.1 c.requires.3 (omega (arith, many, joined)) c.index-flush.ensures in
    let least = c.loop-flush.auto.flush in
    let inside : flush < length sums = omega (arith, made, test) in
    let wide = ap (λ (xs : List ℕ). length xs) tally.chunks ∙ length-append sums (replicate tally.room 0) in
    let long = i.long in
    let within : flush < length items = omega (arith, inside, wide, long) in
    let was : get_or items flush 0 ≡ get_or c.args.self.now.chunks.items flush 0 = i.same flush (omega arith) in
    let read : c.index_mut.result.now ≡ get_or items flush 0 = get_or_read items flush c.index_mut.result.now within c.index_mut.ensures.value 0 in
    let more = c.from.ensures in
    record {
      made = i.made;
      answered = i.answered;
      told = i.told;
      long = length-set items flush value ∙ i.long;
      same = λ k above. get_or-set_other items flush k value 0 (λ at. omega (arith, above, at)) ∙ i.same k (omega (arith, above));
      below = λ k early. get_or-set_other items flush k value 0 (λ at. omega (arith, early, at, from, least)) ∙ i.below k early;
      raised = λ k late here. elim (cases_eq k flush) [
        | inl at ↦
            (let sum : value ≡ get_or c.args.self.now.chunks.items flush 0 + c.args.chunks = omega (arith, was, read, more) in
            ap (λ (n : ℕ). get_or (set items flush value) n 0) at ∙ get_or-set_same items flush value 0 within ∙ sum
            ∙ ap (λ (n : ℕ). get_or c.args.self.now.chunks.items n 0 + c.args.chunks) (sym at))
        | inr apart ↦ get_or-set_other items flush k value 0 apart ∙ i.raised k late (omega (arith, here, apart))
      ];
    }

pub returns-clause-tally : goal.returns-clause-tally
returns-clause-tally c notes writers tally =
    let sums : List ℕ = flush_sums notes (nobody writers) in
    let place : ℕ = c.args.place in
    let from : ℕ = get_or c.args.self.now.answered.items place 0 in
    let i = c.loop-flush.invariant in
    let many = tally.many in
    let same_count = c.requires.2.many in
    let below : place < writers = omega (arith, many, same_count, c.requires.3) in
    let joined = c.args.self.now.answered.ok.0 in
    let from_read = from_is c.args.self.now.answered.items place c.index-flush.result.now writers below (omega (arith, many, joined)) c.index-flush.ensures in
    let from_said : from ≡ answered_by place notes = tally.answered place below in
    let most = answered_most place notes (nobody writers) in
    let made = tally.made in
    let stays = i.made in
    let out = c.loop-flush-test.false in
    let bound = c.loop-flush.auto.flush-end in
    let end : c.loop-flush.flush ≡ length sums = omega (arith, made, out, bound, from_read, from_said, most) in
    let raised = raised_is from c.args.chunks tally.room c.loop-flush.flush sums c.args.self.now.chunks.items c.loop-flush.self.chunks.items tally.chunks i.long end i.same i.below i.raised in
    let next = sums_answer place c.args.chunks notes writers below in
    let fits = c.ranges.chunks.fits in
    let wide : length (flush_sums (notes ++ Answered place c.args.chunks ∷ []) (nobody writers)) ≡ length sums =
    ap (λ (xs : List ℕ). length xs) next ∙ raised_long (answered_by place notes) c.args.chunks sums in
    let within : place < length c.loop-flush.self.answered.items =
    subst (λ (v : _). place < length v.items) (sym i.answered) (omega (arith, below, many, joined)) in
    record {
      few = tally.few;
      many = ap (λ (v : _). vec_len v) i.answered ∙ tally.many;
      notes_fit = fits_append writers notes (Answered place c.args.chunks ∷ []) tally.notes_fit (below, fits, tt);
      room = tally.room;
      chunks = raised ∙ ap (λ (n : ℕ). raised_from n c.args.chunks sums ++ replicate tally.room 0) from_said
          ∙ ap (λ (xs : List ℕ). xs ++ replicate tally.room 0) (sym next);
      made = i.made ∙ made ∙ sym wide;
      answered = λ other inside. elim (cases_eq other place) [
        | inl at ↦
            ap (λ (n : ℕ). get_or (set c.loop-flush.self.answered.items place c.loop-flush.self.made) n 0) at
            ∙ get_or-set_same c.loop-flush.self.answered.items place c.loop-flush.self.made 0 within ∙ i.made ∙ made
            ∙ sym (answered_own place c.args.chunks notes (nobody writers)) ∙ ap (λ (n : ℕ). answered_by n (notes ++ Answered place c.args.chunks ∷ [])) (sym at)
        | inr apart ↦
            get_or-set_other c.loop-flush.self.answered.items place other c.loop-flush.self.made 0 apart
            ∙ ap (λ (v : _). get_or v.items other 0) i.answered ∙ tally.answered other inside
            ∙ sym (answered_other other place c.args.chunks notes (λ at. apart (sym at)))
      ];
      told = ap (λ (v : _). v.items) i.told ∙ tally.told ∙ sym (told_append notes (Answered place c.args.chunks ∷ []) ∙ append-nil (answers_in notes));
    }
