-- The sums are raised from the first request that the writer hadn't answered.
use Rattle.std.proofs.Common.{◌≡◌, ◌∙◌, ℕ, suc, ◌+◌, ◌<◌, List, length, length-set, get_or, set, vec_len, sym, ap, subst, inl, inr, arith}
use Rattle.std.proofs.lemmas.Bool.{cases_eq}
use Rattle.std.proofs.lemmas.List.{get_or-set_same, get_or-set_other, get_or_read}
use Rattle.thread_host.specs.Tally.{newest_read}
use Rattle.thread_host.proofs.TallyLemmas.{sum_small, tally_added}
use Rattle.thread_host.proofs.tally.Tally.add.Goals as goal

pub overflow_add-index_mut : goal.overflow_add-index_mut
overflow_add-index_mut c =
    let requests = c.requires.tally.0 in let writers = c.requires.tally.1 in let letters = c.requires.tally.2 in let tally = c.requires.tally.3 in
    let i = c.loop-index.invariant in
    let index : ℕ = c.loop-index.index in
    let test = c.loop-index-test.true in
    let room = c.requires.room in let rows = tally.rows in let ok = c.args.self.now.sums.ok.0 in let long = i.long in
    let inside : index < length c.loop-index.self.sums.items = omega (arith, test, room, ok, long) in
    let read = get_or_read c.loop-index.self.sums.items index c.index_mut.result.now inside c.index_mut.ensures.value 0 in
    let was = i.same index (omega arith) in
    let is = tally.sums index (omega (arith, test, room, rows)) in
    let small = sum_small (suc index) writers letters tally.small in
    let few = tally.few in
    let from = c.from.ensures in
    let fits = c.ranges.chunks.fits in
    omega (arith, read, was, is, small, few, from, fits)

pub loop-index-preserved : goal.loop-index-preserved
loop-index-preserved c =
    let i = c.loop-index.invariant in
    let items : List ℕ = c.loop-index.self.sums.items in
    let index : ℕ = c.loop-index.index in
    let value : ℕ = c.index_mut.result.now + c.from.result in
    let test = c.loop-index-test.true in
    let room = c.requires.room in let ok = c.args.self.now.sums.ok.0 in let long = i.long in
    let inside : index < length items = omega (arith, test, room, ok, long) in
    let read : c.index_mut.result.now ≡ get_or items index 0 = get_or_read items index c.index_mut.result.now inside c.index_mut.ensures.value 0 in
    let was = i.same index (omega arith) in
    let more = c.from.ensures in
    let least = c.loop-index.auto.index in
    let many = c.args.self.now.answered.ok.0 in let there = c.requires.place in
    let from : c.index-index.result.now ≡ get_or c.args.self.now.answered.items c.args.place 0 =
    get_or_read c.args.self.now.answered.items c.args.place c.index-index.result.now (omega (arith, many, there)) c.index-index.ensures 0 in
    record {
      answered = i.answered;
      long = length-set items index value ∙ i.long;
      same = λ k above. get_or-set_other items index k value 0 (λ at. omega (arith, above, at)) ∙ i.same k (omega (arith, above));
      below = λ k early. get_or-set_other items index k value 0 (λ at. omega (arith, early, at, from, least)) ∙ i.below k early;
      raised = λ k late here. elim (cases_eq k index) [
        | inl at ↦
            (let sum : value ≡ get_or c.args.self.now.sums.items index 0 + c.args.chunks = omega (arith, was, read, more) in
            ap (λ (n : ℕ). get_or (set items index value) n 0) at ∙ get_or-set_same items index value 0 inside ∙ sum
            ∙ ap (λ (n : ℕ). get_or c.args.self.now.sums.items n 0 + c.args.chunks) (sym at))
        | inr apart ↦ get_or-set_other items index k value 0 apart ∙ i.raised k late (omega (arith, here, apart))
      ];
    }

pub returns : goal.returns
returns c = record {
  tally = λ requests writers letters tally.
      let i = c.loop-index.invariant in
      let place : ℕ = c.args.place in
      let flush : ℕ = c.args.flush in
      let answered : List ℕ = c.loop-index.self.answered.items in
      let many = tally.many in let ok = c.args.self.now.answered.ok.0 in let there = c.requires.place in
      let inside : place < writers = omega (arith, many, there) in
      let read : get_or c.args.self.now.answered.items place 0 ≡ newest_read place letters = tally.answered place inside in
      let newer = c.requires.newer in
      let room = c.requires.room in let rows = tally.rows in
      let out = c.loop-index-test.false in
      let bound = c.loop-index.auto.index-end in
      let from : c.index-index.result.now ≡ get_or c.args.self.now.answered.items place 0 =
      get_or_read c.args.self.now.answered.items place c.index-index.result.now (omega (arith, ok, there)) c.index-index.ensures 0 in
      let end : c.loop-index.index ≡ flush = omega (arith, out, bound, from, newer) in
      let within : place < length answered = subst (λ (v : _). place < length v.items) (sym i.answered) (omega (arith, ok, there)) in
      tally_added requests writers place flush c.args.chunks letters c.args.self.now _ inside (omega (arith, read, newer))
      (omega (arith, room, rows)) c.ranges.chunks.fits tally (let long = i.long in let own = c.args.self.now.sums.ok.0 in let now = c.loop-index.self.sums.ok.0 in omega (arith, long, own, now))
      (ap (λ (v : _). vec_len v) i.answered)
      (λ k early. i.below k (omega (arith, early, read)))
      (λ k late here. i.raised k (omega (arith, late, read)) (omega (arith, here, end)))
      (λ k beyond. i.same k (omega (arith, beyond, end)))
      (get_or-set_same answered place flush 0 within)
      (λ other apart. get_or-set_other answered place other flush 0 apart ∙ ap (λ (v : _). get_or v.items other 0) i.answered);
}
