-- The told world behind the service's steps.
use Rattle.std.proofs.Common.{◌≡◌, ◌≢◌, ◌∙◌, ℕ, zero, suc, ◌+◌, ◌<◌, ◌≤◌, ◌⊎◌, List, [], ◌∷◌, length, get_or, set, Option, Some, refl, sym, ap, subst, arith, inl, inr}
use Rattle.std.proofs.Math.Logic.{∥∥₁_elim, ∥∥₁_map, ⊎_swap}
use Rattle.std.specs.Coded.{le_prop}
use Rattle.std.proofs.lemmas.Bool.{cases_eq}
use Rattle.std.proofs.lemmas.List.{get_or-set_other, set-set}
use Rattle.chunk_plain.specs.declared.tokens.TheConstants.{POSITION_LIMIT}
use Rattle.chunk_plain.specs.Setup.{Setup, range_of, producer_of, IsChunkOf}
use Rattle.chunk_plain.specs.Views.{At, BegunChunk, Held, Completed, Content, ServiceView, Taken, none_taken, taken_of}
use Rattle.chunk_plain.specs.World.{World, Status, Unclaimed, Claimed, Stamped, Writing, Ready, Reading, status, writer}
use Rattle.chunk_plain.specs.Steps.{served, serviced}
use Rattle.chunk_plain.specs.Owned.{IsOwned}
use Rattle.chunk_plain.specs.Words.{IsAtRest}
use Rattle.chunk_plain.proofs.Lists.{at_inside, at_some}
use Rattle.service_core.specs.Looking.{IsAmong}
use Rattle.service_core.specs.Told.{StandsBehind, NoneNext, NoneLeft, LeavesNone, LeavesNoneYet, LeavesNext, FreesOne, FreesNext, FindsState, FindsEach, FreesNone, FreesNoneOf, free_one, free_in, FreesSome, CompletesInOrder, AreOrderly, NoneReady}
use Rattle.service_core.proofs.LookLemmas.{among_parts}

-- One chunk is free

-- a chunk that is set free is free
pub freed_here : (chunks : List Status) (chunk : ℕ) → get_or (set chunks chunk Unclaimed) chunk Unclaimed ≡ Unclaimed
freed_here [] chunk = refl
freed_here (is ∷ chunks) zero = refl
freed_here (is ∷ chunks) (suc chunk) = freed_here chunks chunk

freed_or : (world : World) (view : ServiceView) (chunk other : ℕ) → (other ≡ chunk) ⊎ (other ≡ chunk → ⊥)
    → (status (served world view chunk Unclaimed) other ≡ status world other) ⊎ (status (served world view chunk Unclaimed) other ≡ Unclaimed)
freed_or world view chunk other (inl same) = inr (ap (λ (c : ℕ). get_or (set world.chunks chunk Unclaimed) c Unclaimed) same ∙ freed_here world.chunks chunk)
freed_or world view chunk other (inr differs) = inl (get_or-set_other world.chunks chunk other Unclaimed Unclaimed differs)

-- Steps one after another

pub behind_none : (world : World) (view : ServiceView) → view ≡ world.service → StandsBehind world view world
behind_none world view is = record { writers = refl; service = sym is; chunks = λ chunk. inl refl }

pub behind_serviced : (old mid : World) (before view : ServiceView) → StandsBehind old before mid → StandsBehind old view (serviced mid view)
behind_serviced old mid before view stands = record { writers = stands.writers; service = refl; chunks = stands.chunks }

same_or : (a b c : Status) → (a ≡ b) ⊎ (a ≡ Unclaimed) → (b ≡ c) ⊎ (b ≡ Unclaimed) → (a ≡ c) ⊎ (a ≡ Unclaimed)
same_or a b c (inr free) earlier = inr free
same_or a b c (inl same) (inl is) = inl (same ∙ is)
same_or a b c (inl same) (inr free) = inr (same ∙ free)

pub behind_both : (old mid new : World) (before view : ServiceView) → StandsBehind old before mid → StandsBehind mid view new → StandsBehind old view new
behind_both old mid new before view one two = record {
  writers = two.writers ∙ one.writers;
  service = two.service;
  chunks = λ chunk. same_or (status new chunk) (status mid chunk) (status old chunk) (two.chunks chunk) (one.chunks chunk);
}

pub behind_served : (old : World) (view : ServiceView) (chunk : ℕ) → StandsBehind old view (served old view chunk Unclaimed)
behind_served old view chunk = record { writers = refl; service = refl; chunks = λ other. freed_or old view chunk other (cases_eq other chunk) }

-- How many are free

free_least : (world : World) (first count : ℕ) → free_in world first count ≤ count
free_least world first zero = omega arith
free_least world first (suc count) = step (status world (first + count)) (free_least world first count)
  where
    step : (is : Status) → free_in world first count ≤ count → free_one is + free_in world first count ≤ suc count
    step Unclaimed rest = omega arith
    step (Claimed k) rest = omega arith
    step (Stamped k i) rest = omega arith
    step (Writing k i d) rest = omega arith
    step (Ready k i m) rest = omega arith
    step (Reading k i m) rest = omega arith

-- where as many are free as there are, each one is
all_free : (world : World) (first count chunk : ℕ) → count ≤ free_in world first count → first ≤ chunk → chunk < first + count → status world chunk ≡ Unclaimed
all_free world first zero chunk many least below = absurd (omega arith)
all_free world first (suc count) chunk many least below =
    step (status world (first + count)) refl many (cases_eq chunk (first + count))
    (λ more differs. all_free world first count chunk (omega (arith, more)) least (omega (arith, differs, below)))
  where
    none : suc count ≤ 0 + free_in world first count → ⊥
    none more = let most = free_least world first count in omega (arith, more, most)

    step : (is : Status) → status world (first + count) ≡ is → suc count ≤ free_one is + free_in world first count → (chunk ≡ first + count) ⊎ (chunk ≡ first + count → ⊥)
        → (suc count ≤ 1 + free_in world first count → (chunk ≡ first + count → ⊥) → status world chunk ≡ Unclaimed) → status world chunk ≡ Unclaimed
    step Unclaimed is more (inl same) rest = ap (status world) same ∙ is
    step Unclaimed is more (inr differs) rest = rest more differs
    step (Claimed k) is more which rest = absurd (none more)
    step (Stamped k i) is more which rest = absurd (none more)
    step (Writing k i d) is more which rest = absurd (none more)
    step (Ready k i m) is more which rest = absurd (none more)
    step (Reading k i m) is more which rest = absurd (none more)

free_same : (world next : World) (first count : ℕ) → ((chunk : ℕ) → first ≤ chunk → chunk < first + count → status next chunk ≡ status world chunk)
    → free_in next first count ≡ free_in world first count
free_same world next first zero same = refl
free_same world next first (suc count) same =
    ap (λ (is : Status). free_one is + free_in next first count) (same (first + count) (omega arith) (omega arith))
    ∙ ap (λ (n : ℕ). free_one (status world (first + count)) + n) (free_same world next first count (λ chunk least below. same chunk least (omega (arith, below))))

-- one more is free
free_more : (world next : World) (first count chunk : ℕ) → first ≤ chunk → chunk < first + count → free_one (status world chunk) ≡ 0 → status next chunk ≡ Unclaimed
    → ((other : ℕ) → other ≢ chunk → status next other ≡ status world other) → free_in next first count ≡ suc (free_in world first count)
free_more world next first zero chunk least below was is others = absurd (omega arith)
free_more world next first (suc count) chunk least below was is others =
    step (cases_eq chunk (first + count)) (λ differs. free_more world next first count chunk least (omega (arith, differs, below)) was is others)
  where
    step : (chunk ≡ first + count) ⊎ (chunk ≡ first + count → ⊥) → ((chunk ≡ first + count → ⊥) → free_in next first count ≡ suc (free_in world first count))
        → free_one (status next (first + count)) + free_in next first count ≡ suc (free_one (status world (first + count)) + free_in world first count)
    step (inl same) more =
        let now : free_one (status next (first + count)) ≡ 1 = ap (λ (c : ℕ). free_one (status next c)) (sym same) ∙ ap free_one is in
        let before : free_one (status world (first + count)) ≡ 0 = ap (λ (c : ℕ). free_one (status world c)) (sym same) ∙ was in
        let rest = free_same world next first count (λ other low high. others other (λ e. omega (arith, e, same, high))) in
        omega (arith, now, before, rest)
    step (inr differs) more =
        let here : free_one (status next (first + count)) ≡ free_one (status world (first + count)) = ap free_one (others (first + count) (λ e. differs (sym e))) in
        let rest = more differs in
        omega (arith, here, rest)

-- One chunk is taken, or isn't

pub frees_one : (place number count position chunk held : ℕ) (content : Content) (old : World) (told : Option World) (before view : ServiceView) → number ≡ place → position ≡ count → held ≡ chunk
    → ∥ status old chunk ≡ Ready number position content ∥₁ → told ≡ Some (served (served old before chunk (Reading number position content)) view held Unclaimed)
    → FreesOne place count chunk old told view
frees_one place number count position chunk held content old told before view place_is position_is chunk_is ready is = record {
  ready = ∥∥₁_map ready (λ r. (content, r ∙ (ap (λ (p : ℕ). Ready p position content) place_is ∙ ap (λ (i : ℕ). Ready place i content) position_is)));
  told_is = is ∙ (ap (λ (c : ℕ). Some (served (served old before chunk (Reading number position content)) view c Unclaimed)) chunk_is
      ∙ ap (λ (l : List Status). Some (record old { chunks = l; service = view })) (set-set old.chunks chunk (Reading number position content) Unclaimed));
}

pub frees_none : (place number count position chunk : ℕ) (old : World) (told : Option World) (view : ServiceView) → number ≡ place → position ≡ count
    → ((content : Content) → status old chunk ≡ Ready number position content → ⊥) → told ≡ Some (serviced old view) → FreesNone place count chunk old told view
frees_none place number count position chunk old told view place_is position_is isnt is = record {
  is = λ content ready. isnt content (ready ∙ (ap (λ (p : ℕ). Ready p count content) (sym place_is) ∙ ap (λ (i : ℕ). Ready number i content) (sym position_is)));
  told_is = is;
}

-- Chunk by chunk

module _ (IsState : Status → Type 0) where
  pub finds_begin : (first : ℕ) (old : World) (told : Option World) (view : ServiceView) → told ≡ Some old → view ≡ old.service → FindsEach IsState (IsAmong first first) old told view
  finds_begin first old told view is same = record {
    each = λ chunk among. let least = among.least in let below = among.below in absurd (omega (arith, least, below));
    told_is = is ∙ ap (λ (v : ServiceView). Some (serviced old v)) (sym same);
  }

  -- chunks behind others: the states are still those that were found at first
  finds_behind : (IsFirst IsSecond IsOne : ℕ → Type 0) (old : World) (mid told : Option World) (before view : ServiceView) → FindsEach IsState IsFirst old mid before
      → ((world : World) → mid ≡ Some world → FindsEach IsState IsSecond world told view) → ((chunk : ℕ) → IsOne chunk → IsFirst chunk ⊎ IsSecond chunk)
      → FindsEach IsState IsOne old told view
  finds_behind IsFirst IsSecond IsOne old mid told before view first more parts =
      let second = more (serviced old before) first.told_is in
      record { each = λ chunk is. by_part chunk (parts chunk is); told_is = second.told_is }
    where
      by_part : (chunk : ℕ) → IsFirst chunk ⊎ IsSecond chunk → IsState (status old chunk)
      by_part chunk (inl is) = first.each chunk is
      by_part chunk (inr is) = (more (serviced old before) first.told_is).each chunk is

  finds_one : (chunk : ℕ) (old : World) (told : Option World) (view : ServiceView) → FindsState IsState chunk old told view → FindsEach IsState (IsAmong chunk (chunk + 1)) old told view
  finds_one chunk old told view found = record {
    each = λ other among.
        let least = among.least in
        let below = among.below in
        let same : chunk ≡ other = omega (arith, least, below) in
        subst (λ (c : ℕ). IsState (status old c)) same found.is;
    told_is = found.told_is;
  }

  -- one chunk more
  pub finds_more : (first chunk : ℕ) (old : World) (mid told : Option World) (before view : ServiceView) → FindsEach IsState (IsAmong first chunk) old mid before
      → ((world : World) → mid ≡ Some world → FindsState IsState chunk world told view) → FindsEach IsState (IsAmong first (chunk + 1)) old told view
  finds_more first chunk old mid told before view found more =
      finds_behind (IsAmong first chunk) (IsAmong chunk (chunk + 1)) (IsAmong first (chunk + 1)) old mid told before view found (λ world is. finds_one chunk world told view (more world is))
      (among_parts first chunk (chunk + 1))

  -- one stretch of chunks, and then the one in front of it
  pub finds_both : (first middle last : ℕ) (old : World) (mid told : Option World) (before view : ServiceView) → FindsEach IsState (IsAmong middle last) old mid before
      → ((world : World) → mid ≡ Some world → FindsEach IsState (IsAmong first middle) world told view) → FindsEach IsState (IsAmong first last) old told view
  finds_both first middle last old mid told before view high more =
      finds_behind (IsAmong middle last) (IsAmong first middle) (IsAmong first last) old mid told before view high more (λ chunk is. ⊎_swap (among_parts first middle last chunk is))

  -- fewer chunks
  pub finds_fewer : (first last more : ℕ) (old : World) (told : Option World) (view : ServiceView) → last ≤ more → FindsEach IsState (IsAmong first more) old told view
      → FindsEach IsState (IsAmong first last) old told view
  finds_fewer first last more old told view most found = record {
    each = λ chunk among. let below = among.below in found.each chunk (record { least = among.least; below = omega (arith, below, most) });
    told_is = found.told_is;
  }

pub frees_behind : (setup : Setup) (place position first last : ℕ) (old : World) (mid told : Option World) (before view : ServiceView) → FreesNoneOf place position first last old mid before
    → ((world : World) → mid ≡ Some world → FreesNext setup place position world told view) → FreesNext setup place position old told view
frees_behind setup place position first last old mid told before view none more =
    let next = more (serviced old before) none.told_is in
    record { chunk = next.chunk; is = next.is; frees = record { ready = next.frees.ready; told_is = next.frees.told_is } }

-- one is found
pub frees_next : (setup : Setup) (place position first chunk : ℕ) (old : World) (mid told : Option World) (before view : ServiceView) → FreesNoneOf place position first chunk old mid before
    → IsChunkOf setup (producer_of setup place) chunk → ((world : World) → mid ≡ Some world → FreesOne place position chunk world told view) → FreesNext setup place position old told view
frees_next setup place position first chunk old mid told before view none is more =
    let next = more (serviced old before) none.told_is in
    record { chunk = chunk; is = is; frees = record { ready = next.ready; told_is = next.told_is } }

-- Chunks of one writer

pub frees_some_yet : (setup : Setup) (place : ℕ) (old : World) (told : Option World) (view : ServiceView) → told ≡ Some old → view ≡ old.service → FreesSome setup place 0 old told view
frees_some_yet setup place old told view is same = record { new = old; told_is = is; stands = behind_none old view same; freed = omega arith }

pub frees_some_more : (setup : Setup) (place taken position : ℕ) (old : World) (mid told : Option World) (before view : ServiceView) → FreesSome setup place taken old mid before
    → ((world : World) → mid ≡ Some world → FreesNext setup place position world told view) → FreesSome setup place (taken + 1) old told view
frees_some_more setup place taken position old mid told before view some more =
    let next = more some.new some.told_is in
    let range = range_of setup (producer_of setup place) in
    let new : World = served some.new view next.chunk Unclaimed in
    record {
      new = new;
      told_is = next.frees.told_is;
      stands = behind_both old some.new new before view some.stands (behind_served some.new view next.chunk);
      freed = ∥∥₁_elim next.frees.ready (hlevel le_prop) (λ ready.
          let least = next.is.least in
          let below = next.is.below in
          let grows = free_more some.new new range.first range.count next.chunk least below (ap free_one ready.1) (freed_here some.new.chunks next.chunk)
          (λ other differs. get_or-set_other some.new.chunks next.chunk other Unclaimed Unclaimed differs) in
          let before = some.freed in
          omega (arith, grows, before));
    }

-- as many were taken as the producer has
pub none_by_count : (setup : Setup) (place taken : ℕ) (old : World) (told : Option World) (view : ServiceView) → FreesSome setup place taken old told view
    → (range_of setup (producer_of setup place)).count ≤ taken → LeavesNext setup place old told view
none_by_count setup place taken old told view some all = record {
  new = some.new;
  told_is = some.told_is;
  stands = some.stands;
  none = λ chunk content is left ready.
      let range = range_of setup (producer_of setup place) in
      let many = some.freed in
      let free = all_free some.new range.first range.count chunk (omega (arith, many, all)) is.least is.below in
      absurd (cc (ready, free));
}

-- the writer has no position left
pub none_by_ids : (setup : Setup) (place taken : ℕ) (old : World) (told : Option World) (view : ServiceView) → FreesSome setup place taken old told view
    → POSITION_LIMIT ≤ (taken_of view place).count → LeavesNext setup place old told view
none_by_ids setup place taken old told view some last = record {
  new = some.new;
  told_is = some.told_is;
  stands = some.stands;
  none = λ chunk content is left ready.
      let same : (taken_of some.new.service place).count ≡ (taken_of view place).count = ap (λ (v : ServiceView). (taken_of v place).count) some.stands.service in
      omega (arith, same, left, last);
}

-- none was found
pub none_by_looks : (setup : Setup) (place taken : ℕ) (old : World) (mid told : Option World) (before view : ServiceView) → FreesSome setup place taken old mid before
    → (taken_of view place).count ≡ (taken_of before place).count
    → ((world : World) → mid ≡ Some world → FreesNoneOf place (taken_of before place).count (range_of setup (producer_of setup place)).first
    ((range_of setup (producer_of setup place)).first + (range_of setup (producer_of setup place)).count) world told view)
    → LeavesNext setup place old told view
none_by_looks setup place taken old mid told before view some same more =
    let none = more some.new some.told_is in
    record {
      new = serviced some.new view;
      told_is = none.told_is;
      stands = behind_serviced old some.new before view some.stands;
      none = λ chunk content is left ready. none.each chunk (record { least = is.least; below = is.below }) content (ready ∙ ap (λ (n : ℕ). Ready place n content) same);
    }

-- Writer by writer

pub leaves_yet : (setup : Setup) (producer : ℕ) (old : World) (told : Option World) (view : ServiceView) → told ≡ Some old → view ≡ old.service → LeavesNoneYet setup producer 0 old told view
leaves_yet setup producer old told view is same = record {
  new = old;
  told_is = is;
  stands = behind_none old view same;
  none_left = λ place below inside named. absurd (omega arith);
}

pub leaves_skip : (setup : Setup) (producer first : ℕ) (old : World) (told : Option World) (view : ServiceView) → LeavesNoneYet setup producer first old told view
    → producer_of setup first ≢ producer → LeavesNoneYet setup producer (first + 1) old told view
leaves_skip setup producer first old told view leaves differs = record {
  new = leaves.new;
  told_is = leaves.told_is;
  stands = leaves.stands;
  none_left = λ place below inside named. leaves.none_left place (step place below named (cases_eq place first)) inside named;
}
  where
    step : (place : ℕ) → place < first + 1 → producer_of setup place ≡ producer → (place ≡ first) ⊎ (place ≡ first → ⊥) → place < first
    step place below named (inl is) = absurd (differs (ap (producer_of setup) (sym is) ∙ named))
    step place below named (inr other) = omega (arith, below, other)

-- a chunk that isn't ready doesn't become so
not_ready : (old new : World) (chunk place position : ℕ) (content : Content) → (status new chunk ≡ status old chunk) ⊎ (status new chunk ≡ Unclaimed) → status new chunk ≡ Ready place position content
    → status old chunk ≡ Ready place position content
not_ready old new chunk place position content (inl same) ready = sym same ∙ ready
not_ready old new chunk place position content (inr free) ready = absurd (cc (ready, free))

pub none_stays : (setup : Setup) (place : ℕ) (old new : World) (view : ServiceView) → NoneNext setup place old → StandsBehind old view new
    → (taken_of new.service place).count ≡ (taken_of old.service place).count → NoneNext setup place new
none_stays setup place old new view none stands same chunk content is left ready =
    none chunk content is (omega (arith, same, left))
    (not_ready old new chunk place (taken_of old.service place).count content (stands.chunks chunk) (ready ∙ ap (λ (n : ℕ). Ready place n content) same))

pub leaves_add : (setup : Setup) (producer first : ℕ) (old : World) (mid told : Option World) (before view : ServiceView) → LeavesNoneYet setup producer first old mid before
    → ((other : ℕ) → other ≢ first → (taken_of view other).count ≡ (taken_of before other).count)
    → ((world : World) → mid ≡ Some world → LeavesNext setup first world told view) → LeavesNoneYet setup producer (first + 1) old told view
leaves_add setup producer first old mid told before view leaves others more =
    let next = more leaves.new leaves.told_is in
    record {
      new = next.new;
      told_is = next.told_is;
      stands = behind_both old leaves.new next.new before view leaves.stands next.stands;
      none_left = λ place below inside named. step place below inside named (cases_eq place first);
    }
  where
    step : (place : ℕ) → place < first + 1 → place < length setup.writers → producer_of setup place ≡ producer → (place ≡ first) ⊎ (place ≡ first → ⊥) → NoneNext setup place (more leaves.new leaves.told_is).new
    step place below inside named (inl same) = subst (λ (p : ℕ). NoneNext setup p (more leaves.new leaves.told_is).new) (sym same) (more leaves.new leaves.told_is).none
    step place below inside named (inr differs) =
        let next = more leaves.new leaves.told_is in
        none_stays setup place leaves.new next.new view (leaves.none_left place (omega (arith, below, differs)) inside named) next.stands
        (ap (λ (v : ServiceView). (taken_of v place).count) next.stands.service ∙ others place differs
        ∙ sym (ap (λ (v : ServiceView). (taken_of v place).count) leaves.stands.service))

pub leaves_all : (setup : Setup) (producer first : ℕ) (old : World) (told : Option World) (view : ServiceView) → LeavesNoneYet setup producer first old told view → length setup.writers ≤ first
    → LeavesNone setup producer old told view
leaves_all setup producer first old told view leaves all = record {
  new = leaves.new;
  told_is = leaves.told_is;
  stands = leaves.stands;
  none_left = λ place inside named. leaves.none_left place (omega (arith, inside, all)) inside named;
}

-- a step by which the service's view alone changes, and not what was taken
pub leaves_noted : (setup : Setup) (producer : ℕ) (old : World) (mid told : Option World) (before view : ServiceView) → LeavesNone setup producer old mid before
    → view.taken ≡ before.taken → ((world : World) → mid ≡ Some world → told ≡ Some (serviced world view)) → LeavesNone setup producer old told view
leaves_noted setup producer old mid told before view leaves same more =
    let mid_world = leaves.new in
    let next : World = serviced mid_world view in
    record {
      new = next;
      told_is = more mid_world leaves.told_is;
      stands = behind_serviced old mid_world before view leaves.stands;
      none_left = λ place inside named.
          none_stays setup place mid_world next view (leaves.none_left place inside named) (record { writers = refl; service = refl; chunks = λ chunk. inl refl })
          (ap (λ (ts : List Taken). (get_or ts place none_taken).count) same ∙ sym (ap (λ (v : ServiceView). (taken_of v place).count) leaves.stands.service));
    }

-- What is left of writers that complete their chunks in order: nothing that is ready

pub none_ready : (setup : Setup) (producer : ℕ) (world : World) → ∥ IsOwned world ∥₁ → AreOrderly setup producer world → NoneLeft setup producer world → NoneReady setup producer world
none_ready setup producer world owned orderly none place inside named chunk position content is ready =
    ∥∥₁_elim owned (λ a b. absurd a) (λ o.
    let at = (o.owns place chunk).ready_is position content ready in
    let view = writer world place in
    let count : ℕ = (taken_of world.service place).count in
    let low = at_inside view.begun (Completed chunk content) position at.0 in
    let least = at.1 in
    let most = writes.2 in
    let left : count < POSITION_LIMIT = omega (arith, low, least, most) in
    let here = at_some view.begun count (omega (arith, low, least)) in
    step o at.0 least left here.0 here.1 (cases_eq position count))
  where
    own : IsChunkOf setup (producer_of setup place) chunk
    own = subst (λ (p : ℕ). IsChunkOf setup p chunk) (sym named) is

    writes : IsAtRest setup place (writer world place) × CompletesInOrder (writer world place) × (length (writer world place).begun ≤ POSITION_LIMIT)
    writes = orderly place inside named

    step : IsOwned world → At (writer world place).begun position (Completed chunk content) → (taken_of world.service place).count ≤ position → (taken_of world.service place).count < POSITION_LIMIT
        → (entry : BegunChunk) → At (writer world place).begun (taken_of world.service place).count entry
        → (position ≡ (taken_of world.service place).count) ⊎ (position ≡ (taken_of world.service place).count → ⊥) → ⊥
    step o done least left entry here (inl same) = none place inside named chunk content own left (ready ∙ ap (λ (n : ℕ). Ready place n content) same)
    step o done least left (Held about draft) here (inr differs) =
        let before = writes.1 (taken_of world.service place).count position about chunk draft content here done in omega (arith, least, before)
    step o done least left (Completed about other) here (inr differs) =
        none place inside named about other (writes.0.begun (taken_of world.service place).count (Completed about other) here) left
        ((o.owns place about).completed_is (taken_of world.service place).count other here (omega arith))
