use Rattle.std.proofs.Common.{refl}
use Rattle.chunk_plain.proofs.Resting as resting
use Rattle.std.proofs.Common.{◌≡◌, ◌<◌, ◌∙◌, get_or, length, ap, subst, rules, true, false, not}
use Rattle.std.proofs.lemmas.Grind.{get_or_default_zero}
use Rattle.chunk_plain.proofs.Known as known
use Rattle.chunk_plain.proofs.plain_words.PlainTableWords.claim_try.Goals as goal
use Rattle.std.proofs.Common.{Some}
use Rattle.page_geometry.specs.PageBits.{IsClaimed}
use Rattle.chunk_plain.specs.declared.step.Step.TheVariants.{Claim}
use Rattle.chunk_plain.specs.Views.{WriterView}
use Rattle.chunk_plain.specs.World.{World, Unclaimed, Claimed, status, writer}
use Rattle.chunk_plain.specs.Steps.{claims, moved, with_writer_view}
use Rattle.chunk_plain.specs.Plain.{world_after}

pub invariant_of-self-clause-kept : goal.invariant_of-self-clause-kept
invariant_of-self-clause-kept c = let self = c.args.self.now in
    let at = c.spot-spot.result in let found = c.index-found.result.now in let place = c.args.seat.now.place in
    let inside : at.page < length self.words.items = search rules in
    let inside_c : c.args.chunk < length self.layout.spots = search rules in
    let is : found ≡ get_or self.words.items at.page 0 = c.index-found.ensures ∙ get_or_default_zero self.words.items at.page found inside in
    let next_is = subst (λ b. c.make_step.new.told.world ≡ world_after self.told.world (Claim place c.args.chunk found (not b))) c.if-claimed.true c.make_step.ensures.world in
    known.claim_vain self.layout self.words.items self.slots.items self.told.world self.kept c.make_step.new.told.world place c.args.chunk found at c.spot-spot.ensures.spot self.laid c.requires.seat.inside inside_c c.requires.chunk is
    (c.claimed-claimed.ensures.0 c.if-claimed.true) next_is

pub invariant_of-self-2-clause-kept : goal.invariant_of-self-2-clause-kept
invariant_of-self-2-clause-kept c = let self = c.args.self.now in
    let at = c.spot-spot.result in let found = c.index-found.result.now in
    let inside : at.page < length self.words.items = search rules in
    let inside_c : c.args.chunk < length self.layout.spots = search rules in
    let is : found ≡ get_or self.words.items at.page 0 = c.index-found.ensures ∙ get_or_default_zero self.words.items at.page found inside in
    known.claim_step self.layout self.words.items self.slots.items self.told.world self.kept c.make_step-2.new.told.world c.args.seat.now.place c.args.chunk found c.with_claim.result c.claimed-claimed.result at c.spot-spot.ensures.spot self.laid c.requires.seat.inside inside_c c.requires.chunk is
    c.with_claim.ensures.step c.with_claim.ensures.others c.claimed-claimed.ensures c.make_step-2.ensures.world

pub returns-then-claimed-clause-lost : goal.returns-then-claimed-clause-lost
returns-then-claimed-clause-lost c =
    let self = c.args.self.now in
    let at = c.spot-spot.result in let found = c.index-found.result.now in let place = c.args.seat.now.place in
    let next_is = subst (λ b. c.make_step.new.told.world ≡ world_after self.told.world (Claim place c.args.chunk found (not b))) c.if-claimed.true c.make_step.ensures.world in
    record {
      found = found;
      fresh = λ won. absurd cc;
      bit = known.bit_set self.layout c.args.chunk found at c.spot-spot.ensures.spot (c.claimed-claimed.ensures.0 c.if-claimed.true);
      view = known.view_now self.layout self.words.items self.slots.items self.told.world self.kept c.make_step.new.told.world place (claims (writer self.told.world place) c.args.chunk found false) c.requires.seat.inside (ap (λ (w : World). w.writers) next_is);
    }

pub returns-then-claimed-clause-had : goal.returns-then-claimed-clause-had
returns-then-claimed-clause-had c =
    let self = c.args.self.now in
    let at = c.spot-spot.result in let found = c.index-found.result.now in let place = c.args.seat.now.place in
    let inside : at.page < length self.words.items = search rules in
    let inside_c : c.args.chunk < length self.layout.spots = search rules in
    let is : found ≡ get_or self.words.items at.page 0 = c.index-found.ensures ∙ get_or_default_zero self.words.items at.page found inside in
    let next_is = subst (λ b. c.make_step.new.told.world ≡ world_after self.told.world (Claim place c.args.chunk found (not b))) c.if-claimed.true c.make_step.ensures.world in
    known.claim_had self.layout self.words.items self.slots.items self.told.world self.kept c.make_step.new.told.world place c.args.chunk found at c.spot-spot.ensures.spot self.laid c.requires.seat.inside inside_c c.requires.chunk is
    (c.claimed-claimed.ensures.0 c.if-claimed.true) next_is

pub returns-then-claimed-clause-told : goal.returns-then-claimed-clause-told
returns-then-claimed-clause-told c = λ world e.
    let self = c.args.self.now in
    let at = c.spot-spot.result in let found = c.index-found.result.now in let place = c.args.seat.now.place in
    let inside : at.page < length self.words.items = search rules in
    let inside_c : c.args.chunk < length self.layout.spots = search rules in
    let is : found ≡ get_or self.words.items at.page 0 = c.index-found.ensures ∙ get_or_default_zero self.words.items at.page found inside in
    let same : self.told.world ≡ world = cc in
    let next = c.make_step.new.told.world in
    let next_is = subst (λ b. next ≡ world_after self.told.world (Claim place c.args.chunk found (not b))) c.if-claimed.true c.make_step.ensures.world in
    subst (λ (w : World). (status w c.args.chunk ≡ Unclaimed → ⊥) × (Some next ≡ Some (with_writer_view w place (writer next place)))) same (
      known.claim_taken self.layout self.words.items self.slots.items self.told.world self.kept c.args.chunk found at c.spot-spot.ensures.spot inside_c is (c.claimed-claimed.ensures.0 c.if-claimed.true),
      ap (λ (w : World). Some w) (known.told_noted self.layout self.words.items self.slots.items self.told.world self.kept next place (claims (writer self.told.world place) c.args.chunk found false) c.requires.seat.inside next_is),
    )

pub returns-clause-won : goal.returns-clause-won
returns-clause-won c =
    let self = c.args.self.now in
    let at = c.spot-spot.result in let found = c.index-found.result.now in let place = c.args.seat.now.place in
    let next_is = subst (λ b. c.make_step-2.new.told.world ≡ world_after self.told.world (Claim place c.args.chunk found (not b))) c.if-claimed.false c.make_step-2.ensures.world in
    let clear : IsClaimed found at.place → ⊥ = λ bit. let yes_ : c.claimed-claimed.result ≡ true = c.claimed-claimed.ensures.1 bit in absurd (let no_ = c.if-claimed.false in cc) in
    let inside : at.page < length self.words.items = search rules in
    let inside_c : c.args.chunk < length self.layout.spots = search rules in
    let is : found ≡ get_or self.words.items at.page 0 = c.index-found.ensures ∙ get_or_default_zero self.words.items at.page found inside in
    record {
      found = found;
      fresh = λ _. known.claim_fresh self.layout self.words.items self.slots.items self.told.world self.kept place c.args.chunk
          (known.claim_free self.layout self.words.items self.slots.items self.told.world self.kept c.args.chunk found at c.spot-spot.ensures.spot inside_c is clear);
      bit = known.bit_clear self.layout c.args.chunk found at c.spot-spot.ensures.spot clear;
      view = known.view_now self.layout self.words.items self.slots.items self.told.world self.kept c.make_step-2.new.told.world place (claims (writer self.told.world place) c.args.chunk found true) c.requires.seat.inside (ap (λ (w : World). w.writers) next_is);
    }

pub returns-clause-told : goal.returns-clause-told
returns-clause-told c = λ world e.
    let self = c.args.self.now in
    let at = c.spot-spot.result in let found = c.index-found.result.now in let place = c.args.seat.now.place in
    let inside : at.page < length self.words.items = search rules in
    let inside_c : c.args.chunk < length self.layout.spots = search rules in
    let is : found ≡ get_or self.words.items at.page 0 = c.index-found.ensures ∙ get_or_default_zero self.words.items at.page found inside in
    let same : self.told.world ≡ world = cc in
    let next = c.make_step-2.new.told.world in
    let next_is = subst (λ b. next ≡ world_after self.told.world (Claim place c.args.chunk found (not b))) c.if-claimed.false c.make_step-2.ensures.world in
    let clear : IsClaimed found at.place → ⊥ = λ bit. let yes_ : c.claimed-claimed.result ≡ true = c.claimed-claimed.ensures.1 bit in absurd (let no_ = c.if-claimed.false in cc) in
    subst (λ (w : World). ∥ status w c.args.chunk ≡ Unclaimed ∥₁ × (Some next ≡ Some (moved w place (writer next place) c.args.chunk (Claimed place)))) same (
      known.claim_free self.layout self.words.items self.slots.items self.told.world self.kept c.args.chunk found at c.spot-spot.ensures.spot inside_c is clear,
      ap (λ (w : World). Some w) (known.told_moved self.layout self.words.items self.slots.items self.told.world self.kept next place c.args.chunk (claims (writer self.told.world place) c.args.chunk found true) (Claimed place) c.requires.seat.inside next_is),
    )

pub returns-then-claimed-clause-step : goal.returns-then-claimed-clause-step
returns-then-claimed-clause-step c =
    let self = c.args.self.now in let place = c.args.seat.now.place in let next = c.make_step.new.told.world in
    let next_is = subst (λ b. next ≡ world_after self.told.world (Claim place c.args.chunk c.index-found.result.now (not b))) c.if-claimed.true c.make_step.ensures.world in
    let view = claims (writer self.told.world place) c.args.chunk c.index-found.result.now false in
    let writers_are = ap (λ (w : World). w.writers) next_is in
    record {
      setup_stays = refl;
      seat_stays = resting.seat_stays self.layout _ place view (writer next place) refl
          (known.view_now self.layout self.words.items self.slots.items self.told.world self.kept next place view c.requires.seat.inside writers_are) (resting.claims_rest self.layout place (writer self.told.world place) c.requires.seat c.args.chunk c.index-found.result.now false c.requires.chunk);
      place_stays = refl;
      writers_stay = λ other there differs. resting.others_stay self.layout _ self.told.world next place view other.place refl writers_are there differs;
      service_stays = λ other serves. resting.serving_stays self.layout _ self.told.world.service next.service refl (ap (λ (w : World). w.service) next_is) serves;
      reads_stay = λ other takes. takes;
      letters_stay = ap (λ (v : WriterView). v.letters) (known.view_now self.layout self.words.items self.slots.items self.told.world self.kept next place view c.requires.seat.inside writers_are);
    }

pub returns-clause-step : goal.returns-clause-step
returns-clause-step c =
    let self = c.args.self.now in let place = c.args.seat.now.place in let next = c.make_step-2.new.told.world in
    let next_is = subst (λ b. next ≡ world_after self.told.world (Claim place c.args.chunk c.index-found.result.now (not b))) c.if-claimed.false c.make_step-2.ensures.world in
    let view = claims (writer self.told.world place) c.args.chunk c.index-found.result.now true in
    let writers_are = ap (λ (w : World). w.writers) next_is in
    record {
      setup_stays = refl;
      seat_stays = resting.seat_stays self.layout _ place view (writer next place) refl
          (known.view_now self.layout self.words.items self.slots.items self.told.world self.kept next place view c.requires.seat.inside writers_are) (resting.claims_rest self.layout place (writer self.told.world place) c.requires.seat c.args.chunk c.index-found.result.now true c.requires.chunk);
      place_stays = refl;
      writers_stay = λ other there differs. resting.others_stay self.layout _ self.told.world next place view other.place refl writers_are there differs;
      service_stays = λ other serves. resting.serving_stays self.layout _ self.told.world.service next.service refl (ap (λ (w : World). w.service) next_is) serves;
      reads_stay = λ other takes. takes;
      letters_stay = ap (λ (v : WriterView). v.letters) (known.view_now self.layout self.words.items self.slots.items self.told.world self.kept next place view c.requires.seat.inside writers_are);
    }
