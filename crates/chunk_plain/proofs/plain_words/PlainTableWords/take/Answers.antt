use Rattle.std.proofs.lemmas.Bool.{true≢false}
use Rattle.std.proofs.Common.{◌≡◌, ℕ, ◌+◌, ◌-◌, ◌<◌, ◌∙◌, false, not, length, List, Some, IsSome, refl, ap, sym, subst, arith, rules}
use denote.Enum.Bare.{same_true, sameb}
use Rattle.std.specs.Vec.{with_items}
use Rattle.page_geometry.specs.contracts.chunk_state.ChunkState.{the_type}
use Rattle.page_geometry.specs.declared.chunk_state.ChunkState.TheVariants.{Complete}
use Rattle.page_geometry.specs.PageBits.{HasState}
use Rattle.commit_body.specs.declared.body.CommitBody.{CommitBody}
use Rattle.chunk_plain.specs.declared.setup.Spot.{Spot}
use Rattle.chunk_plain.specs.Setup.{Setup, spot, from_of, id_at}
use Rattle.chunk_plain.specs.Payload.{byte_at, byte_in}
use Rattle.chunk_plain.specs.Views.{Head, Content, taken_of, ServiceView}
use Rattle.chunk_plain.specs.World.{World, Ready, Reading, status}
use Rattle.chunk_plain.specs.Steps.{served, serviced}
use Rattle.chunk_plain.specs.Stored.{Stored, stored_at}
use Rattle.chunk_plain.specs.Shows.{content_of}
use Rattle.chunk_plain.proofs.Known as known
use Rattle.chunk_plain.proofs.Resting as resting
use Rattle.chunk_plain.proofs.Taking as taking
use Rattle.chunk_plain.proofs.Taking.{ready_found, other_found, not_false, with_items_is}
use Rattle.chunk_plain.proofs.plain_words.PlainTableWords.take.Goals as goal
use Rattle.chunk_plain.proofs.plain_words.PlainTableWords.take.Goals.{then-header-writer-via-else-header-writer+else-header-id+then-ne, then-header-writer-via-then-header-writer, then-header-writer-via-else-header-writer+then-header-id}

pub set_read-requires-clause-ready : goal.set_read-requires-clause-ready
set_read-requires-clause-ready c =
    let self = c.args.self.now in let place = c.args.writer - 1 in let chunk = c.args.chunk in let seen = c.peek-seen.result in let header = seen.header in
    let head : Head = record { count = header.count; flags = header.flags } in
    let at = c.spot-place.result in
    let complete : HasState seen.word.0 (spot self.layout chunk).place Complete = subst (λ (s : Spot). HasState seen.word.0 s.place Complete) c.spot-place.ensures.spot
    (subst (HasState seen.word.0 at.place) (same_true the_type (search rules) _ _ (not_false _ _ c.if-ne.false c.ne.ensures)) c.state.ensures.bits) in
    let inside_w : place < length self.layout.writers = omega arith in
    let found = ready_found self.layout self.words.items self.slots.items self.told.world self.kept place chunk header c.requires.next.inside
    (subst (λ w. HasState w (spot self.layout chunk).place Complete) c.peek-seen.ensures.word complete) c.peek-seen.ensures.fields (let is = c.if-header-writer.false in omega arith) (c.if-header-id.false ∙ c.requires.next.id_is) in
    let position = (taken_of self.told.world.service place).count in
    taking.is_ready self.layout self.slots.items self.told.world place chunk position head found refl

pub take_body-body-requires-clause-lent : goal.take_body-body-requires-clause-lent
take_body-body-requires-clause-lent c =
    let self = c.args.self.now in let place = c.args.writer - 1 in let chunk = c.args.chunk in let seen = c.peek-seen.result in let header = seen.header in
    let head : Head = record { count = header.count; flags = header.flags } in
    let at = c.spot-place.result in
    let complete : HasState seen.word.0 (spot self.layout chunk).place Complete = subst (λ (s : Spot). HasState seen.word.0 s.place Complete) c.spot-place.ensures.spot
    (subst (HasState seen.word.0 at.place) (same_true the_type (search rules) _ _ (not_false _ _ c.if-ne.false c.ne.ensures)) c.state.ensures.bits) in
    let inside_w : place < length self.layout.writers = omega arith in
    let found = ready_found self.layout self.words.items self.slots.items self.told.world self.kept place chunk header c.requires.next.inside
    (subst (λ w. HasState w (spot self.layout chunk).place Complete) c.peek-seen.ensures.word complete) c.peek-seen.ensures.fields (let is = c.if-header-writer.false in omega arith) (c.if-header-id.false ∙ c.requires.next.id_is) in
    let position = (taken_of self.told.world.service place).count in
    let inside_c : chunk < length self.told.world.chunks = let many = known.chunks_inside self.layout self.words.items self.slots.items self.told.world self.kept in omega (arith, many) in
    let reading = taking.is_reading self.layout self.slots.items self.told.world place chunk position head found c.set_read.new.self.told.world seen.word.0 header inside_c c.set_read.ensures.world in
    taking.lent_by c.set_read.new.self.told.world place chunk position reading

pub take_body-body-requires-clause-there : goal.take_body-body-requires-clause-there
take_body-body-requires-clause-there c =
    let self = c.args.self.now in let place = c.args.writer - 1 in let chunk = c.args.chunk in let seen = c.peek-seen.result in let header = seen.header in
    let head : Head = record { count = header.count; flags = header.flags } in
    let at = c.spot-place.result in
    let complete : HasState seen.word.0 (spot self.layout chunk).place Complete = subst (λ (s : Spot). HasState seen.word.0 s.place Complete) c.spot-place.ensures.spot
    (subst (HasState seen.word.0 at.place) (same_true the_type (search rules) _ _ (not_false _ _ c.if-ne.false c.ne.ensures)) c.state.ensures.bits) in
    let inside_w : place < length self.layout.writers = omega arith in
    let found = ready_found self.layout self.words.items self.slots.items self.told.world self.kept place chunk header c.requires.next.inside
    (subst (λ w. HasState w (spot self.layout chunk).place Complete) c.peek-seen.ensures.word complete) c.peek-seen.ensures.fields (let is = c.if-header-writer.false in omega arith) (c.if-header-id.false ∙ c.requires.next.id_is) in
    let position = (taken_of self.told.world.service place).count in
    subst (λ (l : List Stored). IsSome (stored_at l chunk).body) (sym c.set_read.ensures.slots) (taking.has_body self.layout self.slots.items self.told.world place chunk position head found)

pub load_taken-requires-clause-size : goal.load_taken-requires-clause-size
load_taken-requires-clause-size c =
    let self = c.args.self.now in let place = c.args.writer - 1 in let chunk = c.args.chunk in let seen = c.peek-seen.result in let header = seen.header in
    let head : Head = record { count = header.count; flags = header.flags } in
    let at = c.spot-place.result in
    let complete : HasState seen.word.0 (spot self.layout chunk).place Complete = subst (λ (s : Spot). HasState seen.word.0 s.place Complete) c.spot-place.ensures.spot
    (subst (HasState seen.word.0 at.place) (same_true the_type (search rules) _ _ (not_false _ _ c.if-ne.false c.ne.ensures)) c.state.ensures.bits) in
    let inside_w : place < length self.layout.writers = omega arith in
    let found = ready_found self.layout self.words.items self.slots.items self.told.world self.kept place chunk header c.requires.next.inside
    (subst (λ w. HasState w (spot self.layout chunk).place Complete) c.peek-seen.ensures.word complete) c.peek-seen.ensures.fields (let is = c.if-header-writer.false in omega arith) (c.if-header-id.false ∙ c.requires.next.id_is) in
    let position = (taken_of self.told.world.service place).count in
    let inside_c : chunk < length self.told.world.chunks = let many = known.chunks_inside self.layout self.words.items self.slots.items self.told.world self.kept in omega (arith, many) in
    let reading = taking.is_reading self.layout self.slots.items self.told.world place chunk position head found c.set_read.new.self.told.world seen.word.0 header inside_c c.set_read.ensures.world in
    let taken = c.take_body-body.result in
    let was_there : (stored_at self.slots.items chunk).body ≡ Some taken = sym (ap (λ (l : List Stored). (stored_at l chunk).body) c.set_read.ensures.slots) ∙ c.take_body-body.ensures.body in
    let size = taking.body_size self.layout self.slots.items self.told.world place chunk position head found taken was_there in
    let layout_is = c.take_body-body.ensures.layout ∙ c.set_read.ensures.layout in
    c.deref_mut.ensures.len ∙ (size ∙ ap (λ s. (spot s chunk).payload_size) (sym layout_is))

pub learn-requires-clause-content : goal.learn-requires-clause-content
learn-requires-clause-content c =
    let self = c.args.self.now in let place = c.args.writer - 1 in let chunk = c.args.chunk in let seen = c.peek-seen.result in let header = seen.header in
    let head : Head = record { count = header.count; flags = header.flags } in
    let at = c.spot-place.result in
    let complete : HasState seen.word.0 (spot self.layout chunk).place Complete = subst (λ (s : Spot). HasState seen.word.0 s.place Complete) c.spot-place.ensures.spot
    (subst (HasState seen.word.0 at.place) (same_true the_type (search rules) _ _ (not_false _ _ c.if-ne.false c.ne.ensures)) c.state.ensures.bits) in
    let inside_w : place < length self.layout.writers = omega arith in
    let found = ready_found self.layout self.words.items self.slots.items self.told.world self.kept place chunk header c.requires.next.inside
    (subst (λ w. HasState w (spot self.layout chunk).place Complete) c.peek-seen.ensures.word complete) c.peek-seen.ensures.fields (let is = c.if-header-writer.false in omega arith) (c.if-header-id.false ∙ c.requires.next.id_is) in
    let position = (taken_of self.told.world.service place).count in
    let inside_c : chunk < length self.told.world.chunks = let many = known.chunks_inside self.layout self.words.items self.slots.items self.told.world self.kept in omega (arith, many) in
    let reading = taking.is_reading self.layout self.slots.items self.told.world place chunk position head found c.set_read.new.self.told.world seen.word.0 header inside_c c.set_read.ensures.world in
    let taken = c.take_body-body.result in
    let was_there : (stored_at self.slots.items chunk).body ≡ Some taken = sym (ap (λ (l : List Stored). (stored_at l chunk).body) c.set_read.ensures.slots) ∙ c.take_body-body.ensures.body in
    let size = taking.body_size self.layout self.slots.items self.told.world place chunk position head found taken was_there in
    let full : CommitBody = record { payload = with_items taken.payload c.load_taken.new.into; patches = taken.patches; target = taken.target } in
    let many : length c.load_taken.new.into ≡ (spot self.layout chunk).payload_size = c.load_taken.ensures.size ∙ (c.deref_mut.ensures.len ∙ size) in
    let items_are : full.payload.items ≡ c.load_taken.new.into = with_items_is taken.payload c.load_taken.new.into (c.load_taken.ensures.size ∙ c.deref_mut.ensures.len) in
    let words_are = c.take_body-body.ensures.words ∙ ap (λ (l : List Stored). (stored_at l chunk).words) c.set_read.ensures.slots in
    let content = taking.is_content self.layout self.slots.items self.told.world place chunk position head found taken full was_there (ap (λ (l : List ℕ). length l) items_are ∙ many)
    (λ j below. ap (λ (l : List ℕ). byte_in l j) items_are ∙ (c.load_taken.ensures.bytes j (subst (λ (l : List ℕ). j < length l) items_are below) ∙ ap (λ (l : List ℕ). byte_at l j) words_are)) refl refl in
    let between = taking.taken_between self.layout self.told.world c.set_read.new.self.told.world place chunk seen.word.0 header c.requires.seat inside_w c.set_read.ensures.world in
    let read = taking.reads_content self.told.world c.set_read.new.self.told.world place chunk seen.word.0 position header (content_of (from_of self.layout place) place position head full) inside_c c.set_read.ensures.world content in
    let layout_is = c.take_body-body.ensures.layout ∙ c.set_read.ensures.layout in
    subst (λ (s : Setup). let w = c.take_body-body.new.self.told.world in let i = length (taken_of w.service place).contents in
    ∥ status w chunk ≡ Reading place i (content_of (from_of s place) place i head full) ∥₁) (sym layout_is)
    (subst (λ (w : World). let i = length (taken_of w.service place).contents in
    ∥ status w chunk ≡ Reading place i (content_of (from_of self.layout place) place i head full) ∥₁) (sym c.take_body-body.ensures.world)
    (subst (λ (i : ℕ). ∥ status c.set_read.new.self.told.world chunk ≡ Reading place i (content_of (from_of self.layout place) place i head full) ∥₁) (sym between.1) read))

pub returns-clause-taken : goal.returns-clause-taken
returns-clause-taken c =
    let self = c.args.self.now in let place = c.args.writer - 1 in let chunk = c.args.chunk in let seen = c.peek-seen.result in let header = seen.header in
    let head : Head = record { count = header.count; flags = header.flags } in
    let at = c.spot-place.result in
    let complete : HasState seen.word.0 (spot self.layout chunk).place Complete = subst (λ (s : Spot). HasState seen.word.0 s.place Complete) c.spot-place.ensures.spot
    (subst (HasState seen.word.0 at.place) (same_true the_type (search rules) _ _ (not_false _ _ c.if-ne.false c.ne.ensures)) c.state.ensures.bits) in
    let inside_w : place < length self.layout.writers = omega arith in
    let found = ready_found self.layout self.words.items self.slots.items self.told.world self.kept place chunk header c.requires.next.inside
    (subst (λ w. HasState w (spot self.layout chunk).place Complete) c.peek-seen.ensures.word complete) c.peek-seen.ensures.fields (let is = c.if-header-writer.false in omega arith) (c.if-header-id.false ∙ c.requires.next.id_is) in
    let position = (taken_of self.told.world.service place).count in
    let inside_c : chunk < length self.told.world.chunks = let many = known.chunks_inside self.layout self.words.items self.slots.items self.told.world self.kept in omega (arith, many) in
    let reading = taking.is_reading self.layout self.slots.items self.told.world place chunk position head found c.set_read.new.self.told.world seen.word.0 header inside_c c.set_read.ensures.world in
    let taken = c.take_body-body.result in
    let was_there : (stored_at self.slots.items chunk).body ≡ Some taken = sym (ap (λ (l : List Stored). (stored_at l chunk).body) c.set_read.ensures.slots) ∙ c.take_body-body.ensures.body in
    let size = taking.body_size self.layout self.slots.items self.told.world place chunk position head found taken was_there in
    let full : CommitBody = record { payload = with_items taken.payload c.load_taken.new.into; patches = taken.patches; target = taken.target } in
    let many : length c.load_taken.new.into ≡ (spot self.layout chunk).payload_size = c.load_taken.ensures.size ∙ (c.deref_mut.ensures.len ∙ size) in
    let items_are : full.payload.items ≡ c.load_taken.new.into = with_items_is taken.payload c.load_taken.new.into (c.load_taken.ensures.size ∙ c.deref_mut.ensures.len) in
    let words_are = c.take_body-body.ensures.words ∙ ap (λ (l : List Stored). (stored_at l chunk).words) c.set_read.ensures.slots in
    let content = taking.is_content self.layout self.slots.items self.told.world place chunk position head found taken full was_there (ap (λ (l : List ℕ). length l) items_are ∙ many)
    (λ j below. ap (λ (l : List ℕ). byte_in l j) items_are ∙ (c.load_taken.ensures.bytes j (subst (λ (l : List ℕ). j < length l) items_are below) ∙ ap (λ (l : List ℕ). byte_at l j) words_are)) refl refl in
    let between = taking.taken_between self.layout self.told.world c.set_read.new.self.told.world place chunk seen.word.0 header c.requires.seat inside_w c.set_read.ensures.world in
    let middle = c.take_body-body.new.self.told.world in let next = c.learn.new.self.told.world in
    let full_content = content_of (from_of self.layout place) place position head full in
    let took = c.take_body-body.ensures.world ∙ c.set_read.ensures.world in
    let learnt = taking.learnt_at self.layout c.take_body-body.new.self.layout self.told.world middle next place chunk seen.word.0 header head full c.requires.seat inside_w
    (c.take_body-body.ensures.layout ∙ c.set_read.ensures.layout) took c.learn.ensures.world in
    record {
      word = seen.word.0;
      complete = complete;
      chunk_is = refl;
      writer_is = c.if-header-writer.false;
      id_is = c.if-header-id.false;
      count_fits = c.peek-seen.ensures.count_fits;
      flags_fit = c.peek-seen.ensures.flags_fit;
      whole = size;
      view = taking.taken_service self.told.world middle next place chunk seen.word.0 header full_content took learnt;
    }

pub returns-clause-step : goal.returns-clause-step
returns-clause-step c =
    let self = c.args.self.now in let place = c.args.writer - 1 in let chunk = c.args.chunk in let seen = c.peek-seen.result in let header = seen.header in
    let head : Head = record { count = header.count; flags = header.flags } in
    let at = c.spot-place.result in
    let complete : HasState seen.word.0 (spot self.layout chunk).place Complete = subst (λ (s : Spot). HasState seen.word.0 s.place Complete) c.spot-place.ensures.spot
    (subst (HasState seen.word.0 at.place) (same_true the_type (search rules) _ _ (not_false _ _ c.if-ne.false c.ne.ensures)) c.state.ensures.bits) in
    let inside_w : place < length self.layout.writers = omega arith in
    let found = ready_found self.layout self.words.items self.slots.items self.told.world self.kept place chunk header c.requires.next.inside
    (subst (λ w. HasState w (spot self.layout chunk).place Complete) c.peek-seen.ensures.word complete) c.peek-seen.ensures.fields (let is = c.if-header-writer.false in omega arith) (c.if-header-id.false ∙ c.requires.next.id_is) in
    let position = (taken_of self.told.world.service place).count in
    let inside_c : chunk < length self.told.world.chunks = let many = known.chunks_inside self.layout self.words.items self.slots.items self.told.world self.kept in omega (arith, many) in
    let reading = taking.is_reading self.layout self.slots.items self.told.world place chunk position head found c.set_read.new.self.told.world seen.word.0 header inside_c c.set_read.ensures.world in
    let taken = c.take_body-body.result in
    let was_there : (stored_at self.slots.items chunk).body ≡ Some taken = sym (ap (λ (l : List Stored). (stored_at l chunk).body) c.set_read.ensures.slots) ∙ c.take_body-body.ensures.body in
    let size = taking.body_size self.layout self.slots.items self.told.world place chunk position head found taken was_there in
    let full : CommitBody = record { payload = with_items taken.payload c.load_taken.new.into; patches = taken.patches; target = taken.target } in
    let many : length c.load_taken.new.into ≡ (spot self.layout chunk).payload_size = c.load_taken.ensures.size ∙ (c.deref_mut.ensures.len ∙ size) in
    let items_are : full.payload.items ≡ c.load_taken.new.into = with_items_is taken.payload c.load_taken.new.into (c.load_taken.ensures.size ∙ c.deref_mut.ensures.len) in
    let words_are = c.take_body-body.ensures.words ∙ ap (λ (l : List Stored). (stored_at l chunk).words) c.set_read.ensures.slots in
    let content = taking.is_content self.layout self.slots.items self.told.world place chunk position head found taken full was_there (ap (λ (l : List ℕ). length l) items_are ∙ many)
    (λ j below. ap (λ (l : List ℕ). byte_in l j) items_are ∙ (c.load_taken.ensures.bytes j (subst (λ (l : List ℕ). j < length l) items_are below) ∙ ap (λ (l : List ℕ). byte_at l j) words_are)) refl refl in
    let between = taking.taken_between self.layout self.told.world c.set_read.new.self.told.world place chunk seen.word.0 header c.requires.seat inside_w c.set_read.ensures.world in
    let middle = c.take_body-body.new.self.told.world in let next = c.learn.new.self.told.world in
    let full_content = content_of (from_of self.layout place) place position head full in
    let took = c.take_body-body.ensures.world ∙ c.set_read.ensures.world in
    let learnt = taking.learnt_at self.layout c.take_body-body.new.self.layout self.told.world middle next place chunk seen.word.0 header head full c.requires.seat inside_w
    (c.take_body-body.ensures.layout ∙ c.set_read.ensures.layout) took c.learn.ensures.world in
    let layout_is = c.learn.ensures.layout ∙ (c.take_body-body.ensures.layout ∙ c.set_read.ensures.layout) in
    let service_is = taking.taken_service self.told.world middle next place chunk seen.word.0 header full_content took learnt in
    let writers_are = taking.taken_writers self.told.world middle next place chunk seen.word.0 header full_content took learnt in
    record {
      setup_stays = layout_is;
      seat_stays = resting.serves_stays self.layout _ _ next.service layout_is service_is (taking.taken_serves self.layout self.told.world.service place chunk seen.word.0 header full_content c.requires.seat inside_w);
      writers_stay = λ other there. resting.all_stay self.layout _ self.told.world next other.place layout_is writers_are there;
      reads_stay = λ takes. takes;
      letters_stay = ap (λ (v : ServiceView). v.letters) service_is;
    }

pub returns-clause-told_taken : goal.returns-clause-told_taken
returns-clause-told_taken c = λ world e.
    let self = c.args.self.now in let place = c.args.writer - 1 in let chunk = c.args.chunk in let seen = c.peek-seen.result in let header = seen.header in
    let head : Head = record { count = header.count; flags = header.flags } in
    let at = c.spot-place.result in
    let complete : HasState seen.word.0 (spot self.layout chunk).place Complete = subst (λ (s : Spot). HasState seen.word.0 s.place Complete) c.spot-place.ensures.spot
    (subst (HasState seen.word.0 at.place) (same_true the_type (search rules) _ _ (not_false _ _ c.if-ne.false c.ne.ensures)) c.state.ensures.bits) in
    let inside_w : place < length self.layout.writers = omega arith in
    let found = ready_found self.layout self.words.items self.slots.items self.told.world self.kept place chunk header c.requires.next.inside
    (subst (λ w. HasState w (spot self.layout chunk).place Complete) c.peek-seen.ensures.word complete) c.peek-seen.ensures.fields (let is = c.if-header-writer.false in omega arith) (c.if-header-id.false ∙ c.requires.next.id_is) in
    let position = (taken_of self.told.world.service place).count in
    let inside_c : chunk < length self.told.world.chunks = let many = known.chunks_inside self.layout self.words.items self.slots.items self.told.world self.kept in omega (arith, many) in
    let reading = taking.is_reading self.layout self.slots.items self.told.world place chunk position head found c.set_read.new.self.told.world seen.word.0 header inside_c c.set_read.ensures.world in
    let taken = c.take_body-body.result in
    let was_there : (stored_at self.slots.items chunk).body ≡ Some taken = sym (ap (λ (l : List Stored). (stored_at l chunk).body) c.set_read.ensures.slots) ∙ c.take_body-body.ensures.body in
    let size = taking.body_size self.layout self.slots.items self.told.world place chunk position head found taken was_there in
    let full : CommitBody = record { payload = with_items taken.payload c.load_taken.new.into; patches = taken.patches; target = taken.target } in
    let many : length c.load_taken.new.into ≡ (spot self.layout chunk).payload_size = c.load_taken.ensures.size ∙ (c.deref_mut.ensures.len ∙ size) in
    let items_are : full.payload.items ≡ c.load_taken.new.into = with_items_is taken.payload c.load_taken.new.into (c.load_taken.ensures.size ∙ c.deref_mut.ensures.len) in
    let words_are = c.take_body-body.ensures.words ∙ ap (λ (l : List Stored). (stored_at l chunk).words) c.set_read.ensures.slots in
    let content = taking.is_content self.layout self.slots.items self.told.world place chunk position head found taken full was_there (ap (λ (l : List ℕ). length l) items_are ∙ many)
    (λ j below. ap (λ (l : List ℕ). byte_in l j) items_are ∙ (c.load_taken.ensures.bytes j (subst (λ (l : List ℕ). j < length l) items_are below) ∙ ap (λ (l : List ℕ). byte_at l j) words_are)) refl refl in
    let between = taking.taken_between self.layout self.told.world c.set_read.new.self.told.world place chunk seen.word.0 header c.requires.seat inside_w c.set_read.ensures.world in
    let middle = c.take_body-body.new.self.told.world in let next = c.learn.new.self.told.world in
    let full_content = content_of (from_of self.layout place) place position head full in
    let took = c.take_body-body.ensures.world ∙ c.set_read.ensures.world in
    let learnt = taking.learnt_at self.layout c.take_body-body.new.self.layout self.told.world middle next place chunk seen.word.0 header head full c.requires.seat inside_w
    (c.take_body-body.ensures.layout ∙ c.set_read.ensures.layout) took c.learn.ensures.world in
    let same : self.told.world ≡ world = cc in
    subst (λ (w : World). ∥ status w chunk ≡ Ready place position full_content ∥₁ × (Some next ≡ Some (served w next.service chunk (Reading place position full_content)))) same (
      content,
      ap (λ (w : World). Some w) (taking.taken_world self.told.world middle next place chunk seen.word.0 position header full_content took learnt content),
    )

pub returns-then-header-writer-clause-told_other : goal.returns-then-header-writer-clause-told_other
returns-then-header-writer-clause-told_other c = λ world e.
    let self = c.args.self.now in let place = c.args.writer - 1 in let chunk = c.args.chunk in let seen = c.peek-seen.result in let header = seen.header in
    let next = c.note_look.new.self.told.world in
    let same : self.told.world ≡ world = cc in
    let back : c.args.writer ≡ place + 1 = omega arith in
    let at_is : c.spot-place.result.place ≡ (spot self.layout chunk).place = ap (λ (s : Spot). s.place) c.spot-place.ensures.spot in
    let position = (taken_of self.told.world.service place).count in
    let other : HasState seen.word.0 (spot self.layout chunk).place Complete → header.writer_id ≡ place + 1 → header.chunk_id ≡ id_at self.layout place position → ⊥ = λ complete writer id_is.
    elim c.then-header-writer.branch [
      | then-header-writer-via-else-header-writer+else-header-id+then-ne w ↦ let found = w.state.ensures.only Complete (subst (λ (p : ℕ). HasState seen.word.0 p Complete) (sym at_is) complete) in let t = w.if-ne.true in let n : w.ne.result ≡ false = w.ne.ensures ∙ ap (λ s. not (sameb the_type s Complete)) found in absurd (true≢false (sym t ∙ n))
      | then-header-writer-via-then-header-writer w ↦ w.if-header-writer.true (omega (arith, back, writer))
      | then-header-writer-via-else-header-writer+then-header-id w ↦ w.if-header-id.true (id_is ∙ sym c.requires.next.id_is)
    ] in
    subst (λ (w : World). ((content : Content) → status w chunk ≡ Ready place position content → ⊥) × (Some next ≡ Some (serviced w next.service))) same (
      other_found self.layout self.words.items self.slots.items self.told.world self.kept place chunk position seen.word.0 header c.requires.next.inside c.peek-seen.ensures.word c.peek-seen.ensures.fields other,
      ap (λ (w : World). Some w) (c.note_look.ensures.world ∙ ap (λ service. serviced self.told.world service) (sym (ap (λ (w : World). w.service) c.note_look.ensures.world))),
    )
