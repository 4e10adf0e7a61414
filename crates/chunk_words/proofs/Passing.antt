-- The service's view goes on from an earlier one: each of its steps does so, and so do several.
use Rattle.std.proofs.Common.{◌≡◌, ℕ, zero, suc, Option, List, [], ◌∷◌, ◌++◌, length, set, get_or, sym, refl, ap, ◌∙◌, append_assoc, append-nil}
use Rattle.std.specs.List.{All}
use Rattle.std.proofs.lemmas.List.Elements.{All-nil, All-cons, All-append}
use Rattle.chunk_plain.specs.declared.notes.ServiceEvent.{ServiceEvent}
use Rattle.chunk_plain.specs.declared.notes.ServiceEvent.TheVariants as event
use Rattle.chunk_plain.specs.Views.{Content, Found, Noted, Commit, Committed, Taken, none_taken, asked_in, ServiceView, taken_of}
use Rattle.chunk_plain.specs.Steps.{looks_at, takes_in, learns, lets_go, notes, notes_commit}
use Rattle.chunk_plain.specs.Words.{event_of, IsReadEvent}
use Rattle.chunk_words.specs.GoesOn.{IsFront, IsReadNote, GoesOn}

-- ---- lists

pub front_same : {A : Type 0} (xs : List A) → IsFront xs xs
front_same xs = record { rest = []; is = sym (append-nil xs) }

pub front_more : {A : Type 0} (xs ys : List A) → IsFront xs (xs ++ ys)
front_more xs ys = record { rest = ys; is = refl }

front_on : {A : Type 0} (xs ys zs : List A) → IsFront xs ys → IsFront ys zs → IsFront xs zs
front_on xs ys zs one two = record {
  rest = one.rest ++ two.rest;
  is = two.is ∙ (ap (λ l. l ++ two.rest) one.is ∙ append_assoc xs one.rest two.rest);
}

-- one writer's contents get more
front_set : (all : List Taken) (place other : ℕ) (taken : Taken) → IsFront (get_or all place none_taken).contents taken.contents
    → IsFront (get_or all other none_taken).contents (get_or (set all place taken) other none_taken).contents
front_set [] place other taken front = front_same []
front_set (one ∷ all) zero zero taken front = front
front_set (one ∷ all) zero (suc other) taken front = front_same (get_or all other none_taken).contents
front_set (one ∷ all) (suc place) zero taken front = front_same one.contents
front_set (one ∷ all) (suc place) (suc other) taken front = front_set all place other taken front

-- ---- a view goes on

-- nothing is noted
pub goes_quietly : (view next : ServiceView) → next.events ≡ view.events → IsFront view.looks next.looks
    → ((place : ℕ) → IsFront (taken_of view place).contents (taken_of next place).contents) → IsFront view.commits next.commits
    → asked_in next.letters ≡ asked_in view.letters → GoesOn view next
goes_quietly view next same looks contents commits asked = record {
  rest = [];
  events = same ∙ sym (append-nil view.events);
  no_read = All-nil (λ note. IsReadNote note → ⊥);
  looks = looks;
  contents = contents;
  commits = commits;
  asked = asked;
}

pub contents_stay : (view : ServiceView) (place : ℕ) → IsFront (taken_of view place).contents (taken_of view place).contents
contents_stay view place = front_same (taken_of view place).contents

pub goes_same : (view : ServiceView) → GoesOn view view
goes_same view = goes_quietly view view refl (front_same view.looks) (contents_stay view) (front_same view.commits) refl

pub goes_further : (one two three : ServiceView) → GoesOn one two → GoesOn two three → GoesOn one three
goes_further one two three first then = record {
  rest = first.rest ++ then.rest;
  events = then.events ∙ (ap (λ l. l ++ then.rest) first.events ∙ append_assoc one.events first.rest then.rest);
  no_read = All-append (λ note. IsReadNote note → ⊥) first.rest then.rest first.no_read then.no_read;
  looks = front_on one.looks two.looks three.looks first.looks then.looks;
  contents = λ place. front_on (taken_of one place).contents (taken_of two place).contents (taken_of three place).contents (first.contents place) (then.contents place);
  commits = front_on one.commits two.commits three.commits first.commits then.commits;
  asked = then.asked ∙ first.asked;
}

pub goes_look : (view : ServiceView) (chunk word header : ℕ) (found : Option Found) → GoesOn view (looks_at view chunk word header found)
goes_look view chunk word header found =
    goes_quietly view (looks_at view chunk word header found) refl (front_more view.looks _) (contents_stay view) (front_same view.commits) refl

pub goes_take : (view : ServiceView) (place chunk : ℕ) → GoesOn view (takes_in view place chunk)
goes_take view place chunk =
    goes_quietly view (takes_in view place chunk) refl (front_same view.looks) (λ other. front_set view.taken place other _ (contents_stay view place)) (front_same view.commits) refl

pub goes_learn : (view : ServiceView) (place : ℕ) (content : Content) → GoesOn view (learns view place content)
goes_learn view place content = goes_quietly view (learns view place content) refl (front_same view.looks)
    (λ other. front_set view.taken place other _ (front_more (taken_of view place).contents (content ∷ []))) (front_same view.commits) refl

pub goes_free : (view : ServiceView) (chunk : ℕ) → GoesOn view (lets_go view chunk)
goes_free view chunk = goes_quietly view (lets_go view chunk) refl (front_same view.looks) (contents_stay view) (front_same view.commits) refl

one_quiet : (note : Noted) → (IsReadNote note → ⊥) → All (λ one. IsReadNote one → ⊥) (note ∷ [])
one_quiet note quiet = All-cons (λ one. IsReadNote one → ⊥) note [] quiet (All-nil (λ one. IsReadNote one → ⊥))

pub goes_note : (view : ServiceView) (note : Noted) → (IsReadNote note → ⊥) → GoesOn view (notes view note)
goes_note view note quiet = record {
  rest = note ∷ [];
  events = refl;
  no_read = one_quiet note quiet;
  looks = front_same view.looks;
  contents = contents_stay view;
  commits = front_same view.commits;
  asked = refl;
}

pub goes_commit : (view : ServiceView) (committed : Committed) → GoesOn view (notes_commit view committed)
goes_commit view committed = record {
  rest = Commit (length view.commits) ∷ [];
  events = refl;
  no_read = one_quiet (Commit (length view.commits)) (λ none. none);
  looks = front_same view.looks;
  contents = contents_stay view;
  commits = front_more view.commits (committed ∷ []);
  asked = refl;
}

-- a read is noted by the event of a read alone
pub read_noted : (event_ : ServiceEvent) → IsReadNote (event_of event_) → IsReadEvent event_
read_noted (event.Read sequence limit) is = tt
read_noted (event.Arrive sequence chunk_id) is = absurd is
read_noted (event.Partial sequence chunk_id limit) is = absurd is
read_noted (event.Patched sequence chunk_id) is = absurd is
read_noted (event.Closed sequence) is = absurd is
