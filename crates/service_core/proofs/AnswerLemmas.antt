-- What the answer of a collect says: 0 that nothing was taken, and each other number that something was. And what a collect leaves alone.
use Rattle.std.proofs.Common.{◌≡◌, ◌≢◌, ◌∙◌, ℕ, suc, ◌+◌, ◌≤◌, List, [], ◌∷◌, ◌++◌, length, set, refl, ap, arith, append-nil, length-append}
use Rattle.std.proofs.lemmas.List.{set-get_or}
use Rattle.chunk_plain.specs.Setup.{Setup}
use Rattle.chunk_plain.specs.Views.{Content, Noted, Taken, none_taken, ServiceView, taken_of}
use Rattle.service_core.specs.Taking.{patched_where, takings, taken_more, took, Takes}

-- each chunk that was taken is noted
takings_long : (sequence position : ℕ) (contents : List Content) → length contents ≤ length (takings sequence position contents)
takings_long sequence position [] = omega arith
takings_long sequence position (content ∷ contents) =
    let rest = takings_long sequence (suc position) contents in
    let long = length-append (patched_where content.patches sequence position) (takings sequence (suc position) contents) in
    omega (arith, rest, long)

-- at least as many notes more as chunks were taken
pub notes_more : (setup : Setup) (places : List ℕ) (taken : ℕ) (old new : ServiceView) → Takes setup places taken old new → length old.events + taken ≤ length new.events
notes_more setup [] taken old new takes =
    let none = takes.0 in
    let same : length new.events ≡ length old.events = ap (λ (v : ServiceView). length v.events) takes.1 in
    omega (arith, none, same)
notes_more setup (place ∷ places) taken old new takes =
    let one = takes.4 in
    let notes : List Noted = takings (place + 2) (taken_of old place).count one.contents in
    let here : length takes.2.events ≡ length old.events + length notes = ap (λ (v : ServiceView). length v.events) one.view ∙ length-append old.events notes in
    let least = takings_long (place + 2) (taken_of old place).count one.contents in
    let many = one.many in
    let rest = notes_more setup places takes.1 takes.2 new takes.5 in
    let sum = takes.3 in
    omega (arith, here, least, many, rest, sum)

pub takes_something : (setup : Setup) (places : List ℕ) (taken : ℕ) (old new : ServiceView) → Takes setup places taken old new → taken ≢ 0 → new.events ≢ old.events
takes_something setup places taken old new takes some same =
    let more = notes_more setup places taken old new takes in
    let long : length new.events ≡ length old.events = ap (λ (l : List Noted). length l) same in
    some (omega (arith, more, long))

-- what a collect left that took nothing
pub record LeavesTaken (old new : ServiceView) : Type 0 where
  pub events : new.events ≡ old.events
  pub taken : new.taken ≡ old.taken

pub no_contents : (contents : List Content) → length contents ≡ 0 → contents ≡ []
no_contents [] none = refl
no_contents (content ∷ contents) none = absurd (omega (arith, none))

took_nothing : (view : ServiceView) (place : ℕ) → set view.taken place (taken_more (taken_of view place) []) ≡ view.taken
took_nothing view place =
    let t : Taken = taken_of view place in
    let same : taken_more t [] ≡ t =
    ap (λ (n : ℕ). record { count = n; contents = t.contents ++ [] }) (let zero_is : t.count + 0 ≡ t.count = omega arith in zero_is)
    ∙ ap (λ (cs : List Content). record { count = t.count; contents = cs }) (append-nil t.contents) in
    ap (λ (x : Taken). set view.taken place x) same ∙ set-get_or view.taken place none_taken

pub takes_nothing : (setup : Setup) (places : List ℕ) (taken : ℕ) (old new : ServiceView) → Takes setup places taken old new → taken ≡ 0 → LeavesTaken old new
takes_nothing setup [] taken old new takes none = record { events = ap (λ (v : ServiceView). v.events) takes.1; taken = ap (λ (v : ServiceView). v.taken) takes.1 }
takes_nothing setup (place ∷ places) taken old new takes none =
    let one = takes.4 in
    let sum = takes.3 in
    let many = one.many in
    let empty = no_contents one.contents (omega (arith, sum, many, none)) in
    let here : takes.2 ≡ took old place one.looks [] = one.view ∙ ap (λ (cs : List Content). took old place one.looks cs) empty in
    let rest = takes_nothing setup places takes.1 takes.2 new takes.5 (omega (arith, sum, none)) in
    record {
      events = rest.events ∙ (ap (λ (v : ServiceView). v.events) here ∙ append-nil old.events);
      taken = rest.taken ∙ (ap (λ (v : ServiceView). v.taken) here ∙ took_nothing old place);
    }

-- no image comes by a commit where chunks are taken
pub takes_own : (setup : Setup) (places : List ℕ) (taken : ℕ) (old new : ServiceView) → Takes setup places taken old new → new.commits ≡ old.commits
takes_own setup [] taken old new takes = ap (λ (v : ServiceView). v.commits) takes.1
takes_own setup (place ∷ places) taken old new takes =
    takes_own setup places takes.1 takes.2 new takes.5 ∙ ap (λ (v : ServiceView). v.commits) takes.4.view
