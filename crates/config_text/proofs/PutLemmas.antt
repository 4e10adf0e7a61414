-- What a sink has taken while the lines of a configuration are written in turn.
use Rattle.std.proofs.Common.{◌≡◌, ◌∙◌, ℕ, ◌+◌, ◌-◌, ◌<◌, List, [], ◌++◌, length, take, drop, get_or, Option, refl, sym, ap, subst, arith}
use Rattle.std.specs.Prelude.{unwrap_or, option_map}
use Rattle.std.specs.List.{All, flat_map}
use Rattle.std.proofs.lemmas.List.{take_more, take-append-drop, flat_map_more}
use Rattle.std.proofs.lemmas.Grind.{flat_map-append}
use Rattle.std.proofs.lemmas.Option.{slice_get_read, slice_get_within}
use Rattle.byte_io.specs.Bytes.{Intake, after_told, TakesPart}
use Rattle.byte_io.proofs.Told.{after_told_again, part_first, part_second}
use Rattle.config_text.specs.declared.config.ConfigProducer.{ConfigProducer}
use Rattle.config_text.specs.Configs.{ConfigOf}
use Rattle.config_text.specs.Writing.{name_of, HasNumber, IsWritable}

-- the lines up to one, and that one
front : {T : Type 0} (line : T → List ℕ) (xs : List T) (i : ℕ) (d : T) → i < length xs
    → flat_map line (take (i + 1) xs) ≡ flat_map line (take i xs) ++ line (get_or xs i d)
front line xs i d inside =
    ap (flat_map line) (take_more xs i d inside) ∙ sym (flat_map_more line [] (take i xs) (get_or xs i d))

-- one line more was taken
pub lines_more : {T : Type 0} (line : T → List ℕ) (old mid new : Intake) (xs : List T) (i : ℕ) (d : T) → i < length xs
    → mid ≡ after_told old (flat_map line (take i xs)) → new ≡ after_told mid (line (get_or xs i d))
    → new ≡ after_told old (flat_map line (take (i + 1) xs))
lines_more line old mid new xs i d inside before now =
    now ∙ ap (λ (intake : Intake). after_told intake (line (get_or xs i d))) before
    ∙ after_told_again old (flat_map line (take i xs)) (line (get_or xs i d))
    ∙ ap (after_told old) (sym (front line xs i d inside))

-- a part of one line more was taken
pub lines_part : {T : Type 0} (line : T → List ℕ) (old mid new : Intake) (xs : List T) (i : ℕ) (d : T) → i < length xs
    → mid ≡ after_told old (flat_map line (take i xs)) → TakesPart mid new (line (get_or xs i d)) → TakesPart old new (flat_map line xs)
lines_part line old mid new xs i d inside before part =
    let so_far : List ℕ = flat_map line (take i xs) ++ line (get_or xs i d) in
    let rest : List ℕ = flat_map line (drop (i + 1) xs) in
    let all : so_far ++ rest ≡ flat_map line xs =
    ap (λ (bytes : List ℕ). bytes ++ rest) (sym (front line xs i d inside))
    ∙ sym (flat_map-append line (take (i + 1) xs) (drop (i + 1) xs))
    ∙ ap (flat_map line) (take-append-drop (i + 1) xs) in
    let P : List ℕ → Type 0 = λ bytes. TakesPart old new bytes in
    subst P all (part_first old new so_far rest (part_second old mid new (flat_map line (take i xs)) (line (get_or xs i d)) before part))

-- the same of an element that is the one there
pub item_more : {T : Type 0} (line : T → List ℕ) (old mid new : Intake) (xs : List T) (i : ℕ) (x : T) → i < length xs → x ≡ get_or xs i x
    → mid ≡ after_told old (flat_map line (take i xs)) → new ≡ after_told mid (line x) → new ≡ after_told old (flat_map line (take (i + 1) xs))
item_more line old mid new xs i x inside is before now = lines_more line old mid new xs i x inside before (now ∙ ap (λ y. after_told mid (line y)) is)

pub item_part : {T : Type 0} (line : T → List ℕ) (old mid new : Intake) (xs : List T) (i : ℕ) (x : T) → i < length xs → x ≡ get_or xs i x
    → mid ≡ after_told old (flat_map line (take i xs)) → TakesPart mid new (line x) → TakesPart old new (flat_map line xs)
item_part {T} line old mid new xs i x inside is before part =
    let P : T → Type 0 = λ y. TakesPart mid new (line y) in
    lines_part line old mid new xs i x inside before (subst P is part)

-- the name of the producer at a place, counted from 1
pub named : (producers : List ConfigProducer) (number : ℕ) (producer : ConfigProducer) → number - 1 < length producers
    → producer ≡ get_or producers (number - 1) producer → name_of producers number ≡ producer.name
named producers number producer inside is =
    ap (λ (o : Option ConfigProducer). unwrap_or (option_map (λ (p : ConfigProducer). p.name) o) [])
    (slice_get_read producers (length producers) (number - 1) producer refl inside is)

-- each source of a configuration that can be written has the number of a producer
pub all_numbered : (config : ConfigOf) → IsWritable config → All (HasNumber config.producers) config.sources
all_numbered config writable k d inside =
    let source = writable.sources k d inside in
    (source.numbered, omega (arith, source.numbered, slice_get_within config.producers _ source.producer source.has_producer))
