-- A text has one answer.
use Rattle.std.proofs.Common.{◌≡◌, ◌∙◌, ℕ, List, Ok, Err, Result, sym, ap, inl, inr}
use Rattle.text_form.specs.Entries.{Item, Entries, items_of}
use Rattle.text_form.specs.Grammar.{IsTextOf}
use Rattle.text_form.proofs.Readings.{fields_are_read, bad_lines_are_found, items_tell_the_fields}
use Rattle.config_text.specs.declared.reason.ConfigReason.{ConfigReason}
use Rattle.config_text.specs.Blocks.{blocks_of}
use Rattle.config_text.specs.Configs.{ConfigOf}
use Rattle.config_text.specs.Grammar.{judged, SpellsConfig, IsFaulty}
use Rattle.config_text.specs.Laws.{AnswersAreOne}

-- the fields that a text says
one_tree : (text : List ℕ) (a b : Entries) → IsTextOf a text → IsTextOf b text → a ≡ b
one_tree text a b of_a of_b =
    let both : ◌≡◌ {A = Result (List Item) ℕ} (Ok (items_of a)) (Ok (items_of b)) = sym (fields_are_read a text of_a) ∙ fields_are_read b text of_b in
    let same : items_of a ≡ items_of b = cc in
    items_tell_the_fields a b same

judged_alike : (text : List ℕ) (a b : Entries) → IsTextOf a text → IsTextOf b text → judged (blocks_of a) ≡ judged (blocks_of b)
judged_alike text a b of_a of_b = ap (λ (e : Entries). judged (blocks_of e)) (one_tree text a b of_a of_b)

one_fault : (text : List ℕ) (a b : ℕ × ConfigReason) → IsFaulty text a → IsFaulty text b → a ≡ b
one_fault text a b (inl x) (inl y) =
    let both : ◌≡◌ {A = Result (List Item) ℕ} (Err a.0) (Err b.0) = sym (bad_lines_are_found text a.0 x.bad) ∙ bad_lines_are_found text b.0 y.bad in
    let line : a.0 ≡ b.0 = cc in
    ap (λ (n : ℕ). (n, a.1)) line ∙ ap (λ (r : ConfigReason). (b.0, r)) (x.reason ∙ sym y.reason)
one_fault text a b (inl x) (inr y) =
    let both : ◌≡◌ {A = Result (List Item) ℕ} (Err a.0) (Ok (items_of y.entries)) = sym (bad_lines_are_found text a.0 x.bad) ∙ fields_are_read y.entries text y.text_of in
    absurd (cc)
one_fault text a b (inr x) (inl y) =
    let both : ◌≡◌ {A = Result (List Item) ℕ} (Ok (items_of x.entries)) (Err b.0) = sym (fields_are_read x.entries text x.text_of) ∙ bad_lines_are_found text b.0 y.bad in
    absurd (cc)
one_fault text a b (inr x) (inr y) =
    let both : ◌≡◌ {A = Result ConfigOf (ℕ × ConfigReason)} (Err a) (Err b) = sym x.says ∙ judged_alike text x.entries y.entries x.text_of y.text_of ∙ y.says in
    cc

apart : (text : List ℕ) (config : ConfigOf) (fault : ℕ × ConfigReason) → SpellsConfig text config → IsFaulty text fault → ⊥
apart text config fault x (inl y) =
    let both : ◌≡◌ {A = Result (List Item) ℕ} (Ok (items_of x.entries)) (Err fault.0) = sym (fields_are_read x.entries text x.text_of) ∙ bad_lines_are_found text fault.0 y.bad in
    cc
apart text config fault x (inr y) =
    let both : ◌≡◌ {A = Result ConfigOf (ℕ × ConfigReason)} (Ok config) (Err fault) = sym x.says ∙ judged_alike text x.entries y.entries x.text_of y.text_of ∙ y.says in
    cc

pub answers_are_one : AnswersAreOne
answers_are_one = record {
  one_config = λ text a b x y.
      let both : ◌≡◌ {A = Result ConfigOf (ℕ × ConfigReason)} (Ok a) (Ok b) = sym x.says ∙ judged_alike text x.entries y.entries x.text_of y.text_of ∙ y.says in
      cc;
  one_fault = one_fault;
  apart = apart;
}
