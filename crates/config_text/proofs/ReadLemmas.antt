-- What is read of a text is what it spells.
use Rattle.std.proofs.Common.{◌≡◌, ◌∙◌, ℕ, List, [], Option, Some, None, Result, Ok, Err, refl, sym, ap, subst, inl, inr}
use Rattle.text_form.specs.Entries.{Item, Entries}
use Rattle.text_form.specs.Grammar.{IsTextOf, IsBadAt}
use Rattle.text_form.specs.Laws.{Means}
use Rattle.text_form.specs.Machine.{items_or_line, with_item}
use Rattle.text_form.proofs.Readings.{texts_are_read}
use Rattle.config_text.specs.declared.reason.ConfigFault.{ConfigFault}
use Rattle.config_text.specs.declared.reason.ConfigFault.TheVariants.{OutOfMemory, BadConfig}
use Rattle.config_text.specs.declared.reason.ConfigReason.{ConfigReason}
use Rattle.config_text.specs.Blocks.{Block, ProducerSaid, blocks_of}
use Rattle.config_text.specs.Collecting.{Collected, nothing_collected, collected_item, collected_all}
use Rattle.config_text.specs.Configs.{ConfigOf}
use Rattle.config_text.specs.Reasons.{Known, known_in, or_default, producers_said, first_refusal}
use Rattle.config_text.specs.Grammar.{config_in, unless, judged, SpellsConfig}
use Rattle.config_text.specs.Answers.{collected_items, Collects, GivesConfig}
use Rattle.config_text.specs.Judging.{Judges}
use Rattle.config_text.specs.Writing.{IsWritable}
use Rattle.config_text.proofs.QuotedLemmas.{blocks_named}
use Rattle.config_text.proofs.WritableLemmas.{is_writable}
use Rattle.config_text.specs.Narrow.{config_known}
use Rattle.config_text.proofs.CollectingLemmas.{items_tell_the_blocks}
use Rattle.config_text.proofs.PassedLemmas.{narrow_is}

-- one item more
pub item_more : (collected : Collected) (item : Item) (rest : Result (List Item) ℕ)
    → collected_items collected (with_item item rest) ≡ collected_items (collected_item collected item) rest
item_more collected item (Ok items) = refl
item_more collected item (Err line) = refl

-- a text that was read to its end says fields with these blocks
record SaysBlocks (text : List ℕ) (blocks : List Block) : Type 0 where
  entries : Entries
  text_of : IsTextOf entries text
  blocks_are : blocks ≡ blocks_of entries

says_by : (text : List ℕ) (read : Result (List Item) ℕ) (collected : Collected) → Means text read → collected_items nothing_collected read ≡ Ok collected
    → SaysBlocks text collected.blocks
says_by text (Ok items) collected says is =
    let same : collected_all nothing_collected items ≡ collected = cc in
    record {
      entries = says.entries;
      text_of = says.text_of;
      blocks_are = ap (λ (c : Collected). c.blocks) (sym same)
          ∙ ap (λ (is : List Item). (collected_all nothing_collected is).blocks) says.items_are ∙ items_tell_the_blocks says.entries;
    }
says_by text (Err line) collected says is = absurd (cc)

bad_by : (text : List ℕ) (read : Result (List Item) ℕ) (line : ℕ) → Means text read → collected_items nothing_collected read ≡ Err line → IsBadAt text line
bad_by text (Ok items) line bad is = absurd (cc)
bad_by text (Err at) line bad is =
    let same : at ≡ line = cc in
    let P : ℕ → Type 0 = λ n. IsBadAt text n in
    subst P same bad

-- ---- the answers

pub collects_fault : (text : List ℕ) (fault : ConfigFault) → Collects (Err fault) (collected_items nothing_collected (items_or_line text)) → GivesConfig text (Err fault)
collects_fault text OutOfMemory collects = tt
collects_fault text (BadConfig line reason) collects =
    inl (record { bad = bad_by text (items_or_line text) line (texts_are_read text) collects.1; reason = collects.0 })

-- what the blocks of a text are judged as
judged_by : (text : List ℕ) (collected : Collected) (known : Known) (found : Option (ℕ × ConfigReason)) → collected_items nothing_collected (items_or_line text) ≡ Ok collected
    → known ≡ known_in collected.blocks → first_refusal known [] collected.blocks ≡ found
    → (entries : Entries) × IsTextOf entries text × (judged (blocks_of entries) ≡ unless found (config_in collected.blocks))
unfolding judged
judged_by text collected known found read is judges =
    let says = says_by text (items_or_line text) collected (texts_are_read text) read in (
      says.entries,
      says.text_of,
      ap judged (sym says.blocks_are)
          ∙ ap (λ (k : Known). unless (first_refusal k [] collected.blocks) (config_in collected.blocks)) (sym is)
          ∙ ap (λ (o : Option (ℕ × ConfigReason)). unless o (config_in collected.blocks)) judges,
    )

pub judges_fault : (text : List ℕ) (collected : Collected) (known : Known) (fault : ConfigFault) → collected_items nothing_collected (items_or_line text) ≡ Ok collected
    → known ≡ known_in collected.blocks → Judges (Err fault) (first_refusal known [] collected.blocks) → GivesConfig text (Err fault)
unfolding unless
judges_fault text collected known OutOfMemory read is judges = tt
judges_fault text collected known (BadConfig line reason) read is judges =
    let all = judged_by text collected known (Some (line, reason)) read is judges in
    inr (record { entries = all.0; text_of = all.1; says = all.2 })

producers_known : (blocks : List Block) → (known_in blocks).producers ≡ or_default (producers_said blocks)
unfolding known_in
producers_known blocks = refl

pub spelled : (text : List ℕ) (collected : Collected) (known : Known) (config : ConfigOf) → collected_items nothing_collected (items_or_line text) ≡ Ok collected
    → known ≡ known_in collected.blocks → first_refusal known [] collected.blocks ≡ None → config ≡ config_known known.producers collected.blocks
    → SpellsConfig text config
unfolding unless
spelled text collected known config read is none made =
    let all = judged_by text collected known None read is none in
    let passes : first_refusal (known_in collected.blocks) [] collected.blocks ≡ None =
    ap (λ (k : Known). first_refusal k [] collected.blocks) (sym is) ∙ none in
    let same : config_in collected.blocks ≡ config =
    sym (made ∙ ap (λ (k : Known). config_known k.producers collected.blocks) is
    ∙ ap (λ (ps : List ProducerSaid). config_known ps collected.blocks) (producers_known collected.blocks)
    ∙ narrow_is collected.blocks passes) in
    record { entries = all.0; text_of = all.1; says = all.2 ∙ ap (λ (c : ConfigOf). Ok c) same }

-- ---- what is read can be written

unless_ok : (found : Option (ℕ × ConfigReason)) (made config : ConfigOf) → unless found made ≡ Ok config → (found ≡ None) × (made ≡ config)
unfolding unless
unless_ok None made config is = let same : made ≡ config = cc in (refl, same)
unless_ok (Some fault) made config is = absurd (cc)

judged_ok : (blocks : List Block) (config : ConfigOf) → judged blocks ≡ Ok config
    → (first_refusal (known_in blocks) [] blocks ≡ None) × (config_in blocks ≡ config)
unfolding judged
judged_ok blocks config is = unless_ok (first_refusal (known_in blocks) [] blocks) (config_in blocks) config is

pub spelled_is_writable : (text : List ℕ) (config : ConfigOf) → SpellsConfig text config → IsWritable config
spelled_is_writable text config spells =
    let blocks : List Block = blocks_of spells.entries in
    let means = judged_ok blocks config spells.says in
    subst IsWritable means.1 (is_writable blocks means.0 (blocks_named text spells.entries spells.text_of))
