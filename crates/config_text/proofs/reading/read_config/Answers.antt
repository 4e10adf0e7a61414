-- What each answer says of the text.
use Rattle.std.proofs.Common.{◌≡◌, ◌∙◌, ℕ, List, [], None, Err, ap, subst}
use Rattle.std.specs.Borrow.{Bor}
use Rattle.config_text.specs.declared.kept.KeptBlock.{KeptBlock}
use Rattle.config_text.specs.Blocks.{Block}
use Rattle.config_text.specs.Collectors.{collected_of}
use Rattle.config_text.specs.Configs.{parts_of}
use Rattle.config_text.specs.Judging.{Judges}
use Rattle.config_text.specs.Kept.{blocks_kept}
use Rattle.config_text.specs.Looking.{known_of}
use Rattle.config_text.specs.Narrow.{config_known}
use Rattle.config_text.specs.Reasons.{known_in, first_refusal}
use Rattle.config_text.proofs.ReadLemmas.{collects_fault, judges_fault, spelled, spelled_is_writable}
use Rattle.config_text.proofs.reading.read_config.Goals as goal

pub returns-in-Err-clause-spells : goal.returns-in-Err-clause-spells
returns-in-Err-clause-spells c = collects_fault c.args.text.now c.in-Err.fault c.in-Err.ensures.collects

-- what two slices hold that are those of a collector
kept_is : (entries all : List (Bor (List ℕ))) (blocks ended : List KeptBlock) → entries ≡ all → blocks ≡ ended → blocks_kept entries blocks ≡ blocks_kept all ended
kept_is entries all blocks ended same_entries same_blocks =
    ap (λ (es : List (Bor (List ℕ))). blocks_kept es blocks) same_entries ∙ ap (blocks_kept all) same_blocks

pub returns-in-Err-judge-clause-spells : goal.returns-in-Err-judge-clause-spells
returns-in-Err-judge-clause-spells c =
    let collector = c.in-Ok.collector in
    let known = known_of c.in_ok-look.look in
    let blocks : List Block = blocks_kept collector.entries.items collector.ended.items in
    let kept = kept_is c.as_slice-entries.result.now collector.entries.items c.as_slice-blocks.result.now collector.ended.items
    c.as_slice-entries.ensures.value c.as_slice-blocks.ensures.value in
    let known_is : known ≡ known_in blocks = c.in_ok-look.ensures collector.entries.items
    ∙ ap (λ (bs : List KeptBlock). known_in (blocks_kept collector.entries.items bs)) c.as_slice-blocks.ensures.value in
    let P : List Block → Type 0 = λ bs. Judges (Err c.in-Err-judge.fault) (first_refusal known [] bs) in
    judges_fault c.args.text.now (collected_of collector) known c.in-Err-judge.fault c.in-Ok.ensures.collects known_is (subst P kept c.in-Err-judge.ensures)

pub returns-in-Ok-config-clause-spells : goal.returns-in-Ok-config-clause-spells
returns-in-Ok-config-clause-spells c =
    let collector = c.in-Ok.collector in
    let known = known_of c.in_ok-look.look in
    let blocks : List Block = blocks_kept collector.entries.items collector.ended.items in
    let kept = kept_is c.as_slice-entries.result.now collector.entries.items c.as_slice-blocks.result.now collector.ended.items
    c.as_slice-entries.ensures.value c.as_slice-blocks.ensures.value in
    let known_is : known ≡ known_in blocks = c.in_ok-look.ensures collector.entries.items
    ∙ ap (λ (bs : List KeptBlock). known_in (blocks_kept collector.entries.items bs)) c.as_slice-blocks.ensures.value in
    let P : List Block → Type 0 = λ bs. first_refusal known [] bs ≡ None in
    spelled c.args.text.now (collected_of collector) known (parts_of c.in-Ok-config.config) c.in-Ok.ensures.collects known_is (subst P kept c.in-Ok-judge.ensures)
    (c.in-Ok-config.ensures ∙ ap (config_known known.producers) kept)

pub returns-in-Ok-config-clause-writable : goal.returns-in-Ok-config-clause-writable
returns-in-Ok-config-clause-writable c =
    spelled_is_writable c.args.text.now (parts_of c.in-Ok-config.config) (returns-in-Ok-config-clause-spells c)
