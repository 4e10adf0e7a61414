-- A stream that is played isn't refused.
use Rattle.std.proofs.Common.{◌≡◌, ◌∙◌, ℕ, List, ◌∷◌, ◌++◌, Option, Some, Result, Ok, Err, inl, inr, sym, ap, subst}
use Rattle.byte_io.specs.declared.put.WriteFault.{WriteFault}
use Rattle.byte_io.specs.Bytes.{Intake, Loan, told, untold, lent_by, TakesPart}
use Rattle.chunk_plain.specs.Setup.{Setup}
use Rattle.config_text.specs.Configs.{ConfigOf}
use Rattle.config_text.proofs.OneLemmas.{answers_are_one}
use Rattle.stream_frames.specs.declared.check.FrameFault.{FrameFault}
use Rattle.stream_frames.specs.Framing.{verdict_on}
use Rattle.stream_producer.specs.Setups.{config_limits}
use Rattle.stream_producer.specs.declared.producer.StreamDone.{StreamDone}
use Rattle.stream_producer.specs.Whole.{PlaysWhole, TakesBytes, stream_trace}
use Rattle.tracesmb_top.specs.Checked.{divider_of, text_before, trace_behind}
use Rattle.tracesmb_top.specs.Streamed.{IsStreamFor, IsStreamRefusal, RefusesDivided, RefusesStreamAt}

-- neither the text nor the frames have a fault
divided_unrefused : (text stream line : List ℕ) (config : ConfigOf) → IsStreamFor text stream config → RefusesDivided text stream line → ⊥
divided_unrefused text stream line config is (inl refused) = answers_are_one.apart text config refused.fault is.spells refused.is
divided_unrefused text stream line config is (inr refused) =
    let same : config ≡ refused.config = answers_are_one.one_config text config refused.config is.spells refused.spells in
    let none : ◌≡◌ {A = Result (Unit {0}) FrameFault} (Ok tt) (Err refused.frames.fault) =
    sym is.right ∙ ap (λ (c : ConfigOf). verdict_on (config_limits c) stream) same ∙ refused.frames.is in
    absurd cc

pub streamed_unrefused : (input line : List ℕ) (at : ℕ) (config : ConfigOf) → divider_of input ≡ Some at
    → IsStreamFor (text_before at input) (trace_behind at input) config → IsStreamRefusal input line → ⊥
streamed_unrefused input line at config divides is refused =
    divided_unrefused (text_before at input) (trace_behind at input) line config is
    (subst (λ (place : Option ℕ). RefusesStreamAt input place line) divides refused)

-- an adapter that took bytes stands on the same loan
pub took_loan : (loan loan' : Loan) (old new : Intake) → TakesBytes (lent_by loan old) (lent_by loan' new) → loan' ≡ loan
took_loan loan loan' (told first loans) (told second loans') took =
    let same : told second (loan' ∷ loans') ≡ told (first ++ took.bytes) (loan ∷ loans) = took.taken in cc
took_loan loan loan' (told first loans) (untold loans') took =
    let same : untold (loan' ∷ loans') ≡ told (first ++ took.bytes) (loan ∷ loans) = took.taken in absurd cc
took_loan loan loan' (untold loans) (told second loans') took =
    let same : told second (loan' ∷ loans') ≡ untold (loan ∷ loans) = took.taken in absurd cc
took_loan loan loan' (untold loans) (untold loans') took =
    let same : untold (loan' ∷ loans') ≡ untold (loan ∷ loans) = took.taken in cc

-- where a write failed, the stream was played in part
pub played_part : (config : ConfigOf) (setup : Setup) (stream : List ℕ) (old : Intake) (answer : Result StreamDone WriteFault) (fault : WriteFault) (new : Intake)
    → answer ≡ Err fault → TakesPart old new (stream_trace config setup stream) → PlaysWhole config setup stream old answer new
played_part config setup stream old answer fault new is part =
    subst (λ (r : Result StreamDone WriteFault). PlaysWhole config setup stream old r new) (sym is) (record { counts = tt; all = tt; part = part })
