-- Lines `p W FIELDS`, which are read on a short way.
use Rattle.std.specs.Prelude.{◌≡◌, ℕ, true, false, List, Some}
use Rattle.trace_base.specs.declared.numeral.Numeral.TheVariants.{Fits}
use Rattle.scenario_text.specs.declared.form.Form.TheVariants.{OfWriter}
use Rattle.scenario_text.specs.declared.form.WriterStep.TheVariants.{Packet}
use Rattle.scenario_text.specs.Forms.{form_of}
use Rattle.scenario_text.specs.Grammar.{says_nothing}
use Rattle.scenario_text.specs.Pieces.{fields_part}

-- the line gives the writer with this number a packet of these FIELDS
pub record IsPacketLine (line : List ℕ) (writer : ℕ) (fields : List ℕ) : Type 0 where
  pub says : says_nothing line ≡ false
  pub form : form_of line ≡ Some (OfWriter (Fits writer) (Packet true))
  pub behind : fields ≡ fields_part line
