-- The spoilt pages, computed.
use Rattle.std.proofs.Common.{[], ◌∷◌, refl, arith}
use Rattle.std.proofs.lemmas.Bool.{false≢true}
use Rattle.std.proofs.lemmas.List.Elements.{All-from_recursion}
use Rattle.wire_varint.specs.Varint.{varint, groups, tag, redundant}
use Rattle.trace_model.specs.Encoding.{number_field, bytes_head, bytes_field}
use Rattle.trace_model.specs.Cut.{IsWellFormedPage}
use Rattle.model_laws.specs.SpoiltCuts.{filled_page, SpoiltCutsAreRefused}

pub spoilt_cuts_are_refused : SpoiltCutsAreRefused
unfolding groups varint tag redundant number_field bytes_head bytes_field
spoilt_cuts_are_refused = record {
  filled = record {
    full = All-from_recursion (IsWellFormedPage 12) (filled_page ∷ []) (
      record { some = omega arith; most = omega arith; whole = refl; dropped = λ h. absurd (cc) },
      tt,
    );
    flags = (refl, tt);
    last = λ h. absurd (cc);
    chains = (record { marked = refl; bytes = refl; ends = refl; goes_on = refl; lengths = refl }, tt);
    patches = record { sent = (refl, tt); lasts = tt; awaits = (refl, tt); placed = refl; behind = (tt, tt) };
    begins = refl;
  };
  empty_end = λ cut. false≢true cut.chains.0.goes_on;
  split_length = λ cut. false≢true cut.chains.0.lengths;
}
