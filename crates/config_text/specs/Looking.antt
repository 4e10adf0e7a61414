-- What the code has for the look-ups of sources, in the words of the definitions.
use Rattle.std.specs.Prelude.{map}
use Rattle.config_text.specs.declared.look_ups.LookUps.{LookUps}
use Rattle.config_text.specs.Kept.{producer_kept}
use Rattle.config_text.specs.Reasons.{Known}

-- what the code has for look-ups
abbrev pub known_of : LookUps → Known
known_of look = record { sizes = look.sizes.items; producers = map producer_kept look.producers.items; fit = look.fit }
