-- What `clap` found behind the name of a command.
use Rattle.std.specs.Prelude.{◌≡◌, ℕ, List, Some, codes}
use Rattle.clap.specs.Words.{first_value, found_of}
use Rattle.clap.specs.declared.ArgMatches.{ArgMatches}

-- the values of the two numbers of `tune`
pub record HasTurns (values : ArgMatches) (users turns : List ℕ) : Type 0 where
  pub users_found : first_value (found_of values) (codes "USERS") ≡ Some users
  pub turns_found : first_value (found_of values) (codes "TURNS") ≡ Some turns

-- the values of the three numbers of `gen`
pub record HasNumbers (values : ArgMatches) (number writers packets : List ℕ) : Type 0 where
  pub number_found : first_value (found_of values) (codes "NUMBER") ≡ Some number
  pub writers_found : first_value (found_of values) (codes "WRITERS") ≡ Some writers
  pub packets_found : first_value (found_of values) (codes "PACKETS") ≡ Some packets
