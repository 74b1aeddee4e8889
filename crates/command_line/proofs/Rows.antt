-- Words, and what the command line of bebopk gives for them, by evaluation.
use Rattle.std.proofs.Common.{◌≡◌, List, [], ◌∷◌, Option, Some, None, refl, codes, option_map}
use Rattle.clap.specs.Words.{Text, fault_of, first_of, one_of, subcommand_of}
use Rattle.clap.specs.declared.error.kind.ErrorKind.TheVariants as kind
use Rattle.clap.proofs.OnLiterals.{clap_on_literals}
use Rattle.command_line.specs.Line.{bebopk}

-- the command, the rounds, the path edges, whether counts are asked for, and the file
abbrev found : List Text → Option (Text × Option Text × Option Text × Option Text × Option Text)
found words = option_map (λ p. (
  p.0,
  one_of (codes "rounds") p.1,
  one_of (codes "edges") p.1,
  one_of (codes "stats") p.1,
  first_of (codes "file") p.1,
)) (subcommand_of bebopk words)

abbrev check : List Text → List Text
check words = codes "bebopk" ∷ codes "check" ∷ words

abbrev sequential : List Text → List Text
sequential words = codes "bebopk" ∷ codes "sequential" ∷ words

-- check a.bp
defaults : (fault_of bebopk (check (codes "a.bp" ∷ [])) ≡ [])
    × (found (check (codes "a.bp" ∷ []))
    ≡ Some (codes "check", Some (codes "2"), Some (codes "1000000"), Some (codes "false"), Some (codes "a.bp")))
unfolding clap_on_literals
defaults = (refl, refl)

-- check a.bp --rounds 3 --stats --edges=12
abbrev all_behind : List Text
all_behind = check (codes "a.bp" ∷ codes "--rounds" ∷ codes "3" ∷ codes "--stats" ∷ codes "--edges=12" ∷ [])

behind : (fault_of bebopk all_behind ≡ [])
    × (found all_behind ≡ Some (codes "check", Some (codes "3"), Some (codes "12"), Some (codes "true"), Some (codes "a.bp")))
unfolding clap_on_literals
behind = (refl, refl)

-- sequential --rounds 8 a.bp
rewriting : (fault_of bebopk (sequential (codes "--rounds" ∷ codes "8" ∷ codes "a.bp" ∷ [])) ≡ [])
    × (found (sequential (codes "--rounds" ∷ codes "8" ∷ codes "a.bp" ∷ []))
    ≡ Some (codes "sequential", Some (codes "8"), None, None, Some (codes "a.bp")))
unfolding clap_on_literals
rewriting = (refl, refl)

-- check --rounds 9 a.bp
nine : fault_of bebopk (check (codes "--rounds" ∷ codes "9" ∷ codes "a.bp" ∷ [])) ≡ kind.ValueValidation ∷ []
unfolding clap_on_literals
nine = refl

-- sequential a.bp
no_rounds : fault_of bebopk (sequential (codes "a.bp" ∷ [])) ≡ kind.MissingRequiredArgument ∷ []
unfolding clap_on_literals
no_rounds = refl

-- check --help
help : fault_of bebopk (check (codes "--help" ∷ [])) ≡ kind.DisplayHelp ∷ []
unfolding clap_on_literals
help = refl

-- --version
version : fault_of bebopk (codes "bebopk" ∷ codes "--version" ∷ []) ≡ kind.DisplayVersion ∷ []
unfolding clap_on_literals
version = refl

-- check --version
version_of_check : fault_of bebopk (check (codes "--version" ∷ [])) ≡ kind.UnknownArgument ∷ []
unfolding clap_on_literals
version_of_check = refl

-- check --stats=no a.bp
stats_with_a_value : fault_of bebopk (check (codes "--stats=no" ∷ codes "a.bp" ∷ [])) ≡ kind.TooManyValues ∷ []
unfolding clap_on_literals
stats_with_a_value = refl

-- sequential --rounds 1 --stats a.bp
stats_of_sequential : fault_of bebopk (sequential (codes "--rounds" ∷ codes "1" ∷ codes "--stats" ∷ codes "a.bp" ∷ []))
    ≡ kind.UnknownArgument ∷ []
unfolding clap_on_literals
stats_of_sequential = refl
