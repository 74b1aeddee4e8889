-- Words, and what the command line of bebopk-explore gives for them, by evaluation.
use Rattle.std.proofs.Common.{◌≡◌, List, [], ◌∷◌, Option, Some, refl, codes}
use Rattle.clap.specs.Words.{Text, fault_of, first_of, matches_of, one_of}
use Rattle.clap.specs.declared.error.kind.ErrorKind.TheVariants as kind
use Rattle.clap.proofs.OnLiterals.{clap_on_literals}
use Rattle.explore_line.specs.Line.{bebopk_explore}

-- the rounds, the limit, whether counts are asked for, and the file
abbrev found : List Text → Option Text × Option Text × Option Text × Option Text
found words = (
  first_of (codes "rounds") (matches_of bebopk_explore words),
  one_of (codes "limit") (matches_of bebopk_explore words),
  one_of (codes "stats") (matches_of bebopk_explore words),
  first_of (codes "file") (matches_of bebopk_explore words),
)

abbrev explore : List Text → List Text
explore words = codes "bebopk-explore" ∷ words

-- a.bp
defaults : (fault_of bebopk_explore (explore (codes "a.bp" ∷ [])) ≡ [])
    × (found (explore (codes "a.bp" ∷ []))
    ≡ (Some (codes "all"), Some (codes "40000000"), Some (codes "false"), Some (codes "a.bp")))
unfolding clap_on_literals
defaults = (refl, refl)

-- a.bp --rounds 3 --stats --limit=12
abbrev all_behind : List Text
all_behind = explore (codes "a.bp" ∷ codes "--rounds" ∷ codes "3" ∷ codes "--stats" ∷ codes "--limit=12" ∷ [])

behind : (fault_of bebopk_explore all_behind ≡ [])
    × (found all_behind ≡ (Some (codes "3"), Some (codes "12"), Some (codes "true"), Some (codes "a.bp")))
unfolding clap_on_literals
behind = (refl, refl)

-- --rounds 0 a.bp: the text is found, and reads as no rounds
zero_rounds : (fault_of bebopk_explore (explore (codes "--rounds" ∷ codes "0" ∷ codes "a.bp" ∷ [])) ≡ [])
    × (found (explore (codes "--rounds" ∷ codes "0" ∷ codes "a.bp" ∷ []))
    ≡ (Some (codes "0"), Some (codes "40000000"), Some (codes "false"), Some (codes "a.bp")))
unfolding clap_on_literals
zero_rounds = (refl, refl)

-- --limit 0 a.bp
no_limit : fault_of bebopk_explore (explore (codes "--limit" ∷ codes "0" ∷ codes "a.bp" ∷ [])) ≡ kind.ValueValidation ∷ []
unfolding clap_on_literals
no_limit = refl

-- --stats
no_file : fault_of bebopk_explore (explore (codes "--stats" ∷ [])) ≡ kind.MissingRequiredArgument ∷ []
unfolding clap_on_literals
no_file = refl

-- a.bp b.bp
two_files : fault_of bebopk_explore (explore (codes "a.bp" ∷ codes "b.bp" ∷ [])) ≡ kind.UnknownArgument ∷ []
unfolding clap_on_literals
two_files = refl

-- --help
help : fault_of bebopk_explore (explore (codes "--help" ∷ [])) ≡ kind.DisplayHelp ∷ []
unfolding clap_on_literals
help = refl

-- -V
version : fault_of bebopk_explore (explore (codes "-V" ∷ [])) ≡ kind.DisplayVersion ∷ []
unfolding clap_on_literals
version = refl
