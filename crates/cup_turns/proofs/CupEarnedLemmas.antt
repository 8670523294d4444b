-- Worked inputs of cups, one for each status that a session may have; and what the status of a run
-- says, whether or not the source tells its bytes.
use Rattle.std.proofs.Common.{◌≢◌, ℕ, Bool, List, [], ◌∷◌, ◌++◌, Option, codes, replicate, refl}
use lib.Utf8.{encode}
use Rattle.std.specs.Str.{chars, is_utf8}
use Rattle.csv.specs.Machine.{next_record}
use Rattle.csv.specs.Reading.{strip_bom}
use Rattle.run_ends.specs.declared.status.Status.{Status}
use Rattle.run_ends.specs.declared.status.Status.TheVariants.{Done, BadSheet, BadFeed, ReadFault}
use Rattle.run_ends.specs.declared.status.Status.TheVariants.{WriteFault, TooLong}
use Rattle.run_ends.specs.Runs.{IsEarned, IsSettled, Serves}
use Rattle.run_ends.specs.inside.RunTurns.{MayEndSession}
use Rattle.run_ends.proofs.SettledLemmas.{settled-by}
use Rattle.cup_turns.specs.CupCourses.{CupPlayed, cup_kind}

-- a line of these words
cup_line : List ℕ → List ℕ
cup_line text = text ++ 10 ∷ []

-- the sheet of two groups of three clubs that do not meet
two_groups : List ℕ
two_groups =
    cup_line (codes "cup,T,1,1,1") ++ (cup_line (codes "group,X") ++ (cup_line (codes "club,A,1")
    ++ (cup_line (codes "club,B,2") ++ (cup_line (codes "club,C,3")
    ++ (cup_line (codes "group,Y") ++ (cup_line (codes "club,D,4")
    ++ (cup_line (codes "club,E,5") ++ (cup_line (codes "club,F,6")
    ++ cup_line (codes "season")))))))))

module _ (IsAnswer : CupPlayed → List ℕ → Type 0) where
  -- there is an input that ends well
  earned-cup : IsEarned (cup_kind IsAnswer) Done
  unfolding cup_line two_groups next_record strip_bom is_utf8 chars encode
  earned-cup = (two_groups, refl)

  -- no cup stands in an empty input
  earned-no_cup : IsEarned (cup_kind IsAnswer) BadSheet
  earned-no_cup = ([], refl)

  -- a word that no feed has
  earned-no_feed : IsEarned (cup_kind IsAnswer) BadFeed
  unfolding cup_line two_groups next_record strip_bom is_utf8 chars encode
  earned-no_feed = (two_groups ++ cup_line (codes "x"), refl)

  -- a line of 1025 bytes
  earned-long : IsEarned (cup_kind IsAnswer) TooLong
  earned-long = (replicate 1025 97, refl)

  -- the status of a run in which no device failed
  pub cup-settled : (input left : Option (List ℕ)) (told : Bool) (old new : Option (List ℕ))
      (status : Status) → Serves (cup_kind IsAnswer) input left told old new status
      → MayEndSession status → status ≢ ReadFault → status ≢ WriteFault
      → IsSettled (cup_kind IsAnswer) input status
  cup-settled =
      settled-by (cup_kind IsAnswer) earned-cup earned-no_cup earned-no_feed earned-long
