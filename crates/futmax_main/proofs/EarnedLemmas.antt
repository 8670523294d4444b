-- Worked inputs, one for each status that a session may have; and what the status of a run
-- says, whether or not the source tells its bytes.
use Rattle.std.proofs.Common.{◌≡◌, ◌≢◌, ℕ, Bool, List, [], ◌∷◌, ◌++◌, Option, codes}
use Rattle.std.proofs.Common.{replicate, refl}
use lib.Utf8.{encode}
use Rattle.std.specs.Str.{chars, is_utf8}
use Rattle.csv.specs.Machine.{next_record}
use Rattle.csv.specs.Reading.{strip_bom}
use Rattle.run_ends.specs.declared.status.Status.{Status}
use Rattle.run_ends.specs.declared.status.Status.TheVariants.{Done, BadSheet, BadFeed}
use Rattle.run_ends.specs.declared.status.Status.TheVariants.{ReadFault, WriteFault}
use Rattle.run_ends.specs.declared.status.Status.TheVariants.{TooLong}
use Rattle.command_words.specs.declared.command.Mode.{Mode}
use Rattle.command_words.specs.declared.command.Mode.TheVariants.{WhatIf, Resume}
use Rattle.run_ends.specs.Runs.{IsEarned, IsSettled, Serves, session_status}
use Rattle.run_ends.proofs.SettledLemmas.{settled-by}
use Rattle.run_ends.specs.inside.RunTurns.{MayEndSession}
use Rattle.session_turns.specs.Texts.{session_kind}

-- a line of these words
line : List ℕ → List ℕ
line text = text ++ 10 ∷ []

-- the sheet of two clubs that do not meet
two_clubs : List ℕ
two_clubs =
    line (codes "league,T,1") ++ (line (codes "club,A,1") ++ (line (codes "club,B,2")
    ++ line (codes "season")))

-- the same with a saved text of nothing after it
resumed_clubs : List ℕ
resumed_clubs = two_clubs ++ (line (codes "proofs") ++ line (codes "saved_end"))

-- there is an input that ends well
earned-done : (mode : Mode) → IsEarned (session_kind mode) Done
unfolding line two_clubs resumed_clubs next_record strip_bom is_utf8 chars encode
earned-done (Resume proofs) = (resumed_clubs, refl)
earned-done mode = (two_clubs, refl)

-- no sheet stands in an empty input
earned-bad_sheet : (mode : Mode) → session_status (session_kind mode) [] ≡ BadSheet
earned-bad_sheet mode = refl

-- a word that no feed has
earned-bad_feed : (mode : Mode)
    → session_status (session_kind mode) (two_clubs ++ line (codes "x")) ≡ BadFeed
unfolding line two_clubs next_record strip_bom is_utf8 chars encode
earned-bad_feed WhatIf = refl
earned-bad_feed mode = refl

-- a line of 1025 bytes
earned-too_long : (mode : Mode) → session_status (session_kind mode) (replicate 1025 97) ≡ TooLong
earned-too_long mode = refl

-- the status of a run in which no device failed
pub settled : (mode : Mode) (input left : Option (List ℕ)) (told : Bool)
    (old new : Option (List ℕ)) (status : Status)
    → Serves (session_kind mode) input left told old new status → MayEndSession status
    → status ≢ ReadFault → status ≢ WriteFault → IsSettled (session_kind mode) input status
settled mode =
    settled-by (session_kind mode) (earned-done mode) ([], earned-bad_sheet mode)
    (two_clubs ++ line (codes "x"), earned-bad_feed mode)
    (replicate 1025 97, earned-too_long mode)
