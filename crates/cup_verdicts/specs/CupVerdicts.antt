-- The verdicts on the clubs of a cup: each word is true, and its lines show it.
use Rattle.std.specs.Prelude.{◌≡◌, ℕ, true, List, map, All}
use Rattle.std.specs.List.{range_with_len}
use Rattle.league_core.specs.game.Results.{Results}
use Rattle.cup_sheet.specs.declared.cup.Cup.{Cup}
use Rattle.cup_answers.specs.CupTexts.{ShowsInCup}
use Rattle.cup_verdicts.specs.declared.verdicts.CupVerdict.{CupVerdict}

-- the word of a verdict is true of its club, and its lines show what they have to show
abbrev pub IsShownInCup : Cup → List Results → CupVerdict → Type 0
IsShownInCup cup seasons verdict =
    ShowsInCup true cup seasons verdict.club verdict.word verdict.proof.items

-- a verdict on this club
pub record IsCupVerdict (cup : Cup) (seasons : List Results) (club : ℕ) (verdict : CupVerdict)
    : Type 0 where
  pub club_is : verdict.club ≡ club
  pub shown : IsShownInCup cup seasons verdict

-- one for each of the first clubs, so many, in their order
pub record AreCupVerdicts (cup : Cup) (seasons : List Results) (count : ℕ)
    (verdicts : List CupVerdict) : Type 0 where
  pub clubs : map (λ (v : CupVerdict). v.club) verdicts ≡ range_with_len 0 count
  pub each : All (IsShownInCup cup seasons) verdicts
