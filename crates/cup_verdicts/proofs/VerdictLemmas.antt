-- The verdicts so far, and one more.
use Rattle.std.proofs.Common.{◌∙◌, ◌+◌, ℕ, List, [], ◌∷◌, ◌++◌, ap, refl, sym}
use Rattle.std.proofs.lemmas.List.{map-append}
use Rattle.std.proofs.lemmas.List.Elements.{All-nil, All-push}
use Rattle.league_core.specs.game.Results.{Results}
use Rattle.league_core.proofs.plain.Runs.{range_with_len-suc}
use Rattle.cup_sheet.specs.declared.cup.Cup.{Cup}
use Rattle.cup_verdicts.specs.declared.verdicts.CupVerdict.{CupVerdict}
use Rattle.cup_verdicts.specs.CupVerdicts.{AreCupVerdicts, IsCupVerdict, IsShownInCup}

pub verdicts-none : (cup : Cup) (seasons : List Results) → AreCupVerdicts cup seasons 0 []
verdicts-none cup seasons =
    record { clubs = refl; each = All-nil (IsShownInCup cup seasons) }

pub verdicts-next : (cup : Cup) (seasons : List Results) (club : ℕ) (all : List CupVerdict)
    (verdict : CupVerdict) → AreCupVerdicts cup seasons club all
    → IsCupVerdict cup seasons club verdict
    → AreCupVerdicts cup seasons (club + 1) (all ++ verdict ∷ [])
verdicts-next cup seasons club all verdict before is = record {
  clubs = map-append (λ (v : CupVerdict). v.club) all (verdict ∷ [])
      ∙ ap (λ clubs. clubs ++ verdict.club ∷ []) before.clubs
      ∙ ap (λ number. Rattle.std.specs.List.range_with_len 0 club ++ number ∷ []) is.club_is
      ∙ sym (range_with_len-suc club);
  each = All-push (IsShownInCup cup seasons) all verdict before.each is.shown;
}
