-- The options of a fixture in a zone, by its number in the sheet, and what one literal more leaves
-- of them.
use Rattle.std.proofs.Common.{◌≡◌, ℕ, ◌+◌, ◌<◌, true, false, not, ◌&&◌, ◌||◌, List, [], ◌∷◌, ◌++◌}
use Rattle.std.proofs.Common.{length, get_or, Option, None, sym, ap, ◌∙◌, arith}
use Rattle.league_core.specs.declared.sheet.Sheet.{Sheet}
use Rattle.league_core.specs.declared.season.Score.{Score}
use Rattle.league_core.specs.declared.zone.Literal.{Literal}
use Rattle.league_core.specs.game.Results.{Results}
use Rattle.league_core.specs.search.Zones.{is_on, passes, is_as_said}
use Rattle.league_core.specs.search.Options.{meets_literal, options_of, options_from, options_in}
use Rattle.league_core.specs.search.Options.{has_score, has_option, has_finish}
use Rattle.league_core.proofs.OptionLemmas.{has_score-with, get_or-options_from}
use Rattle.league_core.proofs.plain.Lists.{list_all-at}

-- the options of a fixture by its number in the sheet
pub options_at : (limit : ℕ) (zone : List Literal) (scores : List (Option Score)) (k : ℕ)
    → k < length scores
    → get_or (options_from limit zone 0 scores) k [] ≡ options_of limit zone k
    (get_or scores k None)
options_at limit zone scores k within =
    let same : 0 + k ≡ k = omega arith in
    get_or-options_from limit zone 0 scores k within
    ∙ ap (λ f. options_of limit zone f (get_or scores k None)) same

-- one literal more at the options of a fixture
pub options_at-with : (limit : ℕ) (zone : List Literal) (literal : Literal)
    (scores : List (Option Score)) (k : ℕ) (score : Score) → k < length scores
    → has_score (get_or (options_from limit (zone ++ literal ∷ []) 0 scores) k []) score ≡
    (has_score (get_or (options_from limit zone 0 scores) k []) score
    && meets_literal k score literal)
options_at-with limit zone literal scores k score within =
    ap (λ options. has_score options score)
    (options_at limit (zone ++ literal ∷ []) scores k within)
    ∙ has_score-with limit zone literal k (get_or scores k None) score
    ∙ ap (λ options. has_score options score && meets_literal k score literal)
    (sym (options_at limit zone scores k within))

-- a literal of another fixture, or of a rival, takes nothing away
pub meets-other : (k : ℕ) (score : Score) (literal : Literal) → is_on k literal.test ≡ false
    → meets_literal k score literal ≡ true
meets-other k score literal off = ap
    (λ b. not b || is_as_said literal.yes (passes literal.test score)) off

pub meets-own : (k : ℕ) (score : Score) (literal : Literal) → is_on k literal.test ≡ true
    → meets_literal k score literal ≡ is_as_said literal.yes (passes literal.test score)
meets-own k score literal on = ap
    (λ b. not b || is_as_said literal.yes (passes literal.test score)) on

-- in a zone that has a finish each fixture has an option
pub option_at : (sheet : Sheet) (season : Results) (zone : List Literal) (i : ℕ)
    → has_finish sheet season zone ≡ true → i < length (options_in sheet season zone)
    → has_option (get_or (options_in sheet season zone) i []) ≡ true
unfolding has_finish
option_at sheet season zone i finish within =
    list_all-at has_option (options_in sheet season zone) i [] within finish
