-- Cells: domains with their extremes, when one of them changes, and when a zone is looked at.
use Rattle.std.proofs.Common.{◌≡◌, ◌≢◌, ◌⊎◌, inl, inr, ℕ, ◌<◌, List, [], length, get_or}
use Rattle.std.proofs.Common.{set, false, sym, subst, ◌∙◌, arith}
use Rattle.std.proofs.lemmas.Bool.{cases_eq}
use Rattle.std.proofs.lemmas.List.{length-set, get_or-set_same, get_or-set_other}
use Rattle.league_core.specs.declared.sheet.Sheet.{Sheet}
use Rattle.league_core.specs.declared.season.Score.{Score}
use Rattle.check_bounds.specs.declared.score_domain.ScoreDomain.{ScoreDomain}
use Rattle.check_bounds.specs.declared.int_range.IntRange.{IntRange}
use Rattle.check_bounds.specs.inside.ScoreDomains.{IsScoreDomainOf}
use Rattle.check_bounds.specs.inside.ExtremeScores.{AreExtremesOf}
use Rattle.check_bounds.specs.inside.Zones.{AreScoreDomainsOf, AreAllExtremesOf}
use Rattle.check_bounds.specs.inside.Cells.{FitScoreDomains, AreCells, AreWonIn}
use Rattle.check_bounds.specs.declared.open_counts.OpenCounts.{OpenCounts}
use Rattle.check_bounds.specs.inside.OpenCounts.{AreExchanged}
use Rattle.check_bounds.proofs.OpenCountLemmas.{loose_set}

-- extremes that fit domains are those of what the domains leave
pub fit_zone : (scopes : List ScoreDomain) (corners options : List (List Score))
    → FitScoreDomains scopes corners → AreScoreDomainsOf scopes options
    → AreAllExtremesOf corners options
fit_zone scopes corners options fit are = record {
  many = fit.many ∙ are.many;
  each = λ k within.
      let below : k < length scopes = omega (arith, within, fit.many) in
      fit.each k nothing below (get_or options k []) (are.each k nothing below);
}
  where
    nothing : ScoreDomain
    nothing = record {
      home_win = false;
      draw = false;
      away_win = false;
      home = record { least = 1; most = 0 };
      away = record { least = 1; most = 0 };
    }

-- another domain at one place, with its extremes
pub fit_set : (scopes : List ScoreDomain) (corners : List (List Score)) (place : ℕ)
    (scope : ScoreDomain)
    (own : List Score) → place < length scopes → FitScoreDomains scopes corners
    → ((options : List Score) → IsScoreDomainOf scope options → AreExtremesOf own options)
    → FitScoreDomains (set scopes place scope) (set corners place own)
fit_set scopes corners place scope own inside fit is = record {
  many = length-set corners place own ∙ fit.many ∙ sym (length-set scopes place scope);
  each = λ k d within. at k d within (cases_eq k place);
}
  where
    there : place < length corners
    there = omega (arith, inside, fit.many)

    at : (k : ℕ) (d : ScoreDomain) → k < length (set scopes place scope)
        → (k ≡ place) ⊎ (k ≢ place) → (options : List Score)
        → IsScoreDomainOf (get_or (set scopes place scope) k d) options
        → AreExtremesOf (get_or (set corners place own) k []) options
    at k d within (inl same) options of =
        subst (λ (n : ℕ). AreExtremesOf (get_or (set corners place own) n []) options) (sym same)
        (subst (λ (xs : List Score). AreExtremesOf xs options)
        (sym (get_or-set_same corners place own [] there))
        (is options
        (subst (λ (s : ScoreDomain). IsScoreDomainOf s options)
        (get_or-set_same scopes place scope d inside)
        (subst (λ (n : ℕ). IsScoreDomainOf (get_or (set scopes place scope) n d) options) same
        of))))
    at k d within (inr other) options of =
        let below : k < length scopes = omega (arith, within, length-set scopes place scope) in
        subst (λ (xs : List Score). AreExtremesOf xs options)
        (sym (get_or-set_other corners place k own [] other))
        (fit.each k d below options
        (subst (λ (s : ScoreDomain). IsScoreDomainOf s options)
        (get_or-set_other scopes place k scope d other) of))

-- another domain at one place
pub cells_set : (sheet : Sheet) (scopes : List ScoreDomain) (corners : List (List Score))
    (won now : List IntRange) (loose after : OpenCounts) (place : ℕ) (scope : ScoreDomain)
    (own : List Score)
    → place < length scopes → AreCells sheet scopes corners won loose
    → ((options : List Score) → IsScoreDomainOf scope options → AreExtremesOf own options)
    → AreWonIn sheet (set corners place own) now
    → AreExchanged loose (get_or corners place []) own after
    → AreCells sheet (set scopes place scope) (set corners place own) now after
cells_set sheet scopes corners won now loose after place scope own inside are is won_is loose_is =
    record {
      limits = are.limits;
      played = record {
        many = length-set corners place own ∙ are.played.many;
        few = are.played.few;
        teams = are.played.teams;
      };
      fit = fit_set scopes corners place scope own inside are.fit is;
      won = won_is;
      loose = loose_set corners loose after place own (omega (arith, inside, are.fit.many))
          are.loose loose_is;
    }
