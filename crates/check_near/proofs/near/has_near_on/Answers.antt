-- What the way hands out is of its zone.
use Rattle.std.proofs.Common.{◌≡◌, ◌<◌, length, subst, sym, arith}
use Rattle.league_core.specs.declared.sheet.Sheet.{Sheet}
use Rattle.league_core.specs.game.Results.{Results}
use Rattle.league_core.specs.game.Questions.{IsQuestionOf}
use Rattle.league_core.specs.game.Seasons.{IsLeague}
use Rattle.league_core.specs.search.Options.{options_in}
use Rattle.league_core.proofs.OptionLemmas.{length-options_from}
use Rattle.near_laws.specs.Near.{has_near_reason}
use Rattle.check_bounds.specs.inside.Zones.{AreScoreDomainsOf}
use Rattle.check_near.proofs.near.has_near_on.Goals as goal

pub has_near_over-requires : goal.has_near_over-requires
has_near_over-requires c =
    let way = c.args.way.now in
    let each = c.domains.ensures.many in
    let all = length-options_from way.sheet.goal_limit way.zone 0 way.season.scores in
    let of_sheet = c.season.ensures.league.of_sheet.scores in
    let Of : Sheet → Results → Type 0 = λ sheet season. IsLeague sheet season in
    let Many : Sheet → Type 0 = λ sheet. length c.domains.result.now ≡ length sheet.fixtures in
    let Asks : Sheet → Type 0 = λ sheet. IsQuestionOf sheet c.args.question.now in
    let Has : Sheet → Type 0 = λ sheet. c.args.rival < length sheet.clubs in
    let sheet = sym c.sheet.ensures in record {
      league = subst (λ (s : Sheet). Of s c.season.result.now) sheet
          (subst (λ (r : Results). Of way.sheet r) (sym c.season.ensures.value)
          c.season.ensures.league);
      many = subst Many sheet (omega (arith, each, all, of_sheet));
      question = subst Asks sheet c.requires.question;
      in_range = subst Has sheet c.requires.in_range;
    }

pub returns : goal.returns
returns c =
    let way = c.args.way.now in
    let Says : Sheet → Results → Type 0 = λ sheet season.
    AreScoreDomainsOf c.domains.result.now (options_in sheet season way.zone)
    → c.has_near_over.result
    ≡ has_near_reason sheet season c.args.question.now way.zone c.args.rival in
    subst (λ (s : Sheet). Says s way.season) c.sheet.ensures
    (subst (λ (r : Results). Says c.sheet.result.now r) c.season.ensures.value
    (λ domains. c.has_near_over.ensures way.zone domains c.marks.ensures))
    c.domains.ensures
