-- What a search with near reasons comes to.
use Rattle.std.proofs.Common.{◌≡◌, ℕ, true, sym, ap, ◌∙◌, subst}
use Rattle.std.specs.List.{list_all}
use Rattle.league_core.specs.game.Results.{are_results}
use Rattle.league_core.specs.game.Seasons.{IsLeague}
use Rattle.tree_arena.specs.declared.example.Example.{Example}
use Rattle.depth_search.specs.declared.kind.SearchEnd.{SearchEnd}
use Rattle.depth_search.specs.declared.kind.SearchEnd.TheVariants.{Won, Refuted, Spent}
use Rattle.depth_search.specs.inside.Cases.{is_made}
use Rattle.depth_search.specs.inside.Searches.{IsEndOf, IsSpentAfter}
use Rattle.wide_lines.specs.declared.wide_reason.WideReason.{WideReason}
use Rattle.decide_run.specs.inside.WideTasks.{AskedWide, ShowsWide, Refutes, Splits, IsWideSolved}
use Rattle.decide_run.proofs.WideCaseLemmas.{wide_refuted, wide_spent, wide_tests, wide_reasons}
use Rattle.decide_run.proofs.WideCaseLemmas.{wide_units}

-- the end of a search over what is asked
pub end_solved : (asked : AskedWide) (budget : ℕ) → IsLeague asked.league.sheet asked.league.season
    → are_results asked.league.season ≡ true → (end : SearchEnd Example WideReason)
    → IsEndOf (ShowsWide asked) (Refutes asked) (Splits asked) budget end
    → IsWideSolved asked.league.sheet asked.league.season asked.question budget end
end_solved asked budget league results (Won example) is = is
end_solved asked budget league results (Refuted nodes) is =
    let sheet = asked.league.sheet in
    let season = asked.league.season in
    let cases = is.0.0 in (
      cases,
      is.0.2,
      record {
        tests = wide_tests sheet season asked.question cases league results is.0.1;
        refuted = wide_refuted cases (ap (list_all is_made) is.0.2 ∙ is.1);
        reasons = wide_reasons sheet season asked.question _ cases is.0.1;
      },
    )
end_solved asked budget league results (Spent nodes) is =
    let sheet = asked.league.sheet in
    let season = asked.league.season in
    let cases = is.0.0 in (
      cases,
      is.0.2,
      record {
        tree_spent = record {
          tests = wide_tests sheet season asked.question cases league results is.0.1;
          spent = wide_spent cases budget (subst (IsSpentAfter budget) (sym is.0.2) is.1);
          reasons = wide_reasons sheet season asked.question _ cases is.0.1;
        };
        units = wide_units sheet season asked.question _ cases is.0.1;
      },
    )
