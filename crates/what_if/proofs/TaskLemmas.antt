-- A look at the end of a way below a base, and what the end of a search there says.
use Rattle.std.proofs.Common.{◌≡◌, ℕ, ◌<◌, Bool, true, false, ◌==◌, List, [], ◌++◌, length, refl}
use Rattle.std.proofs.Common.{sym, ap, ◌∙◌, subst, append-nil}
use Rattle.std.specs.List.{list_all}
use Rattle.std.proofs.lemmas.Bool.{and_from, eq-eqb}
use Rattle.league_core.specs.declared.zone.Test.{Test}
use Rattle.league_core.specs.declared.zone.Literal.{Literal}
use Rattle.league_core.specs.declared.zone.Reason.{Reason}
use Rattle.league_core.specs.game.Results.{are_results}
use Rattle.league_core.specs.game.Seasons.{IsLeague}
use Rattle.league_core.specs.game.Questions.{IsQuestionOf}
use Rattle.league_core.specs.search.Zones.{IsZoneFor, with_test}
use Rattle.league_core.specs.search.Options.{has_finish}
use Rattle.league_core.specs.search.Trees.{NodesMeet, new_count, has_open}
use Rattle.league_core.specs.search.Splits.{IsProperNode, IsReasonTrue, IsUnitIfNew}
use Rattle.league_core.proofs.HalfLemmas.{half_has_finish}
use Rattle.league_core.proofs.TreeLemmas.{NodesMeet-weaker}
use Rattle.reason_laws.proofs.HalfMarkLemmas.{proper_names, zone_for_half}
use Rattle.reason_laws.proofs.RefutationLemmas.{refutation_below, refuted_from}
use Rattle.reason_core.specs.declared.finding.Finding.{Finding}
use Rattle.reason_core.specs.declared.finding.Finding.TheVariants as finding
use Rattle.tree_arena.specs.declared.example.Example.{Example}
use Rattle.tree_arena.specs.inside.GoodNodes.{IsGoodNode}
use Rattle.tree_arena.proofs.GoodNodeLemmas.{open_is_good}
use Rattle.depth_search.specs.declared.kind.SearchEnd.{SearchEnd}
use Rattle.depth_search.specs.declared.kind.SearchEnd.TheVariants.{Won, Refuted, Spent}
use Rattle.depth_search.specs.inside.Cases.{Cases, case_nodes, is_made, HoldsBelow}
use Rattle.depth_search.specs.inside.Cases.{left_open, refuted, split}
use Rattle.depth_search.specs.inside.Searches.{FitHalves, IsEndOf, IsFoundBy, IsSpentAfter}
use Rattle.depth_search.specs.inside.ZoneTrees.{new_tree}
use Rattle.depth_search.proofs.ZoneTreeLemmas.{NodesMeet-cases, cases_spent, is_refuted-cases}
use Rattle.depth_search.proofs.ZoneTreeLemmas.{with_test-below}
use Rattle.cert_text.proofs.ProperLemmas.{proper_tests}
use Rattle.answer_rows.specs.NewTrees.{is_all_new}
use Rattle.branch_rules.specs.inside.Found.{IsFoundIn}
use Rattle.what_if.specs.Bases.{is_base_of}
use Rattle.what_if.specs.Given.{IsFairlySpentBelow}
use Rattle.what_if.specs.inside.Tasks.{Asked, MayLook, ShowsBelow, RefutesBelow, SplitsBelow}
use Rattle.what_if.specs.inside.Tasks.{IsSolvedGiven, look_of}
use Rattle.what_if.proofs.BaseLemmas.{base_for, proposed_member}

-- ---- where can be looked

-- at the root
pub look_at_root : (asked : Asked) → IsLeague asked.league.sheet asked.league.season
    → asked.league.sheet ≡ asked.tables.sheet → asked.league.season ≡ asked.tables.season
    → IsQuestionOf asked.league.sheet asked.question
    → is_base_of asked.league.sheet asked.base ≡ true
    → has_finish asked.league.sheet asked.league.season asked.base ≡ true → MayLook asked []
look_at_root asked league sheet season of_sheet of_base some = record {
  league = league;
  sheet = sheet;
  season = season;
  of_sheet = of_sheet;
  of_base = of_base;
  for_question = subst (IsZoneFor asked.league.sheet asked.question)
      (sym (append-nil asked.base)) (base_for asked.league.sheet asked.question asked.base of_base);
  has_finish = ap (has_finish asked.league.sheet asked.league.season) (append-nil asked.base)
      ∙ some;
}

-- in a half of a split
half_fits : (asked : Asked) (way : List Literal) (test : Test) (holds : Bool) → MayLook asked way
    → SplitsBelow asked way test → MayLook asked (with_test way test holds)
half_fits asked way test holds may fair =
    let league = asked.league in
    let zone = asked.base ++ way in
    let names = proper_names league.sheet league.season asked.question zone test fair.proper in
    record {
      league = may.league;
      sheet = may.sheet;
      season = may.season;
      of_sheet = may.of_sheet;
      of_base = may.of_base;
      for_question = subst (IsZoneFor league.sheet asked.question)
          (with_test-below asked.base way test holds)
          (zone_for_half league.sheet asked.question zone test holds may.for_question names.0
          names.1);
      has_finish = ap (has_finish league.sheet league.season)
          (sym (with_test-below asked.base way test holds))
          ∙ half_has_finish league.sheet league.season asked.question zone test holds
          may.has_finish fair.proper;
    }

-- ---- what is found there

-- what the worker finds is what the search may take, and both halves of a split can be looked at
pub look_found : (asked : Asked) (way : List Literal) (found : Finding) → MayLook asked way
    → IsFoundIn asked.league.sheet asked.league.season asked.question (asked.base ++ way) found
    → IsFoundBy (ShowsBelow asked) (RefutesBelow asked way) (SplitsBelow asked way) (look_of found)
look_found asked way (finding.Won finish lots) may is = record {
  example = is.example;
  member = record {
    is_finish = is.example.is_finish;
    is_drawn = is.example.is_drawn;
    literals = rw is.proposed
        (proposed_member asked.league.sheet asked.league.season asked.question asked.base way lots
        may.league.of_sheet may.of_base may.has_finish);
  };
}
look_found asked way (finding.Refuted reason) may is = is.first.holds
look_found asked way (finding.Split literal) may is = is

pub look_halves : (asked : Asked) (way : List Literal) (found : Finding) → MayLook asked way
    → IsFoundIn asked.league.sheet asked.league.season asked.question (asked.base ++ way) found
    → FitHalves (MayLook asked) way (look_of found)
look_halves asked way (finding.Won finish lots) may is = tt
look_halves asked way (finding.Refuted reason) may is = tt
look_halves asked way (finding.Split literal) may is =
    (half_fits asked way literal.test true may is, half_fits asked way literal.test false may is)

-- ---- the end

-- the nodes of the tree of cases, below the base
whole_good : (asked : Asked) (cases : Cases Reason)
    → HoldsBelow (RefutesBelow asked) (SplitsBelow asked) [] cases
    → NodesMeet (IsGoodNode asked.league.sheet asked.league.season asked.question) asked.base
    (new_tree cases)
whole_good asked cases below =
    let league = asked.league in
    let Good = IsGoodNode league.sheet league.season asked.question in
    subst (λ zone. NodesMeet Good zone (new_tree cases)) (append-nil asked.base)
    (NodesMeet-cases (RefutesBelow asked) (SplitsBelow asked) Good asked.base
    (λ way. open_is_good league.sheet league.season asked.question (asked.base ++ way))
    (λ way reason holds. record { proper = tt; refuted = holds; unit = λ new. (new, holds) })
    (λ way test fair. record { proper = fair.proper; refuted = tt; unit = λ new. (new, fair) })
    [] cases below)

-- all of it is new
cases_new : (cases : Cases Reason) → is_all_new (new_tree cases) ≡ true
cases_new left_open = refl
cases_new (refuted reason) = refl
cases_new (split test yes_half no_half) =
    and_from (is_all_new (new_tree yes_half)) (is_all_new (new_tree no_half)) (cases_new yes_half)
    (cases_new no_half)

-- a tree on which the units were spent
end_spent : (asked : Asked) (budget : ℕ) (cases : Cases Reason)
    → IsLeague asked.league.sheet asked.league.season → are_results asked.league.season ≡ true
    → HoldsBelow (RefutesBelow asked) (SplitsBelow asked) [] cases
    → IsSpentAfter budget (case_nodes cases)
    → IsFairlySpentBelow asked.league.sheet asked.league.season asked.question asked.base budget
    (new_tree cases)
end_spent asked budget cases league results below spent =
    let sheet = asked.league.sheet in
    let season = asked.league.season in
    let question = asked.question in
    let tree = new_tree cases in
    let good = whole_good asked cases below in
    let counts = cases_spent cases budget spent in
    record {
      tests = proper_tests sheet season question tree asked.base league results
          (NodesMeet-weaker (IsGoodNode sheet season question) (IsProperNode sheet season question)
          (λ zone node fact. fact.proper) tree asked.base good);
      spent = and_from (new_count tree == budget) (has_open tree)
          (eq-eqb (new_count tree) budget counts.0) counts.1;
      reasons = NodesMeet-weaker (IsGoodNode sheet season question)
          (IsReasonTrue sheet season question) (λ zone node fact. fact.refuted) tree asked.base
          good;
      units = NodesMeet-weaker (IsGoodNode sheet season question)
          (IsUnitIfNew sheet season question) (λ zone node fact. fact.unit) tree asked.base good;
      all_new = cases_new cases;
    }

-- what a search came to
pub end_solved : (asked : Asked) (budget : ℕ) → IsLeague asked.league.sheet asked.league.season
    → are_results asked.league.season ≡ true → asked.question.club < length asked.league.sheet.clubs
    → (end : SearchEnd Example Reason)
    → IsEndOf (ShowsBelow asked) (RefutesBelow asked) (SplitsBelow asked) budget end
    → IsSolvedGiven asked.league.sheet asked.league.season asked.question asked.base budget end
end_solved asked budget league results club_in (Won example) is = is
end_solved asked budget league results club_in (Refuted nodes) is =
    let sheet = asked.league.sheet in
    let season = asked.league.season in
    let tree = new_tree is.0.0 in
    refutation_below sheet season asked.question asked.base tree club_in
    (refuted_from sheet season asked.question tree asked.base
    (is_refuted-cases is.0.0 ∙ ap (list_all is_made) is.0.2 ∙ is.1)
    (NodesMeet-weaker (IsGoodNode sheet season asked.question)
    (IsReasonTrue sheet season asked.question) (λ zone node fact. fact.refuted) tree asked.base
    (whole_good asked is.0.0 is.0.1)))
end_solved asked budget league results club_in (Spent nodes) is =
    let tree = is.0 in (
      tree.0,
      tree.2,
      end_spent asked budget tree.0 league results tree.1
          (subst (IsSpentAfter budget) (sym tree.2) is.1),
    )
