-- A match that is not played can end each way.
use Rattle.std.proofs.Common.{◌≡◌, ℕ, suc, ◌+◌, ◌≤◌, Bool, true, false, not, ◌&&◌, ◌==◌, List, []}
use Rattle.std.proofs.Common.{◌∷◌, get_or, nat_le, Option, Some, None, refl, sym, ap, ◌∙◌, inl, inr}
use Rattle.std.proofs.Common.{arith}
use Rattle.std.specs.List.{list_all}
use Rattle.std.proofs.lemmas.Bool.{and_from, or_left, cases_Bool, eqb-true, le-leb}
use Rattle.league_core.specs.declared.sheet.Sheet.{Sheet}
use Rattle.league_core.specs.declared.season.Score.{Score}
use Rattle.league_core.specs.declared.zone.Test.{Test}
use Rattle.league_core.specs.declared.zone.Test.TheVariants.{Home, Draw}
use Rattle.league_core.specs.declared.zone.Literal.{Literal}
use Rattle.league_core.specs.game.Results.{Results}
use Rattle.league_core.specs.game.Finishes.{may_end}
use Rattle.league_core.specs.search.Zones.{passes}
use Rattle.league_core.specs.search.Options.{score_of, meets_literal, meets, options_of}
use Rattle.league_core.specs.search.Options.{options_from, has_option, has_finish}
use Rattle.league_core.proofs.OptionLemmas.{has_score-options_of, same_score-itself}
use Rattle.league_core.proofs.OptionTestLemmas.{has_option-some}
use Rattle.what_if.specs.declared.outcome.Outcome.{Outcome}
use Rattle.what_if.specs.declared.outcome.Outcome.TheVariants as outcome
use Rattle.what_if.specs.Bases.{base_of}
use Rattle.league_core.proofs.plain.TruthValues.{or_second}

-- a test that has to be true, or false
abbrev said : Test → Bool → Literal
said test holds = record { test = test; yes = holds }

-- a score with which a match ends so
abbrev score_so : Outcome → Score
score_so outcome.Home = score_of 1 0
score_so outcome.Draw = score_of 0 0
score_so outcome.Away = score_of 0 1

-- the match itself, with that score
meets_so : (fixture : ℕ) (how : Outcome) → meets (base_of fixture how) fixture (score_so how) ≡ true
meets_so fixture outcome.Home =
    and_from (meets_literal fixture (score_of 1 0) (said (Home fixture) true)) true
    (or_second (fixture == fixture) true refl) refl
meets_so fixture outcome.Draw =
    and_from (meets_literal fixture (score_of 0 0) (said (Draw fixture) true)) true
    (or_second (fixture == fixture) true refl) refl
meets_so fixture outcome.Away =
    and_from (meets_literal fixture (score_of 0 1) (said (Home fixture) false))
    (meets_literal fixture (score_of 0 1) (said (Draw fixture) false) && true)
    (or_second (fixture == fixture) true refl)
    (and_from (meets_literal fixture (score_of 0 1) (said (Draw fixture) false)) true
    (or_second (fixture == fixture) true refl) refl)

-- any other match, with any score
meets_off : (number fixture : ℕ) (how : Outcome) (score : Score) → (number == fixture) ≡ false
    → meets (base_of number how) fixture score ≡ true
meets_off number fixture outcome.Home score off =
    and_from (meets_literal fixture score (said (Home number) true)) true
    (or_left (not (number == fixture)) (passes (Home number) score) (ap not off)) refl
meets_off number fixture outcome.Draw score off =
    and_from (meets_literal fixture score (said (Draw number) true)) true
    (or_left (not (number == fixture)) (passes (Draw number) score) (ap not off)) refl
meets_off number fixture outcome.Away score off =
    and_from (meets_literal fixture score (said (Home number) false))
    (meets_literal fixture score (said (Draw number) false) && true)
    (or_left (not (number == fixture)) (not (passes (Home number) score)) (ap not off))
    (and_from (meets_literal fixture score (said (Draw number) false)) true
    (or_left (not (number == fixture)) (not (passes (Draw number) score)) (ap not off)) refl)

-- with a goal a side allowed, a match that is not played may end so
may_end_so : (limit : ℕ) (how : Outcome) → 1 ≤ limit → may_end limit None (Some (score_so how))
    ≡ true
may_end_so limit outcome.Home some =
    and_from (nat_le 1 limit) (nat_le 0 limit) (le-leb 1 limit some)
    (le-leb 0 limit (omega arith))
may_end_so limit outcome.Draw some =
    and_from (nat_le 0 limit) (nat_le 0 limit) (le-leb 0 limit (omega arith))
    (le-leb 0 limit (omega arith))
may_end_so limit outcome.Away some =
    and_from (nat_le 0 limit) (nat_le 1 limit) (le-leb 0 limit (omega arith))
    (le-leb 1 limit some)

-- an option, by a score that meets the zone and with which the fixture may end
option_by : (limit : ℕ) (zone : List Literal) (fixture : ℕ) (played : Option Score) (score : Score)
    → meets zone fixture score ≡ true → may_end limit played (Some score) ≡ true
    → has_option (options_of limit zone fixture played) ≡ true
option_by limit zone fixture played score met may =
    has_option-some (options_of limit zone fixture played) score
    (has_score-options_of limit zone fixture played score
    ∙ and_from (meets zone fixture score) (may_end limit played (Some score)) met may)

-- the match itself has an option
option_so : (limit number : ℕ) (how : Outcome) (fixture : ℕ) (played : Option Score) → 1 ≤ limit
    → (number == fixture) ≡ true → played ≡ None
    → has_option (options_of limit (base_of number how) fixture played) ≡ true
option_so limit number how fixture played some on none =
    ap (λ f. has_option (options_of limit (base_of number how) f played))
    (sym (eqb-true number fixture on))
    ∙ ap (λ p. has_option (options_of limit (base_of number how) number p)) none
    ∙ option_by limit (base_of number how) number None (score_so how) (meets_so number how)
    (may_end_so limit how some)

-- any other match has its own
option_off : (limit number : ℕ) (how : Outcome) (fixture : ℕ) (played : Option Score)
    → (number == fixture) ≡ false
    → has_option (options_of limit (base_of number how) fixture played) ≡ true
option_off limit number how fixture None off =
    option_by limit (base_of number how) fixture None (score_of 0 0)
    (meets_off number fixture how (score_of 0 0) off)
    (and_from (nat_le 0 limit) (nat_le 0 limit) (le-leb 0 limit (omega arith))
    (le-leb 0 limit (omega arith)))
option_off limit number how fixture (Some score) off =
    option_by limit (base_of number how) fixture (Some score) score
    (meets_off number fixture how score off) (same_score-itself score score refl)

-- each fixture has one
base_options : (limit number : ℕ) (how : Outcome) (season : List (Option Score)) (fixture : ℕ)
    → 1 ≤ limit → ((k : ℕ) → fixture + k ≡ number → get_or season k None ≡ None)
    → list_all has_option (options_from limit (base_of number how) fixture season) ≡ true
base_options limit number how [] fixture some unplayed = refl
base_options limit number how (played ∷ season) fixture some unplayed =
    and_from (has_option (options_of limit (base_of number how) fixture played))
    (list_all has_option (options_from limit (base_of number how) (suc fixture) season))
    (elim (cases_Bool (number == fixture)) as
    (λ _. has_option (options_of limit (base_of number how) fixture played) ≡ true) [
      | inl on ↦ option_so limit number how fixture played some on (unplayed 0 (here on))
      | inr off ↦ option_off limit number how fixture played off
    ])
    (base_options limit number how season (suc fixture) some
    (λ k is. unplayed (suc k) (next k is)))
  where
    here : (number == fixture) ≡ true → fixture + 0 ≡ number
    here on = let same = eqb-true number fixture on in omega (arith, same)

    next : (k : ℕ) → suc fixture + k ≡ number → fixture + suc k ≡ number
    next k is = omega (arith, is)

pub base_has_finish : (sheet : Sheet) (season : Results) (fixture : ℕ) (how : Outcome)
    → 1 ≤ sheet.goal_limit → get_or season.scores fixture None ≡ None
    → has_finish sheet season (base_of fixture how) ≡ true
unfolding has_finish
base_has_finish sheet season fixture how some unplayed =
    base_options sheet.goal_limit fixture how season.scores 0 some
    (λ k is. ap (λ n. get_or season.scores n None) (from k is) ∙ unplayed)
  where
    from : (k : ℕ) → 0 + k ≡ fixture → k ≡ fixture
    from k is = omega (arith, is)
