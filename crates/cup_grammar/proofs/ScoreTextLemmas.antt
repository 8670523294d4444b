-- A text that is the score of a fixture in a report on a league is the same in one on a cup, which
-- may have more fixtures.
use Rattle.std.proofs.Common.{◌≡◌, ℕ, Bool, true, false, ◌&&◌, nat_le, List, codes, Option, Some}
use Rattle.std.proofs.Common.{None, ℤ, arith, refl}
use Rattle.std.specs.Prelude.{bytes_eq, option_and_then, option_map, if◌then◌else◌}
use Rattle.std.proofs.lemmas.Bool.{and_from, and_parts, leb-true, le-leb}
use Rattle.serde_json.specs.Data.{Data}
use Rattle.serde_json.specs.Find.{as_number, as_u64, at}
use Rattle.league_core.specs.declared.season.Score.{Score}
use Rattle.league_core.specs.declared.question.Claim.{Claim}
use Rattle.league_core.specs.declared.zone.Test.{Test}
use Rattle.league_core.specs.declared.zone.Reason.{Reason}
use Rattle.league_core.specs.game.Limits.{most_clubs, most_fixtures, most_goals}
use Rattle.cert_text.specs.declared.proof_line.ProofLine.{ProofLine}
use Rattle.cert_text.specs.declared.proof_line.ProofLine.TheVariants as plain
use Rattle.cert_text.specs.Forms.{finish_head_in, if_ends_at, json_of, line_in, line_named}
use Rattle.cert_text.specs.Forms.{line_of_value, lots_line_in, node_line_named, reason_in}
use Rattle.cert_text.specs.Forms.{score_line_in, spent_head_in, test_in, tree_head_in}
use Rattle.cert_text.specs.Forms.{window_head_in}
use Rattle.cert_text.specs.Places.{claim_at, clubs_at, if_between, integer_at, is_end_at}
use Rattle.cert_text.specs.Places.{number_here, numbered_at, points_at, word_at}
use Rattle.cup_sheet.specs.CupLimits.{most_cup_fixtures}
use Rattle.cup_text.specs.CupForms.{cup_finish_in, cup_line_in, cup_line_named, cup_line_of_value}
use Rattle.cup_text.specs.CupForms.{cup_score_in}
use Rattle.cup_text.specs.declared.cup_line.CupLine.{CupLine}
use Rattle.cup_text.specs.declared.cup_line.CupLine.TheVariants as line

-- a line made of something is no score
made_no_score : {A : Type 0} (make : A → ProofLine) (fixture : ℕ) (ending : Score)
    → ((x : A) → make x ≡ plain.Score fixture ending → ⊥)
    → (ends : Bool) (found : Option A)
    → (if ends then option_map make found else None) ≡ Some (plain.Score fixture ending) → ⊥
made_no_score make fixture ending other true None is = cc
made_no_score make fixture ending other true (Some x) is = other x cc
made_no_score make fixture ending other false found is = cc

-- nor is what is found without an end
found_no_score : {A : Type 0} (make : A → ProofLine) (fixture : ℕ) (ending : Score)
    → ((x : A) → make x ≡ plain.Score fixture ending → ⊥)
    → (found : Option A)
    → option_map make found ≡ Some (plain.Score fixture ending) → ⊥
found_no_score make fixture ending other None is = cc
found_no_score make fixture ending other (Some x) is = other x cc

-- the head of a window
window_no_score : (fixture : ℕ) (ending : Score) (shown : Data)
    → window_head_in shown ≡ Some (plain.Score fixture ending) → ⊥
window_no_score fixture ending shown =
    by_parts (is_end_at 4 shown) (claim_at 1 shown) (points_at 2 shown) (points_at 3 shown)
  where
    by_parts : (ends : Bool) (claim : Option Claim) (low high : Option ℤ)
        → (if ends then option_and_then (λ claim. option_and_then
        (λ low. option_map (λ high. plain.SpentWindow claim low high) high) low) claim else None)
        ≡ Some (plain.Score fixture ending) → ⊥
    by_parts true None low high is = cc
    by_parts true (Some claim) None high is = cc
    by_parts true (Some claim) (Some low) None is = cc
    by_parts true (Some claim) (Some low) (Some high) is = cc
    by_parts false claim low high is = cc

-- a head of a spent tree
spent_no_score : (fixture : ℕ) (ending : Score) (shown : Data)
    → spent_head_in shown ≡ Some (plain.Score fixture ending) → ⊥
spent_no_score fixture ending shown = by_end (is_end_at 2 shown)
  where
    by_end : (ends : Bool)
        → (if ends then option_map (λ claim. plain.Spent claim) (claim_at 1 shown)
        else window_head_in shown) ≡ Some (plain.Score fixture ending) → ⊥
    by_end true is =
        found_no_score (λ claim. plain.Spent claim) fixture ending (λ claim same. cc)
        (claim_at 1 shown) is
    by_end false is = window_no_score fixture ending shown is

-- a node of a tree
node_no_score : (fixture : ℕ) (ending : Score) (name : List ℕ) (shown : Data)
    → node_line_named name shown ≡ Some (plain.Score fixture ending) → ⊥
node_no_score fixture ending name shown =
    by_tests (bytes_eq name (codes "split")) (bytes_eq name (codes "new_split"))
    (bytes_eq name (codes "leaf")) (bytes_eq name (codes "new_leaf"))
    (bytes_eq name (codes "open"))
  where
    by_tests : (split new_split leaf new_leaf unworked : Bool)
        → (if split then option_map (λ test. plain.Split test) (test_in shown)
        else if new_split then option_map (λ test. plain.NewSplit test) (test_in shown)
        else if leaf then option_map (λ reason. plain.Leaf reason) (reason_in shown)
        else if new_leaf then option_map (λ reason. plain.NewLeaf reason) (reason_in shown)
        else if unworked then if_ends_at 1 shown (Some plain.OpenLeaf)
        else None) ≡ Some (plain.Score fixture ending) → ⊥
    by_tests true new_split leaf new_leaf unworked is =
        found_no_score (λ test. plain.Split test) fixture ending (λ test same. cc) (test_in shown)
        is
    by_tests false true leaf new_leaf unworked is =
        found_no_score (λ test. plain.NewSplit test) fixture ending (λ test same. cc)
        (test_in shown) is
    by_tests false false true new_leaf unworked is =
        found_no_score (λ reason. plain.Leaf reason) fixture ending (λ reason same. cc)
        (reason_in shown) is
    by_tests false false false true unworked is =
        found_no_score (λ reason. plain.NewLeaf reason) fixture ending (λ reason same. cc)
        (reason_in shown) is
    by_tests false false false false true is = by_end (is_end_at 1 shown) is
      where
        by_end : (ends : Bool) → (if ends then Some plain.OpenLeaf else None)
            ≡ Some (plain.Score fixture ending) → ⊥
        by_end true is = cc
        by_end false is = cc
    by_tests false false false false false is = cc

-- a score of a league is the same of a cup
score_same : (fixture : ℕ) (ending : Score) (shown : Data)
    → score_line_in shown ≡ Some (plain.Score fixture ending)
    → cup_score_in shown ≡ Some (line.Score fixture ending)
score_same fixture ending shown =
    by_parts (is_end_at 4 shown) (option_and_then as_u64 (option_and_then as_number (at 1 shown)))
    (integer_at 2 0 most_goals shown) (integer_at 3 0 most_goals shown)
  where
    by_parts : (ends : Bool) (number home away : Option ℕ)
        → (if ends then option_and_then (λ fixture. option_and_then
        (λ home. option_map
        (λ away. plain.Score fixture (record { home = home; away = away })) away) home)
        (option_map number_here (option_and_then (if_between 1 most_fixtures) number)) else None)
        ≡ Some (plain.Score fixture ending)
        → (if ends then option_and_then (λ fixture. option_and_then
        (λ home. option_map
        (λ away. line.Score fixture (record { home = home; away = away })) away) home)
        (option_map number_here (option_and_then (if_between 1 most_cup_fixtures) number))
        else None) ≡ Some (line.Score fixture ending)
    by_parts false number home away is = absurd cc
    by_parts true None home away is = absurd cc
    by_parts true (Some number) home away is =
        by_bound (nat_le 1 number && nat_le number most_fixtures) refl home away is
      where
        by_bound : (within : Bool) → (nat_le 1 number && nat_le number most_fixtures) ≡ within
            → (home away : Option ℕ)
            → option_and_then (λ fixture. option_and_then
            (λ home. option_map
            (λ away. plain.Score fixture (record { home = home; away = away })) away) home)
            (option_map number_here (if within then Some number else None))
            ≡ Some (plain.Score fixture ending)
            → option_and_then (λ fixture. option_and_then
            (λ home. option_map
            (λ away. line.Score fixture (record { home = home; away = away })) away) home)
            (option_map number_here (if_between 1 most_cup_fixtures number))
            ≡ Some (line.Score fixture ending)
        by_bound false within home away is = absurd cc
        by_bound true within None away is = absurd cc
        by_bound true within (Some home) None is = absurd cc
        by_bound true within (Some home) (Some away) is =
            let both = and_parts (nat_le 1 number) (nat_le number most_fixtures) within in
            let high = leb-true number most_fixtures both.1 in
            let more : nat_le number most_cup_fixtures ≡ true =
            le-leb number most_cup_fixtures (omega (arith, high)) in
            let all = and_from (nat_le 1 number) (nat_le number most_cup_fixtures) both.0 more in
            let same : plain.Score (number_here number) (record { home = home; away = away })
            ≡ plain.Score fixture ending = cc in
            rw (all) (made same)
          where
            made : plain.Score (number_here number) (record { home = home; away = away })
                ≡ plain.Score fixture ending
                → Some (line.Score (number_here number) (record { home = home; away = away }))
                ≡ Some (line.Score fixture ending)
            made same = cc

-- so it is of a line by its first word
score_named : (fixture : ℕ) (ending : Score) (name : List ℕ) (shown : Data)
    → line_named name shown ≡ Some (plain.Score fixture ending)
    → cup_line_named name shown ≡ Some (line.Score fixture ending)
score_named fixture ending name shown =
    by_tests (bytes_eq name (codes "tree")) (bytes_eq name (codes "spent"))
    (bytes_eq name (codes "finish")) (bytes_eq name (codes "score")) (bytes_eq name (codes "lots"))
    refl refl
  where
    by_tests : (tree spent finish score lots : Bool) → bytes_eq name (codes "finish") ≡ finish
        → bytes_eq name (codes "score") ≡ score
        → (if tree then tree_head_in shown else if spent then spent_head_in shown
        else if finish then finish_head_in shown else if score then score_line_in shown
        else if lots then lots_line_in shown else node_line_named name shown)
        ≡ Some (plain.Score fixture ending)
        → cup_line_named name shown ≡ Some (line.Score fixture ending)
    by_tests true spent finish score lots unlike like is =
        absurd (made_no_score (λ claim. plain.Tree claim) fixture ending (λ claim same. cc)
        (is_end_at 2 shown) (claim_at 1 shown) is)
    by_tests false true finish score lots unlike like is =
        absurd (spent_no_score fixture ending shown is)
    by_tests false false true score lots unlike like is =
        absurd (made_no_score (λ claim. plain.Finish claim) fixture ending (λ claim same. cc)
        (is_end_at 2 shown) (claim_at 1 shown) is)
    by_tests false false false true lots unlike like is =
        rw (unlike, like) (score_same fixture ending shown is)
    by_tests false false false false true unlike like is =
        absurd (made_no_score (λ clubs. plain.Lots (record { list = clubs })) fixture ending
        (λ clubs same. cc) (is_end_at 2 shown) (clubs_at most_clubs 1 shown) is)
    by_tests false false false false false unlike like is =
        absurd (node_no_score fixture ending name shown is)

-- and of a text
pub score_text : (text : List ℕ) (fixture : ℕ) (ending : Score)
    → line_in text ≡ Some (plain.Score fixture ending)
    → cup_line_in text ≡ Some (line.Score fixture ending)
score_text text fixture ending = by_json (json_of text)
  where
    by_word : (shown : Data) (found : Option (List ℕ))
        → option_and_then (λ name. line_named name shown) found
        ≡ Some (plain.Score fixture ending)
        → option_and_then (λ name. cup_line_named name shown) found
        ≡ Some (line.Score fixture ending)
    by_word shown None is = absurd cc
    by_word shown (Some name) is = score_named fixture ending name shown is

    by_json : (shown : Option Data)
        → option_and_then line_of_value shown ≡ Some (plain.Score fixture ending)
        → option_and_then cup_line_of_value shown ≡ Some (line.Score fixture ending)
    by_json None is = absurd cc
    by_json (Some shown) is = by_word shown (word_at 0 shown) is
