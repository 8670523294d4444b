-- The first finish of a season: each open fixture ends 0:0, fixture by fixture.
use Rattle.std.proofs.Common.{◌≡◌, ℕ, zero, suc, ◌+◌, ◌*◌, ◌<◌, ◌≤◌, true, cond, ◌&&◌, nat_le, List}
use Rattle.std.proofs.Common.{[], ◌∷◌, length, get_or, set, Option, Some, None, is_some, refl, sym}
use Rattle.std.proofs.Common.{ap, ◌∙◌, subst, arith}
use Rattle.std.proofs.lemmas.Bool.{and_from, le-leb}
use Rattle.std.proofs.lemmas.List.{set-get_or}
use Rattle.league_core.specs.declared.sheet.Sheet.{Sheet}
use Rattle.league_core.specs.declared.season.Score.{Score}
use Rattle.league_core.specs.game.Results.{Results}
use Rattle.league_core.specs.game.Finishes.{may_end, may_all_end}
use Rattle.league_core.specs.inside.FinishList.{ways_to_end, number_of}
use Rattle.league_core.proofs.OptionLemmas.{same_score-itself}
use Rattle.reference_programs.specs.inside.Walks.{IsNumbered, nil_nil, with_start}

-- what is played ends with its score, what is open 0:0
abbrev first_end : Option Score → Option Score
first_end None = Some nil_nil
first_end (Some score) = Some score

-- the scores of a season of which the first fixtures end so
abbrev pub begun : ℕ → List (Option Score) → List (Option Score)
begun zero season = season
begun (suc fixtures) [] = []
begun (suc fixtures) (played ∷ season) = first_end played ∷ begun fixtures season

pub length-begun : (fixtures : ℕ) (season : List (Option Score))
    → length (begun fixtures season) ≡ length season
length-begun zero season = refl
length-begun (suc fixtures) [] = refl
length-begun (suc fixtures) (played ∷ season) = ap suc (length-begun fixtures season)

begun_suc : (season : List (Option Score)) (i : ℕ) → i < length season
    → begun (suc i) season ≡ set (begun i season) i (first_end (get_or season i None))
begun_suc [] i within = absurd (omega arith)
begun_suc (played ∷ season) zero within = refl
begun_suc (played ∷ season) (suc i) within =
    ap (λ later. first_end played ∷ later) (begun_suc season i (omega arith))

begun_at : (season : List (Option Score)) (i : ℕ)
    → get_or (begun i season) i None ≡ get_or season i None
begun_at season zero = refl
begun_at [] (suc i) = refl
begun_at (played ∷ season) (suc i) = begun_at season i

-- a fixture with this score starts so
started : (season : Results) (scores : List (Option Score)) (fixture : ℕ) (played : Option Score)
    → get_or scores fixture None ≡ played
    → cond (is_some played) (record season { scores = scores })
    (record season { scores = set scores fixture (Some nil_nil) })
    ≡ record season { scores = set scores fixture (first_end played) }
started season scores fixture None is = refl
started season scores fixture (Some score) is =
    ap (λ xs. record season { scores = xs })
    (sym (set-get_or scores fixture None) ∙ ap (set scores fixture) is)

-- one fixture more
pub begun_more : (season : Results) (fixture : ℕ) (finish new : Results)
    → fixture < length season.scores
    → finish ≡ record season { scores = begun fixture season.scores }
    → new ≡ with_start season fixture finish
    → new ≡ record season { scores = begun (fixture + 1) season.scores }
begun_more season fixture finish new within finish_is new_is =
    let next : fixture + 1 ≡ suc fixture = omega arith in
    new_is ∙ ap (with_start season fixture) finish_is
    ∙ started season (begun fixture season.scores) fixture (get_or season.scores fixture None)
    (begun_at season.scores fixture)
    ∙ ap (λ scores. record season { scores = scores })
    (sym (begun_suc season.scores fixture within)
    ∙ ap (λ n. begun n season.scores) (sym next))

begun_may : (limit fixtures : ℕ) (season : List (Option Score)) → length season ≤ fixtures
    → may_all_end limit season (begun fixtures season) ≡ true
begun_may limit zero [] past = refl
begun_may limit (suc fixtures) [] past = refl
begun_may limit zero (played ∷ season) past = absurd (omega arith)
begun_may limit (suc fixtures) (None ∷ season) past =
    and_from (nat_le 0 limit && nat_le 0 limit) (may_all_end limit season (begun fixtures season))
    (and_from (nat_le 0 limit) (nat_le 0 limit) (le-leb 0 limit (omega arith))
    (le-leb 0 limit (omega arith)))
    (begun_may limit fixtures season (omega arith))
begun_may limit (suc fixtures) (Some score ∷ season) past =
    and_from (may_end limit (Some score) (Some score))
    (may_all_end limit season (begun fixtures season)) (same_score-itself score score refl)
    (begun_may limit fixtures season (omega arith))

begun_number : (limit fixtures : ℕ) (season : List (Option Score)) → length season ≤ fixtures
    → number_of limit season (begun fixtures season) ≡ 0
begun_number limit zero [] past = refl
begun_number limit (suc fixtures) [] past = refl
begun_number limit zero (played ∷ season) past = absurd (omega arith)
begun_number limit (suc fixtures) (None ∷ season) past =
    let later = ap (λ n. n * ways_to_end limit None)
    (begun_number limit fixtures season (omega arith)) in
    omega arith
begun_number limit (suc fixtures) (Some score ∷ season) past =
    let later = begun_number limit fixtures season (omega arith) in
    omega arith

-- if all fixtures have begun it is the first finish
pub begun_all : (sheet : Sheet) (season finish : Results) (fixtures : ℕ)
    → length season.scores ≤ fixtures
    → finish ≡ record season { scores = begun fixtures season.scores }
    → IsNumbered sheet season 0 finish
begun_all sheet season finish fixtures past is =
    let P : Results → Type 0 = λ r. IsNumbered sheet season 0 r in
    subst P (sym is) (record {
      is_finish = record {
        deductions = refl;
        scores = begun_may sheet.goal_limit fixtures season.scores past;
      };
      stands = begun_number sheet.goal_limit fixtures season.scores past;
    })
