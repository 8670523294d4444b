-- The walk over an item by the grammar alone, line by line.
use Rattle.std.proofs.Common.{◌≡◌, ℕ, ◌+◌, Bool, true, false, List, [], ◌∷◌, ◌++◌}
use Rattle.std.proofs.Common.{drop, length, replicate, Option, Some, None, if◌then◌else◌, refl, sym}
use Rattle.std.proofs.Common.{ap, ◌∙◌, arith, length-append}
use Rattle.std.proofs.lemmas.Bool.{false≢true}
use Rattle.std.proofs.lemmas.List.{length-replicate}
use Rattle.league_core.specs.declared.question.Question.{Question}
use Rattle.league_core.specs.declared.season.Score.{Score}
use Rattle.line_tokens.specs.declared.token.Token.{Token}
use Rattle.cert_check.specs.ExpectedItems.{Basis, verdict_row}
use Rattle.cert_check.specs.ExpectedItems.{score, after}
use Rattle.cert_check.specs.LineGrammars.{whole_at}
use Rattle.cert_check.specs.inside.Calls.{ReportView}
use Rattle.cert_check.specs.inside.Calls.{after_score_if}
use Rattle.par_check.specs.declared.item_due.ItemRow.{ItemRow}
use Rattle.par_check.specs.declared.item_due.ItemDue.{ItemDue}
use Rattle.par_check.specs.FirstStops.{grammar_from}
use Rattle.par_check.specs.Shapes.{DueShape, some_score, shapes_in}
use Rattle.par_check.specs.Shapes.{shape_of_scores, shapes_after}
use Rattle.par_check.specs.Shapes.{shapes_ending}
use Rattle.par_check.specs.Outlines.{ending_by_shapes}
use Rattle.par_check.proofs.ShapeLemmas.{same_shapes, scores_shape, shapes_suffice}

-- the branch of a test that is true
pub if_true : (test : Bool) (found behind : Option (List DueShape)) → test ≡ true
    → found ≡ behind → found ≡ (if test then behind else None)
if_true true found behind is same = same
if_true false found behind is same = absurd (false≢true is)

-- ---- one line, by what is due

-- what the score of a fixture leaves due, if it is one
abbrev pub shapes_behind_found : Question → ℕ → List (Option Score) → Option Score
    → Option (List DueShape)
shapes_behind_found question at left None = None
shapes_behind_found question at left (Some ending) =
    Some (shape_of_scores question (at + 1) left ∷ [])

-- scores
found_shape : (basis : Basis) (question : Question) (ended left : List (Option Score)) (at : ℕ)
    (found : Option Score) → length ended ≡ at
    → shapes_in (after_score_if question ended left found)
    ≡ shapes_behind_found question at left found
found_shape basis question ended left at None long = refl
found_shape basis question ended left at (Some ending) long =
    ap (λ shape. Some (shape ∷ [])) (scores_shape question (ended ++ Some ending ∷ []) left (at + 1)
    (omega (arith, long, length-append ended (Some ending ∷ []))))

pub score_counted : (basis : Basis) (question : Question) (at : ℕ) (left : List (Option Score))
    (token : Token) (found : Option Score)
    → ((question : Question) (ended left : List (Option Score)) → at ≡ length ended
    → after basis (score question ended left) token ≡ after_score_if question ended left found)
    → shapes_after basis (some_score question at left) token
    ≡ shapes_behind_found question at left found
score_counted basis question at left token found says =
    let ended : List (Option Score) = replicate at None in
    let long : length ended ≡ at = length-replicate at None in
    ap (λ it. shapes_after basis (some_score question it left) token) (sym long)
    ∙ sym (same_shapes basis (score question ended left) token)
    ∙ ap shapes_in (says question ended left (sym long))
    ∙ found_shape basis question ended left at found long

-- ---- line by line

-- a list that is its own rest is empty
pub none_left : {A : Type 0} (list : List A) → list ≡ drop 1 list → list ≡ []
none_left [] same = refl
none_left (it ∷ list) same = absurd (omega (arith, ap length same))

-- before the first line
pub outline_begins : (judged : ReportView) (row : ItemRow) (from : ℕ) (left : List ItemDue)
    → left ≡ ItemDue.Row ∷ [] → (before : ℕ)
    → grammar_from judged from (verdict_row row.line row.club ∷ []) before
    ≡ ending_by_shapes judged row from left (before + 0)
outline_begins judged row from left first before =
    shapes_suffice judged.basis (drop from judged.tokens) (verdict_row row.line row.club ∷ []) from
    before
    ∙ ap (λ it. ending_by_shapes judged row from it before) (sym first)
    ∙ ap (ending_by_shapes judged row from left) (omega arith)

-- nothing is due
pub outline_whole : (judged : ReportView) (row : ItemRow) (at : ℕ) (left : List ItemDue) (here : ℕ)
    → left ≡ [] → ending_by_shapes judged row at left here ≡ whole_at at here
outline_whole judged row at left here none =
    ap (λ it. ending_by_shapes judged row at it here) none
    ∙ of_lines (drop at judged.tokens)
  where
    of_lines : (tokens : List Token) → shapes_ending judged.basis tokens [] at here
        ≡ whole_at at here
    of_lines [] = refl
    of_lines (token ∷ tokens) = refl
