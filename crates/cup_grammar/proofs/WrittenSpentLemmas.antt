-- A tree on which the budget was spent, as it is written under its head, is read as whole: its
-- splits are proper, its reasons hold, and its tally is that of the budget.
use Rattle.std.proofs.Common.{◌≡◌, ◌<◌, ℕ, ◌+◌, ℤ, Bool, true, false, ◌||◌, ◌==◌, List, []}
use Rattle.std.proofs.Common.{◌∷◌, length, Option, refl, sym, ap, ◌∙◌, subst, arith, inl}
use Rattle.std.proofs.Common.{inr}
use Rattle.std.specs.Prelude.{IsTrue, if◌then◌else◌, option_map}
use Rattle.std.proofs.lemmas.Bool.{and_from, eq-eqb}
use Rattle.league_core.specs.declared.question.Claim.{Claim}
use Rattle.league_core.specs.declared.sheet.Sheet.{Sheet}
use Rattle.league_core.specs.declared.zone.Literal.{Literal}
use Rattle.league_core.specs.game.Results.{Results}
use Rattle.league_core.specs.search.Zones.{with_test}
use Rattle.line_tokens.specs.declared.tree_line.TreeKind.TheVariants.{Spent}
use Rattle.cert_check.specs.declared.expected.Tally.{Tally}
use Rattle.cert_check.specs.ExpectedItems.{is_tally_whole, with_fresh}
use Rattle.cert_check.specs.LineGrammars.{go}
use Rattle.cup_sheet.specs.declared.question.GroupKind.{GroupKind}
use Rattle.cup_sheet.specs.declared.question.GroupKind.TheVariants.{Top, Below, SecondLess}
use Rattle.cup_sheet.specs.declared.question.GroupKind.TheVariants.{SecondAtLeast, SecondMore}
use Rattle.cup_sheet.specs.declared.question.GroupKind.TheVariants.{SecondAtMost}
use Rattle.cup_sheet.specs.declared.question.GroupReason.{GroupReason}
use Rattle.cup_sheet.specs.declared.question.GroupReason.TheVariants as reason
use Rattle.cup_sheet.specs.CupAnswers.{IsCupSpent}
use Rattle.cup_sheet.specs.CupLimits.{direct_places}
use Rattle.cup_sheet.specs.Cups.{AreSeasonsOf, IsCup}
use Rattle.cup_sheet.specs.GroupQuestions.{GroupQuestion, has_group_reason}
use Rattle.cup_sheet.specs.GroupTrees.{GroupTree, ZonesMeet}
use Rattle.cup_sheet.specs.GroupTrees.{has_open_zone, new_nodes, open_zone, refuted_zone}
use Rattle.cup_sheet.specs.GroupTrees.{split_zone}
use Rattle.cup_sheet.specs.JointFinishes.{GroupState}
use Rattle.cup_sheet.specs.KeyBounds.{IsAskedOfClub}
use Rattle.cup_groups.specs.GroupStarts.{start_of_group}
use Rattle.cup_laws.specs.inside.CupTruths.{AreCupResults}
use Rattle.cup_text.proofs.ProperSplitLemmas.{proper_with}
use Rattle.cup_text.specs.CupItems.{IsSpentText, key_of_question}
use Rattle.cup_text.specs.GroupNodeLines.{lines_of_group_tree}
use Rattle.cup_text.specs.declared.cup_line.CupKey.{CupKey}
use Rattle.cup_text.specs.declared.cup_line.CupLine.{CupLine}
use Rattle.cup_text.specs.declared.cup_line.CupLine.TheVariants as line
use Rattle.cup_grammar.specs.PlacedGroups.{CupBasis, own_club}
use Rattle.cup_grammar.specs.CupDues.{CupDue, after_spent_in, after_spent_line, key_of_head}
use Rattle.cup_grammar.specs.CupDues.{whole_group_tree}
use Rattle.cup_grammar.proofs.OwnNumberLemmas.{club_back}
use Rattle.cup_grammar.proofs.ReadsOnLemmas.{ReadsOn}
use Rattle.cup_grammar.proofs.WrittenGroupLemmas.{found_with_club, placed_by}
use Rattle.cup_grammar.proofs.WrittenSideLemmas.{known_at}
use Rattle.cup_grammar.proofs.WrittenTreeLemmas.{reads_tree, tally_through}

-- ---- tallies

or_false : (a : Bool) → a ≡ (a || false)
or_false true = refl
or_false false = refl

or_true : (a : Bool) → true ≡ (a || true)
or_true true = refl
or_true false = refl

or_three : (a b c : Bool) → ((a || b) || c) ≡ (a || (b || c))
or_three true b c = refl
or_three false b c = refl

fresh_news : (fresh : Bool) (tally : Tally)
    → (with_fresh fresh tally).news ≡ tally.news + (if fresh then 1 else 0)
fresh_news true tally = refl
fresh_news false tally = omega arith

fresh_open : (fresh : Bool) (tally : Tally)
    → (with_fresh fresh tally).some_open ≡ tally.some_open
fresh_open true tally = refl
fresh_open false tally = refl

-- the new nodes of a tree are added
news_through : (tree : GroupTree) (tally : Tally)
    → (tally_through Spent tree tally).news ≡ tally.news + new_nodes tree
news_through open_zone tally = omega arith
news_through (refuted_zone said fresh) tally = fresh_news fresh tally
news_through (split_zone test fresh yes_half no_half) tally =
    let next = with_fresh fresh tally in
    let one = fresh_news fresh tally in
    let first = news_through yes_half next in
    let second = news_through no_half (tally_through Spent yes_half next) in
    omega (arith, one, first, second)

-- an open leaf is remembered
open_through : (tree : GroupTree) (tally : Tally)
    → (tally_through Spent tree tally).some_open ≡ (tally.some_open || has_open_zone tree)
open_through open_zone tally = or_true tally.some_open
open_through (refuted_zone said fresh) tally =
    fresh_open fresh tally ∙ or_false tally.some_open
open_through (split_zone test fresh yes_half no_half) tally =
    let next = with_fresh fresh tally in
    open_through no_half (tally_through Spent yes_half next)
    ∙ ap (λ it. it || has_open_zone no_half)
    (open_through yes_half next
    ∙ ap (λ it. it || has_open_zone yes_half) (fresh_open fresh tally))
    ∙ or_three tally.some_open (has_open_zone yes_half) (has_open_zone no_half)

-- a tree with as many new nodes as the budget and an open leaf is whole
spent_is_whole : (budget : ℕ) (tree : GroupTree) → new_nodes tree ≡ budget
    → has_open_zone tree ≡ true
    → is_tally_whole budget Spent
    (tally_through Spent tree (record { news = 0; some_open = false })) ≡ true
spent_is_whole budget tree news some =
    let none : Tally = record { news = 0; some_open = false } in
    let tally = tally_through Spent tree none in
    let counted = news_through tree none in
    and_from (tally.news == budget) tally.some_open
    (eq-eqb tally.news budget (omega (arith, counted, news))) (open_through tree none ∙ some)

-- ---- the question with the key that is written

-- the key of a head that is written for the question
abbrev pub head_key : GroupKind → List ℤ → List ℤ
head_key kind key =
    key_of_head (option_map (λ (it : CupKey). it.parts) (key_of_question kind key))

-- a kind about the place alone does not look at the key
same_reason : (sheet : Sheet) (season : Results) (kind : GroupKind) (club : ℕ) (key : List ℤ)
    (zone : List Literal) (said : GroupReason)
    → has_group_reason direct_places sheet season
    (record { kind = kind; club = club; key = head_key kind key }) zone said
    ≡ has_group_reason direct_places sheet season
    (record { kind = kind; club = club; key = key }) zone said
unfolding has_group_reason
same_reason sheet season Top club key zone (reason.Plain said) = refl
same_reason sheet season Top club key zone (reason.In said) = refl
same_reason sheet season Top club key zone (reason.Out said) = refl
same_reason sheet season Top club key zone reason.ByKey = refl
same_reason sheet season Below club key zone (reason.Plain said) = refl
same_reason sheet season Below club key zone (reason.In said) = refl
same_reason sheet season Below club key zone (reason.Out said) = refl
same_reason sheet season Below club key zone reason.ByKey = refl
same_reason sheet season SecondLess club key zone said = refl
same_reason sheet season SecondAtLeast club key zone said = refl
same_reason sheet season SecondMore club key zone said = refl
same_reason sheet season SecondAtMost club key zone said = refl

-- so its reasons are the same
reasons_with : (sheet : Sheet) (season : Results) (question : GroupQuestion) (zone : List Literal)
    (tree : GroupTree)
    → ZonesMeet
    (λ it said fresh. IsTrue (has_group_reason direct_places sheet season question it said))
    (λ it test fresh. Unit {0}) zone tree
    → ZonesMeet
    (λ it said fresh. has_group_reason direct_places sheet season
    (record question { key = head_key question.kind question.key }) it said ≡ true)
    (λ it test fresh. Unit {0}) zone tree
reasons_with sheet season question zone open_zone reasons = tt
reasons_with sheet season question zone (refuted_zone said fresh) reasons =
    same_reason sheet season question.kind question.club question.key zone said ∙ reasons
reasons_with sheet season question zone (split_zone test fresh yes_half no_half) reasons = (
  tt,
  reasons_with sheet season question (with_test zone test true) yes_half reasons.1,
  reasons_with sheet season question (with_test zone test false) no_half reasons.2,
)

-- a question about the club is about this number
asked_club : (sheet : Sheet) (season : Results) (claim : Claim) (own : ℕ) (turning : List ℤ)
    (question : GroupQuestion) → IsAskedOfClub sheet season claim own turning question
    → question.club ≡ own
asked_club sheet season claim own turning question (inl is) = ap (λ it. it.club) is
asked_club sheet season claim own turning question (inr (inl is)) = ap (λ it. it.club) is
asked_club sheet season claim own turning question (inr (inr (inl is))) = ap (λ it. it.club) is.2
asked_club sheet season claim own turning question (inr (inr (inr is))) = ap (λ it. it.club) is

-- the question of a spent tree is about a club of its group
asked_within : (basis : CupBasis) (claim : Claim) (club : ℕ) (group : GroupState)
    (question : GroupQuestion) (tree : GroupTree)
    → IsCupSpent basis.cup basis.seasons claim club group question tree
    → question.club < length group.sheet.clubs
asked_within basis claim club group question tree spent =
    let mine = spent.mine in
    let within = spent.of_club.own_club in
    elim spent.on_the_way.2 [
      | inl own ↦
          let same = asked_club mine.sheet mine.results claim spent.own spent.on_the_way.0 question
          own.1 in
          let long : length group.sheet.clubs ≡ length mine.sheet.clubs =
          ap (λ (it : GroupState). length it.sheet.clubs) own.0 in
          omega (arith, same, within, long)
      | inr other ↦ other.1.0
    ]

-- ---- the tree under its head

-- lines that are read as the head of a spent tree and its nodes
pub record IsSpentRead (basis : CupBasis) (lines : List CupLine) : Type 0 where
  pub kind : GroupKind
  pub number : ℕ
  pub key : Option CupKey
  pub tail : List CupLine
  pub due : CupDue
  pub text : lines ≡ line.Spent kind number key ∷ tail
  pub head : (more : List CupDue)
      → after_spent_line basis more (line.Spent kind number key) ≡ go true (due ∷ more)
  pub tree : (more : List CupDue) → ReadsOn basis tail (due ∷ more) more

pub spent_read : (basis : CupBasis) (claim : Claim) (club : ℕ) (lines : List CupLine)
    → IsCup basis.cup → AreSeasonsOf basis.cup.groups basis.seasons → AreCupResults basis.seasons
    → IsSpentText basis.cup basis.seasons claim club lines → IsSpentRead basis lines
spent_read basis claim club lines is_cup each results text =
    let number = text.0 in
    let group = text.1 in
    let question = text.3 in
    let tree = text.4 in
    let spent = text.5 in
    let start = start_of_group basis.cup.groups number in
    let placed = placed_by start group in
    let key = head_key question.kind question.key in
    let known = known_at basis is_cup each results number group text.2 in
    let within = asked_within basis claim club group question tree spent in
    let asked : ℕ → GroupQuestion =
    λ it. record { kind = question.kind; club = it; key = key } in
    let due : ℕ → CupDue = λ it. whole_group_tree Spent placed (asked it) in
    let told : ℕ = start.club + question.club in
    let shown = spent.tree_spent.tree_spent in
    record {
      kind = question.kind;
      number = told;
      key = key_of_question question.kind question.key;
      tail = lines_of_group_tree true start tree;
      due = due (own_club placed told);
      text = text.6;
      head =
          λ more.
          ap (λ found. after_spent_in basis question.kind told key found more)
          (found_with_club basis number question.club group text.2 within);
      tree =
          λ more.
          subst (λ it. ReadsOn basis (lines_of_group_tree true start tree) (due it ∷ more) more)
          (sym (club_back placed question.club))
          (reads_tree basis placed (asked question.club) known.0 known.1 Spent tree [] []
          (record { news = 0; some_open = false }) more refl tt
          (reasons_with group.sheet group.results question [] tree shown.reasons)
          (proper_with group.sheet group.results question [] tree spent.all_new
          spent.tree_spent.units)
          (spent_is_whole group.sheet.budget tree shown.spent shown.left));
    }
