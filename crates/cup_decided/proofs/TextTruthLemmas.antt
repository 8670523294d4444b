-- What refutes a side in an answer refutes it: each refutation that is written is one of its group.
use Rattle.std.proofs.Common.{◌≡◌, ◌<◌, ℕ, ℤ, List, length, Some, sym, subst, ◌∙◌, arith, get_or}
use Rattle.std.specs.Prelude.{slice_get}
use Rattle.std.proofs.lemmas.List.FromFn.{get_or-range_with_len, length-range_with_len}
use Rattle.std.proofs.lemmas.Option.{same_Some, slice_get_within, get_or_from_slice_get}
use Rattle.league_core.specs.declared.question.Claim.{Claim}
use Rattle.league_core.specs.game.Results.{Results}
use Rattle.league_core.specs.game.Sheets.{clubs_of}
use Rattle.cup_sheet.specs.declared.cup.Cup.{Cup}
use Rattle.cup_sheet.specs.CupAnswers.{IsCupRefuted, IsListedGroup, IsRefutedInGroup}
use Rattle.cup_sheet.specs.GroupQuestions.{GroupQuestion}
use Rattle.cup_sheet.specs.JointFinishes.{GroupState, states_of}
use Rattle.cup_sheet.specs.KeyBounds.{others_kind}
use Rattle.cup_text.specs.declared.cup_line.CupLine.{CupLine}
use Rattle.cup_text.specs.CupItems.{IsGroupTreeText, IsListedText, IsRefutedText}
use Rattle.cup_decided.proofs.EitherKindLemmas.{all_have_lines}

module _ (cup : Cup) (seasons : List Results) where
  -- a refutation that is written
  written_tree : (number : ℕ) (group : GroupState) (question : GroupQuestion)
      (lines : List CupLine) → slice_get (states_of cup seasons) number ≡ Some group
      → IsGroupTreeText cup seasons number question lines → IsRefutedInGroup group question
  written_tree number group question lines there text =
      subst (λ it. IsRefutedInGroup it question)
      (same_Some text.0 group (sym text.1 ∙ there)) (text.2, text.3)

  -- those of all clubs of a listed group
  written_group : (claim : Claim) (mine : GroupState) (key : List ℤ) (number : ℕ)
      (lines : List CupLine) → IsListedText cup seasons claim mine key number lines
      → IsListedGroup cup seasons claim mine key number
  written_group claim mine key number lines text =
      let group = text.0 in
      let asked : ℕ → GroupQuestion =
      λ club. record { kind = others_kind claim; club = club; key = key } in
      let parts = all_have_lines (λ club. IsGroupTreeText cup seasons number (asked club))
      (clubs_of group.sheet) lines text.3 in (
        group,
        text.1,
        text.2,
        λ other within.
            let clubs = length group.sheet.clubs in
            let long : other < length (clubs_of group.sheet) =
            omega (arith, within, length-range_with_len 0 clubs) in
            let same : get_or (clubs_of group.sheet) other 0 ≡ other =
            get_or-range_with_len 0 clubs other 0 within ∙ omega arith in
            let part = parts other 0 long in
            subst (λ it. IsRefutedInGroup group (asked it)) same
            (written_tree number group (asked (get_or (clubs_of group.sheet) other 0)) part.0
            text.1 part.1),
      )

  -- the side
  pub text_refutes : (claim : Claim) (club : ℕ) (key : List ℤ) (lines : List CupLine)
      → (text : IsRefutedText cup seasons claim club key lines)
      → IsCupRefuted cup seasons claim club key text.listed
  text_refutes claim club key lines text =
      let states = states_of cup seasons in
      let parts = all_have_lines (IsListedText cup seasons claim text.mine key) text.listed
      text.others text.each in
      record {
        mine = text.mine;
        own = text.own;
        of_club = record {
          group_of = (
            text.number,
            slice_get_within states text.number text.mine text.there,
            get_or_from_slice_get states text.number text.mine text.mine text.there,
          );
          own_club = text.own_club;
          number = text.of_club;
        };
        place = written_tree text.number text.mine _ text.by_place text.there text.place_tree;
        nearer = written_tree text.number text.mine _ text.by_key text.there text.key_tree;
        count = text.count;
        rising = text.rising;
        others = λ i d below.
            let part = parts i d below in
            written_group claim text.mine key _ part.0 part.1;
      }
