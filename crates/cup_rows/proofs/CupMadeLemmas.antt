-- The items of the clubs go out one after another; what is found of the clubs that are left is an
-- item of each.
use Rattle.std.proofs.Common.{◌≡◌, ℕ, zero, suc, ◌+◌, ◌<◌, ◌≤◌, Bool, true, false, List, [], ◌∷◌}
use Rattle.std.proofs.Common.{◌++◌, length, take, drop, get_or, Option, Result, Ok, Err, refl, sym}
use Rattle.std.proofs.Common.{ap, ◌∙◌, subst, inl, inr, arith}
use Rattle.std.specs.Prelude.{All}
use Rattle.std.specs.Io.KnownBytes.{append_known}
use Rattle.std.proofs.Math.Seq.{drop-cons}
use Rattle.std.proofs.lemmas.List.{append_assoc, append-nil, map-append, take_more, take_all}
use Rattle.port_core.specs.Ports.{AppendsPrefix}
use Rattle.league_core.specs.game.Results.{Results}
use Rattle.league_core.specs.declared.question.Claim.{Claim}
use Rattle.league_core.specs.declared.question.Claim.TheVariants.{Inside, Outside}
use Rattle.league_core.proofs.plain.Streams.{append_known-append_known}
use Rattle.answer_rows.specs.declared.output.OutputStop.{OutputStop}
use Rattle.answer_rows.specs.declared.output.OutputStop.TheVariants.{WriteFault, OutOfMemory}
use Rattle.answer_rows.specs.Parts.{IsMadeOf}
use Rattle.answer_rows.specs.Rows.{ask_row, verdict_row}
use Rattle.answer_rows.specs.inside.Outputs.{PutsSomePrefix, PutsSomeText}
use Rattle.answer_rows.proofs.OutputLemmas.{front-more, puts-behind}
use Rattle.cup_sheet.specs.declared.cup.Cup.{Cup}
use Rattle.cup_sheet.specs.Cups.{IsCup}
use Rattle.cup_text.specs.declared.cup_line.CupLine.{CupLine}
use Rattle.cup_text.specs.CupItems.{joint_lines}
use Rattle.runners_up.specs.declared.finding.ClubFinding.{ClubFinding}
use Rattle.runners_up.specs.declared.finding.ClubFinding.TheVariants.{Clinched, Lost, Possible}
use Rattle.runners_up.specs.declared.finding.ClubFinding.TheVariants.{Unsettled}
use Rattle.runners_up.specs.declared.finding.SideRefutation.{SideRefutation}
use Rattle.runners_up.specs.inside.ClubFindings.{IsClubFinding, IsSideRefutedBy}
use Rattle.runners_up.specs.inside.JointEnds.{group_finishes}
use Rattle.cup_rows.specs.declared.found.FoundClub.{FoundClub}
use Rattle.cup_text.specs.CupItems.{cup_club_name}
use Rattle.cup_answers.specs.CupTexts.{ShowsInCup, RefutesInCup, IsCupItemText, IsGroupsText}
use Rattle.cup_answers.specs.CupTexts.{text_of_cup_lines}
use Rattle.cup_rows.specs.inside.FoundClubs.{IsFoundClub, AreFoundClubs, found_clubs}
use Rattle.cup_rows.specs.inside.VerdictLines.{open_side_lines, refuted_side_lines, word_of_finding}
use Rattle.cup_rows.proofs.OpenTextLemmas.{possible_text, unsettled_text}
use Rattle.cup_rows.proofs.RefutedTextLemmas.{refuted_text}

-- ---- parts

-- some parts and then others
made_joined : {X : Type 0} (IsPart : X → List ℕ → Type 0) (xs ys : List X) (a b : List ℕ)
    → IsMadeOf IsPart xs a → IsMadeOf IsPart ys b → IsMadeOf IsPart (xs ++ ys) (a ++ b)
made_joined IsPart [] ys a b made more =
    subst (λ (t : List ℕ). IsMadeOf IsPart ys t) (sym (ap (λ (t : List ℕ). t ++ b) made)) more
made_joined IsPart (x ∷ xs) ys a b made more = (
  made.0,
  made.1 ++ b,
  ap (λ (t : List ℕ). t ++ b) made.2 ∙ append_assoc made.0 made.1 b,
  made.3,
  made_joined IsPart xs ys made.1 b made.4 more,
)

-- the parts of some things went out whole
pub record ArePartsOut {X : Type 0} (IsPart : X → List ℕ → Type 0) (xs : List X)
    (old now : Option (List ℕ)) : Type 0 where
  pub text : List ℕ
  pub made : IsMadeOf IsPart xs text
  pub known : now ≡ append_known old text

-- a prefix of the part of the next thing, where all that are left have one
stopped_at : {X : Type 0} (IsPart : X → List ℕ → Type 0) (xs ys : List X) (x : X)
    (old mid now : Option (List ℕ)) → ArePartsOut IsPart xs old mid
    → (text : List ℕ) × IsMadeOf IsPart ys text → PutsSomePrefix (IsPart x) mid now
    → PutsSomePrefix (IsMadeOf IsPart (xs ++ x ∷ ys)) old now
stopped_at IsPart xs ys x old mid now out rest front = (
  out.text ++ (front.0 ++ rest.0),
  made_joined IsPart xs (x ∷ ys) out.text (front.0 ++ rest.0) out.made
      (front.0, rest.0, refl, front.1, rest.1),
  puts-behind {A = ℕ} out.text (front.0 ++ rest.0) old mid now (Err WriteFault) out.known
      (front-more front.0 rest.0 mid now front.2),
)

pub parts_stop : {A X : Type 0} (IsPart : X → List ℕ → Type 0) (xs ys : List X) (x : X)
    (old mid now : Option (List ℕ)) (result : Result A OutputStop) (stop : OutputStop)
    → result ≡ Err stop → ArePartsOut IsPart xs old mid
    → (text : List ℕ) × IsMadeOf IsPart (x ∷ ys) text → PutsSomeText (IsPart x) mid now result
    → PutsSomeText {A = A} (IsMadeOf IsPart (xs ++ x ∷ ys)) old now (Err stop)
parts_stop {A} {X} IsPart xs ys x old mid now (Ok done) stop is out rest puts = absurd (cc)
parts_stop {A} {X} IsPart xs ys x old mid now (Err WriteFault) WriteFault is out rest puts =
    stopped_at IsPart xs ys x old mid now out (rest.1.1, rest.1.4) puts
parts_stop {A} {X} IsPart xs ys x old mid now (Err WriteFault) OutOfMemory is out rest puts =
    absurd (cc)
parts_stop {A} {X} IsPart xs ys x old mid now (Err OutOfMemory) WriteFault is out rest puts =
    absurd (cc)
parts_stop {A} {X} IsPart xs ys x old mid now (Err OutOfMemory) OutOfMemory is out rest
    (inl same) = inr (
      out.text ++ rest.0,
      made_joined IsPart xs (x ∷ ys) out.text rest.0 out.made rest.1,
      front-more out.text rest.0 old now
          (out.text, ([], append-nil out.text), same ∙ out.known),
    )
parts_stop {A} {X} IsPart xs ys x old mid now (Err OutOfMemory) OutOfMemory is out rest
    (inr puts) =
    inr (stopped_at IsPart xs ys x old mid now out (rest.1.1, rest.1.4) puts)

-- one part more went out
pub parts_more : {X : Type 0} (IsPart : X → List ℕ → Type 0) (xs : List X) (x : X)
    (old mid now : Option (List ℕ)) → ArePartsOut IsPart xs old mid
    → (text : List ℕ) × IsPart x text × (now ≡ append_known mid text)
    → ArePartsOut IsPart (xs ++ x ∷ []) old now
parts_more IsPart xs x old mid now out puts = record {
  text = out.text ++ puts.0;
  made = made_joined IsPart xs (x ∷ []) out.text puts.0 out.made
      (puts.0, [], sym (append-nil puts.0), puts.1, refl);
  known = puts.2 ∙ ap (λ known. append_known known puts.0) out.known
      ∙ append_known-append_known old out.text puts.0;
}

-- ---- items

module _ (proofs : Bool) (cup : Cup) (seasons : List Results) (is_cup : IsCup cup) where
  abbrev pub Item : ℕ → List ℕ → Type 0
  Item club text = IsCupItemText proofs cup seasons club text

  refuted_lines_exist : (proofs : Bool) (claim : Claim) (club : ℕ) (found : SideRefutation)
      → IsSideRefutedBy cup seasons claim club found
      → (lines : List CupLine) × RefutesInCup proofs cup seasons claim club lines
  refuted_lines_exist true claim club found is = (
    refuted_side_lines cup claim is.seat found,
    refuted_text cup seasons claim club found is_cup is,
  )
  refuted_lines_exist false claim club found is = ([], refl)

  lines_exist : (club : ℕ) (found : ClubFinding) → IsClubFinding cup seasons club found
      → (lines : List CupLine)
      × ShowsInCup proofs cup seasons club (word_of_finding found) lines
  lines_exist club (Clinched found) is =
      let lines = refuted_lines_exist proofs Outside club found is.1 in
      (lines.0, (is.0, lines.1))
  lines_exist club (Lost found) is =
      let lines = refuted_lines_exist proofs Inside club found is.1 in
      (lines.0, (is.0, lines.1))
  lines_exist club (Possible inside outside) is = (
    joint_lines Inside seasons (group_finishes inside.ends) inside.lots
        ++ joint_lines Outside seasons (group_finishes outside.ends) outside.lots,
    (is.0, possible_text cup seasons club inside outside is),
  )
  lines_exist club (Unsettled inside outside) is = (
    open_side_lines cup seasons Inside inside ++ open_side_lines cup seasons Outside outside,
    unsettled_text cup seasons club inside outside is,
  )

  -- each of these clubs has an item
  pub items_exist : (all : List FoundClub) → All (IsFoundClub cup seasons) all
      → (text : List ℕ) × IsMadeOf Item (found_clubs all) text
  items_exist [] each = ([], refl)
  items_exist (found ∷ all) each =
      let here = each 0 found (omega arith) in
      let lines = lines_exist found.club found.finding here.finding in
      let item = verdict_row cup.quota (cup_club_name cup found.club)
      (word_of_finding found.finding) ++ text_of_cup_lines lines.0 in
      let rest = items_exist all (λ k d inside. each (suc k) d (omega (arith, inside))) in (
        item ++ rest.0,
        (item, rest.0, refl, (word_of_finding found.finding, lines.0, lines.1, refl), rest.1),
      )

  -- so have those that are left
  left_exist : (all : List FoundClub) (i : ℕ) → All (IsFoundClub cup seasons) all
      → (text : List ℕ) × IsMadeOf Item (found_clubs (drop i all)) text
  left_exist [] zero each = ([], refl)
  left_exist [] (suc i) each = ([], refl)
  left_exist (found ∷ all) zero each = items_exist (found ∷ all) each
  left_exist (found ∷ all) (suc i) each =
      left_exist all i (λ k d inside. each (suc k) d (omega (arith, inside)))

  -- the clubs before one, that one, and those after it
  split_clubs : (all : List FoundClub) (i : ℕ) (found : FoundClub) → i < length all
      → found ≡ get_or all i found
      → found_clubs (take i all) ++ found.club ∷ found_clubs (drop (suc i) all) ≡ found_clubs all
  split_clubs [] i found inside is = absurd (omega (arith, inside))
  split_clubs (first ∷ all) zero found inside is =
      ap (λ (it : FoundClub). it.club ∷ found_clubs all) is
  split_clubs (first ∷ all) (suc i) found inside is =
      ap (λ (clubs : List ℕ). first.club ∷ clubs)
      (split_clubs all i found (omega (arith, inside)) is)

  -- ---- the loop

  pub items_more : (all : List FoundClub) (i : ℕ) (found : FoundClub)
      (old mid now : Option (List ℕ)) → i < length all → found ≡ get_or all i found
      → ArePartsOut Item (found_clubs (take i all)) old mid
      → (text : List ℕ) × Item found.club text × (now ≡ append_known mid text)
      → ArePartsOut Item (found_clubs (take (i + 1) all)) old now
  items_more all i found old mid now inside is out puts =
      let next : found_clubs (take i all) ++ found.club ∷ [] ≡ found_clubs (take (i + 1) all) =
      ap (λ (it : FoundClub). found_clubs (take i all) ++ it.club ∷ []) is
      ∙ sym (map-append (λ (it : FoundClub). it.club) (take i all) (get_or all i found ∷ []))
      ∙ ap found_clubs (sym (take_more all i found inside)) in
      subst (λ (clubs : List ℕ). ArePartsOut Item clubs old now) next
      (parts_more Item (found_clubs (take i all)) found.club old mid now out puts)

  pub items_stop : {A : Type 0} (all : List FoundClub) (i : ℕ) (found : FoundClub)
      (old mid now : Option (List ℕ)) (result : Result A OutputStop) (stop : OutputStop)
      → All (IsFoundClub cup seasons) all → i < length all → found ≡ get_or all i found
      → result ≡ Err stop → ArePartsOut Item (found_clubs (take i all)) old mid
      → PutsSomeText (Item found.club) mid now result
      → PutsSomeText {A = A} (IsMadeOf Item (found_clubs all)) old now (Err stop)
  items_stop {A} all i found old mid now result stop each inside is stopped out puts =
      let left : found_clubs (drop i all) ≡ found.club ∷ found_clubs (drop (suc i) all) =
      ap found_clubs (drop-cons all i found inside)
      ∙ ap (λ (it : FoundClub). it.club ∷ found_clubs (drop (suc i) all)) (sym is) in
      let some = left_exist all i each in
      subst (λ (clubs : List ℕ). PutsSomeText {A = A} (IsMadeOf Item clubs) old now (Err stop))
      (split_clubs all i found inside is)
      (parts_stop {A = A} Item (found_clubs (take i all)) (found_clubs (drop (suc i) all))
      found.club old mid now result stop stopped out
      (some.0, subst (λ (clubs : List ℕ). IsMadeOf Item clubs some.0) left some.1) puts)

  pub items_done : (all : List FoundClub) (i : ℕ) (old now : Option (List ℕ)) → length all ≤ i
      → ArePartsOut Item (found_clubs (take i all)) old now
      → (text : List ℕ) × IsMadeOf Item (found_clubs all) text × (now ≡ append_known old text)
  items_done all i old now end out = (
    out.text,
    subst (λ (them : List FoundClub). IsMadeOf Item (found_clubs them) out.text)
        (take_all i all end) out.made,
    out.known,
  )

  -- ---- the answer

  groups_text : (epoch : ℕ) (all : List FoundClub) (items : List ℕ)
      → AreFoundClubs cup seasons all → IsMadeOf Item (found_clubs all) items
      → IsGroupsText proofs cup seasons epoch (ask_row epoch ++ items)
  groups_text epoch all items are made = (
    items,
    subst (λ (clubs : List ℕ). IsMadeOf Item clubs items) are.clubs made,
    refl,
  )

  -- the row of the ask, and what went out after it
  pub answer_puts : {A : Type 0} (epoch : ℕ) (all : List FoundClub)
      (old mid now : Option (List ℕ)) (result : Result A OutputStop)
      → AreFoundClubs cup seasons all → mid ≡ append_known old (ask_row epoch)
      → PutsSomeText (IsMadeOf Item (found_clubs all)) mid now result
      → PutsSomeText (IsGroupsText proofs cup seasons epoch) old now result
  answer_puts {A} epoch all old mid now (Ok done) are before puts = (
    ask_row epoch ++ puts.0,
    groups_text epoch all puts.0 are puts.1,
    puts-behind (ask_row epoch) puts.0 old mid now (Ok done) before puts.2,
  )
  answer_puts {A} epoch all old mid now (Err WriteFault) are before puts = (
    ask_row epoch ++ puts.0,
    groups_text epoch all puts.0 are puts.1,
    puts-behind {A = A} (ask_row epoch) puts.0 old mid now (Err WriteFault) before puts.2,
  )
  answer_puts {A} epoch all old mid now (Err OutOfMemory) are before (inl same) =
      let some = items_exist all are.each in
      inr (
        ask_row epoch ++ some.0,
        groups_text epoch all some.0 are some.1,
        front-more (ask_row epoch) some.0 old now
            (ask_row epoch, ([], append-nil (ask_row epoch)), same ∙ before),
      )
  answer_puts {A} epoch all old mid now (Err OutOfMemory) are before (inr puts) = inr (
    ask_row epoch ++ puts.0,
    groups_text epoch all puts.0 are puts.1,
    puts-behind {A = A} (ask_row epoch) puts.0 old mid now (Err OutOfMemory) before puts.2,
  )

  -- or a prefix of that row
  pub answer_stops : {A : Type 0} (epoch : ℕ) (all : List FoundClub) (old now : Option (List ℕ))
      (result : Result A OutputStop) (stop : OutputStop) → AreFoundClubs cup seasons all
      → AppendsPrefix old now (ask_row epoch)
      → PutsSomeText {A = A} (IsGroupsText proofs cup seasons epoch) old now (Err stop)
  answer_stops {A} epoch all old now result WriteFault are front =
      let some = items_exist all are.each in (
        ask_row epoch ++ some.0,
        groups_text epoch all some.0 are some.1,
        front-more (ask_row epoch) some.0 old now front,
      )
  answer_stops {A} epoch all old now result OutOfMemory are front =
      let some = items_exist all are.each in
      inr (
        ask_row epoch ++ some.0,
        groups_text epoch all some.0 are some.1,
        front-more (ask_row epoch) some.0 old now front,
      )
