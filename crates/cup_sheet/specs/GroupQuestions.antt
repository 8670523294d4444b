-- Questions about one group of a cup: whether a club can end at a direct place, as its group's
-- candidate with a key on one side of a bound, or below the candidate. They are about the group
-- alone; what a cup comes to is put together from them.
use Rattle.std.specs.Prelude.{ℕ, ◌+◌, ℤ, Bool, true, false, not, ◌&&◌, ◌==◌, nat_le, nat_lt}
use Rattle.std.specs.Prelude.{IsTrue, List, length}
use Rattle.league_core.specs.declared.sheet.Sheet.{Sheet}
use Rattle.league_core.specs.declared.question.Claim.TheVariants.{Inside, Outside}
use Rattle.league_core.specs.declared.question.Question.{Question}
use Rattle.league_core.specs.declared.zone.Literal.{Literal}
use Rattle.league_core.specs.game.Results.{Results}
use Rattle.league_core.specs.game.Finishes.{IsFinishOf}
use Rattle.league_core.specs.game.Questions.{full_question}
use Rattle.league_core.specs.game.Ranking.{are_lots, place_of}
use Rattle.league_core.specs.search.Options.{has_finish}
use Rattle.league_core.specs.search.Keys.{key_of, is_key_from, low_key, high_key}
use Rattle.league_core.specs.search.Reasons.{has_reason}
use Rattle.cup_sheet.specs.declared.question.GroupKind.{GroupKind}
use Rattle.cup_sheet.specs.declared.question.GroupKind.TheVariants.{Top, Below, SecondLess}
use Rattle.cup_sheet.specs.declared.question.GroupKind.TheVariants.{SecondAtLeast, SecondMore}
use Rattle.cup_sheet.specs.declared.question.GroupKind.TheVariants.{SecondAtMost}
use Rattle.cup_sheet.specs.declared.question.GroupReason.{GroupReason}
use Rattle.cup_sheet.specs.declared.question.GroupReason.TheVariants.{Plain, In, Out, ByKey}

-- a question about a club of a group, by its number there, and a key; those about a place alone do
-- not look at the key
pub record GroupQuestion : Type 0 where
  pub kind : GroupKind
  pub club : ℕ
  pub key : List ℤ

-- ---- what a question holds of

-- the key is on the side of the bound that the kind asks for; a kind without a bound asks nothing
abbrev pub is_key_on_side : GroupKind → List ℤ → List ℤ → Bool
is_key_on_side Top bound key = true
is_key_on_side Below bound key = true
is_key_on_side SecondLess bound key = not (is_key_from bound key)
is_key_on_side SecondAtLeast bound key = is_key_from bound key
is_key_on_side SecondMore bound key = not (is_key_from key bound)
is_key_on_side SecondAtMost bound key = is_key_from key bound

-- the place is one that the kind asks for: a direct one, one after the candidate's, or the
-- candidate's own
abbrev pub is_place_asked : ℕ → GroupKind → ℕ → Bool
is_place_asked direct Top place = nat_le place direct
is_place_asked direct Below place = nat_lt (direct + 1) place
is_place_asked direct SecondLess place = place == direct + 1
is_place_asked direct SecondAtLeast place = place == direct + 1
is_place_asked direct SecondMore place = place == direct + 1
is_place_asked direct SecondAtMost place = place == direct + 1

-- the question holds where the group finishes so, with these lots of its clubs
abbrev pub holds_in_group : ℕ → Sheet → GroupQuestion → Results → List ℕ → Bool
holds_in_group direct sheet question finish lots =
    is_place_asked direct question.kind (place_of sheet finish lots question.club)
    && is_key_on_side question.kind question.key (key_of sheet finish question.club)

-- a finish of the group's season, and lots of its clubs, at which the question holds
pub record IsGroupExample (direct : ℕ) (sheet : Sheet) (season : Results)
    (question : GroupQuestion) (finish : Results) (lots : List ℕ) : Type 0 where
  pub is_finish : IsFinishOf sheet season finish
  pub is_drawn : IsTrue (are_lots (length sheet.clubs) lots)
  pub holds : IsTrue (holds_in_group direct sheet question finish lots)

-- some finish and some lots show it
abbrev pub HasGroupExample : ℕ → Sheet → Results → GroupQuestion → Type 0
HasGroupExample direct sheet season question =
    (finish : Results) × (lots : List ℕ)
    × IsGroupExample direct sheet season question finish lots

-- ---- why it holds nowhere in a zone

-- whether the club can end at a direct place
abbrev pub direct_question : ℕ → ℕ → Question
direct_question direct club = full_question club direct Inside

-- whether it can end after the direct places
abbrev pub after_question : ℕ → ℕ → Question
after_question direct club = full_question club direct Outside

-- whether it can end as the candidate or better
abbrev pub reach_question : ℕ → ℕ → Question
reach_question direct club = full_question club (direct + 1) Inside

-- whether it can end below the candidate
abbrev pub below_question : ℕ → ℕ → Question
below_question direct club = full_question club (direct + 1) Outside

-- no key between the low key and the high key of a zone is on the side that the kind asks for; a
-- kind without a bound is never refuted so
abbrev pub is_key_refuted : GroupKind → List ℤ → List ℤ → List ℤ → Bool
is_key_refuted Top bound low high = false
is_key_refuted Below bound low high = false
is_key_refuted SecondLess bound low high = is_key_from bound low
is_key_refuted SecondAtLeast bound low high = not (is_key_from bound high)
is_key_refuted SecondMore bound low high = is_key_from high bound
is_key_refuted SecondAtMost bound low high = not (is_key_from low bound)

-- the kind is about the place alone
abbrev pub is_of_place : GroupKind → Bool
is_of_place Top = true
is_of_place Below = true
is_of_place SecondLess = false
is_of_place SecondAtLeast = false
is_of_place SecondMore = false
is_of_place SecondAtMost = false

-- what a kind about the place alone asks, as a question of the group's table
abbrev pub place_question : ℕ → GroupKind → ℕ → Question
place_question direct Top club = direct_question direct club
place_question direct Below club = below_question direct club
place_question direct SecondLess club = reach_question direct club
place_question direct SecondAtLeast club = reach_question direct club
place_question direct SecondMore club = reach_question direct club
place_question direct SecondAtMost club = reach_question direct club

-- the reason is one of the kind, and it holds in the zone, which has a finish: for a place alone
-- that the club cannot end there; for a candidate that it cannot reach the candidate's place, that
-- it cannot miss the direct ones, or that its key is on the other side
unfoldable pub has_group_reason : ℕ → Sheet → Results → GroupQuestion → List Literal → GroupReason
    → Bool
has_group_reason direct sheet season question zone (Plain reason) =
    is_of_place question.kind
    && has_reason sheet season (place_question direct question.kind question.club) zone reason
has_group_reason direct sheet season question zone (In reason) =
    not (is_of_place question.kind)
    && has_reason sheet season (reach_question direct question.club) zone reason
has_group_reason direct sheet season question zone (Out reason) =
    not (is_of_place question.kind)
    && has_reason sheet season (after_question direct question.club) zone reason
has_group_reason direct sheet season question zone ByKey =
    has_finish sheet season zone
    && is_key_refuted question.kind question.key (low_key sheet season zone question.club)
    (high_key sheet season zone question.club)
