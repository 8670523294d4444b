-- Lines and rows worked by hand, computed when the crate is checked: a text with an exchanged side
-- or a club counted from 0 fails here.
use Rattle.std.proofs.Common.{◌≡◌, pos, negsuc, false, [], ◌∷◌, map, codes, refl}
use Rattle.std.specs.Fmt.{digits}
use Rattle.csv.specs.Writing.{escaped, fields_text, is_blank}
use Rattle.league_core.specs.declared.question.Claim.TheVariants.{Inside, Outside}
use Rattle.league_core.specs.declared.zone.Test.TheVariants.{HomeMost, Rival}
use Rattle.league_core.specs.declared.zone.Reason.TheVariants.{Low}
use Rattle.league_core.specs.game.ClubSets as sets
use Rattle.cert_text.specs.declared.proof_line.ProofLine.TheVariants as line
use Rattle.cert_text.specs.Lines.{text_of_proof_line}
use Rattle.cert_text.specs.Ranges.{is_in_range}
use Rattle.cert_text.specs.Rows.{text_of_row}

window : text_of_proof_line (line.SpentWindow Inside (negsuc 98) (pos 1800))
    ≡ codes "[\"spent\",\"inside\",-99,1800]"
unfolding digits
window = refl

split : text_of_proof_line (line.NewSplit (HomeMost 9 0)) ≡ codes "[\"new_split\",\"hg\",10,0]"
unfolding digits
split = refl

cut : text_of_proof_line (line.Leaf (Low (record { bits = 6 }))) ≡ codes "[\"leaf\",\"low\",[2,3]]"
unfolding sets.clubs_below digits
cut = refl

score : text_of_proof_line (line.Score 0 (record { home = 10; away = 2 }))
    ≡ codes "[\"score\",1,10,2]"
unfolding digits
score = refl

lots : text_of_proof_line (line.Lots (record { list = 2 ∷ 0 ∷ 1 ∷ [] }))
    ≡ codes "[\"lots\",[3,1,2]]"
unfolding digits
lots = refl

-- fixture 601, a bound that no score misses, club 25, an empty set, a set with club 25, a hundred
-- goals, -100 points
ranges : map is_in_range
    (line.Score 600 (record { home = 0; away = 0 }) ∷ line.Split (HomeMost 0 99) ∷ line.Split
    (Rival 24) ∷ line.Leaf (Low (record { bits = 0 })) ∷ line.Leaf
    (Low (record { bits = 16777216 })) ∷ line.Score 0
    (record { home = 0; away = 100 }) ∷ line.SpentWindow Outside (negsuc 99) (pos 0) ∷ line.Lots
    (record { list = 24 ∷ [] }) ∷ [])
    ≡ false ∷ false ∷ false ∷ false ∷ false ∷ false ∷ false ∷ false ∷ []
unfolding sets.clubs_below
ranges = refl

quoted_row : text_of_row (codes "A, B" ∷ codes "the \"Reds\"" ∷ codes "#1" ∷ [])
    ≡ codes "\"A, B\",\"the \"\"Reds\"\"\",#1\n"
unfolding escaped fields_text is_blank
quoted_row = refl

empty_row : text_of_row ([] ∷ []) ≡ codes "\"\"\n"
unfolding escaped fields_text is_blank
empty_row = refl
