-- Lines that a type holds: the bits of their sets are those of 32-bit numbers. Lines as plain data
-- may have others, which name no further club.
use Rattle.std.specs.Prelude.{◌^◌, Bool, true, nat_lt}
use Rattle.league_core.specs.declared.club_set.ClubSet.{ClubSet}
use Rattle.league_core.specs.declared.zone.Reason.{Reason}
use Rattle.league_core.specs.declared.zone.Reason.TheVariants.{Count, Window, Low, High, Tie}
use Rattle.league_core.specs.game.Limits.{set_width}
use Rattle.cert_text.specs.declared.proof_line.ProofLine.{ProofLine}
use Rattle.cert_text.specs.declared.proof_line.ProofLine.TheVariants as line

-- the set's bits are those of a 32-bit number, as its type keeps them
abbrev pub is_set_kept : ClubSet → Bool
is_set_kept set = nat_lt set.bits (2 ^ set_width)

-- so are those of the reason's set, if it has one
abbrev pub is_reason_kept : Reason → Bool
is_reason_kept Count = true
is_reason_kept Window = true
is_reason_kept (Low set) = is_set_kept set
is_reason_kept (High set) = is_set_kept set
is_reason_kept Tie = true

-- and those of the line's
abbrev pub is_line_kept : ProofLine → Bool
is_line_kept (line.Tree claim) = true
is_line_kept (line.Spent claim) = true
is_line_kept (line.SpentWindow claim low high) = true
is_line_kept (line.Split test) = true
is_line_kept (line.NewSplit test) = true
is_line_kept (line.Leaf reason) = is_reason_kept reason
is_line_kept (line.NewLeaf reason) = is_reason_kept reason
is_line_kept line.OpenLeaf = true
is_line_kept (line.Finish claim) = true
is_line_kept (line.Score fixture score) = true
is_line_kept (line.Lots lots) = true
