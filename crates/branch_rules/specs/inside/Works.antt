-- What comes of one piece of work.
use Rattle.std.specs.Prelude.{◌≡◌}
use Rattle.league_core.specs.declared.sheet.Sheet.{Sheet}
use Rattle.reason_core.specs.declared.piece.Piece.{Piece}
use Rattle.reason_core.specs.declared.finding.Finding.{Finding}
use Rattle.reason_core.specs.declared.done.Done.{Done}
use Rattle.reason_core.specs.inside.Dones.{IsFor, IsTrueDone, done_of}
use Rattle.branch_rules.specs.inside.Found.{IsFoundIn}

-- what was done is about the piece and true for the sheet, and is what is found in the piece's zone
pub record IsWorkOf (sheet : Sheet) (piece : Piece) (done : Done) : Type 0 where
  pub is_for : IsFor done piece
  pub true_done : IsTrueDone sheet done
  pub finding : Finding
  pub done_is : done ≡ done_of piece finding
  pub found : IsFoundIn sheet piece.season piece.question piece.zone.literals finding
