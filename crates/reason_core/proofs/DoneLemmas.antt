-- What was done with a piece and what was found there say the same.
use Rattle.std.proofs.Common.{◌≡◌, Option, Some, None, refl}
use Rattle.std.specs.Prelude.{IfSome}
use Rattle.league_core.specs.declared.sheet.Sheet.{Sheet}
use Rattle.reason_core.specs.declared.piece.Piece.{Piece}
use Rattle.reason_core.specs.declared.finding.Finding.{Finding}
use Rattle.reason_core.specs.declared.finding.Finding.TheVariants as found
use Rattle.reason_core.specs.declared.done.Done.{Done}
use Rattle.reason_core.specs.declared.done.Done.TheVariants.{Refuted, Split, Won, Undone}
use Rattle.reason_core.specs.inside.Dones.{IsFor, IsTrueDone, IsTrueOf, done_with, finding_of}

-- what is found where this was done is this
pub finding_of-done_with : (piece : Piece) (finding : Option Finding)
    → finding_of (done_with piece finding) ≡ finding
finding_of-done_with piece None = refl
finding_of-done_with piece (Some (found.Refuted reason)) = refl
finding_of-done_with piece (Some (found.Split literal)) = refl
finding_of-done_with piece (Some (found.Won finish lots)) = refl

-- what was done with this piece is this
pub done_with-finding_of : (piece : Piece) (done : Done) → IsFor done piece
    → done_with piece (finding_of done) ≡ done
done_with-finding_of piece (Refuted own reason) is_for = rw is_for refl
done_with-finding_of piece (Split own literal) is_for = rw is_for refl
done_with-finding_of piece (Won own finish lots) is_for = rw is_for refl
done_with-finding_of piece Undone is_for = refl

-- what was found is true of the piece with which this was done
pub finding_is_true : (sheet : Sheet) (piece : Piece) (done : Done) → IsFor done piece
    → IsTrueDone sheet done → IfSome (finding_of done) (IsTrueOf sheet piece)
finding_is_true sheet piece (Refuted own reason) is_for sound = rw is_for at sound
finding_is_true sheet piece (Split own literal) is_for sound = rw is_for at sound
finding_is_true sheet piece (Won own finish lots) is_for sound = rw is_for at sound
finding_is_true sheet piece Undone is_for sound = tt

-- what was done is about the piece in which this was found
pub done_is_for : (piece : Piece) (finding : Option Finding) → IsFor (done_with piece finding) piece
done_is_for piece None = tt
done_is_for piece (Some (found.Refuted reason)) = refl
done_is_for piece (Some (found.Split literal)) = refl
done_is_for piece (Some (found.Won finish lots)) = refl

-- and true
pub done_is_true : (sheet : Sheet) (piece : Piece) (finding : Option Finding)
    → IfSome finding (IsTrueOf sheet piece) → IsTrueDone sheet (done_with piece finding)
done_is_true sheet piece None sound = tt
done_is_true sheet piece (Some (found.Refuted reason)) sound = sound
done_is_true sheet piece (Some (found.Split literal)) sound = sound
done_is_true sheet piece (Some (found.Won finish lots)) sound = sound
