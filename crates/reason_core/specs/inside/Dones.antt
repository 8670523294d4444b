-- What was done with a piece: which piece it is about, and whether it is true.
use Rattle.std.specs.Prelude.{◌≡◌, Option, Some, None}
use Rattle.league_core.specs.declared.sheet.Sheet.{Sheet}
use Rattle.reason_core.specs.declared.piece.Piece.{Piece}
use Rattle.reason_core.specs.declared.finding.Finding.{Finding}
use Rattle.reason_core.specs.declared.finding.Finding.TheVariants as found
use Rattle.reason_core.specs.declared.done.Done.{Done}
use Rattle.reason_core.specs.declared.done.Done.TheVariants.{Refuted, Split, Won, Undone}
use Rattle.reason_core.specs.inside.Findings.{IsTrueFinding}

-- the finding is true of the piece, over a sheet
abbrev pub IsTrueOf : Sheet → Piece → Finding → Type 0
IsTrueOf sheet piece finding =
    IsTrueFinding sheet piece.season piece.question piece.zone.literals finding

-- what was done is about this piece; if nothing was done, it is about any
abbrev pub IsFor : Done → Piece → Type 0
IsFor (Refuted own reason) piece = own ≡ piece
IsFor (Split own literal) piece = own ≡ piece
IsFor (Won own finish lots) piece = own ≡ piece
IsFor Undone piece = Unit {0}

-- what was found is true of its own piece; if nothing was done, that is true
abbrev pub IsTrueDone : Sheet → Done → Type 0
IsTrueDone sheet (Refuted own reason) = IsTrueOf sheet own (found.Refuted reason)
IsTrueDone sheet (Split own literal) = IsTrueOf sheet own (found.Split literal)
IsTrueDone sheet (Won own finish lots) = IsTrueOf sheet own (found.Won finish lots)
IsTrueDone sheet Undone = Unit {0}

-- a finding, as what was done with a piece
abbrev pub done_of : Piece → Finding → Done
done_of piece (found.Refuted reason) = Refuted piece reason
done_of piece (found.Split literal) = Split piece literal
done_of piece (found.Won finish lots) = Won piece finish lots

-- what was done with a piece where this was found, if something was
abbrev pub done_with : Piece → Option Finding → Done
done_with piece (Some finding) = done_of piece finding
done_with piece None = Undone

-- what was found where this was done
abbrev pub finding_of : Done → Option Finding
finding_of (Refuted own reason) = Some (found.Refuted reason)
finding_of (Split own literal) = Some (found.Split literal)
finding_of (Won own finish lots) = Some (found.Won finish lots)
finding_of Undone = None
