use Rattle.std.proofs.Common.{◌≡◌, map, take}
use Rattle.csv.specs.Writing.{default_writer, row_body}
use Rattle.cert_text.proofs.plain_row.plain_row.Given as goal

-- the row so far is the fields so far, with commas between them
abbrev pub invariant-loop-place : goal.invariant-loop-place
invariant-loop-place l =
    l.row.items ≡ row_body default_writer (map (λ field. field.items) (take l.place l.fields))
