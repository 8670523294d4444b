use Rattle.std.proofs.lemmas.Bool.Decides.{Decides-eqb}
use Rattle.std.proofs.lemmas.Slice.Eq.{strip_prefix_is}
use Rattle.cert_text.proofs.plain_number.behind.Goals as goal
use Rattle.league_core.proofs.plain.Options.{where_some}

pub returns : goal.returns
returns c =
    where_some c.strip_prefix.result _ _
    (strip_prefix_is Decides-eqb c.args.text.now c.args.front.now c.strip_prefix.result
    c.strip_prefix.ensures.cases)
