use Rattle.std.proofs.Common.{rules}
use Rattle.cert_text.proofs.PlainNumberLemmas.{clubs_end, clubs_go_on}
use Rattle.cert_text.proofs.plain_number.clubs_at_end.Goals as goal

pub returns-then-is_all : goal.returns-then-is_all
returns-then-is_all c =
    clubs_end c.args.most c.clubs.list.items c.in-Some-club.club c.args.text.now c.clubs.rest.now
    c.in-Some-club.more.now _ c.clubs.invariant.0 c.clubs.invariant.1 (search rules)
    (search rules) (search rules) (search rules)

pub clubs-preserved : goal.clubs-preserved
clubs-preserved c =
    clubs_go_on c.args.most c.clubs.list.items c.in-Some-club.club c.args.text.now c.clubs.rest.now
    c.in-Some-club.more.now c.push.new.self.items c.in-Some-behind.next.now
    c.clubs.invariant.0 c.clubs.invariant.1 (search rules)
    (search rules) (search rules) (search rules)
