use Rattle.std.proofs.Common.{rules}
use Rattle.gx_steptype.proofs.ListedTypes.{one_listed_more}
use Rattle.gx_steptype.proofs.type_lists.add_type.Goals as goal

pub returns-in-Some : goal.returns-in-Some
returns-in-Some c =
    let more = c.push.new.self in
    one_listed_more c.args.lists.now (c.get_mut.follows.lender more) c.args.base.now c.args.t.now c.in-Some.types.now more (search rules) (search rules)
    (λ kind. ((c.get_mut.follows.holds more).3 (search rules)).0 kind)
