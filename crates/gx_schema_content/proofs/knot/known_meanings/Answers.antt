use Rattle.gx_schema_content.proofs.KnotLemmas.{nothing_known, table_knows}
use Rattle.gx_schema_content.proofs.knot.known_meanings.Goals as goal

pub returns-in-Some : goal.returns-in-Some
returns-in-Some g c = table_knows g.B.Body.named g.B.Body.meant g.B.Body.nothing c.args.bodies.now c.in-Some.table.items (rw c.in-Some.is at c.in_ok-table.ensures)

pub returns-in-None : goal.returns-in-None
returns-in-None g c = nothing_known g.B.Body.named g.B.Body.meant g.B.Body.nothing c.args.bodies.now c.new.result.items c.new.ensures.items (rw c.in-None.is at c.in_ok-table.ensures)
