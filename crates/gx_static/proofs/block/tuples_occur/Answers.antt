use Rattle.std.proofs.Common.{◌≡◌, min, length, sym, arith, rules}
use Rattle.std.proofs.lemmas.Grind.{common_steps}
use Rattle.gx_static.proofs.TupleOccurrence.{none_behind}
use Rattle.gx_static.proofs.block.tuples_occur.Goals as goal

pub loop-left-init : goal.loop-left-init
loop-left-init c =
    let kinds = c.args.clauses.now in
    let types = c.args.types.now in
    let least : c.min-count.result ≡ min (length kinds) (length types) = first_of (search rules, grind (arith, common_steps)) in
    record {
      same = sym (none_behind kinds types c.min-count.result least);
      clauses_there = omega (arith, least);
      types_there = omega (arith, least);
    }
