use Rattle.std.proofs.Common.{◌≡◌, List, Option, Some, None, subst}
use Rattle.std.specs.Prelude.{IfOk, MatchOption}
use Rattle.gx_facets.specs.declared.Atomic.{Atomic}
use Rattle.gx_nodes.specs.Entries.{count_in}
use Rattle.gx_store.proofs.StoreLemmas.{not_there}
use Rattle.gx_store.proofs.ValueLemmas.{own_string, value_later, no_value_later}
use Rattle.gx_store.proofs.store.Store.typed_value.Goals as goal

pub value_of-requires : goal.value_of-requires
value_of-requires c = own_string c.args.self.now c.args.node.number c.in_ok-text.text (c.has.ensures.0 c.if-has.true) c.in_ok-text.ensures

pub returns-in_ok-text : goal.returns-in_ok-text
returns-in_ok-text c later x =
    subst (λ (o : Option (List Atomic)). IfOk c.value_of.result (λ found. MatchOption found (o ≡ None) (λ values. o ≡ Some values.items)))
    (value_later c.args.schemas.now c.args.self.now later c.args.node.number (c.has.ensures.0 c.if-has.true) x) c.value_of.ensures

pub returns-else-has : goal.returns-else-has
returns-else-has c later x =
    no_value_later c.args.schemas.now c.args.self.now later c.args.node.number (not_there c.has.result c.args.node.number (count_in c.args.self.now) c.has.ensures c.if-has.false) x
