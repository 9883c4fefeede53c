use Rattle.std.proofs.Common.{false, Option, sym, subst}
use Rattle.std.specs.Prelude.{IsTrue, ◌↔◌}
use Rattle.std.specs.Option.{option_map, IsSomeAnd}
use Rattle.std.proofs.lemmas.Bool.{true≢false}
use Rattle.gx_types.specs.ItemTakes.{ItemTakes}
use Rattle.gx_tree.specs.PlainTree.{PlainTree}
use Rattle.gx_model.specs.Belongs.{shape_of}
use Rattle.gx_store.proofs.StoreLemmas.{found_later, not_found_later}
use Rattle.gx_store.proofs.store.Store.meets.Goals as goal

pub returns-in-Some : goal.returns-in-Some
returns-in-Some c later x =
    subst (λ (found : Option PlainTree). IsTrue c.is_taken.result ↔ IsSomeAnd (option_map shape_of found) (ItemTakes c.args.schemas.now c.args.item.now))
    (sym (found_later c.args.self.now later c.args.node.number c.in-Some.ensures.within x)) c.is_taken.ensures

pub returns-in-None : goal.returns-in-None
returns-in-None c later x =
    subst (λ (found : Option PlainTree). IsTrue false ↔ IsSomeAnd (option_map shape_of found) (ItemTakes c.args.schemas.now c.args.item.now))
    (sym (not_found_later c.args.self.now later c.args.node.number c.in-None.ensures x)) (λ t. absurd (true≢false (sym t)), λ h. absurd h)
