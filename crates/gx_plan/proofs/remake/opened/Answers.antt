use Rattle.std.proofs.Common.{map, ◌∙◌, ap, sym}
use Rattle.gx_plan.specs.Remaking.{remade}
use Rattle.gx_plan.proofs.Remade.{frame_opened, place_at_opening}
use Rattle.gx_plan.proofs.remake.opened.Goals as goal

pub returns-clause-made : goal.returns-clause-made
returns-clause-made g c = λ make.
    frame_opened make c.into_parts-carried.result.0 c.into_parts-carried.result.1 c.into_parts-carried.result.2 c.in-Ok.operator
    c.into_parts-carried.result.3 c.new.result.items c.in-Ok.left.items c.reverse.new.self.items c.in-Ok.ensures.operator c.new.ensures.items c.in-Ok.ensures.parts c.reverse.ensures.items
    ∙ ap (remade make) (sym c.into_parts-carried.ensures)

pub returns-clause-under_way : goal.returns-clause-under_way
returns-clause-under_way g c = λ facts_of. record {
  facts = c.new-2.ensures.items ∙ ap (map facts_of) (sym c.new.ensures.items);
  place =
      place_at_opening c.in-Ok.operator c.into_parts-carried.result.3 c.new.result.items c.in-Ok.left.items c.reverse.new.self.items c.in-Ok.ensures.operator
      c.new.ensures.items c.in-Ok.ensures.parts c.reverse.ensures.items;
}
