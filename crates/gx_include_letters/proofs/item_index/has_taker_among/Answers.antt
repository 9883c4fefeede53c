use Rattle.std.proofs.Common.{◌||◌, ◌∙◌, Bool, map, get_or, false, sym, ap}
use Rattle.std.specs.List.{list_any}
use Rattle.gx_include_positions.specs.Test.{is_taken}
use Rattle.gx_include_letters.proofs.Listed.{any_listed}
use Rattle.gx_include_letters.proofs.item_index.has_taker_among.Goals as goal

pub returns-then-takes_listed : goal.returns-then-takes_listed
returns-then-takes_listed c =
    c.if-takes_listed.true
    ∙ ap (λ (b : Bool). b || list_any (λ n. get_or (map (is_taken c.args.schemas.now c.args.shape.now) c.args.items.now) n false) c.args.unnamed.now) (sym c.if-takes_listed.true ∙ c.takes_listed.ensures)
    ∙ any_listed c.args.schemas.now c.args.shape.now c.args.items.now c.args.asking.now c.args.unnamed.now c.requires

pub returns-else-takes_listed : goal.returns-else-takes_listed
returns-else-takes_listed c =
    c.takes_listed-else-takes_listed.ensures
    ∙ ap (λ (b : Bool). b || list_any (λ n. get_or (map (is_taken c.args.schemas.now c.args.shape.now) c.args.items.now) n false) c.args.unnamed.now) (sym c.if-takes_listed.false ∙ c.takes_listed.ensures)
    ∙ any_listed c.args.schemas.now c.args.shape.now c.args.items.now c.args.asking.now c.args.unnamed.now c.requires
