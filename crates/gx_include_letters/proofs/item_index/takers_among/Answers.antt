use Rattle.std.proofs.Common.{◌++◌, ◌∙◌, List, ℕ, ap}
use Rattle.std.specs.List.{flat_map}
use Rattle.gx_include_letters.specs.ItemIndex.{place_if}
use Rattle.gx_include_positions.specs.Test.{is_taken}
use Rattle.gx_include_letters.proofs.Listed.{all_taken}
use Rattle.gx_include_letters.proofs.item_index.takers_among.Goals as goal

pub returns : goal.returns
returns c =
    let f = place_if c.args.items.now (is_taken c.args.schemas.now c.args.shape.now) in
    all_taken c.args.schemas.now c.args.shape.now c.args.items.now c.of.result c.add_takers-2.new.places.items c.args.asking.now c.args.unnamed.now c.requires
    (c.in_ok-add_takers-2.ensures ∙ ap (λ (ns : List ℕ). ns ++ flat_map f c.args.unnamed.now) (c.in_ok-add_takers.ensures ∙ ap (λ (ns : List ℕ). ns ++ flat_map f c.args.asking.now) c.new-places.ensures.items))
    c.of.ensures.count c.of.ensures.members
