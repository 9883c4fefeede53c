use Rattle.std.proofs.Common.{sym, ◌∙◌, ap}
use Rattle.std.specs.Borrow.{Bor}
use Rattle.std.specs.List.{list_all}
use Rattle.std.proofs.lemmas.List.Folds.{list_all-map}
use Rattle.gx_facets.specs.declared.restriction.Facets.{Facets}
use Rattle.gx_types.specs.SimpleValue.{admits_values}
use Rattle.gx_types.proofs.simple_type.SimpleType.admits.Goals as goal

pub returns : goal.returns
returns c =
    c.admit_values.ensures ∙ ap (list_all (λ (f : Bor Facets). admits_values c.args.self.now.variety f.now c.args.values.now)) c.as_slice.ensures.value
    ∙ sym (list_all-map (λ (f : Facets). admits_values c.args.self.now.variety f c.args.values.now) (λ (f : Bor Facets). f.now) c.args.self.now.facets.items)
