use Rattle.std.proofs.Common.{sym, ◌∙◌, ap}
use Rattle.std.specs.Borrow.{Bor}
use Rattle.std.specs.List.{list_all}
use Rattle.std.proofs.lemmas.List.Folds.{list_all-map}
use Rattle.gx_facets.specs.Admission.{admits_value}
use Rattle.gx_facets.specs.declared.restriction.Facets.{Facets}
use Rattle.gx_types.proofs.simple_type.AtomicType.admits.Goals as goal

pub returns : goal.returns
returns c =
    c.admit_value.ensures ∙ ap (list_all (λ (f : Bor Facets). admits_value f.now c.args.value.now)) c.as_slice.ensures.value
    ∙ sym (list_all-map (λ (f : Facets). admits_value f c.args.value.now) (λ (f : Bor Facets). f.now) c.args.self.now.facets.items)
