use Rattle.std.proofs.Common.{List, sym, ◌∙◌, ap}
use Rattle.std.specs.List.{list_all}
use Rattle.gx_facets.specs.declared.Atomic.{Atomic}
use Rattle.gx_types.specs.SimpleValue.{admits_values, admitted_values}
use Rattle.gx_types.specs.SimpleView.{simple_view, facets_view}
use Rattle.gx_types.proofs.Admitted.{admitted, refused}
use Rattle.gx_types.proofs.simple_type.SimpleType.read.Goals as goal

pub returns-then-admits-clause-value : goal.returns-then-admits-clause-value
returns-then-admits-clause-value c =
    let variety = c.args.self.now.variety in
    let facets = facets_view c.args.self.now.facets in
    ap (admitted_values (simple_view c.args.self.now)) c.in_ok-values.ensures.value
    ∙ admitted (simple_view c.args.self.now) c.in_ok-values.values.items
    (ap (λ (values : List Atomic). list_all (λ f. admits_values variety f values) facets) (sym c.as_slice.ensures.value) ∙ sym c.admits.ensures ∙ c.if-admits.true)

pub returns-else-admits-clause-fault : goal.returns-else-admits-clause-fault
returns-else-admits-clause-fault c =
    let variety = c.args.self.now.variety in
    let facets = facets_view c.args.self.now.facets in
    ap (admitted_values (simple_view c.args.self.now)) c.in_ok-values.ensures.value
    ∙ refused (simple_view c.args.self.now) c.in_ok-values.values.items
    (ap (λ (values : List Atomic). list_all (λ f. admits_values variety f values) facets) (sym c.as_slice.ensures.value) ∙ sym c.admits.ensures ∙ c.if-admits.false)
