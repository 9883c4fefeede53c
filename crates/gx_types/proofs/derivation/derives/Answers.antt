use Rattle.std.proofs.Common.{sym, ◌∙◌, ap, subst, ◌↔◌, length, List}
use Rattle.std.specs.Bool.{IsTrue}
use Rattle.gx_types.specs.declared.declaration.Declared.{Declared}
use Rattle.gx_types.specs.Derivation.{bases_of, bases_among, LeadsTo}
use Rattle.gx_types.specs.Grounded.{EndsWithin}
use Rattle.gx_types.proofs.DerivationTest.{test_is_exact}
use Rattle.gx_types.proofs.SchemaLemmas.{as_many_bases}
use Rattle.gx_types.proofs.derivation.derives.Goals as goal

pub leads_to-requires : goal.leads_to-requires
leads_to-requires c =
    let types = c.declared_types-types.ensures.value in
    let count = as_many_bases c.args.schemas.now.types ∙ ap length (sym types) ∙ sym c.count.ensures in
    let ends = subst (λ n. EndsWithin (bases_of c.args.schemas.now) n c.args.t.now) count (c.declared_types-types.ensures.invariant.grounded.ends c.args.t.now) in
    subst (λ (ts : List Declared). EndsWithin (bases_among ts) c.count.result c.args.t.now) (sym types) ends

pub returns-clause-exact : goal.returns-clause-exact
returns-clause-exact c = subst (λ (ts : List Declared). IsTrue c.leads_to.result ↔ LeadsTo (bases_among ts) c.args.t.now c.args.u.now) c.declared_types-types.ensures.value c.leads_to.ensures

pub returns-clause-test : goal.returns-clause-test
returns-clause-test c =
    test_is_exact c.args.schemas.now c.args.t.now c.args.u.now c.leads_to.result c.declared_types-types.ensures.invariant.grounded
    (subst (λ (ts : List Declared). IsTrue c.leads_to.result ↔ LeadsTo (bases_among ts) c.args.t.now c.args.u.now) c.declared_types-types.ensures.value c.leads_to.ensures)
