use Rattle.std.proofs.Common.{sym, ◌∙◌, subst, Option, ℕ}
use Rattle.std.specs.Prelude.{IfSome}
use Rattle.gx_include_derivations.specs.Derivations.{IsNumberOf}
use Rattle.gx_include_derivations.proofs.Derived.{derived_as_base, derived_by_number}
use Rattle.gx_include_derivations.proofs.derivations.lead_from.Goals as goal

pub returns-in-Some : goal.returns-in-Some
returns-in-Some c =
    let s = c.args.schemas.now in
    let d = c.args.declared.now in
    derived_as_base s c.types-types.ensures.invariant c.requires.declared.0 d c.args.kind.now c.requires.declared.1 (sym c.eq.ensures ∙ c.if-eq.false)
    ∙ derived_by_number s c.args.kind.now d.base c.in-Some.base (subst (λ (o : Option ℕ). IfSome o (IsNumberOf s d.base)) c.in-Some.is c.requires.base)

pub returns-in-None : goal.returns-in-None
returns-in-None c =
    c.derives.ensures.test
    ∙ sym (derived_as_base c.args.schemas.now c.types-types.ensures.invariant c.requires.declared.0 c.args.declared.now c.args.kind.now c.requires.declared.1 (sym c.eq.ensures ∙ c.if-eq.false))
