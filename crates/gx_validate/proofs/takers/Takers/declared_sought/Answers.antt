use Rattle.std.proofs.Common.{◌≡◌, Some, sym, ◌∙◌, ap}
use Rattle.gx_types.specs.SchemaSet.{declaration_of}
use Rattle.gx_validate.proofs.ModelsKept.{holders_with}
use Rattle.gx_validate.proofs.takers.Takers.declared_sought.Goals as goal

pub invariant_of-self-in_err-remember : goal.invariant_of-self-in_err-remember
invariant_of-self-in_err-remember c =
    let s = c.self.inside.schemas.now in
    let found : declaration_of s c.in_ok-clone.field-0 ≡ Some c.in-Some.declared.now = ap (declaration_of s) c.in_ok-clone.ensures.cases ∙ sym c.in-Some.ensures in
    (c.self.invariant.0, holders_with s c.self.inside.holders c.insert_full.new.self c.in_ok-clone.field-0 c.in-Some.declared c.self.invariant.1 found (λ other. c.in_ok-place.ensures.updates.0 other))

pub invariant_of-self-2 : goal.invariant_of-self-2
invariant_of-self-2 c =
    let s = c.self.inside.schemas.now in
    let found : declaration_of s c.in_ok-clone.field-0 ≡ Some c.in-Some.declared.now = ap (declaration_of s) c.in_ok-clone.ensures.cases ∙ sym c.in-Some.ensures in
    (c.self.invariant.0, holders_with s c.self.inside.holders c.insert_full.new.self c.in_ok-clone.field-0 c.in-Some.declared c.self.invariant.1 found (λ other. c.in_ok-place.ensures.updates.0 other))
