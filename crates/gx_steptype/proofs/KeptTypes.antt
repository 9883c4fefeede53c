-- Tables of what stands for types.
use Rattle.std.proofs.Common.{◌≡◌, Bool, true, false, cond, Some, IfSome, refl, sym, ◌∙◌, subst}
use Rattle.indexmap.specs.IndexMap.{IndexMap, get}
use Rattle.gx_base.specs.declared.type_name.TypeName.{TypeName}
use Rattle.gx_types.specs.SameItemType.{same_type_name}
use Rattle.gx_types.specs.TypeIndex.{equal_kinds}
use Rattle.gx_types.proofs.TypeIndexes.{equal_kinds_are}
use Rattle.gx_steptype.specs.KeptSteps.{IsTableOf}

-- one type more, where the same stands for equal types
module _ {X S : Type 0} (of : TypeName → X) where
  pub one_more_kept : ((t u : TypeName) → same_type_name t u ≡ true → of t ≡ of u) → (old new : IndexMap TypeName X S) (kind : TypeName) (x : X) → x ≡ of kind → IsTableOf of old
      → ((other : TypeName) → get equal_kinds new other ≡ cond (equal_kinds kind other) (Some x) (get equal_kinds old other)) → IsTableOf of new
  one_more_kept same old new kind x e kept updates other =
      subst (λ o. IfSome o (λ u. u ≡ of other)) (sym (updates other)) (by (equal_kinds kind other) refl)
    where
      by : (b : Bool) → equal_kinds kind other ≡ b → IfSome (cond b (Some x) (get equal_kinds old other)) (λ u. u ≡ of other)
      by true f = e ∙ same kind other (sym (equal_kinds_are kind other) ∙ f)
      by false f = kept other
