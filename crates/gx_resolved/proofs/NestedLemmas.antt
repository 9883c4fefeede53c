-- An index of nested bindings stays one where a binding is added or taken away.
use Rattle.std.proofs.Common.{◌≡◌, Bool, true, false, cond, List, [], ◌∷◌, Option, Some, None, refl, ◌∙◌, ap, subst, if◌then◌else◌}
use Rattle.std.specs.Cmp.{IsEquivalence}
use Rattle.indexmap.specs.IndexMap.{get, Updates}
use Rattle.gx_resolved.specs.declared.nested_map.Binding.{Binding}
use Rattle.std.specs.Prelude.{MatchOption}
use Rattle.gx_base.specs.Stacked.{first}
use Rattle.gx_resolved.specs.NestedMap.{innermost_value, flattened}
use Rattle.gx_resolved.specs.NestedBindings.{pairs, Index, IsIndexOf}

module _ {K V : Type 0} (eq : K → K → Bool) where
  -- equal keys have one value
  pub equal_keys : IsEquivalence eq → (bindings : List (K × V)) (k q : K) → eq k q ≡ true → innermost_value eq bindings k ≡ innermost_value eq bindings q
  equal_keys laws [] k q e = refl
  equal_keys laws (b ∷ outer) k q e =
      let same : eq b.0 k ≡ eq b.0 q = laws.symm b.0 k ∙ laws.congr k q b.0 e ∙ laws.symm q b.0 in
      ap (λ (c : Bool). if c then Some b.1 else innermost_value eq outer k) same
      ∙ ap (λ (o : Option V). if eq b.0 q then Some b.1 else o) (equal_keys laws outer k q e)

  pub is_bound : (index new : Index K V) (bindings : List (Binding K V)) (b : Binding K V) → IsIndexOf eq index bindings
      → b.hidden ≡ innermost_value eq (pairs bindings) b.key → Updates eq index new b.key (Some (Some b.value)) → IsIndexOf eq new (b ∷ bindings)
  is_bound index new bindings b indexed hidden updates = record {
    found = λ q. ap flattened (updates.0 q) ∙ by q (eq b.key q);
    hidden = (hidden, indexed.hidden);
  }
    where
      by : (q : K) (c : Bool) → flattened (cond c (Some (Some b.value)) (get eq index q)) ≡ (if c then Some b.value else innermost_value eq (pairs bindings) q)
      by q true = refl
      by q false = indexed.found q

  pub is_unbound : IsEquivalence eq → (index new : Index K V) (outer : List (Binding K V)) (b : Binding K V) → IsIndexOf eq index (b ∷ outer)
      → Updates eq index new b.key (Some b.hidden) → IsIndexOf eq new outer
  is_unbound laws index new outer b indexed updates = record {
    found = λ q. ap flattened (updates.0 q) ∙ by q (eq b.key q) refl;
    hidden = indexed.hidden.1;
  }
    where
      by : (q : K) (c : Bool) → eq b.key q ≡ c → flattened (cond c (Some b.hidden) (get eq index q)) ≡ innermost_value eq (pairs outer) q
      by q true e = indexed.hidden.0 ∙ equal_keys laws (pairs outer) b.key q e
      by q false e = indexed.found q ∙ ap (λ (c : Bool). if c then Some b.value else innermost_value eq (pairs outer) q) e

  -- with the binding on top, which is popped
  pub is_popped : IsEquivalence eq → (index new : Index K V) (all outer : List (Binding K V)) (top : Binding K V) (popped : Option (Binding K V)) (key : K) (hidden : Option V) → IsIndexOf eq index all
      → Some top ≡ first all → MatchOption popped ((all ≡ []) × (outer ≡ [])) (λ b. all ≡ b ∷ outer) → key ≡ top.key → hidden ≡ top.hidden → Updates eq index new key (Some hidden) → IsIndexOf eq new outer
  is_popped laws index new [] outer top popped key hidden indexed there taken k h updates = absurd (cc)
  is_popped laws index new (b ∷ bs) outer top None key hidden indexed there taken k h updates = absurd (cc)
  is_popped laws index new (b ∷ bs) outer top (Some item) key hidden indexed there taken k h updates =
      let same : b ≡ top = cc in
      let rest : bs ≡ outer = cc in
      let whole : IsIndexOf eq index (top ∷ outer) = subst (λ (l : List (Binding K V)). IsIndexOf eq index l) (λ i. same i ∷ rest i) indexed in
      is_unbound laws index new outer top whole (subst (λ (x : K × Option V). Updates eq index new x.0 (Some x.1)) (λ i. (k i, h i)) updates)
