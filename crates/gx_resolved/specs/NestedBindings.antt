-- How nested bindings are kept.
use Rattle.std.specs.Prelude.{◌≡◌, Bool, List, [], ◌∷◌, Option, map}
use Rattle.std.specs.declared.hash.FoldHasher.{FoldHasher}
use Rattle.std.specs.declared.hash.BuildHasherDefault.{BuildHasherDefault}
use Rattle.indexmap.specs.IndexMap.{IndexMap, get}
use Rattle.gx_resolved.specs.declared.nested_map.Binding.{Binding}
use Rattle.gx_resolved.specs.NestedMap.{innermost_value, flattened}

abbrev pub pairs : {K V : Type 0} → List (Binding K V) → List (K × V)
pairs bindings = map (λ b. (b.key, b.value)) bindings

-- each binding keeps what it hides
abbrev pub HidesRightly : {K V : Type 0} → (K → K → Bool) → List (Binding K V) → Type 0
HidesRightly eq [] = Unit {0}
HidesRightly eq (binding ∷ outer) = (binding.hidden ≡ innermost_value eq (pairs outer) binding.key) × HidesRightly eq outer

abbrev pub Index : Type 0 → Type 0 → Type 0
Index K V = IndexMap K (Option V) (BuildHasherDefault FoldHasher)

-- the index has the innermost value of each key
pub record IsIndexOf {K V : Type 0} (eq : K → K → Bool) (index : Index K V) (bindings : List (Binding K V)) : Type 0 where
  pub found : (key : K) → flattened (get eq index key) ≡ innermost_value eq (pairs bindings) key
  pub hidden : HidesRightly eq bindings
