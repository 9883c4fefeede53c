-- What bindings with an index stand for, as the code keeps them.
use Rattle.std.specs.Prelude.{◌≡◌, ℕ, List, [], ◌∷◌, ◌++◌, map}
use Rattle.std.specs.BTreeMap.{get}
use Rattle.gx_base.specs.Text.{text_cmp}
use Rattle.gx_tree.specs.Binding.{Binding, bound_to}
use Rattle.gx_namespaces.specs.declared.bindings.Bound.{Bound}
use Rattle.gx_namespaces.specs.declared.bindings.Bindings.TheInside.{Inside}

abbrev pub binding_kept : Bound → Binding
binding_kept b = (b.prefix, b.uri)

abbrev pub bindings_kept : Inside → List Binding
bindings_kept b = map binding_kept b.all.items

-- each binding has what those before it give its prefix
abbrev pub HideWhatStood : List Binding → List Bound → Type 0
HideWhatStood before [] = Unit {0}
HideWhatStood before (b ∷ bs) = (b.hidden ≡ bound_to before b.prefix) × HideWhatStood (before ++ (binding_kept b ∷ [])) bs

-- the index has what the bindings give each prefix
pub record HasIndex (b : Inside) : Type 0 where
  pub last : (prefix : List ℕ) → get text_cmp b.last prefix ≡ bound_to (bindings_kept b) prefix
  pub hidden : HideWhatStood [] b.all.items
