-- A tag that is being written.
use Rattle.std.specs.Prelude.{◌≡◌, ℕ, ◌+◌, ◌<◌, ◌≤◌, List, [], ◌∷◌, ◌++◌, length, map, true}
use Rattle.gx_base.specs.declared.name.Name.{Name}
use Rattle.gx_serial.specs.Binding.{Binding, is_prefix_among, numbered_prefix}
use Rattle.gx_serial.specs.Markup.{spelled_declarations}
use Rattle.gx_serial.specs.Marked.{Begun}

-- the prefixes of the names of a tag, and those that they have taken so far
pub record TagPrefixes : Type 0 where
  pub used : List (List ℕ)
  pub taken_bindings : List Binding

-- all of these
abbrev pub all_prefixes : TagPrefixes → List (List ℕ)
all_prefixes p = p.used ++ map (λ (b : Binding). b.0) p.taken_bindings

-- a tag so far
abbrev pub begun_of : TagPrefixes → List Binding → Begun
begun_of p scope = record { taken_bindings = p.taken_bindings; scope = scope }

-- a tag whose element's name alone has taken its prefix
abbrev pub begun_by_name : Name → List Binding → Begun
begun_by_name name scope = record { taken_bindings = (name.prefix, name.uri) ∷ []; scope = scope }

-- where the search for a free number may start: no number below is free, and no more are passed over than there are prefixes
pub record IsSearchStart (prefixes : List (List ℕ)) (number : ℕ) : Type 0 where
  pub at_least_one : 1 ≤ number
  pub last : number ≤ length prefixes + 1
  pub used : (k : ℕ) → 1 ≤ k → k < number → is_prefix_among prefixes (numbered_prefix k) ≡ true

-- the bindings in force grew by those whose declarations were written
abbrev pub Declares : List Binding → List Binding → List ℕ → List ℕ → Type 0
Declares before now written_before written_now =
    (added : List Binding) × (now ≡ before ++ added) × (written_now ≡ written_before ++ spelled_declarations added)

-- the same, where more was written behind the declarations
abbrev pub DeclaresThen : List Binding → List Binding → List ℕ → List ℕ → List ℕ → Type 0
DeclaresThen before now written_before written_now more =
    (declared : List ℕ) × Declares before now written_before declared × (written_now ≡ declared ++ more)
