-- The test of inclusion: a search that is long enough for all sets of positions there are.
use Rattle.std.specs.Prelude.{◌≡◌, ℕ, zero, suc, ◌+◌, Bool, true, ◌&&◌, ◌||◌, not, List, [], ◌∷◌, ◌++◌, map, length, ◌↔◌}
use Rattle.std.specs.List.{list_any, flat_map}
use Rattle.gx_base.specs.declared.name.Name.{Name}
use Rattle.gx_types.specs.declared.shape.Shape.{Shape}
use Rattle.gx_types.specs.SchemaSet.{SchemaSet}
use Rattle.gx_types.specs.Grounded.{Grounded}
use Rattle.gx_types.specs.SequenceType.{SequenceType}
use Rattle.gx_types.specs.TypeRules.{positions_of}
use Rattle.gx_types.specs.Derivation.{bases_of}
use Rattle.gx_include_letters.specs.WellFormed.{plain_types}
use Rattle.gx_include.specs.Inclusion.{IsIncluded}
use Rattle.gx_include_positions.specs.Step.{single, step_over, is_end}
use Rattle.gx_include_positions.specs.Test.{is_taken}
use Rattle.gx_include_positions.specs.Names.{with_names}
use Rattle.gx_include_letters.specs.Trials.{trial_shapes}

-- a state is bad, or a bad one follows within so many steps
abbrev pub leads_to_bad : {S : Type 0} → (is_bad : S → Bool) → (next : S → List S) → ℕ → S → Bool
leads_to_bad is_bad next zero state = is_bad state
leads_to_bad is_bad next (suc steps) state = is_bad state || list_any (leads_to_bad is_bad next steps) (next state)

-- the sets of positions of two types that a list of shapes leads to
abbrev pub BothSets : Type 0
BothSets = List Bool × List Bool

abbrev pub sets_behind : SchemaSet → (a b : SequenceType) → BothSets → Shape → BothSets
sets_behind schemas a b sets shape = (step_over a (is_taken schemas shape) sets.0, step_over b (is_taken schemas shape) sets.1)

-- a list may end on the left and not on the right
abbrev pub refutes : (a b : SequenceType) → BothSets → Bool
refutes a b sets = is_end a sets.0 && not (is_end b sets.1)

-- a name that is longer than all names of a list
abbrev pub longer_name : List Name → Name
longer_name names = record { uri = []; prefix = []; local = 120 ∷ flat_map (λ (name : Name). name.local) names }

-- shapes enough for two types
abbrev pub shapes_tried : SchemaSet → (a b : SequenceType) → List Shape
shapes_tried schemas a b =
    let names : List Name = with_names (with_names [] a) b in trial_shapes (plain_types schemas) (names ++ longer_name names ∷ [])

-- all lists of so many flags
abbrev pub flag_lists : ℕ → List (List Bool)
flag_lists zero = [] ∷ []
flag_lists (suc count) = flat_map (λ flags. (true ∷ flags) ∷ (not true ∷ flags) ∷ []) (flag_lists count)

abbrev pub start_sets : BothSets
start_sets = (single 0, single 0)

-- the sets at the start, and all that there may be behind a shape
abbrev pub all_sets : (a b : SequenceType) → List BothSets
all_sets a b = start_sets ∷ flat_map (λ left. map (λ right. let sets : BothSets = (left, right) in sets) (flag_lists (positions_of b + 1))) (flag_lists (positions_of a + 1))

-- a type is included in another one: no list of tried shapes leads to where it may end on the left and not on the right
unfoldable pub is_included : SchemaSet → (a b : SequenceType) → Bool
is_included schemas a b =
    not (leads_to_bad (refutes a b) (λ sets. map (sets_behind schemas a b sets) (shapes_tried schemas a b)) (suc (length (all_sets a b))) start_sets)

-- the test is exact
abbrev pub InclusionIsDecided : Type 0
InclusionIsDecided = (schemas : SchemaSet) (a b : SequenceType) → Grounded (bases_of schemas) → (is_included schemas a b ≡ true) ↔ IsIncluded schemas a b
