-- Arguments that are there, as parameters ask for them, stay where the forest grows.
use Rattle.std.proofs.Common.{◌≡◌, not, ◌&&◌, List, [], ◌∷◌, ◌++◌, map, refl, ap}
use Rattle.std.specs.Prelude.{option_map}
use Rattle.gx_base.specs.declared.type_name.TypeName.{TypeName}
use Rattle.gx_base.specs.declared.type_name.TypeName.TheVariants.{Builtin}
use Rattle.gx_facets.specs.declared.Atomic.{Atomic}
use Rattle.gx_funcs.specs.declared.function.Conversion.{Conversion}
use Rattle.gx_funcs.specs.declared.function.Conversion.TheVariants.{Nothing, Data, DataAndCast}
use Rattle.gx_funcs.specs.declared.function.Parameter.{Parameter}
use Rattle.gx_funcs.specs.Function.{conversion_of}
use Rattle.gx_types.specs.SchemaSet.{SchemaSet}
use Rattle.gx_atomic.specs.Cast.{cast_of}
use Rattle.gx_model.specs.Atomization.{atomized}
use Rattle.gx_model.specs.Forest.{Forest}
use Rattle.gx_model.specs.Growth.{Extends}
use Rattle.gx_model.specs.Item.{Item, atom, node, Items}
use Rattle.gx_model.specs.OrderLaws.{Every}
use Rattle.gx_core.specs.Arguments.{argument_by, arguments_by, argument_values, all_argument_values}
use Rattle.gx_core.specs.Calling.{text_of_value, argument_texts, texts_behind, all_argument_texts}
use Rattle.gx_core.specs.Casting.{cast_outcome}
use Rattle.gx_core.specs.Comparing.{atoms_among}
use Rattle.gx_core.specs.Converting.{is_untyped, is_any_atomic_type, item_converted, items_converted}
use Rattle.gx_core.specs.Outcome.{gives, after, given}
use Rattle.gx_growth_laws.specs.Steady.{IsThere, AreThere}
use Rattle.gx_growth_laws.proofs.ListFacts.{every_joined}
use Rattle.gx_growth_laws.proofs.StayingItems.{same_atomized}
use Rattle.gx_growth_laws.proofs.StayingOperators.{ItemsStay, stays_cast_outcome, stays_data}
use Rattle.gx_growth_laws.proofs.StayingOutcomes.{Stays, stays_after, stays_given, stays_if}

-- values that are all there
abbrev pub AllThere : Forest → List Items → Type 0
AllThere forest values = Every (AreThere forest) values

-- ---- conversions

module _ (before now : Forest) where
  stays_converted : (schemas : SchemaSet) (kind : TypeName) (x : Item)
      → ItemsStay before now (item_converted schemas kind x before) (item_converted schemas kind x now)
  stays_converted schemas kind (atom a) =
      stays_if before now (AreThere before) (λ forest. is_untyped a.value && not (is_any_atomic_type kind))
      (λ forest. cast_outcome (cast_of schemas a kind) forest) (λ forest. gives (atom a ∷ []) forest) refl
      (stays_cast_outcome before now (cast_of schemas a kind)) (refl, (tt, tt), refl)
  stays_converted schemas kind (node place) = tt

  stay_converted : (schemas : SchemaSet) (kind : TypeName) (xs : Items)
      → ItemsStay before now (items_converted schemas kind xs before) (items_converted schemas kind xs now)
  stay_converted schemas kind [] = (refl, tt, refl)
  stay_converted schemas kind (x ∷ xs) =
      stays_after before now (AreThere before) (AreThere before) (λ forest. item_converted schemas kind x forest)
      (λ ys left. after (items_converted schemas kind xs left) (λ zs last. gives (ys ++ zs) last)) (stays_converted schemas kind x)
      (λ ys there. stays_after before now (AreThere before) (AreThere before) (λ forest. items_converted schemas kind xs forest)
      (λ zs last. gives (ys ++ zs) last) (stay_converted schemas kind xs)
      (λ zs also. (refl, every_joined (IsThere before) ys zs there also, refl)))

module _ (before now : Forest) (e : Extends before now) (schemas : SchemaSet) where
  pub stays_argument : (conversion : Conversion) (xs : Items) → AreThere before xs
      → ItemsStay before now (argument_by conversion schemas xs before) (argument_by conversion schemas xs now)
  stays_argument Nothing xs h = (refl, h, refl)
  stays_argument Data xs h = stays_data before now e schemas xs h
  stays_argument (DataAndCast kind) xs h =
      stays_given before now (AreThere before) (λ forest. atomized schemas forest xs)
      (λ ys forest. items_converted schemas (Builtin kind) ys forest) (same_atomized before now e schemas xs h)
      (λ ys f. stay_converted before now schemas (Builtin kind) ys)

  pub stay_arguments : (parameters : List Parameter) (values : List Items) → AllThere before values
      → Stays (AllThere before) before now (arguments_by schemas parameters values before) (arguments_by schemas parameters values now)
  stay_arguments [] [] h = (refl, tt, refl)
  stay_arguments (parameter ∷ parameters) (xs ∷ values) h =
      stays_after before now (AreThere before) (AllThere before) (λ forest. argument_by (conversion_of parameter.takes) schemas xs forest)
      (λ ys left. after (arguments_by schemas parameters values left) (λ others last. gives (ys ∷ others) last))
      (stays_argument (conversion_of parameter.takes) xs h.0)
      (λ ys there. stays_after before now (AllThere before) (AllThere before) (λ forest. arguments_by schemas parameters values forest)
      (λ others last. gives (ys ∷ others) last) (stay_arguments parameters values h.1) (λ others also. (refl, (there, also), refl)))
  stay_arguments _ _ h = tt

  -- atomic values are there wherever they are
  stays_values : (conversion : Conversion) (xs : Items) → AreThere before xs
      → Stays (λ (values : List Atomic). Unit {0}) before now (argument_values conversion schemas xs before) (argument_values conversion schemas xs now)
  stays_values conversion xs h =
      stays_after before now (AreThere before) (λ (values : List Atomic). Unit {0}) (λ forest. argument_by conversion schemas xs forest)
      (λ ys left. given (atoms_among ys) (λ values. gives values left)) (stays_argument conversion xs h)
      (λ ys there. stays_given before now (λ (values : List Atomic). Unit {0}) (λ forest. atoms_among ys) (λ values forest. gives values forest) refl
      (λ values f. (refl, tt, refl)))

  pub stay_values : (parameters : List Parameter) (arguments : List Items) → AllThere before arguments
      → Stays (λ (values : List (List Atomic)). Unit {0}) before now (all_argument_values schemas parameters arguments before)
      (all_argument_values schemas parameters arguments now)
  stay_values [] [] h = (refl, tt, refl)
  stay_values (parameter ∷ parameters) (xs ∷ arguments) h =
      stays_after before now (λ (values : List Atomic). Unit {0}) (λ (values : List (List Atomic)). Unit {0})
      (λ forest. argument_values (conversion_of parameter.takes) schemas xs forest)
      (λ values left. after (all_argument_values schemas parameters arguments left) (λ others last. gives (values ∷ others) last))
      (stays_values (conversion_of parameter.takes) xs h.0)
      (λ values there. stays_after before now (λ (others : List (List Atomic)). Unit {0}) (λ (others : List (List Atomic)). Unit {0})
      (λ forest. all_argument_values schemas parameters arguments forest) (λ others last. gives (values ∷ others) last)
      (stay_values parameters arguments h.1) (λ others also. (refl, tt, refl)))
  stay_values _ _ h = tt

  -- ---- texts of typed values

  pub same_texts : (values : List Items) → AllThere before values → all_argument_texts schemas now values ≡ all_argument_texts schemas before values
  same_texts [] h = refl
  same_texts (xs ∷ values) h =
      let first : argument_texts schemas now xs ≡ argument_texts schemas before xs =
      ap (λ found. option_map (map text_of_value) found) (same_atomized before now e schemas xs h.0) in
      let rest = same_texts values h.1 in
      λ i. texts_behind (first i) (rest i)
