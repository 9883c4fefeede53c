-- The tests of item types over the store.
use Rattle.std.proofs.Common.{◌≡◌, ◌↔◌, ℕ, ◌≤◌, nat_eq, nat_le, Bool, true, false, ◌&&◌, length, Option, None, Some, refl, sym, ap, subst, arith}
use Rattle.std.proofs.lemmas.Bool.{le-leb, eq-eqb}
use Rattle.std.specs.List.{list_all}
use Rattle.std.specs.Bool.{IsTrue}
use Rattle.std.specs.Option.{IsSomeAnd}
use Rattle.gx_types.specs.declared.item_type.ItemType.{ItemType}
use Rattle.gx_types.specs.declared.shape.Shape.{Shape}
use Rattle.gx_types.specs.declared.sequence_type.TyNode.{TyNode}
use Rattle.gx_types.specs.declared.sequence_type.TyNode.TheVariants.{Never, Empty, Item, Seq, Alt, Optional, Star, Plus}
use Rattle.gx_types.specs.SequenceType.{SequenceType, never, item, both, either}
use Rattle.gx_types.specs.TypeView.{type_of}
use Rattle.gx_types.specs.SchemaSet.{SchemaSet}
use Rattle.gx_types.specs.Derivation.{bases_of}
use Rattle.gx_types.specs.Grounded.{Grounded}
use Rattle.gx_types.specs.ItemTakes.{ItemTakes}
use Rattle.gx_model.specs.Forest.{Forest}
use Rattle.gx_model.specs.Item.{Items}
use Rattle.gx_core.specs.Instances.{shape_matches, found_matches, item_matches, is_instance}
use Rattle.gx_core.proofs.InstanceLemmas.{derived_so, taken_so}

pub taken_is_found : (s : SchemaSet) → Grounded (bases_of s) → (kind : ItemType) (found : Option Shape) (answer : Bool) → (IsTrue answer ↔ IsSomeAnd found (ItemTakes s kind)) → answer ≡ found_matches s kind found
taken_is_found s g kind None true h = absurd (h.0 refl)
taken_is_found s g kind None false h = refl
taken_is_found s g kind (Some shape) true h = sym (taken_so s g kind shape (h.0 refl))
taken_is_found s g kind (Some shape) false h =
    elim (shape_matches s kind shape) as (λ (b : Bool). shape_matches s kind shape ≡ b → false ≡ b) [
      | true ↦ λ e. h.1 (derived_so s kind shape e)
      | false ↦ λ _. refl
    ] refl

-- so many items, and all match
pub few_match : (n m : ℕ) (all : Bool) → m ≡ n → n ≤ 1 → all ≡ (nat_le m 1 && all)
few_match n m all e h = sym (ap (λ (few : Bool). few && all) (le-leb m 1 (omega (arith, e, h))))

pub some_match : (n m : ℕ) (all : Bool) → m ≡ n → 1 ≤ n → all ≡ (nat_le 1 m && all)
some_match n m all e h = sym (ap (λ (some : Bool). some && all) (le-leb 1 m (omega (arith, e, h))))

one_matches : (n m : ℕ) (all : Bool) → m ≡ n → n ≡ 1 → all ≡ (nat_eq m 1 && all)
one_matches n m all e h = sym (ap (λ (one : Bool). one && all) (eq-eqb m 1 (omega (arith, e, h))))

-- a type without an indicator
pub other_matches : (s : SchemaSet) (forest : Forest) (node : TyNode) (t : SequenceType) (xs : Items) (n : ℕ) → (node ≡ Empty → ⊥) → ((part : _) → node ≡ Optional part → ⊥) → ((part : _) → node ≡ Star part → ⊥)
    → ((part : _) → node ≡ Plus part → ⊥) → type_of node ≡ t → length xs ≡ n → n ≡ 1 → list_all (item_matches s forest t) xs ≡ is_instance s forest t xs
other_matches s forest Never t xs n a b c d e h k =
    subst (λ (u : SequenceType). list_all (item_matches s forest u) xs ≡ is_instance s forest u xs) e (one_matches n (length xs) (list_all (item_matches s forest never) xs) h k)
other_matches s forest Empty t xs n a b c d e h k = absurd (a refl)
other_matches s forest (Item kind) t xs n a b c d e h k =
    subst (λ (u : SequenceType). list_all (item_matches s forest u) xs ≡ is_instance s forest u xs) e (one_matches n (length xs) (list_all (item_matches s forest (item kind.value)) xs) h k)
other_matches s forest (Seq first second) t xs n a b c d e h k =
    subst (λ (u : SequenceType). list_all (item_matches s forest u) xs ≡ is_instance s forest u xs) e (one_matches n (length xs) (list_all (item_matches s forest (both first.value second.value)) xs) h k)
other_matches s forest (Alt first second) t xs n a b c d e h k =
    subst (λ (u : SequenceType). list_all (item_matches s forest u) xs ≡ is_instance s forest u xs) e (one_matches n (length xs) (list_all (item_matches s forest (either first.value second.value)) xs) h k)
other_matches s forest (Optional part) t xs n a b c d e h k = absurd (b part refl)
other_matches s forest (Star part) t xs n a b c d e h k = absurd (c part refl)
other_matches s forest (Plus part) t xs n a b c d e h k = absurd (d part refl)
