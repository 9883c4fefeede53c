-- The tests of the static rules are inclusion.
use Rattle.std.proofs.Common.{◌≡◌, ◌≤◌, Bool, true, ◌&&◌, List, [], ◌∷◌, inl, inr, length, refl, ap, arith}
use Rattle.std.proofs.lemmas.Bool.{and_from, and_parts, cases_lt, le-leb, leb-true}
use Rattle.gx_types.specs.declared.item_type.ItemType.{ItemType}
use Rattle.gx_types.specs.declared.shape.Shape.{Shape}
use Rattle.gx_types.specs.SchemaSet.{SchemaSet}
use Rattle.gx_types.specs.SchemaInvariant.{HoldsOfEach}
use Rattle.gx_types.specs.Derivation.{bases_of}
use Rattle.gx_types.specs.Grounded.{Grounded}
use Rattle.gx_types.specs.Occurrence.{occurrence_of}
use Rattle.gx_types.specs.SequenceType.{SequenceType, never, nothing, item, both, either, optional, star, plus}
use Rattle.gx_types.specs.ItemTakes.{ItemTakes}
use Rattle.gx_types.specs.Prime.{items_of}
use Rattle.gx_types.specs.Takes.{Takes, EachShape, SomeItemTakes}
use Rattle.gx_types.proofs.PublicLaws.{occurrence_bounds_length, items_take_each_shape}
use Rattle.gx_type_laws.proofs.Items.{both_hold}
use Rattle.gx_include_letters.specs.WellFormed.{IsWellFormedShape}
use Rattle.gx_static.specs.declared.comparison.Family.TheVariants as families
use Rattle.gx_static.specs.Rule.{all_items, is_at_most_one, is_at_least_one}
use Rattle.gx_static.specs.NormalTypes.{IsOfKnownType, IsMadeOfItems, IsNormalType}
use Rattle.gx_static.specs.Demands.{Demand, of_type, of_family, of_atomic, of_any, meets_demand, demanded_type, NamesAtomicTypes, IsIncludedIfMet, IsMetIfIncluded, MetDemandsAreInclusion, DemandsAreInclusion}
use Rattle.gx_static.proofs.SomeLists.{two_shapes, empty_taken, each_passes}
use Rattle.gx_static.proofs.DemandLemmas.{IsDemanded, type_demanded, family_demanded, taken_is_demanded, demand_is_met}

-- ---- item types of a type

kinds_pass : (test : ItemType → Bool) (t : SequenceType) → all_items test t ≡ true → HoldsOfEach (λ kind. test kind ≡ true) (items_of t)
kinds_pass test never e = tt
kinds_pass test nothing e = tt
kinds_pass test (item kind) e = (e, tt)
kinds_pass test (both a b) e =
    let p = and_parts (all_items test a) (all_items test b) e in both_hold (λ kind. test kind ≡ true) (items_of a) (items_of b) (kinds_pass test a p.0) (kinds_pass test b p.1)
kinds_pass test (either a b) e =
    let p = and_parts (all_items test a) (all_items test b) e in both_hold (λ kind. test kind ≡ true) (items_of a) (items_of b) (kinds_pass test a p.0) (kinds_pass test b p.1)
kinds_pass test (optional a) e = kinds_pass test a e
kinds_pass test (star a) e = kinds_pass test a e
kinds_pass test (plus a) e = kinds_pass test a e

kinds_known : (s : SchemaSet) (t : SequenceType) → IsMadeOfItems s t → HoldsOfEach (IsOfKnownType s) (items_of t)
kinds_known s never m = absurd m
kinds_known s nothing m = absurd m
kinds_known s (item kind) m = (m, tt)
kinds_known s (both a b) m = both_hold (IsOfKnownType s) (items_of a) (items_of b) (kinds_known s a m.0) (kinds_known s b m.1)
kinds_known s (either a b) m = both_hold (IsOfKnownType s) (items_of a) (items_of b) (kinds_known s a m.0) (kinds_known s b m.1)
kinds_known s (optional a) m = kinds_known s a m
kinds_known s (star a) m = kinds_known s a m
kinds_known s (plus a) m = kinds_known s a m

pub normal_kinds : (s : SchemaSet) (t : SequenceType) → IsNormalType s t → HoldsOfEach (IsOfKnownType s) (items_of t)
normal_kinds s never n = tt
normal_kinds s nothing n = tt
normal_kinds s (item kind) n = kinds_known s (item kind) n
normal_kinds s (both a b) n = kinds_known s (both a b) n
normal_kinds s (either a b) n = kinds_known s (either a b) n
normal_kinds s (optional a) n = kinds_known s (optional a) n
normal_kinds s (star a) n = kinds_known s (star a) n
normal_kinds s (plus a) n = kinds_known s (plus a) n

-- a fact of a shape that an item type of a list takes
of_some : (s : SchemaSet) (P Q : ItemType → Type 0) (Fact : Shape → Type 0) (kinds : List ItemType) (shape : Shape) → ((kind : ItemType) → P kind → Q kind → ItemTakes s kind shape → Fact shape)
    → HoldsOfEach P kinds → HoldsOfEach Q kinds → SomeItemTakes s kinds shape → Fact shape
of_some s P Q Fact [] shape f p q h = absurd h
of_some s P Q Fact (kind ∷ kinds) shape f p q (inl h) = f kind p.0 q.0 h
of_some s P Q Fact (kind ∷ kinds) shape f p q (inr h) = of_some s P Q Fact kinds shape f p.1 q.1 h

each_shape : (P Q : Shape → Type 0) (list : List Shape) → ((shape : Shape) → P shape → Q shape) → EachShape P list → EachShape Q list
each_shape P Q [] f h = tt
each_shape P Q (shape ∷ list) f h = (f shape h.0, each_shape P Q list f h.1)

-- a fact of each shape of a list that a type takes, whose item types pass a test and have a property
pub shapes_of : (s : SchemaSet) (test : ItemType → Bool) (P : ItemType → Type 0) (Fact : Shape → Type 0) (t : SequenceType) (list : List Shape)
    → ((kind : ItemType) (shape : Shape) → P kind → test kind ≡ true → ItemTakes s kind shape → Fact shape) → HoldsOfEach P (items_of t) → all_items test t ≡ true → Takes s t list → EachShape Fact list
shapes_of s test P Fact t list f p e h =
    each_shape (SomeItemTakes s (items_of t)) Fact list
    (λ shape k. of_some s P (λ kind. test kind ≡ true) Fact (items_of t) shape (λ kind known passes takes. f kind shape known passes takes) p (kinds_pass test t e) k)
    (items_take_each_shape s t list h)

pub each_kind : (P : ItemType → Type 0) (kinds : List ItemType) → ((kind : ItemType) → P kind) → HoldsOfEach P kinds
each_kind P [] f = tt
each_kind P (kind ∷ kinds) f = (f kind, each_kind P kinds f)

-- ---- the demanded type

-- it takes each shape that its item types take
demanded_takes : (s : SchemaSet) (demand : Demand) (shape : Shape) → IsDemanded s demand shape → Takes s (demanded_type demand) (shape ∷ [])
demanded_takes s (of_type b) shape (inl h) = (shape, refl, h)
demanded_takes s (of_type b) shape (inr h) = absurd h
demanded_takes s (of_family families.Number) shape (inl h) = (shape, refl, h)
demanded_takes s (of_family families.Number) shape (inr h) = absurd h
demanded_takes s (of_family families.Text) shape (inl h) = inl (shape, refl, h)
demanded_takes s (of_family families.Text) shape (inr (inl h)) = inr (shape, refl, h)
demanded_takes s (of_family families.Text) shape (inr (inr h)) = absurd h
demanded_takes s (of_family families.Truth) shape (inl h) = (shape, refl, h)
demanded_takes s (of_family families.Truth) shape (inr h) = absurd h
demanded_takes s of_atomic shape (inl h) = (shape, refl, h)
demanded_takes s of_atomic shape (inr h) = absurd h
demanded_takes s of_any shape (inl h) = inl (inl (inl (inl (shape, refl, h))))
demanded_takes s of_any shape (inr (inl h)) = inl (inl (inl (inr (shape, refl, h))))
demanded_takes s of_any shape (inr (inr (inl h))) = inl (inl (inr (shape, refl, h)))
demanded_takes s of_any shape (inr (inr (inr (inl h)))) = inl (inr (shape, refl, h))
demanded_takes s of_any shape (inr (inr (inr (inr (inl h))))) = inr (shape, refl, h)
demanded_takes s of_any shape (inr (inr (inr (inr (inr h))))) = absurd h

-- it has one item
abbrev HasOne : SequenceType → Type 0
HasOne t = ((occurrence_of t).least ≡ 1) × ((occurrence_of t).greatest ≡ 1)

demanded_is_one : (demand : Demand) → HasOne (demanded_type demand)
demanded_is_one (of_type b) = (refl, refl)
demanded_is_one (of_family families.Number) = (refl, refl)
demanded_is_one (of_family families.Text) = (refl, refl)
demanded_is_one (of_family families.Truth) = (refl, refl)
demanded_is_one of_atomic = (refl, refl)
demanded_is_one of_any = (refl, refl)

-- ---- a type that meets_demand a demand

pub each_starred : (s : SchemaSet) (u : SequenceType) (list : List Shape) → EachShape (λ shape. Takes s u (shape ∷ [])) list → Takes s (star u) list
each_starred s u [] h = ([], refl, tt)
each_starred s u (shape ∷ list) h = let r = each_starred s u list h.1 in ((shape ∷ []) ∷ r.0, ap (λ (xs : List Shape). shape ∷ xs) r.1, (h.0, r.2))

pub short_taken : (s : SchemaSet) (u : SequenceType) (list : List Shape) → length list ≤ 1 → EachShape (λ shape. Takes s u (shape ∷ [])) list → Takes s (optional u) list
short_taken s u [] n h = inl refl
short_taken s u (shape ∷ []) n h = inr h.0
short_taken s u (shape ∷ other ∷ list) n h = absurd (omega (arith, n))

single_taken : (s : SchemaSet) (u : SequenceType) (list : List Shape) → 1 ≤ length list → length list ≤ 1 → EachShape (λ shape. Takes s u (shape ∷ [])) list → Takes s u list
single_taken s u [] l n h = absurd (omega (arith, l))
single_taken s u (shape ∷ []) l n h = h.0
single_taken s u (shape ∷ other ∷ list) l n h = absurd (omega (arith, n))

pub no_more_than_one : (s : SchemaSet) (t : SequenceType) (list : List Shape) → is_at_most_one t ≡ true → Takes s t list → length list ≤ 1
no_more_than_one s t list e h =
    let g = leb-true (occurrence_of t).greatest 1 e in
    let most = (occurrence_bounds_length s t list h).greatest (omega (arith, g)) in
    omega (arith, g, most)

no_fewer_than_one : (s : SchemaSet) (t : SequenceType) (list : List Shape) → is_at_least_one t ≡ true → Takes s t list → 1 ≤ length list
no_fewer_than_one s t list e h =
    let g = leb-true 1 (occurrence_of t).least e in omega (arith, g, (occurrence_bounds_length s t list h).least)

included_if_met : (s : SchemaSet) (demand : Demand) (t : SequenceType) (P : ItemType → Type 0)
    → ((kind : ItemType) (shape : Shape) → P kind → meets_demand s demand kind ≡ true → ItemTakes s kind shape → IsDemanded s demand shape) → HoldsOfEach P (items_of t) → IsIncludedIfMet s demand t
included_if_met s demand t P f p =
    let u : SequenceType = demanded_type demand in
    let each : (list : List Shape) → all_items (meets_demand s demand) t ≡ true → Takes s t list → EachShape (λ shape. Takes s u (shape ∷ [])) list =
    λ list e h. shapes_of s (meets_demand s demand) P (λ shape. Takes s u (shape ∷ [])) t list (λ kind shape known passes takes. demanded_takes s demand shape (f kind shape known passes takes)) p e h in
    record {
      any_number = λ e list w h. each_starred s u list (each list e h);
      at_most_one = λ e list w h.
          let q = and_parts (is_at_most_one t) (all_items (meets_demand s demand) t) e in
          short_taken s u list (no_more_than_one s t list q.0 h) (each list q.1 h);
      one = λ e list w h.
          let q = and_parts (is_at_least_one t && is_at_most_one t) (all_items (meets_demand s demand) t) e in
          let o = and_parts (is_at_least_one t) (is_at_most_one t) q.0 in
          single_taken s u list (no_fewer_than_one s t list o.0 h) (no_more_than_one s t list o.1 h) (each list q.1 h);
    }

named_demanded : (s : SchemaSet) (demand : Demand) (kind : ItemType) (shape : Shape) → NamesAtomicTypes demand → meets_demand s demand kind ≡ true → ItemTakes s kind shape → IsDemanded s demand shape
named_demanded s (of_type b) kind shape n e h = type_demanded s b kind shape e h
named_demanded s (of_family f) kind shape n e h = family_demanded s f kind shape e h
named_demanded s of_atomic kind shape n e h = absurd n
named_demanded s of_any kind shape n e h = absurd n

pub met_demands_are_inclusion : MetDemandsAreInclusion
met_demands_are_inclusion s demand t n =
    included_if_met s demand t (λ _. Unit {0}) (λ kind shape _ e h. named_demanded s demand kind shape n e h) (each_kind (λ _. Unit {0}) (items_of t) (λ _. tt))

-- ---- a type that is included in the demanded one

-- how many shapes the lists have that a type takes
at_most_if_made : (s : SchemaSet) (t : SequenceType) → IsMadeOfItems s t → ((list : List Shape) → EachShape (IsWellFormedShape s) list → Takes s t list → length list ≤ 1) → is_at_most_one t ≡ true
at_most_if_made s t m f =
    elim (cases_lt 1 (occurrence_of t).greatest) as (λ _. is_at_most_one t ≡ true) [
      | inl h ↦ let l = two_shapes s t m h in absurd (omega (arith, f l.list l.well_formed l.taken, l.long))
      | inr h ↦ le-leb (occurrence_of t).greatest 1 h
    ]

at_most_if : (s : SchemaSet) (t : SequenceType) → IsNormalType s t → ((list : List Shape) → EachShape (IsWellFormedShape s) list → Takes s t list → length list ≤ 1) → is_at_most_one t ≡ true
at_most_if s never n f = refl
at_most_if s nothing n f = refl
at_most_if s (item kind) n f = refl
at_most_if s (both a b) n f = at_most_if_made s (both a b) n f
at_most_if s (either a b) n f = at_most_if_made s (either a b) n f
at_most_if s (optional a) n f = at_most_if_made s (optional a) n f
at_most_if s (star a) n f = at_most_if_made s (star a) n f
at_most_if s (plus a) n f = at_most_if_made s (plus a) n f

at_least_if : (s : SchemaSet) (t : SequenceType) → ((list : List Shape) → EachShape (IsWellFormedShape s) list → Takes s t list → 1 ≤ length list) → is_at_least_one t ≡ true
at_least_if s t f =
    elim (cases_lt (occurrence_of t).least 1) as (λ _. is_at_least_one t ≡ true) [
      | inl h ↦ absurd (omega (arith, f [] tt (empty_taken s t h)))
      | inr h ↦ le-leb 1 (occurrence_of t).least h
    ]

passes_if : (s : SchemaSet) (demand : Demand) (t : SequenceType) → Grounded (bases_of s) → IsNormalType s t
    → ((list : List Shape) → EachShape (IsWellFormedShape s) list → Takes s t list → EachShape (IsDemanded s demand) list) → all_items (meets_demand s demand) t ≡ true
passes_if s demand never g n f = refl
passes_if s demand nothing g n f = refl
passes_if s demand (item kind) g n f = each_passes s (meets_demand s demand) (IsDemanded s demand) (item kind) (λ k known h. demand_is_met s demand k g known h) n f
passes_if s demand (both a b) g n f = each_passes s (meets_demand s demand) (IsDemanded s demand) (both a b) (λ k known h. demand_is_met s demand k g known h) n f
passes_if s demand (either a b) g n f = each_passes s (meets_demand s demand) (IsDemanded s demand) (either a b) (λ k known h. demand_is_met s demand k g known h) n f
passes_if s demand (optional a) g n f = each_passes s (meets_demand s demand) (IsDemanded s demand) (optional a) (λ k known h. demand_is_met s demand k g known h) n f
passes_if s demand (star a) g n f = each_passes s (meets_demand s demand) (IsDemanded s demand) (star a) (λ k known h. demand_is_met s demand k g known h) n f
passes_if s demand (plus a) g n f = each_passes s (meets_demand s demand) (IsDemanded s demand) (plus a) (λ k known h. demand_is_met s demand k g known h) n f

short_optional : (s : SchemaSet) (u : SequenceType) (list : List Shape) → HasOne u → Takes s (optional u) list → length list ≤ 1
short_optional s u list o h = let w = occurrence_bounds_length s (optional u) list h in let e = o.1 in omega (arith, w.greatest (omega (arith, e)), e)

single_list : (s : SchemaSet) (u : SequenceType) (list : List Shape) → HasOne u → Takes s u list → (1 ≤ length list) × (length list ≤ 1)
single_list s u list o h =
    let w = occurrence_bounds_length s u list h in
    let l = o.0 in
    let e = o.1 in
    (omega (arith, w.least, l), omega (arith, w.greatest (omega (arith, e)), e))

met_if_included : (s : SchemaSet) (demand : Demand) (t : SequenceType) → Grounded (bases_of s) → IsNormalType s t → IsMetIfIncluded s demand t
met_if_included s demand t g n =
    let u : SequenceType = demanded_type demand in
    let one : HasOne u = demanded_is_one demand in
    record {
      any_number = λ i. passes_if s demand t g n (λ list w h. items_take_each_shape s (star u) list (i list w h));
      at_most_one = λ i.
          and_from (is_at_most_one t) (all_items (meets_demand s demand) t)
          (at_most_if s t n (λ list w h. short_optional s u list one (i list w h)))
          (passes_if s demand t g n (λ list w h. items_take_each_shape s (optional u) list (i list w h)));
      one = λ i.
          and_from (is_at_least_one t && is_at_most_one t) (all_items (meets_demand s demand) t)
          (and_from (is_at_least_one t) (is_at_most_one t)
          (at_least_if s t (λ list w h. (single_list s u list one (i list w h)).0))
          (at_most_if s t n (λ list w h. (single_list s u list one (i list w h)).1)))
          (passes_if s demand t g n (λ list w h. items_take_each_shape s u list (i list w h)));
    }

pub demands_are_inclusion : DemandsAreInclusion
demands_are_inclusion s demand t g n = (
  included_if_met s demand t (IsOfKnownType s) (λ kind shape known e h. taken_is_demanded s demand kind shape g known e h) (normal_kinds s t n),
  met_if_included s demand t g n,
)
