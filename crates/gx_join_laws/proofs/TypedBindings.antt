-- The bindings of those variables that have types.
use Rattle.std.proofs.Common.{◌≡◌, ◌⊎◌, inl, inr, ℕ, Bool, true, false, [], ◌∷◌, Option, None, Some, nat_eq, refl, sym, ap, subst, ◌∙◌, if◌then◌else◌}
use Rattle.std.proofs.lemmas.Bool.{eqb-true, eq-eqb}
use Rattle.gx_types.specs.SchemaSet.{SchemaSet}
use Rattle.gx_types.specs.SequenceType.{SequenceType}
use Rattle.gx_model.specs.Forest.{Forest}
use Rattle.gx_model.specs.Item.{Items}
use Rattle.gx_model.specs.OrderLaws.{Every}
use Rattle.gx_core.specs.Bindings.{look_up, Types}
use Rattle.gx_core.specs.Meaning.{Bindings}
use Rattle.gx_core.specs.Soundness.{IsBoundTo, Fits}
use Rattle.gx_growth_laws.specs.Steady.{AreThere, BindingsAreThere}
use Rattle.gx_growth_laws.proofs.ListFacts.{every_so}
use Rattle.gx_growth_laws.proofs.PublicLaws.{values_of_types_are_there}
use Rattle.gx_join_laws.proofs.AlikeOperators.{IsBoundAlike}

abbrev pub with_value : ℕ → Option Items → Bindings → Bindings
with_value number None others = others
with_value number (Some value) others = (number, value) ∷ others

abbrev pub typed_bindings : Types → Bindings → Bindings
typed_bindings [] bindings = []
typed_bindings (b ∷ types) bindings = with_value b.0 (look_up bindings b.0) (typed_bindings types bindings)

-- they bind what the others bind
pub typed_alike : (types : Types) (bindings : Bindings) (number : ℕ) → IsBoundAlike (typed_bindings types bindings) bindings number
typed_alike [] bindings number = inl refl
typed_alike (b ∷ types) bindings number = by_found (look_up bindings b.0) refl (typed_alike types bindings number)
  where
    by_test : (value : Items) → look_up bindings b.0 ≡ Some value → (same : Bool) → nat_eq b.0 number ≡ same
        → IsBoundAlike (typed_bindings types bindings) bindings number
        → ((if same then Some value else look_up (typed_bindings types bindings) number) ≡ None)
        ⊎ ((if same then Some value else look_up (typed_bindings types bindings) number) ≡ look_up bindings number)
    by_test value e true f k = inr (sym e ∙ ap (λ n. look_up bindings n) (eqb-true b.0 number f))
    by_test value e false f k = k

    by_found : (found : Option Items) → look_up bindings b.0 ≡ found → IsBoundAlike (typed_bindings types bindings) bindings number
        → IsBoundAlike (with_value b.0 found (typed_bindings types bindings)) bindings number
    by_found None e k = k
    by_found (Some value) e k = by_test value e (nat_eq b.0 number) refl k

typed_found : (types : Types) (bindings : Bindings) (number : ℕ) (t : SequenceType) (value : Items) → look_up types number ≡ Some t
    → look_up bindings number ≡ Some value → look_up (typed_bindings types bindings) number ≡ Some value
typed_found [] bindings number t value found bound = absurd (cc)
typed_found (b ∷ types) bindings number t value found bound =
    by_test (nat_eq b.0 number) refl found (λ h. typed_found types bindings number t value h bound)
  where
    behind : (other : Option Items) → nat_eq b.0 number ≡ false → look_up (typed_bindings types bindings) number ≡ Some value
        → look_up (with_value b.0 other (typed_bindings types bindings)) number ≡ Some value
    behind None f k = k
    behind (Some w) f k = ap (λ (same : Bool). if same then Some w else look_up (typed_bindings types bindings) number) f ∙ k

    by_test : (same : Bool) → nat_eq b.0 number ≡ same → (if same then Some b.1 else look_up types number) ≡ Some t
        → (look_up types number ≡ Some t → look_up (typed_bindings types bindings) number ≡ Some value)
        → look_up (with_value b.0 (look_up bindings b.0) (typed_bindings types bindings)) number ≡ Some value
    by_test true f h rest =
        ap (λ (o : Option Items). look_up (with_value b.0 o (typed_bindings types bindings)) number) (ap (λ n. look_up bindings n) (eqb-true b.0 number f) ∙ bound)
        ∙ ap (λ (same : Bool). if same then Some value else look_up (typed_bindings types bindings) number) f
    by_test false f h rest = behind (look_up bindings b.0) f (rest h)

pub typed_fit : (s : SchemaSet) (forest : Forest) (types : Types) (bindings : Bindings) → Fits s forest types bindings
    → Fits s forest types (typed_bindings types bindings)
typed_fit s forest types bindings fits number t found =
    let b : IsBoundTo s forest bindings number t = fits number t found in
    record { value = b.value; bound = typed_found types bindings number t b.value found b.bound; belongs = b.belongs }

-- ---- their nodes are there

record HasType (types : Types) (number : ℕ) : Type 0 where
  t : SequenceType
  found : look_up types number ≡ Some t

has_type_behind : (b : ℕ × SequenceType) (types : Types) (number : ℕ) → HasType types number → HasType (b ∷ types) number
has_type_behind b types number h = by_test (nat_eq b.0 number) refl
  where
    by_test : (same : Bool) → nat_eq b.0 number ≡ same → HasType (b ∷ types) number
    by_test true f = record { t = b.1; found = ap (λ (same : Bool). if same then Some b.1 else look_up types number) f }
    by_test false f = record { t = h.t; found = ap (λ (same : Bool). if same then Some b.1 else look_up types number) f ∙ h.found }

have_types : (types : Types) → Every (λ b. HasType types b.0) types
have_types [] = tt
have_types (b ∷ types) = (
  record { t = b.1; found = ap (λ (same : Bool). if same then Some b.1 else look_up types b.0) (eq-eqb b.0 b.0 refl) },
  every_so (λ c. HasType types c.0) (λ c. HasType (b ∷ types) c.0) types (λ c h. has_type_behind b types c.0 h) (have_types types),
)

those_there : (s : SchemaSet) (forest : Forest) (all types : Types) (bindings : Bindings) → Fits s forest all bindings → Every (λ b. HasType all b.0) types
    → BindingsAreThere forest (typed_bindings types bindings)
those_there s forest all [] bindings fits h = tt
those_there s forest all (b ∷ types) bindings fits h = by_found (look_up bindings b.0) refl (those_there s forest all types bindings fits h.1)
  where
    by_found : (found : Option Items) → look_up bindings b.0 ≡ found → BindingsAreThere forest (typed_bindings types bindings)
        → BindingsAreThere forest (with_value b.0 found (typed_bindings types bindings))
    by_found None e k = k
    by_found (Some value) e k =
        let bound : IsBoundTo s forest bindings b.0 h.0.t = fits b.0 h.0.t h.0.found in
        let is : bound.value ≡ value = let f : look_up bindings b.0 ≡ Some bound.value = bound.bound in cc in
        (subst (AreThere forest) is (values_of_types_are_there s forest bound.value h.0.t bound.belongs), k)

pub typed_there : (s : SchemaSet) (forest : Forest) (types : Types) (bindings : Bindings) → Fits s forest types bindings
    → BindingsAreThere forest (typed_bindings types bindings)
typed_there s forest types bindings fits = those_there s forest types types bindings fits (have_types types)
