-- Equality of types is an equivalence.
use Rattle.std.proofs.Common.{◌≡◌, Bool, true, ◌&&◌, refl, sym, ◌∙◌, ap}
use Rattle.std.specs.Cmp.{IsEquivalence}
use Rattle.std.proofs.lemmas.Bool.{and_from, and_parts}
use Rattle.gx_types.specs.SameType.{same_type}
use Rattle.gx_types.specs.SequenceType.{SequenceType, never, nothing, item, both, either, optional, star, plus}
use Rattle.gx_types.specs.EqualNames.{same_tests, item_types_are_equivalent}

both_same : (a b c d : SequenceType) → same_type a b ≡ true → same_type c d ≡ true → same_type a b && same_type c d ≡ true
both_same a b c d h k = and_from (same_type a b) (same_type c d) h k

type_symm : (t u : SequenceType) → same_type t u ≡ true → same_type u t ≡ true
type_symm never never h = refl
type_symm nothing nothing h = refl
type_symm (item i) (item j) h = sym (item_types_are_equivalent.symm i j) ∙ h
type_symm (both a b) (both c d) h = let p = and_parts (same_type a c) (same_type b d) h in both_same c a d b (type_symm a c p.0) (type_symm b d p.1)
type_symm (either a b) (either c d) h = let p = and_parts (same_type a c) (same_type b d) h in both_same c a d b (type_symm a c p.0) (type_symm b d p.1)
type_symm (optional a) (optional b) h = type_symm a b h
type_symm (star a) (star b) h = type_symm a b h
type_symm (plus a) (plus b) h = type_symm a b h
type_symm _ _ h = absurd (cc)

-- equal types are equal to the same types
type_congr : (t u v : SequenceType) → same_type t u ≡ true → same_type t v ≡ same_type u v
type_congr never never v h = refl
type_congr nothing nothing v h = refl
type_congr (item i) (item j) (item l) h = item_types_are_equivalent.congr i j l h
type_congr (item i) (item j) _ h = refl
type_congr (both a b) (both c d) (both e f) h =
    let p = and_parts (same_type a c) (same_type b d) h in
    ap (λ (x : Bool). x && same_type b f) (type_congr a c e p.0) ∙ ap (λ (x : Bool). same_type c e && x) (type_congr b d f p.1)
type_congr (both a b) (both c d) _ h = refl
type_congr (either a b) (either c d) (either e f) h =
    let p = and_parts (same_type a c) (same_type b d) h in
    ap (λ (x : Bool). x && same_type b f) (type_congr a c e p.0) ∙ ap (λ (x : Bool). same_type c e && x) (type_congr b d f p.1)
type_congr (either a b) (either c d) _ h = refl
type_congr (optional a) (optional b) (optional c) h = type_congr a b c h
type_congr (optional a) (optional b) _ h = refl
type_congr (star a) (star b) (star c) h = type_congr a b c h
type_congr (star a) (star b) _ h = refl
type_congr (plus a) (plus b) (plus c) h = type_congr a b c h
type_congr (plus a) (plus b) _ h = refl
type_congr _ _ v h = absurd (cc)

type_itself : (t : SequenceType) → same_type t t ≡ true
type_itself never = refl
type_itself nothing = refl
type_itself (item i) = item_types_are_equivalent.refl i
type_itself (both a b) = both_same a a b b (type_itself a) (type_itself b)
type_itself (either a b) = both_same a a b b (type_itself a) (type_itself b)
type_itself (optional a) = type_itself a
type_itself (star a) = type_itself a
type_itself (plus a) = type_itself a

pub types_are_equivalent : IsEquivalence same_type
types_are_equivalent =
    record { refl = type_itself; symm = λ t u. same_tests (same_type t u) (same_type u t) (type_symm t u) (type_symm u t); congr = type_congr }
