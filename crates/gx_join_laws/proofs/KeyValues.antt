-- The values of the keys of a fair join: atomic values of one family.
use Rattle.std.proofs.Common.{◌≡◌, Bool, true, List, [], ◌∷◌, map, refl, ap}
use Rattle.std.specs.List.{All, list_all}
use Rattle.std.proofs.lemmas.Bool.{and_parts}
use Rattle.std.proofs.lemmas.List.Elements.{All-nil, All-cons, All-head, All-tail, All-append, All-map, All-weaker}
use Rattle.gx_facets.specs.declared.Atomic.{Atomic}
use Rattle.gx_facets.specs.declared.AtomValue.{AtomValue}
use Rattle.gx_facets.specs.declared.AtomValue.TheVariants.{Untyped, Str, Num}
use Rattle.gx_facets.specs.Value.{same_family}
use Rattle.gx_atomic.specs.Comparison.{pairs_of}
use Rattle.gx_model.specs.Item.{atom, node, Items, atoms}
use Rattle.gx_core.specs.Outcome.{Outcome, gives, raises, wrong}
use Rattle.gx_rule_laws.specs.FairJoins.{is_number_value, is_text_value, is_atom_so}

-- the atomic values among items
abbrev pub atoms_in : Items → List Atomic
atoms_in [] = []
atoms_in (atom a ∷ xs) = a ∷ atoms_in xs
atoms_in (node place ∷ xs) = atoms_in xs

abbrev pub atoms_given : Outcome Items → List Atomic
atoms_given (gives xs left) = atoms_in xs
atoms_given (raises code) = []
atoms_given wrong = []

pub atoms_back : (values : List Atomic) → atoms_in (atoms values) ≡ values
atoms_back [] = refl
atoms_back (a ∷ values) = ap (λ (others : List Atomic). a ∷ others) (atoms_back values)

pub are_atoms : (test : AtomValue → Bool) (xs : Items) → list_all (is_atom_so test) xs ≡ true → xs ≡ atoms (atoms_in xs)
are_atoms test [] h = refl
are_atoms test (atom a ∷ xs) h =
    ap (λ (ys : Items). atom a ∷ ys) (are_atoms test xs (and_parts (test a.value) (list_all (is_atom_so test) xs) h).1)
are_atoms test (node place ∷ xs) h = absurd (cc)

pub atoms_pass : (test : AtomValue → Bool) (xs : Items) → list_all (is_atom_so test) xs ≡ true → All (λ a. test a.value ≡ true) (atoms_in xs)
atoms_pass test [] h = All-nil (λ a. test a.value ≡ true)
atoms_pass test (atom a ∷ xs) h =
    let p = and_parts (test a.value) (list_all (is_atom_so test) xs) h in
    All-cons (λ b. test b.value ≡ true) a (atoms_in xs) p.0 (atoms_pass test xs p.1)
atoms_pass test (node place ∷ xs) h = absurd (cc)

-- two values that pass a test are of one family
abbrev pub PassTogether : (AtomValue → Bool) → Type 0
PassTogether test = (v w : AtomValue) → test v ≡ true → test w ≡ true → same_family v w ≡ true

pub numbers_together : PassTogether is_number_value
numbers_together (Num m) (Num n) h k = refl
numbers_together (Num m) _ h k = absurd (cc)
numbers_together _ w h k = absurd (cc)

pub texts_together : PassTogether is_text_value
texts_together (Untyped s) (Untyped t) h k = refl
texts_together (Untyped s) (Str t) h k = refl
texts_together (Untyped s) _ h k = absurd (cc)
texts_together (Str s) (Untyped t) h k = refl
texts_together (Str s) (Str t) h k = refl
texts_together (Str s) _ h k = absurd (cc)
texts_together _ w h k = absurd (cc)

abbrev pub IsOneFamily : Atomic × Atomic → Type 0
IsOneFamily pair = same_family pair.0.value pair.1.value ≡ true

pub one_family : (test : AtomValue → Bool) → PassTogether test → (left right : List Atomic) → All (λ a. test a.value ≡ true) left
    → All (λ a. test a.value ≡ true) right → All (λ pair. same_family pair.0.value pair.1.value ≡ true) (pairs_of left right)
one_family test together [] right h k = All-nil (λ (pair : Atomic × Atomic). same_family pair.0.value pair.1.value ≡ true)
one_family test together (a ∷ left) right h k =
    All-append (λ (pair : Atomic × Atomic). same_family pair.0.value pair.1.value ≡ true) (map (λ b. (a, b)) right) (pairs_of left right)
    (All-map (λ (pair : Atomic × Atomic). same_family pair.0.value pair.1.value ≡ true) (λ b. (a, b)) right
    (All-weaker (λ b. test b.value ≡ true) (λ b. same_family a.value b.value ≡ true)
    (λ b passes. together a.value b.value (All-head (λ c. test c.value ≡ true) a left h) passes) right k))
    (one_family test together left right (All-tail (λ c. test c.value ≡ true) a left h) k)
