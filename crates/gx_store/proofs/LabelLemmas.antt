-- Labels that are the same in all parts are one.
use Rattle.std.proofs.Common.{◌≡◌, ℕ, Bool, true, false, nat_eq, List, [], ◌∷◌, ◌++◌, Some, refl, sym, ap, ◌∙◌, if◌then◌else◌}
use Rattle.std.specs.Prelude.{Result, Ok, Err, IfOk}
use Rattle.std.specs.declared.alloc.AllocError.{AllocError}
use Rattle.std.specs.List.{slice_get, list_any}
use Rattle.std.specs.Cmp.Lexicographic.{pointwise}
use Rattle.std.proofs.lemmas.Bool.{eqb-true, and_parts}
use Rattle.gx_base.specs.Text.{same_text}
use Rattle.gx_base.specs.Name.{same_name}
use Rattle.gx_base.specs.declared.name.Name.{Name}
use Rattle.gx_base.specs.declared.type_name.TypeName.{TypeName}
use Rattle.gx_base.specs.declared.type_name.TypeName.TheVariants.{Builtin, Named, Anonymous}
use Rattle.gx_types.proofs.EqualNames.{builtins_are_one}
use Rattle.gx_model.proofs.ListLemmas.{append_none}
use Rattle.gx_store.specs.declared.labels.Label.{Label}
use Rattle.gx_store.specs.Grown.{Grows}
use Rattle.gx_store.specs.SameLabel.{same_name_and_prefix, same_type_and_prefix, same_label}

texts_are_one : (a b : List ℕ) → same_text a b ≡ true → a ≡ b
texts_are_one [] [] h = refl
texts_are_one [] (n ∷ b) h = absurd (cc)
texts_are_one (m ∷ a) [] h = absurd (cc)
texts_are_one (m ∷ a) (n ∷ b) h =
    let e = and_parts (nat_eq m n) (pointwise nat_eq a b) h in
    let same : m ≡ n = eqb-true m n e.0 in
    ap (λ k. k ∷ a) same ∙ ap (λ ns. n ∷ ns) (texts_are_one a b e.1)

names_are_one : (a b : Name) → same_name_and_prefix a b ≡ true → a ≡ b
names_are_one a b h =
    let outer = and_parts (same_name a b) (same_text a.prefix b.prefix) h in
    let inner = and_parts (same_text a.uri b.uri) (same_text a.local b.local) outer.0 in
    let uri : a.uri ≡ b.uri = texts_are_one a.uri b.uri inner.0 in
    let local : a.local ≡ b.local = texts_are_one a.local b.local inner.1 in
    let prefix : a.prefix ≡ b.prefix = texts_are_one a.prefix b.prefix outer.1 in
    λ i. record { uri = uri i; prefix = prefix i; local = local i }

types_are_one : (a b : TypeName) → same_type_and_prefix a b ≡ true → a ≡ b
types_are_one (Builtin a) (Builtin b) h = ap (λ x. Builtin x) (builtins_are_one a b (and_parts _ _ h).0)
types_are_one (Named a) (Named b) h = ap (λ x. Named x) (names_are_one a b h)
types_are_one (Anonymous a) (Anonymous b) h = ap (λ x. Anonymous x) (eqb-true a b (and_parts _ _ h).0)
types_are_one (Builtin a) (Named b) h = absurd (cc)
types_are_one (Builtin a) (Anonymous b) h = absurd (cc)
types_are_one (Named a) (Builtin b) h = absurd (cc)
types_are_one (Named a) (Anonymous b) h = absurd (cc)
types_are_one (Anonymous a) (Builtin b) h = absurd (cc)
types_are_one (Anonymous a) (Named b) h = absurd (cc)

pub labels_are_one : (a b : Label) → same_label a b ≡ true → a ≡ b
labels_are_one a b h =
    let e = and_parts (same_name_and_prefix a.name b.name) (same_type_and_prefix a.kind b.kind) h in
    let name : a.name ≡ b.name = names_are_one a.name b.name e.0 in
    let kind : a.kind ≡ b.kind = types_are_one a.kind b.kind e.1 in
    λ i. record { name = name i; kind = kind i }

-- what is stored under a number is the label itself
pub stored_is : (labels : List Label) (number : ℕ) (label : Label) → (k : Label) × (slice_get labels number ≡ Some k) × (same_label label k ≡ true) → slice_get labels number ≡ Some label
stored_is labels number label h = h.1 ∙ ap (λ l. Some l) (sym (labels_are_one label h.0 h.2))

-- a label that is put behind the others
pub put_grows : (labels : List Label) (label : Label) → Grows labels (if list_any (same_label label) labels then labels else labels ++ label ∷ [])
put_grows labels label = by_test (list_any (same_label label) labels)
  where
    by_test : (b : Bool) → Grows labels (if b then labels else labels ++ label ∷ [])
    by_test true = record { more = []; is = sym (append_none labels) }
    by_test false = record { more = label ∷ []; is = refl }

pub narrowed_is : (labels : List Label) (label : Label) (m : ℕ) (r : Result ℕ AllocError) → slice_get labels m ≡ Some label → IfOk r (λ n. n ≡ m) → IfOk r (λ n. slice_get labels n ≡ Some label)
narrowed_is labels label m (Ok n) e h = ap (slice_get labels) h ∙ e
narrowed_is labels label m (Err error) e h = tt
