-- The flags of the declared types that item types ask for.
use Rattle.std.proofs.Common.{◌≡◌, ℕ, zero, suc, ◌+◌, ◌<◌, ◌≤◌, Bool, true, false, ◌||◌, List, [], ◌∷◌, ◌++◌, inl, inr, None, Some, refl, sym, ◌∙◌, ap, subst, get_or, length, take, slice_get, arith, if◌then◌else◌}
use Rattle.std.specs.Prelude.{slice_set}
use Rattle.std.specs.List.{flat_map, list_any}
use Rattle.std.proofs.Math.ListN.{replicate}
use Rattle.std.proofs.lemmas.Bool.{cases_lt}
use Rattle.std.proofs.lemmas.List.{get_or-set_same, get_or-set_other, length-set, take_all, take_more}
use Rattle.std.proofs.lemmas.Option.{slice_get-get_or}
use Rattle.std.proofs.lemmas.List.Folds.{list_any-append}
use Rattle.gx_base.specs.declared.type_name.TypeName.{TypeName}
use Rattle.gx_types.specs.declared.declaration.Declared.{Declared}
use Rattle.gx_types.specs.declared.item_type.ItemType.{ItemType}
use Rattle.gx_types.specs.declared.item_type.ItemType.TheVariants as items
use Rattle.gx_types.specs.SchemaSet.{SchemaSet}
use Rattle.gx_include_derivations.specs.Asked.{asks, is_asked, types_asked, asks_at, is_asked_at}
use Rattle.gx_types.specs.Derivation.{is_derived}
use Rattle.gx_include_derivations.specs.Derivations.{is_derived_at, is_derived_declared}
use Rattle.gx_include_positions.proofs.Lists.{flat_step}

-- flags by number

-- below a bound flags say more, and the others stayed
pub record AreMarkedBelow (old flags : List Bool) (more : ℕ → Bool) (bound : ℕ) : Type 0 where
  pub count_is : length flags ≡ length old
  pub done : (n : ℕ) → n < bound → get_or flags n false ≡ get_or old n false || more n
  pub left : (n : ℕ) → bound ≤ n → get_or flags n false ≡ get_or old n false

pub none_marked : (flags : List Bool) (more : ℕ → Bool) → AreMarkedBelow flags flags more 0
none_marked flags more = record { count_is = refl; done = λ n h. absurd (omega arith); left = λ n h. refl }

pub one_marked : (old flags after : List Bool) (more : ℕ → Bool) (k : ℕ) (flag : Bool) → k < length flags → flag ≡ get_or flags k false || more k → after ≡ slice_set flags k flag
    → AreMarkedBelow old flags more k → AreMarkedBelow old after more (k + 1)
one_marked old flags after more k flag within f e is =
    subst (λ fs. AreMarkedBelow old fs more (k + 1)) (sym e) (record {
      count_is = length-set flags k flag ∙ is.count_is;
      done = done;
      left = λ n h. get_or-set_other flags k n flag false (λ g. omega arith) ∙ is.left n (omega arith);
    })
  where
    done : (n : ℕ) → n < k + 1 → get_or (slice_set flags k flag) n false ≡ get_or old n false || more n
    done n below =
        elim (cases_lt n k) [
          | inl l ↦ get_or-set_other flags k n flag false (λ g. omega arith) ∙ is.done n l
          | inr l ↦
              let last : n ≡ k = omega arith in
              ap (λ i. get_or (slice_set flags k flag) i false) last ∙ get_or-set_same flags k flag false within ∙ f ∙ ap (λ b. b || more k) (is.left k (omega arith))
              ∙ ap (λ i. get_or old i false || more i) (sym last)
        ]

pub or_true : (b : Bool) → true ≡ b || true
or_true true = refl
or_true false = refl

pub or_false : (b : Bool) → b ≡ b || false
or_false true = refl
or_false false = refl

-- one item type more
pub asked_more : (s : SchemaSet) (kinds : List ItemType) (i : ℕ) (kind : ItemType) (n : ℕ) (before after : Bool) → i < length kinds → kind ≡ get_or kinds i kind
    → before ≡ is_asked_at s (take i kinds) n → after ≡ before || asks_at s n kind → after ≡ is_asked_at s (take (i + 1) kinds) n
asked_more s kinds i kind n before after within is e f =
    f ∙ ap (λ b. b || asks_at s n kind) e ∙ ap (λ b. is_asked_at s (take i kinds) n || b) (or_false (asks_at s n kind)) ∙ sym (list_any-append (asks_at s n) (take i kinds) (kind ∷ []))
    ∙ ap (λ (k : ItemType). list_any (asks_at s n) (take i kinds ++ k ∷ [])) is ∙ ap (list_any (asks_at s n)) (sym (take_more kinds i kind within))

-- what is asked by number is asked by name
pub asked_by_name : (s : SchemaSet) (kinds : List ItemType) (n : ℕ) (d : Declared) → slice_get s.types n ≡ Some d → is_asked_at s kinds n ≡ is_asked s kinds d.name
asked_by_name s [] n d e = refl
asked_by_name s (k ∷ kinds) n d e = ap (λ b. b || is_asked_at s kinds n) (one k) ∙ ap (λ b. asks s d.name k || b) (asked_by_name s kinds n d e)
  where
    at : (kind : TypeName) → is_derived_at s kind n ≡ is_derived s d.name kind
    at kind = ap (is_derived_declared s kind) e

    one : (k : ItemType) → asks_at s n k ≡ asks s d.name k
    one (items.Element name kind) = at kind
    one (items.Attribute name kind) = at kind
    one items.Text = refl
    one (items.Document None) = refl
    one (items.Document (Some element)) = at element.1
    one (items.Atom kind) = at kind

-- one declared type more
pub types_more : (s : SchemaSet) (kinds : List ItemType) (types : List Declared) (i : ℕ) (d : Declared) (flags : List Bool) (before after : List TypeName) → types ≡ s.types → i < length types
    → d ≡ get_or types i d → ((n : ℕ) → n < length s.types → get_or flags n false ≡ is_asked_at s kinds n)
    → before ≡ flat_map (λ (x : Declared). if is_asked s kinds x.name then x.name ∷ [] else []) (take i s.types)
    → after ≡ before ++ (if get_or flags i false then d.name ∷ [] else [])
    → after ≡ flat_map (λ (x : Declared). if is_asked s kinds x.name then x.name ∷ [] else []) (take (i + 1) s.types)
types_more s kinds types i d flags before after e within is marks f g =
    let inside : i < length s.types = subst (λ (ts : List Declared). i < length ts) e within in
    let here : d ≡ get_or s.types i d = is ∙ ap (λ (ts : List Declared). get_or ts i d) e in
    let at : slice_get s.types i ≡ Some d = slice_get-get_or s.types i d inside ∙ ap (λ (x : Declared). Some x) (sym here) in
    flat_step (λ (x : Declared). if is_asked s kinds x.name then x.name ∷ [] else []) s.types i d inside here [] before after f
    (g ∙ ap (λ b. before ++ (if b then d.name ∷ [] else [])) (marks i inside ∙ asked_by_name s kinds i d at))

pub all_types : (s : SchemaSet) (kinds : List ItemType) (i : ℕ) (types : List TypeName) → length s.types ≤ i
    → types ≡ flat_map (λ (x : Declared). if is_asked s kinds x.name then x.name ∷ [] else []) (take i s.types) → types ≡ types_asked s kinds
all_types s kinds i types past e = e ∙ ap (λ ds. flat_map (λ (x : Declared). if is_asked s kinds x.name then x.name ∷ [] else []) ds) (take_all i s.types past)

pub none_asked : (count n : ℕ) (flags : List Bool) → flags ≡ replicate count false → get_or flags n false ≡ false
none_asked count n flags e = ap (λ fs. get_or fs n false) e ∙ by count n
  where
    by : (count n : ℕ) → get_or (replicate count false) n false ≡ false
    by zero n = refl
    by (suc count) zero = refl
    by (suc count) (suc n) = by count n
