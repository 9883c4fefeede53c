-- The names that a type asks for are in the list of them.
use Rattle.std.proofs.Common.{◌≡◌, Bool, true, false, ◌||◌, List, [], ◌∷◌, ◌++◌, Option, None, Some, refl, ◌∙◌, ap, if◌then◌else◌}
use Rattle.std.specs.List.{list_any}
use Rattle.std.proofs.lemmas.List.Folds.{list_any-append}
use Rattle.gx_base.specs.Name.{same_name}
use Rattle.gx_base.specs.declared.name.Name.{Name}
use Rattle.gx_types.specs.SequenceType.{SequenceType, never, nothing, item, both, either, optional, star, plus}
use Rattle.gx_types.proofs.EqualNames.{names_are_equivalent}
use Rattle.gx_include_positions.specs.Names.{name_of, is_named, with_name, with_names}
use Rattle.gx_include_positions.proofs.MarksTake.{or_left, or_right}

any_alike : {X : Type 0} (one other : X → Bool) → ((x : X) → one x ≡ other x) → (xs : List X) → list_any one xs ≡ list_any other xs
any_alike one other f [] = refl
any_alike one other f (x ∷ xs) = ap (λ b. b || list_any one xs) (f x) ∙ ap (λ b. other x || b) (any_alike one other f xs)

-- the name that is asked for, if any, is in a list
abbrev pub IsKnown : List Name → Option Name → Type 0
IsKnown names None = Unit {0}
IsKnown names (Some name) = is_named names name ≡ true

abbrev pub AreKnown : List Name → SequenceType → Type 0
AreKnown names never = Unit {0}
AreKnown names nothing = Unit {0}
AreKnown names (item kind) = IsKnown names (name_of kind)
AreKnown names (both a b) = AreKnown names a × AreKnown names b
AreKnown names (either a b) = AreKnown names a × AreKnown names b
AreKnown names (optional a) = AreKnown names a
AreKnown names (star a) = AreKnown names a
AreKnown names (plus a) = AreKnown names a

abbrev Grows : List Name → List Name → Type 0
Grows names more = (name : Name) → is_named names name ≡ true → is_named more name ≡ true

grows_by_one : (names : List Name) (name : Name) (b : Bool) → Grows names (if b then names else names ++ name ∷ [])
grows_by_one names name true n h = h
grows_by_one names name false n h = list_any-append (same_name n) names (name ∷ []) ∙ or_left (is_named names n) (list_any (same_name n) (name ∷ [])) h

grows_name : (names : List Name) (name : Option Name) → Grows names (with_name names name)
grows_name names None n h = h
grows_name names (Some name) n h = grows_by_one names name (is_named names name) n h

known_one : (names : List Name) (name : Name) (b : Bool) → is_named names name ≡ b → is_named (if b then names else names ++ name ∷ []) name ≡ true
known_one names name true e = e
known_one names name false e =
    list_any-append (same_name name) names (name ∷ [])
    ∙ or_right (is_named names name) (list_any (same_name name) (name ∷ [])) (or_left (same_name name name) false (names_are_equivalent.refl name))

known_name : (names : List Name) (name : Option Name) → IsKnown (with_name names name) name
known_name names None = tt
known_name names (Some name) = known_one names name (is_named names name) refl

grows_all : (names : List Name) (t : SequenceType) → Grows names (with_names names t)
grows_all names never n h = h
grows_all names nothing n h = h
grows_all names (item kind) n h = grows_name names (name_of kind) n h
grows_all names (both a b) n h = grows_all (with_names names a) b n (grows_all names a n h)
grows_all names (either a b) n h = grows_all (with_names names a) b n (grows_all names a n h)
grows_all names (optional a) n h = grows_all names a n h
grows_all names (star a) n h = grows_all names a n h
grows_all names (plus a) n h = grows_all names a n h

known_more : (names more : List Name) → Grows names more → (name : Option Name) → IsKnown names name → IsKnown more name
known_more names more g None h = tt
known_more names more g (Some name) h = g name h

pub all_known_more : (names more : List Name) → Grows names more → (t : SequenceType) → AreKnown names t → AreKnown more t
all_known_more names more g never h = tt
all_known_more names more g nothing h = tt
all_known_more names more g (item kind) h = known_more names more g (name_of kind) h
all_known_more names more g (both a b) h = (all_known_more names more g a h.0, all_known_more names more g b h.1)
all_known_more names more g (either a b) h = (all_known_more names more g a h.0, all_known_more names more g b h.1)
all_known_more names more g (optional a) h = all_known_more names more g a h
all_known_more names more g (star a) h = all_known_more names more g a h
all_known_more names more g (plus a) h = all_known_more names more g a h

pub all_known : (names : List Name) (t : SequenceType) → AreKnown (with_names names t) t
all_known names never = tt
all_known names nothing = tt
all_known names (item kind) = known_name names (name_of kind)
all_known names (both a b) = (all_known_more (with_names names a) (with_names (with_names names a) b) (grows_all (with_names names a) b) a (all_known names a), all_known (with_names names a) b)
all_known names (either a b) = (all_known_more (with_names names a) (with_names (with_names names a) b) (grows_all (with_names names a) b) a (all_known names a), all_known (with_names names a) b)
all_known names (optional a) = all_known names a
all_known names (star a) = all_known names a
all_known names (plus a) = all_known names a

pub both_known : (a b : SequenceType) → AreKnown (with_names (with_names [] a) b) a × AreKnown (with_names (with_names [] a) b) b
both_known a b = (all_known_more (with_names [] a) (with_names (with_names [] a) b) (grows_all (with_names [] a) b) a (all_known [] a), all_known (with_names [] a) b)

-- a name that is not in the list fits no name of it
pub unlike : (names : List Name) (name known : Name) → is_named names name ≡ false → is_named names known ≡ true → same_name known name ≡ false
unlike names name known lacks has =
    elim (same_name known name) as (λ (b : Bool). same_name known name ≡ b → b ≡ false) [
      | true ↦ λ e. let same = any_alike (same_name known) (same_name name) (λ m. names_are_equivalent.congr known name m e) names in cc
      | false ↦ λ _. refl
    ] refl
