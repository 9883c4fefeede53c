-- The file of a name, from a place on.
use Rattle.std.proofs.Common.{◌≡◌, ℕ, zero, suc, ◌<◌, ◌≤◌, ◌+◌, true, List, [], ◌∷◌, ◌++◌, length, get_or, take, drop, refl, sym, ap, ◌∙◌, subst, arith, add-one}
use Rattle.std.specs.Prelude.{Bool, false, cond, Some, bytes_eq, slice_get, slice_set, option_map}
use Rattle.std.proofs.lemmas.Slice.Eq.{bytes_eq-Decides}
use Rattle.gx_io.specs.LibraryState.{with_file}
use Rattle.std.proofs.lemmas.Option.{slice_get_past}
use Rattle.std.proofs.lemmas.List.{at_drop_all}
use Rattle.gx_io.specs.Load.{file_of}

-- at a place that has the name, it is what stands there
pub file_of-drop : (files : List (List ℕ × List ℕ)) (name : List ℕ) (i : ℕ) (file : List ℕ × List ℕ)
    → i < length files → file ≡ get_or files i file → bytes_eq file.0 name ≡ true
    → file_of (drop i files) name ≡ option_map (λ (f : List ℕ × List ℕ). f.1) (slice_get files i)
file_of-drop [] name i file below here named = absurd (omega arith)
file_of-drop (f ∷ fs) name zero file below here named =
    let e = subst (λ (g : List ℕ × List ℕ). bytes_eq g.0 name ≡ true) here named in rw e refl
file_of-drop (f ∷ fs) name (suc i) file below here named =
    file_of-drop fs name i file (omega arith) here named

-- past the last place there is none
pub file_of-end : (files : List (List ℕ × List ℕ)) (name : List ℕ) (i : ℕ) → length files ≤ i
    → file_of (drop i files) name ≡ option_map (λ (f : List ℕ × List ℕ). f.1) (slice_get files (length files))
file_of-end files name i past =
    at_drop_all (λ fs. file_of fs name) files i past
    ∙ sym (ap (option_map (λ (f : List ℕ × List ℕ). f.1)) (slice_get_past files (length files) (omega arith)))

-- a list with one place set
pub set-split : {X : Type 0} (xs : List X) (i : ℕ) (x : X) → i < length xs → slice_set xs i x ≡ take i xs ++ (x ∷ drop (i + 1) xs)
set-split [] i x below = absurd (omega arith)
set-split (y ∷ ys) zero x below = refl
set-split (y ∷ ys) (suc i) x below = ap (λ zs. y ∷ zs) (set-split ys i x (omega arith)) ∙ rw (add-one, add-one) refl

-- a text is its own name
bytes_eq_self : (name : List ℕ) → bytes_eq name name ≡ true
bytes_eq_self name = (bytes_eq-Decides name name).1 refl

bytes_eq_other : (name other : List ℕ) → (other ≡ name → ⊥) → bytes_eq name other ≡ false
bytes_eq_other name other h = by_cases (bytes_eq name other) refl
  where
    by_cases : (b : Bool) → bytes_eq name other ≡ b → b ≡ false
    by_cases true e = absurd (h (sym ((bytes_eq-Decides name other).0 e)))
    by_cases false e = refl

pub file_of-with_file : (files : List (List ℕ × List ℕ)) (name bytes : List ℕ) → file_of (with_file files name bytes) name ≡ Some bytes
file_of-with_file [] name bytes = rw (bytes_eq_self name) refl
file_of-with_file (file ∷ files) name bytes = by_cases (file_of-with_file files name bytes) (bytes_eq file.0 name) refl
  where
    by_cases : file_of (with_file files name bytes) name ≡ Some bytes → (b : Bool) → bytes_eq file.0 name ≡ b → file_of (cond b ((name, bytes) ∷ files) (file ∷ with_file files name bytes)) name ≡ Some bytes
    by_cases rest true e = rw (bytes_eq_self name) refl
    by_cases rest false e = rw e rest

pub file_of-with_other : (files : List (List ℕ × List ℕ)) (name bytes other : List ℕ) → (other ≡ name → ⊥)
    → file_of (with_file files name bytes) other ≡ file_of files other
file_of-with_other [] name bytes other h = rw (bytes_eq_other name other h) refl
file_of-with_other (file ∷ files) name bytes other h =
    by_cases (file_of-with_other files name bytes other h) (bytes_eq file.0 name) refl
  where
    by_cases : file_of (with_file files name bytes) other ≡ file_of files other → (b : Bool) → bytes_eq file.0 name ≡ b
        → file_of (cond b ((name, bytes) ∷ files) (file ∷ with_file files name bytes)) other ≡ file_of (file ∷ files) other
    by_cases rest true e =
        let same = (bytes_eq-Decides file.0 name).0 e in
        rw (bytes_eq_other name other h, same, bytes_eq_other name other h) refl
    by_cases rest false e = ap (cond (bytes_eq file.0 other) (Some file.1)) rest
