-- What is made of numbers that follow one another, with one more.
use Rattle.std.proofs.Common.{◌≡◌, ℕ, zero, suc, ◌+◌, List, ◌++◌, arith, sym, ap, ◌∙◌}
use Rattle.std.proofs.lemmas.List.{append_assoc, append-nil}
use Rattle.std.specs.List.{flat_map, range_with_len}

pub one_more : {A : Type 0} (f : ℕ → List A) (first count : ℕ) → flat_map f (range_with_len first (count + 1)) ≡ flat_map f (range_with_len first count) ++ f (first + count)
one_more f first zero = let e : first + 0 ≡ first = omega arith in append-nil (f first) ∙ sym (ap f e)
one_more {A} f first (suc count) =
    let e : (first + 1) + count ≡ first + suc count = omega arith in
    let g : suc count + 1 ≡ suc (count + 1) = omega arith in
    ap (λ n. flat_map f (range_with_len first n)) g
    ∙ ap (λ (l : List A). f first ++ l) (one_more f (first + 1) count ∙ ap (λ n. flat_map f (range_with_len (first + 1) count) ++ f n) e)
    ∙ sym (append_assoc (f first) (flat_map f (range_with_len (first + 1) count)) (f (first + suc count)))

-- what stands behind a list, with one more
pub behind_with_one_more : {A : Type 0} (f : ℕ → List A) (first count : ℕ) (old now new piece : List A)
    → now ≡ old ++ flat_map f (range_with_len first count) → new ≡ now ++ piece → piece ≡ f (first + count) → new ≡ old ++ flat_map f (range_with_len first (count + 1))
behind_with_one_more {A} f first count old now new piece h k e =
    k ∙ ap (λ (l : List A). l ++ piece) h ∙ append_assoc old (flat_map f (range_with_len first count)) piece
    ∙ ap (λ (l : List A). old ++ (flat_map f (range_with_len first count) ++ l)) e
    ∙ sym (ap (λ (l : List A). old ++ l) (one_more f first count))
