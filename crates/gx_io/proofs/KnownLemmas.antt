-- Reads and writes one after another.
use Rattle.std.proofs.Common.{ℕ, ◌+◌, ◌≤◌, List, ◌++◌, length, take, drop, sym, ap, ◌∙◌, refl, arith, append_assoc, length-append}
use Rattle.std.specs.Prelude.{Option, None, Some}
use Rattle.std.proofs.Math.Seq.{take-add}
use Rattle.std.proofs.lemmas.List.{length-take}
use Rattle.std.specs.Io.KnownBytes.{Appends, Consumes}
use Rattle.gx_io.specs.Reader.{ConsumesAtMost}

-- two writes append what each appended
pub Appends-append : (a b c : Option (List ℕ)) (xs ys : List ℕ) → Appends a b xs → Appends b c ys → Appends a c (xs ++ ys)
Appends-append None b c xs ys p q = tt
Appends-append (Some x) None c xs ys p q = absurd p
Appends-append (Some x) (Some y) None xs ys p q = absurd q
Appends-append (Some x) (Some y) (Some z) xs ys p q = rw (q, p, append_assoc) refl

-- of n bytes and the next m
pub Appends-take : (a b c : Option (List ℕ)) (bytes : List ℕ) (n m : ℕ)
    → Appends a b (take n bytes) → Appends b c (take m (drop n bytes)) → Appends a c (take (n + m) bytes)
Appends-take a b c bytes n m p q =
    let r = Appends-append a b c (take n bytes) (take m (drop n bytes)) p q in rw take-add r

-- two reads consume what each consumed
pub Consumes-append : (a b c : Option (List ℕ)) (xs ys : List ℕ) → Consumes a b xs → Consumes b c ys → Consumes a c (xs ++ ys)
Consumes-append None b c xs ys p q = tt
Consumes-append (Some x) None c xs ys p q = absurd p
Consumes-append (Some x) (Some y) None xs ys p q = absurd q
Consumes-append (Some x) (Some y) (Some z) xs ys p q = p ∙ ap (λ zs. xs ++ zs) q ∙ sym (append_assoc xs ys z)

-- a read behind others took so many bytes at most, with theirs
pub Consumes-more : (a b c : Option (List ℕ)) (xs ys : List ℕ) (count most : ℕ) → Consumes a b xs → Consumes b c (take count ys) → length xs + count ≤ most → ConsumesAtMost most a c
Consumes-more a b c xs ys count most p q within =
    (xs ++ take count ys, omega (arith, length-append xs (take count ys), length-take count ys), Consumes-append a b c xs (take count ys) p q)
