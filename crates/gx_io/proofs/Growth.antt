-- Several puts, one after another.
use Rattle.std.proofs.Common.{ℕ, ◌+◌, ◌≤◌, List, [], ◌++◌, length, take, refl, sym, ap, ◌∙◌, arith, append_assoc, append-nil, length-append}
use Rattle.std.specs.Prelude.{Option, None, Some}
use Rattle.std.proofs.Math.Seq.{take-append-add}
use Rattle.std.proofs.lemmas.List.{take-append-le}
use Rattle.gx_io.specs.Faults.{Rose}
use Rattle.gx_io.specs.Put.{GrowsBy, GrowsByPrefix}

-- nothing was put
pub GrowsBy-nil : (a : Option (List ℕ)) → GrowsBy a a []
GrowsBy-nil None = refl
GrowsBy-nil (Some x) = ap Some (sym (append-nil x))

-- two pieces were put
pub GrowsBy-append : (a b c : Option (List ℕ)) (xs ys : List ℕ) → GrowsBy a b xs → GrowsBy b c ys → GrowsBy a c (xs ++ ys)
GrowsBy-append None b c xs ys p q = rw p at q
GrowsBy-append (Some x) b c xs ys p q = let r = rw p at q in r ∙ ap Some (append_assoc x xs ys)

-- a prefix is one of a longer text
pub GrowsByPrefix-longer : (a b : Option (List ℕ)) (xs ys : List ℕ) → GrowsByPrefix a b xs → GrowsByPrefix a b (xs ++ ys)
GrowsByPrefix-longer a b xs ys p =
    let within : p.0 ≤ length xs = p.1 in
    (p.0, omega (arith, length-append xs ys), rw (take-append-le p.0 xs ys within) p.2)

-- a piece was put, and then a prefix of the next
pub GrowsByPrefix-append : (a b c : Option (List ℕ)) (xs ys : List ℕ) → GrowsBy a b xs → GrowsByPrefix b c ys → GrowsByPrefix a c (xs ++ ys)
GrowsByPrefix-append a b c xs ys p q =
    (length xs + q.0, omega (arith, length-append xs ys, q.1), rw (take-append-add xs ys q.0) (GrowsBy-append a b c xs (take q.0 ys) p q.2))

-- nothing is a prefix of each text
pub GrowsByPrefix-none : (a : Option (List ℕ)) (xs : List ℕ) → GrowsByPrefix a a xs
GrowsByPrefix-none a xs = (0, omega arith, GrowsBy-nil a)

-- a count that rose and did not fall before or after
pub Rose-after : (a b c : ℕ) → a ≤ b → Rose b c → Rose a c
Rose-after a b c p q = omega arith

pub Rose-before : (a b c : ℕ) → Rose a b → b ≤ c → Rose a c
Rose-before a b c p q = omega arith
