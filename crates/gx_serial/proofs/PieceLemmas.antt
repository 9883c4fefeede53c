-- A text that is put piece by piece.
use Rattle.std.proofs.Common.{◌≡◌, ℕ, ◌+◌, ◌-◌, ◌≤◌, List, ◌++◌, take, drop, ap, ◌∙◌, arith}
use Rattle.std.specs.Prelude.{Option}
use Rattle.std.proofs.Math.Seq.{take-add}
use Rattle.std.proofs.lemmas.List.{take-append-drop}
use Rattle.gx_io.specs.Put.{GrowsBy, GrowsByPrefix}
use Rattle.gx_io.proofs.Growth.{GrowsBy-append, GrowsByPrefix-append, GrowsByPrefix-longer}

pieces : (bytes : List ℕ) (done end : ℕ) → done ≤ end → take end bytes ≡ take done bytes ++ take (end - done) (drop done bytes)
pieces bytes done end h =
    let e : end ≡ done + (end - done) = omega arith in
    ap (λ n. take n bytes) e ∙ take-add done (end - done) bytes

-- the bytes up to a place were put, and then a piece
pub GrowsBy-piece : (a b c : Option (List ℕ)) (bytes : List ℕ) (done end : ℕ) → done ≤ end
    → GrowsBy a b (take done bytes) → GrowsBy b c (take (end - done) (drop done bytes)) → GrowsBy a c (take end bytes)
GrowsBy-piece a b c bytes done end h p q =
    rw (pieces bytes done end h) (GrowsBy-append a b c (take done bytes) (take (end - done) (drop done bytes)) p q)

-- the bytes up to a place were put, and then a prefix of a piece
pub GrowsByPrefix-piece : (a b c : Option (List ℕ)) (bytes : List ℕ) (done end : ℕ) → done ≤ end
    → GrowsBy a b (take done bytes) → GrowsByPrefix b c (take (end - done) (drop done bytes)) → GrowsByPrefix a c bytes
GrowsByPrefix-piece a b c bytes done end h p q =
    let to_end = GrowsByPrefix-append a b c (take done bytes) (take (end - done) (drop done bytes)) p q in
    let before : GrowsByPrefix a c (take end bytes) = rw (pieces bytes done end h) to_end in
    rw take-append-drop at (GrowsByPrefix-longer a c (take end bytes) (drop end bytes) before)
