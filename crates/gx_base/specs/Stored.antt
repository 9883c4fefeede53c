-- Places, integers and texts as stored data, with the way back, for trees that hold them.
use Rattle.std.specs.Prelude.{◌≡◌, ℕ, zero, suc, ℤ, pos, negsuc, List, [], ◌∷◌, refl}
use Rattle.std.proofs.Common.{sym, ◌∙◌, ap}
use base.Stored.{Gv, gnil, gnum, gcons}
use Rattle.gx_base.specs.declared.place.Place.{Place}

abbrev pub stored_place : Place → Gv
stored_place p = gcons (gnum p.line) (gnum p.column)

abbrev pub place_back : Gv → Place
place_back (gcons (gnum line) (gnum column)) = record { line = line; column = column }
place_back _ = record { line = 0; column = 0 }

pub place_once : (p q : Place) → stored_place p ≡ stored_place q → p ≡ q
place_once p q e = ap place_back e

abbrev pub stored_integer : ℤ → Gv
stored_integer (pos n) = gcons (gnum 0) (gnum n)
stored_integer (negsuc n) = gcons (gnum 1) (gnum n)

abbrev pub integer_back : Gv → ℤ
integer_back (gcons (gnum zero) (gnum n)) = pos n
integer_back (gcons (gnum (suc z)) (gnum n)) = negsuc n
integer_back _ = pos 0

pub integer_returns : (z : ℤ) → integer_back (stored_integer z) ≡ z
integer_returns (pos n) = refl
integer_returns (negsuc n) = refl

pub integer_once : (y z : ℤ) → stored_integer y ≡ stored_integer z → y ≡ z
integer_once y z e = sym (integer_returns y) ∙ ap integer_back e ∙ integer_returns z

abbrev pub stored_text : List ℕ → Gv
stored_text [] = gnil
stored_text (c ∷ cs) = gcons (gnum c) (stored_text cs)

abbrev pub text_back : Gv → List ℕ
text_back (gcons (gnum c) g) = c ∷ text_back g
text_back _ = []

pub text_returns : (text : List ℕ) → text_back (stored_text text) ≡ text
text_returns [] = refl
text_returns (c ∷ cs) = ap (λ ds. c ∷ ds) (text_returns cs)

pub text_once : (s t : List ℕ) → stored_text s ≡ stored_text t → s ≡ t
text_once s t e = sym (text_returns s) ∙ ap text_back e ∙ text_returns t
