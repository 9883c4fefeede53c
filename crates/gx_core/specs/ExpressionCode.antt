-- The code of an expression as stored data, which tells expressions apart.
use Rattle.std.specs.Prelude.{◌≡◌, refl}
use Rattle.std.proofs.Common.{◌∙◌, ap}
use base.Stored.{Gv, gnil, gcons, Coded}
use Rattle.gx_base.specs.Stored.{stored_place, place_once}
use Rattle.gx_core.specs.contracts.operator.Operator.{the_row}
use Rattle.gx_core.specs.Expression.{Expression, At, Parts, no_parts, a_part}

abbrev mutual
  pub store_expression : {A : Type 0} → (A → Gv) → Expression A → Gv
  store_expression code (At p o n f ps) =
      gcons (stored_place p) (gcons (stored_place o) (gcons (code n) (gcons (the_row.coded.code f) (store_parts code ps))))

  pub store_parts : {A : Type 0} → (A → Gv) → Parts A → Gv
  store_parts code no_parts = gnil
  store_parts code (a_part e es) = gcons (store_expression code e) (store_parts code es)

-- the two halves of a pair
abbrev before : Gv → Gv
before (gcons a b) = a
before a = a

abbrev behind : Gv → Gv
behind (gcons a b) = b
behind a = a

mutual
  pub expression_once : {A : Type 0} (c : Coded A) (x y : Expression A) → store_expression c.code x ≡ store_expression c.code y → x ≡ y
  expression_once c (At p o n f ps) (At q r m g qs) e =
      ap (λ x. At x o n f ps) (place_once p q (ap before e))
      ∙ ap (λ x. At q x n f ps) (place_once o r (ap (λ v. before (behind v)) e))
      ∙ ap (λ x. At q r x f ps) (c.inj n m (ap (λ v. before (behind (behind v))) e))
      ∙ ap (λ x. At q r m x ps) (the_row.coded.inj f g (ap (λ v. before (behind (behind (behind v)))) e))
      ∙ ap (At q r m g) (parts_once c ps qs (ap (λ v. behind (behind (behind (behind v)))) e))

  pub parts_once : {A : Type 0} (c : Coded A) (x y : Parts A) → store_parts c.code x ≡ store_parts c.code y → x ≡ y
  parts_once c no_parts no_parts e = refl
  parts_once c (a_part a others) (a_part b rest) e =
      ap (λ x. a_part x others) (expression_once c a b (ap before e)) ∙ ap (a_part b) (parts_once c others rest (ap behind e))
  parts_once c _ _ e = absurd (cc)

abbrev pub expression_code : {A : Type 0} → Coded A → Coded (Expression A)
expression_code c = record { code = store_expression c.code; inj = expression_once c }
