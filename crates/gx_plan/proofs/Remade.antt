-- Lists of parts and forms, as a pass over them takes them.
use Rattle.std.proofs.Common.{◌≡◌, ◌+◌, ℕ, suc, List, [], ◌∷◌, ◌++◌, map, length, reverse, refl, sym, ◌∙◌, ap, subst, arith}
use Rattle.std.proofs.lemmas.List.{reverse-reverse, reverse-append, append-nil, length-reverse}
use Rattle.gx_base.specs.declared.place.Place.{Place}
use Rattle.gx_core.specs.declared.operator.Operator.{Operator}
use Rattle.gx_core.specs.declared.expression.Clause.{Clause}
use Rattle.gx_core.specs.declared.expression.SortKey.{SortKey}
use Rattle.gx_core.specs.declared.expression.Form.{Form}
use Rattle.gx_core.specs.declared.expression.Form.TheVariants.{Lit, Var, Empty, Seq, For, Let, If, Cast, Castable, Treat}
use Rattle.gx_core.specs.declared.expression.Form.TheVariants.{Step, Nodes, Order, SomeIn, EveryIn, Switch, Nth}
use Rattle.gx_core.specs.declared.expression.Form.TheVariants.{Final, DataOf, NoContext, Call, Neg, Binary, Block, Construct, User}
use Rattle.gx_core.specs.Expression.{Expression, At, a_part, all_parts}
use Rattle.gx_core.specs.ExpressionView.{kind_of_clause, order_of_key, part_of_key, operator_of, parts_of, parts_of_block}
use Rattle.gx_core.specs.Invariant.{number_of_parts}
use Rattle.gx_plan.specs.Operands.{HasPlaceFor}
use Rattle.gx_plan.specs.Remaking.{Remaker, remade, parts_remade}

pub all_are_remade : {A B : Type 0} (make : Remaker A B) (es : List (Expression A))
    → all_parts (map (remade make) es) ≡ parts_remade make (all_parts es)
all_are_remade make [] = refl
all_are_remade make (e ∷ es) = ap (a_part (remade make e)) (all_are_remade make es)

counted : {A : Type 0} (es : List (Expression A)) → number_of_parts (all_parts es) ≡ length es
counted [] = refl
counted (e ∷ es) = let h = counted es in omega (arith, h)

counted_keys : {A : Type 0} (ks : List (SortKey A)) (a : Expression A) → length (map part_of_key ks ++ a ∷ []) ≡ length (map order_of_key ks) + 1
counted_keys [] a = refl
counted_keys (k ∷ ks) a = let h = counted_keys ks a in omega (arith, h)

counted_block : {A : Type 0} (cs : List (Clause A)) (ks : List (SortKey A)) (a : Expression A)
    → length (parts_of_block cs ks a) ≡ length (map kind_of_clause cs) + length (map order_of_key ks) + 1
counted_block [] ks a = let h = counted_keys ks a in omega (arith, h)
counted_block (c ∷ cs) ks a = let h = counted_block cs ks a in omega (arith, h)

-- an operator has place for the parts of its form
pub forms_have_place : {A : Type 0} (form : Form A) (es : List (Expression A)) → all_parts es ≡ parts_of form
    → HasPlaceFor (operator_of form) (length es)
forms_have_place form es e = place form (length es) (sym (counted es) ∙ ap number_of_parts e)
  where
    place : {A : Type 0} (form : Form A) (n : ℕ) → n ≡ number_of_parts (parts_of form) → HasPlaceFor (operator_of form) n
    place (Lit a) n h = h
    place (Var number) n h = h
    place Empty n h = h
    place (Seq a b) n h = h
    place (For v p a b) n h = h
    place (Let v a b) n h = h
    place (If a b c) n h = h
    place (Cast a kind optional) n h = h
    place (Castable a kind optional) n h = h
    place (Treat a kind) n h = h
    place (Step axis t number) n h = h
    place (Nodes a) n h = h
    place (Order a) n h = h
    place (SomeIn v a b) n h = h
    place (EveryIn v a b) n h = h
    place (Switch a cases default es) n h = omega (arith, h)
    place (Nth a number reverse) n h = h
    place (Final a reverse) n h = h
    place (Block cs ks a) n h = h ∙ counted (parts_of_block cs.items ks.items a.value) ∙ counted_block cs.items ks.items a.value
    place (DataOf a) n h = h
    place NoContext n h = h
    place (Call function es) n h = tt
    place (Neg a) n h = h
    place (Binary o a b) n h = h
    place (Construct c es) n h = h ∙ counted es.items
    place (User signature es) n h = h ∙ counted es.items

-- an operator that is opened is still to become what its expression becomes
pub frame_opened : {A B : Type 0} (make : Remaker A B) (place outer : Place) (carried : A) (operator : Operator) (form : Form A)
    (done : List (Expression B)) (left reversed : List (Expression A)) → operator ≡ operator_of form → done ≡ []
    → all_parts left ≡ parts_of form → reversed ≡ reverse left
    → make place outer carried operator (all_parts (done ++ map (remade make) (reverse reversed)))
    ≡ remade make (At place outer carried (operator_of form) (parts_of form))
frame_opened make place outer carried operator form done left reversed e d f r =
    let h : reverse reversed ≡ left = ap reverse r ∙ reverse-reverse left in
    let parts : all_parts (done ++ map (remade make) (reverse reversed)) ≡ parts_remade make (parts_of form) =
    ap (λ ds. all_parts (ds ++ map (remade make) (reverse reversed))) d ∙ ap (λ es. all_parts (map (remade make) es)) h ∙ all_are_remade make left ∙ ap (parts_remade make) f in
    ap (λ o. make place outer carried o (all_parts (done ++ map (remade make) (reverse reversed)))) e
    ∙ ap (make place outer carried (operator_of form)) parts

-- the last of the parts that are left is the next
pub next_is_remade : {A B : Type 0} (make : Remaker A B) (done : List (Expression B)) (left others : List (Expression A)) (part : Expression A)
    → left ≡ others ++ part ∷ []
    → all_parts (done ++ remade make part ∷ map (remade make) (reverse others)) ≡ all_parts (done ++ map (remade make) (reverse left))
next_is_remade make done left others part e =
    let h : reverse left ≡ part ∷ reverse others = ap reverse e ∙ reverse-append others (part ∷ []) in
    ap (λ es. all_parts (done ++ map (remade make) es)) (sym h)

pub one_less : {A : Type 0} (left others : List A) (part : A) → left ≡ others ++ part ∷ [] → length left ≡ suc (length others)
one_less left others part e = ap length e ∙ counted_more others part
  where
    counted_more : {A : Type 0} (xs : List A) (x : A) → length (xs ++ x ∷ []) ≡ suc (length xs)
    counted_more [] x = refl
    counted_more (y ∷ ys) x = ap suc (counted_more ys x)

pub none_is_left : {A B : Type 0} (make : Remaker A B) (done : List (Expression B)) (left : List (Expression A)) → left ≡ []
    → all_parts done ≡ all_parts (done ++ map (remade make) (reverse left))
none_is_left make done left e = ap all_parts (sym (append-nil done) ∙ ap (λ es. done ++ map (remade make) (reverse es)) (sym e))

-- an operator that is opened has place for all its parts
pub place_at_opening : {A B : Type 0} (operator : Operator) (form : Form A) (done : List (Expression B)) (left reversed : List (Expression A))
    → operator ≡ operator_of form → done ≡ [] → all_parts left ≡ parts_of form → reversed ≡ reverse left
    → HasPlaceFor operator (length reversed + length done)
place_at_opening operator form done left reversed e d f r =
    let n : length left ≡ length reversed + length done =
    (let a : length reversed ≡ length left = ap length r ∙ length-reverse left in let b : length done ≡ 0 = ap length d in omega (arith, a, b)) in
    let h : HasPlaceFor (operator_of form) (length left) = forms_have_place form left f in
    subst (λ o. HasPlaceFor o (length reversed + length done)) (sym e) (subst (λ (m : ℕ). HasPlaceFor (operator_of form) m) n h)
