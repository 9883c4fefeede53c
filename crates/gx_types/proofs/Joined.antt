-- Lists of lists, joined.
use Rattle.std.proofs.Common.{◌≡◌, suc, List, [], ◌∷◌, ◌++◌, length, refl, sym, ◌∙◌, ap, subst, append_assoc}
use Rattle.gx_types.specs.declared.shape.Shape.{Shape}
use Rattle.gx_types.specs.Takes.{Each, all_joined}

pub joined_append : (xs ys : List (List Shape)) → all_joined (xs ++ ys) ≡ all_joined xs ++ all_joined ys
joined_append [] ys = refl
joined_append (x ∷ xs) ys = ap (λ zs. x ++ zs) (joined_append xs ys) ∙ sym (append_assoc x (all_joined xs) (all_joined ys))

pub each_append : (P : List Shape → Type 0) (xs ys : List (List Shape)) → Each P xs → Each P ys → Each P (xs ++ ys)
each_append P [] ys e f = f
each_append P (x ∷ xs) ys e f = (e.0, each_append P xs ys e.1 f)

-- a list is made of lists that have a fact
abbrev pub MadeOf : (List Shape → Type 0) → List Shape → Type 0
MadeOf P ss = (parts : List (List Shape)) × (ss ≡ all_joined parts) × Each P parts

-- what is made of what is made of them is made of them
pub made_of_made : (P Q : List Shape → Type 0) → ((ss : List Shape) → P ss → MadeOf Q ss) → (parts : List (List Shape)) → Each P parts → MadeOf Q (all_joined parts)
made_of_made P Q f [] e = ([], refl, tt)
made_of_made P Q f (part ∷ parts) e =
    let m = f part e.0 in
    let n = made_of_made P Q f parts e.1 in
    (m.0 ++ n.0, ap (λ xs. xs ++ all_joined parts) m.1 ∙ ap (λ xs. all_joined m.0 ++ xs) n.1 ∙ sym (joined_append m.0 n.0), each_append Q m.0 n.0 m.2 n.2)

append_nothing : (xs : List Shape) → xs ≡ xs ++ []
append_nothing [] = refl
append_nothing (x ∷ xs) = ap (λ zs. x ∷ zs) (append_nothing xs)

pub made_of_one : (P : List Shape → Type 0) (ss : List Shape) → P ss → MadeOf P ss
made_of_one P ss h = (ss ∷ [], append_nothing ss, (h, tt))

pub made_of_none : (P : List Shape → Type 0) (ss : List Shape) → ss ≡ [] → MadeOf P ss
made_of_none P ss e = ([], e, tt)

-- lists that are all empty
pub nothing_joined : (parts : List (List Shape)) → Each (λ ss. ss ≡ []) parts → all_joined parts ≡ []
nothing_joined [] e = refl
nothing_joined (part ∷ parts) e = ap (λ xs. xs ++ all_joined parts) e.0 ∙ nothing_joined parts e.1

-- each shape as a list of its own
abbrev pub singles : List Shape → List (List Shape)
singles [] = []
singles (s ∷ ss) = (s ∷ []) ∷ singles ss

pub singles_joined : (ss : List Shape) → ss ≡ all_joined (singles ss)
singles_joined [] = refl
singles_joined (s ∷ ss) = ap (λ xs. s ∷ xs) (singles_joined ss)

pub singles_length : (ss : List Shape) → length (singles ss) ≡ length ss
singles_length [] = refl
singles_length (s ∷ ss) = ap suc (singles_length ss)

singles_append : (xs ys : List Shape) → singles (xs ++ ys) ≡ singles xs ++ singles ys
singles_append [] ys = refl
singles_append (x ∷ xs) ys = ap (λ zs. (x ∷ []) ∷ zs) (singles_append xs ys)

pub each_single_append : (P : List Shape → Type 0) (xs ys : List Shape) → Each P (singles xs) → Each P (singles ys) → Each P (singles (xs ++ ys))
each_single_append P xs ys e f = subst (Each P) (sym (singles_append xs ys)) (each_append P (singles xs) (singles ys) e f)

pub each_single_joined : (P Q : List Shape → Type 0) → ((ss : List Shape) → P ss → Each Q (singles ss)) → (parts : List (List Shape)) → Each P parts → Each Q (singles (all_joined parts))
each_single_joined P Q f [] e = tt
each_single_joined P Q f (part ∷ parts) e = each_single_append Q part (all_joined parts) (f part e.0) (each_single_joined P Q f parts e.1)
