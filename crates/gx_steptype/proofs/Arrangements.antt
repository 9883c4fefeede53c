-- Lists that stand in another order.
use Rattle.std.proofs.Common.{◌≡◌, suc, ◌≤◌, Bool, true, false, List, [], ◌∷◌, ◌++◌, map, length, refl, sym, ◌∙◌, ap, subst, arith}
use Rattle.std.specs.List.{flat_map}
use Rattle.std.proofs.lemmas.List.{map-append}
use Rattle.std.proofs.lemmas.Grind.{flat_map-append}
use Rattle.gx_types.specs.declared.shape.Shape.{Shape}
use Rattle.gx_types.specs.SchemaSet.{SchemaSet}
use Rattle.gx_types.specs.Occurrence.{occurrence_of}
use Rattle.gx_types.specs.Prime.{prime_of, items_of}
use Rattle.gx_types.specs.SequenceType.{SequenceType}
use Rattle.gx_types.specs.Takes.{Takes, Each, EachShape, SomeItemTakes}
use Rattle.gx_types.specs.TypeRules.{factored}
use Rattle.gx_types.specs.Laws.{Allows}
use Rattle.gx_types.proofs.PublicLaws.{occurrence_bounds_length, repeated_takes_joined, prime_is_a_choice_of_items, items_take_each_shape}
use Rattle.gx_types.proofs.Joined.{singles, singles_joined, singles_length}
use Rattle.gx_steptype.proofs.Testing.{kept}

-- the second list has the members of the first, in any order
abbrev pub Rearranged : {A : Type 0} → List A → List A → Type 0
Rearranged [] ys = ys ≡ []
Rearranged {A} (x ∷ xs) ys = (front rest : List A) × (ys ≡ front ++ x ∷ rest) × Rearranged xs (front ++ rest)

pub mapped : {A B : Type 0} (f : A → B) (xs ys : List A) → Rearranged xs ys → Rearranged (map f xs) (map f ys)
mapped f [] ys h = ap (map f) h
mapped f (x ∷ xs) ys (front, rest, e, r) =
    (map f front, map f rest, ap (map f) e ∙ map-append f front (x ∷ rest), subst (Rearranged (map f xs)) (map-append f front rest) (mapped f xs (front ++ rest) r))

-- those that pass a test

one_kept : (b : Bool) (x : Shape) (xs ys front rest : List Shape) → ys ≡ front ++ (kept b x ++ rest) → Rearranged xs (front ++ rest) → Rearranged (kept b x ++ xs) ys
one_kept true x xs ys front rest e r = (front, rest, e, r)
one_kept false x xs ys front rest e r = subst (Rearranged xs) (sym e) r

pub passing_rearranged : (test : Shape → Bool) (xs ys : List Shape) → Rearranged xs ys → Rearranged (flat_map (λ x. kept (test x) x) xs) (flat_map (λ x. kept (test x) x) ys)
passing_rearranged test [] ys h = ap (flat_map (λ x. kept (test x) x)) h
passing_rearranged test (x ∷ xs) ys (front, rest, e, r) =
    let g = λ (y : Shape). kept (test y) y in
    one_kept (test x) x (flat_map g xs) (flat_map g ys) (flat_map g front) (flat_map g rest)
    (ap (flat_map g) e ∙ flat_map-append g front (x ∷ rest))
    (subst (Rearranged (flat_map g xs)) (flat_map-append g front rest) (passing_rearranged test xs (front ++ rest) r))

-- what holds of each of one holds of each of the other

each_with : (P : Shape → Type 0) (front : List Shape) (x : Shape) (rest : List Shape) → P x → EachShape P (front ++ rest) → EachShape P (front ++ x ∷ rest)
each_with P [] x rest p h = (p, h)
each_with P (y ∷ front) x rest p h = (h.0, each_with P front x rest p h.1)

each_without : (P : Shape → Type 0) (front : List Shape) (x : Shape) (rest : List Shape) → EachShape P (front ++ x ∷ rest) → P x × EachShape P (front ++ rest)
each_without P [] x rest h = h
each_without P (y ∷ front) x rest h = let k = each_without P front x rest h.1 in (k.0, (h.0, k.1))

pub each_rearranged : (P : Shape → Type 0) (xs ys : List Shape) → Rearranged xs ys → EachShape P xs → EachShape P ys
each_rearranged P [] ys r h = subst (EachShape P) (sym r) tt
each_rearranged P (x ∷ xs) ys (front, rest, e, r) h = subst (EachShape P) (sym e) (each_with P front x rest h.0 (each_rearranged P xs (front ++ rest) r h.1))

pub each_arranged : (P : Shape → Type 0) (xs ys : List Shape) → Rearranged xs ys → EachShape P ys → EachShape P xs
each_arranged P [] ys r h = tt
each_arranged P (x ∷ xs) ys (front, rest, e, r) h =
    let k = each_without P front x rest (subst (EachShape P) e h) in (k.0, each_arranged P xs (front ++ rest) r k.1)

-- there are as many

one_more : (front : List Shape) (x : Shape) (rest : List Shape) → length (front ++ x ∷ rest) ≡ suc (length (front ++ rest))
one_more [] x rest = refl
one_more (y ∷ front) x rest = ap suc (one_more front x rest)

as_many : (xs ys : List Shape) → Rearranged xs ys → length xs ≡ length ys
as_many [] ys r = ap length (sym r)
as_many (x ∷ xs) ys (front, rest, e, r) = ap suc (as_many xs (front ++ rest) r) ∙ sym (one_more front x rest) ∙ ap length (sym e)

-- at most one stands where it stands

not_empty : (front : List Shape) (x : Shape) (rest : List Shape) → [] ≡ front ++ x ∷ rest → ⊥
not_empty [] x rest e = absurd (cc)
not_empty (y ∷ front) x rest e = absurd (cc)

nothing_arranged : (xs ys : List Shape) → ys ≡ [] → Rearranged xs ys → xs ≡ []
nothing_arranged [] ys e r = refl
nothing_arranged (x ∷ xs) ys e (front, rest, f, r) = absurd (not_empty front x rest (sym e ∙ f))

alone_arranged : (x y : Shape) (xs front rest : List Shape) → y ∷ [] ≡ front ++ x ∷ rest → Rearranged xs (front ++ rest) → x ∷ xs ≡ y ∷ []
alone_arranged x y xs [] rest e r =
    let none : rest ≡ [] = cc in let same : x ≡ y = cc in ap (λ zs. x ∷ zs) (nothing_arranged xs rest none r) ∙ ap (λ z. z ∷ []) same
alone_arranged x y xs (z ∷ front) rest e r = let none : [] ≡ front ++ x ∷ rest = cc in absurd (not_empty front x rest none)

pub short_is_arranged : (xs ys : List Shape) → length ys ≤ 1 → Rearranged xs ys → xs ≡ ys
short_is_arranged [] ys n r = sym r
short_is_arranged (x ∷ xs) [] n (front, rest, e, r) = absurd (not_empty front x rest e)
short_is_arranged (x ∷ xs) (y ∷ []) n (front, rest, e, r) = alone_arranged x y xs front rest e r
short_is_arranged (x ∷ xs) (y ∷ z ∷ ys) n r = absurd (omega arith)

-- the prime type of a type, as often as the type occurs, takes what the type takes, in any order

each_single : (s : SchemaSet) (t : SequenceType) (ys : List Shape) → EachShape (SomeItemTakes s (items_of t)) ys → Each (Takes s (prime_of t)) (singles ys)
each_single s t [] h = tt
each_single s t (y ∷ ys) h = ((prime_is_a_choice_of_items s t (y ∷ [])).1 (record { shape = y; alone = refl; taken = h.0 }), each_single s t ys h.1)

-- so it takes as many shapes, each of which an item type of the type takes
pub factored_takes_members : (s : SchemaSet) (t : SequenceType) (xs ys : List Shape) → length xs ≡ length ys → EachShape (SomeItemTakes s (items_of t)) ys → Takes s t xs → Takes s (factored t) ys
factored_takes_members s t xs ys n each h =
    repeated_takes_joined s (prime_of t) (occurrence_of t) ys (record {
      parts = singles ys;
      joined = singles_joined ys;
      each = each_single s t ys each;
      count = subst (Allows (occurrence_of t)) (n ∙ sym (singles_length ys)) (occurrence_bounds_length s t xs h);
    })

pub factored_takes_any_order : (s : SchemaSet) (t : SequenceType) (xs ys : List Shape) → Rearranged xs ys → Takes s t xs → Takes s (factored t) ys
factored_takes_any_order s t xs ys r h =
    factored_takes_members s t xs ys (as_many xs ys r) (each_rearranged (SomeItemTakes s (items_of t)) xs ys r (items_take_each_shape s t xs h)) h
