-- What lists of shapes go on behind marked positions, and how a step over one shape moves the marks.
use Rattle.std.proofs.Common.{◌≡◌, Bool, true, false, ◌&&◌, ◌||◌, List, [], ◌∷◌, ◌++◌, ◌⊎◌, inl, inr, refl, sym, ◌∙◌, ap, subst}
use Rattle.std.specs.Bool.{IsTrue}
use Rattle.std.proofs.lemmas.Bool.{or_cases, and_from, and_parts}
use Rattle.gx_types.specs.declared.shape.Shape.{Shape}
use Rattle.gx_types.specs.SchemaSet.{SchemaSet}
use Rattle.gx_types.specs.ItemTakes.{ItemTakes}
use Rattle.gx_types.specs.Takes.{Takes, Each, all_joined}
use Rattle.gx_types.specs.SequenceType.{SequenceType, never, nothing, item, both, either, optional, star, plus}
use Rattle.gx_include_positions.specs.Positions.{is_nullable}
use Rattle.gx_include_positions.proofs.Marks.{Marks, marked_end, marked_next, kept}
use Rattle.gx_include_positions.specs.Test.{is_taken, IsDecided}

pub or_left : (x y : Bool) → x ≡ true → (x || y) ≡ true
or_left x y h = ap (λ b. b || y) h

pub or_right : (x y : Bool) → y ≡ true → (x || y) ≡ true
or_right true y h = refl
or_right false y h = h

-- a list of shapes goes on behind a marked position to the end of a list of the type
abbrev pub GoesOn : SchemaSet → (t : SequenceType) → Marks t → List Shape → Type 0
GoesOn s never marks shapes = ⊥
GoesOn s nothing marks shapes = ⊥
GoesOn s (item kind) marks shapes = IsTrue marks × (shapes ≡ [])
GoesOn s (both a b) marks shapes =
    ((front rest : List Shape) × (shapes ≡ front ++ rest) × GoesOn s a marks.0 front × Takes s b rest) ⊎ GoesOn s b marks.1 shapes
GoesOn s (either a b) marks shapes = GoesOn s a marks.0 shapes ⊎ GoesOn s b marks.1 shapes
GoesOn s (optional a) marks shapes = GoesOn s a marks shapes
GoesOn s (star a) marks shapes = (front rest : List Shape) × (shapes ≡ front ++ rest) × GoesOn s a marks front × Takes s (star a) rest
GoesOn s (plus a) marks shapes = (front rest : List Shape) × (shapes ≡ front ++ rest) × GoesOn s a marks front × Takes s (star a) rest

-- the empty list

front_empty : (front rest : List Shape) → [] ≡ front ++ rest → [] ≡ front
front_empty [] rest e = refl
front_empty (x ∷ xs) rest e = absurd (cc)

rest_empty : (front rest : List Shape) → [] ≡ front ++ rest → [] ≡ rest
rest_empty [] rest e = e
rest_empty (x ∷ xs) rest e = absurd (cc)

pub nullable_takes : (s : SchemaSet) (t : SequenceType) → is_nullable t ≡ true → Takes s t []
nullable_takes s never h = absurd (cc)
nullable_takes s nothing h = refl
nullable_takes s (item kind) h = absurd (cc)
nullable_takes s (both a b) h =
    let p = and_parts (is_nullable a) (is_nullable b) h in ([], [], refl, nullable_takes s a p.0, nullable_takes s b p.1)
nullable_takes s (either a b) h =
    elim (or_cases (is_nullable a) (is_nullable b) h) [ inl k ↦ inl (nullable_takes s a k) | inr k ↦ inr (nullable_takes s b k) ]
nullable_takes s (optional a) h = inl refl
nullable_takes s (star a) h = ([], refl, tt)
nullable_takes s (plus a) h = ([], [], refl, nullable_takes s a h, tt)

pub takes_nullable : (s : SchemaSet) (t : SequenceType) → Takes s t [] → is_nullable t ≡ true
takes_nullable s never h = absurd h
takes_nullable s nothing h = refl
takes_nullable s (item kind) h = let e = h.1 in absurd (cc)
takes_nullable s (both a b) h =
    and_from (is_nullable a) (is_nullable b)
    (takes_nullable s a (subst (Takes s a) (sym (front_empty h.0 h.1 h.2)) h.3))
    (takes_nullable s b (subst (Takes s b) (sym (rest_empty h.0 h.1 h.2)) h.4))
takes_nullable s (either a b) (inl h) = or_left (is_nullable a) (is_nullable b) (takes_nullable s a h)
takes_nullable s (either a b) (inr h) = or_right (is_nullable a) (is_nullable b) (takes_nullable s b h)
takes_nullable s (optional a) h = refl
takes_nullable s (star a) h = refl
takes_nullable s (plus a) h = takes_nullable s a (subst (Takes s a) (sym (front_empty h.0 (all_joined h.1) h.2)) h.3)

pub ends_go_on : (s : SchemaSet) (t : SequenceType) (m : Marks t) → marked_end t m ≡ true → GoesOn s t m []
ends_go_on s never m h = absurd (cc)
ends_go_on s nothing m h = absurd (cc)
ends_go_on s (item kind) m h = (h, refl)
ends_go_on s (both a b) m h =
    elim (or_cases (marked_end a m.0 && is_nullable b) (marked_end b m.1) h) [
      | inl k ↦ let p = and_parts (marked_end a m.0) (is_nullable b) k in inl ([], [], refl, ends_go_on s a m.0 p.0, nullable_takes s b p.1)
      | inr k ↦ inr (ends_go_on s b m.1 k)
    ]
ends_go_on s (either a b) m h =
    elim (or_cases (marked_end a m.0) (marked_end b m.1) h) [ inl k ↦ inl (ends_go_on s a m.0 k) | inr k ↦ inr (ends_go_on s b m.1 k) ]
ends_go_on s (optional a) m h = ends_go_on s a m h
ends_go_on s (star a) m h = ([], [], refl, ends_go_on s a m h, ([], refl, tt))
ends_go_on s (plus a) m h = ([], [], refl, ends_go_on s a m h, ([], refl, tt))

pub goes_on_ends : (s : SchemaSet) (t : SequenceType) (m : Marks t) → GoesOn s t m [] → marked_end t m ≡ true
goes_on_ends s never m h = absurd h
goes_on_ends s nothing m h = absurd h
goes_on_ends s (item kind) m h = h.0
goes_on_ends s (both a b) m (inl h) =
    or_left (marked_end a m.0 && is_nullable b) (marked_end b m.1)
    (and_from (marked_end a m.0) (is_nullable b)
    (goes_on_ends s a m.0 (subst (GoesOn s a m.0) (sym (front_empty h.0 h.1 h.2)) h.3))
    (takes_nullable s b (subst (Takes s b) (sym (rest_empty h.0 h.1 h.2)) h.4)))
goes_on_ends s (both a b) m (inr h) = or_right (marked_end a m.0 && is_nullable b) (marked_end b m.1) (goes_on_ends s b m.1 h)
goes_on_ends s (either a b) m (inl h) = or_left (marked_end a m.0) (marked_end b m.1) (goes_on_ends s a m.0 h)
goes_on_ends s (either a b) m (inr h) = or_right (marked_end a m.0) (marked_end b m.1) (goes_on_ends s b m.1 h)
goes_on_ends s (optional a) m h = goes_on_ends s a m h
goes_on_ends s (star a) m h = goes_on_ends s a m (subst (GoesOn s a m) (sym (front_empty h.0 h.1 h.2)) h.3)
goes_on_ends s (plus a) m h = goes_on_ends s a m (subst (GoesOn s a m) (sym (front_empty h.0 h.1 h.2)) h.3)

-- repetitions

-- one more turn, and the rest
pub again : (s : SchemaSet) (a : SequenceType) (front rest : List Shape) → Takes s a front → Takes s (star a) rest → Takes s (star a) (front ++ rest)
again s a front rest h k = (front ∷ k.0, ap (λ xs. front ++ xs) k.1, (h, k.2))

-- what begins with a shape: the turn that has it, and the rest
abbrev pub Turn : SchemaSet → SequenceType → Shape → List Shape → Type 0
Turn s a x shapes = (front rest : List Shape) × (shapes ≡ front ++ rest) × Takes s a (x ∷ front) × Takes s (star a) rest

first_turn : (s : SchemaSet) (a : SequenceType) (x : Shape) (shapes part : List Shape) (parts : List (List Shape))
    → x ∷ shapes ≡ part ++ all_joined parts → Takes s a part → Each (Takes s a) parts
    → (x ∷ shapes ≡ all_joined parts → Turn s a x shapes) → Turn s a x shapes
first_turn s a x shapes [] parts e h hs later = later e
first_turn s a x shapes (y ∷ ys) parts e h hs later =
    let same : y ≡ x = cc in let rest : shapes ≡ ys ++ all_joined parts = cc in
    (ys, all_joined parts, rest, subst (λ z. Takes s a (z ∷ ys)) same h, (parts, refl, hs))

turns : (s : SchemaSet) (a : SequenceType) (x : Shape) (shapes : List Shape) (parts : List (List Shape))
    → x ∷ shapes ≡ all_joined parts → Each (Takes s a) parts → Turn s a x shapes
turns s a x shapes [] e hs = absurd (cc)
turns s a x shapes (part ∷ parts) e hs = first_turn s a x shapes part parts e hs.0 hs.1 (λ f. turns s a x shapes parts f hs.1)

pub turn_of_star : (s : SchemaSet) (a : SequenceType) (x : Shape) (shapes : List Shape) → Takes s (star a) (x ∷ shapes) → Turn s a x shapes
turn_of_star s a x shapes h = turns s a x shapes h.0 h.1 h.2

pub turn_of_plus : (s : SchemaSet) (a : SequenceType) (x : Shape) (shapes : List Shape) → Takes s (plus a) (x ∷ shapes) → Turn s a x shapes
turn_of_plus s a x shapes h = turns s a x shapes (h.0 ∷ h.1) h.2 (h.3, h.4)

-- one step over a shape

-- a list whose first shape is x goes on, or begins
abbrev pub GoesOrBegins : SchemaSet → (t : SequenceType) → Bool → Marks t → List Shape → Type 0
GoesOrBegins s t begins m shapes = GoesOn s t m shapes ⊎ (IsTrue begins × Takes s t shapes)

module _ (s : SchemaSet) (x : Shape) where
  -- the marks behind x
  abbrev pub behind : (t : SequenceType) → Bool → Marks t → Marks t
  behind t begins m = kept t (is_taken s x) (marked_next t begins m)

  -- a list of repetitions that goes on in a turn, or begins one
  repeats : (a : SequenceType) (begins : Bool) (m : Marks a) (front rest : List Shape)
      → GoesOrBegins s a (begins || marked_end a m) m (x ∷ front) → Takes s (star a) rest
      → GoesOn s (star a) m (x ∷ (front ++ rest)) ⊎ (IsTrue begins × Turn s a x (front ++ rest))
  repeats a begins m front rest (inl g) r = inl (x ∷ front, rest, refl, g, r)
  repeats a begins m front rest (inr g) r =
      elim (or_cases begins (marked_end a m) g.0) [
        | inl b ↦ inr (b, (front, rest, refl, g.1, r))
        | inr e ↦ inl ([], x ∷ (front ++ rest), refl, ends_go_on s a m e, again s a (x ∷ front) rest g.1 r)
      ]

  pub step_forward : (t : SequenceType) (begins : Bool) (m : Marks t) (shapes : List Shape) → IsDecided s x t
      → GoesOn s t (behind t begins m) shapes → GoesOrBegins s t begins m (x ∷ shapes)
  step_forward never begins m shapes d h = absurd h
  step_forward nothing begins m shapes d h = absurd h
  step_forward (item kind) begins m shapes d h =
      let p = and_parts begins (is_taken s x kind) h.0 in inr (p.0, (x, ap (λ xs. x ∷ xs) h.1, d.0 p.1))
  step_forward (both a b) begins m shapes d (inl h) =
      elim (step_forward a begins m.0 h.0 d.0 h.3) [
        | inl g ↦ inl (inl (x ∷ h.0, h.1, ap (λ xs. x ∷ xs) h.2, g, h.4))
        | inr g ↦ inr (g.0, (x ∷ h.0, h.1, ap (λ xs. x ∷ xs) h.2, g.1, h.4))
      ]
  step_forward (both a b) begins m shapes d (inr h) =
      elim (step_forward b ((begins && is_nullable a) || marked_end a m.0) m.1 shapes d.1 h) [
        | inl g ↦ inl (inr g)
        | inr g ↦ elim (or_cases (begins && is_nullable a) (marked_end a m.0) g.0) [
          | inl k ↦ let p = and_parts begins (is_nullable a) k in inr (p.0, ([], x ∷ shapes, refl, nullable_takes s a p.1, g.1))
          | inr k ↦ inl (inl ([], x ∷ shapes, refl, ends_go_on s a m.0 k, g.1))
        ]
      ]
  step_forward (either a b) begins m shapes d (inl h) =
      elim (step_forward a begins m.0 shapes d.0 h) [ inl g ↦ inl (inl g) | inr g ↦ inr (g.0, inl g.1) ]
  step_forward (either a b) begins m shapes d (inr h) =
      elim (step_forward b begins m.1 shapes d.1 h) [ inl g ↦ inl (inr g) | inr g ↦ inr (g.0, inr g.1) ]
  step_forward (optional a) begins m shapes d h =
      elim (step_forward a begins m shapes d h) [ inl g ↦ inl g | inr g ↦ inr (g.0, inr g.1) ]
  step_forward (star a) begins m shapes d h =
      let i = step_forward a (begins || marked_end a m) m h.0 d h.3 in
      elim (repeats a begins m h.0 h.1 i h.4) [
        | inl g ↦ inl (subst (λ xs. GoesOn s (star a) m (x ∷ xs)) (sym h.2) g)
        | inr g ↦ inr (g.0, subst (λ xs. Takes s (star a) (x ∷ xs)) (sym h.2 ∙ refl) (subst (λ xs. Takes s (star a) (x ∷ xs)) (sym g.1.2) (again s a (x ∷ g.1.0) g.1.1 g.1.3 g.1.4)))
      ]
  step_forward (plus a) begins m shapes d h =
      let i = step_forward a (begins || marked_end a m) m h.0 d h.3 in
      elim (repeats a begins m h.0 h.1 i h.4) [
        | inl g ↦ inl (subst (λ xs. GoesOn s (plus a) m (x ∷ xs)) (sym h.2) g)
        | inr g ↦ inr (g.0, (x ∷ g.1.0, g.1.4.0, ap (λ xs. x ∷ xs) (h.2 ∙ g.1.2 ∙ ap (λ ys. g.1.0 ++ ys) g.1.4.1), g.1.3, g.1.4.2))
      ]

  -- a list that goes on in a turn begins there
  in_turn : (a : SequenceType) (begins : Bool) (m : Marks a) (shapes : List Shape)
      → ((begins2 : Bool) (shapes2 : List Shape) → GoesOrBegins s a begins2 m (x ∷ shapes2) → GoesOn s a (behind a begins2 m) shapes2)
      → (front rest : List Shape) → x ∷ shapes ≡ front ++ rest → GoesOn s a m front → Takes s (star a) rest
      → GoesOn s (star a) (behind (star a) begins m) shapes
  in_turn a begins m shapes back [] rest e g r =
      let q = turn_of_star s a x shapes (subst (Takes s (star a)) (sym e) r) in
      (q.0, q.1, q.2, back (begins || marked_end a m) q.0 (inr (or_right begins (marked_end a m) (goes_on_ends s a m g), q.3)), q.4)
  in_turn a begins m shapes back (y ∷ ys) rest e g r =
      let same : y ≡ x = cc in let others : shapes ≡ ys ++ rest = cc in
      (ys, rest, others, back (begins || marked_end a m) ys (inl (subst (λ z. GoesOn s a m (z ∷ ys)) same g)), r)

  begins_turn : (a : SequenceType) (begins : Bool) (m : Marks a) (shapes : List Shape)
      → ((begins2 : Bool) (shapes2 : List Shape) → GoesOrBegins s a begins2 m (x ∷ shapes2) → GoesOn s a (behind a begins2 m) shapes2)
      → IsTrue begins → Turn s a x shapes → GoesOn s (star a) (behind (star a) begins m) shapes
  begins_turn a begins m shapes back b q =
      (q.0, q.1, q.2, back (begins || marked_end a m) q.0 (inr (or_left begins (marked_end a m) b, q.3)), q.4)

  -- in a sequence
  in_first : (a b : SequenceType) (begins : Bool) (m : Marks (both a b)) (shapes : List Shape)
      → ((begins2 : Bool) (shapes2 : List Shape) → GoesOrBegins s a begins2 m.0 (x ∷ shapes2) → GoesOn s a (behind a begins2 m.0) shapes2)
      → ((begins2 : Bool) (shapes2 : List Shape) → GoesOrBegins s b begins2 m.1 (x ∷ shapes2) → GoesOn s b (behind b begins2 m.1) shapes2)
      → (front rest : List Shape) → x ∷ shapes ≡ front ++ rest → GoesOrBegins s a begins m.0 front → Takes s b rest
      → GoesOn s (both a b) (behind (both a b) begins m) shapes
  in_first a b begins m shapes one other [] rest e (inl g) r =
      inr (other ((begins && is_nullable a) || marked_end a m.0) shapes (inr (or_right (begins && is_nullable a) (marked_end a m.0) (goes_on_ends s a m.0 g), subst (Takes s b) (sym e) r)))
  in_first a b begins m shapes one other [] rest e (inr g) r =
      inr (other ((begins && is_nullable a) || marked_end a m.0) shapes
      (inr (or_left (begins && is_nullable a) (marked_end a m.0) (and_from begins (is_nullable a) g.0 (takes_nullable s a g.1)), subst (Takes s b) (sym e) r)))
  in_first a b begins m shapes one other (y ∷ ys) rest e g r =
      let same : y ≡ x = cc in let others : shapes ≡ ys ++ rest = cc in
      inl (ys, rest, others, one begins ys (subst (λ z. GoesOrBegins s a begins m.0 (z ∷ ys)) same g), r)

  pub step_back : (t : SequenceType) (m : Marks t) → IsDecided s x t → (begins : Bool) (shapes : List Shape)
      → GoesOrBegins s t begins m (x ∷ shapes) → GoesOn s t (behind t begins m) shapes
  step_back never m d begins shapes (inl h) = absurd h
  step_back never m d begins shapes (inr h) = absurd h.1
  step_back nothing m d begins shapes (inl h) = absurd h
  step_back nothing m d begins shapes (inr h) = let e = h.1 in absurd (cc)
  step_back (item kind) m d begins shapes (inl h) = let e = h.1 in absurd (cc)
  step_back (item kind) m d begins shapes (inr h) =
      let e = h.1.1 in let same : h.1.0 ≡ x = cc in let rest : shapes ≡ [] = cc in
      (and_from begins (is_taken s x kind) h.0 (d.1 (subst (ItemTakes s kind) same h.1.2)), rest)
  step_back (both a b) m d begins shapes (inl (inl h)) = in_first a b begins m shapes (step_back a m.0 d.0) (step_back b m.1 d.1) h.0 h.1 h.2 (inl h.3) h.4
  step_back (both a b) m d begins shapes (inl (inr h)) = inr (step_back b m.1 d.1 ((begins && is_nullable a) || marked_end a m.0) shapes (inl h))
  step_back (both a b) m d begins shapes (inr h) =
      in_first a b begins m shapes (step_back a m.0 d.0) (step_back b m.1 d.1) h.1.0 h.1.1 h.1.2 (inr (h.0, h.1.3)) h.1.4
  step_back (either a b) m d begins shapes (inl (inl h)) = inl (step_back a m.0 d.0 begins shapes (inl h))
  step_back (either a b) m d begins shapes (inl (inr h)) = inr (step_back b m.1 d.1 begins shapes (inl h))
  step_back (either a b) m d begins shapes (inr (b2, inl h)) = inl (step_back a m.0 d.0 begins shapes (inr (b2, h)))
  step_back (either a b) m d begins shapes (inr (b2, inr h)) = inr (step_back b m.1 d.1 begins shapes (inr (b2, h)))
  step_back (optional a) m d begins shapes (inl h) = step_back a m d begins shapes (inl h)
  step_back (optional a) m d begins shapes (inr (b2, inl e)) = absurd (cc)
  step_back (optional a) m d begins shapes (inr (b2, inr h)) = step_back a m d begins shapes (inr (b2, h))
  step_back (star a) m d begins shapes (inl h) = in_turn a begins m shapes (step_back a m d) h.0 h.1 h.2 h.3 h.4
  step_back (star a) m d begins shapes (inr h) = begins_turn a begins m shapes (step_back a m d) h.0 (turn_of_star s a x shapes h.1)
  step_back (plus a) m d begins shapes (inl h) = in_turn a begins m shapes (step_back a m d) h.0 h.1 h.2 h.3 h.4
  step_back (plus a) m d begins shapes (inr h) = begins_turn a begins m shapes (step_back a m d) h.0 (turn_of_plus s a x shapes h.1)
