use Rattle.std.proofs.Common.{◌≡◌, ℕ, ◌≤◌, Bool, true, false, if◌then◌else◌, List, [], ◌∷◌, ◌++◌, ◌⊎◌, inl, inr, length, length-append, refl, sym, ap, ap₂, subst, ◌∙◌, append_assoc, append-nil, Option, Some, None, drop, arith}
use Rattle.std.proofs.lemmas.List.{append_cancel_right}
use Rattle.gx_grammar.specs.Tokens.{LawfulToken, SeesUpTo, no_fault}
use Rattle.gx_grammar.specs.Joined.{AreJoined, OpensJoined, with_front, scan_behind, scan_joined, seen_behind, seen_joined, IsOptional, scan_optional, Tells}
use Rattle.gx_grammar.proofs.Readings.{min_is}
use Rattle.gx_grammar.proofs.Unique.{same_some}

-- a front of a text ends before what is left of it, or behind that
split : (a m x z : List ℕ) → a ++ m ≡ x ++ z → (length m ≤ length z) ⊎ ((w : List ℕ) × (m ≡ w ++ z))
split [] m x z e = inr (x, e)
split (c ∷ a) m [] z e = inl (omega (arith, ap length e, length-append (c ∷ a) m))
split (c ∷ a) m (b ∷ x) z e = split a m x z (ap (drop 1) e)

module _ {V : Type 0} (first : V → List ℕ → List ℕ → Type 0) (opens1 : List ℕ → Type 0) (scan1 : List ℕ → Option (V × List ℕ)) (seen1 : List ℕ → ℕ) (left : LawfulToken first opens1 scan1 seen1 no_fault)
    (second : V → List ℕ → List ℕ → Type 0) (opens2 : List ℕ → Type 0) (scan2 : List ℕ → Option (V × List ℕ)) (seen2 : List ℕ → ℕ) (right : LawfulToken second opens2 scan2 seen2 no_fault)
    (value : V → V → V) where
  abbrev Both : V → List ℕ → List ℕ → Type 0
  Both = AreJoined first second value

  abbrev opens : List ℕ → Type 0
  opens = OpensJoined first opens1 opens2

  joined_sound : (v : V) (x y : List ℕ) → scan_joined scan1 scan2 value x ≡ Some (v, y) → Both v x y
  joined_sound v x y e = go (scan1 x) refl e
    where
      inner : (r : V × List ℕ) (q : Option (V × List ℕ)) → first r.0 x r.1 → scan2 r.1 ≡ q → with_front value r.0 q ≡ Some (v, y) → Both v x y
      inner r None d f g = absurd (cc)
      inner r (Some p) d f g =
          let s = same_some (value r.0 p.0, p.1) (v, y) g in
          record { front = r.0; back = p.0; between = r.1; begins = d; ends = subst (λ w. second p.0 r.1 w) s.1 (right.sound p.0 r.1 p.1 f); same = sym s.0 }

      go : (q : Option (V × List ℕ)) → scan1 x ≡ q → scan_behind scan2 value q ≡ Some (v, y) → Both v x y
      go None f g = absurd (cc)
      go (Some r) f g = inner r (scan2 r.1) (left.sound r.0 x r.1 f) refl g

  joined_complete : (v : V) (x y : List ℕ) → Both v x y → scan_joined scan1 scan2 value x ≡ Some (v, y)
  joined_complete v x y d =
      ap (scan_behind scan2 value) (left.complete d.front x d.between d.begins)
      ∙ ap (with_front value d.front) (right.complete d.back d.between y d.ends)
      ∙ ap (λ w. Some (w, y)) (sym d.same)

  joined_ends : (v : V) (x y : List ℕ) → Both v x y → (a : List ℕ) × (x ≡ a ++ y)
  joined_ends v x y d =
      let a = left.ends d.front x d.between d.begins in
      let b = right.ends d.back d.between y d.ends in
      (a.0 ++ b.0, a.1 ∙ ap (λ w. a.0 ++ w) b.1 ∙ sym (append_assoc a.0 b.0 y))

  joined_cut : (v : V) (x y z : List ℕ) → Both v (x ++ z) (y ++ z) → Both v x y
  joined_cut v x y z d =
      let b = right.ends d.back d.between (y ++ z) d.ends in
      let e : d.between ≡ (b.0 ++ y) ++ z = b.1 ∙ sym (append_assoc b.0 y z) in
      record {
        front = d.front;
        back = d.back;
        between = b.0 ++ y;
        begins = left.cut d.front x (b.0 ++ y) z (subst (λ w. first d.front (x ++ z) w) e d.begins);
        ends = right.cut d.back (b.0 ++ y) y z (subst (λ w. second d.back w (y ++ z)) e d.ends);
        same = d.same;
      }

  joined_goes_on : (v : V) (x y z : List ℕ) → Both v x y → Both v (x ++ z) (y ++ z) ⊎ opens x
  joined_goes_on v x y z d = elim (left.goes_on d.front x d.between z d.begins) [
    | inl e ↦ elim (right.goes_on d.back d.between y z d.ends) [
      | inl f ↦ inl (record { front = d.front; back = d.back; between = d.between ++ z; begins = e; ends = f; same = d.same })
      | inr o ↦ inr (inr (d.front, d.between, d.begins, o))
    ]
    | inr o ↦ inr (inl o)
  ]

  joined_fronts : (v : V) (x y z : List ℕ) → Both v (x ++ z) y → length y ≤ length z → opens x
  joined_fronts v x y z d h =
      let a = left.ends d.front (x ++ z) d.between d.begins in
      elim (split a.0 d.between x z (sym a.1)) [
        | inl k ↦ inl (left.fronts d.front x d.between z d.begins k)
        | inr k ↦ inr (
          d.front,
          k.0,
          left.cut d.front x k.0 z (subst (λ w. first d.front (x ++ z) w) k.1 d.begins),
          right.fronts d.back k.0 y z (subst (λ w. second d.back w y) k.1 d.ends) h,
        )
      ]

  first_sees : (x : List ℕ) → SeesUpTo opens x (seen1 x)
  first_sees x = let s = left.sees x in record { front = s.front; rest = s.rest; whole = s.whole; place = s.place; opened = elim s.opened [ inl e ↦ inl e | inr o ↦ inr (inl o) ] }

  -- what opens the second behind the first opens both
  second_sees : (v : V) (x y : List ℕ) → first v x y → SeesUpTo opens x (seen2 y)
  second_sees v x y d =
      let a = left.ends v x y d in
      let s = right.sees y in
      let w : x ≡ (a.0 ++ s.front) ++ s.rest = a.1 ∙ ap (λ q. a.0 ++ q) s.whole ∙ sym (append_assoc a.0 s.front s.rest) in
      let c : first v (a.0 ++ s.front) s.front = left.cut v (a.0 ++ s.front) s.front s.rest (subst (λ q. first v q (s.front ++ s.rest)) w (subst (λ q. first v x q) s.whole d)) in
      record { front = a.0 ++ s.front; rest = s.rest; whole = w; place = s.place; opened = inr (opened s.front s.opened (a.0 ++ s.front) c) }
    where
      opened : (f : List ℕ) → (f ≡ []) ⊎ opens2 f → (g : List ℕ) → first v g f → opens g
      opened f (inl e) g c = inl (left.fronts v g f [] (subst (λ q. first v q f) (sym (append-nil g)) c) (subst (λ q. length q ≤ 0) (sym e) (omega arith)))
      opened f (inr o) g c = inr (v, f, c, o)

  joined_sees : (x : List ℕ) → SeesUpTo opens x (seen_joined scan1 seen1 seen2 x)
  joined_sees x = go (scan1 x) refl
    where
      go : (q : Option (V × List ℕ)) → scan1 x ≡ q → SeesUpTo opens x (seen_behind seen2 (seen1 x) q)
      go None e = first_sees x
      go (Some r) e = elim (min_is (seen1 x) (seen2 r.1)) [
        | inl f ↦ subst (λ n. SeesUpTo opens x n) (sym f) (first_sees x)
        | inr f ↦ subst (λ n. SeesUpTo opens x n) (sym f) (second_sees r.0 x r.1 (left.sound r.0 x r.1 e))
      ]

  behind_least : (n : ℕ) (q : Option (V × List ℕ)) → seen_behind seen2 n q ≤ n
  behind_least n None = omega arith
  behind_least n (Some r) = omega arith

  joined_longest : (x z : List ℕ) → opens x → seen_joined scan1 seen1 seen2 (x ++ z) ≤ length z
  joined_longest x z (inl o) = let h = behind_least (seen1 (x ++ z)) (scan1 (x ++ z)) in let k = left.longest x z o in omega (arith, h, k)
  joined_longest x z (inr o) = elim (left.goes_on o.0 x o.1 z o.2) [
    | inl d ↦ (let k = right.longest o.1 z o.3 in
        subst (λ q. seen_behind seen2 (seen1 (x ++ z)) q ≤ length z) (sym (left.complete o.0 (x ++ z) (o.1 ++ z) d)) (omega (arith, k)))
    | inr p ↦ (let h = behind_least (seen1 (x ++ z)) (scan1 (x ++ z)) in let k = left.longest x z p in omega (arith, h, k))
  ]

  pub lawful_joined : LawfulToken Both opens (scan_joined scan1 scan2 value) (seen_joined scan1 seen1 seen2) no_fault
  lawful_joined = record {
    sound = joined_sound;
    complete = joined_complete;
    ends = joined_ends;
    cut = joined_cut;
    goes_on = joined_goes_on;
    fronts = joined_fronts;
    sees = joined_sees;
    longest = joined_longest;
    firm = λ v x y d. refl;
    faultless = refl;
  }

module _ {V : Type 0} (derives : V → List ℕ → List ℕ → Type 0) (opens : List ℕ → Type 0) (scan : List ℕ → Option (V × List ℕ)) (seen : List ℕ → ℕ) (base : LawfulToken derives opens scan seen no_fault) (starts : List ℕ → Bool) (value : V)
    (tells : Tells derives opens starts) where
  optional_sound : (v : V) (x y : List ℕ) → scan_optional scan starts value x ≡ Some (v, y) → IsOptional derives starts value v x y
  optional_sound v x y e = go (starts x) refl e
    where
      go : (b : Bool) → starts x ≡ b → (if b then (scan x) else (Some (value, x))) ≡ Some (v, y) → IsOptional derives starts value v x y
      go true f g = inl (base.sound v x y g)
      go false f g = let s = same_some (value, x) (v, y) g in inr (f, sym s.0, sym s.1)

  optional_complete : (v : V) (x y : List ℕ) → IsOptional derives starts value v x y → scan_optional scan starts value x ≡ Some (v, y)
  optional_complete v x y (inl d) = ap (λ b. if b then (scan x) else (Some (value, x))) (tells.begins v x y d) ∙ base.complete v x y d
  optional_complete v x y (inr d) = ap (λ b. if b then (scan x) else (Some (value, x))) d.0 ∙ ap₂ (λ w q. Some (w, q)) (sym d.1) (sym d.2)

  optional_ends : (v : V) (x y : List ℕ) → IsOptional derives starts value v x y → (a : List ℕ) × (x ≡ a ++ y)
  optional_ends v x y (inl d) = base.ends v x y d
  optional_ends v x y (inr d) = ([], sym d.2)

  optional_cut : (v : V) (x y z : List ℕ) → IsOptional derives starts value v (x ++ z) (y ++ z) → IsOptional derives starts value v x y
  optional_cut v x y z (inl d) = inl (base.cut v x y z d)
  optional_cut v x y z (inr d) = inr (tells.stays x z d.0, d.1, append_cancel_right y x z d.2)

  optional_goes_on : (v : V) (x y z : List ℕ) → IsOptional derives starts value v x y → IsOptional derives starts value v (x ++ z) (y ++ z) ⊎ opens x
  optional_goes_on v x y z (inl d) = elim (base.goes_on v x y z d) [ inl e ↦ inl (inl e) | inr o ↦ inr o ]
  optional_goes_on v x y z (inr d) = elim (tells.grows x z d.0) [ inl e ↦ inl (inr (e, d.1, ap (λ q. q ++ z) d.2)) | inr o ↦ inr o ]

  optional_fronts : (v : V) (x y z : List ℕ) → IsOptional derives starts value v (x ++ z) y → length y ≤ length z → opens x
  optional_fronts v x y z (inl d) h = base.fronts v x y z d h
  optional_fronts v [] y z (inr d) h = tells.empty
  optional_fronts v (c ∷ x) y z (inr d) h = absurd (omega (arith, h, ap length d.2, length-append (c ∷ x) z))

  -- A token that may be left out, where a test tells whether it starts.
  pub lawful_optional : LawfulToken (IsOptional derives starts value) opens (scan_optional scan starts value) seen no_fault
  lawful_optional = record {
    sound = optional_sound;
    complete = optional_complete;
    ends = optional_ends;
    cut = optional_cut;
    goes_on = optional_goes_on;
    fronts = optional_fronts;
    sees = base.sees;
    longest = base.longest;
    firm = λ v x y d. refl;
    faultless = refl;
  }
