use Rattle.std.proofs.Common.{◌≡◌, ◌≢◌, ℕ, ◌≤◌, Bool, true, false, if◌then◌else◌, ◌&&◌, List, [], ◌∷◌, ◌++◌, ◌⊎◌, inl, inr, length, refl, sym, ap, ap₂, subst, ◌∙◌, append_assoc, append-nil, Option, Some, None, arith}
use Rattle.gx_grammar.specs.Tokens.{LawfulToken, no_fault}
use Rattle.gx_grammar.specs.Walks.{Walk, all_walk, reached, walk_of, behind_walk, head_goes, IsWalk, scan_walk, opens_walk, seen_walk}
use Rattle.gx_grammar.proofs.Readings.{by_test}
use Rattle.gx_grammar.proofs.Tokens.{and_parts, same_end, longer_front}
use Rattle.gx_grammar.proofs.Unique.{same_some}

module _ (w : Walk) where
  walk_front : (n : ℕ) (x y : List ℕ) → all_walk w n (x ++ y) ≡ true → all_walk w n x ≡ true
  walk_front n [] y e = refl
  walk_front n (c ∷ x) y e = let p = and_parts (w.goes n c) (all_walk w (w.next n c) (x ++ y)) e in ap₂ (λ a b. a && b) p.0 (walk_front (w.next n c) x y p.1)

  walk_whole : (n : ℕ) (x : List ℕ) → x ≡ walk_of w n x ++ behind_walk w n x
  walk_whole n [] = refl
  walk_whole n (c ∷ x) =
      let r = walk_whole (w.next n c) x in
      elim (w.goes n c) as (λ b. (c ∷ x) ≡ (if b then (c ∷ walk_of w (w.next n c) x) else []) ++ (if b then (behind_walk w (w.next n c) x) else (c ∷ x))) [ true ↦ ap (λ q. c ∷ q) r | false ↦ refl ]

  walk_passes : (n : ℕ) (x : List ℕ) → all_walk w n (walk_of w n x) ≡ true
  walk_passes n [] = refl
  walk_passes n (c ∷ x) =
      let r = walk_passes (w.next n c) x in
      by_test (w.goes n c) (c ∷ walk_of w (w.next n c) x) [] (λ q. all_walk w n q ≡ true) (λ f. ap₂ (λ a b. a && b) f r) (λ f. refl)

  walk_ends : (n : ℕ) (x : List ℕ) → head_goes w (reached w n (walk_of w n x)) (behind_walk w n x) ≡ false
  walk_ends n [] = refl
  walk_ends n (c ∷ x) = go (w.goes n c) refl (walk_ends (w.next n c) x)
    where
      go : (b : Bool) → w.goes n c ≡ b → head_goes w (reached w (w.next n c) (walk_of w (w.next n c) x)) (behind_walk w (w.next n c) x) ≡ false → head_goes w (reached w n (if b then (c ∷ walk_of w (w.next n c) x) else [])) (if b then (behind_walk w (w.next n c) x) else (c ∷ x)) ≡ false
      go true f h = h
      go false f h = f

  walk_is : (n : ℕ) (r y : List ℕ) → all_walk w n r ≡ true → head_goes w (reached w n r) y ≡ false → (walk_of w n (r ++ y) ≡ r) × (behind_walk w n (r ++ y) ≡ y)
  walk_is n [] [] e f = (refl, refl)
  walk_is n [] (c ∷ y) e f = (ap (λ b. if b then (c ∷ walk_of w (w.next n c) y) else []) f, ap (λ b. if b then (behind_walk w (w.next n c) y) else (c ∷ y)) f)
  walk_is n (c ∷ r) y e f =
      let p = and_parts (w.goes n c) (all_walk w (w.next n c) r) e in
      let q = walk_is (w.next n c) r y p.1 f in
      (ap (λ b. if b then (c ∷ walk_of w (w.next n c) (r ++ y)) else []) p.0 ∙ ap (λ v. c ∷ v) q.0, ap (λ b. if b then (behind_walk w (w.next n c) (r ++ y)) else (c ∷ (r ++ y))) p.0 ∙ q.1)

  pub walk_short : (n : ℕ) (x : List ℕ) → length (behind_walk w n x) ≤ length x
  walk_short n [] = omega arith
  walk_short n (c ∷ x) = let r = walk_short (w.next n c) x in by_test (w.goes n c) (behind_walk w (w.next n c) x) (c ∷ x) (λ q. length q ≤ length (c ∷ x)) (λ f. omega (arith, r)) (λ f. omega arith)

  longest_walk : (n : ℕ) (p z : List ℕ) → all_walk w n p ≡ true → length (behind_walk w n (p ++ z)) ≤ length z
  longest_walk n [] z e = walk_short n z
  longest_walk n (c ∷ p) z e =
      let q = and_parts (w.goes n c) (all_walk w (w.next n c) p) e in
      subst (λ b. length (if b then (behind_walk w (w.next n c) (p ++ z)) else (c ∷ (p ++ z))) ≤ length z) (sym q.0) (longest_walk (w.next n c) p z q.1)

  walk_full : (n : ℕ) (x : List ℕ) → head_goes w n x ≡ true → walk_of w n x ≢ []
  walk_full n [] e = absurd (cc)
  walk_full n (c ∷ x) e = λ f. absurd (cc f)

  walk_begins : (n : ℕ) (r y : List ℕ) → r ≢ [] → all_walk w n r ≡ true → head_goes w n (r ++ y) ≡ true
  walk_begins n [] y f e = absurd (f refl)
  walk_begins n (c ∷ r) y f e = (and_parts (w.goes n c) (all_walk w (w.next n c) r) e).0

module _ {V : Type 0} (value : List ℕ → V) (w : Walk) (start : ℕ) where
  abbrev where_goes : Bool → List ℕ → Option (V × List ℕ)
  where_goes b x = if b then (Some (value (walk_of w start x), behind_walk w start x)) else None

  sound : (v : V) (x y : List ℕ) → scan_walk value w start x ≡ Some (v, y) → IsWalk value w start v x y
  sound v x y e = go (head_goes w start x) refl e
    where
      go : (b : Bool) → head_goes w start x ≡ b → where_goes b x ≡ Some (v, y) → IsWalk value w start v x y
      go true f g =
          let s = same_some (value (walk_of w start x), behind_walk w start x) (v, y) g in
          record {
            run = walk_of w start x;
            same = sym s.0;
            full = walk_full w start x f;
            spelled = walk_whole w start x ∙ ap (λ q. walk_of w start x ++ q) s.1;
            walks = walk_passes w start x;
            longest = sym (ap (head_goes w (reached w start (walk_of w start x))) s.1) ∙ walk_ends w start x;
          }
      go false f g = absurd (cc)

  complete : (v : V) (x y : List ℕ) → IsWalk value w start v x y → scan_walk value w start x ≡ Some (v, y)
  complete v x y d =
      let q = walk_is w start d.run y d.walks d.longest in
      ap (scan_walk value w start) d.spelled
      ∙ ap (λ b. where_goes b (d.run ++ y)) (walk_begins w start d.run y d.full d.walks)
      ∙ ap₂ (λ r b. Some (value r, b)) q.0 q.1
      ∙ ap (λ u. Some (u, y)) (sym d.same)

  head_cut : (n : ℕ) (y z : List ℕ) → head_goes w n (y ++ z) ≡ false → head_goes w n y ≡ false
  head_cut n [] z e = refl
  head_cut n (c ∷ y) z e = e

  goes_on : (v : V) (x y z : List ℕ) → IsWalk value w start v x y → IsWalk value w start v (x ++ z) (y ++ z) ⊎ opens_walk w start x
  goes_on v x [] z d = inr (ap (all_walk w start) (d.spelled ∙ append-nil d.run) ∙ d.walks)
  goes_on v x (c ∷ y) z d = inl (record { run = d.run; same = d.same; full = d.full; spelled = ap (λ q. q ++ z) d.spelled ∙ append_assoc d.run (c ∷ y) z; walks = d.walks; longest = d.longest })

  fronts : (v : V) (x y z : List ℕ) → IsWalk value w start v (x ++ z) y → length y ≤ length z → opens_walk w start x
  fronts v x y z d h = let f = longer_front x z d.run y d.spelled h in walk_front w start x f.0 (sym (ap (all_walk w start) f.1) ∙ d.walks)

  pub lawful_walk : LawfulToken (IsWalk value w start) (opens_walk w start) (scan_walk value w start) (seen_walk w start) no_fault
  lawful_walk = record {
    sound = sound;
    complete = complete;
    ends = λ v x y d. (d.run, d.spelled);
    cut = λ v x y z d. record { run = d.run; same = d.same; full = d.full; spelled = same_end x y z d.run d.spelled; walks = d.walks; longest = head_cut (reached w start d.run) y z d.longest };
    goes_on = goes_on;
    fronts = fronts;
    sees = λ x. record { front = walk_of w start x; rest = behind_walk w start x; whole = walk_whole w start x; place = refl; opened = inr (walk_passes w start x) };
    longest = λ x z o. longest_walk w start x z o;
    firm = λ v x y d. refl;
    faultless = refl;
  }
