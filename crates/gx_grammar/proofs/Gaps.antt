use Rattle.std.proofs.Common.{◌≡◌, ◌≢◌, ℕ, zero, suc, ◌≤◌, ◌==◌, Bool, true, false, not, if◌then◌else◌, ◌&&◌, ◌||◌, List, [], ◌∷◌, ◌++◌, ◌⊎◌, inl, inr, length, length-append, refl, sym, ap, ap₂, subst, ◌∙◌, append_assoc, Option, Some, None, eqb-true, arith}
use Rattle.std.proofs.lemmas.List.{append_cancel_right}
use Rattle.gx_grammar.specs.Tokens.{LawfulToken, no_fault}
use Rattle.gx_base.specs.WhiteSpace.{is_white_space}
use Rattle.gx_grammar.specs.Gaps.{begins_comment, ends_comment, ends_gap, goes_on_inside, Gap, gap_ends, gap_white, comment_begins, comment_ends, comment_goes_on, OpensGap, opens_end, opens_paren, opens_white, opens_begin, opens_close, opens_on, behind_gap, seen_gap, IsGap, with_value, scan_gap}
use Rattle.gx_grammar.proofs.Readings.{by_test}
use Rattle.gx_grammar.proofs.Tokens.{and_parts}
use Rattle.gx_grammar.proofs.Unique.{same_some}

not_false : (b : Bool) → not b ≡ true → b ≡ false
not_false true e = absurd (cc)
not_false false e = refl

not_is : (b : Bool) → b ≡ false → not b ≡ true
not_is b e = ap not e

begins_are : (c e : ℕ) → begins_comment c e ≡ true → (c ≡ 40) × (e ≡ 58)
begins_are c e h = let p = and_parts (c == 40) (e == 58) h in (eqb-true c 40 p.0, eqb-true e 58 p.1)

ends_are : (c e : ℕ) → ends_comment c e ≡ true → (c ≡ 58) × (e ≡ 41)
ends_are c e h = let p = and_parts (c == 58) (e == 41) h in (eqb-true c 58 p.0, eqb-true e 41 p.1)

both_true : (a b : Bool) → a ≡ true → b ≡ true → (a && b) ≡ true
both_true a b e f = ap₂ (λ x y. x && y) e f

-- scanning

module _ (P : List ℕ → Type 0) where
  begun : (c e : ℕ) (x : List ℕ) → begins_comment c e ≡ true → P (40 ∷ 58 ∷ x) → P (c ∷ e ∷ x)
  begun c e x h p = let q = begins_are c e h in subst (λ a. P (a ∷ e ∷ x)) (sym q.0) (subst (λ b. P (40 ∷ b ∷ x)) (sym q.1) p)

  ended : (c e : ℕ) (x : List ℕ) → ends_comment c e ≡ true → P (58 ∷ 41 ∷ x) → P (c ∷ e ∷ x)
  ended c e x h p = let q = ends_are c e h in subst (λ a. P (a ∷ e ∷ x)) (sym q.0) (subst (λ b. P (58 ∷ b ∷ x)) (sym q.1) p)

-- The delimiters of comments pass the test.
module _ (allowed : ℕ → Bool) (delimiters : (allowed 40 ≡ true) × (allowed 58 ≡ true)) where
  gap_sound : (depth : ℕ) (x y : List ℕ) → behind_gap allowed depth x ≡ Some y → Gap allowed depth x y
  gap_sound zero [] y h = subst (λ w. Gap allowed 0 [] w) (cc) (gap_ends refl)
  gap_sound (suc depth) [] y h = absurd (cc)
  gap_sound zero (c ∷ []) y h = go (is_white_space c) refl h
    where
      go : (b : Bool) → is_white_space c ≡ b → (if b then (Some []) else (Some (c ∷ []))) ≡ Some y → Gap allowed 0 (c ∷ []) y
      go true f g = gap_white f (subst (λ w. Gap allowed 0 [] w) (cc) (gap_ends refl))
      go false f g = subst (λ w. Gap allowed 0 (c ∷ []) w) (cc) (gap_ends (not_is (is_white_space c) f))
  gap_sound (suc depth) (c ∷ []) y h = absurd (cc)
  gap_sound zero (c ∷ e ∷ x) y h = go (is_white_space c) refl h (λ g. gap_sound zero (e ∷ x) y g) (λ g. gap_sound 1 x y g)
    where
      inner : (b : Bool) → is_white_space c ≡ false → begins_comment c e ≡ b → (if b then (behind_gap allowed 1 x) else (Some (c ∷ e ∷ x))) ≡ Some y → (behind_gap allowed 1 x ≡ Some y → Gap allowed 1 x y) → Gap allowed 0 (c ∷ e ∷ x) y
      inner true w f g comment = begun (λ t. Gap allowed 0 t y) c e x f (comment_begins (comment g))
      inner false w f g comment = subst (λ t. Gap allowed 0 (c ∷ e ∷ x) t) (cc) (gap_ends (both_true (not (is_white_space c)) (not (begins_comment c e)) (not_is (is_white_space c) w) (not_is (begins_comment c e) f)))

      go : (b : Bool) → is_white_space c ≡ b → (if b then (behind_gap allowed zero (e ∷ x)) else (if begins_comment c e then (behind_gap allowed 1 x) else (Some (c ∷ e ∷ x)))) ≡ Some y
          → (behind_gap allowed zero (e ∷ x) ≡ Some y → Gap allowed 0 (e ∷ x) y) → (behind_gap allowed 1 x ≡ Some y → Gap allowed 1 x y) → Gap allowed 0 (c ∷ e ∷ x) y
      go true f g white comment = gap_white f (white g)
      go false f g white comment = inner (begins_comment c e) f refl g comment
  gap_sound (suc depth) (c ∷ e ∷ x) y h = go (begins_comment c e) refl h (λ g. gap_sound (suc (suc depth)) x y g) (λ g. gap_sound depth x y g) (λ g. gap_sound (suc depth) (e ∷ x) y g)
    where
      innermost : (b : Bool) → goes_on_inside c (e ∷ x) ≡ true → allowed c ≡ b → (if b then (behind_gap allowed (suc depth) (e ∷ x)) else None) ≡ Some y
          → (behind_gap allowed (suc depth) (e ∷ x) ≡ Some y → Gap allowed (suc depth) (e ∷ x) y) → Gap allowed (suc depth) (c ∷ e ∷ x) y
      innermost true h f g on = comment_goes_on h f (on g)
      innermost false h f g on = absurd (cc)

      inner : (b : Bool) → begins_comment c e ≡ false → ends_comment c e ≡ b → (if b then (behind_gap allowed depth x) else (if allowed c then (behind_gap allowed (suc depth) (e ∷ x)) else None)) ≡ Some y
          → (behind_gap allowed depth x ≡ Some y → Gap allowed depth x y) → (behind_gap allowed (suc depth) (e ∷ x) ≡ Some y → Gap allowed (suc depth) (e ∷ x) y) → Gap allowed (suc depth) (c ∷ e ∷ x) y
      inner true n f g out on = ended (λ t. Gap allowed (suc depth) t y) c e x f (comment_ends (out g))
      inner false n f g out on = innermost (allowed c) (both_true (not (begins_comment c e)) (not (ends_comment c e)) (not_is (begins_comment c e) n) (not_is (ends_comment c e) f)) refl g on

      go : (b : Bool) → begins_comment c e ≡ b → (if b then (behind_gap allowed (suc (suc depth)) x) else (if ends_comment c e then (behind_gap allowed depth x) else (if allowed c then (behind_gap allowed (suc depth) (e ∷ x)) else None))) ≡ Some y
          → (behind_gap allowed (suc (suc depth)) x ≡ Some y → Gap allowed (suc (suc depth)) x y) → (behind_gap allowed depth x ≡ Some y → Gap allowed depth x y) → (behind_gap allowed (suc depth) (e ∷ x) ≡ Some y → Gap allowed (suc depth) (e ∷ x) y) → Gap allowed (suc depth) (c ∷ e ∷ x) y
      go true f g deep out on = begun (λ t. Gap allowed (suc depth) t y) c e x f (comment_begins (deep g))
      go false f g deep out on = inner (ends_comment c e) f refl g out on

  ends_behind : (y : List ℕ) → ends_gap y ≡ true → behind_gap allowed 0 y ≡ Some y
  ends_behind [] h = refl
  ends_behind (c ∷ []) h = ap (λ b. if b then (Some []) else (Some (c ∷ []))) (not_false (is_white_space c) h)
  ends_behind (c ∷ e ∷ x) h =
      let p = and_parts (not (is_white_space c)) (not (begins_comment c e)) h in
      ap (λ b. if b then (behind_gap allowed zero (e ∷ x)) else (if begins_comment c e then (behind_gap allowed 1 x) else (Some (c ∷ e ∷ x)))) (not_false (is_white_space c) p.0)
      ∙ ap (λ b. if b then (behind_gap allowed 1 x) else (Some (c ∷ e ∷ x))) (not_false (begins_comment c e) p.1)

  behind_white : (c : ℕ) (x : List ℕ) → is_white_space c ≡ true → behind_gap allowed 0 (c ∷ x) ≡ behind_gap allowed 0 x
  behind_white c [] h = ap (λ b. if b then (Some []) else (Some (c ∷ []))) h
  behind_white c (e ∷ x) h = ap (λ b. if b then (behind_gap allowed zero (e ∷ x)) else (if begins_comment c e then (behind_gap allowed 1 x) else (Some (c ∷ e ∷ x)))) h

  behind_begin : (depth : ℕ) (x : List ℕ) → behind_gap allowed depth (40 ∷ 58 ∷ x) ≡ behind_gap allowed (suc depth) x
  behind_begin zero x = refl
  behind_begin (suc depth) x = refl

  inside_full : {depth : ℕ} {x y : List ℕ} → Gap allowed (suc depth) x y → x ≢ []
  inside_full (comment_begins d) = λ e. absurd (cc)
  inside_full (comment_ends d) = λ e. absurd (cc)
  inside_full (comment_goes_on f h d) = λ e. absurd (cc)

  behind_on : (depth c : ℕ) (x : List ℕ) → x ≢ [] → goes_on_inside c x ≡ true → allowed c ≡ true → behind_gap allowed (suc depth) (c ∷ x) ≡ behind_gap allowed (suc depth) x
  behind_on depth c [] n h q = absurd (n refl)
  behind_on depth c (e ∷ x) n h q =
      let p = and_parts (not (begins_comment c e)) (not (ends_comment c e)) h in
      ap (λ b. if b then (behind_gap allowed (suc (suc depth)) x) else (if ends_comment c e then (behind_gap allowed depth x) else (if allowed c then (behind_gap allowed (suc depth) (e ∷ x)) else None))) (not_false (begins_comment c e) p.0)
      ∙ ap (λ b. if b then (behind_gap allowed depth x) else (if allowed c then (behind_gap allowed (suc depth) (e ∷ x)) else None)) (not_false (ends_comment c e) p.1)
      ∙ ap (λ b. if b then (behind_gap allowed (suc depth) (e ∷ x)) else None) q

  gap_complete : {depth : ℕ} {x y : List ℕ} → Gap allowed depth x y → behind_gap allowed depth x ≡ Some y
  gap_complete (gap_ends {y = y} h) = ends_behind y h
  gap_complete (gap_white {c = c} {x = x} h d) = behind_white c x h ∙ gap_complete d
  gap_complete (comment_begins {depth = depth} {x = x} d) = behind_begin depth x ∙ gap_complete d
  gap_complete (comment_ends d) = gap_complete d
  gap_complete (comment_goes_on {depth = depth} {c = c} {x = x} h q d) = behind_on depth c x (inside_full d) h q ∙ gap_complete d

  -- fronts and ends

  gap_suffix : {depth : ℕ} {x y : List ℕ} → Gap allowed depth x y → (a : List ℕ) × (x ≡ a ++ y)
  gap_suffix (gap_ends h) = ([], refl)
  gap_suffix (gap_white {c = c} h d) = let r = gap_suffix d in (c ∷ r.0, ap (λ w. c ∷ w) r.1)
  gap_suffix (comment_begins d) = let r = gap_suffix d in (40 ∷ 58 ∷ r.0, ap (λ w. 40 ∷ 58 ∷ w) r.1)
  gap_suffix (comment_ends d) = let r = gap_suffix d in (58 ∷ 41 ∷ r.0, ap (λ w. 58 ∷ 41 ∷ w) r.1)
  gap_suffix (comment_goes_on {c = c} h q d) = let r = gap_suffix d in (c ∷ r.0, ap (λ w. c ∷ w) r.1)

  ends_cut : (y z : List ℕ) → ends_gap (y ++ z) ≡ true → ends_gap y ≡ true
  ends_cut [] z h = refl
  ends_cut (c ∷ []) [] h = h
  ends_cut (c ∷ []) (e ∷ z) h = (and_parts (not (is_white_space c)) (not (begins_comment c e)) h).0
  ends_cut (c ∷ e ∷ y) z h = h

  inside_cut : (c : ℕ) (y z : List ℕ) → goes_on_inside c (y ++ z) ≡ true → goes_on_inside c y ≡ true
  inside_cut c [] z h = refl
  inside_cut c (e ∷ y) z h = h

  inside_more : (c : ℕ) (x z : List ℕ) → x ≢ [] → goes_on_inside c x ≡ true → goes_on_inside c (x ++ z) ≡ true
  inside_more c [] z n h = absurd (n refl)
  inside_more c (e ∷ x) z n h = h

  -- what is left of a text that is cut off behind y
  shortened : (x s y z q : List ℕ) → x ≡ s ++ q → q ≡ y ++ z → x ≡ (s ++ y) ++ z
  shortened x s y z q e f = e ∙ ap (λ w. s ++ w) f ∙ sym (append_assoc s y z)

  gap_cut : {depth : ℕ} {p q : List ℕ} → Gap allowed depth p q → (x y z : List ℕ) → p ≡ x ++ z → q ≡ y ++ z → Gap allowed depth x y
  gap_cut (gap_ends {y = q} h) x y z e f =
      subst (λ w. Gap allowed 0 w y) (append_cancel_right y x z (sym f ∙ e)) (gap_ends (ends_cut y z (subst (λ w. ends_gap w ≡ true) f h)))
  gap_cut (gap_white {c = c} {x = p} {y = q} h d) x y z e f =
      let s = gap_suffix d in
      let t = shortened p s.0 y z q s.1 f in
      subst (λ w. Gap allowed 0 w y) (append_cancel_right (c ∷ (s.0 ++ y)) x z (sym (ap (λ w. c ∷ w) t) ∙ e)) (gap_white h (gap_cut d (s.0 ++ y) y z t f))
  gap_cut (comment_begins {depth = depth} {x = p} {y = q} d) x y z e f =
      let s = gap_suffix d in
      let t = shortened p s.0 y z q s.1 f in
      subst (λ w. Gap allowed depth w y) (append_cancel_right (40 ∷ 58 ∷ (s.0 ++ y)) x z (sym (ap (λ w. 40 ∷ 58 ∷ w) t) ∙ e)) (comment_begins (gap_cut d (s.0 ++ y) y z t f))
  gap_cut (comment_ends {depth = depth} {x = p} {y = q} d) x y z e f =
      let s = gap_suffix d in
      let t = shortened p s.0 y z q s.1 f in
      subst (λ w. Gap allowed (suc depth) w y) (append_cancel_right (58 ∷ 41 ∷ (s.0 ++ y)) x z (sym (ap (λ w. 58 ∷ 41 ∷ w) t) ∙ e)) (comment_ends (gap_cut d (s.0 ++ y) y z t f))
  gap_cut (comment_goes_on {depth = depth} {c = c} {x = p} {y = q} h k d) x y z e f =
      let s = gap_suffix d in
      let t = shortened p s.0 y z q s.1 f in
      subst (λ w. Gap allowed (suc depth) w y) (append_cancel_right (c ∷ (s.0 ++ y)) x z (sym (ap (λ w. c ∷ w) t) ∙ e))
      (comment_goes_on (inside_cut c (s.0 ++ y) z (subst (λ w. goes_on_inside c w ≡ true) t h)) k (gap_cut d (s.0 ++ y) y z t f))

  ends_more : (y z : List ℕ) → ends_gap y ≡ true → (ends_gap (y ++ z) ≡ true) ⊎ OpensGap allowed 0 y
  ends_more [] z h = inr opens_end
  ends_more (c ∷ []) [] h = inl h
  ends_more (c ∷ []) (e ∷ z) h = go (c == 40) refl
    where
      go : (b : Bool) → (c == 40) ≡ b → (ends_gap (c ∷ e ∷ z) ≡ true) ⊎ OpensGap allowed 0 (c ∷ [])
      go true f = inr (subst (λ a. OpensGap allowed 0 (a ∷ [])) (sym (eqb-true c 40 f)) opens_paren)
      go false f = inl (both_true (not (is_white_space c)) (not (begins_comment c e)) h (ap (λ b. not (b && (e == 58))) f))
  ends_more (c ∷ e ∷ y) z h = inl h

  gap_goes_on : {depth : ℕ} {x y : List ℕ} → Gap allowed depth x y → (z : List ℕ) → Gap allowed depth (x ++ z) (y ++ z) ⊎ OpensGap allowed depth x
  gap_goes_on (gap_ends {y = y} h) z = elim (ends_more y z h) [ inl e ↦ inl (gap_ends e) | inr o ↦ inr o ]
  gap_goes_on (gap_white h d) z = elim (gap_goes_on d z) [ inl r ↦ inl (gap_white h r) | inr o ↦ inr (opens_white h o) ]
  gap_goes_on (comment_begins d) z = elim (gap_goes_on d z) [ inl r ↦ inl (comment_begins r) | inr o ↦ inr (opens_begin o) ]
  gap_goes_on (comment_ends d) z = elim (gap_goes_on d z) [ inl r ↦ inl (comment_ends r) | inr o ↦ inr (opens_close o) ]
  gap_goes_on (comment_goes_on {c = c} {x = x} h q d) z = elim (gap_goes_on d z) [ inl r ↦ inl (comment_goes_on (inside_more c x z (inside_full d) h) q r) | inr o ↦ inr (opens_on h q o) ]

  paren_opens : (depth : ℕ) → OpensGap allowed depth (40 ∷ [])
  paren_opens zero = opens_paren
  paren_opens (suc depth) = opens_on refl delimiters.0 opens_end

  front_empty : (x z : List ℕ) → length (x ++ z) ≤ length z → x ≡ []
  front_empty [] z h = refl
  front_empty (c ∷ x) z h = absurd (omega (arith, length-append (c ∷ x) z))

  gap_fronts : {depth : ℕ} {p y : List ℕ} → Gap allowed depth p y → (x z : List ℕ) → p ≡ x ++ z → length y ≤ length z → OpensGap allowed depth x
  gap_fronts (gap_ends {y = y} h) x z e l = subst (λ w. OpensGap allowed 0 w) (sym (front_empty x z (subst (λ w. length w ≤ length z) e l))) opens_end
  gap_fronts (gap_white h d) [] z e l = opens_end
  gap_fronts (gap_white {c = c} {x = p} h d) (b ∷ x) z e l =
      let f : b ≡ c = cc e in let g : p ≡ x ++ z = cc e in subst (λ a. OpensGap allowed 0 (a ∷ x)) (sym f) (opens_white h (gap_fronts d x z g l))
  gap_fronts (comment_begins d) [] z e l = opens_end
  gap_fronts (comment_begins {depth = depth} d) (b ∷ []) z e l = let f : b ≡ 40 = cc e in subst (λ a. OpensGap allowed depth (a ∷ [])) (sym f) (paren_opens depth)
  gap_fronts (comment_begins {depth = depth} {x = p} d) (b ∷ a ∷ x) z e l =
      let f : b ≡ 40 = cc e in let g : a ≡ 58 = cc e in let k : p ≡ x ++ z = cc e in
      subst (λ q. OpensGap allowed depth (q ∷ a ∷ x)) (sym f) (subst (λ q. OpensGap allowed depth (40 ∷ q ∷ x)) (sym g) (opens_begin (gap_fronts d x z k l)))
  gap_fronts (comment_ends d) [] z e l = opens_end
  gap_fronts (comment_ends {depth = depth} d) (b ∷ []) z e l = let f : b ≡ 58 = cc e in subst (λ a. OpensGap allowed (suc depth) (a ∷ [])) (sym f) (opens_on refl delimiters.1 opens_end)
  gap_fronts (comment_ends {depth = depth} {x = p} d) (b ∷ a ∷ x) z e l =
      let f : b ≡ 58 = cc e in let g : a ≡ 41 = cc e in let k : p ≡ x ++ z = cc e in
      subst (λ q. OpensGap allowed (suc depth) (q ∷ a ∷ x)) (sym f) (subst (λ q. OpensGap allowed (suc depth) (58 ∷ q ∷ x)) (sym g) (opens_close (gap_fronts d x z k l)))
  gap_fronts (comment_goes_on h q d) [] z e l = opens_end
  gap_fronts (comment_goes_on {depth = depth} {c = c} {x = p} h q d) (b ∷ x) z e l =
      let f : b ≡ c = cc e in let g : p ≡ x ++ z = cc e in
      subst (λ a. OpensGap allowed (suc depth) (a ∷ x)) (sym f) (opens_on (inside_cut c x z (subst (λ w. goes_on_inside c w ≡ true) g h)) q (gap_fronts d x z g l))

  -- the longest opening

  record SeesGap (depth : ℕ) (text : List ℕ) (left : ℕ) : Type 0 where
    front : List ℕ
    rest : List ℕ
    whole : text ≡ front ++ rest
    place : length rest ≡ left
    opened : OpensGap allowed depth front

  none_seen : (depth : ℕ) (x : List ℕ) → SeesGap depth x (length x)
  none_seen depth x = record { front = []; rest = x; whole = refl; place = refl; opened = opens_end }

  gap_sees : (depth : ℕ) (x : List ℕ) → SeesGap depth x (seen_gap allowed depth x)
  gap_sees zero [] = none_seen zero []
  gap_sees (suc depth) [] = none_seen (suc depth) []
  gap_sees zero (c ∷ []) = by_test (is_white_space c || (c == 40)) 0 1 (λ n. SeesGap 0 (c ∷ []) n)
      (λ f. record {
        front = c ∷ [];
        rest = [];
        whole = refl;
        place = refl;
        opened = elim (or_parts (is_white_space c) (c == 40) f) [
          | inl w ↦ opens_white w opens_end
          | inr p ↦ subst (λ a. OpensGap allowed 0 (a ∷ [])) (sym (eqb-true c 40 p)) opens_paren
        ];
      })
      (λ f. none_seen 0 (c ∷ []))
    where
      or_parts : (a b : Bool) → (a || b) ≡ true → (a ≡ true) ⊎ (b ≡ true)
      or_parts true b e = inl refl
      or_parts false b e = inr e
  gap_sees (suc depth) (c ∷ []) = by_test (allowed c) 0 1 (λ n. SeesGap (suc depth) (c ∷ []) n)
      (λ f. record { front = c ∷ []; rest = []; whole = refl; place = refl; opened = opens_on refl f opens_end })
      (λ f. none_seen (suc depth) (c ∷ []))
  gap_sees zero (c ∷ e ∷ x) =
      let white = gap_sees zero (e ∷ x) in
      let comment = gap_sees 1 x in
      by_test (is_white_space c) (seen_gap allowed zero (e ∷ x)) (if begins_comment c e then (seen_gap allowed 1 x) else (if c == 40 then (length (e ∷ x)) else (length (c ∷ e ∷ x)))) (λ n. SeesGap 0 (c ∷ e ∷ x) n)
      (λ f. record { front = c ∷ white.front; rest = white.rest; whole = ap (λ w. c ∷ w) white.whole; place = white.place; opened = opens_white f white.opened })
      (λ _. by_test (begins_comment c e) (seen_gap allowed 1 x) (if c == 40 then (length (e ∷ x)) else (length (c ∷ e ∷ x))) (λ n. SeesGap 0 (c ∷ e ∷ x) n)
      (λ f. begun (λ t. SeesGap 0 t (seen_gap allowed 1 x)) c e x f (record { front = 40 ∷ 58 ∷ comment.front; rest = comment.rest; whole = ap (λ w. 40 ∷ 58 ∷ w) comment.whole; place = comment.place; opened = opens_begin comment.opened }))
      (λ _. by_test (c == 40) (length (e ∷ x)) (length (c ∷ e ∷ x)) (λ n. SeesGap 0 (c ∷ e ∷ x) n)
      (λ f. record { front = c ∷ []; rest = e ∷ x; whole = refl; place = refl; opened = subst (λ a. OpensGap allowed 0 (a ∷ [])) (sym (eqb-true c 40 f)) opens_paren })
      (λ _. none_seen 0 (c ∷ e ∷ x))))
  gap_sees (suc depth) (c ∷ e ∷ x) =
      let deep = gap_sees (suc (suc depth)) x in
      let out = gap_sees depth x in
      let on = gap_sees (suc depth) (e ∷ x) in
      by_test (begins_comment c e) (seen_gap allowed (suc (suc depth)) x) (if ends_comment c e then (seen_gap allowed depth x) else (if allowed c then (seen_gap allowed (suc depth) (e ∷ x)) else (length (c ∷ e ∷ x)))) (λ n. SeesGap (suc depth) (c ∷ e ∷ x) n)
      (λ f. begun (λ t. SeesGap (suc depth) t (seen_gap allowed (suc (suc depth)) x)) c e x f (record { front = 40 ∷ 58 ∷ deep.front; rest = deep.rest; whole = ap (λ w. 40 ∷ 58 ∷ w) deep.whole; place = deep.place; opened = opens_begin deep.opened }))
      (λ n. by_test (ends_comment c e) (seen_gap allowed depth x) (if allowed c then (seen_gap allowed (suc depth) (e ∷ x)) else (length (c ∷ e ∷ x))) (λ k. SeesGap (suc depth) (c ∷ e ∷ x) k)
      (λ f. ended (λ t. SeesGap (suc depth) t (seen_gap allowed depth x)) c e x f (record { front = 58 ∷ 41 ∷ out.front; rest = out.rest; whole = ap (λ w. 58 ∷ 41 ∷ w) out.whole; place = out.place; opened = opens_close out.opened }))
      (λ f. by_test (allowed c) (seen_gap allowed (suc depth) (e ∷ x)) (length (c ∷ e ∷ x)) (λ k. SeesGap (suc depth) (c ∷ e ∷ x) k)
      (λ q. record {
        front = c ∷ on.front;
        rest = on.rest;
        whole = ap (λ w. c ∷ w) on.whole;
        place = on.place;
        opened = opens_on (inside_cut c on.front on.rest (subst (λ w. goes_on_inside c w ≡ true) on.whole (both_true (not (begins_comment c e)) (not (ends_comment c e)) (not_is (begins_comment c e) n) (not_is (ends_comment c e) f)))) q on.opened;
      })
      (λ q. none_seen (suc depth) (c ∷ e ∷ x))))

  seen_short : (depth : ℕ) (x : List ℕ) → seen_gap allowed depth x ≤ length x
  seen_short depth x = let s = gap_sees depth x in omega (arith, s.place, ap length s.whole, length-append s.front s.rest)

  seen_inside : (depth c : ℕ) (x : List ℕ) → allowed c ≡ true → seen_gap allowed (suc depth) (c ∷ x) ≤ length x
  seen_inside depth c [] q = subst (λ b. (if b then 0 else 1) ≤ 0) (sym q) (omega arith)
  seen_inside depth c (e ∷ x) q =
      let deep = seen_short (suc (suc depth)) x in
      let out = seen_short depth x in
      let on = seen_short (suc depth) (e ∷ x) in
      by_test (begins_comment c e) (seen_gap allowed (suc (suc depth)) x) (if ends_comment c e then (seen_gap allowed depth x) else (if allowed c then (seen_gap allowed (suc depth) (e ∷ x)) else (length (c ∷ e ∷ x)))) (λ n. n ≤ length (e ∷ x))
      (λ _. omega (arith, deep))
      (λ _. by_test (ends_comment c e) (seen_gap allowed depth x) (if allowed c then (seen_gap allowed (suc depth) (e ∷ x)) else (length (c ∷ e ∷ x))) (λ n. n ≤ length (e ∷ x)) (λ _. omega (arith, out))
      (λ _. subst (λ b. (if b then (seen_gap allowed (suc depth) (e ∷ x)) else (length (c ∷ e ∷ x))) ≤ length (e ∷ x)) (sym q) on))

  seen_paren : (x : List ℕ) → seen_gap allowed 0 (40 ∷ x) ≤ length x
  seen_paren [] = omega arith
  seen_paren (e ∷ x) = let comment = seen_short 1 x in
      by_test (begins_comment 40 e) (seen_gap allowed 1 x) (length (e ∷ x)) (λ n. n ≤ length (e ∷ x)) (λ _. omega (arith, comment)) (λ _. omega arith)

  seen_white : (c : ℕ) (x : List ℕ) → is_white_space c ≡ true → seen_gap allowed 0 (c ∷ x) ≡ seen_gap allowed 0 x
  seen_white c [] h = ap (λ b. if b || (c == 40) then 0 else 1) h
  seen_white c (e ∷ x) h = ap (λ b. if b then (seen_gap allowed zero (e ∷ x)) else (if begins_comment c e then (seen_gap allowed 1 x) else (if c == 40 then (length (e ∷ x)) else (length (c ∷ e ∷ x))))) h

  seen_begin : (depth : ℕ) (x : List ℕ) → seen_gap allowed depth (40 ∷ 58 ∷ x) ≡ seen_gap allowed (suc depth) x
  seen_begin zero x = refl
  seen_begin (suc depth) x = refl

  seen_on : (depth c : ℕ) (x : List ℕ) → x ≢ [] → goes_on_inside c x ≡ true → allowed c ≡ true → seen_gap allowed (suc depth) (c ∷ x) ≡ seen_gap allowed (suc depth) x
  seen_on depth c [] n h q = absurd (n refl)
  seen_on depth c (e ∷ x) n h q =
      let p = and_parts (not (begins_comment c e)) (not (ends_comment c e)) h in
      ap (λ b. if b then (seen_gap allowed (suc (suc depth)) x) else (if ends_comment c e then (seen_gap allowed depth x) else (if allowed c then (seen_gap allowed (suc depth) (e ∷ x)) else (length (c ∷ e ∷ x))))) (not_false (begins_comment c e) p.0)
      ∙ ap (λ b. if b then (seen_gap allowed depth x) else (if allowed c then (seen_gap allowed (suc depth) (e ∷ x)) else (length (c ∷ e ∷ x)))) (not_false (ends_comment c e) p.1)
      ∙ ap (λ b. if b then (seen_gap allowed (suc depth) (e ∷ x)) else (length (c ∷ e ∷ x))) q

  gap_longest : {depth : ℕ} {x : List ℕ} → OpensGap allowed depth x → (z : List ℕ) → seen_gap allowed depth (x ++ z) ≤ length z
  gap_longest (opens_end {depth = depth}) z = seen_short depth z
  gap_longest opens_paren z = seen_paren z
  gap_longest (opens_white {c = c} {x = x} h o) z = subst (λ n. n ≤ length z) (sym (seen_white c (x ++ z) h)) (gap_longest o z)
  gap_longest (opens_begin {depth = depth} {x = x} o) z = subst (λ n. n ≤ length z) (sym (seen_begin depth (x ++ z))) (gap_longest o z)
  gap_longest (opens_close o) z = gap_longest o z
  gap_longest (opens_on {depth = depth} {c = c} {x = []} h q o) z = seen_inside depth c z q
  gap_longest (opens_on {depth = depth} {c = c} {x = e ∷ x} h q o) z = subst (λ n. n ≤ length z) (sym (seen_on depth c (e ∷ (x ++ z)) (λ f. absurd (cc)) h q)) (gap_longest o z)

  module _ {V : Type 0} (value : V) where
    some_gap : (v : V) (q : Option (List ℕ)) (y : List ℕ) → with_value value q ≡ Some (v, y) → (value ≡ v) × (q ≡ Some y)
    some_gap v None y e = absurd (cc)
    some_gap v (Some r) y e = let s = same_some (value, r) (v, y) e in (s.0, ap (λ w. Some w) s.1)

    pub lawful_gap : LawfulToken (IsGap allowed value) (OpensGap allowed 0) (scan_gap allowed value) (seen_gap allowed 0) no_fault
    lawful_gap = record {
      sound = λ v x y e. (let s = some_gap v (behind_gap allowed 0 x) y e in record { same = sym s.0; gap = gap_sound 0 x y s.1 });
      complete = λ v x y d. ap (with_value value) (gap_complete d.gap) ∙ ap (λ u. Some (u, y)) (sym d.same);
      ends = λ v x y d. gap_suffix d.gap;
      cut = λ v x y z d. record { same = d.same; gap = gap_cut d.gap x y z refl refl };
      goes_on = λ v x y z d. elim (gap_goes_on d.gap z) [ inl r ↦ inl (record { same = d.same; gap = r }) | inr o ↦ inr o ];
      fronts = λ v x y z d h. gap_fronts d.gap x z refl h;
      sees = λ x. (let s = gap_sees 0 x in record { front = s.front; rest = s.rest; whole = s.whole; place = s.place; opened = inr s.opened });
      longest = λ x z o. gap_longest o z;
      firm = λ v x y d. refl;
      faultless = refl;
    }
