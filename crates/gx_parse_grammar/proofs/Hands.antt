-- Tokens that are apart for reasons of their own.
use Rattle.std.proofs.Common.{◌≡◌, ◌≢◌, ℕ, ◌==◌, ◌||◌, Bool, true, false, List, [], ◌∷◌, ◌++◌, ◌⊎◌, inl, inr, refl, sym, ap, subst, ◌∙◌, None, eqb-true, ◌<◌, nat_le, arith}
use Rattle.std.proofs.lemmas.Bool.{lt-leb, leb-true}
use Rattle.gx_base.specs.declared.place.Place.{Place}
use Rattle.gx_grammar.specs.First.{head_passes, HasHead, AreApart, Stands}
use Rattle.gx_grammar.specs.Apart.{is, Spells}
use Rattle.gx_grammar.specs.Words.{spellings}
use Rattle.gx_grammar.specs.Fitting.{fault_of}
use Rattle.std.proofs.lemmas.Bool.{and_parts}
use Rattle.std.proofs.lemmas.Option.{some_pair_parts}
use Rattle.gx_grammar.specs.Gaps.{Gap, gap_ends, gap_white, comment_begins, comment_ends, comment_goes_on, OpensGap, opens_end, opens_paren, opens_white, opens_begin, opens_close, opens_on}
use Rattle.gx_grammar.specs.Joined.{AreJoined}
use Rattle.gx_grammar.specs.Tokens.{IsFrontOf, all_pass, opens_name}
use Rattle.gx_parse_grammar.specs.declared.word.WordSet.TheVariants as set
use Rattle.gx_base.specs.NameCharacters.{is_ncname_start, is_xml_character}
use Rattle.gx_parse_grammar.specs.Characters.{is_digit}
use Rattle.gx_parse_grammar.specs.Words.{words_of}
use Rattle.gx_parse_grammar.specs.Nodes.{Node, Made}
use Rattle.gx_parse_grammar.specs.Numeral.{OpensNumeral, scan_literal, is_small}
use Rattle.gx_parse_grammar.specs.Tokens.{one_of, qname, number, gap_then_open, gap_not_open, gap_then_dollar, gap_then_neither, IsGapHere, no_value, stops_name, entries, begins_sign, begins_number, number_code, derives, faults, opens}
use Rattle.gx_parse_grammar.specs.Grammar.{query_language}
use Rattle.gx_parse_grammar.proofs.Tokens.{gap_lawful, literal_lawful}
use Rattle.gx_parse_grammar.proofs.Shapes.{shaped}

-- a character that passes one test fails the other, where the few that pass the other fail the one
other_fails : (test : ℕ → Bool) (a b c : ℕ) → test a ≡ false → test b ≡ false → test c ≡ true → ((c == a) || (c == b)) ≡ false
other_fails test a b c e f g = go (c == a) (c == b) refl refl
  where
    go : (p q : Bool) → (c == a) ≡ p → (c == b) ≡ q → (p || q) ≡ false
    go true q h k = absurd (let l : test c ≡ test a = ap test (eqb-true c a h) in cc (l, e, g))
    go false true h k = absurd (let l : test c ≡ test b = ap test (eqb-true c b k) in cc (l, f, g))
    go false false h k = refl

pub head_other : (test other : ℕ → Bool) → ((c : ℕ) → test c ≡ true → other c ≡ false) → (x : List ℕ) → (x ≢ []) × (head_passes test x ≡ true) → (x ≢ []) × (head_passes other x ≡ false)
head_other test other f [] h = absurd (h.0 refl)
head_other test other f (c ∷ x) h = (h.0, f c h.1)

or_false : (a b : Bool) → (a || b) ≡ false → b ≡ false
or_false true b e = absurd (cc)
or_false false b e = e

-- no digit and no point begins a name
pub low_no_name : (c : ℕ) → c < 65 → is_ncname_start c ≡ false
unfolding is_ncname_start
low_no_name c h =
    rw (
      lt-leb 97 c (omega arith),
      lt-leb 65 c h,
      not_equal c 95 (omega arith),
      lt-leb 192 c (omega arith),
      lt-leb 216 c (omega arith),
      lt-leb 248 c (omega arith),
      lt-leb 880 c (omega arith),
      lt-leb 895 c (omega arith),
      lt-leb 8204 c (omega arith),
      lt-leb 8304 c (omega arith),
      lt-leb 11264 c (omega arith),
      lt-leb 12289 c (omega arith),
      lt-leb 63744 c (omega arith),
      lt-leb 65008 c (omega arith),
      lt-leb 65536 c (omega arith),
    ) refl
  where
    not_equal : (a b : ℕ) → a < b → (a == b) ≡ false
    not_equal a b k = go (a == b) refl
      where
        go : (q : Bool) → (a == b) ≡ q → q ≡ false
        go true e = absurd (let f = eqb-true a b e in omega (arith, f, k))
        go false e = refl

number_low : (c : ℕ) → begins_number c ≡ true → c < 65
number_low c e = go (is_digit c) refl e
  where
    go : (b : Bool) → is_digit c ≡ b → (b || is 46 c) ≡ true → c < 65
    go true f g = let h = leb-true c 57 (and_parts (nat_le 48 c) (nat_le c 57) f).1 in omega (arith, h)
    go false f g = let h = eqb-true c 46 g in omega (arith, h)

digit_or_name : (c : ℕ) → begins_number c ≡ true → is_ncname_start c ≡ true → ⊥
digit_or_name c e f = let g = low_no_name c (number_low c e) in absurd (cc (f, g))

module _ (at : ℕ → Place) where
  -- names and numbers do not begin with signs

  name_sign : (c : ℕ) → is_ncname_start c ≡ true → begins_sign c ≡ false
  unfolding is_ncname_start
  name_sign c e = other_fails is_ncname_start 43 45 c refl refl e

  pub name_no_sign : HasHead (query_language at) begins_sign false qname
  name_no_sign = record {
    stands = λ x s. head_other is_ncname_start begins_sign name_sign x ((shaped at qname).0 x s);
    opened = λ x o n. (head_other is_ncname_start begins_sign name_sign x (n, (shaped at qname).1 x o n)).1;
  }

  number_sign : (c : ℕ) → begins_number c ≡ true → begins_sign c ≡ false
  number_sign c e = other_fails begins_number 43 45 c refl refl e

  pub number_no_sign : HasHead (query_language at) begins_sign false number
  number_no_sign = record {
    stands = λ x s. head_other begins_number begins_sign number_sign x ((shaped at number).0 x s);
    opened = λ x o n. (head_other begins_number begins_sign number_sign x (n, (shaped at number).1 x o n)).1;
  }

  number_name : (c : ℕ) → begins_number c ≡ true → is_ncname_start c ≡ false
  number_name c e = go (is_ncname_start c) refl
    where
      go : (b : Bool) → is_ncname_start c ≡ b → b ≡ false
      go true f = absurd (digit_or_name c e f)
      go false f = refl

  pub number_no_name : HasHead (query_language at) is_ncname_start false number
  number_no_name = record {
    stands = λ x s. head_other begins_number is_ncname_start number_name x ((shaped at number).0 x s);
    opened = λ x o n. (head_other begins_number is_ncname_start number_name x (n, (shaped at number).1 x o n)).1;
  }

  -- `..` and `.` stand where no literal does

  not_literal : (x : List ℕ) → scan_literal {Node = Node} x ≡ None → Stands {Node = Node} derives faults number x → ⊥
  not_literal x e (inl d) = let f = literal_lawful.complete d.0 x d.1 d.2.stands in absurd (cc (e, f))
  not_literal x e (inr f) = let g : fault_of {V = Made} number_code is_small (scan_literal x) ≡ None = ap (fault_of number_code is_small) e in let h = f.1 in absurd (cc (g, h))

  points_literal : (y : List ℕ) → scan_literal {Node = Node} (46 ∷ 46 ∷ y) ≡ None
  points_literal y = refl

  point_literal : (y : List ℕ) → head_passes (λ c. c == 46 || is_digit c) y ≡ false → scan_literal {Node = Node} (46 ∷ y) ≡ None
  point_literal [] e = refl
  point_literal (c ∷ y) e = let d : is_digit c ≡ false = or_false (c == 46) (is_digit c) e in rw d refl

  points_never : (x : List ℕ) → Spells (spellings (entries (words_of set.Dots))) x → Stands {Node = Node} derives faults number x → ⊥
  points_never x (inl s) u = not_literal x (ap scan_literal s.1 ∙ points_literal s.0) u
  points_never x (inr (inl s)) u = not_literal x (ap scan_literal s.1 ∙ point_literal s.0 s.2) u
  points_never x (inr (inr s)) u = absurd s

  second_digit : (d : ℕ) (x : List ℕ) → OpensNumeral Node (46 ∷ d ∷ x) → is_digit d ≡ true
  second_digit d x (inl o) = absurd (cc o)
  second_digit d x (inr o) = go o.2.run o.1 o.2.spelled o.2.passes o.3
    where
      go : (run y : List ℕ) → (46 ∷ d ∷ x) ≡ run ++ y → all_pass is_digit run ≡ true → opens_name (is 46) is_digit y → is_digit d ≡ true
      go [] y e p q = (and_parts (is_digit d) (all_pass is_digit x) (let r : opens_name (is 46) is_digit (46 ∷ d ∷ x) = subst (opens_name (is 46) is_digit) (sym e) q in r.1)).0
      go (c ∷ run) y e p q = absurd (let f : 46 ≡ c = cc e in let g = ap is_digit f in let h = (and_parts (is_digit c) (all_pass is_digit run) p).0 in cc (g, h))

  points_open : (x z : List ℕ) → opens number x → Spells (spellings (entries (words_of set.Dots))) (x ++ z) → (x ≡ []) ⊎ opens (one_of set.Dots) x
  points_open [] z o s = inl refl
  points_open (c ∷ []) z o (inl s) = let e = s.1 in let f : c ≡ 46 = cc e in inr (inl (46 ∷ [], ap (λ a. a ∷ 46 ∷ []) (sym f)))
  points_open (c ∷ []) z o (inr (inl s)) = let e = s.1 in let f : c ≡ 46 = cc e in inr (inl (46 ∷ [], ap (λ a. a ∷ 46 ∷ []) (sym f)))
  points_open (c ∷ []) z o (inr (inr s)) = absurd s
  points_open (c ∷ d ∷ x) z o (inl s) =
      let e = s.1 in
      let f : c ≡ 46 = cc e in
      let g : d ≡ 46 = cc e in
      let h = second_digit d x (subst (λ a. OpensNumeral Node (a ∷ d ∷ x)) f o) in
      absurd (let k : is_digit d ≡ is_digit 46 = ap is_digit g in cc (h, k))
  points_open (c ∷ d ∷ x) z o (inr (inl s)) =
      let e = s.1 in
      let f : c ≡ 46 = cc e in
      let g : (d ∷ (x ++ z)) ≡ s.0 = cc e in
      let h = second_digit d x (subst (λ a. OpensNumeral Node (a ∷ d ∷ x)) f o) in
      let k : is_digit d ≡ false = or_false (d == 46) (is_digit d) (ap (head_passes (λ a. a == 46 || is_digit a)) g ∙ s.2) in
      absurd (cc (h, k))
  points_open (c ∷ d ∷ x) z o (inr (inr s)) = absurd s

  pub points_apart : AreApart (query_language at) (one_of set.Dots) number
  points_apart = record {
    never = λ x s u. points_never x ((shaped at (one_of set.Dots)).0 x s) u;
    opening = λ x z o s. points_open x z o ((shaped at (one_of set.Dots)).0 (x ++ z) s);
  }

  -- a gap with a `(` behind it, and one without

  gaps_never : (x : List ℕ) → Stands {Node = Node} derives faults gap_then_open x → Stands {Node = Node} derives faults gap_not_open x → ⊥
  gaps_never x (inl d) (inl e) =
      let a = d.2 in
      let b = e.2 in
      let s = some_pair_parts a.front b.front a.between b.between (sym (gap_lawful.complete a.front x a.between a.begins) ∙ gap_lawful.complete b.front x b.between b.begins) in
      let f : head_passes (is 40) b.between ≡ true = ap (head_passes (is 40)) (sym s.1 ∙ a.ends.spelled) in
      let g : head_passes (is 40) b.between ≡ false = ap (head_passes (is 40)) b.ends.spelled ∙ b.ends.ended in
      absurd (cc (f, g))
  gaps_never x (inr f) e = absurd (let g = f.1 in cc g)
  gaps_never x (inl d) (inr f) = absurd (let g = f.1 in cc g)

  nothing_front : (y : List ℕ) → IsFrontOf y [] → IsFrontOf y (40 ∷ [])
  nothing_front [] o = (40 ∷ [], refl)
  nothing_front (c ∷ y) o = absurd (let e = o.1 in cc e)

  gaps_open : (x : List ℕ) → opens gap_not_open x → opens gap_then_open x
  gaps_open x (inl o) = inl o
  gaps_open x (inr o) = inr (o.0, o.1, o.2, nothing_front o.1 o.3)

  pub gaps_apart : AreApart (query_language at) gap_then_open gap_not_open
  gaps_apart = record { never = gaps_never; opening = λ x z o s. inr (gaps_open x o) }

  -- a gap with a `$` behind it, with a `(`, and with neither

  both_gaps : (P Q : Made → List ℕ → List ℕ → Type 0) → ((v w : Made) (y z u : List ℕ) → P v y z → Q w y u → ⊥) → (v w : Made) (x y z : List ℕ) → AreJoined IsGapHere P no_value v x y → AreJoined IsGapHere Q no_value w x z → ⊥
  both_gaps P Q f v w x y z a b =
      let s = some_pair_parts a.front b.front a.between b.between (sym (gap_lawful.complete a.front x a.between a.begins) ∙ gap_lawful.complete b.front x b.between b.begins) in
      f a.back b.back b.between y z (subst (λ q. P a.back q y) s.1 a.ends) b.ends

  dollar_or_open : (x : List ℕ) → Stands {Node = Node} derives faults gap_then_dollar x → Stands {Node = Node} derives faults gap_then_open x → ⊥
  dollar_or_open x (inl d) (inl e) =
      both_gaps _ _ (λ v w y z u a b. let f : head_passes (is 36) y ≡ true = ap (head_passes (is 36)) a.spelled in let g : head_passes (is 36) y ≡ false = ap (head_passes (is 36)) b.spelled in absurd (cc (f, g))) d.0 e.0 x d.1 e.1 d.2 e.2
  dollar_or_open x (inr f) e = absurd (let g = f.1 in cc g)
  dollar_or_open x (inl d) (inr f) = absurd (let g = f.1 in cc g)

  dollar_or_neither : (x : List ℕ) → Stands {Node = Node} derives faults gap_then_dollar x → Stands {Node = Node} derives faults gap_then_neither x → ⊥
  dollar_or_neither x (inl d) (inl e) =
      both_gaps _ _ (λ v w y z u a b. let f : head_passes stops_name y ≡ true = ap (head_passes stops_name) a.spelled in let g : head_passes stops_name y ≡ false = ap (head_passes stops_name) b.spelled ∙ b.ended in absurd (cc (f, g))) d.0 e.0 x d.1 e.1 d.2 e.2
  dollar_or_neither x (inr f) e = absurd (let g = f.1 in cc g)
  dollar_or_neither x (inl d) (inr f) = absurd (let g = f.1 in cc g)

  open_or_neither : (x : List ℕ) → Stands {Node = Node} derives faults gap_then_open x → Stands {Node = Node} derives faults gap_then_neither x → ⊥
  open_or_neither x (inl d) (inl e) =
      both_gaps _ _ (λ v w y z u a b. let f : head_passes stops_name y ≡ true = ap (head_passes stops_name) a.spelled in let g : head_passes stops_name y ≡ false = ap (head_passes stops_name) b.spelled ∙ b.ended in absurd (cc (f, g))) d.0 e.0 x d.1 e.1 d.2 e.2
  open_or_neither x (inr f) e = absurd (let g = f.1 in cc g)
  open_or_neither x (inl d) (inr f) = absurd (let g = f.1 in cc g)

  nothing_before : (symbol : ℕ) (y : List ℕ) → IsFrontOf y [] → IsFrontOf y (symbol ∷ [])
  nothing_before symbol [] o = (symbol ∷ [], refl)
  nothing_before symbol (c ∷ y) o = absurd (let e = o.1 in cc e)

  -- a `(` behind a gap may begin a comment
  front_opens : (y : List ℕ) → IsFrontOf y (40 ∷ []) → OpensGap is_xml_character 0 y
  front_opens [] o = opens_end
  front_opens (c ∷ []) o = let e = o.1 in let f : 40 ≡ c = cc e in subst (λ d. OpensGap is_xml_character 0 (d ∷ [])) f opens_paren
  front_opens (c ∷ d ∷ y) o = absurd (let e = o.1 in cc e)

  gap_opens : {depth : ℕ} {x y : List ℕ} → Gap is_xml_character depth x y → IsFrontOf y (40 ∷ []) → OpensGap is_xml_character depth x
  gap_opens (gap_ends {y = y} h) o = front_opens y o
  gap_opens (gap_white h d) o = opens_white h (gap_opens d o)
  gap_opens (comment_begins d) o = opens_begin (gap_opens d o)
  gap_opens (comment_ends d) o = opens_close (gap_opens d o)
  gap_opens (comment_goes_on g h d) o = opens_on g h (gap_opens d o)

  open_opens : (x : List ℕ) → opens gap_then_open x → OpensGap is_xml_character 0 x
  open_opens x (inl o) = o
  open_opens x (inr o) = let d = o.2 in gap_opens d.gap o.3

  neither_opens_dollar : (x : List ℕ) → opens gap_then_neither x → opens gap_then_dollar x
  neither_opens_dollar x (inl o) = inl o
  neither_opens_dollar x (inr o) = inr (o.0, o.1, o.2, nothing_before 36 o.1 o.3)

  neither_opens : (x : List ℕ) → opens gap_then_neither x → opens gap_then_open x
  neither_opens x (inl o) = inl o
  neither_opens x (inr o) = inr (o.0, o.1, o.2, nothing_before 40 o.1 o.3)

  pub dollar_open_apart : AreApart (query_language at) gap_then_dollar gap_then_open
  dollar_open_apart = record { never = dollar_or_open; opening = λ x z o s. inr (inl (open_opens x o)) }

  pub dollar_neither_apart : AreApart (query_language at) gap_then_dollar gap_then_neither
  dollar_neither_apart = record { never = dollar_or_neither; opening = λ x z o s. inr (neither_opens_dollar x o) }

  pub open_neither_apart : AreApart (query_language at) gap_then_open gap_then_neither
  open_neither_apart = record { never = open_or_neither; opening = λ x z o s. inr (neither_opens x o) }
