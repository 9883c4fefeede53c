-- The tokens that computed constructors begin with.
use Rattle.std.proofs.Common.{◌≡◌, ◌≢◌, ℕ, suc, ◌≤◌, ◌==◌, ◌||◌, ◌&&◌, Bool, true, false, List, [], ◌∷◌, ◌++◌, ◌⊎◌, inl, inr, length, length-append, refl, sym, ap, subst, ◌∙◌, Option, Some, None, is_some, eqb-true, append_assoc, arith, drop}
use Rattle.gx_base.specs.WhiteSpace.{is_white_space}
use Rattle.gx_base.specs.NameCharacters.{is_ncname_start, is_ncname_character, is_xml_character}
use Rattle.gx_grammar.specs.First.{head_passes}
use Rattle.gx_grammar.specs.Gaps.{Gap, gap_ends, gap_white, comment_begins, comment_ends, comment_goes_on, ends_gap, goes_on_inside}
use Rattle.gx_grammar.specs.Joined.{Tells, scan_optional}
use Rattle.gx_grammar.specs.Fitting.{Never, scan_never}
use Rattle.gx_grammar.specs.Tokens.{LawfulToken, all_pass, no_fault}
use Rattle.gx_grammar.specs.Value.{nothing}
use Rattle.gx_grammar.proofs.PublicLaws.{lawful_optional, lawful_stop}
use Rattle.std.proofs.lemmas.Bool.{and_parts}
use Rattle.gx_parse_grammar.specs.Characters.{no_character}
use Rattle.gx_parse_grammar.specs.Nodes.{Made}
use Rattle.gx_parse_grammar.specs.Tokens.{IsNCName, IsLocalPart, HasLocalPart, IsQName, IsConstructor, OpensConstructor, NoConstructor, scan_constructor, seen_constructor, starts_local_part, starts_constructor, begins_no_word, has_join, joins_words}

-- what stands in front of a `{` stands there whatever follows

nothing_passes : (x : List ℕ) → head_passes no_character x ≡ false
nothing_passes [] = refl
nothing_passes (c ∷ x) = refl

head_stays : (test : ℕ → Bool) (y z : List ℕ) (c : ℕ) (r : List ℕ) → y ≡ c ∷ r → head_passes test y ≡ false → head_passes test (y ++ z) ≡ false
head_stays test y z c r e h = ap (λ w. head_passes test (w ++ z)) e ∙ sym (ap (head_passes test) e) ∙ h

brace_ends : (x : List ℕ) → ends_gap (123 ∷ x) ≡ true
brace_ends [] = refl
brace_ends (c ∷ x) = refl

inside_is_full : {depth : ℕ} {x y : List ℕ} → Gap is_xml_character (suc depth) x y → x ≢ []
inside_is_full (comment_begins d) e = absurd (cc e)
inside_is_full (comment_ends d) e = absurd (cc e)
inside_is_full (comment_goes_on h q d) e = absurd (cc e)

inside_extends : (c : ℕ) (x z : List ℕ) → x ≢ [] → goes_on_inside c x ≡ true → goes_on_inside c (x ++ z) ≡ true
inside_extends c [] z n h = absurd (n refl)
inside_extends c (d ∷ x) z n h = h

gap_extends : {depth : ℕ} {x y : List ℕ} → Gap is_xml_character depth x y → (r z : List ℕ) → y ≡ 123 ∷ r → Gap is_xml_character depth (x ++ z) (y ++ z)
gap_extends (gap_ends {y = y} h) r z e = gap_ends (subst (λ w. ends_gap (w ++ z) ≡ true) (sym e) (brace_ends (r ++ z)))
gap_extends (gap_white h d) r z e = gap_white h (gap_extends d r z e)
gap_extends (comment_begins d) r z e = comment_begins (gap_extends d r z e)
gap_extends (comment_ends d) r z e = comment_ends (gap_extends d r z e)
gap_extends (comment_goes_on {c = c} {x = x} h q d) r z e = comment_goes_on (inside_extends c x z (inside_is_full d) h) q (gap_extends d r z e)

white_is_no_colon : (c : ℕ) → is_white_space c ≡ true → (58 == c) ≡ false
white_is_no_colon c h = go (58 == c) refl
  where
    go : (b : Bool) → (58 == c) ≡ b → b ≡ false
    go true e = absurd (let k : is_white_space 58 ≡ true = subst (λ d. is_white_space d ≡ true) (sym (eqb-true 58 c e)) h in cc k)
    go false e = refl

-- the first character, which is no colon
gap_heads : {x y : List ℕ} → Gap is_xml_character 0 x y → (r : List ℕ) → y ≡ 123 ∷ r → (c : ℕ) × (s : List ℕ) × (x ≡ c ∷ s) × ((58 == c) ≡ false)
gap_heads (gap_ends h) r e = (123, r, e, refl)
gap_heads (gap_white {c = c} {x = x} h d) r e = (c, x, refl, white_is_no_colon c h)
gap_heads (comment_begins {x = x} d) r e = (40, 58 ∷ x, refl, refl)

ncname_extends : (v : Made) (x y z : List ℕ) (c : ℕ) (r : List ℕ) → y ≡ c ∷ r → IsNCName v x y → IsNCName v (x ++ z) (y ++ z)
ncname_extends v x y z c r e d =
    let o = d.others in
    record {
      head = d.head;
      tail = d.tail ++ z;
      whole = ap (λ w. w ++ z) d.whole;
      begins = d.begins;
      others = record {
        run = o.run;
        same = o.same;
        spelled = ap (λ w. w ++ z) o.spelled ∙ append_assoc o.run y z;
        passes = o.passes;
        longest = head_stays is_ncname_character y z c r e o.longest;
        ended = nothing_passes (y ++ z);
      };
    }

local_extends : (v : Made) (x y z : List ℕ) (c : ℕ) (r : List ℕ) → y ≡ c ∷ r → IsLocalPart v x y → IsLocalPart v (x ++ z) (y ++ z)
local_extends v x y z c r e d = record {
  front = d.front;
  back = d.back;
  between = d.between ++ z;
  begins = record { same = d.begins.same; spelled = ap (λ w. w ++ z) d.begins.spelled; ended = nothing_passes (d.between ++ z) };
  ends = ncname_extends d.back d.between y z c r e d.ends;
  same = d.same;
}

no_local_part : (c : ℕ) (x : List ℕ) → (58 == c) ≡ false → starts_local_part (c ∷ x) ≡ false
no_local_part c [] e = refl
no_local_part c (d ∷ x) e = ap (λ b. b && is_ncname_start d) e

has_local_extends : (v : Made) (x y z : List ℕ) (c : ℕ) (r : List ℕ) → y ≡ c ∷ r → (58 == c) ≡ false → HasLocalPart v x y → HasLocalPart v (x ++ z) (y ++ z)
has_local_extends v x y z c r e f (inl d) = inl (local_extends v x y z c r e d)
has_local_extends v x y z c r e f (inr d) = inr (ap (λ w. starts_local_part (w ++ z)) (sym d.2 ∙ e) ∙ no_local_part c (r ++ z) f, d.1, ap (λ w. w ++ z) d.2)

local_heads : (v : Made) (x y : List ℕ) (c : ℕ) (r : List ℕ) → y ≡ c ∷ r → HasLocalPart v x y → (b : ℕ) × (s : List ℕ) × (x ≡ b ∷ s)
local_heads v x y c r e (inl d) = (58, d.between, d.begins.spelled)
local_heads v x y c r e (inr d) = (c, r, sym d.2 ∙ e)

name_extends : (v : Made) (x y z : List ℕ) (c : ℕ) (r : List ℕ) → y ≡ c ∷ r → (58 == c) ≡ false → IsQName v x y → IsQName v (x ++ z) (y ++ z)
name_extends v x y z c r e f d =
    let h = local_heads d.back d.between y c r e d.ends in
    record {
      front = d.front;
      back = d.back;
      between = d.between ++ z;
      begins = ncname_extends d.front x d.between z h.0 h.1 h.2 d.begins;
      ends = has_local_extends d.back d.between y z c r e f d.ends;
      same = d.same;
    }

pub constructor_extends : (v : Made) (x y z : List ℕ) → IsConstructor v x y → IsConstructor v (x ++ z) (y ++ z)
constructor_extends v x y z d =
    let j = d.ends in
    let h = gap_heads j.begins.gap y j.ends.spelled in
    record {
      front = d.front;
      back = d.back;
      between = d.between ++ z;
      begins = name_extends d.front x d.between z h.0 h.1 h.2 h.3 d.begins;
      ends = record {
        front = j.front;
        back = j.back;
        between = j.between ++ z;
        begins = record { same = j.begins.same; gap = gap_extends j.begins.gap y z j.ends.spelled };
        ends = record { same = j.ends.same; spelled = ap (λ w. w ++ z) j.ends.spelled; ended = nothing_passes (y ++ z) };
        same = j.same;
      };
      same = d.same;
    }

-- names that are no keywords

or_parts : (a b : Bool) → (a || b) ≡ true → (a ≡ true) ⊎ (b ≡ true)
or_parts true b e = inl refl
or_parts false b e = inr e

or_is : (a b : Bool) → (a ≡ true) ⊎ (b ≡ true) → (a || b) ≡ true
or_is true b h = refl
or_is false b (inl e) = absurd (cc e)
or_is false b (inr e) = e

join_extends : (x z : List ℕ) → has_join x ≡ true → has_join (x ++ z) ≡ true
join_extends [] z e = absurd (cc e)
join_extends (c ∷ x) z e = go (is_ncname_character c) (joins_words c) e (λ h. join_extends x z h)
  where
    go : (p q : Bool) → (p && (q || has_join x)) ≡ true → (has_join x ≡ true → has_join (x ++ z) ≡ true) → (p && (q || has_join (x ++ z))) ≡ true
    go true true f next = refl
    go true false f next = next f
    go false q f next = absurd (cc f)

no_word_extends : (x z : List ℕ) → begins_no_word x ≡ true → begins_no_word (x ++ z) ≡ true
no_word_extends [] z e = absurd (cc e)
no_word_extends (c ∷ x) z e = go (is_ncname_start c) e
  where
    go : (p : Bool) → (p && has_join (c ∷ x)) ≡ true → (p && has_join (c ∷ (x ++ z))) ≡ true
    go true f = join_extends (c ∷ x) z f
    go false f = absurd (cc f)

-- all characters are those of a name, where only what follows has a `-` or a `.`
join_behind : (x z : List ℕ) → has_join (x ++ z) ≡ true → has_join x ≡ false → all_pass is_ncname_character x ≡ true
join_behind [] z e f = refl
join_behind (c ∷ x) z e f = go (is_ncname_character c) (joins_words c) e f (λ g h. join_behind x z g h)
  where
    go : (p q : Bool) → (p && (q || has_join (x ++ z))) ≡ true → (p && (q || has_join x)) ≡ false → (has_join (x ++ z) ≡ true → has_join x ≡ false → all_pass is_ncname_character x ≡ true) → (p && all_pass is_ncname_character x) ≡ true
    go true true g h next = absurd (cc h)
    go true false g h next = next g h
    go false q g h next = absurd (cc g)

no_word_opens : (x z : List ℕ) → begins_no_word (x ++ z) ≡ true → begins_no_word x ≡ false → OpensConstructor x
no_word_opens [] z e f = inl (inl tt)
no_word_opens (c ∷ x) z e f =
    let p = and_parts (is_ncname_start c) (has_join (c ∷ (x ++ z))) e in
    let q : has_join (c ∷ x) ≡ false = ap (λ b. b && has_join (c ∷ x)) (sym p.0) ∙ f in
    let a = join_behind (c ∷ x) z p.1 q in
    inl (inl (p.0, (and_parts (is_ncname_character c) (all_pass is_ncname_character x) a).1))

-- the end of a text that is two texts, one behind the other
split : (a m x z : List ℕ) → a ++ m ≡ x ++ z → (length m ≤ length z) ⊎ ((w : List ℕ) × (m ≡ w ++ z))
split [] m x z e = inr (x, e)
split (c ∷ a) m [] z e = inl (omega (arith, ap length e, length-append (c ∷ a) m))
split (c ∷ a) m (b ∷ x) z e = split a m x z (ap (drop 1) e)

stands_there : {A : Type 0} (r : Option A) → is_some r ≡ true → (a : A) × (r ≡ Some a)
stands_there None e = absurd (cc e)
stands_there (Some a) e = (a, refl)

module _ (lawful : LawfulToken IsConstructor OpensConstructor scan_constructor seen_constructor no_fault) where
  pub constructor_starts : (v : Made) (x y : List ℕ) → IsConstructor v x y → starts_constructor x ≡ true
  constructor_starts v x y d = or_is (is_some (scan_constructor x)) (begins_no_word x) (inl (ap is_some (lawful.complete v x y d)))

  stands_extends : (x z : List ℕ) → starts_constructor x ≡ true → starts_constructor (x ++ z) ≡ true
  stands_extends x z e = elim (or_parts (is_some (scan_constructor x)) (begins_no_word x) e) [
    | inl f ↦ (let s = stands_there (scan_constructor x) f in constructor_starts s.0.0 (x ++ z) (s.0.1 ++ z) (constructor_extends s.0.0 x s.0.1 z (lawful.sound s.0.0 x s.0.1 s.1)))
    | inr f ↦ or_is (is_some (scan_constructor (x ++ z))) (begins_no_word (x ++ z)) (inr (no_word_extends x z f))
  ]

  stays : (x z : List ℕ) → starts_constructor (x ++ z) ≡ false → starts_constructor x ≡ false
  stays x z e = go (starts_constructor x) refl
    where
      go : (b : Bool) → starts_constructor x ≡ b → b ≡ false
      go true f = sym (stands_extends x z f) ∙ e
      go false f = refl

  or_none : (a b : Bool) → (a || b) ≡ false → (a ≡ false) × (b ≡ false)
  or_none true b e = absurd (cc e)
  or_none false b e = (refl, e)

  opened : (v : Made) (x y z : List ℕ) → IsConstructor v (x ++ z) y → starts_constructor x ≡ false → OpensConstructor x
  opened v x y z d f =
      let a = lawful.ends v (x ++ z) y d in
      elim (split a.0 y x z (sym a.1)) [
        | inl k ↦ lawful.fronts v x y z d k
        | inr k ↦ absurd (let s = constructor_starts v x k.0 (lawful.cut v x k.0 z (subst (λ w. IsConstructor v (x ++ z) w) k.1 d)) in cc (s, f))
      ]

  grows : (x z : List ℕ) → starts_constructor x ≡ false → (starts_constructor (x ++ z) ≡ false) ⊎ OpensConstructor x
  grows x z e = go (starts_constructor (x ++ z)) refl
    where
      go : (b : Bool) → starts_constructor (x ++ z) ≡ b → (b ≡ false) ⊎ OpensConstructor x
      go false f = inl refl
      go true f = elim (or_parts (is_some (scan_constructor (x ++ z))) (begins_no_word (x ++ z)) f) [
        | inl g ↦ (let s = stands_there (scan_constructor (x ++ z)) g in inr (opened s.0.0 x s.0.1 z (lawful.sound s.0.0 (x ++ z) s.0.1 s.1) e))
        | inr g ↦ inr (no_word_opens x z g (or_none (is_some (scan_constructor x)) (begins_no_word x) e).1)
      ]

  pub tells : Tells {V = Made} Never OpensConstructor starts_constructor
  tells = record { begins = λ v x y d. absurd d; stays = stays; grows = grows; empty = inl (inl tt) }

  pub no_constructor_lawful : LawfulToken NoConstructor OpensConstructor (scan_optional scan_never starts_constructor nothing) seen_constructor no_fault
  no_constructor_lawful =
      lawful_optional Never OpensConstructor scan_never seen_constructor (lawful_stop IsConstructor OpensConstructor scan_constructor seen_constructor no_fault lawful no_fault refl) starts_constructor nothing tells
