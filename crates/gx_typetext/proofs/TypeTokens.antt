-- The tokens of type texts keep their laws, and how they look.
use Rattle.std.proofs.Common.{◌≡◌, ◌≢◌, ℕ, ◌<◌, Bool, true, false, List, [], ◌∷◌, ◌++◌, ◌⊎◌, inl, inr, length, length-append, refl, sym, ap, ◌∙◌, codes, arith}
use Rattle.gx_grammar.specs.Value.{nothing, characters}
use Rattle.gx_grammar.specs.Laws.{LawfulTokens}
use Rattle.gx_grammar.specs.First.{Stands, AreApart, head_passes}
use Rattle.gx_grammar.specs.Tokens.{LawfulToken, IsFrontOf, IsWord, IsNamed, all_pass, opens_name}
use Rattle.gx_grammar.specs.Apart.{HasShape, OpensWord, Spells, is}
use Rattle.std.proofs.lemmas.Bool.{and_parts}
use Rattle.gx_grammar.proofs.PublicLaws.{lawful_gap, lawful_name, lawful_tokens, lawful_word}
use Rattle.gx_base.specs.NameCharacters.{is_ncname_start, is_ncname_character, is_xml_character}
use Rattle.gx_typetext.specs.Letters.{no_character, starts, goes, stops}
use Rattle.gx_typetext.specs.Nodes.{TypeTextNode, Made}
use Rattle.gx_typetext.specs.Tokens.{Token, symbol, keyword, named, local, gap, derives, opens, scan, seen, no_faults, is_full, takes, token_shape}
use Rattle.gx_typetext.specs.Grammar.{type_texts}

delimiters : (is_xml_character 40 ≡ true) × (is_xml_character 58 ≡ true)
unfolding is_xml_character
delimiters = (refl, refl)

token_lawful : (t : Token) → LawfulToken {V = Made} (derives t) (opens t) (scan t) (seen t) (no_faults t)
token_lawful (symbol w) = lawful_word nothing w no_character
token_lawful (keyword w) = lawful_word nothing w is_ncname_character
token_lawful (named r) = lawful_name characters (starts r) (goes r) (stops r)
token_lawful gap = lawful_gap is_xml_character delimiters nothing

pub lawful : LawfulTokens type_texts
lawful = lawful_tokens type_texts token_lawful

word_taken : {v : Made} {w : List ℕ} {test : ℕ → Bool} {x y : List ℕ} → is_full w ≡ true → IsWord nothing w test v x y → length y < length x
word_taken {w = []} f d = absurd (cc)
word_taken {w = c ∷ w} {y = y} f d = omega (arith, ap length d.spelled, length-append (c ∷ w) y)

pub tokens_taken : (t : Token) (v : Made) (x y : List ℕ) → takes t ≡ true → derives t v x y → length y < length x
tokens_taken (symbol w) v x y e d = word_taken e d
tokens_taken (keyword w) v x y e d = word_taken e d
tokens_taken (named r) v x y e d = omega (arith, ap length d.whole, ap length d.others.spelled, length-append d.others.run y)
tokens_taken gap v x y e d = absurd (cc)

-- how the tokens look

abbrev Stood : Token → List ℕ → Type 0
Stood t x = Stands {Node = TypeTextNode} derives no_faults t x

word_shaped : (t : Token) (word : List ℕ) (test : ℕ → Bool) → ((v : Made) (x y : List ℕ) → derives t v x y → IsWord nothing word test v x y)
    → (x : List ℕ) → Stood t x → Spells (record { word = word; test = test } ∷ []) x
word_shaped t word test d x (inl s) = let w = d s.0 x s.1 s.2 in inl (s.1, w.spelled, w.ended)
word_shaped t word test d x (inr s) = absurd (let e = s.1 in cc e)

word_opened : (word : List ℕ) (test : ℕ → Bool) (x : List ℕ) → OpensWord (record { word = word; test = test } ∷ []) x → IsFrontOf x word
word_opened word test x (inl o) = o
word_opened word test x (inr o) = absurd o

name_shaped : (t : Token) (first test stop : ℕ → Bool) → ((v : Made) (x y : List ℕ) → derives t v x y → IsNamed characters first test stop v x y)
    → (x : List ℕ) → Stood t x → (x ≢ []) × (head_passes first x ≡ true)
name_shaped t first test stop d x (inl s) = let n = d s.0 x s.1 s.2 in ((λ e. let g = n.whole in absurd (cc (e, g))), ap (head_passes first) n.whole ∙ n.begins)
name_shaped t first test stop d x (inr s) = absurd (let e = s.1 in cc e)

name_opened : (first test : ℕ → Bool) (x : List ℕ) → opens_name first test x → x ≢ [] → head_passes first x ≡ true
name_opened first test [] o n = absurd (n refl)
name_opened first test (c ∷ x) o n = o.0

pub shaped : (t : Token) → HasShape type_texts t (token_shape t)
shaped (symbol w) = (word_shaped (symbol w) w no_character (λ v x y d. d), (λ x o. inl o), word_opened w no_character)
shaped (keyword w) = (word_shaped (keyword w) w is_ncname_character (λ v x y d. d), (λ x o. inl o), word_opened w is_ncname_character)
shaped (named r) = (name_shaped (named r) (starts r) (goes r) (stops r) (λ v x y d. d), name_opened (starts r) (goes r))
shaped gap = tt

-- `xs:` is no name, since no name stands in front of `:`

colon_is_no_name : is_ncname_character 58 ≡ true → ⊥
unfolding is_ncname_character is_ncname_start
colon_is_no_name e = cc

s_is_name : is_ncname_character 115 ≡ true
unfolding is_ncname_character is_ncname_start
s_is_name = refl

run_ends : (run y rest : List ℕ) → 115 ∷ 58 ∷ rest ≡ run ++ y → all_pass is_ncname_character run ≡ true → head_passes is_ncname_character y ≡ false → head_passes (is 58) y ≡ false → ⊥
run_ends [] y rest e p l n = let f : head_passes is_ncname_character y ≡ true = ap (head_passes is_ncname_character) (sym e) ∙ s_is_name in cc (f, l)
run_ends (c ∷ []) y rest e p l n = let f : 58 ∷ rest ≡ y = cc e in let g : head_passes (is 58) y ≡ true = ap (head_passes (is 58)) (sym f) in cc (g, n)
run_ends (c ∷ d ∷ run) y rest e p l n =
    let f : 58 ≡ d = cc e in
    let q = and_parts (is_ncname_character c) (all_pass is_ncname_character (d ∷ run)) p in
    let r = and_parts (is_ncname_character d) (all_pass is_ncname_character run) q.1 in
    colon_is_no_name (ap is_ncname_character f ∙ r.0)

prefix_stands : (x : List ℕ) → Stood (symbol (codes "xs:")) x → (rest : List ℕ) × (x ≡ 120 ∷ 115 ∷ 58 ∷ rest)
prefix_stands x (inl s) = let d = s.2 in (s.1, d.spelled)
prefix_stands x (inr s) = absurd (let e = s.1 in cc e)

never_name : (x rest : List ℕ) → x ≡ 120 ∷ 115 ∷ 58 ∷ rest → Stood local x → ⊥
never_name x rest e (inr s) = let f = s.1 in cc f
never_name x rest e (inl s) =
    let d = s.2 in
    let w = d.whole in
    let f : 115 ∷ 58 ∷ rest ≡ d.tail = cc (e, w) in
    run_ends d.others.run s.1 rest (f ∙ d.others.spelled) d.others.passes d.others.longest d.others.ended

name_opening : (x z rest : List ℕ) → opens local x → x ++ z ≡ 120 ∷ 115 ∷ 58 ∷ rest → (x ≡ []) ⊎ opens (symbol (codes "xs:")) x
name_opening [] z rest o e = inl refl
name_opening (a ∷ []) z rest o e = let f : a ≡ 120 = cc e in inr (115 ∷ 58 ∷ [], ap (λ c. c ∷ 115 ∷ 58 ∷ []) (sym f))
name_opening (a ∷ b ∷ []) z rest o e =
    let f : a ≡ 120 = cc e in
    let g : b ≡ 115 = cc e in
    inr (58 ∷ [], ap (λ c. c ∷ 115 ∷ 58 ∷ []) (sym f) ∙ ap (λ c. a ∷ c ∷ 58 ∷ []) (sym g))
name_opening (a ∷ b ∷ c ∷ x) z rest o e =
    let h : c ≡ 58 = cc e in
    let q = and_parts (is_ncname_character b) (all_pass is_ncname_character (c ∷ x)) o.1 in
    let r = and_parts (is_ncname_character c) (all_pass is_ncname_character x) q.1 in
    absurd (colon_is_no_name (ap is_ncname_character (sym h) ∙ r.0))

pub prefix_apart : AreApart type_texts (symbol (codes "xs:")) local
prefix_apart = record {
  never = λ x s u. (let p = prefix_stands x s in never_name x p.0 p.1 u);
  opening = λ x z o s. (let p = prefix_stands (x ++ z) s in name_opening x z p.0 o p.1);
}
