-- Printed names and words, token by token.
use Rattle.std.proofs.Common.{◌≡◌, ◌≢◌, ℕ, Bool, true, false, not, ◌&&◌, ◌||◌, ◌==◌, List, [], ◌∷◌, ◌++◌, refl, sym, ap, subst, ◌∙◌, Option, None, Some, append_assoc, if◌then◌else◌}
use Rattle.std.specs.Prelude.{codes}
use Rattle.std.proofs.lemmas.Bool.{and_parts, and_from, eqb-true}
use Rattle.gx_base.specs.WhiteSpace.{is_white_space}
use Rattle.gx_grammar.specs.Apart.{is}
use Rattle.gx_grammar.specs.Derivation.{Derives, of_token, of_empty, of_both, of_keyed, of_left, of_right, of_rule, of_made}
use Rattle.gx_grammar.specs.First.{head_passes}
use Rattle.gx_grammar.specs.Gaps.{Gap, gap_ends, gap_white, ends_gap}
use Rattle.gx_grammar.specs.Tokens.{all_pass}
use Rattle.gx_grammar.specs.Value.{nothing, characters, pair}
use Rattle.gx_typetext.specs.Grammar.{TypePhrase, lexeme, type_texts}
use Rattle.gx_base.specs.NameCharacters.{is_ncname_start, is_ncname_character, is_xml_character}
use Rattle.gx_typetext.specs.Letters.{is_uri_character, no_character}
use Rattle.gx_typetext.specs.Nodes.{Made}
use Rattle.gx_typetext.specs.ReadBack.{is_ncname}
use Rattle.gx_typetext.specs.Tokens.{symbol, keyword, local, uri, gap, derives}
use Rattle.gx_grammar.specs.Grammar.{token}

abbrev pub D : TypePhrase → Made → List ℕ → List ℕ → Type 0
D A v x y = Derives type_texts A v x y

abbrev pub IsGap : List ℕ → List ℕ → Type 0
IsGap x y = Gap is_xml_character 0 x y

-- no name goes on, and no prefix ends
pub record IsPlain (y : List ℕ) : Type 0 where
  pub ended : head_passes is_ncname_character y ≡ false
  pub colon : head_passes (is 58) y ≡ false

none_stops : (y : List ℕ) → head_passes no_character y ≡ false
none_stops [] = refl
none_stops (c ∷ y) = refl

pub gap_read : (x y : List ℕ) → IsGap x y → D (token gap) nothing x y
gap_read x y g = of_token {t = gap} (record { same = refl; gap = g })

pub symbol_read : (w y : List ℕ) → D (token (symbol w)) nothing (w ++ y) y
symbol_read w y = of_token {t = symbol w} (record { same = refl; spelled = refl; ended = none_stops y })

pub symbol_gap : (w y z : List ℕ) → IsGap y z → D (lexeme (symbol w)) (pair nothing nothing) (w ++ y) z
symbol_gap w y z g = of_both (symbol_read w y) (gap_read y z g)

pub keyword_gap : (w y z : List ℕ) → head_passes is_ncname_character y ≡ false → IsGap y z → D (lexeme (keyword w)) (pair nothing nothing) (w ++ y) z
keyword_gap w y z e g = of_both (of_token {t = keyword w} (record { same = refl; spelled = refl; ended = e })) (gap_read y z g)

pub local_token : (l y : List ℕ) → is_ncname l ≡ true → IsPlain y → derives local (characters l) (l ++ y) y
local_token [] y h p = absurd (cc h)
local_token (c ∷ cs) y h p =
    let q = and_parts (is_ncname_start c) (all_pass is_ncname_character cs) h in
    record { head = c; tail = cs ++ y; whole = refl; begins = q.0; others = record { run = cs; same = refl; spelled = refl; passes = q.1; longest = p.ended; ended = p.colon } }

pub local_read : (l y : List ℕ) → is_ncname l ≡ true → IsPlain y → D (token local) (characters l) (l ++ y) y
local_read l y h p = of_token {t = local} (local_token l y h p)

pub uri_read : (l y : List ℕ) → l ≢ [] → all_pass is_uri_character l ≡ true → D (token uri) (characters l) (l ++ 125 ∷ y) (125 ∷ y)
uri_read [] y n h = absurd (n refl)
uri_read (c ∷ cs) y n h =
    let q = and_parts (is_uri_character c) (all_pass is_uri_character cs) h in
    of_token {t = uri}
    (record { head = c; tail = cs ++ 125 ∷ y; whole = refl; begins = q.0; others = record { run = cs; same = refl; spelled = refl; passes = q.1; longest = refl; ended = refl } })

-- with what a name begins

start_is_not : (c n : ℕ) (same : Bool) → (c == n) ≡ same → is_ncname_start n ≡ false → is_ncname_start c ≡ true → same ≡ false
start_is_not c n true e f h = let k : c ≡ n = eqb-true c n e in let g : is_ncname_start n ≡ true = subst (λ m. is_ncname_start m ≡ true) k h in absurd (cc)
start_is_not c n false e f h = refl

no_white : (a b c d : Bool) → a ≡ false → b ≡ false → c ≡ false → d ≡ false → (a || b) || (c || d) ≡ false
no_white false false false false p q r t = refl
no_white true b c d p q r t = absurd (cc p)
no_white false true c d p q r t = absurd (cc q)
no_white false false true d p q r t = absurd (cc r)
no_white false false false true p q r t = absurd (cc t)

signs_outside : (is_ncname_start 40 ≡ false) × (is_ncname_start 58 ≡ false) × (is_ncname_start 32 ≡ false) × (is_ncname_start 9 ≡ false) × (is_ncname_start 10 ≡ false) × (is_ncname_start 13 ≡ false)
unfolding is_ncname_start
signs_outside = (refl, refl, refl, refl, refl, refl)

start_is_black : (c : ℕ) → is_ncname_start c ≡ true → is_white_space c ≡ false
start_is_black c h =
    no_white (c == 32) (c == 9) (c == 10) (c == 13) (start_is_not c 32 (c == 32) refl signs_outside.2 h) (start_is_not c 9 (c == 9) refl signs_outside.3 h)
    (start_is_not c 10 (c == 10) refl signs_outside.4 h) (start_is_not c 13 (c == 13) refl signs_outside.5 h)

pub begins_no_gap : (c : ℕ) (x : List ℕ) → is_white_space c ≡ false → (c == 40) ≡ false → ends_gap (c ∷ x) ≡ true
begins_no_gap c [] w o = ap not w
begins_no_gap c (d ∷ x) w o = ap (λ b. not b && not ((c == 40) && (d == 58))) w ∙ ap (λ b. not (b && (d == 58))) o

-- what may stand where an operand is due: neither a gap nor a `:`
pub record Begins (x : List ℕ) : Type 0 where
  pub gap : ends_gap x ≡ true
  pub colon : head_passes (is 58) x ≡ false

pub name_begins : (l y : List ℕ) → is_ncname l ≡ true → Begins (l ++ y)
name_begins [] y h = absurd (cc h)
name_begins (c ∷ cs) y h =
    let q = and_parts (is_ncname_start c) (all_pass is_ncname_character cs) h in
    record {
      gap = begins_no_gap c (cs ++ y) (start_is_black c q.0) (start_is_not c 40 (c == 40) refl signs_outside.0 q.0);
      colon = start_is_not c 58 (is 58 c) refl signs_outside.1 q.0;
    }
