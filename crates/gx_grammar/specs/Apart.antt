-- How tokens look, and which of them never stand at one place.
use Rattle.std.specs.Prelude.{ℕ, List, [], ◌∷◌, ◌++◌, ◌≡◌, ◌≢◌, ◌⊎◌, ◌==◌, ◌||◌, ◌&&◌, Bool, true, false, not}
use Rattle.std.specs.List.{list_all}
use Rattle.gx_grammar.specs.Language.{Language}
use Rattle.gx_grammar.specs.First.{Stands, head_passes}
use Rattle.gx_grammar.specs.Tokens.{IsFrontOf}
use Rattle.gx_grammar.specs.Words.{Spelling}

-- How a token looks: it is one of these words; or its first character passes a test; or nothing is known of it.
pub data Shape : Type 0 where
  spelled : (words : List Spelling) → Shape
  headed : (test : ℕ → Bool) → Shape
  shapeless : Shape

-- the token is that word, and no character that passes the test follows
abbrev pub one_word : List ℕ → (ℕ → Bool) → Shape
one_word word test = spelled (record { word = word; test = test } ∷ [])

-- one of the words stands at the front of the text
abbrev pub Spells : List Spelling → List ℕ → Type 0
Spells [] x = ⊥
Spells (s ∷ ss) x = ((y : List ℕ) × (x ≡ s.word ++ y) × (head_passes s.test y ≡ false)) ⊎ Spells ss x

-- the text is a front of one of the words
abbrev pub OpensWord : List Spelling → List ℕ → Type 0
OpensWord [] x = ⊥
OpensWord (s ∷ ss) x = IsFrontOf x s.word ⊎ OpensWord ss x

-- the token has the shape, whether it has a fault or not
abbrev pub HasShape : (L : Language) → L.Token → Shape → Type 0
HasShape L t (spelled words) =
    ((x : List ℕ) → Stands L.derives L.faults t x → Spells words x)
    × ((x : List ℕ) → L.opens t x → OpensWord words x)
    × ((x : List ℕ) → OpensWord words x → L.opens t x)
HasShape L t (headed test) =
    ((x : List ℕ) → Stands L.derives L.faults t x → (x ≢ []) × (head_passes test x ≡ true))
    × ((x : List ℕ) → L.opens t x → x ≢ [] → head_passes test x ≡ true)
HasShape L t shapeless = Unit {0}

-- Two spellings, each with its test, never stand at one place.
abbrev pub words_apart : List ℕ → (ℕ → Bool) → List ℕ → (ℕ → Bool) → Bool
words_apart [] first [] second = false
words_apart [] first (d ∷ y) second = first d
words_apart (c ∷ x) first [] second = second c
words_apart (c ∷ x) first (d ∷ y) second = not (c == d) || words_apart x first y second

-- the word is apart from each of the others
abbrev pub apart_from : List Spelling → Spelling → Bool
apart_from others s = list_all (λ r. words_apart s.word s.test r.word r.test) others

-- no two of the words ever stand at one place
abbrev pub all_words_apart : List Spelling → Bool
all_words_apart [] = true
all_words_apart (s ∷ ss) = apart_from ss s && all_words_apart ss

-- the word begins with a character that passes the test, or with one that fails it
abbrev pub word_begins : (ℕ → Bool) → Bool → List ℕ → Bool
word_begins test b [] = false
word_begins test true (c ∷ x) = test c
word_begins test false (c ∷ x) = not (test c)

-- each of the words begins so
abbrev pub words_begin : (ℕ → Bool) → Bool → Shape → Bool
words_begin test b (spelled words) = list_all (λ s. word_begins test b s.word) words
words_begin test b _ = false

-- Two shapes never stand at one place.
abbrev pub shapes_apart : Shape → Shape → Bool
shapes_apart (spelled words) (spelled others) = list_all (apart_from others) words
shapes_apart (spelled words) (headed test) = words_begin test false (spelled words)
shapes_apart (headed test) (spelled words) = words_begin test false (spelled words)
shapes_apart _ _ = false

-- each shape of the first list is apart from each of the second
abbrev pub all_apart : {Token : Type 0} → (Token → Shape) → List Token → List Token → Bool
all_apart shape ts us = list_all (λ u. list_all (λ t. shapes_apart (shape t) (shape u)) ts) us

-- the first character is that one
abbrev pub is : ℕ → ℕ → Bool
is k c = c == k

-- Tokens of the shape begin with the character k, or with another one.
abbrev pub shape_begins : ℕ → Bool → Shape → Bool
shape_begins k b (spelled words) = words_begin (is k) b (spelled words)
shape_begins k false (headed test) = not (test k)
shape_begins _ _ _ = false
