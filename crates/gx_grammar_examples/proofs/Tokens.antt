-- The tokens of the small languages keep their laws, and how they look.
use Rattle.std.proofs.Common.{◌≡◌, ◌≢◌, ℕ, ◌<◌, Bool, true, false, not, List, [], ◌∷◌, ◌++◌, inl, inr, length, length-append, refl, ap, ◌∙◌, Option, Some, None, if◌then◌else◌, arith}
use Rattle.std.specs.List.{list_all}
use Rattle.gx_grammar.specs.Value.{Value, nothing, characters}
use Rattle.gx_grammar.specs.Grammar.{Grammar, choose, many}
use Rattle.gx_grammar.specs.Language.{Language}
use Rattle.gx_grammar.specs.Laws.{LawfulTokens}
use Rattle.gx_grammar.specs.Levels.{takes_some, AreTakings}
use Rattle.gx_grammar.specs.First.{IsIn, AllOf, HasHead, AreFronts, Fronts, IsSorted, Stands, first_of, first_behind, by_character, head_passes}
use Rattle.gx_grammar.specs.Tokens.{LawfulToken, IsWord, IsFrontOf, strip, unless_passes, no_fault, opens_name, scan_word, seen_word}
use Rattle.gx_grammar.specs.Apart.{HasShape, Shape, Spells, OpensWord, headed, is, one_word, shape_begins, shapeless}
use Rattle.gx_grammar.specs.Sums.{no_character, any_character}
use Rattle.gx_grammar.proofs.PublicLaws.{character_chooses, character_repeats, computed_heads, lawful_gap, lawful_name, lawful_run, lawful_stop, lawful_tokens, lawful_word}
use Rattle.gx_grammar_examples.specs.Tokens.{Token, word, named, run, gap, barred, derives, opens, scan, seen, fault_in_front, faults, language_of}

-- what takes characters, and how it looks

abbrev pub is_full : List ℕ → Bool
is_full [] = false
is_full (c ∷ letters) = true

-- the token takes at least one character
abbrev pub takes : Token → Bool
takes (word letters stop) = is_full letters
takes (named first others stop) = true
takes (barred letters next) = true
takes _ = false

-- how the tokens look
abbrev pub token_shape : Token → Shape
token_shape (word letters stop) = one_word letters stop
token_shape (named first others stop) = headed first
token_shape (barred letters next) = one_word letters (λ c. not (next c))
token_shape _ = shapeless

-- Each production takes at least one character, and begins with one of its tokens.
abbrev pub fronts_of : {Production Node : Type 0} (rules : Production → Grammar Token Production Node) (following : List Token) → (Production → List Token) → Fronts (language_of rules following)
fronts_of rules following firsts = record {
  takings = record { token_takes = takes; production_takes = λ p. true };
  first = firsts;
  next = λ p. following;
}

-- a token that may not stand

stops_nowhere : (y : List ℕ) → unless_passes {V = ℕ} 0 no_character (Some y) ≡ Some (0, y)
stops_nowhere [] = refl
stops_nowhere (c ∷ y) = refl

stripped : (letters x y : List ℕ) → strip letters x ≡ Some y → x ≡ letters ++ y
stripped letters x y e = let d = (lawful_word {V = ℕ} 0 letters no_character).sound 0 x y (ap (unless_passes {V = ℕ} 0 no_character) e ∙ stops_nowhere y) in d.spelled

no_fault_at_end : (letters : List ℕ) (next : ℕ → Bool) → fault_in_front next (strip letters []) ≡ None
no_fault_at_end [] next = refl
no_fault_at_end (c ∷ letters) next = refl

not_passing : (next : ℕ → Bool) (x : List ℕ) → head_passes next x ≡ true → head_passes (λ c. not (next c)) x ≡ false
not_passing next [] e = refl
not_passing next (c ∷ x) e = ap not e

fault_stands : (letters : List ℕ) (next : ℕ → Bool) (x : List ℕ) (code : ℕ) → fault_in_front next (strip letters x) ≡ Some code
    → (y : List ℕ) × (x ≡ letters ++ y) × (head_passes (λ c. not (next c)) y ≡ false)
fault_stands letters next x code e = go (strip letters x) refl e
  where
    passing : (y : List ℕ) (b : Bool) → head_passes next y ≡ b → (if b then (Some 2) else None) ≡ Some code → b ≡ true
    passing y true f g = refl
    passing y false f g = absurd (cc)

    go : (q : Option (List ℕ)) → strip letters x ≡ q → fault_in_front next q ≡ Some code → (y : List ℕ) × (x ≡ letters ++ y) × (head_passes (λ c. not (next c)) y ≡ false)
    go (Some y) f g = (y, stripped letters x y f, not_passing next y (passing y (head_passes next y) refl g))
    go None f g = absurd (cc)

name_opened : (first test : ℕ → Bool) (x : List ℕ) → opens_name first test x → x ≢ [] → head_passes first x ≡ true
name_opened first test [] o n = absurd (n refl)
name_opened first test (c ∷ x) o n = o.0

passes_other : (first test : ℕ → Bool) → ((c : ℕ) → first c ≡ true → test c ≡ false) → (x : List ℕ) → head_passes first x ≡ true → head_passes test x ≡ false
passes_other first test h [] e = refl
passes_other first test h (c ∷ x) e = h c e

module _ {Production Node : Type 0} (rules : Production → Grammar Token Production Node) (following : List Token) where
  abbrev L : Language
  L = language_of rules following

  token_lawful : (t : Token) → LawfulToken {V = Value Node} (derives t) (opens t) (scan t) (seen t) (faults t)
  token_lawful (word letters stop) = lawful_word (characters letters) letters stop
  token_lawful (named first others stop) = lawful_name characters first others stop
  token_lawful (run test) = lawful_run characters test no_character
  token_lawful gap = lawful_gap any_character (refl, refl) nothing
  token_lawful (barred letters next) =
      lawful_stop _ _ (scan_word nothing letters no_character) (seen_word letters) no_fault (lawful_word nothing letters no_character) (λ x. fault_in_front next (strip letters x)) (no_fault_at_end letters next)

  pub lawful : LawfulTokens L
  lawful = lawful_tokens L token_lawful

  word_taken : {v value : Value Node} {letters : List ℕ} {stop : ℕ → Bool} {x y : List ℕ} → is_full letters ≡ true → IsWord value letters stop v x y → length y < length x
  word_taken {letters = []} f d = absurd (cc)
  word_taken {letters = c ∷ letters} {y = y} f d = omega (arith, ap length d.spelled, length-append (c ∷ letters) y)

  tokens_taken : (t : Token) (v : Value Node) (x y : List ℕ) → takes t ≡ true → derives t v x y → length y < length x
  tokens_taken (word letters stop) v x y e d = word_taken e d
  tokens_taken (named first others stop) v x y e d = omega (arith, ap length d.whole, ap length d.others.spelled, length-append d.others.run y)
  tokens_taken (run test) v x y e d = absurd (cc)
  tokens_taken gap v x y e d = absurd (cc)
  tokens_taken (barred letters next) v x y e d = absurd d

  -- how the tokens look

  pub shaped : (t : Token) → HasShape L t (token_shape t)
  shaped (word letters stop) = (stands, (λ x o. inl o), opened)
    where
      stands : (x : List ℕ) → Stands {Node = Node} derives faults (word letters stop) x → Spells (record { word = letters; test = stop } ∷ []) x
      stands x (inl s) = let d = s.2 in inl (s.1, d.spelled, d.ended)
      stands x (inr s) = absurd (let e = s.1 in cc e)

      opened : (x : List ℕ) → OpensWord (record { word = letters; test = stop } ∷ []) x → IsFrontOf x letters
      opened x (inl o) = o
      opened x (inr o) = absurd o
  shaped (named first others stop) = (stands, name_opened first others)
    where
      stands : (x : List ℕ) → Stands {Node = Node} derives faults (named first others stop) x → (x ≢ []) × (head_passes first x ≡ true)
      stands x (inl s) = let d = s.2 in ((λ e. let g = d.whole in absurd (cc (e, g))), ap (head_passes first) d.whole ∙ d.begins)
      stands x (inr s) = absurd (let e = s.1 in cc e)
  shaped (run test) = tt
  shaped gap = tt
  shaped (barred letters next) = (stands, (λ x o. inl o), opened)
    where
      stands : (x : List ℕ) → Stands {Node = Node} derives faults (barred letters next) x → Spells (record { word = letters; test = λ c. not (next c) } ∷ []) x
      stands x (inl s) = absurd s.2
      stands x (inr s) = inl (fault_stands letters next x s.0 s.1)

      opened : (x : List ℕ) → OpensWord (record { word = letters; test = λ c. not (next c) } ∷ []) x → IsFrontOf x letters
      opened x (inl o) = o
      opened x (inr o) = absurd o

  -- A run begins with a character that passes its first test, and so with none that passes a test which excludes it.
  pub named_head : (first others stop : ℕ → Bool) → HasHead L first true (named first others stop)
  named_head first others stop = record { stands = (shaped (named first others stop)).0; opened = (shaped (named first others stop)).1 }

  pub other_head : (first others stop test : ℕ → Bool) → ((c : ℕ) → first c ≡ true → test c ≡ false) → HasHead L test false (named first others stop)
  other_head first others stop test h = record {
    stands = λ x s. (let r = (shaped (named first others stop)).0 x s in (r.0, passes_other first test h x r.1));
    opened = λ x o n. passes_other first test h x ((shaped (named first others stop)).1 x o n);
  }

  -- guards, where the productions take characters and begin with these tokens

  module _ (firsts : Production → List Token)
      (production_taken : (p : Production) → takes_some L (fronts_of rules following firsts).takings (rules p) ≡ true)
      (begins : (p : Production) → AllOf (IsIn (firsts p)) (first_of L (fronts_of rules following firsts) (rules p))) where
    pub taken : AreTakings L (fronts_of rules following firsts).takings
    taken = record { tokens = tokens_taken; productions = λ p e. production_taken p }

    pub right : AreFronts L (fronts_of rules following firsts)
    right = record { taken = taken; firsts = begins; follows = λ p y. ((λ h. h), (λ h. h)); follows_cut = λ p y. ((λ h. h), (λ h. h)) }

    abbrev Sorts : Grammar Token Production Node → List Token → Type 0
    Sorts A us = IsSorted L (fronts_of rules following firsts) A us

    abbrev begun_by : Grammar Token Production Node → List Token
    begun_by A = first_of L (fronts_of rules following firsts) A

    abbrev begun_behind : Grammar Token Production Node → List Token → List Token
    begun_behind A us = first_behind L (fronts_of rules following firsts) A us

    -- A choice by the first character, with which the first part begins, and nothing that stands otherwise.
    pub by_first : (k : ℕ) (A B : Grammar Token Production Node) (us : List Token) → takes_some L (fronts_of rules following firsts).takings A ≡ true
        → list_all (λ t. shape_begins k true (token_shape t)) (begun_by A) ≡ true
        → list_all (λ t. shape_begins k false (token_shape t)) (begun_behind B us) ≡ true
        → Sorts A us → Sorts B us → Sorts (choose (by_character (is k)) A B) us
    by_first k A B us t p f a b = (
      character_chooses L (is k) (fronts_of rules following firsts) right A B us
          (record { takes = t; passes = computed_heads L token_shape shaped k true (begun_by A) p; fails = computed_heads L token_shape shaped k false (begun_behind B us) f }),
      a,
      b,
    )

    -- Items that begin with the character, and nothing behind them does.
    pub many_first : (k : ℕ) (A : Grammar Token Production Node) (us : List Token) → takes_some L (fronts_of rules following firsts).takings A ≡ true
        → list_all (λ t. shape_begins k true (token_shape t)) (begun_by A) ≡ true
        → list_all (λ t. shape_begins k false (token_shape t)) us ≡ true
        → Sorts A (begun_by A ++ us) → Sorts (many (by_character (is k)) A) us
    many_first k A us t p f a = (
      character_repeats L (is k) (fronts_of rules following firsts) right A us
          (record { takes = t; passes = computed_heads L token_shape shaped k true (begun_by A) p; fails = computed_heads L token_shape shaped k false us f }),
      t,
      a,
    )
