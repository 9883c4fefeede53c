-- Words that are split at their first `=`.
use Rattle.std.proofs.Common.{◌≡◌, ◌≢◌, ℕ, zero, suc, ◌+◌, ◌<◌, Bool, true, false, List, [], ◌∷◌, ◌++◌, Option, Some, None, MatchOption, Bor, String, string_bytes, length, take, map, get_or, refl, sym, ◌∙◌, ap, arith, append_assoc, if◌then◌else◌}
use Rattle.std.proofs.lemmas.Str.Pattern.{split_parts, IsSplitOnceResult}
use Rattle.gx_documents.specs.BindingView.{word_bytes}
use Rattle.std.proofs.lemmas.Bool.{ne_eqb}
use Rattle.gx_documents.specs.Bindings.{bound_name, bound_file, is_one_of, first_wrong, unknown, doubled}

-- no character in front of the cut is a `=`
pub name_in_front : (front rest : List ℕ) → ((i : ℕ) → i < length front → get_or front i 0 ≢ 61) → bound_name (front ++ (61 ∷ rest)) ≡ front
name_in_front [] rest h = refl
name_in_front (c ∷ front) rest h =
    ap (λ (b : Bool). if b then [] else c ∷ bound_name (front ++ (61 ∷ rest))) (ne_eqb c 61 (h 0 (omega arith)))
    ∙ ap (λ (word : List ℕ). c ∷ word) (name_in_front front rest (λ i k. h (suc i) (omega arith)))

pub file_behind : (front rest : List ℕ) → ((i : ℕ) → i < length front → get_or front i 0 ≢ 61) → bound_file (front ++ (61 ∷ rest)) ≡ rest
file_behind [] rest h = refl
file_behind (c ∷ front) rest h =
    ap (λ (b : Bool). if b then front ++ (61 ∷ rest) else bound_file (front ++ (61 ∷ rest))) (ne_eqb c 61 (h 0 (omega arith)))
    ∙ file_behind front rest (λ i k. h (suc i) (omega arith))

-- a word without a `=`
pub name_is_all : (word : List ℕ) → ((i : ℕ) → i < length word → get_or word i 0 ≢ 61) → bound_name word ≡ word
name_is_all [] h = refl
name_is_all (c ∷ word) h =
    ap (λ (b : Bool). if b then [] else c ∷ bound_name word) (ne_eqb c 61 (h 0 (omega arith))) ∙ ap (λ (x : List ℕ). c ∷ x) (name_is_all word (λ i k. h (suc i) (omega arith)))

pub file_is_nothing : (word : List ℕ) → ((i : ℕ) → i < length word → get_or word i 0 ≢ 61) → bound_file word ≡ []
file_is_nothing [] h = refl
file_is_nothing (c ∷ word) h =
    ap (λ (b : Bool). if b then word else bound_file word) (ne_eqb c 61 (h 0 (omega arith))) ∙ file_is_nothing word (λ i k. h (suc i) (omega arith))

-- the parts of a word that is split once
pub name_split : (word : List ℕ) (r : Option (Bor (List ℕ) × Bor (List ℕ))) → IsSplitOnceResult 61 word r → MatchOption r (word ≡ bound_name word) (λ x. x.0.now ≡ bound_name word)
name_split word None s = sym (name_is_all word (split_parts 61 word None s (omega arith)))
name_split word (Some x) s =
    let p = split_parts 61 word (Some x) s (omega arith) in sym (ap bound_name p.0 ∙ name_in_front x.0.now x.1.now p.1)

pub file_split : (word : List ℕ) (r : Option (Bor (List ℕ) × Bor (List ℕ))) → IsSplitOnceResult 61 word r → MatchOption r ([] ≡ bound_file word) (λ x. x.1.now ≡ bound_file word)
file_split word None s = sym (file_is_nothing word (split_parts 61 word None s (omega arith)))
file_split word (Some x) s =
    let p = split_parts 61 word (Some x) s (omega arith) in sym (ap bound_file p.0 ∙ file_behind x.0.now x.1.now p.1)

-- ---- words one behind another

take_more : {T : Type 0} (count : ℕ) (words left others : List T) (word : T) → take count words ++ left ≡ words → left ≡ word ∷ others → take (suc count) words ≡ take count words ++ word ∷ []
take_more zero words left others word e f = ap (λ ws. take 1 ws) (sym e ∙ f)
take_more (suc count) [] left others word e f = absurd (cc)
take_more (suc count) (w ∷ words) left others word e f =
    let rest : take count words ++ left ≡ words = cc in ap (λ ws. w ∷ ws) (take_more count words left others word rest f)

one_more : (count : ℕ) → count + 1 ≡ suc count
one_more count = omega arith

names_behind : {Z : Type 0} (words : List (String Z)) (word : String Z) → map bound_name (word_bytes (words ++ word ∷ [])) ≡ map bound_name (word_bytes words) ++ bound_name (string_bytes word) ∷ []
names_behind [] word = refl
names_behind (w ∷ words) word = ap (λ (names : List (List ℕ)). bound_name (string_bytes w) ∷ names) (names_behind words word)

-- a word that is not wrong
not_wrong : (variables earlier words : List (List ℕ)) (word : List ℕ) → is_one_of variables (bound_name word) ≡ true → is_one_of earlier (bound_name word) ≡ false
    → first_wrong variables earlier (word ∷ words) ≡ first_wrong variables (earlier ++ bound_name word ∷ []) words
not_wrong variables earlier words word known new =
    ap (λ (b : Bool). if b then (if is_one_of earlier (bound_name word) then Some (doubled (bound_name word)) else first_wrong variables (earlier ++ bound_name word ∷ []) words) else Some (unknown (bound_name word))) known
    ∙ ap (λ (b : Bool). if b then Some (doubled (bound_name word)) else first_wrong variables (earlier ++ bound_name word ∷ []) words) new

pub words_go_on : {Z : Type 0} (variables : List (List ℕ)) (count : ℕ) (words left others : List (String Z)) (word : String Z) → take count words ++ left ≡ words
    → first_wrong variables (map bound_name (word_bytes (take count words))) (word_bytes left) ≡ first_wrong variables [] (word_bytes words) → left ≡ word ∷ others
    → is_one_of variables (bound_name (string_bytes word)) ≡ true → is_one_of (map bound_name (word_bytes (take count words))) (bound_name (string_bytes word)) ≡ false
    → (take (count + 1) words ++ others ≡ words) × (first_wrong variables (map bound_name (word_bytes (take (count + 1) words))) (word_bytes others) ≡ first_wrong variables [] (word_bytes words))
words_go_on variables count words left others word whole comes first known new =
    let more = ap (λ (n : ℕ). take n words) (one_more count) ∙ take_more count words left others word whole first in (
      ap (λ ws. ws ++ others) more ∙ append_assoc (take count words) (word ∷ []) others ∙ ap (λ ws. take count words ++ ws) (sym first) ∙ whole,
      ap (λ ws. first_wrong variables (map bound_name (word_bytes ws)) (word_bytes others)) more
          ∙ ap (λ (names : List (List ℕ)). first_wrong variables names (word_bytes others)) (names_behind (take count words) word)
          ∙ sym (not_wrong variables (map bound_name (word_bytes (take count words))) (word_bytes others) (string_bytes word) known new)
          ∙ ap (λ ws. first_wrong variables (map bound_name (word_bytes (take count words))) (word_bytes ws)) (sym first)
          ∙ comes,
    )
