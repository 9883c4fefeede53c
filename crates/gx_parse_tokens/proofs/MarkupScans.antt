-- What is seen of tokens in direct and computed constructors.
use Rattle.std.proofs.Common.{◌≡◌, ◌≢◌, ◌≤◌, ◌<◌, ℕ, zero, suc, ◌-◌, ◌+◌, ◌||◌, Bool, true, false, if◌then◌else◌, List, [], ◌∷◌, ◌++◌, length, take, min, refl, sym, ap, ap₂, ◌∙◌, Option, Some, None, is_some, arith, length-append}
use Rattle.std.specs.Prelude.{MatchOption}
use Rattle.std.proofs.lemmas.Bool.{true≢false}
use Rattle.std.proofs.lemmas.List.{take-append-le}
use Rattle.gx_base.specs.NameCharacters.{is_ncname_start, is_ncname_character}
use Rattle.gx_base.specs.WhiteSpace.{is_white_space}
use Rattle.gx_grammar.specs.First.{scans_any, seen_any}
use Rattle.gx_grammar.specs.Joined.{scan_joined, seen_joined, scan_behind, seen_behind}
use Rattle.gx_grammar.specs.Tokens.{behind_run, seen_name, seen_word}
use Rattle.gx_grammar.specs.Value.{nothing, characters}
use Rattle.gx_grammar.specs.Walks.{Walk, walk_of, behind_walk, head_goes}
use Rattle.gx_grammar.proofs.PublicLaws.{run_short, walk_short}
use Rattle.gx_parse_grammar.specs.declared.runs.Run.{Run}
use Rattle.gx_parse_grammar.specs.declared.runs.Run.TheVariants as run
use Rattle.gx_parse_grammar.specs.declared.word.Word.{Word}
use Rattle.gx_parse_grammar.specs.declared.word.Word.TheVariants as word
use Rattle.gx_parse_tokens.specs.declared.markup.Looked.{Looked}
use Rattle.gx_parse_grammar.specs.Nodes.{Made}
use Rattle.gx_parse_grammar.specs.References.{is_run_character, text_of}
use Rattle.gx_parse_grammar.specs.Tokens.{Token, text_run, scan, seen, faults, reference, reference_fault, reference_code, no_element, element_fault, starts_element, limit_code, cdata_text, cdata_walk, constructor, scan_qname, scan_ncname, seen_qname, seen_local_part, seen_by_number, entity_words, scan_gap_brace, seen_gap_brace, white}
use Rattle.gx_parse_grammar.specs.Words.{letters_of}
use Rattle.gx_parse_grammar.specs.Basics.{word_of}
use Rattle.gx_parse_grammar.specs.Direct.{start_of}
use Rattle.gx_parse_tokens.specs.Markup.{LooksAt}
use Rattle.gx_parse_tokens.proofs.Finding.{seen_bounded}
use Rattle.gx_parse_tokens.proofs.ReferenceScans.{fault_bad, found_some}

or_joins : (ts us : List Token) (x : List ℕ) → scans_any {Node = _} scan faults (ts ++ us) x ≡ (scans_any scan faults ts x || scans_any scan faults us x)
or_joins [] us x = refl
or_joins (t ∷ ts) us x =
    ap (λ b. is_some (scan t x) || (is_some (faults t x) || b)) (or_joins ts us x) ∙ nest (is_some (scan t x)) (is_some (faults t x)) (scans_any scan faults ts x) (scans_any scan faults us x)
  where
    nest : (a b c d : Bool) → (a || (b || (c || d))) ≡ ((a || (b || c)) || d)
    nest true b c d = refl
    nest false true c d = refl
    nest false false c d = refl

seen_short : (ts : List Token) (x : List ℕ) → seen_any seen ts x ≤ length x
seen_short [] x = omega arith
seen_short (t ∷ ts) x = let h = seen_short ts x in omega (arith, h)

seen_joins : (ts us : List Token) (x : List ℕ) → seen_any seen (ts ++ us) x ≡ min (seen_any seen ts x) (seen_any seen us x)
seen_joins [] us x = let h = seen_short us x in omega (arith, h)
seen_joins (t ∷ ts) us x = ap (λ n. min (seen t x) n) (seen_joins ts us x) ∙ (let q : min (seen t x) (min (seen_any seen ts x) (seen_any seen us x)) ≡ min (min (seen t x) (seen_any seen ts x)) (seen_any seen us x) = omega arith in q)

pub both_looked : (ts us : List Token) (x : List ℕ) (first second both : Looked) → both.stands ≡ (first.stands || second.stands) → both.seen ≡ min first.seen second.seen → LooksAt ts x first → LooksAt us x second → LooksAt (ts ++ us) x both
both_looked ts us x first second both e f h k = record {
  stands = e ∙ ap₂ (λ a b. a || b) h.stands k.stands ∙ sym (or_joins ts us x);
  seen = f ∙ ap₂ (λ a b. min a b) h.seen k.seen ∙ sym (seen_joins ts us x);
}

-- one token

or_false : (b : Bool) → (b || false) ≡ b
or_false true = refl
or_false false = refl

pub looks_one : (t : Token) (x : List ℕ) (l : Looked) → l.stands ≡ (is_some (scan t x) || is_some (faults t x)) → l.seen ≡ seen t x → seen t x ≤ length x → LooksAt (t ∷ []) x l
looks_one t x l e f h = record {
  stands = e ∙ ap (λ b. is_some (scan t x) || b) (sym (or_false (is_some (faults t x))));
  seen = f ∙ (let q : seen t x ≡ min (seen t x) (length x) = omega arith in q);
}

pub word_looked : (w : Word) (x : List ℕ) (l : Looked) → l.stands ≡ is_some (scan (word_of w) x) → l.seen ≡ seen (word_of w) x → LooksAt (word_of w ∷ []) x l
word_looked w x l e f = looks_one (word_of w) x l (e ∙ sym (or_false (is_some (scan (word_of w) x)))) f (seen_bounded (w ∷ []) x)

name_short : (first test : ℕ → Bool) (x : List ℕ) → seen_name first test x ≤ length x
name_short first test [] = omega arith
name_short first test (c ∷ x) = let h = run_short test x in elim (first c) as (λ b. (if b then (length (behind_run test x)) else (length (c ∷ x))) ≤ length (c ∷ x)) [ true ↦ omega arith | false ↦ omega arith ]

pub text_looked : (r : Run) (x : List ℕ) (l : Looked) → l.stands ≡ is_some (scan (text_run r) x) → l.seen ≡ seen (text_run r) x → LooksAt (text_run r ∷ []) x l
text_looked r x l e f = looks_one (text_run r) x l (e ∙ sym (or_false (is_some (scan (text_run r) x)))) f (name_short (is_run_character r) (is_run_character r) x)

pub white_looked : (x : List ℕ) (l : Looked) → l.stands ≡ is_some (scan white x) → l.seen ≡ seen white x → LooksAt (white ∷ []) x l
white_looked x l e f = looks_one white x l (e ∙ sym (or_false (is_some (scan white x)))) f (name_short is_white_space is_white_space x)

least_first : (a b n : ℕ) → a ≤ n → min a b ≤ n
least_first a b n h = omega arith

pub reference_looked : (x : List ℕ) (some bad : Bool) (l : Looked) → some ≡ is_some (scan reference x) → reference_fault x ≡ (if bad then (Some reference_code) else None) → l.stands ≡ (some || bad) → l.seen ≡ seen reference x → LooksAt (reference ∷ []) x l
reference_looked x some bad l e f g h =
    looks_one reference x l (g ∙ ap₂ (λ a b. a || b) e (fault_bad x bad f)) h (least_first _ (seen_by_number x) (length x) (seen_bounded entity_words x))

-- the start of an element

pub element_looked : (levels : ℕ) (x : List ℕ) (l : Looked) → 1 < levels → LooksAt (word_of word.TagOpen ∷ []) x l → LooksAt (start_of levels ∷ []) x l
element_looked zero x l h k = absurd (omega (arith, h))
element_looked (suc zero) x l h k = absurd (omega (arith, h))
element_looked (suc (suc n)) x l h k = k

fault_stands : (x : List ℕ) → starts_element x ≡ (is_some (element_fault x) || false)
fault_stands x = elim (starts_element x) as (λ b. b ≡ (is_some (if b then (Some limit_code) else None) || false)) [ true ↦ refl | false ↦ refl ]

pub no_element_looked : (levels : ℕ) (x : List ℕ) (found l : Looked) → levels ≤ 1 → LooksAt (word_of word.TagOpen ∷ []) x found → l.stands ≡ starts_element x → l.seen ≡ found.seen → LooksAt (start_of levels ∷ []) x l
no_element_looked zero x found l h k e f = record { stands = e ∙ fault_stands x; seen = f ∙ k.seen }
no_element_looked (suc zero) x found l h k e f = record { stands = e ∙ fault_stands x; seen = f ∙ k.seen }
no_element_looked (suc (suc n)) x found l h k e f = absurd (omega (arith, h))

-- CDATA sections

walk_whole : (w : Walk) (n : ℕ) (x : List ℕ) → x ≡ walk_of w n x ++ behind_walk w n x
walk_whole w n [] = refl
walk_whole w n (c ∷ x) =
    elim (w.goes n c) as (λ b. (c ∷ x) ≡ (if b then (c ∷ walk_of w (w.next n c) x) else []) ++ (if b then (behind_walk w (w.next n c) x) else (c ∷ x))) [ true ↦ ap (λ y. c ∷ y) (walk_whole w (w.next n c) x) | false ↦ refl ]

walk_stands : (w : Walk) (n : ℕ) (x : List ℕ) → length (behind_walk w n x) ≢ length x → head_goes w n x ≡ true
walk_stands w n [] h = absurd (h refl)
walk_stands w n (c ∷ x) h = go (w.goes n c) refl
  where
    go : (b : Bool) → w.goes n c ≡ b → w.goes n c ≡ true
    go true e = e
    go false e = absurd (h (rw e refl))

walk_stops : (w : Walk) (n : ℕ) (x : List ℕ) → length (behind_walk w n x) ≡ length x → head_goes w n x ≡ false
walk_stops w n [] h = refl
walk_stops w n (c ∷ x) h = go (w.goes n c) refl
  where
    go : (b : Bool) → w.goes n c ≡ b → w.goes n c ≡ false
    go false e = e
    go true e = let f : length (behind_walk w (w.next n c) x) ≡ length (c ∷ x) = rw e at h in let k = walk_short w (w.next n c) x in absurd (omega (arith, f, k))

pub no_cdata : (x behind : List ℕ) (count : ℕ) → behind ≡ behind_walk cdata_walk 0 x → count ≡ length x - length behind → count ≡ 0 → scan cdata_text x ≡ None
no_cdata x behind count e f g =
    let short = walk_short cdata_walk 0 x in
    let same : length (behind_walk cdata_walk 0 x) ≡ length x = omega (arith, short, ap length e, f, g) in
    let h = walk_stops cdata_walk 0 x same in
    rw h refl

pub cdata_taken : (x behind : List ℕ) (count less : ℕ) → behind ≡ behind_walk cdata_walk 0 x → count ≡ length x - length behind → count ≢ 0 → less ≡ count - 2 → scan cdata_text x ≡ Some (characters (text_of run.Content false (take less x)), behind)
cdata_taken x behind count less e f g l =
    let w = walk_of cdata_walk 0 x in
    let b = behind_walk cdata_walk 0 x in
    let whole : x ≡ w ++ b = walk_whole cdata_walk 0 x in
    let long : length x ≡ length w + length b = ap length whole ∙ length-append w b in
    let same : count ≡ length w = omega (arith, ap length e, f, long) in
    let goes : head_goes cdata_walk 0 x ≡ true = walk_stands cdata_walk 0 x (λ q. g (omega (arith, same, long, q))) in
    let front : take less x ≡ take (length w - 2) w = ap (λ y. take less y) whole ∙ take-append-le less w b (omega (arith, same, l)) ∙ ap (λ n. take n w) (l ∙ ap (λ n. n - 2) same) in
    ap (λ q. if q then (Some (characters (text_of run.Content false (take (length w - 2) w)), b)) else None) goes ∙ ap₂ (λ cs y. Some (characters (text_of run.Content false cs), y)) (sym front) (sym e)

-- constructors

joined_short : {V : Type 0} (first : List ℕ → Option (V × List ℕ)) (front back : List ℕ → ℕ) (x : List ℕ) (n : ℕ) → front x ≤ n → seen_joined first front back x ≤ n
joined_short first front back x n h = elim (first x) as (λ o. seen_behind back (front x) o ≤ n) [ Some r ↦ least_first (front x) (back r.1) n h | None ↦ h ]

constructor_short : (x : List ℕ) → seen constructor x ≤ length x
constructor_short x = joined_short scan_qname seen_qname seen_gap_brace x (length x) (joined_short scan_ncname (seen_name is_ncname_start is_ncname_character) seen_local_part x (length x) (name_short is_ncname_start is_ncname_character x))

pub no_name_looked : (x : List ℕ) (l : Looked) → scan_qname x ≡ None → l.stands ≡ false → l.seen ≡ seen_qname x → (LooksAt (constructor ∷ []) x l) × (l.seen ≡ seen constructor x)
no_name_looked x l e f g =
    let there : seen constructor x ≡ seen_qname x = ap (λ o. seen_behind seen_gap_brace (seen_qname x) o) e in
    let none : scan constructor x ≡ None = rw e refl in
    (looks_one constructor x l (f ∙ rw none refl) (g ∙ sym there) (constructor_short x), g ∙ sym there)

pub constructor_looked : {A : Type 0} (x y : List ℕ) (v : Made) (l : Looked) (o : Option A) (f : A → Made × List ℕ) (name space : ℕ) → scan_qname x ≡ Some (v, y) → name ≡ seen_qname x → MatchOption o (scan_gap_brace y ≡ None) (λ a. scan_gap_brace y ≡ Some (f a)) → space ≡ seen_gap_brace y
    → l.stands ≡ is_some o → l.seen ≡ min name space → (LooksAt (constructor ∷ []) x l) × (l.seen ≡ seen constructor x)
constructor_looked x y v l o f name space e g h i j k =
    let there : l.seen ≡ seen constructor x = k ∙ ap₂ (λ a b. min a b) g i ∙ sym (ap (λ q. seen_behind seen_gap_brace (seen_qname x) q) e) in
    let stands : is_some (scan constructor x) ≡ is_some (scan_gap_brace y) = rw e (front_kept (scan_gap_brace y)) in
    (looks_one constructor x l (j ∙ found_some o (scan_gap_brace y) f h ∙ sym stands ∙ sym (or_false (is_some (scan constructor x)))) there (constructor_short x), there)
  where
    front_kept : (q : Option (Made × List ℕ)) → is_some (scan_behind (λ z. q) (λ a b. a) (Some (v, y))) ≡ is_some q
    front_kept (Some r) = refl
    front_kept None = refl
