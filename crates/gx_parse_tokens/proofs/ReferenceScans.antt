-- How references are scanned.
use Rattle.std.proofs.Common.{◌≡◌, ℕ, ◌<◌, ◌≤◌, ◌==◌, ◌||◌, ◌&&◌, Bool, true, false, if◌then◌else◌, List, [], ◌∷◌, length, min, refl, sym, ap, ap₂, ◌∙◌, Option, Some, None, is_some, arith}
use Rattle.std.proofs.Common.{inl, inr, ◌⊎◌, nat_le, ◌≢◌, eqb-true}
use Rattle.std.specs.Prelude.{MatchOption}
use Rattle.std.proofs.lemmas.Bool.{lt-leb}
use Rattle.gx_grammar.specs.Value.{nothing, characters}
use Rattle.gx_grammar.specs.Tokens.{behind_run, run_of, behind_common, strip, seen_word, unless_passes}
use Rattle.gx_grammar.specs.Walks.{Walk, reached, walk_of, behind_walk, head_goes}
use Rattle.gx_grammar.specs.Joined.{with_front, scan_behind, seen_behind}
use Rattle.gx_grammar.specs.Fitting.{keep_fitting}
use Rattle.gx_grammar.proofs.PublicLaws.{run_short, walk_short}
use Rattle.gx_parse_grammar.specs.declared.runs.Radix.{Radix}
use Rattle.gx_base.specs.NameCharacters.{lies_between, is_xml_character}
use Rattle.gx_parse_grammar.specs.Characters.{no_character}
use Rattle.gx_parse_grammar.specs.Nodes.{Made}
use Rattle.gx_parse_grammar.specs.References.{is_figure, numbering, prefix_of, code_value, front_value, back_value, names_char, scan_prefix, scan_semicolon, scan_numbered, scan_ended, seen_ended, scan_numeric, seen_numeric, scan_figures, closes_behind, closes}
use Rattle.gx_parse_tokens.proofs.NameScans.{unless_none}
use Rattle.gx_grammar.specs.First.{scans_any, seen_any}
use Rattle.gx_parse_grammar.specs.declared.word.Word.{Word}
use Rattle.gx_parse_grammar.specs.Words.{letters_of}
use Rattle.gx_parse_grammar.specs.declared.runs.Quote.{Quote}
use Rattle.gx_parse_grammar.specs.Tokens.{text_run, reference, scan, seen, faults, reference_fault, reference_code}
use Rattle.gx_parse_grammar.specs.Grammar.{word_of}
use Rattle.gx_parse_grammar.specs.Strings.{doubled_of, parts_of}
use Rattle.gx_parse_grammar.specs.declared.runs.Run.TheVariants as run

some_front : (f : Made → Made → Made) (v : Made) (q : Option (Made × List ℕ)) → is_some (with_front f v q) ≡ is_some q
some_front f v None = refl
some_front f v (Some r) = refl

pub closes_none : (r : Radix) (x behind : List ℕ) → behind ≡ behind_run (is_figure r) x → length behind ≡ length x → closes_behind r x ≡ false
closes_none r [] behind e f = refl
closes_none r (c ∷ x) behind e f = go (is_figure r c) refl
  where
    go : (b : Bool) → is_figure r c ≡ b → closes_behind r (c ∷ x) ≡ false
    go true g = let h : behind ≡ behind_run (is_figure r) x = rw g at e in absurd (let k = run_short (is_figure r) x in let m = ap length h in omega (arith, k, m, f))
    go false g = rw g refl

pub closes_some : (r : Radix) (x behind : List ℕ) → behind ≡ behind_run (is_figure r) x → (length behind ≡ length x → ⊥) → closes_behind r x ≡ is_some (scan_semicolon behind)
closes_some r [] behind e n = absurd (n (ap length e))
closes_some r (c ∷ x) behind e n = go (is_figure r c) refl
  where
    go : (b : Bool) → is_figure r c ≡ b → closes_behind r (c ∷ x) ≡ is_some (scan_semicolon behind)
    go true g =
        let h : behind ≡ behind_run (is_figure r) x = rw g at e in
        let s : scan_figures r (c ∷ x) ≡ Some (characters (c ∷ run_of (is_figure r) x), behind_run (is_figure r) x) = rw g (unless_none (characters (c ∷ run_of (is_figure r) x)) (behind_run (is_figure r) x)) in
        ap (λ q. is_some (scan_behind scan_semicolon front_value q)) s
        ∙ some_front front_value (characters (c ∷ run_of (is_figure r) x)) (scan_semicolon (behind_run (is_figure r) x))
        ∙ ap (λ y. is_some (scan_semicolon y)) (sym h)
    go false g = absurd (let h : behind ≡ c ∷ x = rw g at e in n (ap length h))

-- without the prefix
pub prefix_none : (r : Radix) (x rest : List ℕ) → rest ≡ behind_common (prefix_of r) x → strip (prefix_of r) x ≡ None → (scan_numeric r x ≡ None) × (closes r x ≡ false) × (seen_numeric r x ≡ length rest)
prefix_none r x rest e f =
    let s : scan_prefix r x ≡ None = ap (unless_passes nothing no_character) f in (
      ap (λ q. keep_fitting names_char (scan_behind (scan_ended r) back_value q)) s,
      ap (λ q. is_some (scan_behind (λ y. scan_behind scan_semicolon front_value (scan_figures r y)) back_value q)) s,
      ap (λ q. seen_behind (seen_ended r) (seen_word (prefix_of r) x) q) s ∙ ap length (sym e),
    )

prefix_is : (r : Radix) (x rest : List ℕ) → strip (prefix_of r) x ≡ Some rest → scan_prefix r x ≡ Some (nothing, rest)
prefix_is r x rest f = ap (unless_passes nothing no_character) f ∙ unless_none nothing rest

pub closes_is : (r : Radix) (x rest : List ℕ) → strip (prefix_of r) x ≡ Some rest → closes r x ≡ closes_behind r rest
closes_is r x rest f =
    ap (λ q. is_some (scan_behind (λ y. scan_behind scan_semicolon front_value (scan_figures r y)) back_value q)) (prefix_is r x rest f)
    ∙ some_front back_value nothing (scan_behind scan_semicolon front_value (scan_figures r rest))

numeric_is : (r : Radix) (x rest : List ℕ) → strip (prefix_of r) x ≡ Some rest → scan_numeric r x ≡ keep_fitting names_char (with_front back_value nothing (scan_ended r rest))
numeric_is r x rest f = ap (λ q. keep_fitting names_char (scan_behind (scan_ended r) back_value q)) (prefix_is r x rest f)

seen_is : (r : Radix) (x rest : List ℕ) → rest ≡ behind_common (prefix_of r) x → strip (prefix_of r) x ≡ Some rest → seen_numeric r x ≡ min (length rest) (seen_ended r rest)
seen_is r x rest e f = ap (λ q. seen_behind (seen_ended r) (seen_word (prefix_of r) x) q) (prefix_is r x rest f) ∙ ap (λ n. min n (seen_ended r rest)) (ap length (sym e))

stays : (w : Walk) (n : ℕ) (x : List ℕ) → length (behind_walk w n x) ≡ length x → head_goes w n x ≡ false
stays w n [] e = refl
stays w n (c ∷ x) e = go (w.goes n c) refl
  where
    go : (b : Bool) → w.goes n c ≡ b → w.goes n c ≡ false
    go true f = absurd (let g : length (behind_walk w (w.next n c) x) ≡ length (c ∷ x) = rw f at e in let h = walk_short w (w.next n c) x in omega (arith, g, h))
    go false f = f

goes : (w : Walk) (n : ℕ) (x : List ℕ) → (length (behind_walk w n x) ≡ length x → ⊥) → head_goes w n x ≡ true
goes w n [] e = absurd (e refl)
goes w n (c ∷ x) e = go (w.goes n c) refl
  where
    go : (b : Bool) → w.goes n c ≡ b → w.goes n c ≡ true
    go true f = f
    go false f = absurd (e (rw f refl))

abbrev number_at : Radix → List ℕ → Bool → Option (Made × List ℕ)
number_at r x b = if b then (Some (code_value (reached (numbering r) 0 (walk_of (numbering r) 0 x)), behind_walk (numbering r) 0 x)) else None

-- without a digit
pub figure_none : (r : Radix) (x rest behind : List ℕ) → rest ≡ behind_common (prefix_of r) x → strip (prefix_of r) x ≡ Some rest → behind ≡ behind_walk (numbering r) 0 rest → length behind ≡ length rest → (scan_numeric r x ≡ None) × (seen_numeric r x ≡ length rest)
figure_none r x rest behind e f g h =
    let b : head_goes (numbering r) 0 rest ≡ false = stays (numbering r) 0 rest (sym (ap length g) ∙ h) in
    let s : scan_numbered r rest ≡ None = ap (number_at r rest) b in
    let n : seen_ended r rest ≡ length rest = ap (λ q. seen_behind (seen_word (59 ∷ [])) (length (behind_walk (numbering r) 0 rest)) q) s ∙ sym (ap length g) ∙ h in (
      numeric_is r x rest f ∙ ap (λ q. keep_fitting names_char (with_front back_value nothing (scan_behind scan_semicolon front_value q))) s,
      seen_is r x rest e f ∙ (let q : min (length rest) (seen_ended r rest) ≡ length rest = omega (arith, n) in q),
    )

numbered_is : (r : Radix) (rest behind : List ℕ) (n : ℕ) → n ≡ reached (numbering r) 0 (walk_of (numbering r) 0 rest) → behind ≡ behind_walk (numbering r) 0 rest → (length behind ≡ length rest → ⊥) → scan_numbered r rest ≡ Some (code_value n, behind)
numbered_is r rest behind n d g h = ap (number_at r rest) (goes (numbering r) 0 rest (λ q. h (ap length g ∙ q))) ∙ ap₂ (λ m y. Some (code_value m, y)) (sym d) (sym g)

shorter : (r : Radix) (rest behind : List ℕ) → behind ≡ behind_walk (numbering r) 0 rest → length behind ≤ length rest
shorter r rest behind g = let h = walk_short (numbering r) 0 rest in let k = ap length g in omega (arith, h, k)

ended_seen : (r : Radix) (rest behind : List ℕ) (n : ℕ) → behind ≡ behind_walk (numbering r) 0 rest → scan_numbered r rest ≡ Some (code_value n, behind) → seen_ended r rest ≡ min (length behind) (seen_word (59 ∷ []) behind)
ended_seen r rest behind n g s = ap (λ q. seen_behind (seen_word (59 ∷ [])) (length (behind_walk (numbering r) 0 rest)) q) s ∙ ap (λ m. min m (seen_word (59 ∷ []) behind)) (sym (ap length g))

-- without a `;`
pub end_none : (r : Radix) (x rest behind : List ℕ) (n : ℕ) → rest ≡ behind_common (prefix_of r) x → strip (prefix_of r) x ≡ Some rest → n ≡ reached (numbering r) 0 (walk_of (numbering r) 0 rest) → behind ≡ behind_walk (numbering r) 0 rest
    → (length behind ≡ length rest → ⊥) → scan_semicolon behind ≡ None → seen_word (59 ∷ []) behind ≡ length behind → (scan_numeric r x ≡ None) × (seen_numeric r x ≡ length behind)
end_none r x rest behind n e f d g h k m =
    let s = numbered_is r rest behind n d g h in
    let l = shorter r rest behind g in
    let w = ended_seen r rest behind n g s in (
      numeric_is r x rest f ∙ ap (λ q. keep_fitting names_char (with_front back_value nothing (scan_behind scan_semicolon front_value q))) s ∙ ap (λ q. keep_fitting names_char (with_front back_value nothing (with_front front_value (code_value n) q))) k,
      seen_is r x rest e f ∙ (let q : min (length rest) (seen_ended r rest) ≡ length behind = omega (arith, w, m, l) in q),
    )

abbrev kept_where : ℕ → List ℕ → Bool → Option (Made × List ℕ)
kept_where n tail b = if b then (Some (code_value n, tail)) else None

-- a whole reference
pub whole : (r : Radix) (x rest behind tail : List ℕ) (n : ℕ) → rest ≡ behind_common (prefix_of r) x → strip (prefix_of r) x ≡ Some rest → n ≡ reached (numbering r) 0 (walk_of (numbering r) 0 rest) → behind ≡ behind_walk (numbering r) 0 rest
    → (length behind ≡ length rest → ⊥) → scan_semicolon behind ≡ Some (nothing, tail) → (seen_word (59 ∷ []) behind ≡ length tail) × (length tail < length behind)
    → (scan_numeric r x ≡ kept_where n tail (is_xml_character n)) × (seen_numeric r x ≡ length tail)
whole r x rest behind tail n e f d g h k m =
    let s = numbered_is r rest behind n d g h in
    let l = shorter r rest behind g in
    let w = ended_seen r rest behind n g s in (
      numeric_is r x rest f ∙ ap (λ q. keep_fitting names_char (with_front back_value nothing (scan_behind scan_semicolon front_value q))) s ∙ ap (λ q. keep_fitting names_char (with_front back_value nothing (with_front front_value (code_value n) q))) k,
      seen_is r x rest e f ∙ (let q : min (length rest) (seen_ended r rest) ≡ length tail = omega (arith, w, m.0, m.1, l) in q),
    )

-- what was found

pub found_some : {A B : Type 0} (o : Option A) (q : Option B) (f : A → B) → MatchOption o (q ≡ None) (λ a. q ≡ Some (f a)) → is_some o ≡ is_some q
found_some None q f h = sym (ap is_some h)
found_some (Some a) q f h = sym (ap is_some h)

pub found_first : {A B : Type 0} (o : Option A) (q : Option B) (f : A → B) (P : A → Type 0) → MatchOption o (q ≡ None) (λ a. (q ≡ Some (f a)) × P a) → is_some o ≡ is_some q
found_first None q f P h = sym (ap is_some h)
found_first (Some a) q f P h = sym (ap is_some h.0)

pub strip_found : (r : Radix) (letters x rest : List ℕ) (b : Bool) → letters ≡ prefix_of r → strip letters x ≡ (if b then (Some rest) else None) → b ≡ true → strip (prefix_of r) x ≡ Some rest
strip_found r letters x rest b e f g = ap (λ w. strip w x) (sym e) ∙ f ∙ ap (λ q. if q then (Some rest) else None) g

pub common_found : (r : Radix) (letters x rest : List ℕ) → letters ≡ prefix_of r → rest ≡ behind_common letters x → rest ≡ behind_common (prefix_of r) x
common_found r letters x rest e f = f ∙ ap (λ w. behind_common w x) e

-- no Char is outside the scalar values

or_no : (a b : Bool) → a ≡ false → b ≡ false → (a || b) ≡ false
or_no a b e f = ap₂ (λ p q. p || q) e f

and_no : (a b : Bool) → b ≡ false → (a && b) ≡ false
and_no true b e = e
and_no false b e = refl

differ : (a b : ℕ) → a ≢ b → (a == b) ≡ false
differ a b n = go (a == b) refl
  where
    go : (q : Bool) → (a == b) ≡ q → q ≡ false
    go true e = absurd (n (eqb-true a b e))
    go false e = refl

above : (low high n : ℕ) → high < n → lies_between low high n ≡ false
above low high n h = and_no (nat_le low n) (nat_le n high) (lt-leb n high h)

below : (low high n : ℕ) → n < low → lies_between low high n ≡ false
below low high n h = ap (λ q. q && nat_le n high) (lt-leb low n h)

pub no_scalar : (n : ℕ) → ((55296 ≤ n) × (n ≤ 57343)) ⊎ (1114112 ≤ n) → is_xml_character n ≡ false
unfolding is_xml_character
no_scalar n (inl h) =
    or_no _ _ (above 32 55295 n (omega (arith, h))) (or_no _ _ (differ n 9 (λ e. absurd (omega (arith, h, e)))) (or_no _ _ (differ n 10 (λ e. absurd (omega (arith, h, e)))) (or_no _ _ (differ n 13 (λ e. absurd (omega (arith, h, e))))
    (or_no _ _ (below 57344 65533 n (omega (arith, h))) (below 65536 1114111 n (omega (arith, h)))))))
no_scalar n (inr h) =
    or_no _ _ (above 32 55295 n (omega (arith, h))) (or_no _ _ (differ n 9 (λ e. absurd (omega (arith, h, e)))) (or_no _ _ (differ n 10 (λ e. absurd (omega (arith, h, e)))) (or_no _ _ (differ n 13 (λ e. absurd (omega (arith, h, e))))
    (or_no _ _ (above 57344 65533 n (omega (arith, h))) (above 65536 1114111 n (omega (arith, h)))))))

-- which part of a string literal stands there
or_four : (a b c d : Bool) → (((a || b) || c) || d) ≡ (a || (b || (c || (d || false))))
or_four true b c d = refl
or_four false true c d = refl
or_four false false true d = refl
or_four false false false true = refl
or_four false false false false = refl

pub fault_bad : (x : List ℕ) (bad : Bool) → reference_fault x ≡ (if bad then (Some reference_code) else None) → bad ≡ is_some (reference_fault x)
fault_bad x true e = sym (ap is_some e)
fault_bad x false e = sym (ap is_some e)

pub part_stands : (q : Quote) (x : List ℕ) (a b c bad : Bool) → a ≡ is_some (scan (text_run (run.String q)) x) → b ≡ is_some (scan (word_of (doubled_of q)) x) → c ≡ is_some (scan reference x)
    → reference_fault x ≡ (if bad then (Some reference_code) else None) → (((a || b) || c) || bad) ≡ scans_any scan faults (parts_of q) x
part_stands q x a b c bad e f g h =
    ap₂ (λ p r. p || r) (ap₂ (λ p r. p || r) (ap₂ (λ p r. p || r) e f) g) (fault_bad x bad h)
    ∙ or_four (is_some (scan (text_run (run.String q)) x)) (is_some (scan (word_of (doubled_of q)) x)) (is_some (scan reference x)) (is_some (reference_fault x))

pub word_found : {b : Bool} (q : Quote) (k : Word) (x : List ℕ) → b ≡ is_some (scan (word_of k) x) → k ≡ doubled_of q → b ≡ is_some (scan (word_of (doubled_of q)) x)
word_found q k x e f = e ∙ ap (λ w. is_some (scan (word_of w) x)) f

least : (a b c : ℕ) → min (min a c) b ≡ min (min a c) (min b c)
least a b c = omega arith

pub part_seen : (q : Quote) (x : List ℕ) (k : Word) (all behind a b c : ℕ) → all ≡ min a behind → behind ≡ min b c → a ≡ seen (text_run (run.String q)) x → b ≡ seen (word_of k) x → k ≡ doubled_of q → c ≡ seen reference x → all ≡ seen_any seen (parts_of q) x
part_seen q x k all behind a b c e f g h i j = e ∙ ap₂ (λ p r. min p r) g (f ∙ ap₂ (λ p r. min p r) (h ∙ ap (λ w. seen (word_of w) x) i) j ∙ least (seen_word (letters_of (doubled_of q)) x) (seen reference x) (length x))
