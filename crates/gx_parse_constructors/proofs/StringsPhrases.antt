-- How string literals are read.
use Rattle.std.proofs.Common.{◌≡◌, ℕ, zero, suc, Bool, true, false, List, [], ◌∷◌, ◌++◌, inl, inr, min, refl, sym, ap, subst, ◌∙◌, append_assoc, append-nil, Option, Some, None, Result, Ok, Err, IfOk}
use Rattle.gx_base.specs.declared.place.Place.{Place}
use Rattle.gx_ast.specs.SyntaxTree.{SyntaxTree, at as located, string}
use Rattle.gx_grammar.specs.Value.{nothing, characters, node, pair, no_item, an_item}
use Rattle.gx_grammar.specs.Grammar.{token, ◌&◌, choose}
use Rattle.gx_grammar.specs.First.{by_character}
use Rattle.gx_grammar.specs.Apart.{is}
use Rattle.gx_grammar.specs.Reading.{State, Reading, taken}
use Rattle.gx_grammar.specs.Ran.{Standing, Going, GaveUp, Lost, Ran, Looked, Loses, left_of}
use Rattle.gx_grammar.proofs.PublicLaws.{ran_full, ran_item, ran_none}
use Rattle.gx_grammar.specs.Words.{IsOneOf}
use Rattle.gx_parse_grammar.specs.declared.word.Word.{Word}
use Rattle.gx_parse_grammar.specs.declared.word.WordSet.TheVariants as set
use Rattle.gx_parse_grammar.specs.Words.{words_of}
use Rattle.gx_parse_grammar.specs.declared.runs.Quote.{Quote}
use Rattle.gx_parse_grammar.specs.declared.runs.Quote.TheVariants as quote
use Rattle.gx_parse_grammar.specs.declared.runs.Run.TheVariants as run
use Rattle.gx_parse_grammar.specs.Nodes.{Made, Found, tree}
use Rattle.gx_parse_grammar.specs.References.{quote_of}
use Rattle.gx_parse_grammar.specs.Tokens.{text_run, reference, gap, entries, scan, seen}
use Rattle.gx_parse_grammar.specs.Grammar.{Phrase, word_of, at_tokens, numeral, literal, place_in}
use Rattle.gx_parse_tokens.specs.Reading.{read_one, read_in}
use Rattle.gx_parse_parts.specs.Parsing.{KeepsTree}
use Rattle.gx_parse_tokens.specs.Reading.{Added}
use Rattle.gx_parse_grammar.specs.Strings.{opening_of, closing_of, doubled_of, part_text, texts_in, text_of_parts, string_made, string_part, parts_of, string_parts, quoted, string_of}
use Rattle.gx_parse_constructors.specs.TextReading.{TextRead, read_part, read_parts, PartsRead, Pushes}
use Rattle.gx_parse_grammar.proofs.Tokens.{token_lawful}
use Rattle.gx_parse_parts.proofs.Chains.{ran_any, ran_keeps}
use Rattle.gx_parse_parts.proofs.Phrases.{in_token, in_both, in_left, in_right, in_made, loses_done}

-- what was found

-- a step behind which memory did not suffice
pub ran_lost : {A : Type 0} (v : A) (a b d : Standing) (read : State → Reading A) → Ran v a b read → Loses b d → Ran v a d read
ran_lost v (Going s) (Going t) d read h l = subst (λ z. Ran v (Going s) z read) (sym l) tt
ran_lost v (Going s) (GaveUp e) d read h l = subst (λ z. Ran v (Going s) z read) (sym l) h
ran_lost v (Going s) Lost d read h l = subst (λ z. Ran v (Going s) z read) (sym l) tt
ran_lost v (GaveUp e) b d read h l = let q : Loses (GaveUp e) d = subst (λ z. Loses z d) h l in q
ran_lost v Lost b d read h l = let q : Loses Lost d = subst (λ z. Loses z d) h l in q

-- the word that was read is the only one that may stand there
only_value : (k : Word) (v : Made) (x y : List ℕ) → scan (word_of k) x ≡ Some (v, y) → v ≡ node (Found k)
only_value k v x y e = go ((token_lawful (word_of k)).sound v x y e)
  where
    go : IsOneOf (entries (words_of (set.Only k))) v x y → v ≡ node (Found k)
    go (inl d) = d.same
    go (inr d) = absurd d

abbrev ok_value : {X E : Type 0} → X → Result X E → X
ok_value x (Ok y) = y
ok_value x (Err e) = x

taken_value : {A : Type 0} (q : Option (A × List ℕ)) (n : ℕ) (v : A) (t : State) → taken q n ≡ Ok (v, t) → (y : List ℕ) × (q ≡ Some (v, y))
taken_value None n v t e = absurd (cc)
taken_value (Some r) n v t e = (r.1, ap (λ o. Some ((ok_value (v, t) o).0, r.1)) e)

only_taken : (k : Word) (v : Made) (x : List ℕ) (n : ℕ) (t : State) → taken (scan (word_of k) x) n ≡ Ok (v, t) → v ≡ node (Found k)
only_taken k v x n t e = let r = taken_value (scan (word_of k) x) n v t e in only_value k v x r.0 r.1

pub only_word : (k w : Word) (a b : Standing) → Ran (node (Found w)) a b (read_one (word_of k)) → Ran (node (Found k)) a b (read_one (word_of k))
unfolding read_one
only_word k w (Going s) (Going t) h = let e = only_taken k (node (Found w)) s.rest (min s.far (seen (word_of k) s.rest)) t h in h ∙ ap (λ v. Ok (v, t)) e
only_word k w (Going s) (GaveUp r) h = h
only_word k w (Going s) Lost h = h
only_word k w (GaveUp r) b h = h
only_word k w Lost b h = h

abbrev Reads : Phrase → Made → Standing → Standing → Type 0
Reads A v a b = (source : List ℕ) (n : ℕ) → Ran v a b (read_in source n A)

-- a character that was read, and added
pushed_read : (A : Phrase) (v : Made) (c : ℕ) (old new : List ℕ) (a b d : Standing) → part_text v ≡ c ∷ [] → Reads A v a b → Added old new (λ cs. Pushes c cs b d) → Added old new (λ cs. TextRead A part_text cs a d)
pushed_read A v c old new a b d e r p = record { others = p.others; is = p.is; holds = go p.others p.holds }
  where
    go : (cs : List ℕ) → Pushes c cs b d → TextRead A part_text cs a d
    go cs (inl h) = record { value = v; is = e ∙ sym h.0; ran = λ s n. subst (λ z. Ran v a z (read_in s n A)) (sym h.1) (r s n) }
    go cs (inr l) = record { value = characters cs; is = refl; ran = λ s n. ran_any v (characters cs) a d (read_in s n A) (loses_done b d l) (ran_lost v a b d (read_in s n A) (r s n) l) }

module _ (q : Quote) where
  abbrev doubled_part : Phrase
  doubled_part = token (word_of (doubled_of q))

  abbrev run_part : Phrase
  run_part = token (text_run (run.String q))

  abbrev other_part : Phrase
  other_part = choose (by_character (is (quote_of q))) doubled_part run_part

  by_reference : (v : Made) (looked : Bool) (a b c : Standing) → looked ≡ true → Looked looked a b (by_character (is 38)) → Ran v b c (read_one reference) → Reads (string_part q) v a c
  unfolding string_part
  by_reference v looked a b c e h k = λ s n. in_left s n (by_character (is 38)) (token reference) other_part v looked a b c e h (in_token s n reference v b c k)

  by_doubled : (v : Made) (looked again : Bool) (a b c d : Standing) → looked ≡ false → Looked looked a b (by_character (is 38)) → again ≡ true → Looked again b c (by_character (is (quote_of q))) → Ran v c d (read_one (word_of (doubled_of q)))
      → Reads (string_part q) v a d
  unfolding string_part
  by_doubled v looked again a b c d e h f k m = λ s n.
      in_right s n (by_character (is 38)) (token reference) other_part v looked a b d e h (in_left s n (by_character (is (quote_of q))) doubled_part run_part v again b c d f k (in_token s n (word_of (doubled_of q)) v c d m))

  by_run : (v : Made) (looked again : Bool) (a b c d : Standing) → looked ≡ false → Looked looked a b (by_character (is 38)) → again ≡ false → Looked again b c (by_character (is (quote_of q))) → Ran v c d (read_one (text_run (run.String q)))
      → Reads (string_part q) v a d
  unfolding string_part
  by_run v looked again a b c d e h f k m = λ s n.
      in_right s n (by_character (is 38)) (token reference) other_part v looked a b d e h (in_right s n (by_character (is (quote_of q))) doubled_part run_part v again b c d f k (in_token s n (text_run (run.String q)) v c d m))

  pub reference_read : (c : ℕ) (old new : List ℕ) (looked : Bool) (a b d z : Standing) → looked ≡ true → Looked looked a b (by_character (is 38)) → Ran (characters (c ∷ [])) b d (read_one reference) → Added old new (λ cs. Pushes c cs d z)
      → Added old new (λ cs. TextRead (string_part q) part_text cs a z)
  reference_read c old new looked a b d z e h k p = pushed_read (string_part q) (characters (c ∷ [])) c old new a d z refl (by_reference (characters (c ∷ [])) looked a b d e h k) p

  doubled_stands : part_text (node (Found (doubled_of q))) ≡ quote_of q ∷ []
  doubled_stands = elim q as (λ p. part_text (node (Found (doubled_of p))) ≡ quote_of p ∷ []) [ quote.Double ↦ refl | quote.Single ↦ refl ]

  pub doubled_read : (symbol sign : ℕ) (k w : Word) (old new : List ℕ) (looked again : Bool) (a b c d z : Standing) → symbol ≡ quote_of q → sign ≡ quote_of q → k ≡ doubled_of q → looked ≡ false → Looked looked a b (by_character (is 38)) → again ≡ true
      → Looked again b c (by_character (is symbol)) → Ran (node (Found w)) c d (read_one (word_of k)) → Added old new (λ cs. Pushes sign cs d z) → Added old new (λ cs. TextRead (string_part q) part_text cs a z)
  doubled_read symbol sign k w old new looked again a b c d z g i j e h f m r p =
      pushed_read (string_part q) (node (Found (doubled_of q))) sign old new a d z (doubled_stands ∙ ap (λ s. s ∷ []) (sym i))
      (by_doubled (node (Found (doubled_of q))) looked again a b c d e h f (subst (λ s. Looked again b c (by_character (is s))) g m)
      (only_word (doubled_of q) w c d (subst (λ u. Ran (node (Found w)) c d (read_one (word_of u))) j r))) p

  pub run_read : (symbol : ℕ) (old new : List ℕ) (looked again : Bool) (a b c d : Standing) → symbol ≡ quote_of q → looked ≡ false → Looked looked a b (by_character (is 38)) → again ≡ false → Looked again b c (by_character (is symbol))
      → Added old new (λ cs. Ran (characters cs) c d (read_one (text_run (run.String q)))) → Added old new (λ cs. TextRead (string_part q) part_text cs a d)
  run_read symbol old new looked again a b c d g e h f m p = record {
    others = p.others;
    is = p.is;
    holds = record {
      value = characters p.others;
      is = refl;
      ran = by_run (characters p.others) looked again a b c d e h f (subst (λ s. Looked again b c (by_character (is s))) g m) p.holds;
    };
  }

  -- the parts, one behind the other

  parts_are : (source : List ℕ) (n : ℕ) (v : Made) (a b : Standing) → Ran v a b (read_parts source n q (suc (left_of a))) → Ran v a b (read_in source n (string_parts q))
  unfolding read_parts read_part read_in string_parts
  parts_are source n v (Going s) (Going t) h = h
  parts_are source n v (Going s) (GaveUp e) h = h
  parts_are source n v (Going s) Lost h = h
  parts_are source n v (GaveUp e) b h = h
  parts_are source n v Lost b h = h

  abbrev Before : List ℕ → List ℕ → ℕ → Standing → Standing → Type 0
  Before first text left a here = Added first text (λ cs. PartsRead q cs (suc (left_of a)) (suc left) a here)

  abbrev After : List ℕ → List ℕ → Standing → Standing → Type 0
  After first text a z = Added first text (λ cs. TextRead (string_parts q) texts_in cs a z)

  pub parts_begin : (text : List ℕ) (a : Standing) (left : ℕ) → left ≡ left_of a → Before text text left a a
  parts_begin text a left e = record {
    others = [];
    is = sym (append-nil text);
    holds = record { front = λ v. v; are = λ v. refl; ran = λ s n v after h. subst (λ k. Ran v a after (read_parts s n q (suc k))) e h };
  }

  none_left : (source : List ℕ) (n left : ℕ) (looked : Bool) (a b : Standing) → looked ≡ false → Looked looked a b (at_tokens (parts_of q)) → Ran no_item a b (read_parts source n q (suc left))
  unfolding read_parts
  none_left source n left looked a b e h = ran_none (at_tokens (parts_of q)) (read_part source n q) left looked a b e h

  no_parts : (source : List ℕ) (n : ℕ) (a : Standing) → Ran no_item a a (read_parts source n q zero)
  unfolding read_parts
  no_parts source n a = ran_full (at_tokens (parts_of q)) (read_part source n q) a

  one_part : (source : List ℕ) (n left : ℕ) (v w : Made) (looked : Bool) (a b c d : Standing) → looked ≡ true → Looked looked a b (at_tokens (parts_of q)) → Ran v b c (read_in source n (string_part q)) → Ran w c d (read_parts source n q left)
      → Ran (an_item v w) a d (read_parts source n q (suc left))
  unfolding read_parts read_part
  one_part source n left v w looked a b c d e h k m = ran_item (at_tokens (parts_of q)) (read_part source n q) left v w looked a b c d e h k m

  -- no further part stands there
  pub parts_end : (first text : List ℕ) (left : ℕ) (looked : Bool) (a here z : Standing) → Before first text left a here → looked ≡ false → Looked looked here z (at_tokens (parts_of q)) → After first text a z
  parts_end first text left looked a here z h e k =
      let p = h.holds in
      record {
        others = h.others;
        is = h.is;
        holds = record { value = p.front no_item; is = p.are no_item ∙ append-nil h.others; ran = λ s n. parts_are s n (p.front no_item) a z (p.ran s n no_item z (none_left s n left looked here z e k)) };
      }

  longer : (first others text more grown : List ℕ) → text ≡ first ++ others → grown ≡ text ++ more → grown ≡ first ++ (others ++ more)
  longer first others text more grown e f = f ∙ ap (λ u. u ++ more) e ∙ append_assoc first others more

  -- one more
  pub parts_more : (first text grown : List ℕ) (left less : ℕ) (looked : Bool) (a here b c : Standing) → Before first text left a here → left ≡ suc less → looked ≡ true → Looked looked here b (at_tokens (parts_of q))
      → Added text grown (λ cs. TextRead (string_part q) part_text cs b c) → Before first grown less a c
  parts_more first text grown left less looked a here b c h l e k m =
      let p = h.holds in
      let r = m.holds in
      record {
        others = h.others ++ m.others;
        is = longer first h.others text m.others grown h.is m.is;
        holds = record {
          front = λ v. p.front (an_item r.value v);
          are = λ v. p.are (an_item r.value v) ∙ ap (λ u. h.others ++ (u ++ texts_in v)) r.is ∙ sym (append_assoc h.others m.others (texts_in v));
          ran = λ s n v after g. p.ran s n (an_item r.value v) after (subst (λ j. Ran (an_item r.value v) here after (read_parts s n q (suc j))) (sym l) (one_part s n (suc less) r.value v looked here b c after e k (r.ran s n) g));
        };
      }

  -- the last one that the text has room for
  pub parts_full : (first text grown : List ℕ) (left : ℕ) (looked : Bool) (a here b c : Standing) → Before first text left a here → left ≡ 0 → looked ≡ true → Looked looked here b (at_tokens (parts_of q))
      → Added text grown (λ cs. TextRead (string_part q) part_text cs b c) → After first grown a c
  parts_full first text grown left looked a here b c h l e k m =
      let p = h.holds in
      let r = m.holds in
      record {
        others = h.others ++ m.others;
        is = longer first h.others text m.others grown h.is m.is;
        holds = record {
          value = p.front (an_item r.value no_item);
          is = p.are (an_item r.value no_item) ∙ ap (λ u. h.others ++ (u ++ [])) r.is ∙ ap (λ u. h.others ++ u) (append-nil m.others);
          ran = λ s n. parts_are s n (p.front (an_item r.value no_item)) a c (p.ran s n (an_item r.value no_item) c (subst (λ j. Ran (an_item r.value no_item) here c (read_parts s n q (suc j))) (sym l) (one_part s n 0 r.value no_item looked here b c c e k (r.ran s n) (no_parts s n c))));
        };
      }

  -- a text in quotes
  pub quoted_read : (w x front behind : Word) (text first : List ℕ) (a b c d : Standing) → front ≡ opening_of q → behind ≡ closing_of q → Ran (node (Found w)) a b (read_one (word_of front)) → first ≡ [] → After first text b c
      → Ran (node (Found x)) c d (read_one (word_of behind)) → TextRead (quoted q) text_of_parts text a d
  unfolding quoted
  quoted_read w x front behind text first a b c d e f h i p k =
      let r = p.holds in
      record {
        value = pair (node (Found w)) (pair r.value (node (Found x)));
        is = r.is ∙ sym (p.is ∙ ap (λ u. u ++ p.others) i);
        ran = λ s n.
            in_both s n (token (word_of (opening_of q))) (string_parts q & token (word_of (closing_of q))) (node (Found w)) (pair r.value (node (Found x))) a b d
            (in_token s n (word_of (opening_of q)) (node (Found w)) a b (subst (λ u. Ran (node (Found w)) a b (read_one (word_of u))) e h))
            (in_both s n (string_parts q) (token (word_of (closing_of q))) r.value (node (Found x)) b c d (r.ran s n)
            (in_token s n (word_of (closing_of q)) (node (Found x)) c d (subst (λ u. Ran (node (Found x)) c d (read_one (word_of u))) f k)));
      }

module _ (source : List ℕ) (n : ℕ) where
  pub string_read : {E : Type 0} (q : Quote) (place : Place) (text : List ℕ) (t : SyntaxTree) (result : Result SyntaxTree E) (a b c d : Standing) → place ≡ place_in source (left_of a) → TextRead (quoted q) text_of_parts text a b → Ran nothing b c (read_one gap)
      → IfOk result (λ x. x ≡ located place (string text)) → KeepsTree t result c d → Ran (tree t) a d (read_in source n (string_of (place_in source) q))
  unfolding string_of
  string_read q place text t result a b c d e r h i k =
      ran_keeps t (located place (string text)) result a c d (read_in source n (string_of (place_in source) q))
      (subst (λ u. Ran (tree (located place (string u))) a c (read_in source n (string_of (place_in source) q))) r.is
      (subst (λ p. Ran (tree (located p (string (text_of_parts r.value)))) a c (read_in source n (string_of (place_in source) q))) (sym e)
      (in_made source n (λ left v. string_made (place_in source left) v) (quoted q & token gap) (pair r.value nothing) a c
      (in_both source n (quoted q) (token gap) r.value nothing a b c (r.ran source n) (in_token source n gap nothing b c h)))))
      i k

  -- literals
  abbrev other_literal : Phrase
  other_literal = choose (by_character (is 39)) (string_of (place_in source) quote.Single) (numeral (place_in source))

  pub literal_double : (v : Made) (looked : Bool) (a b c : Standing) → looked ≡ true → Looked looked a b (by_character (is 34)) → Ran v b c (read_in source n (string_of (place_in source) quote.Double)) → Ran v a c (read_in source n (literal (place_in source)))
  unfolding literal
  literal_double v looked a b c e h k = in_left source n (by_character (is 34)) (string_of (place_in source) quote.Double) other_literal v looked a b c e h k

  pub literal_single : (v : Made) (looked again : Bool) (a b c d : Standing) → looked ≡ false → Looked looked a b (by_character (is 34)) → again ≡ true → Looked again b c (by_character (is 39)) → Ran v c d (read_in source n (string_of (place_in source) quote.Single))
      → Ran v a d (read_in source n (literal (place_in source)))
  unfolding literal
  literal_single v looked again a b c d e h f i k =
      in_right source n (by_character (is 34)) (string_of (place_in source) quote.Double) other_literal v looked a b d e h (in_left source n (by_character (is 39)) (string_of (place_in source) quote.Single) (numeral (place_in source)) v again b c d f i k)

  pub literal_numeral : (v : Made) (looked again : Bool) (a b c d : Standing) → looked ≡ false → Looked looked a b (by_character (is 34)) → again ≡ false → Looked again b c (by_character (is 39)) → Ran v c d (read_in source n (numeral (place_in source)))
      → Ran v a d (read_in source n (literal (place_in source)))
  unfolding literal
  literal_numeral v looked again a b c d e h f i k =
      in_right source n (by_character (is 34)) (string_of (place_in source) quote.Double) other_literal v looked a b d e h (in_right source n (by_character (is 39)) (string_of (place_in source) quote.Single) (numeral (place_in source)) v again b c d f i k)
