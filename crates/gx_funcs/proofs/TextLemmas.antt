-- Where a text stands in another, by characters and by their bytes.
use Rattle.std.proofs.Common.{◌≡◌, ◌≢◌, ℕ, ◌+◌, ◌-◌, ◌≤◌, ◌<◌, Bool, true, false, List, [], ◌∷◌, ◌++◌, length, take, drop, Option, None, Some, refl, sym, ◌∙◌, ap, subst, arith, append_assoc, if◌then◌else◌}
use Rattle.std.specs.Prelude.{encode_utf8_all, is_some, option_map, ◌==◌, nat_eq, MatchBool}
use Rattle.std.specs.Bool.{Decides}
use Rattle.std.specs.List.{starts_with, ends_with}
use Rattle.std.specs.Str.{IsUtf8, IsCharBoundary, all_scalars, chars}
use Rattle.std.specs.Str.Pattern.{FindsText, FindsTextPrefix, FindsTextSuffix, HasMatch, HasPrefixMatch, HasSuffixMatch}
use Rattle.std.proofs.Math.ListN.{drop_of_length-le}
use Rattle.std.proofs.Math.Seq.{drop-append_seam, take-append_seam}
use Rattle.std.proofs.Math.Utf8.{encode}
use Rattle.std.proofs.lemmas.Bool.{eqb-true, eq-eqb}
use Rattle.std.proofs.lemmas.List.{length-append, length-take-le, take-append-drop}
use Rattle.std.proofs.lemmas.Slice.Eq.{starts_is, ends_is}
use Rattle.std.proofs.lemmas.Str.{cons_from_encodes, encodes-append, encodes-chars, chars-encodes, chars-append, IsUtf8-append, IsUtf8-take, IsUtf8-drop, IsCharBoundary-at_seam, length-encode, len_utf8_bounds}
use Rattle.gx_funcs.specs.Texts.{Text, split_at_first}

same_number : (a b : ℕ) → Decides (nat_eq a b) (a ≡ b)
same_number a b = (eqb-true a b, eq-eqb a b)

utf8_of : (t : Text) → all_scalars t ≡ true → IsUtf8 (encode_utf8_all t)
utf8_of t h = (t, (h, refl))

encoded_behind : (t u : Text) → encode_utf8_all (t ++ u) ≡ encode_utf8_all t ++ encode_utf8_all u
encoded_behind t u = encodes-append t u

-- bytes that end with a text are those of two texts
cut : (t : Text) (xs ys : List ℕ) → all_scalars t ≡ true → encode_utf8_all t ≡ xs ++ ys → IsUtf8 ys → (t ≡ chars xs ++ chars ys) × IsUtf8 xs
cut t xs ys s e u =
    let b : IsCharBoundary (encode_utf8_all t) (length xs) = IsCharBoundary-at_seam (encode_utf8_all t) xs ys e u in
    let front : take (length xs) (encode_utf8_all t) ≡ xs = ap (take (length xs)) e ∙ take-append_seam xs ys in
    let v : IsUtf8 xs = subst IsUtf8 front (IsUtf8-take (encode_utf8_all t) (length xs) (utf8_of t s) b) in
    (sym (chars-encodes t s) ∙ ap chars e ∙ chars-append xs ys v, v)

-- ---- at the front

-- bytes that begin with those of a text are the bytes of what begins with the text
begun_by : (p t : Text) (rest : List ℕ) → encode_utf8_all t ≡ encode_utf8_all p ++ rest → (u : Text) × (t ≡ p ++ u) × (encode_utf8_all u ≡ rest)
begun_by [] t rest e = (t, refl, e)
begun_by (c ∷ p) t rest e =
    let k = cons_from_encodes t (encode_utf8_all p ++ rest) c (e ∙ append_assoc (encode c) (encode_utf8_all p) rest) in
    let i = begun_by p k.0 rest k.2 in (i.0, k.1 ∙ ap (λ (cs : Text). c ∷ cs) i.1, i.2)

begins_so : (r : Bool) (t p : Text) → MatchBool r (HasPrefixMatch (FindsTextPrefix (encode_utf8_all p)) (encode_utf8_all t)) (FindsTextPrefix (encode_utf8_all p) (encode_utf8_all t) None)
    → r ≡ starts_with ◌==◌ t p
begins_so true t p h =
    let k = begun_by p t (drop h.0 (encode_utf8_all t)) h.1.1 in sym ((starts_is same_number t p (starts_with ◌==◌ t p) refl).1 k.0 k.1)
begins_so false t p h = by (starts_with ◌==◌ t p) refl
  where
    by : (r : Bool) → starts_with ◌==◌ t p ≡ r → false ≡ r
    by false e = refl
    by true e =
        let s = (starts_is same_number t p (starts_with ◌==◌ t p) refl).0 e in
        absurd (h (encode_utf8_all (drop (length p) t)) (ap encode_utf8_all s ∙ encoded_behind p (drop (length p) t)))

-- ---- at the end

ends_so : (r : Bool) (t p : Text) → all_scalars t ≡ true → all_scalars p ≡ true
    → MatchBool r (HasSuffixMatch (FindsTextSuffix (encode_utf8_all p)) (encode_utf8_all t)) (FindsTextSuffix (encode_utf8_all p) (encode_utf8_all t) None)
    → r ≡ ends_with ◌==◌ t p
ends_so true t p st sp h =
    let xs : List ℕ = take (length (encode_utf8_all t) - h.0) (encode_utf8_all t) in
    let c = cut t xs (encode_utf8_all p) st h.1.1 (utf8_of p sp) in
    sym ((ends_is same_number t p (ends_with ◌==◌ t p) refl).1 (chars xs) (c.0 ∙ ap (λ (u : Text). chars xs ++ u) (chars-encodes p sp)))
ends_so false t p st sp h = by (ends_with ◌==◌ t p) refl
  where
    by : (r : Bool) → ends_with ◌==◌ t p ≡ r → false ≡ r
    by false e = refl
    by true e =
        let s = (ends_is same_number t p (ends_with ◌==◌ t p) refl).0 e in
        absurd (h (encode_utf8_all (take (length t - length p) t)) (ap encode_utf8_all s ∙ encoded_behind (take (length t - length p) t) p))

-- ---- anywhere

starts_front : (t p : Text) → starts_with ◌==◌ t p ≡ true → t ≡ p ++ drop (length p) t
starts_front t p e = (starts_is same_number t p (starts_with ◌==◌ t p) refl).0 e

front_starts : (p b : Text) → starts_with ◌==◌ (p ++ b) p ≡ true
front_starts p b = (starts_is same_number (p ++ b) p (starts_with ◌==◌ (p ++ b) p) refl).1 b refl

-- the two texts of a split
same_split : (x y : Text × Text) → Some x ≡ Some y → (x.0 ≡ y.0) × (x.1 ≡ y.1)
same_split x y e = let k : x ≡ y = cc in (ap (λ (q : Text × Text). q.0) k, ap (λ (q : Text × Text). q.1) k)

-- nothing stands before it
abbrev begun : Text → Option (Text × Text)
begun behind = Some ([], behind)

-- what is found stands between what is left of the text
split_is : (p t a b : Text) → split_at_first p t ≡ Some (a, b) → t ≡ a ++ (p ++ b)
split_is p [] a b e = by (starts_with ◌==◌ [] p) refl e
  where
    by : (r : Bool) → starts_with ◌==◌ [] p ≡ r → (if r then begun [] else None) ≡ Some (a, b) → [] ≡ a ++ (p ++ b)
    by true s h =
        let k = same_split ([], []) (a, b) h in
        starts_front [] p s ∙ ap (λ (d : Text). p ++ d) (drop_of_length-le [] (omega arith)) ∙ ap (λ (d : Text). p ++ d) k.1 ∙ ap (λ (f : Text). f ++ (p ++ b)) k.0
    by false s h = absurd (cc)
split_is p (c ∷ cs) a b e = by (λ f g k. split_is p cs f g k) (starts_with ◌==◌ (c ∷ cs) p) refl e
  where
    further : ((f g : Text) → split_at_first p cs ≡ Some (f, g) → cs ≡ f ++ (p ++ g)) → (o : Option (Text × Text)) → split_at_first p cs ≡ o → option_map (λ (parts : Text × Text). let longer : Text × Text = (c ∷ parts.0, parts.1) in longer) o ≡ Some (a, b) → c ∷ cs ≡ a ++ (p ++ b)
    further rest None s h = absurd (cc)
    further rest (Some parts) s h =
        let k = same_split (c ∷ parts.0, parts.1) (a, b) h in
        ap (λ (d : Text). c ∷ d) (rest parts.0 parts.1 s) ∙ ap (λ (d : Text). c ∷ (parts.0 ++ (p ++ d))) k.1 ∙ ap (λ (f : Text). f ++ (p ++ b)) k.0

    by : ((f g : Text) → split_at_first p cs ≡ Some (f, g) → cs ≡ f ++ (p ++ g)) → (r : Bool) → starts_with ◌==◌ (c ∷ cs) p ≡ r
        → (if r then begun (drop (length p) (c ∷ cs)) else option_map (λ (parts : Text × Text). let longer : Text × Text = (c ∷ parts.0, parts.1) in longer) (split_at_first p cs)) ≡ Some (a, b) → c ∷ cs ≡ a ++ (p ++ b)
    by rest true s h =
        let k = same_split ([], drop (length p) (c ∷ cs)) (a, b) h in
        starts_front (c ∷ cs) p s ∙ ap (λ (d : Text). p ++ d) k.1 ∙ ap (λ (f : Text). f ++ (p ++ b)) k.0
    by rest false s h = further rest (split_at_first p cs) refl h

split_here : (p t : Text) → starts_with ◌==◌ t p ≡ true → split_at_first p t ≡ Some ([], drop (length p) t)
split_here p [] e = rw e (ap (λ (d : Text). Some ([], d)) (sym (drop_of_length-le [] (omega arith))))
split_here p (c ∷ cs) e = rw e refl

longer : (c : ℕ) (x : Text) → length (encode_utf8_all (c ∷ x)) ≡ length (encode c) + length (encode_utf8_all x)
longer c x = length-append (encode c) (encode_utf8_all x)

-- the first place at which it stands, by the bytes before it
first_split : (p a b : Text) → ((x y : Text) → length (encode_utf8_all x) < length (encode_utf8_all a) → a ++ (p ++ b) ≢ x ++ (p ++ y)) → split_at_first p (a ++ (p ++ b)) ≡ Some (a, b)
first_split p [] b none = split_here p (p ++ b) (front_starts p b) ∙ ap (λ (d : Text). Some ([], d)) (drop-append_seam p b)
first_split p (c ∷ a) b none =
    by (first_split p a b (λ x y l e. none (c ∷ x) y (let m = longer c a in let n = longer c x in omega (arith, l, m, n)) (ap (λ (d : Text). c ∷ d) e))) (starts_with ◌==◌ (c ∷ (a ++ (p ++ b))) p) refl
  where
    some_bytes : 0 < length (encode_utf8_all (c ∷ a))
    some_bytes = let l = longer c a in let m = length-encode c in let n = (len_utf8_bounds c).0 in omega (arith, l, m, n)

    by : split_at_first p (a ++ (p ++ b)) ≡ Some (a, b) → (r : Bool) → starts_with ◌==◌ (c ∷ (a ++ (p ++ b))) p ≡ r → split_at_first p (c ∷ (a ++ (p ++ b))) ≡ Some (c ∷ a, b)
    by rest true s = absurd (none [] (drop (length p) (c ∷ (a ++ (p ++ b)))) some_bytes (starts_front (c ∷ (a ++ (p ++ b))) p s))
    by rest false s = rw s (ap (λ (o : Option (Text × Text)). option_map (λ (parts : Text × Text). let longer : Text × Text = (c ∷ parts.0, parts.1) in longer) o) rest)

-- a match by bytes is one by characters
found_split : (t p : Text) (i j : ℕ) → all_scalars t ≡ true → all_scalars p ≡ true → FindsText (encode_utf8_all p) (encode_utf8_all t) (Some (i, j)) → i ≤ j → j ≤ length (encode_utf8_all t)
    → split_at_first p t ≡ Some (chars (take i (encode_utf8_all t)), chars (drop j (encode_utf8_all t)))
found_split t p i j st sp h l m =
    let s : List ℕ = encode_utf8_all t in
    let n : List ℕ = encode_utf8_all p in
    let behind : IsUtf8 (drop j s) = IsUtf8-drop s j (utf8_of t st) (subst (IsCharBoundary s) (sym h.1.ends) h.1.after) in
    let whole : s ≡ take i s ++ (n ++ drop j s) = sym (take-append-drop i s) ∙ ap (λ (d : List ℕ). take i s ++ d) h.1.split in
    let c = cut t (take i s) (n ++ drop j s) st whole (IsUtf8-append n (drop j s) (utf8_of p sp) behind) in
    let a : Text = chars (take i s) in
    let b : Text = chars (drop j s) in
    let back : chars (n ++ drop j s) ≡ p ++ b = chars-append n (drop j s) (utf8_of p sp) ∙ ap (λ (d : Text). d ++ b) (chars-encodes p sp) in
    let is : t ≡ a ++ (p ++ b) = c.0 ∙ ap (λ (d : Text). a ++ d) back in
    let bytes : encode_utf8_all a ≡ take i s = encodes-chars (take i s) c.1 in
    let none : (x y : Text) → length (encode_utf8_all x) < length (encode_utf8_all a) → a ++ (p ++ b) ≢ x ++ (p ++ y) =
    λ x y shorter e.
    let again : s ≡ encode_utf8_all x ++ (n ++ encode_utf8_all y) = ap encode_utf8_all (is ∙ e) ∙ encoded_behind x (p ++ y) ∙ ap (λ (d : List ℕ). encode_utf8_all x ++ d) (encoded_behind p y) in
    let few : length (encode_utf8_all a) ≡ i = ap length bytes ∙ length-take-le i s (omega arith) in
    h.0 (length (encode_utf8_all x)) (omega (arith, shorter, few)) (encode_utf8_all y)
    (ap (drop (length (encode_utf8_all x))) again ∙ drop-append_seam (encode_utf8_all x) (n ++ encode_utf8_all y)) in
    ap (split_at_first p) is ∙ first_split p a b none

-- where no bytes are found, it stands nowhere
not_split : (t p : Text) → FindsText (encode_utf8_all p) (encode_utf8_all t) None → split_at_first p t ≡ None
not_split t p h = by (split_at_first p t) refl
  where
    by : (r : Option (Text × Text)) → split_at_first p t ≡ r → r ≡ None
    by None e = refl
    by (Some parts) e =
        let is = split_is p t parts.0 parts.1 e in
        let bytes : encode_utf8_all t ≡ encode_utf8_all parts.0 ++ (encode_utf8_all p ++ encode_utf8_all parts.1) =
        ap encode_utf8_all is ∙ encoded_behind parts.0 (p ++ parts.1) ∙ ap (λ (d : List ℕ). encode_utf8_all parts.0 ++ d) (encoded_behind p parts.1) in
        let long = ap length bytes ∙ length-append (encode_utf8_all parts.0) (encode_utf8_all p ++ encode_utf8_all parts.1) in
        absurd (h (length (encode_utf8_all parts.0)) (omega (arith, long)) (encode_utf8_all parts.1)
        (ap (drop (length (encode_utf8_all parts.0))) bytes ∙ drop-append_seam (encode_utf8_all parts.0) (encode_utf8_all p ++ encode_utf8_all parts.1)))

occurs_so : (r : Bool) (t p : Text) → all_scalars t ≡ true → all_scalars p ≡ true
    → MatchBool r (HasMatch (FindsText (encode_utf8_all p)) (encode_utf8_all t)) (FindsText (encode_utf8_all p) (encode_utf8_all t) None) → r ≡ is_some (split_at_first p t)
occurs_so true t p st sp h = sym (ap is_some (found_split t p h.0 h.1 st sp h.2 h.3 h.4))
occurs_so false t p st sp h = sym (ap is_some (not_split t p h))

-- ---- as the calls on string slices say it

pub text_begins : (r : Bool) (t p : Text) (s n : List ℕ) → s ≡ encode_utf8_all t → n ≡ encode_utf8_all p → MatchBool r (HasPrefixMatch (FindsTextPrefix n) s) (FindsTextPrefix n s None) → r ≡ starts_with ◌==◌ t p
text_begins r t p s n e f h =
    begins_so r t p (subst (λ (m : List ℕ). MatchBool r (HasPrefixMatch (FindsTextPrefix m) (encode_utf8_all t)) (FindsTextPrefix m (encode_utf8_all t) None)) f
    (subst (λ (u : List ℕ). MatchBool r (HasPrefixMatch (FindsTextPrefix n) u) (FindsTextPrefix n u None)) e h))

pub text_ends : (r : Bool) (t p : Text) (s n : List ℕ) → all_scalars t ≡ true → all_scalars p ≡ true → s ≡ encode_utf8_all t → n ≡ encode_utf8_all p
    → MatchBool r (HasSuffixMatch (FindsTextSuffix n) s) (FindsTextSuffix n s None) → r ≡ ends_with ◌==◌ t p
text_ends r t p s n st sp e f h =
    ends_so r t p st sp (subst (λ (m : List ℕ). MatchBool r (HasSuffixMatch (FindsTextSuffix m) (encode_utf8_all t)) (FindsTextSuffix m (encode_utf8_all t) None)) f
    (subst (λ (u : List ℕ). MatchBool r (HasSuffixMatch (FindsTextSuffix n) u) (FindsTextSuffix n u None)) e h))

pub text_occurs : (r : Bool) (t p : Text) (s n : List ℕ) → all_scalars t ≡ true → all_scalars p ≡ true → s ≡ encode_utf8_all t → n ≡ encode_utf8_all p
    → MatchBool r (HasMatch (FindsText n) s) (FindsText n s None) → r ≡ is_some (split_at_first p t)
text_occurs r t p s n st sp e f h =
    occurs_so r t p st sp (subst (λ (m : List ℕ). MatchBool r (HasMatch (FindsText m) (encode_utf8_all t)) (FindsText m (encode_utf8_all t) None)) f
    (subst (λ (u : List ℕ). MatchBool r (HasMatch (FindsText n) u) (FindsText n u None)) e h))

pub text_splits : (t p : Text) (s n : List ℕ) (i j : ℕ) → all_scalars t ≡ true → all_scalars p ≡ true → s ≡ encode_utf8_all t → n ≡ encode_utf8_all p → FindsText n s (Some (i, j)) → i ≤ j → j ≤ length s
    → split_at_first p t ≡ Some (chars (take i s), chars (drop j s))
text_splits t p s n i j st sp e f h l m =
    let k : FindsText (encode_utf8_all p) (encode_utf8_all t) (Some (i, j)) = subst (λ (m : List ℕ). FindsText m (encode_utf8_all t) (Some (i, j))) f (subst (λ (u : List ℕ). FindsText n u (Some (i, j))) e h) in
    found_split t p i j st sp k l (omega (arith, ap length e, m)) ∙ ap (λ (u : List ℕ). Some (chars (take i u), chars (drop j u))) (sym e)

pub text_lacks : (t p : Text) (s n : List ℕ) → s ≡ encode_utf8_all t → n ≡ encode_utf8_all p → FindsText n s None → split_at_first p t ≡ None
text_lacks t p s n e f h = not_split t p (subst (λ (m : List ℕ). FindsText m (encode_utf8_all t) None) f (subst (λ (u : List ℕ). FindsText n u None) e h))

-- the bytes of a text, and their characters
pub utf8_from : (t : Text) (s : List ℕ) → all_scalars t ≡ true → s ≡ encode_utf8_all t → IsUtf8 s
utf8_from t s h e = (t, (h, sym e))

pub chars_from : (t : Text) (s : List ℕ) → all_scalars t ≡ true → s ≡ encode_utf8_all t → chars s ≡ t
chars_from t s h e = ap chars e ∙ chars-encodes t h

pub characters_of : (t : Text) (s : List ℕ) → all_scalars t ≡ true → s ≡ encode_utf8_all t → length (chars s) ≡ length t
characters_of t s h e = ap length (ap chars e ∙ chars-encodes t h)
