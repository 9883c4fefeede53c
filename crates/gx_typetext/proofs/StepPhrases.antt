-- What the steps of the reader of pieces read.
use Rattle.std.proofs.Common.{◌≡◌, ◌≤◌, ◌<◌, ◌∙◌, ap, ℕ, suc, zero, Bool, true, false, nat_le, List, [], ◌∷◌, subst, sym, refl, Option, Some, None, codes, arith}
use Rattle.std.proofs.lemmas.Bool.{leb-true, leb-false}
use Rattle.gx_grammar.specs.Value.{nothing, characters, pair}
use Rattle.gx_grammar.specs.Grammar.{Guard, token, empty, ◌&◌, keyed, choose, rule, made}
use Rattle.gx_grammar.specs.Apart.{is}
use Rattle.gx_grammar.specs.First.{by_character, by_tokens}
use Rattle.gx_grammar.specs.Reading.{State, Reading, read_with}
use Rattle.gx_grammar.specs.Ran.{Standing, Ran, Looked, IsDone}
use Rattle.gx_grammar.proofs.PublicLaws.{ran_empty, ran_idle, ran_keyed, ran_left, ran_made, ran_right}
use Rattle.gx_typetext.specs.declared.written.Inside.{Inside}
use Rattle.gx_typetext.specs.declared.written.Inside.TheVariants as inside
use Rattle.gx_typetext.specs.declared.written.NameWord.{NameWord}
use Rattle.gx_typetext.specs.declared.written.WrittenName.{WrittenName}
use Rattle.gx_typetext.specs.declared.written.Indicator.{Indicator}
use Rattle.gx_typetext.specs.declared.written.Indicator.TheVariants as indicator
use Rattle.gx_typetext.specs.declared.written.Operand.{Operand}
use Rattle.gx_typetext.specs.declared.written.Operand.TheVariants as operand_is
use Rattle.gx_typetext.specs.declared.written.WrittenItem.TheVariants as item_is
use Rattle.gx_typetext.specs.declared.written.Piece.{Piece}
use Rattle.gx_typetext.specs.declared.written.Piece.TheVariants as piece
use Rattle.gx_typetext.specs.declared.steps.Stage.{Stage}
use Rattle.gx_typetext.specs.Nodes.{Made, written_name_made, inside_made, pieces, name_word, put, put_name, put_word, put_empty, with_inside, bare}
use Rattle.gx_typetext.specs.Tokens.{Token, symbol, keyword, local, gap, scan, seen, no_faults}
use Rattle.gx_typetext.specs.Grammar.{Production, operand, behind, TypePhrase, lexeme, braced, prefixed, if_prefixed, nothing_inside, word_content, room_inside, room_bare, tail, behind_word, item, nested, ending, separated, indicated, type_texts}
use Rattle.gx_typetext.specs.Standings.{read_type_token, Calls, WasGiven}
use Rattle.gx_typetext.specs.Steps.{Stepped, Marked, named_step, operand_then, word_phrase}
use Rattle.gx_typetext.proofs.Phrases.{ran_any, one, both, failed_first, failed_made, failed_left}

module _ (call : Calls) where
  abbrev reading : TypePhrase → State → Reading Made
  reading A = read_with type_texts call A

  abbrev Failed : TypePhrase → Standing → Standing → Type 0
  Failed A a b = IsDone b × ((v : Made) → Ran v a b (reading A))

  -- words

  tail_none : (w : NameWord) (o : Option ℕ) (v : Made) (depth room : ℕ) (a b : Standing) → o ≡ None → Ran v a b (call (behind depth room)) → Ran v a b (reading (tail w o depth room))
  unfolding tail
  tail_none w None v depth room a b e h = h
  tail_none w (Some r) v depth room a b e h = absurd (cc)

  tail_bare : (w : NameWord) (o : Option ℕ) (r : ℕ) (v : Made) (depth room : ℕ) (taken : Bool) (a b c : Standing) → o ≡ Some r → taken ≡ false → Looked taken a b (by_character (is 40)) → Ran v b c (call (behind depth room)) → Ran v a c (reading (tail w o depth room))
  unfolding tail
  tail_bare w None r v depth room taken a b c e f l h = absurd (cc)
  tail_bare w (Some s) r v depth room taken a b c e f l h = ran_right type_texts call (by_character (is 40)) (word_content w & rule (behind depth s)) (rule (behind depth room)) v taken a b c f l h

  tail_inside : (w : NameWord) (o : Option ℕ) (r : ℕ) (i : Inside) (qs : List Piece) (depth room : ℕ) (taken : Bool) (a b c d : Standing) → o ≡ Some r → taken ≡ true → Looked taken a b (by_character (is 40)) → Ran (inside_made i) b c (reading (word_content w)) → Ran (pieces qs) c d (call (behind depth r)) → Ran (pair (inside_made i) (pieces qs)) a d (reading (tail w o depth room))
  unfolding tail
  tail_inside w None r i qs depth room taken a b c d e f l h k = absurd (cc)
  tail_inside w (Some s) r i qs depth room taken a b c d e f l h k =
      let same : r ≡ s = cc in
      ran_left type_texts call (by_character (is 40)) (word_content w & rule (behind depth s)) (rule (behind depth room)) (pair (inside_made i) (pieces qs)) taken a b d f l
      (both call (word_content w) (rule (behind depth s)) (inside_made i) (pieces qs) b c d h (subst (λ n. Ran (pieces qs) c d (call (behind depth n))) same k))

  tail_failed : (w : NameWord) (o : Option ℕ) (r : ℕ) (depth room : ℕ) (taken : Bool) (a b c : Standing) → o ≡ Some r → taken ≡ true → Looked taken a b (by_character (is 40)) → Failed (word_content w) b c → Failed (tail w o depth room) a c
  unfolding tail
  tail_failed w None r depth room taken a b c e f l h = absurd (cc)
  tail_failed w (Some s) r depth room taken a b c e f l h = failed_left call (by_character (is 40)) (word_content w & rule (behind depth s)) (rule (behind depth room)) taken a b c f l (failed_first call (word_content w) (rule (behind depth s)) b c h)

  -- a word, its gap and what is behind it
  abbrev after_word : List ℕ → (depth room : ℕ) → TypePhrase
  after_word l depth room = tail (name_word (characters l)) (room_inside (name_word (characters l)) room) depth (room_bare (name_word (characters l)) room)

  abbrev word_then : (depth room : ℕ) → Made → TypePhrase
  word_then depth room v = behind_word (name_word v) depth room

  keyed_word : (l : List ℕ) (v : Made) (depth room : ℕ) (a b c d : Standing) → Ran (characters l) a b (read_type_token local) → Ran nothing b c (read_type_token gap) → Ran v c d (reading (after_word l depth room))
      → Ran (pair (characters l) (pair nothing v)) a d (reading (keyed local (word_then depth room)))
  unfolding read_type_token behind_word
  keyed_word l v depth room a b c d h k m =
      ran_keyed type_texts call local (word_then depth room) (characters l) (pair nothing v) a b d h (both call (token gap) (after_word l depth room) nothing v b c d (one call gap nothing b c k) m)

  pub word_bare_none : (l : List ℕ) (qs : List Piece) (depth room : ℕ) (a b c d : Standing) → Ran (characters l) a b (read_type_token local) → Ran nothing b c (read_type_token gap) → room_inside (name_word (characters l)) room ≡ None
      → Ran (pieces qs) c d (call (behind depth (room_bare (name_word (characters l)) room))) → Ran (pieces (piece.Operand (bare (name_word (characters l)) l) ∷ qs)) a d (reading (word_phrase depth room))
  word_bare_none l qs depth room a b c d h k e m =
      ran_made type_texts call (λ left v. put_word v) (keyed local (word_then depth room)) (pair (characters l) (pair nothing (pieces qs))) a d
      (keyed_word l (pieces qs) depth room a b c d h k (tail_none (name_word (characters l)) (room_inside (name_word (characters l)) room) (pieces qs) depth (room_bare (name_word (characters l)) room) c d e m))

  pub word_bare_some : (l : List ℕ) (qs : List Piece) (depth room r : ℕ) (taken : Bool) (a b c d e : Standing) → Ran (characters l) a b (read_type_token local) → Ran nothing b c (read_type_token gap) → room_inside (name_word (characters l)) room ≡ Some r → taken ≡ false → Looked taken c d (by_character (is 40))
      → Ran (pieces qs) d e (call (behind depth (room_bare (name_word (characters l)) room))) → Ran (pieces (piece.Operand (bare (name_word (characters l)) l) ∷ qs)) a e (reading (word_phrase depth room))
  word_bare_some l qs depth room r taken a b c d e h k q f g m =
      ran_made type_texts call (λ left v. put_word v) (keyed local (word_then depth room)) (pair (characters l) (pair nothing (pieces qs))) a e
      (keyed_word l (pieces qs) depth room a b c e h k (tail_bare (name_word (characters l)) (room_inside (name_word (characters l)) room) r (pieces qs) depth (room_bare (name_word (characters l)) room) taken c d e q f g m))

  pub word_inside : (l : List ℕ) (i : Inside) (qs : List Piece) (depth room r : ℕ) (taken : Bool) (a b c d e f : Standing) → Ran (characters l) a b (read_type_token local) → Ran nothing b c (read_type_token gap) → room_inside (name_word (characters l)) room ≡ Some r → taken ≡ true → Looked taken c d (by_character (is 40))
      → Ran (inside_made i) d e (reading (word_content (name_word (characters l)))) → Ran (pieces qs) e f (call (behind depth r)) → Ran (pieces (piece.Operand (with_inside (name_word (characters l)) i) ∷ qs)) a f (reading (word_phrase depth room))
  word_inside l i qs depth room r taken a b c d e f h k q t g m n =
      ran_made type_texts call (λ left v. put_word v) (keyed local (word_then depth room)) (pair (characters l) (pair nothing (pair (inside_made i) (pieces qs)))) a f
      (keyed_word l (pair (inside_made i) (pieces qs)) depth room a b c f h k (tail_inside (name_word (characters l)) (room_inside (name_word (characters l)) room) r i qs depth (room_bare (name_word (characters l)) room) taken c d e f q t g m n))

  pub word_failed : (depth room : ℕ) (a b : Standing) → IsDone b × ((v : Made) → Ran v a b (read_type_token local)) → Ran (pieces []) a b (reading (word_phrase depth room))
  unfolding read_type_token
  word_failed depth room a b h =
      ran_any (put_word (pair nothing nothing)) (pieces []) a b (reading (word_phrase depth room)) h.0
      (ran_made type_texts call (λ left v. put_word v) (keyed local (word_then depth room)) (pair nothing nothing) a b
      (ran_keyed type_texts call local (word_then depth room) nothing nothing a b b (h.1 nothing) (ran_idle nothing b (reading (word_then depth room nothing)) h.0)))

  pub inside_failed : (l : List ℕ) (depth room r : ℕ) (taken : Bool) (a b c d e : Standing) → Ran (characters l) a b (read_type_token local) → Ran nothing b c (read_type_token gap) → room_inside (name_word (characters l)) room ≡ Some r → taken ≡ true → Looked taken c d (by_character (is 40))
      → Failed (word_content (name_word (characters l))) d e → Ran (pieces []) a e (reading (word_phrase depth room))
  inside_failed l depth room r taken a b c d e h k q t g m =
      ran_any (put_word (pair (characters l) (pair nothing nothing))) (pieces []) a e (reading (word_phrase depth room)) m.0
      (ran_made type_texts call (λ left v. put_word v) (keyed local (word_then depth room)) (pair (characters l) (pair nothing nothing)) a e
      (keyed_word l nothing depth room a b c e h k ((tail_failed (name_word (characters l)) (room_inside (name_word (characters l)) room) r depth (room_bare (name_word (characters l)) room) taken c d e q t g m).1 nothing)))

  -- a piece and a production behind it
  pub put_read : (p : Piece) (A : TypePhrase) (B : TypePhrase) (u : Made) (qs : List Piece) (a b c : Standing) → Ran u a b (reading A) → Ran (pieces qs) b c (reading B) → Ran (pieces (p ∷ qs)) a c (reading (made (λ left v. put p v) (A & B)))
  put_read p A B u qs a b c h k = ran_made type_texts call (λ left v. put p v) (A & B) (pair u (pieces qs)) a c (both call A B u (pieces qs) a b c h k)

  pub name_then : (A : TypePhrase) (n : WrittenName) (q : Production) (qs : List Piece) (a b c : Standing) → Ran (written_name_made n) a b (reading A) → Ran (pieces qs) b c (call q) → Ran (pieces (piece.Operand (operand_is.Item (item_is.Atomic n)) ∷ qs)) a c (reading (made (λ left v. put_name v) (A & rule q)))
  name_then A n q qs a b c h k = ran_made type_texts call (λ left v. put_name v) (A & rule q) (pair (written_name_made n) (pieces qs)) a c (both call A (rule q) (written_name_made n) (pieces qs) a b c h k)

  pub name_failed : (A : TypePhrase) (q : Production) (a b : Standing) → Failed A a b → Ran (pieces []) a b (reading (made (λ left v. put_name v) (A & rule q)))
  name_failed A q a b h = (failed_made call (λ left v. put_name v) (A & rule q) a b (failed_first call A (rule q) a b h)).1 (pieces [])

-- names as operands
pub named_stepped : (r : Option WrittenName) (A : TypePhrase) (depth room : ℕ) (a b : Standing) → ((call : Calls) → WasGiven written_name_made r a b (read_with type_texts call A)) → Stepped (named_step r depth room) (made (λ left v. put_name v) (A & rule (behind depth room))) a b
named_stepped None A depth room a b h = λ call. name_failed call A (behind depth room) a b (h call)
named_stepped (Some n) A depth room a b h = λ call qs after k. name_then call A n (behind depth room) qs a b after (h call) k

-- steps behind a look

pub stepped_left : (r : Option (Piece × Stage)) (g : Guard) (A B : TypePhrase) (taken : Bool) (a b c : Standing) → taken ≡ true → Looked taken a b g → Stepped r A b c → Stepped r (choose g A B) a c
stepped_left None g A B taken a b c e l h = λ call. ran_left type_texts call g A B (pieces []) taken a b c e l (h call)
stepped_left (Some r) g A B taken a b c e l h = λ call qs after k. ran_left type_texts call g A B (pieces (r.0 ∷ qs)) taken a b after e l (h call qs after k)

pub stepped_right : (r : Option (Piece × Stage)) (g : Guard) (A B : TypePhrase) (taken : Bool) (a b c : Standing) → taken ≡ false → Looked taken a b g → Stepped r B b c → Stepped r (choose g A B) a c
stepped_right None g A B taken a b c e l h = λ call. ran_right type_texts call g A B (pieces []) taken a b c e l (h call)
stepped_right (Some r) g A B taken a b c e l h = λ call qs after k. ran_right type_texts call g A B (pieces (r.0 ∷ qs)) taken a b after e l (h call qs after k)

-- a word without parentheses and with them, where the step's parts are equal to what they are to be

pub step_bare_none : (result : Option (Piece × Stage)) (o : Operand) (w : NameWord) (l : List ℕ) (depth room r : ℕ) (a b c : Standing) → w ≡ name_word (characters l) → room_inside w room ≡ None → o ≡ bare w l → r ≡ room_bare w room → result ≡ operand_then o depth r
    → Ran (characters l) a b (read_type_token local) → Ran nothing b c (read_type_token gap) → Stepped result (word_phrase depth room) a c
step_bare_none result o w l depth room r a b c e n f g q h k =
    let n' : room_inside (name_word (characters l)) room ≡ None = ap (λ u. room_inside u room) (sym e) ∙ n in
    let f' : o ≡ bare (name_word (characters l)) l = f ∙ ap (λ u. bare u l) e in
    let g' : r ≡ room_bare (name_word (characters l)) room = g ∙ ap (λ u. room_bare u room) e in
    subst (λ x. Stepped x (word_phrase depth room) a c) (sym q)
    (subst (λ x. Stepped (operand_then x depth r) (word_phrase depth room) a c) (sym f')
    (subst (λ x. Stepped (operand_then (bare (name_word (characters l)) l) depth x) (word_phrase depth room) a c) (sym g') (λ call qs after m. word_bare_none call l qs depth room a b c after h k n' m)))

pub step_bare_some : (result : Option (Piece × Stage)) (o : Operand) (w : NameWord) (l : List ℕ) (depth room r s : ℕ) (taken : Bool) (a b c d : Standing) → w ≡ name_word (characters l) → room_inside w room ≡ Some s → o ≡ bare w l → r ≡ room_bare w room → result ≡ operand_then o depth r
    → Ran (characters l) a b (read_type_token local) → Ran nothing b c (read_type_token gap) → taken ≡ false → Looked taken c d (by_character (is 40)) → Stepped result (word_phrase depth room) a d
step_bare_some result o w l depth room r s taken a b c d e n f g q h k t m =
    let n' : room_inside (name_word (characters l)) room ≡ Some s = ap (λ u. room_inside u room) (sym e) ∙ n in
    let f' : o ≡ bare (name_word (characters l)) l = f ∙ ap (λ u. bare u l) e in
    let g' : r ≡ room_bare (name_word (characters l)) room = g ∙ ap (λ u. room_bare u room) e in
    subst (λ x. Stepped x (word_phrase depth room) a d) (sym q)
    (subst (λ x. Stepped (operand_then x depth r) (word_phrase depth room) a d) (sym f')
    (subst (λ x. Stepped (operand_then (bare (name_word (characters l)) l) depth x) (word_phrase depth room) a d) (sym g') (λ call qs after p. word_bare_some call l qs depth room s taken a b c d after h k n' t m p)))

pub step_inside : (result : Option (Piece × Stage)) (o : Operand) (w : NameWord) (l : List ℕ) (i : Inside) (depth room s : ℕ) (taken : Bool) (a b c d e : Standing) → w ≡ name_word (characters l) → room_inside w room ≡ Some s → o ≡ with_inside w i → result ≡ operand_then o depth s
    → Ran (characters l) a b (read_type_token local) → Ran nothing b c (read_type_token gap) → taken ≡ true → Looked taken c d (by_character (is 40)) → ((call : Calls) → Ran (inside_made i) d e (read_with type_texts call (word_content w))) → Stepped result (word_phrase depth room) a e
step_inside result o w l i depth room s taken a b c d e x n f q h k t m p =
    let n' : room_inside (name_word (characters l)) room ≡ Some s = ap (λ u. room_inside u room) (sym x) ∙ n in
    let f' : o ≡ with_inside (name_word (characters l)) i = f ∙ ap (λ u. with_inside u i) x in
    subst (λ y. Stepped y (word_phrase depth room) a e) (sym q)
    (subst (λ y. Stepped (operand_then y depth s) (word_phrase depth room) a e) (sym f')
    (λ call qs after z. word_inside call l i qs depth room s taken a b c d e after h k n' t m (subst (λ u. Ran (inside_made i) d e (read_with type_texts call (word_content u))) x (p call)) z))

pub step_failed : (w : NameWord) (l : List ℕ) (depth room s : ℕ) (taken : Bool) (a b c d e : Standing) → w ≡ name_word (characters l) → room_inside w room ≡ Some s
    → Ran (characters l) a b (read_type_token local) → Ran nothing b c (read_type_token gap) → taken ≡ true → Looked taken c d (by_character (is 40)) → ((call : Calls) → IsDone e × ((v : Made) → Ran v d e (read_with type_texts call (word_content w)))) → Stepped None (word_phrase depth room) a e
step_failed w l depth room s taken a b c d e x n h k t m p =
    let n' : room_inside (name_word (characters l)) room ≡ Some s = ap (λ u. room_inside u room) (sym x) ∙ n in
    λ call. inside_failed call l depth room s taken a b c d e h k n' t m (subst (λ u. IsDone e × ((v : Made) → Ran v d e (read_with type_texts call (word_content u)))) x (p call))

-- where no position is left

abbrev HasTextPieces : (t : Token) → Standing → Standing → Type 0
HasTextPieces t a b = (call : Calls) → Ran (pair nothing nothing) a b (read_with type_texts call (lexeme t))

pub last_never : (result : Option (Piece × Stage)) (depth : ℕ) (taken : Bool) (a b c : Standing) → result ≡ operand_then operand_is.Never depth 0 → taken ≡ true → Looked taken a b (by_character (is 110)) → HasTextPieces (keyword (codes "none")) b c → Stepped result (item depth 0) a c
unfolding item
last_never result depth taken a b c e t l h =
    subst (λ x. Stepped x (item depth 0) a c) (sym e)
    (stepped_left (operand_then operand_is.Never depth 0) (by_character (is 110)) (made (λ left v. put (piece.Operand operand_is.Never) v) (lexeme (keyword (codes "none")) & rule (behind depth zero)))
    (made (λ left v. put_empty v) (lexeme (keyword (codes "empty-sequence")) & nothing_inside & rule (behind depth zero))) taken a b c t l
    (λ call qs after k. put_read call (piece.Operand operand_is.Never) (lexeme (keyword (codes "none"))) (rule (behind depth zero)) (pair nothing nothing) qs b c after (h call) k))

pub last_empty : (result : Option (Piece × Stage)) (depth : ℕ) (taken : Bool) (a b c d : Standing) → result ≡ operand_then operand_is.Empty depth 0 → taken ≡ false → Looked taken a b (by_character (is 110)) → HasTextPieces (keyword (codes "empty-sequence")) b c
    → ((call : Calls) → Ran (inside_made inside.Nothing) c d (read_with type_texts call nothing_inside)) → Stepped result (item depth 0) a d
unfolding item
last_empty result depth taken a b c d e t l h m =
    subst (λ x. Stepped x (item depth 0) a d) (sym e)
    (stepped_right (operand_then operand_is.Empty depth 0) (by_character (is 110)) (made (λ left v. put (piece.Operand operand_is.Never) v) (lexeme (keyword (codes "none")) & rule (behind depth zero)))
    (made (λ left v. put_empty v) (lexeme (keyword (codes "empty-sequence")) & nothing_inside & rule (behind depth zero))) taken a b d t l
    (λ call qs after k.
    ran_made type_texts call (λ left v. put_empty v) (lexeme (keyword (codes "empty-sequence")) & nothing_inside & rule (behind depth zero)) (pair (pair nothing nothing) (pair (inside_made inside.Nothing) (pieces qs))) b after
    (both call (lexeme (keyword (codes "empty-sequence"))) (nothing_inside & rule (behind depth zero)) (pair nothing nothing) (pair (inside_made inside.Nothing) (pieces qs)) b c after (h call)
    (both call nothing_inside (rule (behind depth zero)) (inside_made inside.Nothing) (pieces qs) c d after (m call) k))))

-- where some are left

abbrev braced_part : (depth n : ℕ) → TypePhrase
braced_part depth n = made (λ left v. put_name v) (braced & rule (behind depth n))

abbrev prefixed_part : (depth n : ℕ) → TypePhrase
prefixed_part depth n = made (λ left v. put_name v) (prefixed & rule (behind depth n))

abbrev prefix : Guard
prefix = by_tokens scan no_faults seen (symbol (codes "xs:") ∷ [])

pub item_zero : (r : Option (Piece × Stage)) (depth room : ℕ) (a b : Standing) → room ≡ 0 → Stepped r (item depth 0) a b → Stepped r (item depth room) a b
item_zero r depth room a b e h = subst (λ n. Stepped r (item depth n) a b) (sym e) h

pub item_braced : (r result : Option (Piece × Stage)) (depth room n : ℕ) (taken : Bool) (a b c : Standing) → room ≡ suc n → result ≡ r → taken ≡ true → Looked taken a b (by_character (is 123)) → Stepped r (braced_part depth n) b c → Stepped result (item depth room) a c
unfolding item
item_braced r result depth room n taken a b c e q t l h =
    subst (λ m. Stepped result (item depth m) a c) (sym e)
    (subst (λ x. Stepped x (item depth (suc n)) a c) (sym q) (stepped_left r (by_character (is 123)) (braced_part depth n) (if_prefixed (prefixed_part depth n) (word_phrase depth n)) taken a b c t l h))

pub item_prefixed : (r result : Option (Piece × Stage)) (depth room n : ℕ) (first second : Bool) (a b c d : Standing) → room ≡ suc n → result ≡ r → first ≡ false → Looked first a b (by_character (is 123)) → second ≡ true → Looked second b c prefix → Stepped r (prefixed_part depth n) c d → Stepped result (item depth room) a d
unfolding item
item_prefixed r result depth room n first second a b c d e q t l u m h =
    subst (λ m. Stepped result (item depth m) a d) (sym e)
    (subst (λ x. Stepped x (item depth (suc n)) a d) (sym q)
    (stepped_right r (by_character (is 123)) (braced_part depth n) (if_prefixed (prefixed_part depth n) (word_phrase depth n)) first a b d t l (stepped_left r prefix (prefixed_part depth n) (word_phrase depth n) second b c d u m h)))

pub item_word : (r : Option (Piece × Stage)) (depth room n : ℕ) (first second : Bool) (a b c d : Standing) → room ≡ suc n → first ≡ false → Looked first a b (by_character (is 123)) → second ≡ false → Looked second b c prefix → Stepped r (word_phrase depth n) c d → Stepped r (item depth room) a d
unfolding item
item_word r depth room n first second a b c d e t l u m h =
    subst (λ m. Stepped r (item depth m) a d) (sym e)
    (stepped_right r (by_character (is 123)) (braced_part depth n) (if_prefixed (prefixed_part depth n) (word_phrase depth n)) first a b d t l (stepped_right r prefix (prefixed_part depth n) (word_phrase depth n) second b c d u m h))

-- operands

pub nested_full : (r : Option (Piece × Stage)) (depth room : ℕ) (a b : Standing) → nat_le (suc depth) 40 ≡ false → Stepped r (item depth room) a b → Stepped r (nested (nat_le (suc depth) 40) depth room) a b
unfolding nested
nested_full r depth room a b e h = subst (λ x. Stepped r (nested x depth room) a b) (sym e) h

abbrev opened : (depth room : ℕ) → TypePhrase
opened depth room = made (λ left v. put piece.Opening v) (lexeme (symbol (codes "(")) & rule (operand (suc depth) room))

abbrev opening_then : (depth room : ℕ) → Option (Piece × Stage)
opening_then depth room = Some (piece.Opening, record { is_due = true; depth = depth; room = room })

pub nested_opening : (depth more room : ℕ) (taken : Bool) (a b c : Standing) → more ≡ suc depth → nat_le (suc depth) 40 ≡ true → taken ≡ true → Looked taken a b (by_character (is 40)) → HasTextPieces (symbol (codes "(")) b c → Stepped (opening_then more room) (nested (nat_le (suc depth) 40) depth room) a c
unfolding nested
nested_opening depth more room taken a b c m e t l h =
    subst (λ n. Stepped (opening_then n room) (nested (nat_le (suc depth) 40) depth room) a c) (sym m)
    (subst (λ x. Stepped (opening_then (suc depth) room) (nested x depth room) a c) (sym e)
    (stepped_left (opening_then (suc depth) room) (by_character (is 40)) (opened depth room) (item depth room) taken a b c t l
    (λ call qs after k. put_read call piece.Opening (lexeme (symbol (codes "("))) (rule (operand (suc depth) room)) (pair nothing nothing) qs b c after (h call) k)))

pub nested_item : (r : Option (Piece × Stage)) (depth room : ℕ) (taken : Bool) (a b c : Standing) → nat_le (suc depth) 40 ≡ true → taken ≡ false → Looked taken a b (by_character (is 40)) → Stepped r (item depth room) b c → Stepped r (nested (nat_le (suc depth) 40) depth room) a c
unfolding nested
nested_item r depth room taken a b c e t l h =
    subst (λ x. Stepped r (nested x depth room) a c) (sym e) (stepped_right r (by_character (is 40)) (opened depth room) (item depth room) taken a b c t l h)

-- indicators

abbrev marked : (w : List ℕ) → Indicator → (depth room : ℕ) → TypePhrase
marked w i depth room = made (λ left v. put (piece.Indicated i) v) (lexeme (symbol w) & separated depth room)

abbrev plus_part : (depth room : ℕ) → TypePhrase
plus_part depth room = choose (by_character (is 43)) (marked (codes "+") indicator.Plus depth room) (separated depth room)

abbrev star_part : (depth room : ℕ) → TypePhrase
star_part depth room = choose (by_character (is 42)) (marked (codes "*") indicator.Star depth room) (plus_part depth room)

mark_read : (w : List ℕ) (i : Indicator) (depth room : ℕ) (a b : Standing) → HasTextPieces (symbol w) a b → (call : Calls) (qs : List Piece) (after : Standing) → Ran (pieces qs) b after (read_with type_texts call (separated depth room)) → Ran (pieces (piece.Indicated i ∷ qs)) a after (read_with type_texts call (marked w i depth room))
mark_read w i depth room a b h call qs after k = put_read call (piece.Indicated i) (lexeme (symbol w)) (separated depth room) (pair nothing nothing) qs a b after (h call) k

pub question_read : (depth room : ℕ) (p : Bool) (a b c : Standing) → p ≡ true → Looked p a b (by_character (is 63)) → HasTextPieces (symbol (codes "?")) b c → Marked (Some indicator.Optional) depth room a c
unfolding indicated
question_read depth room p a b c e l h = λ call qs after k.
    ran_left type_texts call (by_character (is 63)) (marked (codes "?") indicator.Optional depth room) (star_part depth room) (pieces (piece.Indicated indicator.Optional ∷ qs)) p a b after e l (mark_read (codes "?") indicator.Optional depth room b c h call qs after k)

pub star_read : (depth room : ℕ) (p q : Bool) (a b c d : Standing) → p ≡ false → Looked p a b (by_character (is 63)) → q ≡ true → Looked q b c (by_character (is 42)) → HasTextPieces (symbol (codes "*")) c d → Marked (Some indicator.Star) depth room a d
unfolding indicated
star_read depth room p q a b c d e l f m h = λ call qs after k.
    ran_right type_texts call (by_character (is 63)) (marked (codes "?") indicator.Optional depth room) (star_part depth room) (pieces (piece.Indicated indicator.Star ∷ qs)) p a b after e l
    (ran_left type_texts call (by_character (is 42)) (marked (codes "*") indicator.Star depth room) (plus_part depth room) (pieces (piece.Indicated indicator.Star ∷ qs)) q b c after f m (mark_read (codes "*") indicator.Star depth room c d h call qs after k))

pub plus_read : (depth room : ℕ) (p q r : Bool) (a b c d e : Standing) → p ≡ false → Looked p a b (by_character (is 63)) → q ≡ false → Looked q b c (by_character (is 42)) → r ≡ true → Looked r c d (by_character (is 43)) → HasTextPieces (symbol (codes "+")) d e → Marked (Some indicator.Plus) depth room a e
unfolding indicated
plus_read depth room p q r a b c d e x l f m g n h = λ call qs after k.
    ran_right type_texts call (by_character (is 63)) (marked (codes "?") indicator.Optional depth room) (star_part depth room) (pieces (piece.Indicated indicator.Plus ∷ qs)) p a b after x l
    (ran_right type_texts call (by_character (is 42)) (marked (codes "*") indicator.Star depth room) (plus_part depth room) (pieces (piece.Indicated indicator.Plus ∷ qs)) q b c after f m
    (ran_left type_texts call (by_character (is 43)) (marked (codes "+") indicator.Plus depth room) (separated depth room) (pieces (piece.Indicated indicator.Plus ∷ qs)) r c d after g n (mark_read (codes "+") indicator.Plus depth room d e h call qs after k)))

pub no_mark : (depth room : ℕ) (p q r : Bool) (a b c d : Standing) → p ≡ false → Looked p a b (by_character (is 63)) → q ≡ false → Looked q b c (by_character (is 42)) → r ≡ false → Looked r c d (by_character (is 43)) → Marked None depth room a d
unfolding indicated
no_mark depth room p q r a b c d x l f m g n = λ call qs after k.
    ran_right type_texts call (by_character (is 63)) (marked (codes "?") indicator.Optional depth room) (star_part depth room) (pieces qs) p a b after x l
    (ran_right type_texts call (by_character (is 42)) (marked (codes "*") indicator.Star depth room) (plus_part depth room) (pieces qs) q b c after f m
    (ran_right type_texts call (by_character (is 43)) (marked (codes "+") indicator.Plus depth room) (separated depth room) (pieces qs) r c d after g n k))

-- separators

abbrev due_then : Piece → (depth room : ℕ) → Option (Piece × Stage)
due_then p depth room = Some (p, record { is_due = true; depth = depth; room = room })

abbrev comma_part : (depth room : ℕ) → TypePhrase
comma_part depth room = made (λ left v. put piece.Comma v) (lexeme (symbol (codes ",")) & rule (operand depth room))

abbrev bar_part : (depth room : ℕ) → TypePhrase
bar_part depth room = made (λ left v. put piece.Bar v) (lexeme (symbol (codes "|")) & rule (operand depth room))

abbrev bar_or_end : (depth room : ℕ) → TypePhrase
bar_or_end depth room = choose (by_character (is 124)) (bar_part depth room) (ending depth room)

pub comma_read : (result : Option (Piece × Stage)) (depth room : ℕ) (p : Bool) (a b c : Standing) → result ≡ due_then piece.Comma depth room → p ≡ true → Looked p a b (by_character (is 44)) → HasTextPieces (symbol (codes ",")) b c → Stepped result (separated depth room) a c
unfolding separated
comma_read result depth room p a b c q e l h =
    subst (λ x. Stepped x (separated depth room) a c) (sym q)
    (stepped_left (due_then piece.Comma depth room) (by_character (is 44)) (comma_part depth room) (bar_or_end depth room) p a b c e l
    (λ call qs after k. put_read call piece.Comma (lexeme (symbol (codes ","))) (rule (operand depth room)) (pair nothing nothing) qs b c after (h call) k))

pub bar_read : (result : Option (Piece × Stage)) (depth room : ℕ) (p q : Bool) (a b c d : Standing) → result ≡ due_then piece.Bar depth room → p ≡ false → Looked p a b (by_character (is 44)) → q ≡ true → Looked q b c (by_character (is 124)) → HasTextPieces (symbol (codes "|")) c d → Stepped result (separated depth room) a d
unfolding separated
bar_read result depth room p q a b c d x e l f m h =
    subst (λ x. Stepped x (separated depth room) a d) (sym x)
    (stepped_right (due_then piece.Bar depth room) (by_character (is 44)) (comma_part depth room) (bar_or_end depth room) p a b d e l
    (stepped_left (due_then piece.Bar depth room) (by_character (is 124)) (bar_part depth room) (ending depth room) q b c d f m
    (λ call qs after k. put_read call piece.Bar (lexeme (symbol (codes "|"))) (rule (operand depth room)) (pair nothing nothing) qs c d after (h call) k)))

ends_open : (r : Option (Piece × Stage)) (depth room : ℕ) (p q : Bool) (a b c d : Standing) → p ≡ false → Looked p a b (by_character (is 44)) → q ≡ false → Looked q b c (by_character (is 124)) → Stepped r (ending depth room) c d → Stepped r (separated depth room) a d
unfolding separated
ends_open r depth room p q a b c d e l f m h =
    stepped_right r (by_character (is 44)) (comma_part depth room) (bar_or_end depth room) p a b d e l (stepped_right r (by_character (is 124)) (bar_part depth room) (ending depth room) q b c d f m h)

pub no_more : (depth room : ℕ) (p q : Bool) (a b c : Standing) → depth ≡ 0 → p ≡ false → Looked p a b (by_character (is 44)) → q ≡ false → Looked q b c (by_character (is 124)) → Stepped None (separated depth room) a c
unfolding ending
no_more zero room p q a b c z e l f m = ends_open None zero room p q a b c c e l f m (λ call. ran_made type_texts call (λ left v. pieces []) empty nothing c c (ran_empty type_texts call c))
no_more (suc depth) room p q a b c z e l f m = absurd (cc)

pub closing_read : (depth n room : ℕ) (p q : Bool) (a b c d : Standing) → depth ≡ suc n → p ≡ false → Looked p a b (by_character (is 44)) → q ≡ false → Looked q b c (by_character (is 124)) → HasTextPieces (symbol (codes ")")) c d
    → Stepped (Some (piece.Closing, record { is_due = false; depth = n; room = room })) (separated depth room) a d
unfolding ending
closing_read depth n room p q a b c d z e l f m h =
    subst (λ k. Stepped (Some (piece.Closing, record { is_due = false; depth = n; room = room })) (separated k room) a d) (sym z)
    (ends_open (Some (piece.Closing, record { is_due = false; depth = n; room = room })) (suc n) room p q a b c d e l f m
    (λ call qs after k. put_read call piece.Closing (lexeme (symbol (codes ")"))) (rule (behind n room)) (pair nothing nothing) qs c d after (h call) k))

pub not_below : (d : ℕ) → 40 ≤ d → nat_le (suc d) 40 ≡ false
not_below d e = go (nat_le (suc d) 40) refl
  where
    go : (b : Bool) → nat_le (suc d) 40 ≡ b → b ≡ false
    go true f = absurd (omega (arith, e, leb-true (suc d) 40 f))
    go false f = refl

pub below : (d : ℕ) → d < 40 → nat_le (suc d) 40 ≡ true
below d e = go (nat_le (suc d) 40) refl
  where
    go : (b : Bool) → nat_le (suc d) 40 ≡ b → b ≡ true
    go true f = refl
    go false f = absurd (omega (arith, e, leb-false (suc d) 40 f))
