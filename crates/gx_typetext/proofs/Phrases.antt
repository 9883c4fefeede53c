-- What the parts of type texts read.
use Rattle.std.proofs.Common.{◌≡◌, ℕ, Bool, true, false, List, [], ◌∷◌, Option, Some, None, codes}
use Rattle.gx_grammar.specs.Value.{nothing, characters, pair}
use Rattle.gx_grammar.specs.Grammar.{Guard, token, empty, ◌&◌, choose, made}
use Rattle.gx_grammar.specs.Apart.{is}
use Rattle.gx_grammar.specs.First.{by_character, by_tokens}
use Rattle.gx_grammar.specs.Reading.{State, Reading, read_with}
use Rattle.gx_grammar.specs.Ran.{Standing, Going, GaveUp, Lost, Ran, Looked, IsDone}
use Rattle.gx_grammar.proofs.PublicLaws.{ran_both, ran_empty, ran_idle, ran_left, ran_made, ran_right}
use Rattle.gx_typetext.specs.declared.written.Space.TheVariants as space
use Rattle.gx_typetext.specs.declared.written.WrittenName.{WrittenName}
use Rattle.gx_typetext.specs.declared.written.WrittenTest.{WrittenTest}
use Rattle.gx_typetext.specs.declared.written.Inside.{Inside}
use Rattle.gx_typetext.specs.declared.written.Inside.TheVariants as inside
use Rattle.gx_typetext.specs.Nodes.{Made, written_name_made, maybe_name_made, inside_made, written_test_made, declared_made, braced_value, prefixed_value, unprefixed_value, given_name_made, name_behind_comma, test_written, declared_inside, element_inside, document_content, later_value}
use Rattle.gx_typetext.specs.Tokens.{Token, symbol, keyword, local, uri, gap, scan, seen, no_faults}
use Rattle.gx_typetext.specs.Grammar.{TypePhrase, lexeme, braced, prefixed, unprefixed, if_prefixed, name, tested_name, behind_comma, nothing_inside, tested, declared, document_test, document, type_texts}
use Rattle.gx_typetext.specs.Standings.{read_type_token, Calls, WasGiven}

-- an end says nothing of the value
pub ran_any : (v w : Made) (a b : Standing) (read : State → Reading Made) → IsDone b → Ran v a b read → Ran w a b read
ran_any v w (Going s) (Going t) read d h = absurd d
ran_any v w (Going s) (GaveUp e) read d h = h
ran_any v w (Going s) Lost read d h = tt
ran_any v w (GaveUp e) b read d h = h
ran_any v w Lost b read d h = h

module _ (call : Calls) where
  abbrev reading : TypePhrase → State → Reading Made
  reading A = read_with type_texts call A

  -- reading ended in the part
  abbrev pub Failed : TypePhrase → Standing → Standing → Type 0
  Failed A a b = IsDone b × ((v : Made) → Ran v a b (reading A))

  pub one : (t : Token) (v : Made) (a b : Standing) → Ran v a b (read_type_token t) → Ran v a b (reading (token t))
  unfolding read_type_token
  one t v a b h = h

  pub failed_one : (t : Token) (a b : Standing) → IsDone b × ((v : Made) → Ran v a b (read_type_token t)) → Failed (token t) a b
  failed_one t a b h = (h.0, λ v. one t v a b (h.1 v))

  pub both : (A B : TypePhrase) (v w : Made) (a b c : Standing) → Ran v a b (reading A) → Ran w b c (reading B) → Ran (pair v w) a c (reading (A & B))
  both A B v w a b c h k = ran_both type_texts call A B v w a b c h k

  -- nothing is read behind an end
  pub idle : (A : TypePhrase) (v : Made) (a : Standing) → IsDone a → Ran v a a (reading A)
  idle A v a d = ran_idle v a (reading A) d

  pub failed_first : (A B : TypePhrase) (a b : Standing) → Failed A a b → Failed (A & B) a b
  failed_first A B a b h = (h.0, λ v. ran_any (pair nothing nothing) v a b (reading (A & B)) h.0 (both A B nothing nothing a b b (h.1 nothing) (idle B nothing b h.0)))

  pub failed_second : (A B : TypePhrase) (u : Made) (a b c : Standing) → Ran u a b (reading A) → Failed B b c → Failed (A & B) a c
  failed_second A B u a b c h k = (k.0, λ v. ran_any (pair u nothing) v a c (reading (A & B)) k.0 (both A B u nothing a b c h (k.1 nothing)))

  pub failed_made : (f : ℕ → Made → Made) (A : TypePhrase) (a b : Standing) → Failed A a b → Failed (made f A) a b
  failed_made f A a b h = (h.0, λ v. ran_any _ v a b (reading (made f A)) h.0 (ran_made type_texts call f A nothing a b (h.1 nothing)))

  pub failed_left : (g : Guard) (A B : TypePhrase) (taken : Bool) (a b c : Standing) → taken ≡ true → Looked taken a b g → Failed A b c → Failed (choose g A B) a c
  failed_left g A B taken a b c e h k = (k.0, λ v. ran_left type_texts call g A B v taken a b c e h (k.1 v))

  pub failed_right : (g : Guard) (A B : TypePhrase) (taken : Bool) (a b c : Standing) → taken ≡ false → Looked taken a b g → Failed B b c → Failed (choose g A B) a c
  failed_right g A B taken a b c e h k = (k.0, λ v. ran_right type_texts call g A B v taken a b c e h (k.1 v))

  -- the same of what was given
  pub gave_left : {X : Type 0} (value : X → Made) (r : Option X) (g : Guard) (A B : TypePhrase) (taken : Bool) (a b c : Standing) → taken ≡ true → Looked taken a b g → WasGiven value r b c (reading A) → WasGiven value r a c (reading (choose g A B))
  gave_left value None g A B taken a b c e h k = failed_left g A B taken a b c e h k
  gave_left value (Some x) g A B taken a b c e h k = ran_left type_texts call g A B (value x) taken a b c e h k

  pub gave_right : {X : Type 0} (value : X → Made) (r : Option X) (g : Guard) (A B : TypePhrase) (taken : Bool) (a b c : Standing) → taken ≡ false → Looked taken a b g → WasGiven value r b c (reading B) → WasGiven value r a c (reading (choose g A B))
  gave_right value None g A B taken a b c e h k = failed_right g A B taken a b c e h k
  gave_right value (Some x) g A B taken a b c e h k = ran_right type_texts call g A B (value x) taken a b c e h k

  pub lexeme_read : (t : Token) (a b c : Standing) → Ran nothing a b (read_type_token t) → Ran nothing b c (read_type_token gap) → Ran (pair nothing nothing) a c (reading (lexeme t))
  lexeme_read t a b c h k = both (token t) (token gap) nothing nothing a b c (one t nothing a b h) (one gap nothing b c k)

  -- names

  pub braced_read : (u l : List ℕ) (a b c d e f : Standing) → Ran nothing a b (read_type_token (symbol (codes "{"))) → Ran (characters u) b c (read_type_token uri) → Ran nothing c d (read_type_token (symbol (codes "}"))) → Ran (characters l) d e (read_type_token local) → Ran nothing e f (read_type_token gap)
      → Ran (written_name_made (record { space = space.Uri u; local = l })) a f (reading braced)
  unfolding braced
  braced_read u l a b c d e f h1 h2 h3 h4 h5 =
      ran_made type_texts call (λ left v. braced_value v) (token (symbol (codes "{")) & token uri & token (symbol (codes "}")) & token local & token gap) (pair nothing (pair (characters u) (pair nothing (pair (characters l) nothing)))) a f
      (both (token (symbol (codes "{"))) (token uri & token (symbol (codes "}")) & token local & token gap) nothing _ a b f (one _ nothing a b h1) (both (token uri) (token (symbol (codes "}")) & token local & token gap) (characters u) _ b c f (one uri (characters u) b c h2) (both (token (symbol (codes "}"))) (token local & token gap) nothing _ c d f (one _ nothing c d h3) (both (token local) (token gap) (characters l) nothing d e f (one local (characters l) d e h4) (one gap nothing e f h5)))))

  pub braced_uri : (a b c : Standing) → Ran nothing a b (read_type_token (symbol (codes "{"))) → IsDone c × ((v : Made) → Ran v b c (read_type_token uri)) → Failed braced a c
  unfolding braced
  braced_uri a b c h1 h2 =
      failed_made (λ left v. braced_value v) (token (symbol (codes "{")) & token uri & token (symbol (codes "}")) & token local & token gap) a c
      (failed_second (token (symbol (codes "{"))) (token uri & token (symbol (codes "}")) & token local & token gap) nothing a b c (one _ nothing a b h1)
      (failed_first (token uri) (token (symbol (codes "}")) & token local & token gap) b c (failed_one uri b c h2)))

  pub braced_local : (u : List ℕ) (a b c d e : Standing) → Ran nothing a b (read_type_token (symbol (codes "{"))) → Ran (characters u) b c (read_type_token uri) → Ran nothing c d (read_type_token (symbol (codes "}"))) → IsDone e × ((v : Made) → Ran v d e (read_type_token local)) → Failed braced a e
  unfolding braced
  braced_local u a b c d e h1 h2 h3 h4 =
      failed_made (λ left v. braced_value v) (token (symbol (codes "{")) & token uri & token (symbol (codes "}")) & token local & token gap) a e
      (failed_second (token (symbol (codes "{"))) (token uri & token (symbol (codes "}")) & token local & token gap) nothing a b e (one _ nothing a b h1)
      (failed_second (token uri) (token (symbol (codes "}")) & token local & token gap) (characters u) b c e (one uri (characters u) b c h2)
      (failed_second (token (symbol (codes "}"))) (token local & token gap) nothing c d e (one _ nothing c d h3) (failed_first (token local) (token gap) d e (failed_one local d e h4)))))

  pub prefixed_read : (l : List ℕ) (a b c d : Standing) → Ran nothing a b (read_type_token (symbol (codes "xs:"))) → Ran (characters l) b c (read_type_token local) → Ran nothing c d (read_type_token gap) → Ran (written_name_made (record { space = space.Schema; local = l })) a d (reading prefixed)
  unfolding prefixed
  prefixed_read l a b c d h1 h2 h3 =
      ran_made type_texts call (λ left v. prefixed_value v) (token (symbol (codes "xs:")) & token local & token gap) (pair nothing (pair (characters l) nothing)) a d
      (both (token (symbol (codes "xs:"))) (token local & token gap) nothing (pair (characters l) nothing) a b d (one _ nothing a b h1) (both (token local) (token gap) (characters l) nothing b c d (one local (characters l) b c h2) (one gap nothing c d h3)))

  pub prefixed_local : (a b c : Standing) → Ran nothing a b (read_type_token (symbol (codes "xs:"))) → IsDone c × ((v : Made) → Ran v b c (read_type_token local)) → Failed prefixed a c
  unfolding prefixed
  prefixed_local a b c h1 h2 =
      failed_made (λ left v. prefixed_value v) (token (symbol (codes "xs:")) & token local & token gap) a c
      (failed_second (token (symbol (codes "xs:"))) (token local & token gap) nothing a b c (one _ nothing a b h1) (failed_first (token local) (token gap) b c (failed_one local b c h2)))

  pub unprefixed_read : (l : List ℕ) (a b c : Standing) → Ran (characters l) a b (read_type_token local) → Ran nothing b c (read_type_token gap) → Ran (written_name_made (record { space = space.Nowhere; local = l })) a c (reading unprefixed)
  unfolding unprefixed
  unprefixed_read l a b c h k = ran_made type_texts call (λ left v. unprefixed_value v) (token local & token gap) (pair (characters l) nothing) a c (both (token local) (token gap) (characters l) nothing a b c (one local (characters l) a b h) (one gap nothing b c k))

  pub unprefixed_local : (a b : Standing) → IsDone b × ((v : Made) → Ran v a b (read_type_token local)) → Failed unprefixed a b
  unfolding unprefixed
  unprefixed_local a b h = failed_made (λ left v. unprefixed_value v) (token local & token gap) a b (failed_first (token local) (token gap) a b (failed_one local a b h))

  pub name_braced : (r : Option WrittenName) (taken : Bool) (a b c : Standing) → taken ≡ true → Looked taken a b (by_character (is 123)) → WasGiven written_name_made r b c (reading braced) → WasGiven written_name_made r a c (reading name)
  unfolding name
  name_braced r taken a b c e h k = gave_left written_name_made r (by_character (is 123)) braced (if_prefixed prefixed unprefixed) taken a b c e h k

  abbrev prefix : Guard
  prefix = by_tokens scan no_faults seen (symbol (codes "xs:") ∷ [])

  pub name_prefixed : (r : Option WrittenName) (first second : Bool) (a b c d : Standing) → first ≡ false → Looked first a b (by_character (is 123)) → second ≡ true → Looked second b c prefix → WasGiven written_name_made r c d (reading prefixed) → WasGiven written_name_made r a d (reading name)
  unfolding name
  name_prefixed r first second a b c d e h f k l =
      gave_right written_name_made r (by_character (is 123)) braced (if_prefixed prefixed unprefixed) first a b d e h (gave_left written_name_made r prefix prefixed unprefixed second b c d f k l)

  pub name_unprefixed : (r : Option WrittenName) (first second : Bool) (a b c d : Standing) → first ≡ false → Looked first a b (by_character (is 123)) → second ≡ false → Looked second b c prefix → WasGiven written_name_made r c d (reading unprefixed) → WasGiven written_name_made r a d (reading name)
  unfolding name
  name_unprefixed r first second a b c d e h f k l =
      gave_right written_name_made r (by_character (is 123)) braced (if_prefixed prefixed unprefixed) first a b d e h (gave_right written_name_made r prefix prefixed unprefixed second b c d f k l)

  abbrev any_named : TypePhrase
  any_named = made (λ left v. maybe_name_made None) (lexeme (symbol (codes "*")))

  abbrev some_named : TypePhrase
  some_named = made (λ left v. given_name_made v) name

  pub star_read : (taken : Bool) (a b c : Standing) → taken ≡ true → Looked taken a b (by_character (is 42)) → Ran (pair nothing nothing) b c (reading (lexeme (symbol (codes "*")))) → Ran (maybe_name_made None) a c (reading tested_name)
  unfolding tested_name
  star_read taken a b c e h k = ran_left type_texts call (by_character (is 42)) any_named some_named (maybe_name_made None) taken a b c e h (ran_made type_texts call (λ left v. maybe_name_made None) (lexeme (symbol (codes "*"))) (pair nothing nothing) b c k)

  pub some_read : (n : WrittenName) (taken : Bool) (a b c : Standing) → taken ≡ false → Looked taken a b (by_character (is 42)) → Ran (written_name_made n) b c (reading name) → Ran (maybe_name_made (Some n)) a c (reading tested_name)
  unfolding tested_name
  some_read n taken a b c e h k = ran_right type_texts call (by_character (is 42)) any_named some_named (maybe_name_made (Some n)) taken a b c e h (ran_made type_texts call (λ left v. given_name_made v) name (written_name_made n) b c k)

  pub some_failed : (taken : Bool) (a b c : Standing) → taken ≡ false → Looked taken a b (by_character (is 42)) → Failed name b c → Failed tested_name a c
  unfolding tested_name
  some_failed taken a b c e h k = failed_right (by_character (is 42)) any_named some_named taken a b c e h (failed_made (λ left v. given_name_made v) name b c k)

  abbrev kind_named : TypePhrase
  kind_named = made (λ left v. name_behind_comma v) (lexeme (symbol (codes ",")) & name)

  abbrev no_kind : TypePhrase
  no_kind = made (λ left v. maybe_name_made None) empty

  pub no_comma : (taken : Bool) (a b : Standing) → taken ≡ false → Looked taken a b (by_character (is 44)) → Ran (maybe_name_made None) a b (reading behind_comma)
  unfolding behind_comma
  no_comma taken a b e h = ran_right type_texts call (by_character (is 44)) kind_named no_kind (maybe_name_made None) taken a b b e h (ran_made type_texts call (λ left v. maybe_name_made None) empty nothing b b (ran_empty type_texts call b))

  pub comma_read : (n : WrittenName) (taken : Bool) (a b c d : Standing) → taken ≡ true → Looked taken a b (by_character (is 44)) → Ran (pair nothing nothing) b c (reading (lexeme (symbol (codes ",")))) → Ran (written_name_made n) c d (reading name) → Ran (maybe_name_made (Some n)) a d (reading behind_comma)
  unfolding behind_comma
  comma_read n taken a b c d e h k l =
      ran_left type_texts call (by_character (is 44)) kind_named no_kind (maybe_name_made (Some n)) taken a b d e h
      (ran_made type_texts call (λ left v. name_behind_comma v) (lexeme (symbol (codes ",")) & name) (pair (pair nothing nothing) (written_name_made n)) b d (both (lexeme (symbol (codes ","))) name (pair nothing nothing) (written_name_made n) b c d k l))

  pub comma_failed : (taken : Bool) (a b c d : Standing) → taken ≡ true → Looked taken a b (by_character (is 44)) → Ran (pair nothing nothing) b c (reading (lexeme (symbol (codes ",")))) → Failed name c d → Failed behind_comma a d
  unfolding behind_comma
  comma_failed taken a b c d e h k l =
      failed_left (by_character (is 44)) kind_named no_kind taken a b d e h
      (failed_made (λ left v. name_behind_comma v) (lexeme (symbol (codes ",")) & name) b d (failed_second (lexeme (symbol (codes ","))) name (pair nothing nothing) b c d k l))

  -- what stands in parentheses

  abbrev paren : TypePhrase
  paren = lexeme (symbol (codes "("))

  abbrev close : TypePhrase
  close = lexeme (symbol (codes ")"))

  abbrev test_inside : TypePhrase
  test_inside = choose (by_character (is 41)) close ((tested_name & behind_comma) & close)

  pub no_test : (taken : Bool) (a b c d : Standing) → Ran (pair nothing nothing) a b (reading paren) → taken ≡ true → Looked taken b c (by_character (is 41)) → Ran (pair nothing nothing) c d (reading close) → Ran (written_test_made (record { name = None; kind = None })) a d (reading tested)
  unfolding tested
  no_test taken a b c d h e k l =
      ran_made type_texts call (λ left v. inside_made (inside.Test (test_written v))) (paren & test_inside) (pair (pair nothing nothing) (pair nothing nothing)) a d
      (both paren test_inside (pair nothing nothing) (pair nothing nothing) a b d h (ran_left type_texts call (by_character (is 41)) close ((tested_name & behind_comma) & close) (pair nothing nothing) taken b c d e k l))

  pub test_read : (n k : Option WrittenName) (taken : Bool) (a b c d e f : Standing) → Ran (pair nothing nothing) a b (reading paren) → taken ≡ false → Looked taken b c (by_character (is 41)) → Ran (maybe_name_made n) c d (reading tested_name) → Ran (maybe_name_made k) d e (reading behind_comma) → Ran (pair nothing nothing) e f (reading close)
      → Ran (written_test_made (record { name = n; kind = k })) a f (reading tested)
  unfolding tested
  test_read n k taken a b c d e f h q l h1 h2 h3 =
      ran_made type_texts call (λ left v. inside_made (inside.Test (test_written v))) (paren & test_inside) (pair (pair nothing nothing) (pair (pair (maybe_name_made n) (maybe_name_made k)) (pair nothing nothing))) a f
      (both paren test_inside (pair nothing nothing) (pair (pair (maybe_name_made n) (maybe_name_made k)) (pair nothing nothing)) a b f h
      (ran_right type_texts call (by_character (is 41)) close ((tested_name & behind_comma) & close) (pair (pair (maybe_name_made n) (maybe_name_made k)) (pair nothing nothing)) taken b c f q l
      (both (tested_name & behind_comma) close (pair (maybe_name_made n) (maybe_name_made k)) (pair nothing nothing) c e f (both tested_name behind_comma (maybe_name_made n) (maybe_name_made k) c d e h1 h2) h3)))

  pub test_failed : (taken : Bool) (a b c d : Standing) → Ran (pair nothing nothing) a b (reading paren) → taken ≡ false → Looked taken b c (by_character (is 41)) → Failed (tested_name & behind_comma) c d → Failed tested a d
  unfolding tested
  test_failed taken a b c d h e l k =
      failed_made (λ left v. inside_made (inside.Test (test_written v))) (paren & test_inside) a d
      (failed_second paren test_inside (pair nothing nothing) a b d h (failed_right (by_character (is 41)) close ((tested_name & behind_comma) & close) taken b c d e l (failed_first (tested_name & behind_comma) close c d k)))

  pub declared_read : (n : WrittenName) (a b c d : Standing) → Ran (pair nothing nothing) a b (reading paren) → Ran (written_name_made n) b c (reading name) → Ran (pair nothing nothing) c d (reading close) → Ran (declared_made n) a d (reading declared)
  unfolding declared
  declared_read n a b c d h k l =
      ran_made type_texts call (λ left v. declared_inside v) (paren & name & close) (pair (pair nothing nothing) (pair (written_name_made n) (pair nothing nothing))) a d
      (both paren (name & close) (pair nothing nothing) (pair (written_name_made n) (pair nothing nothing)) a b d h (both name close (written_name_made n) (pair nothing nothing) b c d k l))

  pub declared_failed : (a b c : Standing) → Ran (pair nothing nothing) a b (reading paren) → Failed name b c → Failed declared a c
  unfolding declared
  declared_failed a b c h k = failed_made (λ left v. declared_inside v) (paren & name & close) a c (failed_second paren (name & close) (pair nothing nothing) a b c h (failed_first name close b c k))

  pub inside_read : (a b c : Standing) → Ran (pair nothing nothing) a b (reading paren) → Ran (pair nothing nothing) b c (reading close) → Ran (inside_made inside.Nothing) a c (reading nothing_inside)
  unfolding nothing_inside
  inside_read a b c h k = ran_made type_texts call (λ left v. inside_made inside.Nothing) (paren & close) (pair (pair nothing nothing) (pair nothing nothing)) a c (both paren close (pair nothing nothing) (pair nothing nothing) a b c h k)

  abbrev element_test : TypePhrase
  element_test = made (λ left v. element_inside v) (lexeme (keyword (codes "element")) & tested)

  abbrev schema_test : TypePhrase
  schema_test = made (λ left v. later_value v) (lexeme (keyword (codes "schema-element")) & declared)

  pub element_read : (t : WrittenTest) (taken : Bool) (a b c d : Standing) → taken ≡ true → Looked taken a b (by_character (is 101)) → Ran (pair nothing nothing) b c (reading (lexeme (keyword (codes "element")))) → Ran (written_test_made t) c d (reading tested) → Ran (inside_made (inside.Element t)) a d (reading document_test)
  unfolding document_test
  element_read t taken a b c d e h k l =
      ran_left type_texts call (by_character (is 101)) element_test schema_test (inside_made (inside.Element t)) taken a b d e h
      (ran_made type_texts call (λ left v. element_inside v) (lexeme (keyword (codes "element")) & tested) (pair (pair nothing nothing) (written_test_made t)) b d (both (lexeme (keyword (codes "element"))) tested (pair nothing nothing) (written_test_made t) b c d k l))

  pub element_failed : (taken : Bool) (a b c d : Standing) → taken ≡ true → Looked taken a b (by_character (is 101)) → Ran (pair nothing nothing) b c (reading (lexeme (keyword (codes "element")))) → Failed tested c d → Failed document_test a d
  unfolding document_test
  element_failed taken a b c d e h k l =
      failed_left (by_character (is 101)) element_test schema_test taken a b d e h
      (failed_made (λ left v. element_inside v) (lexeme (keyword (codes "element")) & tested) b d (failed_second (lexeme (keyword (codes "element"))) tested (pair nothing nothing) b c d k l))

  pub schema_read : (n : WrittenName) (taken : Bool) (a b c d : Standing) → taken ≡ false → Looked taken a b (by_character (is 101)) → Ran (pair nothing nothing) b c (reading (lexeme (keyword (codes "schema-element")))) → Ran (declared_made n) c d (reading declared) → Ran (declared_made n) a d (reading document_test)
  unfolding document_test
  schema_read n taken a b c d e h k l =
      ran_right type_texts call (by_character (is 101)) element_test schema_test (declared_made n) taken a b d e h
      (ran_made type_texts call (λ left v. later_value v) (lexeme (keyword (codes "schema-element")) & declared) (pair (pair nothing nothing) (declared_made n)) b d (both (lexeme (keyword (codes "schema-element"))) declared (pair nothing nothing) (declared_made n) b c d k l))

  pub schema_failed : (taken : Bool) (a b c d : Standing) → taken ≡ false → Looked taken a b (by_character (is 101)) → Ran (pair nothing nothing) b c (reading (lexeme (keyword (codes "schema-element")))) → Failed declared c d → Failed document_test a d
  unfolding document_test
  schema_failed taken a b c d e h k l =
      failed_right (by_character (is 101)) element_test schema_test taken a b d e h
      (failed_made (λ left v. later_value v) (lexeme (keyword (codes "schema-element")) & declared) b d (failed_second (lexeme (keyword (codes "schema-element"))) declared (pair nothing nothing) b c d k l))

  abbrev document_inside : TypePhrase
  document_inside = choose (by_character (is 41)) close (document_test & close)

  pub any_document : (taken : Bool) (a b c d : Standing) → Ran (pair nothing nothing) a b (reading paren) → taken ≡ true → Looked taken b c (by_character (is 41)) → Ran (pair nothing nothing) c d (reading close) → Ran (inside_made inside.Nothing) a d (reading document)
  unfolding document
  any_document taken a b c d h e k l =
      ran_made type_texts call (λ left v. document_content v) (paren & document_inside) (pair (pair nothing nothing) (pair nothing nothing)) a d
      (both paren document_inside (pair nothing nothing) (pair nothing nothing) a b d h (ran_left type_texts call (by_character (is 41)) close (document_test & close) (pair nothing nothing) taken b c d e k l))

  pub document_read : (t : Inside) (taken : Bool) (a b c d e : Standing) → Ran (pair nothing nothing) a b (reading paren) → taken ≡ false → Looked taken b c (by_character (is 41)) → Ran (inside_made t) c d (reading document_test) → Ran (pair nothing nothing) d e (reading close) → Ran (inside_made t) a e (reading document)
  unfolding document
  document_read t taken a b c d e h q k l m =
      ran_made type_texts call (λ left v. document_content v) (paren & document_inside) (pair (pair nothing nothing) (pair (inside_made t) (pair nothing nothing))) a e
      (both paren document_inside (pair nothing nothing) (pair (inside_made t) (pair nothing nothing)) a b e h
      (ran_right type_texts call (by_character (is 41)) close (document_test & close) (pair (inside_made t) (pair nothing nothing)) taken b c e q k (both document_test close (inside_made t) (pair nothing nothing) c d e l m)))

  pub document_failed : (taken : Bool) (a b c d : Standing) → Ran (pair nothing nothing) a b (reading paren) → taken ≡ false → Looked taken b c (by_character (is 41)) → Failed document_test c d → Failed document a d
  unfolding document
  document_failed taken a b c d h q k l =
      failed_made (λ left v. document_content v) (paren & document_inside) a d
      (failed_second paren document_inside (pair nothing nothing) a b d h (failed_right (by_character (is 41)) close (document_test & close) taken b c d q k (failed_first document_test close c d l)))
