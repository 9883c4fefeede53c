-- How elements and their content are read.
use Rattle.std.proofs.Common.{◌≡◌, ℕ, ◌-◌, Bool, false, List, [], ◌∷◌, ◌++◌, map, refl, sym, ap, ◌∙◌, subst, codes}
use Rattle.std.specs.Prelude.{Option, None, Result, Ok, Err, IfOk}
use Rattle.gx_grammar.specs.Value.{characters, nothing, pair}
use Rattle.gx_grammar.specs.Grammar.{rule, token, empty, made}
use Rattle.gx_grammar.specs.Ran.{Standing, Ran}
use Rattle.gx_base.specs.declared.name.Name.{Name}
use Rattle.gx_tree.specs.Binding.{Binding, uri_read}
use Rattle.gx_xml.specs.declared.source.SourceAttribute.{SourceAttribute}
use Rattle.gx_xml.specs.declared.runs.Run.TheVariants as run_of
use Rattle.gx_xml.specs.declared.marks.Choice.TheVariants as choice_of
use Rattle.gx_xml.specs.declared.marks.Mark.{Mark}
use Rattle.gx_xml.specs.declared.marks.Mark.TheVariants as mark
use Rattle.gx_xml.specs.declared.children.Children.{Children}
use Rattle.gx_xml.specs.declared.tag.StartTag.{StartTag}
use Rattle.gx_xml.specs.Runs.{text_normalised}
use Rattle.gx_xml.specs.SourceTree.{SourceTree, SourceContents, source, no_content, a_child}
use Rattle.gx_xml.specs.Nodes.{Made, mark_value, held, rooted, put_characters, with_text, with_section, with_child, with_characters, section_text}
use Rattle.gx_xml.specs.Marks.{is_item}
use Rattle.gx_xml.specs.Tokens.{choice, maybe_run, run, symbol, tag_end}
use Rattle.gx_xml.specs.Tags.{TagSoFar, scope_in, tagged_element, tag_name, declared_binding, name_with_uri, expanded_attribute, tag_fault}
use Rattle.gx_xml.specs.TagView.{tag_as}
use Rattle.gx_xml.specs.Gathered.{children_with, ReadContent, ReadItem, ReadChildren}
use Rattle.gx_xml.specs.Grammar.{Phrase, past, past_space, past_comment, past_instruction, past_name, character_reference, rules, spaced, content, element, inside, begun_tag, behind_content, behind_tag, with_content, closing_tag, tag_ending, past_element_name}
use Rattle.gx_xml.specs.Standings.{Did, WentPast, Chose, read_document_token}
use Rattle.gx_xml.proofs.Steps.{did_on, did_made, did_keyed, did_both, did_rule, did_empty, did_token}

pub if_ok : {T E : Type 0} {P Q : T → Type 0} (r : Result T E) → IfOk r P → ((x : T) → P x → Q x) → IfOk r Q
if_ok (Ok x) p f = f x p
if_ok (Err e) p f = p

-- character data and a word, with what stands behind it
content_read : (room : ℕ) (scope : List Binding) (x : List ℕ) (m : Mark) (ws : SourceContents) (a b d e : Standing) → Ran (characters x) a b (read_document_token (maybe_run run_of.Text 0)) → Ran (mark_value m) b d (read_document_token (choice choice_of.Content))
    → Did (held ws) d e (behind_content room scope m) → Did (held (put_characters (text_normalised x) ws)) a e (rule (content room scope))
unfolding rules
content_read room scope x m ws a b d e h k r =
    did_rule (content room scope) (held (put_characters (text_normalised x) ws)) a e
    (did_made (λ left v. with_text v) _ (pair (characters x) (held ws)) a e
    (did_keyed (maybe_run run_of.Text 0) _ (characters x) (held ws) a b e h
    (did_on (choice choice_of.Content) _ (mark_value m) (held ws) b d e k r)))

-- a word that no content follows ends it
pub ends_content : (room : ℕ) (scope : List Binding) (m : Mark) (a : Standing) → is_item m ≡ false → Did (held no_content) a a (behind_content room scope m)
unfolding behind_content
ends_content room scope mark.Comment a e = absurd (cc)
ends_content room scope mark.Instruction a e = absurd (cc)
ends_content room scope mark.CData a e = absurd (cc)
ends_content room scope mark.Reference a e = absurd (cc)
ends_content room scope mark.StartTag a e = absurd (cc)
ends_content room scope _ a e = did_made (λ left v. held no_content) empty nothing a a (did_empty a)

module _ (room : ℕ) (scope : List Binding) (children more : Children) (x : List ℕ) (m : Mark) (origin a b d : Standing)
    (so_far : ReadContent room scope children origin a) (first : Ran (characters x) a b (read_document_token (maybe_run run_of.Text 0)))
    (pushed : (cs : SourceContents) → children_with more cs ≡ children_with children (put_characters (text_normalised x) cs))
    (second : Ran (mark_value m) b d (read_document_token (choice choice_of.Content))) where
  -- content ends
  pub content_ends : (cs : SourceContents) → Did (held no_content) d d (behind_content room scope m) → cs ≡ children_with more no_content → Did (held cs) origin d (rule (content room scope))
  content_ends cs h e =
      subst (λ w. Did (held w) origin d (rule (content room scope))) (sym (e ∙ pushed no_content))
      (so_far (put_characters (text_normalised x) no_content) d (content_read room scope x m no_content a b d d first second h))

  -- an item was read
  pub content_goes_on : (new : Children) (here : Standing) → ReadItem room scope m more new d here → ReadContent room scope new origin here
  content_goes_on new here item = λ cs after h.
      (let r = item cs after h in
      subst (λ w. Did (held w) origin after (rule (content room scope))) (sym (pushed r.0) ∙ r.1)
      (so_far (put_characters (text_normalised x) r.0) after (content_read room scope x m r.0 a b d after first second r.2)))

-- items

module _ (room : ℕ) (scope : List Binding) (m : Mark) (old new : Children) (a : Standing) where
  pub item_comment : (here : Standing) → m ≡ mark.Comment → WentPast past_comment a here → new ≡ old → ReadItem room scope m old new a here
  unfolding behind_content
  item_comment here e past same = λ cs after h. (cs, ap (λ c. children_with c cs) (sym same), subst (λ x. Did (held cs) a after (behind_content room scope x)) (sym e) (past (rule (content room scope)) (held cs) after h))

  pub item_instruction : (here : Standing) → m ≡ mark.Instruction → WentPast past_instruction a here → new ≡ old → ReadItem room scope m old new a here
  unfolding behind_content
  item_instruction here e past same = λ cs after h. (cs, ap (λ c. children_with c cs) (sym same), subst (λ x. Did (held cs) a after (behind_content room scope x)) (sym e) (past (rule (content room scope)) (held cs) after h))

  pub item_section : (x : List ℕ) (b here : Standing) → m ≡ mark.CData → Ran (characters x) a b (read_document_token (run run_of.CData 0)) → Ran nothing b here (read_document_token (symbol (codes ">")))
      → ((cs : SourceContents) → children_with new cs ≡ children_with old (put_characters (section_text x) cs)) → ReadItem room scope m old new a here
  unfolding behind_content
  item_section x b here e h k pushed = λ cs after r. (
    put_characters (section_text x) cs,
    sym (pushed cs),
    subst (λ y. Did (held (put_characters (section_text x) cs)) a after (behind_content room scope y)) (sym e)
        (did_made (λ left v. with_section v) _ (pair (characters x) (held cs)) a after
        (did_keyed (run run_of.CData 0) _ (characters x) (held cs) a b after h (did_on (symbol (codes ">")) _ nothing (held cs) b here after k r))),
  )

  pub item_reference : (c : ℕ) (here : Standing) → m ≡ mark.Reference → Chose c (character_reference None) a here
      → ((cs : SourceContents) → children_with new cs ≡ children_with old (put_characters (c ∷ []) cs)) → ReadItem room scope m old new a here
  unfolding behind_content
  item_reference c here e chose pushed = λ cs after r. (
    put_characters (c ∷ []) cs,
    sym (pushed cs),
    subst (λ y. Did (held (put_characters (c ∷ []) cs)) a after (behind_content room scope y)) (sym e)
        (chose (λ k. made (λ left v. with_characters (k ∷ []) v) (rule (content room scope))) (held (put_characters (c ∷ []) cs)) after
        (did_made (λ left v. with_characters (c ∷ []) v) (rule (content room scope)) (held cs) here after r)),
  )

  pub item_element : (t : SourceTree) (here : Standing) → m ≡ mark.StartTag → Did (rooted t) a here (rule (element room scope))
      → ((cs : SourceContents) → children_with new cs ≡ children_with old (a_child t cs)) → ReadItem room scope m old new a here
  unfolding behind_content
  item_element t here e read pushed = λ cs after r. (
    a_child t cs,
    sym (pushed cs),
    subst (λ y. Did (held (a_child t cs)) a after (behind_content room scope y)) (sym e)
        (did_made (λ left v. with_child v) _ (pair (rooted t) (held cs)) a after
        (did_both (rule (element room scope)) (rule (content room scope)) (rooted t) (held cs) a here after read r)),
  )

-- what stands behind a tag

pub no_content_behind : (t : TagSoFar) (m : Mark) (cs : SourceContents) (a : Standing) → (m ≡ mark.Open → ⊥) → cs ≡ no_content → Did (rooted (tagged_element t cs)) a a (behind_tag t m)
unfolding behind_tag
no_content_behind t m cs a n e = subst (λ x. Did (rooted (tagged_element t x)) a a (behind_tag t m)) (sym e) (closes t m a n)
  where
    closes : (t : TagSoFar) (m : Mark) (a : Standing) → (m ≡ mark.Open → ⊥) → Did (rooted (tagged_element t no_content)) a a (behind_tag t m)
    closes t mark.Open a n = absurd (n refl)
    closes t _ a n = did_made (λ left v. rooted (tagged_element t no_content)) empty nothing a a (did_empty a)

pub content_behind : (room : ℕ) (bindings : List Binding) (prefix local : List ℕ) (m : Mark) (cs : SourceContents) (s : Bool) (a b c d e : Standing) → m ≡ mark.Open
    → Did (held cs) a b (rule (content (room - 1) bindings)) → WentPast (past_name prefix local) b c → Chose s spaced c d → Ran nothing d e (read_document_token (symbol (codes ">")))
    → ReadChildren room bindings prefix local m cs a e
unfolding behind_tag closing_tag
content_behind room bindings prefix local m cs s a b c d e is read named space ended = λ t rooms scopes prefixes locals.
    subst (λ x. Did (rooted (tagged_element t cs)) a e (behind_tag t x)) (sym is)
    (did_made (λ left v. with_content t v) _ (pair (held cs) nothing) a e
    (did_both (rule (content (t.room - 1) (scope_in t))) (closing_tag t) (held cs) nothing a b e
    (subst (λ r. Did (held cs) a b (rule (content (r - 1) (scope_in t)))) (sym rooms) (subst (λ s. Did (held cs) a b (rule (content (room - 1) s))) (sym scopes) read))
    (subst (λ (p : List ℕ). Did nothing b e (past_name p t.local (past_space (token (symbol (codes ">")))))) (sym prefixes)
    (subst (λ (l : List ℕ). Did nothing b e (past_name prefix l (past_space (token (symbol (codes ">")))))) (sym locals)
    (named (past_space (token (symbol (codes ">")))) nothing e (space (λ x. token (symbol (codes ">"))) nothing e (did_token (symbol (codes ">")) nothing d e ended)))))))

-- a start tag with what stands behind it
pub tag_read : (room : ℕ) (scope bindings : List Binding) (tag : StartTag) (prefix local : List ℕ) (m : Mark) (fault : Option ℕ) (name : Name) (attributes : List SourceAttribute) (cs : SourceContents) (a b c : Standing)
    → bindings ≡ scope ++ map declared_binding tag.declarations.items → fault ≡ tag_fault (tag_as room scope tag) → tag.prefix ≡ prefix → tag.local ≡ local
    → name ≡ name_with_uri (uri_read bindings tag.prefix) tag.prefix tag.local → attributes ≡ map (expanded_attribute bindings) tag.attributes.items
    → Ran (mark_value m) a b (read_document_token (tag_end fault)) → ReadChildren room bindings prefix local m cs b c
    → Did (rooted (source name tag.declarations.items attributes cs)) a c (tag_ending (tag_as room scope tag))
unfolding tag_ending
tag_read room scope bindings tag prefix local m fault name attributes cs a b c e faults p l named listed ended read =
    let t = tag_as room scope tag in
    let same : source name tag.declarations.items attributes cs ≡ tagged_element t cs =
    ap (λ (n : Name). source n tag.declarations.items attributes cs) (named ∙ ap (λ (s : List Binding). name_with_uri (uri_read s tag.prefix) tag.prefix tag.local) e)
    ∙ ap (λ (l : List SourceAttribute). source (tag_name t) tag.declarations.items l cs) (listed ∙ ap (λ (s : List Binding). map (expanded_attribute s) tag.attributes.items) e) in
    subst (λ x. Did (rooted x) a c (tag_ending t)) (sym same)
    (did_on (tag_end (tag_fault t)) _ (mark_value m) (rooted (tagged_element t cs)) a b c
    (subst (λ f. Ran (mark_value m) a b (read_document_token (tag_end f))) faults ended)
    (read t refl (sym e) p l))

-- a tag behind its name
pub begun_is : (room : ℕ) (scope : List Binding) (t : StartTag) (prefix local : List ℕ) → t.prefix ≡ prefix → t.local ≡ local → t.declarations.items ≡ [] → t.attributes.items ≡ []
    → tag_as room scope t ≡ begun_tag room scope prefix local
begun_is room scope t prefix local p l d a = λ i. record { room = room; scope = scope; prefix = p i; local = l i; declarations = d i; attributes = a i }

pub element_read : (room : ℕ) (scope : List Binding) (first prefix local : List ℕ) (w : Made) (a b c d : Standing) → Ran (characters first) a b (read_document_token (run run_of.Name 0))
    → ((k : List ℕ → List ℕ → Phrase) (v : Made) (e : Standing) → Did v c e (k prefix local) → Did v b e (past_element_name first k)) → Did w c d (rule (inside (begun_tag room scope prefix local))) → Did w a d (rule (element room scope))
unfolding rules
element_read room scope first prefix local w a b c d h named k =
    did_rule (element room scope) w a d
    (did_on (run run_of.Name 0) _ (characters first) w a b d h (named (λ p l. rule (inside (begun_tag room scope p l))) w d k))
