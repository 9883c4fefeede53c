-- What the writing of fields comes to.
use Rattle.std.proofs.Common.{◌≡◌, ℕ, Bool, true, false, List, [], ◌∷◌, ◌++◌, refl, sym, ◌∙◌, ap, append_assoc}
use Rattle.std.specs.Prelude.{codes}
use Rattle.std.proofs.lemmas.List.{append-nil}
use Rattle.gx_typetext.specs.NameText.{word}
use Rattle.gx_plantext.specs.declared.terms.Terms.{Terms}
use Rattle.gx_plantext.specs.declared.pending.Pending.{Pending}
use Rattle.gx_plantext.specs.declared.pending.Pending.TheVariants.{Close}
use Rattle.gx_plantext.specs.TermText.{Fields, comma_before, fields_text, term_text}
use Rattle.gx_plantext.specs.Printing.{AddsFields, OpensTerm, ClosesTerm, PutsFields, is_first_behind, fields_here, text_behind, printed_terms, printed_with}

-- one field
pub one_field : (before begun after : Terms) (field : List ℕ) → begun.text ≡ before.text ++ comma_before before.is_first → begun.is_first ≡ false
    → after.text ≡ begun.text ++ field → after.is_first ≡ begun.is_first → AddsFields before (field ∷ []) after
one_field before begun after field began first added kept = record {
  text = added ∙ ap (λ t. t ++ field) began ∙ append_assoc before.text (comma_before before.is_first) field
      ∙ ap (λ f. before.text ++ (comma_before before.is_first ++ f)) (sym (append-nil field));
  is_first = kept ∙ first;
}

-- no field
pub nothing_added : (terms : Terms) → AddsFields terms [] terms
nothing_added terms = record { text = sym (append-nil terms.text); is_first = refl }

-- behind fields no field is the first one
behind_another : (fields : Fields) → is_first_behind false fields ≡ false
behind_another [] = refl
behind_another (field ∷ fields) = refl

behind_both : (is_first : Bool) (fields others : Fields)
    → is_first_behind (is_first_behind is_first fields) others ≡ is_first_behind is_first (fields ++ others)
behind_both is_first [] others = refl
behind_both is_first (field ∷ fields) others = behind_another others

-- the text of fields and others behind them
text_of_both : (is_first : Bool) (fields others : Fields)
    → fields_text is_first fields ++ fields_text (is_first_behind is_first fields) others ≡ fields_text is_first (fields ++ others)
text_of_both is_first [] others = refl
text_of_both is_first (field ∷ fields) others =
    let rest : fields_text false fields ++ fields_text false others ≡ fields_text false (fields ++ others) =
    ap (λ (b : Bool). fields_text false fields ++ fields_text b others) (sym (behind_another fields)) ∙ text_of_both false fields others in
    append_assoc (comma_before is_first) (field ++ fields_text false fields) (fields_text false others)
    ∙ ap (λ t. comma_before is_first ++ t) (append_assoc field (fields_text false fields) (fields_text false others) ∙ ap (λ t. field ++ t) rest)

-- fields are added, and then others
pub both_added : (before between after : Terms) (fields others : Fields)
    → AddsFields before fields between → AddsFields between others after → AddsFields before (fields ++ others) after
both_added before between after fields others first second = record {
  text =
      second.text ∙ ap (λ t. t ++ fields_text between.is_first others) first.text
      ∙ append_assoc before.text (fields_text before.is_first fields) (fields_text between.is_first others)
      ∙ ap (λ (b : Bool). before.text ++ (fields_text before.is_first fields ++ fields_text b others)) first.is_first
      ∙ ap (λ t. before.text ++ t) (text_of_both before.is_first fields others);
  is_first = second.is_first ∙ ap (λ (b : Bool). is_first_behind b others) first.is_first ∙ behind_both before.is_first fields others;
}

pub field_and : (before between after : Terms) (field : List ℕ) (others : Fields)
    → AddsFields before (field ∷ []) between → AddsFields between others after → AddsFields before (field ∷ others) after
field_and before between after field others first second = both_added before between after (field ∷ []) others first second

-- the text with those that are left, when one of them is added; and what comes then
pub text_left : (before after : Terms) (field : List ℕ) (left : Fields)
    → AddsFields before (field ∷ []) after → after.text ++ fields_text after.is_first left ≡ before.text ++ fields_text before.is_first (field ∷ left)
text_left before after field left h =
    ap (λ t. t ++ fields_text after.is_first left) h.text
    ∙ append_assoc before.text (fields_text before.is_first (field ∷ [])) (fields_text after.is_first left)
    ∙ ap (λ (b : Bool). before.text ++ (fields_text before.is_first (field ∷ []) ++ fields_text b left)) h.is_first
    ∙ ap (λ t. before.text ++ t) (text_of_both before.is_first (field ∷ []) left)

pub first_left : (before after : Terms) (field : List ℕ) (left : Fields)
    → AddsFields before (field ∷ []) after → is_first_behind after.is_first left ≡ is_first_behind before.is_first (field ∷ left)
first_left before after field left h = ap (λ (b : Bool). is_first_behind b left) h.is_first ∙ behind_another left

-- what was to be written is written
pub fields_added : (before after : Terms) (fields : Fields) (pending : List Pending)
    → AddsFields before fields after → printed_terms after pending ≡ printed_with before fields pending
fields_added before after fields pending h =
    let here = fields_here pending in
    let behind = text_behind pending in
    ap (λ t. t ++ (fields_text after.is_first here ++ behind)) h.text
    ∙ append_assoc before.text (fields_text before.is_first fields) (fields_text after.is_first here ++ behind)
    ∙ ap (λ t. before.text ++ t)
    (sym (append_assoc (fields_text before.is_first fields) (fields_text after.is_first here) behind)
    ∙ ap (λ t. t ++ behind)
    (ap (λ (b : Bool). fields_text before.is_first fields ++ fields_text b here) h.is_first ∙ text_of_both before.is_first fields here))

-- ---- fields that are put to the work

pub nothing_put : (pending : List Pending) → PutsFields pending [] pending
nothing_put pending = record { here = refl; behind = refl }

pub both_put : (before between after : List Pending) (fields others : Fields)
    → PutsFields before others between → PutsFields between fields after → PutsFields before (fields ++ others) after
both_put before between after fields others first second = record {
  here = second.here ∙ ap (λ fs. fields ++ fs) first.here ∙ sym (append_assoc fields others (fields_here before));
  behind = second.behind ∙ first.behind;
}

pub same_put : (before after : List Pending) (fields others : Fields) → fields ≡ others → PutsFields before fields after → PutsFields before others after
same_put before after fields others same h = record {
  here = h.here ∙ ap (λ fs. fs ++ fields_here before) same;
  behind = h.behind;
}

-- they are to be written before what is pending
pub fields_put : (terms : Terms) (before after : List Pending) (fields : Fields)
    → PutsFields before fields after → printed_terms terms after ≡ printed_with terms fields before
fields_put terms before after fields h =
    ap (λ fs. terms.text ++ (fields_text terms.is_first fs ++ text_behind after)) h.here
    ∙ ap (λ t. terms.text ++ (fields_text terms.is_first (fields ++ fields_here before) ++ t)) h.behind

-- other fields before those that are put
pub put_behind : (terms : Terms) (before after : List Pending) (fields others : Fields)
    → PutsFields before others after → printed_with terms fields after ≡ printed_with terms (fields ++ others) before
put_behind terms before after fields others h =
    ap (λ fs. terms.text ++ (fields_text terms.is_first (fields ++ fs) ++ text_behind after)) h.here
    ∙ ap (λ t. terms.text ++ (fields_text terms.is_first (fields ++ (others ++ fields_here before)) ++ t)) h.behind
    ∙ ap (λ fs. terms.text ++ (fields_text terms.is_first fs ++ text_behind before)) (sym (append_assoc fields others (fields_here before)))

-- ---- terms

regrouped : (text comma name opening fields closing others behind : List ℕ)
    → (text ++ (comma ++ (name ++ opening))) ++ (fields ++ (closing ++ (others ++ behind)))
    ≡ text ++ ((comma ++ ((name ++ (opening ++ (fields ++ closing))) ++ others)) ++ behind)
regrouped text comma name opening fields closing others behind = simp append_assoc

-- a term is begun, some of its fields are written, and the others are put to the work
pub term_begun : (before opened added : Terms) (pending after : List Pending) (name : List ℕ) (fields others : Fields)
    → OpensTerm before name opened → AddsFields opened fields added → PutsFields (Close ∷ pending) others after
    → printed_terms added after ≡ printed_with before (term_text name (fields ++ others) ∷ []) pending
term_begun before opened added pending after name fields others opens adds puts =
    let inside = fields ++ others in
    fields_added opened added fields after adds
    ∙ put_behind opened (Close ∷ pending) after fields others puts
    ∙ ap (λ fs. opened.text ++ (fields_text opened.is_first fs ++ text_behind (Close ∷ pending))) (append-nil inside)
    ∙ ap (λ (b : Bool). opened.text ++ (fields_text b inside ++ text_behind (Close ∷ pending))) opens.is_first
    ∙ ap (λ t. t ++ (fields_text true inside ++ text_behind (Close ∷ pending))) opens.text
    ∙ regrouped before.text (comma_before before.is_first) (word name) (word (codes "(")) (fields_text true inside) (word (codes ")"))
    (fields_text false (fields_here pending)) (text_behind pending)

-- a term is ended
pub term_ended : (before after : Terms) (pending : List Pending) → ClosesTerm before after → printed_terms after pending ≡ printed_terms before (Close ∷ pending)
term_ended before after pending h =
    ap (λ t. t ++ (fields_text after.is_first (fields_here pending) ++ text_behind pending)) h.text
    ∙ ap (λ (b : Bool). (before.text ++ word (codes ")")) ++ (fields_text b (fields_here pending) ++ text_behind pending)) h.is_first
    ∙ append_assoc before.text (word (codes ")")) (fields_text false (fields_here pending) ++ text_behind pending)

declared_text : (text name opening fields others closing : List ℕ)
    → (((text ++ (name ++ opening)) ++ fields) ++ others) ++ closing ≡ text ++ (name ++ (opening ++ ((fields ++ others) ++ closing)))
declared_text text name opening fields others closing = simp append_assoc

inside_term : (text name opening fields closing behind : List ℕ)
    → text ++ (name ++ (opening ++ (fields ++ (closing ++ behind)))) ≡ text ++ ((name ++ (opening ++ (fields ++ closing))) ++ behind)
inside_term text name opening fields closing behind = simp append_assoc

-- a term is written as a whole, with some of its fields and others, and something behind it
pub term_declared : (before opened added : Terms) (name closing : List ℕ) (fields others : Fields) (text : List ℕ)
    → before.is_first ≡ true → OpensTerm before name opened → AddsFields opened fields added
    → text ≡ added.text ++ fields_text added.is_first others
    → text ++ (word (codes ")") ++ closing) ≡ before.text ++ (term_text name (fields ++ others) ++ closing)
term_declared before opened added name closing fields others text first opens adds rest =
    let end = word (codes ")") ++ closing in
    let begun : opened.text ≡ before.text ++ (word name ++ word (codes "(")) =
    opens.text ∙ ap (λ (b : Bool). before.text ++ (comma_before b ++ (word name ++ word (codes "(")))) first in
    let both : fields_text opened.is_first fields ++ fields_text added.is_first others ≡ fields_text true (fields ++ others) =
    ap (λ (b : Bool). fields_text opened.is_first fields ++ fields_text b others) adds.is_first
    ∙ text_of_both opened.is_first fields others
    ∙ ap (λ (b : Bool). fields_text b (fields ++ others)) opens.is_first in
    ap (λ t. t ++ end) rest
    ∙ ap (λ t. (t ++ fields_text added.is_first others) ++ end) (adds.text ∙ ap (λ t. t ++ fields_text opened.is_first fields) begun)
    ∙ declared_text before.text (word name) (word (codes "(")) (fields_text opened.is_first fields) (fields_text added.is_first others) end
    ∙ ap (λ t. before.text ++ (word name ++ (word (codes "(") ++ (t ++ end)))) both
    ∙ inside_term before.text (word name) (word (codes "(")) (fields_text true (fields ++ others)) (word (codes ")")) closing
