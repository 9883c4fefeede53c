-- A printed type is a type text of its pieces.
use Rattle.std.proofs.Common.{◌≡◌, ℕ, zero, suc, ◌+◌, ◌≤◌, max, nat_le, Bool, true, false, List, [], ◌∷◌, ◌++◌, refl, sym, ap, subst, ◌∙◌, Option, None, Some, append_assoc, le-leb, arith}
use Rattle.std.specs.Prelude.{codes}
use Rattle.gx_types.specs.SchemaSet.{SchemaSet}
use Rattle.gx_types.specs.SequenceType.{SequenceType, never, nothing, item, both, either, optional, star, plus}
use Rattle.gx_types.specs.TypeRules.{positions_of}
use Rattle.gx_grammar.specs.Derivation.{of_empty, of_both, of_left, of_right, of_rule, of_made}
use Rattle.gx_grammar.specs.Gaps.{gap_ends, gap_white}
use Rattle.gx_grammar.specs.Grammar.{rule}
use Rattle.gx_grammar.specs.Value.{nothing as no_value, pair}
use Rattle.gx_typetext.specs.declared.context.Context.{Context}
use Rattle.gx_typetext.specs.declared.context.Context.TheVariants.{Whole, Sequence, Choice, Indicator}
use Rattle.gx_typetext.specs.declared.written.Indicator.{Indicator as Mark}
use Rattle.gx_typetext.specs.declared.written.Indicator.TheVariants as indicator
use Rattle.gx_typetext.specs.declared.written.Operand.TheVariants as operand_is
use Rattle.gx_typetext.specs.declared.written.Piece.{Piece}
use Rattle.gx_typetext.specs.declared.written.Piece.TheVariants as piece
use Rattle.gx_typetext.specs.Grammar.{operand, behind, nested, ending, separated, indicated, type_phrase}
use Rattle.gx_typetext.specs.ItemText.{item_text}
use Rattle.gx_base.specs.NameCharacters.{is_ncname_start, is_ncname_character}
use Rattle.gx_typetext.specs.NameText.{word}
use Rattle.gx_typetext.specs.Nodes.{pieces}
use Rattle.gx_typetext.specs.ReadBack.{IsKnownItem, AreKnownItems, one_if, nesting_in}
use Rattle.gx_typetext.specs.TypeText.{opening_parenthesis, closing_parenthesis, sequence_is_wrapped, choice_is_wrapped, indicated_is_wrapped, text_in, type_text}
use Rattle.gx_typetext.proofs.PrintedTokens.{D, IsGap, IsPlain, Begins, gap_read, symbol_gap}
use Rattle.gx_typetext.proofs.PrintedNames.{word_is as plain_word, no_gap}
use Rattle.gx_typetext.proofs.PrintedItems.{Behind, Due, due_at, opened_gap, written_item, item_due, empty_due, none_due}

-- what stands behind a unit with its indicator
record After (depth room : ℕ) (qs : List Piece) (y : List ℕ) : Type 0 where
  pub rest : List ℕ
  pub gap : IsGap y rest
  pub plain : IsPlain y
  pub derived : D (separated depth room) (pieces qs) rest []

unmarked : (depth room : ℕ) (qs : List Piece) (y : List ℕ) → After depth room qs y → Behind depth room qs y
unfolding indicated
unmarked depth room qs y a = record { rest = a.rest; gap = a.gap; plain = a.plain; derived = of_rule (of_right (of_right (of_right a.derived))) }

sign : Mark → ℕ
sign indicator.Optional = 63
sign indicator.Star = 42
sign indicator.Plus = 43

marked : (i : Mark) (depth room : ℕ) (qs : List Piece) (y : List ℕ) → After depth room qs y → Behind depth room (piece.Indicated i ∷ qs) (sign i ∷ y)
unfolding indicated sign is_ncname_start is_ncname_character
marked indicator.Optional depth room qs y a = record { rest = 63 ∷ y; gap = no_gap 63 y refl refl; plain = record { ended = refl; colon = refl }; derived = of_rule (of_left (of_made (of_both (symbol_gap (codes "?") y a.rest a.gap) a.derived))) }
marked indicator.Star depth room qs y a = record { rest = 42 ∷ y; gap = no_gap 42 y refl refl; plain = record { ended = refl; colon = refl }; derived = of_rule (of_right (of_left (of_made (of_both (symbol_gap (codes "*") y a.rest a.gap) a.derived)))) }
marked indicator.Plus depth room qs y a = record { rest = 43 ∷ y; gap = no_gap 43 y refl refl; plain = record { ended = refl; colon = refl }; derived = of_rule (of_right (of_right (of_left (of_made (of_both (symbol_gap (codes "+") y a.rest a.gap) a.derived))))) }

comma : (depth room : ℕ) (ps : List Piece) (x : List ℕ) → Due depth room ps x → After depth room (piece.Comma ∷ ps) (44 ∷ 32 ∷ x)
unfolding separated is_ncname_start is_ncname_character
comma depth room ps x d = record {
  rest = 44 ∷ 32 ∷ x;
  gap = no_gap 44 (32 ∷ x) refl refl;
  plain = record { ended = refl; colon = refl };
  derived = of_left (of_made (of_both (symbol_gap (codes ",") (32 ∷ x) x (gap_white refl (gap_ends d.begins.gap))) d.derived));
}

bar : (depth room : ℕ) (ps : List Piece) (x : List ℕ) → Due depth room ps x → After depth room (piece.Bar ∷ ps) (32 ∷ 124 ∷ 32 ∷ x)
unfolding separated is_ncname_start is_ncname_character
bar depth room ps x d = record {
  rest = 124 ∷ 32 ∷ x;
  gap = gap_white refl (no_gap 124 (32 ∷ x) refl refl);
  plain = record { ended = refl; colon = refl };
  derived = of_right (of_left (of_made (of_both (symbol_gap (codes "|") (32 ∷ x) x (gap_white refl (gap_ends d.begins.gap))) d.derived)));
}

closing : (depth room : ℕ) (qs : List Piece) (y : List ℕ) → Behind depth room qs y → After (suc depth) room (piece.Closing ∷ qs) (41 ∷ y)
unfolding separated ending is_ncname_start is_ncname_character
closing depth room qs y b = record {
  rest = 41 ∷ y;
  gap = no_gap 41 y refl refl;
  plain = record { ended = refl; colon = refl };
  derived = of_right (of_right (of_made (of_both (symbol_gap (codes ")") y b.rest b.gap) b.derived)));
}

at_end : (room : ℕ) → After 0 room [] []
unfolding separated ending
at_end room = record { rest = []; gap = gap_ends refl; plain = record { ended = refl; colon = refl }; derived = of_right (of_right (of_made of_empty)) }

opened : (may : Bool) (depth room : ℕ) (ps : List Piece) (x : List ℕ) → may ≡ true → Due (suc depth) room ps x → D (nested may depth room) (pieces (piece.Opening ∷ ps)) (40 ∷ x) []
unfolding nested
opened true depth room ps x e d = of_left (of_made (of_both (symbol_gap (codes "(") x x (gap_ends d.begins.gap)) d.derived))
opened false depth room ps x e d = absurd (cc e)

opening : (depth room : ℕ) (ps : List Piece) (x : List ℕ) → suc depth ≤ 40 → Due (suc depth) room ps x → Due depth room (piece.Opening ∷ ps) (40 ∷ x)
opening depth room ps x h d = record { begins = record { gap = opened_gap x d.begins.colon; colon = refl }; derived = of_rule (opened (nat_le (suc depth) 40) depth room ps x (le-leb (suc depth) 40 h) d) }

-- the pieces of a type

abbrev pub wrapped_pieces : Bool → List Piece → List Piece
wrapped_pieces true ps = piece.Opening ∷ (ps ++ piece.Closing ∷ [])
wrapped_pieces false ps = ps

abbrev pub pieces_in : Context → SequenceType → List Piece
pieces_in context never = piece.Operand operand_is.Never ∷ []
pieces_in context nothing = piece.Operand operand_is.Empty ∷ []
pieces_in context (item kind) = piece.Operand (operand_is.Item (written_item kind)) ∷ []
pieces_in context (both a b) = wrapped_pieces (sequence_is_wrapped context) (pieces_in Sequence a ++ piece.Comma ∷ pieces_in Sequence b)
pieces_in context (either a b) = wrapped_pieces (choice_is_wrapped context) (pieces_in Choice a ++ piece.Bar ∷ pieces_in Choice b)
pieces_in context (optional a) = wrapped_pieces (indicated_is_wrapped context) (pieces_in Indicator a ++ piece.Indicated indicator.Optional ∷ [])
pieces_in context (star a) = wrapped_pieces (indicated_is_wrapped context) (pieces_in Indicator a ++ piece.Indicated indicator.Star ∷ [])
pieces_in context (plus a) = wrapped_pieces (indicated_is_wrapped context) (pieces_in Indicator a ++ piece.Indicated indicator.Plus ∷ [])

-- its text, as it stands in front of another one

abbrev wrapped_text : Bool → (t y : List ℕ) → List ℕ
wrapped_text true t y = 40 ∷ (t ++ 41 ∷ y)
wrapped_text false t y = t ++ y

four : (a p b q y : List ℕ) → (((a ++ p) ++ b) ++ q) ++ y ≡ (a ++ (p ++ b)) ++ (q ++ y)
four a p b q y = append_assoc ((a ++ p) ++ b) q y ∙ ap (λ z. z ++ (q ++ y)) (append_assoc a p b)

two_text : (wrapped : Bool) (s a b y : List ℕ) → (((opening_parenthesis wrapped ++ a) ++ s ++ b) ++ closing_parenthesis wrapped) ++ y ≡ wrapped_text wrapped (a ++ (s ++ b)) y
two_text true s a b y = rw (plain_word (codes "(") refl, plain_word (codes ")") refl) (ap (λ z. 40 ∷ z) (four a s b (41 ∷ []) y))
two_text false s a b y = four a s b [] y

one_text : (wrapped : Bool) (s a y : List ℕ) → (((opening_parenthesis wrapped ++ a) ++ s) ++ closing_parenthesis wrapped) ++ y ≡ wrapped_text wrapped (a ++ s) y
one_text true s a y = rw (plain_word (codes "(") refl, plain_word (codes ")") refl) (ap (λ z. 40 ∷ z) (append_assoc (a ++ s) (41 ∷ []) y))
one_text false s a y = append_assoc (a ++ s) [] y

-- what stands behind it, by where it stands

abbrev Follows : Bool → (depth room : ℕ) → List Piece → List ℕ → Type 0
Follows true depth room qs y = Behind depth room qs y
Follows false depth room qs y = After depth room qs y

abbrev Next : Context → (depth room : ℕ) → List Piece → List ℕ → Type 0
Next Whole depth room qs y = After depth room qs y
Next Sequence depth room qs y = After depth room qs y
Next Choice depth room qs y = After depth room qs y
Next Indicator depth room qs y = Behind depth room qs y

next_behind : (c : Context) (depth room : ℕ) (qs : List Piece) (y : List ℕ) → Next c depth room qs y → Behind depth room qs y
next_behind Whole depth room qs y n = unmarked depth room qs y n
next_behind Sequence depth room qs y n = unmarked depth room qs y n
next_behind Choice depth room qs y n = unmarked depth room qs y n
next_behind Indicator depth room qs y n = n

next_sequence : (c : Context) (depth room : ℕ) (qs : List Piece) (y : List ℕ) → Next c depth room qs y → Follows (sequence_is_wrapped c) depth room qs y
next_sequence Whole depth room qs y n = n
next_sequence Sequence depth room qs y n = n
next_sequence Choice depth room qs y n = unmarked depth room qs y n
next_sequence Indicator depth room qs y n = n

next_choice : (c : Context) (depth room : ℕ) (qs : List Piece) (y : List ℕ) → Next c depth room qs y → Follows (choice_is_wrapped c) depth room qs y
next_choice Whole depth room qs y n = n
next_choice Sequence depth room qs y n = unmarked depth room qs y n
next_choice Choice depth room qs y n = n
next_choice Indicator depth room qs y n = n

next_indicated : (c : Context) (depth room : ℕ) (qs : List Piece) (y : List ℕ) → Next c depth room qs y → Follows (indicated_is_wrapped c) depth room qs y
next_indicated Whole depth room qs y n = n
next_indicated Sequence depth room qs y n = n
next_indicated Choice depth room qs y n = n
next_indicated Indicator depth room qs y n = n

-- in parentheses or not
wrapped_due : (wrapped : Bool) (depth room start n : ℕ) (ps : List Piece) (t : List ℕ) (qs : List Piece) (y : List ℕ)
    → ((d : ℕ) (qs2 : List Piece) (y2 : List ℕ) → d + n ≤ 40 → After d room qs2 y2 → Due d start (ps ++ qs2) (t ++ y2))
    → depth + (one_if wrapped + n) ≤ 40 → Follows wrapped depth room qs y → Due depth start (wrapped_pieces wrapped ps ++ qs) (wrapped_text wrapped t y)
wrapped_due true depth room start n ps t qs y inner h b =
    let d = inner (suc depth) (piece.Closing ∷ qs) (41 ∷ y) (omega (arith, h)) (closing depth room qs y b) in
    subst (λ zs. Due depth start (piece.Opening ∷ zs) (40 ∷ (t ++ 41 ∷ y))) (sym (append_assoc ps (piece.Closing ∷ []) qs))
    (opening depth start (ps ++ piece.Closing ∷ qs) (t ++ 41 ∷ y) (omega (arith, h)) d)
wrapped_due false depth room start n ps t qs y inner h a = inner depth qs y (omega (arith, h)) a

abbrev IsPrinted : SchemaSet → SequenceType → Type 0
IsPrinted s t =
    (c : Context) → AreKnownItems s t → (depth room start : ℕ) → start ≡ positions_of t + room → depth + nesting_in c t ≤ 40 → (qs : List Piece) (y : List ℕ) → Next c depth room qs y
    → Due depth start (pieces_in c t ++ qs) (text_in c t ++ y)

comma_word : (b : List ℕ) → word (codes ", ") ++ b ≡ 44 ∷ 32 ∷ b
comma_word b = ap (λ w. w ++ b) (plain_word (codes ", ") refl)

bar_word : (b : List ℕ) → word (codes " | ") ++ b ≡ 32 ∷ 124 ∷ 32 ∷ b
bar_word b = ap (λ w. w ++ b) (plain_word (codes " | ") refl)

module _ (s : SchemaSet) where
  both_printed : (a b : SequenceType) → IsPrinted s a → IsPrinted s b → IsPrinted s (both a b)
  both_printed a b f g c k depth room start e h qs y n =
      let pa = pieces_in Sequence a in
      let pb = pieces_in Sequence b in
      let ta = text_in Sequence a in
      let tb = text_in Sequence b in
      let same : text_in c (both a b) ++ y ≡ wrapped_text (sequence_is_wrapped c) (ta ++ (44 ∷ 32 ∷ tb)) y =
      two_text (sequence_is_wrapped c) (word (codes ", ")) ta tb y ∙ ap (λ z. wrapped_text (sequence_is_wrapped c) (ta ++ z) y) (comma_word tb) in
      due_at depth start (pieces_in c (both a b) ++ qs) (text_in c (both a b) ++ y) (wrapped_text (sequence_is_wrapped c) (ta ++ (44 ∷ 32 ∷ tb)) y) same
      (wrapped_due (sequence_is_wrapped c) depth room start (max (nesting_in Sequence a) (nesting_in Sequence b)) (pa ++ piece.Comma ∷ pb) (ta ++ (44 ∷ 32 ∷ tb)) qs y
      (λ d qs2 y2 fits after.
      let second = g Sequence k.1 d room (positions_of b + room) refl (omega (arith, fits)) qs2 y2 after in
      let first = f Sequence k.0 d (positions_of b + room) start (omega (arith, e)) (omega (arith, fits)) (piece.Comma ∷ (pb ++ qs2)) (44 ∷ 32 ∷ (tb ++ y2)) (comma d (positions_of b + room) (pb ++ qs2) (tb ++ y2) second) in
      subst (λ zs. Due d start zs ((ta ++ (44 ∷ 32 ∷ tb)) ++ y2)) (sym (append_assoc pa (piece.Comma ∷ pb) qs2))
      (due_at d start (pa ++ piece.Comma ∷ (pb ++ qs2)) ((ta ++ (44 ∷ 32 ∷ tb)) ++ y2) (ta ++ 44 ∷ 32 ∷ (tb ++ y2)) (append_assoc ta (44 ∷ 32 ∷ tb) y2) first))
      h (next_sequence c depth room qs y n))

  either_printed : (a b : SequenceType) → IsPrinted s a → IsPrinted s b → IsPrinted s (either a b)
  either_printed a b f g c k depth room start e h qs y n =
      let pa = pieces_in Choice a in
      let pb = pieces_in Choice b in
      let ta = text_in Choice a in
      let tb = text_in Choice b in
      let same : text_in c (either a b) ++ y ≡ wrapped_text (choice_is_wrapped c) (ta ++ (32 ∷ 124 ∷ 32 ∷ tb)) y =
      two_text (choice_is_wrapped c) (word (codes " | ")) ta tb y ∙ ap (λ z. wrapped_text (choice_is_wrapped c) (ta ++ z) y) (bar_word tb) in
      due_at depth start (pieces_in c (either a b) ++ qs) (text_in c (either a b) ++ y) (wrapped_text (choice_is_wrapped c) (ta ++ (32 ∷ 124 ∷ 32 ∷ tb)) y) same
      (wrapped_due (choice_is_wrapped c) depth room start (max (nesting_in Choice a) (nesting_in Choice b)) (pa ++ piece.Bar ∷ pb) (ta ++ (32 ∷ 124 ∷ 32 ∷ tb)) qs y
      (λ d qs2 y2 fits after.
      let second = g Choice k.1 d room (positions_of b + room) refl (omega (arith, fits)) qs2 y2 after in
      let first = f Choice k.0 d (positions_of b + room) start (omega (arith, e)) (omega (arith, fits)) (piece.Bar ∷ (pb ++ qs2)) (32 ∷ 124 ∷ 32 ∷ (tb ++ y2)) (bar d (positions_of b + room) (pb ++ qs2) (tb ++ y2) second) in
      subst (λ zs. Due d start zs ((ta ++ (32 ∷ 124 ∷ 32 ∷ tb)) ++ y2)) (sym (append_assoc pa (piece.Bar ∷ pb) qs2))
      (due_at d start (pa ++ piece.Bar ∷ (pb ++ qs2)) ((ta ++ (32 ∷ 124 ∷ 32 ∷ tb)) ++ y2) (ta ++ 32 ∷ 124 ∷ 32 ∷ (tb ++ y2)) (append_assoc ta (32 ∷ 124 ∷ 32 ∷ tb) y2) first))
      h (next_choice c depth room qs y n))

  mark_printed : (i : Mark) (w : List ℕ) → w ≡ sign i ∷ [] → (a : SequenceType) → IsPrinted s a → (c : Context) → AreKnownItems s a → (depth room start : ℕ) → start ≡ positions_of a + room
      → depth + (one_if (indicated_is_wrapped c) + nesting_in Indicator a) ≤ 40 → (qs : List Piece) (y : List ℕ) → Next c depth room qs y
      → Due depth start (wrapped_pieces (indicated_is_wrapped c) (pieces_in Indicator a ++ piece.Indicated i ∷ []) ++ qs)
      ((((opening_parenthesis (indicated_is_wrapped c) ++ text_in Indicator a) ++ w) ++ closing_parenthesis (indicated_is_wrapped c)) ++ y)
  mark_printed i w is a f c k depth room start e h qs y n =
      let pa = pieces_in Indicator a in
      let ta = text_in Indicator a in
      let ps = wrapped_pieces (indicated_is_wrapped c) (pa ++ piece.Indicated i ∷ []) ++ qs in
      let x = (((opening_parenthesis (indicated_is_wrapped c) ++ ta) ++ w) ++ closing_parenthesis (indicated_is_wrapped c)) ++ y in
      let same : x ≡ wrapped_text (indicated_is_wrapped c) (ta ++ sign i ∷ []) y =
      one_text (indicated_is_wrapped c) w ta y ∙ ap (λ z. wrapped_text (indicated_is_wrapped c) (ta ++ z) y) is in
      due_at depth start ps x (wrapped_text (indicated_is_wrapped c) (ta ++ sign i ∷ []) y) same
      (wrapped_due (indicated_is_wrapped c) depth room start (nesting_in Indicator a) (pa ++ piece.Indicated i ∷ []) (ta ++ sign i ∷ []) qs y
      (λ d qs2 y2 fits after.
      let first = f Indicator k d room start e (omega (arith, fits)) (piece.Indicated i ∷ qs2) (sign i ∷ y2) (marked i d room qs2 y2 after) in
      subst (λ zs. Due d start zs ((ta ++ sign i ∷ []) ++ y2)) (sym (append_assoc pa (piece.Indicated i ∷ []) qs2))
      (due_at d start (pa ++ piece.Indicated i ∷ qs2) ((ta ++ sign i ∷ []) ++ y2) (ta ++ sign i ∷ y2) (append_assoc ta (sign i ∷ []) y2) first))
      h (next_indicated c depth room qs y n))

  printed : (t : SequenceType) → IsPrinted s t
  unfolding sign
  printed never c k depth room start e h qs y n =
      let same : start ≡ room = omega (arith, e) in subst (λ r. Due depth r (piece.Operand operand_is.Never ∷ qs) (word (codes "none") ++ y)) (sym same) (none_due depth room qs y (next_behind c depth room qs y n))
  printed nothing c k depth room start e h qs y n =
      let same : start ≡ room = omega (arith, e) in subst (λ r. Due depth r (piece.Operand operand_is.Empty ∷ qs) (word (codes "empty-sequence()") ++ y)) (sym same) (empty_due depth room qs y (next_behind c depth room qs y n))
  printed (item kind) c k depth room start e h qs y n =
      let same : start ≡ suc room = omega (arith, e) in
      subst (λ r. Due depth r (piece.Operand (operand_is.Item (written_item kind)) ∷ qs) (item_text kind ++ y)) (sym same) (item_due s depth room qs y (next_behind c depth room qs y n) kind k)
  printed (both a b) c k depth room start e h qs y n = both_printed a b (printed a) (printed b) c k depth room start e h qs y n
  printed (either a b) c k depth room start e h qs y n = either_printed a b (printed a) (printed b) c k depth room start e h qs y n
  printed (optional a) c k depth room start e h qs y n = mark_printed indicator.Optional (word (codes "?")) (plain_word (codes "?") refl) a (printed a) c k depth room start e h qs y n
  printed (star a) c k depth room start e h qs y n = mark_printed indicator.Star (word (codes "*")) (plain_word (codes "*") refl) a (printed a) c k depth room start e h qs y n
  printed (plus a) c k depth room start e h qs y n = mark_printed indicator.Plus (word (codes "+")) (plain_word (codes "+") refl) a (printed a) c k depth room start e h qs y n

  pub printed_derived : (t : SequenceType) → AreKnownItems s t → positions_of t ≤ 1024 → nesting_in Whole t ≤ 40 → D type_phrase (pair no_value (pieces (pieces_in Whole t))) (type_text t) []
  printed_derived t k short flat =
      let room : ℕ = Rattle.std.proofs.Common.◌-◌ 1024 (positions_of t) in
      let d = printed t Whole k 0 room 1024 (omega (arith, short)) (omega (arith, flat)) [] [] (at_end room) in
      let e : pieces_in Whole t ++ [] ≡ pieces_in Whole t = Rattle.std.proofs.Common.append-nil (pieces_in Whole t) in
      let f : type_text t ++ [] ≡ type_text t = Rattle.std.proofs.Common.append-nil (type_text t) in
      let g = subst (λ ps. Due 0 1024 ps (type_text t)) e (subst (λ x. Due 0 1024 (pieces_in Whole t ++ []) x) f d) in
      of_both (gap_read (type_text t) (type_text t) (gap_ends g.begins.gap)) g.derived
