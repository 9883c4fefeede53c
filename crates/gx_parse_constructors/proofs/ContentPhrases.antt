-- What the content of direct elements comes to, where parts are made of its pieces as they are read.
use Rattle.std.proofs.Common.{◌≡◌, ◌⊎◌, ℕ, suc, nat_eq, Bool, true, false, List, [], ◌∷◌, ◌++◌, length, inl, inr, refl, sym, ap, subst, ◌∙◌, append_assoc, append-nil}
use Rattle.std.proofs.Math.Dec.{T}
use Rattle.std.proofs.Math.Facts.{eqb_yes}
use Rattle.std.proofs.lemmas.List.{nil_from_length}
use Rattle.gx_ast.specs.SyntaxView.{parts_of}
use Rattle.gx_ast.specs.declared.expression.Part.{Part}
use Rattle.gx_ast.specs.declared.expression.Part.TheVariants as part
use Rattle.gx_grammar.specs.Grammar.{rule}
use Rattle.gx_grammar.specs.Value.{node, no_item}
use Rattle.gx_grammar.specs.Ran.{Standing, Going, GaveUp, Lost, Ran, Looked, Loses, IsDone, left_of}
use Rattle.gx_parse_grammar.specs.declared.pieces.Piece.{Piece}
use Rattle.gx_parse_grammar.specs.declared.pieces.Piece.TheVariants.{Literal, Kept, Element, Enclosed}
use Rattle.gx_parse_grammar.specs.declared.pieces.Pending.{Pending}
use Rattle.gx_parse_grammar.specs.declared.pieces.Pending.TheVariants as pending
use Rattle.gx_parse_grammar.specs.Basics.{Phrase, nested, within, at_tokens}
use Rattle.gx_parse_grammar.specs.Direct.{content, content_piece, content_pieces, content_pieces_of, piece_made, start_of}
use Rattle.gx_parse_grammar.specs.Nodes.{Made, PartsAre}
use Rattle.gx_parse_grammar.specs.Pieces.{content_behind, content_from, content_of_pieces, pending_parts}
use Rattle.gx_parse_tokens.specs.Reading.{read_in}
use Rattle.gx_parse_constructors.specs.DirectReading.{MadeOrLost, OnePiece, StandsFor, ends_text}
use Rattle.gx_parse_parts.specs.Lists.{Grown}
use Rattle.gx_parse_parts.specs.Repeated.{listed_before}
use Rattle.gx_parse_parts.proofs.Chains.{ran_any}
use Rattle.gx_parse_constructors.proofs.DirectPhrases.{content_read, contents_are}
use Rattle.gx_parse_parts.proofs.Phrases.{loses_done, stays_done}
use Rattle.gx_parse_parts.proofs.Repeated.{Begun, all_listed, many_begin, many_end, many_full, many_more}
use Rattle.gx_parse_constructors.proofs.StringsPhrases.{ran_lost}
use Rattle.gx_parse_parts.proofs.Lists.{one_grown}

-- the parts of content, part by part

behind_front : (front : List Part) (c : List Part × Pending) (p : Piece) → content_behind (front ++ c.0, c.1) p ≡ (front ++ (content_behind c p).0, (content_behind c p).1)
behind_front front c (Literal cs) = refl
behind_front front c (Kept cs) = refl
behind_front front c (Element t) = ap (λ us. (us, pending.Nothing)) (ap (λ us. us ++ part.Element t ∷ []) (append_assoc front c.0 (pending_parts c.1)) ∙ append_assoc front (c.0 ++ pending_parts c.1) (part.Element t ∷ []))
behind_front front c (Enclosed t) = ap (λ us. (us, pending.Nothing)) (ap (λ us. us ++ part.Enclosed t ∷ []) (append_assoc front c.0 (pending_parts c.1)) ∙ append_assoc front (c.0 ++ pending_parts c.1) (part.Enclosed t ∷ []))

from_front : (front : List Part) (c : List Part × Pending) (ps : List Piece) → content_from (front ++ c.0, c.1) ps ≡ (front ++ (content_from c ps).0, (content_from c ps).1)
from_front front c [] = refl
from_front front c (p ∷ ps) = ap (λ d. content_from d ps) (behind_front front c p) ∙ from_front front (content_behind c p) ps

from_join : (c : List Part × Pending) (ps qs : List Piece) → content_from c (ps ++ qs) ≡ content_from (content_from c ps) qs
from_join c [] qs = refl
from_join c (p ∷ ps) qs = from_join (content_behind c p) ps qs

-- Behind a piece that ends text no text waits.
behind_end : (c : List Part × Pending) (p : Piece) → ends_text p ≡ true → (content_behind c p).1 ≡ pending.Nothing
behind_end c (Literal cs) e = (cc)
behind_end c (Kept cs) e = (cc)
behind_end c (Element t) e = refl
behind_end c (Enclosed t) e = refl

from_end : (c : List Part × Pending) (ps : List Piece) (p : Piece) → ends_text p ≡ true → (content_from c (ps ++ p ∷ [])).1 ≡ pending.Nothing
from_end c [] p e = behind_end c p e
from_end c (q ∷ ps) p e = from_end (content_behind c q) ps p e

abbrev whole : List Part × Pending → List Part
whole c = c.0 ++ pending_parts c.1

whole_front : (d : List Part × Pending) (qs : List Piece) → d.1 ≡ pending.Nothing → whole (content_from d qs) ≡ whole d ++ whole (content_from ([], pending.Nothing) qs)
whole_front d qs e =
    let c : List Part × Pending = content_from ([], pending.Nothing) qs in
    let same : d ≡ (d.0 ++ [], pending.Nothing) = ap (λ x. (d.0, x)) e ∙ ap (λ us. (us, pending.Nothing)) (sym (append-nil d.0)) in
    let front : content_from (d.0 ++ [], pending.Nothing) qs ≡ (d.0 ++ c.0, c.1) = from_front d.0 ([], pending.Nothing) qs in
    let ended : whole d ≡ d.0 = ap (λ x. d.0 ++ pending_parts x) e ∙ append-nil d.0 in
    ap (λ x. whole (content_from x qs)) same ∙ ap whole front ∙ append_assoc d.0 c.0 (pending_parts c.1) ∙ ap (λ us. us ++ whole c) (sym ended)

-- The content of what stands in front of the end of text stands by itself.
content_split : (ps : List Piece) (p : Piece) (qs : List Piece) → ends_text p ≡ true → content_of_pieces ((ps ++ p ∷ []) ++ qs) ≡ content_of_pieces (ps ++ p ∷ []) ++ content_of_pieces qs
unfolding content_of_pieces
content_split ps p qs e =
    ap whole (from_join ([], pending.Nothing) (ps ++ p ∷ []) qs) ∙ whole_front (content_from ([], pending.Nothing) (ps ++ p ∷ [])) qs (from_end ([], pending.Nothing) ps p e)

piece_behind : (ps : List Piece) (p : Piece) (qs : List Piece) → content_of_pieces ((ps ++ p ∷ []) ++ qs) ≡ content_of_pieces (ps ++ p ∷ qs)
piece_behind ps p qs = ap content_of_pieces (append_assoc ps (p ∷ []) qs)

piece_waits : (parts : List Part) (pieces all : List Piece) (p : Piece) → StandsFor (parts, pieces) all → StandsFor (parts, pieces ++ p ∷ []) (all ++ p ∷ [])
piece_waits parts pieces all p h others = ap (λ us. parts ++ us) (piece_behind pieces p others) ∙ h (p ∷ others) ∙ sym (piece_behind all p others)

piece_ends : (parts : List Part) (pieces all : List Piece) (p : Piece) → ends_text p ≡ true → StandsFor (parts, pieces) all → StandsFor (parts ++ content_of_pieces (pieces ++ p ∷ []), []) (all ++ p ∷ [])
piece_ends parts pieces all p e h others =
    append_assoc parts (content_of_pieces (pieces ++ p ∷ [])) (content_of_pieces others) ∙ ap (λ us. parts ++ us) (sym (content_split pieces p others e)) ∙ piece_waits parts pieces all p h others

pub one_waits : (parts : List Part) (pieces grown : List Piece) (p : Piece) (a b : Standing) → Grown pieces p grown a b → OnePiece (parts, pieces) p (parts, grown) a b
one_waits parts pieces grown p a b (inl g) = inl ((λ all h. subst (λ us. StandsFor (parts, us) (all ++ p ∷ [])) (sym g.0) (piece_waits parts pieces all p h)), g.1)
one_waits parts pieces grown p a b (inr g) = inr g.1

-- no part is there
pub no_parts : (parts : List Part) (n : ℕ) (b : Bool) → length parts ≡ n → b ≡ nat_eq n 0 → b ≡ true → parts ≡ []
no_parts parts n b e f g = nil_from_length parts (e ∙ eqb_yes (subst (λ (x : Bool). T x) (sym g ∙ f) tt))

loses_same : (a b c : Standing) → Loses a b → Loses b c → Loses a c
loses_same (Going s) b c h k = let q : Loses Lost c = subst (λ d. Loses d c) h k in q
loses_same (GaveUp e) b c h k = let q : Loses (GaveUp e) c = subst (λ d. Loses d c) h k in q
loses_same Lost b c h k = let q : Loses Lost c = subst (λ d. Loses d c) h k in q

pub one_ends : (parts made : List Part) (pieces grown none : List Piece) (p : Piece) (a b c : Standing) → ends_text p ≡ true → none ≡ [] → Grown pieces p grown a b → MadeOrLost made (parts ++ content_of_pieces grown) b c → OnePiece (parts, pieces) p (made, none) a c
one_ends parts made pieces grown none p a b c e n (inl g) (inl m) = inl (
  (λ all h.
      subst (λ us. StandsFor (made, us) (all ++ p ∷ [])) (sym n)
      (subst (λ us. StandsFor (us, []) (all ++ p ∷ [])) (sym (m.0 ∙ ap (λ us. parts ++ content_of_pieces us) g.0)) (piece_ends parts pieces all p e h))),
  m.1 ∙ g.1,
)
one_ends parts made pieces grown none p a b c e n (inl g) (inr l) = inr (subst (λ d. Loses d c) g.1 l)
one_ends parts made pieces grown none p a b c e n (inr g) (inl m) = inr (subst (λ d. Loses a d) (sym m.1) g.1)
one_ends parts made pieces grown none p a b c e n (inr g) (inr l) = inr (loses_same a b c g.1 l)

-- the parts of what was read, and further ones
pub made_of_both : (parts further made : List Part) (pieces : List Piece) (a b c : Standing) → MadeOrLost further (content_of_pieces pieces) a b → MadeOrLost made (parts ++ further) b c → MadeOrLost made (parts ++ content_of_pieces pieces) a c
made_of_both parts further made pieces a b c (inl h) (inl k) = inl (k.0 ∙ ap (λ us. parts ++ us) h.0, k.1 ∙ h.1)
made_of_both parts further made pieces a b c (inl h) (inr l) = inr (subst (λ d. Loses d c) h.1 l)
made_of_both parts further made pieces a b c (inr l) (inl k) = inr (subst (λ d. Loses a d) (sym k.1) l)
made_of_both parts further made pieces a b c (inr l) (inr m) = inr (loses_same a b c l m)

module _ (text : List ℕ) (n : ℕ) where
  abbrev pieces_at : List Piece → ℕ → Standing → Standing → Type 0
  pieces_at ps left a here = Begun text n (at_tokens (content_pieces_of (start_of n))) (content_piece (rule (within n)) (rule (nested n))) piece_made [] ps left a here

  abbrev piece_phrase : Phrase
  piece_phrase = content_piece (rule (within n)) (rule (nested n))

  -- Pieces were read, for which these parts and pieces stand where memory sufficed.
  abbrev pub ContentSoFar : List Part × List Piece → ℕ → Standing → Standing → Type 0
  ContentSoFar read left a here = (all : List Piece) × pieces_at all left a here × (StandsFor read all ⊎ IsDone here)

  pub content_begins : (parts : List Part) (pieces : List Piece) (left : ℕ) (a : Standing) → parts ≡ [] → pieces ≡ [] → left ≡ left_of a → ContentSoFar (parts, pieces) left a a
  content_begins parts pieces left a d e f = (
    [],
    many_begin text n (at_tokens (content_pieces_of (start_of n))) piece_phrase piece_made [] left a f,
    inl (λ others. ap (λ us. us ++ content_of_pieces (pieces ++ others)) d ∙ ap (λ us. content_of_pieces (us ++ others)) e),
  )

  next_piece : (read more : List Part × List Piece) (all : List Piece) (p : Piece) (a b : Standing) → StandsFor read all ⊎ IsDone a → OnePiece read p more a b → (grown : List Piece) × Grown all p grown a b × (StandsFor more grown ⊎ IsDone b)
  next_piece read more all p a b (inl s) (inl o) = (all ++ p ∷ [], inl (refl, o.1), inl (o.0 all s))
  next_piece read more all p a b (inr d) (inl o) = (all ++ p ∷ [], inl (refl, o.1), inr (subst IsDone (sym o.1) d))
  next_piece read more all p a b s (inr l) = (all, inr (refl, l), inr (loses_done a b l))

  looks_done : (taken : Bool) (a b : Standing) → IsDone a → Looked taken a b (at_tokens (content_pieces_of (start_of n))) → IsDone b
  looks_done taken (Going s) b d h = absurd d
  looks_done taken (GaveUp e) b d h = subst IsDone (sym h) tt
  looks_done taken Lost b d h = subst IsDone (sym h) tt

  still_stands : (read : List Part × List Piece) (all : List Piece) (taken : Bool) (v : Made) (a b c : Standing) → StandsFor read all ⊎ IsDone a → Looked taken a b (at_tokens (content_pieces_of (start_of n))) → Ran v b c (read_in text n piece_phrase) → StandsFor read all ⊎ IsDone c
  still_stands read all taken v a b c (inl s) l h = inl s
  still_stands read all taken v a b c (inr d) l h = inr (stays_done v b c (read_in text n piece_phrase) (looks_done taken a b d l) h)

  pub content_more : (read more : List Part × List Piece) (p : Piece) (left less : ℕ) (taken : Bool) (a here b c d : Standing) → ContentSoFar read left a here → left ≡ suc less → taken ≡ true → Looked taken here b (at_tokens (content_pieces_of (start_of n)))
      → Ran (piece_made p) b c (read_in text n piece_phrase) → OnePiece read p more c d → ContentSoFar more less a d
  content_more read more p left less taken a here b c d r e f l h o =
      let next : (grown : List Piece) × Grown r.0 p grown c d × (StandsFor more grown ⊎ IsDone d) = next_piece read more r.0 p c d (still_stands read r.0 taken (piece_made p) here b c r.2 l h) o in (
        next.0,
        many_more text n (at_tokens (content_pieces_of (start_of n))) piece_phrase piece_made [] r.0 next.0 left less taken a here b d r.1 e f l (one_grown piece_made r.0 next.0 p b c d (read_in text n piece_phrase) h next.1),
        next.2,
      )

  abbrev pieces_phrase : Phrase
  pieces_phrase = content_pieces (rule (within n)) (rule (nested n)) (start_of n)

  abbrev content_phrase : Phrase
  content_phrase = content (rule (within n)) (rule (nested n)) (start_of n)

  -- the parts of all pieces
  all_made : (read : List Part × List Piece) (all : List Piece) (made : List Part) (a b c : Standing) → Ran (listed_before piece_made all no_item) a b (read_in text n pieces_phrase) → StandsFor read all ⊎ IsDone b → MadeOrLost made (read.0 ++ content_of_pieces read.1) b c → Ran (node (PartsAre (parts_of made))) a c (read_in text n content_phrase)
  all_made read all made a b c h (inl s) m =
      let same : read.0 ++ content_of_pieces read.1 ≡ content_of_pieces all = ap (λ us. read.0 ++ content_of_pieces us) (sym (append-nil read.1)) ∙ s [] ∙ ap content_of_pieces (append-nil all) in
      content_read text n all made a b c h (subst (λ us. MadeOrLost made us b c) same m)
  all_made read all made a b c h (inr d) (inl m) =
      subst (λ z. Ran (node (PartsAre (parts_of made))) a z (read_in text n content_phrase)) (sym m.1)
      (ran_any (node (PartsAre (parts_of (content_of_pieces all)))) (node (PartsAre (parts_of made))) a b (read_in text n content_phrase) d (content_read text n all (content_of_pieces all) a b b h (inl (refl, refl))))
  all_made read all made a b c h (inr d) (inr l) =
      ran_any (node (PartsAre (parts_of (content_of_pieces all)))) (node (PartsAre (parts_of made))) a c (read_in text n content_phrase) (loses_done b c l)
      (ran_lost (node (PartsAre (parts_of (content_of_pieces all)))) a b c (read_in text n content_phrase) (content_read text n all (content_of_pieces all) a b b h (inl (refl, refl))) l)

  -- the last piece that the text has room for
  pub content_full : (read more : List Part × List Piece) (p : Piece) (made : List Part) (left : ℕ) (taken : Bool) (a here b c d e : Standing) → ContentSoFar read left a here → left ≡ 0 → taken ≡ true → Looked taken here b (at_tokens (content_pieces_of (start_of n)))
      → Ran (piece_made p) b c (read_in text n piece_phrase) → OnePiece read p more c d → MadeOrLost made (more.0 ++ content_of_pieces more.1) d e → Ran (node (PartsAre (parts_of made))) a e (read_in text n content_phrase)
  content_full read more p made left taken a here b c d e r f i l h o m =
      let next : (grown : List Piece) × Grown r.0 p grown c d × (StandsFor more grown ⊎ IsDone d) = next_piece read more r.0 p c d (still_stands read r.0 taken (piece_made p) here b c r.2 l h) o in
      all_made more next.0 made a d e
      (contents_are text n (listed_before piece_made next.0 no_item) a d
      (all_listed text n (at_tokens (content_pieces_of (start_of n))) piece_phrase piece_made next.0 a d
      (many_full text n (at_tokens (content_pieces_of (start_of n))) piece_phrase piece_made [] r.0 next.0 left taken a here b d r.1 f i l (one_grown piece_made r.0 next.0 p b c d (read_in text n piece_phrase) h next.1))))
      next.2 m

  looked_stands : (read : List Part × List Piece) (all : List Piece) (taken : Bool) (a b : Standing) → StandsFor read all ⊎ IsDone a → Looked taken a b (at_tokens (content_pieces_of (start_of n))) → StandsFor read all ⊎ IsDone b
  looked_stands read all taken a b (inl s) l = inl s
  looked_stands read all taken a b (inr d) l = inr (looks_done taken a b d l)

  -- no further piece
  pub content_ends : (read : List Part × List Piece) (made : List Part) (left : ℕ) (taken : Bool) (a here b c : Standing) → ContentSoFar read left a here → taken ≡ false → Looked taken here b (at_tokens (content_pieces_of (start_of n))) → MadeOrLost made (read.0 ++ content_of_pieces read.1) b c
      → Ran (node (PartsAre (parts_of made))) a c (read_in text n content_phrase)
  content_ends read made left taken a here b c r e l m =
      all_made read r.0 made a b c
      (contents_are text n (listed_before piece_made r.0 no_item) a b
      (all_listed text n (at_tokens (content_pieces_of (start_of n))) piece_phrase piece_made r.0 a b (many_end text n (at_tokens (content_pieces_of (start_of n))) piece_phrase piece_made [] r.0 left taken a here b r.1 e l)))
      (looked_stands read r.0 taken here b r.2 l) m
