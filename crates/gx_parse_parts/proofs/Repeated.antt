-- How items are read as long as a guard takes them.
use Rattle.std.proofs.Common.{◌≡◌, ℕ, zero, suc, Bool, true, false, List, [], ◌∷◌, ◌++◌, inl, inr, refl, sym, ap, subst, ◌∙◌, append_assoc, append-nil}
use Rattle.gx_grammar.specs.Grammar.{Guard, many}
use Rattle.gx_grammar.specs.Value.{nothing, no_item, an_item}
use Rattle.gx_grammar.specs.Ran.{Standing, Going, GaveUp, Lost, Ran, Looked, left_of}
use Rattle.gx_grammar.proofs.PublicLaws.{ran_full, ran_item, ran_none}
use Rattle.gx_parse_grammar.specs.Nodes.{Made}
use Rattle.gx_parse_grammar.specs.Basics.{Phrase}
use Rattle.gx_parse_tokens.specs.Reading.{read_in}
use Rattle.gx_parse_tokens.specs.Reading.{Added}
use Rattle.gx_parse_parts.specs.Lists.{OneMore}
use Rattle.gx_parse_parts.specs.Repeated.{listed_before, read_many, Listing}
use Rattle.gx_parse_parts.proofs.Chains.{ran_any}
use Rattle.gx_parse_parts.proofs.Phrases.{stays_done}

module _ (text : List ℕ) (n : ℕ) (g : Guard) (item : Phrase) where
  many_are : (v : Made) (a b : Standing) → Ran v a b (read_many text n g item (suc (left_of a))) → Ran v a b (read_in text n (many g item))
  unfolding read_many read_in
  many_are v (Going s) (Going t) h = h
  many_are v (Going s) (GaveUp e) h = h
  many_are v (Going s) Lost h = h
  many_are v (GaveUp e) b h = h
  many_are v Lost b h = h

  none_left : (left : ℕ) (taken : Bool) (a b : Standing) → taken ≡ false → Looked taken a b g → Ran no_item a b (read_many text n g item (suc left))
  unfolding read_many
  none_left left taken a b e h = ran_none g (λ t. read_in text n item t) left taken a b e h

  one_item : (v w : Made) (left : ℕ) (taken : Bool) (a b d e : Standing) → taken ≡ true → Looked taken a b g → Ran v b d (read_in text n item) → Ran w d e (read_many text n g item left) → Ran (an_item v w) a e (read_many text n g item (suc left))
  unfolding read_many
  one_item v w left taken a b d e f h k m = ran_item g (λ t. read_in text n item t) left v w taken a b d e f h k m

  no_items : (a : Standing) → Ran no_item a a (read_many text n g item zero)
  unfolding read_many
  no_items a = ran_full g (λ t. read_in text n item t) a

  module _ {A : Type 0} (value : A → Made) where
    listed_join : (xs ys : List A) (w : Made) → listed_before value (xs ++ ys) w ≡ listed_before value xs (listed_before value ys w)
    listed_join [] ys w = refl
    listed_join (x ∷ xs) ys w = ap (an_item (value x)) (listed_join xs ys w)

    abbrev pub Begun : List A → List A → ℕ → Standing → Standing → Type 0
    Begun first list left a here = Listing value first list a here (read_many text n g item (suc (left_of a))) (read_many text n g item (suc left))

    abbrev pub Ended : List A → List A → Standing → Standing → Type 0
    Ended first list a z = Added first list (λ others. Ran (listed_before value others no_item) a z (read_in text n (many g item)))

    pub many_begin : (list : List A) (left : ℕ) (a : Standing) → left ≡ left_of a → Begun list list left a a
    many_begin list left a e = record { others = []; is = sym (append-nil list); holds = λ w z h. subst (λ k. Ran w a z (read_many text n g item (suc k))) e h }

    -- no further item
    pub many_end : (first list : List A) (left : ℕ) (taken : Bool) (a here z : Standing) → Begun first list left a here → taken ≡ false → Looked taken here z g → Ended first list a z
    many_end first list left taken a here z b e h = record { others = b.others; is = b.is; holds = many_are (listed_before value b.others no_item) a z (b.holds no_item z (none_left left taken here z e h)) }

    -- one more item, in front of at most so many
    further : (first list grown : List A) (left more : ℕ) (taken : Bool) (a here b d : Standing) → Begun first list left a here → left ≡ more → taken ≡ true → Looked taken here b g → OneMore value list grown b d (read_in text n item)
        → Added first grown (λ others. (w : Made) (z : Standing) → Ran w d z (read_many text n g item more) → Ran (listed_before value others w) a z (read_many text n g item (suc (left_of a))))
    further first list grown left more taken a here b d l k e h (inl m) = record {
      others = l.others ++ m.0 ∷ [];
      is = m.1 ∙ ap (λ us. us ++ m.0 ∷ []) l.is ∙ append_assoc first l.others (m.0 ∷ []);
      holds = λ w z r.
          subst (λ v. Ran v a z (read_many text n g item (suc (left_of a)))) (sym (listed_join l.others (m.0 ∷ []) w))
          (l.holds (an_item (value m.0) w) z (subst (λ j. Ran (an_item (value m.0) w) here z (read_many text n g item (suc j))) (sym k) (one_item (value m.0) w more taken here b d z e h m.2 r)));
    }
    further first list grown left more taken a here b d l k e h (inr m) = record {
      others = l.others;
      is = m.0 ∙ l.is;
      holds = λ w z r.
          l.holds w z
          (ran_any (an_item nothing w) w here z (read_many text n g item (suc left)) (stays_done w d z (read_many text n g item more) m.1 r)
          (subst (λ j. Ran (an_item nothing w) here z (read_many text n g item (suc j))) (sym k) (one_item nothing w more taken here b d z e h (m.2 nothing) r)));
    }

    pub many_more : (first list grown : List A) (left less : ℕ) (taken : Bool) (a here b d : Standing) → Begun first list left a here → left ≡ suc less → taken ≡ true → Looked taken here b g → OneMore value list grown b d (read_in text n item) → Begun first grown less a d
    many_more first list grown left less taken a here b d l k e h m = further first list grown left (suc less) taken a here b d l k e h m

    -- the last item that the text has room for
    pub many_full : (first list grown : List A) (left : ℕ) (taken : Bool) (a here b d : Standing) → Begun first list left a here → left ≡ 0 → taken ≡ true → Looked taken here b g → OneMore value list grown b d (read_in text n item) → Ended first grown a d
    many_full first list grown left taken a here b d l k e h m =
        let f = further first list grown left 0 taken a here b d l k e h m in
        record { others = f.others; is = f.is; holds = many_are (listed_before value f.others no_item) a d (f.holds no_item d (no_items d)) }

    -- from the empty list
    pub all_listed : (list : List A) (a z : Standing) → Ended [] list a z → Ran (listed_before value list no_item) a z (read_in text n (many g item))
    all_listed list a z m = subst (λ us. Ran (listed_before value us no_item) a z (read_in text n (many g item))) (sym m.is) m.holds
