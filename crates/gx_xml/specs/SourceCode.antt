-- The code of a tree as stored data, which tells trees apart.
use Rattle.std.specs.Prelude.{◌≡◌}
use Rattle.std.proofs.Common.{ap}
use Rattle.std.specs.Coded.{Coded, coded_ℕ, coded_list}
use base.Stored.{Gv, gnil, gnum, gcons}
use Rattle.gx_base.specs.declared.name.Name.{Name}
use Rattle.gx_xml.specs.declared.source.Declaration.{Declaration}
use Rattle.gx_xml.specs.declared.source.SourceAttribute.{SourceAttribute}
use Rattle.gx_xml.specs.SourceTree.{SourceTree, SourceContents, source, no_content, a_child, a_text}

abbrev head : Gv → Gv
head (gcons g h) = g
head _ = gnil

abbrev tail : Gv → Gv
tail (gcons g h) = h
tail _ = gnil

module _ (names : Coded Name) (declarations : Coded Declaration) (attributes : Coded SourceAttribute) where
  abbrev mutual
    pub store_source : SourceTree → Gv
    store_source (source name declared list cs) =
        gcons (names.code name) (gcons ((coded_list declarations).code declared) (gcons ((coded_list attributes).code list) (store_contents cs)))

    pub store_contents : SourceContents → Gv
    store_contents no_content = gnil
    store_contents (a_child t cs) = gcons (gcons (gnum 0) (store_source t)) (store_contents cs)
    store_contents (a_text x cs) = gcons (gcons (gnum 1) ((coded_list coded_ℕ).code x)) (store_contents cs)

  mutual
    pub same_source : (x y : SourceTree) → store_source x ≡ store_source y → x ≡ y
    same_source (source n d l cs) (source m e r us) q =
        let named : n ≡ m = names.inj n m (ap head q) in
        let declared : d ≡ e = (coded_list declarations).inj d e (ap (λ g. head (tail g)) q) in
        let listed : l ≡ r = (coded_list attributes).inj l r (ap (λ g. head (tail (tail g))) q) in
        let held : cs ≡ us = same_contents cs us (ap (λ g. tail (tail (tail g))) q) in
        λ i. source (named i) (declared i) (listed i) (held i)

    pub same_contents : (xs ys : SourceContents) → store_contents xs ≡ store_contents ys → xs ≡ ys
    same_contents no_content no_content e = λ i. no_content
    same_contents (a_child t cs) (a_child u us) e =
        let first : t ≡ u = same_source t u (ap (λ g. tail (head g)) e) in
        let others : cs ≡ us = same_contents cs us (ap tail e) in
        λ i. a_child (first i) (others i)
    same_contents (a_text x cs) (a_text y us) e =
        let first : x ≡ y = (coded_list coded_ℕ).inj x y (ap (λ g. tail (head g)) e) in
        let others : cs ≡ us = same_contents cs us (ap tail e) in
        λ i. a_text (first i) (others i)
    same_contents _ _ e = absurd (cc)

  abbrev pub source_code : Coded SourceTree
  source_code = record { code = store_source; inj = same_source }
