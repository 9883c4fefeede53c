use Rattle.std.proofs.Common.{◌≡◌, Bool, true, List, ◌+◌, drop, sym, ap, ◌∙◌, subst}
use Rattle.std.proofs.lemmas.List.{drop_all}
use Rattle.gx_tree.specs.PlainTree.{PlainTree}
use Rattle.gx_store.specs.declared.item.Item.{Item}
use Rattle.gx_build.specs.Making.{content_with, content_if, is_atom, item_content, items_content}
use Rattle.gx_build.proofs.ContentLemmas.{put_joined, put_missing}
use Rattle.gx_build.proofs.ItemLemmas.{items_begin, dropped}
use Rattle.gx_build.proofs.content.Content.push_part.Goals as goal

pub loop-item-init : goal.loop-item-init
loop-item-init c rest = items_begin c.args.self.now c.args.store.now c.args.part.now rest

pub returns-then-not-branch : goal.returns-then-not-branch
returns-then-not-branch c rest =
    let here = c.loop-item in
    let forest = c.args.store.now in
    let x = c.item-item.result in
    let found = item_content here.behind_value forest x in
    let more = items_content (is_atom x) forest (drop (here.item-index + 1) c.args.part.now) in
    put_missing here.self c.push_item.new.self found more rest (subst (λ (b : Bool). content_if b c.push_item.new.self rest ≡ content_with here.self found rest) c.if-not-branch.true (c.in_ok-push_item.ensures rest))
    ∙ ap (λ (items : List Item). content_with here.self (items_content here.behind_value forest items) rest) (sym (dropped c.args.part.now here.item-index x c.loop-item-test.true c.item-item.is))
    ∙ here.invariant rest

pub loop-item-preserved : goal.loop-item-preserved
loop-item-preserved c rest =
    let here = c.loop-item in
    let forest = c.args.store.now in
    let x = c.item-item.result in
    let left = drop (here.item-index + 1) c.args.part.now in
    let found = item_content here.behind_value forest x in
    let put : (others : List PlainTree) → content_if true c.push_item.new.self others ≡ content_with here.self found others =
    λ others. subst (λ (b : Bool). content_if b c.push_item.new.self others ≡ content_with here.self found others) c.if-not-branch.false (c.in_ok-push_item.ensures others) in
    ap (λ (b : Bool). content_with c.push_item.new.self (items_content b forest left) rest) c.is_atom-behind_value.ensures
    ∙ put_joined here.self c.push_item.new.self found (items_content (is_atom x) forest left) put rest
    ∙ ap (λ (items : List Item). content_with here.self (items_content here.behind_value forest items) rest) (sym (dropped c.args.part.now here.item-index x c.loop-item-test.true c.item-item.is))
    ∙ here.invariant rest

pub returns : goal.returns
returns c rest =
    let here = c.loop-item in
    ap (λ (items : List Item). content_with here.self (items_content here.behind_value c.args.store.now items) rest) (sym (drop_all here.item-index c.args.part.now c.loop-item-test.false))
    ∙ here.invariant rest
