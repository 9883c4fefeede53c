use Rattle.std.proofs.Common.{◌≡◌, Bool, true, List, [], ◌+◌, drop, Some, sym, ap, ◌∙◌, subst}
use Rattle.std.specs.Global.{Global}
use Rattle.std.specs.Prelude.{Vec}
use Rattle.std.proofs.lemmas.List.{drop_all}
use Rattle.gx_tree.specs.PlainTree.{PlainTree}
use Rattle.gx_store.specs.declared.item.Item.{Item}
use Rattle.gx_store.specs.Items.{items_in}
use Rattle.gx_core.specs.Constructing.{content_after, content_of_parts}
use Rattle.gx_build.specs.Making.{content_with, content_if}
use Rattle.gx_build.specs.Parts.{parts_in}
use Rattle.gx_build.proofs.ContentLemmas.{put_joined, put_missing, nothing_done, with_nothing}
use Rattle.gx_build.proofs.ItemLemmas.{dropped}
use Rattle.gx_build.proofs.content.content_of.Goals as goal

pub loop-part-init : goal.loop-part-init
loop-part-init c rest = nothing_done c.new-content.result (content_of_parts c.args.store.now (parts_in c.args.store.now c.args.parts.now)) c.new-content.ensures rest

pub returns-then-not-branch : goal.returns-then-not-branch
returns-then-not-branch c =
    let here = c.loop-part in
    let forest = c.args.store.now in
    let x = c.part-item.result in
    let found = content_after forest [] (items_in forest x.items) in
    let more = content_of_parts forest (parts_in forest (drop (here.part-index + 1) c.args.parts.now)) in
    let put : content_if c.in_ok-push_part.field-0 c.push_part.new.self [] ≡ content_with here.content found [] =
    c.in_ok-push_part.ensures [] ∙ ap (λ (items : List Item). content_with here.content (content_after forest [] (items_in forest items)) []) c.as_slice.ensures.value in
    put_missing here.content c.push_part.new.self found more [] (subst (λ (b : Bool). content_if b c.push_part.new.self [] ≡ content_with here.content found []) c.if-not-branch.true put)
    ∙ ap (λ (parts : List (Vec Item Global)). content_with here.content (content_of_parts forest (parts_in forest parts)) []) (sym (dropped c.args.parts.now here.part-index x c.loop-part-test.true c.part-item.is))
    ∙ here.invariant []
    ∙ with_nothing (content_of_parts forest (parts_in forest c.args.parts.now))

pub loop-part-preserved : goal.loop-part-preserved
loop-part-preserved c rest =
    let here = c.loop-part in
    let forest = c.args.store.now in
    let x = c.part-item.result in
    let found = content_after forest [] (items_in forest x.items) in
    let more = content_of_parts forest (parts_in forest (drop (here.part-index + 1) c.args.parts.now)) in
    let put : (others : List PlainTree) → content_if true c.push_part.new.self others ≡ content_with here.content found others =
    λ others. subst (λ (b : Bool). content_if b c.push_part.new.self others ≡ content_with here.content found others) c.if-not-branch.false
    (c.in_ok-push_part.ensures others ∙ ap (λ (items : List Item). content_with here.content (content_after forest [] (items_in forest items)) others) c.as_slice.ensures.value) in
    put_joined here.content c.push_part.new.self found more put rest
    ∙ ap (λ (parts : List (Vec Item Global)). content_with here.content (content_of_parts forest (parts_in forest parts)) rest) (sym (dropped c.args.parts.now here.part-index x c.loop-part-test.true c.part-item.is))
    ∙ here.invariant rest

pub returns : goal.returns
returns c =
    let here = c.loop-part in
    let forest = c.args.store.now in
    ap (λ (ts : List PlainTree). Some ts) c.in_ok-finish.ensures
    ∙ ap (λ (parts : List (Vec Item Global)). content_with here.content (content_of_parts forest (parts_in forest parts)) []) (sym (drop_all here.part-index c.args.parts.now c.loop-part-test.false))
    ∙ here.invariant []
    ∙ with_nothing (content_of_parts forest (parts_in forest c.args.parts.now))
