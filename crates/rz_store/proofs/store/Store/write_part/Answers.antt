use Rattle.std.proofs.Common.{ℕ, ◌≡◌, ◌/◌, ◌%◌, List, ◌∙◌, ap, subst}
use Rattle.std.proofs.lemmas.Result.{on_ok_weaker}
use Rattle.mj_angles.specs.declared.layout.Layout.{Layout}
use Rattle.mj_angles.specs.Layout.{block_bytes_of}
use Rattle.rz_core.specs.Legal.{IsLegalInRuns}
use Rattle.rz_contents.specs.Ranges.{patched}
use Rattle.rz_store.specs.Store.{StoreView, IfLegal, HasPut}
use Rattle.rz_store.proofs.Looks.{later-then}
use Rattle.rz_store.proofs.Writing.{whole-written, part-written}
use Rattle.rz_store.proofs.store.Store.write_part.Goals as goal

pub returns-then-bytes-size-clause-done : goal.returns-then-bytes-size-clause-done
returns-then-bytes-size-clause-done g c =
    let s : StoreView = c.args.self.now in
    let size = c.block_bytes-size.ensures.value ∙ ap (λ (y : Layout). block_bytes_of y) (c.layout-layout.ensures ∙ ap (λ (z : StoreView). z.volume.layout) c.self.view_is) in
    on_ok_weaker c.put.result
    (λ (done : IfLegal g.J.Naming.kind (HasPut s c.args.path.now (c.args.offset / c.block_bytes-size.result) c.args.bytes.now c.put.new.self)) keeps.
    whole-written s c.put.new.self (c.covered.ensures s.volume) (subst (λ (z : StoreView). IsLegalInRuns z.volume z.log) c.self.view_is (c.stands.ensures.legal keeps)) c.writes_patch.ensures
    c.args.path.now c.args.offset c.block_bytes-size.result c.args.bytes.now size c.requires.part c.if-bytes-size.true (done keeps))
    c.put.ensures.done

pub returns-clause-done : goal.returns-clause-done
returns-clause-done g c =
    let s : StoreView = c.args.self.now in
    let same : c.layout-layout.result ≡ s.volume.layout = c.layout-layout.ensures ∙ ap (λ (z : StoreView). z.volume.layout) c.self.view_is in
    let size = c.block_bytes-size.ensures.value ∙ ap (λ (y : Layout). block_bytes_of y) same in
    let from = c.place_in-from.ensures ∙ ap (λ (y : Layout). c.args.offset % block_bytes_of y) same in
    let whole = c.deref.ensures.value ∙ c.in_ok-whole.ensures ∙ ap (λ (l : List ℕ). patched l c.place_in-from.result c.args.bytes.now) c.bytes_in-text.ensures in
    on_ok_weaker c.put-2.result
    (λ (done : IfLegal g.J.Naming.kind (HasPut c.get.new.self c.args.path.now (c.args.offset / c.block_bytes-size.result) c.deref.result.now c.put-2.new.self)) keeps.
    part-written s c.put-2.new.self (c.covered.ensures s.volume) (subst (λ (z : StoreView). IsLegalInRuns z.volume z.log) c.self.view_is (c.stands.ensures.legal keeps)) c.writes_patch.ensures
    c.args.path.now c.args.offset c.block_bytes-size.result c.args.bytes.now size c.requires.part
    c.get.new.self c.place_in-from.result c.deref.result.now c.in_ok-text.text (c.in_ok-text.ensures.same keeps) c.in_ok-text.ensures.volume from (c.in_ok-text.ensures.told keeps) whole (done keeps))
    c.put-2.ensures.done

pub returns-clause-later : goal.returns-clause-later
returns-clause-later g c = λ keeps. later-then c.args.self.now.log c.get.new.self.log c.put-2.new.self.log (c.in_ok-text.ensures.later keeps) (c.put-2.ensures.later keeps)
