use Rattle.std.proofs.Common.{ℕ, ◌≡◌, ◌+◌, ◌*◌, ◌/◌, ◌%◌, ◌≤◌, List, ◌∙◌, length, sym, ap, subst, arith}
use Rattle.std.proofs.lemmas.Nat.{div-add-mod'}
use Rattle.mj_angles.specs.declared.layout.Layout.{Layout}
use Rattle.mj_angles.specs.Layout.{block_bytes_of}
use Rattle.rz_contents.specs.Ranges.{bytes_from}
use Rattle.rz_store.specs.Store.{StoreView, HasGot, HasPart}
use Rattle.rz_store.proofs.Reading.{part-read}
use Rattle.rz_store.proofs.store.Store.read_part.Goals as goal

pub returns-clause-gives : goal.returns-clause-gives
returns-clause-gives g c = λ keeps.
    (let s : StoreView = c.args.self.now in
    let same : c.layout-layout.result ≡ s.volume.layout = c.layout-layout.ensures ∙ ap (λ (z : StoreView). z.volume.layout) c.self.view_is in
    let size = c.block_bytes.ensures.value ∙ ap (λ (y : Layout). block_bytes_of y) same in
    let from = c.place_in.ensures ∙ ap (λ (y : Layout). c.args.offset % block_bytes_of y) same in
    let out = c.fill_from.ensures ∙ ap (λ (l : List ℕ). bytes_from l c.place_in.result (length c.args.out.now)) c.bytes_in.ensures in
    part-read c.reads_text.ensures s c.args.path.now c.args.offset c.block_bytes.result c.place_in.result (length c.args.out.now) c.in_ok-text.text size from c.requires.part
    (c.in_ok-text.ensures.told keeps) c.fill_from.new.out out)
