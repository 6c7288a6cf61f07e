-- The heads of a pair are of one key, and their stamps differ.
use Rattle.std.proofs.Common.{Option, Some, refl, sym, ◌∙◌, ap, subst}
use Rattle.rz_node_model.specs.Records.{record_of}
use Rattle.rz_versions.specs.declared.versions.Version.{Version}
use Rattle.rz_versions.specs.Sides.{Sides, Differ}
use Rattle.rz_versions.specs.Sides as sides
use Rattle.rz_index.specs.declared.index.Entry.{Entry}
use Rattle.rz_node.proofs.Changes.{some-left}
use Rattle.rz_node.proofs.Firsts.{shown-pair, pair-key, pair-stamps, some-key}
use Rattle.rz_node.proofs.rows.entry_of.Goals as goal

pub with-versions-requires-clause-other : goal.with-versions-requires-clause-other
with-versions-requires-clause-other g c =
    let n = c.args.cells.now in
    let zero = ap (λ (s : Sides Version). s.zero) c.with.ensures in
    subst (λ (o : Option Version). Differ sides.version_stamp o (Some c.version-in-Some-Some.result)) (sym zero) (λ same.
    pair-stamps n.heads c.args.pair c.in-Some-Some.zero c.in-Some-Some.one c.requires.apart (sym c.in-Some-Some.ensures) (sym c.in-Some-Some.ensures')
    (sym (ap (λ (v : Version). v.stamp) c.version.ensures) ∙ same ∙ ap (λ (v : Version). v.stamp) c.version-in-Some-Some.ensures))

pub returns-in-Some-Some : goal.returns-in-Some-Some
returns-in-Some-Some g c =
    let n = c.args.cells.now in
    let h = c.in-Some-Some.zero in
    let k = c.in-Some-Some.one in
    let e : Entry = record { key = h.key; cell = c.args.pair; versions = c.with-versions.result } in
    let zero = ap (λ (s : Sides Version). s.zero) c.with-versions.ensures ∙ ap (λ (s : Sides Version). s.zero) c.with.ensures ∙ ap (λ (v : Version). Some v) c.version.ensures in
    let one = ap (λ (s : Sides Version). s.one) c.with-versions.ensures ∙ ap (λ (v : Version). Some v) c.version-in-Some-Some.ensures in (
      shown-pair n.geometry.cells n.heads c.args.pair c.requires.pair e refl (Some h) (Some k) (sym c.in-Some-Some.ensures) (sym c.in-Some-Some.ensures')
          (λ i. record { zero = zero i; one = one i }) (λ x is. some-key h x is)
          (λ x is. some-key k x is ∙ pair-key n.heads c.args.pair h k c.requires.apart (sym c.in-Some-Some.ensures) (sym c.in-Some-Some.ensures'))
          (some-left (record_of h) (Some (record_of k))),
      refl,
    )
