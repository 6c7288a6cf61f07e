-- A file that is gone stays gone.
use Rattle.std.proofs.Common.{ℕ, true, false, not, ◌==◌, ◌≡◌, List, Some, None, refl, sym, ◌∙◌, ap, subst, arith, true≢false}
use Rattle.std.proofs.lemmas.Bool.{eqb-true, and_parts, false_from_ne_true}
use Rattle.rz_events.specs.Volume.{Volume}
use Rattle.rz_events.specs.declared.events.Event.{Event}
use Rattle.rz_events.specs.declared.events.Event.TheVariants as e
use Rattle.rz_export_model.specs.Export.{new_places}
use Rattle.rz_core.specs.History.{facts}
use Rattle.rz_export_model.specs.Files.{makes}
use Rattle.rz_core.specs.ExportWord.{is_made, is_gone, is_live, export_of}
use Rattle.rz_core.proofs.Stamps.{export}
use Rattle.rz_core.proofs.EnrollLaws.{export-rows}
use Rattle.rz_core.proofs.NameTies.{names-tied}
use Rattle.rz_export_model.proofs.Files.{step}
use Rattle.rz_contents.specs.Removing.{StaysGone}

-- what the export tells of live files alone, it tells of no file that is gone
other : (w : List Event) (fid at : ℕ) → is_live w at ≡ true → is_gone w fid ≡ true → (at == fid) ≡ false
other w fid at live gone = false_from_ne_true (at == fid) (λ same.
    let here : is_gone w at ≡ true = subst (λ n. is_gone w n ≡ true) (sym (eqb-true at fid same)) gone in
    let off = (and_parts (is_made w at) (not (is_gone w at)) live).1 in
    let no : false ≡ true = sym (ap not here) ∙ off in
    true≢false (sym no))

pub removed : (v : Volume) → StaysGone v
removed v (e.Meta by call reply) h fid legal gone = false_from_ne_true (makes reply fid) (λ made.
    let s = export_of v (facts h) (export h) in
    let n = names-tied v (facts h) (export h) (export-rows v h legal.0) in
    let so = step s.tree (new_places s).cid (new_places s).places call n.blank in
    let up = (so.new fid (subst (λ r. makes r fid ≡ true) legal.1.row.told made)).0 in
    let low = n.gone_low fid gone in
    omega (arith, up, low))
removed v (e.Begin by key stamp base text) h fid legal gone = other (export h) fid key.fid legal.1.row.live gone
removed v (e.Publish by key stamp mask None) h fid legal gone = other (export h) fid key.fid legal.1.row.publishable.live gone
removed v (e.Publish by key stamp mask (Some refused)) h fid legal gone = other (export h) fid key.fid legal.1.row.publishable.live gone
removed v (e.Revoked by key stamp later) h fid legal gone = other (export h) fid key.fid legal.1.row.live gone
removed v (e.Look by key answer) h fid legal gone = other (export h) fid key.fid legal.1.row.live gone
removed v (e.Recheck by key answer) h fid legal gone = other (export h) fid key.fid legal.1.row.live gone
removed v (e.Next by node after (Some l)) h fid legal gone = other (export h) fid l.key.fid legal.1.row.listed.live gone
removed v x h fid legal gone = refl
