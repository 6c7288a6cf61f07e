use Rattle.std.proofs.Common.{◌≡◌, true, sym, ◌∙◌, subst, Result, Ok, Err}
use Rattle.std.specs.Prelude.{is_ok, OnOk}
use Rattle.std.proofs.lemmas.Bool.{false≢true}
use Rattle.mj_angles.specs.declared.layout.Layout.{Layout}
use Rattle.mj_inverse.specs.Fits.{Search, IsFound}
use Rattle.rz_scrub.specs.Records.{Records}
use Rattle.rz_scrub.specs.Misfits.{IsBlock}
use Rattle.rz_scrub.proofs.Choosing.{fits-found}
use Rattle.rz_scrub.proofs.solver.Solver.solve.Goals as goal

on_ok : {A E : Type 0} (r : Result A E) (P : Type 0) → is_ok r ≡ true → OnOk r P → P
on_ok (Ok x) P e h = h
on_ok (Err x) P e h = absurd (false≢true e)

pub returns-clause-only : goal.returns-clause-only
returns-clause-only c g block fits =
    let s : Records = c.args.records.now in
    let sized : IsBlock s.layout g = subst (λ (y : Layout). IsBlock y g) c.requires.layout block in
    let found : IsFound c.add_all.new.work g = subst (λ (w : Search). IsFound w g) (sym c.add_all.ensures) (fits-found s g c.args.chosen.now sized fits) in
    let ok : is_ok c.solve.result ≡ true = c.solve.ensures.exact.1 (g, found) in
    (c.is_ok.ensures.value ∙ ok, on_ok c.solve.result _ ok c.solve.ensures.only g found)
