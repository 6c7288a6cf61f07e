use Rattle.std.proofs.Common.{List, ℕ, Option, Some, ◌≡◌, subst}
use Rattle.std.proofs.lemmas.Result.{on_ok_weaker}
use Rattle.rz_core.specs.Legal.{IsLegalInRuns}
use Rattle.rz_store.specs.Store.{StoreView, IfLegal, LooksSame, model_in, HasPut, HasPublished, HasGot}
use Rattle.rz_store.proofs.Looks.{later-then, same-then}
use Rattle.rz_store.proofs.Renewed.{repaired-same, repaired-anew, either-way, on-err-so}
use Rattle.rz_store.proofs.store.Store.repair.Goals as goal

pub returns-clause-done : goal.returns-clause-done
returns-clause-done g c =
    on_ok_weaker c.put.result
    (λ (done : IfLegal g.J.Naming.kind (HasPublished c.get.new.self c.args.path.now c.args.block c.put.new.self)) keeps.
    repaired-anew c.args.self.now c.get.new.self c.put.new.self c.args.path.now c.args.block (c.in_ok-text.ensures.same keeps) (c.in_ok-text.ensures.later keeps) (done keeps))
    c.put.ensures.published

pub returns-clause-same : goal.returns-clause-same
returns-clause-same g c = λ keeps.
    (let s : StoreView = c.args.self.now in
    let mid : StoreView = c.get.new.self in
    let new : StoreView = c.put.new.self in
    let path : List ℕ = c.args.path.now in
    let text : List ℕ = c.in-Some.text in
    let same : LooksSame s mid = c.in_ok-text.ensures.same keeps in
    let legal = subst (λ (z : StoreView). IsLegalInRuns z.volume z.log) c.self.view_is (c.stands.ensures.legal keeps) in
    let got : HasGot s path c.args.block (Some text) = subst (λ (o : Option (List ℕ)). HasGot s path c.args.block o) c.in-Some.is (c.in_ok-text.ensures.told keeps) in
    let bytes : c.bytes-bytes.result.now ≡ text = cc (c.bytes-bytes.ensures, c.text.view_is) in
    either-way c.put.result (LooksSame s new)
    (on_ok_weaker c.put.result
    (λ (done : IfLegal g.J.Naming.kind (HasPut mid path c.args.block c.bytes-bytes.result.now new)).
    repaired-same s mid new path c.args.block same text c.in_ok-text.ensures.volume (c.covered.ensures s.volume) legal got (subst (λ (l : List ℕ). HasPut mid path c.args.block l new) bytes (done keeps)))
    c.put.ensures.done)
    (on-err-so c.put.result (IfLegal g.J.Naming.kind (LooksSame mid new)) (LooksSame s new) (λ kept. same-then (model_in s) (model_in mid) (model_in new) same (kept keeps)) c.put.ensures.kept))

pub returns-clause-later : goal.returns-clause-later
returns-clause-later g c = λ keeps. later-then c.args.self.now.log c.get.new.self.log c.put.new.self.log (c.in_ok-text.ensures.later keeps) (c.put.ensures.later keeps)
