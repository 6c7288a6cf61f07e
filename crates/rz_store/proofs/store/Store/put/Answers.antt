use Rattle.std.proofs.Common.{List, ◌≡◌, ◌≤◌, length, refl, sym, subst}
use Rattle.std.specs.Prelude.{OnOk, OnErr, IfErr}
use Rattle.std.proofs.lemmas.Result.{err_from_is_err_and}
use Rattle.mj_angles.specs.Layout.{block_bytes_of}
use Rattle.rz_events.specs.declared.keys.Actor.TheVariants.{Client}
use Rattle.rz_events.specs.declared.operations.Datum.TheVariants as datum
use Rattle.rz_events.specs.declared.operations.Operation.{Operation}
use Rattle.rz_operation_model.specs.Ask.{ask_of}
use Rattle.rz_block_laws.specs.ActingLaws.{MayDo}
use Rattle.rz_chronicle.specs.Keys.{IsLater}
use Rattle.rz_chronicle.specs.Kinds.{volume_in}
use Rattle.rz_store_turns.specs.Performed.{HasCome}
use Rattle.rz_store.specs.Causes.{IsWriteCause}
use Rattle.rz_store.specs.Store.{StoreView, IfLegal, LooksSame, HasPut, HasPublished}
use Rattle.rz_store.proofs.Looks.{self-same, later-self, later-then}
use Rattle.rz_store.proofs.Wholes.{on-err, view, whole, same-log, log-later, come-later, quiet-later, ended-same, ended-later, at-word, before-word, ok-if, err-if, cause-if}
use Rattle.rz_store.proofs.Published.{put-published}
use Rattle.rz_store.proofs.Puts.{put-cut, put-tells, put-done, put-undone, put-cause}
use Rattle.rz_store.proofs.store.Store.put.Goals as goal

pub perform-requires : goal.perform-requires
perform-requires g c = record {
  may = subst (λ (op : Operation). MayDo (volume_in g.J.Naming.kind) (Client 1) op) (sym c.in_ok-op.ensures)
      (record {
        does_it = refl;
        takes = subst (λ (s : StoreView). length c.args.bytes.now ≤ block_bytes_of s.volume.layout) (sym c.self.view_is) c.requires.short;
        of_volume = tt;
      });
}

-- nothing was done

pub returns-in_err-op-clause-kept : goal.returns-in_err-op-clause-kept
returns-in_err-op-clause-kept g c =
    on-err c.from_residual.result (λ keeps. self-same _)

pub returns-in_err-op-clause-cause : goal.returns-in_err-op-clause-cause
returns-in_err-op-clause-cause g c = (let p = err_from_is_err_and c.from_residual.result c.from_residual.ensures.1 in rw (p.1, p.2) (λ keeps. tt))

pub returns-in_err-op-clause-later : goal.returns-in_err-op-clause-later
returns-in_err-op-clause-later g c =
    λ keeps. later-self c.args.self.now.log

pub returns-in_err-performed-clause-kept : goal.returns-in_err-performed-clause-kept
returns-in_err-performed-clause-kept g c =
    let K = g.J.Naming.kind in
    let E = g.J.Naming.earlier in
    let new = c.perform.new.self in
    on-err c.from_residual-in_err-performed.result (λ keeps. subst (λ (z : StoreView). LooksSame z (view K E new)) c.self.view_is (same-log K E c.self.inside.sole new c.in_err-performed.ensures.none))

pub returns-in_err-performed-clause-cause : goal.returns-in_err-performed-clause-cause
returns-in_err-performed-clause-cause g c = (let p = err_from_is_err_and c.from_residual-in_err-performed.result c.from_residual-in_err-performed.ensures.1 in rw (p.1, p.2) (λ keeps. tt))

pub returns-in_err-performed-clause-later : goal.returns-in_err-performed-clause-later
returns-in_err-performed-clause-later g c =
    let K = g.J.Naming.kind in
    let E = g.J.Naming.earlier in
    let new = c.perform.new.self in
    λ keeps. subst (λ (z : StoreView). IsLater z.log (whole K E new)) c.self.view_is (log-later K E c.self.inside.sole new c.in_err-performed.ensures.none)

-- it was stopped

pub returns-in-Some-clause-kept : goal.returns-in-Some-clause-kept
returns-in-Some-clause-kept g c = λ keeps.
    (let K = g.J.Naming.kind in
    let E = g.J.Naming.earlier in
    let old = c.self.inside.sole in
    let new = c.perform.new.self in
    let m = c.in_ok-performed.performed.machine in
    let come = subst (λ (op : Operation). HasCome K E op old new m.work) c.in_ok-op.ensures c.in_ok-performed.ensures.came in
    let quiet = before-word c.in_ok-performed.performed.stopped c.in-Some.why (ask_of m.layout m.work) c.in-Some.is c.in_ok-performed.ensures.word in
    subst (λ (z : StoreView). LooksSame z (view K E c.end.new.self)) c.self.view_is
    (ended-same K E old new c.end.new.self c.end.ensures.pass
    (put-cut K E c.args.path.now c.args.bytes.now c.args.block (c.leads_to_block.ensures (volume_in K)) (c.put_watched.ensures (volume_in K)) old new m come c.in_ok-performed.ensures.hand keeps quiet)))

pub returns-in-Some-clause-later : goal.returns-in-Some-clause-later
returns-in-Some-clause-later g c = λ keeps.
    (let K = g.J.Naming.kind in
    let E = g.J.Naming.earlier in
    let old = c.self.inside.sole in
    let new = c.perform.new.self in
    subst (λ (z : StoreView). IsLater z.log (whole K E c.end.new.self)) c.self.view_is
    (ended-later K E old new c.end.new.self c.end.ensures.pass (come-later K E c.in_ok-op.op old new c.in_ok-performed.performed.machine.work c.in_ok-performed.ensures.came)))

-- it said its word

pub conclude-said-requires-clause-word : goal.conclude-said-requires-clause-word
conclude-said-requires-clause-word g c =
    let m = c.in_ok-performed.performed.machine in
    at-word c.in_ok-performed.performed.stopped (ask_of m.layout m.work) c.in_default.not-Some c.in_ok-performed.ensures.word

pub returns-clause-done : goal.returns-clause-done
returns-clause-done g c =
    let K = g.J.Naming.kind in
    let E = g.J.Naming.earlier in
    let old = c.self.inside.sole in
    let new = c.perform.new.self in
    let last = c.conclude-said.new.self in
    let m = c.in_ok-performed.performed.machine in
    let path = c.args.path.now in
    let bytes = c.args.bytes.now in
    let come = subst (λ (op : Operation). HasCome K E op old new m.work) c.in_ok-op.ensures c.in_ok-performed.ensures.came in
    let word = at-word c.in_ok-performed.performed.stopped (ask_of m.layout m.work) c.in_default.not-Some c.in_ok-performed.ensures.word in
    let told = c.put_told-told.result in
    subst (λ (z : StoreView). OnOk told (IfLegal K (HasPut z path c.args.block bytes (view K E last)))) c.self.view_is
    (ok-if told (HasPut (view K E old) path c.args.block bytes (view K E last)) (λ keeps.
    put-done (volume_in K) (whole K E old) (whole K E last) bytes path c.args.block told
    (put-tells K E path bytes c.args.block (c.leads_to_block.ensures (volume_in K)) (c.put_watched.ensures (volume_in K)) old new m come c.in_ok-performed.ensures.hand keeps
    (c.puts_caused.ensures (volume_in K)) (c.still.ensures (volume_in K)) last word c.conclude-said.ensures.quiet told c.put_told-told.ensures)))

pub returns-clause-kept : goal.returns-clause-kept
returns-clause-kept g c =
    let K = g.J.Naming.kind in
    let E = g.J.Naming.earlier in
    let old = c.self.inside.sole in
    let new = c.perform.new.self in
    let last = c.conclude-said.new.self in
    let m = c.in_ok-performed.performed.machine in
    let path = c.args.path.now in
    let bytes = c.args.bytes.now in
    let come = subst (λ (op : Operation). HasCome K E op old new m.work) c.in_ok-op.ensures c.in_ok-performed.ensures.came in
    let word = at-word c.in_ok-performed.performed.stopped (ask_of m.layout m.work) c.in_default.not-Some c.in_ok-performed.ensures.word in
    let told = c.put_told-told.result in
    subst (λ (z : StoreView). OnErr told (IfLegal K (LooksSame z (view K E last)))) c.self.view_is
    (err-if told (LooksSame (view K E old) (view K E last)) (λ keeps.
    put-undone (volume_in K) (whole K E old) (whole K E last) bytes path c.args.block told
    (put-tells K E path bytes c.args.block (c.leads_to_block.ensures (volume_in K)) (c.put_watched.ensures (volume_in K)) old new m come c.in_ok-performed.ensures.hand keeps
    (c.puts_caused.ensures (volume_in K)) (c.still.ensures (volume_in K)) last word c.conclude-said.ensures.quiet told c.put_told-told.ensures)))

pub returns-clause-cause : goal.returns-clause-cause
returns-clause-cause g c =
    let K = g.J.Naming.kind in
    let E = g.J.Naming.earlier in
    let old = c.self.inside.sole in
    let new = c.perform.new.self in
    let last = c.conclude-said.new.self in
    let m = c.in_ok-performed.performed.machine in
    let path = c.args.path.now in
    let bytes = c.args.bytes.now in
    let come = subst (λ (op : Operation). HasCome K E op old new m.work) c.in_ok-op.ensures c.in_ok-performed.ensures.came in
    let word = at-word c.in_ok-performed.performed.stopped (ask_of m.layout m.work) c.in_default.not-Some c.in_ok-performed.ensures.word in
    let told = c.put_told-told.result in
    subst (λ (z : StoreView). IfErr told (λ f. IfLegal K (IsWriteCause z path c.args.block f))) c.self.view_is
    (cause-if told (IsWriteCause (view K E old) path c.args.block) (λ keeps.
    put-cause (volume_in K) (whole K E old) (whole K E last) bytes path c.args.block told
    (put-tells K E path bytes c.args.block (c.leads_to_block.ensures (volume_in K)) (c.put_watched.ensures (volume_in K)) old new m come c.in_ok-performed.ensures.hand keeps
    (c.puts_caused.ensures (volume_in K)) (c.still.ensures (volume_in K)) last word c.conclude-said.ensures.quiet told c.put_told-told.ensures)))

pub returns-clause-later : goal.returns-clause-later
returns-clause-later g c = λ keeps.
    (let K = g.J.Naming.kind in
    let E = g.J.Naming.earlier in
    let old = c.self.inside.sole in
    let new = c.perform.new.self in
    let last = c.conclude-said.new.self in
    subst (λ (z : StoreView). IsLater z.log (whole K E last)) c.self.view_is
    (later-then (whole K E old) (whole K E new) (whole K E last) (come-later K E c.in_ok-op.op old new c.in_ok-performed.performed.machine.work c.in_ok-performed.ensures.came)
    (quiet-later K E new last c.conclude-said.ensures.quiet keeps)))

pub returns-clause-published : goal.returns-clause-published
returns-clause-published g c =
    let K = g.J.Naming.kind in
    let E = g.J.Naming.earlier in
    let old = c.self.inside.sole in
    let new = c.perform.new.self in
    let last = c.conclude-said.new.self in
    let m = c.in_ok-performed.performed.machine in
    let path = c.args.path.now in
    let bytes = c.args.bytes.now in
    let come = subst (λ (op : Operation). HasCome K E op old new m.work) c.in_ok-op.ensures c.in_ok-performed.ensures.came in
    let told = c.put_told-told.result in
    subst (λ (z : StoreView). OnOk told (IfLegal K (HasPublished z path c.args.block (view K E last)))) c.self.view_is
    (ok-if told (HasPublished (view K E old) path c.args.block (view K E last)) (λ keeps.
    put-published K E path bytes c.args.block (c.leads_to_block.ensures (volume_in K)) old new last m come c.in_ok-performed.ensures.hand keeps
    c.conclude-said.ensures.quiet told c.put_told-told.ensures))
