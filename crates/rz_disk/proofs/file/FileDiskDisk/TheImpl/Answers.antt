use Rattle.std.proofs.Common.{◌≡◌, inl, inr, ⊎_elim, ℕ, ◌+◌, ◌≤◌, List, replicate, length, refl, ap, subst}
use Rattle.std.proofs.lemmas.List.{length-replicate}
use Rattle.rz_disk.specs.OverFile.{OverFile, file_meter}
use Rattle.rz_disk.proofs.FileCalls.{on_ok, on_err, on_ok_map, on_err_map, counts_only, counts_change, own_lasts, own_rose, faults_rose}
use Rattle.rz_disk.proofs.file.FileDiskDisk.TheImpl.Goals as goal

pub reset-tells : goal.reset-tells
reset-tells g x c =
    let old = c.args.self.now in
    let new = c.new.self.now in
    let zeros : ℕ → List ℕ = λ n. replicate n 0 in
    record {
      text = on_ok_map c.result (ap zeros) c.ensures.size;
      only = on_ok c.result (λ _ none. absurd none);
      kept = on_err_map c.result
          (⊎_elim
          (λ (same : new.size ≡ old.size). inl (ap zeros same))
          (λ (made : new.size ≡ c.args.size). inr (ap zeros made)))
          c.ensures.kept;
      crash = λ _ none. absurd none;
      fuse = refl;
      planned = refl;
      own = own_lasts c.result old new c.ensures.counted;
      risen = faults_rose c.result _ old new c.ensures.counted;
      own_risen = own_rose c.result _ old new c.ensures.counted;
    }

pub read-tells : goal.read-tells
read-tells g x c = record {
  gives = on_ok c.result (λ told. cc);
  text = ap (λ (d : OverFile). replicate d.size 0) c.ensures.counted;
  crash = λ _ none. none;
  kept = λ _ none. none;
  meter = counts_only c.result c.args.self.now c.new.self.now c.ensures.counted;
}

pub read-asks : goal.read-asks
read-asks g x c = subst (λ (n : ℕ). c.args.at + length c.args.out.now ≤ n) (length-replicate c.args.self.now.size 0) c.requires

pub write_at-tells : goal.write_at-tells
write_at-tells g x c = record {
  size = ap (λ (d : OverFile). length (replicate d.size 0)) c.ensures.counted;
  written = on_ok c.result (λ told. cc);
  crash = λ _ none. absurd none;
  meter = counts_change c.result c.args.self.now c.new.self.now c.ensures.counted;
}

pub write_at-asks : goal.write_at-asks
write_at-asks g x c = subst (λ (n : ℕ). c.args.at + length c.args.bytes.now ≤ n) (length-replicate c.args.self.now.size 0) c.requires

pub sync-tells : goal.sync-tells
sync-tells g x c = record {
  text = ap (λ (d : OverFile). replicate d.size 0) c.ensures.counted;
  only = on_ok c.result (λ _ none. absurd none);
  crash = λ _ none. none;
  kept = on_err c.result (λ _ none. none);
  meter = counts_change c.result c.args.self.now c.new.self.now c.ensures.counted;
}

pub crash-tells : goal.crash-tells
crash-tells g x c = record {
  by_pick = ap (λ (d : OverFile). replicate d.size 0) c.ensures;
  left = λ told. cc;
  only = λ _ none. absurd none;
  meter = ap file_meter c.ensures;
}
