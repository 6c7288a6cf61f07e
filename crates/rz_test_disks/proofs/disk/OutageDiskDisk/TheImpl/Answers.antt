use Rattle.std.proofs.Common.{inl, ℕ, ◌+◌, ◌≤◌, List, replicate, length, refl, ap, subst}
use Rattle.std.proofs.lemmas.List.{length-replicate}
use Rattle.rz_test_disks.specs.Counted.{own_faults}
use Rattle.rz_disk.proofs.FileCalls.{on_ok, on_err, on_ok_map, on_err_map}
use Rattle.rz_test_disks.proofs.Calls.{counts_only, own_lasts, own_rose, faults_rose}
use Rattle.rz_test_disks.proofs.disk.OutageDiskDisk.TheImpl.Goals as goal

-- the text of a disk of so many bytes, of which nothing is told
abbrev zeros : ℕ → List ℕ
zeros n = replicate n 0

pub reset-tells : goal.reset-tells
reset-tells g x c =
    let old = c.args.self.now.faults in
    let new = c.new.self.now.faults in
    record {
      text = on_ok_map c.result (ap zeros) c.ensures.size;
      only = on_ok c.result (λ _ none. absurd none);
      kept = on_err_map c.result (λ same. inl (ap zeros same)) c.ensures.kept;
      crash = λ _ none. absurd none;
      fuse = refl;
      planned = refl;
      own = own_lasts c.result old new c.ensures.counted;
      risen = faults_rose c.result _ old new c.ensures.counted;
      own_risen = own_rose c.result _ old new c.ensures.counted;
    }

pub read-tells : goal.read-tells
read-tells g x c = record {
  gives = on_ok c.result (λ told. cc);
  text = ap zeros c.ensures.size;
  crash = λ _ none. none;
  kept = λ _ none. none;
  meter = counts_only c.result c.args.self.now.faults c.new.self.now.faults c.ensures.counted;
}

pub read-asks : goal.read-asks
read-asks g x c = subst (λ (n : ℕ). c.args.at + length c.args.out.now ≤ n) (length-replicate c.args.self.now.size 0) c.requires

pub write_at-tells : goal.write_at-tells
write_at-tells g x c = record {
  size = ap (λ (n : ℕ). length (zeros n)) c.ensures.size;
  written = on_ok c.result (λ told. cc);
  crash = λ _ none. absurd none;
  meter = counts_only c.result c.args.self.now.faults c.new.self.now.faults c.ensures.counted;
}

pub write_at-asks : goal.write_at-asks
write_at-asks g x c = subst (λ (n : ℕ). c.args.at + length c.args.bytes.now ≤ n) (length-replicate c.args.self.now.size 0) c.requires

pub sync-tells : goal.sync-tells
sync-tells g x c = record {
  text = ap zeros c.ensures.size;
  only = on_ok c.result (λ _ none. absurd none);
  crash = λ _ none. none;
  kept = on_err c.result (λ _ none. none);
  meter = counts_only c.result c.args.self.now.faults c.new.self.now.faults c.ensures.counted;
}

pub crash-tells : goal.crash-tells
crash-tells g x c = record {
  by_pick = ap zeros c.ensures.size;
  left = λ told. cc;
  only = λ _ none. absurd none;
  meter = ap own_faults c.ensures.faults;
}
